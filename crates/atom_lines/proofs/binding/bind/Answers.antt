use Rattle.std.proofs.Common.{◌≡◌, ◌∷◌, [], ◌++◌, ◌∙◌, ap, sym, subst, length, take, true, not, arith}
use Rattle.std.specs.Prelude.{is_ok, All}
use Rattle.std.proofs.lemmas.List.{take_all}
use Rattle.std.proofs.lemmas.List.Elements.{All-push}
use Rattle.rational.proofs.Lists.{take_on}
use Rattle.stl_syntax.specs.Binding.{HasColumns}
use Rattle.atom_lines.specs.Binding.{IsBound}
use Rattle.atom_lines.specs.Faults.{AreNodeBindings}
use Rattle.atom_lines.specs.Sums.{IsNodeSound}
use Rattle.atom_lines.proofs.BindingLemmas.{fault_of, nodes_more, bound_of}
use Rattle.atom_lines.proofs.binding.bind.Goals as goal

pub returns-in-Err-clause-err : goal.returns-in-Err-clause-err
returns-in-Err-clause-err c = fault_of c.args.header.now.columns c.args.formula.now c.loop-i.i c.node.result.now c.in-Err.fault
    c.node.ensures.node c.loop-i.invariant.named c.in-Err.ensures.err

pub loop-i-preserved : goal.loop-i-preserved
loop-i-preserved c =
    let done : is_ok c.push.result ≡ true = c.is_err.ensures.negation ∙ ap not c.if-is_err.false in
    let items : c.push.new.self.items ≡ c.loop-i.atoms.items ++ c.in-Ok.atom ∷ [] = rw done at c.push.ensures.items in
    let more = take_on c.args.formula.now.nodes c.loop-i.i c.node.result.now c.node.ensures.node in
    record {
      bindings = subst (AreNodeBindings c.args.header.now.columns c.args.formula.now.nodes _) (sym items)
          (nodes_more c.args.header.now.columns c.args.formula.now.nodes c.loop-i.i c.loop-i.atoms.items c.node.result.now
          c.in-Ok.atom c.loop-i.invariant.bindings c.node.ensures.node c.in-Ok.ensures.ok);
      sound = subst (All (IsNodeSound (length c.args.header.now.columns))) (sym items)
          (All-push (IsNodeSound (length c.args.header.now.columns)) c.loop-i.atoms.items c.in-Ok.atom c.loop-i.invariant.sound c.in-Ok.ensures.sound);
      named = subst (All (HasColumns c.args.header.now.columns)) (sym more) (All-push (HasColumns c.args.header.now.columns)
          (take c.loop-i.i c.args.formula.now.nodes) c.node.result.now c.loop-i.invariant.named c.in-Ok.ensures.named);
    }

pub returns-clause-ok : goal.returns-clause-ok
returns-clause-ok c =
    let count : length c.args.formula.now.nodes ≡ c.loop-i.i =
    let a = c.len-i-end.ensures.count in let b = c.loop-i-test.false in let d = c.loop-i.auto.i-end in omega arith in
    subst (λ b. IsBound b c.args.formula.now c.args.header.now) (sym c.of.ensures)
    (bound_of c.args.formula.now c.args.header.now c.columns.result c.loop-i.atoms.items c.loop-i.i c.columns.ensures count c.loop-i.invariant.bindings)

pub returns-clause-named : goal.returns-clause-named
returns-clause-named c =
    let whole : take c.loop-i.i c.args.formula.now.nodes ≡ c.args.formula.now.nodes =
    take_all c.loop-i.i c.args.formula.now.nodes (let a = c.len-i-end.ensures.count in let b = c.loop-i-test.false in omega arith) in
    subst (All (HasColumns c.args.header.now.columns)) whole c.loop-i.invariant.named
