use Rattle.std.proofs.Common.{rules, ◌≡◌, ◌+◌, ◌∷◌, [], ◌++◌, ◌∙◌, ap, sym, subst, length, take, get_or, nat_abs, ◌≤◌, true, not, to_z, of_z, w32, arith}
use Rattle.std.specs.Prelude.{is_ok, All}
use Rattle.std.proofs.lemmas.Int.{to_z-of_z}
use Rattle.std.proofs.lemmas.List.{take_all}
use Rattle.std.proofs.lemmas.List.Elements.{All-push}
use Rattle.rational.proofs.Lists.{take_on}
use Rattle.stl_syntax.specs.Trace.{Column}
use Rattle.stl_syntax.specs.Binding.{HasColumn}
use Rattle.atom_lines.specs.declared.bound_atom.BoundTerm.{BoundTerm}
use Rattle.atom_lines.specs.Binding.{IsColumn, AreTermBindings}
use Rattle.atom_lines.specs.Sums.{IsTermSound}
use Rattle.atom_lines.proofs.BindingLemmas.{within, among, bindings_more, bindings_length}
use Rattle.atom_lines.proofs.binding.bind_atom.Goals as goal

pub step-requires : goal.step-requires
step-requires c = within c.args.header.now.columns c.as_str.result.now c.in-Some.column _ (c.in-Some.ensures (record { name = []; step = true }))

pub loop-i-preserved : goal.loop-i-preserved
loop-i-preserved c =
    let columns = c.args.header.now.columns in
    let t = c.term-term.result.now in
    let done : is_ok c.push.result ≡ true = c.is_err.ensures.negation ∙ ap not c.if-is_err.false in
    let bound : BoundTerm = record { coef = to_z w32 (of_z w32 c.coef.result); column = c.in-Some.column; step = c.step.result } in
    let items : c.push.new.self.items ≡ c.loop-i.terms.items ++ bound ∷ [] = rw done at c.push.ensures.items in
    let more = take_on c.args.atom.now.terms c.loop-i.i t c.term-term.ensures in
    let coef : to_z w32 (of_z w32 c.coef.result) ≡ t.coef = search (rules, to_z-of_z) in
    let limits = c.coef.ensures.limits in
    let some : Column = record { name = []; step = true } in
    let column : IsColumn columns t.name c.in-Some.column c.step.result =
    rw (c.step.ensures some) (subst (λ n. IsColumn columns n c.in-Some.column (get_or columns c.in-Some.column some).step)
    (c.as_str.ensures ∙ c.name.ensures) (c.in-Some.ensures some)) in
    record {
      bindings = subst (λ ks. AreTermBindings columns (take (c.loop-i.i + 1) c.args.atom.now.terms) ks) (sym items)
          (subst (λ ts. AreTermBindings columns ts (c.loop-i.terms.items ++ bound ∷ [])) (sym more)
          (bindings_more columns (take c.loop-i.i c.args.atom.now.terms) c.loop-i.terms.items t bound c.loop-i.invariant.bindings
          (record { coef = coef; column = column })));
      sound = subst (All (IsTermSound (length columns))) (sym items)
          (All-push (IsTermSound (length columns)) c.loop-i.terms.items bound c.loop-i.invariant.sound
          (record { coef = subst (λ z. nat_abs z ≤ 16) (sym coef) limits.coef; column = within columns t.name c.in-Some.column c.step.result column }));
      named = subst (All (HasColumn columns)) (sym more)
          (All-push (HasColumn columns) (take c.loop-i.i c.args.atom.now.terms) t c.loop-i.invariant.named
          (among columns t.name c.in-Some.column c.step.result column));
    }

pub returns-clause-sound : goal.returns-clause-sound
returns-clause-sound c =
    let limits = c.terms-i-end.ensures.limits in
    let limit : to_z w32 (of_z w32 c.limit.result) ≡ c.args.atom.now.limit = search (rules, to_z-of_z) in
    let whole : take c.loop-i.i c.args.atom.now.terms ≡ c.args.atom.now.terms =
    take_all c.loop-i.i c.args.atom.now.terms (let a = c.terms-i-end.ensures.count in let b = c.loop-i-test.false in omega arith) in
    let bindings : AreTermBindings c.args.header.now.columns c.args.atom.now.terms c.loop-i.terms.items =
    subst (λ ts. AreTermBindings c.args.header.now.columns ts c.loop-i.terms.items) whole c.loop-i.invariant.bindings in
    record {
      few = omega (arith, bindings_length c.args.header.now.columns c.args.atom.now.terms c.loop-i.terms.items bindings, limits.few);
      terms = c.loop-i.invariant.sound;
      limit = subst (λ z. nat_abs z ≤ 1073741824) (sym limit) limits.limit;
    }
