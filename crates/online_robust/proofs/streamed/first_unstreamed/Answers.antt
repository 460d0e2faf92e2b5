use Rattle.std.proofs.Common.{◌≡◌, ◌∙◌, Some, sym, subst, arith, below_more}
use Rattle.std.specs.Prelude.{slice_get}
use Rattle.std.proofs.lemmas.Option.{slice_get_within, same_Some}
use Rattle.stl_syntax.specs.declared.node.Node.{Node}
use Rattle.online_nodes.specs.StreamedWide.{IsUnstreamed}
use Rattle.online_robust.proofs.streamed.first_unstreamed.Goals as goal

pub loop-i-preserved : goal.loop-i-preserved
loop-i-preserved c =
    let streamed : ¬ IsUnstreamed c.node.result.now = rw c.if-not-streamed.false at c.is_streamed-streamed.ensures in
    below_more (λ k. (n : Node) → slice_get c.args.formula.now.nodes k ≡ Some n → ¬ IsUnstreamed n) c.loop-i.i c.loop-i.invariant
    (λ n is. subst (λ (k : Node). ¬ IsUnstreamed k) (same_Some _ _ (sym c.node.ensures.node ∙ is)) streamed)

pub returns-then-not-streamed : goal.returns-then-not-streamed
returns-then-not-streamed c =
    let unstreamed : IsUnstreamed c.node.result.now = rw c.if-not-streamed.true at c.is_streamed-streamed.ensures in
    record {
      node = c.node.result.now;
      at = c.node.ensures.node;
      is = unstreamed;
      none_before = λ j other l is. c.loop-i.invariant j l other is;
    }

pub returns : goal.returns
returns c = λ i n is.
    let within = slice_get_within c.args.formula.now.nodes i n is in
    let end = c.len-i-end.ensures.count in
    c.loop-i.invariant i (omega (arith, within, end)) n is
