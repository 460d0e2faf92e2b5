use Rattle.std.proofs.Common.{rules, ◌≡◌, ◌∙◌, sym, subst, ap, ◌++◌, List, length, take, drop, arith}
use Rattle.stl_syntax.specs.Trace.{Trace}
use Rattle.stl_syntax.specs.declared.node.Node.{Node}
use Rattle.early_verdict.specs.Living.{NetIs}
use Rattle.early_verdict.specs.declared.sets.Sets.{Sets}
use Rattle.early_verdict.proofs.Places.{written}
use Rattle.early_verdict.proofs.letting.let_go.Goals as goal

pub loop-i-init : goal.loop-i-init
loop-i-init c = record { within = omega (arith, c.len-count.ensures.count); stands = λ tr h. h }

pub let_go_of-requires-clause-within : goal.let_go_of-requires-clause-within
let_go_of-requires-clause-within c = omega (arith, c.loop-i.invariant.within, c.loop-i-test.true)

pub let_go_of-requires-clause-formed : goal.let_go_of-requires-clause-formed
let_go_of-requires-clause-formed c = c.len-count.ensures.well_formed.nodes

-- what stands, seen as slices
seen : (nodes : List Node) (tr : Trace) (live shown xs ys : List Sets) → xs ≡ live → ys ≡ shown → NetIs nodes tr live shown → NetIs nodes tr xs ys
seen nodes tr live shown xs ys e f h =
    subst (λ (zs : List Sets). NetIs nodes tr zs ys) (sym e) (subst (λ (zs : List Sets). NetIs nodes tr live zs) (sym f) h)

pub let_go_of-requires-clause-stands : goal.let_go_of-requires-clause-stands
let_go_of-requires-clause-stands c = (
  c.requires.0,
  seen c.args.formula.now.nodes c.requires.0 c.loop-i.net.live.items c.loop-i.net.shown.items c.deref_mut.result.now
      c.deref_mut-in-loop-i.result.now c.deref_mut.ensures.value c.deref_mut-in-loop-i.ensures.value (c.loop-i.invariant.stands c.requires.0 c.requires.1),
)

pub loop-i-preserved : goal.loop-i-preserved
loop-i-preserved c =
    let nodes = c.args.formula.now.nodes in
    let live = c.loop-i.net.live in
    let shown = c.loop-i.net.shown in
    let new = c.let_go_of.new.live in
    let new_shown = c.let_go_of.new.shown in
    let was =
    seen c.args.formula.now.nodes c.requires.0 c.loop-i.net.live.items c.loop-i.net.shown.items c.deref_mut.result.now c.deref_mut-in-loop-i.result.now
    c.deref_mut.ensures.value c.deref_mut-in-loop-i.ensures.value (c.loop-i.invariant.stands c.requires.0 c.requires.1) in
    let is = c.let_go_of.ensures.stands c.requires.0 was in
    let a : length live.items ≡ live.len = search rules in
    let b : length shown.items ≡ shown.len = search rules in
    let long : length new ≡ live.len = c.let_go_of.ensures.count ∙ ap (λ (xs : List Sets). length xs) c.deref_mut.ensures.value ∙ a in
    let long_shown : length new_shown ≡ shown.len =
    is.have.shown_count ∙ sym was.have.shown_count ∙ ap (λ (xs : List Sets). length xs) c.deref_mut-in-loop-i.ensures.value ∙ b in
    record {
      within = omega (arith, c.loop-i.invariant.within);
      stands = λ tr h.
          subst (λ (xs : List Sets). NetIs nodes tr xs (take shown.len (new_shown ++ drop (length new_shown) shown.items)))
          (written new live.items live.len long)
          (subst (λ (xs : List Sets). NetIs nodes tr new xs) (written new_shown shown.items shown.len long_shown)
          (c.let_go_of.ensures.stands tr (seen c.args.formula.now.nodes tr c.loop-i.net.live.items c.loop-i.net.shown.items c.deref_mut.result.now
          c.deref_mut-in-loop-i.result.now c.deref_mut.ensures.value c.deref_mut-in-loop-i.ensures.value (c.loop-i.invariant.stands tr h))));
    }

pub returns : goal.returns
returns c = c.loop-i.invariant.stands
