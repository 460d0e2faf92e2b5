use Rattle.std.proofs.Common.{rules, ◌≡◌, ℕ, ◌<◌, sym, ap, subst, refl, [], ◌∷◌, ◌++◌, length, Some, arith}
use Rattle.std.specs.Prelude.{slice_get}
use Rattle.offline_eval.specs.Inputs.{atoms_before}
use Rattle.stl_syntax.specs.Formula.{subformula}
use Rattle.offline_eval.specs.Making.{AreSound, TellAt}
use Rattle.offline_eval.specs.Evaluation.{IsFault}
use Rattle.offline_eval.specs.Places.{reach_before}
use Rattle.offline_eval.proofs.NextNode.{pushed_count, some_left, left_sound, all_more, reach_within, all_pushed, told_pushed, fault_is}
use Rattle.offline_eval.specs.Forms.{of_knots, of_pieces}
use Rattle.offline_eval.proofs.chains.first_chains.Goals as goal

pub next_chain-requires-clause-left : goal.next_chain-requires-clause-left
next_chain-requires-clause-left g c a at =
    some_left c.args.formula.now.nodes c.args.atoms c.loop-i.rest c.loop-i.i c.args.count a c.loop-i-test.true c.requires.count c.loop-i.invariant.rest at

pub next_chain-requires-clause-inputs : goal.next_chain-requires-clause-inputs
next_chain-requires-clause-inputs g c = left_sound (of_knots g.P.Shape) c.args.from c.args.to c.args.atoms c.loop-i.rest
    (atoms_before c.args.formula.now.nodes c.loop-i.i) c.requires.inputs c.loop-i.invariant.rest

pub next_chain-requires-clause-sound : goal.next_chain-requires-clause-sound
next_chain-requires-clause-sound g c =
    subst (AreSound (of_pieces g.P.Shape) c.args.from c.args.to 4294967295) (sym c.deref.ensures.value)
    (all_more (of_pieces g.P.Shape) c.args.from c.args.to (reach_before c.args.formula.now.nodes c.loop-i.i) 4294967295 c.loop-i.done.items
    (reach_within c.args.formula.now.nodes c.loop-i.i c.len.ensures.well_formed.nodes.reach) c.loop-i.invariant.sound)

pub loop-i-init : goal.loop-i-init
loop-i-init g c = record {
  count = ap length c.in-Ok.ensures.items;
  rest = refl;
  sound = λ k x at. absurd (none k x (subst (λ xs. slice_get xs k ≡ Some x) c.in-Ok.ensures.items at));
  told = λ s over atoms k x at. absurd (none k x (subst (λ xs. slice_get xs k ≡ Some x) c.in-Ok.ensures.items at));
}
  where
    none : {X : Type 0} (k : ℕ) (x : X) → slice_get [] k ≡ Some x → ⊥
    none k x e = cc

pub loop-i-preserved : goal.loop-i-preserved
loop-i-preserved g c =
    let nodes = c.args.formula.now.nodes in
    let pushed : c.push.new.self.items ≡ c.loop-i.done.items ++ c.in-Ok-next_chain.chain ∷ [] =
    search (rules, c.push.ensures.items, c.if-is_err.false, c.is_err.ensures) in
    let count = c.loop-i.invariant.count in
    let test : c.loop-i.i < c.args.count = c.loop-i-test.true in
    let inside : c.loop-i.i < length nodes = let w = c.requires.within in omega (arith, test, w) in
    let before = subst (λ xs. AreSound (of_pieces g.P.Shape) c.args.from c.args.to (reach_before nodes c.loop-i.i) xs)
    (sym c.deref.ensures.value) c.loop-i.invariant.sound in
    record {
      count = pushed_count c.loop-i.done.items c.push.new.self.items c.in-Ok-next_chain.chain c.loop-i.i count pushed;
      rest = c.in-Ok-next_chain.ensures.rest c.args.atoms c.loop-i.invariant.rest;
      sound = all_pushed (of_pieces g.P.Shape) c.args.from c.args.to nodes c.loop-i.i c.loop-i.done.items c.push.new.self.items c.in-Ok-next_chain.chain inside
          pushed c.loop-i.invariant.sound (c.in-Ok-next_chain.ensures.sound before);
      told = λ s over atoms.
          let before_told = subst (TellAt (of_pieces g.P.Shape) s (subformula nodes)) (sym c.deref.ensures.value) (c.loop-i.invariant.told s over atoms) in
          told_pushed (of_pieces g.P.Shape) nodes s c.loop-i.i c.loop-i.done.items c.in-Ok-next_chain.chain count pushed
          (c.loop-i.invariant.told s over atoms)
          (c.in-Ok-next_chain.ensures.told s (subformula nodes) c.args.atoms over c.loop-i.invariant.rest
          (λ j a under. atoms j a (omega (arith, under, test))) (λ n e. refl) before_told);
    }

pub returns-in-Err-clause-wide : goal.returns-in-Err-clause-wide
returns-in-Err-clause-wide g c s over atoms =
    let nodes = c.args.formula.now.nodes in
    let inside : c.loop-i.i < length nodes = let t = c.loop-i-test.true in let w = c.requires.within in omega arith in
    let before_told = subst (TellAt (of_pieces g.P.Shape) s (subformula nodes)) (sym c.deref.ensures.value) (c.loop-i.invariant.told s over atoms) in
    subst (IsFault g.P.Shape nodes s) (sym c.at_node.ensures)
    (fault_is g.P.Shape nodes s c.loop-i.i c.in-Err.fault inside (c.in-Err.ensures.wide s (subformula nodes) over (λ n e. refl) before_told))

pub returns : goal.returns
returns g c =
    let nodes = c.args.formula.now.nodes in
    let count : length c.loop-i.done.items ≡ c.args.count = let t = c.loop-i-test.false in let m =
    c.loop-i.auto.i-end in let n = c.loop-i.invariant.count in omega arith in
    record {
      count = count;
      sound = all_more (of_pieces g.P.Shape) c.args.from c.args.to (reach_before nodes c.loop-i.i) 4294967295 c.loop-i.done.items
          (reach_within nodes c.loop-i.i c.len.ensures.well_formed.nodes.reach) c.loop-i.invariant.sound;
      told = c.loop-i.invariant.told;
      wide = tt;
    }
