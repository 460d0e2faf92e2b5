use Rattle.std.proofs.Common.{rules, arith, ◌≡◌, ◌<◌, ◌^◌, ℕ, List, [], ◌∷◌, drop, length, refl, sym, ap, ◌∙◌, subst}
use Rattle.std.specs.Prelude.{slice_index_or}
use Rattle.std.specs.Ordering.{MatchOrdering}
use Rattle.std.specs.declared.cmp.Ordering.{Ordering}
use Rattle.std.specs.declared.cmp.Ordering.TheVariants.{Less, Equal, Greater}
use Rattle.std.specs.VecDeque.{deque_len}
use Rattle.std.proofs.lemmas.Bool.{false≢true}
use Rattle.std.proofs.lemmas.List.{nil_from_length}
use Rattle.std.proofs.lemmas.Result.{on_ok_weaker}
use Rattle.rational.specs.Rational.{IsWithin}
use Rattle.rational.specs.Places.{AtMost, Before, Place, Same}
use Rattle.rational.proofs.Order.{le_trans}
use Rattle.rational.proofs.PlaceLemmas.{at_most_of_not_before, le_of_at_most, same_of_at_most, same_places}
use Rattle.frac128.specs.Cuts.{place}
use Rattle.pl_signal.proofs.Kept.{on_err_anyway}
use Rattle.pieces.specs.Chains.{stop}
use Rattle.pieces.specs.Steps.{AreSteps}
use Rattle.pieces.proofs.Ends.{at_most_itself, at_most_of_before, at_most_of_same}
use Rattle.pieces.proofs.SlidingLemmas.{told_rest, told_fault, told_part, told_step}
use Rattle.pieces.proofs.sliding.Sliding.tell.Given.{Over}
use Rattle.pieces.proofs.sliding.Sliding.tell.Goals.{After-order_of-order}
use Rattle.pieces.proofs.sliding.Sliding.tell.Goals as goal

-- a list whose first element is known is that and the rest
first_apart : {X : Type 0} (xs : List X) (n : ℕ) (x : X) → n ≡ length xs → 0 < n → x ≡ slice_index_or xs 0 x → xs ≡ x ∷ drop 1 xs
first_apart [] n x len some e = absurd (omega (arith, len, some))
first_apart (y ∷ ys) n x len some e = ap (λ z. z ∷ ys) (sym e)

-- the place comes before where the first step ends
earlier : (g : Over) (c : After-order_of-order g) → c.order_of-order.result ≡ Less → Before (place c.args.until.now) (place c.in-Some.first.now.until)
earlier g c is = subst (λ o. MatchOrdering o (Before (place c.args.until.now) (place c.in-Some.first.now.until))
    (Same (place c.args.until.now) (place c.in-Some.first.now.until)) (Before (place c.in-Some.first.now.until) (place c.args.until.now)))
    is c.order_of-order.ensures

-- the place is where the first step ends
met_there : (g : Over) (c : After-order_of-order g) → c.order_of-order.result ≡ Equal → Same (place c.args.until.now) (place c.in-Some.first.now.until)
met_there g c is = subst (λ o. MatchOrdering o (Before (place c.args.until.now) (place c.in-Some.first.now.until))
    (Same (place c.args.until.now) (place c.in-Some.first.now.until)) (Before (place c.in-Some.first.now.until) (place c.args.until.now)))
    is c.order_of-order.ensures

-- or no later
at_most_of_order : (o : Ordering) (p q : Place) → MatchOrdering o (Before p q) (Same p q) (Before q p) → (o ≡ Less → ⊥) → AtMost q p
at_most_of_order Less p q m n = absurd (n refl)
at_most_of_order Equal p q m n = at_most_of_same q p (same_places m)
at_most_of_order Greater p q m n = at_most_of_before q p m

no_later : (g : Over) (c : After-order_of-order g) → (c.order_of-order.result ≡ Less → ⊥)
    → AtMost (place c.in-Some.first.now.until) (place c.args.until.now)
no_later g c n = at_most_of_order c.order_of-order.result (place c.args.until.now) (place c.in-Some.first.now.until) c.order_of-order.ensures n

pub returns-in_default-clause-told : goal.returns-in_default-clause-told
returns-in_default-clause-told g c =
    let none : c.loop-side.self.steps.items ≡ [] = nil_from_length c.loop-side.self.steps.items (search rules) in
    let later = subst (λ s. Before s (place c.args.until.now)) c.until.ensures.value (c.precedes.ensures.0 c.loop-side-test.true) in
    on_ok_weaker c.put.result (λ goes. told_rest g.P.Shape c.args.side c.args.gap.now c.args.self.now c.loop-side.self c.loop-side.invariant.told
    (record { out = c.put.new.self; steps = c.loop-side.self.steps }) c.args.until.now none none later goes) c.put.ensures.ok

pub write-requires-clause-rises : goal.write-requires-clause-rises
write-requires-clause-rises g c = λ t u a k m. c.requires.rises t u
    (le_trans (le_of_at_most (stop c.args.self.now.out) (stop c.loop-side.self.out) c.loop-side.invariant.told.on) a) k m

pub write-requires-clause-most : goal.write-requires-clause-most
write-requires-clause-most g c =
    at_most_of_before (place c.args.until.now) (place c.in-Some.first.now.until)
    (earlier g (goal.at.write-requires-clause-most g c).After-order_of-order c.in-Less.is)

pub returns-in_err-write-clause-wide : goal.returns-in_err-write-clause-wide
returns-in_err-write-clause-wide g c =
    let xs = c.loop-side.self.steps.items in
    let items = first_apart xs (deque_len c.loop-side.self.steps) c.in-Some.first.now (search rules) (search rules) (search rules) in
    on_err_anyway c.from_residual.result
    (told_fault g.P.Shape c.args.side c.args.gap.now c.args.self.now c.loop-side.self c.loop-side.invariant.told c.in-Some.first.now
    (drop 1 xs) c.args.until.now (place c.args.until.now) c.write.new.fault items
    (at_most_of_before (place c.args.until.now) (place c.in-Some.first.now.until)
    (earlier g (goal.at.returns-in_err-write-clause-wide g c).After-order_of-order c.in-Less.is))
    (at_most_itself (place c.args.until.now)) c.in_err-write.ensures.wide)

pub returns-in-Less-clause-told : goal.returns-in-Less-clause-told
returns-in-Less-clause-told g c =
    let xs = c.loop-side.self.steps.items in
    let items = first_apart xs (deque_len c.loop-side.self.steps) c.in-Some.first.now (search rules) (search rules) (search rules) in
    let before = earlier g (goal.at.returns-in-Less-clause-told g c).After-order_of-order c.in-Less.is in
    told_part g.P.Shape c.args.side c.args.gap.now c.args.self.now c.loop-side.self c.loop-side.invariant.told
    (record { out = c.write.new.out; steps = c.loop-side.self.steps }) c.in-Some.first.now (drop 1 xs) c.args.until.now
    items (subst (λ s. Before s (place c.args.until.now)) c.until.ensures.value (c.precedes.ensures.0 c.loop-side-test.true))
    (at_most_of_before (place c.args.until.now) (place c.in-Some.first.now.until) before) c.in_ok-write.ensures.ok items before
    c.loop-side.invariant.told.steps

pub write-requires-in-loop-side-clause-rises : goal.write-requires-in-loop-side-clause-rises
write-requires-in-loop-side-clause-rises g c = λ t u a k m. c.requires.rises t u
    (le_trans (le_of_at_most (stop c.args.self.now.out) (stop c.loop-side.self.out) c.loop-side.invariant.told.on) a) k
    (le_trans m (le_of_at_most (place c.in-Some.first.now.until) (place c.args.until.now)
    (no_later g (goal.at.write-requires-in-loop-side-clause-rises g c).After-order_of-order c.in_default-order.not-Less)))

pub loop-side-preserved : goal.loop-side-preserved
loop-side-preserved g c =
    let xs = c.loop-side.self.steps.items in
    let items = first_apart xs (deque_len c.loop-side.self.steps) c.in-Some.first.now (search rules) (search rules) (search rules) in
    let written = c.in_ok-write-2.ensures.ok in
    let step = (subst (AreSteps g.P.Shape c.args.side (stop c.loop-side.self.out)) items c.loop-side.invariant.told.steps).0 in
    record {
      told = told_step g.P.Shape c.args.side c.args.gap.now c.args.self.now c.loop-side.self c.loop-side.invariant.told
          (record { out = c.write-in-loop-side.new.out; steps = c.pop_front.new.self }) c.in-Some.first.now (drop 1 xs) c.in-Some.first.now.until
          items step.later (at_most_itself (place c.in-Some.first.now.until)) written c.pop_front.ensures.rest refl c.loop-side.invariant.told.steps;
      order = subst (λ s. AtMost s (place c.args.until.now)) (sym written.ends)
          (no_later g (goal.at.loop-side-preserved g c).After-order_of-order c.in_default-order.not-Less);
      within = subst (λ s. IsWithin (2 ^ 34) s.at) (sym written.ends) step.within;
      still = c.in_ok-write-2.ensures.still;
    }

pub returns-in-Equal-clause-told : goal.returns-in-Equal-clause-told
returns-in-Equal-clause-told g c =
    let xs = c.loop-side.self.steps.items in
    let items = first_apart xs (deque_len c.loop-side.self.steps) c.in-Some.first.now (search rules) (search rules) (search rules) in
    let step = (subst (AreSteps g.P.Shape c.args.side (stop c.loop-side.self.out)) items c.loop-side.invariant.told.steps).0 in
    told_step g.P.Shape c.args.side c.args.gap.now c.args.self.now c.loop-side.self c.loop-side.invariant.told
    (record { out = c.write-in-loop-side.new.out; steps = c.pop_front.new.self }) c.in-Some.first.now (drop 1 xs) c.in-Some.first.now.until
    items step.later (at_most_itself (place c.in-Some.first.now.until)) c.in_ok-write-2.ensures.ok c.pop_front.ensures.rest refl
    c.loop-side.invariant.told.steps

pub returns-in-Equal-clause-ends : goal.returns-in-Equal-clause-ends
returns-in-Equal-clause-ends g c = subst (λ s. Same s (place c.args.until.now)) (sym c.in_ok-write-2.ensures.ok.ends)
    (same_places (met_there g (goal.at.returns-in-Equal-clause-ends g c).After-order_of-order c.in-Equal.is))

pub returns-in_err-write-2-clause-wide : goal.returns-in_err-write-2-clause-wide
returns-in_err-write-2-clause-wide g c =
    let xs = c.loop-side.self.steps.items in
    let items = first_apart xs (deque_len c.loop-side.self.steps) c.in-Some.first.now (search rules) (search rules) (search rules) in
    on_err_anyway c.from_residual-in_err-write-2.result
    (told_fault g.P.Shape c.args.side c.args.gap.now c.args.self.now c.loop-side.self c.loop-side.invariant.told c.in-Some.first.now
    (drop 1 xs) c.in-Some.first.now.until (place c.args.until.now) c.write-in-loop-side.new.fault items
    (at_most_itself (place c.in-Some.first.now.until))
    (no_later g (goal.at.returns-in_err-write-2-clause-wide g c).After-order_of-order c.in_default-order.not-Less) c.in_err-write-2.ensures.wide)

pub returns-clause-ends : goal.returns-clause-ends
returns-clause-ends g c = same_of_at_most (stop c.loop-side.self.out) (place c.args.until.now) c.loop-side.invariant.order
    (at_most_of_not_before (place c.args.until.now) (stop c.loop-side.self.out)
    (λ b. false≢true (sym c.loop-side-test.false ∙ c.precedes.ensures.1 (subst (λ s. Before s (place c.args.until.now)) (sym c.until.ensures.value) b))))
