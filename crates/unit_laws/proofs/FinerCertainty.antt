-- What items leave certain, by another clock.
use Rattle.std.proofs.Common.{◌≡◌, ℕ, ◌<◌, Bool, true, false, IsTrue, refl, sym, ◌∙◌, List}
use Rattle.std.specs.Prelude.{◌↔◌, IsFalse}
use Rattle.std.proofs.lemmas.Bool.{false≢true}
use Rattle.rational.specs.Time.{Rational}
use Rattle.rational.proofs.Tests.{either}
use Rattle.stl_syntax.specs.Trace.{Trace, start, stop}
use Rattle.stl_syntax.specs.Formula.{Subformula, constant, atom, negation, conjunction, disjunction}
use Rattle.stl_syntax.specs.Formula.{implication, until, eventually, always, since, once, historically}
use Rattle.stl_syntax.specs.Truth.{holds_at}
use Rattle.stl_syntax.specs.Kleene.{IsCovered, Must, MustNot}
use Rattle.stl_syntax.specs.Scaling.{scaled_atom}
use Rattle.stl_syntax.specs.declared.items.Item.{Item}
use Rattle.stl_syntax.proofs.LawProofs.{certainty_is_of_times}
use Rattle.bounds.proofs.NearTimes.{Move}
use Rattle.unit_laws.proofs.Clocks.{clock}
use Rattle.unit_laws.proofs.Recounts.{IsRecount, holds_by}
use Rattle.unit_laws.proofs.FinerTrees.{finer_tree}
use Rattle.unit_laws.proofs.ClockWindows.{AreEnds}
use Rattle.unit_laws.proofs.FinerTruth.{ends}
use Rattle.unit_laws.proofs.ByTheClock.{Carries, some_of, every_of, ahead_shown, behind_shown, until_of, since_of, up_or, down_or}

not_true : (b : Bool) → ¬ (b ≡ true) → b ≡ false
not_true true h = absurd (h refl)
not_true false h = refl

-- two tests that are true alike are false alike
pub false_alike : (a b : Bool) → (IsTrue a ↔ IsTrue b) → IsFalse a ↔ IsFalse b
false_alike a b s = (λ h. not_true b (λ k. false≢true (sym h ∙ s.1 k)), λ h. not_true a (λ k. false≢true (sym h ∙ s.0 k)))

module _ (K : ℕ) (o : Move) (M : ℕ) (kp : 0 < K) (mp : 0 < M) {tr ur : Trace} (c : IsRecount K o M tr ur) (items others : List Item)
    (cover : (i : ℕ) (t : Rational) → IsCovered items i t ↔ IsCovered others i (clock K o t)) where
  -- what is certain at t is so where the clock shows t
  pub record IsCertainBy (p : Subformula) (t : Rational) : Type 0 where
    -- certainly true
    pub must : Must p items tr t ↔ Must (finer_tree K M p) others ur (clock K o t)
    -- certainly false
    pub must_not : MustNot p items tr t ↔ MustNot (finer_tree K M p) others ur (clock K o t)

  must_carries : (p : Subformula) → ((u : Rational) → IsCertainBy p u) → Carries K o kp (Must p items tr) (Must (finer_tree K M p) others ur)
  must_carries p h = record {
    forth = λ u. (h u).must.0;
    back = λ u. (h u).must.1;
    same = λ u v e. (certainty_is_of_times (finer_tree K M p) others ur u v e).0;
  }

  not_carries : (p : Subformula) → ((u : Rational) → IsCertainBy p u) → Carries K o kp (MustNot p items tr) (MustNot (finer_tree K M p) others ur)
  not_carries p h = record {
    forth = λ u. (h u).must_not.0;
    back = λ u. (h u).must_not.1;
    same = λ u v e. (certainty_is_of_times (finer_tree K M p) others ur u v e).1;
  }

  the_ends : AreEnds K o (start tr) (stop tr) (start ur) (stop ur)
  the_ends = ends K o M kp mp c

  -- what is certain by the items is certain by the clock
  pub certain_by : (p : Subformula) (t : Rational) → IsCertainBy p t
  certain_by (constant b) t = record { must = (λ h. h, λ h. h); must_not = (λ h. h, λ h. h) }
  certain_by (atom i a) t =
      let h = holds_by K o M mp c a t in
      let g = false_alike (holds_at a tr t) (holds_at (scaled_atom M a) ur (clock K o t)) h in
      let s = cover i t in
      record { must = (λ x. (h.0 x.0, s.0 x.1), λ x. (h.1 x.0, s.1 x.1)); must_not = (λ x. (g.0 x.0, s.0 x.1), λ x. (g.1 x.0, s.1 x.1)) }
  certain_by (negation p) t = let s = certain_by p t in record { must = s.must_not; must_not = s.must }
  certain_by (conjunction p q) t =
      let s = certain_by p t in
      let u = certain_by q t in record {
        must = (λ h. (s.must.0 h.0, u.must.0 h.1), λ h. (s.must.1 h.0, u.must.1 h.1));
        must_not = (either s.must_not.0 u.must_not.0, either s.must_not.1 u.must_not.1);
      }
  certain_by (disjunction p q) t =
      let s = certain_by p t in
      let u = certain_by q t in record {
        must = (either s.must.0 u.must.0, either s.must.1 u.must.1);
        must_not = (λ h. (s.must_not.0 h.0, u.must_not.0 h.1), λ h. (s.must_not.1 h.0, u.must_not.1 h.1));
      }
  certain_by (implication p q) t =
      let s = certain_by p t in
      let u = certain_by q t in record {
        must = (either s.must_not.0 u.must.0, either s.must_not.1 u.must.1);
        must_not = (λ h. (s.must.0 h.0, u.must_not.0 h.1), λ h. (s.must.1 h.0, u.must_not.1 h.1));
      }
  certain_by (eventually a b i j p) t =
      let w = ahead_shown K o kp the_ends a b i j t in
      record { must = some_of K o kp w (must_carries p (λ u. certain_by p u)); must_not = every_of K o kp w (not_carries p (λ u. certain_by p u)) }
  certain_by (always a b i j p) t =
      let w = ahead_shown K o kp the_ends a b i j t in
      record { must = every_of K o kp w (must_carries p (λ u. certain_by p u)); must_not = some_of K o kp w (not_carries p (λ u. certain_by p u)) }
  certain_by (once a b i j p) t =
      let w = behind_shown K o kp the_ends a b i j t in
      record { must = some_of K o kp w (must_carries p (λ u. certain_by p u)); must_not = every_of K o kp w (not_carries p (λ u. certain_by p u)) }
  certain_by (historically a b i j p) t =
      let w = behind_shown K o kp the_ends a b i j t in
      record { must = every_of K o kp w (must_carries p (λ u. certain_by p u)); must_not = some_of K o kp w (not_carries p (λ u. certain_by p u)) }
  certain_by (until a b p q) t =
      let w = ahead_shown K o kp the_ends a b true true t in record {
        must = until_of K o kp w (must_carries p (λ u. certain_by p u)) (must_carries q (λ u. certain_by q u)) t;
        must_not = every_of K o kp w (up_or K o kp (not_carries p (λ u. certain_by p u)) (not_carries q (λ u. certain_by q u)) t);
      }
  certain_by (since a b p q) t =
      let w = behind_shown K o kp the_ends a b true true t in record {
        must = since_of K o kp w (must_carries p (λ u. certain_by p u)) (must_carries q (λ u. certain_by q u)) t;
        must_not = every_of K o kp w (down_or K o kp (not_carries p (λ u. certain_by p u)) (not_carries q (λ u. certain_by q u)) t);
      }
