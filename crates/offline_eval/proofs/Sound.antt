-- What the signals that are made on the way keep.
use Rattle.std.proofs.Common.{◌≡◌, ℕ, ℤ, pos, neg_ℤ, ◌+◌, ◌≤◌, ◌^◌, ◌≤ℤ◌, ◌<ℤ◌, ◌-ℤ◌, ◌+ℤ◌, ◌⊎◌, inl, inr, Bool, true, false, refl, arith}
use Rattle.std.specs.Prelude.{IsTrue}
use Rattle.std.proofs.lemmas.Int.{ints}
use Rattle.rational.specs.Time.{Rational, ◌≈◌}
use Rattle.rational.specs.Extended.{Extended}
use Rattle.rational.specs.Affine.{IsBounded}
use Rattle.rational.specs.Windows.{Function}
use Rattle.rational.proofs.Order.{same_trans}
use Rattle.value_laws.specs.Members.{ShapeLaws}
use Rattle.offline_eval.specs.Forms.{Form}
use Rattle.offline_eval.specs.Making.{IsSound, StaysSound, StaySound}
use Rattle.offline_eval.proofs.Forms.{FormLaws}

-- the bases that a signal may have whose shapes were moved by at most `reach`
abbrev pub IsReached : ℕ → ℤ → Type 0
IsReached reach b = (neg_ℤ (pos reach) ≤ℤ b) × (b <ℤ pos (2 ^ 32 + reach))

-- each moving shape of the new signal has the base of a moving shape of one of the two
abbrev pub BasesOfTwo : {X P : Type 0} → Form X P → X → X → X → Type 0
BasesOfTwo {P} form x y r = (p : P) → form.HasShape r p → IsTrue (form.shape.moves p)
    → (q : P) × (form.HasShape x q ⊎ form.HasShape y q) × IsTrue (form.shape.moves q) × (form.shape.base p ≡ form.shape.base q)

-- what lies within a reach lies within a longer one
pub reached_more : (reach more : ℕ) (b : ℤ) → reach ≤ more → IsReached reach b → IsReached more b
reached_more reach more b h (low, high) = (omega (arith, ints, h, low), omega (arith, ints, h, high))

-- 0 lies within every reach
pub reached_zero : (reach : ℕ) (b : ℤ) → b ≡ pos 0 → IsReached reach b
reached_zero reach b e = (omega (arith, ints, e), omega (arith, ints, e))

module _ {X P : Type 0} {form : Form X P} (laws : FormLaws form) where
  -- a signal over the same domain with bounded values is limited too
  pub limited_along : (F : Function) (x r : X) → form.IsLimited x → form.Tells F (form.start x) (form.stop x) r
      → ((t : Rational) (v : Extended) → F t v → IsBounded (2 ^ 31) v) → form.IsLimited r
  limited_along F x r l tells bounded =
      laws.limited F (form.start x) (form.stop x) r tells bounded (laws.start_within x l) (laws.stop_within x l)

-- the base is that of the old shape, but for a move by at most `own`
pub record IsMovedBy (own : ℕ) (old new : ℤ) : Type 0 where
  -- the base moved back by no more than that
  pub not_less : (old -ℤ pos own) ≤ℤ new
  -- and on by no more
  pub not_more : new ≤ℤ (old +ℤ pos own)

-- moved by so much, a base lies within that much more
pub reached_moved : (reach own : ℕ) (old new : ℤ) → IsReached reach old → IsMovedBy own old new → IsReached (reach + own) new
reached_moved reach own old new (low, high) m = let a = m.not_less in let b = m.not_more in (omega (arith, ints, low, a), omega (arith, ints, high, b))

-- a base that stays is not moved
pub not_moved : (old new : ℤ) → new ≡ old → IsMovedBy 0 old new
not_moved old new e = record { not_less = omega (arith, ints, e); not_more = omega (arith, ints, e) }

-- by any number
pub hardly_moved : (own : ℕ) (old new : ℤ) → new ≡ old → IsMovedBy own old new
hardly_moved own old new e = record { not_less = omega (arith, ints, e); not_more = omega (arith, ints, e) }

module _ {X P : Type 0} (form : Form X P) (laws : ShapeLaws form.shape) where
  -- what holds of the bases of the moving shapes holds of all
  all_reached : (reach : ℕ) (p : P) → (IsTrue (form.shape.moves p) → IsReached reach (form.shape.base p)) → IsReached reach (form.shape.base p)
  all_reached reach p moving = by_test (form.shape.moves p) refl
    where
      by_test : (b : Bool) → form.shape.moves p ≡ b → IsReached reach (form.shape.base p)
      by_test true e = moving e
      by_test false e = reached_zero reach (form.shape.base p) (laws.base_of_others p e)

  -- each moving shape has the base of a shape of the old signal, moved by at most `own`
  abbrev pub MovedFrom : ℕ → X → X → Type 0
  MovedFrom own x r = (p : P) → form.HasShape r p → IsTrue (form.shape.moves p)
      → (q : P) × form.HasShape x q × IsMovedBy own (form.shape.base q) (form.shape.base p)

  -- what a node makes of one signal stays sound
  pub stays_sound : (own : ℕ) (x r : X) → form.start r ≈ form.start x → form.stop r ≈ form.stop x → form.IsLimited r → MovedFrom own x r
      → StaysSound form own x r
  stays_sound own x r begins ends limited moved from to reach s = record {
    begins = same_trans begins s.begins;
    ends = same_trans ends s.ends;
    limited = limited;
    bases = λ p h. all_reached (reach + own) p
        (λ m. let o = moved p h m in reached_moved reach own (form.shape.base o.0) (form.shape.base p) (s.bases o.0 o.1) o.2);
  }

  -- each moving shape has the base of a shape of one of the two old signals, moved by at most `own`
  abbrev pub MovedFromTwo : ℕ → X → X → X → Type 0
  MovedFromTwo own x y r = (p : P) → form.HasShape r p → IsTrue (form.shape.moves p) → (q : P) × (form.HasShape x q ⊎ form.HasShape y q)
      × IsMovedBy own (form.shape.base q) (form.shape.base p)

  -- shapes that stay where they are move by no more than any number
  pub of_two_more : (own : ℕ) (x y r : X) → BasesOfTwo form x y r → MovedFromTwo own x y r
  of_two_more own x y r bases p h m = let o = bases p h m in (o.0, o.1, hardly_moved own (form.shape.base o.0) (form.shape.base p) o.3)

  -- r goes from end to end of x, is limited, and is made of the shapes of x and y, moved by at most `own`
  pub record IsMadeOf (own : ℕ) (x y r : X) : Type 0 where
    -- it begins with x
    pub begins : form.start r ≈ form.start x
    -- and ends with it
    pub ends : form.stop r ≈ form.stop x
    -- it is within limits
    pub limited : form.IsLimited r
    -- its moving shapes come from those of x and y
    pub moved : MovedFromTwo own x y r

  -- and of two
  pub stay_sound : (own : ℕ) (x y r : X) → IsMadeOf own x y r → StaySound form own x y r
  stay_sound own x y r made from to reach s u = record {
    begins = same_trans made.begins s.begins;
    ends = same_trans made.ends s.ends;
    limited = made.limited;
    bases = λ p h. all_reached (reach + own) p
        (λ m. let o = made.moved p h m in reached_moved reach own (form.shape.base o.0) (form.shape.base p) (of_one o.0 o.1) o.2);
  }
    where
      of_one : (q : P) → form.HasShape x q ⊎ form.HasShape y q → IsReached reach (form.shape.base q)
      of_one q (inl h) = s.bases q h
      of_one q (inr h) = u.bases q h

module _ {X P : Type 0} (form : Form X P) where
  -- a sound signal is sound with a larger reach
  pub sound_more : (from to reach more : ℕ) (x : X) → reach ≤ more → IsSound form from to reach x → IsSound form from to more x
  sound_more from to reach more x h s =
      record { begins = s.begins; ends = s.ends; limited = s.limited; bases = λ p i. reached_more reach more (form.shape.base p) h (s.bases p i) }
