-- What a window leaves of its input on the edge says where the input goes on.
use Rattle.std.proofs.Common.{◌≡◌, ◌⊎◌, inl, inr, ℕ, suc, zero, ◌<◌, true, false, List, [], ◌∷◌, ◌++◌, drop, refl, sym, subst, ap, ◌∙◌, arith}
use Rattle.std.specs.Prelude.{IfSome, slice_get}
use Rattle.rational.specs.Time.{Rational, shifted, ◌≈◌, ◌≤ʳ◌, ◌<ʳ◌}
use Rattle.rational.specs.Places.{Place, Same}
use Rattle.rational.proofs.Order.{ge_of_same, le_of_same, le_trans, lt_of_le_of_lt, lt_of_lt_of_le, lt_or_same_or_gt, not_lt_of_le, same_of_le}
use Rattle.rational.proofs.Order.{same_sym, same_trans}
use Rattle.frac128.specs.Value.{value}
use Rattle.frac128.specs.Cuts.{place}
use Rattle.online_robust.specs.Lines.{end_of}
use Rattle.pieces.specs.Streaming.{before_time}
use Rattle.stl_syntax.specs.Trace.{start, stop as last_of}
use Rattle.online_robust.specs.Slides.{Course, GoesOn, back_offset, cut_of, high_at, last_place}
use Rattle.online_robust.specs.declared.line.MarginLine.{MarginLine}
use Rattle.online_robust.specs.declared.line.MarginLine.TheVariants.{Point, Gap}

-- a line ends at the time of its place
place_end : (x : MarginLine) → (place (cut_of x)).at ≡ value (end_of x)
place_end (Point u v) = refl
place_end (Gap a b p) = refl

-- the last of the lines that are left is the last of all, if one is left
pub last_left : (c : Place) (n : ℕ) (lines : List MarginLine) → (drop n lines ≡ [] → ⊥) → last_place c (drop n lines) ≡ last_place c lines
last_left c zero lines some = refl
last_left c (suc n) [] some = refl
last_left c (suc n) (x ∷ lines) some = last_left c n lines some ∙ same_last lines (some_rest n lines some)
  where
    some_rest : (n : ℕ) (lines : List MarginLine) → (drop n lines ≡ [] → ⊥) → lines ≡ [] → ⊥
    some_rest n lines some e = some (subst (λ l. drop n l ≡ []) (sym e) (none_left n))
      where
        none_left : (n : ℕ) → drop {A = MarginLine} n [] ≡ []
        none_left zero = refl
        none_left (suc n) = refl

    same_last : (lines : List MarginLine) → (lines ≡ [] → ⊥) → last_place c lines ≡ last_place (place (cut_of x)) lines
    same_last [] some = absurd (some refl)
    same_last (y ∷ lines) some = refl

-- where all lines are gone, the last of them ended by the limit
pub all_gone : (c : Place) (limit : Rational) (n : ℕ) (x : MarginLine) (lines fresh : List MarginLine) → drop n (x ∷ lines) ≡ []
    → ((k : ℕ) → k < n → IfSome (slice_get ((x ∷ lines) ++ fresh) k) (λ y. value (end_of y) ≤ʳ limit)) → (last_place c (x ∷ lines)).at ≤ʳ limit
all_gone c limit zero x lines fresh none ended = absurd (let z = none in cc)
all_gone c limit (suc n) x [] fresh none ended = subst (λ t. t ≤ʳ limit) (sym (place_end x)) (ended 0 (omega arith))
all_gone c limit (suc n) x (y ∷ lines) fresh none ended = all_gone c limit n y lines fresh none (λ k below. ended (suc k) (omega (arith, below)))

-- a window has come to its time, and lines that end by the offset at which it needs no more are gone
module _ (x : Course) (c : Place) (seen fresh : List MarginLine) (n : ℕ) (limit : Rational) (read : last_place c seen ≡ c)
    (none : seen ≡ [] → (c ≡ x.from) ⊎ (c.at <ʳ high_at x)) (begins : Same x.from (before_time (start x.trace))) (on : high_at x ≤ʳ c.at)
    (by : c.at ≤ʳ last_of x.trace) (under : c.at ≈ high_at x → c.after ≡ true) (limit_is : limit ≈ shifted x.to (back_offset x.window))
    (most : limit ≤ʳ high_at x) (ended : (k : ℕ) → k < n → IfSome (slice_get (seen ++ fresh) k) (λ y. value (end_of y) ≤ʳ limit)) where
  none_left : (seen : List MarginLine) → last_place c seen ≡ c → (seen ≡ [] → (c ≡ x.from) ⊎ (c.at <ʳ high_at x))
      → ((k : ℕ) → k < n → IfSome (slice_get (seen ++ fresh) k) (λ y. value (end_of y) ≤ʳ limit)) → drop n seen ≡ []
      → ((c ≡ x.from) × (shifted x.to (back_offset x.window) <ʳ start x.trace))
      ⊎ ((c.after ≡ true) × (c.at ≈ shifted x.to (back_offset x.window)))
  none_left [] read none ended nil = by_none (none refl)
    where
      before_start : c ≡ x.from → (high_at x <ʳ c.at) ⊎ (high_at x ≈ c.at) ⊎ (c.at <ʳ high_at x) → shifted x.to (back_offset x.window) <ʳ start x.trace
      before_start is (inl lt) = lt_of_le_of_lt (ge_of_same limit_is)
          (lt_of_le_of_lt most (lt_of_lt_of_le lt (subst (λ (d : Place). d.at ≤ʳ start x.trace) (sym is) (le_of_same begins.0))))
      before_start is (inr (inl same)) =
          absurd (let z : true ≡ false = sym (under (same_sym same)) ∙ subst (λ (d : Place). d.after ≡ false) (sym is) begins.1 in cc)
      before_start is (inr (inr lt)) = absurd (not_lt_of_le on lt)

      by_none : (c ≡ x.from) ⊎ (c.at <ʳ high_at x) → ((c ≡ x.from) × (shifted x.to (back_offset x.window) <ʳ start x.trace))
          ⊎ ((c.after ≡ true) × (c.at ≈ shifted x.to (back_offset x.window)))
      by_none (inl is) = inl (is, before_start is (lt_or_same_or_gt (high_at x) c.at))
      by_none (inr lt) = absurd (not_lt_of_le on lt)
  none_left (y ∷ ys) read none ended nil =
      let gone : c.at ≤ʳ limit = subst (λ (d : Place). d.at ≤ʳ limit) read (all_gone c limit n y ys fresh nil ended) in
      inr (under (same_of_le (le_trans gone most) on), same_trans (same_of_le gone (le_trans most on)) limit_is)

  some_or_none : (xs : List MarginLine) → (xs ≡ []) ⊎ (xs ≡ [] → ⊥)
  some_or_none [] = inl refl
  some_or_none (y ∷ ys) = inr (λ e. let z = e in cc)

  -- it knows where its input goes on
  pub goes_on : GoesOn x c (drop n seen)
  goes_on = record { on = on; by = by; read = by_left (some_or_none (drop n seen)); none = none_left seen read none ended }
    where
      by_left : (drop n seen ≡ []) ⊎ (drop n seen ≡ [] → ⊥) → last_place c (drop n seen) ≡ c
      by_left (inl nil) = ap (λ l. last_place c l) nil
      by_left (inr some) = last_left c n seen some ∙ read
