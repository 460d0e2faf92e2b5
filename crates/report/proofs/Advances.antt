-- The verdicts of a signal of truths, knot by knot.
use Rattle.std.proofs.Common.{◌≡◌, ◌≢◌, ℕ, zero, suc, ◌+◌, ◌<◌, ◌≤◌, inl, inr, Bool, true, false, not, ◌&&◌, Option, Some}
use Rattle.std.proofs.Common.{None, List, [], ◌∷◌, ◌++◌, length, append_assoc, refl, sym, ap, ◌∙◌, subst, arith, ◌⊎◌}
use Rattle.std.specs.Prelude.{slice_get}
use Rattle.std.proofs.lemmas.Bool.{true≢false}
use Rattle.rational.specs.Time.{Rational, ◌<ʳ◌, ◌≈◌, HasTimeBetween, Precedes, closed}
use Rattle.rational.specs.Extended.{value_at, ◌≈ᵉ◌}
use Rattle.rational.specs.Affine.{level}
use Rattle.rational.proofs.Order.{lt_of_le_of_lt, lt_trans, le_refl, same_refl, same_of_le}
use Rattle.rational.proofs.TimeLemmas.{precedes_of_room, room_of_precedes}
use Rattle.rational.proofs.LevelLemmas.{level_is}
use Rattle.frac128.specs.Value.{value}
use Rattle.frac128.specs.declared.frac.Frac.{Frac}
use Rattle.value_laws.specs.Values.{truth_value}
use Rattle.value_laws.specs.declared.truth.Truth.{Truth}
use Rattle.value_laws.specs.Kinds.{truth_shape}
use Rattle.pl_signal.specs.declared.knot.Knot.{Knot}
use Rattle.pl_signal.specs.Knots.{time, start, stop, IsSignal, IsWorth}
use Rattle.pl_signal.proofs.Values.{worth_at, worth_between, worth_same, next_rises, stop_at}
use Rattle.stl_syntax.specs.declared.items.Verdict.{Verdict}
use Rattle.report.specs.SignalVerdicts.{sign_of, DescribesFunction}
use Rattle.report.specs.Spelling.{Closes, GoesTo, IsAdvanced, listed}
use Rattle.report.specs.declared.spelling.OpenSpan.{OpenSpan}
use Rattle.report.proofs.Spellings.{IsSpelled, spelled_first, spelled_on, spelled_end}

-- there is time up to the end of the gap
pub room_after_gap : (o inside : OpenSpan) (at next : Frac) (truth : Bool) (ended : Option Verdict)
    → HasTimeBetween (value o.from) (value at) (o.from_in && true) → value at <ʳ value next
    → GoesTo o at true truth ended inside → HasTimeBetween (value inside.from) (value next) (inside.from_in && false)
room_after_gap o inside at next truth ended h rising g =
    room_of_precedes (inside.from_in && false) (value inside.from) (value next) (rw (out inside.from_in) (from_before ended g))
  where
    out : (b : Bool) → (b && false) ≡ false
    out true = refl
    out false = refl

    up_to_at : (b : Bool) → HasTimeBetween (value o.from) (value at) (b && true) → value o.from <ʳ value next
    up_to_at true k = lt_of_le_of_lt (precedes_of_room true (value o.from) (value at) k) rising
    up_to_at false k = lt_trans (precedes_of_room false (value o.from) (value at) k) rising

    from_before : (ended : Option Verdict) → GoesTo o at true truth ended inside → value inside.from <ʳ value next
    from_before None g = rw g.1 (up_to_at o.from_in h)
    from_before (Some w) g = rw g.from rising

-- what there is past a time with a truth
pub record Going (o : OpenSpan) (at : Frac) (at_in truth : Bool) : Type 0 where
  -- what ended there
  pub ended : Option Verdict
  -- the span from there on
  pub new : OpenSpan
  -- they are what the truth leaves
  pub goes : GoesTo o at at_in truth ended new

differ : (b c : Bool) → (b ≡ c) ⊎ (b ≢ c)
differ true true = inl refl
differ true false = inr true≢false
differ false true = inr (λ e. true≢false (sym e))
differ false false = inl refl

-- from each open span there is one
pub going : (o : OpenSpan) (at : Frac) (at_in truth : Bool) → HasTimeBetween (value o.from) (value at) (o.from_in && at_in) → Going o at at_in truth
going o at at_in truth h = by_truth (differ o.holds truth)
  where
    by_truth : (o.holds ≡ truth) ⊎ (o.holds ≢ truth) → Going o at at_in truth
    by_truth (inl e) = record { ended = None; new = o; goes = (e, refl) }
    by_truth (inr e) = record {
      ended = Some (record { on = record { from = o.from; from_in = o.from_in; to = at; to_in = at_in; not_empty = h }; holds = o.holds });
      new = record { from = at; from_in = not at_in; holds = truth };
      goes = record {
        closes = record { from = refl; from_in = refl; to = refl; to_in = refl; holds = refl };
        other = e;
        from = refl;
        from_in = refl;
        holds =
            refl;
      };
    }

-- it has the sign of the truth
signs : (holds : Bool) (t : Rational) → value_at (level (truth_value holds)) t ≈ᵉ sign_of holds
signs true t = level_is (truth_value true) t
signs false t = level_is (truth_value false) t

-- there is a knot at each place, and none behind
knot_at : (knots : List (Knot Truth)) (i : ℕ) → i < length knots → (k : Knot Truth) × (slice_get knots i ≡ Some k)
knot_at [] i h = absurd (omega arith)
knot_at (k ∷ knots) zero h = (k, refl)
knot_at (k ∷ knots) (suc i) h = knot_at knots i (omega arith)

no_knot_at : (knots : List (Knot Truth)) (i : ℕ) → length knots ≤ i → slice_get knots i ≡ None
no_knot_at [] i h = refl
no_knot_at (k ∷ knots) zero h = absurd (omega arith)
no_knot_at (k ∷ knots) (suc i) h = no_knot_at knots i (omega arith)

module _ (knots : List (Knot Truth)) where
  -- the verdicts describe the signal up to the knot at place i, and the open span is told up to there
  pub record IsSpelledTo (i : ℕ) (verdicts : List Verdict) (o : OpenSpan) : Type 0 where
    -- the last knot that was looked at
    pub last : Knot Truth
    -- it stands at place i
    pub is : slice_get knots i ≡ Some last
    -- up to it the verdicts spell the signal
    pub spelled : IsSpelled (IsWorth truth_shape knots) (start knots) (time last) true verdicts o

  point_told : (i : ℕ) (k : Knot Truth) → slice_get knots i ≡ Some k → (t : Rational) → t ≈ time k → IsWorth truth_shape knots t (sign_of k.point.holds)
  point_told i k h t e =
      worth_same truth_shape knots (value_at (truth_shape.function k.point) t) (sign_of k.point.holds) (same_refl t) (signs k.point.holds t)
      (worth_at truth_shape knots i k t h e)

  gap_told : (i : ℕ) (k n : Knot Truth) → slice_get knots i ≡ Some k → slice_get knots (i + 1) ≡ Some n → (t : Rational) → time k <ʳ t → t <ʳ time n
      → IsWorth truth_shape knots t (sign_of k.after.holds)
  gap_told i k n h j t a b =
      worth_same truth_shape knots (value_at (truth_shape.function k.after) t) (sign_of k.after.holds) (same_refl t) (signs k.after.holds t)
      (worth_between truth_shape knots i k n t h j a b)

  -- the first knot alone
  pub spelled_start : (k : Knot Truth) (o : OpenSpan) → slice_get knots 0 ≡ Some k → o.from ≡ k.time → o.from_in ≡ true → o.holds ≡ k.point.holds
      → IsSpelledTo 0 [] o
  spelled_start k o h e f g = record {
    last = k;
    is = h;
    spelled = rw (first_is knots h) (spelled_first (IsWorth truth_shape knots) (time k) o (ap value e) f (rw g (point_told 0 k h)));
  }
    where
      first_is : (ks : List (Knot Truth)) → slice_get ks 0 ≡ Some k → start ks ≡ time k
      first_is [] h = absurd (cc)
      first_is (l ∷ ks) h = let e : l ≡ k = cc in ap time e

  -- there is time up to the knot
  pub room_to : (i : ℕ) (verdicts : List Verdict) (o : OpenSpan) (k : Knot Truth) → slice_get knots i ≡ Some k → IsSpelledTo i verdicts o
      → HasTimeBetween (value o.from) (value k.time) (o.from_in && true)
  room_to i verdicts o k h s =
      let e : s.last ≡ k = let g = s.is in cc in
      room_of_precedes (o.from_in && true) (value o.from) (value k.time)
      (subst (λ (k : Knot Truth). Precedes (o.from_in && true) (value o.from) (time k)) e s.spelled.begun)

  -- past the next knot
  pub spelled_advance : {verdicts : List Verdict} {o : OpenSpan} (i : ℕ) (new : OpenSpan) (k n : Knot Truth) (by_gap by_point : Option Verdict)
      → IsSignal truth_shape knots → slice_get knots i ≡ Some k
      → slice_get knots (i + 1) ≡ Some n → IsSpelledTo i verdicts o → IsAdvanced o k n by_gap by_point new
      → IsSpelledTo (i + 1) ((verdicts ++ listed by_gap) ++ listed by_point) new
  spelled_advance {verdicts} {o} i new k n by_gap by_point signal h j s a =
      let e : s.last ≡ k = let g = s.is in cc in
      let rising = next_rises truth_shape knots i k n signal.each h j in
      let here = subst (λ (k : Knot Truth). IsSpelled (IsWorth truth_shape knots) (start knots) (time k) true verdicts o) e s.spelled in
      let inside = spelled_on (IsWorth truth_shape knots) a.inside k.time true k.after.holds by_gap (time n) false here a.gap rising
      (λ t inside. gap_told i k n h j t inside.above inside.below) in
      record {
        last = n;
        is = j;
        spelled =
            spelled_on (IsWorth truth_shape knots) new n.time false n.point.holds by_point
            (time n) true inside a.point (le_refl (time n))
            (λ t inside. point_told (i + 1) n j t (same_of_le inside.below inside.above));
      }

  -- the last span ends with the signal
  pub spelled_stop : (i : ℕ) (verdicts : List Verdict) (o : OpenSpan) (w : Verdict) (at : Frac) → length knots ≤ i + 1 → IsSpelledTo i verdicts o
      → value at ≡ stop knots → Closes o at true w
      → DescribesFunction (IsWorth truth_shape knots) (verdicts ++ w ∷ []) (closed (start knots) (stop knots))
  spelled_stop i verdicts o w at h s e c =
      let there : time s.last ≡ value at = sym (e ∙ stop_at truth_shape knots i s.last s.is (no_knot_at knots (i + 1) h)) in
      let here = subst (λ now. IsSpelled (IsWorth truth_shape knots) (start knots) now true verdicts o) there s.spelled in
      subst (λ t. DescribesFunction (IsWorth truth_shape knots) (verdicts ++ w ∷ []) (closed (start knots) t)) e
      (spelled_end (IsWorth truth_shape knots) (start knots) at verdicts o w here c)

  -- the open span has a time before the signal's end
  pub stop_room : (i : ℕ) (verdicts : List Verdict) (o : OpenSpan) (at : Frac) → length knots ≤ i + 1 → IsSpelledTo i verdicts o → value at ≡ stop knots
      → HasTimeBetween (value o.from) (value at) (o.from_in && true)
  stop_room i verdicts o at h s e =
      let there : time s.last ≡ value at = sym (e ∙ stop_at truth_shape knots i s.last s.is (no_knot_at knots (i + 1) h)) in
      room_of_precedes (o.from_in && true) (value o.from) (value at) (subst (λ now. Precedes (o.from_in && true) (value o.from) now) there s.spelled.begun)

  -- from each knot the verdicts can be told to the end, the last one apart
  pub told_to_end : (left i : ℕ) (verdicts : List Verdict) (o : OpenSpan) → IsSignal truth_shape knots → i + suc left ≡ length knots → IsSpelledTo i verdicts o
      → (later : List Verdict) × (end : Verdict)
      × DescribesFunction (IsWorth truth_shape knots) (verdicts ++ (later ++ end ∷ [])) (closed (start knots) (stop knots))
  told_to_end zero i verdicts o signal count s =
      let at = s.last.time in
      let there : value at ≡ stop knots = sym (stop_at truth_shape knots i s.last s.is (no_knot_at knots (i + 1) (omega arith))) in
      let room = stop_room i verdicts o at (omega arith) s there in
      let w : Verdict = record { on = record { from = o.from; from_in = o.from_in; to = at; to_in = true; not_empty = room }; holds = o.holds } in
      ([], w, spelled_stop i verdicts o w at (omega arith) s there (record { from = refl; from_in = refl; to = refl; to_in = refl; holds = refl }))
  told_to_end (suc left) i verdicts o signal count s =
      let n = knot_at knots (i + 1) (omega arith) in
      let k = s.last in
      let room = room_to i verdicts o k s.is s in
      let gap = going o k.time true k.after.holds room in
      let point = going gap.new n.0.time false n.0.point.holds
      (room_after_gap o gap.new k.time n.0.time k.after.holds gap.ended room (next_rises truth_shape knots i k n.0 signal.each s.is n.1) gap.goes) in
      let more = told_to_end left (i + 1) ((verdicts ++ listed gap.ended) ++ listed point.ended) point.new signal (omega arith)
      (spelled_advance i point.new k n.0 gap.ended point.ended signal s.is n.1 s
      (record { inside = gap.new; gap = gap.goes; point = point.goes })) in
      ((listed gap.ended ++ listed point.ended) ++ more.0, more.1, regroup verdicts (listed gap.ended) (listed point.ended) more.0 (more.1 ∷ []) more.2)
    where
      together : (a b c d e : List Verdict) → ((a ++ b) ++ c) ++ (d ++ e) ≡ a ++ (((b ++ c) ++ d) ++ e)
      together a b c d e = simp append_assoc

      regroup : (a b c d e : List Verdict) → DescribesFunction (IsWorth truth_shape knots) (((a ++ b) ++ c) ++ (d ++ e)) (closed (start knots) (stop knots))
          → DescribesFunction (IsWorth truth_shape knots) (a ++ (((b ++ c) ++ d) ++ e)) (closed (start knots) (stop knots))
      regroup a b c d e h = subst (λ ws. DescribesFunction (IsWorth truth_shape knots) ws (closed (start knots) (stop knots))) (together a b c d e) h
