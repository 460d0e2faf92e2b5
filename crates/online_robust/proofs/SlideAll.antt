-- What a window has met of its input, and what is to come of it, is one chain with its values, which goes as far as the window may look.
use Rattle.std.proofs.Common.{◌≡◌, ◌⊎◌, inl, inr, ◌≤◌, Bool, true, false, List, [], ◌∷◌, ◌++◌, refl, sym, subst, ap, ◌∙◌, arith, Option, Some}
use Rattle.std.proofs.Common.{None, ℤ, pos, ◌<ℤ◌, ◌≤ℤ◌}
use Rattle.std.specs.Prelude.{IfSome, int_lt}
use Rattle.std.proofs.lemmas.Int.{ints}
use Rattle.std.proofs.lemmas.List.{append-nil, append_assoc}
use Rattle.rational.specs.Rational.{whole}
use Rattle.rational.specs.Time.{Rational, ◌≈◌, ◌≤ʳ◌, ◌<ʳ◌}
use Rattle.rational.specs.Places.{Place, After, Before, Same, Upto}
use Rattle.rational.proofs.Order.{ge_of_same, le_of_same, le_trans, lt_of_le_of_lt, lt_of_lt_of_le, lt_or_same_or_gt, not_lt_of_le, same_trans}
use Rattle.rational.proofs.PlaceLemmas.{after_same, place_order, same_places, upto_same}
use Rattle.rational.proofs.Tests.{int_order}
use Rattle.rational.proofs.TimeLemmas.{le_ahead}
use Rattle.frac128.specs.Cuts.{place}
use Rattle.value_laws.specs.declared.margin.Margin.{Margin}
use Rattle.pieces.specs.declared.piece.Piece.{Piece}
use Rattle.pieces.specs.declared.reach.Way.{Way}
use Rattle.pieces.specs.Chains.{stop_from}
use Rattle.pieces.specs.Streaming.{before_time}
use Rattle.pieces.specs.Windows.{IsSmall}
use Rattle.pieces.proofs.ChainLemmas.{stop_append}
use Rattle.pieces.proofs.Ends.{after_le, upto_of_lt}
use Rattle.stl_syntax.specs.Trace.{start, stop as last_of}
use Rattle.online_robust.specs.Slides.{AreFrom, ArePart, AreToCome, Course, IsToldFor, IsWayOf, IsWhole, after_time, chain_of, cursor, high_at, input}
use Rattle.online_robust.specs.Slides.{pieces_kept, pieces_of, reach_of}
use Rattle.online_robust.specs.Told.{IsTick}
use Rattle.online_robust.specs.declared.line.MarginLine.{MarginLine}
use Rattle.online_robust.proofs.Robustly.{robust_is_function}
use Rattle.online_robust.proofs.SlideReady.{exact_whole, filled_whole}
use Rattle.online_robust.proofs.SlideWhole.{lines_part, nothing_up_to, parts_join, parts_none}

-- a number is above 0, or not
pub sign : (k : ℤ) → (pos 0 <ℤ k) ⊎ (k ≤ℤ pos 0)
sign k = by_test (int_lt (pos 0) k) refl
  where
    by_test : (b : Bool) → int_lt (pos 0) k ≡ b → (pos 0 <ℤ k) ⊎ (k ≤ℤ pos 0)
    by_test true e = inl (int_order (pos 0) k true e)
    by_test false e = inr (int_order (pos 0) k false e)

-- what a window may look at, as one chain, and what is behind it
pub record IsAll (x : Course) (way : Way) (ps : List (Piece Margin)) (kept : Option (Piece Margin)) (lines : List MarginLine) : Type 0 where
  -- what is behind the front
  pub behind : List (Piece Margin)
  -- all of it
  pub whole_is : IsWhole x way (chain_of x.from (ps ++ (pieces_kept kept ++ (pieces_of lines ++ behind))))
  -- nothing is behind it where the input has ended
  pub ends : (high_at x ≤ʳ x.front) ⊎ (behind ≡ [])

module _ (x : Course) (way : Way) (is_way : IsWayOf x.window way) (small : IsSmall (reach_of x.window)) (begins : Same x.from (before_time (start x.trace)))
    (first : IsTick (start x.trace)) (few : x.reach ≤ 4294967295) (to_tick : IsTick x.to) (by : x.front ≤ʳ last_of x.trace)
    (tick : x.front ≤ʳ whole (pos 4294967295)) (started : start x.trace ≤ʳ x.to) (told_for : IsToldFor x)
    (ps : List (Piece Margin)) (kept : Option (Piece Margin)) (lines : List MarginLine) (part : ArePart (input x) x.reach x.from ps)
    (kept_is : IfSome kept (λ p. ArePart (input x) x.reach (stop_from x.from ps) (p ∷ [])))
    (come : AreToCome (input x) x.reach (start x.trace) x.front (cursor (stop_from x.from ps) kept) lines) where
  abbrev qs : List (Piece Margin)
  qs = ps ++ (pieces_kept kept ++ pieces_of lines)

  abbrev c : Place
  c = cursor (stop_from x.from ps) kept

  -- the point that is kept, as pieces
  kept_part : ArePart (input x) x.reach (stop_from x.from ps) (pieces_kept kept) × (stop_from (stop_from x.from ps) (pieces_kept kept) ≡ c)
  kept_part = by_kept kept kept_is
    where
      by_kept : (k : Option (Piece Margin)) → IfSome k (λ p. ArePart (input x) x.reach (stop_from x.from ps) (p ∷ []))
          → ArePart (input x) x.reach (stop_from x.from ps) (pieces_kept k) × (stop_from (stop_from x.from ps) (pieces_kept k) ≡ cursor (stop_from x.from ps) k)
      by_kept None h = (parts_none (input x) (robust_is_function x.formula x.trace) x.reach (stop_from x.from ps), refl)
      by_kept (Some p) h = (h, refl)

  -- the lines to come, where there are any to the front
  with_lines : (lines_is : ArePart (input x) x.reach c (pieces_of lines)) → ArePart (input x) x.reach x.from qs
  with_lines lines_is = parts_join (input x) (robust_is_function x.formula x.trace) x.reach x.from ps (pieces_kept kept ++ pieces_of lines) part
      (parts_join (input x) (robust_is_function x.formula x.trace) x.reach (stop_from x.from ps) (pieces_kept kept) (pieces_of lines) kept_part.0
      (subst (λ d. ArePart (input x) x.reach d (pieces_of lines)) (sym kept_part.1) lines_is))

  stop_is : stop_from x.from qs ≡ stop_from c (pieces_of lines)
  stop_is = stop_append x.from ps (pieces_kept kept ++ pieces_of lines)
      ∙ stop_append (stop_from x.from ps) (pieces_kept kept) (pieces_of lines) ∙ ap (λ d. stop_from d (pieces_of lines)) kept_part.1

  exact_same : chain_of x.from qs ≡ chain_of x.from (ps ++ (pieces_kept kept ++ (pieces_of lines ++ [])))
  exact_same = ap (λ l. chain_of x.from (ps ++ (pieces_kept kept ++ l))) (sym (append-nil (pieces_of lines)))

  filled_same : (more : List (Piece Margin)) → chain_of x.from (qs ++ more) ≡ chain_of x.from (ps ++ (pieces_kept kept ++ (pieces_of lines ++ more)))
  filled_same more = ap (chain_of x.from) (append_assoc ps (pieces_kept kept ++ pieces_of lines) more
      ∙ ap (λ l. ps ++ l) (append_assoc (pieces_kept kept) (pieces_of lines) more))

  -- it ends with the front
  exact : ArePart (input x) x.reach x.from qs → Same (stop_from x.from qs) (after_time x.front) → x.to ≤ʳ x.front
      → (high_at x ≤ʳ x.front) ⊎ (Same (stop_from x.from qs) (after_time (last_of x.trace)) × (last_of x.trace ≤ʳ x.front) × (x.to ≈ last_of x.trace))
      → IsAll x way ps kept lines
  exact all same far ended = record {
    behind = [];
    whole_is = subst (λ s. IsWhole x way s) exact_same
        (exact_whole x way is_way small begins first few to_tick by qs all same tick far ended);
    ends = inr refl;
  }

  -- something follows
  filled : ArePart (input x) x.reach x.from qs → Before (stop_from x.from qs) (place way.to) → high_at x ≤ʳ x.front
      → ((t : Rational) → After (stop_from x.from qs) t → x.front <ʳ t)
      → ((t : Rational) → After x.from t → t ≤ʳ x.front → Upto (stop_from x.from qs) t) → (pos 0 <ℤ x.window.high → ⊥) → IsAll x way ps kept lines
  filled all later told behind upto level = record {
    behind = nothing_up_to way.to ∷ [];
    whole_is = subst (λ s. IsWhole x way s) (filled_same (nothing_up_to way.to ∷ []))
        (filled_whole x way is_way small begins first few to_tick by qs all later told behind upto level tick);
    ends = inl told;
  }

  -- what comes is told up to the front
  by_lines : AreFrom c x.front lines → IsAll x way ps kept lines
  by_lines from = by_told told_for
    where
      told_lines : ArePart (input x) x.reach c (pieces_of lines) × Same (stop_from c (pieces_of lines)) (after_time x.front)
      told_lines = lines_part (input x) (robust_is_function x.formula x.trace) x.reach c x.front lines come.told come.fit from

      all : ArePart (input x) x.reach x.from qs
      all = with_lines told_lines.0

      same : Same (stop_from x.from qs) (after_time x.front)
      same = subst (λ d. Same d (after_time x.front)) (sym stop_is) told_lines.1

      behind : (t : Rational) → After (stop_from x.from qs) t → x.front <ʳ t
      behind t h = after_same (stop_from x.from qs) (after_time x.front) t same h

      upto : (t : Rational) → After x.from t → t ≤ʳ x.front → Upto (stop_from x.from qs) t
      upto t h k = upto_same (after_time x.front) (stop_from x.from qs) t (same_places same) k

      -- the way ends no earlier than the front
      by_place : high_at x ≤ʳ x.front → (pos 0 <ℤ x.window.high → ⊥)
          → Before (stop_from x.from qs) (place way.to) ⊎ Same (stop_from x.from qs) (place way.to) ⊎ Before (place way.to) (stop_from x.from qs)
          → IsAll x way ps kept lines
      by_place told level (inl later) = filled all later told behind upto level
      by_place told level (inr (inl end)) = exact all same
          (le_trans to_tick.1 (le_trans (ge_of_same is_way.to.0) (le_trans (ge_of_same end.0) (le_of_same same.0)))) (inl told)
      by_place told level (inr (inr (inl over))) =
          absurd (not_lt_of_le (le_trans (le_of_same same.0) (le_trans tick (ge_of_same is_way.to.0))) over)
      by_place told level (inr (inr (inr (at, before, after)))) = absurd (let z : false ≡ true = sym before ∙ is_way.to.1 in cc)

      by_sign : high_at x ≤ʳ x.front → (pos 0 <ℤ x.window.high) ⊎ (x.window.high ≤ℤ pos 0) → IsAll x way ps kept lines
      by_sign told (inl ahead) = exact all same (le_trans (le_ahead x.to x.window.high (omega (arith, ints, ahead))) told) (inl told)
      by_sign told (inr behind_it) = by_place told (λ h. omega (arith, ints, behind_it, h)) (place_order (stop_from x.from qs) (place way.to))

      by_told : IsToldFor x → IsAll x way ps kept lines
      by_told (inl told) = by_sign told (sign x.window.high)
      by_told (inr (front, at)) = exact all same (le_trans (le_of_same at) (ge_of_same front))
          (inr ((same_trans same.0 front, same.1), ge_of_same front, at))

  -- nothing has come
  by_nothing : lines ≡ [] → x.front <ʳ start x.trace → Same c (before_time (start x.trace)) → IsAll x way ps kept lines
  by_nothing none lt at_start = by_told told_for
    where
      all : ArePart (input x) x.reach x.from qs
      all = with_lines (subst (λ l. ArePart (input x) x.reach c (pieces_of l)) (sym none)
          (parts_none (input x) (robust_is_function x.formula x.trace) x.reach c))

      at_c : stop_from x.from qs ≡ c
      at_c = stop_is ∙ ap (λ l. stop_from c (pieces_of l)) none

      later : Before (stop_from x.from qs) (place way.to)
      later = subst (λ d. Before d (place way.to)) (sym at_c) (by_order (lt_or_same_or_gt c.at (place way.to).at))
        where
          most : c.at ≤ʳ (place way.to).at
          most = le_trans (le_of_same at_start.0) (le_trans first.1 (ge_of_same is_way.to.0))

          by_order : (c.at <ʳ (place way.to).at) ⊎ (c.at ≈ (place way.to).at) ⊎ ((place way.to).at <ʳ c.at) → Before c (place way.to)
          by_order (inl h) = inl h
          by_order (inr (inl e)) = inr (e, at_start.1, is_way.to.1)
          by_order (inr (inr h)) = absurd (not_lt_of_le most h)

      behind : (t : Rational) → After (stop_from x.from qs) t → x.front <ʳ t
      behind t h = lt_of_lt_of_le lt (le_trans (ge_of_same at_start.0) (after_le c t (subst (λ d. After d t) at_c h)))

      upto : (t : Rational) → After x.from t → t ≤ʳ x.front → Upto (stop_from x.from qs) t
      upto t h k = subst (λ d. Upto d t) (sym at_c) (upto_of_lt c t (lt_of_le_of_lt k (lt_of_lt_of_le lt (ge_of_same at_start.0))))

      by_told : IsToldFor x → IsAll x way ps kept lines
      by_told (inl told) = filled all later told behind upto
          (λ ahead. not_lt_of_le (le_trans started (le_trans (le_ahead x.to x.window.high (omega (arith, ints, ahead))) told)) lt)
      by_told (inr (front, at)) = absurd (not_lt_of_le (le_trans started (le_trans (le_of_same at) (ge_of_same front))) lt)

  -- all of it
  pub ready_all : IsAll x way ps kept lines
  ready_all = by_on come.go_on
    where
      by_on : AreFrom c x.front lines ⊎ ((lines ≡ []) × (x.front <ʳ start x.trace) × Same c (before_time (start x.trace))) → IsAll x way ps kept lines
      by_on (inl from) = by_lines from
      by_on (inr (none, lt, at_start)) = by_nothing none lt at_start
