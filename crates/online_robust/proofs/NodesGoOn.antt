-- All nodes of a network go on from one past to the next, one after another.
use Rattle.std.proofs.Common.{◌≡◌, inl, inr, ℕ, suc, zero, ◌≤◌, Bool, true, false, List, [], ◌∷◌, ◌++◌}
use Rattle.std.proofs.Common.{length, drop, refl, sym, ap, subst, ◌∙◌, arith, Option, Some, None, ℤ, pos, ◌≤ℤ◌}
use Rattle.std.specs.Prelude.{MatchBool, IfSome, int_lt, cond, slice_get}
use Rattle.std.proofs.lemmas.Int.{ints}
use Rattle.std.proofs.lemmas.Bool.{cases_lt}
use Rattle.rational.specs.Time.{whole, ◌≤ʳ◌, ◌<ʳ◌}
use Rattle.rational.specs.Windows.{Function}
use Rattle.rational.proofs.Order.{lt_of_le_of_lt, ge_of_same}
use Rattle.rational.proofs.Shift.{le_whole}
use Rattle.rational.proofs.Tests.{int_order}
use Rattle.rational.proofs.Lists.{slice_get-append_front}
use Rattle.frac128.specs.Value.{value}
use Rattle.stl_syntax.specs.Trace.{Header, Row, IsTrace, first_time, last_time}
use Rattle.stl_syntax.specs.Formula.{subformula}
use Rattle.stl_syntax.specs.declared.node.Node.{Node}
use Rattle.online_nodes.specs.Network.{reach_back}
use Rattle.online_nodes.specs.Needed.{IsReader}
use Rattle.online_nodes.specs.StreamedWide.{front_at}
use Rattle.online_robust.specs.Lines.{end_of}
use Rattle.online_robust.specs.Told.{AreTold, AreFit, AreJoined}
use Rattle.online_robust.specs.Steps.{back_of}
use Rattle.online_robust.specs.Pasts.{Past, trace_of, shown_by, IsRest, IsHeld}
use Rattle.online_robust.specs.Moving.{AreStreamed, AreMore, IsNext}
use Rattle.online_robust.specs.declared.line.MarginLine.{MarginLine}
use Rattle.online_robust.specs.declared.line.MarginLine.TheVariants.{Point, Gap}
use Rattle.online_robust.proofs.GivenOutGrows.{AreNext, gave_grows, itself, next_cases}
use Rattle.online_robust.proofs.LinesLeft.{back_above}
use Rattle.online_robust.proofs.Readers.{back_within}

-- ---- what is left, with more behind it

first_of_append : {X : Type 0} (P : X → Type 0) (xs ys : List X) → IfSome (slice_get xs 0) P → IfSome (slice_get ys 0) P → IfSome (slice_get (xs ++ ys) 0) P
first_of_append P [] ys h k = k
first_of_append P (x ∷ xs) ys h k = h

drop_within : {X : Type 0} (n : ℕ) (xs ys : List X) → n ≤ length xs → drop n (xs ++ ys) ≡ drop n xs ++ ys
drop_within zero xs ys h = refl
drop_within (suc n) [] ys h = absurd (omega (arith, h))
drop_within (suc n) (x ∷ xs) ys h = drop_within n xs ys (omega (arith, h))

drop_beyond : {X : Type 0} (n : ℕ) (xs : List X) → length xs ≤ n → drop n xs ≡ []
drop_beyond zero [] h = refl
drop_beyond zero (x ∷ xs) h = absurd (omega (arith, h))
drop_beyond (suc n) [] h = refl
drop_beyond (suc n) (x ∷ xs) h = drop_beyond n xs (omega (arith, h))

-- the first of the lines more, if any, ends after the limit
abbrev pub BeginLater : Option ℤ → List MarginLine → Type 0
BeginLater None more = Unit {0}
BeginLater (Some limit) more = IfSome (slice_get more 0) (λ x. whole limit <ʳ value (end_of x))

rest_more : (back : Option ℤ) (lines rest more : List MarginLine) → IsRest back lines rest → BeginLater back more → IsRest back (lines ++ more) (rest ++ more)
rest_more None lines rest more is later = ap (λ l. l ++ more) is
rest_more (Some limit) lines rest more (n, is, ended, first) later = elim (cases_lt (length lines) n) [
  | inl beyond ↦ (
    length lines,
    ap (λ l. l ++ more) (is ∙ drop_beyond n lines (omega (arith, beyond)) ∙ sym (drop_beyond (length lines) lines (omega arith)))
        ∙ sym (drop_within (length lines) lines more (omega arith)),
    λ k h. subst (λ o. IfSome o (λ x. value (end_of x) ≤ʳ whole limit)) (sym (slice_get-append_front lines more k h)) (ended k (omega (arith, h, beyond))),
    first_of_append (λ x. whole limit <ʳ value (end_of x)) rest more first later,
  )
  | inr within ↦ (
    n,
    ap (λ l. l ++ more) is ∙ sym (drop_within n lines more within),
    λ k h. subst (λ o. IfSome o (λ x. value (end_of x) ≤ʳ whole limit)) (sym (slice_get-append_front lines more k (omega (arith, h, within)))) (ended k h),
    first_of_append (λ x. whole limit <ʳ value (end_of x)) rest more first later,
  )
]

-- lines that a number answers beyond an old one end after it
more_later : (F : Function) (most start : ℕ) (old : ℤ) (new : Option ℤ) (limit : ℤ) (more : List MarginLine) → limit ≤ℤ old
    → AreMore F most start (Some old) new more → BeginLater (Some limit) more
more_later F most start old None limit more le are = rw are tt
more_later F most start old (Some new) limit more le are = by_test (int_lt old new) are
  where
    by_lines : (more : List MarginLine) → AreTold F more → AreJoined (whole old) (whole new) more → BeginLater (Some limit) more
    by_lines [] told joined = tt
    by_lines (Gap a b p ∷ []) told joined = absurd joined
    by_lines (Gap a b p ∷ Gap c d q ∷ lines) told joined = absurd joined
    by_lines (Gap a b p ∷ Point u v ∷ lines) told joined = lt_of_le_of_lt (le_whole le) (lt_of_le_of_lt (ge_of_same joined.0) told.0.0)
    by_lines (Point u v ∷ lines) told joined = absurd joined

    by_test : (t : Bool) → MatchBool t (AreTold F more × AreFit most more × AreJoined (whole old) (whole new) more) (more ≡ []) → BeginLater (Some limit) more
    by_test true are = by_lines more are.0 are.2
    by_test false are = rw are tt

-- an edge whose reader stands where it stood
module _ (nodes : List Node) (header : Header) (streamed : AreStreamed nodes) (j r : ℕ) (n : Node) (left : Bool) (at : slice_get nodes r ≡ Some n)
    (reads : IsReader n left j) where
  begins_later : (q : Row) (rows : List Row) (F : Function) (most : ℕ) (new : Option ℤ) (more : List MarginLine)
      → AreMore F most q.time (shown_by false (subformula nodes j) (q ∷ rows)) new more
      → BeginLater (back_of q.time (shown_by false (subformula nodes r) (q ∷ rows)) (reach_back n left)) more
  begins_later q rows F most new more are = by_back (back_of q.time (shown_by false (subformula nodes r) (q ∷ rows)) (reach_back n left)) refl
    where
      by_test : (limit : ℤ) → limit ≤ℤ front_at false (pos (last_time q.time rows)) (subformula nodes j) → pos q.time ≤ℤ limit → (t : Bool)
          → int_lt (front_at false (pos (last_time q.time rows)) (subformula nodes j)) (pos q.time) ≡ t
          → AreMore F most q.time (cond t None (Some (front_at false (pos (last_time q.time rows)) (subformula nodes j)))) new more
          → BeginLater (Some limit) more
      by_test limit le from true e are =
          let lt = int_order (front_at false (pos (last_time q.time rows)) (subformula nodes j)) (pos q.time) true e in
          absurd (omega (arith, ints, le, from, lt))
      by_test limit le from false e are = more_later F most q.time (front_at false (pos (last_time q.time rows)) (subformula nodes j)) new limit more le are

      by_back : (back : Option ℤ) → back_of q.time (shown_by false (subformula nodes r) (q ∷ rows)) (reach_back n left) ≡ back → BeginLater back more
      by_back None e = tt
      by_back (Some limit) e =
          by_test limit (back_within nodes streamed.formed r n left j q.time (last_time q.time rows) limit at (streamed.streamed r n at) reads e)
          (back_above q.time (shown_by false (subformula nodes r) (q ∷ rows)) (reach_back n left) limit e)
          (int_lt (front_at false (pos (last_time q.time rows)) (subformula nodes j)) (pos q.time)) refl are

  -- an edge grows where its node goes on and its reader stays
  abbrev Grows : Past → Past → Type 0
  Grows old new = (held more : List MarginLine) → IsTrace (trace_of header new) → IsHeld nodes header old j old r (reach_back n left) held
      → ((lines : List MarginLine) → AreNext nodes header j lines more old new) → IsHeld nodes header new j old r (reach_back n left) (held ++ more)

  later_row : (rows : List Row) (r' : Row) (lines more : List MarginLine) → IsTrace (record { header = header; rows = rows ++ r' ∷ [] })
      → AreNext nodes header j lines more (record { rows = rows; ended = false }) (record { rows = rows ++ r' ∷ []; ended = false })
      → BeginLater (back_of (first_time rows) (shown_by false (subformula nodes r) rows) (reach_back n left)) more
  later_row [] r' lines more is next = tt
  later_row (q ∷ rows) r' lines more is next =
      begins_later q rows _ _ _ more
      (next.told (record { header = header; rows = q ∷ rows ++ r' ∷ [] }) is (itself (record { header = header; rows = q ∷ rows ++ r' ∷ [] }) false))

  grows_row : (rows : List Row) (r' : Row) → Grows (record { rows = rows; ended = false }) (record { rows = rows ++ r' ∷ []; ended = false })
  grows_row rows r' held more is (lines, gave, rest) next = (
    lines ++ more,
    gave_grows nodes header j lines more (record { rows = rows; ended = false })
        (record { rows = rows ++ r' ∷ []; ended = false }) (refl, inl (r', refl)) is gave (next lines),
    same_first rows (rest_more (back_of (first_time rows) (shown_by false (subformula nodes r) rows) (reach_back n left)) lines held more rest
        (later_row rows r' lines more is (next lines))),
  )
    where
      same_first : (rows : List Row)
          → IsRest (back_of (first_time rows) (shown_by false (subformula nodes r) rows) (reach_back n left)) (lines ++ more) (held ++ more)
          → IsRest (back_of (first_time (rows ++ r' ∷ [])) (shown_by false (subformula nodes r) rows) (reach_back n left)) (lines ++ more) (held ++ more)
      same_first [] h = h
      same_first (q ∷ rows) h = h

  grows_end : (rows : List Row) → Grows (record { rows = rows; ended = false }) (record { rows = rows; ended = true })
  grows_end [] held more is h next = absurd is.rows
  grows_end (q ∷ rows) held more is (lines, gave, rest) next = (
    lines ++ more,
    gave_grows nodes header j lines more (record { rows = q ∷ rows; ended = false }) (record { rows = q ∷ rows; ended = true })
        (refl, inr refl) is gave (next lines),
    rest_more (back_of q.time (shown_by false (subformula nodes r) (q ∷ rows)) (reach_back n left)) lines held more rest
        (begins_later q rows _ _ _ more
        ((next lines).told (record { header = header; rows = q ∷ rows }) is (itself (record { header = header; rows = q ∷ rows }) true))),
  )

  -- what a network gave out only grows
  pub held_grows : (old new : Past) → IsNext old new → Grows old new
  held_grows old new next = next_cases old new next Grows grows_row grows_end
