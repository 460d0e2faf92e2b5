-- A constant or an atom goes on by a row.
use Rattle.std.proofs.Common.{◌≡◌, ◌⊎◌, inl, inr, ℕ, ◌<◌, ◌≤◌, ◌^◌, false, List, [], ◌∷◌, ◌++◌, length}
use Rattle.std.proofs.Common.{refl, sym, ap, subst, arith, Option, Some, None, pos, ◌-ℤ◌, ◌<ℤ◌}
use Rattle.std.specs.Prelude.{MatchBool, IfSome, map}
use Rattle.std.proofs.lemmas.Int.{ints}
use Rattle.rational.specs.Rational.{Rational, whole, ◌≈◌}
use Rattle.rational.specs.Time.{◌<ʳ◌}
use Rattle.rational.specs.Knots as plain
use Rattle.rational.specs.Knots.{Piece}
use Rattle.rational.specs.Extended.{value_at}
use Rattle.rational.specs.Affine.{IsBounded}
use Rattle.rational.proofs.Order.{le_trans, lt_of_le_of_lt, lt_of_lt_of_le, le_of_same, ge_of_same, same_refl}
use Rattle.rational.proofs.AffineLemmas.{bounded_same, value_same}
use Rattle.rational.proofs.Shift.{le_whole, lt_whole}
use Rattle.rational.proofs.Tests.{int_below}
use Rattle.frac128.specs.Value.{value}
use Rattle.frac128.specs.declared.frac.Frac.{Frac}
use Rattle.value_laws.specs.Kinds.{margin_shape}
use Rattle.value_laws.specs.Margins.{margin_base, margin_function}
use Rattle.value_laws.specs.declared.margin.Margin.{Margin}
use Rattle.pl_signal.specs.declared.knot.Knot.{Knot}
use Rattle.pl_signal.specs.Knots.{IsKnot}
use Rattle.pl_signal.specs.Plain.{plain_knot, pieces_of, knots_of}
use Rattle.stl_syntax.specs.Trace.{Header, Row, Trace, IsTrace, Continues, last_time, row_time}
use Rattle.stl_syntax.specs.Formula.{Subformula, horizon}
use Rattle.stl_syntax.specs.SupInf.{Robustness}
use Rattle.stl_syntax.proofs.RowsLemmas.{rows_in_front, last_from}
use Rattle.online_nodes.specs.MarginEdges.{AreNewParts, parts_after}
use Rattle.online_nodes.specs.MarginStream.{TellsLeftOpen}
use Rattle.online_nodes.specs.StreamedWide.{front_at}
use Rattle.online_robust.specs.Told.{AreTold, AreFit, AreJoined, IsTick, IsMovedBy}
use Rattle.online_robust.specs.Putting.{lines_after, AreRowLines}
use Rattle.online_robust.specs.Pasts.{part_of, shown_by}
use Rattle.online_robust.specs.Moving.{AreMore, last_row_after}
use Rattle.online_robust.specs.declared.line.MarginLine.{MarginLine}
use Rattle.online_robust.specs.declared.line.MarginLine.TheVariants.{Point, Gap}
use Rattle.online_robust.proofs.GivenOutGrows.{itself, last_below}
use Rattle.online_robust.proofs.RowFacts.{number_shown}
use Rattle.online_robust.proofs.SignalLines.{after_parts, all_parts, tells_after, tells_closed}

-- the time of the last row
pub last_row_time : (q : Row) (rows : List Row) → (last_row_after q rows).time ≡ last_time q.time rows
last_row_time q [] = refl
last_row_time q (r ∷ rows) = last_row_time r rows

-- what a leaf is at a row and since the row before, in each trace that goes on from the rows
pub record IsLeafAt (p : Subformula) (header : Header) (rows : List Row) (before : Option Row) (r : Row) (piece v : Margin) : Type 0 where
  -- it looks nowhere
  pub flat : horizon p ≡ 0
  -- it has that margin at the row
  pub here : (tr : Trace) → IsTrace tr → Continues tr header (rows ++ r ∷ []) false → (t : Rational) → t ≈ row_time r
      → Robustness p tr t (value_at (margin_function v) t)
  -- and that one since the row before
  pub since : (tr : Trace) → IsTrace tr → Continues tr header (rows ++ r ∷ []) false
      → IfSome before (λ f. (t : Rational) → row_time f <ʳ t → t <ʳ row_time r → Robustness p tr t (value_at (margin_function piece) t))
  -- within the limits
  pub within : (t : Rational) → IsBounded (2 ^ 31) (value_at (margin_function v) t)
  -- on the gap too
  pub limits : IfSome before
      (λ f. IsBounded (2 ^ 31) (value_at (margin_function piece) (row_time f)) × IsBounded (2 ^ 31) (value_at (margin_function piece) (row_time r)))
  -- its base is the start of time
  pub base : margin_base v ≡ pos 0
  -- or the row before
  pub base_since : IfSome before (λ f. (margin_base piece ≡ pos f.time) ⊎ (margin_base piece ≡ pos 0))

bounded_at : (p : Margin) (t u : Rational) → t ≈ u → IsBounded (2 ^ 31) (value_at (margin_function p) u) → IsBounded (2 ^ 31) (value_at (margin_function p) t)
bounded_at p t u e h = bounded_same (2 ^ 31) (value_at (margin_function p) t) (value_at (margin_function p) u) (value_same (margin_function p) e) h

tick_of : (t : Rational) (n : ℕ) → t ≈ whole (pos n) → n ≤ 4294967295 → IsTick t
tick_of t n e le = (
  le_trans (le_whole {j = pos 0} {k = pos n} (omega (arith, ints))) (ge_of_same e),
  le_trans (le_of_same e) (le_whole {j = pos n} {k = pos 4294967295} (omega (arith, ints, le))),
)

moved_base : (most n : ℕ) (p : Margin) → n ≤ 4294967295 → (margin_base p ≡ pos n) ⊎ (margin_base p ≡ pos 0) → IsMovedBy most p
moved_base most n p le (inl e) = (omega (arith, ints, e), omega (arith, ints, e, le))
moved_base most n p le (inr e) = (omega (arith, ints, e), omega (arith, ints, e))

module _ (p : Subformula) (header : Header) (r : Row) (piece v : Margin) (most : ℕ) where
  -- the first row
  module _ (leaf : IsLeafAt p header [] None r piece v) (is : IsTrace (record { header = header; rows = r ∷ [] })) (small : r.time ≤ 4294967295) where
    -- the lines of the first row are its first parts
    pub first_parts : (more : List MarginLine) → AreRowLines None r piece v more
        → AreNewParts p (record { header = header; rows = r ∷ [] }) None (Some (pos r.time)) (map part_of more)
    first_parts more (at, when, e) =
        let k : Knot Margin = record { time = at; point = v; after = v } in
        let so_far : Trace = record { header = header; rows = r ∷ [] } in
        let knot : IsKnot margin_shape k [] = record { rising = tt; needed = tt; ends = refl } in
        subst (λ l. AreNewParts p so_far None (Some (pos r.time)) (map part_of l)) (sym e) (
          knots_of margin_shape (k ∷ []),
          tells_closed p so_far (row_time r) (row_time r) k [] (knot, tt) (leaf.here so_far is (itself so_far false) (value at) when, tt) when when,
          all_parts k [],
        )

    -- the lines of the first row tell the node's margin
    pub first_told : (more : List MarginLine) → AreRowLines None r piece v more → (tr : Trace) → IsTrace tr → Continues tr header (r ∷ []) false
        → AreMore (Robustness p tr) most r.time None (Some (pos r.time)) more
    first_told more (at, when, e) tr trace c =
        subst (λ l. AreMore (Robustness p tr) most r.time None (Some (pos r.time)) l) (sym e) (record {
          told = (leaf.here tr trace c (value at) when, tt);
          fit = ((tick_of (value at) r.time when small, leaf.within (value at), moved_base most 0 v (omega arith) (inl leaf.base)), tt);
          left = (at, v, [], refl, when, when);
        })

  -- a later row
  module _ (q : Row) (rows : List Row) (leaf : IsLeafAt p header (q ∷ rows) (Some (last_row_after q rows)) r piece v)
      (is : IsTrace (record { header = header; rows = q ∷ rows ++ r ∷ [] })) (small : r.time ≤ 4294967295) where
    abbrev f : Row
    f = last_row_after q rows

    abbrev so_far : Trace
    so_far = record { header = header; rows = q ∷ rows ++ r ∷ [] }

    before : f.time < r.time
    before = let lt = last_below header q rows r is in let e = last_row_time q rows in omega (arith, lt, e)

    rising : (from at : Frac) → value from ≈ row_time f → value at ≈ row_time r → value from <ʳ value at
    rising from at a b = lt_of_le_of_lt (le_of_same a)
        (lt_of_lt_of_le (lt_whole {j = pos f.time} {k = pos r.time} (omega (arith, ints, before))) (ge_of_same b))

    told_lines : (from at : Frac) → value from ≈ row_time f → value at ≈ row_time r → (tr : Trace) → IsTrace tr → Continues tr header (q ∷ rows ++ r ∷ []) false
        → AreTold (Robustness p tr) (Gap from at piece ∷ Point at v ∷ [])
    told_lines from at a b tr trace c = (
      (
        rising from at a b,
        λ t low high. leaf.since tr trace c t (lt_of_le_of_lt (ge_of_same a) low) (lt_of_lt_of_le high (le_of_same b)),
      ),
      (leaf.here tr trace c (value at) b, tt),
    )

    old_is : shown_by false p (q ∷ rows) ≡ Some (pos (last_time q.time rows))
    old_is =
        number_shown p false (q ∷ rows) (pos (last_time q.time rows)) (ap Some (front_flat (last_time q.time rows)))
        (let le = last_not_below_rows in omega (arith, ints, le))
      where
        front_flat : (n : ℕ) → front_at false (pos n) p ≡ pos n
        front_flat n = let flat = leaf.flat in subst (λ h. pos n -ℤ pos h ≡ pos n) (sym flat) (omega (arith, ints))

        last_not_below_rows : q.time ≤ last_time q.time rows
        last_not_below_rows = last_from (length header.columns) q.time rows (rows_in_front (length header.columns) q.time rows (r ∷ []) is.rows.1)

    -- the lines of a later row are its next parts
    pub later_parts : (more : List MarginLine) → AreRowLines (Some f) r piece v more
        → AreNewParts p so_far (shown_by false p (q ∷ rows)) (Some (pos r.time)) (map part_of more)
    later_parts more (from, at, a, b, e) =
        let k : Knot Margin = record { time = from; point = piece; after = piece } in
        let n : Knot Margin = record { time = at; point = v; after = v } in
        let last : IsKnot margin_shape n [] = record { rising = tt; needed = tt; ends = refl } in
        let first : IsKnot margin_shape k (n ∷ []) = record { rising = rising from at a b; needed = tt; ends = tt } in
        let lt : pos (last_time q.time rows) <ℤ pos r.time = let l = before in let s = last_row_time q rows in omega (arith, ints, l, s) in
        let begins : value from ≈ whole (pos (last_time q.time rows)) = subst (λ n. value from ≈ whole (pos n)) (last_row_time q rows) a in
        subst (λ l. AreNewParts p so_far (shown_by false p (q ∷ rows)) (Some (pos r.time)) (map part_of l)) (sym e)
        (subst (λ o. AreNewParts p so_far o (Some (pos r.time)) (map part_of (lines_after k (n ∷ [])))) (sym old_is)
        (subst (λ b. MatchBool b
        ((x : plain.Knot) × (pieces : List Piece) × TellsLeftOpen p so_far (whole (pos (last_time q.time rows))) (whole (pos r.time)) x pieces
        × (map part_of (lines_after k (n ∷ [])) ≡ parts_after x.time pieces)) (map part_of (lines_after k (n ∷ [])) ≡ []))
        (sym (int_below (pos (last_time q.time rows)) (pos r.time) lt)) (
          plain_knot margin_shape k,
          pieces_of margin_shape k (n ∷ []),
          (begins, tells_after p so_far (whole (pos r.time)) k n [] (first, (last, tt)) (told_lines from at a b so_far is (itself so_far false)) b),
          after_parts k (n ∷ []),
        )))

    -- the lines of a later row tell the node's margin
    pub later_told : (more : List MarginLine) → AreRowLines (Some f) r piece v more → (tr : Trace) → IsTrace tr → Continues tr header (q ∷ rows ++ r ∷ []) false
        → AreMore (Robustness p tr) most q.time (shown_by false p (q ∷ rows)) (Some (pos r.time)) more
    later_told more (from, at, a, b, e) tr trace c =
        let lt : pos (last_time q.time rows) <ℤ pos r.time = let l = before in let s = last_row_time q rows in omega (arith, ints, l, s) in
        let begins : value from ≈ whole (pos (last_time q.time rows)) = subst (λ n. value from ≈ whole (pos n)) (last_row_time q rows) a in
        let low : f.time ≤ 4294967295 = let l = before in omega (arith, l, small) in
        let lines : List MarginLine = Gap from at piece ∷ Point at v ∷ [] in
        subst (λ l. AreMore (Robustness p tr) most q.time (shown_by false p (q ∷ rows)) (Some (pos r.time)) l) (sym e)
        (subst (λ o. AreMore (Robustness p tr) most q.time o (Some (pos r.time)) lines) (sym old_is)
        (subst (λ b. MatchBool b
        (AreTold (Robustness p tr) lines × AreFit most lines × AreJoined (whole (pos (last_time q.time rows))) (whole (pos r.time)) lines) (lines ≡ []))
        (sym (int_below (pos (last_time q.time rows)) (pos r.time) lt)) (
          told_lines from at a b tr trace c,
          (
            (
              tick_of (value from) f.time a low,
              tick_of (value at) r.time b small,
              bounded_at piece (value from) (row_time f) a leaf.limits.0,
              bounded_at piece (value at) (row_time r) b leaf.limits.1,
              moved_base most f.time piece low leaf.base_since,
            ),
            ((tick_of (value at) r.time b small, leaf.within (value at), moved_base most 0 v (omega arith) (inl leaf.base)), tt),
          ),
          (begins, same_refl (value at), b),
        )))
