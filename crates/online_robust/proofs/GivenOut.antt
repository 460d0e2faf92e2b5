-- What a node gave out, with one row more and with the end.
use Rattle.std.proofs.Common.{◌≡◌, ◌≤◌, Bool, true, false, List, [], ◌∷◌, ◌++◌, length, refl, sym, ap}
use Rattle.std.proofs.Common.{subst, ◌∙◌, arith, append_assoc, append-nil, Option, Some, None, ℤ, pos}
use Rattle.std.specs.Prelude.{int_lt, cond}
use Rattle.std.proofs.lemmas.Int.{ints}
use Rattle.rational.proofs.Tests.{int_order}
use Rattle.stl_syntax.specs.Trace.{Header, Row, IsTrace, first_time, last_time}
use Rattle.stl_syntax.specs.Formula.{Subformula}
use Rattle.stl_syntax.proofs.RowsLemmas.{last_time-push, last_from}
use Rattle.online_nodes.specs.MarginEdges.{Part, AreNewParts, AreRowsParts, AreEmittedParts, shown_number}
use Rattle.online_nodes.specs.StreamedWide.{front_at}
use Rattle.online_robust.specs.Pasts.{shown_by}

-- what is shown after a row more follows from its time
pub shown_appended : (p : Subformula) (rows : List Row) (r : Row)
    → shown_by false p (rows ++ r ∷ []) ≡ shown_number (first_time (rows ++ r ∷ [])) (front_at false (pos r.time) p)
shown_appended p [] r = refl
shown_appended p (q ∷ rows) r = ap (λ t. shown_number q.time (front_at false (pos t) p)) (last_time-push q.time rows r)

module _ (p : Subformula) (header : Header) where
  rows_more : (before rows all : List Row) (r : Row) (old : Option ℤ) (parts more : List Part) → all ≡ before ++ rows → old ≡ shown_by false p before
      → AreRowsParts p header before old rows parts
      → AreNewParts p (record { header = header; rows = all ++ r ∷ [] }) (shown_by false p all) (shown_by false p (all ++ r ∷ [])) more
      → AreRowsParts p header before old (rows ++ r ∷ []) (parts ++ more)
  rows_more before [] all r old parts more is at are new =
      let same : all ≡ before = is ∙ append-nil before in
      let here : AreNewParts p (record { header = header; rows = before ++ r ∷ [] }) old
      (shown_number (first_time (before ++ r ∷ [])) (front_at false (pos r.time) p)) more =
      subst (λ o. AreNewParts p (record { header = header; rows = before ++ r ∷ [] }) o
      (shown_number (first_time (before ++ r ∷ [])) (front_at false (pos r.time) p)) more) (sym at)
      (subst (λ n. AreNewParts p (record { header = header; rows = before ++ r ∷ [] }) (shown_by false p before) n more) (shown_appended p before r)
      (subst (λ l. AreNewParts p (record { header = header; rows = l ++ r ∷ [] }) (shown_by false p l) (shown_by false p (l ++ r ∷ [])) more) same new)) in
      (more, [], here, refl, ap (λ l. l ++ more) are ∙ sym (append-nil more))
  rows_more before (q ∷ rows) all r old parts more is at (here, later, is_here, are, e) new = (
    here,
    later ++ more,
    is_here,
    rows_more (before ++ q ∷ []) rows all r (shown_number (first_time (before ++ q ∷ [])) (front_at false (pos q.time) p)) later more
        (is ∙ sym (append_assoc before (q ∷ []) rows)) (sym (shown_appended p before q)) are new,
    ap (λ l. l ++ more) e ∙ append_assoc here later more,
  )

  -- a row more
  pub emitted_row : (rows : List Row) (r : Row) (parts more : List Part) → AreEmittedParts p header rows false parts
      → AreNewParts p (record { header = header; rows = rows ++ r ∷ [] }) (shown_by false p rows) (shown_by false p (rows ++ r ∷ [])) more
      → AreEmittedParts p header (rows ++ r ∷ []) false (parts ++ more)
  emitted_row rows r parts more are new = rows_more [] rows rows r None parts more refl refl are new

  -- the last time is not below the first
  pub last_above : (r : Row) (rows : List Row) → IsTrace (record { header = header; rows = r ∷ rows }) → r.time ≤ last_time r.time rows
  last_above r rows is = last_from (length header.columns) r.time rows is.rows.1

  -- at the end the number is shown
  pub shown_ended : (r : Row) (rows : List Row) → IsTrace (record { header = header; rows = r ∷ rows })
      → shown_by true p (r ∷ rows) ≡ Some (pos (last_time r.time rows))
  shown_ended r rows is = by_test (int_lt (pos (last_time r.time rows)) (pos r.time)) refl
    where
      by_test : (t : Bool) → int_lt (pos (last_time r.time rows)) (pos r.time) ≡ t
          → cond (int_lt (pos (last_time r.time rows)) (pos r.time)) None (Some (pos (last_time r.time rows))) ≡ Some (pos (last_time r.time rows))
      by_test true e =
          let le = last_above r rows is in
          let lt = int_order (pos (last_time r.time rows)) (pos r.time) true e in
          absurd (omega (arith, ints, le, lt))
      by_test false e = rw e refl

  -- the end
  pub emitted_end : (r : Row) (rows : List Row) (parts more : List Part) → IsTrace (record { header = header; rows = r ∷ rows })
      → AreEmittedParts p header (r ∷ rows) false parts
      → AreNewParts p (record { header = header; rows = r ∷ rows }) (shown_by false p (r ∷ rows)) (shown_by true p (r ∷ rows)) more
      → AreEmittedParts p header (r ∷ rows) true (parts ++ more)
  emitted_end r rows parts more is are new = (
    parts,
    more,
    are,
    subst (λ n. AreNewParts p (record { header = header; rows = r ∷ rows }) (shown_by false p (r ∷ rows)) n more) (shown_ended r rows is) new,
    refl,
  )
