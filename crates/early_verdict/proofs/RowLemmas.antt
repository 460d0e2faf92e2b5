-- Rows with one more: its time, its place, and what they said before.
use Rattle.std.proofs.Common.{◌≡◌, refl, sym, ap, subst, ℕ, suc, ◌<◌, Some, None, List, [], ◌∷◌, ◌++◌, length, pos}
use Rattle.std.specs.Prelude.{slice_get}
use Rattle.rational.specs.Time.{Rational, ◌≤ʳ◌, whole}
use Rattle.rational.proofs.Order.{same_sym}
use Rattle.rational.proofs.Tests.{same_tests}
use Rattle.stl_syntax.specs.Trace.{Header, Row, AreRows, AreRowsAfter, row_time, last_time}
use Rattle.stl_syntax.specs.Truth.{holds_at}
use Rattle.stl_syntax.specs.declared.atom.Atom.{Atom}
use Rattle.stl_syntax.proofs.TruthLemmas.{compares_same}
use Rattle.stl_syntax.proofs.PrefixLaw.{same_atom}
use Rattle.stl_syntax.proofs.RowsLemmas.{last_time-push, rows-push}
use Rattle.early_verdict.specs.Adding.{IsNextRow}
use Rattle.early_verdict.specs.Deciding.{last_after, trace_of}

-- the time of the last row
pub last_is : (r : Row) (rows : List Row) → last_time r.time rows ≡ (last_after r rows).time
last_is r [] = refl
last_is r (s ∷ rows) = last_is s rows

-- the last of rows with one more is that one
pub last_row_pushed : (r : Row) (rows : List Row) (x : Row) → last_after r (rows ++ x ∷ []) ≡ x
last_row_pushed r [] x = refl
last_row_pushed r (s ∷ rows) x = last_row_pushed s rows x

-- a later row of the same width goes on from rows
pub rows_pushed : (width : ℕ) (r : Row) (rows : List Row) (x : Row) → AreRows width (r ∷ rows) → (last_after r rows).time < x.time → length x.values ≡ width
    → AreRows width (r ∷ (rows ++ x ∷ []))
rows_pushed width r rows x h l w = (h.0, rows-push width r.time rows x h.1 (subst (λ t. t < x.time) (sym (last_is r rows)) l) w)

-- the last two rows stand side by side
pub neighbours : (r : Row) (rows : List Row) (x : Row)
    → (k : ℕ) × (slice_get (r ∷ (rows ++ x ∷ [])) k ≡ Some (last_after r rows)) × (slice_get (r ∷ (rows ++ x ∷ [])) (suc k) ≡ Some x)
neighbours r [] x = (0, refl, refl)
neighbours r (s ∷ rows) x = let (k, a, b) = neighbours s rows x in (suc k, a, b)

-- an atom is as it was up to the last row
pub same_before : (header : Header) (width : ℕ) (r : Row) (rows more : List Row) → AreRowsAfter width r.time (rows ++ more)
    → (a : Atom) (t : Rational) → row_time r ≤ʳ t
    → t ≤ʳ whole (pos (last_time r.time rows)) → holds_at a (trace_of header (r ∷ (rows ++ more))) t ≡ holds_at a (trace_of header (r ∷ rows)) t
same_before header width r rows more ok a t f l =
    let e = same_atom header width r rows more ok a t f l in
    same_tests (holds_at a (trace_of header (r ∷ (rows ++ more))) t) (holds_at a (trace_of header (r ∷ rows)) t)
    (λ h. compares_same a.rel _ _ (same_sym e) h) (λ h. compares_same a.rel _ _ e h)

-- a row after others is the next
pub is_next : (header : Header) (width : ℕ) (r : Row) (rows : List Row) (x : Row) (a : Atom) → AreRows width (r ∷ rows) → (last_after r rows).time < x.time
    → length x.values ≡ width → IsNextRow a (Some (trace_of header (r ∷ rows))) (trace_of header (r ∷ (rows ++ x ∷ []))) (Some (last_after r rows)) x
is_next header width r rows x a h l w =
    let n = neighbours r rows x in
    record {
      stops = ap (λ t. whole (pos t)) (last_time-push r.time rows x);
      stands = (suc n.0, n.2);
      first = (
        last_after r rows,
        refl,
        ap (λ t. whole (pos t)) (last_is r rows),
        l,
        n,
        λ t f k. same_before header width r rows (x ∷ []) (rows_pushed width r rows x h l w).1 a t f k,
      );
    }

-- so is the first
pub is_first_row : (header : Header) (x : Row) (a : Atom) → IsNextRow a None (trace_of header (x ∷ [])) None x
is_first_row header x a = record { stops = refl; stands = (0, refl); first = (refl, refl) }
