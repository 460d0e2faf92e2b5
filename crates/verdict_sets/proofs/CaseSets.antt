-- What stands for a case by sets of times, as its rows come.
use Rattle.std.proofs.Common.{◌≡◌, ℕ, zero, suc, ◌-◌, ◌<◌, Bool, List, [], ◌∷◌, ◌++◌, length, take, drop}
use Rattle.std.proofs.Common.{refl, sym, ap, ◌∙◌, subst, arith, append_assoc, length-append, take-append-drop, get_or}
use Rattle.std.specs.Prelude.{◌==◌, Some}
use Rattle.stl_syntax.specs.Formula.{Formula}
use Rattle.stl_syntax.specs.Trace.{Header, Row, Trace, IsTrace, AreRows, last_time}
use Rattle.atom_lines.specs.Binding.{Binding}
use Rattle.atom_lines.specs.Rows.{row_of}
use Rattle.trace_reader.specs.Reader.{Reader, StandsFor}
use Rattle.trace_reader.specs.Taken.{HasTraceSoFar}
use Rattle.trace_reader.proofs.TraceLemmas.{last_behind}
use Rattle.truth_sets.specs.Growing.{IsTail}
use Rattle.truth_sets.specs.Standing.{StandFor}
use Rattle.truth_sets.specs.declared.growing.TruthSets.{TruthSets}
use Rattle.truth_sets.proofs.LongerRows.{stand_longer}
use Rattle.trace_stream.specs.Cases.{Takes}
use Rattle.trace_stream.specs.Kept.{with_rows}
use Rattle.trace_stream.specs.declared.case.Case.{Case}
use Rattle.verdict_sets.specs.Keeping.{HasTail, SetsUpto, SetsOver, HasSets, SetsBefore, CanTakeIn}
use Rattle.verdict_sets.specs.declared.sets.VerdictSets.{VerdictSets}

abbrev pub no_row : Row
no_row = record { time = 0; values = [] }

-- the same with other sets, and with another trace held
abbrev pub with_sets : VerdictSets → TruthSets → VerdictSets
with_sets x sets = record x { sets = sets }

abbrev pub with_trace : VerdictSets → Trace → VerdictSets
with_trace x t = record x { case = record x.case { trace = t } }

module _ (x : VerdictSets) (c : Case) (tail : HasTail x c) where
  -- sets stand for rows by what is held where they do so by the case
  pub stands_own : (sets : TruthSets) (h : Header) (rows : List Row) (r : Row) → StandFor sets c.bound c.formula.nodes h rows r
      → StandFor sets x.case.bound x.case.formula.nodes h rows r
  stands_own sets h rows r s =
      subst (λ (b : Binding). StandFor sets b x.case.formula.nodes h rows r) (sym tail.bound)
      (subst (λ (f : Formula). StandFor sets c.bound f.nodes h rows r) (sym tail.formula) s)

  -- and the other way round
  pub stands_back : (sets : TruthSets) (h : Header) (rows : List Row) (r : Row) → StandFor sets x.case.bound x.case.formula.nodes h rows r
      → StandFor sets c.bound c.formula.nodes h rows r
  stands_back sets h rows r s =
      subst (λ (b : Binding). StandFor sets b c.formula.nodes h rows r) tail.bound
      (subst (λ (f : Formula). StandFor sets x.case.bound f.nodes h rows r) tail.formula s)

  -- the rows that are held are the last ones
  pub is_tail : IsTail x.case.trace c.trace.header c.trace.rows
  is_tail = record { same_header = tail.header; earlier = tail.earlier; parts = tail.parts }

  -- once the sets have grown over the rows, the last of them alone is to be held
  pub taken_in : (sets : TruthSets) (t : Trace) → 0 < length x.case.trace.rows
      → t ≡ record x.case.trace { rows = drop (length x.case.trace.rows - 1) x.case.trace.rows }
      → StandFor sets x.case.bound x.case.formula.nodes c.trace.header c.trace.rows (row_of x.case.trace (length x.case.trace.rows - 1))
      → HasSets (with_trace (with_sets x sets) t) c
  taken_in sets t some e s = record {
    tail = record {
      formula = tail.formula;
      bound = tail.bound;
      header = ap (λ (y : Trace). y.header) e ∙ tail.header;
      fits = tail.fits;
      earlier = tail.earlier ++ take n rows;
      parts = tail.parts ∙ ap (λ l. tail.earlier ++ l) (sym (take-append-drop n rows)) ∙ sym (append_assoc tail.earlier (take n rows) (drop n rows))
          ∙ ap (λ (y : Trace). (tail.earlier ++ take n rows) ++ y.rows) (sym e);
    };
    sets = subst (SetsOver (with_trace (with_sets x sets) t) c) (sym (ap (λ (y : Trace). y.rows) e ∙ last_of rows n (omega (arith, some))))
        (stands_back sets c.trace.header c.trace.rows (row_of x.case.trace n) s);
  }
    where
      rows : List Row
      rows = x.case.trace.rows

      n : ℕ
      n = length x.case.trace.rows - 1

      last_of : (rows : List Row) (n : ℕ) → length rows ≡ suc n → drop n rows ≡ get_or rows n no_row ∷ []
      last_of [] n e = absurd (omega (arith, e))
      last_of (r ∷ []) zero e = refl
      last_of (r ∷ s ∷ rows) zero e = absurd (omega (arith, e))
      last_of (r ∷ rows) (suc n) e = last_of rows n (omega (arith, e))

module _ (x : VerdictSets) (c : Case) (h : HasSets x c) where
  -- rows more can be taken in
  pub can_take : (more : List Row) (t : Trace) (first : Bool) → t ≡ record x.case.trace { rows = x.case.trace.rows ++ more }
      → first ≡ (length x.case.trace.rows == 0) → CanTakeIn (with_trace x t) first (with_rows more c)
  can_take more t first e is = record {
    tail = record {
      formula = h.tail.formula;
      bound = h.tail.bound;
      header = ap (λ (y : Trace). y.header) e ∙ h.tail.header;
      fits = (h.tail.fits.0, record { formula = h.tail.fits.1.formula; bound = h.tail.fits.1.bound });
      earlier = h.tail.earlier;
      parts = ap (λ l. l ++ more) h.tail.parts ∙ append_assoc h.tail.earlier x.case.trace.rows more
          ∙ ap (λ (y : Trace). h.tail.earlier ++ y.rows) (sym e);
    };
    sets = by_rows x.case.trace.rows refl h.sets is;
  }
    where
      by_rows : (rows : List Row) → x.case.trace.rows ≡ rows → SetsOver x c rows → first ≡ (length rows == 0)
          → SetsBefore (with_trace x t) first (with_rows more c)
      by_rows [] same s is = subst (λ b. SetsBefore (with_trace x t) b (with_rows more c)) (sym is) (
        s.0,
        ap (λ l. l ++ more) (s.1 ∙ sym same) ∙ ap (λ (y : Trace). y.rows) (sym e),
      )
      by_rows (r ∷ []) same s is =
          let now : t.rows ≡ r ∷ more = ap (λ (y : Trace). y.rows) e ∙ ap (λ l. l ++ more) same in
          let some : 0 < length c.trace.rows =
          omega (arith, ap length (h.tail.parts ∙ ap (λ l. h.tail.earlier ++ l) same), length-append h.tail.earlier (r ∷ [])) in
          subst (λ b. SetsBefore (with_trace x t) b (with_rows more c)) (sym is) (
            omega (arith, ap length now),
            subst (λ y. StandFor x.sets c.bound c.formula.nodes c.trace.header (c.trace.rows ++ more) y) (sym (ap (λ l. get_or l 0 no_row) now))
                (stand_longer c.bound c.trace.header c.trace.rows more some r x.sets c.formula.nodes s),
          )
      by_rows (r ∷ s ∷ rows) same sets is = absurd sets

  -- a row that the case can take is one that the rows held can take
  pub fits_row : (r : Row) → Takes r c.trace
      → (length r.values ≡ length x.case.trace.header.columns) × (0 < length x.case.trace.rows → last_time 0 x.case.trace.rows < r.time)
  fits_row r takes = (
    takes.0 ∙ ap (λ (y : Header). length y.columns) (sym h.tail.header),
    λ some. subst (λ n. n < r.time) (ap (last_time 0) h.tail.parts ∙ last_behind h.tail.earlier x.case.trace.rows 0 0 some)
        (takes.1 (omega (arith, some, ap length h.tail.parts, length-append h.tail.earlier x.case.trace.rows))),
  )

  -- the rows held are the last ones of the reader
  pub held_so_far : (reader : Reader) → HasTraceSoFar reader c.trace → HasTraceSoFar reader x.case.trace
  held_so_far reader so = record {
    bytes = so.bytes;
    earlier = so.earlier ++ h.tail.earlier;
    stands = subst (StandsFor reader so.bytes)
        (ap (λ l. so.earlier ++ l) h.tail.parts ∙ sym (append_assoc so.earlier h.tail.earlier x.case.trace.rows)) so.stands;
    header = so.header ∙ ap (λ y. Some y) (sym h.tail.header);
  }

  -- once the trace has a row, one row is held, the last
  pub last_held : IsTrace c.trace → (r : Row) × (x.case.trace.rows ≡ r ∷ []) × SetsUpto x c r × (last_time 0 c.trace.rows ≡ r.time)
  last_held ok = by_rows x.case.trace.rows refl h.sets
    where
      by_rows : (rows : List Row) → x.case.trace.rows ≡ rows → SetsOver x c rows
          → (r : Row) × (x.case.trace.rows ≡ r ∷ []) × SetsUpto x c r × (last_time 0 c.trace.rows ≡ r.time)
      by_rows [] same s = absurd (subst (AreRows (length c.trace.header.columns)) s.1 ok.rows)
      by_rows (r ∷ []) same s = (
        r,
        same,
        s,
        ap (last_time 0) (h.tail.parts ∙ ap (λ l. h.tail.earlier ++ l) same) ∙ last_behind h.tail.earlier (r ∷ []) 0 0 (omega arith),
      )
      by_rows (r ∷ s ∷ rows) same sets = absurd sets
