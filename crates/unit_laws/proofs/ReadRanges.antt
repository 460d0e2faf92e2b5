-- A trace that is read for a formula: where its bytes have no fault its rows lie within the limits, and its ticks are no coarser than asked.
use Rattle.std.proofs.Common.{ℕ, suc, ◌<◌, ◌≤◌, true, List, [], ◌∷◌, All, refl, sym}
use Rattle.std.proofs.Common.{subst, arith, inl, inr, ℤ, pos, negsuc, nat_abs, Option, Some, None, MatchBool}
use Rattle.std.specs.Prelude.{◌⊎◌, ◌<ℤ◌, max}
use Rattle.std.proofs.lemmas.Bool.{cases_lt}
use Rattle.std.proofs.lemmas.Int.{ints}
use Rattle.std.proofs.lemmas.List.Elements.{All-cons, All-nil}
use Rattle.stl_syntax.specs.Choice.{◌or_else◌}
use Rattle.stl_syntax.specs.Trace.{Header, Row, Trace, IsInRange, AreInRange}
use Rattle.stl_syntax.specs.declared.scale.Scale.{Scale}
use Rattle.trace_reader.specs.TraceText.{Line, fields, Heading, IsHeading, scale_of, IsInTicks, AreInTicks, IsRow}
use Rattle.trace_reader.specs.TraceText.{AreRowLines, none, unfinished, row, AreTraceLines, heading}
use Rattle.trace_reader.specs.TraceText.{greatest}
use Rattle.trace_reader.specs.TraceText as texts
use Rattle.trace_reader.specs.TraceRefusals.{NumberFault, ValueFaults, NumberFaults, RowFault, InLine, LineFault, FaultAfter, FaultFrom, HeaderFault, HasTrace}
use Rattle.trace_reader.specs.declared.refusal.Limits.{Limits}
use Rattle.trace_reader.specs.declared.refusal.TraceRefusal.{TraceRefusal}
use Rattle.trace_reader.specs.declared.refusal.TraceKind.{TraceKind}
use Rattle.trace_reader.specs.declared.refusal.TraceKind.TheVariants.{OutOfRange}

-- where none of two kinds is, none of either is
absent : {A : Type 0} (F G : A → Type 0) → ((x : A) → ¬ (F or_else G) x) → ((x : A) → ¬ F x) × ((x : A) → ¬ G x)
absent F G h = (λ x f. h x (inl f), λ x g. h x (inr (λ y f. h y (inl f), g)))

in_line : (n : ℕ) (F : TraceKind → Type 0) → ((r : TraceRefusal) → ¬ InLine n F r) → (k : TraceKind) → ¬ F k
in_line n F h k f = h (record { line = n; kind = k }) (refl, f)

beyond : (v : ℤ) → 16777216 < nat_abs v → (v <ℤ negsuc 16777215) ⊎ (pos 16777216 <ℤ v)
beyond (pos n) l = inr (omega (arith, ints, l))
beyond (negsuc n) l = inl (omega (arith, ints, l))

module _ (s : Scale) (h : Heading) where
  values_range : (i : ℕ) (digits : List ℕ) (parts : List (List ℕ)) (values : List ℤ) → AreInTicks s.value digits parts values
      → ((k : TraceKind) → ¬ ValueFaults s i digits parts k) → All (λ v. nat_abs v ≤ 16777216) values
  values_range i [] [] values is sound = subst (λ vs. All (λ v. nat_abs v ≤ 16777216) vs) (sym is) (All-nil (λ v. nat_abs v ≤ 16777216))
  values_range i [] (f ∷ parts) values is sound = absurd is
  values_range i (most ∷ digits) [] values is sound = absurd is
  values_range i (most ∷ digits) (f ∷ parts) values (v, more, tick, rest, is) sound =
      let free = absent (NumberFault s.value most (negsuc 16777215) (pos 16777216) i f) (ValueFaults s (suc i) digits parts) sound in
      subst (λ vs. All (λ v. nat_abs v ≤ 16777216) vs) (sym is)
      (All-cons (λ v. nat_abs v ≤ 16777216) v more (within v tick free.0) (values_range (suc i) digits parts more rest free.1))
    where
      within : (v : ℤ) → IsInTicks s.value most f v → ((k : TraceKind) → ¬ NumberFault s.value most (negsuc 16777215) (pos 16777216) i f k)
          → nat_abs v ≤ 16777216
      within v tick free = elim (cases_lt 16777216 (nat_abs v)) [
        | inl l ↦ absurd ((absent _ _ free).1 (OutOfRange i) ((v, tick, beyond v l), refl))
        | inr l ↦ l
      ]

  row_range : (parts : List (List ℕ)) (r : Row) → IsRow s h parts r → ((k : TraceKind) → ¬ NumberFaults s h parts k) → IsInRange r
  row_range [] r is sound = absurd is
  row_range (f ∷ parts) r is sound =
      let free = absent (NumberFault s.time h.time_digits (pos 0) (pos 4294967295) 1 f) (ValueFaults s 2 h.digits parts) sound in record {
        time = elim (cases_lt 4294967295 r.time) [
          | inl l ↦ absurd ((absent _ _ free.0).1 (OutOfRange 1) ((pos r.time, is.0, inr (omega (arith, ints, l))), refl))
          | inr l ↦ l
        ];
        values = values_range 2 h.digits parts r.values is.1 free.1;
      }

  module _ (limits : Limits) where
    -- a fault after the row
    abbrev Later : ℕ → ℕ → Line → List Line → TraceRefusal → Type 0
    Later n count line more y = (x : Row) × IsRow s h (fields line) x × FaultAfter limits s h true (suc n) (suc count) (Some x.time) more y

    -- a fault of the row, or after it
    abbrev Other : ℕ → ℕ → Option ℕ → Line → List Line → TraceRefusal → Type 0
    Other n count last line more y = (InLine n (RowFault limits s h count last (fields line)) or_else Later n count line more) y

    rows_range : (n count : ℕ) (last : Option ℕ) {input : List Line} {rows : List Row} → AreRowLines s h input rows
        → ((x : TraceRefusal) → ¬ FaultAfter limits s h true n count last input x) → AreInRange rows
    rows_range n count last none sound = All-nil IsInRange
    rows_range n count last (unfinished w) sound = All-nil IsInRange
    rows_range n count last (texts.AreRowLines.blank {line = line} {more = more} w b rest) sound =
        let whole = (absent (InLine n (LineFault limits n line)) _ sound).1 in
        rows_range (suc n) count last rest (λ x f.
        whole x (w, subst (λ t. MatchBool t (FaultAfter limits s h true (suc n) count last more x) (Other n count last line more x)) (sym b) f))
    rows_range n count last (row {line = line} {more = more} {r = r} {rows = rows} w b is rest) sound =
        let whole = (absent (InLine n (LineFault limits n line)) _ sound).1 in
        let other = absent (InLine n (RowFault limits s h count last (fields line))) (Later n count line more)
        (λ x f. whole x (w, subst (λ t. MatchBool t (FaultAfter limits s h true (suc n) count last more x) (Other n count last line more x)) (sym b) f)) in
        let kinds = in_line n (RowFault limits s h count last (fields line)) other.0 in
        let numbers = (absent (NumberFaults s h (fields line)) _ ((absent _ _ ((absent _ _ kinds).1)).1)).0 in
        All-cons IsInRange r rows (row_range (fields line) r is numbers) (rows_range (suc n) (suc count) (Some r.time) rest (λ x f. other.1 x (r, is, f)))

module _ (limits : Limits) (least : Scale) where
  -- a fault after the header
  abbrev LaterFrom : ℕ → Line → List Line → TraceRefusal → Type 0
  LaterFrom n line more y = (g : Heading) × IsHeading (fields line) g × FaultAfter limits (scale_of least g) g true (suc n) 0 None more y

  -- a fault of the header, or after it
  abbrev OtherFrom : ℕ → Line → List Line → TraceRefusal → Type 0
  OtherFrom n line more y = (InLine n (HeaderFault (fields line)) or_else LaterFrom n line more) y

  lines_range : (n : ℕ) {input : List Line} {header : Header} {rows : List Row} → AreTraceLines least input header rows
      → ((x : TraceRefusal) → ¬ FaultFrom limits least true n input x) → AreInRange rows
  lines_range n (texts.AreTraceLines.blank {line = line} {more = more} w b rest) sound =
      let whole = (absent (InLine n (LineFault limits n line)) _ sound).1 in
      lines_range (suc n) rest (λ x f. whole x (w, subst (λ t. MatchBool t (FaultFrom limits least true (suc n) more x) (OtherFrom n line more x)) (sym b) f))
  lines_range n (heading {line = line} {more = more} h w b is rest) sound =
      let whole = (absent (InLine n (LineFault limits n line)) _ sound).1 in
      let other = absent (InLine n (HeaderFault (fields line))) (LaterFrom n line more)
      (λ x f. whole x (w, subst (λ t. MatchBool t (FaultFrom limits least true (suc n) more x) (OtherFrom n line more x)) (sym b) f)) in
      rows_range (scale_of least h) h limits (suc n) 0 None rest (λ x f. other.1 x (h, is, f))

-- the rows of a trace that was read lie within the limits
pub read_rows : (bytes : List ℕ) (limits : Limits) (least : Scale) (tr : Trace) → HasTrace bytes limits least tr → AreInRange tr.rows
read_rows bytes limits least tr h = lines_range limits least 1 h.text.read h.sound

greatest_from : (n : ℕ) (more : List ℕ) → n ≤ greatest n more
greatest_from n [] = omega arith
greatest_from n (m ∷ more) = let h = greatest_from (max n m) more in omega (arith, h)

lines_scale : (least : Scale) {input : List Line} {header : Header} {rows : List Row} → AreTraceLines least input header rows
    → (least.time ≤ header.scale.time) × (least.value ≤ header.scale.value)
lines_scale least (texts.AreTraceLines.blank w b rest) = lines_scale least rest
lines_scale least (heading h w b is rest) = (omega arith, greatest_from least.value h.digits)

-- the ticks of a trace that was read are no coarser than the least that was asked for
pub read_scale : (bytes : List ℕ) (limits : Limits) (least : Scale) (tr : Trace) → HasTrace bytes limits least tr
    → (least.time ≤ tr.header.scale.time) × (least.value ≤ tr.header.scale.value)
read_scale bytes limits least tr h = lines_scale least h.text.read
