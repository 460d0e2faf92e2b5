-- What a line of a trace comes to.
use Rattle.std.proofs.Common.{◌≡◌, ℕ, inl, inr, zero, suc, ◌+◌, ◌<◌, ◌≤◌, false, List, refl, sym, ap, ◌∙◌, subst, arith, Option, Some, None}
use Rattle.std.specs.Prelude.{Result, Ok, Err, is_some, option_map}
use Rattle.std.proofs.lemmas.Bool.{false≢true}
use Rattle.stl_syntax.specs.Trace.{Row}
use Rattle.stl_syntax.specs.declared.scale.Scale.{Scale}
use Rattle.trace_reader.specs.TraceText.{Heading, IsHeading, IsRow, fields, content, is_blank_line, scale_of}
use Rattle.trace_reader.specs.TraceRefusals.{RowFault, HeaderFault}
use Rattle.trace_reader.specs.LineParts.{whole_line, fields_of}
use Rattle.trace_reader.specs.Headings.{Scaled}
use Rattle.trace_reader.specs.RowLines.{IsRowRead, FieldFaults}
use Rattle.trace_reader.specs.Progress.{Progress, last_of, ReadsLine, ReadsHeading, ReadsRow, heading, row, bad_heading, bad_row}
use Rattle.trace_reader.specs.declared.refusal.Limits.{Limits}
use Rattle.trace_reader.specs.declared.refusal.TraceKind.{TraceKind}
use Rattle.trace_reader.specs.declared.refusal.TraceKind.TheVariants.{TooManyRows, TimeNotRising}
use Rattle.trace_reader.specs.declared.event.Event.{Event}
use Rattle.trace_reader.specs.declared.event.Event.TheVariants.{Row as IsARow}
use Rattle.trace_reader.proofs.TraceRefusalLaw.{row-unique}

-- the fields of a line are those of its content
pub fields_are : (bytes : List ℕ) → fields (whole_line bytes) ≡ fields_of (Some (content (whole_line bytes)))
unfolding fields
fields_are bytes = refl

-- a row past the limit is one too many
pub too_many : (limits : Limits) (s : Scale) (h : Heading) (count : ℕ) (last : Option ℕ) (fs : List (List ℕ))
    → limits.rows ≤ count → RowFault limits s h count last fs TooManyRows
too_many limits s h count last fs l = inl (l, refl)

module _ (limits : Limits) (sc : Scaled) (count : ℕ) (last : Option ℕ) (fs : List (List ℕ)) (few : count < limits.rows) where
  -- a fault of the fields is one of the row
  pub fields_bad : (k : TraceKind) → FieldFaults sc fs k → RowFault limits sc.scale sc.heading count last fs k
  fields_bad k (inl a) = inr ((λ x b. omega (arith, few, b.0)), inl a)
  fields_bad k (inr (none, b)) = inr ((λ x a. omega (arith, few, a.0)), inr (none, inl b))

  -- a time that does not rise is one
  pub not_rising : (x : Row) (t : ℕ) → IsRowRead sc fs x → last ≡ Some t → x.time ≤ t → RowFault limits sc.scale sc.heading count last fs TimeNotRising
  not_rising x t r e late = subst (λ l. RowFault limits sc.scale sc.heading count l fs TimeNotRising) (sym e)
      (inr ((λ y a. omega (arith, few, a.0)), inr ((λ y a. a.0 r.width), inr (r.sound, ((x, r.read, late), refl)))))

  -- a row that was read and rises has none
  pub row_sound : (x : Row) → IsRowRead sc fs x → ((t : ℕ) → last ≡ Some t → t < x.time) → (k : TraceKind)
      → ¬ RowFault limits sc.scale sc.heading count last fs k
  row_sound x r rises k h = by_last last rises h
    where
      by_last : (l : Option ℕ) → ((t : ℕ) → l ≡ Some t → t < x.time) → RowFault limits sc.scale sc.heading count l fs k → ⊥
      by_last l up (inl a) = omega (arith, few, a.0)
      by_last l up (inr (_, inl a)) = a.0 r.width
      by_last l up (inr (_, inr (_, inl a))) = r.sound k a
      by_last None up (inr (_, inr (_, inr (_, a)))) = a.0
      by_last (Some t) up (inr (_, inr (_, inr (_, ((y, is, late), e))))) =
          let same : y.time ≡ x.time = ap (λ (z : Row). z.time) (row-unique sc.scale sc.heading fs y x is r.read) in
          omega (arith, up t refl, late, same)

-- after a row there is a last time
pub last_some : (count : ℕ) (r : Row) → 0 < count → last_of count r ≡ Some r.time
last_some zero r l = absurd (omega (arith, l))
last_some (suc n) r l = refl

-- and it is that row's
pub last_is : (count : ℕ) (r : Row) (t : ℕ) → last_of count r ≡ Some t → (0 < count) × (t ≡ r.time)
last_is zero r t e = absurd (let f = e in cc)
last_is (suc n) r t e = (omega arith, (let f : r.time ≡ t = cc in sym f))

-- what the text of a line comes to is what the line comes to
pub heading_line_read : (limits : Limits) (line text : List ℕ) (old new : Progress) (r : Result Event TraceKind)
    → text ≡ content (whole_line line) → is_blank_line (whole_line line) ≡ false → old.heading ≡ None
    → ReadsHeading text old new r → ReadsLine limits line old new r
heading_line_read limits line text old new r e b n (heading h is sound same) =
    let f : fields_of (Some text) ≡ fields (whole_line line) = ap (λ t. fields_of (Some t)) e ∙ sym (fields_are line) in
    heading h b n (subst (λ fs. IsHeading fs h) f is) (subst (λ fs. (k : TraceKind) → ¬ HeaderFault fs k) f sound) same
heading_line_read limits line text old new r e b n (bad_heading k is same) =
    let f : fields_of (Some text) ≡ fields (whole_line line) = ap (λ t. fields_of (Some t)) e ∙ sym (fields_are line) in
    bad_heading k b n (subst (λ fs. HeaderFault fs k) f is) same

-- a line that is read as a row
pub row_line_read : (limits : Limits) (line text : List ℕ) (old new : Progress) (r : Result Event TraceKind)
    → text ≡ content (whole_line line) → is_blank_line (whole_line line) ≡ false
    → ReadsRow limits text old new r → ReadsLine limits line old new r
row_line_read limits line text old new r e b (row h n is sound range width up few same) =
    let f : fields_of (Some text) ≡ fields (whole_line line) = ap (λ t. fields_of (Some t)) e ∙ sym (fields_are line) in
    row h b n (subst (λ fs. IsRow (scale_of old.least h) h fs new.row) f is)
    (subst (λ fs. (k : TraceKind) → ¬ RowFault limits (scale_of old.least h) h old.count (last_of old.count old.row) fs k) f sound) range width up few same
row_line_read limits line text old new r e b (bad_row h k n is same) =
    let f : fields_of (Some text) ≡ fields (whole_line line) = ap (λ t. fields_of (Some t)) e ∙ sym (fields_are line) in
    bad_row h k b n (subst (λ fs. RowFault limits (scale_of old.least h) h old.count (last_of old.count old.row) fs k) f is) same

-- a row line after some progress
module _ (limits : Limits) (text : List ℕ) (old new : Progress) (sc : Scaled) (is : old.heading ≡ Some sc.heading)
    (scale : sc.scale ≡ scale_of old.least sc.heading)
    (few : old.count < limits.rows) where
  -- a row with a fault in its fields
  pub row_bad : (k : TraceKind) → FieldFaults sc (fields_of (Some text)) k → new ≡ old → ReadsRow limits text old new (Err k)
  row_bad k h same =
      bad_row sc.heading k is (subst (λ s. RowFault limits s sc.heading old.count (last_of old.count old.row) (fields_of (Some text)) k) scale
      (fields_bad limits sc old.count (last_of old.count old.row) (fields_of (Some text)) few k h)) same

  -- a row whose time does not rise
  pub row_late : (x : Row) → IsRowRead sc (fields_of (Some text)) x → 0 < old.count → x.time ≤ old.row.time → new ≡ old
      → ReadsRow limits text old new (Err TimeNotRising)
  row_late x r some late same =
      bad_row sc.heading TimeNotRising is
      (subst (λ s. RowFault limits s sc.heading old.count (last_of old.count old.row) (fields_of (Some text)) TimeNotRising) scale
      (not_rising limits sc old.count (last_of old.count old.row) (fields_of (Some text)) few x old.row.time r (last_some old.count old.row some) late)) same

  -- a row without a fault
  pub row_taken : IsRowRead sc (fields_of (Some text)) new.row → (0 < old.count → old.row.time < new.row.time)
      → new ≡ record old { row = new.row; count = old.count + 1 }
      → ReadsRow limits text old new (Ok IsARow)
  row_taken r up same =
      row sc.heading is (subst (λ s. IsRow s sc.heading (fields_of (Some text)) new.row) scale r.read)
      (subst (λ s. (k : TraceKind) → ¬ RowFault limits s sc.heading old.count (last_of old.count old.row) (fields_of (Some text)) k) scale
      (row_sound limits sc old.count (last_of old.count old.row) (fields_of (Some text)) few new.row r
      (λ t e. let w = last_is old.count old.row t e in subst (λ n. n < new.row.time) (sym w.1) (up w.0))))
      r.range r.values up few same

-- no heading is kept
pub map_none : (o : Option Scaled) → is_some o ≡ false → option_map (λ (s : Scaled). s.heading) o ≡ None
map_none None h = refl
map_none (Some s) h = absurd (false≢true (sym h))
