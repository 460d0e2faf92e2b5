-- In which line the first fault of a trace stands: after a header that has none before it, and among the lines.
use Rattle.std.proofs.Common.{◌≡◌, ◌⊎◌, inl, inr, ℕ, suc, ◌+◌, ◌≤◌, Bool, true, false, List, [], ◌∷◌}
use Rattle.std.proofs.Common.{length, take, refl, sym, ap, ◌∙◌, subst, arith, Option, Some, None}
use Rattle.std.specs.Prelude.{MatchBool, IsTrue, ◌≢◌}
use Rattle.std.proofs.lemmas.Bool.{false≢true}
use Rattle.stl_syntax.specs.Choice.{◌or_else◌}
use Rattle.stl_syntax.specs.Trace.{Row}
use Rattle.stl_syntax.specs.declared.scale.Scale.{Scale}
use Rattle.trace_reader.specs.TraceText.{Line, is_blank_line, fields, Heading, IsHeading, IsRow, scale_of}
use Rattle.trace_reader.specs.TraceRefusals.{InLine, LineFault, HeaderFault, RowFault, FaultFrom, FaultAfter}
use Rattle.trace_reader.specs.LineParts.{whole_line}
use Rattle.trace_reader.specs.Progress.{last_of, bad_heading, bad_row}
use Rattle.trace_reader.specs.declared.refusal.Limits.{Limits}
use Rattle.trace_reader.specs.declared.refusal.TraceRefusal.{TraceRefusal}
use Rattle.trace_reader.specs.declared.refusal.TraceKind.{TraceKind}
use Rattle.trace_reader.specs.declared.refusal.TraceKind.TheVariants.{NoRows, TooManyLines, LineTooLong}
use Rattle.trace_reader.proofs.TraceRefusalLaw.{heading-unique, row-unique}
use Rattle.trace_reader.proofs.KindLemmas.{refused_kind}
use Rattle.trace_reader.specs.InputFaults.{IsHeaderAt, here, later}

-- of two kinds, the one by a test
one_of : {A B : Type 0} (b : Bool) → MatchBool b A B → A ⊎ B
one_of true a = inl a
one_of false b = inr b

-- what a true test chooses
pub at_true : (A B : Type 0) (b : Bool) → b ≡ true → MatchBool b A B → A
at_true A B b e m = subst (λ c. MatchBool c A B) e m

-- what a false one chooses
pub at_false : (A B : Type 0) (b : Bool) → b ≡ false → MatchBool b A B → B
at_false A B b e m = subst (λ c. MatchBool c A B) e m

-- to choose by a true test
pub to_true : (A B : Type 0) (b : Bool) → b ≡ true → A → MatchBool b A B
to_true A B b e a = subst (λ c. MatchBool c A B) (sym e) a

-- to choose by a false one
pub to_false : (A B : Type 0) (b : Bool) → b ≡ false → B → MatchBool b A B
to_false A B b e a = subst (λ c. MatchBool c A B) (sym e) a

-- what follows a line that is the header, or a row
abbrev pub AfterHeading : Limits → Scale → Bool → ℕ → Line → List Line → TraceRefusal → Type 0
AfterHeading limits least ended k l ls = λ r. (h : Heading) × IsHeading (fields l) h × FaultAfter limits (scale_of least h) h ended (suc k) 0 None ls r

abbrev pub AfterRow : Limits → Scale → Heading → Bool → ℕ → ℕ → Line → List Line → TraceRefusal → Type 0
AfterRow limits s h ended k count l ls = λ r. (x : Row) × IsRow s h (fields l) x × FaultAfter limits s h ended (suc k) (suc count) (Some x.time) ls r

abbrev pub InHeading : Limits → Scale → Bool → ℕ → Line → List Line → TraceRefusal → Type 0
InHeading limits least ended k l ls = InLine k (HeaderFault (fields l)) or_else AfterHeading limits least ended k l ls

abbrev pub InRow : Limits → Scale → Heading → Bool → ℕ → ℕ → Option ℕ → Line → List Line → TraceRefusal → Type 0
InRow limits s h ended k count last l ls = InLine k (RowFault limits s h count last (fields l)) or_else AfterRow limits s h ended k count l ls

-- at the end of the input, for want of rows
abbrev pub IsAtEndOf : Bool → TraceRefusal → Type 0
IsAtEndOf ended x = IsTrue ended × (x.kind ≡ NoRows)

module _ (limits : Limits) (ended : Bool) (x : TraceRefusal) where
  abbrev IsFrom : ℕ → Type 0
  IsFrom n = (n ≤ x.line) ⊎ IsAtEndOf ended x

  from_next : (n : ℕ) → IsFrom (suc n) → IsFrom n
  from_next n (inl a) = inl (omega (arith, a))
  from_next n (inr a) = inr a

  -- a fault after line n - 1 stands in a line from n on
  after_line : (s : Scale) (h : Heading) (n count : ℕ) (last : Option ℕ) (ls : List Line) → FaultAfter limits s h ended n count last ls x → IsFrom n
  after_line s h n count last [] (e, ((t, z), k)) = inr (t, k)
  after_line s h n count last (l ∷ ls) (inl (e, f)) = inl (omega (arith, e))
  after_line s h n count last (l ∷ ls) (inr (sound, (w, m))) =
      by_kind (one_of (is_blank_line l) m) (after_line s h (suc n) count last ls) (λ t. after_line s h (suc n) (suc count) t ls)
    where
      by_kind : FaultAfter limits s h ended (suc n) count last ls x ⊎ InRow limits s h ended n count last l ls x
          → (FaultAfter limits s h ended (suc n) count last ls x → IsFrom (suc n))
          → ((t : Option ℕ) → FaultAfter limits s h ended (suc n) (suc count) t ls x → IsFrom (suc n)) → IsFrom n
      by_kind (inl f) blank row = from_next n (blank f)
      by_kind (inr (inl (e, f))) blank row = inl (omega (arith, e))
      by_kind (inr (inr (none, (r, is, f)))) blank row = from_next n (row (Some r.time) f)

  -- the lines up to the header have no fault of their own
  abbrev pub IsClean : Scale → ℕ → ℕ → List Line → Type 0
  IsClean least k n ls = (r : TraceRefusal) → ¬ FaultFrom limits least false k (take n ls) r

  -- so the first fault stands after them
  pub after_header : (least : Scale) (k : ℕ) (ls : List Line) {n : ℕ} {h : Heading} → IsHeaderAt ls n h → IsClean least k n ls
      → FaultFrom limits least ended k ls x → IsFrom (k + n)
  after_header least k [] p clean f = elim p [ ]
  after_header least k (l ∷ ls) (here w b is) clean (inl f) = absurd (clean x (inl f))
  after_header least k (l ∷ ls) (here w b is) clean (inr (sound, (w', m))) =
      by_kind (at_false (FaultFrom limits least ended (suc k) ls x) (InHeading limits least ended k l ls x) (is_blank_line l) b m)
    where
      by_kind : InHeading limits least ended k l ls x → IsFrom (k + 1)
      by_kind (inl f) = absurd (clean x
          (inr (sound, (w', to_false (FaultFrom limits least false (suc k) [] x) (InHeading limits least false k l [] x) (is_blank_line l) b (inl f)))))
      by_kind (inr (none, (h, k', f))) = subst IsFrom (omega arith) (after_line (scale_of least h) h (suc k) 0 None ls f)
  after_header least k (l ∷ ls) (later w b p) clean (inl f) = absurd (clean x (inl f))
  after_header least k (l ∷ ls) (later {n = n} w b p) clean (inr (sound, (w', m))) =
      subst IsFrom (omega arith) (after_header least (suc k) ls p
      (λ r f. clean r (inr (
        sound,
        (w', to_true (FaultFrom limits least false (suc k) (take n ls) r) (InHeading limits least false k l (take n ls) r) (is_blank_line l) b f),
      )))
      (at_true (FaultFrom limits least ended (suc k) ls x) (InHeading limits least ended k l ls x) (is_blank_line l) b m))

  -- a fault stands in one of the lines
  within_after : (s : Scale) (h : Heading) (n count : ℕ) (last : Option ℕ) (ls : List Line) → 1 ≤ n
      → FaultAfter limits s h ended n count last ls x → suc x.line ≤ n + length ls
  within_after s h n count last [] some (e, f) = omega (arith, some, e)
  within_after s h n count last (l ∷ ls) some (inl (e, f)) = omega (arith, e)
  within_after s h n count last (l ∷ ls) some (inr (sound, (w, m))) =
      by_kind (one_of (is_blank_line l) m) (within_after s h (suc n) count last ls (omega arith)) (λ t. within_after s h (suc n) (suc count) t ls (omega arith))
    where
      by_kind : FaultAfter limits s h ended (suc n) count last ls x ⊎ InRow limits s h ended n count last l ls x
          → (FaultAfter limits s h ended (suc n) count last ls x → suc x.line ≤ suc n + length ls)
          → ((t : Option ℕ) → FaultAfter limits s h ended (suc n) (suc count) t ls x → suc x.line ≤ suc n + length ls) → suc x.line ≤ n + suc (length ls)
      by_kind (inl f) blank row = omega (arith, blank f)
      by_kind (inr (inl (e, f))) blank row = omega (arith, e)
      by_kind (inr (inr (none, (r, is, f)))) blank row = omega (arith, row (Some r.time) f)

  -- the first fault stands among the lines
  pub fault_within : (least : Scale) (k : ℕ) (ls : List Line) → 1 ≤ k → FaultFrom limits least ended k ls x → suc x.line ≤ k + length ls
  fault_within least k [] some (e, f) = omega (arith, some, e)
  fault_within least k (l ∷ ls) some (inl (e, f)) = omega (arith, e)
  fault_within least k (l ∷ ls) some (inr (sound, (w, m))) = by_kind (one_of (is_blank_line l) m) (fault_within least (suc k) ls (omega arith))
    where
      by_kind : FaultFrom limits least ended (suc k) ls x ⊎ InHeading limits least ended k l ls x
          → (FaultFrom limits least ended (suc k) ls x → suc x.line ≤ suc k + length ls)
          → suc x.line ≤ k + suc (length ls)
      by_kind (inl f) blank = omega (arith, blank f)
      by_kind (inr (inl (e, f))) blank = omega (arith, e)
      by_kind (inr (inr (none, (h, is, f)))) blank = omega (arith, within_after (scale_of least h) h (suc k) 0 None ls (omega arith) f)

line_kind : (limits : Limits) (n : ℕ) (l : Line) (k : TraceKind) → LineFault limits n l k → k ≢ NoRows
line_kind limits n l k (inl (a, e)) same = let w : TooManyLines ≡ NoRows = sym e ∙ same in cc
line_kind limits n l k (inr (few, (a, e))) same = let w : LineTooLong ≡ NoRows = sym e ∙ same in cc

as_whole : (l : Line) → l.whole ≡ true → l ≡ whole_line l.bytes
as_whole l w = ap (λ b. record { bytes = l.bytes; whole = b }) w

-- a fault of a header's line is not the one of a trace without rows
heading_kind : (limits : Limits) (least : Scale) (l : Line) (k : TraceKind) → l.whole ≡ true → is_blank_line l ≡ false → HeaderFault (fields l) k → k ≢ NoRows
heading_kind limits least l k w b f =
    refused_kind {limits = limits} {line = l.bytes}
    {old = record { least = least; heading = None; row = record { time = 0; values = [] }; count = 0; fresh = true }}
    (bad_heading k b refl (subst (λ (m : Line). HeaderFault (fields m) k) (as_whole l w) f) refl)

-- nor is a fault of a row's line
row_kind : (limits : Limits) (least : Scale) (h : Heading) (count : ℕ) (row : Row) (l : Line) (k : TraceKind) → l.whole ≡ true → is_blank_line l ≡ false
    → RowFault limits (scale_of least h) h count (last_of count row) (fields l) k → k ≢ NoRows
row_kind limits least h count row l k w b f =
    refused_kind {limits = limits} {line = l.bytes} {old = record { least = least; heading = Some h; row = row; count = count; fresh = true }}
    (bad_row h k b refl (subst (λ (m : Line). RowFault limits (scale_of least h) h count (last_of count row) (fields m) k) (as_whole l w) f) refl)

-- where a trace lacks rows at its end, its lines have no fault of their own
module _ (limits : Limits) (least : Scale) (x : TraceRefusal) (no_rows : x.kind ≡ NoRows) where
  clean_after : (h : Heading) (n count : ℕ) (row : Row) (ls : List Line) → FaultAfter limits (scale_of least h) h true n count (last_of count row) ls x
      → (r : TraceRefusal) → ¬ FaultAfter limits (scale_of least h) h false n count (last_of count row) ls r
  clean_after h n count row [] f r (e, ((t, z), k)) = false≢true t
  clean_after h n count row (l ∷ ls) (inl (e, f)) r g = line_kind limits n l x.kind f no_rows
  clean_after h n count row (l ∷ ls) (inr (sound, (w, m))) r (inl g) = sound r g
  clean_after h n count row (l ∷ ls) (inr (sound, (w, m))) r (inr (sound', (w', m'))) =
      by_test (is_blank_line l) refl m m' (clean_after h (suc n) count row ls) (λ q. clean_after h (suc n) (suc count) q ls)
    where
      by_row : is_blank_line l ≡ false → InRow limits (scale_of least h) h true n count (last_of count row) l ls x
          → InRow limits (scale_of least h) h false n count (last_of count row) l ls r
          → ((q : Row) → FaultAfter limits (scale_of least h) h true (suc n) (suc count) (Some q.time) ls x → (r : TraceRefusal)
          → ¬ FaultAfter limits (scale_of least h) h false (suc n) (suc count) (Some q.time) ls r) → ⊥
      by_row b (inl (e, f)) g on = row_kind limits least h count row l x.kind w b f no_rows
      by_row b (inr (none, (q, is, f))) (inl g) on = none r g
      by_row b (inr (none, (q, is, f))) (inr (none', (q', is', g))) on =
          on q f r (subst (λ (y : Row). FaultAfter limits (scale_of least h) h false (suc n) (suc count) (Some y.time) ls r)
          (row-unique (scale_of least h) h (fields l) q' q is' is) g)

      by_test : (b : Bool) → is_blank_line l ≡ b → MatchBool b (FaultAfter limits (scale_of least h) h true (suc n) count (last_of count row) ls x)
          (InRow limits (scale_of least h) h true n count (last_of count row) l ls x)
          → MatchBool b (FaultAfter limits (scale_of least h) h false (suc n) count (last_of count row) ls r)
          (InRow limits (scale_of least h) h false n count (last_of count row) l ls r)
          → (FaultAfter limits (scale_of least h) h true (suc n) count (last_of count row) ls x → (r : TraceRefusal)
          → ¬ FaultAfter limits (scale_of least h) h false (suc n) count (last_of count row) ls r)
          → ((q : Row) → FaultAfter limits (scale_of least h) h true (suc n) (suc count) (Some q.time) ls x → (r : TraceRefusal)
          → ¬ FaultAfter limits (scale_of least h) h false (suc n) (suc count) (Some q.time) ls r) → ⊥
      by_test true e f g blank on = blank f r g
      by_test false e f g blank on = by_row e f g on

  -- a fault that comes with the end is none before it
  pub clean_from : (k : ℕ) (ls : List Line) → FaultFrom limits least true k ls x → (r : TraceRefusal) → ¬ FaultFrom limits least false k ls r
  clean_from k [] f r (e, (t, q)) = false≢true t
  clean_from k (l ∷ ls) (inl (e, f)) r g = line_kind limits k l x.kind f no_rows
  clean_from k (l ∷ ls) (inr (sound, (w, m))) r (inl g) = sound r g
  clean_from k (l ∷ ls) (inr (sound, (w, m))) r (inr (sound', (w', m'))) = by_test (is_blank_line l) refl m m' (clean_from (suc k) ls)
    where
      by_heading : is_blank_line l ≡ false → InHeading limits least true k l ls x → InHeading limits least false k l ls r → ⊥
      by_heading b (inl (e, f)) g = heading_kind limits least l x.kind w b f no_rows
      by_heading b (inr (none, (h, is, f))) (inl g) = none r g
      by_heading b (inr (none, (h, is, f))) (inr (none', (h', is', g))) =
          clean_after h (suc k) 0 (record { time = 0; values = [] }) ls f r
          (subst (λ (y : Heading). FaultAfter limits (scale_of least y) y false (suc k) 0 None ls r) (heading-unique (fields l) h' h is' is) g)

      by_test : (b : Bool) → is_blank_line l ≡ b → MatchBool b (FaultFrom limits least true (suc k) ls x) (InHeading limits least true k l ls x)
          → MatchBool b (FaultFrom limits least false (suc k) ls r) (InHeading limits least false k l ls r)
          → (FaultFrom limits least true (suc k) ls x → (r : TraceRefusal) → ¬ FaultFrom limits least false (suc k) ls r) → ⊥
      by_test true e f g blank = blank f r g
      by_test false e f g blank = by_heading e f g

-- where the input has not ended no fault is the one of a trace without rows
module _ (limits : Limits) (least : Scale) (x : TraceRefusal) where
  open_kind_after : (h : Heading) (n count : ℕ) (row : Row) (ls : List Line)
      → FaultAfter limits (scale_of least h) h false n count (last_of count row) ls x → x.kind ≢ NoRows
  open_kind_after h n count row [] (e, ((t, z), k)) same = false≢true t
  open_kind_after h n count row (l ∷ ls) (inl (e, f)) same = line_kind limits n l x.kind f same
  open_kind_after h n count row (l ∷ ls) (inr (sound, (w, m))) same =
      by_test (is_blank_line l) refl m (open_kind_after h (suc n) count row ls) (λ q. open_kind_after h (suc n) (suc count) q ls)
    where
      by_test : (b : Bool) → is_blank_line l ≡ b
          → MatchBool b (FaultAfter limits (scale_of least h) h false (suc n) count (last_of count row) ls x)
          (InRow limits (scale_of least h) h false n count (last_of count row) l ls x)
          → (FaultAfter limits (scale_of least h) h false (suc n) count (last_of count row) ls x → x.kind ≢ NoRows)
          → ((q : Row) → FaultAfter limits (scale_of least h) h false (suc n) (suc count) (Some q.time) ls x → x.kind ≢ NoRows) → ⊥
      by_test true e f blank on = blank f same
      by_test false e (inl (k, f)) blank on = row_kind limits least h count row l x.kind w e f same
      by_test false e (inr (none, (q, is, f))) blank on = on q f same

  -- a fault before the end is not that of no rows
  pub open_kind : (k : ℕ) (ls : List Line) → FaultFrom limits least false k ls x → x.kind ≢ NoRows
  open_kind k [] (e, (t, q)) same = false≢true t
  open_kind k (l ∷ ls) (inl (e, f)) same = line_kind limits k l x.kind f same
  open_kind k (l ∷ ls) (inr (sound, (w, m))) same = by_test (is_blank_line l) refl m (open_kind (suc k) ls)
    where
      by_test : (b : Bool) → is_blank_line l ≡ b → MatchBool b (FaultFrom limits least false (suc k) ls x) (InHeading limits least false k l ls x)
          → (FaultFrom limits least false (suc k) ls x → x.kind ≢ NoRows) → ⊥
      by_test true e f blank = blank f same
      by_test false e (inl (k, f)) blank = heading_kind limits least l x.kind w e f same
      by_test false e (inr (none, (h, is, f))) blank = open_kind_after h (suc k) 0 (record { time = 0; values = [] }) ls f same
