-- At most one fault of a trace's bytes stands first.
use Rattle.std.proofs.Common.{◌≡◌, ℕ, suc, ◌+◌, ◌-◌, ◌≤◌, List, [], ◌∷◌, ◌++◌, length, refl, ap, sym}
use Rattle.std.proofs.Common.{◌∙◌, Bool, true, false, if◌then◌else◌, arith, append_assoc, subst, ℤ, pos}
use Rattle.std.specs.Prelude.{codes, decimal, not, ◌==◌, Option, Some, None, MatchBool}
use Rattle.std.specs.Fmt.{digits}
use Rattle.stl_syntax.specs.Characters.{is_digit, goes_on_word, all, StopsAt, after_first, decimal_value}
use Rattle.stl_syntax.specs.Characters.{without_zeros, IsNumeral, integer, decimal as with_point}
use Rattle.stl_syntax.specs.Trace.{Column, Row, Header, Trace}
use Rattle.trace_reader.specs.TraceText.{IsNumber, plain, plus, minus, IsName, name, IsMode, no_mode, ramp}
use Rattle.trace_reader.specs.TraceText.{step, IsDigits, no_digits, with_digits, IsTimeField, time, IsColumn}
use Rattle.trace_reader.specs.TraceText.{column, Heading, AreColumns, IsHeading, IsInTicks, AreInTicks, IsRow}
use Rattle.trace_reader.specs.TraceText.{Line, lines, is_blank_line, fields, scale_of, AreRowLines, none, unfinished}
use Rattle.trace_reader.specs.TraceText.{blank as blank_line, row as a_row, AreTraceLines, heading as a_heading, IsTraceText}
use Rattle.trace_reader.specs.TraceRefusals.{name_part, ColumnFault, ColumnFaults, NameFaults, HeaderFault}
use Rattle.trace_reader.specs.TraceRefusals.{NumberFault, ValueFaults, NumberFaults, RowFault, InLine}
use Rattle.trace_reader.specs.TraceRefusals.{LineFault, InWhole, FaultAfter, FaultFrom, IsFirstFault}
use Rattle.trace_reader.specs.declared.refusal.Limits.{Limits}
use Rattle.trace_reader.specs.declared.refusal.TraceRefusal.{TraceRefusal}
use Rattle.trace_reader.specs.declared.refusal.TraceKind.{TraceKind}
use Rattle.stl_syntax.specs.declared.scale.Scale.{Scale}
use Rattle.std.proofs.lemmas.Bool.{false≢true}
use Rattle.stl_syntax.proofs.ChoiceLemmas.{AtMostOne, where-unique, or_else-unique}
use Rattle.stl_syntax.proofs.CharacterLemmas.{span_of, span_all, span_whole, after_all}
use Rattle.trace_reader.proofs.TraceRefusalExamples.{first_byte, numeral_begins}

after_whole : (p : ℕ → Bool) (xs : List ℕ) → all p xs ≡ true → after_first p xs ≡ []
after_whole p [] h = refl
after_whole p (c ∷ xs) h = let a : p c ≡ true = grind (arith, h) in let b : all p xs ≡ true = grind (arith, h) in rw (a, after_whole p xs b) refl

-- the number of a text, and its decimals
numeral_of : List ℕ → List ℕ → ℕ × ℕ
numeral_of some [] = (decimal_value 0 some, 0)
numeral_of some (c ∷ rest) = (decimal_value 0 (some ++ without_zeros rest), length (without_zeros rest))

numeral_is : {text : List ℕ} {n k : ℕ} → IsNumeral text n k → numeral_of (span_of is_digit text) (after_first is_digit text) ≡ (n, k)
unfolding numeral_of
numeral_is (integer {c = c} {digits = some} h) = rw (span_whole is_digit (c ∷ some) h, after_whole is_digit (c ∷ some) h) refl
numeral_is (with_point c some d more h k) = rw (span_all is_digit (c ∷ some) (46 ∷ d ∷ more) h refl, after_all is_digit (c ∷ some) (46 ∷ d ∷ more) h refl) refl

-- a numeral is one number
pub numeral-unique : {text : List ℕ} {n k n' k' : ℕ} → IsNumeral text n k → IsNumeral text n' k' → (n ≡ n') × (k ≡ k')
numeral-unique h h' = let e = sym (numeral_is h) ∙ numeral_is h' in (ap (λ p. p.0) e, ap (λ p. p.1) e)

-- so is a number with a sign
pub number-unique : {text : List ℕ} {v v' : ℤ} {k k' : ℕ} → IsNumber text v k → IsNumber text v' k' → (v ≡ v') × (k ≡ k')
number-unique (plain h) (plain h') = let e = numeral-unique h h' in (ap pos e.0, e.1)
number-unique (plain h) (plus h') = absurd (let e = numeral_begins h in cc)
number-unique (plain h) (minus h') = absurd (let e = numeral_begins h in cc)
number-unique (plus h) (plain h') = absurd (let e = numeral_begins h' in cc)
number-unique (plus h) (plus h') = let e = numeral-unique h h' in (ap pos e.0, e.1)
number-unique (minus h) (plain h') = absurd (let e = numeral_begins h' in cc)
number-unique (minus h) (minus h') = let e = numeral-unique h h' in (rw e.0 refl, e.1)

-- and its ticks
pub ticks-unique : (digits most : ℕ) (f : List ℕ) → AtMostOne (IsInTicks digits most f)
ticks-unique d m f v v' (n, k, h, l, e) (n', k', h', l', e') = let u = number-unique h h' in e ∙ rw (u.0, u.1) (sym e')

values-unique : (digits : ℕ) (most : List ℕ) (fields : List (List ℕ)) → AtMostOne (AreInTicks digits most fields)
values-unique d [] [] v v' e e' = e ∙ sym e'
values-unique d [] (f ∷ fields) v v' h h' = absurd h
values-unique d (m ∷ most) [] v v' h h' = absurd h
values-unique d (m ∷ most) (f ∷ fields) v v' (a, more, h, k, e) (a', more', h', k', e') =
    let u = ticks-unique d m f a a' h h' in let w = values-unique d most fields more more' k k' in e ∙ rw (u, w) (sym e')

pos-injective : (a b : ℕ) → pos a ≡ pos b → a ≡ b
pos-injective a b e = cc

abbrev made : ℕ → List ℤ → Row
made t v = record { time = t; values = v }

-- fields are at most one row
pub row-unique : (s : Scale) (h : Heading) (fields : List (List ℕ)) → AtMostOne (IsRow s h fields)
row-unique s h [] r r' k k' = absurd k
row-unique s h (f ∷ fields) r r' k k' =
    let a : r.time ≡ r'.time = pos-injective r.time r'.time (ticks-unique s.time h.time_digits f (pos r.time) (pos r'.time) k.0 k'.0) in
    let b : r.values ≡ r'.values = values-unique s.value h.digits fields r.values r'.values k.1 k'.1 in
    ap (λ t. made t r.values) a ∙ ap (λ v. made r'.time v) b

-- what follows a name in a header field
last_byte : List ℕ → ℕ
last_byte [] = 0
last_byte (c ∷ []) = c
last_byte (c ∷ d ∷ rest) = last_byte (d ∷ rest)

digit_of : ℕ → ℕ
digit_of c = if is_digit c then c - 48 else 0

mode_of : List ℕ → Bool
mode_of [] = false
mode_of (c ∷ rest) = first_byte rest == 115

-- a number up to 6 is one digit
pub digit_text : (n : ℕ) → n ≤ 6 → decimal n ≡ (48 + n) ∷ []
unfolding digits
digit_text (suc (suc (suc (suc (suc (suc (suc n))))))) h = absurd (omega arith)
digit_text _ h = refl

digit_back : (n : ℕ) → n ≤ 6 → digit_of (48 + n) ≡ n
unfolding digit_of
digit_back n h = let a : is_digit (48 + n) ≡ true = grind (arith, h) in rw a (omega arith)

suffix_is : {m d : List ℕ} {step : Bool} {n : ℕ} → IsMode m step → IsDigits d n → (mode_of (m ++ d) ≡ step) × (digit_of (last_byte (m ++ d)) ≡ n)
unfolding mode_of last_byte digit_of
suffix_is no_mode no_digits = (refl, refl)
suffix_is ramp no_digits = (refl, refl)
suffix_is step no_digits = (refl, refl)
suffix_is no_mode (with_digits {n = n} h) = rw (digit_text n h) (grind (arith, h), digit_back n h)
suffix_is ramp (with_digits {n = n} h) = rw (digit_text n h) (refl, digit_back n h)
suffix_is step (with_digits {n = n} h) = rw (digit_text n h) (refl, digit_back n h)

not_colon : ℕ → Bool
not_colon c = not (c == 58)

no_colon : (c : ℕ) → goes_on_word c ≡ true → not_colon c ≡ true
unfolding not_colon
no_colon c h = grind (arith, h)

no_colons : (xs : List ℕ) → all goes_on_word xs ≡ true → all not_colon xs ≡ true
no_colons [] h = refl
no_colons (c ∷ xs) h =
    let a : goes_on_word c ≡ true = grind (arith, h) in let b : all goes_on_word xs ≡ true = grind (arith, h) in
    rw (no_colon c a, no_colons xs b) refl

name_no_colon : {n : List ℕ} → IsName n → all not_colon n ≡ true
name_no_colon (name {c = c} {rest} h k l) = no_colons (c ∷ rest) (rw (let a : goes_on_word c ≡ true = grind (arith, h) in a, k) refl)

suffix_stops : {m d : List ℕ} {s : Bool} {n : ℕ} → IsMode m s → IsDigits d n → StopsAt not_colon (m ++ d)
unfolding not_colon
suffix_stops no_mode no_digits = tt
suffix_stops ramp no_digits = refl
suffix_stops step no_digits = refl
suffix_stops no_mode (with_digits h) = refl
suffix_stops ramp (with_digits h) = refl
suffix_stops step (with_digits h) = refl

abbrev made_column : List ℕ → Bool → Column
made_column n s = record { name = n; step = s }

column-unique : {f f' : List ℕ} {k k' : Column} {n n' : ℕ} → IsColumn f k n → IsColumn f' k' n' → f ≡ f' → (k ≡ k') × (n ≡ n')
column-unique (column {m = m} {d = d} {step = s} {n = n} x ok md dd) (column {m = m'} {d = d'} {step = s'} {n = n'} x' ok' md' dd') e =
    let g : x ++ (m ++ d) ≡ x' ++ (m' ++ d') = sym (append_assoc x m d) ∙ (e ∙ append_assoc x' m' d') in
    let a : x ≡ x' = sym (span_all not_colon x (m ++ d) (name_no_colon ok) (suffix_stops md dd)) ∙ (ap (span_of not_colon) g
    ∙ span_all not_colon x' (m' ++ d') (name_no_colon ok') (suffix_stops md' dd')) in
    let b : m ++ d ≡ m' ++ d' = sym (after_all not_colon x (m ++ d) (name_no_colon ok) (suffix_stops md dd)) ∙ (ap (after_first not_colon) g
    ∙ after_all not_colon x' (m' ++ d') (name_no_colon ok') (suffix_stops md' dd')) in
    let c : s ≡ s' = sym (suffix_is md dd).0 ∙ (ap mode_of b ∙ (suffix_is md' dd').0) in
    (ap (λ y. made_column y s) a ∙ ap (λ y. made_column x' y) c, sym (suffix_is md dd).1 ∙ (ap (λ y. digit_of (last_byte y)) b ∙ (suffix_is md' dd').1))

abbrev after_four : List ℕ → List ℕ
after_four (a ∷ b ∷ c ∷ d ∷ rest) = rest
after_four _ = []

time-unique : {f f' : List ℕ} {n n' : ℕ} → IsTimeField f n → IsTimeField f' n' → f ≡ f' → n ≡ n'
time-unique (time {d = d} dd) (time {d = d'} dd') e =
    let b : d ≡ d' = ap after_four e in
    sym (suffix_is no_mode dd).1 ∙ (ap (λ y. digit_of (last_byte y)) b ∙ (suffix_is no_mode dd').1)

columns-unique : (fields : List (List ℕ)) (ks ks' : List Column) (ns ns' : List ℕ) → AreColumns fields ks ns
    → AreColumns fields ks' ns' → (ks ≡ ks') × (ns ≡ ns')
columns-unique [] ks ks' ns ns' h h' = (h.0 ∙ sym h'.0, h.1 ∙ sym h'.1)
columns-unique (f ∷ fields) ks ks' ns ns' (k, n, more, rest, h, g, e, d) (k', n', more', rest', h', g', e', d') =
    let u = column-unique h h' refl in let w = columns-unique fields more more' rest rest' g g' in
    (e ∙ rw (u.0, w.0) (sym e'), d ∙ rw (u.1, w.1) (sym d'))

abbrev made_heading : ℕ → List Column → List ℕ → Heading
made_heading t ks ns = record { time_digits = t; columns = ks; digits = ns }

-- and at most one header
pub heading-unique : (fields : List (List ℕ)) → AtMostOne (IsHeading fields)
heading-unique [] h h' a b = absurd a
heading-unique (f ∷ fields) h h' a b =
    let t = time-unique a.0 b.0 refl in let w = columns-unique fields h.columns h'.columns h.digits h'.digits a.1 b.1 in
    ap (λ y. made_heading y h.columns h.digits) t
    ∙ (ap (λ y. made_heading h'.time_digits y h.digits) w.0 ∙ ap (λ y. made_heading h'.time_digits h'.columns y) w.1)

column_fault-unique : (i : ℕ) (earlier : List (List ℕ)) (f : List ℕ) → AtMostOne (ColumnFault i earlier f)
column_fault-unique i earlier f = or_else-unique _ _ (where-unique _ _) (or_else-unique _ _ (where-unique _ _) (where-unique _ _))

column_faults-unique : (i : ℕ) (earlier all_fields : List (List ℕ)) → AtMostOne (ColumnFaults i earlier all_fields)
column_faults-unique i earlier [] x y h k = absurd h
column_faults-unique i earlier (f ∷ more) x y u v =
    (or_else-unique _ _ (column_fault-unique i earlier f) (column_faults-unique (suc i) (name_part f ∷ earlier) more)) x y u v

name_faults-unique : (header : List (List ℕ)) → AtMostOne (NameFaults header)
name_faults-unique [] x y h k = absurd h
name_faults-unique (f ∷ more) x y u v =
    (or_else-unique _ _ (or_else-unique _ _ (where-unique _ _) (where-unique _ _)) (column_faults-unique 2 (codes "time" ∷ []) more)) x y u v

header_fault-unique : (header : List (List ℕ)) → AtMostOne (HeaderFault header)
header_fault-unique header = or_else-unique _ _ (where-unique _ _) (name_faults-unique header)

number_fault-unique : (d n : ℕ) (low high : ℤ) (i : ℕ) (f : List ℕ) → AtMostOne (NumberFault d n low high i f)
number_fault-unique d n low high i f = or_else-unique _ _ (where-unique _ _) (where-unique _ _)

value_faults-unique : (s : Scale) (i : ℕ) (ns : List ℕ) (row : List (List ℕ)) → AtMostOne (ValueFaults s i ns row)
value_faults-unique s i [] row x y h k = absurd h
value_faults-unique s i (n ∷ ns) [] x y h k = absurd h
value_faults-unique s i (n ∷ ns) (f ∷ more) x y u v =
    (or_else-unique _ _ (number_fault-unique s.value n _ _ i f) (value_faults-unique s (suc i) ns more)) x y u v

number_faults-unique : (s : Scale) (h : Heading) (row : List (List ℕ)) → AtMostOne (NumberFaults s h row)
number_faults-unique s h [] x y a b = absurd a
number_faults-unique s h (f ∷ more) x y u v =
    (or_else-unique _ _ (number_fault-unique s.time h.time_digits _ _ 1 f) (value_faults-unique s 2 h.digits more)) x y u v

row_fault-unique : (limits : Limits) (s : Scale) (h : Heading) (count : ℕ) (last : Option ℕ) (row : List (List ℕ))
    → AtMostOne (RowFault limits s h count last row)
row_fault-unique limits s h count last row =
    or_else-unique _ _ (where-unique _ _) (or_else-unique _ _ (where-unique _ _) (or_else-unique _ _ (number_faults-unique s h row) (where-unique _ _)))

abbrev made_refusal : ℕ → TraceKind → TraceRefusal
made_refusal n k = record { line = n; kind = k }

in_line-unique : (n : ℕ) (F : TraceKind → Type 0) → AtMostOne F → AtMostOne (InLine n F)
in_line-unique n F u x y h k = ap (λ l. made_refusal l x.kind) (h.0 ∙ sym k.0) ∙ ap (λ j. made_refusal y.line j) (u x.kind y.kind h.1 k.1)

line_fault-unique : (limits : Limits) (n : ℕ) (line : Line) → AtMostOne (LineFault limits n line)
line_fault-unique limits n line = or_else-unique _ _ (where-unique _ _) (where-unique _ _)

by_blank : (b : Bool) (F G : TraceRefusal → Type 0) → AtMostOne F → AtMostOne G → AtMostOne (λ r. MatchBool b (F r) (G r))
by_blank true F G f g = f
by_blank false F G f g = g

in_whole-unique : (line : Line) (F G : TraceRefusal → Type 0) → AtMostOne F → AtMostOne G → AtMostOne (InWhole line F G)
in_whole-unique line F G f g x y h k = by_blank (is_blank_line line) F G f g x y h.1 k.1

-- where the thing between is determined
of_one : {A : Type 0} (P : A → Type 0) (F : A → TraceRefusal → Type 0) → AtMostOne P → ((a : A) → AtMostOne (F a)) → AtMostOne (λ r. (a : A) × P a × F a r)
of_one P F p f x y (a, h, k) (b, h', k') = let e = p b a h' h in f a x y k (subst (λ c. F c y) e k')

after-unique : (limits : Limits) (s : Scale) (h : Heading) (ended : Bool) (n count : ℕ) (last : Option ℕ) (all_lines : List Line)
    → AtMostOne (FaultAfter limits s h ended n count last all_lines)
after-unique limits s h ended n count last [] = in_line-unique _ _ (where-unique _ _)
after-unique limits s h ended n count last (line ∷ more) =
    or_else-unique _ _ (in_line-unique n _ (line_fault-unique limits n line))
    (in_whole-unique line _ _ (after-unique limits s h ended (suc n) count last more)
    (or_else-unique _ _ (in_line-unique n _ (row_fault-unique limits s h count last (fields line)))
    (of_one (IsRow s h (fields line)) (λ x. FaultAfter limits s h ended (suc n) (suc count) (Some x.time) more) (row-unique s h (fields line))
    (λ x. after-unique limits s h ended (suc n) (suc count) (Some x.time) more))))

from-unique : (limits : Limits) (least : Scale) (ended : Bool) (n : ℕ) (all_lines : List Line) → AtMostOne (FaultFrom limits least ended n all_lines)
from-unique limits least ended n [] = in_line-unique _ _ (where-unique _ _)
from-unique limits least ended n (line ∷ more) =
    or_else-unique _ _ (in_line-unique n _ (line_fault-unique limits n line))
    (in_whole-unique line _ _ (from-unique limits least ended (suc n) more)
    (or_else-unique _ _ (in_line-unique n _ (header_fault-unique (fields line)))
    (of_one (IsHeading (fields line)) (λ h. FaultAfter limits (scale_of least h) h ended (suc n) 0 None more) (heading-unique (fields line))
    (λ h. after-unique limits (scale_of least h) h ended (suc n) 0 None more))))

-- the first fault of the bytes is determined
pub FirstFault-unique : (bytes : List ℕ) (ended : Bool) (limits : Limits) (least : Scale) → AtMostOne (IsFirstFault bytes ended limits least)
FirstFault-unique bytes ended limits least = from-unique limits least ended 1 (lines ended bytes)

-- the lines of rows are those of one list of rows
row_lines-unique : (s : Scale) (h : Heading) {all_lines : List Line} {rows rows' : List Row} → AreRowLines s h all_lines rows
    → AreRowLines s h all_lines rows' → rows ≡ rows'
row_lines-unique s h none none = refl
row_lines-unique s h (unfinished w) (unfinished w') = refl
row_lines-unique s h (unfinished w) (blank_line w' b m) = absurd (false≢true (sym w ∙ w'))
row_lines-unique s h (unfinished w) (a_row w' b r m) = absurd (false≢true (sym w ∙ w'))
row_lines-unique s h (blank_line w b m) (unfinished w') = absurd (false≢true (sym w' ∙ w))
row_lines-unique s h (a_row w b r m) (unfinished w') = absurd (false≢true (sym w' ∙ w))
row_lines-unique s h (blank_line w b m) (blank_line w' b' m') = row_lines-unique s h m m'
row_lines-unique s h (blank_line w b m) (a_row w' b' r' m') = absurd (false≢true (sym b' ∙ b))
row_lines-unique s h (a_row w b r m) (blank_line w' b' m') = absurd (false≢true (sym b ∙ b'))
row_lines-unique s h (a_row {line = l} {r = x} {rows = rows} w b k m) (a_row {r = y} {rows = rows'} w' b' k' m') =
    ap (λ (z : Row). z ∷ rows) (row-unique s h (fields l) x y k k') ∙ ap (λ zs. y ∷ zs) (row_lines-unique s h m m')

-- so are those of a trace
trace_lines-unique : (least : Scale) {all_lines : List Line} {g g' : Header} {rows rows' : List Row}
    → AreTraceLines least all_lines g rows → AreTraceLines least all_lines g' rows'
    → (g ≡ g') × (rows ≡ rows')
trace_lines-unique least (blank_line w b m) (blank_line w' b' m') = trace_lines-unique least m m'
trace_lines-unique least (blank_line w b m) (a_heading h w' b' k' m') = absurd (false≢true (sym b' ∙ b))
trace_lines-unique least (a_heading h w b k m) (blank_line w' b' m') = absurd (false≢true (sym b ∙ b'))
trace_lines-unique least (a_heading {line = l} {more = ls} {rows = rows} h w b k m) (a_heading {rows = rows'} h' w' b' k' m') =
    let e : h ≡ h' = heading-unique (fields l) h h' k k' in (
      ap (λ (x : Heading). record { columns = x.columns; scale = scale_of least x }) e,
      row_lines-unique (scale_of least h') h' (subst (λ (x : Heading). AreRowLines (scale_of least x) x ls rows) e m) m',
    )

abbrev made_trace : Header → List Row → Trace
made_trace g rows = record { header = g; rows = rows }

-- bytes have at most one trace
pub Trace-unique : (bytes : List ℕ) (least : Scale) → AtMostOne (IsTraceText bytes least)
Trace-unique bytes least t u a b =
    let e = trace_lines-unique least a.read b.read in
    ap (λ g. made_trace g t.rows) e.0 ∙ ap (λ rows. made_trace u.header rows) e.1
