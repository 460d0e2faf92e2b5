-- The fields of a header, one after another.
use Rattle.std.proofs.Common.{◌≡◌, ℕ, ◌⊎◌, inl, inr, suc, ◌+◌, ◌-◌, ◌<◌, ◌≤◌, Bool, true, false, List, [], ◌∷◌, ◌++◌}
use Rattle.std.proofs.Common.{map, length, take, drop, get_or, refl, sym, ap, ◌∙◌, subst, arith, append_assoc, nat_eq}
use lib.Pointwise.{pointwise}
use Rattle.std.specs.Prelude.{codes, decimal, ◌==◌, ◌≢◌, bytes_eq, ◌||◌, All}
use Rattle.std.proofs.lemmas.List.{append-nil, take-append-drop, drop_more, drop_at, get_or-take, length-take-le}
use Rattle.std.proofs.lemmas.List.Elements.{All-nil, All-cons, All-head, All-tail, All-from_get_or}
use Rattle.std.proofs.lemmas.Bool.{false≢true, eq-eqb, ne_eqb, eqb-true}
use Rattle.stl_syntax.specs.Characters.{is_among, goes_on_word, all}
use Rattle.stl_syntax.specs.Trace.{Column}
use Rattle.std.specs.Cmp.Lexicographic.{same_text}
use Rattle.memchr.specs.Find.{is_byte, Nowhere, NoneBefore, Passes}
use Rattle.trace_reader.specs.TraceText.{IsName, IsMode, no_mode, ramp, step, IsDigits, no_digits, with_digits}
use Rattle.trace_reader.specs.TraceText.{IsTimeField, time, IsColumn, column, AreColumns, IsHeading, Heading}
use Rattle.trace_reader.specs.TraceRefusals.{name_part, TimeFault, ColumnFault, ColumnFaults, NameFaults, HeaderFault}
use Rattle.trace_reader.specs.Headings.{Opened, AreNames, IsColumnMore, AreColumnsLeft}
use Rattle.trace_reader.specs.declared.refusal.TraceKind.{TraceKind}
use Rattle.trace_reader.proofs.TraceRefusalLaw.{digit_text}
use Rattle.trace_reader.proofs.NameLemmas.{name_words}
use Rattle.trace_reader.specs.declared.refusal.TraceKind.TheVariants.{BadMode, SameName}

-- the fields after the first
abbrev pub after_first_field : List (List ℕ) → List (List ℕ)
after_first_field [] = []
after_first_field (f ∷ more) = more

-- the part before a first colon
pub name_part-none : (f : List ℕ) → All (λ c. c ≡ 58 → ⊥) f → name_part f ≡ f
name_part-none [] h = refl
name_part-none (c ∷ f) h = rw (ne_eqb c 58 (All-head (λ x. x ≡ 58 → ⊥) c f h), name_part-none f (All-tail (λ x. x ≡ 58 → ⊥) c f h)) refl

name_part-at : (xs ys : List ℕ) → All (λ c. c ≡ 58 → ⊥) xs → name_part (xs ++ 58 ∷ ys) ≡ xs
name_part-at [] ys h = refl
name_part-at (c ∷ xs) ys h = rw (ne_eqb c 58 (All-head (λ x. x ≡ 58 → ⊥) c xs h), name_part-at xs ys (All-tail (λ x. x ≡ 58 → ⊥) c xs h)) refl

-- without a colon the whole field is the name
pub no_colon_name : (f : List ℕ) → Nowhere (Passes (is_byte 58) f) 0 (length f) → name_part f ≡ f
no_colon_name f h = name_part-none f (All-from_get_or (λ c. c ≡ 58 → ⊥) f 0 (λ i l e. h i (omega arith) l (eq-eqb (get_or f i 0) 58 e)))

-- with one the name ends at it
pub colon_name : (f : List ℕ) (at : ℕ) → NoneBefore (Passes (is_byte 58) f) 0 (length f) at → Passes (is_byte 58) f at → name_part f ≡ take at f
colon_name f at h is =
    let colon : get_or f at 0 ≡ 58 = eqb-true (get_or f at 0) 58 is in
    let n : length (take at f) ≡ at = length-take-le at f (omega (arith, h.high)) in
    let free : All (λ c. c ≡ 58 → ⊥) (take at f) =
    All-from_get_or (λ c. c ≡ 58 → ⊥) (take at f) 0
    (λ i l e. let k : i < at = omega (arith, l, n) in h.before i (omega arith) k (eq-eqb (get_or f i 0) 58 (sym (get_or-take at f i 0 k) ∙ e))) in
    let parts : f ≡ take at f ++ 58 ∷ drop (at + 1) f =
    sym (take-append-drop at f) ∙ ap (λ t. take at f ++ t) (drop_more f at 0 h.high ∙ ap (λ c. c ∷ drop (at + 1) f) colon) in
    ap name_part parts ∙ name_part-at (take at f) (drop (at + 1) f) free

-- what may follow a name begins with a colon
suffix_begins : {m d : List ℕ} {s : Bool} {n : ℕ} → IsMode m s → IsDigits d n → (m ++ d ≡ []) ⊎ ((t : List ℕ) × (m ++ d ≡ 58 ∷ t))
suffix_begins no_mode no_digits = inl refl
suffix_begins no_mode (with_digits {n = n} h) = inr (decimal n, refl)
suffix_begins {d = d} ramp h = inr (codes "ramp" ++ d, refl)
suffix_begins {d = d} step h = inr (codes "step" ++ d, refl)

words_free : (xs : List ℕ) → all goes_on_word xs ≡ true → All (λ c. c ≡ 58 → ⊥) xs
words_free [] h = All-nil (λ c. c ≡ 58 → ⊥)
words_free (c ∷ xs) h =
    let a : goes_on_word c ≡ true = grind (arith, h) in let b : all goes_on_word xs ≡ true = grind (arith, h) in
    All-cons (λ x. x ≡ 58 → ⊥) c xs (no_colon c a) (words_free xs b)
  where
    no_colon : (c : ℕ) → goes_on_word c ≡ true → c ≡ 58 → ⊥
    no_colon c a e = let b : goes_on_word 58 ≡ true = subst (λ x. goes_on_word x ≡ true) e a in false≢true b

-- the name of a column stands before the first colon
pub named : (x t : List ℕ) → IsName x → (t ≡ []) ⊎ ((u : List ℕ) × (t ≡ 58 ∷ u)) → name_part (x ++ t) ≡ x
named x t ok (inl e) = ap name_part (ap (λ u. x ++ u) e ∙ append-nil x) ∙ name_part-none x (words_free x (name_words ok))
named x t ok (inr (u, e)) = ap name_part (ap (λ y. x ++ y) e) ∙ name_part-at x u (words_free x (name_words ok))

rest_same : (x t y u : List ℕ) → x ++ t ≡ y ++ u → x ≡ y → t ≡ u
rest_same x t y u e h = sym (drop_at x t (length x) refl) ∙ (ap (drop (length x)) e ∙ drop_at y u (length x) (sym (ap length h)))

-- decimals after a colon
digits_cases : {t : List ℕ} {n : ℕ} → IsDigits t n → ((t ≡ []) × (n ≡ 0)) ⊎ ((n ≤ 6) × (t ≡ 58 ∷ (48 + n) ∷ []))
digits_cases no_digits = inl (refl, refl)
digits_cases (with_digits {n = n} h) = inr (h, ap (λ t. 58 ∷ t) (digit_text n h))

-- a colon and a digit up to 6 say the decimals
pub digits_of : (x : ℕ) → 48 ≤ x → x ≤ 54 → IsDigits (58 ∷ x ∷ []) (x - 48)
digits_of x l h =
    let e : decimal (x - 48) ≡ x ∷ [] = digit_text (x - 48) (omega arith) ∙ ap (λ y. y ∷ []) (let f : 48 + (x - 48) ≡ x = omega arith in f) in
    subst (λ t. IsDigits (58 ∷ t) (x - 48)) e (with_digits (omega arith))

-- a text that is no colon and digit has no decimals
pub no_digits_in : (t : List ℕ) (c x : ℕ) (more : List ℕ) → t ≡ c ∷ x ∷ more → (c ≡ 58 → length more ≡ 0 → 48 ≤ x → x ≤ 54 → ⊥) → (n : ℕ) → ¬ IsDigits t n
no_digits_in t c x more e other n h = by_digits (digits_cases h)
  where
    by_digits : ((t ≡ []) × (n ≡ 0)) ⊎ ((n ≤ 6) × (t ≡ 58 ∷ (48 + n) ∷ [])) → ⊥
    by_digits (inl d) = absurd (let f = sym e ∙ d.0 in cc)
    by_digits (inr (l, d)) =
        let f = sym e ∙ d in
        let a : c ≡ 58 = ap (λ u. get_or u 0 0) f in let b : x ≡ 48 + n = ap (λ u. get_or u 1 0) f in
        let k : length more ≡ 0 = ap (λ u. length (drop 2 u)) f in
        other a k (omega (arith, b)) (omega (arith, b, l))

-- one byte says no decimals
pub no_digits_one : (t : List ℕ) (c : ℕ) (more : List ℕ) → t ≡ c ∷ more → length more ≡ 0 → (n : ℕ) → ¬ IsDigits t n
no_digits_one t c more e l n h = by_digits (digits_cases h)
  where
    by_digits : ((t ≡ []) × (n ≡ 0)) ⊎ ((n ≤ 6) × (t ≡ 58 ∷ (48 + n) ∷ [])) → ⊥
    by_digits (inl d) = absurd (let f = sym e ∙ d.0 in cc)
    by_digits (inr (k, d)) = let f : length (c ∷ more) ≡ 2 = ap length (sym e ∙ d) in omega (arith, f, l)

-- no mode and decimals
abbrev pub NoMode : List ℕ → Type 0
NoMode t = (m d : List ℕ) (s : Bool) (n : ℕ) → IsMode m s → IsDigits d n → t ≢ m ++ d

-- what is no mode and no decimals
pub mode_none : (t : List ℕ) → ((rest : List ℕ) → t ≢ codes ":ramp" ++ rest) → ((rest : List ℕ) → t ≢ codes ":step" ++ rest)
    → ((n : ℕ) → ¬ IsDigits t n) → NoMode t
mode_none t a b c m d s n no_mode h e = c n (subst (λ u. IsDigits u n) (sym e) h)
mode_none t a b c m d s n ramp h e = a d e
mode_none t a b c m d s n step h e = b d e

-- what follows `:ramp` is no decimals
pub ramp_none : (t rest : List ℕ) → t ≡ codes ":ramp" ++ rest → ((n : ℕ) → ¬ IsDigits rest n) → NoMode t
ramp_none t rest is none m d s n no_mode h e =
    no_digits_in t 58 114 (codes "amp" ++ rest) is (λ a b l k. omega (arith, k)) n (subst (λ u. IsDigits u n) (sym e) h)
ramp_none t rest is none m d s n ramp h e = let f : d ≡ rest = ap (drop 5) (sym e ∙ is) in none n (subst (λ u. IsDigits u n) f h)
ramp_none t rest is none m d s n step h e = let f : 115 ≡ 114 = ap (λ u. get_or u 1 0) (sym e ∙ is) in omega (arith, f)

-- what follows `:step` is none
pub step_none : (t rest : List ℕ) → t ≡ codes ":step" ++ rest → ((n : ℕ) → ¬ IsDigits rest n) → NoMode t
step_none t rest is none m d s n no_mode h e =
    no_digits_in t 58 115 (codes "tep" ++ rest) is (λ a b l k. omega (arith, k)) n (subst (λ u. IsDigits u n) (sym e) h)
step_none t rest is none m d s n step h e = let f : d ≡ rest = ap (drop 5) (sym e ∙ is) in none n (subst (λ u. IsDigits u n) f h)
step_none t rest is none m d s n ramp h e = let f : 114 ≡ 115 = ap (λ u. get_or u 1 0) (sym e ∙ is) in omega (arith, f)

-- a text that was found not to begin so
pub not_ramp : (t : List ℕ) → pointwise nat_eq (take 5 t) (codes ":ramp") ≡ false → (rest : List ℕ) → t ≢ codes ":ramp" ++ rest
not_ramp t h rest e =
    let k : pointwise nat_eq (codes ":ramp") (codes ":ramp") ≡ false = subst (λ u. pointwise nat_eq u (codes ":ramp") ≡ false) (ap (take 5) e) h in
    false≢true (sym k)

-- a text that begins otherwise is no `:step`
pub not_step : (t : List ℕ) → pointwise nat_eq (take 5 t) (codes ":step") ≡ false → (rest : List ℕ) → t ≢ codes ":step" ++ rest
not_step t h rest e =
    let k : pointwise nat_eq (codes ":step") (codes ":step") ≡ false = subst (λ u. pointwise nat_eq u (codes ":step") ≡ false) (ap (take 5) e) h in
    false≢true (sym k)

-- the first field
pub time_is : (f name rest : List ℕ) (n : ℕ) → f ≡ name ++ rest → name ≡ codes "time" → IsDigits rest n → IsTimeField f n
time_is f name rest n e h d = subst (λ g. IsTimeField g n) (sym (e ∙ ap (λ x. x ++ rest) h)) (time d)

time_rest : {g : List ℕ} {n : ℕ} (f name rest : List ℕ) → IsTimeField g n → g ≡ f → f ≡ name ++ rest → name ≡ codes "time" → IsDigits rest n
time_rest f name rest (time {d = d} {n = n} k) g e h = subst (λ u. IsDigits u n) (rest_same (codes "time") d name rest (g ∙ e) (sym h)) k

-- a time field that was read has no fault
pub time_sound : (f name : List ℕ) (n : ℕ) → name ≡ name_part f → name ≡ codes "time" → IsTimeField f n → (k : TraceKind) → ¬ TimeFault f k
time_sound f name n e h t k (inl w) = w.0 (sym e ∙ h)
time_sound f name n e h t k (inr w) = w.1.0 (n, t)

-- what follows `time` is no decimals
pub time_bad : (f name rest : List ℕ) → f ≡ name ++ rest → name ≡ name_part f → name ≡ codes "time" → ((n : ℕ) → ¬ IsDigits rest n) → TimeFault f (BadMode 1)
time_bad f name rest w e h none = inr ((λ x a. a.0 (sym e ∙ h)), ((λ a. none a.0 (time_rest f name rest a.1 refl w h)), refl))

-- a further field
column_rest : {g : List ℕ} {k : Column} {n : ℕ} (f name rest : List ℕ) → IsColumn g k n → g ≡ f → f ≡ name ++ rest → name ≡ name_part f → ¬ NoMode rest
column_rest f name rest (column {m = m} {d = d} {step = s} {n = n} x ok md dd) g e h none =
    let a : x ++ (m ++ d) ≡ f = sym (append_assoc x m d) ∙ g in
    let b : x ≡ name = sym (named x (m ++ d) ok (suffix_begins md dd)) ∙ (ap name_part a ∙ sym h) in
    none m d s n md dd (sym (rest_same x (m ++ d) name rest (a ∙ e) b))

-- a name, a mode and decimals are a column
pub column_is : (f name rest m d : List ℕ) (s : Bool) (n : ℕ) → f ≡ name ++ rest → IsName name → rest ≡ m ++ d → IsMode m s → IsDigits d n
    → IsColumn f (record { name = name; step = s }) n
column_is f name rest m d s n e ok r md dd =
    subst (λ g. IsColumn g (record { name = name; step = s }) n) (append_assoc name m d ∙ (ap (λ u. name ++ u) (sym r) ∙ sym e)) (column name ok md dd)

-- what follows the name is none
pub column_bad : (f name rest : List ℕ) (i : ℕ) (earlier : List (List ℕ)) → f ≡ name ++ rest → name ≡ name_part f → IsName name
    → NoMode rest → ColumnFault i earlier f (BadMode i)
column_bad f name rest i earlier w e ok none =
    inr ((λ x a. a.0 (subst IsName e ok)), inl ((λ a. column_rest f name rest a.2 refl w e none), refl))

-- a name that came before
pub column_same : (f name : List ℕ) (i : ℕ) (earlier : List (List ℕ)) (k : Column) (n : ℕ) → name ≡ name_part f → IsName name
    → IsColumn f k n → is_among name earlier ≡ true
    → ColumnFault i earlier f (SameName i)
column_same f name i earlier k n e ok c among =
    inr ((λ x a. a.0 (subst IsName e ok)), inr ((λ x a. a.0 (k, n, c)), (subst (λ t. is_among t earlier ≡ true) e among, refl)))

-- a column that was read has no fault
pub column_sound : (f name : List ℕ) (i : ℕ) (earlier : List (List ℕ)) (k : Column) (n : ℕ) → name ≡ name_part f → IsName name
    → IsColumn f k n → is_among name earlier ≡ false
    → (x : TraceKind) → ¬ ColumnFault i earlier f x
column_sound f name i earlier k n e ok c among x (inl a) = a.0 (subst IsName e ok)
column_sound f name i earlier k n e ok c among x (inr (_, inl a)) = a.0 (k, n, c)
column_sound f name i earlier k n e ok c among x (inr (_, inr (_, a))) = false≢true (sym (subst (λ t. is_among t earlier ≡ false) e among) ∙ a.0)

-- names in another order
or_swap : (a b c : Bool) → (a || (b || c)) ≡ (b || (a || c))
or_swap true true c = refl
or_swap true false c = refl
or_swap false true c = refl
or_swap false false c = refl

abbrev names_of : List Column → List (List ℕ)
names_of columns = map (λ (k : Column). k.name) columns

among_push : (n : List ℕ) (columns : List Column) (k : Column)
    → is_among n (names_of (columns ++ k ∷ [])) ≡ (bytes_eq n k.name || is_among n (names_of columns))
among_push n [] k = refl
among_push n (j ∷ columns) k =
    ap (λ b. bytes_eq n j.name || b) (among_push n columns k) ∙ or_swap (bytes_eq n j.name) (bytes_eq n k.name) (is_among n (names_of columns))

more_names : (earlier : List (List ℕ)) (columns : List Column) (k : Column) (x : List ℕ) → AreNames earlier columns → k.name ≡ x
    → AreNames (x ∷ earlier) (columns ++ k ∷ [])
more_names earlier columns k x h e n =
    ap (λ b. bytes_eq n x || b) (h n)
    ∙ (or_swap (bytes_eq n x) (bytes_eq n (codes "time")) (is_among n (names_of columns))
    ∙ ap (λ b. bytes_eq n (codes "time") || b) (ap (λ y. bytes_eq n y || is_among n (names_of columns)) (sym e) ∙ sym (among_push n columns k)))

-- no further field was read
pub start_left : (fields : List (List ℕ)) (o : Opened) → o ≡ record { columns = []; digits = [] } → AreColumnsLeft fields 2 fields o
start_left fields o e = subst (λ p. AreColumnsLeft fields 2 fields p) (sym e) (record {
  earlier = codes "time" ∷ [];
  names = λ n. refl;
  faults = λ k h. h;
  only = λ k h. h;
  columns = λ cs ds h. h;
})

-- one field more
pub left_more : (fields : List (List ℕ)) (i j : ℕ) (f : List ℕ) (more : List (List ℕ)) (o p : Opened)
    → AreColumnsLeft fields i (f ∷ more) o → IsColumnMore f o p → j ≡ suc i
    → AreColumnsLeft fields j more p
left_more fields i j f more o p l m e =
    subst (λ n. AreColumnsLeft fields n more p) (sym e) (subst (λ q. AreColumnsLeft fields (suc i) more q) (sym m.added) (record {
      earlier = name_part f ∷ l.earlier;
      names = more_names l.earlier o.columns m.column (name_part f) l.names m.named;
      faults = λ k h. l.faults k (inr ((λ x b. m.sound i l.earlier l.names x b), h));
      only = λ k h. elim (l.only k h) [ inl b ↦ absurd (m.sound i l.earlier l.names k b) | inr w ↦ w.1 ];
      columns = λ cs ds h. subst (λ c. AreColumns fields c ((o.digits ++ m.digits ∷ []) ++ ds)) (sym (append_assoc o.columns (m.column ∷ []) cs))
          (subst (λ d. AreColumns fields (o.columns ++ (m.column ∷ cs)) d) (sym (append_assoc o.digits (m.digits ∷ []) ds))
          (l.columns (m.column ∷ cs) (m.digits ∷ ds) (m.column, m.digits, cs, ds, m.written, h, refl, refl)));
    }))

-- all fields were read
pub none_left : (fields : List (List ℕ)) (i : ℕ) (left : List (List ℕ)) (o : Opened) → AreColumnsLeft fields i left o → left ≡ []
    → AreColumns fields o.columns o.digits
none_left fields i left o l e =
    let h : AreColumns fields (o.columns ++ []) (o.digits ++ []) = l.columns [] [] (subst (λ t. AreColumns t [] []) (sym e) (refl, refl)) in
    subst (λ c. AreColumns fields c o.digits) (append-nil o.columns) (subst (λ d. AreColumns fields (o.columns ++ []) d) (append-nil o.digits) h)

-- no field left, no fault
pub sound_left : (fields : List (List ℕ)) (i : ℕ) (left : List (List ℕ)) (o : Opened) → AreColumnsLeft fields i left o → left ≡ []
    → (k : TraceKind) → ¬ ColumnFaults 2 (codes "time" ∷ []) fields k
sound_left fields i left o l e k h = subst (λ t. ColumnFaults i l.earlier t k) e (l.only k h)

-- a fault of the next field is one of the header
pub fault_left : (fields : List (List ℕ)) (i : ℕ) (left : List (List ℕ)) (o : Opened) → AreColumnsLeft fields i left o
    → (f : List ℕ) (more : List (List ℕ)) → left ≡ f ∷ more
    → (k : TraceKind) → ((earlier : List (List ℕ)) → AreNames earlier o.columns → ColumnFault i earlier f k) → ColumnFaults 2 (codes "time" ∷ []) fields k
fault_left fields i left o l f more e k h = l.faults k (subst (λ t. ColumnFaults i l.earlier t k) (sym e) (inl (h l.earlier l.names)))

-- the faults of a header by those of its fields
pub first_bad : (fields : List (List ℕ)) (f : List ℕ) (others : List (List ℕ)) → fields ≡ f ∷ others → length fields ≤ 65
    → (k : TraceKind) → TimeFault f k → HeaderFault fields k
first_bad fields f others e few k h = inr ((λ x a. omega (arith, few, a.0)), subst (λ t. NameFaults t k) (sym e) (inl h))

-- a fault after the first field is one of the header
pub later_bad : (fields : List (List ℕ)) (f : List ℕ) (others : List (List ℕ)) → fields ≡ f ∷ others → length fields ≤ 65 → ((k : TraceKind) → ¬ TimeFault f k)
    → (k : TraceKind) → ColumnFaults 2 (codes "time" ∷ []) others k → HeaderFault fields k
later_bad fields f others e few sound k h = inr ((λ x a. omega (arith, few, a.0)), subst (λ t. NameFaults t k) (sym e) (inr (sound, h)))

-- a header that was read has no fault
pub header_sound : (fields : List (List ℕ)) (f : List ℕ) (others : List (List ℕ)) → fields ≡ f ∷ others → length fields ≤ 65
    → ((k : TraceKind) → ¬ TimeFault f k)
    → ((k : TraceKind) → ¬ ColumnFaults 2 (codes "time" ∷ []) others k) → (k : TraceKind) → ¬ HeaderFault fields k
header_sound fields f others e few sound rest k (inl a) = omega (arith, few, a.0)
header_sound fields f others e few sound rest k (inr (_, h)) = elim (subst (λ t. NameFaults t k) e h) [ inl a ↦ sound k a | inr a ↦ rest k a.1 ]

-- the time field and the columns are a header
pub heading_is : (fields : List (List ℕ)) (f : List ℕ) (others : List (List ℕ)) (h : Heading) → fields ≡ f ∷ others
    → IsTimeField f h.time_digits → AreColumns others h.columns h.digits
    → IsHeading fields h
heading_is fields f others h e t c = subst (λ x. IsHeading x h) (sym e) (t, c)

-- a list without items is empty
pub empty_is : (xs : List ℕ) (b : Bool) → b ≡ (length xs == 0) → b ≡ false → length xs ≡ 0 → ⊥
empty_is xs b e h l = false≢true (sym h ∙ (e ∙ eq-eqb (length xs) 0 l))

-- a name that equals `time` is it
pub is_time_name : (name : List ℕ) → bytes_eq name (codes "time") ≡ true → name ≡ codes "time"
is_time_name name h = same_text name (codes "time") (sym h)

-- whether a name stands in an earlier field
pub among_time : (name : List ℕ) (earlier : List (List ℕ)) (columns : List Column) → AreNames earlier columns
    → bytes_eq name (codes "time") ≡ true → is_among name earlier ≡ true
among_time name earlier columns h e = h name ∙ rw e refl

-- a name is among earlier fields where it is among the columns
pub among_columns : (name : List ℕ) (earlier : List (List ℕ)) (columns : List Column) → AreNames earlier columns → bytes_eq name (codes "time") ≡ false
    → (b : Bool) → is_among name (names_of columns) ≡ b → is_among name earlier ≡ b
among_columns name earlier columns h e b k = h name ∙ rw (e, k) refl
