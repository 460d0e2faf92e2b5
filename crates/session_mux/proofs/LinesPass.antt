-- Lines without a fault of the input: a fault of lines that follow them is one of all, and the other way round.
use Rattle.std.proofs.Common.{◌≡◌, ◌⊎◌, inl, inr, ℕ, suc, ◌+◌, ◌<◌, ◌≤◌, Bool, true, false, List, [], ◌∷◌}
use Rattle.std.proofs.Common.{◌++◌, length, refl, sym, ap, ◌∙◌, subst, arith, add-zero, zero-add, append-nil}
use Rattle.std.specs.Prelude.{IsTrue, MatchBool, ◌||◌, bytes_eq, if◌then◌else◌}
use Rattle.std.proofs.Math.Bool.{or-false}
use Rattle.stl_syntax.specs.Characters.{is_among}
use Rattle.trace_reader.specs.TraceText.{Line, content, is_blank_line}
use Rattle.trace_reader.proofs.LineLemmas.{rest}
use Rattle.trace_stream.proofs.FaultPlaces.{at_true, at_false, to_true, to_false}
use Rattle.session_mux.specs.Sessions.{Tagged, IsTagged, AreTagged, none as none_tagged, unfinished, blank as blank_line, next, tags_after}
use Rattle.session_mux.specs.Inputs.{InputFault, too_many_lines, too_long, bad_tag, too_many_sessions, FaultOfInput}
use Rattle.session_mux.specs.Taking.{IsSized, ArePassed, none, blank, old_tag, new_tag}
use Rattle.session_mux.proofs.OneTag.{tagged_once}

-- ---- one line

module _ (n : ℕ) (known : List (List ℕ)) (line : Line) (more : List Line) where
  abbrev pub Later : InputFault → Type 0
  Later x = FaultOfInput (suc n) known more x

  abbrev pub WithTag : Tagged → InputFault → Type 0
  WithTag t x = ((1024 ≤ length known) × (x ≡ too_many_sessions n))
      ⊎ (((y : InputFault) → ¬ ((1024 ≤ length known) × (y ≡ too_many_sessions n))) × FaultOfInput (suc n) (t.tag ∷ known) more x)

  abbrev pub InTagged : InputFault → Type 0
  InTagged x = (t : Tagged) × IsTagged (content line) t × MatchBool (is_among t.tag known) (Later x) (WithTag t x)

  abbrev pub NoTag : InputFault → Type 0
  NoTag x = (¬ ((t : Tagged) × IsTagged (content line) t)) × (x ≡ bad_tag n)

  abbrev pub InLine : InputFault → Type 0
  InLine x = NoTag x ⊎ (((y : InputFault) → ¬ NoTag y) × InTagged x)

  abbrev pub InBody : InputFault → Type 0
  InBody x = IsTrue line.whole × MatchBool (is_blank_line line) (Later x) (InLine x)

  -- a line of a right size has a fault only in what it says
  pub sized_fault : IsSized n (length line.bytes) → (x : InputFault) → InBody x → FaultOfInput n known (line ∷ more) x
  sized_fault (few, short) x b = inr ((λ y f. omega (arith, f.0, few)), inr ((λ y f. omega (arith, f.0, short)), b))

  -- a fault at a line that is not too long is one in what it says, or one of later lines
  pub fault_sized : IsSized n (length line.bytes) → (x : InputFault) → FaultOfInput n known (line ∷ more) x → InBody x
  fault_sized (few, short) x (inl f) = absurd (omega (arith, f.0, few))
  fault_sized (few, short) x (inr (a, inl f)) = absurd (omega (arith, f.0, short))
  fault_sized (few, short) x (inr (a, inr (b, f))) = f

  -- a blank line
  pub past_blank : IsSized n (length line.bytes) → line.whole ≡ true → is_blank_line line ≡ true → (x : InputFault) → Later x
      → FaultOfInput n known (line ∷ more) x
  past_blank sized w b x f = sized_fault sized x (w, to_true (Later x) (InLine x) (is_blank_line line) b f)

  -- a fault at or after a blank line is one of later lines
  pub blank_past : IsSized n (length line.bytes) → is_blank_line line ≡ true → (x : InputFault) → FaultOfInput n known (line ∷ more) x → Later x
  blank_past sized b x f = at_true (Later x) (InLine x) (is_blank_line line) b (fault_sized sized x f).1

  -- a line with a tag
  in_tagged : IsSized n (length line.bytes) → line.whole ≡ true → is_blank_line line ≡ false → (t : Tagged) → IsTagged (content line) t → (x : InputFault)
      → MatchBool (is_among t.tag known) (Later x) (WithTag t x) → FaultOfInput n known (line ∷ more) x
  in_tagged sized w b t is x f = sized_fault sized x (w, to_false (Later x) (InLine x) (is_blank_line line) b (inr ((λ y g. g.0 (t, is)), (t, is, f))))

  tagged_in : IsSized n (length line.bytes) → is_blank_line line ≡ false → (t : Tagged) → IsTagged (content line) t
      → (x : InputFault) → FaultOfInput n known (line ∷ more) x
      → MatchBool (is_among t.tag known) (Later x) (WithTag t x)
  tagged_in sized b t is x f = by_line (at_false (Later x) (InLine x) (is_blank_line line) b (fault_sized sized x f).1)
    where
      by_line : InLine x → MatchBool (is_among t.tag known) (Later x) (WithTag t x)
      by_line (inl g) = absurd (g.0 (t, is))
      by_line (inr (a, (u, other, g))) =
          subst (λ (v : Tagged). MatchBool (is_among v.tag known) (Later x) (WithTag v x)) (tagged_once (content line) u t other is) g

  -- a fault of later lines is one of all, past a line of a known tag
  pub past_old : IsSized n (length line.bytes) → line.whole ≡ true → is_blank_line line ≡ false → (t : Tagged)
      → IsTagged (content line) t → is_among t.tag known ≡ true → (x : InputFault)
      → Later x → FaultOfInput n known (line ∷ more) x
  past_old sized w b t is a x f = in_tagged sized w b t is x (to_true (Later x) (WithTag t x) (is_among t.tag known) a f)

  -- past a line of a known tag, a fault of all lines is one of those behind it
  pub old_past : IsSized n (length line.bytes) → is_blank_line line ≡ false → (t : Tagged) → IsTagged (content line) t
      → is_among t.tag known ≡ true → (x : InputFault)
      → FaultOfInput n known (line ∷ more) x → Later x
  old_past sized b t is a x f = at_true (Later x) (WithTag t x) (is_among t.tag known) a (tagged_in sized b t is x f)

  -- a fault of later lines is one of all, past the first line of a tag
  pub past_new : IsSized n (length line.bytes) → line.whole ≡ true → is_blank_line line ≡ false → (t : Tagged)
      → IsTagged (content line) t → is_among t.tag known ≡ false → length known < 1024
      → (x : InputFault) → FaultOfInput (suc n) (t.tag ∷ known) more x → FaultOfInput n known (line ∷ more) x
  past_new sized w b t is a room x f = in_tagged sized w b t is x
      (to_false (Later x) (WithTag t x) (is_among t.tag known) a (inr ((λ y g. omega (arith, g.0, room)), f)))

  -- past the first line of a tag, a fault of all lines is one of those behind it
  pub new_past : IsSized n (length line.bytes) → is_blank_line line ≡ false → (t : Tagged) → IsTagged (content line) t
      → is_among t.tag known ≡ false → length known < 1024
      → (x : InputFault) → FaultOfInput n known (line ∷ more) x → FaultOfInput (suc n) (t.tag ∷ known) more x
  new_past sized b t is a room x f = by_tag (at_false (Later x) (WithTag t x) (is_among t.tag known) a (tagged_in sized b t is x f))
    where
      by_tag : WithTag t x → FaultOfInput (suc n) (t.tag ∷ known) more x
      by_tag (inl g) = absurd (omega (arith, g.0, room))
      by_tag (inr (few, g)) = g

  -- the faults of a line
  pub many_fault : 8589934592 < n → FaultOfInput n known (line ∷ more) (too_many_lines n)
  many_fault many = inl (many, refl)

  -- a line of more than 4,113 bytes is refused
  pub long_fault : n ≤ 8589934592 → 4113 < length line.bytes → FaultOfInput n known (line ∷ more) (too_long n)
  long_fault few long = inr ((λ y f. omega (arith, f.0, few)), inl (long, refl))

  -- a line without a tag is refused
  pub tag_fault : IsSized n (length line.bytes) → line.whole ≡ true → is_blank_line line ≡ false
      → ((t : Tagged) → ¬ IsTagged (content line) t) → FaultOfInput n known (line ∷ more) (bad_tag n)
  tag_fault sized w b lacks = sized_fault sized (bad_tag n)
      (w, to_false (Later (bad_tag n)) (InLine (bad_tag n)) (is_blank_line line) b (inl ((λ p. lacks p.0 p.1), refl)))

  -- a line of a 1,025th tag is refused
  pub room_fault : IsSized n (length line.bytes) → line.whole ≡ true → is_blank_line line ≡ false → (t : Tagged)
      → IsTagged (content line) t → is_among t.tag known ≡ false → 1024 ≤ length known
      → FaultOfInput n known (line ∷ more) (too_many_sessions n)
  room_fault sized w b t is a full = in_tagged sized w b t is (too_many_sessions n)
      (to_false (Later (too_many_sessions n)) (WithTag t (too_many_sessions n)) (is_among t.tag known) a (inl (full, refl)))

-- ---- lines

at_next : (n k : ℕ) (known : List (List ℕ)) (more : List Line) (x : InputFault) → FaultOfInput (n + suc k) known more x → FaultOfInput (suc n + k) known more x
at_next n k known more x f = subst (λ m. FaultOfInput m known more x) (let e : n + suc k ≡ suc n + k = omega arith in e) f

from_next : (n k : ℕ) (known : List (List ℕ)) (more : List Line) (x : InputFault) → FaultOfInput (suc n + k) known more x
    → FaultOfInput (n + suc k) known more x
from_next n k known more x f = subst (λ m. FaultOfInput m known more x) (let e : suc n + k ≡ n + suc k = omega arith in e) f

-- a fault of the lines that follow is one of all
pub fault_past : {n : ℕ} {known after : List (List ℕ)} {front : List Line} {tagged : List Tagged}
    → ArePassed n known front tagged after → (more : List Line) (x : InputFault)
    → FaultOfInput (n + length front) after more x → FaultOfInput n known (front ++ more) x
fault_past {n} {known} none more x f = subst (λ m. FaultOfInput m known more x) (add-zero n) f
fault_past {n} {known} {after} (blank {line = line} {more = lines} sized w b rest) more x f =
    past_blank n known line (lines ++ more) sized w b x (fault_past rest more x (at_next n (length lines) after more x f))
fault_past {n} {known} {after} (old_tag {line = line} {more = lines} {x = t} sized w b is a rest) more x f =
    past_old n known line (lines ++ more) sized w b t is a x (fault_past rest more x (at_next n (length lines) after more x f))
fault_past {n} {known} {after} (new_tag {line = line} {more = lines} {x = t} sized w b is a room rest) more x f =
    past_new n known line (lines ++ more) sized w b t is a room x (fault_past rest more x (at_next n (length lines) after more x f))

-- past lines without a fault the first fault is one of the lines behind them
pub past_fault : {n : ℕ} {known after : List (List ℕ)} {front : List Line} {tagged : List Tagged}
    → ArePassed n known front tagged after → (more : List Line) (x : InputFault)
    → FaultOfInput n known (front ++ more) x → FaultOfInput (n + length front) after more x
past_fault {n} {known} none more x f = subst (λ m. FaultOfInput m known more x) (sym (add-zero n)) f
past_fault {n} {known} {after} (blank {line = line} {more = lines} sized w b rest) more x f =
    from_next n (length lines) after more x (past_fault rest more x (blank_past n known line (lines ++ more) sized b x f))
past_fault {n} {known} {after} (old_tag {line = line} {more = lines} {x = t} sized w b is a rest) more x f =
    from_next n (length lines) after more x (past_fault rest more x (old_past n known line (lines ++ more) sized b t is a x f))
past_fault {n} {known} {after} (new_tag {line = line} {more = lines} {x = t} sized w b is a room rest) more x f =
    from_next n (length lines) after more x (past_fault rest more x (new_past n known line (lines ++ more) sized b t is a room x f))

-- lines without a fault are the lines of their tags
pub passed_tagged : {n : ℕ} {known after : List (List ℕ)} {front : List Line} {tagged : List Tagged}
    → ArePassed n known front tagged after → AreTagged front tagged
passed_tagged none = none_tagged
passed_tagged (blank sized w b rest) = blank_line w b (passed_tagged rest)
passed_tagged (old_tag sized w b is a rest) = next w b is (passed_tagged rest)
passed_tagged (new_tag sized w b is a room rest) = next w b is (passed_tagged rest)

-- and a line that goes on adds none
pub tagged_open : (front : List Line) (line : List ℕ) (tagged : List Tagged) {n : ℕ} {known after : List (List ℕ)}
    → ArePassed n known front tagged after → AreTagged (front ++ rest false line) tagged
tagged_open front [] tagged passed = subst (λ ls. AreTagged ls tagged) (sym (append-nil front)) (passed_tagged passed)
tagged_open front (c ∷ cs) tagged passed = open_end passed
  where
    last : Line
    last = record { bytes = c ∷ cs; whole = false }

    open_end : {front : List Line} {tagged : List Tagged} {n : ℕ} {known after : List (List ℕ)}
        → ArePassed n known front tagged after → AreTagged (front ++ last ∷ []) tagged
    open_end none = unfinished {line = last} refl
    open_end (blank sized w b rest) = blank_line w b (open_end rest)
    open_end (old_tag sized w b is a rest) = next w b is (open_end rest)
    open_end (new_tag sized w b is a room rest) = next w b is (open_end rest)

number_next : (n k : ℕ) → n + suc k ≡ suc n + k
number_next n k = omega arith

-- lines after lines
pub passed_on : {n : ℕ} {known mid after : List (List ℕ)} {front more : List Line} {tagged later : List Tagged}
    → ArePassed n known front tagged mid → ArePassed (n + length front) mid more later after
    → ArePassed n known (front ++ more) (tagged ++ later) after
passed_on {n} {known} {after = after} {more = more} {later = later} none p = subst (λ m. ArePassed m known more later after) (add-zero n) p
passed_on {n} {mid = mid} {after = after} {more = more} {later = later} (blank {more = lines} sized w b rest) p =
    blank sized w b (passed_on rest (subst (λ m. ArePassed m mid more later after) (number_next n (length lines)) p))
passed_on {n} {mid = mid} {after = after} {more = more} {later = later} (old_tag {more = lines} sized w b is a rest) p =
    old_tag sized w b is a (passed_on rest (subst (λ m. ArePassed m mid more later after) (number_next n (length lines)) p))
passed_on {n} {mid = mid} {after = after} {more = more} {later = later} (new_tag {more = lines} sized w b is a room rest) p =
    new_tag sized w b is a room (passed_on rest (subst (λ m. ArePassed m mid more later after) (number_next n (length lines)) p))

-- ---- the tags that are known

or_shift : (a b c : Bool) → (a || (b || c)) ≡ ((b || a) || c)
or_shift true true c = refl
or_shift true false c = refl
or_shift false true c = refl
or_shift false false c = refl

-- a tag is known after the lines where it was before, or is one of theirs
pub known_among : (t : List ℕ) {n : ℕ} {known after : List (List ℕ)} {front : List Line} {tagged : List Tagged} → ArePassed n known front tagged after
    → is_among t after ≡ (is_among t (tags_after known tagged) || is_among t known)
known_among t none = refl
known_among t (blank sized w b rest) = known_among t rest
known_among t {known = known} (old_tag {x = x} {tagged = tagged} sized w b is a rest) =
    known_among t rest
    ∙ ap (λ (b : Bool). is_among t (if b then tags_after known tagged else x.tag ∷ tags_after (x.tag ∷ known) tagged) || is_among t known) (sym a)
known_among t {known = known} (new_tag {x = x} {tagged = tagged} sized w b is a room rest) =
    known_among t rest
    ∙ or_shift (is_among t (tags_after (x.tag ∷ known) tagged)) (bytes_eq t x.tag) (is_among t known)
    ∙ ap (λ (b : Bool). is_among t (if b then tags_after known tagged else x.tag ∷ tags_after (x.tag ∷ known) tagged) || is_among t known) (sym a)

-- and so many are known
pub known_length : {n : ℕ} {known after : List (List ℕ)} {front : List Line} {tagged : List Tagged} → ArePassed n known front tagged after
    → length after ≡ length (tags_after known tagged) + length known
known_length {known = known} none = sym (zero-add (length known))
known_length (blank sized w b rest) = known_length rest
known_length {known = known} (old_tag {x = x} {tagged = tagged} sized w b is a rest) =
    known_length rest ∙ ap (λ (b : Bool). length (if b then tags_after known tagged else x.tag ∷ tags_after (x.tag ∷ known) tagged) + length known) (sym a)
known_length {known = known} (new_tag {x = x} {tagged = tagged} sized w b is a room rest) =
    known_length rest
    ∙ number_next (length (tags_after (x.tag ∷ known) tagged)) (length known)
    ∙ ap (λ (b : Bool). length (if b then tags_after known tagged else x.tag ∷ tags_after (x.tag ∷ known) tagged) + length known) (sym a)

-- from the first line on
pub known_tag : (t : List ℕ) {after : List (List ℕ)} {front : List Line} {tagged : List Tagged}
    → ArePassed 1 [] front tagged after → is_among t after ≡ is_among t (tags_after [] tagged)
known_tag t {tagged = tagged} p = known_among t p ∙ or-false (is_among t (tags_after [] tagged))

-- there are as many known tags as different tags of the lines
pub known_count : {after : List (List ℕ)} {front : List Line} {tagged : List Tagged} → ArePassed 1 [] front tagged after
    → length after ≡ length (tags_after [] tagged)
known_count {tagged = tagged} p = known_length p ∙ add-zero (length (tags_after [] tagged))
