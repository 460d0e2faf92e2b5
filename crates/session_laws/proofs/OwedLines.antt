-- What is owed to an input of several sessions is one text, and only grows.
use Rattle.std.proofs.Common.{◌≡◌, inl, inr, ℕ, suc, ◌+◌, ◌-◌, ◌<◌, ◌≤◌, Bool, true, false, List, [], ◌∷◌, ◌++◌}
use Rattle.std.proofs.Common.{length, take, refl, sym, ap, ◌∙◌, subst, arith, append-nil, append_assoc, length-append}
use Rattle.std.specs.Prelude.{All, MatchBool, codes}
use Rattle.std.proofs.lemmas.Bool.{false≢true}
use Rattle.std.proofs.lemmas.List.{append_cancel_left, take-append-le}
use Rattle.std.proofs.lemmas.List.Elements.{All-head, All-tail}
use Rattle.stl_syntax.specs.Characters.{is_among}
use Rattle.stl_syntax.specs.Formula.{Formula}
use Rattle.trace_reader.specs.TraceText.{Line, lines, content, is_blank_line}
use Rattle.trace_reader.proofs.LineLemmas.{IsDone, rest}
use Rattle.trace_reader.proofs.OpenLines.{Parts, parts, lines-now, open_line}
use Rattle.answer_lines.proofs.StreamTexts.{IsLonger}
use Rattle.trace_stream.proofs.FaultPlaces.{at_true, at_false}
use Rattle.session_mux.specs.Sessions.{Tagged, IsTagged, AreTagged, none, unfinished, blank, next, is_query, own, is_stopped}
use Rattle.session_mux.specs.Sessions.{prefixed, last_eight, IsAnswer, AreAnswers, AreEnds, tags_after, MuxText}
use Rattle.session_mux.specs.Inputs.{InputFault}
use Rattle.session_mux.specs.Inputs.{fault_line, FaultOfInput, AreLinesBefore, sound, faulted, OwesLines}
use Rattle.session_mux.proofs.OneTag.{tagged_once}
use Rattle.session_mux.proofs.LinesPass.{Later, WithTag, InLine}
use Rattle.session_mux.proofs.FrontLines.{later_fault, input_fault_stays, answers_split}
use Rattle.session_mux.proofs.FrontTexts.{take_beyond}
use Rattle.session_mux.proofs.OneText.{text_alone_once}

-- ---- one fault

module _ (n : ℕ) (known : List (List ℕ)) (line : Line) (more : List Line) (x y : InputFault)
    (on : (tags : List (List ℕ)) → FaultOfInput (suc n) tags more x → FaultOfInput (suc n) tags more y → x ≡ y) where
  tag_fault_once : (t : Tagged) → WithTag n known line more t x → WithTag n known line more t y → x ≡ y
  tag_fault_once t (inl a) (inl b) = a.1 ∙ sym b.1
  tag_fault_once t (inl a) (inr (q, g)) = absurd (q x a)
  tag_fault_once t (inr (p, f)) (inl b) = absurd (p y b)
  tag_fault_once t (inr (p, f)) (inr (q, g)) = on (t.tag ∷ known) f g

  among_once : (t : Tagged) (b : Bool) → is_among t.tag known ≡ b → MatchBool (is_among t.tag known) (Later n known line more x) (WithTag n known line more t x)
      → MatchBool (is_among t.tag known) (Later n known line more y) (WithTag n known line more t y) → x ≡ y
  among_once t true e f g =
      on known (at_true (Later n known line more x) (WithTag n known line more t x) (is_among t.tag known) e f)
      (at_true (Later n known line more y) (WithTag n known line more t y) (is_among t.tag known) e g)
  among_once t false e f g =
      tag_fault_once t (at_false (Later n known line more x) (WithTag n known line more t x) (is_among t.tag known) e f)
      (at_false (Later n known line more y) (WithTag n known line more t y) (is_among t.tag known) e g)

  line_once : InLine n known line more x → InLine n known line more y → x ≡ y
  line_once (inl a) (inl b) = a.1 ∙ sym b.1
  line_once (inl a) (inr (q, g)) = absurd (q x a)
  line_once (inr (p, f)) (inl b) = absurd (p y b)
  line_once (inr (p, (t, is, f))) (inr (q, (u, other, g))) = among_once t (is_among t.tag known) refl f
      (subst (λ (v : Tagged). MatchBool (is_among v.tag known) (Later n known line more y) (WithTag n known line more v y))
      (tagged_once (content line) u t other is) g)

  blank_once : (b : Bool) → is_blank_line line ≡ b → MatchBool (is_blank_line line) (Later n known line more x) (InLine n known line more x)
      → MatchBool (is_blank_line line) (Later n known line more y) (InLine n known line more y) → x ≡ y
  blank_once true e f g =
      on known (at_true (Later n known line more x) (InLine n known line more x) (is_blank_line line) e f)
      (at_true (Later n known line more y) (InLine n known line more y) (is_blank_line line) e g)
  blank_once false e f g =
      line_once (at_false (Later n known line more x) (InLine n known line more x) (is_blank_line line) e f)
      (at_false (Later n known line more y) (InLine n known line more y) (is_blank_line line) e g)

  first_once : FaultOfInput n known (line ∷ more) x → FaultOfInput n known (line ∷ more) y → x ≡ y
  first_once (inl a) (inl b) = a.1 ∙ sym b.1
  first_once (inl a) (inr (q, g)) = absurd (q x a)
  first_once (inr (p, f)) (inl b) = absurd (p y b)
  first_once (inr (p, inl a)) (inr (q, inl b)) = a.1 ∙ sym b.1
  first_once (inr (p, inl a)) (inr (q, inr (r, g))) = absurd (r x a)
  first_once (inr (p, inr (r, f))) (inr (q, inl b)) = absurd (r y b)
  first_once (inr (p, inr (r, (w, f)))) (inr (q, inr (s, (v, g)))) = blank_once (is_blank_line line) refl f g

-- lines have at most one first fault
pub input_fault_once : (n : ℕ) (known : List (List ℕ)) (all : List Line) (x y : InputFault) → FaultOfInput n known all x → FaultOfInput n known all y → x ≡ y
input_fault_once n known [] x y f g = absurd f
input_fault_once n known (l ∷ all) x y f g = first_once n known l all x y (λ tags a b. input_fault_once (suc n) tags all x y a b) f g

-- ---- its line

-- it is one of the lines
abbrev IsWithin : ℕ → List Line → InputFault → Type 0
IsWithin n all x = (n ≤ fault_line x) × (fault_line x < n + length all)

module _ (n : ℕ) (known : List (List ℕ)) (line : Line) (more : List Line) (x : InputFault)
    (on : (tags : List (List ℕ)) → FaultOfInput (suc n) tags more x → IsWithin (suc n) more x) where
  at_line : fault_line x ≡ n → IsWithin n (line ∷ more) x
  at_line e = (omega (arith, e), omega (arith, e))

  beyond : (tags : List (List ℕ)) → FaultOfInput (suc n) tags more x → IsWithin n (line ∷ more) x
  beyond tags f = let (low, high) = on tags f in (omega (arith, low), omega (arith, high))

  place_of_tag : (t : Tagged) → WithTag n known line more t x → IsWithin n (line ∷ more) x
  place_of_tag t (inl a) = at_line (ap fault_line a.1)
  place_of_tag t (inr (p, f)) = beyond (t.tag ∷ known) f

  place_of_line : InLine n known line more x → IsWithin n (line ∷ more) x
  place_of_line (inl a) = at_line (ap fault_line a.1)
  place_of_line (inr (p, (t, is, f))) = by_among (is_among t.tag known) refl
    where
      by_among : (b : Bool) → is_among t.tag known ≡ b → IsWithin n (line ∷ more) x
      by_among true e = beyond known (at_true (Later n known line more x) (WithTag n known line more t x) (is_among t.tag known) e f)
      by_among false e = place_of_tag t (at_false (Later n known line more x) (WithTag n known line more t x) (is_among t.tag known) e f)

  first_place : FaultOfInput n known (line ∷ more) x → IsWithin n (line ∷ more) x
  first_place (inl a) = at_line (ap fault_line a.1)
  first_place (inr (p, inl a)) = at_line (ap fault_line a.1)
  first_place (inr (p, inr (r, (w, f)))) = by_blank (is_blank_line line) refl
    where
      by_blank : (b : Bool) → is_blank_line line ≡ b → IsWithin n (line ∷ more) x
      by_blank true e = beyond known (at_true (Later n known line more x) (InLine n known line more x) (is_blank_line line) e f)
      by_blank false e = place_of_line (at_false (Later n known line more x) (InLine n known line more x) (is_blank_line line) e f)

-- a first fault is in one of the lines
fault_place : (n : ℕ) (known : List (List ℕ)) (all : List Line) (x : InputFault) → FaultOfInput n known all x → IsWithin n all x
fault_place n known [] x f = absurd f
fault_place n known (l ∷ all) x f = first_place n known l all x (λ tags g. fault_place (suc n) tags all x g) f

-- a fault in one of the first lines is one whatever follows them
early_fault : (n : ℕ) (known : List (List ℕ)) (first more other : List Line) (x : InputFault) → fault_line x < n + length first
    → FaultOfInput n known (first ++ more) x → FaultOfInput n known (first ++ other) x
early_fault n known [] more other x low f = absurd (let place = (fault_place n known more x f).0 in omega (arith, place, low))
early_fault n known (l ∷ first) more other x low f =
    later_fault n known l (first ++ more) (first ++ other) x (λ tags g. early_fault (suc n) tags first more other x (omega (arith, low)) g) f

-- ---- lines with their tags

-- what the first of some lines gives
data FirstTagged (line : Line) (more : List Line) (tagged : List Tagged) : Type 0 where
  goes_on : line.whole ≡ false → tagged ≡ [] → FirstTagged line more tagged
  is_blank : line.whole ≡ true → is_blank_line line ≡ true → AreTagged more tagged → FirstTagged line more tagged
  has_tag : (x : Tagged) (later : List Tagged) → line.whole ≡ true → is_blank_line line ≡ false → IsTagged (content line) x
      → AreTagged more later → tagged ≡ x ∷ later → FirstTagged line more tagged

first_tagged : {all : List Line} {tagged : List Tagged} → AreTagged all tagged → (line : Line) (more : List Line)
    → all ≡ line ∷ more → FirstTagged line more tagged
first_tagged none line more e = absurd cc
first_tagged (unfinished {line = l} w) line more e = let same : l ≡ line = cc in goes_on (subst (λ (z : Line). z.whole ≡ false) same w) refl
first_tagged (blank {line = l} {more = ls} {tagged = tagged} w b rest) line more e =
    let same : l ≡ line = cc in
    let others : ls ≡ more = cc in
    is_blank (subst (λ (z : Line). z.whole ≡ true) same w) (subst (λ (z : Line). is_blank_line z ≡ true) same b) (subst (λ k. AreTagged k tagged) others rest)
first_tagged (next {line = l} {more = ls} {x = x} {tagged = tagged} w b is rest) line more e =
    let same : l ≡ line = cc in
    let others : ls ≡ more = cc in
    has_tag x tagged (subst (λ (z : Line). z.whole ≡ true) same w) (subst (λ (z : Line). is_blank_line z ≡ false) same b)
    (subst (λ (z : Line). IsTagged (content z) x) same is)
    (subst (λ k. AreTagged k tagged) others rest) refl

no_tagged : {all : List Line} {tagged : List Tagged} → AreTagged all tagged → all ≡ [] → tagged ≡ []
no_tagged none e = refl
no_tagged (unfinished w) e = absurd cc
no_tagged (blank w b rest) e = absurd cc
no_tagged (next w b is rest) e = absurd cc

-- they are one list
pub tagged_lines_once : (all : List Line) (a b : List Tagged) → AreTagged all a → AreTagged all b → a ≡ b
tagged_lines_once [] a b p q = no_tagged p refl ∙ sym (no_tagged q refl)
tagged_lines_once (l ∷ all) a b p q = by_line (first_tagged p l all refl) (first_tagged q l all refl) (λ c d u v. tagged_lines_once all c d u v)
  where
    by_line : FirstTagged l all a → FirstTagged l all b → ((c d : List Tagged) → AreTagged all c → AreTagged all d → c ≡ d) → a ≡ b
    by_line (goes_on w e) (goes_on v k) on = e ∙ sym k
    by_line (goes_on w e) (is_blank v c more) on = absurd (false≢true (sym w ∙ v))
    by_line (goes_on w e) (has_tag y later v c is more k) on = absurd (false≢true (sym w ∙ v))
    by_line (is_blank w c more) (goes_on v k) on = absurd (false≢true (sym v ∙ w))
    by_line (is_blank w c more) (is_blank v d others) on = on a b more others
    by_line (is_blank w c more) (has_tag y later v d is others k) on = absurd (false≢true (sym d ∙ c))
    by_line (has_tag x later w c is more e) (goes_on v k) on = absurd (false≢true (sym v ∙ w))
    by_line (has_tag x later w c is more e) (is_blank v d others) on = absurd (false≢true (sym c ∙ d))
    by_line (has_tag x later w c is more e) (has_tag y beyond v d other others k) on =
        e ∙ ap (λ z. z ∷ later) (tagged_once (content l) x y is other) ∙ ap (λ z. y ∷ z) (on later beyond more others) ∙ sym k

-- the first of them
tagged_first : (first more : List Line) (tagged : List Tagged) → All IsDone first → AreTagged (first ++ more) tagged
    → (front back : List Tagged) × AreTagged first front × (tagged ≡ front ++ back)
tagged_first [] more tagged all a = ([], tagged, none, refl)
tagged_first (l ∷ first) more tagged all a = by_line (first_tagged a l (first ++ more) refl) (λ c u. tagged_first first more c (All-tail IsDone l first all) u)
  where
    by_line : FirstTagged l (first ++ more) tagged
        → ((c : List Tagged) → AreTagged (first ++ more) c → (front back : List Tagged) × AreTagged first front × (c ≡ front ++ back))
        → (front back : List Tagged) × AreTagged (l ∷ first) front × (tagged ≡ front ++ back)
    by_line (goes_on w e) on = absurd (false≢true (sym w ∙ All-head IsDone l first all))
    by_line (is_blank w b others) on = let (front, back, are, e) = on tagged others in (front, back, blank w b are, e)
    by_line (has_tag x later w b is others k) on = let (front, back, are, e) = on later others in (x ∷ front, back, next w b is are, k ∙ ap (λ z. x ∷ z) e)

-- a line that goes on adds none
tagged_with_open : (line : List ℕ) {front : List Line} {tagged : List Tagged} → AreTagged front tagged → All IsDone front
    → AreTagged (front ++ rest false line) tagged
tagged_with_open [] none all = none
tagged_with_open (c ∷ cs) none all = unfinished {line = record { bytes = c ∷ cs; whole = false }} refl
tagged_with_open line (unfinished {line = l} w) all = absurd (false≢true (sym w ∙ All-head IsDone l [] all))
tagged_with_open line (blank {line = l} {more = ls} w b more) all = blank w b (tagged_with_open line more (All-tail IsDone l ls all))
tagged_with_open line (next {line = l} {more = ls} w b is more) all = next w b is (tagged_with_open line more (All-tail IsDone l ls all))

-- ---- one text

-- texts that are one, and go on to ones that are one, go on by one
one_added : (old grown other others : List ℕ) → old ≡ other → old ++ grown ≡ other ++ others → grown ≡ others
one_added old grown other others e k = append_cancel_left other grown others (sym (ap (λ t. t ++ grown) e) ∙ k)

answer_once : (f : Formula) (seen : List Tagged) (x : Tagged) (a b : List ℕ) → IsAnswer f seen x a → IsAnswer f seen x b → a ≡ b
answer_once f seen x a b p q = by_query (is_query x) refl
  where
    by_query : (c : Bool) → is_query x ≡ c → a ≡ b
    by_query true e =
        let u = at_true _ _ (is_query x) e p in
        let v = at_true _ _ (is_query x) e q in
        let same = text_alone_once f (own seen x.tag) (is_stopped seen x.tag) u.0 v.0 u.1 v.1 in
        u.2 ∙ ap (λ t. prefixed (x.tag ++ codes " ? ") (last_eight (lines true t))) same ∙ sym v.2
    by_query false e =
        let u = at_false _ _ (is_query x) e p in
        let v = at_false _ _ (is_query x) e q in
        let before = text_alone_once f (own seen x.tag) (is_stopped seen x.tag) u.0 v.0 u.2 v.2 in
        let all = text_alone_once f (own (seen ++ x ∷ []) x.tag) (is_stopped (seen ++ x ∷ []) x.tag) (u.0 ++ u.1) (v.0 ++ v.1) u.3 v.3 in
        u.4 ∙ ap (λ t. prefixed (x.tag ++ codes " ") (lines true t)) (one_added u.0 u.1 v.0 v.1 before all) ∙ sym v.4

answers_once : (f : Formula) (seen all : List Tagged) (a b : List ℕ) → AreAnswers f seen all a → AreAnswers f seen all b → a ≡ b
answers_once f seen [] a b p q = p ∙ sym q
answers_once f seen (x ∷ all) a b (here, later, is, more, e) (here', later', is', more', e') =
    e ∙ ap (λ t. t ++ later) (answer_once f seen x here here' is is')
    ∙ ap (λ t. here' ++ t) (answers_once f (seen ++ x ∷ []) all later later' more more') ∙ sym e'

ends_once : (f : Formula) (all : List Tagged) (tags : List (List ℕ)) (a b : List ℕ) → AreEnds f all tags a → AreEnds f all tags b → a ≡ b
ends_once f all [] a b p q = p ∙ sym q
ends_once f all (t ∷ tags) a b (old, grown, later, so, is, more, e) (old', grown', later', so', is', more', e') =
    let before = text_alone_once f (own all t) (is_stopped all t) old old' so so' in
    let whole = text_alone_once f (own all t) true (old ++ grown) (old' ++ grown') is is' in
    e
    ∙ ap (λ g. prefixed (t ++ codes " ") (lines true g) ++ later) (one_added old grown old' grown' before whole)
    ∙ ap (λ l. prefixed (t ++ codes " ") (lines true grown') ++ l) (ends_once f all tags later later' more more')
    ∙ sym e'

mux_once : (f : Formula) (all : List Tagged) (whole : Bool) (a b : List ℕ) → MuxText f all whole a → MuxText f all whole b → a ≡ b
mux_once f all false a b p q = answers_once f [] all a b p q
mux_once f all true a b (during, rest, answers, ends, e) (during', rest', answers', ends', e') =
    e ∙ ap (λ t. t ++ rest) (answers_once f [] all during during' answers answers')
    ∙ ap (λ t. during' ++ t) (ends_once f all (tags_after [] all) rest rest' ends ends') ∙ sym e'

-- ---- what is owed

-- the lines before the first fault are one list
pub lines_before_once : (bytes : List ℕ) (ended : Bool) {a b : List Tagged} {v w : Bool} → AreLinesBefore bytes ended a v
    → AreLinesBefore bytes ended b w → (a ≡ b) × (v ≡ w)
lines_before_once bytes ended {a} {b} (sound calm are) (sound quiet others) = (tagged_lines_once (lines ended bytes) a b are others, refl)
lines_before_once bytes ended (sound calm are) (faulted y g others) = absurd (calm y g)
lines_before_once bytes ended (faulted x f are) (sound quiet others) = absurd (quiet x f)
lines_before_once bytes ended {a} {b} (faulted x f are) (faulted y g others) =
    let same = input_fault_once 1 [] (lines ended bytes) x y f g in (
      tagged_lines_once (take (fault_line y - 1) (lines ended bytes)) a b
          (subst (λ (z : InputFault). AreTagged (take (fault_line z - 1) (lines ended bytes)) a) same are) others,
      refl,
    )

-- one text is owed
pub lines_owed_once : (f : Formula) (bytes : List ℕ) (ended : Bool) (x y : List ℕ) → OwesLines f bytes ended x → OwesLines f bytes ended y → x ≡ y
lines_owed_once f bytes ended x y a b =
    let same = lines_before_once bytes ended a.before b.before in
    mux_once f b.tagged b.whole x y (subst (λ (w : Bool). MuxText f b.tagged w x) same.1 (subst (λ ts. MuxText f ts a.whole x) same.0 a.is)) b.is

-- the text begins with the answers to the lines
answers_of : (f : Formula) (all : List Tagged) (whole : Bool) (text : List ℕ) → MuxText f all whole text
    → (during rest : List ℕ) × AreAnswers f [] all during × (text ≡ during ++ rest)
answers_of f all false text m = (text, [], m, sym (append-nil text))
answers_of f all true text (during, rest, answers, ends, e) = (during, rest, answers, e)

-- before the end it is that alone
pub answers_alone : (f : Formula) (bytes : List ℕ) {all : List Tagged} {whole : Bool} (text : List ℕ)
    → AreLinesBefore bytes false all whole → MuxText f all whole text → AreAnswers f [] all text
answers_alone f bytes text (sound calm are) m = m
answers_alone f bytes text (faulted x g are) m = m

short_rest : (line : List ℕ) → length (rest false line) ≤ 1
short_rest [] = omega arith
short_rest (c ∷ cs) = omega arith

-- the tagged lines of some bytes, and of more
module _ (bytes more : List ℕ) (ended : Bool) (line : List ℕ) (p : Parts bytes line) where
  now : lines false bytes ≡ p.front ++ rest false line
  now = lines-now bytes line p false

  later_lines : lines ended (bytes ++ more) ≡ p.front ++ lines ended (line ++ more)
  later_lines = p.joins ended more

  -- the lines before a fault of the first bytes are those of more bytes
  pub lines_before : (x : InputFault) → FaultOfInput 1 [] (lines false bytes) x
      → take (fault_line x - 1) (lines ended (bytes ++ more)) ≡ take (fault_line x - 1) (lines false bytes)
  lines_before x f =
      let place = (fault_place 1 [] (lines false bytes) x f).1 in
      let size = ap length now in
      let both = length-append p.front (rest false line) in
      let one = short_rest line in
      let within : fault_line x - 1 ≤ length p.front = omega (arith, place, size, both, one) in
      ap (take (fault_line x - 1)) later_lines ∙ take-append-le (fault_line x - 1) p.front (lines ended (line ++ more)) within
      ∙ sym (ap (take (fault_line x - 1)) now ∙ take-append-le (fault_line x - 1) p.front (rest false line) within)

  -- the lines that have ended give the first of them
  first_of : (all : List Line) (later : List Line) (a b : List Tagged) → AreTagged (lines false bytes) a → all ≡ p.front ++ later
      → AreTagged all b → (others : List Tagged) × (b ≡ a ++ others)
  first_of all later a b p' e q =
      let (front, back, are, parts_are) = tagged_first p.front later b p.whole (subst (λ ls. AreTagged ls b) e q) in
      let same : front ≡ a = tagged_lines_once (p.front ++ rest false line) front a (tagged_with_open line are p.whole) (subst (λ ls. AreTagged ls a) now p') in
      (back, parts_are ∙ ap (λ ts. ts ++ back) same)

  tagged_grow : {a b : List Tagged} {v w : Bool} → AreLinesBefore bytes false a v → AreLinesBefore (bytes ++ more) ended b w
      → (others : List Tagged) × (b ≡ a ++ others)
  tagged_grow {a} {b} (sound calm are) (sound quiet others) = first_of (lines ended (bytes ++ more)) (lines ended (line ++ more)) a b are later_lines others
  tagged_grow {a} {b} (sound calm are) (faulted y g others) =
      let behind : length p.front ≤ fault_line y - 1 = omega (arith, not_before) in
      first_of (take (fault_line y - 1) (lines ended (bytes ++ more))) (take (fault_line y - 1 - length p.front) (lines ended (line ++ more))) a b are
      (ap (take (fault_line y - 1)) later_lines ∙ take_beyond p.front (lines ended (line ++ more)) (fault_line y - 1)
      (fault_line y - 1 - length p.front) (omega (arith, behind))) others
    where
      not_before : ¬ (fault_line y < 1 + length p.front)
      not_before low = calm y (subst (λ ls. FaultOfInput 1 [] ls y) (sym now)
          (early_fault 1 [] p.front (lines ended (line ++ more)) (rest false line) y low (subst (λ ls. FaultOfInput 1 [] ls y) later_lines g)))
  tagged_grow (faulted x f are) (sound quiet others) = absurd (quiet x (input_fault_stays bytes more ended x f))
  tagged_grow {a} {b} (faulted x f are) (faulted y g others) =
      let here : AreLinesBefore (bytes ++ more) ended a false =
      faulted x (input_fault_stays bytes more ended x f) (subst (λ ls. AreTagged ls a) (sym (lines_before x f)) are) in
      ([], sym (lines_before_once (bytes ++ more) ended here (faulted y g others)).0 ∙ sym (append-nil a))

-- those of the first bytes are the first of those of more bytes
pub lines_before_grow : (bytes more : List ℕ) (ended : Bool) {a b : List Tagged} {v w : Bool} → AreLinesBefore bytes false a v
    → AreLinesBefore (bytes ++ more) ended b w → (others : List Tagged) × (b ≡ a ++ others)
lines_before_grow bytes more ended a b = let (line, o) = open_line bytes in tagged_grow bytes more ended line (parts o) a b

-- and it is a front of what is owed for more bytes
pub lines_owed_grow : (f : Formula) (bytes more : List ℕ) (ended : Bool) (x y : List ℕ) → OwesLines f bytes false x
    → OwesLines f (bytes ++ more) ended y → IsLonger x y
lines_owed_grow f bytes more ended x y a b =
    let (others, same) = lines_before_grow bytes more ended a.before b.before in
    let (during, rest, answers, e) = answers_of f b.tagged b.whole y b.is in
    let (short, beyond, are, k) = answers_split f [] a.tagged others during (subst (λ ts. AreAnswers f [] ts during) same answers) in
    let one : short ≡ x = answers_once f [] a.tagged short x are (answers_alone f bytes x a.before a.is) in
    (beyond ++ rest, e ∙ ap (λ t. t ++ rest) k ∙ append_assoc short beyond rest ∙ ap (λ t. t ++ (beyond ++ rest)) one)
