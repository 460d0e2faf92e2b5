-- Lines of one session that follow one another, as one content: what the session has got by them, and their answers.
use Rattle.std.proofs.Common.{◌≡◌, ◌≢◌, refl, sym, ap, subst, ◌∙◌, ℕ, Bool, true, false, cond}
use Rattle.std.proofs.Common.{List, [], ◌∷◌, ◌++◌, append_assoc, append-nil, length, length-append, arith}
use Rattle.std.specs.Prelude.{All, bytes_eq, codes, ◌||◌, if◌then◌else◌}
use Rattle.std.proofs.lemmas.List.{append_cancel_left, append_cancel_right}
use Rattle.std.proofs.lemmas.List.Elements.{All-head, All-tail, All-nil}
use Rattle.std.proofs.lemmas.Slice.Eq.{bytes_eq-Decides}
use Rattle.stl_syntax.specs.Characters.{is_among}
use Rattle.stl_syntax.specs.Formula.{Formula}
use Rattle.stl_syntax.specs.Texts.{newline}
use Rattle.trace_reader.specs.Feeds.{later}
use Rattle.trace_reader.proofs.LineLemmas.{lines-nil}
use Rattle.trace_reader.proofs.OpenLines.{Parts, parts}
use Rattle.trace_stream.proofs.FaultPlaces.{at_false, to_false}
use Rattle.session_mux.specs.Sessions.{Tagged, IsAnswer, AreAnswers, Alone, SoFar, prefixed, is_query, own, is_stopped}
use Rattle.session_mux.specs.Saying.{said_lines}
use Rattle.session_mux.specs.Owning.{Own, own_of, asks, stops}
use Rattle.session_mux.specs.Knowing.{tags_of}
use Rattle.session_mux.specs.Running.{RunLine, IsRunLine, contents_of, tagged_of}
use Rattle.session_mux.proofs.FrontTexts.{alone_front, alone_grows}
use Rattle.session_mux.proofs.OwnLemmas.{own_grows, own_stays, tags_grow}
use Rattle.session_mux.proofs.SessionLemmas.{both_lines, content_goes_on, line_of_open, line_of_stopped}
use Rattle.session_mux.proofs.OneText.{text_alone_once}
use Rattle.session_mux.proofs.TextLemmas.{alone_ends, ends_tail}

-- ---- one content for many

-- the contents of some lines end in an LF
pub contents_end : (l : RunLine) (ls : List RunLine) → (c : List ℕ) × (contents_of (l ∷ ls) ≡ c ++ newline)
contents_end l [] = (l.content, append-nil (l.content ++ newline))
contents_end l (m ∷ ls) =
    let (c, e) = contents_end m ls in
    ((l.content ++ newline) ++ c, ap (λ t. (l.content ++ newline) ++ t) e ∙ sym (append_assoc (l.content ++ newline) c newline))

-- a text with an LF in it is no mark
no_mark : (a b : List ℕ) (m : ℕ) → m ≢ 10 → a ++ 10 ∷ b ≡ m ∷ [] → ⊥
no_mark [] b m ne e = ne (let z : m ≡ 10 = cc in z)
no_mark (c ∷ a) b m ne e = absurd (omega (arith, ap length e, length-append a (10 ∷ b)))

last_cancel : (a b : List ℕ) → a ++ newline ≡ b ++ newline → a ≡ b
last_cancel a b e = append_cancel_right a b newline e

-- a content that is no mark is none together with others
module _ (tag : List ℕ) (m : ℕ) (ne : m ≢ 10) where
  no_marks : (l : RunLine) (ls : List RunLine) (c : List ℕ) → bytes_eq l.content (m ∷ []) ≡ false → contents_of (l ∷ ls) ≡ c ++ newline
      → bytes_eq c (m ∷ []) ≡ false
  no_marks l [] c none e =
      let same : l.content ≡ c = last_cancel l.content c (sym (append-nil (l.content ++ newline)) ∙ e) in
      subst (λ w. bytes_eq w (m ∷ []) ≡ false) same none
  no_marks l (k ∷ ls) c none e = by_test (bytes_eq c (m ∷ [])) refl
    where
      by_test : (b : Bool) → bytes_eq c (m ∷ []) ≡ b → b ≡ false
      by_test false q = refl
      by_test true q =
          let (rest, ends) = contents_end k ls in
          let all : l.content ++ 10 ∷ rest ≡ c =
          last_cancel (l.content ++ 10 ∷ rest) c (append_assoc l.content (10 ∷ rest) newline
          ∙ sym (append_assoc l.content newline (rest ++ newline)) ∙ ap (λ t. (l.content ++ newline) ++ t) (sym ends) ∙ e) in
          absurd (no_mark l.content rest m ne (all ∙ (bytes_eq-Decides c (m ∷ [])).0 q))

-- ---- what a session has got

-- with some bytes more, unless it was stopped
abbrev pub with_bytes : Own → List ℕ → Own
with_bytes o bytes = if o.stopped then o else record o { bytes = o.bytes ++ bytes }

with_none : (o : Own) → with_bytes o [] ≡ o
with_none o = by_stop o.stopped refl
  where
    by_stop : (b : Bool) → o.stopped ≡ b → cond b o (record { bytes = o.bytes ++ []; stopped = o.stopped }) ≡ o
    by_stop true e = refl
    by_stop false e = ap (λ (w : List ℕ). (let p : Own = record { bytes = w; stopped = o.stopped } in p)) (append-nil o.bytes)

with_both : (o : Own) (a b : List ℕ) → with_bytes (with_bytes o a) b ≡ with_bytes o (a ++ b)
with_both o a b = by_stop o.bytes o.stopped
  where
    by_stop : (bytes : List ℕ) (s : Bool) → with_bytes (with_bytes (record { bytes = bytes; stopped = s }) a) b
        ≡ with_bytes (record { bytes = bytes; stopped = s }) (a ++ b)
    by_stop bytes true = refl
    by_stop bytes false = ap (λ (w : List ℕ). (let p : Own = record { bytes = w; stopped = false } in p)) (append_assoc bytes a b)

module _ (tag : List ℕ) where
  itself : bytes_eq tag tag ≡ true
  itself = (bytes_eq-Decides tag tag).1 refl

  -- a line of its trace
  own_line : (seen : List Tagged) (x : Tagged) → x.tag ≡ tag → asks x.content ≡ false → stops x.content ≡ false
      → own_of (seen ++ x ∷ []) tag ≡ with_bytes (own_of seen tag) (x.content ++ newline)
  own_line seen x same no_query no_stop =
      own_grows seen x tag (subst (λ t. bytes_eq t tag ≡ true) (sym same) itself)
      ∙ content_goes_on (own_of seen tag) x.content no_query no_stop

  -- some lines of its trace
  pub own_run : (seen : List Tagged) (ls : List RunLine) → All (IsRunLine tag) ls
      → own_of (seen ++ tagged_of tag ls) tag ≡ with_bytes (own_of seen tag) (contents_of ls)
  own_run seen [] each = ap (λ s. own_of s tag) (append-nil seen) ∙ sym (with_none (own_of seen tag))
  own_run seen (l ∷ ls) each =
      let x : Tagged = record { tag = tag; content = l.content } in
      let is = All-head (IsRunLine tag) l ls each in
      ap (λ s. own_of s tag) (sym (append_assoc seen (x ∷ []) (tagged_of tag ls)))
      ∙ own_run (seen ++ x ∷ []) ls (All-tail (IsRunLine tag) l ls each)
      ∙ ap (λ (o : Own). with_bytes o (contents_of ls)) (own_line seen x refl is.no_query is.no_stop)
      ∙ with_both (own_of seen tag) (l.content ++ newline) (contents_of ls)

  -- of others it gets nothing
  pub own_other : (seen : List Tagged) (ls : List RunLine) (t : List ℕ) → bytes_eq tag t ≡ false → own_of (seen ++ tagged_of tag ls) t ≡ own_of seen t
  own_other seen [] t e = ap (λ s. own_of s t) (append-nil seen)
  own_other seen (l ∷ ls) t e =
      let x : Tagged = record { tag = tag; content = l.content } in
      ap (λ s. own_of s t) (sym (append_assoc seen (x ∷ []) (tagged_of tag ls))) ∙ own_other (seen ++ x ∷ []) ls t e ∙ own_stays seen x t e

  -- the marks
  module _ (l : RunLine) (ls : List RunLine) (each : All (IsRunLine tag) (l ∷ ls)) (c : List ℕ) (e : contents_of (l ∷ ls) ≡ c ++ newline) where
    -- the content of several lines together is no query
    pub run_no_query : asks c ≡ false
    run_no_query = no_marks tag 63 (λ z. absurd (omega (arith, z))) l ls c (All-head (IsRunLine tag) l ls each).no_query e

    -- nor does it end its session
    pub run_no_stop : stops c ≡ false
    run_no_stop = no_marks tag 46 (λ z. absurd (omega (arith, z))) l ls c (All-head (IsRunLine tag) l ls each).no_stop e

    -- the lines as one give each session what they give it one by one
    pub run_as_one : (seen : List Tagged) (t : List ℕ)
        → own_of (seen ++ record { tag = tag; content = c } ∷ []) t ≡ own_of (seen ++ tagged_of tag (l ∷ ls)) t
    run_as_one seen t = by_tag (bytes_eq tag t) refl
      where
        one : Tagged
        one = record { tag = tag; content = c }

        by_tag : (b : Bool) → bytes_eq tag t ≡ b → own_of (seen ++ one ∷ []) t ≡ own_of (seen ++ tagged_of tag (l ∷ ls)) t
        by_tag false q = own_stays seen one t q ∙ sym (own_other seen (l ∷ ls) t q)
        by_tag true q =
            subst (λ u. own_of (seen ++ one ∷ []) u ≡ own_of (seen ++ tagged_of tag (l ∷ ls)) u) ((bytes_eq-Decides tag t).0 q)
            (own_line seen one refl run_no_query run_no_stop ∙ ap (λ w. with_bytes (own_of seen tag) w) (sym e) ∙ sym (own_run seen (l ∷ ls) each))

  -- ---- tags

  among_last : (ts : List (List ℕ)) → is_among tag (ts ++ tag ∷ []) ≡ true
  among_last [] = ap (λ b. b || false) itself
  among_last (u ∷ ts) = by_test (bytes_eq tag u) (among_last ts)
    where
      by_test : (b : Bool) → is_among tag (ts ++ tag ∷ []) ≡ true → (b || is_among tag (ts ++ tag ∷ [])) ≡ true
      by_test true h = refl
      by_test false h = h

  -- a tag that is there is not added
  tags_stay : (seen : List Tagged) (x : Tagged) → x.tag ≡ tag → is_among tag (tags_of seen) ≡ true → tags_of (seen ++ x ∷ []) ≡ tags_of seen
  tags_stay seen x same among =
      tags_grow [] seen x ∙ ap (λ b. tags_of seen ++ (if b then [] else x.tag ∷ [])) (ap (λ t. is_among t (tags_of seen)) same ∙ among)
      ∙ append-nil (tags_of seen)

  tags_run : (seen : List Tagged) (ls : List RunLine) → is_among tag (tags_of seen) ≡ true → tags_of (seen ++ tagged_of tag ls) ≡ tags_of seen
  tags_run seen [] among = ap tags_of (append-nil seen)
  tags_run seen (l ∷ ls) among =
      let x : Tagged = record { tag = tag; content = l.content } in
      let same = tags_stay seen x refl among in
      ap tags_of (sym (append_assoc seen (x ∷ []) (tagged_of tag ls)))
      ∙ tags_run (seen ++ x ∷ []) ls (ap (is_among tag) same ∙ among) ∙ same

  -- after a line with it the tag is there
  among_now : (seen : List Tagged) (x : Tagged) → x.tag ≡ tag → is_among tag (tags_of (seen ++ x ∷ [])) ≡ true
  among_now seen x same =
      ap (is_among tag) (tags_grow [] seen x ∙ ap (λ t. tags_of seen ++ (if is_among t (tags_of seen) then [] else t ∷ [])) same)
      ∙ by_test (is_among tag (tags_of seen)) refl
    where
      by_test : (b : Bool) → is_among tag (tags_of seen) ≡ b → is_among tag (tags_of seen ++ cond b [] (tag ∷ [])) ≡ true
      by_test true e = ap (is_among tag) (append-nil (tags_of seen)) ∙ e
      by_test false e = among_last (tags_of seen)

  -- the tags depend on the tag of a line alone
  tags_as : (seen : List Tagged) (x y : Tagged) → x.tag ≡ y.tag → tags_of (seen ++ x ∷ []) ≡ tags_of (seen ++ y ∷ [])
  tags_as seen x y same =
      tags_grow [] seen x ∙ ap (λ t. tags_of seen ++ (if is_among t (tags_of seen) then [] else t ∷ [])) same ∙ sym (tags_grow [] seen y)

  -- the lines as one have the tags that they have one by one
  pub tags_as_one : (seen : List Tagged) (c : List ℕ) (l : RunLine) (ls : List RunLine)
      → tags_of (seen ++ record { tag = tag; content = c } ∷ []) ≡ tags_of (seen ++ tagged_of tag (l ∷ ls))
  tags_as_one seen c l ls =
      let x : Tagged = record { tag = tag; content = l.content } in
      tags_as seen (record { tag = tag; content = c }) x refl
      ∙ sym (ap tags_of (sym (append_assoc seen (x ∷ []) (tagged_of tag ls))) ∙ tags_run (seen ++ x ∷ []) ls (among_now seen x refl))

  -- ---- answers

  module _ (f : Formula) where
    none_said : said_lines tag [] ≡ []
    none_said = ap (λ ls. prefixed (tag ++ codes " ") ls) (lines-nil true)

    -- a text that is one with itself and more
    nothing_more : (bytes : List ℕ) (stopped : Bool) (said grown : List ℕ) → Alone f bytes stopped said → Alone f bytes stopped (said ++ grown) → grown ≡ []
    nothing_more bytes stopped said grown a b =
        append_cancel_left said grown [] (text_alone_once f bytes stopped (said ++ grown) said b a ∙ sym (append-nil said))

    answer_of : (seen : List Tagged) (x : Tagged) (said grown : List ℕ) → x.tag ≡ tag → asks x.content ≡ false → SoFar f seen tag said
        → SoFar f (seen ++ x ∷ []) tag (said ++ grown) → IsAnswer f seen x (said_lines tag grown)
    answer_of seen x said grown same no_query a b = to_false _ _ (is_query x) no_query (
      said,
      grown,
      subst (λ t. SoFar f seen t said) (sym same) a,
      subst (λ t. SoFar f (seen ++ x ∷ []) t (said ++ grown)) (sym same) b,
      ap (λ t. said_lines t grown) (sym same),
    )

    -- after its stop a session's lines add nothing
    stopped_answers : (seen : List Tagged) (ls : List RunLine) → All (IsRunLine tag) ls → is_stopped seen tag ≡ true → (said : List ℕ) → SoFar f seen tag said
        → AreAnswers f seen (tagged_of tag ls) []
    stopped_answers seen [] each stop said so = refl
    stopped_answers seen (l ∷ ls) each stop said so =
        let x : Tagged = record { tag = tag; content = l.content } in
        let is = All-head (IsRunLine tag) l ls each in
        let same : own_of (seen ++ x ∷ []) tag ≡ own_of seen tag =
        own_line seen x refl is.no_query is.no_stop ∙ line_of_stopped (own_of seen tag) (x.content) stop in
        let so_still : SoFar f (seen ++ x ∷ []) tag said = subst (λ (o : Own). Alone f o.bytes o.stopped said) (sym same) so in (
          [],
          [],
          subst (λ t. IsAnswer f seen x t) none_said
              (answer_of seen x said [] refl is.no_query so (subst (λ t. SoFar f (seen ++ x ∷ []) tag t) (sym (append-nil said)) so_still)),
          stopped_answers (seen ++ x ∷ []) ls (All-tail (IsRunLine tag) l ls each) (ap (λ (o : Own). o.stopped) same ∙ stop) said so_still,
          refl,
        )

    -- the growth over some lines of a session that goes on is made of their answers
    open_answers : (seen : List Tagged) (ls : List RunLine) → All (IsRunLine tag) ls → is_stopped seen tag ≡ false → (said grown : List ℕ)
        → SoFar f seen tag said → Alone f (own seen tag ++ contents_of ls) false (said ++ grown) → AreAnswers f seen (tagged_of tag ls) (said_lines tag grown)
    open_answers seen [] each going said grown so all =
        ap (said_lines tag) (nothing_more (own seen tag) false said grown (subst (λ (s : Bool). Alone f (own seen tag) s said) going so)
        (subst (λ b. Alone f b false (said ++ grown)) (append-nil (own seen tag)) all)) ∙ none_said
    open_answers seen (l ∷ ls) each going said grown so all =
        let x : Tagged = record { tag = tag; content = l.content } in
        let is = All-head (IsRunLine tag) l ls each in
        let line = l.content ++ newline in
        let now : Own = record { bytes = own seen tag ++ line; stopped = false } in
        let same : own_of (seen ++ x ∷ []) tag ≡ now =
        own_line seen x refl is.no_query is.no_stop ∙ line_of_open (own_of seen tag) l.content going in
        let bytes = own seen tag ++ line in
        let longer : Alone f (bytes ++ contents_of ls) false (said ++ grown) =
        subst (λ b. Alone f b false (said ++ grown)) (sym (append_assoc (own seen tag) line (contents_of ls))) all in
        let first = alone_front f bytes (contents_of ls) (whole_line seen l) (said ++ grown) longer in
        let before : Alone f (own seen tag) false said = subst (λ (s : Bool). Alone f (own seen tag) s said) going so in
        let here = alone_grows f (own seen tag) line said first.0 before first.1 in
        let rest = alone_grows f bytes (contents_of ls) first.0 (said ++ grown) first.1 longer in
        let so_now : SoFar f (seen ++ x ∷ []) tag (said ++ here.0) =
        subst (λ (o : Own). Alone f o.bytes o.stopped (said ++ here.0)) (sym same) (subst (λ t. Alone f bytes false t) here.1 first.1) in
        let parts_are : grown ≡ here.0 ++ rest.0 =
        append_cancel_left said grown (here.0 ++ rest.0) (rest.1 ∙ ap (λ t. t ++ rest.0) here.1 ∙ append_assoc said here.0 rest.0) in
        let all_now : Alone f (own (seen ++ x ∷ []) tag ++ contents_of ls) false ((said ++ here.0) ++ rest.0) =
        subst (λ b. Alone f (b ++ contents_of ls) false ((said ++ here.0) ++ rest.0)) (ap (λ (o : Own). o.bytes) (sym same))
        (subst (λ t. Alone f (bytes ++ contents_of ls) false t)
        (ap (λ t. said ++ t) parts_are ∙ sym (append_assoc said here.0 rest.0)) longer) in (
          said_lines tag here.0,
          said_lines tag rest.0,
          answer_of seen x said here.0 refl is.no_query so so_now,
          open_answers (seen ++ x ∷ []) ls (All-tail (IsRunLine tag) l ls each) (ap (λ (o : Own). o.stopped) same) (said ++ here.0) rest.0 so_now all_now,
          ap (said_lines tag) parts_are
              ∙ both_lines tag here.0 rest.0
              (ends_tail said here.0 (alone_ends f bytes false (said ++ here.0) (subst (λ t. Alone f bytes false t) here.1 first.1))),
        )
      where
        whole_line : (seen : List Tagged) (l : RunLine) → Parts (own seen tag ++ (l.content ++ newline)) []
        whole_line seen l = subst (λ b. Parts b []) (append_assoc (own seen tag) l.content newline)
            (parts (later (own seen tag ++ l.content) {line = []} (All-nil (λ c. c ≢ 10))))

    -- the answer to the lines as one is made of their answers
    pub run_answers : (seen : List Tagged) (l : RunLine) (ls : List RunLine) (c answer : List ℕ) → All (IsRunLine tag) (l ∷ ls)
        → contents_of (l ∷ ls) ≡ c ++ newline → IsAnswer f seen (record { tag = tag; content = c }) answer → AreAnswers f seen (tagged_of tag (l ∷ ls)) answer
    run_answers seen l ls c answer each e is =
        let one : Tagged = record { tag = tag; content = c } in
        let got = at_false _ _ (is_query one) (run_no_query l ls each c e) is in
        by_stop got.0 got.1 got.2
        (subst (λ (o : Own). Alone f o.bytes o.stopped (got.0 ++ got.1)) (run_as_one l ls each c e seen tag ∙ own_run seen (l ∷ ls) each) got.3)
        got.4 (is_stopped seen tag) refl
      where
        by_stop : (said grown : List ℕ) → SoFar f seen tag said
            → Alone f (with_bytes (own_of seen tag) (contents_of (l ∷ ls))).bytes (with_bytes (own_of seen tag) (contents_of (l ∷ ls))).stopped (said ++ grown)
            → answer ≡ said_lines tag grown → (b : Bool) → is_stopped seen tag ≡ b → AreAnswers f seen (tagged_of tag (l ∷ ls)) answer
        by_stop said grown so all text true stop =
            let same : with_bytes (own_of seen tag) (contents_of (l ∷ ls)) ≡ own_of seen tag =
            ap (λ b. cond b (own_of seen tag) (let q : Own = record { bytes = own seen tag ++ contents_of (l ∷ ls); stopped = is_stopped seen tag } in q))
            stop in
            let none =
            nothing_more (own seen tag) (is_stopped seen tag) said grown so (subst (λ (o : Own). Alone f o.bytes o.stopped (said ++ grown)) same all) in
            subst (λ t. AreAnswers f seen (tagged_of tag (l ∷ ls)) t) (sym (text ∙ ap (said_lines tag) none ∙ none_said))
            (stopped_answers seen (l ∷ ls) each stop said so)
        by_stop said grown so all text false going =
            let p : Own = record { bytes = own seen tag ++ contents_of (l ∷ ls); stopped = false } in
            let same : with_bytes (own_of seen tag) (contents_of (l ∷ ls)) ≡ p = with_open going in
            subst (λ t. AreAnswers f seen (tagged_of tag (l ∷ ls)) t) (sym text)
            (open_answers seen (l ∷ ls) each going said grown so (subst (λ (o : Own). Alone f o.bytes o.stopped (said ++ grown)) same all))
          where
            with_open : is_stopped seen tag ≡ false → with_bytes (own_of seen tag) (contents_of (l ∷ ls))
                ≡ record { bytes = own seen tag ++ contents_of (l ∷ ls); stopped = false }
            with_open e = ap (λ b. cond b (own_of seen tag)
                (let q : Own = record { bytes = own seen tag ++ contents_of (l ∷ ls); stopped = b } in q)) e
