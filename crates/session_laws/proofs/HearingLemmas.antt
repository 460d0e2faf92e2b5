-- The bench of a tag hears, line by line, what its session is told.
use Rattle.std.proofs.Common.{◌≡◌, ◌≢◌, inl, inr, refl, sym, ap, subst, ◌∙◌, ℕ, zero, suc, ◌+◌, ◌-◌, Bool}
use Rattle.std.proofs.Common.{true, false, cond, List, [], ◌∷◌, ◌++◌, append_assoc, length, drop, add-one}
use Rattle.std.specs.Prelude.{◌==◌, ◌&&◌, not, codes, bytes_eq, map, flat_map, if◌then◌else◌}
use Rattle.std.proofs.lemmas.Bool.{false≢true, eqb-true, eq-eqb}
use Rattle.std.proofs.lemmas.List.{append-nil}
use Rattle.std.proofs.lemmas.List.Elements.{All-append}
use Rattle.std.proofs.lemmas.Grind.{flat_map-append}
use Rattle.std.proofs.lemmas.Slice.Eq.{bytes_eq-Decides}
use Rattle.stl_syntax.specs.Characters.{all, is_among}
use Rattle.stl_syntax.specs.Formula.{Formula}
use Rattle.stl_syntax.specs.Texts.{newline}
use Rattle.trace_reader.specs.Feeds.{HasNoFeed}
use Rattle.trace_reader.specs.TraceText.{Line, lines}
use Rattle.trace_reader.proofs.LineLemmas.{done, lines-nil}
use Rattle.trace_stream.proofs.FaultPlaces.{at_true, at_false}
use Rattle.session_laws.specs.Hearing.{begins_with, says_to, heard, is_plain, HasPlainNames, HaveTags, EachHearsWhatIsSaid, EachHearsItsEnd}
use Rattle.session_mux.specs.Sessions.{Tagged, IsTag, is_tag_byte, is_query, own, is_stopped, Alone, prefixed, last_eight, IsAnswer, tags_after}
use Rattle.session_mux.specs.SessionsAlone.{is_of, IsAdded, AreSaidTo, AreSaidAtEnd}
use Rattle.session_mux.specs.Saying.{texts}
use Rattle.session_mux.proofs.TagLemmas.{bytes_of}
use Rattle.session_mux.proofs.TextLemmas.{EndsInFeed, one_line, alone_ends, ends_joined, ends_tail, lines_joined, texts_joined}
use Rattle.session_laws.proofs.PlainTexts.{plain_both, plain_free, AreFree, IsSaid, AreSaid, lines_free, said_back, said_alone}

-- ---- what a line says

-- after a common front
begins_after : (front prefix line : List ℕ) → begins_with (front ++ prefix) (front ++ line) ≡ begins_with prefix line
begins_after [] prefix line = refl
begins_after (c ∷ front) prefix line = ap (λ b. b && begins_with (front ++ prefix) (front ++ line)) (eq-eqb c c refl) ∙ begins_after front prefix line

-- both parts of what is true are
pub both_are : (a b : Bool) → (a && b) ≡ true → (a ≡ true) × (b ≡ true)
both_are true b e = (refl, e)
both_are false b e = absurd (false≢true e)

-- two tags, each with a space after it
begins_apart : (t u prefix line : List ℕ) → all is_tag_byte t ≡ true → all is_tag_byte u ≡ true → t ≢ u
    → begins_with (t ++ 32 ∷ prefix) (u ++ 32 ∷ line) ≡ false
begins_apart [] [] prefix line h k ne = absurd (ne refl)
begins_apart [] (d ∷ u) prefix line h k ne = by_byte (32 == d) refl
  where
    by_byte : (b : Bool) → (32 == d) ≡ b → (b && begins_with prefix (u ++ 32 ∷ line)) ≡ false
    by_byte false e = refl
    by_byte true e = absurd (false≢true (ap is_tag_byte (eqb-true 32 d e) ∙ (both_are (is_tag_byte d) (all is_tag_byte u) k).0))
begins_apart (c ∷ t) [] prefix line h k ne = by_byte (c == 32) refl
  where
    by_byte : (b : Bool) → (c == 32) ≡ b → (b && begins_with (t ++ 32 ∷ prefix) line) ≡ false
    by_byte false e = refl
    by_byte true e = absurd (false≢true (ap is_tag_byte (sym (eqb-true c 32 e)) ∙ (both_are (is_tag_byte c) (all is_tag_byte t) h).0))
begins_apart (c ∷ t) (d ∷ u) prefix line h k ne = by_byte (c == d) refl
    (begins_apart t u prefix line (both_are (is_tag_byte c) (all is_tag_byte t) h).1 (both_are (is_tag_byte d) (all is_tag_byte u) k).1)
  where
    by_byte : (b : Bool) → (c == d) ≡ b → (t ≢ u → begins_with (t ++ 32 ∷ prefix) (u ++ 32 ∷ line) ≡ false)
        → (b && begins_with (t ++ 32 ∷ prefix) (u ++ 32 ∷ line)) ≡ false
    by_byte false e rest = refl
    by_byte true e rest = rest (λ same. ne (ap (λ x. x ∷ t) (eqb-true c d e) ∙ ap (λ w. d ∷ w) same))

dropped : (t w : List ℕ) → drop (length t + 1) ((t ++ 32 ∷ []) ++ w) ≡ w
dropped t w = ap (λ n. drop n ((t ++ 32 ∷ []) ++ w)) (add-one (length t)) ∙ from_front t
  where
    from_front : (t : List ℕ) → drop (suc (length t)) ((t ++ 32 ∷ []) ++ w) ≡ w
    from_front [] = refl
    from_front (c ∷ t) = from_front t

-- a line of its own
says_own : (t w : List ℕ) → IsSaid w → says_to t ((t ++ codes " ") ++ w) ≡ w ∷ []
says_own t w said =
    let line : (t ++ codes " ") ++ w ≡ t ++ (32 ∷ w) = append_assoc t (codes " ") w in
    let no_query : begins_with (t ++ codes " ? ") ((t ++ codes " ") ++ w) ≡ false =
    ap (begins_with (t ++ codes " ? ")) line ∙ begins_after t (codes " ? ") (32 ∷ w) ∙ longer w said in
    let mine : begins_with (t ++ codes " ") ((t ++ codes " ") ++ w) ≡ true =
    ap (begins_with (t ++ codes " ")) line ∙ begins_after t (codes " ") (32 ∷ w) in
    ap (λ b. cond b [] (cond (begins_with (t ++ codes " ") ((t ++ codes " ") ++ w)) (drop (length t + 1) ((t ++ codes " ") ++ w) ∷ []) [])) no_query
    ∙ ap (λ b. cond b (drop (length t + 1) ((t ++ codes " ") ++ w) ∷ []) []) mine ∙ ap (λ x. x ∷ []) (dropped t w)
  where
    longer : (w : List ℕ) → IsSaid w → begins_with (codes "? ") w ≡ false
    longer [] h = refl
    longer (d ∷ w) h = by_byte (63 == d) h
      where
        by_byte : (b : Bool) → (b && true) ≡ false → (b && begins_with (32 ∷ []) w) ≡ false
        by_byte true e = absurd (false≢true (sym e))
        by_byte false e = refl

-- a line of a query
says_query : (t w : List ℕ) → says_to t ((t ++ codes " ? ") ++ w) ≡ []
says_query t w =
    ap (λ b. cond b [] (cond (begins_with (t ++ codes " ") ((t ++ codes " ? ") ++ w)) (drop (length t + 1) ((t ++ codes " ? ") ++ w) ∷ []) []))
    (ap (begins_with (t ++ codes " ? ")) (append_assoc t (codes " ? ") w) ∙ begins_after t (codes " ? ") (codes " ? " ++ w))

-- a line of another
says_other : (t u line : List ℕ) → IsTag t → IsTag u → t ≢ u → says_to t (u ++ 32 ∷ line) ≡ []
says_other t u line p q ne =
    ap (λ b. cond b [] (cond (begins_with (t ++ codes " ") (u ++ 32 ∷ line)) (drop (length t + 1) (u ++ 32 ∷ line) ∷ []) []))
    (begins_apart t u (codes "? ") line (bytes_of t p) (bytes_of u q) ne)
    ∙ ap (λ b. cond b (drop (length t + 1) (u ++ 32 ∷ line) ∷ []) []) (begins_apart t u [] line (bytes_of t p) (bytes_of u q) ne)

-- ---- what answers say

plain_tag : (t : List ℕ) → all is_tag_byte t ≡ true → is_plain t ≡ true
plain_tag [] h = refl
plain_tag (c ∷ t) h = by_byte (c == 10) refl (is_tag_byte c) refl h (plain_tag t)
  where
    by_byte : (n : Bool) → (c == 10) ≡ n → (b : Bool) → is_tag_byte c ≡ b → (b && all is_tag_byte t) ≡ true
        → (all is_tag_byte t ≡ true → is_plain t ≡ true) → (not n && is_plain t) ≡ true
    by_byte true e b k h rest = absurd (false≢true (ap is_tag_byte (sym (eqb-true c 10 e)) ∙ k ∙ (both_are b (all is_tag_byte t) h).0))
    by_byte false e true k h rest = rest h
    by_byte false e false k h rest = absurd (false≢true h)

-- the lines of prefixed lines
texts_prefixed : (p : List ℕ) (ls : List Line) → HasNoFeed p → AreFree ls → texts (prefixed p ls) ≡ map (λ (l : Line). p ++ l.bytes) ls
texts_prefixed p [] free fs = ap (λ ms. map (λ (l : Line). l.bytes) ms) (lines-nil true)
texts_prefixed p (l ∷ ls) free fs =
    texts_joined (p ++ l.bytes ++ newline) (prefixed p ls) (inr (p ++ l.bytes, refl))
    ∙ ap (λ ms. map (λ (m : Line). m.bytes) ms ++ texts (prefixed p ls)) (one_line (p ++ l.bytes) (All-append (λ c. c ≢ 10) p l.bytes free fs.0))
    ∙ ap (λ ts. (p ++ l.bytes) ∷ ts) (texts_prefixed p ls free fs.1)

prefixed_ends : (p : List ℕ) (ls : List Line) → EndsInFeed (prefixed p ls)
prefixed_ends p [] = inl refl
prefixed_ends p (l ∷ ls) = joined (prefixed p ls) (prefixed_ends p ls)
  where
    joined : (b : List ℕ) → EndsInFeed b → EndsInFeed ((p ++ l.bytes ++ newline) ++ b)
    joined b (inl e) = inr (p ++ l.bytes, ap (λ t. (p ++ l.bytes ++ newline) ++ t) e ∙ append-nil (p ++ l.bytes ++ newline))
    joined b (inr (x, e)) = inr (
      (p ++ l.bytes ++ newline) ++ x,
      ap (λ t. (p ++ l.bytes ++ newline) ++ t) e ∙ sym (append_assoc (p ++ l.bytes ++ newline) x newline),
    )

heard_joined : (t a b : List ℕ) → EndsInFeed a → heard t (a ++ b) ≡ heard t a ++ heard t b
heard_joined t a b ends = ap (λ ts. flat_map (says_to t) ts) (texts_joined a b ends) ∙ flat_map-append (says_to t) (texts a) (texts b)

heard_none : (t : List ℕ) → heard t [] ≡ []
heard_none t = ap (λ ls. flat_map (says_to t) (map (λ (l : Line). l.bytes) ls)) (lines-nil true)

own_prefix : (t : List ℕ) (mark : List ℕ) → IsTag t → is_plain mark ≡ true → HasNoFeed (t ++ mark)
own_prefix t mark is plain = plain_free (t ++ mark) (plain_both t mark (plain_tag t (bytes_of t is)) plain)

heard_own : (t : List ℕ) (ls : List Line) → IsTag t → AreFree ls → AreSaid ls → heard t (prefixed (t ++ codes " ") ls) ≡ map (λ (l : Line). l.bytes) ls
heard_own t ls is free said = ap (λ ts. flat_map (says_to t) ts) (texts_prefixed (t ++ codes " ") ls (own_prefix t (codes " ") is refl) free) ∙ each ls said
  where
    each : (ls : List Line) → AreSaid ls → flat_map (says_to t) (map (λ (l : Line). (t ++ codes " ") ++ l.bytes) ls) ≡ map (λ (l : Line). l.bytes) ls
    each [] s = refl
    each (l ∷ ls) s = ap (λ w. w ++ flat_map (says_to t) (map (λ (l : Line). (t ++ codes " ") ++ l.bytes) ls))
        (says_own t l.bytes s.0) ∙ ap (λ ts. l.bytes ∷ ts) (each ls s.1)

heard_query : (t : List ℕ) (ls : List Line) → IsTag t → AreFree ls → heard t (prefixed (t ++ codes " ? ") ls) ≡ []
heard_query t ls is free = ap (λ ts. flat_map (says_to t) ts) (texts_prefixed (t ++ codes " ? ") ls (own_prefix t (codes " ? ") is refl) free) ∙ each ls
  where
    each : (ls : List Line) → flat_map (says_to t) (map (λ (l : Line). (t ++ codes " ? ") ++ l.bytes) ls) ≡ []
    each [] = refl
    each (l ∷ ls) = ap (λ w. w ++ flat_map (says_to t) (map (λ (l : Line). (t ++ codes " ? ") ++ l.bytes) ls)) (says_query t l.bytes) ∙ each ls

heard_other : (t u mark : List ℕ) (ls : List Line) → IsTag t → IsTag u → t ≢ u → is_plain (32 ∷ mark) ≡ true → AreFree ls
    → heard t (prefixed (u ++ 32 ∷ mark) ls) ≡ []
heard_other t u mark ls is also ne plain free =
    ap (λ ts. flat_map (says_to t) ts) (texts_prefixed (u ++ 32 ∷ mark) ls (own_prefix u (32 ∷ mark) also plain) free) ∙ each ls
  where
    each : (ls : List Line) → flat_map (says_to t) (map (λ (l : Line). (u ++ 32 ∷ mark) ++ l.bytes) ls) ≡ []
    each [] = refl
    each (l ∷ ls) =
        ap (λ w. w ++ flat_map (says_to t) (map (λ (l : Line). (u ++ 32 ∷ mark) ++ l.bytes) ls))
        (ap (says_to t) (append_assoc u (32 ∷ mark) l.bytes) ∙ says_other t u (mark ++ l.bytes) is also ne) ∙ each ls

free_drop : (n : ℕ) (ls : List Line) → AreFree ls → AreFree (drop n ls)
free_drop zero ls h = h
free_drop (suc n) [] h = h
free_drop (suc n) (l ∷ ls) h = free_drop n ls h.1

-- ---- in turn

-- the tags of lines are tags
abbrev AreTags : List (List ℕ) → Type 0
AreTags [] = Unit {0}
AreTags (u ∷ tags) = IsTag u × AreTags tags

tags_are : (known : List (List ℕ)) (all : List Tagged) → HaveTags all → AreTags (tags_after known all)
tags_are known [] h = tt
tags_are known (x ∷ all) h = by_known (is_among x.tag known) (tags_are known all h.1) (tags_are (x.tag ∷ known) all h.1)
  where
    by_known : (b : Bool) → AreTags (tags_after known all) → AreTags (tags_after (x.tag ∷ known) all)
        → AreTags (cond b (tags_after known all) (x.tag ∷ tags_after (x.tag ∷ known) all))
    by_known true same more = same
    by_known false same more = (h.0, more)

module _ (f : Formula) (t : List ℕ) (names : HasPlainNames f) (is : IsTag t) where
  -- what a session grew by is such lines
  said_more : (bytes more : List ℕ) (ended done : Bool) (old grown : List ℕ) → Alone f bytes ended old
      → Alone f more done (old ++ grown) → AreSaid (lines true grown)
  said_more bytes more ended done old grown a b =
      said_back (lines true old) (lines true grown)
      (subst (λ ls. AreSaid ls) (lines_joined old grown (alone_ends f bytes ended old a)) (said_alone f more done (old ++ grown) names b))

  apart : (u : List ℕ) (b : Bool) → bytes_eq u t ≡ b → b ≡ false → t ≢ u
  apart u b e k same = false≢true (sym k ∙ sym e ∙ (bytes_eq-Decides u t).1 (sym same))

  -- an answer
  heard_answer : (seen : List Tagged) (x : Tagged) (answer added : List ℕ) → IsTag x.tag → IsAnswer f seen x answer → IsAdded f t seen x answer added
      → (heard t answer ≡ texts added) × EndsInFeed answer × EndsInFeed added
  heard_answer seen x answer added also a h = by_own (is_of t x) refl
    where
      by_own : (b : Bool) → is_of t x ≡ b → (heard t answer ≡ texts added) × EndsInFeed answer × EndsInFeed added
      by_own true e =
          let (old, before, now, said) = at_true _ _ (is_of t x) e h in
          let bytes = own seen t in (
            ap (heard t) said ∙ heard_own t (lines true added) is (lines_free true added)
                (said_more bytes (own (seen ++ x ∷ []) t) (is_stopped seen t) (is_stopped (seen ++ x ∷ []) t) old added before now),
            subst (λ w. EndsInFeed w) (sym said) (prefixed_ends (t ++ codes " ") (lines true added)),
            ends_tail old added (alone_ends f (own (seen ++ x ∷ []) t) (is_stopped (seen ++ x ∷ []) t) (old ++ added) now),
          )
      by_own false e =
          let none : added ≡ [] = at_false _ _ (is_of t x) e h in
          let (quiet, ends) = by_query (is_query x) refl (bytes_eq x.tag t) refl e in
          (quiet ∙ sym (ap texts none ∙ ap (λ ls. map (λ (l : Line). l.bytes) ls) (lines-nil true)), ends, inl none)
        where
          by_query : (q : Bool) → is_query x ≡ q → (b : Bool) → bytes_eq x.tag t ≡ b
              → (bytes_eq x.tag t && not (is_query x)) ≡ false → (heard t answer ≡ []) × EndsInFeed answer
          by_query true k true m n =
              let (old, so, said) = at_true _ _ (is_query x) k a in
              let same : x.tag ≡ t = (bytes_eq-Decides x.tag t).0 m in
              let free = free_drop (length (lines true old) - 8) (lines true old) (lines_free true old) in (
                ap (heard t) (said ∙ ap (λ w. prefixed (w ++ codes " ? ") (last_eight (lines true old))) same)
                    ∙ heard_query t (last_eight (lines true old)) is free,
                subst (λ w. EndsInFeed w) (sym said) (prefixed_ends (x.tag ++ codes " ? ") (last_eight (lines true old))),
              )
          by_query true k false m n =
              let (old, so, said) = at_true _ _ (is_query x) k a in
              let free = free_drop (length (lines true old) - 8) (lines true old) (lines_free true old) in (
                ap (heard t) said ∙ heard_other t x.tag (codes "? ") (last_eight (lines true old)) is also (apart x.tag false m refl) refl free,
                subst (λ w. EndsInFeed w) (sym said) (prefixed_ends (x.tag ++ codes " ? ") (last_eight (lines true old))),
              )
          by_query false k true m n = absurd (false≢true (sym n ∙ ap (λ b. b && not (is_query x)) m ∙ ap not k))
          by_query false k false m n =
              let (old, grown, before, now, said) = at_false _ _ (is_query x) k a in (
                ap (heard t) said ∙ heard_other t x.tag [] (lines true grown) is also (apart x.tag false m refl) refl (lines_free true grown),
                subst (λ w. EndsInFeed w) (sym said) (prefixed_ends (x.tag ++ codes " ") (lines true grown)),
              )

  heard_said : (seen more : List Tagged) (text said : List ℕ) → HaveTags more → AreSaidTo f t seen more text said → heard t text ≡ texts said
  heard_said seen [] text said tags (e, k) = ap (heard t) e ∙ heard_none t ∙ sym (ap texts k ∙ ap (λ ls. map (λ (l : Line). l.bytes) ls) (lines-nil true))
  heard_said seen (x ∷ more) text said tags (answer, rest, added, later, a, h, on, e, k) =
      let here = heard_answer seen x answer added tags.0 a h in
      ap (heard t) e ∙ heard_joined t answer rest here.1
      ∙ ap (λ w. w ++ heard t rest) here.0 ∙ ap (λ w. texts added ++ w) (heard_said (seen ++ x ∷ []) more rest later tags.1 on)
      ∙ sym (ap texts k ∙ texts_joined added later here.2)

  -- both are whole lines
  said_end : (seen more : List Tagged) (text said : List ℕ) → HaveTags more → AreSaidTo f t seen more text said → EndsInFeed text × EndsInFeed said
  said_end seen [] text said tags (e, k) = (inl e, inl k)
  said_end seen (x ∷ more) text said tags (answer, rest, added, later, a, h, on, e, k) =
      let here = heard_answer seen x answer added tags.0 a h in
      let others = said_end (seen ++ x ∷ []) more rest later tags.1 on in
      (ends_joined answer rest text here.1 others.0 e, ends_joined added later said here.2 others.1 k)

  -- at the end
  heard_at_end : (all : List Tagged) (tags : List (List ℕ)) (text said : List ℕ) → AreTags tags
      → AreSaidAtEnd f t all tags text said → heard t text ≡ texts said
  heard_at_end all [] text said also (e, k) = ap (heard t) e ∙ heard_none t ∙ sym (ap texts k ∙ ap (λ ls. map (λ (l : Line). l.bytes) ls) (lines-nil true))
  heard_at_end all (u ∷ tags) text said also (old, grown, later, more, so, whole, on, e, k) =
      ap (heard t) e ∙ heard_joined t (prefixed (u ++ codes " ") (lines true grown)) later (prefixed_ends (u ++ codes " ") (lines true grown))
      ∙ ap (λ w. heard t (prefixed (u ++ codes " ") (lines true grown)) ++ w) (heard_at_end all tags later more also.1 on)
      ∙ by_tag (bytes_eq u t) refl ∙ sym (ap texts k)
    where
      by_tag : (b : Bool) → bytes_eq u t ≡ b
          → heard t (prefixed (u ++ codes " ") (lines true grown)) ++ texts more ≡ texts ((if bytes_eq u t then grown else []) ++ more)
      by_tag true m =
          let same : u ≡ t = (bytes_eq-Decides u t).0 m in
          let own_said = said_more (own all u) (own all u) (is_stopped all u) true old grown so whole in
          ap (λ w. w ++ texts more)
          (ap (λ w. heard t (prefixed (w ++ codes " ") (lines true grown))) same ∙ heard_own t (lines true grown) is (lines_free true grown) own_said)
          ∙ sym (ap (λ b. texts ((if b then grown else []) ++ more)) m
          ∙ texts_joined grown more (ends_tail old grown (alone_ends f (own all u) true (old ++ grown) whole)))
      by_tag false m =
          ap (λ w. w ++ texts more) (heard_other t u [] (lines true grown) is also.0 (apart u false m refl) refl (lines_free true grown))
          ∙ sym (ap (λ b. texts ((if b then grown else []) ++ more)) m)

-- what stands behind a bench's tag in the output is what its session is told
pub hears_what_is_said : EachHearsWhatIsSaid
hears_what_is_said f t all text said names is tags h = heard_said f t names is [] all text said tags h

-- to the end of the input too, what stands behind a bench's tag is what its session is told
pub hears_its_end : EachHearsItsEnd
hears_its_end f t all text said names is tags a =
    let ends = said_end f t names is [] all a.during a.said_first tags a.lines in
    ap (heard t) a.text_is ∙ heard_joined t a.during a.rest ends.0
    ∙ ap (λ w. w ++ heard t a.rest) (heard_said f t names is [] all a.during a.said_first tags a.lines)
    ∙ ap (λ w. texts a.said_first ++ w) (heard_at_end f t names is all (tags_after [] all) a.rest a.said_at_end (tags_are [] all tags) a.ends)
    ∙ sym (ap texts a.said_is ∙ texts_joined a.said_first a.said_at_end ends.1)
