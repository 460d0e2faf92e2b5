-- What a session is told to the end of the input.
use Rattle.std.proofs.Common.{◌≡◌, refl, sym, ap, subst, ◌∙◌, ℕ, Bool, true, false, cond, List, [], ◌∷◌, ◌++◌}
use Rattle.std.specs.Prelude.{◌||◌, bytes_eq, if◌then◌else◌}
use Rattle.std.proofs.lemmas.List.{append-nil}
use Rattle.std.proofs.lemmas.Bool.{false≢true}
use Rattle.std.proofs.lemmas.Slice.Eq.{bytes_eq-Decides}
use Rattle.stl_syntax.specs.Characters.{is_among}
use Rattle.stl_syntax.specs.Formula.{Formula}
use Rattle.session_mux.specs.Sessions.{Tagged, own, is_stopped, Alone, SoFar, AreEnds, tags_after}
use Rattle.session_mux.specs.SessionsAlone.{lines_of, AreSaidAtEnd, AreSaidInAll, EachIsAsAloneToItsEnd, OthersAddNothingAtTheEnd}
use Rattle.session_mux.proofs.OneText.{text_alone_once, nothing_alone}
use Rattle.session_laws.proofs.SessionsSaid.{as_alone, said_is_alone, own_of_lines}

-- ---- each tag stands once

-- a known tag is none of the new ones
tags_apart : (t : List ℕ) (known : List (List ℕ)) (seen : List Tagged) → is_among t known ≡ true → is_among t (tags_after known seen) ≡ false
tags_apart t known [] k = refl
tags_apart t known (x ∷ seen) k = by_known (tags_apart t known seen k)
    (tags_apart t (x.tag ∷ known) seen (or_right (bytes_eq t x.tag) k)) (is_among x.tag known) refl
  where
    or_right : (b : Bool) → is_among t known ≡ true → (b || is_among t known) ≡ true
    or_right true h = refl
    or_right false h = h

    other : (b : Bool) → bytes_eq t x.tag ≡ b → is_among x.tag known ≡ false → b ≡ false
    other false e h = refl
    other true e h = absurd (false≢true (sym h ∙ subst (λ w. is_among w known ≡ true) ((bytes_eq-Decides t x.tag).0 e) k))

    by_known : is_among t (tags_after known seen) ≡ false → is_among t (tags_after (x.tag ∷ known) seen) ≡ false → (b : Bool) → is_among x.tag known ≡ b
        → is_among t (cond b (tags_after known seen) (x.tag ∷ tags_after (x.tag ∷ known) seen)) ≡ false
    by_known same more true e = same
    by_known same more false e = ap (λ b. b || is_among t (tags_after (x.tag ∷ known) seen)) (other (bytes_eq t x.tag) refl e) ∙ more

-- the tag stands at most once
abbrev IsOnce : List ℕ → List (List ℕ) → Type 0
IsOnce t [] = Unit {0}
IsOnce t (u ∷ tags) = (bytes_eq u t ≡ true → is_among t tags ≡ false) × IsOnce t tags

tags_once : (t : List ℕ) (known : List (List ℕ)) (seen : List Tagged) → IsOnce t (tags_after known seen)
tags_once t known [] = tt
tags_once t known (x ∷ seen) = by_known (tags_once t known seen) (tags_once t (x.tag ∷ known) seen) (is_among x.tag known)
  where
    here : bytes_eq x.tag t ≡ true → is_among t (x.tag ∷ known) ≡ true
    here e = ap (λ b. b || is_among t known) ((bytes_eq-Decides t x.tag).1 (sym ((bytes_eq-Decides x.tag t).0 e)))

    by_known : IsOnce t (tags_after known seen) → IsOnce t (tags_after (x.tag ∷ known) seen) → (b : Bool)
        → IsOnce t (cond b (tags_after known seen) (x.tag ∷ tags_after (x.tag ∷ known) seen))
    by_known same more true = same
    by_known same more false = (λ e. tags_apart t (x.tag ∷ known) seen (here e), more)

-- ---- what the ends tell

module _ (f : Formula) (t : List ℕ) (all : List Tagged) where
  -- there is something that they tell
  some_said : (tags : List (List ℕ)) (text : List ℕ) → AreEnds f all tags text → (said : List ℕ) × AreSaidAtEnd f t all tags text said
  some_said [] text e = ([], (e, refl))
  some_said (u ∷ tags) text (old, grown, later, so, is, ends, e) =
      let (more, on) = some_said tags later ends in
      ((if bytes_eq u t then grown else []) ++ more, (old, grown, later, more, so, is, on, e, refl))

  neither : (a b : Bool) → (a || b) ≡ false → (a ≡ false) × (b ≡ false)
  neither true b e = absurd (false≢true (sym e))
  neither false b e = (refl, e)

  turned : (u : List ℕ) (b : Bool) → bytes_eq t u ≡ b → bytes_eq u t ≡ b
  turned u true e = (bytes_eq-Decides u t).1 (sym ((bytes_eq-Decides t u).0 e))
  turned u false e = of (bytes_eq u t) refl
    where
      of : (b : Bool) → bytes_eq u t ≡ b → b ≡ false
      of true k = absurd (false≢true (sym e ∙ (bytes_eq-Decides t u).1 (sym ((bytes_eq-Decides u t).0 k))))
      of false k = refl

  -- nothing to a tag that is none of them
  none_said : (tags : List (List ℕ)) (text said : List ℕ) → is_among t tags ≡ false → AreSaidAtEnd f t all tags text said → said ≡ []
  none_said [] text said n (e, k) = k
  none_said (u ∷ tags) text said n (old, grown, later, more, so, is, on, e, k) =
      let both = neither (bytes_eq t u) (is_among t tags) n in
      k ∙ ap (λ b. cond b grown [] ++ more) (turned u false both.0) ∙ none_said tags later more both.1 on

  -- to one of them what its bytes get more by their end
  once_said : (tags : List (List ℕ)) (text said : List ℕ) → IsOnce t tags → is_among t tags ≡ true → AreSaidAtEnd f t all tags text said
      → (old : List ℕ) × SoFar f all t old × Alone f (own all t) true (old ++ said)
  once_said [] text said once n at = absurd (false≢true n)
  once_said (u ∷ tags) text said once n (old, grown, later, more, so, is, on, e, k) = by_tag (bytes_eq t u) refl (once_said tags later more once.1)
    where
      by_tag : (b : Bool) → bytes_eq t u ≡ b
          → (is_among t tags ≡ true → AreSaidAtEnd f t all tags later more → (old : List ℕ) × SoFar f all t old × Alone f (own all t) true (old ++ more))
          → (old : List ℕ) × SoFar f all t old × Alone f (own all t) true (old ++ said)
      by_tag true b rest =
          let same : u ≡ t = sym ((bytes_eq-Decides t u).0 b) in
          let last : said ≡ grown =
          k ∙ ap (λ b. cond b grown [] ++ more) (turned u true b)
          ∙ ap (λ w. grown ++ w) (none_said tags later more (once.0 (turned u true b)) on) ∙ append-nil grown in (
            old,
            subst (λ w. SoFar f all w old) same so,
            subst (λ w. Alone f (own all t) true (old ++ w)) (sym last) (subst (λ w. Alone f (own all w) true (old ++ grown)) same is),
          )
      by_tag false b rest =
          let (before, so_far, whole) = rest (sym (ap (λ b. b || is_among t tags) b) ∙ n) on in
          let last : said ≡ more = k ∙ ap (λ b. cond b grown [] ++ more) (turned u false b) in
          (before, so_far, subst (λ w. Alone f (own all t) true (before ++ w)) (sym last) whole)

-- what it is told in all is what its bytes get alone
said_whole : (f : Formula) (t : List ℕ) (all : List Tagged) (text said : List ℕ) → is_among t (tags_after [] all) ≡ true
    → AreSaidInAll f t all text said → Alone f (own all t) true said
said_whole f t all text said among a =
    let so_far = said_is_alone f t [] all [] a.during a.said_first (nothing_alone f) a.lines in
    let (old, so, whole) = once_said f t all (tags_after [] all) a.rest a.said_at_end (tags_once t [] all) among a.ends in
    let same : old ≡ a.said_first = text_alone_once f (own all t) (is_stopped all t) old a.said_first so so_far in
    subst (λ w. Alone f (own all t) true w) (sym a.said_is) (subst (λ w. Alone f (own all t) true (w ++ a.said_at_end)) same whole)

-- each session is told to its end what it would be told alone
pub as_alone_to_its_end : EachIsAsAloneToItsEnd
as_alone_to_its_end f t all text among (during, rest, answers, ends, e) =
    let (said_first, lines_said, so) = as_alone f t all during answers in
    let (said_at_end, ends_said) = some_said f t all (tags_after [] all) rest ends in
    let a : AreSaidInAll f t all text (said_first ++ said_at_end) =
    record {
      during = during;
      rest = rest;
      said_first = said_first;
      said_at_end = said_at_end;
      lines = lines_said;
      ends = ends_said;
      text_is = e;
      said_is = refl;
    } in
    (said_first ++ said_at_end, a, said_whole f t all text (said_first ++ said_at_end) among a)

-- two inputs with the same lines of a session tell it the same
same_to_the_end : {f : Formula} {t : List ℕ} {all others : List Tagged} {text other said heard : List ℕ} → lines_of t all ≡ lines_of t others
    → is_among t (tags_after [] all) ≡ true → is_among t (tags_after [] others) ≡ true → AreSaidInAll f t all text said
    → AreSaidInAll f t others other heard → said ≡ heard
same_to_the_end {f} {t} {all} {others} {text} {other} {said} {heard} same among also a b =
    let mine = said_whole f t all text said among a in
    let theirs = said_whole f t others other heard also b in
    let bytes : own others t ≡ own all t = own_of_lines others t ∙ ap (λ l. own l t) (sym same) ∙ sym (own_of_lines all t) in
    text_alone_once f (own all t) true said heard mine (subst (λ w. Alone f w true heard) bytes theirs)

-- what others send adds nothing to what a session is told to its end
pub others_add_nothing_at_the_end : OthersAddNothingAtTheEnd
others_add_nothing_at_the_end f t all others text other said heard = same_to_the_end
