-- What a session is told among the lines of many.
use Rattle.std.proofs.Common.{◌≡◌, refl, sym, ap, subst, ◌∙◌, ℕ, Bool, true, false, cond, List, [], ◌∷◌, ◌++◌, append_assoc}
use Rattle.std.specs.Prelude.{◌&&◌, ◌||◌, not, codes, bytes_eq}
use Rattle.std.proofs.lemmas.List.{append-nil}
use Rattle.std.proofs.lemmas.Bool.{false≢true}
use Rattle.std.proofs.lemmas.Slice.Eq.{bytes_eq-Decides}
use Rattle.stl_syntax.specs.Formula.{Formula}
use Rattle.stl_syntax.specs.Texts.{newline}
use Rattle.trace_reader.specs.TraceText.{lines}
use Rattle.trace_stream.proofs.FaultPlaces.{at_true, at_false, to_true, to_false}
use Rattle.session_mux.specs.Sessions.{Tagged, is_query, is_stop, own, is_stopped, Alone, SoFar, prefixed, IsAnswer, AreAnswers}
use Rattle.session_mux.specs.SessionsAlone.{lines_of, is_of, IsAdded, AreSaidTo, EachIsAsAlone, OthersAddNothing}
use Rattle.session_mux.proofs.OneText.{text_alone_once, nothing_alone}
use Rattle.session_mux.proofs.OwnLemmas.{own_by_other, stopped_by_other}

so_far_by_other : (f : Formula) (seen : List Tagged) (line : Tagged) (t : List ℕ) (text : List ℕ) → is_of t line ≡ false → SoFar f seen t text
    → SoFar f (seen ++ line ∷ []) t text
so_far_by_other f seen line t text h so =
    subst (λ b. Alone f b (is_stopped (seen ++ line ∷ []) t) text) (sym (own_by_other seen line t h))
    (subst (λ s. Alone f (own seen t) s text) (sym (stopped_by_other seen line t h)) so)

-- the bytes of a session, and its stop, are of its own lines
pub own_of_lines : (all : List Tagged) (t : List ℕ) → own all t ≡ own (lines_of t all) t
own_of_lines [] t = refl
own_of_lines (x ∷ all) t = by_tag (own_of_lines all t) (bytes_eq x.tag t) refl
  where
    by_tag : own all t ≡ own (lines_of t all) t → (b : Bool) → bytes_eq x.tag t ≡ b
        → own (x ∷ all) t ≡ own (cond (bytes_eq x.tag t) (x ∷ lines_of t all) (lines_of t all)) t
    by_tag rest true e = ap (λ o. cond (bytes_eq x.tag t) (cond (is_query x) o (cond (is_stop x) [] (x.content ++ newline ++ o))) o) rest
        ∙ sym (ap (λ c. own (cond c (x ∷ lines_of t all) (lines_of t all)) t) e)
    by_tag rest false e = ap (λ c. cond c (cond (is_query x) (own all t) (cond (is_stop x) [] (x.content ++ newline ++ own all t))) (own all t)) e
        ∙ rest ∙ sym (ap (λ c. own (cond c (x ∷ lines_of t all) (lines_of t all)) t) e)

stopped_of_lines : (all : List Tagged) (t : List ℕ) → is_stopped all t ≡ is_stopped (lines_of t all) t
stopped_of_lines [] t = refl
stopped_of_lines (x ∷ all) t = by_tag (stopped_of_lines all t) (bytes_eq x.tag t) refl
  where
    by_tag : is_stopped all t ≡ is_stopped (lines_of t all) t → (b : Bool) → bytes_eq x.tag t ≡ b
        → is_stopped (x ∷ all) t ≡ is_stopped (cond (bytes_eq x.tag t) (x ∷ lines_of t all) (lines_of t all)) t
    by_tag rest true e = ap (λ o. cond (bytes_eq x.tag t) (is_stop x || o) o) rest
        ∙ sym (ap (λ c. is_stopped (cond c (x ∷ lines_of t all) (lines_of t all)) t) e)
    by_tag rest false e = ap (λ c. cond c (is_stop x || is_stopped all t) (is_stopped all t)) e
        ∙ rest ∙ sym (ap (λ c. is_stopped (cond c (x ∷ lines_of t all) (lines_of t all)) t) e)

-- both tests of a line that is the session's
both_true : (b q : Bool) → (b && not q) ≡ true → (b ≡ true) × (q ≡ false)
both_true true true e = absurd (false≢true e)
both_true true false e = (refl, refl)
both_true false q e = absurd (false≢true e)

-- what is told goes on from what was told
module _ (f : Formula) (t : List ℕ) where
  added_here : (seen : List Tagged) (line : Tagged) (old answer : List ℕ) → SoFar f seen t old → IsAnswer f seen line answer
      → (added : List ℕ) × IsAdded f t seen line answer added × SoFar f (seen ++ line ∷ []) t (old ++ added)
  added_here seen line old answer so is = by_own (is_of t line) refl
    where
      by_own : (b : Bool) → is_of t line ≡ b → (added : List ℕ) × IsAdded f t seen line answer added × SoFar f (seen ++ line ∷ []) t (old ++ added)
      by_own false e = (
        [],
        to_false _ _ (is_of t line) e refl,
        subst (λ x. SoFar f (seen ++ line ∷ []) t x) (sym (append-nil old)) (so_far_by_other f seen line t old e so),
      )
      by_own true e =
          let both = both_true (bytes_eq line.tag t) (is_query line) e in
          let tag : line.tag ≡ t = (bytes_eq-Decides line.tag t).0 both.0 in
          let got = at_false _ _ (is_query line) both.1 is in
          let before : SoFar f seen t got.0 = subst (λ w. SoFar f seen w got.0) tag got.2 in
          let after : SoFar f (seen ++ line ∷ []) t (got.0 ++ got.1) = subst (λ w. SoFar f (seen ++ line ∷ []) w (got.0 ++ got.1)) tag got.3 in
          let said : answer ≡ prefixed (t ++ codes " ") (lines true got.1) =
          subst (λ w. answer ≡ prefixed (w ++ codes " ") (lines true got.1)) tag got.4 in
          let one : got.0 ≡ old = text_alone_once f (own seen t) (is_stopped seen t) got.0 old before so in (
            got.1,
            to_true _ _ (is_of t line) e (got.0, before, after, said),
            subst (λ w. SoFar f (seen ++ line ∷ []) t (w ++ got.1)) one after,
          )

  as_alone_on : (seen more : List Tagged) (old text : List ℕ) → SoFar f seen t old → AreAnswers f seen more text
      → (said : List ℕ) × AreSaidTo f t seen more text said × SoFar f (seen ++ more) t (old ++ said)
  as_alone_on seen [] old text so e = (
    [],
    (e, refl),
    subst (λ s. SoFar f s t (old ++ [])) (sym (append-nil seen)) (subst (λ w. SoFar f seen t w) (sym (append-nil old)) so),
  )
  as_alone_on seen (line ∷ more) old text so (answer, rest, is, on, e) =
      let first = added_here seen line old answer so is in
      let others = as_alone_on (seen ++ line ∷ []) more (old ++ first.0) rest first.2 on in (
        first.0 ++ others.0,
        (answer, rest, first.0, others.0, is, first.1, others.1, e, refl),
        subst (λ s. SoFar f s t (old ++ (first.0 ++ others.0))) (append_assoc seen (line ∷ []) more)
            (subst (λ w. SoFar f ((seen ++ line ∷ []) ++ more) t w) (append_assoc old first.0 others.0) others.2),
      )

  -- what was told is what the bytes get alone
  added_on : (seen : List Tagged) (line : Tagged) (old answer added : List ℕ) → SoFar f seen t old → IsAdded f t seen line answer added
      → SoFar f (seen ++ line ∷ []) t (old ++ added)
  added_on seen line old answer added so is = by_own (is_of t line) refl
    where
      by_own : (b : Bool) → is_of t line ≡ b → SoFar f (seen ++ line ∷ []) t (old ++ added)
      by_own false e = subst (λ x. SoFar f (seen ++ line ∷ []) t (old ++ x)) (sym (at_false _ _ (is_of t line) e is))
          (subst (λ x. SoFar f (seen ++ line ∷ []) t x) (sym (append-nil old)) (so_far_by_other f seen line t old e so))
      by_own true e =
          let got = at_true _ _ (is_of t line) e is in
          subst (λ w. SoFar f (seen ++ line ∷ []) t (w ++ added)) (text_alone_once f (own seen t) (is_stopped seen t) got.0 old got.1 so) got.2

  -- what further lines of its tag are told goes on with what it writes alone
  pub said_is_alone : (seen more : List Tagged) (old text said : List ℕ) → SoFar f seen t old → AreSaidTo f t seen more text said
      → SoFar f (seen ++ more) t (old ++ said)
  said_is_alone seen [] old text said so (e, k) =
      subst (λ s. SoFar f s t (old ++ said)) (sym (append-nil seen))
      (subst (λ w. SoFar f seen t (old ++ w)) (sym k) (subst (λ w. SoFar f seen t w) (sym (append-nil old)) so))
  said_is_alone seen (line ∷ more) old text said so (answer, rest, added, after, is, adds, on, e, k) =
      subst (λ w. SoFar f (seen ++ line ∷ more) t (old ++ w)) (sym k)
      (subst (λ s. SoFar f s t (old ++ (added ++ after))) (append_assoc seen (line ∷ []) more)
      (subst (λ w. SoFar f ((seen ++ line ∷ []) ++ more) t w) (append_assoc old added after)
      (said_is_alone (seen ++ line ∷ []) more (old ++ added) rest after (added_on seen line old answer added so adds) on)))

-- each session is told what it would be told alone
pub as_alone : EachIsAsAlone
as_alone f t all text are = as_alone_on f t [] all [] text (nothing_alone f) are

-- what others send adds nothing to what a session is told
pub others_add_nothing : OthersAddNothing
others_add_nothing f t all others text other said heard same a b =
    let mine = said_is_alone f t [] all [] text said (nothing_alone f) a in
    let theirs = said_is_alone f t [] others [] other heard (nothing_alone f) b in
    let bytes : own others t ≡ own all t = own_of_lines others t ∙ ap (λ l. own l t) (sym same) ∙ sym (own_of_lines all t) in
    let stops : is_stopped others t ≡ is_stopped all t = stopped_of_lines others t ∙ ap (λ l. is_stopped l t) (sym same) ∙ sym (stopped_of_lines all t) in
    text_alone_once f (own all t) (is_stopped all t) said heard mine
    (subst (λ w. Alone f w (is_stopped all t) heard) bytes (subst (λ s. Alone f (own others t) s heard) stops theirs))
