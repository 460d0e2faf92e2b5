-- What a session has got grows by its own lines alone, and the tags of the lines.
use Rattle.std.proofs.Common.{◌≡◌, refl, sym, ap, subst, ◌∙◌, ℕ, Bool, true, false, cond, List, [], ◌∷◌, ◌++◌, append_assoc}
use Rattle.std.specs.Prelude.{◌||◌, ◌&&◌, not, bytes_eq, codes, if◌then◌else◌}
use Rattle.std.proofs.lemmas.List.{append-nil}
use Rattle.std.proofs.lemmas.Bool.{false≢true}
use Rattle.std.proofs.lemmas.Slice.Eq.{bytes_eq-Decides}
use Rattle.stl_syntax.specs.Characters.{is_among}
use Rattle.stl_syntax.specs.Texts.{newline}
use Rattle.session_mux.specs.Sessions.{Tagged, is_query, is_stop, own, is_stopped, tags_after}
use Rattle.session_mux.specs.SessionsAlone.{is_of}
use Rattle.session_mux.specs.Owning.{Own, own_of, asks, stops, with_content}

-- a query is no stop
pub no_stop : (line : Tagged) → is_query line ≡ true → is_stop line ≡ false
no_stop line q = ap (λ w. bytes_eq w (codes ".")) ((bytes_eq-Decides line.content (codes "?")).0 q)

-- a line that is none of the session's, or a query, leaves both as they are
by_other : (line : Tagged) (t : List ℕ) (b q : Bool) → bytes_eq line.tag t ≡ b → is_query line ≡ q → (b && not q) ≡ false
    → (own (line ∷ []) t ≡ []) × (is_stopped (line ∷ []) t ≡ false)
by_other line t true true e k h = (
  ap (λ c. cond c (cond (is_query line) [] (cond (is_stop line) [] (line.content ++ newline ++ []))) []) e
      ∙ ap (λ c. cond c [] (cond (is_stop line) [] (line.content ++ newline ++ []))) k,
  ap (λ c. cond c (is_stop line || false) false) e ∙ ap (λ c. c || false) (no_stop line k),
)
by_other line t true false e k h = absurd (false≢true (sym h))
by_other line t false q e k h = (
  ap (λ c. cond c (cond (is_query line) [] (cond (is_stop line) [] (line.content ++ newline ++ []))) []) e,
  ap (λ c. cond c (is_stop line || false) false) e,
)

-- a line of another tag adds nothing to a session
pub own_by_other : (seen : List Tagged) (line : Tagged) (t : List ℕ) → is_of t line ≡ false → own (seen ++ line ∷ []) t ≡ own seen t
own_by_other [] line t h = (by_other line t (bytes_eq line.tag t) (is_query line) refl refl h).0
own_by_other (x ∷ seen) line t h =
    ap (λ o. cond (bytes_eq x.tag t) (cond (is_query x) o (cond (is_stop x) [] (x.content ++ newline ++ o))) o) (own_by_other seen line t h)

-- a line of another tag does not stop a session
pub stopped_by_other : (seen : List Tagged) (line : Tagged) (t : List ℕ) → is_of t line ≡ false → is_stopped (seen ++ line ∷ []) t ≡ is_stopped seen t
stopped_by_other [] line t h = (by_other line t (bytes_eq line.tag t) (is_query line) refl refl h).1
stopped_by_other (x ∷ seen) line t h = ap (λ o. cond (bytes_eq x.tag t) (is_stop x || o) o) (stopped_by_other seen line t h)

-- a line before all others, which is the session's own or not, a query or not, and its stop or not
abbrev step : Bool → Bool → Bool → List ℕ → Own → Own
step e q s front o = record {
  bytes = cond e (cond q o.bytes (cond s [] (front ++ o.bytes))) o.bytes;
  stopped = cond e (s || o.stopped) o.stopped;
}

-- a content that asks or not, and stops or not
abbrev put : Bool → Bool → List ℕ → Own → Own
put a z line o = cond (a || o.stopped) o (cond z (record o { stopped = true }) (record o { bytes = o.bytes ++ line }))

step_put : (e q s a z : Bool) (front line bytes : List ℕ) (stopped : Bool) → (q ≡ true → s ≡ false)
    → step e q s front (put a z line (record { bytes = bytes; stopped = stopped })) ≡ put a z line
    (step e q s front (record { bytes = bytes; stopped = stopped }))
step_put false q s true z front line bytes stopped fits = refl
step_put false q s false z front line bytes true fits = refl
step_put false q s false true front line bytes false fits = refl
step_put false q s false false front line bytes false fits = refl
step_put true true true a z front line bytes stopped fits = absurd (false≢true (sym (fits refl)))
step_put true true false true z front line bytes stopped fits = refl
step_put true true false false z front line bytes true fits = refl
step_put true true false false true front line bytes false fits = refl
step_put true true false false false front line bytes false fits = refl
step_put true false true true z front line bytes stopped fits = refl
step_put true false true false z front line bytes stopped fits = refl
step_put true false false true z front line bytes stopped fits = refl
step_put true false false false z front line bytes true fits = refl
step_put true false false false true front line bytes false fits = refl
step_put true false false false false front line bytes false fits =
    ap (λ (w : List ℕ). (record { bytes = w; stopped = false })) (sym (append_assoc front bytes line))

-- the session's own line is the next of its contents
pub own_grows : (seen : List Tagged) (line : Tagged) (t : List ℕ) → bytes_eq line.tag t ≡ true
    → own_of (seen ++ line ∷ []) t ≡ with_content (own_of seen t) line.content
own_grows [] line t e = first (bytes_eq line.tag t) (asks line.content) (stops line.content) e (no_stop line)
  where
    first : (b q s : Bool) → b ≡ true → (q ≡ true → s ≡ false) → step b q s (line.content ++ newline)
        (record { bytes = []; stopped = false }) ≡ put q s (line.content ++ newline) (record { bytes = []; stopped = false })
    first false q s e fits = absurd (false≢true e)
    first true true true e fits = absurd (false≢true (sym (fits refl)))
    first true true false e fits = refl
    first true false true e fits = refl
    first true false false e fits = ap (λ (w : List ℕ). (record { bytes = w; stopped = false })) (append-nil (line.content ++ newline))
own_grows (x ∷ seen) line t e =
    ap (step (bytes_eq x.tag t) (is_query x) (is_stop x) (x.content ++ newline)) (own_grows seen line t e)
    ∙ step_put (bytes_eq x.tag t) (is_query x) (is_stop x) (asks line.content) (stops line.content) (x.content ++ newline)
    (line.content ++ newline) (own seen t) (is_stopped seen t) (no_stop x)

-- another's line adds nothing
pub own_stays : (seen : List Tagged) (line : Tagged) (t : List ℕ) → bytes_eq line.tag t ≡ false → own_of (seen ++ line ∷ []) t ≡ own_of seen t
own_stays seen line t e =
    let other : is_of t line ≡ false = ap (λ b. b && not (is_query line)) e in
    ap (λ (b : List ℕ). (record { bytes = b; stopped = is_stopped (seen ++ line ∷ []) t })) (own_by_other seen line t other)
    ∙ ap (λ (s : Bool). (record { bytes = own seen t; stopped = s })) (stopped_by_other seen line t other)

-- ---- tags

-- the line's tag comes after the others where it is new
abbrev Grows : List (List ℕ) → List Tagged → Tagged → Type 0
Grows ts seen line = tags_after ts (seen ++ line ∷ [])
    ≡ tags_after ts seen ++ (if is_among line.tag ts || is_among line.tag (tags_after ts seen) then [] else line.tag ∷ [])

-- a line adds its tag where it is a new one
pub tags_grow : (known : List (List ℕ)) (seen : List Tagged) (line : Tagged)
    → tags_after known (seen ++ line ∷ []) ≡ tags_after known seen
    ++ (if is_among line.tag known || is_among line.tag (tags_after known seen) then [] else line.tag ∷ [])
tags_grow known [] line = by_known (is_among line.tag known)
  where
    by_known : (b : Bool) → cond b [] (line.tag ∷ []) ≡ [] ++ cond (b || false) [] (line.tag ∷ [])
    by_known true = refl
    by_known false = refl
tags_grow known (x ∷ seen) line = by_first (tags_grow known seen line) (tags_grow (x.tag ∷ known) seen line) (is_among x.tag known)
  where
    regroup : (a b c : Bool) (u v : List (List ℕ)) → cond ((b || a) || c) u v ≡ cond (a || (b || c)) u v
    regroup true true c u v = refl
    regroup true false c u v = refl
    regroup false true c u v = refl
    regroup false false c u v = refl

    by_first : Grows known seen line → Grows (x.tag ∷ known) seen line → (b : Bool)
        → cond b (tags_after known (seen ++ line ∷ [])) (x.tag ∷ tags_after (x.tag ∷ known) (seen ++ line ∷ []))
        ≡ cond b (tags_after known seen) (x.tag ∷ tags_after (x.tag ∷ known) seen)
        ++ cond (is_among line.tag known || is_among line.tag (cond b (tags_after known seen) (x.tag ∷ tags_after (x.tag ∷ known) seen))) [] (line.tag ∷ [])
    by_first same more true = same
    by_first same more false =
        ap (λ ts. x.tag ∷ ts) (more
        ∙ ap (λ ts. tags_after (x.tag ∷ known) seen ++ ts)
        (regroup (is_among line.tag known) (bytes_eq line.tag x.tag) (is_among line.tag (tags_after (x.tag ∷ known) seen)) [] (line.tag ∷ [])))

-- no lines, nothing got
abbrev HasNone : List (List ℕ) → List Tagged → List ℕ → Type 0
HasNone ts seen t = is_among t ts ≡ false → is_among t (tags_after ts seen) ≡ false → own_of seen t ≡ record { bytes = []; stopped = false }

own_from : (known : List (List ℕ)) (seen : List Tagged) (t : List ℕ) → is_among t known ≡ false → is_among t (tags_after known seen) ≡ false
    → own_of seen t ≡ record { bytes = []; stopped = false }
own_from known [] t p q = refl
own_from known (x ∷ seen) t p q = by_tag (own_from known seen t) (own_from (x.tag ∷ known) seen t) (bytes_eq x.tag t) refl (is_among x.tag known) refl q
  where
    neither : (a b : Bool) → (a || b) ≡ false → (a ≡ false) × (b ≡ false)
    neither true b e = absurd (false≢true (sym e))
    neither false b e = (refl, e)

    flip : bytes_eq t x.tag ≡ true → bytes_eq x.tag t ≡ true
    flip e = (bytes_eq-Decides x.tag t).1 (sym ((bytes_eq-Decides t x.tag).0 e))

    differs : bytes_eq x.tag t ≡ false → bytes_eq t x.tag ≡ false
    differs e = of (bytes_eq t x.tag) refl
      where
        of : (b : Bool) → bytes_eq t x.tag ≡ b → b ≡ false
        of true k = absurd (false≢true (sym e ∙ flip k))
        of false k = refl

    skip : bytes_eq x.tag t ≡ false → own_of (x ∷ seen) t ≡ own_of seen t
    skip e = ap (λ b. step b (is_query x) (is_stop x) (x.content ++ newline) (own_of seen t)) e

    by_tag : HasNone known seen t → HasNone (x.tag ∷ known) seen t → (b : Bool) → bytes_eq x.tag t ≡ b → (k : Bool) → is_among x.tag known ≡ k
        → is_among t (cond k (tags_after known seen) (x.tag ∷ tags_after (x.tag ∷ known) seen)) ≡ false
        → own_of (x ∷ seen) t ≡ record { bytes = []; stopped = false }
    by_tag same more true e true k r = absurd (false≢true (sym p ∙ subst (λ w. is_among w known ≡ true) ((bytes_eq-Decides x.tag t).0 e) k))
    by_tag same more true e false k r =
        absurd (false≢true (sym (neither (bytes_eq t x.tag) (is_among t (tags_after (x.tag ∷ known) seen)) r).0
        ∙ (bytes_eq-Decides t x.tag).1 (sym ((bytes_eq-Decides x.tag t).0 e))))
    by_tag same more false e true k r = skip e ∙ same p r
    by_tag same more false e false k r =
        skip e ∙ more (ap (λ b. b || is_among t known) (differs e) ∙ p)
        (neither (bytes_eq t x.tag) (is_among t (tags_after (x.tag ∷ known) seen)) r).1

-- a tag that no line had has got nothing
pub own_of_none : (seen : List Tagged) (t : List ℕ) → is_among t (tags_after [] seen) ≡ false → own_of seen t ≡ record { bytes = []; stopped = false }
own_of_none seen t q = own_from [] seen t refl q
