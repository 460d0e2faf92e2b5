-- The bytes that a session gets of lines of several sessions, and of the first of them.
use Rattle.std.proofs.Common.{◌≡◌, ℕ, ◌+◌, Bool, true, false, cond, List, [], ◌∷◌, ◌++◌}
use Rattle.std.proofs.Common.{refl, sym, ap, ◌∙◌, append_assoc}
use Rattle.std.specs.Prelude.{◌||◌, bytes_eq}
use Rattle.std.proofs.lemmas.Bool.{false≢true}
use Rattle.stl_syntax.specs.Texts.{newline}
use Rattle.trace_reader.specs.TraceText.{content}
use Rattle.session_mux.specs.Sessions.{Tagged, is_query, is_stop, own, is_stopped}
use Rattle.session_mux.proofs.OwnLemmas.{no_stop}

-- what a line adds goes before what the later ones do
add : (b q s : Bool) (front old all more : List ℕ) → all ≡ old ++ more → (beyond : List ℕ)
    × (cond b (cond q all (cond s [] (front ++ newline ++ all))) all ≡ cond b (cond q old (cond s [] (front ++ newline ++ old))) old ++ beyond)
add false q s front old all more e = (more, e)
add true true s front old all more e = (more, e)
add true false true front old all more e = ([], refl)
add true false false front old all more e = (more, ap (λ z. front ++ newline ++ z) e ∙ sym (append_assoc (front ++ newline) old more))

-- those of the first lines come first
pub own_grows : (seen others : List Tagged) (t : List ℕ) → (more : List ℕ) × (own (seen ++ others) t ≡ own seen t ++ more)
own_grows [] others t = (own others t, refl)
own_grows (x ∷ seen) others t =
    let (more, e) = own_grows seen others t in
    add (bytes_eq x.tag t) (is_query x) (is_stop x) x.content (own seen t) (own (seen ++ others) t) more e

-- after a stop nothing is added
stay : (b q s stopped : Bool) (front old all : List ℕ) → (q ≡ true → s ≡ false) → cond b (s || stopped) stopped ≡ true → (stopped ≡ true → all ≡ old)
    → cond b (cond q all (cond s [] (front ++ newline ++ all))) all ≡ cond b (cond q old (cond s [] (front ++ newline ++ old))) old
stay false q s stopped front old all apart h on = on h
stay true true true stopped front old all apart h on = absurd (false≢true (sym (apart refl)))
stay true true false stopped front old all apart h on = on h
stay true false true stopped front old all apart h on = refl
stay true false false stopped front old all apart h on = ap (λ z. front ++ newline ++ z) (on h)

-- and are all, once it has its stop
pub own_stays : (seen others : List Tagged) (t : List ℕ) → is_stopped seen t ≡ true → own (seen ++ others) t ≡ own seen t
own_stays [] others t h = absurd (false≢true h)
own_stays (x ∷ seen) others t h =
    stay (bytes_eq x.tag t) (is_query x) (is_stop x) (is_stopped seen t) x.content (own seen t) (own (seen ++ others) t) (no_stop x) h
    (λ k. own_stays seen others t k)
