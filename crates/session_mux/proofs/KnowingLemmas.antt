-- Sessions that are found by their tags: a line is its own session's alone.
use Rattle.std.proofs.Common.{◌≡◌, ◌≢◌, ◌⊎◌, inl, inr, refl, sym, ap, subst, ◌∙◌, ℕ, zero, suc, ◌<◌, Bool}
use Rattle.std.proofs.Common.{true, false, List, [], ◌∷◌, ◌++◌, length, take, set, arith, Option, Some, None}
use Rattle.std.specs.Prelude.{bytes_eq, slice_get, if◌then◌else◌, ◌||◌}
use Rattle.std.specs.Ordering.{nat_cmp, is_eq}
use Rattle.std.proofs.lemmas.Bool.Decides.{nat_tests}
use Rattle.std.proofs.lemmas.Bool.{false≢true, cases_eq}
use Rattle.std.proofs.lemmas.List.{append-nil, map-append, take-append-le, take_all}
use Rattle.std.proofs.lemmas.Slice.Eq.{bytes_eq-Decides}
use Rattle.rational.proofs.Lists.{slice_get-push_cases, slice_get-append_left, slice_get-append_here}
use Rattle.stl_syntax.specs.Characters.{is_among}
use Rattle.stl_syntax.specs.Formula.{Formula}
use Rattle.session_mux.specs.Sessions.{Tagged, IsTag}
use Rattle.session_mux.specs.Tags.{number_of}
use Rattle.session_mux.specs.Owning.{Own, own_of}
use Rattle.session_mux.specs.Standing.{HasSaidSoFar}
use Rattle.session_mux.specs.Knowing.{Register, shown, place_in, tags_of, tag_list, EachHasSaid, AreFound, IsSessionAt, Knows}
use Rattle.session_mux.specs.Knowing.{HasBegun, IsNotBegun, IsTurnedAway, IsReady}
use Rattle.session_mux.specs.declared.fault.MuxFault.{MuxFault}
use Rattle.session_mux.specs.declared.fault.MuxFault.TheVariants as fault
use Rattle.session_mux.specs.declared.known.Known.{Known}
use Rattle.session_mux.specs.declared.session.Session.{Session}
use Rattle.session_mux.proofs.OwnLemmas.{own_of_none, tags_grow}
use Rattle.session_mux.proofs.TagLemmas.{tag_once}

-- ---- places

-- the tag of a session is among the tags, and each of these is a session's
pub among_at : (sessions : List Session) (i : ℕ) (s : Session) → slice_get sessions i ≡ Some s → is_among s.tag (tag_list sessions) ≡ true
among_at [] i s e = absurd (let z : None ≡ Some s = e in cc)
among_at (x ∷ sessions) zero s e =
    let same : x ≡ s = (let z : Some x ≡ Some s = e in cc) in
    ap (λ b. b || is_among s.tag (tag_list sessions)) ((bytes_eq-Decides s.tag x.tag).1 (ap (λ (y : Session). y.tag) (sym same)))
among_at (x ∷ sessions) (suc i) s e = by_test (bytes_eq s.tag x.tag) (among_at sessions i s e)
  where
    by_test : (b : Bool) → is_among s.tag (tag_list sessions) ≡ true → (b || is_among s.tag (tag_list sessions)) ≡ true
    by_test true h = refl
    by_test false h = h

-- a tag that is among the sessions' stands at some place
pub at_among : (sessions : List Session) (t : List ℕ) → is_among t (tag_list sessions) ≡ true
    → (i : ℕ) × (s : Session) × (slice_get sessions i ≡ Some s) × (s.tag ≡ t)
at_among [] t e = absurd (false≢true e)
at_among (x ∷ sessions) t e = by_test (at_among sessions t) (bytes_eq t x.tag) refl e
  where
    by_test : (is_among t (tag_list sessions) ≡ true → (i : ℕ) × (s : Session) × (slice_get sessions i ≡ Some s) × (s.tag ≡ t))
        → (b : Bool) → bytes_eq t x.tag ≡ b
        → (b || is_among t (tag_list sessions)) ≡ true → (i : ℕ) × (s : Session) × (slice_get (x ∷ sessions) i ≡ Some s) × (s.tag ≡ t)
    by_test more true k h = (0, x, refl, sym ((bytes_eq-Decides t x.tag).0 k))
    by_test more false k h = let (i, s, at, same) = more h in (suc i, s, at, same)

-- an item of a list with one changed
pub item_of_set : {X : Type 0} (xs : List X) (i j : ℕ) (y x : X) → i < length xs → slice_get (set xs i y) j ≡ Some x
    → ((j ≡ i) × (x ≡ y)) ⊎ ((j ≢ i) × (slice_get xs j ≡ Some x))
item_of_set [] i j y x within e = absurd (omega (arith, within))
item_of_set (z ∷ xs) zero zero y x within e = inl (refl, let k : Some y ≡ Some x = e in cc)
item_of_set (z ∷ xs) zero (suc j) y x within e = inr (λ k. absurd (omega (arith, k)), e)
item_of_set (z ∷ xs) (suc i) zero y x within e = inr (λ k. absurd (omega (arith, k)), e)
item_of_set (z ∷ xs) (suc i) (suc j) y x within e = elim (item_of_set xs i j y x (omega (arith, within)) e) [
  | inl k ↦ inl (ap suc k.0, k.1)
  | inr k ↦ inr (λ same. k.0 (omega (arith, same)), k.1)
]

-- the tags stay where a session with the same tag is put
pub tags_of_set : (sessions : List Session) (i : ℕ) (s t : Session) → slice_get sessions i ≡ Some s → t.tag ≡ s.tag
    → tag_list (set sessions i t) ≡ tag_list sessions
tags_of_set [] i s t at e = refl
tags_of_set (x ∷ sessions) zero s t at e =
    let same : x ≡ s = (let z : Some x ≡ Some s = at in cc) in
    ap (λ w. w ∷ tag_list sessions) (e ∙ ap (λ (y : Session). y.tag) (sym same))
tags_of_set (x ∷ sessions) (suc i) s t at e = ap (λ ts. x.tag ∷ ts) (tags_of_set sessions i s t at e)

-- the tags of the first sessions are the first tags
tags_of_take : (n : ℕ) (ss : List Session) → tag_list (take n ss) ≡ take n (tag_list ss)
tags_of_take zero ss = refl
tags_of_take (suc n) [] = refl
tags_of_take (suc n) (s ∷ ss) = ap (λ ts. s.tag ∷ ts) (tags_of_take n ss)

-- the tags stay where only those sessions are kept that there were before, and one of all was put anew with its tag
pub tags_kept : (old mid : List Session) (i : ℕ) (s t : Session) → take (length old) mid ≡ old → slice_get mid i ≡ Some s → t.tag ≡ s.tag
    → tag_list (take (length old) (set mid i t)) ≡ tag_list old
tags_kept old mid i s t kept at e =
    tags_of_take (length old) (set mid i t) ∙ ap (take (length old)) (tags_of_set mid i s t at e) ∙ sym (tags_of_take (length old) mid)
    ∙ ap tag_list kept

-- the first of a longer list
pub first_kept : (old : List Session) (s : Session) (mid : List Session) → mid ≡ old ++ s ∷ [] → take (length old) mid ≡ old
first_kept old s mid e =
    ap (take (length old)) e ∙ take-append-le (length old) old (s ∷ []) (omega arith) ∙ take_all (length old) old (omega arith)

-- an option holds one item
pub one_item : {X : Type 0} (o : Option X) (x y : X) → o ≡ Some x → o ≡ Some y → x ≡ y
one_item o x y e k = cc

-- ---- a tag that is looked up

-- the session of a tag is found by its number
pub found_is : (f : Formula) (seen : List Tagged) (sessions : List Session) (places : List (ℕ × ℕ)) (t : List ℕ) (i : ℕ)
    → EachHasSaid f seen sessions → AreFound sessions places → IsTag t
    → place_in places (number_of t) ≡ Some i → (s : Session) × (slice_get sessions i ≡ Some s) × (s.tag ≡ t)
found_is f seen sessions places t i each found is e =
    let (s, at, same) = found.only (number_of t) i e in
    (s, at, tag_once s.tag t (each i s at).0 is same)

-- as many tags as sessions
pub tag_count : (ss : List Session) → length (tag_list ss) ≡ length ss
tag_count [] = refl
tag_count (s ∷ ss) = ap suc (tag_count ss)

-- a tag whose number has no place is none of a session's
pub not_found : (sessions : List Session) (places : List (ℕ × ℕ)) (t : List ℕ) → AreFound sessions places
    → place_in places (number_of t) ≡ None → is_among t (tag_list sessions) ≡ false
not_found sessions places t found e = by_test (is_among t (tag_list sessions)) refl
  where
    by_test : (b : Bool) → is_among t (tag_list sessions) ≡ b → b ≡ false
    by_test false k = refl
    by_test true k =
        let (i, s, at, same) = at_among sessions t k in
        let there : place_in places (number_of t) ≡ Some i = subst (λ w. place_in places (number_of w) ≡ Some i) same (found.at i s at) in
        absurd (let z : None ≡ Some i = sym e ∙ there in cc)

-- ---- a line of a known tag

-- the session with its tag
pub ready_known : (f : Formula) (seen : List Tagged) (x : Tagged) (i : ℕ) (r : Register) → Knows f seen r → IsSessionAt r.sessions i x.tag
    → IsReady f seen x i r
ready_known f seen x i r k (s, at, same) =
    let among : is_among x.tag (tags_of seen) ≡ true =
    subst (λ ts. is_among x.tag ts ≡ true) k.tags (subst (λ w. is_among w (tag_list r.sessions) ≡ true) same (among_at r.sessions i s at)) in
    record {
      formula = k.formula;
      tags = k.tags ∙ sym (tags_grow [] seen x ∙ ap (λ b. tags_of seen ++ (if b then [] else x.tag ∷ [])) among ∙ append-nil (tags_of seen));
      said = k.said;
      found = k.found;
      session = s;
      at = at;
      tag = same;
      room = inl among;
    }

-- ---- a line of a new tag

module _ (f : Formula) (seen : List Tagged) (x : Tagged) (i : ℕ) (old mid : Known) (k : Knows f seen (shown old))
    (is : IsTag x.tag) (none : place_in old.places.entries (number_of x.tag) ≡ None)
    (b : HasBegun x.tag (number_of x.tag) i old mid) where
  -- a tag that has no place is none of those before
  pub is_new : is_among x.tag (tags_of seen) ≡ false
  is_new = subst (λ ts. is_among x.tag ts ≡ false) k.tags (not_found old.sessions.items old.places.entries x.tag k.found none)

  -- what the numbers have now
  at_number : place_in mid.places.entries (number_of x.tag) ≡ Some i
  at_number = b.places.1

  at_other : (n : ℕ) → n ≢ number_of x.tag → place_in mid.places.entries n ≡ place_in old.places.entries n
  at_other n ne = b.places.2 n (apart (number_of x.tag) n (λ e. ne (sym e)))
    where
      apart : (a c : ℕ) → a ≢ c → is_eq (nat_cmp a c) ≡ false
      apart a c ne = grind (arith, nat_tests, ne)

  each_said : EachHasSaid f seen mid.sessions.items
  each_said j s at = elim (slice_get-push_cases old.sessions.items b.session j s (subst (λ ss. slice_get ss j ≡ Some s) b.sessions at)) [
    | inl h ↦ k.said j s h
    | inr h ↦ fresh_said s h.1
  ]
    where
      fresh_said : (s : Session) → s ≡ b.session → IsTag s.tag × ((said : List ℕ) × HasSaidSoFar f (own_of seen s.tag) said s)
      fresh_said s e =
          subst (λ (t : Session). IsTag t.tag × ((said : List ℕ) × HasSaidSoFar f (own_of seen t.tag) said t)) (sym e) (
            subst (λ t. IsTag t) (sym b.tag) is,
            (
              [],
              subst (λ t. HasSaidSoFar f (own_of seen t) [] b.session) (sym b.tag)
                  (subst (λ (o : Own). HasSaidSoFar f o [] b.session) (sym (own_of_none seen x.tag is_new))
                  (subst (λ (g : Formula). HasSaidSoFar g (record { bytes = []; stopped = false }) [] b.session) k.formula b.fresh)),
            ),
          )

  are_found : AreFound mid.sessions.items mid.places.entries
  are_found = record {
    at = λ j s at. elim (slice_get-push_cases old.sessions.items b.session j s (subst (λ ss. slice_get ss j ≡ Some s) b.sessions at)) [
      | inl h ↦ at_other (number_of s.tag) (other j s h) ∙ k.found.at j s h
      | inr h ↦ ap (λ n. place_in mid.places.entries n) (ap number_of (ap (λ (t : Session). t.tag) h.1 ∙ b.tag)) ∙ at_number ∙ ap Some (b.at ∙ sym h.0)
    ];
    only = λ n j e. elim (cases_eq n (number_of x.tag)) [
      | inl same ↦ (
        b.session,
        subst (λ m. slice_get mid.sessions.items m ≡ Some b.session) (sym (place_of n j e same))
            (subst (λ ss. slice_get ss (length old.sessions.items) ≡ Some b.session) (sym b.sessions) (slice_get-append_here old.sessions.items b.session [])),
        ap number_of b.tag ∙ sym same,
      )
      | inr ne ↦ (let (s, at, same) = k.found.only n j (sym (at_other n ne) ∙ e) in
          (s, subst (λ ss. slice_get ss j ≡ Some s) (sym b.sessions) (slice_get-append_left old.sessions.items (b.session ∷ []) j s at), same))
    ];
  }
    where
      other : (j : ℕ) (s : Session) → slice_get old.sessions.items j ≡ Some s → number_of s.tag ≢ number_of x.tag
      other j s h e =
          let there : place_in old.places.entries (number_of x.tag) ≡ Some j = subst (λ n. place_in old.places.entries n ≡ Some j) e (k.found.at j s h) in
          let z : None ≡ Some j = sym none ∙ there in cc

      place_of : (n j : ℕ) → place_in mid.places.entries n ≡ Some j → n ≡ number_of x.tag → j ≡ length old.sessions.items
      place_of n j e same = one_item (place_in mid.places.entries (number_of x.tag)) j i
          (subst (λ m. place_in mid.places.entries m ≡ Some j) same e) at_number ∙ b.at

  -- a session that was begun for a new tag is ready for its line
  pub ready_new : IsReady f seen x i (shown mid)
  ready_new = record {
    formula = b.formula ∙ k.formula;
    tags = ap tag_list b.sessions ∙ map-append (λ (s : Session). s.tag) old.sessions.items (b.session ∷ [])
        ∙ ap (λ ts. ts ++ b.session.tag ∷ []) k.tags ∙ ap (λ t. tags_of seen ++ t ∷ []) b.tag
        ∙ sym (tags_grow [] seen x ∙ ap (λ b. tags_of seen ++ (if b then [] else x.tag ∷ [])) is_new);
    said = each_said;
    found = are_found;
    session = b.session;
    at = subst (λ ss. slice_get ss i ≡ Some b.session) (sym b.sessions)
        (subst (λ m. slice_get (old.sessions.items ++ b.session ∷ []) m ≡ Some b.session) (sym b.at) (slice_get-append_here old.sessions.items b.session []));
    tag = b.tag;
    room = inr (omega (arith, b.room, ap length k.tags, tag_count old.sessions.items));
  }

-- ---- what begins a session, or does not

-- a tag that has no place is none of those before
pub new_tag : (f : Formula) (seen : List Tagged) (x : Tagged) (r : Register) → Knows f seen r
    → place_in r.places (number_of x.tag) ≡ None → is_among x.tag (tags_of seen) ≡ false
new_tag f seen x r k none = subst (λ ts. is_among x.tag ts ≡ false) k.tags (not_found r.sessions r.places x.tag k.found none)

-- a line whose session could not begin changes no other
pub turned_away : (f : Formula) (seen : List Tagged) (x : Tagged) (old new : Known) (e : MuxFault) → Knows f seen (shown old)
    → place_in old.places.entries (number_of x.tag) ≡ None → IsNotBegun old new e
    → IsTurnedAway seen x old new e
turned_away f seen x old new fault.TooManySessions k none h =
    (h.0, new_tag f seen x (shown old) k none, omega (arith, h.1, ap length k.tags, tag_count old.sessions.items))
turned_away f seen x old new fault.Memory k none h = tt
turned_away f seen x old new fault.BadTag k none h = absurd h
turned_away f seen x old new fault.Stopped k none h = absurd h
turned_away f seen x old new fault.Ended k none h = absurd h

-- under the tag of a line
pub begun_as : (t u : List ℕ) (n i : ℕ) (old new : Known) → t ≡ u → n ≡ number_of t → HasBegun t n i old new → HasBegun u (number_of u) i old new
begun_as t u n i old new e k h =
    subst (λ w. HasBegun w (number_of w) i old new) e (subst (λ m. HasBegun t m i old new) k h)
