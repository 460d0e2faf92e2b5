-- How two lists of turns are gone through at once.
use Rattle.std.proofs.Common.{◌≡◌, ◌⊎◌, inl, inr, ℕ, zero, suc, ◌+◌, ◌<◌, ◌≤◌, Bool, true, false, not}
use Rattle.std.proofs.Common.{List, [], ◌∷◌, ◌++◌, drop, length, refl, sym, ap, ◌∙◌, subst, arith, append_assoc}
use mir.Val.{bool_byte}
use mathlib.Core.Bool.{beq}
use Rattle.rational.specs.Time.{Rational}
use Rattle.rational.specs.Places.{Place, Before, Same, After, Upto}
use Rattle.rational.proofs.PlaceLemmas.{sides, upto_same, after_same, same_places, before_same, same_before, before_trans}
use Rattle.time_sets.specs.Turns.{place}
use Rattle.time_sets.specs.Sets.{turned, BeginAfter, EndBefore, Rise}
use Rattle.time_sets.specs.Merging.{joined, flipped, Leads}
use Rattle.time_sets.specs.declared.turn.Turn.{Turn}
use Rattle.time_sets.proofs.SetLemmas.{turned_after, turned_upto, turned_early}

-- what is left after a turn that was taken, or was not
abbrev pub Goes : Bool → List Turn → List Turn → Type 0
Goes true [] next = ⊥
Goes true (p ∷ rest) next = next ≡ rest
Goes false ps next = next ≡ ps

-- what one place makes of what is left of one list
pub record Steps (at : Turn) (b b' : Bool) (ps ps' : List Turn) : Type 0 where
  pub early : (t : Rational) → Upto (place at) t → (turned b ps t ≡ b) × (turned b' ps' t ≡ b')
  pub late : (t : Rational) → After (place at) t → turned b ps t ≡ turned b' ps' t
  pub rise : Rise ps'
  pub later : BeginAfter (place at) ps'
  pub still : (c : Place) → BeginAfter c ps → BeginAfter c ps'
  pub ends : (c : Place) → EndBefore c ps → EndBefore c ps'

begin_same : (c d : Place) (ps : List Turn) → Same c d → BeginAfter c ps → BeginAfter d ps
begin_same c d [] s h = h
begin_same c d (p ∷ rest) s h = same_before d c (place p) (same_places s) h

begin_later : (c d : Place) (ps : List Turn) → Before c d → BeginAfter d ps → BeginAfter c ps
begin_later c d [] b h = h
begin_later c d (p ∷ rest) b h = before_trans c d (place p) b h

-- past a place at which it turns, or does not, the list goes on
pub steps : (l : Bool) (at : Turn) (b : Bool) (ps ps' : List Turn) → Leads l at ps → Goes l ps ps' → Rise ps → Steps at b (flipped l b) ps ps'
steps true at b [] ps' lead goes rise = absurd lead
steps true at b (p ∷ rest) ps' lead goes rise = subst (Steps at b (not b) (p ∷ rest)) (sym goes) (record {
  early = λ t u. let v = upto_same (place at) (place p) t (same_places lead) u in
      (turned_upto b p rest t v, turned_early (not b) (place p) rest t rise.0 v);
  late = λ t a. turned_after b p rest t (after_same (place at) (place p) t (same_places lead) a);
  rise = rise.1;
  later = begin_same (place p) (place at) rest lead rise.0;
  still = λ c h. begin_later c (place p) rest h rise.0;
  ends = λ c h. h.1;
})
steps false at b ps ps' lead goes rise = subst (Steps at b b ps) (sym goes) (record {
  early = λ t u. let e = turned_early b (place at) ps t (later_of ps lead) u in (e, e);
  late = λ t a. refl;
  rise = rise;
  later = later_of ps lead;
  still = λ c h. h;
  ends = λ c h. h;
})
  where
    later_of : (qs : List Turn) → Leads false at qs → BeginAfter (place at) qs
    later_of [] h = h
    later_of (q ∷ qs) h = h

-- a place comes before the next one, where it comes before what is left of both lists
pub before_next : (l r : Bool) (at : Turn) (ps qs : List Turn) (c : Place) → Leads l at ps → Leads r at qs → (l ≡ true) ⊎ (r ≡ true)
    → BeginAfter c ps → BeginAfter c qs → Before c (place at)
before_next true r at [] qs c lead lead' some h k = absurd lead
before_next true r at (p ∷ ps) qs c lead lead' some h k = before_same c (place p) (place at) h lead
before_next false true at ps [] c lead lead' some h k = absurd lead'
before_next false true at ps (q ∷ qs) c lead lead' some h k = before_same c (place q) (place at) k lead'
before_next false false at ps qs c lead lead' (inl e) h k = absurd (let x : false ≡ true = e in cc)
before_next false false at ps qs c lead lead' (inr e) h k = absurd (let x : false ≡ true = e in cc)

-- and a place comes after it, where it comes after what is left of both lists
pub next_before : (l r : Bool) (at : Turn) (ps qs : List Turn) (c : Place) → Leads l at ps → Leads r at qs → (l ≡ true) ⊎ (r ≡ true)
    → EndBefore c ps → EndBefore c qs → Before (place at) c
next_before true r at [] qs c lead lead' some h k = absurd lead
next_before true r at (p ∷ ps) qs c lead lead' some h k = same_before (place at) (place p) c (same_places lead) h.0
next_before false true at ps [] c lead lead' some h k = absurd lead'
next_before false true at ps (q ∷ qs) c lead lead' some h k = same_before (place at) (place q) c (same_places lead') k.0
next_before false false at ps qs c lead lead' (inl e) h k = absurd (let x : false ≡ true = e in cc)
next_before false false at ps qs c lead lead' (inr e) h k = absurd (let x : false ≡ true = e in cc)

-- from the truth `now` on what is left of both lists would still be told by `more`
pub record Tells (all now left right : Bool) (ps qs more : List Turn) : Type 0 where
  pub tells : (t : Rational) → turned now more t ≡ joined all (turned left ps t) (turned right qs t)
  pub rise : Rise more
  pub later : (c : Place) → BeginAfter c ps → BeginAfter c qs → BeginAfter c more
  pub ends : (c : Place) → EndBefore c ps → EndBefore c qs → EndBefore c more

-- the turns tell both lists, from the truth `starts` on, and lie between the same places
pub record Joins (starts : Bool) (made : List Turn) (p q : List Turn) (F : Rational → Bool) : Type 0 where
  pub tells : (t : Rational) → turned starts made t ≡ F t
  pub rise : Rise made
  pub begins : (c : Place) → BeginAfter c p → BeginAfter c q → BeginAfter c made
  pub ends : (c : Place) → EndBefore c p → EndBefore c q → EndBefore c made

-- what was written so far, with anything that tells what is left, tells both lists
pub record Merges (all starts now : Bool) (made : List Turn) (left right : Bool) (ps qs p q : List Turn) (F : Rational → Bool) : Type 0 where
  pub truth : now ≡ joined all left right
  pub first : Rise ps
  pub second : Rise qs
  pub goes : (more : List Turn) → Tells all now left right ps qs more → Joins starts (made ++ more) p q F

module _ (all left right left' right' : Bool) (ps qs ps' qs' : List Turn) (at : Turn) where
  two : (a b a' b' : Bool) → a ≡ a' → b ≡ b' → joined all a b ≡ joined all a' b'
  two a b a' b' e f = ap (λ x. joined all x b) e ∙ ap (λ x. joined all a' x) f

  -- where the truth stays, nothing need be written
  tells_still : (now : Bool) → now ≡ joined all left right → now ≡ joined all left' right'
      → Steps at left left' ps ps' → Steps at right right' qs qs'
      → (more : List Turn) → Tells all now left' right' ps' qs' more → Tells all now left right ps qs more
  tells_still now was is p q more h = record {
    tells = λ t. elim (sides (place at) t) [
      | inl u ↦ h.tells t ∙ two _ _ _ _ (p.early t u).1 (q.early t u).1 ∙ sym is ∙ was ∙ sym (two _ _ _ _ (p.early t u).0 (q.early t u).0)
      | inr a ↦ h.tells t ∙ sym (two _ _ _ _ (p.late t a) (q.late t a))
    ];
    rise = h.rise;
    later = λ c j k. h.later c (p.still c j) (q.still c k);
    ends = λ c j k. h.ends c (p.ends c j) (q.ends c k);
  }

  -- where it turns, the place is
  tells_turn : (now : Bool) → now ≡ joined all left right → not now ≡ joined all left' right'
      → ((c : Place) → BeginAfter c ps → BeginAfter c qs → Before c (place at))
      → ((c : Place) → EndBefore c ps → EndBefore c qs → Before (place at) c)
      → Steps at left left' ps ps' → Steps at right right' qs qs'
      → (more : List Turn) → Tells all (not now) left' right' ps' qs' more → Tells all now left right ps qs (at ∷ more)
  tells_turn now was is next before p q more h = record {
    tells = λ t. elim (sides (place at) t) [
      | inl u ↦ turned_upto now at more t u ∙ was ∙ sym (two _ _ _ _ (p.early t u).0 (q.early t u).0)
      | inr a ↦ turned_after now at more t a ∙ h.tells t ∙ sym (two _ _ _ _ (p.late t a) (q.late t a))
    ];
    rise = (h.later (place at) p.later q.later, h.rise);
    later = next;
    ends = λ c j k. (before c j k, h.ends c (p.ends c j) (q.ends c k));
  }

-- a list that is led by a turn of its own has one
leads_inside : (at : Turn) (ps : List Turn) (i : ℕ) → Leads true at (drop i ps) → i < length ps
leads_inside at [] zero lead = absurd lead
leads_inside at [] (suc i) lead = absurd lead
leads_inside at (p ∷ ps) zero lead = omega arith
leads_inside at (p ∷ ps) (suc i) lead = let h = leads_inside at ps i lead in omega (arith, h)

-- the next place within a list, and what is left of it there
pub inside : (l : Bool) (at : Turn) (ps : List Turn) (i n : ℕ) → n ≡ bool_byte l → Leads l at (drop i ps) → i ≤ length ps → i + n ≤ length ps
inside true at ps i n e lead h = let k = leads_inside at ps i lead in omega (arith, e, k)
inside false at ps i n e lead h = omega (arith, e, h)

-- the list after as many turns more as the place takes
pub goes_on : (l : Bool) (at : Turn) (ps : List Turn) (i n : ℕ) → n ≡ bool_byte l → Leads l at (drop i ps) → Goes l (drop i ps) (drop (i + n) ps)
goes_on true at [] zero n e lead = absurd lead
goes_on true at [] (suc i) n e lead = absurd lead
goes_on true at (p ∷ ps) zero n e lead = let one : 0 + n ≡ 1 = omega (arith, e) in ap (λ k. drop k (p ∷ ps)) one
goes_on true at (p ∷ ps) (suc i) n e lead =
    let next : suc i + n ≡ suc (i + n) = omega arith in
    subst (λ k. Goes true (drop i ps) (drop k (p ∷ ps))) (sym next) (goes_on true at ps i n e lead)
goes_on false at ps i n e lead = let still : i + n ≡ i = omega (arith, e) in ap (λ k. drop k ps) still

apart : (a b : Bool) → not (beq a b) ≡ true → a ≡ not b
apart true true e = absurd (let x : false ≡ true = e in cc)
apart true false e = refl
apart false true e = refl
apart false false e = absurd (let x : false ≡ true = e in cc)

alike : (a b : Bool) → not (beq a b) ≡ false → a ≡ b
alike true true e = refl
alike true false e = absurd (let x : true ≡ false = e in cc)
alike false true e = absurd (let x : true ≡ false = e in cc)
alike false false e = refl

module _ (all starts now : Bool) (made : List Turn) (left right : Bool) (ps qs p q : List Turn) (F : Rational → Bool)
    (l r : Bool) (at : Turn) (ps' qs' : List Turn) (left' right' holds : Bool) where
  -- a step at the next place
  pub record IsStep : Type 0 where
    pub merges : Merges all starts now made left right ps qs p q F
    pub some : (l ≡ true) ⊎ (r ≡ true)
    pub lead : Leads l at ps
    pub lead' : Leads r at qs
    pub goes : Goes l ps ps'
    pub goes' : Goes r qs qs'
    pub is_left : left' ≡ flipped l left
    pub is_right : right' ≡ flipped r right
    pub is_holds : holds ≡ joined all left' right'

  left_steps : IsStep → Steps at left left' ps ps'
  left_steps s = subst (λ b. Steps at left b ps ps') (sym s.is_left) (steps l at left ps ps' s.lead s.goes s.merges.first)

  right_steps : IsStep → Steps at right right' qs qs'
  right_steps s = subst (λ b. Steps at right b qs qs') (sym s.is_right) (steps r at right qs qs' s.lead' s.goes' s.merges.second)

  -- where the truth changes the place is written
  pub merges_turn : (made' : List Turn) → made' ≡ made ++ at ∷ [] → IsStep → not (beq holds now) ≡ true
      → Merges all starts holds made' left' right' ps' qs' p q F
  merges_turn made' is s e = subst (λ xs. Merges all starts holds xs left' right' ps' qs' p q F) (sym is) (record {
    truth = s.is_holds;
    first = (left_steps s).rise;
    second = (right_steps s).rise;
    goes = λ more h.
        let told = s.merges.goes (at ∷ more) (tells_turn all left right left' right' ps qs ps' qs' at now s.merges.truth
        (sym (apart holds now e) ∙ s.is_holds) (λ c j k. before_next l r at ps qs c s.lead s.lead' s.some j k)
        (λ c j k. next_before l r at ps qs c s.lead s.lead' s.some j k) (left_steps s) (right_steps s) more
        (subst (λ b. Tells all b left' right' ps' qs' more) (apart holds now e) h)) in
        subst (λ xs. Joins starts xs p q F) (sym (append_assoc made (at ∷ []) more)) told;
  })

  -- where it stays nothing is
  pub merges_still : IsStep → not (beq holds now) ≡ false → Merges all starts holds made left' right' ps' qs' p q F
  merges_still s e = record {
    truth = s.is_holds;
    first = (left_steps s).rise;
    second = (right_steps s).rise;
    goes = λ more h. s.merges.goes more (tells_still all left right left' right' ps qs ps' qs' at now s.merges.truth
        (sym (alike holds now e) ∙ s.is_holds) (left_steps s) (right_steps s) more
        (subst (λ b. Tells all b left' right' ps' qs' more) (alike holds now e) h));
  }

-- where nothing is left, what was written tells both lists
pub merges_end : (all starts now : Bool) (made : List Turn) (left right : Bool) (ps qs p q : List Turn) (F : Rational → Bool)
    → Merges all starts now made left right ps qs p q F → ps ≡ [] → qs ≡ [] → Joins starts made p q F
merges_end all starts now made left right ps qs p q F m e f = subst (λ xs. Joins starts xs p q F) (append_empty made)
    (m.goes [] (subst (λ xs. Tells all now left right xs qs []) (sym e) (subst (λ xs. Tells all now left right [] xs []) (sym f) (record {
      tells = λ t. m.truth;
      rise = tt;
      later = λ c h k. tt;
      ends = λ c h k. tt;
    }))))
  where
    append_empty : (xs : List Turn) → xs ++ [] ≡ xs
    append_empty [] = refl
    append_empty (x ∷ xs) = ap (λ ys. x ∷ ys) (append_empty xs)
