-- A list of sets that is split at a place, and what is put there.
use Rattle.std.proofs.Common.{◌≡◌, ◌≢◌, inl, inr, refl, sym, ap, subst, ◌∙◌, ℕ, zero, suc, ◌<◌, Some, List}
use Rattle.std.proofs.Common.{[], ◌∷◌, ◌++◌, length, take, drop, arith}
use Rattle.std.specs.Prelude.{slice_get, slice_set, slice_index_or}
use Rattle.std.proofs.lemmas.Bool.{cases_eq}
use Rattle.std.proofs.lemmas.Option.{same_Some}
use Rattle.early_verdict.specs.Changing.{ChangesAt}
use Rattle.early_verdict.specs.Standing.{AllTidy}
use Rattle.early_verdict.specs.declared.sets.Sets.{Sets}
use Rattle.early_verdict.proofs.Places.{put, put_here, put_there, put_count, put_joined, taken_at, taken_within}

-- the first of those from a place on stands there
pub at_drop : (sets : List Sets) (i : ℕ) (d : Sets) → i < length sets → slice_get sets i ≡ Some (slice_index_or (drop i sets) 0 d)
at_drop [] i d h = absurd (omega (arith, h))
at_drop (x ∷ xs) zero d h = refl
at_drop (x ∷ xs) (suc i) d h = at_drop xs i d (omega (arith, h))

-- the first of the back is at the place
pub at_split : (sets back : List Sets) (i : ℕ) (d : Sets) → back ≡ drop i sets → i < length sets → slice_get sets i ≡ Some (slice_index_or back 0 d)
at_split sets back i d e h = subst (λ xs. slice_get sets i ≡ Some (slice_index_or xs 0 d)) (sym e) (at_drop sets i d h)

-- the front of tidy sets is tidy
pub front_tidy : (sets front : List Sets) (i : ℕ) → front ≡ take i sets → AllTidy sets → AllTidy front
front_tidy sets front i e h j s is =
    let f = subst (λ xs. slice_get xs j ≡ Some s) e is in
    h j s (sym (taken_at sets i j (taken_within sets i j s f)) ∙ f)

-- what is put first in the back is put at the place
pub joined_is : (sets front back : List Sets) (i : ℕ) (own : Sets) → front ≡ take i sets → back ≡ drop i sets → i < length sets
    → front ++ slice_set back 0 own ≡ put sets i own
joined_is sets front back i own e f h =
    ap (λ xs. xs ++ slice_set back 0 own) e ∙ ap (λ xs. take i sets ++ slice_set xs 0 own) f ∙ put_joined sets i own h

-- a list of sets that is split before a place: those in front of it, and those from it on
pub record IsSplit (sets : List Sets) (i : ℕ) (front back : List Sets) : Type 0 where
  -- those in front are the first of the list
  pub front_is : front ≡ take i sets
  -- and those from the place on the others
  pub back_is : back ≡ drop i sets
  -- there is one at the place
  pub within : i < length sets

module _ {sets front back : List Sets} {i : ℕ} (p : IsSplit sets i front back) where
  -- the first of the back stands at the place
  pub old_there : (d : Sets) → slice_get sets i ≡ Some (slice_index_or back 0 d)
  old_there d = at_split sets back i d p.back_is p.within

  joined : (own : Sets) → front ++ slice_set back 0 own ≡ put sets i own
  joined own = joined_is sets front back i own p.front_is p.back_is p.within

  -- what is put there stands there once both parts are joined
  pub new_there : (own : Sets) → slice_get (front ++ slice_set back 0 own) i ≡ Some own
  new_there own = subst (λ xs. slice_get xs i ≡ Some own) (sym (joined own)) (put_here sets i own p.within)

  -- the other places have what they had
  pub others_there : (own : Sets) (j : ℕ) → j ≢ i → slice_get (front ++ slice_set back 0 own) j ≡ slice_get sets j
  others_there own j n = subst (λ xs. slice_get xs j ≡ slice_get sets j) (sym (joined own)) (put_there sets i j own n)

  -- and there are as many
  pub count_there : (own : Sets) → length (front ++ slice_set back 0 own) ≡ length sets
  count_there own = subst (λ xs. length xs ≡ length sets) (sym (joined own)) (put_count sets i own)

-- what is put there is what changes of the list
abbrev pub changes_at : {sets front back : List Sets} {i : ℕ} {R : Sets → Sets → Type 0} (d own : Sets) → IsSplit sets i front back
    → R (slice_index_or back 0 d) own → ChangesAt i sets (front ++ slice_set back 0 own) R
changes_at {back = back} d own p by = record {
  was = slice_index_or back 0 d;
  is = own;
  at_old = old_there p d;
  at_new = new_there p own;
  others = others_there p own;
  count = count_there p own;
  by = by;
}

-- what changes so changes in another way that follows
abbrev pub changed_as : {i : ℕ} {old new : List Sets} {R S : Sets → Sets → Type 0} → ((s r : Sets) → slice_get new i ≡ Some r → R s r → S s r)
    → ChangesAt i old new R → ChangesAt i old new S
changed_as f c = record {
  was = c.was;
  is = c.is;
  at_old = c.at_old;
  at_new = c.at_new;
  others = c.others;
  count = c.count;
  by = f c.was c.is c.at_new c.by;
}

-- what is so of the sets there and of all that stood before is so of all that stand now
pub changed_each : {i : ℕ} {old new : List Sets} {R : Sets → Sets → Type 0} (P : ℕ → Sets → Type 0) (c : ChangesAt i old new R) → P i c.is
    → ((j : ℕ) (s : Sets) → slice_get old j ≡ Some s → P j s) → (j : ℕ) (s : Sets) → slice_get new j ≡ Some s → P j s
changed_each {i} {old} {new} P c here there j s e = elim (cases_eq j i) [
  | inl q ↦
      subst (λ k. P k s) (sym q) (subst (P i) (same_Some c.is s (sym c.at_new ∙ subst (λ k. slice_get new k ≡ Some s) q e)) here)
  | inr n ↦ there j s (sym (c.others j n) ∙ e)
]

-- the front has as many as the place says
pub length_front : (sets : List Sets) (i : ℕ) → i < length sets → length (take i sets) ≡ i
length_front [] i h = absurd (omega (arith, h))
length_front (x ∷ xs) zero h = refl
length_front (x ∷ xs) (suc i) h = ap suc (length_front xs i (omega (arith, h)))
