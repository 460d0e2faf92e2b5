-- Up to where an input was read, once it is answered further.
use Rattle.std.proofs.Common.{◌≡◌, ◌⊎◌, inl, inr, sym, subst, ℕ, Some, None, List, [], ◌∷◌, ◌++◌, ℤ, pos, ◌≤ℤ◌, ◌<ℤ◌, arith}
use Rattle.std.specs.Prelude.{slice_get}
use Rattle.std.proofs.lemmas.Int.{ints}
use Rattle.rational.specs.Rational.{Rational, ◌<ʳ◌, whole}
use Rattle.rational.proofs.Order.{le_trans, le_of_lt, lt_of_le_of_lt, lt_of_lt_of_le}
use Rattle.rational.proofs.Shift.{le_whole, lt_whole}
use Rattle.frac128.specs.Spans.{interval}
use Rattle.stl_syntax.specs.declared.items.Verdict.{Verdict}
use Rattle.rational.specs.Places.{Place, begins, ends, Upto, AtMost, Before, Same}
use Rattle.online_nodes.specs.Laws.{AreTiles, answered_to}
use Rattle.online_nodes.specs.Operators.{place_of, first_place}
use Rattle.rational.proofs.PlaceLemmas.{same_places, upto_same, after_same, same_before}
use Rattle.online_nodes.proofs.ToldSoFar.{same_itself}
use Rattle.online_nodes.proofs.KnowingOn.{ReadsOn}

-- just after a number
abbrev pub after_number : ℤ → Place
after_number f = place_of (Some f)

-- a greater number lies no earlier
pub later_place : (f g : ℤ) → f ≤ℤ g → AtMost (after_number f) (after_number g)
later_place f g l t u = le_trans u (le_whole l)

-- an input's verdicts that were not read, and those more that it gave out, in a trace that begins at `start`
pub record PlacesOn (start : ℕ) (f f' : ℤ) (fresh more : List Verdict) : Type 0 where
  -- what was read goes on
  pub reads : ReadsOn (whole (pos start)) (first_place fresh (after_number f)) (after_number f) (first_place (fresh ++ more) (after_number f'))
      (after_number f')
  -- the first place stays
  pub same : pos start ≤ℤ f → Same (first_place fresh (after_number f)) (first_place (fresh ++ more) (after_number f'))
  -- and so does the first verdict, or it ends behind the old number
  pub first : pos start ≤ℤ f → (v : Verdict) → slice_get (fresh ++ more) 0 ≡ Some v
      → (slice_get fresh 0 ≡ Some v) ⊎ Before (after_number f) (ends (interval v.on))

-- where the input was shown before
shown_places : (start : ℕ) (f f' : ℤ) (fresh more : List Verdict) → f ≤ℤ f' → AtMost (first_place fresh (after_number f)) (after_number f)
    → AreTiles (answered_to start (Some f)) more (answered_to start (Some f')) → PlacesOn start f f' fresh more
shown_places start f f' fresh more l within tiles = record {
  reads = record {
    later = later_place f f' l;
    within = within;
    within_new = λ t u. later_place f f' l t (within t (upto_same read' read t (same_places same) u));
    back = λ t u. inl (upto_same read' read t (same_places same) u);
    forth = λ t b a. after_same read read' t same a;
  };
  same = λ s. same;
  first = λ s v e. by_first fresh v e;
}
  where
    read : Place
    read = first_place fresh (after_number f)

    read' : Place
    read' = first_place (fresh ++ more) (after_number f')

    by_more : (more : List Verdict) → AreTiles (answered_to start (Some f)) more (answered_to start (Some f'))
        → Same (after_number f) (first_place more (after_number f'))
    by_more [] t = t
    by_more (w ∷ more) t = t.0

    by_fresh : (fresh : List Verdict) → Same (first_place fresh (after_number f)) (first_place (fresh ++ more) (after_number f'))
    by_fresh [] = by_more more tiles
    by_fresh (v ∷ fresh) = same_itself (begins (interval v.on))

    same : Same read read'
    same = by_fresh fresh

    first_more : (more : List Verdict) (v : Verdict) → AreTiles (answered_to start (Some f)) more (answered_to start (Some f'))
        → slice_get more 0 ≡ Some v → Before (after_number f) (ends (interval v.on))
    first_more [] v t e = absurd (let x : None ≡ Some v = e in cc)
    first_more (w ∷ more) v t e =
        let x : w ≡ v = some_verdict w v e in
        subst (λ v. Before (after_number f) (ends (interval v.on))) x
        (same_before (after_number f) (begins (interval w.on)) (ends (interval w.on)) t.0 t.1)
      where
        some_verdict : (a b : Verdict) → Some a ≡ Some b → a ≡ b
        some_verdict a b x = cc

    by_first : (fresh : List Verdict) (v : Verdict) → slice_get (fresh ++ more) 0 ≡ Some v
        → (slice_get fresh 0 ≡ Some v) ⊎ Before (after_number f) (ends (interval v.on))
    by_first [] v e = inr (first_more more v tiles e)
    by_first (w ∷ fresh) v e = inl e

-- where it is shown for the first time
first_places : (start : ℕ) (f f' : ℤ) (more : List Verdict) → f ≤ℤ f' → f <ℤ pos start → pos start ≤ℤ f'
    → AreTiles (answered_to start None) more (answered_to start (Some f')) → PlacesOn start f f' [] more
first_places start f f' more l low high tiles = record {
  reads = record {
    later = later_place f f' l;
    within = λ t u. u;
    within_new = λ t u. le_trans (le_of_lt (under t u)) (le_whole high);
    back = λ t u. inr (under t u);
    forth = λ t b a. after_same (answered_to start None) read' t begin b;
  };
  same = λ s. absurd (let h = low in omega (arith, ints));
  first = λ s v e. absurd (let h = low in omega (arith, ints));
}
  where
    read' : Place
    read' = first_place more (after_number f')

    by_more : (more : List Verdict) → AreTiles (answered_to start None) more (answered_to start (Some f'))
        → Same (answered_to start None) (first_place more (after_number f'))
    by_more [] t = t
    by_more (w ∷ more) t = t.0

    begin : Same (answered_to start None) read'
    begin = by_more more tiles

    under : (t : Rational) → Upto read' t → t <ʳ whole (pos start)
    under t u = upto_same read' (answered_to start None) t (same_places begin) u

-- where it is not shown yet
low_places : (start : ℕ) (f f' : ℤ) → f ≤ℤ f' → f' <ℤ pos start → PlacesOn start f f' [] []
low_places start f f' l low = record {
  reads = record {
    later = later_place f f' l;
    within = λ t u. u;
    within_new = λ t u. u;
    back = λ t u. inr (lt_of_le_of_lt u (lt_whole low));
    forth = λ t b a. lt_of_lt_of_le (lt_whole low) b;
  };
  same = λ s. absurd (let h = low in let k = l in omega (arith, ints));
  first = λ s v e. absurd (let h = low in let k = l in omega (arith, ints));
}

-- as a node goes on: what it gave out leads from where it was shown to where it is
abbrev pub Leads : ℕ → ℤ → ℤ → List Verdict → List Verdict → Type 0
Leads start f f' fresh more =
    ((pos start ≤ℤ f) × AreTiles (answered_to start (Some f)) more (answered_to start (Some f')))
    ⊎ ((f <ℤ pos start) × (fresh ≡ []) × (((pos start ≤ℤ f') × AreTiles (answered_to start None) more (answered_to start (Some f')))
    ⊎ ((f' <ℤ pos start) × (more ≡ []))))

-- once an input is answered further, what was read of it stays as it was
pub places_on : (start : ℕ) (f f' : ℤ) (fresh more : List Verdict) → f ≤ℤ f' → AtMost (first_place fresh (after_number f)) (after_number f)
    → Leads start f f' fresh more → PlacesOn start f f' fresh more
places_on start f f' fresh more l within (inl (s, tiles)) = shown_places start f f' fresh more l within tiles
places_on start f f' fresh more l within (inr (low, none, inl (high, tiles))) =
    subst (λ x. PlacesOn start f f' x more) (sym none) (first_places start f f' more l low high tiles)
places_on start f f' fresh more l within (inr (low, none, inr (under, nothing))) =
    subst (λ x. PlacesOn start f f' x more) (sym none) (subst (λ x. PlacesOn start f f' [] x) (sym nothing) (low_places start f f' l under))
