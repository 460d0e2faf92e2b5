-- Counting along the nodes of a formula, and the signal of an atom's place.
use Rattle.std.proofs.Common.{◌≡◌, ℕ, zero, suc, ◌+◌, false, cond, List, [], ◌∷◌, take, drop, Some, ap, sym}
use Rattle.std.proofs.Common.{◌∙◌, subst, refl, arith, add-zero, ◌<◌, ◌++◌, length, ◌⊎◌, inl, inr, true}
use Rattle.std.specs.Prelude.{slice_get, sum_by, Result, Ok, Err, OnOk}
use Rattle.std.proofs.lemmas.Option.{slice_get_within, get_or_from_slice_get, same_Some}
use Rattle.std.proofs.lemmas.List.Sums.{sum_by_more}
use Rattle.rational.proofs.Lists.{slice_get-append_left, slice_get-append_here}
use Rattle.value_laws.specs.Members.{ShapeOf}
use Rattle.pl_signal.specs.declared.knot.Knot.{Knot}
use Rattle.pl_signal.specs.Moves.{Tells}
use Rattle.stl_syntax.specs.Formula.{subformula, tree_of, atom}
use Rattle.stl_syntax.specs.SupInf.{Setting, Gives}
use Rattle.stl_syntax.specs.declared.atom.Atom.{Atom}
use Rattle.stl_syntax.specs.declared.node.Node.{Node}
use Rattle.stl_syntax.specs.declared.node.Node.TheVariants.{Atom as Leaf}
use Rattle.offline_eval.specs.Forms.{of_knots}
use Rattle.offline_eval.specs.Inputs.{is_atom, atoms_before, TellAtomsBelow}
use Rattle.offline_eval.specs.Making.{AreSound, IsSound, TellsValue}
use Rattle.offline_eval.specs.Places.{TakesOwn}

-- what holds anyway holds where an answer is Ok
pub on_ok : {A E : Type 0} (r : Result A E) {X : Type 0} → X → OnOk r X
on_ok (Ok a) x = x
on_ok (Err e) x = tt

-- a sum goes on by the next node
pub sum_on : (f : Node → ℕ) (nodes : List Node) (i : ℕ) (n : Node) → slice_get nodes i ≡ Some n → sum_by f (take (i + 1) nodes) ≡ sum_by f (take i nodes) + f n
sum_on f nodes i n at = sum_by_more f nodes i n (slice_get_within nodes i n at) ∙ ap (λ m. sum_by f (take i nodes) + f m) (get_or_from_slice_get nodes i n n at)

-- one atom more after an atom
pub atoms_on_atom : (nodes : List Node) (i : ℕ) (a : Atom) → slice_get nodes i ≡ Some (Leaf a) → atoms_before nodes (i + 1) ≡ atoms_before nodes i + 1
atoms_on_atom nodes i a at = sum_on (λ n. cond (is_atom n) 1 0) nodes i (Leaf a) at

-- and as many as before after another node
pub atoms_on_other : (nodes : List Node) (i : ℕ) (n : Node) → slice_get nodes i ≡ Some n → is_atom n ≡ false → atoms_before nodes (i + 1) ≡ atoms_before nodes i
atoms_on_other nodes i n at other = sum_on (λ n. cond (is_atom n) 1 0) nodes i n at ∙ ap (λ b. atoms_before nodes i + cond b 1 0) other ∙ add-zero
    (atoms_before nodes i)

-- what is no leaf is no atom
pub not_atom : (n : Node) → ((a : Atom) → n ≡ Leaf a → ⊥) → is_atom n ≡ false
not_atom (Leaf a) other = absurd (other a refl)
not_atom _ other = refl

-- what stands first behind the first k stands at place k
pub drop_at : {X : Type 0} (all : List X) (k : ℕ) (x : X) (rest : List X) → x ∷ rest ≡ drop k all → (slice_get all k ≡ Some x) × (rest ≡ drop (k + 1) all)
drop_at [] zero x rest e = absurd cc
drop_at [] (suc k) x rest e = absurd cc
drop_at (y ∷ all) zero x rest e = (let same : x ≡ y = cc in ap (λ z. Some z) (sym same), cc)
drop_at (y ∷ all) (suc k) x rest e =
    let on = drop_at all k x rest e in
    let next : suc (k + 1) ≡ suc k + 1 = omega arith in
    (on.0, on.1 ∙ ap (λ n. drop n (y ∷ all)) next)

same_leaf : {a b : Atom} → Some (Leaf a) ≡ Some (Leaf b) → a ≡ b
same_leaf e = cc

before_or_here : (i j : ℕ) → j < i + 1 → (j < i) ⊎ (j ≡ i)
before_or_here i j h = grind (arith, h)

module _ {P : Type 0} where
  -- an atom takes the next signal
  pub atom_takes : (nodes : List Node) (i : ℕ) (a : Atom) (x : List (Knot P)) (old new : List (List (Knot P))) → slice_get nodes i ≡ Some (Leaf a)
      → old ≡ x ∷ new → TakesOwn nodes i old new
  atom_takes nodes i a x old new at e all left = (drop_at all (atoms_before nodes i) x new (sym e ∙ left)).1 ∙ ap (λ n. drop n all)
      (sym (atoms_on_atom nodes i a at))

  -- another node takes none
  pub other_takes : (nodes : List Node) (i : ℕ) (n : Node) (old : List (List (Knot P))) → slice_get nodes i ≡ Some n → is_atom n ≡ false
      → TakesOwn nodes i old old
  other_takes nodes i n old at other all left = left ∙ ap (λ n. drop n all) (sym (atoms_on_other nodes i n at other))

module _ {P : Type 0} (shape : ShapeOf P) where
  -- a sound signal stands first
  pub first_sound : (from to : ℕ) (x : List (Knot P)) (old new : List (List (Knot P))) → old ≡ x ∷ new → AreSound (of_knots shape) from to 0 old
      → IsSound (of_knots shape) from to 0 x
  first_sound from to x old new e sound = sound 0 x (subst (λ o. slice_get o 0 ≡ Some x) (sym e) refl)

  -- the signal that an atom takes tells the atom
  pub atom_told : {x : List (Knot P)} {new : List (List (Knot P))} (nodes : List Node) (i : ℕ) (a : Atom) (old all : List (List (Knot P))) (s : Setting)
      → slice_get nodes i ≡ Some (Leaf a) → subformula nodes i ≡ tree_of (subformula nodes) i (Leaf a)
      → old ≡ x ∷ new → old ≡ drop (atoms_before nodes i) all → TellAtomsBelow shape (i + 1) nodes all s
      → TellsValue (of_knots shape) s (subformula nodes i) x
  atom_told {x} {new} nodes i a old all s at tree e left told =
      let o = told i a (omega arith) at in
      let here = (drop_at all (atoms_before nodes i) x new (sym e ∙ left)).0 in
      let same : o.0 ≡ x = same_Some _ _ (sym o.1 ∙ here) in
      subst (λ f. TellsValue (of_knots shape) s f x) (sym tree) (subst (TellsValue (of_knots shape) s (atom i a)) same o.2)

  -- before the first node nothing is told
  pub told_none : (nodes : List Node) (s : Setting) → TellAtomsBelow shape 0 nodes [] s
  told_none nodes s i a h at = absurd (omega (arith, h))

  -- after an atom one more is
  pub told_atom : {a : Atom} {x : List (Knot P)} (nodes : List Node) (s : Setting) (i : ℕ) (xs : List (List (Knot P)))
      → slice_get nodes i ≡ Some (Leaf a) → length xs ≡ atoms_before nodes i → TellAtomsBelow shape i nodes xs s
      → Tells shape (Gives s.atoms i a) s.from s.to x → TellAtomsBelow shape (i + 1) nodes (xs ++ x ∷ []) s
  told_atom {a} {x} nodes s i xs at count told tells j b h at_j = by_place (before_or_here i j h)
    where
      by_place : (j < i) ⊎ (j ≡ i) → (y : List (Knot P)) × (slice_get (xs ++ x ∷ []) (atoms_before nodes j) ≡ Some y)
          × Tells shape (Gives s.atoms j b) s.from s.to y
      by_place (inl k) = let o = told j b k at_j in (o.0, slice_get-append_left xs (x ∷ []) (atoms_before nodes j) o.0 o.1, o.2)
      by_place (inr k) =
          let same : b ≡ a = same_leaf (sym at_j ∙ ap (slice_get nodes) k ∙ at) in (
            x,
            ap (slice_get (xs ++ x ∷ [])) (ap (atoms_before nodes) k ∙ sym count) ∙ slice_get-append_here xs x [],
            subst (λ m. Tells shape (Gives s.atoms m b) s.from s.to x)
                (sym k) (subst (λ c. Tells shape (Gives s.atoms i c) s.from s.to x) (sym same) tells),
          )

  -- and after another node as much as before
  pub told_other : (nodes : List Node) (s : Setting) (i : ℕ) (n : Node) (xs : List (List (Knot P))) → slice_get nodes i ≡ Some n → is_atom n ≡ false
      → TellAtomsBelow shape i nodes xs s → TellAtomsBelow shape (i + 1) nodes xs s
  told_other nodes s i n xs at other told j b h at_j = by_place (before_or_here i j h)
    where
      by_place : (j < i) ⊎ (j ≡ i) → (y : List (Knot P)) × (slice_get xs (atoms_before nodes j) ≡ Some y) × Tells shape (Gives s.atoms j b) s.from s.to y
      by_place (inl k) = told j b k at_j
      by_place (inr k) = absurd (clash (ap is_atom (same_Some _ _ (sym at_j ∙ ap (slice_get nodes) k ∙ at)) ∙ other))
        where
          clash : true ≡ false → ⊥
          clash e = cc
