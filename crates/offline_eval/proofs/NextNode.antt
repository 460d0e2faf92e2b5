-- One node more in the loop over a formula.
use Rattle.std.proofs.Common.{◌≡◌, ℕ, ℤ, pos, neg_ℤ, ◌≤ℤ◌, ◌<ℤ◌, true, zero, suc, ◌+◌, ◌-◌, ◌<◌, ◌≤◌, ◌^◌, ◌⊎◌, inl, inr}
use Rattle.std.proofs.Common.{cond, List, [], ◌∷◌, ◌++◌, length, take, drop, get_or, Some, ap, sym, ◌∙◌, subst, arith}
use Rattle.std.specs.Prelude.{slice_get, sum_by, All}
use Rattle.std.proofs.lemmas.Int.{ints}
use Rattle.std.proofs.lemmas.Option.{slice_get_within, get_or_from_slice_get, slice_get-get_or}
use Rattle.std.proofs.lemmas.List.{length-drop, length-append, take-take}
use Rattle.std.proofs.lemmas.List.Sums.{sum_by-take-le}
use Rattle.rational.proofs.Lists.{slice_get-push_cases, slice_get_there}
use Rattle.value_laws.specs.Members.{ShapeOf}
use Rattle.pl_signal.specs.declared.faults.WidePair.TheVariants.{Cross, Value}
use Rattle.pl_signal.specs.declared.faults.OpFault.{OpFault}
use Rattle.pl_signal.specs.declared.faults.OpFault.TheVariants as F
use Rattle.stl_syntax.specs.Formula.{subformula}
use Rattle.stl_syntax.specs.Limits.{own_reach, reach}
use Rattle.stl_syntax.specs.SupInf.{Setting}
use Rattle.stl_syntax.specs.declared.atom.Atom.{Atom}
use Rattle.stl_syntax.specs.declared.node.Node.{Node}
use Rattle.stl_syntax.specs.declared.node.Node.TheVariants.{Const, Atom as Leaf}
use Rattle.offline_eval.specs.Forms.{Form}
use Rattle.offline_eval.specs.Inputs.{is_atom, atoms_before, IsInput}
use Rattle.offline_eval.specs.Evaluation.{TellNodes, IsFault}
use Rattle.offline_eval.specs.Making.{IsSound, AreSound, TellAt, TellsValue, IsFaultOf, fault_at}
use Rattle.offline_eval.specs.Places.{reach_before}
use Rattle.offline_eval.proofs.Sound.{sound_more}
use Rattle.offline_eval.proofs.Places.{atoms_on_atom, sum_on}

-- one more in a list that was pushed to
pub pushed_count : {X : Type 0} (xs ys : List X) (y : X) (n : ℕ) → length xs ≡ n → ys ≡ xs ++ y ∷ [] → length ys ≡ n + 1
pushed_count xs ys y n e h = ap length h ∙ length-append xs (y ∷ []) ∙ ap (λ m. m + 1) e

dropped_at : {X : Type 0} (m : ℕ) (all : List X) (k : ℕ) (x : X) → slice_get (drop m all) k ≡ Some x → slice_get all (m + k) ≡ Some x
dropped_at zero all k x h = subst (λ n. slice_get all n ≡ Some x) (plain k) h
  where
    plain : (k : ℕ) → k ≡ zero + k
    plain k = omega arith
dropped_at (suc m) [] k x h = absurd cc
dropped_at (suc m) (y ∷ all) k x h = subst (λ n. slice_get (y ∷ all) n ≡ Some x) (next m k) (dropped_at m all k x h)
  where
    next : (m k : ℕ) → suc (m + k) ≡ suc m + k
    next m k = omega arith

-- a signal is left for an atom among the first nodes
pub some_left : {X : Type 0} (nodes : List Node) (all rest : List X) (i n : ℕ) (a : Atom) → i < n → length all ≡ atoms_before nodes n
    → rest ≡ drop (atoms_before nodes i) all → slice_get nodes i ≡ Some (Leaf a) → 0 < length rest
some_left nodes all rest i n a inside count left at =
    let f : Node → ℕ = λ m. cond (is_atom m) 1 0 in
    let within : atoms_before nodes (i + 1) ≤ atoms_before nodes n =
    subst (λ xs. sum_by f xs ≤ sum_by f (take n nodes)) (take-take (i + 1) n nodes (omega (arith, inside))) (sum_by-take-le f (take n nodes) (i + 1)) in
    let more = atoms_on_atom nodes i a at in
    let long : length rest ≡ length all - atoms_before nodes i = ap length left ∙ length-drop (atoms_before nodes i) all in
    by_numbers (length rest) (length all) (atoms_before nodes i) (atoms_before nodes (i + 1)) (atoms_before nodes n) count within more long
  where
    by_numbers : (r n k m t : ℕ) → n ≡ t → m ≤ t → m ≡ k + 1 → r ≡ n - k → 0 < r
    by_numbers r n k m t e h f g = omega (arith, e, h, f, g)

-- the bounds before a node sum to no more than all
pub reach_within : (nodes : List Node) (i : ℕ) → reach nodes ≤ 4294967295 → reach_before nodes i ≤ 4294967295
reach_within nodes i h = omega (arith, h, sum_by-take-le own_reach nodes i)

module _ {X P : Type 0} (form : Form X P) (from to : ℕ) where
  -- a signal of an atom is sound
  pub input_sound : (x : X) → IsInput form from to x → IsSound form from to 0 x
  input_sound x h = record { begins = h.begins; ends = h.ends; limited = h.limited; bases = λ p i. reached (form.shape.base p) (h.bases p i) }
    where
      reached : (b : ℤ) → (pos 0 ≤ℤ b) × (b <ℤ pos (2 ^ 32)) → (neg_ℤ (pos 0) ≤ℤ b) × (b <ℤ pos (2 ^ 32 + 0))
      reached b (low, high) = (omega (arith, ints, low), omega (arith, ints, high))

  -- so are those that are left
  pub left_sound : (all rest : List X) (m : ℕ) → All (IsInput form from to) all → rest ≡ drop m all → AreSound form from to 0 rest
  left_sound all rest m inputs left k x at =
      let there = dropped_at m all k x (subst (λ r. slice_get r k ≡ Some x) left at) in
      input_sound x (subst (IsInput form from to) (get_or_from_slice_get all (m + k) x x there) (inputs (m + k) x (slice_get_within all (m + k) x there)))

  -- sound for a reach is sound for a longer one
  pub all_more : (less more : ℕ) (xs : List X) → less ≤ more → AreSound form from to less xs → AreSound form from to more xs
  all_more less more xs h all k x at = sound_more form from to less more x h (all k x at)

  -- and so with one signal more
  pub all_pushed : (nodes : List Node) (i : ℕ) (xs ys : List X) (y : X) → i < length nodes → ys ≡ xs ++ y ∷ []
      → AreSound form from to (reach_before nodes i) xs
      → IsSound form from to (reach_before nodes (i + 1)) y → AreSound form from to (reach_before nodes (i + 1)) ys
  all_pushed nodes i xs ys y inside e all new k x there = by_place (slice_get-push_cases xs y k x (subst (λ l. slice_get l k ≡ Some x) e there))
    where
      grows : reach_before nodes i ≤ reach_before nodes (i + 1)
      grows = omega (arith, sum_on own_reach nodes i (get_or nodes i (Const true)) (slice_get-get_or nodes i (Const true) inside))

      by_place : (slice_get xs k ≡ Some x) ⊎ ((k ≡ length xs) × (x ≡ y)) → IsSound form from to (reach_before nodes (i + 1)) x
      by_place (inl h) = all_more (reach_before nodes i) (reach_before nodes (i + 1)) xs grows all k x h
      by_place (inr h) = subst (IsSound form from to (reach_before nodes (i + 1))) (sym h.1) new

module _ {X P : Type 0} (form : Form X P) where
  -- the node's signal tells it among all
  pub told_pushed : {ys : List X} (nodes : List Node) (s : Setting) (i : ℕ) (xs : List X)
      (y : X) → length xs ≡ i → ys ≡ xs ++ y ∷ []
      → TellAt form s (subformula nodes) xs → TellsValue form s (subformula nodes i) y
      → TellAt form s (subformula nodes) ys
  told_pushed nodes s i xs y count e all new k x there = by_place (slice_get-push_cases xs y k x (subst (λ l. slice_get l k ≡ Some x) e there))
    where
      by_place : (slice_get xs k ≡ Some x) ⊎ ((k ≡ length xs) × (x ≡ y)) → TellsValue form s (subformula nodes k) x
      by_place (inl h) = all k x h
      by_place (inr h) = subst (TellsValue form s (subformula nodes k)) (sym h.1)
          (subst (λ j. TellsValue form s (subformula nodes j) y) (sym (h.0 ∙ count)) new)

  -- all are told in the end
  pub all_told : (nodes : List Node) (s : Setting) (xs : List X) → length xs ≡ length nodes → TellAt form s (subformula nodes) xs
      → TellNodes form nodes xs s
  all_told nodes s xs count all i inside = let o = slice_get_there xs i (omega (arith, count, inside)) in (o.0, o.1, all i o.0 o.1)

module _ {P : Type 0} (shape : ShapeOf P) where
  -- a fault of the node is one of the formula
  pub fault_is : (nodes : List Node) (s : Setting) (i : ℕ) (e : OpFault P) → i < length nodes → IsFaultOf shape s (subformula nodes i) e
      → IsFault shape nodes s (fault_at i e)
  fault_is nodes s i F.Memory inside h = tt
  fault_is nodes s i (F.Wide (Cross p q a b den)) inside h = (inside, h)
  fault_is nodes s i (F.Wide (Value p at den)) inside h = (inside, h)
