-- The signals of atoms tell the atoms in the setting in which each atom is read by the plain list of knots of its own signal.
use Rattle.std.proofs.Common.{◌≡◌, ℕ, zero, suc, ◌+◌, List, [], ◌∷◌, length, drop, take, map, cond, Some, refl, sym, ap, ◌∙◌, subst, arith, length-drop}
use Rattle.std.specs.Prelude.{slice_get, All, pos}
use Rattle.std.proofs.lemmas.List.Sums.{sum_by-cons}
use Rattle.std.proofs.lemmas.Option.{slice_get_within, get_or_from_slice_get, same_Some}
use Rattle.rational.specs.Time.{Rational, whole}
use Rattle.rational.specs.Extended.{Extended}
use Rattle.rational.proofs.Order.{le_trans, le_of_same, ge_of_same}
use Rattle.rational.proofs.Lists.{slice_get_there}
use Rattle.value_laws.specs.Members.{ShapeOf}
use Rattle.pl_signal.specs.declared.knot.Knot.{Knot}
use Rattle.pl_signal.specs.Knots.{IsSignal}
use Rattle.pl_signal.specs.Moves.{Tells}
use Rattle.pl_signal.specs.Plain.{knots_of}
use Rattle.pl_signal.proofs.Values.{worth_within}
use Rattle.pl_signal.proofs.PlainLemmas.{reads_is_worth}
use Rattle.stl_syntax.specs.Knots.{Knots, Reads}
use Rattle.stl_syntax.specs.SupInf.{Gives, placed, signals}
use Rattle.stl_syntax.specs.declared.atom.Atom.{Atom}
use Rattle.stl_syntax.specs.declared.node.Node.{Node}
use Rattle.stl_syntax.specs.declared.node.Node.TheVariants.{Atom as Leaf}
use Rattle.offline_eval.specs.Forms.{of_knots}
use Rattle.offline_eval.specs.Inputs.{atoms_before, is_atom, IsInput, TellAtoms}
use Rattle.offline_eval.specs.PlainAtoms.{knots_setting}
use Rattle.offline_eval.proofs.NextNode.{some_left}

-- a list of an atom stands at the atom's place
placed_at : (nodes : List Node) (ks : List Knots) (i : ℕ) (a : Atom) (k : Knots) → slice_get nodes i ≡ Some (Leaf a)
    → slice_get ks (atoms_before nodes i) ≡ Some k
    → slice_get (placed nodes ks) i ≡ Some (Some k)
placed_at [] ks i a k at h = absurd (let e = at in cc)
placed_at (Leaf b ∷ nodes) [] i a k at h = absurd (let e = h in cc)
placed_at (Leaf b ∷ nodes) (l ∷ ks) zero a k at h = ap (λ x. Some x) h
placed_at (Leaf b ∷ nodes) (l ∷ ks) (suc i) a k at h =
    let e : atoms_before (Leaf b ∷ nodes) (suc i) ≡ 1 + atoms_before nodes i = sum_by-cons (λ (n : Node). cond (is_atom n) 1 0) (Leaf b) (take i nodes) in
    let one : atoms_before (Leaf b ∷ nodes) (suc i) ≡ suc (atoms_before nodes i) = omega (arith, e) in
    placed_at nodes ks i a k at (subst (λ n. slice_get (l ∷ ks) n ≡ Some k) one h)
placed_at (n ∷ nodes) ks zero a k at h = absurd (let e = at in cc)
placed_at (n ∷ nodes) ks (suc i) a k at h = placed_at nodes ks i a k at h

-- an element of a mapped list
pub got_mapped : {A B : Type 0} (f : A → B) (xs : List A) (i : ℕ) (x : A) → slice_get xs i ≡ Some x → slice_get (map f xs) i ≡ Some (f x)
got_mapped f [] i x h = absurd (let e = h in cc)
got_mapped f (y ∷ xs) zero x h = ap (λ z. Some (f z)) (same_Some _ _ h)
got_mapped f (y ∷ xs) (suc i) x h = got_mapped f xs i x h

module _ {P : Type 0} (shape : ShapeOf P) (nodes : List Node) (from to : ℕ) (atoms : List (List (Knot P)))
    (count : length atoms ≡ atoms_before nodes (length nodes))
    (sound : All (IsSignal shape) atoms) (inputs : All (IsInput (of_knots shape) from to) atoms) where
  -- the signal of an atom
  its_signal : (i : ℕ) (a : Atom) → slice_get nodes i ≡ Some (Leaf a) → (x : List (Knot P)) × (slice_get atoms (atoms_before nodes i) ≡ Some x)
  its_signal i a at =
      let left = some_left nodes atoms (drop (atoms_before nodes i) atoms) i (length nodes) a (slice_get_within nodes i (Leaf a) at) count refl at in
      slice_get_there atoms (atoms_before nodes i) (omega (arith, left, length-drop (atoms_before nodes i) atoms))

  -- each atom's signal tells its own plain knots
  pub plain_told : TellAtoms shape nodes atoms (knots_setting shape nodes from to atoms)
  plain_told i a inside at =
      let (x, there) = its_signal i a at in
      let n = atoms_before nodes i in
      let is_signal = subst (IsSignal shape) (get_or_from_slice_get atoms n x x there) (sound n x (slice_get_within atoms n x there)) in
      let input = subst (IsInput (of_knots shape) from to) (get_or_from_slice_get atoms n x x there) (inputs n x (slice_get_within atoms n x there)) in
      let place = placed_at nodes (map (knots_of shape) atoms) i a (knots_of shape x) at (got_mapped (knots_of shape) atoms n x there) in
      let given : (t : Rational) (v : Extended) → Reads (knots_of shape x) t v → Gives (signals (placed nodes (map (knots_of shape) atoms))) i a t v =
      λ t v h. (knots_of shape x, place, h) in
      let told : Tells shape (Gives (signals (placed nodes (map (knots_of shape) atoms))) i a) (whole (pos from)) (whole (pos to)) x = record {
        signal = is_signal;
        begins = input.begins;
        ends = input.ends;
        worth = λ t v. (
          λ w. (
            let in_domain = worth_within shape x t v is_signal w in
                record { above = le_trans (ge_of_same input.begins) in_domain.above; below = le_trans in_domain.below (le_of_same input.ends) },
            given t v ((reads_is_worth shape x t v is_signal).1 w),
          ),
          λ h.
              let (ks, at_place, reads) = h.1 in
              let same : ks ≡ knots_of shape x = same_Some _ _ (same_Some _ _ (sym at_place ∙ place)) in
              (reads_is_worth shape x t v is_signal).0 (subst (λ l. Reads l t v) same reads),
        );
      } in
      (x, there, told)
