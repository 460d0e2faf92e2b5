-- Which column a name stands for, and how terms and nodes are bound one after the other.
use Rattle.std.proofs.Common.{◌≡◌, ◌≢◌, ℕ, zero, suc, ◌+◌, ◌<◌, Bool, true, false, ◌||◌, ◌⊎◌, inl}
use Rattle.std.proofs.Common.{inr, List, [], ◌∷◌, ◌++◌, length, get_or, take, map, Option, Some}
use Rattle.std.proofs.Common.{None, IsTrue, refl, sym, ap, subst, ◌∙◌, arith, length-append}
use Rattle.std.specs.Prelude.{slice_get, bytes_eq, All}
use Rattle.std.proofs.lemmas.Bool.{false≢true}
use Rattle.std.proofs.lemmas.Slice.Eq.{bytes_eq-Decides}
use Rattle.std.proofs.lemmas.Option.{slice_get_within, slice_get-get_or, same_Some}
use Rattle.rational.proofs.Lists.{slice_get-append_front, slice_get-append_here}
use Rattle.stl_syntax.specs.Trace.{Column, Header}
use Rattle.stl_syntax.specs.Formula.{Formula}
use Rattle.stl_syntax.specs.Characters.{is_among}
use Rattle.stl_syntax.specs.Binding.{HasColumns}
use Rattle.stl_syntax.specs.declared.atom.Atom.{Atom}
use Rattle.stl_syntax.specs.declared.node.Node.{Node}
use Rattle.stl_syntax.specs.declared.node.Node.TheVariants.{Atom as Leaf}
use Rattle.stl_syntax.specs.declared.atom.Term.{Term}
use Rattle.atom_lines.specs.declared.bound_atom.BoundTerm.{BoundTerm}
use Rattle.atom_lines.specs.declared.bound_atom.BoundAtom.{BoundAtom}
use Rattle.atom_lines.specs.declared.binding.BindFault.{BindFault}
use Rattle.atom_lines.specs.declared.binding.BindFault.TheVariants.{UnknownColumn, Memory}
use Rattle.atom_lines.specs.Binding.{IsColumn, IsTermBinding, AreTermBindings, IsAtomBinding, IsBound}
use Rattle.atom_lines.specs.Faults.{LacksColumn, IsFaultAt, IsBindFault, IsNodeBinding, AreNodeBindings}

neither : (a b : Bool) → (a ≡ true → ⊥) → (b ≡ true → ⊥) → (a || b) ≡ true → ⊥
neither true b h k e = h refl
neither false b h k e = k e

-- a name that no column has
pub lacks : (columns : List Column) (name : List ℕ) → ((j : ℕ) (d : Column) → j < length columns → (get_or columns j d).name ≢ name) → LacksColumn columns name
lacks [] name h = λ e. false≢true e
lacks (k ∷ columns) name h =
    neither (bytes_eq name k.name) (is_among name (map (λ k. k.name) columns)) (λ e. h 0 k (omega arith) (sym ((bytes_eq-Decides name k.name).0 e)))
    (lacks columns name (λ j d l. h (suc j) d (omega arith)))

-- the first column of a name
pub found : (columns : List Column) (name : List ℕ) (i : ℕ) (d : Column) → i < length columns
    → ((j : ℕ) (d : Column) → j < i → (get_or columns j d).name ≢ name)
    → (get_or columns i d).name ≡ name → IsColumn columns name i (get_or columns i d).step
found [] name i d h before here = absurd (omega arith)
found (k ∷ columns) name zero d h before here = (here, refl)
found (k ∷ columns) name (suc i) d h before here =
    (before 0 d (omega arith), found columns name i d (omega arith) (λ j d l. before (suc j) d (omega arith)) here)

-- a column's place is among the columns
pub within : (columns : List Column) (name : List ℕ) (i : ℕ) (step : Bool) → IsColumn columns name i step → i < length columns
within [] name i step h = absurd h
within (k ∷ columns) name zero step h = omega arith
within (k ∷ columns) name (suc i) step h = let l = within columns name i step h.1 in omega arith

first_true : (a b : Bool) → a ≡ true → (a || b) ≡ true
first_true a b h = rw h refl

second_true : (a b : Bool) → b ≡ true → (a || b) ≡ true
second_true true b h = refl
second_true false b h = h

-- a name that a column has
pub among : (columns : List Column) (name : List ℕ) (i : ℕ) (step : Bool) → IsColumn columns name i step → IsTrue (is_among name (map (λ k. k.name) columns))
among [] name i step h = absurd h
among (k ∷ columns) name zero step h =
    first_true (bytes_eq name k.name) (is_among name (map (λ k. k.name) columns)) ((bytes_eq-Decides name k.name).1 (sym h.0))
among (k ∷ columns) name (suc i) step h = second_true (bytes_eq name k.name) (is_among name (map (λ k. k.name) columns)) (among columns name i step h.1)

-- one more term
pub bindings_more : (columns : List Column) (ts : List Term) (ks : List BoundTerm) (t : Term) (k : BoundTerm) → AreTermBindings columns ts ks
    → IsTermBinding columns t k → AreTermBindings columns (ts ++ t ∷ []) (ks ++ k ∷ [])
bindings_more columns [] [] t k h e = (e, tt)
bindings_more columns [] (k' ∷ ks) t k h e = absurd h
bindings_more columns (t' ∷ ts) [] t k h e = absurd h
bindings_more columns (t' ∷ ts) (k' ∷ ks) t k h e = (h.0, bindings_more columns ts ks t k h.1 e)

-- as many terms are bound as there are
pub bindings_length : (columns : List Column) (ts : List Term) (ks : List BoundTerm) → AreTermBindings columns ts ks → length ks ≡ length ts
bindings_length columns [] [] h = refl
bindings_length columns [] (k ∷ ks) h = absurd h
bindings_length columns (t ∷ ts) [] h = absurd h
bindings_length columns (t ∷ ts) (k ∷ ks) h = ap suc (bindings_length columns ts ks h.1)

-- what holds below a number and at it
pub one_more : (P : ℕ → Type 0) (i : ℕ) → ((j : ℕ) → j < i → P j) → P i → (j : ℕ) → j < i + 1 → P j
one_more P i h x j l = by_place place
  where
    place : (j < i) ⊎ (j ≡ i)
    place = grind arith

    by_place : (j < i) ⊎ (j ≡ i) → P j
    by_place (inl k) = h j k
    by_place (inr e) = subst P (sym e) x

module _ (columns : List Column) (f : Formula) where
  -- an atom's first term without a column is the formula's, where the nodes before have theirs
  pub fault_of : (i : ℕ) (n : Node) (e : BindFault) → slice_get f.nodes i ≡ Some n → All (HasColumns columns) (take i f.nodes)
      → IsFaultAt columns i n e → IsBindFault columns f e
  fault_of i (Leaf a) (UnknownColumn atom term) at before h = (
    h.1.term.name,
    record {
      owner = a;
      lacking = h.1.term;
      at_atom = subst (λ j. slice_get f.nodes j ≡ Some (Leaf a)) (sym h.0) at;
      at_term = h.1.at;
      named = refl;
      no_column = h.1.lacks;
      terms_before = h.1.before;
      nodes_before = subst (λ j. All (HasColumns columns) (take j f.nodes)) (sym h.0) before;
    },
  )
  fault_of i n Memory at before h = tt
  fault_of i n (UnknownColumn atom term) at before h = absurd h

-- one more node
pub nodes_more : (columns : List Column) (nodes : List Node) (i : ℕ) (atoms : List (Option BoundAtom)) (n : Node)
    (k : Option BoundAtom) → AreNodeBindings columns nodes i atoms
    → slice_get nodes i ≡ Some n → IsNodeBinding columns n k → AreNodeBindings columns nodes (i + 1) (atoms ++ k ∷ [])
nodes_more columns nodes i atoms n k h e binding = record {
  count_is = omega (arith, length-append atoms (k ∷ []), h.count_is);
  each = by_place;
}
  where
    by_place : (j : ℕ) (m : Node) (l : Option BoundAtom) → slice_get nodes j ≡ Some m → slice_get (atoms ++ k ∷ []) j ≡ Some l → IsNodeBinding columns m l
    by_place j m l a b = by_order (place j (slice_get_within (atoms ++ k ∷ []) j l b)) a b
      where
        place : (j : ℕ) → j < length (atoms ++ k ∷ []) → (j < length atoms) ⊎ (j ≡ length atoms)
        place j g = let c = length-append atoms (k ∷ []) in grind arith

        by_order : (j < length atoms) ⊎ (j ≡ length atoms) → slice_get nodes j ≡ Some m → slice_get (atoms ++ k ∷ []) j ≡ Some l → IsNodeBinding columns m l
        by_order (inl g) a b = h.each j m l a (sym (slice_get-append_front atoms (k ∷ []) j g) ∙ b)
        by_order (inr g) a b =
            let at_i : j ≡ i = omega (arith, g, h.count_is) in
            let same_node : m ≡ n = same_Some m n (sym a ∙ ap (slice_get nodes) at_i ∙ e) in
            let same_atom : l ≡ k = same_Some l k (sym b ∙ ap (slice_get (atoms ++ k ∷ [])) g ∙ slice_get-append_here atoms k []) in
            subst (λ m. IsNodeBinding columns m l) (sym same_node) (subst (λ l. IsNodeBinding columns n l) (sym same_atom) binding)

-- all nodes
pub bound_of : (f : Formula) (h : Header) (width : ℕ) (atoms : List (Option BoundAtom)) (count : ℕ) → width ≡ length h.columns → length f.nodes ≡ count
    → AreNodeBindings h.columns f.nodes count atoms → IsBound (record { width = width; atoms = atoms }) f h
bound_of f h width atoms count w c bindings = record { width = w; atoms = λ i a at. by_atom i a at (slice_get atoms i) refl }
  where
    by_atom : (i : ℕ) (a : Atom) → slice_get f.nodes i ≡ Some (Leaf a) → (o : Option (Option BoundAtom)) → slice_get atoms i ≡ o
        → (k : BoundAtom) × (slice_get atoms i ≡ Some (Some k)) × IsAtomBinding h.columns a k
    by_atom i a at None e =
        let within : i < length atoms = let l = slice_get_within f.nodes i (Leaf a) at in omega (arith, l, c, bindings.count_is) in
        absurd (let g = slice_get-get_or atoms i None within in cc)
    by_atom i a at (Some None) e = absurd (bindings.each i (Leaf a) None at e)
    by_atom i a at (Some (Some k)) e = (k, e, bindings.each i (Leaf a) (Some k) at e)
