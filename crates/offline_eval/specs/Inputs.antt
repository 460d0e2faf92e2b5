-- The signals of a formula's atoms, one for each atom in post-order, and what they tell in a setting.
use Rattle.std.specs.Prelude.{◌≡◌, ◌<◌, ◌^◌, ℕ, pos, ◌≤ℤ◌, ◌<ℤ◌, Bool, true, false, List, length, take, count_by, Some, slice_get}
use Rattle.rational.specs.Time.{whole, ◌≈◌}
use Rattle.rational.specs.Extended.{Extended}
use Rattle.value_laws.specs.Members.{ShapeOf}
use Rattle.pl_signal.specs.declared.knot.Knot.{Knot}
use Rattle.pl_signal.specs.Moves.{Tells}
use Rattle.stl_syntax.specs.SupInf.{Setting, Gives}
use Rattle.stl_syntax.specs.declared.atom.Atom.{Atom}
use Rattle.stl_syntax.specs.declared.node.Node.{Node}
use Rattle.stl_syntax.specs.declared.node.Node.TheVariants.{Atom as Leaf}
use Rattle.offline_eval.specs.Forms.{Form}

-- whether the node is an atom
abbrev pub is_atom : Node → Bool
is_atom (Leaf a) = true
is_atom n = false

-- how many of the first nodes are atoms
abbrev pub atoms_before : List Node → ℕ → ℕ
atoms_before nodes i = count_by is_atom (take i nodes)

-- the setting has these least and greatest values, and the domain from the one tick to the other
pub record IsOver (least greatest : Extended) (first last : ℕ) (s : Setting) : Type 0 where
  pub lowest : s.lowest ≡ least
  pub highest : s.highest ≡ greatest
  pub from : s.from ≡ whole (pos first)
  pub to : s.to ≡ whole (pos last)

-- a signal in either form over the domain; its bases are times of 32 bits, and its values are infinite or within 2^31
pub record IsInput {X P : Type 0} (form : Form X P) (from to : ℕ) (x : X) : Type 0 where
  pub begins : form.start x ≈ whole (pos from)
  pub ends : form.stop x ≈ whole (pos to)
  pub bases : (p : P) → form.HasShape x p → (pos 0 ≤ℤ form.shape.base p) × (form.shape.base p <ℤ pos (2 ^ 32))
  pub limited : form.IsLimited x

module _ {P : Type 0} (shape : ShapeOf P) where
  -- each atom among the first nodes has its signal, which tells over the domain what the setting's reading gives the atom
  abbrev pub TellAtomsBelow : ℕ → List Node → List (List (Knot P)) → Setting → Type 0
  TellAtomsBelow n nodes signals s =
      (i : ℕ) (a : Atom) → i < n → slice_get nodes i ≡ Some (Leaf a)
      → (x : List (Knot P)) × (slice_get signals (atoms_before nodes i) ≡ Some x) × Tells shape (Gives s.atoms i a) s.from s.to x

  -- so has each atom
  abbrev pub TellAtoms : List Node → List (List (Knot P)) → Setting → Type 0
  TellAtoms nodes signals s = TellAtomsBelow (length nodes) nodes signals s
