-- The explanation of `x >= 5 and x >= 5` at a trace of one row: the first atom alone.
use Rattle.std.proofs.Common.{◌≡◌, ℕ, pos, suc, ◌<◌, inl, inr, List, [], ◌∷◌, refl, false, lit≤, lit<, arith}
use Rattle.std.specs.Prelude.{IsFalse}
use Rattle.rational.specs.Rational.{Rational}
use Rattle.rational.specs.Time.{◌≈◌}
use Rattle.stl_syntax.specs.Trace.{Trace, value_of}
use Rattle.stl_syntax.specs.Formula.{atom, conjunction, subformula}
use Rattle.stl_syntax.specs.Truth.{Truth, expression, holds_at}
use Rattle.stl_syntax.specs.Kleene.{MustNot, IsCovered}
use Rattle.stl_syntax.specs.Cells.{IsCut, AreCuts, first, last, change, moved, root_start}
use Rattle.stl_syntax.specs.Kept.{Kept, AllCells, IsSo}
use Rattle.frac128.specs.declared.frac.Frac.{Frac}
use Rattle.frac128.proofs.Wholes.{whole_frac, instant_span}
use Rattle.stl_syntax.specs.declared.items.Item.{Item}
use Rattle.stl_syntax.specs.declared.node.Node.{Node}
use Rattle.stl_syntax.specs.declared.node.Node.TheVariants.{Atom as Leaf, And}
use Rattle.stl_syntax.proofs.Examples.{at_least_5, at_time, row, x_header}
use Rattle.stl_syntax.proofs.TruthLemmas.{Truth-same}

-- x is 0 at the one time 0
abbrev pub instant : Trace
instant = record { header = x_header; rows = row 0 (pos 0) ∷ [] }

abbrev pub both : List Node
both = Leaf at_least_5 ∷ Leaf at_least_5 ∷ And 0 1 ∷ []

both_tree : subformula both 2 ≡ conjunction (atom 0 at_least_5) (atom 1 at_least_5)
unfolding subformula
both_tree = refl

abbrev pub zero_frac : Frac
zero_frac = whole_frac (pos 0)

-- `x >= 5` false on [0,0], of the atom at place i
abbrev pub item : ℕ → Item
item i = record { node = i; on = instant_span zero_frac; holds = false }

pub x_fails : (i : ℕ) → ¬ Truth (atom i at_least_5) instant (at_time 0)
unfolding expression value_of
x_fails i h = cc

x_is_false : IsFalse (holds_at at_least_5 instant (at_time 0))
unfolding expression value_of
x_is_false = refl

-- every cut is at 0
only_zero : (i : ℕ) (t : Rational) → IsCut both instant i t → t ≈ at_time 0
only_zero i t (root_start h k) = record { same = k.same }
only_zero i t (first h k) = record { same = k.same }
only_zero i t (last h k) = record { same = k.same }
only_zero i t (change h k) = let a = k.inside.above in let b = k.inside.below in omega arith
only_zero i t (moved n k g c s d e w) = let a = w.above in let b = w.below in omega arith

pub cuts : (i : ℕ) → suc i < 3 → AreCuts both instant i (at_time 0 ∷ [])
cuts i h = record { rising = tt; sound = (first h (record { same = refl }), tt); complete = λ t c. inl (only_zero i t c) }

pub so : (i : ℕ) → subformula both i ≡ atom i at_least_5 → IsSo both instant (item i)
so i e t w = rw e (λ h. x_fails i (Truth-same (atom i at_least_5) instant (let l = w.above in let k = w.below in omega arith) h))

cells_of_both : AllCells both instant 0 both (item 0 ∷ item 1 ∷ [])
unfolding subformula
cells_of_both = (
  at_time 0 ∷ [],
  item 0 ∷ [],
  item 1 ∷ [],
  cuts 0 (lit< tt),
  (refl, record { time = record { same = refl }; inside = refl }, record { time = record { same = refl }; inside = refl }, so 0 refl, tt),
  refl,
  (
    at_time 0 ∷ [],
    item 1 ∷ [],
    [],
    cuts 1 (lit< tt),
    (refl, record { time = record { same = refl }; inside = refl }, record { time = record { same = refl }; inside = refl }, so 1 refl, tt),
    refl,
    refl,
  ),
)

-- the second cell is dropped, since the first alone refutes the formula; the first stays
kept_first : Kept both instant (item 0 ∷ [])
unfolding subformula
kept_first = record {
  all = item 0 ∷ item 1 ∷ [];
  cells = cells_of_both;
  dropped = inl (inl (x_is_false, inl (refl, record { above = record { le = lit≤ tt }; below = record { le = lit≤ tt } })), inr (bare, refl));
}
  where
    uncovered : (i : ℕ) → ¬ (IsFalse (holds_at at_least_5 instant (at_time 0)) × IsCovered [] i (at_time 0))
    uncovered i h = h.1

    bare : ¬ MustNot (conjunction (atom 0 at_least_5) (atom 1 at_least_5)) [] instant (at_time 0)
    bare (inl h) = h.1
    bare (inr h) = h.1

-- the root is cut at the start alone
pub root_cuts : AreCuts both instant 2 (at_time 0 ∷ [])
root_cuts = record { rising = tt; sound = (root_start refl (record { same = refl }), tt); complete = λ t c. inl (only_zero 2 t c) }
