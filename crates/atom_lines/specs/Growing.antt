-- A signal of an atom that grows row by row. What the calls keep; the meaning stands in `AtomSignals`.
use Rattle.std.specs.Prelude.{◌≡◌, ◌⊎◌, ◌≤◌, ◌^◌, ℕ, ℤ, pos, ◌≤ℤ◌, ◌<ℤ◌, nat_abs, List, Some, slice_get}
use Rattle.rational.specs.Time.{Rational, ◌≤ʳ◌, ◌<ʳ◌, ◌≈◌, whole}
use Rattle.rational.specs.Rational.{IsWithin}
use Rattle.rational.specs.Affine.{IsBounded}
use Rattle.rational.specs.Line.{at}
use Rattle.rational.specs.Extended.{Extended, value_at, ◌≈ᵉ◌}
use Rattle.value_laws.specs.Members.{ShapeOf}
use Rattle.pl_signal.specs.declared.knot.Knot.{Knot}
use Rattle.pl_signal.specs.Knots.{start, stop, HasShape, IsSignal, IsWorth}
use Rattle.stl_syntax.specs.Trace.{Trace, row_time}
use Rattle.stl_syntax.specs.Trace as trace
use Rattle.stl_syntax.specs.Truth.{expression}
use Rattle.stl_syntax.specs.SupInf.{Gives}
use Rattle.stl_syntax.specs.declared.atom.Atom.{Atom}
use Rattle.stl_syntax.specs.declared.rel.Rel.{Rel}
use Rattle.atom_lines.specs.declared.gap.Gap.{Gap}
use Rattle.atom_lines.specs.declared.bound_atom.BoundAtom.{BoundAtom}
use Rattle.atom_lines.specs.Binding.{Binding, IsFor}
use Rattle.atom_lines.specs.Gaps.{along}
use Rattle.atom_lines.specs.Rows.{row_of, values_at}
use Rattle.atom_lines.specs.Sums.{sum_over, reach}
use Rattle.atom_lines.specs.How.{How, worth, reading_of}

-- a time of a row
abbrev pub IsRowBase : ℤ → Type 0
IsRowBase z = (pos 0 ≤ℤ z) × (z <ℤ pos (2 ^ 32))

-- the sum of the atom at row k of the trace, and its size
pub record IsReach (atom : BoundAtom) (tr : Trace) (k : ℕ) (n : ℤ) : Type 0 where
  pub sum : n ≡ reach atom (values_at tr k) (values_at tr k)
  pub small : nat_abs (sum_over atom.terms.items (values_at tr k) (values_at tr k)) ≤ 2 ^ 30

-- the same of the atom at a node
abbrev pub IsReachAt : Binding → ℕ → Trace → ℕ → ℤ → Type 0
IsReachAt b i tr k n = (atom : BoundAtom) → slice_get b.atoms i ≡ Some (Some atom) → IsReach atom tr k n × (nat_abs atom.limit ≤ 1073741824)

module _ {P : Type 0} (shape : ShapeOf P) where
  -- the signal goes on with the one shape up to the time
  pub record CatchesUp (steady : P) (to : ℕ) (old new : List (Knot P)) : Type 0 where
    pub signal : IsSignal shape new
    pub begins : start new ≡ start old
    pub later : stop old ≤ʳ stop new
    pub ends : stop new ≈ whole (pos to)
    pub worth : (t : Rational) (v : Extended) → IsWorth shape new t v
        → IsWorth shape old t v ⊎ ((stop old <ʳ t) × (t ≤ʳ whole (pos to)) × (v ≈ᵉ value_at (shape.function steady) t))
    pub shapes : (p : P) → HasShape new p → HasShape old p ⊎ (p ≡ steady)

  -- the signal goes on over the gap, and has at its end what `next` is worth; up to the gap it has what the sum is worth at the gap's
  -- begin. Where the new signal ends before that, all up to there is worth the same
  pub record GoesAlong (read_as : How) (rel : Rel) (g : Gap) (next : ℤ) (old new : List (Knot P)) : Type 0 where
    pub signal : IsSignal shape new
    pub begins : start new ≡ start old
    pub later : stop old ≤ʳ stop new
    pub ends : stop new ≤ʳ whole (pos g.second)
    pub late : IsWithin (2 ^ 34) (stop new)
    pub before : stop new <ʳ whole (pos g.first) → worth read_as rel (whole g.from) ≈ᵉ worth read_as rel (whole next)
    pub on : (t : Rational) → stop new <ʳ t → whole (pos g.first) <ʳ t → t <ʳ whole (pos g.second)
        → worth read_as rel (at (along g) t) ≈ᵉ worth read_as rel (whole next)
    pub worth : (t : Rational) (v : Extended) → IsWorth shape new t v
        → IsWorth shape old t v
        ⊎ ((stop old <ʳ t) × (t ≤ʳ whole (pos g.first)) × (v ≈ᵉ worth read_as rel (whole g.from)))
        ⊎ ((whole (pos g.first) <ʳ t) × (t <ʳ whole (pos g.second)) × (v ≈ᵉ worth read_as rel (at (along g) t)))
        ⊎ ((t ≈ whole (pos g.second)) × (v ≈ᵉ worth read_as rel (whole next)))
    pub bases : (p : P) → HasShape new p → HasShape old p ⊎ IsRowBase (shape.base p)

  -- the signal tells the atom from the start of the trace on; from where it ends up to row k the atom is worth what it is there
  pub record HasGrown (read_as : How) (b : Binding) (i : ℕ) (tr : Trace) (k : ℕ) (s : List (Knot P)) : Type 0 where
    pub signal : IsSignal shape s
    pub begins : start s ≈ trace.start tr
    pub ends : stop s ≤ʳ row_time (row_of tr k)
    pub early : IsWithin (2 ^ 34) (start s)
    pub late : IsWithin (2 ^ 34) (stop s)
    pub small : (t : Rational) (v : Extended) → IsWorth shape s t v → IsBounded (2 ^ 31) v
    pub bases : (p : P) → HasShape s p → IsRowBase (shape.base p)
    pub since : (a : Atom) → IsFor b i a tr → (t : Rational) → stop s <ʳ t → t ≤ʳ row_time (row_of tr k)
        → worth read_as a.rel (expression a tr t) ≈ᵉ worth read_as a.rel (expression a tr (row_time (row_of tr k)))
    pub worth : (a : Atom) → IsFor b i a tr → (t : Rational) (v : Extended) → IsWorth shape s t v → Gives (reading_of read_as tr) i a t v
