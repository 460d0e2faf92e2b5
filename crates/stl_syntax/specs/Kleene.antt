-- The three-valued reading: what items leave certain of a formula's truth.
use Rattle.std.specs.Prelude.{◌≡◌, ◌⊎◌, ℕ, List, [], ◌∷◌, IsTrue, IsFalse, true}
use Rattle.rational.specs.Windows.{Ahead, Behind}
use Rattle.rational.specs.Time.{Rational, Within, IsIn}
use Rattle.stl_syntax.specs.Trace.{Trace, start, stop}
use Rattle.stl_syntax.specs.Formula.{Subformula, constant, atom, negation, conjunction, disjunction}
use Rattle.stl_syntax.specs.Formula.{implication, until, eventually, always, since, once, historically}
use Rattle.stl_syntax.specs.Truth.{holds_at}
use Rattle.frac128.specs.Spans.{interval}
use Rattle.stl_syntax.specs.declared.items.Item.{Item}

-- some item of the atom occurrence at place i has t in its span
abbrev pub IsCovered : List Item → ℕ → Rational → Type 0
IsCovered [] i t = ⊥
IsCovered (e ∷ items) i t = ((e.node ≡ i) × IsIn (interval e.on) t) ⊎ IsCovered items i t

abbrev mutual
  -- certainly true
  pub Must : Subformula → List Item → Trace → Rational → Type 0
  Must (constant b) items tr t = IsTrue b
  Must (atom i a) items tr t = IsTrue (holds_at a tr t) × IsCovered items i t
  Must (negation p) items tr t = MustNot p items tr t
  Must (conjunction p q) items tr t = Must p items tr t × Must q items tr t
  Must (disjunction p q) items tr t = Must p items tr t ⊎ Must q items tr t
  Must (implication p q) items tr t = MustNot p items tr t ⊎ Must q items tr t
  Must (eventually a b a_in b_in p) items tr t = (u : Rational) × Ahead (start tr) (stop tr) a b a_in b_in t u × Must p items tr u
  Must (always a b a_in b_in p) items tr t = (u : Rational) → Ahead (start tr) (stop tr) a b a_in b_in t u → Must p items tr u
  Must (once a b a_in b_in p) items tr t = (u : Rational) × Behind (start tr) (stop tr) a b a_in b_in t u × Must p items tr u
  Must (historically a b a_in b_in p) items tr t = (u : Rational) → Behind (start tr) (stop tr) a b a_in b_in t u → Must p items tr u
  Must (until a b p q) items tr t =
      (u : Rational) × Ahead (start tr) (stop tr) a b true true t u × Must q items tr u × ((v : Rational) → Within t u v → Must p items tr v)
  Must (since a b p q) items tr t =
      (u : Rational) × Behind (start tr) (stop tr) a b true true t u × Must q items tr u × ((v : Rational) → Within u t v → Must p items tr v)

  -- certainly false
  pub MustNot : Subformula → List Item → Trace → Rational → Type 0
  MustNot (constant b) items tr t = IsFalse b
  MustNot (atom i a) items tr t = IsFalse (holds_at a tr t) × IsCovered items i t
  MustNot (negation p) items tr t = Must p items tr t
  MustNot (conjunction p q) items tr t = MustNot p items tr t ⊎ MustNot q items tr t
  MustNot (disjunction p q) items tr t = MustNot p items tr t × MustNot q items tr t
  MustNot (implication p q) items tr t = Must p items tr t × MustNot q items tr t
  MustNot (eventually a b a_in b_in p) items tr t = (u : Rational) → Ahead (start tr) (stop tr) a b a_in b_in t u → MustNot p items tr u
  MustNot (always a b a_in b_in p) items tr t = (u : Rational) × Ahead (start tr) (stop tr) a b a_in b_in t u × MustNot p items tr u
  MustNot (once a b a_in b_in p) items tr t = (u : Rational) → Behind (start tr) (stop tr) a b a_in b_in t u → MustNot p items tr u
  MustNot (historically a b a_in b_in p) items tr t = (u : Rational) × Behind (start tr) (stop tr) a b a_in b_in t u × MustNot p items tr u
  MustNot (until a b p q) items tr t =
      (u : Rational) → Ahead (start tr) (stop tr) a b true true t u → MustNot q items tr u ⊎ ((v : Rational) × Within t u v × MustNot p items tr v)
  MustNot (since a b p q) items tr t =
      (u : Rational) → Behind (start tr) (stop tr) a b true true t u → MustNot q items tr u ⊎ ((v : Rational) × Within u t v × MustNot p items tr v)
