-- What the rows so far settle at a time, whatever follows.
use Rattle.std.specs.Prelude.{◌≡◌, ◌⊎◌, ℕ, Bool, true, false, List, [], ◌∷◌, ◌++◌, IsTrue, IsFalse, Option, IfSome}
use Rattle.rational.specs.Time.{Rational, Within, Precedes, later, ◌≤ʳ◌}
use Rattle.stl_syntax.specs.Trace.{Header, Row, Trace, start, stop}
use Rattle.stl_syntax.specs.Formula.{Subformula, constant, atom, negation, conjunction, disjunction}
use Rattle.stl_syntax.specs.Formula.{implication, until, eventually, always, since, once, historically}
use Rattle.stl_syntax.specs.Truth.{holds_at}

-- u lies in the window from t + a to t + b, from the start of the rows on
pub record OpenAhead (from : Rational) (a b : ℕ) (a_in b_in : Bool) (t u : Rational) : Type 0 where
  pub after : from ≤ʳ u
  pub begins : Precedes a_in (later t a) u
  pub ends : Precedes b_in u (later t b)

-- u lies in the window from t - b to t - a, from the start of the rows on
pub record OpenBehind (from : Rational) (a : ℕ) (b : Option ℕ) (a_in b_in : Bool) (t u : Rational) : Type 0 where
  pub after : from ≤ʳ u
  pub begins : IfSome b (λ b. Precedes b_in t (later u b))
  pub ends : Precedes a_in (later u a) t

-- at t the time u is sure to be one of every trace that goes on
abbrev pub IsSure : Trace → Rational → Rational → Type 0
IsSure tr t u = (start tr ≤ʳ u) × ((u ≤ʳ stop tr) ⊎ (u ≤ʳ t))

abbrev mutual
  -- true whatever follows
  pub Settled : Subformula → Trace → Rational → Type 0
  Settled (constant b) tr t = IsTrue b
  Settled (atom i a) tr t = (t ≤ʳ stop tr) × IsTrue (holds_at a tr t)
  Settled (negation p) tr t = SettledNot p tr t
  Settled (conjunction p q) tr t = Settled p tr t × Settled q tr t
  Settled (disjunction p q) tr t = Settled p tr t ⊎ Settled q tr t
  Settled (implication p q) tr t = SettledNot p tr t ⊎ Settled q tr t
  Settled (eventually a b a_in b_in p) tr t = (u : Rational) × OpenAhead (start tr) a b a_in b_in t u × IsSure tr t u × Settled p tr u
  Settled (always a b a_in b_in p) tr t = (u : Rational) → OpenAhead (start tr) a b a_in b_in t u → Settled p tr u
  Settled (once a b a_in b_in p) tr t = (u : Rational) × OpenBehind (start tr) a b a_in b_in t u × IsSure tr t u × Settled p tr u
  Settled (historically a b a_in b_in p) tr t = (u : Rational) → OpenBehind (start tr) a b a_in b_in t u → Settled p tr u
  Settled (until a b p q) tr t =
      (u : Rational) × OpenAhead (start tr) a b true true t u × IsSure tr t u × Settled q tr u × ((v : Rational) → Within t u v → Settled p tr v)
  Settled (since a b p q) tr t =
      (u : Rational) × OpenBehind (start tr) a b true true t u × IsSure tr t u × Settled q tr u × ((v : Rational) → Within u t v → Settled p tr v)

  -- false whatever follows
  pub SettledNot : Subformula → Trace → Rational → Type 0
  SettledNot (constant b) tr t = IsFalse b
  SettledNot (atom i a) tr t = (t ≤ʳ stop tr) × IsFalse (holds_at a tr t)
  SettledNot (negation p) tr t = Settled p tr t
  SettledNot (conjunction p q) tr t = SettledNot p tr t ⊎ SettledNot q tr t
  SettledNot (disjunction p q) tr t = SettledNot p tr t × SettledNot q tr t
  SettledNot (implication p q) tr t = Settled p tr t × SettledNot q tr t
  SettledNot (eventually a b a_in b_in p) tr t = (u : Rational) → OpenAhead (start tr) a b a_in b_in t u → SettledNot p tr u
  SettledNot (always a b a_in b_in p) tr t = (u : Rational) × OpenAhead (start tr) a b a_in b_in t u × IsSure tr t u × SettledNot p tr u
  SettledNot (once a b a_in b_in p) tr t = (u : Rational) → OpenBehind (start tr) a b a_in b_in t u → SettledNot p tr u
  SettledNot (historically a b a_in b_in p) tr t = (u : Rational) × OpenBehind (start tr) a b a_in b_in t u × IsSure tr t u × SettledNot p tr u
  SettledNot (until a b p q) tr t =
      (u : Rational) → OpenAhead (start tr) a b true true t u → SettledNot q tr u ⊎ ((v : Rational) × Within t u v × SettledNot p tr v)
  SettledNot (since a b p q) tr t =
      (u : Rational) → OpenBehind (start tr) a b true true t u → SettledNot q tr u ⊎ ((v : Rational) × Within u t v × SettledNot p tr v)

-- the rows decide the truth at the start
abbrev pub Decides : Subformula → Trace → Bool → Type 0
Decides p tr true = Settled p tr (start tr)
Decides p tr false = SettledNot p tr (start tr)

-- none of the rows decides
abbrev pub NoneDecides : Subformula → Header → List Row → Type 0
NoneDecides p header rows = (before after : List Row) (r : Row) (b : Bool) → rows ≡ before ++ r ∷ after
    → ¬ Decides p (record { header = header; rows = before ++ r ∷ [] }) b

-- the last of the rows is the first at which they decide
pub record FirstDecides (p : Subformula) (header : Header) (rows : List Row) (r : Row) (holds : Bool) : Type 0 where
  pub decides : Decides p (record { header = header; rows = rows ++ r ∷ [] }) holds
  pub not_before : NoneDecides p header rows
