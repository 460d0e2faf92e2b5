-- What a node is at a time, by the times at which its children are true and false: by one reading of them and by another.
use Rattle.std.proofs.Common.{◌⊎◌, inl, inr, refl, ℕ, Bool, true, false, Option, List}
use Rattle.std.specs.Prelude.{IsTrue, IsFalse}
use Rattle.rational.specs.Time.{Rational, Within, later, ◌≤ʳ◌}
use Rattle.rational.proofs.Order.{le_of_lt, le_or_lt, le_refl, le_trans}
use Rattle.rational.proofs.TimeLemmas.{later_from, precedes_le}
use Rattle.stl_syntax.specs.Trace.{Trace, start, stop}
use Rattle.stl_syntax.specs.Cells.{IsChild}
use Rattle.stl_syntax.specs.Early.{OpenAhead, OpenBehind, IsSure}
use Rattle.stl_syntax.specs.Truth.{holds_at}
use Rattle.stl_syntax.specs.declared.node.Node.{Node}
use Rattle.stl_syntax.specs.declared.node.Node.TheVariants.{Const, Atom as Leaf, Not, And, Or, Implies, Until, Eventually, Always, Since, Once, Historically}
use Rattle.growing_sets.specs.Spans.{IsOn, Lies}
use Rattle.early_verdict.specs.Readings.{SomeAhead, OnlyAhead, SomeBehind, OnlyBehind, UntilHolds, UntilFails, SinceHolds, SinceFails}
use Rattle.early_verdict.specs.Fitting.{Lists, lists_at, no_of, yes_of}
use Rattle.early_verdict.specs.Living.{IsShown, Known, LooksAlong, LooksAt, LooksBack}
use Rattle.growing_sets.specs.declared.stretch.Stretch.{Stretch}
use Rattle.early_verdict.specs.declared.sets.Sets.{Sets}
use Rattle.early_verdict.specs.declared.sets.Parts.{Parts}
use Rattle.early_verdict.proofs.SinceSets.{along, none_later}

-- the node is true at a time, where its children are true at the times of Y and false at those of N
abbrev pub TrueBy : Node → Trace → (ℕ → Rational → Type 0) → (ℕ → Rational → Type 0) → Rational → Type 0
TrueBy (Const b) tr Y N t = IsTrue b
TrueBy (Leaf a) tr Y N t = (t ≤ʳ stop tr) × IsTrue (holds_at a tr t)
TrueBy (Not p) tr Y N t = N p t
TrueBy (And p q) tr Y N t = Y p t × Y q t
TrueBy (Or p q) tr Y N t = Y p t ⊎ Y q t
TrueBy (Implies p q) tr Y N t = N p t ⊎ Y q t
TrueBy (Until p q a b) tr Y N t = UntilHolds tr a b (Y p) (Y q) t
TrueBy (Eventually p a b i j) tr Y N t = SomeAhead tr a b i j (Y p) t
TrueBy (Always p a b i j) tr Y N t = OnlyAhead false tr a b i j (Y p) t
TrueBy (Since p q a b) tr Y N t = SinceHolds tr a b (Y p) (Y q) t
TrueBy (Once p a b i j) tr Y N t = SomeBehind tr a b i j (Y p) t
TrueBy (Historically p a b i j) tr Y N t = OnlyBehind tr a b i j (Y p) t

-- it is false
abbrev pub FalseBy : Node → Trace → (ℕ → Rational → Type 0) → (ℕ → Rational → Type 0) → Rational → Type 0
FalseBy (Const b) tr Y N t = IsFalse b
FalseBy (Leaf a) tr Y N t = (t ≤ʳ stop tr) × IsFalse (holds_at a tr t)
FalseBy (Not p) tr Y N t = Y p t
FalseBy (And p q) tr Y N t = N p t ⊎ N q t
FalseBy (Or p q) tr Y N t = N p t × N q t
FalseBy (Implies p q) tr Y N t = Y p t × N q t
FalseBy (Until p q a b) tr Y N t = UntilFails false tr a b (N p) (N q) t
FalseBy (Eventually p a b i j) tr Y N t = OnlyAhead false tr a b i j (N p) t
FalseBy (Always p a b i j) tr Y N t = SomeAhead tr a b i j (N p) t
FalseBy (Since p q a b) tr Y N t = SinceFails tr a b (N p) (N q) t
FalseBy (Once p a b i j) tr Y N t = OnlyBehind tr a b i j (N p) t
FalseBy (Historically p a b i j) tr Y N t = SomeBehind tr a b i j (N p) t

-- the times of the children's lists
abbrev pub ListedYes : List Sets → ℕ → Rational → Type 0
ListedYes shown p = IsOn (lists_at shown p).yes

-- and those at which they are false
abbrev pub ListedNo : List Sets → ℕ → Rational → Type 0
ListedNo shown p = IsOn (lists_at shown p).no

-- what a node is by one reading of its children it is by any other that has at least the times of that
pub read_on : (Y N Y' N' : ℕ → Rational → Type 0) (tr : Trace) (n : Node)
    → ((p : ℕ) → IsChild n p → (u : Rational) → (Y p u → Y' p u) × (N p u → N' p u)) → (t : Rational)
    → (TrueBy n tr Y N t → TrueBy n tr Y' N' t) × (FalseBy n tr Y N t → FalseBy n tr Y' N' t)
read_on Y N Y' N' tr (Const b) f t = (λ x. x, λ x. x)
read_on Y N Y' N' tr (Leaf a) f t = (λ x. x, λ x. x)
read_on Y N Y' N' tr (Not p) f t = ((f p refl t).1, (f p refl t).0)
read_on Y N Y' N' tr (And p q) f t =
    let g = f p (inl refl) t in
    let h = f q (inr refl) t in
    (λ x. (g.0 x.0, h.0 x.1), λ x. elim x [ inl y ↦ inl (g.1 y) | inr y ↦ inr (h.1 y) ])
read_on Y N Y' N' tr (Or p q) f t =
    let g = f p (inl refl) t in
    let h = f q (inr refl) t in
    (λ x. elim x [ inl y ↦ inl (g.0 y) | inr y ↦ inr (h.0 y) ], λ x. (g.1 x.0, h.1 x.1))
read_on Y N Y' N' tr (Implies p q) f t =
    let g = f p (inl refl) t in
    let h = f q (inr refl) t in
    (λ x. elim x [ inl y ↦ inl (g.1 y) | inr y ↦ inr (h.0 y) ], λ x. (g.0 x.0, h.1 x.1))
read_on Y N Y' N' tr (Until p q a b) f t =
    let g = f p (inl refl) in
    let h = f q (inr refl) in (
      λ (u, o, c, y, z). (u, o, c, (h u).0 y, λ v w. (g v).0 (z v w)),
      λ x u o c. elim (x u o c) [ inl y ↦ inl ((h u).1 y) | inr (v, w, y) ↦ inr (v, w, (g v).1 y) ],
    )
read_on Y N Y' N' tr (Eventually p a b i j) f t = let g = f p refl in (λ (u, o, c, y). (u, o, c, (g u).0 y), λ x u o c. (g u).1 (x u o c))
read_on Y N Y' N' tr (Always p a b i j) f t = let g = f p refl in (λ x u o c. (g u).0 (x u o c), λ (u, o, c, y). (u, o, c, (g u).1 y))
read_on Y N Y' N' tr (Since p q a b) f t =
    let g = f p (inl refl) in
    let h = f q (inr refl) in (
      λ (u, o, c, y, z). (u, o, c, (h u).0 y, λ v w. (g v).0 (z v w)),
      λ x u o. elim (x u o) [ inl y ↦ inl ((h u).1 y) | inr (v, w, y) ↦ inr (v, w, (g v).1 y) ],
    )
read_on Y N Y' N' tr (Once p a b i j) f t = let g = f p refl in (λ (u, o, c, y). (u, o, c, (g u).0 y), λ x u o. (g u).1 (x u o))
read_on Y N Y' N' tr (Historically p a b i j) f t = let g = f p refl in (λ x u o. (g u).0 (x u o), λ (u, o, c, y). (u, o, c, (g u).1 y))

-- lists of children that tell a reading by which no child is both true and false
module _ (tr : Trace) (shown : List Sets) (Y N : ℕ → Rational → Type 0) (apart : (p : ℕ) (u : Rational) → Y p u → ¬ (N p u)) where
  -- the lists of the child tell it at the times that are shown
  abbrev KnownAt : ℕ → Type 0
  KnownAt p = Known (IsShown shown p) (lists_at shown p) (Y p) (N p)

  module _ (p q a : ℕ) (b : Option ℕ) (P : KnownAt p) (Q : KnownAt q) (t : Rational) where
    -- since, by a time of its window from which on the operands are shown
    held_at : (u : Rational) → OpenBehind (start tr) a b true true t u → ((v : Rational) → Within u t v → IsShown shown p v × IsShown shown q v)
        → IsSure tr t u → Y q u → ((v : Rational) → Within u t v → Y p v) → SinceHolds tr a b (ListedYes shown p) (ListedYes shown q) t
    held_at u o far r y z =
        (u, o, r, Q.yes_in u (far u (record { above = le_refl u; below = none_later u t a o.ends })).1 y, λ v w. P.yes_in v (far v w).0 (z v w))

    failed_at : (u : Rational) → OpenBehind (start tr) a b true true t u → ((v : Rational) → Within u t v → IsShown shown p v × IsShown shown q v)
        → N q u ⊎ ((v : Rational) × Within u t v × N p v) → ListedNo shown q u ⊎ ((v : Rational) × Within u t v × ListedNo shown p v)
    failed_at u o far (inl y) = inl (Q.no_in u (far u (record { above = le_refl u; below = none_later u t a o.ends })).1 y)
    failed_at u o far (inr (v, w, x)) = inr (v, w, P.no_in v (far v w).0 x)

    -- where since looks along its operands their lists tell whether it holds
    pub since_holds : LooksAlong (start tr) p q a b shown t → SinceHolds tr a b (Y p) (Y q) t → SinceHolds tr a b (ListedYes shown p) (ListedYes shown q) t
    since_holds (inl k) (u, o, r, y, z) = held_at u o (λ v w. k v (along (start tr) a b t u v o w.above w.below)) r y z
    since_holds (inr (w, d, k, e)) (u, o, r, y, z) = elim (le_or_lt w u) [
      | inl l ↦ held_at u o (λ v m. k v (record { above = le_trans l m.above; below = m.below })) r y z
      | inr l ↦
          let wt = none_later w t a d.ends in
          let all = λ (v : Rational) (m : Within w t v). z v (record { above = le_trans (le_of_lt l) m.above; below = m.below }) in
          elim e [
            | inl g ↦ (w, d, (d.after, inr wt), g.1, λ v m. P.yes_in v (k v m).0 (all v m))
            | inr n ↦ absurd (apart p w (all w (record { above = le_refl w; below = wt })) (P.no_out w n))
          ]
    ]

    -- and whether it fails
    pub since_fails : LooksAlong (start tr) p q a b shown t → SinceFails tr a b (N p) (N q) t → SinceFails tr a b (ListedNo shown p) (ListedNo shown q) t
    since_fails (inl k) f u o = failed_at u o (λ v w. k v (along (start tr) a b t u v o w.above w.below)) (f u o)
    since_fails (inr (w, d, k, e)) f u o = elim (le_or_lt w u) [
      | inl l ↦ failed_at u o (λ v m. k v (record { above = le_trans l m.above; below = m.below })) (f u o)
      | inr l ↦ elim e [
        | inr n ↦ inr (w, record { above = le_of_lt l; below = none_later w t a d.ends }, n)
        | inl g ↦ elim (f w d) [
          | inl y ↦ absurd (apart q w (Q.yes_out w g.1) y)
          | inr (v, m, x) ↦ inr (v, record { above = le_trans (le_of_lt l) m.above; below = m.below }, P.no_in v (k v m).0 x)
        ]
      ]
    ]

  module _ (own : Stretch) (parts : Option Parts) where
    -- looking back, where what decides it may stand for the others
    back_some : {X : Rational → Type 0} (side : Lists → List Stretch) (p a : ℕ) (b : Option ℕ) (i j : Bool)
        → LooksBack side (start tr) a b i j p shown own → ((u : Rational) → IsShown shown p u → X u → IsOn (side (lists_at shown p)) u)
        → (t : Rational) → Lies own t → SomeBehind tr a b i j X t → SomeBehind tr a b i j (IsOn (side (lists_at shown p))) t
    back_some side p a b i j far f t l (u, w, c, x) = elim (far t u l w) [
      | inl k ↦ (u, w, c, f u k x)
      | inr (v, d, k, z) ↦ (v, d, (d.after, inr (none_later v t a (precedes_le i (later v a) t d.ends))), z)
    ]

    back_only : {X ys : Rational → Type 0} (side : Lists → List Stretch) (p a : ℕ) (b : Option ℕ) (i j : Bool)
        → LooksBack side (start tr) a b i j p shown own → ((u : Rational) → IsShown shown p u → X u → ys u)
        → ((u : Rational) → IsOn (side (lists_at shown p)) u → X u → ⊥) → (t : Rational) → Lies own t
        → OnlyBehind tr a b i j X t → OnlyBehind tr a b i j ys t
    back_only side p a b i j far f g t l y = λ u w. elim (far t u l w) [ inl k ↦ f u k (y u w) | inr (v, d, k, z) ↦ absurd (g v z (y v d)) ]

    -- what a node is by the reading it is by the lists, where they show what it looks at
    pub read_listed : (n : Node) → ((p : ℕ) → IsChild n p → KnownAt p) → LooksAt n (start tr) shown own parts → (t : Rational) → Lies own t
        → (TrueBy n tr Y N t → TrueBy n tr (ListedYes shown) (ListedNo shown) t) × (FalseBy n tr Y N t → FalseBy n tr (ListedYes shown) (ListedNo shown) t)
    read_listed (Const b) known far t l = (λ x. x, λ x. x)
    read_listed (Leaf a) known far t l = (λ x. x, λ x. x)
    read_listed (Not p) known far t l = let k = known p refl in (k.no_in t (far t l), k.yes_in t (far t l))
    read_listed (And p q) known far t l =
        let k = known p (inl refl) in
        let m = known q (inr refl) in
        let s = far t l in
        (λ x. (k.yes_in t s.0 x.0, m.yes_in t s.1 x.1), λ x. elim x [ inl y ↦ inl (k.no_in t s.0 y) | inr y ↦ inr (m.no_in t s.1 y) ])
    read_listed (Or p q) known far t l =
        let k = known p (inl refl) in
        let m = known q (inr refl) in
        let s = far t l in
        (λ x. elim x [ inl y ↦ inl (k.yes_in t s.0 y) | inr y ↦ inr (m.yes_in t s.1 y) ], λ x. (k.no_in t s.0 x.0, m.no_in t s.1 x.1))
    read_listed (Implies p q) known far t l =
        let k = known p (inl refl) in
        let m = known q (inr refl) in
        let s = far t l in
        (λ x. elim x [ inl y ↦ inl (k.no_in t s.0 y) | inr y ↦ inr (m.yes_in t s.1 y) ], λ x. (k.yes_in t s.0 x.0, m.no_in t s.1 x.1))
    read_listed (Until p q a b) known far t l = (
      λ (u, o, c, y, z). (u, o, c, m.yes_in u (there u o).1 y, λ v w. k.yes_in v (far.0 t v l w.above (le_trans w.below o.ends)).0 (z v w)),
      λ x u o c. elim (x u o c) [
        | inl y ↦ inl (m.no_in u (there u o).1 y)
        | inr (v, w, y) ↦ inr (v, w, k.no_in v (far.0 t v l w.above (le_trans w.below o.ends)).0 y)
      ],
    )
      where
        k : KnownAt p
        k = known p (inl refl)

        m : KnownAt q
        m = known q (inr refl)

        there : (u : Rational) → OpenAhead (start tr) a b true true t u → IsShown shown p u × IsShown shown q u
        there u o = far.0 t u l (le_trans (later_from t a) o.begins) o.ends
    read_listed (Eventually p a b i j) known far t l =
        let k = known p refl in
        (λ (u, o, c, y). (u, o, c, k.yes_in u (far t u l o) y), λ x u o c. k.no_in u (far t u l o) (x u o c))
    read_listed (Always p a b i j) known far t l =
        let k = known p refl in
        (λ x u o c. k.yes_in u (far t u l o) (x u o c), λ (u, o, c, y). (u, o, c, k.no_in u (far t u l o) y))
    read_listed (Since p q a b) known far t l =
        let k = known p (inl refl) in
        let m = known q (inr refl) in
        (since_holds p q a b k m t (far.0 t l), since_fails p q a b k m t (far.0 t l))
    read_listed (Once p a b i j) known far t l =
        let k = known p refl in
        (back_some yes_of p a b i j far k.yes_in t l, back_only yes_of p a b i j far k.no_in (λ u z y. apart p u (k.yes_out u z) y) t l)
    read_listed (Historically p a b i j) known far t l =
        let k = known p refl in
        (back_only no_of p a b i j far k.yes_in (λ u z y. apart p u y (k.no_out u z)) t l, back_some no_of p a b i j far k.no_in t l)
