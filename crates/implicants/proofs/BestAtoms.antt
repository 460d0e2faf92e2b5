-- Where atoms are the best that helps the formula to be certainly false, so is each node.
use Rattle.std.proofs.Common.{◌≡◌, ℕ, ◌⊎◌, inl, inr, Bool, true, false, not, List}
use Rattle.std.proofs.Common.{Option, refl, subst}
use Rattle.rational.specs.Time.{Rational, Within}
use Rattle.rational.specs.Windows.{Ahead, Behind, Function, Window, IsSupOver, IsInfOver, IsUpTo, IsDownTo}
use Rattle.rational.specs.Extended.{Extended, ◌≤ᵉ◌, ◌<ᵉ◌, opposite, IsLeast, IsGreatest}
use Rattle.rational.proofs.ExtendedLemmas.{le_totalᵉ, clashᵉ, le_reflᵉ, le_transᵉ, least_of, opposite_le', opposite_twice}
use Rattle.rational.proofs.TimeLemmas.{within_stretch}
use Rattle.stl_syntax.specs.Trace.{Trace, start, stop}
use Rattle.stl_syntax.specs.Formula.{Subformula, constant, negation, conjunction, disjunction}
use Rattle.stl_syntax.specs.Formula.{implication, until, eventually, always, since, once, historically}
use Rattle.stl_syntax.specs.Formula.{tree_of}
use Rattle.stl_syntax.specs.Cells.{IsChild}
use Rattle.stl_syntax.specs.SupInf.{Setting, Reading, SupInf, one, minus_one, HasValue, HasInf}
use Rattle.stl_syntax.specs.declared.items.Item.{Item}
use Rattle.stl_syntax.specs.declared.node.Node.{Node}
use Rattle.stl_syntax.specs.declared.node.Node.TheVariants.{Const, Atom as Leaf, Not, And, Or, Implies, Until, Eventually, Always, Since, Once, Historically}
use Rattle.offline_eval.specs.Inputs.{is_atom}
use Rattle.implicants.specs.Needs.{Certain}
use Rattle.implicants.specs.Nearby.{IsBest}
use Rattle.implicants.specs.Signs.{sign_at, AreSigned}

-- the least of two values that are high is, and of two of which one is low
pub high_least : (v w r : Extended) → one ≤ᵉ v → one ≤ᵉ w → IsLeast v w r → one ≤ᵉ r
high_least v w r h k l = elim l.one_of [ inl x ↦ le_transᵉ one v r h x | inr x ↦ le_transᵉ one w r k x ]

-- the greatest of two values that are low is low
pub low_greatest : (v w r : Extended) → v ≤ᵉ minus_one → w ≤ᵉ minus_one → IsGreatest v w r → r ≤ᵉ minus_one
low_greatest v w r h k l = elim l.one_of [ inl x ↦ le_transᵉ r v minus_one x h | inr x ↦ le_transᵉ r w minus_one x k ]

-- the opposite of what is high is low
low_of_high : (v : Extended) → one ≤ᵉ v → opposite v ≤ᵉ minus_one
low_of_high v h = opposite_le' one v h

high_of_low : (v : Extended) → v ≤ᵉ minus_one → one ≤ᵉ opposite v
high_of_low v h = opposite_le' v minus_one h

high_opposite : (v : Extended) → opposite v ≤ᵉ minus_one → one ≤ᵉ v
high_opposite v h = let e = high_of_low (opposite v) h in rw opposite_twice at e

low_opposite : (v : Extended) → one ≤ᵉ opposite v → v ≤ᵉ minus_one
low_opposite v h = let e = low_of_high (opposite v) h in rw opposite_twice at e

-- the Sup of low values is low, and the Inf of high ones high
low_sup : (W : Window) (F : Function) (r : Extended) → ((u : Rational) (v : Extended) → W u → F u v → v ≤ᵉ minus_one)
    → IsSupOver minus_one W F r → r ≤ᵉ minus_one
low_sup W F r each h = elim (le_totalᵉ r minus_one) [
  | inl l ↦ l
  | inr l ↦ over (h.reached minus_one (le_reflᵉ minus_one) l)
]
  where
    over : (v : Extended) × ((u : Rational) × W u × F u v) × (minus_one <ᵉ v) → r ≤ᵉ minus_one
    over (v, (u, w, f), l) = clashᵉ minus_one v l (each u v w f)

high_inf : (W : Window) (F : Function) (r : Extended) → ((u : Rational) (v : Extended) → W u → F u v → one ≤ᵉ v)
    → IsInfOver one W F r → one ≤ᵉ r
high_inf W F r each h = elim (le_totalᵉ one r) [
  | inl l ↦ l
  | inr l ↦ under (h.reached one l (le_reflᵉ one))
]
  where
    under : (v : Extended) × ((u : Rational) × W u × F u v) × (v <ᵉ one) → one ≤ᵉ r
    under (v, (u, w, f), l) = clashᵉ v one l (each u v w f)

module _ (tr : Trace) (some : List Item) (reading : Reading) where
  -- the setting of a reading over the trace's domain
  abbrev pub over_trace : Setting
  over_trace = record { atoms = reading; lowest = minus_one; highest = one; from = start tr; to = stop tr }

  -- where the items leave a formula certain, the value of another one is the best
  abbrev pub Helps : Bool → Subformula → Subformula → Type 0
  Helps h p x = (t : Rational) (r : Extended) → Within (start tr) (stop tr) t → Certain h p some tr t → SupInf x over_trace t r → IsBest h r

  not_helps : (h : Bool) (p x : Subformula) → Helps (not h) p x → Helps h (negation p) (negation x)
  not_helps true p x f t r w c k = high_opposite r (f t (opposite r) w c k)
  not_helps false p x f t r w c k = low_opposite r (f t (opposite r) w c k)

  and_helps : (h : Bool) (p q x y : Subformula) → Helps h p x → Helps h q y → Helps h (conjunction p q) (conjunction x y)
  and_helps true p q x y f g t r w c (u, v, a, b, l) = high_least u v r (f t u w c.0 a) (g t v w c.1 b) l
  and_helps false p q x y f g t r w (inl c) (u, v, a, b, l) = le_transᵉ r u minus_one l.left (f t u w c a)
  and_helps false p q x y f g t r w (inr c) (u, v, a, b, l) = le_transᵉ r v minus_one l.right (g t v w c b)

  or_helps : (h : Bool) (p q x y : Subformula) → Helps h p x → Helps h q y → Helps h (disjunction p q) (disjunction x y)
  or_helps true p q x y f g t r w (inl c) (u, v, a, b, l) = le_transᵉ one u r (f t u w c a) l.left
  or_helps true p q x y f g t r w (inr c) (u, v, a, b, l) = le_transᵉ one v r (g t v w c b) l.right
  or_helps false p q x y f g t r w c (u, v, a, b, l) = low_greatest u v r (f t u w c.0 a) (g t v w c.1 b) l

  implies_helps : (h : Bool) (p q x y : Subformula) → Helps (not h) p x → Helps h q y → Helps h (implication p q) (implication x y)
  implies_helps true p q x y f g t r w (inl c) (u, v, a, b, l) = le_transᵉ one (opposite u) r (high_of_low u (f t u w c a)) l.left
  implies_helps true p q x y f g t r w (inr c) (u, v, a, b, l) = le_transᵉ one v r (g t v w c b) l.right
  implies_helps false p q x y f g t r w c (u, v, a, b, l) = low_greatest (opposite u) v r (low_of_high u (f t u w c.0 a)) (g t v w c.1 b) l

  -- some time of a window helps, or each
  some_helps : (W : Window) (p x : Subformula) (r : Extended) → ((u : Rational) → W u → Within (start tr) (stop tr) u) → HasValue x over_trace
      → Helps true p x → (u : Rational) × W u × Certain true p some tr u → IsSupOver minus_one W (SupInf x over_trace) r → one ≤ᵉ r
  some_helps W p x r inside has f (u, m, c) k =
      let v = has u (inside u m) in le_transᵉ one v.0 r (f u v.0 (inside u m) c v.1) (k.bound v.0 (u, m, v.1))

  no_helps : (W : Window) (p x : Subformula) (r : Extended) → ((u : Rational) → W u → Within (start tr) (stop tr) u) → HasValue x over_trace
      → Helps false p x → (u : Rational) × W u × Certain false p some tr u → IsInfOver one W (SupInf x over_trace) r → r ≤ᵉ minus_one
  no_helps W p x r inside has f (u, m, c) k =
      let v = has u (inside u m) in le_transᵉ r v.0 minus_one (k.bound v.0 (u, m, v.1)) (f u v.0 (inside u m) c v.1)

  each_helps : (W : Window) (p x : Subformula) (r : Extended) → ((u : Rational) → W u → Within (start tr) (stop tr) u)
      → Helps true p x → ((u : Rational) → W u → Certain true p some tr u) → IsInfOver one W (SupInf x over_trace) r → one ≤ᵉ r
  each_helps W p x r inside f c k = high_inf W (SupInf x over_trace) r (λ u v m g. f u v (inside u m) (c u m) g) k

  none_helps : (W : Window) (p x : Subformula) (r : Extended) → ((u : Rational) → W u → Within (start tr) (stop tr) u)
      → Helps false p x → ((u : Rational) → W u → Certain false p some tr u) → IsSupOver minus_one W (SupInf x over_trace) r → r ≤ᵉ minus_one
  none_helps W p x r inside f c k = low_sup W (SupInf x over_trace) r (λ u v m g. f u v (inside u m) (c u m) g) k

  eventually_helps : (h : Bool) (a b : ℕ) (i o : Bool) (p x : Subformula) → HasValue x over_trace → Helps h p x
      → Helps h (eventually a b i o p) (eventually a b i o x)
  eventually_helps true a b i o p x has f = λ t r w c k. some_helps (Ahead (start tr) (stop tr) a b i o t) p x r (λ u m. m.inside) has f c k
  eventually_helps false a b i o p x has f = λ t r w c k. none_helps (Ahead (start tr) (stop tr) a b i o t) p x r (λ u m. m.inside) f c k

  always_helps : (h : Bool) (a b : ℕ) (i o : Bool) (p x : Subformula) → HasValue x over_trace → Helps h p x → Helps h (always a b i o p) (always a b i o x)
  always_helps true a b i o p x has f = λ t r w c k. each_helps (Ahead (start tr) (stop tr) a b i o t) p x r (λ u m. m.inside) f c k
  always_helps false a b i o p x has f = λ t r w c k. no_helps (Ahead (start tr) (stop tr) a b i o t) p x r (λ u m. m.inside) has f c k

  once_helps : (h : Bool) (a : ℕ) (b : Option ℕ) (i o : Bool) (p x : Subformula) → HasValue x over_trace → Helps h p x
      → Helps h (once a b i o p) (once a b i o x)
  once_helps true a b i o p x has f = λ t r w c k. some_helps (Behind (start tr) (stop tr) a b i o t) p x r (λ u m. m.inside) has f c k
  once_helps false a b i o p x has f = λ t r w c k. none_helps (Behind (start tr) (stop tr) a b i o t) p x r (λ u m. m.inside) f c k

  historically_helps : (h : Bool) (a : ℕ) (b : Option ℕ) (i o : Bool) (p x : Subformula) → HasValue x over_trace → Helps h p x
      → Helps h (historically a b i o p) (historically a b i o x)
  historically_helps true a b i o p x has f = λ t r w c k. each_helps (Behind (start tr) (stop tr) a b i o t) p x r (λ u m. m.inside) f c k
  historically_helps false a b i o p x has f = λ t r w c k. no_helps (Behind (start tr) (stop tr) a b i o t) p x r (λ u m. m.inside) has f c k

  -- v is the least of y's value at u and the Inf of x's over the stretch S
  record IsOverStretch (S : Window) (x y : Subformula) (u : Rational) (v : Extended) : Type 0 where
    -- the value of y
    pub last : Extended
    -- which is that at u
    pub at_last : SupInf y over_trace u last
    -- the Inf of x
    pub inf : Extended
    -- which is that over S
    pub before : IsInfOver one S (SupInf x over_trace) inf
    -- v is the lesser one
    pub least : IsLeast last inf v

  -- it is high where both operands are certainly true, and low where one of them is certainly false
  high_both : (S : Window) (p q : Subformula) {x y : Subformula} {u : Rational} {v : Extended} → ((z : Rational) → S z → Within (start tr) (stop tr) z)
      → Within (start tr) (stop tr) u → Helps true p x → Helps true q y → Certain true q some tr u → ((z : Rational) → S z → Certain true p some tr z)
      → IsOverStretch S x y u v → one ≤ᵉ v
  high_both S p q {x} {y} {u} {v} inside w f g c each o =
      high_least o.last o.inf v (g u o.last w c o.at_last) (each_helps S p x o.inf inside f each o.before) o.least

  low_one : (S : Window) (p q : Subformula) {x y : Subformula} {u : Rational} {v : Extended} → ((z : Rational) → S z → Within (start tr) (stop tr) z)
      → Within (start tr) (stop tr) u → HasValue x over_trace → Helps false p x → Helps false q y
      → Certain false q some tr u ⊎ ((z : Rational) × S z × Certain false p some tr z)
      → IsOverStretch S x y u v → v ≤ᵉ minus_one
  low_one S p q {x} {y} {u} {v} inside w has f g (inl c) o = le_transᵉ v o.last minus_one o.least.left (g u o.last w c o.at_last)
  low_one S p q {x} {y} {u} {v} inside w has f g (inr c) o = le_transᵉ v o.inf minus_one o.least.right (no_helps S p x o.inf inside has f c o.before)

  until_helps : (h : Bool) (a b : ℕ) (p q x y : Subformula) → HasInf x over_trace → HasValue x over_trace → HasValue y over_trace
      → Helps h p x → Helps h q y → Helps h (until a b p q) (until a b x y)
  until_helps true a b p q x y inf has other f g = λ t r w. λ (u, m, c, each). λ k.
      let i = other u m.inside in let j = inf t u w m.inside in let v = least_of i.0 j.0 in
      let o : IsOverStretch (Within t u) x y u v.0 = record { last = i.0; at_last = i.1; inf = j.0; before = j.1; least = v.1 } in
      le_transᵉ one v.0 r (high_both (Within t u) p q (λ z n. within_stretch w m.inside n) m.inside f g c each o)
      (k.bound v.0 (u, m, (i.0, j.0, i.1, j.1, v.1)))
  until_helps false a b p q x y inf has other f g = λ t r w c k.
      low_sup (Ahead (start tr) (stop tr) a b true true t) (IsUpTo one (SupInf x over_trace) (SupInf y over_trace) t) r
      (λ u v m. λ (i, j, d, e, l).
      let o : IsOverStretch (Within t u) x y u v = record { last = i; at_last = d; inf = j; before = e; least = l } in
      low_one (Within t u) p q (λ z n. within_stretch w m.inside n) m.inside has f g (c u m) o) k

  since_helps : (h : Bool) (a : ℕ) (b : Option ℕ) (p q x y : Subformula) → HasInf x over_trace → HasValue x over_trace → HasValue y over_trace
      → Helps h p x → Helps h q y → Helps h (since a b p q) (since a b x y)
  since_helps true a b p q x y inf has other f g = λ t r w. λ (u, m, c, each). λ k.
      let i = other u m.inside in let j = inf u t m.inside w in let v = least_of i.0 j.0 in
      let o : IsOverStretch (Within u t) x y u v.0 = record { last = i.0; at_last = i.1; inf = j.0; before = j.1; least = v.1 } in
      le_transᵉ one v.0 r (high_both (Within u t) p q (λ z n. within_stretch m.inside w n) m.inside f g c each o)
      (k.bound v.0 (u, m, (i.0, j.0, i.1, j.1, v.1)))
  since_helps false a b p q x y inf has other f g = λ t r w c k.
      low_sup (Behind (start tr) (stop tr) a b true true t) (IsDownTo one (SupInf x over_trace) (SupInf y over_trace) t) r
      (λ u v m. λ (i, j, d, e, l).
      let o : IsOverStretch (Within u t) x y u v = record { last = i; at_last = d; inf = j; before = e; least = l } in
      low_one (Within u t) p q (λ z n. within_stretch m.inside w n) m.inside has f g (c u m) o) k

  constant_helps : (h b : Bool) → Helps h (constant b) (constant b)
  constant_helps true true t r w c x = x.at_least
  constant_helps true false t r w c x = absurd (let e = c in cc)
  constant_helps false true t r w c x = absurd (let e = c in cc)
  constant_helps false false t r w c x = x.at_most

  -- where the operands of a node help by their signs those of another tree, so does the node
  pub tree_helps : (at put : ℕ → Subformula) (i j : ℕ) (n : Node) (h : Bool) (signs : List Bool) → AreSigned signs n h → is_atom n ≡ false
      → ((k : ℕ) → IsChild n k → Helps (sign_at signs k) (at k) (put k))
      → ((k : ℕ) → IsChild n k → HasValue (put k) over_trace) → ((k : ℕ) → IsChild n k → HasInf (put k) over_trace)
      → Helps h (tree_of at i n) (tree_of put j n)
  tree_helps at put i j (Const b) h signs e leaf kids has inf = constant_helps h b
  tree_helps at put i j (Leaf a) h signs e leaf kids has inf = absurd (let e = leaf in cc)
  tree_helps at put i j (Not p) h signs e leaf kids has inf = not_helps h (at p) (put p) (subst (λ s. Helps s (at p) (put p)) e.first (kids p refl))
  tree_helps at put i j (And p q) h signs e leaf kids has inf = and_helps h (at p) (at q) (put p) (put q)
      (subst (λ s. Helps s (at p) (put p)) e.first (kids p (inl refl))) (subst (λ s. Helps s (at q) (put q)) e.second (kids q (inr refl)))
  tree_helps at put i j (Or p q) h signs e leaf kids has inf = or_helps h (at p) (at q) (put p) (put q)
      (subst (λ s. Helps s (at p) (put p)) e.first (kids p (inl refl))) (subst (λ s. Helps s (at q) (put q)) e.second (kids q (inr refl)))
  tree_helps at put i j (Implies p q) h signs e leaf kids has inf = implies_helps h (at p) (at q) (put p) (put q)
      (subst (λ s. Helps s (at p) (put p)) e.first (kids p (inl refl))) (subst (λ s. Helps s (at q) (put q)) e.second (kids q (inr refl)))
  tree_helps at put i j (Until p q a b) h signs e leaf kids has inf = until_helps h a b (at p) (at q) (put p) (put q)
      (inf p (inl refl)) (has p (inl refl)) (has q (inr refl))
      (subst (λ s. Helps s (at p) (put p)) e.first (kids p (inl refl))) (subst (λ s. Helps s (at q) (put q)) e.second (kids q (inr refl)))
  tree_helps at put i j (Eventually p a b x y) h signs e leaf kids has inf =
      eventually_helps h a b x y (at p) (put p) (has p refl) (subst (λ s. Helps s (at p) (put p)) e.first (kids p refl))
  tree_helps at put i j (Always p a b x y) h signs e leaf kids has inf =
      always_helps h a b x y (at p) (put p) (has p refl) (subst (λ s. Helps s (at p) (put p)) e.first (kids p refl))
  tree_helps at put i j (Since p q a b) h signs e leaf kids has inf = since_helps h a b (at p) (at q) (put p) (put q)
      (inf p (inl refl)) (has p (inl refl)) (has q (inr refl))
      (subst (λ s. Helps s (at p) (put p)) e.first (kids p (inl refl))) (subst (λ s. Helps s (at q) (put q)) e.second (kids q (inr refl)))
  tree_helps at put i j (Once p a b x y) h signs e leaf kids has inf =
      once_helps h a b x y (at p) (put p) (has p refl) (subst (λ s. Helps s (at p) (put p)) e.first (kids p refl))
  tree_helps at put i j (Historically p a b x y) h signs e leaf kids has inf =
      historically_helps h a b x y (at p) (put p) (has p refl) (subst (λ s. Helps s (at p) (put p)) e.first (kids p refl))
