-- What the signals that are made on the way keep, and what a signal that is made from those of a node's children tells, in either form.
use Rattle.std.specs.Prelude.{◌≡◌, ℕ, pos, neg_ℤ, ◌+◌, ◌-◌, ◌^◌, ◌≤ℤ◌, ◌<ℤ◌, List, Some, slice_get}
use Rattle.rational.specs.Time.{whole, ◌≈◌, ◌≤ʳ◌}
use Rattle.rational.specs.Extended.{Extended}
use Rattle.value_laws.specs.Members.{ShapeOf}
use Rattle.frac128.specs.Value.{value}
use Rattle.pl_signal.specs.declared.faults.WidePair.{WidePair}
use Rattle.pl_signal.specs.declared.faults.WidePair.TheVariants.{Cross, Value}
use Rattle.pl_signal.specs.declared.faults.OpFault.{OpFault}
use Rattle.pl_signal.specs.declared.faults.OpFault.TheVariants as F
use Rattle.rational.specs.InPlay.{IsWideCrossing, IsWideValue}
use Rattle.stl_syntax.specs.WideCause.{IsInPlayAt}
use Rattle.stl_syntax.specs.Formula.{Subformula, tree_of, negation, conjunction, disjunction, implication}
use Rattle.stl_syntax.specs.Formula.{until, since, eventually, always, once, historically}
use Rattle.stl_syntax.specs.Limits.{own_reach}
use Rattle.stl_syntax.specs.declared.node.Node.{Node}
use Rattle.stl_syntax.specs.declared.node.Node.TheVariants.{Not, And, Or, Implies, Until, Eventually, Always, Since, Once, Historically}
use Rattle.offline_eval.specs.Forms.{Form}
use Rattle.offline_eval.specs.Inputs.{IsOver}
use Rattle.offline_eval.specs.declared.faults.EvalFault.{EvalFault}
use Rattle.offline_eval.specs.declared.faults.EvalFault.TheVariants as E
use Rattle.stl_syntax.specs.SupInf.{Setting, SupInf}

-- the setting has these least and greatest values
pub record HasEnds (least greatest : Extended) (s : Setting) : Type 0 where
  pub lowest : s.lowest ≡ least
  pub highest : s.highest ≡ greatest

-- the node has one operand
abbrev pub IsOne : Node → Type 0
IsOne (Not p) = Unit {0}
IsOne (Eventually p a b a_in b_in) = Unit {0}
IsOne (Always p a b a_in b_in) = Unit {0}
IsOne (Once p a b a_in b_in) = Unit {0}
IsOne (Historically p a b a_in b_in) = Unit {0}
IsOne n = ⊥

-- the node has two
abbrev pub IsTwo : Node → Type 0
IsTwo (And p q) = Unit {0}
IsTwo (Or p q) = Unit {0}
IsTwo (Implies p q) = Unit {0}
IsTwo (Until p q a b) = Unit {0}
IsTwo (Since p q a b) = Unit {0}
IsTwo n = ⊥

-- the formula that such a node makes of that of its operand
abbrev pub make_one : Node → Subformula → Subformula
make_one (Not p) = negation
make_one (Eventually p a b a_in b_in) = eventually a b a_in b_in
make_one (Always p a b a_in b_in) = always a b a_in b_in
make_one (Once p a b a_in b_in) = once a b a_in b_in
make_one (Historically p a b a_in b_in) = historically a b a_in b_in
make_one n = λ f. f

-- and of those of two
abbrev pub make_two : Node → Subformula → Subformula → Subformula
make_two (And p q) = conjunction
make_two (Or p q) = disjunction
make_two (Implies p q) = implication
make_two (Until p q a b) = until a b
make_two (Since p q a b) = since a b
make_two n = λ f g. f

module _ {X P : Type 0} (form : Form X P) where
  -- two signals over one domain, with limited values
  pub record MayMeet (x y : X) : Type 0 where
    pub left : form.IsLimited x
    pub right : form.IsLimited y
    pub begins : form.start x ≈ form.start y
    pub ends : form.stop x ≈ form.stop y

  -- what every step asks of a signal: times of 32 bits, limited values, and bases that windows may move
  pub record IsFit (x : X) : Type 0 where
    pub limited : form.IsLimited x
    pub first : whole (pos 0) ≤ʳ form.start x
    pub last : form.stop x ≤ʳ whole (pos (2 ^ 32 - 1))
    pub near : (p : P) → form.HasShape x p → (neg_ℤ (pos (2 ^ 32)) ≤ℤ form.shape.base p) × (form.shape.base p ≤ℤ pos (2 ^ 33))

  -- two such signals over one domain
  pub record AreFit (x y : X) : Type 0 where
    pub left : IsFit x
    pub right : IsFit y
    pub begins : form.start x ≈ form.start y
    pub ends : form.stop x ≈ form.stop y

  -- a signal over the domain, with limited values, whose bases windows have moved by at most `reach`
  pub record IsSound (from to reach : ℕ) (x : X) : Type 0 where
    pub begins : form.start x ≈ whole (pos from)
    pub ends : form.stop x ≈ whole (pos to)
    pub limited : form.IsLimited x
    pub bases : (p : P) → form.HasShape x p → (neg_ℤ (pos reach) ≤ℤ form.shape.base p) × (form.shape.base p <ℤ pos (2 ^ 32 + reach))

  -- so is each of the signals
  abbrev pub AreSound : ℕ → ℕ → ℕ → List X → Type 0
  AreSound from to reach xs = (k : ℕ) (x : X) → slice_get xs k ≡ Some x → IsSound from to reach x

  -- the new signal is sound where the old one is, over the same domain, with a reach that grows by `own`
  abbrev pub StaysSound : ℕ → X → X → Type 0
  StaysSound own x r = (from to reach : ℕ) → IsSound from to reach x → IsSound from to (reach + own) r

  -- the same for a signal that is made of two
  abbrev pub StaySound : ℕ → X → X → X → Type 0
  StaySound own x y r = (from to reach : ℕ) → IsSound from to reach x → IsSound from to reach y → IsSound from to (reach + own) r

  -- the new signal is sound where the old ones are, with a reach that grows by what the node adds
  abbrev pub NodeStaysSound : ℕ → ℕ → Node → List X → X → Type 0
  NodeStaysSound from to n xs r = (reach : ℕ) → AreSound from to reach xs → IsSound from to (reach + own_reach n) r

module _ {X P : Type 0} (form : Form X P) where
  -- the signal tells the value of the formula over the domain
  abbrev pub TellsValue : Setting → Subformula → X → Type 0
  TellsValue s p x = form.Tells (SupInf p s) s.from s.to x

  -- the signals tell the formulas at their places
  abbrev pub TellAt : Setting → (ℕ → Subformula) → List X → Type 0
  TellAt s at xs = (k : ℕ) (x : X) → slice_get xs k ≡ Some x → TellsValue s (at k) x

module _ {P : Type 0} (shape : ShapeOf P) where
  -- the pair is in play in one of the steps by which the formula's value is made, and needs its denominator
  abbrev pub IsCauseOf : Setting → Subformula → WidePair P → Type 0
  IsCauseOf s f (Cross p q a b den) = IsWideCrossing (IsInPlayAt f s) s.from s.to (shape.function p) (shape.function q) (value a) (value b) den
  IsCauseOf s f (Value p at den) = IsWideValue (IsInPlayAt f s) s.from s.to (shape.function p) (value at) den

  -- a fault is want of memory, or a pair that is in play where the formula's value is made, and needs its denominator
  abbrev pub IsFaultOf : Setting → Subformula → OpFault P → Type 0
  IsFaultOf s p F.Memory = Unit {0}
  IsFaultOf s p (F.Wide pair) = IsCauseOf s p pair

module _ {X P : Type 0} (form : Form X P) where
  -- where x tells a formula, r tells the formula that is made of it
  abbrev pub TellsOne : (Subformula → Subformula) → X → X → Type 0
  TellsOne make x r = (s : Setting) (p : Subformula) → HasEnds form.shape.lowest form.shape.highest s → TellsValue form s p x
      → TellsValue form s (make p) r

  -- where x and y tell two formulas, r tells the formula that is made of them
  abbrev pub TellsTwo : (Subformula → Subformula → Subformula) → X → X → X → Type 0
  TellsTwo make x y r = (s : Setting) (p q : Subformula) → HasEnds form.shape.lowest form.shape.highest s → TellsValue form s p x
      → TellsValue form s q y → TellsValue form s (make p q) r

  -- where x tells a formula, the fault is one of the formula that is made of it
  abbrev pub FaultOfOne : (Subformula → Subformula) → X → OpFault P → Type 0
  FaultOfOne make x e = (s : Setting) (p : Subformula) → HasEnds form.shape.lowest form.shape.highest s → TellsValue form s p x
      → IsFaultOf form.shape s (make p) e

  -- where x and y tell two formulas, the fault is one of the formula that is made of them
  abbrev pub FaultOfTwo : (Subformula → Subformula → Subformula) → X → X → OpFault P → Type 0
  FaultOfTwo make x y e = (s : Setting) (p q : Subformula) → HasEnds form.shape.lowest form.shape.highest s → TellsValue form s p x
      → TellsValue form s q y → IsFaultOf form.shape s (make p q) e

  -- where the signals tell the formulas at their places, r tells the formula of the node
  abbrev pub TellsNode : ℕ → ℕ → Node → List X → X → Type 0
  TellsNode from to n xs r = (s : Setting) (at : ℕ → Subformula) (i : ℕ) → IsOver form.shape.lowest form.shape.highest from to s
      → TellAt form s at xs → TellsValue form s (tree_of at i n) r

  -- there the fault is one of the formula of the node
  abbrev pub FaultOfNode : ℕ → ℕ → Node → List X → OpFault P → Type 0
  FaultOfNode from to n xs e = (s : Setting) (at : ℕ → Subformula) (i : ℕ) → IsOver form.shape.lowest form.shape.highest from to s
      → TellAt form s at xs → IsFaultOf form.shape s (tree_of at i n) e

-- the fault of an operator at the node of that place
abbrev pub fault_at : {P : Type 0} → ℕ → OpFault P → EvalFault P
fault_at i F.Memory = E.Memory
fault_at i (F.Wide pair) = E.Wide (record { node = i; pair = pair })
