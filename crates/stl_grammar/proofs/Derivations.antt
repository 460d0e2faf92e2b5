-- The grammar by a table of its operators, which the lemmas on derivations go over. What a formula is, specs/Grammar.antt says; both say the same.
use Rattle.std.proofs.Common.{◌≡◌, ℕ, ◌+◌, ◌≤◌, List, [], ◌∷◌, ◌++◌, length, refl, Bool, true, false, arith, append_assoc}
use Rattle.std.specs.Prelude.{codes, Option, Some, None}
use Rattle.stl_syntax.specs.Characters.{ticks}
use Rattle.stl_syntax.specs.declared.scale.Scale.{Scale}
use Rattle.stl_syntax.specs.declared.atom.Atom.{Atom}
use Rattle.stl_syntax.specs.declared.node.Node.{Node}
use Rattle.stl_syntax.specs.declared.node.Node.TheVariants.{Const, Atom as Leaf, Not}
use Rattle.stl_grammar.specs.Grammar.{top, Token, word, number, open_paren, close_paren, open_bracket, close_bracket, comma}
use Rattle.stl_grammar.specs.Grammar.{scaled, more_plus, more_minus, IsAtom, first, signed, IsOpening, IsClosing, inside, outside}
use Rattle.stl_grammar.specs.Grammar.{name as term_name}
use Rattle.stl_grammar.specs.Grammar.{Direction, ahead, behind, Ends, closed, free, IsBound, nothing, bounded, unbounded}
use Rattle.stl_grammar.specs.Grammar.{IsFormula, IsDisjunct, IsConjunct, IsTimed, IsOperand, disjunct, implies}
use Rattle.stl_grammar.specs.Grammar.{conjunct, or, timed, and, operand, until, since, not, eventually, always}
use Rattle.stl_grammar.specs.Grammar.{once, historically, always_true, always_false, parens, atom}
pub use Rattle.stl_grammar.specs.Operators.{is_beside, looks_back, may_be_open}
use Rattle.stl_grammar.specs.Operators.{direction, is_behind, ends, are_free}
pub use Rattle.stl_grammar.specs.Operators.{Connective, by_and, by_or, by_implies, connective_word, connective_node}
pub use Rattle.stl_grammar.specs.Operators.{binds, left_binds, right_binds, timed_word, timed_node, constant_word}
use Rattle.stl_syntax.specs.Limits.{reach_of_bound}
use Rattle.stl_grammar.specs.declared.operator.Timed.{Timed}
use Rattle.stl_grammar.specs.declared.operator.Timed.TheVariants.{Until as TUntil, Since as TSince, Eventually as TEventually}
use Rattle.stl_grammar.specs.declared.operator.Timed.TheVariants.{Always as TAlways, Once as TOnce, Historically as THistorically}

-- each connective binds more tightly than parentheses, which count 0
pub one_binds : (o : Connective) → 1 ≤ binds o
one_binds by_and = omega arith
one_binds _ = omega arith

-- and less tightly than an operator with a bound
pub has_three : (o : Connective) → binds o ≤ 3
has_three by_and = omega arith
has_three _ = omega arith

-- a bracket that opens the bound of such an operator, or that closes it, with the end in or out
pub data Opens (o : Timed) : Token → Bool → Type 0 where
  opens_in : Opens o open_bracket true
  opens_out : may_be_open o ≡ true → Opens o close_bracket false

pub data Closes (o : Timed) : Token → Bool → Type 0 where
  closes_in : Closes o close_bracket true
  closes_out : may_be_open o ≡ true → Closes o open_bracket false

-- what holds of each pair of brackets holds of those of a bound
pub by_brackets : (P : Token → Token → Type 0) → P open_bracket close_bracket → P open_bracket open_bracket → P close_bracket close_bracket
    → P close_bracket open_bracket → {o : Timed} {t u : Token} {x y : Bool} → Opens o t x → Closes o u y → P t u
by_brackets P a b c d opens_in closes_in = a
by_brackets P a b c d opens_in (closes_out e) = b
by_brackets P a b c d (opens_out e) closes_in = c
by_brackets P a b c d (opens_out e) (closes_out f) = d

-- the bound of an operator, in ticks: where it looks back the bound may be left out, or have no upper end
pub data Bounded (digits : ℕ) (o : Timed) : List Token → ℕ → Option ℕ → Bool → Bool → Type 0 where
  left_out : looks_back o ≡ true → Bounded digits o [] 0 None true true
  within : {a j b k : ℕ} {t u : Token} {x y : Bool} → Opens o t x → Closes o u y
      → Bounded digits o (t ∷ number a j ∷ comma ∷ number b k ∷ u ∷ []) (ticks digits a j) (Some (ticks digits b k)) x y
  endless : {a j : ℕ} {t u : Token} {x y : Bool} → looks_back o ≡ true → Opens o t x → Closes o u y
      → Bounded digits o (t ∷ number a j ∷ comma ∷ word (codes "inf") ∷ u ∷ []) (ticks digits a j) None x true

mutual
  -- an operand
  pub data Operand (s : Scale) : ℕ → List Token → List Node → Type 0 where
    negated : {k : ℕ} {ts : List Token} {ns : List Node} → Operand s k ts ns → Operand s k (word (codes "not") ∷ ts) (ns ++ Not (top k ns) ∷ [])
    prefixed : (of : Timed) {k a : ℕ} {b : Option ℕ} {x y : Bool} {ts us : List Token} {ns : List Node} → is_beside of ≡ false
        → Bounded s.time of us a b x y → Operand s k ts ns
        → Operand s k (word (timed_word of) ∷ (us ++ ts)) (ns ++ timed_node of a b x y 0 (top k ns) ∷ [])
    constant : (b : Bool) {k : ℕ} → Operand s k (word (constant_word b) ∷ []) (Const b ∷ [])
    enclosed : {k : ℕ} {ts : List Token} {ns : List Node} → Derived s 1 k ts ns → Operand s k (open_paren ∷ ts ++ close_paren ∷ []) ns
    compared : {k : ℕ} {ts : List Token} {a : Atom} → IsAtom s.value ts a → Operand s k ts (Leaf a ∷ [])

  -- what binds at least as tightly as r
  pub data Derived (s : Scale) : ℕ → ℕ → List Token → List Node → Type 0 where
    joined : (o : Connective) {r k : ℕ} {ts us : List Token} {ns ms : List Node} → r ≤ binds o → Derived s (left_binds o) k ts ns
        → Derived s (right_binds o) (k + length ns) us ms
        → Derived s r k (ts ++ word (connective_word o) ∷ us) (ns ++ ms ++ connective_node o (top k ns) (top (k + length ns) ms) ∷ [])
    beside : (of : Timed) {r k a : ℕ} {b : Option ℕ} {x y : Bool} {ts us vs : List Token} {ns ms : List Node} → is_beside of ≡ true → r ≤ 4
        → Operand s k ts ns → Bounded s.time of us a b x y → Operand s (k + length ns) vs ms
        → Derived s r k (ts ++ word (timed_word of) ∷ (us ++ vs)) (ns ++ ms ++ timed_node of a b x y (top k ns) (top (k + length ns) ms) ∷ [])
    alone : {r k : ℕ} {ts : List Token} {ns : List Node} → Operand s k ts ns → Derived s r k ts ns

-- what binds tightly binds less tightly too
pub looser : {s : Scale} {r r' k : ℕ} {ts : List Token} {ns : List Node} → r ≤ r' → Derived s r' k ts ns → Derived s r k ts ns
looser l (joined o m d e) = joined o (omega arith) d e
looser l (beside of i m p w q) = beside of i (omega arith) p w q
looser l (alone p) = alone p

-- bounds of the grammar are those of the table
opens_of : {o : Timed} {e : Ends} {t : Token} {x : Bool} → ends o ≡ e → IsOpening e t x → Opens o t x
opens_of e inside = opens_in
opens_of e outside = opens_out (rw e refl)

closes_of : {o : Timed} {e : Ends} {t : Token} {x : Bool} → ends o ≡ e → IsClosing e t x → Closes o t x
closes_of e inside = closes_in
closes_of e outside = closes_out (rw e refl)

bound_of : {d : Direction} {e : Ends} {digits a : ℕ} {b : Option ℕ} {us : List Token} {x y : Bool} (o : Timed) → direction o ≡ d → ends o ≡ e
    → IsBound digits d e us a b x y → Bounded digits o us a b x y
bound_of o d e nothing = left_out (rw d refl)
bound_of o d e (bounded p q) = within (opens_of e p) (closes_of e q)
bound_of o d e (unbounded p q) = endless (rw d refl) (opens_of e p) (closes_of e q)

-- and the other way round
opening_of : {o : Timed} {t : Token} {x : Bool} → Opens o t x → IsOpening (ends o) t x
opening_of opens_in = inside
opening_of {o} (opens_out f) = by_ends (ends o) f
  where
    by_ends : (e : Ends) → are_free e ≡ true → IsOpening e close_bracket false
    by_ends free f = outside
    by_ends closed f = absurd (cc)

closing_of : {o : Timed} {t : Token} {x : Bool} → Closes o t x → IsClosing (ends o) t x
closing_of closes_in = inside
closing_of {o} (closes_out f) = by_ends (ends o) f
  where
    by_ends : (e : Ends) → are_free e ≡ true → IsClosing e open_bracket false
    by_ends free f = outside
    by_ends closed f = absurd (cc)

as_bound : {o : Timed} {digits a : ℕ} {b : Option ℕ} {us : List Token} {x y : Bool} → Bounded digits o us a b x y
    → IsBound digits (direction o) (ends o) us a b x y
as_bound {o} {digits} (left_out f) = by_direction (direction o) f
  where
    by_direction : (d : Direction) → is_behind d ≡ true → IsBound digits d (ends o) [] 0 None true true
    by_direction behind f = nothing
    by_direction ahead f = absurd (cc)
as_bound (within p q) = bounded (opening_of p) (closing_of q)
as_bound {o} {digits} (endless {a = a} {j} {t} {u} {x} f p q) = by_direction (direction o) f
  where
    by_direction : (d : Direction) → is_behind d ≡ true
        → IsBound digits d (ends o) (t ∷ number a j ∷ comma ∷ word (codes "inf") ∷ u ∷ []) (ticks digits a j) None x true
    by_direction behind f = unbounded (opening_of p) (closing_of q)
    by_direction ahead f = absurd (cc)

-- an operator that looks ahead has an upper end
pub has_upper : {d a : ℕ} {b : Option ℕ} {us : List Token} {x y : Bool} (o : Timed) → looks_back o ≡ false → Bounded d o us a b x y
    → Some (reach_of_bound a b) ≡ b
has_upper o e (left_out f) = absurd (cc)
has_upper o e (within p q) = refl
has_upper o e (endless f p q) = absurd (cc)

-- so its bound is one with an upper end
bound_ahead : {d a : ℕ} {b : Option ℕ} {us : List Token} {x y : Bool} (o : Timed) → looks_back o ≡ false → Bounded d o us a b x y
    → IsBound d (direction o) (ends o) us a (Some (reach_of_bound a b)) x y
bound_ahead o e w = rw (has_upper o e w) (as_bound w)

-- the ends of a bound that must be closed are in
ends_in : {d a : ℕ} {b : Option ℕ} {us : List Token} {x y : Bool} (o : Timed) → may_be_open o ≡ false → Bounded d o us a b x y → (x ≡ true) × (y ≡ true)
ends_in o e (left_out f) = (refl, refl)
ends_in o e (within opens_in closes_in) = (refl, refl)
ends_in o e (within (opens_out f) q) = absurd (cc)
ends_in o e (within p (closes_out f)) = absurd (cc)
ends_in o e (endless f opens_in q) = (refl, refl)
ends_in o e (endless f (opens_out g) q) = absurd (cc)

-- derivations of the grammar are those of the table
mutual
  -- a formula
  pub formula_derived : {s : Scale} {k : ℕ} {ts : List Token} {ns : List Node} (r : ℕ) → r ≤ 1 → IsFormula s k ts ns → Derived s r k ts ns
  formula_derived r l (disjunct d) = disjunct_derived r (omega arith) d
  formula_derived r l (implies d f) = joined by_implies l (disjunct_derived 2 (omega arith) d) (formula_derived 1 (omega arith) f)

  -- what `or` joins
  pub disjunct_derived : {s : Scale} {k : ℕ} {ts : List Token} {ns : List Node} (r : ℕ) → r ≤ 2 → IsDisjunct s k ts ns → Derived s r k ts ns
  disjunct_derived r l (conjunct c) = conjunct_derived r (omega arith) c
  disjunct_derived r l (or d c) = joined by_or l (disjunct_derived 2 (omega arith) d) (conjunct_derived 3 (omega arith) c)

  -- what `and` joins
  pub conjunct_derived : {s : Scale} {k : ℕ} {ts : List Token} {ns : List Node} (r : ℕ) → r ≤ 3 → IsConjunct s k ts ns → Derived s r k ts ns
  conjunct_derived r l (timed t) = timed_derived r (omega arith) t
  conjunct_derived r l (and c t) = joined by_and l (conjunct_derived 3 (omega arith) c) (timed_derived 4 (omega arith) t)

  -- at most one until or since
  pub timed_derived : {s : Scale} {k : ℕ} {ts : List Token} {ns : List Node} (r : ℕ) → r ≤ 4 → IsTimed s k ts ns → Derived s r k ts ns
  timed_derived r l (operand p) = alone (operand_derived p)
  timed_derived r l (until {ts = ts} {us} {vs} p w q) =
      rw (append_assoc ts (word (codes "until") ∷ us) vs) (beside TUntil refl l (operand_derived p) (bound_of TUntil refl refl w) (operand_derived q))
  timed_derived r l (since {ts = ts} {us} {vs} p w q) =
      rw (append_assoc ts (word (codes "since") ∷ us) vs) (beside TSince refl l (operand_derived p) (bound_of TSince refl refl w) (operand_derived q))

  -- an operand
  pub operand_derived : {s : Scale} {k : ℕ} {ts : List Token} {ns : List Node} → IsOperand s k ts ns → Operand s k ts ns
  operand_derived (not p) = negated (operand_derived p)
  operand_derived (eventually w p) = prefixed TEventually refl (bound_of TEventually refl refl w) (operand_derived p)
  operand_derived (always w p) = prefixed TAlways refl (bound_of TAlways refl refl w) (operand_derived p)
  operand_derived (once w p) = prefixed TOnce refl (bound_of TOnce refl refl w) (operand_derived p)
  operand_derived (historically w p) = prefixed THistorically refl (bound_of THistorically refl refl w) (operand_derived p)
  operand_derived always_true = constant true
  operand_derived always_false = constant false
  operand_derived (parens f) = enclosed (formula_derived 1 (omega arith) f)
  operand_derived (atom a) = compared a

-- derivations of the table are those of the grammar: an `until` or `since`
side : {s : Scale} {k a : ℕ} {b : Option ℕ} {x y : Bool} {ts us vs : List Token} {ns ms : List Node} (of : Timed) → is_beside of ≡ true
    → IsOperand s k ts ns → Bounded s.time of us a b x y → IsOperand s (k + length ns) vs ms
    → IsTimed s k (ts ++ word (timed_word of) ∷ (us ++ vs)) (ns ++ ms ++ timed_node of a b x y (top k ns) (top (k + length ns) ms) ∷ [])
side {ts = ts} {us} {vs} TUntil e p w q =
    let f = ends_in TUntil refl w in
    rw (append_assoc ts (word (codes "until") ∷ us) vs) at (until p (rw (f.0, f.1) at (bound_ahead TUntil refl w)) q)
side {ts = ts} {us} {vs} TSince e p w q =
    let f = ends_in TSince refl w in
    rw (append_assoc ts (word (codes "since") ∷ us) vs) at (since p (rw (f.0, f.1) at (as_bound w)) q)
side _ e p w q = absurd (cc)

mutual
  -- an operand
  pub as_operand : {s : Scale} {k : ℕ} {ts : List Token} {ns : List Node} → Operand s k ts ns → IsOperand s k ts ns
  as_operand (negated p) = not (as_operand p)
  as_operand (prefixed TEventually e w p) = eventually (bound_ahead TEventually refl w) (as_operand p)
  as_operand (prefixed TAlways e w p) = always (bound_ahead TAlways refl w) (as_operand p)
  as_operand (prefixed TOnce e w p) = once (as_bound w) (as_operand p)
  as_operand (prefixed THistorically e w p) = historically (as_bound w) (as_operand p)
  as_operand (prefixed _ e w p) = absurd (cc)
  as_operand (constant true) = always_true
  as_operand (constant false) = always_false
  as_operand (enclosed d) = parens (as_formula d)
  as_operand (compared a) = atom a

  -- at most one until or since
  pub as_timed : {s : Scale} {r k : ℕ} {ts : List Token} {ns : List Node} → 4 ≤ r → Derived s r k ts ns → IsTimed s k ts ns
  as_timed l (joined by_and m d e) = absurd (omega arith)
  as_timed l (joined by_or m d e) = absurd (omega arith)
  as_timed l (joined by_implies m d e) = absurd (omega arith)
  as_timed l (beside of e m p w q) = side of e (as_operand p) w (as_operand q)
  as_timed l (alone p) = operand (as_operand p)

  -- what `and` joins
  pub as_conjunct : {s : Scale} {r k : ℕ} {ts : List Token} {ns : List Node} → 3 ≤ r → Derived s r k ts ns → IsConjunct s k ts ns
  as_conjunct l (joined by_and m d e) = and (as_conjunct (omega arith) d) (as_timed (omega arith) e)
  as_conjunct l (joined by_or m d e) = absurd (omega arith)
  as_conjunct l (joined by_implies m d e) = absurd (omega arith)
  as_conjunct l (beside of e m p w q) = timed (side of e (as_operand p) w (as_operand q))
  as_conjunct l (alone p) = timed (operand (as_operand p))

  -- what `or` joins
  pub as_disjunct : {s : Scale} {r k : ℕ} {ts : List Token} {ns : List Node} → 2 ≤ r → Derived s r k ts ns → IsDisjunct s k ts ns
  as_disjunct l (joined by_and m d e) = conjunct (and (as_conjunct (omega arith) d) (as_timed (omega arith) e))
  as_disjunct l (joined by_or m d e) = or (as_disjunct (omega arith) d) (as_conjunct (omega arith) e)
  as_disjunct l (joined by_implies m d e) = absurd (omega arith)
  as_disjunct l (beside of e m p w q) = conjunct (timed (side of e (as_operand p) w (as_operand q)))
  as_disjunct l (alone p) = conjunct (timed (operand (as_operand p)))

  -- a formula
  pub as_formula : {s : Scale} {r k : ℕ} {ts : List Token} {ns : List Node} → Derived s r k ts ns → IsFormula s k ts ns
  as_formula (joined by_and m d e) = disjunct (conjunct (and (as_conjunct (omega arith) d) (as_timed (omega arith) e)))
  as_formula (joined by_or m d e) = disjunct (or (as_disjunct (omega arith) d) (as_conjunct (omega arith) e))
  as_formula (joined by_implies m d e) = implies (as_disjunct (omega arith) d) (as_formula e)
  as_formula (beside of e m p w q) = disjunct (conjunct (timed (side of e (as_operand p) w (as_operand q))))
  as_formula (alone p) = disjunct (conjunct (timed (operand (as_operand p))))

-- the token may open or close a bound
abbrev pub is_bracket : Token → Bool
is_bracket open_bracket = true
is_bracket close_bracket = true
is_bracket _ = false

-- the first token of an operand is no bracket
pub record Begins (ts : List Token) : Type 0 where
  -- it has one
  pub head : Token
  -- and others
  pub rest : List Token
  -- in this order
  pub is : ts ≡ head ∷ rest
  -- it opens no bound
  pub other : is_bracket head ≡ false

-- no operand begins with a bracket, so a bound that is left out is seen to be
pub operand_begins : {s : Scale} {k : ℕ} {ts : List Token} {ns : List Node} → Operand s k ts ns → Begins ts
operand_begins (compared (first (term_name f) u c)) = record { head = _; rest = _; is = refl; other = refl }
operand_begins (compared (first (scaled f) u c)) = record { head = _; rest = _; is = refl; other = refl }
operand_begins (compared (signed (more_plus t u) c)) = record { head = _; rest = _; is = refl; other = refl }
operand_begins (compared (signed (more_minus t u) c)) = record { head = _; rest = _; is = refl; other = refl }
operand_begins _ = record { head = _; rest = _; is = refl; other = refl }
