-- Tokens that are a formula are one at each scale.
use Rattle.std.proofs.Common.{◌≡◌, ℕ, ◌+◌, List, [], ◌∷◌, ◌++◌, length, refl, Bool, arith, length-append}
use Rattle.std.specs.Prelude.{Option}
use Rattle.stl_syntax.specs.declared.scale.Scale.{Scale}
use Rattle.stl_syntax.specs.declared.node.Node.{Node}
use Rattle.stl_grammar.specs.Grammar.{Token}
use Rattle.stl_grammar.specs.Grammar.{IsConstant, plain, positive, negative, IsAtom, first, signed}
use Rattle.stl_grammar.specs.Grammar.{IsFormula}
use Rattle.stl_grammar.specs.declared.operator.Timed.{Timed}
use Rattle.stl_grammar.proofs.Derivations.{right_binds, Bounded, left_out, within, endless, Operand, negated, prefixed, constant, enclosed, compared}
use Rattle.stl_grammar.proofs.Derivations.{Derived, joined, beside, alone, formula_derived, as_formula}

constant_at : {d : ℕ} {vs : List Token} {c : _} → IsConstant d vs c → (e : ℕ) → (x : _) × IsConstant e vs x
constant_at plain e = (_, plain)
constant_at positive e = (_, positive)
constant_at negative e = (_, negative)

atom_at : {d : ℕ} {ts : List Token} {a : _} → IsAtom d ts a → (e : ℕ) → (b : _) × IsAtom e ts b
atom_at (first t u c) e = (_, first t u (constant_at c e).1)
atom_at (signed u c) e = (_, signed u (constant_at c e).1)

bound_at : {d a : ℕ} {o : Timed} {b : Option ℕ} {us : List Token} {x y : Bool} → Bounded d o us a b x y → (e : ℕ)
    → (g : ℕ) × (h : Option ℕ) × Bounded e o us g h x y
bound_at (left_out f) e = (_, _, left_out f)
bound_at (within p q) e = (_, _, within p q)
bound_at (endless f p q) e = (_, _, endless f p q)

one_node : (ns ms : List Node) (x y : Node) → length ns ≡ length ms → length (ns ++ x ∷ []) ≡ length (ms ++ y ∷ [])
one_node ns ms x y e = omega (arith, length-append ns (x ∷ []), length-append ms (y ∷ []))

two_nodes : (ns ms ps qs : List Node) (x y : Node) → length ns ≡ length ps → length ms ≡ length qs → length (ns ++ ms ++ x ∷ []) ≡ length (ps ++ qs ++ y ∷ [])
two_nodes ns ms ps qs x y e f = omega (arith, length-append (ns ++ ms) (x ∷ []), length-append (ps ++ qs) (y ∷ []), length-append ns ms, length-append ps qs)

module _ (z : Scale) where
  mutual
    derived_at : {s : Scale} {r k : ℕ} {ts : List Token} {ns : List Node} → Derived s r k ts ns
        → (ms : List Node) × Derived z r k ts ms × (length ns ≡ length ms)
    derived_at {s} {r} {k} (joined o {us = us} {ns} {ms} l d e) =
        let x = derived_at d in let y = derived_at e in
        let g : Derived z (right_binds o) (k + length x.0) us y.0 = rw (← x.2) y.1 in
        (_, joined o l x.1 g, two_nodes ns ms x.0 y.0 _ _ x.2 y.2)
    derived_at {s} {r} {k} (beside of {vs = vs} {ns} {ms} e l p b q) =
        let x = operand_at p in let y = operand_at q in let w = bound_at b z.time in
        let g : Operand z (k + length x.0) vs y.0 = rw (← x.2) y.1 in
        (_, beside of e l x.1 w.2 g, two_nodes ns ms x.0 y.0 _ _ x.2 y.2)
    derived_at (alone p) = let x = operand_at p in (x.0, alone x.1, x.2)

    operand_at : {s : Scale} {k : ℕ} {ts : List Token} {ns : List Node} → Operand s k ts ns → (ms : List Node) × Operand z k ts ms × (length ns ≡ length ms)
    operand_at (negated {ns = ns} p) = let x = operand_at p in (_, negated x.1, one_node ns x.0 _ _ x.2)
    operand_at (prefixed of {ns = ns} e b p) = let x = operand_at p in let w = bound_at b z.time in (_, prefixed of e w.2 x.1, one_node ns x.0 _ _ x.2)
    operand_at (constant b) = (_, constant b, refl)
    operand_at (enclosed d) = let x = derived_at d in (x.0, enclosed x.1, x.2)
    operand_at (compared a) = (_, compared (atom_at a z.value).1, refl)

-- the nodes that the tokens are at another scale
pub rescaled : {s : Scale} {k : ℕ} {ts : List Token} {ns : List Node} → IsFormula s k ts ns → (z : Scale) → (ms : List Node) × IsFormula z k ts ms
rescaled f z = let x = derived_at z (formula_derived 1 (omega arith) f) in (x.0, as_formula x.1)
