-- The laws in the words of specs/Laws.antt, from the lemmas on tokens and derivations.
use Rattle.std.proofs.Common.{◌≡◌, ℕ, List, ap, sym, ◌∙◌}
use Rattle.stl_syntax.specs.Formula.{Formula}
use Rattle.stl_syntax.specs.Limits.{IsTooLarge, HasLargeConstant}
use Rattle.stl_syntax.specs.declared.node.Node.{Node}
use Rattle.stl_syntax.specs.declared.scale.Scale.{Scale}
use Rattle.stl_syntax.proofs.ScalingLemmas.{one_first}
use Rattle.stl_syntax.proofs.ChoiceLemmas.{AtMostOne, where-unique, or_else-unique}
use Rattle.stl_grammar.specs.Grammar.{IsFormula}
use Rattle.stl_grammar.specs.FormulaRefusals.{IsLateFault}
use Rattle.stl_grammar.specs.Laws.{OneFormula, OneRefusal}
use Rattle.stl_grammar.specs.declared.fault.FormulaFault.{FormulaFault}
use Rattle.stl_grammar.specs.declared.fault.FormulaFault.TheVariants.{ReachTooLarge, ConstantTooLarge}
use Rattle.stl_grammar.proofs.RefusalLaw.{TokenFault-unique, Lexes-unique, scale-unique}
use Rattle.stl_grammar.proofs.MachineRuns.{nodes_unique}

same_formula : (ns ms : List Node) (s t : Scale) → ns ≡ ms → s ≡ t → ◌≡◌ {A = Formula} (record { nodes = ns; scale = s }) (record { nodes = ms; scale = t })
same_formula ns ms s t e f = cc

-- a text has at most one formula
pub one_formula : OneFormula
one_formula text f g h k =
    let e : f.scale ≡ g.scale = scale-unique text f g h k in
    let x : IsFormula g.scale 0 k.tokens f.nodes = rw (← e, ← Lexes-unique h.lexed k.lexed) h.parsed in
    same_formula f.nodes g.nodes f.scale g.scale (nodes_unique g.scale x k.parsed) e

too_large_unique : (nodes : List Node) → AtMostOne (IsTooLarge {A = FormulaFault} ConstantTooLarge ReachTooLarge nodes)
too_large_unique nodes = or_else-unique _ _
    (λ x y h k. h.2 ∙ (ap ConstantTooLarge (one_first HasLargeConstant nodes h.0 k.0 h.1 k.1) ∙ sym k.2)) (where-unique _ _)

late_unique : (text : List ℕ) → AtMostOne (IsLateFault text)
late_unique text x y h k =
    let e : h.0 ≡ k.0 = one_formula text h.0 k.0 h.1 k.1 in too_large_unique k.0.nodes x y (rw (← e) h.2) k.2

-- and at most one first refusal
pub one_refusal : OneRefusal
one_refusal text = or_else-unique _ _ (where-unique _ _)
    (or_else-unique _ _ (where-unique _ _) (or_else-unique _ _ (λ x y h k. TokenFault-unique h k) (late_unique text)))
