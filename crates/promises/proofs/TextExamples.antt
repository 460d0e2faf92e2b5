-- Texts, faults of units and the generator at small cases.
use Rattle.std.proofs.Common.{◌≡◌, ℕ, zero, suc, [], ◌∷◌, ◌++◌, refl, inl, inr, true, false, pos, negsuc, lit≤, lit<, arith, subst}
use Rattle.std.proofs.lemmas.List.Elements.{All-nil}
use Rattle.std.specs.Prelude.{codes, Some, None, slice_get}
use Rattle.std.specs.Fmt.{digits}
use Rattle.stl_syntax.specs.Formula.{Formula, once, eventually, atom}
use Rattle.stl_syntax.specs.Print.{IsDecimalText, IsAtomText, IsPrinted}
use Rattle.command_line.specs.ErrTexts.{formula_fault_text, trace_fault_text, unit_fault_text, wide_text}
use Rattle.stl_syntax.specs.Texts.{newline}
use Rattle.stl_syntax.specs.Limits.{HasLargeConstant}
use Rattle.stl_syntax.specs.Binding.{IsUnknown, IsUnitFault}
use Rattle.workload_summary.specs.Generator.{rows_after}
use Rattle.command_line.specs.Commands.{IsForm, on_formula, robust, of_formula}
use Rattle.workbench.specs.Sessions.{MuxText, own, tag, IsTagged, followed}
use Rattle.stl_syntax.specs.declared.scale.Scale.{Scale}
use Rattle.stl_syntax.specs.declared.atom.Atom.{Atom}
use Rattle.stl_syntax.specs.declared.rel.Rel.TheVariants.{AtLeast}
use Rattle.stl_syntax.specs.declared.node.Node.{Node}
use Rattle.stl_syntax.specs.declared.node.Node.TheVariants.{Const, Atom as Leaf, Eventually}
use Rattle.stl_grammar.specs.declared.fault.What.TheVariants.{Constant}
use Rattle.stl_grammar.specs.declared.fault.FormulaFault.TheVariants.{Expected}
use Rattle.stl_syntax.specs.declared.scale.UnitFault.TheVariants as unit
use Rattle.trace_reader.specs.declared.refusal.TraceKind.TheVariants.{OutOfRange}
use Rattle.stl_syntax.proofs.Examples.{no_digits}

abbrev tenths : Scale
tenths = record { time = 1; value = 1 }

-- 15 tenths are 1.5, and 20 tenths are 2
one_and_a_half : IsDecimalText 1 15 (codes "1.5")
unfolding digits
one_and_a_half = record { whole = 1; decimals = codes "5"; are_digits = refl; fewest = refl; same = refl; is = refl }

two : IsDecimalText 1 20 (codes "2")
unfolding digits
two = record { whole = 2; decimals = []; are_digits = refl; fewest = refl; same = refl; is = refl }

half : IsDecimalText 1 5 (codes "0.5")
unfolding digits
half = record { whole = 0; decimals = codes "5"; are_digits = refl; fewest = refl; same = refl; is = refl }

abbrev bound_atom : Atom
bound_atom = record { terms = record { coef = pos 1; name = codes "x" } ∷ record { coef = negsuc 2; name = codes "y" } ∷ []; rel = AtLeast; limit = negsuc 14 }

-- an atom and a formula as they are printed
atom_printed : IsAtomText tenths bound_atom (codes "x - 3*y >= -1.5")
unfolding digits
atom_printed = (codes "-1.5", (codes "1.5", one_and_a_half, refl), refl)

formula_printed : IsPrinted tenths (eventually 5 20 false true (atom 0 bound_atom)) (codes "eventually]0.5,2] x - 3*y >= -1.5")
formula_printed = (
  codes "eventually]0.5,2]",
  codes "x - 3*y >= -1.5",
  (codes "]0.5,2]", (codes "0.5", codes "2", half, two, refl), refl),
  (codes "x - 3*y >= -1.5", atom_printed, refl),
  refl,
)

-- a past bound [0,inf] is left out
past_printed : IsPrinted tenths (once 0 None true true (atom 0 bound_atom)) (codes "once x - 3*y >= -1.5")
past_printed = (codes "once", codes "x - 3*y >= -1.5", ([], refl, refl), (codes "x - 3*y >= -1.5", atom_printed, refl), refl)

-- lines on the error stream
expected_line : formula_fault_text (Expected 4 Constant) ≡ codes "formula at 4: expected a constant" ++ newline
unfolding digits
expected_line = refl

range_line : trace_fault_text (record { line = 3; kind = OutOfRange 2 }) ≡ codes "line 3: field 2: out of range" ++ newline
unfolding digits
range_line = refl

unit_line : unit_fault_text 1 (unit.Constant 0) ≡ codes "line 1: node 0: constant out of range" ++ newline
unfolding digits
unit_line = refl

wide_line : wide_text 4 2305841909703114752 ≡ codes "wide: node 4 needs denominator 2305841909703114752" ++ newline
unfolding digits
wide_line = refl

-- x >= 1073741824 has no form in tenths, and neither has a bound of 4294967295
abbrev large : Formula
large = record {
  nodes = Leaf (record { terms = record { coef = pos 1; name = codes "x" } ∷ []; rel = AtLeast; limit = pos 1073741824 }) ∷ [];
  scale = no_digits;
}

constant_out : IsUnitFault large (record { time = 0; value = 1 }) (unit.Constant 0)
constant_out = inl (0, record { node = _; at = refl; is = lit< tt; none_before = λ j n l e. absurd (omega arith) }, refl)

reach_out : IsUnitFault (record { nodes = Const true ∷ Eventually 0 0 4294967295 true true ∷ []; scale = no_digits }) tenths (unit.Reach 42949672950)
reach_out = inr ((λ x h. none h.0 h.1.node h.1.at h.1.is), (lit< tt, refl))
  where
    none : (i : ℕ) (n : Node) → slice_get (Const true ∷ Eventually 0 0 42949672950 true true ∷ []) i ≡ Some n → HasLargeConstant n → ⊥
    none zero n e h = let P : Node → Type 0 = HasLargeConstant in subst P (let same : n ≡ Const true = cc in same) h
    none (suc zero) n e h = let P : Node → Type 0 = HasLargeConstant in subst P (let same : n ≡ Eventually 0 0 42949672950 true true = cc in same) h
    none (suc (suc i)) n e h = let x : None ≡ Some n = e in cc

-- a header without the column
unknown_z : IsUnknown [] large 0 0 (codes "x")
unknown_z = record {
  owner = _;
  lacking = _;
  at_atom = refl;
  at_term = refl;
  named = refl;
  no_column = λ h. cc;
  terms_before = All-nil _;
  nodes_before = All-nil _;
}

-- the one value of `gen 0 1`
one_row : rows_after 0 0 1 ≡ record { time = 0; values = negsuc 884560 ∷ negsuc 884560 ∷ [] } ∷ []
one_row = refl

-- words
robust_words : IsForm (codes "robust" ∷ codes "-x > 0" ∷ []) (on_formula robust (codes "-x > 0"))
robust_words = of_formula robust

-- a line of a session, its own bytes, and no lines at all
tagged : IsTagged (codes "a 0,0") (record { tag = codes "a"; content = codes "0,0" })
tagged = followed (codes "0,0") (tag refl (lit≤ tt))

own_bytes : own (record { tag = codes "a"; content = codes "time" } ∷ record {
  tag = codes "b";
  content = codes "x";
} ∷ record { tag = codes "a"; content = codes "?" }
    ∷ record { tag = codes "a"; content = codes "." } ∷ record { tag = codes "a"; content = codes "y" } ∷ []) (codes "a") ≡ codes "time" ++ newline
own_bytes = refl

no_lines : MuxText large [] true []
no_lines = ([], [], refl, refl, refl)
