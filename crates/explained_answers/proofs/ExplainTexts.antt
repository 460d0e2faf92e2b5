-- The answer of `explain`: the text of an explanation is the command's, and why there is none.
use Rattle.std.proofs.Common.{◌≡◌, ℕ, ◌<◌, length, Bool, true, false, List, inl, inr, refl, ap, subst, arith, Some}
use Rattle.std.specs.Prelude.{All, slice_get}
use Rattle.std.proofs.lemmas.List.Elements.{All-nil, All-weaker}
use Rattle.stl_syntax.specs.Formula.{Formula}
use Rattle.stl_syntax.specs.Trace.{Trace}
use Rattle.stl_syntax.specs.PostOrder.{IsPostOrder}
use Rattle.stl_syntax.specs.WellFormed.{IsWellFormed}
use Rattle.stl_syntax.specs.Kept.{most_cells}
use Rattle.stl_syntax.specs.Texts.{start_line}
use Rattle.stl_syntax.specs.declared.node.Node.TheVariants.{Atom as Leaf}
use Rattle.stl_syntax.specs.declared.scale.Scale.{Scale}
use Rattle.stl_syntax.specs.declared.items.Item.{Item}
use Rattle.implicants.specs.Explaining.{IsExplained, IsExplainFault}
use Rattle.implicants.specs.declared.explaining.Explained.{Explained}
use Rattle.implicants.specs.declared.explaining.Explained.TheVariants.{Holds, Violated}
use Rattle.implicants.specs.declared.explaining.ExplainFault.{ExplainFault}
use Rattle.implicants.specs.declared.explaining.ExplainFault.TheVariants as F
use Rattle.implicants.proofs.NodeCounts.{too_many_is_more}
use Rattle.implicants.proofs.OfAtoms.{OfAtom, kept_of_atoms}
use Rattle.stl_syntax.specs.Scaling.{nodes_for}
use Rattle.report.specs.ItemLines.{IsOfAtom}
use Rattle.report.specs.Report.{explain, AreItemLines}
use Rattle.trace_stream.specs.declared.case.Case.{Case}
use Rattle.trace_stream.specs.Cases.{IsCase}
use Rattle.whole_answers.specs.Judging.{IsUnexplained}
use Rattle.explained_answers.specs.Reasons.{items_of, IsReasonText, stop_of_explaining}
use Rattle.whole_answers.specs.Judging.{IsAnswerOf, IsUnanswered}
use Rattle.trace_stream.proofs.Columns.{atom_unscaled}
use Rattle.explained_answers.proofs.KeptRefutes.{kept_refute}

-- in a case of the formula its nodes are those in the trace's ticks
pub nodes_of : (f : Formula) (c : Case) → IsCase f c → c.formula.nodes ≡ nodes_for f c.trace
nodes_of f c case = ap (λ (g : Formula). g.nodes) case.formula

-- the items of an explanation are of atoms of the formula
pub atoms_of_reasons : (f : Formula) (c : Case) (steps : ℕ) (e : Explained) → IsCase f c
    → IsExplained c.formula.nodes c.trace steps e → All (IsOfAtom f) (items_of e)
atoms_of_reasons f c steps Holds case is = All-nil (IsOfAtom f)
atoms_of_reasons f c steps (Violated items) case is =
    All-weaker (OfAtom c.formula.nodes c.trace) (IsOfAtom f) own items (kept_of_atoms c.formula.nodes c.trace items is.kept)
  where
    own : (e : Item) → OfAtom c.formula.nodes c.trace e → IsOfAtom f e
    own e (a, at) = atom_unscaled f c.trace.header.scale e.node a (subst (λ ns. slice_get ns e.node ≡ Some (Leaf a)) (nodes_of f c case) at)

-- few cells are not too many
pub few_cells : (f : Formula) (tr : Trace) (steps : ℕ) (items : List Item)
    → IsExplained (nodes_for f tr) tr steps (Violated items) → (count : ℕ) → ¬ IsUnexplained f tr count
few_cells f tr steps items is count un = absurd (omega (arith, is.few, too_many_is_more (nodes_for f tr) tr most_cells count is.cells un.many is.count))

module _ (f : Formula) (tr : Trace) (text : List ℕ) (post : IsPostOrder (nodes_for f tr)) (some : 0 < length (nodes_for f tr)) where
  over : (scale : Scale) (steps : ℕ) (e : Explained) (holds : Bool) → scale ≡ tr.header.scale
      → IsExplained (nodes_for f tr) tr steps e → IsReasonText scale f e holds text → IsAnswerOf explain f tr holds text
  over scale steps Holds true same is t = record {
    verdict = inl (refl, is.0);
    written = (
      t.items.lines,
      start_line true,
      t.body,
      inl (is.0, t.items.joined),
      (true, is.0, refl),
      subst (λ s. AreItemLines s f t.items.lines t.body) same t.items.written,
      t.is,
    );
    few = λ n un. un.fails is.0;
    sure = kept_refute f tr steps Holds post some is;
  }
  over scale steps Holds false same is t = absurd (let e = t.truth in cc)
  over scale steps (Violated items) true same is t = absurd (let e = t.truth in cc)
  over scale steps (Violated items) false same is t = record {
    verdict = inr (refl, is.fails);
    written = (
      t.items.lines,
      start_line false,
      t.body,
      inr (is.fails, (items, is.kept, t.items.joined)),
      (false, is.fails, refl),
      subst (λ s. AreItemLines s f t.items.lines t.body) same t.items.written,
      t.is,
    );
    few = few_cells f tr steps items is;
    sure = kept_refute f tr steps (Violated items) post some is;
  }

-- the text of an explanation is the command's
pub reasoned : (f : Formula) (c : Case) (steps : ℕ) (e : Explained) (holds : Bool) (text : List ℕ) → IsWellFormed c.formula
    → IsCase f c → IsExplained c.formula.nodes c.trace steps e
    → IsReasonText c.formula.scale f e holds text → IsAnswerOf explain f c.trace holds text
reasoned f c steps e holds text formed case is t =
    let post : IsPostOrder (nodes_for f c.trace) = subst (λ ns. IsPostOrder ns) (nodes_of f c case) formed.nodes.post_order in
    let some : 0 < length (nodes_for f c.trace) = subst (λ ns. 0 < length ns) (nodes_of f c case) formed.some in
    over f c.trace text post some c.formula.scale steps e holds (ap (λ (g : Formula). g.scale) case.formula)
    (subst (λ ns. IsExplained ns c.trace steps e) (nodes_of f c case) is) t

-- why there is no explanation is why there is no answer
pub unreasoned : (f : Formula) (c : Case) (fault : ExplainFault) → IsCase f c → IsExplainFault c.formula.nodes c.trace fault
    → IsUnanswered explain f c.trace (stop_of_explaining fault)
unreasoned f c (F.TooManyCells count) case is =
    let over : IsExplainFault (nodes_for f c.trace) c.trace (F.TooManyCells count) =
    subst (λ ns. IsExplainFault ns c.trace (F.TooManyCells count)) (nodes_of f c case) is in
    record { fails = over.0; many = over.1 }
unreasoned f c F.Memory case is = tt
