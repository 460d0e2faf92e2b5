-- The answer of a case: the times of its trace, the chains of its atoms, and what the root's signal tells of the formula.
use Rattle.std.proofs.Common.{◌≡◌, ℕ, pos, ◌-◌, ◌<◌, ap, true, false, List, [], ◌∷◌}
use Rattle.std.proofs.Common.{length, Some, refl, sym, ◌∙◌, subst, arith}
use Rattle.std.specs.Prelude.{slice_get}
use Rattle.std.proofs.lemmas.Bool.{false≢true}
use Rattle.std.proofs.lemmas.Option.{same_Some}
use Rattle.rational.specs.Time.{whole}
use Rattle.rational.specs.Places.{Place}
use Rattle.value_laws.specs.Members.{ShapeOf}
use Rattle.pl_signal.specs.declared.knot.Knot.{Knot}
use Rattle.pl_signal.specs.Knots as knots
use Rattle.pl_signal.specs.Moves.{Tells}
use Rattle.pieces.specs.declared.piece.Piece.{Piece}
use Rattle.pieces.specs.Chains as chains
use Rattle.pieces.specs.Chains.{Chain}
use Rattle.stl_syntax.specs.Trace.{Row, Trace, AreRows, IsTrace, first_time, last_time, start, stop}
use Rattle.stl_syntax.specs.Formula.{atom, root, subformula}
use Rattle.stl_syntax.specs.SupInf.{Reading, SupInf, HasValues, HasInfs, one}
use Rattle.stl_syntax.specs.declared.atom.Atom.{Atom}
use Rattle.stl_syntax.specs.declared.node.Node.TheVariants.{Atom as Leaf}
use Rattle.atom_lines.specs.Binding.{IsBound}
use Rattle.atom_lines.specs.AtomSignals.{IsAtomSignal}
use Rattle.atom_pieces.specs.AtomChains.{IsAtomChain}
use Rattle.offline_eval.specs.Forms.{of_knots, of_pieces}
use Rattle.offline_eval.specs.Inputs.{IsInput, IsOver}
use Rattle.offline_eval.specs.Keeping.{IsStack}
use Rattle.offline_eval.specs.Making.{TellsValue}
use Rattle.offline_eval.specs.Evaluation.{TellNodes}
use Rattle.offline_eval.proofs.Along.{tells_along}
use Rattle.offline_eval.proofs.Forms.{knots_laws, pieces_laws}
use Rattle.offline_eval.proofs.Pointwise.{value_of}
use Rattle.trace_stream.specs.declared.case.Case.{Case}
use Rattle.whole_answers.specs.Answering.{setting_of, IsRootOf}

-- a trace has a row
pub some_rows : (width : ℕ) (rows : List Row) → AreRows width rows → 0 < length rows
some_rows width [] h = absurd h
some_rows width (r ∷ rows) h = omega arith

-- a row for places behind the last one
pub no_row : Row
no_row = record { time = 0; values = [] }

module _ {P : Type 0} (shape : ShapeOf P) (reading : Trace → Reading) (c : Case) where
  -- the stack over the ends of the trace is one over the same ends
  pub stands_over : (from to n : ℕ) (xs : List (Chain P)) → from ≡ first_time c.trace.rows → to ≡ last_time 0 c.trace.rows
      → IsStack (of_pieces shape) (first_time c.trace.rows) (last_time 0 c.trace.rows) c.formula.nodes n xs
      → IsStack (of_pieces shape) from to c.formula.nodes n xs
  stands_over from to n xs e h st = subst (λ f. IsStack (of_pieces shape) f to c.formula.nodes n xs) (sym e)
      (subst (λ t. IsStack (of_pieces shape) (first_time c.trace.rows) t c.formula.nodes n xs) (sym h) st)

  -- and the other way round
  pub stands_back : (from to n : ℕ) (xs : List (Chain P)) → from ≡ first_time c.trace.rows → to ≡ last_time 0 c.trace.rows
      → IsStack (of_pieces shape) from to c.formula.nodes n xs
      → IsStack (of_pieces shape) (first_time c.trace.rows) (last_time 0 c.trace.rows) c.formula.nodes n xs
  stands_back from to n xs e h st = subst (λ f. IsStack (of_pieces shape) f (last_time 0 c.trace.rows) c.formula.nodes n xs) e
      (subst (λ t. IsStack (of_pieces shape) from t c.formula.nodes n xs) h st)

  -- the trace is read over its own ends
  pub over_ends : IsOver shape.lowest shape.highest (first_time c.trace.rows) (last_time 0 c.trace.rows) (setting_of shape reading c.trace)
  over_ends = record { lowest = refl; highest = refl; from = refl; to = refl }

  -- so it is over equal ones
  pub over_same : (from to : ℕ) → from ≡ first_time c.trace.rows → to ≡ last_time 0 c.trace.rows
      → IsOver shape.lowest shape.highest from to (setting_of shape reading c.trace)
  over_same from to e h = record { lowest = refl; highest = refl; from = ap (λ n. whole (pos n)) (sym e); to = ap (λ n. whole (pos n)) (sym h) }

  -- the chain of an atom tells its node
  pub atom_tells : (i : ℕ) (a : Atom) (x : Chain P) → slice_get c.formula.nodes i ≡ Some (Leaf a) → subformula c.formula.nodes i ≡ atom i a
      → IsBound c.bound c.formula c.trace.header → IsTrace c.trace → IsAtomChain shape reading c.bound i c.trace x
      → TellsValue (of_pieces shape) (setting_of shape reading c.trace) (subformula c.formula.nodes i) x
  atom_tells i a x at e bound rows is = subst (λ f. TellsValue (of_pieces shape) (setting_of shape reading c.trace) f x) (sym e)
      (is.tells a (record { formula = c.formula; bound = bound; node = at; rows = rows }))

  -- and is one that an evaluation takes
  pub atom_input : (i : ℕ) (x : Chain P) → IsAtomChain shape reading c.bound i c.trace x
      → IsInput (of_pieces shape) (first_time c.trace.rows) (last_time 0 c.trace.rows) x
  atom_input i x is = record {
    begins = is.begins.0;
    ends = is.ends.0;
    bases = is.bases;
    limited = record { limited = is.limited; first = is.begins.1; last = is.ends.1 };
  }

  -- the last of chains that tell the nodes tells the root
  pub root_chain : (chains : List (Chain P)) (x : Chain P) → 0 < length c.formula.nodes
      → TellNodes (of_pieces shape) c.formula.nodes chains (setting_of shape reading c.trace) → slice_get chains (length c.formula.nodes - 1) ≡ Some x
      → TellsValue (of_pieces shape) (setting_of shape reading c.trace) (root c.formula.nodes) x
  root_chain chains x some told is =
      let node = told (length c.formula.nodes - 1) (omega (arith, some)) in
      subst (TellsValue (of_pieces shape) (setting_of shape reading c.trace) (root c.formula.nodes)) (same_Some _ _ (sym node.1 ∙ is)) node.2

  -- and its signal is the root's
  pub root_told : (chain : Chain P) (x : List (Knot P)) → TellsValue (of_pieces shape) (setting_of shape reading c.trace) (root c.formula.nodes) chain
      → Tells shape (chains.IsWorth shape chain) chain.from.at (chains.stop chain).at x
      → HasValues (root c.formula.nodes) (setting_of shape reading c.trace) × HasInfs (root c.formula.nodes) (setting_of shape reading c.trace)
      → IsRootOf shape reading c x
  root_told chain x tells told have =
      let s = setting_of shape reading c.trace in
      record {
        tells = tells_along (knots_laws shape) (chains.IsWorth shape chain) (SupInf (root c.formula.nodes) s) chain.from.at (chains.stop chain).at
            (start c.trace) (stop c.trace) x told tells.begins.0 tells.ends.0
            (λ t v w. value_of (pieces_laws shape) (SupInf (root c.formula.nodes) s) s.from s.to chain t v tells w);
        values = have.0;
        infs = have.1;
      }

  -- the signal of an atom tells its node
  pub knots_tell : (i : ℕ) (a : Atom) (x : List (Knot P)) → slice_get c.formula.nodes i ≡ Some (Leaf a) → subformula c.formula.nodes i ≡ atom i a
      → IsBound c.bound c.formula c.trace.header → IsTrace c.trace → IsAtomSignal shape reading c.bound i c.trace x
      → TellsValue (of_knots shape) (setting_of shape reading c.trace) (subformula c.formula.nodes i) x
  knots_tell i a x at e bound rows is = subst (λ f. TellsValue (of_knots shape) (setting_of shape reading c.trace) f x) (sym e)
      (is.tells a (record { formula = c.formula; bound = bound; node = at; rows = rows }))

  module _ (x : List (Knot P)) (one : length c.formula.nodes ≡ 1)
      (tells : TellsValue (of_knots shape) (setting_of shape reading c.trace) (subformula c.formula.nodes 0) x) where
    -- the signal of an only node tells all nodes
    pub only_node : TellNodes (of_knots shape) c.formula.nodes (x ∷ []) (setting_of shape reading c.trace)
    only_node i h =
        let first : i ≡ 0 = omega (arith, one, h) in (
          x,
          subst (λ k. slice_get (x ∷ []) k ≡ Some x) (sym first) refl,
          subst (λ k. TellsValue (of_knots shape) (setting_of shape reading c.trace) (subformula c.formula.nodes k) x) (sym first) tells,
        )

    -- and it is the root's
    pub only_told : HasValues (root c.formula.nodes) (setting_of shape reading c.trace) × HasInfs (root c.formula.nodes) (setting_of shape reading c.trace)
        → IsRootOf shape reading c x
    only_told have =
        let last : 0 ≡ length c.formula.nodes - 1 = omega (arith, one) in
        record {
          tells = subst (λ k. TellsValue (of_knots shape) (setting_of shape reading c.trace) (subformula c.formula.nodes k) x) last tells;
          values = have.0;
          infs = have.1;
        }

-- a chain from just before a time to just after one has a piece
pub some_piece : {P : Type 0} (chain : Chain P) → chain.from.after ≡ false → (chains.stop chain).after ≡ true → 0 < length chain.pieces
some_piece {P = P} chain first last = by_pieces chain.from chain.pieces first last
  where
    by_pieces : (from : Place) (ps : List (Piece P)) → from.after ≡ false → (chains.stop_from from ps).after ≡ true → 0 < length ps
    by_pieces from [] first last = absurd (false≢true (sym first ∙ last))
    by_pieces from (p ∷ ps) first last = omega arith
