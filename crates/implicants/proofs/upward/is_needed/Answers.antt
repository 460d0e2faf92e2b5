use Rattle.std.proofs.Common.{◌≡◌, ◌<◌, ℕ, Bool, List, Some, length, subst, sym}
use Rattle.std.proofs.lemmas.Result.{IfOk-weaker, on_ok_weaker}
use Rattle.std.specs.Prelude.{IfSome, slice_get}
use Rattle.std.proofs.lemmas.Option.{slice_get_within}
use Rattle.value_laws.specs.Kinds.{kleene_shape}
use Rattle.stl_syntax.specs.declared.items.Item.{Item}
use Rattle.stl_syntax.specs.declared.atom.Atom.{Atom}
use Rattle.stl_syntax.specs.declared.node.Node.{Node}
use Rattle.stl_syntax.specs.declared.node.Node.TheVariants.{Atom as Leaf}
use Rattle.implicants.specs.Upward.{AreLostEach, HasBest, HasBestIn}
use Rattle.implicants.proofs.upward.is_needed.Goals as goal
use Rattle.implicants.proofs.upward.is_needed.Goals.{After-put_lost, In-Some}

made_best : (c : After-put_lost) → HasBest kleene_shape c.args.formula.now.nodes c.args.trace.now c.args.cells.now.all.items c.args.marks.now c.args.c
    c.args.ground.now.signs.items c.cell_at-cell.result.node c.in_ok-made.made
made_best c =
    let leaf = c.is_leaf.ensures c.if-not-is_leaf.false in
    c.in_ok-made.ensures.best c.args.formula.now.nodes c.args.ground.now.signs.items leaf.0 c.requires.given.cells leaf.1 c.sign_of-best.ensures

begun : (c : In-Some) → HasBest kleene_shape c.args.formula.now.nodes c.args.trace.now c.args.cells.now.all.items c.args.marks.now c.args.c
    c.args.ground.now.signs.items c.cell_at-cell.result.node c.in_ok-made.made
    → HasBestIn kleene_shape c.args.formula.now.nodes c.args.trace.now c.args.cells.now.all.items c.args.marks.now c.args.c
    c.args.ground.now.signs.items c.cell_at-cell.result.node c.put_lost.new.done.items
begun c best =
    let tr = c.args.trace.now in
    let signs = c.args.ground.now.signs.items in
    let i = c.cell_at-cell.result.node in
    let put = subst (λ o. IfSome o (λ r. (nodes : List Node) (all : List Item) (marks : List Bool) (k : ℕ)
    → AreLostEach nodes tr all marks k signs c.args.runs.now → HasBest kleene_shape nodes tr all marks k signs i c.in_ok-made.made
    → HasBestIn kleene_shape nodes tr all marks k signs i c.put_lost.new.done.items)) c.in-Some.is c.in_ok-region.ensures.best in
    put c.args.formula.now.nodes c.args.cells.now.all.items c.args.marks.now c.args.c c.requires.lost best

pub returns-clause-needed : goal.returns-clause-needed
returns-clause-needed c = IfOk-weaker c.loses_root.result _ _ (λ b needed h.
    let k = goal.at.returns-clause-needed c in
    needed h c.args.cells.now.all.items c.args.marks.now c.args.c (record { signed = c.requires.signs; lost = c.requires.lost })
    (begun k.In-Some (made_best k.After-put_lost))) c.loses_root.ensures.needed

pub returns-clause-gained : goal.returns-clause-gained
returns-clause-gained c = on_ok_weaker c.loses_root.result (λ has.
    let k = goal.at.returns-clause-gained c in
    let all = c.args.cells.now.all.items in
    let marks = c.args.marks.now in
    let best = made_best k.After-put_lost in
    has all marks c.args.c (record { signed = c.requires.signs; lost = c.requires.lost }) (begun k.In-Some best)
    (c.in_ok-region.ensures.gained c.args.formula.now.nodes all marks c.args.c c.requires.lost best c.requires.gained)) c.loses_root.ensures.gained

pub returns-in_default-clause-gained : goal.returns-in_default-clause-gained
returns-in_default-clause-gained c =
    let best = made_best (goal.at.returns-in_default-clause-gained c).After-put_lost in
    c.in_ok-region.ensures.gained c.args.formula.now.nodes c.args.cells.now.all.items c.args.marks.now c.args.c c.requires.lost best c.requires.gained

pub cell_at-cell-requires : goal.cell_at-cell-requires
cell_at-cell-requires c = c.requires.inside

-- the cell's node is one of the formula's
leaf_within : (nodes : List Node) (i : ℕ) → (a : Atom) × (slice_get nodes i ≡ Some (Leaf a)) → i < length nodes
leaf_within nodes i (a, at) = slice_get_within nodes i (Leaf a) at

pub sign_of-best-requires : goal.sign_of-best-requires
sign_of-best-requires c =
    subst (λ n. c.cell_at-cell.result.node < n) (sym c.requires.signs.count)
    (leaf_within c.args.formula.now.nodes c.cell_at-cell.result.node (c.is_leaf.ensures c.if-not-is_leaf.false))

pub chain_without-requires : goal.chain_without-requires
chain_without-requires c = record { some = c.requires.given.some; inside = c.requires.inside; marks = c.requires.given.count }

pub put_lost-requires : goal.put_lost-requires
put_lost-requires c = record {
  some = c.requires.given.some;
  inside = leaf_within c.args.formula.now.nodes c.cell_at-cell.result.node (c.is_leaf.ensures c.if-not-is_leaf.false);
  runs = record { count = c.requires.signs.count; lists = c.requires.runs };
  made = c.in_ok-made.ensures.whole;
  chains = c.requires.chains;
}

pub loses_root-requires : goal.loses_root-requires
loses_root-requires c = record {
  some = c.requires.given.some;
  inside = leaf_within c.args.formula.now.nodes c.cell_at-cell.result.node (c.is_leaf.ensures c.if-not-is_leaf.false);
  runs = record { count = c.requires.signs.count; lists = c.requires.runs };
  chains = c.put_lost.ensures.chains;
}

pub returns-clause-chains : goal.returns-clause-chains
returns-clause-chains c = c.loses_root.ensures.chains

pub returns-in_default-clause-chains : goal.returns-in_default-clause-chains
returns-in_default-clause-chains c = c.put_lost.ensures.chains
