use Rattle.std.proofs.Common.{◌≡◌, ◌∙◌, ap, subst, Some, arith}
use Rattle.stl_syntax.specs.declared.node.Node.TheVariants.{Atom as Leaf}
use Rattle.std.specs.Prelude.{slice_get}
use Rattle.early_verdict.specs.Standing.{IsOperatorAt, LeafIsBound, own_list}
use Rattle.early_verdict.specs.Living.{LeafSteps, ShowsBy}
use Rattle.early_verdict.specs.declared.sets.Sets.{Sets}
use Rattle.early_verdict.proofs.NodeSets.{own_changed, own_leaf, own_stepped, own_stored}
use Rattle.early_verdict.proofs.SplitLists.{changed_as}
use Rattle.early_verdict.proofs.net.entry_at.Goals as goal

pub leaf_at-requires-clause-within : goal.leaf_at-requires-clause-within
leaf_at-requires-clause-within c = omega (arith, c.requires.within, c.requires.shown_count)

pub leaf_at-requires-clause-atom : goal.leaf_at-requires-clause-atom
leaf_at-requires-clause-atom c =
    subst (λ n. LeafIsBound c.args.bound.now c.args.i n) (c.is_atom.ensures.yes c.if-is_atom.true).1
    (c.requires.atoms c.node-node.result.now c.node-node.ensures.node)

pub step_at-requires-clause-within : goal.step_at-requires-clause-within
step_at-requires-clause-within c = omega (arith, c.requires.within, c.requires.count)

pub step_at-requires-clause-shown_within : goal.step_at-requires-clause-shown_within
step_at-requires-clause-shown_within c = omega (arith, c.requires.within, c.requires.shown_count)

pub step_at-requires-clause-tidy : goal.step_at-requires-clause-tidy
step_at-requires-clause-tidy c = λ s is.
    c.requires.tidy c.args.i s (own_stored c.args.formula.now.nodes c.args.live.now c.args.shown.now c.args.i
    (c.node-node.result.now, c.node-node.ensures.node, c.is_atom.ensures.no c.if-is_atom.false) c.requires.shown_count s is)

pub step_at-requires-clause-none : goal.step_at-requires-clause-none
step_at-requires-clause-none c = λ f s is.
    c.requires.none f s (own_stored c.args.formula.now.nodes c.args.live.now c.args.shown.now c.args.i
    (c.node-node.result.now, c.node-node.ensures.node, c.is_atom.ensures.no c.if-is_atom.false) c.requires.shown_count s is)

pub show_at-requires-clause-within : goal.show_at-requires-clause-within
show_at-requires-clause-within c = omega (arith, c.requires.within, c.requires.shown_count)

pub show_at-requires-clause-live_within : goal.show_at-requires-clause-live_within
show_at-requires-clause-live_within c = let k = c.in_ok-step_at.ensures.0.count in omega (arith, c.requires.within, c.requires.count, k)

pub returns-then-is_atom-clause-comes : goal.returns-then-is_atom-clause-comes
returns-then-is_atom-clause-comes c =
    let nodes = c.args.formula.now.nodes in
    let live = c.args.live.now in
    let new = c.leaf_at.new.shown in
    let (a, is) = c.is_atom.ensures.yes c.if-is_atom.true in
    let here = c.node-node.ensures.node ∙ ap Some is in
    let goes = c.in_ok-leaf_at.ensures in
    let shows_by : (s r : Sets) → slice_get new c.args.i ≡ Some r → LeafSteps s r → ShowsBy (own_list nodes live new) c.args.i s r = λ s r e k.
    record { own = r; at_live = own_leaf nodes live new c.args.i a here c.requires.count r e; shown = k.1 } in
    record {
      n = Leaf a;
      here = here;
      at = own_changed nodes live c.args.shown.now new c.args.i a here c.requires.count c.requires.shown_count (changed_as (λ s r e k. k.0) goes.0);
      shows = changed_as shows_by goes.0;
      fits = λ old tr was happens had parts leaf w. goes.1 a old tr leaf w;
    }

pub returns-clause-count : goal.returns-clause-count
returns-clause-count c = c.in_ok-step_at.ensures.0.count

pub returns-clause-comes : goal.returns-clause-comes
returns-clause-comes c =
    let nodes = c.args.formula.now.nodes in
    let live = c.step_at.new.live in
    let new = c.show_at.new.shown in
    let here = c.node-node.ensures.node in
    let operator : IsOperatorAt nodes c.args.i = (c.node-node.result.now, here, c.is_atom.ensures.no c.if-is_atom.false) in
    let goes = c.in_ok-step_at.ensures in
    let shows = c.in_ok-show_at.ensures in
    let shows_by : (s r : Sets) → slice_get new c.args.i ≡ Some r → ShowsBy live c.args.i s r → ShowsBy (own_list nodes live new) c.args.i s r = λ s r e k.
    record {
      own = k.own;
      at_live = own_stored nodes live new c.args.i operator (shows.count ∙ c.requires.shown_count) k.own k.at_live;
      shown = k.shown;
    } in
    record {
      n = c.node-node.result.now;
      here = here;
      at = own_stepped nodes c.args.live.now live c.args.shown.now new c.args.i operator c.requires.count c.requires.shown_count
          goes.0 shows.count shows.others;
      shows = changed_as shows_by shows;
      fits = λ old tr was happens had parts leaf w. goes.1 old tr was happens had parts w;
    }
