use Rattle.std.proofs.Common.{rules, ◌≡◌, suc, ◌+◌, ◌<◌, [], ◌∷◌, length, refl, sym, subst, arith}
use Rattle.rational.specs.Time.{Within}
use Rattle.rational.proofs.Order.{le_refl, le_trans, le_of_same, ge_of_same}
use Rattle.frac128.specs.Value.{value}
use Rattle.stl_syntax.specs.Trace.{start, stop}
use Rattle.stl_syntax.specs.SupInf.{truth_setting}
use Rattle.stl_syntax.specs.Cells.{AreCuts}
use Rattle.implicants.specs.Cuts.{times_of, cuts_at, Adds, IsHandedDown}
use Rattle.implicants.proofs.TruthSignals.{node_told}
use Rattle.implicants.proofs.CutTimes.{cuts_of, root_cuts}
use Rattle.implicants.proofs.HandedDown.{ends_of, all_near, all_three, handed_alike}
use Rattle.implicants.proofs.cuts.cuts_of.Goals as goal

pub returns-then-i-count : goal.returns-then-i-count
returns-then-i-count c =
    let nodes = c.args.formula.now.nodes in
    let tr = c.args.trace.now in
    let from = c.tick-from.result in
    let ends = ends_of tr c.first.result c.last.result from c.tick-to.result c.tick-from.ensures c.tick-to.ensures c.first.ensures
    c.last.ensures.last c.first.type_inv c.last.type_inv c.last.ensures.later in
    let inside : Within (value from) (value c.tick-to.result) (value from) =
    record { above = le_refl (value from); below = le_trans (le_of_same ends.begin) (le_trans ends.rise (ge_of_same ends.end)) } in
    let root : suc c.args.i ≡ length nodes = (let t = c.if-i-count.true in let n = c.len-count.ensures.count in omega (arith, t, n)) in
    let put : c.push_within.new.times.items ≡ from ∷ [] = search (rules, c.in_ok-push_within.ensures.inside inside, c.new-times.ensures.items) in
    subst (λ xs. AreCuts nodes tr c.args.i (times_of xs)) (sym put)
    (root_cuts nodes tr c.args.i (value from) c.len-count.ensures.well_formed.nodes.post_order root ends.begin)

pub add_handed_down-requires-clause-limited : goal.add_handed_down-requires-clause-limited
add_handed_down-requires-clause-limited c =
    let tr = c.args.trace.now in
    let ends = ends_of tr c.first.result c.last.result c.tick-from.result c.tick-to.result c.tick-from.ensures c.tick-to.ensures c.first.ensures
    c.last.ensures.last c.first.type_inv c.last.type_inv c.last.ensures.later in
    all_near c.args.formula.now.nodes tr (c.args.i + 1) c.args.done.now ends.rise ends.early ends.late c.requires.done

pub returns : goal.returns
returns c =
    let nodes = c.args.formula.now.nodes in
    let tr = c.args.trace.now in
    let i = c.args.i in
    let x = c.signal.result.now in
    let cuts = cuts_at (length nodes) c.args.done.now in
    let ends = ends_of tr c.first.result c.last.result c.tick-from.result c.tick-to.result c.tick-from.ensures c.tick-to.ensures c.first.ensures
    c.last.ensures.last c.first.type_inv c.last.type_inv c.last.ensures.later in
    let post = c.len-count.ensures.well_formed.nodes.post_order in
    let below : suc c.args.i < length nodes = (let t = c.if-i-count.false in let n = c.len-count.ensures.count in let m = c.requires.done.count in
    grind (arith, t, n, m)) in
    let inside : c.args.i < length nodes = omega (arith, below) in
    let values = c.told_have_values.ensures nodes c.args.nodes.now (truth_setting tr) post refl c.requires.told.told c.args.i inside in
    let tells = node_told nodes tr c.args.nodes.now c.requires.told c.args.i inside x c.signal.ensures in
    let adds = handed_alike nodes (value c.tick-from.result) (value c.tick-to.result) (start tr) (stop tr) cuts c.args.i
    (times_of c.in_ok-times.times.items) (times_of c.add_handed_down.new.times.items) ends.begin ends.end
    c.in_ok-add_handed_down.ensures in
    let told = subst (λ xs. Adds (IsHandedDown nodes (start tr) (stop tr) cuts c.args.i) (times_of xs) (times_of c.add_handed_down.new.times.items))
    c.in_ok-times.ensures adds in
    all_three c.in_order.result c.in_order.ensures.rising c.in_order.ensures.here c.in_order.ensures.only
    (λ r rising here only. cuts_of nodes tr c.args.i x below values.0 tells cuts (times_of c.add_handed_down.new.times.items) (times_of r.items) post
    (λ j a l. c.requires.done.cuts j (omega (arith, a)) l) told rising here only)
