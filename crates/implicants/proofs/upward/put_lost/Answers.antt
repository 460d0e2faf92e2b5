use Rattle.std.proofs.Common.{arith, subst, sym, length-set, ◌∙◌, ◌<◌, ◌≤◌, ◌^◌}
use Rattle.stl_syntax.specs.Trace.{first_time}
use Rattle.implicants.specs.Upward.{AreLost}
use Rattle.implicants.proofs.GivenUp.{gained_lost}
use Rattle.implicants.proofs.LostAbove.{both_best, both_best_in}
use Rattle.implicants.proofs.Wholes.{whole_both, whole_meet, whole_set}
use Rattle.implicants.proofs.upward.put_lost.Goals as goal

pub best_of-requires : goal.best_of-requires
best_of-requires c = whole_meet c.args.trace.now c.args.made.now c.in_ok-own.own c.requires.made c.in_ok-own.ensures.whole

pub returns-clause-chains : goal.returns-clause-chains
returns-clause-chains c =
    let tr = c.args.trace.now in
    let late = subst (λ n. n < 2 ^ 32) c.last.ensures.last c.last.type_inv in
    let order = subst (λ n. first_time tr.rows ≤ n) c.last.ensures.last c.last.ensures.later in
    record {
      count = length-set c.args.done.now.items c.args.k c.in_ok-both.both ∙ c.requires.chains.count;
      whole = whole_set tr c.args.done.now.items c.args.k c.in_ok-both.both
          (whole_both tr c.sign_of-best.result c.args.made.now c.in_ok-own.own c.in_ok-both.both order late c.requires.made c.in_ok-both.ensures)
          c.requires.chains.whole;
    }

pub returns-in_default-clause-chains : goal.returns-in_default-clause-chains
returns-in_default-clause-chains c = c.requires.chains

pub last-requires : goal.last-requires
last-requires c = c.requires.some

pub sign_of-best-requires : goal.sign_of-best-requires
sign_of-best-requires c = subst (λ n. c.args.k < n) (sym c.requires.runs.count) c.requires.inside

pub runs_in-here-requires : goal.runs_in-here-requires
runs_in-here-requires c = subst (λ n. c.args.k < n) (sym c.requires.runs.lists) c.requires.inside

pub own_at-requires : goal.own_at-requires
own_at-requires c = record { some = c.requires.some; inside = subst (λ n. c.args.k < n) (sym c.requires.runs.count) c.requires.inside }

pub returns-clause-best : goal.returns-clause-best
returns-clause-best c nodes all marks i lost made x at =
    let tr = c.args.trace.now in
    let (v, there, same) = c.runs_in-here.ensures in
    let own = subst (AreLost nodes tr all marks i c.args.ground.now.signs.items) (sym same) (lost c.args.k v there) in
    let place = subst (λ n. c.args.k < n) (sym c.requires.chains.count) c.requires.inside in
    both_best_in nodes tr all marks i c.args.ground.now.signs.items c.args.done.now.items c.args.k c.sign_of-best.result c.args.made.now c.in_ok-own.own
    c.in_ok-both.both place c.sign_of-best.ensures c.in_ok-both.ensures made (c.in_ok-own.ensures.best nodes all marks i own) x at

pub returns-clause-gained : goal.returns-clause-gained
returns-clause-gained c nodes all marks i lost made before =
    let tr = c.args.trace.now in
    let (v, there, same) = c.runs_in-here.ensures in
    let own = subst (AreLost nodes tr all marks i c.args.ground.now.signs.items) (sym same) (lost c.args.k v there) in
    gained_lost nodes tr all marks i c.args.ground.now.signs.items c.args.k c.sign_of-best.result c.in_ok-both.both c.args.gained.now.items
    c.add_gained.new.gained.items c.sign_of-best.ensures c.in_ok-add_gained.ensures
    (both_best nodes tr all marks i c.args.ground.now.signs.items c.args.k c.sign_of-best.result c.args.made.now c.in_ok-own.own c.in_ok-both.both
    c.sign_of-best.ensures c.in_ok-both.ensures made (c.in_ok-own.ensures.best nodes all marks i own)) before

pub index_mut-requires : goal.index_mut-requires
index_mut-requires c =
    let i = c.requires.inside in let n = c.requires.chains.count in let k = c.args.done.now.ok in omega (arith, i, n, k.0)
