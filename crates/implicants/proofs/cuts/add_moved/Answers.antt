use Rattle.std.proofs.Common.{rules, ◌≡◌, ◌^◌, take, to_z, of_z, sym, subst, arith}
use Rattle.std.specs.Int.{w64}
use Rattle.std.proofs.lemmas.Int.{to_z-of_z}
use Rattle.std.proofs.lemmas.List.{take_all}
use Rattle.rational.specs.Rational.{FitsFloor, IsWithin}
use Rattle.rational.specs.Time.{add, whole}
use Rattle.rational.proofs.Mixed.{move_fits}
use Rattle.frac128.specs.Value.{value}
use Rattle.implicants.specs.Cuts.{times_of, Adds, IsMoved}
use Rattle.implicants.proofs.MovedCuts.{adds_none, MovesOne, frac_on}
use Rattle.implicants.proofs.cuts.add_moved.Goals as goal

pub loop-t-init : goal.loop-t-init
loop-t-init c = adds_none (λ t m. m.cut)

pub shift-requires : goal.shift-requires
shift-requires c =
    let same : to_z w64 (of_z w64 c.args.by) ≡ c.args.by = search (rules, to_z-of_z) in
    let near = subst (λ t. IsWithin (2 ^ 34) (value t)) (sym c.t-item.is) (c.requires.limited c.loop-t.t-index c.t-item.result c.loop-t-test.true) in
    subst (λ k. FitsFloor w64 (add (value c.t-item.result) (whole k))) (sym same) (move_fits (value c.t-item.result) c.args.by near c.requires.near)

pub loop-t-preserved : goal.loop-t-preserved
loop-t-preserved c =
    let one : MovesOne (value c.args.from.now) (value c.args.to.now) (to_z w64 (of_z w64 c.args.by)) c.t-item.result c.shift.result
    c.loop-t.times.items c.push_within.new.times.items =
    record { moved = c.shift.ensures.value; inside = c.in_ok-push_within.ensures.inside; outside = c.in_ok-push_within.ensures.outside } in
    frac_on c.args.parent.now c.args.times.now.items c.loop-t.t-index c.loop-t-test.true c.t-item.is one c.loop-t.invariant

pub returns : goal.returns
returns c =
    let same : to_z w64 (of_z w64 c.args.by) ≡ c.args.by = search (rules, to_z-of_z) in
    let all = take_all c.loop-t.t-index c.args.parent.now (let t = c.loop-t-test.false in omega (arith, t)) in
    let told = subst (λ k. Adds (IsMoved (value c.args.from.now) (value c.args.to.now) (times_of (take c.loop-t.t-index c.args.parent.now)) k)
    (times_of c.args.times.now.items) (times_of c.loop-t.times.items)) same c.loop-t.invariant in
    subst (λ ts. Adds (IsMoved (value c.args.from.now) (value c.args.to.now) (times_of ts) c.args.by) (times_of c.args.times.now.items)
    (times_of c.loop-t.times.items)) all told
