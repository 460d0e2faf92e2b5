use Rattle.std.proofs.Common.{◌≡◌, ◌-◌, ℕ, Bool, List, Some, arith, length, subst, sym}
use Rattle.std.specs.Prelude.{slice_get, IfSome}
use Rattle.std.proofs.lemmas.Option.{slice_get-get_or}
use Rattle.rational.proofs.Order.{same_sym}
use Rattle.value_laws.specs.Kinds.{kleene_shape}
use Rattle.stl_syntax.specs.Trace.{start}
use Rattle.stl_syntax.specs.declared.items.Item.{Item}
use Rattle.implicants.specs.Upward.{HasBestIn, IsGround}
use Rattle.implicants.proofs.LostAbove.{root_needed}
use Rattle.implicants.proofs.upward.loses_root.Goals as goal

pub loop-k-init : goal.loop-k-init
loop-k-init c = record {
  inside = c.requires.inside;
  chains = c.requires.chains;
  best = λ all marks i ground before. before;
  gained = λ all marks i ground before old. old;
}

pub last-top-requires : goal.last-top-requires
last-top-requires c = c.requires.some

pub taken_on-requires : goal.taken_on-requires
taken_on-requires c =
    let a = (c.is_between.ensures c.if-not-is_between.false).1 in
    let n = c.len-top.ensures.count in
    let s = c.len-top.ensures.well_formed.some in
    record {
      some = c.requires.some;
      inside = omega (arith, a, n, s);
      runs = c.requires.runs;
      chains = c.loop-k.invariant.chains;
    }

pub loop-k-preserved : goal.loop-k-preserved
loop-k-preserved c =
    let nodes = c.args.formula.now.nodes in
    let tr = c.args.trace.now in
    let signs = c.args.ground.now.signs.items in
    let a = (c.is_between.ensures c.if-not-is_between.false).1 in
    let n = c.len-top.ensures.count in
    let s = c.len-top.ensures.well_formed.some in
    record {
      inside = omega (arith, a, n, s);
      chains = c.taken_on.ensures.chains;
      best = λ all marks i ground before. (subst (λ o. IfSome o (λ r. (all : List Item) (marks : List Bool) (i : ℕ)
          → IsGround nodes tr all marks i signs c.args.runs.now
          → HasBestIn kleene_shape nodes tr all marks i signs c.loop-k.k c.loop-k.done.items
          → HasBestIn kleene_shape nodes tr all marks i signs c.above_at-j.result c.taken_on.new.done.items)) c.in-Some.is c.in_ok-next.ensures.best)
          all marks i ground (c.loop-k.invariant.best all marks i ground before);
      gained = λ all marks i ground before old. c.in_ok-next.ensures.gained all marks i ground (c.loop-k.invariant.best all marks i ground before)
          (c.loop-k.invariant.gained all marks i ground before old);
    }

pub begins_short-requires : goal.begins_short-requires
begins_short-requires c =
    let xs = c.loop-k.done.items in
    let x = c.index.result.now in
    let l = c.loop-k.invariant.inside in
    let count = c.loop-k.invariant.chains.count in
    let at : slice_get xs c.loop-k.k ≡ Some x =
    subst (λ y. slice_get xs c.loop-k.k ≡ Some y) (sym c.index.ensures) (slice_get-get_or xs c.loop-k.k x (omega (arith, l, count))) in
    (c.loop-k.invariant.chains.whole c.loop-k.k x at).input.limited

pub returns-clause-needed : goal.returns-clause-needed
returns-clause-needed c h all marks i ground before =
    let nodes = c.args.formula.now.nodes in
    let tr = c.args.trace.now in
    let xs = c.loop-k.done.items in
    let l = c.loop-k.invariant.inside in
    let n = c.len-top.ensures.count in
    let e = c.loop-k-test.false in
    let top : c.loop-k.k ≡ length nodes - 1 = omega (arith, l, n, e) in
    let x = c.index.result.now in
    let count = c.loop-k.invariant.chains.count in
    let at : slice_get xs c.loop-k.k ≡ Some x =
    subst (λ y. slice_get xs c.loop-k.k ≡ Some y) (sym c.index.ensures) (slice_get-get_or xs c.loop-k.k x (omega (arith, l, count))) in
    let begins = (c.loop-k.invariant.chains.whole c.loop-k.k x at).input.begins in
    root_needed nodes tr all marks i c.args.ground.now.signs.items xs x ground.signed (subst (λ k. slice_get xs k ≡ Some x) top at)
    (c.begins_short.ensures h (start tr) (same_sym begins))
    (subst (λ k. HasBestIn kleene_shape nodes tr all marks i c.args.ground.now.signs.items k xs) top (c.loop-k.invariant.best all marks i ground before))

pub returns-clause-gained : goal.returns-clause-gained
returns-clause-gained c = c.loop-k.invariant.gained

pub returns-in_default-clause-gained : goal.returns-in_default-clause-gained
returns-in_default-clause-gained c = λ all marks i ground before old. c.in_ok-next.ensures.gained all marks i ground
    (c.loop-k.invariant.best all marks i ground before) (c.loop-k.invariant.gained all marks i ground before old)

pub returns-clause-chains : goal.returns-clause-chains
returns-clause-chains c = c.loop-k.invariant.chains

pub returns-in_default-clause-chains : goal.returns-in_default-clause-chains
returns-in_default-clause-chains c = c.taken_on.ensures.chains

pub index-requires : goal.index-requires
index-requires c =
    let l = c.loop-k.invariant.inside in let n = c.loop-k.invariant.chains.count in let k = c.loop-k.done.ok in omega (arith, l, n, k.0)
