use Rattle.std.proofs.Common.{◌≡◌, ◌≤◌, ◌∷◌, [], Some, ap, arith, length, length-append, subst, sym}
use Rattle.std.specs.Prelude.{slice_get}
use Rattle.value_laws.specs.Kinds.{kleene_shape}
use Rattle.implicants.specs.Upward.{AreWhole}
use Rattle.implicants.proofs.AddedRuns.{no_run}
use Rattle.implicants.proofs.Wholes.{whole_push, whole_view}
use Rattle.implicants.proofs.upward.blank.Goals as goal

pub loop-k-init : goal.loop-k-init
loop-k-init c = record {
  count = ap length c.new-done.ensures.items;
  whole = λ k x at. absurd (no_run k x (subst (λ l. slice_get l k ≡ Some x) c.new-done.ensures.items at));
}

pub few-requires : goal.few-requires
few-requires c = record { order = subst (λ n. n ≤ c.last-to.result) (sym c.first-from.ensures) c.last-to.ensures.later; late = c.last-to.type_inv }

pub loop-k-preserved : goal.loop-k-preserved
loop-k-preserved c =
    let tr = c.args.trace.now in
    let xs = c.loop-k.done.items in
    let x = c.in_ok-chain.chain in
    let more = c.in_ok-add_chain.ensures in
    record {
      count = let e = length-append xs (x ∷ []) in let f = c.loop-k.invariant.count in let g = ap length more in omega (arith, e, f, g);
      whole = subst (AreWhole kleene_shape tr) (sym more)
          (whole_push tr xs x (whole_view tr _ _ x c.first-from.ensures c.last-to.ensures.last c.in_ok-chain.ensures) c.loop-k.invariant.whole);
    }

pub returns : goal.returns
returns c = record {
  count =
      let t = c.loop-k-test.false in
      let e = c.loop-k.auto.k-end in
      let n = c.len-k-end.ensures.count in
      let k = c.loop-k.invariant.count in
      omega (arith, t, e, n, k);
  whole = c.loop-k.invariant.whole;
}
