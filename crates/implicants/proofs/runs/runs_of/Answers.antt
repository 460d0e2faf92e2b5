use Rattle.std.proofs.Common.{◌≡◌, ◌∷◌, [], Some, ap, arith, length, length-append, subst, sym, refl}
use Rattle.std.specs.Prelude.{slice_get}
use Rattle.value_laws.specs.Kinds.{kleene_shape}
use Rattle.implicants.specs.Signs.{sign_at}
use Rattle.implicants.specs.Upward.{AreShortEach}
use Rattle.implicants.proofs.AddedRuns.{no_run, short_each, short_more}
use Rattle.implicants.proofs.runs.runs_of.Goals as goal

pub loop-k-init : goal.loop-k-init
loop-k-init c = record {
  count = ap length c.new-all.ensures.items;
  short = λ k v at. absurd (no_run k v (subst (λ l. slice_get l k ≡ Some v) c.new-all.ensures.items at));
}

pub loop-k-preserved : goal.loop-k-preserved
loop-k-preserved c =
    let xs = c.loop-k.all.items in
    let x = c.in_ok-own.own in
    let more = c.in_ok-add_list.ensures in
    record {
      count = let e = length-append xs (x ∷ []) in let f = c.loop-k.invariant.count in let g = ap length more in omega (arith, e, f, g);
      short = subst (AreShortEach kleene_shape c.args.signs.now c.args.nodes.now) (sym more)
          (short_each c.args.signs.now c.args.nodes.now xs x c.loop-k.invariant.short
          (short_more c.args.signs.now c.args.nodes.now c.loop-k.k (sign_at c.args.signs.now c.loop-k.k) c.chain.result.now [] x.items
          refl c.chain.ensures c.in_ok-own.ensures (λ j r at. absurd (no_run j r at))));
    }

pub returns-clause-short : goal.returns-clause-short
returns-clause-short c = c.loop-k.invariant.short
