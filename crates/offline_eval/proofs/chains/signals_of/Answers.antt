use Rattle.std.proofs.Common.{rules, ◌≡◌, ◌<◌, ◌++◌, ◌∷◌, [], ℕ, Some, ap, length, refl, subst, arith}
use Rattle.std.specs.Prelude.{slice_get}
use Rattle.std.proofs.lemmas.Option.{slice_get_read}
use Rattle.offline_eval.proofs.NextNode.{pushed_count}
use Rattle.offline_eval.proofs.SignalsAndChains.{pushed_signal, some_piece}
use Rattle.offline_eval.proofs.chains.signals_of.Given.{Over}
use Rattle.offline_eval.proofs.chains.signals_of.Goals.{After-index-chains-k}
use Rattle.offline_eval.proofs.chains.signals_of.Goals as goal

-- the chain stands at its place
here : (g : Over) (c : After-index-chains-k g) → slice_get c.args.chains.now c.loop-k.k ≡ Some c.index-chains-k.result
here g c =
    let inside : c.loop-k.k < length c.args.chains.now = let t = c.loop-k-test.true in omega arith in
    slice_get_read c.args.chains.now _ c.loop-k.k c.index-chains-k.result refl inside c.index-chains-k.is

pub loop-k-init : goal.loop-k-init
loop-k-init g c = record {
  count = ap length c.in_ok-signals.ensures.items;
  each = λ i d x at there. absurd (none i x (subst (λ xs. slice_get xs i ≡ Some x) c.in_ok-signals.ensures.items there));
}
  where
    none : {X : Type 0} (i : ℕ) (x : X) → slice_get [] i ≡ Some x → ⊥
    none i x e = cc

pub signal_of-requires : goal.signal_of-requires
signal_of-requires g c =
    let x = c.index-chains-k.result in
    let closed = c.requires c.loop-k.k x (here g (goal.at.signal_of-requires g c).After-index-chains-k) in
    record {
      some = some_piece x closed.first closed.last;
      begins = closed.first;
      ends = closed.last;
      from_within = closed.limited.begins;
      to_within = closed.limited.ends;
    }

pub loop-k-preserved : goal.loop-k-preserved
loop-k-preserved g c =
    let xs = c.loop-k.signals.items in
    let x = c.in_ok-signal.signal in
    let pushed : c.push.new.self.items ≡ xs ++ x ∷ [] = search (rules, c.push.ensures.items, c.if-is_err.false, c.is_err.ensures) in
    record {
      count = pushed_count xs c.push.new.self.items x c.loop-k.k c.loop-k.invariant.count pushed;
      each = pushed_signal g.P.Shape c.args.chains.now xs c.push.new.self.items c.loop-k.k c.index-chains-k.result x c.loop-k.invariant.count pushed
          (here g (goal.at.loop-k-preserved g c).After-index-chains-k) c.in_ok-signal.ensures.worth c.loop-k.invariant.each;
    }

pub returns : goal.returns
returns g c = record {
  count = let t = c.loop-k-test.false in let m = c.loop-k.auto.k-end in let n = c.loop-k.invariant.count in omega arith;
  each = c.loop-k.invariant.each;
}
