use Rattle.std.proofs.Common.{[], ◌∷◌, ◌++◌, Some, refl, sym, ap, ◌∙◌, subst, append-nil, append_assoc, arith, drop, length, drop-cons, suc, ◌+◌, ◌≡◌, ◌<◌, ◌≤◌}
use Rattle.std.specs.Prelude.{slice_get}
use Rattle.std.proofs.lemmas.List.{drop_all}
use Rattle.std.proofs.lemmas.Option.{slice_get_read, get_or_from_slice_get}
use Rattle.verdict_stream.specs.Pendings.{IsTextOfRow, IsTextOfRows}
use Rattle.verdict_stream.specs.declared.watcher.Network.{Network}
use Rattle.verdict_stream.proofs.watcher.Watcher.put_rows.Goals as goal

pub loop-i-init : goal.loop-i-init
loop-i-init c = record { network = refl; horizon = refl; times = refl; lines = ([], ap (λ l. c.args.text.now ++ l) c.requires, λ later left h. h) }

pub loop-i-preserved : goal.loop-i-preserved
loop-i-preserved c =
    let v = c.args.self.now in
    let before = c.loop-i.self in
    let after = c.put_row.new.self in
    let i = c.loop-i.i in
    let time = c.index-time.result.now in
    let inv = c.loop-i.invariant in
    let (grown, is, on) = inv.lines in
    let (here, row_is, longer) = c.in_ok-put_row.ensures.lines in
    let within : i < length v.times.items = omega (arith, c.loop-i-test.true, c.len-i-end.ensures, v.times.ok.0) in
    let there : i < length before.times.items = subst (λ l. i < length l) (sym inv.times) within in
    let at : slice_get v.times.items i ≡ Some time =
    subst (λ l. slice_get l i ≡ Some time) inv.times (slice_get_read before.times.items (length before.times.items) i time refl there c.index-time.ensures) in
    let next : suc i ≡ i + 1 = omega arith in
    let rest : drop i v.times.items ≡ time ∷ drop (i + 1) v.times.items =
    drop-cons v.times.items i time within ∙ ap (λ t. t ∷ drop (suc i) v.times.items) (get_or_from_slice_get v.times.items i time time at)
    ∙ ap (λ k. time ∷ drop k v.times.items) next in
    let told : IsTextOfRow v.network.formula.scale v.horizon time before.pending here after.pending =
    subst (λ h. IsTextOfRow v.network.formula.scale h time before.pending here after.pending) inv.horizon
    (subst (λ (n : Network). IsTextOfRow n.formula.scale before.horizon time before.pending here after.pending) inv.network row_is) in
    record {
      network = c.put_row.ensures.network ∙ inv.network;
      horizon = c.put_row.ensures.horizon ∙ inv.horizon;
      times = c.put_row.ensures.times ∙ inv.times;
      lines = (
        grown ++ here,
        longer ∙ ap (λ t. t ++ here) is ∙ append_assoc c.args.text.now grown here,
        λ later left h.
            subst (λ t. IsTextOfRows v.network.formula.scale v.horizon (drop c.args.first v.times.items) v.pending t left) (sym (append_assoc grown here later))
            (on (here ++ later) left
            (subst (λ ts. IsTextOfRows v.network.formula.scale v.horizon ts before.pending (here ++ later) left) (sym rest)
            (here, later, after.pending, told, h, refl))),
      );
    }

pub returns-clause-lines : goal.returns-clause-lines
returns-clause-lines c =
    let v = c.args.self.now in
    let (grown, is, on) = c.loop-i.invariant.lines in
    let past : length v.times.items ≤ c.loop-i.i = omega (arith, c.loop-i-test.false, c.len-i-end.ensures, v.times.ok.0) in (
      grown,
      subst (λ t. IsTextOfRows v.network.formula.scale v.horizon (drop c.args.first v.times.items) v.pending t c.loop-i.self.pending) (append-nil grown)
          (on [] c.loop-i.self.pending
          (subst (λ ts. IsTextOfRows v.network.formula.scale v.horizon ts c.loop-i.self.pending [] c.loop-i.self.pending)
          (sym (drop_all c.loop-i.i v.times.items past)) (refl, refl))),
      c.in_ok-hand_over.ensures.text ∙ is,
    )
