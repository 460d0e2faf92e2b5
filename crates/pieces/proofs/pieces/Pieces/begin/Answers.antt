use Rattle.std.proofs.Common.{◌≡◌, ◌-◌, ◌<◌, length, suc, refl, sym, subst, arith}
use Rattle.std.proofs.lemmas.Option.{slice_get_read}
use Rattle.frac128.specs.Cuts.{place}
use Rattle.pieces.specs.Chains.{begin_at}
use Rattle.pieces.proofs.ReadUpTo.{next_begin}
use Rattle.pieces.proofs.pieces.Pieces.begin.Goals as goal

pub returns-then-i-eq0 : goal.returns-then-i-eq0
returns-then-i-eq0 g c =
    let from = place c.self.inside.from in
    subst (λ s. from ≡ begin_at s.from s.pieces c.args.i) c.self.view_is
    (subst (λ n. from ≡ begin_at from c.self.inside.items.items n) (sym c.if-i-eq0.true) refl)

pub returns : goal.returns
returns g c =
    let from = place c.self.inside.from in
    let items = c.self.inside.items.items in
    let within : c.args.i < length items = subst (λ s. c.args.i < length s.pieces) (sym c.self.view_is) c.requires in
    let inside : c.args.i - 1 < length items = omega (arith, within) in
    let next : suc (c.args.i - 1) ≡ c.args.i = let some = c.if-i-eq0.false in omega arith in
    subst (λ s. place c.index.result.now.until ≡ begin_at s.from s.pieces c.args.i) c.self.view_is
    (sym (subst (λ n. begin_at from items n ≡ place c.index.result.now.until) next
    (next_begin from items (c.args.i - 1) c.index.result.now
    (slice_get_read items (length items) (c.args.i - 1) c.index.result.now refl inside c.index.ensures))))
