use Rattle.std.proofs.Common.{◌≡◌, ◌⊎◌, inl, inr, ◌+◌, ◌<◌, ◌≤◌, Bool, true, false, arith, length, refl, sym, subst, ◌∙◌}
use Rattle.std.specs.Prelude.{if◌then◌else◌}
use Rattle.std.proofs.lemmas.Bool.{false≢true}
use Rattle.rational.specs.Places.{AtMost}
use Rattle.frac128.specs.Cuts.{place}
use Rattle.pieces.specs.declared.levels.Seen.{Seen}
use Rattle.pieces.specs.Levels.{MovesOn}
use Rattle.pieces.proofs.Ends.{at_most_of_same, at_most_trans}
use Rattle.pieces.proofs.LevelsLemmas.{below_or_not, comes_one, left_of_right}
use Rattle.pieces.proofs.levels.Seen.pass.Goals as goal

pub go-requires-clause-within : goal.go-requires-clause-within
go-requires-clause-within g c = c.come-came.ensures.within c.requires.counts.1.within

pub go-requires-clause-more : goal.go-requires-clause-more
go-requires-clause-more g c right = by_place (below_or_not old.low old.high)
  where
    old : Seen
    old = c.args.self.now

    by_place : (old.low < old.high) ⊎ (old.high ≤ old.low) → c.come-came.result.low < c.come-came.result.high
    by_place (inl k) = let low = c.come-came.ensures.low in let high = c.come-came.ensures.high in omega (arith, k, low, high)
    by_place (inr k) =
        let same : old.low ≡ old.high = let o = c.requires.counts.1.order in omega (arith, k, o) in
        let left = left_of_right g.P.Shape c.args.s.now c.args.way.now c.requires.can.rising c.requires.some c.requires.counts.0 old
        c.requires.counts.1 c.requires.more
        c.args.next.now c.requires.next same right in
        let more = c.come-came.ensures.more left (let m = c.requires.more in omega (arith, same, m)) in
        let low = c.come-came.ensures.low in omega (arith, same, more, low)

pub returns-clause-counts : goal.returns-clause-counts
returns-clause-counts g c x y h m k =
    let next = place c.args.next.now.until in
    c.go.ensures.counts y (c.come-came.ensures.counts x y h m
    (λ is. at_most_trans (place c.args.self.now.comes) next y (at_most_of_same (place c.args.self.now.comes) next (c.requires.next.left.0 is)) k))
    (λ is. subst (λ u. AtMost (place u) y) (sym c.come-came.ensures.goes)
    (at_most_trans (place c.args.self.now.goes) next y (at_most_of_same (place c.args.self.now.goes) next (c.requires.next.right.0 is)) k))

pub returns-clause-on : goal.returns-clause-on
returns-clause-on g c = by_right c.args.next.now.right refl
  where
    old : Seen
    old = c.args.self.now

    came : Seen
    came = c.come-came.result

    new : Seen
    new = c.go.result

    by_right : (b : Bool) → c.args.next.now.right ≡ b → MovesOn (length c.args.s.now.pieces) old new
    by_right true e =
        let low : new.low ≡ came.low + 1 = subst (λ b. new.low ≡ (if b then came.low + 1 else came.low)) e c.go.ensures.low in
        let high = c.go.ensures.high in let kept = c.come-came.ensures.low in let most = c.come-came.ensures.high in let more = c.requires.more in
        record {
          low = omega (arith, low, kept);
          high = omega (arith, high, most);
          nearer = omega (arith, low, kept, high, most, more);
        }
    by_right false e =
        let low : new.low ≡ came.low = subst (λ b. new.low ≡ (if b then came.low + 1 else came.low)) e c.go.ensures.low in
        let (left, inside) = comes_one g.P.Shape c.args.s.now c.args.way.now c.requires.can.rising c.requires.some c.requires.counts.0 old c.requires.counts.1
        c.requires.more c.args.next.now c.requires.next (λ k. false≢true (sym e ∙ k)) in
        let one = c.come-came.ensures.more left inside in
        let high = c.go.ensures.high in let kept = c.come-came.ensures.low in
        record {
          low = omega (arith, low, kept);
          high = omega (arith, high, one);
          nearer = omega (arith, low, kept, high, one, inside);
        }
