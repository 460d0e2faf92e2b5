use Rattle.std.proofs.Common.{◌≡◌, ◌⊎◌, ◌^◌, inl, inr, ap, arith, neg_ℤ, pos, sym, subst}
use Rattle.rational.specs.Places.{Same, moved_begin}
use Rattle.rational.specs.Time.{◌≤ʳ◌, whole}
use Rattle.frac128.specs.Cuts.{place}
use Rattle.frac128.specs.declared.cut.Cut.{Cut}
use Rattle.pieces.specs.Chains.{begin_at}
use Rattle.pieces.proofs.LevelsLemmas.{begin_from, begin_to, item_at}
use Rattle.pieces.proofs.WindowPlaces.{reached_in}
use Rattle.pieces.proofs.levels.coming.Goals as goal

-- one of two cuts, as places
places : (r a b : Cut) → (r ≡ a) ⊎ (r ≡ b) → (place r ≡ place a) ⊎ (place r ≡ place b)
places r a b o = elim o [ inl e ↦ inl (ap (λ u. place u) e) | inr e ↦ inr (ap (λ u. place u) e) ]

pub entering-requires-clause-from : goal.entering-requires-clause-from
entering-requires-clause-from g c = subst (λ b. whole (pos 0) ≤ʳ b.at) (sym c.begin_of.ensures)
    (begin_from g.P.Shape c.args.s.now c.args.way.now.over c.requires.can c.args.i)

pub entering-requires-clause-to : goal.entering-requires-clause-to
entering-requires-clause-to g c =
    let (p, e) = item_at c.args.s.now.pieces c.args.i (let more = c.if-i-len.false in let count = c.len.ensures.value in omega (arith, more, count)) in
    subst (λ b. b.at ≤ʳ whole (pos (2 ^ 32))) (sym c.begin_of.ensures) (begin_to g.P.Shape c.args.s.now c.args.way.now.over c.requires.can c.args.i p e)

pub returns-clause-some : goal.returns-clause-some
returns-clause-some g c p e =
    let s = c.args.s.now in
    let begin = begin_at s.from s.pieces c.args.i in
    reached_in c.args.way.now c.requires.can.small begin (begin_from g.P.Shape s c.args.way.now.over c.requires.can c.args.i)
    (begin_to g.P.Shape s c.args.way.now.over c.requires.can c.args.i p e) c.requires.to_within (place c.entering.result)
    (subst (λ b. Same (place c.entering.result) (moved_begin (neg_ℤ c.args.way.now.over.high) c.args.way.now.over.high_in b)) c.begin_of.ensures
    c.entering.ensures)
    (place c.earlier.result) c.earlier.ensures.first c.earlier.ensures.second
    (places c.earlier.result c.entering.result c.args.way.now.to c.earlier.ensures.one)
