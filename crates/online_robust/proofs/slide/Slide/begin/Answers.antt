use Rattle.std.proofs.Common.{Option, Some, None, rules, to_z, of_z, w64, ◌≡◌, ◌^◌, [], pos, refl, ap, sym, ◌∙◌, subst}
use Rattle.std.specs.Prelude.{MatchOption}
use Rattle.rational.specs.Rational.{IsWithin, whole}
use Rattle.rational.specs.Places.{AtMost, Same}
use Rattle.frac128.specs.Cuts.{place}
use Rattle.value_laws.specs.Kinds.{margin_shape}
use Rattle.value_laws.specs.declared.margin.Margin.{Margin}
use Rattle.pieces.specs.declared.reach.Way.{Way}
use Rattle.pieces.specs.declared.stream.Stream.{Stream}
use Rattle.pieces.specs.Chains.{stop}
use Rattle.pieces.specs.Windows.{CanSlide as MaySlide}
use Rattle.pieces.specs.Streaming.{before_time}
use Rattle.online_robust.specs.Slides.{HasBegun, after_time, chain_of}
use Rattle.online_robust.proofs.slide.Slide.begin.Goals as goal

-- there is none
no_stream : (o : Option (Stream Margin)) → ((w : Stream Margin) → o ≡ Some w → ⊥) → o ≡ None
no_stream None h = refl
no_stream (Some w) h = absurd (h w refl)

pub returns-in-Some : goal.returns-in-Some
returns-in-Some c = (
  c.in-Some._going,
  ap (λ o. record { window = c.args.self.now.window; stream = o; kept = c.args.self.now.kept }) c.in-Some.is,
  subst (λ o. MatchOption o (HasBegun c.args.self.now.window c.args.start c.in-Some._going) (λ old. c.in-Some._going ≡ old)) (sym c.in-Some.is) refl,
)

pub returns : goal.returns
returns c =
    let way = c.begin.ensures.way in
    let begins : to_z w64 (of_z w64 c.from.result) ≡ pos c.args.start = search rules in
    let at = subst (λ z. Same (place c.before_whole.result) (before_time (whole z))) begins c.before_whole.ensures in (
      c.begin.result,
      refl,
      subst (λ o. MatchOption o (HasBegun c.args.self.now.window c.args.start c.begin.result) (λ old. c.begin.result ≡ old))
          (sym (no_stream c.args.self.now.stream c.in_default.not-Some))
          (record {
            way = record {
              side = ap (λ (w : Way). w.side) way;
              over = ap (λ (w : Way). w.over) way ∙ c.reach.ensures;
              to = subst (λ (w : Way). Same (place w.to) (after_time (whole (pos 4294967295)))) (sym way) c.after_whole.ensures;
            };
            met = subst (λ p. Same p (before_time (whole (pos c.args.start)))) (sym c.begin.ensures.met) at;
            out = c.begin.ensures.told ∙ ap (λ p. chain_of p []) (sym c.begin.ensures.met);
            follows = λ s can from. c.begin.ensures.follows s (record {
              can = subst (λ (w : Way). MaySlide margin_shape s w.over) way can.can;
              begins = sym (from ∙ c.begin.ensures.met);
              to = subst (λ (w : Way). AtMost (stop s) (place w.to)) way can.to;
              within = subst (λ (w : Way). IsWithin (2 ^ 34) (place w.to).at) way can.within;
            });
          }),
    )
