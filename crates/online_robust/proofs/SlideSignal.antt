-- A window has told up to the time of its course: the signal of it tells the best of the input.
use Rattle.std.proofs.Common.{◌≡◌, List, subst, ap, ◌∙◌}
use Rattle.rational.specs.Time.{Rational, ◌≈◌}
use Rattle.rational.specs.Extended.{value_at}
use Rattle.rational.proofs.PlaceLemmas.{after_same, same_places}
use Rattle.frac128.specs.Cuts.{place}
use Rattle.value_laws.specs.Kinds.{margin_shape}
use Rattle.value_laws.specs.Margins.{margin_function}
use Rattle.value_laws.specs.declared.margin.Margin.{Margin}
use Rattle.pl_signal.specs.declared.joining.Side.{Side}
use Rattle.pl_signal.specs.declared.knot.Knot.{Knot}
use Rattle.pieces.specs.declared.reach.Reach.{Reach}
use Rattle.pieces.specs.declared.reach.Way.{Way}
use Rattle.pieces.specs.declared.stream.Stream.{Stream}
use Rattle.pieces.specs.Chains.{Chain, HasShape, Tells}
use Rattle.pieces.specs.Over.{IsMovedTo}
use Rattle.pieces.specs.Streaming.{before_time}
use Rattle.pieces.specs.Windows.{BestOver}
use Rattle.pieces.proofs.Ends.{same_place}
use Rattle.online_robust.specs.Slides.{Course, IsBestStretch, IsStretchOf, IsWayOf, IsWhole, reach_of}
use Rattle.online_robust.proofs.SlideBest.{best_stretch}

module _ (x : Course) (w told : Stream Margin) (is_way : IsWayOf x.window w.way) (s : Chain Margin) (whole_is : IsWhole x w.way s)
    (way : told.way ≡ w.way) (from : Rational) (point : Margin) (ks : List (Knot Margin))
    (tells : Tells margin_shape (BestOver margin_shape s w.way.over w.way.side) w.sliding.out.from (before_time x.to) told.sliding.out)
    (bases : (p : Margin) → HasShape told.sliding.out p → IsMovedTo margin_shape s w.way.over (place w.way.to) p)
    (there : BestOver margin_shape s told.way.over told.way.side x.to (value_at (margin_function point) x.to))
    (base : IsMovedTo margin_shape s told.way.over (place told.way.to) point)
    (is : IsStretchOf told.sliding.out x.to point ks) (begins : told.sliding.out.from.at ≈ from) where
  abbrev out : Chain Margin
  out = told.sliding.out

  tells_over : Tells margin_shape (BestOver margin_shape s (reach_of x.window) x.window.side) w.sliding.out.from (before_time x.to) out
  tells_over = subst (λ (d : Side). Tells margin_shape (BestOver margin_shape s (reach_of x.window) d) w.sliding.out.from (before_time x.to) out) is_way.side
      (subst (λ (o : Reach). Tells margin_shape (BestOver margin_shape s o w.way.side) w.sliding.out.from (before_time x.to) out) is_way.over tells)

  tells_from : Tells margin_shape (BestOver margin_shape s (reach_of x.window) x.window.side) out.from (before_time x.to) out
  tells_from = record {
    normal = tells_over.normal;
    begins = same_place out.from;
    ends = tells_over.ends;
    worth = λ t v. (
      λ h. let i = (tells_over.worth t v).0 h in (after_same w.sliding.out.from out.from t (same_places tells_over.begins) i.0, i.1, i.2),
      λ h. (tells_over.worth t v).1 (after_same out.from w.sliding.out.from t tells_over.begins h.0, h.1, h.2),
    );
  }

  over : told.way.over ≡ reach_of x.window
  over = ap (λ (v : Way). v.over) way ∙ is_way.over

  there_over : BestOver margin_shape s (reach_of x.window) x.window.side x.to (value_at (margin_function point) x.to)
  there_over = subst (λ (d : Side). BestOver margin_shape s (reach_of x.window) d x.to (value_at (margin_function point) x.to))
      (ap (λ (v : Way). v.side) way ∙ is_way.side)
      (subst (λ (o : Reach). BestOver margin_shape s o told.way.side x.to (value_at (margin_function point) x.to)) over there)

  base_over : IsMovedTo margin_shape s (reach_of x.window) (place w.way.to) point
  base_over = subst (λ (v : Way). IsMovedTo margin_shape s (reach_of x.window) (place v.to) point) way
      (subst (λ (o : Reach). IsMovedTo margin_shape s o (place told.way.to) point) over base)

  -- it tells the best over the input
  pub best_told : IsBestStretch x from ks
  best_told = best_stretch x w.way is_way s whole_is out from point ks tells_from
      (λ p h. subst (λ (o : Reach). IsMovedTo margin_shape s o (place w.way.to) p) is_way.over (bases p h)) there_over base_over is begins
