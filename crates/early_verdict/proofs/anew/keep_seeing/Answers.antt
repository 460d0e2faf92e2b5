use Rattle.std.proofs.Common.{◌≡◌, ◌∙◌, refl, sym, subst, true, pos, to_z, of_z}
use Rattle.std.specs.Int.{w64}
use Rattle.rational.specs.Rational.{FitsFloor, add, whole}
use Rattle.frac128.specs.Value.{value}
use Rattle.rational.specs.Places.{Same, moved_begin}
use Rattle.frac128.specs.Cuts.{place}
use Rattle.growing_sets.specs.Spans.{AreTidy, Lies}
use Rattle.early_verdict.proofs.AnewLemmas.{after_moved, after_shared, first_begins, sees_one}
use Rattle.growing_sets.proofs.HoldingLemmas.{among_at}
use Rattle.rational.proofs.PlaceLemmas.{after_same, same_places}
use Rattle.rational.proofs.Mixed.{move_fits}
use Rattle.growing_sets.proofs.WindowLemmas.{near_fits, bound_near}
use Rattle.early_verdict.proofs.SetsTell.{none_of}
use Rattle.early_verdict.proofs.anew.keep_seeing.Goals as goal

pub shift_begin-from-requires : goal.shift_begin-from-requires
shift_begin-from-requires c =
    subst (λ k. FitsFloor w64 (add (value c.in-Some.first.from.time) (whole k)))
    (sym (near_fits c.from.result (bound_near c.args.low c.from.result c.from.ensures c.ranges.low.fits)))
    (move_fits (value c.in-Some.first.from.time) c.from.result c.in-Some.first.low (bound_near c.args.low c.from.result c.from.ensures c.ranges.low.fits))

pub returns-in_default : goal.returns-in_default
returns-in_default c = record {
  tidy = subst AreTidy (sym c.clear.ensures) tt;
  bounds = refl;
  kept = λ t o. absurd (none_of c.clear.new.self.items t c.clear.ensures o);
  left = λ t o u w m. absurd (none_of c.args.spans.now.items u c.in_default.ensures.none w);
}

pub returns-in-Some-make : goal.returns-in-Some-make
returns-in-Some-make c =
    let xs = c.args.spans.now.items in
    let first = c.in-Some.first in
    let e = c.in-Some.ensures.some in
    let rest = c.in-Some-make.rest in
    let is = c.in-Some-make.ensures.some in
    let from = place c.shift_begin-from.result in
    let by : to_z w64 (of_z w64 c.from.result) ≡ pos c.args.low =
    near_fits c.from.result (bound_near c.args.low c.from.result c.from.ensures c.ranges.low.fits) ∙ c.from.ensures in
    let moved : Same from (moved_begin (pos c.args.low) true (place first.from)) =
    subst (λ k. Same from (moved_begin k true (place first.from))) by c.shift_begin-from.ensures in
    record {
      tidy = c.cut_front.ensures.tidy;
      bounds = refl;
      kept = λ t o.
          let k = c.cut_front.ensures.kept t o in
          let a = after_shared rest c.bounds-bounds.result from t is k.1 in
          (k.0, sees_one xs first c.args.low t (among_at xs 0 first e) (after_same from (moved_begin (pos c.args.low) true (place first.from)) t moved a));
      left = λ t o u w m.
          let a = after_moved (place first.from) c.args.low t u (first_begins xs first u c.requires.spans e w) m in
          let l = subst (λ b. Lies b t) (sym c.bounds-bounds.ensures) (c.requires.inside t o) in
          c.cut_front.ensures.left t o
          ((is t).1 (after_same (moved_begin (pos c.args.low) true (place first.from)) from t (same_places moved) a, l.1, l)).0;
    }

pub returns-in-None : goal.returns-in-None
returns-in-None c =
    let xs = c.args.spans.now.items in
    let first = c.in-Some.first in
    let e = c.in-Some.ensures.some in
    let from = place c.shift_begin-from.result in
    let by : to_z w64 (of_z w64 c.from.result) ≡ pos c.args.low =
    near_fits c.from.result (bound_near c.args.low c.from.result c.from.ensures c.ranges.low.fits) ∙ c.from.ensures in
    let moved : Same from (moved_begin (pos c.args.low) true (place first.from)) =
    subst (λ k. Same from (moved_begin k true (place first.from))) by c.shift_begin-from.ensures in
    record {
      tidy = subst AreTidy (sym c.clear-in-None.ensures) tt;
      bounds = refl;
      kept = λ t o. absurd (none_of c.clear-in-None.new.self.items t c.clear-in-None.ensures o);
      left = λ t o u w m.
          let a = after_moved (place first.from) c.args.low t u (first_begins xs first u c.requires.spans e w) m in
          let l = subst (λ b. Lies b t) (sym c.bounds-bounds.ensures) (c.requires.inside t o) in
          absurd (c.in-None.ensures.none t (after_same (moved_begin (pos c.args.low) true (place first.from)) from t (same_places moved) a) l.1 l);
    }
