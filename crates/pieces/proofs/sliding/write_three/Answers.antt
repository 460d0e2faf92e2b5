use Rattle.std.proofs.Common.{◌≡◌, ◌⊎◌, ◌^◌, inl, inr, refl, sym, ap, subst}
use Rattle.std.proofs.lemmas.Option.{IfSome_then}
use Rattle.std.proofs.lemmas.Result.{on_ok_weaker, on_err_weaker}
use Rattle.rational.specs.Rational.{IsWithin}
use Rattle.rational.specs.Time.{◌≤ʳ◌, ◌<ʳ◌}
use Rattle.rational.specs.Extended.{value_at}
use Rattle.rational.specs.Affine.{MeetAlone}
use Rattle.rational.specs.Places.{Before}
use Rattle.rational.proofs.Order.{le_refl, le_of_lt}
use Rattle.rational.proofs.Mixed.{within_between}
use Rattle.frac128.specs.Value.{value}
use Rattle.frac128.specs.Cuts.{place}
use Rattle.pl_signal.specs.Joining.{IsGapFault}
use Rattle.pl_signal.proofs.Choices.{turned_over}
use Rattle.pl_signal.proofs.Kept.{kept_fault, on_err_anyway}
use Rattle.pieces.specs.Chains.{stop}
use Rattle.pieces.proofs.Bests.{favour_first, favour_second, nw_same, nw_back}
use Rattle.pieces.proofs.JoiningLemmas.{turned_apart}
use Rattle.pieces.proofs.SlidingLemmas.{cross_of_gap, cross_of_join, meet_of, three_by_slope, three_by_gap, three_by_both}
use Rattle.pieces.proofs.sliding.write_three.Goals as goal

pub returns-in_default : goal.returns-in_default
returns-in_default g c =
    let f = g.P.Shape.function in
    record {
      ok = on_ok_weaker c.join.result (λ j. three_by_slope g.P.Shape c.args.side c.args.out.now c.args.slope.now c.args.other.now c.args.gap.now
          c.args.until.now c.requires.falls c.requires.rises c.join.new.self c.args.until.now (le_refl (value c.args.until.now.time))
          (favour_first c.args.side c.favour.result (value_at (f c.args.slope.now) (value c.args.until.now.time))
          (value_at (f c.args.gap.now) (value c.args.until.now.time)) c.favour.ensures c.in_default.not-Greater) j) c.join.ensures.ok;
      still = c.join.ensures.still;
      wide = on_err_weaker c.join.result (λ some. cross_of_join g.P.Shape
          (λ _ p. (p ≡ c.args.slope.now) ⊎ (p ≡ c.args.other.now) ⊎ (p ≡ c.args.gap.now)) (stop c.args.out.now).at (value c.args.until.now.time)
          (stop c.args.out.now).at c.args.slope.now c.args.other.now c.args.until.now.time c.join.new.fault some (λ t a u. (inl refl, inr (inl refl)))
          (le_refl (stop c.args.out.now).at) (le_refl (value c.args.until.now.time))) c.join.ensures.wide;
    }

pub returns-in_default-favour : goal.returns-in_default-favour
returns-in_default-favour g c =
    let f = g.P.Shape.function in
    let at = ap (λ s. s.at) (sym c.until-at.ensures.value) in
    record {
      ok = on_ok_weaker c.join-in_default-favour.result (λ j. three_by_gap g.P.Shape c.args.side c.args.out.now c.args.slope.now c.args.other.now
          c.args.gap.now c.args.until.now c.requires.falls c.requires.rises (value c.until-at.result.time) c.join-in_default-favour.new.self at
          (favour_second c.args.side c.favour-2.result (value_at (f c.args.slope.now) (value c.until-at.result.time))
          (value_at (f c.args.gap.now) (value c.until-at.result.time)) c.favour-2.ensures c.in_default-favour.not-Less) j) c.join-in_default-favour.ensures.ok;
      still = c.join-in_default-favour.ensures.still;
      wide = on_err_weaker c.join-in_default-favour.result (λ some. cross_of_join g.P.Shape
          (λ _ p. (p ≡ c.args.slope.now) ⊎ (p ≡ c.args.other.now) ⊎ (p ≡ c.args.gap.now)) (stop c.args.out.now).at (value c.args.until.now.time)
          (stop c.args.out.now).at c.args.other.now c.args.gap.now c.args.until.now.time c.join-in_default-favour.new.fault some
          (λ t a u. (inr (inl refl), inr (inr refl))) (le_refl (stop c.args.out.now).at) (le_refl (value c.args.until.now.time)))
          c.join-in_default-favour.ensures.wide;
    }

pub crossing-requires-clause-order : goal.crossing-requires-clause-order
crossing-requires-clause-order g c =
    turned_apart g.P.Shape c.args.slope.now c.args.gap.now (place c.until-at.result) (place c.args.until.now)
    (turned_over c.args.side (g.P.Shape.function c.args.slope.now) (g.P.Shape.function c.args.gap.now) (value c.until-at.result.time)
    (value c.args.until.now.time) c.in-Less.ensures c.in-Greater.ensures)
    (subst (λ s. Before s (place c.args.until.now)) (sym c.until-at.ensures.value) c.requires.later)

pub returns-in_err-time-clause-wide : goal.returns-in_err-time-clause-wide
returns-in_err-time-clause-wide g c =
    let at = ap (λ s. s.at) (sym c.until-at.ensures.value) in
    let f = g.P.Shape.function in
    on_err_anyway c.from_residual.result
    (IfSome_then c.keep.new.fault (kept_fault
    (λ t. MeetAlone (f c.args.slope.now) (f c.args.gap.now) (value c.until-at.result.time) (value c.args.until.now.time) (value t))
    (IsGapFault g.P.Shape c.args.slope.now c.args.gap.now c.until-at.result.time c.args.until.now.time) c.crossing.result c.keep.new.fault
    c.in_err-time.ensures.fault c.crossing.ensures.met)
    (λ pair fault. cross_of_gap g.P.Shape (λ _ p. (p ≡ c.args.slope.now) ⊎ (p ≡ c.args.other.now) ⊎ (p ≡ c.args.gap.now)) (stop c.args.out.now).at
    (value c.args.until.now.time) c.args.slope.now c.args.gap.now c.until-at.result.time c.args.until.now.time pair fault
    (λ t a u. (inl refl, inr (inr refl))) (subst (λ x. (stop c.args.out.now).at ≤ʳ x) at (le_refl (stop c.args.out.now).at))
    (le_refl (value c.args.until.now.time))))

pub join-requires-2-clause-to_within : goal.join-requires-2-clause-to_within
join-requires-2-clause-to_within g c =
    let at = ap (λ s. s.at) (sym c.until-at.ensures.value) in
    let meet = meet_of g.P.Shape c.args.slope.now c.args.gap.now c.until-at.result.time c.args.until.now.time c.crossing.result c.in_ok-time.time
    c.in_ok-time.ensures.ok c.crossing.ensures.met in
    within_between (2 ^ 34) (subst (λ x. IsWithin (2 ^ 34) x) at c.requires.from_within) c.requires.to_within (le_of_lt meet.after) (le_of_lt meet.before)

pub returns-in_err-join-clause-wide : goal.returns-in_err-join-clause-wide
returns-in_err-join-clause-wide g c =
    let meet = meet_of g.P.Shape c.args.slope.now c.args.gap.now c.until-at.result.time c.args.until.now.time c.crossing.result c.in_ok-time.time
    c.in_ok-time.ensures.ok c.crossing.ensures.met in
    on_err_anyway c.from_residual-in_err-join.result
    (cross_of_join g.P.Shape (λ _ p. (p ≡ c.args.slope.now) ⊎ (p ≡ c.args.other.now) ⊎ (p ≡ c.args.gap.now)) (stop c.args.out.now).at
    (value c.args.until.now.time) (stop c.args.out.now).at c.args.slope.now c.args.other.now c.in_ok-time.time c.join-2.new.fault
    c.in_err-join.ensures.wide (λ t a u. (inl refl, inr (inl refl))) (le_refl (stop c.args.out.now).at) (le_of_lt meet.before))

pub join-requires-3-clause-from_within : goal.join-requires-3-clause-from_within
join-requires-3-clause-from_within g c =
    let at = ap (λ s. s.at) (sym c.until-at.ensures.value) in
    let meet = meet_of g.P.Shape c.args.slope.now c.args.gap.now c.until-at.result.time c.args.until.now.time c.crossing.result c.in_ok-time.time
    c.in_ok-time.ensures.ok c.crossing.ensures.met in
    subst (λ s. IsWithin (2 ^ 34) s.at) (sym c.in_ok-join.ensures.ok.ends)
    (within_between (2 ^ 34) (subst (λ x. IsWithin (2 ^ 34) x) at c.requires.from_within) c.requires.to_within (le_of_lt meet.after) (le_of_lt meet.before))

pub returns-clause-ok : goal.returns-clause-ok
returns-clause-ok g c =
    let at = ap (λ s. s.at) c.until-at.ensures.value in
    let meet = meet_of g.P.Shape c.args.slope.now c.args.gap.now c.until-at.result.time c.args.until.now.time c.crossing.result c.in_ok-time.time
    c.in_ok-time.ensures.ok c.crossing.ensures.met in
    on_ok_weaker c.join-3.result
    (λ j. three_by_both g.P.Shape c.args.side c.args.out.now c.args.slope.now c.args.other.now c.args.gap.now c.args.until.now c.requires.falls
    c.requires.rises c.join-2.new.self c.join-3.new.self (record { time = c.in_ok-time.time; side = 0 })
    (inl (subst (λ x. x <ʳ value c.in_ok-time.time) at meet.after)) (inl meet.before) (nw_same c.args.side meet.meet) (nw_back c.args.side meet.meet)
    c.in_ok-join.ensures.ok j) c.join-3.ensures.ok

pub returns-clause-wide : goal.returns-clause-wide
returns-clause-wide g c =
    let at = ap (λ s. s.at) c.until-at.ensures.value in
    let meet = meet_of g.P.Shape c.args.slope.now c.args.gap.now c.until-at.result.time c.args.until.now.time c.crossing.result c.in_ok-time.time
    c.in_ok-time.ensures.ok c.crossing.ensures.met in
    on_err_weaker c.join-3.result
    (λ some. cross_of_join g.P.Shape (λ _ p. (p ≡ c.args.slope.now) ⊎ (p ≡ c.args.other.now) ⊎ (p ≡ c.args.gap.now)) (stop c.args.out.now).at
    (value c.args.until.now.time) (stop c.join-2.new.self).at c.args.other.now c.args.gap.now c.args.until.now.time c.join-3.new.fault some
    (λ t a u. (inr (inl refl), inr (inr refl)))
    (subst (λ s. (stop c.args.out.now).at ≤ʳ s.at) (sym c.in_ok-join.ensures.ok.ends) (le_of_lt (subst (λ x. x <ʳ value c.in_ok-time.time) at meet.after)))
    (le_refl (value c.args.until.now.time))) c.join-3.ensures.wide
