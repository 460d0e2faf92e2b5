use Rattle.std.specs.Prelude.{IfSome}
use Rattle.std.proofs.Common.{◌∙◌, ◌^◌, ap, inl, sym, subst}
use Rattle.rational.specs.Rational.{IsWithin}
use Rattle.rational.specs.Places.{AtMost}
use Rattle.frac128.specs.Cuts.{place}
use Rattle.pl_signal.proofs.Kept.{fault_kept}
use Rattle.pieces.specs.Chains.{Tells, stop}
use Rattle.pieces.specs.Over.{BasesOver, HasCauseOver, IsCauseOver}
use Rattle.pieces.specs.Meeting.{CanBegin, StandsFor}
use Rattle.pieces.specs.Windows.{Best, BestOver}
use Rattle.pieces.proofs.Ends.{at_most_itself}
use Rattle.pieces.proofs.window.over_window.Given.{Over}
use Rattle.pieces.proofs.window.over_window.Goals.{After-until}
use Rattle.pieces.proofs.window.over_window.Goals as goal

-- the window may begin where the chain does, on the way to where that ends
can : (g : Over) (c : After-until g)
    → CanBegin g.P.Shape c.args.s.now (record { side = c.args.side; over = c.args.over; to = c.until.result }) (place c.from.result)
can g c =
    let end = stop c.args.s.now in
    record {
      can = record {
        rising = c.until.ensures.normal.rising;
        limited = c.requires.limited;
        near = c.requires.near;
        first = c.requires.first;
        last = c.requires.last;
        small = c.requires.small;
      };
      begins = c.from.ensures;
      to = subst (λ e. AtMost end e) (sym c.until.ensures.value) (at_most_itself end);
      within = subst (λ e. IsWithin (2 ^ 34) e.at) (sym c.until.ensures.value) c.requires.limited.ends;
      ahead = inl (subst (λ e. AtMost e end) (sym c.until.ensures.value) (at_most_itself end));
    }

pub begin-requires : goal.begin-requires
begin-requires g c = record { can = (c.args.s.now, can g (goal.at.begin-requires g c).After-until) }

pub slide_over-requires-clause-stands : goal.slide_over-requires-clause-stands
slide_over-requires-clause-stands g c = subst (λ b. StandsFor g.P.Shape c.args.s.now b c.in_ok-window.window) c.from.ensures
    (c.in_ok-window.ensures.stands c.args.s.now (can g (goal.at.slide_over-requires-clause-stands g c).After-until))

pub slide_over-requires-clause-ends : goal.slide_over-requires-clause-ends
slide_over-requires-clause-ends g c = ap (λ w. place w.to) c.in_ok-window.ensures.way ∙ c.until.ensures.value

pub returns-in-Ok-clause-told : goal.returns-in-Ok-clause-told
returns-in-Ok-clause-told g c =
    let s = c.args.s.now in
    subst (λ r. Tells g.P.Shape (BestOver g.P.Shape s c.args.over c.args.side) s.from (stop s) r) (sym c.told.ensures)
    (subst (λ w. Tells g.P.Shape (Best g.P.Shape s w) s.from (stop s) c.slide_over.new.window.sliding.out) c.in_ok-window.ensures.way c.in-Ok.ensures.told)

pub returns-in-Ok-clause-bases : goal.returns-in-Ok-clause-bases
returns-in-Ok-clause-bases g c =
    let s = c.args.s.now in
    subst (λ r. BasesOver g.P.Shape s c.args.over r) (sym c.told.ensures)
    (subst (λ w. BasesOver g.P.Shape s w.over c.slide_over.new.window.sliding.out) c.in_ok-window.ensures.way c.in-Ok.ensures.bases)

pub returns-in-Err-clause-wide : goal.returns-in-Err-clause-wide
returns-in-Err-clause-wide g c = fault_kept (HasCauseOver g.P.Shape c.args.s.now c.args.over) c.fault_of.result c.slide_over.new.fault
    c.fault_of.ensures tt (subst (λ w. IfSome c.slide_over.new.fault (IsCauseOver g.P.Shape c.args.s.now w.over)) c.in_ok-window.ensures.way
    c.in-Err.ensures.wide)
