use Rattle.std.proofs.Common.{inl, arith, ◌≡◌, ◌+◌, suc, length, sym, ap, ◌∙◌, subst}
use Rattle.std.specs.Prelude.{IfSome, OnErr, OnOk}
use Rattle.rational.specs.Places.{AtMost}
use Rattle.frac128.specs.Cuts.{place}
use Rattle.pieces.specs.Chains.{Tells, begin_at, end, stop}
use Rattle.pieces.specs.Meeting.{IsNext, StandsFor}
use Rattle.pieces.specs.Over.{BasesOver, IsCauseOver}
use Rattle.pieces.specs.Windows.{Best}
use Rattle.pieces.proofs.Breakpoints.{breaks_at}
use Rattle.pieces.proofs.Ends.{at_most_itself}
use Rattle.pieces.proofs.OverWindow.{piece_from}
use Rattle.pieces.proofs.ReadUpTo.{last_begin, next_begin}
use Rattle.rational.proofs.Lists.{on_err_anyway}
use Rattle.pieces.proofs.window.slide_over.Given.{Over}
use Rattle.pieces.proofs.window.slide_over.Goals.{After-loop-i, After-piece-piece}
use Rattle.pieces.proofs.window.slide_over.Goals as goal

-- the window stands where the next piece begins
stands : (g : Over) (c : After-piece-piece g) → StandsFor g.P.Shape c.args.s.now (place c.loop-i.from.now) c.loop-i.window
stands g c = subst (λ b. StandsFor g.P.Shape c.args.s.now b c.loop-i.window) (sym c.loop-i.invariant.begins) c.loop-i.invariant.stands

-- that piece of the chain
next : (g : Over) (c : After-piece-piece g) → IsNext g.P.Shape c.args.s.now c.loop-i.window.way (place c.loop-i.from.now) c.piece-piece.result.now
next g c =
    let s = c.args.s.now in
    let normal = c.len-i-end.ensures.normal in
    subst (λ b. IsNext g.P.Shape s c.loop-i.window.way b c.piece-piece.result.now) (sym c.loop-i.invariant.begins) (record {
      piece = piece_from g.P.Shape (assumption g.met.P.Shape) s c.loop-i.window.way normal.rising c.loop-i.i c.piece-piece.result.now c.piece-piece.ensures;
      breaks = breaks_at g.P.Shape s c.loop-i.i c.piece-piece.result.now normal c.piece-piece.ensures;
      ahead = inl (subst (λ e. AtMost (place c.loop-i.window.way.to) e) (ap (λ w. place w.to) c.loop-i.invariant.way ∙ c.requires.ends)
          (at_most_itself (place c.loop-i.window.way.to)));
    })

pub meet-requires-clause-next : goal.meet-requires-clause-next
meet-requires-clause-next g c = (
  c.args.s.now,
  stands g (goal.at.meet-requires-clause-next g c).After-piece-piece,
  next g (goal.at.meet-requires-clause-next g c).After-piece-piece,
)

pub loop-i-preserved : goal.loop-i-preserved
loop-i-preserved g c =
    let chain = c.args.s.now in
    let piece = c.piece-piece.result.now in
    let one_more : suc c.loop-i.i ≡ c.loop-i.i + 1 = omega arith in
    let at : end piece ≡ begin_at chain.from chain.pieces (c.loop-i.i + 1) = sym (subst (λ n. begin_at chain.from chain.pieces n ≡ end piece) one_more
    (next_begin chain.from chain.pieces c.loop-i.i piece c.piece-piece.ensures)) in
    record {
      begins = at;
      stands = subst (λ b. StandsFor g.P.Shape chain b c.meet.new.self) at (c.in_ok-meet.ensures.stands chain
          (stands g (goal.at.loop-i-preserved g c).After-piece-piece) (next g (goal.at.loop-i-preserved g c).After-piece-piece));
      way = c.meet.ensures.way ∙ c.loop-i.invariant.way;
      still = c.in_ok-meet.ensures.still;
    }

-- all pieces are met
all : (g : Over) (c : After-loop-i g) → StandsFor g.P.Shape c.args.s.now (stop c.args.s.now) c.loop-i.window
all g c =
    let chain = c.args.s.now in
    let last : c.loop-i.i ≡ length chain.pieces =
    let more = c.loop-i.auto.i-end in let none = c.loop-i-test.false in let count = c.len-i-end.ensures.value in omega arith in
    subst (λ b. StandsFor g.P.Shape chain b c.loop-i.window) (ap (λ n. begin_at chain.from chain.pieces n) last ∙ last_begin chain.from chain.pieces)
    c.loop-i.invariant.stands

-- where its way ends
at_stop : (g : Over) (c : After-loop-i g) → place c.loop-i.window.way.to ≡ stop c.args.s.now
at_stop g c = ap (λ w. place w.to) c.loop-i.invariant.way ∙ c.requires.ends

pub end-requires-clause-last : goal.end-requires-clause-last
end-requires-clause-last g c =
    let after = (goal.at.end-requires-clause-last g c).After-loop-i in
    (c.args.s.now, all g after, at_stop g after)

pub returns-clause-told : goal.returns-clause-told
returns-clause-told g c =
    let s = c.args.s.now in
    subst (λ w. OnOk c.end.result (Tells g.P.Shape (Best g.P.Shape s w) s.from (stop s) c.end.new.self.sliding.out)) c.loop-i.invariant.way
    (c.end.ensures.told s (all g (goal.at.returns-clause-told g c).After-loop-i)
    (at_stop g (goal.at.returns-clause-told g c).After-loop-i))

pub returns-clause-bases : goal.returns-clause-bases
returns-clause-bases g c =
    let s = c.args.s.now in
    subst (λ w. OnOk c.end.result (BasesOver g.P.Shape s w.over c.end.new.self.sliding.out)) c.loop-i.invariant.way
    (c.end.ensures.bases s (all g (goal.at.returns-clause-bases g c).After-loop-i)
    (at_stop g (goal.at.returns-clause-bases g c).After-loop-i))

pub returns-clause-wide : goal.returns-clause-wide
returns-clause-wide g c =
    let s = c.args.s.now in
    subst (λ w. OnErr c.end.result (IfSome c.end.new.fault (IsCauseOver g.P.Shape s w.over))) c.loop-i.invariant.way
    (c.end.ensures.wide s (all g (goal.at.returns-clause-wide g c).After-loop-i)
    (at_stop g (goal.at.returns-clause-wide g c).After-loop-i))

pub returns-in_err-meet-clause-wide : goal.returns-in_err-meet-clause-wide
returns-in_err-meet-clause-wide g c =
    let s = c.args.s.now in
    on_err_anyway c.from_residual.result (subst (λ w. IfSome c.meet.new.fault (IsCauseOver g.P.Shape s w.over)) c.loop-i.invariant.way
    (c.in_err-meet.ensures.wide s (stands g (goal.at.returns-in_err-meet-clause-wide g c).After-piece-piece)
    (next g (goal.at.returns-in_err-meet-clause-wide g c).After-piece-piece)))
