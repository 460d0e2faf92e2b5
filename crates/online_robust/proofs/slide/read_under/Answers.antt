use Rattle.std.proofs.Common.{◌≡◌, ◌<◌, inl, sym, subst, ◌∙◌, Some, [], length, slice_get}
use Rattle.rational.specs.Rational.{add, whole}
use Rattle.rational.specs.Time.{◌≤ʳ◌}
use Rattle.rational.proofs.Lists.{empty_of_none}
use Rattle.rational.proofs.Order.{ge_of_same}
use Rattle.frac128.specs.Value.{value}
use Rattle.frac128.specs.Cuts.{place}
use Rattle.std.proofs.lemmas.Option.{same_Some, slice_get_within}
use Rattle.online_robust.specs.Held.{edge_at, fresh_at, with_edge, with_read}
use Rattle.online_robust.specs.Slides.{IsOnWay, IsTakenIn, IsUnder}
use Rattle.online_robust.proofs.SlideCuts.{reads_none}
use Rattle.online_robust.proofs.SlideGone.{none_under}
use Rattle.online_robust.proofs.SlideMeets.{HasReadLine, keeps_line, met_before, reads_line, stands_course, stands_time}
use Rattle.online_robust.proofs.SlideInput.{follows_all}
use Rattle.online_robust.proofs.slide.read_under.Goals.{After-pass}
use Rattle.online_robust.proofs.slide.read_under.Goals as goal

pub unread-requires : goal.unread-requires
unread-requires c =
    let (x, on, taken, of, to) = c.requires.can in
    subst (λ n. n < length c.args.edges.now.edges) of on.within

pub pass-requires-clause-edge : goal.pass-requires-clause-edge
pass-requires-clause-edge c =
    let (x, on, taken, of, to) = c.requires.can in
    subst (λ n. n < length c.args.edges.now.edges) of on.within

pub pass-requires-clause-some : goal.pass-requires-clause-some
pass-requires-clause-some c = slice_get_within (fresh_at c.args.edges.now c.args.of) 0 c.in_ok-line.line.now (sym c.in_ok-line.ensures)

pub stands-requires-clause-follows : goal.stands-requires-clause-follows
stands-requires-clause-follows c =
    let (x, on, taken, of, to) = c.requires.can in
    (_, follows_all x c.args.stream.now c.args.edges.now on)

-- where a line is there all that counts before the time was met
pub stands-requires-clause-not : goal.stands-requires-clause-not
stands-requires-clause-not c =
    let (x, on, taken, of, to) = c.requires.can in
    let w = c.args.stream.now in
    let e = c.args.edges.now in
    let some = subst (λ n. slice_get (fresh_at e n) 0 ≡ Some c.in_ok-line.line.now) (sym of) (sym c.in_ok-line.ensures) in
    subst (λ t. add t (whole w.way.over.high) ≤ʳ (place w.met).at) to (met_before x w e on taken c.in_ok-line.line.now some)

-- where nothing is to come the high end stands nowhere
pub returns-in_err-line-clause-on : goal.returns-in_err-line-clause-on
returns-in_err-line-clause-on c x on taken of to =
    let w = c.args.stream.now in
    let e = c.args.edges.now in
    let none = subst (λ n. fresh_at e n ≡ []) (sym of) (empty_of_none (fresh_at e c.args.of) (sym c.in_err-line.ensures)) in
    subst (λ k. IsOnWay x w k e × IsTakenIn x w e × IsUnder x w k) (sym c.from_residual.ensures) (on, taken, none_under x w e on none)

pub returns-in_err-line-clause-read : goal.returns-in_err-line-clause-read
returns-in_err-line-clause-read c = reads_none c.args.edges.now

pub returns-then-not-stands-clause-on : goal.returns-then-not-stands-clause-on
returns-then-not-stands-clause-on c x on taken of to =
    let w = c.args.stream.now in
    (on, taken, λ same. c.stands.ensures.not c.if-not-stands.true (stands_time x w on.way (value c.args.to.now) to same))

pub returns-then-not-stands-clause-read : goal.returns-then-not-stands-clause-read
returns-then-not-stands-clause-read c = reads_none c.args.edges.now

-- the line that was read
has_read : (c : After-pass) → HasReadLine c.args.of c.args.edges.now c.pass.new.self c.in_ok-line.line.now
has_read c =
    let (x, on, taken, of, to) = c.requires.can in
    let first = sym c.in_ok-line.ensures in
    record {
      within = subst (λ n. n < length c.args.edges.now.edges) of on.within;
      first = first;
      read = subst (λ v. c.pass.new.self.edges ≡ with_edge c.args.edges.now c.args.of (with_read (edge_at c.args.edges.now c.args.of) v))
          (same_Some c.pass.result c.in_ok-line.line.now (sym c.pass.ensures.first ∙ first)) c.pass.ensures.read;
      start = c.pass.ensures.start;
    }

pub returns-clause-on : goal.returns-clause-on
returns-clause-on c x on taken of to =
    let w = c.args.stream.now in
    let e = c.args.edges.now in
    let e' = c.pass.new.self in
    let line = c.in_ok-line.line.now in
    let k = (goal.at.returns-clause-on c).After-pass in
    let has = subst (λ n. HasReadLine n e e' line) (sym of) (has_read k) in
    let stands = stands_course x w on.way (value c.args.to.now) to (c.stands.ensures.is c.if-not-stands.false) in
    subst (λ p. IsOnWay x w (Some p) e' × IsTakenIn x w e' × IsUnder x w (Some p)) (sym c.piece_of-piece.ensures)
    (keeps_line x w e e' line on has stands, inl (ge_of_same stands.0), stands)

pub returns-clause-read : goal.returns-clause-read
returns-clause-read c = reads_line c.args.of c.args.edges.now c.pass.new.self c.in_ok-line.line.now (has_read (goal.at.returns-clause-read c).After-pass)
