use Rattle.std.proofs.Common.{◌≡◌, ◌<◌, inl, inr, refl, sym, ap, ◌∙◌, subst, None, [], drop, length}
use Rattle.std.specs.Prelude.{IfSome, option_copied}
use Rattle.rational.specs.Rational.{add, whole}
use Rattle.rational.specs.Time.{Rational, ◌≤ʳ◌, ◌<ʳ◌}
use Rattle.rational.specs.Places.{AtMost}
use Rattle.rational.proofs.Lists.{empty_of_none, on_err_anyway}
use Rattle.rational.proofs.Order.{ge_of_same, le_trans}
use Rattle.frac128.specs.Value.{value}
use Rattle.frac128.specs.Cuts.{place}
use Rattle.value_laws.specs.Kinds.{margin_shape}
use Rattle.value_laws.specs.declared.margin.Margin.{Margin}
use Rattle.pieces.specs.Chains.{Chain, end, stop}
use Rattle.pieces.specs.Streaming.{ComesNext, Follows, IsCauseBelow, IsHeldCause, before_time}
use Rattle.std.proofs.lemmas.Option.{same_Some, slice_get_within}
use Rattle.online_robust.specs.Held.{edge_at, fresh_at, with_edge, with_read}
use Rattle.online_robust.specs.Slides.{Course}
use Rattle.online_robust.proofs.SlideMeets.{HasReadLine, comes_for, line_refused, met_line, read_fewer, read_first, reads_line}
use Rattle.online_robust.proofs.SlideCuts.{reads_both, reads_none}
use Rattle.online_robust.proofs.SlideInput.{all_of, comes_next, follows_all, high_is}
use Rattle.online_robust.proofs.slide.take_in.Goals.{After-pass}
use Rattle.online_robust.proofs.slide.take_in.Goals as goal

pub loop-edges-init : goal.loop-edges-init
loop-edges-init c = record {
  on = λ x on of to. on;
  kept = record { way = refl; from = refl };
  read = reads_none c.args.edges.now;
  still = c.requires.unset;
}

pub comes-requires : goal.comes-requires
comes-requires c =
    let (x, on, of, to) = c.requires.can in
    let here = c.loop-edges.invariant.on x on of to in
    (_, follows_all x c.loop-edges.stream c.loop-edges.edges here)

pub unread-requires : goal.unread-requires
unread-requires c =
    let (x, on, of, to) = c.requires.can in
    subst (λ n. n < length c.loop-edges.edges.edges) of (c.loop-edges.invariant.on x on of to).within

pub pass-requires-clause-edge : goal.pass-requires-clause-edge
pass-requires-clause-edge c =
    let (x, on, of, to) = c.requires.can in
    subst (λ n. n < length c.loop-edges.edges.edges) of (c.loop-edges.invariant.on x on of to).within

pub pass-requires-clause-some : goal.pass-requires-clause-some
pass-requires-clause-some c = slice_get_within (fresh_at c.loop-edges.edges c.args.of) 0 c.in-Some.line.now (sym (rw c.in-Some.is at c.unread.ensures))

-- the line that was read
has_read : (c : After-pass) → HasReadLine c.args.of c.loop-edges.edges c.pass.new.self c.in-Some.line.now
has_read c =
    let (x, on, of, to) = c.requires.can in
    let first = sym (rw c.in-Some.is at c.unread.ensures) in
    record {
      within = subst (λ n. n < length c.loop-edges.edges.edges) of (c.loop-edges.invariant.on x on of to).within;
      first = first;
      read = subst (λ v. c.pass.new.self.edges ≡ with_edge c.loop-edges.edges c.args.of (with_read (edge_at c.loop-edges.edges c.args.of) v))
          (same_Some c.pass.result c.in-Some.line.now (sym c.pass.ensures.first ∙ first)) c.pass.ensures.read;
      start = c.pass.ensures.start;
    }

-- for a course
read_for : (c : After-pass) (x : Course) → x.window.of ≡ c.args.of
    → HasReadLine x.window.of c.loop-edges.edges c.pass.new.self c.in-Some.line.now
read_for c x of = subst (λ n. HasReadLine n c.loop-edges.edges c.pass.new.self c.in-Some.line.now) (sym of) (has_read c)

before : (c : After-pass) (x : Course) → x.to ≡ value c.args.to.now
    → (place c.loop-edges.stream.met).at <ʳ add x.to (whole c.loop-edges.stream.way.over.high)
before c x to = comes_for x c.loop-edges.stream (value c.args.to.now) to (c.comes.ensures.is c.loop-edges-test.true)

pub meet-requires-clause-next : goal.meet-requires-clause-next
meet-requires-clause-next c =
    let (x, on, of, to) = c.requires.can in
    let k = (goal.at.meet-requires-clause-next c).After-pass in
    let w = c.loop-edges.stream in
    let e = c.loop-edges.edges in
    let line = c.in-Some.line.now in
    let here = c.loop-edges.invariant.on x on of to in (
      _,
      follows_all x w e here,
      subst (λ p. ComesNext margin_shape (all_of x w e here) w p) (sym c.piece_of-piece.ensures)
          (comes_next x w e here line (drop 1 (fresh_at e x.window.of)) (read_first x.window.of e c.pass.new.self line (read_for k x of)) (before k x to)),
    )

pub loop-edges-preserved : goal.loop-edges-preserved
loop-edges-preserved c =
    let k = (goal.at.loop-edges-preserved c).After-pass in
    let w = c.loop-edges.stream in
    let w' = c.meet.new.self in
    let e = c.loop-edges.edges in
    let e' = c.pass.new.self in
    let line = c.in-Some.line.now in
    let is = c.piece_of-piece.ensures in
    let inv = c.loop-edges.invariant in
    let met = c.in_ok-meet.ensures in
    record {
      on = λ x on of to. met_line x w e e' line (inv.on x on of to) (read_for k x of) (before k x to) w' met.way
          (subst (λ p. place w'.met ≡ end p) is met.met)
          (subst (λ p. (s : Chain Margin) → Follows margin_shape s w → ComesNext margin_shape s w p → Follows margin_shape s w') is met.follows)
          (subst (λ p. (s : Chain Margin) (limit : Rational) → Follows margin_shape s w → ComesNext margin_shape s w p
          → AtMost (stop w.sliding.out) (before_time limit) → (place w.met).at <ʳ add limit (whole w.way.over.high)
          → AtMost (stop w'.sliding.out) (before_time limit)) is met.upto);
      kept = record { way = met.way ∙ inv.kept.way; from = met.from ∙ inv.kept.from };
      read = reads_both inv.read (reads_line c.args.of e e' line (has_read k));
      still = met.still;
    }

pub loop-edges-smaller : goal.loop-edges-smaller
loop-edges-smaller c = read_fewer c.args.of c.loop-edges.edges c.pass.new.self c.in-Some.line.now (has_read (goal.at.loop-edges-smaller c).After-pass)

pub returns-in_err-meet-clause-wide : goal.returns-in_err-meet-clause-wide
returns-in_err-meet-clause-wide c x on of to =
    let k = (goal.at.returns-in_err-meet-clause-wide c).After-pass in
    let w = c.loop-edges.stream in
    let e = c.loop-edges.edges in
    let line = c.in-Some.line.now in
    let fault = c.meet.new.fault in
    let is = c.piece_of-piece.ensures in
    let met = c.in_err-meet.ensures in
    on_err_anyway c.from_residual.result
    (line_refused x w e c.pass.new.self line (c.loop-edges.invariant.on x on of to) (read_for k x of) (before k x to) fault
    (subst (λ p. (s : Chain Margin) (limit : Rational) → Follows margin_shape s w → ComesNext margin_shape s w p → s.from.at <ʳ limit
    → limit ≤ʳ (stop s).at → (place w.met).at <ʳ add limit (whole w.way.over.high) → IfSome fault (IsCauseBelow margin_shape s w.way.over limit)) is met.wide)
    (subst (λ p. (s : Chain Margin) → Follows margin_shape s w → ComesNext margin_shape s w p → s.from.at <ʳ (stop s).at
    → AtMost (stop w.sliding.out) s.from → (place w.met).at <ʳ add s.from.at (whole w.way.over.high)
    → IfSome fault (IsHeldCause margin_shape s w.way.over (place w.met).at)) is met.first)
    (subst (λ p. (s : Chain Margin) → Follows margin_shape s w → ComesNext margin_shape s w p → (stop s).at ≤ʳ s.from.at → fault ≡ None) is met.one))

-- where nothing comes before the time, all was taken in
pub returns-clause-on : goal.returns-clause-on
returns-clause-on c x on of to =
    let here = c.loop-edges.invariant.on x on of to in (
      here,
      inl (le_trans (ge_of_same (high_is x c.loop-edges.stream here.way))
          (subst (λ t. add t (whole c.loop-edges.stream.way.over.high) ≤ʳ (place c.loop-edges.stream.met).at) (sym to)
          (c.comes.ensures.not c.loop-edges-test.false))),
    )

-- nor where nothing is to come
pub returns-in_default-clause-on : goal.returns-in_default-clause-on
returns-in_default-clause-on c x on of to =
    let here = c.loop-edges.invariant.on x on of to in (
      here,
      inr (subst (λ n. fresh_at c.loop-edges.edges n ≡ []) (sym of) (empty_of_none (fresh_at c.loop-edges.edges c.args.of)
          (sym c.unread.ensures ∙ ap (λ o. option_copied o) c.in_default.is))),
    )
