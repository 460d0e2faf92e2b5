use Rattle.std.proofs.Common.{rules, ◌≡◌, ◌<◌, sym, ap, ◌∙◌, subst, length, Option, None, pos, to_z, of_z}
use Rattle.std.specs.Prelude.{IfSome, cond, option_map}
use Rattle.std.specs.Int.{w64}
use Rattle.std.proofs.lemmas.Int.{to_z-of_z}
use Rattle.rational.specs.Rational.{add, whole}
use Rattle.rational.specs.Time.{Rational, shifted, ◌≈◌, ◌≤ʳ◌, ◌<ʳ◌}
use Rattle.rational.specs.Extended.{value_at}
use Rattle.rational.specs.Places.{AtMost, Same, Upto}
use Rattle.rational.proofs.Lists.{on_err_anyway}
use Rattle.rational.proofs.PlaceLemmas.{same_places, same_trans_places, upto_same}
use Rattle.frac128.specs.Value.{value}
use Rattle.frac128.specs.Cuts.{place}
use Rattle.value_laws.specs.Kinds.{margin_shape}
use Rattle.value_laws.specs.Margins.{margin_function}
use Rattle.value_laws.specs.declared.margin.Margin.{Margin}
use Rattle.pieces.specs.declared.piece.Piece.{Piece}
use Rattle.pieces.specs.declared.reach.Way.{Way}
use Rattle.pieces.specs.declared.stream.Stream.{Stream}
use Rattle.pieces.specs.Chains.{Chain, Tells, stop}
use Rattle.pieces.specs.Streaming.{Follows, HasAll, IsAt, IsCauseBelow, IsNextSeen, before_time}
use Rattle.pieces.specs.Windows.{BestOver}
use Rattle.online_robust.specs.Held.{Held}
use Rattle.online_robust.specs.Putting.{HasPut}
use Rattle.online_robust.specs.Slides.{CanSlide, Course, DropsBy, IsOnWay, IsRefused, IsStretchOf, IsTakenIn, IsUnder}
use Rattle.online_robust.specs.Slides.{after_time, back_offset}
use Rattle.online_robust.specs.ToldLines.{all_told}
use Rattle.online_robust.specs.declared.slide.Window.{Window}
use Rattle.online_robust.proofs.LinesGone.{dropped}
use Rattle.online_robust.proofs.SlideCuts.{read_drops, reads_both}
use Rattle.online_robust.proofs.SlideGone.{all_under, follows_under, gone, has_all, next_seen, none_early, read_same}
use Rattle.online_robust.proofs.SlideRefused.{some_of_none, tell_refused}
use Rattle.online_robust.proofs.SlideStretch.{told_stretch}
use Rattle.online_robust.proofs.SlideSignal.{best_told}
use Rattle.online_robust.proofs.slide.go_to.Goals.{After-drop_by, After-read_under, In_ok-tell}
use Rattle.online_robust.proofs.slide.go_to.Goals as goal

pub meet_kept-requires-clause-can : goal.meet_kept-requires-clause-can
meet_kept-requires-clause-can c =
    let (x, from, can, window, to) = c.requires.can in
    (x, c.args.edges.now, can.on, can.below)

pub returns-in_err-meet_kept-clause-wide : goal.returns-in_err-meet_kept-clause-wide
returns-in_err-meet_kept-clause-wide c x from can window to =
    on_err_anyway c.from_residual.result (c.in_err-meet_kept.ensures.wide x c.args.edges.now can.on can.below)

pub take_in-requires-clause-can : goal.take_in-requires-clause-can
take_in-requires-clause-can c =
    let (x, from, can, window, to) = c.requires.can in
    (x, c.in_ok-meet_kept.ensures.on x c.args.edges.now can.on can.below, ap (λ (w : Window). w.of) window, to)

pub returns-in_err-take_in-clause-wide : goal.returns-in_err-take_in-clause-wide
returns-in_err-take_in-clause-wide c x from can window to =
    on_err_anyway c.from_residual-in_err-take_in.result
    (c.in_err-take_in.ensures.wide x (c.in_ok-meet_kept.ensures.on x c.args.edges.now can.on can.below) (ap (λ (w : Window). w.of) window) to)

pub read_under-requires : goal.read_under-requires
read_under-requires c =
    let (x, from, can, window, to) = c.requires.can in
    let of = ap (λ (w : Window). w.of) window in
    let taken = c.in_ok-take_in.ensures.on x (c.in_ok-meet_kept.ensures.on x c.args.edges.now can.on can.below) of to in
    record { can = (x, taken.0, taken.1, of, to) }

-- what counts before the time was met, and the point under the high end was read
module _ (x : Course) (w : Stream Margin) (kept : Option (Piece Margin)) (e : Held)
    (under : IsOnWay x w kept e × IsTakenIn x w e × IsUnder x w kept) (t : Rational) (to : x.to ≡ t) where
  -- the chain of all that was met and that is to come
  abbrev chain_of_all : Chain Margin
  chain_of_all = all_under x w kept e under.0 under.1 under.2

  follows : Follows margin_shape chain_of_all w
  follows = follows_under x w kept e under.0 under.1 under.2

  all : HasAll margin_shape chain_of_all w t
  all = subst (HasAll margin_shape chain_of_all w) to (has_all x w kept e under.0 under.1 under.2)

module _ (c : After-read_under) (x : Course) (from : Rational) (can : CanSlide x from c.args.stream.now c.args.kept.now c.args.edges.now)
    (window : x.window ≡ c.args.window.now) (to : x.to ≡ value c.args.to.now) where
  under_before : IsOnWay x c.take_in.new.stream c.read_under.result c.read_under.new.edges × IsTakenIn x c.take_in.new.stream c.read_under.new.edges
      × IsUnder x c.take_in.new.stream c.read_under.result
  under_before =
      let of = ap (λ (w : Window). w.of) window in
      let taken = c.in_ok-take_in.ensures.on x (c.in_ok-meet_kept.ensures.on x c.args.edges.now can.on can.below) of to in
      c.read_under.ensures.on x taken.0 taken.1 of to

pub tell-requires-clause-all : goal.tell-requires-clause-all
tell-requires-clause-all c =
    let (x, from, can, window, to) = c.requires.can in
    let u = under_before (goal.at.tell-requires-clause-all c).After-read_under x from can window to in
    let w = c.take_in.new.stream in
    let kept = c.read_under.result in
    let e = c.read_under.new.edges in
    (chain_of_all x w kept e u (value c.args.to.now) to, follows x w kept e u (value c.args.to.now) to, all x w kept e u (value c.args.to.now) to)

pub tell-requires-clause-order : goal.tell-requires-clause-order
tell-requires-clause-order c =
    let (x, from, can, window, to) = c.requires.can in
    let u = under_before (goal.at.tell-requires-clause-order c).After-read_under x from can window to in
    subst (λ t. AtMost (stop c.take_in.new.stream.sliding.out) (before_time t)) to u.0.told

pub returns-in_err-tell-clause-wide : goal.returns-in_err-tell-clause-wide
returns-in_err-tell-clause-wide c x from can window to =
    let u = under_before (goal.at.returns-in_err-tell-clause-wide c).After-read_under x from can window to in
    let on = u.0 in
    let w = c.take_in.new.stream in
    let kept = c.read_under.result in
    let e = c.read_under.new.edges in
    let fault = c.tell.new.fault in
    let chain = chain_of_all x w kept e u (value c.args.to.now) to in
    let known = follows x w kept e u (value c.args.to.now) to in
    let has = all x w kept e u (value c.args.to.now) to in
    let told = c.in_err-tell.ensures in
    let early : x.to ≤ʳ chain.from.at → add x.to (whole w.way.over.high) ≤ʳ (place w.met).at → fault ≡ None =
    subst (λ t. t ≤ʳ chain.from.at → add t (whole w.way.over.high) ≤ʳ (place w.met).at → fault ≡ None) (sym to) (told.early chain known has) in
    on_err_anyway c.from_residual-in_err-tell.result
    (tell_refused x w.way chain on.is_whole on.way.over on.started on.last on.small.order fault
    (subst (λ t. chain.from.at <ʳ t → IfSome fault (IsCauseBelow margin_shape chain w.way.over t)) (sym to) (told.wide chain known has))
    (none_early x w kept e on u.1 u.2 fault early (told.one chain known has)))

-- ---- it has told

module _ (c : In_ok-tell) (x : Course) (from : Rational) (can : CanSlide x from c.args.stream.now c.args.kept.now c.args.edges.now)
    (window : x.window ≡ c.args.window.now) (to : x.to ≡ value c.args.to.now) where
  under : IsOnWay x c.take_in.new.stream c.read_under.result c.read_under.new.edges × IsTakenIn x c.take_in.new.stream c.read_under.new.edges
      × IsUnder x c.take_in.new.stream c.read_under.result
  under =
      let of = ap (λ (w : Window). w.of) window in
      let taken = c.in_ok-take_in.ensures.on x (c.in_ok-meet_kept.ensures.on x c.args.edges.now can.on can.below) of to in
      c.read_under.ensures.on x taken.0 taken.1 of to

  abbrev chain : Chain Margin
  chain = chain_of_all x c.take_in.new.stream c.read_under.result c.read_under.new.edges under (value c.args.to.now) to

  known : Follows margin_shape chain c.take_in.new.stream
  known = follows x c.take_in.new.stream c.read_under.result c.read_under.new.edges under (value c.args.to.now) to

  has : HasAll margin_shape chain c.take_in.new.stream (value c.args.to.now)
  has = all x c.take_in.new.stream c.read_under.result c.read_under.new.edges under (value c.args.to.now) to

  is_at : IsAt margin_shape chain c.tell.new.self (value c.args.to.now)
  is_at = c.in_ok-tell.ensures.at chain known has

  -- the point that is seen
  next : IsNextSeen margin_shape chain c.tell.new.self (value c.args.to.now)
      (cond c.args.window.now.high_in (option_map (λ p. p.shape) c.read_under.result) None)
  next = subst (λ (w : Window). IsNextSeen margin_shape chain c.tell.new.self (value c.args.to.now)
      (cond w.high_in (option_map (λ p. p.shape) c.read_under.result) None)) window
      (subst (λ t. IsNextSeen margin_shape chain c.tell.new.self t (cond x.window.high_in (option_map (λ p. p.shape) c.read_under.result) None)) to
      (next_seen x c.take_in.new.stream c.read_under.result c.read_under.new.edges under.0 under.1 under.2 c.tell.new.self c.in_ok-tell.ensures.way
      c.in_ok-tell.ensures.met))

  inside : Upto (place c.tell.new.self.way.to) (value c.args.to.now)
  inside = subst (λ (v : Way). Upto (place v.to) (value c.args.to.now)) (sym c.in_ok-tell.ensures.way)
      (upto_same (after_time (whole (pos 4294967295))) (place c.take_in.new.stream.way.to) (value c.args.to.now) (same_places under.0.way.to)
      (subst (λ t. t ≤ʳ whole (pos 4294967295)) to can.to_tick.1))

  told_up_to : Tells margin_shape (BestOver margin_shape chain c.take_in.new.stream.way.over c.take_in.new.stream.way.side)
      c.take_in.new.stream.sliding.out.from (before_time (value c.args.to.now)) c.tell.new.self.sliding.out
  told_up_to = c.in_ok-tell.ensures.told chain known has

  -- it began to tell where it was told before
  begun : Same c.tell.new.self.sliding.out.from (before_time from)
  begun = same_trans_places told_up_to.begins (subst (λ d. Same d (before_time from))
      (sym (c.in_ok-take_in.ensures.kept.from ∙ c.in_ok-meet_kept.ensures.kept.from ∙ ap (λ (o : Chain Margin). o.from) can.out)) can.told)

pub point-point-requires-clause-seen : goal.point-point-requires-clause-seen
point-point-requires-clause-seen c =
    let (x, from, can, window, to) = c.requires.can in
    let k = (goal.at.point-point-requires-clause-seen c).In_ok-tell in (
      chain k x from can window to,
      is_at k x from can window to,
      subst (λ o. IsNextSeen margin_shape (chain k x from can window to) c.tell.new.self (value c.args.to.now) o) (sym c.seen_under.ensures)
          (next k x from can window to),
    )

pub point-point-requires-clause-inside : goal.point-point-requires-clause-inside
point-point-requires-clause-inside c =
    let (x, from, can, window, to) = c.requires.can in
    inside (goal.at.point-point-requires-clause-inside c).In_ok-tell x from can window to

pub drop_by-requires : goal.drop_by-requires
drop_by-requires c =
    let (x, from, can, window, to) = c.requires.can in
    let k = (goal.at.drop_by-requires c).In_ok-tell in
    subst (λ n. n < length c.read_under.new.edges.edges) (ap (λ (w : Window). w.of) window) (under k x from can window to).0.within

-- what it needs no more has gone
drops : (c : After-drop_by) → DropsBy (whole c.args.limit) c.args.window.now.of c.read_under.new.edges c.drop_by.new.self
drops c =
    let limit : to_z w64 (of_z w64 c.args.limit) ≡ c.args.limit = search (rules, to_z-of_z) in
    let by = c.drop_by.ensures in
    subst (λ n. DropsBy (whole n) c.args.window.now.of c.read_under.new.edges c.drop_by.new.self) limit
    (record { lost = dropped by.dropped by.others by.start; rest = by.dropped.rest })

pub put_told-requires : goal.put_told-requires
put_told-requires c =
    let lost = (drops (goal.at.put_told-requires c).After-drop_by).lost in
    subst (λ n. c.args.node < n) (sym (lost.edges ∙ (reads_both c.in_ok-take_in.ensures.read c.read_under.ensures.read).edges)) c.requires.edge

pub returns-in_err-put_told-clause-wide : goal.returns-in_err-put_told-clause-wide
returns-in_err-put_told-clause-wide c x from can window to =
    on_err_anyway c.from_residual-in_err-put_told.result (some_of_none c.tell.new.fault (IsRefused x) c.in_ok-tell.ensures.still)

pub returns-clause-gone : goal.returns-clause-gone
returns-clause-gone c =
    let k = (goal.at.returns-clause-gone c).In_ok-tell in
    let (some, since, may, its, there) = c.requires.can in
    let told = c.tell.new.self in
    let point = c.point-point.result in
    let drop = drops (goal.at.returns-clause-gone c).After-drop_by in
    let (at, begins, put) = c.in_ok-put_told.ensures in
    let (ks, lines, is) = told_stretch told.sliding.out (value c.args.to.now) point at c.args.with_first (told_up_to k some since may its there).normal
    (begun k some since may its there).1 (is_at k some since may its there).at (begins ∙ ap (λ (o : Chain Margin). o.from.at) c.told.ensures) in
    record {
      swept = ks;
      between = c.drop_by.new.self;
      told = λ x from can window to.
          let line = chain k x from can window to in
          let seen = subst (λ o. IsNextSeen margin_shape line told (value c.args.to.now) o) (sym c.seen_under.ensures) (next k x from can window to) in
          let w = c.take_in.new.stream in
          best_told x w told (under k x from can window to).0.way line (under k x from can window to).0.is_whole c.in_ok-tell.ensures.way from point ks
          (subst (λ t. Tells margin_shape (BestOver margin_shape line w.way.over w.way.side) w.sliding.out.from (before_time t) told.sliding.out) (sym to)
          (told_up_to k x from can window to))
          (c.in_ok-tell.ensures.bases line (known k x from can window to) (has k x from can window to))
          (subst (λ t. BestOver margin_shape line told.way.over told.way.side t (value_at (margin_function point) t)) (sym to)
          (c.point-point.ensures.value line (is_at k x from can window to) seen))
          (c.point-point.ensures.base line (is_at k x from can window to) seen) (subst (λ t. IsStretchOf told.sliding.out t point ks) (sym to) is)
          (begun k x from can window to).0;
      gone = λ x from can window to.
          let u = under k x from can window to in
          let w = c.take_in.new.stream in
          let tells = c.in_ok-tell.ensures in
          let again = c.restart.ensures in
          gone x w c.read_under.result c.read_under.new.edges u.0 u.1 u.2 told c.restart.new.self c.drop_by.new.self (whole c.args.limit)
          (λ line known all. subst (IsAt margin_shape line told) (sym to) (tells.at line known (subst (HasAll margin_shape line w) to all)))
          again.follows (again.way ∙ tells.way) (again.met ∙ tells.met) again.told
          (subst (λ n. DropsBy (whole c.args.limit) n c.read_under.new.edges c.drop_by.new.self) (sym (ap (λ (v : Window). v.of) window)) drop)
          (subst (λ t. whole c.args.limit ≈ shifted t (back_offset x.window)) (sym to)
          (subst (λ (v : Window). whole c.args.limit ≈ shifted (value c.args.to.now) (back_offset v)) (sym window) c.requires.limit));
      way = c.restart.ensures.way ∙ c.in_ok-tell.ensures.way ∙ c.in_ok-take_in.ensures.kept.way ∙ c.in_ok-meet_kept.ensures.kept.way;
      read = read_same (whole c.args.limit) (shifted (value c.args.to.now) (back_offset c.args.window.now)) c.requires.limit
          (read_drops (reads_both c.in_ok-take_in.ensures.read c.read_under.ensures.read) drop);
      put = subst (λ l. HasPut c.args.node l c.drop_by.new.self c.put_told.new.edges)
          (ap (λ (o : Chain Margin). all_told c.args.with_first at o.pieces point) c.told.ensures ∙ sym lines) put;
    }
