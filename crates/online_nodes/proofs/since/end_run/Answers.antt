use Rattle.std.proofs.Common.{◌<◌, slice_get, inl, inr, ap, sym, subst, ◌∙◌, arith}
use Rattle.frac128.specs.Spans.{interval}
use Rattle.std.specs.Int.{w64}
use Rattle.std.proofs.lemmas.Bool.{true≢false}
use Rattle.std.proofs.lemmas.Option.{slice_get_within}
use Rattle.online_nodes.specs.Held.{fresh_at, Edge}
use Rattle.rational.specs.Rational.{Rational, FitsFloor, add, whole}
use Rattle.rational.specs.Places.{Place, begins, ends, AtMost, Before, Upto}
use Rattle.frac128.specs.Cuts.{place}
use Rattle.online_nodes.specs.Working.{HasPassed}
use Rattle.frac128.specs.declared.cut.Cut.{Cut}
use Rattle.online_nodes.proofs.GotLemmas.{got-length, got-other}
use Rattle.rational.proofs.PlaceLemmas.{at_most_of_not_before}
use Rattle.online_nodes.proofs.SinceTurns.{IsWorking, run_over}
use Rattle.online_nodes.proofs.SinceEnds.{ends_here, ends_later}
use Rattle.online_nodes.proofs.since.end_run.Goals as goal
use Rattle.online_nodes.proofs.since.end_run.Goals.{then-not-precedes-via-then-not-precedes, then-not-precedes-via-else-not-precedes+then-not-precedes-2}

pub returns-then-not-precedes-clause-turned : goal.returns-then-not-precedes-clause-turned
returns-then-not-precedes-clause-turned c =
    let at : IsWorking c.args.edges.now c.args.since c.args.course =
    record { own = c.requires.own; left_apart = c.requires.left_apart; right_apart = c.requires.right_apart; apart = c.requires.apart } in
    let v_begin = c.begin-begin.ensures in
    let v_end = c.end-end.ensures in
    let to_is = c.end-to.ensures in
    ends_later at c.requires.first c.requires.fails c.in_ok-out.ensures.said to_is c.earlier-held.ensures.first
    (λ t h. subst (λ (q : Place). Upto q t) v_begin (c.earlier-held.ensures.second t h))
    (elim c.earlier-held.ensures.one [ inl e ↦ inl e | inr e ↦ inr (ap place e ∙ v_begin) ])
    (subst (λ (q : Cut). Before (place q) (ends (interval c.args.v.on))) to_is
    (subst (λ (q : Place). Before (place c.end-to.result) q) v_end (c.precedes.ensures.0 c.if-precedes.true)))
    (elim c.then-not-precedes.branch [
      | then-not-precedes-via-then-not-precedes w ↦ inl (subst (λ (q : Cut). AtMost (place q) (begins (interval c.args.v.on))) to_is
          (subst (λ (q : Place). AtMost (place c.end-to.result) q) v_begin
          (at_most_of_not_before (place c.end-to.result) (place c.begin-begin.result)
          (λ b. let x = c.precedes-then-precedes.ensures.1 b in let y = w.if-not-precedes.true in cc))))
      | then-not-precedes-via-else-not-precedes+then-not-precedes-2 w ↦ inr (subst (λ (q : Cut). AtMost (place q) (place c.args.course.run)) to_is
          (at_most_of_not_before (place c.end-to.result) (place c.args.course.run)
          (λ b. let x = w.precedes-else-not-precedes.ensures.1 b in let y = w.if-not-precedes-2.true in cc)))
    ])

pub returns-then-precedes-clause-turned : goal.returns-then-precedes-clause-turned
returns-then-precedes-clause-turned c =
    let at : IsWorking c.args.edges.now c.args.since c.args.course =
    record { own = c.requires.own; left_apart = c.requires.left_apart; right_apart = c.requires.right_apart; apart = c.requires.apart } in
    let v_begin = c.begin-begin.ensures in
    let v_end = c.end-end.ensures in
    let to_is = c.end-to.ensures in
    ends_here at c.requires.first c.requires.fails c.in_ok-out.ensures.said to_is c.earlier-held.ensures.first
    (λ t h. subst (λ (q : Place). Upto q t) v_begin (c.earlier-held.ensures.second t h))
    (elim c.earlier-held.ensures.one [ inl e ↦ inl e | inr e ↦ inr (ap place e ∙ v_begin) ])
    (subst (λ (q : Cut). Before (place q) (ends (interval c.args.v.on))) to_is
    (subst (λ (q : Place). Before (place c.end-to.result) q) v_end (c.precedes.ensures.0 c.if-precedes.true)))
    (subst (λ (q : Cut). Before (begins (interval c.args.v.on)) (place q)) to_is
    (subst (λ (q : Place). Before q (place c.end-to.result)) v_begin (c.precedes-then-precedes.ensures.0 c.if-not-precedes.false)))
    (subst (λ (q : Cut). Before (place c.args.course.run) (place q)) to_is (c.precedes-else-not-precedes.ensures.0 c.if-not-precedes-2.false))

pub returns-clause-turned : goal.returns-clause-turned
returns-clause-turned c =
    let at : IsWorking c.args.edges.now c.args.since c.args.course =
    record { own = c.requires.own; left_apart = c.requires.left_apart; right_apart = c.requires.right_apart; apart = c.requires.apart } in
    let v_begin = c.begin-begin.ensures in
    let v_end = c.end-end.ensures in
    let said = c.in_ok-out-2.ensures.said in
    let passed : HasPassed c.turn-2.new.edges c.pass.new.self c.args.since.window.of c.pass.result =
    record {
      within = omega (arith, got-length said.got, c.requires.left);
      first = c.pass.ensures.first;
      edges = c.pass.ensures.read;
      start = c.pass.ensures.start;
      spare = c.pass.ensures.spare;
    } in
    run_over at c.requires.first c.requires.fails said c.earlier-held.ensures.first
    (λ t h. subst (λ (q : Place). Upto q t) v_begin (c.earlier-held.ensures.second t h))
    (elim c.earlier-held.ensures.one [ inl e ↦ inl e | inr e ↦ inr (ap place e ∙ v_begin) ])
    v_end
    (subst (λ (q : Cut). AtMost (place c.end-end.result) (place q)) c.end-to.ensures
    (at_most_of_not_before (place c.end-end.result) (place c.end-to.result)
    (λ b. true≢false (sym (c.precedes.ensures.1 b) ∙ c.if-precedes.false))))
    passed
    (subst (λ (q : Rational). FitsFloor w64 (add q (whole c.args.since.window.begin_by))) (sym (ap (λ (q : Place). q.at) v_end))
    c.requires.fits_left.1)

pub turn-requires : goal.turn-requires
turn-requires c = record { edge = c.requires.own; inside = c.requires.inside; sound = c.requires.sound }

pub turn-requires-2 : goal.turn-requires-2
turn-requires-2 c = record { edge = c.requires.own; inside = c.requires.inside; sound = c.requires.sound }

pub pass-requires : goal.pass-requires
pass-requires c =
    let of = c.args.since.window.of in
    let got = c.in_ok-out-2.ensures.said.got in
    record {
      edge = subst (λ n. of < n) (sym (got-length got)) c.requires.left;
      some = slice_get_within (fresh_at c.turn-2.new.edges of) 0 c.args.v
          (ap (λ (e : Edge). slice_get e.fresh 0) (got-other got of c.requires.left_apart) ∙ c.requires.first);
    }
