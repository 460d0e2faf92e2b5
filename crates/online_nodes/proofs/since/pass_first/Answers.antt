use Rattle.std.proofs.Common.{sym, ◌∙◌, rules, refl, ◌≡◌, inl, inr, ap, subst, to_z, of_z, to_z-of_z}
use Rattle.std.specs.Int.{w64}
use Rattle.std.proofs.lemmas.Bool.{true≢false}
use Rattle.std.proofs.lemmas.Option.{slice_get_within}
use Rattle.frac128.specs.Spans.{interval}
use Rattle.frac128.specs.Value.{value}
use Rattle.rational.specs.Places.{Place, ends, moved_begin, AtMost, Before, Same, Upto}
use Rattle.frac128.specs.Cuts.{place}
use Rattle.online_nodes.specs.Held.{fresh_at}
use Rattle.online_nodes.specs.Working.{HasPassed}
use Rattle.stl_syntax.specs.declared.items.Verdict.{Verdict}
use Rattle.frac128.specs.declared.cut.Cut.{Cut}
use Rattle.online_nodes.proofs.JoinLemmas.{same_first}
use Rattle.rational.proofs.PlaceLemmas.{at_most_of_not_before, before_same, same_places, upto_same}
use Rattle.online_nodes.proofs.OneVerdictMore.{begin_alike, fits_alike}
use Rattle.online_nodes.proofs.since.pass_first.Goals as goal
use Rattle.online_nodes.proofs.since.pass_first.Goals.{After-shift_begin-last}

pub shift_begin-last-requires : goal.shift_begin-last-requires
shift_begin-last-requires c =
    fits_alike (value c.end.result.time) (value c.args.w.on.to) (to_z w64 (of_z w64 c.args.since.window.begin_by)) c.args.since.window.begin_by
    (ap (λ (q : Place). q.at) c.end.ensures) (search (rules, to_z-of_z)) c.requires.fits_right.1

-- up to where the right input's verdict counts
counts_to : (c : After-shift_begin-last)
    → Same (place c.shift_begin-last.result) (moved_begin c.args.since.window.begin_by c.args.since.window.begin_in (ends (interval c.args.w.on)))
counts_to c =
    begin_alike (place c.shift_begin-last.result) _ c.args.since.window.begin_by c.args.since.window.begin_in _ (ends (interval c.args.w.on))
    (search (rules, to_z-of_z)) c.end.ensures c.shift_begin-last.ensures

pub returns-then-not-precedes-clause-passed : goal.returns-then-not-precedes-clause-passed
returns-then-not-precedes-clause-passed c =
    let w = c.args.since.window in
    let is : c.pass.result ≡ c.args.w =
    same_first (fresh_at c.args.edges.now c.args.since.right) c.pass.result c.args.w c.pass.ensures.first c.requires.first_right in
    let last_is = counts_to (goal.at.returns-then-not-precedes-clause-passed c).After-shift_begin-last in
    let passed : HasPassed c.args.edges.now c.pass.new.self c.args.since.right c.pass.result =
    record {
      within = c.requires.right;
      first = c.pass.ensures.first;
      edges = c.pass.ensures.read;
      start = c.pass.ensures.start;
      spare = c.pass.ensures.spare;
    } in (
      refl,
      inl (record {
        passed = subst (λ (q : Verdict). HasPassed c.args.edges.now c.pass.new.self c.args.since.right q) is passed;
        sooner = λ t h. subst (λ (q : Place). Upto q t) c.end-end.ensures
            (at_most_of_not_before (place c.shift_begin-last.result) (place c.end-end.result)
            (λ b. let x = c.precedes.ensures.1 b in let y = c.if-not-precedes.true in cc) t
            (upto_same (moved_begin w.begin_by w.begin_in (ends (interval c.args.w.on))) (place c.shift_begin-last.result) t (same_places last_is) h));
      }),
    )

pub returns-then-precedes-clause-passed : goal.returns-then-precedes-clause-passed
returns-then-precedes-clause-passed c =
    let w = c.args.since.window in
    let last_is = counts_to (goal.at.returns-then-precedes-clause-passed c).After-shift_begin-last in (
      c.in_ok-done.ensures.rested,
      subst (λ (q : Cut). Before (place q) (ends (interval c.args.v.on))) c.end-2.ensures
          (subst (λ (q : Place). Before (place c.end-2.result) q) c.end-end.ensures (c.precedes-2.ensures.0 c.if-precedes.true)),
      before_same (ends (interval c.args.v.on)) (place c.shift_begin-last.result) (moved_begin w.begin_by w.begin_in (ends (interval c.args.w.on)))
          (subst (λ (q : Place). Before q (place c.shift_begin-last.result)) c.end-end.ensures (c.precedes.ensures.0 c.if-not-precedes.false)) last_is,
    )

pub returns-clause-passed : goal.returns-clause-passed
returns-clause-passed c =
    let w = c.args.since.window in
    let is : c.pass-2.result ≡ c.args.v =
    same_first (fresh_at c.args.edges.now w.of) c.pass-2.result c.args.v c.pass-2.ensures.first c.requires.first_left in
    let last_is = counts_to (goal.at.returns-clause-passed c).After-shift_begin-last in
    let passed : HasPassed c.args.edges.now c.pass-2.new.self w.of c.pass-2.result =
    record {
      within = c.requires.left;
      first = c.pass-2.ensures.first;
      edges = c.pass-2.ensures.read;
      start = c.pass-2.ensures.start;
      spare = c.pass-2.ensures.spare;
    } in (
      refl,
      inr (
        subst (λ (q : Verdict). HasPassed c.args.edges.now c.pass-2.new.self w.of q) is passed,
        before_same (ends (interval c.args.v.on)) (place c.shift_begin-last.result) (moved_begin w.begin_by w.begin_in (ends (interval c.args.w.on)))
            (subst (λ (q : Place). Before q (place c.shift_begin-last.result)) c.end-end.ensures (c.precedes.ensures.0 c.if-not-precedes.false)) last_is,
        subst (λ (q : Cut). AtMost (ends (interval c.args.v.on)) (place q)) c.end-2.ensures
            (subst (λ (q : Place). AtMost q (place c.end-2.result)) c.end-end.ensures
            (at_most_of_not_before (place c.end-end.result) (place c.end-2.result)
            (λ b. true≢false (sym (c.precedes-2.ensures.1 b) ∙ c.if-precedes.false)))),
      ),
    )

pub pass-requires : goal.pass-requires
pass-requires c = record {
  edge = c.requires.right;
  some = slice_get_within (fresh_at c.args.edges.now c.args.since.right) 0 c.args.w c.requires.first_right;
}

pub rest-requires : goal.rest-requires
rest-requires c = record { own = c.requires.own; sound = c.requires.sound; inside = c.requires.inside }

pub pass-requires-2 : goal.pass-requires-2
pass-requires-2 c = record {
  edge = c.requires.left;
  some = slice_get_within (fresh_at c.args.edges.now c.args.since.window.of) 0 c.args.v c.requires.first_left;
}
