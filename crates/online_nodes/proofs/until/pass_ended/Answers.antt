use Rattle.std.proofs.Common.{◌≡◌, inl, inr, sym, subst}
use Rattle.std.proofs.lemmas.Option.{slice_get_within}
use Rattle.frac128.specs.Spans.{interval}
use Rattle.stl_syntax.specs.declared.items.Verdict.{Verdict}
use Rattle.rational.specs.Places.{Place, ends, AtMost, Before, Upto}
use Rattle.frac128.specs.Cuts.{place}
use Rattle.online_nodes.specs.Held.{fresh_at}
use Rattle.online_nodes.specs.Working.{HasPassed}
use Rattle.online_nodes.proofs.JoinLemmas.{same_first}
use Rattle.rational.proofs.PlaceLemmas.{at_most_of_not_before}
use Rattle.online_nodes.proofs.until.pass_ended.Goals as goal

pub returns-then-precedes : goal.returns-then-precedes
returns-then-precedes c =
    let is : c.pass.result ≡ c.args.w =
    same_first (fresh_at c.args.edges.now c.args.until.right) c.pass.result c.args.w c.pass.ensures.first c.requires.first_right in
    let passed : HasPassed c.args.edges.now c.pass.new.self c.args.until.right c.pass.result =
    record {
      within = c.requires.right;
      first = c.pass.ensures.first;
      edges = c.pass.ensures.read;
      start = c.pass.ensures.start;
      spare = c.pass.ensures.spare;
    } in
    record {
      which = inl (
        subst (λ (v : Verdict). HasPassed c.args.edges.now c.pass.new.self c.args.until.right v) is passed,
        subst (λ (q : Place). Before q (ends (interval c.args.v.on))) c.end.ensures
            (subst (λ (q : Place). Before (place c.end.result) q) c.end-2.ensures (c.precedes.ensures.0 c.if-precedes.true)),
      );
    }

pub returns : goal.returns
returns c =
    let is : c.pass-2.result ≡ c.args.v =
    same_first (fresh_at c.args.edges.now c.args.until.window.of) c.pass-2.result c.args.v c.pass-2.ensures.first c.requires.first_left in
    let passed : HasPassed c.args.edges.now c.pass-2.new.self c.args.until.window.of c.pass-2.result =
    record {
      within = c.requires.left;
      first = c.pass-2.ensures.first;
      edges = c.pass-2.ensures.read;
      start = c.pass-2.ensures.start;
      spare = c.pass-2.ensures.spare;
    } in
    let sooner : AtMost (place c.end-2.result) (place c.end.result) =
    at_most_of_not_before (place c.end-2.result) (place c.end.result)
    (λ b. let e = c.precedes.ensures.1 b in let f = c.if-precedes.false in cc) in
    record {
      which = inr (
        subst (λ (v : Verdict). HasPassed c.args.edges.now c.pass-2.new.self c.args.until.window.of v) is passed,
        (λ t h. subst (λ (q : Place). Upto q t) c.end.ensures (sooner t (subst (λ (q : Place). Upto q t) (sym c.end-2.ensures) h))),
      );
    }

pub pass-requires : goal.pass-requires
pass-requires c = record {
  edge = c.requires.right;
  some = slice_get_within (fresh_at c.args.edges.now c.args.until.right) 0 c.args.w c.requires.first_right;
}

pub pass-requires-2 : goal.pass-requires-2
pass-requires-2 c = record {
  edge = c.requires.left;
  some = slice_get_within (fresh_at c.args.edges.now c.args.until.window.of) 0 c.args.v c.requires.first_left;
}
