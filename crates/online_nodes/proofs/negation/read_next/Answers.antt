use Rattle.std.proofs.Common.{◌≡◌, ◌<◌, slice_get, refl, sym, ap, subst, ◌∙◌, arith}
use Rattle.std.proofs.lemmas.Option.{slice_get_within}
use Rattle.frac128.specs.Spans.{interval}
use Rattle.stl_syntax.specs.declared.items.Verdict.{Verdict}
use Rattle.online_nodes.specs.Working.{HasPassed}
use Rattle.frac128.specs.declared.cut.Cut.{Cut}
use Rattle.rational.specs.Places.{Place, ends, AtMost, Before, Upto}
use Rattle.frac128.specs.Cuts.{place}
use Rattle.online_nodes.specs.Held.{fresh_at, Edge}
use Rattle.online_nodes.proofs.GotLemmas.{got-length, got-other}
use Rattle.rational.proofs.PlaceLemmas.{upto_of_before, at_most_of_not_before}
use Rattle.online_nodes.proofs.JoinLemmas.{same_first}
use Rattle.online_nodes.proofs.NegationLemmas.{IsSaidOf, next_was_read}
use Rattle.online_nodes.proofs.negation.read_next.Goals as goal

-- what ends before the stretch's end lies within it
ends_inside : (end to out_to : Cut) → to ≡ out_to → Before (place end) (place to) → AtMost (place end) (place out_to)
ends_inside end to out_to same before t h =
    upto_of_before (place end) (place out_to) t (subst (λ (q : Cut). Before (place end) (place q)) same before) h

pub returns-then-not-precedes-clause-read : goal.returns-then-not-precedes-clause-read
returns-then-not-precedes-clause-read c =
    record {
      same = refl;
      beyond = λ v first t h.
          subst (λ (x : Verdict). Upto (ends (interval x.on)) t)
          (same_first (fresh_at c.args.edges.now c.args.of) c.in-Some.v v (sym c.next.ensures ∙ c.in-Some.is) first)
          (subst (λ (q : Place). Upto q t) c.end-v_end.ensures
          (at_most_of_not_before (place c.end.result) (place c.end-v_end.result)
          (λ b. let e = c.precedes.ensures.1 b in let f = c.if-not-precedes.true in cc) t
          (subst (λ (q : Cut). Upto (place q) t) (sym c.end.ensures) h)));
    }

pub returns-clause-read : goal.returns-clause-read
returns-clause-read c =
    let reaches = c.in_ok-next.ensures.reaches in
    let to_end = ends_inside c.end-v_end.result c.end.result c.args.out.to c.end.ensures (c.precedes.ensures.0 c.if-not-precedes.false) in
    let said : IsSaidOf c.args.edges.now c.upto_within.new.edges c.args.of c.args.out c.in_ok-next.next c.in-Some.v =
    record {
      first = sym c.next.ensures ∙ c.in-Some.is;
      own = c.requires.own;
      apart = c.requires.apart;
      said = c.in_ok-next.ensures.said;
      forward = reaches.forward;
      inside = reaches.inside;
      by_input = λ t a u. subst (λ (q : Place). Upto q t) c.end-v_end.ensures (reaches.no_more t a u);
    } in
    let passed : HasPassed c.upto_within.new.edges c.pass.new.self c.args.of c.pass.result =
    record {
      within = omega (arith, got-length said.said.got, c.requires.input);
      first = c.pass.ensures.first;
      edges = c.pass.ensures.read;
      start = c.pass.ensures.start;
      spare = c.pass.ensures.spare;
    } in
    next_was_read said passed
    (λ t h. let there = subst (λ (q : Place). Upto q t) (sym c.end-v_end.ensures) h in reaches.reached t there (to_end t there))

pub upto_within-requires : goal.upto_within-requires
upto_within-requires c = record {
  edge = c.requires.own;
  inside = c.requires.inside;
  sound = c.requires.sound;
  within = ends_inside c.end-v_end.result c.end.result c.args.out.to c.end.ensures (c.precedes.ensures.0 c.if-not-precedes.false);
}

pub pass-requires : goal.pass-requires
pass-requires c =
    let of = c.args.of in
    let got = c.in_ok-next.ensures.said.got in
    record {
      edge = subst (λ n. of < n) (sym (got-length got)) c.requires.input;
      some = slice_get_within (fresh_at c.upto_within.new.edges of) 0 c.in-Some.v
          (ap (λ (e : Edge). slice_get e.fresh 0) (got-other got of c.requires.apart) ∙ (sym c.next.ensures ∙ c.in-Some.is));
    }
