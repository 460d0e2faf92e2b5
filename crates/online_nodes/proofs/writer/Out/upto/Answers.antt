use Rattle.std.proofs.Common.{◌≡◌, [], refl, sym, subst, arith}
use Rattle.std.proofs.lemmas.List.{append-nil}
use Rattle.frac128.specs.declared.cut.Cut.{Cut}
use Rattle.rational.specs.Places.{Upto, Before}
use Rattle.frac128.specs.Cuts.{place}
use Rattle.online_nodes.specs.Written.{HasTold}
use Rattle.online_nodes.proofs.GotLemmas.{got_none}
use Rattle.rational.proofs.PlaceLemmas.{upto_of_before, at_most_of_not_before, not_both}
use Rattle.online_nodes.proofs.ToldSoFar.{earlier_upto}
use Rattle.online_nodes.proofs.writer.Out.upto.Goals as goal

pub returns-then-not-precedes-clause-said : goal.returns-then-not-precedes-clause-said
returns-then-not-precedes-clause-said c =
    record {
      more = [];
      few = omega arith;
      owed = omega arith;
      got = got_none c.args.edges.now c.args.self.edge;
      edge = refl;
      end = refl;
      sound = c.requires.sound;
      told = λ n tr begin written told all. subst (λ l. HasTold n tr begin l c.args.self) (sym (append-nil written)) told;
    }

pub returns-then-not-precedes-clause-reaches : goal.returns-then-not-precedes-clause-reaches
returns-then-not-precedes-clause-reaches c =
    record {
      forward = λ t h. h;
      inside = c.requires.inside;
      reached = λ t u v.
          at_most_of_not_before (place c.earlier-end.result) (place c.args.self.at)
          (λ b. let e = c.precedes.ensures.1 b in let f = c.if-not-precedes.true in cc) t
          (earlier_upto c.args.cut c.args.self.to c.earlier-end.result c.earlier-end.ensures.one t u v);
      no_more = λ t a u. absurd (not_both (place c.args.self.at) t u a);
    }

pub returns-clause-said : goal.returns-clause-said
returns-clause-said c = c.in_ok-out.ensures.written.answer

pub returns-clause-reaches : goal.returns-clause-reaches
returns-clause-reaches c =
    let at : c.in_ok-out.out.at ≡ c.earlier-end.result = c.in_ok-out.ensures.written.at in
    let before : Before (place c.args.self.at) (place c.earlier-end.result) =
    c.precedes.ensures.0 c.if-not-precedes.false in
    record {
      forward = λ t h. subst (λ (q : Cut). Upto (place q) t) (sym at)
          (upto_of_before (place c.args.self.at) (place c.earlier-end.result) t before h);
      inside = λ t h. c.earlier-end.ensures.second t (subst (λ (q : Cut). Upto (place q) t) at h);
      reached = λ t u v. subst (λ (q : Cut). Upto (place q) t) (sym at)
          (earlier_upto c.args.cut c.args.self.to c.earlier-end.result c.earlier-end.ensures.one t u v);
      no_more = λ t a u. c.earlier-end.ensures.first t (subst (λ (q : Cut). Upto (place q) t) at u);
    }
