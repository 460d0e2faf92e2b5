use Rattle.std.proofs.Common.{[], refl, sym, subst, ◌∙◌, arith}
use Rattle.std.proofs.lemmas.List.{append-nil}
use Rattle.frac128.specs.declared.cut.Cut.{Cut}
use Rattle.rational.specs.Places.{Upto}
use Rattle.rational.proofs.Lists.{empty_of_none}
use Rattle.frac128.specs.Cuts.{place}
use Rattle.online_nodes.specs.Held.{fresh_at}
use Rattle.online_nodes.specs.Joins.{IsReadTo}
use Rattle.online_nodes.specs.Negations.{IsNegating}
use Rattle.online_nodes.proofs.WorkLemmas.{worked_none, worked_put}
use Rattle.online_nodes.proofs.JoinLemmas.{all_told}
use Rattle.online_nodes.proofs.NegationLemmas.{IsSaidOf, rest_was_denied}
use Rattle.online_nodes.proofs.negation.end_negation.Goals as goal

pub returns-in_default-clause-denied : goal.returns-in_default-clause-denied
returns-in_default-clause-denied c =
    let none = empty_of_none (fresh_at c.args.edges.now c.args.of) (sym c.next.ensures ∙ c.in_default.is) in
    record {
      more = [];
      few = omega arith;
      worked = worked_none c.args.edges.now c.args.out.edge c.args.of c.args.of;
      edge = refl;
      to = refl;
      sound = c.requires.sound;
      inside = c.requires.inside;
      fills = λ n p tr begin written read stop of beyond m. (
        subst (λ l. IsNegating n p tr begin l c.args.out read stop (fresh_at c.args.edges.now c.args.of)) (sym (append-nil written)) m,
        all_told (subst (λ f. IsReadTo p tr c.args.out read stop f) none m.input),
      );
    }

pub returns-clause-denied : goal.returns-clause-denied
returns-clause-denied c =
    let first = sym c.next.ensures ∙ c.in-Some.is in
    let said = c.in_ok-end.ensures.said in
    let reaches = c.in_ok-end.ensures.reaches in
    record {
      more = said.more;
      few = said.few;
      worked = worked_put c.requires.own c.requires.apart c.requires.apart said.got;
      edge = said.edge;
      to = said.end;
      sound = said.sound;
      inside = reaches.inside;
      fills = λ n p tr begin written read stop not_of beyond m.
          let so : IsSaidOf c.args.edges.now c.upto.new.edges c.args.of c.args.out c.in_ok-end.end c.in-Some.v =
          record {
            first = first;
            own = c.requires.own;
            apart = c.requires.apart;
            said = said;
            forward = reaches.forward;
            inside = reaches.inside;
            by_input = λ t a u. beyond c.in-Some.v first t (reaches.inside t u);
          } in (
            rest_was_denied so n p tr begin written read stop not_of m,
            (λ t h. reaches.reached t (subst (λ (q : Cut). Upto (place q) t) (sym c.end.ensures) h) h),
          );
    }
