use Rattle.std.proofs.Common.{sym, subst, ◌∙◌}
use Rattle.frac128.specs.declared.cut.Cut.{Cut}
use Rattle.rational.specs.Places.{Upto, AtMost}
use Rattle.rational.proofs.Lists.{empty_of_none}
use Rattle.frac128.specs.Cuts.{place}
use Rattle.online_nodes.specs.Written.{HasAnswer}
use Rattle.online_nodes.specs.Joins.{joined}
use Rattle.online_nodes.proofs.WorkLemmas.{worked_put}
use Rattle.online_nodes.proofs.JoinLemmas.{left_is_out, right_is_out, IsSaidOfBoth, rest_was_told}
use Rattle.online_nodes.proofs.join.end_join.Goals as goal

pub returns-in_default-clause-filled : goal.returns-in_default-clause-filled
returns-in_default-clause-filled c =
    left_is_out c.args.edges.now c.args.join c.args.inputs c.args.out c.requires.sound c.requires.inside
    (empty_of_none _ (sym c.next.ensures ∙ c.in_default.is))

pub returns-in_default-next-clause-filled : goal.returns-in_default-next-clause-filled
returns-in_default-next-clause-filled c =
    right_is_out c.args.edges.now c.args.join c.args.inputs c.args.out c.requires.sound c.requires.inside
    (empty_of_none _ (sym c.next-2.ensures ∙ c.in_default-next.is))

pub returns-clause-filled : goal.returns-clause-filled
returns-clause-filled c =
    let said : HasAnswer c.args.edges.now c.upto.new.edges c.args.out (joined c.args.join c.in-Some.v.holds c.in-Some-next.w.holds) c.in_ok-end.end =
    subst (λ b. HasAnswer c.args.edges.now c.upto.new.edges c.args.out b c.in_ok-end.end) c.joined.ensures c.in_ok-end.ensures.said in
    let first_left = sym c.next.ensures ∙ c.in-Some.is in
    let first_right = sym c.next-2.ensures ∙ c.in-Some-next.is in
    let reaches = c.in_ok-end.ensures.reaches in
    let to_end : AtMost (place c.end.result) (place c.args.out.to) = λ t h. subst (λ (q : Cut). Upto (place q) t) c.end.ensures h in
    record {
      more = said.more;
      few = said.few;
      worked = worked_put c.requires.own c.requires.left_apart c.requires.right_apart said.got;
      edge = said.edge;
      to = said.end;
      sound = said.sound;
      inside = reaches.inside;
      fills = λ n p q tr begin written left right stop_left stop_right of beyond m.
          let both = beyond c.in-Some.v c.in-Some-next.w first_left first_right in
          let so : IsSaidOfBoth c.args.edges.now c.upto.new.edges c.args.join c.args.inputs c.args.out c.in_ok-end.end c.in-Some.v c.in-Some-next.w
          (place c.end.result) =
          record {
            first_left = first_left;
            first_right = first_right;
            own = c.requires.own;
            left_apart = c.requires.left_apart;
            right_apart = c.requires.right_apart;
            apart = c.requires.apart;
            said = said;
            forward = reaches.forward;
            inside = reaches.inside;
            by_left = λ t a u. both.0 t (reaches.inside t u);
            by_right = λ t a u. both.1 t (reaches.inside t u);
            reached = λ t h. reaches.reached t h (to_end t h);
          } in (
            rest_was_told so n p q tr begin written left right stop_left stop_right of m,
            (λ t h. reaches.reached t (subst (λ (q : Cut). Upto (place q) t) (sym c.end.ensures) h) h),
          );
    }
