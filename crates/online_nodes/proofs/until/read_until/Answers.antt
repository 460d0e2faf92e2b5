use Rattle.std.proofs.Common.{sym, ◌∙◌}
use Rattle.std.proofs.lemmas.Bool.{not-false, not-true}
use Rattle.rational.proofs.Lists.{empty_of_none}
use Rattle.online_nodes.proofs.UntilPasses.{left_out_settles, right_out_settles}
use Rattle.online_nodes.proofs.UntilCounts.{passes_failed}
use Rattle.online_nodes.proofs.until.read_until.Goals as goal

pub returns-in_default-clause-turned : goal.returns-in_default-clause-turned
returns-in_default-clause-turned c = left_out_settles (empty_of_none _ (sym c.next.ensures ∙ c.in_default.is))

pub returns-in_default-next-clause-turned : goal.returns-in_default-next-clause-turned
returns-in_default-next-clause-turned c = right_out_settles (empty_of_none _ (sym c.next-2.ensures ∙ c.in_default-next.is))

pub returns-clause-turned : goal.returns-clause-turned
returns-clause-turned c =
    passes_failed c.requires.apart (sym c.next.ensures ∙ c.in-Some.is) (sym c.next-2.ensures
    ∙ c.in-Some-next.is) (not-false c.in-Some.v.holds c.if-not-v.false) c.if-w.false
    c.pass_ended.ensures c.requires.left_apart c.requires.right_apart c.requires.sound c.requires.inside

pub new_run-requires : goal.new_run-requires
new_run-requires c = record {
  left = c.requires.left;
  own = c.requires.own;
  left_apart = c.requires.left_apart;
  right_apart = c.requires.right_apart;
  apart = c.requires.apart;
  sound = c.requires.sound;
  inside = c.requires.inside;
  first = sym c.next.ensures ∙ c.in-Some.is;
  fails = not-true c.in-Some.v.holds c.if-not-v.true;
}

pub count_both-requires : goal.count_both-requires
count_both-requires c =
    let first_left = sym c.next.ensures ∙ c.in-Some.is in
    let first_right = sym c.next-2.ensures ∙ c.in-Some-next.is in
    record {
      left = c.requires.left;
      right = c.requires.right;
      own = c.requires.own;
      left_apart = c.requires.left_apart;
      right_apart = c.requires.right_apart;
      apart = c.requires.apart;
      sound = c.requires.sound;
      inside = c.requires.inside;
      first_left = first_left;
      first_right = first_right;
      left_holds = not-false c.in-Some.v.holds c.if-not-v.false;
      right_holds = c.if-w.true;
      fits_left = c.requires.fits_left c.in-Some.v first_left;
      fits_right = c.requires.fits_right c.in-Some-next.w first_right;
    }

pub pass_ended-requires : goal.pass_ended-requires
pass_ended-requires c = record {
  left = c.requires.left;
  right = c.requires.right;
  apart = c.requires.apart;
  first_left = sym c.next.ensures ∙ c.in-Some.is;
  first_right = sym c.next-2.ensures ∙ c.in-Some-next.is;
}

pub returns-then-not-v : goal.returns-then-not-v
returns-then-not-v c = c.new_run.ensures

pub returns-then-w : goal.returns-then-w
returns-then-w c = c.count_both.ensures
