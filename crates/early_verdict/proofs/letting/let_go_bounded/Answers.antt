use Rattle.std.proofs.Common.{inl, inr, refl, arith}
use Rattle.std.proofs.lemmas.Option.{slice_get_within}
use Rattle.stl_syntax.specs.declared.node.Node.TheVariants.{Since}
use Rattle.std.specs.Prelude.{Some}
use Rattle.early_verdict.proofs.KnownNode.{begins_from, child_there, own_beside, own_listed, own_there, own_tidy}
use Rattle.early_verdict.proofs.LettingLemmas.{two_less}
use Rattle.early_verdict.proofs.FewerTimes.{shown_inside}
use Rattle.early_verdict.proofs.SinceLooks.{bounded_stands}
use Rattle.early_verdict.proofs.SinceStands.{back_inside, ordered}
use Rattle.early_verdict.proofs.letting.let_go_bounded.Goals as goal

pub bounds_at-own-requires : goal.bounds_at-own-requires
bounds_at-own-requires c = own_there c.requires.3 tt

pub cut_before-first-requires : goal.cut_before-first-requires
cut_before-first-requires c = c.bounds_at-own.result.low

pub ask_both-requires : goal.ask_both-requires
ask_both-requires c =
    let h = c.requires.3 in
    record {
      left = child_there h tt c.args.since.now.left (inl refl);
      right = child_there h tt c.args.since.now.right (inr refl);
      tidy = h.stands.shown_tidy;
      inside = shown_inside h.stands;
    }

pub bounds_at-wide-requires : goal.bounds_at-wide-requires
bounds_at-wide-requires c =
    let there = child_there c.requires.3 tt c.args.since.now.left (inl refl) in
    let less = (two_less c.ask_both.ensures.1 c.ask_both.ensures.2).count in
    omega (arith, there, less)

pub cut_run_at-requires : goal.cut_run_at-requires
cut_run_at-requires c =
    let h = c.requires.3 in
    let wide = c.bounds_at-wide.ensures in
    let asked = c.ask_both.ensures in
    record {
      within = own_there h tt;
      tidy = own_tidy h tt;
      inside = λ s is. back_inside c.args.i h.here wide.1 wide.2 asked.1 asked.2 h.stands (own_listed h tt s is);
    }

pub returns-clause-count : goal.returns-clause-count
returns-clause-count c = c.cut_run_at.ensures.count

pub returns-clause-stands : goal.returns-clause-stands
returns-clause-stands c = λ nodes tr a h.
    let since = c.args.since.now in
    let own = c.bounds_at-own.ensures in
    let wide = c.bounds_at-wide.ensures in
    let asked = c.ask_both.ensures in
    let cut = c.cut_run_at.ensures in
    bounded_stands h.formed h.here
    (ordered nodes h.formed c.args.i (slice_get_within nodes c.args.i (Since since.left since.right a (Some since.most)) h.here)
    since.left since.right a since.most h.here)
    c.cut_before-first.ensures cut
    (own_beside h tt c.cut_run_at.new.live cut.others cut.count (two_less asked.1 asked.2) cut.at_old cut.at_new) wide.1 wide.2
    (begins_from c.args.live.now c.args.i own.1 own.2 cut.at_old) asked.1 asked.2 h.stands
