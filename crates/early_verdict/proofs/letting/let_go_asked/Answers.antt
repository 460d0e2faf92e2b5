use Rattle.std.proofs.Common.{inl, refl, subst, arith}
use Rattle.frac128.specs.Value.{value}
use Rattle.early_verdict.specs.Letting.{AreAskedBy, NetHas}
use Rattle.early_verdict.proofs.KnownNode.{begins_from, child_there, children_there, own_beside, own_listed, own_there, own_tidy}
use Rattle.early_verdict.proofs.FewerTimes.{are_apart, asked_stands, shown_inside}
use Rattle.early_verdict.proofs.UntilStands.{parts_inside, until_stands}
use Rattle.early_verdict.proofs.letting.let_go_asked.Goals as goal

pub bounds_at-own-requires : goal.bounds_at-own-requires
bounds_at-own-requires c = own_there c.requires.stands.2 c.requires.operator

pub ask_children-requires : goal.ask_children-requires
ask_children-requires c =
    let h = c.requires.stands.2 in
    record {
      children = children_there h c.requires.operator;
      tidy = h.stands.shown_tidy;
      inside = shown_inside h.stands;
      apart = are_apart h.stands;
      near = c.bounds_at-own.result.low;
    }

pub bounds_at-wide-requires : goal.bounds_at-wide-requires
bounds_at-wide-requires c =
    let u = c.in-Some.ensures.some in
    let h = subst (NetHas c.requires.stands.0 c.requires.stands.1 c.args.live.now c.args.shown.now c.args.i) u.3 c.requires.stands.2 in
    let there = child_there h tt c.in-Some.left (inl refl) in
    let less = c.ask_children.ensures.less.count in
    omega (arith, there, less)

pub cut_run_at-requires : goal.cut_run_at-requires
cut_run_at-requires c =
    let u = c.in-Some.ensures.some in
    let h = subst (NetHas c.requires.stands.0 c.requires.stands.1 c.args.live.now c.args.shown.now c.args.i) u.3 c.requires.stands.2 in
    let wide = c.bounds_at-wide.ensures in
    record {
      within = own_there h tt;
      tidy = own_tidy h tt;
      inside = λ s is. parts_inside c.args.i h.here wide.1 wide.2
          (subst (λ n. AreAskedBy n (value c.bounds_at-own.result.from.time) c.args.shown.now c.ask_children.new.shown) u.3 c.ask_children.ensures)
          h.stands (own_listed h tt s is);
    }

pub returns-in-Some-clause-count : goal.returns-in-Some-clause-count
returns-in-Some-clause-count c = c.cut_run_at.ensures.count

pub returns-in-Some-clause-stands : goal.returns-in-Some-clause-stands
returns-in-Some-clause-stands c = λ nodes tr st.
    let u = c.in-Some.ensures.some in
    let h = subst (NetHas nodes tr c.args.live.now c.args.shown.now c.args.i) u.3 st in
    let own = c.bounds_at-own.ensures in
    let wide = c.bounds_at-wide.ensures in
    let cut = c.cut_run_at.ensures in
    until_stands h.formed h.here cut
    (own_beside h tt c.cut_run_at.new.live cut.others cut.count c.ask_children.ensures.less cut.at_old cut.at_new) wide.1 wide.2
    (begins_from c.args.live.now c.args.i own.1 own.2 cut.at_old)
    (subst (λ n. AreAskedBy n (value c.bounds_at-own.result.from.time) c.args.shown.now c.ask_children.new.shown) u.3 c.ask_children.ensures)
    h.stands

pub returns-in_default-clause-stands : goal.returns-in_default-clause-stands
returns-in_default-clause-stands c = λ nodes tr h.
    let own = c.bounds_at-own.ensures in
    asked_stands h.formed c.args.i h.here
    (own_beside h c.requires.operator c.args.live.now (λ j d. refl) refl c.ask_children.ensures.less own.1 own.1)
    (begins_from c.args.live.now c.args.i own.1 own.2 own.1) c.ask_children.ensures h.stands c.in_default.ensures.none
