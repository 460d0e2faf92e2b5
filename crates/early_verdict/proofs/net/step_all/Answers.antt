use Rattle.std.proofs.Common.{◌≡◌, ◌∙◌, ◌≤◌, refl, sym, subst, length, arith}
use Rattle.std.proofs.lemmas.Option.{slice_get_within}
use Rattle.stl_syntax.proofs.PostOrderLemmas.{placed}
use Rattle.early_verdict.specs.Standing.{SteppedTo, own_list}
use Rattle.early_verdict.specs.Living.{ShownTo}
use Rattle.early_verdict.specs.BlockRows.{own_row, previous_row}
use Rattle.early_verdict.proofs.EntryByNodes.{changed_none, changed_on, fits_on, shown_on, shown_tidy_on, tidy_on}
use Rattle.early_verdict.proofs.net.step_all.Goals as goal

pub entry_at-requires-clause-count : goal.entry_at-requires-clause-count
entry_at-requires-clause-count c = subst (λ k. length c.args.formula.now.nodes ≤ k) (sym c.loop-i.invariant.count) c.requires.count

pub entry_at-requires-clause-shown_count : goal.entry_at-requires-clause-shown_count
entry_at-requires-clause-shown_count c = c.loop-i.invariant.shows.count ∙ c.requires.shown_count

pub entry_at-requires-clause-none : goal.entry_at-requires-clause-none
entry_at-requires-clause-none c = λ first s e.
    c.requires.none first c.loop-i.i s (sym (c.loop-i.invariant.stepped.others c.loop-i.i (omega arith)) ∙ e)

pub loop-i-init : goal.loop-i-init
loop-i-init c = record {
  count = refl;
  stepped = changed_none (own_list c.args.formula.now.nodes c.args.live.now c.args.shown.now);
  shows = changed_none c.args.shown.now;
  tidy = c.requires.tidy;
  shown_tidy = c.requires.shown_tidy;
  fits = λ old tr h have go were j m s l. absurd (omega (arith, l));
}

pub loop-i-preserved : goal.loop-i-preserved
loop-i-preserved c =
    let i = c.loop-i.i in
    let nodes = c.args.formula.now.nodes in
    let mid = own_list nodes c.loop-i.live c.loop-i.shown in
    let new = own_list nodes c.entry_at.new.live c.entry_at.new.shown in
    let mid_shown = c.loop-i.shown in
    let new_shown = c.entry_at.new.shown in
    let v = c.loop-i.invariant in
    let comes = c.in_ok-entry_at.ensures.comes in
    record {
      count = c.in_ok-entry_at.ensures.count ∙ v.count;
      stepped = changed_on (λ j s r l k. k) v.stepped comes.at;
      shows = shown_on mid comes.at.others v.shows comes.shows;
      tidy = tidy_on i mid new v.tidy comes.at;
      shown_tidy = shown_tidy_on i new mid_shown new_shown v.shown_tidy comes.shows;
      fits = λ old tr h have go were.
          fits_on c.args.bound.now (previous_row c.args.next.now) (own_row c.args.next.now) h have go were v.stepped v.shows comes.at comes.shows
          (λ j m e. placed nodes j m c.len-count.ensures.well_formed.nodes.post_order e) comes.here
          (v.fits old tr h have go were) (comes.fits old tr);
    }

pub returns-clause-count : goal.returns-clause-count
returns-clause-count c = c.loop-i.invariant.count

pub returns-clause-comes : goal.returns-clause-comes
returns-clause-comes c =
    let i = c.loop-i.i in
    let nodes = c.args.formula.now.nodes in
    let v = c.loop-i.invariant in
    let now = own_list nodes c.loop-i.live c.loop-i.shown in
    let end : i ≡ length nodes = omega (arith, c.loop-i-test.false, c.loop-i.auto.i-end, c.len-count.ensures.count) in
    record {
      stepped = subst (λ k. SteppedTo k (own_list nodes c.args.live.now c.args.shown.now) now) end v.stepped;
      shows = subst (λ k. ShownTo k now c.args.shown.now c.loop-i.shown) end v.shows;
      tidy = (v.tidy, v.shown_tidy);
      fits = λ old tr h have go were j n s at is. v.fits old tr h have go were j n s
          (let k = slice_get_within nodes j n at in omega (arith, k, end)) at is;
    }
