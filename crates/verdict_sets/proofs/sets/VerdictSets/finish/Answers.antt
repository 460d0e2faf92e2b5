-- The one row that is held is the last of the trace.
use Rattle.std.proofs.Common.{◌≡◌, ◌-◌, length, sym, ap, ◌∙◌, subst, arith, get_or}
use Rattle.stl_syntax.specs.Formula.{Formula}
use Rattle.stl_syntax.specs.Trace.{IsTrace, last_time}
use Rattle.stl_syntax.specs.declared.scale.Scale.{Scale}
use Rattle.atom_lines.specs.Binding.{IsBound}
use Rattle.truth_sets.specs.Standing.{StandFor, TellsRoot}
use Rattle.trace_stream.specs.declared.case.Case.{Case}
use Rattle.verdict_sets.specs.Keeping.{HasSets}
use Rattle.verdict_sets.specs.Telling.{AreLinesFrom}
use Rattle.verdict_sets.proofs.CaseSets.{no_row, last_held}
use Rattle.verdict_sets.proofs.RootSets.{is_check_answer}
use Rattle.verdict_sets.proofs.LinesFrom.{begun_with, all_left}
use Rattle.verdict_sets.proofs.sets.VerdictSets.finish.Goals.{After-time-last}
use Rattle.verdict_sets.proofs.sets.VerdictSets.finish.Goals as goal

module _ (c : After-time-last) (case : Case) (h : HasSets c.args.self case) (ok : IsTrace case.trace) where
  -- the time that is told is that of the last row
  at_last : (last_held c.args.self case h ok).0.time ≡ c.time-last.result
  at_last =
      let (r, same, stands, last) = last_held c.args.self case h ok in
      let few : length c.args.self.case.trace.rows ≡ 1 = ap length same in
      let place : c.rows.result - 1 ≡ 0 = omega (arith, few, c.rows.ensures.count) in
      sym (c.time-last.ensures no_row ∙ ap (λ n. (get_or c.args.self.case.trace.rows n no_row).time) place
      ∙ ap (λ l. (get_or l 0 no_row).time) same)

  -- the formula that is held is bound to the header of the case
  bound_own : IsBound case.bound c.args.self.case.formula case.trace.header
  bound_own = subst (λ (f : Formula). IsBound case.bound f case.trace.header) (sym h.tail.formula) h.tail.fits.1.bound

  stands_all : StandFor c.args.self.sets case.bound c.args.self.case.formula.nodes case.trace.header case.trace.rows (last_held c.args.self case h ok).0
  stands_all = subst (λ (f : Formula). StandFor c.args.self.sets case.bound f.nodes case.trace.header case.trace.rows (last_held c.args.self case h ok).0)
      (sym h.tail.formula) (last_held c.args.self case h ok).2

  last_all : last_time 0 case.trace.rows ≡ c.time-last.result
  last_all = (last_held c.args.self case h ok).3 ∙ at_last

pub finish-requires : goal.finish-requires
finish-requires c =
    let (case, h, ok) = c.requires in
    let t = (goal.at.finish-requires c).After-time-last in
    record {
      stands = (
        case.bound,
        case.trace,
        (last_held c.args.self case h ok).0,
        bound_own t case h ok,
        ok,
        at_last t case h ok,
        last_all t case h ok,
        stands_all t case h ok,
      );
    }

pub told_by-requires-clause-domain : goal.told_by-requires-clause-domain
told_by-requires-clause-domain c =
    let (case, h, ok) = c.requires in
    let t = (goal.at.told_by-requires-clause-domain c).After-time-last in
    (c.in_ok-judged.ensures case.bound case.trace (last_held c.args.self case h ok).0 (bound_own t case h ok) ok (at_last t case h ok)
    (last_all t case h ok) (stands_all t case h ok)).domain

pub told_by-requires-clause-own : goal.told_by-requires-clause-own
told_by-requires-clause-own c =
    let (case, h, ok) = c.requires in
    let t = (goal.at.told_by-requires-clause-own c).After-time-last in
    (c.in_ok-judged.ensures case.bound case.trace (last_held c.args.self case h ok).0 (bound_own t case h ok) ok (at_last t case h ok)
    (last_all t case h ok) (stands_all t case h ok)).told.of

pub returns-clause-begun : goal.returns-clause-begun
returns-clause-begun c =
    let (case, h, ok) = c.requires in
    let t = (goal.at.returns-clause-begun c).After-time-last in
    let told = c.in_ok-judged.ensures case.bound case.trace (last_held c.args.self case h ok).0 (bound_own t case h ok) ok (at_last t case h ok)
    (last_all t case h ok) (stands_all t case h ok) in
    let is = c.told_by.ensures in
    begun_with c.in_ok-judged.judged c.told_by.result is.judged is.none c.scale-scale.result c.scale-scale.ensures.digits.time
    told.domain told.told.of is.scale is.from

pub returns-clause-told : goal.returns-clause-told
returns-clause-told c = λ f case text fits h ok left.
    let t = (goal.at.returns-clause-told c).After-time-last in
    let j = c.in_ok-judged.judged in
    let a = c.told_by.result in
    let is = c.told_by.ensures in
    let told = c.in_ok-judged.ensures case.bound case.trace (last_held c.args.self case h ok).0 (bound_own t case h ok) ok (at_last t case h ok)
    (last_all t case h ok) (stands_all t case h ok) in
    is_check_answer case f fits j (subst (λ (g : Formula). TellsRoot g.nodes case.trace j) h.tail.formula told) a.holds text
    (subst (λ (s : Scale). AreLinesFrom j s a.holds 0 text)
    (is.scale ∙ c.scale-scale.ensures.scale ∙ ap (λ (g : Formula). g.scale) h.tail.formula)
    (all_left j a is.judged is.none text left)) is.first
