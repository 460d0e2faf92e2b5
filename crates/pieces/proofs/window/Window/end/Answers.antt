use Rattle.std.proofs.Common.{◌∙◌, sym, subst}
use Rattle.std.proofs.lemmas.Bool.{false≢true}
use Rattle.std.proofs.lemmas.Option.{IfSome_then}
use Rattle.std.proofs.lemmas.Result.{on_err_weaker, on_ok_weaker}
use Rattle.rational.specs.Time.{◌≤ʳ◌}
use Rattle.rational.proofs.Order.{le_refl}
use Rattle.rational.proofs.PlaceLemmas.{le_of_at_most}
use Rattle.frac128.specs.Value.{value}
use Rattle.frac128.specs.Cuts.{place}
use Rattle.value_laws.specs.Members.{ShapeLaws}
use Rattle.pieces.specs.Chains.{HasShape, stop}
use Rattle.pieces.specs.Over.{IsMovedTo}
use Rattle.pieces.proofs.PieceEnds.{told_within}
use Rattle.pieces.proofs.BestEnd.{none_last, none_level, none_rises, on_ok_two}
use Rattle.pieces.proofs.OverWindow.{tells_all}
use Rattle.pieces.proofs.InPlayCauses.{plays_told, told_cause_none}
use Rattle.pieces.proofs.Refusals.{cause_over}
use Rattle.pieces.proofs.window.Window.end.Goals as goal

pub tell-requires-clause-alone : goal.tell-requires-clause-alone
tell-requires-clause-alone g c = λ h. none_last g.P.Shape (assumption g.met.P.Shape) c.args.self.now.way.side c.of_none.result c.of_none.ensures.value

pub tell-requires-clause-steps : goal.tell-requires-clause-steps
tell-requires-clause-steps g c =
    let (s, st, ends) = c.requires.last in
    st.met.stands.steps

pub tell-requires-clause-rises : goal.tell-requires-clause-rises
tell-requires-clause-rises g c = none_rises g.P.Shape (assumption g.met.P.Shape) c.args.self.now.way.side c.of_none.result c.of_none.ensures.value
    (stop c.args.self.now.sliding.out).at (value c.args.self.now.way.to.time)

pub tell-requires-clause-level : goal.tell-requires-clause-level
tell-requires-clause-level g c =
    none_level g.P.Shape (assumption g.met.P.Shape) c.args.self.now.way.side c.of_none.result c.of_none.ensures.value

pub tell-requires-clause-from_within : goal.tell-requires-clause-from_within
tell-requires-clause-from_within g c =
    let (s, st, ends) = c.requires.last in
    told_within st.met.can st.met.stands

pub tell-requires-clause-to_within : goal.tell-requires-clause-to_within
tell-requires-clause-to_within g c =
    let (s, st, ends) = c.requires.last in
    st.met.within

pub tell-requires-clause-order : goal.tell-requires-clause-order
tell-requires-clause-order g c =
    let (s, st, ends) = c.requires.last in
    λ t u. st.met.to t (st.met.stands.upto t u)

pub returns-clause-told : goal.returns-clause-told
returns-clause-told g c s st at_stop =
    let laws : ShapeLaws g.P.Shape = assumption g.met.P.Shape in
    let way = c.args.self.now.way in
    let old = c.args.self.now.sliding in
    on_ok_two c.tell.result (λ told ends. tells_all g.P.Shape laws s way st.met.can.rising c.of_none.result old c.tell.new.self (place way.to)
    st.from st.met.stands told ends at_stop st.met.to c.of_none.ensures.value)
    c.tell.ensures.told c.tell.ensures.ends

pub returns-clause-bases : goal.returns-clause-bases
returns-clause-bases g c s st at_stop = on_ok_weaker c.tell.result (λ told.
    subst (λ x. (p : g.row.P.Denot) → HasShape c.tell.new.self.out p → IsMovedTo g.P.Shape s c.args.self.now.way.over x p) at_stop
    (plays_told g.P.Shape s c.args.self.now.way.over (place c.args.self.now.way.to) c.args.self.now.way.side c.args.self.now.sliding c.tell.new.self
    st.met.plays c.of_none.result (λ m. absurd (false≢true (sym c.of_none.ensures.still ∙ m))) told).told)
    c.tell.ensures.told

pub returns-clause-wide : goal.returns-clause-wide
returns-clause-wide g c s st at_stop =
    let way = c.args.self.now.way in
    let out = stop c.args.self.now.sliding.out in
    on_err_weaker c.tell.result (λ some. IfSome_then c.tell.new.fault some (λ pair x. cause_over g.P.Shape s way.over (stop s).at pair
    (told_cause_none g.P.Shape s way.over (place way.to) (assumption g.met.P.Shape) way.side
    c.of_none.result (place way.to) (stop s).at c.args.self.now.sliding c.of_none.ensures.value st.met.plays
    (le_of_at_most s.from out st.met.stands.on)
    (subst (λ x. (place way.to).at ≤ʳ x.at) at_stop (le_refl (place way.to).at)) (le_refl (stop s).at) pair x))) c.tell.ensures.wide
