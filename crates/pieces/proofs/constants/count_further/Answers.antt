use Rattle.std.proofs.Common.{rules, arith, ◌≡◌, ◌<◌, List, [], ◌∷◌, refl, sym, subst, ap, ◌∙◌, None, length}
use Rattle.std.specs.Prelude.{◌==◌}
use Rattle.std.specs.VecDeque.{deque_len}
use Rattle.std.proofs.lemmas.Bool.{false≢true}
use Rattle.std.proofs.lemmas.List.{nil_from_length}
use Rattle.rational.specs.Places.{Before}
use Rattle.frac128.specs.Cuts.{place}
use Rattle.pieces.specs.declared.steps.Step.{Step}
use Rattle.pieces.specs.Sliding.{last_end}
use Rattle.pieces.specs.Steps.{steps_end}
use Rattle.pieces.proofs.BestEnd.{on_ok_two}
use Rattle.pieces.proofs.ConstantLemmas.{all_constant, asked_ended}
use Rattle.pieces.proofs.ConstantsReached.{fits_there, level_there, steady_there}
use Rattle.pieces.proofs.ConstantsTaken.{further_ended, further_left, further_pushed}
use Rattle.pieces.proofs.Lasts.{split_last}
use Rattle.pieces.proofs.PieceEnds.{piece_first, piece_last}
use Rattle.pieces.proofs.Shifts.{high_from, high_to, room}
use Rattle.pieces.proofs.constants.count_further.Given.{Over}
use Rattle.pieces.proofs.constants.count_further.Goals.{After-precedes}
use Rattle.pieces.proofs.constants.count_further.Goals as goal

-- a list that is not empty has an item
some_of : {X : Type 0} (xs : List X) → ¬ (xs ≡ []) → 0 < length xs
some_of [] n = absurd (n refl)
some_of (x ∷ xs) n = omega arith

-- where the constants end
ends : (g : Over) (c : After-precedes g) → place c.end_of.result.now ≡ last_end c.args.window.now
ends g c = c.end_of.ensures ∙ ap (λ b. steps_end b c.args.window.now.steps.items) c.until-at.ensures.value

pub left-until-requires : goal.left-until-requires
left-until-requires g c =
    let (s, known) = c.requires.further in
    record {
      from = piece_first known.can known.more;
      to = piece_last known.can known.more;
      small = known.can.small;
      to_within = known.within;
    }

pub returns-then-not-precedes-clause-taken : goal.returns-then-not-precedes-clause-taken
returns-then-not-precedes-clause-taken g c s known =
    let k = (goal.at.returns-then-not-precedes-clause-taken g c).After-precedes in
    let until = place c.left-until.result in
    further_left g.P.Shape (assumption g.met.P.Shape) s c.args.way.now c.args.met.now c.args.piece.now until c.args.window.now known c.left-until.ensures
    (λ b. false≢true (sym c.if-not-precedes.true ∙ c.precedes.ensures.1 (subst (λ x. Before x until) (sym (ends g k)) b)))

pub at_high-level-requires : goal.at_high-level-requires
at_high-level-requires g c =
    let (s, known) = c.requires.further in
    record {
      small = known.can.small;
      room = room (g.P.Shape.base c.args.piece.now.shape) c.args.way.now.over.high (known.can.near c.args.piece.now.shape known.more.has)
          (high_from c.args.way.now.over known.can.small) (high_to c.args.way.now.over known.can.small);
    }

pub push-requires-clause-constant : goal.push-requires-clause-constant
push-requires-clause-constant g c =
    let (s, known) = c.requires.further in
    all_constant g.P.Shape (assumption g.met.P.Shape) s c.args.way.now known.can.rising (place c.args.met.now) c.args.window.now known.hand.all

pub push-requires-clause-steady : goal.push-requires-clause-steady
push-requires-clause-steady g c =
    let (s, known) = c.requires.further in
    steady_there g.P.Shape s c.args.way.now (place c.args.met.now) c.args.piece.now known.can known.more known.hand.steady c.at_high-level.result
    c.at_high-level.ensures.value

pub push-requires-clause-level : goal.push-requires-clause-level
push-requires-clause-level g c =
    let (s, known) = c.requires.further in
    level_there g.P.Shape s c.args.way.now (place c.args.met.now) c.args.piece.now known.can known.more known.hand.steady c.at_high-level.result
    c.at_high-level.ensures.value

pub returns-then-is_empty-clause-taken : goal.returns-then-is_empty-clause-taken
returns-then-is_empty-clause-taken g c s known =
    let k = (goal.at.returns-then-is_empty-clause-taken g c).After-precedes in
    let p = c.args.piece.now in
    let until = place c.left-until.result in
    let none = nil_from_length c.args.window.now.steps.items (search rules) in
    let l : Step g.row.P.Denot = record { until = c.left-until.result; shape = c.at_high-level.result; other = None } in
    on_ok_two c.push.result (λ settled out. further_pushed g.P.Shape (assumption g.met.P.Shape) s c.args.way.now c.args.met.now p until c.args.window.now
    known c.left-until.ensures l c.push.new.window (fits_there g.P.Shape s c.args.way.now (place c.args.met.now) p known.can known.more known.hand.steady
    c.at_high-level.result c.at_high-level.ensures.value c.left-until.result c.left-until.ensures c.at_high-level.ensures.base) refl
    (subst (λ x. Before x until) (ends g k) (c.precedes.ensures.0 c.if-not-precedes.false)) out settled none) c.push.ensures.settled c.push.ensures.out

pub returns-clause-taken : goal.returns-clause-taken
returns-clause-taken g c s known =
    let k = (goal.at.returns-clause-taken g c).After-precedes in
    let until = place c.left-until.result in
    let (front, last, e) = split_last c.args.window.now.steps.items
    (some_of c.args.window.now.steps.items (let long : deque_len c.args.window.now.steps ≡ length c.args.window.now.steps.items = search rules in
    λ e. false≢true (sym c.if-is_empty.false ∙ c.is_empty.ensures ∙ ap (λ n. n == 0) (long ∙ ap length e)))) in
    further_ended g.P.Shape (assumption g.met.P.Shape) s c.args.way.now c.args.met.now c.args.piece.now until c.args.window.now known c.left-until.ensures
    front last c.left-until.result (record { out = c.args.window.now.out; steps = c.end_last.new.steps }) refl
    (subst (λ x. Before x until) (ends g k) (c.precedes.ensures.0 c.if-not-precedes.false)) refl e (c.end_last.ensures front last e)

pub returns-clause-asked : goal.returns-clause-asked
returns-clause-asked g c =
    let (front, last, e) = split_last c.args.window.now.steps.items
    (some_of c.args.window.now.steps.items (let long : deque_len c.args.window.now.steps ≡ length c.args.window.now.steps.items = search rules in
    λ e. false≢true (sym c.if-is_empty.false ∙ c.is_empty.ensures ∙ ap (λ n. n == 0) (long ∙ ap length e)))) in
    asked_ended g.P.Shape c.args.way.now.side c.args.window.now.steps.items c.end_last.new.steps.items front last
    (record last { until = c.left-until.result }) c.args.range.now c.requires.asked e (c.end_last.ensures front last e) refl
