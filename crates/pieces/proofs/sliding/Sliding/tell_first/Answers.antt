use Rattle.std.proofs.Common.{◌≡◌, rules, [], ◌∷◌, None, drop, sym, ◌∙◌, subst}
use Rattle.std.specs.VecDeque.{deque_len}
use Rattle.std.proofs.lemmas.List.{nil_from_length}
use Rattle.std.proofs.lemmas.Result.{on_ok_weaker}
use Rattle.rational.specs.Time.{Rational}
use Rattle.rational.specs.Extended.{value_at}
use Rattle.rational.specs.Places.{Before, Same}
use Rattle.frac128.specs.Cuts.{place}
use Rattle.pieces.specs.Chains.{stop}
use Rattle.pieces.specs.Steps.{step_end}
use Rattle.pieces.proofs.Ends.{at_most_of_before, same_place}
use Rattle.pieces.proofs.JoiningLemmas.{joins_alone, taken_of_nw, whole_first}
use Rattle.pieces.proofs.StepsToTell.{first_apart}
use Rattle.pieces.proofs.SlidingLemmas.{told_none, told_part, written_alone}
use Rattle.pieces.proofs.sliding.Sliding.tell_first.Goals as goal

pub returns-in_default-clause-told : goal.returns-in_default-clause-told
returns-in_default-clause-told g c gap last =
    let (first, rest, are, alone, before) = c.requires.first in
    let none : c.args.self.now.steps.items ≡ [] = nil_from_length c.args.self.now.steps.items (search rules) in
    let clash : [] ≡ first ∷ rest = sym none ∙ are in
    absurd (cc)

pub returns-in_default-clause-ends : goal.returns-in_default-clause-ends
returns-in_default-clause-ends g c =
    let (first, rest, are, alone, before) = c.requires.first in
    let none : c.args.self.now.steps.items ≡ [] = nil_from_length c.args.self.now.steps.items (search rules) in
    let clash : [] ≡ first ∷ rest = sym none ∙ are in
    absurd (cc)

pub returns-clause-told : goal.returns-clause-told
returns-clause-told g c gap last =
    let (head, tail, are, alone, before) = c.requires.first in
    let side = c.args.side in
    let old = c.args.self.now in
    let xs = old.steps.items in
    let first = c.in-Some.first.now in
    let items = first_apart xs (deque_len old.steps) first (search rules) (search rules) (search rules) in
    let same : head ≡ first = let e = sym are ∙ items in cc in
    let later = subst (λ s. Before (place c.args.until.now) (step_end s)) same before in
    let p = first.shape in
    let at = λ (t : Rational). taken_of_nw side (value_at (g.P.Shape.function p) t) (value_at (g.P.Shape.function gap) t) (last p t) in
    on_ok_weaker c.put.result (λ on. told_part g.P.Shape side gap old old (told_none g.P.Shape side gap old c.len.ensures.normal c.requires.steps)
    (record { out = c.put.new.self; steps = old.steps }) first (drop 1 xs) c.args.until.now items c.requires.later
    (at_most_of_before (place c.args.until.now) (step_end first) later)
    (written_alone g.P.Shape side old.out c.put.new.self first gap c.args.until.now (subst (λ s. s.other ≡ None) same alone)
    (joins_alone g.P.Shape side old.out c.put.new.self p gap p c.args.until.now (whole_first g.P.Shape side p gap (stop old.out) (place c.args.until.now)
    (at (stop old.out).at) (at (place c.args.until.now).at)) on)) items later c.requires.steps) c.put.ensures.ok

pub returns-clause-ends : goal.returns-clause-ends
returns-clause-ends g c = on_ok_weaker c.put.result
    (λ on. subst (λ s. Same s (place c.args.until.now)) (sym on.ends) (same_place (place c.args.until.now))) c.put.ensures.ok
