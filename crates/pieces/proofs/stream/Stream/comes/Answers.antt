use Rattle.std.proofs.Common.{inl, inr, sym, ◌∙◌}
use Rattle.std.proofs.lemmas.Bool.{false≢true}
use Rattle.rational.specs.Time.{add, whole}
use Rattle.rational.proofs.Order.{ge_of_same, le_of_same, le_or_lt, le_trans, lt_of_le_of_lt}
use Rattle.rational.proofs.PlaceLemmas.{le_of_at_most}
use Rattle.rational.proofs.Shift.{lt_ahead, lt_ahead_back}
use Rattle.frac128.specs.Value.{value}
use Rattle.frac128.specs.Cuts.{place}
use Rattle.pieces.specs.Chains.{stop}
use Rattle.pieces.proofs.stream.Stream.comes.Goals as goal

pub entering-requires : goal.entering-requires
entering-requires g c =
    let (s, known) = c.requires in
    record {
      from = le_trans known.can.first (le_of_at_most s.from (place c.args.self.now.met) known.begins);
      to = le_trans (le_of_at_most (place c.args.self.now.met) (stop s) known.ends) known.can.last;
      small = known.can.small;
    }

pub returns-clause-is : goal.returns-clause-is
returns-clause-is g c h = elim (c.precedes.ensures.0 h) [
  | inl l ↦ lt_ahead (place c.args.self.now.met).at (value c.args.to.now) c.args.self.now.way.over.high (lt_of_le_of_lt (ge_of_same c.entering.ensures.0) l)
  | inr (s, x, y) ↦ absurd (false≢true y)
]

pub returns-clause-not : goal.returns-clause-not
returns-clause-not g c e =
    let met = (place c.args.self.now.met).at in
    let to = value c.args.to.now in
    let high = c.args.self.now.way.over.high in
    elim (le_or_lt (add to (whole high)) met) [
      | inl h ↦ h
      | inr h ↦ absurd (false≢true (sym e ∙ c.precedes.ensures.1 (inl (lt_of_le_of_lt (le_of_same c.entering.ensures.0) (lt_ahead_back met to high h)))))
    ]
