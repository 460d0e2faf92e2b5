use Rattle.rational.proofs.Meetings.{meet_of_same, same_parallels, crossed, not_crossed}
use Rattle.rational.proofs.laws.meetings.Goals as goal

pub returns-clause-once : goal.returns-clause-once
returns-clause-once c = meet_of_same

pub returns-clause-parallels : goal.returns-clause-parallels
returns-clause-parallels c = λ f g t u p h. same_parallels f g t p h u

pub returns-clause-crossed : goal.returns-clause-crossed
returns-clause-crossed c = λ f g l r t h j k m.
    let b = crossed f g l r t h j k m.equal in
    record { after = b.0; before = b.1; meet = m }

pub returns-clause-not_crossed : goal.returns-clause-not_crossed
returns-clause-not_crossed c = not_crossed
