use Rattle.std.proofs.Common.{refl, subst}
use Rattle.value_laws.specs.Kinds.{kleene_shape}
use Rattle.value_laws.specs.Values.{kleene_value}
use Rattle.pieces.specs.Joining.{IsJoinFault}
use Rattle.offline_eval.proofs.Forms.{same_starts, same_stops}
use Rattle.offline_eval.proofs.Never.{levels_never_join}
use Rattle.implicants.proofs.Wholes.{least_best}
use Rattle.implicants.proofs.upward.least_of.Goals as goal

pub lower-requires : goal.lower-requires
lower-requires c = record {
  left = c.requires.left.limited;
  right = c.requires.right.limited;
  begins = same_starts kleene_shape c.args.x.now c.args.y.now c.requires.left c.requires.right c.requires.begins;
  ends = same_stops kleene_shape c.args.x.now c.args.y.now c.requires.left c.requires.right c.requires.ends;
}

pub unreachable-requires : goal.unreachable-requires
unreachable-requires c = levels_never_join kleene_shape (λ p. kleene_value p.known) (λ p. refl) c.args.x.now c.args.y.now c.in-Err-Wide.field-0-0
    (subst (IsJoinFault kleene_shape c.args.x.now c.args.y.now) c.in-Err-Wide.field-0-is c.in-Err-Wide.ensures.wide)

pub returns-in-Ok : goal.returns-in-Ok
returns-in-Ok c = least_best c.args.x.now c.args.y.now c.in-Ok.both c.in-Ok.ensures.worth
