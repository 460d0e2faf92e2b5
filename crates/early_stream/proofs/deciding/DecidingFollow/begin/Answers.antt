use Rattle.std.proofs.Common.{subst, sym, ◌∙◌}
use Rattle.atom_lines.specs.Binding.{IsBound}
use Rattle.early_stream.proofs.EarlyFollows.{begun}
use Rattle.early_stream.proofs.deciding.DecidingFollow.begin.Goals as goal

pub new-early-requires : goal.new-early-requires
new-early-requires c = subst (λ h. IsBound c.args.case.bound c.args.case.formula h) (sym (c.in-Ok.ensures ∙ c.header.ensures)) c.requires.case.1.bound

pub returns : goal.returns
returns c =
    begun (record { early = c.new-early.result; scale = c.scale-scale.result; digits = c.result-1.given.0 }) c.args.case
    c.requires.case.0 c.requires.case.1 c.requires.none
    c.new-early.ensures.stands c.new-early.ensures.nodes (c.new-early.ensures.header ∙ c.in-Ok.ensures ∙ c.header.ensures) c.scale-scale.ensures.scale
