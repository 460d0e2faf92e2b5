use Rattle.std.proofs.Common.{◌∙◌, ap, subst, sym, length, ◌<◌}
use Rattle.std.specs.Prelude.{remove}
use Rattle.growing_sets.proofs.BlockLemmas.{counted_none, counted_same, counted_remove}
use Rattle.growing_sets.proofs.stretches.Stretches.remove.Goals as goal

pub bring-requires : goal.bring-requires
bring-requires c = rw (← c.self.view_is) at c.requires

pub invariant_of-self : goal.invariant_of-self
invariant_of-self c = counted_none c.clear.ensures.items

pub take_out-requires : goal.take_out-requires
take_out-requires c = subst (λ xs. c.args.at < length xs) (sym c.in-Ok.ensures) (rw (← c.self.view_is) at c.requires)

pub invariant_of-self-2 : goal.invariant_of-self-2
invariant_of-self-2 c =
    counted_remove {ps = c.bring.new.blocks.items} c.args.at (counted_same c.self.invariant c.in-Ok.ensures)
    (subst (λ xs. c.args.at < length xs) (sym c.in-Ok.ensures) (rw (← c.self.view_is) at c.requires)) c.take_out.ensures

pub returns : goal.returns
returns c = rw (← c.self.view_is) (c.take_out.ensures ∙ ap (λ xs. remove xs c.args.at) c.in-Ok.ensures)
