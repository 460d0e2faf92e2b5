use Rattle.std.proofs.Common.{Some, [], ap, subst, ◌≡◌, length}
use Rattle.std.specs.Prelude.{IfSome}
use Rattle.stl_syntax.specs.Trace.{Row}
use Rattle.online_net.proofs.net.keep_row_of.Goals as goal

abbrev none : Row
none = record { time = 0; values = [] }

pub copy_row-requires-clause-width : goal.copy_row-requires-clause-width
copy_row-requires-clause-width c =
    subst (λ o. IfSome o (λ q. length q.values ≡ length c.args.block.now.header.columns)) c.in-Some.is c.requires.width

pub returns-in-Some-clause-row : goal.returns-in-Some-clause-row
returns-in-Some-clause-row c = ap Some (c.copy_row.ensures.row none)

pub returns-in-None-clause-row : goal.returns-in-None-clause-row
returns-in-None-clause-row c = absurd (c.requires.some c.in-None.is)

pub returns-in-None-clause-trace : goal.returns-in-None-clause-trace
returns-in-None-clause-trace c = absurd (c.requires.some c.in-None.is)
