use Rattle.std.proofs.Common.{refl}
use Rattle.session_mux.proofs.InputBytes.{taking_none}
use Rattle.session_mux.proofs.input.Input.new.Goals as goal

pub returns-clause-live : goal.returns-clause-live
returns-clause-live c = taking_none c.args.formula _ c.new-2.ensures c.new-4.ensures refl c.new.ensures
