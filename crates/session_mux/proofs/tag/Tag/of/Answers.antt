use Rattle.std.proofs.Common.{length, sym, arith}
use Rattle.std.proofs.lemmas.List.{take_all}
use Rattle.session_mux.proofs.tag.Tag.of.Goals as goal

pub at_front-requires : goal.at_front-requires
at_front-requires c = record { few = c.requires; front = sym (take_all (length c.args.tag.now) c.args.tag.now (omega arith)) }
