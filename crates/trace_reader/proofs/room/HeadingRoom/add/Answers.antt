-- A name is of ASCII bytes.
use Rattle.trace_reader.proofs.NameLemmas.{name_ascii}
use Rattle.trace_reader.proofs.room.HeadingRoom.add.Goals as goal

pub fill-requires-clause-ascii : goal.fill-requires-clause-ascii
fill-requires-clause-ascii c = name_ascii c.requires.name
