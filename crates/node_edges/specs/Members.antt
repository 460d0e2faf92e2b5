-- A kind of part as one record, which a clause writes `T.Part` and a proof `g.T.Part`: when a part ends, when one goes on from another, and
-- what both are as one.
use Rattle.node_edges.specs.declared.part.Part.{Ghosts}

-- the members of the trait `Part` at T
abbrev pub PartOf : Type 0 → Type 1
PartOf T = Ghosts T
