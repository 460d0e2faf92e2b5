-- When a part that is put onto an edge lengthens the last one there.
use Rattle.std.specs.Prelude.{◌≡◌, true, List, [], ◌∷◌, ◌++◌}
use Rattle.node_edges.specs.Held.{Edge}
use Rattle.node_edges.specs.Members.{PartOf}

-- the edge joins, and the part goes on from the last one there that was not read
pub record CanLengthen {T : Type 0} (part : PartOf T) (x : Edge T) (v : T) : Type 0 where
  pub joins : x.joins ≡ true
  pub before : List T
  pub last : T
  pub fresh : x.fresh ≡ before ++ last ∷ []
  pub goes_on : part.follows last v
