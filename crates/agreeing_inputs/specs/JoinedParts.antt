-- Points and gaps of a robustness that are joined where one line goes on.
use Rattle.std.specs.Prelude.{◌≡◌, List, [], ◌∷◌, ◌++◌}
use Rattle.rational.specs.Time.{Rational, ◌≈◌}
use Rattle.rational.specs.Extended.{Extended, ◌≈ᵉ◌}
use Rattle.stl_syntax.specs.Knots.{Knot, Piece, Knots, IsInside}
use Rattle.online_nodes.specs.MarginEdges.{Part, point, gap}
use Rattle.promises.specs.SureMargins.{AreInTurn, ReadsPart}

-- what is read from the part is read inside the piece after knot k
abbrev pub LiesInside : Knot → Piece → Part → Type 0
LiesInside k q x = (t : Rational) (r : Extended) → ReadsPart x t r → IsInside k q t r

-- so it is of each of the parts
abbrev pub AllLieInside : Knot → Piece → List Part → Type 0
AllLieInside k q [] = Unit {0}
AllLieInside k q (x ∷ parts) = LiesInside k q x × AllLieInside k q parts

-- each piece after knot k is a run of the parts that lies inside it, and behind the run stands the knot that ends it
abbrev pub AreJoinedAfter : Knot → List Piece → List Part → Type 0
AreJoinedAfter k [] parts = parts ≡ []
AreJoinedAfter k (q ∷ pieces) parts =
    (run others : List Part) × (t : Rational) × (v : Extended) × (parts ≡ run ++ point t v ∷ others)
    × AreInTurn k.time q.next.time (run ++ point t v ∷ []) × AllLieInside k q run × (t ≈ q.next.time) × (v ≈ᵉ q.next.value)
    × AreJoinedAfter q.next pieces others

-- the knots are the parts, joined where one line goes on
abbrev pub AreJoinedParts : List Part → Knots → Type 0
AreJoinedParts [] knots = ⊥
AreJoinedParts (gap a b v w ∷ parts) knots = ⊥
AreJoinedParts (point t v ∷ parts) knots = (t ≈ knots.first.time) × (v ≈ᵉ knots.first.value) × AreJoinedAfter knots.first knots.pieces parts
