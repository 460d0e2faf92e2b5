-- The lines of parts of a margin.
use Rattle.std.specs.Prelude.{◌≡◌, ℕ, List, [], ◌∷◌, ◌++◌}
use Rattle.stl_syntax.specs.declared.scale.Scale.{Scale}
use Rattle.online_nodes.specs.MarginEdges.{Part, IsPartLine}

-- the lines of the parts in order
abbrev pub ArePartLines : Scale → List Part → List ℕ → Type 0
ArePartLines scale [] text = text ≡ []
ArePartLines scale (p ∷ parts) text = (here later : List ℕ) × IsPartLine scale p here × ArePartLines scale parts later × (text ≡ here ++ later)
