-- How pieces go on to the next row: words of private contracts.
use Rattle.std.specs.Prelude.{◌≡◌, ◌⊎◌, ℕ, pos, Bool, not}
use Rattle.rational.specs.Time.{whole}
use Rattle.rational.specs.Extended.{value_at, ◌≈ᵉ◌}
use Rattle.rational.specs.Places.{Place, Same}
use Rattle.frac128.specs.Cuts.{place}
use Rattle.frac128.specs.declared.cut.Cut.{Cut}
use Rattle.value_laws.specs.Kinds.{margin_shape, truth_shape}
use Rattle.value_laws.specs.Margins.{margin_function}
use Rattle.value_laws.specs.declared.margin.Margin.{Margin}
use Rattle.value_laws.specs.declared.truth.Truth.{Truth}
use Rattle.atom_lines.specs.Passages.{crossing_time}
use Rattle.atom_lines.specs.declared.passage.Passage.{Passage}
use Rattle.atom_lines.specs.declared.passage.Passage.TheVariants.{Steady, Turns}
use Rattle.pieces.specs.Building.{GoesOn}
use Rattle.pieces.specs.Chains.{Chain, HasShape}
use Rattle.pieces.specs.Knots.{before, after}

-- the chain goes on to just after the time with a shape of its own or with the point, which has the point's value at that time
pub record EndsAt (old : Chain Margin) (point : Margin) (time : ℕ) (new : Chain Margin) : Type 0 where
  pub until : Cut
  pub there : Same (place until) (after (whole (pos time)))
  pub more : Margin
  pub of_chain : HasShape old more ⊎ (more ≡ point)
  pub worth : value_at (margin_function more) (place until).at ≈ᵉ value_at (margin_function point) (place until).at
  pub goes : GoesOn margin_shape old until more new

-- up to the place the truth is `holds`, and from there on `next`: the chain goes on to the place where they differ, and else stays as it is
abbrev pub TurnsTo : Chain Truth → Bool → Cut → Bool → Chain Truth → Type 0
TurnsTo old holds at next new = ((holds ≡ next) × (new ≡ old)) ⊎ ((p : Truth) × (p.holds ≡ holds) × GoesOn truth_shape old at p new)

-- the same with a place for the cut
abbrev pub TurnsAt : Chain Truth → Bool → Place → Bool → Chain Truth → Type 0
TurnsAt old holds at next new = (cut : Cut) × Same (place cut) at × TurnsTo old holds cut next new

-- the chain goes on over the gap behind the row at the time `first`, which ends with the truth `over`
abbrev pub GoesOver : ℕ → Passage → Chain Truth → Bool → Chain Truth → Bool → Type 0
GoesOver first (Steady next) old holds new over = (over ≡ next) × TurnsAt old holds (after (whole (pos first))) next new
GoesOver first (Turns was at behind) old holds new over = (over ≡ not was) × (mid : Chain Truth)
    × TurnsAt old holds (after (whole (pos first))) was mid
    × TurnsAt mid was (record { at = crossing_time at; after = behind }) (not was) new

-- the chain goes on over the gap between two rows, at the first of which the truth is `holds`, and at the second `last`
abbrev pub Follows : ℕ → ℕ → Passage → Chain Truth → Bool → Bool → Chain Truth → Type 0
Follows first second passage old holds last new = (mid : Chain Truth) × (over : Bool) × GoesOver first passage old holds mid over
    × TurnsAt mid over (before (whole (pos second))) last new
