-- Verdicts that were given out and whose lines are not made yet: what of them lies up to the time that a row answers, and what is left.
use Rattle.std.specs.Prelude.{◌≡◌, ◌⊎◌, ℕ, ◌+◌, ◌-◌, ◌<◌, ◌≤◌, true, List, [], ◌∷◌, ◌++◌, length, Option, Some, None, pos}
use Rattle.rational.specs.Rational.{whole}
use Rattle.frac128.specs.Spans.{interval}
use Rattle.stl_syntax.specs.Texts.{AreVerdictLines}
use Rattle.stl_syntax.specs.declared.items.Verdict.{Verdict}
use Rattle.stl_syntax.specs.declared.scale.Scale.{Scale}
use Rattle.rational.specs.Places.{Place, begins, ends, Before, Same}

-- the place just after a time
abbrev pub just_after : ℕ → Place
just_after f = record { at = whole (pos f); after = true }

-- what of a verdict lies up to the time
pub record IsPartBefore (f : ℕ) (v part : Verdict) : Type 0 where
  pub begin : Same (begins (interval v.on)) (begins (interval part.on))
  pub end : Same (ends (interval part.on)) (just_after f)
  pub holds : part.holds ≡ v.holds

-- what of it lies after the time
pub record IsPartAfter (f : ℕ) (v part : Verdict) : Type 0 where
  pub begin : Same (just_after f) (begins (interval part.on))
  pub end : Same (ends (interval v.on)) (ends (interval part.on))
  pub holds : part.holds ≡ v.holds

-- the first of the verdicts, where there is one, goes on beyond the time
abbrev pub GoesBeyond : ℕ → List Verdict → Type 0
GoesBeyond f [] = Unit {0}
GoesBeyond f (v ∷ vs) = Before (just_after f) (ends (interval v.on))

-- the next verdict was taken where it ends by the time
abbrev pub IsNextUpTo : ℕ → List Verdict → Option Verdict → List Verdict → Type 0
IsNextUpTo f old None new = (new ≡ old) × GoesBeyond f old
IsNextUpTo f old (Some v) new = (old ≡ v ∷ new) × (¬ Before (just_after f) (ends (interval v.on)))

-- what of the next verdict lies up to the time was taken, where it begins by then
abbrev pub IsCut : ℕ → List Verdict → Option Verdict → List Verdict → Type 0
IsCut f [] None new = new ≡ []
IsCut f [] (Some part) new = ⊥
IsCut f (v ∷ vs) None new = (¬ Before (begins (interval v.on)) (just_after f)) × (new ≡ v ∷ vs)
IsCut f (v ∷ vs) (Some part) new =
    Before (begins (interval v.on)) (just_after f) × IsPartBefore f v part × ((rest : Verdict) × IsPartAfter f v rest × (new ≡ rest ∷ vs))

-- of verdicts in the order of time, those up to a time, the last of them maybe a part of one; and what is left
pub data AreUpTo (f : ℕ) : List Verdict → List Verdict → List Verdict → Type 0 where
  none_left : AreUpTo f [] [] []
  all_later : (v : Verdict) (vs : List Verdict) → (¬ Before (begins (interval v.on)) (just_after f)) → AreUpTo f (v ∷ vs) [] (v ∷ vs)
  one_whole : (v : Verdict) {vs some left : List Verdict} → (¬ Before (just_after f) (ends (interval v.on))) → AreUpTo f vs some left
      → AreUpTo f (v ∷ vs) (v ∷ some) left
  one_cut : (v part rest : Verdict) (vs : List Verdict) → Before (begins (interval v.on)) (just_after f)
      → Before (just_after f) (ends (interval v.on)) → IsPartBefore f v part → IsPartAfter f v rest
      → AreUpTo f (v ∷ vs) (part ∷ []) (rest ∷ vs)

-- the lines of what lies up to a time
abbrev pub IsTextUpTo : Scale → ℕ → List Verdict → List ℕ → List Verdict → Type 0
IsTextUpTo scale f old text new = (some : List Verdict) × AreUpTo f old some new × AreVerdictLines scale some text

-- the lines of what a row at the time t answers: up to t less the horizon
abbrev pub IsTextOfRow : Scale → ℕ → ℕ → List Verdict → List ℕ → List Verdict → Type 0
IsTextOfRow scale horizon t old text new =
    ((t < horizon) × (text ≡ []) × (new ≡ old)) ⊎ ((horizon ≤ t) × IsTextUpTo scale (t - horizon) old text new)

-- the lines of what rows at these times answer, in turn
abbrev pub IsTextOfRows : Scale → ℕ → List ℕ → List Verdict → List ℕ → List Verdict → Type 0
IsTextOfRows scale horizon [] old text new = (text ≡ []) × (new ≡ old)
IsTextOfRows scale horizon (t ∷ times) old text new =
    (here later : List ℕ) × (mid : List Verdict) × IsTextOfRow scale horizon t old here mid
    × IsTextOfRows scale horizon times mid later new × (text ≡ here ++ later)

-- what a row at the time t answers was let go of
abbrev pub IsPassed : ℕ → ℕ → List Verdict → List Verdict → Type 0
IsPassed horizon t old new = ((t < horizon) × (new ≡ old)) ⊎ ((horizon ≤ t) × ((some : List Verdict) × AreUpTo (t - horizon) old some new))

-- what the first rows at these times answer, so many of them, was let go of
pub record ArePassed (horizon told : ℕ) (times : List ℕ) (old new : List Verdict) : Type 0 where
  pub none : told ≡ 0 → new ≡ old
  pub some : (before more : List ℕ) (t : ℕ) → times ≡ before ++ t ∷ more → told ≡ length before + 1 → IsPassed horizon t old new
