-- What is decided as rows come: words of private contracts.
use Rattle.std.specs.Prelude.{◌≡◌, Option, Some, None}
use Rattle.early_verdict.specs.declared.early.Decided.{Decided}

-- what was decided stays so
abbrev pub StaysDecided : Option Decided → Option Decided → Type 0
StaysDecided None now = Unit {0}
StaysDecided (Some d) now = now ≡ Some d

-- what is decided now, where nothing was before
abbrev pub newly_decided : Option Decided → Option Decided → Option Decided
newly_decided None now = now
newly_decided (Some d) now = None
