-- Verdicts that are joined where one truth goes on.
use Rattle.std.specs.Prelude.{◌≡◌, ◌≢◌, Bool, List, [], ◌∷◌, ◌++◌}
use Rattle.rational.specs.Time.{closed}
use Rattle.rational.specs.Places.{begins, ends}
use Rattle.frac128.specs.Spans.{interval}
use Rattle.stl_syntax.specs.Trace.{Trace, start, stop}
use Rattle.stl_syntax.specs.Formula.{Subformula}
use Rattle.stl_syntax.specs.Verdicts.{Describes}
use Rattle.stl_syntax.specs.declared.items.Verdict.{Verdict}
use Rattle.online_nodes.specs.Laws.{AreTold, AreTiles}

-- each of the verdicts has this truth
abbrev pub HaveTruth : Bool → List Verdict → Type 0
HaveTruth holds [] = Unit {0}
HaveTruth holds (v ∷ verdicts) = (v.holds ≡ holds) × HaveTruth holds verdicts

-- the first of the verdicts has another truth, if there is one
abbrev pub BeginsOther : Bool → List Verdict → Type 0
BeginsOther holds [] = Unit {0}
BeginsOther holds (v ∷ verdicts) = v.holds ≢ holds

-- the verdicts are the parts, joined where one truth goes on: each is a run of parts that have its truth and lead from where it begins to where
-- it ends, and the run after it has the other truth
abbrev pub AreJoined : List Verdict → List Verdict → Type 0
AreJoined parts [] = parts ≡ []
AreJoined parts (v ∷ verdicts) =
    (run others : List Verdict) × (parts ≡ run ++ others) × AreTiles (begins (interval v.on)) run (ends (interval v.on)) × HaveTruth v.holds run
    × BeginsOther v.holds verdicts × AreJoined others verdicts

-- parts that lead through the domain without gap and tell the truth, joined, are the verdicts that describe it
abbrev pub CoversJoin : Type 0
CoversJoin =
    (p : Subformula) (tr : Trace) (parts verdicts : List Verdict)
    → AreTiles (begins (closed (start tr) (stop tr))) parts (ends (closed (start tr) (stop tr))) → AreTold p tr parts
    → Describes verdicts p tr (closed (start tr) (stop tr)) → AreJoined parts verdicts
