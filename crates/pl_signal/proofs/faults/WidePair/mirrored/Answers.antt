use Rattle.std.proofs.Common.{◌≡◌, ◌≤◌, ◌^◌, to_z, of_z, w64, refl, sym, subst}
use Rattle.std.proofs.lemmas.Int.{to_z-of_z}
use Rattle.std.specs.Int.RustNames.{unsigned_abs}
use Rattle.pl_signal.specs.declared.faults.WidePair.TheVariants.{Cross, Value}
use Rattle.pl_signal.specs.Faults.{CanMirror, IsMirroredPair}
use Rattle.pl_signal.proofs.FaultLemmas.{mirrored_fits}
use Rattle.pl_signal.proofs.faults.WidePair.mirrored.Given.{Over}
use Rattle.pl_signal.proofs.faults.WidePair.mirrored.Goals.{In-Cross, In-Value}
use Rattle.pl_signal.proofs.faults.WidePair.mirrored.Goals as goal

-- what may be mirrored, as the calls ask it
of_cross : (g : Over) (c : In-Cross g) → let z = to_z w64 (of_z w64 c.args.about) in let w = c.in-Cross in
    (unsigned_abs z ≤ 2 ^ 34) × CanMirror g.P.Shape z (Cross w.p w.q w.from w.to w.den)
of_cross g c =
    let e : to_z w64 (of_z w64 c.args.about) ≡ c.args.about = to_z-of_z w64 c.args.about c.ranges.about in
    let is : c.args.self.now ≡ Cross c.in-Cross.p c.in-Cross.q c.in-Cross.from c.in-Cross.to c.in-Cross.den = cc c.in-Cross.is in
    let can = subst (CanMirror g.P.Shape c.args.about) is c.requires.pair in (
      subst (λ z. unsigned_abs z ≤ 2 ^ 34) (sym e) c.requires.about,
      subst (λ z. CanMirror g.P.Shape z (Cross c.in-Cross.p c.in-Cross.q c.in-Cross.from c.in-Cross.to c.in-Cross.den)) (sym e) can,
    )

of_value : (g : Over) (c : In-Value g) → let z = to_z w64 (of_z w64 c.args.about) in let w = c.in-Value in
    (unsigned_abs z ≤ 2 ^ 34) × CanMirror g.P.Shape z (Value w.p w.at w.den)
of_value g c =
    let e : to_z w64 (of_z w64 c.args.about) ≡ c.args.about = to_z-of_z w64 c.args.about c.ranges.about in
    let is : c.args.self.now ≡ Value c.in-Value.p c.in-Value.at c.in-Value.den = cc c.in-Value.is in
    let can = subst (CanMirror g.P.Shape c.args.about) is c.requires.pair in (
      subst (λ z. unsigned_abs z ≤ 2 ^ 34) (sym e) c.requires.about,
      subst (λ z. CanMirror g.P.Shape z (Value c.in-Value.p c.in-Value.at c.in-Value.den)) (sym e) can,
    )

pub mirror-requires : goal.mirror-requires
mirror-requires g c = (of_cross g (goal.at.mirror-requires g c).In-Cross).1.0

pub mirror-requires-in-Cross : goal.mirror-requires-in-Cross
mirror-requires-in-Cross g c = (of_cross g (goal.at.mirror-requires-in-Cross g c).In-Cross).1.1

pub mirror-requires-in-Cross-2 : goal.mirror-requires-in-Cross-2
mirror-requires-in-Cross-2 g c = let h = of_cross g (goal.at.mirror-requires-in-Cross-2 g c).In-Cross in mirrored_fits _ _ h.0 h.1.3

pub mirror-requires-in-Cross-3 : goal.mirror-requires-in-Cross-3
mirror-requires-in-Cross-3 g c = let h = of_cross g (goal.at.mirror-requires-in-Cross-3 g c).In-Cross in mirrored_fits _ _ h.0 h.1.2

pub mirror-requires-in-Value : goal.mirror-requires-in-Value
mirror-requires-in-Value g c = (of_value g (goal.at.mirror-requires-in-Value g c).In-Value).1.0

pub mirror-requires-in-Value-2 : goal.mirror-requires-in-Value-2
mirror-requires-in-Value-2 g c = let h = of_value g (goal.at.mirror-requires-in-Value-2 g c).In-Value in mirrored_fits _ _ h.0 h.1.1

pub returns-in-Cross : goal.returns-in-Cross
returns-in-Cross g c =
    let e : to_z w64 (of_z w64 c.args.about) ≡ c.args.about = to_z-of_z w64 c.args.about c.ranges.about in
    let is : c.args.self.now ≡ Cross c.in-Cross.p c.in-Cross.q c.in-Cross.from c.in-Cross.to c.in-Cross.den = cc c.in-Cross.is in
    let other = Cross c.mirror.result c.mirror-in-Cross.result c.mirror-in-Cross-2.result c.mirror-in-Cross-3.result c.in-Cross.den in
    subst (λ z. IsMirroredPair g.P.Shape z c.args.self.now other) e
    (subst (λ f. IsMirroredPair g.P.Shape (to_z w64 (of_z w64 c.args.about)) f other) (sym is) (
      c.mirror.result,
      c.mirror-in-Cross.result,
      c.mirror-in-Cross-2.result,
      c.mirror-in-Cross-3.result,
      refl,
      c.mirror.ensures.value,
      c.mirror-in-Cross.ensures.value,
      c.mirror-in-Cross-2.ensures.value,
      c.mirror-in-Cross-3.ensures.value,
    ))

pub returns-in-Value : goal.returns-in-Value
returns-in-Value g c =
    let e : to_z w64 (of_z w64 c.args.about) ≡ c.args.about = to_z-of_z w64 c.args.about c.ranges.about in
    let is : c.args.self.now ≡ Value c.in-Value.p c.in-Value.at c.in-Value.den = cc c.in-Value.is in
    let other = Value c.mirror-in-Value.result c.mirror-in-Value-2.result c.in-Value.den in
    subst (λ z. IsMirroredPair g.P.Shape z c.args.self.now other) e
    (subst (λ f. IsMirroredPair g.P.Shape (to_z w64 (of_z w64 c.args.about)) f other) (sym is)
    (c.mirror-in-Value.result, c.mirror-in-Value-2.result, refl, c.mirror-in-Value.ensures.value, c.mirror-in-Value-2.ensures.value))
