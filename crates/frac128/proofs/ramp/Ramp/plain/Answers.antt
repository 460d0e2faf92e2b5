use Rattle.std.proofs.Common.{rules, to_z-of_z, FitsSigned, ℤ, inl, inr, ◌≡◌, pos, ◌+ℤ◌, arith, to_z, of_z}
use Rattle.std.proofs.lemmas.Int.{ints, fits_signed_from_abs}
use mir.Syntax.{w64}
use Rattle.rational.specs.Rational.{whole, ◌≈◌}
use Rattle.frac128.specs.Line.{IsEnd}
use Rattle.frac128.specs.Value.{value}
use Rattle.frac128.proofs.Plains.{floor_of_whole, value_at_base, value_at_end}
use Rattle.frac128.proofs.ramp.Ramp.plain.Goals as goal

pub returns-then-whole-self : goal.returns-then-whole-self
returns-then-whole-self c =
    let f = c.args.self.now in
    let t = c.args.t.now in
    let small = f.small_v0 in
    let v0 : to_z w64 (of_z w64 f.v0) ≡ f.v0 = omega (arith, ints) in
    let rest : t.rest ≡ 0 = let e = c.rest.ensures in let z = c.if-rest-ne0.false in omega arith in
    let time : t.whole ≡ f.t0 = let e = c.whole.ensures in let k = c.if-whole-self.true in omega (arith, ints) in
    rw v0 (value_at_base f t rest time)

pub returns-then-whole-self-2 : goal.returns-then-whole-self-2
returns-then-whole-self-2 c =
    let f = c.args.self.now in
    let t = c.args.t.now in
    let small = f.small_v0 in
    let small_rise = f.small_rise in
    let small_t0 = f.small_t0 in
    let v0 : to_z w64 (of_z w64 f.v0) ≡ f.v0 = omega (arith, ints) in
    let rise : to_z w64 (of_z w64 f.rise) ≡ f.rise = omega (arith, ints) in
    let fits : FitsSigned w64 (f.v0 +ℤ f.rise) = fits_signed_from_abs w64 (f.v0 +ℤ f.rise) (omega (arith, ints)) in
    let v : to_z w64 (of_z w64 (to_z w64 (of_z w64 f.v0) +ℤ to_z w64 (of_z w64 f.rise))) ≡ f.v0 +ℤ f.rise = rw (v0, rise) (search (rules, to_z-of_z)) in
    let rest : t.rest ≡ 0 = let e = c.rest.ensures in let z = c.if-rest-ne0.false in omega arith in
    let time : t.whole ≡ f.t0 +ℤ pos f.run = let e = c.whole-2.ensures in let k = c.if-whole-self-2.true in let r = c.from.ensures in omega (arith, ints) in
    value_at_end f t _ rest time v

pub returns-then-rest-ne0 : goal.returns-then-rest-ne0
returns-then-rest-ne0 c = no_end
  where
    has_rest : (n : ℤ) → ¬ (value c.args.t.now ≈ whole n)
    has_rest n h = let at = floor_of_whole c.args.t.now n h in let e = c.rest.ensures in let z = c.if-rest-ne0.true in omega arith

    no_end : ¬ (IsEnd c.args.self.now (value c.args.t.now))
    no_end (inl h) = has_rest _ h
    no_end (inr h) = has_rest _ h

pub returns : goal.returns
returns c = no_end
  where
    no_end : ¬ (IsEnd c.args.self.now (value c.args.t.now))
    no_end (inl h) =
        let at = floor_of_whole c.args.t.now _ h in let e = c.whole.ensures in let k = c.if-whole-self.false in
        let small = c.args.self.now.small_t0 in omega (arith, ints)
    no_end (inr h) =
        let at = floor_of_whole c.args.t.now _ h in let e = c.whole-2.ensures in let k = c.if-whole-self-2.false in
        let r = c.from.ensures in let small = c.args.self.now.small_t0 in omega (arith, ints)
