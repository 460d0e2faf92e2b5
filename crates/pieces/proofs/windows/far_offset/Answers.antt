use Rattle.std.proofs.Common.{arith, rules, ◌≡◌, ℕ, ◌<◌, ◌^◌, ℤ, pos, Option, None, Some, refl, sym, ap, ◌∙◌, subst, to_z, of_z, w64}
use Rattle.std.specs.Prelude.{◌-ℤ◌, neg_ℤ}
use Rattle.std.proofs.lemmas.Int.{ints}
use Rattle.pieces.specs.Over.{IsReach}
use Rattle.pieces.proofs.Shifts.{negated}
use Rattle.pieces.proofs.windows.far_offset.Goals as goal

some_reach : (b : Option ℕ) (n : ℕ) (x : ℤ) → b ≡ Some n → x ≡ neg_ℤ (pos n) → IsReach b x
some_reach b n x e f = subst (λ b. IsReach b x) (sym e) f

none_reach : (b : Option ℕ) (x : ℤ) → b ≡ None → x ≡ neg_ℤ (pos (2 ^ 32)) → IsReach b x
none_reach b x e f = subst (λ b. IsReach b x) (sym e) f

pub returns-in-Some : goal.returns-in-Some
returns-in-Some c =
    let n : c.in-Some.b < 2 ^ 32 = first_of (omega arith, search rules) in
    let f = c.from.ensures in
    let e : to_z w64 (of_z w64 (pos 0 -ℤ to_z w64 (of_z w64 c.from.result))) ≡ neg_ℤ (pos c.in-Some.b) =
    negated c.from.result (omega (arith, ints, f)) (omega (arith, ints, f, n)) ∙ ap neg_ℤ f in record {
      reach = some_reach c.args.b c.in-Some.b _ c.in-Some.is e;
      small = omega (arith, ints, e, n);
    }

pub returns-in-None : goal.returns-in-None
returns-in-None c = record {
  reach = none_reach c.args.b _ c.in-None.is refl;
  small = omega (arith, ints);
}
