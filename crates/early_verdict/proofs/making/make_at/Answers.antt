use Rattle.std.proofs.Common.{◌≡◌, ◌∙◌, ◌+◌, ◌<◌, ◌≤◌, ◌^◌, ℤ, ◌+ℤ◌, pos, sym, subst, true, false, Some, None, arith, lit<, to_z, of_z, ℕ}
use Rattle.std.specs.Prelude.{MatchOption, slice_get}
use Rattle.std.specs.Int.{w64}
use Rattle.std.proofs.lemmas.Int.{to_z-of_z, fits_signed_from_abs}
use Rattle.std.proofs.lemmas.Option.{same_Some}
use mir.Val.{hbits}
use Rattle.rational.specs.Rational.{whole}
use Rattle.stl_syntax.specs.Formula.{HasChildrenBelow}
use Rattle.rational.specs.Places.{Same}
use Rattle.frac128.specs.Cuts.{place}
use Rattle.early_verdict.specs.Standing.{left_of}
use Rattle.early_verdict.specs.Making.{HasPartsFor}
use Rattle.early_verdict.specs.declared.sets.Sets.{Sets}
use Rattle.early_verdict.proofs.MadeLemmas.{from_over, with_left}
use Rattle.early_verdict.proofs.making.make_at.Goals as goal

-- a number of at most 2^33 fits
far_fits : (n : ℕ) → n ≤ 2 ^ 33 → to_z w64 (of_z w64 (pos n)) ≡ pos n
far_fits n h = to_z-of_z w64 (pos n) (fits_signed_from_abs w64 (pos n) (let b : 2 ^ 33 < 2 ^ hbits w64 = lit< tt in omega arith))

pub returns : goal.returns
returns c n e =
    let bounds = c.over-bounds.result in
    let same : c.node.result.now ≡ n = same_Some c.node.result.now n (sym c.node.ensures.node ∙ e) in
    let first : to_z w64 (of_z w64 c.from-first.result) ≡ pos c.args.start =
    subst (λ (k : ℤ). to_z w64 (of_z w64 k) ≡ pos c.args.start) (sym c.from-first.ensures) (far_fits c.args.start (omega arith)) in
    let top : to_z w64 (of_z w64 c.from.result) ≡ pos c.args.top =
    subst (λ (k : ℤ). to_z w64 (of_z w64 k) ≡ pos c.args.top) (sym c.from.ensures) (far_fits c.args.top (omega arith)) in
    let last : to_z w64 (of_z w64 (to_z w64 (of_z w64 c.from-first.result) +ℤ to_z w64 (of_z w64 c.from.result))) ≡ pos (c.args.start + c.args.top) =
    subst (λ (k : ℤ). to_z w64 (of_z w64 (k +ℤ to_z w64 (of_z w64 c.from.result))) ≡ pos (c.args.start + c.args.top)) (sym first)
    (subst (λ (k : ℤ). to_z w64 (of_z w64 (pos c.args.start +ℤ k)) ≡ pos (c.args.start + c.args.top)) (sym top)
    (far_fits (c.args.start + c.args.top) (omega arith))) in
    let begins = subst (λ (k : ℤ). Same (place bounds.from) (record { at = whole k; after = false })) first c.over-bounds.ensures.from in
    let ends = subst (λ (k : ℤ). Same (place bounds.to) (record { at = whole k; after = true })) last c.over-bounds.ensures.to in
    record {
      bounds = bounds;
      wide = from_over bounds c.args.start c.args.top begins ends;
      yes = c.sets_of.ensures.yes;
      no = c.sets_of.ensures.no;
      empty = c.sets_of.ensures.empty;
      parts = with_left n c.args.i c.args.below.now bounds c.sets_of.result (sym c.requires.place)
          (subst (λ m. HasChildrenBelow c.args.i m) same c.node.ensures.below)
          (subst (λ m. MatchOption (left_of m) (c.sets_of.result.parts ≡ None)
          (λ p. (l : Sets) → slice_get c.args.below.now p ≡ Some l → HasPartsFor bounds l c.sets_of.result)) same c.sets_of.ensures.parts);
    }
