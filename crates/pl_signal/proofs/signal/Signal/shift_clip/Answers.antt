use Rattle.std.proofs.Common.{◌≡◌, ◌≤◌, ◌^◌, to_z, of_z, w64, lit<, subst, sym}
use Rattle.std.proofs.lemmas.Int.{to_z-of_z}
use Rattle.std.proofs.lemmas.Result.{IfOk-weaker}
use Rattle.std.specs.Prelude.{◌-ℤ◌}
use Rattle.std.specs.Int.RustNames.{unsigned_abs}
use Rattle.rational.specs.Rational.{add, whole, FitsFloor}
use Rattle.rational.specs.Time.{◌≈◌}
use Rattle.rational.proofs.Order.{le_trans, le_of_same, ge_of_same, same_sym, same_trans}
use Rattle.rational.proofs.Shift.{le_shift}
use Rattle.frac128.specs.Value.{value}
use Rattle.pl_signal.specs.Knots.{IsWorth}
use Rattle.pl_signal.specs.Moves.{Tells, BasesFrom}
use Rattle.rational.proofs.Mixed.{fits_of_within, within_same}
use Rattle.pl_signal.proofs.Moving.{clip_within, shift_back', tells_through, bases_through}
use Rattle.pl_signal.proofs.signal.Signal.shift_clip.Goals as goal

pub shift-begin-requires : goal.shift-begin-requires
shift-begin-requires g c =
    let e : to_z w64 (of_z w64 c.args.by) ≡ c.args.by = to_z-of_z w64 c.args.by c.ranges.by in
    subst (λ z. FitsFloor w64 (add (value c.args.from.now) (whole z))) (sym e)
    (fits_of_within w64 (2 ^ 34) (lit< tt)
    (clip_within g.P.Shape c.args.self.now c.len.ensures.signal.some c.requires.limited c.requires.first
    (le_trans (le_shift c.args.by c.requires.order) c.requires.last)))

pub shift-end-requires : goal.shift-end-requires
shift-end-requires g c =
    let e : to_z w64 (of_z w64 c.args.by) ≡ c.args.by = to_z-of_z w64 c.args.by c.ranges.by in
    subst (λ z. FitsFloor w64 (add (value c.args.to.now) (whole z))) (sym e)
    (fits_of_within w64 (2 ^ 34) (lit< tt)
    (clip_within g.P.Shape c.args.self.now c.len.ensures.signal.some c.requires.limited
    (le_trans c.requires.first (le_shift c.args.by c.requires.order)) c.requires.last))

pub restrict-requires : goal.restrict-requires
restrict-requires g c =
    let e : to_z w64 (of_z w64 c.args.by) ≡ c.args.by = to_z-of_z w64 c.args.by c.ranges.by in
    let begins = subst (λ z. value c.shift-begin.result ≈ add (value c.args.from.now) (whole z)) e c.shift-begin.ensures.value in
    let ends = subst (λ z. value c.shift-end.result ≈ add (value c.args.to.now) (whole z)) e c.shift-end.ensures.value in
    record {
      order = le_trans (le_of_same begins) (le_trans (le_shift c.args.by c.requires.order) (ge_of_same ends));
      first = le_trans c.requires.first (ge_of_same begins);
      last = le_trans (le_of_same ends) c.requires.last;
    }

pub shifted-requires : goal.shifted-requires
shifted-requires g c =
    let e : to_z w64 (of_z w64 c.args.by) ≡ c.args.by = to_z-of_z w64 c.args.by c.ranges.by in
    let tells = c.in_ok-part.ensures.worth in
    let begins = c.shift-begin.ensures.value in
    let ends = c.shift-end.ensures.value in record {
      bases = λ p h. subst (λ z. unsigned_abs (g.P.Shape.base p -ℤ z) ≤ 2 ^ 34) (sym e) (c.requires.bases p (c.in_ok-part.ensures.shapes p h));
      begins = same_trans (same_sym begins) (same_sym tells.begins);
      start_within = within_same (2 ^ 34)
          (same_sym (same_trans tells.begins (subst (λ z. value c.shift-begin.result ≈ add (value c.args.from.now) (whole z)) e begins)))
          (clip_within g.P.Shape c.args.self.now c.len.ensures.signal.some c.requires.limited c.requires.first
          (le_trans (le_shift c.args.by c.requires.order) c.requires.last));
      from_within = c.requires.from_within;
      to_within = within_same (2 ^ 34) (shift_back' (to_z w64 (of_z w64 c.args.by)) (same_trans (same_sym ends) (same_sym tells.ends))) c.requires.to_within;
    }

pub returns-clause-worth : goal.returns-clause-worth
returns-clause-worth g c =
    let e : to_z w64 (of_z w64 c.args.by) ≡ c.args.by = to_z-of_z w64 c.args.by c.ranges.by in
    let tells = c.in_ok-part.ensures.worth in
    IfOk-weaker c.shifted.result _ _
    (λ r h. subst (λ z. Tells g.P.Shape (λ t v. IsWorth g.P.Shape c.args.self.now (add t (whole z)) v) (value c.args.from.now) (value c.args.to.now) r) e
    (tells_through g.P.Shape c.args.self.now r (to_z w64 (of_z w64 c.args.by)) (value c.args.from.now) (value c.args.to.now) tells h
    c.shift-begin.ensures.value c.shift-end.ensures.value))
    c.shifted.ensures.worth

pub returns-clause-bases : goal.returns-clause-bases
returns-clause-bases g c =
    let e : to_z w64 (of_z w64 c.args.by) ≡ c.args.by = to_z-of_z w64 c.args.by c.ranges.by in
    let shapes = c.in_ok-part.ensures.shapes in
    IfOk-weaker c.shifted.result _ _
    (λ r h. subst (λ z. BasesFrom g.P.Shape (λ b. b -ℤ z) c.args.self.now r) e
    (bases_through g.P.Shape (λ b. b -ℤ (to_z w64 (of_z w64 c.args.by))) c.args.self.now c.in_ok-part.part r shapes h))
    c.shifted.ensures.bases
