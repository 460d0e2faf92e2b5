use Rattle.std.proofs.Common.{◌≡◌, ◌^◌, false, sym, ◌∙◌}
use Rattle.std.proofs.lemmas.Bool.{false≢true}
use Rattle.std.proofs.lemmas.Option.{IfSome_then}
use Rattle.std.proofs.lemmas.Result.{IfOk-weaker, on_err_weaker}
use Rattle.rational.specs.Rational.{Rational}
use Rattle.rational.specs.Time.{◌≤ʳ◌, ◌<ʳ◌}
use Rattle.rational.specs.Extended.{value_at, ◌≈ᵉ◌}
use Rattle.rational.specs.Affine.{HasBoundedLevel}
use Rattle.rational.proofs.AffineLemmas.{bounded_same, value_same}
use Rattle.rational.proofs.Bounds.{level_bounded}
use Rattle.rational.proofs.Order.{ge_of_same, le_trans, same_of_le, not_lt_of_le}
use Rattle.rational.proofs.Sames.{transᵉ}
use Rattle.frac128.specs.Value.{value}
use Rattle.courses.specs.Courses.{IsFixed}
use Rattle.pieces.specs.Windows.{IsAtEnd}
use Rattle.pieces.proofs.GoingOver.{same_of_order}
use Rattle.pieces.proofs.window.constant.Goals as goal

pub returns-in-Less-clause-value : goal.returns-in-Less-clause-value
returns-in-Less-clause-value g c = IfOk-weaker c.fixed.result (IsFixed g.P.Shape c.args.shape.now (value c.args.time.now))
    (λ p. (t : Rational) → value c.args.from.now.time ≤ʳ t → t ≤ʳ value c.args.until.now.time
    → value_at (g.P.Shape.function p) t ≈ᵉ value_at (g.P.Shape.function c.args.shape.now) (value c.args.time.now))
    (λ p h t a u. h t) c.fixed.ensures.value

pub returns-in-Less-clause-level : goal.returns-in-Less-clause-level
returns-in-Less-clause-level g c = IfOk-weaker c.fixed.result (IsFixed g.P.Shape c.args.shape.now (value c.args.time.now))
    (λ p. HasBoundedLevel (2 ^ 31) (g.P.Shape.function p))
    (λ p h. level_bounded (2 ^ 31) (g.P.Shape.function p) (value c.args.time.now) (bounded_same (2 ^ 31)
    (value_at (g.P.Shape.function p) (value c.args.time.now)) (value_at (g.P.Shape.function c.args.shape.now) (value c.args.time.now))
    (h (value c.args.time.now)) c.requires.bounded)) c.fixed.ensures.value

pub returns-in-Less-clause-base : goal.returns-in-Less-clause-base
returns-in-Less-clause-base g c = IfOk-weaker c.fixed.result (λ p. g.P.Shape.moves p ≡ false)
    (IsAtEnd g.P.Shape c.args.way.now.over c.args.shape.now (value c.args.time.now) (value c.args.from.now.time))
    (λ p still moves. absurd (false≢true (sym still ∙ moves))) c.fixed.ensures.stays

pub returns-in-Less-clause-wide : goal.returns-in-Less-clause-wide
returns-in-Less-clause-wide g c = on_err_weaker c.fixed.result
    (λ some. IfSome_then c.fixed.new.fault some (λ pair x. (c.in-Less.ensures, x))) c.fixed.ensures.wide

pub at_end-requires-clause-one : goal.at_end-requires-clause-one
at_end-requires-clause-one g c = c.requires.one
    (same_of_order c.cmp.result (value c.args.from.now.time) (value c.args.until.now.time) c.cmp.ensures c.in_default.not-Less c.requires.order)

pub returns-in_default-clause-value : goal.returns-in_default-clause-value
returns-in_default-clause-value g c t a u =
    let same = same_of_order c.cmp.result (value c.args.from.now.time) (value c.args.until.now.time) c.cmp.ensures c.in_default.not-Less c.requires.order in
    transᵉ (value_same (g.P.Shape.function c.at_end.result) (same_of_le (le_trans u (ge_of_same same)) a)) c.at_end.ensures.value

pub returns-in_default-clause-level : goal.returns-in_default-clause-level
returns-in_default-clause-level g c = level_bounded (2 ^ 31) (g.P.Shape.function c.at_end.result) (value c.args.from.now.time)
    (bounded_same (2 ^ 31) (value_at (g.P.Shape.function c.at_end.result) (value c.args.from.now.time))
    (value_at (g.P.Shape.function c.args.shape.now) (value c.args.time.now)) c.at_end.ensures.value c.requires.bounded)

pub returns-in-Less-clause-fixed : goal.returns-in-Less-clause-fixed
returns-in-Less-clause-fixed g c = IfOk-weaker c.fixed.result (IsFixed g.P.Shape c.args.shape.now (value c.args.time.now))
    (λ p. value c.args.from.now.time <ʳ value c.args.until.now.time → IsFixed g.P.Shape c.args.shape.now (value c.args.time.now) p)
    (λ p h order. h) c.fixed.ensures.value

pub returns-in_default-clause-fixed : goal.returns-in_default-clause-fixed
returns-in_default-clause-fixed g c order = absurd (not_lt_of_le
    (ge_of_same (same_of_order c.cmp.result (value c.args.from.now.time) (value c.args.until.now.time) c.cmp.ensures c.in_default.not-Less c.requires.order))
    order)
