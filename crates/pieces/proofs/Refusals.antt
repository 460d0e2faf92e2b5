-- What a window refuses on its way is a cause: below a limit, where a chain begins, and in the whole of its domain.
use Rattle.std.proofs.Common.{◌≡◌, inl, inr, None, Option, Some, refl}
use Rattle.std.specs.Prelude.{IfSome}
use Rattle.rational.specs.Rational.{add, middle, whole}
use Rattle.rational.specs.Time.{Rational, ◌≤ʳ◌, ◌<ʳ◌}
use Rattle.rational.specs.Places.{Place}
use Rattle.rational.proofs.Order.{le_or_lt, le_refl, le_trans, left_of_middle, lt_irrefl, lt_of_le_of_lt, lt_of_lt_of_le, lt_trans, not_lt_of_le}
use Rattle.rational.proofs.Order.{right_of_middle}
use Rattle.value_laws.specs.Members.{ShapeOf}
use Rattle.pl_signal.specs.declared.joining.Side.{Side}
use Rattle.pl_signal.specs.declared.faults.WidePair.{WidePair}
use Rattle.pl_signal.specs.declared.faults.WidePair.TheVariants.{Cross, Value}
use Rattle.pieces.specs.declared.reach.Reach.{Reach}
use Rattle.pieces.specs.declared.reach.Way.{Way}
use Rattle.pieces.specs.declared.sliding.Sliding.{Sliding}
use Rattle.pieces.specs.Chains.{Chain, stop}
use Rattle.pieces.specs.Meeting.{IsBelow, IsHeldFault}
use Rattle.pieces.specs.Over.{IsCauseOver}
use Rattle.pieces.specs.Sliding.{IsToldFault}
use Rattle.pieces.specs.Causes.{IsCauseBelow, IsHeldCause, IsHeldWithin, InPlayBelow}
use Rattle.pieces.specs.Windows.{IsSmall}
use Rattle.pieces.proofs.CountsInPlay.{refused_value}
use Rattle.pieces.proofs.PieceEnds.{lt_of_moved}
use Rattle.pieces.proofs.BestEnd.{stays_ahead, stays_behind}
use Rattle.pieces.proofs.TakenInPlay.{held_in_play}

-- nothing was refused where nothing could be
pub none_of_refused : {A : Type 0} (o : Option A) (Q : A → Type 0) → IfSome o Q → ((x : A) → ¬ Q x) → o ≡ None
none_of_refused None Q h n = refl
none_of_refused (Some x) Q h n = absurd (n x h)

-- where a window tells no later time no crossing is refused
pub narrow_told : {P : Type 0} (shape : ShapeOf P) (side : Side) (gap : P) (until : Place) (old : Sliding P) → until.at ≤ʳ (stop old.out).at
    → (pair : WidePair P) → ¬ IsToldFault shape side gap until old pair
narrow_told shape side gap until old narrow (Value p at den) h = h
narrow_told shape side gap until old narrow (Cross p q a b den) h =
    lt_irrefl (lt_of_lt_of_le (lt_of_le_of_lt h.above (lt_trans h.meet.after h.meet.before)) (le_trans h.below narrow))

module _ {P : Type 0} (shape : ShapeOf P) (chain : Chain P) where
  -- a cause below a limit is a cause
  pub cause_over : (over : Reach) (limit : Rational) (pair : WidePair P) → IsCauseBelow shape chain over limit pair → IsCauseOver shape chain over pair
  cause_over over limit (Cross p q a b den) h = record {
    tau = h.tau;
    after_start = h.after_start;
    before_stop = h.before_stop;
    above = h.above;
    below = h.below;
    first = h.first.0;
    second = h.second.0;
    meet = h.meet;
    alone = h.alone;
    denominator = h.denominator;
    wide = h.wide;
  }
  cause_over over limit (Value p at den) h = record {
    tau = h.tau;
    after_start = h.after_start;
    before_stop = h.before_stop;
    value = h.value;
    is_value = h.is_value;
    line = h.line;
    constant = h.constant;
    in_play = h.in_play.0;
    denominator = h.denominator;
    wide = h.wide;
  }

  module _ (way : Way) (last : Rational) where
    -- a value that was refused is a cause below a limit at which the window reaches past the time where it is held
    pub held_below : (limit : Rational) → IsBelow shape chain way limit last → (pair : WidePair P) → IsHeldFault shape chain way last pair
        → IsCauseBelow shape chain way.over limit pair
    held_below limit below (Cross p q a b den) h = absurd h.is
    held_below limit below (Value q at den) h = elim (le_or_lt h.b limit) [
      | inl most ↦ refused_value shape chain way.over (InPlayBelow shape chain way.over limit) h.part h.time h.a h.b h.order h.begins
          (le_trans most below.0) (λ tau line x y k. (
            held_in_play shape chain way.over last tau line (h.plays tau line x y k),
            lt_of_lt_of_le y most,
          )) q at den h.is
      | inr more ↦ refused_value shape chain way.over (InPlayBelow shape chain way.over limit) h.part h.time h.a limit (before more) h.begins
          below.0 (λ tau line x y k. (held_in_play shape chain way.over last tau line (h.plays tau line x (lt_trans y more) k), y)) q at den h.is
    ]
      where
        before : limit <ʳ h.b → h.a <ʳ limit
        before more = elim below.1 [
          | inl k ↦ absurd (not_lt_of_le (le_trans h.upto k) more)
          | inr k ↦ elim h.early [
            | inl x ↦ lt_of_le_of_lt x k.0
            | inr x ↦ lt_of_moved h.a limit way.over.high (lt_of_le_of_lt x k.1)
          ]
        ]

    -- where the chain begins, it is a constant held at a breakpoint
    pub held_first : chain.from.at <ʳ (stop chain).at → last <ʳ add chain.from.at (whole way.over.high)
        → (pair : WidePair P) → IsHeldFault shape chain way last pair → IsHeldCause shape chain way.over last pair
    held_first some here (Cross p q a b den) h = absurd h.is
    held_first some here (Value q at den) h = elim (le_or_lt h.b (stop chain).at) [
      | inl most ↦ refused_value shape chain way.over (IsHeldWithin shape chain way.over last) h.part h.time h.a h.b h.order h.begins
          most (λ tau line x y k. (h.plays tau line x y k).1) q at den h.is
      | inr more ↦ refused_value shape chain way.over (IsHeldWithin shape chain way.over last) h.part h.time h.a (stop chain).at
          (lt_of_le_of_lt at_begin some) h.begins (le_refl (stop chain).at) (λ tau line x y k. (h.plays tau line x (lt_trans y more) k).1) q at den h.is
    ]
      where
        at_begin : h.a ≤ʳ chain.from.at
        at_begin = elim h.early [
          | inl x ↦ x
          | inr x ↦ absurd (not_lt_of_le h.begins (lt_of_moved h.a chain.from.at way.over.high (lt_of_le_of_lt x here)))
        ]

    -- in a domain of one time there is none
    pub held_never : IsSmall way.over → (stop chain).at ≤ʳ chain.from.at → chain.from.at ≤ʳ last → last ≤ʳ (stop chain).at
        → last <ʳ add (stop chain).at (whole way.over.high) → (pair : WidePair P) → ¬ IsHeldFault shape chain way last pair
    held_never small one after before comes pair h = elim small.aside [
      | inl ahead ↦ not_lt_of_le (le_trans (stays_ahead tau way.over.low ahead) (le_trans (h.seen tau (left_of_middle h.order) (right_of_middle h.order))
          (le_trans before (le_trans one h.begins)))) (left_of_middle h.order)
      | inr behind ↦ not_lt_of_le (le_trans (stays_behind (stop chain).at way.over.high behind) (le_trans one after)) comes
    ]
      where
        tau : Rational
        tau = middle h.a h.b
