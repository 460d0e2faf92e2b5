-- What a window needs no more of its input has gone from the edge.
use Rattle.std.proofs.Common.{◌≡◌, ℕ, suc, zero, Bool, true, false, List, drop, refl, subst, ap, ◌∙◌, arith, Option, Some, None}
use Rattle.std.proofs.Common.{ℤ, pos, ◌+ℤ◌, ◌<ℤ◌, ◌≤ℤ◌}
use Rattle.std.specs.Prelude.{IfSome, int_lt, cond, slice_get}
use Rattle.rational.specs.Time.{Rational, whole, shifted, ◌≈◌, ◌≤ʳ◌, ◌<ʳ◌}
use Rattle.rational.specs.Windows.{Function}
use Rattle.rational.proofs.Order.{ge_of_same, le_of_same, le_trans, not_lt_of_le, same_refl}
use Rattle.rational.proofs.Shift.{lt_whole}
use Rattle.rational.proofs.Tests.{int_order}
use Rattle.frac128.specs.Value.{value}
use Rattle.online_robust.specs.Held.{Edge, Held, edge_at, held_at, held_of}
use Rattle.online_robust.specs.Lines.{end_of}
use Rattle.online_robust.specs.Slides.{DropsBy, HasRead, ReadsOn, Sheds}
use Rattle.online_robust.specs.Steps.{AreInputs, AreLeft, IsCut, back_of}
use Rattle.online_robust.specs.declared.line.MarginLine.{MarginLine}
use Rattle.node_edges.proofs.DroppingLemmas.{held_of-without}
use Rattle.online_robust.proofs.SlideAgain.{moved_whole}

-- where an end of a window comes to an offset from the turn's number, what ends by then is gone from the edge, but nothing before the start
pub cut_at : (to k : ℤ) {F : Function} {reach first i : ℕ} {back : Option ℤ} {front : ℤ} {e' e : Held} → AreInputs F reach first back front (held_at e' i)
    → (int_lt (to +ℤ k) (pos first) ≡ true → back ≡ None) → Sheds (shifted (whole to) k) i e' e
    → (pos first ≤ℤ (to +ℤ k) → IfSome (slice_get (held_at e i) 0) (λ l. whole (to +ℤ k) <ʳ value (end_of l)))
    → IsCut (back_of first (Some to) k) (edge_at e' i) (edge_at e i)
cut_at to k {first} {i} {front} {e'} {e} inputs early shed rest_later = by_test (int_lt (to +ℤ k) (pos first)) refl
  where
    limit : shifted (whole to) k ≈ whole (to +ℤ k)
    limit = moved_whole (whole to) to k (same_refl (whole to))

    ends_by : (o : Option MarginLine) → IfSome o (λ l. value (end_of l) ≤ʳ shifted (whole to) k) → IfSome o (λ l. value (end_of l) ≤ʳ whole (to +ℤ k))
    ends_by None h = tt
    ends_by (Some l) h = le_trans h (le_of_same limit)

    -- before the start nothing has gone
    none_gone : (to +ℤ k) <ℤ pos first → AreLeft first None front (held_at e' i) → (n : ℕ) → shed.count ≡ n → held_at e i ≡ held_at e' i
    none_gone lt (p, v, rest, is, when, joined) zero n = shed.is ∙ ap (λ (j : ℕ). drop j (held_at e' i)) n
    none_gone lt (p, v, rest, is, when, joined) (suc j) n =
        let h = shed.ended 0 (omega (arith, n)) in
        let h' : value p ≤ʳ shifted (whole to) k =
        subst (λ (l : List MarginLine). IfSome (slice_get l 0) (λ y. value (end_of y) ≤ʳ shifted (whole to) k)) is h in
        absurd (not_lt_of_le (le_trans (ge_of_same when) (le_trans h' (le_of_same limit))) (lt_whole lt))

    by_test : (b : Bool) → int_lt (to +ℤ k) (pos first) ≡ b → IsCut (cond b None (Some (to +ℤ k))) (edge_at e' i) (edge_at e i)
    by_test true is = none_gone (int_order (to +ℤ k) (pos first) true is)
        (subst (λ (o : Option ℤ). AreLeft first o front (held_at e' i)) (early is) inputs.left) shed.count refl
    by_test false is = record {
      count = shed.count;
      is = shed.is;
      ended = λ n below. ends_by (slice_get (held_at e' i) n) (shed.ended n below);
      rest = rest_later (int_order (to +ℤ k) (pos first) false is);
    }

-- lines that are read in two steps are read
pub reads_both : {of : ℕ} {x y z : Held} → ReadsOn of x y → ReadsOn of y z → ReadsOn of x z
reads_both h k = record {
  held = k.held ∙ h.held;
  number = k.number ∙ h.number;
  others = λ j a. k.others j a ∙ h.others j a;
  edges = k.edges ∙ h.edges;
  start = k.start ∙ h.start;
}

-- an edge of which nothing was read
pub reads_none : {of : ℕ} (x : Held) → ReadsOn of x x
reads_none x = record { held = refl; number = refl; others = λ j a. refl; edges = refl; start = refl }

-- lines are read, and then some are dropped
pub read_drops : {of : ℕ} {limit : Rational} {x y z : Held} → ReadsOn of x y → DropsBy limit of y z → HasRead of x limit z
read_drops {of} {limit} {x} {y} {z} read drop_it = (
  record {
    count = drop_it.lost.here.count;
    is = ap held_of drop_it.lost.here.is ∙ held_of-without drop_it.lost.here.count (edge_at y of)
        ∙ ap (λ (l : List MarginLine). drop drop_it.lost.here.count l) read.held;
    ended = λ k below. subst (λ (l : List MarginLine). IfSome (slice_get l k) (λ v. value (end_of v) ≤ʳ limit)) read.held (drop_it.lost.here.ended k below);
    number = ap (λ (e : Edge). e.number) drop_it.lost.here.is ∙ read.number;
    others = λ j a. drop_it.lost.others j a ∙ read.others j a;
    edges = drop_it.lost.edges ∙ read.edges;
    start = drop_it.lost.start ∙ read.start;
  },
  drop_it.rest,
)
