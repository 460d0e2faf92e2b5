-- Lines that are gone from the front of edges.
use Rattle.std.proofs.Common.{◌≡◌, ◌≢◌, ℕ, ℤ, ◌+◌, ◌-◌, ◌<◌, ◌≤◌, ◌⊎◌, inl, inr, List, Some, None}
use Rattle.std.proofs.Common.{Option, refl, sym, ap, subst, ◌∙◌, length, drop, get_or, slice_get, arith}
use Rattle.std.specs.Prelude.{IfSome}
use Rattle.std.proofs.lemmas.Bool.{cases_lt}
use Rattle.std.proofs.lemmas.List.{get_or-set_other, get_or-set_same, length-set}
use Rattle.rational.specs.Time.{Rational, ◌≤ʳ◌, whole}
use Rattle.rational.proofs.Order.{le_trans}
use Rattle.rational.proofs.Lists.{slice_get-drop}
use Rattle.frac128.specs.Value.{value}
use Rattle.node_edges.specs.Held.{IsDroppedBy}
use Rattle.online_robust.specs.Lines.{end_of, margin_part}
use Rattle.online_robust.specs.Held.{Edge, Held, edge_at, held_at, held_of, no_edge, with_edge, without}
use Rattle.online_robust.specs.ReadLines.{Loses, LosesAt, LosesAtBoth}
use Rattle.online_robust.specs.declared.line.MarginLine.{MarginLine}
use Rattle.node_edges.proofs.DroppingLemmas.{held_of-without, without-more, without-none}

-- nothing is lost
pub loses_none : (limit : Rational) (x : Edge) → Loses limit x x
loses_none limit x = record { count = 0; is = sym (without-none x); ended = λ k below. absurd (omega arith) }

-- what ends by a time ends by a later one
pub ended_later : (o : Option MarginLine) {l m : Rational} → l ≤ʳ m → IfSome o (λ x. value (end_of x) ≤ʳ l) → IfSome o (λ x. value (end_of x) ≤ʳ m)
ended_later None le h = h
ended_later (Some x) le h = le_trans h le

-- what is lost by a limit is lost by a later one
pub loses_later : {l m : Rational} {x y : Edge} → l ≤ʳ m → Loses l x y → Loses m x y
loses_later {x = x} le h = record { count = h.count; is = h.is; ended = λ k below. ended_later (slice_get (held_of x) k) le (h.ended k below) }

-- lines are lost in two turns
pub loses_both : {limit : Rational} {x y z : Edge} → Loses limit x y → Loses limit y z → Loses limit x z
loses_both {limit} {x} {y} {z} h k = record {
  count = h.count + k.count;
  is = k.is ∙ ap (without k.count) h.is ∙ without-more k.count h.count x;
  ended = ended;
}
  where
    held : held_of y ≡ drop h.count (held_of x)
    held = ap held_of h.is ∙ held_of-without h.count x

    by_place : (i : ℕ) → (i < h.count) ⊎ (h.count ≤ i) → i < h.count + k.count → IfSome (slice_get (held_of x) i) (λ v. value (end_of v) ≤ʳ limit)
    by_place i (inl below) all = h.ended i below
    by_place i (inr above) all =
        let place : h.count + (i - h.count) ≡ i = omega arith in
        let within : i - h.count < k.count = omega arith in
        subst (λ o. IfSome o (λ v. value (end_of v) ≤ʳ limit))
        (ap (λ (l : List MarginLine). slice_get l (i - h.count)) held ∙ slice_get-drop h.count (held_of x) (i - h.count) ∙ ap (slice_get (held_of x)) place)
        (k.ended (i - h.count) within)

    ended : (i : ℕ) → i < h.count + k.count → IfSome (slice_get (held_of x) i) (λ v. value (end_of v) ≤ʳ limit)
    ended i below = by_place i (cases_lt i h.count) below

module _ {limit : Rational} {i : ℕ} where
  -- an edge that stays has lost nothing
  pub loses_at_none : (e : Held) → LosesAt limit i e e
  loses_at_none e = record { here = loses_none limit (edge_at e i); others = λ j a. refl; edges = refl; start = refl }

  -- what is lost in two steps is lost
  pub loses_at_both : {x y z : Held} → LosesAt limit i x y → LosesAt limit i y z → LosesAt limit i x z
  loses_at_both h k = record {
    here = loses_both h.here k.here;
    others = λ j a. k.others j a ∙ h.others j a;
    edges = k.edges ∙ h.edges;
    start = k.start ∙ h.start;
  }

-- the first line was taken, which ends by the limit
pub took : (limit : Rational) (i : ℕ) (old new : Held) (v : MarginLine) → i < length old.edges → new.edges ≡ with_edge old i (without 1 (edge_at old i))
    → new.start ≡ old.start → slice_get (held_at old i) 0 ≡ Some v → value (end_of v) ≤ʳ limit → LosesAt limit i old new
took limit i old new v within taken start first ended = record {
  here = record {
    count = 1;
    is = ap (λ (es : List Edge). get_or es i no_edge) taken ∙ get_or-set_same old.edges i (without 1 (edge_at old i)) no_edge within;
    ended = λ k below. let zero_is : 0 ≡ k = omega arith in
        subst (λ n. IfSome (slice_get (held_at old i) n) (λ x. value (end_of x) ≤ʳ limit)) zero_is
        (subst (λ o. IfSome o (λ x. value (end_of x) ≤ʳ limit)) (sym first) ended);
  };
  others = λ j a. ap (λ (es : List Edge). get_or es j no_edge) taken ∙ get_or-set_other old.edges i j (without 1 (edge_at old i)) no_edge a;
  edges = ap (λ (es : List Edge). length es) taken ∙ length-set old.edges i (without 1 (edge_at old i));
  start = start;
}

-- what an edge has dropped is lost
pub dropped : {limit : ℤ} {i : ℕ} {old new : Held} → IsDroppedBy margin_part limit (edge_at old i) (edge_at new i)
    → new.edges ≡ with_edge old i (edge_at new i) → new.start ≡ old.start → LosesAt (whole limit) i old new
dropped {limit} {i} {old} {new} gone edges start = record {
  here = record { count = gone.count; is = gone.is; ended = gone.ended };
  others = λ j a. ap (λ (es : List Edge). get_or es j no_edge) edges ∙ get_or-set_other old.edges i j (edge_at new i) no_edge a;
  edges = ap (λ (es : List Edge). length es) edges ∙ length-set old.edges i (edge_at new i);
  start = start;
}

-- what an edge holds once its first line was taken
pub took_held : (i : ℕ) (old new : Held) → i < length old.edges → new.edges ≡ with_edge old i (without 1 (edge_at old i))
    → held_at new i ≡ drop 1 (held_at old i)
took_held i old new within taken =
    ap held_of (ap (λ (es : List Edge). get_or es i no_edge) taken ∙ get_or-set_same old.edges i (without 1 (edge_at old i)) no_edge within)
    ∙ held_of-without 1 (edge_at old i)

-- what is lost of one edge by a limit is lost by a later one
pub loses_at_later : {l m : Rational} {i : ℕ} {x y : Held} → l ≤ʳ m → LosesAt l i x y → LosesAt m i x y
loses_at_later le h = record { here = loses_later le h.here; others = h.others; edges = h.edges; start = h.start }

module _ {limit : Rational} {i k : ℕ} where
  -- two edges that stay have lost nothing
  pub both_none : (e : Held) → LosesAtBoth limit i k e e
  both_none e = record { left = loses_none limit (edge_at e i); right = loses_none limit (edge_at e k); others = λ j a b. refl; edges = refl; start = refl }

  -- lines are lost at the one edge, and then at the other
  pub both_of : {x y z : Held} → i ≢ k → LosesAt limit i x y → LosesAt limit k y z → LosesAtBoth limit i k x z
  both_of {x} {y} {z} apart h g = record {
    left = subst (λ (e : Edge). Loses limit (edge_at x i) e) (sym (g.others i apart)) h.here;
    right = subst (λ (e : Edge). Loses limit e (edge_at z k)) (h.others k (λ e. apart (sym e))) g.here;
    others = λ j a b. g.others j b ∙ h.others j a;
    edges = g.edges ∙ h.edges;
    start = g.start ∙ h.start;
  }

-- what one edge lost two edges lost that are the same
pub both_of_one : {limit : Rational} {i : ℕ} {x y : Held} → LosesAt limit i x y → LosesAtBoth limit i i x y
both_of_one h = record { left = h.here; right = h.here; others = λ j a b. h.others j a; edges = h.edges; start = h.start }

-- and back
pub one_of_both : {limit : Rational} {i : ℕ} {x y : Held} → LosesAtBoth limit i i x y → LosesAt limit i x y
one_of_both h = record { here = h.left; others = λ j a. h.others j a a; edges = h.edges; start = h.start }

-- what is lost of two edges by a limit is lost by a later one
pub both_later : {l m : Rational} {i k : ℕ} {x y : Held} → l ≤ʳ m → LosesAtBoth l i k x y → LosesAtBoth m i k x y
both_later le h = record { left = loses_later le h.left; right = loses_later le h.right; others = h.others; edges = h.edges; start = h.start }
