-- Two edges that lose lines and a third one that gets some, and a stretch that is given out so.
use Rattle.std.proofs.Common.{◌≡◌, ◌≢◌, ◌⊎◌, inl, inr, ℕ, ◌<◌, List, [], ◌∷◌, ◌++◌, length, None, set, refl, sym, ap, subst, ◌∙◌, arith}
use Rattle.std.proofs.Common.{get_or-set_same, length-set}
use Rattle.std.proofs.lemmas.Bool.{cases_eq}
use Rattle.std.proofs.lemmas.List.{get_or-set_other, set-get_or, set-set}
use Rattle.rational.specs.Time.{Rational, ◌≤ʳ◌}
use Rattle.frac128.specs.Value.{value}
use Rattle.value_laws.specs.Kinds.{margin_shape}
use Rattle.value_laws.specs.declared.margin.Margin.{Margin}
use Rattle.pl_signal.specs.declared.knot.Knot.{Knot}
use Rattle.pl_signal.specs.Knots.{IsSignal}
use Rattle.online_robust.specs.Held.{Held, edge_at, no_edge, with_edge, with_more}
use Rattle.online_robust.specs.Putting.{lines_of, HasPut}
use Rattle.online_robust.specs.ReadLines.{Loses, LosesAtBoth}
use Rattle.online_robust.specs.Tails.{Changes, HasTurned, IsGivenOut, IsUnderWay, knot_of, lines_left}
use Rattle.online_robust.specs.declared.line.MarginLine.{MarginLine}
use Rattle.online_robust.specs.declared.line.Reached.{Reached}
use Rattle.online_robust.specs.declared.tail.Tail.{Tail}
use Rattle.online_robust.proofs.LinesGone.{loses_both, loses_later, loses_none}
use Rattle.online_robust.proofs.LinesPut.{more_more, no_more, put_count, put_here, put_others}
use Rattle.online_robust.proofs.TailLemmas.{tail_lines}

-- but for the node's edge all are the same
pub record AreSameBut (node : ℕ) (e f : Held) : Type 0 where
  -- each other edge
  pub others : (j : ℕ) → j ≢ node → edge_at f j ≡ edge_at e j
  -- and there are as many
  pub edges : length f.edges ≡ length e.edges

-- where an edge gets lines the others stay
pub put_but : {node : ℕ} {more : List MarginLine} {e f : Held} → HasPut node more e f → AreSameBut node e f
put_but put = record { others = put_others put; edges = put_count put }

module _ {limit : Rational} {i k node : ℕ} (from_left : node ≢ i) (from_right : node ≢ k) where
  -- lines that are lost
  pub changed_by_loss : {x y : Held} → LosesAtBoth limit i k x y → Changes limit i k node [] x y
  changed_by_loss {x} lost = record {
    left = lost.left;
    right = lost.right;
    here = lost.others node from_left from_right ∙ sym (no_more (edge_at x node));
    others = λ j a b c. lost.others j a b;
    edges = lost.edges;
    start = lost.start;
  }

  -- lines that are put
  pub changed_by_put : {more : List MarginLine} {x y : Held} → node < length x.edges → HasPut node more x y → Changes limit i k node more x y
  changed_by_put {x = x} within put = record {
    left = subst (Loses limit (edge_at x i)) (sym (put_others put i (λ e. from_left (sym e)))) (loses_none limit (edge_at x i));
    right = subst (Loses limit (edge_at x k)) (sym (put_others put k (λ e. from_right (sym e)))) (loses_none limit (edge_at x k));
    here = put_here put within;
    others = λ j a b c. put_others put j c;
    edges = put_count put;
    start = put.start;
  }

  -- both, one after the other
  pub changed_both : {a b : List MarginLine} {x y z : Held} → Changes limit i k node a x y → Changes limit i k node b y z
      → Changes limit i k node (a ++ b) x z
  changed_both {a} {b} {x} g h = record {
    left = loses_both g.left h.left;
    right = loses_both g.right h.right;
    here = h.here ∙ ap (λ e. with_more e b) g.here ∙ more_more (edge_at x node) a b;
    others = λ j l r n. h.others j l r n ∙ g.others j l r n;
    edges = h.edges ∙ g.edges;
    start = h.start ∙ g.start;
  }

  -- all that was lost went first, and then the lines were put
  module _ {more : List MarginLine} (old new : Held) (within : node < length old.edges) (changes : Changes limit i k node more old new) where
    abbrev pub between : Held
    between = record new { edges = with_edge new node (edge_at old node) }

    -- but for the node's edge these are the new ones
    pub between_but : AreSameBut node new between
    between_but = record {
      others = λ j a. get_or-set_other new.edges node j (edge_at old node) no_edge a;
      edges = length-set new.edges node (edge_at old node);
    }

    -- the inputs have lost their lines
    pub between_lost : LosesAtBoth limit i k old between
    between_lost = record {
      left = subst (Loses limit (edge_at old i)) (sym (between_but.others i (λ e. from_left (sym e)))) changes.left;
      right = subst (Loses limit (edge_at old k)) (sym (between_but.others k (λ e. from_right (sym e)))) changes.right;
      others = λ j a b. by_place j a b (cases_eq j node);
      edges = between_but.edges ∙ changes.edges;
      start = changes.start;
    }
      where
        by_place : (j : ℕ) → j ≢ i → j ≢ k → (j ≡ node) ⊎ (j ≢ node) → edge_at between j ≡ edge_at old j
        by_place j a b (inl e) = subst (λ n. edge_at between n ≡ edge_at old n) (sym e)
            (get_or-set_same new.edges node (edge_at old node) no_edge (omega (arith, within, changes.edges)))
        by_place j a b (inr c) = between_but.others j c ∙ changes.others j a b c

    -- and the node's edge gets its own
    pub between_put : HasPut node more between new
    between_put = record {
      edges = sym (
          set-set new.edges node (edge_at old node) (with_more (edge_at between node) more)
          ∙ ap (λ e. set new.edges node (with_more e more)) (get_or-set_same new.edges node (edge_at old node) no_edge (omega (arith, within, changes.edges)))
          ∙ ap (set new.edges node) (sym changes.here) ∙ set-get_or new.edges node no_edge);
      start = refl;
    }

  -- a stretch begins
  pub way_begun : {first : _} {Is : List (Knot Margin) → Type 0} {old mid new : Held} (start : Reached) → node < length old.edges
      → LosesAtBoth limit i k old mid → HasPut node (lines_of first (knot_of start ∷ [])) mid new → IsSignal margin_shape (knot_of start ∷ [])
      → Is (knot_of start ∷ []) → IsUnderWay limit i k node first Is old (record { gap = None; end = start }) new
  way_begun {first} start within lost put signal is = record {
    knots = knot_of start ∷ [];
    put = lines_of first (knot_of start ∷ []);
    tail = (refl, refl);
    signal = signal;
    changes = changed_both (changed_by_loss lost) (changed_by_put (omega (arith, within, lost.edges)) put);
    is = is;
  }

  -- a stretch goes on by a turn
  pub turned_on : {first : _} {On : List (Knot Margin) → List (Knot Margin) → Type 0} {Is Is' : List (Knot Margin) → Type 0} {old mid new : Held} {t t' : Tail}
      → value t'.end.at ≤ʳ limit → ((ks ks' : List (Knot Margin)) → On ks ks' → Is ks → IsSignal margin_shape ks' × Is' ks')
      → IsUnderWay limit i k node first Is old t mid → HasTurned i k node On t mid t' new → IsUnderWay limit i k node first Is' old t' new
  turned_on {first} by keeps way turned =
      let (ks', on, tail) = turned.on first way.knots way.put way.tail way.signal in
      let c = turned.changes in
      record {
        knots = ks';
        put = way.put ++ turned.more;
        tail = tail;
        signal = (keeps way.knots ks' on way.is).0;
        changes = changed_both way.changes
            (record { left = loses_later by c.left; right = loses_later by c.right; here = c.here; others = c.others; edges = c.edges; start = c.start });
        is = (keeps way.knots ks' on way.is).1;
      }

  -- a stretch has come onto the edge
  pub all_out : {first : _} {Is : List (Knot Margin) → Type 0} {Out : List (Knot Margin) → Held → Type 0} (old : Held) {mid : Held} (new : Held) {t : Tail}
      → node < length old.edges → ((ks : List (Knot Margin)) (f : Held) → AreSameBut node mid f → Is ks → Out ks f)
      → IsUnderWay limit i k node first Is old t mid → HasPut node (lines_left t.gap t.end) mid new → IsGivenOut limit i k node first Out old new
  all_out {first} old {mid} new {t} within tells way put =
      let all = changed_both way.changes (changed_by_put (omega (arith, within, way.changes.edges)) put) in
      let but = between_but old new within all in
      record {
        swept = way.knots;
        between = between old new within all;
        is = tells way.knots (between old new within all)
            (record { others = λ j a. but.others j a ∙ put_others put j a; edges = but.edges ∙ put_count put }) way.is;
        lost = between_lost old new within all;
        put = subst (λ l. HasPut node l (between old new within all) new) (sym (tail_lines t first way.knots way.put way.tail))
            (between_put old new within all);
      }
