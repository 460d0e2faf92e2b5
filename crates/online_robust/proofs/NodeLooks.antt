-- How far a node looks over an input, and what it leaves of the one that it reads.
use Rattle.std.proofs.Common.{◌≡◌, ◌⊎◌, inl, inr, ℕ, Bool, true, false, refl, sym, ap, subst, ◌∙◌, arith, Some, ℤ, pos, ◌+ℤ◌, ◌≤ℤ◌}
use Rattle.std.proofs.lemmas.Int.{ints}
use Rattle.std.proofs.lemmas.Option.{same_Some}
use Rattle.rational.specs.Time.{Rational, shifted, whole, ◌≈◌, ◌≤ʳ◌}
use Rattle.rational.proofs.Order.{le_of_same, le_trans, same_refl}
use Rattle.rational.proofs.Shift.{le_whole}
use Rattle.stl_syntax.specs.Trace.{stop, last_time}
use Rattle.stl_syntax.specs.Formula.{subformula, horizon}
use Rattle.stl_syntax.specs.declared.node.Node.{Node}
use Rattle.online_nodes.specs.Network.{reach_back}
use Rattle.online_nodes.specs.Needed.{IsReader}
use Rattle.online_nodes.specs.StreamedWide.{front_at}
use Rattle.online_robust.specs.Held.{Held, edge_at}
use Rattle.online_robust.specs.Steps.{Step, Belongs, HasSwept, IsCut, back_of, begin_of}
use Rattle.online_robust.specs.Slides.{Sheds}
use Rattle.online_robust.specs.declared.operator.Operator.{Operator}

-- a whole time moved by an offset
pub shifted_whole : (k j : ℤ) → shifted (whole k) j ≈ whole (k +ℤ j)
shifted_whole k j = omega (arith, ints)

module _ (t : Step) (op : Operator) (e : Held) (to : ℕ) (b : Belongs t op e to) (of : ℕ) where
  abbrev front_of : ℤ
  front_of = front_at t.ended (pos t.now) (subformula t.nodes of)

  -- the input stands by the last row
  pub front_by : front_of ≤ℤ pos t.now
  front_by = by_end t.ended
    where
      by_end : (c : Bool) → front_at c (pos t.now) (subformula t.nodes of) ≤ℤ pos t.now
      by_end true = omega (arith, ints)
      by_end false = omega (arith, ints)

  -- the input's front does not lie behind the end
  pub front_by_stop : whole front_of ≤ʳ stop t.trace
  front_by_stop = let le = front_by in let last = b.by_now in le_whole {j = front_of} {k = pos (last_time 0 t.trace.rows)} (omega (arith, ints, le, last))

  -- where the input has ended all stand at the end
  at_now : t.ended ≡ true → front_of ≡ pos t.now
  at_now ended = ap (λ c. front_at c (pos t.now) (subformula t.nodes of)) ended

  to_now : t.ended ≡ true → pos to ≡ pos t.now
  to_now ended = b.number ∙ ap (λ c. front_at c (pos t.now) (subformula t.nodes t.place)) ended

  at_stop : t.ended ≡ true → whole (pos t.now) ≈ stop t.trace
  at_stop ended = let last = b.at_end ended in subst (λ k. whole (pos t.now) ≈ whole (pos k)) last (same_refl (whole (pos t.now)))

  -- a node that reads this input alone has swept its edges where it has swept that one's
  pub one_swept : (e' : Held) {limit : Rational} → Sheds limit of e e' → IsReader b.node true of
      → ((j : ℕ) (left : Bool) → IsReader b.node left j → (j ≡ of) × (left ≡ true))
      → IsCut (back_of (begin_of t) (Some (pos to)) (reach_back b.node true)) (edge_at e of) (edge_at e' of) → HasSwept t e e' to
  one_swept e' shed reads only cut = record {
    inputs = λ node j left found read. by_node node j left (same_Some _ _ (sym found ∙ b.at)) read;
    others = λ j unread. shed.others j (λ is. unread b.node true b.at (subst (IsReader b.node true) (sym is) reads));
    edges = shed.edges;
    start = shed.start;
  }
    where
      IsDone : Node → ℕ → Bool → Type 0
      IsDone n j left =
          IsCut (back_of (begin_of t) (Some (pos to)) (reach_back n left)) (edge_at e j) (edge_at e' j) × ((edge_at e' j).number ≡ (edge_at e j).number)

      by_node : (node : Node) (j : ℕ) (left : Bool) → node ≡ b.node → IsReader node left j → IsDone node j left
      by_node node j left is read =
          let one = only j left (subst (λ (n : Node). IsReader n left j) is read) in
          subst (λ (n : Node). IsDone n j left) (sym is) (subst (λ (i : ℕ). IsDone b.node i left) (sym one.0)
          (subst (λ (l : Bool). IsDone b.node of l) (sym one.1) (cut, shed.number)))

  module _ (by : ℤ) (far : (pos (horizon (subformula t.nodes of)) +ℤ by) ≤ℤ pos (horizon (subformula t.nodes t.place))) where
    -- what is looked at is told, or the input has ended
    limit : ((pos to +ℤ by) ≤ℤ front_of) ⊎ (t.ended ≡ true)
    limit = by_end t.ended refl b.number
      where
        by_end : (c : Bool) → t.ended ≡ c → pos to ≡ front_at c (pos t.now) (subformula t.nodes t.place)
            → ((pos to +ℤ by) ≤ℤ front_at c (pos t.now) (subformula t.nodes of)) ⊎ (t.ended ≡ true)
        by_end true same e = inr same
        by_end false same e = inl (omega (arith, ints, e, far))

    -- the input is told as far as the window looks, or to the end
    pub told_as_far : (shifted (whole (pos to)) by ≤ʳ whole front_of) ⊎ ((whole front_of ≈ stop t.trace) × (whole (pos to) ≈ stop t.trace))
    told_as_far = by_limit limit
      where
        by_limit : ((pos to +ℤ by) ≤ℤ front_of) ⊎ (t.ended ≡ true)
            → (shifted (whole (pos to)) by ≤ʳ whole front_of) ⊎ ((whole front_of ≈ stop t.trace) × (whole (pos to) ≈ stop t.trace))
        by_limit (inl le) = inl (le_trans (le_of_same (shifted_whole (pos to) by)) (le_whole le))
        by_limit (inr ended) = inr (
          subst (λ k. whole k ≈ stop t.trace) (sym (at_now ended)) (at_stop ended),
          subst (λ k. whole k ≈ stop t.trace) (sym (to_now ended)) (at_stop ended),
        )
