-- A streamed robustness that is refused for a denominator has cause to be refused in each trace that goes on from the rows.
use Rattle.std.proofs.Common.{◌≡◌, ◌⊎◌, inl, inr, refl, sym, ap, subst, ◌∙◌, ℕ, zero, suc, ◌+◌, ◌-◌, ◌≤◌, max, List, [], ◌∷◌, ◌++◌, Bool, true, false}
use Rattle.std.proofs.Common.{Option, Some, None, ℤ, pos, ◌+ℤ◌, ◌-ℤ◌, ◌≤ℤ◌, arith, append-nil, length}
use Rattle.std.specs.Prelude.{slice_get, neg_ℤ, IfSome}
use Rattle.std.proofs.lemmas.Int.{ints}
use Rattle.rational.specs.Time.{Rational, Precedes, whole, later, shifted, ◌≤ʳ◌, ◌<ʳ◌, ◌≈◌}
use Rattle.rational.specs.Extended.{opposite, Affine}
use Rattle.rational.specs.Windows.{Function, Window, Ahead, Behind}
use Rattle.rational.specs.InPlay.{IsEndBehind, IsInPlay, IsWideCrossing, IsWideValue, of_two, window_ahead, window_behind}
use Rattle.rational.proofs.Mixed.{parts}
use Rattle.rational.proofs.Order.{le_refl, le_trans, le_of_lt, le_of_same, lt_of_lt_of_le, lt_of_le_of_lt, lt_trans, lt_irrefl, not_lt_of_le, le_or_lt}
use Rattle.rational.proofs.Order.{same_trans}
use Rattle.rational.proofs.Shift.{same_shift, shift_forth, le_whole}
use Rattle.rational.proofs.TimeLemmas.{later_le, later_lt, later_le_back, precedes_le, shifted-add, later-add}
use Rattle.stl_syntax.specs.Trace.{Header, Row, Trace, IsTrace, AreRowsAfter, Continues, row_time, last_time, start, stop}
use Rattle.stl_syntax.specs.Formula.{Formula, Subformula, constant, atom, negation, conjunction, disjunction, implication}
use Rattle.stl_syntax.specs.Formula.{until, eventually, always, since, once, historically, horizon, subformula, tree_of, tree_at, trees_after}
use Rattle.stl_syntax.specs.Scaling.{scaled}
use Rattle.stl_syntax.specs.SupInf.{Setting, SupInf, margin_setting}
use Rattle.stl_syntax.specs.WideCause.{negative, IsInPlayAt, IsCrossingCause, IsValueCause}
use Rattle.stl_syntax.specs.declared.node.Node.{Node}
use Rattle.stl_syntax.specs.declared.node.Node.TheVariants.{Until, Since}
use Rattle.online_nodes.specs.StreamedWide.{IsUnstreamed, front_at, IsSettledConstant}
use Rattle.trace_stream.specs.Streams.{margins, HasStream}
use Rattle.trace_stream.specs.Wides.{IsNeededByThen, IsWideRows, at_row, at_end}
use Rattle.trace_stream.proofs.WideRefused.{stream_scaled}
use Rattle.agreeing.specs.Wides.{HasCause, StreamedWidesAreWhole}
use Rattle.agreeing.proofs.PlayOn.{StaysSame, part_on, value_within, limit_within, end_part_on, ahead_has_time, behind_has_time, shifted_later}
use Rattle.agreeing.proofs.MarginsSettled.{to, end, short, long, further, settled}

-- ---- nodes that are streamed

-- the formula is no until and no since
abbrev IsTop : Subformula → Type 0
IsTop (until a b p q) = ⊥
IsTop (since a b p q) = ⊥
IsTop p = Unit {0}

abbrev AreTops : List Subformula → Type 0
AreTops [] = Unit {0}
AreTops (t ∷ trees) = IsTop t × AreTops trees

tops_push : (trees : List Subformula) (t : Subformula) → AreTops trees → IsTop t → AreTops (trees ++ t ∷ [])
tops_push [] t h k = (k, tt)
tops_push (x ∷ trees) t h k = (h.0, tops_push trees t h.1 k)

top_of : (at : ℕ → Subformula) (i : ℕ) (n : Node) → ¬ IsUnstreamed n → IsTop (tree_of at i n)
top_of at i (Until p q a b) h = absurd (h tt)
top_of at i (Since p q a b) h = absurd (h tt)
top_of at i n h = tt

tops_after : (trees : List Subformula) (nodes : List Node) → AreTops trees → ((i : ℕ) (n : Node) → slice_get nodes i ≡ Some n → ¬ IsUnstreamed n)
    → AreTops (trees_after trees nodes)
tops_after trees [] h k = h
tops_after trees (n ∷ nodes) h k =
    tops_after (trees ++ tree_of (tree_at trees) (length trees) n ∷ []) nodes
    (tops_push trees (tree_of (tree_at trees) (length trees) n) h (top_of (tree_at trees) (length trees) n (k 0 n refl))) (λ i m e. k (suc i) m e)

top_at : (trees : List Subformula) (i : ℕ) → AreTops trees → IsTop (tree_at trees i)
top_at [] zero h = tt
top_at [] (suc i) h = tt
top_at (t ∷ trees) zero h = h.0
top_at (t ∷ trees) (suc i) h = top_at trees i h.1

-- each node of a formula that has a stream of margins is neither
top_node : (nodes : List Node) (i : ℕ) → ((i : ℕ) (n : Node) → slice_get nodes i ≡ Some n → ¬ IsUnstreamed n) → IsTop (subformula nodes i)
unfolding subformula
top_node nodes i k = top_at (trees_after [] nodes) i (tops_after [] nodes tt k)

-- ---- fronts

-- a whole number and k more
later_by : (z w : ℤ) (k : ℕ) → (z +ℤ pos k) ≤ℤ w → later (whole z) k ≤ʳ whole w
later_by z w k g = record { le = omega (arith, parts) }

by_later : (z w : ℤ) (k : ℕ) → z ≤ℤ (w +ℤ pos k) → whole z ≤ʳ later (whole w) k
by_later z w k g = record { le = omega (arith, parts) }

-- a time at most b after one that lies before a front lies before the front that is b later
ahead_of_front : (now : ℤ) (b k : ℕ) (t u : Rational) → t <ʳ whole (now -ℤ pos (b + k)) → u ≤ʳ later t b → u <ʳ whole (now -ℤ pos k)
ahead_of_front now b k t u l h =
    let g : ((now -ℤ pos (b + k)) +ℤ pos b) ≤ℤ (now -ℤ pos k) = omega (arith, ints) in
    lt_of_le_of_lt h (lt_of_lt_of_le (later_lt t (whole (now -ℤ pos (b + k))) b l) (later_by (now -ℤ pos (b + k)) (now -ℤ pos k) b g))

-- a time that lies a or more before one before a front lies before the front that is a earlier
behind_front : (now : ℤ) (a k : ℕ) (t u : Rational) → t <ʳ whole (now -ℤ pos (k - a)) → later u a ≤ʳ t → u <ʳ whole (now -ℤ pos k)
behind_front now a k t u l h = by_order (le_or_lt (whole (now -ℤ pos k)) u)
  where
    step : whole (now -ℤ pos (k - a)) ≤ʳ later (whole (now -ℤ pos k)) a
    step =
        let g : (now -ℤ pos (k - a)) ≤ℤ ((now -ℤ pos k) +ℤ pos a) = omega (arith, ints) in
        by_later (now -ℤ pos (k - a)) (now -ℤ pos k) a g

    by_order : (whole (now -ℤ pos k) ≤ʳ u) ⊎ (u <ʳ whole (now -ℤ pos k)) → u <ʳ whole (now -ℤ pos k)
    by_order (inl g) = absurd (not_lt_of_le (le_trans step (le_trans (later_le a g) h)) l)
    by_order (inr g) = g

-- a front of less lies no earlier
front_less : (now : ℤ) (j k : ℕ) → j ≤ k → whole (now -ℤ pos k) ≤ʳ whole (now -ℤ pos j)
front_less now j k h = let g : (now -ℤ pos k) ≤ℤ (now -ℤ pos j) = omega (arith, ints) in le_whole g

-- the time k before t, and k later again
back_later : (t : Rational) (k : ℕ) → later (shifted t (neg_ℤ (pos k))) k ≈ t
back_later t k =
    same_trans (later-add (shifted t (neg_ℤ (pos k))) k) (same_trans (same_shift (pos k) (shifted-add t (neg_ℤ (pos k)))) (shift_forth t (pos k)))

-- ---- in play

module _ (header : Header) (n : ℕ) (r s : Row) (rest more : List Row) (ok : AreRowsAfter n r.time (s ∷ (rest ++ more))) where
  abbrev now : ℤ
  now = pos (last_time s.time rest)

  abbrev from : Rational
  from = row_time r

  abbrev before : Setting
  before = short header n r s rest more ok

  abbrev after : Setting
  after = long header n r s rest more ok

  abbrev last : Rational
  last = to header n r s rest more ok

  abbrev final : Rational
  final = end header n r s rest more ok

  -- the margin of a formula stays the same before its front
  child_stays : (p : Subformula) → StaysSame (SupInf p before) (SupInf p after) last final (whole (now -ℤ pos (horizon p)))
  child_stays p = record {
    forth = λ t v l. (settled header n r s rest more ok p t (reach t l) v).0;
    back = λ t v l. (settled header n r s rest more ok p t (reach t l) v).1;
    inside = let g : (now -ℤ pos (horizon p)) ≤ℤ now = omega (arith, ints) in le_whole g;
    longer = further header n r s rest more ok;
  }
    where
      reach : (t : Rational) → t <ʳ whole (now -ℤ pos (horizon p)) → later t (horizon p) ≤ʳ last
      reach t l =
          let g : ((now -ℤ pos (horizon p)) +ℤ pos (horizon p)) ≤ℤ now = omega (arith, ints) in
          le_trans (le_of_lt (later_lt t (whole (now -ℤ pos (horizon p))) (horizon p) l)) (later_by (now -ℤ pos (horizon p)) now (horizon p) g)

  -- so does what is minus it
  opposite_stays : (p : Subformula) → StaysSame (negative (SupInf p before)) (negative (SupInf p after)) last final (whole (now -ℤ pos (horizon p)))
  opposite_stays p = let h = child_stays p in record {
    forth = λ t v l. h.forth t (opposite v) l;
    back = λ t v l. h.back t (opposite v) l;
    inside = h.inside;
    longer = h.longer;
  }

  two_on : (P Q R S : Function) (j k : ℕ) (tau : Rational) (line : Affine) → StaysSame P R last final (whole (now -ℤ pos j))
      → StaysSame Q S last final (whole (now -ℤ pos k)) → tau <ʳ whole (now -ℤ pos (max j k))
      → IsInPlay (of_two P Q) from last tau line → IsInPlay (of_two R S) from final tau line
  two_on P Q R S j k tau line p q l (inl part) =
      inl (part_on P R (whole (now -ℤ pos j)) p.forth tau line (lt_of_lt_of_le l (front_less now j (max j k) (omega arith))) part)
  two_on P Q R S j k tau line p q l (inr part) =
      inr (part_on Q S (whole (now -ℤ pos k)) q.forth tau line (lt_of_lt_of_le l (front_less now k (max j k) (omega arith))) part)

  module _ (p : Subformula) (a b : ℕ) (a_in b_in : Bool) (tau : Rational) (line : Affine) where
    abbrev cut : Rational
    cut = whole (now -ℤ pos (horizon p))

    stays : StaysSame (SupInf p before) (SupInf p after) last final cut
    stays = child_stays p

    -- the window, with its ends in or not, over a domain that ends so
    abbrev In : Bool → Bool → Rational → Window
    In x_in y_in edge = λ u. Ahead from edge a b x_in y_in tau u

    -- of it, what lies before the front
    abbrev Open : Bool → Bool → Window
    Open x_in y_in = λ u. Ahead from last a b x_in y_in tau u × (u <ʳ cut)

    abbrev GoesLeft : Window
    GoesLeft = λ u. shifted tau (pos a) <ʳ u

    abbrev GoesRight : Window
    GoesRight = λ u. u <ʳ shifted tau (pos b)

    out : (x_in y_in : Bool) (u : Rational) → Ahead from last a b x_in y_in tau u → Ahead from final a b x_in y_in tau u
    out x_in y_in u w =
        record { inside = record { above = w.inside.above; below = le_trans w.inside.below stays.longer }; begins = w.begins; ends = w.ends }

    ahead_on : tau <ʳ whole (now -ℤ pos (b + horizon p)) → IsInPlay (window_ahead (SupInf p before) a b a_in b_in) from last tau line
        → IsInPlay (window_ahead (SupInf p after) a b a_in b_in) from final tau line
    ahead_on l ((u, w), way) = (
      (u, out a_in b_in u w),
      elim way [
        | inl part ↦ inl (end_part_on stays tau line (λ k. (k ≡ pos a) ⊎ (k ≡ pos b)) ends part)
        | inr way ↦ inr (elim way [
          | inl at ↦ inl (value_within stays (In a_in b_in last) (In a_in b_in final) line
              (λ u w. (out a_in b_in u w, before_cut u (precedes_le b_in u (later tau b) w.ends))) at)
          | inr at ↦ inr (limit_within stays (In true true last) (In true true final) GoesLeft GoesRight line
              (λ u w. (out true true u w, before_cut u w.ends)) at)
        ])
      ],
    )
      where
        before_cut : (u : Rational) → u ≤ʳ later tau b → u <ʳ cut
        before_cut u h = ahead_of_front now b (horizon p) tau u l h

        ends : (k : ℤ) → (k ≡ pos a) ⊎ (k ≡ pos b) → shifted tau k <ʳ cut
        ends k (inl e) = subst (λ z. shifted tau z <ʳ cut) (sym e) (before_cut (shifted tau (pos a))
            (le_trans (le_of_same (shifted_later tau a)) (le_trans (precedes_le a_in (later tau a) u w.begins) (precedes_le b_in u (later tau b) w.ends))))
        ends k (inr e) = subst (λ z. shifted tau z <ʳ cut) (sym e) (before_cut (shifted tau (pos b)) (le_of_same (shifted_later tau b)))

    -- a constant that is settled ahead
    ahead_settled : IsSettledConstant false now (eventually a b a_in b_in p) before tau line
        → IsInPlay (window_ahead (SupInf p after) a b a_in b_in) from final tau line
    ahead_settled (inl (u, at, h, v, is, stays_so)) = (
      (u, out a_in b_in u h.0),
      inr (inl (value_within stays (Open a_in b_in) (In a_in b_in final) line (λ u h. (out a_in b_in u h.0, h.1)) (u, at, h, v, is, stays_so))),
    )
    ahead_settled (inr at) = (
      ahead_has_time (SupInf p before) from last final tau stays.longer line a b a_in b_in (Open true true) (λ u h. h.0) at,
      inr (inr (limit_within stays (Open true true) (In true true final) GoesLeft GoesRight line (λ u h. (out true true u h.0, h.1)) at)),
    )

  module _ (p : Subformula) (a : ℕ) (b : Option ℕ) (a_in b_in : Bool) (tau : Rational) (line : Affine) where
    abbrev limit : Rational
    limit = whole (now -ℤ pos (horizon p))

    stays_behind : StaysSame (SupInf p before) (SupInf p after) last final limit
    stays_behind = child_stays p

    -- the window, with its ends in or not, over a domain that ends so
    abbrev InBehind : Bool → Bool → Rational → Window
    InBehind x_in y_in edge = λ u. Behind from edge a b x_in y_in tau u

    -- of it, what lies before the front
    abbrev OpenBehind : Bool → Bool → Window
    OpenBehind x_in y_in = λ u. Behind from last a b x_in y_in tau u × (u <ʳ limit)

    abbrev GoesLeftBehind : Window
    GoesLeftBehind = λ u. IfSome b (λ b. tau <ʳ shifted u (pos b))

    abbrev GoesRightBehind : Window
    GoesRightBehind = λ u. shifted u (pos a) <ʳ tau

    out_behind : (x_in y_in : Bool) (u : Rational) → Behind from last a b x_in y_in tau u → Behind from final a b x_in y_in tau u
    out_behind x_in y_in u w =
        record { inside = record { above = w.inside.above; below = le_trans w.inside.below stays_behind.longer }; begins = w.begins; ends = w.ends }

    behind_on : tau <ʳ whole (now -ℤ pos (horizon p - a)) → IsInPlay (window_behind (SupInf p before) a b a_in b_in) from last tau line
        → IsInPlay (window_behind (SupInf p after) a b a_in b_in) from final tau line
    behind_on l ((u, w), way) = (
      (u, out_behind a_in b_in u w),
      elim way [
        | inl part ↦ inl (end_part_on stays_behind tau line (IsEndBehind a b) (ends b w.begins) part)
        | inr way ↦ inr (elim way [
          | inl at ↦ inl (value_within stays_behind (InBehind a_in b_in last) (InBehind a_in b_in final) line
              (λ u w. (out_behind a_in b_in u w, before_cut u (precedes_le a_in (later u a) tau w.ends))) at)
          | inr at ↦ inr (limit_within stays_behind (InBehind true true last) (InBehind true true final) GoesLeftBehind GoesRightBehind line
              (λ u w. (out_behind true true u w, before_cut u w.ends)) at)
        ])
      ],
    )
      where
        before_cut : (u : Rational) → later u a ≤ʳ tau → u <ʳ limit
        before_cut u h = behind_front now a (horizon p) tau u l h

        at_a : (k : ℤ) → k ≡ neg_ℤ (pos a) → shifted tau k <ʳ limit
        at_a k e = subst (λ z. shifted tau z <ʳ limit) (sym e) (before_cut (shifted tau (neg_ℤ (pos a))) (le_of_same (back_later tau a)))

        ends : (b : Option ℕ) → IfSome b (λ b. Precedes b_in tau (later u b)) → (k : ℤ) → IsEndBehind a b k → shifted tau k <ʳ limit
        ends None h k e = at_a k e
        ends (Some b) h k (inl e) = at_a k e
        ends (Some b) h k (inr e) =
            let no_later = later_le_back (shifted tau (neg_ℤ (pos b))) u b (le_trans (le_of_same (back_later tau b)) (precedes_le b_in tau (later u b) h)) in
            subst (λ z. shifted tau z <ʳ limit) (sym e)
            (before_cut (shifted tau (neg_ℤ (pos b))) (le_trans (later_le a no_later) (precedes_le a_in (later u a) tau w.ends)))

    -- a constant that is settled behind
    behind_settled : IsSettledConstant false now (once a b a_in b_in p) before tau line
        → IsInPlay (window_behind (SupInf p after) a b a_in b_in) from final tau line
    behind_settled (inl (u, at, h, v, is, stays_so)) = (
      (u, out_behind a_in b_in u h.0),
      inr (inl (value_within stays_behind (OpenBehind a_in b_in) (InBehind a_in b_in final) line (λ u h. (out_behind a_in b_in u h.0, h.1))
          (u, at, h, v, is, stays_so))),
    )
    behind_settled (inr at) = (
      behind_has_time (SupInf p before) from last final tau stays_behind.longer line a b a_in b_in (OpenBehind true true) (λ u h. h.0) at,
      inr (inr (limit_within stays_behind (OpenBehind true true) (InBehind true true final) GoesLeftBehind GoesRightBehind line
          (λ u h. (out_behind true true u h.0, h.1)) at)),
    )

  -- what is in play before a node's front is in play over the whole trace
  in_play : (p : Subformula) → IsTop p → (tau : Rational) (line : Affine) → tau <ʳ whole (front_at false now p) → IsInPlayAt p before tau line
      → IsInPlayAt p after tau line
  in_play (constant b) top tau line l h = h
  in_play (atom i a) top tau line l h = h
  in_play (negation p) top tau line l h = h
  in_play (conjunction p q) top tau line l h =
      two_on (SupInf p before) (SupInf q before) (SupInf p after) (SupInf q after) (horizon p) (horizon q) tau line (child_stays p) (child_stays q) l h
  in_play (disjunction p q) top tau line l h =
      two_on (SupInf p before) (SupInf q before) (SupInf p after) (SupInf q after) (horizon p) (horizon q) tau line (child_stays p) (child_stays q) l h
  in_play (implication p q) top tau line l h =
      two_on (negative (SupInf p before)) (SupInf q before) (negative (SupInf p after)) (SupInf q after) (horizon p) (horizon q) tau line
      (opposite_stays p) (child_stays q) l h
  in_play (until a b p q) top tau line l h = absurd top
  in_play (eventually a b a_in b_in p) top tau line l h = ahead_on p a b a_in b_in tau line l h
  in_play (always a b a_in b_in p) top tau line l h = ahead_on p a b a_in b_in tau line l h
  in_play (since a b p q) top tau line l h = absurd top
  in_play (once a b a_in b_in p) top tau line l h = behind_on p a b a_in b_in tau line l h
  in_play (historically a b a_in b_in p) top tau line l h = behind_on p a b a_in b_in tau line l h

  -- so is a constant that is settled
  in_play_settled : (p : Subformula) (tau : Rational) (line : Affine) → IsSettledConstant false now p before tau line → IsInPlayAt p after tau line
  in_play_settled (constant b) tau line h = h
  in_play_settled (atom i a) tau line h = h
  in_play_settled (negation p) tau line h = h
  in_play_settled (conjunction p q) tau line h = absurd h
  in_play_settled (disjunction p q) tau line h = absurd h
  in_play_settled (implication p q) tau line h = absurd h
  in_play_settled (until a b p q) tau line h = absurd h
  in_play_settled (eventually a b a_in b_in p) tau line h = ahead_settled p a b a_in b_in tau line h
  in_play_settled (always a b a_in b_in p) tau line h = ahead_settled p a b a_in b_in tau line h
  in_play_settled (since a b p q) tau line h = absurd h
  in_play_settled (once a b a_in b_in p) tau line h = behind_settled p a b a_in b_in tau line h
  in_play_settled (historically a b a_in b_in p) tau line h = behind_settled p a b a_in b_in tau line h

-- ---- causes

-- what two lines in play need they need over a longer domain in which they are in play
crossing_on : {InPlay Also : Rational → Affine → Type 0} {from to end : Rational} (p q : Affine) (a b : Rational) (den : ℕ) → to ≤ʳ end
    → IsWideCrossing InPlay from to p q a b den → ((tau : Rational) (line : Affine) → InPlay tau line → Also tau line)
    → IsWideCrossing Also from end p q a b den
crossing_on p q a b den longer h play = record {
  tau = h.tau;
  after_start = h.after_start;
  before_stop = lt_of_lt_of_le h.before_stop longer;
  above = h.above;
  below = h.below;
  first = play h.tau p h.first;
  second = play h.tau q h.second;
  meet = h.meet;
  alone = h.alone;
  denominator = h.denominator;
  wide = h.wide;
}

value_on : {InPlay Also : Rational → Affine → Type 0} {from to end : Rational} (p : Affine) (u : Rational) (den : ℕ) → to ≤ʳ end
    → IsWideValue InPlay from to p u den → ((tau : Rational) (line : Affine) → InPlay tau line → Also tau line) → IsWideValue Also from end p u den
value_on p u den longer h play = record {
  tau = h.tau;
  after_start = h.after_start;
  before_stop = lt_of_lt_of_le h.before_stop longer;
  value = h.value;
  is_value = h.is_value;
  line = h.line;
  constant = h.constant;
  in_play = play h.tau h.line h.in_play;
  denominator = h.denominator;
  wide = h.wide;
}

-- a cause among nodes
abbrev Cause : List Node → Trace → ℕ → ℕ → Type 0
Cause nodes tr i den =
    ((p q : Affine) × (a b : Rational) × IsCrossingCause nodes (margin_setting tr) i p q a b den)
    ⊎ ((p : Affine) × (u : Rational) × IsValueCause nodes (margin_setting tr) i p u den)

-- no time lies strictly inside a domain that is one time
no_room : (t tau : Rational) → t <ʳ tau → tau <ʳ t → ⊥
no_room t tau a b = lt_irrefl (lt_trans a b)

-- at some rows
by_rows : (nodes : List Node) (i den : ℕ) → IsTop (subformula nodes i) → (header : Header) (rows more : List Row)
    → IsTrace (record { header = header; rows = rows ++ more }) → IsNeededByThen nodes (record { header = header; rows = rows }) false i den
    → Cause nodes (record { header = header; rows = rows ++ more }) i den
by_rows nodes i den top header [] more ok (inl (p, q, a, b, h)) = absurd (no_room _ h.tau h.after_start h.before_stop)
by_rows nodes i den top header [] more ok (inr (p, u, inl h)) = absurd (no_room _ h.tau h.after_start h.before_stop)
by_rows nodes i den top header [] more ok (inr (p, u, inr (e, h))) = absurd (no_room _ h.tau h.after_start h.before_stop)
by_rows nodes i den top header (r ∷ []) more ok (inl (p, q, a, b, h)) = absurd (no_room _ h.tau h.after_start h.before_stop)
by_rows nodes i den top header (r ∷ []) more ok (inr (p, u, inl h)) = absurd (no_room _ h.tau h.after_start h.before_stop)
by_rows nodes i den top header (r ∷ []) more ok (inr (p, u, inr (e, h))) = absurd (no_room _ h.tau h.after_start h.before_stop)
by_rows nodes i den top header (r ∷ s ∷ rest) more ok (inl (p, q, a, b, h)) =
    let longer = further header (length header.columns) r s rest more ok.rows.1 in
    inl (
      p,
      q,
      a,
      b,
      crossing_on p q a b den longer h
          (λ tau line k. in_play header (length header.columns) r s rest more ok.rows.1 (subformula nodes i) top tau line k.1 k.0),
    )
by_rows nodes i den top header (r ∷ s ∷ rest) more ok (inr (p, u, inl h)) =
    let longer = further header (length header.columns) r s rest more ok.rows.1 in
    inr (
      p,
      u,
      value_on p u den longer h
          (λ tau line k. in_play header (length header.columns) r s rest more ok.rows.1 (subformula nodes i) top tau line k.1 k.0),
    )
by_rows nodes i den top header (r ∷ s ∷ rest) more ok (inr (p, u, inr (e, h))) =
    let longer = further header (length header.columns) r s rest more ok.rows.1 in
    inr (
      p,
      u,
      value_on p u den longer h
          (λ tau line k. in_play_settled header (length header.columns) r s rest more ok.rows.1 (subformula nodes i) tau line k),
    )

-- at the end of the rows
by_end : (nodes : List Node) (i den : ℕ) (tr : Trace) → IsNeededByThen nodes tr true i den → Cause nodes tr i den
by_end nodes i den tr (inl (p, q, a, b, h)) = inl (p, q, a, b, crossing_on p q a b den (le_refl (stop tr)) h (λ tau line k. k.0))
by_end nodes i den tr (inr (p, u, inl h)) = inr (p, u, value_on p u den (le_refl (stop tr)) h (λ tau line k. k.0))
by_end nodes i den tr (inr (p, u, inr (e, h))) =
    absurd (no_room (start tr) h.tau h.after_start (lt_of_lt_of_le h.before_stop (le_of_same e)))

-- the trace that goes on
going_on : (header : Header) (rows : List Row) (tr : Trace) (ended : Bool) (c : Continues tr header rows ended)
    → tr ≡ record { header = header; rows = rows ++ c.more }
going_on header rows tr ended c =
    ap (λ h. record { header = h; rows = tr.rows }) c.same_header ∙ ap (λ x. record { header = header; rows = x }) c.begins

-- what rows need is needed over each trace that goes on from them
pub by_cause : {f : Formula} {header : Header} {ended : Bool} {rows : List Row} {i den : ℕ} {text : List ℕ} → HasStream margins f
    → IsWideRows f header ended rows i den text → (tr : Trace) → IsTrace tr → Continues tr header rows ended → HasCause f tr i den
by_cause {f} {header} has (at_row before r {i = i} {den = den} cause told) tr ok c =
    let nodes = (scaled f header.scale).nodes in
    let same = going_on header (before ++ r ∷ []) tr false c in
    subst (λ (t : Trace). HasCause f t i den) (sym same)
    (by_rows nodes i den (top_node nodes i (stream_scaled margins f header.scale has)) header (before ++ r ∷ []) c.more
    (subst (λ (t : Trace). IsTrace t) same ok) cause)
by_cause {f} {header} has (at_end {rows = rows} {i = i} {den = den} cause told) tr ok c =
    let nodes = (scaled f header.scale).nodes in
    let same = going_on header rows tr true c ∙ ap (λ l. record { header = header; rows = l }) (ap (λ l. rows ++ l) (c.whole_input refl) ∙ append-nil rows) in
    subst (λ (t : Trace). HasCause f t i den) (sym same) (by_end nodes i den (record { header = header; rows = rows }) cause)

-- a Wide of a stream is one of the whole
pub streamed_wides_are_whole : StreamedWidesAreWhole
streamed_wides_are_whole f header rows ended i den text has w tr ok c = by_cause has w tr ok c
