-- What an edge must hold of the parts of a node is what is left when those that end too early are dropped from the front.
use Rattle.std.proofs.Common.{◌≡◌, ◌⊎◌, inl, inr, ℕ, suc, zero, Bool, true, false, List, [], ◌∷◌, drop, refl}
use Rattle.std.proofs.Common.{sym, ap, subst, ◌∙◌, arith, Option, Some, None, ℤ, pos, ◌+ℤ◌, ◌≤ℤ◌, take}
use Rattle.std.specs.Prelude.{MatchBool, IfSome, int_lt, cond, map, slice_get}
use Rattle.rational.specs.Rational.{middle}
use Rattle.rational.specs.Time.{Rational, Interval, IsIn, closed, left_open, whole, ◌≤ʳ◌, ◌<ʳ◌}
use Rattle.rational.specs.Windows.{Function}
use Rattle.rational.proofs.Order.{le_of_lt, le_of_same, ge_of_same, le_or_lt, le_trans, left_of_middle}
use Rattle.rational.proofs.Order.{right_of_middle, lt_of_le_of_lt, lt_of_lt_of_le, lt_trans, not_lt_of_le}
use Rattle.rational.proofs.Shift.{le_whole}
use Rattle.rational.proofs.Lists.{drop_none}
use Rattle.rational.proofs.Tests.{int_order}
use Rattle.frac128.specs.Value.{value}
use Rattle.stl_syntax.specs.Formula.{subformula}
use Rattle.stl_syntax.specs.Trace.{Header, IsTrace, first_time, last_time}
use Rattle.stl_syntax.specs.SupInf.{Robustness}
use Rattle.stl_syntax.specs.Limits.{reach}
use Rattle.stl_syntax.specs.declared.node.Node.{Node}
use Rattle.online_nodes.specs.MarginEdges.{AreTouching, IsMarginEdge, shown_number}
use Rattle.online_nodes.specs.Network.{reach_back, needed}
use Rattle.online_nodes.specs.Needed.{IsReader}
use Rattle.online_nodes.specs.StreamedWide.{front_at}
use Rattle.online_robust.specs.Lines.{end_of}
use Rattle.online_robust.specs.Told.{AreTold, AreJoined}
use Rattle.frac128.specs.declared.frac.Frac.{Frac}
use Rattle.value_laws.specs.declared.margin.Margin.{Margin}
use Rattle.online_robust.specs.Steps.{AreInputs, AreLeft, back_of}
use Rattle.online_robust.specs.Pasts.{Past, trace_of, part_of, shown_of, Gave, IsRest}
use Rattle.online_robust.specs.declared.line.MarginLine.{MarginLine}
use Rattle.online_robust.specs.declared.line.MarginLine.TheVariants.{Point, Gap}
use Rattle.online_robust.proofs.GivenOutGrows.{itself}
use Rattle.online_robust.proofs.LinesLeft.{EndBy}
use Rattle.online_robust.proofs.RowFacts.{told_here, shown_here}
use Rattle.online_robust.proofs.JoinedLemmas.{joined_to}

-- a time after two others and before a third
between : (a b c : Rational) → a <ʳ c → b <ʳ c → (t : Rational) × (a <ʳ t) × (b <ʳ t) × (t <ʳ c)
between a b c l m = elim (le_or_lt a b) [
  | inl le ↦ (middle b c, lt_of_le_of_lt le (left_of_middle m), left_of_middle m, right_of_middle m)
  | inr lt ↦ (middle a c, left_of_middle l, lt_trans lt (left_of_middle l), right_of_middle l)
]

-- a stretch that all times after some time, up to another, lie in
abbrev Holds : Interval → Rational → Rational → Type 0
Holds stretch after to = (t : Rational) → after <ʳ t → t ≤ʳ to → IsIn stretch t

-- lines that end after the beginning of the stretch touch it
touch_later : (F : Function) (stretch : Interval) (after from to : Rational) (lines : List MarginLine) → Holds stretch after to → AreTold F lines
    → AreJoined from to lines → IfSome (slice_get lines 0) (λ x. after <ʳ value (end_of x)) → AreTouching stretch (map part_of lines) (map part_of lines)
touch_later F stretch after from to [] holds told joined first = refl
touch_later F stretch after from to (Gap a b p ∷ []) holds told joined first = absurd joined
touch_later F stretch after from to (Gap a b p ∷ Gap c d q ∷ lines) holds told joined first = absurd joined
touch_later F stretch after from to (Gap a b p ∷ Point u v ∷ lines) holds told joined first =
    let top : value u ≤ʳ to = joined_to (value u) to F lines told.1.1 joined.2 in
    let end : value b ≤ʳ to = le_trans (le_of_same joined.1) top in
    let (t, low, mid, high) = between (value a) after (value b) told.0.0 first in
    let later : after <ʳ value u = lt_of_lt_of_le first (le_of_same joined.1) in
    inl (
      (t, low, high, holds t mid (le_trans (le_of_lt high) end)),
      (
        map part_of (Point u v ∷ lines),
        inl (
          holds (value u) later top,
          (
            map part_of lines,
            touch_later F stretch after (value u) to lines holds told.1.1 joined.2 (next (value u) lines later told.1.1 joined.2),
            refl,
          ),
        ),
        refl,
      ),
    )
  where
    next : (u : Rational) (lines : List MarginLine) → after <ʳ u → AreTold F lines → AreJoined u to lines
        → IfSome (slice_get lines 0) (λ x. after <ʳ value (end_of x))
    next u [] later told joined = tt
    next u (Gap a b p ∷ []) later told joined = absurd joined
    next u (Gap a b p ∷ Gap c d q ∷ lines) later told joined = absurd joined
    next u (Gap a b p ∷ Point w v ∷ lines) later told joined = lt_trans later (lt_of_le_of_lt (ge_of_same joined.0) told.0.0)
    next u (Point w v ∷ lines) later told joined = absurd joined
touch_later F stretch after from to (Point u v ∷ lines) holds told joined first = absurd joined

-- of joined lines those that are left touch what follows the limit
touch_rest : (F : Function) (limit from to : Rational) (lines : List MarginLine) (n : ℕ) → AreTold F lines → AreJoined from to lines → EndBy limit n lines
    → IfSome (slice_get (drop n lines) 0) (λ x. limit <ʳ value (end_of x)) → AreTouching (left_open limit to) (map part_of lines) (map part_of (drop n lines))
touch_rest F limit from to lines zero told joined ended rest =
    touch_later F (left_open limit to) limit from to lines (λ t low high. record { above = low; below = high }) told joined rest
touch_rest F limit from to [] (suc n) told joined ended rest = refl
touch_rest F limit from to (Gap a b p ∷ []) (suc n) told joined ended rest = absurd joined
touch_rest F limit from to (Gap a b p ∷ Gap c d q ∷ lines) (suc n) told joined ended rest = absurd joined
touch_rest F limit from to (Gap a b p ∷ Point u v ∷ lines) (suc zero) told joined ended rest =
    absurd (not_lt_of_le (le_trans (ge_of_same joined.1) (ended 0 (omega arith))) rest)
touch_rest F limit from to (Gap a b p ∷ Point u v ∷ lines) (suc (suc n)) told joined ended rest =
    inr (
      λ (t, low, high, inside). not_lt_of_le (le_trans (le_of_lt high) (ended 0 (omega arith))) inside.above,
      inr (
        λ inside. not_lt_of_le (ended 1 (omega arith)) inside.above,
        touch_rest F limit (value u) to lines n told.1.1 joined.2 (λ k h. ended (suc (suc k)) (omega (arith, h))) rest,
      ),
    )
touch_rest F limit from to (Point u v ∷ lines) (suc n) told joined ended rest = absurd joined

module _ (F : Function) (most start : ℕ) (f : ℤ) where
  -- all lines from the start on touch what goes from the start on
  all_touch : (lines : List MarginLine) → AreInputs F most start None f lines
      → AreTouching (closed (whole (pos start)) (whole f)) (map part_of lines) (map part_of lines)
  all_touch lines inputs = by_left inputs.left
    where
      first : (u : Rational) (lines : List MarginLine) → AreTold F lines → AreJoined u (whole f) lines → IfSome (slice_get lines 0) (λ x. u <ʳ value (end_of x))
      first u [] told joined = tt
      first u (Gap a b p ∷ []) told joined = absurd joined
      first u (Gap a b p ∷ Gap c d q ∷ lines) told joined = absurd joined
      first u (Gap a b p ∷ Point w v ∷ lines) told joined = lt_of_le_of_lt (ge_of_same joined.0) told.0.0
      first u (Point w v ∷ lines) told joined = absurd joined

      by_left : AreLeft start None f lines → AreTouching (closed (whole (pos start)) (whole f)) (map part_of lines) (map part_of lines)
      by_left (at, v, rest, is, begins, joined) =
          let told : AreTold F (Point at v ∷ rest) = subst (AreTold F) is inputs.told in
          let top : value at ≤ʳ whole f = joined_to (value at) (whole f) F rest told.1 joined in
          subst (λ l. AreTouching (closed (whole (pos start)) (whole f)) (map part_of l) (map part_of l)) (sym is)
          (inl (
            record { above = ge_of_same begins; below = top },
            (
              map part_of rest,
              touch_later F (closed (whole (pos start)) (whole f)) (value at) (value at) (whole f) rest
                  (λ t low high. record { above = le_trans (ge_of_same begins) (le_of_lt low); below = high }) told.1 joined
                  (first (value at) rest told.1 joined),
              refl,
            ),
          ))

  -- those that are left touch what follows the limit
  rest_touch : (limit : ℤ) (lines held : List MarginLine) → pos start ≤ℤ limit → AreInputs F most start None f lines → IsRest (Some limit) lines held
      → AreTouching (left_open (whole limit) (whole f)) (map part_of lines) (map part_of held)
  rest_touch limit lines held le inputs (n, e, ended, later) = by_left inputs.left
    where
      by_count : (at : Frac) (v : Margin) (rest : List MarginLine) → lines ≡ Point at v ∷ rest → value at ≤ʳ whole limit
          → AreJoined (value at) (whole f) rest → (n : ℕ)
          → held ≡ drop n lines → EndBy (whole limit) n lines
          → AreTouching (left_open (whole limit) (whole f)) (map part_of (Point at v ∷ rest)) (map part_of held)
      by_count at v rest is low joined zero e ended =
          let first : IfSome (slice_get (Point at v ∷ rest) 0) (λ x. whole limit <ʳ value (end_of x)) =
          subst (λ l. IfSome (slice_get l 0) (λ x. whole limit <ʳ value (end_of x))) (e ∙ is) later in
          absurd (not_lt_of_le low first)
      by_count at v rest is low joined (suc n) e ended =
          let same : held ≡ drop n rest = e ∙ ap (drop (suc n)) is in
          let all : EndBy (whole limit) (suc n) (Point at v ∷ rest) = subst (EndBy (whole limit) (suc n)) is ended in
          let told : AreTold F (Point at v ∷ rest) = subst (AreTold F) is inputs.told in
          subst (λ l. AreTouching (left_open (whole limit) (whole f)) (map part_of (Point at v ∷ rest)) (map part_of l)) (sym same)
          (inr (
            λ inside. not_lt_of_le low inside.above,
            touch_rest F (whole limit) (value at) (whole f) rest n told.1 joined (λ k h. all (suc k) (omega (arith, h)))
                (subst (λ l. IfSome (slice_get l 0) (λ x. whole limit <ʳ value (end_of x))) same later),
          ))

      by_left : AreLeft start None f lines → AreTouching (left_open (whole limit) (whole f)) (map part_of lines) (map part_of held)
      by_left (at, v, rest, is, begins, joined) =
          subst (λ l. AreTouching (left_open (whole limit) (whole f)) (map part_of l) (map part_of held)) (sym is)
          (by_count at v rest is (le_trans (le_of_same begins) (le_whole le)) joined n e ended)

  -- what is left touches what the reader needs
  needed_touch : (g k : ℤ) (lines held : List MarginLine) → AreInputs F most start None f lines → IsRest (back_of start (shown_number start g) k) lines held
      → AreTouching (needed start f (Some g) k) (map part_of lines) (map part_of held)
  needed_touch g k lines held inputs rest = by_tests (int_lt g (pos start)) (int_lt (g +ℤ k) (pos start)) refl rest
    where
      by_tests : (a b : Bool) → int_lt (g +ℤ k) (pos start) ≡ b
          → IsRest (back_of start (cond a None (Some g)) k) lines held
          → AreTouching (cond a (closed (whole (pos start)) (whole f)) (cond b (closed (whole (pos start)) (whole f)) (left_open (whole (g +ℤ k)) (whole f))))
          (map part_of lines) (map part_of held)
      by_tests true b e rest =
          subst (λ l. AreTouching (closed (whole (pos start)) (whole f)) (map part_of lines) (map part_of l)) (sym rest) (all_touch lines inputs)
      by_tests false true e rest =
          let same : held ≡ lines = subst (λ b. IsRest (cond b None (Some (g +ℤ k))) lines held) e rest in
          subst (λ l. AreTouching (closed (whole (pos start)) (whole f)) (map part_of lines) (map part_of l)) (sym same) (all_touch lines inputs)
      by_tests false false e rest =
          let left : IsRest (Some (g +ℤ k)) lines held = subst (λ b. IsRest (cond b None (Some (g +ℤ k))) lines held) e rest in
          rest_touch (g +ℤ k) lines held (int_order (g +ℤ k) (pos start) false e) inputs left

-- an edge of the network, where a row has come
module _ (nodes : List Node) (header : Header) (past : Past) (is : IsTrace (trace_of header past)) (j r : ℕ) (n : Node) (left : Bool)
    (found : slice_get nodes r ≡ Some n) (reads : IsReader n left j) (held lines : List MarginLine) (gave : Gave nodes header past j lines)
    (rest : IsRest (back_of (first_time past.rows) (shown_of nodes past r) (reach_back n left)) lines held) where
  abbrev own : ℤ
  own = front_at past.ended (pos (last_time 0 past.rows)) (subformula nodes j)

  abbrev its : ℤ
  its = front_at past.ended (pos (last_time 0 past.rows)) (subformula nodes r)

  none_left : (back : Option ℤ) → lines ≡ [] → IsRest back lines held → held ≡ []
  none_left None e is = is ∙ e
  none_left (Some limit) e is = is.1 ∙ drop_none is.0 lines e

  abbrev IsNeededOf : Type 0
  IsNeededOf =
      ((map part_of lines ≡ []) × (map part_of held ≡ []))
      ⊎ AreTouching (needed (first_time past.rows) own (Some its) (reach_back n left)) (map part_of lines) (map part_of held)

  needed_by : (b : Bool) → MatchBool b (lines ≡ [])
      (AreInputs (Robustness (subformula nodes j) (trace_of header past)) (reach (take (suc j) nodes)) (first_time past.rows) None own lines) → IsNeededOf
  needed_by true e =
      inl (ap (map part_of) e, ap (map part_of) (none_left (back_of (first_time past.rows) (shown_of nodes past r) (reach_back n left)) e rest))
  needed_by false inputs =
      inr (needed_touch (Robustness (subformula nodes j) (trace_of header past)) (reach (take (suc j) nodes))
      (first_time past.rows) own its (reach_back n left) lines held inputs
      (subst (λ o. IsRest (back_of (first_time past.rows) o (reach_back n left)) lines held)
      (shown_here header (subformula nodes r) past.ended past.rows is) rest))

  -- the edge holds what its reader may need
  pub margin_edge : IsMarginEdge nodes header past.rows past.ended j (map part_of held)
  margin_edge = record {
    reader = r;
    reading = n;
    left = left;
    at_reader = found;
    reads = reads;
    emitted = map part_of lines;
    is_emitted = gave.parts;
    is_needed = needed_by (int_lt own (pos (first_time past.rows)))
        (told_here header nodes past.ended j past.rows lines is gave.told (trace_of header past) is (itself (trace_of header past) past.ended));
  }
