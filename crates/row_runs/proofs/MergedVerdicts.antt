-- Verdicts of which neighbours of one truth are merged: behind one another, and without those that end by a time.
use Rattle.std.proofs.Common.{◌≡◌, inl, inr, refl, sym, ap, subst, ◌∙◌, ℕ, Bool, true, false, cond, Some, None, List, [], ◌∷◌, ◌++◌}
use Rattle.std.proofs.Common.{ℤ, pos, ◌+ℤ◌, append_assoc}
use Rattle.std.specs.Prelude.{int_lt}
use Rattle.rational.specs.Time.{Rational, ◌≤ʳ◌, whole, less, Interval, closed, left_open}
use Rattle.rational.specs.Places.{Place, begins, ends}
use Rattle.rational.proofs.Order.{le_trans, le_of_same, le_or_lt}
use Rattle.rational.proofs.TimeLemmas.{less_in, less_no}
use Rattle.rational.specs.Places.{Same}
use Rattle.rational.proofs.PlaceLemmas.{le_of_before, same_trans_places}
use Rattle.frac128.specs.Spans.{interval}
use Rattle.frac128.specs.Value.{value}
use Rattle.stl_syntax.specs.declared.items.Verdict.{Verdict}
use Rattle.online_nodes.specs.Network.{Front, needed}
use Rattle.online_nodes.specs.Needed.{AreMeeting, AreNeeded}
use Rattle.online_nodes.specs.Held.{AreStretches, IsJoined, as_given, joined}
use Rattle.online_nodes.specs.Laws.{AreTiles, answered_to, beyond, IsWhole}
use Rattle.online_nodes.proofs.EmittedLaw.{tiles_append}
use Rattle.online_nodes.proofs.HeldLaw.{not_met, meeting_is_suffix}
use Rattle.online_nodes.proofs.MeetingLaw.{one_meeting, needed_first}
use Rattle.online_nodes.proofs.RunLaw.{none_is_none}
use Rattle.agreeing.specs.Joined.{AreJoined, HaveTruth}
use Rattle.row_runs.specs.RowByRow.{AreMerged, AreMergedOn, AreMergedFor}

-- parts that are joined are merged
pub merged_of_joined : (parts vs : List Verdict) → AreJoined parts vs → AreMerged parts vs
merged_of_joined parts [] h = h
merged_of_joined parts (v ∷ vs) (run, others, is, leads, truth, other, rest) = (run, others, is, leads, truth, merged_of_joined others vs rest)

-- and others behind them
pub merged_append : (a vs b ws : List Verdict) → AreMerged a vs → AreMerged b ws → AreMerged (a ++ b) (vs ++ ws)
merged_append a [] b ws h k = subst (λ l. AreMerged (l ++ b) ws) (sym h) k
merged_append a (v ∷ vs) b ws (run, others, is, leads, truth, rest) k =
    (run, others ++ b, ap (λ l. l ++ b) is ∙ append_assoc run others b, leads, truth, merged_append others vs b ws rest k)

-- ---- neighbours that are joined

-- tiles lead on from the same place
tiles_from : (c d : Place) (vs : List Verdict) (e : Place) → Same c d → AreTiles d vs e → AreTiles c vs e
tiles_from c d [] e s t = same_trans_places s t
tiles_from c d (v ∷ vs) e s (t, b, rest) = (same_trans_places s t, b, rest)

truth_append : (holds : Bool) (xs ys : List Verdict) → HaveTruth holds xs → HaveTruth holds ys → HaveTruth holds (xs ++ ys)
truth_append holds [] ys h k = k
truth_append holds (x ∷ xs) ys (is, h) k = (is, truth_append holds xs ys h k)

-- where parts are merged, and two neighbours of what they make are joined, they are merged
one_joined : {v w u : Verdict} → IsJoined v w u → (front back parts : List Verdict) → AreMerged parts (front ++ v ∷ w ∷ back)
    → AreMerged parts (front ++ u ∷ back)
one_joined {v} {w} {u} j [] back parts (run, others, is, leads, truth, (more, rest, next, on, same, last)) = (
  run ++ more,
  rest,
  is ∙ ap (λ l. run ++ l) next ∙ sym (append_assoc run more rest),
  subst (λ c. AreTiles c (run ++ more) (ends (interval u.on))) (sym j.begin)
      (subst (λ d. AreTiles (begins (interval v.on)) (run ++ more) d) (sym j.end)
      (tiles_append (begins (interval v.on)) run (ends (interval v.on)) more (ends (interval w.on)) leads
      (tiles_from (ends (interval v.on)) (begins (interval w.on)) more (ends (interval w.on)) j.goes_on.touch on))),
  truth_append u.holds run more (subst (λ b. HaveTruth b run) (sym j.holds) truth)
      (subst (λ b. HaveTruth b more) (j.goes_on.alike ∙ sym j.holds) same),
  last,
)
one_joined j (x ∷ front) back parts (run, others, is, leads, truth, rest) = (run, others, is, leads, truth, one_joined j front back others rest)

-- and where any neighbours are
pub merged_stretches : {stretches vs : List Verdict} → AreStretches stretches vs → (parts : List Verdict) → AreMerged parts vs
    → AreMerged parts stretches
merged_stretches as_given parts h = h
merged_stretches (joined front back j rest) parts h = merged_stretches rest parts (one_joined j front back parts h)

-- ---- without those that end by a time

-- tiles do not lead back
tiles_le : (c : Place) (vs : List Verdict) (d : Place) → AreTiles c vs d → c.at ≤ʳ d.at
tiles_le c [] d s = le_of_same s.0
tiles_le c (v ∷ vs) d (s, b, rest) =
    le_trans (le_of_same s.0) (le_trans (le_of_before (begins (interval v.on)) (ends (interval v.on)) b) (tiles_le (ends (interval v.on)) vs d rest))

-- those that lead up to a place by lo are gone beyond it
all_gone : (lo : Rational) (c : Place) (run : List Verdict) (d : Place) (others : List Verdict) → AreTiles c run d → d.at ≤ʳ lo
    → beyond lo (run ++ others) ≡ beyond lo others
all_gone lo c [] d others t l = refl
all_gone lo c (v ∷ run) d others (s, b, rest) l =
    ap (λ t. cond t (v ∷ (run ++ others)) (beyond lo (run ++ others))) (less_no lo (value v.on.to) (le_trans (tiles_le (ends (interval v.on)) run d rest) l))
    ∙ all_gone lo (ends (interval v.on)) run d others rest l

-- a verdict that does not end behind lo ends by it
ends_by : (lo : Rational) (v : Verdict) → less lo (value v.on.to) ≡ false → value v.on.to ≤ʳ lo
ends_by lo v e = elim (le_or_lt (value v.on.to) lo) [
  | inl k ↦ k
  | inr k ↦ absurd (let x : true ≡ false = sym (less_in lo (value v.on.to) k) ∙ e in cc)
]

-- what is gone beyond lo does not meet what follows it
record Gone (lo f : Rational) (vs : List Verdict) : Type 0 where
  gone : List Verdict
  before : AreMeeting (left_open lo f) gone []
  is : vs ≡ gone ++ beyond lo vs

gone_of : (lo f : Rational) (vs : List Verdict) → Gone lo f vs
gone_of lo f [] = record { gone = []; before = refl; is = refl }
gone_of lo f (v ∷ vs) = by_test (gone_of lo f vs) (less lo (value v.on.to)) refl
  where
    by_test : Gone lo f vs → (t : Bool) → less lo (value v.on.to) ≡ t → Gone lo f (v ∷ vs)
    by_test g true e = record { gone = []; before = refl; is = ap (λ t. cond t (v ∷ vs) (beyond lo vs)) (sym e) }
    by_test g false e = record {
      gone = v ∷ g.gone;
      before = inr (not_met lo f v (ends_by lo v e), g.before);
      is = ap (λ l. v ∷ l) g.is ∙ ap (λ l. (v ∷ g.gone) ++ l) (ap (λ t. cond t (v ∷ vs) (beyond lo vs)) (sym e));
    }

-- what is left beyond lo of parts, and of the same merged
merged_beyond : (lo f : Rational) (parts vs : List Verdict) → AreMerged parts vs → AreMergedOn (left_open lo f) (beyond lo parts) (beyond lo vs)
merged_beyond lo f parts [] h =
    subst (λ l. AreMergedOn (left_open lo f) (beyond lo l) []) (sym h) (record { gone = []; before = refl; merged = refl })
merged_beyond lo f parts (v ∷ vs) (run, others, is, leads, truth, rest) = by_test (merged_beyond lo f others vs rest) (less lo (value v.on.to)) refl
  where
    by_test : AreMergedOn (left_open lo f) (beyond lo others) (beyond lo vs) → (t : Bool) → less lo (value v.on.to) ≡ t
        → AreMergedOn (left_open lo f) (beyond lo parts) (cond (less lo (value v.on.to)) (v ∷ vs) (beyond lo vs))
    by_test more true e =
        let g = gone_of lo f parts in
        subst (λ t. AreMergedOn (left_open lo f) (beyond lo parts) (cond t (v ∷ vs) (beyond lo vs))) (sym e)
        (record { gone = g.gone; before = g.before; merged = subst (λ l. AreMerged l (v ∷ vs)) g.is (run, others, is, leads, truth, rest) })
    by_test more false e =
        subst (λ t. AreMergedOn (left_open lo f) (beyond lo parts) (cond t (v ∷ vs) (beyond lo vs))) (sym e)
        (subst (λ l. AreMergedOn (left_open lo f) l (beyond lo vs))
        (sym (ap (beyond lo) is ∙ all_gone lo (begins (interval v.on)) run (ends (interval v.on)) others leads (ends_by lo v e))) more)

-- of parts, and of the same merged, what a reader needs
pub record NeededOf (start : ℕ) (shown reader : Front) (k : ℤ) (parts held : List Verdict) : Type 0 where
  -- of the parts
  pub some : List Verdict
  -- they are needed
  pub needed_is : AreNeeded start shown reader k parts some
  -- and the others are they, merged
  pub merged : AreMergedFor start shown reader k some held

-- what a reader needs of verdicts that are parts merged is what it needs of the parts, merged
pub needed_of : (start : ℕ) (shown reader : Front) (k : ℤ) (parts vs held : List Verdict) → IsWhole start shown parts → IsWhole start shown vs
    → AreMerged parts vs → AreNeeded start shown reader k vs held → NeededOf start shown reader k parts held
needed_of start None reader k parts vs held tiles others merged h = record { some = []; needed_is = refl; merged = (refl, h) }
needed_of start (Some f) reader k parts vs held tiles others merged h = by_reader reader h
  where
    -- of what meets a stretch
    Claim : Interval → Type 0
    Claim stretch = AreMeeting stretch vs held → (some : List Verdict) × AreMeeting stretch parts some × AreMergedOn stretch some held

    all : (xs : List Verdict) → IsWhole start (Some f) xs → AreMeeting (closed (whole (pos start)) (whole f)) xs xs
    all xs t = needed_first start f None (pos 0) xs (λ g e. absurd (none_is_none g e)) t

    from_start : Claim (closed (whole (pos start)) (whole f))
    from_start m = (
      parts,
      all parts tiles,
      record {
        gone = [];
        before = refl;
        merged = subst (λ l. AreMerged parts l) (one_meeting (closed (whole (pos start)) (whole f)) vs vs held (all vs others) m) merged;
      },
    )

    from_later : (lo : Rational) → Claim (left_open lo (whole f))
    from_later lo m = (
      beyond lo parts,
      meeting_is_suffix lo (whole f) (answered_to start None) parts (answered_to start (Some f)) tiles (λ t u. u),
      subst (λ l. AreMergedOn (left_open lo (whole f)) (beyond lo parts) l)
          (one_meeting (left_open lo (whole f)) vs (beyond lo vs) held
          (meeting_is_suffix lo (whole f) (answered_to start None) vs (answered_to start (Some f)) others (λ t u. u)) m)
          (merged_beyond lo (whole f) parts vs merged),
    )

    by_low : (t u : Bool) (lo : Rational)
        → Claim (cond t (closed (whole (pos start)) (whole f)) (cond u (closed (whole (pos start)) (whole f)) (left_open lo (whole f))))
    by_low true u lo = from_start
    by_low false true lo = from_start
    by_low false false lo = from_later lo

    claimed : (o : Front) → (some : List Verdict) × AreMeeting (needed start f o k) parts some × AreMergedOn (needed start f o k) some held
        → NeededOf start (Some f) o k parts held
    claimed o (some, meets, on) = record { some = some; needed_is = meets; merged = on }

    by_reader : (o : Front) → AreNeeded start (Some f) o k vs held → NeededOf start (Some f) o k parts held
    by_reader None m = claimed None (from_start m)
    by_reader (Some g) m = claimed (Some g) (by_low (int_lt g (pos start)) (int_lt (g +ℤ k) (pos start)) (whole (g +ℤ k)) m)
