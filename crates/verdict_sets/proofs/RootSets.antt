-- What the stretches of the root's set tell of the formula: their verdicts describe it, and their lines are the answer of `check`.
use Rattle.std.proofs.Common.{◌≡◌, ◌≢◌, inl, inr, ℕ, suc, ◌+◌, Bool, true, false, not, List, [], ◌∷◌, ◌++◌, length, Some}
use Rattle.std.proofs.Common.{refl, sym, ap, ◌∙◌, subst, arith}
use Rattle.std.specs.Prelude.{◌↔◌, slice_get, MatchBool, IsTrue}
use Rattle.std.proofs.lemmas.List.{get_or_past}
use Rattle.rational.specs.Time.{Rational, ◌≤ʳ◌, ◌<ʳ◌, closed, Interval, BeginAlike, EndAlike, Touch}
use Rattle.rational.specs.Places.{Place, Same, Before, After, Upto, begins, ends}
use Rattle.rational.proofs.Order.{same_sym, le_refl, le_of_lt, le_of_same}
use Rattle.rational.proofs.PlaceLemmas.{after_same, upto_same, same_places, same_trans_places, same_before, before_same, between, after_later}
use Rattle.frac128.specs.Spans.{interval}
use Rattle.time_sets.specs.Turns.{place}
use Rattle.time_sets.specs.Sets.{has}
use Rattle.time_sets.specs.Spans.{border}
use Rattle.time_sets.specs.Windows.{Lies}
use Rattle.time_sets.specs.declared.spans.Span.{Span as Stretch}
use Rattle.time_sets.specs.declared.turn.Turn.{Turn}
use Rattle.stl_syntax.specs.Formula.{Formula, Subformula, root}
use Rattle.stl_syntax.specs.Trace.{Trace, start, stop}
use Rattle.stl_syntax.specs.Truth.{Truth}
use Rattle.stl_syntax.specs.Texts.{AreVerdictLines, IsStartLine, start_line}
use Rattle.stl_syntax.specs.Verdicts.{Describes, GoesOn, IsTold}
use Rattle.stl_syntax.specs.declared.items.Verdict.{Verdict}
use Rattle.stl_syntax.specs.declared.node.Node.{Node}
use Rattle.online_nodes.proofs.ToldSoFar.{in_after, in_upto, some_in}
use Rattle.truth_sets.specs.Standing.{TellsRoot}
use Rattle.truth_sets.specs.declared.growing.Judged.{Judged}
use Rattle.trace_stream.specs.Cases.{IsCase}
use Rattle.trace_stream.specs.declared.case.Case.{Case}
use Rattle.verdict_sets.specs.Telling.{IsStretch, IsVerdictAt, AreVerdictsFrom, AreLinesFrom, IsFirstTruth, IsCheckAnswer}

-- a truth by its test
by_test : (b : Bool) {P : Type 0} → IsTrue b ↔ P → MatchBool b P (¬ P)
by_test true e = e.0 refl
by_test false e = λ p. absurd (let k = e.1 p in cc)

turned : (b : Bool) → b ≡ not b → ⊥
turned true e = cc
turned false e = cc

opposite : (b : Bool) → not b ≡ false → b ≡ true
opposite true e = refl
opposite false e = absurd (let k : true ≡ false = e in cc)

module _ (j : Judged) (tr : Trace) (p : Subformula) where
  -- the truth at a time of a stretch
  at_time : ((t : Rational) → Lies j.on t → IsTrue (has j.times t) ↔ Truth p tr t) → (n : ℕ) (d : Stretch) → IsStretch j n d → (t : Rational)
      → After (place d.from) t → Upto (place d.to) t → MatchBool d.holds (Truth p tr t) (¬ Truth p tr t)
  at_time tells n d at t after upto =
      subst (λ b. MatchBool b (Truth p tr t) (¬ Truth p tr t)) (at.longest.holds t after upto)
      (by_test (has j.times t) (tells t (at.longest.within t after upto)))

module _ (nodes : List Node) (j : Judged) (tr : Trace) (told : TellsRoot nodes tr j) where
  abbrev p : Subformula
  p = root nodes

  abbrev whole : Interval
  whole = closed (start tr) (stop tr)

  -- the verdict of a stretch is told
  is_told : (n : ℕ) (v : Verdict) → IsVerdictAt j n v → IsTold p tr v
  is_told n v a = record {
    not_empty = some_in (interval v.on) (same_before _ _ _ a.is.from (before_same _ _ _ a.at.longest.order (same_places a.is.to)));
    truth = λ t l. subst (λ b. MatchBool b (Truth p tr t) (¬ Truth p tr t)) (sym a.is.holds)
        (at_time j tr p told.told.times n a.stretch a.at t
        (after_same (begins (interval v.on)) (place a.stretch.from) t a.is.from (in_after (interval v.on) t l))
        (upto_same (ends (interval v.on)) (place a.stretch.to) t a.is.to (in_upto (interval v.on) t l)));
  }

  -- where the one ends, the next begins
  meet : (n : ℕ) (v w : Verdict) (a : IsVerdictAt j n v) (b : IsVerdictAt j (n + 1) w) → Same (ends (interval v.on)) (begins (interval w.on))
  meet n v w a b =
      same_trans_places a.is.to (subst (λ (x : Turn). Same (place x) (begins (interval w.on))) (b.at.from ∙ sym a.at.to) (same_places b.is.from))

  -- so they touch
  touch : (n : ℕ) (v w : Verdict) → IsVerdictAt j n v → IsVerdictAt j (n + 1) w → Touch (interval v.on) (interval w.on)
  touch n v w a b =
      let s = meet n v w a b in
      record { time = same_sym s.0; once = λ e. turned w.on.from_in (e ∙ s.1) }

  -- and have different truths
  differ : (n : ℕ) (v w : Verdict) → IsVerdictAt j n v → IsVerdictAt j (n + 1) w → v.holds ≢ w.holds
  differ n v w a b e =
      let (t, after, upto) = between (place a.stretch.from) (place a.stretch.to) a.at.longest.order in
      let same : a.stretch.to ≡ b.stretch.from = a.at.to ∙ sym b.at.from in
      let (u, later, before, other) = b.at.longest.begins t (a.at.longest.within t after upto) (subst (λ (x : Turn). Upto (place x) t) same upto) in
      let here = a.at.longest.holds u (after_later (place a.stretch.from) t u later after) (subst (λ (x : Turn). Upto (place x) u) (sym same) before) in
      turned b.stretch.holds (sym (b.is.holds) ∙ (sym e ∙ (a.is.holds ∙ (sym here ∙ other))))

  -- the first begins with the trace
  begins_alike : (v : Verdict) → IsVerdictAt j 0 v → BeginAlike (interval v.on) whole
  begins_alike v a =
      let s = same_trans_places a.is.from (subst (λ (x : Turn). Same (place x) (record { at = start tr; after = false })) (sym a.at.from) told.over.begins) in
      record { time = s.0; inside = opposite v.on.from_in s.1 }

  -- the last ends with it
  ends_alike : (n : ℕ) (v : Verdict) → n ≡ length j.times.turns.items → IsVerdictAt j n v → EndAlike (interval v.on) whole
  ends_alike n v last a =
      let end : n + 1 ≡ suc (length j.times.turns.items) = omega (arith, last) in
      let to : a.stretch.to ≡ j.on.to = a.at.to ∙ (ap (border j.on j.times) end ∙ past) in
      let s = same_trans_places a.is.to (subst (λ (x : Turn). Same (place x) (record { at = stop tr; after = true })) (sym to) told.over.ends) in
      record { time = s.0; inside = s.1 }
    where
      past : border j.on j.times (suc (length j.times.turns.items)) ≡ j.on.to
      past = get_or_past j.times.turns.items (length j.times.turns.items) j.on.to (omega arith)

  -- from one on, the verdicts go on to the end
  goes_on : (n : ℕ) (v : Verdict) (vs : List Verdict) → IsVerdictAt j n v
      → ((k : ℕ) (w : Verdict) → slice_get vs k ≡ Some w → IsVerdictAt j (n + 1 + k) w) → n + length vs ≡ length j.times.turns.items
      → GoesOn p tr whole v vs
  goes_on n v [] a others count = ends_alike n v (omega (arith, count)) a
  goes_on n v (w ∷ vs) a others count =
      let next : n + 1 + 0 ≡ n + 1 = omega arith in
      let b = subst (λ m. IsVerdictAt j m w) next (others 0 w refl) in (
        touch n v w a b,
        differ n v w a b,
        is_told (n + 1) w b,
        goes_on (n + 1) w vs b (λ k u at. subst (λ m. IsVerdictAt j m u) (behind k) (others (suc k) u at)) (omega (arith, count)),
      )
    where
      behind : (k : ℕ) → n + 1 + suc k ≡ n + 1 + 1 + k
      behind k = omega arith

  -- the verdicts of all stretches describe the formula
  described : (vs : List Verdict) → length vs ≡ length j.times.turns.items + 1 → AreVerdictsFrom j 0 vs → Describes vs p tr whole
  described [] count are = absurd (omega (arith, count))
  described (v ∷ vs) count are =
      let a = are 0 v refl in (
        begins_alike v a,
        is_told 0 v a,
        goes_on 0 v vs a (λ k w at. subst (λ m. IsVerdictAt j m w) (second k) (are (suc k) w at)) (omega (arith, count)),
      )
    where
      second : (k : ℕ) → 0 + suc k ≡ 0 + 1 + k
      second k = omega arith

  -- the truth of the first stretch is that at the start
  at_start : (d : Stretch) → IsStretch j 0 d → MatchBool d.holds (Truth p tr (start tr)) (¬ Truth p tr (start tr))
  at_start d at =
      let first : Same (place d.from) (record { at = start tr; after = false }) =
      subst (λ (x : Turn). Same (place x) (record { at = start tr; after = false })) (sym at.from) told.over.begins in
      let behind : After (place d.from) (start tr) = after_same (record { at = start tr; after = false }) (place d.from) (start tr)
      (same_places first) (le_refl (start tr)) in
      at_time j tr p told.told.times 0 d at (start tr) behind
      (upto_first (place d.to) (same_before _ _ _ (same_places first) at.longest.order))
    where
      upto_first : (e : Place) → Before (record { at = start tr; after = false }) e → Upto e (start tr)
      upto_first e (inl l) = by_side e.after
        where
          by_side : (b : Bool) → MatchBool b (start tr ≤ʳ e.at) (start tr <ʳ e.at)
          by_side true = le_of_lt l
          by_side false = l
      upto_first e (inr (s, f, g)) = subst (λ b. MatchBool b (start tr ≤ʳ e.at) (start tr <ʳ e.at)) (sym g) (le_of_same s)

module _ (c : Case) (f : Formula) (case : IsCase f c) (j : Judged) (told : TellsRoot c.formula.nodes c.trace j)
    (holds : Bool) (text : List ℕ) (is : AreLinesFrom j c.formula.scale holds 0 text) (first : IsFirstTruth j holds) where
  -- the truth and the text over given nodes, with times in units of a scale
  Over : Formula → Type 0
  Over g =
      MatchBool holds (Truth (root g.nodes) c.trace (start c.trace)) (¬ Truth (root g.nodes) c.trace (start c.trace))
      × ((verdicts : List Verdict) × (body line : List ℕ) × Describes verdicts (root g.nodes) c.trace (closed (start c.trace) (stop c.trace))
      × AreVerdictLines g.scale verdicts body × IsStartLine (root g.nodes) c.trace line × (text ≡ body ++ line))

  now : MatchBool holds (Truth (root c.formula.nodes) c.trace (start c.trace)) (¬ Truth (root c.formula.nodes) c.trace (start c.trace))
  now =
      subst (λ b. MatchBool b (Truth (root c.formula.nodes) c.trace (start c.trace)) (¬ Truth (root c.formula.nodes) c.trace (start c.trace))) first.same
      (at_start c.formula.nodes j c.trace told first.stretch first.at)

  own : Over c.formula
  unfolding Over
  own = (
    now,
    (
      is.verdicts,
      is.body,
      start_line holds,
      described c.formula.nodes j c.trace told is.verdicts (omega (arith, is.count)) is.are,
      is.lines,
      (holds, now, refl),
      is.parts,
    ),
  )

  -- the lines of the stretches of the root's set are the answer of `check`
  pub is_check_answer : IsCheckAnswer f c.trace holds text
  unfolding Over
  is_check_answer = let over = subst Over case.formula own in record { truth = over.0; written = over.1 }
