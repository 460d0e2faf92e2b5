-- Verdicts of which some neighbours of one truth are joined.
use Rattle.std.proofs.Common.{◌≡◌, ◌⊎◌, inl, inr, refl, sym, ap, subst, ◌∙◌, ℕ, ◌≤◌, Bool, Some, None, List, [], ◌∷◌, ◌++◌}
use Rattle.std.proofs.Common.{length, arith}
use Rattle.std.specs.Prelude.{slice_get, MatchBool}
use Rattle.std.proofs.lemmas.Option.{same_Some}
use Rattle.rational.specs.Rational.{Rational}
use Rattle.rational.specs.Time.{Interval, IsIn}
use Rattle.rational.specs.Places.{Place, begins, ends, After, Upto, AtMost, Same}
use Rattle.rational.proofs.PlaceLemmas.{after_of_before, after_same, same_places}
use Rattle.rational.proofs.PlaceLemmas.{sides, upto_of_before, upto_same}
use Rattle.frac128.specs.Spans.{interval}
use Rattle.stl_syntax.specs.Trace.{Trace}
use Rattle.stl_syntax.specs.Formula.{Subformula}
use Rattle.stl_syntax.specs.Truth.{Truth}
use Rattle.stl_syntax.specs.Verdicts.{IsTold}
use Rattle.stl_syntax.specs.declared.items.Verdict.{Verdict}
use Rattle.online_nodes.specs.Network.{Front}
use Rattle.online_nodes.specs.Needed.{Meets, AreMeeting}
use Rattle.online_nodes.specs.Held.{AreStretches, IsJoined, Stand, as_given, joined}
use Rattle.online_nodes.specs.Laws.{AreTiles, AreTold, IsWhole, answered_to}
use Rattle.online_nodes.specs.Operators.{first_place}
use Rattle.node_edges.specs.Kinds.{verdict_part}
use Rattle.node_edges.proofs.Stretches as of
pub use Rattle.node_edges.proofs.Stretches.{all_stretches, none_long, stretches_again, stretches_behind, stretches_few, stretches_more, stretches_none}
pub use Rattle.node_edges.proofs.Verdicts.{some_verdict}
use Rattle.online_nodes.proofs.HeldLaw.{is_in}
use Rattle.online_nodes.proofs.MeetingLaw.{Each, one_meeting}
use Rattle.online_nodes.proofs.ToldSoFar.{in_after, in_upto, some_in}

module _ {v w u : Verdict} (j : IsJoined v w u) where
  -- the joined verdict ends no earlier than the first of the two
  pub joined_ends : AtMost (ends (interval v.on)) (ends (interval u.on))
  joined_ends t h = subst (λ c. Upto c t) (sym j.end)
      (upto_of_before (begins (interval w.on)) (ends (interval w.on)) t (some_verdict w)
      (upto_same (ends (interval v.on)) (begins (interval w.on)) t j.goes_on.touch h))

  -- a time of it is one of the two's
  in_parts : (t : Rational) → IsIn (interval u.on) t → IsIn (interval v.on) t ⊎ IsIn (interval w.on) t
  in_parts t i = elim (sides (ends (interval v.on)) t) [
    | inl h ↦ inl (is_in (interval v.on) t (subst (λ c. After c t) j.begin (in_after (interval u.on) t i)) h)
    | inr a ↦ inr (is_in (interval w.on) t (after_same (ends (interval v.on)) (begins (interval w.on)) t j.goes_on.touch a)
        (subst (λ c. Upto c t) j.end (in_upto (interval u.on) t i)))
  ]

  -- and each time of theirs is one of it
  in_first : (t : Rational) → IsIn (interval v.on) t → IsIn (interval u.on) t
  in_first t i = is_in (interval u.on) t (subst (λ c. After c t) (sym j.begin) (in_after (interval v.on) t i))
      (joined_ends t (in_upto (interval v.on) t i))

  in_second : (t : Rational) → IsIn (interval w.on) t → IsIn (interval u.on) t
  in_second t i = is_in (interval u.on) t
      (subst (λ c. After c t) (sym j.begin) (after_of_before (begins (interval v.on)) (ends (interval v.on)) t (some_verdict v)
      (after_same (begins (interval w.on)) (ends (interval v.on)) t (same_places j.goes_on.touch) (in_after (interval w.on) t i))))
      (subst (λ c. Upto c t) (sym j.end) (in_upto (interval w.on) t i))

  -- so it meets what one of the two meets
  joined_meets : (stretch : Interval) → Meets stretch v ⊎ Meets stretch w → Meets stretch u
  joined_meets stretch (inl m) = (m.0, m.1, in_first m.0 m.2)
  joined_meets stretch (inr m) = (m.0, m.1, in_second m.0 m.2)

  parts_meet : (stretch : Interval) → Meets stretch u → Meets stretch v ⊎ Meets stretch w
  parts_meet stretch m = elim (in_parts m.0 m.2) [ inl i ↦ inl (m.0, m.1, i) | inr i ↦ inr (m.0, m.1, i) ]

  -- it tells the truth where both do
  joined_told : (p : Subformula) (tr : Trace) → IsTold p tr v → IsTold p tr w → IsTold p tr u
  joined_told p tr first second = record {
    not_empty = some_in (interval u.on) (some_verdict u);
    truth = λ t i. subst (λ b. MatchBool b (Truth p tr t) (¬ Truth p tr t)) (sym j.holds) (by_part t (in_parts t i));
  }
    where
      by_part : (t : Rational) → IsIn (interval v.on) t ⊎ IsIn (interval w.on) t → MatchBool v.holds (Truth p tr t) (¬ Truth p tr t)
      by_part t (inl i) = first.truth t i
      by_part t (inr i) = subst (λ b. MatchBool b (Truth p tr t) (¬ Truth p tr t)) j.goes_on.alike (second.truth t i)

  -- what leads on leads on
  tiles_joined : (c : Place) (front back : List Verdict) (d : Place) → AreTiles c (front ++ v ∷ w ∷ back) d → AreTiles c (front ++ u ∷ back) d
  tiles_joined c [] back d (s, some, (touch, other, rest)) = (
    subst (λ q. Same c q) (sym j.begin) s,
    some_verdict u,
    subst (λ q. AreTiles q back d) (sym j.end) rest,
  )
  tiles_joined c (x ∷ front) back d (s, some, rest) = (s, some, tiles_joined (ends (interval x.on)) front back d rest)

  told_joined : (p : Subformula) (tr : Trace) (front back : List Verdict) → AreTold p tr (front ++ v ∷ w ∷ back) → AreTold p tr (front ++ u ∷ back)
  told_joined p tr [] back (first, (second, rest)) = (joined_told p tr first second, rest)
  told_joined p tr (x ∷ front) back (here, rest) = (here, told_joined p tr front back rest)

  -- where each of some meets a stretch, and two of them are joined, each does
  each_joined : (stretch : Interval) (front back : List Verdict) → Each (Meets stretch) (front ++ v ∷ w ∷ back) → Each (Meets stretch) (front ++ u ∷ back)
  each_joined stretch [] back (first, (second, rest)) = (joined_meets stretch (inl first), rest)
  each_joined stretch (x ∷ front) back (here, rest) = (here, each_joined stretch front back rest)

  -- of verdicts of which two are joined no more meet a stretch
  record MeetFewer (stretch : Interval) (vs hs : List Verdict) : Type 0 where
    held : List Verdict
    meeting : AreMeeting stretch vs held
    few : length held ≤ length hs

  meeting_joined : (stretch : Interval) (front back hs : List Verdict) → AreMeeting stretch (front ++ v ∷ w ∷ back) hs
      → MeetFewer stretch (front ++ u ∷ back) hs
  meeting_joined stretch [] back hs (inl (m, (more, inl (m', (last, rest, e')), e))) = record {
    held = u ∷ last;
    meeting = inl (joined_meets stretch (inl m), (last, rest, refl));
    few = omega (arith, ap length e, ap length e');
  }
  meeting_joined stretch [] back hs (inl (m, (more, inr (d', rest), e))) = record {
    held = u ∷ more;
    meeting = inl (joined_meets stretch (inl m), (more, rest, refl));
    few = omega (arith, ap length e);
  }
  meeting_joined stretch [] back hs (inr (d, inl (m', (last, rest, e')))) = record {
    held = u ∷ last;
    meeting = inl (joined_meets stretch (inr m'), (last, rest, refl));
    few = omega (arith, ap length e');
  }
  meeting_joined stretch [] back hs (inr (d, inr (d', rest))) = record {
    held = hs;
    meeting = inr ((λ m. elim (parts_meet stretch m) [ inl x ↦ d x | inr y ↦ d' y ]), rest);
    few = omega arith;
  }
  meeting_joined stretch (x ∷ front) back hs (inl (m, (more, rest, e))) =
      let next = meeting_joined stretch front back more rest in
      record {
        held = x ∷ next.held;
        meeting = inl (m, (next.held, next.meeting, refl));
        few = (let few = next.few in omega (arith, few, ap length e));
      }
  meeting_joined stretch (x ∷ front) back hs (inr (d, rest)) =
      let next = meeting_joined stretch front back hs rest in
      record { held = next.held; meeting = inr (d, next.meeting); few = next.few }

-- ---- as verdicts stand on an edge, by whether it joins

-- they stand so as they were given
pub stand_given : (b : Bool) (vs : List Verdict) → Stand b vs vs
stand_given = of.stand_given verdict_part

-- they are stretches
pub stand_stretches : (b : Bool) {all stretches : List Verdict} → Stand b all stretches → AreStretches stretches all
stand_stretches b s = of.stand_stretches verdict_part b s

-- with the same verdicts behind them
pub stand_more : (b : Bool) (all stretches : List Verdict) → Stand b all stretches → (c : List Verdict) → Stand b (all ++ c) (stretches ++ c)
stand_more = of.stand_more verdict_part

-- and with the same before them
pub stand_behind : (b : Bool) (all stretches p : List Verdict) → Stand b all stretches → Stand b (p ++ all) (p ++ stretches)
stand_behind = of.stand_behind verdict_part

-- and as what stood so stands
pub stand_again : (b : Bool) (all mid stretches : List Verdict) → Stand b all mid → Stand b mid stretches → Stand b all stretches
stand_again = of.stand_again verdict_part

-- ---- what stretches are

-- they begin where the verdicts do
pub stretches_first : {a b : List Verdict} → AreStretches a b → (d : Place) → first_place a d ≡ first_place b d
stretches_first as_given d = refl
stretches_first (joined [] back j rest) d = stretches_first rest d ∙ j.begin
stretches_first (joined (x ∷ front) back j rest) d = stretches_first rest d

-- the first one ends no earlier than the first verdict
pub stretches_end : {a b : List Verdict} → AreStretches a b → (x : Verdict) → slice_get a 0 ≡ Some x
    → (y : Verdict) × (slice_get b 0 ≡ Some y) × AtMost (ends (interval y.on)) (ends (interval x.on))
stretches_end as_given x e = (x, e, λ t h. h)
stretches_end (joined {v = v} {w = w} {u = u} [] back j rest) x e =
    let more = stretches_end rest x e in
    let same : u ≡ more.0 = same_Some u more.0 more.1 in
    (v, refl, λ t h. more.2 t (subst (λ y. Upto (ends (interval y.on)) t) same (joined_ends j t h)))
stretches_end (joined (z ∷ front) back j rest) x e = stretches_end rest x e

-- they lead on
pub stretches_tile : {a b : List Verdict} → AreStretches a b → (c d : Place) → AreTiles c b d → AreTiles c a d
stretches_tile as_given c d tiles = tiles
stretches_tile (joined front back j rest) c d tiles = stretches_tile rest c d (tiles_joined j c front back d tiles)

-- and are whole
pub stretches_whole : {a b : List Verdict} → AreStretches a b → (first : ℕ) (o : Front) → IsWhole first o b → IsWhole first o a
stretches_whole s first None whole = stretches_none s whole
stretches_whole s first (Some f) whole = stretches_tile s (answered_to first None) (answered_to first (Some f)) whole

-- and tell the truth
pub stretches_told : (p : Subformula) (tr : Trace) {a b : List Verdict} → AreStretches a b → AreTold p tr b → AreTold p tr a
stretches_told p tr as_given told = told
stretches_told p tr (joined front back j rest) told = stretches_told p tr rest (told_joined j p tr front back told)

-- and meet what the verdicts meet
pub stretches_meet : (stretch : Interval) {a b : List Verdict} → AreStretches a b → Each (Meets stretch) b → Each (Meets stretch) a
stretches_meet stretch as_given all = all
stretches_meet stretch (joined front back j rest) all = stretches_meet stretch rest (each_joined j stretch front back all)

-- and no more of them meet a stretch
pub stretches_meet_few : (stretch : Interval) {a b : List Verdict} → AreStretches a b → (held segments : List Verdict) → AreMeeting stretch a held
    → AreMeeting stretch b segments → length held ≤ length segments
stretches_meet_few stretch {a} as_given held segments m n = let e = ap length (one_meeting stretch a held segments m n) in omega (arith, e)
stretches_meet_few stretch (joined front back j rest) held segments m n =
    let next = meeting_joined j stretch front back segments n in
    let few = stretches_meet_few stretch rest held next.held m next.meeting in
    let fewer = next.few in
    omega (arith, few, fewer)
