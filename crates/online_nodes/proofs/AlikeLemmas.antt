-- Formulas of one truth up to a place: what is told of one is told of the other. Up to the last row a window behind with no bound is one
-- with a bound that is longer than any trace.
use Rattle.std.proofs.Common.{ℕ, ◌≤◌, Bool, true, false, Option, Some, None, List, [], ◌∷◌, pos, ◌<ℤ◌, ◌≤ℤ◌, arith}
use Rattle.std.proofs.lemmas.Int.{ints}
use Rattle.rational.specs.Rational.{Rational, ◌≤ʳ◌, ◌<ʳ◌, whole}
use Rattle.rational.specs.Time.{Precedes, Within, later}
use Rattle.rational.specs.Windows.{Behind}
use Rattle.rational.proofs.Order.{le_trans, lt_of_le_of_lt, lt_of_lt_of_le}
use Rattle.rational.proofs.Shift.{le_whole, lt_whole}
use Rattle.rational.proofs.TimeLemmas.{later_le, precedes_of_lt}
use Rattle.frac128.specs.Spans.{interval}
use Rattle.stl_syntax.specs.Trace.{Trace, first_time, start, stop}
use Rattle.stl_syntax.specs.Formula.{Subformula, once, historically, since}
use Rattle.stl_syntax.specs.Truth.{Truth}
use Rattle.stl_syntax.specs.declared.items.Verdict.{Verdict}
use Rattle.rational.specs.Places.{AtMost, Place, Upto, begins, ends}
use Rattle.frac128.specs.Cuts.{place}
use Rattle.online_nodes.specs.Truths.{Is}
use Rattle.online_nodes.specs.Written.{HasTold, IsPending, Lead}
use Rattle.online_nodes.specs.declared.writer.Out.{Out}
use Rattle.rational.proofs.PlaceLemmas.{upto_of_before, upto_same}

-- two formulas of one truth up to a place
pub record IsLike (m n : Subformula) (tr : Trace) (to : Place) : Type 0 where
  -- where the one holds, the other does
  pub there : (t : Rational) → Upto to t → Truth m tr t → Truth n tr t
  -- and the other way round
  pub back : (t : Rational) → Upto to t → Truth n tr t → Truth m tr t

-- a formula is like itself
pub like_itself : (n : Subformula) (tr : Trace) (to : Place) → IsLike n n tr to
like_itself n tr to = record { there = λ t u h. h; back = λ t u h. h }

-- a list leads no way back
lead_upto : (n : Subformula) (tr : Trace) (c : Place) (before : Option Bool) (vs : List Verdict) (d : Place) (last : Option Bool)
    → Lead n tr c before vs d last → AtMost c d
lead_upto n tr c before [] d last (s, e) t u = upto_same c d t s u
lead_upto n tr c before (v ∷ vs) d last (s, b, apart, all, rest) t u =
    lead_upto n tr (ends (interval v.on)) (Some v.holds) vs d last rest t
    (upto_of_before (begins (interval v.on)) (ends (interval v.on)) t b (upto_same c (begins (interval v.on)) t s u))

module _ {m n : Subformula} {tr : Trace} {to : Place} (same : IsLike m n tr to) where
  -- either truth of the one is that of the other
  pub is_like : (b : Bool) (t : Rational) → Upto to t → Is b (Truth m tr) t → Is b (Truth n tr) t
  is_like true t u h = same.there t u h
  is_like false t u h = λ k. h (same.back t u k)

  lead_like : (c : Place) (before : Option Bool) (vs : List Verdict) (d : Place) (last : Option Bool) → AtMost d to
      → Lead m tr c before vs d last → Lead n tr c before vs d last
  lead_like c before [] d last within h = h
  lead_like c before (v ∷ vs) d last within (s, b, apart, all, rest) = (
    s,
    b,
    apart,
    (λ t a u. is_like v.holds t (within t (lead_upto m tr (ends (interval v.on)) (Some v.holds) vs d last rest t u)) (all t a u)),
    lead_like (ends (interval v.on)) (Some v.holds) vs d last within rest,
  )

  -- what is told up to there of the one is told of the other
  pub told_like : (begin : Place) (written : List Verdict) (out : Out) → AtMost (place out.at) to → HasTold m tr begin written out
      → HasTold n tr begin written out
  told_like begin written out within told = record {
    last = told.last;
    lead = lead_like begin None written (place out.from) told.last (λ t u. within t (from_at out.holds told.pending t u)) told.lead;
    pending = by_holds out.holds told.pending;
  }
    where
      from_at : (o : Option Bool) → IsPending m tr (record out { holds = o }) told.last → AtMost (place out.from) (place out.at)
      from_at None (s, e) t u = upto_same (place out.from) (place out.at) t s u
      from_at (Some h) (b, apart, all) t u = upto_of_before (place out.from) (place out.at) t b u

      by_holds : (o : Option Bool) → IsPending m tr (record out { holds = o }) told.last → IsPending n tr (record out { holds = o }) told.last
      by_holds None p = p
      by_holds (Some h) (b, apart, all) = (b, apart, (λ t a u. is_like h t (within t u) (all t a u)))

-- in a trace of times below 2^33, up to its last row
module _ (tr : Trace) (now : ℕ) (small : now ≤ 4294967295) (to : Place) (early : (t : Rational) → Upto to t → t ≤ʳ whole (pos now))
    (a : ℕ) where
  reaches : (b_in : Bool) (t u : Rational) → Upto to t → Within (start tr) (stop tr) u → Precedes b_in t (later u 8589934592)
  reaches b_in t u h w =
      let far : whole (pos now) <ʳ whole (pos 8589934592) = (let l : pos now <ℤ pos 8589934592 = omega (arith, ints, small) in lt_whole l) in
      let zero : whole (pos 8589934592) ≤ʳ later (whole (pos 0)) 8589934592 = record { le = omega arith } in
      let from : whole (pos 0) ≤ʳ u = le_trans (let l : pos 0 ≤ℤ pos (first_time tr.rows) = omega (arith, ints) in le_whole l) w.above in
      precedes_of_lt b_in t (later u 8589934592)
      (lt_of_le_of_lt (early t h) (lt_of_lt_of_le far (le_trans zero (later_le 8589934592 from))))

  module _ (a_in b_in : Bool) where
    bounded : (t u : Rational) → Upto to t → Behind (start tr) (stop tr) a None a_in b_in t u
        → Behind (start tr) (stop tr) a (Some 8589934592) a_in b_in t u
    bounded t u h w = record { inside = w.inside; begins = reaches b_in t u h w.inside; ends = w.ends }

    unbounded : (t u : Rational) → Behind (start tr) (stop tr) a (Some 8589934592) a_in b_in t u
        → Behind (start tr) (stop tr) a None a_in b_in t u
    unbounded t u w = record { inside = w.inside; begins = tt; ends = w.ends }

    -- a `once` of the largest bound is one without a bound, up to the last row
    pub once_like : (p : Subformula) → IsLike (once a (Some 8589934592) a_in b_in p) (once a None a_in b_in p) tr to
    once_like p = record { there = λ t h e. (e.0, unbounded t e.0 e.1, e.2); back = λ t h e. (e.0, bounded t e.0 h e.1, e.2) }

    -- a `historically` of the largest bound is one without a bound, up to the last row
    pub historically_like : (p : Subformula) → IsLike (historically a (Some 8589934592) a_in b_in p) (historically a None a_in b_in p) tr to
    historically_like p = record { there = λ t h all u w. all u (bounded t u h w); back = λ t h all u w. all u (unbounded t u w) }

  -- a `since` of the largest bound is one without a bound, up to the last row
  pub since_like : (p q : Subformula) → IsLike (since a (Some 8589934592) p q) (since a None p q) tr to
  since_like p q = record {
    there = λ t h e. (e.0, unbounded true true t e.0 e.1, e.2, e.3);
    back = λ t h e. (e.0, bounded true true t e.0 h e.1, e.2, e.3);
  }
