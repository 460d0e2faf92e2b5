-- A formula whose atoms do not turn on a stretch does not turn there, but near the begin as far as it looks back, and near the end as far as its
-- horizon: where its inputs have one truth on all that a window sees, a window has it too, if there is a time in it.
use Rattle.std.proofs.Common.{[], ◌∷◌, refl, ℕ, ◌+◌, ◌-◌, ◌*◌, ◌<◌, ◌≤◌, Bool, true, false, arith, inl, inr, Option, Some, None}
use Rattle.std.specs.Prelude.{max}
use Rattle.std.proofs.lemmas.Bool.{cases_lt}
use Rattle.std.proofs.Math.Nat.{mul-le-mul_right, mul-lt-mul_of_pos_left, mul-pos}
use Rattle.rational.specs.Rational.{middle}
use Rattle.rational.specs.Time.{Rational, ◌≤ʳ◌, ◌<ʳ◌, later, left_open, Within}
use Rattle.rational.specs.Places.{begins, ends}
use Rattle.frac128.specs.Spans.{interval}
use Rattle.rational.specs.Windows.{Ahead, Behind}
use Rattle.rational.proofs.Order.{le_refl, le_of_lt, lt_of_lt_of_le, lt_of_le_of_lt, le_trans, lt_trans, le_or_lt, not_lt_of_le, left_of_middle}
use Rattle.rational.proofs.Order.{right_of_middle}
use Rattle.rational.proofs.TimeLemmas.{precedes_of_lt, precedes_le, later_from, later_more, later_le}
use Rattle.stl_syntax.specs.Trace.{Trace, start, stop}
use Rattle.stl_syntax.specs.Formula.{Subformula, horizon, constant, atom, negation, conjunction, disjunction}
use Rattle.stl_syntax.specs.Formula.{implication, until, eventually, always, since, once, historically}
use Rattle.rational.proofs.PlaceLemmas.{same_places}
use Rattle.stl_syntax.specs.Truth.{Truth}
use Rattle.online_nodes.specs.Truths.{Is, AllAre}
use Rattle.online_nodes.proofs.Stretches.{some_verdict}
use Rattle.online_nodes.proofs.ToldSoFar.{told_same, lead_describes}
use Rattle.bounds.specs.Turns.{looks_back}
use Rattle.bounds.specs.Steady.{StaysOn, AtomsStay, SteadyAtomsKeepTruths, SteadyAtomsAnswerOnce}
use Rattle.bounds.proofs.NearTimes.{by, behind}
use Rattle.bounds.proofs.FormulaTurns.{left_max, right_max, low_part, high_part, low_behind}

-- a time between two others
mid : {x y : Rational} → x <ʳ y → (t : Rational) × (x <ʳ t) × (t <ʳ y)
mid {x} {y} h = (middle x y, left_of_middle h, right_of_middle h)

-- later by more
lt_up : (t : Rational) (a b : ℕ) → a < b → later t a <ʳ later t b
lt_up t a b h = record { lt = let p = mul-lt-mul_of_pos_left h (mul-pos t.positive t.positive) in omega (arith, p) }

-- the bounds of a window with a time in it
ordered : (t u : Rational) (a b : ℕ) → later t a ≤ʳ u → u ≤ʳ later t b → a ≤ b
ordered t u a b h k = elim (cases_lt b a) [ inl l ↦ absurd (not_lt_of_le (le_trans h k) (lt_up t b a l)) | inr l ↦ l ]

apart : (t : Rational) (a b : ℕ) → later t a <ʳ later t b → a < b
apart t a b h = elim (cases_lt a b) [ inl l ↦ l | inr l ↦ absurd (not_lt_of_le (later_more t b a l) h) ]

-- some time of a window ahead
abbrev SomeAhead : Rational → Rational → ℕ → ℕ → Bool → Bool → Rational → Type 0
SomeAhead S T a b i j v = (w : Rational) × Ahead S T a b i j v w

module _ (S T : Rational) where
  low_ahead : (a b : ℕ) (i j : Bool) (t u : Rational) → Ahead S T a b i j t u → t ≤ʳ u
  low_ahead a b i j t u w = le_trans (later_from t a) (precedes_le i (later t a) u w.begins)

  high_ahead : (a b : ℕ) (i j : Bool) (t u : Rational) → Ahead S T a b i j t u → u ≤ʳ later t b
  high_ahead a b i j t u w = precedes_le j u (later t b) w.ends

  -- where a window has a time in it at t, it has one at v, too
  some_ahead : (a b : ℕ) (i j : Bool) (t u v : Rational) → Ahead S T a b i j t u → S ≤ʳ v → later v b ≤ʳ T → SomeAhead S T a b i j v
  some_ahead a b true true t u v w low high =
      let o = ordered t u a b w.begins w.ends in (
        later v a,
        record {
          inside = record { above = le_trans low (later_from v a); below = le_trans (later_more v a b o) high };
          begins = le_refl (later v a);
          ends = later_more v a b o;
        },
      )
  some_ahead a b true false t u v w low high =
      let o = apart t a b (lt_of_le_of_lt w.begins w.ends) in (
        later v a,
        record {
          inside = record { above = le_trans low (later_from v a); below = le_trans (le_of_lt (lt_up v a b o)) high };
          begins = le_refl (later v a);
          ends = lt_up v a b o;
        },
      )
  some_ahead a b false true t u v w low high =
      let o = apart t a b (lt_of_lt_of_le w.begins w.ends) in (
        later v b,
        record {
          inside = record { above = le_trans low (later_from v b); below = high };
          begins = lt_up v a b o;
          ends = le_refl (later v b);
        },
      )
  some_ahead a b false false t u v w low high =
      let o = apart t a b (lt_trans w.begins w.ends) in
      let m = mid (lt_up v a b o) in (
        m.0,
        record {
          inside = record {
            above = le_trans low (le_trans (later_from v a) (le_of_lt m.1));
            below = le_trans (le_of_lt m.2) high;
          };
          begins = m.1;
          ends = m.2;
        },
      )

  -- times of a window behind
  abbrev SomeBehind : ℕ → Option ℕ → Bool → Bool → Rational → Type 0
  SomeBehind a b i j v = (w : Rational) × Behind S T a b i j v w

  high_behind_of : (a : ℕ) (b : Option ℕ) (i j : Bool) (t u : Rational) → Behind S T a b i j t u → u ≤ʳ t
  high_behind_of a b i j t u w = le_trans (later_from u a) (precedes_le i (later u a) t w.ends)

  -- a number of ticks earlier, and so many later again
  again : (v : Rational) (a : ℕ) → later (by v (behind a)) a ≤ʳ v
  again v a = record { le = omega arith }

  -- what is later than a number of ticks before v
  above : (v w : Rational) (b : ℕ) → by v (behind b) ≤ʳ w → v ≤ʳ later w b
  above v w b h = record { le = omega (arith, h.le) }

  above_lt : (v w : Rational) (b : ℕ) → by v (behind b) <ʳ w → v <ʳ later w b
  above_lt v w b h = record { lt = omega (arith, h.lt) }

  below : (v w : Rational) (a : ℕ) → w ≤ʳ by v (behind a) → later w a ≤ʳ v
  below v w a h = record { le = omega (arith, h.le) }

  below_lt : (v w : Rational) (a : ℕ) → w <ʳ by v (behind a) → later w a <ʳ v
  below_lt v w a h = record { lt = omega (arith, h.lt) }

  -- earlier by more
  lt_down : (v : Rational) (a b : ℕ) → a < b → by v (behind b) <ʳ by v (behind a)
  lt_down v a b h = record { lt = let p = mul-lt-mul_of_pos_left h (mul-pos v.positive v.positive) in omega (arith, p) }

  le_down : (v : Rational) (a b : ℕ) → a ≤ b → by v (behind b) ≤ʳ by v (behind a)
  le_down v a b h = record { le = let q = mul-le-mul_right (v.den * v.den) h in omega (arith, q) }

  down : (v : Rational) (a : ℕ) → by v (behind a) ≤ʳ v
  down v a = record { le = omega arith }

  -- where a window behind has a time in it at t, it has one at v, too
  some_behind : (a b : ℕ) (i j : Bool) (t u v : Rational) → Behind S T a (Some b) i j t u → S ≤ʳ by v (behind b) → v ≤ʳ T
      → SomeBehind a (Some b) i j v
  some_behind a b true true t u v w low high =
      let o = ordered u t a b w.ends w.begins in (
        by v (behind a),
        record {
          inside = record { above = le_trans low (le_down v a b o); below = le_trans (down v a) high };
          begins = above v (by v (behind a)) b (le_down v a b o);
          ends = again v a;
        },
      )
  some_behind a b true false t u v w low high =
      let o = apart u a b (lt_of_le_of_lt w.ends w.begins) in (
        by v (behind a),
        record {
          inside = record { above = le_trans low (le_of_lt (lt_down v a b o)); below = le_trans (down v a) high };
          begins = above_lt v (by v (behind a)) b (lt_down v a b o);
          ends = again v a;
        },
      )
  some_behind a b false true t u v w low high =
      let o = apart u a b (lt_of_lt_of_le w.ends w.begins) in (
        by v (behind b),
        record {
          inside = record { above = low; below = le_trans (down v b) high };
          begins = above v (by v (behind b)) b (le_refl (by v (behind b)));
          ends = below_lt v (by v (behind b)) a (lt_down v a b o);
        },
      )
  some_behind a b false false t u v w low high =
      let o = apart u a b (lt_trans w.ends w.begins) in
      let m = mid (lt_down v a b o) in (
        m.0,
        record {
          inside = record {
            above = le_trans low (le_of_lt m.1);
            below = le_trans (le_of_lt m.2) (le_trans (down v a) high);
          };
          begins = above_lt v m.0 b m.1;
          ends = below_lt v m.0 a m.2;
        },
      )

  -- a window behind with no bound has a time later than one that lies before its end
  some_open : (a : ℕ) (i j : Bool) (x v : Rational) → S ≤ʳ x → x <ʳ by v (behind a) → v ≤ʳ T
      → (w : Rational) × Behind S T a None i j v w × (x <ʳ w)
  some_open a true j x v low h high = (
    by v (behind a),
    record {
      inside = record { above = le_trans low (le_of_lt h); below = le_trans (down v a) high };
      begins = tt;
      ends = again v a;
    },
    h,
  )
  some_open a false j x v low h high =
      let m = mid h in (
        m.0,
        record {
          inside = record { above = le_trans low (le_of_lt m.1); below = le_trans (le_of_lt m.2) (le_trans (down v a) high) };
          begins = tt;
          ends = below_lt v m.0 a m.2;
        },
        m.1,
      )

-- what a window behind sees begins after the stretch's begin, moved back
seen_from : (lo t u : Rational) (b n : ℕ) → b ≤ n → lo <ʳ t → t ≤ʳ later u b → by lo (behind n) <ʳ u
seen_from lo t u b n h low k =
    let l = lt_of_lt_of_le low k in
    let q = mul-le-mul_right (lo.den * u.den) h in
    record { lt = let e = l.lt in omega (arith, q, e) }

-- a stretch that ends later
high_later : (hi to : Rational) (b A m : ℕ) → b + A ≤ m → later hi m ≤ʳ to → later (later hi b) A ≤ʳ to
high_later hi to b A m h k = le_trans (record { le = let q = mul-le-mul_right (hi.den * hi.den) h in omega (arith, q) }) k

-- and so the time up to which a window ahead sees
seen_to : (hi to : Rational) (b A m : ℕ) → b + A ≤ m → later hi m ≤ʳ to → later hi b ≤ʳ to
seen_to hi to b A m h k = le_trans (later_from (later hi b) A) (high_later hi to b A m h k)

-- the begin of a stretch, moved back, does not lie before `from`
from_back : (from lo : Rational) (b B m : ℕ) → b + B ≤ m → later from m ≤ʳ lo → from ≤ʳ by lo (behind b)
from_back from lo b B m h k = le_trans (later_from from B) (low_behind from lo b B m h k)

-- the end of a stretch, moved back, leaves so much more room behind it
high_back : (hi to : Rational) (a A : ℕ) → later hi (A - a) ≤ʳ to → later (by hi (behind a)) A ≤ʳ to
high_back hi to a A k =
    let n : A ≤ (A - a) + a = omega arith in
    le_trans (record { le = let q = mul-le-mul_right (hi.den * hi.den) n in omega (arith, q) }) k

-- what a window behind sees ends before the stretch's end, moved back
seen_by : (hi u w : Rational) (a : ℕ) → later w a ≤ʳ u → u ≤ʳ hi → w ≤ʳ by hi (behind a)
seen_by hi u w a h k = record { le = let e = (le_trans h k).le in omega (arith, e) }

bound_sum : (a b m : ℕ) → b + m ≤ max a b + m
bound_sum a b m = let h = right_max a b in omega (arith, h)

module _ (tr : Trace) (from to : Rational) (begins : start tr ≤ʳ from) (ends : to ≤ʳ stop tr) where
  -- the claim for a formula
  abbrev Stays : Subformula → Type 0
  Stays p = (lo hi : Rational) → later from (looks_back p) ≤ʳ lo → later hi (horizon p) ≤ʳ to → StaysOn p tr lo hi

  -- a time of the stretch is one of the trace
  from_start : (lo v : Rational) (m : ℕ) → later from m ≤ʳ lo → lo <ʳ v → start tr ≤ʳ v
  from_start lo v m h l = le_trans begins (le_trans (later_from from m) (le_trans h (le_of_lt l)))

  to_stop : (hi v : Rational) (m : ℕ) → later hi m ≤ʳ to → v ≤ʳ hi → v ≤ʳ stop tr
  to_stop hi v m h l = le_trans l (le_trans (later_from hi m) (le_trans h ends))

  -- what a window ahead sees lies in the trace
  sees_to : (hi v : Rational) (b A m : ℕ) → b + A ≤ m → later hi m ≤ʳ to → v ≤ʳ hi → later v b ≤ʳ stop tr
  sees_to hi v b A m h k l = le_trans (later_le b l) (le_trans (seen_to hi to b A m h k) ends)

  -- and so does what one behind sees
  sees_from : (lo v : Rational) (b B m : ℕ) → b + B ≤ m → later from m ≤ʳ lo → lo <ʳ v → start tr ≤ʳ by v (behind b)
  sees_from lo v b B m h k l =
      le_trans begins (le_trans (from_back from lo b B m h k) (record { le = let e = (le_of_lt l).le in omega (arith, e) }))

  -- before the end of a window behind
  before_end : (lo v : Rational) (a : ℕ) → lo <ʳ v → by lo (behind a) <ʳ by v (behind a)
  before_end lo v a l = record { lt = omega (arith, l.lt) }

  stays_eventually : (a b : ℕ) (i j : Bool) (p : Subformula) → Stays p → Stays (eventually a b i j p)
  stays_eventually a b i j p on lo hi low high u v lu hu lv hv (w, win, pw) =
      let sum : b + horizon p ≤ b + horizon p = omega arith in
      let x = some_ahead (start tr) (stop tr) a b i j u w v win (from_start lo v (looks_back p) low lv)
      (sees_to hi v b (horizon p) (b + horizon p) sum high hv) in (
        x.0,
        x.1,
        on lo (later hi b) low (high_later hi to b (horizon p) (b + horizon p) sum high) w x.0
            (lt_of_lt_of_le lu (low_ahead (start tr) (stop tr) a b i j u w win))
            (le_trans (high_ahead (start tr) (stop tr) a b i j u w win) (later_le b hu))
            (lt_of_lt_of_le lv (low_ahead (start tr) (stop tr) a b i j v x.0 x.1))
            (le_trans (high_ahead (start tr) (stop tr) a b i j v x.0 x.1) (later_le b hv)) pw,
      )

  stays_always : (a b : ℕ) (i j : Bool) (p : Subformula) → Stays p → Stays (always a b i j p)
  stays_always a b i j p on lo hi low high u v lu hu lv hv each w win =
      let sum : b + horizon p ≤ b + horizon p = omega arith in
      let x = some_ahead (start tr) (stop tr) a b i j v w u win (from_start lo u (looks_back p) low lu)
      (sees_to hi u b (horizon p) (b + horizon p) sum high hu) in
      on lo (later hi b) low (high_later hi to b (horizon p) (b + horizon p) sum high) x.0 w
      (lt_of_lt_of_le lu (low_ahead (start tr) (stop tr) a b i j u x.0 x.1))
      (le_trans (high_ahead (start tr) (stop tr) a b i j u x.0 x.1) (later_le b hu))
      (lt_of_lt_of_le lv (low_ahead (start tr) (stop tr) a b i j v w win))
      (le_trans (high_ahead (start tr) (stop tr) a b i j v w win) (later_le b hv)) (each x.0 x.1)

  stays_until : (a b : ℕ) (p q : Subformula) → Stays p → Stays q → Stays (until a b p q)
  stays_until a b p q on_p on_q lo hi low high u v lu hu lv hv (w, win, qw, ps) =
      let A = max (horizon p) (horizon q) in
      let B = max (looks_back p) (looks_back q) in
      let sum : b + A ≤ b + A = omega arith in
      let end = high_later hi to b A (b + A) sum high in
      let x = some_ahead (start tr) (stop tr) a b true true u w v win (from_start lo v B low lv) (sees_to hi v b A (b + A) sum high hv) in
      let first = low_ahead (start tr) (stop tr) a b true true u w win in
      let there = low_ahead (start tr) (stop tr) a b true true v x.0 x.1 in
      let reach = le_trans (high_ahead (start tr) (stop tr) a b true true v x.0 x.1) (later_le b hv) in (
        x.0,
        x.1,
        on_q lo (later hi b) (low_part from lo (looks_back q) B (right_max (looks_back p) (looks_back q)) low)
            (high_part (later hi b) to (horizon q) A (right_max (horizon p) (horizon q)) end) w x.0
            (lt_of_lt_of_le lu first) (le_trans (high_ahead (start tr) (stop tr) a b true true u w win) (later_le b hu))
            (lt_of_lt_of_le lv there) reach qw,
        λ y inside.
            on_p lo (later hi b) (low_part from lo (looks_back p) B (left_max (looks_back p) (looks_back q)) low)
            (high_part (later hi b) to (horizon p) A (left_max (horizon p) (horizon q)) end) u y
            lu (le_trans hu (later_from hi b)) (lt_of_lt_of_le lv inside.above) (le_trans inside.below reach)
            (ps u (record { above = le_refl u; below = first })),
      )

  stays_once : (a : ℕ) (b : Option ℕ) (i j : Bool) (p : Subformula) → Stays p → Stays (once a b i j p)
  stays_once a (Some b) i j p on lo hi low high u v lu hu lv hv (w, win, pw) =
      let B = looks_back p in
      let n = max a b in
      let x = some_behind (start tr) (stop tr) a b i j u w v win
      (sees_from lo v b B (n + B) (bound_sum a b B) low lv) (to_stop hi v (horizon p - a) high hv) in (
        x.0,
        x.1,
        on (by lo (behind n)) (by hi (behind a)) (low_behind from lo n B (n + B) (omega arith) low) (high_back hi to a (horizon p) high) w x.0
            (seen_from lo u w b n (right_max a b) lu (precedes_le j u (later w b) win.begins))
            (seen_by hi u w a (precedes_le i (later w a) u win.ends) hu)
            (seen_from lo v x.0 b n (right_max a b) lv (precedes_le j v (later x.0 b) x.1.begins))
            (seen_by hi v x.0 a (precedes_le i (later x.0 a) v x.1.ends) hv) pw,
      )
  stays_once a None i j p on lo hi low high u v lu hu lv hv (w, win, pw) =
      let B = looks_back p in
      elim (le_or_lt w (by lo (behind a))) [
        | inl early ↦ (
          w,
          record {
            inside = win.inside;
            begins = tt;
            ends = precedes_of_lt i (later w a) v (lt_of_le_of_lt (below (start tr) (stop tr) lo w a early) lv);
          },
          pw,
        )
        | inr late ↦
            let x = some_open (start tr) (stop tr) a i j (by lo (behind a)) v (le_trans begins (from_back from lo a B (a + B) (omega arith) low))
            (before_end lo v a lv) (to_stop hi v (horizon p - a) high hv) in (
              x.0,
              x.1,
              on (by lo (behind a)) (by hi (behind a)) (low_behind from lo a B (a + B) (omega arith) low) (high_back hi to a (horizon p) high) w x.0 late
                  (seen_by hi u w a (precedes_le i (later w a) u win.ends) hu) x.2
                  (seen_by hi v x.0 a (precedes_le i (later x.0 a) v x.1.ends) hv) pw,
            )
      ]

  stays_historically : (a : ℕ) (b : Option ℕ) (i j : Bool) (p : Subformula) → Stays p → Stays (historically a b i j p)
  stays_historically a (Some b) i j p on lo hi low high u v lu hu lv hv each w win =
      let B = looks_back p in
      let n = max a b in
      let x = some_behind (start tr) (stop tr) a b i j v w u win
      (sees_from lo u b B (n + B) (bound_sum a b B) low lu) (to_stop hi u (horizon p - a) high hu) in
      on (by lo (behind n)) (by hi (behind a)) (low_behind from lo n B (n + B) (omega arith) low) (high_back hi to a (horizon p) high) x.0 w
      (seen_from lo u x.0 b n (right_max a b) lu (precedes_le j u (later x.0 b) x.1.begins))
      (seen_by hi u x.0 a (precedes_le i (later x.0 a) u x.1.ends) hu)
      (seen_from lo v w b n (right_max a b) lv (precedes_le j v (later w b) win.begins))
      (seen_by hi v w a (precedes_le i (later w a) v win.ends) hv) (each x.0 x.1)
  stays_historically a None i j p on lo hi low high u v lu hu lv hv each w win =
      let B = looks_back p in
      elim (le_or_lt w (by lo (behind a))) [
        | inl early ↦ each w
            (record {
              inside = win.inside;
              begins = tt;
              ends = precedes_of_lt i (later w a) u (lt_of_le_of_lt (below (start tr) (stop tr) lo w a early) lu);
            })
        | inr late ↦
            let x = some_open (start tr) (stop tr) a i j (by lo (behind a)) u (le_trans begins (from_back from lo a B (a + B) (omega arith) low))
            (before_end lo u a lu) (to_stop hi u (horizon p - a) high hu) in
            on (by lo (behind a)) (by hi (behind a)) (low_behind from lo a B (a + B) (omega arith) low) (high_back hi to a (horizon p) high) x.0 w x.2
            (seen_by hi u x.0 a (precedes_le i (later x.0 a) u x.1.ends) hu) late
            (seen_by hi v w a (precedes_le i (later w a) v win.ends) hv) (each x.0 x.1)
      ]

  -- the left input of since holds up to v, where it held from a time on up to u
  holds_on : (p : Subformula) (lo hi : Rational) → StaysOn p tr lo hi → (u v w : Rational) → lo <ʳ u → u ≤ʳ hi → v ≤ʳ hi → w ≤ʳ u
      → ((y : Rational) → Within w u y → Truth p tr y) → (y : Rational) → Within w v y → Truth p tr y
  holds_on p lo hi on u v w lu hu hv wu ps y inside =
      elim (le_or_lt y u) [
        | inl l ↦ ps y (record { above = inside.above; below = l })
        | inr l ↦ on u y lu hu (lt_trans lu l) (le_trans inside.below hv) (ps u (record { above = wu; below = le_refl u }))
      ]

  stays_since : (a : ℕ) (b : Option ℕ) (p q : Subformula) → Stays p → Stays q → Stays (since a b p q)
  stays_since a (Some b) p q on_p on_q lo hi low high u v lu hu lv hv (w, win, qw, ps) =
      let A = max (horizon p) (horizon q - a) in
      let B = max (looks_back p) (looks_back q) in
      let n = max a b in
      let back = low_behind from lo n B (n + B) (omega arith) low in
      let x = some_behind (start tr) (stop tr) a b true true u w v win
      (sees_from lo v b B (n + B) (bound_sum a b B) low lv) (to_stop hi v A high hv) in
      let at_u = high_behind_of (start tr) (stop tr) a (Some b) true true u w win in
      let at_v = high_behind_of (start tr) (stop tr) a (Some b) true true v x.0 x.1 in
      let seen = seen_from lo v x.0 b n (right_max a b) lv x.1.begins in
      let inside : by lo (behind n) <ʳ u = lt_of_le_of_lt (down (start tr) (stop tr) lo n) lu in (
        x.0,
        x.1,
        on_q (by lo (behind n)) (by hi (behind a)) (low_part from (by lo (behind n)) (looks_back q) B (right_max (looks_back p) (looks_back q)) back)
            (high_back hi to a (horizon q) (high_part hi to (horizon q - a) A (right_max (horizon p) (horizon q - a)) high)) w x.0
            (seen_from lo u w b n (right_max a b) lu win.begins) (seen_by hi u w a win.ends hu) seen (seen_by hi v x.0 a x.1.ends hv) qw,
        λ y h.
            on_p (by lo (behind n)) hi (low_part from (by lo (behind n)) (looks_back p) B (left_max (looks_back p) (looks_back q)) back)
            (high_part hi to (horizon p) A (left_max (horizon p) (horizon q - a)) high) u y
            inside hu (lt_of_lt_of_le seen h.above) (le_trans h.below hv)
            (ps u (record { above = at_u; below = le_refl u })),
      )
  stays_since a None p q on_p on_q lo hi low high u v lu hu lv hv (w, win, qw, ps) =
      let A = max (horizon p) (horizon q - a) in
      let B = max (looks_back p) (looks_back q) in
      let back = low_behind from lo a B (a + B) (omega arith) low in
      let at_u = high_behind_of (start tr) (stop tr) a None true true u w win in
      let inside : by lo (behind a) <ʳ u = lt_of_le_of_lt (down (start tr) (stop tr) lo a) lu in
      let on = on_p (by lo (behind a)) hi (low_part from (by lo (behind a)) (looks_back p) B (left_max (looks_back p) (looks_back q)) back)
      (high_part hi to (horizon p) A (left_max (horizon p) (horizon q - a)) high) in
      elim (le_or_lt w (by lo (behind a))) [
        | inl early ↦ (
          w,
          record {
            inside = win.inside;
            begins = tt;
            ends = le_of_lt (lt_of_le_of_lt (below (start tr) (stop tr) lo w a early) lv);
          },
          qw,
          holds_on p (by lo (behind a)) hi on u v w inside hu hv at_u ps,
        )
        | inr late ↦
            let x = some_open (start tr) (stop tr) a true true (by lo (behind a)) v
            (le_trans begins (from_back from lo a B (a + B) (omega arith) low)) (before_end lo v a lv) (to_stop hi v A high hv) in
            let at_v = high_behind_of (start tr) (stop tr) a None true true v x.0 x.1 in (
              x.0,
              x.1,
              on_q (by lo (behind a)) (by hi (behind a)) (low_part from (by lo (behind a)) (looks_back q) B (right_max (looks_back p) (looks_back q)) back)
                  (high_back hi to a (horizon q) (high_part hi to (horizon q - a) A (right_max (horizon p) (horizon q - a)) high)) w x.0
                  late (seen_by hi u w a win.ends hu) x.2 (seen_by hi v x.0 a x.1.ends hv) qw,
              λ y h. on u y inside hu (lt_of_lt_of_le x.2 h.above) (le_trans h.below hv) (ps u (record { above = at_u; below = le_refl u })),
            )
      ]

  -- both inputs of a connective
  both_part : (p q : Subformula) (lo hi : Rational) → later from (max (looks_back p) (looks_back q)) ≤ʳ lo
      → later hi (max (horizon p) (horizon q)) ≤ʳ to → Stays p → Stays q → StaysOn p tr lo hi × StaysOn q tr lo hi
  both_part p q lo hi low high on_p on_q =
      let A = max (horizon p) (horizon q) in
      let B = max (looks_back p) (looks_back q) in (
        on_p lo hi (low_part from lo (looks_back p) B (left_max (looks_back p) (looks_back q)) low)
            (high_part hi to (horizon p) A (left_max (horizon p) (horizon q)) high),
        on_q lo hi (low_part from lo (looks_back q) B (right_max (looks_back p) (looks_back q)) low)
            (high_part hi to (horizon q) A (right_max (horizon p) (horizon q)) high),
      )

  stays : (p : Subformula) → AtomsStay p tr from to → Stays p
  stays (constant b) atoms = λ lo hi low high u v lu hu lv hv h. h
  stays (atom i a) atoms = λ lo hi low high u v lu hu lv hv h.
      let begin = le_trans (later_from from 0) low in
      let end = le_trans (later_from hi 0) high in
      atoms u v (lt_of_le_of_lt begin lu) (le_trans hu end) (lt_of_le_of_lt begin lv) (le_trans hv end) h
  stays (negation p) atoms = λ lo hi low high u v lu hu lv hv not_u at_v. not_u (stays p atoms lo hi low high v u lv hv lu hu at_v)
  stays (conjunction p q) atoms = λ lo hi low high u v lu hu lv hv h.
      let on = both_part p q lo hi low high (stays p atoms.0) (stays q atoms.1) in (on.0 u v lu hu lv hv h.0, on.1 u v lu hu lv hv h.1)
  stays (disjunction p q) atoms = λ lo hi low high u v lu hu lv hv h.
      let on = both_part p q lo hi low high (stays p atoms.0) (stays q atoms.1) in
      elim h [ inl x ↦ inl (on.0 u v lu hu lv hv x) | inr x ↦ inr (on.1 u v lu hu lv hv x) ]
  stays (implication p q) atoms = λ lo hi low high u v lu hu lv hv h.
      let on = both_part p q lo hi low high (stays p atoms.0) (stays q atoms.1) in
      λ x. on.1 u v lu hu lv hv (h (on.0 v u lv hv lu hu x))
  stays (until a b p q) atoms = stays_until a b p q (stays p atoms.0) (stays q atoms.1)
  stays (eventually a b i j p) atoms = stays_eventually a b i j p (stays p atoms)
  stays (always a b i j p) atoms = stays_always a b i j p (stays p atoms)
  stays (since a b p q) atoms = stays_since a b p q (stays p atoms.0) (stays q atoms.1)
  stays (once a b i j p) atoms = stays_once a b i j p (stays p atoms)
  stays (historically a b i j p) atoms = stays_historically a b i j p (stays p atoms)

pub steady_atoms_keep_truths : SteadyAtomsKeepTruths
steady_atoms_keep_truths p tr from to begins ends atoms = stays tr from to begins ends p atoms

-- the truth at one time is that of the times after it
truth_on : (p : Subformula) (tr : Trace) (lo g f : Rational) → StaysOn p tr lo f → lo <ʳ g → g <ʳ f → (b : Bool) → Is b (Truth p tr) g → (t : Rational)
    → g <ʳ t → t ≤ʳ f → Is b (Truth p tr) t
truth_on p tr lo g f on low rise true h t l u = on g t low (le_of_lt rise) (lt_trans low l) u h
truth_on p tr lo g f on low rise false h t l u = λ there. h (on t g (lt_trans low l) u low (le_of_lt rise) there)

pub steady_atoms_answer_once : SteadyAtomsAnswerOnce
steady_atoms_answer_once p tr from g f v start_first atoms low rise high is begin end =
    lead_describes p tr (left_open g f) (v ∷ []) (Some v.holds) (inl rise) (
      begin,
      some_verdict v,
      (λ e. (let x = e in cc)),
      told_same v.holds (Truth p tr) (record { at = g; after = true }) (record { at = f; after = true }) (begins (interval v.on)) (ends (interval v.on)) begin
          (same_places end) all,
      (end, refl),
    )
  where
    on : StaysOn p tr (later from (looks_back p)) f
    on = steady_atoms_keep_truths p tr from (stop tr) start_first (le_refl (stop tr)) atoms (later from (looks_back p)) f
        (le_refl (later from (looks_back p))) high

    all : AllAre v.holds (Truth p tr) (record { at = g; after = true }) (record { at = f; after = true })
    all t l u = truth_on p tr (later from (looks_back p)) g f on low rise v.holds is t l u
