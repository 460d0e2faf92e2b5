-- About a time the truth of a formula only begins, or only ends, if that of each input does so about that time, moved by a bound of its window. Where
-- it does neither, it is one.
use Rattle.std.proofs.Common.{ℕ, ◌+◌, ◌*◌, ◌≤◌, Bool, true, false, not, subst, sym, arith, inl, inr, pos, Option, Some, None}
use Rattle.std.proofs.Math.Nat.{mul-le-mul_left}
use Rattle.rational.specs.Time.{Rational, ◌≤ʳ◌, ◌<ʳ◌, ◌≈◌, whole, later, Within, Precedes}
use Rattle.rational.specs.Windows.{Ahead, Behind}
use Rattle.rational.proofs.Order.{le_refl, le_of_lt, lt_of_lt_of_le, le_trans, le_or_lt, not_lt_of_le}
use Rattle.rational.proofs.TimeLemmas.{precedes_of_lt, precedes_after, precedes_before, later_from}
use Rattle.stl_syntax.specs.Trace.{Trace, start, stop, first_time}
use Rattle.stl_syntax.specs.Formula.{Subformula, constant, negation, conjunction, disjunction}
use Rattle.stl_syntax.specs.Formula.{implication, until, eventually, always, since, once, historically}
use Rattle.stl_syntax.specs.Truth.{Truth}
use Rattle.bounds.proofs.NearTimes.{Move, by, ahead, behind, one_before, one_after, Near, IsNear, soon}
use Rattle.bounds.proofs.NearTimes.{between, within_both, lt_by, pulled, pushed, clear_of, stays}
use Rattle.bounds.proofs.MovedWindows.{InWindow, Ordered, Beside, moved_on, moved_back}

-- any two times of a stretch about t have one truth
pub record Calm (p : Subformula) (tr : Trace) (t : Rational) : Type 0 where
  -- a stretch about the time
  pub near : Near t
  -- on it the formula has one truth
  pub alike : (u v : Rational) → IsNear near u → IsNear near v → Truth p tr u → Truth p tr v

-- windows ahead
pub ahead_in : {S T : Rational} (a b : ℕ) (i j : Bool) (x u : Rational) → Ahead S T a b i j x u → InWindow S T (ahead a) (ahead b) i j x u
ahead_in a b i j x u w = record {
  inside = w.inside;
  begins = precedes_after i (by x (ahead a)) (later x a) u (record { le = omega arith }) w.begins;
  ends = precedes_before j u (later x b) (by x (ahead b)) w.ends (record { le = omega arith });
}

-- a time in a window from a to b is one of the window ahead
pub ahead_out : {S T : Rational} (a b : ℕ) (i j : Bool) (x u : Rational) → InWindow S T (ahead a) (ahead b) i j x u → Ahead S T a b i j x u
ahead_out a b i j x u w = record {
  inside = w.inside;
  begins = precedes_after i (later x a) (by x (ahead a)) u (record { le = omega arith }) w.begins;
  ends = precedes_before j u (by x (ahead b)) (later x b) w.ends (record { le = omega arith });
}

-- an order against a number that is earlier
into : (i : Bool) (a : ℕ) (t u : Rational) → Precedes i (later u a) t → Precedes i u (by t (behind a))
into true a t u h = record { le = omega (arith, h.le) }
into false a t u h = record { lt = omega (arith, h.lt) }

out_of : (i : Bool) (a : ℕ) (t u : Rational) → Precedes i u (by t (behind a)) → Precedes i (later u a) t
out_of true a t u h = record { le = omega (arith, h.le) }
out_of false a t u h = record { lt = omega (arith, h.lt) }

since_in : (i : Bool) (b : ℕ) (t u : Rational) → Precedes i t (later u b) → Precedes i (by t (behind b)) u
since_in true b t u h = record { le = omega (arith, h.le) }
since_in false b t u h = record { lt = omega (arith, h.lt) }

since_out : (i : Bool) (b : ℕ) (t u : Rational) → Precedes i (by t (behind b)) u → Precedes i t (later u b)
since_out true b t u h = record { le = omega (arith, h.le) }
since_out false b t u h = record { lt = omega (arith, h.lt) }

-- how far back a window with no bound need look from times about t
abbrev pub low_of : Rational → Option ℕ → Move
low_of t None = behind (t.up + 2)
low_of t (Some b) = behind b

far_back : (s : ℕ) (t x : Rational) → x <ʳ by t (ahead 1) → by x (behind (t.up + 2)) <ʳ whole (pos s)
far_back s t x h = lt_of_lt_of_le (lt_by (behind (t.up + 2)) h) small
  where
    small : by (by t (ahead 1)) (behind (t.up + 2)) ≤ʳ whole (pos s)
    small = record {
      le = let m : t.up * 1 ≤ t.up * t.den = mul-le-mul_left t.up (let p = t.positive in omega arith) in
          let p = t.positive in
          omega (arith, m, p);
    }

-- windows behind
pub behind_in : (s : ℕ) (T t : Rational) (a : ℕ) (b : Option ℕ) (i j : Bool) (x u : Rational) → x <ʳ by t (ahead 1)
    → Behind (whole (pos s)) T a b j i x u → InWindow (whole (pos s)) T (low_of t b) (behind a) i j x u
behind_in s T t a None i j x u h w = record {
  inside = w.inside;
  begins = precedes_of_lt i (by x (behind (t.up + 2))) u (lt_of_lt_of_le (far_back s t x h) w.inside.above);
  ends = into j a x u w.ends;
}
behind_in s T t a (Some b) i j x u h w = record { inside = w.inside; begins = since_in i b x u w.begins; ends = into j a x u w.ends }

-- a time in a window from b behind to a behind is one of the window behind
pub behind_out : (s : ℕ) (T t : Rational) (a : ℕ) (b : Option ℕ) (i j : Bool) (x u : Rational)
    → InWindow (whole (pos s)) T (low_of t b) (behind a) i j x u → Behind (whole (pos s)) T a b j i x u
behind_out s T t a None i j x u w = record { inside = w.inside; begins = tt; ends = out_of j a x u w.ends }
behind_out s T t a (Some b) i j x u w = record { inside = w.inside; begins = since_out i b x u w.begins; ends = out_of j a x u w.ends }

-- about t the truth goes on from a time to each later one, so that it only begins; or to each earlier one, so that it only ends
pub record Keeps (on : Bool) (p : Subformula) (tr : Trace) (t : Rational) : Type 0 where
  -- a stretch about the time
  pub near : Near t
  -- on it the truth goes on
  pub keeps : (u v : Rational) → IsNear near u → IsNear near v → Ordered on u v → Truth p tr u → Truth p tr v

-- one truth goes on both ways
pub keeps_of_calm : (on : Bool) (p : Subformula) (tr : Trace) (t : Rational) → Calm p tr t → Keeps on p tr t
keeps_of_calm on p tr t c = record { near = c.near; keeps = λ u v x y o h. c.alike u v x y h }

-- and what goes on both ways is one
pub calm_of_keeps : (p : Subformula) (tr : Trace) (t : Rational) → Keeps true p tr t → Keeps false p tr t → Calm p tr t
calm_of_keeps p tr t a b =
    let n = within_both a.near b.near in record {
      near = n.near;
      alike = λ u v x y h. elim (le_or_lt u v) [
        | inl le ↦ a.keeps u v (n.first u x) (n.first v y) le h
        | inr lt ↦ b.keeps u v (n.second u x) (n.second v y) (le_of_lt lt) h
      ];
    }

-- a stretch about t that lies in the domain all or not at all, and where it lies there the truth goes on
pub record Edge (on : Bool) (p : Subformula) (tr : Trace) (t : Rational) : Type 0 where
  -- a stretch about the time
  pub near : Near t
  -- it lies in the domain all or not at all
  pub stays_in : (u v : Rational) → IsNear near u → IsNear near v → Within (start tr) (stop tr) u → Within (start tr) (stop tr) v
  -- where it lies there, the truth goes on
  pub keeps : (u v : Rational) → IsNear near u → IsNear near v → Ordered on u v → Within (start tr) (stop tr) u → Truth p tr u → Truth p tr v

-- a time that is neither the start nor the end has one, where the truth goes on about it
pub edge_of_keeps : (on : Bool) (p : Subformula) (tr : Trace) (t : Rational) → Keeps on p tr t → ¬ (t ≈ start tr) → ¬ (t ≈ stop tr) → Edge on p tr t
edge_of_keeps on p tr t c first last =
    let a = clear_of (start tr) t first in
    let b = clear_of (stop tr) t last in
    let ab = within_both a.near b.near in
    let all = within_both c.near ab.near in record {
      near = all.near;
      stays_in = stays a b (λ u h. ab.first u (all.second u h)) (λ u h. ab.second u (all.second u h));
      keeps = λ u v x y o w h. c.keeps u v (all.first u x) (all.first v y) o h;
    }

-- and so has each time before the start
pub edge_before : (on : Bool) (p : Subformula) (tr : Trace) (t : Rational) → t <ʳ start tr → Edge on p tr t
edge_before on p tr t h = record {
  near = record { from = by t (behind 1); to = start tr; before = one_before t; after = h };
  stays_in = λ u v x y w. absurd (not_lt_of_le w.above x.below);
  keeps = λ u v x y o w k. absurd (not_lt_of_le w.above x.below);
}

-- how far back a window with no bound looks from t: to before the start
pub far_edge : (on : Bool) (p : Subformula) (tr : Trace) (t : Rational) → Edge on p tr (by t (low_of t None))
far_edge on p tr t = edge_before on p tr (by t (behind (t.up + 2))) (far_back (first_time tr.rows) t t (one_after t))

-- a time and one beside it have the truth that goes on
beside_keeps : {S T : Rational} {lo hi : Move} {i j on : Bool} {y u s : Rational} (p : Subformula) (tr : Trace) (e : Edge on p tr s)
    → Within (start tr) (stop tr) u → (m : Beside S T lo hi i j on e.near y u) → Truth p tr u → Truth p tr m.time
beside_keeps {u = u} p tr e w m k = elim m.beside [
  | inl same ↦ subst (λ z. Truth p tr z) same k
  | inr (a, b, o) ↦ e.keeps u m.time a b o w k
]

-- what is not so ends where it begins
turned : (on : Bool) (u v : Rational) → Ordered (not on) u v → Ordered on v u
turned true u v h = h
turned false u v h = h

turned_back : (on : Bool) (u v : Rational) → Ordered on u v → Ordered (not on) v u
turned_back true u v h = h
turned_back false u v h = h

-- and the other way round
back_beside : {S T : Rational} {lo hi : Move} {i j : Bool} {y u s : Rational} (on : Bool) (p : Subformula) {tr : Trace} (e : Edge on p tr s)
    → (m : Beside S T lo hi i j (not on) e.near y u) → Within (start tr) (stop tr) m.time → Truth p tr m.time → Truth p tr u
back_beside {u = u} on p {tr} e m w k = elim m.beside [
  | inl same ↦ subst (λ z. Truth p tr z) (sym same) k
  | inr (a, b, o) ↦ e.keeps m.time u b a (turned on u m.time o) w k
]

-- what lies between the two has the truth too
after_beside : {S T : Rational} {lo hi : Move} {i j : Bool} {y u s : Rational} (p : Subformula) {tr : Trace} (e : Edge true p tr s)
    → Within (start tr) (stop tr) u → (m : Beside S T lo hi i j true e.near y u) → Truth p tr u → (z : Rational) → u <ʳ z → z ≤ʳ m.time → Truth p tr z
after_beside {u = u} p e w m k z late soon = elim m.beside [
  | inl same ↦ absurd (not_lt_of_le (subst (λ x. z ≤ʳ x) (sym same) soon) late)
  | inr (a, b, o) ↦ e.keeps u z a (between e.near a b (le_of_lt late) soon) (le_of_lt late) w k
]

before_beside : {S T : Rational} {lo hi : Move} {i j : Bool} {y u s : Rational} (p : Subformula) {tr : Trace} (e : Edge false p tr s)
    → Within (start tr) (stop tr) u → (m : Beside S T lo hi i j false e.near y u) → Truth p tr u → (z : Rational) → z <ʳ u → m.time ≤ʳ z → Truth p tr z
before_beside {u = u} p e w m k z soon late = elim m.beside [
  | inl same ↦ absurd (not_lt_of_le (subst (λ x. x ≤ʳ z) (sym same) late) soon)
  | inr (a, b, o) ↦ e.keeps u z a (between e.near b a late (le_of_lt soon)) (le_of_lt soon) w k
]

-- the one is not after the other, or not before it
beside_before : {S T : Rational} {lo hi : Move} {i j : Bool} {y u s : Rational} (L : Near s) (m : Beside S T lo hi i j false L y u) → m.time ≤ʳ u
beside_before {u = u} L m = elim m.beside [ inl same ↦ subst (λ z. z ≤ʳ u) same (le_refl u) | inr (a, b, o) ↦ o ]

beside_after : {S T : Rational} {lo hi : Move} {i j : Bool} {y u s : Rational} (L : Near s) (m : Beside S T lo hi i j true L y u) → u ≤ʳ m.time
beside_after {u = u} L m = elim m.beside [ inl same ↦ subst (λ z. u ≤ʳ z) same (le_refl u) | inr (a, b, o) ↦ o ]

module _ (tr : Trace) where
  abbrev s : ℕ
  s = first_time tr.rows

  -- a constant has one truth
  pub calm_constant : (b : Bool) (t : Rational) → Calm (constant b) tr t
  calm_constant b t = record { near = soon t; alike = λ u v x y h. h }

  -- what is not so has one
  pub calm_negation : (p : Subformula) (t : Rational) → Calm p tr t → Calm (negation p) tr t
  calm_negation p t c = record { near = c.near; alike = λ u v x y h k. h (c.alike v u y x k) }

  -- a connective has one where both sides have
  pub calm_conjunction : (p q : Subformula) (t : Rational) → Calm p tr t → Calm q tr t → Calm (conjunction p q) tr t
  calm_conjunction p q t a b =
      let n = within_both a.near b.near in record {
        near = n.near;
        alike = λ u v x y h. (a.alike u v (n.first u x) (n.first v y) h.0, b.alike u v (n.second u x) (n.second v y) h.1);
      }

  -- where one of two holds
  pub calm_disjunction : (p q : Subformula) (t : Rational) → Calm p tr t → Calm q tr t → Calm (disjunction p q) tr t
  calm_disjunction p q t a b =
      let n = within_both a.near b.near in record {
        near = n.near;
        alike = λ u v x y h. elim h [ inl k ↦ inl (a.alike u v (n.first u x) (n.first v y) k) | inr k ↦ inr (b.alike u v (n.second u x) (n.second v y) k) ];
      }

  -- where one implies the other
  pub calm_implication : (p q : Subformula) (t : Rational) → Calm p tr t → Calm q tr t → Calm (implication p q) tr t
  calm_implication p q t a b =
      let n = within_both a.near b.near in record {
        near = n.near;
        alike = λ u v x y h k. b.alike u v (n.second u x) (n.second v y) (h (a.alike v u (n.first v y) (n.first u x) k));
      }

  -- what is not so goes on the other way
  pub keeps_negation : (on : Bool) (p : Subformula) (t : Rational) → Keeps (not on) p tr t → Keeps on (negation p) tr t
  keeps_negation on p t c = record { near = c.near; keeps = λ u v x y o h k. h (c.keeps v u y x (turned_back on u v o) k) }

  -- both
  pub keeps_conjunction : (on : Bool) (p q : Subformula) (t : Rational) → Keeps on p tr t → Keeps on q tr t → Keeps on (conjunction p q) tr t
  keeps_conjunction on p q t a b =
      let n = within_both a.near b.near in record {
        near = n.near;
        keeps = λ u v x y o h. (a.keeps u v (n.first u x) (n.first v y) o h.0, b.keeps u v (n.second u x) (n.second v y) o h.1);
      }

  -- one of two
  pub keeps_disjunction : (on : Bool) (p q : Subformula) (t : Rational) → Keeps on p tr t → Keeps on q tr t → Keeps on (disjunction p q) tr t
  keeps_disjunction on p q t a b =
      let n = within_both a.near b.near in record {
        near = n.near;
        keeps = λ u v x y o h.
            elim h [ inl k ↦ inl (a.keeps u v (n.first u x) (n.first v y) o k) | inr k ↦ inr (b.keeps u v (n.second u x) (n.second v y) o k) ];
      }

  -- the one where the other
  pub keeps_implication : (on : Bool) (p q : Subformula) (t : Rational) → Keeps (not on) p tr t → Keeps on q tr t → Keeps on (implication p q) tr t
  keeps_implication on p q t a b =
      let n = within_both a.near b.near in record {
        near = n.near;
        keeps = λ u v x y o h k.
            b.keeps u v (n.second u x) (n.second v y) o (h (a.keeps v u (n.first v y) (n.first u x) (turned_back on u v o) k));
      }

  -- the times of a window about t, by the end that goes by
  going_on : (on : Bool) (p : Subformula) (t : Rational) (lo hi : Move) (e : Edge on p tr (by t lo)) (i j : Bool) (x y : Rational)
      → IsNear (pulled lo e.near) x → IsNear (pulled lo e.near) y → x ≤ʳ y → (u : Rational) → InWindow (start tr) (stop tr) lo hi i j x u
      → Beside (start tr) (stop tr) lo hi i j true e.near y u
  going_on on p t lo hi e i j x y nx ny o u w = moved_on lo hi i j e.near e.stays_in x y (pushed lo e.near nx) (pushed lo e.near ny) o u w

  going_back : (on : Bool) (p : Subformula) (t : Rational) (lo hi : Move) (e : Edge on p tr (by t hi)) (i j : Bool) (x y : Rational)
      → IsNear (pulled hi e.near) x → IsNear (pulled hi e.near) y → y ≤ʳ x → (u : Rational) → InWindow (start tr) (stop tr) lo hi i j x u
      → Beside (start tr) (stop tr) lo hi i j false e.near y u
  going_back on p t lo hi e i j x y nx ny o u w = moved_back lo hi i j e.near e.stays_in x y (pushed hi e.near nx) (pushed hi e.near ny) o u w

  -- a window only begins where its input does so at its near end, and only ends where its input does so at its far end
  pub begins_eventually : (a b : ℕ) (i j : Bool) (p : Subformula) (t : Rational) → Edge true p tr (by t (ahead a)) → Keeps true (eventually a b i j p) tr t
  begins_eventually a b i j p t e = record {
    near = pulled (ahead a) e.near;
    keeps = λ x y nx ny o (u, w, k).
        let m = going_on true p t (ahead a) (ahead b) e i j x y nx ny o u (ahead_in a b i j x u w) in
        (m.time, ahead_out a b i j y m.time m.within, beside_keeps p tr e w.inside m k);
  }

  pub ends_eventually : (a b : ℕ) (i j : Bool) (p : Subformula) (t : Rational) → Edge false p tr (by t (ahead b)) → Keeps false (eventually a b i j p) tr t
  ends_eventually a b i j p t e = record {
    near = pulled (ahead b) e.near;
    keeps = λ x y nx ny o (u, w, k).
        let m = going_back false p t (ahead a) (ahead b) e i j x y nx ny o u (ahead_in a b i j x u w) in
        (m.time, ahead_out a b i j y m.time m.within, beside_keeps p tr e w.inside m k);
  }

  -- for every time of it, the other way round
  pub begins_always : (a b : ℕ) (i j : Bool) (p : Subformula) (t : Rational) → Edge true p tr (by t (ahead b)) → Keeps true (always a b i j p) tr t
  begins_always a b i j p t e = record {
    near = pulled (ahead b) e.near;
    keeps = λ x y nx ny o k v w.
        let m = going_back true p t (ahead a) (ahead b) e i j y x ny nx o v (ahead_in a b i j y v w) in
        back_beside true p e m m.within.inside (k m.time (ahead_out a b i j x m.time m.within));
  }

  pub ends_always : (a b : ℕ) (i j : Bool) (p : Subformula) (t : Rational) → Edge false p tr (by t (ahead a)) → Keeps false (always a b i j p) tr t
  ends_always a b i j p t e = record {
    near = pulled (ahead a) e.near;
    keeps = λ x y nx ny o k v w.
        let m = going_on false p t (ahead a) (ahead b) e i j y x ny nx o v (ahead_in a b i j y v w) in
        back_beside false p e m m.within.inside (k m.time (ahead_out a b i j x m.time m.within));
  }

  -- behind
  pub begins_once : (a : ℕ) (b : Option ℕ) (i j : Bool) (p : Subformula) (t : Rational) → Edge true p tr (by t (low_of t b))
      → Keeps true (once a b i j p) tr t
  begins_once a b i j p t e =
      let n = within_both (pulled (low_of t b) e.near) (soon t) in record {
        near = n.near;
        keeps = λ x y nx ny o (u, w, k).
            let m = going_on true p t (low_of t b) (behind a) e j i x y (n.first x nx) (n.first y ny) o u
            (behind_in s (stop tr) t a b j i x u ((n.second x nx).below) w) in
            (m.time, behind_out s (stop tr) t a b j i y m.time m.within, beside_keeps p tr e w.inside m k);
      }

  pub ends_once : (a : ℕ) (b : Option ℕ) (i j : Bool) (p : Subformula) (t : Rational) → Edge false p tr (by t (behind a)) → Keeps false (once a b i j p) tr t
  ends_once a b i j p t e =
      let n = within_both (pulled (behind a) e.near) (soon t) in record {
        near = n.near;
        keeps = λ x y nx ny o (u, w, k).
            let m = going_back false p t (low_of t b) (behind a) e j i x y (n.first x nx) (n.first y ny) o u
            (behind_in s (stop tr) t a b j i x u ((n.second x nx).below) w) in
            (m.time, behind_out s (stop tr) t a b j i y m.time m.within, beside_keeps p tr e w.inside m k);
      }

  -- behind, for every time of it
  pub begins_historically : (a : ℕ) (b : Option ℕ) (i j : Bool) (p : Subformula) (t : Rational) → Edge true p tr (by t (behind a))
      → Keeps true (historically a b i j p) tr t
  begins_historically a b i j p t e =
      let n = within_both (pulled (behind a) e.near) (soon t) in record {
        near = n.near;
        keeps = λ x y nx ny o k v w.
            let m = going_back true p t (low_of t b) (behind a) e j i y x (n.first y ny) (n.first x nx) o v
            (behind_in s (stop tr) t a b j i y v ((n.second y ny).below) w) in
            back_beside true p e m m.within.inside (k m.time (behind_out s (stop tr) t a b j i x m.time m.within));
      }

  pub ends_historically : (a : ℕ) (b : Option ℕ) (i j : Bool) (p : Subformula) (t : Rational) → Edge false p tr (by t (low_of t b))
      → Keeps false (historically a b i j p) tr t
  ends_historically a b i j p t e =
      let n = within_both (pulled (low_of t b) e.near) (soon t) in record {
        near = n.near;
        keeps = λ x y nx ny o k v w.
            let m = going_on false p t (low_of t b) (behind a) e j i y x (n.first y ny) (n.first x nx) o v
            (behind_in s (stop tr) t a b j i y v ((n.second y ny).below) w) in
            back_beside false p e m m.within.inside (k m.time (behind_out s (stop tr) t a b j i x m.time m.within));
      }

  -- until only begins where both inputs together do so at the near end
  pub begins_until : (a b : ℕ) (p q : Subformula) (t : Rational) → Edge true (conjunction p q) tr (by t (ahead a)) → Keeps true (until a b p q) tr t
  begins_until a b p q t e = record {
    near = pulled (ahead a) e.near;
    keeps = λ x y nx ny o (u, w, k, along).
        let m = going_on true (conjunction p q) t (ahead a) (ahead b) e true true x y nx ny o u (ahead_in a b true true x u w) in
        let x_u = le_trans (later_from x a) w.begins in
        let both : Truth p tr u × Truth q tr u = (along u (record { above = x_u; below = le_refl u }), k) in (
          m.time,
          ahead_out a b true true y m.time m.within,
          (beside_keeps (conjunction p q) tr e w.inside m both).1,
          λ z i. elim (le_or_lt z u) [
            | inl sooner ↦ along z (record { above = le_trans o i.above; below = sooner })
            | inr late ↦ (after_beside (conjunction p q) e w.inside m both z late i.below).0
          ],
        );
  }

  -- and only ends where the left one does so, and the right one at the far end
  pub ends_until : (a b : ℕ) (p q : Subformula) (t : Rational) → Keeps false p tr t → Edge false q tr (by t (ahead b)) → Keeps false (until a b p q) tr t
  ends_until a b p q t here e =
      let n = within_both (pulled (ahead b) e.near) here.near in record {
        near = n.near;
        keeps = λ x y nx ny o (u, w, k, along).
            let m = going_back false q t (ahead a) (ahead b) e true true x y (n.first x nx) (n.first y ny) o u (ahead_in a b true true x u w) in
            let x_u = le_trans (later_from x a) w.begins in (
              m.time,
              ahead_out a b true true y m.time m.within,
              beside_keeps q tr e w.inside m k,
              λ z i. elim (le_or_lt x z) [
                | inl late ↦ along z (record { above = late; below = le_trans i.below (beside_before e.near m) })
                | inr before ↦ here.keeps x z (n.second x nx) (between here.near (n.second y ny) (n.second x nx) i.above (le_of_lt before)) (le_of_lt before)
                    (along x (record { above = le_refl x; below = x_u }))
              ],
            );
      }

  -- since only begins where the left one does so, and the right one at the far end
  pub begins_since : (a : ℕ) (b : Option ℕ) (p q : Subformula) (t : Rational) → Keeps true p tr t → Edge true q tr (by t (low_of t b))
      → Keeps true (since a b p q) tr t
  begins_since a b p q t here e =
      let fs = within_both (pulled (low_of t b) e.near) (soon t) in
      let n = within_both fs.near here.near in record {
        near = n.near;
        keeps = λ x y nx ny o (u, w, k, along).
            let m = going_on true q t (low_of t b) (behind a) e true true x y (fs.first x (n.first x nx)) (fs.first y (n.first y ny)) o u
            (behind_in s (stop tr) t a b true true x u ((fs.second x (n.first x nx)).below) w) in
            let u_x = le_trans (later_from u a) w.ends in (
              m.time,
              behind_out s (stop tr) t a b true true y m.time m.within,
              beside_keeps q tr e w.inside m k,
              λ z i. elim (le_or_lt z x) [
                | inl sooner ↦ along z (record { above = le_trans (beside_after e.near m) i.above; below = sooner })
                | inr after ↦ here.keeps x z (n.second x nx) (between here.near (n.second x nx) (n.second y ny) (le_of_lt after) i.below) (le_of_lt after)
                    (along x (record { above = u_x; below = le_refl x }))
              ],
            );
      }

  -- and only ends where both together do so at the near end
  pub ends_since : (a : ℕ) (b : Option ℕ) (p q : Subformula) (t : Rational) → Edge false (conjunction p q) tr (by t (behind a))
      → Keeps false (since a b p q) tr t
  ends_since a b p q t e =
      let n = within_both (pulled (behind a) e.near) (soon t) in record {
        near = n.near;
        keeps = λ x y nx ny o (u, w, k, along).
            let m = going_back false (conjunction p q) t (low_of t b) (behind a) e true true x y (n.first x nx) (n.first y ny) o u
            (behind_in s (stop tr) t a b true true x u ((n.second x nx).below) w) in
            let u_x = le_trans (later_from u a) w.ends in
            let both : Truth p tr u × Truth q tr u = (along u (record { above = le_refl u; below = u_x }), k) in (
              m.time,
              behind_out s (stop tr) t a b true true y m.time m.within,
              (beside_keeps (conjunction p q) tr e w.inside m both).1,
              λ z i. elim (le_or_lt u z) [
                | inl late ↦ along z (record { above = late; below = le_trans i.below o })
                | inr before ↦ (before_beside (conjunction p q) e w.inside m both z before i.above).0
              ],
            );
      }
