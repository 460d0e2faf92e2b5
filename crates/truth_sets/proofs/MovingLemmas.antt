-- Sets that go on over a gap: where they turn, and what they tell.
use Rattle.std.proofs.Common.{◌≡◌, ℕ, ◌<◌, ◌≤◌, ◌⊎◌, inl, inr, pos, ◌<ℤ◌, ◌≤ℤ◌, Bool, true, false, not, List, [], ◌∷◌, Option, None, Some}
use Rattle.std.proofs.Common.{refl, sym, ap, subst, ◌∙◌, arith}
use Rattle.std.proofs.lemmas.Int.{ints}
use Rattle.std.specs.Prelude.{Result, Ok, Err, OnOk, MatchOption}
use Rattle.rational.specs.Time.{Rational, ◌≤ʳ◌, ◌<ʳ◌, ◌≈◌, whole}
use Rattle.rational.specs.Places.{Place, Before, Same, After, Upto, AtMost}
use Rattle.rational.proofs.Order.{lt_or_same_or_gt, le_of_lt, ge_of_same, le_refl, le_trans, lt_of_lt_of_le, lt_of_le_of_lt, not_lt_of_le}
use Rattle.rational.proofs.Shift.{lt_whole, le_whole}
use Rattle.rational.proofs.PlaceLemmas.{sides, before_trans, upto_same, after_same, same_places, same_before, before_same, before_at_most}
use Rattle.rational.proofs.PlaceLemmas.{upto_of_before, after_of_before}
use Rattle.time_sets.specs.Turns.{place}
use Rattle.time_sets.specs.Sets.{has, EndBefore, Rise}
use Rattle.time_sets.specs.Windows.{IsOf}
use Rattle.time_sets.specs.declared.turn.Turn.{Turn}
use Rattle.time_sets.specs.declared.domain.Domain.{Domain}
use Rattle.time_sets.specs.declared.times.Times.{Times}
use Rattle.atom_lines.specs.Legs.{BendsSo, LiesOver, TurnsOver, bent, jumped, turning_place}
use Rattle.atom_lines.specs.declared.passage.Turning.{Turning}
use Rattle.truth_sets.specs.Growing.{before_row, after_row, IsTidy, TurnsAt, BendsAt, JumpsAt}

-- what comes before a place comes before the same place
pub end_same : (c d : Place) (ps : List Turn) → Same c d → EndBefore c ps → EndBefore d ps
end_same c d [] s h = tt
end_same c d (p ∷ rest) s h = (before_same (place p) c d h.0 s, end_same c d rest s h.1)

-- rows in order
pub rows_lt : {m n : ℕ} → m < n → whole (pos m) <ʳ whole (pos n)
rows_lt {m} {n} h = lt_whole (let l : pos m <ℤ pos n = omega (arith, ints, h) in l)

-- and no later
pub rows_le : {m n : ℕ} → m ≤ n → whole (pos m) ≤ʳ whole (pos n)
rows_le {m} {n} h = le_whole (let l : pos m ≤ℤ pos n = omega (arith, ints, h) in l)

-- the places about rows
pub before_after : (m n : ℕ) → m ≤ n → Before (before_row m) (after_row n)
before_after m n h = elim (lt_or_same_or_gt (whole (pos m)) (whole (pos n))) [
  | inl l ↦ inl l
  | inr o ↦ elim o [ inl s ↦ inr (s, refl, refl) | inr l ↦ absurd (not_lt_of_le (rows_le h) l) ]
]

-- a set that is tidy up to a row is so up to a later one
pub tidy_later : (first m n : ℕ) (s : Times) → m ≤ n → IsTidy first m s → IsTidy first n s
tidy_later first m n s h t = record {
  order = let o = t.order in omega (arith, o, h);
  rise = t.rise;
  ends = by_order (lt_or_same_or_gt (whole (pos m)) (whole (pos n)));
  steady = λ u l. t.steady u (le_trans (rows_le h) l) ∙ sym (t.steady (whole (pos n)) (rows_le h));
  of = λ on end l a b. t.of on end (omega (arith, l, h)) a b;
}
  where
    by_order : (whole (pos m) <ʳ whole (pos n)) ⊎ (whole (pos m) ≈ whole (pos n)) ⊎ (whole (pos n) <ʳ whole (pos m)) → EndBefore (after_row n) s.turns.items
    by_order (inl l) = ends_later s.turns.items t.ends
      where
        ends_later : (ps : List Turn) → EndBefore (after_row m) ps → EndBefore (after_row n) ps
        ends_later [] e = tt
        ends_later (p ∷ rest) e = (before_trans (place p) (after_row m) (after_row n) e.0 (inl l), ends_later rest e.1)
    by_order (inr (inl e)) = end_same (after_row m) (after_row n) s.turns.items (e, refl) t.ends
    by_order (inr (inr l)) = absurd (not_lt_of_le (rows_le h) l)

-- what a set does at a place it does at the same place
turns_same : (c d : Place) (old new : Times) → Same c d → TurnsAt c old new → TurnsAt d old new
turns_same c d old new s m = record {
  before = λ t u. m.before t (upto_same d c t (same_places s) u);
  behind = λ t a. m.behind t (after_same d c t (same_places s) a);
  rise = m.rise;
  last = λ e b. m.last e (same_before c d e s b);
  of = λ on o b e. m.of on o (before_same (place on.from) d c b (same_places s)) (same_before c d (place on.to) s e);
}

-- what a call of `turn` says of a good answer
pub turns_ok : {T E : Type 0} (r : Result T E) (at : Turn) (c : Place) (old new : Times) → Same (place at) c
    → OnOk r ((t : Rational) → Upto (place at) t → has new t ≡ has old t) → OnOk r ((t : Rational) → After (place at) t → has new t ≡ not (has old t))
    → OnOk r (Rise new.turns.items) → OnOk r ((d : Place) → Before (place at) d → EndBefore d new.turns.items)
    → OnOk r ((on : Domain) → IsOf on old → Before (place on.from) (place at) → Before (place at) (place on.to) → IsOf on new)
    → OnOk r (TurnsAt c old new)
turns_ok (Ok x) at c old new s b h r l o = turns_same (place at) c old new s (record { before = b; behind = h; rise = r; last = l; of = o })
turns_ok (Err e) at c old new s b h r l o = tt

-- turns that come before a place come before a later one
ends_at_most : (c d : Place) (ps : List Turn) → AtMost c d → EndBefore c ps → EndBefore d ps
ends_at_most c d [] n h = tt
ends_at_most c d (p ∷ rest) n h = (before_at_most (place p) c d h.0 n, ends_at_most c d rest n h.1)

ends_before : (c d : Place) (ps : List Turn) → Before c d → EndBefore c ps → EndBefore d ps
ends_before c d ps b h = ends_at_most c d ps (λ t u. upto_of_before c d t b u) h

-- behind a row a set can turn on the gap
pub can_bend : (m : ℕ) (to : Rational) (turn : Option Turning) (ps : List Turn) → TurnsOver (whole (pos m)) to turn → EndBefore (after_row m) ps
    → MatchOption turn (Unit {0}) (λ x. EndBefore (turning_place x) ps)
can_bend m to None ps inside h = tt
can_bend m to (Some x) ps inside h = ends_at_most (after_row m) (turning_place x) ps inside.begins h

-- a set that is tidy up to row m goes on over the gap to row n
module _ (first m n : ℕ) (rises : m < n) (old : Times) (tidy : IsTidy first m old) (turn : Option Turning)
    (inside : TurnsOver (whole (pos m)) (whole (pos n)) turn) where
  -- what it is up to the second row: behind the gap it has all times, or none
  record IsBent (mid : Times) : Type 0 where
    rise : Rise mid.turns.items
    ends : EndBefore (before_row n) mid.turns.items
    of : (on : Domain) (end : ℕ) → n ≤ end → Same (place on.from) (before_row first) → Same (place on.to) (after_row end) → IsOf on mid
    behind : (t : Rational) → whole (pos n) ≤ʳ t → has mid t ≡ bent turn (has old (whole (pos m)))
    before : (t : Rational) → t ≤ʳ whole (pos m) → has mid t ≡ has old t
    on : (test : Rational → Bool) → BendsSo (whole (pos m)) (whole (pos n)) test (has old (whole (pos m))) turn
        → (t : Rational) → whole (pos m) <ʳ t → t <ʳ whole (pos n) → has mid t ≡ test t

  from_row : (t : Rational) → whole (pos n) ≤ʳ t → whole (pos m) ≤ʳ t
  from_row t l = le_trans (le_of_lt (rows_lt rises)) l

  of_domain : (on : Domain) (end : ℕ) → n ≤ end → Same (place on.from) (before_row first) → Same (place on.to) (after_row end) → IsOf on old
  of_domain on end l a b = tidy.of on end (omega (arith, l, rises)) a b

  is_bent : (t : Option Turning) → t ≡ turn → (mid : Times) → BendsAt t old mid → IsBent mid
  is_bent None e mid same = subst IsBent (sym same) (record {
    rise = tidy.rise;
    ends = ends_before (after_row m) (before_row n) old.turns.items (inl (rows_lt rises)) tidy.ends;
    of = of_domain;
    behind = λ t l. tidy.steady t (from_row t l) ∙ ap (λ o. bent o (has old (whole (pos m)))) e;
    before = λ t l. refl;
    on = λ test h t a b. tidy.steady t (le_of_lt a)
        ∙ sym (subst (BendsSo (whole (pos m)) (whole (pos n)) test (has old (whole (pos m)))) (sym e) h t a b);
  })
  is_bent (Some x) e mid v = record {
    rise = v.rise;
    ends = v.last (before_row n) (inl over.ends);
    of = λ on end l a b. v.of on (of_domain on end l a b)
        (before_at_most (place on.from) (after_row m) (turning_place x)
        (same_before (place on.from) (before_row first) (after_row m) a (before_after first m tidy.order)) over.begins)
        (before_same (turning_place x) (after_row end) (place on.to) (inl (lt_of_lt_of_le over.ends (rows_le l))) (same_places b));
    behind = λ t l. v.behind t (after_of_before (turning_place x) (before_row n) t (inl over.ends) l) ∙ ap not (tidy.steady t (from_row t l))
        ∙ ap (λ o. bent o (has old (whole (pos m)))) e;
    before = λ t l. v.before t (over.begins t l);
    on = λ test h t a b.
        let bends = subst (BendsSo (whole (pos m)) (whole (pos n)) test (has old (whole (pos m)))) (sym e) h in
        elim (sides (turning_place x) t) [
          | inl u ↦ v.before t u ∙ tidy.steady t (le_of_lt a) ∙ sym (bends.until_then t a u)
          | inr k ↦ v.behind t k ∙ ap not (tidy.steady t (le_of_lt a)) ∙ sym (bends.from_then t k b)
        ];
  }
    where
      over : LiesOver (whole (pos m)) (whole (pos n)) (turning_place x)
      over = subst (TurnsOver (whole (pos m)) (whole (pos n))) (sym e) inside

  -- the first of its turns is a bend, if it bends
  pub bent_ends : (mid : Times) → BendsAt turn old mid → EndBefore (before_row n) mid.turns.items
  bent_ends mid v = (is_bent turn refl mid v).ends

  -- and it rises
  pub bent_rise : (mid : Times) → BendsAt turn old mid → Rise mid.turns.items
  bent_rise mid v = (is_bent turn refl mid v).rise

  begins_before : (on : Domain) → Same (place on.from) (before_row first) → Before (place on.from) (before_row n)
  begins_before on a = same_before (place on.from) (before_row first) (before_row n) a (inl (lt_of_le_of_lt (rows_le tidy.order) (rows_lt rises)))

  -- behind the second row it is tidy again
  pub along_tidy : (jumps : Bool) (mid new : Times) → BendsAt turn old mid → JumpsAt n jumps mid new → IsTidy first n new
  along_tidy false mid new v same = subst (IsTidy first n) (sym same) (record {
    order = let o = tidy.order in omega (arith, o, rises);
    rise = b.rise;
    ends = ends_before (before_row n) (after_row n) mid.turns.items (before_after n n (let e : n ≤ n = omega arith in e)) b.ends;
    steady = λ t l. b.behind t l ∙ sym (b.behind (whole (pos n)) (le_refl (whole (pos n))));
    of = b.of;
  })
    where
      b : IsBent mid
      b = is_bent turn refl mid v
  along_tidy true mid new v w = record {
    order = let o = tidy.order in omega (arith, o, rises);
    rise = w.rise;
    ends = w.last (after_row n) (before_after n n (let e : n ≤ n = omega arith in e));
    steady = λ t l. w.behind t l ∙ ap not (b.behind t l ∙ sym (b.behind (whole (pos n)) (le_refl (whole (pos n)))))
        ∙ sym (w.behind (whole (pos n)) (le_refl (whole (pos n))));
    of = λ on end l x y. w.of on (b.of on end l x y) (begins_before on x)
        (before_same (before_row n) (after_row end) (place on.to) (before_after n end l) (same_places y));
  }
    where
      b : IsBent mid
      b = is_bent turn refl mid v

  -- up to the first row it stays what it was
  pub along_before : (jumps : Bool) (mid new : Times) → BendsAt turn old mid → JumpsAt n jumps mid new
      → (t : Rational) → t ≤ʳ whole (pos m) → has new t ≡ has old t
  along_before false mid new v same t l = ap (λ s. has s t) same ∙ (is_bent turn refl mid v).before t l
  along_before true mid new v w t l = w.before t (lt_of_le_of_lt l (rows_lt rises)) ∙ (is_bent turn refl mid v).before t l

  -- and behind it, up to the second, it tells the test that goes so
  pub along_tells : (test : Rational → Bool) (jumps : Bool) (mid new : Times) → BendsAt turn old mid → JumpsAt n jumps mid new
      → BendsSo (whole (pos m)) (whole (pos n)) test (has old (whole (pos m))) turn
      → ((t : Rational) → t ≈ whole (pos n) → test t ≡ jumped jumps (bent turn (has old (whole (pos m)))))
      → (t : Rational) → whole (pos m) <ʳ t → t ≤ʳ whole (pos n) → has new t ≡ test t
  along_tells test false mid new v same bends there t a l = subst (λ s. has s t ≡ test t) (sym same) (elim (lt_or_same_or_gt t (whole (pos n))) [
    | inl k ↦ b.on test bends t a k
    | inr o ↦ elim o [ inl e ↦ b.behind t (ge_of_same e) ∙ sym (there t e) | inr k ↦ absurd (not_lt_of_le l k) ]
  ])
    where
      b : IsBent mid
      b = is_bent turn refl mid v
  along_tells test true mid new v w bends there t a l = elim (lt_or_same_or_gt t (whole (pos n))) [
    | inl k ↦ w.before t k ∙ b.on test bends t a k
    | inr o ↦ elim o [ inl e ↦ w.behind t (ge_of_same e) ∙ ap not (b.behind t (ge_of_same e)) ∙ sym (there t e) | inr k ↦ absurd (not_lt_of_le l k) ]
  ]
    where
      b : IsBent mid
      b = is_bent turn refl mid v

-- a set without turns is tidy at its first row
pub constant_tidy : (n : ℕ) (s : Times) (holds : Bool) → s.turns.items ≡ [] → ((t : Rational) → has s t ≡ holds) → ((on : Domain) → IsOf on s) → IsTidy n n s
constant_tidy n s holds e h o = record {
  order = let l : n ≤ n = omega arith in l;
  rise = subst Rise (sym e) tt;
  ends = subst (EndBefore (after_row n)) (sym e) tt;
  steady = λ t l. h t ∙ sym (h (whole (pos n)));
  of = λ on end l a b. o on;
}
