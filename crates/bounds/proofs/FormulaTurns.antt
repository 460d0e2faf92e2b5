-- A formula's truth turns only at few times of a stretch: by its inputs' few times, moved.
use Rattle.std.specs.Prelude.{max}
use Rattle.std.proofs.Common.{◌≡◌, refl, ℕ, suc, ◌+◌, ◌*◌, ◌≤◌, Bool, true, false, not, List, [], ◌∷◌, ◌++◌, length, length-append, arith, inl, inr}
use Rattle.std.proofs.Common.{Option, Some, None}
use Rattle.std.proofs.Math.Nat.{mul-le-mul_right, mul-le-mul_left}
use Rattle.rational.specs.Time.{Rational, ◌≤ʳ◌, ◌≈◌, later, Within}
use Rattle.rational.proofs.Order.{le_trans}
use Rattle.rational.proofs.TimeLemmas.{later_more}
use Rattle.stl_syntax.specs.Trace.{Trace, start, stop}
use Rattle.stl_syntax.specs.Formula.{Subformula, constant, atom, negation, conjunction, disjunction}
use Rattle.stl_syntax.specs.Formula.{implication, until, eventually, always, since, once, historically}
use Rattle.stl_syntax.specs.Cells.{IsAmong}
use Rattle.stl_syntax.specs.declared.atom.Atom.{Atom}
use Rattle.bounds.specs.Turns.{Turns, AreTurns, TurnsAreFew, rows_within, earlier, looks_ahead, looks_back, far, begins_for_a_row, turns_for_a_row}
use Rattle.bounds.proofs.NearTimes.{Move, by, back, ahead, behind}
use Rattle.bounds.proofs.CalmWindows.{Calm, Keeps, keeps_of_calm, calm_of_keeps, Edge, edge_of_keeps, far_edge, low_of}
use Rattle.bounds.proofs.CalmWindows.{calm_constant, calm_negation, calm_conjunction, calm_disjunction, calm_implication}
use Rattle.bounds.proofs.CalmWindows.{keeps_negation, keeps_conjunction, keeps_disjunction, keeps_implication, begins_eventually, ends_eventually}
use Rattle.bounds.proofs.CalmWindows.{begins_always, ends_always, begins_once, ends_once, begins_historically, ends_historically}
use Rattle.bounds.proofs.CalmWindows.{begins_until, ends_until, begins_since, ends_since}
use Rattle.bounds.proofs.FewTimes.{among_or_not, among_left, among_right, moved_back, moved_count, among_moved, AreAmong, RisesFrom, rises, no_more}
use Rattle.bounds.proofs.AtomTurns.{atom_times, wider}

-- so many times at most are all at which the formula may turn in the stretch
pub record Few (p : Subformula) (tr : Trace) (lo hi : Rational) (count : ℕ) : Type 0 where
  -- the times
  pub times_of : List Rational
  -- they are few
  pub few : length times_of ≤ count
  -- about each other time of the stretch the formula has one truth
  pub calm : (t : Rational) → Within lo hi t → ¬ (IsAmong times_of t) → Calm p tr t

-- so many at most are all at which its truth may end there, or begin
record FewKeep (on : Bool) (p : Subformula) (tr : Trace) (lo hi : Rational) (count : ℕ) : Type 0 where
  times_of : List Rational
  few : length times_of ≤ count
  keeps : (t : Rational) → Within lo hi t → ¬ (IsAmong times_of t) → Keeps on p tr t

-- and about each other time, moved
record Edged (on : Bool) (p : Subformula) (tr : Trace) (lo hi : Rational) (k : Rational → Move) (count : ℕ) : Type 0 where
  times_of : List Rational
  few : length times_of ≤ count
  edge : (t : Rational) → Within lo hi t → ¬ (IsAmong times_of t) → Edge on p tr (by t (k t))

-- a time of a stretch, both moved
pub moved_within : {lo hi t : Rational} (k : Move) → Within lo hi t → Within (by lo k) (by hi k) (by t k)
moved_within {lo} {hi} {t} k w = record {
  above = record { le = let p = w.above.le in omega (arith, p) };
  below = record { le = let p = w.below.le in omega (arith, p) };
}

back_of : {t s : Rational} (k : Move) → by t k ≈ s → t ≈ by s (back k)
back_of {t} {s} k e = record { same = let p = e.same in omega (arith, p) }

-- the times of the moved stretch, moved back, and those that come to the start or the end
edged : (on : Bool) (p : Subformula) (tr : Trace) (lo hi : Rational) (k : Move) (count : ℕ) → FewKeep on p tr (by lo k) (by hi k) count
    → Edged on p tr lo hi (λ t. k) (count + 2)
edged on p tr lo hi k count f = record {
  times_of = by (start tr) (back k) ∷ by (stop tr) (back k) ∷ moved_back k f.times_of;
  few = let a = f.few in let b = moved_count k f.times_of in omega (arith, a, b);
  edge = λ t w apart.
      edge_of_keeps on p tr (by t k) (f.keeps (by t k) (moved_within k w) (λ h. apart (inr (inr (among_moved k f.times_of t h)))))
      (λ e. apart (inl (back_of k e))) (λ e. apart (inr (inl (back_of k e))));
}

-- the far end of a window behind
far_edged : (on : Bool) (p : Subformula) (tr : Trace) (lo hi : Rational) (b : Option ℕ) (count : ℕ)
    → ((n : ℕ) → b ≡ Some n → FewKeep on p tr (by lo (behind n)) (by hi (behind n)) count) → Edged on p tr lo hi (λ t. low_of t b) (count + 2)
far_edged on p tr lo hi None count f = record { times_of = []; few = omega arith; edge = λ t w apart. far_edge on p tr t }
far_edged on p tr lo hi (Some n) count f =
    let e = edged on p tr lo hi (behind n) count (f n refl) in record { times_of = e.times_of; few = e.few; edge = e.edge }

-- two lists are as long as both
pub both_few : {n m : ℕ} (xs ys : List Rational) → length xs ≤ n → length ys ≤ m → length (xs ++ ys) ≤ n + m
both_few xs ys a b = let e = length-append xs ys in omega (arith, e, a, b)

-- of two formulas, where what has one truth about a time where both have
joined : (p q r : Subformula) (tr : Trace) (lo hi : Rational) (n m : ℕ) → ((t : Rational) → Calm p tr t → Calm q tr t → Calm r tr t)
    → Few p tr lo hi n → Few q tr lo hi m → Few r tr lo hi (n + m)
joined p q r tr lo hi n m join f g = record {
  times_of = f.times_of ++ g.times_of;
  few = both_few f.times_of g.times_of f.few g.few;
  calm = λ t w apart.
      join t (f.calm t w (λ h. apart (among_left f.times_of g.times_of t h))) (g.calm t w (λ h. apart (among_right f.times_of g.times_of t h)));
}

-- where its truth begins or ends
of_both : (p : Subformula) (tr : Trace) (lo hi : Rational) (n m : ℕ) → n + n ≤ m → FewKeep true p tr lo hi n → FewKeep false p tr lo hi n
    → Few p tr lo hi m
of_both p tr lo hi n m h f g = record {
  times_of = f.times_of ++ g.times_of;
  few = let k = both_few f.times_of g.times_of f.few g.few in omega (arith, h, k);
  calm = λ t w apart.
      calm_of_keeps p tr t (f.keeps t w (λ h. apart (among_left f.times_of g.times_of t h)))
      (g.keeps t w (λ h. apart (among_right f.times_of g.times_of t h)));
}

-- of two formulas, where what goes on where both do
joined_keep : (on this that : Bool) (p q r : Subformula) (tr : Trace) (lo hi : Rational) (n m : ℕ)
    → ((t : Rational) → Keeps this p tr t → Keeps that q tr t → Keeps on r tr t) → FewKeep this p tr lo hi n → FewKeep that q tr lo hi m
    → FewKeep on r tr lo hi (n + m)
joined_keep on this that p q r tr lo hi n m join f g = record {
  times_of = f.times_of ++ g.times_of;
  few = both_few f.times_of g.times_of f.few g.few;
  keeps = λ t w apart.
      join t (f.keeps t w (λ h. apart (among_left f.times_of g.times_of t h))) (g.keeps t w (λ h. apart (among_right f.times_of g.times_of t h)));
}

-- of the end of a window that goes by
windowed : (on : Bool) (p r : Subformula) (tr : Trace) (lo hi : Rational) (k : Rational → Move) (n : ℕ)
    → ((t : Rational) → Edge on p tr (by t (k t)) → Keeps on r tr t) → Edged on p tr lo hi k n → FewKeep on r tr lo hi n
windowed on p r tr lo hi k n join f = record { times_of = f.times_of; few = f.few; keeps = λ t w apart. join t (f.edge t w apart) }

-- of the left input and of that end
reached : (on : Bool) (p q r : Subformula) (tr : Trace) (lo hi : Rational) (k : Rational → Move) (n m : ℕ)
    → ((t : Rational) → Keeps on p tr t → Edge on q tr (by t (k t)) → Keeps on r tr t) → FewKeep on p tr lo hi n → Edged on q tr lo hi k m
    → FewKeep on r tr lo hi (n + m)
reached on p q r tr lo hi k n m join e f = record {
  times_of = e.times_of ++ f.times_of;
  few = both_few e.times_of f.times_of e.few f.few;
  keeps = λ t w apart.
      join t (e.keeps t w (λ h. apart (among_left e.times_of f.times_of t h))) (f.edge t w (λ h. apart (among_right e.times_of f.times_of t h)));
}

more_keep : {on : Bool} {p : Subformula} {tr : Trace} {lo hi : Rational} (n m : ℕ) → n ≤ m → FewKeep on p tr lo hi n → FewKeep on p tr lo hi m
more_keep n m h f = record { times_of = f.times_of; few = let k = f.few in omega (arith, h, k); keeps = f.keeps }

more : {p : Subformula} {tr : Trace} {lo hi : Rational} (n m : ℕ) → n ≤ m → Few p tr lo hi n → Few p tr lo hi m
more n m h f = record { times_of = f.times_of; few = let k = f.few in omega (arith, h, k); calm = f.calm }

-- how the reach of a formula holds those of its inputs
pub left_max : (n m : ℕ) → n ≤ max n m
left_max n m = omega arith

-- and the other
pub right_max : (n m : ℕ) → m ≤ max n m
right_max n m = omega arith

-- both bounds of a window behind are no more than the farther one
pub near_far : (a : ℕ) (b : Option ℕ) → a ≤ far a b
near_far a None = omega arith
near_far a (Some b) = left_max a b

-- and so is the one at its end
pub far_far : (a : ℕ) (b : Option ℕ) (n : ℕ) → b ≡ Some n → n ≤ far a b
far_far a b n e = rw e (right_max a n)

-- where a stretch may begin, for a formula that looks back less
pub low_part : (low lo : Rational) (B m : ℕ) → B ≤ m → later low m ≤ʳ lo → later low B ≤ʳ lo
low_part low lo B m h k = le_trans (later_more low B m h) k

-- where it may end, for one that looks ahead less
pub high_part : (hi high : Rational) (A m : ℕ) → A ≤ m → later hi m ≤ʳ high → later hi A ≤ʳ high
high_part hi high A m h k = le_trans (later_more hi A m h) k

-- the same for a stretch moved ahead
pub low_ahead : (low lo : Rational) (a B : ℕ) → later low B ≤ʳ lo → later low B ≤ʳ by lo (ahead a)
low_ahead low lo a B k = le_trans k (record { le = omega arith })

-- its end
pub high_ahead : (hi high : Rational) (a A m : ℕ) → a + A ≤ m → later hi m ≤ʳ high → later (by hi (ahead a)) A ≤ʳ high
high_ahead hi high a A m h k = le_trans (record { le = let q = mul-le-mul_right (hi.den * hi.den) h in omega (arith, q) }) k

-- for one moved behind
pub low_behind : (low lo : Rational) (a B m : ℕ) → a + B ≤ m → later low m ≤ʳ lo → later low B ≤ʳ by lo (behind a)
low_behind low lo a B m h k = record { le = let q = mul-le-mul_right (low.den * lo.den) h in let e = k.le in omega (arith, q, e) }

-- its end
pub high_behind : (hi high : Rational) (a A : ℕ) → later hi A ≤ʳ high → later (by hi (behind a)) A ≤ʳ high
high_behind hi high a A k = le_trans (record { le = omega arith }) k

-- how many there are
one_end : (c N : ℕ) → 1 ≤ N → c * N + 2 ≤ (c + 2) * N
one_end c N h = let q = mul-le-mul_left 2 h in omega (arith, q)

end_of_two : (c d N : ℕ) → 1 ≤ N → (c + d) * N + 2 ≤ (c + d + 2) * N
end_of_two c d N h = let q = mul-le-mul_left 2 h in omega (arith, q)

end_and_left : (c d N : ℕ) → 1 ≤ N → c * N + (d * N + 2) ≤ (c + d + 2) * N
end_and_left c d N h = let q = mul-le-mul_left 2 h in omega (arith, q)

-- products with one factor sum up
pub sum_of : (c d N : ℕ) → c * N + d * N ≤ (c + d) * N
sum_of c d N = omega arith

twice : (c N : ℕ) → c * N + c * N ≤ 2 * c * N
twice c N = omega arith

module _ (tr : Trace) (low high : Rational) where
  abbrev N : ℕ
  N = suc (rows_within low high tr.rows)

  some : 1 ≤ N
  some = omega arith

  -- the claims for a formula
  abbrev IsFew : Subformula → Type 0
  IsFew p = (lo hi : Rational) → later low (looks_back p) ≤ʳ lo → later hi (looks_ahead p) ≤ʳ high → Few p tr lo hi (turns_for_a_row p * N)

  abbrev KeepsFew : Bool → Subformula → Type 0
  KeepsFew on p =
      (lo hi : Rational) → later low (looks_back p) ≤ʳ lo → later hi (looks_ahead p) ≤ʳ high → FewKeep on p tr lo hi (begins_for_a_row p * N)

  few_atom : (i : ℕ) (a : Atom) → IsFew (atom i a)
  few_atom i a lo hi h k =
      let f = atom_times tr i a lo hi in
      let w = wider low lo hi high (le_trans (record { le = omega arith }) h) (le_trans (record { le = omega arith }) k) tr.rows in record {
        times_of = f.0;
        few = let b = f.1 in omega (arith, b, w);
        calm = f.2;
      }

  -- a connective
  few_joined : (p q r : Subformula) → ((t : Rational) → Calm p tr t → Calm q tr t → Calm r tr t) → IsFew p → IsFew q → (lo hi : Rational)
      → later low (max (looks_back p) (looks_back q)) ≤ʳ lo → later hi (max (looks_ahead p) (looks_ahead q)) ≤ʳ high
      → Few r tr lo hi ((turns_for_a_row p + turns_for_a_row q) * N)
  few_joined p q r join f g lo hi h k =
      more (turns_for_a_row p * N + turns_for_a_row q * N) _ (sum_of (turns_for_a_row p) (turns_for_a_row q) N)
      (joined p q r tr lo hi (turns_for_a_row p * N) (turns_for_a_row q * N) join
      (f lo hi (low_part low lo (looks_back p) _ (left_max (looks_back p) (looks_back q)) h)
      (high_part hi high (looks_ahead p) _ (left_max (looks_ahead p) (looks_ahead q)) k))
      (g lo hi (low_part low lo (looks_back q) _ (right_max (looks_back p) (looks_back q)) h)
      (high_part hi high (looks_ahead q) _ (right_max (looks_ahead p) (looks_ahead q)) k)))

  -- where it begins or ends
  keep_joined : (on this that : Bool) (p q r : Subformula) → ((t : Rational) → Keeps this p tr t → Keeps that q tr t → Keeps on r tr t) → KeepsFew this p
      → KeepsFew that q → (lo hi : Rational)
      → later low (max (looks_back p) (looks_back q)) ≤ʳ lo → later hi (max (looks_ahead p) (looks_ahead q)) ≤ʳ high
      → FewKeep on r tr lo hi ((begins_for_a_row p + begins_for_a_row q) * N)
  keep_joined on this that p q r join f g lo hi h k =
      more_keep (begins_for_a_row p * N + begins_for_a_row q * N) _ (sum_of (begins_for_a_row p) (begins_for_a_row q) N)
      (joined_keep on this that p q r tr lo hi (begins_for_a_row p * N) (begins_for_a_row q * N) join
      (f lo hi (low_part low lo (looks_back p) _ (left_max (looks_back p) (looks_back q)) h)
      (high_part hi high (looks_ahead p) _ (left_max (looks_ahead p) (looks_ahead q)) k))
      (g lo hi (low_part low lo (looks_back q) _ (right_max (looks_back p) (looks_back q)) h)
      (high_part hi high (looks_ahead q) _ (right_max (looks_ahead p) (looks_ahead q)) k)))

  -- a formula at a bound of a window ahead, and at one of a window behind
  at_bound_ahead : (on : Bool) (c : Subformula) (count A B : ℕ)
      → ((lo hi : Rational) → later low B ≤ʳ lo → later hi A ≤ʳ high → FewKeep on c tr lo hi count)
      → (a m : ℕ) → a ≤ m → (lo hi : Rational) → later low B ≤ʳ lo → later hi (m + A) ≤ʳ high → Edged on c tr lo hi (λ t. ahead a) (count + 2)
  at_bound_ahead on c count A B f a m h lo hi k l =
      edged on c tr lo hi (ahead a) count
      (f (by lo (ahead a)) (by hi (ahead a)) (low_ahead low lo a B k) (high_ahead hi high a A (m + A) (omega (arith, h)) l))

  at_bound_behind : (on : Bool) (c : Subformula) (count A B : ℕ)
      → ((lo hi : Rational) → later low B ≤ʳ lo → later hi A ≤ʳ high → FewKeep on c tr lo hi count)
      → (a m : ℕ) → a ≤ m → (lo hi : Rational) → later low (m + B) ≤ʳ lo → later hi A ≤ʳ high
      → FewKeep on c tr (by lo (behind a)) (by hi (behind a)) count
  at_bound_behind on c count A B f a m h lo hi k l =
      f (by lo (behind a)) (by hi (behind a)) (low_behind low lo a B (m + B) (omega (arith, h)) k) (high_behind hi high a A l)

  at_near : (on : Bool) (c : Subformula) (count A B a : ℕ) (b : Option ℕ)
      → ((lo hi : Rational) → later low B ≤ʳ lo → later hi A ≤ʳ high → FewKeep on c tr lo hi count)
      → (lo hi : Rational) → later low (far a b + B) ≤ʳ lo → later hi A ≤ʳ high → Edged on c tr lo hi (λ t. behind a) (count + 2)
  at_near on c count A B a b f lo hi k l =
      edged on c tr lo hi (behind a) count (at_bound_behind on c count A B f a (far a b) (near_far a b) lo hi k l)

  at_far : (on : Bool) (c : Subformula) (count A B a : ℕ) (b : Option ℕ)
      → ((lo hi : Rational) → later low B ≤ʳ lo → later hi A ≤ʳ high → FewKeep on c tr lo hi count)
      → (lo hi : Rational) → later low (far a b + B) ≤ʳ lo → later hi A ≤ʳ high → Edged on c tr lo hi (λ t. low_of t b) (count + 2)
  at_far on c count A B a b f lo hi k l =
      far_edged on c tr lo hi b count (λ n e. at_bound_behind on c count A B f n (far a b) (far_far a b n e) lo hi k l)

  -- of a window, by the end that goes by
  by_end : (on : Bool) (p r : Subformula) (lo hi : Rational) (k : Rational → Move) → ((t : Rational) → Edge on p tr (by t (k t)) → Keeps on r tr t)
      → Edged on p tr lo hi k (begins_for_a_row p * N + 2) → FewKeep on r tr lo hi ((begins_for_a_row p + 2) * N)
  by_end on p r lo hi k join e =
      more_keep (begins_for_a_row p * N + 2) _ (one_end (begins_for_a_row p) N some)
      (windowed on p r tr lo hi k (begins_for_a_row p * N + 2) join e)

  keep_ahead : (on : Bool) (p r : Subformula) (a b m : ℕ) → m ≤ max a b → ((t : Rational) → Edge on p tr (by t (ahead m)) → Keeps on r tr t)
      → KeepsFew on p → (lo hi : Rational) → later low (looks_back p) ≤ʳ lo → later hi (max a b + looks_ahead p) ≤ʳ high
      → FewKeep on r tr lo hi ((begins_for_a_row p + 2) * N)
  keep_ahead on p r a b m h join f lo hi k l =
      by_end on p r lo hi (λ t. ahead m) join
      (at_bound_ahead on p (begins_for_a_row p * N) (looks_ahead p) (looks_back p) f m (max a b) h lo hi k l)

  keep_near : (on : Bool) (p r : Subformula) (a : ℕ) (b : Option ℕ) → ((t : Rational) → Edge on p tr (by t (behind a)) → Keeps on r tr t) → KeepsFew on p
      → (lo hi : Rational) → later low (far a b + looks_back p) ≤ʳ lo → later hi (looks_ahead p) ≤ʳ high
      → FewKeep on r tr lo hi ((begins_for_a_row p + 2) * N)
  keep_near on p r a b join f lo hi k l =
      by_end on p r lo hi (λ t. behind a) join (at_near on p (begins_for_a_row p * N) (looks_ahead p) (looks_back p) a b f lo hi k l)

  keep_far : (on : Bool) (p r : Subformula) (a : ℕ) (b : Option ℕ) → ((t : Rational) → Edge on p tr (by t (low_of t b)) → Keeps on r tr t) → KeepsFew on p
      → (lo hi : Rational) → later low (far a b + looks_back p) ≤ʳ lo → later hi (looks_ahead p) ≤ʳ high
      → FewKeep on r tr lo hi ((begins_for_a_row p + 2) * N)
  keep_far on p r a b join f lo hi k l =
      by_end on p r lo hi (λ t. low_of t b) join (at_far on p (begins_for_a_row p * N) (looks_ahead p) (looks_back p) a b f lo hi k l)

  -- both inputs of until or since
  abbrev both : Subformula → Subformula → ℕ
  both p q = (begins_for_a_row p + begins_for_a_row q) * N

  begin_until : (a b : ℕ) (p q : Subformula) → KeepsFew true p → KeepsFew true q → KeepsFew true (until a b p q)
  begin_until a b p q f g lo hi h k =
      more_keep (both p q + 2) _ (end_of_two (begins_for_a_row p) (begins_for_a_row q) N some)
      (windowed true (conjunction p q) (until a b p q) tr lo hi (λ t. ahead a) (both p q + 2) (begins_until tr a b p q)
      (at_bound_ahead true (conjunction p q) (both p q) (max (looks_ahead p) (looks_ahead q)) (max (looks_back p) (looks_back q))
      (keep_joined true true true p q (conjunction p q) (keeps_conjunction tr true p q) f g) a (max a b) (left_max a b) lo hi h k))

  end_until : (a b : ℕ) (p q : Subformula) → KeepsFew false p → KeepsFew false q → KeepsFew false (until a b p q)
  end_until a b p q f g lo hi h k =
      let A = max (looks_ahead p) (looks_ahead q) in
      let B = max (looks_back p) (looks_back q) in
      more_keep (begins_for_a_row p * N + (begins_for_a_row q * N + 2)) _ (end_and_left (begins_for_a_row p) (begins_for_a_row q) N some)
      (reached false p q (until a b p q) tr lo hi (λ t. ahead b) (begins_for_a_row p * N) (begins_for_a_row q * N + 2) (ends_until tr a b p q)
      (f lo hi (low_part low lo (looks_back p) B (left_max (looks_back p) (looks_back q)) h)
      (high_part hi high (looks_ahead p) (max a b + A) (let m = left_max (looks_ahead p) (looks_ahead q) in omega (arith, m)) k))
      (at_bound_ahead false q (begins_for_a_row q * N) (looks_ahead q) (looks_back q) g b (max a b) (right_max a b) lo hi
      (low_part low lo (looks_back q) B (right_max (looks_back p) (looks_back q)) h)
      (high_part hi high (max a b + looks_ahead q) (max a b + A) (let m = right_max (looks_ahead p) (looks_ahead q) in omega (arith, m)) k)))

  begin_since : (a : ℕ) (b : Option ℕ) (p q : Subformula) → KeepsFew true p → KeepsFew true q → KeepsFew true (since a b p q)
  begin_since a b p q f g lo hi h k =
      let A = max (looks_ahead p) (looks_ahead q) in
      let B = max (looks_back p) (looks_back q) in
      more_keep (begins_for_a_row p * N + (begins_for_a_row q * N + 2)) _ (end_and_left (begins_for_a_row p) (begins_for_a_row q) N some)
      (reached true p q (since a b p q) tr lo hi (λ t. low_of t b) (begins_for_a_row p * N) (begins_for_a_row q * N + 2) (begins_since tr a b p q)
      (f lo hi (low_part low lo (looks_back p) (far a b + B) (let m = left_max (looks_back p) (looks_back q) in omega (arith, m)) h)
      (high_part hi high (looks_ahead p) A (left_max (looks_ahead p) (looks_ahead q)) k))
      (at_far true q (begins_for_a_row q * N) (looks_ahead q) (looks_back q) a b g lo hi
      (low_part low lo (far a b + looks_back q) (far a b + B) (let m = right_max (looks_back p) (looks_back q) in omega (arith, m)) h)
      (high_part hi high (looks_ahead q) A (right_max (looks_ahead p) (looks_ahead q)) k)))

  end_since : (a : ℕ) (b : Option ℕ) (p q : Subformula) → KeepsFew false p → KeepsFew false q → KeepsFew false (since a b p q)
  end_since a b p q f g lo hi h k =
      more_keep (both p q + 2) _ (end_of_two (begins_for_a_row p) (begins_for_a_row q) N some)
      (windowed false (conjunction p q) (since a b p q) tr lo hi (λ t. behind a) (both p q + 2) (ends_since tr a b p q)
      (at_near false (conjunction p q) (both p q) (max (looks_ahead p) (looks_ahead q)) (max (looks_back p) (looks_back q)) a b
      (keep_joined false false false p q (conjunction p q) (keeps_conjunction tr false p q) f g) lo hi h k))

  -- the truth of each formula ends at few times, and begins at few
  few_keeps : (on : Bool) (p : Subformula) → KeepsFew on p
  few_keeps on (constant b) lo hi h k =
      record { times_of = []; few = omega arith; keeps = λ t w apart. keeps_of_calm on (constant b) tr t (calm_constant tr b t) }
  few_keeps on (atom i a) lo hi h k =
      let f = few_atom i a lo hi h k in
      record { times_of = f.times_of; few = f.few; keeps = λ t w apart. keeps_of_calm on (atom i a) tr t (f.calm t w apart) }
  few_keeps on (negation p) lo hi h k =
      let f = few_keeps (not on) p lo hi h k in
      record { times_of = f.times_of; few = f.few; keeps = λ t w apart. keeps_negation tr on p t (f.keeps t w apart) }
  few_keeps on (conjunction p q) lo hi h k =
      keep_joined on on on p q (conjunction p q) (keeps_conjunction tr on p q) (few_keeps on p) (few_keeps on q) lo hi h k
  few_keeps on (disjunction p q) lo hi h k =
      keep_joined on on on p q (disjunction p q) (keeps_disjunction tr on p q) (few_keeps on p) (few_keeps on q) lo hi h k
  few_keeps on (implication p q) lo hi h k =
      keep_joined on (not on) on p q (implication p q) (keeps_implication tr on p q) (few_keeps (not on) p) (few_keeps on q) lo hi h k
  few_keeps true (eventually a b i j p) lo hi h k =
      keep_ahead true p (eventually a b i j p) a b a (left_max a b) (begins_eventually tr a b i j p) (few_keeps true p) lo hi h k
  few_keeps false (eventually a b i j p) lo hi h k =
      keep_ahead false p (eventually a b i j p) a b b (right_max a b) (ends_eventually tr a b i j p) (few_keeps false p) lo hi h k
  few_keeps true (always a b i j p) lo hi h k =
      keep_ahead true p (always a b i j p) a b b (right_max a b) (begins_always tr a b i j p) (few_keeps true p) lo hi h k
  few_keeps false (always a b i j p) lo hi h k =
      keep_ahead false p (always a b i j p) a b a (left_max a b) (ends_always tr a b i j p) (few_keeps false p) lo hi h k
  few_keeps true (once a b i j p) lo hi h k = keep_far true p (once a b i j p) a b (begins_once tr a b i j p) (few_keeps true p) lo hi h k
  few_keeps false (once a b i j p) lo hi h k = keep_near false p (once a b i j p) a b (ends_once tr a b i j p) (few_keeps false p) lo hi h k
  few_keeps true (historically a b i j p) lo hi h k =
      keep_near true p (historically a b i j p) a b (begins_historically tr a b i j p) (few_keeps true p) lo hi h k
  few_keeps false (historically a b i j p) lo hi h k =
      keep_far false p (historically a b i j p) a b (ends_historically tr a b i j p) (few_keeps false p) lo hi h k
  few_keeps true (until a b p q) lo hi h k = begin_until a b p q (few_keeps true p) (few_keeps true q) lo hi h k
  few_keeps false (until a b p q) lo hi h k = end_until a b p q (few_keeps false p) (few_keeps false q) lo hi h k
  few_keeps true (since a b p q) lo hi h k = begin_since a b p q (few_keeps true p) (few_keeps true q) lo hi h k
  few_keeps false (since a b p q) lo hi h k = end_since a b p q (few_keeps false p) (few_keeps false q) lo hi h k

  -- so it turns at few
  by_keeps : (p : Subformula) (lo hi : Rational) → later low (looks_back p) ≤ʳ lo → later hi (looks_ahead p) ≤ʳ high
      → Few p tr lo hi (2 * begins_for_a_row p * N)
  by_keeps p lo hi h k =
      of_both p tr lo hi (begins_for_a_row p * N) (2 * begins_for_a_row p * N) (twice (begins_for_a_row p) N) (few_keeps true p lo hi h k)
      (few_keeps false p lo hi h k)

  -- each formula turns at few times
  pub few_times : (p : Subformula) → IsFew p
  few_times (constant b) lo hi h k = record { times_of = []; few = omega arith; calm = λ t w apart. calm_constant tr b t }
  few_times (atom i a) lo hi h k = few_atom i a lo hi h k
  few_times (negation p) lo hi h k =
      let f = few_times p lo hi h k in record { times_of = f.times_of; few = f.few; calm = λ t w apart. calm_negation tr p t (f.calm t w apart) }
  few_times (conjunction p q) lo hi h k = few_joined p q (conjunction p q) (calm_conjunction tr p q) (few_times p) (few_times q) lo hi h k
  few_times (disjunction p q) lo hi h k = few_joined p q (disjunction p q) (calm_disjunction tr p q) (few_times p) (few_times q) lo hi h k
  few_times (implication p q) lo hi h k = few_joined p q (implication p q) (calm_implication tr p q) (few_times p) (few_times q) lo hi h k
  few_times (eventually a b i j p) lo hi h k = by_keeps (eventually a b i j p) lo hi h k
  few_times (always a b i j p) lo hi h k = by_keeps (always a b i j p) lo hi h k
  few_times (once a b i j p) lo hi h k = by_keeps (once a b i j p) lo hi h k
  few_times (historically a b i j p) lo hi h k = by_keeps (historically a b i j p) lo hi h k
  few_times (until a b p q) lo hi h k = by_keeps (until a b p q) lo hi h k
  few_times (since a b p q) lo hi h k = by_keeps (since a b p q) lo hi h k

-- where a formula has one truth it does not turn
pub not_turning : (p : Subformula) (tr : Trace) (t : Rational) → Calm p tr t → ¬ (Turns p tr t)
not_turning p tr t c turning =
    turning c.near.from c.near.to c.near.before c.near.after
    (λ u v a b x y. c.alike u v (record { above = a; below = b }) (record { above = x; below = y }))

-- the times from lo to hi at which it turns are among few
pub turns_among : (p : Subformula) (tr : Trace) (lo hi : Rational) (count : ℕ) (f : Few p tr lo hi count) (times : List Rational)
    → AreTurns p tr lo hi times → AreAmong times f.times_of
turns_among p tr lo hi count f [] h = tt
turns_among p tr lo hi count f (t ∷ times) h = (
  elim (among_or_not f.times_of t) [ inl m ↦ m | inr apart ↦ absurd (not_turning p tr t (f.calm t h.1 apart) h.0) ],
  turns_among p tr lo hi count f times h.2,
)

-- a stretch, with the reach of the formula about it
pub few_about : (p : Subformula) (tr : Trace) (lo hi : Rational)
    → Few p tr lo hi (turns_for_a_row p * suc (rows_within (earlier lo (looks_back p)) (later hi (looks_ahead p)) tr.rows))
few_about p tr lo hi =
    few_times tr (earlier lo (looks_back p)) (later hi (looks_ahead p)) p lo hi (record { le = omega arith }) (record { le = omega arith })

-- rising times at which it turns are few
pub few_turns : (p : Subformula) (tr : Trace) (lo hi : Rational) (inside : Bool) (from : Rational) (times : List Rational)
    → RisesFrom inside from times → AreTurns p tr lo hi times
    → length times ≤ turns_for_a_row p * suc (rows_within (earlier lo (looks_back p)) (later hi (looks_ahead p)) tr.rows)
few_turns p tr lo hi inside from times r h =
    let f = few_about p tr lo hi in
    let n = no_more inside from times f.times_of r (turns_among p tr lo hi _ f times h) in
    let k = f.few in
    omega (arith, n, k)

pub turns_are_few : TurnsAreFew
turns_are_few p tr lo hi [] r h = omega arith
turns_are_few p tr lo hi (t ∷ times) r h = few_turns p tr lo hi true t (t ∷ times) (rises t times r) h
