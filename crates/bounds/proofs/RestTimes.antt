-- The times at which rows can bring a node's front to rest: those of the rows, moved by the windows. Within a stretch they are few.
use Rattle.std.specs.Prelude.{max, ◌⊎◌}
use Rattle.std.proofs.Common.{◌≡◌, refl, ℕ, suc, ◌+◌, ◌*◌, ◌≤◌, Bool, true, false, cond, List, [], ◌∷◌, ◌++◌, length}
use Rattle.std.proofs.Common.{arith, inl, inr, Option}
use Rattle.rational.specs.Time.{Rational, ◌≤ʳ◌, ◌≈◌, later, Within}
use Rattle.rational.proofs.Order.{le_trans}
use Rattle.stl_syntax.specs.Trace.{Row, row_time}
use Rattle.stl_syntax.specs.Formula.{Subformula, constant, atom, negation, conjunction, disjunction}
use Rattle.stl_syntax.specs.Formula.{implication, until, eventually, always, since, once, historically}
use Rattle.stl_syntax.specs.Cells.{IsAmong}
use Rattle.bounds.specs.Turns.{is_within, rows_within, earlier, looks_ahead, looks_back, far}
use Rattle.bounds.specs.Held.{times_within}
use Rattle.bounds.specs.Rests.{rests_for_a_row}
use Rattle.bounds.proofs.NearTimes.{Move, by, ahead, behind}
use Rattle.bounds.proofs.FewTimes.{among_same, among_left, among_right, moved_back, moved_count, among_moved}
use Rattle.bounds.proofs.AtomTurns.{wider}
use Rattle.bounds.proofs.FormulaTurns.{moved_within, both_few, left_max, right_max, low_part, high_part, low_ahead, high_ahead, low_behind, high_behind}
use Rattle.bounds.proofs.FormulaTurns.{near_far, sum_of}
use Rattle.bounds.proofs.HeldFew.{among_within}

-- the times of the rows
abbrev pub row_times : List Row → List Rational
row_times [] = []
row_times (r ∷ rows) = row_time r ∷ row_times rows

-- t is a time at which the rows can bring the front of the formula's node to rest
abbrev pub IsRest : Subformula → List Row → Rational → Type 0
IsRest (constant b) rows t = IsAmong (row_times rows) t
IsRest (atom i a) rows t = IsAmong (row_times rows) t
IsRest (negation p) rows t = IsRest p rows t
IsRest (conjunction p q) rows t = IsRest p rows t ⊎ IsRest q rows t
IsRest (disjunction p q) rows t = IsRest p rows t ⊎ IsRest q rows t
IsRest (implication p q) rows t = IsRest p rows t ⊎ IsRest q rows t
IsRest (until a b p q) rows t = IsRest p rows (by t (ahead b)) ⊎ IsRest q rows (by t (ahead b))
IsRest (eventually a b i j p) rows t = IsRest p rows (by t (ahead b))
IsRest (always a b i j p) rows t = IsRest p rows (by t (ahead b))
IsRest (since a b p q) rows t = IsRest p rows t ⊎ IsRest q rows (by t (behind a))
IsRest (once a b i j p) rows t = IsRest p rows (by t (behind a)) ⊎ IsAmong (row_times rows) t
IsRest (historically a b i j p) rows t = IsRest p rows (by t (behind a)) ⊎ IsAmong (row_times rows) t

moved_same : {t u : Rational} (k : Move) → t ≈ u → by t k ≈ by u k
moved_same k e = record { same = let p = e.same in omega (arith, p) }

-- and so is one that is the same
pub rest_same : (p : Subformula) (rows : List Row) {t u : Rational} → t ≈ u → IsRest p rows u → IsRest p rows t
rest_same (constant b) rows {t} {u} e h = among_same (row_times rows) t u e h
rest_same (atom i a) rows {t} {u} e h = among_same (row_times rows) t u e h
rest_same (negation p) rows e h = rest_same p rows e h
rest_same (conjunction p q) rows e h = elim h [ inl m ↦ inl (rest_same p rows e m) | inr m ↦ inr (rest_same q rows e m) ]
rest_same (disjunction p q) rows e h = elim h [ inl m ↦ inl (rest_same p rows e m) | inr m ↦ inr (rest_same q rows e m) ]
rest_same (implication p q) rows e h = elim h [ inl m ↦ inl (rest_same p rows e m) | inr m ↦ inr (rest_same q rows e m) ]
rest_same (until a b p q) rows e h =
    elim h [ inl m ↦ inl (rest_same p rows (moved_same (ahead b) e) m) | inr m ↦ inr (rest_same q rows (moved_same (ahead b) e) m) ]
rest_same (eventually a b i j p) rows e h = rest_same p rows (moved_same (ahead b) e) h
rest_same (always a b i j p) rows e h = rest_same p rows (moved_same (ahead b) e) h
rest_same (since a b p q) rows e h = elim h [ inl m ↦ inl (rest_same p rows e m) | inr m ↦ inr (rest_same q rows (moved_same (behind a) e) m) ]
rest_same (once a b i j p) rows {t} {u} e h =
    elim h [ inl m ↦ inl (rest_same p rows (moved_same (behind a) e) m) | inr m ↦ inr (among_same (row_times rows) t u e m) ]
rest_same (historically a b i j p) rows {t} {u} e h =
    elim h [ inl m ↦ inl (rest_same p rows (moved_same (behind a) e) m) | inr m ↦ inr (among_same (row_times rows) t u e m) ]

among_more : (rows more : List Row) (t : Rational) → IsAmong (row_times rows) t → IsAmong (row_times (rows ++ more)) t
among_more [] more t h = absurd h
among_more (r ∷ rows) more t (inl e) = inl e
among_more (r ∷ rows) more t (inr m) = inr (among_more rows more t m)

-- it stays one when rows come
pub rest_more : (p : Subformula) (rows more : List Row) (t : Rational) → IsRest p rows t → IsRest p (rows ++ more) t
rest_more (constant b) rows more t h = among_more rows more t h
rest_more (atom i a) rows more t h = among_more rows more t h
rest_more (negation p) rows more t h = rest_more p rows more t h
rest_more (conjunction p q) rows more t h = elim h [ inl m ↦ inl (rest_more p rows more t m) | inr m ↦ inr (rest_more q rows more t m) ]
rest_more (disjunction p q) rows more t h = elim h [ inl m ↦ inl (rest_more p rows more t m) | inr m ↦ inr (rest_more q rows more t m) ]
rest_more (implication p q) rows more t h = elim h [ inl m ↦ inl (rest_more p rows more t m) | inr m ↦ inr (rest_more q rows more t m) ]
rest_more (until a b p q) rows more t h =
    elim h [ inl m ↦ inl (rest_more p rows more (by t (ahead b)) m) | inr m ↦ inr (rest_more q rows more (by t (ahead b)) m) ]
rest_more (eventually a b i j p) rows more t h = rest_more p rows more (by t (ahead b)) h
rest_more (always a b i j p) rows more t h = rest_more p rows more (by t (ahead b)) h
rest_more (since a b p q) rows more t h =
    elim h [ inl m ↦ inl (rest_more p rows more t m) | inr m ↦ inr (rest_more q rows more (by t (behind a)) m) ]
rest_more (once a b i j p) rows more t h =
    elim h [ inl m ↦ inl (rest_more p rows more (by t (behind a)) m) | inr m ↦ inr (among_more rows more t m) ]
rest_more (historically a b i j p) rows more t h =
    elim h [ inl m ↦ inl (rest_more p rows more (by t (behind a)) m) | inr m ↦ inr (among_more rows more t m) ]

-- the times of the rows within a stretch are as many as the rows
row_count : (lo hi : Rational) (rows : List Row) → length (times_within lo hi (row_times rows)) ≡ rows_within lo hi rows
row_count lo hi [] = refl
row_count lo hi (r ∷ rows) = by_test (is_within lo hi (row_time r)) (row_count lo hi rows)
  where
    by_test : (b : Bool) → length (times_within lo hi (row_times rows)) ≡ rows_within lo hi rows
        → length (cond b (row_time r ∷ times_within lo hi (row_times rows)) (times_within lo hi (row_times rows)))
        ≡ cond b (suc (rows_within lo hi rows)) (rows_within lo hi rows)
    by_test true e = omega (arith, e)
    by_test false e = e

-- so many at most are all times of a kind within a stretch
pub record FewIn (P : Rational → Type 0) (lo hi : Rational) (count : ℕ) : Type 0 where
  -- the times
  pub times_of : List Rational
  -- they are few
  pub few : length times_of ≤ count
  -- each is among them
  pub all : (t : Rational) → Within lo hi t → P t → IsAmong times_of t

-- of two kinds
either : (P Q : Rational → Type 0) (lo hi : Rational) (n m : ℕ) → FewIn P lo hi n → FewIn Q lo hi m → FewIn (λ t. P t ⊎ Q t) lo hi (n + m)
either P Q lo hi n m f g = record {
  times_of = f.times_of ++ g.times_of;
  few = both_few f.times_of g.times_of f.few g.few;
  all = λ t w h. elim h [ inl x ↦ among_left f.times_of g.times_of t (f.all t w x) | inr x ↦ among_right f.times_of g.times_of t (g.all t w x) ];
}

-- moved
moved : (P : Rational → Type 0) (lo hi : Rational) (k : Move) (n : ℕ) → FewIn P (by lo k) (by hi k) n → FewIn (λ t. P (by t k)) lo hi n
moved P lo hi k n f = record {
  times_of = moved_back k f.times_of;
  few = let a = f.few in let b = moved_count k f.times_of in omega (arith, a, b);
  all = λ t w h. among_moved k f.times_of t (f.all (by t k) (moved_within k w) h);
}

more : {P : Rational → Type 0} {lo hi : Rational} (n m : ℕ) → n ≤ m → FewIn P lo hi n → FewIn P lo hi m
more n m h f = record { times_of = f.times_of; few = let k = f.few in omega (arith, h, k); all = f.all }

module _ (rows : List Row) (low high : Rational) where
  abbrev N : ℕ
  N = rows_within low high rows

  -- the claim for a formula
  abbrev AreFew : Subformula → Type 0
  AreFew p = (lo hi : Rational) → later low (looks_back p) ≤ʳ lo → later hi (looks_ahead p) ≤ʳ high → FewIn (IsRest p rows) lo hi (rests_for_a_row p * N)

  -- the rows themselves
  few_rows : (lo hi : Rational) (A B : ℕ) → later low B ≤ʳ lo → later hi A ≤ʳ high → FewIn (λ t. IsAmong (row_times rows) t) lo hi (1 * N)
  few_rows lo hi A B h k = record {
    times_of = times_within lo hi (row_times rows);
    few =
        let a = row_count lo hi rows in
        let b = wider low lo hi high (le_trans (record { le = omega arith }) h) (le_trans (record { le = omega arith }) k) rows in
        omega (arith, a, b);
    all = λ t w m. among_within lo hi (row_times rows) t w.above w.below m;
  }

  few_both : (p q : Subformula) → AreFew p → AreFew q → (lo hi : Rational) → later low (max (looks_back p) (looks_back q)) ≤ʳ lo
      → later hi (max (looks_ahead p) (looks_ahead q)) ≤ʳ high
      → FewIn (λ t. IsRest p rows t ⊎ IsRest q rows t) lo hi ((rests_for_a_row p + rests_for_a_row q) * N)
  few_both p q f g lo hi h k =
      more (rests_for_a_row p * N + rests_for_a_row q * N) _ (sum_of (rests_for_a_row p) (rests_for_a_row q) N)
      (either (IsRest p rows) (IsRest q rows) lo hi (rests_for_a_row p * N) (rests_for_a_row q * N)
      (f lo hi (low_part low lo (looks_back p) _ (left_max (looks_back p) (looks_back q)) h)
      (high_part hi high (looks_ahead p) _ (left_max (looks_ahead p) (looks_ahead q)) k))
      (g lo hi (low_part low lo (looks_back q) _ (right_max (looks_back p) (looks_back q)) h)
      (high_part hi high (looks_ahead q) _ (right_max (looks_ahead p) (looks_ahead q)) k)))

  -- what a window ahead moves
  few_ahead : (P : Rational → Type 0) (count A B a b : ℕ) → ((lo hi : Rational) → later low B ≤ʳ lo → later hi A ≤ʳ high → FewIn P lo hi count)
      → (lo hi : Rational) → later low B ≤ʳ lo → later hi (max a b + A) ≤ʳ high → FewIn (λ t. P (by t (ahead b))) lo hi count
  few_ahead P count A B a b f lo hi h k =
      moved P lo hi (ahead b) count
      (f (by lo (ahead b)) (by hi (ahead b)) (low_ahead low lo b B h) (high_ahead hi high b A (max a b + A) (let m = right_max a b in omega (arith, m)) k))

  -- what a window behind moves
  few_behind : (P : Rational → Type 0) (count A B a : ℕ) (b : Option ℕ)
      → ((lo hi : Rational) → later low B ≤ʳ lo → later hi A ≤ʳ high → FewIn P lo hi count)
      → (lo hi : Rational) → later low (far a b + B) ≤ʳ lo → later hi A ≤ʳ high → FewIn (λ t. P (by t (behind a))) lo hi count
  few_behind P count A B a b f lo hi h k =
      moved P lo hi (behind a) count
      (f (by lo (behind a)) (by hi (behind a)) (low_behind low lo a B (far a b + B) (let m = near_far a b in omega (arith, m)) h)
      (high_behind hi high a A k))

  -- a window behind, and the rows
  few_once : (p : Subformula) (a : ℕ) (b : Option ℕ) → AreFew p → (lo hi : Rational) → later low (far a b + looks_back p) ≤ʳ lo
      → later hi (looks_ahead p) ≤ʳ high
      → FewIn (λ t. IsRest p rows (by t (behind a)) ⊎ IsAmong (row_times rows) t) lo hi ((rests_for_a_row p + 1) * N)
  few_once p a b f lo hi h k =
      more (rests_for_a_row p * N + 1 * N) _ (sum_of (rests_for_a_row p) 1 N)
      (either (λ t. IsRest p rows (by t (behind a))) (λ t. IsAmong (row_times rows) t) lo hi (rests_for_a_row p * N) (1 * N)
      (few_behind (IsRest p rows) (rests_for_a_row p * N) (looks_ahead p) (looks_back p) a b f lo hi h k)
      (few_rows lo hi (looks_ahead p) (far a b + looks_back p) h k))

  few_since : (p q : Subformula) (a : ℕ) (b : Option ℕ) → AreFew p → AreFew q → AreFew (since a b p q)
  few_since p q a b f g lo hi h k =
      let A = max (looks_ahead p) (looks_ahead q) in
      let B = max (looks_back p) (looks_back q) in
      more (rests_for_a_row p * N + rests_for_a_row q * N) _ (sum_of (rests_for_a_row p) (rests_for_a_row q) N)
      (either (IsRest p rows) (λ t. IsRest q rows (by t (behind a))) lo hi (rests_for_a_row p * N) (rests_for_a_row q * N)
      (f lo hi (low_part low lo (looks_back p) (far a b + B) (let m = left_max (looks_back p) (looks_back q) in omega (arith, m)) h)
      (high_part hi high (looks_ahead p) A (left_max (looks_ahead p) (looks_ahead q)) k))
      (few_behind (IsRest q rows) (rests_for_a_row q * N) (looks_ahead q) (looks_back q) a b g lo hi
      (low_part low lo (far a b + looks_back q) (far a b + B) (let m = right_max (looks_back p) (looks_back q) in omega (arith, m)) h)
      (high_part hi high (looks_ahead q) A (right_max (looks_ahead p) (looks_ahead q)) k)))

  few_until : (p q : Subformula) (a b : ℕ) → AreFew p → AreFew q → AreFew (until a b p q)
  few_until p q a b f g lo hi h k =
      few_ahead (λ t. IsRest p rows t ⊎ IsRest q rows t) ((rests_for_a_row p + rests_for_a_row q) * N) (max (looks_ahead p) (looks_ahead q))
      (max (looks_back p) (looks_back q)) a b (few_both p q f g) lo hi h k

  -- of each formula such times are few
  pub few_rests : (p : Subformula) → AreFew p
  few_rests (constant b) lo hi h k = few_rows lo hi 0 0 h k
  few_rests (atom i a) lo hi h k = few_rows lo hi 0 0 h k
  few_rests (negation p) lo hi h k = few_rests p lo hi h k
  few_rests (conjunction p q) lo hi h k = few_both p q (few_rests p) (few_rests q) lo hi h k
  few_rests (disjunction p q) lo hi h k = few_both p q (few_rests p) (few_rests q) lo hi h k
  few_rests (implication p q) lo hi h k = few_both p q (few_rests p) (few_rests q) lo hi h k
  few_rests (until a b p q) lo hi h k = few_until p q a b (few_rests p) (few_rests q) lo hi h k
  few_rests (eventually a b i j p) lo hi h k =
      few_ahead (IsRest p rows) (rests_for_a_row p * N) (looks_ahead p) (looks_back p) a b (few_rests p) lo hi h k
  few_rests (always a b i j p) lo hi h k =
      few_ahead (IsRest p rows) (rests_for_a_row p * N) (looks_ahead p) (looks_back p) a b (few_rests p) lo hi h k
  few_rests (since a b p q) lo hi h k = few_since p q a b (few_rests p) (few_rests q) lo hi h k
  few_rests (once a b i j p) lo hi h k = few_once p a b (few_rests p) lo hi h k
  few_rests (historically a b i j p) lo hi h k = few_once p a b (few_rests p) lo hi h k

-- in a stretch, by the rows in the reach of the formula about it
pub rests_about : (p : Subformula) (rows : List Row) (lo hi : Rational)
    → FewIn (IsRest p rows) lo hi (rests_for_a_row p * rows_within (earlier lo (looks_back p)) (later hi (looks_ahead p)) rows)
rests_about p rows lo hi =
    few_rests rows (earlier lo (looks_back p)) (later hi (looks_ahead p)) p lo hi (record { le = omega arith }) (record { le = omega arith })

-- a formula has a row's time, at least
pub some_rests : (p : Subformula) → 1 ≤ rests_for_a_row p
some_rests (constant b) = omega arith
some_rests (atom i a) = omega arith
some_rests (negation p) = some_rests p
some_rests (conjunction p q) = let k = some_rests p in omega (arith, k)
some_rests (disjunction p q) = let k = some_rests p in omega (arith, k)
some_rests (implication p q) = let k = some_rests p in omega (arith, k)
some_rests (until a b p q) = let k = some_rests p in omega (arith, k)
some_rests (eventually a b i j p) = some_rests p
some_rests (always a b i j p) = some_rests p
some_rests (since a b p q) = let k = some_rests p in omega (arith, k)
some_rests (once a b i j p) = omega arith
some_rests (historically a b i j p) = omega arith
