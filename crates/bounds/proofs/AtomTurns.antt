-- An atom's truth turns only at rows, and at one time between a row and the next, whose denominator is at most the slope there.
use Rattle.std.proofs.Common.{◌≡◌, ℕ, zero, suc, ◌+◌, ◌-◌, ◌*◌, ◌<◌, ◌≤◌, max, ◌⊎◌, Bool, true, false, cond, List, [], ◌∷◌, All}
use Rattle.std.proofs.Common.{length, refl, arith, inl, inr, ℤ, pos, negsuc, nat_abs, IsTrue}
use Rattle.std.specs.Prelude.{bytes_eq, slice_index_or}
use Rattle.std.proofs.Math.Nat.{mul-le-mul_left, mul-le-mul_right, zero-lt-suc}
use Rattle.std.proofs.lemmas.List.Elements.{All-head, All-tail, All-cons, All-nil}
use Rattle.rational.specs.Rational.{part_above, part_below}
use Rattle.rational.specs.Line.{Line, at, Rises, Falls, negate_line, solve}
use Rattle.rational.specs.Time.{Rational, ◌≤ʳ◌, ◌<ʳ◌, ◌≈◌, whole, add, subtract, negate, times, Within}
use Rattle.rational.proofs.Order.{le_refl, le_of_lt, le_of_same, ge_of_same, le_trans, lt_of_lt_of_le, lt_of_le_of_lt, le_or_lt}
use Rattle.rational.proofs.Order.{same_refl, same_sym, same_trans, lt_or_same_or_gt}
use Rattle.rational.proofs.Field.{same_add, same_subtract}
use Rattle.rational.proofs.Lines.{lt_at, lt_at_falls, at_negate, at_solve, slope_of, at_level}
use Rattle.rational.proofs.TimeLemmas.{same_times, less_in, less_no}
use Rattle.stl_syntax.specs.Trace.{Column, Row, Trace, row_time, value}
use Rattle.stl_syntax.specs.Trace.{line_between, piece, value_from, column_value, value_among, value_of}
use Rattle.stl_syntax.specs.Formula.{atom}
use Rattle.stl_syntax.specs.Truth.{sum_at, expression, compares}
use Rattle.stl_syntax.specs.Cells.{IsAmong}
use Rattle.stl_syntax.specs.declared.atom.Atom.{Atom}
use Rattle.stl_syntax.specs.declared.atom.Term.{Term}
use Rattle.stl_syntax.specs.declared.rel.Rel.{Rel}
use Rattle.stl_syntax.specs.declared.rel.Rel.TheVariants.{AtLeast, Above, AtMost, Below}
use Rattle.stl_syntax.proofs.TruthLemmas.{compares_same}
use Rattle.bounds.specs.Turns.{rows_within}
use Rattle.bounds.proofs.NearTimes.{by, behind, ahead, one_before, one_after, Near, IsNear, soon, within_both, clear_of, side, IsRare}
use Rattle.bounds.proofs.CalmWindows.{Calm}

-- on the times of a set the function is a line with this run, and with slopes of at most B over it
record IsLineOn (P : Rational → Type 0) (run B : ℕ) (F : Rational → Rational) : Type 0 where
  line : Line
  same_run : line.run ≡ run
  rise_up : line.rise_up ≤ B
  rise_down : line.rise_down ≤ B
  same : (u : Rational) → P u → F u ≈ at line u

-- a constant
level : ℤ → (run : ℕ) → 0 < run → Line
level v run p = record { base_up = part_above v * run; base_down = part_below v * run; rise_up = 0; rise_down = 0; run = run; positive = p }

at_value : (v : ℤ) (run : ℕ) (p : 0 < run) (u : Rational) → whole v ≈ at (level v run p) u
unfolding level
at_value v run p u = record { same = omega arith }

constant_line : (P : Rational → Type 0) (run B : ℕ) (p : 0 < run) (v : ℤ) → IsLineOn P run B (λ u. whole v)
unfolding level
constant_line P run B p v = record {
  line = level v run p;
  same_run = refl;
  rise_up = omega arith;
  rise_down = omega arith;
  same = λ u h. at_value v run p u;
}

-- a function that is the same on a part of the times
line_as : {P Q : Rational → Type 0} {run B : ℕ} (F G : Rational → Rational) → IsLineOn P run B F → ((u : Rational) → Q u → P u)
    → ((u : Rational) → Q u → G u ≡ F u) → IsLineOn Q run B G
line_as F G l small is = record {
  line = l.line;
  same_run = l.same_run;
  rise_up = l.rise_up;
  rise_down = l.rise_down;
  same = λ u h. rw (is u h) (l.same u (small u h));
}

both_size : (v : ℤ) → part_above v + part_below v ≤ nat_abs v
both_size (pos n) = omega arith
both_size (negsuc n) = omega arith

-- no value of the row is greater than V, or less than -V
abbrev pub IsUpTo : ℕ → Row → Type 0
IsUpTo V r = (c : ℕ) → nat_abs (value r c) ≤ V

-- what the piece between two rows is
piece_line : (P : Rational → Type 0) (V : ℕ) (r s : Row) (step : Bool) (c : ℕ) → IsUpTo V r → IsUpTo V s
    → IsLineOn P (suc (s.time - suc r.time)) (2 * V) (piece step c r s)
piece_line P V r s true c h k = constant_line P (suc (s.time - suc r.time)) (2 * V) (zero-lt-suc (s.time - suc r.time)) (value r c)
piece_line P V r s false c h k =
    let a = h c in
    let b = k c in
    let m = both_size (value r c) in
    let n = both_size (value s c) in record {
      line = line_between r.time (value r c) (s.time - suc r.time) (value s c);
      same_run = refl;
      rise_up = omega (arith, a, b, m, n);
      rise_down = omega (arith, a, b, m, n);
      same = λ u h. same_refl (at (line_between r.time (value r c) (s.time - suc r.time) (value s c)) u);
    }

-- the choice of one of two functions
chosen_line : {P : Rational → Type 0} {run B : ℕ} (b : Bool) (F G : Rational → Rational) → IsLineOn P run B F → IsLineOn P run B G
    → IsLineOn P run B (λ u. cond b (F u) (G u))
chosen_line true F G l m = record { line = l.line; same_run = l.same_run; rise_up = l.rise_up; rise_down = l.rise_down; same = l.same }
chosen_line false F G l m = record { line = m.line; same_run = m.same_run; rise_up = m.rise_up; rise_down = m.rise_down; same = m.same }

-- c times a line, and another
summed : ℤ → Line → Line → Line
summed c f g = record {
  base_up = part_above c * f.base_up + part_below c * f.base_down + g.base_up;
  base_down = part_above c * f.base_down + part_below c * f.base_up + g.base_down;
  rise_up = part_above c * f.rise_up + part_below c * f.rise_down + g.rise_up;
  rise_down = part_above c * f.rise_down + part_below c * f.rise_up + g.rise_down;
  run = g.run;
  positive = g.positive;
}

at_summed : (c : ℤ) (f g : Line) (run : ℕ) (u : Rational) → f.run ≡ run → g.run ≡ run → add (times c (at f u)) (at g u) ≈ at (summed c f g) u
unfolding summed
at_summed c f g run u a b = record { same = rw (a, b) (omega arith) }

-- a rise of the sum
rise_size : (a b n x y z B C : ℕ) → a + b ≤ n → x ≤ B → y ≤ B → z ≤ C → a * x + b * y + z ≤ n * B + C
rise_size a b n x y z B C few h k m =
    let p = mul-le-mul_left a h in
    let q = mul-le-mul_left b k in
    let r = mul-le-mul_right B few in
    omega (arith, p, q, r, m)

sum_line : {P : Rational → Type 0} {run B C : ℕ} (c : ℤ) (F G : Rational → Rational) → IsLineOn P run B F → IsLineOn P run C G
    → IsLineOn P run (nat_abs c * B + C) (λ u. add (times c (F u)) (G u))
unfolding summed
sum_line {run = run} {B = B} {C = C} c F G f g =
    let size = both_size c in record {
      line = summed c f.line g.line;
      same_run = g.same_run;
      rise_up = rise_size (part_above c) (part_below c) (nat_abs c) _ _ _ B C size f.rise_up f.rise_down g.rise_up;
      rise_down = rise_size (part_above c) (part_below c) (nat_abs c) _ _ _ B C size f.rise_down f.rise_up g.rise_down;
      same = λ u h. same_trans (same_add (same_times c (f.same u h)) (g.same u h)) (at_summed c f.line g.line run u f.same_run g.same_run);
    }

-- the slope of a sum of columns whose slopes are at most B
abbrev pub slopes : ℕ → List Term → ℕ
slopes B [] = 0
slopes B (x ∷ terms) = nat_abs x.coef * B + slopes B terms

-- a line less a constant
lowered : ℤ → Line → Line
lowered v f = record {
  base_up = f.base_up + part_below v * f.run;
  base_down = f.base_down + part_above v * f.run;
  rise_up = f.rise_up;
  rise_down = f.rise_down;
  run = f.run;
  positive = f.positive;
}

at_lowered : (v : ℤ) (f : Line) (u : Rational) → subtract (at f u) (whole v) ≈ at (lowered v f) u
unfolding lowered
at_lowered v f u = record { same = omega arith }

-- the columns of a trace are lines with one run on a set of times
record AreLinesOn (P : Rational → Type 0) (B : ℕ) (tr : Trace) : Type 0 where
  run : ℕ
  some : 0 < run
  line_of : (step : Bool) (c : ℕ) → IsLineOn P run B (column_value step c tr.rows)

module _ (P : Rational → Type 0) (B : ℕ) (tr : Trace) (p : AreLinesOn P B tr) where
  -- the column of a name
  among_line : (columns : List Column) (c : ℕ) (name : List ℕ) → IsLineOn P p.run B (value_among columns c tr.rows name)
  among_line [] c name = constant_line P p.run B p.some (pos 0)
  among_line (k ∷ columns) c name =
      chosen_line (bytes_eq k.name name) (column_value k.step c tr.rows) (value_among columns (suc c) tr.rows name)
      (p.line_of k.step c) (among_line columns (suc c) name)

  of_name : (name : List ℕ) → IsLineOn P p.run B (value_of tr name)
  unfolding value_of
  of_name name = among_line tr.header.columns 0 name

  of_terms : (terms : List Term) → IsLineOn P p.run (slopes B terms) (sum_at terms tr)
  of_terms [] = constant_line P p.run 0 p.some (pos 0)
  of_terms (x ∷ terms) = sum_line x.coef (value_of tr x.name) (sum_at terms tr) (of_name x.name) (of_terms terms)

  of_atom : (a : Atom) → IsLineOn P p.run (slopes B a.terms) (expression a tr)
  unfolding expression lowered
  of_atom a =
      let l = of_terms a.terms in record {
        line = lowered a.limit l.line;
        same_run = l.same_run;
        rise_up = l.rise_up;
        rise_down = l.rise_down;
        same = λ u i. same_trans (same_subtract (l.same u i) (same_refl (whole a.limit))) (at_lowered a.limit l.line u);
      }

-- numbers below 0 compare alike with it, and so do those above
below_zero : (rel : Rel) (x y : Rational) → x <ʳ whole (pos 0) → y <ʳ whole (pos 0) → IsTrue (compares rel x) → IsTrue (compares rel y)
below_zero AtLeast x y a b h = absurd (let p = a.lt in let q : x.down ≤ x.up = grind arith in omega (arith, p, q))
below_zero Above x y a b h = absurd (let p = a.lt in let q : x.down < x.up = grind arith in omega (arith, p, q))
below_zero AtMost x y a b h = let p = b.lt in let q : y.up ≤ y.down = omega (arith, p) in grind arith
below_zero Below x y a b h = let p = b.lt in let q : y.up < y.down = omega (arith, p) in grind arith

above_zero : (rel : Rel) (x y : Rational) → whole (pos 0) <ʳ x → whole (pos 0) <ʳ y → IsTrue (compares rel x) → IsTrue (compares rel y)
above_zero AtLeast x y a b h = let p = b.lt in let q : y.down ≤ y.up = omega (arith, p) in grind arith
above_zero Above x y a b h = let p = b.lt in let q : y.down < y.up = omega (arith, p) in grind arith
above_zero AtMost x y a b h = absurd (let p = a.lt in let q : x.up ≤ x.down = grind arith in omega (arith, p, q))
above_zero Below x y a b h = absurd (let p = a.lt in let q : x.up < x.down = grind arith in omega (arith, p, q))

-- the one time about which the comparison of a line with 0 may turn
record Crossing (rel : Rel) (N : ℕ) (f : Line) : Type 0 where
  root : Rational
  small : root.den ≤ max 1 N
  sides : (u v : Rational) → (u <ʳ root) × (v <ʳ root) ⊎ (root <ʳ u) × (root <ʳ v)
      → IsTrue (compares rel (at f u)) → IsTrue (compares rel (at f v))

rising : (rel : Rel) (N : ℕ) (f : Line) → f.rise_up ≤ N → Rises f → Crossing rel N f
rising rel N f few up =
    let e = at_solve f up (whole (pos 0)) in record {
      root = solve f up (whole (pos 0));
      small = omega (arith, few);
      sides = λ u v h. elim h [
        | inl k ↦ below_zero rel (at f u) (at f v) (lt_of_lt_of_le (lt_at f up k.0) (le_of_same e)) (lt_of_lt_of_le (lt_at f up k.1) (le_of_same e))
        | inr k ↦ above_zero rel (at f u) (at f v) (lt_of_le_of_lt (ge_of_same e) (lt_at f up k.0)) (lt_of_le_of_lt (ge_of_same e) (lt_at f up k.1))
      ];
    }

zero_back : (x : Rational) → negate x ≈ whole (pos 0) → x ≈ whole (pos 0)
zero_back x e = record { same = omega (arith, e.same) }

falling : (rel : Rel) (N : ℕ) (f : Line) → f.rise_down ≤ N → Falls f → Crossing rel N f
falling rel N f few down =
    let up : Rises (negate_line f) = record { rises = down.falls } in
    let z = solve (negate_line f) up (whole (pos 0)) in
    let e = zero_back (at f z) (same_trans (same_sym (at_negate f z)) (at_solve (negate_line f) up (whole (pos 0)))) in record {
      root = z;
      small = omega (arith, few);
      sides = λ u v h. elim h [
        | inl k ↦ above_zero rel (at f u) (at f v) (lt_of_le_of_lt (ge_of_same e) (lt_at_falls f down k.0))
            (lt_of_le_of_lt (ge_of_same e) (lt_at_falls f down k.1))
        | inr k ↦ below_zero rel (at f u) (at f v) (lt_of_lt_of_le (lt_at_falls f down k.0) (le_of_same e))
            (lt_of_lt_of_le (lt_at_falls f down k.1) (le_of_same e))
      ];
    }

crossing : (rel : Rel) (N : ℕ) (f : Line) → f.rise_up ≤ N → f.rise_down ≤ N → Crossing rel N f
crossing rel N f rises falls = elim (slope_of f) [
  | inl up ↦ rising rel N f rises up
  | inr (inl flat) ↦ record {
    root = whole (pos 0);
    small = omega arith;
    sides = λ u v h. compares_same rel (at f u) (at f v) (at_level u v f flat);
  }
  | inr (inr down) ↦ falling rel N f falls down
]

grows : (b : Bool) (n : ℕ) → n ≤ cond b (suc n) n
grows true n = omega arith
grows false n = omega arith

-- a row more is no fewer rows
pub one_more : (lo hi : Rational) (r : Row) (rows : List Row) → rows_within lo hi rows ≤ rows_within lo hi (r ∷ rows)
one_more lo hi r rows = grows _ (rows_within lo hi rows)

-- a row in the stretch is one more
pub counted : (lo hi : Rational) (r : Row) (rows : List Row) → lo ≤ʳ row_time r → row_time r ≤ʳ hi
    → rows_within lo hi (r ∷ rows) ≡ suc (rows_within lo hi rows)
counted lo hi r rows h k = rw (less_no (row_time r) lo h, less_no hi (row_time r) k) refl

too_early : (lo hi : Rational) (r : Row) (rows : List Row) → row_time r <ʳ lo → rows_within lo hi (r ∷ rows) ≡ rows_within lo hi rows
too_early lo hi r rows h = rw (less_in (row_time r) lo h) refl

too_late : (lo hi : Rational) (r : Row) (rows : List Row) → lo ≤ʳ row_time r → hi <ʳ row_time r → rows_within lo hi (r ∷ rows) ≡ rows_within lo hi rows
too_late lo hi r rows h k = rw (less_no (row_time r) lo h, less_in hi (row_time r) k) refl

-- a wider stretch has no fewer rows
pub wider : (low lo hi high : Rational) → low ≤ʳ lo → hi ≤ʳ high → (rows : List Row) → rows_within lo hi rows ≤ rows_within low high rows
wider low lo hi high h k [] = omega arith
wider low lo hi high h k (r ∷ rows) =
    let e = wider low lo hi high h k rows in
    let g = one_more low high r rows in
    elim (le_or_lt lo (row_time r)) [
      | inl after ↦ elim (le_or_lt (row_time r) hi) [
        | inl before ↦
            let a = counted lo hi r rows after before in
            let b = counted low high r rows (le_trans h after) (le_trans before k) in
            omega (arith, a, b, e)
        | inr late ↦ let a = too_late lo hi r rows after late in omega (arith, a, e, g)
      ]
      | inr early ↦ let a = too_early lo hi r rows early in omega (arith, a, e, g)
    ]

-- the sizes of all values of rows together
abbrev size : List ℤ → ℕ
size [] = 0
size (v ∷ values) = nat_abs v + size values

abbrev sizes : List Row → ℕ
sizes [] = 0
sizes (r ∷ rows) = size r.values + sizes rows

up_to_size : (values : List ℤ) (c : ℕ) → nat_abs (slice_index_or values c (pos 0)) ≤ size values
up_to_size [] c = omega arith
up_to_size (v ∷ values) zero = omega arith
up_to_size (v ∷ values) (suc c) = let k = up_to_size values c in omega (arith, k)

up_to_sizes : (V : ℕ) (rows : List Row) → sizes rows ≤ V → All (IsUpTo V) rows
up_to_sizes V [] h = All-nil (IsUpTo V)
up_to_sizes V (r ∷ rows) h =
    All-cons (IsUpTo V) r rows (λ c. let k = up_to_size r.values c in omega (arith, k, h)) (up_to_sizes V rows (omega (arith, h)))

module _ (tr : Trace) (i : ℕ) (a : Atom) (V : ℕ) where
  -- how steep the columns may be, and the atom's expression
  abbrev B : ℕ
  B = 2 * V

  abbrev N : ℕ
  N = slopes B a.terms

  -- about a time of the set, that is not the crossing, the atom has one truth
  calm_on : (P : Rational → Type 0) (run : ℕ) (l : IsLineOn P run N (expression a tr)) (c : Crossing a.rel N l.line) (t : Rational) (n : Near t)
      → ((u : Rational) → IsNear n u → P u) → ¬ (t ≈ c.root) → Calm (atom i a) tr t
  calm_on P run l c t n inside apart =
      let clear = clear_of c.root t apart in
      let both = within_both n clear.near in record {
        near = both.near;
        alike = λ u v p q h.
            compares_same a.rel (at l.line v) (expression a tr v) (same_sym (l.same v (inside v (both.first v q))))
            (c.sides u v (side clear (both.second u p) (both.second v q))
            (compares_same a.rel (expression a tr u) (at l.line u) (l.same u (inside u (both.first u p))) h));
      }

  -- few times, with small denominators, such that about each other time of the stretch with a neighbourhood in the set the atom has one truth
  record FewOn (P : Rational → Type 0) (lo hi : Rational) (count : ℕ) : Type 0 where
    times_of : List Rational
    few : length times_of ≤ count
    small : (t : Rational) → IsRare (max 1 N) t → ¬ (IsAmong times_of t)
    calm : (t : Rational) → Within lo hi t → (n : Near t) → ((u : Rational) → IsNear n u → P u) → ¬ (IsAmong times_of t) → Calm (atom i a) tr t

  -- on a set with one line the crossing is the only one
  one_line : (P : Rational → Type 0) (lo hi : Rational) (count : ℕ) → 1 ≤ count → AreLinesOn P B tr → FewOn P lo hi count
  one_line P lo hi count some lines =
      let l = of_atom P B tr lines a in
      let c = crossing a.rel N l.line l.rise_up l.rise_down in record {
        times_of = c.root ∷ [];
        few = omega (arith, some);
        small = λ t rare among. elim among [ inl e ↦ rare c.root c.small e | inr none ↦ none ];
        calm = λ t w n inside apart. calm_on P lines.run l c t n inside (λ e. apart (inl e));
      }

  -- the line before the next row
  lines_before : (P : Rational → Type 0) (r s : Row) (rows : List Row) → IsUpTo V r → IsUpTo V s
      → ((step : Bool) (c : ℕ) (u : Rational) → P u → column_value step c tr.rows u ≡ value_from step c r (s ∷ rows) u)
      → AreLinesOn (λ u. P u × (u <ʳ row_time s)) B tr
  lines_before P r s rows h k same = record {
    run = suc (s.time - suc r.time);
    some = zero-lt-suc (s.time - suc r.time);
    line_of = λ step c. line_as (piece step c r s) (column_value step c tr.rows) (piece_line (λ u. P u × (u <ʳ row_time s)) V r s step c h k) (λ u h. h)
        (λ u h. rw (same step c u h.0, less_in u (row_time s) h.1) refl);
  }

  -- after the last row
  lines_after : (P : Rational → Type 0) (r : Row)
      → ((step : Bool) (c : ℕ) (u : Rational) → P u → column_value step c tr.rows u ≡ value_from step c r [] u) → AreLinesOn P B tr
  lines_after P r same = record {
    run = 1;
    some = zero-lt-suc 0;
    line_of = λ step c. line_as (λ u. whole (value r c)) (column_value step c tr.rows) (constant_line P 1 B (zero-lt-suc 0) (value r c)) (λ u h. h)
        (λ u h. same step c u h);
  }

  -- before the stretch
  passed : (P : Rational → Type 0) (lo hi : Rational) (s : Row) (n m : ℕ) → n ≤ m → row_time s <ʳ lo
      → FewOn (λ u. P u × (row_time s <ʳ u)) lo hi (2 * n + 1) → FewOn P lo hi (2 * m + 1)
  passed P lo hi s n m more early f = record {
    times_of = f.times_of;
    few = let k = f.few in omega (arith, k, more);
    small = f.small;
    calm = λ t w near inside apart.
        let late : Near t = record { from = row_time s; to = by t (ahead 1); before = lt_of_lt_of_le early w.above; after = one_after t } in
        let both = within_both near late in
        f.calm t w both.near (λ u h. (inside u (both.first u h), (both.second u h).above)) apart;
  }

  -- behind it
  beyond : (P : Rational → Type 0) (lo hi : Rational) (s : Row) (m : ℕ) → hi <ʳ row_time s
      → FewOn (λ u. P u × (u <ʳ row_time s)) lo hi 1 → FewOn P lo hi (2 * m + 1)
  beyond P lo hi s m late f = record {
    times_of = f.times_of;
    few = let k = f.few in omega (arith, k);
    small = f.small;
    calm = λ t w near inside apart.
        let early : Near t = record { from = by t (behind 1); to = row_time s; before = one_before t; after = lt_of_le_of_lt w.below late } in
        let both = within_both near early in
        f.calm t w both.near (λ u h. (inside u (both.first u h), (both.second u h).below)) apart;
  }

  -- in it
  amid : (P : Rational → Type 0) (lo hi : Rational) (s : Row) (n m : ℕ) → m ≡ suc n → (c : AreLinesOn (λ u. P u × (u <ʳ row_time s)) B tr)
      → FewOn (λ u. P u × (row_time s <ʳ u)) lo hi (2 * n + 1) → FewOn P lo hi (2 * m + 1)
  amid P lo hi s n m more lines f =
      let l = of_atom (λ u. P u × (u <ʳ row_time s)) B tr lines a in
      let c = crossing a.rel N l.line l.rise_up l.rise_down in record {
        times_of = c.root ∷ row_time s ∷ f.times_of;
        few = let k = f.few in omega (arith, k, more);
        small = λ t rare among. elim among [
          | inl e ↦ rare c.root c.small e
          | inr (inl e) ↦ rare (row_time s) (omega arith) e
          | inr (inr k) ↦ f.small t rare k
        ];
        calm = λ t w near inside apart. elim (lt_or_same_or_gt t (row_time s)) [
          | inl before ↦
              let early : Near t = record { from = by t (behind 1); to = row_time s; before = one_before t; after = before } in
              let both = within_both near early in
              calm_on (λ u. P u × (u <ʳ row_time s)) lines.run l c t both.near (λ u h. (inside u (both.first u h), (both.second u h).below))
              (λ e. apart (inl e))
          | inr (inl e) ↦ absurd (apart (inr (inl e)))
          | inr (inr after) ↦
              let late : Near t = record { from = row_time s; to = by t (ahead 1); before = after; after = one_after t } in
              let both = within_both near late in
              f.calm t w both.near (λ u h. (inside u (both.first u h), (both.second u h).above)) (λ h. apart (inr (inr h)))
        ];
      }

  walk : (lo hi : Rational) (rows : List Row) (r : Row) (P : Rational → Type 0) → IsUpTo V r → All (IsUpTo V) rows
      → ((step : Bool) (c : ℕ) (u : Rational) → P u → column_value step c tr.rows u ≡ value_from step c r rows u)
      → FewOn P lo hi (2 * rows_within lo hi rows + 1)
  walk lo hi [] r P here rest same = one_line P lo hi 1 (omega arith) (lines_after P r same)
  walk lo hi (s ∷ rows) r P here rest same =
      let next = All-head (IsUpTo V) s rows rest in
      let lines = lines_before P r s rows here next same in
      let f = walk lo hi rows s (λ u. P u × (row_time s <ʳ u)) next (All-tail (IsUpTo V) s rows rest)
      (λ step c u h. rw (same step c u h.0, less_no u (row_time s) (le_of_lt h.1)) refl) in
      elim (le_or_lt lo (row_time s)) [
        | inl after ↦ elim (le_or_lt (row_time s) hi) [
          | inl before ↦ amid P lo hi s (rows_within lo hi rows) (rows_within lo hi (s ∷ rows)) (counted lo hi s rows after before) lines f
          | inr late ↦ beyond P lo hi s (rows_within lo hi (s ∷ rows)) late (one_line (λ u. P u × (u <ʳ row_time s)) lo hi 1 (omega arith) lines)
        ]
        | inr early ↦ passed P lo hi s (rows_within lo hi rows) (rows_within lo hi (s ∷ rows)) (one_more lo hi s rows) early f
      ]

  -- any time
  abbrev Any : Rational → Type 0
  Any u = Unit {0}

  all : (lo hi : Rational) (rows : List Row) → tr.rows ≡ rows → All (IsUpTo V) rows → FewOn Any lo hi (2 * rows_within lo hi rows + 1)
  all lo hi [] is fit = one_line Any lo hi 1 (omega arith) (record {
    run = 1;
    some = zero-lt-suc 0;
    line_of = λ step c. line_as (λ u. whole (pos 0)) (column_value step c tr.rows) (constant_line Any 1 B (zero-lt-suc 0) (pos 0)) (λ u h. h)
        (λ u h. rw is refl);
  })
  all lo hi (r ∷ rows) is fit =
      let w = walk lo hi rows r Any (All-head (IsUpTo V) r rows fit) (All-tail (IsUpTo V) r rows fit) (λ step c u h. rw is refl) in
      let g = one_more lo hi r rows in record {
        times_of = w.times_of;
        few = let k = w.few in omega (arith, k, g);
        small = w.small;
        calm = w.calm;
      }

  -- about a time with no denominator up to the slope of its expression an atom has one truth
  pub calm_if_rare : All (IsUpTo V) tr.rows → (t : Rational) → IsRare (max 1 N) t → Calm (atom i a) tr t
  calm_if_rare fit t rare =
      let f = all t t tr.rows refl fit in
      f.calm t (record { above = le_refl t; below = le_refl t }) (soon t) (λ u h. tt) (f.small t rare)

-- few times of a stretch are all at which an atom may turn there: two for each row in it, and one
pub atom_times : (tr : Trace) (i : ℕ) (a : Atom) (lo hi : Rational) → (xs : List Rational) × (length xs ≤ 2 * rows_within lo hi tr.rows + 1)
    × ((t : Rational) → Within lo hi t → ¬ (IsAmong xs t) → Calm (atom i a) tr t)
atom_times tr i a lo hi =
    let V = sizes tr.rows in
    let f = all tr i a V lo hi tr.rows refl (up_to_sizes V tr.rows (omega arith)) in
    (f.times_of, f.few, λ t w apart. f.calm t w (soon t) (λ u h. tt) apart)
