-- A trace by another clock, and in ticks that are M times smaller for values: its columns and the atoms over them.
use Rattle.std.proofs.Common.{◌≡◌, ℕ, suc, ◌+◌, ◌-◌, ◌*◌, ◌<◌, Bool, true, false, cond, List, [], ◌∷◌, map, length, refl, ap, ◌∙◌, subst, arith, ℤ, pos}
use Rattle.std.specs.Prelude.{◌*ℤ◌, bytes_eq}
use Rattle.std.proofs.Math.Nat.{mul-pos, mul-lt-mul_of_pos_left, zero-lt-suc}
use Rattle.std.proofs.Math.ListN.{get_or-map}
use Rattle.std.proofs.lemmas.List.{length-map}
use Rattle.rational.specs.Rational.{part_above, part_below}
use Rattle.rational.specs.Line.{Line, at}
use Rattle.rational.specs.Time.{Rational, ◌≈◌, whole, less, negate, times}
use Rattle.rational.proofs.Order.{same_trans, le_of_same, ge_of_same, lt_of_lt_of_le}
use Rattle.rational.proofs.Field.{same_add, same_negate}
use Rattle.rational.proofs.TimeLemmas.{same_times, less_in, less_out}
use Rattle.stl_syntax.specs.Trace.{Column, Row, Trace, IsTrace, AreRows, AreRowsAfter, row_time, value, line_between, piece}
use Rattle.stl_syntax.specs.Trace.{value_from, column_value, value_among, value_of, first_time, last_time, start, stop}
use Rattle.stl_syntax.specs.Truth.{sum_at, expression}
use Rattle.stl_syntax.specs.Scaling.{scaled_atom}
use Rattle.stl_syntax.specs.declared.scale.Scale.{Scale}
use Rattle.stl_syntax.specs.declared.atom.Atom.{Atom}
use Rattle.stl_syntax.specs.declared.atom.Term.{Term}
use Rattle.bounds.proofs.NearTimes.{Move, ahead}
use Rattle.unit_laws.proofs.Multiples.{stretch, add_stretch, times_stretch, above-times, below-times, whole_stretch}
use Rattle.unit_laws.proofs.Clocks.{clock, clock_lt, lt_of_clock}
use Rattle.unit_laws.proofs.Recounts.{IsRecount}

-- the test of the order is that by the clock
less_by : (K : ℕ) (o : Move) → 0 < K → (t u v : Rational) → v ≈ clock K o u → less (clock K o t) v ≡ less t u
less_by K o p t u v e = by_test (less t u) refl
  where
    not_less : less t u ≡ false → (b : Bool) → less (clock K o t) v ≡ b → b ≡ false
    not_less n false f = refl
    not_less n true f =
        absurd (let g = less_in t u (lt_of_clock K o (lt_of_lt_of_le (less_out (clock K o t) v f) (le_of_same e))) in cc)

    by_test : (b : Bool) → less t u ≡ b → less (clock K o t) v ≡ less t u
    by_test true h = rw h (less_in (clock K o t) v (lt_of_lt_of_le (clock_lt K o p (less_out t u h)) (ge_of_same e)))
    by_test false h = rw h (not_less h (less (clock K o t) v) refl)

-- a line that is K times as wide and M times as high, and moved by o
pub at_by : (f g : Line) (K : ℕ) (o : Move) (M : ℕ) (t : Rational) → g.base_up ≡ K * (M * f.base_up) + M * f.rise_down * o.up + M * f.rise_up * o.down
    → g.base_down ≡ K * (M * f.base_down) + M * f.rise_up * o.up + M * f.rise_down * o.down
    → g.rise_up ≡ M * f.rise_up → g.rise_down ≡ M * f.rise_down → g.run ≡ K * f.run
    → at g (clock K o t) ≈ stretch M (at f t)
at_by f g K o M t a b c e h = record { same = rw (a, b, c, e, h) (omega arith) }

base_by : (K o M G r x y z g x' y' : ℕ) → g ≡ K * G → x' ≡ M * x → y' ≡ M * y
    → x' * g + (y' + x') * (K * r + o) ≡ K * (M * (x * G + (y + x) * r)) + M * (y + x) * o + M * z * 0
base_by K o M G r x y z g x' y' e a b = rw (e, a, b) (omega arith)

gap_by : (K o r s : ℕ) → 0 < K → r < s → suc (K * s + o - suc (K * r + o)) ≡ K * suc (s - suc r)
gap_by K o r s p h =
    let e : s ≡ r + suc (s - suc r) = omega arith in
    let m : K * s ≡ K * (r + suc (s - suc r)) = ap (λ x. K * x) e in
    let n : K * (r + suc (s - suc r)) ≡ K * r + K * suc (s - suc r) = omega arith in
    let q : 0 < K * suc (s - suc r) = mul-pos p (zero-lt-suc (s - suc r)) in
    omega (arith, m, n, q)

chosen_by : (M : ℕ) (b : Bool) (x y v w : Rational) → v ≈ stretch M x → w ≈ stretch M y → cond b v w ≈ stretch M (cond b x y)
chosen_by M true x y v w h k = h
chosen_by M false x y v w h k = k

module _ (K o M : ℕ) (kp : 0 < K) (mp : 0 < M) where
  -- the row by the clock, with its values in smaller ticks
  abbrev pub row_by : Row → Row
  row_by r = record { time = K * r.time + o; values = map (λ v. pos M *ℤ v) r.values }

  value_by : (r : Row) (c : ℕ) → value (row_by r) c ≡ pos M *ℤ value r c
  value_by r c =
      let zero_by : pos M *ℤ pos 0 ≡ pos 0 = ap pos (let e : M * 0 ≡ 0 = omega arith in e) in
      subst (λ z. value_of_list r z ≡ pos M *ℤ value r c) zero_by (get_or-map (λ v. pos M *ℤ v) r.values c (pos 0))
    where
      value_of_list : Row → ℤ → ℤ
      value_of_list r z = Rattle.std.proofs.Math.ListN.get_or (map (λ v. pos M *ℤ v) r.values) c z

  row_same : (s : Row) → row_time (row_by s) ≈ clock K (ahead o) (row_time s)
  row_same s = record { same = omega arith }

  zero_same : whole (pos 0) ≈ stretch M (whole (pos 0))
  zero_same = record { same = omega arith }

  value_same : (r : Row) (c : ℕ) → whole (value (row_by r) c) ≈ stretch M (whole (value r c))
  value_same r c = rw (value_by r c) (whole_stretch M (value r c))

  piece_by : (step : Bool) (c : ℕ) (r s : Row) (t : Rational) → r.time < s.time
      → piece step c (row_by r) (row_by s) (clock K (ahead o) t) ≈ stretch M (piece step c r s t)
  piece_by true c r s t h = value_same r c
  piece_by false c r s t h =
      let v = value r c in
      let w = value s c in
      let gap = gap_by K o r.time s.time kp h in
      let va : part_above (value (row_by r) c) ≡ M * part_above v = ap part_above (value_by r c) ∙ above-times M v in
      let vb : part_below (value (row_by r) c) ≡ M * part_below v = ap part_below (value_by r c) ∙ below-times M v in
      let wa : part_above (value (row_by s) c) ≡ M * part_above w = ap part_above (value_by s c) ∙ above-times M w in
      let wb : part_below (value (row_by s) c) ≡ M * part_below w = ap part_below (value_by s c) ∙ below-times M w in
      at_by (line_between r.time v (s.time - suc r.time) w)
      (line_between (K * r.time + o) (value (row_by r) c) (K * s.time + o - suc (K * r.time + o)) (value (row_by s) c)) K (ahead o) M t
      (base_by K o M (suc (s.time - suc r.time)) r.time (part_above v) (part_below w) (part_above w + part_below v) _ _ _ gap va wb)
      (base_by K o M (suc (s.time - suc r.time)) r.time (part_below v) (part_above w) (part_below w + part_above v) _ _ _ gap vb wa)
      (omega (arith, wa, vb)) (omega (arith, wb, va)) gap

  value_from_by : (step : Bool) (c n : ℕ) (r : Row) (rows : List Row) (t : Rational) → AreRowsAfter n r.time rows
      → value_from step c (row_by r) (map row_by rows) (clock K (ahead o) t) ≈ stretch M (value_from step c r rows t)
  value_from_by step c n r [] t ok = value_same r c
  value_from_by step c n r (s ∷ rows) t ok =
      rw (less_by K (ahead o) kp t (row_time s) (row_time (row_by s)) (row_same s))
      (chosen_by M (less t (row_time s)) _ _ _ _ (piece_by step c r s t ok.0) (value_from_by step c n s rows t ok.2))

  column_by : (step : Bool) (c n : ℕ) (rows : List Row) (t : Rational) → AreRows n rows
      → column_value step c (map row_by rows) (clock K (ahead o) t) ≈ stretch M (column_value step c rows t)
  column_by step c n [] t ok = zero_same
  column_by step c n (r ∷ rows) t ok = value_from_by step c n r rows t ok.1

  among_by : (columns : List Column) (c n : ℕ) (rows : List Row) (name : List ℕ) (t : Rational) → AreRows n rows
      → value_among columns c (map row_by rows) name (clock K (ahead o) t) ≈ stretch M (value_among columns c rows name t)
  among_by [] c n rows name t ok = zero_same
  among_by (k ∷ columns) c n rows name t ok =
      chosen_by M (bytes_eq k.name name) _ _ _ _ (column_by k.step c n rows t ok) (among_by columns (suc c) n rows name t ok)

  after_counted : (n t : ℕ) (rows : List Row) → AreRowsAfter n t rows → AreRowsAfter n (K * t + o) (map row_by rows)
  after_counted n t [] h = tt
  after_counted n t (r ∷ rows) h = (
    let l = mul-lt-mul_of_pos_left h.0 kp in omega (arith, l),
    length-map r.values (λ v. pos M *ℤ v) ∙ h.1,
    after_counted n r.time rows h.2,
  )

  -- the rows by the clock are those of a trace
  pub rows_counted : (n : ℕ) (rows : List Row) → AreRows n rows → AreRows n (map row_by rows)
  rows_counted n [] h = h
  rows_counted n (r ∷ rows) h = (length-map r.values (λ v. pos M *ℤ v) ∙ h.0, after_counted n r.time rows h.1)

  module _ (tr : Trace) (ok : IsTrace tr) (scale : Scale) where
    -- the trace in smaller ticks
    abbrev pub trace_by : Trace
    trace_by = record { header = record { columns = tr.header.columns; scale = scale }; rows = map row_by tr.rows }

    value_of_by : (name : List ℕ) (t : Rational) → value_of trace_by name (clock K (ahead o) t) ≈ stretch M (value_of tr name t)
    unfolding value_of
    value_of_by name t = among_by tr.header.columns 0 (length tr.header.columns) tr.rows name t ok.rows

    sum_by : (terms : List Term) (t : Rational) → sum_at terms trace_by (clock K (ahead o) t) ≈ stretch M (sum_at terms tr t)
    sum_by [] t = zero_same
    sum_by (x ∷ terms) t =
        same_trans (same_add (same_trans (same_times x.coef (value_of_by x.name t)) (times_stretch M x.coef (value_of tr x.name t))) (sum_by terms t))
        (add_stretch M (times x.coef (value_of tr x.name t)) (sum_at terms tr t))

    expression_by : (a : Atom) (t : Rational) → expression (scaled_atom M a) trace_by (clock K (ahead o) t) ≈ stretch M (expression a tr t)
    unfolding expression
    expression_by a t =
        same_trans (same_add (sum_by a.terms t) (same_negate (whole_stretch M a.limit))) (add_stretch M (sum_at a.terms tr t) (negate (whole a.limit)))

    last_by : (x : ℕ) (rows : List Row) → last_time (K * x + o) (map row_by rows) ≡ K * last_time x rows + o
    last_by x [] = refl
    last_by x (r ∷ rows) = last_by r.time rows

    -- it begins where the clock shows its start
    start_by : start trace_by ≈ clock K (ahead o) (start tr)
    start_by = by_rows tr.rows ok.rows
      where
        by_rows : (rows : List Row) → AreRows (length tr.header.columns) rows
            → whole (pos (first_time (map row_by rows))) ≈ clock K (ahead o) (whole (pos (first_time rows)))
        by_rows [] h = absurd h
        by_rows (r ∷ rows) h = record { same = omega arith }

    -- and ends where it shows its end
    stop_by : stop trace_by ≈ clock K (ahead o) (stop tr)
    stop_by = by_rows tr.rows ok.rows
      where
        by_rows : (rows : List Row) → AreRows (length tr.header.columns) rows
            → whole (pos (last_time 0 (map row_by rows))) ≈ clock K (ahead o) (whole (pos (last_time 0 rows)))
        by_rows [] h = absurd h
        by_rows (r ∷ rows) h = let e = last_by r.time rows in record { same = omega (arith, e) }

    -- so the one trace is the other, counted anew
    pub counted_anew : IsRecount K (ahead o) M tr trace_by
    counted_anew = record { expressions = expression_by; starts = start_by; stops = stop_by }
