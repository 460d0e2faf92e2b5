-- What rows answer stays so in every trace that goes on from them.
use Rattle.std.proofs.Common.{ℕ, suc, pos, ◌-◌, List, [], ◌∷◌, ◌++◌, inl, inr, Bool, true, false, arith, ◌⊎◌, max}
use Rattle.std.specs.Prelude.{bytes_eq, ◌↔◌}
use Rattle.rational.specs.Line.{at}
use Rattle.rational.proofs.Order.{le_or_lt, same_refl, same_sym, same_trans, same_of_le, lt_of_le_of_lt}
use Rattle.rational.proofs.Field.{same_add, same_subtract}
use Rattle.rational.proofs.Lines.{same_at}
use Rattle.rational.specs.Time.{Rational, ◌≤ʳ◌, ◌<ʳ◌, ◌≈◌, Within, whole, later}
use Rattle.stl_syntax.specs.Trace.{Column, Row, Trace, AreRowsAfter, row_time, value, line_between, piece, value_from, value_among, value_of, last_time, Header}
use Rattle.stl_syntax.specs.Formula.{Subformula, constant, atom, negation, conjunction, disjunction, implication}
use Rattle.stl_syntax.specs.Formula.{until, eventually, always, since, once, historically, horizon}
use Rattle.stl_syntax.specs.Truth.{sum_at, expression, Truth}
use Rattle.stl_syntax.specs.declared.atom.Term.{Term}
use Rattle.stl_syntax.specs.declared.atom.Atom.{Atom}
use Rattle.rational.proofs.TimeLemmas.{same_times, less_in, less_no}
use Rattle.rational.proofs.Tests.{either}
use Rattle.stl_syntax.proofs.Reaching.{Reaches, reach_now, reach_less, ahead_reaches, ahead_longer, ahead_shorter}
use Rattle.stl_syntax.proofs.Reaching.{behind_reaches, behind_longer, behind_shorter, until_left, until_right, since_left}
use Rattle.stl_syntax.proofs.Reaching.{since_right}
use Rattle.stl_syntax.proofs.TruthLemmas.{compares_same, chosen}
use Rattle.stl_syntax.proofs.RowsLemmas.{last_grows}

-- a ramp has at its first row that row's value
ramp_starts : (c : ℕ) (r s : Row) → at (line_between r.time (value r c) (s.time - suc r.time) (value s c)) (row_time r) ≈ whole (value r c)
ramp_starts c r s = record { same = omega arith }

-- each column has at a row the row's value
pub piece_starts : (step : Bool) (c : ℕ) (r s : Row) (t : Rational) → t ≈ row_time r → piece step c r s t ≈ whole (value r c)
piece_starts true c r s t e = same_refl (whole (value r c))
piece_starts false c r s t e = same_trans (same_at (line_between r.time (value r c) (s.time - suc r.time) (value s c)) e) (ramp_starts c r s)

-- the part up to the next row is the same
by_next : (step : Bool) (c : ℕ) (r s : Row) (rows more : List Row) (t : Rational)
    → (row_time s ≤ʳ t → value_from step c s rows t ≈ value_from step c s (rows ++ more) t)
    → value_from step c r (s ∷ rows) t ≈ value_from step c r (s ∷ (rows ++ more)) t
by_next step c r s rows more t later = by_order (le_or_lt (row_time s) t)
  where
    by_order : (row_time s ≤ʳ t) ⊎ (t <ʳ row_time s) → value_from step c r (s ∷ rows) t ≈ value_from step c r (s ∷ (rows ++ more)) t
    by_order (inl g) = rw (less_no t (row_time s) g) (later g)
    by_order (inr l) = rw (less_in t (row_time s) l) (same_refl (piece step c r s t))

-- up to the last row of a trace its columns have the values that they have when more rows follow
same_from : (step : Bool) (c n : ℕ) (r : Row) (rows more : List Row) (t : Rational) → AreRowsAfter n r.time (rows ++ more)
    → row_time r ≤ʳ t → t ≤ʳ whole (pos (last_time r.time rows)) → value_from step c r rows t ≈ value_from step c r (rows ++ more) t
same_from step c n r [] [] t ok h k = same_refl (whole (value r c))
same_from step c n r [] (s ∷ more) t ok h k =
    let soon : t <ʳ row_time s = lt_of_le_of_lt k (let e = ok.0 in record { lt = omega arith }) in
    rw (less_in t (row_time s) soon) (same_sym (piece_starts step c r s t (same_of_le k h)))
same_from step c n r (s ∷ rows) more t ok h k =
    by_next step c r s rows more t (λ g. same_from step c n s rows more t ok.2 g k)

same_among : (columns : List Column) (c n : ℕ) (r : Row) (rows more : List Row) (name : List ℕ) (t : Rational) → AreRowsAfter n r.time (rows ++ more)
    → row_time r ≤ʳ t → t ≤ʳ whole (pos (last_time r.time rows)) → value_among columns c (r ∷ rows) name t ≈ value_among columns c (r ∷ (rows ++ more)) name t
same_among [] c n r rows more name t ok h k = same_refl (whole (pos 0))
same_among (x ∷ columns) c n r rows more name t ok h k =
    chosen (bytes_eq x.name name) _ _ _ _ (same_from x.step c n r rows more t ok h k) (same_among columns (suc c) n r rows more name t ok h k)

abbrev pub trace : Header → List Row → Trace
trace header rows = record { header = header; rows = rows }

module _ (header : Header) (n : ℕ) (r : Row) (rows more : List Row) (ok : AreRowsAfter n r.time (rows ++ more)) where
  same_column : (name : List ℕ) (t : Rational) → row_time r ≤ʳ t → t ≤ʳ whole (pos (last_time r.time rows))
      → value_of (trace header (r ∷ rows)) name t ≈ value_of (trace header (r ∷ (rows ++ more))) name t
  unfolding value_of
  same_column name t h k = same_among header.columns 0 n r rows more name t ok h k

  same_sum : (terms : List Term) (t : Rational) → row_time r ≤ʳ t → t ≤ʳ whole (pos (last_time r.time rows))
      → sum_at terms (trace header (r ∷ rows)) t ≈ sum_at terms (trace header (r ∷ (rows ++ more))) t
  same_sum [] t h k = same_refl (whole (pos 0))
  same_sum (x ∷ terms) t h k = same_add (same_times x.coef (same_column x.name t h k)) (same_sum terms t h k)

  -- an atom's expression is the same up to the last row
  pub same_atom : (a : Atom) (t : Rational) → row_time r ≤ʳ t → t ≤ʳ whole (pos (last_time r.time rows))
      → expression a (trace header (r ∷ rows)) t ≈ expression a (trace header (r ∷ (rows ++ more))) t
  unfolding expression
  same_atom a t h k = same_subtract (same_sum a.terms t h k) (same_refl (whole a.limit))

  -- more rows end no earlier
  pub longer : whole (pos (last_time r.time rows)) ≤ʳ whole (pos (last_time r.time (rows ++ more)))
  longer = let h = last_grows n r.time rows more ok in record { le = omega arith }

  abbrev from : Rational
  from = row_time r

  abbrev to : Rational
  to = whole (pos (last_time r.time rows))

  -- an answered truth is the truth in each trace that goes on from the rows
  pub Truth-settled : (p : Subformula) (t : Rational) → Reaches from to (horizon p) t
      → Truth p (trace header (r ∷ rows)) t ↔ Truth p (trace header (r ∷ (rows ++ more))) t
  Truth-settled (constant b) t h = (λ x. x, λ x. x)
  Truth-settled (atom i a) t h =
      let e = same_atom a t h.after (reach_now 0 h) in
      (λ x. compares_same a.rel _ _ e x, λ x. compares_same a.rel _ _ (same_sym e) x)
  Truth-settled (negation p) t h = let s = Truth-settled p t h in (λ x y. x (s.1 y), λ x y. x (s.0 y))
  Truth-settled (conjunction p q) t h =
      let s = Truth-settled p t (reach_less (horizon p) (max (horizon p) (horizon q)) (omega arith) h) in
      let u = Truth-settled q t (reach_less (horizon q) (max (horizon p) (horizon q)) (omega arith) h) in
      (λ x. (s.0 x.0, u.0 x.1), λ x. (s.1 x.0, u.1 x.1))
  Truth-settled (disjunction p q) t h =
      let s = Truth-settled p t (reach_less (horizon p) (max (horizon p) (horizon q)) (omega arith) h) in
      let u = Truth-settled q t (reach_less (horizon q) (max (horizon p) (horizon q)) (omega arith) h) in
      (either s.0 u.0, either s.1 u.1)
  Truth-settled (implication p q) t h =
      let s = Truth-settled p t (reach_less (horizon p) (max (horizon p) (horizon q)) (omega arith) h) in
      let u = Truth-settled q t (reach_less (horizon q) (max (horizon p) (horizon q)) (omega arith) h) in
      (λ x y. u.0 (x (s.1 y)), λ x y. u.1 (x (s.0 y)))
  Truth-settled (eventually a b a_in b_in p) t h = (
    λ (u, w, x). (u, ahead_longer longer w, (Truth-settled p u (ahead_reaches (horizon p) h w)).0 x),
    λ (u, w, x). (u, ahead_shorter (horizon p) h w, (Truth-settled p u (ahead_reaches (horizon p) h w)).1 x),
  )
  Truth-settled (always a b a_in b_in p) t h = (
    λ x u w. (Truth-settled p u (ahead_reaches (horizon p) h w)).0 (x u (ahead_shorter (horizon p) h w)),
    λ x u w. (Truth-settled p u (ahead_reaches (horizon p) h w)).1 (x u (ahead_longer longer w)),
  )
  Truth-settled (once a b a_in b_in p) t h =
      let now = reach_now (horizon p - a) h in (
        λ (u, w, x). (u, behind_longer longer w, (Truth-settled p u (behind_reaches (horizon p) h w)).0 x),
        λ (u, w, x). (u, behind_shorter now w, (Truth-settled p u (behind_reaches (horizon p) h w)).1 x),
      )
  Truth-settled (historically a b a_in b_in p) t h =
      let now = reach_now (horizon p - a) h in (
        λ x u w. (Truth-settled p u (behind_reaches (horizon p) h w)).0 (x u (behind_shorter now w)),
        λ x u w. (Truth-settled p u (behind_reaches (horizon p) h w)).1 (x u (behind_longer longer w)),
      )
  Truth-settled (until a b p q) t h =
      let left = λ (u v : Rational) (e : u ≤ʳ later t b) (w : Within t u v). until_left p q b h e w in
      let right = λ (u : Rational) (g : from ≤ʳ u) (e : u ≤ʳ later t b). until_right p q b h g e in (
        λ (u, w, x, y). (
          u,
          ahead_longer longer w,
          (Truth-settled q u (right u w.inside.above w.ends)).0 x,
          λ v z. (Truth-settled p v (left u v w.ends z)).0 (y v z),
        ),
        λ (u, w, x, y). (
          u,
          ahead_shorter (max (horizon p) (horizon q)) h w,
          (Truth-settled q u (right u w.inside.above w.ends)).1 x,
          λ v z. (Truth-settled p v (left u v w.ends z)).1 (y v z),
        ),
      )
  Truth-settled (since a b p q) t h =
      let now = reach_now (max (horizon p) (horizon q - a)) h in
      let left = λ (u v : Rational) (g : from ≤ʳ u) (w : Within u t v). since_left p q a h g w in
      let right = λ (u : Rational) (g : from ≤ʳ u) (e : later u a ≤ʳ t). since_right p q a h g e in (
        λ (u, w, x, y). (
          u,
          behind_longer longer w,
          (Truth-settled q u (right u w.inside.above w.ends)).0 x,
          λ v z. (Truth-settled p v (left u v w.inside.above z)).0 (y v z),
        ),
        λ (u, w, x, y). (
          u,
          behind_shorter now w,
          (Truth-settled q u (right u w.inside.above w.ends)).1 x,
          λ v z. (Truth-settled p v (left u v w.inside.above z)).1 (y v z),
        ),
      )
