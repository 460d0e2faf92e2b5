-- A window and one whose ends lie near, both later or both earlier: each time of the one is a time of the other, or one lies near the end that passed
-- it.
use Rattle.std.proofs.Common.{◌≡◌, ℕ, ◌+◌, ◌*◌, ◌<◌, Bool, true, false, refl, ap, arith, inl, inr, sym}
use Rattle.std.specs.Prelude.{◌⊎◌}
use Rattle.std.proofs.Math.Nat.{mul-pos, mul-lt-mul_of_pos_left, eq-or-lt_of_le}
use Rattle.std.proofs.lemmas.Bool.{cases_lt}
use Rattle.rational.specs.Rational.{middle}
use Rattle.rational.specs.Time.{Rational, ◌≤ʳ◌, ◌<ʳ◌, ◌≈◌, Within, Precedes}
use Rattle.rational.proofs.Order.{le_of_lt, le_refl, le_of_same, ge_of_same, lt_of_lt_of_le, lt_of_le_of_lt, lt_trans}
use Rattle.rational.proofs.Order.{le_trans, le_or_lt, not_lt_of_le, lt_irrefl, left_of_middle, right_of_middle}
use Rattle.rational.proofs.TimeLemmas.{precedes_le, precedes_of_lt, precedes_after, precedes_before, decided_order}
use Rattle.bounds.proofs.NearTimes.{Move, by, Near, IsNear, between, le_by, later_one, earlier_one}

-- u lies in the window from x + low to x + high, each end in or out, as far as that lies between S and T
pub record InWindow (S T : Rational) (low high : Move) (i j : Bool) (x u : Rational) : Type 0 where
  -- the time is one of the domain
  pub inside : Within S T u
  -- it does not lie before the low end
  pub begins : Precedes i (by x low) u
  -- nor behind the high one
  pub ends : Precedes j u (by x high)

-- v is not before u, or not after it
abbrev pub Ordered : Bool → Rational → Rational → Type 0
Ordered true u v = u ≤ʳ v
Ordered false u v = v ≤ʳ u

-- a time of the window of y for the time u: u itself, or one that lies near an end with u, and not before it, or not after it
pub record Beside (S T : Rational) (lo hi : Move) (i j on : Bool) {s : Rational} (L : Near s) (y u : Rational) : Type 0 where
  -- a time of the other window
  pub time : Rational
  -- it is in it
  pub within : InWindow S T lo hi i j y time
  -- and is u, or lies near the end with it
  pub beside : (u ≡ time) ⊎ (IsNear L u × IsNear L time × Ordered on u time)

-- the order of two whole numbers
data Order (lo hi : Move) : Type 0 where
  less : ((x : Rational) → by x lo <ʳ by x hi) → Order lo hi
  equal : ((x : Rational) → by x lo ≈ by x hi) → Order lo hi
  more : ((x : Rational) → by x hi <ʳ by x lo) → Order lo hi

shifts_lt : (lo hi : Move) → lo.up + hi.down < hi.up + lo.down → (x : Rational) → by x lo <ʳ by x hi
shifts_lt lo hi h x = record { lt = let p = mul-lt-mul_of_pos_left h (mul-pos x.positive x.positive) in omega (arith, p) }

shifts_same : (lo hi : Move) → lo.up + hi.down ≡ hi.up + lo.down → (x : Rational) → by x lo ≈ by x hi
shifts_same lo hi h x = record { same = omega (arith, ap (λ n. n * (x.den * x.den)) h) }

sizes : (n m : ℕ) → (n < m) ⊎ (n ≡ m) ⊎ (m < n)
sizes n m = elim (cases_lt n m) [ inl h ↦ inl h | inr h ↦ elim (eq-or-lt_of_le h) [ inl e ↦ inr (inl (sym e)) | inr k ↦ inr (inr k) ] ]

order_of : (lo hi : Move) → Order lo hi
order_of lo hi = elim (sizes (lo.up + hi.down) (hi.up + lo.down)) [
  | inl h ↦ less (shifts_lt lo hi h)
  | inr (inl e) ↦ equal (shifts_same lo hi e)
  | inr (inr h) ↦ more (shifts_lt hi lo h)
]

after_of_not : (j : Bool) (u v : Rational) → ¬ Precedes j u v → v ≤ʳ u
after_of_not j u v fails = elim (le_or_lt v u) [ inl h ↦ h | inr h ↦ absurd (fails (precedes_of_lt j u v h)) ]

-- a window of one time has both ends in
instant : (i j : Bool) (a b u : Rational) → a ≈ b → Precedes i a u → Precedes j u b → (v w : Rational) → v ≈ w → Precedes i v w × Precedes j w w
instant true true a b u e p q v w f = (le_of_same f, le_refl w)
instant true false a b u e p q v w f = absurd (lt_irrefl (lt_of_lt_of_le (lt_of_le_of_lt p q) (ge_of_same e)))
instant false true a b u e p q v w f = absurd (lt_irrefl (lt_of_lt_of_le (lt_of_lt_of_le p q) (ge_of_same e)))
instant false false a b u e p q v w f = absurd (lt_irrefl (lt_of_lt_of_le (lt_trans p q) (ge_of_same e)))

module _ {S T s : Rational} (lo hi : Move) (i j : Bool) (L : Near s) (stay : (u v : Rational) → IsNear L u → IsNear L v → Within S T u → Within S T v)
    (x y : Rational) where
  -- a time near the end of the window of y, which does not lie behind u
  by_end : (u : Rational) → InWindow S T lo hi i j x u → IsNear L u → IsNear L (by y hi) → by y hi ≤ʳ u → Order lo hi → Beside S T lo hi i j false L y u
  by_end u w h yh late (less o) =
      let a = later_one (by y hi) L.from (by y lo) yh.above (o y) in
      let l = left_of_middle a.before in
      let r = right_of_middle a.before in
      let v = middle a.time (by y hi) in
      let n : IsNear L v = record { above = lt_of_le_of_lt a.left l; below = lt_trans r yh.below } in record {
        time = v;
        within = record {
          inside = stay u v h n w.inside;
          begins = precedes_of_lt i (by y lo) v (lt_of_le_of_lt a.right l);
          ends = precedes_of_lt j v (by y hi) r;
        };
        beside = inr (h, n, le_trans (le_of_lt r) late);
      }
  by_end u w h yh late (equal o) =
      let b = instant i j (by x lo) (by x hi) u (o x) w.begins w.ends (by y lo) (by y hi) (o y) in record {
        time = by y hi;
        within = record { inside = stay u (by y hi) h yh w.inside; begins = b.0; ends = b.1 };
        beside = inr (h, yh, late);
      }
  by_end u w h yh late (more o) =
      absurd (not_lt_of_le (le_trans (precedes_le i (by x lo) u w.begins) (precedes_le j u (by x hi) w.ends)) (o x))

  -- a time near its begin, which does not lie before u
  by_begin : (u : Rational) → InWindow S T lo hi i j x u → IsNear L u → IsNear L (by y lo) → u ≤ʳ by y lo → Order lo hi → Beside S T lo hi i j true L y u
  by_begin u w h yl soon (less o) =
      let a = earlier_one (by y lo) L.to (by y hi) yl.below (o y) in
      let l = left_of_middle a.after in
      let r = right_of_middle a.after in
      let v = middle (by y lo) a.time in
      let n : IsNear L v = record { above = lt_trans yl.above l; below = lt_of_lt_of_le r a.left } in record {
        time = v;
        within = record {
          inside = stay u v h n w.inside;
          begins = precedes_of_lt i (by y lo) v l;
          ends = precedes_of_lt j v (by y hi) (lt_of_lt_of_le r a.right);
        };
        beside = inr (h, n, le_trans soon (le_of_lt l));
      }
  by_begin u w h yl soon (equal o) =
      let b = instant i j (by x lo) (by x hi) u (o x) w.begins w.ends (by y lo) (by y hi) (o y) in
      let n = between L yl yl (le_of_same (o y)) (ge_of_same (o y)) in record {
        time = by y hi;
        within = record { inside = stay u (by y hi) h n w.inside; begins = b.0; ends = b.1 };
        beside = inr (h, n, le_trans soon (le_of_same (o y)));
      }
  by_begin u w h yl soon (more o) =
      absurd (not_lt_of_le (le_trans (precedes_le i (by x lo) u w.begins) (precedes_le j u (by x hi) w.ends)) (o x))

  -- a time of the window of x, where y is not before x
  pub moved_on : IsNear L (by x lo) → IsNear L (by y lo) → x ≤ʳ y → (u : Rational) → InWindow S T lo hi i j x u → Beside S T lo hi i j true L y u
  moved_on xl yl le u w = elim (decided_order i (by y lo) u) [
    | inl b ↦ record {
      time = u;
      within = record { inside = w.inside; begins = b; ends = precedes_before j u (by x hi) (by y hi) w.ends (le_by hi le) };
      beside = inl refl;
    }
    | inr fails ↦
        let soon = after_of_not i (by y lo) u fails in
        by_begin u w (between L xl yl (precedes_le i (by x lo) u w.begins) soon) yl soon (order_of lo hi)
  ]

  -- and where y is not after x
  pub moved_back : IsNear L (by x hi) → IsNear L (by y hi) → y ≤ʳ x → (u : Rational) → InWindow S T lo hi i j x u → Beside S T lo hi i j false L y u
  moved_back xh yh le u w = elim (decided_order j u (by y hi)) [
    | inl e ↦ record {
      time = u;
      within = record { inside = w.inside; begins = precedes_after i (by y lo) (by x lo) u (le_by lo le) w.begins; ends = e };
      beside = inl refl;
    }
    | inr fails ↦
        let late = after_of_not j u (by y hi) fails in
        by_end u w (between L yh xh late (precedes_le j u (by x hi) w.ends)) yh late (order_of lo hi)
  ]
