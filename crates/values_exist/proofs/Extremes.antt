-- A function whose values over a window are the edges of a test has a Sup and an Inf there, and each is the edge of a test again.
use Rattle.std.proofs.Common.{◌⊎◌, ◌↔◌, inl, inr, List, [], ◌∷◌}
use Rattle.rational.specs.Rational.{Rational, ◌<ʳ◌}
use Rattle.rational.specs.Time.{Within}
use Rattle.rational.specs.Extended.{Extended, finite, ◌≤ᵉ◌, ◌<ᵉ◌, ◌≈ᵉ◌}
use Rattle.rational.specs.Windows.{Function, Window, IsSupOver, IsInfOver}
use Rattle.rational.proofs.ExtendedLemmas.{le_totalᵉ, clashᵉ, le_transᵉ, lt_of_lt_of_leᵉ, lt_of_le_of_ltᵉ, le_of_ltᵉ}
use Rattle.values_exist.proofs.LinearTests.{Test, opposite, both, either, Passes, decide, undenied}
use Rattle.values_exist.proofs.Elimination.{somewhere, somewhere_passes}
use Rattle.values_exist.proofs.Edges.{IsEdge, number_between, edge_alike, edge_downward, edge_of_test}

-- the function has one value at u, and that is the edge of C
pub record HasEdge (F : Function) (u : Rational) (C : Rational → Type 0) : Type 0 where
  pub level : Extended
  pub is_value : F u level
  pub only : (w : Extended) → F u w → w ≈ᵉ level
  pub edge : IsEdge C level

-- what a test says of the points that a number makes can be said by a test of the number
abbrev pub IsSlice : (Rational → List Rational) → Type 0
IsSlice point = (φ : Test) → (ψ : Test) × ((x : Rational) → Passes ψ (x ∷ []) ↔ Passes φ (point x))

-- the test says that the number is at most the value
abbrev pub IsUpToTest : (Rational → List Rational) → Test → Extended → Type 0
IsUpToTest point φ r = (x : Rational) → Passes φ (point x) ↔ (finite x ≤ᵉ r)

-- the number is at most some value of the function in the window, or at most the limit
abbrev pub sup_test : Rational → Rational → Test → Test → Test → Test
sup_test from to window of limit = either (somewhere from to (both window of)) limit

-- the number is at most each value of the function in the window, and at most the limit
abbrev pub inf_test : Rational → Rational → Test → Test → Test → Test
inf_test from to window of limit = both (opposite (somewhere from to (both window (opposite of)))) limit

-- the test tells the times of the window
pub record TellsWindow (from to : Rational) (point : Rational → List Rational) (W : Window) (window : Test) : Type 0 where
  pub inside : (u : Rational) → W u → Within from to u
  pub passes : (u x : Rational) → W u → Passes window (u ∷ point x)
  pub is_in : (u x : Rational) → Within from to u → Passes window (u ∷ point x) → W u

module _ (from to : Rational) (point : Rational → List Rational) (slice : IsSlice point) (W : Window) (F : Function) (window of limit : Test)
    (tells : TellsWindow from to point W window) (edges : (u : Rational) → W u → HasEdge F u (λ x. Passes of (u ∷ point x))) where
  sup_into : (u x : Rational) → W u → Passes of (u ∷ point x) → Passes (sup_test from to window of limit) (point x)
  sup_into u x m p = inl ((somewhere_passes from to (both window of) (point x)).1 (u, tells.inside u m, (tells.passes u x m, p)))

  sup_out : (x : Rational) → Passes (sup_test from to window of limit) (point x)
      → ((u : Rational) × W u × Passes of (u ∷ point x)) ⊎ Passes limit (point x)
  sup_out x (inr h) = inr h
  sup_out x (inl h) = found ((somewhere_passes from to (both window of) (point x)).0 h)
    where
      found : ((u : Rational) × Within from to u × Passes (both window of) (u ∷ point x))
          → ((u : Rational) × W u × Passes of (u ∷ point x)) ⊎ Passes limit (point x)
      found (u, m, p) = inl (u, tells.is_in u x m p.0, p.1)

  inf_out : (u x : Rational) → W u → Passes (inf_test from to window of limit) (point x) → Passes of (u ∷ point x)
  inf_out u x m p = undenied of (u ∷ point x)
      (λ n. p.0 ((somewhere_passes from to (both window (opposite of)) (point x)).1 (u, tells.inside u m, (tells.passes u x m, n))))

  inf_into : (x : Rational) → Passes limit (point x) → ((u : Rational) → W u → Passes of (u ∷ point x)) → Passes (inf_test from to window of limit) (point x)
  inf_into x l all = (λ h. lost ((somewhere_passes from to (both window (opposite of)) (point x)).0 h), l)
    where
      lost : ((u : Rational) × Within from to u × Passes (both window (opposite of)) (u ∷ point x)) → ⊥
      lost (u, m, p) = p.1 (all u (tells.is_in u x m p.0))

  -- a number at which the Inf's test fails is missed by the function in the window, where the limit is not below it
  missed : (x : Rational) → Passes limit (point x) → ¬ Passes (inf_test from to window of limit) (point x)
      → (u : Rational) × W u × (¬ Passes of (u ∷ point x))
  missed x l n = by_test (decide (somewhere from to (both window (opposite of))) (point x))
    where
      found : ((u : Rational) × Within from to u × Passes (both window (opposite of)) (u ∷ point x)) → (u : Rational) × W u × (¬ Passes of (u ∷ point x))
      found (u, m, p) = (u, tells.is_in u x m p.0, p.1)

      by_test : Passes (somewhere from to (both window (opposite of))) (point x) ⊎ (¬ Passes (somewhere from to (both window (opposite of))) (point x))
          → (u : Rational) × W u × (¬ Passes of (u ∷ point x))
      by_test (inl h) = found ((somewhere_passes from to (both window (opposite of)) (point x)).0 h)
      by_test (inr h) = absurd (n (h, l))

  edge_from : (φ : Test) → ((x y : Rational) → x <ʳ y → Passes φ (point y) → Passes φ (point x)) → (r : Extended) × IsEdge (λ x. Passes φ (point x)) r
  edge_from φ downward = of_slice (slice φ)
    where
      of_slice : ((ψ : Test) × ((x : Rational) → Passes ψ (x ∷ []) ↔ Passes φ (point x))) → (r : Extended) × IsEdge (λ x. Passes φ (point x)) r
      of_slice (ψ, same) =
          let found = edge_of_test ψ [] (λ x y l h. (same x).1 (downward x y l ((same y).0 h))) in
          (found.0, edge_alike found.0 (λ x. (same x).0) (λ x. (same x).1) found.1)

  sup_downward : (lowest : Extended) → IsUpToTest point limit lowest → (x y : Rational) → x <ʳ y → Passes (sup_test from to window of limit) (point y)
      → Passes (sup_test from to window of limit) (point x)
  sup_downward lowest up_to x y l h = by_out (sup_out y h)
    where
      by_out : ((u : Rational) × W u × Passes of (u ∷ point y)) ⊎ Passes limit (point y) → Passes (sup_test from to window of limit) (point x)
      by_out (inl (u, m, p)) = let e = edges u m in sup_into u x m (edge_downward e.level e.edge x y l p)
      by_out (inr k) = inr ((up_to x).1 (le_transᵉ (finite x) (finite y) lowest (le_of_ltᵉ (finite x) (finite y) l) ((up_to y).0 k)))

  is_sup : (lowest r : Extended) → IsUpToTest point limit lowest → IsEdge (λ x. Passes (sup_test from to window of limit) (point x)) r
      → IsSupOver lowest W F r
  is_sup lowest r up_to edge = record { at_least = at_least (le_totalᵉ lowest r); bound = bound; reached = reached }
    where
      past_limit : (x : Rational) → r <ᵉ finite x → finite x ≤ᵉ lowest → ⊥
      past_limit x l h = clashᵉ r (finite x) l (edge.bound x (inr ((up_to x).1 h)))

      at_least : (lowest ≤ᵉ r) ⊎ (r <ᵉ lowest) → lowest ≤ᵉ r
      at_least (inl h) = h
      at_least (inr h) = let b = number_between r lowest h in absurd (past_limit b.0 b.1 (le_of_ltᵉ (finite b.0) lowest b.2))

      bound : (v : Extended) → ((u : Rational) × W u × F u v) → v ≤ᵉ r
      bound v (u, m, f) = by_order (edges u m) (le_totalᵉ v r)
        where
          by_order : HasEdge F u (λ x. Passes of (u ∷ point x)) → (v ≤ᵉ r) ⊎ (r <ᵉ v) → v ≤ᵉ r
          by_order e (inl h) = h
          by_order e (inr h) =
              let b = number_between r v h in
              let under = e.edge.reached b.0 (lt_of_lt_of_leᵉ (finite b.0) v e.level b.2 (e.only v f).at_most) in
              clashᵉ r (finite b.0) b.1 (edge.bound b.0 (sup_into u b.0 m under))

      reached : (w : Extended) → lowest ≤ᵉ w → w <ᵉ r → (v : Extended) × ((u : Rational) × W u × F u v) × (w <ᵉ v)
      reached w h k = by_number (number_between w r k)
        where
          by_out : (x : Rational) → w <ᵉ finite x → ((u : Rational) × W u × Passes of (u ∷ point x)) ⊎ Passes limit (point x)
              → (v : Extended) × ((u : Rational) × W u × F u v) × (w <ᵉ v)
          by_out x l (inl (u, m, p)) = let e = edges u m in (e.level, (u, m, e.is_value), lt_of_lt_of_leᵉ w (finite x) e.level l (e.edge.bound x p))
          by_out x l (inr p) = clashᵉ w (finite x) l (le_transᵉ (finite x) lowest w ((up_to x).0 p) h)

          by_number : (x : Rational) × (w <ᵉ finite x) × (finite x <ᵉ r) → (v : Extended) × ((u : Rational) × W u × F u v) × (w <ᵉ v)
          by_number (x, l, n) = by_out x l (sup_out x (edge.reached x n))

  -- a Sup, and its test
  pub sup_exists : (lowest : Extended) → IsUpToTest point limit lowest
      → (r : Extended) × IsSupOver lowest W F r × IsEdge (λ x. Passes (sup_test from to window of limit) (point x)) r
  sup_exists lowest up_to =
      let found = edge_from (sup_test from to window of limit) (sup_downward lowest up_to) in
      (found.0, is_sup lowest found.0 up_to found.1, found.1)

  inf_downward : (highest : Extended) → IsUpToTest point limit highest → (x y : Rational) → x <ʳ y → Passes (inf_test from to window of limit) (point y)
      → Passes (inf_test from to window of limit) (point x)
  inf_downward highest up_to x y l h = inf_into x
      ((up_to x).1 (le_transᵉ (finite x) (finite y) highest (le_of_ltᵉ (finite x) (finite y) l) ((up_to y).0 h.1)))
      (λ u m. let e = edges u m in edge_downward e.level e.edge x y l (inf_out u y m h))

  is_inf : (highest r : Extended) → IsUpToTest point limit highest → IsEdge (λ x. Passes (inf_test from to window of limit) (point x)) r
      → IsInfOver highest W F r
  is_inf highest r up_to edge = record { at_most = at_most (le_totalᵉ r highest); bound = bound; reached = reached }
    where
      at_most : (r ≤ᵉ highest) ⊎ (highest <ᵉ r) → r ≤ᵉ highest
      at_most (inl h) = h
      at_most (inr h) = let b = number_between highest r h in clashᵉ highest (finite b.0) b.1 ((up_to b.0).0 (edge.reached b.0 b.2).1)

      bound : (v : Extended) → ((u : Rational) × W u × F u v) → r ≤ᵉ v
      bound v (u, m, f) = by_order (edges u m) (le_totalᵉ r v)
        where
          by_order : HasEdge F u (λ x. Passes of (u ∷ point x)) → (r ≤ᵉ v) ⊎ (v <ᵉ r) → r ≤ᵉ v
          by_order e (inl h) = h
          by_order e (inr h) =
              let b = number_between v r h in
              clashᵉ v (finite b.0) b.1 (le_transᵉ (finite b.0) e.level v (e.edge.bound b.0 (inf_out u b.0 m (edge.reached b.0 b.2))) (e.only v f).at_least)

      reached : (w : Extended) → r <ᵉ w → w ≤ᵉ highest → (v : Extended) × ((u : Rational) × W u × F u v) × (v <ᵉ w)
      reached w k h = by_number (number_between r w k)
        where
          at : (x : Rational) → finite x <ᵉ w → (u : Rational) × W u × (¬ Passes of (u ∷ point x))
              → (v : Extended) × ((u : Rational) × W u × F u v) × (v <ᵉ w)
          at x l (u, m, n) = let e = edges u m in (e.level, (u, m, e.is_value), by_order e (le_totalᵉ e.level (finite x)))
            where
              by_order : (e : HasEdge F u (λ x. Passes of (u ∷ point x))) → (e.level ≤ᵉ finite x) ⊎ (finite x <ᵉ e.level) → e.level <ᵉ w
              by_order e (inl k) = lt_of_le_of_ltᵉ e.level (finite x) w k l
              by_order e (inr k) = absurd (n (e.edge.reached x k))

          by_number : (x : Rational) × (r <ᵉ finite x) × (finite x <ᵉ w) → (v : Extended) × ((u : Rational) × W u × F u v) × (v <ᵉ w)
          by_number (x, l, n) = at x n (missed x ((up_to x).1 (le_transᵉ (finite x) w highest (le_of_ltᵉ (finite x) w n) h))
              (λ p. clashᵉ r (finite x) l (edge.bound x p)))

  -- an Inf, and its test
  pub inf_exists : (highest : Extended) → IsUpToTest point limit highest
      → (r : Extended) × IsInfOver highest W F r × IsEdge (λ x. Passes (inf_test from to window of limit) (point x)) r
  inf_exists highest up_to =
      let found = edge_from (inf_test from to window of limit) (inf_downward highest up_to) in
      (found.0, is_inf highest found.0 up_to found.1, found.1)
