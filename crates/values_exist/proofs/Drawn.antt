-- A function of time is drawn by a test where each number at most its value passes with the time, up to the edge. Functions drawn so are closed
-- under what a node of a formula does.
use Rattle.std.proofs.Common.{ℕ, Bool, Option, ◌⊎◌, ◌↔◌, inl, inr, List, [], ◌∷◌, subst, sym}
use Rattle.rational.specs.Rational.{Rational, negate}
use Rattle.rational.specs.Time.{Within}
use Rattle.rational.specs.Extended.{Extended, ◌≤ᵉ◌, ◌≈ᵉ◌, opposite, IsLeast, IsGreatest}
use Rattle.rational.specs.Windows.{Ahead, Behind, Function, Window, IsSupOver, IsInfOver, IsUntil, IsSince}
use Rattle.rational.proofs.ExtendedLemmas.{le_transᵉ, least_of, greatest_of, least_same, greatest_same, Sup-unique, Inf-unique, opposite_twice}
use Rattle.rational.proofs.AffineLemmas.{same_reflᵉ, same_symᵉ, opposite_back}
use Rattle.values_exist.proofs.Sums.{turn, turn_value, widen, widen_value}
use Rattle.values_exist.proofs.LinearTests.{Test, opposite as denial, both, either, Passes, changed, changed_alike}
use Rattle.values_exist.proofs.Edges.{edge_alike, edge_of_value, edge_of_least, edge_of_greatest, edge_of_opposite}
use Rattle.values_exist.proofs.Extremes.{HasEdge, TellsWindow, sup_test, inf_test, sup_exists, inf_exists}
use Rattle.values_exist.proofs.WindowTests.{one_time, two_times, slice_at_one, slice_at_two, limit_test, limit_at_one, limit_at_two}
use Rattle.values_exist.proofs.WindowTests.{from_third_test, to_third_test, tells_from_third, tells_to_third}
use Rattle.values_exist.proofs.WindowTests.{ahead_test, behind_test, tells_ahead, tells_behind}

-- the test draws the function over the domain
abbrev pub Draws : Rational → Rational → Test → Function → Type 0
Draws from to φ F = (t : Rational) → Within from to t → HasEdge F t (λ x. Passes φ (t ∷ x ∷ []))

least_one : (v w r s : Extended) → IsLeast v w r → IsLeast v w s → r ≈ᵉ s
least_one v w r s h k = record { at_most = below r s h k.one_of; at_least = below s r k h.one_of }
  where
    below : (r s : Extended) → IsLeast v w r → (v ≤ᵉ s) ⊎ (w ≤ᵉ s) → r ≤ᵉ s
    below r s h (inl m) = le_transᵉ r v s h.left m
    below r s h (inr m) = le_transᵉ r w s h.right m

greatest_one : (v w r s : Extended) → IsGreatest v w r → IsGreatest v w s → r ≈ᵉ s
greatest_one v w r s h k = record { at_most = below r s k h.one_of; at_least = below s r h k.one_of }
  where
    below : (r s : Extended) → IsGreatest v w s → (r ≤ᵉ v) ⊎ (r ≤ᵉ w) → r ≤ᵉ s
    below r s h (inl m) = le_transᵉ r v s m h.left
    below r s h (inr m) = le_transᵉ r w s m h.right

-- the least of two values with edges has the edge of both tests
least_edge : {F G : Function} {u : Rational} {C D : Rational → Type 0} → HasEdge F u C → HasEdge G u D
    → HasEdge (λ u r. (v w : Extended) × F u v × G u w × IsLeast v w r) u (λ x. C x × D x)
least_edge {F} {G} {u} e g =
    let l = least_of e.level g.level in
    record {
      level = l.0;
      is_value = (e.level, g.level, e.is_value, g.is_value, l.1);
      only = λ r m. one r m;
      edge = edge_of_least e.level g.level l.0 l.1 e.edge g.edge;
    }
  where
    one : (r : Extended) → ((v w : Extended) × F u v × G u w × IsLeast v w r) → r ≈ᵉ (least_of e.level g.level).0
    one r (v, w, f, k, m) = let l = least_of e.level g.level in
        least_one e.level g.level r l.0 (least_same v e.level w g.level r r (e.only v f) (g.only w k) (same_reflᵉ r) m) l.1

-- and the greatest that of either
greatest_edge : {F G : Function} {u : Rational} {C D : Rational → Type 0} → HasEdge F u C → HasEdge G u D
    → HasEdge (λ u r. (v w : Extended) × F u v × G u w × IsGreatest v w r) u (λ x. C x ⊎ D x)
greatest_edge {F} {G} {u} e g =
    let l = greatest_of e.level g.level in
    record {
      level = l.0;
      is_value = (e.level, g.level, e.is_value, g.is_value, l.1);
      only = λ r m. one r m;
      edge = edge_of_greatest e.level g.level l.0 l.1 e.edge g.edge;
    }
  where
    one : (r : Extended) → ((v w : Extended) × F u v × G u w × IsGreatest v w r) → r ≈ᵉ (greatest_of e.level g.level).0
    one r (v, w, f, k, m) = let l = greatest_of e.level g.level in
        greatest_one e.level g.level r l.0 (greatest_same v e.level w g.level r r (e.only v f) (g.only w k) (same_reflᵉ r) m) l.1

-- the opposite value has the edge of the numbers whose opposites fail
opposite_edge : {F : Function} {u : Rational} {C : Rational → Type 0} → HasEdge F u C → HasEdge (λ u r. F u (opposite r)) u (λ x. ¬ C (negate x))
opposite_edge {F} {u} e = record {
  level = opposite e.level;
  is_value = subst (F u) (sym (opposite_twice e.level)) e.is_value;
  only = λ w f. opposite_back e.level w (same_symᵉ (opposite w) e.level (e.only (opposite w) f));
  edge = edge_of_opposite e.level e.edge;
}

-- the same numbers by another description
pub edge_by : {F : Function} {u : Rational} {C D : Rational → Type 0} → ((x : Rational) → D x ↔ C x) → HasEdge F u C → HasEdge F u D
edge_by same e = record {
  level = e.level;
  is_value = e.is_value;
  only = e.only;
  edge = edge_alike e.level (λ x. (same x).1) (λ x. (same x).0) e.edge;
}

-- the test of the opposite of a drawn function
abbrev pub negation_test : Test → Test
negation_test φ = denial (changed turn φ)

module _ (from to : Rational) where
  -- the opposite of a drawn function is drawn
  draws_negation : (φ : Test) (F : Function) → Draws from to φ F → Draws from to (negation_test φ) (λ t r. F t (opposite r))
  draws_negation φ F draws t w =
      edge_by (λ x. let p = changed_alike turn (t ∷ x ∷ []) (t ∷ negate x ∷ []) (λ f. turn_value f t x []) φ in (λ n h. n (p.1 h), λ n h. n (p.0 h)))
      (opposite_edge (draws t w))

  -- the least of two is drawn, and the greatest
  draws_least : (φ ψ : Test) (F G : Function) → Draws from to φ F → Draws from to ψ G
      → Draws from to (both φ ψ) (λ t r. (v w : Extended) × F t v × G t w × IsLeast v w r)
  draws_least φ ψ F G f g t w = least_edge (f t w) (g t w)

  draws_greatest : (φ ψ : Test) (F G : Function) → Draws from to φ F → Draws from to ψ G
      → Draws from to (either φ ψ) (λ t r. (v w : Extended) × F t v × G t w × IsGreatest v w r)
  draws_greatest φ ψ F G f g t w = greatest_edge (f t w) (g t w)

  -- with one more time in the point
  wider : (φ : Test) (u t : Rational) (point : List Rational) → Passes (changed widen φ) (u ∷ t ∷ point) ↔ Passes φ (u ∷ point)
  wider φ u t point = changed_alike widen (u ∷ t ∷ point) (u ∷ point) (λ f. widen_value f u t point) φ

  twice_wider : (φ : Test) (y u t : Rational) (point : List Rational)
      → Passes (changed widen (changed widen φ)) (y ∷ u ∷ t ∷ point) ↔ Passes φ (y ∷ point)
  twice_wider φ y u t point =
      let p = wider (changed widen φ) y u (t ∷ point) in
      let q = wider φ y t point in
      (λ h. q.0 (p.0 h), λ h. p.1 (q.1 h))

  -- the Sup of a drawn function over a window that a test tells is drawn
  draws_sup : (lowest : Extended) (W : Rational → Window) (window φ : Test) (F : Function)
      → ((t : Rational) → TellsWindow from to (one_time t) (W t) window) → Draws from to φ F
      → Draws from to (sup_test from to window (changed widen φ) (limit_test lowest)) (λ t r. IsSupOver lowest (W t) F r)
  draws_sup lowest W window φ F tells draws t w =
      let found = sup_exists from to (one_time t) (slice_at_one t) (W t) F window (changed widen φ) (limit_test lowest) (tells t)
      (λ u m. edge_by (λ x. wider φ u t (x ∷ [])) (draws u ((tells t).inside u m))) lowest (limit_at_one lowest t) in
      record {
        level = found.0;
        is_value = found.1;
        only = λ r m. record { at_most = Sup-unique lowest r found.0 m found.1; at_least = Sup-unique lowest found.0 r found.1 m };
        edge = found.2;
      }

  -- so is the Inf
  draws_inf : (highest : Extended) (W : Rational → Window) (window φ : Test) (F : Function)
      → ((t : Rational) → TellsWindow from to (one_time t) (W t) window) → Draws from to φ F
      → Draws from to (inf_test from to window (changed widen φ) (limit_test highest)) (λ t r. IsInfOver highest (W t) F r)
  draws_inf highest W window φ F tells draws t w =
      let found = inf_exists from to (one_time t) (slice_at_one t) (W t) F window (changed widen φ) (limit_test highest) (tells t)
      (λ u m. edge_by (λ x. wider φ u t (x ∷ [])) (draws u ((tells t).inside u m))) highest (limit_at_one highest t) in
      record {
        level = found.0;
        is_value = found.1;
        only = λ r m. record { at_most = Inf-unique highest r found.0 m found.1; at_least = Inf-unique highest found.0 r found.1 m };
        edge = found.2;
      }

  -- the Inf over a stretch between two times
  pub inf_between : (highest : Extended) (V : Window) (window φ : Test) (F : Function) (u t : Rational)
      → TellsWindow from to (two_times u t) V window → Draws from to φ F
      → HasEdge (λ u r. IsInfOver highest V F r) u
      (λ x. Passes (inf_test from to window (changed widen (changed widen φ)) (changed widen (limit_test highest))) (u ∷ t ∷ x ∷ []))
  inf_between highest V window φ F u t tells draws =
      let found = inf_exists from to (two_times u t) (slice_at_two u t) V F window (changed widen (changed widen φ)) (changed widen (limit_test highest))
      tells
      (λ y m. edge_by (λ x. twice_wider φ y u t (x ∷ [])) (draws y (tells.inside y m))) highest (limit_at_two highest u t) in
      record {
        level = found.0;
        is_value = found.1;
        only = λ r m. record { at_most = Inf-unique highest r found.0 m found.1; at_least = Inf-unique highest found.0 r found.1 m };
        edge = found.2;
      }

  -- and the Sup
  pub sup_between : (lowest : Extended) (V : Window) (window φ : Test) (F : Function) (u t : Rational)
      → TellsWindow from to (two_times u t) V window → Draws from to φ F
      → HasEdge (λ u r. IsSupOver lowest V F r) u
      (λ x. Passes (sup_test from to window (changed widen (changed widen φ)) (changed widen (limit_test lowest))) (u ∷ t ∷ x ∷ []))
  sup_between lowest V window φ F u t tells draws =
      let found = sup_exists from to (two_times u t) (slice_at_two u t) V F window (changed widen (changed widen φ)) (changed widen (limit_test lowest))
      tells
      (λ y m. edge_by (λ x. twice_wider φ y u t (x ∷ [])) (draws y (tells.inside y m))) lowest (limit_at_two lowest u t) in
      record {
        level = found.0;
        is_value = found.1;
        only = λ r m. record { at_most = Sup-unique lowest r found.0 m found.1; at_least = Sup-unique lowest found.0 r found.1 m };
        edge = found.2;
      }

  -- the least of Q at u and the Inf of P over the times V u
  abbrev Reach : Extended → (Rational → Window) → Function → Function → Function
  Reach highest V P Q u v = (x y : Extended) × Q u x × IsInfOver highest (V u) P y × IsLeast x y v

  -- the test of that, with u first in the point and the test of V u
  abbrev pub reach_test : Extended → Test → Test → Test → Test
  reach_test highest inner φ ψ = both (changed widen ψ) (inf_test from to inner (changed widen (changed widen φ)) (changed widen (limit_test highest)))

  -- the Sup of that over a window is drawn
  draws_reach : (lowest highest : Extended) (W : Rational → Window) (window inner φ ψ : Test) (P Q : Function) (V : Rational → Rational → Window)
      → ((t : Rational) → TellsWindow from to (one_time t) (W t) window)
      → ((u t : Rational) → Within from to t → Within from to u → TellsWindow from to (two_times u t) (V t u) inner)
      → Draws from to φ P → Draws from to ψ Q
      → Draws from to (sup_test from to window (reach_test highest inner φ ψ) (limit_test lowest))
      (λ t r. IsSupOver lowest (W t) (Reach highest (V t) P Q) r)
  draws_reach lowest highest W window inner φ ψ P Q V tells tells_inner p q t w =
      let found = sup_exists from to (one_time t) (slice_at_one t) (W t) (Reach highest (V t) P Q) window (reach_test highest inner φ ψ)
      (limit_test lowest) (tells t) edges lowest (limit_at_one lowest t) in
      record {
        level = found.0;
        is_value = found.1;
        only = λ r m. record { at_most = Sup-unique lowest r found.0 m found.1; at_least = Sup-unique lowest found.0 r found.1 m };
        edge = found.2;
      }
    where
      edges : (u : Rational) → W t u → HasEdge (Reach highest (V t) P Q) u (λ x. Passes (reach_test highest inner φ ψ) (u ∷ t ∷ x ∷ []))
      edges u m =
          let at = (tells t).inside u m in
          let e = least_edge (edge_by (λ x. wider ψ u t (x ∷ [])) (q u at))
          (inf_between highest (V t u) inner φ P u t (tells_inner u t w at) p) in
          record { level = e.level; is_value = e.is_value; only = e.only; edge = e.edge }

  -- until is drawn
  draws_until : (lowest highest : Extended) (W : Rational → Window) (window φ ψ : Test) (P Q : Function)
      → ((t : Rational) → TellsWindow from to (one_time t) (W t) window) → Draws from to φ P → Draws from to ψ Q
      → Draws from to (sup_test from to window (reach_test highest from_third_test φ ψ) (limit_test lowest)) (λ t r. IsUntil lowest highest (W t) P Q t r)
  draws_until lowest highest W window φ ψ P Q tells p q =
      draws_reach lowest highest W window from_third_test φ ψ P Q Within tells (λ u t. tells_from_third from to u t) p q

  -- so is since
  draws_since : (lowest highest : Extended) (W : Rational → Window) (window φ ψ : Test) (P Q : Function)
      → ((t : Rational) → TellsWindow from to (one_time t) (W t) window) → Draws from to φ P → Draws from to ψ Q
      → Draws from to (sup_test from to window (reach_test highest to_third_test φ ψ) (limit_test lowest)) (λ t r. IsSince lowest highest (W t) P Q t r)
  draws_since lowest highest W window φ ψ P Q tells p q =
      draws_reach lowest highest W window to_third_test φ ψ P Q (λ t u. Within u t) tells (λ u t. tells_to_third from to u t) p q

  -- some test draws the function
  abbrev pub IsDrawn : Function → Type 0
  IsDrawn F = (φ : Test) × Draws from to φ F

  -- a function that is a value at all times is drawn
  pub drawn_value : (r : Extended) → IsDrawn (λ t v. v ≈ᵉ r)
  drawn_value r = (
    limit_test r,
    λ t w.
        edge_by (limit_at_one r t) (record { level = r; is_value = same_reflᵉ r; only = λ w h. h; edge = edge_of_value r }),
  )

  -- so is one with the values of a drawn one
  drawn_same : (F G : Function) → ((t : Rational) (r : Extended) → F t r → G t r) → ((t : Rational) (r : Extended) → G t r → F t r) → IsDrawn F → IsDrawn G
  drawn_same F G forth back f = (
    f.0,
    λ t w.
        let e = f.1 t w in record { level = e.level; is_value = forth t e.level e.is_value; only = λ r g. e.only r (back t r g); edge = e.edge },
  )

  -- the opposite
  pub drawn_negation : (F : Function) → IsDrawn F → IsDrawn (λ t r. F t (opposite r))
  drawn_negation F f = (negation_test f.0, draws_negation f.0 F f.1)

  -- the least
  pub drawn_least : (F G : Function) → IsDrawn F → IsDrawn G → IsDrawn (λ t r. (v w : Extended) × F t v × G t w × IsLeast v w r)
  drawn_least F G f g = (both f.0 g.0, draws_least f.0 g.0 F G f.1 g.1)

  -- the greatest
  pub drawn_greatest : (F G : Function) → IsDrawn F → IsDrawn G → IsDrawn (λ t r. (v w : Extended) × F t v × G t w × IsGreatest v w r)
  drawn_greatest F G f g = (either f.0 g.0, draws_greatest f.0 g.0 F G f.1 g.1)

  -- the greatest of the opposite and the other
  pub drawn_implied : (F G : Function) → IsDrawn F → IsDrawn G → IsDrawn (λ t r. (v w : Extended) × F t v × G t w × IsGreatest (opposite v) w r)
  drawn_implied F G f g = drawn_same (λ t r. (v w : Extended) × F t (opposite v) × G t w × IsGreatest v w r)
      (λ t r. (v w : Extended) × F t v × G t w × IsGreatest (opposite v) w r)
      (λ t r m. (opposite m.0, m.1, m.2, m.3, subst (λ x. IsGreatest x m.1 r) (sym (opposite_twice m.0)) m.4))
      (λ t r m. (opposite m.0, m.1, subst (F t) (sym (opposite_twice m.0)) m.2, m.3, m.4))
      (drawn_greatest (λ t r. F t (opposite r)) G (drawn_negation F f) g)

  -- windows that a test tells
  abbrev pub AreTold : (Rational → Window) → Type 0
  AreTold W = (window : Test) × ((t : Rational) → TellsWindow from to (one_time t) (W t) window)

  -- the Sup over such a window
  pub drawn_sup : (lowest : Extended) (W : Rational → Window) (F : Function) → AreTold W → IsDrawn F → IsDrawn (λ t r. IsSupOver lowest (W t) F r)
  drawn_sup lowest W F tells f =
      (sup_test from to tells.0 (changed widen f.0) (limit_test lowest), draws_sup lowest W tells.0 f.0 F tells.1 f.1)

  -- the Inf
  pub drawn_inf : (highest : Extended) (W : Rational → Window) (F : Function) → AreTold W → IsDrawn F → IsDrawn (λ t r. IsInfOver highest (W t) F r)
  drawn_inf highest W F tells f =
      (inf_test from to tells.0 (changed widen f.0) (limit_test highest), draws_inf highest W tells.0 f.0 F tells.1 f.1)

  -- until
  pub drawn_until : (lowest highest : Extended) (W : Rational → Window) (P Q : Function) → AreTold W → IsDrawn P → IsDrawn Q
      → IsDrawn (λ t r. IsUntil lowest highest (W t) P Q t r)
  drawn_until lowest highest W P Q tells p q = (
    sup_test from to tells.0 (reach_test highest from_third_test p.0 q.0) (limit_test lowest),
    draws_until lowest highest W tells.0 p.0 q.0 P Q tells.1 p.1 q.1,
  )

  -- since
  pub drawn_since : (lowest highest : Extended) (W : Rational → Window) (P Q : Function) → AreTold W → IsDrawn P → IsDrawn Q
      → IsDrawn (λ t r. IsSince lowest highest (W t) P Q t r)
  drawn_since lowest highest W P Q tells p q = (
    sup_test from to tells.0 (reach_test highest to_third_test p.0 q.0) (limit_test lowest),
    draws_since lowest highest W tells.0 p.0 q.0 P Q tells.1 p.1 q.1,
  )

  -- the window ahead is told
  pub ahead_told : (a b : ℕ) (a_in b_in : Bool) → AreTold (Ahead from to a b a_in b_in)
  ahead_told a b a_in b_in = (ahead_test a b a_in b_in, tells_ahead from to a b a_in b_in)

  -- and the one behind
  pub behind_told : (a : ℕ) (b : Option ℕ) (a_in b_in : Bool) → AreTold (Behind from to a b a_in b_in)
  behind_told a b a_in b_in = (behind_test a b a_in b_in, tells_behind from to a b a_in b_in)

  -- a drawn function has an Inf between each two times
  pub drawn_inf_between : (highest : Extended) (F : Function) → IsDrawn F → (t u : Rational) → Within from to t → Within from to u
      → (y : Extended) × IsInfOver highest (Within t u) F y
  drawn_inf_between highest F f t u wt wu =
      let e = inf_between highest (Within t u) from_third_test f.0 F u t (tells_from_third from to u t wt wu) f.1 in
      (e.level, e.is_value)

  -- and a Sup
  pub drawn_sup_between : (lowest : Extended) (F : Function) → IsDrawn F → (t u : Rational) → Within from to t → Within from to u
      → (y : Extended) × IsSupOver lowest (Within t u) F y
  drawn_sup_between lowest F f t u wt wu =
      let e = sup_between lowest (Within t u) from_third_test f.0 F u t (tells_from_third from to u t wt wu) f.1 in
      (e.level, e.is_value)
