-- The truth of until by what was read of its inputs.
use Rattle.std.proofs.Common.{◌⊎◌, inl, inr, true, false}
use Rattle.rational.specs.Rational.{Rational, ◌≤ʳ◌}
use Rattle.rational.proofs.Order.{le_refl}
use Rattle.rational.specs.Places.{Place, After, Upto, Before}
use Rattle.online_nodes.specs.Truths.{Truths, AllAre, AllFrom, IsUntilOf, UntilRemembers, KnowsUntil, MeetsAfter}
use Rattle.rational.proofs.PlaceLemmas.{between, sides, not_both, before_through, after_of_before, le_through, upto_earlier, after_later}
use Rattle.online_nodes.proofs.WindowLaw.{IsMet, met_in, met_no_more}

module _ {N P Q : Truths} {low high : Rational → Place} {at reach l r : Place} (until : IsUntilOf N P Q low high)
    (m : UntilRemembers N P Q low high at reach l r) where
  -- the left input fails from l to e: up to e the node holds no longer than `reach`
  pub fails : (e : Place) → Before l e → AllAre false P l e → (t : Rational) → After at t → After reach t → Upto e t → ¬ N t
  fails e some told t a b k n =
      let w = m.rest t a b n in
      let u = w.0 in
      by_side w (sides l t)
    where
      by_side : (w : (u : Rational) × After (low t) u × Upto (high t) u × Q u × AllFrom P t u × After l u × After r u)
          → Upto l t ⊎ After l t → ⊥
      by_side (u, lo, hi, q, all, after_l, after_r) (inr h) = told t h k (all t (le_refl t) (until.ahead t u lo))
      by_side (u, lo, hi, q, all, after_l, after_r) (inl h) = by_end (sides e u)
        where
          by_end : Upto e u ⊎ After e u → ⊥
          by_end (inl x) = told u after_l x (all u (until.ahead t u lo) (le_refl u))
          by_end (inr x) = let v = between l e some in
              told v.0 v.1 v.2 (all v.0 (le_through l t v.0 h v.1) (le_through e v.0 u v.2 x))

  -- up to where a common stretch from x on counts, the node holds no longer than `reach`
  pub not_yet : (x from : Place) → MeetsAfter high x from
      → ((t u : Rational) → After at t → After (low t) u → After l u → After r u → After x u)
      → (t : Rational) → After at t → After reach t → Upto from t → ¬ N t
  not_yet x from meets begin t a b k n = by_witness (m.rest t a b n)
    where
      by_witness : (u : Rational) × After (low t) u × Upto (high t) u × Q u × AllFrom P t u × After l u × After r u → ⊥
      by_witness (u, lo, hi, q, all, y, z) = not_both from t k ((meets t).1 (before_through x (high t) u (begin t u a lo y z) hi))

  -- once one input was read as far as the windows up to `to` reach, the node holds no longer than `reach`
  pub settled : (to : Place)
      → ((t u : Rational) → After at t → After (low t) u → Upto to t → Upto (high t) u → (Upto l u ⊎ Upto r u) ⊎ ¬ Q u)
      → (t : Rational) → After at t → After reach t → Upto to t → ¬ N t
  settled to all t a b k n = by_witness (m.rest t a b n)
    where
      by_witness : (u : Rational) × After (low t) u × Upto (high t) u × Q u × AllFrom P t u × After l u × After r u → ⊥
      by_witness (u, lo, hi, q, every, y, z) = elim (all t u a lo k hi) [
        | inl h ↦ elim h [ inl x ↦ not_both l u x y | inr x ↦ not_both r u x z ]
        | inr n ↦ n q
      ]

-- in a trace, until remembers what it knows of its inputs
pub remembers_of : {N P Q : Truths} {low high : Rational → Place} {at reach l r stop : Place} → IsUntilOf N P Q low high
    → KnowsUntil P Q low high at reach l r stop → UntilRemembers N P Q low high at reach l r
remembers_of {N} {P} {Q} {low} {high} {at} {reach} {l} {r} {stop} until k = record {
  run = k.run;
  counts = λ t a b. let u = k.counts t a b in until.holds t u.0 u.1 u.2 u.3 u.4;
  rest = λ t a b n. by_witness t a b (until.means t n);
}
  where
    by_witness : (t : Rational) → After at t → After reach t
        → (u : Rational) × After (low t) u × Upto (high t) u × Q u × AllFrom P t u
        → (u : Rational) × After (low t) u × Upto (high t) u × Q u × AllFrom P t u × After l u × After r u
    by_witness t a b (u, lo, hi, q, all) = by_side (sides stop u)
      where
        by_side : Upto stop u ⊎ After stop u
            → (u : Rational) × After (low t) u × Upto (high t) u × Q u × AllFrom P t u × After l u × After r u
        by_side (inl h) = let w = k.rest t u a b lo hi q all h in (u, lo, hi, q, all, w.0, w.1)
        by_side (inr h) = let w = k.inside u h in (u, lo, hi, q, all, w.0, w.1)

-- the right input fails from r to f, at each time that a window to come meets
abbrev pub FailsFor : Truths → (Rational → Place) → Place → Place → Place → Type 0
FailsFor Q low at r f = (t u : Rational) → After at t → After (low t) u → After r u → Upto f u → ¬ Q u

module _ {P Q : Truths} {low high : Rational → Place} {at reach l r stop : Place} (k : KnowsUntil P Q low high at reach l r stop) where
  -- the left input failed from l to e: a new run may begin
  pub knows_new_run : (at' e : Place) → ((t u : Rational) → After (low t) u → t ≤ʳ u) → Before l e → AllAre false P l e
      → ((t : Rational) → After at' t → After at t × After e t) → ((u : Rational) → Upto e u → Upto stop u)
      → KnowsUntil P Q low high at' e e r stop
  knows_new_run at' e forward some told later within = record {
    run = λ t a u. absurd (not_both e t u (later t a).1);
    counts = λ t a u. absurd (not_both e t u (later t a).1);
    rest = λ t u a _ lo hi q all known. let x = after_later e t u (forward t u lo) (later t a).1 in
        (x, by_side t u a lo q x (sides r u));
    inside = λ u x. (elim (sides e u) [ inl h ↦ absurd (not_both stop u (within u h) x) | inr h ↦ h ], (k.inside u x).1);
    ahead = λ t u a lo q x y v z w. k.ahead t u (later t a).0 lo q (after_of_before l e u some x) y v
        (after_of_before l e v some z) w;
  }
    where
      by_side : (t u : Rational) → After at' t → After (low t) u → Q u → After e u → Upto r u ⊎ After r u → After r u
      by_side t u a lo q x (inr h) = h
      by_side t u a lo q x (inl h) = let v = between l e some in
          absurd
          (told v.0 v.1 v.2 (k.ahead t u (later t a).0 lo q (after_of_before l e u some x) h v.0 v.1 (le_through e v.0 u v.2 x)))

  -- a right side that fails adds nothing
  pub knows_right_fails : (f : Place) → FailsFor Q low at r f → ((u : Rational) → Upto f u → Upto stop u)
      → KnowsUntil P Q low high at reach l f stop
  knows_right_fails f told within = record {
    run = k.run;
    counts = k.counts;
    rest = λ t u a b lo hi q all known. let w = k.rest t u a b lo hi q all known in
        (w.0, elim (sides f u) [ inl h ↦ absurd (told t u a lo w.1 h q) | inr h ↦ h ]);
    inside = λ u x. ((k.inside u x).0, elim (sides f u) [ inl h ↦ absurd (not_both stop u (within u h) x) | inr h ↦ h ]);
    ahead = λ t u a lo q x y. elim (sides r u) [ inl h ↦ k.ahead t u a lo q x h | inr h ↦ absurd (told t u a lo h y q) ];
  }

  -- a left side that holds is known further
  pub knows_left_holds : (e f : Place) → AllAre true P l e → FailsFor Q low at r f
      → ((t : Rational) → Upto e t → Upto f t) → ((u : Rational) → Upto e u → Upto stop u)
      → ((u : Rational) → After e u → After l u)
      → KnowsUntil P Q low high at reach e r stop
  knows_left_holds e f holds told inside within later = record {
    run = λ t a u. elim (sides l t) [ inl h ↦ k.run t a h | inr h ↦ holds t h u ];
    counts = k.counts;
    rest = λ t u a b lo hi q all known. let w = k.rest t u a b lo hi q all known in
        (elim (sides e u) [ inl h ↦ absurd (told t u a lo w.1 (inside u h) q) | inr h ↦ h ], w.1);
    inside = λ u x. (elim (sides e u) [ inl h ↦ absurd (not_both stop u (within u h) x) | inr h ↦ h ], (k.inside u x).1);
    ahead = λ t u a lo q x y v z w. k.ahead t u a lo q (later u x) y v (later v z) w;
  }

  -- where both hold on a stretch, it is found by the windows that meet it, and both inputs are known up to its end
  pub knows_both : {x y from to : Place} (at' : Place) → IsMet true Q low high x y from to → ((t : Rational) → Before (low t) (high t))
      → AllAre true P l y → ((t : Rational) → After at' t → After at t × After from t) → ((u : Rational) → Upto y u → Upto stop u)
      → KnowsUntil P Q low high at' to y y stop
  knows_both {x} {y} {from} {to} at' met window p later within = record {
    run = λ t a u. elim (sides l t) [ inl h ↦ k.run t (later t a).0 h | inr h ↦ p t h u ];
    counts = λ t a b. by_share t a (met_in met window t (later t a).1 b);
    rest = λ t u a b lo hi w all known. let z = met_no_more met t u b lo in (z, z);
    inside = λ u a. let z = past u a in (z, z);
    ahead = λ t u a lo w z b. absurd (not_both y u b z);
  }
    where
      past : (u : Rational) → After stop u → After y u
      past u a = elim (sides y u) [ inl h ↦ absurd (not_both stop u (within u h) a) | inr h ↦ h ]

      by_share : (t : Rational) → After at' t → (u : Rational) × After x u × Upto y u × After (low t) u × Upto (high t) u
          → (u : Rational) × After (low t) u × Upto (high t) u × Q u × AllFrom P t u × Upto stop u
      by_share t a (u, after_x, upto_y, lo, hi) = (u, lo, hi, met.is u after_x upto_y, all, within u upto_y)
        where
          all : AllFrom P t u
          all v from_t to_u = elim (sides l v) [
            | inl h ↦ k.run v (after_later at t v from_t (later t a).0) h
            | inr h ↦ p v h (upto_earlier y v u to_u upto_y)
          ]

  -- of the right input what no window begins before may be dropped unread
  pub knows_right_dropped : (f : Place) → ((t u : Rational) → After at t → After (low t) u → After f u)
      → ((u : Rational) → Upto f u → Upto stop u) → KnowsUntil P Q low high at reach l f stop
  knows_right_dropped f past within = record {
    run = k.run;
    counts = k.counts;
    rest = λ t u a b lo hi q all known. ((k.rest t u a b lo hi q all known).0, past t u a lo);
    inside = λ u x. ((k.inside u x).0, elim (sides f u) [ inl h ↦ absurd (not_both stop u (within u h) x) | inr h ↦ h ]);
    ahead = λ t u a lo q x y. absurd (not_both f u y (past t u a lo));
  }

  -- what is known is known from later on
  pub knows_later : (at' : Place) → ((t : Rational) → After at' t → After at t) → KnowsUntil P Q low high at' reach l r stop
  knows_later at' later = record {
    run = λ t a. k.run t (later t a);
    counts = λ t a. k.counts t (later t a);
    rest = λ t u a. k.rest t u (later t a);
    inside = k.inside;
    ahead = λ t u a. k.ahead t u (later t a);
  }
