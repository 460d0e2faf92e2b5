-- The truth of since by what was read of its inputs.
use Rattle.std.proofs.Common.{◌⊎◌, inl, inr, true, false}
use Rattle.rational.specs.Rational.{Rational, ◌≤ʳ◌}
use Rattle.rational.proofs.Order.{le_refl}
use Rattle.rational.specs.Places.{Place, After, Upto, Before}
use Rattle.online_nodes.specs.Truths.{Truths, AllAre, AllFrom, HoldsFrom, IsReason, IsSinceOf, SinceRemembers, KnowsSince, MeetsAfter}
use Rattle.rational.proofs.PlaceLemmas.{between, sides, not_both, before_through, after_of_before, le_through, upto_earlier, after_later}
use Rattle.online_nodes.proofs.WindowLaw.{IsMet, met_in}

module _ {N P Q : Truths} {low high : Rational → Place} {at run reach l r : Place} (since : IsSinceOf N P Q low high)
    (m : SinceRemembers N P Q low high at run reach l r) where
  -- while the left input holds on from where it was read, what was found counts
  pub goes_on : (e : Place) → AllAre true P l e → (t : Rational) → After at t → Upto reach t → Upto e t → N t
  goes_on e told t a k h = m.counts t a k
      (λ v x y. elim (sides l v) [ inl z ↦ m.holds v x z | inr z ↦ told v z (upto_earlier e v t y h) ])

  -- while the left side holds, what was found counts
  pub went_on : (t : Rational) → After at t → Upto reach t → Upto l t → N t
  went_on t a k h = m.counts t a k (λ v x y. m.holds v x (upto_earlier l v t y h))

  -- the left input fails from l to e
  pub fails : (e : Place) → AllAre false P l e → (t : Rational) → After at t → After reach t ⊎ After l t → Upto e t → ¬ N t
  fails e told t a (inr b) k n = by_reason (since.means t n)
    where
      by_reason : (u : Rational) × After (low t) u × Upto (high t) u × Q u × AllFrom P u t → ⊥
      by_reason (u, lo, hi, q, all) = told t b k (all t (since.behind t u hi) (le_refl t))
  fails e told t a (inl b) k n = told_at (m.rest t a b n).0
    where
      told_at : After l t → ⊥
      told_at x = by_reason (since.means t n)
        where
          by_reason : (u : Rational) × After (low t) u × Upto (high t) u × Q u × AllFrom P u t → ⊥
          by_reason (u, lo, hi, q, all) = told t x k (all t (since.behind t u hi) (le_refl t))

  -- up to where a stretch of the right input from x on counts, the node holds no longer than `reach`
  pub not_yet : (x from : Place) → MeetsAfter high x from → ((u : Rational) → After run u → After r u → After x u)
      → (t : Rational) → After at t → After reach t → Upto from t → ¬ N t
  not_yet x from meets begin t a b k n = by_reason (m.rest t a b n).1
    where
      by_reason : (u : Rational) × IsReason P Q low high t u × After r u → ⊥
      by_reason (u, w, y) = not_both from t k ((meets t).1 (before_through x (high t) u (begin u (m.begins t u a w) y) w.1))

  -- once the right input was read as far as the windows up to `to` reach, or the left one up to `to`
  pub settled : (to : Place)
      → ((t u : Rational) → Upto to t → Upto (high t) u → Upto r u) ⊎ ((t : Rational) → Upto to t → Upto l t)
      → (t : Rational) → After at t → After reach t → Upto to t → ¬ N t
  settled to (inr all) t a b k n = not_both l t (all t k) (m.rest t a b n).0
  settled to (inl all) t a b k n = by_reason (m.rest t a b n).1
    where
      by_reason : (u : Rational) × IsReason P Q low high t u × After r u → ⊥
      by_reason (u, w, x) = not_both r u (all t u k w.1) x

module _ {P Q : Truths} {low high : Rational → Place} {start at run reach l r l_stop r_stop : Place}
    (k : KnowsSince P Q low high start at run reach l r l_stop r_stop) where
  -- in a trace, since remembers what it knows of its inputs, where the left one is known no further than the node is answered, but for what
  -- was found, and its run began before; a time before the start counts for nothing
  pub remembers_of : {N : Truths} → IsSinceOf N P Q low high → ((u : Rational) → Q u → After start u)
      → ((t : Rational) → After at t → After run t) → ((t : Rational) → After at t → After reach t → After l t)
      → SinceRemembers N P Q low high at run reach l r
  remembers_of {N} since in_trace ran answered = record {
    holds = k.holds;
    order = k.order;
    begins = first;
    counts = λ t a b h. by_witness t h (k.counts t a b);
    rest = λ t a b n. (answered t a b, reason t a b (since.means t n));
    ahead = λ u a b q v x y. (k.ahead u a b q v x y).0;
  }
    where
      first : (t u : Rational) → After at t → IsReason P Q low high t u → After run u
      first t u a (lo, hi, q, all) = by_side (sides run u)
        where
          by_side : Upto run u ⊎ After run u → After run u
          by_side (inr h) = h
          by_side (inl h) = let v = k.begins u (in_trace u q) h in
              absurd (v.3 (all v.0 v.1 (le_through run v.0 t v.2 (ran t a))))

      by_witness : (t : Rational) → HoldsFrom P run t
          → (u : Rational) × After (low t) u × Upto (high t) u × Q u × After run u × Upto r_stop u → N t
      by_witness t h (u, lo, hi, q, x, y) = since.holds t u lo hi q (λ v from_u to_t. h v (after_later run u v from_u x) to_t)

      reason : (t : Rational) → After at t → After reach t
          → (u : Rational) × After (low t) u × Upto (high t) u × Q u × AllFrom P u t
          → (u : Rational) × IsReason P Q low high t u × After r u
      reason t a b (u, lo, hi, q, all) = (u, (lo, hi, q, all), by_side (sides r_stop u))
        where
          by_side : Upto r_stop u ⊎ After r_stop u → After r u
          by_side (inl h) = k.rest t u a b lo hi q (first t u a (lo, hi, q, all)) h
          by_side (inr h) = k.inside u h

  -- where the left side fails a new run begins
  pub knows_new_run : (at' e : Place) → Before l e → AllAre false P l e → ((t : Rational) → After at' t → After at t × After e t)
      → KnowsSince P Q low high start at' e e e r l_stop r_stop
  knows_new_run at' e some told later = record {
    holds = λ t a u. absurd (not_both e t u a);
    order = λ t a. a;
    begins = fails_before;
    counts = λ t a u. absurd (not_both e t u (later t a).1);
    rest = λ t u a _ lo hi q x known. elim (sides r u) [ inl h ↦ absurd (clash u x h q) | inr h ↦ h ];
    inside = k.inside;
    ahead = λ u a b q v x y. k.ahead u (after_of_before l e u some a) b q v (after_of_before l e v some x) y;
  }
    where
      clash : (u : Rational) → After e u → Upto r u → Q u → ⊥
      clash u x h q = let v = between l e some in
          told v.0 v.1 v.2 ((k.ahead u (after_of_before l e u some x) h q v.0 v.1 (le_through e v.0 u v.2 x)).0)

      fails_before : (u : Rational) → After start u → Upto e u → (v : Rational) × (u ≤ʳ v) × Upto e v × (¬ P v)
      fails_before u a h = elim (sides l u) [
        | inl x ↦ (let v = between l e some in (v.0, le_through l u v.0 x v.1, v.2, told v.0 v.1 v.2))
        | inr x ↦ (u, le_refl u, h, told u x h)
      ]

  -- a right side that fails adds nothing
  pub knows_right_fails : (f : Place) → AllAre false Q r f → ((u : Rational) → Upto f u → Upto r_stop u)
      → KnowsSince P Q low high start at run reach l f l_stop r_stop
  knows_right_fails f told within = record {
    holds = k.holds;
    order = k.order;
    begins = k.begins;
    counts = k.counts;
    rest = λ t u a b lo hi q x known. let y = k.rest t u a b lo hi q x known in elim (sides f u)
        [ inl h ↦ absurd (told u y h q) | inr h ↦ h ];
    inside = λ u x. elim (sides f u) [ inl h ↦ absurd (not_both r_stop u (within u h) x) | inr h ↦ h ];
    ahead = λ u a b q. elim (sides r u) [ inl h ↦ k.ahead u a h q | inr h ↦ absurd (told u h b q) ];
  }

  -- what is found within the run counts from then on
  pub knows_found : {x y from to : Place} (at' reach' : Place) → IsMet true Q low high x y from to
      → ((t : Rational) → Before (low t) (high t)) → ((u : Rational) → After x u → After run u)
      → ((t : Rational) → After at' t → After at t × After from t)
      → ((t : Rational) → Upto reach' t → Upto reach t ⊎ Upto to t) → ((t : Rational) → After reach' t → After reach t)
      → ((u : Rational) → Upto y u → Upto r_stop u)
      → KnowsSince P Q low high start at' run reach' l r l_stop r_stop
  knows_found {x} {y} at' reach' met window inside later either more within = record {
    holds = k.holds;
    order = k.order;
    begins = k.begins;
    counts = λ t a h. elim (either t h) [
      | inl z ↦ k.counts t (later t a).0 z
      | inr z ↦ by_share t (met_in met window t (later t a).1 z)
    ];
    rest = λ t u a b. k.rest t u (later t a).0 (more t b);
    inside = k.inside;
    ahead = k.ahead;
  }
    where
      by_share : (t : Rational) → (u : Rational) × After x u × Upto y u × After (low t) u × Upto (high t) u
          → (u : Rational) × After (low t) u × Upto (high t) u × Q u × After run u × Upto r_stop u
      by_share t (u, after_x, upto_y, lo, hi) = (u, lo, hi, met.is u after_x upto_y, inside u after_x, within u upto_y)

  -- a right verdict that was read to its end y is known, once what holds there counts, and the left input holds to e
  pub knows_right_read : (y e : Place) → ((t u : Rational) → After at t → After reach t → After (low t) u → After run u → After y u)
      → AllAre true P l e → ((u : Rational) → Upto y u → Upto e u) → ((u : Rational) → Upto e u → Upto l_stop u)
      → ((u : Rational) → Upto y u → Upto r_stop u)
      → KnowsSince P Q low high start at run reach l y l_stop r_stop
  knows_right_read y e beyond told inside within within' = record {
    holds = k.holds;
    order = k.order;
    begins = k.begins;
    counts = k.counts;
    rest = λ t u a b lo hi q x known. beyond t u a b lo x;
    inside = λ u x. elim (sides y u) [ inl h ↦ absurd (not_both r_stop u (within' u h) x) | inr h ↦ h ];
    ahead = λ u a b q v x z. let h = upto_earlier e v u z (inside u b) in (told v x h, within v h);
  }

  -- a left verdict that holds is known to its end
  pub knows_left_read : (e : Place) → AllAre true P l e → ((t : Rational) → After e t → After l t)
      → KnowsSince P Q low high start at run reach e r l_stop r_stop
  knows_left_read e told later = record {
    holds = λ t a u. elim (sides l t) [ inl h ↦ k.holds t a h | inr h ↦ told t h u ];
    order = λ t a. k.order t (later t a);
    begins = k.begins;
    counts = k.counts;
    rest = k.rest;
    inside = k.inside;
    ahead = λ u a b q v x z. k.ahead u (later u a) b q v (later v x) z;
  }

  -- a later moment
  pub knows_later : (at' : Place) → ((t : Rational) → After at' t → After at t)
      → KnowsSince P Q low high start at' run reach l r l_stop r_stop
  knows_later at' later = record {
    holds = k.holds;
    order = k.order;
    begins = k.begins;
    counts = λ t a. k.counts t (later t a);
    rest = λ t u a. k.rest t u (later t a);
    inside = k.inside;
    ahead = k.ahead;
  }
