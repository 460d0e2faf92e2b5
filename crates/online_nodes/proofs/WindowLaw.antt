-- A window's truth by what was read of its input.
use Rattle.std.proofs.Common.{◌⊎◌, inl, inr, Bool, not}
use Rattle.rational.specs.Rational.{Rational}
use Rattle.rational.specs.Places.{Place, After, Upto, Before}
use Rattle.online_nodes.specs.Truths.{Truths, Is, AllAre, Looks, Remembers, Knows, MeetsAfter, MeetsUpto}
use Rattle.rational.proofs.PlaceLemmas.{share, sides, not_both, before_through, place_order, after_of_before, after_same}

-- a stretch of an input from x to y on which it is as `seeks` says, and the windows that meet it, from `from` to `to`
pub record IsMet (seeks : Bool) (P : Truths) (low high : Rational → Place) (x y from to : Place) : Type 0 where
  -- there is a time in it
  pub some : Before x y
  -- it is so from x to y
  pub is : AllAre seeks P x y
  -- the windows after `from` meet what lies after x
  pub begin : MeetsAfter high x from
  -- and those up to `to` what lies before y
  pub end : MeetsUpto low y to

module _ {seeks : Bool} {P : Truths} {low high : Rational → Place} {x y from to : Place} (met : IsMet seeks P low high x y from to) where
  -- such a window has a time of the stretch in it
  pub met_in : ((t : Rational) → Before (low t) (high t)) → (t : Rational) → After from t → Upto to t
      → (u : Rational) × After x u × Upto y u × After (low t) u × Upto (high t) u
  met_in window t a b = share x y (low t) (high t) met.some (window t) ((met.begin t).0 a) ((met.end t).0 b)

  -- a window after them begins no earlier than the stretch ends
  pub met_no_more : (t u : Rational) → After to t → After (low t) u → After y u
  met_no_more t u b lo = elim (place_order (low t) y) [
    | inl h ↦ absurd (not_both to t ((met.end t).1 h) b)
    | inr h ↦ elim h [ inl s ↦ after_same (low t) y u s lo | inr h ↦ after_of_before y (low t) u h lo ]
  ]

module _ {seeks : Bool} {N P : Truths} {low high : Rational → Place} {at reach read : Place} where
  -- up to where what begins at `read` counts the node is otherwise
  pub before_it : (from : Place) (t : Rational) → Remembers seeks N P low high at reach read → MeetsAfter high read from
      → After at t → After reach t → Upto from t → Is (not seeks) N t
  before_it from t m meets a r k = m.rest t a r
      (λ u lo hi after. absurd (not_both from t k ((meets t).1 (before_through read (high t) u after hi))))

  -- once all is read that the windows up to `to` meet, but for what is not sought
  pub settled : (to : Place) (t : Rational) → Remembers seeks N P low high at reach read
      → ((t u : Rational) → Upto to t → Upto (high t) u → Upto read u ⊎ Is (not seeks) P u)
      → After at t → After reach t → Upto to t → Is (not seeks) N t
  settled to t m all a r k = m.rest t a r
      (λ u lo hi after. elim (all t u k hi) [ inl h ↦ absurd (not_both read u h after) | inr h ↦ h ])

module _ {seeks : Bool} {P : Truths} {low high : Rational → Place} where
  -- in a trace in which the node looks through the window at its input, it remembers what it knows
  pub remembers_of : {N : Truths} {at reach read stop : Place} → Looks seeks N P low high
      → Knows seeks P low high at reach read stop
      → Remembers seeks N P low high at reach read
  remembers_of {N} {at} {reach} {read} {stop} looks k = record {
    counts = λ t a b. let u = k.counts t a b in looks.found t u.0 u.1 u.2 u.4;
    rest = λ t a b more. looks.spared t
        (λ u lo hi. elim (sides read u) [ inl h ↦ k.rest t u a b lo hi h | inr h ↦ more u lo hi h ]);
  }

  -- a verdict that is not sought leaves what was found
  pub knows_passed : {at reach read stop : Place} (e : Place) → Knows seeks P low high at reach read stop → AllAre (not seeks) P read e
      → Knows seeks P low high at reach e stop
  knows_passed {at} {reach} {read} e k told = record {
    counts = k.counts;
    rest = λ t u a r lo hi h. elim (sides read u) [ inl x ↦ k.rest t u a r lo hi x | inr x ↦ told u x h ];
  }

  -- a verdict that is sought is found by the windows that meet it
  pub knows_entered : {x y from to : Place} (at stop : Place) → IsMet seeks P low high x y from to
      → ((t : Rational) → Before (low t) (high t)) → ((t : Rational) → After at t → After from t)
      → ((u : Rational) → Upto y u → Upto stop u)
      → Knows seeks P low high at to y stop
  knows_entered {x} {y} {from} {to} at stop met window later inside = record {
    counts = λ t a r. let u = met_in met window t (later t a) r in (u.0, u.3, u.4, inside u.0 u.2, met.is u.0 u.1 u.2);
    rest = λ t u a r lo hi h. absurd (not_both y u h (met_no_more met t u r lo));
  }

  -- so is one that begins to count no later than where what was found ends
  pub knows_continued : {x y from to at reach : Place} (stop : Place) → IsMet seeks P low high x y from to
      → ((t : Rational) → Before (low t) (high t)) → ((t : Rational) → After reach t → After from t)
      → ((u : Rational) → Upto y u → Upto stop u)
      → Knows seeks P low high at reach x stop → Knows seeks P low high at to y stop
  knows_continued {x} {y} {from} {to} {at} {reach} stop met window along inside k = record {
    counts = λ t a r. elim (sides reach t) [
      | inl h ↦ k.counts t a h
      | inr h ↦ let u = met_in met window t (along t h) r in (u.0, u.3, u.4, inside u.0 u.2, met.is u.0 u.1 u.2)
    ];
    rest = λ t u a r lo hi h. absurd (not_both y u h (met_no_more met t u r lo));
  }

  -- a later moment
  pub knows_later : {at reach read stop : Place} (at' : Place) → Knows seeks P low high at reach read stop
      → ((t : Rational) → After at' t → After at t) → Knows seeks P low high at' reach read stop
  knows_later at' k later = record { counts = λ t a. k.counts t (later t a); rest = λ t u a. k.rest t u (later t a) }
