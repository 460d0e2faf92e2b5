-- How far after a time a trace must reach, and what that says of the times of a window there.
use Rattle.std.proofs.Common.{ℕ, ◌+◌, ◌-◌, ◌≤◌, max, Bool, arith}
use Rattle.std.specs.Prelude.{Option}
use Rattle.rational.specs.Time.{Rational, ◌≤ʳ◌, Within, later}
use Rattle.rational.specs.Windows.{Ahead, Behind}
use Rattle.rational.proofs.Order.{le_trans}
use Rattle.rational.proofs.TimeLemmas.{later_more, later_from, precedes_le}
use Rattle.stl_syntax.specs.Formula.{Subformula, horizon}
use Rattle.stl_syntax.specs.Early.{OpenAhead, OpenBehind}

-- t is a time from `from` on, and the time k later is at most `to`
pub record Reaches (from to : Rational) (k : ℕ) (t : Rational) : Type 0 where
  -- the time is not before the first one
  pub after : from ≤ʳ t
  -- k ticks on from it is not after the last one
  pub before : later t k ≤ʳ to

-- so t itself is at most `to`
pub reach_now : {from to t : Rational} (k : ℕ) → Reaches from to k t → t ≤ʳ to
reach_now {t = t} k h = le_trans (later_from t k) h.before

-- less is reached with more
pub reach_less : {from to t : Rational} (j k : ℕ) → j ≤ k → Reaches from to k t → Reaches from to j t
reach_less {t = t} j k g h = record { after = h.after; before = le_trans (later_more t j k g) h.before }

later_later : (t u : Rational) (j k : ℕ) → u ≤ʳ later t j → later u k ≤ʳ later t (j + k)
later_later t u j k h = record { le = omega (arith, h.le) }

-- what is left is reached from a time up to b later
pub reach_ahead : {from to t u : Rational} (b k : ℕ) → Reaches from to (b + k) t → from ≤ʳ u → u ≤ʳ later t b → Reaches from to k u
reach_ahead {t = t} {u = u} b k h s e = record { after = s; before = le_trans (later_later t u b k e) h.before }

-- and more from a time at least a earlier
pub reach_behind : {from to t u : Rational} (a k : ℕ) → Reaches from to (k - a) t → from ≤ʳ u → later u a ≤ʳ t → Reaches from to k u
reach_behind {t = t} {u = u} a k h s e = record {
  after = s;
  before = le_trans (le_trans (later_more u k (a + (k - a)) (omega arith)) (record { le = omega (arith, e.le) })) h.before;
}

-- and as much from an earlier time
pub reach_before : {from to t v : Rational} (k : ℕ) → Reaches from to k t → from ≤ʳ v → v ≤ʳ t → Reaches from to k v
reach_before {t = t} {v = v} k h s e = record { after = s; before = le_trans (record { le = omega (arith, e.le) }) h.before }

-- a window ahead ends by `to`
pub reach_end : {from to t : Rational} (b k : ℕ) → Reaches from to (b + k) t → later t b ≤ʳ to
reach_end {t = t} b k h = le_trans (later_more t b (b + k) (omega arith)) h.before

module _ {from to t u : Rational} (p q : Subformula) where
  -- what until reads of its left child, from t to a time of the window
  pub until_left : {v : Rational} (b : ℕ) → Reaches from to (b + max (horizon p) (horizon q)) t → u ≤ʳ later t b → Within t u v → Reaches from to (horizon p) v
  until_left b h e w =
      let m = max (horizon p) (horizon q) in
      reach_less (horizon p) m (omega arith) (reach_ahead b m h (le_trans h.after w.above) (le_trans w.below e))

  -- and of its right child there
  pub until_right : (b : ℕ) → Reaches from to (b + max (horizon p) (horizon q)) t → from ≤ʳ u → u ≤ʳ later t b → Reaches from to (horizon q) u
  until_right b h g e =
      let m = max (horizon p) (horizon q) in reach_less (horizon q) m (omega arith) (reach_ahead b m h g e)

  -- what since reads of its left child
  pub since_left : {v : Rational} (a : ℕ) → Reaches from to (max (horizon p) (horizon q - a)) t → from ≤ʳ u → Within u t v → Reaches from to (horizon p) v
  since_left a h g w =
      let m = max (horizon p) (horizon q - a) in
      reach_less (horizon p) m (omega arith) (reach_before m h (le_trans g w.above) w.below)

  -- and of its right one
  pub since_right : (a : ℕ) → Reaches from to (max (horizon p) (horizon q - a)) t → from ≤ʳ u → later u a ≤ʳ t → Reaches from to (horizon q) u
  since_right a h g e =
      let m = max (horizon p) (horizon q - a) in
      reach_behind a (horizon q) (reach_less (horizon q - a) m (omega arith) h) g e

module _ {from to end t u : Rational} where
  -- each time of a window ahead reaches the rest
  pub ahead_reaches : {a b : ℕ} {a_in b_in : Bool} (k : ℕ) → Reaches from to (b + k) t → Ahead from end a b a_in b_in t u → Reaches from to k u
  ahead_reaches {b = b} {b_in = b_in} k h w = reach_ahead b k h w.inside.above (precedes_le b_in u (later t b) w.ends)

  -- a window within a longer domain
  pub ahead_longer : {a b : ℕ} {a_in b_in : Bool} → to ≤ʳ end → Ahead from to a b a_in b_in t u → Ahead from end a b a_in b_in t u
  ahead_longer l w = record { inside = record { above = w.inside.above; below = le_trans w.inside.below l }; begins = w.begins; ends = w.ends }

  -- and within a shorter one, which it does not pass
  pub ahead_shorter : {a b : ℕ} {a_in b_in : Bool} (k : ℕ) → Reaches from to (b + k) t → Ahead from end a b a_in b_in t u → Ahead from to a b a_in b_in t u
  ahead_shorter {b = b} {b_in = b_in} k h w = record {
    inside = record { above = w.inside.above; below = le_trans (precedes_le b_in u (later t b) w.ends) (reach_end b k h) };
    begins = w.begins;
    ends = w.ends;
  }

  -- each time of a window behind reaches as much more as it lies behind
  pub behind_reaches : {a : ℕ} {b : Option ℕ} {a_in b_in : Bool} (k : ℕ) → Reaches from to (k - a) t → Behind from end a b a_in b_in t u → Reaches from to k u
  behind_reaches {a = a} {a_in = a_in} k h w = reach_behind a k h w.inside.above (precedes_le a_in (later u a) t w.ends)

  -- a window behind within a longer domain
  pub behind_longer : {a : ℕ} {b : Option ℕ} {a_in b_in : Bool} → to ≤ʳ end → Behind from to a b a_in b_in t u → Behind from end a b a_in b_in t u
  behind_longer l w = record { inside = record { above = w.inside.above; below = le_trans w.inside.below l }; begins = w.begins; ends = w.ends }

  -- and within a shorter one, in which t is
  pub behind_shorter : {a : ℕ} {b : Option ℕ} {a_in b_in : Bool} → t ≤ʳ to → Behind from end a b a_in b_in t u → Behind from to a b a_in b_in t u
  behind_shorter {a = a} {a_in = a_in} h w = record {
    inside = record { above = w.inside.above; below = le_trans (le_trans (later_from u a) (precedes_le a_in (later u a) t w.ends)) h };
    begins = w.begins;
    ends = w.ends;
  }

module _ {from to t u : Rational} where
  -- a window of the domain is one with no end of the domain
  pub ahead_opens : {a b : ℕ} {a_in b_in : Bool} → Ahead from to a b a_in b_in t u → OpenAhead from a b a_in b_in t u
  ahead_opens w = record { after = w.inside.above; begins = w.begins; ends = w.ends }

  -- and the other way, where the domain reaches as far
  pub ahead_closes : {a b : ℕ} {a_in b_in : Bool} (k : ℕ) → Reaches from to (b + k) t → OpenAhead from a b a_in b_in t u → Ahead from to a b a_in b_in t u
  ahead_closes {b = b} {b_in = b_in} k h w = record {
    inside = record { above = w.after; below = le_trans (precedes_le b_in u (later t b) w.ends) (reach_end b k h) };
    begins = w.begins;
    ends = w.ends;
  }

  -- the same of a window behind
  pub behind_opens : {a : ℕ} {b : Option ℕ} {a_in b_in : Bool} → Behind from to a b a_in b_in t u → OpenBehind from a b a_in b_in t u
  behind_opens w = record { after = w.inside.above; begins = w.begins; ends = w.ends }

  -- and the other way, where t is of the domain
  pub behind_closes : {a : ℕ} {b : Option ℕ} {a_in b_in : Bool} → t ≤ʳ to → OpenBehind from a b a_in b_in t u → Behind from to a b a_in b_in t u
  behind_closes {a = a} {a_in = a_in} h w = record {
    inside = record { above = w.after; below = le_trans (le_trans (later_from u a) (precedes_le a_in (later u a) t w.ends)) h };
    begins = w.begins;
    ends = w.ends;
  }
