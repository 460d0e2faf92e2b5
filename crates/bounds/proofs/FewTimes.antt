-- Lists of times that are few: rising times among those of a list are no more than the list has.
use Rattle.std.proofs.Common.{◌≡◌, suc, ◌≤◌, Bool, true, false, List, [], ◌∷◌, ◌++◌, length, refl, arith, inl, inr}
use Rattle.std.specs.Prelude.{◌⊎◌}
use Rattle.rational.specs.Time.{Rational, ◌≤ʳ◌, ◌<ʳ◌, ◌≈◌, Precedes}
use Rattle.rational.proofs.Order.{le_refl, le_of_same, ge_of_same, lt_of_lt_of_le, lt_of_le_of_lt, lt_trans, lt_irrefl}
use Rattle.rational.proofs.Order.{same_sym, same_trans, lt_or_same_or_gt}
use Rattle.rational.proofs.TimeLemmas.{precedes_after, precedes_of_lt}
use Rattle.stl_syntax.specs.Cells.{AreRisingTimes, IsAmong}
use Rattle.bounds.proofs.NearTimes.{Move, by, back}

-- the first is later than f, or it too where that may be, and each is later than the one before
abbrev pub RisesFrom : Bool → Rational → List Rational → Type 0
RisesFrom inside f [] = Unit {0}
RisesFrom inside f (t ∷ times) = Precedes inside f t × RisesFrom false t times

-- what rises after a time rises after each that is not later
pub rises_before : (inside : Bool) (g f : Rational) (times : List Rational) → g ≤ʳ f → RisesFrom inside f times → RisesFrom inside g times
rises_before inside g f [] h r = tt
rises_before inside g f (t ∷ times) h r = (precedes_after inside g f t h r.0, r.1)

lt_of_precedes : (inside : Bool) (g f t : Rational) → g <ʳ f → Precedes inside f t → g <ʳ t
lt_of_precedes true g f t h p = lt_of_lt_of_le h p
lt_of_precedes false g f t h p = lt_trans h p

-- and from an earlier time on, with that in or not
pub rises_earlier : (inside other : Bool) (g f : Rational) (times : List Rational) → g <ʳ f → RisesFrom inside f times → RisesFrom other g times
rises_earlier inside other g f [] h r = tt
rises_earlier inside other g f (t ∷ times) h r = (precedes_of_lt other g t (lt_of_precedes inside g f t h r.0), r.1)

-- rising times
pub rises_on : (t : Rational) (times : List Rational) → AreRisingTimes (t ∷ times) → RisesFrom false t times
rises_on t [] r = tt
rises_on t (u ∷ times) r = (r.0, rises_on u times r.1)

-- from the first of them on
pub rises : (t : Rational) (times : List Rational) → AreRisingTimes (t ∷ times) → RisesFrom true t (t ∷ times)
rises t times r = (le_refl t, rises_on t times r)

-- a time is among a list, or not
pub among_or_not : (times : List Rational) (t : Rational) → IsAmong times t ⊎ ¬ (IsAmong times t)
among_or_not [] t = inr (λ h. h)
among_or_not (u ∷ times) t = elim (lt_or_same_or_gt t u) [
  | inl l ↦ elim (among_or_not times t) [
    | inl h ↦ inl (inr h)
    | inr h ↦ inr (λ k. elim k [ inl e ↦ lt_irrefl (lt_of_lt_of_le l (ge_of_same e)) | inr m ↦ h m ])
  ]
  | inr (inl e) ↦ inl (inl e)
  | inr (inr g) ↦ elim (among_or_not times t) [
    | inl h ↦ inl (inr h)
    | inr h ↦ inr (λ k. elim k [ inl e ↦ lt_irrefl (lt_of_le_of_lt (le_of_same e) g) | inr m ↦ h m ])
  ]
]

-- a time that is one of a list, or equal to one
pub among_same : (times : List Rational) (t u : Rational) → t ≈ u → IsAmong times u → IsAmong times t
among_same [] t u e h = absurd h
among_same (x ∷ times) t u e (inl f) = inl (same_trans e f)
among_same (x ∷ times) t u e (inr m) = inr (among_same times t u e m)

-- in two lists
pub among_left : (times others : List Rational) (t : Rational) → IsAmong times t → IsAmong (times ++ others) t
among_left [] others t h = absurd h
among_left (u ∷ times) others t h = elim h [ inl e ↦ inl e | inr k ↦ inr (among_left times others t k) ]

-- in the second
pub among_right : (times others : List Rational) (t : Rational) → IsAmong others t → IsAmong (times ++ others) t
among_right [] others t h = h
among_right (u ∷ times) others t h = inr (among_right times others t h)

-- moved times
abbrev pub moved_back : Move → List Rational → List Rational
moved_back k [] = []
moved_back k (u ∷ times) = by u (back k) ∷ moved_back k times

-- as many
pub moved_count : (k : Move) (times : List Rational) → length (moved_back k times) ≡ length times
moved_count k [] = refl
moved_count k (u ∷ times) = let e = moved_count k times in omega (arith, e)

-- a time whose moved one is among them
pub among_moved : (k : Move) (times : List Rational) (t : Rational) → IsAmong times (by t k) → IsAmong (moved_back k times) t
among_moved k [] t h = absurd h
among_moved k (u ∷ times) t h =
    elim h [ inl e ↦ inl (record { same = let p = e.same in omega (arith, p) }) | inr m ↦ inr (among_moved k times t m) ]

-- the list without one of its times
record Without (times : List Rational) (t : Rational) : Type 0 where
  rest : List Rational
  count : length times ≡ suc (length rest)
  others : (u : Rational) → IsAmong times u → ¬ (u ≈ t) → IsAmong rest u

without : (times : List Rational) (t : Rational) → IsAmong times t → Without times t
without [] t h = absurd h
without (x ∷ times) t (inl e) = record {
  rest = times;
  count = refl;
  others = λ u h apart. elim h [ inl f ↦ absurd (apart (same_trans f (same_sym e))) | inr k ↦ k ];
}
without (x ∷ times) t (inr m) =
    let w = without times t m in record {
      rest = x ∷ w.rest;
      count = let e = w.count in omega (arith, e);
      others = λ u h apart. elim h [ inl f ↦ inl f | inr k ↦ inr (w.others u k apart) ];
    }

-- each is among the list
abbrev pub AreAmong : List Rational → List Rational → Type 0
AreAmong [] times = Unit {0}
AreAmong (x ∷ xs) times = IsAmong times x × AreAmong xs times

still_among : (f : Rational) (xs times : List Rational) (w : Without times f) → RisesFrom false f xs → AreAmong xs times → AreAmong xs w.rest
still_among f [] times w r h = tt
still_among f (x ∷ xs) times w r h =
    (w.others x h.0 (λ e. lt_irrefl (lt_of_lt_of_le r.0 (le_of_same e))), still_among f xs times w (rises_earlier false false f x xs r.0 r.1) h.1)

-- rising times among a list are no more than it has
pub no_more : (inside : Bool) (f : Rational) (xs times : List Rational) → RisesFrom inside f xs → AreAmong xs times → length xs ≤ length times
no_more inside f [] times r h = omega arith
no_more inside f (x ∷ xs) times r h =
    let w = without times x h.0 in
    let k = no_more false x xs w.rest r.1 (still_among x xs times w r.1 h.1) in
    let e = w.count in
    omega (arith, k, e)
