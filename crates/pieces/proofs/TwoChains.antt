-- A walk along two chains, from place to place: the pieces that go on where it stands, and the next place at which one of them ends.
use Rattle.std.proofs.Common.{◌≡◌, ◌⊎◌, inl, inr, ℕ, ◌+◌, ◌-◌, ◌<◌, ◌^◌, Some, IsTrue, true, length, sym, subst}
use Rattle.std.specs.Prelude.{slice_get, if◌then◌else◌, ◌↔◌}
use Rattle.rational.specs.Rational.{IsWithin}
use Rattle.rational.specs.Time.{Rational}
use Rattle.rational.specs.Extended.{value_at}
use Rattle.rational.specs.Places.{Place, After, Upto, Before, Same, AtMost}
use Rattle.rational.proofs.PlaceLemmas.{before_same}
use Rattle.frac128.specs.Value.{value}
use Rattle.frac128.specs.Cuts.{place}
use Rattle.value_laws.specs.Members.{ShapeOf}
use Rattle.pieces.specs.declared.next.Next.{Next}
use Rattle.pieces.specs.declared.piece.Piece.{Piece}
use Rattle.pieces.specs.Chains.{Chain, IsLimited, IsNormal, IsWorth, end, stop}
use Rattle.pieces.proofs.Ends.{at_most_of_before, at_most_trans, same_place}
use Rattle.pieces.proofs.ReadUpTo.{StandsAt, stands_next, stands_inside, stands_before, is_inside, end_within, end_most, worth_on}
use Rattle.pieces.proofs.CombiningLemmas.{nearer}

-- the walk stands at a place: p and q go on there, and `next` is the earlier of their ends
pub record IsStep {P : Type 0} (shape : ShapeOf P) (a b : Chain P) (at : Place) (i j : ℕ) (p q : Piece P) (next : Next) : Type 0 where
  -- both chains are normal
  pub left_normal : IsNormal shape a
  -- also the second
  pub right_normal : IsNormal shape b
  -- the first was read up to the place
  pub left : StandsAt a at i
  -- and the second
  pub right : StandsAt b at j
  -- p is its piece there
  pub at_p : slice_get a.pieces i ≡ Some p
  -- and q that of the second
  pub at_q : slice_get b.pieces j ≡ Some q
  -- the next place is an end of one of them
  pub one : (next.until ≡ p.until) ⊎ (next.until ≡ q.until)
  -- whether p ends there
  pub ends_left : IsTrue next.left ↔ Same (end p) (place next.until)
  -- and whether q does
  pub ends_right : IsTrue next.right ↔ Same (end q) (place next.until)
  -- p does not end before it
  pub before_left : AtMost (place next.until) (end p)
  -- nor does q
  pub before_right : AtMost (place next.until) (end q)

-- the second chain has a piece there where the first has one
pub has_other : {P : Type 0} (shape : ShapeOf P) (a b : Chain P) (at : Place) (i j : ℕ) (p : Piece P) → IsNormal shape a → StandsAt a at i → StandsAt b at j
    → slice_get a.pieces i ≡ Some p → Same (stop a) (stop b) → j < length b.pieces
has_other shape a b at i j p normal left right e ends =
    stands_inside b at j right (before_same at (stop a) (stop b) (stands_before a at i p normal.rising left e) ends)

module _ {P : Type 0} {shape : ShapeOf P} {a b : Chain P} {at : Place} {i j : ℕ} {p q : Piece P} {next : Next} (s : IsStep shape a b at i j p q next) where
  -- the next place is later
  pub step_later : Before at (place next.until)
  step_later = elim s.one [
    | inl e ↦ subst (λ u. Before at (place u)) (sym e) (s.left.ahead p s.at_p)
    | inr e ↦ subst (λ u. Before at (place u)) (sym e) (s.right.ahead q s.at_q)
  ]

  -- in the domain
  pub step_below : AtMost (place next.until) (stop a)
  step_below = at_most_trans (place next.until) (end p) (stop a) s.before_left (end_most a.from a.pieces i p s.left_normal.rising s.at_p)

  -- and within 2^34
  pub step_within : IsLimited shape a → IsLimited shape b → IsWithin (2 ^ 34) (value next.until.time)
  step_within left right = elim s.one [
    | inl e ↦ subst (λ u. IsWithin (2 ^ 34) (value u.time)) (sym e) (end_within shape a i p s.left_normal left s.at_p)
    | inr e ↦ subst (λ u. IsWithin (2 ^ 34) (value u.time)) (sym e) (end_within shape b j q s.right_normal right s.at_q)
  ]

  -- up to it both chains go by the shapes of p and q
  pub step_left_on : (t : Rational) → After at t → Upto (place next.until) t → IsWorth shape a t (value_at (shape.function p.shape) t)
  step_left_on t x u = worth_on shape a at i p t s.left s.at_p x (s.before_left t u)

  -- also the second
  pub step_right_on : (t : Rational) → After at t → Upto (place next.until) t → IsWorth shape b t (value_at (shape.function q.shape) t)
  step_right_on t x u = worth_on shape b at j q t s.right s.at_q x (s.before_right t u)

  on : AtMost at (place next.until)
  on = at_most_of_before at (place next.until) step_later

  -- where the chains are read then
  pub step_left : StandsAt a (place next.until) (if next.left then i + 1 else i)
  step_left = stands_next a at (place next.until) i p next.left s.left_normal.rising s.left s.at_p on s.before_left s.ends_left

  -- also the second
  pub step_right : StandsAt b (place next.until) (if next.right then j + 1 else j)
  step_right = stands_next b at (place next.until) j q next.right s.right_normal.rising s.right s.at_q on s.before_right s.ends_right

  -- less remains to be read
  pub step_nearer : (length a.pieces - (if next.left then i + 1 else i)) + (length b.pieces - (if next.right then j + 1 else j))
      < (length a.pieces - i) + (length b.pieces - j)
  step_nearer = nearer (length a.pieces) (length b.pieces) i j next.left next.right (is_inside a.pieces i p s.at_p) (is_inside b.pieces j q s.at_q) one
    where
      one : (next.left ≡ true) ⊎ (next.right ≡ true)
      one = elim s.one [
        | inl e ↦ inl (s.ends_left.1 (subst (λ u. Same (end p) (place u)) (sym e) (same_place (end p))))
        | inr e ↦ inr (s.ends_right.1 (subst (λ u. Same (end q) (place u)) (sym e) (same_place (end q))))
      ]
