-- Pieces of a function of time one after another, each up to a place: what they are worth, where they end, when one is needless, and
-- what function they tell.
use Rattle.std.specs.Prelude.{◌≡◌, ◌⊎◌, ◌↔◌, ◌^◌, ℕ, zero, suc, List, [], ◌∷◌}
use Rattle.rational.specs.Rational.{IsWithin}
use Rattle.rational.specs.Time.{Rational, ◌≈◌}
use Rattle.rational.specs.Extended.{Extended, ◌≈ᵉ◌, value_at, Passes}
use Rattle.rational.specs.Affine.{AreSame, IsBounded}
use Rattle.rational.specs.Places.{Place, After, Upto, Before, Same}
use Rattle.rational.specs.Windows.{Function}
use Rattle.frac128.specs.Cuts.{place}
use Rattle.value_laws.specs.Members.{ShapeOf}
use Rattle.pieces.specs.declared.piece.Piece.{Piece}

-- where the first piece begins, and the pieces in their order; each next one begins where the one before it ends
pub record Chain (P : Type 0) : Type 0 where
  pub from : Place
  pub pieces : List (Piece P)

module _ {P : Type 0} where
  -- where a piece ends
  abbrev pub end : Piece P → Place
  end p = place p.until

  -- where the last of the pieces ends that begin at c: at c itself, if there is none
  abbrev pub stop_from : Place → List (Piece P) → Place
  stop_from c [] = c
  stop_from c (p ∷ ps) = stop_from (end p) ps

  -- where the chain ends
  abbrev pub stop : Chain P → Place
  stop chain = stop_from chain.from chain.pieces

  -- where the piece begins at that place of the list
  abbrev pub begin_at : Place → List (Piece P) → ℕ → Place
  begin_at c ps zero = c
  begin_at c [] (suc i) = c
  begin_at c (p ∷ ps) (suc i) = begin_at (end p) ps i

  -- the shape is that of a piece
  abbrev pub HasShapeIn : List (Piece P) → P → Type 0
  HasShapeIn [] q = ⊥
  HasShapeIn (p ∷ ps) q = (q ≡ p.shape) ⊎ HasShapeIn ps q

  abbrev pub HasShape : Chain P → P → Type 0
  HasShape chain q = HasShapeIn chain.pieces q

  -- something holds of each piece and the pieces after it
  abbrev pub Each : (Piece P → List (Piece P) → Type 0) → List (Piece P) → Type 0
  Each Q [] = Unit {0}
  Each Q (p ∷ ps) = Q p ps × Each Q ps

  -- each piece ends after it begins, so there is some time in it
  abbrev pub Rise : Place → List (Piece P) → Type 0
  Rise c [] = Unit {0}
  Rise c (p ∷ ps) = Before c (end p) × Rise (end p) ps

module _ {P : Type 0} (shape : ShapeOf P) where
  -- the pieces that begin at c are worth v at t: t lies after where some piece begins and before where it ends, and its shape is worth v
  abbrev pub IsWorthFrom : Place → List (Piece P) → Rational → Extended → Type 0
  IsWorthFrom c [] t v = ⊥
  IsWorthFrom c (p ∷ ps) t v = (After c t × Upto (end p) t × Passes (shape.function p.shape) t v) ⊎ IsWorthFrom (end p) ps t v

  -- the chain is worth v at t
  abbrev pub IsWorth : Chain P → Rational → Extended → Type 0
  IsWorth chain t v = IsWorthFrom chain.from chain.pieces t v

  -- the next piece is of another function
  abbrev pub Differs : Piece P → List (Piece P) → Type 0
  Differs p [] = Unit {0}
  Differs p (q ∷ ps) = ¬ AreSame (shape.function p.shape) (shape.function q.shape)

  -- q is of one time alone, the pieces on both its sides are of one function, and q has its value there
  pub record CanBeLeftOut (p q : Piece P) (after : P) : Type 0 where
    pub instant : (end p).at ≈ (end q).at
    pub around : AreSame (shape.function p.shape) (shape.function after)
    pub here : value_at (shape.function p.shape) (end q).at ≈ᵉ value_at (shape.function q.shape) (end q).at

  -- the next piece cannot be left out
  abbrev pub NextIsNeeded : Piece P → List (Piece P) → Type 0
  NextIsNeeded p [] = Unit {0}
  NextIsNeeded p (q ∷ []) = Unit {0}
  NextIsNeeded p (q ∷ r ∷ ps) = ¬ CanBeLeftOut p q r.shape

  -- a piece in its place
  pub record IsPiece (p : Piece P) (ps : List (Piece P)) : Type 0 where
    pub differs : Differs p ps
    pub needed : NextIsNeeded p ps

  -- the ends rise strictly, no two neighbours are one function, and no piece of one time can be left out
  pub record IsNormal (chain : Chain P) : Type 0 where
    pub rising : Rise chain.from chain.pieces
    pub each : Each IsPiece chain.pieces

  -- the chain goes from the one place to the other, and is worth at each time between what F says there
  pub record Tells (F : Function) (from to : Place) (chain : Chain P) : Type 0 where
    pub normal : IsNormal chain
    pub begins : Same chain.from from
    pub ends : Same (stop chain) to
    pub worth : (t : Rational) (v : Extended) → IsWorth chain t v ↔ (After from t × Upto to t × F t v)

  -- it begins and ends within 2^34, and its values are infinite or within 2^31
  pub record IsLimited (chain : Chain P) : Type 0 where
    pub begins : IsWithin (2 ^ 34) chain.from.at
    pub ends : IsWithin (2 ^ 34) (stop chain).at
    pub values : (t : Rational) (v : Extended) → IsWorth chain t v → IsBounded (2 ^ 31) v
