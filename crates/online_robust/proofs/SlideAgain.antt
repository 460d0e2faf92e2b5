-- A window goes on in a later turn: what is to come of its input goes on where it has met it.
use Rattle.std.proofs.Common.{◌≡◌, ℕ, true, false, List, [], ◌∷◌, ◌++◌, drop, refl, sym, subst, ap, arith, Option, Some, None, ℤ, pos, ◌+ℤ◌}
use Rattle.std.specs.Prelude.{slice_get}
use Rattle.std.proofs.lemmas.Option.{same_Some}
use Rattle.rational.specs.Time.{Rational, whole, shifted, ◌≈◌, ◌≤ʳ◌}
use Rattle.rational.specs.Places.{Place, Same}
use Rattle.rational.specs.Windows.{Function}
use Rattle.rational.proofs.Order.{ge_of_same, le_of_same, le_trans, lt_of_le_of_lt, same_of_le, same_sym, same_trans}
use Rattle.rational.proofs.Mixed.{parts}
use Rattle.rational.proofs.TimeLemmas.{same_shifted}
use Rattle.frac128.specs.Value.{value}
use Rattle.frac128.specs.declared.frac.Frac.{Frac}
use Rattle.value_laws.specs.declared.margin.Margin.{Margin}
use Rattle.online_robust.specs.Slides.{AreFrom, after_time, last_place}
use Rattle.online_robust.specs.Steps.{AreInputs}
use Rattle.online_robust.specs.Told.{AreFit, AreJoined, AreTold}
use Rattle.online_robust.specs.declared.line.MarginLine.{MarginLine}
use Rattle.online_robust.specs.declared.line.MarginLine.TheVariants.{Point, Gap}
use Rattle.online_robust.proofs.SlideParts.{from_joined}

-- the later of lines that tell still tell
pub told_tail : (P : Function) (xs ys : List MarginLine) → AreTold P (xs ++ ys) → AreTold P ys
told_tail P [] ys h = h
told_tail P (x ∷ xs) ys h = told_tail P xs ys h.1

-- the later of lines within the limits keep within them
pub fit_tail : (reach : ℕ) (xs ys : List MarginLine) → AreFit reach (xs ++ ys) → AreFit reach ys
fit_tail reach [] ys h = h
fit_tail reach (x ∷ xs) ys h = fit_tail reach xs ys h.1

-- behind lines that were read the others go on
pub after_seen : (F : Function) (u to : Rational) (seen fresh : List MarginLine) → AreTold F (seen ++ fresh) → AreJoined u to (seen ++ fresh)
    → AreFrom (last_place (after_time u) seen) to fresh
after_seen F u to [] fresh told joined = from_joined F u to fresh told joined
after_seen F u to (Gap a b p ∷ []) [] told joined = absurd joined
after_seen F u to (Gap a b p ∷ []) (Gap c d q ∷ fresh) told joined = absurd joined
after_seen F u to (Gap a b p ∷ []) (Point v q ∷ fresh) told joined = (refl, same_sym joined.1, joined.2)
after_seen F u to (Gap a b p ∷ Gap c d q ∷ seen) fresh told joined = absurd joined
after_seen F u to (Gap a b p ∷ Point v q ∷ seen) fresh told joined = after_seen F (value v) to seen fresh told.1.1 joined.2
after_seen F u to (Point v q ∷ seen) fresh told joined = absurd joined

-- a number moved by an offset is that moved time
pub moved_whole : (t : Rational) (g k : ℤ) → t ≈ whole g → shifted t k ≈ whole (g +ℤ k)
moved_whole t g k e = same_trans (same_shifted k e) (record { same = omega (arith, parts) })

module _ (F : Function) (reach first : ℕ) (front : ℤ) (c : Place) where
  -- where some lines were read, from the start on
  from_start : (at : Frac) (v : Margin) (rest xs fresh : List MarginLine) (x : MarginLine) → x ∷ (xs ++ fresh) ≡ Point at v ∷ rest
      → AreTold F (x ∷ (xs ++ fresh)) → AreJoined (value at) (whole front) rest → AreFrom (last_place c (x ∷ xs)) (whole front) fresh
  from_start at v rest xs fresh x all told joined =
      let tail : xs ++ fresh ≡ rest = ap (λ (l : List MarginLine). drop 1 l) all in
      let head : x ≡ Point at v = same_Some x (Point at v) (ap (λ (l : List MarginLine). slice_get l 0) all) in
      subst (λ (y : MarginLine). AreFrom (last_place c (y ∷ xs)) (whole front) fresh) (sym head)
      (after_seen F (value at) (whole front) xs fresh told.1 (subst (λ l. AreJoined (value at) (whole front) l) (sym tail) joined))

  -- behind lines that were read
  pub behind_some : (back : Option ℤ) (x : MarginLine) (xs fresh : List MarginLine) → AreInputs F reach first back front ((x ∷ xs) ++ fresh)
      → AreFrom (last_place c (x ∷ xs)) (whole front) fresh
  behind_some None x xs fresh inputs =
      let (at, v, rest, all, when, joined) = inputs.left in from_start at v rest xs fresh x all inputs.told joined
  behind_some (Some back) x xs fresh inputs =
      let (from, le, joined, later) = inputs.left in after_seen F from (whole front) (x ∷ xs) fresh inputs.told joined

  -- where none was read, from the start
  pub at_start : (fresh : List MarginLine) → Same c (record { at = whole (pos first); after = false }) → AreInputs F reach first None front fresh
      → AreFrom c (whole front) fresh
  at_start fresh same inputs =
      let (at, v, rest, all, when, joined) = inputs.left in
      subst (λ l. AreFrom c (whole front) l) (sym all) (same.1, same_trans when (same_sym same.0), joined)

  -- or from where all before is needed no more
  pub at_back : (back : ℤ) (fresh : List MarginLine) → c.after ≡ true → c.at ≈ whole back → whole back ≤ʳ whole front
      → AreInputs F reach first (Some back) front fresh
      → AreFrom c (whole front) fresh
  at_back back [] after same by inputs =
      let (from, le, joined, later) = inputs.left in
      (same_of_le (le_trans (le_of_same same) by) (le_trans (ge_of_same joined) (le_trans le (ge_of_same same))), after)
  at_back back (Gap a b p ∷ []) after same by inputs = absurd inputs.left.2
  at_back back (Gap a b p ∷ Gap d e q ∷ lines) after same by inputs = absurd inputs.left.2
  at_back back (Gap a b p ∷ Point u v ∷ lines) after same by inputs =
      let (from, le, joined, later) = inputs.left in
      (after, le_trans (le_of_same joined.0) (le_trans le (ge_of_same same)), lt_of_le_of_lt (le_of_same same) later, joined.1, joined.2)
  at_back back (Point u v ∷ lines) after same by inputs = absurd inputs.left.2
