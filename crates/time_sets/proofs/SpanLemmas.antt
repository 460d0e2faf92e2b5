-- The truth of a set between its turns.
use Rattle.std.proofs.Common.{◌≡◌, ◌⊎◌, inl, inr, ℕ, zero, suc, ◌%◌, ◌<◌, ◌≤◌, ◌+◌, Bool, true, false, not}
use Rattle.std.proofs.Common.{List, [], ◌∷◌, length, get_or, refl, sym, ap, ◌∙◌, subst, arith}
use Rattle.std.specs.Prelude.{cond, ◌==◌}
use mathlib.Core.Bool.{beq}
use Rattle.rational.specs.Time.{Rational, ◌≤ʳ◌}
use Rattle.rational.specs.Places.{Place, Before, After, Upto}
use Rattle.rational.proofs.Order.{le_refl}
use Rattle.rational.proofs.PlaceLemmas.{sides, not_both, share, before_through, after_of_before, before_trans}
use Rattle.time_sets.specs.Turns.{place}
use Rattle.time_sets.specs.Sets.{has, turned, BeginAfter, Rise}
use Rattle.time_sets.specs.Windows.{Lies, IsDomain, IsOf}
use Rattle.time_sets.specs.Parts.{IsInside}
use Rattle.time_sets.specs.Spans.{odd, border, IsLongest, SpansCover}
use Rattle.time_sets.specs.declared.turn.Turn.{Turn}
use Rattle.time_sets.specs.declared.times.Times.{Times}
use Rattle.time_sets.specs.declared.domain.Domain.{Domain}
use Rattle.time_sets.proofs.SetLemmas.{turned_after, turned_upto}
use Rattle.time_sets.proofs.PartLemmas.{part_at_zero, part_at_turn}

test_of : (n m : ℕ) → n ≡ m → (n == 1) ≡ (m == 1)
test_of n m e = ap (λ k. k == 1) e

-- the number after an odd one is even
pub odd_next : (n : ℕ) → odd (suc n) ≡ not (odd n)
odd_next n = by_rest (n % 2) refl
  where
    by_rest : (r : ℕ) → n % 2 ≡ r → odd (suc n) ≡ not (odd n)
    by_rest zero e = test_of (suc n % 2) 1 (omega (arith, e)) ∙ sym (ap not (test_of (n % 2) 0 e))
    by_rest (suc zero) e = test_of (suc n % 2) 0 (omega (arith, e)) ∙ sym (ap not (test_of (n % 2) 1 e))
    by_rest (suc (suc r)) e = absurd (omega (arith, e))

twice_not : (x : Bool) → not (not x) ≡ x
twice_not true = refl
twice_not false = refl

-- the truth behind n turns
abbrev pub flips : Bool → ℕ → Bool
flips b n = cond (odd n) (not b) b

flips_next : (b : Bool) (n : ℕ) → flips (not b) n ≡ flips b (suc n)
flips_next b n = by_test b (odd n) ∙ sym (ap (λ x. cond x (not b) b) (odd_next n))
  where
    by_test : (b x : Bool) → cond x (not (not b)) (not b) ≡ cond (not x) (not b) b
    by_test true true = refl
    by_test true false = refl
    by_test false true = refl
    by_test false false = refl

-- one turn more turns the truth
pub flips_more : (b : Bool) (n : ℕ) → flips b (suc n) ≡ not (flips b n)
flips_more b n = ap (λ x. cond x (not b) b) (odd_next n) ∙ by_test b (odd n)
  where
    by_test : (b x : Bool) → cond (not x) (not b) b ≡ not (cond x (not b) b)
    by_test true true = refl
    by_test true false = refl
    by_test false true = refl
    by_test false false = refl

-- after an odd number of turns it is the other truth
pub flips_test : (b : Bool) (n : ℕ) → not (beq b (odd n)) ≡ flips b n
flips_test b n = by_test b (odd n)
  where
    by_test : (b x : Bool) → not (beq b x) ≡ cond x (not b) b
    by_test true true = refl
    by_test true false = refl
    by_test false true = refl
    by_test false false = refl

-- a turn that comes after a place is after it, too, if others come between
turn_after : (c : Place) (ps : List Turn) (m : ℕ) (d : Turn) → BeginAfter c ps → Rise ps → m < length ps → Before c (place (get_or ps m d))
turn_after c [] m d b r l = absurd (omega arith)
turn_after c (p ∷ rest) zero d b r l = b
turn_after c (p ∷ rest) (suc m) d b r l =
    let k : m < length rest = omega (arith, l) in
    before_trans c (place p) (place (get_or rest m d)) b (turn_after (place p) rest m d r.0 r.1 k)

-- the time lies behind the turn before the turn n
abbrev BehindTurn : List Turn → ℕ → Turn → Rational → Type 0
BehindTurn ps zero d t = Unit {0}
BehindTurn ps (suc n) d t = After (place (get_or ps n d)) t

-- and before the turn n, if there is one
abbrev BeforeTurn : List Turn → ℕ → Rational → Type 0
BeforeTurn [] n t = Unit {0}
BeforeTurn (p ∷ rest) zero t = Upto (place p) t
BeforeTurn (p ∷ rest) (suc n) t = BeforeTurn rest n t

-- between the turns before and after n turns the truth has turned n times
turned_between : (b : Bool) (ps : List Turn) (n : ℕ) (d : Turn) (t : Rational) → Rise ps → n ≤ length ps → BehindTurn ps n d t → BeforeTurn ps n t
    → turned b ps t ≡ flips b n
turned_between b [] zero d t r l a u = refl
turned_between b [] (suc n) d t r l a u = absurd (omega (arith, l))
turned_between b (p ∷ rest) zero d t r l a u = turned_upto b p rest t u
turned_between b (p ∷ rest) (suc n) d t r l a u =
    let k : n ≤ length rest = omega (arith, l) in
    turned_after b p rest t (behind n k a) ∙ turned_between (not b) rest n d t r.1 k (on n a) u ∙ flips_next b n
  where
    behind : (n : ℕ) → n ≤ length rest → BehindTurn (p ∷ rest) (suc n) d t → After (place p) t
    behind zero k a = a
    behind (suc m) k a =
        let j : m < length rest = omega (arith, k) in
        after_of_before (place p) (place (get_or rest m d)) t (turn_after (place p) rest m d r.0 r.1 j) a

    on : (n : ℕ) → BehindTurn (p ∷ rest) (suc n) d t → BehindTurn rest n d t
    on zero a = tt
    on (suc m) a = a

before_turn : (ps : List Turn) (n : ℕ) (e : Turn) (t : Rational) → Upto (place (get_or ps n e)) t → BeforeTurn ps n t
before_turn [] n e t u = tt
before_turn (p ∷ rest) zero e t u = u
before_turn (p ∷ rest) (suc n) e t u = before_turn rest n e t u

module _ (on : Domain) (s : Times) (is : IsDomain on) (own : IsOf on s) where
  inside : (n : ℕ) → n ≤ length s.turns.items → IsInside on (record { from = border on s n; to = get_or s.turns.items n on.to })
  inside zero l = (part_at_zero on s.turns.items is own.rise own.begins own.ends).inside
  inside (suc n) l =
      let k : n < length s.turns.items = omega (arith, l) in
      (part_at_turn on s.turns.items n (get_or s.turns.items n on.to) is own.rise own.begins own.ends k (same_default s.turns.items n k)).inside
    where
      same_default : (ps : List Turn) (n : ℕ) → n < length ps → get_or ps n on.to ≡ get_or ps n (get_or ps n on.to)
      same_default [] n k = absurd (omega arith)
      same_default (p ∷ rest) zero k = refl
      same_default (p ∷ rest) (suc n) k = let j : n < length rest = omega (arith, k) in same_default rest n j

  truth : (n : ℕ) (t : Rational) → n ≤ length s.turns.items → After (place (border on s n)) t → Upto (place (get_or s.turns.items n on.to)) t
      → has s t ≡ flips s.starts n
  truth zero t l a u = turned_between s.starts s.turns.items 0 on.to t own.rise l tt (before_turn s.turns.items 0 on.to t u)
  truth (suc n) t l a u = turned_between s.starts s.turns.items (suc n) on.to t own.rise l a (before_turn s.turns.items (suc n) on.to t u)

  -- the stretch behind n turns is one of the longest
  pub longest : (n : ℕ) (b : Bool) → n ≤ length s.turns.items → b ≡ flips s.starts n
      → IsLongest on s (record { from = border on s n; to = get_or s.turns.items n on.to; holds = b })
  longest n b l e = record {
    order = (inside n l).order;
    within = (inside n l).within;
    holds = λ t a u. truth n t l a u ∙ sym e;
    begins = λ t i u. back n l e t i u;
    ends = λ t i a. forth t i a (n_order n l);
  }
    where
      back : (n : ℕ) → n ≤ length s.turns.items → b ≡ flips s.starts n → (t : Rational) → Lies on t → Upto (place (border on s n)) t
          → (v : Rational) × (t ≤ʳ v) × Upto (place (border on s n)) v × (has s v ≡ not b)
      back zero l e t i u = absurd (not_both (place on.from) t u i.0)
      back (suc n) l e t i u =
          let k : n ≤ length s.turns.items = omega (arith, l) in
          let order = (inside n k).order in
          let here : Before (record { at = t; after = false }) (place (get_or s.turns.items n on.to)) =
          before_through (record { at = t; after = false }) (place (get_or s.turns.items n on.to)) t (le_refl t) u in
          let m = share (place (border on s n)) (place (get_or s.turns.items n on.to)) (record { at = t; after = false })
          (place (get_or s.turns.items n on.to)) order here order here in
          (m.0, m.3, m.2, truth n m.0 k m.1 m.2 ∙ turn_back e)
        where
          turn_back : b ≡ flips s.starts (suc n) → flips s.starts n ≡ not b
          turn_back e = sym (twice_not (flips s.starts n)) ∙ sym (ap not (flips_more s.starts n)) ∙ sym (ap not e)

      n_order : (n : ℕ) → n ≤ length s.turns.items → (suc n ≤ length s.turns.items) ⊎ (get_or s.turns.items n on.to ≡ on.to)
      n_order n l = by_list s.turns.items n l
        where
          by_list : (ps : List Turn) (n : ℕ) → n ≤ length ps → (suc n ≤ length ps) ⊎ (get_or ps n on.to ≡ on.to)
          by_list [] n l = inr refl
          by_list (p ∷ rest) zero l = inl (omega arith)
          by_list (p ∷ rest) (suc n) l =
              let k : n ≤ length rest = omega (arith, l) in elim (by_list rest n k) [ inl h ↦ inl (omega (arith, h)) | inr e ↦ inr e ]

      forth : (t : Rational) → Lies on t → After (place (get_or s.turns.items n on.to)) t
          → (suc n ≤ length s.turns.items) ⊎ (get_or s.turns.items n on.to ≡ on.to)
          → (v : Rational) × (v ≤ʳ t) × After (place (get_or s.turns.items n on.to)) v × (has s v ≡ not b)
      forth t i a (inr x) = absurd (not_both (place on.to) t i.1 (subst (λ p. After (place p) t) x a))
      forth t i a (inl k) =
          let order = (inside (suc n) k).order in
          let c = place (get_or s.turns.items n on.to) in
          let here : Before (place (get_or s.turns.items n on.to)) (record { at = t; after = true }) =
          before_through (place (get_or s.turns.items n on.to)) (record { at = t; after = true }) t a (le_refl t) in
          let m = share (place (get_or s.turns.items n on.to)) (place (get_or s.turns.items (suc n) on.to)) (place (get_or s.turns.items n on.to))
          (record { at = t; after = true }) order here here order in
          (m.0, m.4, m.1, truth (suc n) m.0 k m.1 m.2 ∙ flips_more s.starts n ∙ sym (ap not e))

-- the borders of what begins at the turn f
abbrev border_from : Turn → List Turn → Turn → ℕ → Turn
border_from f ps e zero = f
border_from f ps e (suc n) = get_or ps n e

between_borders : (f : Turn) (ps : List Turn) (e : Turn) (t : Rational) → After (place f) t → Upto (place e) t
    → (n : ℕ) × (n ≤ length ps) × After (place (border_from f ps e n)) t × Upto (place (get_or ps n e)) t
between_borders f [] e t a u = (0, omega arith, a, u)
between_borders f (p ∷ rest) e t a u = elim (sides (place p) t) [
  | inl k ↦ (0, omega arith, a, k)
  | inr b ↦ step (between_borders p rest e t b u)
]
  where
    step : ((n : ℕ) × (n ≤ length rest) × After (place (border_from p rest e n)) t × Upto (place (get_or rest n e)) t)
        → (n : ℕ) × (n ≤ suc (length rest)) × After (place (border_from f (p ∷ rest) e n)) t × Upto (place (get_or (p ∷ rest) n e)) t
    step (zero, l, x, y) = (1, omega arith, x, y)
    step (suc n, l, x, y) = (suc (suc n), omega (arith, l), x, y)

-- each time of a domain lies between two borders
pub spans_cover : SpansCover
spans_cover on s t own l = at_border (between_borders on.from s.turns.items on.to t l.0 l.1)
  where
    at_border : ((n : ℕ) × (n ≤ length s.turns.items) × After (place (border_from on.from s.turns.items on.to n)) t
        × Upto (place (get_or s.turns.items n on.to)) t)
        → (n : ℕ) × (n ≤ length s.turns.items) × After (place (border on s n)) t × Upto (place (border on s (n + 1))) t
    at_border (zero, k, x, y) = (0, k, x, y)
    at_border (suc n, k, x, y) =
        let e : suc (suc n) ≡ suc n + 1 = omega arith in
        (suc n, k, x, subst (λ m. Upto (place (border on s m)) t) e y)
