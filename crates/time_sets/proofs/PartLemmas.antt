-- The stretches of a set in a domain.
use Rattle.std.proofs.Common.{◌≡◌, inl, inr, ℕ, zero, suc, ◌+◌, ◌<◌, ◌≤◌, ◌^◌, Bool, true, false, not}
use Rattle.std.proofs.Common.{List, [], ◌∷◌, drop, length, get_or, refl, sym, ap, ◌∙◌, subst, arith}
use Rattle.std.specs.Prelude.{IsTrue}
use Rattle.std.proofs.lemmas.Bool.{false≢true}
use Rattle.rational.specs.Time.{Rational, ◌≤ʳ◌}
use Rattle.rational.specs.Places.{Place, Before, After, Upto}
use Rattle.rational.proofs.PlaceLemmas.{sides, not_both, between, upto_of_before, after_of_before, before_trans, le_through}
use Rattle.time_sets.specs.Turns.{place}
use Rattle.time_sets.specs.Sets.{turned, BeginAfter, EndBefore, Rise}
use Rattle.time_sets.specs.Windows.{Lies, IsNear, IsDomain, IsOf}
use Rattle.time_sets.specs.Parts.{IsPart, left_from}
use Rattle.time_sets.specs.Spans.{border}
use Rattle.time_sets.specs.declared.times.Times.{Times}
use mir.Val.{bool_byte}
use Rattle.time_sets.specs.declared.turn.Turn.{Turn}
use Rattle.time_sets.specs.declared.domain.Domain.{Domain}
use Rattle.time_sets.proofs.SetLemmas.{turned_after, turned_upto, turned_early}
use Rattle.time_sets.proofs.TurnLemmas.{floors_in_order, small_between}

not_true : (x : Bool) → x ≡ false → IsTrue x → ⊥
not_true x e h = false≢true (sym e ∙ h)

-- a place within a domain is near
pub near_within : (on : Domain) (p : Turn) → IsDomain on → Before (place on.from) (place p) → Before (place p) (place on.to) → IsNear p
near_within on p is low high = small_between _ _ _ (2 ^ 36)
    (floors_in_order on.from.twice p.twice on.from.rest on.from.den p.rest p.den on.from.positive p.positive p.below low)
    (floors_in_order p.twice on.to.twice p.rest p.den on.to.rest on.to.den p.positive on.to.positive on.to.below high)
    is.near_from is.near_to

-- where a stretch ends that the turns end: at the first, or with the domain
abbrev end_of : Domain → List Turn → Turn
end_of on ps = get_or ps 0 on.to

-- what begins at the place f, is true from there on and turns at the turns has its first stretch up to the first of them
module _ (on : Domain) (f : Turn) (now : Rational → Bool) (is : IsDomain on) (near : IsNear f)
    (from : (t : Rational) → After (place f) t → After (place on.from) t)
    (early : (t : Rational) → Lies on t → Upto (place f) t → now t ≡ false) where
  first_part : (ps : List Turn) → Rise ps → BeginAfter (place f) ps → EndBefore (place on.to) ps → BeginAfter (place on.from) ps
      → Before (place f) (place on.to) → ((t : Rational) → After (place f) t → now t ≡ turned true ps t)
      → IsPart on (record { from = f; to = end_of on ps }) now (turned false (drop 1 ps))
  first_part [] rise begins ends inside order same = record {
    inside = record { order = order; within = λ t a u. (from t a, u); near_from = near; near_to = is.near_to };
    splits = λ t l. elim (sides (place f) t) [
      | inl u ↦ (
        (λ h. absurd (not_true (now t) (early t l u) h)),
        (λ x. elim x [ inl y ↦ absurd (not_both (place f) t u y.0) | inr y ↦ absurd (false≢true y) ]),
      )
      | inr a ↦ ((λ h. inl (a, l.1)), (λ x. same t a))
    ];
    behind = λ t l h. absurd (false≢true h);
    apart = λ t u k l h. absurd (false≢true h);
  }
  first_part (e ∷ rest) rise begins ends inside order same = record {
    inside = record {
      order = begins;
      within = λ t a u. (from t a, upto_of_before (place e) (place on.to) t ends.0 u);
      near_from = near;
      near_to = near_within on e is inside ends.0;
    };
    splits = λ t l. elim (sides (place f) t) [
      | inl u ↦ (
        (λ h. absurd (not_true (now t) (early t l u) h)),
        (λ x. elim x [
          | inl y ↦ absurd (not_both (place f) t u y.0)
          | inr y ↦ absurd (not_both (place f) t u (after_of_before (place f) (place e) t begins (later t y)))
        ]),
      )
      | inr a ↦ elim (sides (place e) t) [
        | inl u ↦ ((λ h. inl (a, u)), (λ x. same t a ∙ turned_upto true e rest t u))
        | inr b ↦ (
          (λ h. inr (sym (turned_after true e rest t b) ∙ sym (same t a) ∙ h)),
          (λ x. elim x [ inl y ↦ absurd (not_both (place e) t y.1 b) | inr y ↦ same t a ∙ turned_after true e rest t b ∙ y ]),
        )
      ]
    ];
    behind = λ t l h. later t h;
    apart = λ t u k l h. gap rest rise.0 t u k h (λ v a. same v (after_of_before (place f) (place e) v begins a));
  }
    where
      later : (t : Rational) → IsTrue (turned false rest t) → After (place e) t
      later t h = elim (sides (place e) t) [ inl u ↦ absurd (not_true (turned false rest t) (turned_early false (place e) rest t rise.0 u) h) | inr a ↦ a ]

      gap : (qs : List Turn) → BeginAfter (place e) qs → (t u : Rational) → Upto (place e) t → IsTrue (turned false qs u)
          → ((v : Rational) → After (place e) v → now v ≡ turned true (e ∷ qs) v) → (v : Rational) × (t ≤ʳ v) × (v ≤ʳ u) × (now v ≡ false)
      gap [] b t u k h same = absurd (false≢true h)
      gap (g ∷ qs) b t u k h same = let m = between (place e) (place g) b in (
        m.0,
        le_through (place e) t m.0 k m.1,
        le_through (place g) m.0 u m.2 (elim (sides (place g) u) [
          | inl x ↦ absurd (not_true (turned false (g ∷ qs) u) (turned_upto false g qs u x) h)
          | inr a ↦ a
        ]),
        same m.0 m.1 ∙ turned_after true e (g ∷ qs) m.0 m.1 ∙ turned_upto false g qs m.0 m.2,
      )

-- the stretch before the first turn
pub part_at_zero : (on : Domain) (ps : List Turn) → IsDomain on → Rise ps → BeginAfter (place on.from) ps → EndBefore (place on.to) ps
    → IsPart on (record { from = on.from; to = get_or ps 0 on.to }) (left_from 0 ps) (left_from 2 ps)
part_at_zero on ps is rise begins ends = first_part on on.from (turned true ps) is is.near_from (λ t a. a)
    (λ t l u. absurd (not_both (place on.from) t u l.0)) ps rise begins ends begins is.order (λ t a. refl)

head_after : (c : Place) (p : Turn) (rest : List Turn) → Before c (place p) → BeginAfter (place p) rest → BeginAfter c rest
head_after c p [] b h = tt
head_after c p (q ∷ rest) b h = before_trans c (place p) (place q) b h

-- the stretch that begins at a turn
pub part_at_turn : (on : Domain) (ps : List Turn) (n : ℕ) (f : Turn) → IsDomain on → Rise ps → BeginAfter (place on.from) ps → EndBefore (place on.to) ps
    → n < length ps → f ≡ get_or ps n f
    → IsPart on (record { from = f; to = get_or ps (suc n) on.to }) (left_from (suc n) ps) (left_from (suc (suc (suc n))) ps)
part_at_turn on [] n f is rise begins ends l e = absurd (omega arith)
part_at_turn on (p ∷ rest) zero f is rise begins ends l e =
    subst (λ x. IsPart on (record { from = x; to = get_or rest 0 on.to }) (turned false (p ∷ rest)) (turned false (drop 1 rest))) (sym e)
    (first_part on p (turned false (p ∷ rest)) is (near_within on p is begins ends.0) (λ t a. after_of_before (place on.from) (place p) t begins a)
    (λ t l u. turned_upto false p rest t u) rest rise.1 rise.0 ends.1 (head_after (place on.from) p rest begins rise.0) ends.0
    (λ t a. turned_after false p rest t a))
part_at_turn on (p ∷ rest) (suc n) f is rise begins ends l e =
    let m : n < length rest = omega (arith, l) in
    part_at_turn on rest n f is rise.1 (head_after (place on.from) p rest begins rise.0) ends.1 m e

-- the stretch that begins at a border
pub part_at : (on : Domain) (s : Times) (n : ℕ) (f e : Turn) → IsDomain on → IsOf on s → n ≤ length s.turns.items → f ≡ border on s n
    → e ≡ get_or s.turns.items n on.to
    → IsPart on (record { from = f; to = e }) (left_from n s.turns.items) (left_from (n + 2) s.turns.items)
part_at on s n f e is own l h k = subst (λ x. IsPart on (record { from = x; to = e }) (left_from n s.turns.items) (left_from (n + 2) s.turns.items)) (sym h)
    (subst (λ x. IsPart on (record { from = border on s n; to = x }) (left_from n s.turns.items) (left_from (n + 2) s.turns.items)) (sym k) (by_place n l))
  where
    same_default : (ps : List Turn) (n : ℕ) → n < length ps → get_or ps n on.to ≡ get_or ps n (get_or ps n on.to)
    same_default [] n k = absurd (omega arith)
    same_default (p ∷ rest) zero k = refl
    same_default (p ∷ rest) (suc n) k = let j : n < length rest = omega (arith, k) in same_default rest n j

    by_place : (n : ℕ) → n ≤ length s.turns.items
        → IsPart on (record { from = border on s n; to = get_or s.turns.items n on.to }) (left_from n s.turns.items) (left_from (n + 2) s.turns.items)
    by_place zero l = part_at_zero on s.turns.items is own.rise own.begins own.ends
    by_place (suc n) l =
        let k : n < length s.turns.items = omega (arith, l) in
        let e : suc (suc (suc n)) ≡ suc n + 2 = omega arith in
        subst (λ m. IsPart on (record { from = get_or s.turns.items n on.to; to = get_or s.turns.items (suc n) on.to }) (left_from (suc n) s.turns.items)
        (left_from m s.turns.items)) e
        (part_at_turn on s.turns.items n (get_or s.turns.items n on.to) is own.rise own.begins own.ends k (same_default s.turns.items n k))

-- behind the last turn no stretch begins
pub none_left : (ps : List Turn) (n : ℕ) (t : Rational) → length ps ≤ n → left_from (suc n) ps t ≡ false
none_left [] zero t h = refl
none_left [] (suc n) t h = refl
none_left (p ∷ rest) zero t h = absurd (omega (arith, h))
none_left (p ∷ rest) (suc n) t h = let m : length rest ≤ n = omega (arith, h) in none_left rest n t m

-- behind the last border none is left
pub none_at : (ps : List Turn) (n : ℕ) (t : Rational) → length ps < n → left_from n ps t ≡ false
none_at ps zero t h = absurd (omega (arith, h))
none_at ps (suc n) t h = let k : length ps ≤ n = omega (arith, h) in none_left ps n t k

-- at the beginning all is left
pub all_left : (holds : Bool) (n : ℕ) (ps : List Turn) (t : Rational) → n ≡ bool_byte (not holds) → left_from n ps t ≡ turned holds ps t
all_left true n ps t e = ap (λ k. left_from k ps t) e
all_left false n ps t e = ap (λ k. left_from k ps t) e
