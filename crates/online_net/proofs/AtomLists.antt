-- The list of a network's atoms: the nodes without an operator.
use Rattle.std.proofs.Common.{◌≡◌, inl, inr, ℕ, ◌+◌, ◌<◌, ◌≤◌, List, [], ◌∷◌, ◌++◌, length, Option, Some, None, sym, subst, ap, ◌∙◌, arith}
use Rattle.std.specs.Prelude.{slice_get, slice_set}
use Rattle.std.proofs.lemmas.Bool.{cases_eq, cases_lt}
use Rattle.std.proofs.lemmas.Option.{slice_get_within}
use Rattle.rational.proofs.Lists.{slice_get-append_left, slice_get-append_here, slice_get-push_cases, slice_get-set_same, slice_get-set_other}
use Rattle.online_nodes.specs.declared.operator.Operator.{Operator}
use Rattle.online_net.specs.Nets.{AreAtoms}

-- so it is of the first n nodes
pub record AreAtomsTo (n : ℕ) (atoms : List ℕ) (operators : List (Option Operator)) : Type 0 where
  pub each : (i j : ℕ) → slice_get atoms i ≡ Some j → slice_get operators j ≡ Some None
  pub all : (j : ℕ) → j < n → slice_get operators j ≡ Some None → (i : ℕ) × (slice_get atoms i ≡ Some j)

-- of none
pub none_listed : (operators : List (Option Operator)) → AreAtomsTo 0 [] operators
none_listed operators = record { each = λ i j at. (let x = at in cc); all = λ j less is. absurd (omega (arith, less)) }

-- of one node more, which is an atom
pub listed_more : (n : ℕ) (atoms : List ℕ) (operators : List (Option Operator)) → AreAtomsTo n atoms operators → slice_get operators n ≡ Some None
    → AreAtomsTo (n + 1) (atoms ++ n ∷ []) operators
listed_more n atoms operators h is = record {
  each = λ i j at. elim (slice_get-push_cases atoms n i j at) [
    | inl before ↦ h.each i j before
    | inr here ↦ subst (λ m. slice_get operators m ≡ Some None) (sym here.1) is
  ];
  all = λ j less at. elim (cases_lt j n) [
    | inl before ↦ (let k = h.all j before at in (k.0, slice_get-append_left atoms (n ∷ []) k.0 j k.1))
    | inr far ↦ (length atoms, slice_get-append_here atoms n [] ∙ ap Some (let e : n ≡ j = omega (arith, less, far) in e))
  ];
}

-- or which is none
pub listed_past : (n : ℕ) (atoms : List ℕ) (operators : List (Option Operator)) → AreAtomsTo n atoms operators
    → (slice_get operators n ≡ Some None → ⊥) → AreAtomsTo (n + 1) atoms operators
listed_past n atoms operators h other = record {
  each = h.each;
  all = λ j less at. elim (cases_lt j n) [
    | inl before ↦ h.all j before at
    | inr far ↦ absurd (other (subst (λ m. slice_get operators m ≡ Some None) (let e : j ≡ n = omega (arith, less, far) in e) at))
  ];
}

-- of all
pub all_listed : (n : ℕ) (atoms : List ℕ) (operators : List (Option Operator)) → AreAtomsTo n atoms operators → length operators ≤ n
    → AreAtoms atoms operators
all_listed n atoms operators h past = record {
  each = h.each;
  all = λ j at. let l = slice_get_within operators j None at in h.all j (omega (arith, l, past)) at;
}

-- an operator that is kept anew is none of them
pub listed_on : (atoms : List ℕ) (operators : List (Option Operator)) (n : ℕ) (old new : Operator) → AreAtoms atoms operators
    → slice_get operators n ≡ Some (Some old) → AreAtoms atoms (slice_set operators n (Some new))
listed_on atoms operators n old new h is = record {
  each = λ i j at. elim (cases_eq j n) [
    | inl e ↦ absurd (let z : Some (Some old) ≡ Some None = sym is ∙ subst (λ m. slice_get operators m ≡ Some None) e (h.each i j at) in cc)
    | inr other ↦ slice_get-set_other operators n j (Some new) other ∙ h.each i j at
  ];
  all = λ j at. elim (cases_eq j n) [
    | inl e ↦
        let within = slice_get_within operators n (Some old) is in
        absurd (let z : Some (Some new) ≡ Some None =
        sym (slice_get-set_same operators n (Some new) within) ∙ subst (λ m. slice_get (slice_set operators n (Some new)) m ≡ Some None) e at in cc)
    | inr other ↦ h.all j (sym (slice_get-set_other operators n j (Some new) other) ∙ at)
  ];
}
