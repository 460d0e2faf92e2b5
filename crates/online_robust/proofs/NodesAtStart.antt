-- The nodes before any row, one after another.
use Rattle.std.proofs.Common.{◌≡◌, ℕ, zero, suc, ◌+◌, ◌<◌, List, [], ◌∷◌, ◌++◌, length, refl, sym, ap, subst, ◌∙◌, arith, Some, inl, inr}
use Rattle.std.specs.Prelude.{slice_get, slice_index}
use Rattle.std.proofs.lemmas.Bool.{cases_lt}
use Rattle.std.proofs.lemmas.Option.{same_Some}
use Rattle.rational.proofs.Lists.{slice_get-append_front, slice_get-append_here}
use Rattle.stl_syntax.specs.Formula.{subformula, horizon}
use Rattle.stl_syntax.specs.Horizons.{AreHorizonsBelow}
use Rattle.stl_syntax.specs.declared.node.Node.{Node}
use Rattle.online_robust.specs.Firsts.{AreFirstStations, IsFirstWork}
use Rattle.online_robust.specs.declared.station.Station.{Station}

got_beyond : {X : Type 0} (xs : List X) (x y : X) (k : ℕ) → length xs < k → slice_get (xs ++ x ∷ []) k ≡ Some y → ⊥
got_beyond [] x y zero h e = omega (arith, h)
got_beyond [] x y (suc k) h e = let f = e in cc
got_beyond (z ∷ xs) x y zero h e = omega (arith, h)
got_beyond (z ∷ xs) x y (suc k) h e = got_beyond xs x y k (omega (arith, h)) e

length_more : {X : Type 0} (xs : List X) (x : X) → length (xs ++ x ∷ []) ≡ length xs + 1
length_more [] x = refl
length_more (y ∷ xs) x = let h = length_more xs x in omega (arith, h)

-- one more node before any row
pub firsts_more : (nodes : List Node) (i : ℕ) (stations : List Station) (st : Station) (node : Node)
    → AreFirstStations nodes i stations → slice_get nodes i ≡ Some node
    → st.ahead ≡ horizon (subformula nodes i) → IsFirstWork node st.work → AreFirstStations nodes (i + 1) (stations ++ st ∷ [])
firsts_more nodes i stations st node are found ahead work = record {
  count = let c = are.count in length_more stations st ∙ ap (λ n. n + 1) c;
  first = λ k n x at here. by_place k n x at here;
}
  where
    by_place : (k : ℕ) (n : Node) (x : Station) → slice_get nodes k ≡ Some n → slice_get (stations ++ st ∷ []) k ≡ Some x
        → (x.ahead ≡ horizon (subformula nodes k)) × IsFirstWork n x.work
    by_place k n x at here = elim (cases_lt k i) [
      | inl low ↦ are.first k n x at (sym (slice_get-append_front stations (st ∷ []) k (let c = are.count in omega (arith, low, c))) ∙ here)
      | inr high ↦ elim (cases_lt i k) [
        | inl above ↦ absurd (got_beyond stations st x k (let c = are.count in omega (arith, above, c)) here)
        | inr same ↦
            let is : k ≡ length stations = let c = are.count in omega (arith, high, same, c) in
            let own : k ≡ i = is ∙ are.count in
            let this : st ≡ x = same_Some st x (sym (slice_get-append_here stations st []) ∙ sym (ap (slice_get (stations ++ st ∷ [])) is) ∙ here) in
            let that : node ≡ n = same_Some _ _ (sym found ∙ sym (ap (slice_get nodes) own) ∙ at) in
            subst (λ y. (y.ahead ≡ horizon (subformula nodes k)) × IsFirstWork n y.work) this
            (ahead ∙ ap (λ j. horizon (subformula nodes j)) (sym own), subst (λ m. IsFirstWork m st.work) that work)
      ]
    ]

index_last : (xs : List ℕ) (x : ℕ) → slice_index (xs ++ x ∷ []) (length xs) ≡ x
index_last [] x = refl
index_last (z ∷ xs) x = index_last xs x

index_front : (xs : List ℕ) (x k : ℕ) → k < length xs → slice_index (xs ++ x ∷ []) k ≡ slice_index xs k
index_front [] x k h = absurd (omega (arith, h))
index_front (z ∷ xs) x zero h = refl
index_front (z ∷ xs) x (suc k) h = index_front xs x k (omega (arith, h))

-- the list of horizons goes on with the next node's
pub horizons_more : (nodes : List Node) (i : ℕ) (hs : List ℕ) (h : ℕ) → length hs ≡ i → AreHorizonsBelow i nodes hs → h ≡ horizon (subformula nodes i)
    → (length (hs ++ h ∷ []) ≡ i + 1) × AreHorizonsBelow (i + 1) nodes (hs ++ h ∷ [])
horizons_more nodes i hs h count are is = (
  length_more hs h ∙ ap (λ n. n + 1) count,
  λ k low. elim (cases_lt k i) [
    | inl below ↦ index_front hs h k (omega (arith, below, count)) ∙ are k below
    | inr high ↦
        let own : k ≡ i = omega (arith, low, high) in
        ap (slice_index (hs ++ h ∷ [])) (own ∙ sym count) ∙ index_last hs h ∙ is ∙ ap (λ j. horizon (subformula nodes j)) (sym own)
  ],
)
