-- What is lost where a cell is given up, and runs that are put to others.
use Rattle.std.proofs.Common.{◌≡◌, ℕ, zero, suc, ◌+◌, ◌<◌, ◌⊎◌, inl, inr, Bool, true, false, List, [], ◌∷◌, ◌++◌, take, drop}
use Rattle.std.proofs.Common.{set, length, Some, sym, ◌∙◌, subst, arith}
use Rattle.std.specs.declared.vec.Vec.{Vec}
use Rattle.std.specs.declared.alloc.Global.{Global}
use Rattle.std.specs.Prelude.{slice_get, slice_index_or, MatchBool}
use Rattle.std.specs.List.{insert, remove}
use Rattle.std.proofs.lemmas.Option.{slice_get_within, same_Some}
use Rattle.rational.specs.Time.{Rational}
use Rattle.rational.specs.Extended.{Extended}
use Rattle.rational.proofs.ExtendedLemmas.{clashᵉ}
use Rattle.value_laws.specs.Kinds.{kleene_shape}
use Rattle.value_laws.specs.declared.kleene.Kleene.{Kleene}
use Rattle.pieces.specs.Chains.{Chain, IsWorth}
use Rattle.stl_syntax.specs.Trace.{Trace}
use Rattle.stl_syntax.specs.Formula.{subformula}
use Rattle.stl_syntax.specs.SupInf.{one, minus_one}
use Rattle.stl_syntax.specs.declared.items.Item.{Item}
use Rattle.stl_syntax.specs.declared.node.Node.{Node}
use Rattle.implicants.specs.Needs.{Certain, IsAmongPlaces, IsOff, IsOn, AreCertainties, AreToldOfMore}
use Rattle.implicants.specs.Keeping.{CoverMore, remaining}
use Rattle.implicants.specs.Nearby.{IsBest}
use Rattle.implicants.specs.Signs.{sign_at}
use Rattle.implicants.specs.Upward.{AddsShort, AreAmong, AreLost, AreLostEach, AreLostFrom, AreShortEach, HasBest}
use Rattle.implicants.specs.Upward.{PutsRun, Settles, SettlesRun}
use Rattle.implicants.specs.declared.runs.Run.{Run}
use Rattle.implicants.proofs.MarkedCover.{IsOver, from_remaining, to_covered}
use Rattle.implicants.proofs.Uncertain.{on_not_false, off_not_true}
use Rattle.implicants.proofs.MarkedAreKept.{marked_set, stays_one}
use Rattle.implicants.proofs.AddedRuns.{no_run, pushed_at}
use Rattle.implicants.proofs.Wholes.{set_there}

-- an element of a list without one stands in the list
pub among_removed : {A : Type 0} (xs : List A) (i j : ℕ) (x : A) → slice_get (take i xs ++ drop (suc i) xs) j ≡ Some x
    → (k : ℕ) × (slice_get xs k ≡ Some x)
among_removed [] zero j x h = absurd (no_run j x h)
among_removed [] (suc i) j x h = absurd (no_run j x h)
among_removed (z ∷ zs) zero j x h = (suc j, h)
among_removed (z ∷ zs) (suc i) zero x h = (zero, h)
among_removed (z ∷ zs) (suc i) (suc j) x h = let r = among_removed zs i j x h in (suc r.0, r.1)

-- an element of a list with one more stands in the list, or is that one
pub among_inserted : {A : Type 0} (xs : List A) (i j : ℕ) (y x : A) → slice_get (take i xs ++ y ∷ drop i xs) j ≡ Some x
    → ((k : ℕ) × (slice_get xs k ≡ Some x)) ⊎ (x ≡ y)
among_inserted xs zero zero y x h = inr (sym (same_Some _ _ h))
among_inserted xs zero (suc j) y x h = inl (j, h)
among_inserted [] (suc i) zero y x h = inr (sym (same_Some _ _ h))
among_inserted [] (suc i) (suc j) y x h = absurd (no_run j x h)
among_inserted (z ∷ zs) (suc i) zero y x h = inl (zero, h)
among_inserted (z ∷ zs) (suc i) (suc j) y x h = elim (among_inserted zs i j y x h) [ inl r ↦ inl (suc r.0, r.1) | inr e ↦ inr e ]

-- runs among those that are among others
pub among_both : (a b c : List Run) → AreAmong a b → AreAmong b c → AreAmong a c
among_both a b c f g j r h = let x = f j r h in g x.0 r x.1

-- without the run at a place they are among those
pub among_without : (i : ℕ) (xs : List Run) → AreAmong (remove xs i) xs
among_without i xs j r h = among_removed xs i j r h

-- runs that are put, and then some are taken out
pub puts_fewer : (run : Run) (old mid new : List Run) → PutsRun run old mid → AreAmong new mid → PutsRun run old new
puts_fewer run old mid new puts among j r h = let x = among j r h in puts x.0 r x.1

-- a run put in the place of another
pub puts_set : (run : Run) (k : ℕ) (old : List Run) → PutsRun run old (set old k run)
puts_set run k old j r h = elim (set_there old k run j r h) [ inl e ↦ inr e.0 | inr there ↦ inl (j, there) ]

-- or between others
pub puts_inserted : (run : Run) (k : ℕ) (old : List Run) → PutsRun run old (insert old k run)
puts_inserted run k old j r h = among_inserted old k j run r h

-- a run put to one list of several
pub settles_one : (run : Run) (each : List (Vec Run Global)) (k : ℕ) (old new : Vec Run Global) → slice_get each k ≡ Some old
    → PutsRun run old.items new.items → SettlesRun run each (set each k new)
settles_one run each k old new at puts r (i, v, there, (j, here)) = elim (set_there each k new i v there) [
  | inl e ↦ elim (puts j r (subst (λ w. slice_get w.items j ≡ Some r) e.0 here)) [ inl x ↦ inl (k, old, at, x) | inr s ↦ inr s ]
  | inr h ↦ inl (i, v, h, (j, here))
]

-- one after the other
pub settles_more : (gained : List Run) (j : ℕ) (run : Run) (old mid new : List (Vec Run Global)) → slice_get gained j ≡ Some run
    → Settles gained old mid → SettlesRun run mid new → Settles gained old new
settles_more gained j run old mid new at before next r there = elim (next r there) [
  | inl h ↦ before r h
  | inr e ↦ inr (j, subst (λ s. slice_get gained j ≡ Some s) (sym e) at)
]

-- what lies at some places lies at others
among_wider : {all : List Item} {i : ℕ} {t : Rational} (P Q : ℕ → Type 0) → ((j : ℕ) → P j → Q j) → IsAmongPlaces all P i t → IsAmongPlaces all Q i t
among_wider P Q f p = record { place = p.place; item = p.item; at = p.at; is = f p.place p.is; node = p.node; inside = p.inside }

-- one place and another
places_apart : (c j : ℕ) → (j < c) ⊎ (j ≡ c) ⊎ (c < j)
places_apart c j = grind arith

-- where a chain is less than best it is not the best
short_clash : (x : Chain Kleene) (t : Rational) (best : Bool) → MatchBool best (IsOff kleene_shape x t) (IsOn kleene_shape x t)
    → ((v : Extended) → IsWorth kleene_shape x t v → IsBest best v) → ⊥
short_clash x t true off has = clashᵉ off.v one off.less (has off.v off.worth)
short_clash x t false on has = clashᵉ minus_one on.v on.more (has on.v on.worth)

module _ (nodes : List Node) (tr : Trace) (all : List Item) (marks : List Bool) (c : ℕ) (signs : List Bool) where
  -- what a chain shows of the node is lost that is the best wherever the node is certain
  pub gained_lost : (k : ℕ) (best : Bool) (x : Chain Kleene) (old new : List Run) → best ≡ sign_at signs k → AddsShort kleene_shape k best x old new
      → HasBest kleene_shape nodes tr all marks c signs k x → AreLost nodes tr all marks c signs old → AreLost nodes tr all marks c signs new
  gained_lost k best x old new same adds has before = λ some within j r at t inside certain. elim (adds j r at) [
    | inl h ↦ before some within j r h t inside certain
    | inr h ↦ short_clash x t best (h.1 t inside) (λ v worth. subst (λ b. IsBest b v) (sym same)
        (has some within t v worth (subst (λ i. Certain (sign_at signs i) (subformula nodes i) some tr t) h.0 certain)))
  ]

  -- without the cell at place c no less is lost than with it
  pub lost_without : (each : List (Vec Run Global)) → AreLostFrom nodes tr all marks (c + 1) signs each → AreLostEach nodes tr all marks c signs each
  lost_without each from = λ k v at some within j r there. from some
      (λ i t covered. among_wider (λ j. (j < c) ⊎ ((c < j) × (slice_index_or marks j false ≡ true)))
      (λ j. (j < c + 1) ⊎ (slice_index_or marks j false ≡ true))
      (λ j h. elim h [ inl l ↦ inl (omega (arith, l)) | inr m ↦ inr m.1 ]) (within i t covered)) r (k, v, at, (j, there))

  -- nor with fewer cells
  pub lost_next : (each : List (Vec Run Global)) → AreLostFrom nodes tr all marks (c + 1) signs each → AreLostFrom nodes tr all marks c signs each
  lost_next each from = λ some within. from some
      (λ i t covered. among_wider (λ j. (j < c) ⊎ (slice_index_or marks j false ≡ true)) (λ j. (j < c + 1) ⊎ (slice_index_or marks j false ≡ true))
      (λ j h. elim h [ inl l ↦ inl (omega (arith, l)) | inr m ↦ inr m ]) (within i t covered))

  -- nor where its cell is marked
  pub lost_marked : (each : List (Vec Run Global)) → AreLostFrom nodes tr all marks (c + 1) signs each
      → AreLostFrom nodes tr all (set marks c true) c signs each
  lost_marked each from = λ some within. from some
      (λ i t covered. among_wider (λ j. (j < c) ⊎ (slice_index_or (set marks c true) j false ≡ true))
      (λ j. (j < c + 1) ⊎ (slice_index_or marks j false ≡ true))
      (λ j h. elim h [
        | inl l ↦ inl (omega (arith, l))
        | inr m ↦ elim (marked_set marks c j m) [ inl e ↦ inl (omega (arith, e)) | inr k ↦ inr k ]
      ]) (within i t covered))

  -- where it is given up, what is lost without it is lost from there on
  pub lost_settled : (gained : List Run) (old new : List (Vec Run Global)) → AreLostFrom nodes tr all marks (c + 1) signs old
      → AreLost nodes tr all marks c signs gained → slice_index_or marks c false ≡ false → Settles gained old new
      → AreLostFrom nodes tr all marks c signs new
  lost_settled gained old new from lost none settles = λ some within r there t inside certain. elim (settles r there) [
    | inl h ↦ lost_next old from some within r h t inside certain
    | inr h ↦ lost some
        (λ i u covered. among_wider (λ j. (j < c) ⊎ (slice_index_or marks j false ≡ true))
        (λ j. (j < c) ⊎ ((c < j) × (slice_index_or marks j false ≡ true))) apart (within i u covered)) h.0 r h.1 t inside certain
  ]
    where
      apart : (j : ℕ) → (j < c) ⊎ (slice_index_or marks j false ≡ true) → (j < c) ⊎ ((c < j) × (slice_index_or marks j false ≡ true))
      apart j (inl l) = inl l
      apart j (inr m) = elim (places_apart c j) [
        | inl l ↦ inl l
        | inr h ↦ elim h [
          | inl e ↦ absurd (let f : false ≡ true = sym none ∙ subst (λ k. slice_index_or marks k false ≡ true) e m in cc)
          | inr l ↦ inr (l, m)
        ]
      ]

-- what is lost of all cells is lost of those that stay
pub lost_of_all : (nodes : List Node) (tr : Trace) (all : List Item) (marks : List Bool) (left : ℕ) (signs : List Bool) (each : List (Vec Run Global))
    → AreLostEach nodes tr all marks (length all) signs each → AreLostFrom nodes tr all marks left signs each
lost_of_all nodes tr all marks left signs each lost = λ some within r (k, v, at, (j, there)).
    lost k v at some (λ i t covered. inside (within i t covered)) j r there
  where
    inside : {i : ℕ} {t : Rational} → IsAmongPlaces all (λ j. (j < left) ⊎ (slice_index_or marks j false ≡ true)) i t
        → IsAmongPlaces all (λ j. (j < length all) ⊎ ((length all < j) × (slice_index_or marks j false ≡ true))) i t
    inside p = record {
      place = p.place;
      item = p.item;
      at = p.at;
      is = inl (slice_get_within all p.place p.item p.at);
      node = p.node;
      inside = p.inside;
    }

-- one more list of runs that are lost
pub lost_pushed : (nodes : List Node) (tr : Trace) (all : List Item) (marks : List Bool) (c : ℕ) (signs : List Bool) (each : List (Vec Run Global))
    (v : Vec Run Global) → AreLostEach nodes tr all marks c signs each → AreLost nodes tr all marks c signs v.items
    → AreLostEach nodes tr all marks c signs (each ++ v ∷ [])
lost_pushed nodes tr all marks c signs each v before here k w at = elim (pushed_at each v k w at) [
  | inl h ↦ before k w h
  | inr e ↦ subst (λ u. AreLost nodes tr all marks c signs u.items) (sym e) here
]

-- where nodes are less than best by cells that cover no less than those that stay, they are lost
pub lost_told : (nodes : List Node) (tr : Trace) (all : List Item) (marks : List Bool) (left : ℕ) (signs : List Bool)
    (chains : List (Chain Kleene)) (each : List (Vec Run Global)) → AreToldOfMore kleene_shape nodes tr (remaining left marks all) chains
    → AreShortEach kleene_shape signs chains each → AreLostFrom nodes tr all marks left signs each
lost_told nodes tr all marks left signs chains each told short = λ some within r (k, v, at, (j, there)) t inside certain.
    let x = short k v at j r there in
    let sure = told.told in
    let here : r.of < length nodes = let w = slice_get_within chains r.of x.0 x.1 in let e = sure.count in omega (arith, w, e) in
    let cover : CoverMore some told.more = (λ i u h.
    let w = within i u h in
    told.covered i u (to_covered (remaining left marks all) i u
    (from_remaining (IsOver i u) left marks all w.place w.item w.at (w.node, w.inside) (stays_one left marks w.place w.is)))) in
    by_sign told.more sure some cover r.of x.0 t here x.1 (sign_at signs r.of) (x.2 t inside) certain
  where
    by_sign : (more : List Item) → AreCertainties kleene_shape nodes tr more chains → (some : List Item) → CoverMore some more → (k : ℕ)
        (x : Chain Kleene) (t : Rational) → k < length nodes → slice_get chains k ≡ Some x → (h : Bool)
        → MatchBool h (IsOff kleene_shape x t) (IsOn kleene_shape x t) → Certain h (subformula nodes k) some tr t → ⊥
    by_sign more sure some cover k x t l at true off m = off_not_true nodes tr more chains sure k x t l at off some cover m
    by_sign more sure some cover k x t l at false on m = on_not_false nodes tr more chains sure k x t l at on some cover m
