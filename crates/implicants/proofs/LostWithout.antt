-- What is lost without a cell, of its atom and of nodes above.
use Rattle.std.proofs.Common.{◌≡◌, ℕ, ◌+◌, ◌<◌, ◌≤◌, ◌⊎◌, inl, inr, Bool, true, false, List, [], ◌∷◌, zero}
use Rattle.std.proofs.Common.{suc, length, set, length-set, Some, None, refl, sym, ap, ◌∙◌, subst, arith}
use Rattle.std.proofs.lemmas.Bool.{true≢false}
use Rattle.std.proofs.lemmas.Option.{same_Some}
use Rattle.std.specs.Prelude.{slice_get, slice_index, slice_index_or, MatchBool, IsTrue}
use Rattle.rational.specs.Time.{Rational, Interval, IsIn}
use Rattle.frac128.specs.Spans.{interval}
use Rattle.stl_syntax.specs.Trace.{Trace}
use Rattle.stl_syntax.specs.Formula.{atom, subformula}
use Rattle.stl_syntax.specs.Truth.{Truth, holds_at}
use Rattle.stl_syntax.specs.Kleene.{IsCovered}
use Rattle.stl_syntax.specs.Cells.{cells}
use Rattle.stl_syntax.specs.Kept.{IsSo, ItemsOn}
use Rattle.stl_syntax.specs.declared.atom.Atom.{Atom}
use Rattle.stl_syntax.specs.declared.items.Item.{Item}
use Rattle.stl_syntax.specs.declared.node.Node.{Node}
use Rattle.stl_syntax.specs.declared.node.Node.TheVariants.{Atom as Leaf}
use Rattle.stl_syntax.proofs.FormulaLemmas.{subformula-at}
use Rattle.implicants.specs.Runs.{AreAllCells, begins}
use Rattle.implicants.specs.Certainty.{stays, known_at}
use Rattle.implicants.specs.Needs.{Certain, IsNeeded, IsAmongPlaces, MarksNeeded}
use Rattle.implicants.specs.Signs.{sign_at}
use Rattle.implicants.specs.Upward.{AreGone, AreLost, IsGone, PutsNeeded}
use Rattle.implicants.specs.declared.runs.Run.{Run}
use Rattle.implicants.proofs.Strips.{one_cell}
use Rattle.implicants.proofs.Certain.{in_run}
use Rattle.implicants.proofs.NeededCells.{certain_covered}
use Rattle.implicants.proofs.MarkedAreKept.{set_marked, marked_set, stays_one}

-- what was so from the next place on is so from this one on
next_later : {c k : ℕ} → suc c ≤ k → c ≤ k
next_later h = omega (arith, h)

-- a place behind one that is no earlier than c is not c
not_behind : {c j k : ℕ} → k < j → j ≡ c → c ≤ k → ⊥
not_behind h e l = omega (arith, h, e, l)

-- a place is no earlier than itself
le_refl : {n : ℕ} → n ≤ n
le_refl = omega arith

-- as far from one place as another is, it is the other
same_offset : (from : ℕ) {a b p q : ℕ} → p ≡ from + a → q ≡ from + b → a ≡ b → q ≡ p
same_offset from f g e = omega (arith, f, g, e)

-- a place before the tried one, or a marked one behind it, stays
still_there : (marks : List Bool) (c j : ℕ) → (j < c) ⊎ ((c < j) × (slice_index_or marks j false ≡ true)) → stays c marks j ≡ true
still_there marks c j h = stays_one c marks j (elim h [ inl l ↦ inl l | inr l ↦ inr l.1 ])

-- no list has an item where it is empty
none_there : {e : Item} (k : ℕ) → slice_get [] k ≡ Some e → ⊥
none_there {e} zero s = let f : None ≡ Some e = s in cc
none_there {e} (suc k) s = let f : None ≡ Some e = s in cc

-- each cell of a run is so
so_of : (nodes : List Node) (tr : Trace) (i : ℕ) (spans : List Interval) (here : List Item) (k : ℕ) (e : Item) → ItemsOn nodes tr i spans here
    → slice_get here k ≡ Some e → IsSo nodes tr e
so_of nodes tr i [] [] k e h at = absurd (none_there k at)
so_of nodes tr i [] (f ∷ here) k e h at = absurd h
so_of nodes tr i (on ∷ spans) [] k e h at = absurd h
so_of nodes tr i (on ∷ spans) (f ∷ here) zero e h at = subst (IsSo nodes tr) (same_Some f e at) h.3
so_of nodes tr i (on ∷ spans) (f ∷ here) (suc k) e h at = so_of nodes tr i spans here k e h.4 at

module _ (nodes : List Node) (tr : Trace) (all : List Item) (ends : List ℕ) (is : AreAllCells nodes tr all ends) (marks : List Bool) (c : ℕ)
    (some : List Item)
    (within : (i : ℕ) (t : Rational) → IsCovered some i t
    → IsAmongPlaces all (λ j. (j < c) ⊎ ((c < j) × (slice_index_or marks j false ≡ true))) i t) where
  -- what is certain of an atom is what the cell says that has the time
  certain_says : (h : Bool) (i : ℕ) (a : Atom) (e : Item) (t : Rational) → subformula nodes i ≡ atom i a → e.node ≡ i → IsSo nodes tr e
      → IsIn (interval e.on) t → Certain h (atom i a) some tr t → e.holds ≡ h
  certain_says h i a e t tree node so inside certain =
      by_truth h e.holds (subst (λ q. MatchBool e.holds (Truth q tr t) (¬ Truth q tr t)) (ap (subformula nodes) node ∙ tree) (so t inside)) certain
    where
      by_truth : (h b : Bool) → MatchBool b (IsTrue (holds_at a tr t)) (¬ IsTrue (holds_at a tr t)) → Certain h (atom i a) some tr t → b ≡ h
      by_truth true true m d = refl
      by_truth true false m d = absurd (m d.0)
      by_truth false true m d = absurd (true≢false (sym m ∙ d.0))
      by_truth false false m d = refl

  -- and no cell that is gone has a time at which it is
  gone_clash : (h : Bool) (i : ℕ) (a : Atom) (p : ℕ) (e : Item) (t : Rational) → slice_get nodes i ≡ Some (Leaf a) → slice_get all p ≡ Some e
      → e.node ≡ i → IsIn (interval e.on) t → IsGone all marks h c p → Certain h (atom i a) some tr t → ⊥
  gone_clash h i a p e t leaf at node inside gone certain =
      let tree = subformula-at nodes i (Leaf a) leaf tt in
      let other = within i t (certain_covered nodes tr all ends is h i a some t certain) in
      let run = is.runs i a leaf in
      let here = in_run nodes tr all c marks i (begins ends i) (slice_index ends i) run p e t at (node, inside) in
      let there = in_run nodes tr all c marks i (begins ends i) (slice_index ends i) run other.place other.item t other.at (other.node, other.inside) in
      let one : here.0 ≡ there.0 =
      one_cell nodes tr i run.times run.here here.0 there.0 run.cuts.rising run.cells here.2 there.2 inside other.inside in
      let place : other.place ≡ p = same_offset (begins ends i) here.1 there.1 one in
      let so = so_of nodes tr i (cells run.times) run.here here.0 e run.cells here.2 in
      let says = certain_says h i a e t tree node so inside certain in
      let stay : stays c marks p ≡ true = still_there marks c p (subst (λ k. (k < c) ⊎ ((c < k) × (slice_index_or marks k false ≡ true))) place other.is) in
      gone e at (subst (λ b. known_at b e ≡ Some h) (sym stay) (ap (λ b. Some b) says))

module _ (nodes : List Node) (tr : Trace) (all : List Item) (ends : List ℕ) (is : AreAllCells nodes tr all ends) (marks : List Bool) (c : ℕ)
    (signs : List Bool) where
  -- the cells that are gone are lost
  pub gone_lost : (i : ℕ) (a : Atom) (best : Bool) (runs : List Run) → slice_get nodes i ≡ Some (Leaf a) → best ≡ sign_at signs i
      → AreGone all marks i best c runs → AreLost nodes tr all marks c signs runs
  gone_lost i a best runs leaf same gone = λ some within j r at t inside certain.
      let (of, p, e, there, node, on, is_gone) = gone j r at in
      let here = subst (λ k. Certain (sign_at signs k) (subformula nodes k) some tr t) of certain in
      let tree = subst (λ f. Certain (sign_at signs i) f some tr t) (subformula-at nodes i (Leaf a) leaf tt) here in
      gone_clash nodes tr all ends is marks c some within (sign_at signs i) i a p e t leaf there node (subst (λ s. IsIn (interval s) t) on inside)
      (subst (λ b. IsGone all marks b c p) same is_gone) tree

-- marks that were put where cells are needed, at places from c on
pub record PutsFrom (nodes : List Node) (tr : Trace) (all : List Item) (left c : ℕ) (old new : List Bool) : Type 0 where
  -- what was marked stays marked
  pub stay : (k : ℕ) → slice_index_or old k false ≡ true → slice_index_or new k false ≡ true
  -- and what is marked now was, or is needed
  pub only : (k : ℕ) → slice_index_or new k false ≡ true
      → (slice_index_or old k false ≡ true) ⊎ ((c ≤ k) × (k < left) × IsNeeded nodes tr all new k)

module _ (nodes : List Node) (tr : Trace) (all : List Item) where
  -- no marks were put yet
  pub puts_from_none : (left : ℕ) (marks : List Bool) → PutsFrom nodes tr all left left marks marks
  puts_from_none left marks = record { stay = λ k h. h; only = λ k h. inl h }

  -- a mark before it, or at it, makes no cell that is needed one that is not
  needed_still : (marks : List Bool) (c k : ℕ) → c ≤ k → IsNeeded nodes tr all marks k → IsNeeded nodes tr all (set marks c true) k
  needed_still marks c k l needed some within = needed some (λ i t h. among (within i t h))
    where
      among : {i : ℕ} {t : Rational} → IsAmongPlaces all (λ j. (j < k) ⊎ ((k < j) × (slice_index_or (set marks c true) j false ≡ true))) i t
          → IsAmongPlaces all (λ j. (j < k) ⊎ ((k < j) × (slice_index_or marks j false ≡ true))) i t
      among p = record {
        place = p.place;
        item = p.item;
        at = p.at;
        is = elim p.is [
          | inl h ↦ inl h
          | inr h ↦ inr (h.0, elim (marked_set marks c p.place h.1) [ inl e ↦ absurd (not_behind h.0 e l) | inr m ↦ m ])
        ];
        node = p.node;
        inside = p.inside;
      }

  -- no mark is added to the list
  pub puts_count : (c : ℕ) (marks new : List Bool) → PutsNeeded nodes tr all c marks new → length new ≡ length marks
  puts_count c marks new (inl same) = ap length same
  puts_count c marks new (inr (same, needed)) = ap length same ∙ length-set marks c true

  -- one more, at the place before
  pub puts_from_more : (left c : ℕ) (old marks new : List Bool) → c < left → PutsFrom nodes tr all left (suc c) old marks
      → PutsNeeded nodes tr all c marks new → PutsFrom nodes tr all left c old new
  puts_from_more left c old marks new l before (inl same) = subst (PutsFrom nodes tr all left c old) (sym same) (record {
    stay = before.stay;
    only = λ k h. elim (before.only k h) [ inl m ↦ inl m | inr m ↦ inr (next_later m.0, m.1, m.2) ];
  })
  puts_from_more left c old marks new l before (inr (same, needed)) = subst (PutsFrom nodes tr all left c old) (sym same) (record {
    stay = λ k h. set_marked marks c k (before.stay k h);
    only = λ k h. elim (marked_set marks c k h) [
      | inl e ↦ inr (
        subst (λ j. c ≤ j) (sym e) le_refl,
        subst (λ j. j < left) (sym e) l,
        subst (IsNeeded nodes tr all (set marks c true)) (sym e) (needed_still marks c c le_refl needed),
      )
      | inr m ↦ elim (before.only k m) [
        | inl o ↦ inl o
        | inr n ↦ inr (next_later n.0, n.1, needed_still marks c k (next_later n.0) n.2)
      ]
    ];
  })

  -- all of them
  pub puts_from_all : (left c : ℕ) (old new : List Bool) → PutsFrom nodes tr all left c old new → MarksNeeded nodes tr all left old new
  puts_from_all left c old new puts = record {
    stay = puts.stay;
    only = λ k h. elim (puts.only k h) [ inl m ↦ inl m | inr m ↦ inr (m.1, m.2) ];
  }
