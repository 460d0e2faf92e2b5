-- The sets of the nodes that are still to be read, from node to node.
use Rattle.std.proofs.Common.{◌≡◌, ◌≢◌, ℕ, suc, ◌+◌, ◌-◌, ◌<◌, ◌≤◌, ◌⊎◌, inl, inr, Bool, true, false, ◌||◌}
use Rattle.std.proofs.Common.{Option, None, Some, List, [], ◌∷◌, ◌++◌, length, take, refl, sym, ap, ◌∙◌, subst, arith}
use Rattle.std.specs.Prelude.{slice_get, All, IfSome, option_to_list, ◌==◌}
use Rattle.std.specs.List.{list_any}
use Rattle.std.proofs.Math.ListN.{set}
use Rattle.std.proofs.lemmas.Bool.{eq-eqb, cases_lt}
use Rattle.std.proofs.lemmas.List.{length-set, length-take, take_more, take_all}
use Rattle.std.proofs.lemmas.List.Elements.{All-head, All-tail}
use Rattle.std.proofs.lemmas.List.Folds.{list_any-append}
use Rattle.std.proofs.lemmas.Option.{slice_get_within, get_or_from_slice_get, same_Some}
use Rattle.rational.proofs.Lists.{slice_get_there, slice_get-append_here, slice_get-set_same, slice_get-set_other}
use Rattle.stl_syntax.specs.Trace.{Trace}
use Rattle.stl_syntax.specs.Formula.{subformula, root}
use Rattle.stl_syntax.specs.WellFormed.{HasOneRoot}
use Rattle.stl_syntax.specs.PostOrder.{children, has_child, is_used, IsPostOrder}
use Rattle.stl_syntax.specs.declared.node.Node.{Node}
use Rattle.stl_syntax.specs.Views.{first_of, second_of, view_of}
use Rattle.stl_syntax.proofs.ViewLaw.{children_by}
use Rattle.stl_syntax.proofs.PostOrderLemmas.{children_free, children_below, inputs_apart, unused_free}
use Rattle.time_sets.specs.Windows.{IsOf}
use Rattle.time_sets.specs.declared.domain.Domain.{Domain}
use Rattle.time_sets.specs.declared.times.Times.{Times}
use Rattle.truth_sets.specs.Telling.{TellsTruth}
use Rattle.truth_sets.specs.Nodes.{AreReady, IsLeaf}
use Rattle.truth_sets.specs.declared.atom.NodeSet.{NodeSet}

-- the children, where there is a first one, or a second
first_kid : (n : Node) (p : ℕ) → first_of (view_of n) ≡ Some p → children n ≡ p ∷ option_to_list (second_of (view_of n))
first_kid n p e = sym (children_by n) ∙ ap (λ o. option_to_list o ++ option_to_list (second_of (view_of n))) e

second_kid : (n : Node) (p : ℕ) → second_of (view_of n) ≡ Some p → children n ≡ option_to_list (first_of (view_of n)) ++ p ∷ []
second_kid n p e = sym (children_by n) ∙ ap (λ o. option_to_list (first_of (view_of n)) ++ option_to_list o) e

-- what holds of the children holds of the first and of the second
pub of_first : (P : ℕ → Type 0) (n : Node) (p : ℕ) → All P (children n) → first_of (view_of n) ≡ Some p → P p
of_first P n p h e = All-head P p (option_to_list (second_of (view_of n))) (subst (All P) (first_kid n p e) h)

last_is : (P : ℕ → Type 0) (o : Option ℕ) (p : ℕ) → All P (option_to_list o ++ p ∷ []) → P p
last_is P None p h = All-head P p [] h
last_is P (Some q) p h = All-head P p [] (All-tail P q (p ∷ []) h)

-- and of the second
pub of_second : (P : ℕ → Type 0) (n : Node) (p : ℕ) → All P (children n) → second_of (view_of n) ≡ Some p → P p
of_second P n p h e = last_is P (first_of (view_of n)) p (subst (All P) (second_kid n p e) h)

two_children : (n : Node) (p s : ℕ) → first_of (view_of n) ≡ Some p → second_of (view_of n) ≡ Some s → children n ≡ p ∷ s ∷ []
two_children n p s e f = first_kid n p e ∙ ap (λ o. p ∷ option_to_list o) f

first_false : (a b : Bool) → (a || b) ≡ false → a ≡ false
first_false true b e = e
first_false false b e = refl

second_false : (a b : Bool) → (a || b) ≡ false → b ≡ false
second_false true b e = absurd (let x : true ≡ false = e in cc)
second_false false b e = e

-- a place that is no child is neither the first nor the second
not_head : (k : ℕ) (rest : List ℕ) → list_any (λ p. p == k) (k ∷ rest) ≡ false → ⊥
not_head k rest h =
    absurd (let x : (k == k) ≡ false = first_false (k == k) (list_any (λ p. p == k) rest) h in
    let y : (k == k) ≡ true = eq-eqb k k refl in cc)

not_last : (o : Option ℕ) (k : ℕ) → list_any (λ p. p == k) (option_to_list o ++ k ∷ []) ≡ false → ⊥
not_last None k h = not_head k [] h
not_last (Some q) k h = not_head k [] (second_false (q == k) (list_any (λ p. p == k) (k ∷ [])) h)

-- a place that is no child is not the first child
pub not_first : (n : Node) (k : ℕ) → has_child k n ≡ false → first_of (view_of n) ≢ Some k
not_first n k h e =
    not_head k (option_to_list (second_of (view_of n))) (subst (λ l. list_any (λ p. p == k) l ≡ false) (first_kid n k e) h)

-- nor the second
pub not_second : (n : Node) (k : ℕ) → has_child k n ≡ false → second_of (view_of n) ≢ Some k
not_second n k h e = not_last (first_of (view_of n)) k (subst (λ l. list_any (λ p. p == k) l ≡ false) (second_kid n k e) h)

module _ (on : Domain) (tr : Trace) (nodes : List Node) (i : ℕ) (n : Node) (there : slice_get nodes i ≡ Some n) where
  -- who is read once the node has its set
  used_next : (k : ℕ) → is_used (take (i + 1) nodes) k ≡ (is_used (take i nodes) k || (has_child k n || false))
  used_next k =
      ap (λ l. is_used l k)
      (take_more nodes i n (slice_get_within nodes i n there) ∙ ap (λ m. take i nodes ++ m ∷ []) (get_or_from_slice_get nodes i n n there))
      ∙ list_any-append (has_child k) (take i nodes) (n ∷ [])

  unread_before : (k : ℕ) → is_used (take (i + 1) nodes) k ≡ false → is_used (take i nodes) k ≡ false
  unread_before k e = first_false (is_used (take i nodes) k) (has_child k n || false) (sym (used_next k) ∙ e)

  no_child : (k : ℕ) → is_used (take (i + 1) nodes) k ≡ false → has_child k n ≡ false
  no_child k e = first_false (has_child k n) false (second_false (is_used (take i nodes) k) (has_child k n || false) (sym (used_next k) ∙ e))

  is_next : (k : ℕ) → k < i + 1 → (k < i) ⊎ (k ≡ i)
  is_next k h = elim (cases_lt k i) [ inl l ↦ inl l | inr l ↦ inr (omega (arith, h, l)) ]

  -- an atom has its set already
  pub ready_atom : (sets : List NodeSet) → IsLeaf n → AreReady on tr nodes i sets → AreReady on tr nodes (i + 1) sets
  ready_atom sets leaf r = record {
    count = r.count;
    tell = λ k m s at h unread found. r.tell k m s at (before k m at h) (unread_before k unread) found;
  }
    where
      before : (k : ℕ) (m : Node) → slice_get nodes k ≡ Some m → (k < i + 1) ⊎ IsLeaf m → (k < i) ⊎ IsLeaf m
      before k m at (inr l) = inr l
      before k m at (inl l) = elim (is_next k l) [
        | inl o ↦ inl o
        | inr e ↦ inr (subst IsLeaf (same_Some n m (sym there ∙ ap (slice_get nodes) (sym e) ∙ at)) leaf)
      ]

  -- the set of another node is put in its place, and those of its children may be gone
  pub ready_made : (old mid new : List NodeSet) (x : NodeSet) → length mid ≡ length old
      → ((k : ℕ) → has_child k n ≡ false → slice_get mid k ≡ slice_get old k) → new ≡ set mid i x → TellsTruth on tr (subformula nodes i) x.times
      → AreReady on tr nodes i old → AreReady on tr nodes (i + 1) new
  ready_made old mid new x count others is told r = record {
    count = ap length is ∙ length-set mid i x ∙ count ∙ r.count;
    tell = λ k m s at h unread found. by_place k m s at h unread (subst (λ l. slice_get l k ≡ Some s) is found) (near k);
  }
    where
      near : (k : ℕ) → (k ≡ i) ⊎ (k ≢ i)
      near k = elim (cases_lt k i) [
        | inl l ↦ inr (λ e. omega (arith, e, l))
        | inr l ↦ elim (cases_lt i k) [ inl m ↦ inr (λ e. omega (arith, e, m)) | inr m ↦ inl (omega (arith, l, m)) ]
      ]

      before : (k : ℕ) (m : Node) → k ≢ i → (k < i + 1) ⊎ IsLeaf m → (k < i) ⊎ IsLeaf m
      before k m apart (inr l) = inr l
      before k m apart (inl l) = elim (is_next k l) [ inl o ↦ inl o | inr e ↦ absurd (apart e) ]

      inside : i < length mid
      inside = let l = slice_get_within nodes i n there in let c = r.count in omega (arith, l, c, count)

      by_place : (k : ℕ) (m : Node) (s : NodeSet) → slice_get nodes k ≡ Some m → (k < i + 1) ⊎ IsLeaf m → is_used (take (i + 1) nodes) k ≡ false
          → slice_get (set mid i x) k ≡ Some s → (k ≡ i) ⊎ (k ≢ i) → TellsTruth on tr (subformula nodes k) s.times
      by_place k m s at h unread found (inl e) =
          let same : x ≡ s = same_Some x s (sym (slice_get-set_same mid i x inside) ∙ ap (slice_get (set mid i x)) (sym e) ∙ found) in
          subst (λ j. TellsTruth on tr (subformula nodes j) s.times) (sym e) (subst (λ (y : NodeSet). TellsTruth on tr (subformula nodes i) y.times) same told)
      by_place k m s at h unread found (inr apart) =
          r.tell k m s at (before k m apart h) (unread_before k unread)
          (sym (others k (no_child k unread)) ∙ sym (slice_get-set_other mid i k x apart) ∙ found)

  -- a child has its set
  pub child_told : (order : IsPostOrder nodes) (sets : List NodeSet) → AreReady on tr nodes i sets → (p : ℕ) (s : NodeSet)
      → is_used (take i nodes) p ≡ false → p < length (take i nodes) → slice_get sets p ≡ Some s → TellsTruth on tr (subformula nodes p) s.times
  child_told order sets r p s free below found =
      let l : p < i = omega (arith, below, length-take i nodes) in
      let in_nodes : p < length nodes = let k = slice_get_within nodes i n there in omega (arith, l, k) in
      let m = slice_get_there nodes p in_nodes in
      r.tell p m.0 s m.1 (inl l) free found

  -- the first child has its set
  pub first_told : (order : IsPostOrder nodes) (sets : List NodeSet) → AreReady on tr nodes i sets → (p : ℕ) (s : NodeSet) → first_of (view_of n) ≡ Some p
      → slice_get sets p ≡ Some s → TellsTruth on tr (subformula nodes p) s.times
  first_told order sets r p s e found =
      let follow = order.follows i n there in
      child_told order sets r p s (of_first (λ k. is_used (take i nodes) k ≡ false) n p (children_free (take i nodes) n follow) e)
      (of_first (λ k. k < length (take i nodes)) n p (children_below (take i nodes) n follow) e) found

  -- and so has the second
  pub second_told : (order : IsPostOrder nodes) (sets : List NodeSet) → AreReady on tr nodes i sets → (p : ℕ) (s : NodeSet) → second_of (view_of n) ≡ Some p
      → slice_get sets p ≡ Some s → TellsTruth on tr (subformula nodes p) s.times
  second_told order sets r p s e found =
      let follow = order.follows i n there in
      child_told order sets r p s (of_second (λ k. is_used (take i nodes) k ≡ false) n p (children_free (take i nodes) n follow) e)
      (of_second (λ k. k < length (take i nodes)) n p (children_below (take i nodes) n follow) e) found

  -- children stand within the sets
  pub child_within : (order : IsPostOrder nodes) (sets : List NodeSet) → length sets ≡ length nodes → (p : ℕ)
      → (first_of (view_of n) ≡ Some p) ⊎ (second_of (view_of n) ≡ Some p) → p < length sets
  child_within order sets count p h =
      let follow = order.follows i n there in
      let k = slice_get_within nodes i n there in
      let below : p < length (take i nodes) = elim h [
        | inl e ↦ of_first (λ k. k < length (take i nodes)) n p (children_below (take i nodes) n follow) e
        | inr e ↦ of_second (λ k. k < length (take i nodes)) n p (children_below (take i nodes) n follow) e
      ] in
      omega (arith, below, length-take i nodes, k, count)

  -- the first is not the second
  pub children_apart : (order : IsPostOrder nodes) (p q : ℕ) → first_of (view_of n) ≡ Some p → second_of (view_of n) ≡ Some q → p ≢ q
  children_apart order p q e f = inputs_apart nodes i n p q order there (two_children n p q e f)

  -- what is taken out for the first child tells it
  pub first_operand : (order : IsPostOrder nodes) (sets : List NodeSet) → AreReady on tr nodes i sets → (o : Option ℕ) → o ≡ first_of (view_of n) → (p : Times)
      → (o ≡ None → IsOf on p) → ((q : ℕ) (s : NodeSet) → o ≡ Some q → slice_get sets q ≡ Some s → p ≡ s.times)
      → IsOf on p × IfSome (first_of (view_of n)) (λ q. TellsTruth on tr (subformula nodes q) p)
  first_operand order sets r None e p none some = (none refl, subst (λ o. IfSome o (λ q. TellsTruth on tr (subformula nodes q) p)) e tt)
  first_operand order sets r (Some q) e p none some =
      let s = slice_get_there sets q (child_within order sets r.count q (inl (sym e))) in
      let told = subst (TellsTruth on tr (subformula nodes q)) (sym (some q s.0 refl s.1)) (first_told order sets r q s.0 (sym e) s.1) in
      (told.of, subst (λ o. IfSome o (λ q. TellsTruth on tr (subformula nodes q) p)) e told)

  -- and so for the second
  pub second_operand : (order : IsPostOrder nodes) (sets : List NodeSet) → AreReady on tr nodes i sets → (o : Option ℕ) → o ≡ second_of (view_of n) → (p : Times)
      → (o ≡ None → IsOf on p) → ((q : ℕ) (s : NodeSet) → o ≡ Some q → slice_get sets q ≡ Some s → p ≡ s.times)
      → IsOf on p × IfSome (second_of (view_of n)) (λ q. TellsTruth on tr (subformula nodes q) p)
  second_operand order sets r None e p none some = (none refl, subst (λ o. IfSome o (λ q. TellsTruth on tr (subformula nodes q) p)) e tt)
  second_operand order sets r (Some q) e p none some =
      let s = slice_get_there sets q (child_within order sets r.count q (inr (sym e))) in
      let told = subst (TellsTruth on tr (subformula nodes q)) (sym (some q s.0 refl s.1)) (second_told order sets r q s.0 (sym e) s.1) in
      (told.of, subst (λ o. IfSome o (λ q. TellsTruth on tr (subformula nodes q) p)) e told)

-- the set of the last node tells the formula, once all have theirs
pub root_told : (on : Domain) (tr : Trace) (nodes : List Node) (sets rest : List NodeSet) (x : NodeSet) → 0 < length nodes → HasOneRoot nodes
    → sets ≡ rest ++ x ∷ [] → AreReady on tr nodes (length nodes) sets → TellsTruth on tr (root nodes) x.times
root_told on tr nodes sets rest x some one is r =
    let last : length nodes - 1 < length nodes = omega (arith, some) in
    let n = slice_get_there nodes (length nodes - 1) last in
    let free : is_used nodes (length nodes - 1) ≡ false =
    All-head (λ i. is_used nodes i ≡ false) (length nodes - 1) [] (subst (All (λ i. is_used nodes i ≡ false)) one (unused_free nodes)) in
    let count : length rest ≡ length nodes - 1 = omega (arith, ap length is ∙ long rest x, r.count) in
    r.tell (length nodes - 1) n.0 x n.1 (inl last)
    (ap (λ l. is_used l (length nodes - 1)) (take_all (length nodes) nodes (let e : length nodes ≤ length nodes = omega arith in e)) ∙ free)
    (ap (λ l. slice_get l (length nodes - 1)) is ∙ ap (slice_get (rest ++ x ∷ [])) (sym count) ∙ slice_get-append_here rest x [])
  where
    long : {X : Type 0} (xs : List X) (x : X) → length (xs ++ x ∷ []) ≡ suc (length xs)
    long [] x = refl
    long (z ∷ xs) x = ap suc (long xs x)
