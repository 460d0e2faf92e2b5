-- The cells of all atoms, gathered node by node.
use Rattle.std.proofs.Common.{◌≡◌, ℕ, zero, suc, ◌+◌, ◌<◌, ◌≤◌, ◌⊎◌, inl, inr, List, [], ◌∷◌, ◌++◌, length, length-append}
use Rattle.std.proofs.Common.{take, Some, None, refl, sym, ap, subst, ◌∙◌, arith, get_or, append_assoc}
use Rattle.std.specs.Prelude.{slice_get, slice_index}
use Rattle.std.proofs.lemmas.Option.{same_Some, slice_get_within, slice_get_cases, get_or_from_slice_get}
use Rattle.std.proofs.lemmas.List.{take_more, take_all, append-nil, get_or_push, get_or_append_left, length-take-le}
use Rattle.rational.specs.Time.{Rational, Interval}
use Rattle.stl_syntax.specs.Trace.{Trace}
use Rattle.stl_syntax.specs.Kleene.{IsCovered}
use Rattle.stl_syntax.specs.Cells.{cells}
use Rattle.stl_syntax.specs.Kept.{AllCells, ItemsOn}
use Rattle.stl_syntax.specs.declared.atom.Atom.{Atom}
use Rattle.stl_syntax.specs.declared.items.Item.{Item}
use Rattle.stl_syntax.specs.declared.node.Node.{Node}
use Rattle.stl_syntax.specs.declared.node.Node.TheVariants.{Atom as Leaf}
use Rattle.implicants.specs.Runs.{IsRun, begins, AreAllCells, AreCellsBelow, AddsNode}
use Rattle.implicants.proofs.MoreItems.{covered_in}

module _ (nodes : List Node) (tr : Trace) where
  -- the items of a node cover no other
  items_node : (i j : ℕ) (spans : List Interval) (here : List Item) (t : Rational) → ItemsOn nodes tr i spans here → IsCovered here j t → j ≡ i
  items_node i j [] [] t h c = absurd c
  items_node i j [] (e ∷ here) t h c = absurd h
  items_node i j (on ∷ spans) [] t h c = absurd c
  items_node i j (on ∷ spans) (e ∷ here) t h (inl c) = sym c.0 ∙ h.0
  items_node i j (on ∷ spans) (e ∷ here) t h (inr c) = items_node i j spans here t h.4 c

  none_new : (new : List Item) (i j : ℕ) (t : Rational) → new ≡ [] → IsCovered new i t → i ≡ j
  none_new new i j t e c = absurd (subst (λ xs. IsCovered xs i t) e c)

  new_node : (j : ℕ) (n : Node) (new : List Item) (i : ℕ) (t : Rational) → AllCells nodes tr j (n ∷ []) new → IsCovered new i t → i ≡ j
  new_node j (Leaf a) new i t (times, here, later, cuts, on, e, rest) c =
      by_part (covered_in here later i t (subst (λ xs. IsCovered xs i t) e c))
    where
      by_part : IsCovered here i t ⊎ IsCovered later i t → i ≡ j
      by_part (inl h) = items_node j i (cells times) here t on h
      by_part (inr h) = none_new later i j t rest h
  new_node j _ new i t h c = none_new new i j t h c

  at_next : (j : ℕ) (ns : List Node) (n : Node) (new : List Item) → AllCells nodes tr (j + suc (length ns)) (n ∷ []) new
      → AllCells nodes tr (suc j + length ns) (n ∷ []) new
  at_next j ns n new k = subst (λ m. AllCells nodes tr m (n ∷ []) new) (let e : j + suc (length ns) ≡ suc j + length ns = omega arith in e) k

  -- one node more at the end
  all_on : (j : ℕ) (ns : List Node) (n : Node) (items new : List Item) → AllCells nodes tr j ns items
      → AllCells nodes tr (j + length ns) (n ∷ []) new → AllCells nodes tr j (ns ++ n ∷ []) (items ++ new)
  all_on j [] n items new h k = subst (AllCells nodes tr j (n ∷ [])) (sym (ap (λ xs. xs ++ new) h))
      (subst (λ m. AllCells nodes tr m (n ∷ []) new) (let e : j + 0 ≡ j = omega arith in e) k)
  all_on j (Leaf a ∷ ns) n items new (times, here, later, cuts, on, e, rest) k =
      (times, here, later ++ new, cuts, on, (ap (λ xs. xs ++ new) e ∙ append_assoc here later new), all_on (suc j) ns n later new rest (at_next j ns n new k))
  all_on j (_ ∷ ns) n items new h k = all_on (suc j) ns n items new h (at_next j ns n new k)

  -- where the cells of a node begin does not change by ends that come behind
  begins_stay : (ends : List ℕ) (m i : ℕ) → i ≤ length ends → begins (ends ++ m ∷ []) i ≡ begins ends i
  begins_stay ends m zero l = refl
  begins_stay ends m (suc i) l = get_or_append_left ends (m ∷ []) 0 i (omega (arith, l))

  -- an atom adds the cells of its run
  pub below_more : (here : ℕ) (items new : List Item) (ends : List ℕ) (n : Node) → slice_get nodes here ≡ Some n
      → AllCells nodes tr here (n ∷ []) new → AreCellsBelow nodes tr here items ends
      → AreCellsBelow nodes tr (here + 1) (items ++ new) (ends ++ length (items ++ new) ∷ [])
  below_more here items new ends n at made before = record {
    cells = subst (λ ns. AllCells nodes tr 0 ns (items ++ new)) (sym nodes_more)
        (all_on 0 (take here nodes) n items new before.cells (subst (λ m. AllCells nodes tr m (n ∷ []) new) (sym taken) made));
    count = let e = length-append ends (length (items ++ new) ∷ []) in let f = before.count in omega (arith, e, f);
    last = subst (λ m. begins grown m ≡ length (items ++ new)) (let e : suc here ≡ here + 1 = omega arith in e) last_is;
    runs = λ i a l is. run_at i a is (earlier_or_here i l);
    below = λ i t c. by_part i t (covered_in items new i t c);
  }
    where
      grown : List ℕ
      grown = ends ++ length (items ++ new) ∷ []

      inside : here < length nodes
      inside = slice_get_within nodes here n at

      nodes_more : take (here + 1) nodes ≡ take here nodes ++ n ∷ []
      nodes_more = take_more nodes here n inside ∙ ap (λ m. take here nodes ++ m ∷ []) (get_or_from_slice_get nodes here n n at)

      taken : 0 + length (take here nodes) ≡ here
      taken = let e = length-take-le here nodes (omega (arith, inside)) in omega (arith, e)

      last_is : slice_index grown here ≡ length (items ++ new)
      last_is = get_or_push ends (length (items ++ new)) 0 here before.count

      earlier_or_here : (i : ℕ) → i < here + 1 → (i < here) ⊎ (i ≡ here)
      earlier_or_here i l = grind arith

      run_here : (a : Atom) → n ≡ Leaf a → AllCells nodes tr here (n ∷ []) new → IsRun nodes tr (items ++ new) here (begins grown here) (slice_index grown here)
      run_here a is h = by_leaf (subst (λ m. AllCells nodes tr here (m ∷ []) new) is h)
        where
          by_leaf : AllCells nodes tr here (Leaf a ∷ []) new → IsRun nodes tr (items ++ new) here (begins grown here) (slice_index grown here)
          by_leaf (times, mine, later, cuts, on, e, rest) = record {
            times = times;
            front = items;
            here = mine;
            back = [];
            cuts = cuts;
            cells = on;
            all = ap (λ xs. items ++ xs) (e ∙ ap (λ xs. mine ++ xs) rest);
            begin = sym (begins_stay ends (length (items ++ new)) here (let c = before.count in omega (arith, c)) ∙ before.last);
            end =
                let begin = begins_stay ends (length (items ++ new)) here (let c = before.count in omega (arith, c)) ∙ before.last in
                let many = length-append items new in
                let own : length new ≡ length mine = ap length (e ∙ ap (λ xs. mine ++ xs) rest ∙ append-nil mine) in
                let last = last_is in
                omega (arith, begin, many, own, last);
            none_before = λ t c. let l = before.below here t c in omega (arith, l);
            none_behind = λ t c. c;
          }

      run_at : (i : ℕ) (a : Atom) → slice_get nodes i ≡ Some (Leaf a) → (i < here) ⊎ (i ≡ here)
          → IsRun nodes tr (items ++ new) i (begins grown i) (slice_index grown i)
      run_at i a is (inl l) =
          let r = before.runs i a l is in
          let count = before.count in
          subst (λ from. IsRun nodes tr (items ++ new) i from (slice_index grown i))
          (sym (begins_stay ends (length (items ++ new)) i (omega (arith, l, count))))
          (subst (IsRun nodes tr (items ++ new) i (begins ends i))
          (sym (get_or_append_left ends (length (items ++ new) ∷ []) 0 i (omega (arith, l, count)))) (record {
            times = r.times;
            front = r.front;
            here = r.here;
            back = r.back ++ new;
            cuts = r.cuts;
            cells = r.cells;
            all = ap (λ xs. xs ++ new) r.all ∙ append_assoc r.front (r.here ++ r.back) new ∙ ap (λ xs. r.front ++ xs) (append_assoc r.here r.back new);
            begin = r.begin;
            end = r.end;
            none_before = r.none_before;
            none_behind = λ t c. behind t (covered_in r.back new i t c);
          }))
        where
          behind : (t : Rational) → IsCovered (before.runs i a l is).back i t ⊎ IsCovered new i t → ⊥
          behind t (inl c) = (before.runs i a l is).none_behind t c
          behind t (inr c) = let e = new_node here n new i t made c in omega (arith, e, l)
      run_at i a is (inr e) =
          let leaf : n ≡ Leaf a = same_Some n (Leaf a) (sym at ∙ subst (λ j. slice_get nodes j ≡ Some (Leaf a)) e is) in
          subst (λ j. IsRun nodes tr (items ++ new) j (begins grown j) (slice_index grown j)) (sym e) (run_here a leaf made)

      by_part : (i : ℕ) (t : Rational) → IsCovered items i t ⊎ IsCovered new i t → i < here + 1
      by_part i t (inl c) = let l = before.below i t c in omega (arith, l)
      by_part i t (inr c) = let e = new_node here n new i t made c in omega (arith, e)

  -- each node adds its cells, and the place at which they end
  pub below_step : (here : ℕ) (items new : List Item) (ends more : List ℕ) → here < length nodes → AddsNode nodes tr here items new
      → more ≡ ends ++ length new ∷ []
      → AreCellsBelow nodes tr here items ends → AreCellsBelow nodes tr (here + 1) new more
  below_step here items new ends more l adds grew before = by_node (slice_get_cases nodes here).1
    where
      by_node : ((n : Node) × (here < length nodes) × (slice_get nodes here ≡ Some n) × (get_or nodes here n ≡ n)) ⊎
          ((length nodes ≤ here) × (slice_get nodes here ≡ None))
          → AreCellsBelow nodes tr (here + 1) new more
      by_node (inr (past, none)) = absurd (omega (arith, l, past))
      by_node (inl (n, inside, at, e)) =
          let put = adds n at in
          subst (λ ms. AreCellsBelow nodes tr (here + 1) new ms) (sym grew)
          (subst (λ is. AreCellsBelow nodes tr (here + 1) is (ends ++ length is ∷ [])) (sym put.1) (below_more here items put.0 ends n at put.2 before))

  -- after the last node all cells stand
  pub below_all : (here : ℕ) (items : List Item) (ends : List ℕ) → here ≡ length nodes → AreCellsBelow nodes tr here items ends
      → AreAllCells nodes tr items ends
  below_all here items ends e all = record {
    cells = subst (λ ns. AllCells nodes tr 0 ns items) (take_all here nodes (omega (arith, e))) all.cells;
    count = all.count ∙ e;
    runs = λ i a at. all.runs i a (let l = slice_get_within nodes i (Leaf a) at in omega (arith, l, e)) at;
  }
