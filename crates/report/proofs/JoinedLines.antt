-- How a line grows while items join it, and what stands behind it.
use Rattle.std.proofs.Common.{◌≡◌, ℕ, ◌+◌, ◌<◌, ◌≤◌, List, [], ◌∷◌, length, drop, refl, sym, ap, ◌∙◌, subst, inl, inr, arith}
use Rattle.std.proofs.lemmas.List.{drop_more, drop_all}
use Rattle.std.proofs.lemmas.Option.{get_or_from_slice_get, slice_get_within}
use Rattle.std.specs.Prelude.{Some, slice_get}
use Rattle.rational.proofs.Order.{same_refl}
use Rattle.stl_syntax.specs.declared.items.Item.{Item}
use Rattle.report.specs.ItemLines.{IsLonger, IsFirstLine}
use Rattle.report.specs.Report.{Join, AreJoined, IsItemLines}
use Rattle.report.proofs.ItemTexts.{EndsAs, join_line, join_last}

-- the items from a place on
pub items_at : (items : List Item) (i : ℕ) (e : Item) → slice_get items i ≡ Some e → drop i items ≡ e ∷ drop (i + 1) items
items_at items i e h = drop_more items i e (slice_get_within items i e h) ∙ ap (λ x. x ∷ drop (i + 1) items) (get_or_from_slice_get items i e e h)

-- what is read of the items from a place on: a line, up to an item with which it ends
pub record JoinsItems (items : List Item) (i k : ℕ) (line : Item) : Type 0 where
  -- some items were joined
  pub below : i < k
  -- of those that there are
  pub within : k ≤ length items
  -- the last of them
  pub last : Item
  -- the line ends as it does
  pub as_last : EndsAs line last
  -- what is left joins on as it does from there
  pub lines : (all : List Item) → AreJoined line last (drop k items) all → IsItemLines (drop i items) all
  -- and is of the same node
  pub node : (e : Item) (more : List Item) → drop i items ≡ e ∷ more → line.node ≡ e.node

head_node : (e f : Item) (more rest : List Item) → e ∷ more ≡ f ∷ rest → e.node ≡ f.node
head_node e f more rest h = ap node_of h
  where
    node_of : List Item → ℕ
    node_of [] = 0
    node_of (x ∷ xs) = x.node

-- at first the item itself
pub joins_first : (items : List Item) (i : ℕ) (e : Item) → slice_get items i ≡ Some e → JoinsItems items i (i + 1) e
joins_first items i e h =
    let inside : i < length items = slice_get_within items i e h in
    let at : drop i items ≡ e ∷ drop (i + 1) items = items_at items i e h in record {
      below = omega arith;
      within = omega arith;
      last = e;
      as_last = record { node = refl; holds = refl; ends = record { time = same_refl _; inside = refl } };
      lines = λ all j. subst (λ xs. IsItemLines xs all) (sym at) j;
      node = λ f more g. head_node e f (drop (i + 1) items) more (sym at ∙ g);
    }

-- an item joins it
pub joins_longer : (items : List Item) (i k : ℕ) (line e longer : Item) → JoinsItems items i k line → slice_get items k ≡ Some e
    → Join line e → IsLonger line e longer
    → JoinsItems items i (k + 1) longer
joins_longer items i k line e longer r h j l =
    let inside : k < length items = slice_get_within items k e h in record {
      below = let b = r.below in omega arith;
      within = omega arith;
      last = e;
      as_last = record { node = l.node ∙ j.0; holds = l.holds ∙ j.1; ends = l.ends };
      lines = λ all more. r.lines all (subst (λ xs. AreJoined line r.last xs all) (sym (items_at items k e h))
          (inl (join_line line r.last e r.as_last j, (longer, l.node, l.holds, l.begins, l.ends, more))));
      node = λ f more g. l.node ∙ r.node f more g;
    }

-- an item that does not join it begins the next line
pub joins_end : (items : List Item) (i k : ℕ) (line e : Item) → JoinsItems items i k line → slice_get items k ≡ Some e
    → ¬ Join line e → IsFirstLine (drop i items) (drop k items) line
joins_end items i k line e r h n = record {
  before = λ others o. r.lines (line ∷ others) (subst (λ xs. AreJoined line r.last xs (line ∷ others)) (sym (items_at items k e h))
      (inr (λ j. n (join_last line r.last e r.as_last j), (others, refl, subst (λ xs. IsItemLines xs others) (items_at items k e h) o))));
  node = r.node;
}

-- and behind the last item there is none
pub joins_all : (items : List Item) (i k n : ℕ) (line : Item) → JoinsItems items i k line → length items ≤ k → n ≡ length items
    → IsFirstLine (drop i items) (drop n items) line
joins_all items i k n line r h e =
    let nothing : drop n items ≡ [] = drop_all n items (omega (arith, e)) in record {
      before = λ others o. r.lines (line ∷ others) (subst (λ xs. AreJoined line r.last xs (line ∷ others)) (sym (drop_all k items h))
          (ap (λ xs. line ∷ xs) (only others (subst (λ xs. IsItemLines xs others) nothing o))));
      node = r.node;
    }
  where
    only : (others : List Item) → IsItemLines [] others → others ≡ []
    only others o = o
