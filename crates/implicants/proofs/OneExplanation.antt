-- A trace has one explanation: of each list of all cells what is kept is enough where it is of one.
use Rattle.std.proofs.Common.{◌≡◌, ℕ, suc, ◌<◌, inl, inr, length, List, [], ◌∷◌, ◌++◌, reverse, refl, sym, subst, ◌∙◌, append-nil}
use Rattle.std.proofs.lemmas.List.{reverse-reverse}
use Rattle.rational.specs.Time.{Rational, Interval, IsIn, Precedes, BeginAlike, EndAlike}
use Rattle.rational.proofs.Order.{same_refl, same_sym, same_trans, le_of_same, ge_of_same}
use Rattle.rational.proofs.TimeLemmas.{precedes_after, precedes_before}
use Rattle.frac128.specs.Spans.{interval}
use Rattle.stl_syntax.specs.Trace.{Trace, start}
use Rattle.stl_syntax.specs.Formula.{root}
use Rattle.stl_syntax.specs.Kleene.{MustNot}
use Rattle.stl_syntax.specs.Cells.{cells}
use Rattle.stl_syntax.specs.Kept.{ItemsOn, AllCells, Kept, Agree}
use Rattle.stl_syntax.specs.PostOrder.{IsPostOrder}
use Rattle.stl_syntax.proofs.LawProofs.{explanations_hold}
use Rattle.stl_syntax.specs.declared.items.Item.{Item}
use Rattle.stl_syntax.specs.declared.node.Node.{Node}
use Rattle.stl_syntax.specs.declared.node.Node.TheVariants.{Atom as Leaf}
use Rattle.implicants.specs.Keeping.{CoverMore}
use Rattle.implicants.proofs.NodeCounts.{AreSameTimes, first_is_same, rest_is_same, cuts_are_same}
use Rattle.implicants.proofs.MoreItems.{joined_more, must_not}
use Rattle.implicants.specs.Explaining.{HoldsAtStart}
use Rattle.implicants.proofs.KeptCells.{ends, kept_is_enough}
use Rattle.implicants.proofs.Violations.{so_items}

-- both intervals begin and end alike
pub record AreAlike (a b : Interval) : Type 0 where
  -- they begin alike
  pub begin : BeginAlike a b
  -- and end alike
  pub end : EndAlike a b

-- where one interval is alike to another, that one is alike to it
pub alike_sym : (a b : Interval) → AreAlike a b → AreAlike b a
alike_sym a b s = record {
  begin = record { time = same_sym s.begin.time; inside = sym s.begin.inside };
  end = record { time = same_sym s.end.time; inside = sym s.end.inside };
}

-- what is alike to an interval that is alike to another is alike to that one
pub alike_trans : (a b c : Interval) → AreAlike a b → AreAlike b c → AreAlike a c
alike_trans a b c s r = record {
  begin = record { time = same_trans s.begin.time r.begin.time; inside = s.begin.inside ∙ r.begin.inside };
  end = record { time = same_trans s.end.time r.end.time; inside = s.end.inside ∙ r.end.inside };
}

-- intervals that are alike have the same times
pub in_alike : (a b : Interval) (t : Rational) → AreAlike a b → IsIn a t → IsIn b t
in_alike a b t s h = record {
  above = subst (λ x. Precedes x b.from t) s.begin.inside (precedes_after a.from_in b.from a.from t (ge_of_same s.begin.time) h.above);
  below = subst (λ x. Precedes x t b.to) s.end.inside (precedes_before a.to_in t a.to b.to h.below (le_of_same s.end.time));
}

-- spans one by one alike
abbrev pub AreAllAlike : List Interval → List Interval → Type 0
AreAllAlike [] [] = Unit {0}
AreAllAlike [] (b ∷ others) = ⊥
AreAllAlike (a ∷ spans) [] = ⊥
AreAllAlike (a ∷ spans) (b ∷ others) = AreAlike a b × AreAllAlike spans others

-- the same times have the same cells
pub same_cells : (xs ys : List Rational) → AreSameTimes xs ys → AreAllAlike (cells xs) (cells ys)
same_cells [] [] s = tt
same_cells [] (y ∷ []) s = absurd (s.back y (inl (same_refl y)))
same_cells [] (y ∷ v ∷ ys) s = absurd (s.back y (inl (same_refl y)))
same_cells (x ∷ []) [] s = absurd (s.there x (inl (same_refl x)))
same_cells (x ∷ u ∷ xs) [] s = absurd (s.there x (inl (same_refl x)))
same_cells (x ∷ []) (y ∷ []) s =
    let e = first_is_same x y [] [] s in
    (record { begin = record { time = e; inside = refl }; end = record { time = e; inside = refl } }, tt)
same_cells (x ∷ []) (y ∷ v ∷ ys) s = absurd ((rest_is_same x y [] (v ∷ ys) s).back v (inl (same_refl v)))
same_cells (x ∷ u ∷ xs) (y ∷ []) s = absurd ((rest_is_same x y (u ∷ xs) [] s).there u (inl (same_refl u)))
same_cells (x ∷ u ∷ xs) (y ∷ v ∷ ys) s =
    let rest = rest_is_same x y (u ∷ xs) (v ∷ ys) s in
    let e = first_is_same x y (u ∷ xs) (v ∷ ys) s in
    let f = first_is_same u v xs ys rest in (
      record { begin = record { time = e; inside = refl }; end = record { time = e; inside = refl } },
      (record { begin = record { time = e; inside = refl }; end = record { time = f; inside = refl } }, same_cells (u ∷ xs) (v ∷ ys) rest),
    )

-- what an item covers, one of the same node with a span that is alike does
cover_one : (e g : Item) (i j : ℕ) (t : Rational) → e.node ≡ i → g.node ≡ i → AreAlike (interval e.on) (interval g.on) → (e.node ≡ j) × IsIn (interval e.on) t
    → (g.node ≡ j) × IsIn (interval g.on) t
cover_one e g i j t a b s h = (b ∙ sym a ∙ h.0, in_alike (interval e.on) (interval g.on) t s h.1)

module _ (nodes : List Node) (tr : Trace) where
  -- items of one node on spans that are alike cover the same
  items_cover : (i : ℕ) (spans others : List Interval) (xs ys : List Item) → AreAllAlike spans others
      → ItemsOn nodes tr i spans xs → ItemsOn nodes tr i others ys → CoverMore xs ys
  items_cover i spans others [] ys s h k j t c = absurd c
  items_cover i [] others (e ∷ xs) ys s h k j t c = absurd h
  items_cover i (a ∷ spans) [] (e ∷ xs) ys s h k j t c = absurd s
  items_cover i (a ∷ spans) (b ∷ others) (e ∷ xs) [] s h k j t c = absurd k
  items_cover i (a ∷ spans) (b ∷ others) (e ∷ xs) (g ∷ ys) s h k j t (inl c) =
      let left : AreAlike (interval e.on) a = record { begin = h.1; end = h.2 } in
      let right : AreAlike (interval g.on) b = record { begin = k.1; end = k.2 } in
      inl (cover_one e g i j t h.0 k.0
      (alike_trans (interval e.on) a (interval g.on) left (alike_trans a b (interval g.on) s.0 (alike_sym (interval g.on) b right))) c)
  items_cover i (a ∷ spans) (b ∷ others) (e ∷ xs) (g ∷ ys) s h k j t (inr c) = inr (items_cover i spans others xs ys s.1 h.4 k.4 j t c)

  -- two lists of all cells cover the same
  cells_cover : (i : ℕ) (ns : List Node) (xs ys : List Item) → AllCells nodes tr i ns xs → AllCells nodes tr i ns ys → CoverMore xs ys
  cells_cover i [] xs ys a b = subst (λ zs. CoverMore zs ys) (sym a) (λ j t h. absurd h)
  cells_cover i (Leaf l ∷ ns) xs ys (times, here, later, cuts, on, e, rest) (others, there, after, slits, off, f, more) =
      subst (λ zs. CoverMore zs ys) (sym e) (subst (λ zs. CoverMore (here ++ later) zs) (sym f)
      (joined_more here later there after
      (items_cover i (cells times) (cells others) here there (same_cells times others (cuts_are_same nodes tr i times others cuts slits)) on off)
      (cells_cover (suc i) ns later after rest more)))
  cells_cover i (_ ∷ ns) xs ys a b = cells_cover (suc i) ns xs ys a b

  -- what is kept is covered by all cells
  kept_covered : (items : List Item) (k : Kept nodes tr items) → CoverMore items k.all
  kept_covered items k =
      let x = ends (root nodes) tr (reverse k.all) [] items k.dropped in
      subst (λ zs. CoverMore zs k.all) (sym (x.is ∙ append-nil x.front)) (subst (λ zs. CoverMore x.front zs) (reverse-reverse k.all) x.among)

  -- where one list that is kept makes the formula certainly false, each does
  pub one_is_enough : (items others : List Item) → Kept nodes tr items → Kept nodes tr others
      → MustNot (root nodes) items tr (start tr) → MustNot (root nodes) others tr (start tr)
  one_is_enough items others k l m =
      let more : CoverMore items l.all = λ i t h. cells_cover 0 nodes k.all l.all k.cells l.cells i t (kept_covered items k i t h) in
      kept_is_enough nodes tr others l (must_not items l.all tr more (root nodes) (start tr) m)

-- what is kept of a formula's violation refutes it: it fails in each trace in which the items are so
pub kept_refutes : (nodes : List Node) (tr tr' : Trace) (items : List Item) → IsPostOrder nodes → 0 < length nodes
    → Kept nodes tr items → MustNot (root nodes) items tr (start tr)
    → Agree nodes tr' tr items → ¬ HoldsAtStart nodes tr'
kept_refutes nodes tr tr' items post some k m agree = explanations_hold nodes items tr tr' post some (so_items nodes tr items k) m agree
