-- The items of an explanation by another clock, taken back to the first.
use Rattle.std.proofs.Common.{◌≡◌, ℕ, suc, ◌^◌, ◌<◌, List, [], ◌∷◌, ◌++◌, map, reverse, refl, sym, ap, ◌∙◌, subst, inl, inr, MatchBool}
use Rattle.std.specs.Prelude.{◌↔◌}
use Rattle.std.proofs.lemmas.List.{reverse-append}
use Rattle.rational.specs.Time.{Rational, Interval, IsIn, BeginAlike, EndAlike, Precedes, closed, gap}
use Rattle.rational.proofs.Order.{same_sym, same_trans, le_of_same, ge_of_same}
use Rattle.rational.proofs.TimeLemmas.{precedes_after, precedes_before}
use Rattle.frac128.specs.Value.{value}
use Rattle.frac128.specs.Spans.{interval}
use Rattle.stl_syntax.specs.Trace.{Trace, start}
use Rattle.stl_syntax.specs.Formula.{Subformula, subformula, root}
use Rattle.stl_syntax.specs.Truth.{Truth}
use Rattle.stl_syntax.specs.Kleene.{IsCovered, MustNot}
use Rattle.stl_syntax.specs.Cells.{AreAllCut, cells}
use Rattle.stl_syntax.specs.Kept.{IsSo, ItemsOn, AllCells, KeptFrom, Kept}
use Rattle.stl_syntax.specs.Scaling.{scaled_node}
use Rattle.stl_syntax.specs.declared.items.Item.{Item}
use Rattle.stl_syntax.specs.declared.node.Node.{Node}
use Rattle.stl_syntax.specs.declared.node.Node.TheVariants.{Atom as Leaf}
use Rattle.stl_syntax.proofs.LawProofs.{certainty_is_of_times}
use Rattle.bounds.proofs.NearTimes.{Move}
use Rattle.unit_laws.proofs.Clocks.{clock, unclock, clock_same, clock-unclock, unclock_same, precedes_clock, precedes_of_clock}
use Rattle.unit_laws.proofs.Recounts.{IsRecount}
use Rattle.unit_laws.proofs.CalmTruth.{HasCalmAtoms}
use Rattle.unit_laws.proofs.SmallFractions.{HasFrac}
use Rattle.unit_laws.proofs.CutFractions.{frac_same_as, cut_frac}
use Rattle.unit_laws.proofs.FinerTrees.{finer_tree, subformula_by, root_by}
use Rattle.unit_laws.proofs.FinerCertainty.{certain_by}
use Rattle.unit_laws.proofs.FinerCells.{interval_by, cut_back, cuts_back}
use Rattle.unit_laws.proofs.VerdictsBack.{shown, verdict_back, told_in}

module _ (K : ℕ) (o : Move) (kp : 0 < K) where
  -- the clock shows the item g at the times of the item e
  pub record IsShownItem (e g : Item) : Type 0 where
    -- of the same node
    pub node : g.node ≡ e.node
    -- with the same truth
    pub holds : g.holds ≡ e.holds
    -- from the time on that the clock shows at its begin
    pub begins : BeginAlike (interval g.on) (interval_by K o kp (interval e.on))
    -- up to what it shows at its end
    pub ends : EndAlike (interval g.on) (interval_by K o kp (interval e.on))

  -- and so for each of two lists
  abbrev pub AreShownItems : List Item → List Item → Type 0
  AreShownItems [] [] = Unit {0}
  AreShownItems [] (g ∷ gs) = ⊥
  AreShownItems (e ∷ es) [] = ⊥
  AreShownItems (e ∷ es) (g ∷ gs) = IsShownItem e g × AreShownItems es gs

  shown_append : (es gs fs hs : List Item) → AreShownItems es gs → AreShownItems fs hs → AreShownItems (es ++ fs) (gs ++ hs)
  shown_append [] [] fs hs s r = r
  shown_append [] (g ∷ gs) fs hs s r = absurd s
  shown_append (e ∷ es) [] fs hs s r = absurd s
  shown_append (e ∷ es) (g ∷ gs) fs hs s r = (s.0, shown_append es gs fs hs s.1 r)

  shown_reverse : (es gs : List Item) → AreShownItems es gs → AreShownItems (reverse es) (reverse gs)
  shown_reverse [] [] s = tt
  shown_reverse [] (g ∷ gs) s = absurd s
  shown_reverse (e ∷ es) [] s = absurd s
  shown_reverse (e ∷ es) (g ∷ gs) s =
      subst (λ l. AreShownItems l (reverse (g ∷ gs))) (sym (reverse-append (e ∷ []) es))
      (subst (λ l. AreShownItems (reverse es ++ e ∷ []) l) (sym (reverse-append (g ∷ []) gs))
      (shown_append (reverse es) (reverse gs) (e ∷ []) (g ∷ []) (shown_reverse es gs s.1) (s.0, tt)))

  item_forth : (e g : Item) → IsShownItem e g → (t : Rational) → IsIn (interval e.on) t → IsIn (interval g.on) (clock K o t)
  item_forth e g s t i = record {
    above = subst (λ b. Precedes b (value g.on.from) (clock K o t)) (sym s.begins.inside)
        (precedes_after e.on.from_in (value g.on.from) (clock K o (value e.on.from)) (clock K o t) (le_of_same s.begins.time)
        (precedes_clock K o kp e.on.from_in (value e.on.from) t i.above));
    below = subst (λ b. Precedes b (clock K o t) (value g.on.to)) (sym s.ends.inside)
        (precedes_before e.on.to_in (clock K o t) (clock K o (value e.on.to)) (value g.on.to)
        (precedes_clock K o kp e.on.to_in t (value e.on.to) i.below) (ge_of_same s.ends.time));
  }

  item_back : (e g : Item) → IsShownItem e g → (t : Rational) → IsIn (interval g.on) (clock K o t) → IsIn (interval e.on) t
  item_back e g s t i = record {
    above = precedes_of_clock K o kp e.on.from_in (value e.on.from) t
        (precedes_after e.on.from_in (clock K o (value e.on.from)) (value g.on.from) (clock K o t) (ge_of_same s.begins.time)
        (subst (λ b. Precedes b (value g.on.from) (clock K o t)) s.begins.inside i.above));
    below = precedes_of_clock K o kp e.on.to_in t (value e.on.to)
        (precedes_before e.on.to_in (clock K o t) (value g.on.to) (clock K o (value e.on.to))
        (subst (λ b. Precedes b (clock K o t) (value g.on.to)) s.ends.inside i.below) (le_of_same s.ends.time));
  }

  -- they cover the times that the clock shows
  covers : (es gs : List Item) → AreShownItems es gs → (i : ℕ) (t : Rational) → IsCovered es i t ↔ IsCovered gs i (clock K o t)
  covers [] [] s i t = (λ h. h, λ h. h)
  covers [] (g ∷ gs) s i t = absurd s
  covers (e ∷ es) [] s i t = absurd s
  covers (e ∷ es) (g ∷ gs) s i t =
      let r = covers es gs s.1 i t in (
        λ h. elim h [ inl k ↦ inl (s.0.node ∙ k.0, item_forth e g s.0 t k.1) | inr k ↦ inr (r.0 k) ],
        λ h. elim h [ inl k ↦ inl (sym s.0.node ∙ k.0, item_back e g s.0 t k.1) | inr k ↦ inr (r.1 k) ],
      )

  -- the cells between the times at which the clock shows the others
  uncells : (times : List Rational) → cells (map (unclock K o kp) times) ≡ map (shown K o kp) (cells times)
  uncells [] = refl
  uncells (t ∷ []) = refl
  uncells (t ∷ u ∷ times) =
      ap (λ on. closed (unclock K o kp t) (unclock K o kp t) ∷ gap (unclock K o kp t) (unclock K o kp u) ∷ on) (uncells (u ∷ times))

  -- the times at which the clock shows the times are numbers that the program keeps
  abbrev AreKept : List Rational → Type 0
  AreKept [] = Unit {0}
  AreKept (t ∷ times) = HasFrac (unclock K o kp t) × AreKept times

  abbrev HaveEnds : List Interval → Type 0
  HaveEnds [] = Unit {0}
  HaveEnds (on ∷ spans) = HasFrac (unclock K o kp on.from) × HasFrac (unclock K o kp on.to) × HaveEnds spans

  have_ends : (times : List Rational) → AreKept times → HaveEnds (cells times)
  have_ends [] h = tt
  have_ends (t ∷ []) h = (h.0, h.0, tt)
  have_ends (t ∷ u ∷ times) h = (h.0, h.0, (h.0, h.1.0, have_ends (u ∷ times) h.1))

  -- the item by the first clock
  abbrev item_of : (g : Item) → HasFrac (unclock K o kp (value g.on.from)) → HasFrac (unclock K o kp (value g.on.to)) → Item
  item_of g a b = record { node = g.node; on = (verdict_back K o kp (record { on = g.on; holds = g.holds }) a b).on; holds = g.holds }

  item_shown : (g : Item) (a : HasFrac (unclock K o kp (value g.on.from))) (b : HasFrac (unclock K o kp (value g.on.to))) → IsShownItem (item_of g a b) g
  item_shown g a b = record {
    node = refl;
    holds = refl;
    begins = record { time = same_sym (same_trans (clock_same K o a.same) (clock-unclock K o kp (value g.on.from))); inside = refl };
    ends = record { time = same_sym (same_trans (clock_same K o b.same) (clock-unclock K o kp (value g.on.to))); inside = refl };
  }

module _ (K : ℕ) (o : Move) (M : ℕ) (kp : 0 < K) (mp : 0 < M) {tr ur : Trace} (c : IsRecount K o M tr ur) (nodes : List Node)
    (calms : (i : ℕ) → HasCalmAtoms (2 ^ 31) tr (subformula nodes i)) where
  abbrev fine_nodes : List Node
  fine_nodes = map (scaled_node K M) nodes

  so_back : (e g : Item) → IsShownItem K o kp e g → IsSo fine_nodes ur g → (t : Rational) → IsIn (interval e.on) t
      → MatchBool g.holds (Truth (subformula nodes g.node) tr t) (¬ Truth (subformula nodes g.node) tr t)
  so_back e g s h t i =
      told_in K o M kp mp c (subformula nodes g.node) g.holds t
      (subst (λ p. MatchBool g.holds (Truth p ur (clock K o t)) (¬ Truth p ur (clock K o t))) (subformula_by K M nodes g.node)
      (h (clock K o t) (item_forth K o kp e g s t i)))

  items_on_back : (i : ℕ) (spans : List Interval) → HaveEnds K o kp spans → (gs : List Item) → ItemsOn fine_nodes ur i spans gs
      → (es : List Item) × AreShownItems K o kp es gs × ItemsOn nodes tr i (map (shown K o kp) spans) es
  items_on_back i [] r [] h = ([], tt, tt)
  items_on_back i [] r (g ∷ gs) h = absurd h
  items_on_back i (on ∷ spans) r [] h = absurd h
  items_on_back i (on ∷ spans) r (g ∷ gs) h =
      let a = frac_same_as r.0 (unclock_same K o kp (same_sym h.1.time)) in
      let b = frac_same_as r.1 (unclock_same K o kp (same_sym h.2.time)) in
      let s = item_shown K o kp g a b in
      let (es, shown_es, on_es) = items_on_back i spans r.2 gs h.4 in (
        item_of K o kp g a b ∷ es,
        (s, shown_es),
        (
          h.0,
          record { time = same_trans a.same (unclock_same K o kp h.1.time); inside = h.1.inside },
          record { time = same_trans b.same (unclock_same K o kp h.2.time); inside = h.2.inside },
          so_back (item_of K o kp g a b) g s h.3,
          on_es,
        ),
      )

  kept_times : (i : ℕ) (times : List Rational) → AreAllCut fine_nodes ur i times → AreKept K o kp times
  kept_times i [] h = tt
  kept_times i (t ∷ times) h = (cut_frac nodes tr calms (cut_back K o M kp mp c nodes h.0), kept_times i times h.1)

  -- all cells by the clock are, taken back, all cells
  abbrev CellsBack : ℕ → List Node → List Item → Type 0
  CellsBack i rest gs = (es : List Item) × AreShownItems K o kp es gs × AllCells nodes tr i rest es

  all_cells_back : (i : ℕ) (rest : List Node) (gs : List Item) → AllCells fine_nodes ur i (map (scaled_node K M) rest) gs → CellsBack i rest gs
  all_cells_back i [] gs h = ([], subst (λ xs. AreShownItems K o kp [] xs) (sym h) tt, refl)
  all_cells_back i (Leaf a ∷ rest) gs (times, here, later, cuts, on, is, others) =
      let (es, shown_es, on_es) = items_on_back i (cells times) (have_ends K o kp times (kept_times i times cuts.sound)) here on in
      let (fs, shown_fs, cells_fs) = all_cells_back (suc i) rest later others in (
        es ++ fs,
        subst (λ xs. AreShownItems K o kp (es ++ fs) xs) (sym is) (shown_append K o kp es here fs later shown_es shown_fs),
        (
          map (unclock K o kp) times,
          es,
          fs,
          cuts_back K o M kp mp c nodes i times cuts,
          subst (λ spans. ItemsOn nodes tr i spans es) (sym (uncells K o kp times)) on_es,
          refl,
          cells_fs,
        ),
      )
  all_cells_back i (n ∷ rest) gs h = all_cells_back (suc i) rest gs h

  module _ (p : Subformula) where
    not_iff : (es gs : List Item) → AreShownItems K o kp es gs → MustNot p es tr (start tr) ↔ MustNot (finer_tree K M p) gs ur (start ur)
    not_iff es gs s =
        let q = finer_tree K M p in
        let r = (certain_by K o M kp mp c es gs (covers K o kp es gs s) p (start tr)).must_not in (
          λ h. (certainty_is_of_times q gs ur (clock K o (start tr)) (start ur) (same_sym c.starts)).1 (r.0 h),
          λ h. r.1 ((certainty_is_of_times q gs ur (start ur) (clock K o (start tr)) c.starts).1 h),
        )

    kept_from_back : (left left' after after' kept' : List Item) → AreShownItems K o kp left left' → AreShownItems K o kp after after'
        → KeptFrom (finer_tree K M p) ur left' after' kept' → (kept : List Item) × AreShownItems K o kp kept kept' × KeptFrom p tr left after kept
    kept_from_back [] [] after after' kept' s r h = (after, subst (λ xs. AreShownItems K o kp after xs) (sym h) r, refl)
    kept_from_back [] (g ∷ left') after after' kept' s r h = absurd s
    kept_from_back (e ∷ left) [] after after' kept' s r h = absurd s
    kept_from_back (e ∷ left) (g ∷ left') after after' kept' s r (inl (m, h)) =
        let all = shown_append K o kp (reverse left) (reverse left') after after' (shown_reverse K o kp left left' s.1) r in
        let (kept, t, k) = kept_from_back left left' after after' kept' s.1 r h in
        (kept, t, inl ((not_iff (reverse left ++ after) (reverse left' ++ after') all).1 m, k))
    kept_from_back (e ∷ left) (g ∷ left') after after' kept' s r (inr (m, h)) =
        let all = shown_append K o kp (reverse left) (reverse left') after after' (shown_reverse K o kp left left' s.1) r in
        let (kept, t, k) = kept_from_back left left' (e ∷ after) (g ∷ after') kept' s.1 (s.0, r) h in
        (kept, t, inr (λ x. m ((not_iff (reverse left ++ after) (reverse left' ++ after') all).0 x), k))

  -- the kept items by the clock are, taken back, the kept ones
  pub kept_back : (kept' : List Item) → Kept fine_nodes ur kept' → (kept : List Item) × AreShownItems K o kp kept kept' × Kept nodes tr kept
  kept_back kept' h =
      let (all, s, all_cells) = all_cells_back 0 nodes h.all h.cells in
      let (kept, t, k) = kept_from_back (root nodes) (reverse all) (reverse h.all) [] [] kept' (shown_reverse K o kp all h.all s) tt
      (subst (λ p. KeptFrom p ur (reverse h.all) [] kept') (root_by K M nodes) h.dropped) in
      (kept, t, record { all = all; cells = all_cells; dropped = k })
