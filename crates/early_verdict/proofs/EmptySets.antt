-- The empty sets of all nodes look at what their children show.
use Rattle.std.proofs.Common.{◌≡◌, inl, refl, sym, subst, ◌∙◌, ℕ, ◌+◌, ◌-◌, ◌<◌, ◌≤◌, Option, Some, None, List, length, arith}
use Rattle.std.specs.Prelude.{MatchOption, IsSome, slice_get}
use Rattle.std.proofs.lemmas.Option.{slice_get_within}
use Rattle.rational.specs.Time.{Rational, later, ◌≤ʳ◌}
use Rattle.rational.proofs.Order.{le_refl, le_trans}
use Rattle.rational.proofs.TimeLemmas.{later_from, later_le, later_more, precedes_le}
use Rattle.rational.proofs.Lists.{slice_get_there}
use Rattle.stl_syntax.specs.Formula.{HasChildrenBelow}
use Rattle.stl_syntax.specs.declared.node.Node.{Node}
use Rattle.stl_syntax.specs.declared.node.Node.TheVariants.{Const, Atom as Leaf, Not, And, Or, Implies, Until, Eventually, Always, Since, Once, Historically}
use Rattle.growing_sets.specs.Spans.{Lies}
use Rattle.early_verdict.specs.Fitting.{FailWithin, HasFailBounds}
use Rattle.early_verdict.specs.Making.{AreMade, AreShownOf}
use Rattle.early_verdict.specs.Standing.{ArePartsAsked, AllEmpty, AllTidy, AsksBelow, HasParts, HasSets, left_of, top_at}
use Rattle.early_verdict.specs.Living.{AreLive, IsLive, IsShown, LooksAt, ReachesAhead, ReachesBack}
use Rattle.early_verdict.specs.declared.sets.Sets.{Sets}
use Rattle.early_verdict.specs.declared.sets.Parts.{Parts}
use Rattle.early_verdict.proofs.AllSets.{is_shown}
use Rattle.early_verdict.proofs.MadeLemmas.{sets_tidy}
use Rattle.early_verdict.proofs.SinceSets.{none_later}
use Rattle.early_verdict.proofs.SetsTell.{none_of}

-- what is asked of a child
twice : (from : Rational) (top k : ℕ) → later (later from top) k ≤ʳ later from (top + k)
twice from top k = record { le = omega arith }

reach : (from t u : Rational) (top k m : ℕ) → t ≤ʳ later from top → u ≤ʳ later t k → top + k ≤ m → u ≤ʳ later from m
reach from t u top k m h l e = le_trans l (le_trans (later_le k h) (le_trans (twice from top k) (later_more from (top + k) m e)))

reach_now : (from t u : Rational) (top m : ℕ) → t ≤ʳ later from top → u ≤ʳ t → top ≤ m → u ≤ʳ later from m
reach_now from t u top m h l e = le_trans l (le_trans h (later_more from top m e))

module _ (nodes : List Node) (from : Rational) (live shown : List Sets) (made : AreMade nodes from live) (are : AreShownOf live shown)
    (placed : (i : ℕ) (n : Node) → slice_get nodes i ≡ Some n → HasChildrenBelow i n) where
  shows : (p : ℕ) (u : Rational) → p < length nodes → from ≤ʳ u → u ≤ʳ later from (top_at made.tops p) → IsShown shown p u
  shows p u h f l =
      let n = slice_get_there nodes p h in
      let s = slice_get_there live p (let c = made.have.count in omega (arith, h, c)) in
      let x = slice_get_there shown p (let c = made.have.count in let d = are.count in omega (arith, h, c, d)) in
      let k = are.has p s.0 x.0 s.1 x.1 in
      is_shown shown p x.0 u x.1 (subst (λ b. Lies b u) (sym k.1) (((made.have.has p n.0 s.0 n.1 s.1).asked.no u).1 (f, l)))

  module _ (i : ℕ) (n : Node) (s : Sets) (at : slice_get nodes i ≡ Some n) (is : slice_get live i ≡ Some s) where
    h : HasSets from made.tops live i n s
    h = made.have.has i n s at is

    in_own : (t : Rational) → Lies s.no.bounds t → (from ≤ʳ t) × (t ≤ʳ later from (top_at made.tops i))
    in_own t l = (h.asked.no t).0 l

    small : i < length nodes
    small = let a = slice_get_within live i s is in let c = made.have.count in omega (arith, a, c)

    ahead_parts : (b : ℕ) → top_at made.tops i + b ≤ h.wide → (o : Option Parts) → MatchOption o (Unit {0}) (ArePartsAsked from (top_at made.tops i) h.wide)
        → MatchOption o (Unit {0}) (ReachesAhead from b s.no.bounds)
    ahead_parts b far None k = tt
    ahead_parts b far (Some x) k = record {
      some = λ t l. let g = in_own t l in ((k.some t).1 g, (k.each t).1 g);
      never = λ t l. let g = in_own t l in ((k.never t).1 g, (k.broken t).1 g);
      both = λ t u l f e. let g : (from ≤ʳ u) × (u ≤ʳ later from h.wide) = (
        le_trans (in_own t l).0 f,
        reach from t u (top_at made.tops i) b h.wide (in_own t l).1 e far,
      ) in ((k.both u).1 g, (k.run u).1 g);
      fail = λ t u l f e. let g : (from ≤ʳ u) × (u ≤ʳ later from h.wide) = (
        le_trans (in_own t l).0 f,
        reach from t u (top_at made.tops i) b h.wide (in_own t l).1 e far,
      ) in ((k.fail u).1 g, (k.stop u).1 g);
    }

    back_parts : (b : Option ℕ) (p : ℕ) → top_at made.tops i ≤ h.wide → (o : Option Parts)
        → MatchOption o (Unit {0}) (ArePartsAsked from (top_at made.tops i) h.wide)
        → MatchOption o (Unit {0}) (ReachesBack from b p shown s.no.bounds)
    back_parts b p far None k = tt
    back_parts b p far (Some x) k = record {
      some = λ t l. let g = in_own t l in ((k.some t).1 g, (k.each t).1 g);
      never = λ t l. let g = in_own t l in ((k.never t).1 g, (k.broken t).1 g);
      both = λ t u l o i'. let g : (from ≤ʳ u) × (u ≤ʳ later from h.wide) = (
        o.after,
        reach_now from t u (top_at made.tops i) h.wide (in_own t l).1 (none_later u t 0 o.ends) far,
      ) in ((k.both u).1 g, (k.run u).1 g);
      fail = λ t u l o i'. let g : (from ≤ʳ u) × (u ≤ʳ later from h.wide) = (
        o.after,
        reach_now from t u (top_at made.tops i) h.wide (in_own t l).1 (none_later u t 0 o.ends) far,
      ) in ((k.fail u).1 g, (k.stop u).1 g);
    }

    here : (p : ℕ) → p < i → top_at made.tops i + 0 ≤ top_at made.tops p → (t : Rational) → Lies s.no.bounds t → IsShown shown p t
    here p c a t l =
        let g = in_own t l in
        shows p t (let q = small in omega (arith, c, q)) g.0
        (reach_now from t t (top_at made.tops i) (top_at made.tops p) g.1 (le_refl t) (omega (arith, a)))

    there : (p b : ℕ) → p < i → top_at made.tops i + b ≤ top_at made.tops p → (t u : Rational) → Lies s.no.bounds t → from ≤ʳ u
        → u ≤ʳ later t b → IsShown shown p u
    there p b c a t u l f e = shows p u (let q = small in omega (arith, c, q)) f (reach from t u (top_at made.tops i) b (top_at made.tops p) (in_own t l).1 e a)

    behind : (p : ℕ) → p < i → top_at made.tops i + 0 ≤ top_at made.tops p → (t u : Rational) → Lies s.no.bounds t → from ≤ʳ u → u ≤ʳ t → IsShown shown p u
    behind p c a t u l f e = shows p u (let q = small in omega (arith, c, q)) f
        (reach_now from t u (top_at made.tops i) (top_at made.tops p) (in_own t l).1 e (omega (arith, a)))

    looks : LooksAt n from shown s.no.bounds s.parts
    looks = by_node n (placed i n at) (made.have.asks i n at) h.left
      where
        by_node : (m : Node) → HasChildrenBelow i m → AsksBelow (top_at made.tops) (top_at made.tops i) m
            → MatchOption (left_of m) (s.parts ≡ None)
            (λ p. (top_at made.tops p ≡ h.wide) × ((l : Sets) → slice_get live p ≡ Some l → HasFailBounds s l) × (s.parts ≡ None → ⊥))
            → LooksAt m from shown s.no.bounds s.parts
        by_node (Const b) c a w = tt
        by_node (Leaf x) c a w = tt
        by_node (Not p) c a w = here p c a.first
        by_node (And p q) c a w = λ t l. (here p c.0 a.first t l, here q c.1 a.second t l)
        by_node (Or p q) c a w = λ t l. (here p c.0 a.first t l, here q c.1 a.second t l)
        by_node (Implies p q) c a w = λ t l. (here p c.0 a.first t l, here q c.1 a.second t l)
        by_node (Until p q x y) c a w = (
          λ t u l f e. let g = le_trans (in_own t l).0 f in (there p y c.0 a.first t u l g e, there q y c.1 a.second t u l g e),
          ahead_parts y (subst (λ z. top_at made.tops i + y ≤ z) w.0 a.first) s.parts h.asked.parts,
        )
        by_node (Eventually p x y j k) c a w = λ t u l o. there p y c a.first t u l o.after (precedes_le k u (later t y) o.ends)
        by_node (Always p x y j k) c a w = λ t u l o. there p y c a.first t u l o.after (precedes_le k u (later t y) o.ends)
        by_node (Since p q x y) c a w = (
          λ t l. inl (λ u o. let e = none_later u t 0 o.ends in (behind p c.0 a.first t u l o.after e, behind q c.1 a.second t u l o.after e)),
          back_parts y p (let l = a.first in let e = w.0 in omega (arith, l, e)) s.parts h.asked.parts,
        )
        by_node (Once p x y j k) c a w = λ t u l o. inl (behind p c a.first t u l o.after (none_later u t x (precedes_le j (later u x) t o.ends)))
        by_node (Historically p x y j k) c a w = λ t u l o. inl (behind p c a.first t u l o.after (none_later u t x (precedes_le j (later u x) t o.ends)))

    left : HasParts n s shown
    left = by_left (left_of n) h.left
      where
        is_some : (o : Option Parts) → (o ≡ None → ⊥) → IsSome o
        is_some None f = absurd (f refl)
        is_some (Some x) f = refl

        by_left : (o : Option ℕ)
            → MatchOption o (s.parts ≡ None)
            (λ p. (top_at made.tops p ≡ h.wide) × ((l : Sets) → slice_get live p ≡ Some l → HasFailBounds s l) × (s.parts ≡ None → ⊥))
            → MatchOption o (Unit {0}) (λ p. IsSome s.parts × ((l : Sets) → slice_get shown p ≡ Some l → HasFailBounds s l))
        by_left None w = tt
        by_left (Some p) w = (
          is_some s.parts w.2,
          λ x f.
              let a = slice_get_within shown p x f in
              let l = slice_get_there live p (let c = are.count in omega (arith, a, c)) in
              subst (λ z. MatchOption s.parts (Unit {0}) (FailWithin z)) (sym (are.has p l.0 x l.1 f).1) (w.1 l.0 l.1),
        )

    live_here : (x : Sets) → slice_get shown i ≡ Some x → IsLive from shown n s x
    live_here x ix =
        let k = are.has i s x is ix in
        let none = made.empty i s is in
        record {
          own = s.no.bounds;
          yes = made.same i s is;
          no = refl;
          starts = λ t l. (in_own t l).0;
          looks = looks;
          left = left;
          shown_yes = k.0 ∙ sym k.1;
          shown_starts = λ t l. (in_own t (subst (λ b. Lies b t) k.1 l)).0;
          yes_within = λ t o. absurd (none_of x.yes.spans.items t k.2.yes o);
          no_within = λ t o. absurd (none_of x.no.spans.items t k.2.no o);
          shows_yes = λ t o l. absurd (none_of s.yes.spans.items t none.yes o);
          shows_no = λ t o l. absurd (none_of s.no.spans.items t none.no o);
          early = λ t l. inl (subst (λ b. Lies b t) k.1 l);
        }

  -- all nodes do
  pub made_live : AreLive nodes from live shown
  made_live = record { count = made.have.count; shown_count = are.count ∙ made.have.count; has = λ i n s x at is ix. live_here i n s at is x ix }

  of_live : (i : ℕ) (x : Sets) → slice_get shown i ≡ Some x → (s : Sets) × (slice_get live i ≡ Some s)
  of_live i x f = let a = slice_get_within shown i x f in slice_get_there live i (let c = are.count in omega (arith, a, c))

  -- at first nothing is shown
  pub shown_empty : AllEmpty shown
  shown_empty i x f = let s = of_live i x f in (are.has i s.0 x s.1 f).2

  -- what is shown at first is tidy
  pub shown_tidy : AllTidy shown
  shown_tidy i x f = sets_tidy x (shown_empty i x f)

  -- the root shows the start
  pub root_shows : 0 < length nodes → IsShown shown (length nodes - 1) from
  root_shows some = shows (length nodes - 1) from (omega (arith, some)) (le_refl from) (later_from from (top_at made.tops (length nodes - 1)))
