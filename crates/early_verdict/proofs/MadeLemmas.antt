-- The empty sets of all nodes of a formula are such as an entry begins with.
use Rattle.std.proofs.Common.{◌≡◌, ◌⊎◌, inl, inr, refl, sym, subst, ap, ◌∙◌, ℕ, zero, suc, ◌+◌, ◌<◌, pos}
use Rattle.std.proofs.Common.{true, false, Option, Some, None, List, [], ◌∷◌, ◌++◌, length, take, arith}
use Rattle.std.specs.Prelude.{slice_get, MatchOption}
use Rattle.std.proofs.lemmas.List.{take-append-le, length-append}
use Rattle.std.proofs.lemmas.Option.{slice_get_within, same_Some}
use Rattle.std.proofs.Math.Seq.{take-append_seam}
use Rattle.rational.specs.Rational.{Rational, ◌≈◌, whole}
use Rattle.rational.specs.Time.{later}
use Rattle.rational.proofs.Order.{le_trans, le_of_same, ge_of_same}
use Rattle.stl_syntax.specs.Formula.{HasChildrenBelow}
use Rattle.stl_syntax.specs.declared.node.Node.{Node}
use Rattle.stl_syntax.specs.declared.node.Node.TheVariants.{Until, Since}
use Rattle.rational.specs.Places.{Same}
use Rattle.frac128.specs.Cuts.{place}
use Rattle.growing_sets.specs.Spans.{AreTidy}
use Rattle.early_verdict.specs.Fitting.{AreEmpty, ArePartsEmpty, AreSetsTidy, ArePartsTidy, FailWithin, HasFailBounds, IsEmpty, IsTidy}
use Rattle.early_verdict.specs.Standing.{ArePartsAsked, HasSets, IsFrom, left_of, top_at}
use Rattle.early_verdict.specs.Tops.{AreTops}
use Rattle.early_verdict.specs.Making.{AreMade, HasPartBounds, HasPartsFor, IsMade}
use Rattle.growing_sets.specs.declared.stretch.Stretch.{Stretch}
use Rattle.early_verdict.specs.declared.sets.Sets.{Sets}
use Rattle.early_verdict.specs.declared.sets.Parts.{Parts}
use Rattle.growing_sets.specs.declared.grown.Grown.{Grown}
use Rattle.rational.proofs.PlaceLemmas.{after_same, upto_same, same_places}
use Rattle.rational.proofs.Lists.{slice_get_there, slice_get-append_front, slice_get-append_here}

same_tick : (m k : ℕ) → later (whole (pos m)) k ≈ whole (pos (m + k))
same_tick m k = omega arith

-- from one tick to a later one
pub from_over : (s : Stretch) (m k : ℕ) → Same (place s.from) (record { at = whole (pos m); after = false })
    → Same (place s.to) (record { at = whole (pos (m + k)); after = true }) → IsFrom (whole (pos m)) k s
from_over s m k f g t = (
  λ h. (
    after_same (place s.from) (record { at = whole (pos m); after = false }) t f h.0,
    le_trans (upto_same (place s.to) (record { at = whole (pos (m + k)); after = true }) t g h.1) (ge_of_same (same_tick m k)),
  ),
  λ h. (
    after_same (record { at = whole (pos m); after = false }) (place s.from) t (same_places f) h.0,
    upto_same (record { at = whole (pos (m + k)); after = true }) (place s.to) t (same_places g) (le_trans h.1 (le_of_same (same_tick m k))),
  ),
)

-- a list without times rises
tidy_of : (x : Grown) → IsEmpty x → IsTidy x
tidy_of x e = subst AreTidy (sym e) tt

parts_tidy : (x : Parts) → ArePartsEmpty x → ArePartsTidy x
parts_tidy x e = record {
  holding = record {
    both = tidy_of x.holding.both e.holding.both;
    run = tidy_of x.holding.run e.holding.run;
    some = tidy_of x.holding.some e.holding.some;
    each = tidy_of x.holding.each e.holding.each;
  };
  failing = record {
    fail = tidy_of x.failing.fail e.failing.fail;
    stop = tidy_of x.failing.stop e.failing.stop;
    never = tidy_of x.failing.never e.failing.never;
    broken = tidy_of x.failing.broken e.failing.broken;
  };
}

-- empty sets are tidy
pub sets_tidy : (s : Sets) → AreEmpty s → AreSetsTidy s
sets_tidy s e = record { yes = tidy_of s.yes e.yes; no = tidy_of s.no e.no; parts = by_parts s.parts e.parts }
  where
    by_parts : (o : Option Parts) → MatchOption o (Unit {0}) ArePartsEmpty → MatchOption o (Unit {0}) ArePartsTidy
    by_parts None h = tt
    by_parts (Some x) h = parts_tidy x h

from_as : (from : Rational) (top : ℕ) (a b : Stretch) → a ≡ b → IsFrom from top b → IsFrom from top a
from_as from top a b e h = subst (λ s. IsFrom from top s) (sym e) h

-- what is in a list's beginning is in the list
pub in_front : (xs : List Sets) (j p : ℕ) (l : Sets) → slice_get (take j xs) p ≡ Some l → slice_get xs p ≡ Some l
in_front xs zero p l e = absurd (let x : None ≡ Some l = e in cc)
in_front [] (suc j) p l e = e
in_front (x ∷ xs) (suc j) zero l e = e
in_front (x ∷ xs) (suc j) (suc p) l e = in_front xs j p l e

module _ (nodes : List Node) (from : Rational) (tops : List ℕ) (sets : List Sets) (made : (j : ℕ) (n : Node) (s : Sets) → slice_get nodes j ≡ Some n
    → slice_get sets j ≡ Some s → IsMade from (top_at tops j) n (take j sets) s) where
  -- the sets of a node are asked as far as it is
  has_sets : length sets ≡ length nodes → (i : ℕ) (n : Node) (s : Sets) → slice_get nodes i ≡ Some n → slice_get sets i ≡ Some s → HasSets from tops sets i n s
  has_sets count i n s e f = by_left (left_of n) refl m.parts
    where
      m : IsMade from (top_at tops i) n (take i sets) s
      m = made i n s e f

      yes : IsFrom from (top_at tops i) s.yes.bounds
      yes = from_as from (top_at tops i) s.yes.bounds m.bounds m.yes m.wide

      no : IsFrom from (top_at tops i) s.no.bounds
      no = from_as from (top_at tops i) s.no.bounds m.bounds m.no m.wide

      parts_asked : (wide : ℕ) (l : Sets) (x : Parts) → IsFrom from wide l.yes.bounds → IsFrom from wide l.no.bounds → HasPartBounds m.bounds l x
          → ArePartsAsked from (top_at tops i) wide x
      parts_asked wide l x y z h = record {
        some = from_as from (top_at tops i) x.holding.some.bounds m.bounds h.some m.wide;
        each = from_as from (top_at tops i) x.holding.each.bounds m.bounds h.each m.wide;
        never = from_as from (top_at tops i) x.failing.never.bounds m.bounds h.never m.wide;
        broken = from_as from (top_at tops i) x.failing.broken.bounds m.bounds h.broken m.wide;
        both = from_as from wide x.holding.both.bounds l.yes.bounds h.both y;
        run = from_as from wide x.holding.run.bounds l.yes.bounds h.run y;
        fail = from_as from wide x.failing.fail.bounds l.no.bounds h.fail z;
        stop = from_as from wide x.failing.stop.bounds l.no.bounds h.stop z;
      }

      by_parts : (p : ℕ) (l : Sets) → slice_get sets p ≡ Some l → left_of n ≡ Some p → (o : Option Parts) → s.parts ≡ o
          → MatchOption o ⊥ (HasPartBounds m.bounds l) → HasSets from tops sets i n s
      by_parts p l g is None r h = absurd h
      by_parts p l g is (Some x) r h =
          let y = from_of l g in record {
            wide = top_at tops p;
            asked = record {
              yes = yes;
              no = no;
              parts = subst (λ o. MatchOption o (Unit {0}) (ArePartsAsked from (top_at tops i) (top_at tops p))) (sym r)
                  (parts_asked (top_at tops p) l x y.0 y.1 h);
            };
            left = subst (λ o. MatchOption o (s.parts ≡ None) (λ p'. (top_at tops p' ≡ top_at tops p)
                × ((l' : Sets) → slice_get sets p' ≡ Some l' → HasFailBounds s l') × (s.parts ≡ None → ⊥))) (sym is) (
                  refl,
                  λ l' e'.
                      let same = same_Some l l' (sym g ∙ e') in
                      subst (HasFailBounds s) same
                      (subst (λ o. MatchOption o (Unit {0}) (FailWithin l.no.bounds)) (sym r) (h.fail, h.stop)),
                  λ none. absurd (let c : None ≡ Some x = sym none ∙ r in cc),
                );
          }
        where
          from_of : (l : Sets) → slice_get sets p ≡ Some l → IsFrom from (top_at tops p) l.yes.bounds × IsFrom from (top_at tops p) l.no.bounds
          from_of l g = of_node (node_at sets nodes p l count g)
            where
              node_at : (xs : List Sets) (ys : List Node) (k : ℕ) (l : Sets) → length xs ≡ length ys → slice_get xs k ≡ Some l
                  → (n : Node) × (slice_get ys k ≡ Some n)
              node_at [] ys k l c g = absurd (let x : None ≡ Some l = g in cc)
              node_at (x ∷ xs) [] k l c g = absurd (omega arith)
              node_at (x ∷ xs) (y ∷ ys) zero l c g = (y, refl)
              node_at (x ∷ xs) (y ∷ ys) (suc k) l c g = node_at xs ys k l (omega arith) g

              of_node : (n : Node) × (slice_get nodes p ≡ Some n) → IsFrom from (top_at tops p) l.yes.bounds × IsFrom from (top_at tops p) l.no.bounds
              of_node (n, e) =
                  let k = made p n l e g in
                  (from_as from (top_at tops p) l.yes.bounds k.bounds k.yes k.wide, from_as from (top_at tops p) l.no.bounds k.bounds k.no k.wide)

      by_left : (o : Option ℕ) → left_of n ≡ o → MatchOption o (s.parts ≡ None)
          (λ p. (l : Sets) × (slice_get (take i sets) p ≡ Some l) × HasPartsFor m.bounds l s) → HasSets from tops sets i n s
      by_left None is h = record {
        wide = 0;
        asked = record { yes = yes; no = no; parts = subst (λ o. MatchOption o (Unit {0}) (ArePartsAsked from (top_at tops i) 0)) (sym h) tt };
        left = subst (λ o. MatchOption o (s.parts ≡ None) (λ p'. (top_at tops p' ≡ 0)
            × ((l' : Sets) → slice_get sets p' ≡ Some l' → HasFailBounds s l') × (s.parts ≡ None → ⊥))) (sym is) h;
      }
      by_left (Some p) is h = by_parts p h.0 (in_front sets i p h.0 h.1) is s.parts refl h.2

  -- the sets of all nodes are made
  pub all_made : length sets ≡ length nodes → AreTops nodes tops → AreMade nodes from sets
  all_made count t = record {
    tops = tops;
    have = record { count = count; has = has_sets count; asks = t.asks };
    tidy = λ i s f. let n = node_of i s f in sets_tidy s (made i n.0 s n.1 f).empty;
    empty = λ i s f. let n = node_of i s f in (made i n.0 s n.1 f).empty;
    same = λ i s f. let n = node_of i s f in let m = made i n.0 s n.1 f in m.yes ∙ sym m.no;
  }
    where
      node_of : (i : ℕ) (s : Sets) → slice_get sets i ≡ Some s → (n : Node) × (slice_get nodes i ≡ Some n)
      node_of i s f = node_at sets nodes i s count f
        where
          node_at : (xs : List Sets) (ys : List Node) (k : ℕ) (l : Sets) → length xs ≡ length ys → slice_get xs k ≡ Some l
              → (n : Node) × (slice_get ys k ≡ Some n)
          node_at [] ys k l c g = absurd (let x : None ≡ Some l = g in cc)
          node_at (x ∷ xs) [] k l c g = absurd (omega arith)
          node_at (x ∷ xs) (y ∷ ys) zero l c g = (y, refl)
          node_at (x ∷ xs) (y ∷ ys) (suc k) l c g = node_at xs ys k l (omega arith) g

last_or_before : (j n : ℕ) → j < n + 1 → (j < n) ⊎ (j ≡ n)
last_or_before zero zero h = inr refl
last_or_before zero (suc n) h = inl (omega arith)
last_or_before (suc j) zero h = absurd (omega arith)
last_or_before (suc j) (suc n) h = elim (last_or_before j n (omega arith)) [ inl l ↦ inl (omega arith) | inr e ↦ inr (ap suc e) ]

-- the sets that are made for the nodes so far, with those of one more, are made for one node more
pub one_more : (nodes : List Node) (from : Rational) (tops : List ℕ) (sets : List Sets) (more : Sets)
    → ((j : ℕ) (n : Node) (s : Sets) → slice_get nodes j ≡ Some n → slice_get sets j ≡ Some s → IsMade from (top_at tops j) n (take j sets) s)
    → ((n : Node) → slice_get nodes (length sets) ≡ Some n → IsMade from (top_at tops (length sets)) n sets more)
    → (j : ℕ) (n : Node) (s : Sets) → slice_get nodes j ≡ Some n → slice_get (sets ++ more ∷ []) j ≡ Some s
    → IsMade from (top_at tops j) n (take j (sets ++ more ∷ [])) s
one_more nodes from tops sets more made last j n s e f = elim (last_or_before j (length sets) within) [
  | inl l ↦
      subst (λ xs. IsMade from (top_at tops j) n xs s) (sym (take-append-le j sets (more ∷ []) (omega arith)))
      (made j n s e (sym (slice_get-append_front sets (more ∷ []) j l) ∙ f))
  | inr is ↦
      let same = same_Some more s (sym (slice_get-append_here sets more []) ∙ subst (λ i. slice_get (sets ++ more ∷ []) i ≡ Some s) is f) in
      let all : take (length sets) (sets ++ more ∷ []) ≡ sets = take-append_seam sets (more ∷ []) in
      subst (λ i. IsMade from (top_at tops i) n (take i (sets ++ more ∷ [])) s) (sym is)
      (subst (λ xs. IsMade from (top_at tops (length sets)) n xs s) (sym all)
      (subst (λ q. IsMade from (top_at tops (length sets)) n sets q) same (last n (subst (λ i. slice_get nodes i ≡ Some n) is e))))
]
  where
    within : j < length sets + 1
    within = subst (λ k. j < k) (length-append sets (more ∷ [])) (slice_get_within (sets ++ more ∷ []) j s f)

-- the left operand has sets
pub with_left : (n : Node) (i : ℕ) (below : List Sets) (bounds : Stretch) (s : Sets) → i ≡ length below → HasChildrenBelow i n
    → MatchOption (left_of n) (s.parts ≡ None) (λ p. (l : Sets) → slice_get below p ≡ Some l → HasPartsFor bounds l s)
    → MatchOption (left_of n) (s.parts ≡ None) (λ p. (l : Sets) × (slice_get below p ≡ Some l) × HasPartsFor bounds l s)
with_left n i below bounds s is c h = by_node n c h
  where
    found : (p : ℕ) → p < i → ((l : Sets) → slice_get below p ≡ Some l → HasPartsFor bounds l s)
        → (l : Sets) × (slice_get below p ≡ Some l) × HasPartsFor bounds l s
    found p lt f = let l = slice_get_there below p (subst (λ k. p < k) is lt) in (l.0, l.1, f l.0 l.1)

    by_node : (n : Node) → HasChildrenBelow i n
        → MatchOption (left_of n) (s.parts ≡ None) (λ p. (l : Sets) → slice_get below p ≡ Some l → HasPartsFor bounds l s)
        → MatchOption (left_of n) (s.parts ≡ None) (λ p. (l : Sets) × (slice_get below p ≡ Some l) × HasPartsFor bounds l s)
    by_node (Until p q a b) c h = found p c.0 h
    by_node (Since p q a b) c h = found p c.0 h
    by_node _ c h = h

-- what stands at a place is how far the node there is asked
pub top_of : (xs : List ℕ) (i r : ℕ) → slice_get xs i ≡ Some r → r ≡ top_at xs i
top_of [] i r e = absurd (let x : None ≡ Some r = e in cc)
top_of (x ∷ xs) zero r e = let s : x ≡ r = cc in sym s
top_of (x ∷ xs) (suc i) r e = top_of xs i r e

-- an empty set within the bounds of another's false times
abbrev pub IsEmptyIn : Sets → Sets → Type 0
IsEmptyIn s x = (x.yes.bounds ≡ s.no.bounds) × (x.no.bounds ≡ s.no.bounds) × AreEmpty x

-- one more empty set for those that are shown
pub shown_more : {s : Sets} {k : ℕ} (live shown : List Sets) (x : Sets) → slice_get live k ≡ Some s → length shown ≡ k
    → ((i : ℕ) (s x : Sets) → slice_get live i ≡ Some s → slice_get shown i ≡ Some x → IsEmptyIn s x) → IsEmptyIn s x
    → (i : ℕ) (r y : Sets) → slice_get live i ≡ Some r → slice_get (shown ++ x ∷ []) i ≡ Some y → IsEmptyIn r y
shown_more {s} live shown x at count h own i r y e f = elim (last_or_before i (length shown) within) [
  | inl l ↦ h i r y e (sym (slice_get-append_front shown (x ∷ []) i l) ∙ f)
  | inr is ↦
      let a : x ≡ y = same_Some x y (sym (slice_get-append_here shown x []) ∙ subst (λ j. slice_get (shown ++ x ∷ []) j ≡ Some y) is f) in
      let b : s ≡ r = same_Some s r (sym at ∙ subst (λ j. slice_get live j ≡ Some r) (is ∙ count) e) in
      subst (λ q. IsEmptyIn q y) b (subst (λ q. IsEmptyIn s q) a own)
]
  where
    within : i < length shown + 1
    within = subst (λ k. i < k) (length-append shown (x ∷ [])) (slice_get_within (shown ++ x ∷ []) i y f)
