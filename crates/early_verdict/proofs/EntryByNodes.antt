-- One entry goes on from node to node.
use Rattle.std.proofs.Common.{◌≡◌, ◌≢◌, ◌⊎◌, inl, inr, refl, sym, subst, ◌∙◌, ℕ, ◌+◌, ◌<◌, ◌≤◌}
use Rattle.std.proofs.Common.{false, Option, Some, None, List, take, arith, below_more}
use Rattle.std.specs.Prelude.{slice_get}
use Rattle.std.proofs.lemmas.Option.{same_Some, slice_get_within}
use Rattle.rational.proofs.Lists.{slice_get_there}
use Rattle.stl_syntax.specs.Trace.{Row, Trace, start}
use Rattle.stl_syntax.specs.Formula.{HasChildrenBelow}
use Rattle.stl_syntax.specs.declared.node.Node.{Node}
use Rattle.stl_syntax.specs.declared.node.Node.TheVariants.{Atom as Leaf}
use Rattle.atom_lines.specs.Binding.{Binding}
use Rattle.growing_sets.specs.Spans.{Lies}
use Rattle.early_verdict.specs.Fitting.{Lists, Fits, AreSetsTidy, lists_at}
use Rattle.early_verdict.specs.Changing.{ChangedTo, ChangesAt}
use Rattle.early_verdict.specs.Happening.{Had, Happens, Was}
use Rattle.early_verdict.specs.Looking.{WasList}
use Rattle.early_verdict.specs.Standing.{AllGo, AllTidy, AllWere, HadAll, HasParts, LeafGoes, StepsAt, SteppedTo}
use Rattle.early_verdict.specs.Living.{AreLive, HasShown, IsLive, ShowsAt, ShownTo}
use Rattle.early_verdict.specs.declared.entry.Entry.{Entry}
use Rattle.early_verdict.specs.declared.sets.Sets.{Sets}
use Rattle.early_verdict.proofs.FitLemmas.{fits_alike}
use Rattle.early_verdict.proofs.AllSets.{lists_are}
use Rattle.early_verdict.proofs.LivingLemmas.{parts_as}
use Rattle.early_verdict.proofs.SetsTell.{parts_kept}
use Rattle.early_verdict.proofs.SplitLists.{changed_as, changed_each}
use Rattle.early_verdict.proofs.Places.{taken_at, taken_within, lists_by}

-- a place no later is before or there
nat_or : (j i : ℕ) → j ≤ i → (j < i) ⊎ (j ≡ i)
nat_or j i h = below_more (λ k. (k < i) ⊎ (k ≡ i)) i (λ k l. inl l) (inr refl) j (omega (arith, h))

-- one place more
pub changed_on : {R S : ℕ → Sets → Sets → Type 0} {i : ℕ} {old mid new : List Sets} → ((j : ℕ) (s r : Sets) → j < i → R j s r → S j s r)
    → ChangedTo i old mid R → ChangesAt i mid new (S i) → ChangedTo (i + 1) old new S
changed_on {S = S} {i = i} {old = old} {new = new} f h at = record {
  count = at.count ∙ h.count;
  each = λ j s r l e g. elim (nat_or j i (omega (arith, l))) [
    | inl k ↦ f j s r k (h.each j s r k e (sym (at.others j (omega (arith, k))) ∙ g))
    | inr q ↦
        let c = same_Some at.was s (sym at.at_old ∙ h.others i (omega arith) ∙ subst (λ k. slice_get old k ≡ Some s) q e) in
        let d = same_Some at.is r (sym at.at_new ∙ subst (λ k. slice_get new k ≡ Some r) q g) in
        subst (λ k. S k s r) (sym q) (subst (λ x. S i x r) c (subst (λ x. S i at.was x) d at.by))
  ];
  others = λ j l. at.others j (omega (arith, l)) ∙ h.others j (omega (arith, l));
}

-- before the first node none has changed
pub changed_none : {R : ℕ → Sets → Sets → Type 0} (xs : List Sets) → ChangedTo 0 xs xs R
changed_none xs = record { count = refl; each = λ j s r l. absurd (omega (arith, l)); others = λ j l. refl }

-- sets stay tidy after a node's step
pub tidy_on : (i : ℕ) (mid new : List Sets) → AllTidy mid → StepsAt i mid new → AllTidy new
tidy_on i mid new h at = changed_each (λ j s. AreSetsTidy s) at at.by.tidy h

-- one node more shows what it has
pub shown_on : {i : ℕ} (mid : List Sets) {live old xs new : List Sets} → ((j : ℕ) → j ≢ i → slice_get live j ≡ slice_get mid j) → ShownTo i mid old xs
    → ShowsAt i live xs new → ShownTo (i + 1) live old new
shown_on mid same h at = changed_on (λ j s r l k o e. k o (sym (same j (omega (arith, l))) ∙ e)) h
    (changed_as (λ s r e k o g. subst (λ z. HasShown s r z) (same_Some k.own o (sym k.at_live ∙ g)) k.shown) at)

-- what nodes show stays tidy with one node more
pub shown_tidy_on : (i : ℕ) (live mid new : List Sets) → AllTidy mid → ShowsAt i live mid new → AllTidy new
shown_tidy_on i live mid new h at = changed_each (λ j s. AreSetsTidy s) at at.by.shown.tidy h

-- what has stepped goes on from what was, and shows so
module _ {nodes : List Node} (b : Binding) {e : Entry} (before : Option Row) (r : Row) {old : Option Trace} {tr : Trace}
    {first first_shown : List Sets}
    (happens : Happens e old tr) (have : AreLive nodes (start tr) first first_shown) (go : AllGo nodes b e old tr before r)
    (were : AllWere old nodes first first_shown) where
  -- what was empty before any row had no list
  had_first : (p : ℕ) (s : Sets) → slice_get first_shown p ≡ Some s → WasList old s.yes.spans.items × WasList old s.no.spans.items
  had_first p s at = by_old old were
    where
      by_old : (o : Option Trace) → AllWere o nodes first first_shown → WasList o s.yes.spans.items × WasList o s.no.spans.items
      by_old None w = let m = w.1 p s at in (m.yes, m.no)
      by_old (Some o) w = (tt, tt)

  -- what a child that has stepped had
  child_had : {mid mid_shown : List Sets} (i : ℕ) → SteppedTo i first mid → ShownTo i mid first_shown mid_shown
      → (p : ℕ) (n : Node) (x : Sets) → p < i → slice_get nodes p ≡ Some n
      → slice_get mid_shown p ≡ Some x → Had old tr (lists_at first_shown p) x
  child_had {mid} {mid_shown} i g h p n x l at is =
      let q = slice_get_within mid_shown p x is in
      let w = slice_get_there first_shown p (let c = h.count in omega (arith, q, c)) in
      let o = slice_get_there first p (let c = h.count in let d = have.count in let f = have.shown_count in omega (arith, q, c, d, f)) in
      let m = slice_get_there mid p (let c = h.count in let d = have.count in let f = have.shown_count in let y = g.count in omega (arith, q, c, d, f, y)) in
      let step = h.each p w.0 x l w.1 is m.0 m.1 in
      by_step w.0 o.0 w.1 (have.has p n o.0 w.0 at o.1 w.1) m.0 step
    where
      by_step : (w o : Sets) → slice_get first_shown p ≡ Some w → IsLive (start tr) first_shown n o w → (m : Sets)
          → HasShown w x m → Had old tr (lists_at first_shown p) x
      by_step w o e k m step = subst (λ l. Had old tr l x) (sym (lists_are first_shown p w e)) (record {
        yes = record {
          gains = step.gains_yes;
          first = (had_first p w e).0;
          within = λ u y. subst (λ z. Lies z u) (sym step.yes) (elim (step.takes_yes.only u y) [
            | inl z ↦ subst (λ c. Lies c u) (sym k.shown_yes) (k.yes_within u z)
            | inr z ↦ z.0
          ]);
          from = λ u y. k.shown_starts u (subst (λ c. Lies c u) (step.yes ∙ k.shown_yes) y);
        };
        no = record {
          gains = step.gains_no;
          first = (had_first p w e).1;
          within = λ u y. subst (λ z. Lies z u) (sym step.no) (elim (step.takes_no.only u y) [
            | inl z ↦ k.no_within u z
            | inr z ↦ z.0
          ]);
          from = λ u y. k.shown_starts u (subst (λ c. Lies c u) step.no y);
        };
      })

  -- until and since have their sets between
  has_parts : {mid mid_shown : List Sets} (i : ℕ) → SteppedTo i first mid → ShownTo i mid first_shown mid_shown → (n : Node) (s x : Sets)
      → slice_get nodes i ≡ Some n → slice_get first i ≡ Some s
      → slice_get first_shown i ≡ Some x → HasParts n s (take i mid_shown)
  has_parts {mid} {mid_shown} i g h n s x at is ix = parts_as n s s first_shown (take i mid_shown) (parts_kept s.parts s.parts refl)
      (λ p l e z.
      let k = taken_within mid_shown i p l z in
      let f = sym (taken_at mid_shown i p k) ∙ z in
      let q = slice_get_within mid_shown p l f in
      let w = slice_get_there first_shown p (let c = h.count in omega (arith, q, c)) in
      let m = slice_get_there mid p (let c = h.count in let d = have.count in let y = have.shown_count in let v = g.count in
      omega (arith, q, c, d, y, v)) in
      (w.0, w.1, (h.each p w.0 l k w.1 f m.0 m.1).no))
      (have.has i n s x at is ix).left

  leaf_goes : (i : ℕ) (n : Node) (s x : Sets) → slice_get nodes i ≡ Some n → slice_get first i ≡ Some s
      → slice_get first_shown i ≡ Some x → LeafGoes b i e old tr before r s n
  leaf_goes i (Leaf a) s x at is ix =
      let g = go i a at in
      let k = have.has i (Leaf a) s x at is ix in
      (g.0, g.1, λ t l. elim l [ inl y ↦ k.starts t (subst (λ c. Lies c t) k.yes y) | inr y ↦ k.starts t (subst (λ c. Lies c t) k.no y) ])
  leaf_goes i _ s x at is ix = tt

  own_was : (i : ℕ) (n : Node) (s : Sets) → slice_get nodes i ≡ Some n → slice_get first i ≡ Some s → Was old (λ o. Fits n false o (lists_at first_shown)) s
  own_was i n s at is = by_old old were
    where
      by_old : (o : Option Trace) → AllWere o nodes first first_shown → Was o (λ o. Fits n false o (lists_at first_shown)) s
      by_old None w = w.0 i s is
      by_old (Some o) w = w i n s at is

  -- one node more fits
  pub fits_on : {i : ℕ} {mid mid_shown new new_shown : List Sets} {n : Node} → SteppedTo i first mid → ShownTo i mid first_shown mid_shown
      → (at : StepsAt i mid new) → ShowsAt i new mid_shown new_shown → ((j : ℕ) (m : Node) → slice_get nodes j ≡ Some m → HasChildrenBelow j m)
      → slice_get nodes i ≡ Some n
      → ((j : ℕ) (m : Node) (s : Sets) → j < i → slice_get nodes j ≡ Some m → slice_get mid j ≡ Some s → Fits m e.ended tr (lists_at mid_shown) s)
      → ((was : ℕ → Lists) → Happens e old tr → HadAll old tr was (take i mid_shown) → HasParts n at.was (take i mid_shown)
      → LeafGoes b i e old tr before r at.was n
      → Was old (λ o. Fits n false o was) at.was → Fits n e.ended tr (lists_at (take i mid_shown)) at.is)
      → (j : ℕ) (m : Node) (s : Sets) → j < i + 1 → slice_get nodes j ≡ Some m → slice_get new j ≡ Some s → Fits m e.ended tr (lists_at new_shown) s
  fits_on {i} {mid} {mid_shown} {new} {new_shown} {n} h g at shows below here fit last =
      λ j m s l node is. by_place j m s node is (nat_or j i (omega (arith, l)))
    where
      was_here : slice_get first i ≡ Some at.was
      was_here = sym (h.others i (omega arith)) ∙ at.at_old

      -- the children's lists are as they were
      lists_stay : (k : ℕ) → k ≤ i → (p : ℕ) → p < k → lists_at mid_shown p ≡ lists_at new_shown p
      lists_stay k o p f = lists_by mid_shown new_shown p (sym (shows.others p (omega (arith, f, o))))

      lists_taken : (p : ℕ) → p < i → lists_at (take i mid_shown) p ≡ lists_at new_shown p
      lists_taken p f = lists_by (take i mid_shown) mid_shown p (taken_at mid_shown i p f) ∙ lists_stay i (omega arith) p f

      had : HadAll old tr (lists_at first_shown) (take i mid_shown)
      had p q z =
          let k = taken_within mid_shown i p q z in
          let f = sym (taken_at mid_shown i p k) ∙ z in
          let w = slice_get_within mid_shown p q f in
          let x = slice_get_there nodes p (let c = g.count in let d = have.shown_count in omega (arith, w, c, d)) in
          child_had i h g p x.0 q k x.1 f

      shown_here : (x : Sets) × (slice_get first_shown i ≡ Some x)
      shown_here = slice_get_there first_shown i
          (let a = slice_get_within first i at.was was_here in let c = have.count in let d = have.shown_count in omega (arith, a, c, d))

      newest : Fits n e.ended tr (lists_at new_shown) at.is
      newest = fits_alike n i e.ended tr (lists_at (take i mid_shown)) (lists_at new_shown) at.is (below i n here) lists_taken
          (last (lists_at first_shown) happens had (has_parts i h g n at.was shown_here.0 here was_here shown_here.1)
          (leaf_goes i n at.was shown_here.0 here was_here shown_here.1) (own_was i n at.was here was_here))

      by_place : (j : ℕ) (m : Node) (s : Sets) → slice_get nodes j ≡ Some m → slice_get new j ≡ Some s → (j < i) ⊎ (j ≡ i)
          → Fits m e.ended tr (lists_at new_shown) s
      by_place j m s node is (inl f) = fits_alike m j e.ended tr (lists_at mid_shown) (lists_at new_shown) s (below j m node) (lists_stay j (omega (arith, f)))
          (fit j m s f node (sym (at.others j (omega (arith, f))) ∙ is))
      by_place j m s node is (inr q) =
          let a : slice_get nodes i ≡ Some m = subst (λ k. slice_get nodes k ≡ Some m) q node in
          let c : slice_get new i ≡ Some s = subst (λ k. slice_get new k ≡ Some s) q is in
          subst (λ x. Fits x e.ended tr (lists_at new_shown) s) (same_Some n m (sym here ∙ a))
          (subst (λ x. Fits n e.ended tr (lists_at new_shown) x) (same_Some at.is s (sym at.at_new ∙ c)) newest)
