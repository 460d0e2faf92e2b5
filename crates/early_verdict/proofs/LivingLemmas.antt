-- What nodes look at, where they go on from fewer times, or where their children show other ones.
use Rattle.std.proofs.Common.{◌≡◌, inl, inr, refl, sym, subst, ◌∙◌, ℕ, false, true, Option, Some, None, List}
use Rattle.std.specs.Prelude.{MatchOption, IsSome, slice_get}
use Rattle.rational.specs.Time.{Rational, ◌≤ʳ◌}
use Rattle.stl_syntax.specs.declared.atom.Atom.{Atom}
use Rattle.stl_syntax.specs.declared.node.Node.{Node}
use Rattle.stl_syntax.specs.declared.node.Node.TheVariants.{Const, Atom as Leaf, Not, And, Or, Implies, Until, Eventually, Always, Since, Once, Historically}
use Rattle.stl_syntax.specs.Cells.{IsChild}
use Rattle.growing_sets.specs.Spans.{IsOn, Lies}
use Rattle.early_verdict.specs.Fitting.{FailWithin, HasFailBounds, KeepsBounds, lists_at}
use Rattle.early_verdict.specs.Standing.{HasParts, left_of}
use Rattle.early_verdict.specs.Living.{IsLive, IsShown, LooksAt, ReachesAhead, ReachesBack}
use Rattle.early_verdict.specs.Letting.{IsInside}
use Rattle.growing_sets.specs.declared.stretch.Stretch.{Stretch}
use Rattle.early_verdict.specs.declared.sets.Sets.{Sets}
use Rattle.early_verdict.specs.declared.sets.Parts.{Parts}

-- an atom goes on from what it shows
pub live_leaf : {from : Rational} {shown : List Sets} (a : Atom) (x : Sets) → x.yes.bounds ≡ x.no.bounds
    → ((t : Rational) → Lies x.no.bounds t → from ≤ʳ t) → IsInside x → IsLive from shown (Leaf a) x x
live_leaf a x same starts inside = record {
  own = x.no.bounds;
  yes = same;
  no = refl;
  starts = starts;
  looks = tt;
  left = tt;
  shown_yes = same;
  shown_starts = starts;
  yes_within = inside.yes;
  no_within = inside.no;
  shows_yes = λ t o l. o;
  shows_no = λ t o l. o;
  early = λ t l. inl l;
}

-- the sets between have the bounds that they had
abbrev pub ArePartsKept : Option Parts → Option Parts → Type 0
ArePartsKept old new = MatchOption old (new ≡ None) (λ x. MatchOption new ⊥ (KeepsBounds x))

in_same : (a b : Stretch) (t : Rational) → b ≡ a → Lies a t → Lies b t
in_same a b t e l = subst (λ s. Lies s t) (sym e) l

module _ (from : Rational) (own own' : Stretch) (less : (t : Rational) → Lies own' t → Lies own t) where
  ahead_parts : (b : ℕ) (old new : Option Parts) → ArePartsKept old new → MatchOption old (Unit {0}) (ReachesAhead from b own)
      → MatchOption new (Unit {0}) (ReachesAhead from b own')
  ahead_parts b None new e h = subst (λ o. MatchOption o (Unit {0}) (ReachesAhead from b own')) (sym e) tt
  ahead_parts b (Some x) None e h = absurd e
  ahead_parts b (Some x) (Some y) e h = record {
    some = λ t l. let k = h.some t (less t l) in (
      in_same x.holding.some.bounds y.holding.some.bounds t e.holding.some k.0,
      in_same x.holding.each.bounds y.holding.each.bounds t e.holding.each k.1,
    );
    never = λ t l. let k = h.never t (less t l) in (
      in_same x.failing.never.bounds y.failing.never.bounds t e.failing.never k.0,
      in_same x.failing.broken.bounds y.failing.broken.bounds t e.failing.broken k.1,
    );
    both = λ t u l f g. let k = h.both t u (less t l) f g in (
      in_same x.holding.both.bounds y.holding.both.bounds u e.holding.both k.0,
      in_same x.holding.run.bounds y.holding.run.bounds u e.holding.run k.1,
    );
    fail = λ t u l f g. let k = h.fail t u (less t l) f g in (
      in_same x.failing.fail.bounds y.failing.fail.bounds u e.failing.fail k.0,
      in_same x.failing.stop.bounds y.failing.stop.bounds u e.failing.stop k.1,
    );
  }

  back_parts : (b : Option ℕ) (p : ℕ) (shown shown' : List Sets) → ((u : Rational) → IsShown shown' p u → IsShown shown p u) → (old new : Option Parts)
      → ArePartsKept old new → MatchOption old (Unit {0}) (ReachesBack from b p shown own) → MatchOption new (Unit {0}) (ReachesBack from b p shown' own')
  back_parts b p shown shown' was None new e h = subst (λ o. MatchOption o (Unit {0}) (ReachesBack from b p shown' own')) (sym e) tt
  back_parts b p shown shown' was (Some x) None e h = absurd e
  back_parts b p shown shown' was (Some x) (Some y) e h = record {
    some = λ t l. let k = h.some t (less t l) in (
      in_same x.holding.some.bounds y.holding.some.bounds t e.holding.some k.0,
      in_same x.holding.each.bounds y.holding.each.bounds t e.holding.each k.1,
    );
    never = λ t l. let k = h.never t (less t l) in (
      in_same x.failing.never.bounds y.failing.never.bounds t e.failing.never k.0,
      in_same x.failing.broken.bounds y.failing.broken.bounds t e.failing.broken k.1,
    );
    both = λ t u l o i. let k = h.both t u (less t l) o (was u i) in
        (in_same x.holding.both.bounds y.holding.both.bounds u e.holding.both k.0, in_same x.holding.run.bounds y.holding.run.bounds u e.holding.run k.1);
    fail = λ t u l o i. let k = h.fail t u (less t l) o (was u i) in (
      in_same x.failing.fail.bounds y.failing.fail.bounds u e.failing.fail k.0,
      in_same x.failing.stop.bounds y.failing.stop.bounds u e.failing.stop k.1,
    );
  }

  -- a node that goes on from fewer times looks at no more
  pub looks_as : (n : Node) (shown shown' : List Sets) (old new : Option Parts)
      → ((p : ℕ) → IsChild n p → (u : Rational) → IsShown shown p u → IsShown shown' p u)
      → ((p : ℕ) → IsChild n p → (u : Rational) → IsShown shown' p u → IsShown shown p u)
      → ((p : ℕ) → IsChild n p → (u : Rational) → (IsOn (lists_at shown p).yes u → IsOn (lists_at shown' p).yes u)
      × (IsOn (lists_at shown p).no u → IsOn (lists_at shown' p).no u))
      → ArePartsKept old new → LooksAt n from shown own old → LooksAt n from shown' own' new
  looks_as (Const b) shown shown' old new f i g e h = tt
  looks_as (Leaf a) shown shown' old new f i g e h = tt
  looks_as (Not p) shown shown' old new f i g e h = λ t l. f p refl t (h t (less t l))
  looks_as (And p q) shown shown' old new f i g e h = λ t l. let k = h t (less t l) in (f p (inl refl) t k.0, f q (inr refl) t k.1)
  looks_as (Or p q) shown shown' old new f i g e h = λ t l. let k = h t (less t l) in (f p (inl refl) t k.0, f q (inr refl) t k.1)
  looks_as (Implies p q) shown shown' old new f i g e h = λ t l. let k = h t (less t l) in (f p (inl refl) t k.0, f q (inr refl) t k.1)
  looks_as (Until p q a b) shown shown' old new f i g e h =
      (λ t u l c d. let k = h.0 t u (less t l) c d in (f p (inl refl) u k.0, f q (inr refl) u k.1), ahead_parts b old new e h.1)
  looks_as (Eventually p a b x y) shown shown' old new f i g e h = λ t u l o. f p refl u (h t u (less t l) o)
  looks_as (Always p a b x y) shown shown' old new f i g e h = λ t u l o. f p refl u (h t u (less t l) o)
  looks_as (Since p q a b) shown shown' old new f i g e h = (
    λ t l. elim (h.0 t (less t l)) [
      | inl k ↦ inl (λ u o. let m = k u o in (f p (inl refl) u m.0, f q (inr refl) u m.1))
      | inr (w, o, k, d) ↦ inr (
        w,
        o,
        λ v r. let m = k v r in (f p (inl refl) v m.0, f q (inr refl) v m.1),
        elim d [ inl y ↦ inl ((g p (inl refl) w).0 y.0, (g q (inr refl) w).0 y.1) | inr y ↦ inr ((g p (inl refl) w).1 y) ],
      )
    ],
    back_parts b p shown shown' (i p (inl refl)) old new e h.1,
  )
  looks_as (Once p a b x y) shown shown' old new f i g e h =
      λ t u l o. elim (h t u (less t l) o) [ inl k ↦ inl (f p refl u k) | inr (w, d, k, y) ↦ inr (w, d, f p refl w k, (g p refl w).0 y) ]
  looks_as (Historically p a b x y) shown shown' old new f i g e h =
      λ t u l o. elim (h t u (less t l) o) [ inl k ↦ inl (f p refl u k) | inr (w, d, k, y) ↦ inr (w, d, f p refl w k, (g p refl w).1 y) ]

some_still : (old new : Option Parts) → ArePartsKept old new → IsSome old → IsSome new
some_still None new e s = absurd (let f : false ≡ true = s in cc)
some_still (Some x) None e s = absurd e
some_still (Some x) (Some y) e s = refl

fail_bounds : (s s' l l' : Sets) → ArePartsKept s.parts s'.parts → l'.no.bounds ≡ l.no.bounds → HasFailBounds s l → HasFailBounds s' l'
fail_bounds s s' l l' e q h = by_parts s.parts s'.parts e h
  where
    by_parts : (o n : Option Parts) → ArePartsKept o n
        → MatchOption o (Unit {0}) (FailWithin l.no.bounds) → MatchOption n (Unit {0}) (FailWithin l'.no.bounds)
    by_parts None n e h = subst (λ o. MatchOption o (Unit {0}) (FailWithin l'.no.bounds)) (sym e) tt
    by_parts (Some x) None e h = absurd e
    by_parts (Some x) (Some y) e h = (e.failing.fail ∙ h.0 ∙ sym q, e.failing.stop ∙ h.1 ∙ sym q)

-- it has its sets between still
pub parts_as : (n : Node) (s s' : Sets) (shown shown' : List Sets) → ArePartsKept s.parts s'.parts
    → ((p : ℕ) (l' : Sets) → left_of n ≡ Some p → slice_get shown' p ≡ Some l' → (l : Sets) × (slice_get shown p ≡ Some l) × (l'.no.bounds ≡ l.no.bounds))
    → HasParts n s shown → HasParts n s' shown'
parts_as n s s' shown shown' e f h = by_left (left_of n) f h
  where
    by_left : (o : Option ℕ)
        → ((p : ℕ) (l' : Sets) → o ≡ Some p → slice_get shown' p ≡ Some l' → (l : Sets) × (slice_get shown p ≡ Some l) × (l'.no.bounds ≡ l.no.bounds))
        → MatchOption o (Unit {0}) (λ p. IsSome s.parts × ((l : Sets) → slice_get shown p ≡ Some l → HasFailBounds s l))
        → MatchOption o (Unit {0}) (λ p. IsSome s'.parts × ((l : Sets) → slice_get shown' p ≡ Some l → HasFailBounds s' l))
    by_left None f h = tt
    by_left (Some p) f h = (some_still s.parts s'.parts e h.0, λ l' g. let w = f p l' refl g in fail_bounds s s' w.0 l' e w.2 (h.1 w.0 w.1))
