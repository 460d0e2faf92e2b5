-- One verdict of the input more.
use Rattle.std.proofs.Common.{◌∙◌, ◌≡◌, inl, inr, refl, sym, ap, subst, Bool, true, false, not, List, [], ◌∷◌, Option, Some, None, ℤ, drop}
use Rattle.std.specs.Prelude.{slice_get}
use mathlib.Core.Bool.{beq}
use Rattle.std.specs.Int.{w64}
use Rattle.rational.specs.Rational.{Rational, FitsFloor, add, whole}
use Rattle.frac128.specs.Spans.{interval}
use Rattle.stl_syntax.specs.Trace.{Trace}
use Rattle.stl_syntax.specs.Formula.{Subformula}
use Rattle.stl_syntax.specs.Truth.{Truth}
use Rattle.stl_syntax.specs.declared.items.Verdict.{Verdict}
use Rattle.rational.specs.Places.{Place, begins, ends, After, Upto, Before, Same, moved_begin, moved_end}
use Rattle.frac128.specs.Cuts.{place}
use Rattle.online_nodes.specs.Truths.{AllAre, Tells, Remembers, MeetsAfter, MeetsUpto}
use Rattle.online_nodes.specs.Written.{HasTold, Reaches}
use Rattle.online_nodes.specs.Sweeps.{low_place, high_place, Counted, IsWindowOf, IsSwept, Settles}
use Rattle.online_nodes.specs.declared.window.Window.{Window}
use Rattle.frac128.specs.declared.cut.Cut.{Cut}
use Rattle.online_nodes.specs.declared.window.Sweep.{Sweep}
use Rattle.online_nodes.specs.declared.writer.Out.{Out}
use Rattle.rational.proofs.PlaceLemmas.{sides, not_both, before_same, same_before, same_places, after_same, upto_same, upto_of_before}
use Rattle.online_nodes.proofs.WindowLaw.{IsMet, before_it, settled, remembers_of, knows_passed, knows_entered, knows_continued}
use Rattle.online_nodes.proofs.WindowPlaces.{meets_after, meets_upto}
use Rattle.online_nodes.proofs.ToldSoFar.{same_itself}

or_first : Verdict → Option Verdict → Verdict
or_first d None = d
or_first d (Some v) = v

-- a list with a first item begins with it
pub first_is : (l : List Verdict) (v : Verdict) → slice_get l 0 ≡ Some v
    → (rest : List Verdict) × (l ≡ v ∷ rest) × (drop 1 l ≡ rest)
unfolding or_first
first_is [] v e = absurd (let x : None ≡ Some v = e in cc)
first_is (w ∷ l) v e = (l, ap (λ x. x ∷ l) (let x : Some w ≡ Some v = e in ap (or_first w) x), refl)

-- a truth that is not the sought one is the other
pub sought_not : (a b : Bool) → not (beq a b) ≡ true → a ≡ not b
sought_not true true e = absurd (let x : false ≡ true = e in cc)
sought_not true false e = refl
sought_not false true e = refl
sought_not false false e = absurd (let x : false ≡ true = e in cc)

-- a truth that does not come out as another than the sought one is the sought one
pub sought_is : (a b : Bool) → not (beq a b) ≡ false → a ≡ b
sought_is true true e = refl
sought_is true false e = absurd (let x : true ≡ false = e in cc)
sought_is false true e = absurd (let x : true ≡ false = e in cc)
sought_is false false e = refl

-- where a window begins depends on the place alone
pub begin_alike : (r : Place) (k j : ℤ) (i : Bool) (c d : Place) → k ≡ j → c ≡ d → Same r (moved_begin k i c)
    → Same r (moved_begin j i d)
begin_alike r k j i c d e f h = subst (λ x. Same r (moved_begin x i d)) e (subst (λ x. Same r (moved_begin k i x)) f h)

-- where a window ends depends on the place alone
pub end_alike : (r : Place) (k j : ℤ) (i : Bool) (c d : Place) → k ≡ j → c ≡ d → Same r (moved_end k i c)
    → Same r (moved_end j i d)
end_alike r k j i c d e f h = subst (λ x. Same r (moved_end x i d)) e (subst (λ x. Same r (moved_end k i x)) f h)

-- whether a moved time fits depends on the time alone
pub fits_alike : (a b : Rational) (k j : ℤ) → a ≡ b → k ≡ j → FitsFloor w64 (add b (whole j)) → FitsFloor w64 (add a (whole k))
fits_alike a b k j e f h = subst (λ x. FitsFloor w64 (add x (whole k))) (sym e)
    (subst (λ x. FitsFloor w64 (add b (whole x))) (sym f) h)

-- where the first verdict begins to count beyond a place, so does whichever is the first
pub begins_beyond : (l : List Verdict) (v : Verdict) → slice_get l 0 ≡ Some v → (w : Window) (to from : Place) → Before to from
    → Same from (moved_begin w.begin_by w.begin_in (begins (interval v.on)))
    → (y : Verdict) → slice_get l 0 ≡ Some y → Before to (moved_begin w.begin_by w.begin_in (begins (interval y.on)))
begins_beyond l v first w to from later same y other =
    let both : Some v ≡ Some y = sym first ∙ other in
    let is : v ≡ y = cc in
    subst (λ (q : Verdict). Before to (moved_begin w.begin_by w.begin_in (begins (interval q.on)))) is
    (before_same to from (moved_begin w.begin_by w.begin_in (begins (interval v.on))) later same)

module _ (n p : Subformula) (tr : Trace) (w : Window) (begin : Place) (written : List Verdict) (read stop : Place) where
  remembers : (s : Sweep) (fresh : List Verdict) → IsWindowOf n p tr w (place s.out.to) stop
      → IsSwept n p tr w begin written s read stop fresh
      → Remembers w.seeks (Truth n tr) (Counted w.seeks p tr) (low_place w) (high_place w) (place s.out.at) (place s.reach) read
  remembers s fresh of m = remembers_of of.looks m.knows

  -- what is told lies before `stop`
  pub told_inside : (v : Verdict) (rest : List Verdict) → Tells (Counted w.seeks p tr) (ends (interval v.on)) rest stop
      → (u : Rational) → Upto (ends (interval v.on)) u → Upto stop u
  told_inside v [] s u h = upto_same (ends (interval v.on)) stop u s h
  told_inside v (x ∷ rest) (s, b, t, more) u h = told_inside x rest more u
      (upto_of_before (ends (interval v.on)) (ends (interval x.on)) u b h)

  -- all was read
  pub none_left : (s : Sweep) → IsWindowOf n p tr w (place s.out.to) stop → IsSwept n p tr w begin written s read stop []
      → Settles n tr w s
  none_left s of m t a b k =
      settled (place s.out.to) t (remembers s [] of m)
      (λ t u h i. elim (of.within t u h i) [ inl x ↦ inl (upto_same stop read u (same_places m.tells) x) | inr x ↦ inr x ]) a b k

  -- a verdict that is not sought
  pub not_sought : (s : Sweep) (v : Verdict) (rest : List Verdict) → v.holds ≡ not w.seeks
      → IsSwept n p tr w begin written s read stop (v ∷ rest)
      → IsSwept n p tr w begin written s (ends (interval v.on)) stop rest
  not_sought s v rest e m = record {
    told = m.told;
    knows = knows_passed (ends (interval v.on)) m.knows
        (subst (λ b. AllAre b (Counted w.seeks p tr) read (ends (interval v.on))) e m.tells.2);
    tells = m.tells.3;
  }

  -- where what v finds begins to count
  pub begins_there : (v : Verdict) (rest : List Verdict) (from : Place) → Tells (Counted w.seeks p tr) read (v ∷ rest) stop
      → Same from (moved_begin w.begin_by w.begin_in (begins (interval v.on)))
      → MeetsAfter (high_place w) read from
  begins_there v rest from tells s t = (there, back)
    where
      meets : MeetsAfter (high_place w) (begins (interval v.on)) (moved_begin w.begin_by w.begin_in (begins (interval v.on)))
      meets = meets_after w.begin_by w.begin_in (begins (interval v.on))

      there : After from t → Before read (high_place w t)
      there a = same_before read (begins (interval v.on)) (high_place w t) tells.0
          ((meets t).0 (after_same from (moved_begin w.begin_by w.begin_in (begins (interval v.on))) t s a))

      back : Before read (high_place w t) → After from t
      back b = after_same (moved_begin w.begin_by w.begin_in (begins (interval v.on))) from t (same_places s)
          ((meets t).1 (same_before (begins (interval v.on)) read (high_place w t) (same_places tells.0) b))

  -- up to where the window meets a verdict, it meets its end
  pub ends_there : (v : Verdict) (to : Place) → Same to (moved_end w.end_by w.end_in (ends (interval v.on)))
      → MeetsUpto (low_place w) (ends (interval v.on)) to
  ends_there v to s t = (there, back)
    where
      meets : MeetsUpto (low_place w) (ends (interval v.on)) (moved_end w.end_by w.end_in (ends (interval v.on)))
      meets = meets_upto w.end_by w.end_in (ends (interval v.on))

      there : Upto to t → Before (low_place w t) (ends (interval v.on))
      there a = (meets t).0 (upto_same to (moved_end w.end_by w.end_in (ends (interval v.on))) t s a)

      back : Before (low_place w t) (ends (interval v.on)) → Upto to t
      back b = upto_same (moved_end w.end_by w.end_in (ends (interval v.on))) to t (same_places s) ((meets t).1 b)

  -- what v finds does not count in this stretch
  pub too_late : (s : Sweep) (v : Verdict) (rest : List Verdict) (from : Place) → IsWindowOf n p tr w (place s.out.to) stop
      → Same from (moved_begin w.begin_by w.begin_in (begins (interval v.on)))
      → Before (place s.out.to) from → IsSwept n p tr w begin written s read stop (v ∷ rest) → Settles n tr w s
  too_late s v rest from of e later m t a b k =
      before_it from t (remembers s (v ∷ rest) of m) (begins_there v rest from m.tells e) a b (upto_of_before (place s.out.to) from t later k)

  -- up to `reach` the node is as was found
  pub found_part : (s : Sweep) (fresh : List Verdict) (at : Place)
      → ((t : Rational) → After (place s.out.at) t → Upto at t → Upto (place s.reach) t)
      → IsWindowOf n p tr w (place s.out.to) stop → IsSwept n p tr w begin written s read stop fresh
      → AllAre w.seeks (Truth n tr) (place s.out.at) at
  found_part s fresh at no_more of m t a u = (remembers s fresh of m).counts t a (no_more t a u)

  -- and then otherwise up to where v counts
  pub spared_part : {s : Sweep} {v : Verdict} {rest : List Verdict} {found out : Out} {from : Cut}
      → IsSwept n p tr w begin written s read stop (v ∷ rest) → IsWindowOf n p tr w (place s.out.to) stop
      → Reaches s.out s.reach found → Reaches found from out → found.to ≡ s.out.to
      → Same (place from) (moved_begin w.begin_by w.begin_in (begins (interval v.on)))
      → AllAre (not w.seeks) (Truth n tr) (place found.at) (place out.at)
  spared_part {s} {v} {rest} {found} {out} {from} m of one two same e t a u =
      before_it (place from) t (remembers s (v ∷ rest) of m) (begins_there v rest (place from) m.tells e)
      (elim (sides (place s.out.at) t) [ inl h ↦ absurd (not_both (place found.at) t (one.forward t h) a) | inr h ↦ h ])
      (elim (sides (place s.reach) t) [ inl h ↦ absurd (not_both (place found.at) t (one.reached t h inside) a) | inr h ↦ h ])
      (two.no_more t a u)
    where
      inside : Upto (place s.out.to) t
      inside = subst (λ (q : Cut). Upto (place q) t) same (two.inside t u)

  -- what v finds counts from now on
  pub counts_now : {s : Sweep} {v : Verdict} {rest : List Verdict} (next : Sweep) (from : Place) (more : List Verdict)
      → IsSwept n p tr w begin written s read stop (v ∷ rest) → IsWindowOf n p tr w (place s.out.to) stop → v.holds ≡ w.seeks
      → Same from (moved_begin w.begin_by w.begin_in (begins (interval v.on)))
      → Same (place next.reach) (moved_end w.end_by w.end_in (ends (interval v.on)))
      → ((t : Rational) → After (place next.out.at) t → After from t) → HasTold n tr begin more next.out
      → IsSwept n p tr w begin more next (ends (interval v.on)) stop rest
  counts_now {s} {v} {rest} next from more m of h e f later told = record {
    told = told;
    knows = knows_entered (place next.out.at) stop met of.some later (told_inside v rest m.tells.3);
    tells = m.tells.3;
  }
    where
      met : IsMet w.seeks (Counted w.seeks p tr) (low_place w) (high_place w) read (ends (interval v.on)) from (place next.reach)
      met = record {
        some = m.tells.1;
        is = subst (λ b. AllAre b (Counted w.seeks p tr) read (ends (interval v.on))) h m.tells.2;
        begin = begins_there v rest from m.tells e;
        end = ends_there v (place next.reach) f;
      }

  -- what v finds counts on from where what was found ends
  pub counts_on : {s : Sweep} {v : Verdict} {rest : List Verdict} (reach : Cut) → IsSwept n p tr w begin written s read stop (v ∷ rest)
      → IsWindowOf n p tr w (place s.out.to) stop → v.holds ≡ w.seeks
      → Same (place reach) (moved_end w.end_by w.end_in (ends (interval v.on)))
      → ((t : Rational) → After (place s.reach) t → After (moved_begin w.begin_by w.begin_in (begins (interval v.on))) t)
      → IsSwept n p tr w begin written (record { out = s.out; reach = reach }) (ends (interval v.on)) stop rest
  counts_on {s} {v} {rest} reach m of h f along = record {
    told = m.told;
    knows = knows_continued stop met of.some along (told_inside v rest m.tells.3) m.knows;
    tells = m.tells.3;
  }
    where
      begin_place : Place
      begin_place = moved_begin w.begin_by w.begin_in (begins (interval v.on))

      met : IsMet w.seeks (Counted w.seeks p tr) (low_place w) (high_place w) read (ends (interval v.on)) begin_place (place reach)
      met = record {
        some = m.tells.1;
        is = subst (λ b. AllAre b (Counted w.seeks p tr) read (ends (interval v.on))) h m.tells.2;
        begin = begins_there v rest begin_place m.tells (same_itself begin_place);
        end = ends_there v (place reach) f;
      }
