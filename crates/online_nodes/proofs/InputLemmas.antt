-- What an operator's input edge holds: a part of what the input gave out, up to its front, that tells its truth.
use Rattle.std.proofs.Common.{◌≡◌, inl, inr, refl, sym, subst, Bool, true, false, List, [], ◌∷◌}
use Rattle.std.specs.Prelude.{cond}
use Rattle.rational.specs.Rational.{Rational}
use Rattle.rational.specs.Time.{Within, less}
use Rattle.frac128.specs.Spans.{interval}
use Rattle.frac128.specs.Value.{value}
use Rattle.stl_syntax.specs.Trace.{Trace, start, stop}
use Rattle.stl_syntax.specs.Formula.{Subformula}
use Rattle.stl_syntax.specs.Truth.{Truth}
use Rattle.stl_syntax.specs.declared.items.Verdict.{Verdict}
use Rattle.rational.specs.Places.{Place, begins, ends, After, Upto, AtMost}
use Rattle.online_nodes.specs.Laws.{AreTiles, AreTold, beyond}
use Rattle.online_nodes.specs.Truths.{Is, Tells}
use Rattle.online_nodes.specs.Sweeps.{Counted}
use Rattle.online_nodes.proofs.HeldLaw.{is_in}
use Rattle.rational.proofs.PlaceLemmas.{sides, not_both, upto_of_before, upto_same, after_same, same_before}

-- verdicts that lead on without gap and are told tell the truth
pub tells_of : (p : Subformula) (tr : Trace) (c : Place) (vs : List Verdict) (d : Place) → AreTiles c vs d → AreTold p tr vs
    → Tells (Truth p tr) c vs d
tells_of p tr c [] d same told = same
tells_of p tr c (v ∷ vs) d (s, b, rest) (told, more) = (
  s,
  same_before c (begins (interval v.on)) (ends (interval v.on)) s b,
  λ t a u. told.truth t (is_in (interval v.on) t (after_same c (begins (interval v.on)) t s a) u),
  tells_of p tr (ends (interval v.on)) vs d rest more,
)

-- within the trace what counts is the truth
counted_is : (seeks b : Bool) (p : Subformula) (tr : Trace) (t : Rational) → Within (start tr) (stop tr) t → Is b (Truth p tr) t
    → Is b (Counted seeks p tr) t
counted_is true true p tr t w x = (w, x)
counted_is true false p tr t w x = λ c. x c.1
counted_is false true p tr t w x = λ _. x
counted_is false false p tr t w x = λ f. x (f w)

-- verdicts that tell a truth tell it where only the trace's times count
pub counted_tells : (seeks : Bool) (p : Subformula) (tr : Trace) (c : Place) (vs : List Verdict) (d : Place)
    → ((t : Rational) → After c t → Upto d t → Within (start tr) (stop tr) t) → Tells (Truth p tr) c vs d → Tells (Counted seeks p tr) c vs d
counted_tells seeks p tr c [] d within same = same
counted_tells seeks p tr c (v ∷ vs) d within (s, b, told, rest) = (
  s,
  b,
  λ t a u. counted_is seeks v.holds p tr t (within t a (leads (ends (interval v.on)) vs d rest t u)) (told t a u),
  counted_tells seeks p tr (ends (interval v.on)) vs d
      (λ t a u. within t (later t a) u) rest,
)
  where
    leads : (e : Place) (ws : List Verdict) (d : Place) → Tells (Truth p tr) e ws d → (t : Rational) → Upto e t → Upto d t
    leads e [] d same t h = upto_same e d t same h
    leads e (w ∷ ws) d (s, b, told, more) t h = leads (ends (interval w.on)) ws d more t (upto_of_before e (ends (interval w.on)) t b h)

    later : (t : Rational) → After (ends (interval v.on)) t → After c t
    later t a = elim (sides c t) [ inl u ↦ absurd (not_both (ends (interval v.on)) t (upto_of_before c (ends (interval v.on)) t b u) a) | inr x ↦ x ]

-- what is left of a list without gap once some of its first verdicts are gone
pub tiles_beyond : (lo : Rational) (c : Place) (vs : List Verdict) (d : Place) → AreTiles c vs d
    → (begin : Place) × AreTiles begin (beyond lo vs) d × AtMost c begin
tiles_beyond lo c [] d same = (c, same, λ t h. h)
tiles_beyond lo c (v ∷ vs) d (s, b, rest) = by_test (tiles_beyond lo (ends (interval v.on)) vs d rest) (less lo (value v.on.to)) refl
  where
    by_test : (begin : Place) × AreTiles begin (beyond lo vs) d × AtMost (ends (interval v.on)) begin → (t : Bool) → less lo (value v.on.to) ≡ t
        → (begin : Place) × AreTiles begin (cond (less lo (value v.on.to)) (v ∷ vs) (beyond lo vs)) d × AtMost c begin
    by_test more true e = (
      c,
      subst (λ t. AreTiles c (cond t (v ∷ vs) (beyond lo vs)) d) (sym e) (s, b, rest),
      λ t h. h,
    )
    by_test more false e = (
      more.0,
      subst (λ t. AreTiles more.0 (cond t (v ∷ vs) (beyond lo vs)) d) (sym e) more.1,
      λ t h. more.2 t (upto_of_before (begins (interval v.on)) (ends (interval v.on)) t b (upto_same c (begins (interval v.on)) t s h)),
    )

-- verdicts of the truth that end behind a time tell it
pub told_beyond : (p : Subformula) (tr : Trace) (lo : Rational) (vs : List Verdict) → AreTold p tr vs → AreTold p tr (beyond lo vs)
told_beyond p tr lo [] h = h
told_beyond p tr lo (v ∷ vs) h = by_test (told_beyond p tr lo vs h.1) (less lo (value v.on.to)) refl
  where
    by_test : AreTold p tr (beyond lo vs) → (t : Bool) → less lo (value v.on.to) ≡ t → AreTold p tr (cond (less lo (value v.on.to)) (v ∷ vs) (beyond lo vs))
    by_test more true e = subst (λ t. AreTold p tr (cond t (v ∷ vs) (beyond lo vs))) (sym e) h
    by_test more false e = subst (λ t. AreTold p tr (cond t (v ∷ vs) (beyond lo vs))) (sym e) more
