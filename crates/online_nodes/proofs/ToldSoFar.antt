-- What was told, once a verdict more is said.
use Rattle.std.proofs.Common.{◌≡◌, ◌⊎◌, inl, inr, refl, sym, ap, subst, ◌∙◌, Bool, true, false, not, Option, Some, None, List, [], ◌∷◌, ◌++◌}
use Rattle.std.specs.Prelude.{MatchBool, MatchOption, ◌≢◌}
use mathlib.Core.Bool.{beq}
use Rattle.rational.specs.Rational.{Rational, ◌≤ʳ◌, ◌<ʳ◌}
use Rattle.rational.specs.Time.{Interval, IsIn, IsNotEmpty}
use Rattle.rational.proofs.Order.{same_refl, same_sym}
use Rattle.frac128.specs.Spans.{interval}
use Rattle.stl_syntax.specs.Trace.{Trace}
use Rattle.stl_syntax.specs.Formula.{Subformula}
use Rattle.stl_syntax.specs.Truth.{Truth}
use Rattle.stl_syntax.specs.Verdicts.{Describes, GoesOn, IsTold}
use Rattle.stl_syntax.specs.declared.items.Verdict.{Verdict}
use Rattle.rational.specs.Places.{Place, After, Upto, Before, Same, begins, ends}
use Rattle.frac128.specs.Cuts.{place}
use Rattle.online_nodes.specs.Truths.{Truths, AllAre}
use Rattle.online_nodes.specs.Held.{Held}
use Rattle.online_nodes.specs.Written.{Lead, HasTold, IsPutBack, IsSound}
use Rattle.frac128.specs.declared.cut.Cut.{Cut}
use Rattle.online_nodes.specs.declared.writer.Out.{Out}
use Rattle.rational.proofs.PlaceLemmas.{sides, not_both, between, same_places, same_trans_places, same_before, before_same}
use Rattle.rational.proofs.PlaceLemmas.{before_trans, after_same, upto_same}

-- told on two stretches that join is told on both together
pub joined : (b : Bool) (P : Truths) (c d e : Place) → AllAre b P c d → AllAre b P d e → AllAre b P c e
joined b P c d e h k t after upto = elim (sides d t) [ inl u ↦ h t after u | inr a ↦ k t a upto ]

-- a truth told between two places is told between the same
pub told_same : (b : Bool) (P : Truths) (c d c' d' : Place) → Same c c' → Same d d' → AllAre b P c d → AllAre b P c' d'
told_same b P c d c' d' s r h t after upto = h t (after_same c' c t (same_places s) after) (upto_same d' d t (same_places r) upto)

-- a place is itself
pub same_itself : (c : Place) → Same c c
same_itself c = (same_refl c.at, refl)

-- the times of an interval lie after where it begins and before where it ends
pub in_after : (on : Interval) (t : Rational) → IsIn on t → After (begins on) t
in_after on t h = by_end on.from_in h.above
  where
    by_end : (b : Bool) → MatchBool b (on.from ≤ʳ t) (on.from <ʳ t) → MatchBool (not b) (on.from <ʳ t) (on.from ≤ʳ t)
    by_end true x = x
    by_end false x = x

-- a time of a stretch does not lie behind its end
pub in_upto : (on : Interval) (t : Rational) → IsIn on t → Upto (ends on) t
in_upto on t h = by_end on.to_in h.below
  where
    by_end : (b : Bool) → MatchBool b (t ≤ʳ on.to) (t <ʳ on.to) → MatchBool b (t ≤ʳ on.to) (t <ʳ on.to)
    by_end true x = x
    by_end false x = x

-- a stretch whose begin lies before its end has a time
pub some_in : (on : Interval) → Before (begins on) (ends on) → IsNotEmpty on
some_in on (inl l) = inl l
some_in on (inr (s, e, f)) = inr (s, by_end on.from_in e, f)
  where
    by_end : (b : Bool) → not b ≡ false → b ≡ true
    by_end true x = refl
    by_end false x = absurd (let y : true ≡ false = x in cc)

differ_of_not : (a b : Bool) → a ≡ not b → a ≢ b
differ_of_not true true e = λ _. let y : true ≡ false = e in cc
differ_of_not true false e = λ f. let y : true ≡ false = f in cc
differ_of_not false true e = λ f. let y : false ≡ true = f in cc
differ_of_not false false e = λ _. let y : false ≡ true = e in cc

not_not : (a b : Bool) → a ≡ not b → b ≡ not a
not_not true true e = e
not_not true false e = refl
not_not false true e = refl
not_not false false e = e

module _ (n : Subformula) (tr : Trace) where
  -- a span more at the back
  pub lead_on : (c : Place) (before : Option Bool) (vs : List Verdict) (d : Place) (last : Option Bool) (v : Verdict)
      → Lead n tr c before vs d last → Same d (begins (interval v.on)) → Before (begins (interval v.on)) (ends (interval v.on))
      → (last ≢ Some v.holds)
      → AllAre v.holds (Truth n tr) (begins (interval v.on)) (ends (interval v.on))
      → Lead n tr c before (vs ++ v ∷ []) (ends (interval v.on)) (Some v.holds)
  lead_on c before [] d last v (s, e) r some differs told =
      (same_trans_places s r, some, (λ x. differs (sym e ∙ x)), told, (same_itself (ends (interval v.on)), refl))
  lead_on c before (w ∷ vs) d last v (s, b, f, k, rest) r some differs told =
      (s, b, f, k, lead_on (ends (interval w.on)) (Some w.holds) vs d last v rest r some differs told)

  -- the end by another name
  pub lead_to : (c : Place) (before : Option Bool) (vs : List Verdict) (d e : Place) (last : Option Bool) → Same d e
      → Lead n tr c before vs d last → Lead n tr c before vs e last
  lead_to c before [] d e last s (r, h) = (same_trans_places r s, h)
  lead_to c before (w ∷ vs) d e last s (r, b, f, k, rest) =
      (r, b, f, k, lead_to (ends (interval w.on)) (Some w.holds) vs d e last s rest)

  told_of : (v : Verdict) → Before (begins (interval v.on)) (ends (interval v.on))
      → AllAre v.holds (Truth n tr) (begins (interval v.on)) (ends (interval v.on)) → IsTold n tr v
  told_of v some told = record
      { not_empty = some_in (interval v.on) some; truth = λ t h. told t (in_after (interval v.on) t h) (in_upto (interval v.on) t h) }

  goes_on : (stretch : Interval) (v : Verdict) (vs : List Verdict) (last : Option Bool)
      → Lead n tr (ends (interval v.on)) (Some v.holds) vs (ends stretch) last → GoesOn n tr stretch v vs
  goes_on stretch v [] last ((s, e), h) = record { time = s; inside = e }
  goes_on stretch v (w ∷ vs) last ((s, e), b, f, k, rest) = (
    record { time = same_sym s; once = λ x. differ_of_not v.on.to_in w.on.from_in e (sym x) },
    (λ x. f
        (ap Some x)),
    told_of w b k,
    goes_on stretch w vs last rest,
  )

  -- spans that lead from the begin of a stretch to its end describe it
  pub describes : (stretch : Interval) (v : Verdict) (vs : List Verdict) (last : Option Bool)
      → Lead n tr (begins stretch) None (v ∷ vs) (ends stretch) last → Describes (v ∷ vs) n tr stretch
  describes stretch v vs last ((s, e), b, f, k, rest) =
      (record { time = same_sym s; inside = alike v.on.from_in stretch.from_in e }, told_of v b k, goes_on stretch v vs last rest)
    where
      alike : (a b : Bool) → not b ≡ not a → a ≡ b
      alike true true x = refl
      alike true false x = x
      alike false true x = x
      alike false false x = refl

  -- the first verdict of a stretch
  pub first_told : (begin : Place) (w : List Verdict) (h : Bool) (out new : Out) → out.holds ≡ None → new.holds ≡ Some h
      → new.from ≡ out.from
      → HasTold n tr begin w out → Before (place out.at) (place new.at) → AllAre h (Truth n tr) (place out.at) (place new.at)
      → HasTold n tr begin w new
  first_told begin w h out new e f g told b k = record {
    last = told.last;
    lead = subst (λ c. Lead n tr begin None w (place c) told.last) (sym g) told.lead;
    pending = subst (λ o. MatchOption o (Same (place new.from) (place new.at) × (told.last ≡ None))
        (λ h. Before (place new.from) (place new.at) × (told.last ≢ Some h)
        × AllAre h (Truth n tr) (place new.from) (place new.at))) (sym f)
        (subst (λ c. Before (place c) (place new.at) × (told.last ≢ Some h) × AllAre h (Truth n tr) (place c) (place new.at)) (sym g) (
          same_before (place out.from) (place out.at) (place new.at) old.0 b,
          (λ x. let y : None ≡ Some h = sym old.1 ∙ x in cc),
          told_same h (Truth n tr) (place out.at) (place new.at) (place out.from) (place new.at) (same_places old.0)
              (same_itself (place new.at)) k,
        ));
  }
    where
      old : Same (place out.from) (place out.at) × (told.last ≡ None)
      old = subst (λ o. MatchOption o (Same (place out.from) (place out.at) × (told.last ≡ None))
          (λ h. Before (place out.from) (place out.at) × (told.last ≢ Some h)
          × AllAre h (Truth n tr) (place out.from) (place out.at))) e told.pending

  abbrev Going : Option Bool → Out → Bool → Type 0
  Going last out h = Before (place out.from) (place out.at) × (last ≢ Some h)
      × AllAre h (Truth n tr) (place out.from) (place out.at)

  going : (begin : Place) (w : List Verdict) (h : Bool) (out : Out) → out.holds ≡ Some h → (told : HasTold n tr begin w out)
      → Going told.last out h
  going begin w h out e told = subst
      (λ o. MatchOption o (Same (place out.from) (place out.at) × (told.last ≡ None)) (Going told.last out)) e told.pending

  -- the same verdict again
  pub same_told : (begin : Place) (w : List Verdict) (h : Bool) (out new : Out) → out.holds ≡ Some h → new.holds ≡ Some h
      → new.from ≡ out.from
      → HasTold n tr begin w out → Before (place out.at) (place new.at) → AllAre h (Truth n tr) (place out.at) (place new.at)
      → HasTold n tr begin w new
  same_told begin w h out new e f g told b k = record {
    last = told.last;
    lead = subst (λ c. Lead n tr begin None w (place c) told.last) (sym g) told.lead;
    pending = subst (λ o. MatchOption o (Same (place new.from) (place new.at) × (told.last ≡ None)) (Going told.last new)) (sym f)
        (subst (λ c. Before (place c) (place new.at) × (told.last ≢ Some h) × AllAre h (Truth n tr) (place c) (place new.at)) (sym g) (
          before_trans (place out.from) (place out.at) (place new.at) old.0 b,
          old.1,
          joined h (Truth n tr) (place out.from)
              (place out.at) (place new.at) old.2 k,
        ));
  }
    where
      old : Going told.last out h
      old = going begin w h out e told

  -- the other verdict, with the span before it put
  pub turned : {old now : Held} {h k : Bool} {out new : Out} (begin : Place) (w : List Verdict) (put : IsPutBack old now out h)
      → out.holds ≡ Some h → h ≢ k → new.holds ≡ Some k → new.from ≡ out.at → HasTold n tr begin w out
      → Before (place out.at) (place new.at) → AllAre k (Truth n tr) (place out.at) (place new.at)
      → HasTold n tr begin (w ++ put.verdict ∷ []) new
  turned {h = h} {k = k} {out = out} {new = new} begin w put e d f g told b a = record {
    last = Some v.holds;
    lead = lead_to begin None (w ++ v ∷ []) (ends (interval v.on)) (place new.from) (Some v.holds)
        (subst (λ c. Same (ends (interval v.on)) (place c)) (sym g) (same_places put.end))
        (lead_on begin None w (place out.from) told.last v told.lead put.begin (before_same (begins (interval v.on)) (place out.at) (ends
        (interval v.on)) (same_before (begins (interval v.on)) (place out.from) (place out.at) (same_places put.begin) was.0) put.end)
        (λ y. was.1 (y ∙ ap Some put.is))
        (subst (λ b. AllAre b (Truth n tr) (begins (interval v.on)) (ends (interval v.on))) (sym put.is) (told_same h (Truth n tr)
        (place out.from) (place out.at) (begins (interval v.on)) (ends (interval v.on)) put.begin put.end was.2)));
    pending = subst (λ o. MatchOption o (Same (place new.from) (place new.at) × (Some v.holds ≡ None)) (Going (Some v.holds) new))
        (sym f)
        (subst (λ c. Before (place c) (place new.at) × (Some v.holds ≢ Some k) × AllAre k (Truth n tr) (place c) (place new.at)) (sym g)
        (b, (λ y. d (sym put.is ∙ some_inj v.holds k y)), a));
  }
    where
      v : Verdict
      v = put.verdict

      was : Going told.last out h
      was = going begin w h out e told

      or_true : Option Bool → Bool
      or_true None = true
      or_true (Some b) = b

      some_inj : (a b : Bool) → Some a ≡ Some b → a ≡ b
      some_inj a b y = ap or_true y

module _ (n : Subformula) (tr : Trace) where
  -- the span that waits is put, and nothing waits any more
  pub put_last : (begin : Place) (w : List Verdict) (h : Bool) (v : Verdict) (out : Out) → out.holds ≡ Some h
      → Same (place out.from) (begins (interval v.on)) → Same (place out.at) (ends (interval v.on)) → v.holds ≡ h
      → HasTold n tr begin w out → Lead n tr begin None (w ++ v ∷ []) (place out.at) (Some v.holds)
  put_last begin w h v out e s r x told =
      lead_to n tr begin None (w ++ v ∷ []) (ends (interval v.on)) (place out.at) (Some v.holds) (same_places r)
      (lead_on n tr begin None w (place out.from) told.last v told.lead s
      (before_same (begins (interval v.on)) (place out.at) (ends (interval v.on))
      (same_before (begins (interval v.on)) (place out.from) (place out.at) (same_places s) old.0) r)
      (λ y. old.1 (y ∙ ap Some x))
      (subst (λ b. AllAre b (Truth n tr) (begins (interval v.on)) (ends (interval v.on))) (sym x)
      (told_same h (Truth n tr) (place out.from) (place out.at) (begins (interval v.on)) (ends (interval v.on)) s r old.2)))
    where
      old : Going n tr told.last out h
      old = going n tr begin w h out e told

  -- nothing waits where nothing was said
  pub put_none : (begin : Place) (w : List Verdict) (out : Out) → out.holds ≡ None → (told : HasTold n tr begin w out)
      → Lead n tr begin None w (place out.at) told.last
  put_none begin w out e told = lead_to n tr begin None w (place out.from) (place out.at) told.last old.0 told.lead
    where
      old : Same (place out.from) (place out.at) × (told.last ≡ None)
      old = subst (λ o. MatchOption o (Same (place out.from) (place out.at) × (told.last ≡ None))
          (λ h. Before (place out.from) (place out.at) × (told.last ≢ Some h)
          × AllAre h (Truth n tr) (place out.from) (place out.at))) e told.pending

  -- what leads from the begin of a stretch with a time in it to its end describes it
  pub lead_describes : (stretch : Interval) (vs : List Verdict) (last : Option Bool) → Before (begins stretch) (ends stretch)
      → Lead n tr (begins stretch) None vs (ends stretch) last → Describes vs n tr stretch
  lead_describes stretch [] last some (same, e) =
      let t = between (begins stretch) (ends stretch) some in
      absurd (not_both (ends stretch) t.0 t.2 (after_same (begins stretch) (ends stretch) t.0 same t.1))
  lead_describes stretch (v ∷ vs) last some lead = describes n tr stretch v vs last lead

-- where no truth was found yet nothing was told
pub sound_first : (out : Out) → out.holds ≡ None → IsSound out → Same (place out.from) (place out.at)
sound_first out e h = subst
    (λ o. MatchOption o (Same (place out.from) (place out.at)) (λ h. Before (place out.from) (place out.at))) e h

-- where a truth was found something was told
pub sound_later : (out : Out) (b : Bool) → out.holds ≡ Some b → IsSound out → Before (place out.from) (place out.at)
sound_later out b e h = subst
    (λ o. MatchOption o (Same (place out.from) (place out.at)) (λ h. Before (place out.from) (place out.at))) e h

-- truths that come out as different differ
pub other_bool : (a b : Bool) → beq a b ≡ false → a ≢ b
other_bool true true e = λ _. let x : true ≡ false = e in cc
other_bool true false e = λ f. let x : true ≡ false = f in cc
other_bool false true e = λ f. let x : false ≡ true = f in cc
other_bool false false e = λ _. let x : true ≡ false = e in cc

-- what lies before both lies before the earlier of the two
pub earlier_upto : (a b c : Cut) → (c ≡ a) ⊎ (c ≡ b) → (t : Rational) → Upto (place a) t → Upto (place b) t → Upto (place c) t
earlier_upto a b c (inl e) t u v = subst (λ (q : Cut). Upto (place q) t) (sym e) u
earlier_upto a b c (inr e) t u v = subst (λ (q : Cut). Upto (place q) t) (sym e) v
