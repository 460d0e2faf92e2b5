-- Verdicts that are cut at a time: where they describe a stretch, what lies up to the time and what lies after it describe its parts.
use Rattle.std.proofs.Common.{◌≡◌, ◌⊎◌, inl, inr, ℕ, ◌<◌, pos, arith, length, Bool, true, false, not, ◌&&◌, List, []}
use Rattle.std.proofs.Common.{◌∷◌, ◌++◌, refl, sym, ap, ◌∙◌, subst, append-nil, append_assoc, Option, Some, None}
use Rattle.std.specs.Prelude.{◌≢◌, MatchBool, slice_index_or, slice_set}
use Rattle.std.specs.Option.{option_to_list}
use Rattle.rational.specs.Rational.{whole, ◌≈◌}
use Rattle.rational.specs.Time.{Rational, Interval, HasTimeBetween}
use Rattle.rational.proofs.Order.{same_refl, same_sym}
use Rattle.frac128.specs.Spans.{interval}
use Rattle.frac128.specs.Value.{value}
use Rattle.frac128.specs.declared.frac.Frac.{Frac}
use Rattle.stl_syntax.specs.Formula.{Subformula}
use Rattle.stl_syntax.specs.Trace.{Trace}
use Rattle.stl_syntax.specs.Truth.{Truth}
use Rattle.stl_syntax.specs.Verdicts.{Describes, GoesOn, IsTold, AreAlike}
use Rattle.stl_syntax.specs.Texts.{AreVerdictLines, IsVerdictLine}
use Rattle.stl_syntax.specs.declared.items.Verdict.{Verdict}
use Rattle.stl_syntax.specs.declared.scale.Scale.{Scale}
use Rattle.rational.specs.Places.{Place, begins, ends, After, Upto, Before, Same}
use Rattle.online_nodes.specs.Laws.{AreTiles, AreTold}
use Rattle.rational.proofs.PlaceLemmas.{not_both, place_order, upto_of_before, after_of_before}
use Rattle.rational.proofs.PlaceLemmas.{same_places, upto_same, after_same, between, same_before}
use Rattle.rational.proofs.PlaceLemmas.{before_same, before_trans, same_trans_places, room_of_before}
use Rattle.rational.proofs.TimeLemmas.{precedes_of_lt, room_of_precedes}
use Rattle.online_nodes.proofs.ToldSoFar.{in_after, in_upto, some_in}
use Rattle.online_nodes.proofs.HeldLaw.{is_in}
use Rattle.online_nodes.proofs.MeetingLaw.{tiled_upto}
use Rattle.online_nodes.proofs.EmittedLaw.{describes_tiles}
use Rattle.online_nodes.proofs.StayLaw.{Agree}
use Rattle.verdict_stream.specs.Pendings.{just_after, GoesBeyond, IsCut, IsPartBefore, IsPartAfter, AreUpTo, none_left, all_later, one_whole, one_cut}

-- of no verdicts none lies up to a time
pub of_none : {f : ℕ} {some left : List Verdict} → AreUpTo f [] some left → (some ≡ []) × (left ≡ [])
of_none none_left = (refl, refl)

-- what a cut takes and leaves
pub cut_parts : (f : ℕ) (vs left : List Verdict) (part : Option Verdict) → GoesBeyond f vs → IsCut f vs part left
    → AreUpTo f vs (option_to_list part) left
cut_parts f [] left None b h = subst (λ l. AreUpTo f [] [] l) (sym h) none_left
cut_parts f [] left (Some part) b h = absurd h
cut_parts f (v ∷ vs) left None b (later, e) = subst (λ l. AreUpTo f (v ∷ vs) [] l) (sym e) (all_later v vs later)
cut_parts f (v ∷ vs) left (Some part) b (begun, before, (rest, after, e)) =
    subst (λ l. AreUpTo f (v ∷ vs) (part ∷ []) l) (sym e) (one_cut v part rest vs begun b before after)

-- the lines of one verdict more
pub lines_more : (scale : Scale) (vs : List Verdict) (v : Verdict) (text line : List ℕ) → AreVerdictLines scale vs text → IsVerdictLine scale v line
    → AreVerdictLines scale (vs ++ v ∷ []) (text ++ line)
lines_more scale [] v text line none is = (line, [], is, refl, ap (λ t. t ++ line) none ∙ sym (append-nil line))
lines_more scale (w ∷ vs) v text line (here, later, first, rest, e) is =
    (here, later ++ line, first, lines_more scale vs v later line rest is, ap (λ t. t ++ line) e ∙ append_assoc here later line)

-- the same of a verdict that was replaced by what is left of it
pub cut_is : (f : ℕ) (vs : List Verdict) (v part rest : Verdict) → 0 < length vs → v ≡ slice_index_or vs 0 v → Before (begins (interval v.on)) (just_after f)
    → IsPartBefore f v part → IsPartAfter f v rest → IsCut f vs (Some part) (slice_set vs 0 rest)
cut_is f [] v part rest some e begun before after = absurd (omega (arith, some))
cut_is f (w ∷ vs) v part rest some e begun before after =
    subst (λ (z : Verdict). Before (begins (interval z.on)) (just_after f) × IsPartBefore f z part
    × ((more : Verdict) × IsPartAfter f z more × (slice_set (w ∷ vs) 0 rest ≡ more ∷ vs))) e (begun, before, (rest, after, refl))

-- ---- places

-- no place comes before itself, by two names
pub not_before : {c d : Place} → Same c d → ¬ Before c d
not_before {c} {d} s h = let t = between c d h in not_both c t.0 (upto_same d c t.0 (same_places s) t.2) t.1

-- where the first is the last, the one between is both
squeezed : (c f d : Place) → Before c f ⊎ Same c f → Before f d ⊎ Same f d → Same c d → Same c f × Same f d
squeezed c f d (inl a) (inl b) s = absurd (not_before s (before_trans c f d a b))
squeezed c f d (inl a) (inr b) s = absurd (not_before s (before_same c f d a b))
squeezed c f d (inr a) b s = (a, same_trans_places (same_places a) s)

-- verdicts lead on from the same place by another name
tiles_from : {c e : Place} (d : Place) (vs : List Verdict) → Same c e → AreTiles c vs d → AreTiles e vs d
tiles_from d [] s t = same_trans_places (same_places s) t
tiles_from d (v ∷ vs) s (r, b, rest) = (same_trans_places (same_places s) r, b, rest)

not_alike : (a b : Bool) → not a ≡ not b → b ≡ a
not_alike true true e = refl
not_alike false false e = refl
not_alike true false e = e
not_alike false true e = e

not_self : (b : Bool) → b ≡ not b → ⊥
not_self true e = let h = e in cc
not_self false e = let h = e in cc

not_not : (b : Bool) → not (not b) ≡ b
not_not true = refl
not_not false = refl

-- there is room in what of a verdict lies up to a time by which it begins
pub room_before : (f : ℕ) (v : Verdict) (to : Frac) → value to ≈ whole (pos f) → Before (begins (interval v.on)) (just_after f)
    → HasTimeBetween (value v.on.from) (value to) (v.on.from_in && true)
room_before f v to same h =
    subst (λ b. HasTimeBetween (value v.on.from) (value to) (b && true)) (not_not v.on.from_in)
    (room_of_before (begins (interval v.on)) (record { at = value to; after = true })
    (before_same (begins (interval v.on)) (just_after f) (record { at = value to; after = true }) h (same_sym same, refl)))

-- and in what of it lies after a time beyond which it goes on
pub room_after : (f : ℕ) (v : Verdict) (from : Frac) → value from ≈ whole (pos f) → Before (just_after f) (ends (interval v.on)) → (both_in : Bool)
    → HasTimeBetween (value from) (value v.on.to) both_in
room_after f v from same h both_in =
    elim (same_before (record { at = value from; after = true }) (just_after f) (ends (interval v.on)) (same, refl) h) [
      | inl l ↦ room_of_precedes both_in (value from) (value v.on.to) (precedes_of_lt both_in (value from) (value v.on.to) l)
      | inr x ↦ absurd (let e : true ≡ false = x.1 in cc)
    ]

-- ---- verdicts that lead from one place to another

-- each verdict has another truth than the one before it, the first another than b
abbrev pub TurnsFrom : Bool → List Verdict → Type 0
TurnsFrom b [] = Unit {0}
TurnsFrom b (v ∷ vs) = (b ≢ v.holds) × TurnsFrom v.holds vs

-- each verdict has another truth than the one before it
abbrev pub AreTurning : List Verdict → Type 0
AreTurning [] = Unit {0}
AreTurning (v ∷ vs) = TurnsFrom v.holds vs

turning_on : (b : Bool) (vs : List Verdict) → TurnsFrom b vs → AreTurning vs
turning_on b [] t = tt
turning_on b (v ∷ vs) t = t.1

module _ (p : Subformula) where
  -- the verdicts tell the truth from one place to another, in as few spans as may be; none where the places are one
  pub record Leads (tr : Trace) (c : Place) (vs : List Verdict) (d : Place) : Type 0 where
    -- the verdicts cover it without gap
    pub tiles : AreTiles c vs d
    -- they tell the truth
    pub told : AreTold p tr vs
    -- and each differs from the one before
    pub turning : AreTurning vs

  goes_told : (tr : Trace) (stretch : Interval) (v : Verdict) (vs : List Verdict) → GoesOn p tr stretch v vs → AreTold p tr vs × TurnsFrom v.holds vs
  goes_told tr stretch v [] h = (tt, tt)
  goes_told tr stretch v (w ∷ vs) h = let r = goes_told tr stretch w vs h.3 in ((h.2, r.0), (h.1, r.1))

  -- what describes a stretch leads from its begin to its end
  pub describes_leads : (tr : Trace) (stretch : Interval) (vs : List Verdict) → Describes vs p tr stretch → Leads tr (begins stretch) vs (ends stretch)
  describes_leads tr stretch [] h = absurd h
  describes_leads tr stretch (v ∷ vs) h =
      let r = goes_told tr stretch v vs h.2 in
      record { tiles = describes_tiles p tr stretch (v ∷ vs) h; told = (h.1, r.0); turning = r.1 }

  goes_on : (tr : Trace) (stretch : Interval) (v : Verdict) (vs : List Verdict) → AreTiles (ends (interval v.on)) vs (ends stretch) → AreTold p tr vs
      → TurnsFrom v.holds vs → GoesOn p tr stretch v vs
  goes_on tr stretch v [] s told turns = record { time = s.0; inside = s.1 }
  goes_on tr stretch v (w ∷ vs) (s, b, rest) (told, others) (turn, turns) = (
    record { time = same_sym s.0; once = λ e. not_self w.on.from_in (e ∙ s.1) },
    turn,
    told,
    goes_on tr stretch w vs rest others turns,
  )

  -- and what leads over a stretch with some time in it describes it
  pub leads_describes : (tr : Trace) (stretch : Interval) (vs : List Verdict) → Leads tr (begins stretch) vs (ends stretch)
      → Before (begins stretch) (ends stretch) → Describes vs p tr stretch
  leads_describes tr stretch [] l some = absurd (not_before l.tiles some)
  leads_describes tr stretch (v ∷ vs) l some = (
    record { time = same_sym l.tiles.0.0; inside = not_alike stretch.from_in v.on.from_in l.tiles.0.1 },
    l.told.0,
    goes_on tr stretch v vs l.tiles.2 l.told.1 l.turning,
  )

  -- the ends by other names
  pub leads_from : {tr : Trace} {c e : Place} (d : Place) (vs : List Verdict) → Same c e → Leads tr c vs d → Leads tr e vs d
  leads_from d vs s l = record { tiles = tiles_from d vs s l.tiles; told = l.told; turning = l.turning }

  -- ---- a cut

  part_told : (tr : Trace) (v part : Verdict) → IsTold p tr v → Before (begins (interval part.on)) (ends (interval part.on)) → part.holds ≡ v.holds
      → ((t : Rational) → After (begins (interval part.on)) t → After (begins (interval v.on)) t)
      → ((t : Rational) → Upto (ends (interval part.on)) t → Upto (ends (interval v.on)) t) → IsTold p tr part
  part_told tr v part told some same after upto = record {
    not_empty = some_in (interval part.on) some;
    truth = λ t h.
        subst (λ b. MatchBool b (Truth p tr t) (¬ Truth p tr t)) (sym same)
        (told.truth t (is_in (interval v.on) t (after t (in_after (interval part.on) t h)) (upto t (in_upto (interval part.on) t h))));
  }

  -- what lies up to a time, and what lies after it
  pub record AreParts (tr : Trace) (c : Place) (f : ℕ) (vs some left : List Verdict) (d : Place) : Type 0 where
    -- what lies up to the time
    pub first : Leads tr c some (just_after f)
    -- and what lies after it
    pub rest : Leads tr (just_after f) left d
    -- where the first differs from b, so does the first of what was cut
    pub turns : (b : Bool) → TurnsFrom b vs → TurnsFrom b some

  -- verdicts that lead from c to d, cut at a time between, lead up to it and on from it
  pub parts_of : {f : ℕ} {vs some left : List Verdict} (tr : Trace) (c d : Place) → AreUpTo f vs some left → Leads tr c vs d
      → Before c (just_after f) ⊎ Same c (just_after f) → Before (just_after f) d ⊎ Same (just_after f) d → AreParts tr c f vs some left d
  parts_of {f = f} tr c d none_left l low high =
      let s = squeezed c (just_after f) d low high l.tiles in
      record { first = record { tiles = s.0; told = tt; turning = tt }; rest = record { tiles = s.1; told = tt; turning = tt }; turns = λ b t. tt }
  parts_of {f = f} tr c d (all_later v vs n) l low high =
      let begin = l.tiles.0 in
      let same : Same c (just_after f) = elim low [
        | inl b ↦ absurd (n (same_before (begins (interval v.on)) c (just_after f) (same_places begin) b))
        | inr s ↦ s
      ] in
      record {
        first = record { tiles = same; told = tt; turning = tt };
        rest = leads_from d (v ∷ vs) same l;
        turns = λ b t. tt;
      }
  parts_of {f = f} tr c d (one_whole v {vs = vs} {some = some} {left = left} n more) l low high =
      let by : Before (ends (interval v.on)) (just_after f) ⊎ Same (ends (interval v.on)) (just_after f) =
      elim (place_order (ends (interval v.on)) (just_after f)) [
        | inl b ↦ inl b
        | inr o ↦ elim o [ inl s ↦ inr s | inr b ↦ absurd (n b) ]
      ] in
      let next = parts_of tr (ends (interval v.on)) d more
      (record { tiles = l.tiles.2; told = l.told.1; turning = turning_on v.holds vs l.turning }) by high in
      record {
        first = record { tiles = (l.tiles.0, l.tiles.1, next.first.tiles); told = (l.told.0, next.first.told); turning = next.turns v.holds l.turning };
        rest = next.rest;
        turns = λ b t. (t.0, next.turns v.holds t.1);
      }
  parts_of {f = f} tr c d (one_cut v part rest vs begun beyond before after) l low high =
      let some : Before (begins (interval part.on)) (ends (interval part.on)) =
      before_same (begins (interval part.on)) (just_after f) (ends (interval part.on))
      (same_before (begins (interval part.on)) (begins (interval v.on)) (just_after f) (same_places before.begin) begun) (same_places before.end) in
      let more : Before (begins (interval rest.on)) (ends (interval rest.on)) =
      before_same (begins (interval rest.on)) (ends (interval v.on)) (ends (interval rest.on))
      (same_before (begins (interval rest.on)) (just_after f) (ends (interval v.on)) (same_places after.begin) beyond) after.end in
      record {
        first = record {
          tiles = (same_trans_places l.tiles.0 before.begin, some, before.end);
          told = (
            part_told tr v part l.told.0 some before.holds
                (λ t h. after_same (begins (interval part.on)) (begins (interval v.on)) t (same_places before.begin) h)
                (λ t h. upto_of_before (just_after f) (ends (interval v.on)) t beyond (upto_same (ends (interval part.on)) (just_after f) t before.end h)),
            tt,
          );
          turning = tt;
        };
        rest = record {
          tiles = (after.begin, more, tiles_from d vs after.end l.tiles.2);
          told = (
            part_told tr v rest l.told.0 more after.holds
                (λ t h. after_of_before (begins (interval v.on)) (just_after f) t begun
                (after_same (begins (interval rest.on)) (just_after f) t (same_places after.begin) h))
                (λ t h. upto_same (ends (interval rest.on)) (ends (interval v.on)) t (same_places after.end) h),
            l.told.1,
          );
          turning = subst (λ b. TurnsFrom b vs) (sym after.holds) l.turning;
        };
        turns = λ b t. ((λ e. t.0 (e ∙ before.holds)), tt);
      }

  -- up to a time before the first verdict nothing lies
  pub none_up_to : {f : ℕ} {vs some left : List Verdict} (c d : Place) → AreUpTo f vs some left → AreTiles c vs d → Before (just_after f) c
      → (some ≡ []) × (left ≡ vs)
  none_up_to c d none_left t b = (refl, refl)
  none_up_to c d (all_later v vs n) t b = (refl, refl)
  none_up_to {f = f} c d (one_whole v n more) (s, some, rest) b =
      absurd (n (before_trans (just_after f) (begins (interval v.on)) (ends (interval v.on)) (before_same (just_after f) c (begins (interval v.on)) b s) some))
  none_up_to {f = f} c d (one_cut v part rest vs begun beyond before after) (s, some, tiles) b =
      absurd (not_before (refl_place (just_after f))
      (before_trans (just_after f) (begins (interval v.on)) (just_after f) (before_same (just_after f) c (begins (interval v.on)) b s) begun))
    where
      refl_place : (c : Place) → Same c c
      refl_place c = (same_refl c.at, refl)

  -- ---- in another trace that agrees

  -- verdicts tell the truth of another trace that agrees where they lie
  pub told_moves : (tr tr' : Trace) (c d : Place) (vs : List Verdict) → AreTiles c vs d → ((t : Rational) → After c t → Upto d t → Agree p tr tr' t)
      → AreTold p tr vs → AreTold p tr' vs
  told_moves tr tr' c d [] t agree h = tt
  told_moves tr tr' c d (v ∷ vs) (s, b, rest) agree (told, more) = (
    record {
      not_empty = told.not_empty;
      truth = λ t h. by_holds v.holds (agree t (after_same (begins (interval v.on)) c t (same_places s) (in_after (interval v.on) t h))
          (tiled_upto (ends (interval v.on)) vs d rest t (in_upto (interval v.on) t h))) (told.truth t h);
    },
    told_moves tr tr' (ends (interval v.on)) d vs rest
        (λ t a u. agree t (after_same (begins (interval v.on)) c t (same_places s)
        (after_of_before (begins (interval v.on)) (ends (interval v.on)) t b a)) u) more,
  )
    where
      by_holds : {A B : Type 0} (b : Bool) → (A → B) × (B → A) → MatchBool b A (¬ A) → MatchBool b B (¬ B)
      by_holds true e x = e.0 x
      by_holds false e x = λ y. x (e.1 y)

  -- verdicts that lead from c to d for one trace do so for another that agrees where they lie
  pub leads_moves : (tr tr' : Trace) (c d : Place) (vs : List Verdict) → ((t : Rational) → After c t → Upto d t → Agree p tr tr' t) → Leads tr c vs d
      → Leads tr' c vs d
  leads_moves tr tr' c d vs agree l = record { tiles = l.tiles; told = told_moves tr tr' c d vs l.tiles agree l.told; turning = l.turning }

  -- ---- lists that are alike

  tiles_alike : (c d : Place) (vs ws : List Verdict) → AreAlike vs ws → AreTiles c vs d → AreTiles c ws d
  tiles_alike c d [] [] e t = t
  tiles_alike c d [] (w ∷ ws) e t = absurd e
  tiles_alike c d (v ∷ vs) [] e t = absurd e
  tiles_alike c d (v ∷ vs) (w ∷ ws) (begin, end, holds, e) (s, b, rest) =
      let first : Same (begins (interval v.on)) (begins (interval w.on)) = (begin.time, ap not begin.inside) in
      let last : Same (ends (interval v.on)) (ends (interval w.on)) = (end.time, end.inside) in (
        same_trans_places s first,
        before_same (begins (interval w.on)) (ends (interval v.on)) (ends (interval w.on))
            (same_before (begins (interval w.on)) (begins (interval v.on)) (ends (interval v.on)) (same_places first) b) last,
        tiles_from d ws last (tiles_alike (ends (interval v.on)) d vs ws e rest),
      )

  told_alike : (tr : Trace) (c d : Place) (vs ws : List Verdict) → AreAlike vs ws → AreTiles c vs d → AreTold p tr vs → AreTold p tr ws
  told_alike tr c d [] [] e t h = tt
  told_alike tr c d [] (w ∷ ws) e t h = absurd e
  told_alike tr c d (v ∷ vs) [] e t h = absurd e
  told_alike tr c d (v ∷ vs) (w ∷ ws) (begin, end, holds, e) (s, b, rest) (told, more) =
      let first : Same (begins (interval w.on)) (begins (interval v.on)) = same_places (begin.time, ap not begin.inside) in
      let last : Same (ends (interval w.on)) (ends (interval v.on)) = same_places (end.time, end.inside) in (
        part_told tr v w told
            (before_same (begins (interval w.on)) (ends (interval v.on)) (ends (interval w.on))
            (same_before (begins (interval w.on)) (begins (interval v.on)) (ends (interval v.on)) first b) (same_places last)) (sym holds)
            (λ t h. after_same (begins (interval w.on)) (begins (interval v.on)) t first h)
            (λ t h. upto_same (ends (interval w.on)) (ends (interval v.on)) t last h),
        told_alike tr (ends (interval v.on)) d vs ws e rest more,
      )

  turns_alike : (b : Bool) (vs ws : List Verdict) → AreAlike vs ws → TurnsFrom b vs → TurnsFrom b ws
  turns_alike b [] [] e t = tt
  turns_alike b [] (w ∷ ws) e t = absurd e
  turns_alike b (v ∷ vs) [] e t = absurd e
  turns_alike b (v ∷ vs) (w ∷ ws) (begin, end, holds, e) (turn, turns) =
      ((λ x. turn (x ∙ sym holds)), turns_alike w.holds vs ws e (subst (λ h. TurnsFrom h vs) holds turns))

  turning_alike : (vs ws : List Verdict) → AreAlike vs ws → AreTurning vs → AreTurning ws
  turning_alike [] [] e t = tt
  turning_alike [] (w ∷ ws) e t = absurd e
  turning_alike (v ∷ vs) [] e t = absurd e
  turning_alike (v ∷ vs) (w ∷ ws) (begin, end, holds, e) t = turns_alike w.holds vs ws e (subst (λ h. TurnsFrom h vs) holds t)

  -- verdicts that are alike lead from and to the same places
  pub leads_alike : (tr : Trace) (c d : Place) (vs ws : List Verdict) → AreAlike vs ws → Leads tr c vs d → Leads tr c ws d
  leads_alike tr c d vs ws e l = record {
    tiles = tiles_alike c d vs ws e l.tiles;
    told = told_alike tr c d vs ws e l.tiles l.told;
    turning = turning_alike vs ws e l.turning;
  }
