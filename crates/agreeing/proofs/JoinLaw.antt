-- Parts that cover the domain and tell the truth, joined where one truth goes on, are the verdicts that describe it.
use Rattle.std.proofs.Common.{◌≡◌, ◌⊎◌, inl, inr, refl, sym, ap, ◌∙◌, List, [], ◌∷◌, ◌++◌}
use Rattle.rational.specs.Time.{Interval, closed}
use Rattle.rational.specs.Places.{Place, begins, ends, Before, Same}
use Rattle.rational.proofs.PlaceLemmas.{place_order, share, same_places, same_trans_places, same_before, before_same, before_trans, not_before_itself}
use Rattle.rational.proofs.Tests.{one_truth}
use Rattle.frac128.specs.Spans.{interval}
use Rattle.stl_syntax.specs.Trace.{Trace, start, stop}
use Rattle.stl_syntax.specs.Formula.{Subformula}
use Rattle.stl_syntax.specs.Truth.{Truth}
use Rattle.stl_syntax.specs.Verdicts.{IsTold, GoesOn, Describes}
use Rattle.stl_syntax.specs.declared.items.Verdict.{Verdict}
use Rattle.online_nodes.specs.Laws.{AreTold, AreTiles}
use Rattle.online_nodes.proofs.StayLaw.{described}
use Rattle.online_nodes.proofs.EmittedLaw.{describes_tiles}
use Rattle.online_nodes.proofs.HeldLaw.{is_in}
use Rattle.online_nodes.proofs.ToldSoFar.{same_itself}
use Rattle.agreeing.specs.Joined.{HaveTruth, BeginsOther, AreJoined, CoversJoin}

-- ---- where tiles lead

-- a place comes before another, or is the same
abbrev NotAfter : Place → Place → Type 0
NotAfter c d = Before c d ⊎ Same c d

before_not_after : (c d e : Place) → Before c d → NotAfter d e → Before c e
before_not_after c d e h (inl k) = before_trans c d e h k
before_not_after c d e h (inr k) = before_same c d e h k

-- tiles do not lead back
lead_on : (c : Place) (vs : List Verdict) (d : Place) → AreTiles c vs d → NotAfter c d
lead_on c [] d h = inr h
lead_on c (v ∷ vs) d (s, b, rest) =
    inl (same_before c (begins (interval v.on)) d s
    (before_not_after (begins (interval v.on)) (ends (interval v.on)) d b (lead_on (ends (interval v.on)) vs d rest)))

-- tiles from another way to write a place
tiles_from : (c d : Place) (vs : List Verdict) (e : Place) → Same d c → AreTiles c vs e → AreTiles d vs e
tiles_from c d [] e s h = same_trans_places s h
tiles_from c d (v ∷ vs) e s (r, b, rest) = (same_trans_places s r, b, rest)

-- ---- truths

-- the truths of neighbours differ
abbrev pub Alternate : List Verdict → Type 0
Alternate [] = Unit {0}
Alternate (v ∷ vs) = BeginsOther v.holds vs × Alternate vs

alternate_on : (p : Subformula) (tr : Trace) (stretch : Interval) (v : Verdict) (vs : List Verdict) → GoesOn p tr stretch v vs → Alternate (v ∷ vs)
alternate_on p tr stretch v [] h = (tt, tt)
alternate_on p tr stretch v (w ∷ vs) h = (λ e. h.1 (sym e), alternate_on p tr stretch w vs h.3)

-- so it is where verdicts describe a stretch
pub alternate : (p : Subformula) (tr : Trace) (stretch : Interval) (vs : List Verdict) → Describes vs p tr stretch → Alternate vs
alternate p tr stretch [] h = absurd h
alternate p tr stretch (v ∷ vs) h = alternate_on p tr stretch v vs h.2

module _ (p : Subformula) (tr : Trace) where
  -- two verdicts of which neither ends before the other begins have one truth
  meet_alike : (v w : Verdict) → IsTold p tr v → IsTold p tr w → Before (begins (interval v.on)) (ends (interval v.on))
      → Before (begins (interval w.on)) (ends (interval w.on)) → Before (begins (interval v.on)) (ends (interval w.on))
      → Before (begins (interval w.on)) (ends (interval v.on)) → v.holds ≡ w.holds
  meet_alike v w a b some other h k =
      let (t, x, y, z, u) = share (begins (interval v.on)) (ends (interval v.on)) (begins (interval w.on)) (ends (interval w.on)) some other h k in
      one_truth (Truth p tr t) v.holds w.holds (a.truth t (is_in (interval v.on) t x y)) (b.truth t (is_in (interval w.on) t z u))

  -- a verdict, its neighbours after it, and the place to which they lead
  record Course (v : Verdict) (vs : List Verdict) (d : Place) : Type 0 where
    told : IsTold p tr v
    rest_told : AreTold p tr vs
    some : Before (begins (interval v.on)) (ends (interval v.on))
    leads : AreTiles (ends (interval v.on)) vs d
    other : BeginsOther v.holds vs

  -- parts from c on, up to where the verdict ends, and the others
  record Split (v : Verdict) (c d : Place) (parts : List Verdict) : Type 0 where
    run : List Verdict
    others : List Verdict
    is : parts ≡ run ++ others
    leads : AreTiles c run (ends (interval v.on))
    truth : HaveTruth v.holds run
    rest_leads : AreTiles (ends (interval v.on)) others d
    rest_told : AreTold p tr others

  -- no part goes on past the end of the verdict
  not_past : (v : Verdict) (vs : List Verdict) (d : Place) (x : Verdict) (xs : List Verdict) → Course v vs d → IsTold p tr x
      → Before (begins (interval x.on)) (ends (interval x.on)) → AreTiles (ends (interval x.on)) xs d → x.holds ≡ v.holds
      → Before (begins (interval x.on)) (ends (interval v.on)) → ¬ Before (ends (interval v.on)) (ends (interval x.on))
  not_past v [] d x xs h told some leads same begin past =
      not_before_itself (ends (interval v.on))
      (before_same (ends (interval v.on)) d (ends (interval v.on))
      (before_not_after (ends (interval v.on)) (ends (interval x.on)) d past (lead_on (ends (interval x.on)) xs d leads)) (same_places h.leads))
  not_past v (w ∷ vs) d x xs h told some leads same begin past =
      let (touch, other_some, rest) = h.leads in
      h.other (sym (meet_alike x w told h.rest_told.0 some other_some
      (before_trans (begins (interval x.on)) (begins (interval w.on)) (ends (interval w.on))
      (before_same (begins (interval x.on)) (ends (interval v.on)) (begins (interval w.on)) begin touch) other_some)
      (same_before (begins (interval w.on)) (ends (interval v.on)) (ends (interval x.on)) (same_places touch) past)) ∙ same)

  -- parts that begin within a verdict have a run up to its end
  split : (v : Verdict) (vs : List Verdict) (c d : Place) (parts : List Verdict) → Course v vs d → NotAfter (begins (interval v.on)) c
      → NotAfter c (ends (interval v.on)) → AreTiles c parts d → AreTold p tr parts → Split v c d parts
  split v vs c d parts h from (inr s) leads told = record {
    run = [];
    others = parts;
    is = refl;
    leads = s;
    truth = tt;
    rest_leads = tiles_from c (ends (interval v.on)) parts d (same_places s) leads;
    rest_told = told;
  }
  split v vs c d [] h from (inl b) leads told =
      absurd (not_before_itself c (before_same c d c
      (before_not_after c (ends (interval v.on)) d b (lead_on (ends (interval v.on)) vs d h.leads)) (same_places leads)))
  split v vs c d (x ∷ xs) h from (inl b) (s, some, leads) told =
      by_end (λ to. split v vs (ends (interval x.on)) d xs h (inl (reaches from)) to leads told.1) (place_order (ends (interval x.on)) (ends (interval v.on)))
    where
      begin : Before (begins (interval x.on)) (ends (interval v.on))
      begin = same_before (begins (interval x.on)) c (ends (interval v.on)) (same_places s) b

      reaches : NotAfter (begins (interval v.on)) c → Before (begins (interval v.on)) (ends (interval x.on))
      reaches (inl f) =
          before_trans (begins (interval v.on)) c (ends (interval x.on)) f (same_before c (begins (interval x.on)) (ends (interval x.on)) s some)
      reaches (inr f) =
          same_before (begins (interval v.on)) c (ends (interval x.on)) f (same_before c (begins (interval x.on)) (ends (interval x.on)) s some)

      same : x.holds ≡ v.holds
      same = meet_alike x v told.0 h.told some h.some begin (reaches from)

      with_first : Split v (ends (interval x.on)) d xs → Split v c d (x ∷ xs)
      with_first more = record {
        run = x ∷ more.run;
        others = more.others;
        is = ap (λ l. x ∷ l) more.is;
        leads = (s, some, more.leads);
        truth = (same, more.truth);
        rest_leads = more.rest_leads;
        rest_told = more.rest_told;
      }

      by_end : (NotAfter (ends (interval x.on)) (ends (interval v.on)) → Split v (ends (interval x.on)) d xs)
          → Before (ends (interval x.on)) (ends (interval v.on)) ⊎ Same (ends (interval x.on)) (ends (interval v.on))
          ⊎ Before (ends (interval v.on)) (ends (interval x.on)) → Split v c d (x ∷ xs)
      by_end more (inl k) = with_first (more (inl k))
      by_end more (inr (inl k)) = with_first (more (inr k))
      by_end more (inr (inr k)) = absurd (not_past v vs d x xs h told.0 some leads same begin k)

  -- parts that lead where verdicts lead, and tell the truth, joined, are the verdicts, where the truths of these turn from one to the next
  pub joined : (c : Place) (vs : List Verdict) (d : Place) (parts : List Verdict) → AreTiles c vs d → AreTold p tr vs → Alternate vs → AreTiles c parts d
      → AreTold p tr parts → AreJoined parts vs
  joined c [] d [] h told other leads parts_told = refl
  joined c [] d (x ∷ xs) h told other (s, some, leads) parts_told =
      absurd (not_before_itself c (same_before c (begins (interval x.on)) c s
      (before_same (begins (interval x.on)) d c
      (before_not_after (begins (interval x.on)) (ends (interval x.on)) d some (lead_on (ends (interval x.on)) xs d leads)) (same_places h))))
  joined c (v ∷ vs) d parts (s, some, rest) told other leads parts_told =
      let course : Course v vs d = record { told = told.0; rest_told = told.1; some = some; leads = rest; other = other.0 } in
      let x = split v vs (begins (interval v.on)) d parts course (inr (same_itself (begins (interval v.on)))) (inl some)
      (tiles_from c (begins (interval v.on)) parts d (same_places s) leads) parts_told in
      (x.run, x.others, x.is, x.leads, x.truth, other.0, joined (ends (interval v.on)) vs d x.others rest told.1 other.1 x.rest_leads x.rest_told)

-- parts that cover the domain, joined, are the verdicts
pub covers_join : CoversJoin
covers_join p tr parts verdicts tiles told d =
    joined p tr (begins (closed (start tr) (stop tr))) verdicts (ends (closed (start tr) (stop tr))) parts
    (describes_tiles p tr (closed (start tr) (stop tr)) verdicts d)
    (described p tr tr (closed (start tr) (stop tr)) verdicts (λ t a b. (λ x. x, λ x. x)) d)
    (alternate p tr (closed (start tr) (stop tr)) verdicts d) tiles told
