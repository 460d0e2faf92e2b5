-- An atom's truth along a block, run by run.
use Rattle.std.proofs.Common.{◌≡◌, ◌⊎◌, inl, inr, refl, sym, ap, subst, ◌∙◌, ℕ, ◌-◌, ◌<◌, ◌≤◌, Bool, true, false, not, Option, Some, None, MatchOption}
use Rattle.std.proofs.Common.{List, [], ◌∷◌, ◌++◌, length, get_or, set, ℤ, pos, ◌<ℤ◌, ◌≤ℤ◌, arith, append_assoc}
use Rattle.std.proofs.lemmas.Bool.{cases_order}
use Rattle.std.proofs.lemmas.Int.{ints}
use Rattle.std.specs.Bool.{beq}
use Rattle.std.proofs.lemmas.Option.{same_Some}
use Rattle.std.proofs.lemmas.List.{append-nil, get_or-set_same, length-set, set-get_or, set-set}
use Rattle.rational.specs.Rational.{Rational, ◌<ʳ◌, ◌≤ʳ◌, ◌≈◌, whole}
use Rattle.rational.specs.Places.{Place, begins, ends, AtMost, Before, Same}
use Rattle.rational.proofs.Order.{same_refl, same_of_le, le_or_lt, le_of_lt, le_refl, le_trans, not_lt_of_le}
use Rattle.rational.proofs.Shift.{lt_whole, le_whole}
use Rattle.rational.proofs.PlaceLemmas.{same_places, same_trans_places, same_before, before_trans, before_at_most, before_of_at_most, after_same}
use Rattle.frac128.specs.Cuts.{place}
use Rattle.frac128.specs.Spans.{interval}
use Rattle.frac128.specs.declared.cut.Cut.{Cut}
use Rattle.stl_syntax.specs.Trace.{Trace, row_time}
use Rattle.stl_syntax.specs.Formula.{Subformula, atom}
use Rattle.stl_syntax.specs.Truth.{Truth, holds_at}
use Rattle.stl_syntax.specs.declared.atom.Atom.{Atom}
use Rattle.stl_syntax.specs.declared.items.Verdict.{Verdict}
use Rattle.atom_lines.specs.Binding.{Binding, IsFor}
use Rattle.atom_lines.specs.Growing.{IsReachAt}
use Rattle.atom_lines.specs.Legs.{IsLeg, TurnsOver, BendsSo, bent, jumped, turning_place}
use Rattle.atom_lines.specs.Passages.{HasBlock, IsWay, TellsPassage, TurnsInside, crossing_time}
use Rattle.atom_lines.specs.Rows.{row_of}
use Rattle.atom_lines.specs.declared.passage.Leg.{Leg}
use Rattle.atom_lines.specs.declared.passage.Passage.{Passage}
use Rattle.atom_lines.specs.declared.passage.Passage.TheVariants.{Steady, Turns}
use Rattle.atom_lines.specs.declared.passage.Turning.{Turning}
use Rattle.atom_lines.specs.declared.passage.Way.{Way}
use Rattle.online_nodes.specs.Held.{Edge, Held, HasMore, Stand, edge_at, no_edge, with_edge, with_more}
use Rattle.online_nodes.specs.Truths.{AllAre}
use Rattle.online_nodes.specs.Written.{Lead}
use Rattle.node_edges.specs.Kinds.{verdict_part}
use Rattle.node_edges.proofs.Stretches.{more_given}
use Rattle.online_nodes.proofs.Stretches.{some_verdict, stand_again, stand_given, stand_more}
use Rattle.online_nodes.proofs.ToldSoFar.{joined, told_same, same_itself, lead_on, lead_to}
use Rattle.online_net.specs.Stretches.{after_time, before_time, HasMoreAt, HasPutRun, HasRun, HasTurned, HasPassed, HasBent, HasGone, HasCome}
use Rattle.online_net.specs.Stretches.{HasPutStretch, HasPutTwo, StaysOver, StaysFrom, CanGoAlong}
use Rattle.online_net.specs.declared.stretch.Run.{Run}
use Rattle.online_net.specs.declared.stretch.Along.{Along}
use Rattle.online_net.proofs.AtomVerdicts.{is_test}

-- ---- an edge that got verdicts

-- nothing more was put
pub none_at_all : (e : Held) (i : ℕ) → HasMoreAt e e i []
none_at_all e i = record {
  here = record {
    seen = refl;
    fresh = subst (λ l. Stand (edge_at e i).joins l (edge_at e i).fresh) (sym (append-nil (edge_at e i).fresh))
        (stand_given (edge_at e i).joins (edge_at e i).fresh);
    number = refl;
    joins = refl;
  };
  others = sym (set-get_or e.edges i no_edge);
  start = refl;
}

-- as many edges as before
pub more_count : {old new : Held} {i : ℕ} {more : List Verdict} → HasMoreAt old new i more → length new.edges ≡ length old.edges
more_count {old} {new} {i} got = ap length got.others ∙ length-set old.edges i _

-- verdicts more, and then others
pub more_both : {a b c : Held} {i : ℕ} {xs ys : List Verdict} → HasMoreAt a b i xs → HasMoreAt b c i ys → HasMoreAt a c i (xs ++ ys)
more_both {a} {b} {c} {i} {xs} {ys} first second = record {
  here = record {
    seen = second.here.seen ∙ first.here.seen;
    fresh = subst (λ l. Stand x.joins l z.fresh) (append_assoc x.fresh xs ys)
        (stand_again x.joins ((x.fresh ++ xs) ++ ys) (y.fresh ++ ys) z.fresh (stand_more x.joins (x.fresh ++ xs) y.fresh first.here.fresh ys)
        (subst (λ t. Stand t (y.fresh ++ ys) z.fresh) first.here.joins second.here.fresh));
    number = second.here.number ∙ first.here.number;
    joins = second.here.joins ∙ first.here.joins;
  };
  others = second.others ∙ ap (λ es. set es i z) first.others ∙ set-set a.edges i _ _;
  start = second.start ∙ first.start;
}
  where
    x : Edge
    x = edge_at a i

    y : Edge
    y = edge_at b i

    z : Edge
    z = edge_at c i

-- a verdict was put as it is
pub put_given : (old new : Held) (i : ℕ) (v : Verdict) → i < length old.edges → new.edges ≡ with_edge old i (with_more (edge_at old i) (v ∷ []))
    → new.start ≡ old.start → HasMoreAt old new i (v ∷ [])
put_given old new i v within is start = record {
  here = subst (λ x. HasMore (edge_at old i) x (v ∷ [])) (sym own) (more_given verdict_part (edge_at old i) (v ∷ []));
  others = is ∙ ap (λ x. with_edge old i x) (sym own);
  start = start;
}
  where
    own : edge_at new i ≡ with_more (edge_at old i) (v ∷ [])
    own = ap (λ es. get_or es i no_edge) is ∙ get_or-set_same old.edges i _ no_edge within

-- ---- one place after another

time_order : (m n : ℕ) → m < n → Before (after_time m) (before_time n)
time_order m n l = inl (lt_whole (let h : pos m <ℤ pos n = omega (arith, ints, l) in h))

-- just before a time, and just after it
pub own_order : (n : ℕ) → Before (before_time n) (after_time n)
own_order n = inr (same_refl (whole (pos n)), refl, refl)

-- just after a time, and just after a later one
pub later_order : (m n : ℕ) → m < n → Before (after_time m) (after_time n)
later_order m n l = before_trans (after_time m) (before_time n) (after_time n) (time_order m n l) (own_order n)

at_most_order : (m n : ℕ) → m ≤ n → AtMost (after_time m) (after_time n)
at_most_order m n l t u = le_trans u (le_whole (let h : pos m ≤ℤ pos n = omega (arith, ints, l) in h))

-- no truth is the other one
not_itself : (b : Bool) → b ≡ not b → ⊥
not_itself true e = (let x : true ≡ false = e in cc)
not_itself false e = (let x : false ≡ true = e in cc)

-- ---- turns

module _ (i : ℕ) (old : Held) (run : Run) where
  -- the truth goes on
  pub turn_none : (holds : Bool) (c : Place) → ((d : Place) → Before c d → Before (place run.from) d) → run.holds ≡ holds
      → HasTurned old old i run c holds run
  turn_none holds c order e = record {
    more = [];
    got = none_at_all old i;
    truth = e;
    order = order;
    told = λ n tr begin written h d all. record {
      last = h.last;
      lead = subst (λ l. Lead n tr begin None l (place run.from) h.last) (sym (append-nil written)) h.lead;
      other = h.other;
      all = joined run.holds (Truth n tr) (place run.from) c d h.all (subst (λ b. AllAre b (Truth n tr) c d) (sym e) all);
    };
  }

  -- it turns over
  pub turned_over : {new : Held} (at : Cut) (c : Place) → Same (place at) c → HasPutRun old new i run (place at)
      → HasTurned old new i run c (not run.holds) (record { from = at; holds = not run.holds; first = false })
  turned_over {new} at c same put = record {
    more = put.verdict ∷ [];
    got = put.got;
    truth = refl;
    order = λ d b. same_before (place at) c d same b;
    told = λ n tr begin written h d all. record {
      last = Some put.verdict.holds;
      lead = run_lead n tr begin written h;
      other = λ e. not_itself run.holds (sym put.is ∙ same_Some _ _ e);
      all = told_same (not run.holds) (Truth n tr) c d (place at) d (same_places same) (same_itself d) all;
    };
  }
    where
      run_lead : (n : Subformula) (tr : Trace) (begin : Place) (written : List Verdict) → HasRun n tr begin written run c
          → Lead n tr begin None (written ++ put.verdict ∷ []) (place at) (Some put.verdict.holds)
      run_lead n tr begin written h =
          lead_to n tr begin None (written ++ put.verdict ∷ []) (ends (interval put.verdict.on)) (place at) (Some put.verdict.holds) put.end
          (lead_on n tr begin None written (place run.from) h.last put.verdict h.lead put.begin (some_verdict put.verdict)
          (λ e. h.other (e ∙ ap Some put.is))
          (subst (λ b. AllAre b (Truth n tr) (begins (interval put.verdict.on)) (ends (interval put.verdict.on))) (sym put.is)
          (told_same run.holds (Truth n tr) (place run.from) c (begins (interval put.verdict.on)) (ends (interval put.verdict.on)) put.begin
          (same_places (same_trans_places put.end same)) h.all)))

-- a truth that is not the other one is that, turned over
pub turned_is : (a b : Bool) → beq a b ≡ false → not a ≡ b
turned_is true true e = (let x : true ≡ false = e in cc)
turned_is true false e = refl
turned_is false true e = refl
turned_is false false e = (let x : true ≡ false = e in cc)

-- ---- a gap

-- behind a passage the run began before the row at its end
pub passed_before : (i first second : ℕ) → first < second → (old new : Held) (before after : Run) (passage : Passage)
    → TurnsInside (whole (pos first)) (whole (pos second)) passage → HasPassed old new i before first passage after
    → Before (place after.from) (before_time second)
passed_before i first second later old new before after (Steady holds) inside p = p.order (before_time second) (time_order first second later)
passed_before i first second later old new before after (Turns holds x side) inside p = p.3.order (before_time second) (inl inside.1)

-- and there are as many edges as before
pub passed_count : (i first : ℕ) (old new : Held) (before after : Run) (passage : Passage) → HasPassed old new i before first passage after
    → length new.edges ≡ length old.edges
passed_count i first old new before after (Steady holds) p = more_count p.got
passed_count i first old new before after (Turns holds x side) p = more_count p.3.got ∙ more_count p.2.got

-- a run was put up to a place by another name
pub put_run_to : {old new : Held} {i : ℕ} {run : Run} {c d : Place} → Same c d → HasPutRun old new i run c → HasPutRun old new i run d
put_run_to same put = record {
  verdict = put.verdict;
  got = put.got;
  begin = put.begin;
  end = same_trans_places put.end same;
  is = put.is;
}

-- over the gap, and to the row
pub gone : (i first second : ℕ) → first < second → (e0 e1 e2 : Held) (before mid after : Run) (passage : Passage) (last : Bool)
    → HasPassed e0 e1 i before first passage mid → HasTurned e1 e2 i mid (before_time second) last after
    → HasGone e0 e2 i before first second passage last after
gone i first second later e0 e1 e2 before mid after (Steady holds) last p t = record {
  more = p.more ++ t.more;
  got = more_both p.got t.got;
  truth = t.truth;
  some = t.order (after_time second) (own_order second);
  told = λ a tr begin written h passes there.
      subst (λ l. HasRun (atom i a) tr begin l after (after_time second)) (append_assoc written p.more t.more)
      (t.told (atom i a) tr begin (written ++ p.more)
      (p.told (atom i a) tr begin written h (before_time second) (λ x low high. is_test a tr x holds (passes x low high)))
      (after_time second) (λ x low high. is_test a tr x last (there x (same_of_le high low))));
}
gone i first second later e0 e1 e2 before mid after (Turns holds x side) last p t = record {
  more = (p.2.more ++ p.3.more) ++ t.more;
  got = more_both (more_both p.2.got p.3.got) t.got;
  truth = t.truth;
  some = t.order (after_time second) (own_order second);
  told = λ a tr begin written h passes there.
      subst (λ l. HasRun (atom i a) tr begin l after (after_time second))
      (ap (λ l. l ++ t.more) (append_assoc written p.2.more p.3.more) ∙ append_assoc written (p.2.more ++ p.3.more) t.more)
      (t.told (atom i a) tr begin ((written ++ p.2.more) ++ p.3.more)
      (p.3.told (atom i a) tr begin (written ++ p.2.more)
      (p.2.told (atom i a) tr begin written h (record { at = crossing_time x; after = side })
      (λ u low high. is_test a tr u holds (passes.until_then u low high)))
      (before_time second) (λ u low high. is_test a tr u (not holds) (passes.from_then u low high)))
      (after_time second) (λ u low high. is_test a tr u last (there u (same_of_le high low))));
}

-- ---- a leg

-- what tells a run up to a place, tells it up to a later one
run_on : (n : Subformula) (tr : Trace) (begin : Place) (written : List Verdict) (run : Run) (c d : Place) → HasRun n tr begin written run c
    → AllAre run.holds (Truth n tr) c d → HasRun n tr begin written run d
run_on n tr begin written run c d h all = record {
  last = h.last;
  lead = h.lead;
  other = h.other;
  all = joined run.holds (Truth n tr) (place run.from) c d h.all all;
}

-- behind the gap of a leg there are as many edges as before
pub bent_count : (i : ℕ) (old new : Held) (before after : Run) (turn : Option Turning) → HasBent old new i before turn after
    → length new.edges ≡ length old.edges
bent_count i old new before after None p = ap (λ (e : Held). length e.edges) p.0
bent_count i old new before after (Some x) p = more_count p.got

-- and the run began before the row at its end
pub bent_before : (i first second : ℕ) → first < second → (old new : Held) (before after : Run) (turn : Option Turning)
    → Before (place before.from) (after_time first) → TurnsOver (whole (pos first)) (whole (pos second)) turn → HasBent old new i before turn after
    → Before (place after.from) (before_time second)
bent_before i first second later old new before after None some over p =
    subst (λ (r : Run). Before (place r.from) (before_time second)) (sym p.1)
    (before_trans (place before.from) (after_time first) (before_time second) some (time_order first second later))
bent_before i first second later old new before after (Some x) some over p = p.order (before_time second) (inl over.ends)

-- the atom went over the gap and to the row at its end
pub record HasGoneOver (old new : Held) (i : ℕ) (before : Run) (first second : ℕ) (turn : Option Turning) (jumps : Bool) (after : Run) : Type 0 where
  pub more : List Verdict
  pub got : HasMoreAt old new i more
  pub truth : after.holds ≡ jumped jumps (bent turn before.holds)
  pub some : Before (place after.from) (after_time second)
  pub told : (a : Atom) (tr : Trace) (begin : Place) (written : List Verdict) → HasRun (atom i a) tr begin written before (after_time first)
      → BendsSo (whole (pos first)) (whole (pos second)) (holds_at a tr) before.holds turn
      → ((t : Rational) → t ≈ whole (pos second) → holds_at a tr t ≡ jumped jumps (bent turn before.holds))
      → HasRun (atom i a) tr begin (written ++ more) after (after_time second)

pub gone_over : (i first second : ℕ) (e0 e1 e2 : Held) (before mid after : Run) (turn : Option Turning) (jumps : Bool)
    → HasBent e0 e1 i before turn mid → HasTurned e1 e2 i mid (before_time second) (jumped jumps mid.holds) after
    → HasGoneOver e0 e2 i before first second turn jumps after
gone_over i first second e0 e1 e2 before mid after None jumps p t = record {
  more = u.more;
  got = u.got;
  truth = u.truth;
  some = u.order (after_time second) (own_order second);
  told = λ a tr begin written h bends there.
      u.told (atom i a) tr begin written
      (run_on (atom i a) tr begin written before (after_time first) (before_time second) h
      (λ x low high. is_test a tr x before.holds (bends x low high)))
      (after_time second) (λ x low high. is_test a tr x (jumped jumps before.holds) (there x (same_of_le high low)));
}
  where
    u : HasTurned e0 e2 i before (before_time second) (jumped jumps before.holds) after
    u = subst (λ e. HasTurned e e2 i before (before_time second) (jumped jumps before.holds) after) p.0
        (subst (λ (r : Run). HasTurned e1 e2 i r (before_time second) (jumped jumps r.holds) after) p.1 t)
gone_over i first second e0 e1 e2 before mid after (Some x) jumps p t = record {
  more = p.more ++ u.more;
  got = more_both p.got u.got;
  truth = u.truth;
  some = u.order (after_time second) (own_order second);
  told = λ a tr begin written h bends there.
      subst (λ l. HasRun (atom i a) tr begin l after (after_time second)) (append_assoc written p.more u.more)
      (u.told (atom i a) tr begin (written ++ p.more)
      (p.told (atom i a) tr begin written
      (run_on (atom i a) tr begin written before (after_time first) (turning_place x) h
      (λ y low high. is_test a tr y before.holds (bends.until_then y low high)))
      (before_time second) (λ y low high. is_test a tr y (not before.holds) (bends.from_then y low high)))
      (after_time second) (λ y low high. is_test a tr y (jumped jumps (not before.holds)) (there y (same_of_le high low))));
}
  where
    u : HasTurned e1 e2 i mid (before_time second) (jumped jumps (not before.holds)) after
    u = subst (λ h. HasTurned e1 e2 i mid (before_time second) (jumped jumps h) after) p.truth t

-- ---- along the block

module _ (b : Binding) (block : Trace) (from to i : ℕ) where
  abbrev time_at : ℕ → ℕ
  time_at k = (row_of block k).time

  -- the first way
  pub come_first : {old new : Held} {run after : Run} (w : Way) (sum : ℤ) → IsWay b i block from w → w.row ≤ to
      → (time_at from < time_at (w.row - 1) → (a : Atom) (tr : Trace) → IsFor b i a tr → HasBlock tr block
      → holds_at a tr (row_time (row_of block from)) ≡ run.holds)
      → Same (place run.from) (after_time (time_at from)) → IsReachAt b i block w.row sum
      → HasGone old new i run (time_at (w.row - 1)) (time_at w.row) w.passage w.last after
      → HasCome b block from to i old new (record { at = w.row; sum = sum; run = after })
  come_first {old} {new} {run} {after} w sum way within stands begins_so reaches g = record {
    more = g.more;
    got = g.got;
    later = way.later;
    within = within;
    sum = reaches;
    some = g.some;
    told = λ a tr for has.
        let v = way.tells a tr for has in (
          g.told a tr (after_time (time_at from)) [] (record {
            last = None;
            lead = (same_places begins_so, refl);
            other = λ e. (let x = e in cc);
            all = λ t low high. is_test a tr t run.holds
                (by_place a tr for has t (after_same (place run.from) (after_time (time_at from)) t begins_so low) high);
          }) v.passes v.there,
          v.there (row_time (row_of block w.row)) (same_refl (row_time (row_of block w.row))) ∙ sym g.truth,
        );
  }
    where
      by_place : (a : Atom) (tr : Trace) → IsFor b i a tr → HasBlock tr block → (t : Rational) → row_time (row_of block from) <ʳ t
          → t ≤ʳ row_time (row_of block (w.row - 1)) → holds_at a tr t ≡ run.holds
      by_place a tr for has t low high = by_order (cases_order (time_at from) (time_at (w.row - 1)))
        where
          by_order : (time_at from ≡ time_at (w.row - 1)) ⊎ ((time_at from < time_at (w.row - 1)) ⊎ (time_at (w.row - 1) < time_at from))
              → holds_at a tr t ≡ run.holds
          by_order (inl e) = absurd (not_lt_of_le (subst (λ m. t ≤ʳ whole (pos m)) (sym e) high) low)
          by_order (inr (inl l)) =
              (way.tells a tr for has).stays t (le_of_lt low) high ∙ stands l a tr for has
          by_order (inr (inr l)) = absurd (let o = way.order in omega (arith, l, o))

  -- one way more
  pub come_on : {e0 e1 e2 : Held} (along : Along) (after : Run) (w : Way) (sum : ℤ) → HasCome b block from to i e0 e1 along → IsWay b i block along.at w
      → w.row ≤ to → IsReachAt b i block w.row sum
      → HasGone e1 e2 i along.run (time_at (w.row - 1)) (time_at w.row) w.passage w.last after
      → HasCome b block from to i e0 e2 (record { at = w.row; sum = sum; run = after })
  come_on along after w sum c way within reaches g = record {
    more = c.more ++ g.more;
    got = more_both c.got g.got;
    later = let l = c.later in let m = way.later in omega (arith, l, m);
    within = within;
    sum = reaches;
    some = g.some;
    told = λ a tr for has.
        let v = way.tells a tr for has in
        let old = c.told a tr for has in
        let run = old.0 in (
          g.told a tr (after_time (time_at from)) c.more (record {
            last = run.last;
            lead = run.lead;
            other = run.other;
            all = joined along.run.holds (Truth (atom i a) tr) (place along.run.from) (after_time (time_at along.at)) (after_time (time_at (w.row - 1)))
                run.all (λ t low high. is_test a tr t along.run.holds (v.stays t (le_of_lt low) high ∙ old.1));
          }) v.passes v.there,
          v.there (row_time (row_of block w.row)) (same_refl (row_time (row_of block w.row))) ∙ sym g.truth,
        );
  }

  -- one leg more
  pub come_over : {e0 e1 e2 : Held} (along : Along) (after : Run) (w : Leg) (sum : ℤ) → HasCome b block from to i e0 e1 along → IsLeg b i block along.at w
      → w.row ≤ to → IsReachAt b i block w.row sum
      → HasGoneOver e1 e2 i along.run (time_at (w.row - 1)) (time_at w.row) w.turn w.jumps after
      → HasCome b block from to i e0 e2 (record { at = w.row; sum = sum; run = after })
  come_over along after w sum c leg within reaches g = record {
    more = c.more ++ g.more;
    got = more_both c.got g.got;
    later = let l = c.later in let m = leg.later in omega (arith, l, m);
    within = within;
    sum = reaches;
    some = g.some;
    told = λ a tr for has.
        let v = leg.tells a tr for has in
        let old = c.told a tr for has in
        let begin = after_time (time_at from) in
        let up = after_time (time_at along.at) in
        let before = row_time (row_of block (w.row - 1)) in
        let there = row_time (row_of block w.row) in
        let same = ap (λ h. jumped w.jumps (bent w.turn h)) old.1 in (
          g.told a tr begin c.more
              (run_on (atom i a) tr begin c.more along.run up (after_time (time_at (w.row - 1))) old.0
              (λ t low high. is_test a tr t along.run.holds (v.stays t (le_of_lt low) high ∙ old.1)))
              (subst (λ h. BendsSo before there (holds_at a tr) h w.turn) old.1 v.bends) (λ t e. v.there t e ∙ same),
          (v.there there (same_refl there) ∙ same) ∙ sym g.truth,
        );
  }

  -- the last gap of a way is a way by itself
  pub last_gap : (r : ℕ) (w : Way) → IsWay b i block r w → IsWay b i block (w.row - 1) w
  last_gap r w way = record {
    later = let l = way.later in omega (arith, l);
    within = way.within;
    order = omega arith;
    rises = way.rises;
    sum = way.sum;
    inside = way.inside;
    tells = λ a tr for has.
        let v = way.tells a tr for has in
        let o = way.order in
        let up = le_whole (let h : pos (time_at r) ≤ℤ pos (time_at (w.row - 1)) = omega (arith, ints, o) in h) in
        record {
          stays = λ t low high. v.stays t (le_trans up low) high ∙ sym (v.stays (row_time (row_of block (w.row - 1))) up (le_refl _));
          passes = v.passes;
          there = v.there;
        };
  }

  -- what a way more needs
  pub way_some : {e0 e1 : Held} (along : Along) (w : Way) → HasCome b block from to i e0 e1 along → IsWay b i block along.at w
      → Before (place along.run.from) (after_time (time_at (w.row - 1)))
  way_some along w c way = before_at_most (place along.run.from) (after_time (time_at along.at)) (after_time (time_at (w.row - 1))) c.some
      (at_most_order (time_at along.at) (time_at (w.row - 1)) way.order)

  -- what a leg more needs
  pub goes_some : {e0 e1 : Held} (along : Along) (w : Leg) → HasCome b block from to i e0 e1 along → IsLeg b i block along.at w
      → Before (place along.run.from) (after_time (time_at (w.row - 1)))
  goes_some along w c leg = before_at_most (place along.run.from) (after_time (time_at along.at)) (after_time (time_at (w.row - 1))) c.some
      (at_most_order (time_at along.at) (time_at (w.row - 1)) leg.order)

  pub bends_some : {e0 e1 : Held} (along : Along) (w : Leg) → HasCome b block from to i e0 e1 along → IsLeg b i block along.at w
      → MatchOption w.turn (Unit {0}) (λ x. Before (place along.run.from) (turning_place x))
  bends_some along w c leg = by_turn w.turn leg.inside
    where
      by_turn : (turn : Option Turning) → TurnsOver (row_time (row_of block (w.row - 1))) (row_time (row_of block w.row)) turn
          → MatchOption turn (Unit {0}) (λ x. Before (place along.run.from) (turning_place x))
      by_turn None over = over
      by_turn (Some x) over =
          before_at_most (place along.run.from) (after_time (time_at (w.row - 1))) (turning_place x) (goes_some along w c leg) over.begins

  -- what a first way needs
  pub first_order : (run : Run) (w : Way) → IsWay b i block from w → Same (place run.from) (after_time (time_at from)) → (d : Place)
      → Before (after_time (time_at (w.row - 1))) d → Before (place run.from) d
  first_order run w way same d h = same_before (place run.from) (after_time (time_at from)) d same
      (before_of_at_most (after_time (time_at from)) (after_time (time_at (w.row - 1))) d
      (at_most_order (time_at from) (time_at (w.row - 1)) way.order) h)

  -- the last run is put
  pub stretch_put : {e0 e1 e2 : Held} (along : Along) → HasCome b block from to i e0 e1 along → along.at ≡ to
      → HasPutRun e1 e2 i along.run (after_time (time_at to)) → HasPutStretch b block from to i e0 e2
  stretch_put {e0} {e1} {e2} along c here put = record {
    more = c.more ++ put.verdict ∷ [];
    got = more_both c.got put.got;
    led = λ a tr for has.
        let run = (c.told a tr for has).0 in
        let v = put.verdict in
        let up : Same (ends (interval v.on)) (after_time (time_at along.at)) =
        subst (λ k. Same (ends (interval v.on)) (after_time (time_at k))) (sym here) put.end in (
          Some v.holds,
          lead_to (atom i a) tr (after_time (time_at from)) None (c.more ++ v ∷ []) (ends (interval v.on)) (after_time (time_at to)) (Some v.holds) put.end
              (lead_on (atom i a) tr (after_time (time_at from)) None c.more (place along.run.from) run.last v run.lead put.begin (some_verdict v)
              (λ e. run.other (e ∙ ap Some put.is))
              (subst (λ x. AllAre x (Truth (atom i a) tr) (begins (interval v.on)) (ends (interval v.on))) (sym put.is)
              (told_same along.run.holds (Truth (atom i a) tr) (place along.run.from) (after_time (time_at along.at)) (begins (interval v.on))
              (ends (interval v.on)) put.begin (same_places up) run.all))),
        );
  }

-- one verdict was put where the truth stays
pub steady_put : (b : Binding) (block : Trace) (i k next : ℕ) (v : Verdict) {old new : Held} → HasMoreAt old new i (v ∷ [])
    → Same (after_time (row_of block k).time) (begins (interval v.on)) → Same (ends (interval v.on)) (after_time (row_of block next).time)
    → StaysOver b i block k next v.holds → HasPutStretch b block k next i old new
steady_put b block i k next v got begin end stays = record {
  more = v ∷ [];
  got = got;
  led = λ a tr for has. (
    Some v.holds,
    (
      begin,
      some_verdict v,
      (λ e. (let x = e in cc)),
      told_same v.holds (Truth (atom i a) tr) (after_time (row_of block k).time) (after_time (row_of block next).time) (begins (interval v.on))
          (ends (interval v.on)) begin (same_places end) (λ t low high. is_test a tr t v.holds (stays a tr for has t low high)),
      (end, refl),
    ),
  );
}

-- a way that has one truth to its last gap, on it and at the row behind it has it at each time, the first row's with them
even_at : (b : Binding) (block : Trace) (i from to : ℕ) (w : Way) (holds : Bool) → CanGoAlong b block from to i holds w → w.row ≡ to
    → w.passage ≡ Steady holds → w.last ≡ holds → (a : Atom) (tr : Trace) → IsFor b i a tr → HasBlock tr block → (t : Rational)
    → row_time (row_of block from) ≤ʳ t → t ≤ʳ row_time (row_of block to) → holds_at a tr t ≡ holds
even_at b block i from to w holds can row steady last a tr for has t low high =
    let v = can.way.tells a tr for has in
    let before = row_time (row_of block (w.row - 1)) in
    let there = row_time (row_of block w.row) in
    let passes = subst (λ p. TellsPassage before there (holds_at a tr) p) steady v.passes in
    let upto = subst (λ n. t ≤ʳ row_time (row_of block n)) (sym row) high in
    elim (le_or_lt t before) [
      | inl x ↦ v.stays t low x ∙ can.holds a tr for has
      | inr x ↦ elim (le_or_lt there t) [ inl y ↦ v.there t (same_of_le upto y) ∙ last | inr y ↦ passes t x y ]
    ]

pub stays_even : (b : Binding) (block : Trace) (i from to : ℕ) (w : Way) (holds : Bool) → CanGoAlong b block from to i holds w → w.row ≡ to
    → w.passage ≡ Steady holds → w.last ≡ holds → StaysOver b i block from to holds
stays_even b block i from to w holds can row steady last a tr for has t low high =
    even_at b block i from to w holds can row steady last a tr for has t (le_of_lt low) high

pub stays_from : (b : Binding) (block : Trace) (i from to : ℕ) (w : Way) (holds : Bool) → CanGoAlong b block from to i holds w → w.row ≡ to
    → w.passage ≡ Steady holds → w.last ≡ holds → StaysFrom b i block from to
stays_from b block i from to w holds can row steady last a tr for has t u at_t at_u =
    even_at b block i from to w holds can row steady last a tr for has t at_t.above at_t.below
    ∙ sym (even_at b block i from to w holds can row steady last a tr for has u at_u.above at_u.below)

-- two verdicts were put where the truth stays on a gap and turns over at the row behind it
pub two_put : (b : Binding) (block : Trace) (i r : ℕ) (w : Way) (holds : Bool) {old new : Held} → IsWay b i block r w → w.passage ≡ Steady holds
    → w.last ≡ not holds → HasPutTwo old new i (row_of block (w.row - 1)).time (row_of block w.row).time holds
    → HasPutStretch b block (w.row - 1) w.row i old new
two_put b block i r w holds way steady turned put = record {
  more = put.gap ∷ put.row ∷ [];
  got = put.got;
  led = λ a tr for has.
      let v = way.tells a tr for has in
      let first = (row_of block (w.row - 1)).time in
      let second = (row_of block w.row).time in
      let passes = subst (λ p. TellsPassage (whole (pos first)) (whole (pos second)) (holds_at a tr) p) steady v.passes in (
        Some put.row.holds,
        (
          put.begin,
          some_verdict put.gap,
          (λ e. (let x = e in cc)),
          told_same put.gap.holds (Truth (atom i a) tr) (after_time first) (before_time second) (begins (interval put.gap.on)) (ends (interval put.gap.on))
              put.begin (same_places put.middle) (λ t low high. is_test a tr t put.gap.holds (passes t low high ∙ sym put.holds_in)),
          (
            same_trans_places put.middle put.again,
            some_verdict put.row,
            (λ e. not_itself holds (sym put.holds_in ∙ same_Some _ _ e ∙ put.holds_at)),
            told_same put.row.holds (Truth (atom i a) tr) (before_time second) (after_time second) (begins (interval put.row.on)) (ends (interval put.row.on))
                put.again (same_places put.end)
                (λ t low high. is_test a tr t put.row.holds (v.there t (same_of_le high low) ∙ turned ∙ sym put.holds_at)),
            (put.end, refl),
          ),
        ),
      );
}
