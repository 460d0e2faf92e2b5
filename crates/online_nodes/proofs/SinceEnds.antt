-- How since comes to the end of a stretch, and how what was found counts.
use Rattle.std.proofs.Common.{◌≡◌, ◌⊎◌, inl, inr, true, false, List, [], ◌++◌, length, Some, slice_get, refl, sym, ap, subst, ◌∙◌, arith}
use Rattle.rational.specs.Rational.{Rational}
use Rattle.rational.proofs.Order.{le_or_lt, le_of_lt}
use Rattle.frac128.specs.Spans.{interval}
use Rattle.stl_syntax.specs.Truth.{Truth}
use Rattle.stl_syntax.specs.declared.items.Verdict.{Verdict}
use Rattle.rational.specs.Places.{Place, begins, ends, moved_begin, After, Upto, AtMost, Before, Same}
use Rattle.frac128.specs.Cuts.{place}
use Rattle.online_nodes.specs.Held.{Held, fresh_at}
use Rattle.online_nodes.specs.Truths.{AllAre, Tells}
use Rattle.online_nodes.specs.Written.{HasSaidBoth, IsSound, waiting}
use Rattle.online_nodes.specs.Sweeps.{Counted}
use Rattle.online_nodes.specs.Untils.{Reads}
use Rattle.online_nodes.specs.Sinces.{HasDone, HasRested, IsSince, IsSpent, IsStaying, Stay}
use Rattle.frac128.specs.declared.cut.Cut.{Cut}
use Rattle.online_nodes.specs.declared.since.Wrote.{Wrote}
use Rattle.online_nodes.specs.declared.since.Since.{Since}
use Rattle.online_nodes.specs.declared.writer.Out.{Out}
use Rattle.online_nodes.proofs.GotLemmas.{got-other}
use Rattle.rational.proofs.PlaceLemmas.{not_both, between, place_order, upto_of_before, upto_same, after_at_most}
use Rattle.rational.proofs.PlaceLemmas.{after_same, same_before, same_places, before_of_at_most, after_later}
use Rattle.online_nodes.proofs.SinceLaw.{goes_on, went_on, fails, settled, knows_new_run, knows_later}
use Rattle.online_nodes.proofs.SinceTurns.{IsWorking, left-first, left-says, run_behind, staying-remembers}
use Rattle.online_nodes.proofs.WorkLemmas.{worked_put}

-- a stretch to the end of which the left input holds, and beyond what was found nothing counts
pub record IsRest (x : Stay) (s : Since) (c : Wrote) (r : Reads) (fresh_right : List Verdict) : Type 0 where
  -- the left side holds up to the end
  pub holds : AllAre true (Truth x.p x.tr) r.read (place c.out.to)
  -- where nothing counts any more `since` is false
  pub falls : (t : Rational) → After (place c.out.at) t → After (place c.reach) t → Upto (place c.out.to) t → ¬ Truth x.n x.tr t
  -- nothing more of the right input counts up to the end
  pub spent : IsSpent s fresh_right (place c.out.to) (place c.run)

-- what is told of such a stretch
pub rest_staying : {old new : Held} {x : Stay} {s : Since} {written : List Verdict} {c end : Wrote} {r : Reads} {fresh_left fresh_right : List Verdict}
    → IsSince x s (place c.out.to) → IsStaying x s written c r fresh_left fresh_right → IsRest x s c r fresh_right
    → (g : HasRested old new c end) → IsStaying x s (written ++ g.said.more) end r fresh_left fresh_right
rest_staying {old} {new} {x} {s} {written} {c} {end} {r} {fresh_left} {fresh_right} of m is g =
    let later : (t : Rational) → After (place end.out.at) t → After (place c.out.at) t =
    λ t a. after_at_most (place c.out.at) (place end.out.at) t g.said.forward a in
    let there : IsStaying x s (written ++ g.said.more) (record { out = end.out; reach = c.reach; run = c.run }) r fresh_left fresh_right = record {
      told = g.said.told x.n x.tr x.begin written m.told
          (λ t a to h. goes_on of.looks (staying-remembers of m) (place c.out.to)
          is.holds t a h to)
          (λ t a to b u. is.falls t a b to);
      knows = knows_later m.knows (place end.out.at) later;
      left_tells = m.left_tells;
      right_tells = m.right_tells;
      left_behind = m.left_behind;
      tight = m.tight;
      ahead = m.ahead;
      ran = λ t a. m.ran t (later t a);
      answered = λ t a b. m.answered t (later t a) b;
      within = λ t h. subst (λ (q : Cut). Upto (place q) t) (sym g.said.end) (m.within t h);
      from_start = m.from_start;
      spent = m.spent;
    } in
    subst (λ (q : Cut). IsStaying x s (written ++ g.said.more) (record { out = end.out; reach = q; run = end.run }) r fresh_left fresh_right)
    (sym g.reach)
    (subst (λ (q : Cut). IsStaying x s (written ++ g.said.more) (record { out = end.out; reach = c.reach; run = q }) r fresh_left fresh_right)
    (sym g.run) there)

-- once such a stretch is told to its end
pub rest_done : {old new : Held} {s : Since} {c end : Wrote} → IsWorking old s c → HasRested old new c end
    → ((v : Verdict) → slice_get (fresh_at old s.window.of) 0 ≡ Some v → Before (place c.out.to) (ends (interval v.on)))
    → ((x : Stay) (written : List Verdict) (r : Reads) → IsSince x s (place c.out.to)
    → IsStaying x s written c r (fresh_at old s.window.of) (fresh_at old s.right) → IsRest x s c r (fresh_at old s.right))
    → HasDone old new s c end
rest_done {old} {new} {s} {c} {end} at g left is =
    let left_now : fresh_at new s.window.of ≡ fresh_at old s.window.of = ap (λ y. y.fresh) (got-other g.said.got s.window.of at.left_apart) in
    let right_now : fresh_at new s.right ≡ fresh_at old s.right = ap (λ y. y.fresh) (got-other g.said.got s.right at.right_apart) in
    record {
      more = g.said.more;
      few = omega (arith, g.said.few);
      owed = omega (arith, g.said.owed);
      worked = worked_put at.own at.left_apart at.right_apart g.said.got;
      fewer = omega (arith, ap length left_now, ap length right_now);
      edge = g.said.edge;
      to = g.said.end;
      sound = g.said.sound;
      all = λ t h. g.said.reached t h h;
      inside = g.said.inside;
      left = λ v first. left v (ap (λ f. slice_get f 0) (sym left_now) ∙ first);
      told = λ x written r of m.
          let rest = is x written r of m in (
            r,
            subst (λ f. IsStaying x s (written ++ g.said.more) end r f (fresh_at new s.right)) (sym left_now)
                (subst (λ f. IsStaying x s (written ++ g.said.more) end r (fresh_at old s.window.of) f) (sym right_now) (rest_staying of m rest g)),
            λ w first. subst (λ (q : Cut). Before (place c.out.to) (moved_begin s.window.begin_by s.window.begin_in (ends (interval w.on)))
                ⊎ AtMost (place c.out.to) (place q)) (sym g.run)
                (rest.spent w (ap (λ f. slice_get f 0) (sym right_now) ∙ first)),
          );
    }

module _ {x : Stay} {s : Since} {written : List Verdict} {c : Wrote} {r : Reads} {fresh_left fresh_right : List Verdict}
    (of : IsSince x s (place c.out.to)) (m : IsStaying x s written c r fresh_left fresh_right) where
  -- all of the left input was read
  pub left_out_rests : fresh_left ≡ [] → IsRest x s c r fresh_right
  left_out_rests none =
      let all : AtMost (place c.out.to) r.read =
      λ t h. m.left_behind t (upto_same x.stop_left r.left t
      (same_places (subst (λ f. Tells (Truth x.p x.tr) r.left f x.stop_left) none m.left_tells)) (of.left_enough t h)) in
      record {
        holds = λ t a h. absurd (not_both r.read t (all t h) a);
        falls = settled of.looks (staying-remembers of m) (place c.out.to) (inr all);
        spent = elim m.spent [
          | inl same ↦ absurd (of.some_left (sym same ∙ none))
          | inr spent ↦ (λ w first. elim (spent w first) [
            | inl b ↦ inl (before_of_at_most (place c.out.to) r.read
                (moved_begin s.window.begin_by s.window.begin_in (ends (interval w.on))) all b)
            | inr h ↦ inr (λ t k. h t (all t k))
          ])
        ];
      }

  -- all of the right input was read, so up to the end the node fails beyond what was found
  pub right_out_falls : fresh_right ≡ [] → (t : Rational) → After (place c.out.at) t → After (place c.reach) t → Upto (place c.out.to) t
      → ¬ Truth x.n x.tr t
  right_out_falls none =
      settled of.looks (staying-remembers of m) (place c.out.to)
      (inl (λ t u a h. upto_same x.stop_right r.right u
      (same_places (subst (λ f. Tells (Counted true x.q x.tr) r.right f x.stop_right) none m.right_tells)) (of.right_enough t u a h)))

-- where the left input fails at the end of the stretch
module _ {old new : Held} {s : Since} {c : Wrote} {out : Out} {held to : Cut} {v : Verdict} (at : IsWorking old s c)
    (first : slice_get (fresh_at old s.window.of) 0 ≡ Some v) (failing : v.holds ≡ false)
    (said : HasSaidBoth old new c.out true held to out) (to_is : to ≡ c.out.to)
    (held_reach : AtMost (place held) (place c.reach)) (held_begin : AtMost (place held) (begins (interval v.on)))
    (held_one : (held ≡ c.reach) ⊎ (place held ≡ begins (interval v.on))) (beyond : Before (place c.out.to) (ends (interval v.on))) where
  kept_left : fresh_at new s.window.of ≡ fresh_at old s.window.of
  kept_left = ap (λ y. y.fresh) (got-other said.got s.window.of at.left_apart)

  kept_right : fresh_at new s.right ≡ fresh_at old s.right
  kept_right = ap (λ y. y.fresh) (got-other said.got s.right at.right_apart)

  all : AtMost (place c.out.to) (place out.at)
  all t h = said.reached t (subst (λ (q : Cut). Upto (place q) t) (sym to_is) h) h

  done : (end : Wrote) → end.out ≡ out
      → ((x : Stay) (written : List Verdict) (r : Reads) → IsSince x s (place c.out.to)
      → IsStaying x s written c r (fresh_at old s.window.of) (fresh_at old s.right)
      → (r' : Reads) × IsStaying x s (written ++ said.more) end r' (fresh_at old s.window.of) (fresh_at old s.right)
      × IsSpent s (fresh_at old s.right) (place c.out.to) (place end.run))
      → HasDone old new s c end
  done end is told =
      record {
        more = said.more;
        few = omega (arith, said.few);
        owed = omega (arith, said.owed, ap (λ o. waiting o.holds) is);
        worked = worked_put at.own at.left_apart at.right_apart said.got;
        fewer = omega (arith, ap length kept_left, ap length kept_right);
        edge = ap (λ o. o.edge) is ∙ said.edge;
        to = ap (λ o. o.to) is ∙ said.end;
        sound = subst (λ (o : Out). IsSound o) (sym is) said.sound;
        all = λ t h. subst (λ (o : Out). Upto (place o.at) t) (sym is) (all t h);
        inside = λ t h. said.inside t (subst (λ (o : Out). Upto (place o.at) t) is h);
        left = λ y other.
            let both : Some y ≡ Some v = sym other ∙ ap (λ f. slice_get f 0) kept_left ∙ first in
            let same : v ≡ y = cc in
            subst (λ (q : Verdict). Before (place c.out.to) (ends (interval q.on))) same beyond;
        told = λ x written r of m.
            let next = told x written r of m in (
              next.0,
              subst (λ f. IsStaying x s (written ++ said.more) end next.0 f (fresh_at new s.right)) (sym kept_left)
                  (subst (λ f. IsStaying x s (written ++ said.more) end next.0 (fresh_at old s.window.of) f) (sym kept_right) next.1),
              subst (λ f. IsSpent s f (place c.out.to) (place end.run)) (sym kept_right) next.2,
            );
      }

  module _ {x : Stay} {written : List Verdict} {r : Reads} (of : IsSince x s (place c.out.to))
      (m : IsStaying x s written c r (fresh_at old s.window.of) (fresh_at old s.right)) where
    begun : Same r.left (begins (interval v.on))
    begun = (left-first of m first).0

    later : (t : Rational) → After (place out.at) t → After (place c.out.at) t
    later t a = after_at_most (place c.out.at) (place out.at) t said.forward a

    past : (t : Rational) → After (place out.at) t → After (place c.out.to) t
    past t a = after_at_most (place c.out.to) (place out.at) t all a

    failed : AllAre false (Truth x.p x.tr) r.read (ends (interval v.on))
    failed = subst (λ b. AllAre b (Truth x.p x.tr) r.read (ends (interval v.on))) failing (left-says of m first)

    found : (t : Rational) → After (place c.out.at) t → Upto (place c.out.to) t → Upto (place held) t → Truth x.n x.tr t
    found t a inside h = went_on of.looks (staying-remembers of m) t a
        (held_reach t h) (m.left_behind t (upto_same (begins (interval v.on)) r.left t (same_places begun) (held_begin t h)))

    which : (t : Rational) → After (place c.out.at) t → After (place held) t → After (place c.reach) t ⊎ After r.read t
    which t a b = elim held_one [
      | inl is ↦ inl (subst (λ (q : Cut). After (place q) t) is b)
      | inr is ↦ inr (m.tight t (after_same (begins (interval v.on)) r.left t (same_places begun)
          (subst (λ (q : Place). After q t) is b)) (m.ran t a))
    ]

    lost : (t : Rational) → After (place c.out.at) t → Upto (place c.out.to) t → After (place held) t → ¬ Truth x.n x.tr t
    lost t a inside b = fails of.looks (staying-remembers of m) (ends (interval v.on)) failed t a (which t a b)
        (upto_of_before (place c.out.to) (ends (interval v.on)) t beyond inside)

    -- it goes on from before the end: its run ends there
    cut_here : Before (begins (interval v.on)) (place c.out.to) → Before (place c.run) (place c.out.to)
        → (r' : Reads) × IsStaying x s (written ++ said.more) (record { out = out; reach = to; run = to }) r' (fresh_at old s.window.of) (fresh_at old s.right)
        × IsSpent s (fresh_at old s.right) (place c.out.to) (place to)
    cut_here begins_before run_before =
        let e : Place = place to in
        let e_is : AtMost (place c.out.to) e = λ t h. subst (λ (q : Cut). Upto (place q) t) (sym to_is) h in
        let is_e : AtMost e (place c.out.to) = λ t h. subst (λ (q : Cut). Upto (place q) t) to_is h in
        let ahead : Before r.read (place c.out.to) = read_before begins_before run_before in
        let ahead_e : Before r.read e = subst (λ (q : Cut). Before r.read (place q)) (sym to_is) ahead in (
          record { read = e; left = r.left; right = r.right },
          record {
            told = said.told x.n x.tr x.begin written m.told (λ t a inside h. found t a inside h) (λ t a inside b u. lost t a inside b);
            knows = knows_new_run m.knows (place out.at) e ahead_e
                (λ t a h. failed t a (upto_of_before (place c.out.to) (ends (interval v.on)) t beyond (is_e t h)))
                (λ t a. (later t a, after_at_most e (place c.out.to) t is_e (past t a)));
            left_tells = m.left_tells;
            right_tells = m.right_tells;
            left_behind = λ t h. upto_of_before r.read e t ahead_e (m.left_behind t h);
            tight = λ t a b. b;
            ahead = λ z is_first.
                let both : Some z ≡ Some v = sym is_first ∙ first in
                let same : v ≡ z = cc in
                before_of_at_most e (place c.out.to) (ends (interval z.on)) is_e
                (subst (λ (q : Verdict). Before (place c.out.to) (ends (interval q.on))) same beyond);
            ran = λ t a. after_at_most e (place c.out.to) t is_e (past t a);
            answered = λ t a b. b;
            within = λ t h. subst (λ (q : Cut). Upto (place q) t) (sym said.end) (is_e t h);
            from_start = λ t h. upto_of_before r.read e t ahead_e (run_behind of m t (m.from_start t h));
            spent = inr (λ w is_first. inr (λ t h. h));
          },
          λ w is_first. inr e_is,
        )
      where
        read_before : Before (begins (interval v.on)) (place c.out.to) → Before (place c.run) (place c.out.to) → Before r.read (place c.out.to)
        read_before b d = elim (place_order r.read (place c.out.to)) [ inl k ↦ k | inr o ↦ absurd (never (not_before o)) ]
          where
            not_before : Same r.read (place c.out.to) ⊎ Before (place c.out.to) r.read → AtMost (place c.out.to) r.read
            not_before (inl same) t h = upto_same (place c.out.to) r.read t (same_places same) h
            not_before (inr before) t h = upto_of_before (place c.out.to) r.read t before h

            never : AtMost (place c.out.to) r.read → ⊥
            never whole =
                let y = between r.left (place c.out.to) (same_before r.left (begins (interval v.on)) (place c.out.to) begun b) in
                let z = between (place c.run) (place c.out.to) d in
                elim (le_or_lt y.0 z.0) [
                  | inl le ↦ not_both r.read z.0 (whole z.0 z.2) (m.tight z.0 (after_later r.left y.0 z.0 le y.1) z.1)
                  | inr lt ↦ not_both r.read y.0 (whole y.0 y.2) (m.tight y.0 y.1 (after_later (place c.run) z.0 y.0 (le_of_lt lt) z.1))
                ]

    -- it, or the run, begins only there
    cut_later : AtMost (place c.out.to) r.read → (AtMost (place c.out.to) (begins (interval v.on))) ⊎ (AtMost (place c.out.to) (place c.run))
        → (r' : Reads) × IsStaying x s (written ++ said.more) (record { out = out; reach = c.reach; run = c.run }) r'
        (fresh_at old s.window.of) (fresh_at old s.right)
        × IsSpent s (fresh_at old s.right) (place c.out.to) (place c.run)
    cut_later whole why = (
      r,
      record {
        told = said.told x.n x.tr x.begin written m.told (λ t a inside h. found t a inside h) (λ t a inside b u. lost t a inside b);
        knows = knows_later m.knows (place out.at) later;
        left_tells = m.left_tells;
        right_tells = m.right_tells;
        left_behind = m.left_behind;
        tight = m.tight;
        ahead = m.ahead;
        ran = λ t a. m.ran t (later t a);
        answered = λ t a b. m.answered t (later t a) b;
        within = λ t h. subst (λ (q : Cut). Upto (place q) t) (sym said.end) (m.within t h);
        from_start = m.from_start;
        spent = m.spent;
      },
      λ w is_first. spent_there w is_first why m.spent,
    )
      where
        spent_there : (w : Verdict) → slice_get (fresh_at old s.right) 0 ≡ Some w
            → (AtMost (place c.out.to) (begins (interval v.on))) ⊎ (AtMost (place c.out.to) (place c.run))
            → (fresh_at old s.window.of ≡ x.first) ⊎ IsSpent s (fresh_at old s.right) r.read (place c.run)
            → Before (place c.out.to) (moved_begin s.window.begin_by s.window.begin_in (ends (interval w.on))) ⊎ AtMost (place c.out.to) (place c.run)
        spent_there w is_first (inr run) spent = inr run
        spent_there w is_first (inl left) (inl same) =
            let b = of.begins_left v (ap (λ f. slice_get f 0) (sym same) ∙ first) in
            let y = between (begins (interval v.on)) (place c.out.to) b in
            absurd (not_both (begins (interval v.on)) y.0 (left y.0 y.2) y.1)
        spent_there w is_first (inl left) (inr spent) = elim (spent w is_first) [
          | inl b ↦ inl (before_of_at_most (place c.out.to) r.read (moved_begin s.window.begin_by s.window.begin_in (ends (interval w.on))) whole b)
          | inr h ↦ inr (λ t k. h t (whole t k))
        ]

  -- where the left side holds to the stretch's end, the end is where what was found counts to
  pub ends_here : Before (begins (interval v.on)) (place c.out.to) → Before (place c.run) (place c.out.to)
      → HasDone old new s c (record { out = out; reach = to; run = to })
  ends_here b d = done (record { out = out; reach = to; run = to }) refl (λ x written r of m. cut_here of m b d)

  -- where the left verdict begins behind the stretch nothing changes at its end
  pub ends_later : (AtMost (place c.out.to) (begins (interval v.on))) ⊎ (AtMost (place c.out.to) (place c.run))
      → HasDone old new s c (record { out = out; reach = c.reach; run = c.run })
  ends_later why = done (record { out = out; reach = c.reach; run = c.run }) refl (λ x written r of m. cut_later of m (whole of m why) why)
    where
      whole : {x : Stay} {written : List Verdict} {r : Reads} (of : IsSince x s (place c.out.to))
          → (m : IsStaying x s written c r (fresh_at old s.window.of) (fresh_at old s.right))
          → (AtMost (place c.out.to) (begins (interval v.on))) ⊎ (AtMost (place c.out.to) (place c.run)) → AtMost (place c.out.to) r.read
      whole {x} {written} {r} of m (inl left) t h =
          m.left_behind t (upto_same (begins (interval v.on)) r.left t (same_places (left-first of m first).0) (left t h))
      whole of m (inr run) t h = run_behind of m t (run t h)
