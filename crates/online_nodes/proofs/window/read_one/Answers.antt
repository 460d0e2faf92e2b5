use Rattle.std.proofs.Common.{rules, refl, sym, ◌∙◌, ap, subst, ◌≡◌, [], ◌∷◌, ◌++◌, arith, to_z, of_z, length, drop, inl, inr, to_z-of_z}
use Rattle.std.specs.Int.{w64}
use Rattle.std.proofs.lemmas.List.{append-nil}
use Rattle.std.proofs.lemmas.Option.{slice_get_within}
use Rattle.std.proofs.lemmas.Bool.{true≢false}
use Rattle.std.proofs.lemmas.Option.{none-some}
use Rattle.frac128.specs.Value.{value}
use Rattle.frac128.specs.Spans.{interval}
use Rattle.online_nodes.specs.Working.{HasPassed}
use Rattle.frac128.specs.declared.cut.Cut.{Cut}
use Rattle.rational.specs.Places.{Place, ends, Same, Upto, Before, begins, moved_begin}
use Rattle.frac128.specs.Cuts.{place}
use Rattle.online_nodes.specs.Held.{fresh_at}
use Rattle.online_nodes.specs.Sweeps.{IsSwept}
use Rattle.online_nodes.proofs.OneVerdictMore.{first_is, none_left, not_sought, too_late, found_part, spared_part, counts_now}
use Rattle.online_nodes.proofs.OneVerdictMore.{sought_not, sought_is, begin_alike, begins_beyond, end_alike, fits_alike}
use Rattle.rational.proofs.PlaceLemmas.{sides, not_both, at_most_of_not_before, after_same}
use Rattle.rational.proofs.Lists.{on_err_anyway, empty_of_none}
use Rattle.online_nodes.proofs.GotLemmas.{got-length, got-other}
use Rattle.online_nodes.proofs.WorkLemmas.{worked_pass}
use Rattle.online_nodes.proofs.SaidLemmas.{answered_twice, passed-fresh, passed-one, worked_read}
use Rattle.online_nodes.proofs.window.read_one.Goals as goal

pub returns-in_default-clause-read : goal.returns-in_default-clause-read
returns-in_default-clause-read c =
    record {
      same = refl;
      beyond = λ v first. absurd (none-some v (sym (sym first ∙ sym c.next.ensures ∙ c.in_default.is)));
      settles = λ n p tr begin written read stop of m.
          none_left n p tr c.args.window begin written read stop c.args.sweep of
          (subst (λ l. IsSwept n p tr c.args.window begin written c.args.sweep read stop l)
          (empty_of_none (fresh_at c.args.edges.now c.args.window.of) (sym c.next.ensures ∙ c.in_default.is)) m);
    }

pub returns-then-v-window-clause-read : goal.returns-then-v-window-clause-read
returns-then-v-window-clause-read c =
    let f = first_is (fresh_at c.args.edges.now c.args.window.of) c.in-Some.v (sym c.next.ensures ∙ c.in-Some.is) in
    let passed : HasPassed c.args.edges.now c.pass.new.self c.args.window.of c.pass.result =
    record {
      within = c.requires.input;
      first = c.pass.ensures.first;
      edges = c.pass.ensures.read;
      start = c.pass.ensures.start;
      spare = c.pass.ensures.spare;
    } in
    record {
      more = [];
      few = omega arith;
      owed = omega arith;
      worked = worked_pass passed (λ same. c.requires.apart (sym same)) (inl refl);
      one = passed-one passed;
      fresh = passed-fresh passed;
      edge = refl;
      end = refl;
      sound = c.requires.sound;
      inside = c.requires.inside;
      swept = λ n p tr begin written read stop of m. (
        ends (interval c.in-Some.v.on),
        subst (λ l. IsSwept n p tr c.args.window begin l c.args.sweep (ends (interval c.in-Some.v.on)) stop
            (fresh_at c.pass.new.self c.args.window.of))
            (sym (append-nil written))
            (subst (λ l. IsSwept n p tr c.args.window begin written c.args.sweep (ends (interval c.in-Some.v.on)) stop l)
            (sym (passed-fresh passed ∙ f.2))
            (not_sought n p tr c.args.window begin written read stop c.args.sweep c.in-Some.v f.0
            (sought_not c.in-Some.v.holds c.args.window.seeks c.if-v-window.true)
            (subst (λ l. IsSwept n p tr c.args.window begin written c.args.sweep read stop l) f.1 m))),
      );
    }

pub shift_begin-begin-requires : goal.shift_begin-begin-requires
shift_begin-begin-requires c =
    fits_alike (value c.begin.result.time) (value c.in-Some.v.on.from) (to_z w64 (of_z w64 c.args.window.begin_by)) c.args.window.begin_by
    (ap (λ (q : Place). q.at) c.begin.ensures) (search (rules, to_z-of_z)) (c.requires.fits c.in-Some.v (sym c.next.ensures ∙ c.in-Some.is)).0

pub returns-then-precedes-clause-read : goal.returns-then-precedes-clause-read
returns-then-precedes-clause-read c =
    let f = first_is (fresh_at c.args.edges.now c.args.window.of) c.in-Some.v (sym c.next.ensures ∙ c.in-Some.is) in
    let from : Place = place c.shift_begin-begin.result in
    let from_is : Same from (moved_begin c.args.window.begin_by c.args.window.begin_in (begins (interval c.in-Some.v.on))) =
    begin_alike (place c.shift_begin-begin.result) _ c.args.window.begin_by c.args.window.begin_in _ (begins (interval c.in-Some.v.on))
    (search (rules, to_z-of_z)) c.begin.ensures c.shift_begin-begin.ensures in
    let later : Before (place c.args.sweep.out.to) from =
    subst (λ (q : Cut). Before (place q) (place c.shift_begin-begin.result)) c.end.ensures (c.precedes.ensures.0 c.if-precedes.true) in
    record {
      same = refl;
      beyond = λ v first.
          begins_beyond (fresh_at c.args.edges.now c.args.window.of) c.in-Some.v (sym c.next.ensures ∙ c.in-Some.is) c.args.window
          (place c.args.sweep.out.to) from later from_is v first;
      settles = λ n p tr begin written read stop of m.
          too_late n p tr c.args.window begin written read stop c.args.sweep c.in-Some.v f.0 from of from_is later
          (subst (λ l. IsSwept n p tr c.args.window begin written c.args.sweep read stop l) f.1 m);
    }

pub read_along-requires-clause-fits : goal.read_along-requires-clause-fits
read_along-requires-clause-fits c = c.requires.fits c.in-Some.v (sym c.next.ensures ∙ c.in-Some.is)

pub read_along-requires-clause-along : goal.read_along-requires-clause-along
read_along-requires-clause-along c t after =
    let from : Place = place c.shift_begin-begin.result in
    let from_is : Same from (moved_begin c.args.window.begin_by c.args.window.begin_in (begins (interval c.in-Some.v.on))) =
    begin_alike (place c.shift_begin-begin.result) _ c.args.window.begin_by c.args.window.begin_in _ (begins (interval c.in-Some.v.on))
    (search (rules, to_z-of_z)) c.begin.ensures c.shift_begin-begin.ensures in
    after_same from (moved_begin c.args.window.begin_by c.args.window.begin_in (begins (interval c.in-Some.v.on))) t from_is
    (elim (sides from t) [
      | inl h ↦ absurd (not_both (place c.args.sweep.reach) t
          (at_most_of_not_before from (place c.args.sweep.reach)
          (λ b. let r = c.precedes-2.ensures.1 b in let e = c.if-not-precedes.true in cc) t h) after)
      | inr h ↦ h
    ])

pub upto-requires-2-clause-edge : goal.upto-requires-2-clause-edge
upto-requires-2-clause-edge c =
    let one = c.in_ok-found.ensures.said in omega (arith, one.edge, got-length one.got, c.requires.own)

pub upto-requires-2-clause-inside : goal.upto-requires-2-clause-inside
upto-requires-2-clause-inside c t h =
    subst (λ (q : Cut). Upto (place q) t) (sym c.in_ok-found.ensures.said.end) (c.in_ok-found.ensures.reaches.inside t h)

pub upto-requires-2-clause-sound : goal.upto-requires-2-clause-sound
upto-requires-2-clause-sound c = c.in_ok-found.ensures.said.sound

pub pass-requires-2-clause-edge : goal.pass-requires-2-clause-edge
pass-requires-2-clause-edge c =
    let both = answered_twice c.requires.own c.in_ok-found.ensures.said c.in_ok-out.ensures.said in
    omega (arith, got-length both.got, c.requires.input)

pub pass-requires-2-clause-some : goal.pass-requires-2-clause-some
pass-requires-2-clause-some c =
    let both = answered_twice c.requires.own c.in_ok-found.ensures.said c.in_ok-out.ensures.said in
    let same = ap (λ x. length x.fresh) (got-other both.got c.args.window.of c.requires.apart) in
    let some = slice_get_within (fresh_at c.args.edges.now c.args.window.of) 0 c.in-Some.v (sym c.next.ensures ∙ c.in-Some.is) in
    omega (arith, same, some)

pub shift_end-reach-requires : goal.shift_end-reach-requires
shift_end-reach-requires c =
    fits_alike (value c.end-2.result.time) (value c.in-Some.v.on.to) (to_z w64 (of_z w64 c.args.window.end_by)) c.args.window.end_by
    (ap (λ (q : Place). q.at) c.end-2.ensures) (search (rules, to_z-of_z)) (c.requires.fits c.in-Some.v (sym c.next.ensures ∙ c.in-Some.is)).1

pub returns-in_err-out-clause-memory : goal.returns-in_err-out-clause-memory
returns-in_err-out-clause-memory c =
    let one = c.in_ok-found.ensures.said in
    on_err_anyway c.from_residual-in_err-out.result (omega (arith, one.got.spare, one.few, c.in_err-out.ensures.memory))

pub returns-clause-read : goal.returns-clause-read
returns-clause-read c =
    let w = c.args.window in
    let s = c.args.sweep in
    let v = c.in-Some.v in
    let f = first_is (fresh_at c.args.edges.now w.of) v (sym c.next.ensures ∙ c.in-Some.is) in
    let from = place c.shift_begin-begin.result in
    let one = c.in_ok-found.ensures.reaches in
    let two = c.in_ok-out.ensures.reaches in
    let same : c.in_ok-found.found.to ≡ s.out.to = c.in_ok-found.ensures.said.end in
    let both = answered_twice c.requires.own c.in_ok-found.ensures.said c.in_ok-out.ensures.said in
    let kept : fresh_at c.upto-2.new.edges w.of ≡ fresh_at c.args.edges.now w.of = ap (λ x. x.fresh) (got-other both.got w.of c.requires.apart) in
    let passed : HasPassed c.upto-2.new.edges c.pass-2.new.self w.of c.pass-2.result =
    record {
      within = omega (arith, got-length both.got, c.requires.input);
      first = c.pass-2.ensures.first;
      edges = c.pass-2.ensures.read;
      start = c.pass-2.ensures.start;
      spare = c.pass-2.ensures.spare;
    } in
    let left : fresh_at c.pass-2.new.self w.of ≡ drop 1 (fresh_at c.args.edges.now w.of) = passed-fresh passed ∙ ap (drop 1) kept in
    record {
      more = both.more;
      few = both.few;
      owed = both.owed;
      worked = worked_read c.requires.own c.requires.apart both.got passed;
      one = sym (ap length kept) ∙ passed-one passed;
      fresh = left;
      edge = both.edge;
      end = both.end;
      sound = both.sound;
      inside = λ t h. subst (λ (q : Cut). Upto (place q) t) same (two.inside t h);
      swept = λ n p tr begin written read stop of m.
          let m' = subst (λ l. IsSwept n p tr w begin written s read stop l) f.1 m in
          let e = begin_alike from _ w.begin_by w.begin_in _ (begins (interval v.on)) (search (rules, to_z-of_z)) c.begin.ensures
          c.shift_begin-begin.ensures in
          let told = both.told n tr begin written m.told
          (found_part n p tr w begin written read stop s (v ∷ f.0) (place c.in_ok-found.found.at) one.no_more of m')
          (spared_part n p tr w begin written read stop m' of one two same e) in (
            ends (interval v.on),
            subst (λ l. IsSwept n p tr w begin (written ++ both.more)
                (record { out = c.in_ok-out.out; reach = c.shift_end-reach.result }) (ends (interval v.on)) stop l)
                (sym (left ∙ f.2))
                (counts_now n p tr w begin written read stop (record { out = c.in_ok-out.out; reach = c.shift_end-reach.result }) from
                (written ++ both.more) m' of (sought_is v.holds w.seeks c.if-v-window.false) e
                (end_alike (place c.shift_end-reach.result) _ w.end_by w.end_in _ (ends (interval v.on)) (search (rules, to_z-of_z)) c.end-2.ensures
                c.shift_end-reach.ensures)
                (λ t a. elim (sides from t) [
                  | inl h ↦ absurd (not_both (place c.in_ok-out.out.at) t (two.reached t h
                      (subst (λ (q : Cut). Upto (place q) t) (sym same)
                      (at_most_of_not_before from (place s.out.to)
                      (λ b. true≢false (sym (c.precedes.ensures.1 (subst (λ (q : Cut). Before (place q) from)
                      (sym c.end.ensures) b)) ∙ c.if-precedes.false)) t h))) a)
                  | inr h ↦ h
                ])
                told),
          );
    }

pub pass-requires : goal.pass-requires
pass-requires c = record {
  edge = c.requires.input;
  some = slice_get_within (fresh_at c.args.edges.now c.args.window.of) 0 c.in-Some.v (sym c.next.ensures ∙ c.in-Some.is);
}

pub read_along-requires-clause-input : goal.read_along-requires-clause-input
read_along-requires-clause-input c = c.requires.input

pub read_along-requires-clause-apart : goal.read_along-requires-clause-apart
read_along-requires-clause-apart c = c.requires.apart

pub read_along-requires-clause-sound : goal.read_along-requires-clause-sound
read_along-requires-clause-sound c = c.requires.sound

pub read_along-requires-clause-inside : goal.read_along-requires-clause-inside
read_along-requires-clause-inside c = c.requires.inside

pub read_along-requires-clause-first : goal.read_along-requires-clause-first
read_along-requires-clause-first c = sym c.next.ensures ∙ c.in-Some.is

pub read_along-requires-clause-sought : goal.read_along-requires-clause-sought
read_along-requires-clause-sought c = sought_is c.in-Some.v.holds c.args.window.seeks c.if-v-window.false

pub upto-requires : goal.upto-requires
upto-requires c = record { edge = c.requires.own; inside = c.requires.inside; sound = c.requires.sound }
