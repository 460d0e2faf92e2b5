-- A window swept verdict by verdict.
use Rattle.std.proofs.Common.{slice_get, ◌≡◌, ◌≢◌, ℕ, ◌+◌, ◌*◌, ◌<◌, ◌≤◌, List, [], ◌++◌, drop, length, refl, sym, ap, subst}
use Rattle.std.proofs.Common.{◌∙◌, arith, append_assoc, length-append}
use Rattle.std.proofs.lemmas.List.{append-nil}
use Rattle.stl_syntax.specs.Trace.{Trace}
use Rattle.stl_syntax.specs.Formula.{Subformula}
use Rattle.stl_syntax.specs.declared.items.Verdict.{Verdict}
use Rattle.frac128.specs.Spans.{interval}
use Rattle.rational.specs.Places.{Place, begins, moved_begin, Before, Upto, AtMost}
use Rattle.frac128.specs.Cuts.{place}
use Rattle.online_nodes.specs.Held.{Held, fresh_at}
use Rattle.online_nodes.specs.Sweeps.{HasEnded, HasRead, HasStopped, HasSwept, IsSwept, IsWindowOf}
use Rattle.online_nodes.specs.Working.{HasWorked}
use Rattle.online_nodes.specs.Written.{HasGot, IsSound, waiting}
use Rattle.frac128.specs.declared.cut.Cut.{Cut}
use Rattle.online_nodes.specs.declared.window.Window.{Window}
use Rattle.online_nodes.specs.declared.window.Sweep.{Sweep}
use Rattle.node_edges.proofs.DroppingLemmas.{drop-drop}
use Rattle.online_nodes.proofs.GotLemmas.{got-other}
use Rattle.online_nodes.proofs.WorkLemmas.{worked_none, worked_put, worked_both}

-- some verdicts were read, and at most two put for each
pub record HasGoneOn (old now : Held) (w : Window) (s here : Sweep) : Type 0 where
  -- what was put on the node's edge
  pub more : List Verdict
  -- at most two for each verdict that was read
  pub few : length more + 2 * length (fresh_at now w.of) ≤ 2 * length (fresh_at old w.of)
  -- with what waits, no more than that and what waited
  pub owed : length more + waiting here.out.holds + 2 * length (fresh_at now w.of) ≤ 2 * length (fresh_at old w.of) + waiting s.out.holds
  -- the input was read on, and that was put
  pub worked : HasWorked old now s.out.edge w.of w.of more
  -- how many verdicts were read
  pub read : ℕ
  -- they were the first
  pub fresh : fresh_at now w.of ≡ drop read (fresh_at old w.of)
  -- for the same edge
  pub edge : here.out.edge ≡ s.out.edge
  -- to the same end
  pub end : here.out.to ≡ s.out.to
  -- and what is told is sound
  pub sound : IsSound here.out
  -- not beyond the end
  pub inside : AtMost (place here.out.at) (place s.out.to)
  -- what is known of the input goes on
  pub swept : (n p : Subformula) (tr : Trace) (begin : Place) (written : List Verdict) (read stop : Place)
      → IsWindowOf n p tr w (place s.out.to) stop → IsSwept n p tr w begin written s read stop (fresh_at old w.of)
      → (from : Place) × IsSwept n p tr w begin (written ++ more) here from stop (fresh_at now w.of)

-- before the first verdict nothing has changed
pub gone_none : (e : Held) (w : Window) (s : Sweep) → IsSound s.out → AtMost (place s.out.at) (place s.out.to) → HasGoneOn e e w s s
gone_none e w s sound inside =
    record {
      more = [];
      few = omega arith;
      owed = omega arith;
      worked = worked_none e s.out.edge w.of w.of;
      read = 0;
      fresh = refl;
      edge = refl;
      end = refl;
      sound = sound;
      inside = inside;
      swept = λ n p tr begin written read stop of m.
          (read, subst (λ l. IsSwept n p tr w begin l s read stop (fresh_at e w.of)) (sym (append-nil written)) m);
    }

-- one turn more goes on from those before
pub gone_one : {old now new : Held} {w : Window} {s here next : Sweep} → HasGoneOn old now w s here → HasRead now new w here next
    → HasGoneOn old new w s next
gone_one {old} {now} {new} {w} {s} {here} {next} gone one =
    record {
      more = gone.more ++ one.more;
      few = omega (arith, gone.few, one.few, one.one, length-append gone.more one.more);
      owed = omega (arith, gone.owed, one.owed, one.one, length-append gone.more one.more);
      worked = worked_both gone.worked (subst (λ i. HasWorked now new i w.of w.of one.more) gone.edge one.worked);
      read = gone.read + 1;
      fresh = one.fresh ∙ ap (drop 1) gone.fresh ∙ drop-drop 1 gone.read (fresh_at old w.of);
      edge = one.edge ∙ gone.edge;
      end = one.end ∙ gone.end;
      sound = one.sound;
      inside = λ t h. subst (λ (q : Cut). Upto (place q) t) gone.end (one.inside t h);
      swept = λ n p tr begin written read stop of m.
          let so_far = gone.swept n p tr begin written read stop of m in
          let more = one.swept n p tr begin (written ++ gone.more) so_far.0 stop
          (subst (λ (q : Cut). IsWindowOf n p tr w (place q) stop) (sym gone.end) of) so_far.1 in
          (more.0, subst (λ l. IsSwept n p tr w begin l next more.0 stop (fresh_at new w.of)) (append_assoc written gone.more one.more) more.1);
    }

-- where the rest needs no verdict more, and is told
pub gone_to_end : {old now same new : Held} {w : Window} {s here end : Sweep} → s.out.edge < length old.edges → w.of ≢ s.out.edge
    → HasGoneOn old now w s here → HasStopped now same w here → HasEnded same new w here end → HasSwept old new w s end
gone_to_end {old} {now} {same} {new} {w} {s} {here} {end} own apart gone stopped ended =
    let got : HasGot now new s.out.edge ended.more =
    subst (λ i. HasGot now new i ended.more) gone.edge (subst (λ e. HasGot e new here.out.edge ended.more) stopped.same ended.got) in
    let own_now : s.out.edge < length now.edges = omega (arith, gone.worked.count) in
    let kept : fresh_at new w.of ≡ fresh_at now w.of = ap (λ x. x.fresh) (got-other got w.of apart) in
    record {
      more = gone.more ++ ended.more;
      few = omega (arith, gone.few, ended.few, length-append gone.more ended.more);
      owed = omega (arith, gone.owed, ended.owed, length-append gone.more ended.more);
      worked = worked_both gone.worked (worked_put own_now apart apart got);
      beyond = λ v first. subst (λ (q : Cut). Before (place q) (moved_begin w.begin_by w.begin_in (begins (interval v.on)))) gone.end
          (stopped.beyond v (ap (λ f. slice_get f 0) (sym kept) ∙ first));
      edge = ended.edge ∙ gone.edge;
      to = ended.to ∙ gone.end;
      sound = ended.sound;
      all = λ t h. ended.all t (subst (λ (q : Cut). Upto (place q) t) (sym gone.end) h);
      inside = λ t h. subst (λ (q : Cut). Upto (place q) t) gone.end (ended.inside t h);
      told = λ n p tr begin written read stop of m.
          let here_of = subst (λ (q : Cut). IsWindowOf n p tr w (place q) stop) (sym gone.end) of in
          let so_far = gone.swept n p tr begin written read stop of m in
          let last = ended.told n p tr begin (written ++ gone.more) so_far.0 stop (fresh_at now w.of) here_of so_far.1
          (stopped.settles n p tr begin (written ++ gone.more) so_far.0 stop here_of so_far.1) in (
            so_far.0,
            subst (λ l. IsSwept n p tr w begin l end so_far.0 stop (fresh_at new w.of)) (append_assoc written gone.more ended.more)
                (subst (λ f. IsSwept n p tr w begin ((written ++ gone.more) ++ ended.more) end so_far.0 stop f) (sym kept) last),
          );
    }
