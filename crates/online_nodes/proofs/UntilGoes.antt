-- Until, verdict by verdict.
use Rattle.std.proofs.Common.{◌≡◌, ◌+◌, ◌*◌, ◌≤◌, List, [], ◌++◌, length, refl, sym, subst, ◌∙◌, arith, append_assoc, length-append}
use Rattle.std.proofs.lemmas.List.{append-nil}
use Rattle.stl_syntax.specs.declared.items.Verdict.{Verdict}
use Rattle.rational.specs.Places.{Upto, AtMost}
use Rattle.frac128.specs.Cuts.{place}
use Rattle.online_nodes.specs.Held.{Held, fresh_at}
use Rattle.online_nodes.specs.Working.{HasWorked}
use Rattle.online_nodes.specs.Written.{IsSound, waiting}
use Rattle.online_nodes.specs.Untils.{Stretch, Reads, IsUntil, IsTurned, HasSettled, HasTurned, HasUntilEnded, HasUntilTold}
use Rattle.frac128.specs.declared.cut.Cut.{Cut}
use Rattle.online_nodes.specs.declared.window.Sweep.{Sweep}
use Rattle.online_nodes.specs.declared.until.Until.{Until}
use Rattle.online_nodes.proofs.WorkLemmas.{worked_none, worked_both}

-- some verdicts were read, and at most two put for each
pub record HasGoneOn (old now : Held) (u : Until) (s here : Sweep) : Type 0 where
  -- what was put on the node's edge
  pub more : List Verdict
  -- at most two for each verdict that was read
  pub few : length more + 2 * (length (fresh_at now u.window.of) + length (fresh_at now u.right))
      ≤ 2 * (length (fresh_at old u.window.of) + length (fresh_at old u.right))
  -- with what waits, no more than that and what waited
  pub owed : length more + waiting here.out.holds + 2 * (length (fresh_at now u.window.of) + length (fresh_at now u.right))
      ≤ 2 * (length (fresh_at old u.window.of) + length (fresh_at old u.right)) + waiting s.out.holds
  -- the inputs were read on, and that was put
  pub worked : HasWorked old now s.out.edge u.window.of u.right more
  -- for the same edge
  pub edge : here.out.edge ≡ s.out.edge
  -- to the same end
  pub end : here.out.to ≡ s.out.to
  -- and what is told is sound
  pub sound : IsSound here.out
  -- not beyond the end
  pub inside : AtMost (place here.out.at) (place s.out.to)
  -- what is known of both inputs goes on
  pub goes : (x : Stretch) (written : List Verdict) (r : Reads) → IsUntil x u (place s.out.to)
      → IsTurned x u written s r (fresh_at old u.window.of) (fresh_at old u.right)
      → (r' : Reads) × IsTurned x u (written ++ more) here r' (fresh_at now u.window.of) (fresh_at now u.right)

-- before the first verdict nothing has changed
pub gone_none : (e : Held) (u : Until) (s : Sweep) → IsSound s.out → AtMost (place s.out.at) (place s.out.to) → HasGoneOn e e u s s
gone_none e u s sound inside =
    record {
      more = [];
      few = omega arith;
      owed = omega arith;
      worked = worked_none e s.out.edge u.window.of u.right;
      edge = refl;
      end = refl;
      sound = sound;
      inside = inside;
      goes = λ x written r of m.
          (r, subst (λ l. IsTurned x u l s r (fresh_at e u.window.of) (fresh_at e u.right)) (sym (append-nil written)) m);
    }

-- one turn more goes on from those before
pub gone_one : {old now new : Held} {u : Until} {s here next : Sweep} → HasGoneOn old now u s here → HasTurned now new u here next
    → HasGoneOn old new u s next
gone_one {old} {now} {new} {u} {s} {here} {next} gone one =
    record {
      more = gone.more ++ one.more;
      few = omega (arith, gone.few, one.few, one.fewer, length-append gone.more one.more);
      owed = omega (arith, gone.owed, one.owed, one.fewer, length-append gone.more one.more);
      worked = worked_both gone.worked (subst (λ i. HasWorked now new i u.window.of u.right one.more) gone.edge one.worked);
      edge = one.edge ∙ gone.edge;
      end = one.end ∙ gone.end;
      sound = one.sound;
      inside = λ t h. subst (λ (q : Cut). Upto (place q) t) gone.end (one.inside t h);
      goes = λ x written r of m.
          let so_far = gone.goes x written r of m in
          let more = one.goes x (written ++ gone.more) so_far.0 (subst (λ (q : Cut). IsUntil x u (place q)) (sym gone.end) of) so_far.1 in (
            more.0,
            subst (λ l. IsTurned x u l next more.0 (fresh_at new u.window.of) (fresh_at new u.right))
                (append_assoc written gone.more one.more) more.1,
          );
    }

-- the turns and the end of the stretch tell `until` on it
pub gone_to_end : {old now same new : Held} {u : Until} {s here end : Sweep} → HasGoneOn old now u s here → HasSettled now same u here
    → HasUntilEnded same new u here end → HasUntilTold old new u s end
gone_to_end {old} {now} {same} {new} {u} {s} {here} {end} gone settled ended_same =
    let ended : HasUntilEnded now new u here end = subst (λ e. HasUntilEnded e new u here end) settled.same ended_same in
    record {
      more = gone.more ++ ended.more;
      few = omega (arith, gone.few, ended.few, length-append gone.more ended.more);
      owed = omega (arith, gone.owed, ended.owed, length-append gone.more ended.more);
      worked = worked_both gone.worked (subst (λ i. HasWorked now new i u.window.of u.right ended.more) gone.edge ended.worked);
      edge = ended.edge ∙ gone.edge;
      to = ended.to ∙ gone.end;
      sound = ended.sound;
      all = λ t h. ended.all t (subst (λ (q : Cut). Upto (place q) t) (sym gone.end) h);
      inside = λ t h. subst (λ (q : Cut). Upto (place q) t) gone.end (ended.inside t h);
      told = λ x written r of m.
          let here_of = subst (λ (q : Cut). IsUntil x u (place q)) (sym gone.end) of in
          let so_far = gone.goes x written r of m in
          let last = ended.told x (written ++ gone.more) so_far.0 here_of so_far.1
          (settled.settles x (written ++ gone.more) so_far.0 here_of so_far.1) in (
            so_far.0,
            subst (λ l. IsTurned x u l end so_far.0 (fresh_at new u.window.of) (fresh_at new u.right))
                (append_assoc written gone.more ended.more) last,
          );
    }
