use Rattle.std.proofs.Common.{sym, subst, ◌≡◌, inl, inr, arith}
use Rattle.rational.specs.Places.{Upto}
use Rattle.frac128.specs.Cuts.{place}
use Rattle.frac128.specs.declared.cut.Cut.{Cut}
use Rattle.online_nodes.proofs.GotLemmas.{got-length}
use Rattle.rational.proofs.PlaceLemmas.{sides, not_both}
use Rattle.rational.proofs.Lists.{on_err_anyway}
use Rattle.online_nodes.proofs.SaidLemmas.{answered_twice}
use Rattle.online_nodes.proofs.OneVerdictMore.{found_part}
use Rattle.online_nodes.proofs.WindowLaw.{knows_later}
use Rattle.online_nodes.proofs.window.end_sweep.Goals as goal

pub upto-requires-2-clause-edge : goal.upto-requires-2-clause-edge
upto-requires-2-clause-edge c =
    let one = c.in_ok-found.ensures.said in omega (arith, one.edge, got-length one.got, c.requires.own)

pub upto-requires-2-clause-inside : goal.upto-requires-2-clause-inside
upto-requires-2-clause-inside c t h =
    subst (λ (q : Cut). Upto (place q) t) (sym c.in_ok-found.ensures.said.end) (c.in_ok-found.ensures.reaches.inside t h)

pub upto-requires-2-clause-sound : goal.upto-requires-2-clause-sound
upto-requires-2-clause-sound c = c.in_ok-found.ensures.said.sound

pub returns-in_err-out-clause-memory : goal.returns-in_err-out-clause-memory
returns-in_err-out-clause-memory c =
    let one = c.in_ok-found.ensures.said in
    on_err_anyway c.from_residual-in_err-out.result (omega (arith, one.got.spare, one.few, c.in_err-out.ensures.memory))

pub returns-clause-ended : goal.returns-clause-ended
returns-clause-ended c =
    let w = c.args.window in
    let s = c.args.sweep in
    let one = c.in_ok-found.ensures.reaches in
    let two = c.in_ok-out.ensures.reaches in
    let same : c.in_ok-found.found.to ≡ s.out.to = c.in_ok-found.ensures.said.end in
    let both = answered_twice c.requires.own c.in_ok-found.ensures.said c.in_ok-out.ensures.said in
    record {
      more = both.more;
      few = both.few;
      owed = both.owed;
      got = both.got;
      edge = both.edge;
      to = both.end;
      sound = both.sound;
      all = λ t h.
          let there = subst (λ (q : Cut). Upto (place q) t) (sym same) h in
          two.reached t (subst (λ (q : Cut). Upto (place q) t) (sym c.end.ensures) there) there;
      inside = λ t h. subst (λ (q : Cut). Upto (place q) t) same (two.inside t h);
      told = λ n p tr begin written read stop fresh of m settles.
          record {
            told = both.told n tr begin written m.told
                (found_part n p tr w begin written read stop s fresh (place c.in_ok-found.found.at) one.no_more of m)
                (λ t a u.
                let inside = subst (λ (q : Cut). Upto (place q) t) same (two.inside t u) in
                settles t
                (elim (sides (place s.out.at) t) [
                  | inl h ↦ absurd (not_both (place c.in_ok-found.found.at) t (one.forward t h) a)
                  | inr h ↦ h
                ])
                (elim (sides (place s.reach) t) [
                  | inl h ↦ absurd (not_both (place c.in_ok-found.found.at) t (one.reached t h inside) a)
                  | inr h ↦ h
                ])
                inside);
            knows = knows_later (place c.in_ok-out.out.at) m.knows
                (λ t a. elim (sides (place s.out.at) t) [
                  | inl h ↦ absurd (not_both (place c.in_ok-out.out.at) t (two.forward t (one.forward t h)) a)
                  | inr h ↦ h
                ]);
            tells = m.tells;
          };
    }
