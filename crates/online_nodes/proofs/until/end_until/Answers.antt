use Rattle.std.proofs.Common.{slice_get, true, ap, ◌∙◌, sym, subst, ◌≡◌, inl, inr, arith}
use Rattle.rational.specs.Places.{Upto}
use Rattle.frac128.specs.Cuts.{place}
use Rattle.stl_syntax.specs.Truth.{Truth}
use Rattle.online_nodes.specs.Held.{fresh_at}
use Rattle.online_nodes.specs.Truths.{Tells}
use Rattle.online_nodes.specs.Sweeps.{Counted}
use Rattle.frac128.specs.declared.cut.Cut.{Cut}
use Rattle.online_nodes.proofs.GotLemmas.{got-length, got-other}
use Rattle.rational.proofs.PlaceLemmas.{sides, not_both}
use Rattle.rational.proofs.Lists.{on_err_anyway}
use Rattle.online_nodes.proofs.SaidLemmas.{answered_twice}
use Rattle.online_nodes.proofs.UntilLaw.{knows_later}
use Rattle.online_nodes.proofs.UntilTurns.{turned-remembers}
use Rattle.online_nodes.proofs.WorkLemmas.{worked_put}
use Rattle.online_nodes.proofs.until.end_until.Goals as goal

pub upto-requires-2-clause-edge : goal.upto-requires-2-clause-edge
upto-requires-2-clause-edge c =
    let one = c.in_ok-found.ensures.said in omega (arith, one.edge, got-length one.got, c.requires.own)

pub upto-requires-2-clause-inside : goal.upto-requires-2-clause-inside
upto-requires-2-clause-inside c t h =
    subst (λ (q : Cut). Upto (place q) t) (sym c.in_ok-found.ensures.said.end) (c.in_ok-found.ensures.reaches.inside t h)

pub upto-requires-2-clause-sound : goal.upto-requires-2-clause-sound
upto-requires-2-clause-sound c = c.in_ok-found.ensures.said.sound

pub returns-in_err-out-clause-memory : goal.returns-in_err-out-clause-memory
returns-in_err-out-clause-memory c =
    let one = c.in_ok-found.ensures.said in
    on_err_anyway c.from_residual-in_err-out.result (omega (arith, one.got.spare, one.few, c.in_err-out.ensures.memory))

pub returns-clause-ended : goal.returns-clause-ended
returns-clause-ended c =
    let u = c.args.until in
    let s = c.args.sweep in
    let one = c.in_ok-found.ensures.reaches in
    let two = c.in_ok-out.ensures.reaches in
    let same : c.in_ok-found.found.to ≡ s.out.to = c.in_ok-found.ensures.said.end in
    let both = answered_twice c.requires.own c.in_ok-found.ensures.said c.in_ok-out.ensures.said in
    let left_now : fresh_at c.upto-2.new.edges u.window.of ≡ fresh_at c.args.edges.now u.window.of =
    ap (λ y. y.fresh) (got-other both.got u.window.of c.requires.left_apart) in
    let right_now : fresh_at c.upto-2.new.edges u.right ≡ fresh_at c.args.edges.now u.right =
    ap (λ y. y.fresh) (got-other both.got u.right c.requires.right_apart) in
    record {
      more = both.more;
      few = both.few;
      owed = both.owed;
      worked = worked_put c.requires.own c.requires.left_apart c.requires.right_apart both.got;
      edge = both.edge;
      to = both.end;
      sound = both.sound;
      all = λ t h.
          let there = subst (λ (q : Cut). Upto (place q) t) (sym same) h in
          two.reached t (subst (λ (q : Cut). Upto (place q) t) (sym c.end.ensures) there) there;
      inside = λ t h. subst (λ (q : Cut). Upto (place q) t) same (two.inside t h);
      told = λ x written r of m falls.
          record {
            told = both.told x.n x.tr x.begin written m.told
                (λ t a upto. (turned-remembers of m).counts t a (one.no_more t a upto))
                (λ t a upto.
                let inside = subst (λ (q : Cut). Upto (place q) t) same (two.inside t upto) in
                falls t
                (elim (sides (place s.out.at) t) [
                  | inl h ↦ absurd (not_both (place c.in_ok-found.found.at) t (one.forward t h) a)
                  | inr h ↦ h
                ])
                (elim (sides (place s.reach) t) [
                  | inl h ↦ absurd (not_both (place c.in_ok-found.found.at) t (one.reached t h inside) a)
                  | inr h ↦ h
                ])
                inside);
            knows = knows_later m.knows (place c.in_ok-out.out.at)
                (λ t a. elim (sides (place s.out.at) t) [
                  | inl h ↦ absurd (not_both (place c.in_ok-out.out.at) t (two.forward t (one.forward t h)) a)
                  | inr h ↦ h
                ]);
            left_tells = subst (λ f. Tells (Truth x.p x.tr) r.left f x.stop_left) (sym left_now) m.left_tells;
            right_tells = subst (λ f. Tells (Counted true x.q x.tr) r.right f x.stop_right) (sym right_now) m.right_tells;
            left_behind = m.left_behind;
            right_behind = λ t y a lo h. m.right_behind t y
                (elim (sides (place s.out.at) t) [
                  | inl k ↦ absurd (not_both (place c.in_ok-out.out.at) t (two.forward t (one.forward t k)) a)
                  | inr k ↦ k
                ])
                lo h;
            tight = m.tight;
            ahead = λ v first. m.ahead v (ap (λ f. slice_get f 0) (sym left_now) ∙ first);
          };
    }
