-- What answering and letting go need, for a step that is due.
use Rattle.std.proofs.Common.{◌≡◌, ◌≢◌, inl, inr, refl, sym, ap, subst, ℕ, ◌<◌, length, arith}
use Rattle.std.proofs.lemmas.Int.{ints}
use Rattle.stl_syntax.specs.Formula.{Subformula}
use Rattle.stl_syntax.specs.Trace.{Trace}
use Rattle.online_nodes.specs.Answering.{AreNearEnds, CanAnswer, CanRelease, HaveTwo, IsInput}
use Rattle.rational.specs.Places.{Place}
use Rattle.online_nodes.specs.Held.{Held}
use Rattle.online_nodes.specs.Kinds.{inputs_of}
use Rattle.online_nodes.specs.Stepping.{Situation, IsBegun, IsDue}
use Rattle.online_nodes.specs.declared.answering.Outcome.{Outcome}
use Rattle.online_nodes.specs.declared.kind.Kind.{Kind}
use Rattle.online_nodes.specs.declared.kind.Kind.TheVariants.{Const as Constant, Not as Negation, Join as Connective, Over}
use Rattle.online_nodes.specs.declared.kind.Kind.TheVariants.{Until as UntilOf, Since as SinceOf}
use Rattle.online_nodes.specs.declared.operator.Operator.{Operator}
use Rattle.online_nodes.specs.declared.since.Since.{Since as SinceWindow}
use Rattle.online_nodes.specs.declared.until.Until.{Until as UntilWindow}
use Rattle.online_nodes.specs.declared.window.Window.{Window}
use Rattle.online_nodes.proofs.DueLemmas.{among_apart, among_within, two_apart}
use Rattle.online_nodes.proofs.SinceWorked.{HasSince, has_since, since_backward, since_fits, since_left, since_right, since_run_fits}
use Rattle.online_nodes.proofs.SweptLemmas.{has_window, window_fits}
use Rattle.online_nodes.proofs.UntilWorked.{HasUntil, has_until, until_fits, until_left, until_right}
use Rattle.online_nodes.proofs.WindowedLemmas.{HasWindow}

-- bounds that can be moved by
near_window : {n p : Subformula} {tr : Trace} {w : Window} {to : Place} → HasWindow n p tr w to → AreNearEnds w
near_window has =
    let a = has.order in let b = has.begin_low in let c = has.end_high in
    ((omega (arith, ints), omega (arith, ints)), (omega (arith, ints), omega (arith, ints)))

near_until : {n p q : Subformula} {tr : Trace} {u : UntilWindow} → HasUntil n p q tr u → AreNearEnds u.window
near_until has =
    let a = has.order in let b = has.begin_low in let c = has.ahead in
    ((omega (arith, ints), omega (arith, ints)), (omega (arith, ints), omega (arith, ints)))

near_since : {n p q : Subformula} {tr : Trace} {s : SinceWindow} {to : Place} → HasSince n p q tr s to → AreNearEnds s.window
near_since has =
    let a = has.order in let b = has.low in let c = has.end_high in
    ((omega (arith, ints), omega (arith, ints)), (omega (arith, ints), omega (arith, ints)))

module _ {x : Situation} {op : Operator} {old : Held} (d : IsDue x op old) where
  is_input : (k : Kind) → op.kind ≡ k → (j : ℕ) → IsInput k j → IsInput op.kind j
  is_input k e j h = subst (λ k. IsInput k j) (sym e) h

  two_of : (k : Kind) (p q : ℕ) → op.kind ≡ k → IsInput k p → IsInput k q → p ≢ q → HaveTwo p q old op.node
  two_of k p q e left right apart = record {
    left_in = among_within d p (is_input k e p left);
    right_in = among_within d q (is_input k e q right);
    left_apart = among_apart d p (is_input k e p left);
    right_apart = among_apart d q (is_input k e q right);
    apart = apart;
  }

  -- the edges, the operator's own one apart, and verdicts that can be moved
  pub can_answer : {work : Outcome} → IsBegun x op work → CanAnswer op.kind old work.out.edge work.marks
  can_answer {work} g = subst (λ (i : ℕ). CanAnswer op.kind old i work.marks) (sym g.edge) (by_kind op.kind refl)
    where
      by_kind : (k : Kind) → op.kind ≡ k → CanAnswer k old op.node work.marks
      by_kind (Constant b) e = tt
      by_kind (Negation p) e = (among_within d p (is_input (Negation p) e p refl), among_apart d p (is_input (Negation p) e p refl))
      by_kind (Connective join inputs) e =
          two_of (Connective join inputs) inputs.left inputs.right e (inl refl) (inr refl) (two_apart d inputs.left inputs.right (ap inputs_of e))
      by_kind (Over w) e = record {
        within = among_within d w.of (is_input (Over w) e w.of refl);
        apart = among_apart d w.of (is_input (Over w) e w.of refl);
        fits = window_fits d g e (has_window d e);
      }
      by_kind (UntilOf u) e = (
        two_of (UntilOf u) u.window.of u.right e (inl refl) (inr refl) (two_apart d u.window.of u.right (ap inputs_of e)),
        until_fits d g e (has_until d e) u.window.of (until_left d g e (has_until d e)),
        until_fits d g e (has_until d e) u.right (until_right d g e (has_until d e)),
      )
      by_kind (SinceOf s) e = (
        two_of (SinceOf s) s.window.of s.right e (inl refl) (inr refl) (two_apart d s.window.of s.right (ap inputs_of e)),
        since_backward d g e (has_since d e),
        since_fits d g e (has_since d e) s.window.of (since_left d g e (has_since d e)),
        since_fits d g e (has_since d e) s.right (since_right d g e (has_since d e)),
        since_run_fits d g e (has_since d e),
      )

  -- and what the edges let go, whatever they hold by then
  pub can_release : (new : Held) → length new.edges ≡ length old.edges → CanRelease op.kind new
  can_release new count = by_kind op.kind refl
    where
      there : (j : ℕ) → j < length old.edges → j < length new.edges
      there j l = subst (λ (n : ℕ). j < n) (sym count) l

      by_kind : (k : Kind) → op.kind ≡ k → CanRelease k new
      by_kind (Constant b) e = tt
      by_kind (Negation p) e = there p (among_within d p (is_input (Negation p) e p refl))
      by_kind (Connective join inputs) e = (
        there inputs.left (among_within d inputs.left (is_input (Connective join inputs) e inputs.left (inl refl))),
        there inputs.right (among_within d inputs.right (is_input (Connective join inputs) e inputs.right (inr refl))),
        two_apart d inputs.left inputs.right (ap inputs_of e),
      )
      by_kind (Over w) e = (there w.of (among_within d w.of (is_input (Over w) e w.of refl)), near_window (has_window d e))
      by_kind (UntilOf u) e = (
        there u.window.of (among_within d u.window.of (is_input (UntilOf u) e u.window.of (inl refl))),
        there u.right (among_within d u.right (is_input (UntilOf u) e u.right (inr refl))),
        two_apart d u.window.of u.right (ap inputs_of e),
        near_until (has_until d e),
      )
      by_kind (SinceOf s) e = (
        there s.window.of (among_within d s.window.of (is_input (SinceOf s) e s.window.of (inl refl))),
        there s.right (among_within d s.right (is_input (SinceOf s) e s.right (inr refl))),
        two_apart d s.window.of s.right (ap inputs_of e),
        near_since (has_since d e),
      )
