-- Two things said of a node, one after the other.
use Rattle.std.proofs.Common.{◌≡◌, ◌≢◌, ℕ, ◌+◌, ◌<◌, ◌≤◌, Bool, List, ◌++◌, suc, drop, inl, inr, not, length, refl, sym, ap}
use Rattle.std.proofs.Common.{subst, ◌∙◌, arith, append_assoc, length-append}
use Rattle.std.proofs.lemmas.List.{append-nil}
use Rattle.stl_syntax.specs.Trace.{Trace}
use Rattle.stl_syntax.specs.Formula.{Subformula}
use Rattle.stl_syntax.specs.Truth.{Truth}
use Rattle.stl_syntax.specs.declared.items.Verdict.{Verdict}
use Rattle.rational.specs.Places.{Place, AtMost, Upto}
use Rattle.frac128.specs.Cuts.{place}
use Rattle.online_nodes.specs.Held.{Held, fresh_at}
use Rattle.online_nodes.specs.Truths.{AllAre}
use Rattle.online_nodes.specs.Written.{HasAnswer, HasGot, HasSaidBoth, HasTold, IsSound, Reaches, waiting}
use Rattle.online_nodes.specs.Working.{HasPassed, HasWorked}
use Rattle.frac128.specs.declared.cut.Cut.{Cut}
use Rattle.online_nodes.specs.declared.writer.Out.{Out}
use Rattle.online_nodes.proofs.GotLemmas.{got_both}
use Rattle.rational.proofs.PlaceLemmas.{sides, not_both}
use Rattle.online_nodes.proofs.WorkLemmas.{passed-here, first_and_rest, worked_put, worked_pass, worked_both}

-- two answers, the one up to the cut `middle` and the other from there on, put at most two verdicts
pub record HasAnswers (old new : Held) (before : Out) (first : Bool) (middle : Cut) (second : Bool) (after : Out) : Type 0 where
  -- what was put
  pub more : List Verdict
  -- at most two verdicts
  pub few : length more ≤ 2
  -- with what waits, at most two more than before
  pub owed : length more + waiting after.holds ≤ 2 + waiting before.holds
  -- the node's edge got them
  pub got : HasGot old new before.edge more
  -- for the same edge
  pub edge : after.edge ≡ before.edge
  -- to the same end
  pub end : after.to ≡ before.to
  -- and what is told is sound
  pub sound : IsSound after
  -- both truths are told, one behind the other
  pub told : (n : Subformula) (tr : Trace) (begin : Place) (written : List Verdict) → HasTold n tr begin written before
      → AllAre first (Truth n tr) (place before.at) (place middle) → AllAre second (Truth n tr) (place middle) (place after.at)
      → HasTold n tr begin (written ++ more) after

-- two answers, one behind the other, say both
pub answered_twice : {old mid new : Held} {before middle after : Out} {first second : Bool} → before.edge < length old.edges
    → HasAnswer old mid before first middle → HasAnswer mid new middle second after
    → HasAnswers old new before first middle.at second after
answered_twice {old} {mid} {new} {before} {middle} {after} {first} {second} within one two =
    record {
      more = one.more ++ two.more;
      few = omega (arith, one.few, two.few, length-append one.more two.more);
      owed = omega (arith, one.owed, two.owed, length-append one.more two.more);
      got = got_both within one.got (subst (λ i. HasGot mid new i two.more) one.edge two.got);
      edge = two.edge ∙ one.edge;
      end = two.end ∙ one.end;
      sound = two.sound;
      told = λ n tr begin written told h k.
          subst (λ l. HasTold n tr begin l after) (append_assoc written one.more two.more)
          (two.told n tr begin (written ++ one.more) (one.told n tr begin written told h) k);
    }

-- one verdict and then the other, in terms of the two places up to which they were said
pub said_both : {old mid new : Held} {before middle after : Out} {holds : Bool} {one two : Cut} → before.edge < length old.edges
    → HasAnswer old mid before holds middle → Reaches before one middle → HasAnswer mid new middle (not holds) after → Reaches middle two after
    → HasSaidBoth old new before holds one two after
said_both {old} {mid} {new} {before} {middle} {after} {holds} {one} {two} within first to_one second to_two =
    let both = answered_twice within first second in
    let same : middle.to ≡ before.to = first.end in
    let inside : AtMost (place after.at) (place before.to) = λ t h. subst (λ (q : Cut). Upto (place q) t) same (to_two.inside t h) in
    record {
      more = both.more;
      few = both.few;
      owed = both.owed;
      got = both.got;
      edge = both.edge;
      end = both.end;
      sound = both.sound;
      inside = inside;
      forward = λ t h. to_two.forward t (to_one.forward t h);
      reached = λ t h k. to_two.reached t h (subst (λ (q : Cut). Upto (place q) t) (sym same) k);
      told = λ n tr begin written told h k.
          both.told n tr begin written told
          (λ t a u. h t a (inside t (to_two.forward t u)) (to_one.no_more t a u))
          (λ t a u. k t
          (elim (sides (place before.at) t) [
            | inl x ↦ absurd (not_both (place middle.at) t (to_one.forward t x) a)
            | inr x ↦ x
          ])
          (inside t u)
          (elim (sides (place one) t) [
            | inl x ↦ absurd (not_both (place middle.at) t (to_one.reached t x (inside t u)) a)
            | inr x ↦ x
          ])
          (to_two.no_more t a u));
    }

module _ {old new : Held} {i : ℕ} {v : Verdict} (passed : HasPassed old new i v) where
  -- the first verdict of the edge was read, and the others are unread
  pub passed-fresh : fresh_at new i ≡ drop 1 (fresh_at old i)
  passed-fresh = ap (λ x. x.fresh) (passed-here passed)

  -- there is one verdict fewer to read
  pub passed-one : length (fresh_at old i) ≡ suc (length (fresh_at new i))
  passed-one = ap length (first_and_rest (fresh_at old i) v passed.first) ∙ ap (λ l. suc (length l)) (sym passed-fresh)

-- a node that put verdicts and then read one of its only input
pub worked_read : {old mid new : Held} {own i : ℕ} {v : Verdict} {more : List Verdict} → own < length old.edges → i ≢ own
    → HasGot old mid own more → HasPassed mid new i v → HasWorked old new own i i more
worked_read {old} {mid} {new} {own} {i} {v} {more} within apart got passed =
    subst (λ l. HasWorked old new own i i l) (append-nil more)
    (worked_both (worked_put within apart apart got) (worked_pass passed (λ same. apart (sym same)) (inl refl)))
