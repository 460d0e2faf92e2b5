-- A connective over its two inputs, verdict by verdict.
use Rattle.std.proofs.Common.{◌≡◌, ◌≢◌, ◌⊎◌, inl, inr, ℕ, ◌+◌, ◌<◌, ◌≤◌, List, [], ◌∷◌, ◌++◌, drop, length, Some, slice_get}
use Rattle.std.proofs.Common.{refl, sym, ap, subst, ◌∙◌, arith, append_assoc, length-append}
use Rattle.std.proofs.lemmas.List.{append-nil}
use Rattle.rational.specs.Rational.{Rational}
use Rattle.frac128.specs.Spans.{interval}
use Rattle.stl_syntax.specs.Trace.{Trace}
use Rattle.stl_syntax.specs.Formula.{Subformula}
use Rattle.stl_syntax.specs.Truth.{Truth}
use Rattle.stl_syntax.specs.declared.items.Verdict.{Verdict}
use Rattle.rational.specs.Places.{Place, ends, After, Upto, AtMost}
use Rattle.frac128.specs.Cuts.{place}
use Rattle.online_nodes.specs.Held.{Held, fresh_at}
use Rattle.online_nodes.specs.Truths.{AllAre}
use Rattle.online_nodes.specs.Written.{HasAnswer, HasTold, IsSound, Reaches}
use Rattle.online_nodes.specs.Working.{HasPassed, HasWorked}
use Rattle.online_nodes.specs.Joins.{joined, IsJoinOf, IsReadTo, IsJoining, HasPaused, HasReadBoth, HasFilled, HasJoined}
use Rattle.frac128.specs.declared.cut.Cut.{Cut}
use Rattle.stl_syntax.specs.declared.operator.Join.{Join}
use Rattle.online_nodes.specs.declared.join.Inputs.{Inputs}
use Rattle.online_nodes.specs.declared.writer.Out.{Out}
use Rattle.rational.proofs.PlaceLemmas.{same_places, upto_same, after_at_most}
use Rattle.online_nodes.proofs.GotLemmas.{got-other}
use Rattle.online_nodes.proofs.SaidLemmas.{passed-fresh, passed-one}
use Rattle.online_nodes.proofs.WorkLemmas.{passed-other, first_and_rest, worked_none, worked_pass, worked_put, worked_both}

-- one verdict more was read of an input
pub worked_then_pass : {a b c : Held} {own left right i : ℕ} {v : Verdict} {xs : List Verdict} → HasWorked a b own left right xs → HasPassed b c i v
    → own ≢ i → (i ≡ left) ⊎ (i ≡ right) → HasWorked a c own left right xs
worked_then_pass {a} {b} {c} {own} {left} {right} {i} {v} {xs} worked passed apart which =
    subst (λ l. HasWorked a c own left right l) (append-nil xs) (worked_both worked (worked_pass passed apart which))

module _ {p : Subformula} {tr : Trace} {out next : Out} {read stop : Place} (end : next.to ≡ out.to) where
  -- an input that was not read on
  pub read_stays : {fresh : List Verdict} → IsReadTo p tr out read stop fresh → AtMost (place out.at) (place next.at)
      → IsReadTo p tr next read stop fresh
  read_stays to forward =
      record {
        behind = λ t h. forward t (to.behind t h);
        tells = to.tells;
        enough = λ t h. to.enough t (subst (λ (q : Cut). Upto (place q) t) end h);
      }

  -- an input whose next verdict was read
  pub read_on : {v : Verdict} {rest : List Verdict} → IsReadTo p tr out read stop (v ∷ rest) → AtMost (ends (interval v.on)) (place next.at)
      → IsReadTo p tr next (ends (interval v.on)) stop rest
  read_on to reached =
      record {
        behind = reached;
        tells = to.tells.3;
        enough = λ t h. to.enough t (subst (λ (q : Cut). Upto (place q) t) end h);
      }

-- up to the end of its next verdict an input is as that verdict says
pub as_next : {p : Subformula} {tr : Trace} {out : Out} {read stop : Place} {v : Verdict} {rest : List Verdict}
    → IsReadTo p tr out read stop (v ∷ rest) → AllAre v.holds (Truth p tr) (place out.at) (ends (interval v.on))
as_next {p} {tr} {out} {read} {stop} {v} {rest} to t after upto = to.tells.2 t (after_at_most read (place out.at) t to.behind after) upto

-- where all was read, all is told
pub all_told : {p : Subformula} {tr : Trace} {out : Out} {read stop : Place} → IsReadTo p tr out read stop [] → AtMost (place out.to) (place out.at)
all_told {p} {tr} {out} {read} {stop} to t h = to.behind t (upto_same stop read t (same_places to.tells) (to.enough t h))

-- up to the earlier end the node is as the two verdicts say
pub joined_as : (n p q : Subformula)
    (tr : Trace) {out : Out} {left right stop_left stop_right : Place} {v w : Verdict} {rest rest' : List Verdict} (join : Join)
    (at : Place) → IsJoinOf join n p q tr → IsReadTo p tr out left stop_left (v ∷ rest) → IsReadTo q tr out right stop_right (w ∷ rest')
    → ((t : Rational) → After (place out.at) t → Upto at t → Upto (ends (interval v.on)) t)
    → ((t : Rational) → After (place out.at) t → Upto at t → Upto (ends (interval w.on)) t)
    → AllAre (joined join v.holds w.holds) (Truth n tr) (place out.at) at
joined_as n p q tr {v = v} {w = w} join at join_of l r by_v by_w t after upto =
    join_of t v.holds w.holds (as_next l t after (by_v t after upto)) (as_next r t after (by_w t after upto))

-- some verdicts were read, and at most one put for each
pub record HasGoneOn (old now : Held) (join : Join) (inputs : Inputs) (out here : Out) : Type 0 where
  -- what was put on the node's edge
  pub more : List Verdict
  -- at most one for each verdict that was read
  pub few : length more + (length (fresh_at now inputs.left) + length (fresh_at now inputs.right))
      ≤ length (fresh_at old inputs.left) + length (fresh_at old inputs.right)
  -- the inputs were read on, and that was put
  pub worked : HasWorked old now out.edge inputs.left inputs.right more
  -- for the same edge
  pub edge : here.edge ≡ out.edge
  -- to the same end
  pub end : here.to ≡ out.to
  -- and what is told is sound
  pub sound : IsSound here
  -- not beyond the end
  pub inside : AtMost (place here.at) (place out.to)
  -- what is known of both inputs goes on
  pub goes : (n p q : Subformula) (tr : Trace) (begin : Place) (written : List Verdict) (left right stop_left stop_right : Place)
      → IsJoinOf join n p q tr
      → IsJoining n p q tr begin written out left right stop_left stop_right (fresh_at old inputs.left) (fresh_at old inputs.right)
      → (left' right' : Place)
      × IsJoining n p q tr begin (written ++ more) here left' right' stop_left stop_right (fresh_at now inputs.left) (fresh_at now inputs.right)

-- before the first verdict nothing has changed
pub gone_none : (e : Held) (join : Join) (inputs : Inputs) (out : Out) → IsSound out → AtMost (place out.at) (place out.to)
    → HasGoneOn e e join inputs out out
gone_none e join inputs out sound inside =
    record {
      more = [];
      few = omega arith;
      worked = worked_none e out.edge inputs.left inputs.right;
      edge = refl;
      end = refl;
      sound = sound;
      inside = inside;
      goes = λ n p q tr begin written left right stop_left stop_right of m. (
        left,
        right,
        subst
            (λ l. IsJoining n p q tr begin l out left right stop_left stop_right (fresh_at e inputs.left) (fresh_at e inputs.right))
            (sym (append-nil written)) m,
      );
    }

-- one turn more goes on from those before
pub gone_one : {old now new : Held} {join : Join} {inputs : Inputs} {out here next : Out} → HasGoneOn old now join inputs out here
    → HasReadBoth now new join inputs here next → HasGoneOn old new join inputs out next
gone_one {old} {now} {new} {join} {inputs} {out} {here} {next} gone one =
    record {
      more = gone.more ++ one.more;
      few = omega (arith, gone.few, one.few, one.fewer, length-append gone.more one.more);
      worked = worked_both gone.worked (subst (λ i. HasWorked now new i inputs.left inputs.right one.more) gone.edge one.worked);
      edge = one.edge ∙ gone.edge;
      end = one.end ∙ gone.end;
      sound = one.sound;
      inside = λ t h. subst (λ (q : Cut). Upto (place q) t) gone.end (one.inside t h);
      goes = λ n p q tr begin written left right stop_left stop_right of m.
          let so_far = gone.goes n p q tr begin written left right stop_left stop_right of m in
          let more = one.goes n p q tr begin (written ++ gone.more) so_far.0 so_far.1 stop_left stop_right of so_far.2 in (
            more.0,
            more.1,
            subst
                (λ l. IsJoining n p q tr begin l next more.0 more.1 stop_left stop_right (fresh_at new inputs.left) (fresh_at new inputs.right))
                (append_assoc written gone.more one.more) more.2,
          );
    }

-- where both inputs reach beyond the stretch, or one has no more, and the rest is told
pub gone_to_end : {old now same new : Held} {join : Join} {inputs : Inputs} {out here end : Out} → HasGoneOn old now join inputs out here
    → HasPaused now same inputs here → HasFilled same new join inputs here end → HasJoined old new join inputs out end
gone_to_end {old} {now} {same} {new} {join} {inputs} {out} {here} {end} gone paused filled_same =
    let filled : HasFilled now new join inputs here end = subst (λ e. HasFilled e new join inputs here end) paused.same filled_same in
    record {
      more = gone.more ++ filled.more;
      few = omega (arith, gone.few, filled.few, length-append gone.more filled.more);
      worked = worked_both gone.worked (subst (λ i. HasWorked now new i inputs.left inputs.right filled.more) gone.edge filled.worked);
      edge = filled.edge ∙ gone.edge;
      to = filled.to ∙ gone.end;
      sound = filled.sound;
      inside = λ t h. subst (λ (q : Cut). Upto (place q) t) gone.end (filled.inside t h);
      goes = λ n p q tr begin written left right stop_left stop_right of m.
          let so_far = gone.goes n p q tr begin written left right stop_left stop_right of m in
          let last = filled.fills n p q tr begin (written ++ gone.more) so_far.0 so_far.1 stop_left stop_right of paused.beyond so_far.2 in (
            so_far.0,
            so_far.1,
            subst
                (λ l. IsJoining n p q tr begin l end so_far.0 so_far.1 stop_left stop_right (fresh_at new inputs.left) (fresh_at new inputs.right))
                (append_assoc written gone.more filled.more) last.0,
            (λ t h. last.1 t (subst (λ (q : Cut). Upto (place q) t) (sym gone.end) h)),
          );
    }

-- what was said up to the earlier end of both inputs' next verdicts
pub record IsSaidOfBoth (old mid : Held) (join : Join) (inputs : Inputs) (out next : Out) (v w : Verdict) (both : Place) : Type 0 where
  -- the first verdict of the left input
  pub first_left : slice_get (fresh_at old inputs.left) 0 ≡ Some v
  -- the first verdict of the right input
  pub first_right : slice_get (fresh_at old inputs.right) 0 ≡ Some w
  -- the node has an edge
  pub own : out.edge < length old.edges
  -- it is not that of the left input
  pub left_apart : inputs.left ≢ out.edge
  -- nor that of the right one
  pub right_apart : inputs.right ≢ out.edge
  -- and the two inputs' differ
  pub apart : inputs.left ≢ inputs.right
  -- the joined truth is told
  pub said : HasAnswer old mid out (joined join v.holds w.holds) next
  -- further than before
  pub forward : AtMost (place out.at) (place next.at)
  -- not beyond the end
  pub inside : AtMost (place next.at) (place out.to)
  -- no further than the left verdict
  pub by_left : (t : Rational) → After (place out.at) t → Upto (place next.at) t → Upto (ends (interval v.on)) t
  -- nor the right one
  pub by_right : (t : Rational) → After (place out.at) t → Upto (place next.at) t → Upto (ends (interval w.on)) t
  -- but as far as both
  pub reached : AtMost both (place next.at)

module _ {old mid : Held} {join : Join} {inputs : Inputs} {out next : Out} {v w : Verdict} {both : Place}
    (said : IsSaidOfBoth old mid join inputs out next v w both) where
  kept_left : fresh_at mid inputs.left ≡ fresh_at old inputs.left
  kept_left = ap (λ x. x.fresh) (got-other said.said.got inputs.left said.left_apart)

  kept_right : fresh_at mid inputs.right ≡ fresh_at old inputs.right
  kept_right = ap (λ x. x.fresh) (got-other said.said.got inputs.right said.right_apart)

  put_only : HasWorked old mid out.edge inputs.left inputs.right said.said.more
  put_only = worked_put said.own said.left_apart said.right_apart said.said.got

  module _ {n p q : Subformula} {tr : Trace} {begin : Place} {written : List Verdict} {left right stop_left stop_right : Place}
      (join_of : IsJoinOf join n p q tr)
      (m : IsJoining n p q tr begin written out left right stop_left stop_right (fresh_at old inputs.left) (fresh_at old inputs.right)) where
    by_first_left : IsReadTo p tr out left stop_left (v ∷ drop 1 (fresh_at old inputs.left))
    by_first_left =
        subst (λ f. IsReadTo p tr out left stop_left f) (first_and_rest (fresh_at old inputs.left) v said.first_left) m.left_read

    by_first_right : IsReadTo q tr out right stop_right (w ∷ drop 1 (fresh_at old inputs.right))
    by_first_right =
        subst (λ f. IsReadTo q tr out right stop_right f) (first_and_rest (fresh_at old inputs.right) w said.first_right) m.right_read

    told_now : HasTold n tr begin (written ++ said.said.more) next
    told_now =
        said.said.told n tr begin written m.told
        (joined_as n p q tr join (place next.at) join_of by_first_left by_first_right said.by_left said.by_right)

  -- the right input's next verdict was read
  pub right_was_read : {new : Held} {x : Verdict} → HasPassed mid new inputs.right x → AtMost (ends (interval w.on)) both
      → HasReadBoth old new join inputs out next
  right_was_read {new} {x} passed ended =
      let left_now : fresh_at new inputs.left ≡ fresh_at old inputs.left =
      ap (λ y. y.fresh) (passed-other passed inputs.left said.apart) ∙ kept_left in
      let right_now : fresh_at new inputs.right ≡ drop 1 (fresh_at old inputs.right) = passed-fresh passed ∙ ap (drop 1) kept_right in
      record {
        more = said.said.more;
        few = said.said.few;
        worked = worked_then_pass put_only passed (λ same. said.right_apart (sym same)) (inr refl);
        fewer = omega (arith, ap length left_now, ap length kept_right, passed-one passed);
        edge = said.said.edge;
        end = said.said.end;
        sound = said.said.sound;
        inside = said.inside;
        goes = λ n p q tr begin written left right stop_left stop_right join_of m. (
          left,
          ends (interval w.on),
          record {
            told = told_now join_of m;
            left_read = subst (λ f. IsReadTo p tr next left stop_left f) (sym left_now) (read_stays said.said.end m.left_read said.forward);
            right_read = subst (λ f. IsReadTo q tr next (ends (interval w.on)) stop_right f) (sym right_now)
                (read_on said.said.end (by_first_right join_of m) (λ t h. said.reached t (ended t h)));
          },
        );
      }

  -- the left input's next verdict was read
  pub left_was_read : {new : Held} {x : Verdict} → HasPassed mid new inputs.left x → AtMost (ends (interval v.on)) both
      → HasReadBoth old new join inputs out next
  left_was_read {new} {x} passed ended =
      let right_now : fresh_at new inputs.right ≡ fresh_at old inputs.right =
      ap (λ y. y.fresh) (passed-other passed inputs.right (λ same. said.apart (sym same))) ∙ kept_right in
      let left_now : fresh_at new inputs.left ≡ drop 1 (fresh_at old inputs.left) = passed-fresh passed ∙ ap (drop 1) kept_left in
      record {
        more = said.said.more;
        few = said.said.few;
        worked = worked_then_pass put_only passed (λ same. said.left_apart (sym same)) (inl refl);
        fewer = omega (arith, ap length right_now, ap length kept_left, passed-one passed);
        edge = said.said.edge;
        end = said.said.end;
        sound = said.said.sound;
        inside = said.inside;
        goes = λ n p q tr begin written left right stop_left stop_right join_of m. (
          ends (interval v.on),
          right,
          record {
            told = told_now join_of m;
            left_read = subst (λ f. IsReadTo p tr next (ends (interval v.on)) stop_left f) (sym left_now)
                (read_on said.said.end (by_first_left join_of m) (λ t h. said.reached t (ended t h)));
            right_read = subst (λ f. IsReadTo q tr next right stop_right f) (sym right_now) (read_stays said.said.end m.right_read said.forward);
          },
        );
      }

  -- both inputs' next verdicts were read
  pub both_were_read : {between new : Held} {x y : Verdict} → HasPassed mid between inputs.left x → HasPassed between new inputs.right y
      → AtMost (ends (interval v.on)) both → AtMost (ends (interval w.on)) both → HasReadBoth old new join inputs out next
  both_were_read {between} {new} {x} {y} passed passed' ended ended' =
      let left_now : fresh_at new inputs.left ≡ drop 1 (fresh_at old inputs.left) =
      ap (λ z. z.fresh) (passed-other passed' inputs.left said.apart) ∙ passed-fresh passed ∙ ap (drop 1) kept_left in
      let right_between : fresh_at between inputs.right ≡ fresh_at old inputs.right =
      ap (λ z. z.fresh) (passed-other passed inputs.right (λ same. said.apart (sym same))) ∙ kept_right in
      let right_now : fresh_at new inputs.right ≡ drop 1 (fresh_at old inputs.right) = passed-fresh passed' ∙ ap (drop 1) right_between in
      let left_count : length (fresh_at new inputs.left) ≡ length (fresh_at between inputs.left) =
      ap (λ z. length z.fresh) (passed-other passed' inputs.left said.apart) in
      record {
        more = said.said.more;
        few = said.said.few;
        worked = worked_then_pass (worked_then_pass put_only passed (λ same. said.left_apart (sym same)) (inl refl)) passed'
            (λ same. said.right_apart (sym same)) (inr refl);
        fewer = omega (arith, left_count, ap length kept_left, ap length right_between, passed-one passed, passed-one passed');
        edge = said.said.edge;
        end = said.said.end;
        sound = said.said.sound;
        inside = said.inside;
        goes = λ n p q tr begin written left right stop_left stop_right join_of m. (
          ends (interval v.on),
          ends (interval w.on),
          record {
            told = told_now join_of m;
            left_read = subst (λ f. IsReadTo p tr next (ends (interval v.on)) stop_left f) (sym left_now)
                (read_on said.said.end (by_first_left join_of m) (λ t h. said.reached t (ended t h)));
            right_read = subst (λ f. IsReadTo q tr next (ends (interval w.on)) stop_right f) (sym right_now)
                (read_on said.said.end (by_first_right join_of m) (λ t h. said.reached t (ended' t h)));
          },
        );
      }

  -- nothing was read, and the rest of the stretch is told
  pub rest_was_told : (n p q : Subformula) (tr : Trace) (begin : Place) (written : List Verdict)
      (left right stop_left stop_right : Place) → IsJoinOf join n p q tr
      → IsJoining n p q tr begin written out left right stop_left stop_right (fresh_at old inputs.left) (fresh_at old inputs.right)
      → IsJoining n p q tr begin (written ++ said.said.more) next left right stop_left stop_right (fresh_at mid inputs.left)
      (fresh_at mid inputs.right)
  rest_was_told n p q tr begin written left right stop_left stop_right join_of m =
      record {
        told = told_now join_of m;
        left_read = subst (λ f. IsReadTo p tr next left stop_left f) (sym kept_left) (read_stays said.said.end m.left_read said.forward);
        right_read = subst (λ f. IsReadTo q tr next right stop_right f) (sym kept_right) (read_stays said.said.end m.right_read said.forward);
      }

-- the situation once both inputs' next verdicts were looked at, and the node's verdict was said up to their earlier end
pub said_of_both : {old mid : Held} {join : Join} {inputs : Inputs} {out next : Out} {v w : Verdict} {both : Cut}
    → slice_get (fresh_at old inputs.left) 0 ≡ Some v → slice_get (fresh_at old inputs.right) 0 ≡ Some w
    → out.edge < length old.edges → inputs.left ≢ out.edge → inputs.right ≢ out.edge → inputs.left ≢ inputs.right
    → HasAnswer old mid out (joined join v.holds w.holds) next → Reaches out both next
    → AtMost (place both) (ends (interval v.on)) → AtMost (place both) (ends (interval w.on)) → AtMost (place both) (place out.to)
    → IsSaidOfBoth old mid join inputs out next v w (place both)
said_of_both first_left first_right own left_apart right_apart apart said reaches by_v by_w by_end =
    record {
      first_left = first_left;
      first_right = first_right;
      own = own;
      left_apart = left_apart;
      right_apart = right_apart;
      apart = apart;
      said = said;
      forward = reaches.forward;
      inside = reaches.inside;
      by_left = λ t a u. by_v t (reaches.no_more t a u);
      by_right = λ t a u. by_w t (reaches.no_more t a u);
      reached = λ t h. reaches.reached t h (by_end t h);
    }

-- places by another name
pub at_most_named : (c : Place) {d : Place} {named : Place} → AtMost c d → d ≡ named → AtMost c named
at_most_named c {d} {named} at_most is t h = subst (λ (q : Place). Upto q t) is (at_most t h)

-- a list has one first item
pub same_first : {X : Type 0} (xs : List X) (x y : X) → slice_get xs 0 ≡ Some x → slice_get xs 0 ≡ Some y → x ≡ y
same_first xs x y first also = let both = sym first ∙ also in cc

-- where an input has no verdict that was not read, all is told
module _ (e : Held) (join : Join) (inputs : Inputs) (out : Out) (sound : IsSound out) (inside : AtMost (place out.at) (place out.to)) where
  -- where the left input has nothing more the turns are done
  pub left_is_out : fresh_at e inputs.left ≡ [] → HasFilled e e join inputs out out
  left_is_out none =
      record {
        more = [];
        few = omega arith;
        worked = worked_none e out.edge inputs.left inputs.right;
        edge = refl;
        to = refl;
        sound = sound;
        inside = inside;
        fills = λ n p q tr begin written left right stop_left stop_right of beyond m. (
          subst (λ l. IsJoining n p q tr begin l out left right stop_left stop_right (fresh_at e inputs.left) (fresh_at e inputs.right))
              (sym (append-nil written)) m,
          all_told (subst (λ f. IsReadTo p tr out left stop_left f) none m.left_read),
        );
      }

  -- where the right input has nothing more the turns are done
  pub right_is_out : fresh_at e inputs.right ≡ [] → HasFilled e e join inputs out out
  right_is_out none =
      record {
        more = [];
        few = omega arith;
        worked = worked_none e out.edge inputs.left inputs.right;
        edge = refl;
        to = refl;
        sound = sound;
        inside = inside;
        fills = λ n p q tr begin written left right stop_left stop_right of beyond m. (
          subst (λ l. IsJoining n p q tr begin l out left right stop_left stop_right (fresh_at e inputs.left) (fresh_at e inputs.right))
              (sym (append-nil written)) m,
          all_told (subst (λ f. IsReadTo q tr out right stop_right f) none m.right_read),
        );
      }
