-- A negation over its input, verdict by verdict.
use Rattle.std.proofs.Common.{◌≡◌, ◌≢◌, ℕ, ◌+◌, ◌<◌, ◌≤◌, not, List, [], ◌∷◌, ◌++◌, drop, length, Some, slice_get, refl, sym}
use Rattle.std.proofs.Common.{ap, subst, ◌∙◌, arith, append_assoc, length-append}
use Rattle.std.proofs.lemmas.List.{append-nil}
use Rattle.rational.specs.Rational.{Rational}
use Rattle.frac128.specs.Spans.{interval}
use Rattle.stl_syntax.specs.Trace.{Trace}
use Rattle.stl_syntax.specs.Formula.{Subformula}
use Rattle.stl_syntax.specs.declared.items.Verdict.{Verdict}
use Rattle.rational.specs.Places.{Place, ends, After, Upto, AtMost}
use Rattle.frac128.specs.Cuts.{place}
use Rattle.online_nodes.specs.Held.{Held, fresh_at}
use Rattle.online_nodes.specs.Written.{HasAnswer, HasTold, IsSound}
use Rattle.online_nodes.specs.Working.{HasPassed, HasWorked}
use Rattle.online_nodes.specs.Joins.{IsReadTo}
use Rattle.online_nodes.specs.Negations.{IsNotOf, IsNegating, HasWaited, HasReadNext, HasDenied, HasNegated}
use Rattle.frac128.specs.declared.cut.Cut.{Cut}
use Rattle.online_nodes.specs.declared.writer.Out.{Out}
use Rattle.online_nodes.proofs.GotLemmas.{got-other}
use Rattle.online_nodes.proofs.JoinLemmas.{read_stays, read_on, as_next}
use Rattle.online_nodes.proofs.SaidLemmas.{passed-fresh, passed-one, worked_read}
use Rattle.online_nodes.proofs.WorkLemmas.{first_and_rest, worked_none, worked_both}

-- what was said up to the end of the input's next verdict, or up to the end of the stretch
pub record IsSaidOf (old mid : Held) (of : ℕ) (out next : Out) (v : Verdict) : Type 0 where
  -- the first verdict of the input
  pub first : slice_get (fresh_at old of) 0 ≡ Some v
  -- the node has an edge
  pub own : out.edge < length old.edges
  -- it is not that of the input
  pub apart : of ≢ out.edge
  -- the other truth is told
  pub said : HasAnswer old mid out (not v.holds) next
  -- further than before
  pub forward : AtMost (place out.at) (place next.at)
  -- not beyond the end
  pub inside : AtMost (place next.at) (place out.to)
  -- no further than the verdict
  pub by_input : (t : Rational) → After (place out.at) t → Upto (place next.at) t → Upto (ends (interval v.on)) t

module _ {old mid : Held} {of : ℕ} {out next : Out} {v : Verdict} (said : IsSaidOf old mid of out next v) where
  kept : fresh_at mid of ≡ fresh_at old of
  kept = ap (λ x. x.fresh) (got-other said.said.got of said.apart)

  by_first : {p : Subformula} {tr : Trace} {read stop : Place} → IsReadTo p tr out read stop (fresh_at old of)
      → IsReadTo p tr out read stop (v ∷ drop 1 (fresh_at old of))
  by_first {p} {tr} {read} {stop} to =
      subst (λ f. IsReadTo p tr out read stop f) (first_and_rest (fresh_at old of) v said.first) to

  told_now : {n p : Subformula} {tr : Trace} {begin : Place} {written : List Verdict} {read stop : Place} → IsNotOf n p tr
      → IsNegating n p tr begin written out read stop (fresh_at old of) → HasTold n tr begin (written ++ said.said.more) next
  told_now {n} {p} {tr} {begin} {written} not_of m =
      said.said.told n tr begin written m.told
      (λ t after upto. not_of t v.holds (as_next (by_first m.input) t after (said.by_input t after upto)))

  -- the input's next verdict was read
  pub next_was_read : {new : Held} {x : Verdict} → HasPassed mid new of x → AtMost (ends (interval v.on)) (place next.at)
      → HasReadNext old new of out next
  next_was_read {new} {x} passed reached =
      let now : fresh_at new of ≡ drop 1 (fresh_at old of) = passed-fresh passed ∙ ap (drop 1) kept in
      record {
        more = said.said.more;
        few = said.said.few;
        worked = worked_read said.own said.apart said.said.got passed;
        one = sym (ap length kept) ∙ passed-one passed;
        edge = said.said.edge;
        end = said.said.end;
        sound = said.said.sound;
        inside = said.inside;
        goes = λ n p tr begin written read stop not_of m. (
          ends (interval v.on),
          record {
            told = told_now not_of m;
            input = subst (λ f. IsReadTo p tr next (ends (interval v.on)) stop f) (sym now) (read_on said.said.end (by_first m.input) reached);
          },
        );
      }

  -- nothing was read, and the rest of the stretch is told
  pub rest_was_denied : (n p : Subformula) (tr : Trace) (begin : Place) (written : List Verdict) (read stop : Place) → IsNotOf n p tr
      → IsNegating n p tr begin written out read stop (fresh_at old of)
      → IsNegating n p tr begin (written ++ said.said.more) next read stop (fresh_at mid of)
  rest_was_denied n p tr begin written read stop not_of m =
      record {
        told = told_now not_of m;
        input = subst (λ f. IsReadTo p tr next read stop f) (sym kept) (read_stays said.said.end m.input said.forward);
      }

-- some verdicts were read, and at most one put for each
pub record HasGoneOn (old now : Held) (of : ℕ) (out here : Out) : Type 0 where
  -- what was put on the node's edge
  pub more : List Verdict
  -- at most one for each verdict that was read
  pub few : length more + length (fresh_at now of) ≤ length (fresh_at old of)
  -- the input was read on, and that was put
  pub worked : HasWorked old now out.edge of of more
  -- for the same edge
  pub edge : here.edge ≡ out.edge
  -- to the same end
  pub end : here.to ≡ out.to
  -- and what is told is sound
  pub sound : IsSound here
  -- not beyond the end
  pub inside : AtMost (place here.at) (place out.to)
  -- what is known of the input goes on
  pub goes : (n p : Subformula) (tr : Trace) (begin : Place) (written : List Verdict) (read stop : Place) → IsNotOf n p tr
      → IsNegating n p tr begin written out read stop (fresh_at old of)
      → (from : Place) × IsNegating n p tr begin (written ++ more) here from stop (fresh_at now of)

-- before the first verdict nothing has changed
pub gone_none : (e : Held) (of : ℕ) (out : Out) → IsSound out → AtMost (place out.at) (place out.to) → HasGoneOn e e of out out
gone_none e of out sound inside =
    record {
      more = [];
      few = omega arith;
      worked = worked_none e out.edge of of;
      edge = refl;
      end = refl;
      sound = sound;
      inside = inside;
      goes = λ n p tr begin written read stop not_of m.
          (read, subst (λ l. IsNegating n p tr begin l out read stop (fresh_at e of)) (sym (append-nil written)) m);
    }

-- one turn more goes on from those before
pub gone_one : {old now new : Held} {of : ℕ} {out here next : Out} → HasGoneOn old now of out here → HasReadNext now new of here next
    → HasGoneOn old new of out next
gone_one {old} {now} {new} {of} {out} {here} {next} gone one =
    record {
      more = gone.more ++ one.more;
      few = omega (arith, gone.few, one.few, one.one, length-append gone.more one.more);
      worked = worked_both gone.worked (subst (λ i. HasWorked now new i of of one.more) gone.edge one.worked);
      edge = one.edge ∙ gone.edge;
      end = one.end ∙ gone.end;
      sound = one.sound;
      inside = λ t h. subst (λ (q : Cut). Upto (place q) t) gone.end (one.inside t h);
      goes = λ n p tr begin written read stop not_of m.
          let so_far = gone.goes n p tr begin written read stop not_of m in
          let more = one.goes n p tr begin (written ++ gone.more) so_far.0 stop not_of so_far.1 in
          (more.0, subst (λ l. IsNegating n p tr begin l next more.0 stop (fresh_at new of)) (append_assoc written gone.more one.more) more.1);
    }

-- where the input reaches beyond the stretch, or has no more, and the rest is told
pub gone_to_end : {old now same new : Held} {of : ℕ} {out here end : Out} → HasGoneOn old now of out here → HasWaited now same of here
    → HasDenied same new of here end → HasNegated old new of out end
gone_to_end {old} {now} {same} {new} {of} {out} {here} {end} gone waited denied_same =
    let denied : HasDenied now new of here end = subst (λ e. HasDenied e new of here end) waited.same denied_same in
    record {
      more = gone.more ++ denied.more;
      few = omega (arith, gone.few, denied.few, length-append gone.more denied.more);
      worked = worked_both gone.worked (subst (λ i. HasWorked now new i of of denied.more) gone.edge denied.worked);
      edge = denied.edge ∙ gone.edge;
      to = denied.to ∙ gone.end;
      sound = denied.sound;
      inside = λ t h. subst (λ (q : Cut). Upto (place q) t) gone.end (denied.inside t h);
      goes = λ n p tr begin written read stop not_of m.
          let so_far = gone.goes n p tr begin written read stop not_of m in
          let last = denied.fills n p tr begin (written ++ gone.more) so_far.0 stop not_of waited.beyond so_far.1 in (
            so_far.0,
            subst (λ l. IsNegating n p tr begin l end so_far.0 stop (fresh_at new of)) (append_assoc written gone.more denied.more) last.0,
            (λ t h. last.1 t (subst (λ (q : Cut). Upto (place q) t) (sym gone.end) h)),
          );
    }
