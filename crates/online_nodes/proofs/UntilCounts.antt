-- Until where both inputs hold: what they share counts from now on.
use Rattle.std.proofs.Common.{◌≡◌, ◌≢◌, ◌⊎◌, inl, inr, ℕ, ◌+◌, ◌<◌, true, false, List, [], length, Some, slice_get, refl, sym, ap, subst, arith}
use Rattle.std.proofs.lemmas.List.{append-nil}
use Rattle.rational.specs.Rational.{Rational}
use Rattle.frac128.specs.Spans.{interval}
use Rattle.stl_syntax.specs.declared.items.Verdict.{Verdict}
use Rattle.rational.specs.Places.{Place, begins, ends, AtMost, Before, Same, moved_begin, moved_end}
use Rattle.frac128.specs.Cuts.{place}
use Rattle.online_nodes.specs.Held.{Held, fresh_at}
use Rattle.online_nodes.specs.Truths.{MeetsAfter, MeetsUpto}
use Rattle.online_nodes.specs.Working.{HasPassed, HasWorked}
use Rattle.online_nodes.specs.Written.{IsSound}
use Rattle.online_nodes.specs.Sweeps.{low_place, high_place}
use Rattle.online_nodes.specs.Untils.{IsTurned, HasPassedOne, HasSettled, HasTurned}
use Rattle.frac128.specs.declared.cut.Cut.{Cut}
use Rattle.online_nodes.specs.declared.window.Sweep.{Sweep}
use Rattle.online_nodes.specs.declared.until.Until.{Until}
use Rattle.online_nodes.specs.declared.writer.Out.{Out}
use Rattle.online_nodes.proofs.GotLemmas.{got-other}
use Rattle.online_nodes.proofs.JoinLemmas.{worked_then_pass}
use Rattle.rational.proofs.PlaceLemmas.{sides, not_both, upto_of_before, upto_same, after_same, same_places, before_of_at_most}
use Rattle.rational.proofs.PlaceLemmas.{after_at_most}
use Rattle.online_nodes.proofs.SaidLemmas.{passed-one}
use Rattle.online_nodes.proofs.WindowPlaces.{meets_after, meets_upto}
use Rattle.online_nodes.proofs.WorkLemmas.{passed-other, worked_none, worked_put}
use Rattle.online_nodes.proofs.UntilTurns.{IsSaidTwice, turned-remembers, twice-inside, twice-after, twice-beyond, twice-later, twice-past}
use Rattle.online_nodes.proofs.UntilPasses.{IsEarlier, turned, placed_left, placed_right, stale_passed, right_failed}
use Rattle.online_nodes.proofs.UntilPasses.{common_counts, fails_to, left_misses, not_yet_common, right_ended, unread}

-- one verdict of either input was read
pub one_worked : {old mid new : Held} {u : Until} {own : ℕ} {v w : Verdict} {xs : List Verdict} → HasWorked old mid own u.window.of u.right xs
    → HasPassedOne mid new u v w → u.window.of ≢ own → u.right ≢ own → HasWorked old new own u.window.of u.right xs
one_worked worked one left_apart right_apart = elim one.which [
  | inl right ↦ worked_then_pass worked right.0 (λ same. right_apart (sym same)) (inr refl)
  | inr left ↦ worked_then_pass worked left.0 (λ same. left_apart (sym same)) (inl refl)
]

-- of both inputs there is one fewer to read
pub one_fewer : {old new : Held} {u : Until} {v w : Verdict} → HasPassedOne old new u v w → u.window.of ≢ u.right
    → length (fresh_at new u.window.of) + length (fresh_at new u.right) < length (fresh_at old u.window.of) + length (fresh_at old u.right)
one_fewer {old} {new} {u} {v} {w} one apart = elim one.which [
  | inl right ↦ by_right right.0
  | inr left ↦ by_left left.0
]
  where
    by_right : HasPassed old new u.right w
        → length (fresh_at new u.window.of) + length (fresh_at new u.right) < length (fresh_at old u.window.of) + length (fresh_at old u.right)
    by_right passed =
        let kept = ap (λ z. length z.fresh) (passed-other passed u.window.of apart) in omega (arith, kept, passed-one passed)

    by_left : HasPassed old new u.window.of v
        → length (fresh_at new u.window.of) + length (fresh_at new u.right) < length (fresh_at old u.window.of) + length (fresh_at old u.right)
    by_left passed =
        let kept = ap (λ z. length z.fresh) (passed-other passed u.right (λ same. apart (sym same))) in omega (arith, kept, passed-one passed)

-- windows that meet what follows one place, by another name of where that counts
pub meets_from : (high : Rational → Place) {c d e : Place} → MeetsAfter high c d → Same e d → MeetsAfter high c e
meets_from high {c} {d} {e} meets same t =
    ((λ a. (meets t).0 (after_same e d t same a)), (λ b. after_same d e t (same_places same) ((meets t).1 b)))

-- another way to write the place meets as it does
pub meets_to : (low : Rational → Place) {c d e : Place} → MeetsUpto low c d → Same e d → MeetsUpto low c e
meets_to low {c} {d} {e} meets same t =
    ((λ a. (meets t).0 (upto_same e d t same a)), (λ b. upto_same d e t (same_places same) ((meets t).1 b)))

-- the next verdicts of both inputs, and the common part of their spans
pub record AreNext (old : Held) (u : Until) (v w : Verdict) (begin end : Place) : Type 0 where
  -- the two inputs' edges differ
  pub apart : u.window.of ≢ u.right
  -- the first verdict of the left input
  pub first_left : slice_get (fresh_at old u.window.of) 0 ≡ Some v
  -- the first verdict of the right input
  pub first_right : slice_get (fresh_at old u.right) 0 ≡ Some w
  -- the left one holds
  pub left_holds : v.holds ≡ true
  -- and the right one
  pub right_holds : w.holds ≡ true
  -- up to where the first of them ends
  pub earlier : IsEarlier v w end
  -- not from before the left one
  pub after_left : AtMost (begins (interval v.on)) begin
  -- nor the right one
  pub after_right : AtMost (begins (interval w.on)) begin
  -- but from where one of them begins
  pub one : (AtMost begin (begins (interval v.on))) ⊎ (AtMost begin (begins (interval w.on)))

-- they share no time: the right verdict ended already, or the left one ends before it begins; that one is passed
pub shares_none : {old new : Held} {u : Until} {s : Sweep} {v w : Verdict} {begin end : Place} → AreNext old u v w begin end
    → (Before begin end → ⊥) → HasPassedOne old new u v w → u.window.of ≢ s.out.edge → u.right ≢ s.out.edge → IsSound s.out
    → AtMost (place s.out.at) (place s.out.to) → HasTurned old new u s s
shares_none {old} {new} {u} {s} {v} {w} {begin} {end} next none one left_apart right_apart sound inside =
    record {
      more = [];
      few = omega arith;
      owed = omega arith;
      worked = one_worked (worked_none old s.out.edge u.window.of u.right) one left_apart right_apart;
      fewer = one_fewer one next.apart;
      edge = refl;
      end = refl;
      sound = sound;
      inside = inside;
      goes = λ x written r of m.
          elim one.which [
            | inl right ↦ (
              record { read = r.read; left = r.left; right = ends (interval w.on) },
              subst (λ l. IsTurned x u l s (record { read = r.read; left = r.left; right = ends (interval w.on) })
                  (fresh_at new u.window.of) (fresh_at new u.right))
                  (sym (append-nil written))
                  (stale_passed of m next.apart next.first_left next.first_right next.left_holds refl refl right.0
                  (right_ended of m next.apart next.first_left next.first_right next.left_holds next.right_holds begin end
                  next.earlier next.after_left next.after_right next.one none (next.earlier.is_right right.1))),
            )
            | inr left ↦ (
              record { read = ends (interval v.on); left = ends (interval v.on); right = r.right },
              subst (λ l. IsTurned x u l s (record { read = ends (interval v.on); left = ends (interval v.on); right = r.right })
                  (fresh_at new u.window.of) (fresh_at new u.right))
                  (sym (append-nil written))
                  (turned m.told
                  (fails_to of m next.apart next.first_left next.first_right next.left_holds (ends (interval v.on))
                  (left_misses of m next.apart next.first_left next.first_right next.left_holds next.right_holds begin end
                  next.earlier next.after_left next.after_right next.one none (next.earlier.is_left left.1))
                  (m.ahead v next.first_left) (λ t h. h) left.1)
                  (placed_left m next.apart refl refl (place s.out.at) (ends (interval v.on)) next.first_left left.0
                  (λ t a. a) (λ t h. h) (λ t h. h))),
            )
          ];
    }

-- what they share counts only beyond the stretch
pub counts_beyond : {old : Held} {u : Until} {s : Sweep} {v w : Verdict} {begin end : Place} (from : Place) → AreNext old u v w begin end
    → Same from (moved_begin u.window.begin_by u.window.begin_in begin) → Before (place s.out.to) from → HasSettled old old u s
counts_beyond {old} {u} {s} {v} {w} {begin} {end} from next from_is before =
    record {
      same = refl;
      settles = λ x written r of m t a b k.
          not_yet_common of m next.apart next.first_left next.first_right next.left_holds next.right_holds begin end next.earlier next.after_left
          next.after_right from next.one (meets_from (high_place u.window)
          (meets_after u.window.begin_by u.window.begin_in begin) from_is)
          t a b (upto_of_before (place s.out.to) from t before k);
    }

module _ {old mid : Held} {u : Until} {s : Sweep} {found out : Out} {from reach : Cut} {v w : Verdict} {begin end : Place}
    (next : AreNext old u v w begin end) (shared : Before begin end)
    (from_is : Same (place from) (moved_begin u.window.begin_by u.window.begin_in begin)) where
  -- it counts from now on
  pub counts_now : {new : Held} → IsSaidTwice old mid u s found out true false from → AtMost (place from) (place s.out.to)
      → Same (place reach) (moved_end u.window.end_by u.window.end_in end) → HasPassedOne mid new u v w
      → HasTurned old new u s (record { out = out; reach = reach })
  counts_now {new} said to_end reach_is one =
      let kept_left : fresh_at mid u.window.of ≡ fresh_at old u.window.of = ap (λ y. y.fresh)
      (got-other said.answers.got u.window.of said.left_apart) in
      let kept_right : fresh_at mid u.right ≡ fresh_at old u.right = ap (λ y. y.fresh) (got-other said.answers.got u.right said.right_apart) in
      let put = worked_put said.own said.left_apart said.right_apart said.answers.got in
      record {
        more = said.answers.more;
        few = said.answers.few;
        owed = said.answers.owed;
        worked = one_worked put one said.left_apart said.right_apart;
        fewer = omega (arith, one_fewer one next.apart, ap length kept_left, ap length kept_right);
        edge = said.answers.edge;
        end = said.answers.end;
        sound = said.answers.sound;
        inside = twice-inside said;
        goes = λ x written r of m.
            let told = said.answers.told x.n x.tr x.begin written m.told
            (λ t a upto. (turned-remembers of m).counts t a (said.one.no_more t a upto))
            (λ t a upto.
            not_yet_common of m next.apart next.first_left next.first_right next.left_holds next.right_holds begin end next.earlier
            next.after_left next.after_right (place from) next.one
            (meets_from (high_place u.window) (meets_after u.window.begin_by u.window.begin_in begin) from_is) t
            (twice-after said t a) (twice-beyond said t a upto)
            (said.two.no_more t a upto)) in
            let knows = common_counts of m next.apart next.first_left next.first_right next.left_holds next.right_holds begin end next.earlier
            next.after_left next.after_right (record { out = out; reach = reach }) (place from) shared
            (meets_from (high_place u.window) (meets_after u.window.begin_by u.window.begin_in begin) from_is)
            (meets_to (low_place u.window) (meets_upto u.window.end_by u.window.end_in end) reach_is)
            (λ t a. (twice-later said t a, twice-past said to_end t a)) in
            let forward : AtMost r.read end = λ t h. elim (sides begin t) [
              | inl upto ↦ upto_of_before begin end t shared upto
              | inr after ↦ absurd (not_both r.read t h
                  (unread of m next.apart next.first_left next.first_right next.left_holds next.right_holds begin end next.earlier next.after_left
                  next.after_right t after))
            ] in
            elim one.which [
              | inl right ↦ (
                record { read = end; left = r.left; right = ends (interval w.on) },
                turned told knows
                    (placed_right m next.apart kept_left kept_right
                    (place out.at) end next.first_left next.first_right right.0 forward (next.earlier.is_right right.1)
                    (λ t a b. after_at_most end (ends (interval w.on)) t next.earlier.in_right b)
                    (before_of_at_most end (ends (interval w.on)) (ends (interval v.on)) next.earlier.in_right right.1)),
              )
              | inr left ↦ (
                record { read = end; left = ends (interval v.on); right = r.right },
                turned told knows
                    (placed_left m next.apart kept_left kept_right (place out.at) end next.first_left left.0 (λ t a. twice-later said t a)
                    (next.earlier.is_left left.1) next.earlier.in_left),
              )
            ];
      }

-- the left input holds and the right one fails: one verdict is passed
pub passes_failed : {old new : Held} {u : Until} {s : Sweep} {v w : Verdict} → u.window.of ≢ u.right
    → slice_get (fresh_at old u.window.of) 0 ≡ Some v → slice_get (fresh_at old u.right) 0 ≡ Some w → v.holds ≡ true → w.holds ≡ false
    → HasPassedOne old new u v w → u.window.of ≢ s.out.edge → u.right ≢ s.out.edge → IsSound s.out → AtMost (place s.out.at) (place s.out.to)
    → HasTurned old new u s s
passes_failed {old} {new} {u} {s} {v} {w} apart first_left first_right holding failing one left_apart right_apart sound inside =
    record {
      more = [];
      few = omega arith;
      owed = omega arith;
      worked = one_worked (worked_none old s.out.edge u.window.of u.right) one left_apart right_apart;
      fewer = one_fewer one apart;
      edge = refl;
      end = refl;
      sound = sound;
      inside = inside;
      goes = λ x written r of m.
          let next = right_failed of m apart first_left first_right holding refl refl failing one in
          (next.0, subst (λ l. IsTurned x u l s next.0 (fresh_at new u.window.of) (fresh_at new u.right)) (sym (append-nil written)) next.1);
    }
