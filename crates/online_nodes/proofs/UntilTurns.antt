-- The turns of until.
use Rattle.std.proofs.Common.{◌≡◌, ◌≢◌, inl, inr, ◌<◌, Bool, true, false, List, [], ◌∷◌, drop, length, Some, slice_get, refl, sym, ap, subst, ◌∙◌, arith}
use Rattle.std.proofs.lemmas.Option.{same_Some, none-some}
use Rattle.rational.specs.Rational.{Rational}
use Rattle.frac128.specs.Spans.{interval}
use Rattle.stl_syntax.specs.Truth.{Truth}
use Rattle.stl_syntax.specs.declared.items.Verdict.{Verdict}
use Rattle.rational.specs.Places.{Place, ends, After, Upto, AtMost, Before}
use Rattle.frac128.specs.Cuts.{place}
use Rattle.online_nodes.specs.Held.{Held, fresh_at}
use Rattle.online_nodes.specs.Truths.{Truths, AllAre, Tells, KnowsUntil, UntilRemembers}
use Rattle.online_nodes.specs.Written.{Reaches}
use Rattle.online_nodes.specs.Working.{HasPassed}
use Rattle.online_nodes.specs.Sweeps.{Counted, low_place, high_place}
use Rattle.online_nodes.specs.Untils.{Stretch, Reads, IsUntil, IsTurned, HasSettled, HasTurned}
use Rattle.frac128.specs.declared.cut.Cut.{Cut}
use Rattle.online_nodes.specs.declared.window.Sweep.{Sweep}
use Rattle.online_nodes.specs.declared.until.Until.{Until}
use Rattle.online_nodes.specs.declared.writer.Out.{Out}
use Rattle.online_nodes.proofs.GotLemmas.{got-other}
use Rattle.online_nodes.proofs.JoinLemmas.{worked_then_pass}
use Rattle.rational.proofs.PlaceLemmas.{sides, not_both, upto_of_before, after_at_most, after_later}
use Rattle.online_nodes.proofs.SaidLemmas.{HasAnswers, passed-fresh, passed-one}
use Rattle.online_nodes.proofs.UntilLaw.{fails, remembers_of, knows_new_run, knows_right_dropped}
use Rattle.online_nodes.proofs.WorkLemmas.{passed-other, first_and_rest, worked_put}

-- the next verdict of a list that tells goes on from where it begins
pub goes_on_from : (P : Truths) (c d : Place) (fresh : List Verdict) (v : Verdict) → Tells P c fresh d → slice_get fresh 0 ≡ Some v
    → Before c (ends (interval v.on))
goes_on_from P c d [] v tells first = absurd (none-some v first)
goes_on_from P c d (w ∷ vs) v tells first =
    let is : w ≡ v = same_Some w v first in
    subst (λ (x : Verdict). Before c (ends (interval x.on))) is tells.1

-- what was said twice, and up to where
pub record IsSaidTwice (old mid : Held) (u : Until) (s : Sweep) (found out : Out) (first second : Bool) (cut : Cut) : Type 0 where
  -- the node has an edge
  pub own : s.out.edge < length old.edges
  -- it is not that of the left input
  pub left_apart : u.window.of ≢ s.out.edge
  -- nor that of the right one
  pub right_apart : u.right ≢ s.out.edge
  -- and the two inputs' differ
  pub apart : u.window.of ≢ u.right
  -- two truths are told, one behind the other
  pub answers : HasAnswers old mid s.out first found.at second out
  -- the first up to where it was found
  pub one : Reaches s.out s.reach found
  -- the second up to the cut
  pub two : Reaches found cut out
  -- to the same end
  pub same : found.to ≡ s.out.to

module _ {old mid : Held} {u : Until} {s : Sweep} {found out : Out} {first second : Bool} {cut : Cut}
    (said : IsSaidTwice old mid u s found out first second cut) where
  -- what was told of both truths does not go beyond the end
  pub twice-inside : AtMost (place out.at) (place s.out.to)
  twice-inside t h = subst (λ (q : Cut). Upto (place q) t) said.same (said.two.inside t h)

  -- a time of the second part lies after where the writer stood, and after the reach
  pub twice-after : (t : Rational) → After (place found.at) t → After (place s.out.at) t
  twice-after t a = elim (sides (place s.out.at) t) [
    | inl h ↦ absurd (not_both (place found.at) t (said.one.forward t h) a)
    | inr h ↦ h
  ]

  -- the second truth lies behind what counted before
  pub twice-beyond : (t : Rational) → After (place found.at) t → Upto (place out.at) t → After (place s.reach) t
  twice-beyond t a upto = elim (sides (place s.reach) t) [
    | inl h ↦ absurd (not_both (place found.at) t (said.one.reached t h (twice-inside t upto)) a)
    | inr h ↦ h
  ]

  -- both truths together lie behind what was told before
  pub twice-later : (t : Rational) → After (place out.at) t → After (place s.out.at) t
  twice-later t a = elim (sides (place s.out.at) t) [
    | inl h ↦ absurd (not_both (place out.at) t (said.two.forward t (said.one.forward t h)) a)
    | inr h ↦ h
  ]

  -- and after the whole of a cut within the stretch
  pub twice-past : AtMost (place cut) (place s.out.to) → (t : Rational) → After (place out.at) t → After (place cut) t
  twice-past within t a = elim (sides (place cut) t) [
    | inl h ↦ absurd (not_both (place out.at) t
        (said.two.reached t h (subst (λ (q : Cut). Upto (place q) t) (sym said.same) (within t h))) a)
    | inr h ↦ h
  ]

module _ {x : Stretch} {u : Until} {written : List Verdict} {s : Sweep} {r : Reads} {fresh_left fresh_right : List Verdict} {to : Place}
    (of : IsUntil x u to) (m : IsTurned x u written s r fresh_left fresh_right) where
  -- in the trace, what is known says what holds of the node
  pub turned-remembers : UntilRemembers (Truth x.n x.tr) (Truth x.p x.tr) (Counted true x.q x.tr) (low_place u.window) (high_place u.window)
      (place s.out.at) (place s.reach) r.read r.read
  turned-remembers = remembers_of of.looks m.knows

  -- the left input's next verdict
  pub left-next : {v : Verdict} → slice_get fresh_left 0 ≡ Some v → Tells (Truth x.p x.tr) r.left (v ∷ drop 1 fresh_left) x.stop_left
  left-next {v} first = subst (λ f. Tells (Truth x.p x.tr) r.left f x.stop_left) (first_and_rest fresh_left v first) m.left_tells

  -- the first left verdict says its truth from where it was read
  pub left-is : {v : Verdict} → slice_get fresh_left 0 ≡ Some v → AllAre v.holds (Truth x.p x.tr) r.read (ends (interval v.on))
  left-is first t after upto = (left-next first).2 t (after_at_most r.left r.read t m.left_behind after) upto

-- the left input fails next
module _ {old mid : Held} {u : Until} {s : Sweep} {found out : Out} {cut : Cut} {v : Verdict}
    (said : IsSaidTwice old mid u s found out true false cut) (first : slice_get (fresh_at old u.window.of) 0 ≡ Some v) (failing : v.holds ≡ false)
    (is : place cut ≡ ends (interval v.on)) (to_end : AtMost (place cut) (place s.out.to)) where
  -- where a left side fails, the run ends with its verdict
  pub run_ended : {new : Held} {w : Verdict} → HasPassed mid new u.window.of w → HasTurned old new u s (record { out = out; reach = cut })
  run_ended {new} {w} passed =
      let kept_left : fresh_at mid u.window.of ≡ fresh_at old u.window.of = ap (λ y. y.fresh)
      (got-other said.answers.got u.window.of said.left_apart) in
      let kept_right : fresh_at new u.right ≡ fresh_at old u.right =
      ap (λ y. y.fresh) (passed-other passed u.right (λ same. said.apart (sym same)))
      ∙ ap (λ y. y.fresh) (got-other said.answers.got u.right said.right_apart) in
      let left_now : fresh_at new u.window.of ≡ drop 1 (fresh_at old u.window.of) = passed-fresh passed ∙ ap (drop 1) kept_left in
      record {
        more = said.answers.more;
        few = said.answers.few;
        owed = said.answers.owed;
        worked = worked_then_pass (worked_put said.own said.left_apart said.right_apart said.answers.got) passed
            (λ same. said.left_apart (sym same)) (inl refl);
        fewer = omega (arith, ap length kept_left, ap length kept_right, passed-one passed);
        edge = said.answers.edge;
        end = said.answers.end;
        sound = said.answers.sound;
        inside = twice-inside said;
        goes = λ x written r of m.
            let e : Place = ends (interval v.on) in
            let failed : AllAre false (Truth x.p x.tr) r.read e =
            subst (λ b. AllAre b (Truth x.p x.tr) r.read (ends (interval v.on))) failing (left-is of m first) in
            let ahead = m.ahead v first in
            let later : (t : Rational) → After (place out.at) t → After (place s.out.at) t × After e t =
            λ t a. (twice-later said t a, subst (λ (c : Place). After c t) is (twice-past said to_end t a)) in
            let within : (t : Rational) → Upto e t → Upto x.stop t = λ t h. of.inside t (to_end t (subst (λ (c : Place). Upto c t) (sym is) h)) in
            let rest = (left-next of m first).3 in (
              record { read = e; left = e; right = r.right },
              record {
                told = said.answers.told x.n x.tr x.begin written m.told
                    (λ t a upto. (turned-remembers of m).counts t a (said.one.no_more t a upto))
                    (λ t a upto.
                    fails of.looks (turned-remembers of m) e ahead failed t (twice-after said t a)
                    (twice-beyond said t a upto) (subst (λ (c : Place). Upto c t) is (said.two.no_more t a upto)));
                knows = subst
                    (λ (c : Place). KnowsUntil (Truth x.p x.tr) (Counted true x.q x.tr) (low_place u.window) (high_place u.window)
                    (place out.at) c e e x.stop)
                    (sym is)
                    (knows_right_dropped (knows_new_run m.knows (place out.at) e of.looks.ahead ahead failed later within) e
                    (λ t y a lo. after_later e t y (of.looks.ahead t y lo) (later t a).1) within);
                left_tells = subst (λ f. Tells (Truth x.p x.tr) e f x.stop_left) (sym left_now) rest;
                right_tells = subst (λ f. Tells (Counted true x.q x.tr) r.right f x.stop_right) (sym kept_right) m.right_tells;
                left_behind = λ t h. h;
                right_behind = λ t y a lo h. upto_of_before r.read e y ahead (m.right_behind t y (later t a).0 lo h);
                tight = λ t a b. a;
                ahead = λ y is_first. goes_on_from (Truth x.p x.tr) e x.stop_left (drop 1 (fresh_at old u.window.of)) y rest
                    (ap (λ f. slice_get f 0) (sym left_now) ∙ is_first);
              },
            );
      }

-- where the left input fails beyond the stretch, what is left of it holds no longer than what was found
pub fails_beyond : {e : Held} {u : Until} {s : Sweep} {v : Verdict} → slice_get (fresh_at e u.window.of) 0 ≡ Some v → v.holds ≡ false
    → AtMost (place s.out.to) (ends (interval v.on)) → HasSettled e e u s
fails_beyond {e} {u} {s} {v} first failing beyond =
    record {
      same = refl;
      settles = λ x written r of m t a b k.
          fails of.looks (turned-remembers of m) (ends (interval v.on)) (m.ahead v first)
          (subst (λ b. AllAre b (Truth x.p x.tr) r.read (ends (interval v.on))) failing (left-is of m first)) t a b (beyond t k);
    }
