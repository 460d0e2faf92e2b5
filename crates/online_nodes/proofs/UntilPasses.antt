-- Until where its left input holds: what is known once the verdict that ends first was read.
use Rattle.std.proofs.Common.{◌≡◌, ◌≢◌, ◌⊎◌, inl, inr, true, false, List, [], ◌∷◌, drop, Some, slice_get, refl, sym, ap, subst, ◌∙◌}
use Rattle.std.proofs.lemmas.Option.{same_Some, none-some}
use Rattle.rational.specs.Rational.{Rational}
use Rattle.rational.proofs.Order.{same_sym}
use Rattle.frac128.specs.Spans.{interval}
use Rattle.stl_syntax.specs.Truth.{Truth}
use Rattle.stl_syntax.specs.declared.items.Verdict.{Verdict}
use Rattle.rational.specs.Places.{Place, begins, ends, After, Upto, AtMost, Before, Same}
use Rattle.frac128.specs.Cuts.{place}
use Rattle.online_nodes.specs.Held.{Held, fresh_at}
use Rattle.online_nodes.specs.Truths.{Truths, AllAre, Tells, KnowsUntil, MeetsAfter, MeetsUpto}
use Rattle.online_nodes.specs.Written.{HasTold}
use Rattle.online_nodes.specs.Working.{HasPassed}
use Rattle.online_nodes.specs.Sweeps.{Counted, low_place, high_place}
use Rattle.online_nodes.specs.Untils.{Stretch, Reads, IsUntil, IsTurned, HasPassedOne, HasSettled}
use Rattle.frac128.specs.declared.cut.Cut.{Cut}
use Rattle.online_nodes.specs.declared.window.Sweep.{Sweep}
use Rattle.online_nodes.specs.declared.until.Until.{Until}
use Rattle.rational.proofs.PlaceLemmas.{sides, not_both, between, place_order, upto_of_before, upto_same}
use Rattle.rational.proofs.PlaceLemmas.{after_same, same_places, at_most_of_not_before, before_of_at_most}
use Rattle.rational.proofs.PlaceLemmas.{after_at_most}
use Rattle.online_nodes.proofs.SaidLemmas.{passed-fresh}
use Rattle.online_nodes.proofs.UntilLaw.{FailsFor, knows_right_fails, knows_left_holds, knows_both, not_yet, settled}
use Rattle.online_nodes.proofs.UntilTurns.{goes_on_from, left-next, left-is, turned-remembers}
use Rattle.online_nodes.proofs.WindowLaw.{IsMet}
use Rattle.online_nodes.proofs.WorkLemmas.{passed-other, first_and_rest}

-- where the lists stand once one verdict was read, both inputs being known up to `read`
pub record IsPlaced (x : Stretch) (u : Until) (at : Place) (r : Reads) (fresh_left fresh_right : List Verdict) : Type 0 where
  -- the left input tells its truth
  pub left_tells : Tells (Truth x.p x.tr) r.left fresh_left x.stop_left
  -- and the right one
  pub right_tells : Tells (Counted true x.q x.tr) r.right fresh_right x.stop_right
  -- the left one was read no further than both
  pub left_behind : AtMost r.left r.read
  -- and of the right one nothing that the windows look at
  pub right_behind : (t v : Rational) → After at t → After (low_place u.window t) v → Upto r.right v → Upto r.read v
  -- what neither was read of was not read
  pub tight : (t : Rational) → After r.left t → After r.right t → After r.read t
  -- the first left verdict ends behind what was read
  pub ahead : (v : Verdict) → slice_get fresh_left 0 ≡ Some v → Before r.read (ends (interval v.on))

-- with what is told and known these are a turn
pub turned : {x : Stretch} {u : Until} {written : List Verdict} {s : Sweep} {r : Reads} {fresh_left fresh_right : List Verdict}
    → HasTold x.n x.tr x.begin written s.out
    → KnowsUntil (Truth x.p x.tr) (Counted true x.q x.tr) (low_place u.window) (high_place u.window) (place s.out.at)
    (place s.reach) r.read r.read x.stop
    → IsPlaced x u (place s.out.at) r fresh_left fresh_right → IsTurned x u written s r fresh_left fresh_right
turned told knows placed =
    record {
      told = told;
      knows = knows;
      left_tells = placed.left_tells;
      right_tells = placed.right_tells;
      left_behind = placed.left_behind;
      right_behind = placed.right_behind;
      tight = placed.tight;
      ahead = placed.ahead;
    }

module _ {x : Stretch} {u : Until} {written : List Verdict} {s : Sweep} {r : Reads} {fresh_left fresh_right : List Verdict} {mid new : Held}
    (m : IsTurned x u written s r fresh_left fresh_right) (apart : u.window.of ≢ u.right)
    (kept_left : fresh_at mid u.window.of ≡ fresh_left) (kept_right : fresh_at mid u.right ≡ fresh_right) (at read : Place) where
  -- the right input's verdict was read
  pub placed_right : {v w y : Verdict} → slice_get fresh_left 0 ≡ Some v → slice_get fresh_right 0 ≡ Some w → HasPassed mid new u.right y
      → AtMost r.read read → AtMost (ends (interval w.on)) read
      → ((t : Rational) → After r.left t → After (ends (interval w.on)) t → After read t) → Before read (ends (interval v.on))
      → IsPlaced x u at (record { read = read; left = r.left; right = ends (interval w.on) }) (fresh_at new u.window.of) (fresh_at new u.right)
  placed_right {v} {w} {y} first_left first_right passed forward within tight ahead =
      let left_now : fresh_at new u.window.of ≡ fresh_left = ap (λ z. z.fresh) (passed-other passed u.window.of apart) ∙ kept_left in
      let right_now : fresh_at new u.right ≡ drop 1 fresh_right = passed-fresh passed ∙ ap (drop 1) kept_right in
      let right_rest = (subst (λ f. Tells (Counted true x.q x.tr) r.right f x.stop_right)
      (first_and_rest fresh_right w first_right) m.right_tells).3 in
      record {
        left_tells = subst (λ f. Tells (Truth x.p x.tr) r.left f x.stop_left) (sym left_now) m.left_tells;
        right_tells = subst (λ f. Tells (Counted true x.q x.tr) (ends (interval w.on)) f x.stop_right) (sym right_now) right_rest;
        left_behind = λ t h. forward t (m.left_behind t h);
        right_behind = λ t y a lo h. within y h;
        tight = tight;
        ahead = λ z is_first.
            let same : Some z ≡ Some v = sym (ap (λ f. slice_get f 0) (sym left_now) ∙ is_first) ∙ first_left in
            let is : z ≡ v = same_Some z v same in
            subst (λ (q : Verdict). Before read (ends (interval q.on))) (sym is) ahead;
      }

  -- the left input's verdict was read
  pub placed_left : {v y : Verdict} → slice_get fresh_left 0 ≡ Some v → HasPassed mid new u.window.of y
      → ((t : Rational) → After at t → After (place s.out.at) t)
      → AtMost (ends (interval v.on)) read → AtMost read (ends (interval v.on))
      → IsPlaced x u at (record { read = read; left = ends (interval v.on); right = r.right }) (fresh_at new u.window.of) (fresh_at new u.right)
  placed_left {v} {y} first_left passed later within without =
      let right_now : fresh_at new u.right ≡ fresh_right = ap (λ z. z.fresh) (passed-other passed u.right (λ same. apart (sym same))) ∙ kept_right in
      let left_now : fresh_at new u.window.of ≡ drop 1 fresh_left = passed-fresh passed ∙ ap (drop 1) kept_left in
      let left_rest = (subst (λ f. Tells (Truth x.p x.tr) r.left f x.stop_left) (first_and_rest fresh_left v first_left) m.left_tells).3 in
      record {
        left_tells = subst (λ f. Tells (Truth x.p x.tr) (ends (interval v.on)) f x.stop_left) (sym left_now) left_rest;
        right_tells = subst (λ f. Tells (Counted true x.q x.tr) r.right f x.stop_right) (sym right_now) m.right_tells;
        left_behind = within;
        right_behind = λ t z a lo h. within z
            (upto_of_before r.read (ends (interval v.on)) z (m.ahead v first_left) (m.right_behind t z (later t a) lo h));
        tight = λ t a b. after_at_most read (ends (interval v.on)) t without a;
        ahead = λ z is_first. before_of_at_most read (ends (interval v.on)) (ends (interval z.on)) without
            (goes_on_from (Truth x.p x.tr) (ends (interval v.on)) x.stop_left (drop 1 fresh_left) z left_rest
            (ap (λ f. slice_get f 0) (sym left_now) ∙ is_first));
      }

-- what an input tells lies before where it is answered
pub told_before : (P : Truths) (c d : Place) (fresh : List Verdict) (v : Verdict) → Tells P c fresh d → slice_get fresh 0 ≡ Some v
    → AtMost (ends (interval v.on)) d
told_before P c d [] v tells first = absurd (none-some v first)
told_before P c d (w ∷ vs) v tells first =
    let is : w ≡ v = same_Some w v first in
    λ t h. rest (ends (interval w.on)) vs tells.3 t (subst (λ (q : Verdict). Upto (ends (interval q.on)) t) (sym is) h)
  where
    rest : (e : Place) (ws : List Verdict) → Tells P e ws d → (t : Rational) → Upto e t → Upto d t
    rest e [] same t h = upto_same e d t same h
    rest e (y ∷ ws) (s, b, told, more) t h = rest (ends (interval y.on)) ws more t (upto_of_before e (ends (interval y.on)) t b h)

-- the left input holds and the right one fails, or both touch in no time: the verdict that ends first is passed
module _ {x : Stretch} {u : Until} {written : List Verdict} {s : Sweep} {r : Reads} {fresh_left fresh_right : List Verdict} {v w : Verdict}
    (of : IsUntil x u (place s.out.to)) (m : IsTurned x u written s r fresh_left fresh_right) (apart : u.window.of ≢ u.right)
    (first_left : slice_get fresh_left 0 ≡ Some v) (first_right : slice_get fresh_right 0 ≡ Some w)
    (holding : v.holds ≡ true) where
  -- the right verdict ends no later than its input is answered
  pub right_end : AtMost (ends (interval w.on)) x.stop_right
  right_end = told_before (Counted true x.q x.tr) r.right x.stop_right fresh_right w m.right_tells first_right

  -- the left verdict ends no later than its input is answered
  pub left_end : AtMost (ends (interval v.on)) x.stop_left
  left_end = told_before (Truth x.p x.tr) r.left x.stop_left fresh_left v m.left_tells first_left

  -- the left input holds up to a place within its next verdict
  pub holds_to : (e : Place) → AtMost e (ends (interval v.on)) → AllAre true (Truth x.p x.tr) r.read e
  holds_to e within t after upto =
      subst (λ b. AllAre b (Truth x.p x.tr) r.read (ends (interval v.on))) holding (left-is of m first_left) t after (within t upto)

  -- and the right one is as its next verdict says
  pub right-is : AllAre w.holds (Counted true x.q x.tr) r.right (ends (interval w.on))
  right-is = (subst (λ f. Tells (Counted true x.q x.tr) r.right f x.stop_right) (first_and_rest fresh_right w first_right) m.right_tells).2

  -- of what both are known up to, what a window to come meets was read of the right one
  pub right-read : (t y : Rational) → After (place s.out.at) t → After (low_place u.window t) y → After r.read y → After r.right y
  right-read t y a lo h = elim (sides r.right y) [ inl k ↦ absurd (not_both r.read y (m.right_behind t y a lo k) h) | inr k ↦ k ]

  -- nothing changes in what is known where the right verdict ended already
  pub stale_passed : {old new : Held} → fresh_at old u.window.of ≡ fresh_left → fresh_at old u.right ≡ fresh_right
      → HasPassed old new u.right w → AtMost (ends (interval w.on)) r.read
      → IsTurned x u written s (record { read = r.read; left = r.left; right = ends (interval w.on) }) (fresh_at new u.window.of)
      (fresh_at new u.right)
  stale_passed kept_left kept_right passed ended =
      turned m.told m.knows
      (placed_right m apart kept_left kept_right (place s.out.at) r.read first_left first_right passed (λ t h. h) ended
      (λ t a b. m.tight t a (after_at_most r.right (ends (interval w.on)) t
      (λ y h. upto_of_before r.right (ends (interval w.on)) y (goes_on_from
      (Counted true x.q x.tr) r.right x.stop_right fresh_right w m.right_tells first_right) h) b))
      (m.ahead v first_left))

  -- both are read up to a later place, up to which the right input fails
  pub fails_to : (e : Place) → FailsFor (Counted true x.q x.tr) (low_place u.window) (place s.out.at) r.read e → Before r.read e
      → AtMost e (ends (interval v.on)) → AtMost e (ends (interval w.on))
      → KnowsUntil (Truth x.p x.tr) (Counted true x.q x.tr) (low_place u.window) (high_place u.window) (place s.out.at) (place s.reach) e e x.stop
  fails_to e failed ahead in_left in_right =
      let within : (t : Rational) → Upto e t → Upto x.stop t = λ t h. of.both t (left_end t (in_left t h)) (right_end t (in_right t h)) in
      knows_left_holds (knows_right_fails m.knows e failed within) e e
      (holds_to e in_left) (λ t y a lo b h. absurd (not_both e y h b)) (λ t h. h) within
      (λ t a. after_at_most r.read e t (λ y h. upto_of_before r.read e y ahead h) a)

  -- the right input fails up to a place within its next verdict, which says so
  pub failing_to : (e : Place) → w.holds ≡ false → AtMost e (ends (interval w.on))
      → FailsFor (Counted true x.q x.tr) (low_place u.window) (place s.out.at) r.read e
  failing_to e failing within t y a lo after upto =
      subst (λ b. AllAre b (Counted true x.q x.tr) r.right (ends (interval w.on))) failing right-is y (right-read t y a lo after) (within y upto)

  -- a right verdict that fails leaves what was found
  pub right_failed : {old new : Held} → fresh_at old u.window.of ≡ fresh_left → fresh_at old u.right ≡ fresh_right → w.holds ≡ false
      → HasPassedOne old new u v w
      → (r' : Reads) × IsTurned x u written s r' (fresh_at new u.window.of) (fresh_at new u.right)
  right_failed {old} {new} kept_left kept_right failing one = elim one.which [
    | inl right ↦ by_right right.0 right.1
    | inr left ↦
        by_left left.0 left.1
  ]
    where
      by_right : HasPassed old new u.right w → Before (ends (interval w.on)) (ends (interval v.on))
          → (r' : Reads) × IsTurned x u written s r' (fresh_at new u.window.of) (fresh_at new u.right)
      by_right passed sooner = by_order (place_order r.read (ends (interval w.on)))
        where
          stale : AtMost (ends (interval w.on)) r.read → (r' : Reads) × IsTurned x u written s r' (fresh_at new u.window.of) (fresh_at new u.right)
          stale ended = (record { read = r.read; left = r.left; right = ends (interval w.on) }, stale_passed kept_left kept_right passed ended)

          by_order : Before r.read (ends (interval w.on)) ⊎ Same r.read (ends (interval w.on)) ⊎ Before (ends (interval w.on)) r.read
              → (r' : Reads) × IsTurned x u written s r' (fresh_at new u.window.of) (fresh_at new u.right)
          by_order (inl before) = (
            record { read = ends (interval w.on); left = r.left; right = ends (interval w.on) },
            turned m.told
                (fails_to (ends (interval w.on)) (failing_to (ends (interval w.on)) failing (λ t h. h)) before
                (λ t h. upto_of_before (ends (interval w.on)) (ends
                (interval v.on)) t sooner h) (λ t h. h))
                (placed_right m apart kept_left kept_right (place s.out.at) (ends (interval w.on)) first_left first_right passed
                (λ t h. upto_of_before r.read (ends (interval w.on)) t before h) (λ t h. h) (λ t a b. b) sooner),
          )
          by_order (inr (inl (same, flag))) = stale (λ t h. upto_same (ends (interval w.on)) r.read t (same_sym same, sym flag) h)
          by_order (inr (inr after)) = stale (λ t h. upto_of_before (ends (interval w.on)) r.read t after h)

      by_left : HasPassed old new u.window.of v → AtMost (ends (interval v.on)) (ends (interval w.on))
          → (r' : Reads) × IsTurned x u written s r' (fresh_at new u.window.of) (fresh_at new u.right)
      by_left passed sooner = (
        record { read = ends (interval v.on); left = ends (interval v.on); right = r.right },
        turned m.told
            (fails_to (ends (interval v.on)) (failing_to (ends (interval v.on)) failing sooner) (m.ahead v first_left) (λ t h. h) sooner)
            (placed_left m apart kept_left kept_right (place s.out.at) (ends (interval v.on)) first_left passed (λ t a. a) (λ t h. h) (λ t h. h)),
      )

-- the earlier of two ends, by the cuts that stand for them
pub record IsEarlier (v w : Verdict) (end : Place) : Type 0 where
  -- the earlier end is no later than the left one
  pub in_left : AtMost end (ends (interval v.on))
  -- nor than the right one
  pub in_right : AtMost end (ends (interval w.on))
  -- it is the left one where that is no later
  pub is_left : AtMost (ends (interval v.on)) (ends (interval w.on)) → AtMost (ends (interval v.on)) end
  -- and the right one where that is earlier
  pub is_right : Before (ends (interval w.on)) (ends (interval v.on)) → AtMost (ends (interval w.on)) end

-- the earlier of two ends, as cuts
pub earlier_of : {v w : Verdict} (end v_end w_end : Cut) → place v_end ≡ ends (interval v.on) → place w_end ≡ ends (interval w.on)
    → (end ≡ v_end) ⊎ (end ≡ w_end) → AtMost (place end) (place v_end) → AtMost (place end) (place w_end) → IsEarlier v w (place end)
earlier_of {v} {w} end v_end w_end v_is w_is one in_left in_right =
    record {
      in_left = λ t h. subst (λ (c : Place). Upto c t) v_is (in_left t h);
      in_right = λ t h. subst (λ (c : Place). Upto c t) w_is (in_right t h);
      is_left = λ sooner t h. by_one_left one sooner t h;
      is_right = λ sooner t h. by_one_right one sooner t h;
    }
  where
    by_one_left : (end ≡ v_end) ⊎ (end ≡ w_end) → AtMost (ends (interval v.on)) (ends (interval w.on)) → AtMost (ends (interval v.on)) (place end)
    by_one_left (inl is) sooner t h = subst (λ (q : Cut). Upto (place q) t) (sym is) (subst (λ (c : Place). Upto c t) (sym v_is) h)
    by_one_left (inr is) sooner t h = subst (λ (q : Cut). Upto (place q) t) (sym is) (subst (λ (c : Place). Upto c t) (sym w_is) (sooner t h))

    by_one_right : (end ≡ v_end) ⊎ (end ≡ w_end) → Before (ends (interval w.on)) (ends (interval v.on)) → AtMost (ends (interval w.on)) (place end)
    by_one_right (inl is) sooner t h = subst (λ (q : Cut). Upto (place q) t) (sym is)
        (subst (λ (c : Place). Upto c t) (sym v_is) (upto_of_before (ends (interval w.on)) (ends (interval v.on)) t sooner h))
    by_one_right (inr is) sooner t h = subst (λ (q : Cut). Upto (place q) t) (sym is) (subst (λ (c : Place). Upto c t) (sym w_is) h)

-- both inputs hold from a place on to another
module _ {x : Stretch} {u : Until} {written : List Verdict} {s : Sweep} {r : Reads} {fresh_left fresh_right : List Verdict} {v w : Verdict}
    (of : IsUntil x u (place s.out.to)) (m : IsTurned x u written s r fresh_left fresh_right) (apart : u.window.of ≢ u.right)
    (first_left : slice_get fresh_left 0 ≡ Some v) (first_right : slice_get fresh_right 0 ≡ Some w)
    (left_holding : v.holds ≡ true) (right_holding : w.holds ≡ true) (begin end : Place) (earlier : IsEarlier v w end)
    (after_left : AtMost (begins (interval v.on)) begin) (after_right : AtMost (begins (interval w.on)) begin) where
  left_begins : Same r.left (begins (interval v.on))
  left_begins = (left-next of m first_left).0

  right_begins : Same r.right (begins (interval w.on))
  right_begins =
      (subst (λ f. Tells (Counted true x.q x.tr) r.right f x.stop_right) (first_and_rest fresh_right w first_right) m.right_tells).0

  -- what lies after their common begin was not read
  pub unread : (t : Rational) → After begin t → After r.read t
  unread t a =
      m.tight t
      (after_same (begins (interval v.on)) r.left t (same_places left_begins) (after_at_most (begins (interval v.on)) begin t after_left a))
      (after_same (begins (interval w.on)) r.right t (same_places right_begins) (after_at_most (begins (interval w.on)) begin t after_right a))

  -- where they have no time in common, and the right verdict ends first, it ended already
  pub right_ended : (AtMost begin (begins (interval v.on))) ⊎ (AtMost begin (begins (interval w.on))) → (Before begin end → ⊥)
      → AtMost (ends (interval w.on)) end → AtMost (ends (interval w.on)) r.read
  right_ended (inl left) none sooner t h =
      m.left_behind t (upto_same (begins (interval v.on)) r.left t (same_places left_begins)
      (left t (at_most_of_not_before end begin none t (sooner t h))))
  right_ended (inr right) none sooner t h =
      let some = goes_on_from (Counted true x.q x.tr) r.right x.stop_right fresh_right w m.right_tells first_right in
      let y = between r.right (ends (interval w.on)) some in
      absurd (not_both r.right y.0 (upto_same (begins (interval w.on)) r.right y.0 (same_places right_begins)
      (right y.0 (at_most_of_not_before end begin none y.0 (sooner y.0 y.2)))) y.1)

  -- and where the left one ends first, no window to come meets what is left of it
  pub left_misses : (AtMost begin (begins (interval v.on))) ⊎ (AtMost begin (begins (interval w.on))) → (Before begin end → ⊥)
      → AtMost (ends (interval v.on)) end
      → FailsFor (Counted true x.q x.tr) (low_place u.window) (place s.out.at) r.read (ends (interval v.on))
  left_misses (inl left) none sooner t y a lo after upto q =
      not_both r.read y (m.left_behind y (upto_same (begins (interval v.on)) r.left y (same_places left_begins)
      (left y (at_most_of_not_before end begin none y (sooner y upto))))) after
  left_misses (inr right) none sooner t y a lo after upto q =
      not_both r.right y (upto_same (begins (interval w.on)) r.right y (same_places right_begins)
      (right y (at_most_of_not_before end begin none y (sooner y upto))))
      (right-read of m apart first_left first_right left_holding t y a lo after)

  -- what a window to come meets of what is known of neither comes after their common begin
  pub begin_known : (AtMost begin (begins (interval v.on))) ⊎ (AtMost begin (begins (interval w.on)))
      → (t y : Rational) → After (place s.out.at) t → After (low_place u.window t) y → After r.read y → After begin y
  begin_known (inl left) t y a lo after =
      after_at_most begin r.read y (λ z h. m.left_behind z (upto_same (begins (interval v.on)) r.left z (same_places left_begins) (left z h))) after
  begin_known (inr right) t y a lo after =
      after_at_most begin r.right y (λ z h. upto_same (begins (interval w.on)) r.right z (same_places right_begins) (right z h))
      (right-read of m apart first_left first_right left_holding t y a lo after)

  -- what both share counts for the windows that meet it
  pub common_counts : (next : Sweep) (from : Place) → Before begin end → MeetsAfter (high_place u.window) begin from
      → MeetsUpto (low_place u.window) end (place next.reach)
      → ((t : Rational) → After (place next.out.at) t → After (place s.out.at) t × After from t)
      → KnowsUntil (Truth x.p x.tr) (Counted true x.q x.tr) (low_place u.window) (high_place u.window)
      (place next.out.at) (place next.reach) end end x.stop
  common_counts next from some meets_from meets_to later =
      let within : (t : Rational) → Upto end t → Upto x.stop t =
      λ t h. of.both t (left_end of m apart first_left first_right left_holding t (earlier.in_left t h))
      (right_end of m apart first_left first_right left_holding t (earlier.in_right t h)) in
      let p : AllAre true (Truth x.p x.tr) r.read end = holds_to of m apart first_left first_right left_holding end earlier.in_left in
      let q : AllAre true (Counted true x.q x.tr) begin end =
      λ t a h. subst (λ b. AllAre b (Counted true x.q x.tr) r.right (ends (interval w.on))) right_holding
      (right-is of m apart first_left first_right left_holding) t
      (after_same (begins (interval w.on)) r.right t (same_places right_begins) (after_at_most (begins (interval w.on)) begin t after_right a))
      (earlier.in_right t h) in
      let met : IsMet true (Counted true x.q x.tr) (low_place u.window) (high_place u.window) begin end from (place next.reach) =
      record { some = some; is = q; begin = meets_from; end = meets_to } in
      knows_both m.knows (place next.out.at) met of.some p later within

  -- up to where that counts the node fails, beyond what was found
  pub not_yet_common : (from : Place) → (AtMost begin (begins (interval v.on))) ⊎ (AtMost begin (begins (interval w.on)))
      → MeetsAfter (high_place u.window) begin from
      → (t : Rational) → After (place s.out.at) t → After (place s.reach) t → Upto from t → ¬ Truth x.n x.tr t
  not_yet_common from one meets =
      not_yet of.looks (turned-remembers of m) begin from meets
      (λ t y a lo b c. begin_known one t y a lo b)

-- where the one input has no verdict that was not read, the rest of the stretch is settled
pub left_out_settles : {e : Held} {u : Until} {s : Sweep} → fresh_at e u.window.of ≡ [] → HasSettled e e u s
left_out_settles {e} {u} {s} none =
    record {
      same = refl;
      settles = λ x written r of m.
          settled of.looks (turned-remembers of m) (place s.out.to)
          (λ t y b lo a h. elim (of.within t y a h) [
            | inl k ↦ inl (inl (m.left_behind y (upto_same x.stop_left r.left y
                (same_places (subst (λ f. Tells (Truth x.p x.tr) r.left f x.stop_left) none m.left_tells)) (of.left_enough y k))))
            | inr n ↦ inr n
          ]);
    }

-- where the right input has nothing more the turns are done
pub right_out_settles : {e : Held} {u : Until} {s : Sweep} → fresh_at e u.right ≡ [] → HasSettled e e u s
right_out_settles {e} {u} {s} none =
    record {
      same = refl;
      settles = λ x written r of m.
          settled of.looks (turned-remembers of m) (place s.out.to)
          (λ t y b lo a h. elim (of.within t y a h) [
            | inl k ↦ inl (inr (m.right_behind t y b lo (upto_same x.stop_right r.right y
                (same_places (subst (λ f. Tells (Counted true x.q x.tr) r.right f x.stop_right) none m.right_tells)) (of.right_enough y k))))
            | inr n ↦ inr n
          ]);
    }
