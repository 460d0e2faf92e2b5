-- So the moves of a node's front to a stretch are few, and so is what its edge holds.
use Rattle.std.specs.Prelude.{◌⊎◌}
use Rattle.std.proofs.Common.{◌≡◌, refl, sym, ap, subst, ◌∙◌, ℕ, suc, ◌+◌, ◌*◌, ◌<◌, ◌≤◌, Bool, true, false, cond, Some, None}
use Rattle.std.proofs.Common.{List, [], ◌∷◌, ◌++◌, length, length-append, ℤ, ◌≤ℤ◌, ◌<ℤ◌, arith, inl, inr}
use Rattle.std.proofs.lemmas.Int.{ints}
use Rattle.std.proofs.lemmas.List.{append-nil}
use Rattle.rational.specs.Time.{Rational, ◌≈◌, later, whole}
use Rattle.rational.proofs.Order.{le_refl, same_refl}
use Rattle.rational.proofs.Shift.{lt_whole}
use Rattle.rational.proofs.TimeLemmas.{precedes_le}
use Rattle.stl_syntax.specs.Trace.{Header, first_time}
use Rattle.stl_syntax.specs.Formula.{Subformula, subformula}
use Rattle.stl_syntax.specs.Cells.{IsAmong}
use Rattle.stl_syntax.specs.PostOrder.{IsPostOrder}
use Rattle.stl_syntax.specs.declared.node.Node.{Node}
use Rattle.online_nodes.specs.Network.{needed, reach_back, Event, Front, State, last_row, same_front, after_event, state_from, initial, state, shown, IsRunFrom}
use Rattle.online_nodes.proofs.RunLaw.{none_is_none}
use Rattle.online_nodes.proofs.StayLaw.{shown_is, rows_grow}
use Rattle.online_nodes.proofs.RisingLaw.{IsSound, sound_after, sound_of, same_is, same_of}
use Rattle.online_nodes.proofs.EmittedLaw.{shown_later, none_before}
use Rattle.bounds.specs.Turns.{is_within, rows_within, earlier, looks_back, looks_ahead, turns_for_a_row, rows_about}
use Rattle.bounds.specs.Held.{with_front, fronts_from, times_within, moves_within, so_far}
use Rattle.bounds.specs.Rests.{rests_for_a_row, MovesAreFew, EdgesAreFew}
use Rattle.bounds.proofs.FewTimes.{RisesFrom, rises_before, among_left, among_right, AreAmong, no_more}
use Rattle.bounds.proofs.HeldFew.{loose, within_of}
use Rattle.bounds.proofs.EdgesFew.{edges_are_bounded}
use Rattle.bounds.proofs.RestTimes.{IsRest, rest_more, FewIn, rests_about, some_rests}
use Rattle.bounds.proofs.RestRuns.{IsKnown, AllKnown, known_after}

-- the fronts that follow one: they rise after it
abbrev RiseOn : Front → List Rational → Type 0
RiseOn None [] = Unit {0}
RiseOn None (t ∷ times) = RisesFrom false t times
RiseOn (Some g) times = RisesFrom false (whole g) times

-- a time of the rows, or that of the last row
abbrev IsReached : State → Subformula → Rational → Type 0
IsReached s p t = IsRest p s.rows t ⊎ ((l : ℤ) × (last_row s ≡ Some l) × (t ≈ whole l))

abbrev AreReached : State → Subformula → List Rational → Type 0
AreReached s p [] = Unit {0}
AreReached s p (t ∷ times) = IsReached s p t × AreReached s p times

with_reached : (s : State) (p : Subformula) (old new : Front) (fronts : List Rational) → ((f : ℤ) → new ≡ Some f → IsReached s p (whole f))
    → AreReached s p fronts → AreReached s p (with_front old new fronts)
with_reached s p old None fronts here r = r
with_reached s p old (Some f) fronts here r = by_test (same_front old (Some f))
  where
    by_test : (b : Bool) → AreReached s p (cond b fronts (whole f ∷ fronts))
    by_test true = r
    by_test false = (here f refl, r)

-- a front that is another one, and no less, is greater
greater : (g f : ℤ) → g ≤ℤ f → same_front (Some g) (Some f) ≡ false → g <ℤ f
greater g f l e = by_order (λ (x : g ≡ f). let y : same_front (Some g) (Some f) ≡ true = same_of (Some g) (Some f) (ap (λ (z : ℤ). Some z) x) in
    absurd (let z : true ≡ false = sym y ∙ e in cc))
  where
    by_order : (g ≡ f → ⊥) → g <ℤ f
    by_order h = omega (arith, ints)

with_rising : (old new : Front) (fronts : List Rational) → (new ≡ None → old ≡ None)
    → ((g : ℤ) → old ≡ Some g → (f : ℤ) × (new ≡ Some f) × (g ≤ℤ f)) → RiseOn new fronts → RiseOn old (with_front old new fronts)
with_rising old None fronts down up r = subst (λ o. RiseOn o fronts) (sym (down refl)) r
with_rising None (Some f) fronts down up r = r
with_rising (Some g) (Some f) fronts down up r = by_test (same_front (Some g) (Some f)) refl
  where
    by_test : (b : Bool) → same_front (Some g) (Some f) ≡ b → RisesFrom false (whole g) (cond b fronts (whole f ∷ fronts))
    by_test true e = subst (λ o. RiseOn o fronts) (sym (same_is (Some g) (Some f) e)) r
    by_test false e =
        let u = up g refl in
        let same : u.0 ≡ f = by_some u.0 f (sym u.1) in
        let le = u.2 in
        (lt_whole (greater g f (omega (arith, ints)) e), r)
      where
        by_some : (a b : ℤ) → Some a ≡ Some b → a ≡ b
        by_some a b x = cc

module _ (nodes : List Node) (header : Header) (order : IsPostOrder nodes) (i : ℕ) (l : i < length nodes) where
  -- what a state knows of a front stays so over the events to come
  reached_on : (s : State) (events : List Event) (p : Subformula) (f : ℤ) → IsRunFrom nodes header s events → IsKnown s p f
      → IsReached (state_from nodes s events) p (whole f)
  reached_on s events p f run (inl m) =
      let g = rows_grow nodes header order s events run in
      inl (subst (λ rows. IsRest p rows (whole f)) (sym g.1) (rest_more p s.rows g.0 (whole f) m))
  reached_on s events p f run (inr k) =
      let g = rows_grow nodes header order s events run in
      let same : (state_from nodes s events).rows ≡ s.rows = g.1 ∙ ap (λ m. s.rows ++ m) (g.2 k.0).0 ∙ append-nil s.rows in
      inr (
        f,
        subst (λ rows. last_row (record { rows = rows; closed = s.closed; fronts = s.fronts }) ≡ Some f) (sym same) k.1,
        same_refl (whole f),
      )

  -- the fronts of a run are such times
  reached : (s : State) (events : List Event) → IsRunFrom nodes header s events → IsSound nodes header order s → AllKnown nodes header order s
      → AreReached (state_from nodes s events) (subformula nodes i) (fronts_from nodes i s events)
  reached s [] run sound known = tt
  reached s (e ∷ events) run sound known =
      let next = known_after nodes header order s e run.0 sound.bounded known in
      with_reached (state_from nodes s (e ∷ events)) (subformula nodes i) (shown s i) (shown (after_event nodes s e) i)
      (fronts_from nodes i (after_event nodes s e) events)
      (λ f x. reached_on (after_event nodes s e) events (subformula nodes i) f run.1
      (next i f l (shown_is nodes header order (after_event nodes s e) i f x).0))
      (reached (after_event nodes s e) events run.1 (sound_after nodes header order s e run.0 sound) next)

  -- and they rise
  rising : (s : State) (events : List Event) → IsRunFrom nodes header s events → IsSound nodes header order s
      → RiseOn (shown s i) (fronts_from nodes i s events)
  rising s [] run sound = none_rise (shown s i)
    where
      none_rise : (o : Front) → RiseOn o []
      none_rise None = tt
      none_rise (Some g) = tt
  rising s (e ∷ events) run sound =
      with_rising (shown s i) (shown (after_event nodes s e) i) (fronts_from nodes i (after_event nodes s e) events)
      (none_before nodes header order s e run.0 sound i l) (λ g x. shown_later nodes header order s e run.0 sound i l g x)
      (rising (after_event nodes s e) events run.1 (sound_after nodes header order s e run.0 sound))

-- of rising times those within a stretch rise
within_rise : (lo hi : Rational) (inside : Bool) (f : Rational) (times : List Rational) → RisesFrom inside f times
    → RisesFrom inside f (times_within lo hi times)
within_rise lo hi inside f [] r = tt
within_rise lo hi inside f (t ∷ times) r = by_test (is_within lo hi t) (within_rise lo hi false t times r.1)
  where
    by_test : (b : Bool) → RisesFrom false t (times_within lo hi times)
        → RisesFrom inside f (cond b (t ∷ times_within lo hi times) (times_within lo hi times))
    by_test true h = (r.0, h)
    by_test false h = loose inside f (times_within lo hi times) (rises_before false f t (times_within lo hi times) (precedes_le inside f t r.0) h)

-- the last row's time, where there is one
abbrev ends_of : Front → List Rational
ends_of None = []
ends_of (Some l) = whole l ∷ []

one_end : (o : Front) → length (ends_of o) ≤ 1
one_end None = omega arith
one_end (Some l) = omega arith

among_ends : (o : Front) (l : ℤ) (t : Rational) → o ≡ Some l → t ≈ whole l → IsAmong (ends_of o) t
among_ends o l t e h = subst (λ x. IsAmong (ends_of x) t) (sym e) (inl h)

-- those within a stretch are among the few
within_among : (s : State) (p : Subformula) (lo hi : Rational) (count : ℕ) (few : FewIn (IsRest p s.rows) lo hi count) (times : List Rational)
    → AreReached s p times → AreAmong (times_within lo hi times) (few.times_of ++ ends_of (last_row s))
within_among s p lo hi count few [] h = tt
within_among s p lo hi count few (t ∷ times) h = by_test (is_within lo hi t) refl (within_among s p lo hi count few times h.1)
  where
    by_test : (b : Bool) → is_within lo hi t ≡ b → AreAmong (times_within lo hi times) (few.times_of ++ ends_of (last_row s))
        → AreAmong (cond b (t ∷ times_within lo hi times) (times_within lo hi times)) (few.times_of ++ ends_of (last_row s))
    by_test false e r = r
    by_test true e r = (
      elim h.0 [
        | inl m ↦ among_left few.times_of (ends_of (last_row s)) t (few.all t (within_of lo hi t e) m)
        | inr k ↦ among_right few.times_of (ends_of (last_row s)) t (among_ends (last_row s) k.0 t k.1 k.2)
      ],
      r,
    )

-- so they are few
few_of : (s : State) (p : Subformula) (lo hi : Rational) (times : List Rational) → RiseOn None times → AreReached s p times
    → length (times_within lo hi times)
    ≤ rests_for_a_row p * rows_within (earlier lo (looks_back p)) (later hi (looks_ahead p)) s.rows + 1
few_of s p lo hi [] r h = omega arith
few_of s p lo hi (t ∷ times) r h =
    let few = rests_about p s.rows lo hi in
    let n = no_more true t (times_within lo hi (t ∷ times)) (few.times_of ++ ends_of (last_row s)) (within_rise lo hi true t (t ∷ times) (le_refl t, r))
    (within_among s p lo hi _ few (t ∷ times) h) in
    let a = length-append few.times_of (ends_of (last_row s)) in
    let b = one_end (last_row s) in
    let c = few.few in
    omega (arith, n, a, b, c)

pub moves_are_few : MovesAreFew
unfolding state
moves_are_few nodes header order events run i l lo hi =
    few_of (state_from nodes initial events) (subformula nodes i) lo hi (fronts_from nodes i initial events)
    (rising nodes header order i l initial events run (sound_of nodes header order [] tt))
    (reached nodes header order i l initial events run (sound_of nodes header order [] tt) (λ j f k e. absurd (none_is_none f e)))

-- how many there are in all
pub in_all : (c d N m n : ℕ) → 1 ≤ d → m ≤ d * N + 1 → n ≤ 2 * (c * suc N) + m + 1 → n ≤ (2 * c + d) * suc N + 1
in_all c d N m n h k l = omega (arith, h, k, l)

pub edges_are_few : EdgesAreFew
edges_are_few nodes header order events run i l held edge f is =
    let stretch = needed (first_time (state nodes events).rows) f ((state nodes events).fronts edge.reader) (reach_back edge.reading edge.left) in
    in_all (turns_for_a_row (subformula nodes i)) (rests_for_a_row (subformula nodes i))
    (rows_about (subformula nodes i) (so_far nodes header events) stretch.from stretch.to)
    (moves_within nodes i stretch.from stretch.to events) (length held) (some_rests (subformula nodes i))
    (moves_are_few nodes header order events run i l stretch.from stretch.to)
    ((edges_are_bounded nodes header order events run i l held edge).1 f is)
