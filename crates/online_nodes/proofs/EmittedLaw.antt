-- What a node gave out in a run: event by event, from the start to its front without gap, and always alike.
use Rattle.std.proofs.Common.{◌≡◌, refl, sym, ap, subst, ◌∙◌, ℕ, ◌-◌, ◌<◌, ◌≤◌, Bool, true, false, not}
use Rattle.std.proofs.Common.{Some, None, List, [], ◌∷◌, ◌++◌, length, ℤ, pos, ◌≤ℤ◌, arith, append_assoc, length-append}
use Rattle.std.specs.Prelude.{MatchBool, ◌≢◌, int_lt, cond}
use Rattle.std.proofs.lemmas.Int.{ints}
use Rattle.std.proofs.lemmas.List.{append-nil}
use Rattle.rational.specs.Rational.{whole}
use Rattle.rational.specs.Time.{Interval, Touch, closed as closed_at, left_open}
use Rattle.rational.proofs.Order.{same_sym}
use Rattle.frac128.specs.Spans.{interval}
use Rattle.stl_syntax.specs.Trace.{Header, Trace, first_time}
use Rattle.stl_syntax.specs.Formula.{Subformula, subformula}
use Rattle.stl_syntax.specs.PostOrder.{IsPostOrder}
use Rattle.stl_syntax.specs.Verdicts.{Describes, GoesOn, AreAlike}
use Rattle.stl_syntax.specs.declared.items.Verdict.{Verdict}
use Rattle.stl_syntax.specs.declared.node.Node.{Node}
use Rattle.stl_syntax.proofs.LawProofs.{one_list_of_verdicts}
use Rattle.stl_syntax.proofs.VerdictsLaw.{alike_length, none_alike, alike_append}
use Rattle.online_nodes.specs.Network.{Event, take, Front, State, last_row, shown, same_front, answered, after_event}
use Rattle.online_nodes.specs.Network.{state_from, initial, state, EmittedAt, EmittedFrom, Emitted, IsRunFrom, IsRun, MayCome}
use Rattle.online_nodes.specs.Needed.{IsTaken, none, other, next, nothing_left}
use Rattle.online_nodes.specs.Laws.{AreTiles, answered_to, IsWhole}
use Rattle.rational.specs.Places.{Place, begins, ends, Same}
use Rattle.rational.proofs.PlaceLemmas.{same_trans_places, before_of_not_empty}
use Rattle.rational.proofs.Tests.{int_order}
use Rattle.online_nodes.proofs.ToldSoFar.{same_itself}
use Rattle.online_nodes.proofs.RunLaw.{none_is_none}
use Rattle.online_nodes.proofs.RisingLaw.{same_is, IsSound, sound_after, event_later, sound_of}
use Rattle.online_nodes.proofs.StayLaw.{shown_is, first_same}

-- tiles with more tiles behind them
pub tiles_append : (c : Place) (vs : List Verdict) (d : Place) (ws : List Verdict) (e : Place) → AreTiles c vs d → AreTiles d ws e
    → AreTiles c (vs ++ ws) e
tiles_append c [] d ws e s t = tiles_same ws s t
  where
    tiles_same : (ws : List Verdict) → Same c d → AreTiles d ws e → AreTiles c ws e
    tiles_same [] s t = same_trans_places s t
    tiles_same (w ∷ ws) s (r, b, rest) = (same_trans_places s r, b, rest)
tiles_append c (v ∷ vs) d ws e (s, b, rest) t = (s, b, tiles_append (ends (interval v.on)) vs d ws e rest t)

-- a list that describes a formula on a stretch leads from its begin to its end
touching : (a b : Interval) → Touch a b → Same (ends a) (begins b)
touching a b h = (same_sym h.time, by_ends a.to_in b.from_in (λ e. h.once (sym e)))
  where
    by_ends : (x y : Bool) → x ≢ y → x ≡ not y
    by_ends true true d = absurd (d refl)
    by_ends true false d = refl
    by_ends false true d = refl
    by_ends false false d = absurd (d refl)

goes_tiles : (p : Subformula) (tr : Trace) (stretch : Interval) (v : Verdict) (vs : List Verdict) → GoesOn p tr stretch v vs
    → AreTiles (ends (interval v.on)) vs (ends stretch)
goes_tiles p tr stretch v [] h = (h.time, h.inside)
goes_tiles p tr stretch v (w ∷ vs) h =
    (touching (interval v.on) (interval w.on) h.0, before_of_not_empty (interval w.on) h.2.not_empty, goes_tiles p tr stretch w vs h.3)

-- verdicts that describe a stretch cover it from begin to end
pub describes_tiles : (p : Subformula) (tr : Trace) (stretch : Interval) (vs : List Verdict) → Describes vs p tr stretch
    → AreTiles (begins stretch) vs (ends stretch)
describes_tiles p tr stretch [] h = absurd h
describes_tiles p tr stretch (v ∷ vs) h = (
  (same_sym h.0.time, ap not (sym h.0.inside)),
  before_of_not_empty (interval v.on) h.1.not_empty,
  goes_tiles p tr stretch v vs h.2,
)

-- a front that is not below the start is shown
pub front_shown : (s : State) (i : ℕ) (f : ℤ) → s.fronts i ≡ Some f → pos (first_time s.rows) ≤ℤ f → shown s i ≡ Some f
front_shown s i f e l = subst (λ o. from_start o ≡ Some f) (sym e) (by_test (int_lt f (pos (first_time s.rows))) refl)
  where
    from_start : Front → Front
    from_start None = None
    from_start (Some g) = cond (int_lt g (pos (first_time s.rows))) None (Some g)

    by_test : (t : Bool) → int_lt f (pos (first_time s.rows)) ≡ t → cond (int_lt f (pos (first_time s.rows))) None (Some f) ≡ Some f
    by_test true x = absurd (let y = int_order f (pos (first_time s.rows)) true x in omega (arith, ints))
    by_test false x = ap (λ t. cond t None (Some f)) x

module _ (nodes : List Node) (header : Header) where
  -- what is given out over events and then others
  pub emitted_split : (i : ℕ) (s : State) (events others : List Event) (vs : List Verdict) → EmittedFrom nodes header i s (events ++ others) vs
      → (before after : List Verdict) × EmittedFrom nodes header i s events before
      × EmittedFrom nodes header i (state_from nodes s events) others after × (vs ≡ before ++ after)
  emitted_split i s [] others vs em = ([], vs, refl, em, refl)
  emitted_split i s (e ∷ events) others vs (here, later, at, rest, eq) =
      let x = emitted_split i (after_event nodes s e) events others later rest in (
        here ++ x.0,
        x.1,
        (here, x.0, at, x.2, refl),
        x.3,
        eq ∙ ap (λ l. here ++ l) x.4 ∙ sym (append_assoc here x.0 x.1),
      )

  -- and over one event more
  pub emitted_last : (i : ℕ) (events : List Event) (e : Event) (vs : List Verdict) → Emitted nodes header (events ++ e ∷ []) i vs
      → (before here : List Verdict) × Emitted nodes header events i before
      × EmittedAt nodes header i (state_from nodes initial events) (after_event nodes (state_from nodes initial events) e) here
      × (vs ≡ before ++ here)
  emitted_last i events e vs em =
      let x = emitted_split i initial events (e ∷ []) vs em in
      let last = x.3 in (
        x.0,
        last.0,
        x.2,
        last.2,
        x.4 ∙ ap (λ l. x.0 ++ l) (last.4 ∙ ap (λ l. last.0 ++ l) last.3 ∙ append-nil last.0),
      )

  -- what a node gives out at one event
  abbrev GivesOut : ℕ → State → State → List Verdict → Front → Type 0
  GivesOut i old new vs None = vs ≡ []
  GivesOut i old new vs (Some f) =
      MatchBool (same_front (shown old i) (Some f)) (vs ≡ [])
      (Describes vs (subformula nodes i) (record { header = header; rows = new.rows }) (answered (first_time new.rows) (shown old i) f))

  alike_here : (i : ℕ) (old new : State) (vs ws : List Verdict) → EmittedAt nodes header i old new vs → EmittedAt nodes header i old new ws
      → AreAlike vs ws
  alike_here i old new vs ws em en = by_front (shown new i) em en
    where
      by_test : (f : ℤ) (t : Bool)
          → MatchBool t (vs ≡ []) (Describes vs (subformula nodes i) (record { header = header; rows = new.rows })
          (answered (first_time new.rows) (shown old i) f))
          → MatchBool t (ws ≡ []) (Describes ws (subformula nodes i) (record { header = header; rows = new.rows })
          (answered (first_time new.rows) (shown old i) f))
          → AreAlike vs ws
      by_test f true d e = none_alike vs ws d e
      by_test f false d e = one_list_of_verdicts (subformula nodes i) (record { header = header; rows = new.rows })
          (answered (first_time new.rows) (shown old i) f) vs ws d e

      by_front : (o : Front) → GivesOut i old new vs o → GivesOut i old new ws o → AreAlike vs ws
      by_front None d e = none_alike vs ws d e
      by_front (Some f) d e = by_test f (same_front (shown old i) (Some f)) d e

  -- two lists of what a node gave out are alike
  pub emitted_alike : (i : ℕ) (s : State) (events : List Event) (vs ws : List Verdict) → EmittedFrom nodes header i s events vs
      → EmittedFrom nodes header i s events ws → AreAlike vs ws
  emitted_alike i s [] vs ws em en = none_alike vs ws em en
  emitted_alike i s (e ∷ events) vs ws (here, later, at, rest, eq) (here', later', at', rest', eq') =
      subst (λ l. AreAlike l ws) (sym eq) (subst (λ l. AreAlike (here ++ later) l) (sym eq')
      (alike_append here later here' later' (alike_here i s (after_event nodes s e) here here' at at')
      (emitted_alike i (after_event nodes s e) events later later' rest rest')))

  -- no more of the root's verdicts were taken than it gave out
  pub taken_within : {events : List Event} {n : ℕ} → IsTaken nodes header events n → (vs : List Verdict)
      → Emitted nodes header events (length nodes - 1) vs → n ≤ length vs
  taken_within none vs em = omega arith
  taken_within (other {events = events} {n = n} e d t) vs em =
      let x = emitted_last (length nodes - 1) events e vs em in
      let few = taken_within t x.0 x.2 in
      omega (arith, few, ap length x.4, length-append x.0 x.1)
  taken_within (next {events = events} {n = n} verdicts given l t) vs em =
      let x = emitted_last (length nodes - 1) events take vs em in
      let same = alike_length x.0 verdicts (emitted_alike (length nodes - 1) initial events x.0 verdicts x.2 given) in
      omega (arith, l, same, ap length x.4, length-append x.0 x.1)
  taken_within (nothing_left {events = events} {n = n} verdicts given l t) vs em =
      let x = emitted_last (length nodes - 1) events take vs em in
      let few = taken_within t x.0 x.2 in
      omega (arith, few, ap length x.4, length-append x.0 x.1)

module _ (nodes : List Node) (header : Header) (order : IsPostOrder nodes) where
  -- a shown front stays shown, and does not fall
  pub shown_later : (s : State) (e : Event) → MayCome nodes header s e → IsSound nodes header order s → (i : ℕ) → i < length nodes
      → (g : ℤ) → shown s i ≡ Some g → (f : ℤ) × (shown (after_event nodes s e) i ≡ Some f) × (g ≤ℤ f)
  shown_later s e may h i l g x =
      let was = shown_is nodes header order s i g x in
      let up = (event_later nodes header order s e may h.atoms h.rising).fronts i l g was.0 in
      let b = h.bounded i g l was.0 in
      let begin : first_time (after_event nodes s e).rows ≡ first_time s.rows = first_same nodes header order s e b.last b.is_last in (
        up.0,
        front_shown (after_event nodes s e) i up.0 up.1
            (low (first_time (after_event nodes s e).rows) (first_time s.rows) begin up.0 g was.1 up.2),
        up.2,
      )
    where
      low : (a b : ℕ) → a ≡ b → (f g : ℤ) → pos b ≤ℤ g → g ≤ℤ f → pos a ≤ℤ f
      low a b e f g h k = let r : pos a ≡ pos b = ap pos e in omega (arith, ints)

  shown_on : (s : State) (events : List Event) → IsRunFrom nodes header s events → IsSound nodes header order s → (i : ℕ)
      → i < length nodes → (g : ℤ) → shown s i ≡ Some g → (f : ℤ) × (shown (state_from nodes s events) i ≡ Some f)
  shown_on s [] r h i l g x = (g, x)
  shown_on s (e ∷ events) r h i l g x =
      let y = shown_later s e r.0 h i l g x in
      shown_on (after_event nodes s e) events r.1 (sound_after nodes header order s e r.0 h) i l y.0 y.1

  -- a front that is not shown was not shown before
  pub none_before : (s : State) (e : Event) → MayCome nodes header s e → IsSound nodes header order s → (i : ℕ) → i < length nodes
      → shown (after_event nodes s e) i ≡ None → shown s i ≡ None
  none_before s e may h i l x = by_front (shown s i) refl
    where
      by_front : (o : Front) → shown s i ≡ o → shown s i ≡ None
      by_front None y = y
      by_front (Some g) y = let z = shown_later s e may h i l g y in absurd (none_is_none z.0 (sym x ∙ z.1))

  none_first : (s : State) (events : List Event) → IsRunFrom nodes header s events → IsSound nodes header order s → (i : ℕ)
      → i < length nodes → shown (state_from nodes s events) i ≡ None → shown s i ≡ None
  none_first s events r h i l x = by_front (shown s i) refl
    where
      by_front : (o : Front) → shown s i ≡ o → shown s i ≡ None
      by_front None y = y
      by_front (Some g) y = let z = shown_on s events r h i l g y in absurd (none_is_none z.0 (sym x ∙ z.1))

  -- once a row came, the start stays
  first_on : (s : State) (events : List Event) → IsRunFrom nodes header s events → IsSound nodes header order s → (m : ℤ)
      → last_row s ≡ Some m → first_time (state_from nodes s events).rows ≡ first_time s.rows
  first_on s [] r h m x = refl
  first_on s (e ∷ events) r h m x =
      let up = (event_later nodes header order s e r.0 h.atoms h.rising).last m x in
      first_on (after_event nodes s e) events r.1 (sound_after nodes header order s e r.0 h) up.0 up.1
      ∙ first_same nodes header order s e m x

  -- the verdicts lead from where a node was answered to where it is
  abbrev pub Led : ℕ → Front → State → List Verdict → Front → Type 0
  Led i old new vs None = vs ≡ []
  Led i old new vs (Some f) = AreTiles (answered_to (first_time new.rows) old) vs (answered_to (first_time new.rows) (Some f))

  -- what a node gives out at one event leads on
  pub here_led : (i : ℕ) (old new : State) (vs : List Verdict) → EmittedAt nodes header i old new vs
      → (shown new i ≡ None → shown old i ≡ None) → Led i (shown old i) new vs (shown new i)
  here_led i old new vs em down = by_front (shown new i) refl em
    where
      by_old : (o : Front) (f : ℤ) → shown old i ≡ o
          → Describes vs (subformula nodes i) (record { header = header; rows = new.rows }) (answered (first_time new.rows) o f)
          → AreTiles (answered_to (first_time new.rows) o) vs (answered_to (first_time new.rows) (Some f))
      by_old None f x d = describes_tiles (subformula nodes i) (record { header = header; rows = new.rows })
          (closed_at (whole (pos (first_time new.rows))) (whole f)) vs d
      by_old (Some g) f x d = describes_tiles (subformula nodes i) (record { header = header; rows = new.rows })
          (left_open (whole g) (whole f)) vs d

      none_led : (f : ℤ) → vs ≡ [] → shown old i ≡ Some f → AreTiles (answered_to (first_time new.rows) (shown old i)) vs
          (answered_to (first_time new.rows) (Some f))
      none_led f e x = subst (λ l. AreTiles (answered_to (first_time new.rows) (shown old i)) l (answered_to (first_time new.rows) (Some f)))
          (sym e) (subst (λ o. Same (answered_to (first_time new.rows) o) (answered_to (first_time new.rows) (Some f))) (sym x)
          (same_itself (answered_to (first_time new.rows) (Some f))))

      by_front : (o : Front) → shown new i ≡ o → GivesOut nodes header i old new vs o → Led i (shown old i) new vs o
      by_front None x d = d
      by_front (Some f) x d = by_test (same_front (shown old i) (Some f)) refl d
        where
          by_test : (t : Bool) → same_front (shown old i) (Some f) ≡ t
              → MatchBool t (vs ≡ []) (Describes vs (subformula nodes i) (record { header = header; rows = new.rows })
              (answered (first_time new.rows) (shown old i) f))
              → AreTiles (answered_to (first_time new.rows) (shown old i)) vs (answered_to (first_time new.rows) (Some f))
          by_test true y d = none_led f d (same_is (shown old i) (Some f) y)
          by_test false y d = by_old (shown old i) f refl d

  tiles_from : (s : State) (events : List Event) → IsRunFrom nodes header s events → IsSound nodes header order s → (i : ℕ)
      → i < length nodes → (vs : List Verdict) → EmittedFrom nodes header i s events vs
      → Led i (shown s i) (state_from nodes s events) vs (shown (state_from nodes s events) i)
  tiles_from s [] r h i l vs em = by_front (shown s i) refl
    where
      by_front : (o : Front) → shown s i ≡ o → Led i (shown s i) s vs o
      by_front None x = em
      by_front (Some f) x = subst (λ k. AreTiles (answered_to (first_time s.rows) (shown s i)) k (answered_to (first_time s.rows) (Some f))) (sym em)
          (subst (λ o. Same (answered_to (first_time s.rows) o) (answered_to (first_time s.rows) (Some f))) (sym x)
          (same_itself (answered_to (first_time s.rows) (Some f))))
  tiles_from s (e ∷ events) r h i l vs (here, later, at, rest, eq) =
      by_final (shown final i) refl (tiles_from s' events r.1 h' i l later rest)
    where
      s' : State
      s' = after_event nodes s e

      final : State
      final = state_from nodes s' events

      h' : IsSound nodes header order s'
      h' = sound_after nodes header order s e r.0 h

      first : Led i (shown s i) s' here (shown s' i)
      first = here_led i s s' here at (none_before s e r.0 h i l)

      by_mid : (f : ℤ) (o : Front) → shown s' i ≡ o → Led i (shown s i) s' here o
          → AreTiles (answered_to (first_time final.rows) o) later (answered_to (first_time final.rows) (Some f))
          → AreTiles (answered_to (first_time final.rows) (shown s i)) (here ++ later) (answered_to (first_time final.rows) (Some f))
      by_mid f None x led tiles =
          let was = none_before s e r.0 h i l x in
          subst (λ k. AreTiles (answered_to (first_time final.rows) (shown s i)) (k ++ later) (answered_to (first_time final.rows) (Some f)))
          (sym led) (subst (λ o. AreTiles (answered_to (first_time final.rows) o) later (answered_to (first_time final.rows) (Some f))) (sym was) tiles)
      by_mid f (Some g) x led tiles =
          let b = h'.bounded i g l (shown_is nodes header order s' i g x).0 in
          let begin = first_on s' events r.1 h' b.last b.is_last in
          tiles_append (answered_to (first_time final.rows) (shown s i)) here (answered_to (first_time final.rows) (Some g)) later
          (answered_to (first_time final.rows) (Some f))
          (subst (λ k. AreTiles (answered_to k (shown s i)) here (answered_to k (Some g))) (sym begin) led) tiles

      by_final : (o : Front) → shown final i ≡ o → Led i (shown s' i) final later o → Led i (shown s i) final vs o
      by_final None x led =
          let mid = none_first s' events r.1 h' i l x in
          let none : here ≡ [] = subst (λ o. Led i (shown s i) s' here o) mid first in
          eq ∙ ap (λ k. k ++ later) none ∙ led
      by_final (Some f) x led =
          subst (λ k. AreTiles (answered_to (first_time final.rows) (shown s i)) k (answered_to (first_time final.rows) (Some f))) (sym eq)
          (by_mid f (shown s' i) refl first led)

  -- what a node gave out in a run leads from the start to its front; where none is shown, it is nothing
  pub emitted_tiles : (events : List Event) → IsRun nodes header events → (i : ℕ) → i < length nodes → (vs : List Verdict)
      → Emitted nodes header events i vs → IsWhole (first_time (state nodes events).rows) (shown (state nodes events) i) vs
  unfolding state
  emitted_tiles events r i l vs em = by_front (shown (state_from nodes initial events) i)
      (tiles_from initial events r (sound_of nodes header order [] tt) i l vs em)
    where
      by_front : (o : Front) → Led i None (state_from nodes initial events) vs o → IsWhole (first_time (state_from nodes initial events).rows) o vs
      by_front None led = led
      by_front (Some f) led = led
