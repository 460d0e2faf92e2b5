-- What stands on the edges of a network, after one event more.
use Rattle.std.proofs.Common.{◌≡◌, ◌⊎◌, inl, inr, refl, sym, ap, subst, ◌∙◌, ℕ, suc, ◌+◌, ◌-◌, ◌<◌, ◌≤◌, Bool, true}
use Rattle.std.proofs.Common.{false, Some, None, List, [], ◌∷◌, ◌++◌, length, drop, ℤ, pos, ◌+ℤ◌, ◌≤ℤ◌, ◌<ℤ◌, arith}
use Rattle.std.specs.Prelude.{◌≢◌, int_lt, cond, ◌==◌, slice_get, slice_index_or}
use Rattle.std.proofs.lemmas.Int.{ints}
use Rattle.std.proofs.lemmas.List.{append-nil, drop-drop, drop-append-le, drop_all}
use Rattle.std.proofs.lemmas.Bool.{cases_lt, eq-eqb}
use Rattle.stl_syntax.specs.Trace.{Header, Row, first_time}
use Rattle.stl_syntax.specs.PostOrder.{IsPostOrder}
use Rattle.stl_syntax.specs.WellFormed.{AreWellFormed, HasBounds}
use Rattle.stl_syntax.specs.declared.items.Verdict.{Verdict}
use Rattle.stl_syntax.specs.declared.node.Node.{Node}
use Rattle.stl_syntax.specs.declared.node.Node.TheVariants.{Const, Atom as Leaf, Not, And, Or, Implies, Until, Eventually}
use Rattle.stl_syntax.specs.declared.node.Node.TheVariants.{Always, Since, Once, Historically}
use Rattle.online_nodes.specs.Network.{Event, row, step, take, Front, State, last_row, shown, is_atom, node_is_atom}
use Rattle.online_nodes.specs.Network.{allowed_at, after_event, initial, state, reach_back, EmittedAt, Emitted, IsRun, MayCome}
use Rattle.online_nodes.specs.Needed.{IsReader, IsEdge, IsRootEdge, AreNeeded, other, next, nothing_left}
use Rattle.online_nodes.specs.Laws.{AreTiles, answered_to, IsWhole}
use Rattle.online_nodes.proofs.RunLaw.{none_is_none}
use Rattle.std.proofs.lemmas.Option.{same_Some}
use Rattle.rational.proofs.Tests.{int_order}
use Rattle.online_nodes.proofs.FrameLaw.{one_more, given_more, nothing_given, no_more_by_take}
use Rattle.online_nodes.proofs.StayLaw.{shown_is, first_same}
use Rattle.online_nodes.proofs.RisingLaw.{IsSound, sound_after, sound_of, run_before, run_on, reader_behind}
use Rattle.online_nodes.proofs.EmittedLaw.{emitted_tiles, taken_within, Led, here_led, shown_later, none_before, front_shown}
use Rattle.online_nodes.proofs.MeetingLaw.{AllowsMore, needed_grows, needed_first, tiles_none}
use Rattle.online_nodes.proofs.ToldSoFar.{same_itself}
use Rattle.stl_syntax.proofs.PostOrderLemmas.{slice_get_at}

-- a node that reads another is no atom
pub reader_no_atom : (n : Node) (left : Bool) (j : ℕ) → IsReader n left j → is_atom n ≡ false
reader_no_atom (Leaf a) left j r = absurd r
reader_no_atom _ left j r = refl

-- the node reads another, or does not
abbrev pub Reads : Node → ℕ → Type 0
Reads n j = ((left : Bool) × IsReader n left j) ⊎ ((left : Bool) → IsReader n left j → ⊥)

-- a node reads another or does not
pub reads_or_not : (n : Node) (j : ℕ) → Reads n j
reads_or_not n j = by_node n
  where
    same_or_not : (p : ℕ) → (p ≡ j) ⊎ (p ≢ j)
    same_or_not p = by_test (p == j) refl
      where
        by_test : (t : Bool) → (p == j) ≡ t → (p ≡ j) ⊎ (p ≢ j)
        by_test true e = inl (grind (arith, e))
        by_test false e = inr (λ x. absurd (let y = eq-eqb p j x in cc))

    none : Reads (Const true) j
    none = inr (λ left r. r)

    -- a node with one input, and one with two
    One : ℕ → Bool → Type 0
    One p true = p ≡ j
    One p false = ⊥

    one : (p : ℕ) → ((left : Bool) × One p left) ⊎ ((left : Bool) → One p left → ⊥)
    one p = elim (same_or_not p) [
      | inl e ↦ inl (true, e)
      | inr d ↦ inr (λ left. elim left as (λ l. One p l → ⊥) [ true ↦ d | false ↦ λ x. x ])
    ]

    Two : ℕ → ℕ → Bool → Type 0
    Two p q true = p ≡ j
    Two p q false = q ≡ j

    two : (p q : ℕ) → ((left : Bool) × Two p q left) ⊎ ((left : Bool) → Two p q left → ⊥)
    two p q = elim (same_or_not p) [
      | inl e ↦ inl (true, e)
      | inr d ↦ elim (same_or_not q) [
        | inl e ↦ inl (false, e)
        | inr d' ↦ inr (λ left. elim left as (λ l. Two p q l → ⊥) [ true ↦ d | false ↦ d' ])
      ]
    ]

    -- the reading of a node is that of one or two inputs
    moved : {A B : Bool → Type 0} → ((l : Bool) → A l → B l) → ((l : Bool) → B l → A l)
        → ((left : Bool) × A left) ⊎ ((left : Bool) → A left → ⊥) → ((left : Bool) × B left) ⊎ ((left : Bool) → B left → ⊥)
    moved f g (inl (l, a)) = inl (l, f l a)
    moved f g (inr d) = inr (λ l b. d l (g l b))

    by_one : (m : Node) (p : ℕ) → ((l : Bool) → One p l → IsReader m l j) → ((l : Bool) → IsReader m l j → One p l) → Reads m j
    by_one m p f g = moved f g (one p)

    by_two : (m : Node) (p q : ℕ) → ((l : Bool) → Two p q l → IsReader m l j) → ((l : Bool) → IsReader m l j → Two p q l) → Reads m j
    by_two m p q f g = moved f g (two p q)

    by_node : (n : Node) → Reads n j
    by_node (Const b) = inr (λ left r. r)
    by_node (Leaf a) = inr (λ left r. r)
    by_node (Not p) = by_one (Not p) p (λ l. elim l as (λ l. One p l → IsReader (Not p) l j) [ true ↦ λ x. x | false ↦ λ x. x ])
        (λ l. elim l as (λ l. IsReader (Not p) l j → One p l) [ true ↦ λ x. x | false ↦ λ x. x ])
    by_node (And p q) = by_two (And p q) p q (λ l. elim l as (λ l. Two p q l → IsReader (And p q) l j) [ true ↦ λ x. x | false ↦ λ x. x ])
        (λ l. elim l as (λ l. IsReader (And p q) l j → Two p q l) [ true ↦ λ x. x | false ↦ λ x. x ])
    by_node (Or p q) = by_two (Or p q) p q (λ l. elim l as (λ l. Two p q l → IsReader (Or p q) l j) [ true ↦ λ x. x | false ↦ λ x. x ])
        (λ l. elim l as (λ l. IsReader (Or p q) l j → Two p q l) [ true ↦ λ x. x | false ↦ λ x. x ])
    by_node (Implies p q) = by_two (Implies p q) p q
        (λ l. elim l as (λ l. Two p q l → IsReader (Implies p q) l j) [ true ↦ λ x. x | false ↦ λ x. x ])
        (λ l. elim l as (λ l. IsReader (Implies p q) l j → Two p q l) [ true ↦ λ x. x | false ↦ λ x. x ])
    by_node (Until p q a b) = by_two (Until p q a b) p q
        (λ l. elim l as (λ l. Two p q l → IsReader (Until p q a b) l j) [ true ↦ λ x. x | false ↦ λ x. x ])
        (λ l. elim l as (λ l. IsReader (Until p q a b) l j → Two p q l) [ true ↦ λ x. x | false ↦ λ x. x ])
    by_node (Eventually p a b i k) = by_one (Eventually p a b i k) p
        (λ l. elim l as (λ l. One p l → IsReader (Eventually p a b i k) l j) [ true ↦ λ x. x | false ↦ λ x. x ])
        (λ l. elim l as (λ l. IsReader (Eventually p a b i k) l j → One p l) [ true ↦ λ x. x | false ↦ λ x. x ])
    by_node (Always p a b i k) = by_one (Always p a b i k) p
        (λ l. elim l as (λ l. One p l → IsReader (Always p a b i k) l j) [ true ↦ λ x. x | false ↦ λ x. x ])
        (λ l. elim l as (λ l. IsReader (Always p a b i k) l j → One p l) [ true ↦ λ x. x | false ↦ λ x. x ])
    by_node (Since p q a b) = by_two (Since p q a b) p q
        (λ l. elim l as (λ l. Two p q l → IsReader (Since p q a b) l j) [ true ↦ λ x. x | false ↦ λ x. x ])
        (λ l. elim l as (λ l. IsReader (Since p q a b) l j → Two p q l) [ true ↦ λ x. x | false ↦ λ x. x ])
    by_node (Once p a b i k) = by_one (Once p a b i k) p
        (λ l. elim l as (λ l. One p l → IsReader (Once p a b i k) l j) [ true ↦ λ x. x | false ↦ λ x. x ])
        (λ l. elim l as (λ l. IsReader (Once p a b i k) l j → One p l) [ true ↦ λ x. x | false ↦ λ x. x ])
    by_node (Historically p a b i k) = by_one (Historically p a b i k) p
        (λ l. elim l as (λ l. One p l → IsReader (Historically p a b i k) l j) [ true ↦ λ x. x | false ↦ λ x. x ])
        (λ l. elim l as (λ l. IsReader (Historically p a b i k) l j → One p l) [ true ↦ λ x. x | false ↦ λ x. x ])

-- a front that is not shown lies below the start
pub not_shown : (s : State) (i : ℕ) (f : ℤ) → shown s i ≡ None → s.fronts i ≡ Some f → f <ℤ pos (first_time s.rows)
not_shown s i f x e = by_test (int_lt f (pos (first_time s.rows))) refl
  where
    by_test : (t : Bool) → int_lt f (pos (first_time s.rows)) ≡ t → f <ℤ pos (first_time s.rows)
    by_test true y = int_order f (pos (first_time s.rows)) true y
    by_test false y = absurd (none_is_none f (sym x ∙ front_shown s i f e (int_order f (pos (first_time s.rows)) false y)))

module _ (nodes : List Node) (header : Header) (formed : AreWellFormed nodes) where
  abbrev order : IsPostOrder nodes
  order = formed.post_order

  -- after the end no row comes
  end_stays : (s : State) (e : Event) → MayCome nodes header s e → s.closed ≡ true → last_row (after_event nodes s e) ≡ last_row s
  end_stays s (row r) may c = absurd (let x : true ≡ false = sym c ∙ may.0 in cc)
  end_stays s _ may c = refl

  -- what is held for a reader of the node, in two states, by the fronts that are shown
  abbrev pub Holds : State → ℕ → ℕ → ℤ → List Verdict → List Verdict → Type 0
  Holds s j reader k vs held = AreNeeded (first_time s.rows) (shown s j) (s.fronts reader) k vs held

  -- a node that reads another on this side, and does not step at the event
  pub record IsStill (s : State) (e : Event) (j reader : ℕ) (n : Node) (left : Bool) : Type 0 where
    -- the node that is read is one of the list
    pub input : j < length nodes
    -- and the one that reads it
    pub within : reader < length nodes
    -- that is this node
    pub at : slice_get nodes reader ≡ Some n
    -- it reads the other on this side
    pub reads : IsReader n left j
    -- its number stays
    pub same : (after_event nodes s e).fronts reader ≡ s.fronts reader

  -- an edge holds what its reader needs, with what its node gave out at one event more
  pub holds_more : {s : State} {j reader : ℕ} {n : Node} {left : Bool} (e : Event) → IsStill s e j reader n left
      → MayCome nodes header s e → IsSound nodes header order s → (vs here held : List Verdict) → IsWhole (first_time s.rows) (shown s j) vs
      → EmittedAt nodes header j s (after_event nodes s e) here → Holds s j reader (reach_back n left) vs held
      → Holds (after_event nodes s e) j reader (reach_back n left) (vs ++ here) (held ++ here)
  holds_more {s} {j} {reader} {n} {left} e on may sound vs here held whole given holds =
      subst (λ o. AreNeeded (first_time s'.rows) (shown s' j) o k (vs ++ here) (held ++ here)) (sym on.same)
      (by_old (shown s j) refl whole holds)
    where
      s' : State
      s' = after_event nodes s e

      k : ℤ
      k = reach_back n left

      bounds : HasBounds n
      bounds = subst (λ m. HasBounds m) here_is (formed.bounds reader (Const false) on.within)
        where
          here_is : slice_index_or nodes reader (Const false) ≡ n
          here_is = let x = slice_get_at nodes reader (Const false) on.within in let at = on.at in cc

      behind : (g : ℤ) → s.fronts reader ≡ Some g
          → (f : ℤ) × (s.fronts j ≡ Some f) × (((g +ℤ k) ≤ℤ f) ⊎ ((s.closed ≡ true) × (last_row s ≡ Some f)))
      behind g x = reader_behind nodes header order s sound reader n left j on.within on.at bounds on.reads g x

      start_same : (g : ℤ) → s.fronts reader ≡ Some g → first_time s'.rows ≡ first_time s.rows
      start_same g x = let b = sound.bounded reader g on.within x in first_same nodes header order s e b.last b.is_last

      led : Led nodes header order j (shown s j) s' here (shown s' j)
      led = here_led nodes header order j s s' here given (none_before nodes header order s e may sound j on.input)

      -- the first answer
      by_first : shown s j ≡ None → vs ≡ [] → held ≡ [] → (o : Front) → shown s' j ≡ o → Led nodes header order j (shown s j) s' here o
          → AreNeeded (first_time s'.rows) o (s.fronts reader) k (vs ++ here) (held ++ here)
      by_first x w h None y d = ap (λ l. l ++ here) h ∙ d
      by_first x w h (Some f) y d =
          let more = needed_first (first_time s'.rows) f (s.fronts reader) k here low
          (subst (λ q. AreTiles (answered_to (first_time s'.rows) q) here (answered_to (first_time s'.rows) (Some f))) x d) in
          subst (λ a. AreNeeded (first_time s'.rows) (Some f) (s.fronts reader) k (a ++ here) (held ++ here)) (sym w)
          (subst (λ b. AreNeeded (first_time s'.rows) (Some f) (s.fronts reader) k here (b ++ here)) (sym h) more)
        where
          low : (g : ℤ) → s.fronts reader ≡ Some g → pos (first_time s'.rows) ≤ℤ g → (g +ℤ k) <ℤ pos (first_time s'.rows)
          low g z a = by_case (behind g z)
            where
              begin : pos (first_time s'.rows) ≡ pos (first_time s.rows)
              begin = ap pos (start_same g z)

              by_case : (f : ℤ) × (s.fronts j ≡ Some f) × (((g +ℤ k) ≤ℤ f) ⊎ ((s.closed ≡ true) × (last_row s ≡ Some f)))
                  → (g +ℤ k) <ℤ pos (first_time s'.rows)
              by_case (f, front, inl i) = let under = not_shown s j f x front in let q = begin in omega (arith, ints)
              by_case (f, front, inr (c, last)) =
                  let under = not_shown s j f x front in
                  let b = sound.bounded reader g on.within z in
                  let top : b.last ≡ f = same_Some b.last f (sym b.is_last ∙ last) in
                  absurd (let by = b.by_now in let q = begin in omega (arith, ints))

      -- a further answer
      by_further : (f : ℤ) → shown s j ≡ Some f → AreTiles (answered_to (first_time s.rows) None) vs (answered_to (first_time s.rows) (Some f))
          → AreNeeded (first_time s.rows) (Some f) (s.fronts reader) k vs held
          → AreNeeded (first_time s'.rows) (shown s' j) (s.fronts reader) k (vs ++ here) (held ++ here)
      by_further f x w h =
          subst (λ o. AreNeeded (first_time s'.rows) o (s.fronts reader) k (vs ++ here) (held ++ here)) (sym later.1)
          (subst (λ b. AreNeeded b (Some later.0) (s.fronts reader) k (vs ++ here) (held ++ here)) (sym begin) (by_reader (s.fronts reader) refl h))
        where
          was : (s.fronts j ≡ Some f) × (pos (first_time s.rows) ≤ℤ f)
          was = shown_is nodes header order s j f x

          later : (f' : ℤ) × (shown s' j ≡ Some f') × (f ≤ℤ f')
          later = shown_later nodes header order s e may sound j on.input f x

          begin : first_time s'.rows ≡ first_time s.rows
          begin = let b = sound.bounded j f on.input was.0 in first_same nodes header order s e b.last b.is_last

          tiles : AreTiles (answered_to (first_time s.rows) (Some f)) here (answered_to (first_time s.rows) (Some later.0))
          tiles = subst (λ b. AreTiles (answered_to b (Some f)) here (answered_to b (Some later.0))) begin
              (subst (λ q. AreTiles (answered_to (first_time s'.rows) q) here (answered_to (first_time s'.rows) (Some later.0))) x
              (subst (λ o. Led nodes header order j (shown s j) s' here o) later.1 led))

          grown : (o : Front) → s.fronts reader ≡ o → ((g : ℤ) → s.fronts reader ≡ Some g → (g +ℤ k) ≤ℤ f)
              → AreNeeded (first_time s.rows) (Some f) o k vs held
              → AreNeeded (first_time s.rows) (Some later.0) o k (vs ++ here) (held ++ here)
          grown o y b h =
              let allows : AllowsMore (first_time s.rows) (Some f) (Some later.0) o k = record {
                low = λ z. absurd (none_is_none f (sym z));
                behind = λ f0 z g y' a a'. subst (λ m. (g +ℤ k) ≤ℤ m) (same_Some f f0 z) (b g (y ∙ y'));
              } in
              needed_grows (first_time s.rows) f later.0 vs here held was.1 later.2 allows w tiles h

          by_reader : (o : Front) → s.fronts reader ≡ o → AreNeeded (first_time s.rows) (Some f) o k vs held
              → AreNeeded (first_time s.rows) (Some later.0) o k (vs ++ here) (held ++ here)
          by_reader None y h = grown None y (λ g z. absurd (none_is_none g (sym y ∙ z))) h
          by_reader (Some g) y h = by_case (behind g y)
            where
              by_case : (f1 : ℤ) × (s.fronts j ≡ Some f1) × (((g +ℤ k) ≤ℤ f1) ⊎ ((s.closed ≡ true) × (last_row s ≡ Some f1)))
                  → AreNeeded (first_time s.rows) (Some later.0) (Some g) k (vs ++ here) (held ++ here)
              by_case (f1, front, inl i) =
                  let same : f1 ≡ f = same_Some f1 f (sym front ∙ was.0) in
                  grown (Some g) y (λ g' z. let w : g ≡ g' = same_Some g g' (sym y ∙ z) in omega (arith, ints)) h
              by_case (f1, front, inr (c, last)) =
                  let same : f1 ≡ f = same_Some f1 f (sym front ∙ was.0) in
                  let b = (sound_after nodes header order s e may sound).bounded j later.0 on.input (shown_is nodes header order s' j later.0 later.1).0 in
                  let top : b.last ≡ f1 = same_Some b.last f1 (sym b.is_last ∙ end_stays s e may c ∙ last) in
                  let stays : later.0 ≡ f = (let up = later.2 in let by = b.by_now in omega (arith, ints)) in
                  let none : here ≡ [] = tiles_none (answered_to (first_time s.rows) (Some f)) here (answered_to (first_time s.rows) (Some f))
                  (subst (λ m. AreTiles (answered_to (first_time s.rows) (Some f)) here (answered_to (first_time s.rows) (Some m))) stays tiles)
                  (same_itself (answered_to (first_time s.rows) (Some f))) in
                  subst (λ m. AreNeeded (first_time s.rows) (Some m) (Some g) k (vs ++ here) (held ++ here)) (sym stays)
                  (subst (λ a. AreNeeded (first_time s.rows) (Some f) (Some g) k (vs ++ a) (held ++ a)) (sym none)
                  (subst (λ a. AreNeeded (first_time s.rows) (Some f) (Some g) k a (held ++ [])) (sym (append-nil vs))
                  (subst (λ a. AreNeeded (first_time s.rows) (Some f) (Some g) k vs a) (sym (append-nil held)) h)))

      by_old : (o : Front) → shown s j ≡ o → IsWhole (first_time s.rows) o vs → AreNeeded (first_time s.rows) o (s.fronts reader) k vs held
          → AreNeeded (first_time s'.rows) (shown s' j) (s.fronts reader) k (vs ++ here) (held ++ here)
      by_old None x w h = by_first x w h (shown s' j) refl led
      by_old (Some f) x w h = by_further f x w h

  -- the state after one event more
  pub after_one : (events : List Event) (e : Event) → state nodes (events ++ e ∷ []) ≡ after_event nodes (state nodes events) e
  unfolding state
  after_one events e = one_more nodes header initial events e

  -- the events of a run but the last are a run, after which the last may come
  pub run_parts : (events : List Event) (e : Event) → IsRun nodes header (events ++ e ∷ [])
      → IsRun nodes header events × MayCome nodes header (state nodes events) e
  unfolding state
  run_parts events e run = run_before nodes header order initial events e run

  -- a run with an event that may come is a run
  pub run_more : (events : List Event) (e : Event) → IsRun nodes header events → MayCome nodes header (state nodes events) e
      → IsRun nodes header (events ++ e ∷ [])
  unfolding state
  run_more events e run may = run_on nodes header order initial events e run may

  -- what a node gave out at one event more stands at the end
  pub emitted_more : (events : List Event) (e : Event) (j : ℕ) (vs here : List Verdict) → Emitted nodes header events j vs
      → EmittedAt nodes header j (state nodes events) (after_event nodes (state nodes events) e) here
      → Emitted nodes header (events ++ e ∷ []) j (vs ++ here)
  unfolding state
  emitted_more events e j vs here em given = given_more nodes header j initial events e vs here em given

  -- an edge, once its node gave out more, where its reader stays
  pub edge_grows : (events : List Event) (e : Event) → IsRun nodes header events → MayCome nodes header (state nodes events) e
      → (j : ℕ) → j < length nodes → (held here : List Verdict) → (edge : IsEdge nodes header events j held) → edge.reader < length nodes
      → (after_event nodes (state nodes events) e).fronts edge.reader ≡ (state nodes events).fronts edge.reader
      → EmittedAt nodes header j (state nodes events) (after_event nodes (state nodes events) e) here
      → IsEdge nodes header (events ++ e ∷ []) j (held ++ here)
  edge_grows events e run may j l held here edge rl same given = record {
    reader = edge.reader;
    reading = edge.reading;
    left = edge.left;
    at_reader = edge.at_reader;
    reads = edge.reads;
    emitted = edge.emitted ++ here;
    is_emitted = emitted_more events e j edge.emitted here edge.is_emitted given;
    is_needed = subst (λ s. AreNeeded (first_time s.rows) (shown s j) (s.fronts edge.reader) (reach_back edge.reading edge.left)
        (edge.emitted ++ here) (held ++ here)) (sym (after_one events e))
        (holds_more e still may (sound_of nodes header order events run) edge.emitted here held
        (emitted_tiles nodes header order events run j l edge.emitted edge.is_emitted) given edge.is_needed);
  }
    where
      still : IsStill (state nodes events) e j edge.reader edge.reading edge.left
      still = record { input = l; within = rl; at = edge.at_reader; reads = edge.reads; same = same }

  -- a front that stays is shown as before
  pub shown_stays : (s : State) (e : Event) → IsSound nodes header order s → (j : ℕ) → j < length nodes → (after_event nodes s e).fronts j ≡ s.fronts j
      → shown s j ≡ shown (after_event nodes s e) j
  shown_stays s e sound j l same = by_front (s.fronts j) refl
    where
      s' : State
      s' = after_event nodes s e

      from : ℕ → Front → Front
      from b None = None
      from b (Some f) = cond (int_lt f (pos b)) None (Some f)

      by_front : (o : Front) → s.fronts j ≡ o → from (first_time s.rows) (s.fronts j) ≡ from (first_time s'.rows) (s'.fronts j)
      by_front None x = ap (from (first_time s.rows)) x ∙ sym (ap (from (first_time s'.rows)) (same ∙ x))
      by_front (Some f) x =
          let b = sound.bounded j f l x in
          ap (from (first_time s.rows)) (sym same) ∙ ap (λ k. from k (s'.fronts j)) (sym (first_same nodes header order s e b.last b.is_last))

  -- the root's edge, once the root gave out more
  pub root_grows : (events : List Event) (e : Event) → e ≢ take → (held here : List Verdict) → IsRootEdge nodes header events held
      → EmittedAt nodes header (length nodes - 1) (state nodes events) (after_event nodes (state nodes events) e) here
      → IsRootEdge nodes header (events ++ e ∷ []) (held ++ here)
  unfolding state
  root_grows events e d held here edge given = record {
    taken = edge.taken;
    is_taken = other e d edge.is_taken;
    emitted = edge.emitted ++ here;
    is_emitted = given_more nodes header (length nodes - 1) initial events e edge.emitted here edge.is_emitted given;
    is = ap (λ l. l ++ here) edge.is
        ∙ sym (drop-append-le edge.taken edge.emitted here (taken_within nodes header edge.is_taken edge.emitted edge.is_emitted));
  }

  -- an event that is no take leaves the root's edge
  pub root_stays : (events : List Event) (e : Event) → e ≢ take → IsRun nodes header events → length nodes - 1 < length nodes → (held : List Verdict)
      → IsRootEdge nodes header events held
      → (after_event nodes (state nodes events) e).fronts (length nodes - 1) ≡ (state nodes events).fronts (length nodes - 1)
      → IsRootEdge nodes header (events ++ e ∷ []) held
  root_stays events e d run l held edge stays =
      subst (λ h. IsRootEdge nodes header (events ++ e ∷ []) h) (append-nil held)
      (root_grows events e d held [] edge (nothing_given nodes header (length nodes - 1) (state nodes events) (after_event nodes (state nodes events) e)
      (shown_stays (state nodes events) e (sound_of nodes header order events run) (length nodes - 1) l stays)))

  -- one verdict of the root taken, if there is one
  pub root_taken : (events : List Event) (held : List Verdict) → IsRootEdge nodes header events held
      → IsRootEdge nodes header (events ++ take ∷ []) (drop 1 held)
  root_taken events held edge = by_order (cases_lt edge.taken (length edge.emitted))
    where
      few : edge.taken ≤ length edge.emitted
      few = taken_within nodes header edge.is_taken edge.emitted edge.is_emitted

      one : drop 1 held ≡ drop (suc edge.taken) edge.emitted
      one = ap (drop 1) edge.is ∙ drop-drop 1 edge.taken edge.emitted
          ∙ ap (λ k. drop k edge.emitted) (let e : edge.taken + 1 ≡ suc edge.taken = omega arith in e)

      by_order : (edge.taken < length edge.emitted) ⊎ (length edge.emitted ≤ edge.taken) → IsRootEdge nodes header (events ++ take ∷ []) (drop 1 held)
      by_order (inl l) = record {
        taken = suc edge.taken;
        is_taken = next edge.emitted edge.is_emitted l edge.is_taken;
        emitted = edge.emitted;
        is_emitted = no_more_by_take nodes header events (length nodes - 1) edge.emitted edge.is_emitted;
        is = one;
      }
      by_order (inr l) = record {
        taken = edge.taken;
        is_taken = nothing_left edge.emitted edge.is_emitted (let e : edge.taken ≡ length edge.emitted = omega (arith, few, l) in e) edge.is_taken;
        emitted = edge.emitted;
        is_emitted = no_more_by_take nodes header events (length nodes - 1) edge.emitted edge.is_emitted;
        is = one ∙ drop_all (suc edge.taken) edge.emitted (omega (arith, l)) ∙ sym (drop_all edge.taken edge.emitted l);
      }

  -- a state of a run, once another node stepped, the end came or a verdict was taken: what stays
  pub step_leaves : (s : State) (i j : ℕ) → j ≢ i → (after_event nodes s (step i)).fronts j ≡ s.fronts j
  step_leaves s i j d = by_test (j == i) refl
    where
      by_test : (t : Bool) → (j == i) ≡ t → cond (j == i) (allowed_at nodes s i) (s.fronts j) ≡ s.fronts j
      by_test true e = absurd (d (grind (arith, e)))
      by_test false e = ap (λ t. cond t (allowed_at nodes s i) (s.fronts j)) e

  -- a row leaves the numbers of all nodes but the atoms
  pub row_leaves : (s : State) (r : Row) (j : ℕ) → node_is_atom nodes j ≡ false → (after_event nodes s (row r)).fronts j ≡ s.fronts j
  row_leaves s r j e = ap (λ t. cond t (Some (pos r.time)) (s.fronts j)) e

  -- a reader is a node that is no atom
  pub reader_is_none : (reader : ℕ) (n : Node) (left : Bool) (j : ℕ) → reader < length nodes → slice_get nodes reader ≡ Some n → IsReader n left j
      → node_is_atom nodes reader ≡ false
  reader_is_none reader n left j l at reads =
      let x = slice_get_at nodes reader (Const false) l in
      let e : slice_index_or nodes reader (Const false) ≡ n = cc in
      ap is_atom e ∙ reader_no_atom n left j reads
