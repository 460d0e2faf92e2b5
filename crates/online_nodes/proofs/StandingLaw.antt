-- An operator stands for the steps of its node as the others go on, rows come, the end comes and verdicts are taken.
use Rattle.std.proofs.Common.{◌≡◌, ◌⊎◌, inl, inr, refl, sym, ap, subst, ◌∙◌, ℕ, ◌<◌, Bool, true, false, Option}
use Rattle.std.proofs.Common.{Some, None, List, [], ◌∷◌, ◌++◌, length, ℤ, pos, ◌+ℤ◌, ◌≤ℤ◌, ◌<ℤ◌, arith}
use Rattle.std.specs.Prelude.{int_lt, slice_get, IfSome, option_map}
use Rattle.std.proofs.lemmas.Int.{ints}
use Rattle.std.proofs.lemmas.Option.{slice_get_within, get_or_from_slice_get, same_Some}
use Rattle.rational.specs.Rational.{Rational, ◌≤ʳ◌, whole}
use Rattle.rational.proofs.Order.{le_trans, le_of_lt}
use Rattle.rational.proofs.Shift.{le_whole}
use Rattle.frac128.specs.Spans.{interval}
use Rattle.stl_syntax.specs.Trace.{Header, Continues, first_time, last_time, start, stop as last_of}
use Rattle.stl_syntax.specs.Formula.{subformula}
use Rattle.stl_syntax.specs.Truth.{Truth}
use Rattle.stl_syntax.specs.PostOrder.{IsPostOrder}
use Rattle.stl_syntax.specs.WellFormed.{AreWellFormed, HasBounds}
use Rattle.stl_syntax.specs.declared.items.Verdict.{Verdict}
use Rattle.stl_syntax.specs.declared.node.Node.{Node}
use Rattle.stl_syntax.specs.declared.node.Node.TheVariants.{Const, Atom as Leaf, Not, And, Or, Implies, Until, Eventually}
use Rattle.stl_syntax.specs.declared.node.Node.TheVariants.{Always, Since, Once, Historically}
use Rattle.online_nodes.specs.Network.{Event, Front, least, State, last_row, shown, after_event, state, reach_back, needed, EmittedAt, IsRun, MayCome}
use Rattle.rational.specs.Time.{Interval}
use Rattle.online_nodes.specs.Needed.{IsReader, AreMeeting, AreNeeded, IsJoinedEdge}
use Rattle.rational.specs.Places.{Place, begins, ends, Upto, AtMost, Before, Same}
use Rattle.frac128.specs.Cuts.{place}
use Rattle.online_nodes.specs.Held.{AreStretches, Held, edge_at, fresh_at, number_at}
use Rattle.online_nodes.specs.Laws.{AreTiles, answered_to, IsWhole, NeverLess}
use Rattle.online_nodes.specs.Operators.{ahead, behind, kind_of, KnowsBy, place_of, first_place, read_upto, front_place}
use Rattle.online_nodes.specs.Sweeps.{Counted, low_place, high_place}
use Rattle.online_nodes.specs.Truths.{Knows}
use Rattle.online_nodes.specs.declared.window.Window.{Window}
use Rattle.online_nodes.specs.Belonging.{StandsForSteps, trace_of}
use Rattle.online_nodes.specs.declared.operator.Operator.{Operator}
use Rattle.rational.proofs.PlaceLemmas.{same_places, upto_same, upto_of_before, before_at_most, before_of_at_most}
use Rattle.rational.proofs.Tests.{int_order}
use Rattle.online_nodes.proofs.RunLaw.{lesser}
use Rattle.online_nodes.proofs.RisingLaw.{IsSound, sound_of, event_later, reader_behind, children_before, least_of, least_rises, since_left_behind}
use Rattle.online_nodes.proofs.StayLaw.{shown_is, first_same, agrees, goes_on_before}
use Rattle.online_nodes.proofs.EmittedLaw.{Led, here_led, none_before, front_shown, emitted_tiles}
use Rattle.online_nodes.proofs.MeetingLaw.{Each, tiled_upto}
use Rattle.online_nodes.proofs.EdgeLaw.{shown_stays, after_one}
use Rattle.online_nodes.proofs.RowsLaw.{rows_of, rows_after, trace_so_far, goes_on_itself, last_is}
use Rattle.online_nodes.proofs.KnowingOn.{Agrees, AgreesUpto, EndsLater, ReadsOn, counted_agrees, knows_on, until_on, since_on}
use Rattle.online_nodes.proofs.PlacesOn.{after_number, later_place, PlacesOn, Leads, places_on}
use Rattle.online_nodes.proofs.ReaderLemmas.{child_all}
use Rattle.online_nodes.proofs.Stretches.{stand_stretches, stretches_end, stretches_first, stretches_whole}

module _ (nodes : List Node) (header : Header) (formed : AreWellFormed nodes) where
  abbrev order : IsPostOrder nodes
  order = formed.post_order

  -- an input of a node, before an event and after it: it got what it gave out
  pub record InputOn (s s' : State) (e e' : Held) (j : ℕ) : Type 0 where
    -- the edge noted its number
    pub number : number_at e j ≡ s.fronts j
    -- and notes its new one
    pub number_new : number_at e' j ≡ s'.fronts j
    -- what the node gave out meanwhile
    pub more : List Verdict
    -- it stands behind what was unread, or is joined with it
    pub fresh : AreStretches (fresh_at e' j) (fresh_at e j ++ more)
    -- what was read stays
    pub seen : (edge_at e' j).seen ≡ (edge_at e j).seen
    -- it is what the node gives out
    pub emitted : EmittedAt nodes header j s s' more
    -- an edge that shows nothing has nothing to read
    pub unshown : shown s j ≡ None → fresh_at e j ≡ []
    -- what is unread does not begin behind the number
    pub within : (f : ℤ) → s.fronts j ≡ Some f → AtMost (first_place (fresh_at e j) (after_number f)) (after_number f)

  -- what an input gave out leads on
  leads : {e e' : Held} {j : ℕ} (s : State) (ev : Event) (on : InputOn s (after_event nodes s ev) e e' j) → MayCome nodes header s ev
      → IsSound nodes header order s → j < length nodes → (f f' : ℤ) → s.fronts j ≡ Some f → (after_event nodes s ev).fronts j ≡ Some f'
      → Leads (first_time s.rows) f f' (fresh_at e j) on.more
  leads {e} {e'} {j} s ev on may sound l f f' front front' = by_old (int_lt f (pos S)) refl
    where
      fresh : List Verdict
      fresh = fresh_at e j

      more : List Verdict
      more = on.more

      s' : State
      s' = after_event nodes s ev

      S : ℕ
      S = first_time s.rows

      begin : first_time s'.rows ≡ S
      begin = let b = sound.bounded j f l front in first_same nodes header order s ev b.last b.is_last

      led : Led nodes header order j (shown s j) s' more (shown s' j)
      led = here_led nodes header order j s s' more on.emitted (none_before nodes header order s ev may sound j l)

      -- where both fronts are as they are shown
      led_as : (o o' : Front) → shown s j ≡ o → shown s' j ≡ o' → Led nodes header order j o s' more o'
      led_as o o' x y = subst (λ q. Led nodes header order j q s' more o') x (subst (λ q. Led nodes header order j (shown s j) s' more q) y led)

      low_shown : (t : State) (g : ℤ) → t.fronts j ≡ Some g → g <ℤ pos (first_time t.rows) → shown t j ≡ None
      low_shown t g x low = by_front (shown t j) refl
        where
          by_front : (o : Front) → shown t j ≡ o → shown t j ≡ None
          by_front None y = y
          by_front (Some h) y =
              let z = shown_is nodes header order t j h y in
              let w : g ≡ h = same_Some g h (sym x ∙ z.0) in
              absurd (let k = z.1 in omega (arith, ints))

      tiles_at : (o : Front) → AreTiles (answered_to (first_time s'.rows) o) more (answered_to (first_time s'.rows) (Some f'))
          → AreTiles (answered_to S o) more (answered_to S (Some f'))
      tiles_at o h = subst (λ b. AreTiles (answered_to b o) more (answered_to b (Some f'))) begin h

      high' : pos S ≤ℤ f' → shown s' j ≡ Some f'
      high' h = front_shown s' j f' front' (subst (λ b. pos b ≤ℤ f') (sym begin) h)

      by_new : (t : Bool) → int_lt f' (pos S) ≡ t → f <ℤ pos S → shown s j ≡ None
          → ((pos S ≤ℤ f') × AreTiles (answered_to S None) more (answered_to S (Some f'))) ⊎ ((f' <ℤ pos S) × (more ≡ []))
      by_new true x low o =
          let under = int_order f' (pos S) true x in
          inr (under, led_as None None o (low_shown s' f' front' (subst (λ b. f' <ℤ pos b) (sym begin) under)))
      by_new false x low o =
          let over = int_order f' (pos S) false x in
          inl (over, tiles_at None (led_as None (Some f') o (high' over)))

      by_old : (t : Bool) → int_lt f (pos S) ≡ t → Leads S f f' fresh more
      by_old true x =
          let low = int_order f (pos S) true x in
          let o = low_shown s f front low in
          inr (low, on.unshown o, by_new (int_lt f' (pos S)) refl low o)
      by_old false x =
          let over = int_order f (pos S) false x in
          inl (over, tiles_at (Some f) (led_as (Some f) (Some f') (front_shown s j f front over) (high' (over_new over))))
        where
          over_new : pos S ≤ℤ f → pos S ≤ℤ f'
          over_new h =
              let up = (event_later nodes header order s ev may sound.atoms sound.rising).fronts j l f front in
              let same : up.0 ≡ f' = same_Some up.0 f' (sym up.1 ∙ front') in
              (let a = up.2 in omega (arith, ints))

  -- a place by its number
  place_most : (o q : Front) (a b : ℤ) → o ≡ Some a → q ≡ Some b → a ≤ℤ b → AtMost (place_of o) (place_of q)
  place_most o q a b x y l = subst (λ o. AtMost (place_of o) (place_of q)) (sym x)
      (subst (λ q. AtMost (after_number a) (place_of q)) (sym y) (later_place a b l))

  -- an input of a node that is answered up to g, before the event and after it; the node looks back or ahead by k
  record Input (s s' : State) (e e' : Held) (g k : ℤ) (j : ℕ) : Type 0 where
    f : ℤ
    f' : ℤ
    number : number_at e j ≡ Some f
    number_new : number_at e' j ≡ Some f'
    front : s.fronts j ≡ Some f
    up : f ≤ℤ f'
    behind : ((g +ℤ k) ≤ℤ f) ⊎ (g ≤ℤ f)
    reads : ReadsOn (whole (pos (first_time s.rows))) (read_upto e j) (front_place e j) (read_upto e' j) (front_place e' j)
    same : pos (first_time s.rows) ≤ℤ f → Same (read_upto e j) (read_upto e' j)
    first : pos (first_time s.rows) ≤ℤ f → (v : Verdict) → slice_get (fresh_at e' j) 0 ≡ Some v
        → EndsLater (fresh_at e j) v ⊎ Before (front_place e j) (ends (interval v.on))
    agree : Agrees (start (trace_of header s)) (front_place e j) (Truth (subformula nodes j) (trace_of header s))
        (Truth (subformula nodes j) (trace_of header s'))
    counted : (seeks : Bool) → AgreesUpto (front_place e j) (Counted seeks (subformula nodes j) (trace_of header s))
        (Counted seeks (subformula nodes j) (trace_of header s'))

  module _ (events : List Event) (ev : Event) (run : IsRun nodes header events) (may : MayCome nodes header (state nodes events) ev) where
    abbrev s : State
    s = state nodes events

    abbrev s' : State
    s' = after_event nodes (state nodes events) ev

    sound : IsSound nodes header order s
    sound = sound_of nodes header order events run

    -- the start is that of the rows so far
    begin_same : (j : ℕ) (f : ℤ) → j < length nodes → s.fronts j ≡ Some f → first_time s'.rows ≡ first_time s.rows
    begin_same j f l front = let b = sound.bounded j f l front in first_same nodes header order s ev b.last b.is_last

    -- up to a number the truth of its node is that in the longer trace
    agrees_on : (j : ℕ) (f : ℤ) → j < length nodes → s.fronts j ≡ Some f
        → Agrees (start (trace_of header s)) (after_number f) (Truth (subformula nodes j) (trace_of header s))
        (Truth (subformula nodes j) (trace_of header s'))
    agrees_on j f l front t from upto =
        let b = sound.bounded j f l front in
        let up = (event_later nodes header order s ev may sound.atoms sound.rising).last b.last b.is_last in
        let is = trace_so_far header s' up.0 (rows_after nodes header s ev may (rows_of nodes header events run)) up.1 in
        agrees nodes header order s j f (trace_of header s') is more_rows b t from upto
      where
        more_rows : Continues (trace_of header s') header s.rows s.closed
        more_rows = goes_on_before nodes header order s (ev ∷ []) (trace_of header s') (may, tt) (goes_on_itself header s'.rows s'.closed)

    start_same : (j : ℕ) (f : ℤ) → j < length nodes → s.fronts j ≡ Some f → start (trace_of header s') ≡ start (trace_of header s)
    start_same j f l front = ap (λ n. whole (pos n)) (begin_same j f l front)

    counted_on : (seeks : Bool) (j : ℕ) (f : ℤ) → j < length nodes → s.fronts j ≡ Some f
        → AgreesUpto (after_number f) (Counted seeks (subformula nodes j) (trace_of header s))
        (Counted seeks (subformula nodes j) (trace_of header s'))
    counted_on seeks j f l front =
        counted_agrees seeks (subformula nodes j) (trace_of header s) (trace_of header s') (after_number f) (start_same j f l front) inside
        (agrees_on j f l front)
      where
        inside : (u : Rational) → Upto (after_number f) u → (u ≤ʳ last_of (trace_of header s)) × (u ≤ʳ last_of (trace_of header s'))
        inside u x =
            let b = sound.bounded j f l front in
            let up = (event_later nodes header order s ev may sound.atoms sound.rising).last b.last b.is_last in
            let now : pos (last_time 0 s.rows) ≡ b.last = last_is s b.last b.is_last in
            let then : pos (last_time 0 s'.rows) ≡ up.0 = last_is s' up.0 up.1 in (
              le_trans x (le_whole (let c = b.by_now in let d : f ≤ℤ pos (last_time 0 s.rows) = omega (arith, ints) in d)),
              le_trans x (le_whole (let c = b.by_now in let g = up.2 in let d : f ≤ℤ pos (last_time 0 s'.rows) = omega (arith, ints) in d)),
            )

    module _ (i : ℕ) (n : Node) (at : slice_get nodes i ≡ Some n) (g : ℤ) (front : s.fronts i ≡ Some g) (e e' : Held) where
      here : i < length nodes
      here = slice_get_within nodes i n at

      below : (left : Bool) (j : ℕ) → IsReader n left j → j < length nodes
      below left j reads =
          let x : j < i = child_all (λ p. p < i) n left j reads (children_before nodes header order i n here at) in
          let y = here in
          omega (arith, x, y)

      -- an input by its numbers
      input_of : (left : Bool) (j : ℕ) → IsReader n left j → InputOn s s' e e' j → Input s s' e e' g (reach_back n left) j
      input_of left j reads on = record {
        f = b.0;
        f' = up.0;
        number = number;
        number_new = number_new;
        front = b.1;
        up = up.2;
        behind = by_case b.2;
        reads = moved_reads;
        same = moved_same;
        first = moved_first;
        agree = subst (λ o. Agrees (start (trace_of header s)) (place_of o) (Truth (subformula nodes j) (trace_of header s))
            (Truth (subformula nodes j) (trace_of header s'))) (sym number) (agrees_on j b.0 jl b.1);
        counted = λ seeks. subst (λ o. AgreesUpto (place_of o) (Counted seeks (subformula nodes j) (trace_of header s))
            (Counted seeks (subformula nodes j) (trace_of header s'))) (sym number) (counted_on seeks j b.0 jl b.1);
      }
        where
          jl : j < length nodes
          jl = below left j reads

          bounds : HasBounds n
          bounds = subst (λ m. HasBounds m) (get_or_from_slice_get nodes i n (Const false) at) (formed.bounds i (Const false) here)

          b : (f : ℤ) × (s.fronts j ≡ Some f) × (((g +ℤ reach_back n left) ≤ℤ f) ⊎ ((s.closed ≡ true) × (last_row s ≡ Some f)))
          b = reader_behind nodes header order s sound i n left j here at bounds reads g front

          up : (f' : ℤ) × (s'.fronts j ≡ Some f') × (b.0 ≤ℤ f')
          up = (event_later nodes header order s ev may sound.atoms sound.rising).fronts j jl b.0 b.1

          number : number_at e j ≡ Some b.0
          number = on.number ∙ b.1

          number_new : number_at e' j ≡ Some up.0
          number_new = on.number_new ∙ up.1

          by_case : ((g +ℤ reach_back n left) ≤ℤ b.0) ⊎ ((s.closed ≡ true) × (last_row s ≡ Some b.0))
              → ((g +ℤ reach_back n left) ≤ℤ b.0) ⊎ (g ≤ℤ b.0)
          by_case (inl x) = inl x
          by_case (inr (c, last)) =
              let w = sound.bounded i g here front in
              let top : w.last ≡ b.0 = same_Some w.last b.0 (sym w.is_last ∙ last) in
              inr (let x = w.by_now in omega (arith, ints))

          places : PlacesOn (first_time s.rows) b.0 up.0 (fresh_at e j) on.more
          places = places_on (first_time s.rows) b.0 up.0 (fresh_at e j) on.more up.2 (on.within b.0 b.1)
              (leads s ev on may sound jl b.0 up.0 b.1 up.1)

          moved_reads : ReadsOn (whole (pos (first_time s.rows))) (read_upto e j) (front_place e j) (read_upto e' j) (front_place e' j)
          moved_reads =
              subst (λ o. ReadsOn (whole (pos (first_time s.rows))) (first_place (fresh_at e j) (place_of o)) (place_of o) (read_upto e' j) (front_place e' j))
              (sym number)
              (subst (λ o. ReadsOn (whole (pos (first_time s.rows))) (first_place (fresh_at e j) (after_number b.0)) (after_number b.0)
              (first_place (fresh_at e' j) (place_of o)) (place_of o)) (sym number_new)
              (subst (λ c. ReadsOn (whole (pos (first_time s.rows))) (first_place (fresh_at e j) (after_number b.0)) (after_number b.0)
              c (after_number up.0)) (sym (stretches_first on.fresh (after_number up.0))) places.reads))

          moved_same : pos (first_time s.rows) ≤ℤ b.0 → Same (read_upto e j) (read_upto e' j)
          moved_same h =
              subst (λ o. Same (first_place (fresh_at e j) (place_of o)) (read_upto e' j)) (sym number)
              (subst (λ o. Same (first_place (fresh_at e j) (after_number b.0)) (first_place (fresh_at e' j) (place_of o))) (sym number_new)
              (subst (λ c. Same (first_place (fresh_at e j) (after_number b.0)) c) (sym (stretches_first on.fresh (after_number up.0))) (places.same h)))

          moved_first : pos (first_time s.rows) ≤ℤ b.0 → (v : Verdict) → slice_get (fresh_at e' j) 0 ≡ Some v
              → EndsLater (fresh_at e j) v ⊎ Before (front_place e j) (ends (interval v.on))
          moved_first h v x =
              let y = stretches_end on.fresh v x in
              subst (λ o. EndsLater (fresh_at e j) v ⊎ Before (place_of o) (ends (interval v.on))) (sym number)
              (elim (places.first h y.0 y.1) [
                | inl z ↦ inl (y.0, z, y.2)
                | inr z ↦ inr (before_at_most (after_number b.0) (ends (interval y.0.on)) (ends (interval v.on)) z y.2)
              ])

      module _ (low : pos (first_time s.rows) ≤ℤ g) (ins : (left : Bool) (j : ℕ) → IsReader n left j → InputOn s s' e e' j) where
        -- an input that its reader does not look back at stands at least at the start
        above : (left : Bool) (j : ℕ) (r : IsReader n left j) → (k : ℤ) → reach_back n left ≡ k → pos 0 ≤ℤ k
            → g ≤ℤ (input_of left j r (ins left j r)).f
        above left j r k e h = by_case (input_of left j r (ins left j r)).behind
          where
            by_case : ((g +ℤ reach_back n left) ≤ℤ (input_of left j r (ins left j r)).f) ⊎ (g ≤ℤ (input_of left j r (ins left j r)).f)
                → g ≤ℤ (input_of left j r (ins left j r)).f
            by_case (inl x) = let y : (g +ℤ k) ≤ℤ (input_of left j r (ins left j r)).f = subst (λ z. (g +ℤ z) ≤ℤ (input_of left j r (ins left j r)).f) e x in
                omega (arith, ints)
            by_case (inr x) = x

        start_on : start (trace_of header s') ≡ start (trace_of header s)
        start_on = start_same i g here front

        -- where an input was read no further than its reader is answered, so it is still
        behind_on : (left : Bool) (j : ℕ) (r : IsReader n left j) → reach_back n left ≡ pos 0 → AtMost (read_upto e j) (after_number g)
            → AtMost (read_upto e' j) (after_number g)
        behind_on left j r z h t u =
            let up = above left j r (pos 0) z (omega (arith, ints)) in
            h t (upto_same (read_upto e' j) (read_upto e j) t
            (same_places ((input_of left j r (ins left j r)).same (let l = low in omega (arith, ints)))) u)

        by_window : (w : Window) (left : Bool) → IsReader n left w.of → (reach : Place)
            → Knows w.seeks (Counted w.seeks (subformula nodes w.of) (trace_of header s)) (low_place w) (high_place w) (after_number g) reach
            (read_upto e w.of) (front_place e w.of)
            → Knows w.seeks (Counted w.seeks (subformula nodes w.of) (trace_of header s')) (low_place w) (high_place w) (after_number g) reach
            (read_upto e' w.of) (front_place e' w.of)
        by_window w left r reach k =
            let y = input_of left w.of r (ins left w.of r) in
            knows_on w.seeks (subformula nodes w.of) (trace_of header s) (trace_of header s') (low_place w) (high_place w) (after_number g) reach
            start_on y.reads (y.counted w.seeks) k

        by_until : (p q a b : ℕ) → n ≡ Until p q a b → (reach run : Place)
            → KnowsBy (kind_of (Until p q a b)) nodes (trace_of header s) e (after_number g) reach run
            → KnowsBy (kind_of (Until p q a b)) nodes (trace_of header s') e' (after_number g) reach run
        by_until p q a b x reach run k =
            until_on (subformula nodes p) (subformula nodes q) (trace_of header s) (trace_of header s')
            (record { window = ahead p a b true true true; right = q }) (after_number g) reach
            (yp.same (let l = low in let h = above_p in omega (arith, ints))) (yq.same (let l = low in let h = above_q in omega (arith, ints)))
            (place_most (least (number_at e p) (number_at e q)) (least (number_at e' p) (number_at e' q)) m.0 m'.0 least_is m'.1 m'.2)
            (λ t z. le_trans (le_whole low) (le_of_lt z))
            (λ u z y. yp.agree u z (stop_left u y)) (λ u y. yq.counted true u (stop_right u y))
            (λ v z. by_first v (yp.first (let l = low in let h = above_p in omega (arith, ints)) v z)) k
          where
            rp : IsReader n true p
            rp = subst (λ n. IsReader n true p) (sym x) refl

            rq : IsReader n false q
            rq = subst (λ n. IsReader n false q) (sym x) refl

            yp : Input s s' e e' g (reach_back n true) p
            yp = input_of true p rp (ins true p rp)

            yq : Input s s' e e' g (reach_back n false) q
            yq = input_of false q rq (ins false q rq)

            above_p : g ≤ℤ yp.f
            above_p = above true p rp (pos 0) (ap (λ n. reach_back n true) x) (omega (arith, ints))

            above_q : g ≤ℤ yq.f
            above_q = above false q rq (pos a) (ap (λ n. reach_back n false) x) (omega (arith, ints))

            m : (m : ℤ) × (least (Some yp.f) (Some yq.f) ≡ Some m) × ((m ≡ yp.f) ⊎ (m ≡ yq.f))
            m = least_of yp.f yq.f

            least_is : least (number_at e p) (number_at e q) ≡ Some m.0
            least_is = ap (λ o. least o (number_at e q)) yp.number ∙ ap (λ o. least (Some yp.f) o) yq.number ∙ m.1

            rises : (o : Front) (h h' : ℤ) → o ≡ Some h → (o' : Front) → o' ≡ Some h' → h ≤ℤ h' → NeverLess o o'
            rises o h h' z o' z' l f y = let w : h ≡ f = same_Some h f (sym z ∙ y) in (h', z', omega (arith, ints))

            m' : (m' : ℤ) × (least (number_at e' p) (number_at e' q) ≡ Some m') × (m.0 ≤ℤ m')
            m' = least_rises (number_at e p) (number_at e q) (number_at e' p) (number_at e' q)
                (rises (number_at e p) yp.f yp.f' yp.number (number_at e' p) yp.number_new yp.up)
                (rises (number_at e q) yq.f yq.f' yq.number (number_at e' q) yq.number_new yq.up) m.0 least_is

            lower : (h k : ℤ) × (number_at e p ≡ Some h) × (number_at e q ≡ Some k) × (m.0 ≤ℤ h) × (m.0 ≤ℤ k)
            lower = lesser (number_at e p) (number_at e q) m.0 least_is

            stop_left : AtMost (place_of (least (number_at e p) (number_at e q))) (front_place e p)
            stop_left = place_most (least (number_at e p) (number_at e q)) (number_at e p) m.0 lower.0 least_is lower.2 lower.4

            stop_right : AtMost (place_of (least (number_at e p) (number_at e q))) (front_place e q)
            stop_right = place_most (least (number_at e p) (number_at e q)) (number_at e q) m.0 lower.1 least_is lower.3 lower.5

            by_first : (v : Verdict) → EndsLater (fresh_at e p) v ⊎ Before (front_place e p) (ends (interval v.on))
                → EndsLater (fresh_at e p) v ⊎ Before (place_of (least (number_at e p) (number_at e q))) (ends (interval v.on))
            by_first v (inl z) = inl z
            by_first v (inr z) =
                inr (before_of_at_most (place_of (least (number_at e p) (number_at e q))) (front_place e p) (ends (interval v.on)) stop_left z)

        by_since : (p q a : ℕ) (b : Option ℕ) → n ≡ Since p q a b → (reach run : Place)
            → KnowsBy (kind_of (Since p q a b)) nodes (trace_of header s) e (after_number g) reach run
            → KnowsBy (kind_of (Since p q a b)) nodes (trace_of header s') e' (after_number g) reach run
        by_since p q a b x reach run k =
            since_on (subformula nodes p) (subformula nodes q) (trace_of header s) (trace_of header s')
            (record { window = behind p a b true true true; right = q }) (after_number g) run reach
            start_on (yp.same (let l = low in let h = over in omega (arith, ints)))
            (place_most (number_at e p) (number_at e' p) yp.f yp.f' yp.number yp.number_new yp.up) short yq.reads yp.agree (yq.counted true)
            (λ v z. by_first v (yp.first (let l = low in let h = over in omega (arith, ints)) v z)) k
          where
            rp : IsReader n true p
            rp = subst (λ n. IsReader n true p) (sym x) refl

            rq : IsReader n false q
            rq = subst (λ n. IsReader n false q) (sym x) refl

            yp : Input s s' e e' g (reach_back n true) p
            yp = input_of true p rp (ins true p rp)

            yq : Input s s' e e' g (reach_back n false) q
            yq = input_of false q rq (ins false q rq)

            over : g ≤ℤ yp.f
            over =
                let w = since_left_behind nodes header order s sound i p q a b here (subst (λ n. slice_get nodes i ≡ Some n) x at) g front in
                let z : w.0 ≡ yp.f = same_Some w.0 yp.f (sym w.1 ∙ yp.front) in
                (let l = w.2 in omega (arith, ints))

            short : AtMost (after_number g) (front_place e p)
            short = place_most (Some g) (number_at e p) g yp.f refl yp.number over

            by_first : (v : Verdict) → EndsLater (fresh_at e p) v ⊎ Before (front_place e p) (ends (interval v.on))
                → EndsLater (fresh_at e p) v ⊎ Before (after_number g) (ends (interval v.on))
            by_first v (inl z) = inl z
            by_first v (inr z) = inr (before_of_at_most (after_number g) (front_place e p) (ends (interval v.on)) short z)

        -- what the operator keeps in mind is so after the event too
        knows_by : (m : Node) → n ≡ m → (reach run : Place) → KnowsBy (kind_of m) nodes (trace_of header s) e (after_number g) reach run
            → KnowsBy (kind_of m) nodes (trace_of header s') e' (after_number g) reach run
        knows_by (Const b) x reach run k = tt
        knows_by (Leaf a) x reach run k = tt
        knows_by (Not p) x reach run k =
            behind_on true p (subst (λ n. IsReader n true p) (sym x) refl) (ap (λ n. reach_back n true) x) k
        knows_by (And p q) x reach run k = (
          behind_on true p (subst (λ n. IsReader n true p) (sym x) refl) (ap (λ n. reach_back n true) x) k.0,
          behind_on false q (subst (λ n. IsReader n false q) (sym x) refl) (ap (λ n. reach_back n false) x) k.1,
        )
        knows_by (Or p q) x reach run k = (
          behind_on true p (subst (λ n. IsReader n true p) (sym x) refl) (ap (λ n. reach_back n true) x) k.0,
          behind_on false q (subst (λ n. IsReader n false q) (sym x) refl) (ap (λ n. reach_back n false) x) k.1,
        )
        knows_by (Implies p q) x reach run k = (
          behind_on true p (subst (λ n. IsReader n true p) (sym x) refl) (ap (λ n. reach_back n true) x) k.0,
          behind_on false q (subst (λ n. IsReader n false q) (sym x) refl) (ap (λ n. reach_back n false) x) k.1,
        )
        knows_by (Until p q a b) x reach run k = by_until p q a b x reach run k
        knows_by (Eventually p a b a_in b_in) x reach run k =
            by_window (ahead p a b a_in b_in true) true (subst (λ n. IsReader n true p) (sym x) refl) reach k
        knows_by (Always p a b a_in b_in) x reach run k =
            by_window (ahead p a b a_in b_in false) true (subst (λ n. IsReader n true p) (sym x) refl) reach k
        knows_by (Since p q a b) x reach run k = by_since p q a b x reach run k
        knows_by (Once p a b a_in b_in) x reach run k =
            by_window (behind p a b a_in b_in true) true (subst (λ n. IsReader n true p) (sym x) refl) reach k
        knows_by (Historically p a b a_in b_in) x reach run k =
            by_window (behind p a b a_in b_in false) true (subst (λ n. IsReader n true p) (sym x) refl) reach k

    -- the operator of a node that stays stands for its steps after the event too, where its inputs got what they gave out
    pub stands_on : (op : Operator) (e e' : Held) (st : StandsForSteps nodes header events op e) → s'.fronts op.node ≡ s.fronts op.node
        → ((left : Bool) (j : ℕ) → IsReader st.node left j → InputOn s s' e e' j) → StandsForSteps nodes header (events ++ ev ∷ []) op e'
    stands_on op e e' st stays ins = record {
      node = st.node;
      at = st.at;
      no_atom = st.no_atom;
      kind = st.kind;
      front = ap (λ t. shown t op.node) (after_one nodes header formed events ev)
          ∙ sym (shown_stays nodes header formed s ev sound op.node (slice_get_within nodes op.node st.node st.at) stays) ∙ st.front;
      unread = λ x j left r. (ins left j r).seen ∙ st.unread x j left r;
      knows = subst (λ t. IfSome op.front (λ f. KnowsBy op.kind nodes (trace_of header t) e' (record { at = whole (pos f); after = true })
          (place op.reach) (place op.run))) (sym (after_one nodes header formed events ev))
          (subst (λ k. IfSome op.front (λ f. KnowsBy k nodes (trace_of header s') e' (record { at = whole (pos f); after = true })
          (place op.reach) (place op.run))) (sym st.kind) (by_front op.front refl
          (subst (λ k. IfSome op.front (λ f. KnowsBy k nodes (trace_of header s) e (record { at = whole (pos f); after = true })
          (place op.reach) (place op.run))) st.kind st.knows)));
    }
      where
        by_front : (o : Option ℕ) → op.front ≡ o
            → IfSome o
            (λ f. KnowsBy (kind_of st.node) nodes (trace_of header s) e (record { at = whole (pos f); after = true }) (place op.reach) (place op.run))
            → IfSome o
            (λ f. KnowsBy (kind_of st.node) nodes (trace_of header s') e' (record { at = whole (pos f); after = true }) (place op.reach) (place op.run))
        by_front None x k = k
        by_front (Some f) x k =
            let was = shown_is nodes header order s op.node (pos f) (st.front ∙ ap (option_map pos) x) in
            knows_by op.node st.node st.at (pos f) was.0 e e' was.1 ins st.node refl (place op.reach) (place op.run) k

-- what holds of each of some verdicts holds of those that meet a stretch, and of those behind others
each_meeting : (P : Verdict → Type 0) (stretch : Interval) (vs held : List Verdict) → AreMeeting stretch vs held → Each P vs → Each P held
each_meeting P stretch [] held m h = subst (λ l. Each P l) (sym m) tt
each_meeting P stretch (v ∷ vs) held (inl (x, (more, rest, e))) h = subst (λ l. Each P l) (sym e) (h.0, each_meeting P stretch vs more rest h.1)
each_meeting P stretch (v ∷ vs) held (inr (d, rest)) h = each_meeting P stretch vs held rest h.1

each_behind : (P : Verdict → Type 0) (xs ys : List Verdict) → Each P (xs ++ ys) → Each P ys
each_behind P [] ys h = h
each_behind P (x ∷ xs) ys h = each_behind P xs ys h.1

-- each tile begins before the place to which they lead
each_begins : (c : Place) (vs : List Verdict) (d : Place) → AreTiles c vs d → Each (λ v. AtMost (begins (interval v.on)) d) vs
each_begins c [] d t = tt
each_begins c (v ∷ vs) d (s, b, rest) = (
  (λ t u. tiled_upto (ends (interval v.on)) vs d rest t (upto_of_before (begins (interval v.on)) (ends (interval v.on)) t b u)),
  each_begins (ends (interval v.on)) vs d rest,
)

module _ (nodes : List Node) (header : Header) (formed : AreWellFormed nodes) (events : List Event) (run : IsRun nodes header events) where
  -- nothing is held of a node that is not shown
  pub edge_unshown : {joins : Bool} (j : ℕ) (held : List Verdict) → IsJoinedEdge nodes header events joins j held
      → shown (state nodes events) j ≡ None → held ≡ []
  edge_unshown j held edge x = subst (λ o. AreNeeded (first_time (state nodes events).rows) o ((state nodes events).fronts edge.reader)
      (reach_back edge.reading edge.left) edge.stretches held) x edge.is_needed

  -- what is held of a node begins before its front
  pub edge_within : {joins : Bool} (j : ℕ) → j < length nodes → (seen fresh : List Verdict)
      → IsJoinedEdge nodes header events joins j (seen ++ fresh) → (f : ℤ)
      → (state nodes events).fronts j ≡ Some f → AtMost (first_place fresh (after_number f)) (after_number f)
  edge_within {joins} j l seen fresh edge f front = by_fresh fresh all
    where
      s : State
      s = state nodes events

      by_needed : (o : Front) → shown s j ≡ o → IsWhole (first_time s.rows) o edge.stretches
          → AreNeeded (first_time s.rows) o (s.fronts edge.reader) (reach_back edge.reading edge.left) edge.stretches (seen ++ fresh)
          → Each (λ v. AtMost (begins (interval v.on)) (after_number f)) (seen ++ fresh)
      by_needed None x w h = subst (λ k. Each (λ v. AtMost (begins (interval v.on)) (after_number f)) k) (sym h) tt
      by_needed (Some g) x w h =
          let was = shown_is nodes header formed.post_order s j g x in
          let same : g ≡ f = same_Some g f (sym was.0 ∙ front) in
          each_meeting (λ v. AtMost (begins (interval v.on)) (after_number f))
          (needed (first_time s.rows) g (s.fronts edge.reader) (reach_back edge.reading edge.left)) edge.stretches (seen ++ fresh) h
          (subst (λ k. Each (λ v. AtMost (begins (interval v.on)) (after_number k)) edge.stretches) same
          (each_begins (answered_to (first_time s.rows) None) edge.stretches (answered_to (first_time s.rows) (Some g)) w))

      all : Each (λ v. AtMost (begins (interval v.on)) (after_number f)) (seen ++ fresh)
      all = by_needed (shown s j) refl (stretches_whole (stand_stretches joins edge.stand) (first_time s.rows) (shown s j)
          (emitted_tiles nodes header formed.post_order events run j l edge.emitted edge.is_emitted)) edge.is_needed

      by_fresh : (fresh : List Verdict) → Each (λ v. AtMost (begins (interval v.on)) (after_number f)) (seen ++ fresh)
          → AtMost (first_place fresh (after_number f)) (after_number f)
      by_fresh [] h = λ t u. u
      by_fresh (v ∷ fresh) h = (each_behind (λ v. AtMost (begins (interval v.on)) (after_number f)) seen (v ∷ fresh) h).0
