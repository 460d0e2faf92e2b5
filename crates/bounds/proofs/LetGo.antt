-- What an edge holds after an event is of what it held and got: its reader's stretch begins no earlier than before.
use Rattle.std.proofs.Common.{◌≡◌, refl, sym, ap, subst, ◌∙◌, ℕ, ◌+◌, ◌<◌, ◌≤◌, Bool, true, false, cond, Some, None, List, [], ◌∷◌, ◌++◌}
use Rattle.std.proofs.Common.{length, ℤ, pos, ◌+ℤ◌, ◌≤ℤ◌, arith, inl, inr}
use Rattle.std.specs.Prelude.{int_lt, slice_get}
use Rattle.std.proofs.lemmas.Int.{ints}
use Rattle.std.proofs.lemmas.List.{append-nil}
use Rattle.std.proofs.lemmas.Option.{same_Some, slice_get_within}
use Rattle.rational.specs.Time.{Rational, ◌≤ʳ◌, ◌<ʳ◌, whole, Interval, IsIn, BeginAlike, EndAlike, Precedes, closed as closed_at, left_open}
use Rattle.rational.specs.Places.{Place, ends, Upto}
use Rattle.rational.proofs.Order.{le_of_lt, le_of_same, ge_of_same, lt_of_le_of_lt}
use Rattle.rational.proofs.Shift.{le_whole}
use Rattle.rational.proofs.Tests.{int_order}
use Rattle.rational.proofs.TimeLemmas.{precedes_after, precedes_before}
use Rattle.frac128.specs.Spans.{interval}
use Rattle.stl_syntax.specs.Trace.{Header, first_time}
use Rattle.stl_syntax.specs.PostOrder.{IsPostOrder}
use Rattle.stl_syntax.specs.Verdicts.{AreAlike}
use Rattle.stl_syntax.specs.declared.items.Verdict.{Verdict}
use Rattle.stl_syntax.specs.declared.node.Node.{Node}
use Rattle.stl_syntax.proofs.VerdictsLaw.{alike_length}
use Rattle.online_nodes.specs.Network.{Event, Front, State, after_event, initial, state, state_from, shown, needed, reach_back}
use Rattle.online_nodes.specs.Network.{IsRun, IsRunFrom, MayCome, Emitted, EmittedAt}
use Rattle.online_nodes.specs.Needed.{AreMeeting, AreNeeded, IsEdge, IsReader}
use Rattle.online_nodes.specs.Laws.{AreTiles, IsWhole, NeverLess, answered_to}
use Rattle.online_nodes.proofs.FrameLaw.{one_more}
use Rattle.online_nodes.proofs.HeldLaw.{tiled_inside}
use Rattle.online_nodes.proofs.MeetingLaw.{Each}
use Rattle.online_nodes.proofs.ReaderLemmas.{one_reader, one_side}
use Rattle.online_nodes.proofs.RisingLaw.{IsSound, event_later, run_before, sound_of}
use Rattle.online_nodes.proofs.RunLaw.{none_is_none}
use Rattle.online_nodes.proofs.StayLaw.{first_same, shown_is}
use Rattle.online_nodes.proofs.EmittedLaw.{emitted_alike, emitted_last, emitted_tiles}
use Rattle.online_nodes.proofs.ToldSoFar.{in_upto}
use Rattle.bounds.specs.Books.{EdgesLetGo}

in_alike : (a b : Interval) (t : Rational) → BeginAlike a b → EndAlike a b → IsIn a t → IsIn b t
in_alike a b t begin end h = record {
  above = subst (λ x. Precedes x b.from t) begin.inside (precedes_after a.from_in b.from a.from t (ge_of_same begin.time) h.above);
  below = subst (λ x. Precedes x t b.to) end.inside (precedes_before a.to_in t a.to b.to h.below (le_of_same end.time));
}

-- what of alike lists meets the stretch a is no more than what meets b, where each time of them that lies in a lies in b
no_more_meet : (a b : Interval) (vs ws held other : List Verdict) → AreAlike vs ws
    → Each (λ v. (t : Rational) → IsIn (interval v.on) t → IsIn a t → IsIn b t) vs → AreMeeting a vs held → AreMeeting b ws other
    → length held ≤ length other
no_more_meet a b [] [] held other same each h k = let e = ap length h in omega (arith, e)
no_more_meet a b [] (w ∷ ws) held other same each h k = absurd same
no_more_meet a b (v ∷ vs) [] held other same each h k = absurd same
no_more_meet a b (v ∷ vs) (w ∷ ws) held other same each (inl (m, (more, rest, e))) (inl (n, (others, left, f))) =
    let g = no_more_meet a b vs ws more others same.3 each.1 rest left in
    let x = ap length e in
    let y = ap length f in
    omega (arith, g, x, y)
no_more_meet a b (v ∷ vs) (w ∷ ws) held other same each (inl (m, (more, rest, e))) (inr (apart, left)) =
    absurd (apart (m.0, each.0 m.0 m.2 m.1, in_alike (interval v.on) (interval w.on) m.0 same.0 same.1 m.2))
no_more_meet a b (v ∷ vs) (w ∷ ws) held other same each (inr (apart, rest)) (inl (n, (others, left, f))) =
    let g = no_more_meet a b vs ws held others same.3 each.1 rest left in
    let y = ap length f in
    omega (arith, g, y)
no_more_meet a b (v ∷ vs) (w ∷ ws) held other same each (inr (apart, rest)) (inr (apart', left)) =
    no_more_meet a b vs ws held other same.3 each.1 rest left

-- what meets a stretch is no more than there is
few_meet : (a : Interval) (vs held : List Verdict) → AreMeeting a vs held → length held ≤ length vs
few_meet a [] held h = let e = ap length h in omega (arith, e)
few_meet a (v ∷ vs) held (inl (m, (more, rest, e))) = let g = few_meet a vs more rest in let x = ap length e in omega (arith, g, x)
few_meet a (v ∷ vs) held (inr (apart, rest)) = let g = few_meet a vs held rest in omega (arith, g)

-- of two lists together those that meet a stretch are those of the first, and of the second no more than there are
record IsSplit (a : Interval) (vs here held : List Verdict) : Type 0 where
  first : List Verdict
  meets : AreMeeting a vs first
  count : length held ≤ length first + length here

split_meeting : (a : Interval) (vs here held : List Verdict) → AreMeeting a (vs ++ here) held → IsSplit a vs here held
split_meeting a [] here held h = record { first = []; meets = refl; count = let z = few_meet a here held h in omega (arith, z) }
split_meeting a (v ∷ vs) here held (inl (m, (more, rest, e))) =
    let s = split_meeting a vs here more rest in record {
      first = v ∷ s.first;
      meets = inl (m, (s.first, s.meets, refl));
      count = let g = s.count in let x = ap length e in omega (arith, g, x);
    }
split_meeting a (v ∷ vs) here held (inr (apart, rest)) =
    let s = split_meeting a vs here held rest in record { first = s.first; meets = inr (apart, s.meets); count = s.count }

-- what lies in the stretch that a reader still needs
record IsAbove (start : ℕ) (o : Front) (k : ℤ) (t : Rational) : Type 0 where
  begun : whole (pos start) ≤ʳ t
  after : (g : ℤ) → o ≡ Some g → pos start ≤ℤ g → pos start ≤ℤ (g +ℤ k) → whole (g +ℤ k) <ʳ t

above_of : (start : ℕ) (f : ℤ) (o : Front) (k : ℤ) (t : Rational) → IsIn (needed start f o k) t → IsAbove start o k t
above_of start f None k t h = record { begun = h.above; after = λ g e. absurd (none_is_none g e) }
above_of start f (Some g) k t h = by_low (int_lt g (pos start)) refl h
  where
    high : (u : Bool) → int_lt (g +ℤ k) (pos start) ≡ u
        → IsIn (cond u (closed_at (whole (pos start)) (whole f)) (left_open (whole (g +ℤ k)) (whole f))) t → IsAbove start (Some g) k t
    high true y h = record {
      begun = h.above;
      after = λ z e low late.
          absurd (let same = same_Some g z e in let x = int_order (g +ℤ k) (pos start) true y in omega (arith, ints));
    }
    high false y h = record {
      begun = le_of_lt (lt_of_le_of_lt (le_whole (int_order (g +ℤ k) (pos start) false y)) h.above);
      after = λ z e low late. subst (λ x. whole (x +ℤ k) <ʳ t) (same_Some g z e) h.above;
    }

    by_low : (u : Bool) → int_lt g (pos start) ≡ u
        → IsIn (cond u (closed_at (whole (pos start)) (whole f))
        (cond (int_lt (g +ℤ k) (pos start)) (closed_at (whole (pos start)) (whole f)) (left_open (whole (g +ℤ k)) (whole f)))) t
        → IsAbove start (Some g) k t
    by_low true x h = record {
      begun = h.above;
      after = λ z e low late. absurd (let same = same_Some g z e in let y = int_order g (pos start) true x in omega (arith, ints));
    }
    by_low false x h = high (int_lt (g +ℤ k) (pos start)) refl h

needed_of : (start : ℕ) (f : ℤ) (o : Front) (k : ℤ) (t : Rational) → t ≤ʳ whole f → IsAbove start o k t → IsIn (needed start f o k) t
needed_of start f None k t up h = record { above = h.begun; below = up }
needed_of start f (Some g) k t up h = by_low (int_lt g (pos start)) refl
  where
    high : (u : Bool) → int_lt (g +ℤ k) (pos start) ≡ u → pos start ≤ℤ g
        → IsIn (cond u (closed_at (whole (pos start)) (whole f)) (left_open (whole (g +ℤ k)) (whole f))) t
    high true y low = record { above = h.begun; below = up }
    high false y low = record { above = h.after g refl low (int_order (g +ℤ k) (pos start) false y); below = up }

    by_low : (u : Bool) → int_lt g (pos start) ≡ u
        → IsIn (cond u (closed_at (whole (pos start)) (whole f))
        (cond (int_lt (g +ℤ k) (pos start)) (closed_at (whole (pos start)) (whole f)) (left_open (whole (g +ℤ k)) (whole f)))) t
    by_low true x = record { above = h.begun; below = up }
    by_low false x = high (int_lt (g +ℤ k) (pos start)) refl (int_order g (pos start) false x)

-- a reader that went on needs nothing that it did not need before
needed_before : (start : ℕ) (f f' : ℤ) (o o' : Front) (k : ℤ) (t : Rational) → NeverLess o o' → t ≤ʳ whole f → IsIn (needed start f' o' k) t
    → IsIn (needed start f o k) t
needed_before start f f' o o' k t rise up h =
    let a = above_of start f' o' k t h in
    needed_of start f o k t up (record {
      begun = a.begun;
      after = λ g e low late.
          let r = rise g e in
          let le = r.2 in
          lt_of_le_of_lt (le_whole (omega (arith, ints))) (a.after r.0 r.1 (omega (arith, ints)) (omega (arith, ints)));
    })

-- each of the tiles lies by the time up to which they lead, and so it is needed
each_needed : (start : ℕ) (f f' : ℤ) (o o' : Front) (k : ℤ) (c d : Place) (vs : List Verdict) → NeverLess o o' → AreTiles c vs d
    → ((t : Rational) → Upto d t → t ≤ʳ whole f)
    → Each (λ v. (t : Rational) → IsIn (interval v.on) t → IsIn (needed start f' o' k) t → IsIn (needed start f o k) t) vs
each_needed start f f' o o' k c d [] rise tiles by = tt
each_needed start f f' o o' k c d (v ∷ vs) rise tiles by = (
  λ t i h.
      needed_before start f f' o o' k t rise (tiled_inside (ends (interval v.on)) vs d (whole f) tiles.2 by t (in_upto (interval v.on) t i)) h,
  each_needed start f f' o o' k (ends (interval v.on)) d vs rise tiles.2 by,
)

-- what a reader needs of a node whose front was not shown before the event
from_none : (start : ℕ) (new o : Front) (k : ℤ) (vs here after : List Verdict) → vs ≡ [] → AreNeeded start new o k (vs ++ here) after
    → length after ≤ length here
from_none start None o k vs here after none n = let e = ap length n in omega (arith, e)
from_none start (Some f) o k vs here after none n =
    let s = split_meeting (needed start f o k) vs here after n in
    let c = s.count in
    let z = few_meet (needed start f o k) vs s.first s.meets in
    let e = ap length none in
    omega (arith, c, z, e)

-- and of one whose front was
from_some : (start : ℕ) (f : ℤ) (new o o' : Front) (k : ℤ) (vs ws here held after : List Verdict) → NeverLess o o' → AreAlike vs ws
    → AreTiles (answered_to start None) vs (answered_to start (Some f)) → AreNeeded start (Some f) o k ws held
    → AreNeeded start new o' k (vs ++ here) after → length after ≤ length held + length here
from_some start f None o o' k vs ws here held after rise same tiles h n = let e = ap length n in omega (arith, e)
from_some start f (Some f') o o' k vs ws here held after rise same tiles h n =
    let s = split_meeting (needed start f' o' k) vs here after n in
    let c = s.count in
    let z = no_more_meet (needed start f' o' k) (needed start f o k) vs ws s.first held same
    (each_needed start f f' o o' k (answered_to start None) (answered_to start (Some f)) vs rise tiles (λ t u. u)) s.meets h in
    omega (arith, c, z)

-- one node stands at a place
one_node : (nodes : List Node) (r r' : ℕ) (n n' : Node) → slice_get nodes r ≡ Some n → slice_get nodes r' ≡ Some n' → r ≡ r' → n' ≡ n
one_node nodes r r' n n' at at' e = by_some n' n (sym at' ∙ ap (slice_get nodes) (sym e) ∙ at)
  where
    by_some : (a b : Node) → Some a ≡ Some b → a ≡ b
    by_some a b x = cc

module _ (nodes : List Node) (header : Header) (order : IsPostOrder nodes) where
  -- by what the reader needs before the event and after it
  by_needs : (events : List Event) (e : Event) → IsRun nodes header (events ++ e ∷ []) → (i : ℕ) → i < length nodes → (r : ℕ) → r < length nodes
      → (k : ℤ) (all first more here held after : List Verdict) → Emitted nodes header events i all → Emitted nodes header events i first
      → length more ≡ length here
      → AreNeeded (first_time (state_from nodes initial events).rows) (shown (state_from nodes initial events) i)
      ((state_from nodes initial events).fronts r) k all held
      → AreNeeded (first_time (after_event nodes (state_from nodes initial events) e).rows)
      (shown (after_event nodes (state_from nodes initial events) e) i)
      ((after_event nodes (state_from nodes initial events) e).fronts r) k (first ++ more) after
      → length after ≤ length held + length here
  unfolding state
  by_needs events e run i l r in_r k all first more here held after given given_first both old new = by_front (shown s i) refl
    where
      s : State
      s = state_from nodes initial events

      s' : State
      s' = after_event nodes s e

      was : IsRunFrom nodes header initial events × MayCome nodes header s e
      was = run_before nodes header order initial events e run

      sound : IsSound nodes header order s
      sound = sound_of nodes header order events was.0

      tiles : IsWhole (first_time s.rows) (shown s i) first
      tiles = emitted_tiles nodes header order events was.0 i l first given_first

      rise : NeverLess (s.fronts r) (s'.fronts r)
      rise = (event_later nodes header order s e was.1 sound.atoms sound.rising).fronts r in_r

      by_front : (o : Front) → shown s i ≡ o → length after ≤ length held + length here
      by_front None is =
          let none = subst (λ o. IsWhole (first_time s.rows) o first) is tiles in
          let x = from_none (first_time s'.rows) (shown s' i) (s'.fronts r) k first more after none new in
          omega (arith, x, both)
      by_front (Some f) is =
          let b = sound.bounded i f l (shown_is nodes header order s i f is).0 in
          let begin : first_time s'.rows ≡ first_time s.rows = first_same nodes header order s e b.last b.is_last in
          let led = subst (λ o. IsWhole (first_time s.rows) o first) is tiles in
          let needs = subst (λ o. AreNeeded (first_time s.rows) o (s.fronts r) k all held) is old in
          let x = from_some (first_time s.rows) f (shown s' i) (s.fronts r) (s'.fronts r) k first all more held after rise
          (emitted_alike nodes header i initial events first all given_first given) led needs
          (subst (λ z. AreNeeded z (shown s' i) (s'.fronts r) k (first ++ more) after) begin new) in
          omega (arith, x, both)

  -- an edge after one event more
  let_go : (events : List Event) (e : Event) → IsRun nodes header (events ++ e ∷ []) → (i : ℕ) → i < length nodes → (held here after : List Verdict)
      → IsEdge nodes header events i held
      → EmittedAt nodes header i (state nodes events) (state nodes (events ++ e ∷ [])) here → IsEdge nodes header (events ++ e ∷ []) i after
      → length after ≤ length held + length here
  unfolding state
  let_go events e run i l held here after edge given edge' =
      by_needs events e run i l edge.reader (slice_get_within nodes edge.reader edge.reading edge.at_reader) (reach_back edge.reading edge.left)
      edge.emitted parts.0 parts.1 here held after edge.is_emitted parts.2 both edge.is_needed by_reader
    where
      s : State
      s = state_from nodes initial events

      s' : State
      s' = after_event nodes s e

      next : state_from nodes initial (events ++ e ∷ []) ≡ s'
      next = one_more nodes header initial events e

      parts : (before last : List Verdict) × Emitted nodes header events i before × EmittedAt nodes header i s s' last × (edge'.emitted ≡ before ++ last)
      parts = emitted_last nodes header i events e edge'.emitted edge'.is_emitted

      both : length parts.1 ≡ length here
      both =
          alike_length parts.1 here
          (emitted_alike nodes header i s (e ∷ []) parts.1 here (parts.1, [], parts.3, refl, sym (append-nil parts.1))
          (here, [], subst (λ (x : State). EmittedAt nodes header i s x here) next given, refl, sym (append-nil here)))

      same_reader : edge.reader ≡ edge'.reader
      same_reader =
          one_reader nodes order edge.reader edge'.reader edge.reading edge'.reading edge.left edge'.left i edge.at_reader edge'.at_reader edge.reads
          edge'.reads

      same_node : edge'.reading ≡ edge.reading
      same_node = one_node nodes edge.reader edge'.reader edge.reading edge'.reading edge.at_reader edge'.at_reader same_reader

      same_side : edge'.left ≡ edge.left
      same_side =
          one_side nodes order edge.reader edge.reading edge'.left edge.left i edge.at_reader
          (subst (λ n. IsReader n edge'.left i) same_node edge'.reads) edge.reads

      Needs : ℕ → Node → Bool → List Verdict → Type 0
      Needs r n left given = AreNeeded (first_time s'.rows) (shown s' i) (s'.fronts r) (reach_back n left) given after

      as_shown : Needs edge'.reader edge'.reading edge'.left edge'.emitted
      as_shown =
          subst (λ (x : State). AreNeeded (first_time x.rows) (shown x i) (x.fronts edge'.reader) (reach_back edge'.reading edge'.left) edge'.emitted after)
          next edge'.is_needed

      by_side : Needs edge'.reader edge'.reading edge.left (parts.0 ++ parts.1)
      by_side = subst (λ b. Needs edge'.reader edge'.reading b (parts.0 ++ parts.1)) same_side
          (subst (λ m. Needs edge'.reader edge'.reading edge'.left m) parts.4 as_shown)

      by_reader : Needs edge.reader edge.reading edge.left (parts.0 ++ parts.1)
      by_reader = subst (λ r. Needs r edge.reading edge.left (parts.0 ++ parts.1)) (sym same_reader)
          (subst (λ n. Needs edge'.reader n edge.left (parts.0 ++ parts.1)) same_node by_side)

pub edges_let_go : EdgesLetGo
edges_let_go nodes header order events e run i l held here after edge given edge' = let_go nodes header order events e run i l held here after edge given edge'
