-- What a node gives out in a run, in any order of its events, cut from verdicts that lead at least as far.
use Rattle.std.proofs.Common.{◌≡◌, ◌⊎◌, inl, inr, refl, sym, ap, subst, ◌∙◌, ℕ, ◌<◌, Bool, true, false, Some, None, List, [], ◌∷◌, ◌++◌, length}
use Rattle.std.proofs.Common.{ℤ, pos, negsuc, ◌≤ℤ◌, arith}
use Rattle.std.specs.Prelude.{MatchBool, int_lt}
use Rattle.std.proofs.lemmas.Int.{ints}
use Rattle.std.proofs.lemmas.Option.{same_Some}
use Rattle.rational.specs.Time.{Rational, ◌≤ʳ◌, whole, closed, left_open}
use Rattle.rational.specs.Places.{After, Before, Same}
use Rattle.rational.proofs.Order.{le_trans, le_of_lt, le_or_lt, same_of_le}
use Rattle.rational.proofs.Shift.{le_whole, lt_whole}
use Rattle.rational.proofs.Tests.{int_order}
use Rattle.stl_syntax.specs.Trace.{Header, Row, Trace, IsTrace, Continues, first_time}
use Rattle.stl_syntax.specs.Formula.{Subformula, subformula}
use Rattle.stl_syntax.specs.PostOrder.{IsPostOrder}
use Rattle.stl_syntax.specs.Verdicts.{Describes}
use Rattle.stl_syntax.specs.declared.items.Verdict.{Verdict}
use Rattle.stl_syntax.specs.declared.node.Node.{Node}
use Rattle.online_nodes.specs.Network.{Event, Front, State, last_row, shown, same_front, answered, after_event, state_from, EmittedAt, EmittedFrom, IsRunFrom}
use Rattle.online_nodes.specs.Laws.{answered_to, NeverLess}
use Rattle.online_nodes.proofs.RunLaw.{none_is_none}
use Rattle.online_nodes.proofs.RisingLaw.{IsSound, sound_after, same_is, same_of}
use Rattle.online_nodes.proofs.FrameLaw.{nothing_given}
use Rattle.online_nodes.proofs.StayLaw.{shown_is, goes_on_before, agrees, so_far, Agree}
use Rattle.online_nodes.proofs.EmittedLaw.{shown_later, none_before}
use Rattle.verdict_stream.specs.Pendings.{just_after}
use Rattle.verdict_stream.proofs.CutVerdicts.{Leads, leads_describes, leads_moves}
use Rattle.row_runs.proofs.PartedVerdicts.{parted_at}

module _ (nodes : List Node) (header : Header) (order : IsPostOrder nodes) (i : ℕ) (l : i < length nodes) (tr : Trace) (is : IsTrace tr) where
  abbrev p : Subformula
  p = subformula nodes i

  abbrev b : ℕ
  b = first_time tr.rows

  -- verdicts that lead from what a node has answered to a front; where that is none they are none
  abbrev pub LeadTo : Front → Front → List Verdict → Type 0
  LeadTo old None vs = vs ≡ []
  LeadTo old (Some f) vs = Leads p tr (answered_to b old) vs (answered_to b (Some f))

  -- what EmittedAt says, by the front that is shown
  abbrev GivesOut : State → State → List Verdict → Front → Type 0
  GivesOut old new vs None = vs ≡ []
  GivesOut old new vs (Some f) =
      MatchBool (same_front (shown old i) (Some f)) (vs ≡ [])
      (Describes vs p (record { header = header; rows = new.rows }) (answered (first_time new.rows) (shown old i) f))

  -- a front that is shown does not fall
  rises_on : (s : State) (events : List Event) → IsRunFrom nodes header s events → IsSound nodes header order s
      → NeverLess (shown s i) (shown (state_from nodes s events) i)
  rises_on s [] r h g x = (g, x, omega (arith, ints))
  rises_on s (e ∷ events) r h g x =
      let y = shown_later nodes header order s e r.0 h i l g x in
      let z = rises_on (after_event nodes s e) events r.1 (sound_after nodes header order s e r.0 h) y.0 y.1 in
      let up = y.2 in
      let on = z.2 in
      (z.0, z.1, omega (arith, ints))

  -- rows from which the trace goes on begin where it does
  starts : (s : State) (m : ℤ) → Continues tr header s.rows s.closed → last_row s ≡ Some m → first_time s.rows ≡ b
  starts s m c x = by_rows s.rows c.begins x
    where
      by_rows : (rows : List Row) → tr.rows ≡ rows ++ c.more → last_row (record { rows = rows; closed = s.closed; fronts = s.fronts }) ≡ Some m
          → first_time rows ≡ b
      by_rows [] e y = absurd (none_is_none m y)
      by_rows (r ∷ rows) e y = sym (ap first_time e)

  -- where a front is shown it lies no earlier
  pub shown_from : (s : State) (g : ℤ) → Continues tr header s.rows s.closed → IsSound nodes header order s → shown s i ≡ Some g → pos b ≤ℤ g
  shown_from s g c h x =
      let at = shown_is nodes header order s i g x in
      let bound = h.bounded i g l at.0 in
      subst (λ k. pos k ≤ℤ g) (starts s bound.last c bound.is_last) at.1

  -- what a node gives out over events
  abbrev Given : State → List Event → Type 0
  Given s events = (fine : List Verdict) × EmittedFrom nodes header i s events fine

  -- an event that moves the front to n: some of the verdicts are given out at it, and what is left leads on
  record IsMoved (t s : State) (n : ℕ) (top : Front) (vs : List Verdict) : Type 0 where
    some : List Verdict
    left : List Verdict
    given : EmittedAt nodes header i t s some
    leads : LeadTo (Some (pos n)) top left

  module _ (t s : State) (n : ℕ) (is_new : shown s i ≡ Some (pos n)) (goes : Continues tr header s.rows s.closed) (sound : IsSound nodes header order s)
      (old_from : (g : ℤ) → shown t i ≡ Some g → (pos b ≤ℤ g) × (g ≤ℤ pos n)) (moves : same_front (shown t i) (Some (pos n)) ≡ false) where
    from : pos b ≤ℤ pos n
    from = shown_from s (pos n) goes sound is_new

    begin : first_time s.rows ≡ b
    begin =
        let bound = sound.bounded i (pos n) l (shown_is nodes header order s i (pos n) is_new).0 in
        starts s bound.last goes bound.is_last

    low : (o : Front) → shown t i ≡ o → Before (answered_to b o) (just_after n)
    low None x = elim (le_or_lt (whole (pos n)) (whole (pos b))) [ inl k ↦ inr (same_of_le (le_whole from) k, refl, refl) | inr k ↦ inl k ]
    low (Some g) x = by_test (int_lt g (pos n)) refl
      where
        by_test : (u : Bool) → int_lt g (pos n) ≡ u → Before (answered_to b (Some g)) (just_after n)
        by_test true y = inl (lt_whole (int_order g (pos n) true y))
        by_test false y = absurd (
            let up = (old_from g x).1 in
            let down : pos n ≤ℤ g = int_order g (pos n) false y in
            let same : g ≡ pos n = omega (arith, ints) in
            let e = same_of (shown t i) (Some (pos n)) (x ∙ ap (λ (z : ℤ). Some z) same) in
            let f : true ≡ false = sym e ∙ moves in
            cc
            )

    after_begin : (o : Front) → shown t i ≡ o → (u : Rational) → After (answered_to b o) u → whole (pos b) ≤ʳ u
    after_begin None x u a = a
    after_begin (Some g) x u a = le_trans (le_whole (old_from g x).0) (le_of_lt a)

    agree : (u : Rational) → After (answered_to b (shown t i)) u → u ≤ʳ whole (pos n) → Agree p tr (so_far nodes header order s) u
    agree u a k =
        let bound = sound.bounded i (pos n) l (shown_is nodes header order s i (pos n) is_new).0 in
        let both = agrees nodes header order s i (pos n) tr is goes bound u
        (subst (λ m. whole (pos m) ≤ʳ u) (sym begin) (after_begin (shown t i) refl u a)) k in
        (both.1, both.0)

    described : (o : Front) → shown t i ≡ o → (some : List Verdict) → Leads p (so_far nodes header order s) (answered_to b o) some (just_after n)
        → Describes some p (so_far nodes header order s) (answered (first_time s.rows) o (pos n))
    described None x some leads =
        subst (λ m. Describes some p (so_far nodes header order s) (closed (whole (pos m)) (whole (pos n)))) (sym begin)
        (leads_describes p (so_far nodes header order s) (closed (whole (pos b)) (whole (pos n))) some leads (low None x))
    described (Some g) x some leads =
        leads_describes p (so_far nodes header order s) (left_open (whole g) (whole (pos n))) some leads (low (Some g) x)

    -- where the verdicts lead at least so far
    moved_by : (top : Front) (f : ℤ) (vs : List Verdict) → top ≡ Some f → pos n ≤ℤ f → LeadTo (shown t i) top vs → IsMoved t s n top vs
    moved_by top f vs e k leads =
        let high : Before (just_after n) (answered_to b (Some f)) ⊎ Same (just_after n) (answered_to b (Some f)) =
        elim (le_or_lt (whole f) (whole (pos n))) [ inl u ↦ inr (same_of_le (le_whole k) u, refl) | inr u ↦ inl (inl u) ] in
        let (some, left, first, rest) = parted_at p tr n (answered_to b (shown t i)) (answered_to b (Some f)) vs
        (subst (λ o. LeadTo (shown t i) o vs) e leads) (inl (low (shown t i) refl)) high in
        let moved = leads_moves p tr (so_far nodes header order s) (answered_to b (shown t i)) (just_after n) some agree first in
        record {
          some = some;
          left = left;
          given = subst (λ o. GivesOut t s some o) (sym is_new)
              (subst (λ u. MatchBool u (some ≡ []) (Describes some p (record { header = header; rows = s.rows })
              (answered (first_time s.rows) (shown t i) (pos n)))) (sym moves) (described (shown t i) refl some moved));
          leads = subst (λ o. LeadTo (Some (pos n)) o left) (sym e) rest;
        }

  -- what leads at least as far as a run shows has what the node gives out in it
  pub gives_out : (t : State) (events : List Event) → IsRunFrom nodes header t events → IsSound nodes header order t
      → Continues tr header (state_from nodes t events).rows (state_from nodes t events).closed → (top : Front) (vs : List Verdict)
      → LeadTo (shown t i) top vs → NeverLess (shown (state_from nodes t events) i) top → (fine : List Verdict) × EmittedFrom nodes header i t events fine
  gives_out t [] r h c top vs leads below = ([], refl)
  gives_out t (e ∷ events) r h c top vs leads below =
      by_new (λ ws leads. gives_out (after_event nodes t e) events r.1 (sound_after nodes header order t e r.0 h) c top ws leads below)
      (shown (after_event nodes t e) i) refl
    where
      s : State
      s = after_event nodes t e

      sound : IsSound nodes header order s
      sound = sound_after nodes header order t e r.0 h

      goes : Continues tr header s.rows s.closed
      goes = goes_on_before nodes header order s events tr r.1 c

      Next : Type 0
      Next = (ws : List Verdict) → LeadTo (shown s i) top ws → Given s events

      -- an event that leaves the front
      still : Next → shown t i ≡ shown s i → Given t (e ∷ events)
      still go same =
          let (fine, given) = go vs (subst (λ o. LeadTo o top vs) same leads) in
          (fine, ([], fine, nothing_given nodes header i t s same, given, refl))

      old_from : (n : ℕ) → shown s i ≡ Some (pos n) → (g : ℤ) → shown t i ≡ Some g → (pos b ≤ℤ g) × (g ≤ℤ pos n)
      old_from n x g y =
          let up = shown_later nodes header order t e r.0 h i l g y in
          let same : up.0 ≡ pos n = same_Some up.0 (pos n) (sym up.1 ∙ x) in
          (shown_from t g (goes_on_before nodes header order t (e ∷ events) tr r c) h y, subst (λ z. g ≤ℤ z) same up.2)

      by_new : Next → (o : Front) → shown s i ≡ o → Given t (e ∷ events)
      by_new go None x = still go (none_before nodes header order t e r.0 h i l x ∙ sym x)
      by_new go (Some (negsuc n)) x = absurd (let k = shown_from s (negsuc n) goes sound x in omega (arith, ints))
      by_new go (Some (pos n)) x = by_test (same_front (shown t i) (Some (pos n))) refl
        where
          by_test : (u : Bool) → same_front (shown t i) (Some (pos n)) ≡ u → Given t (e ∷ events)
          by_test true y = still go (same_is (shown t i) (Some (pos n)) y ∙ sym x)
          by_test false y =
              let on = rises_on s events r.1 sound (pos n) x in
              let top_is = below on.0 on.1 in
              let k : pos n ≤ℤ top_is.0 = (let a = on.2 in let d = top_is.2 in omega (arith, ints)) in
              let m = moved_by t s n x goes sound (old_from n x) y top top_is.0 vs top_is.1 k leads in
              let (fine, given) = go m.left (subst (λ o. LeadTo o top m.left) (sym x) m.leads) in
              (m.some ++ fine, (m.some, fine, m.given, given, refl {a = m.some ++ fine}))
