-- What a node gave out is its truth in every trace that goes on from the rows.
use Rattle.std.proofs.Common.{◌≡◌, inl, inr, refl, sym, ap, subst, ◌∙◌, ℕ, ◌<◌, Bool, true, false, Some, None, List, [], ◌∷◌}
use Rattle.std.proofs.Common.{◌++◌, ℤ, pos, ◌+ℤ◌, ◌≤ℤ◌, arith}
use Rattle.std.specs.Prelude.{MatchBool, length, int_lt, cond}
use Rattle.std.proofs.lemmas.List.{append_assoc, append-nil}
use Rattle.std.proofs.lemmas.Option.{same_Some}
use Rattle.rational.specs.Rational.{Rational, ◌≤ʳ◌, ◌<ʳ◌, whole}
use Rattle.rational.specs.Time.{Interval, IsIn, later, closed, left_open}
use Rattle.rational.proofs.Order.{le_trans, le_of_same, ge_of_same, le_of_lt}
use Rattle.rational.proofs.TimeLemmas.{later_le}
use Rattle.rational.proofs.Mixed.{parts}
use Rattle.rational.proofs.Shift.{le_whole}
use Rattle.rational.proofs.Tests.{int_order}
use Rattle.frac128.specs.Spans.{interval}
use Rattle.frac128.specs.Value.{value}
use Rattle.stl_syntax.specs.Trace.{Header, Row, Trace, IsTrace, Continues, first_time, last_time, start}
use Rattle.stl_syntax.specs.Formula.{Subformula, subformula, horizon}
use Rattle.stl_syntax.specs.Truth.{Truth}
use Rattle.stl_syntax.specs.Verdicts.{Describes, GoesOn, IsTold}
use Rattle.stl_syntax.specs.PostOrder.{IsPostOrder}
use Rattle.online_nodes.specs.Network.{Event, row, step, close, take, Front, State, last_row, after_event, state_from, shown}
use Rattle.online_nodes.specs.Network.{same_front, answered, EmittedAt, EmittedFrom, Emitted, IsRunFrom, IsRun, initial, state}
use Rattle.stl_syntax.specs.declared.items.Verdict.{Verdict}
use Rattle.stl_syntax.specs.declared.node.Node.{Node}
use Rattle.stl_syntax.proofs.LawProofs.{answers_stay}
use Rattle.online_nodes.specs.Laws.{AreTold, IsBounded}
use Rattle.online_nodes.proofs.RunLaw.{AllBounded, bounded_after, none_is_none}

-- two lists that are told are told together
pub told_append : (p : Subformula) (tr : Trace) (vs ws : List Verdict) → AreTold p tr vs → AreTold p tr ws → AreTold p tr (vs ++ ws)
told_append p tr [] ws h k = k
told_append p tr (v ∷ vs) ws (h, rest) k = (h, told_append p tr vs ws rest k)

span_ends : (v : Verdict) (p : Subformula) (tr : Trace) → IsTold p tr v → value v.on.from ≤ʳ value v.on.to
span_ends v p tr h = elim h.not_empty [ inl l ↦ le_of_lt l | inr s ↦ le_of_same s.0 ]

ends_by : (p : Subformula) (tr : Trace) (stretch : Interval) (v : Verdict) (vs : List Verdict) → GoesOn p tr stretch v vs
    → value v.on.to ≤ʳ stretch.to
ends_by p tr stretch v [] h = le_of_same h.time
ends_by p tr stretch v (w ∷ vs) (touch, d, told, rest) = le_trans (ge_of_same touch.time)
    (le_trans (span_ends w p tr told) (ends_by p tr stretch w vs rest))

-- both say the same of the time
abbrev pub Agree : Subformula → Trace → Trace → Rational → Type 0
Agree p tr tr' t = (Truth p tr t → Truth p tr' t) × (Truth p tr' t → Truth p tr t)

-- the traces agree on a stretch
abbrev pub AgreeOn : Subformula → Trace → Trace → Interval → Type 0
AgreeOn p tr tr' stretch = (t : Rational) → stretch.from ≤ʳ t → t ≤ʳ stretch.to → Agree p tr tr' t

one_moved : (p : Subformula) (tr tr' : Trace) (stretch : Interval) (v : Verdict) → stretch.from ≤ʳ value v.on.from
    → value v.on.to ≤ʳ stretch.to
    → AgreeOn p tr tr' stretch → IsTold p tr v → IsTold p tr' v
one_moved p tr tr' stretch v b e agree told = record
    { not_empty = told.not_empty; truth = λ t h. by_holds v.holds (agree t (low t h) (high t h)) (told.truth t h) }
  where
    by_holds : {A B : Type 0} (b : Bool) → (A → B) × (B → A) → MatchBool b A (¬ A) → MatchBool b B (¬ B)
    by_holds true e x = e.0 x
    by_holds false e x = λ y. x (e.1 y)

    low : (t : Rational) → IsIn (interval v.on) t → stretch.from ≤ʳ t
    low t h = le_trans b (by_end v.on.from_in h.above)
      where
        by_end : (i : Bool) → MatchBool i (value v.on.from ≤ʳ t) (value v.on.from <ʳ t) → value v.on.from ≤ʳ t
        by_end true x = x
        by_end false x = le_of_lt x

    high : (t : Rational) → IsIn (interval v.on) t → t ≤ʳ stretch.to
    high t h = le_trans (by_end v.on.to_in h.below) e
      where
        by_end : (i : Bool) → MatchBool i (t ≤ʳ value v.on.to) (t <ʳ value v.on.to) → t ≤ʳ value v.on.to
        by_end true x = x
        by_end false x = le_of_lt x

-- a told list, read in another trace that agrees on the stretch
moved_on : (p : Subformula) (tr tr' : Trace) (stretch : Interval) (v : Verdict) (vs : List Verdict)
    → stretch.from ≤ʳ value v.on.from
    → AgreeOn p tr tr' stretch
    → IsTold p tr v → GoesOn p tr stretch v vs → AreTold p tr' (v ∷ vs)
moved_on p tr tr' stretch v [] b agree told r = (one_moved p tr tr' stretch v b (ends_by p tr stretch v [] r) agree told, tt)
moved_on p tr tr' stretch v (w ∷ vs) b agree told r = (
  one_moved p tr tr' stretch v b (ends_by p tr stretch v (w ∷ vs) r) agree told,
  moved_on p tr tr' stretch w vs (le_trans b (le_trans (span_ends v p tr told) (ge_of_same r.0.time))) agree r.2 r.3,
)

-- verdicts that describe a stretch tell the truth of another trace that agrees on it
pub described : (p : Subformula) (tr tr' : Trace) (stretch : Interval) (vs : List Verdict)
    → AgreeOn p tr tr' stretch
    → Describes vs p tr stretch → AreTold p tr' vs
described p tr tr' stretch [] agree h = absurd h
described p tr tr' stretch (v ∷ vs) agree h = moved_on p tr tr' stretch v vs (ge_of_same h.0.time) agree h.1 h.2

module _ (nodes : List Node) (header : Header) (order : IsPostOrder nodes) where
  abbrev pub so_far : State → Trace
  so_far s = record { header = header; rows = s.rows }

  -- rows only come, and none after the end
  pub rows_grow : (s : State) (events : List Event) → IsRunFrom nodes header s events
      → (more : List Row) × ((state_from nodes s events).rows ≡ s.rows ++ more) × (s.closed ≡ true
      → (more ≡ []) × ((state_from nodes s events).closed ≡ true))
  rows_grow s [] r = ([], sym (append-nil s.rows), λ c. (refl, c))
  rows_grow s (row q ∷ events) r =
      let h = rows_grow (after_event nodes s (row q)) events r.1 in
      (q ∷ h.0, h.1 ∙ append_assoc s.rows (q ∷ []) h.0, λ c. absurd (let x : true ≡ false = sym c ∙ r.0.0 in cc))
  rows_grow s (step i ∷ events) r = rows_grow (after_event nodes s (step i)) events r.1
  rows_grow s (take ∷ events) r = rows_grow s events r.1
  rows_grow s (close ∷ events) r =
      let h = rows_grow (after_event nodes s close) events r.1 in
      (h.0, h.1, λ c. absurd (let x : true ≡ false = sym c ∙ r.0.0 in cc))

  -- what goes on from the rows at the end goes on from those before
  pub goes_on_before : (s : State) (events : List Event) (tr : Trace) → IsRunFrom nodes header s events
      → Continues tr header (state_from nodes s events).rows (state_from nodes s events).closed
      → Continues tr header s.rows s.closed
  goes_on_before s events tr r c =
      let h = rows_grow s events r in
      record {
        same_header = c.same_header;
        more = h.0 ++ c.more;
        begins = c.begins ∙ ap (λ l. l ++ c.more) h.1 ∙ append_assoc s.rows h.0 c.more;
        whole_input = λ e. let k = h.2 e in both_none h.0 c.more k.0 (c.whole_input k.1);
      }
    where
      both_none : (a b : List Row) → a ≡ [] → b ≡ [] → a ++ b ≡ []
      both_none a b e f = ap (λ l. l ++ b) e ∙ f

  -- within its front a node's truth is that in each trace that goes on
  pub agrees : (s : State) (i : ℕ) (f : ℤ) (tr : Trace) → IsTrace tr → Continues tr header s.rows s.closed
      → IsBounded s (horizon (subformula nodes i)) f
      → (t : Rational) → start (so_far s) ≤ʳ t → t ≤ʳ whole f → Agree (subformula nodes i) (so_far s) tr t
  agrees s i f tr is c b t from to = by_end s.closed refl
    where
      p : Subformula
      p = subformula nodes i

      -- after the end the trace is the rows
      same : s.closed ≡ true → Agree p (so_far s) tr t
      same e =
          let none = c.whole_input e in
          let rows : tr.rows ≡ s.rows = c.begins ∙ ap (λ l. s.rows ++ l) none ∙ append-nil s.rows in (
            subst (λ h. Truth p (so_far s) t → Truth p (record { header = h; rows = tr.rows }) t) (sym c.same_header)
                (subst (λ l. Truth p (so_far s) t → Truth p (record { header = header; rows = l }) t) (sym rows) (λ x. x)),
            subst (λ h. Truth p (record { header = h; rows = tr.rows }) t → Truth p (so_far s) t) (sym c.same_header)
                (subst (λ l. Truth p (record { header = header; rows = l }) t → Truth p (so_far s) t) (sym rows) (λ x. x)),
          )

      by_rows : (rows : List Row) → s.rows ≡ rows → s.closed ≡ false → Agree p (so_far s) tr t
      by_rows [] e o = absurd (none_last e)
        where
          none_last : s.rows ≡ [] → ⊥
          none_last e = let x = subst (λ l. last_row (record { rows = l; closed = s.closed; fronts = s.fronts }) ≡ Some b.last) e
              b.is_last in
              (let y : None ≡ Some b.last = x in cc)
      by_rows (r ∷ rows) e o =
          let cont : Continues tr header (r ∷ rows) false = record {
            same_header = c.same_header;
            more = c.more;
            begins = c.begins ∙ ap (λ l. l ++ c.more) e;
            whole_input = λ x. absurd (let y : false ≡ true = x in cc);
          } in
          let last : pos (last_time r.time rows) ≡ b.last = same_Some (pos (last_time r.time rows)) b.last
          (subst (λ l. last_row (record { rows = l; closed = s.closed; fronts = s.fronts }) ≡ Some b.last) e b.is_last) in
          let ans = answers_stay p header r rows tr false t is cont (
            subst (λ l. whole (pos (first_time l)) ≤ʳ t) e from,
            le_trans (later_le (horizon p) to) (by_last (b.ahead o) last),
          ) in
          subst (λ l. Agree p (record { header = header; rows = l }) tr t) (sym e) (ans.0, ans.1)
        where
          by_last : (f +ℤ pos (horizon p)) ≤ℤ b.last → pos (last_time r.time rows) ≡ b.last
              → later (whole f) (horizon p) ≤ʳ whole (pos (last_time r.time rows))
          by_last h e =
              let g : (f +ℤ pos (horizon p)) ≤ℤ pos (last_time r.time rows) = subst (λ z. (f +ℤ pos (horizon p)) ≤ℤ z) (sym e) h
              in
              record { le = omega (arith, parts) }

      by_end : (x : Bool) → s.closed ≡ x → Agree p (so_far s) tr t
      by_end true e = same e
      by_end false e = by_rows s.rows refl e

  -- what EmittedAt says, by the front that is shown
  abbrev GivesOut : ℕ → State → State → List Verdict → Front → Type 0
  GivesOut i old new vs None = vs ≡ []
  GivesOut i old new vs (Some f) =
      MatchBool (same_front (shown old i) (Some f)) (vs ≡ [])
      (Describes vs (subformula nodes i) (so_far new) (answered (first_time new.rows) (shown old i) f))

  gives_out : (i : ℕ) (old new : State) (vs : List Verdict) → EmittedAt nodes header i old new vs
      → GivesOut i old new vs (shown new i)
  gives_out i old new vs h = h

  abbrev shown_of : ℕ → Front → Front
  shown_of b None = None
  shown_of b (Some g) = cond (int_lt g (pos b)) None (Some g)

  -- the number that is shown is the front, and lies after the start
  pub shown_is : (s : State) (i : ℕ) (f : ℤ) → shown s i ≡ Some f → (s.fronts i ≡ Some f) × (pos (first_time s.rows) ≤ℤ f)
  shown_is s i f e = by_front (s.fronts i) refl e
    where
      by_front : (o : Front) → s.fronts i ≡ o → shown_of (first_time s.rows) o ≡ Some f
          → (s.fronts i ≡ Some f) × (pos (first_time s.rows) ≤ℤ f)
      by_front None x y = absurd (none_is_none f y)
      by_front (Some g) x y = by_test (int_lt g (pos (first_time s.rows))) refl
        where
          by_test : (t : Bool) → int_lt g (pos (first_time s.rows)) ≡ t → (s.fronts i ≡ Some f) × (pos (first_time s.rows) ≤ℤ f)
          by_test true z = absurd (none_is_none f (subst (λ t. cond t None (Some g) ≡ Some f) z y))
          by_test false z =
              let same : g ≡ f = same_Some g f (subst (λ t. cond t None (Some g) ≡ Some f) z y) in
              let low : pos (first_time s.rows) ≤ℤ g = int_order g (pos (first_time s.rows)) false z in
              (x ∙ ap (λ (k : ℤ). Some k) same, subst (λ k. pos (first_time s.rows) ≤ℤ k) same low)

  none_told : (p : Subformula) (tr : Trace) (vs : List Verdict) → vs ≡ [] → AreTold p tr vs
  none_told p tr vs e = subst (λ l. AreTold p tr l) (sym e) tt

  here_told : (i : ℕ) (old new : State) (vs : List Verdict) (tr : Trace) → IsTrace tr → Continues tr header new.rows new.closed
      → ((f : ℤ) → new.fronts i ≡ Some f → IsBounded new (horizon (subformula nodes i)) f)
      → ((g : ℤ) → shown old i ≡ Some g → pos (first_time new.rows) ≤ℤ g)
      → (o : Front) → shown new i ≡ o → GivesOut i old new vs o → AreTold (subformula nodes i) tr vs
  here_told i old new vs tr is c bound from None e h = none_told (subformula nodes i) tr vs h
  here_told i old new vs tr is c bound from (Some f) e h = by_test (same_front (shown old i) (Some f)) h
    where
      by_old : (o : Front) → shown old i ≡ o → Describes vs (subformula nodes i) (so_far new) (answered (first_time new.rows) o f)
          → AreTold (subformula nodes i) tr vs
      by_old None x d = described (subformula nodes i) (so_far new) tr (closed (whole (pos (first_time new.rows))) (whole f)) vs
          (λ t a b. agrees new i f tr is c (bound f (shown_is new i f e).0) t a b) d
      by_old (Some g) x d = described (subformula nodes i) (so_far new) tr (left_open (whole g) (whole f)) vs
          (λ t a b. agrees new i f tr is c (bound f (shown_is new i f e).0) t (le_trans (le_whole (from g x)) a) b) d

      by_test : (t : Bool)
          → MatchBool t (vs ≡ [])
          (Describes vs (subformula nodes i) (so_far new) (answered (first_time new.rows) (shown old i) f))
          → AreTold (subformula nodes i) tr vs
      by_test true x = none_told (subformula nodes i) tr vs x
      by_test false x = by_old (shown old i) refl x

  -- once a row came, the start stays
  pub first_same : (s : State) (e : Event) (l : ℤ) → last_row s ≡ Some l → first_time (after_event nodes s e).rows ≡ first_time s.rows
  first_same s (row q) l h = by_rows s.rows h
    where
      by_rows : (rows : List Row) → last_row (record { rows = rows; closed = s.closed; fronts = s.fronts }) ≡ Some l
          → first_time (rows ++ q ∷ []) ≡ first_time rows
      by_rows [] e = absurd (none_is_none l e)
      by_rows (r ∷ rows) e = refl
  first_same s _ l h = refl

  -- what a node gives out from a state on is told in each trace that goes on from the rows at the end
  pub stay_from : (s : State) (events : List Event) → IsRunFrom nodes header s events → AllBounded nodes header order s → (i : ℕ)
      → i < length nodes
      → (vs : List Verdict) → EmittedFrom nodes header i s events vs → (tr : Trace) → IsTrace tr
      → Continues tr header (state_from nodes s events).rows (state_from nodes s events).closed
      → AreTold (subformula nodes i) tr vs
  stay_from s [] r all i l vs em tr is c = none_told (subformula nodes i) tr vs em
  stay_from s (e ∷ events) r all i l vs (here, more, at, rest, eq) tr is c =
      let next = bounded_after nodes header order s e r.0 all in
      subst (λ k. AreTold (subformula nodes i) tr k) (sym eq)
      (told_append (subformula nodes i) tr here more
      (here_told i s (after_event nodes s e) here tr is (goes_on_before (after_event nodes s e) events tr r.1 c) (λ f x. next i f l x)
      (λ g x. let y = shown_is s i g x in subst (λ k. pos k ≤ℤ g) (sym (first_same s e (all i g l y.0).last (all i g l y.0).is_last)) y.1)
      (shown (after_event nodes s e) i) refl (gives_out i s (after_event nodes s e) here at))
      (stay_from (after_event nodes s e) events r.1 next i l more rest tr is c))

  -- each verdict that a node gave out in a run is its truth in every trace that goes on from the rows
  pub emitted_stays : (events : List Event) → IsRun nodes header events → (i : ℕ) → i < length nodes → (vs : List Verdict)
      → Emitted nodes header events i vs
      → (tr : Trace) → IsTrace tr → Continues tr header (state nodes events).rows (state nodes events).closed
      → AreTold (subformula nodes i) tr vs
  unfolding state
  emitted_stays events r i l vs em tr is c = stay_from initial events r (λ j f k e. absurd (none_is_none f e)) i l vs em tr is c
