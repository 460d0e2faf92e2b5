-- One event more: what it adds to what a node gave out.
use Rattle.std.proofs.Common.{◌≡◌, refl, sym, ap, subst, ◌∙◌, ℕ, Bool, true, false, not, Some, None, List, [], ◌∷◌, ◌++◌, ℤ, ◌<ℤ◌, arith}
use Rattle.std.specs.Prelude.{MatchBool, ◌≢◌, int_lt, cond, ◌==◌, ◌&&◌}
use Rattle.std.proofs.lemmas.List.{append_assoc, append-nil}
use Rattle.std.proofs.lemmas.Int.{ints}
use Rattle.rational.proofs.Tests.{int_order}
use Rattle.stl_syntax.specs.Trace.{Header, first_time}
use Rattle.stl_syntax.specs.Formula.{subformula}
use Rattle.stl_syntax.specs.Verdicts.{Describes}
use Rattle.online_nodes.specs.Network.{Event, step, close, take, Front, State, shown, same_front, allowed_at, answered}
use Rattle.online_nodes.specs.Network.{after_event, state_from, initial, EmittedAt, EmittedFrom, Emitted}
use Rattle.stl_syntax.specs.declared.items.Verdict.{Verdict}
use Rattle.stl_syntax.specs.declared.node.Node.{Node}

same_number : (f : ℤ) → same_front (Some f) (Some f) ≡ true
same_number f = by_test (int_lt f f) refl
  where
    by_test : (t : Bool) → int_lt f f ≡ t → (not (int_lt f f) && not (int_lt f f)) ≡ true
    by_test true e = absurd (let h : f <ℤ f = int_order f f true e in omega (arith, ints))
    by_test false e = subst (λ t. (not t && not t) ≡ true) (sym e) refl

module _ (nodes : List Node) (header : Header) where
  -- an event more comes after all others
  pub one_more : (s : State) (events : List Event) (e : Event)
      → state_from nodes s (events ++ e ∷ []) ≡ after_event nodes (state_from nodes s events) e
  one_more s [] e = refl
  one_more s (d ∷ events) e = one_more (after_event nodes s d) events e

  -- the verdicts of one event more stand at the end
  pub given_more : (i : ℕ) (s : State) (events : List Event) (e : Event) (vs here : List Verdict)
      → EmittedFrom nodes header i s events vs
      → EmittedAt nodes header i (state_from nodes s events) (after_event nodes (state_from nodes s events) e) here
      → EmittedFrom nodes header i s (events ++ e ∷ []) (vs ++ here)
  given_more i s [] e vs here em at = (here, [], at, refl, ap (λ l. l ++ here) em ∙ sym (append-nil here))
  given_more i s (d ∷ events) e vs here (first, rest, first_at, more, eq) at = (
    first,
    rest ++ here,
    first_at,
    given_more i (after_event nodes s d) events e rest here more at,
    ap (λ l. l ++ here) eq
        ∙ append_assoc first rest here,
  )

  abbrev GivesOut : ℕ → State → State → List Verdict → Front → Type 0
  GivesOut i old new vs None = vs ≡ []
  GivesOut i old new vs (Some f) =
      MatchBool (same_front (shown old i) (Some f)) (vs ≡ [])
      (Describes vs (subformula nodes i) (record { header = header; rows = new.rows }) (answered (first_time new.rows) (shown old i) f))

  -- a node whose shown number stays gives out nothing
  pub nothing_given : (i : ℕ) (old new : State) → shown old i ≡ shown new i → EmittedAt nodes header i old new []
  nothing_given i old new e = by_front (shown new i) e
    where
      none : List Verdict
      none = []

      by_front : (o : Front) → shown old i ≡ o → GivesOut i old new none o
      by_front None e = refl
      by_front (Some f) e =
          subst (λ t. MatchBool t (none ≡ []) (Describes [] (subformula nodes i) (record { header = header; rows = new.rows })
          (answered (first_time new.rows) (shown old i) f)))
          (sym (ap (λ o. same_front o (Some f)) e ∙ same_number f)) refl

  -- a step of another node, a take and the end add nothing
  pub other_step : (events : List Event) (i j : ℕ) (vs : List Verdict) → j ≢ i → Emitted nodes header events j vs
      → Emitted nodes header (events ++ step i ∷ []) j vs
  other_step events i j vs d em =
      subst (λ l. Emitted nodes header (events ++ step i ∷ []) j l) (append-nil vs)
      (given_more j initial events (step i) vs [] em (nothing_given j (state_from nodes initial events) (after_event nodes
      (state_from nodes initial events) (step i)) (by_test (j == i) refl)))
    where
      s : State
      s = state_from nodes initial events

      same : (g : Front) → g ≡ s.fronts j → shown s j ≡ shown (record { rows = s.rows; closed = s.closed; fronts = λ k. g }) j
      same g e = subst (λ (o : Front). shown s j ≡ shown (record { rows = s.rows; closed = s.closed; fronts = λ k. o }) j) (sym e)
          refl

      by_test : (t : Bool) → (j == i) ≡ t → shown s j ≡ shown (after_event nodes s (step i)) j
      by_test true e = absurd (d (grind (arith, e)))
      by_test false e = same ((after_event nodes s (step i)).fronts j) (ap (λ t. cond t (allowed_at nodes s i) (s.fronts j)) e)

  -- a take gives nothing more out
  pub no_more_by_take : (events : List Event) (j : ℕ) (vs : List Verdict) → Emitted nodes header events j vs
      → Emitted nodes header (events ++ take ∷ []) j vs
  no_more_by_take events j vs em =
      subst (λ l. Emitted nodes header (events ++ take ∷ []) j l) (append-nil vs)
      (given_more j initial events take vs [] em (nothing_given j (state_from nodes initial events) (state_from nodes initial events) refl))

  -- the end gives nothing more out
  pub no_more_by_close : (events : List Event) (j : ℕ) (vs : List Verdict) → Emitted nodes header events j vs
      → Emitted nodes header (events ++ close ∷ []) j vs
  no_more_by_close events j vs em =
      subst (λ l. Emitted nodes header (events ++ close ∷ []) j l) (append-nil vs)
      (given_more j initial events close vs [] em (nothing_given j (state_from nodes initial events) (after_event nodes
      (state_from nodes initial events) close) refl))
