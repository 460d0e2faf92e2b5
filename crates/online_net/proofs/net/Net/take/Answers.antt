use Rattle.std.proofs.Common.{◌≡◌, ℕ, ◌-◌, ◌<◌, ◌≤◌, false, Some, None, List, [], ◌∷◌, ◌++◌, length, refl, sym, ap, subst, ◌∙◌}
use Rattle.std.specs.Prelude.{slice_get}
use Rattle.online_nodes.specs.Network.{take}
use Rattle.online_nodes.specs.Held.{edge_at, held_at}
use Rattle.stl_syntax.specs.declared.items.Verdict.{Verdict}
use Rattle.online_net.specs.Nets.{Parts, Stands}
use Rattle.online_net.specs.Nets.{HasPast}
use Rattle.online_net.proofs.StillSteps.{root_place, took_joins, took_stands, none_took, next_is}
use Rattle.online_net.specs.contracts.net.Net.{the_view}
use Rattle.online_net.proofs.net.Net.take.Goals as goal

-- the root's place by the count of operators
at_root : (net : Parts) → net.stopped ≡ false → HasPast net → (n : ℕ) → n ≡ length net.operators
    → (1 ≤ n) × (n - 1 < length net.edges.edges)
at_root net running past n e =
    let w = past running in
    let r = root_place w.0 w.1 w.2 net w.3 n e in
    (r.0, r.2)

-- a first verdict stands where some do
some_first : (l : List Verdict) → (length l ≡ 0 → ⊥) → slice_get l 0 ≡ None → ⊥
some_first [] d e = d refl
some_first (v ∷ l) d e = absurd (let x : Some v ≡ None = e in cc)

pub overflow_sub-root : goal.overflow_sub-root
overflow_sub-root c =
    let net : Parts = the_view c.self.inside in
    (at_root net c.if-self.false c.self.invariant.0 c.len.result (c.len.ensures ∙ c.self.inside.operators.ok.0)).0

pub held-requires : goal.held-requires
held-requires c =
    let net : Parts = the_view c.self.inside in
    (at_root net c.if-self.false c.self.invariant.0 c.len.result (c.len.ensures ∙ c.self.inside.operators.ok.0)).1

pub invariant_of-self : goal.invariant_of-self
invariant_of-self c = (
  (λ running.
      let net : Parts = the_view c.self.inside in
      let w = c.self.invariant.0 c.if-self.false in
      let r = root_place w.0 w.1 w.2 net w.3 c.len.result (c.len.ensures ∙ c.self.inside.operators.ok.0) in (
        w.0,
        w.1,
        w.2 ++ take ∷ [],
        took_stands w.0 w.1 w.2 net w.3 c.take.new.self (c.len.result - 1) r.1 c.take.ensures.taken c.take.ensures.start,
      )),
  c.self.invariant.1,
)

pub returns-clause-unchanged : goal.returns-clause-unchanged
returns-clause-unchanged c none = absurd (some_first (held_at c.self.inside.edges (c.len.result - 1))
    (λ e. c.if-held-eq0.false (c.held.ensures ∙ e)) (sym c.take.ensures.first ∙ none))

pub returns-clause-next : goal.returns-clause-next
returns-clause-next c nodes header events st =
    let net : Parts = the_view c.self.inside in
    let now : Stands nodes header net events = subst (λ (p : Parts). Stands nodes header p events) (sym c.self.view_is) st in
    let r = root_place nodes header events net now c.len.result (c.len.ensures ∙ c.self.inside.operators.ok.0) in
    next_is nodes header events net now c.take.result (c.take.ensures.first ∙ ap (λ k. slice_get (held_at c.self.inside.edges k) 0) r.1)

pub returns-clause-stands : goal.returns-clause-stands
returns-clause-stands c nodes header events st =
    let net : Parts = the_view c.self.inside in
    let now : Stands nodes header net events = subst (λ (p : Parts). Stands nodes header p events) (sym c.self.view_is) st in
    let r = root_place nodes header events net now c.len.result (c.len.ensures ∙ c.self.inside.operators.ok.0) in
    took_stands nodes header events net now c.take.new.self (c.len.result - 1) r.1 c.take.ensures.taken c.take.ensures.start

pub returns-then-held-eq0-clause-next : goal.returns-then-held-eq0-clause-next
returns-then-held-eq0-clause-next c nodes header events st =
    let net : Parts = the_view c.self.inside in
    let now : Stands nodes header net events = subst (λ (p : Parts). Stands nodes header p events) (sym c.self.view_is) st in
    let r = root_place nodes header events net now c.len.result (c.len.ensures ∙ c.self.inside.operators.ok.0) in
    (none_took nodes header events net now (c.len.result - 1) r.1 (sym c.held.ensures ∙ c.if-held-eq0.true)).0

pub returns-then-held-eq0-clause-stands : goal.returns-then-held-eq0-clause-stands
returns-then-held-eq0-clause-stands c nodes header events st =
    let net : Parts = the_view c.self.inside in
    let now : Stands nodes header net events = subst (λ (p : Parts). Stands nodes header p events) (sym c.self.view_is) st in
    let r = root_place nodes header events net now c.len.result (c.len.ensures ∙ c.self.inside.operators.ok.0) in
    subst (λ (p : Parts). Stands nodes header p (events ++ take ∷ [])) c.self.view_is
    (none_took nodes header events net now (c.len.result - 1) r.1 (sym c.held.ensures ∙ c.if-held-eq0.true)).1

pub returns-clause-joins : goal.returns-clause-joins
returns-clause-joins c j =
    took_joins c.self.inside.edges c.take.new.self (c.len.result - 1) c.take.ensures.taken j
    ∙ ap (λ (p : Parts). (edge_at p.edges j).joins) c.self.view_is
