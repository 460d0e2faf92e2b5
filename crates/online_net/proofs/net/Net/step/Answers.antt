use Rattle.std.proofs.Common.{◌≡◌, ◌<◌, Bool, true, false, Some, List, [], ◌∷◌, ◌++◌, length, refl, sym, ap, subst, ◌∙◌, arith}
use Rattle.std.specs.Prelude.{slice_get, IsTrue}
use Rattle.rational.proofs.Lists.{slice_get-set_same, slice_get-set_other}
use Rattle.stl_syntax.specs.Trace.{Header}
use Rattle.stl_syntax.specs.declared.node.Node.{Node}
use Rattle.online_nodes.specs.Network.{Event, step, state, IsReady}
use Rattle.online_nodes.specs.Held.{Held, edge_at}
use Rattle.online_net.specs.Nets.{Parts, Stands}
use Rattle.std.specs.Prelude.{slice_set}
use Rattle.std.proofs.lemmas.List.{length-set}
use Rattle.online_net.proofs.AtomLists.{listed_on}
use Rattle.online_net.proofs.AtomVerdicts.{found}
use Rattle.online_net.proofs.StillSteps.{atom_unready, belongs_now, idle_stands, kept_operator, moved_stands, no_operator}
use Rattle.online_net.proofs.StillSteps.{none_ready, step_by, unmoved_parts, unready_by}
use Rattle.online_net.specs.contracts.net.Net.{the_view}
use Rattle.online_net.proofs.net.Net.step.Goals as goal

-- what is not ready is not said to have moved
not_moved : {P : Type 0} → (P → ⊥) → (IsTrue false → P) × (P → IsTrue false)
not_moved d = (λ x. absurd (let y : false ≡ true = x in cc), λ p. absurd (d p))

pub returns-in_default-clause-moved : goal.returns-in_default-clause-moved
returns-in_default-clause-moved c nodes header events st =
    let net : Parts = the_view c.self.inside in
    let now : Stands nodes header net events = subst (λ (p : Parts). Stands nodes header p events) (sym c.self.view_is) st in
    let l : c.args.node < length net.operators = subst (λ (p : Parts). c.args.node < length p.operators) (sym c.self.view_is) c.requires in
    let n : c.args.node < length nodes = (let d = now.holds.operators in omega (arith, l, d)) in
    not_moved (none_ready nodes header events net now c.in_default.is c.args.node n)

pub returns-in_default-clause-stands : goal.returns-in_default-clause-stands
returns-in_default-clause-stands c nodes header events st other =
    let net : Parts = the_view c.self.inside in
    let now : Stands nodes header net events = subst (λ (p : Parts). Stands nodes header p events) (sym c.self.view_is) st in
    let l : c.args.node < length net.operators = subst (λ (p : Parts). c.args.node < length p.operators) (sym c.self.view_is) c.requires in
    let n : c.args.node < length nodes = (let d = now.holds.operators in omega (arith, l, d)) in
    subst (λ (p : Parts). Stands nodes header p (events ++ step c.args.node ∷ [])) c.self.view_is
    (idle_stands nodes header events net now c.args.node n other (none_ready nodes header events net now c.in_default.is c.args.node n))

pub returns-in_default-index_mut-clause-moved : goal.returns-in_default-index_mut-clause-moved
returns-in_default-index_mut-clause-moved c nodes header events st =
    let now : Stands nodes header (the_view c.self.inside) events =
    subst (λ (p : Parts). Stands nodes header p events) (sym c.self.view_is) st in
    let net : Parts = the_view c.self.inside in
    let l : c.args.node < length net.operators = subst (λ (p : Parts). c.args.node < length p.operators) (sym c.self.view_is) c.requires in
    let none = found net.operators c.args.node c.index_mut.result.now l c.index_mut.ensures.value ∙ ap Some c.in_default-index_mut.is in
    not_moved (atom_unready nodes header events net now c.args.node (no_operator nodes header events net now c.args.node l none))

pub returns-in_default-index_mut-clause-stands : goal.returns-in_default-index_mut-clause-stands
returns-in_default-index_mut-clause-stands c nodes header events st other =
    let now : Stands nodes header (the_view c.self.inside) events =
    subst (λ (p : Parts). Stands nodes header p events) (sym c.self.view_is) st in
    let net : Parts = the_view c.self.inside in
    let l : c.args.node < length net.operators = subst (λ (p : Parts). c.args.node < length p.operators) (sym c.self.view_is) c.requires in
    let none = found net.operators c.args.node c.index_mut.result.now l c.index_mut.ensures.value ∙ ap Some c.in_default-index_mut.is in
    absurd (let x : true ≡ false = sym (no_operator nodes header events net now c.args.node l none) ∙ other in cc)

pub step_one-requires : goal.step_one-requires
step_one-requires c =
    let net : Parts = the_view c.self.inside in
    let w = c.self.invariant.0 c.if-self.false in
    let l : c.args.node < length net.operators = subst (λ (p : Parts). c.args.node < length p.operators) (sym c.self.view_is) c.requires in
    let at : slice_get net.operators c.args.node ≡ Some (Some c.in-Some-index_mut.operator) =
    found net.operators c.args.node c.index_mut.result.now l c.index_mut.ensures.value ∙ ap Some c.in-Some-index_mut.is in (
      w.0,
      w.1,
      w.2,
      belongs_now w.0 w.1 w.2 net w.3 c.args.node c.in-Some-index_mut.operator c.in-Some.row c.time-now.result at c.in-Some.is c.time-now.ensures,
    )

pub invariant_of-self-in_default-step_one : goal.invariant_of-self-in_default-step_one
invariant_of-self-in_default-step_one c = (
  (λ running. absurd (let x : true ≡ false = running in cc)),
  listed_on c.self.inside.atoms.items net.operators c.args.node c.in-Some-index_mut.operator c.step_one.new.operator c.self.invariant.1 at,
)
  where
    net : Parts
    net = the_view c.self.inside

    l : c.args.node < length net.operators
    l = subst (λ (p : Parts). c.args.node < length p.operators) (sym c.self.view_is) c.requires

    at : slice_get net.operators c.args.node ≡ Some (Some c.in-Some-index_mut.operator)
    at = found net.operators c.args.node c.index_mut.result.now l c.index_mut.ensures.value ∙ ap Some c.in-Some-index_mut.is

pub invariant_of-self-in-Ok-1 : goal.invariant_of-self-in-Ok-1
invariant_of-self-in-Ok-1 c = (
  (λ running. by_moved c.in-Ok.moved refl),
  listed_on c.self.inside.atoms.items net.operators c.args.node c.in-Some-index_mut.operator c.step_one.new.operator c.self.invariant.1 at,
)
  where
    net : Parts
    net = the_view c.self.inside

    l : c.args.node < length net.operators
    l = subst (λ (p : Parts). c.args.node < length p.operators) (sym c.self.view_is) c.requires

    at : slice_get net.operators c.args.node ≡ Some (Some c.in-Some-index_mut.operator)
    at = found net.operators c.args.node c.index_mut.result.now l c.index_mut.ensures.value ∙ ap Some c.in-Some-index_mut.is

    w : (nodes : List Node) × (header : Header) × (events : List Event) × Stands nodes header net events
    w = c.self.invariant.0 c.if-self.false

    by_moved : (moved : Bool) → c.in-Ok.moved ≡ moved → (nodes : List Node) × (header : Header) × (events : List Event)
        × Stands nodes header
        (record net { edges = c.step_one.new.edges; operators = slice_set net.operators c.args.node (Some c.step_one.new.operator) }) events
    by_moved true is =
        let b = belongs_now w.0 w.1 w.2 net w.3 c.args.node c.in-Some-index_mut.operator c.in-Some.row c.time-now.result at c.in-Some.is c.time-now.ensures in
        let x = step_by w.0 w.1 w.2 net w.3 c.in-Some-index_mut.operator c.step_one.new.operator c.step_one.new.edges c.in-Some.row c.time-now.result
        c.in-Ok.moved c.time-now.ensures (c.in-Ok.ensures.stepped w.0 w.1 w.2 b) is in (
          w.0,
          w.1,
          w.2 ++ step c.args.node ∷ [],
          moved_stands w.0 w.1 w.2 net w.3 c.args.node c.in-Some-index_mut.operator c.step_one.new.operator c.in-Some.row c.step_one.new.edges
              (slice_set net.operators c.args.node (Some c.step_one.new.operator)) at c.in-Some.is x
              (length-set net.operators c.args.node (Some c.step_one.new.operator))
              (slice_get-set_same net.operators c.args.node (Some c.step_one.new.operator) l)
              (λ j. slice_get-set_other net.operators c.args.node j (Some c.step_one.new.operator)),
        )
    by_moved false is = (
      w.0,
      w.1,
      w.2,
      subst (λ (p : Parts). Stands w.0 w.1 p w.2)
          (unmoved_parts net c.args.node c.in-Some-index_mut.operator c.step_one.new.operator c.step_one.new.edges at (c.in-Ok.ensures.idle is)
          (c.in-Ok.ensures.idle_operator is)) w.3,
    )

pub returns-then-not-moved-clause-moved : goal.returns-then-not-moved-clause-moved
returns-then-not-moved-clause-moved c nodes header events st =
    let net : Parts = the_view c.self.inside in
    let now : Stands nodes header net events = subst (λ (p : Parts). Stands nodes header p events) (sym c.self.view_is) st in
    let l : c.args.node < length net.operators = subst (λ (p : Parts). c.args.node < length p.operators) (sym c.self.view_is) c.requires in
    let at : slice_get net.operators c.args.node ≡ Some (Some c.in-Some-index_mut.operator) =
    found net.operators c.args.node c.index_mut.result.now l c.index_mut.ensures.value ∙ ap Some c.in-Some-index_mut.is in
    let b = belongs_now nodes header events net now c.args.node c.in-Some-index_mut.operator c.in-Some.row c.time-now.result at
    c.in-Some.is c.time-now.ensures in
    let answer = c.in-Ok.ensures.stepped nodes header events b in
    let none : c.in-Ok.moved ≡ false = (let e = c.if-not-moved.true in cc) in
    not_moved (unready_by nodes header events net now c.args.node c.in-Some-index_mut.operator c.step_one.new.operator c.step_one.new.edges
    c.time-now.result c.in-Ok.moved at answer none)

pub returns-then-not-moved-clause-stands : goal.returns-then-not-moved-clause-stands
returns-then-not-moved-clause-stands c nodes header events st other =
    let net : Parts = the_view c.self.inside in
    let now : Stands nodes header net events = subst (λ (p : Parts). Stands nodes header p events) (sym c.self.view_is) st in
    let l : c.args.node < length net.operators = subst (λ (p : Parts). c.args.node < length p.operators) (sym c.self.view_is) c.requires in
    let at : slice_get net.operators c.args.node ≡ Some (Some c.in-Some-index_mut.operator) =
    found net.operators c.args.node c.index_mut.result.now l c.index_mut.ensures.value ∙ ap Some c.in-Some-index_mut.is in
    let b = belongs_now nodes header events net now c.args.node c.in-Some-index_mut.operator c.in-Some.row c.time-now.result at
    c.in-Some.is c.time-now.ensures in
    let answer = c.in-Ok.ensures.stepped nodes header events b in
    let n : c.args.node < length nodes = (let d = now.holds.operators in omega (arith, l, d)) in
    let none : c.in-Ok.moved ≡ false = (let e = c.if-not-moved.true in cc) in
    let unready = unready_by nodes header events net now c.args.node c.in-Some-index_mut.operator c.step_one.new.operator c.step_one.new.edges
    c.time-now.result c.in-Ok.moved at answer none in
    subst (λ (p : Parts). Stands nodes header p (events ++ step c.args.node ∷ []))
    (unmoved_parts net c.args.node c.in-Some-index_mut.operator c.step_one.new.operator c.step_one.new.edges at (c.in-Ok.ensures.idle none)
    (c.in-Ok.ensures.idle_operator none))
    (idle_stands nodes header events net now c.args.node n other unready)

pub returns-clause-moved : goal.returns-clause-moved
returns-clause-moved c nodes header events st =
    let net : Parts = the_view c.self.inside in
    let now : Stands nodes header net events = subst (λ (p : Parts). Stands nodes header p events) (sym c.self.view_is) st in
    let l : c.args.node < length net.operators = subst (λ (p : Parts). c.args.node < length p.operators) (sym c.self.view_is) c.requires in
    let at : slice_get net.operators c.args.node ≡ Some (Some c.in-Some-index_mut.operator) =
    found net.operators c.args.node c.index_mut.result.now l c.index_mut.ensures.value ∙ ap Some c.in-Some-index_mut.is in
    let b = belongs_now nodes header events net now c.args.node c.in-Some-index_mut.operator c.in-Some.row c.time-now.result at
    c.in-Some.is c.time-now.ensures in
    let answer = c.in-Ok.ensures.stepped nodes header events b in
    let some : c.in-Ok.moved ≡ true = (let e = c.if-not-moved.false in cc) in
    let x = step_by nodes header events net now c.in-Some-index_mut.operator c.step_one.new.operator c.step_one.new.edges c.in-Some.row
    c.time-now.result c.in-Ok.moved c.time-now.ensures answer some in
    let kept = kept_operator nodes header events net now c.args.node c.in-Some-index_mut.operator at in
    (λ y. subst (λ i. IsReady nodes (state nodes events) i) kept.1 x.ready, λ y. refl)

pub returns-clause-stands : goal.returns-clause-stands
returns-clause-stands c nodes header events st other =
    let net : Parts = the_view c.self.inside in
    let now : Stands nodes header net events = subst (λ (p : Parts). Stands nodes header p events) (sym c.self.view_is) st in
    let l : c.args.node < length net.operators = subst (λ (p : Parts). c.args.node < length p.operators) (sym c.self.view_is) c.requires in
    let at : slice_get net.operators c.args.node ≡ Some (Some c.in-Some-index_mut.operator) =
    found net.operators c.args.node c.index_mut.result.now l c.index_mut.ensures.value ∙ ap Some c.in-Some-index_mut.is in
    let b = belongs_now nodes header events net now c.args.node c.in-Some-index_mut.operator c.in-Some.row c.time-now.result at
    c.in-Some.is c.time-now.ensures in
    let answer = c.in-Ok.ensures.stepped nodes header events b in
    let some : c.in-Ok.moved ≡ true = (let e = c.if-not-moved.false in cc) in
    let x = step_by nodes header events net now c.in-Some-index_mut.operator c.step_one.new.operator c.step_one.new.edges c.in-Some.row
    c.time-now.result c.in-Ok.moved c.time-now.ensures answer some in
    moved_stands nodes header events net now c.args.node c.in-Some-index_mut.operator c.step_one.new.operator c.in-Some.row c.step_one.new.edges
    (slice_set net.operators c.args.node (Some c.step_one.new.operator)) at c.in-Some.is x
    (length-set net.operators c.args.node (Some c.step_one.new.operator)) (slice_get-set_same net.operators c.args.node (Some c.step_one.new.operator) l)
    (λ j. slice_get-set_other net.operators c.args.node j (Some c.step_one.new.operator))

pub returns-then-not-moved-clause-joins : goal.returns-then-not-moved-clause-joins
returns-then-not-moved-clause-joins c = λ j.
    let none : c.in-Ok.moved ≡ false = (let e = c.if-not-moved.true in cc) in
    ap (λ (e : Held). (edge_at e j).joins) (c.in-Ok.ensures.idle none) ∙ ap (λ (p : Parts). (edge_at p.edges j).joins) c.self.view_is

pub returns-clause-joins : goal.returns-clause-joins
returns-clause-joins c = λ j.
    let net : Parts = the_view c.self.inside in
    let w = c.self.invariant.0 c.if-self.false in
    let l : c.args.node < length net.operators = subst (λ (p : Parts). c.args.node < length p.operators) (sym c.self.view_is) c.requires in
    let at : slice_get net.operators c.args.node ≡ Some (Some c.in-Some-index_mut.operator) =
    found net.operators c.args.node c.index_mut.result.now l c.index_mut.ensures.value ∙ ap Some c.in-Some-index_mut.is in
    let b = belongs_now w.0 w.1 w.2 net w.3 c.args.node c.in-Some-index_mut.operator c.in-Some.row c.time-now.result at
    c.in-Some.is c.time-now.ensures in
    let some : c.in-Ok.moved ≡ true = (let e = c.if-not-moved.false in cc) in
    let x = step_by w.0 w.1 w.2 net w.3 c.in-Some-index_mut.operator c.step_one.new.operator c.step_one.new.edges c.in-Some.row
    c.time-now.result c.in-Ok.moved c.time-now.ensures (c.in-Ok.ensures.stepped w.0 w.1 w.2 b) some in
    x.stepped.joins j ∙ ap (λ (p : Parts). (edge_at p.edges j).joins) c.self.view_is
