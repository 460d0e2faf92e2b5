-- From a step's parts to what it leaves: the verdicts of the stretch on the node's edge, the inputs' edges, and the operator that belongs
-- to them.
use Rattle.std.proofs.Common.{◌≡◌, ◌≢◌, refl, sym, ap, subst, ◌∙◌, ℕ, ◌<◌, Bool, true, false, Some}
use Rattle.std.proofs.Common.{None, List, [], ◌∷◌, ◌++◌, length, ℤ, pos, ◌≤ℤ◌, ◌<ℤ◌, arith}
use Rattle.std.specs.Prelude.{◌&&◌, not, option_map, slice_get, MatchBool}
use Rattle.std.proofs.lemmas.Int.{ints}
use Rattle.std.proofs.lemmas.List.{get_or-set_same, get_or-set_other, length-set}
use Rattle.std.proofs.lemmas.Option.{same_Some}
use Rattle.stl_syntax.specs.Trace.{Header, first_time}
use Rattle.stl_syntax.specs.Formula.{subformula}
use Rattle.stl_syntax.specs.Verdicts.{Describes}
use Rattle.stl_syntax.specs.declared.items.Verdict.{Verdict}
use Rattle.stl_syntax.specs.declared.node.Node.{Node}
use Rattle.online_nodes.specs.Network.{Event, step, Front, State, EmittedAt, IsRun, after_event, allowed_at, answered, last_row}
use Rattle.online_nodes.specs.Network.{same_front, shown, state}
use Rattle.online_nodes.specs.Needed.{IsReader}
use Rattle.online_nodes.specs.Belonging.{Belongs, HasStepped, StandsForSteps, is_ready, trace_of}
use Rattle.online_nodes.specs.Held.{Held, edge_at, no_edge, number_at, with_edge, with_number}
use Rattle.online_nodes.specs.declared.operator.Operator.{Operator}
use Rattle.online_nodes.proofs.BelongLemmas.{no_atom_here, own_within}
use Rattle.online_nodes.proofs.EdgeLaw.{run_more, step_leaves}
use Rattle.online_nodes.proofs.EmittedLaw.{front_shown}
use Rattle.online_nodes.proofs.ReadLemmas.{input_apart, own_after, with_step}
use Rattle.online_nodes.proofs.StayLaw.{shown_is}
use Rattle.online_nodes.proofs.RisingLaw.{same_is, same_of}

-- an edge that notes its number
pub reached-here : (old new : Held) (i : ℕ) (n : ℤ) → i < length old.edges → new ≡ record old { edges = with_edge old i (with_number (edge_at old i) n) }
    → edge_at new i ≡ with_number (edge_at old i) n
reached-here old new i n within is =
    ap (λ (e : Held). edge_at e i) is ∙ get_or-set_same old.edges i (with_number (edge_at old i) n) no_edge within

-- noting a number leaves the other edges
pub reached-other : (old new : Held) (i : ℕ) (n : ℤ) (j : ℕ) → j ≢ i
    → new ≡ record old { edges = with_edge old i (with_number (edge_at old i) n) } → edge_at new j ≡ edge_at old j
reached-other old new i n j other is =
    ap (λ (e : Held). edge_at e j) is ∙ get_or-set_other old.edges i j (with_number (edge_at old i) n) no_edge other

-- noting a number leaves as many edges as before
pub reached-length : (old new : Held) (i : ℕ) (n : ℤ) → new ≡ record old { edges = with_edge old i (with_number (edge_at old i) n) }
    → length new.edges ≡ length old.edges
reached-length old new i n is = ap (λ (e : Held). length e.edges) is ∙ length-set old.edges i (with_number (edge_at old i) n)

module _ {nodes : List Node} {header : Header} {events : List Event} {op : Operator} {e : Held} {now : ℕ} {ended : Bool}
    (b : Belongs nodes header events op e now ended) where
  -- the step makes a run with the events before it
  pub step_runs : IsRun nodes header (events ++ step op.node ∷ [])
  step_runs = run_more nodes header b.formed events (step op.node) b.run (own_within b, no_atom_here b)

  -- a step to a number that is not below the start gives out what describes the node on the newly answered stretch
  pub emitted_here : (f : ℤ) (verdicts : List Verdict) → allowed_at nodes (state nodes events) op.node ≡ Some f
      → is_ready nodes (state nodes events) op.node ≡ true → pos (first_time (state nodes events).rows) ≤ℤ f
      → Describes verdicts (subformula nodes op.node) (trace_of header (state nodes events))
      (answered (first_time (state nodes events).rows) (option_map pos op.front) f)
      → EmittedAt nodes header op.node (state nodes events) (state nodes (events ++ step op.node ∷ [])) verdicts
  emitted_here f verdicts allowed ready low d =
      subst (λ (st : State). EmittedAt nodes header op.node (state nodes events) st verdicts) (sym (with_step b))
      (by_front (shown s' op.node) shows)
    where
      s' : State
      s' = after_event nodes (state nodes events) (step op.node)

      shows : shown s' op.node ≡ Some f
      shows = front_shown s' op.node f (own_after b ∙ allowed) low

      Gives : Front → Type 0
      Gives None = verdicts ≡ []
      Gives (Some g) =
          MatchBool (same_front (shown (state nodes events) op.node) (Some g)) (verdicts ≡ [])
          (Describes verdicts (subformula nodes op.node) (record { header = header; rows = s'.rows })
          (answered (first_time s'.rows) (shown (state nodes events) op.node) g))

      differs : (t : Bool) → same_front (shown (state nodes events) op.node) (Some f) ≡ t
          → same_front (shown (state nodes events) op.node) (Some f) ≡ false
      differs false x = x
      differs true x =
          let was = shown_is nodes header b.formed.post_order (state nodes events) op.node f (same_is (shown (state nodes events) op.node) (Some f) x)
          in
          let same : same_front (allowed_at nodes (state nodes events) op.node) ((state nodes events).fronts op.node) ≡ true =
          same_of (allowed_at nodes (state nodes events) op.node) ((state nodes events).fronts op.node) (allowed ∙ sym was.0) in
          let atom = no_atom_here b in
          absurd (ready_not same atom ready)
        where
          ready_not : {a t : Bool} → t ≡ true → a ≡ false → (not a && not t) ≡ true → ⊥
          ready_not {a} {t} p q r = (let z : (not false && not true) ≡ true = subst (λ (c : Bool). (not false && not c) ≡ true) p
              (subst (λ (c : Bool). (not c && not t) ≡ true) q r) in let w : false ≡ true = z in cc)

      here : Gives (Some f)
      here = subst (λ (t : Bool). MatchBool t (verdicts ≡ []) (Describes verdicts (subformula nodes op.node) (record { header = header; rows = s'.rows })
          (answered (first_time s'.rows) (shown (state nodes events) op.node) f))) (sym (differs _ refl))
          (subst (λ (o : Front). Describes verdicts (subformula nodes op.node) (record { header = header; rows = s'.rows })
          (answered (first_time s'.rows) o f)) (sym b.stands.front) d)

      by_front : (o : Front) → o ≡ Some f → Gives o
      by_front o x = subst Gives (sym x) here

  -- a step to a number below the start gives out nothing
  pub nothing_here : (f : ℤ) → allowed_at nodes (state nodes events) op.node ≡ Some f → f <ℤ pos (first_time (state nodes events).rows)
      → EmittedAt nodes header op.node (state nodes events) (state nodes (events ++ step op.node ∷ [])) []
  nothing_here f allowed low =
      subst (λ (st : State). EmittedAt nodes header op.node (state nodes events) st []) (sym (with_step b))
      (subst Gives (sym hidden) refl)
    where
      s' : State
      s' = after_event nodes (state nodes events) (step op.node)

      none : List Verdict
      none = []

      Gives : Front → Type 0
      Gives None = none ≡ []
      Gives (Some g) =
          MatchBool (same_front (shown (state nodes events) op.node) (Some g)) (none ≡ [])
          (Describes none (subformula nodes op.node) (record { header = header; rows = s'.rows })
          (answered (first_time s'.rows) (shown (state nodes events) op.node) g))

      hidden : shown s' op.node ≡ None
      hidden = by_shown (shown s' op.node) refl
        where
          by_shown : (o : Front) → shown s' op.node ≡ o → shown s' op.node ≡ None
          by_shown None x = x
          by_shown (Some g) x =
              let was = shown_is nodes header b.formed.post_order s' op.node g x in
              let at : g ≡ f = same_Some g f (sym was.0 ∙ own_after b ∙ allowed) in
              absurd (let l = was.1 in omega (arith, ints))

  -- what the step leaves, and an operator that stands for it, belong together
  pub belongs_after : (next : Operator) (new : Held) → next.node ≡ op.node → HasStepped nodes header events op.node e new
      → StandsForSteps nodes header (events ++ step op.node ∷ []) next new
      → Belongs nodes header (events ++ step op.node ∷ []) next new now ended
  belongs_after next new same stepped stands = record {
    formed = b.formed;
    one_root = b.one_root;
    run = step_runs;
    edges = stepped.edges ∙ b.edges;
    start = stepped.start ∙ b.start ∙ ap (λ (st : State). Some (first_time st.rows)) (sym (with_step b));
    last = ap last_row (with_step b) ∙ b.last;
    closed = ap (λ (st : State). st.closed) (with_step b) ∙ b.closed;
    number = subst (λ (i : ℕ). number_at new i ≡ (state nodes (events ++ step op.node ∷ [])).fronts i) (sym same)
        (stepped.number ∙ sym (own_after b) ∙ ap (λ (st : State). st.fronts op.node) (sym (with_step b)));
    inputs = λ j n left at r.
        let here : slice_get nodes op.node ≡ Some n = subst (λ (i : ℕ). slice_get nodes i ≡ Some n) same at in
        let left_is = stepped.inputs j n left here r in
        let node : n ≡ b.stands.node = (let p = b.stands.at in cc) in
        let apart : j ≢ op.node = input_apart b j left (subst (λ (m : Node). IsReader m left j) node r) in (
          left_is.0 ∙ (b.inputs j n left here r).0 ∙ sym (step_leaves nodes header b.formed (state nodes events) op.node j apart)
              ∙ ap (λ (st : State). st.fronts j) (sym (with_step b)),
          left_is.1,
        );
    stands = stands;
  }
