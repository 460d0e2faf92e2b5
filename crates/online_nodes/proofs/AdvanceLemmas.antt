-- From the parts of a step, the body's work, what is put, let go and noted, to what the step leaves.
use Rattle.std.proofs.Common.{◌≡◌, ◌≢◌, ◌⊎◌, inl, inr, refl, sym, ap, subst, ◌∙◌, ℕ, ◌+◌, ◌*◌, ◌^◌, ◌<◌, ◌≤◌, Bool, true, false}
use Rattle.std.proofs.Common.{Option, Some, None, List, [], ◌∷◌, ◌++◌, length, ℤ, pos, ◌+ℤ◌, arith, length-append}
use Rattle.std.specs.Prelude.{◌-◌, min, option_map}
use Rattle.std.proofs.lemmas.Bool.{cases_eq}
use Rattle.rational.specs.Rational.{whole}
use Rattle.stl_syntax.specs.Trace.{Header, Trace}
use Rattle.stl_syntax.specs.Verdicts.{Describes}
use Rattle.stl_syntax.specs.declared.items.Verdict.{Verdict}
use Rattle.stl_syntax.specs.declared.node.Node.{Node}
use Rattle.online_nodes.specs.Network.{Event, State, after_event, answered, shown, step, reach_back}
use Rattle.online_nodes.specs.Needed.{IsJoinedEdge, IsReader}
use Rattle.online_nodes.specs.Answering.{HasAnswered, HasReleased, HasWorkedOn, IsInput, IsOperand, looks_by}
use Rattle.online_nodes.specs.Belonging.{HasStepped, StandsForSteps, room_of_step, trace_of}
use Rattle.online_nodes.specs.Stepping.{Situation, HasWorkedOut, IsBegun, IsDue, end_of, first_in, formula_of, state_in, stretch_of, trace_in}
use Rattle.rational.specs.Places.{Before, Place, Same, begins, ends}
use Rattle.frac128.specs.Cuts.{place}
use Rattle.frac128.specs.declared.cut.Cut.{Cut}
use Rattle.online_nodes.specs.Held.{Edge, Held, edge_at, fresh_at, held_at, held_of, number_at, with_edge, with_more, with_number, IsDroppedBy}
use Rattle.online_nodes.specs.Kinds.{held_in, inputs_of, keeps_marks}
use Rattle.online_nodes.specs.Laws.{beyond}
use Rattle.online_nodes.specs.Operators.{KnowsBy}
use Rattle.online_nodes.specs.Working.{IsReadOn}
use Rattle.online_nodes.specs.Written.{HasGot}
use Rattle.online_nodes.specs.declared.answering.Marks.{Marks}
use Rattle.online_nodes.specs.declared.answering.Outcome.{Outcome}
use Rattle.online_nodes.specs.declared.kind.Kind.{Kind}
use Rattle.online_nodes.specs.declared.kind.Kind.TheVariants.{Const as Constant, Not as Negation, Join as Connective}
use Rattle.online_nodes.specs.declared.kind.Kind.TheVariants.{Over, Until as UntilOf, Since as SinceOf}
use Rattle.online_nodes.specs.declared.operator.Operator.{Operator}
use Rattle.online_nodes.proofs.BelongLemmas.{own_edge, own_reach_small, room_if_ready}
use Rattle.online_nodes.proofs.BodyLemmas.{body_worked}
use Rattle.online_nodes.proofs.DroppedLemmas.{dropped_joins, dropped_number}
use Rattle.online_nodes.proofs.DueLemmas.{among_apart, begin_before, input_reader, kind_is}
use Rattle.online_nodes.proofs.EdgeLaw.{reads_or_not}
use Rattle.online_nodes.proofs.EmittedLaw.{front_shown}
use Rattle.online_nodes.proofs.GotLemmas.{got-here, got-length, got-other, with_more-both}
use Rattle.online_nodes.proofs.ReadLemmas.{edge_later, own_after, with_step}
use Rattle.online_nodes.proofs.ReaderLemmas.{looks_is, reads_side}
use Rattle.online_nodes.proofs.ReleasedLemmas.{released_knows}
use Rattle.online_nodes.proofs.StepFacts.{let_go_is}
use Rattle.online_nodes.proofs.SteppedLemmas.{emitted_here, reached-here, reached-length, reached-other}

-- a node's side is an input of it
pub side_input : (k : Kind) (left : Bool) (j : ℕ) → IsOperand k left j → IsInput k j
side_input (Negation p) true j h = h
side_input (Connective join inputs) true j h = inl h
side_input (Connective join inputs) false j h = inr h
side_input (Over w) true j h = h
side_input (UntilOf u) true j h = inl h
side_input (UntilOf u) false j h = inr h
side_input (SinceOf s) true j h = inl h
side_input (SinceOf s) false j h = inr h
side_input _ _ j h = absurd h

-- more was put onto a node's edge
put_on : {kind : Kind} {old mid put : Held} {own : ℕ} {more last : List Verdict} → own < length old.edges
    → ((j : ℕ) → IsInput kind j → j ≢ own) → HasWorkedOn kind old mid own more → HasGot mid put own last → HasWorkedOn kind old put own (more ++ last)
put_on {kind} {old} {mid} {put} {own} {more} {last} within apart w got =
    let own_mid : own < length mid.edges = omega (arith, within, w.count) in
    record {
      count = got-length got ∙ w.count;
      got = got-here got own_mid ∙ ap (λ x. with_more x last) w.got ∙ with_more-both (edge_at old own) more last;
      read = λ j is. subst (λ (x : Edge). IsReadOn (edge_at old j) x) (sym (got-other got j (apart j is))) (w.read j is);
      others = λ j other none. got-other got j other ∙ w.others j other none;
      start = got.start ∙ w.start;
      spare = omega (arith, w.spare, got.spare, length-append more last);
    }

-- a list that fits in twice what is held, and in an edge that can be counted
few_min : (n a b : ℕ) → n ≤ a → n ≤ b → n ≤ min a b
few_min n a b h k = omega (arith, h, k)

-- what a node that keeps nothing in mind knows of its inputs it knows whatever its marks are
plain_knows : (k : Kind) → keeps_marks k ≡ false → (nodes : List Node) (tr : Trace) (e : Held) (at reach run other_reach other_run : Place)
    → KnowsBy k nodes tr e at reach run → KnowsBy k nodes tr e at other_reach other_run
plain_knows (Constant b) plain nodes tr e at reach run reach_2 run_2 h = h
plain_knows (Negation p) plain nodes tr e at reach run reach_2 run_2 h = h
plain_knows (Connective join inputs) plain nodes tr e at reach run reach_2 run_2 h = h
plain_knows (Over w) plain nodes tr e at reach run reach_2 run_2 h = absurd (let z : true ≡ false = plain in cc)
plain_knows (UntilOf u) plain nodes tr e at reach run reach_2 run_2 h = absurd (let z : true ≡ false = plain in cc)
plain_knows (SinceOf s) plain nodes tr e at reach run reach_2 run_2 h = absurd (let z : true ≡ false = plain in cc)

-- so its operator stands for the steps whatever its marks are
pub plain_stands : (nodes : List Node) (header : Header) (events : List Event) (op : Operator) (e : Held) (front : ℕ) (reach run : Cut)
    → keeps_marks op.kind ≡ false → StandsForSteps nodes header events (record op { front = Some front; reach = reach; run = run }) e
    → StandsForSteps nodes header events (record op { front = Some front }) e
plain_stands nodes header events op e front reach run plain s = record {
  node = s.node;
  at = s.at;
  no_atom = s.no_atom;
  kind = s.kind;
  front = s.front;
  unread = s.unread;
  knows = plain_knows op.kind plain nodes _ e _ (place reach) (place run) (place op.reach) (place op.run) s.knows;
}

-- a step to a front that is not below the start, part by part
module _ {x : Situation} {op : Operator} {old : Held} (d : IsDue x op old) {begun : Outcome} (g : IsBegun x op begun) {put : Held} {marks : Marks}
    (a : HasAnswered op.kind old put begun.out begun.marks marks) where
  -- the body did its work
  pub work : HasWorkedOut x op old a.mid a.told
  work = body_worked d g a.told a.body

  last_got : HasGot a.mid put op.node a.finished.more
  last_got = subst (λ (i : ℕ). HasGot a.mid put i a.finished.more) work.edge a.finished.got

  abbrev pub verdicts : List Verdict
  verdicts = work.more ++ a.finished.more

  all_put : HasWorkedOn op.kind old put op.node verdicts
  all_put = put_on (own_edge d.belongs) (among_apart d) work.worked last_got

  -- there are as many edges as before once what was told was put
  pub put_count : length put.edges ≡ length old.edges
  put_count = all_put.count

  -- the operator's edge stands among those that were put
  pub put_within : op.node < length put.edges
  put_within = let l = own_edge d.belongs in let n = put_count in omega arith

  module _ {released new : Held} (r : HasReleased op.kind x.front put released)
      (noted : new ≡ record released { edges = with_edge released op.node (with_number (edge_at released op.node) x.front) }) where
    same_count : length released.edges ≡ length old.edges
    same_count = r.count ∙ all_put.count

    -- the node's edge
    own_new : edge_at new op.node ≡ with_number (with_more (edge_at old op.node) verdicts) x.front
    own_new =
        let l = own_edge d.belongs in
        let within : op.node < length released.edges = omega (arith, l, same_count) in
        reached-here released new op.node x.front within noted
        ∙ ap (λ (y : Edge). with_number y x.front) (r.others op.node (λ is. among_apart d op.node is refl) ∙ all_put.got)

    -- the other ones
    other_new : (j : ℕ) → j ≢ op.node → edge_at new j ≡ edge_at released j
    other_new j apart = reached-other released new op.node x.front j apart noted

    -- what an input's edge let go since the body worked
    lets_new : (j : ℕ) (left : Bool) → IsOperand op.kind left j
        → IsDroppedBy (x.front +ℤ looks_by op.kind left) (edge_at a.mid j) (edge_at new j)
    lets_new j left s =
        let apart = among_apart d j (side_input op.kind left j s) in
        subst (λ (y : Edge). IsDroppedBy (x.front +ℤ looks_by op.kind left) y (edge_at new j)) (got-other last_got j apart)
        (subst (λ (y : Edge). IsDroppedBy (x.front +ℤ looks_by op.kind left) (edge_at put j) y) (sym (other_new j apart)) (r.one j left s))

    knows_new : KnowsBy op.kind x.nodes (trace_in x) new (end_of x) (place marks.reach) (place marks.run)
    knows_new =
        subst (λ (m : Marks). KnowsBy op.kind x.nodes (trace_in x) new (end_of x) (place m.reach) (place m.run)) (sym a.is)
        (released_knows d work new lets_new)

    describes : Describes verdicts (formula_of x op) (trace_in x) (stretch_of x op)
    describes = a.finished.describes (formula_of x op) (trace_in x) (stretch_of x op) work.more
        (subst (λ (c : Place). Before (begins (stretch_of x op)) c) (sym ends_there) (begin_before d)) work.told
        (subst (λ (c : Place). Same (place a.told.out.at) c) (sym ends_there) work.end)
      where
        ends_there : ends (stretch_of x op) ≡ end_of x
        ends_there = by_front (option_map pos op.front)
          where
            by_front : (o : Option ℤ) → ends (answered (first_in x) o x.front) ≡ end_of x
            by_front None = refl
            by_front (Some f) = refl

    -- an input's edge joins where it joined
    input_joins : (j : ℕ) (left : Bool) → IsReader d.belongs.stands.node left j → (edge_at new j).joins ≡ (edge_at old j).joins
    input_joins j left reads =
        let side : IsOperand op.kind left j =
        subst (λ k. IsOperand k left j) (sym (kind_is d)) (reads_side d.belongs.stands.node left j reads) in
        let read = work.worked.read j (side_input op.kind left j side) in
        dropped_joins (lets_new j left side) ∙ read.joins

    -- an edge that is neither the node's nor an input's stays
    stays_new : (j : ℕ) → j ≢ op.node → ((left : Bool) → IsReader d.belongs.stands.node left j → ⊥) → edge_at new j ≡ edge_at old j
    stays_new j apart none =
        let no : IsInput op.kind j → ⊥ = λ is. (let q = input_reader d j is in none q.0 q.1) in
        other_new j apart ∙ r.others j no ∙ all_put.others j apart no

    -- no edge begins to join, and none ceases to
    joins_new : (j : ℕ) → (edge_at new j).joins ≡ (edge_at old j).joins
    joins_new j = by_place (cases_eq j op.node)
      where
        by_read : j ≢ op.node → ((left : Bool) × IsReader d.belongs.stands.node left j) ⊎ ((left : Bool) → IsReader d.belongs.stands.node left j → ⊥)
            → (edge_at new j).joins ≡ (edge_at old j).joins
        by_read apart (inl (left, reads)) = input_joins j left reads
        by_read apart (inr none) = ap (λ (y : Edge). y.joins) (stays_new j apart none)

        by_place : (j ≡ op.node) ⊎ (j ≢ op.node) → (edge_at new j).joins ≡ (edge_at old j).joins
        by_place (inl same) = subst (λ (k : ℕ). (edge_at new k).joins ≡ (edge_at old k).joins) (sym same) (ap (λ (y : Edge). y.joins) own_new)
        by_place (inr apart) = by_read apart (reads_or_not d.belongs.stands.node j)

    input_new : (j : ℕ) (left : Bool) → IsReader d.belongs.stands.node left j
        → (number_at new j ≡ number_at old j) × IsJoinedEdge x.nodes x.header (x.events ++ step op.node ∷ []) (edge_at new j).joins j (held_at new j)
    input_new j left reads =
        let side : IsOperand op.kind left j =
        subst (λ k. IsOperand k left j) (sym (kind_is d)) (reads_side d.belongs.stands.node left j reads) in
        let read = work.worked.read j (side_input op.kind left j side) in
        let looks : looks_by op.kind left ≡ reach_back d.belongs.stands.node left =
        ap (λ k. looks_by k left) (kind_is d) ∙ looks_is d.belongs.stands.node left j reads (own_reach_small d.belongs) in (
          dropped_number (lets_new j left side) ∙ read.number,
          subst (λ (t : Bool). IsJoinedEdge x.nodes x.header (x.events ++ step op.node ∷ []) t j (held_at new j)) (sym (input_joins j left reads))
              (edge_later d.belongs j left reads x.front d.allowed (held_at new j) d.low
              (let_go_is (x.front +ℤ looks_by op.kind left) (edge_at a.mid j) (edge_at new j) (lets_new j left side)
              ∙ ap (λ (l : List Verdict). beyond (whole (x.front +ℤ looks_by op.kind left)) l) read.held
              ∙ ap (λ (z : ℤ). beyond (whole (x.front +ℤ z)) (held_at old j)) looks)),
        )

    -- what was put can be counted
    pub few_put : length (held_at put op.node) ≤ 2 ^ 64 - 1 → length verdicts ≤ room_of_step x.nodes x.events op.node old
    few_put counted =
        let here : length (held_at put op.node) ≡ length ((edge_at old op.node).seen ++ (fresh_at old op.node ++ verdicts)) =
        ap (λ (y : Edge). length (held_of y)) all_put.got in
        let all : length verdicts ≤ 2 ^ 64 - 1 =
        omega (
          arith,
          counted,
          here,
          length-append (edge_at old op.node).seen (fresh_at old op.node ++ verdicts),
          length-append (fresh_at old op.node) verdicts,
        ) in
        let most : length verdicts ≤ 2 * held_in old (inputs_of op.kind) + 2 =
        omega (arith, work.owed, a.finished.owed, length-append work.more a.finished.more) in
        subst (λ (m : ℕ). length verdicts ≤ m) (room_if_ready d.belongs d.ready)
        (few_min (length verdicts) (2 * held_in old (inputs_of op.kind) + 2) (2 ^ 64 - 1) most all)

    -- the edges are those that a step leaves, if the operator's edge has room
    pub step_stepped : length (held_at put op.node) ≤ 2 ^ 64 - 1 → HasStepped x.nodes x.header x.events op.node old new
    step_stepped counted = record {
      verdicts = verdicts;
      emitted = emitted_here d.belongs x.front verdicts d.allowed d.ready d.low describes;
      few = few_put counted;
      seen = ap (λ (y : Edge). y.seen) own_new;
      got = ap (λ (y : Edge). y.fresh) own_new;
      number = ap (λ (y : Edge). y.number) own_new ∙ sym d.allowed;
      inputs = λ j n left at reads.
          let same : n ≡ d.belongs.stands.node = (let p = d.belongs.stands.at in cc) in
          input_new j left (subst (λ (m : Node). IsReader m left j) same reads);
      others = λ j apart none. stays_new j apart (λ left reads. none d.belongs.stands.node left d.belongs.stands.at reads);
      joins = joins_new;
      edges = reached-length released new op.node x.front noted ∙ same_count;
      start = ap (λ (y : Held). y.start) noted ∙ r.start ∙ all_put.start;
      spare = let s : new.spare ≡ released.spare = ap (λ (y : Held). y.spare) noted in omega (arith, s, r.spare, all_put.spare);
    }

    -- the operator stands for the step
    pub step_stands : (front : ℕ) → x.front ≡ pos front
        → StandsForSteps x.nodes x.header (x.events ++ step op.node ∷ [])
        (record op { front = Some front; reach = marks.reach; run = marks.run }) new
    step_stands front is = record {
      node = d.belongs.stands.node;
      at = d.belongs.stands.at;
      no_atom = d.belongs.stands.no_atom;
      kind = d.belongs.stands.kind;
      front = ap (λ (st : State). shown st op.node) (with_step d.belongs)
          ∙ front_shown (after_event x.nodes (state_in x) (step op.node)) op.node x.front (own_after d.belongs ∙ d.allowed) d.low
          ∙ ap (λ (z : ℤ). Some z) is;
      unread = λ e. absurd (let y : Some front ≡ None = e in cc);
      knows = subst (λ (st : State). KnowsBy op.kind x.nodes (trace_of x.header st) new (record { at = whole (pos front); after = true })
          (place marks.reach) (place marks.run)) (sym (with_step d.belongs))
          (subst (λ (z : ℤ). KnowsBy op.kind x.nodes (trace_in x) new (record { at = whole z; after = true }) (place marks.reach) (place marks.run)) is
          knows_new);
    }
