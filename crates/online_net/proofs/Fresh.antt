-- A new network stands for the empty run.
use Rattle.std.proofs.Common.{◌≡◌, ◌⊎◌, inl, inr, refl, sym, ap, subst, ◌∙◌, ℕ, zero, suc, ◌+◌, ◌-◌, ◌<◌, ◌≤◌}
use Rattle.std.proofs.Common.{true, false, Option, Some, None, List, [], ◌∷◌, ◌++◌, length, length-append, arith, ◌≢◌}
use Rattle.std.specs.Prelude.{slice_get, slice_index_or, replicate}
use Rattle.std.proofs.lemmas.Bool.{cases_eq, cases_order}
use Rattle.std.proofs.lemmas.List.{get_or-set_same, get_or-set_other, length-set}
use Rattle.std.proofs.lemmas.Option.{slice_get_cases, get_or_from_slice_get, slice_get_within}
use Rattle.std.proofs.Math.ListN.{get_or-append}
use Rattle.std.proofs.Math.Seq.{get_or-append_seam}
use Rattle.stl_syntax.specs.Trace.{Header}
use Rattle.stl_syntax.specs.WellFormed.{AreWellFormed, HasOneRoot}
use Rattle.stl_syntax.specs.declared.node.Node.{Node}
use Rattle.stl_syntax.specs.declared.node.Node.TheVariants.{Const}
use Rattle.stl_syntax.specs.declared.scale.Scale.{Scale}
use Rattle.atom_lines.specs.Binding.{IsBound}
use Rattle.online_nodes.specs.Network.{is_atom, node_is_atom, state}
use Rattle.online_nodes.specs.Needed.{none}
use Rattle.online_nodes.specs.Held.{Edge, Held, edge_at, fresh_at, held_at, joining, no_edge, with_edge}
use Rattle.online_nodes.specs.declared.operator.Operator.{Operator}
use Rattle.online_nodes.proofs.ReadersLaw.{has_reader}
use Rattle.online_nodes.proofs.Stretches.{stand_given}
use Rattle.online_net.specs.Nets.{Parts, Keeps, HasOperator, Stands}
use Rattle.online_net.specs.Steps.{IsFirstOperator, IsNewEdge, AreFirstOperators, AreNewEdges, JoinsAllButRoot}

-- a list of equal elements, with a default that is one of them
all_one : {X : Type 0} (n : ℕ) (x : X) (i : ℕ) → slice_index_or (replicate n x) i x ≡ x
all_one zero x i = refl
all_one (suc n) x zero = refl
all_one (suc n) x (suc i) = all_one n x i

-- a list of one item, n times, has n items
pub length_one : {X : Type 0} (n : ℕ) (x : X) → length (replicate n x) ≡ n
length_one zero x = refl
length_one (suc n) x = ap suc (length_one n x)

module _ (nodes : List Node) (header : Header) (formed : AreWellFormed nodes) (root : HasOneRoot nodes) (scale : Scale) (net : Parts)
    (bound : IsBound net.bound (record { nodes = nodes; scale = scale }) header) (edges : AreNewEdges (length nodes) net.edges)
    (first : AreFirstOperators nodes net.operators (length nodes)) (last : net.last ≡ None) (closed : net.closed ≡ false)
    (running : net.stopped ≡ false) where
  none_held : (i : ℕ) → held_at net.edges i ≡ []
  none_held i = ap (λ l. l ++ fresh_at net.edges i) (edges.new i).seen ∙ (edges.new i).fresh

  found : (i : ℕ) → i < length nodes → slice_get net.operators i ≡ Some (slice_index_or net.operators i None)
  found i l = by_case (slice_get_cases net.operators i).1
    where
      by_case : ((x : Option Operator) × (i < length net.operators) × (slice_get net.operators i ≡ Some x) × (slice_index_or net.operators i x ≡ x))
          ⊎ ((length net.operators ≤ i) × (slice_get net.operators i ≡ None)) → slice_get net.operators i ≡ Some (slice_index_or net.operators i None)
      by_case (inl h) = h.2 ∙ ap Some (sym (get_or_from_slice_get net.operators i h.0 None h.2))
      by_case (inr h) = absurd (let a = h.0 in let b = first.count in omega (arith, a, b, l))

  at_node : (i : ℕ) (n : Node) → slice_get nodes i ≡ Some n → node_is_atom nodes i ≡ is_atom n
  at_node i n at = ap is_atom (get_or_from_slice_get nodes i n (Const false) at)

  keeps : Keeps nodes header net []
  unfolding state
  keeps = record {
    formed = formed;
    one_root = root;
    scale = scale;
    bound = bound;
    edges = edges.count;
    plain = edges.plain;
    operators = first.count;
    start = edges.start;
    last = last;
    closed = closed;
    running = running;
    at_atom = λ i n at a. found i (slice_get_within nodes i n at) ∙ ap Some (no_operator i n at a (slice_index_or net.operators i None)
        (first.first i (slice_get_within nodes i n at)));
    at_other = λ i n at a. has i n at a (slice_index_or net.operators i None) (found i (slice_get_within nodes i n at))
        (first.first i (slice_get_within nodes i n at));
  }
    where
      no_operator : (i : ℕ) (n : Node) → slice_get nodes i ≡ Some n → is_atom n ≡ true → (o : Option Operator) → IsFirstOperator nodes i o → o ≡ None
      no_operator i n at a None h = refl
      no_operator i n at a (Some op) h = absurd (let x : true ≡ false = sym a ∙ sym (at_node i n at) ∙ h.0 in cc)

      has : (i : ℕ) (n : Node) → slice_get nodes i ≡ Some n → is_atom n ≡ false → (o : Option Operator) → slice_get net.operators i ≡ Some o
          → IsFirstOperator nodes i o → HasOperator nodes header [] net.edges i (slice_get net.operators i)
      has i n at a None e h = absurd (let x : true ≡ false = sym h ∙ at_node i n at ∙ a in cc)
      has i n at a (Some op) e h =
          record { operator = op; is = e; node = h.1; stands = h.2 header net.edges (λ j. (edges.new j).seen) }

  -- a new network stands for the run without events
  pub new_stands : Stands nodes header net []
  unfolding state
  new_stands = record {
    run = tt;
    holds = keeps;
    shows = record {
      fronts = λ i l. (edges.new i).number;
      edges = λ j l.
          let r = has_reader nodes root j (omega (arith, l)) (λ e. absurd (omega (arith, l, e))) in
          record {
            reader = r.reader;
            reading = r.node;
            left = r.left;
            at_reader = r.at;
            reads = r.reads;
            emitted = [];
            is_emitted = refl;
            stretches = [];
            stand = stand_given (edge_at net.edges j).joins [];
            is_needed = none_held j;
          };
      root = record { taken = 0; is_taken = none; emitted = []; is_emitted = refl; is = none_held (length nodes - 1) };
    };
  }

-- one node's operator more
pub first_more : (nodes : List Node) (operators : List (Option Operator)) (o : Option Operator) (n : ℕ) → AreFirstOperators nodes operators n
    → IsFirstOperator nodes n o → AreFirstOperators nodes (operators ++ o ∷ []) (n + 1)
first_more nodes operators o n done here = record { count = count; first = λ i l. by_order i l (cases_order i n) }
  where
    count : length (operators ++ o ∷ []) ≡ n + 1
    count = let a = length-append operators (o ∷ []) in let b = done.count in omega (arith, a, b)

    own : (i : ℕ) → i ≡ n → IsFirstOperator nodes i (slice_index_or (operators ++ o ∷ []) i None)
    own i e = subst (λ k. IsFirstOperator nodes k (slice_index_or (operators ++ o ∷ []) k None)) (sym (e ∙ sym done.count))
        (subst (λ x. IsFirstOperator nodes (length operators) x) (sym (get_or-append_seam operators o [] None))
        (subst (λ k. IsFirstOperator nodes k o) (sym done.count) here))

    by_order : (i : ℕ) → i < n + 1 → (i ≡ n) ⊎ ((i < n) ⊎ (n < i)) → IsFirstOperator nodes i (slice_index_or (operators ++ o ∷ []) i None)
    by_order i l (inl e) = own i e
    by_order i l (inr (inl e)) = subst (λ x. IsFirstOperator nodes i x)
        (sym (get_or-append operators (o ∷ []) None i (let d = done.count in omega (arith, e, d)))) (done.first i e)
    by_order i l (inr (inr e)) = absurd (omega (arith, l, e))

-- n edges of a new network, each by itself
pub empty_edge : (n : ℕ) (e : Held) → e.edges ≡ replicate n no_edge → (k : ℕ) → edge_at e k ≡ no_edge
empty_edge n e edges k = ap (λ es. slice_index_or es k no_edge) edges ∙ all_one n no_edge k

-- the edges of n nodes that gave out nothing, of which the first i join
pub record AreJoining (n i : ℕ) (e : Held) : Type 0 where
  -- there are so many
  pub count : length e.edges ≡ n
  -- which hold nothing
  pub new : (k : ℕ) → IsNewEdge (edge_at e k)
  -- those join
  pub joined : (k : ℕ) → k < i → (edge_at e k).joins ≡ true
  -- and the others do not
  pub plain : (k : ℕ) → i ≤ k → (edge_at e k).joins ≡ false
  -- no row came
  pub start : e.start ≡ None

-- edges of which none joins
pub none_joining : (n : ℕ) (e : Held) → e.edges ≡ replicate n no_edge → e.start ≡ None → AreJoining n 0 e
none_joining n e edges start = record {
  count = ap length edges ∙ length_one n no_edge;
  new = λ k. subst (λ (x : Edge). IsNewEdge x) (sym (empty_edge n e edges k)) (record { seen = refl; fresh = refl; number = refl });
  joined = λ k l. absurd (omega (arith, l));
  plain = λ k l. ap (λ (x : Edge). x.joins) (empty_edge n e edges k);
  start = start;
}

-- one edge more joins
pub one_joining : (n i : ℕ) (e e' : Held) → AreJoining n i e → i < n → e' ≡ record e { edges = with_edge e i (joining (edge_at e i)) }
    → AreJoining n (i + 1) e'
one_joining n i e e' all within is = record {
  count = ap (λ (x : Held). length x.edges) is ∙ length-set e.edges i (joining (edge_at e i)) ∙ all.count;
  new = λ k. by_place k (cases_eq k i);
  joined = λ k l. by_order k l (cases_eq k i);
  plain = λ k l. ap (λ (x : Edge). x.joins) (other k (λ same. absurd (omega (arith, l, same)))) ∙ all.plain k (omega (arith, l));
  start = ap (λ (x : Held). x.start) is ∙ all.start;
}
  where
    other : (k : ℕ) → k ≢ i → edge_at e' k ≡ edge_at e k
    other k d = ap (λ (x : Held). edge_at x k) is ∙ get_or-set_other e.edges i k (joining (edge_at e i)) no_edge d

    here : edge_at e' i ≡ joining (edge_at e i)
    here = ap (λ (x : Held). edge_at x i) is
        ∙ get_or-set_same e.edges i (joining (edge_at e i)) no_edge (let c = all.count in omega (arith, within, c))

    by_place : (k : ℕ) → (k ≡ i) ⊎ (k ≢ i) → IsNewEdge (edge_at e' k)
    by_place k (inl same) = subst (λ m. IsNewEdge (edge_at e' m)) (sym same) (subst (λ (x : Edge). IsNewEdge x) (sym here)
        (let x = all.new i in record { seen = x.seen; fresh = x.fresh; number = x.number }))
    by_place k (inr d) = subst (λ (x : Edge). IsNewEdge x) (sym (other k d)) (all.new k)

    by_order : (k : ℕ) → k < i + 1 → (k ≡ i) ⊎ (k ≢ i) → (edge_at e' k).joins ≡ true
    by_order k l (inl same) = ap (λ m. (edge_at e' m).joins) same ∙ ap (λ (x : Edge). x.joins) here
    by_order k l (inr d) = ap (λ (x : Edge). x.joins) (other k d) ∙ all.joined k (omega (arith, l, d))

-- where the last one does not join they are those of a new network
pub new_edges : (n i : ℕ) (e : Held) → i ≤ n - 1 → AreJoining n i e → AreNewEdges n e
new_edges n i e few all = record { count = all.count; new = all.new; plain = all.plain (n - 1) few; start = all.start }

-- all but the last one join
pub all_but_root : (n : ℕ) (e : Held) → AreJoining n (n - 1) e → JoinsAllButRoot n e
all_but_root n e all = record { others = λ i l. all.joined i (omega (arith, l)); root = all.plain (n - 1) (omega arith) }

-- n edges of which none joins are those of a new network
pub plain_edges : (n : ℕ) (e : Held) → e.edges ≡ replicate n no_edge → e.start ≡ None → AreNewEdges n e
plain_edges n e edges start = new_edges n 0 e (omega arith) (none_joining n e edges start)
