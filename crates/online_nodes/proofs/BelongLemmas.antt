-- What an operator that belongs to its edges may rely on: its inputs, their numbers, and its own allowed number.
use Rattle.std.proofs.Common.{◌≡◌, refl, sym, ap, subst, ◌∙◌, ℕ, ◌+◌, ◌<◌, ◌≤◌, Bool, true, false, not, Option}
use Rattle.std.proofs.Common.{Some, None, List, [], ◌∷◌, length, ℤ, pos, neg_ℤ, ◌+ℤ◌, ◌≤ℤ◌, arith}
use Rattle.rational.specs.Rational.{whole}
use Rattle.std.specs.Prelude.{◌*◌, ◌-◌, ◌^◌, min, ◌&&◌, ◌↔◌, IsTrue, slice_index_or, slice_get, IfSome, option_map}
use Rattle.std.proofs.lemmas.Int.{ints}
use Rattle.std.proofs.lemmas.Option.{slice_get_within, get_or_from_slice_get, same_Some}
use Rattle.std.proofs.lemmas.List.Sums.{get_or-le-sum_by}
use Rattle.stl_syntax.specs.Trace.{Header, first_time}
use Rattle.stl_syntax.specs.Formula.{subformula, horizon, HasChildrenBelow}
use Rattle.stl_syntax.specs.Limits.{own_reach, reach}
use Rattle.stl_syntax.specs.PostOrder.{children}
use Rattle.stl_syntax.specs.WellFormed.{HasBounds}
use Rattle.stl_syntax.proofs.HorizonLemmas.{horizon_within}
use Rattle.stl_syntax.proofs.PostOrderLemmas.{placed}
use Rattle.stl_syntax.specs.declared.node.Node.{Node}
use Rattle.stl_syntax.specs.declared.node.Node.TheVariants.{Const, Atom as Leaf, Not, And, Or, Implies, Until, Eventually}
use Rattle.stl_syntax.specs.declared.node.Node.TheVariants.{Always, Since, Once, Historically}
use Rattle.online_nodes.specs.Network.{Event, Front, State, last_row, least, moved_by, open_number, allowed, allowed_at}
use Rattle.online_nodes.specs.Network.{all_at_end, is_atom, node_is_atom, same_front, state, initial, IsReady}
use Rattle.online_nodes.specs.Needed.{IsReader}
use Rattle.frac128.specs.Cuts.{place}
use Rattle.online_nodes.specs.Held.{Held, edge_at, number_at}
use Rattle.online_nodes.specs.Kinds.{inputs_of, AreInputs, AreNear, HasNear, IsNear, all_stand_at, open_by, allowed_by, held_in}
use Rattle.online_nodes.specs.Operators.{kind_of, KnowsBy}
use Rattle.online_nodes.specs.Belonging.{Belongs, StandsForSteps, held_by_inputs, is_ready, room_of_step, trace_of}
use Rattle.online_nodes.specs.declared.operator.Operator.{Operator}
use Rattle.online_nodes.proofs.FrontsLaw.{least_is}
use Rattle.online_nodes.proofs.LowLaw.{within_start}
use Rattle.online_nodes.proofs.RunLaw.{within_horizon}
use Rattle.online_nodes.proofs.RisingLaw.{same_is, same_of}

-- the inputs of a node are its children, which stand below it
pub inputs_below : (n : Node) (i m : ℕ) → HasChildrenBelow i n → i < m → AreInputs (kind_of n) m
inputs_below (Const b) i m c l = tt
inputs_below (Leaf a) i m c l = tt
inputs_below (And p q) i m c l = let x = c.0 in let y = c.1 in (omega arith, omega arith)
inputs_below (Or p q) i m c l = let x = c.0 in let y = c.1 in (omega arith, omega arith)
inputs_below (Implies p q) i m c l = let x = c.0 in let y = c.1 in (omega arith, omega arith)
inputs_below (Until p q a b) i m c l = let x = c.0 in let y = c.1 in (omega arith, omega arith)
inputs_below (Since p q a b) i m c l = let x = c.0 in let y = c.1 in (omega arith, omega arith)
inputs_below _ i m c l = omega arith

-- the inputs of a node's kind are its children
pub inputs_are_children : (n : Node) → inputs_of (kind_of n) ≡ children n
inputs_are_children (Const b) = refl
inputs_are_children _ = refl

-- the edges note the numbers of a node's inputs
abbrev pub NotesInputs : Held → State → Node → Type 0
NotesInputs e s n = (j : ℕ) (left : Bool) → IsReader n left j → number_at e j ≡ s.fronts j

module _ (e : Held) (s : State) (now : ℕ) (last : last_row s ≡ Some (pos now)) where
  -- an input that stands no later than the last row comes earlier where it is moved back
  moved_back : (b : ℕ) (f : Front) → IfSome f (λ k. k ≤ℤ pos now) → least (moved_by (neg_ℤ (pos b)) f) (Some (pos now)) ≡ moved_by (neg_ℤ (pos b)) f
  moved_back b None h = refl
  moved_back b (Some f) h = least_is (f +ℤ neg_ℤ (pos b)) (pos now) (f +ℤ neg_ℤ (pos b)) (λ l. omega (arith, ints, l, h)) (λ l. refl)

  -- the number that a node may have before the end, by the numbers on the edges
  open_is : (i : ℕ) (n : Node) → is_atom n ≡ false → HasChildrenBelow i n → ((p : ℕ) → p < i → IfSome (s.fronts p) (λ k. k ≤ℤ pos now))
      → NotesInputs e s n → open_by (kind_of n) e now ≡ open_number n s
  open_is i (Const b) h c past k = sym last
  open_is i (Leaf a) h c past k = absurd (let x : true ≡ false = h in cc)
  open_is i (Not p) h c past k = k p true refl
  open_is i (And p q) h c past k = rw (k p true refl, k q false refl) refl
  open_is i (Or p q) h c past k = rw (k p true refl, k q false refl) refl
  open_is i (Implies p q) h c past k = rw (k p true refl, k q false refl) refl
  open_is i (Until p q a b) h c past k = rw (k p true refl, k q false refl) refl
  open_is i (Eventually p a b a_in b_in) h c past k = rw (k p true refl) (moved_back b (s.fronts p) (past p c))
  open_is i (Always p a b a_in b_in) h c past k = rw (k p true refl) (moved_back b (s.fronts p) (past p c))
  open_is i (Since p q a b) h c past k = rw (k p true refl, k q false refl) refl
  open_is i (Once p a b a_in b_in) h c past k = rw (k p true refl, last) refl
  open_is i (Historically p a b a_in b_in) h c past k = rw (k p true refl, last) refl

  one_stands : (p : ℕ) → number_at e p ≡ s.fronts p → all_stand_at e now (p ∷ []) ≡ all_at_end s (p ∷ [])
  one_stands p x = rw (x, last) refl

  two_stand : (p q : ℕ) → number_at e p ≡ s.fronts p → number_at e q ≡ s.fronts q
      → all_stand_at e now (p ∷ q ∷ []) ≡ all_at_end s (p ∷ q ∷ [])
  two_stand p q x y = rw (x, y, last) refl

  stand_is : (n : Node) → NotesInputs e s n → all_stand_at e now (inputs_of (kind_of n)) ≡ all_at_end s (children n)
  stand_is (Const b) k = refl
  stand_is (Leaf a) k = refl
  stand_is (Not p) k = one_stands p (k p true refl)
  stand_is (And p q) k = two_stand p q (k p true refl) (k q false refl)
  stand_is (Or p q) k = two_stand p q (k p true refl) (k q false refl)
  stand_is (Implies p q) k = two_stand p q (k p true refl) (k q false refl)
  stand_is (Until p q a b) k = two_stand p q (k p true refl) (k q false refl)
  stand_is (Eventually p a b a_in b_in) k = one_stands p (k p true refl)
  stand_is (Always p a b a_in b_in) k = one_stands p (k p true refl)
  stand_is (Since p q a b) k = two_stand p q (k p true refl) (k q false refl)
  stand_is (Once p a b a_in b_in) k = one_stands p (k p true refl)
  stand_is (Historically p a b a_in b_in) k = one_stands p (k p true refl)

  -- the number that the kind allows is that of the node
  pub allowed_is : (i : ℕ) (n : Node) (ended : Bool) → is_atom n ≡ false → HasChildrenBelow i n
      → ((p : ℕ) → p < i → IfSome (s.fronts p) (λ k. k ≤ℤ pos now)) → s.closed ≡ ended → NotesInputs e s n
      → allowed_by (kind_of n) e now ended ≡ allowed n s
  allowed_is i n ended h below past c k =
      let o : open_by (kind_of n) e now ≡ open_number n s = open_is i n h below past k in
      let t : all_stand_at e now (inputs_of (kind_of n)) ≡ all_at_end s (children n) = stand_is n k in
      rw (← c, t, o, last) refl

-- the children of a node have their numbers near, and so are the bounds of its window
module _ (e : Held) (s : State) where
  child_near : (p : ℕ) → number_at e p ≡ s.fronts p → IfSome (s.fronts p) IsNear → HasNear e p
  child_near p x h = subst (λ (o : Option ℤ). IfSome o IsNear) (sym x) h

  bound_near : (b : ℕ) → b ≤ 4294967295 → IsNear (pos b)
  bound_near b h = (omega (arith, ints), omega (arith, ints))

  bound_near_back : (b : ℕ) → b ≤ 4294967295 → IsNear (neg_ℤ (pos b))
  bound_near_back b h = (omega (arith, ints), omega (arith, ints))

  low_near : (a : ℕ) (b : Option ℕ) → own_reach (Since 0 0 a b) ≤ 4294967295 → HasBounds (Since 0 0 a b) → IsNear (pos a)
  low_near a None r h = bound_near a r
  low_near a (Some b) r h = bound_near a (omega (arith, r, h))

  -- the numbers of the inputs are near enough to be counted
  pub near_is : (i : ℕ) (n : Node) → HasChildrenBelow i n → HasBounds n → own_reach n ≤ 4294967295 → NotesInputs e s n
      → ((p : ℕ) → p < i → IfSome (s.fronts p) IsNear) → AreNear (kind_of n) e
  near_is i (Until p q a b) c h r k all =
      (child_near p (k p true refl) (all p c.0), child_near q (k q false refl) (all q c.1), bound_near_back b r)
  near_is i (Eventually p a b a_in b_in) c h r k all = (child_near p (k p true refl) (all p c), bound_near_back b r)
  near_is i (Always p a b a_in b_in) c h r k all = (child_near p (k p true refl) (all p c), bound_near_back b r)
  near_is i (Since p q a b) c h r k all = (child_near q (k q false refl) (all q c.1), low_near a b r h)
  near_is i (Once p a b a_in b_in) c h r k all = (child_near p (k p true refl) (all p c), low_near a b r h.0)
  near_is i (Historically p a b a_in b_in) c h r k all = (child_near p (k p true refl) (all p c), low_near a b r h.0)
  near_is i _ c h r k all = tt

near_of : (f : ℤ) (h start now : ℕ) → pos start ≤ℤ (f +ℤ pos h) → f ≤ℤ pos now → h ≤ 4294967295 → now ≤ 4294967295 → IsNear f
near_of f h start now low top far small = (omega (arith, ints), omega (arith, ints))

-- a test that says no twice
neither : (a t : Bool) → IsTrue (not a && not t) ↔ ((a ≡ false) × (t ≡ false))
neither true t = ((λ h. absurd (let x : false ≡ true = h in cc)), (λ h. absurd (let x : true ≡ false = h.0 in cc)))
neither false true = ((λ h. absurd (let x : false ≡ true = h in cc)), (λ h. absurd (let x : true ≡ false = h.1 in cc)))
neither false false = ((λ h. (refl, refl)), (λ h. refl))

-- fronts come out as different exactly where they are
pub same_or_not : (f g : Front) → (same_front f g ≡ false) ↔ (f ≡ g → ⊥)
same_or_not f g = (
  (λ h e. absurd (let x : true ≡ false = sym (same_of f g e) ∙ h in cc)),
  (λ n. by_test (same_front f g) refl n),
)
  where
    by_test : (t : Bool) → same_front f g ≡ t → (f ≡ g → ⊥) → same_front f g ≡ false
    by_test true x n = absurd (n (same_is f g x))
    by_test false x n = x

-- the test says whether a node is ready
pub ready_is : (nodes : List Node) (s : State) (i : ℕ) → IsTrue (is_ready nodes s i) ↔ IsReady nodes s i
ready_is nodes s i =
    let both = neither (node_is_atom nodes i) (same_front (allowed_at nodes s i) (s.fronts i)) in
    let differ = same_or_not (allowed_at nodes s i) (s.fronts i) in (
      (λ h. let x = both.0 h in (x.0, differ.0 x.1)),
      (λ h. both.1 (h.0, differ.1 h.1)),
    )

-- before any event an operator whose inputs' edges were not read stands for no step
pub stands_first : (nodes : List Node) (header : Header) (op : Operator) (e : Held) (n : Node) → slice_get nodes op.node ≡ Some n
    → node_is_atom nodes op.node ≡ false → op.kind ≡ kind_of n → op.front ≡ None → ((j : ℕ) → (edge_at e j).seen ≡ [])
    → StandsForSteps nodes header [] op e
unfolding state
stands_first nodes header op e n at no_atom kind front unread =
    record {
      node = n;
      at = at;
      no_atom = ap is_atom (sym (get_or_from_slice_get nodes op.node n (Const false) at)) ∙ no_atom;
      kind = kind;
      front = sym (ap (option_map pos) front);
      unread = λ _ j left r. unread j;
      knows = subst (λ (o : Option ℕ). IfSome o (λ f. KnowsBy op.kind nodes (trace_of header initial) e (record { at = whole (pos f); after = true })
          (place op.reach) (place op.run))) (sym front) tt;
    }

module _ {nodes : List Node} {header : Header} {events : List Event} {op : Operator} {e : Held} {now : ℕ} {ended : Bool}
    (b : Belongs nodes header events op e now ended) where
  -- the operator's node is one of the formula's
  pub own_within : op.node < length nodes
  own_within = slice_get_within nodes op.node b.stands.node b.stands.at

  -- the operator's children stand before it
  pub own_below : HasChildrenBelow op.node b.stands.node
  own_below = placed nodes op.node b.stands.node b.formed.post_order b.stands.at

  -- the inputs' edges note the numbers of the inputs
  pub notes : NotesInputs e (state nodes events) b.stands.node
  notes j left r = (b.inputs j b.stands.node left b.stands.at r).0

  -- the node at the operator's place is the one that it stands for
  pub node_is : slice_index_or nodes op.node (Const false) ≡ b.stands.node
  node_is = get_or_from_slice_get nodes op.node b.stands.node (Const false) b.stands.at

  -- the operator's inputs have edges
  pub kind_inputs : AreInputs op.kind (length e.edges)
  kind_inputs = subst (λ k. AreInputs k (length e.edges)) (sym b.stands.kind)
      (subst (λ m. AreInputs (kind_of b.stands.node) m) (sym b.edges)
      (inputs_below b.stands.node op.node (length nodes) own_below own_within))

  -- no number of the run is later than the last row
  number_by_now : (p : ℕ) → p < length nodes → IfSome ((state nodes events).fronts p) (λ k. k ≤ℤ pos now)
  number_by_now p l = by_front ((state nodes events).fronts p) refl
    where
      by_front : (o : Front) → (state nodes events).fronts p ≡ o → IfSome o (λ k. k ≤ℤ pos now)
      by_front None x = tt
      by_front (Some f) x =
          let high = within_horizon nodes header b.formed.post_order events b.run p f l x in
          let last : high.last ≡ pos now = same_Some high.last (pos now) (sym high.is_last ∙ b.last) in
          subst (λ z. f ≤ℤ z) last high.by_now

  -- no number of the run is far
  pub number_near : now ≤ 4294967295 → (p : ℕ) → p < length nodes → IfSome ((state nodes events).fronts p) IsNear
  number_near small p l = by_front ((state nodes events).fronts p) refl
    where
      by_front : (o : Front) → (state nodes events).fronts p ≡ o → IfSome o IsNear
      by_front None x = tt
      by_front (Some f) x =
          let high = within_horizon nodes header b.formed.post_order events b.run p f l x in
          let low : pos (first_time (state nodes events).rows) ≤ℤ (f +ℤ pos (horizon (subformula nodes p))) =
          (within_start nodes header b.formed.post_order events b.run).numbers p f l x in
          let last : high.last ≡ pos now = same_Some high.last (pos now) (sym high.is_last ∙ b.last) in
          let far : horizon (subformula nodes p) ≤ reach nodes = horizon_within nodes p b.formed.post_order l in
          let most = b.formed.reach in
          let top : f ≤ℤ pos now = subst (λ z. f ≤ℤ z) last high.by_now in
          near_of f (horizon (subformula nodes p)) (first_time (state nodes events).rows) now low top (omega (arith, far, most)) small

  -- the bounds of the operator's node are in order
  pub own_bounds : HasBounds b.stands.node
  own_bounds = subst HasBounds node_is (b.formed.bounds op.node (Const false) own_within)

  -- the reach of the operator's node is small
  pub own_reach_small : own_reach b.stands.node ≤ 4294967295
  own_reach_small =
      let part : own_reach (slice_index_or nodes op.node (Const false)) ≤ reach nodes = get_or-le-sum_by own_reach nodes op.node (Const false) own_within in
      let most = b.formed.reach in
      subst (λ n. own_reach n ≤ 4294967295) node_is (omega (arith, part, most))

  -- the numbers of the operator's inputs are near enough to be counted
  pub kind_near : now ≤ 4294967295 → AreNear op.kind e
  kind_near small =
      subst (λ k. AreNear k e) (sym b.stands.kind)
      (near_is e (state nodes events) op.node b.stands.node own_below own_bounds own_reach_small notes
      (λ p l. number_near small p (omega (arith, l, own_within))))

  -- the operator has an edge
  pub own_edge : op.node < length e.edges
  own_edge = subst (λ m. op.node < m) (sym b.edges) own_within

  -- the number that the operator is allowed is that of its node
  pub allowed_number : allowed_by op.kind e now ended ≡ allowed_at nodes (state nodes events) op.node
  allowed_number =
      subst (λ k. allowed_by k e now ended ≡ allowed_at nodes (state nodes events) op.node) (sym b.stands.kind)
      (allowed_is e (state nodes events) now b.last op.node b.stands.node ended b.stands.no_atom own_below
      (λ p l. number_by_now p (omega (arith, l, own_within))) b.closed notes
      ∙ ap (λ n. allowed n (state nodes events)) (sym node_is))

  -- the operator's node is no atom
  pub no_atom_here : node_is_atom nodes op.node ≡ false
  no_atom_here = ap is_atom node_is ∙ b.stands.no_atom

  -- the test of the code, by the numbers on the edges
  pub ready_by_edges : (f g : Front) → f ≡ allowed_by op.kind e now ended → g ≡ number_at e op.node
      → not (same_front f g) ≡ is_ready nodes (state nodes events) op.node
  ready_by_edges f g x y =
      let u : f ≡ allowed_at nodes (state nodes events) op.node = x ∙ allowed_number in
      let v : g ≡ (state nodes events).fronts op.node = y ∙ b.number in
      rw (u, v, no_atom_here) refl

  -- what the operator's inputs hold is what the node's inputs hold
  pub held_is : held_in e (inputs_of op.kind) ≡ held_by_inputs nodes op.node e
  held_is = ap (held_in e) (ap inputs_of b.stands.kind ∙ inputs_are_children b.stands.node ∙ ap children (sym node_is))

  -- an operator that is ready is given the room that its step may need
  pub room_if_ready : is_ready nodes (state nodes events) op.node ≡ true
      → min (2 * held_in e (inputs_of op.kind) + 2) (2 ^ 64 - 1) ≡ room_of_step nodes events op.node e
  room_if_ready r = rw (r) (ap (λ m. min (2 * m + 2) (2 ^ 64 - 1)) held_is)

  -- an operator that is not ready needs no room for a step
  pub no_room : is_ready nodes (state nodes events) op.node ≡ false → 0 ≡ room_of_step nodes events op.node e
  no_room r = rw (r) refl
