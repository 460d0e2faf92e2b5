-- What a step that is due may rely on, for any kind of node.
use Rattle.std.proofs.Common.{◌≡◌, ◌≢◌, ◌⊎◌, inl, inr, refl, sym, ap, subst, ◌∙◌, ℕ, ◌<◌, Bool, true, false}
use Rattle.std.proofs.Common.{Option, Some, None, List, [], ◌∷◌, length, ℤ, pos, ◌≤ℤ◌, ◌<ℤ◌, arith}
use Rattle.std.specs.Prelude.{◌&&◌, not, cond, int_lt, option_map, IfSome}
use Rattle.std.proofs.lemmas.Int.{ints}
use Rattle.std.proofs.lemmas.Bool.{and_parts}
use Rattle.std.proofs.lemmas.Option.{same_Some}
use Rattle.rational.specs.Rational.{◌≤ʳ◌, ◌<ʳ◌, ◌≈◌, whole}
use Rattle.rational.proofs.Order.{le_of_lt, le_trans, lt_of_lt_of_le, lt_or_same_or_gt, not_lt_of_le}
use Rattle.rational.proofs.Shift.{le_whole, lt_whole}
use Rattle.stl_syntax.specs.Trace.{Trace}
use Rattle.stl_syntax.specs.Formula.{Subformula, subformula, tree_of}
use Rattle.stl_syntax.proofs.FormulaLemmas.{subformula-at}
use Rattle.stl_syntax.proofs.PostOrderLemmas.{inputs_apart}
use Rattle.online_nodes.specs.Network.{allowed_at, same_front, shown}
use Rattle.online_nodes.specs.Needed.{IsReader}
use Rattle.online_nodes.specs.Answering.{IsInput}
use Rattle.online_nodes.specs.Stepping.{Situation, IsBegun, IsDue, end_of, first_in, formula_of, state_in, stretch_of, trace_in}
use Rattle.rational.specs.Places.{AtMost, Before, Same, Upto, begins}
use Rattle.frac128.specs.Cuts.{place}
use Rattle.online_nodes.specs.Held.{Held, edge_at, number_at}
use Rattle.online_nodes.specs.Kinds.{all_stand_at, allowed_by, inputs_of, open_by}
use Rattle.online_nodes.specs.Operators.{KnowsBy, front_place, kind_of, place_of, read_upto}
use Rattle.online_nodes.specs.Written.{HasTold, IsPending}
use Rattle.frac128.specs.declared.cut.Cut.{Cut}
use Rattle.online_nodes.specs.declared.kind.Kind.{Kind}
use Rattle.online_nodes.specs.declared.kind.Kind.TheVariants.{Const as Constant, Not as Negation, Join as Connective}
use Rattle.online_nodes.specs.declared.kind.Kind.TheVariants.{Over, Until as UntilOf, Since as SinceOf}
use Rattle.online_nodes.specs.declared.operator.Operator.{Operator}
use Rattle.online_nodes.specs.declared.answering.Outcome.{Outcome}
use Rattle.online_nodes.proofs.BelongLemmas.{allowed_number, inputs_are_children, no_atom_here, own_below}
use Rattle.online_nodes.proofs.HeldFacts.{input_within}
use Rattle.online_nodes.proofs.TellingLemmas.{IsTelling}
use Rattle.rational.proofs.PlaceLemmas.{same_places, upto_same}
use Rattle.rational.proofs.Tests.{int_order}
use Rattle.online_nodes.proofs.ReadLemmas.{allowed_by_now, input_apart, never_less, read_first, telling}
use Rattle.online_nodes.proofs.ReaderLemmas.{input_side, side_reads}
use Rattle.online_nodes.proofs.StayLaw.{shown_is}
use Rattle.online_nodes.proofs.ToldSoFar.{same_itself}
use Rattle.online_nodes.proofs.RisingLaw.{same_is, same_of}

-- a place is one of these
abbrev pub IsOneOf : ℕ → List ℕ → Type 0
IsOneOf j [] = ⊥
IsOneOf j (i ∷ places) = (j ≡ i) ⊎ IsOneOf j places

-- an input is among the inputs
pub input_among : (k : Kind) (j : ℕ) → IsInput k j → IsOneOf j (inputs_of k)
input_among (Constant b) j h = absurd h
input_among (Negation p) j h = inl (sym h)
input_among (Connective join inputs) j (inl e) = inl (sym e)
input_among (Connective join inputs) j (inr e) = inr (inl (sym e))
input_among (Over w) j h = inl (sym h)
input_among (UntilOf u) j (inl e) = inl (sym e)
input_among (UntilOf u) j (inr e) = inr (inl (sym e))
input_among (SinceOf s) j (inl e) = inl (sym e)
input_among (SinceOf s) j (inr e) = inr (inl (sym e))

-- where all stand at a time, each does
pub stands_each : (e : Held) (now : ℕ) (places : List ℕ) (j : ℕ) → all_stand_at e now places ≡ true → IsOneOf j places
    → number_at e j ≡ Some (pos now)
stands_each e now [] j h a = absurd a
stands_each e now (i ∷ places) j h (inl same) =
    subst (λ (k : ℕ). number_at e k ≡ Some (pos now)) (sym same)
    (same_is (number_at e i) (Some (pos now)) (and_parts (same_front (number_at e i) (Some (pos now))) (all_stand_at e now places) h).0)
stands_each e now (i ∷ places) j h (inr among) = stands_each e now places j (and_right _ _ h) among
  where
    and_right : (a b : Bool) → (a && b) ≡ true → b ≡ true
    and_right true b h = h
    and_right false b h = absurd (let x : false ≡ true = h in cc)

-- the allowed number is the last row's time, at which all inputs stand, or by the inputs' numbers
pub allowed_cases : (k : Kind) (e : Held) (now : ℕ) (ended : Bool) (f : ℤ) → allowed_by k e now ended ≡ Some f
    → (((j : ℕ) → IsInput k j → number_at e j ≡ Some (pos now)) × (f ≡ pos now)) ⊎ (open_by k e now ≡ Some f)
allowed_cases k e now false f h = inr h
allowed_cases k e now true f h = by_test (all_stand_at e now (inputs_of k)) refl h
  where
    by_test : (t : Bool) → all_stand_at e now (inputs_of k) ≡ t → cond t (Some (pos now)) (open_by k e now) ≡ Some f
        → (((j : ℕ) → IsInput k j → number_at e j ≡ Some (pos now)) × (f ≡ pos now)) ⊎ (open_by k e now ≡ Some f)
    by_test true x y = inl ((λ j a. stands_each e now (inputs_of k) j x (input_among k j a)), sym (same_Some (pos now) f y))
    by_test false x y = inr y

module _ {x : Situation} {op : Operator} {e : Held} (d : IsDue x op e) where
  -- a node's two inputs are two
  pub two_apart : (p q : ℕ) → inputs_of op.kind ≡ p ∷ q ∷ [] → p ≢ q
  two_apart p q are =
      inputs_apart x.nodes op.node d.belongs.stands.node p q d.belongs.formed.post_order d.belongs.stands.at
      (sym (inputs_are_children d.belongs.stands.node) ∙ sym (ap inputs_of d.belongs.stands.kind) ∙ are)

  -- the operator's kind is its node's
  pub kind_is : op.kind ≡ kind_of d.belongs.stands.node
  kind_is = d.belongs.stands.kind

  -- the operator's node is the reader of each of its inputs
  pub input_reader : (j : ℕ) → IsInput op.kind j → (left : Bool) × IsReader d.belongs.stands.node left j
  input_reader j a =
      let side = input_side (kind_of d.belongs.stands.node) j (subst (λ k. IsInput k j) kind_is a) in
      (side.0, side_reads d.belongs.stands.node side.0 j side.1)

  -- an input's edge is not the node's own
  pub among_apart : (j : ℕ) → IsInput op.kind j → j ≢ op.node
  among_apart j a = let r = input_reader j a in input_apart d.belongs j r.0 r.1

  -- an input's edge is one of the edges
  pub among_within : (j : ℕ) → IsInput op.kind j → j < length e.edges
  among_within j a = let r = input_reader j a in let l : j < length x.nodes = input_within d.belongs j r.0 r.1 in
      let n = d.belongs.edges in omega arith

  -- an input's edge tells the truth of the input
  pub among_telling : (j : ℕ) → IsInput op.kind j → IsTelling (subformula x.nodes j) (trace_in x) (first_in x) x.now (edge_at e j)
  among_telling j a = let r = input_reader j a in telling d.belongs j r.0 r.1

  -- a node without a number yet has read nothing before the start
  pub among_first : (j : ℕ) → IsInput op.kind j → op.front ≡ None
      → AtMost (read_upto e j) (record { at = whole (pos (first_in x)); after = false })
  among_first j a none = let r = input_reader j a in read_first d.belongs j r.0 r.1 none

  -- the number that is allowed is the stretch's end
  pub allowed_is : allowed_by op.kind e x.now x.ended ≡ Some x.front
  allowed_is = allowed_number d.belongs ∙ d.allowed

  -- the number of each input is the last row's time, and the node comes to it; or the node's is by its inputs' numbers
  pub due_cases : (((j : ℕ) → IsInput op.kind j → number_at e j ≡ Some (pos x.now)) × (x.front ≡ pos x.now))
      ⊎ (open_by op.kind e x.now ≡ Some x.front)
  due_cases = allowed_cases op.kind e x.now x.ended x.front allowed_is

  -- the node's formula, by its node
  pub formula_is : formula_of x op ≡ tree_of (subformula x.nodes) op.node d.belongs.stands.node
  formula_is = subformula-at x.nodes op.node d.belongs.stands.node d.belongs.stands.at (own_below d.belongs)

  -- an old number is less than the new one
  pub front_later : (g : ℕ) → op.front ≡ Some g → pos g ≤ℤ x.front
  front_later g h =
      let shows : shown (state_in x) op.node ≡ Some (pos g) = d.belongs.stands.front ∙ ap (option_map pos) h in
      let at = shown_is x.nodes x.header d.belongs.formed.post_order (state_in x) op.node (pos g) shows in
      let up = never_less d.belongs x.front d.allowed (pos g) at.0 in
      subst (λ z. pos g ≤ℤ z) (same_Some up.0 x.front (sym up.1)) up.2

  -- the number that it comes to is at most the last row's time
  pub front_by_now : x.front ≤ℤ pos x.now
  front_by_now = allowed_by_now d.belongs x.front d.allowed

  -- and an old number is below it
  pub front_before : (g : ℕ) → op.front ≡ Some g → pos g <ℤ x.front
  front_before g h =
      let shows : shown (state_in x) op.node ≡ Some (pos g) = d.belongs.stands.front ∙ ap (option_map pos) h in
      let at = shown_is x.nodes x.header d.belongs.formed.post_order (state_in x) op.node (pos g) shows in
      let below : pos g ≤ℤ x.front = front_later g h in
      elim (int_cases (pos g) x.front) [
        | inl l ↦ l
        | inr o ↦
            let one : pos g ≡ x.front = omega (arith, ints, below, o) in
            let same : same_front (allowed_at x.nodes (state_in x) op.node) ((state_in x).fronts op.node) ≡ true =
            same_of (allowed_at x.nodes (state_in x) op.node) ((state_in x).fronts op.node)
            (d.allowed ∙ ap (λ (z : ℤ). Some z) (sym one) ∙ sym at.0) in
            absurd (ready_not same (no_atom_here d.belongs) d.ready)
      ]
    where
      int_cases : (i j : ℤ) → (i <ℤ j) ⊎ (j ≤ℤ i)
      int_cases i j = by_test (int_lt i j) refl
        where
          by_test : (t : Bool) → int_lt i j ≡ t → (i <ℤ j) ⊎ (j ≤ℤ i)
          by_test true e = inl (int_order i j true e)
          by_test false e = inr (int_order i j false e)

      ready_not : {a t : Bool} → t ≡ true → a ≡ false → (not a && not t) ≡ true → ⊥
      ready_not {a} {t} p q r =
          let z : (not false && not true) ≡ true =
          subst (λ (c : Bool). (not false && not c) ≡ true) p (subst (λ (c : Bool). (not c && not t) ≡ true) q r) in
          absurd (let w : false ≡ true = z in cc)

  -- the stretch has a time
  pub begin_before : Before (begins (stretch_of x op)) (end_of x)
  begin_before = by_front op.front refl
    where
      from_start : (whole (pos (first_in x)) <ʳ whole x.front) ⊎ (whole (pos (first_in x)) ≈ whole x.front) ⊎ (whole x.front <ʳ whole (pos (first_in x)))
          → Before (record { at = whole (pos (first_in x)); after = false }) (end_of x)
      from_start (inl l) = inl l
      from_start (inr (inl s)) = inr (s, refl, refl)
      from_start (inr (inr l)) = absurd (not_lt_of_le (le_whole d.low) l)

      by_front : (o : Option ℕ) → op.front ≡ o → Before (begins (stretch_of x op)) (end_of x)
      by_front None h = subst (λ (o : Option ℕ). Before (begins (stretch_of x (record op { front = o }))) (end_of x)) (sym h)
          (from_start (lt_or_same_or_gt (whole (pos (first_in x))) (whole x.front)))
      by_front (Some g) h = subst (λ (o : Option ℕ). Before (begins (stretch_of x (record op { front = o }))) (end_of x)) (sym h)
          (inl (lt_whole (front_before g h)))

  -- the stretch begins no later than it ends
  pub begin_upto : AtMost (begins (stretch_of x op)) (end_of x)
  begin_upto = by_front op.front refl
    where
      by_front : (o : Option ℕ) → op.front ≡ o → AtMost (begins (stretch_of x op)) (end_of x)
      by_front None h = subst (λ (o : Option ℕ). AtMost (begins (stretch_of x (record op { front = o }))) (end_of x)) (sym h)
          (λ t u. let l : whole (pos (first_in x)) ≤ʳ whole x.front = le_whole d.low in le_of_lt (lt_of_lt_of_le u l))
      by_front (Some g) h = subst (λ (o : Option ℕ). AtMost (begins (stretch_of x (record op { front = o }))) (end_of x)) (sym h)
          (λ t u. le_trans u (le_whole (front_later g h)))

  module _ {work : Outcome} (g : IsBegun x op work) where
    -- the work begins where the stretch does
    pub begun_at : Same (begins (stretch_of x op)) (place work.out.at)
    begun_at = subst (λ (c : Cut). Same (begins (stretch_of x op)) (place c)) (sym g.at) g.begin

    -- the work does not begin beyond the stretch's end
    pub begun_inside : AtMost (place work.out.at) (place work.out.to)
    begun_inside t u =
        upto_same (end_of x) (place work.out.to) t (same_places g.end)
        (begin_upto t (upto_same (place work.out.at) (begins (stretch_of x op)) t (same_places begun_at) u))

    -- when the work begins nothing was told yet
    pub begun_told : (n : Subformula) (tr : Trace) → HasTold n tr (begins (stretch_of x op)) [] work.out
    begun_told n tr = record {
      last = None;
      lead = (g.begin, refl);
      pending = subst (λ (o : Option Bool). IsPending n tr (record work.out { holds = o }) None) (sym g.holds)
          (subst (λ (c : Cut). Same (place work.out.from) (place c)) (sym g.at) (same_itself (place work.out.from)), refl);
    }

    -- no input was read further than to where the stretch begins, where so it was between steps
    pub begun_behind : (j : ℕ) → IsInput op.kind j
        → ((f : ℕ) → op.front ≡ Some f → AtMost (read_upto e j) (record { at = whole (pos f); after = true }))
        → AtMost (read_upto e j) (place work.out.at)
    begun_behind j a between t u = upto_same (begins (stretch_of x op)) (place work.out.at) t begun_at (by_front op.front refl t u)
      where
        by_front : (o : Option ℕ) → op.front ≡ o → AtMost (read_upto e j) (begins (stretch_of x op))
        by_front None h = subst (λ (o : Option ℕ). AtMost (read_upto e j) (begins (stretch_of x (record op { front = o })))) (sym h)
            (among_first j a h)
        by_front (Some f) h = subst (λ (o : Option ℕ). AtMost (read_upto e j) (begins (stretch_of x (record op { front = o })))) (sym h)
            (between f h)

    -- an input whose number is not less than the one that the node comes to is answered to the end of the stretch
    pub begun_enough : (j : ℕ) (f : ℤ) → number_at e j ≡ Some f → x.front ≤ℤ f → AtMost (place work.out.to) (front_place e j)
    begun_enough j f h l t u =
        subst (λ (o : Option ℤ). Upto (place_of o) t) (sym h)
        (le_trans (upto_same (place work.out.to) (end_of x) t g.end u) (le_whole l))

  -- what the operator keeps in mind, by its kind
  pub knows_at : (f : ℕ) → op.front ≡ Some f
      → KnowsBy op.kind x.nodes (trace_in x) e (record { at = whole (pos f); after = true }) (place op.reach) (place op.run)
  knows_at f h = subst (λ (o : Option ℕ). IfSome o (λ f. KnowsBy op.kind x.nodes (trace_in x) e (record { at = whole (pos f); after = true })
      (place op.reach) (place op.run))) h d.belongs.stands.knows
