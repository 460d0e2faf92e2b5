-- What the bodies leave of a step that is due: constants, negations and connectives.
use Rattle.std.proofs.Common.{◌≡◌, inl, inr, refl, sym, ap, subst, ◌∙◌, ℕ, ◌+◌, ◌<◌, ◌≤◌, Bool, true, false, Some, [], length, pos, arith}
use Rattle.std.specs.Prelude.{◌*◌}
use Rattle.std.proofs.lemmas.Int.{ints}
use Rattle.rational.specs.Rational.{Rational, whole}
use Rattle.stl_syntax.specs.Trace.{Trace}
use Rattle.stl_syntax.specs.Formula.{Subformula, constant, subformula, tree_of}
use Rattle.stl_syntax.specs.Truth.{Truth}
use Rattle.stl_syntax.specs.declared.node.Node.{Node}
use Rattle.stl_syntax.specs.declared.node.Node.TheVariants.{Const, Atom as Leaf, Not, And, Or, Implies}
use Rattle.online_nodes.specs.Network.{is_atom}
use Rattle.online_nodes.specs.Answering.{HasToldAll, HasWorkedOn, IsInput}
use Rattle.online_nodes.specs.Stepping.{Situation, HasWorkedOut, IsBegun, IsDue, LeavesLater, end_of, formula_of, stretch_of}
use Rattle.online_nodes.specs.Stepping.{trace_in}
use Rattle.rational.specs.Places.{AtMost, Place, Same, Upto, begins}
use Rattle.frac128.specs.Cuts.{place}
use Rattle.online_nodes.specs.Held.{Held, fresh_at, number_at}
use Rattle.online_nodes.specs.Joins.{HasJoined, IsJoinOf, IsJoining}
use Rattle.online_nodes.specs.Kinds.{held_in, inputs_of, open_by}
use Rattle.online_nodes.specs.Negations.{HasNegated, IsNegating, IsNotOf}
use Rattle.online_nodes.specs.Operators.{KnowsBy, front_place, kind_of, place_of, read_upto}
use Rattle.online_nodes.specs.Truths.{Is, Tells, Truths}
use Rattle.online_nodes.specs.Working.{HasWorked}
use Rattle.online_nodes.specs.Written.{HasGot, waiting}
use Rattle.stl_syntax.specs.declared.operator.Join.{Join}
use Rattle.stl_syntax.specs.declared.operator.Join.TheVariants.{And as Conjunction, Or as Disjunction, Implies as Implication}
use Rattle.online_nodes.specs.declared.join.Inputs.{Inputs}
use Rattle.online_nodes.specs.declared.kind.Kind.TheVariants.{Const as Constant, Not as Negation, Join as Connective}
use Rattle.online_nodes.specs.declared.operator.Operator.{Operator}
use Rattle.online_nodes.specs.declared.answering.Outcome.{Outcome}
use Rattle.online_nodes.proofs.AnsweringLemmas.{fresh_few, worked_one, worked_two, waiting_few}
use Rattle.online_nodes.proofs.BelongLemmas.{own_edge}
use Rattle.online_nodes.proofs.DueLemmas.{among_apart, among_telling, begun_behind, begun_enough, begun_told, due_cases}
use Rattle.online_nodes.proofs.DueLemmas.{formula_is, kind_is, knows_at}
use Rattle.online_nodes.proofs.GotLemmas.{got-here, got-length, got-other}
use Rattle.online_nodes.proofs.TellingLemmas.{fresh_tells, tells_first}
use Rattle.online_nodes.proofs.LooksLaw.{and_joins, implies_joins, not_denies, or_joins}
use Rattle.rational.proofs.PlaceLemmas.{same_places, same_trans_places, upto_same}
use Rattle.rational.proofs.PlaceLemmas.{same_of_at_most}
use Rattle.online_nodes.proofs.RunLaw.{lesser}
use Rattle.online_nodes.proofs.WorkLemmas.{read_none}

-- where what is told begins, is where what was not read begins
pub read_place : (P : Truths) (e : Held) (j : ℕ) (from stop : Place) → stop ≡ front_place e j → Tells P from (fresh_at e j) stop
    → Same from (read_upto e j)
read_place P e j from stop is h =
    (tells_first P from (fresh_at e j) (front_place e j) (subst (λ (q : Place). Tells P from (fresh_at e j) q) is h)).1

-- a node of a kind
not_node : (n : Node) (p : ℕ) → kind_of n ≡ Negation p → n ≡ Not p
not_node (Const b) p e = absurd (let x : Constant b ≡ Negation p = e in cc)
not_node (Leaf a) p e = absurd (let x : Constant false ≡ Negation p = e in cc)
not_node (Not q) p e = let x : Negation q ≡ Negation p = e in cc
not_node (And p' q) p e = absurd (let x : Connective Conjunction (record { left = p'; right = q }) ≡ Negation p = e in cc)
not_node (Or p' q) p e = absurd (let x : Connective Disjunction (record { left = p'; right = q }) ≡ Negation p = e in cc)
not_node (Implies p' q) p e = absurd (let x : Connective Implication (record { left = p'; right = q }) ≡ Negation p = e in cc)
not_node n p e = absurd (let x : kind_of n ≡ Negation p = e in cc)

constant_node : (n : Node) (b : Bool) → is_atom n ≡ false → kind_of n ≡ Constant b → n ≡ Const b
constant_node (Const c) b a e = let x : Constant c ≡ Constant b = e in cc
constant_node (Leaf l) b a e = absurd (let x : true ≡ false = a in cc)
constant_node n b a e = absurd (let x : kind_of n ≡ Constant b = e in cc)

-- a connective's node is that connective
module _ (at : ℕ → Subformula) (i : ℕ) (tr : Trace) where
  same_join : (made join : Join) (left right : ℕ) (inputs : Inputs) (n : Subformula)
      → Connective made (record { left = left; right = right }) ≡ Connective join inputs
      → IsJoinOf made n (at left) (at right) tr → IsJoinOf join n (at inputs.left) (at inputs.right) tr
  same_join made join left right inputs n e h =
      let k : made ≡ join = cc in
      let l : record { left = left; right = right } ≡ inputs = cc in
      let a : left ≡ inputs.left = ap (λ (z : Inputs). z.left) l in
      let b : right ≡ inputs.right = ap (λ (z : Inputs). z.right) l in
      subst (λ (j : Join). IsJoinOf j n (at inputs.left) (at inputs.right) tr) k
      (subst (λ (q : ℕ). IsJoinOf made n (at inputs.left) (at q) tr) b (subst (λ (q : ℕ). IsJoinOf made n (at q) (at right) tr) a h))

  join_node : (n : Node) (join : Join) (inputs : Inputs) → kind_of n ≡ Connective join inputs
      → IsJoinOf join (tree_of at i n) (at inputs.left) (at inputs.right) tr
  join_node (And p q) join inputs e = same_join Conjunction join p q inputs (tree_of at i (And p q)) e (and_joins (at p) (at q) tr)
  join_node (Or p q) join inputs e = same_join Disjunction join p q inputs (tree_of at i (Or p q)) e (or_joins (at p) (at q) tr)
  join_node (Implies p q) join inputs e = same_join Implication join p q inputs (tree_of at i (Implies p q)) e (implies_joins (at p) (at q) tr)
  join_node n join inputs e = absurd (let x : kind_of n ≡ Connective join inputs = e in cc)

module _ {x : Situation} {op : Operator} {old : Held} {work : Outcome} (d : IsDue x op old) (g : IsBegun x op work) where
  -- a negation
  module _ {of : ℕ} (kind : op.kind ≡ Negation of) where
    -- the input is one of the operator's
    pub among_of : IsInput op.kind of
    among_of = subst (λ k. IsInput k of) (sym kind) refl

    not_of : IsNotOf (formula_of x op) (subformula x.nodes of) (trace_in x)
    not_of =
        let node : d.belongs.stands.node ≡ Not of = not_node d.belongs.stands.node of (sym (kind_is d) ∙ kind) in
        subst (λ (n : Subformula). IsNotOf n (subformula x.nodes of) (trace_in x))
        (sym (formula_is d ∙ ap (tree_of (subformula x.nodes) op.node) node)) (not_denies (subformula x.nodes of) (trace_in x))

    behind_of : AtMost (read_upto old of) (place work.out.at)
    behind_of = begun_behind d g of among_of (λ f h. subst (λ k. KnowsBy k x.nodes (trace_in x) old
        (record { at = whole (pos f); after = true }) (place op.reach) (place op.run)) kind (knows_at d f h))

    enough_of : AtMost (place work.out.to) (front_place old of)
    enough_of = elim (due_cases d) [
      | inl h ↦ begun_enough d g of (pos x.now) (h.0 of among_of) (let e = h.1 in omega (arith, ints))
      | inr h ↦ begun_enough d g of x.front (subst (λ k. open_by k old x.now ≡ Some x.front) kind h) (omega (arith, ints))
    ]

    begun_negating : IsNegating (formula_of x op) (subformula x.nodes of) (trace_in x) (begins (stretch_of x op)) [] work.out
        (read_upto old of) (front_place old of) (fresh_at old of)
    begun_negating = record {
      told = begun_told d g (formula_of x op) (trace_in x);
      input = record { behind = behind_of; tells = fresh_tells (among_telling d of among_of); enough = enough_of };
    }

    -- the turns of a negation are the work of the step
    pub negation_worked : {new : Held} (done : Outcome) → HasNegated old new of work.out done.out → HasWorkedOut x op old new done
    negation_worked {new} done neg =
        let told = neg.goes (formula_of x op) (subformula x.nodes of) (trace_in x) (begins (stretch_of x op)) []
        (read_upto old of) (front_place old of) not_of begun_negating in
        let worked : HasWorked old new op.node of of neg.more = subst (λ (i : ℕ). HasWorked old new i of of neg.more) g.edge neg.worked in
        let stop : front_place old of ≡ front_place new of = ap place_of (sym worked.left_read.number) in
        let there : Same (place done.out.at) (end_of x) =
        same_trans_places (same_of_at_most (place done.out.at) (place work.out.to) neg.inside told.2) g.end in
        let from : Same told.0 (read_upto new of) =
        read_place (Truth (subformula x.nodes of) (trace_in x)) new of told.0 (front_place old of) stop told.1.input.tells in
        record {
          more = neg.more;
          owed = subst (λ k. length neg.more + waiting done.out.holds ≤ 2 * held_in old (inputs_of k) + 2) (sym kind)
              (let f = fresh_few old of in let m = neg.few in let w = waiting_few done.out.holds in omega arith);
          worked = subst (λ k. HasWorkedOn k old new op.node neg.more) (sym kind)
              (worked_one (Negation of) of old new op.node neg.more (λ k h. h) (λ k h. h) worked);
          edge = neg.edge ∙ g.edge;
          sound = neg.sound;
          end = there;
          told = told.1.told;
          knows = subst (λ k. KnowsBy k x.nodes (trace_in x) new (end_of x) (place done.marks.reach) (place done.marks.run)) (sym kind)
              (λ t u. upto_same (place done.out.at) (end_of x) t there (told.1.input.behind t (upto_same (read_upto new of) told.0 t (same_places from) u)));
          unread = subst (λ k. LeavesLater k new (end_of x) (place done.marks.run)) (sym kind) tt;
        }

  -- a node that is so at every time of the stretch, and reads nothing
  pub all_worked : {new : Held} (b : Bool) (done : Outcome) → HasToldAll old new b work.out work.marks done
      → ((t : Rational) → Upto (end_of x) t → Is b (Truth (formula_of x op) (trace_in x)) t)
      → KnowsBy op.kind x.nodes (trace_in x) new (end_of x) (place done.marks.reach) (place done.marks.run)
      → LeavesLater op.kind new (end_of x) (place done.marks.run)
      → HasWorkedOut x op old new done
  all_worked {new} b done told holds knows unread =
      let said = told.said in
      let own : op.node < length old.edges = own_edge d.belongs in
      let got : HasGot old new op.node said.more = subst (λ (i : ℕ). HasGot old new i said.more) g.edge said.got in
      let there : Same (place done.out.at) (end_of x) =
      same_trans_places (same_of_at_most (place done.out.at) (place work.out.to) told.inside told.all) g.end in
      record {
        more = said.more;
        owed = let m = said.few in let w = waiting_few done.out.holds in omega arith;
        worked = record {
          count = got-length got;
          got = got-here got own;
          read = λ j is. read_none _ _ (got-other got j (among_apart d j is));
          others = λ j apart none. got-other got j apart;
          start = got.start;
          spare = got.spare;
        };
        edge = said.edge ∙ g.edge;
        sound = said.sound;
        end = there;
        told = said.told (formula_of x op) (trace_in x) (begins (stretch_of x op)) [] (begun_told d g (formula_of x op) (trace_in x))
            (λ t a u. holds t (upto_same (place done.out.at) (end_of x) t there u));
        knows = knows;
        unread = unread;
      }

  -- a constant
  module _ {b : Bool} (kind : op.kind ≡ Constant b) where
    constant_is : formula_of x op ≡ constant b
    constant_is = formula_is d ∙ ap (tree_of (subformula x.nodes) op.node)
        (constant_node d.belongs.stands.node b d.belongs.stands.no_atom (sym (kind_is d) ∙ kind))

    -- a constant's one verdict is the work of the step
    pub constant_worked : {new : Held} (done : Outcome) → HasToldAll old new b work.out work.marks done → HasWorkedOut x op old new done
    constant_worked {new} done told =
        all_worked b done told
        (λ t u. subst (λ (n : Subformula). Is b (Truth n (trace_in x)) t) (sym constant_is) (holds b t))
        (subst (λ k. KnowsBy k x.nodes (trace_in x) new (end_of x) (place done.marks.reach) (place done.marks.run)) (sym kind) tt)
        (subst (λ k. LeavesLater k new (end_of x) (place done.marks.run)) (sym kind) tt)
      where
        holds : (b : Bool) (t : Rational) → Is b (Truth (constant b) (trace_in x)) t
        holds true t = refl
        holds false t = λ h. (let y : false ≡ true = h in cc)

  -- a connective
  module _ {join : Join} {inputs : Inputs} (kind : op.kind ≡ Connective join inputs) where
    -- the left input is one of the operator's
    pub among_left : IsInput op.kind inputs.left
    among_left = subst (λ k. IsInput k inputs.left) (sym kind) (inl refl)

    -- the right input is one of the operator's
    pub among_right : IsInput op.kind inputs.right
    among_right = subst (λ k. IsInput k inputs.right) (sym kind) (inr refl)

    join_of : IsJoinOf join (formula_of x op) (subformula x.nodes inputs.left) (subformula x.nodes inputs.right) (trace_in x)
    join_of =
        subst (λ (n : Subformula). IsJoinOf join n (subformula x.nodes inputs.left) (subformula x.nodes inputs.right) (trace_in x))
        (sym (formula_is d)) (join_node (subformula x.nodes) op.node (trace_in x) d.belongs.stands.node join inputs (sym (kind_is d) ∙ kind))

    known_both : (f : ℕ) → op.front ≡ Some f → AtMost (read_upto old inputs.left) (record { at = whole (pos f); after = true })
        × AtMost (read_upto old inputs.right) (record { at = whole (pos f); after = true })
    known_both f h = subst (λ k. KnowsBy k x.nodes (trace_in x) old (record { at = whole (pos f); after = true }) (place op.reach)
        (place op.run)) kind (knows_at d f h)

    enough_both : AtMost (place work.out.to) (front_place old inputs.left) × AtMost (place work.out.to) (front_place old inputs.right)
    enough_both = elim (due_cases d) [
      | inl h ↦ (
        begun_enough d g inputs.left (pos x.now) (h.0 inputs.left among_left) (let e = h.1 in omega (arith, ints)),
        begun_enough d g inputs.right (pos x.now) (h.0 inputs.right among_right) (let e = h.1 in omega (arith, ints)),
      )
      | inr h ↦
          let least = lesser (number_at old inputs.left) (number_at old inputs.right) x.front
          (subst (λ k. open_by k old x.now ≡ Some x.front) kind h) in (
            begun_enough d g inputs.left least.0 least.2 least.4,
            begun_enough d g inputs.right least.1 least.3 least.5,
          )
    ]

    begun_joining : IsJoining (formula_of x op) (subformula x.nodes inputs.left) (subformula x.nodes inputs.right) (trace_in x)
        (begins (stretch_of x op)) [] work.out (read_upto old inputs.left) (read_upto old inputs.right) (front_place old inputs.left)
        (front_place old inputs.right) (fresh_at old inputs.left) (fresh_at old inputs.right)
    begun_joining = record {
      told = begun_told d g (formula_of x op) (trace_in x);
      left_read = record {
        behind = begun_behind d g inputs.left among_left (λ f h. (known_both f h).0);
        tells = fresh_tells (among_telling d inputs.left among_left);
        enough = enough_both.0;
      };
      right_read = record {
        behind = begun_behind d g inputs.right among_right (λ f h. (known_both f h).1);
        tells = fresh_tells (among_telling d inputs.right among_right);
        enough = enough_both.1;
      };
    }

    -- the turns of a connective are the work of the step
    pub join_worked : {new : Held} (done : Outcome) → HasJoined old new join inputs work.out done.out → HasWorkedOut x op old new done
    join_worked {new} done joined =
        let told = joined.goes (formula_of x op) (subformula x.nodes inputs.left) (subformula x.nodes inputs.right) (trace_in x)
        (begins (stretch_of x op)) [] (read_upto old inputs.left) (read_upto old inputs.right) (front_place old inputs.left)
        (front_place old inputs.right) join_of begun_joining in
        let worked : HasWorked old new op.node inputs.left inputs.right joined.more =
        subst (λ (i : ℕ). HasWorked old new i inputs.left inputs.right joined.more) g.edge joined.worked in
        let there : Same (place done.out.at) (end_of x) =
        same_trans_places (same_of_at_most (place done.out.at) (place work.out.to) joined.inside told.3) g.end in
        let left : Same told.0 (read_upto new inputs.left) =
        read_place (Truth (subformula x.nodes inputs.left) (trace_in x)) new inputs.left told.0 (front_place old inputs.left)
        (ap place_of (sym worked.left_read.number)) told.2.left_read.tells in
        let right : Same told.1 (read_upto new inputs.right) =
        read_place (Truth (subformula x.nodes inputs.right) (trace_in x)) new inputs.right told.1 (front_place old inputs.right)
        (ap place_of (sym worked.right_read.number)) told.2.right_read.tells in
        record {
          more = joined.more;
          owed = subst (λ k. length joined.more + waiting done.out.holds ≤ 2 * held_in old (inputs_of k) + 2) (sym kind)
              (let f = fresh_few old inputs.left in let h = fresh_few old inputs.right in let m = joined.few in
              let w = waiting_few done.out.holds in omega arith);
          worked = subst (λ k. HasWorkedOn k old new op.node joined.more) (sym kind)
              (worked_two (Connective join inputs) inputs.left inputs.right old new op.node joined.more (λ k h. h) (λ k h. h) worked);
          edge = joined.edge ∙ g.edge;
          sound = joined.sound;
          end = there;
          told = told.2.told;
          knows = subst (λ k. KnowsBy k x.nodes (trace_in x) new (end_of x) (place done.marks.reach) (place done.marks.run)) (sym kind) (
            (λ t u. upto_same (place done.out.at) (end_of x) t there
                (told.2.left_read.behind t (upto_same (read_upto new inputs.left) told.0 t (same_places left) u))),
            (λ t u. upto_same (place done.out.at) (end_of x) t there
                (told.2.right_read.behind t (upto_same (read_upto new inputs.right) told.1 t (same_places right) u))),
          );
          unread = subst (λ k. LeavesLater k new (end_of x) (place done.marks.run)) (sym kind) tt;
        }
