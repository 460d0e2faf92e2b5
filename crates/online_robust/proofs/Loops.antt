-- All nodes go on from one past to the next: the first one may, each leaves the next so that it may, and the last one leaves all gone on.
use Rattle.std.proofs.Common.{◌≡◌, ◌≢◌, inl, inr, ℕ, suc, ◌-◌, ◌<◌, ◌≤◌, Bool, false, List, ◌++◌, length, refl, sym, ap, subst, ◌∙◌, arith, Option, Some}
use Rattle.std.specs.Prelude.{slice_get, slice_set, slice_index_or, if◌then◌else◌}
use Rattle.std.proofs.lemmas.Bool.{lt-ltb, le-ltb, cases_lt}
use Rattle.std.proofs.lemmas.Option.{slice_get_within}
use Rattle.pl_signal.specs.declared.faults.OpFault.{OpFault}
use Rattle.pl_signal.specs.declared.faults.OpFault.TheVariants as F
use Rattle.value_laws.specs.declared.margin.Margin.{Margin}
use Rattle.stl_syntax.specs.Trace.{Header, Row}
use Rattle.stl_syntax.specs.Formula.{subformula, horizon}
use Rattle.stl_syntax.specs.declared.node.Node.{Node}
use Rattle.stl_syntax.specs.declared.node.Node.TheVariants.{Const}
use Rattle.stl_syntax.proofs.PostOrderLemmas.{slice_get_at}
use Rattle.atom_lines.specs.Binding.{Binding}
use Rattle.online_nodes.specs.Network.{reach_back}
use Rattle.online_nodes.specs.Needed.{IsReader}
use Rattle.online_robust.specs.Held.{Held, held_at, number_at}
use Rattle.online_robust.specs.Steps.{seen_by}
use Rattle.online_robust.specs.Pasts.{Past, number_of, Gave, IsHeld, IsWork}
use Rattle.online_robust.specs.Moving.{CanMove, CanMoveByRow, CanMoveByEnd, HasMoved, IsRowNext, IsEndNext, IsFaultOf}
use Rattle.online_robust.specs.Nets.{Shows, Passing, past_at, move_of, CanGo, Going, HasGone, IsGoFault, IsFaultAt}
use Rattle.online_robust.specs.declared.line.MarginLine.{MarginLine}
use Rattle.online_robust.specs.declared.net.RobustFault.{RobustFault}
use Rattle.online_robust.specs.declared.net.RobustFault.TheVariants.{Wide}
use Rattle.online_robust.specs.declared.station.Station.{Station}
use Rattle.online_robust.proofs.NetworkMoved.{AtNext, shows_moved}
use Rattle.online_robust.proofs.Readers.{reader_above}

-- the same shows where the pasts of the nodes are the same
shows_by : (nodes : List Node) (header : Header) (at after : ℕ → Past) (given : List MarginLine) (e : Held) (stations : List Station)
    → ((r : ℕ) (n : Node) (left : Bool) (j : ℕ) → slice_get nodes r ≡ Some n → IsReader n left j → j < r) → 0 < length nodes
    → ((j : ℕ) → j < length nodes → at j ≡ after j) → Shows nodes header at given e stations → Shows nodes header after given e stations
shows_by nodes header at after given e stations above some same shows = record {
  edges = shows.edges;
  stations = shows.stations;
  held = λ j r n left found reads.
      let r_within = slice_get_within nodes r n found in
      let lower = above r n left j found reads in
      subst (λ q. IsHeld nodes header (after j) j q r (reach_back n left) (held_at e j)) (same r r_within)
      (subst (λ q. IsHeld nodes header q j (at r) r (reach_back n left) (held_at e j)) (same j (omega (arith, r_within, lower)))
      (shows.held j r n left found reads));
  root = subst (λ q. Gave nodes header q (length nodes - 1) (given ++ held_at e (length nodes - 1))) (same (length nodes - 1) (omega (arith, some))) shows.root;
  numbers = λ j l. subst (λ q. number_at e j ≡ number_of nodes q j) (same j l) (shows.numbers j l);
  works = λ j n st found here.
      let both = shows.works j n st found here in
      (both.0, subst (λ q. IsWork nodes header q j n (seen_by n e) st.work) (same j (slice_get_within nodes j n found)) both.1);
}

module _ (p : Passing) where
  past_below : (i j : ℕ) → j < i → past_at p i j ≡ p.new
  past_below i j h = ap (λ b. if b then p.new else p.old) (lt-ltb j i h)

  past_above : (i j : ℕ) → i ≤ j → past_at p i j ≡ p.old
  past_above i j h = ap (λ b. if b then p.new else p.old) (le-ltb j i h)

  at_next : (i : ℕ) → AtNext i p.old p.new (past_at p i) (past_at p (suc i))
  at_next i = record {
    was = past_above i i (omega arith);
    is = past_below (suc i) i (omega arith);
    below = λ j h. past_below i j h;
    above = λ j h. past_above i j (omega (arith, h));
    others = λ j apart. other j apart;
  }
    where
      other : (j : ℕ) → j ≢ i → past_at p (suc i) j ≡ past_at p i j
      other j apart = elim (cases_lt j i) [
        | inl low ↦ past_below (suc i) j (omega (arith, low)) ∙ sym (past_below i j low)
        | inr high ↦ past_above (suc i) j (omega (arith, high, apart)) ∙ sym (past_above i j high)
      ]

  module _ (e : Held) (stations : List Station) (can : CanGo p e stations) where
    above : (r : ℕ) (n : Node) (left : Bool) (j : ℕ) → slice_get p.nodes r ≡ Some n → IsReader n left j → j < r
    above = reader_above p.nodes can.nodes.formed

    -- the first
    pub going_first : Going p 0 e stations
    going_first = record {
      start = can.start;
      shows = shows_by p.nodes p.header (λ j. p.old) (past_at p 0) p.given e stations above can.nodes.some
          (λ j l. sym (past_above 0 j (omega arith))) can.shows;
    }

    -- the last
    pub gone_last : (i : ℕ) (e' : Held) (stations' : List Station) → i ≡ length p.nodes → Going p i e' stations' → HasGone p e' stations'
    gone_last i e' stations' all going = record {
      start = going.start;
      shows =
          shows_by p.nodes p.header (past_at p i) (λ j. p.new) p.given e' stations' above can.nodes.some
          (λ j l. past_below i j (omega (arith, l, all))) going.shows;
    }

    module _ (i : ℕ) (e' : Held) (stations' : List Station) (st : Station) (within : i < length p.nodes) (here : slice_get stations' i ≡ Some st)
        (going : Going p i e' stations') where
      abbrev node : Node
      node = slice_index_or p.nodes i (Const false)

      found : slice_get p.nodes i ≡ Some node
      found = slice_get_at p.nodes i (Const false) within

      abbrev works : (st.ahead ≡ horizon (subformula p.nodes i)) × IsWork p.nodes p.header (past_at p i i) i node (seen_by node e') st.work
      works = going.shows.works i node st found here

      -- the node may move
      pub can_move : CanMove (move_of p i) st.work e'
      can_move = record {
        nodes = can.nodes;
        edges = going.shows.edges;
        node = node;
        at = found;
        next = can.next;
        start = going.start;
        trace = can.trace;
        small = can.small;
        work = subst (λ q. IsWork p.nodes p.header q i node (seen_by node e') st.work) (past_above i i (omega arith)) works.1;
        number = going.shows.numbers i within ∙ ap (λ q. number_of p.nodes q i) (past_above i i (omega arith));
        inputs = λ j left reads.
            subst (λ q. IsHeld p.nodes p.header p.new j q i (reach_back node left) (held_at e' j)) (past_above i i (omega arith))
            (subst (λ q. IsHeld p.nodes p.header q j (past_at p i i) i (reach_back node left) (held_at e' j)) (past_below i j (above i node left j found reads))
            (going.shows.held j i node left found reads));
      }

      -- the node may move by the row
      pub can_move_by_row : (b : Binding) (before : Option Row) (r : Row) (n : ℕ) → n ≡ i → IsRowNext (move_of p 0) b before r
          → CanMoveByRow (move_of p i) n st e' b before r
      can_move_by_row b before r n is row =
          (sym is, can_move, works.0, record { scale = row.scale; bound = row.bound; last = row.last; new = row.new })

      -- the node may move by the end
      pub can_move_by_end : (now n : ℕ) → n ≡ i → IsEndNext (move_of p 0) now → CanMoveByEnd (move_of p i) n st e' now
      can_move_by_end now n is end = (sym is, can_move, record { last = end.last; new = end.new })

      -- one more
      pub going_next : (e'' : Held) (st' : Station) → st'.ahead ≡ st.ahead → HasMoved (move_of p i) st'.work e' e''
          → Going p (suc i) e'' (slice_set stations' i st')
      going_next e'' st' ahead moved = record {
        start = moved.start ∙ going.start;
        shows =
            shows_moved p.nodes p.header can.nodes p.old p.new can.next can.trace i within (past_at p i) (past_at p (suc i))
            (at_next i) p.given e' e'' st'.work moved
            stations' st st' here ahead refl going.shows;
      }

      -- its fault
      pub go_fault : (n : ℕ) → n ≡ i → (f : OpFault Margin) (fault : RobustFault) → IsFaultOf (move_of p i) f → IsFaultAt n f fault → IsGoFault p fault
      go_fault n is F.Memory fault h e = subst (IsGoFault p) (sym e) tt
      go_fault n is (F.Wide pair) fault h e =
          subst (IsGoFault p) (sym (e ∙ ap (λ k. Wide (record { node = k; pair = pair })) is)) (within, h)
