-- Where no node is ready, each node's number is the last row's time less its horizon, and after the end that time itself.
use Rattle.std.proofs.Common.{◌≡◌, refl, sym, ap, ◌∙◌, ℕ, zero, suc, ◌<◌, Bool, true, false, Some, List, length, ℤ, arith}
use Rattle.std.specs.Prelude.{slice_index_or}
use Rattle.std.proofs.lemmas.Int.{ints}
use Rattle.stl_syntax.specs.Trace.{Header}
use Rattle.stl_syntax.specs.Formula.{subformula}
use Rattle.stl_syntax.specs.PostOrder.{IsPostOrder}
use Rattle.stl_syntax.specs.declared.node.Node.{Node}
use Rattle.stl_syntax.specs.declared.node.Node.TheVariants.{Const}
use Rattle.stl_syntax.proofs.PostOrderLemmas.{slice_get_at}
use Rattle.online_nodes.specs.Network.{Event, State, last_row, node_is_atom, allowed_at, same_front, state, IsRun, IsReady}
use Rattle.online_nodes.specs.StreamedWide.{front_at}
use Rattle.online_nodes.proofs.RisingLaw.{IsSound, sound_of, same_is, same_of}
use Rattle.online_nodes.proofs.FrontsLaw.{IsPassing, allowed_is, atom_horizon, Target}

module _ (nodes : List Node) (header : Header) (order : IsPostOrder nodes) (s : State) (sound : IsSound nodes header order s) (last : ℤ)
    (is_last : last_row s ≡ Some last) (still : (i : ℕ) → i < length nodes → ¬ IsReady nodes s i) where
  passing : IsPassing nodes order s.closed last s
  passing = record { last = is_last; closed = refl; atoms = atoms }
    where
      atoms : (i : ℕ) → i < length nodes → node_is_atom nodes i ≡ true → s.fronts i ≡ Target nodes order s.closed last i
      atoms i l x = sound.atoms i l x ∙ is_last ∙ ap (λ (z : ℤ). Some z) (at_last s.closed)
        where
          at_last : (c : Bool) → last ≡ front_at c last (subformula nodes i)
          at_last true = refl
          at_last false = let none = atom_horizon nodes i order l x in omega (arith, ints)

  -- a node that is not ready has its allowed number
  has_allowed : (i : ℕ) → i < length nodes → node_is_atom nodes i ≡ false → s.fronts i ≡ allowed_at nodes s i
  has_allowed i l x = by_test (same_front (allowed_at nodes s i) (s.fronts i)) refl
    where
      by_test : (t : Bool) → same_front (allowed_at nodes s i) (s.fronts i) ≡ t → s.fronts i ≡ allowed_at nodes s i
      by_test true e = sym (same_is (allowed_at nodes s i) (s.fronts i) e)
      by_test false e = absurd (still i l (x, λ y. let z = same_of (allowed_at nodes s i) (s.fronts i) y in let w : true ≡ false = sym z ∙ e in cc))

  below : (m i : ℕ) → i < m → i < length nodes → s.fronts i ≡ Target nodes order s.closed last i
  below zero i h l = absurd (omega arith)
  below (suc m) i h l = by_atom (node_is_atom nodes i) refl (λ j k. below m j (omega (arith, h, k)) (omega (arith, k, l)))
    where
      by_atom : (t : Bool) → node_is_atom nodes i ≡ t → ((j : ℕ) → j < i → s.fronts j ≡ Target nodes order s.closed last j)
          → s.fronts i ≡ Target nodes order s.closed last i
      by_atom true x before = passing.atoms i l x
      by_atom false x before = has_allowed i l x
          ∙ allowed_is nodes order s.closed last s i (slice_index_or nodes i (Const false)) (slice_get_at nodes i (Const false) l) l passing before

  -- each node is answered as far as the rows allow
  pub all_settled : (i : ℕ) → i < length nodes → s.fronts i ≡ Some (front_at s.closed last (subformula nodes i))
  all_settled i l = below (suc i) i (omega arith) l

-- where no node is ready after a run
pub numbers_are_settled : (nodes : List Node) (header : Header) → IsPostOrder nodes → (events : List Event) → IsRun nodes header events
    → ((i : ℕ) → i < length nodes → ¬ IsReady nodes (state nodes events) i) → (last : ℤ) → last_row (state nodes events) ≡ Some last
    → (i : ℕ) → i < length nodes → (state nodes events).fronts i ≡ Some (front_at (state nodes events).closed last (subformula nodes i))
numbers_are_settled nodes header order events run still last is_last i l =
    all_settled nodes header order (state nodes events) (sound_of nodes header order events run) last is_last still i l
