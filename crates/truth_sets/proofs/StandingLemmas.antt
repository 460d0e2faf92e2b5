-- What the sets of atoms come to: at the first row, and once all rows have come.
use Rattle.std.proofs.Common.{◌≡◌, ℕ, ◌≤◌, ◌⊎◌, inl, inr, pos, true, false, List, [], Some, refl, sym, subst, append-nil, arith}
use Rattle.std.specs.Prelude.{◌↔◌, slice_get, IsTrue, ◌<◌}
use Rattle.rational.specs.Time.{Rational, ◌≤ʳ◌, whole}
use Rattle.rational.specs.Places.{Same}
use Rattle.rational.proofs.PlaceLemmas.{after_same, upto_same, same_before, before_same, same_places}
use Rattle.time_sets.specs.Turns.{place}
use Rattle.time_sets.specs.Sets.{has}
use Rattle.time_sets.specs.Windows.{IsDomain, IsNear, Lies}
use Rattle.time_sets.specs.declared.domain.Domain.{Domain}
use Rattle.stl_syntax.specs.Trace.{Row, Trace, Continues, IsTrace, first_time, last_time}
use Rattle.stl_syntax.specs.Formula.{Formula, subformula}
use Rattle.stl_syntax.specs.Truth.{holds_at}
use Rattle.stl_syntax.specs.PostOrder.{IsPostOrder}
use Rattle.stl_syntax.specs.declared.atom.Atom.{Atom}
use Rattle.stl_syntax.specs.declared.node.Node.{Node}
use Rattle.stl_syntax.specs.declared.node.Node.TheVariants.{Const, Atom as Leaf, Not, And, Or, Implies, Until, Eventually, Always, Since, Once, Historically}
use Rattle.stl_syntax.proofs.FormulaLemmas.{subformula-at}
use Rattle.stl_syntax.proofs.PostOrderLemmas.{placed}
use Rattle.atom_lines.specs.Binding.{Binding, IsBound, IsFor}
use Rattle.truth_sets.specs.Growing.{before_row, after_row}
use Rattle.truth_sets.specs.Rows.{HasGrown}
use Rattle.truth_sets.specs.Telling.{IsOver, TellsTruth}
use Rattle.truth_sets.specs.Nodes.{AreReady, IsLeaf}
use Rattle.truth_sets.specs.Standing.{HaveGrown}
use Rattle.truth_sets.specs.declared.atom.NodeSet.{NodeSet}
use Rattle.truth_sets.proofs.MovingLemmas.{before_after}

-- a trace goes on from its own rows
goes_on : (tr : Trace) → Continues tr tr.header tr.rows false
goes_on tr = record { same_header = refl; more = []; begins = sym (append-nil tr.rows); whole_input = λ e. refl }

module _ (b : Binding) (f : Formula) (tr : Trace) (bound : IsBound b f tr.header) (ok : IsTrace tr) (order : IsPostOrder f.nodes) where
  for_atom : (i : ℕ) (a : Atom) → slice_get f.nodes i ≡ Some (Leaf a) → IsFor b i a tr
  for_atom i a at = record { formula = f; bound = bound; node = at; rows = ok }

  -- the set of an atom that has grown over all rows tells it
  atom_told : (on : Domain) (r : Row) (i : ℕ) (a : Atom) (s : NodeSet) → IsOver on tr → last_time 0 tr.rows ≡ r.time → slice_get f.nodes i ≡ Some (Leaf a)
      → HasGrown b i tr.header tr.rows r s → TellsTruth on tr (subformula f.nodes i) s.times
  atom_told on r i a s over last at g =
      subst (λ p. TellsTruth on tr p s.times) (sym (subformula-at f.nodes i (Leaf a) at (placed f.nodes i (Leaf a) order at)))
      (record {
        of = g.tidy.of on r.time (let e : r.time ≤ r.time = omega arith in e) over.begins
            (subst (λ n. Same (place on.to) (record { at = whole (pos n); after = true })) last over.ends);
        times = λ t l. both t (tells t l);
      })
    where
      tells : (t : Rational) → Lies on t → has s.times t ≡ holds_at a tr t
      tells t l = g.tells a tr (for_atom i a at) (goes_on tr) t
          (after_same (place on.from) (before_row (first_time tr.rows)) t over.begins l.0)
          (subst (λ n. t ≤ʳ whole (pos n)) last (upto_same (place on.to) (after_row (last_time 0 tr.rows)) t over.ends l.1))

      both : (t : Rational) → has s.times t ≡ holds_at a tr t → IsTrue (has s.times t) ↔ IsTrue (holds_at a tr t)
      both t e = (λ x. subst (λ v. IsTrue v) e x, λ x. subst (λ v. IsTrue v) (sym e) x)

  -- so all atoms have their sets, before the first node is made
  pub ready_first : (on : Domain) (r : Row) (sets : List NodeSet) → IsOver on tr → last_time 0 tr.rows ≡ r.time
      → HaveGrown b f.nodes tr.header tr.rows r sets → AreReady on tr f.nodes 0 sets
  ready_first on r sets over last g = record { count = g.count; tell = λ k n s at h unread found. by_kind k n s at h found }
    where
      none : {A : Type 0} (k : ℕ) → k < 0 → A
      none k h = absurd (omega (arith, h))

      by_kind : (k : ℕ) (n : Node) (s : NodeSet) → slice_get f.nodes k ≡ Some n → (k < 0) ⊎ IsLeaf n → slice_get sets k ≡ Some s
          → TellsTruth on tr (subformula f.nodes k) s.times
      by_kind k n s at (inl h) found = none k h
      by_kind k (Leaf a) s at (inr h) found = atom_told on r k a s over last at (g.each k a s at found)
      by_kind k (Const x) s at (inr h) found = absurd h
      by_kind k (Not p) s at (inr h) found = absurd h
      by_kind k (And p q) s at (inr h) found = absurd h
      by_kind k (Or p q) s at (inr h) found = absurd h
      by_kind k (Implies p q) s at (inr h) found = absurd h
      by_kind k (Until p q x y) s at (inr h) found = absurd h
      by_kind k (Eventually p x y x_in y_in) s at (inr h) found = absurd h
      by_kind k (Always p x y x_in y_in) s at (inr h) found = absurd h
      by_kind k (Since p q x y) s at (inr h) found = absurd h
      by_kind k (Once p x y x_in y_in) s at (inr h) found = absurd h
      by_kind k (Historically p x y x_in y_in) s at (inr h) found = absurd h

-- the domain from the first row to the last
pub domain_is : (on : Domain) (first last : ℕ) → first ≤ last → Same (place on.from) (before_row first) → Same (place on.to) (after_row last)
    → IsNear on.from → IsNear on.to → IsDomain on
domain_is on first last l a b near far = record {
  order = same_before (place on.from) (before_row first) (place on.to) a
      (before_same (before_row first) (after_row last) (place on.to) (before_after first last l) (same_places b));
  near_from = near;
  near_to = far;
}

-- which is that of the trace
pub over_is : (on : Domain) (tr : Trace) (first last : ℕ) → first ≡ first_time tr.rows → last_time 0 tr.rows ≡ last → Same (place on.from) (before_row first)
    → Same (place on.to) (after_row last) → IsOver on tr
over_is on tr first last e f a b = record {
  begins = subst (λ n. Same (place on.from) (before_row n)) e a;
  ends = subst (λ n. Same (place on.to) (after_row n)) (sym f) b;
}
