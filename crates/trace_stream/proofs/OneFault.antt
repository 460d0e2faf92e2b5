-- Bytes have at most one first fault.
use Rattle.std.proofs.Common.{◌≡◌, ◌⊎◌, inl, inr, sym, ap, subst, ◌∙◌, ℕ, zero, suc, ◌<◌, Bool, List, [], ◌∷◌, take, arith}
use Rattle.std.specs.Prelude.{Some, None, Option, slice_get, All}
use Rattle.std.proofs.lemmas.Bool.{cases_order}
use Rattle.std.proofs.lemmas.List.Elements.{All-head, All-tail}
use Rattle.stl_syntax.specs.Choice.{◌or_else◌, Where}
use Rattle.stl_syntax.specs.Formula.{Formula, IsFirst}
use Rattle.stl_syntax.specs.Limits.{reach, HasLargeConstant}
use Rattle.stl_syntax.specs.Scaling.{scaled}
use Rattle.stl_syntax.specs.Trace.{Column}
use Rattle.stl_syntax.specs.Binding.{HasColumn, HasColumns, IsUnknown, IsUnitFault}
use Rattle.stl_syntax.specs.declared.atom.Atom.{Atom}
use Rattle.stl_syntax.specs.declared.atom.Term.{Term}
use Rattle.stl_syntax.specs.declared.node.Node.TheVariants.{Atom as Leaf}
use Rattle.stl_syntax.specs.declared.scale.Scale.{Scale}
use Rattle.stl_syntax.specs.declared.scale.UnitFault.TheVariants.{Constant, Reach}
use Rattle.stl_syntax.proofs.ChoiceLemmas.{AtMostOne, or_else-unique, where-unique}
use Rattle.stl_syntax.proofs.ScalingLemmas.{one_first}
use Rattle.trace_reader.specs.TraceText.{Heading, scale_of}
use Rattle.trace_reader.specs.declared.refusal.Limits.{Limits}
use Rattle.trace_reader.proofs.TraceRefusalLaw.{FirstFault-unique}
use Rattle.trace_reader.specs.InputFaults.{of_trace, unknown, unit, IsInputFault, IsUnknownIn, IsUnitIn}
use Rattle.trace_stream.proofs.HeaderLines.{header_once}

-- what holds of all of a list holds of each, and what holds of its front holds of each there
all_of : {X : Type 0} (P : X → Type 0) (xs : List X) (i : ℕ) (x : X) → All P xs → slice_get xs i ≡ Some x → P x
all_of P [] i x h e = absurd (let z : None ≡ Some x = e in cc)
all_of P (y ∷ xs) zero x h e = subst P (let z : y ≡ x = one y x e in z) (All-head P y xs h)
  where
    one : {Y : Type 0} (a b : Y) → Some a ≡ Some b → a ≡ b
    one a b e = cc
all_of P (y ∷ xs) (suc i) x h e = all_of P xs i x (All-tail P y xs h) e

all_before : {X : Type 0} (P : X → Type 0) (xs : List X) (i k : ℕ) (x : X) → i < k → All P (take k xs) → slice_get xs i ≡ Some x → P x
all_before P [] i k x l h e = absurd (let z : None ≡ Some x = e in cc)
all_before P (y ∷ xs) i zero x l h e = absurd (omega (arith, l))
all_before P (y ∷ xs) zero (suc k) x l h e = subst P (let z : y ≡ x = one y x e in z) (All-head P y (take k xs) h)
  where
    one : {Y : Type 0} (a b : Y) → Some a ≡ Some b → a ≡ b
    one a b e = cc
all_before P (y ∷ xs) (suc i) (suc k) x l h e = all_before P xs i k x (omega (arith, l)) (All-tail P y (take k xs) h) e

-- there is one first term that names no column
pub unknown_once : (columns : List Column) (f : Formula) (atom atom' term term' : ℕ) (name name' : List ℕ) → IsUnknown columns f atom term name
    → IsUnknown columns f atom' term' name' → (atom ≡ atom') × (term ≡ term') × (name ≡ name')
unknown_once columns f atom atom' term term' name name' a b = by_atom (cases_order atom atom')
  where
    -- an unknown term in an atom before another's
    earlier : (i j k l : ℕ) (x y : List ℕ) → i < j → IsUnknown columns f i k x → IsUnknown columns f j l y → ⊥
    earlier i j k l x y less p q =
        p.no_column (all_of (HasColumn columns) p.owner.terms k p.lacking
        (all_before (HasColumns columns) f.nodes i j (Leaf p.owner) less q.nodes_before p.at_atom) p.at_term)

    same : {X : Type 0} (u v : X) (o : Option X) → o ≡ Some u → o ≡ Some v → u ≡ v
    same u v o h k = cc

    leaf : (u v : Atom) → Leaf u ≡ Leaf v → u ≡ v
    leaf u v e = cc

    here : atom ≡ atom' → (atom ≡ atom') × (term ≡ term') × (name ≡ name')
    here e = by_term (cases_order term term')
      where
        owner : a.owner ≡ b.owner
        owner = leaf a.owner b.owner (same (Leaf a.owner) (Leaf b.owner) (slice_get f.nodes atom')
            (subst (λ i. slice_get f.nodes i ≡ Some (Leaf a.owner)) e a.at_atom) b.at_atom)

        there : slice_get b.owner.terms term ≡ Some a.lacking
        there = subst (λ (o : Atom). slice_get o.terms term ≡ Some a.lacking) owner a.at_term

        by_term : (term ≡ term') ⊎ ((term < term') ⊎ (term' < term)) → (atom ≡ atom') × (term ≡ term') × (name ≡ name')
        by_term (inl k) = (
          e,
          k,
          sym a.named ∙ ap (λ (t : Term). t.name) (same a.lacking b.lacking (slice_get b.owner.terms term')
              (subst (λ i. slice_get b.owner.terms i ≡ Some a.lacking) k there) b.at_term) ∙ b.named,
        )
        by_term (inr (inl l)) = absurd (a.no_column (all_before (HasColumn columns) b.owner.terms term term' a.lacking l b.terms_before there))
        by_term (inr (inr l)) = absurd (b.no_column (all_before (HasColumn columns) a.owner.terms term' term b.lacking l a.terms_before
            (subst (λ (o : Atom). slice_get o.terms term' ≡ Some b.lacking) (sym owner) b.at_term)))

    by_atom : (atom ≡ atom') ⊎ ((atom < atom') ⊎ (atom' < atom)) → (atom ≡ atom') × (term ≡ term') × (name ≡ name')
    by_atom (inl e) = here e
    by_atom (inr (inl l)) = absurd (earlier atom atom' term term' name name' l a b)
    by_atom (inr (inr l)) = absurd (earlier atom' atom term' term name' name l b a)

unknown_in_once : (f : Formula) (n : ℕ) (h : Heading) → AtMostOne (IsUnknownIn f n h)
unknown_in_once f n h x y (atom, term, name, is, e) (atom', term', name', is', e') =
    let s = unknown_once h.columns f atom atom' term term' name name' is is' in
    e ∙ ap (λ a. unknown n a term name) s.0 ∙ ap (λ k. unknown n atom' k name) s.1 ∙ ap (λ w. unknown n atom' term' w) s.2 ∙ sym e'

unit_once : (f : Formula) (scale : Scale) → AtMostOne (IsUnitFault f scale)
unit_once f scale = or_else-unique (λ r. (i : ℕ) × IsFirst HasLargeConstant (scaled f scale).nodes i × (r ≡ Constant i))
    (Where (4294967295 < reach (scaled f scale).nodes) (Reach (reach (scaled f scale).nodes)))
    (λ x y h k. h.2 ∙ ap Constant (one_first HasLargeConstant (scaled f scale).nodes h.0 k.0 h.1 k.1) ∙ sym k.2)
    (where-unique (4294967295 < reach (scaled f scale).nodes) (Reach (reach (scaled f scale).nodes)))

unit_in_once : (f : Formula) (n : ℕ) (h : Heading) → AtMostOne (IsUnitIn f n h)
unit_in_once f n h x y (fault, is, e) (fault', is', e') = e ∙ ap (unit n) (unit_once f (scale_of f.scale h) fault fault' is is') ∙ sym e'

-- bytes have one first fault
pub one_fault : (limits : Limits) (f : Formula) (bytes : List ℕ) (ended : Bool) → AtMostOne (IsInputFault limits f bytes ended)
one_fault limits f bytes ended x y (inl (n, h, at, k, clean)) (inl (m, g, at', k', clean')) =
    let e = header_once at at' in
    or_else-unique (IsUnknownIn f m g) (IsUnitIn f m g) (unknown_in_once f m g) (unit_in_once f m g) x y
    (subst (λ q. (IsUnknownIn f m q or_else IsUnitIn f m q) x) e.1 (subst (λ i. (IsUnknownIn f i h or_else IsUnitIn f i h) x) e.0 k)) k'
one_fault limits f bytes ended x y (inl a) (inr b) = absurd (b.0 x a)
one_fault limits f bytes ended x y (inr a) (inl b) = absurd (a.0 y b)
one_fault limits f bytes ended x y (inr (none, (r, first, e))) (inr (none', (q, other, k))) =
    e ∙ ap of_trace (FirstFault-unique bytes ended limits f.scale r q first other) ∙ sym k
