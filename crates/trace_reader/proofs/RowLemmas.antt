-- The fields of a row, one after another.
use Rattle.std.proofs.Common.{◌≡◌, ℕ, inl, inr, suc, List, [], ◌∷◌, ◌++◌, length, refl, sym, subst, arith}
use Rattle.std.proofs.Common.{ℤ, pos, negsuc, append_assoc, Option, Some, None, true, false, map, ◌<◌}
use Rattle.std.specs.Prelude.{is_some, option_copied}
use Rattle.std.specs.Borrow.{Bor}
use Rattle.std.proofs.lemmas.Bool.{false≢true}
use Rattle.std.proofs.lemmas.List.{append-nil}
use Rattle.stl_syntax.specs.Trace.{Row}
use Rattle.stl_syntax.specs.declared.scale.Scale.{Scale}
use Rattle.trace_reader.specs.TraceText.{IsInTicks, AreInTicks, IsRow, Heading, split, trim}
use Rattle.trace_reader.specs.LineParts.{fields_of}
use Rattle.trace_reader.proofs.FieldLemmas.{split_some}
use Rattle.trace_reader.specs.TraceRefusals.{NumberFault, ValueFaults, NumberFaults}
use Rattle.trace_reader.specs.FieldFaults.{IsFieldRead}
use Rattle.trace_reader.specs.RowLines.{AreValuesLeft}
use Rattle.trace_reader.specs.declared.refusal.TraceKind.{TraceKind}

-- before any value all fields are left
pub start_values : (s : Scale) (digits : List ℕ) (fields : List (List ℕ)) → AreValuesLeft s digits fields 2 digits fields []
start_values s digits fields = record { faults = λ k h. h; only = λ k h. h; reads = λ more h. h }

module _ (s : Scale) (digits : List ℕ) (fields : List (List ℕ)) (i : ℕ) (ds : List ℕ) (left : List (List ℕ)) (values : List ℤ)
    (l : AreValuesLeft s digits fields i ds left values) where
  -- one field more
  pub values_more : (j m : ℕ) (es : List ℕ) (f : List ℕ) (more : List (List ℕ)) (v : ℤ) → ds ≡ m ∷ es → left ≡ f ∷ more
      → IsFieldRead s.value m (negsuc 16777215) (pos 16777216) i f v → j ≡ suc i → AreValuesLeft s digits fields j es more (values ++ v ∷ [])
  values_more j m es f more v d e r n = subst (λ p. AreValuesLeft s digits fields p es more (values ++ v ∷ [])) (sym n) (record {
    faults = λ k h. l.faults k (subst (λ x. ValueFaults s i x left k) (sym d) (subst (λ t. ValueFaults s i (m ∷ es) t k) (sym e) (inr (r.sound, h))));
    only = λ k h. elim (subst (λ t. ValueFaults s i (m ∷ es) t k) e (subst (λ x. ValueFaults s i x left k) d (l.only k h)))
        [ inl b ↦ absurd (r.sound k b) | inr w ↦ w.1 ];
    reads = λ ws h. subst (λ t. AreInTicks s.value digits fields t) (sym (append_assoc values (v ∷ []) ws))
        (l.reads (v ∷ ws) (subst (λ x. AreInTicks s.value x left (v ∷ ws)) (sym d)
        (subst (λ t. AreInTicks s.value (m ∷ es) t (v ∷ ws)) (sym e) (v, ws, r.value, h, refl))));
  })

  -- a fault in the next field
  pub values_bad : (m : ℕ) (es : List ℕ) (f : List ℕ) (more : List (List ℕ)) (k : TraceKind) → ds ≡ m ∷ es → left ≡ f ∷ more
      → NumberFault s.value m (negsuc 16777215) (pos 16777216) i f k → ValueFaults s 2 digits fields k
  values_bad m es f more k d e h = l.faults k (subst (λ x. ValueFaults s i x left k) (sym d) (subst (λ t. ValueFaults s i (m ∷ es) t k) (sym e) (inl h)))

  -- all fields were read
  pub values_read : ds ≡ [] → left ≡ [] → AreInTicks s.value digits fields values
  values_read d e =
      subst (λ t. AreInTicks s.value digits fields t) (append-nil values)
      (l.reads [] (subst (λ x. AreInTicks s.value x left []) (sym d) (subst (λ t. AreInTicks s.value [] t []) (sym e) refl)))

  -- no column left, no fault
  pub values_sound : ds ≡ [] → (k : TraceKind) → ¬ ValueFaults s 2 digits fields k
  values_sound d k h = subst (λ x. ValueFaults s i x left k) d (l.only k h)

-- a row by its first field and the others
module _ (s : Scale) (h : Heading) (fields : List (List ℕ)) (f : List ℕ) (others : List (List ℕ)) (e : fields ≡ f ∷ others) where
  -- the time and the values are a row
  pub row_is : (r : Row) → IsInTicks s.time h.time_digits f (pos r.time) → AreInTicks s.value h.digits others r.values → IsRow s h fields r
  row_is r t v = subst (λ x. IsRow s h x r) (sym e) (t, v)

  -- a fault of a value is one of the row
  pub value_bad : (k : TraceKind) → ((x : TraceKind) → ¬ NumberFault s.time h.time_digits (pos 0) (pos 4294967295) 1 f x)
      → ValueFaults s 2 h.digits others k → NumberFaults s h fields k
  value_bad k sound b = subst (λ x. NumberFaults s h x k) (sym e) (inr (sound, b))

  -- and there is no other
  pub numbers_sound : ((x : TraceKind) → ¬ NumberFault s.time h.time_digits (pos 0) (pos 4294967295) 1 f x)
      → ((x : TraceKind) → ¬ ValueFaults s 2 h.digits others x)
      → (k : TraceKind) → ¬ NumberFaults s h fields k
  numbers_sound sound rest k b = elim (subst (λ x. NumberFaults s h x k) e b) [ inl a ↦ sound k a | inr a ↦ rest k a.1 ]

abbrev pub row_made : ℕ → List ℤ → Row
row_made t vs = record { time = t; values = vs }

-- what is left of a line
pub left_some : (o : Option (List ℕ)) → is_some o ≡ true → 0 < length (fields_of o)
left_some None h = absurd (false≢true h)
left_some (Some t) h = by_split (split 44 t) (split_some t)
  where
    by_split : (ps : List (List ℕ)) → 0 < length ps → 0 < length (map trim ps)
    by_split [] l = absurd (omega (arith, l))
    by_split (p ∷ ps) l = omega arith

-- nothing left has no fields
pub left_none : (o : Option (List ℕ)) → is_some o ≡ false → fields_of o ≡ []
left_none None h = refl
left_none (Some t) h = absurd (false≢true (sym h))

-- a copy is there where the field is
pub is_some_copied : (o : Option (Bor (List ℕ))) → is_some (option_copied o) ≡ is_some o
is_some_copied None = refl
is_some_copied (Some t) = refl
