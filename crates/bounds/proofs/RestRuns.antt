-- In a run each node's front rests at times to which the rows bring it, and after the end at the last row's time too.
use Rattle.std.specs.Prelude.{◌⊎◌, int_lt, ◌&&◌, ◌==◌, slice_index_or, slice_get}
use Rattle.std.proofs.Common.{◌≡◌, refl, sym, ap, subst, ◌∙◌, ℕ, ◌<◌, Bool, true, false, cond, Some, None, List, [], ◌∷◌, ◌++◌}
use Rattle.std.proofs.Common.{length, ℤ, pos, neg_ℤ, ◌+ℤ◌, ◌≤ℤ◌, arith, inl, inr}
use Rattle.std.proofs.lemmas.Int.{ints}
use Rattle.std.proofs.lemmas.Bool.{and_parts}
use Rattle.std.proofs.lemmas.Option.{same_Some}
use Rattle.rational.specs.Time.{Rational, ◌≈◌, whole}
use Rattle.rational.proofs.Mixed.{parts}
use Rattle.rational.proofs.Order.{same_refl}
use Rattle.stl_syntax.specs.Trace.{Header, Row, last_time}
use Rattle.stl_syntax.specs.Formula.{Subformula, subformula, horizon, tree_of, HasChildrenBelow}
use Rattle.stl_syntax.specs.Formula.{conjunction, disjunction, implication}
use Rattle.stl_syntax.specs.Cells.{IsAmong}
use Rattle.stl_syntax.specs.PostOrder.{IsPostOrder, children}
use Rattle.stl_syntax.specs.declared.node.Node.{Node}
use Rattle.stl_syntax.specs.declared.node.Node.TheVariants.{Const, Atom as Leaf, Not, And, Or, Implies, Until, Eventually}
use Rattle.stl_syntax.specs.declared.node.Node.TheVariants.{Always, Since, Once, Historically}
use Rattle.stl_syntax.proofs.FormulaLemmas.{subformula-at}
use Rattle.stl_syntax.proofs.PostOrderLemmas.{placed, slice_get_at}
use Rattle.online_nodes.specs.Network.{Event, row, step, close, take, Front, State, least, moved_by, last_row, open_number}
use Rattle.online_nodes.specs.Network.{all_at_end, allowed, allowed_at, is_atom, node_is_atom, after_event, MayCome}
use Rattle.online_nodes.specs.Laws.{IsBounded}
use Rattle.online_nodes.proofs.RunLaw.{AllBounded, none_is_none, moved, lesser, open_bound}
use Rattle.online_nodes.proofs.RisingLaw.{same_of}
use Rattle.bounds.proofs.NearTimes.{by, ahead, behind}
use Rattle.bounds.proofs.RestTimes.{row_times, IsRest, rest_same, rest_more}

-- the least of two is the one or the other
which : (o q : Front) (f : ℤ) → least o q ≡ Some f → (o ≡ Some f) ⊎ (q ≡ Some f)
which None q f e = absurd (none_is_none f e)
which (Some g) None f e = absurd (none_is_none f e)
which (Some g) (Some h) f e = by_test (int_lt h g) e
  where
    by_test : (t : Bool) → cond t (Some h) (Some g) ≡ Some f → (Some g ≡ Some f) ⊎ (Some h ≡ Some f)
    by_test true x = inr x
    by_test false x = inl x

-- the last row's time is among those of the rows
last_among : (r : Row) (rows : List Row) → IsAmong (row_times (r ∷ rows)) (whole (pos (last_time r.time rows)))
last_among r [] = inl (same_refl (whole (pos r.time)))
last_among r (q ∷ rows) = inr (last_among q rows)

-- so is its number
pub last_row_among : (s : State) (f : ℤ) → last_row s ≡ Some f → IsAmong (row_times s.rows) (whole f)
last_row_among s f e = by_rows s.rows e
  where
    by_rows : (rows : List Row) → last_row (record { rows = rows; closed = s.closed; fronts = s.fronts }) ≡ Some f → IsAmong (row_times rows) (whole f)
    by_rows [] x = absurd (none_is_none f x)
    by_rows (r ∷ rows) x =
        subst (λ z. IsAmong (row_times (r ∷ rows)) (whole z)) (same_Some (pos (last_time r.time rows)) f x) (last_among r rows)

-- a row that comes is among them
appended_among : (rows : List Row) (r : Row) → IsAmong (row_times (rows ++ r ∷ [])) (whole (pos r.time))
appended_among [] r = inl (same_refl (whole (pos r.time)))
appended_among (q ∷ rows) r = inr (appended_among rows r)

-- a number moved back, and moved on again
ahead_is : (f g : ℤ) (b : ℕ) → f ≡ g +ℤ neg_ℤ (pos b) → by (whole f) (ahead b) ≈ whole g
ahead_is f g b e = record { same = omega (arith, parts) }

behind_is : (f g : ℤ) (a : ℕ) → f ≡ g +ℤ pos a → by (whole f) (behind a) ≈ whole g
behind_is f g a e = record { same = omega (arith, parts) }

-- the front is such a time of the rows so far, or the end came and it is the last row's
abbrev pub IsKnown : State → Subformula → ℤ → Type 0
IsKnown s p f = IsRest p s.rows (whole f) ⊎ ((s.closed ≡ true) × (last_row s ≡ Some f))

-- the same front, of a formula that has each such time of the other
known_as : (s : State) (p q : Subformula) (f : ℤ) → (IsRest p s.rows (whole f) → IsRest q s.rows (whole f)) → IsKnown s p f → IsKnown s q f
known_as s p q f same (inl m) = inl (same m)
known_as s p q f same (inr e) = inr e

-- where the end came and a node's inputs stand at it, the test says so
ends_one : (s : State) (p : ℕ) → s.closed ≡ true → s.fronts p ≡ last_row s → (s.closed && all_at_end s (p ∷ [])) ≡ true
ends_one s p c e = rw (c, same_of (s.fronts p) (last_row s) e) refl

ends_two : (s : State) (p q : ℕ) → s.closed ≡ true → s.fronts p ≡ last_row s → s.fronts q ≡ last_row s → (s.closed && all_at_end s (p ∷ q ∷ [])) ≡ true
ends_two s p q c e f = rw (c, same_of (s.fronts p) (last_row s) e, same_of (s.fronts q) (last_row s) f) refl

not_both : (b : Bool) → b ≡ true → b ≡ false → ⊥
not_both b e f = cc

module _ (at : ℕ → Subformula) (s : State) where
  -- a place's front is known, and is at most the last row's time
  record IsFine (p : ℕ) : Type 0 where
    known : (g : ℤ) → s.fronts p ≡ Some g → IsKnown s (at p) g
    bounded : (g : ℤ) → s.fronts p ≡ Some g → IsBounded s (horizon (at p)) g

  -- two numbers of the last row are one
  one_last : (f g : ℤ) → last_row s ≡ Some f → last_row s ≡ Some g → f ≡ g
  one_last f g a b = same_Some f g (sym a ∙ b)

  least_known : (p q : ℕ) (r : Subformula) (f : ℤ) → IsFine p → IsFine q → (IsRest (at p) s.rows (whole f) ⊎ IsRest (at q) s.rows (whole f)
      → IsRest r s.rows (whole f)) → least (s.fronts p) (s.fronts q) ≡ Some f → IsKnown s r f
  least_known p q r f b d is e = elim (which (s.fronts p) (s.fronts q) f e) [
    | inl x ↦ known_as s (at p) r f (λ m. is (inl m)) (b.known f x)
    | inr x ↦ known_as s (at q) r f (λ m. is (inr m)) (d.known f x)
  ]

  ahead_known : (p b : ℕ) (r : Subformula) (f : ℤ) → IsFine p → (s.closed && all_at_end s (p ∷ [])) ≡ false
      → (IsRest (at p) s.rows (by (whole f) (ahead b)) → IsRest r s.rows (whole f)) → moved_by (neg_ℤ (pos b)) (s.fronts p) ≡ Some f → IsKnown s r f
  ahead_known p b r f h unended is e =
      let m = moved (neg_ℤ (pos b)) (s.fronts p) f e in
      elim (h.known m.0 m.1) [
        | inl k ↦ inl (is (rest_same (at p) s.rows (ahead_is f m.0 b m.2) k))
        | inr k ↦ absurd (not_both (s.closed && all_at_end s (p ∷ [])) (ends_one s p k.0 (m.1 ∙ sym k.1)) unended)
      ]

  until_known : (p q b : ℕ) (r : Subformula) (f : ℤ) → IsFine p → IsFine q → (s.closed && all_at_end s (p ∷ q ∷ [])) ≡ false
      → (IsRest (at p) s.rows (by (whole f) (ahead b)) ⊎ IsRest (at q) s.rows (by (whole f) (ahead b)) → IsRest r s.rows (whole f))
      → moved_by (neg_ℤ (pos b)) (least (s.fronts p) (s.fronts q)) ≡ Some f → IsKnown s r f
  until_known p q b r f h j unended is e =
      let m = moved (neg_ℤ (pos b)) (least (s.fronts p) (s.fronts q)) f e in
      let l = lesser (s.fronts p) (s.fronts q) m.0 m.1 in
      elim (which (s.fronts p) (s.fronts q) m.0 m.1) [
        | inl x ↦ elim (h.known m.0 x) [
          | inl k ↦ inl (is (inl (rest_same (at p) s.rows (ahead_is f m.0 b m.2) k)))
          | inr k ↦
              absurd (not_both (s.closed && all_at_end s (p ∷ q ∷ []))
              (ends_two s p q k.0 (x ∙ sym k.1) (other l.1 m.0 l.3 k.1 l.5 (j.bounded l.1 l.3))) unended)
        ]
        | inr x ↦ elim (j.known m.0 x) [
          | inl k ↦ inl (is (inr (rest_same (at q) s.rows (ahead_is f m.0 b m.2) k)))
          | inr k ↦
              absurd (not_both (s.closed && all_at_end s (p ∷ q ∷ []))
              (ends_two s p q k.0 (other l.0 m.0 l.2 k.1 l.4 (h.bounded l.0 l.2)) (x ∙ sym k.1)) unended)
        ]
      ]
    where
      -- the other one is no less, and at most the last row's time
      other : {o : Front} {n : ℕ} (g f : ℤ) → o ≡ Some g → last_row s ≡ Some f → f ≤ℤ g → IsBounded s n g → o ≡ last_row s
      other g f x y l b =
          let top = one_last b.last f b.is_last y in
          let low = b.by_now in
          let same : g ≡ f = omega (arith, ints) in
          x ∙ ap (λ (z : ℤ). Some z) same ∙ sym y

  -- a number moved on, that is at most the last row's time
  behind_known : (p a : ℕ) (r : Subformula) (f top : ℤ) → IsFine p → last_row s ≡ Some top → f ≤ℤ top
      → (IsRest (at p) s.rows (by (whole f) (behind a)) → IsRest r s.rows (whole f)) → moved_by (pos a) (s.fronts p) ≡ Some f → IsKnown s r f
  behind_known p a r f top h last low is e =
      let m = moved (pos a) (s.fronts p) f e in
      elim (h.known m.0 m.1) [
        | inl k ↦ inl (is (rest_same (at p) s.rows (behind_is f m.0 a m.2) k))
        | inr k ↦
            let same = one_last m.0 top k.1 last in
            let up = m.2 in
            let end : top ≡ f = omega (arith, ints) in
            inr (k.0, last ∙ ap (λ (z : ℤ). Some z) end)
      ]

  once_known : (p a : ℕ) (r : Subformula) (f top : ℤ) → IsFine p → last_row s ≡ Some top → f ≤ℤ top
      → (IsRest (at p) s.rows (by (whole f) (behind a)) ⊎ IsAmong (row_times s.rows) (whole f) → IsRest r s.rows (whole f))
      → least (moved_by (pos a) (s.fronts p)) (last_row s) ≡ Some f → IsKnown s r f
  once_known p a r f top h last low is e = elim (which (moved_by (pos a) (s.fronts p)) (last_row s) f e) [
    | inl x ↦ behind_known p a r f top h last low (λ m. is (inl m)) x
    | inr x ↦ inl (is (inr (last_row_among s f x)))
  ]

  since_known : (p q a : ℕ) (r : Subformula) (f top : ℤ) → IsFine p → IsFine q → last_row s ≡ Some top → f ≤ℤ top
      → (IsRest (at p) s.rows (whole f) ⊎ IsRest (at q) s.rows (by (whole f) (behind a)) → IsRest r s.rows (whole f))
      → least (s.fronts p) (moved_by (pos a) (s.fronts q)) ≡ Some f → IsKnown s r f
  since_known p q a r f top h j last low is e = elim (which (s.fronts p) (moved_by (pos a) (s.fronts q)) f e) [
    | inl x ↦ known_as s (at p) r f (λ m. is (inl m)) (h.known f x)
    | inr x ↦ behind_known q a r f top j last low (λ m. is (inr m)) x
  ]

  -- the number that a node may have before all its inputs stand at the end
  open_known : (i : ℕ) (n : Node) (f top : ℤ) → HasChildrenBelow i n → ((j : ℕ) → j < i → IsFine j) → (s.closed && all_at_end s (children n)) ≡ false
      → last_row s ≡ Some top → f ≤ℤ top → open_number n s ≡ Some f → IsKnown s (tree_of at i n) f
  open_known i (Const b) f top c k o l u e = inl (last_row_among s f e)
  open_known i (Leaf a) f top c k o l u e = inl (last_row_among s f e)
  open_known i (Not p) f top c k o l u e = (k p c).known f e
  open_known i (And p q) f top c k o l u e = least_known p q (conjunction (at p) (at q)) f (k p c.0) (k q c.1) (λ m. m) e
  open_known i (Or p q) f top c k o l u e = least_known p q (disjunction (at p) (at q)) f (k p c.0) (k q c.1) (λ m. m) e
  open_known i (Implies p q) f top c k o l u e = least_known p q (implication (at p) (at q)) f (k p c.0) (k q c.1) (λ m. m) e
  open_known i (Until p q a b) f top c k o l u e = until_known p q b (tree_of at i (Until p q a b)) f (k p c.0) (k q c.1) o (λ m. m) e
  open_known i (Eventually p a b x y) f top c k o l u e = ahead_known p b (tree_of at i (Eventually p a b x y)) f (k p c) o (λ m. m) e
  open_known i (Always p a b x y) f top c k o l u e = ahead_known p b (tree_of at i (Always p a b x y)) f (k p c) o (λ m. m) e
  open_known i (Since p q a b) f top c k o l u e = since_known p q a (tree_of at i (Since p q a b)) f top (k p c.0) (k q c.1) l u (λ m. m) e
  open_known i (Once p a b x y) f top c k o l u e = once_known p a (tree_of at i (Once p a b x y)) f top (k p c) l u (λ m. m) e
  open_known i (Historically p a b x y) f top c k o l u e = once_known p a (tree_of at i (Historically p a b x y)) f top (k p c) l u (λ m. m) e

module _ (nodes : List Node) (header : Header) (order : IsPostOrder nodes) where
  -- so is each front of a state
  abbrev pub AllKnown : State → Type 0
  AllKnown s = (i : ℕ) (f : ℤ) → i < length nodes → s.fronts i ≡ Some f → IsKnown s (subformula nodes i) f

  -- the number that a node is allowed
  allowed_known : (s : State) (i : ℕ) (n : Node) (f : ℤ) → i < length nodes → slice_get nodes i ≡ Some n → AllBounded nodes header order s → AllKnown s
      → allowed n s ≡ Some f → IsKnown s (subformula nodes i) f
  allowed_known s i n f l at all known e = by_test (s.closed && all_at_end s (children n)) refl
    where
      below : HasChildrenBelow i n
      below = placed nodes i n order at

      by_test : (t : Bool) → (s.closed && all_at_end s (children n)) ≡ t → IsKnown s (subformula nodes i) f
      by_test true x =
          inr ((and_parts s.closed (all_at_end s (children n)) x).0, subst (λ t. cond t (last_row s) (open_number n s) ≡ Some f) x e)
      by_test false x =
          let number = subst (λ t. cond t (last_row s) (open_number n s) ≡ Some f) x e in
          let b = open_bound (subformula nodes) s i n f below (λ j k g. all j g (omega (arith, k, l))) number in
          subst (λ p. IsKnown s p f) (sym (subformula-at nodes i n at below))
          (open_known (subformula nodes) s i n f b.last below
          (λ j k. record { known = λ g y. known j g (omega (arith, k, l)) y; bounded = λ g y. all j g (omega (arith, k, l)) y })
          x b.is_last b.by_now number)

  -- an atom's rests are the rows
  atom_rests : (i : ℕ) (rows : List Row) (t : Rational) → i < length nodes → node_is_atom nodes i ≡ true → IsAmong (row_times rows) t
      → IsRest (subformula nodes i) rows t
  atom_rests i rows t l e h = by_node (slice_index_or nodes i (Const false)) (slice_get_at nodes i (Const false) l) e
    where
      by_node : (n : Node) → slice_get nodes i ≡ Some n → is_atom n ≡ true → IsRest (subformula nodes i) rows t
      by_node (Leaf a) at x = subst (λ p. IsRest p rows t) (sym (subformula-at nodes i (Leaf a) at (placed nodes i (Leaf a) order at))) h
      by_node _ at x = absurd (let y : false ≡ true = x in cc)

  -- an event keeps all fronts known
  pub known_after : (s : State) (e : Event) → MayCome nodes header s e → AllBounded nodes header order s → AllKnown s → AllKnown (after_event nodes s e)
  known_after s (row r) may all known i f l e = by_test (node_is_atom nodes i) refl
    where
      by_test : (t : Bool) → node_is_atom nodes i ≡ t → IsKnown (after_event nodes s (row r)) (subformula nodes i) f
      by_test true x =
          let is : pos r.time ≡ f = same_Some (pos r.time) f (subst (λ t. cond t (Some (pos r.time)) (s.fronts i) ≡ Some f) x e) in
          inl (atom_rests i (s.rows ++ r ∷ []) (whole f) l x
          (subst (λ z. IsAmong (row_times (s.rows ++ r ∷ [])) (whole z)) is (appended_among s.rows r)))
      by_test false x = elim (known i f l (subst (λ t. cond t (Some (pos r.time)) (s.fronts i) ≡ Some f) x e)) [
        | inl m ↦ inl (rest_more (subformula nodes i) s.rows (r ∷ []) (whole f) m)
        | inr k ↦ absurd (not_both s.closed k.0 may.0)
      ]
  known_after s (step k) may all known i f l e = by_test (i == k) refl
    where
      by_test : (t : Bool) → (i == k) ≡ t → IsKnown s (subformula nodes i) f
      by_test true x =
          let same : i ≡ k = grind (arith, x) in
          subst (λ j. IsKnown s (subformula nodes j) f) (sym same)
          (allowed_known s k (slice_index_or nodes k (Const false)) f may.0 (slice_get_at nodes k (Const false) may.0) all known
          (subst (λ t. cond t (allowed_at nodes s k) (s.fronts i) ≡ Some f) x e))
      by_test false x = known i f l (subst (λ t. cond t (allowed_at nodes s k) (s.fronts i) ≡ Some f) x e)
  known_after s close may all known i f l e = elim (known i f l e) [ inl m ↦ inl m | inr k ↦ absurd (not_both s.closed k.0 may.0) ]
  known_after s take may all known i f l e = known i f l e
