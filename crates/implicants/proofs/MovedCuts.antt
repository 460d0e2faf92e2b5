-- Cut times that are moved, one by one.
use Rattle.std.proofs.Common.{◌≡◌, ℕ, ◌+◌, ◌<◌, ◌⊎◌, inl, inr, ℤ, pos, neg_ℤ, List, Option, None, refl}
use Rattle.std.proofs.Common.{[], ◌∷◌, ◌++◌, map, length, take, get_or, sym, ap, subst, ◌∙◌}
use Rattle.std.specs.Prelude.{◌↔◌, Contains, option_to_list, slice_get, Some}
use Rattle.std.proofs.lemmas.Option.{slice_get_within, get_or_from_slice_get}
use Rattle.pl_signal.specs.declared.knot.Knot.{Knot}
use Rattle.value_laws.specs.declared.truth.Truth.{Truth}
use Rattle.std.proofs.lemmas.List.{map_more, map-append, take_more}
use Rattle.std.proofs.lemmas.List.Elements.{All-push, Contains-append_cases, Contains-append_left, Contains-append_right, Contains-push, Contains-push_cases}
use Rattle.rational.specs.Time.{Rational, Within, shifted, add, whole, ◌≤ʳ◌, ◌<ʳ◌, ◌≈◌}
use Rattle.rational.proofs.Order.{le_or_lt, le_of_same, ge_of_same, le_trans, not_lt_of_le, same_refl, same_sym, same_trans}
use Rattle.rational.proofs.TimeLemmas.{same_shifted, shifted-add}
use Rattle.frac128.specs.Value.{value}
use Rattle.frac128.specs.declared.frac.Frac.{Frac}
use Rattle.stl_syntax.specs.Cells.{IsAmong, back, shifts}
use Rattle.stl_syntax.specs.Views.{far_end, view_of}
use Rattle.stl_syntax.specs.declared.node.Node.{Node}
use Rattle.stl_syntax.specs.declared.node.Node.TheVariants.{Until, Eventually, Always, Since, Once, Historically}
use Rattle.implicants.specs.Cuts.{times_of, Adds, IsMoved, IsMovedBy, IsNearMove, AreNearMoves, moves_of}

-- what is among two lists is among the first or the second
pub among_in : (xs ys : List Rational) (t : Rational) → IsAmong (xs ++ ys) t → IsAmong xs t ⊎ IsAmong ys t
among_in [] ys t m = inr m
among_in (x ∷ xs) ys t (inl e) = inl (inl e)
among_in (x ∷ xs) ys t (inr m) = elim (among_in xs ys t m) [ inl k ↦ inl (inr k) | inr k ↦ inr k ]

-- what is among the first list is among both
pub among_left : (xs ys : List Rational) (t : Rational) → IsAmong xs t → IsAmong (xs ++ ys) t
among_left [] ys t m = absurd m
among_left (x ∷ xs) ys t (inl e) = inl e
among_left (x ∷ xs) ys t (inr m) = inr (among_left xs ys t m)

-- what is among the second list is among both
pub among_right : (xs ys : List Rational) (t : Rational) → IsAmong ys t → IsAmong (xs ++ ys) t
among_right [] ys t m = m
among_right (x ∷ xs) ys t m = inr (among_right xs ys t m)

within_alike : {from to t u : Rational} → t ≈ u → Within from to u → Within from to t
within_alike e w = record { above = le_trans w.above (ge_of_same e); below = le_trans (le_of_same e) w.below }

-- what is added by steps
pub adds_none : {P : Rational → Type 0} {old : List Rational} → ((t : Rational) → ¬ P t) → Adds P old old
adds_none never = record { stay = λ t m. m; put = λ t h. absurd (never t h); only = λ t m. inl m }

-- two descriptions of the same times add the same
pub adds_same : {P Q : Rational → Type 0} {old new : List Rational} → ((t : Rational) → P t → Q t) → ((t : Rational) → Q t → P t) → Adds P old new
    → Adds Q old new
adds_same f g h = record { stay = h.stay; put = λ t q. h.put t (g t q); only = λ t m. elim (h.only t m) [ inl o ↦ inl o | inr p ↦ inr (f t p) ] }

-- one addition after the other adds both
pub adds_then : {P Q : Rational → Type 0} {old mid new : List Rational} → Adds P old mid → Adds Q mid new → Adds (λ t. P t ⊎ Q t) old new
adds_then {P} {Q} {old} {mid} {new} a b = record {
  stay = λ t m. b.stay t (a.stay t m);
  put = put;
  only = λ t m. elim (b.only t m) [ inl o ↦ earlier t o | inr q ↦ inr (inr q) ];
}
  where
    put : (t : Rational) → P t ⊎ Q t → IsAmong new t
    put t (inl p) = b.stay t (a.put t p)
    put t (inr q) = b.put t q

    earlier : (t : Rational) → IsAmong mid t → IsAmong old t ⊎ (P t ⊎ Q t)
    earlier t m = elim (a.only t m) [ inl o ↦ inl o | inr p ↦ inr (inl p) ]

-- one time that is put at the end
pub adds_one : (old : List Rational) (m : Rational) → Adds (λ t. t ≈ m) old (old ++ m ∷ [])
adds_one old m = record {
  stay = λ t a. among_left old (m ∷ []) t a;
  put = λ t e. among_right old (m ∷ []) t (inl e);
  only = λ t a. elim (among_in old (m ∷ []) t a) [ inl b ↦ inl b | inr b ↦ inr (alone t b) ];
}
  where
    alone : (t : Rational) → IsAmong (m ∷ []) t → t ≈ m
    alone t (inl e) = e
    alone t (inr a) = absurd a

module _ (from to : Rational) (k : ℤ) (old : List Rational) where
  -- one more of the times: it is put where it lies in the domain
  pub moved_on : (times mid new : List Rational) (u m : Rational) → m ≈ shifted u k → (Within from to m → new ≡ mid ++ m ∷ [])
      → (¬ Within from to m → new ≡ mid)
      → Adds (IsMoved from to times k) old mid → Adds (IsMoved from to (times ++ u ∷ []) k) old new
  moved_on times mid new u m e f g h = by_order (le_or_lt from m) (le_or_lt m to)
    where
      grow : (t : Rational) → IsMoved from to times k t → IsMoved from to (times ++ u ∷ []) k t
      grow t w = record { u = w.u; cut = among_left times (u ∷ []) w.u w.cut; is = w.is; inside = w.inside }

      split : (t : Rational) → IsMoved from to (times ++ u ∷ []) k t → IsMoved from to times k t ⊎ (t ≈ m)
      split t w = elim (among_in times (u ∷ []) w.u w.cut) [
        | inl b ↦ inl (record { u = w.u; cut = b; is = w.is; inside = w.inside })
        | inr b ↦ inr (same_trans w.is (same_trans (same_shifted k (alone w.u b)) (same_sym e)))
      ]
        where
          alone : (v : Rational) → IsAmong (u ∷ []) v → v ≈ u
          alone v (inl d) = d
          alone v (inr a) = absurd a

      put : Within from to m → Adds (IsMoved from to (times ++ u ∷ []) k) old new
      put w = adds_same join split (adds_then h (subst (Adds (λ t. t ≈ m) mid) (sym (f w)) (adds_one mid m)))
        where
          join : (t : Rational) → IsMoved from to times k t ⊎ (t ≈ m) → IsMoved from to (times ++ u ∷ []) k t
          join t (inl a) = grow t a
          join t (inr d) = record { u = u; cut = among_right times (u ∷ []) u (inl (same_refl u)); is = same_trans d e; inside = within_alike d w }

      skip : (¬ Within from to m) → Adds (IsMoved from to (times ++ u ∷ []) k) old new
      skip w = adds_same grow stay (subst (Adds (IsMoved from to times k) old) (sym (g w)) h)
        where
          stay : (t : Rational) → IsMoved from to (times ++ u ∷ []) k t → IsMoved from to times k t
          stay t a = elim (split t a) [ inl b ↦ b | inr d ↦ absurd (w (within_alike (same_sym d) a.inside)) ]

      by_order : (from ≤ʳ m) ⊎ (m <ʳ from) → (m ≤ʳ to) ⊎ (to <ʳ m) → Adds (IsMoved from to (times ++ u ∷ []) k) old new
      by_order (inl a) (inl b) = put (record { above = a; below = b })
      by_order (inr a) o = skip (λ x. not_lt_of_le x.above a)
      by_order (inl a) (inr b) = skip (λ x. not_lt_of_le x.below b)

-- one more move
pub near_more : (ks : List ℤ) (k : ℤ) → AreNearMoves ks → IsNearMove k → AreNearMoves (ks ++ k ∷ [])
near_more ks k h n = All-push IsNearMove ks k h n

-- the times of one more
pub times_more : (xs : List Frac) (i : ℕ) (d : Frac) → i < length xs → times_of (take (i + 1) xs) ≡ times_of (take i xs) ++ value (get_or xs i d) ∷ []
times_more xs i d l = map_more value xs i d l

-- a time that is moved by k, and added where it is within the range
pub record MovesOne (from to : Rational) (k : ℤ) (t m : Frac) (mid new : List Frac) : Type 0 where
  -- the moved time
  pub moved : value m ≈ add (value t) (whole k)
  -- within the range it is added
  pub inside : Within from to (value m) → new ≡ mid ++ m ∷ []
  -- outside of it nothing is
  pub outside : ¬ Within from to (value m) → new ≡ mid

-- one more of the parent's times, by fractions
pub frac_on : {from to : Rational} {k : ℤ} (parent old : List Frac) {mid new : List Frac} (i : ℕ) {t m : Frac} → i < length parent → t ≡ get_or parent i t
    → MovesOne from to k t m mid new
    → Adds (IsMoved from to (times_of (take i parent)) k) (times_of old) (times_of mid)
    → Adds (IsMoved from to (times_of (take (i + 1) parent)) k) (times_of old) (times_of new)
frac_on {from} {to} {k} parent old {mid} {new} i {t} {m} l is one h =
    subst (λ ts. Adds (IsMoved from to ts k) (times_of old) (times_of new))
    (sym (times_more parent i t l ∙ ap (λ x. times_of (take i parent) ++ value x ∷ []) (sym is)))
    (moved_on from to k (times_of old) (times_of (take i parent)) (times_of mid) (times_of new) (value t) (value m)
    (same_trans one.moved (same_sym (shifted-add (value t) k)))
    (λ w. ap times_of (one.inside w) ∙ map-append value mid (m ∷ [])) (λ w. ap times_of (one.outside w)) h)

-- the times of one more knot
pub knot_on : (x : List (Knot Truth)) (old new : List Frac) (i : ℕ) (k : Knot Truth) → slice_get x i ≡ Some k → old ≡ map (λ n. n.time) (take i x)
    → new ≡ old ++ k.time ∷ [] → new ≡ map (λ n. n.time) (take (i + 1) x)
knot_on x old new i k at before step =
    step ∙ ap (λ ts. ts ++ k.time ∷ []) before
    ∙ sym (map_more (λ n. n.time) x i k (slice_get_within x i k at) ∙ ap (λ n. map (λ n. n.time) (take i x) ++ n.time ∷ []) (get_or_from_slice_get x i k k at))

-- one more of the moves
pub moves_on : (from to : Rational) (times : List Rational) (ks : List ℤ) (i : ℕ) (k d : ℤ) {old mid new : List Rational} → i < length ks
    → Adds (IsMovedBy from to times (take i ks)) old mid → Adds (IsMoved from to times k) mid new → k ≡ get_or ks i d → Adds
    (IsMovedBy from to times (take (i + 1) ks)) old new
moves_on from to times ks i k d {old} {mid} {new} l before here is =
    subst (λ ms. Adds (IsMovedBy from to times ms) old new) (sym (take_more ks i d l ∙ ap (λ m. take i ks ++ m ∷ []) (sym is)))
    (adds_same join split (adds_then before here))
  where
    join : (t : Rational) → IsMovedBy from to times (take i ks) t ⊎ IsMoved from to times k t → IsMovedBy from to times (take i ks ++ k ∷ []) t
    join t (inl (m, c, h)) = (m, Contains-append_left (take i ks) (k ∷ []) m c, h)
    join t (inr h) = (k, Contains-push (take i ks) k, h)

    split : (t : Rational) → IsMovedBy from to times (take i ks ++ k ∷ []) t → IsMovedBy from to times (take i ks) t ⊎ IsMoved from to times k t
    split t (m, c, h) = elim (Contains-push_cases (take i ks) k m c) [
      | inl a ↦ inl (m, a, h)
      | inr e ↦ inr (subst (λ n. IsMoved from to times n t) (sym e) h)
    ]

-- two moves in the other order, and so behind another one
swapped : (x y k : ℤ) → Contains (x ∷ y ∷ []) k → Contains (y ∷ x ∷ []) k
swapped x y k h = elim (Contains-append_cases (x ∷ []) (y ∷ []) k h) [
  | inl l ↦ Contains-append_right (y ∷ []) (x ∷ []) k l
  | inr r ↦ Contains-append_left (y ∷ []) (x ∷ []) k r
]

swapped_behind : (z x y k : ℤ) → Contains (z ∷ x ∷ y ∷ []) k → Contains (z ∷ y ∷ x ∷ []) k
swapped_behind z x y k h = elim (Contains-append_cases (z ∷ []) (x ∷ y ∷ []) k h) [
  | inl l ↦ Contains-append_left (z ∷ []) (y ∷ x ∷ []) k l
  | inr r ↦ Contains-append_right (z ∷ []) (y ∷ x ∷ []) k (swapped x y k r)
]

far_back : (b : Option ℕ) → option_to_list (far_end b) ≡ back b
far_back None = refl
far_back (Some b) = refl

-- the moves by a node's view are those by which its cut times are handed down
pub same_moves : (n : Node) (k : ℤ) → Contains (moves_of (view_of n)) k ↔ Contains (shifts n) k
same_moves (Until p q a b) k = (swapped_behind (pos 0) (pos b) (pos a) k, swapped_behind (pos 0) (pos a) (pos b) k)
same_moves (Eventually p a b a_in b_in) k = (swapped (pos b) (pos a) k, swapped (pos a) (pos b) k)
same_moves (Always p a b a_in b_in) k = (swapped (pos b) (pos a) k, swapped (pos a) (pos b) k)
same_moves (Since p q a b) k = subst (λ l. Contains (pos 0 ∷ neg_ℤ (pos a) ∷ l) k ↔ Contains (shifts (Since p q a b)) k) (sym (far_back b)) (λ h. h, λ h. h)
same_moves (Once p a b a_in b_in) k =
    subst (λ l. Contains (neg_ℤ (pos a) ∷ l) k ↔ Contains (shifts (Once p a b a_in b_in)) k) (sym (far_back b)) (λ h. h, λ h. h)
same_moves (Historically p a b a_in b_in) k =
    subst (λ l. Contains (neg_ℤ (pos a) ∷ l) k ↔ Contains (shifts (Historically p a b a_in b_in)) k) (sym (far_back b)) (λ h. h, λ h. h)
same_moves _ k = (λ h. h, λ h. h)
