-- Values and certainty do not depend on the pair by which a time is written.
use Rattle.std.proofs.Common.{◌≡◌, ℕ, inl, inr, true, false, List, [], ◌∷◌, sym, ◌∙◌}
use Rattle.rational.specs.Rational.{Rational, ◌≈◌}
use Rattle.rational.specs.Time.{IsIn}
use Rattle.rational.specs.Extended.{Extended, finite, opposite, value_at}
use Rattle.rational.specs.Windows.{Ahead, Behind}
use Rattle.rational.proofs.Order.{le_of_same, ge_of_same, same_sym, same_trans, lt_of_le_of_lt, lt_of_lt_of_le}
use Rattle.rational.proofs.Field.{same_negate}
use Rattle.rational.proofs.TimeLemmas.{precedes_after, precedes_before}
use Rattle.rational.proofs.AffineLemmas.{same_transᵉ, finite_same, value_same}
use Rattle.rational.proofs.WindowLemmas.{ahead_same, behind_same, from_same, to_same, sup_alike, sup_over_alike, inf_over_alike, up_to_same, down_to_same}
use Rattle.rational.proofs.Tests.{same_tests}
use Rattle.frac128.specs.Spans.{interval}
use Rattle.stl_syntax.specs.Trace.{Trace}
use Rattle.stl_syntax.specs.Formula.{Subformula, constant, atom, negation, conjunction, disjunction}
use Rattle.stl_syntax.specs.Formula.{implication, until, eventually, always, since, once, historically}
use Rattle.stl_syntax.specs.Truth.{expression, holds_at}
use Rattle.stl_syntax.specs.Kleene.{IsCovered, Must, MustNot}
use Rattle.stl_syntax.specs.Knots.{Knot, Piece, IsInside, ReadsFrom}
use Rattle.stl_syntax.specs.SupInf.{Reading, margins, truths, certainties, signals, margin, Gives, Setting, SupInf}
use Rattle.stl_syntax.specs.declared.atom.Atom.{Atom}
use Rattle.stl_syntax.specs.declared.items.Item.{Item}
use Rattle.stl_syntax.specs.declared.rel.Rel.{Rel}
use Rattle.stl_syntax.specs.declared.rel.Rel.TheVariants.{AtLeast, Above, AtMost, Below}
use Rattle.stl_syntax.proofs.TruthLemmas.{same_expression, compares_same}

-- equal numbers have equal margins
pub margin_same : {x y : Rational} (rel : Rel) → x ≈ y → margin rel x ≈ margin rel y
margin_same AtLeast e = e
margin_same Above e = e
margin_same AtMost e = same_negate e
margin_same Below e = same_negate e

inside_same : {t u : Rational} (k : Knot) (p : Piece) (v : Extended) → t ≈ u → IsInside k p t v → IsInside k p u v
inside_same {t} {u} k p v e h = record {
  after = lt_of_lt_of_le h.after (le_of_same e);
  before = lt_of_le_of_lt (ge_of_same e) h.before;
  through = h.through;
  from = h.from;
  to = h.to;
  value = same_transᵉ v (value_at h.through t) (value_at h.through u) h.value (value_same h.through e);
}

reads_same : {t u : Rational} (k : Knot) (pieces : List Piece) (v : Extended) → t ≈ u → ReadsFrom k pieces t v → ReadsFrom k pieces u v
reads_same k [] v e h = (same_trans (same_sym e) h.0, h.1)
reads_same k (p ∷ pieces) v e (inl h) = inl (same_trans (same_sym e) h.0, h.1)
reads_same k (p ∷ pieces) v e (inr (inl h)) = inr (inl (inside_same k p v e h))
reads_same k (p ∷ pieces) v e (inr (inr h)) = inr (inr (reads_same p.next pieces v e h))

in_same : {t u : Rational} (e : Item) → t ≈ u → IsIn (interval e.on) t → IsIn (interval e.on) u
in_same {t} {u} e s h = record {
  above = precedes_before (interval e.on).from_in (interval e.on).from t u h.above (le_of_same s);
  below = precedes_after (interval e.on).to_in u t (interval e.on).to (ge_of_same s) h.below;
}

-- a time is covered by any pair
pub covered_same : {t u : Rational} (items : List Item) (i : ℕ) → t ≈ u → IsCovered items i t → IsCovered items i u
covered_same [] i e h = h
covered_same (x ∷ items) i e (inl h) = inl (h.0, in_same x e h.1)
covered_same (x ∷ items) i e (inr h) = inr (covered_same items i e h)

-- an atom's test does not depend on the pair by which a time is written
pub holds_same : {t u : Rational} (a : Atom) (tr : Trace) → t ≈ u → holds_at a tr t ≡ holds_at a tr u
holds_same {t} {u} a tr e =
    same_tests (holds_at a tr t) (holds_at a tr u) (compares_same a.rel (expression a tr t) (expression a tr u) (same_expression a tr e))
    (compares_same a.rel (expression a tr u) (expression a tr t) (same_sym (same_expression a tr e)))

-- the reading of an atom does not depend on the pair
pub Gives-same : {t u : Rational} (A : Reading) (i : ℕ) (a : Atom) (r : Extended) → t ≈ u → Gives A i a t r → Gives A i a u r
Gives-same {t} {u} (margins tr) i a r e h =
    same_transᵉ r (finite (margin a.rel (expression a tr t))) (finite (margin a.rel (expression a tr u))) h
    (finite_same (margin_same a.rel (same_expression a tr e)))
Gives-same (truths tr) i a r e (inl (h, k)) = inl (sym (holds_same a tr e) ∙ h, k)
Gives-same (truths tr) i a r e (inr (h, k)) = inr (sym (holds_same a tr e) ∙ h, k)
Gives-same (certainties tr items) i a r e (inl (h, c, k)) = inl (sym (holds_same a tr e) ∙ h, covered_same items i e c, k)
Gives-same (certainties tr items) i a r e (inr (inl (h, c, k))) = inr (inl (sym (holds_same a tr e) ∙ h, covered_same items i e c, k))
Gives-same (certainties tr items) i a r e (inr (inr (n, k))) = inr (inr (λ c. n (covered_same items i (same_sym e) c), k))
Gives-same (signals lists) i a r e (knots, s, h) = (knots, s, reads_same knots.first knots.pieces r e h)

-- the value of a formula at one time is one, by whichever pair the time is written
pub SupInf-same : {t u : Rational} (p : Subformula) (s : Setting) (r : Extended) → t ≈ u → SupInf p s t r → SupInf p s u r
SupInf-same (constant true) s r e h = h
SupInf-same (constant false) s r e h = h
SupInf-same (atom i a) s r e h = Gives-same s.atoms i a r e h
SupInf-same (negation p) s r e h = SupInf-same p s (opposite r) e h
SupInf-same (conjunction p q) s r e (v, w, h, k, l) = (v, w, SupInf-same p s v e h, SupInf-same q s w e k, l)
SupInf-same (disjunction p q) s r e (v, w, h, k, l) = (v, w, SupInf-same p s v e h, SupInf-same q s w e k, l)
SupInf-same (implication p q) s r e (v, w, h, k, l) = (v, w, SupInf-same p s v e h, SupInf-same q s w e k, l)
SupInf-same {t} {u} (eventually a b a_in b_in p) s r e h =
    sup_over_alike (Ahead s.from s.to a b a_in b_in t) (Ahead s.from s.to a b a_in b_in u) (SupInf p s) s.lowest r
    (λ v w. ahead_same e w) (λ v w. ahead_same (same_sym e) w) h
SupInf-same {t} {u} (always a b a_in b_in p) s r e h =
    inf_over_alike (Ahead s.from s.to a b a_in b_in t) (Ahead s.from s.to a b a_in b_in u) (SupInf p s) s.highest r
    (λ v w. ahead_same e w) (λ v w. ahead_same (same_sym e) w) h
SupInf-same {t} {u} (once a b a_in b_in p) s r e h =
    sup_over_alike (Behind s.from s.to a b a_in b_in t) (Behind s.from s.to a b a_in b_in u) (SupInf p s) s.lowest r
    (λ v w. behind_same e w) (λ v w. behind_same (same_sym e) w) h
SupInf-same {t} {u} (historically a b a_in b_in p) s r e h =
    inf_over_alike (Behind s.from s.to a b a_in b_in t) (Behind s.from s.to a b a_in b_in u) (SupInf p s) s.highest r
    (λ v w. behind_same e w) (λ v w. behind_same (same_sym e) w) h
SupInf-same {t} {u} (until a b p q) s r e h =
    sup_alike s.lowest r
    (λ v. λ (x, w, f). (x, ahead_same e w, up_to_same s.highest (SupInf p s) (SupInf q s) x v e f))
    (λ v. λ (x, w, f). (x, ahead_same (same_sym e) w, up_to_same s.highest (SupInf p s) (SupInf q s) x v (same_sym e) f)) h
SupInf-same {t} {u} (since a b p q) s r e h =
    sup_alike s.lowest r
    (λ v. λ (x, w, f). (x, behind_same e w, down_to_same s.highest (SupInf p s) (SupInf q s) x v e f))
    (λ v. λ (x, w, f). (x, behind_same (same_sym e) w, down_to_same s.highest (SupInf p s) (SupInf q s) x v (same_sym e) f)) h

module _ (items : List Item) (tr : Trace) where
  -- what is certain at one time is certain by whichever pair the time is written
  mutual
    -- nor does what is certainly true
    pub Must-same : {t u : Rational} (p : Subformula) → t ≈ u → Must p items tr t → Must p items tr u
    Must-same (constant b) e h = h
    Must-same (atom i a) e h = (sym (holds_same a tr e) ∙ h.0, covered_same items i e h.1)
    Must-same (negation p) e h = MustNot-same p e h
    Must-same (conjunction p q) e h = (Must-same p e h.0, Must-same q e h.1)
    Must-same (disjunction p q) e (inl h) = inl (Must-same p e h)
    Must-same (disjunction p q) e (inr h) = inr (Must-same q e h)
    Must-same (implication p q) e (inl h) = inl (MustNot-same p e h)
    Must-same (implication p q) e (inr h) = inr (Must-same q e h)
    Must-same (eventually a b a_in b_in p) e (v, w, h) = (v, ahead_same e w, h)
    Must-same (always a b a_in b_in p) e h = λ v w. h v (ahead_same (same_sym e) w)
    Must-same (once a b a_in b_in p) e (v, w, h) = (v, behind_same e w, h)
    Must-same (historically a b a_in b_in p) e h = λ v w. h v (behind_same (same_sym e) w)
    Must-same (until a b p q) e (v, w, h, k) = (v, ahead_same e w, h, λ x m. k x (from_same e m))
    Must-same (since a b p q) e (v, w, h, k) = (v, behind_same e w, h, λ x m. k x (to_same e m))

    -- nor what is certainly false
    pub MustNot-same : {t u : Rational} (p : Subformula) → t ≈ u → MustNot p items tr t → MustNot p items tr u
    MustNot-same (constant b) e h = h
    MustNot-same (atom i a) e h = (sym (holds_same a tr e) ∙ h.0, covered_same items i e h.1)
    MustNot-same (negation p) e h = Must-same p e h
    MustNot-same (conjunction p q) e (inl h) = inl (MustNot-same p e h)
    MustNot-same (conjunction p q) e (inr h) = inr (MustNot-same q e h)
    MustNot-same (disjunction p q) e h = (MustNot-same p e h.0, MustNot-same q e h.1)
    MustNot-same (implication p q) e h = (Must-same p e h.0, MustNot-same q e h.1)
    MustNot-same (eventually a b a_in b_in p) e h = λ v w. h v (ahead_same (same_sym e) w)
    MustNot-same (always a b a_in b_in p) e (v, w, h) = (v, ahead_same e w, h)
    MustNot-same (once a b a_in b_in p) e h = λ v w. h v (behind_same (same_sym e) w)
    MustNot-same (historically a b a_in b_in p) e (v, w, h) = (v, behind_same e w, h)
    MustNot-same (until a b p q) e h = λ v w. elim (h v (ahead_same (same_sym e) w)) [ inl m ↦ inl m | inr m ↦ inr (m.0, from_same (same_sym e) m.1, m.2) ]
    MustNot-same (since a b p q) e h = λ v w. elim (h v (behind_same (same_sym e) w)) [ inl m ↦ inl m | inr m ↦ inr (m.0, to_same (same_sym e) m.1, m.2) ]
