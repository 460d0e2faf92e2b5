-- What an atom is worth: the truth or the margin of its expression, as a trace gives it.
use Rattle.std.proofs.Common.{◌≡◌, ℕ, ◌⊎◌, inl, inr, Bool, true, false, refl, sym, subst, ◌∙◌}
use Rattle.std.specs.Prelude.{IsTrue, IsFalse}
use Rattle.std.proofs.lemmas.Bool.{true≢false}
use Rattle.rational.specs.Time.{Rational, ◌<ʳ◌, ◌≈◌, whole}
use Rattle.rational.specs.Line.{at}
use Rattle.rational.specs.Extended.{Extended, finite, ◌≈ᵉ◌}
use Rattle.rational.proofs.Order.{lt_trans, lt_of_lt_of_le, lt_of_le_of_lt, le_of_same, ge_of_same}
use Rattle.rational.proofs.AffineLemmas.{finite_same, same_reflᵉ, same_symᵉ, same_transᵉ}
use Rattle.rational.proofs.TimeFunctions.{IsFunction}
use Rattle.value_laws.specs.Values.{truth_value}
use Rattle.stl_syntax.specs.Trace.{Trace}
use Rattle.stl_syntax.specs.Truth.{compares, expression}
use Rattle.stl_syntax.specs.SupInf.{Gives, one, minus_one}
use Rattle.stl_syntax.specs.declared.atom.Atom.{Atom}
use Rattle.stl_syntax.specs.declared.rel.Rel.{Rel}
use Rattle.stl_syntax.proofs.TimeLaw.{margin_same}
use Rattle.stl_syntax.proofs.TruthLemmas.{same_expression}
use Rattle.atom_lines.specs.declared.truth.TruthPiece.{TruthPiece}
use Rattle.atom_lines.specs.declared.truth.TruthPiece.TheVariants.{Whole, Split}
use Rattle.atom_lines.specs.How.{How, by_truth, by_margin, worth, reading_of}
use Rattle.atom_lines.specs.Pieces.{TellsGap}
use Rattle.atom_lines.proofs.Signs.{compare_same}

-- what an atom is worth does not depend on the pair
pub worth_same : (read_as : How) (rel : Rel) {y z : Rational} → y ≈ z → worth read_as rel y ≈ᵉ worth read_as rel z
worth_same by_truth rel {y} {z} e = subst (λ b. finite (whole (truth_value (compares rel y))) ≈ᵉ finite (whole (truth_value b)))
    (compare_same rel e) (same_reflᵉ (finite (whole (truth_value (compares rel y)))))
worth_same by_margin rel e = finite_same (margin_same rel e)

of_bool : (b : Bool) (v : Extended) → v ≈ᵉ finite (whole (truth_value b)) → (IsTrue b × (v ≈ᵉ one)) ⊎ (IsFalse b × (v ≈ᵉ minus_one))
of_bool true v h = inl (refl, h)
of_bool false v h = inr (refl, h)

to_bool : (b : Bool) (v : Extended) → (IsTrue b × (v ≈ᵉ one)) ⊎ (IsFalse b × (v ≈ᵉ minus_one)) → v ≈ᵉ finite (whole (truth_value b))
to_bool true v (inl h) = h.1
to_bool true v (inr h) = absurd (true≢false h.0)
to_bool false v (inl h) = absurd (true≢false (sym h.0))
to_bool false v (inr h) = h.1

-- the reading of the trace gives the atom just what it is worth
pub gives : (read_as : How) (tr : Trace) (i : ℕ) (a : Atom) (t : Rational) (v : Extended)
    → v ≈ᵉ worth read_as a.rel (expression a tr t) → Gives (reading_of read_as tr) i a t v
gives by_truth tr i a t v h = of_bool (compares a.rel (expression a tr t)) v h
gives by_margin tr i a t v h = h

-- and it gives nothing else
pub given : (read_as : How) (tr : Trace) (i : ℕ) (a : Atom) (t : Rational) (v : Extended) → Gives (reading_of read_as tr) i a t v
    → v ≈ᵉ worth read_as a.rel (expression a tr t)
given by_truth tr i a t v h = to_bool (compares a.rel (expression a tr t)) v h
given by_margin tr i a t v h = h

-- what a trace gives an atom is a function of time
pub given_is_function : (read_as : How) (tr : Trace) (i : ℕ) (a : Atom) → IsFunction (Gives (reading_of read_as tr) i a)
given_is_function read_as tr i a = record {
  alike = λ t u v w e s h.
      gives read_as tr i a u w (same_transᵉ w v (worth read_as a.rel (expression a tr u)) (same_symᵉ v w s)
      (same_transᵉ v (worth read_as a.rel (expression a tr t)) (worth read_as a.rel (expression a tr u))
      (given read_as tr i a t v h) (worth_same read_as a.rel (same_expression a tr e))));
  one = λ t v w h k.
      same_transᵉ v (worth read_as a.rel (expression a tr t)) w (given read_as tr i a t v h)
      (same_symᵉ w (worth read_as a.rel (expression a tr t)) (given read_as tr i a t w k));
}

-- what it says of a test it says of another with the same truths
pub gap_same : (from to : Rational) (test other : Rational → Bool) (piece : TruthPiece)
    → ((t : Rational) → from <ʳ t → t <ʳ to → other t ≡ test t) → TellsGap from to test piece → TellsGap from to other piece
gap_same from to test other (Whole w) same h = λ t a b. same t a b ∙ h t a b
gap_same from to test other (Split before at point after) same h = record {
  after_first = h.after_first;
  before_second = h.before_second;
  until_then = λ t a b. same t a (lt_trans b h.before_second) ∙ h.until_then t a b;
  there = λ t e. same t (lt_of_lt_of_le h.after_first (ge_of_same e)) (lt_of_le_of_lt (le_of_same e) h.before_second) ∙ h.there t e;
  from_then = λ t a b. same t (lt_trans h.after_first a) b ∙ h.from_then t a b;
  turns = h.turns;
  small = h.small;
}
