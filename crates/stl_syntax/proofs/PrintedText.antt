-- The text that is written is the printed text.
use Rattle.std.proofs.Common.{◌≡◌, ℕ, suc, ◌&&◌, Bool, true, false, List, [], ◌∷◌, ◌++◌, ℤ, pos, negsuc, refl, sym, ap, subst}
use Rattle.std.specs.Prelude.{codes, Option, Some, None, nat_abs, ◌==◌, MatchBool, if◌then◌else◌}
use Rattle.stl_syntax.specs.Formula.{Formula, Subformula, constant, atom, negation, conjunction, disjunction}
use Rattle.stl_syntax.specs.Formula.{implication, until, eventually, always, since, once, historically, root}
use Rattle.stl_syntax.specs.Print.{relation_text, scaled_text, IsConstantText, IsAtomText, IsUpperText, IsBoundText}
use Rattle.stl_syntax.specs.Print.{IsPastBoundText, IsPrinted, IsPrintedFormula, terms_text, further_terms, has_two}
use Rattle.stl_syntax.specs.Printing.{constant_text, sum_text, later_terms, atom_text, upper_text, bound_text, window_text, in_parens, decimal_text, printed}
use Rattle.stl_syntax.proofs.DecimalLemmas.{decimal_is}
use Rattle.stl_syntax.specs.declared.operator.Window.{Window}
use Rattle.stl_syntax.specs.declared.scale.Scale.{Scale}
use Rattle.stl_syntax.specs.declared.atom.Atom.{Atom}
use Rattle.stl_syntax.specs.declared.atom.Term.{Term}

constant_is : (digits : ℕ) (z : ℤ) → IsConstantText digits z (constant_text digits z)
constant_is digits (pos n) = decimal_is digits n
constant_is digits (negsuc n) = (decimal_text digits (nat_abs (negsuc n)), decimal_is digits (nat_abs (negsuc n)), refl)

-- one term more, by its sign
further_one : (z : ℤ) (name : List ℕ) (terms : List Term) → later_terms terms ≡ further_terms terms
    → later_terms (record { coef = z; name = name } ∷ terms) ≡ further_terms (record { coef = z; name = name } ∷ terms)
further_one (pos k) name terms e = ap (λ l. codes " + " ++ scaled_text k name ++ l) e
further_one (negsuc k) name terms e = ap (λ l. codes " - " ++ scaled_text (suc k) name ++ l) e

first_one : (z : ℤ) (name : List ℕ) (terms : List Term) → later_terms terms ≡ further_terms terms
    → sum_text (record { coef = z; name = name } ∷ terms) ≡ terms_text (record { coef = z; name = name } ∷ terms)
first_one (pos k) name terms e = ap (λ l. scaled_text k name ++ l) e
first_one (negsuc k) name terms e = ap (λ l. codes "-" ++ scaled_text (suc k) name ++ l) e

further_is : (terms : List Term) → later_terms terms ≡ further_terms terms
further_is [] = refl
further_is (t ∷ terms) = further_one t.coef t.name terms (further_is terms)

sum_is : (terms : List Term) → sum_text terms ≡ terms_text terms
sum_is [] = refl
sum_is (t ∷ terms) = first_one t.coef t.name terms (further_is terms)

-- an atom's text is one
pub atom_is : (s : Scale) (a : Atom) → IsAtomText s a (atom_text s a)
atom_is s a = (
  constant_text s.value a.limit,
  constant_is s.value a.limit,
  ap (λ l. l ++ codes " " ++ relation_text a.rel ++ codes " " ++ constant_text s.value a.limit) (sum_is a.terms),
)

upper_is : (s : Scale) (b : Option ℕ) → IsUpperText s b (upper_text s b)
upper_is s None = refl
upper_is s (Some b) = decimal_is s.time b

bound_is : (s : Scale) (a : ℕ) (b : Option ℕ) (a_in b_in : Bool)
    → IsBoundText s a b a_in b_in (bound_text s (record { low = a; high = b; low_in = a_in; high_in = b_in }))
bound_is s a b a_in b_in = (decimal_text s.time a, upper_text s b, decimal_is s.time a, upper_is s b, refl)

past_is : (s : Scale) (a : ℕ) (b : Option ℕ) (a_in b_in : Bool)
    → IsPastBoundText s a b a_in b_in (window_text s (Some (record { low = a; high = b; low_in = a_in; high_in = b_in })))
past_is s a (Some b) a_in b_in = bound_is s a (Some b) a_in b_in
past_is s a None a_in b_in = by_test ((a == 0) && a_in)
  where
    by_test : (t : Bool) → MatchBool t ((if t then [] else bound_text s (record { low = a; high = None; low_in = a_in; high_in = b_in })) ≡ [])
        (IsBoundText s a None a_in b_in (if t then [] else bound_text s (record { low = a; high = None; low_in = a_in; high_in = b_in })))
    by_test true = refl
    by_test false = bound_is s a None a_in b_in

-- each tree's text is the printed one
pub printed_is : (s : Scale) (p : Subformula) → IsPrinted s p (printed s p)
printed_is s (constant b) = refl
printed_is s (atom i a) = atom_is s a
printed_is s (negation p) = (codes "not", in_parens (has_two p) (printed s p), refl, (printed s p, printed_is s p, refl), refl)
printed_is s (conjunction p q) = (
  in_parens (has_two p) (printed s p),
  codes "and",
  in_parens (has_two q) (printed s q),
  (printed s p, printed_is s p, refl),
  refl,
  (printed s q, printed_is s q, refl),
  refl,
)
printed_is s (disjunction p q) = (
  in_parens (has_two p) (printed s p),
  codes "or",
  in_parens (has_two q) (printed s q),
  (printed s p, printed_is s p, refl),
  refl,
  (printed s q, printed_is s q, refl),
  refl,
)
printed_is s (implication p q) = (
  in_parens (has_two p) (printed s p),
  codes "implies",
  in_parens (has_two q) (printed s q),
  (printed s p, printed_is s p, refl),
  refl,
  (printed s q, printed_is s q, refl),
  refl,
)
printed_is s (until a b p q) =
    let w : Window = record { low = a; high = Some b; low_in = true; high_in = true } in (
      in_parens (has_two p) (printed s p),
      codes "until" ++ bound_text s w,
      in_parens (has_two q) (printed s q),
      (printed s p, printed_is s p, refl),
      (bound_text s w, bound_is s a (Some b) true true, refl),
      (printed s q, printed_is s q, refl),
      refl,
    )
printed_is s (since a b p q) =
    let w : Window = record { low = a; high = b; low_in = true; high_in = true } in (
      in_parens (has_two p) (printed s p),
      codes "since" ++ window_text s (Some w),
      in_parens (has_two q) (printed s q),
      (printed s p, printed_is s p, refl),
      (window_text s (Some w), past_is s a b true true, refl),
      (printed s q, printed_is s q, refl),
      refl,
    )
printed_is s (eventually a b a_in b_in p) =
    let w : Window = record { low = a; high = Some b; low_in = a_in; high_in = b_in } in (
      codes "eventually" ++ bound_text s w,
      in_parens (has_two p) (printed s p),
      (bound_text s w, bound_is s a (Some b) a_in b_in, refl),
      (printed s p, printed_is s p, refl),
      refl,
    )
printed_is s (always a b a_in b_in p) =
    let w : Window = record { low = a; high = Some b; low_in = a_in; high_in = b_in } in (
      codes "always" ++ bound_text s w,
      in_parens (has_two p) (printed s p),
      (bound_text s w, bound_is s a (Some b) a_in b_in, refl),
      (printed s p, printed_is s p, refl),
      refl,
    )
printed_is s (once a b a_in b_in p) =
    let w : Window = record { low = a; high = b; low_in = a_in; high_in = b_in } in (
      codes "once" ++ window_text s (Some w),
      in_parens (has_two p) (printed s p),
      (window_text s (Some w), past_is s a b a_in b_in, refl),
      (printed s p, printed_is s p, refl),
      refl,
    )
printed_is s (historically a b a_in b_in p) =
    let w : Window = record { low = a; high = b; low_in = a_in; high_in = b_in } in (
      codes "historically" ++ window_text s (Some w),
      in_parens (has_two p) (printed s p),
      (window_text s (Some w), past_is s a b a_in b_in, refl),
      (printed s p, printed_is s p, refl),
      refl,
    )

-- and so is the formula's
pub printed_formula : (f : Formula) (text : List ℕ) → text ≡ printed f.scale (root f.nodes) → IsPrintedFormula f text
printed_formula f text e = subst (IsPrintedFormula f) (sym e) (printed_is f.scale (root f.nodes))
