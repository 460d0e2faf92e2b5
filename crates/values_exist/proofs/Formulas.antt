-- Where the atoms are drawn each formula is, so it has a value at each time and an Inf between each two times.
use Rattle.std.proofs.Common.{ℕ, true, false}
use Rattle.rational.specs.Windows.{Ahead, Behind}
use Rattle.stl_syntax.specs.Formula.{Subformula, constant, atom, negation, conjunction, disjunction}
use Rattle.stl_syntax.specs.Formula.{implication, until, eventually, always, since, once, historically}
use Rattle.stl_syntax.specs.SupInf.{Setting, Gives, SupInf, HasValue, HasValues, HasInf, HasInfs}
use Rattle.stl_syntax.specs.declared.atom.Atom.{Atom}
use Rattle.values_exist.proofs.Drawn.{IsDrawn, drawn_value, drawn_negation, drawn_least, drawn_greatest, drawn_implied, drawn_sup, drawn_inf}
use Rattle.values_exist.proofs.Drawn.{drawn_until, drawn_since, ahead_told, behind_told, drawn_inf_between, drawn_sup_between}
use Rattle.values_exist.specs.Laws.{HasSup}

-- the reading draws each atom
abbrev pub AtomsAreDrawn : Setting → Type 0
AtomsAreDrawn s = (i : ℕ) (a : Atom) → IsDrawn s.from s.to (Gives s.atoms i a)

-- each formula is drawn
pub drawn : (p : Subformula) (s : Setting) → AtomsAreDrawn s → IsDrawn s.from s.to (SupInf p s)
drawn (constant true) s atoms = drawn_value s.from s.to s.highest
drawn (constant false) s atoms = drawn_value s.from s.to s.lowest
drawn (atom i a) s atoms = atoms i a
drawn (negation p) s atoms = drawn_negation s.from s.to (SupInf p s) (drawn p s atoms)
drawn (conjunction p q) s atoms = drawn_least s.from s.to (SupInf p s) (SupInf q s) (drawn p s atoms) (drawn q s atoms)
drawn (disjunction p q) s atoms = drawn_greatest s.from s.to (SupInf p s) (SupInf q s) (drawn p s atoms) (drawn q s atoms)
drawn (implication p q) s atoms = drawn_implied s.from s.to (SupInf p s) (SupInf q s) (drawn p s atoms) (drawn q s atoms)
drawn (eventually a b a_in b_in p) s atoms =
    drawn_sup s.from s.to s.lowest (Ahead s.from s.to a b a_in b_in) (SupInf p s) (ahead_told s.from s.to a b a_in b_in) (drawn p s atoms)
drawn (always a b a_in b_in p) s atoms =
    drawn_inf s.from s.to s.highest (Ahead s.from s.to a b a_in b_in) (SupInf p s) (ahead_told s.from s.to a b a_in b_in) (drawn p s atoms)
drawn (once a b a_in b_in p) s atoms =
    drawn_sup s.from s.to s.lowest (Behind s.from s.to a b a_in b_in) (SupInf p s) (behind_told s.from s.to a b a_in b_in) (drawn p s atoms)
drawn (historically a b a_in b_in p) s atoms =
    drawn_inf s.from s.to s.highest (Behind s.from s.to a b a_in b_in) (SupInf p s) (behind_told s.from s.to a b a_in b_in) (drawn p s atoms)
drawn (until a b p q) s atoms =
    drawn_until s.from s.to s.lowest s.highest (Ahead s.from s.to a b true true) (SupInf p s) (SupInf q s) (ahead_told s.from s.to a b true true)
    (drawn p s atoms) (drawn q s atoms)
drawn (since a b p q) s atoms =
    drawn_since s.from s.to s.lowest s.highest (Behind s.from s.to a b true true) (SupInf p s) (SupInf q s) (behind_told s.from s.to a b true true)
    (drawn p s atoms) (drawn q s atoms)

-- so it has a value at each time
pub has_value : (p : Subformula) (s : Setting) → AtomsAreDrawn s → HasValue p s
has_value p s atoms t w = let e = (drawn p s atoms).1 t w in (e.level, e.is_value)

-- and each formula below it
pub has_values : (p : Subformula) (s : Setting) → AtomsAreDrawn s → HasValues p s
has_values (constant b) s atoms = has_value (constant b) s atoms
has_values (atom i a) s atoms = has_value (atom i a) s atoms
has_values (negation p) s atoms = (has_value (negation p) s atoms, has_values p s atoms)
has_values (conjunction p q) s atoms = (has_value (conjunction p q) s atoms, has_values p s atoms, has_values q s atoms)
has_values (disjunction p q) s atoms = (has_value (disjunction p q) s atoms, has_values p s atoms, has_values q s atoms)
has_values (implication p q) s atoms = (has_value (implication p q) s atoms, has_values p s atoms, has_values q s atoms)
has_values (until a b p q) s atoms = (has_value (until a b p q) s atoms, has_values p s atoms, has_values q s atoms)
has_values (eventually a b a_in b_in p) s atoms = (has_value (eventually a b a_in b_in p) s atoms, has_values p s atoms)
has_values (always a b a_in b_in p) s atoms = (has_value (always a b a_in b_in p) s atoms, has_values p s atoms)
has_values (since a b p q) s atoms = (has_value (since a b p q) s atoms, has_values p s atoms, has_values q s atoms)
has_values (once a b a_in b_in p) s atoms = (has_value (once a b a_in b_in p) s atoms, has_values p s atoms)
has_values (historically a b a_in b_in p) s atoms = (has_value (historically a b a_in b_in p) s atoms, has_values p s atoms)

-- between two times it has an Inf
pub has_inf : (p : Subformula) (s : Setting) → AtomsAreDrawn s → HasInf p s
has_inf p s atoms t u wt wu = drawn_inf_between s.from s.to s.highest (SupInf p s) (drawn p s atoms) t u wt wu

-- and a Sup
pub has_sup : (p : Subformula) (s : Setting) → AtomsAreDrawn s → HasSup p s
has_sup p s atoms t u wt wu = drawn_sup_between s.from s.to s.lowest (SupInf p s) (drawn p s atoms) t u wt wu

-- and each left side of until and since has Infs
pub has_infs : (p : Subformula) (s : Setting) → AtomsAreDrawn s → HasInfs p s
has_infs (constant b) s atoms = tt
has_infs (atom i a) s atoms = tt
has_infs (negation p) s atoms = has_infs p s atoms
has_infs (conjunction p q) s atoms = (has_infs p s atoms, has_infs q s atoms)
has_infs (disjunction p q) s atoms = (has_infs p s atoms, has_infs q s atoms)
has_infs (implication p q) s atoms = (has_infs p s atoms, has_infs q s atoms)
has_infs (until a b p q) s atoms = (has_inf p s atoms, has_infs p s atoms, has_infs q s atoms)
has_infs (eventually a b a_in b_in p) s atoms = has_infs p s atoms
has_infs (always a b a_in b_in p) s atoms = has_infs p s atoms
has_infs (since a b p q) s atoms = (has_inf p s atoms, has_infs p s atoms, has_infs q s atoms)
has_infs (once a b a_in b_in p) s atoms = has_infs p s atoms
has_infs (historically a b a_in b_in p) s atoms = has_infs p s atoms
