-- The printed text of a formula is read as its nodes.
use Rattle.std.proofs.Common.{◌≡◌, ℕ, suc, ◌+◌, ◌-◌, ◌^◌, ◌<◌, ◌≤◌, List, [], ◌∷◌, ◌++◌, length, refl, ap, sym, inl, inr, ◌⊎◌}
use Rattle.std.proofs.Common.{subst, ◌∙◌, Bool, true, false, ◌&&◌, ◌||◌, pos, negsuc, arith, append_assoc, length-append}
use Rattle.std.specs.Prelude.{codes, decimal, ◌==◌, nat_abs, neg_ℤ, ℤ, Option, Some, None, All, IsTrue, slice_get}
use Rattle.std.proofs.lemmas.List.{append-nil}
use Rattle.std.proofs.lemmas.List.Elements.{All-head, All-tail, All-cons, All-nil}
use Rattle.std.proofs.lemmas.Bool.{eqb-true, and_parts}
use Rattle.std.proofs.Math.Bool.{or-false}
use Rattle.rational.proofs.Lists.{slice_get-append_here}
use Rattle.stl_syntax.specs.Characters.{ticks}
use Rattle.stl_syntax.specs.Names.{is_name}
use Rattle.stl_syntax.specs.Formula.{Formula, Subformula, tree_of, subformula}
use Rattle.std.proofs.lemmas.List.Sums.{sum_by-cons}
use Rattle.stl_syntax.proofs.FormulaLemmas.{subformula-at}
use Rattle.stl_syntax.proofs.PostOrderLemmas.{placed}
use Rattle.stl_syntax.proofs.TreeLaw.{one_tree}
use Rattle.stl_syntax.specs.PostOrder.{children, IsPostOrder, top, IsTreeFrom, leaf, one, two}
use Rattle.stl_syntax.specs.WellFormed.{IsTermInLimits, IsAtomInLimits, IsLeafInLimits, HasBounds, IsInOrder, IsInWhereInfinite, IsWellFormed}
use Rattle.stl_syntax.specs.Limits.{own_reach, reach_of_bound, reach}
use Rattle.stl_syntax.specs.Print.{IsConstantText, relation_text, scaled_text, further_terms, terms_text, IsAtomText, opening, closing, IsBoundText}
use Rattle.stl_syntax.specs.Print.{IsPastBoundText, has_two, InParens, Before, Between, Bare, Bounded as WithBound, IsPrinted, IsPrintedFormula}
use Rattle.stl_syntax.specs.declared.scale.Scale.{Scale}
use Rattle.stl_syntax.specs.declared.atom.Atom.{Atom}
use Rattle.stl_syntax.specs.declared.atom.Term.{Term}
use Rattle.stl_syntax.specs.declared.rel.Rel.{Rel}
use Rattle.stl_syntax.specs.declared.node.Node.{Node}
use Rattle.stl_syntax.specs.declared.node.Node.TheVariants.{Const, Atom as Leaf, Not, And, Or, Implies, Until, Eventually, Always, Since, Once, Historically}
use Rattle.stl_grammar.specs.Grammar.{Token, word, number, relation, open_paren, close_paren, open_bracket, close_bracket, comma, star, plus, minus, Lexes}
use Rattle.stl_grammar.specs.Grammar.{IsConstant, plain, negative, IsTerm, scaled, AreTerms, more_plus, more_minus, IsAtom, first, signed}
use Rattle.stl_grammar.specs.Grammar.{name as term_name, none as no_terms, IsFormula, first_decimals, time_digits}
use Rattle.stl_grammar.specs.Operators.{is_beside, looks_back, may_be_open}
use Rattle.stl_grammar.specs.Tokens.{blank}
use Rattle.stl_grammar.specs.declared.operator.Timed.{Timed}
use Rattle.stl_grammar.specs.declared.operator.Timed.TheVariants.{Until as TUntil, Since as TSince, Eventually as TEventually}
use Rattle.stl_grammar.specs.declared.operator.Timed.TheVariants.{Always as TAlways, Once as TOnce, Historically as THistorically}
use Rattle.stl_grammar.proofs.Derivations.{Connective, by_and, by_or, by_implies, connective_word, connective_node, timed_word, timed_node}
use Rattle.stl_grammar.proofs.Derivations.{Opens, opens_in, opens_out, Closes, closes_in, closes_out, by_brackets, Bounded, left_out, within, endless}
use Rattle.stl_grammar.proofs.Derivations.{Operand, negated, prefixed, constant, enclosed, compared, Derived, joined, beside, alone, one_binds, as_formula}
use Rattle.stl_grammar.proofs.TokenEnds.{derived_ends, operand_ends, short_atom, short_signed}
use Rattle.stl_grammar.proofs.TokenNeat.{ArePlain, IsNeat, constant_plain, neat_joined, neat_word, neat_parens, neat_bound}
use Rattle.stl_grammar.proofs.PrintedTokens.{Separates, Lexed, LexedAny, Parts, any_lexed, then_lexed, parted_any}
use Rattle.stl_grammar.proofs.PrintedTokens.{parted, spaced, lexed_whole, is_plain_word, word_lexed, lexed_name, paren_lexed}
use Rattle.stl_grammar.proofs.PrintedTokens.{paren_end_lexed, bracket_lexed, bracket_end_lexed, comma_lexed, star_lexed}
use Rattle.stl_grammar.proofs.PrintedTokens.{plus_lexed, minus_lexed, relation_lexed, integer_text, number_text}

-- a constant
limit_read : (digits : ℕ) (c : ℤ) (text : List ℕ) → nat_abs c ≤ 1073741824 → IsConstantText digits c text
    → (ts : List Token) × Lexed text ts × IsConstant digits ts c × (first_decimals ts ≤ digits)
limit_read digits (pos n) text l h = let (v, k, x, e, m, f) = number_text digits n text (omega arith) h in (number v k ∷ [], x, rw (ap pos (sym e)) plain, m)
limit_read digits (negsuc n) text l (size, h, t) =
    let (v, k, x, e, m, f) = number_text digits (suc n) size (omega arith) h in
    let g : neg_ℤ (pos (ticks digits v k)) ≡ negsuc n = ap (λ z. neg_ℤ (pos z)) e in
    (minus ∷ number v k ∷ [], rw t (then_lexed (codes "-") size (minus ∷ []) (number v k ∷ []) minus_lexed x), rw (sym g) negative, m)

-- no coefficient among these tokens has decimals, whatever follows them
abbrev PlainBefore : List Token → Type 0
PlainBefore ts = (zs : List Token) → ArePlain zs → ArePlain (ts ++ zs)

plain_both : (ts us : List Token) → PlainBefore ts → PlainBefore us → PlainBefore (ts ++ us)
plain_both ts us f g zs p = rw (append_assoc ts us zs) (f (us ++ zs) (g zs p))

-- a term without its sign
term_read : (k : ℕ) (name : List ℕ) → k ≤ 16 → IsTrue (is_name name) → (ts : List Token) × Lexed (scaled_text k name) ts × IsTerm ts k name × PlainBefore ts
term_read k name l h = split (k == 1) refl
  where
    split : (b : Bool) → (k == 1) ≡ b → (ts : List Token) × Lexed (scaled_text k name) ts × IsTerm ts k name × PlainBefore ts
    split true e =
        let f : k ≡ 1 = eqb-true k 1 e in
        let n = lexed_name name h in
        (word name ∷ [], rw e n.0, rw f (term_name n.1), λ zs p. p)
    split false e =
        let n = lexed_name name h in
        let a = then_lexed (codes "*") name (star ∷ []) (word name ∷ []) star_lexed n.0 in
        let b = parted (decimal k) (codes "*" ++ name) (number k 0 ∷ []) (star ∷ word name ∷ []) (integer_text k (omega arith)) (λ z s. (refl, refl)) a in
        (number k 0 ∷ star ∷ word name ∷ [], rw e (rw (append_assoc (decimal k) (codes "*") name) b), scaled n.1, λ zs p. (refl, p))

-- further terms
sign_lexed : (c : ℕ) (t : Token) → LexedAny (c ∷ []) (t ∷ []) → LexedAny (32 ∷ c ∷ 32 ∷ []) (t ∷ [])
sign_lexed c t h z us l = blank refl (h (32 ∷ z) us (blank refl l))

further_separates : (terms : List Term) (z : List ℕ) → Separates z → Separates (further_terms terms ++ z)
further_separates [] z s = s
further_separates (t ∷ terms) z s = by_sign t.coef t.name
  where
    by_sign : (c : ℤ) (name : List ℕ) → Separates (further_terms (record { coef = c; name = name } ∷ terms) ++ z)
    by_sign (pos k) name = (refl, refl)
    by_sign (negsuc k) name = (refl, refl)

abbrev FurtherRead : List Term → Type 0
FurtherRead terms = (us : List Token) × Lexed (further_terms terms) us × AreTerms us terms × PlainBefore us

further_one : (c : ℤ) (name : List ℕ) (terms : List Term) → nat_abs c ≤ 16 → IsTrue (is_name name) → FurtherRead terms
    → FurtherRead (record { coef = c; name = name } ∷ terms)
further_one (pos k) name terms l h (us, x, a, pl) =
    let (ts, y, t, pt) = term_read k name l h in
    let m = parted (scaled_text k name) (further_terms terms) ts us y (further_separates terms) x in (
      plus ∷ ts ++ us,
      (then_lexed (codes " + ") (scaled_text k name ++ further_terms terms) (plus ∷ []) (ts ++ us) (sign_lexed 43 plus plus_lexed) m),
      more_plus t a,
      plain_both ts us pt pl,
    )
further_one (negsuc k) name terms l h (us, x, a, pl) =
    let (ts, y, t, pt) = term_read (suc k) name l h in
    let m = parted (scaled_text (suc k) name) (further_terms terms) ts us y (further_separates terms) x in (
      minus ∷ ts ++ us,
      (then_lexed (codes " - ") (scaled_text (suc k) name ++ further_terms terms) (minus ∷ []) (ts ++ us) (sign_lexed 45 minus minus_lexed) m),
      more_minus t a,
      plain_both ts us pt pl,
    )

further_read : (terms : List Term) → All IsTermInLimits terms → FurtherRead terms
further_read [] h = ([], λ z vs s l. l, no_terms, λ zs p. p)
further_read (t ∷ terms) h =
    let g = All-head IsTermInLimits t terms h in
    further_one t.coef t.name terms g.coef g.name (further_read terms (All-tail IsTermInLimits t terms h))

-- all terms, and with them an atom
abbrev TermsRead : List Term → Type 0
TermsRead terms = (us : List Token) × Lexed (terms_text terms) us
    × ((digits : ℕ) (rel : Rel) (vs : List Token) (c : ℤ) → IsConstant digits vs c
    → IsAtom digits (us ++ relation rel ∷ vs) (record { terms = terms; rel = rel; limit = c }))
    × ((s : Scale) (digits : ℕ) (rel : Rel) (vs : List Token) (c : ℤ) → IsConstant digits vs c → first_decimals vs ≤ s.value
    → IsNeat s (us ++ relation rel ∷ vs))

first_one : (c : ℤ) (name : List ℕ) (terms : List Term) → nat_abs c ≤ 16 → IsTrue (is_name name) → FurtherRead terms
    → TermsRead (record { coef = c; name = name } ∷ terms)
first_one (pos k) name terms l h (us, x, a, pl) =
    let (ts, y, t, pt) = term_read k name l h in (
      ts ++ us,
      parted (scaled_text k name) (further_terms terms) ts us y (further_separates terms) x,
      λ digits rel vs c i. first t a i,
      λ s digits rel vs c i l. record { short = short_atom s rel t a i l; plain = plain_both ts us pt pl (relation rel ∷ vs) (constant_plain rel i) },
    )
first_one (negsuc k) name terms l h (us, x, a, pl) =
    let (ts, y, t, pt) = term_read (suc k) name l h in
    let m = parted (scaled_text (suc k) name) (further_terms terms) ts us y (further_separates terms) x in (
      minus ∷ ts ++ us,
      (then_lexed (codes "-") (scaled_text (suc k) name ++ further_terms terms) (minus ∷ []) (ts ++ us) minus_lexed m),
      λ digits rel vs c i. signed (more_minus t a) i,
      λ s digits rel vs c i l.
          record { short = short_signed s rel (more_minus t a) i l; plain = plain_both ts us pt pl (relation rel ∷ vs) (constant_plain rel i) },
    )

terms_read : (terms : List Term) → 0 < length terms → All IsTermInLimits terms → TermsRead terms
terms_read [] l h = absurd (omega arith)
terms_read (t ∷ terms) l h =
    let g = All-head IsTermInLimits t terms h in
    first_one t.coef t.name terms g.coef g.name (further_read terms (All-tail IsTermInLimits t terms h))

atom_read : (s : Scale) (a : Atom) (text : List ℕ) → IsAtomInLimits a → IsAtomText s a text
    → (ts : List Token) × Lexed text ts × IsAtom s.value ts a × IsNeat s ts
atom_read s a text g (limit, h, e) =
    let (us, x, make, short) = terms_read a.terms g.some g.terms in
    let (vs, y, c, few) = limit_read s.value a.limit limit g.limit h in
    let m = then_lexed (terms_text a.terms ++ codes " ") (relation_text a.rel) us (relation a.rel ∷ [])
    (spaced (terms_text a.terms) us x) (relation_lexed a.rel) in
    let n = then_lexed (terms_text a.terms ++ codes " " ++ relation_text a.rel ++ codes " ") limit (us ++ relation a.rel ∷ []) vs
    (spaced (terms_text a.terms ++ codes " " ++ relation_text a.rel) (us ++ relation a.rel ∷ []) m) y in (
      us ++ relation a.rel ∷ vs,
      rw e (rw (append_assoc us (relation a.rel ∷ []) vs) at n),
      make s.value a.rel vs a.limit c,
      short s s.value a.rel vs a.limit c few,
    )

-- bounds
abbrev opening_read : (b : Bool) → (t : Token) × LexedAny (opening b) (t ∷ [])
opening_read true = (open_bracket, bracket_lexed)
opening_read false = (close_bracket, bracket_end_lexed)

abbrev closing_read : (b : Bool) → (t : Token) × LexedAny (closing b) (t ∷ []) × Parts (closing b)
closing_read true = (close_bracket, bracket_end_lexed, λ z. (refl, refl))
closing_read false = (open_bracket, bracket_lexed, λ z. (refl, refl))

-- the operator may have such an end
opening_fits : (o : Timed) (x : Bool) → may_be_open o || x ≡ true → Opens o (opening_read x).0 x
opening_fits o true e = opens_in
opening_fits o false e = opens_out (sym (or-false (may_be_open o)) ∙ e)

closing_fits : (o : Timed) (x : Bool) → may_be_open o || x ≡ true → Closes o (closing_read x).0 x
closing_fits o true e = closes_in
closing_fits o false e = closes_out (sym (or-false (may_be_open o)) ∙ e)

-- brackets about two pieces
about : (a_in b_in : Bool) (low high : List ℕ) (t u : Token) → Lexed low (t ∷ []) → Lexed high (u ∷ [])
    → LexedAny (opening a_in ++ low ++ codes "," ++ high ++ closing b_in) ((opening_read a_in).0 ∷ t ∷ comma ∷ u ∷ (closing_read b_in).0 ∷ [])
about a_in b_in low high t u x y =
    let o = opening_read a_in in
    let c = closing_read b_in in
    let m = then_lexed (opening a_in) low (o.0 ∷ []) (t ∷ []) o.1 x in
    let n = parted_any (opening a_in ++ low) (codes ",") (o.0 ∷ t ∷ []) (comma ∷ []) m (λ z. (refl, refl)) comma_lexed in
    let p = then_lexed (opening a_in ++ low ++ codes ",") high (o.0 ∷ t ∷ comma ∷ []) (u ∷ []) n y in
    parted_any (opening a_in ++ low ++ codes "," ++ high) (closing b_in) (o.0 ∷ t ∷ comma ∷ u ∷ []) (c.0 ∷ []) p c.2 c.1

about_parts : (a_in b_in : Bool) (low high : List ℕ) → Parts (opening a_in ++ low ++ codes "," ++ high ++ closing b_in)
about_parts true b_in low high z = (refl, refl)
about_parts false b_in low high z = (refl, refl)

bound_time : {o : Timed} {t u : Token} {x y : Bool} (v i w j d : ℕ) → i ≤ d → j ≤ d → Opens o t x → Closes o u y
    → time_digits (t ∷ number v i ∷ comma ∷ number w j ∷ u ∷ []) ≤ d
bound_time v i w j d l m = by_brackets (λ t u. time_digits (t ∷ number v i ∷ comma ∷ number w j ∷ u ∷ []) ≤ d)
    (omega arith) (omega arith) (omega arith) (omega arith)

inf_time : {o : Timed} {t u : Token} {x y : Bool} (v i d : ℕ) → i ≤ d → Opens o t x → Closes o u y
    → time_digits (t ∷ number v i ∷ comma ∷ word (codes "inf") ∷ u ∷ []) ≤ d
inf_time v i d l = by_brackets (λ t u. time_digits (t ∷ number v i ∷ comma ∷ word (codes "inf") ∷ u ∷ []) ≤ d)
    (omega arith) (omega arith) (omega arith) (omega arith)

-- what a bound's text is read as, after a word
abbrev BoundRead : Scale → Timed → ℕ → Option ℕ → Bool → Bool → List ℕ → Type 0
BoundRead s o a b x y text = (us : List Token) × ((w : List ℕ) (ts : List Token) → Lexed w ts → Lexed (w ++ text) (ts ++ us))
    × Bounded s.time o us a b x y × (time_digits us ≤ s.time)

-- a bound whose numbers are within the limits, with brackets that the operator may have
record IsOf (o : Timed) (a : ℕ) (b : Option ℕ) (x y : Bool) : Type 0 where
  order : IsInOrder a b
  reach : reach_of_bound a b ≤ 4294967295
  infinite : IsInWhereInfinite b y
  low : may_be_open o || x ≡ true
  high : may_be_open o || y ≡ true

within_read : (s : Scale) (o : Timed) (a b : ℕ) (x y : Bool) (text : List ℕ) → a < 2 ^ 64 → b < 2 ^ 64 → Opens o (opening_read x).0 x
    → Closes o (closing_read y).0 y → IsBoundText s a (Some b) x y text → BoundRead s o a (Some b) x y text
within_read s o a b x y text l m c d (low, high, h, k, e) =
    let (v, i, z, f, f1, f2) = number_text s.time a low l h in
    let (w, j, q, g, g1, g2) = number_text s.time b high m k in
    let us : List Token = (opening_read x).0 ∷ number v i ∷ comma ∷ number w j ∷ (closing_read y).0 ∷ [] in
    let t : LexedAny text us = rw e (about x y low high (number v i) (number w j) z q) in
    let p : Parts text = rw e (about_parts x y low high) in
    let n : Bounded s.time o us (ticks s.time v i) (Some (ticks s.time w j)) x y = within c d in
    (us, λ y ts r. any_lexed (y ++ text) (ts ++ us) (parted_any y text ts us r p t), rw (f, g) at n, bound_time v i w j s.time f1 g1 c d)

endless_read : (s : Scale) (o : Timed) (a : ℕ) (x y : Bool) (text : List ℕ) → a < 2 ^ 64 → looks_back o ≡ true → y ≡ true
    → Opens o (opening_read x).0 x → Closes o (closing_read y).0 y → IsBoundText s a None x y text → BoundRead s o a None x y text
endless_read s o a x y text l back all c d (low, high, h, k, e) =
    let (v, i, z, f, f1, f2) = number_text s.time a low l h in
    let inf : Lexed high (word (codes "inf") ∷ []) = rw k (word_lexed (codes "inf") refl) in
    let us : List Token = (opening_read x).0 ∷ number v i ∷ comma ∷ word (codes "inf") ∷ (closing_read y).0 ∷ [] in
    let t : LexedAny text us = rw e (about x y low high (number v i) (word (codes "inf")) z inf) in
    let p : Parts text = rw e (about_parts x y low high) in
    let n : Bounded s.time o us (ticks s.time v i) None x true = endless back c d in
    let m : Bounded s.time o us a None x y = subst (λ z. Bounded s.time o us a None x z) (sym all) (rw f at n) in
    (us, λ y ts r. any_lexed (y ++ text) (ts ++ us) (parted_any y text ts us r p t), m, inf_time v i s.time f1 c d)

bound_read : (s : Scale) (o : Timed) (a : ℕ) (b : Option ℕ) (x y : Bool) (text : List ℕ) → IsOf o a b x y → looks_back o ≡ true ⊎ Some (reach_of_bound a b) ≡ b
    → IsBoundText s a b x y text → BoundRead s o a b x y text
bound_read s o a (Some b) x y text l back h =
    let order = l.order in let reach = l.reach in
    within_read s o a b x y text (omega arith) (omega arith) (opening_fits o x l.low) (closing_fits o y l.high) h
bound_read s o a None x y text l (inr e) h = absurd (cc)
bound_read s o a None x y text l (inl back) h =
    let reach = l.reach in endless_read s o a x y text (omega arith) back l.infinite (opening_fits o x l.low) (closing_fits o y l.high) h

-- the bound of an operator that looks back may be left out
past_read : (s : Scale) (o : Timed) (a : ℕ) (b : Option ℕ) (x y : Bool) (text : List ℕ) → IsOf o a b x y → looks_back o ≡ true
    → IsPastBoundText s a b x y text → BoundRead s o a b x y text
past_read s o a (Some b) x y text l back h = bound_read s o a (Some b) x y text l (inl back) h
past_read s o a None x y text l back h = split ((a == 0) && x) refl
  where
    split : (b : Bool) → ((a == 0) && x) ≡ b → BoundRead s o a None x y text
    split true e =
        let t : text ≡ [] = rw e at h in
        let p = and_parts (a == 0) x e in
        let w : Bounded s.time o [] a None x y = rw (eqb-true a 0 p.0, p.1, l.infinite) (left_out back) in
        ([], λ y ts q. rw (t, append-nil y, append-nil ts) q, w, omega arith)
    split false e = bound_read s o a None x y text l (inl back) (rw e at h)

-- what a tree's text is read as
abbrev Parsed : Scale → ℕ → Bool → List ℕ → List Node → Type 0
Parsed s k true text ns = (ts : List Token) × Lexed text ts × Derived s 1 k ts ns × IsNeat s ts
Parsed s k false text ns = (ts : List Token) × Lexed text ts × Operand s k ts ns × IsNeat s ts

-- and the same in parentheses where it has two operands
abbrev OperandRead : Scale → ℕ → List ℕ → List Node → Type 0
OperandRead s k text ns = (ts : List Token) × Lexed text ts × Operand s k ts ns × IsNeat s ts

in_parens_read : (s : Scale) (k : ℕ) (two : Bool) (P : List ℕ → Type 0) (text : List ℕ) (ns : List Node)
    → ((inner : List ℕ) → P inner → Parsed s k two inner ns) → InParens two P text
    → OperandRead s k text ns
in_parens_read s k true P text ns f (inner, h, e) =
    let (ts, x, d, sh) = f inner h in
    let a = then_lexed (codes "(") inner (open_paren ∷ []) ts paren_lexed x in
    let b = parted_any (codes "(" ++ inner) (codes ")") (open_paren ∷ ts) (close_paren ∷ []) a (λ z. (refl, refl)) paren_end_lexed in (
      open_paren ∷ ts ++ close_paren ∷ [],
      rw e (any_lexed (codes "(" ++ inner ++ codes ")") (open_paren ∷ ts ++ close_paren ∷ []) b),
      enclosed d,
      neat_parens s ts (derived_ends d) sh,
    )
in_parens_read s k false P text ns f (inner, h, e) = let (ts, x, d, sh) = f inner h in (ts, rw e x, d, sh)

parsed_formula : (s : Scale) (k : ℕ) (two : Bool) (text : List ℕ) (ns : List Node) → Parsed s k two text ns
    → (ts : List Token) × Lexed text ts × IsFormula s k ts ns × IsNeat s ts
parsed_formula s k true text ns (ts, x, d, sh) = (ts, x, as_formula d, sh)
parsed_formula s k false text ns (ts, x, p, sh) = (ts, x, as_formula {r = 1} (alone p), sh)

-- a word, and an operand after it
before_read : (word_text x : List ℕ) (ts us : List Token) → Lexed word_text ts → Lexed x us → Lexed (word_text ++ codes " " ++ x) (ts ++ us)
before_read w x ts us a b = then_lexed (w ++ codes " ") x ts us (spaced w ts a) b

-- a word between two operands
between_read : (x w y : List ℕ) (ts us vs : List Token) → Lexed x ts → Lexed w us → Lexed y vs
    → Lexed (x ++ codes " " ++ w ++ codes " " ++ y) (ts ++ (us ++ vs))
between_read x w y ts us vs a b c =
    let m = then_lexed (x ++ codes " ") w ts us (spaced x ts a) b in
    rw (append_assoc ts us vs) at (then_lexed (x ++ codes " " ++ w ++ codes " ") y (ts ++ us) vs (spaced (x ++ codes " " ++ w) (ts ++ us) m) c)

connective_plain : (o : Connective) → is_plain_word (connective_word o) ≡ true
connective_plain by_and = refl
connective_plain _ = refl

timed_plain : (of : Timed) → is_plain_word (timed_word of) ≡ true
timed_plain TUntil = refl
timed_plain _ = refl

bare_neat : (s : Scale) (w : List ℕ) → IsNeat s (word w ∷ [])
bare_neat s w = record { short = record { time = omega arith; value = omega arith }; plain = tt }

-- a node whose numbers are within their limits
pub record IsFit (n : Node) : Type 0 where
  -- its atom, if it is one, is within its limits
  pub atom : IsLeafInLimits n
  -- its bounds are in order
  pub bounds : HasBounds n
  -- its own reach fits
  pub reach : own_reach n ≤ 4294967295

-- what holds of all holds of the first
pub all_left : {X : Type 0} (P : X → Type 0) (xs ys : List X) → All P (xs ++ ys) → All P xs
all_left P [] ys h = All-nil P
all_left P (x ∷ xs) ys h = All-cons P x xs (All-head P x (xs ++ ys) h) (all_left P xs ys (All-tail P x (xs ++ ys) h))

-- and of the rest
pub all_right : {X : Type 0} (P : X → Type 0) (xs ys : List X) → All P (xs ++ ys) → All P ys
all_right P [] ys h = h
all_right P (x ∷ xs) ys h = all_right P xs ys (All-tail P x (xs ++ ys) h)

-- and of the last
pub all_last : (P : Node → Type 0) (xs : List Node) (n : Node) → All P (xs ++ n ∷ []) → P n
all_last P xs n h = All-head P n [] (all_right P xs (n ∷ []) h)

module _ (s : Scale) (at : ℕ → Subformula) where
  leaf_read : (k i : ℕ) (n : Node) (text : List ℕ) → children n ≡ [] → IsFit n → IsPrinted s (tree_of at i n) text
      → Parsed s k (has_two (tree_of at i n)) text (n ∷ [])
  leaf_read k i (Const true) text e f h = (word (codes "true") ∷ [], rw h (word_lexed (codes "true") refl), constant true, bare_neat s (codes "true"))
  leaf_read k i (Const false) text e f h = (word (codes "false") ∷ [], rw h (word_lexed (codes "false") refl), constant false, bare_neat s (codes "false"))
  leaf_read k i (Leaf a) text e f h = let (ts, x, d, sh) = atom_read s a text f.atom h in (ts, x, compared d, sh)
  leaf_read k i _ text e f h = absurd (cc)

  -- the operand of a node
  abbrev Printed : ℕ → List ℕ → Type 0
  Printed p = InParens (has_two (at p)) (IsPrinted s (at p))

  abbrev Reads : ℕ → List Node → ℕ → Type 0
  Reads k ns p = (x : List ℕ) → Printed p x → OperandRead s k x ns

  reads_of : (k : ℕ) (ns : List Node) → ((inner : List ℕ) → IsPrinted s (at (top k ns)) inner → Parsed s k (has_two (at (top k ns))) inner ns)
      → Reads k ns (top k ns)
  reads_of k ns f x h = in_parens_read s k (has_two (at (top k ns))) (IsPrinted s (at (top k ns))) x ns f h

  -- an operator with a bound before its operand
  timed_read : (of : Timed) → is_beside of ≡ false → (k : ℕ) (ns : List Node) (a : ℕ) (b : Option ℕ) (x y : Bool) (Bound : List ℕ → Type 0)
      → ((bd : List ℕ) → Bound bd → BoundRead s of a b x y bd) → (text : List ℕ) → Reads k ns (top k ns)
      → Before (WithBound (timed_word of) Bound) (Printed (top k ns)) text → Parsed s k false text (ns ++ timed_node of a b x y 0 (top k ns) ∷ [])
  timed_read of side k ns a b x y Bound read text f (w, z, (bd, g, gw), h, e) =
      let (ts, c, d, sh) = f z h in
      let (us, q, v, few) = read bd g in
      let t : Token = word (timed_word of) in (
        t ∷ (us ++ ts),
        rw (e, gw) (before_read (timed_word of ++ bd) z (t ∷ us) ts (q (timed_word of) (t ∷ []) (word_lexed (timed_word of) (timed_plain of))) c),
        prefixed of side v d,
        neat_word s (timed_word of) (us ++ ts) (neat_bound s ts v few sh),
      )

  one_read : (k i : ℕ) (ns : List Node) (n : Node) (text : List ℕ) → children n ≡ top k ns ∷ [] → IsFit n → Reads k ns (top k ns)
      → IsPrinted s (tree_of at i n) text
      → Parsed s k (has_two (tree_of at i n)) text (ns ++ n ∷ [])
  one_read k i ns (Not p) text e f r h = let g : p ≡ top k ns = cc in rw g (by_text (rw g at h))
    where
      by_text : Before (Bare (codes "not")) (Printed (top k ns)) text → Parsed s k false text (ns ++ Not (top k ns) ∷ [])
      by_text (w, x, g, h, e) =
          let (ts, y, d, sh) = r x h in (
            word (codes "not") ∷ ts,
            rw (e, g) (before_read (codes "not") x (word (codes "not") ∷ []) ts (word_lexed (codes "not") refl) y),
            negated d,
            neat_word s (codes "not") ts sh,
          )
  one_read k i ns (Eventually p a b x y) text e f r h =
      let l : IsOf TEventually a (Some b) x y = record { order = f.bounds; reach = f.reach; infinite = tt; low = refl; high = refl } in
      let g : p ≡ top k ns = cc in
      rw g (timed_read TEventually refl k ns a (Some b) x y _ (λ bd h. bound_read s TEventually a (Some b) x y bd l (inr refl) h) text r (rw g at h))
  one_read k i ns (Always p a b x y) text e f r h =
      let l : IsOf TAlways a (Some b) x y = record { order = f.bounds; reach = f.reach; infinite = tt; low = refl; high = refl } in
      let g : p ≡ top k ns = cc in
      rw g (timed_read TAlways refl k ns a (Some b) x y _ (λ bd h. bound_read s TAlways a (Some b) x y bd l (inr refl) h) text r (rw g at h))
  one_read k i ns (Once p a b x y) text e f r h =
      let l : IsOf TOnce a b x y = record { order = f.bounds.0; reach = f.reach; infinite = f.bounds.1; low = refl; high = refl } in
      let g : p ≡ top k ns = cc in
      rw g (timed_read TOnce refl k ns a b x y _ (λ bd h. past_read s TOnce a b x y bd l refl h) text r (rw g at h))
  one_read k i ns (Historically p a b x y) text e f r h =
      let l : IsOf THistorically a b x y = record { order = f.bounds.0; reach = f.reach; infinite = f.bounds.1; low = refl; high = refl } in
      let g : p ≡ top k ns = cc in
      rw g (timed_read THistorically refl k ns a b x y _ (λ bd h. past_read s THistorically a b x y bd l refl h) text r (rw g at h))
  one_read k i ns _ text e f r h = absurd (cc)

  -- a connective between its operands
  connective_read : (o : Connective) (k : ℕ) (ns ms : List Node) (text : List ℕ) → Reads k ns (top k ns)
      → Reads (k + length ns) ms (top (k + length ns) ms)
      → Between (Printed (top k ns)) (Bare (connective_word o)) (Printed (top (k + length ns) ms)) text
      → Parsed s k true text (ns ++ ms ++ connective_node o (top k ns) (top (k + length ns) ms) ∷ [])
  connective_read o k ns ms text f g (x, w, y, h, i, j, e) =
      let (ts, a, d, sh) = f x h in
      let (us, b, c, sh2) = g y j in
      let t : Token = word (connective_word o) in (
        ts ++ t ∷ us,
        rw (e, i) (between_read x (connective_word o) y ts (t ∷ []) us a (word_lexed (connective_word o) (connective_plain o)) b),
        joined o (one_binds o) (alone d) (alone c),
        neat_joined s ts (t ∷ us) (operand_ends d) refl refl sh (neat_word s (connective_word o) us sh2),
      )

  -- and an operator with a bound
  beside_read : (of : Timed) → is_beside of ≡ true → (k : ℕ) (ns ms : List Node) (a : ℕ) (b : Option ℕ) (Bound : List ℕ → Type 0)
      → ((bd : List ℕ) → Bound bd → BoundRead s of a b true true bd) → (text : List ℕ) → Reads k ns (top k ns)
      → Reads (k + length ns) ms (top (k + length ns) ms)
      → Between (Printed (top k ns)) (WithBound (timed_word of) Bound) (Printed (top (k + length ns) ms)) text
      → Parsed s k true text (ns ++ ms ++ timed_node of a b true true (top k ns) (top (k + length ns) ms) ∷ [])
  beside_read of side k ns ms l r Bound read text f g (x, w, y, h, (bd, i, iw), j, e) =
      let (ts, a, d, sh) = f x h in
      let (us, b, c, sh2) = g y j in
      let (vs, q, v, few) = read bd i in
      let t : Token = word (timed_word of) in (
        ts ++ t ∷ (vs ++ us),
        rw (e, iw) (between_read x (timed_word of ++ bd) y ts (t ∷ vs) us a (q (timed_word of) (t ∷ []) (word_lexed (timed_word of) (timed_plain of))) b),
        beside of side (omega arith) d v c,
        neat_joined s ts (t ∷ (vs ++ us)) (operand_ends d) refl refl sh (neat_word s (timed_word of) (vs ++ us) (neat_bound s us v few sh2)),
      )

  two_read : (k i : ℕ) (ns ms : List Node) (n : Node) (text : List ℕ) → children n ≡ top k ns ∷ top (k + length ns) ms ∷ [] → IsFit n → Reads k ns (top k ns)
      → Reads (k + length ns) ms (top (k + length ns) ms) → IsPrinted s (tree_of at i n) text → Parsed s k (has_two (tree_of at i n)) text (ns ++ ms ++ n ∷ [])
  two_read k i ns ms (And p q) text e f r t h =
      let g : p ≡ top k ns = cc in let j : q ≡ top (k + length ns) ms = cc in rw (g, j) (connective_read by_and k ns ms text r t (rw (g, j) at h))
  two_read k i ns ms (Or p q) text e f r t h =
      let g : p ≡ top k ns = cc in let j : q ≡ top (k + length ns) ms = cc in rw (g, j) (connective_read by_or k ns ms text r t (rw (g, j) at h))
  two_read k i ns ms (Implies p q) text e f r t h =
      let g : p ≡ top k ns = cc in let j : q ≡ top (k + length ns) ms = cc in rw (g, j) (connective_read by_implies k ns ms text r t (rw (g, j) at h))
  two_read k i ns ms (Until p q a b) text e f r t h =
      let l : IsOf TUntil a (Some b) true true = record { order = f.bounds; reach = f.reach; infinite = tt; low = refl; high = refl } in
      let g : p ≡ top k ns = cc in let j : q ≡ top (k + length ns) ms = cc in
      rw (g, j) (beside_read TUntil refl k ns ms a (Some b) _ (λ bd h. bound_read s TUntil a (Some b) true true bd l (inr refl) h) text r t (rw (g, j) at h))
  two_read k i ns ms (Since p q a b) text e f r t h =
      let l : IsOf TSince a b true true = record { order = f.bounds; reach = f.reach; infinite = closed b; low = refl; high = refl } in
      let g : p ≡ top k ns = cc in let j : q ≡ top (k + length ns) ms = cc in
      rw (g, j) (beside_read TSince refl k ns ms a b _ (λ bd h. past_read s TSince a b true true bd l refl h) text r t (rw (g, j) at h))
    where
      closed : (b : Option ℕ) → IsInWhereInfinite b true
      closed None = refl
      closed (Some b) = tt
  two_read k i ns ms _ text e f r t h = absurd (cc)

module _ (s : Scale) (all : List Node) (order : IsPostOrder all) where
  node_is : (i : ℕ) (n : Node) → slice_get all i ≡ Some n → subformula all i ≡ tree_of (subformula all) i n
  node_is i n e = subformula-at all i n e (placed all i n order e)

  last_is : (pre ns post : List Node) (k : ℕ) (n : Node) → all ≡ pre ++ (ns ++ n ∷ []) ++ post → length pre ≡ k
      → subformula all (top k (ns ++ n ∷ [])) ≡ tree_of (subformula all) (top k (ns ++ n ∷ [])) n
  last_is pre ns post k n e l =
      let a : all ≡ pre ++ ns ++ n ∷ post = e ∙ simp append_assoc in
      let i : top k (ns ++ n ∷ []) ≡ length (pre ++ ns) = omega (arith, l, length-append pre ns, length-append ns (n ∷ [])) in
      let f : slice_get all (length (pre ++ ns)) ≡ Some n = ap (λ z. slice_get z (length (pre ++ ns))) a ∙ slice_get-append_here (pre ++ ns) n post in
      node_is (top k (ns ++ n ∷ [])) n (ap (λ z. slice_get all z) i ∙ f)

  tree_read : {k : ℕ} {ns : List Node} → IsTreeFrom k ns → (pre post : List Node) → all ≡ pre ++ ns ++ post → length pre ≡ k → All IsFit ns → (text : List ℕ)
      → IsPrinted s (subformula all (top k ns)) text → Parsed s k (has_two (subformula all (top k ns))) text ns
  tree_read {k} (leaf n e) pre post a l f text h =
      let b = last_is pre [] post k n a l in
      let x = leaf_read s (subformula all) k (top k (n ∷ [])) n text e (All-head IsFit n [] f) (rw b at h) in rw b x
  tree_read {k} (one {ns = ns} n t e) pre post a l f text h =
      let b = last_is pre ns post k n a l in
      let r = λ (inner : List ℕ) (i : IsPrinted s (subformula all (top k ns)) inner).
      tree_read t pre (n ∷ post) (a ∙ simp append_assoc) l (all_left IsFit ns (n ∷ []) f) inner i in
      let x = one_read s (subformula all) k (top k (ns ++ n ∷ [])) ns n text e (all_last IsFit ns n f) (reads_of s (subformula all) k ns r) (rw b at h) in
      rw b x
  tree_read {k} (two {ns = ns} {ms} n t u e) pre post a l f text h =
      let b = last_is pre (ns ++ ms) post k n a l in
      let g = all_left IsFit (ns ++ ms) (n ∷ []) f in
      let r = λ (inner : List ℕ) (i : IsPrinted s (subformula all (top k ns)) inner).
      tree_read t pre (ms ++ n ∷ post) (a ∙ simp append_assoc) l (all_left IsFit ns ms g) inner i in
      let q = λ (inner : List ℕ) (i : IsPrinted s (subformula all (top (k + length ns) ms)) inner).
      tree_read u (pre ++ ns) (n ∷ post) (a ∙ simp append_assoc) (omega (arith, l, length-append pre ns)) (all_right IsFit ns ms g) inner i in
      let x = two_read s (subformula all) k (top k (ns ++ ms ++ n ∷ [])) ns ms n text e (all_last IsFit (ns ++ ms) n f)
      (reads_of s (subformula all) k ns r) (reads_of s (subformula all) (k + length ns) ms q) (rw b at h) in rw b x

-- a node's own reach is at most the sum
pub each_reach : (nodes : List Node) → reach nodes ≤ 4294967295 → All (λ n. own_reach n ≤ 4294967295) nodes
each_reach [] h = All-nil (λ n. own_reach n ≤ 4294967295)
each_reach (n ∷ nodes) h =
    let e : reach (n ∷ nodes) ≡ own_reach n + reach nodes = sum_by-cons own_reach n nodes in
    All-cons (λ n. own_reach n ≤ 4294967295) n nodes (omega (arith, e)) (each_reach nodes (omega (arith, e)))

-- within limits is fit, node by node
pub all_fit : (nodes : List Node) → All IsLeafInLimits nodes → All HasBounds nodes → All (λ n. own_reach n ≤ 4294967295) nodes → All IsFit nodes
all_fit [] a b c = All-nil IsFit
all_fit (n ∷ nodes) a b c =
    All-cons IsFit n nodes (record {
      atom = All-head IsLeafInLimits n nodes a;
      bounds = All-head HasBounds n nodes b;
      reach = All-head (λ n. own_reach n ≤ 4294967295) n nodes c;
    })
    (all_fit nodes (All-tail IsLeafInLimits n nodes a) (All-tail HasBounds n nodes b) (All-tail (λ n. own_reach n ≤ 4294967295) n nodes c))

-- the printed text of a formula has tokens that are its nodes
pub printed_read : (f : Formula) (text : List ℕ) → IsWellFormed f → IsPrintedFormula f text
    → (ts : List Token) × Lexes text ts × IsFormula f.scale 0 ts f.nodes × IsNeat f.scale ts
printed_read f text w h =
    let t = one_tree f.nodes w.nodes.post_order w.root in
    let fit = all_fit f.nodes w.nodes.atoms w.nodes.bounds (each_reach f.nodes w.nodes.reach) in
    let i : length f.nodes - 1 ≡ top 0 f.nodes = omega arith in
    let x = tree_read f.scale f.nodes w.nodes.post_order t [] [] (sym (append-nil f.nodes)) refl fit text (rw (ap (λ z. subformula f.nodes z) i) at h) in
    let (ts, y, d, sh) = parsed_formula f.scale 0 (has_two (subformula f.nodes (top 0 f.nodes))) text f.nodes x in
    (ts, lexed_whole text ts y, d, sh)
