-- Nothing in the text of the judged formula is refused.
use Rattle.std.proofs.Common.{◌≡◌, ◌⊎◌, inl, inr, ℕ, ◌+◌, ◌*◌, ◌<◌, ◌≤◌, Bool, true, false, List, [], ◌∷◌}
use Rattle.std.proofs.Common.{◌++◌, length, refl, sym, ap, ◌∙◌, subst, arith, append-nil, lit≤, Some}
use Rattle.std.specs.Prelude.{codes, decimal, ◌==◌, if◌then◌else◌, IsTrue, bytes_eq}
use Rattle.std.specs.Fmt.{digits}
use Rattle.std.proofs.lemmas.Bool.{false≢true, or_cases}
use Rattle.std.proofs.lemmas.List.Elements.{All-nil, All-cons}
use Rattle.std.proofs.lemmas.Slice.Eq.{bytes_eq-Decides}
use Rattle.stl_syntax.specs.Characters.{is_among, decimal_value, without_zeros}
use Rattle.stl_syntax.specs.Limits.{IsTooLarge}
use Rattle.stl_syntax.specs.Names.{is_name}
use Rattle.stl_syntax.specs.Formula as formula
use Rattle.stl_syntax.specs.Formula.{Formula, root}
use Rattle.stl_syntax.specs.PostOrder.{IsTreeFrom, leaf, one, two}
use Rattle.stl_syntax.specs.Print.{IsDecimalText, IsAtomText, IsBoundText, IsPrintedFormula, relation_text}
use Rattle.stl_syntax.specs.WellFormed.{IsWellFormed, IsAtomInLimits, IsTermInLimits, IsLeafInLimits, HasBounds}
use Rattle.stl_syntax.specs.declared.rel.Rel.{Rel}
use Rattle.stl_syntax.specs.declared.rel.Rel.TheVariants.{AtLeast, Below}
use Rattle.stl_syntax.specs.declared.node.Node.TheVariants.{Atom as Leaf, Not, And, Implies, Eventually, Always, Since}
use Rattle.stl_syntax.proofs.TreeOrder.{tree_order, tree_root}
use Rattle.stl_grammar.specs.Tokens.{Token, word, number, IsToken, a_word, an_integer, a_decimal}
use Rattle.stl_grammar.specs.Tokens.{paren_end}
use Rattle.stl_grammar.specs.FormulaRefusals.{Pending, a_paren, an_operator, an_implies, after_operand, after_paren}
use Rattle.stl_grammar.specs.FormulaRefusals.{constants, prefixes, pending_after, pending, ends_constant, RefusedAt}
use Rattle.stl_grammar.specs.FormulaRefusals.{TokenFault, blank, bad_byte, here, later, at_end, IsFormulaFault}
use Rattle.stl_grammar.specs.Laws.{IsTooLongOrDeep}
use Rattle.stl_grammar.specs.declared.fault.FormulaFault.{FormulaFault}
use Rattle.stl_grammar.specs.declared.fault.FormulaFault.TheVariants.{ReachTooLarge, ConstantTooLarge, Memory}
use Rattle.stl_grammar.proofs.ReadScale.{read_scales_are_least}
use Rattle.stl_grammar.proofs.PrintedLaw.{printed_texts_are_formulas}
use Rattle.workload.specs.Generated.{ticks}
use Rattle.workload.specs.Judged.{judged, compared, ahead_nodes, behind_nodes, judged_formula}
use Rattle.workload.proofs.JudgedFormula.{judged_text}
use Rattle.workload.proofs.EachOfList.{all_of}

-- ---- what is pending weighs no more than the bytes before it

-- a parenthesis weighs 3, since it may leave something pending by itself, and each other byte 1
byte_weight : ℕ → ℕ
byte_weight c = if c == 40 then 3 else 1

weight : List ℕ → ℕ
weight [] = 0
weight (c ∷ text) = byte_weight c + weight text

some_weight : (c : ℕ) → 1 ≤ byte_weight c
unfolding byte_weight
some_weight c = elim (c == 40) as (λ b. 1 ≤ (if b then 3 else 1)) [ true ↦ omega arith | false ↦ omega arith ]

weight_join : (x y : List ℕ) → weight (x ++ y) ≡ weight x + weight y
unfolding weight
weight_join [] y = omega arith
weight_join (c ∷ x) y = let h = weight_join x y in omega (arith, h)

-- bytes weigh at least as much as there are of them
heavy : (x : List ℕ) → length x ≤ weight x
unfolding weight
heavy [] = omega arith
heavy (c ∷ x) = let h = heavy x in let s = some_weight c in omega (arith, h, s)

shorter : (ps : List Pending) → length (after_operand ps) ≤ length ps
shorter (an_operator ∷ ps) = let h = shorter ps in omega (arith, h)
shorter _ = omega arith

closed_shorter : (ps : List Pending) → length (after_paren ps) ≤ length ps
closed_shorter [] = omega arith
closed_shorter (a_paren ∷ ps) = let h = shorter ps in omega (arith, h)
closed_shorter (an_operator ∷ ps) = let h = closed_shorter ps in omega (arith, h)
closed_shorter (an_implies ∷ ps) = let h = closed_shorter ps in omega (arith, h)

-- words of three bytes or more
abbrev AreLong : List (List ℕ) → Type 0
AreLong [] = Unit {0}
AreLong (p ∷ words) = (3 ≤ length p) × AreLong words

-- a word among long ones is long
among_long : (words : List (List ℕ)) (w : List ℕ) → AreLong words → is_among w words ≡ true → 3 ≤ length w
among_long [] w all h = absurd (false≢true h)
among_long (p ∷ words) w (here_long, all) h = by_case (among_long words w all) (or_cases (bytes_eq w p) (is_among w words) h)
  where
    by_case : (is_among w words ≡ true → 3 ≤ length w) → (bytes_eq w p ≡ true) ⊎ (is_among w words ≡ true) → 3 ≤ length w
    by_case later_long (inl e) = subst (λ (k : List ℕ). 3 ≤ length k) (sym ((bytes_eq-Decides w p).0 e)) here_long
    by_case later_long (inr e) = later_long e

long_prefixes : AreLong prefixes
long_prefixes = (omega arith, (omega arith, (omega arith, (omega arith, (omega arith, tt)))))

long_implies : AreLong (codes "implies" ∷ [])
long_implies = (omega arith, tt)

-- a word leaves one more pending at most, and then has at least three bytes
word_grown : (constant : Bool) (w : List ℕ) (ps : List Pending) → 3 * length (pending_after constant (word w) ps) ≤ 3 * length ps + length w
word_grown constant w ps = by_tests (is_among w constants) (is_among w prefixes) (is_among w (codes "implies" ∷ [])) refl refl
  where
    by_tests : (a b c : Bool) → is_among w prefixes ≡ b → is_among w (codes "implies" ∷ []) ≡ c
        → 3 * length (if a then after_operand ps else if b then an_operator ∷ ps else if c then an_implies ∷ ps else ps) ≤ 3 * length ps + length w
    by_tests true b c e f = let h = shorter ps in omega (arith, h)
    by_tests false true c e f = let h = among_long prefixes w long_prefixes e in omega (arith, h)
    by_tests false false true e f = let h = among_long (codes "implies" ∷ []) w long_implies f in omega (arith, h)
    by_tests false false false e f = omega arith

number_grown : (constant : Bool) (n k : ℕ) (ps : List Pending) → length (pending_after constant (number n k) ps) ≤ length ps
number_grown true n k ps = shorter ps
number_grown false n k ps = omega arith

-- a token adds no more to what is pending than it weighs, three for one
grown : (constant : Bool) {bytes text : List ℕ} {t : Token} (ps : List Pending) → IsToken bytes text t
    → 3 * length (pending_after constant t ps) ≤ 3 * length ps + weight bytes
unfolding weight byte_weight
grown constant ps (a_word {c = c} {rest = rest} begins goes stops) =
    let h = word_grown constant (c ∷ rest) ps in let k = heavy (c ∷ rest) in omega (arith, h, k)
grown constant ps (an_integer {c = c} {digits = digits} all stops ends) =
    let h = number_grown constant (decimal_value 0 (c ∷ digits ++ [])) 0 ps in omega (arith, h)
grown constant ps (a_decimal c digits d decimals ds es stops) =
    let h = number_grown constant (decimal_value 0 ((c ∷ digits) ++ without_zeros (d ∷ decimals))) (length (without_zeros (d ∷ decimals))) ps in
    omega (arith, h)
grown constant ps paren_end = let h = closed_shorter ps in omega (arith, h)
grown constant ps _ = omega arith

-- ---- a text that is too deep weighs much

-- the refusals of a token, by whether they are for the depth or the length
deep_at : (before : List Token) (t : Token) (text : List ℕ) (p : ℕ) (r : FormulaFault) → IsTooLongOrDeep r → RefusedAt before t text p r
    → 64 < length (pending (t ∷ before))
deep_at before t text p r (inl (n, k)) (inl (h, e)) = absurd cc
deep_at before t text p r (inr (n, k)) (inl (h, e)) = absurd cc
deep_at before t text p r (inl (n, k)) (inr (_, inl (h, e))) = absurd cc
deep_at before t text p r (inr (n, k)) (inr (_, inl (h, e))) = absurd cc
deep_at before t text p r k (inr (_, inr (_, inl (h, e)))) = h
deep_at before t text p r (inl (n, k)) (inr (_, inr (_, inr (_, inl (h, e))))) = absurd cc
deep_at before t text p r (inr (n, k)) (inr (_, inr (_, inr (_, inl (h, e))))) = absurd cc
deep_at before t text p r (inl (n, k)) (inr (_, inr (_, inr (_, inr (_, inl (h, e)))))) = absurd cc
deep_at before t text p r (inr (n, k)) (inr (_, inr (_, inr (_, inr (_, inl (h, e)))))) = absurd cc
deep_at before t text p r (inl (n, k)) (inr (_, inr (_, inr (_, inr (_, inr (_, inl (h, e))))))) = absurd cc
deep_at before t text p r (inr (n, k)) (inr (_, inr (_, inr (_, inr (_, inr (_, inl (h, e))))))) = absurd cc
deep_at before t text p r (inl (n, k)) (inr (_, inr (_, inr (_, inr (_, inr (_, inr (_, (h, e)))))))) = absurd cc
deep_at before t text p r (inr (n, k)) (inr (_, inr (_, inr (_, inr (_, inr (_, inr (_, (h, e)))))))) = absurd cc

-- a refusal of the tokens for the depth, or the length, comes only in a heavy text
deep : {before : List Token} {p : ℕ} {text : List ℕ} {r : FormulaFault} → IsTooLongOrDeep r → TokenFault before p text r
    → 192 < 3 * length (pending before) + weight text
unfolding weight
deep k (blank {c = c} is f) = let h = deep k f in let s = some_weight c in omega (arith, h, s)
deep (inl (n, k)) (bad_byte is none) = absurd cc
deep (inr (n, k)) (bad_byte is none) = absurd cc
deep {before} {p} {text = whole} {r} k (here t bytes text parts is refused) =
    let h = deep_at before t text p r k refused in
    let g = grown (ends_constant (t ∷ before)) (pending before) is in
    let w = ap weight parts ∙ weight_join bytes text in
    omega (arith, h, g, w)
deep {before} {p} {text = whole} {r} k (later t bytes text parts is clean f) =
    let h = deep k f in
    let g = grown (ends_constant (t ∷ before)) (pending before) is in
    let w = ap weight parts ∙ weight_join bytes text in
    omega (arith, h, g, w)
deep (inl (n, k)) (at_end none) = absurd cc
deep (inr (n, k)) (at_end none) = absurd cc

-- ---- the judged formula is well-formed, and its text is printed

ahead_tree : IsTreeFrom 0 (ahead_nodes ++ Always 3 0 8 true true ∷ [])
ahead_tree =
    one {ns = ahead_nodes} (Always 3 0 8 true true)
    (two {ns = Leaf (compared (codes "x") Below 0) ∷ []} {ms = Leaf (compared (codes "s") AtLeast 0) ∷ Eventually 1 0 8 true true ∷ []} (Implies 0 2)
    (leaf (Leaf (compared (codes "x") Below 0)) refl)
    (one {ns = Leaf (compared (codes "s") AtLeast 0) ∷ []} (Eventually 1 0 8 true true) (leaf (Leaf (compared (codes "s") AtLeast 0)) refl) refl) refl) refl

behind_tree : IsTreeFrom 5 (behind_nodes ++ Not 7 ∷ [])
behind_tree =
    one {ns = behind_nodes} (Not 7)
    (two {ns = Leaf (compared (codes "s") Below 0) ∷ []} {ms = Leaf (compared (codes "x") AtLeast 500000) ∷ []} (Since 5 6 4 (Some 12))
    (leaf (Leaf (compared (codes "s") Below 0)) refl) (leaf (Leaf (compared (codes "x") AtLeast 500000)) refl) refl) refl

tree : IsTreeFrom 0 judged_formula.nodes
tree = two {ns = ahead_nodes ++ Always 3 0 8 true true ∷ []} {ms = behind_nodes ++ Not 7 ∷ []} (And 4 8) ahead_tree behind_tree refl

within : (name : List ℕ) (rel : Rel) (n : ℕ) → IsTrue (is_name name) → n ≤ 1073741824 → IsAtomInLimits (compared name rel n)
within name rel n is small = record {
  some = omega arith;
  few = omega arith;
  terms = All-cons IsTermInLimits _ [] (record { coef = omega arith; name = is }) (All-nil IsTermInLimits);
  limit = small;
}

well_formed : IsWellFormed judged_formula
well_formed = record {
  some = omega arith;
  nodes = record {
    few = omega arith;
    post_order = tree_order tree;
    atoms =
        all_of IsLeafInLimits judged_formula.nodes (
          within (codes "x") Below 0 refl (lit≤ tt),
          (
            within (codes "s") AtLeast 0 refl (lit≤ tt),
            (
              tt,
              (
                tt,
                (
                  tt,
                  (within (codes "s") Below 0 refl (lit≤ tt), (within (codes "x") AtLeast 500000 refl (lit≤ tt), (tt, (tt, (tt, tt))))),
                ),
              ),
            ),
          ),
        );
    bounds = all_of HasBounds judged_formula.nodes (tt, (tt, (lit≤ tt, (tt, (lit≤ tt, (tt, (tt, (lit≤ tt, (tt, (tt, tt))))))))));
    reach = lit≤ tt;
  };
  root = tree_root tree;
  scale = record { time = lit≤ tt; value = lit≤ tt };
}

whole_text : (n : ℕ) → decimal n ++ [] ≡ decimal n → IsDecimalText 0 n (decimal n)
whole_text n e = record { whole = n; decimals = []; are_digits = refl; fewest = refl; same = omega arith; is = sym e }

atom_text : (name : List ℕ) (rel : Rel) (n : ℕ)
    → IsAtomText ticks (compared name rel n) ((name ++ []) ++ codes " " ++ relation_text rel ++ codes " " ++ decimal n)
atom_text name rel n = (decimal n, whole_text n (append-nil (decimal n)), refl)

bound_text : (a b : ℕ) → IsBoundText ticks a (Some b) true true (codes "[" ++ decimal a ++ codes "," ++ decimal b ++ codes "]")
bound_text a b = (decimal a, decimal b, whole_text a (append-nil (decimal a)), whole_text b (append-nil (decimal b)), refl)

printed : IsPrintedFormula judged_formula judged
unfolding formula.subformula digits
printed = (
  codes "always[0,8] (x < 0 implies eventually[0,8] s >= 0)",
  codes "and",
  codes "not (s < 0 since[4,12] x >= 500000)",
  (
    _,
    (
      codes "always[0,8]",
      codes "(x < 0 implies eventually[0,8] s >= 0)",
      (_, bound_text 0 8, refl),
      (
        codes "x < 0 implies eventually[0,8] s >= 0",
        (
          codes "x < 0",
          codes "implies",
          codes "eventually[0,8] s >= 0",
          (_, atom_text (codes "x") Below 0, refl),
          refl,
          (_, (codes "eventually[0,8]", codes "s >= 0", (_, bound_text 0 8, refl), (_, atom_text (codes "s") AtLeast 0, refl), refl), refl),
          refl,
        ),
        refl,
      ),
      refl,
    ),
    refl,
  ),
  refl,
  (
    _,
    (
      codes "not",
      codes "(s < 0 since[4,12] x >= 500000)",
      refl,
      (
        codes "s < 0 since[4,12] x >= 500000",
        (
          codes "s < 0",
          codes "since[4,12]",
          codes "x >= 500000",
          (_, atom_text (codes "s") Below 0, refl),
          (_, bound_text 4 12, refl),
          (_, atom_text (codes "x") AtLeast 500000, refl),
          refl,
        ),
        refl,
      ),
      refl,
    ),
    refl,
  ),
  refl,
)

-- nothing in the text is refused
light : weight judged ≡ 94
unfolding weight byte_weight
light = refl

not_deep : (r : FormulaFault) → IsTooLongOrDeep r → ¬ IsFormulaFault judged r
not_deep r k (inl (h, e)) = omega (arith, h)
not_deep r (inl (n, k)) (inr (_, inl (h, e))) = cc
not_deep r (inr (n, k)) (inr (_, inl (h, e))) = cc
not_deep r k (inr (_, inr (_, inl fault))) = let h = deep k fault in let w = light in omega (arith, h, w)
not_deep r k (inr (_, inr (_, inr (_, (f, read, late))))) = not_late f r k late
  where
    not_late : (f : Formula) (r : FormulaFault) → IsTooLongOrDeep r → ¬ IsTooLarge ConstantTooLarge ReachTooLarge f.nodes r
    not_late f r (inl (n, k)) (inl (i, first, e)) = cc
    not_late f r (inr (n, k)) (inl (i, first, e)) = cc
    not_late f r (inl (n, k)) (inr (_, (large, e))) = cc
    not_late f r (inr (n, k)) (inr (_, (large, e))) = cc

-- the text of the judged formula has no first fault
pub no_refusal : (r : FormulaFault) → ¬ IsFormulaFault judged r
no_refusal r fault =
    not_deep r (printed_texts_are_formulas judged_formula judged r well_formed (read_scales_are_least judged_formula judged judged_text) printed fault) fault

-- so a refusal of it is want of memory
pub memory_alone : (r : FormulaFault) → (r ≡ Memory) ⊎ IsFormulaFault judged r → r ≡ Memory
memory_alone r (inl e) = e
memory_alone r (inr fault) = absurd (no_refusal r fault)
