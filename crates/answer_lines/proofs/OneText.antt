-- Numbers, verdicts and knots of one value have one text.
use Rattle.std.proofs.Common.{◌≡◌, ℕ, ◌+◌, ◌*◌, ◌^◌, ◌<◌, ◌≤◌, suc, true, false, List, [], ◌∷◌, ◌++◌}
use Rattle.std.proofs.Common.{codes, sym, ap, ◌∙◌, subst, arith, ℤ, pos, negsuc, if◌then◌else◌}
use Rattle.std.specs.Prelude.{◌*ℤ◌}
use Rattle.std.proofs.Math.Nat.{le_of_mul-le-mul_left, one-le-pow}
use Rattle.rational.specs.Time.{Rational, ◌≈◌, ratio, IsLowest, BeginAlike, EndAlike}
use Rattle.rational.specs.Extended.{Extended, minus_infinity, finite, infinity, ◌≈ᵉ◌}
use Rattle.rational.proofs.Order.{same_sym, same_trans, same_refl, same_of_le}
use Rattle.rational.proofs.Lowest.{denominator_unique}
use Rattle.frac128.specs.Spans.{interval}
use Rattle.frac128.specs.declared.span.Span.{Span}
use Rattle.stl_syntax.specs.Trace.{Trace}
use Rattle.stl_syntax.specs.Formula.{Subformula}
use Rattle.stl_syntax.specs.Knots.{Knot, Piece, Knots}
use Rattle.stl_syntax.specs.Verdicts.{AreAlike, KnotsAlike, PiecesAlike}
use Rattle.stl_syntax.specs.Texts.{fraction_text, IsNumberText, IsValueText, bool_text, IsSpanText, newline}
use Rattle.stl_syntax.specs.Texts.{AreVerdictLines, IsStartLine, IsKnotLine, IsPieceLine, ArePieceLines, AreMarginLines}
use Rattle.stl_syntax.specs.declared.scale.Scale.{Scale}
use Rattle.stl_syntax.specs.declared.items.Verdict.{Verdict}
use Rattle.answer_lines.proofs.Stretch.{stretch, same_back, ratio_of}

-- ---- numbers

same_size : (n m d : ℕ) → 0 < d → n * d ≡ m * d → n ≡ m
same_size n m d p e =
    let up : d * n ≤ d * m = omega (arith, e) in
    let down : d * m ≤ d * n = omega (arith, e) in
    let a = le_of_mul-le-mul_left up p in
    let b = le_of_mul-le-mul_left down p in
    omega arith

tops_once : (n m : ℤ) (d : ℕ) (p q : 0 < d) → ratio n d p ≈ ratio m d q → n ≡ m
tops_once (pos n) (pos m) d p q h = ap pos (same_size n m d p (omega (arith, h.same)))
tops_once (pos n) (negsuc m) d p q h = let e = same_size (n + suc m) 0 d p (omega (arith, h.same)) in absurd (omega arith)
tops_once (negsuc n) (pos m) d p q h = let e = same_size 0 (m + suc n) d p (omega (arith, h.same)) in absurd (omega arith)
tops_once (negsuc n) (negsuc m) d p q h = let e = same_size (suc n) (suc m) d p (omega (arith, h.same)) in ap negsuc (omega arith)

-- two fractions in lowest terms of one value are one
lowest_once : (n m : ℤ) (d e : ℕ) (low : IsLowest n d) (other : IsLowest m e) → ratio n d low.positive ≈ ratio m e other.positive → (n ≡ m) × (d ≡ e)
lowest_once n m d e low other h =
    let den : d ≡ e = denominator_unique d e h (n, low, same_refl _) (m, other, same_refl _) in (
      subst (λ x. (q : 0 < x) → ratio n d low.positive ≈ ratio m x q → n ≡ m) den (λ q k. tops_once n m d low.positive q k) other.positive h,
      den,
    )

-- a number of ticks has one text
pub number_once : (digits : ℕ) {t u : Rational} {x y : List ℕ} → t ≈ u → IsNumberText digits t x → IsNumberText digits u y → x ≡ y
number_once digits {t} {u} {x} {y} e a b =
    let K = 10 ^ digits in
    let as_ticks : ratio (a.num *ℤ pos K) a.den a.lowest.positive ≈ ratio (b.num *ℤ pos K) b.den b.lowest.positive =
    same_trans (same_sym a.same) (same_trans e b.same) in
    let stretched : stretch K (ratio a.num a.den a.lowest.positive) ≈ stretch K (ratio b.num b.den b.lowest.positive) =
    same_trans (same_sym (ratio_of a.num a.den a.lowest.positive K)) (same_trans as_ticks (ratio_of b.num b.den b.lowest.positive K)) in
    let (n, d) = lowest_once a.num b.num a.den b.den a.lowest b.lowest (same_back K (let some = one-le-pow digits 10 (omega arith) in omega arith) stretched) in
    a.is ∙ ap (λ z. fraction_text z a.den) n ∙ ap (fraction_text b.num) d ∙ sym b.is

finite_back : (v w : Rational) → finite v ≈ᵉ finite w → v ≈ w
finite_back v w e = same_of_le e.at_most e.at_least

-- an extended value has one
pub value_once : (digits : ℕ) (v w : Extended) {x y : List ℕ} → v ≈ᵉ w → IsValueText digits v x → IsValueText digits w y → x ≡ y
value_once digits minus_infinity minus_infinity e a b = a ∙ sym b
value_once digits (finite v) minus_infinity e a b = absurd e.at_most
value_once digits (finite v) (finite w) e a b = number_once digits (finite_back v w e) a b
value_once digits infinity minus_infinity e a b = absurd e.at_most
value_once digits infinity (finite w) e a b = absurd e.at_most
value_once digits infinity infinity e a b = a ∙ sym b
value_once digits _ _ e a b = absurd e.at_least

-- ---- verdicts

-- spans with the same ends have one text
pub span_once : (scale : Scale) (a b : Span) {x y : List ℕ} → BeginAlike (interval a) (interval b)
    → EndAlike (interval a) (interval b) → IsSpanText scale a x → IsSpanText scale b y → x ≡ y
span_once scale a b begin end p q =
    let from = number_once scale.time begin.time p.from_is q.from_is in
    let to = number_once scale.time end.time p.to_is q.to_is in
    p.is ∙ ap (λ c. (if c then codes "[" else codes "(") ++ p.from ++ codes "," ++ p.to ++ (if a.to_in then codes "]" else codes ")")) begin.inside
    ∙ ap (λ c. (if b.from_in then codes "[" else codes "(") ++ p.from ++ codes "," ++ p.to ++ (if c then codes "]" else codes ")")) end.inside
    ∙ ap (λ t. (if b.from_in then codes "[" else codes "(") ++ t ++ codes "," ++ p.to ++ (if b.to_in then codes "]" else codes ")")) from
    ∙ ap (λ t. (if b.from_in then codes "[" else codes "(") ++ q.from ++ codes "," ++ t ++ (if b.to_in then codes "]" else codes ")")) to ∙ sym q.is

-- verdicts that are alike have one text
pub verdicts_once : (scale : Scale) (vs ws : List Verdict) (x y : List ℕ) → AreAlike vs ws → AreVerdictLines scale vs x → AreVerdictLines scale ws y → x ≡ y
verdicts_once scale [] [] x y e a b = a ∙ sym b
verdicts_once scale [] (w ∷ ws) x y e a b = absurd e
verdicts_once scale (v ∷ vs) [] x y e a b = absurd e
verdicts_once scale (v ∷ vs) (w ∷ ws) x y (begin, end, holds, e) (here, later, (on, on_is, here_is), rest, is)
    (here', later', (on', on_is', here_is'), rest', is') =
    let spans = span_once scale v.on w.on begin end on_is on_is' in
    let lines : here ≡ here' = here_is ∙ ap (λ t. t ++ codes " " ++ bool_text v.holds ++ newline) spans
    ∙ ap (λ b. on' ++ codes " " ++ bool_text b ++ newline) holds ∙ sym here_is' in
    is ∙ ap (λ t. t ++ later) lines ∙ ap (λ t. here' ++ t) (verdicts_once scale vs ws later later' e rest rest') ∙ sym is'

-- the line of the start is one
pub start_once : (p : Subformula) (tr : Trace) (x y : List ℕ) → IsStartLine p tr x → IsStartLine p tr y → x ≡ y
start_once p tr x y (true, t, a) (true, u, b) = a ∙ sym b
start_once p tr x y (true, t, a) (false, u, b) = absurd (u t)
start_once p tr x y (false, t, a) (true, u, b) = absurd (t u)
start_once p tr x y (false, t, a) (false, u, b) = a ∙ sym b

-- ---- knots

-- knots that are alike have one line
pub knot_once : (scale : Scale) (k l : Knot) {x y : List ℕ} → KnotsAlike k l → IsKnotLine scale k x → IsKnotLine scale l y → x ≡ y
knot_once scale k l e (t, v, t_is, v_is, is) (t', v', t_is', v_is', is') =
    let times = number_once scale.time e.time t_is t_is' in
    let values = value_once scale.value k.value l.value e.value v_is v_is' in
    is ∙ ap (λ s. codes "[" ++ s ++ codes "] " ++ v ++ newline) times ∙ ap (λ s. codes "[" ++ t' ++ codes "] " ++ s ++ newline) values ∙ sym is'

piece_once : (scale : Scale) (k l : Knot) (a b : Piece) {x y : List ℕ} → k.time ≈ l.time → a.from ≈ᵉ b.from → a.to ≈ᵉ b.to → a.next.time ≈ b.next.time
    → IsPieceLine scale k a x → IsPieceLine scale l b y → x ≡ y
piece_once scale k l a b e f g h (s, t, from, to, s_is, t_is, from_is, to_is, is) (s', t', from', to', s_is', t_is', from_is', to_is', is') =
    is ∙ ap (λ z. codes "(" ++ z ++ codes "," ++ t ++ codes ") " ++ from ++ codes " -> " ++ to ++ newline) (number_once scale.time e s_is s_is')
    ∙ ap (λ z. codes "(" ++ s' ++ codes "," ++ z ++ codes ") " ++ from ++ codes " -> " ++ to ++ newline) (number_once scale.time h t_is t_is')
    ∙ ap (λ z. codes "(" ++ s' ++ codes "," ++ t' ++ codes ") " ++ z ++ codes " -> " ++ to ++ newline) (value_once scale.value a.from b.from f from_is from_is')
    ∙ ap (λ z. codes "(" ++ s' ++ codes "," ++ t' ++ codes ") " ++ from' ++ codes " -> " ++ z ++ newline)
    (value_once scale.value a.to b.to g to_is to_is') ∙ sym is'

-- so have the pieces after them
pub pieces_once : (scale : Scale) (k l : Knot) (ps qs : List Piece) (x y : List ℕ) → k.time ≈ l.time → PiecesAlike ps qs
    → ArePieceLines scale k ps x → ArePieceLines scale l qs y → x ≡ y
pieces_once scale k l [] [] x y e h a b = a ∙ sym b
pieces_once scale k l [] (b ∷ qs) x y e h p q = absurd h
pieces_once scale k l (a ∷ ps) [] x y e h p q = absurd h
pieces_once scale k l (a ∷ ps) (b ∷ qs) x y e (f, g, next, h) (piece, knot, later, piece_is, knot_is, rest, is)
    (piece', knot', later', piece_is', knot_is', rest', is') =
    is ∙ ap (λ z. z ++ knot ++ later) (piece_once scale k l a b e f g next.time piece_is piece_is')
    ∙ ap (λ z. piece' ++ z ++ later) (knot_once scale a.next b.next next knot_is knot_is')
    ∙ ap (λ z. piece' ++ knot' ++ z) (pieces_once scale a.next b.next ps qs later later' next.time h rest rest') ∙ sym is'

-- and all the robustness lines
pub margins_once : (scale : Scale) (ks ls : Knots) (x y : List ℕ) → KnotsAlike ks.first ls.first → PiecesAlike ks.pieces ls.pieces
    → AreMarginLines scale ks x → AreMarginLines scale ls y → x ≡ y
margins_once scale ks ls x y e h (first, later, first_is, later_is, is) (first', later', first_is', later_is', is') =
    is ∙ ap (λ z. z ++ later) (knot_once scale ks.first ls.first e first_is first_is')
    ∙ ap (λ z. first' ++ z) (pieces_once scale ks.first ls.first ks.pieces ls.pieces later later' e.time h later_is later_is') ∙ sym is'
