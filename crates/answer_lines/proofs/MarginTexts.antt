-- The lines of margins from their parts.
use Rattle.std.proofs.Common.{◌≡◌, ℕ, suc, zero, List, [], ◌∷◌, ◌++◌, drop, length, codes, append-nil, append_assoc, refl, sym, ap, ◌∙◌, arith, Some, subst}
use Rattle.std.specs.Prelude.{slice_get, Result, OnOk, OnErr}
use Rattle.std.proofs.lemmas.Result.{on_ok_weaker, on_err_weaker}
use Rattle.std.proofs.lemmas.Option.{same_Some}
use Rattle.rational.specs.Time.{Rational}
use Rattle.rational.specs.Rational.{IsWithin}
use Rattle.rational.specs.Extended.{Extended, minus_infinity, finite, infinity, value_at}
use Rattle.rational.specs.Knots as plain
use Rattle.rational.specs.Knots.{Piece}
use Rattle.rational.proofs.Order.{le_trans, same_refl}
use Rattle.rational.proofs.Lists.{drop_on}
use Rattle.value_laws.specs.Members.{ShapeOf}
use Rattle.pl_signal.specs.declared.knot.Knot.{Knot}
use Rattle.pl_signal.specs.Knots.{time, start, stop, IsSignal}
use Rattle.pl_signal.specs.Plain.{plain_knot, pieces_of, knots_of}
use Rattle.pl_signal.proofs.Values.{worth_at, worth_within}
use Rattle.value_laws.specs.declared.margin.Margin.{Margin}
use Rattle.value_laws.specs.Margins.{margin_function}
use Rattle.stl_syntax.specs.Texts.{fraction_text, IsNumberText, IsValueText, IsKnotLine, IsPieceLine, ArePieceLines, AreMarginLines, newline}
use Rattle.stl_syntax.specs.declared.scale.Scale.{Scale}
use Rattle.answer_lines.specs.Appended.{Grew, GrewInPart, Then, Is}
use Rattle.answer_lines.specs.MarginLines.{IsTimeAfter, IsValueAfter, AreNextLines, AreLaterLines}
use Rattle.answer_lines.proofs.Growths as growth
use Rattle.answer_lines.proofs.Growths.{grew_is, part_none, part_as, some_then}
use Rattle.answer_lines.specs.Numbers.{signed, IsInUnits}
use Rattle.answer_lines.specs.declared.number.Lowest.{Lowest}
use Rattle.answer_lines.proofs.Spans.{number_text}
use Rattle.answer_lines.proofs.Lines.{number_exists}

-- ---- numbers and values

module _ {T E : Type 0} (r : Result T E) (digits : ℕ) (v : Rational) (n : Lowest) (old new : List ℕ) (u : IsInUnits digits v n.negative n.size n.den) where
  abbrev its_text : List ℕ
  its_text = fraction_text (signed n.negative n.size) n.den

  is_text : IsNumberText digits v its_text
  is_text = number_text digits v n.negative n.size n.den u

  -- a number that was appended is its text
  pub number_ok : OnOk r (new ≡ old ++ its_text) → OnOk r (Grew (IsNumberText digits v) old new)
  number_ok = on_ok_weaker r (λ e. (its_text, is_text, e))

  -- or a cut in it
  pub number_err : OnErr r (GrewInPart (λ w. w ≡ its_text) old new) → OnErr r (GrewInPart (IsNumberText digits v) old new)
  number_err = on_err_weaker r (part_as (λ w. w ≡ its_text) (IsNumberText digits v) old new (λ w e. subst (IsNumberText digits v) (sym e) is_text))

module _ {T E : Type 0} (r : Result T E) (digits : ℕ) (m k : Margin) (t : Rational) (old new : List ℕ) (same : m ≡ k) where
  -- a value that was appended for one shape is that of another with the same function
  pub value_ok : OnOk r (Grew (IsValueText digits (value_at (margin_function k) t)) old new)
      → OnOk r (Grew (IsValueText digits (value_at (margin_function m) t)) old new)
  value_ok = subst (λ x. OnOk r (Grew (IsValueText digits (value_at (margin_function x) t)) old new)) (sym same)

  -- a cut in a value that was appended for one shape is one for another with the same function
  pub value_err : OnErr r (GrewInPart (IsValueText digits (value_at (margin_function k) t)) old new)
      → OnErr r (GrewInPart (IsValueText digits (value_at (margin_function m) t)) old new)
  value_err = subst (λ x. OnErr r (GrewInPart (IsValueText digits (value_at (margin_function x) t)) old new)) (sym same)

-- a piece that is pushed
pub pushed_ok : {T E : Type 0} (r : Result T E) (word old new : List ℕ) → OnOk r (new ≡ old ++ word) → OnOk r (Grew (Is word) old new)
pushed_ok r word old new = on_ok_weaker r (grew_is word old new)

-- what failed to be appended is a cut with nothing written
pub pushed_err : {T E : Type 0} (r : Result T E) (word old new : List ℕ) → OnErr r (new ≡ old) → OnErr r (GrewInPart (Is word) old new)
pushed_err r word old new = on_err_weaker r (part_none (Is word) old new (word, refl))

-- ---- there is a text of each kind

-- a value has a text
pub value_exists : (digits : ℕ) (v : Extended) → growth.Some (IsValueText digits v)
value_exists digits minus_infinity = (codes "-inf", refl)
value_exists digits (finite x) = number_exists digits x
value_exists digits infinity = (codes "inf", refl)

-- a time behind some words has a text
pub time_after_exists : (lead : List ℕ) (digits : ℕ) (t : Rational) → growth.Some (IsTimeAfter lead digits t)
time_after_exists lead digits t = some_then (Is lead) (IsNumberText digits t) (lead, refl) (number_exists digits t)

-- a value behind some words has a text
pub value_after_exists : (lead : List ℕ) (digits : ℕ) (v : Extended) → growth.Some (IsValueAfter lead digits v)
value_after_exists lead digits v = some_then (Is lead) (IsValueText digits v) (lead, refl) (value_exists digits v)

nine : (o a c b p x w d n : List ℕ) → ((((o ++ a) ++ (c ++ b)) ++ (p ++ x)) ++ (w ++ d)) ++ n ≡ o ++ a ++ c ++ b ++ p ++ x ++ w ++ d ++ n
nine o a c b p x w d n = simp append_assoc

module _ (scale : Scale) where
  -- the parts of a knot's line
  abbrev pub KnotParts : plain.Knot → List ℕ → Type 0
  KnotParts k = Then (Then (IsTimeAfter (codes "[") scale.time k.time) (IsValueAfter (codes "] ") scale.value k.value)) (Is newline)

  -- the parts of a knot's line make it
  pub knot_line : (k : plain.Knot) (text : List ℕ) → KnotParts k text → IsKnotLine scale k text
  knot_line k text (ab, c, (a, b, (a0, a1, a2, a3, a4), (b0, b1, b2, b3, b4), e), g, f) =
      (a1, b1, a3, b3, simp (f, e, g, a4, b4, a2, b2, append_assoc))

  -- a knot has a line
  pub knot_line_exists : (k : plain.Knot) → growth.Some (IsKnotLine scale k)
  knot_line_exists k =
      let parts = some_then (Then (IsTimeAfter (codes "[") scale.time k.time) (IsValueAfter (codes "] ") scale.value k.value)) (Is newline)
      (some_then (IsTimeAfter (codes "[") scale.time k.time) (IsValueAfter (codes "] ") scale.value k.value)
      (time_after_exists (codes "[") scale.time k.time) (value_after_exists (codes "] ") scale.value k.value)) (newline, refl) in
      (parts.0, knot_line k parts.0 parts.1)

  -- the parts of a piece's line
  abbrev pub PieceTimes : plain.Knot → Piece → List ℕ → Type 0
  PieceTimes k p = Then (IsTimeAfter (codes "(") scale.time k.time) (IsTimeAfter (codes ",") scale.time p.next.time)

  abbrev pub PieceFront : plain.Knot → Piece → List ℕ → Type 0
  PieceFront k p = Then (PieceTimes k p) (IsValueAfter (codes ") ") scale.value p.from)

  abbrev pub PieceLimits : plain.Knot → Piece → List ℕ → Type 0
  PieceLimits k p = Then (PieceFront k p) (IsValueAfter (codes " -> ") scale.value p.to)

  abbrev pub PieceParts : plain.Knot → Piece → List ℕ → Type 0
  PieceParts k p = Then (PieceLimits k p) (Is newline)

  -- the parts of a piece's line make it
  pub piece_line : (k : plain.Knot) (p : Piece) (text : List ℕ) → PieceParts k p text → IsPieceLine scale k p text
  piece_line k p text
      (abcd, n, (abc, d, (ab, c, (a, b, (a0, a1, a2, a3, a4), (b0, b1, b2, b3, b4), e), (c0, c1, c2, c3, c4), f), (d0, d1, d2, d3, d4), g), is_n, h) = (
        a1,
        b1,
        c1,
        d1,
        a3,
        b3,
        c3,
        d3,
        simp (h, g, f, e, is_n, a4, b4, c4, d4, a2, b2, c2, d2) (nine (codes "(") a1 (codes ",") b1 (codes ") ") c1 (codes " -> ") d1 newline),
      )

  -- a piece has a line
  pub piece_line_exists : (k : plain.Knot) (p : Piece) → growth.Some (IsPieceLine scale k p)
  piece_line_exists k p =
      let times = some_then (IsTimeAfter (codes "(") scale.time k.time) (IsTimeAfter (codes ",") scale.time p.next.time)
      (time_after_exists (codes "(") scale.time k.time) (time_after_exists (codes ",") scale.time p.next.time) in
      let front = some_then (PieceTimes k p) (IsValueAfter (codes ") ") scale.value p.from) times (value_after_exists (codes ") ") scale.value p.from) in
      let limits = some_then (PieceFront k p) (IsValueAfter (codes " -> ") scale.value p.to) front (value_after_exists (codes " -> ") scale.value p.to) in
      let parts = some_then (PieceLimits k p) (Is newline) limits (newline, refl) in
      (parts.0, piece_line k p parts.0 parts.1)

  -- a list of pieces has lines
  pub piece_lines_exist : (k : plain.Knot) (pieces : List Piece) → growth.Some (ArePieceLines scale k pieces)
  piece_lines_exist k [] = ([], refl)
  piece_lines_exist k (p ∷ pieces) =
      let piece = piece_line_exists k p in
      let knot = knot_line_exists p.next in
      let later = piece_lines_exist p.next pieces in
      (piece.0 ++ knot.0 ++ later.0, (piece.0, knot.0, later.0, piece.1, knot.1, later.1, refl))

-- the last of a list
pub last_of : {X : Type 0} (xs : List X) (i : ℕ) → suc i ≡ length xs → (x : X) × (slice_get xs i ≡ Some x) × (drop (suc i) xs ≡ [])
last_of (x ∷ []) zero e = (x, refl, refl)
last_of (x ∷ y ∷ xs) (suc i) e = last_of (y ∷ xs) i (omega (arith, e))
last_of _ _ e = absurd (omega (arith, e))

module _ {P : Type 0} (shape : ShapeOf P) (scale : Scale) where
  -- the lines up to the knot at place n: with those after it they are the lines after that of the first knot
  abbrev pub AreLinesTo : List (Knot P) → ℕ → List ℕ → Type 0
  AreLinesTo ks n text =
      (k : Knot P) (rest : List (Knot P)) (later : List ℕ) → drop n ks ≡ k ∷ rest
      → ArePieceLines scale (plain_knot shape k) (pieces_of shape k rest) later → AreLaterLines shape scale ks (text ++ later)

  -- before the first piece nothing was written
  pub lines_begin : (ks : List (Knot P)) → AreLinesTo ks 0 []
  lines_begin [] k rest later e lines = absurd (let f = e in cc)
  lines_begin (x ∷ ks) k rest later e lines =
      let same : x ≡ k = cc in
      let same_rest : ks ≡ rest = cc in
      subst (λ l. ArePieceLines scale (plain_knot shape l) (pieces_of shape l ks) later) (sym same)
      (subst (λ ls. ArePieceLines scale (plain_knot shape k) (pieces_of shape k ls) later) (sym same_rest) lines)

  -- a piece and its knot more are two lines more
  pub lines_more : (ks : List (Knot P)) (i : ℕ) (k n : Knot P) (text next : List ℕ) → slice_get ks i ≡ Some k → slice_get ks (suc i) ≡ Some n
      → AreLinesTo ks i text → AreNextLines shape scale k n next → AreLinesTo ks (suc i) (text ++ next)
  lines_more ks i k n text next at at_next before (piece, knot, is_piece, is_knot, e) = to_next
    where
      to_next : AreLinesTo ks (suc i) (text ++ next)
      to_next m rest later f lines =
          let here = drop_on ks (suc i) n at_next in
          let same : n ≡ m = let g = sym here ∙ f in cc in
          let same_rest : drop (suc (suc i)) ks ≡ rest = let g = sym here ∙ f in cc in
          let all = before k (n ∷ rest) (piece ++ knot ++ later) (drop_on ks i k at ∙ ap (λ xs. k ∷ xs) (here ∙ ap (λ xs. n ∷ xs) same_rest)) (
            piece,
            knot,
            later,
            is_piece,
            is_knot,
            subst (λ l. ArePieceLines scale (plain_knot shape l) (pieces_of shape l rest) later) (sym same) lines,
            refl,
          ) in
          subst (AreLaterLines shape scale ks) (simp (e, append_assoc)) all

  -- after the last piece all lines are written
  pub lines_end : (ks : List (Knot P)) (i : ℕ) (text : List ℕ) → suc i ≡ length ks → AreLinesTo ks i text → AreLaterLines shape scale ks text
  lines_end ks i text last before =
      let (k, at, none) = last_of ks i last in
      subst (AreLaterLines shape scale ks) (append-nil text) (before k [] [] (drop_on ks i k at ∙ ap (λ xs. k ∷ xs) none) refl)

  -- the first knot's line and the later ones make the lines of margins
  pub margin_lines : (ks : List (Knot P)) (k : Knot P) → slice_get ks 0 ≡ Some k → (text : List ℕ)
      → Then (IsKnotLine scale (plain_knot shape k)) (AreLaterLines shape scale ks) text → AreMarginLines scale (knots_of shape ks) text
  margin_lines [] k at text h = absurd (let e = at in cc)
  margin_lines (x ∷ ks) k at text (first, later, is_first, is_later, e) =
      (first, later, subst (λ l. IsKnotLine scale (plain_knot shape l) first) (sym (same_Some _ _ at)) is_first, is_later, e)

-- a knot's time is within what the ends are
pub knot_within : {P : Type 0} (shape : ShapeOf P) (n : ℕ) (ks : List (Knot P)) (i : ℕ) (k : Knot P) → IsSignal shape ks → slice_get ks i ≡ Some k
    → IsWithin n (start ks) → IsWithin n (stop ks) → IsWithin n (time k)
knot_within shape n ks i k s at from to =
    let w = worth_within shape ks (time k) (value_at (shape.function k.point) (time k)) s (worth_at shape ks i k (time k) at (same_refl (time k))) in
    (le_trans from.0 w.above, le_trans w.below to.1)

module _ {P : Type 0} (shape : ShapeOf P) (scale : Scale) (ks : List (Knot P)) where
  -- the line of the first knot
  abbrev pub IsFirstLine : List ℕ → Type 0
  IsFirstLine text = (k : Knot P) → slice_get ks 0 ≡ Some k → IsKnotLine scale (plain_knot shape k) text

  -- the lines up to the knot at place n
  abbrev pub AreMarginsTo : ℕ → List ℕ → Type 0
  AreMarginsTo n = Then IsFirstLine (AreLinesTo shape scale ks n)

  -- those of the first knot alone
  pub margins_begin : (k : Knot P) (text : List ℕ) → slice_get ks 0 ≡ Some k → IsKnotLine scale (plain_knot shape k) text → AreMarginsTo 0 text
  margins_begin k text at line = (
    text,
    [],
    (λ m there. subst (λ x. IsKnotLine scale (plain_knot shape x) text) (same_Some _ _ (sym at ∙ there)) line),
    lines_begin shape scale ks,
    sym (append-nil text),
  )

  -- a piece and its knot more are two lines more
  pub margins_more : (i : ℕ) (k n : Knot P) (old mid new : List ℕ) → slice_get ks i ≡ Some k → slice_get ks (suc i) ≡ Some n
      → Grew (AreMarginsTo i) old mid → Grew (AreNextLines shape scale k n) mid new → Grew (AreMarginsTo (suc i)) old new
  margins_more i k n old mid new at at_next (text, (first, later, is_first, is_later, e), f) (next, is_next, g) = (
    text ++ next,
    (
      first,
      later ++ next,
      is_first,
      lines_more shape scale ks i k n later next at at_next is_later is_next,
      ap (λ w. w ++ next) e ∙ append_assoc first later next,
    ),
    g ∙ (ap (λ w. w ++ next) f ∙ append_assoc old text next),
  )

  -- up to the last knot they are all lines
  pub margins_all : (k : Knot P) (i : ℕ) (text : List ℕ) → slice_get ks 0 ≡ Some k → suc i ≡ length ks → AreMarginsTo i text
      → AreMarginLines scale (knots_of shape ks) text
  margins_all k i text at last (first, later, is_first, is_later, e) =
      margin_lines shape scale ks k at text (first, later, is_first k at, lines_end shape scale ks i later last is_later, e)

  -- up to any knot they are a first part of all lines
  pub margins_part : (k : Knot P) (i : ℕ) (n : Knot P) (old new : List ℕ) → slice_get ks 0 ≡ Some k → slice_get ks i ≡ Some n
      → Grew (AreMarginsTo i) old new → GrewInPart (AreMarginLines scale (knots_of shape ks)) old new
  margins_part k i n old new at here (text, (first, later, is_first, is_later, e), f) =
      let more = piece_lines_exist scale (plain_knot shape n) (pieces_of shape n (drop (suc i) ks)) in
      let all = is_later n (drop (suc i) ks) more.0 (drop_on ks i n here) more.1 in (
        text,
        more.0,
        margin_lines shape scale ks k at (text ++ more.0)
            (first, later ++ more.0, is_first k at, all, ap (λ w. w ++ more.0) e ∙ append_assoc first later more.0),
        f,
      )
