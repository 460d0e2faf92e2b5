-- At the end of each piece a chain has a breakpoint.
use Rattle.std.proofs.Common.{◌≡◌, inl, inr, ℕ, zero, suc, List, [], ◌∷◌, Some, None, true, false, refl, sym, ◌∙◌, ap, subst}
use Rattle.std.specs.Prelude.{Option, slice_get}
use Rattle.std.proofs.lemmas.Bool.{false≢true}
use Rattle.rational.specs.Time.{Rational, Within, ◌≤ʳ◌, ◌<ʳ◌, ◌≈◌}
use Rattle.rational.specs.Extended.{Extended, Affine, ◌≈ᵉ◌, value_at}
use Rattle.rational.specs.Affine.{AreSame}
use Rattle.rational.specs.Places.{Place, Before}
use Rattle.rational.specs.InPlay.{IsLineOn, IsPart, IsBreakpoint}
use Rattle.rational.proofs.Order.{le_of_lt, le_of_same, ge_of_same, lt_of_lt_of_le, lt_of_le_of_lt, same_refl, same_sym, same_trans}
use Rattle.rational.proofs.AffineLemmas.{same_reflᵉ, value_same}
use Rattle.rational.proofs.Sames.{symᵉ, transᵉ}
use Rattle.rational.proofs.LimitLemmas.{HasOneValue, line_on_part, lines_same, earlier_end, later_end}
use Rattle.rational.proofs.PlaceLemmas.{le_of_at_most}
use Rattle.value_laws.specs.Members.{ShapeOf}
use Rattle.pl_signal.proofs.Values.{some_is}
use Rattle.pieces.specs.declared.piece.Piece.{Piece}
use Rattle.pieces.specs.Chains.{Chain, CanBeLeftOut, Each, IsNormal, IsPiece, IsWorth, end, stop, stop_from}
use Rattle.pieces.specs.Over.{HasBreaks}
use Rattle.pieces.proofs.Ends.{at_most_of_before, at_most_trans}
use Rattle.pieces.proofs.ChainLemmas.{one_value, worth_same}
use Rattle.pieces.proofs.ReadUpTo.{begin_at, begin_most, end_most, next_begin, rises_at}
use Rattle.pieces.proofs.KnotLemmas.{gap_worth, own_worth}

module _ {P : Type 0} (shape : ShapeOf P) where
  -- neighbours differ, and a piece between two is needed
  differs_at : (ps : List (Piece P)) (i : ℕ) (p q : Piece P) → Each (IsPiece shape) ps → slice_get ps i ≡ Some p → slice_get ps (suc i) ≡ Some q
      → ¬ AreSame (shape.function p.shape) (shape.function q.shape)
  differs_at [] i p q h e f = absurd (cc)
  differs_at (x ∷ []) zero p q h e f = absurd (cc)
  differs_at (x ∷ y ∷ ps) zero p q h e f =
      subst (λ x. ¬ AreSame (shape.function x.shape) (shape.function q.shape)) (some_is e)
      (subst (λ y. ¬ AreSame (shape.function x.shape) (shape.function y.shape)) (some_is f) h.0.differs)
  differs_at (x ∷ ps) (suc i) p q h e f = differs_at ps i p q h.1 e f

  needed_at : (ps : List (Piece P)) (i : ℕ) (p q r : Piece P) → Each (IsPiece shape) ps → slice_get ps i ≡ Some p → slice_get ps (suc i) ≡ Some q
      → slice_get ps (suc (suc i)) ≡ Some r → ¬ CanBeLeftOut shape p q r.shape
  needed_at [] i p q r h e f g = absurd (cc)
  needed_at (x ∷ []) zero p q r h e f g = absurd (cc)
  needed_at (x ∷ y ∷ []) zero p q r h e f g = absurd (cc)
  needed_at (x ∷ y ∷ z ∷ ps) zero p q r h e f g =
      subst (λ x. ¬ CanBeLeftOut shape x q r.shape) (some_is e)
      (subst (λ y. ¬ CanBeLeftOut shape x y r.shape) (some_is f)
      (subst (λ z. ¬ CanBeLeftOut shape x y z.shape) (some_is g) h.0.needed))
  needed_at (x ∷ ps) (suc i) p q r h e f g = needed_at ps i p q r h.1 e f g

  prior : (ps : List (Piece P)) (i : ℕ) (p : Piece P) → slice_get ps (suc i) ≡ Some p → (o : Piece P) × (slice_get ps i ≡ Some o)
  prior [] i p h = absurd (cc)
  prior (x ∷ ps) zero p h = (x, refl)
  prior (x ∷ ps) (suc i) p h = prior ps i p h

  -- behind the last piece the chain ends
  last_ends : (c : Place) (ps : List (Piece P)) (i : ℕ) (p : Piece P) → slice_get ps i ≡ Some p → slice_get ps (suc i) ≡ None → end p ≡ stop_from c ps
  last_ends c [] i p e f = absurd (cc)
  last_ends c (x ∷ []) zero p e f = ap (λ p. end p) (sym (some_is e))
  last_ends c (x ∷ y ∷ ps) zero p e f = absurd (cc)
  last_ends c (x ∷ ps) (suc i) p e f = last_ends (end x) ps i p e f

  module _ (chain : Chain P) (normal : IsNormal shape chain) (u : Rational) where
    one : HasOneValue (IsWorth shape chain)
    one t v w a b = one_value shape chain.from chain.pieces t v w normal.rising a b

    on_gap : (i : ℕ) (p : Piece P) → slice_get chain.pieces i ≡ Some p
        → IsLineOn (IsWorth shape chain) (begin_at chain.from chain.pieces i).at (end p).at (shape.function p.shape)
    on_gap i p e = λ t x y. (
      value_at (shape.function p.shape) t,
      gap_worth shape chain i p t e x y,
      same_reflᵉ (value_at (shape.function p.shape) t),
    )

    -- a line through u is the shape of the gap before it, and that of the gap behind it
    left_same : (i : ℕ) (p : Piece P) (line : Affine) → slice_get chain.pieces i ≡ Some p → (begin_at chain.from chain.pieces i).at <ʳ u → u ≤ʳ (end p).at
        → IsPart (IsWorth shape chain) u line → AreSame (shape.function p.shape) line
    left_same i p line e before upto part =
        let c = later_end part.above before in
        lines_same (IsWorth shape chain) (shape.function p.shape) line one c.1
        (line_on_part (IsWorth shape chain) (shape.function p.shape) c.3 upto (on_gap i p e))
        (line_on_part (IsWorth shape chain) line c.2 (le_of_lt part.below) part.on)

    right_same : (i : ℕ) (p : Piece P) (line : Affine) → slice_get chain.pieces i ≡ Some p → (begin_at chain.from chain.pieces i).at ≤ʳ u → u <ʳ (end p).at
        → IsPart (IsWorth shape chain) u line → AreSame line (shape.function p.shape)
    right_same i p line e from behind part =
        let d = earlier_end part.below behind in
        lines_same (IsWorth shape chain) line (shape.function p.shape) one d.1
        (line_on_part (IsWorth shape chain) line (le_of_lt part.above) d.2 part.on)
        (line_on_part (IsWorth shape chain) (shape.function p.shape) from d.3 (on_gap i p e))

    -- no line goes through u where a gap ends and the next begins
    two_gaps : (i : ℕ) (p q : Piece P) → slice_get chain.pieces i ≡ Some p → slice_get chain.pieces (suc i) ≡ Some q
        → (begin_at chain.from chain.pieces i).at <ʳ u → u ≈ (end p).at → u <ʳ (end q).at → (line : Affine) → ¬ IsPart (IsWorth shape chain) u line
    two_gaps i p q e f before here behind line part =
        differs_at chain.pieces i p q normal.each e f (λ t. transᵉ (left_same i p line e before (le_of_same here) part t)
        (right_same (suc i) q line f (subst (λ c. c.at ≤ʳ u) (sym (next_begin chain.from chain.pieces i p e)) (ge_of_same here)) behind part t))

    -- nor where a piece of that time alone lies between two gaps
    three : (i : ℕ) (l m r : Piece P) → slice_get chain.pieces i ≡ Some l → slice_get chain.pieces (suc i) ≡ Some m
        → slice_get chain.pieces (suc (suc i)) ≡ Some r → (begin_at chain.from chain.pieces i).at <ʳ u → u ≈ (end l).at → u ≈ (end m).at
        → (end m).after ≡ true → u <ʳ (end r).at → (line : Affine) → ¬ IsPart (IsWorth shape chain) u line
    three i l m r e f g before here there after behind line part =
        needed_at chain.pieces i l m r normal.each e f g (record {
          instant = same_of here there;
          around = λ t. transᵉ (left t) (right t);
          here = transᵉ (left (end m).at) (transᵉ (value_same line (same_sym there)) value);
        })
      where
        same_of : u ≈ (end l).at → u ≈ (end m).at → (end l).at ≈ (end m).at
        same_of a b = same_trans (same_sym a) b

        left : AreSame (shape.function l.shape) line
        left = left_same i l line e before (le_of_same here) part

        right : AreSame line (shape.function r.shape)
        right = right_same (suc (suc i)) r line g
            (subst (λ c. c.at ≤ʳ u) (sym (next_begin chain.from chain.pieces (suc i) m f)) (ge_of_same there)) behind part

        value : value_at line u ≈ᵉ value_at (shape.function m.shape) (end m).at
        value = let w = part.on u part.above part.below in
            transᵉ (symᵉ w.2) (one u w.0 (value_at (shape.function m.shape) (end m).at) w.1
            (worth_same shape chain.from chain.pieces (value_at (shape.function m.shape) (end m).at) (value_at (shape.function m.shape) (end m).at)
            (same_sym there) (same_reflᵉ (value_at (shape.function m.shape) (end m).at)) (own_worth shape chain (suc i) m normal f after)))

  -- at the end of a piece
  pub breakpoint_at : (chain : Chain P) (i : ℕ) (p : Piece P) → IsNormal shape chain → slice_get chain.pieces i ≡ Some p
      → IsBreakpoint (IsWorth shape chain) chain.from.at (stop chain).at (end p).at
  breakpoint_at chain i p normal e = by_next (slice_get chain.pieces (suc i)) refl
    where
      F : Rational → Extended → Type 0
      F = IsWorth shape chain

      begin : Place
      begin = begin_at chain.from chain.pieces i

      rises : (j : ℕ) (q : Piece P) → slice_get chain.pieces j ≡ Some q → Before (begin_at chain.from chain.pieces j) (end q)
      rises j q f = rises_at chain.from chain.pieces j q normal.rising f

      -- a later piece begins where the one before it ends
      follows : (j : ℕ) (o q : Piece P) → slice_get chain.pieces j ≡ Some o → slice_get chain.pieces (suc j) ≡ Some q → Before (end o) (end q)
      follows j o q f g = subst (λ c. Before c (end q)) (next_begin chain.from chain.pieces j o f) (rises (suc j) q g)

      inside : Within chain.from.at (stop chain).at (end p).at
      inside = record {
        above = le_of_at_most chain.from (end p) (at_most_trans chain.from begin (end p) (begin_most chain.from chain.pieces i normal.rising)
            (at_most_of_before begin (end p) (rises i p e)));
        below = le_of_at_most (end p) (stop chain) (end_most chain.from chain.pieces i p normal.rising e);
      }

      -- at the end of the chain
      at_stop : (c : Place) → (end p).at ≈ c.at → c ≡ stop chain → IsBreakpoint F chain.from.at (stop chain).at (end p).at
      at_stop c s same = IsBreakpoint.stop (subst (λ c. (end p).at ≈ c.at) same s)

      -- where the next piece has that time alone, by the one behind it
      by_third : (q : Piece P) → slice_get chain.pieces (suc i) ≡ Some q → begin.at <ʳ (end p).at → (end p).at ≈ (end q).at → (end q).after ≡ true
          → (o : Option (Piece P)) → slice_get chain.pieces (suc (suc i)) ≡ o → IsBreakpoint F chain.from.at (stop chain).at (end p).at
      by_third q f before here after None g = at_stop (end q) here (last_ends chain.from chain.pieces (suc i) q f g)
      by_third q f before here after (Some r) g = IsBreakpoint.inner inside
          (three chain normal (end p).at i p q r e f g before (same_refl (end p).at) here after (behind (follows (suc i) q r f g)))
        where
          behind : Before (end q) (end r) → (end p).at <ʳ (end r).at
          behind (inl l) = lt_of_le_of_lt (le_of_same here) l
          behind (inr (s, x, y)) = absurd (false≢true (sym x ∙ after))

      -- where the piece itself has that time alone, by the one before it
      by_prior : (j : ℕ) → i ≡ j → (q : Piece P) → slice_get chain.pieces (suc i) ≡ Some q → begin.at ≈ (end p).at → begin.after ≡ false → (end p).after ≡ true
          → (end p).at <ʳ (end q).at → IsBreakpoint F chain.from.at (stop chain).at (end p).at
      by_prior zero same q f here before after behind =
          IsBreakpoint.start (same_sym (subst (λ j. (begin_at chain.from chain.pieces j).at ≈ (end p).at) same here))
      by_prior (suc j) same q f here before after behind = inner (prior chain.pieces j p at)
        where
          at : slice_get chain.pieces (suc j) ≡ Some p
          at = subst (λ j. slice_get chain.pieces j ≡ Some p) same e

          inner : (o : Piece P) × (slice_get chain.pieces j ≡ Some o) → IsBreakpoint F chain.from.at (stop chain).at (end p).at
          inner (o, g) = IsBreakpoint.inner inside
              (three chain normal (end p).at j o p q g at (subst (λ j. slice_get chain.pieces (suc j) ≡ Some q) same f) (gap (rises j o g))
              (same_sym ends) (same_refl (end p).at) after behind)
            where
              begins : begin ≡ end o
              begins = subst (λ j. begin_at chain.from chain.pieces j ≡ end o) (sym same) (next_begin chain.from chain.pieces j o g)

              ends : (end o).at ≈ (end p).at
              ends = subst (λ c. c.at ≈ (end p).at) begins here

              gap : Before (begin_at chain.from chain.pieces j) (end o) → (begin_at chain.from chain.pieces j).at <ʳ (end p).at
              gap (inl l) = lt_of_lt_of_le l (le_of_same ends)
              gap (inr (s, x, y)) = absurd (false≢true (sym before ∙ ap (λ c. c.after) begins ∙ y))

      by_ends : (q : Piece P) → slice_get chain.pieces (suc i) ≡ Some q → Before begin (end p) → Before (end p) (end q)
          → IsBreakpoint F chain.from.at (stop chain).at (end p).at
      by_ends q f (inl l) (inl r) = IsBreakpoint.inner inside (two_gaps chain normal (end p).at i p q e f l (same_refl (end p).at) r)
      by_ends q f (inl l) (inr (s, x, y)) = by_third q f l s y (slice_get chain.pieces (suc (suc i))) refl
      by_ends q f (inr (s, x, y)) (inl r) = by_prior i refl q f s x y r
      by_ends q f (inr (s, x, y)) (inr (t, v, w)) = absurd (false≢true (sym v ∙ y))

      by_next : (o : Option (Piece P)) → slice_get chain.pieces (suc i) ≡ o → IsBreakpoint F chain.from.at (stop chain).at (end p).at
      by_next None f = at_stop (end p) (same_refl (end p).at) (last_ends chain.from chain.pieces i p e f)
      by_next (Some q) f = by_ends q f (rises i p e) (follows i p q e f)

  -- a chain has a breakpoint where a piece begins
  pub breakpoint_begin : (chain : Chain P) (i : ℕ) (p : Piece P) → IsNormal shape chain → slice_get chain.pieces i ≡ Some p
      → IsBreakpoint (IsWorth shape chain) chain.from.at (stop chain).at (begin_at chain.from chain.pieces i).at
  breakpoint_begin chain zero p normal e = IsBreakpoint.start (same_refl chain.from.at)
  breakpoint_begin chain (suc j) p normal e =
      let (o, g) = prior chain.pieces j p e in
      subst (λ c. IsBreakpoint (IsWorth shape chain) chain.from.at (stop chain).at c.at) (sym (next_begin chain.from chain.pieces j o g))
      (breakpoint_at chain j o normal g)

  -- it has one at both ends of a piece
  pub breaks_at : (chain : Chain P) (i : ℕ) (p : Piece P) → IsNormal shape chain → slice_get chain.pieces i ≡ Some p
      → HasBreaks shape chain (begin_at chain.from chain.pieces i) p
  breaks_at chain i p normal e = record { first = breakpoint_begin chain i p normal e; last = breakpoint_at chain i p normal e }
