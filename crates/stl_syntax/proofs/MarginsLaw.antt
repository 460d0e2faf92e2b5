-- At most one list of knots describes the robustness of a formula.
use Rattle.std.proofs.Common.{◌≡◌, ◌⊎◌, inl, inr, List, [], ◌∷◌}
use Rattle.rational.specs.Rational.{Rational, ◌≤ʳ◌, ◌<ʳ◌, ◌≈◌, middle}
use Rattle.rational.proofs.Order.{lt_or_same_or_gt, le_or_lt, le_of_same, ge_of_same, le_of_lt, le_refl}
use Rattle.rational.proofs.Order.{le_trans, lt_of_lt_of_le, lt_of_le_of_lt, lt_trans, not_lt_of_le}
use Rattle.rational.proofs.Order.{same_sym, same_refl, same_trans, left_of_middle, right_of_middle}
use Rattle.rational.specs.Extended.{Extended, ◌≈ᵉ◌, Affine, value_at, Passes}
use Rattle.stl_syntax.specs.Trace.{Trace, start, stop}
use Rattle.stl_syntax.specs.Formula.{Subformula}
use Rattle.stl_syntax.specs.Knots.{Knot, Piece, Knots, IsInside}
use Rattle.stl_syntax.specs.SupInf.{Robustness}
use Rattle.stl_syntax.specs.Verdicts.{IsRobust, IsRobustInside, PiecesGoOn, TellsAfter, TellsClosed, DescribesMargins, KnotsAlike, PiecesAlike}
use Rattle.stl_syntax.proofs.SupInfLemmas.{SupInf-unique, margins_give_one}
use Rattle.stl_syntax.proofs.TimeLaw.{SupInf-same}
use Rattle.rational.proofs.AffineLemmas.{affine_unique, same_symᵉ, same_transᵉ, value_same}

-- two functions that agree at two times agree at each
everywhere : (f g : Affine) (t u : Rational) → t <ʳ u → value_at f t ≈ᵉ value_at g t → value_at f u ≈ᵉ value_at g u
    → (s : Rational) → value_at f s ≈ᵉ value_at g s
everywhere f g t u l h k s = record {
  at_most = affine_unique f g t u s l h k;
  at_least = affine_unique g f t u s l (same_symᵉ (value_at f t) (value_at g t) h) (same_symᵉ (value_at f u) (value_at g u) k);
}

module _ (p : Subformula) (tr : Trace) where
  -- the robustness at one time is one
  one_value : {t u : Rational} (r s : Extended) → t ≈ u → Robustness p tr t r → Robustness p tr u s → r ≈ᵉ s
  one_value {t} {u} r s e h k = record {
    at_most = SupInf-unique p _ u r s (margins_give_one tr) (SupInf-same p _ r e h) k;
    at_least = SupInf-unique p _ u s r (margins_give_one tr) k (SupInf-same p _ r e h);
  }

  -- the robustness strictly between l and r is that of the function f
  abbrev Follows : Affine → Rational → Rational → Type 0
  Follows f l r = (t : Rational) → l <ʳ t → t <ʳ r → (v : Extended) × Robustness p tr t v × (v ≈ᵉ value_at f t)

  -- the function of a piece
  record Through (k : Knot) (a : Piece) : Type 0 where
    line : Affine
    begins : Passes line k.time a.from
    ends : Passes line a.next.time a.to
    follows : Follows line k.time a.next.time

  through_of : (k : Knot) (a : Piece) → IsRobustInside p tr k a → Through k a
  through_of k a h = by_middle (h.1 (middle k.time a.next.time) (left_of_middle h.0) (right_of_middle h.0)).2
    where
      by_middle : {r : Extended} → IsInside k a (middle k.time a.next.time) r → Through k a
      by_middle i = record {
        line = i.through;
        begins = i.from;
        ends = i.to;
        follows = λ t l r. let f = h.1 t l r in (
          f.0,
          f.1,
          let j = f.2 in
              same_transᵉ f.0 (value_at j.through t) (value_at i.through t) j.value
              (everywhere j.through i.through k.time a.next.time h.0
              (same_transᵉ (value_at j.through k.time) a.from (value_at i.through k.time) (same_symᵉ a.from (value_at j.through k.time) j.from) i.from)
              (same_transᵉ (value_at j.through a.next.time) a.to (value_at i.through a.next.time)
              (same_symᵉ a.to (value_at j.through a.next.time) j.to) i.to) t),
        );
      }

  -- two functions that the robustness follows on one open interval are one
  one_line : (f g : Affine) (l r : Rational) → l <ʳ r → Follows f l r → Follows g l r → (s : Rational) → value_at f s ≈ᵉ value_at g s
  one_line f g l r h a b s =
      everywhere f g (middle l (middle l r)) (middle l r) (right_of_middle (left_of_middle h))
      (agree (middle l (middle l r)) (left_of_middle (left_of_middle h)) (lt_trans (right_of_middle (left_of_middle h)) (right_of_middle h)))
      (agree (middle l r) (left_of_middle h) (right_of_middle h)) s
    where
      agree : (t : Rational) → l <ʳ t → t <ʳ r → value_at f t ≈ᵉ value_at g t
      agree t x y =
          let v = a t x y in let w = b t x y in
          same_transᵉ (value_at f t) v.0 (value_at g t) (same_symᵉ v.0 (value_at f t) v.2)
          (same_transᵉ v.0 w.0 (value_at g t) (one_value v.0 w.0 (same_refl _) v.1 w.1) w.2)

  part_of : (f : Affine) (l r l' r' : Rational) → l ≤ʳ l' → r' ≤ʳ r → Follows f l r → Follows f l' r'
  part_of f l r l' r' h k a t x y = a t (lt_of_le_of_lt h x) (lt_of_lt_of_le y k)

  module _ (to : Rational) where
    -- the knots from k on tell the robustness up to the end of a stretch
    abbrev From : Knot → List Piece → Type 0
    From k [] = k.time ≈ to
    From k (a ∷ pieces) = IsRobustInside p tr k a × IsRobust p tr a.next × PiecesGoOn p tr to k a pieces

    from_first : (from : Rational) (k : Knot) (pieces : List Piece) → k.time ≈ from
        → ((pieces ≡ []) × (from ≈ to)) ⊎ TellsAfter p tr to k pieces → From k pieces
    from_first from k [] e (inl h) = same_trans e h.1
    from_first from k [] e (inr h) = absurd h
    from_first from k (a ∷ pieces) e (inl h) = absurd (let x : a ∷ pieces ≡ [] = h.0 in cc)
    from_first from k (a ∷ pieces) e (inr h) = h

    from_here : (j : Knot) (before : Piece) (pieces : List Piece) → PiecesGoOn p tr to j before pieces → From before.next pieces
    from_here j before [] h = h
    from_here j before (a ∷ pieces) h = (h.1, h.2, h.3)

    -- no knot lies after the end
    by_stop : (k : Knot) (pieces : List Piece) → From k pieces → k.time ≤ʳ to
    by_stop k [] h = le_of_same h
    by_stop k (a ∷ pieces) h = le_trans (le_of_lt h.0.0) (by_stop a.next pieces (from_here k a pieces h.2))

    -- a knot that is needed does not lie inside a piece of another list
    not_inside : (k l : Knot) (a b : Piece) (pieces : List Piece) → k.time ≈ l.time → From k (a ∷ pieces) → IsRobustInside p tr l b
        → b.next.time ≤ʳ to → ¬ (a.next.time <ʳ b.next.time)
    not_inside k l a b [] e h i s o = not_lt_of_le (le_trans s (ge_of_same h.2)) o
    not_inside k l a b (c ∷ pieces) e h i s o = h.2.0 (record {
      through = g.line;
      begins = same_transᵉ a.from (value_at f.line k.time) (value_at g.line k.time) f.begins (f_is k.time);
      arrives = same_transᵉ a.to (value_at f.line a.next.time) (value_at g.line a.next.time) f.ends (f_is a.next.time);
      here = same_transᵉ a.next.value inner.0 (value_at g.line a.next.time) (one_value a.next.value inner.0 (same_refl _) h.1 inner.1) inner.2;
      leaves = same_transᵉ c.from (value_at d.line a.next.time) (value_at g.line a.next.time) d.begins (d_is a.next.time);
      ends = same_transᵉ c.to (value_at d.line c.next.time) (value_at g.line c.next.time) d.ends (d_is c.next.time);
    })
      where
        f : Through k a
        f = through_of k a h.0

        g : Through l b
        g = through_of l b i

        d : Through a.next c
        d = through_of a.next c h.2.1

        starts : l.time <ʳ a.next.time
        starts = lt_of_le_of_lt (ge_of_same e) h.0.0

        f_is : (t : Rational) → value_at f.line t ≈ᵉ value_at g.line t
        f_is = one_line f.line g.line k.time a.next.time h.0.0 f.follows
            (part_of g.line l.time b.next.time k.time a.next.time (ge_of_same e) (le_of_lt o) g.follows)

        inner : (v : Extended) × Robustness p tr a.next.time v × (v ≈ᵉ value_at g.line a.next.time)
        inner = g.follows a.next.time starts o

        by_end : (c.next.time ≤ʳ b.next.time) ⊎ (b.next.time <ʳ c.next.time) → (t : Rational) → value_at d.line t ≈ᵉ value_at g.line t
        by_end (inl m) = one_line d.line g.line a.next.time c.next.time h.2.1.0 d.follows
            (part_of g.line l.time b.next.time a.next.time c.next.time (le_of_lt starts) m g.follows)
        by_end (inr m) = one_line d.line g.line a.next.time b.next.time o
            (part_of d.line a.next.time c.next.time a.next.time b.next.time (le_refl a.next.time) (le_of_lt m) d.follows)
            (part_of g.line l.time b.next.time a.next.time b.next.time (le_of_lt starts) (le_refl b.next.time) g.follows)

        d_is : (t : Rational) → value_at d.line t ≈ᵉ value_at g.line t
        d_is = by_end (le_or_lt c.next.time b.next.time)

    same_pieces : (k l : Knot) (a b : Piece) → k.time ≈ l.time → a.next.time ≈ b.next.time → IsRobustInside p tr k a → IsRobustInside p tr l b
        → (a.from ≈ᵉ b.from) × (a.to ≈ᵉ b.to)
    same_pieces k l a b e s h i = (
      same_transᵉ a.from (value_at f.line k.time) b.from f.begins
          (same_transᵉ (value_at f.line k.time) (value_at g.line k.time) b.from (f_is k.time)
          (same_transᵉ (value_at g.line k.time) (value_at g.line l.time) b.from (value_same g.line e) (same_symᵉ b.from (value_at g.line l.time) g.begins))),
      same_transᵉ a.to (value_at f.line a.next.time) b.to f.ends
          (same_transᵉ (value_at f.line a.next.time) (value_at g.line a.next.time) b.to (f_is a.next.time)
          (same_transᵉ (value_at g.line a.next.time) (value_at g.line b.next.time) b.to (value_same g.line s)
          (same_symᵉ b.to (value_at g.line b.next.time) g.ends))),
    )
      where
        f : Through k a
        f = through_of k a h

        g : Through l b
        g = through_of l b i

        f_is : (t : Rational) → value_at f.line t ≈ᵉ value_at g.line t
        f_is = one_line f.line g.line k.time a.next.time h.0 f.follows
            (part_of g.line l.time b.next.time k.time a.next.time (ge_of_same e) (le_of_same s) g.follows)

    pieces_alike : (k l : Knot) (pieces others : List Piece) → k.time ≈ l.time → From k pieces → From l others → PiecesAlike pieces others
    pieces_alike k l [] [] e h i = tt
    pieces_alike k l [] (b ∷ others) e h i =
        not_lt_of_le (le_trans (by_stop b.next others (from_here l b others i.2)) (ge_of_same h)) (lt_of_le_of_lt (le_of_same e) i.0.0)
    pieces_alike k l (a ∷ pieces) [] e h i =
        not_lt_of_le (le_trans (by_stop a.next pieces (from_here k a pieces h.2)) (ge_of_same i)) (lt_of_le_of_lt (ge_of_same e) h.0.0)
    pieces_alike k l (a ∷ pieces) (b ∷ others) e h i =
        by_time (lt_or_same_or_gt a.next.time b.next.time)
        (λ s. pieces_alike a.next b.next pieces others s (from_here k a pieces h.2) (from_here l b others i.2))
      where
        by_time : (a.next.time <ʳ b.next.time) ⊎ (a.next.time ≈ b.next.time) ⊎ (b.next.time <ʳ a.next.time)
            → (a.next.time ≈ b.next.time → PiecesAlike pieces others)
            → PiecesAlike (a ∷ pieces) (b ∷ others)
        by_time (inl o) rest = absurd (not_inside k l a b pieces e h i.0 (by_stop b.next others (from_here l b others i.2)) o)
        by_time (inr (inl s)) rest =
            let both = same_pieces k l a b e s h.0 i.0 in (both.0, both.1, record { time = s; value = one_value a.next.value b.next.value s h.1 i.1 }, rest s)
        by_time (inr (inr o)) rest = absurd (not_inside l k b a others (same_sym e) i h.0 (by_stop a.next pieces (from_here k a pieces h.2)) o)

    -- at most one list of knots tells the robustness on a stretch with both its ends
    pub closed_once : (from : Rational) (ks ls : Knots) → TellsClosed p tr from to ks → TellsClosed p tr from to ls
        → KnotsAlike ks.first ls.first × PiecesAlike ks.pieces ls.pieces
    closed_once from ks ls h i =
        let e = same_trans h.0 (same_sym i.0) in (
          record { time = e; value = one_value ks.first.value ls.first.value e h.1 i.1 },
          pieces_alike ks.first ls.first ks.pieces ls.pieces e (from_first from ks.first ks.pieces h.0 h.2) (from_first from ls.first ls.pieces i.0 i.2),
        )

    -- at most one list of pieces tells it after a time
    pub after_once : (k l : Knot) (pieces others : List Piece) → k.time ≈ l.time → TellsAfter p tr to k pieces
        → TellsAfter p tr to l others → PiecesAlike pieces others
    after_once k l [] others e h i = absurd h
    after_once k l (a ∷ pieces) [] e h i = absurd i
    after_once k l (a ∷ pieces) (b ∷ others) e h i = pieces_alike k l (a ∷ pieces) (b ∷ others) e h i

  -- at most one list of knots describes the robustness
  pub DescribesMargins-unique : (ks ls : Knots) → DescribesMargins ks p tr → DescribesMargins ls p tr
      → KnotsAlike ks.first ls.first × PiecesAlike ks.pieces ls.pieces
  DescribesMargins-unique ks ls h i = closed_once (stop tr) (start tr) ks ls h i
