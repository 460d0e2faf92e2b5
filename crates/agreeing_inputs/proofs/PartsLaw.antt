-- Points and gaps that cover the domain and tell the robustness, joined where one line goes on, are the knots that describe it.
use Rattle.std.proofs.Common.{◌≡◌, ◌⊎◌, inl, inr, refl, ap, List, [], ◌∷◌, ◌++◌}
use Rattle.rational.specs.Time.{Rational, ◌≤ʳ◌, ◌<ʳ◌, ◌≈◌}
use Rattle.rational.specs.Rational.{middle}
use Rattle.rational.specs.Extended.{Extended, ◌≈ᵉ◌, Affine, value_at, Passes}
use Rattle.rational.specs.InPlay.{IsLineOn}
use Rattle.rational.specs.Affine.{AreSame}
use Rattle.rational.specs.Windows.{Function}
use Rattle.rational.proofs.Order.{le_or_lt, lt_or_same_or_gt, le_refl, le_of_lt, le_of_same, ge_of_same, le_trans, lt_of_lt_of_le, lt_of_le_of_lt}
use Rattle.rational.proofs.Order.{lt_irrefl, not_lt_of_le, same_sym, same_trans, left_of_middle, right_of_middle}
use Rattle.rational.proofs.AffineLemmas.{same_symᵉ, same_transᵉ}
use Rattle.rational.proofs.Events.{same_by_two}
use Rattle.rational.proofs.LimitLemmas.{HasOneValue, line_on_part, lines_same}
use Rattle.stl_syntax.specs.Trace.{Trace}
use Rattle.stl_syntax.specs.Formula.{Subformula}
use Rattle.stl_syntax.specs.Knots.{Knot, Piece, Knots, IsInside}
use Rattle.stl_syntax.specs.SupInf.{Robustness, margin_setting}
use Rattle.stl_syntax.specs.Verdicts.{IsRobustInside, TellsClosed}
use Rattle.stl_syntax.proofs.LawProofs.{values_are_of_times, one_value}
use Rattle.online_nodes.specs.MarginEdges.{Part, point, gap}
use Rattle.promises.specs.SureMargins.{AreTrueParts, AreInTurn, CoverParts}
use Rattle.promises.proofs.MarginTruth.{one_inside}
use Rattle.agreeing.proofs.KnotsFrom.{TellFrom, go_on, all_tell, up_to_end}
use Rattle.agreeing_inputs.specs.JoinedParts.{AllLieInside, AreJoinedAfter, AreJoinedParts}

-- parts in turn from another pair of the time
turn_from : (c d to : Rational) (parts : List Part) → c ≈ d → AreInTurn c to parts → AreInTurn d to parts
turn_from c d to [] e h = same_trans (same_sym e) h
turn_from c d to (point t v ∷ parts) e h = absurd h
turn_from c d to (gap a b v w ∷ []) e h = absurd h
turn_from c d to (gap a b v w ∷ (gap x y u z ∷ parts)) e h = absurd h
turn_from c d to (gap a b v w ∷ (point t x ∷ parts)) e h = (same_trans h.0 e, h.1, h.2)

module _ (p : Subformula) (tr : Trace) where
  -- the robustness, as a function of time
  abbrev R : Function
  R = λ t v. Robustness p tr t v

  one : HasOneValue R
  one t v w a b = one_value p (margin_setting tr) t v w tt a b

  -- the line of a piece
  record Through (k : Knot) (q : Piece) : Type 0 where
    line : Affine
    begins : Passes line k.time q.from
    ends : Passes line q.next.time q.to
    follows : IsLineOn R k.time q.next.time line

  through_of : (k : Knot) (q : Piece) → IsRobustInside p tr k q → Through k q
  through_of k q h = by_middle (h.1 (middle k.time q.next.time) (left_of_middle h.0) (right_of_middle h.0)).2
    where
      by_middle : {r : Extended} → IsInside k q (middle k.time q.next.time) r → Through k q
      by_middle i = record {
        line = i.through;
        begins = i.from;
        ends = i.to;
        follows = λ t a b. let (v, told, j) = h.1 t a b in
            let same = same_by_two j.through i.through k.time q.next.time h.0
            (same_transᵉ (value_at j.through k.time) q.from (value_at i.through k.time) (same_symᵉ q.from (value_at j.through k.time) j.from) i.from)
            (same_transᵉ (value_at j.through q.next.time) q.to (value_at i.through q.next.time)
            (same_symᵉ q.to (value_at j.through q.next.time) j.to) i.to) in
            (v, told, same_transᵉ v (value_at j.through t) (value_at i.through t) j.value (same t));
      }

  -- parts in turn do not lead back
  lead_on : (at to : Rational) (parts : List Part) → AreInTurn at to parts → AreTrueParts p tr parts → at ≤ʳ to
  lead_on at to [] h told = le_of_same h
  lead_on at to (point t v ∷ parts) h told = absurd h
  lead_on at to (gap a b v w ∷ []) h told = absurd h
  lead_on at to (gap a b v w ∷ (gap x y u z ∷ parts)) h told = absurd h
  lead_on at to (gap a b v w ∷ (point t x ∷ parts)) h told =
      le_trans (ge_of_same h.0) (le_trans (le_of_lt told.0.0) (le_trans (le_of_same h.1) (lead_on t to parts h.2 told.1.1)))

  module _ (to : Rational) where
    -- a knot that is needed does not lie inside a gap
    not_in_gap : (k l : Knot) (q b : Piece) (pieces : List Piece) → TellFrom p tr to k (q ∷ pieces) → IsRobustInside p tr l b → k.time ≤ʳ l.time
        → l.time <ʳ q.next.time → b.next.time ≤ʳ to → ¬ (q.next.time <ʳ b.next.time)
    not_in_gap k l q b [] h i from inside end past = not_lt_of_le (le_trans end (ge_of_same h.2)) past
    not_in_gap k l q b (c ∷ pieces) h i from inside end past = h.2.0 (record {
      through = g.line;
      begins = same_transᵉ q.from (value_at f.line k.time) (value_at g.line k.time) f.begins (f_is k.time);
      arrives = same_transᵉ q.to (value_at f.line q.next.time) (value_at g.line q.next.time) f.ends (f_is q.next.time);
      here = let (v, told, through) = g.follows q.next.time inside past in
          same_transᵉ q.next.value v (value_at g.line q.next.time) (one q.next.time q.next.value v h.1 told) through;
      leaves = same_transᵉ c.from (value_at d.line q.next.time) (value_at g.line q.next.time) d.begins (d_is q.next.time);
      ends = same_transᵉ c.to (value_at d.line c.next.time) (value_at g.line c.next.time) d.ends (d_is c.next.time);
    })
      where
        f : Through k q
        f = through_of k q h.0

        g : Through l b
        g = through_of l b i

        d : Through q.next c
        d = through_of q.next c h.2.1

        f_is : AreSame f.line g.line
        f_is = lines_same R f.line g.line one inside (line_on_part R f.line from (le_refl q.next.time) f.follows)
            (line_on_part R g.line (le_refl l.time) (le_of_lt past) g.follows)

        by_end : (c.next.time ≤ʳ b.next.time) ⊎ (b.next.time <ʳ c.next.time) → AreSame d.line g.line
        by_end (inl m) = lines_same R d.line g.line one h.2.1.0 d.follows (line_on_part R g.line (le_of_lt inside) m g.follows)
        by_end (inr m) = lines_same R d.line g.line one past (line_on_part R d.line (le_refl q.next.time) (le_of_lt m) d.follows)
            (line_on_part R g.line (le_of_lt inside) (le_refl b.next.time) g.follows)

        d_is : AreSame d.line g.line
        d_is = by_end (le_or_lt c.next.time b.next.time)

    -- a value inside a piece is read inside it
    read_inside : (k : Knot) (q : Piece) → IsRobustInside p tr k q → (t : Rational) (r : Extended) → k.time <ʳ t → t <ʳ q.next.time → Robustness p tr t r
        → IsInside k q t r
    read_inside k q h t r a b is =
        let (v, told, i) = h.1 t a b in
        record {
          after = a;
          before = b;
          through = i.through;
          from = i.from;
          to = i.to;
          value = same_transᵉ r v (value_at i.through t) (one t r v is told) i.value;
        }

    inside_alike : (k : Knot) (q : Piece) (t : Rational) (r v : Extended) → r ≈ᵉ v → IsInside k q t v → IsInside k q t r
    inside_alike k q t r v e i = record {
      after = i.after;
      before = i.before;
      through = i.through;
      from = i.from;
      to = i.to;
      value = same_transᵉ r v (value_at i.through t) e i.value;
    }

    -- parts from a time inside a piece on: a run up to the knot that ends it, and the others
    record Split (k : Knot) (q : Piece) (at : Rational) (parts : List Part) : Type 0 where
      run : List Part
      others : List Part
      t : Rational
      v : Extended
      is : parts ≡ run ++ point t v ∷ others
      leads : AreInTurn at q.next.time (run ++ point t v ∷ [])
      inside : AllLieInside k q run
      time : t ≈ q.next.time
      value : v ≈ᵉ q.next.value
      rest_leads : AreInTurn t to others
      rest_told : AreTrueParts p tr others

    -- the piece as a part of the robustness
    abbrev as_knot : Rational → Extended → Knot
    as_knot t v = record { time = t; value = v }

    abbrev as_piece : Extended → Extended → Rational → Piece
    as_piece v w b = record { from = v; to = w; next = record { time = b; value = w } }

    -- what is read from a gap that lies within a piece is read inside the piece
    gap_inside : (k l : Knot) (q b : Piece) → IsRobustInside p tr k q → k.time ≤ʳ l.time → b.next.time ≤ʳ q.next.time
        → IsRobustInside p tr l b → (s : Rational) (r : Extended) → IsInside l b s r → IsInside k q s r
    gap_inside k l q b h from end i s r reads =
        let (x, told, j) = i.1 s reads.after reads.before in
        inside_alike k q s r x (one_inside l b s r x i.0 reads j)
        (read_inside k q h s x (lt_of_le_of_lt from reads.after) (lt_of_lt_of_le reads.before end) told)

    split : (k : Knot) (q : Piece) (pieces : List Piece) (at : Rational) (parts : List Part) → TellFrom p tr to k (q ∷ pieces) → k.time ≤ʳ at
        → at <ʳ q.next.time
        → AreInTurn at to parts → AreTrueParts p tr parts → Split k q at parts
    split k q pieces at [] h from before turn told =
        absurd (lt_irrefl (lt_of_lt_of_le before (le_trans (up_to_end p tr to q.next pieces (go_on p tr to k q pieces h.2)) (ge_of_same turn))))
    split k q pieces at (point t v ∷ parts) h from before turn told = absurd turn
    split k q pieces at (gap a b v w ∷ []) h from before turn told = absurd turn
    split k q pieces at (gap a b v w ∷ (gap x y u z ∷ parts)) h from before turn told = absurd turn
    split k q pieces at (gap a b v w ∷ (point t x ∷ parts)) h from before turn told =
        by_time (λ l. split k q pieces t parts h (le_of_lt after) l turn.2 told.1.1) (lt_or_same_or_gt t q.next.time)
      where
        begin : k.time ≤ʳ a
        begin = le_trans from (ge_of_same turn.0)

        after : k.time <ʳ t
        after = lt_of_le_of_lt begin (lt_of_lt_of_le told.0.0 (le_of_same turn.1))

        by_time : (t <ʳ q.next.time → Split k q t parts) → (t <ʳ q.next.time) ⊎ (t ≈ q.next.time) ⊎ (q.next.time <ʳ t)
            → Split k q at (gap a b v w ∷ (point t x ∷ parts))
        by_time on (inl l) =
            let more = on l in
            record {
              run = gap a b v w ∷ (point t x ∷ more.run);
              others = more.others;
              t = more.t;
              v = more.v;
              is = ap (λ rest. gap a b v w ∷ (point t x ∷ rest)) more.is;
              leads = (turn.0, turn.1, more.leads);
              inside = (
                gap_inside k (as_knot a v) q (as_piece v w b) h.0 begin (le_of_lt (lt_of_le_of_lt (le_of_same turn.1) l)) told.0,
                (
                  λ s r reads. inside_alike k q s r x reads.1
                      (read_inside k q h.0 s x (lt_of_lt_of_le after (ge_of_same reads.0)) (lt_of_le_of_lt (le_of_same reads.0) l)
                      (values_are_of_times p (margin_setting tr) t s x (same_sym reads.0) told.1.0)),
                  more.inside,
                ),
              );
              time = more.time;
              value = more.value;
              rest_leads = more.rest_leads;
              rest_told = more.rest_told;
            }
        by_time on (inr (inl e)) = record {
          run = gap a b v w ∷ [];
          others = parts;
          t = t;
          v = x;
          is = refl;
          leads = (turn.0, turn.1, e);
          inside = (gap_inside k (as_knot a v) q (as_piece v w b) h.0 begin (le_of_same (same_trans turn.1 e)) told.0, tt);
          time = e;
          value = one q.next.time x q.next.value (values_are_of_times p (margin_setting tr) t q.next.time x e told.1.0) h.1;
          rest_leads = turn.2;
          rest_told = told.1.1;
        }
        by_time on (inr (inr l)) = absurd (not_in_gap k (as_knot a v) q (as_piece v w b) pieces h told.0 begin (lt_of_le_of_lt (le_of_same turn.0) before)
            (le_trans (le_of_same turn.1) (lead_on t to parts turn.2 told.1.1)) (lt_of_lt_of_le l (ge_of_same turn.1)))

    joined_after : (k : Knot) (pieces : List Piece) (at : Rational) (parts : List Part) → TellFrom p tr to k pieces → at ≈ k.time → AreInTurn at to parts
        → AreTrueParts p tr parts → AreJoinedAfter k pieces parts
    joined_after k [] at [] h e turn told = refl
    joined_after k [] at (point t v ∷ parts) h e turn told = absurd turn
    joined_after k [] at (gap a b v w ∷ []) h e turn told = absurd turn
    joined_after k [] at (gap a b v w ∷ (gap x y u z ∷ parts)) h e turn told = absurd turn
    joined_after k [] at (gap a b v w ∷ (point t x ∷ parts)) h e turn told =
        absurd (lt_irrefl (lt_of_lt_of_le (lt_of_le_of_lt (ge_of_same (same_trans turn.0 (same_trans e h))) told.0.0)
        (le_trans (le_of_same turn.1) (lead_on t to parts turn.2 told.1.1))))
    joined_after k (q ∷ pieces) at parts h e turn told =
        let s = split k q pieces k.time parts h (le_refl k.time) h.0.0 (turn_from at k.time to parts e turn) told in (
          s.run,
          s.others,
          s.t,
          s.v,
          s.is,
          s.leads,
          s.inside,
          s.time,
          s.value,
          joined_after q.next pieces s.t s.others (go_on p tr to k q pieces h.2) s.time s.rest_leads s.rest_told,
        )

    -- parts that cover a stretch and tell the robustness, joined, are the knots that tell it there
    pub parts_join : (from : Rational) (parts : List Part) (knots : Knots) → CoverParts from to parts → AreTrueParts p tr parts
        → TellsClosed p tr from to knots → AreJoinedParts parts knots
    parts_join from [] knots c told h = absurd c
    parts_join from (gap a b v w ∷ parts) knots c told h = absurd c
    parts_join from (point t v ∷ parts) knots c told h =
        let e = same_trans c.0 (same_sym h.0) in (
          e,
          one knots.first.time v knots.first.value (values_are_of_times p (margin_setting tr) t knots.first.time v e told.0) h.1,
          joined_after knots.first knots.pieces t parts (all_tell p tr to from knots.first knots.pieces h.0 h.2) e c.1 told.1,
        )
