-- What a constant or an atom leaves at a row.
use Rattle.std.proofs.Common.{◌≡◌, ◌≢◌, ◌⊎◌, inl, inr, ℕ, suc, ◌<◌, ◌≤◌, ◌^◌, Bool, true, false, List, [], ◌∷◌, ◌++◌}
use Rattle.std.proofs.Common.{length, refl, sym, ap, subst, ◌∙◌, arith, Option, Some, None, pos, ◌-ℤ◌, take, get_or}
use Rattle.std.specs.Prelude.{IfSome, IsTrue, map, slice_get}
use Rattle.std.proofs.lemmas.Int.{ints}
use Rattle.std.proofs.lemmas.Option.{slice_get_within, same_Some}
use Rattle.rational.specs.Rational.{Rational}
use Rattle.rational.specs.Time.{◌<ʳ◌}
use Rattle.rational.specs.Extended.{value_at, infinity, minus_infinity}
use Rattle.rational.proofs.AffineLemmas.{same_reflᵉ}
use Rattle.rational.specs.Affine.{IsBounded}
use Rattle.value_laws.specs.Margins.{is_ramp, margin_base, margin_function, others_base}
use Rattle.value_laws.specs.declared.margin.Margin.{Margin}
use Rattle.stl_syntax.specs.Trace.{Header, Row, Trace, IsTrace, Continues, first_time, last_time, row_time}
use Rattle.stl_syntax.specs.Formula.{Subformula, constant, atom, subformula, horizon}
use Rattle.stl_syntax.specs.SupInf.{Robustness}
use Rattle.stl_syntax.specs.Limits.{reach}
use Rattle.stl_syntax.specs.declared.scale.Scale.{Scale}
use Rattle.stl_syntax.specs.declared.atom.Atom.{Atom}
use Rattle.stl_syntax.specs.declared.node.Node.{Node}
use Rattle.stl_syntax.specs.declared.node.Node.TheVariants.{Atom as Leaf}
use Rattle.stl_syntax.proofs.RowsLemmas.{last_time-push}
use Rattle.atom_lines.specs.Binding.{Binding, IsBound, IsFor}
use Rattle.online_nodes.specs.MarginEdges.{AreNewParts}
use Rattle.online_nodes.specs.Needed.{IsReader}
use Rattle.online_nodes.specs.StreamedWide.{front_at}
use Rattle.online_robust.specs.Held.{Held, edge_at, no_edge, with_edge, with_more, with_number}
use Rattle.online_robust.specs.Steps.{seen_by}
use Rattle.online_robust.specs.Putting.{constant_margin, AreRowLines, HasPutRow, IsAtomPiece, IsAtomValue}
use Rattle.online_robust.specs.Pasts.{Past, trace_of, part_of, shown_of, number_by, shown_by, IsWork}
use Rattle.online_robust.specs.Moving.{Move, AreMore, CanMove, HasMoved, IsRowNext, last_row_of, last_row_after}
use Rattle.online_robust.specs.declared.line.MarginLine.{MarginLine}
use Rattle.online_robust.specs.declared.station.Work.{Work}
use Rattle.online_robust.proofs.OperatorGoesOn.{edge_other, edge_same, length-set-edges}
use Rattle.online_robust.proofs.Leaves.{IsLeafAt, first_parts, first_told, later_parts, later_told}
use Rattle.online_robust.proofs.RowFacts.{number_here, number_shown, last_not_below}

-- ---- what is new

module _ (p : Subformula) (header : Header) (most : ℕ) (r : Row) (piece v : Margin) (more : List MarginLine) where
  abbrev pub NewLines : List Row → Type 0
  NewLines rows =
      AreNewParts p (record { header = header; rows = rows ++ r ∷ [] }) (shown_by false p rows) (shown_by false p (rows ++ r ∷ [])) (map part_of more)
      × ((tr : Trace) → IsTrace tr → Continues tr header (rows ++ r ∷ []) false
      → AreMore (Robustness p tr) most (first_time (rows ++ r ∷ [])) (shown_by false p rows) (shown_by false p (rows ++ r ∷ [])) more)

  number_flat : (n : ℕ) → horizon p ≡ 0 → front_at false (pos n) p ≡ pos n
  number_flat n flat = subst (λ h. pos n -ℤ pos h ≡ pos n) (sym flat) (omega (arith, ints))

  -- a row is the number of a node that looks nowhere
  pub number_row : (rows : List Row) → horizon p ≡ 0 → IsTrace (record { header = header; rows = rows ++ r ∷ [] })
      → number_by false p (rows ++ r ∷ []) ≡ Some (pos r.time)
  number_row rows flat is =
      number_here header p false (rows ++ r ∷ []) is
      ∙ ap (λ n. Some (front_at false (pos n) p)) (last_time-push 0 rows r) ∙ ap Some (number_flat r.time flat)

  shown_row : (rows : List Row) → horizon p ≡ 0 → IsTrace (record { header = header; rows = rows ++ r ∷ [] })
      → shown_by false p (rows ++ r ∷ []) ≡ Some (pos r.time)
  shown_row rows flat is =
      number_shown p false (rows ++ r ∷ []) (pos r.time) (number_row rows flat is)
      (let le = last_not_below header (rows ++ r ∷ []) is in let last = last_time-push 0 rows r in omega (arith, ints, le, last))

  -- its new lines are those of the row
  pub new_lines : (rows : List Row) → IsLeafAt p header rows (last_row_of rows) r piece v → IsTrace (record { header = header; rows = rows ++ r ∷ [] })
      → r.time ≤ 4294967295 → AreRowLines (last_row_of rows) r piece v more → NewLines rows
  new_lines [] leaf is small lines = (
    subst (λ o. AreNewParts p (record { header = header; rows = r ∷ [] }) None o (map part_of more)) (sym (shown_row [] leaf.flat is))
        (first_parts p header r piece v most leaf is small more lines),
    λ tr trace c.
        subst (λ o. AreMore (Robustness p tr) most r.time None o more) (sym (shown_row [] leaf.flat is))
        (first_told p header r piece v most leaf is small more lines tr trace c),
  )
  new_lines (q ∷ rows) leaf is small lines = (
    subst (λ o. AreNewParts p (record { header = header; rows = q ∷ rows ++ r ∷ [] }) (shown_by false p (q ∷ rows)) o (map part_of more))
        (sym (shown_row (q ∷ rows) leaf.flat is))
        (later_parts p header r piece v most q rows leaf is small more lines),
    λ tr trace c.
        subst (λ o. AreMore (Robustness p tr) most q.time (shown_by false p (q ∷ rows)) o more) (sym (shown_row (q ∷ rows) leaf.flat is))
        (later_told p header r piece v most q rows leaf is small more lines tr trace c),
  )

-- ---- the node

module _ (m : Move) (w : Work) (e : Held) (can : CanMove m w e) (b : Binding) (before : Option Row) (r : Row) (row : IsRowNext m b before r)
    (piece v : Margin) (leaf : IsLeafAt (subformula m.nodes m.place) m.header m.old.rows before r piece v)
    (unread : (n : Node) → slice_get m.nodes m.place ≡ Some n → (left : Bool) (j : ℕ) → IsReader n left j → ⊥)
    (works : (n : Node) (old new : Past) (seen seen' : List MarginLine) → IsWork m.nodes m.header old m.place n seen w
    → IsWork m.nodes m.header new m.place n seen' w)
    (e' : Held) (put : HasPutRow m.place before r piece v e e') where
  abbrev p : Subformula
  p = subformula m.nodes m.place

  abbrev most : ℕ
  most = reach (take (suc m.place) m.nodes)

  abbrev noted : Held
  noted = record e' { edges = with_edge e' m.place (with_number (edge_at e' m.place) (pos r.time)) }

  within : m.place < length e.edges
  within = let l = slice_get_within m.nodes m.place can.node can.at in let k = can.edges in omega (arith, l, k)

  count' : length e'.edges ≡ length e.edges
  count' = ap length put.2.edges ∙ length-set-edges e m.place (with_more (edge_at e m.place) put.0)

  got : edge_at noted m.place ≡ with_number (with_more (edge_at e m.place) put.0) (pos r.time)
  got =
      edge_same e' m.place (with_number (edge_at e' m.place) (pos r.time)) (omega (arith, within, count'))
      ∙ ap (λ x. with_number x (pos r.time)) (ap (λ l. get_or l m.place no_edge) put.2.edges
      ∙ edge_same e m.place (with_more (edge_at e m.place) put.0) within)

  other : (j : ℕ) → j ≢ m.place → edge_at noted j ≡ edge_at e j
  other j apart =
      edge_other e' m.place j (with_number (edge_at e' m.place) (pos r.time)) apart
      ∙ ap (λ l. get_or l j no_edge) put.2.edges ∙ edge_other e m.place j (with_more (edge_at e m.place) put.0) apart

  trace_now : IsTrace (record { header = m.header; rows = m.old.rows ++ r ∷ [] })
  trace_now = subst (λ (q : Past). IsTrace (trace_of m.header q)) row.new can.trace

  small : r.time ≤ 4294967295
  small =
      let all : last_time 0 (m.old.rows ++ r ∷ []) ≤ 4294967295 = subst (λ (q : Past). last_time 0 q.rows ≤ 4294967295) row.new can.small in
      let last = last_time-push 0 m.old.rows r in omega (arith, all, last)

  leaf_now : IsLeafAt p m.header m.old.rows (last_row_of m.old.rows) r piece v
  leaf_now = subst (λ o. IsLeafAt p m.header m.old.rows o r piece v) row.last leaf

  lines_now : AreRowLines (last_row_of m.old.rows) r piece v put.0
  lines_now = subst (λ o. AreRowLines o r piece v put.0) row.last put.1

  new : NewLines p m.header most r piece v put.0 m.old.rows
  new = new_lines p m.header most r piece v put.0 m.old.rows leaf_now trace_now small lines_now

  old_open : shown_of m.nodes m.old m.place ≡ shown_by false p m.old.rows
  old_open = ap (λ c. shown_by c p m.old.rows) can.next.0

  -- a constant or an atom has moved by a row
  pub leaf_moved : HasMoved m w e noted
  leaf_moved = record {
    more = put.0;
    number = pos r.time;
    number_is = ap (λ (q : Past). number_by q.ended p q.rows) row.new ∙ number_row p m.header most r piece v put.0 m.old.rows leaf.flat trace_now;
    got = got;
    parts =
        subst (λ (q : Past). AreNewParts p (trace_of m.header q) (shown_of m.nodes m.old m.place) (shown_of m.nodes q m.place) (map part_of put.0))
        (sym row.new)
        (subst (λ o. AreNewParts p (record { header = m.header; rows = m.old.rows ++ r ∷ [] }) o
        (shown_by false p (m.old.rows ++ r ∷ [])) (map part_of put.0)) (sym old_open) new.0);
    told =
        subst (λ (q : Past). (tr : Trace) → IsTrace tr → Continues tr m.header q.rows q.ended
        → AreMore (Robustness p tr) most (first_time q.rows) (shown_of m.nodes m.old m.place) (shown_of m.nodes q m.place) put.0) (sym row.new)
        (λ tr trace c.
        subst (λ o. AreMore (Robustness p tr) most (first_time (m.old.rows ++ r ∷ [])) o (shown_by false p (m.old.rows ++ r ∷ [])) put.0)
        (sym old_open) (new.1 tr trace c));
    work = λ n at.
        works n m.old m.new (seen_by n e) (seen_by n noted)
        (subst (λ k. IsWork m.nodes m.header m.old m.place k (seen_by k e) w) (same_Some _ _ (sym can.at ∙ at)) can.work);
    inputs = λ n j side at reads. absurd (unread n at side j reads);
    others = λ j apart none. other j apart;
    edges = length-set-edges e' m.place (with_number (edge_at e' m.place) (pos r.time)) ∙ count';
    start = put.2.start;
  }

-- ---- constants

-- a constant has its margin at the row and since the row before
pub constant_leaf : (c : Bool) (header : Header) (rows : List Row) (before : Option Row) (r : Row)
    → IsLeafAt (constant c) header rows before r (constant_margin c) (constant_margin c)
constant_leaf c header rows before r = record {
  flat = refl;
  here = λ tr trace go t e. value c tr t;
  since = λ tr trace go. by_before before tr;
  within = λ t. bounded c t;
  limits = limits_of before;
  base = base_of c;
  base_since = bases before;
}
  where
    value : (c : Bool) (tr : Trace) (t : Rational) → Robustness (constant c) tr t (value_at (margin_function (constant_margin c)) t)
    value true tr t = same_reflᵉ infinity
    value false tr t = same_reflᵉ minus_infinity

    bounded : (c : Bool) (t : Rational) → IsBounded (2 ^ 31) (value_at (margin_function (constant_margin c)) t)
    bounded true t = tt
    bounded false t = tt

    base_of : (c : Bool) → margin_base (constant_margin c) ≡ pos 0
    base_of true = refl
    base_of false = refl

    by_before : (o : Option Row) (tr : Trace)
        → IfSome o (λ f. (t : Rational) → row_time f <ʳ t → t <ʳ row_time r → Robustness (constant c) tr t (value_at (margin_function (constant_margin c)) t))
    by_before None tr = tt
    by_before (Some f) tr = λ t low high. value c tr t

    limits_of : (o : Option Row) → IfSome o (λ f. IsBounded (2 ^ 31) (value_at (margin_function (constant_margin c)) (row_time f))
        × IsBounded (2 ^ 31) (value_at (margin_function (constant_margin c)) (row_time r)))
    limits_of None = tt
    limits_of (Some f) = (bounded c (row_time f), bounded c (row_time r))

    bases : (o : Option Row) → IfSome o (λ f. (margin_base (constant_margin c) ≡ pos f.time) ⊎ (margin_base (constant_margin c) ≡ pos 0))
    bases None = tt
    bases (Some f) = inr (base_of c)

-- ---- atoms

got_at : (rows : List Row) (r : Row) (more : List Row) → slice_get ((rows ++ r ∷ []) ++ more) (length rows) ≡ Some r
got_at [] r more = refl
got_at (q ∷ rows) r more = got_at rows r more

got_before : (q : Row) (rows : List Row) (r : Row) (more : List Row) → slice_get ((q ∷ rows ++ r ∷ []) ++ more) (length rows) ≡ Some (last_row_after q rows)
got_before q [] r more = refl
got_before q (s ∷ rows) r more = got_before s rows r more

module _ (nodes : List Node) (header : Header) (b : Binding) (scale : Scale)
    (bound : IsBound b (record { nodes = nodes; scale = scale }) header) (i : ℕ) (a : Atom)
    (found : slice_get nodes i ≡ Some (Leaf a)) where
  for_trace : (tr : Trace) → IsTrace tr → tr.header ≡ header → IsFor b i a tr
  for_trace tr is e = record {
    formula = record { nodes = nodes; scale = scale };
    bound = subst (IsBound b (record { nodes = nodes; scale = scale })) (sym e) bound;
    node = found;
    rows = is;
  }

  -- an atom has its margin at the row and since the row before
  pub atom_leaf : (rows : List Row) (r : Row) (piece v : Margin) → IsAtomPiece b i (last_row_of rows) r piece → IsAtomValue b i r v
      → IsLeafAt (atom i a) header rows (last_row_of rows) r piece v
  atom_leaf rows r piece v is_piece is_value = record {
    flat = refl;
    here = λ tr trace c t e.
        is_value.margin a tr t (for_trace tr trace c.same_header)
        (length rows, subst (λ l. slice_get l (length rows) ≡ Some r) (sym c.begins) (got_at rows r c.more)) e;
    since = λ tr trace c. since rows is_piece tr trace c;
    within = is_value.within;
    limits = limits rows is_piece;
    base = others_base v is_value.level;
    base_since = bases rows is_piece;
  }
    where
      since : (rows : List Row) → IsAtomPiece b i (last_row_of rows) r piece → (tr : Trace) → IsTrace tr → Continues tr header (rows ++ r ∷ []) false
          → IfSome (last_row_of rows)
          (λ f. (t : Rational) → row_time f <ʳ t → t <ʳ row_time r → Robustness (atom i a) tr t (value_at (margin_function piece) t))
      since [] is tr trace c = tt
      since (q ∷ rows) is tr trace c = λ t low high.
          is.0 a tr t (for_trace tr trace c.same_header) (
            length rows,
            subst (λ l. slice_get l (length rows) ≡ Some (last_row_after q rows)) (sym c.begins) (got_before q rows r c.more),
            subst (λ l. slice_get l (suc (length rows)) ≡ Some r) (sym c.begins) (got_at (q ∷ rows) r c.more),
          ) low high

      limits : (rows : List Row) → IsAtomPiece b i (last_row_of rows) r piece
          → IfSome (last_row_of rows)
          (λ f. IsBounded (2 ^ 31) (value_at (margin_function piece) (row_time f)) × IsBounded (2 ^ 31) (value_at (margin_function piece) (row_time r)))
      limits [] is = tt
      limits (q ∷ rows) is = (is.2, is.3)

      by_kind : (f : Row) (t : Bool) → is_ramp piece ≡ t → (IsTrue (is_ramp piece) → margin_base piece ≡ pos f.time)
          → (margin_base piece ≡ pos f.time) ⊎ (margin_base piece ≡ pos 0)
      by_kind f true e base = inl (base e)
      by_kind f false e base = inr (others_base piece e)

      bases : (rows : List Row) → IsAtomPiece b i (last_row_of rows) r piece
          → IfSome (last_row_of rows) (λ f. (margin_base piece ≡ pos f.time) ⊎ (margin_base piece ≡ pos 0))
      bases [] is = tt
      bases (q ∷ rows) is = by_kind (last_row_after q rows) (is_ramp piece) refl is.1
