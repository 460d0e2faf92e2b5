-- The lines of a stream of margins are the robustness in each trace that goes on from the rows, and in the end they cover the trace.
use Rattle.std.proofs.Common.{◌≡◌, ◌⊎◌, inl, inr, refl, sym, ap, subst, ◌∙◌, ℕ, zero, suc, Bool, true, false, Option}
use Rattle.std.proofs.Common.{Some, None, List, [], ◌∷◌, ◌++◌, ℤ, pos, ◌≤ℤ◌, arith, append_assoc}
use Rattle.std.specs.Prelude.{MatchBool, int_lt, slice_get}
use Rattle.std.proofs.lemmas.Int.{ints}
use Rattle.rational.specs.Time.{Rational, ◌≤ʳ◌, ◌≈◌, whole}
use Rattle.rational.specs.Extended.{Extended, ◌≈ᵉ◌}
use Rattle.rational.proofs.Order.{le_trans, le_of_same, ge_of_same, le_of_lt, same_refl, same_sym, same_trans}
use Rattle.rational.proofs.AffineLemmas.{same_symᵉ, same_transᵉ}
use Rattle.rational.proofs.Shift.{le_whole}
use Rattle.rational.proofs.Tests.{int_order}
use Rattle.stl_syntax.specs.Trace.{Header, Row, Trace, first_time}
use Rattle.stl_syntax.specs.Formula.{Formula, Subformula, root}
use Rattle.stl_syntax.specs.Knots.{Knot, Piece, Knots}
use Rattle.stl_syntax.specs.SupInf.{Robustness, margin_setting}
use Rattle.stl_syntax.specs.Verdicts.{IsRobust, IsRobustInside, PiecesGoOn, TellsAfter}
use Rattle.stl_syntax.specs.Texts.{AreMarginLines, ArePieceLines}
use Rattle.stl_syntax.specs.declared.scale.Scale.{Scale}
use Rattle.stl_syntax.proofs.LawProofs.{answered_margins_stay, values_are_of_times}
use Rattle.stl_syntax.proofs.SupInfLemmas.{SupInf-unique, margins_give_one}
use Rattle.online_nodes.specs.MarginEdges.{Part, point, gap, parts_after, parts_of}
use Rattle.online_nodes.specs.MarginStream.{TellsLeftOpen, IsNewMargins, IsMarginStream}
use Rattle.workbench.specs.Requests.{margins}
use Rattle.workbench.specs.Ended.{IsAnsweredByRow}
use Rattle.promises.specs.SureMargins.{ArePartLines, IsTruePart, AreTrueParts, AreSureMargins, AreSureMarginsByRow}
use Rattle.promises.specs.SureMargins.{AreSureMarginsToEnd, AreInTurn, CoverParts, IsMarginCover, ReadsPart, IsMarginText}
use Rattle.promises.proofs.MarginTruth.{one_inside, reads}
use Rattle.promises.proofs.SureRows.{Low, Lines, IsKind, sure_by_row, sure_at_end, whole_passage}
use Rattle.stl_syntax.specs.Scaling.{nodes_for}

-- ---- the parts of knots

-- what is the robustness in the one trace is it in the other
abbrev Agree : Subformula → Trace → Trace → Rational → Type 0
Agree p tr tr' t = (v : Extended) → Robustness p tr t v → Robustness p tr' t v

module _ (p : Subformula) (tr : Trace) (to : Rational) where
  before_end : (j : Knot) (before : Piece) (pieces : List Piece) → PiecesGoOn p tr to j before pieces → before.next.time ≤ʳ to
  before_end j before [] h = le_of_same h
  before_end j before (after ∷ pieces) h = le_trans (le_of_lt h.1.0) (before_end before.next after pieces h.3)

  pieces_join : (j : Knot) (before : Piece) (pieces : List Piece) → PiecesGoOn p tr to j before pieces
      → AreInTurn before.next.time to (parts_after before.next.time pieces)
  pieces_join j before [] h = h
  pieces_join j before (after ∷ pieces) h = (same_refl before.next.time, same_refl after.next.time, pieces_join before.next after pieces h.3)

  after_join : (k : Knot) (pieces : List Piece) → TellsAfter p tr to k pieces → AreInTurn k.time to (parts_after k.time pieces)
  after_join k [] h = absurd h
  after_join k (q ∷ pieces) h = (same_refl k.time, same_refl q.next.time, pieces_join k q pieces h.2)

  closed_covers : (from : Rational) (first : Knot) (pieces : List Piece) → first.time ≈ from → ((pieces ≡ []) × (from ≈ to)) ⊎ TellsAfter p tr to first pieces
      → CoverParts from to (point first.time first.value ∷ parts_after first.time pieces)
  closed_covers from first [] e (inl (none, same)) = (e, same_trans e same)
  closed_covers from first [] e (inr tells) = absurd tells
  closed_covers from first (q ∷ pieces) e (inl (none, same)) = absurd (let k = none in cc)
  closed_covers from first (q ∷ pieces) e (inr tells) = (e, after_join first (q ∷ pieces) tells)

  module _ (tr' : Trace) (from : Rational) (agree : (t : Rational) → from ≤ʳ t → t ≤ʳ to → Agree p tr tr' t) where
    piece_told : (k : Knot) (q : Piece) → from ≤ʳ k.time → q.next.time ≤ʳ to → IsRobustInside p tr k q → IsTruePart p tr' (gap k.time q.next.time q.from q.to)
    piece_told k q b e h = (
      h.0,
      λ t x y. let (r, is, at) = h.1 t x y in (
        r,
        agree t (le_trans b (le_of_lt x)) (le_trans (le_of_lt y) e) r is,
        record { after = at.after; before = at.before; through = at.through; from = at.from; to = at.to; value = at.value },
      ),
    )

    pieces_told : (j : Knot) (before : Piece) (pieces : List Piece) → from ≤ʳ before.next.time → PiecesGoOn p tr to j before pieces
        → AreTrueParts p tr' (parts_after before.next.time pieces)
    pieces_told j before [] b h = tt
    pieces_told j before (after ∷ pieces) b h =
        let end = before_end before.next after pieces h.3 in
        let here = le_trans b (le_of_lt h.1.0) in
        (piece_told before.next after b end h.1, (agree after.next.time here end after.next.value h.2, pieces_told before.next after pieces here h.3))

    after_told : (k : Knot) (pieces : List Piece) → from ≤ʳ k.time → TellsAfter p tr to k pieces → AreTrueParts p tr' (parts_after k.time pieces)
    after_told k [] b h = absurd h
    after_told k (q ∷ pieces) b h =
        let end = before_end k q pieces h.2 in
        let here = le_trans b (le_of_lt h.0.0) in
        (piece_told k q b end h.0, (agree q.next.time here end q.next.value h.1, pieces_told k q pieces here h.2))

    closed_told : (first : Knot) (pieces : List Piece) → first.time ≈ from → IsRobust p tr first
        → ((pieces ≡ []) × (from ≈ to)) ⊎ TellsAfter p tr to first pieces
        → AreTrueParts p tr' (point first.time first.value ∷ parts_after first.time pieces)
    closed_told first [] e is (inl (none, same)) = (agree first.time (ge_of_same e) (le_of_same (same_trans e same)) first.value is, tt)
    closed_told first [] e is (inr tells) = absurd tells
    closed_told first (q ∷ pieces) e is (inl (none, same)) = absurd (let k = none in cc)
    closed_told first (q ∷ pieces) e is (inr tells) = (
      agree first.time (ge_of_same e) (le_trans (le_of_lt tells.0.0) (before_end first q pieces tells.2)) first.value is,
      after_told first (q ∷ pieces) (ge_of_same e) tells,
    )

-- the lines of pieces and of knots are those of their parts
piece_lines : (scale : Scale) (k : Knot) (pieces : List Piece) (text : List ℕ) → ArePieceLines scale k pieces text
    → ArePartLines scale (parts_after k.time pieces) text
piece_lines scale k [] text h = h
piece_lines scale k (q ∷ pieces) text (piece, knot, later, h, g, rest, is) =
    (piece, knot ++ later, h, (knot, later, g, piece_lines scale q.next pieces later rest, refl), is ∙ append_assoc piece knot later)

margin_lines : (scale : Scale) (knots : Knots) (text : List ℕ) → AreMarginLines scale knots text → ArePartLines scale (parts_of knots) text
margin_lines scale knots text (first, later, h, rest, is) = (first, later, h, piece_lines scale knots.first knots.pieces later rest, is)

-- ---- parts after parts

lines_append : (scale : Scale) (xs ys : List Part) (x y : List ℕ) → ArePartLines scale xs x → ArePartLines scale ys y → ArePartLines scale (xs ++ ys) (x ++ y)
lines_append scale [] ys x y a b = subst (λ z. ArePartLines scale ys (z ++ y)) (sym a) b
lines_append scale (v ∷ xs) ys x y (here, later, h, rest, is) b =
    (here, later ++ y, h, lines_append scale xs ys later y rest b, ap (λ z. z ++ y) is ∙ append_assoc here later y)

told_append : (p : Subformula) (tr : Trace) (xs ys : List Part) → AreTrueParts p tr xs → AreTrueParts p tr ys → AreTrueParts p tr (xs ++ ys)
told_append p tr [] ys h k = k
told_append p tr (v ∷ xs) ys (h, rest) k = (h, told_append p tr xs ys rest k)

begin_moved : (at mid to : Rational) (ys : List Part) → at ≈ mid → AreInTurn mid to ys → AreInTurn at to ys
begin_moved at mid to [] e h = same_trans e h
begin_moved at mid to (point t v ∷ ys) e h = absurd h
begin_moved at mid to (gap a b v w ∷ []) e h = absurd h
begin_moved at mid to (gap a b v w ∷ (gap c d x y ∷ ys)) e h = absurd h
begin_moved at mid to (gap a b v w ∷ (point t x ∷ ys)) e h = (same_trans h.0 (same_sym e), h.1, h.2)

turn_append : (at mid to : Rational) (xs ys : List Part) → AreInTurn at mid xs → AreInTurn mid to ys → AreInTurn at to (xs ++ ys)
turn_append at mid to [] ys e h = begin_moved at mid to ys e h
turn_append at mid to (point t v ∷ xs) ys e h = absurd e
turn_append at mid to (gap a b v w ∷ []) ys e h = absurd e
turn_append at mid to (gap a b v w ∷ (gap c d x y ∷ xs)) ys e h = absurd e
turn_append at mid to (gap a b v w ∷ (point t x ∷ xs)) ys e h = (e.0, e.1, turn_append t mid to xs ys e.2 h)

cover_append : (from mid to : Rational) (xs ys : List Part) → CoverParts from mid xs → AreInTurn mid to ys → CoverParts from to (xs ++ ys)
cover_append from mid to [] ys e h = absurd e
cover_append from mid to (gap a b v w ∷ xs) ys e h = absurd e
cover_append from mid to (point t v ∷ xs) ys e h = (e.0, turn_append t mid to xs ys e.1 h)

-- ---- a kind of lines

-- up to where a front leads, and nothing where there is none yet
abbrev Led : ℕ → Option ℤ → List Part → Option ℤ → Type 0
Led first old parts None = (old ≡ None) × (parts ≡ [])
Led first None parts (Some f) = CoverParts (whole (pos first)) (whole f) parts
Led first (Some o) parts (Some f) = AreInTurn (whole o) (whole f) parts

no_led : (first : ℕ) (o : Option ℤ) → Led first o [] o
no_led first None = (refl, refl)
no_led first (Some f) = same_refl (whole f)

led_join : (first : ℕ) (old mid new : Option ℤ) (xs ys : List Part) → Led first old xs mid → Led first mid ys new → Led first old (xs ++ ys) new
led_join first old None None xs ys a b = (a.0, ap (λ l. l ++ ys) a.1 ∙ b.1)
led_join first old None (Some f) xs ys a b =
    subst (λ (o : Option ℤ). Led first o (xs ++ ys) (Some f)) (sym a.0)
    (subst (λ (l : List Part). CoverParts (whole (pos first)) (whole f) (l ++ ys)) (sym a.1) b)
led_join first old (Some m) None xs ys a b = absurd (let k = b.0 in cc)
led_join first None (Some m) (Some f) xs ys a b = cover_append (whole (pos first)) (whole m) (whole f) xs ys a b
led_join first (Some o) (Some m) (Some f) xs ys a b = turn_append (whole o) (whole m) (whole f) xs ys a b

module _ (p : Subformula) (header : Header) where
  new_lines : (rows : List Row) (old new : Option ℤ) (text : List ℕ) → Low (first_time rows) old
      → IsNewMargins p (record { header = header; rows = rows }) old new text
      → Lines (ArePartLines header.scale) (AreTrueParts p) (Agree p) Led header rows old new text
  new_lines rows None None text low is = record { items = []; lines = is; told = λ tr agree. tt; led = λ never. (refl, refl) }
  new_lines rows (Some o) None text low is = record { items = []; lines = is; told = λ tr agree. tt; led = λ never. absurd never }
  new_lines rows None (Some f) text low (knots, tells, lines) =
      let seen : Trace = record { header = header; rows = rows } in
      record {
        items = parts_of knots;
        lines = margin_lines header.scale knots text lines;
        told = λ tr agree.
            closed_told p seen (whole f) tr (whole (pos (first_time rows))) (agree f refl) knots.first knots.pieces tells.0 tells.1 tells.2;
        led = λ never. closed_covers p seen (whole f) (whole (pos (first_time rows))) knots.first knots.pieces tells.0 tells.2;
      }
  new_lines rows (Some o) (Some f) text low is = by_test (int_lt o f) refl is
    where
      by_test : (b : Bool) → int_lt o f ≡ b
          → MatchBool b ((k : Knot) × (pieces : List Piece) × TellsLeftOpen p (record { header = header; rows = rows }) (whole o) (whole f) k pieces
          × ArePieceLines header.scale k pieces text) (text ≡ [])
          → Lines (ArePartLines header.scale) (AreTrueParts p) (Agree p) Led header rows (Some o) (Some f) text
      by_test true e (k, pieces, tells, lines) =
          let seen : Trace = record { header = header; rows = rows } in
          record {
            items = parts_after k.time pieces;
            lines = piece_lines header.scale k pieces text lines;
            told = λ tr agree.
                after_told p seen (whole f) tr (whole (pos (first_time rows))) (agree f refl) k pieces (le_trans (le_whole low) (ge_of_same tells.0)) tells.1;
            led = λ never.
                begin_moved (whole o) k.time (whole f) (parts_after k.time pieces) (same_sym tells.0) (after_join p seen (whole f) k pieces tells.1);
          }
      by_test false e none = record { items = []; lines = none; told = λ tr agree. tt; led = λ never. same_place never (int_order o f false e) }
        where
          same_place : o ≤ℤ f → f ≤ℤ o → whole o ≈ whole f
          same_place a b = let e : o ≡ f = omega (arith, ints) in subst (λ z. whole o ≈ whole z) e (same_refl (whole o))

  -- lines of margins are a kind of lines
  kind : IsKind (ArePartLines header.scale) (AreTrueParts p) (Agree p) Led header p (IsNewMargins p)
  kind = record {
    new_lines = new_lines;
    stays = λ r rows tr t is c h v. (answered_margins_stay p header r rows tr false t v is c h).0;
    itself = λ tr t v h. h;
    no_lines = λ text e. e;
    no_told = λ tr. tt;
    no_led = no_led;
    lines_join = lines_append header.scale;
    told_join = told_append p;
    led_join = led_join;
  }

-- the law before the end
pub margins_are_sure : (p : Subformula) (header : Header) (rows : List Row) (text : List ℕ) → IsMarginStream p header rows false text
    → AreSureMarginsByRow p header [] rows text
margins_are_sure p header rows text t =
    sure_by_row (kind p header) (AreSureMargins p header) (λ rows ended text parts lines told. record { parts = parts; lines = lines; told = told }) rows text t

-- the law at the end
pub margins_are_sure_to_end : (p : Subformula) (header : Header) (rows : List Row) (text : List ℕ) → IsMarginStream p header rows true text
    → AreSureMarginsToEnd p header rows text
margins_are_sure_to_end p header rows text (are, (during, rest, t, at_end, is)) = record {
  during = during;
  rest = rest;
  by_row = margins_are_sure p header rows during t;
  at_end =
      sure_at_end (kind p header) (AreSureMargins p header) (λ rows ended text parts lines told. record { parts = parts; lines = lines; told = told })
      rows rest at_end;
  is = is;
}

-- the lines cover the trace
covered : (p : Subformula) (header : Header) (rows : List Row) (text : List ℕ) → IsMarginStream p header rows true text
    → (parts : List Part) × IsMarginCover p (record { header = header; rows = rows }) parts text
covered p header rows text (are, (during, rest, t, at_end, is)) =
    let c = whole_passage (kind p header) rows during rest are t at_end in
    (c.items, record { lines = subst (λ t. ArePartLines header.scale c.items t) (sym is) c.lines; covers = c.led; told = c.told })

-- ---- what `robust` tells

part_at : (p : Subformula) (tr : Trace) (parts : List Part) (i : ℕ) (x : Part) → AreTrueParts p tr parts → slice_get parts i ≡ Some x → IsTruePart p tr x
part_at p tr [] i x a e = absurd (let k = e in cc)
part_at p tr (y ∷ parts) zero x a e = let same : y ≡ x = (let k = e in cc) in subst (λ (z : Part). IsTruePart p tr z) same a.0
part_at p tr (y ∷ parts) (suc i) x a e = part_at p tr parts i x a.1 e

-- what is read from a part is the robustness
read_part : (p : Subformula) (tr : Trace) (x : Part) (t : Rational) (r : Extended) → IsTruePart p tr x → ReadsPart x t r
    → (v : Extended) × Robustness p tr t v × (r ≈ᵉ v)
read_part p tr (point u v) t r is at = (v, values_are_of_times p (margin_setting tr) u t v (same_sym at.0) is, at.1)
read_part p tr (gap a b v w) t r is at = let (value, told, here) = is.1 t at.after at.before in (value, told, one_inside _ _ t r value is.0 at here)

one_value : (p : Subformula) (tr : Trace) (t : Rational) (v w : Extended) → Robustness p tr t v → Robustness p tr t w → v ≈ᵉ w
one_value p tr t v w a b = record {
  at_most = SupInf-unique p (margin_setting tr) t v w (margins_give_one tr) a b;
  at_least = SupInf-unique p (margin_setting tr) t w v (margins_give_one tr) b a;
}

-- the law of what is written in the end
pub margin_text : (f : Formula) (bytes text : List ℕ) (status : ℕ) → IsAnsweredByRow margins f bytes status text → IsMarginText f bytes text
margin_text f bytes text status a =
    let p = root (nodes_for f a.tr) in
    let (parts, c) = covered p a.tr.header a.tr.rows text a.written in
    record {
      tr = a.tr;
      trace = a.trace;
      parts = parts;
      covers = c;
      alike = λ knots d i x t r v e at there.
          let (w, told, is) = read_part p a.tr x t r (part_at p a.tr parts i x c.told e) at in
          let (_, (u, tells, same)) = reads p a.tr knots.first knots.pieces d.0 d.1 d.2 t v there in
          same_transᵉ r w v is (same_transᵉ w u v (one_value p a.tr t w u told tells) (same_symᵉ v u same));
    }
