-- What a network stands for once the rows of a block have come.
use Rattle.std.proofs.Common.{◌≡◌, ◌⊎◌, inl, inr, refl, sym, ap, subst, ◌∙◌, ℕ, zero, suc, ◌+◌, ◌-◌, ◌<◌, ◌≤◌, Bool, true, false, cond}
use Rattle.std.proofs.Common.{Option, Some, None, List, [], ◌∷◌, ◌++◌, length, take, drop, get_or, pos, arith, append_assoc}
use Rattle.std.specs.Prelude.{IfSome, IsTrue, MatchBool, slice_get}
use Rattle.std.proofs.lemmas.Bool.{cases_lt}
use Rattle.std.proofs.lemmas.List.{append-nil}
use Rattle.std.proofs.lemmas.Option.{slice_get-get_or, slice_get_within}
use Rattle.rational.specs.Rational.{Rational, ◌<ʳ◌, ◌≤ʳ◌, ◌≈◌}
use Rattle.rational.specs.Time.{Interval, left_open}
use Rattle.rational.specs.Places.{Place, begins, ends, After, Upto}
use Rattle.rational.proofs.Order.{lt_or_same_or_gt, not_lt_of_le, same_sym, le_of_lt}
use Rattle.rational.proofs.PlaceLemmas.{same_places, after_of_before, after_same}
use Rattle.frac128.specs.Spans.{interval}
use Rattle.stl_syntax.specs.Trace.{Header, Row, Trace, IsTrace, AreRows, row_time}
use Rattle.stl_syntax.specs.Formula.{atom}
use Rattle.stl_syntax.specs.Truth.{compares, expression, holds_at}
use Rattle.stl_syntax.specs.Verdicts.{Describes, GoesOn}
use Rattle.stl_syntax.specs.declared.atom.Atom.{Atom}
use Rattle.stl_syntax.specs.declared.items.Verdict.{Verdict}
use Rattle.stl_syntax.specs.declared.node.Node.{Node}
use Rattle.atom_lines.specs.Binding.{Binding, IsAtomNode, IsFor, AreNeighbours}
use Rattle.atom_lines.specs.Passages.{HasBlock}
use Rattle.atom_lines.specs.Rows.{row_of}
use Rattle.atom_lines.specs.declared.bound_atom.BoundAtom.{BoundAtom}
use Rattle.atom_lines.proofs.Columns.{next_row, row_width}
use Rattle.atom_lines.proofs.Signs.{compare_same}
use Rattle.atom_lines.proofs.SumLemmas.{atom_binding, expression_at_row, expression_in_gap}
use Rattle.online_nodes.specs.Driven.{rows_of}
use Rattle.online_nodes.specs.Network.{Event, row}
use Rattle.online_nodes.specs.Held.{Edge, Held, Stand, edge_at, no_edge, with_more, with_number}
use Rattle.online_nodes.specs.Laws.{AreTiles, AreTold}
use Rattle.online_nodes.specs.declared.operator.Operator.{Operator}
use Rattle.online_nodes.proofs.EmittedLaw.{describes_tiles}
use Rattle.online_nodes.proofs.MeetingLaw.{tiled_upto}
use Rattle.online_nodes.proofs.Stretches.{stand_given}
use Rattle.online_nodes.proofs.ToldSoFar.{in_after, in_upto}
use Rattle.online_net.specs.Atoms.{HasPutAtoms, begun}
use Rattle.online_net.specs.Nets.{Parts, Stands}
use Rattle.online_net.specs.Stretches.{AreOfRows, IsPutRows, HaveRows, rows_between}
use Rattle.online_net.proofs.RowInNet.{fed_stands}
use Rattle.online_net.proofs.StillSteps.{atoms_bound, atom_leaf, row_may}
use Rattle.online_net.proofs.RowParts.{drop_next}

abbrev no_row : Row
no_row = record { time = 0; values = [] }

-- ---- the truth between two rows is the same in each trace in which they follow one another

module _ (b : Binding) (i : ℕ) (k : BoundAtom) (here : slice_get b.atoms i ≡ Some (Some k)) (q r : Row) (later : q.time < r.time) where
  -- it is that of the line between them, or of the sum at the one or the other
  line_truth : (a : Atom) (tr : Trace) → IsFor b i a tr → (t : Rational) {x : Rational} → expression a tr t ≈ x → holds_at a tr t ≡ compares k.rel x
  line_truth a tr for t {x} e = compare_same a.rel e ∙ ap (λ m. compares m x) (sym (atom_binding b i k here a tr for).rel)

  module _ (a a' : Atom) (tr tr' : Trace) (for : IsFor b i a tr) (for' : IsFor b i a' tr') (next : AreNeighbours tr q r) (next' : AreNeighbours tr' q r) where
    pub alike_between : (t : Rational) → row_time q ≤ʳ t → t ≤ʳ row_time r → holds_at a tr t ≡ holds_at a' tr' t
    alike_between t low high = by_first (lt_or_same_or_gt (row_time q) t)
      where
        some : 0 < r.time - q.time
        some = omega (arith, later)

        by_second : row_time q <ʳ t → (t <ʳ row_time r) ⊎ (t ≈ row_time r) ⊎ (row_time r <ʳ t) → holds_at a tr t ≡ holds_at a' tr' t
        by_second l (inl h) =
            line_truth a tr for t (expression_in_gap b i k here a tr for q r some t next l h)
            ∙ sym (line_truth a' tr' for' t (expression_in_gap b i k here a' tr' for' q r some t next' l h))
        by_second l (inr (inl s)) =
            line_truth a tr for t (expression_at_row b i k here a tr for r t (suc next.0, next.2) s)
            ∙ sym (line_truth a' tr' for' t (expression_at_row b i k here a' tr' for' r t (suc next'.0, next'.2) s))
        by_second l (inr (inr h)) = absurd (not_lt_of_le high h)

        by_first : (row_time q <ʳ t) ⊎ (row_time q ≈ t) ⊎ (t <ʳ row_time q) → holds_at a tr t ≡ holds_at a' tr' t
        by_first (inl l) = by_second l (lt_or_same_or_gt t (row_time r))
        by_first (inr (inl s)) =
            line_truth a tr for t (expression_at_row b i k here a tr for q t (next.0, next.1) (same_sym s))
            ∙ sym (line_truth a' tr' for' t (expression_at_row b i k here a' tr' for' q t (next'.0, next'.1) (same_sym s)))
        by_first (inr (inr h)) = absurd (not_lt_of_le low h)

    told_alike : (c d : Place) (vs : List Verdict) → AreTiles c vs d → AreTold (atom i a) tr vs
        → ((t : Rational) → After c t → Upto d t → holds_at a tr t ≡ holds_at a' tr' t) → AreTold (atom i a') tr' vs
    told_alike c d [] tiles told same = tt
    told_alike c d (v ∷ vs) (s, some, rest) (told, more) same = (
      record {
        not_empty = told.not_empty;
        truth = λ t h. subst (λ x. MatchBool v.holds (IsTrue x) (¬ IsTrue x))
            (same t (after_same (begins (interval v.on)) c t (same_places s) (in_after (interval v.on) t h))
            (tiled_upto (ends (interval v.on)) vs d rest t (in_upto (interval v.on) t h)))
            (told.truth t h);
      },
      told_alike (ends (interval v.on)) d vs rest more (λ t low high.
          same t (after_same (begins (interval v.on)) c t (same_places s)
          (after_of_before (begins (interval v.on)) (ends (interval v.on)) t some low)) high),
    )

    -- so what describes it in the one trace does in the other
    pub describes_alike : (vs : List Verdict) → Describes vs (atom i a) tr (left_open (row_time q) (row_time r))
        → Describes vs (atom i a') tr' (left_open (row_time q) (row_time r))
    describes_alike [] h = absurd h
    describes_alike (v ∷ vs) h = (h.0, new.0, again v vs h.2 new.1)
      where
        stretch : Interval
        stretch = left_open (row_time q) (row_time r)

        all_told : (v : Verdict) (vs : List Verdict) → GoesOn (atom i a) tr stretch v vs → AreTold (atom i a) tr vs
        all_told v [] g = tt
        all_told v (w ∷ vs) g = (g.2, all_told w vs g.3)

        again : (v : Verdict) (vs : List Verdict) → GoesOn (atom i a) tr stretch v vs → AreTold (atom i a') tr' vs → GoesOn (atom i a') tr' stretch v vs
        again v [] g t = g
        again v (w ∷ vs) g t = (g.0, g.1, t.0, again w vs g.3 t.1)

        new : AreTold (atom i a') tr' (v ∷ vs)
        new = told_alike (begins stretch) (ends stretch) (v ∷ vs) (describes_tiles (atom i a) tr stretch (v ∷ vs) h) (h.1, all_told v vs h.2)
            (λ t low high. alike_between t (le_of_lt low) high)

-- ---- lists

-- a choice for each node for which there is one
choose : {X : Type 0} (none : X) (here : ℕ → Bool) (P : ℕ → X → Type 0) → ((j : ℕ) → here j ≡ true → (x : X) × P j x)
    → (f : ℕ → X) × ((j : ℕ) → here j ≡ true → P j (f j))
choose {X} none here P h = ((λ j. (pick j (here j) refl).0), (λ j e. (pick j (here j) refl).1 e))
  where
    pick : (j : ℕ) (t : Bool) → here j ≡ t → (x : X) × (here j ≡ true → P j x)
    pick j true e = let w = h j e in (w.0, λ z. w.1)
    pick j false e = (none, λ z. absurd (let y : true ≡ false = sym z ∙ e in cc))

-- each edge changed by its place
abbrev changed : (ℕ → Edge → Edge) → ℕ → List Edge → List Edge
changed f k [] = []
changed f k (x ∷ xs) = f k x ∷ changed f (suc k) xs

changed_count : (f : ℕ → Edge → Edge) (k : ℕ) (xs : List Edge) → length (changed f k xs) ≡ length xs
changed_count f k [] = refl
changed_count f k (x ∷ xs) = ap suc (changed_count f (suc k) xs)

changed_at : (f : ℕ → Edge → Edge) (k : ℕ) (xs : List Edge) (j : ℕ) → j < length xs → get_or (changed f k xs) j no_edge ≡ f (k + j) (get_or xs j no_edge)
changed_at f k [] j l = absurd (omega (arith, l))
changed_at f k (x ∷ xs) zero l = ap (λ n. f n x) (let e : k ≡ k + 0 = omega arith in e)
changed_at f k (x ∷ xs) (suc j) l =
    changed_at f (suc k) xs j (omega (arith, l)) ∙ ap (λ n. f n (get_or xs j no_edge)) (let e : suc k + j ≡ k + suc j = omega arith in e)

changed_here : (f : ℕ → Edge → Edge) (xs : List Edge) (j : ℕ) → j < length xs → get_or (changed f 0 xs) j no_edge ≡ f j (get_or xs j no_edge)
changed_here f xs j l = changed_at f 0 xs j l ∙ ap (λ n. f n (get_or xs j no_edge)) (let e : 0 + j ≡ j = omega arith in e)

changed_past : (f : ℕ → Edge → Edge) (k : ℕ) (xs : List Edge) (j : ℕ) → (j < length xs → ⊥) → get_or (changed f k xs) j no_edge ≡ get_or xs j no_edge
changed_past f k [] j l = refl
changed_past f k (x ∷ xs) zero l = absurd (l (omega arith))
changed_past f k (x ∷ xs) (suc j) l = changed_past f (suc k) xs j (λ h. l (omega (arith, h)))

-- whether a node is an atom, by its operator
abbrev is_here : Option (Option Operator) → Bool
is_here (Some None) = true
is_here (Some (Some op)) = false
is_here None = false

here_is : (o : Option (Option Operator)) → is_here o ≡ true → o ≡ Some None
here_is (Some None) e = refl
here_is (Some (Some op)) e = absurd (let y : false ≡ true = e in cc)
here_is None e = absurd (let y : false ≡ true = e in cc)

-- ---- a network over rows

module _ (nodes : List Node) (header : Header) (b : Binding) (ops : List (Option Operator)) (block : Trace) (is_trace : IsTrace block)
    (width : length block.header.columns ≡ b.width) (bound : (j : ℕ) → slice_get ops j ≡ Some None → IsAtomNode b j) where
  abbrev row_at : ℕ → Row
  row_at k = get_or block.rows k no_row

  abbrev here : ℕ → Bool
  here j = is_here (slice_get ops j)

  rising : (k : ℕ) → suc k < length block.rows → (row_at k).time < (row_at (suc k)).time
  rising k = next_row (length block.header.columns) block.rows k no_row is_trace.rows

  -- verdicts of the atom at node j over rows of the block, as it is in some trace in which the block's rows stand
  pub record HasGiven (j : ℕ) (k : ℕ) (rows : List Row) (vs : List Verdict) : Type 0 where
    -- the atom
    pub a : Atom
    -- the trace
    pub tr : Trace
    -- it is for them
    pub for : IsFor b j a tr
    -- the block stands there
    pub has : HasBlock tr block
    -- and the verdicts are those of the rows
    pub each : AreOfRows (atom j a) tr (row_at k) rows vs

  neighbours : (tr : Trace) → HasBlock tr block → (k : ℕ) → suc k < length block.rows → AreNeighbours tr (row_at k) (row_at (suc k))
  neighbours tr has k l = (
    has.place + k,
    has.rows k (row_at k) (slice_get-get_or block.rows k no_row (omega (arith, l))),
    subst (λ n. slice_get tr.rows n ≡ Some (row_at (suc k))) (let e : has.place + suc k ≡ suc (has.place + k) = omega arith in e)
        (has.rows (suc k) (row_at (suc k)) (slice_get-get_or block.rows (suc k) no_row l)),
  )

  -- the verdicts of the first of these rows are put at an atom, in each trace in which it follows the row before
  one_put : (j k : ℕ) → suc k < length block.rows → slice_get ops j ≡ Some None → (first : List Verdict) (a : Atom) (tr : Trace)
      → IsFor b j a tr → HasBlock tr block → Describes first (atom j a) tr (left_open (row_time (row_at k)) (row_time (row_at (suc k))))
      → (a' : Atom) (tr' : Trace) → IsFor b j a' tr' → AreNeighbours tr' (row_at k) (row_at (suc k))
      → Describes first (atom j a') tr' (left_open (row_time (row_at k)) (row_time (row_at (suc k))))
  one_put j k l at first a tr for has is a' tr' for' next =
      let atom_at = bound j at in
      describes_alike b j atom_at.0 atom_at.1 (row_at k) (row_at (suc k)) (rising k l) a a' tr tr' for for' (neighbours tr has k l) next first is

  -- what the edges are behind rows of which these verdicts were given at the atoms: the last of the rows has this time
  pub record HaveGot (given : ℕ → List Verdict) (time : ℕ) (old new : Held) : Type 0 where
    pub seen : (j : ℕ) → slice_get ops j ≡ Some None → (edge_at new j).seen ≡ (edge_at old j).seen
    pub joins : (j : ℕ) → slice_get ops j ≡ Some None → (edge_at new j).joins ≡ (edge_at old j).joins
    pub fresh : (j : ℕ) → slice_get ops j ≡ Some None → Stand (edge_at old j).joins ((edge_at old j).fresh ++ given j) (edge_at new j).fresh
    pub number : (j : ℕ) → slice_get ops j ≡ Some None → (edge_at new j).number ≡ Some (pos time)
    pub others : (j : ℕ) → (slice_get ops j ≡ Some None → ⊥) → edge_at new j ≡ edge_at old j
    pub count : length new.edges ≡ length old.edges
    pub start : new.start ≡ old.start

  -- the edges with the verdicts of one row more, as they are given
  abbrev with_row : Held → (ℕ → List Verdict) → ℕ → Held
  with_row e more time = record e { edges = changed (λ j x. cond (here j) (with_number (with_more x (more j)) (pos time)) x) 0 e.edges }

  with_row_at : (e : Held) (more : ℕ → List Verdict) (time j : ℕ) → j < length e.edges → slice_get ops j ≡ Some None
      → edge_at (with_row e more time) j ≡ with_number (with_more (edge_at e j) (more j)) (pos time)
  with_row_at e more time j l at =
      changed_here (λ j x. cond (here j) (with_number (with_more x (more j)) (pos time)) x) e.edges j l
      ∙ ap (λ t. cond t (with_number (with_more (edge_at e j) (more j)) (pos time)) (edge_at e j)) (ap is_here at)

  with_row_other : (e : Held) (more : ℕ → List Verdict) (time j : ℕ) → (slice_get ops j ≡ Some None → ⊥) → edge_at (with_row e more time) j ≡ edge_at e j
  with_row_other e more time j none = by_place (cases_lt j (length e.edges))
    where
      f : ℕ → Edge → Edge
      f j x = cond (here j) (with_number (with_more x (more j)) (pos time)) x

      not_here : (t : Bool) → here j ≡ t → f j (edge_at e j) ≡ edge_at e j
      not_here true x = absurd (none (here_is (slice_get ops j) x))
      not_here false x = ap (λ t. cond t (with_number (with_more (edge_at e j) (more j)) (pos time)) (edge_at e j)) x

      by_place : (j < length e.edges) ⊎ (length e.edges ≤ j) → edge_at (with_row e more time) j ≡ edge_at e j
      by_place (inl l) = changed_here f e.edges j l ∙ not_here (here j) refl
      by_place (inr h) = changed_past f 0 e.edges j (λ l. omega (arith, l, h))

  -- what the atom at node j gave out at the row behind row k, and what it gave out at the rows after that
  abbrev HasFirst : ℕ → ℕ → List Verdict → Type 0
  HasFirst j k vs = (a : Atom) × (tr : Trace) × IsFor b j a tr × HasBlock tr block
      × Describes vs (atom j a) tr (left_open (row_time (row_at k)) (row_time (row_at (suc k))))

  -- one row more
  one_row : (k : ℕ) → suc k < length block.rows → (net : Parts) (events : List Event) → Stands nodes header net events → net.closed ≡ false
      → net.bound ≡ b → net.operators ≡ ops → net.last ≡ Some (row_at k) → (e' : Held) (more : ℕ → List Verdict)
      → HaveGot more (row_at (suc k)).time net.edges e' → ((j : ℕ) → slice_get ops j ≡ Some None → HasFirst j k (more j))
      → Stands nodes header (record net { edges = e'; last = Some (row_at (suc k)) }) (events ++ row (row_at (suc k)) ∷ [])
  one_row k l net events st going same_bound same_ops last e' more got first =
      fed_stands nodes header events net st r
      (row_may nodes header events net st r going (subst (λ o. IfSome o (λ q. q.time < r.time)) (sym last) (rising k l))
      (subst (λ (c : Binding). length r.values ≡ c.width) (sym same_bound)
      (row_width (length block.header.columns) block.rows (suc k) no_row is_trace.rows l ∙ width))) e'
      (subst (λ o. HasPutAtoms net.bound o r net.operators (length net.operators) (begun net.edges o r) e') (sym last)
      (subst (λ c. HasPutAtoms c (Some (row_at k)) r net.operators (length net.operators) net.edges e') (sym same_bound)
      (subst (λ l. HasPutAtoms b (Some (row_at k)) r l (length l) net.edges e') (sym same_ops) put)))
    where
      r : Row
      r = row_at (suc k)

      joins : (j : ℕ) (t : Bool) → here j ≡ t → (edge_at e' j).joins ≡ (edge_at net.edges j).joins
      joins j true x = got.joins j (here_is (slice_get ops j) x)
      joins j false x = ap (λ (y : Edge). y.joins) (got.others j (λ at. (let y : true ≡ false = sym (ap is_here at) ∙ x in cc)))

      put : HasPutAtoms b (Some (row_at k)) r ops (length ops) net.edges e'
      put = record {
        atoms = λ j within at.
            let f = first j at in
            record {
              more = more j;
              put = record {
                seen = (edge_at e' j).seen;
                fresh = (edge_at e' j).fresh;
                number = (edge_at net.edges j).number;
                joins = (edge_at e' j).joins;
              };
              got = record { seen = got.seen j at; fresh = got.fresh j at; number = refl; joins = got.joins j at };
              is = ap (λ n. record { seen = (edge_at e' j).seen; fresh = (edge_at e' j).fresh; number = n; joins = (edge_at e' j).joins }) (got.number j at);
              describes = λ a' tr' for' next. one_put j k l at (more j) f.0 f.1 f.2 f.3 f.4 a' tr' for' next;
            };
        others = λ j none. got.others j (λ at. none (slice_get_within ops j None at) at);
        joins = λ j. joins j (here j) refl;
        count = got.count;
        start = got.start;
      }

  -- rows more, one after another
  stand_rows : (m k : ℕ) → k + suc m < length block.rows → (net : Parts) (events : List Event) → Stands nodes header net events → net.closed ≡ false
      → net.bound ≡ b → net.operators ≡ ops → net.last ≡ Some (row_at k) → (e' : Held) (given : ℕ → List Verdict)
      → HaveGot given (row_at (k + suc m)).time net.edges e'
      → ((j : ℕ) → slice_get ops j ≡ Some None → HasGiven j k (take (suc m) (drop (suc k) block.rows)) (given j))
      → Stands nodes header (record net { edges = e'; last = Some (row_at (k + suc m)) }) (events ++ rows_of (take (suc m) (drop (suc k) block.rows)))
  stand_rows zero k l net events st going same_bound same_ops last e' given got is =
      subst (λ n. Stands nodes header (record net { edges = e'; last = Some (row_at n) }) (events ++ rows_of (take 1 (drop (suc k) block.rows)))) (sym e)
      (subst (λ rs. Stands nodes header (record net { edges = e'; last = Some (row_at (suc k)) }) (events ++ rows_of (take 1 rs))) (sym next)
      (one_row k within net events st going same_bound same_ops last e' given
      (subst (λ n. HaveGot given (row_at n).time net.edges e') e got) first))
    where
      e : k + 1 ≡ suc k
      e = omega arith

      within : suc k < length block.rows
      within = omega (arith, l)

      next : drop (suc k) block.rows ≡ row_at (suc k) ∷ drop (suc (suc k)) block.rows
      next = drop_next block.rows (suc k) no_row within

      first : (j : ℕ) → slice_get ops j ≡ Some None → HasFirst j k (given j)
      first j at =
          let g = is j at in
          let h = subst (λ rs. AreOfRows (atom j g.a) g.tr (row_at k) (take 1 rs) (given j)) next g.each in (
            g.a,
            g.tr,
            g.for,
            g.has,
            subst (λ vs. Describes vs (atom j g.a) g.tr (left_open (row_time (row_at k)) (row_time (row_at (suc k)))))
                (sym (h.4 ∙ ap (λ l. h.0 ++ l) h.3 ∙ append-nil h.0)) h.2,
          )
  stand_rows (suc m) k l net events st going same_bound same_ops last e' given got is =
      subst (λ n. Stands nodes header (record net { edges = e'; last = Some (row_at n) })
      (events ++ rows_of (take (suc (suc m)) (drop (suc k) block.rows)))) e
      (subst (λ rs. Stands nodes header (record net { edges = e'; last = Some (row_at (suc k + suc m)) })
      (events ++ rows_of (take (suc (suc m)) rs))) (sym next)
      (subst (λ es. Stands nodes header (record net { edges = e'; last = Some (row_at (suc k + suc m)) }) es)
      (append_assoc events (row r ∷ []) (rows_of (take (suc m) (drop (suc (suc k)) block.rows))))
      (stand_rows m (suc k) (omega (arith, l)) (record net { edges = e1; last = Some r }) (events ++ row r ∷ [])
      (one_row k within net events st going same_bound same_ops last e1 more got_first (λ j at. (chosen j at).1))
      going same_bound same_ops refl e' rest got_rest (λ j at. (chosen j at).2))))
    where
      e : suc k + suc m ≡ k + suc (suc m)
      e = omega arith

      within : suc k < length block.rows
      within = omega (arith, l)

      r : Row
      r = row_at (suc k)

      next : drop (suc k) block.rows ≡ row_at (suc k) ∷ drop (suc (suc k)) block.rows
      next = drop_next block.rows (suc k) no_row within

      Parted : ℕ → List Verdict × List Verdict → Type 0
      Parted j vs = (given j ≡ vs.0 ++ vs.1) × HasFirst j k vs.0 × HasGiven j (suc k) (take (suc m) (drop (suc (suc k)) block.rows)) vs.1

      part : (j : ℕ) → here j ≡ true → (vs : List Verdict × List Verdict) × Parted j vs
      part j x =
          let g = is j (here_is (slice_get ops j) x) in
          let h = subst (λ rs. AreOfRows (atom j g.a) g.tr (row_at k) (take (suc (suc m)) rs) (given j)) next g.each in (
            (h.0, h.1),
            (h.4, (g.a, g.tr, g.for, g.has, h.2), record { a = g.a; tr = g.tr; for = g.for; has = g.has; each = h.3 }),
          )

      parts : (f : ℕ → List Verdict × List Verdict) × ((j : ℕ) → here j ≡ true → Parted j (f j))
      parts = choose ([], []) here Parted part

      more : ℕ → List Verdict
      more j = (parts.0 j).0

      rest : ℕ → List Verdict
      rest j = (parts.0 j).1

      chosen : (j : ℕ) → slice_get ops j ≡ Some None → Parted j (parts.0 j)
      chosen j at = parts.1 j (ap is_here at)

      e1 : Held
      e1 = with_row net.edges more r.time

      edge_in : (j : ℕ) → slice_get ops j ≡ Some None → j < length net.edges.edges
      edge_in j at =
          let a = slice_get_within ops j None at in
          let c = st.holds.operators in
          let d = st.holds.edges in
          let f = ap (λ (l : List (Option Operator)). length l) same_ops in
          omega (arith, a, c, d, f)

      at_atom : (j : ℕ) → slice_get ops j ≡ Some None → edge_at e1 j ≡ with_number (with_more (edge_at net.edges j) (more j)) (pos r.time)
      at_atom j at = with_row_at net.edges more r.time j (edge_in j at) at

      count : length e1.edges ≡ length net.edges.edges
      count = changed_count _ 0 net.edges.edges

      starts : e1.start ≡ net.edges.start
      starts = refl

      got_first : HaveGot more r.time net.edges e1
      got_first = record {
        seen = λ j at. ap (λ (x : Edge). x.seen) (at_atom j at);
        joins = λ j at. ap (λ (x : Edge). x.joins) (at_atom j at);
        fresh = λ j at. subst (λ (x : Edge). Stand (edge_at net.edges j).joins ((edge_at net.edges j).fresh ++ more j) x.fresh) (sym (at_atom j at))
            (stand_given (edge_at net.edges j).joins ((edge_at net.edges j).fresh ++ more j));
        number = λ j at. ap (λ (x : Edge). x.number) (at_atom j at);
        others = λ j none. with_row_other net.edges more r.time j none;
        count = count;
        start = starts;
      }

      got_rest : HaveGot rest (row_at (suc k + suc m)).time e1 e'
      got_rest = record {
        seen = λ j at. got.seen j at ∙ sym (ap (λ (x : Edge). x.seen) (at_atom j at));
        joins = λ j at. got.joins j at ∙ sym (ap (λ (x : Edge). x.joins) (at_atom j at));
        fresh = λ j at.
            let old = edge_at net.edges j in
            subst (λ (x : Edge). Stand x.joins (x.fresh ++ rest j) (edge_at e' j).fresh) (sym (at_atom j at))
            (subst (λ l. Stand old.joins l (edge_at e' j).fresh)
            (ap (λ l. old.fresh ++ l) (chosen j at).0 ∙ sym (append_assoc old.fresh (more j) (rest j))) (got.fresh j at));
        number = λ j at. got.number j at ∙ ap (λ n. Some (pos (row_at n).time)) (sym e);
        others = λ j none. got.others j none ∙ sym (with_row_other net.edges more r.time j none);
        count = got.count ∙ sym count;
        start = got.start ∙ sym starts;
      }

-- the rows of a block came, and each atom moved to the last of them
module _ (nodes : List Node) (header : Header) (events : List Event) (net : Parts) (st : Stands nodes header net events) (block : Trace)
    (is_trace : IsTrace block) (width : length block.header.columns ≡ net.bound.width) (from to : ℕ) (order : from < to)
    (within : to < length block.rows) (e' : Held)
    (have : HaveRows net.bound block from to net.operators (length net.operators) net.edges e') where
  pub rows_fed : net.closed ≡ false → net.last ≡ Some (row_of block from)
      → Stands nodes header (record net { edges = e'; last = Some (row_of block to) }) (events ++ rows_of (rows_between block from to))
  rows_fed going last =
      subst (λ n. Stands nodes header (record net { edges = e'; last = Some (row_of block n) }) (events ++ rows_of (rows_between block from to))) end
      (subst (λ n. Stands nodes header (record net { edges = e'; last = Some (row_of block (from + suc m)) })
      (events ++ rows_of (take n (drop (suc from) block.rows)))) (sym count)
      (stand_rows nodes header net.bound net.operators block is_trace width (atoms_bound nodes header events net st) m from
      (subst (λ n. n < length block.rows) (sym end) within) net events st going refl refl last e' given
      (record {
        seen = λ j at. (put j at).seen;
        joins = λ j at. (put j at).joins;
        fresh = λ j at. (chosen j at).1;
        number = λ j at. subst (λ n. (edge_at e' j).number ≡ Some (pos (row_of block n).time)) (sym end)
            (have.numbers j (slice_get_within net.operators j None at) at);
        others = λ j none. have.others j (λ l at. none at);
        count = have.count;
        start = have.start;
      })
      (λ j at. subst (λ n. HasGiven nodes header net.bound net.operators block is_trace width (atoms_bound nodes header events net st) j from
      (take n (drop (suc from) block.rows)) (given j)) count (chosen j at).0)))
    where
      m : ℕ
      m = to - suc from

      end : from + suc (to - suc from) ≡ to
      end = omega (arith, order)

      count : to - from ≡ suc (to - suc from)
      count = omega (arith, order)

      stands_whole : HasBlock (record { header = header; rows = block.rows }) block
      stands_whole = record {
        place = 0;
        rows = λ k r e. subst (λ n. slice_get block.rows n ≡ Some r) (let z : k ≡ 0 + k = omega arith in z) e;
      }

      trace_is : IsTrace (record { header = header; rows = block.rows })
      trace_is = record { rows = subst (λ w. AreRows w block.rows) (width ∙ st.holds.bound.width) is_trace.rows }

      put : (j : ℕ) → slice_get net.operators j ≡ Some None → IsPutRows net.bound block from to j (edge_at net.edges j) (edge_at e' j)
      put j at = have.atoms j (slice_get_within net.operators j None at) at

      IsGiven : ℕ → List Verdict → Type 0
      IsGiven j vs =
          HasGiven nodes header net.bound net.operators block is_trace width (atoms_bound nodes header events net st) j from (rows_between block from to) vs
          × Stand (edge_at net.edges j).joins ((edge_at net.edges j).fresh ++ vs) (edge_at e' j).fresh

      give : (j : ℕ) → is_here (slice_get net.operators j) ≡ true → (vs : List Verdict) × IsGiven j vs
      give j x =
          let at = here_is (slice_get net.operators j) x in
          let leaf = atom_leaf nodes header events net st j at in
          let for : IsFor net.bound j leaf.0 (record { header = header; rows = block.rows }) = record {
            formula = record { nodes = nodes; scale = st.holds.scale };
            bound = st.holds.bound;
            node = leaf.1;
            rows = trace_is;
          } in
          let vs = (put j at).fresh leaf.0 (record { header = header; rows = block.rows }) for stands_whole in (
            vs.0,
            (record { a = leaf.0; tr = record { header = header; rows = block.rows }; for = for; has = stands_whole; each = vs.1 }, vs.2),
          )

      chosen_all : (f : ℕ → List Verdict) × ((j : ℕ) → is_here (slice_get net.operators j) ≡ true → IsGiven j (f j))
      chosen_all = choose [] (λ j. is_here (slice_get net.operators j)) IsGiven give

      given : ℕ → List Verdict
      given = chosen_all.0

      chosen : (j : ℕ) → slice_get net.operators j ≡ Some None → IsGiven j (chosen_all.0 j)
      chosen j at = chosen_all.1 j (ap is_here at)
