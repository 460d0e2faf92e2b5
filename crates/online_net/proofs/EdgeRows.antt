-- The edge of an atom once verdicts over rows of a block were put onto it.
use Rattle.std.proofs.Common.{◌≡◌, ◌≢◌, ◌⊎◌, inl, inr, refl, sym, ap, subst, ◌∙◌, ℕ, zero, suc, ◌+◌, ◌-◌, ◌<◌, ◌≤◌, Bool, true, Option, Some, None}
use Rattle.std.proofs.Common.{List, [], ◌++◌, length, take, drop, get_or, set, pos, ◌≤ℤ◌, arith, append_assoc}
use Rattle.std.proofs.lemmas.Int.{ints}
use Rattle.std.specs.Prelude.{slice_get}
use Rattle.std.proofs.lemmas.Bool.{cases_order}
use Rattle.std.proofs.lemmas.List.{append-nil, get_or-set_same, get_or-set_other, length-set, set-get_or, set-set}
use Rattle.std.proofs.lemmas.Option.{get_or_from_slice_get, slice_get-get_or, slice_get_within}
use Rattle.rational.specs.Time.{left_open, ◌≤ʳ◌}
use Rattle.rational.proofs.Order.{le_trans, lt_of_le_of_lt}
use Rattle.rational.proofs.Shift.{le_whole}
use Rattle.stl_syntax.specs.Trace.{Row, Trace, IsTrace, row_time}
use Rattle.stl_syntax.specs.Formula.{atom}
use Rattle.stl_syntax.specs.Verdicts.{Describes}
use Rattle.atom_lines.specs.Binding.{Binding}
use Rattle.atom_lines.specs.Passages.{HasBlock}
use Rattle.atom_lines.specs.Rows.{row_of}
use Rattle.online_nodes.specs.Held.{Edge, Held, JoinsAlike, Stand, edge_at, no_edge, with_number}
use Rattle.online_nodes.specs.Written.{Lead}
use Rattle.online_nodes.specs.declared.operator.Operator.{Operator}
use Rattle.online_nodes.proofs.Stretches.{stand_again, stand_given, stand_more, stretches_again, stretches_behind}
use Rattle.online_nodes.proofs.ToldSoFar.{lead_describes}
use Rattle.online_net.specs.Stretches.{after_time, AreOfRows, HasPutStretch, IsPutRows, HasPutRows, HaveRows, StaysOver}
use Rattle.atom_lines.proofs.Columns.{next_row}
use Rattle.online_net.proofs.RowParts.{of_rows, row_more}
use Rattle.online_net.proofs.AtomRuns.{later_order}
use Rattle.online_net.proofs.AtomVerdicts.{HasNoted}

abbrev no_row : Row
no_row = record { time = 0; values = [] }

-- the rows of a block rise where they stand in a trace
pub block_rises : (tr block : Trace) → IsTrace tr → HasBlock tr block → (k : ℕ) → suc k < length block.rows
    → (get_or block.rows k no_row).time < (get_or block.rows (suc k) no_row).time
block_rises tr block is has k l =
    subst (λ (r : Row). (get_or block.rows k no_row).time < r.time) there
    (subst (λ (r : Row). r.time < (get_or tr.rows (suc (has.place + k)) no_row).time) here
    (next_row (length tr.header.columns) tr.rows (has.place + k) no_row is.rows
    (slice_get_within tr.rows (suc (has.place + k)) (get_or block.rows (suc k) no_row) at)))
  where
    at : slice_get tr.rows (suc (has.place + k)) ≡ Some (get_or block.rows (suc k) no_row)
    at = subst (λ n. slice_get tr.rows n ≡ Some (get_or block.rows (suc k) no_row)) (let e : has.place + suc k ≡ suc (has.place + k) = omega arith in e)
        (has.rows (suc k) (get_or block.rows (suc k) no_row) (slice_get-get_or block.rows (suc k) no_row l))

    here : get_or tr.rows (has.place + k) no_row ≡ get_or block.rows k no_row
    here = get_or_from_slice_get tr.rows (has.place + k) (get_or block.rows k no_row) no_row
        (has.rows k (get_or block.rows k no_row) (slice_get-get_or block.rows k no_row (omega (arith, l))))

    there : get_or tr.rows (suc (has.place + k)) no_row ≡ get_or block.rows (suc k) no_row
    there = get_or_from_slice_get tr.rows (suc (has.place + k)) (get_or block.rows (suc k) no_row) no_row at

-- the rows of a block rise
pub rows_rise : (block : Trace) → IsTrace block → (k : ℕ) → k + 1 < length block.rows → (row_of block k).time < (row_of block (k + 1)).time
rows_rise block is k l =
    subst (λ n. (row_of block k).time < (row_of block n).time) (let e : suc k ≡ k + 1 = omega arith in e)
    (next_row (length block.header.columns) block.rows k no_row is.rows (omega (arith, l)))

-- so a later row has no earlier time
rows_order : (block : Trace) → IsTrace block → (k m : ℕ) → k + m < length block.rows → (row_of block k).time ≤ (row_of block (k + m)).time
rows_order block is k zero l = let e = ap (λ n. (row_of block n).time) (let z : k + 0 ≡ k = omega arith in z) in omega (arith, e)
rows_order block is k (suc m) l =
    let a = rows_order block is k m (omega (arith, l)) in
    let b = rows_rise block is (k + m) (omega (arith, l)) in
    let e = ap (λ n. (row_of block n).time) (let z : k + m + 1 ≡ k + suc m = omega arith in z) in
    omega (arith, a, b, e)

-- as rationals
row_order : (block : Trace) → IsTrace block → (k m : ℕ) → k ≤ m → m < length block.rows → row_time (row_of block k) ≤ʳ row_time (row_of block m)
row_order block is k m o l =
    let e : k + (m - k) ≡ m = omega (arith, o) in
    let h = rows_order block is k (m - k) (omega (arith, o, l)) in
    let f = ap (λ n. (row_of block n).time) e in
    le_whole (let z : pos (row_of block k).time ≤ℤ pos (row_of block m).time = omega (arith, ints, h, f) in z)

-- a truth that stays over some rows stays over those between two of them
pub stays_between : (b : Binding) (i : ℕ) (block : Trace) → IsTrace block → (from to k m : ℕ) (holds : Bool) → from ≤ k → k ≤ m → m ≤ to
    → to < length block.rows → StaysOver b i block from to holds → StaysOver b i block k m holds
stays_between b i block is from to k m holds low between high within stays a tr for has t after upto =
    stays a tr for has t (lt_of_le_of_lt (row_order block is from k low (omega (arith, between, high, within))) after)
    (le_trans upto (row_order block is m to high within))

module _ (b : Binding) (block : Trace) (i : ℕ) where
  abbrev row_at : ℕ → Row
  row_at k = row_of block k

  -- on an edge that joins the verdicts over several rows are those of each of them, joined
  pub stretch_rows : {old new : Held} (from to : ℕ) → from < to → to < length block.rows → (edge_at old i).joins ≡ true
      → HasPutStretch b block from to i old new → HasPutRows b block from to i old new
  stretch_rows {old} {new} from to order within joins s = record {
    here = record {
      seen = s.got.here.seen;
      joins = s.got.here.joins;
      fresh = λ a tr for has.
          let led = s.led a tr for has in
          let each = of_rows (atom i a) tr block.rows (block_rises tr block for.rows has) (to - suc from) from
          (subst (λ n. n < length block.rows) (sym end) within) s.more led.0
          (subst (λ n. Lead (atom i a) tr (after_time (row_at from).time) None s.more (after_time (row_at n).time) led.0) (sym end) led.1) in (
            each.0,
            subst (λ n. AreOfRows (atom i a) tr (row_at from) (take n (drop (suc from) block.rows)) each.0) (sym count) each.1,
            subst (λ t. Stand t ((edge_at old i).fresh ++ each.0) (edge_at new i).fresh) (sym joins)
                (stretches_again (subst (λ t. Stand t ((edge_at old i).fresh ++ s.more) (edge_at new i).fresh) joins s.got.here.fresh)
                (stretches_behind (edge_at old i).fresh each.2)),
          );
    };
    others = s.got.others;
    start = s.got.start;
  }
    where
      end : from + suc (to - suc from) ≡ to
      end = omega (arith, order)

      count : to - from ≡ suc (to - suc from)
      count = omega (arith, order)

  -- before any row
  pub none_put : (e : Held) (from at : ℕ) → at ≡ from → HasPutRows b block from at i e e
  none_put e from at is = record {
    here = record {
      seen = refl;
      joins = refl;
      fresh = λ a tr for has. (
        [],
        subst (λ n. AreOfRows (atom i a) tr (row_at from) (take n (drop (suc from) block.rows)) []) (let z : 0 ≡ at - from = omega (arith, is) in z) refl,
        subst (λ l. Stand (edge_at e i).joins l (edge_at e i).fresh) (sym (append-nil (edge_at e i).fresh))
            (stand_given (edge_at e i).joins (edge_at e i).fresh),
      );
    };
    others = sym (set-get_or e.edges i no_edge);
    start = refl;
  }

  -- one row more
  pub each_more : {old mid new : Held} (from at : ℕ) → from ≤ at → at + 1 < length block.rows → HasPutRows b block from at i old mid
      → HasPutStretch b block at (at + 1) i mid new → HasPutRows b block from (at + 1) i old new
  each_more {old} {mid} {new} from at order within done s = record {
    here = record {
      seen = s.got.here.seen ∙ done.here.seen;
      joins = s.got.here.joins ∙ done.here.joins;
      fresh = λ a tr for has.
          let before = done.here.fresh a tr for has in
          let led = s.led a tr for has in
          let rises = block_rises tr block for.rows has in
          let e : at + 1 ≡ suc at = omega arith in
          let f : from + (at - from) ≡ at = omega (arith, order) in
          let g : from + suc (at - from) ≡ at + 1 = omega (arith, order) in
          let h : at + 1 - from ≡ suc (at - from) = omega (arith, order) in
          let later = subst (λ n. (row_at at).time < (row_at n).time) (sym e) (rises at (omega (arith, within))) in
          let is = lead_describes (atom i a) tr (left_open (row_time (row_at at)) (row_time (row_at (at + 1)))) s.more led.0
          (later_order (row_at at).time (row_at (at + 1)).time later) led.1 in (
            before.0 ++ s.more,
            subst (λ n. AreOfRows (atom i a) tr (row_at from) (take n (drop (suc from) block.rows)) (before.0 ++ s.more)) (sym h)
                (row_more (atom i a) tr block.rows rises (at - from) from (omega (arith, within, order)) before.0 s.more before.1
                (subst (λ n. Describes s.more (atom i a) tr (left_open (row_time (row_at n)) (row_time (row_at (from + suc (at - from)))))) (sym f)
                (subst (λ n. Describes s.more (atom i a) tr (left_open (row_time (row_at at)) (row_time (row_at n)))) (sym g) is))),
            subst (λ l. Stand x.joins l z.fresh) (append_assoc x.fresh before.0 s.more)
                (stand_again x.joins ((x.fresh ++ before.0) ++ s.more) (y.fresh ++ s.more) z.fresh
                (stand_more x.joins (x.fresh ++ before.0) y.fresh before.2 s.more)
                (subst (λ t. Stand t (y.fresh ++ s.more) z.fresh) done.here.joins s.got.here.fresh)),
          );
    };
    others = s.got.others ∙ ap (λ es. set es i z) done.others ∙ set-set old.edges i _ _;
    start = s.got.start ∙ done.start;
  }
    where
      x : Edge
      x = edge_at old i

      y : Edge
      y = edge_at mid i

      z : Edge
      z = edge_at new i

  -- as many edges as before
  pub rows_count : {old new : Held} {from to : ℕ} → HasPutRows b block from to i old new → length new.edges ≡ length old.edges
  rows_count {old} h = ap length h.others ∙ length-set old.edges i _

-- ---- the edges of all atoms

module _ (b : Binding) (block : Trace) (from to : ℕ) (operators : List (Option Operator)) (i : ℕ) where
  -- the edge of one atom more
  pub rows_more : slice_get operators i ≡ Some None → {old mid put new : Held} → i < length mid.edges → HaveRows b block from to operators i old mid
      → HasPutRows b block from to i mid put → HasNoted put new i (row_of block to).time → HaveRows b block from to operators (i + 1) old new
  rows_more e {old} {mid} {put} {new} within done one noted = record {
    atoms = λ j l at. by_order j l at (cases_order j i);
    numbers = λ j l at. number j l at (cases_order j i);
    others = λ j none. other j (λ x. none (omega (arith, x)) (subst (λ k. slice_get operators k ≡ Some None) (sym x) e))
        ∙ done.others j (λ l at. none (omega (arith, l)) at);
    count = ap length noted.edges ∙ length-set put.edges i _ ∙ count ∙ done.count;
    start = noted.start ∙ one.start ∙ done.start;
  }
    where
      count : length put.edges ≡ length mid.edges
      count = rows_count b block i one

      own : edge_at new i ≡ with_number (edge_at put i) (pos (row_of block to).time)
      own = ap (λ es. get_or es i no_edge) noted.edges ∙ get_or-set_same put.edges i _ no_edge (subst (λ n. i < n) (sym count) within)

      other : (j : ℕ) → j ≢ i → edge_at new j ≡ edge_at mid j
      other j d = ap (λ es. get_or es j no_edge) noted.edges ∙ get_or-set_other put.edges i j _ no_edge d
          ∙ ap (λ es. get_or es j no_edge) one.others ∙ get_or-set_other mid.edges i j _ no_edge d

      here : IsPutRows b block from to i (edge_at old i) (edge_at new i)
      here = subst (λ y. IsPutRows b block from to i y (edge_at new i)) (done.others i (λ l at. absurd (omega (arith, l))))
          (subst (λ y. IsPutRows b block from to i (edge_at mid i) y) (sym own)
          (record { seen = one.here.seen; joins = one.here.joins; fresh = one.here.fresh }))

      by_order : (j : ℕ) → j < i + 1 → slice_get operators j ≡ Some None → (j ≡ i) ⊎ ((j < i) ⊎ (i < j))
          → IsPutRows b block from to j (edge_at old j) (edge_at new j)
      by_order j l at (inl x) = subst (λ k. IsPutRows b block from to k (edge_at old k) (edge_at new k)) (sym x) here
      by_order j l at (inr (inl x)) = subst (λ y. IsPutRows b block from to j (edge_at old j) y) (sym (other j (λ z. absurd (omega (arith, x, z)))))
          (done.atoms j x at)
      by_order j l at (inr (inr x)) = absurd (omega (arith, l, x))

      number : (j : ℕ) → j < i + 1 → slice_get operators j ≡ Some None → (j ≡ i) ⊎ ((j < i) ⊎ (i < j))
          → (edge_at new j).number ≡ Some (pos (row_of block to).time)
      number j l at (inl x) = ap (λ k. (edge_at new k).number) x ∙ ap (λ (y : Edge). y.number) own
      number j l at (inr (inl x)) = ap (λ (y : Edge). y.number) (other j (λ z. absurd (omega (arith, x, z)))) ∙ done.numbers j x at
      number j l at (inr (inr x)) = absurd (omega (arith, l, x))

  -- a node that is no atom
  pub rows_skip : (slice_get operators i ≡ Some None → ⊥) → {old new : Held} → HaveRows b block from to operators i old new
      → HaveRows b block from to operators (i + 1) old new
  rows_skip d {old} {new} done = record {
    atoms = λ j l at. done.atoms j (below j l at (cases_order j i)) at;
    numbers = λ j l at. done.numbers j (below j l at (cases_order j i)) at;
    others = λ j none. done.others j (λ l at. none (omega (arith, l)) at);
    count = done.count;
    start = done.start;
  }
    where
      below : (j : ℕ) → j < i + 1 → slice_get operators j ≡ Some None → (j ≡ i) ⊎ ((j < i) ⊎ (i < j)) → j < i
      below j l at (inl x) = absurd (d (subst (λ k. slice_get operators k ≡ Some None) x at))
      below j l at (inr (inl x)) = x
      below j l at (inr (inr x)) = absurd (omega (arith, l, x))

  -- each edge joins where it joined
  pub rows_join : {old new : Held} (n : ℕ) → HaveRows b block from to operators n old new → ((j : ℕ) → slice_get operators j ≡ Some None → j < n)
      → JoinsAlike old new
  rows_join {old} {new} n done all j = by_value (slice_get operators j) refl
    where
      by_value : (o : Option (Option Operator)) → slice_get operators j ≡ o → (edge_at new j).joins ≡ (edge_at old j).joins
      by_value (Some None) x = (done.atoms j (all j x) x).joins
      by_value (Some (Some op)) x = ap (λ (y : Edge). y.joins) (done.others j (λ l at. (let y : Some (Some op) ≡ Some None = sym x ∙ at in cc)))
      by_value None x = ap (λ (y : Edge). y.joins) (done.others j (λ l at. (let y : None ≡ Some None = sym x ∙ at in cc)))
