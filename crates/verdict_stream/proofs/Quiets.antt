-- Rows that wait in the block behind the last one that the network took, and one behind them that came alone.
use Rattle.std.proofs.Common.{◌≡◌, inl, inr, refl, sym, ap, ◌∙◌, subst, ℕ, suc, ◌+◌, ◌-◌, ◌<◌, ◌≤◌, Bool, false, List, [], ◌∷◌, ◌++◌, length}
use Rattle.std.proofs.Common.{Option, Some, None, IsTrue, arith, append-nil, append_assoc, get_or, length-append, pos}
use Rattle.std.specs.Prelude.{slice_get, slice_index_or}
use Rattle.std.proofs.lemmas.List.{get_or-append-add}
use Rattle.std.proofs.lemmas.Option.{slice_get-get_or, get_or_from_slice_get, slice_get_within}
use Rattle.rational.specs.Rational.{whole}
use Rattle.rational.specs.Time.{Rational, ◌≤ʳ◌, Within}
use Rattle.rational.proofs.Order.{le_refl}
use Rattle.stl_syntax.specs.Formula.{Subformula, Formula, root, horizon}
use Rattle.stl_syntax.specs.Trace.{Header, Row, Trace, IsTrace, AreRows, AreRowsAfter, first_time, last_time, row_time, stop}
use Rattle.stl_syntax.specs.Truth.{Truth, holds_at}
use Rattle.online_nodes.specs.Truths.{Is}
use Rattle.stl_syntax.specs.PostOrder.{IsPostOrder}
use Rattle.stl_syntax.specs.declared.atom.Atom.{Atom}
use Rattle.stl_syntax.specs.declared.node.Node.TheVariants.{Atom as Leaf}
use Rattle.stl_syntax.specs.declared.scale.Scale.{Scale}
use Rattle.stl_syntax.specs.Stream.{IsNewText, IsRowsText}
use Rattle.stl_syntax.proofs.RowsLemmas.{last_time-push, first_le_last}
use Rattle.stl_syntax.proofs.WellFormedLemmas.{root_some}
use Rattle.atom_lines.specs.Binding.{IsBound}
use Rattle.atom_lines.specs.Passages.{HasBlock}
use Rattle.atom_lines.specs.Rows.{row_of}
use Rattle.online_nodes.specs.Network.{state}
use Rattle.online_nodes.proofs.RowsLaw.{rows_of as rows_came, AreRowsSoFar}
use Rattle.online_net.specs.Nets.{Stands}
use Rattle.trace_stream.specs.Cases.{IsCase}
use Rattle.trace_stream.specs.Kept.{with_rows}
use Rattle.trace_stream.specs.Following.{Follows, IsFollowedOn}
use Rattle.trace_stream.specs.Streams.{verdicts, StreamText}
use Rattle.trace_stream.specs.declared.case.Case.{Case}
use Rattle.bounds.specs.Turns.{looks_back}
use Rattle.bounds.specs.Steady.{AtomsStay}
use Rattle.verdict_stream.specs.Quieting.{AtomsAreSteady, IsSteady, IsToldOf, Knows, IsLineAfter}
use Rattle.verdict_stream.specs.Watching.{IsWatched, WatchesRows, IsBehind, IsUnmoved, HasAnswered, HasStepped}
use Rattle.verdict_stream.specs.declared.watcher.Network.{Network}
use Rattle.verdict_stream.specs.declared.watcher.Watcher.{Watcher}
use Rattle.verdict_stream.specs.declared.verdicts.Verdicts.{Verdicts}
use Rattle.verdict_stream.proofs.WatchedRoot.{driven_at, no_row}
use Rattle.verdict_stream.proofs.RowsTogether.{last_of}
use Rattle.verdict_stream.proofs.SteadyNodes.{none_stay}
use Rattle.verdict_stream.proofs.QuietRows.{old_trace, new_trace, row_rises, atoms_on, steady_on, line_told}
use Rattle.verdict_stream.proofs.LastTruths.{grown_truth}

-- rows, and those behind their last one
rows_joined : (n : ℕ) (front : List Row) (l : Row) (more : List Row) → AreRows n (front ++ l ∷ []) → AreRows n (l ∷ more) → AreRows n (front ++ l ∷ more)
rows_joined n [] l more a b = b
rows_joined n (q ∷ front) l more a b = (a.0, after q.time front a.1)
  where
    after : (t : ℕ) (front : List Row) → AreRowsAfter n t (front ++ l ∷ []) → AreRowsAfter n t (front ++ l ∷ more)
    after t [] a = (a.0, a.1, b.1)
    after t (q ∷ front) a = (a.0, a.1, after q.time front a.2)

-- with rows more a trace begins at the same time
begins : (rows before : List Row) (l r : Row) → rows ≡ before ++ l ∷ [] → first_time rows ≡ first_time (rows ++ r ∷ [])
begins [] before l r e = absurd (no_row before l (sym e))
begins (q ∷ rows) before l r e = refl

-- a watcher that put lines stands for what it stood for
pub watched_same : (w w' : Watcher) (c : Case) (made : List ℕ) → IsUnmoved w w' → Follows (λ case text. IsWatched false w case) verdicts c made
    → Follows (λ case text. IsWatched false w' case) verdicts c made
watched_same w w' c made same k = record {
  stands = record {
    formula = ap (λ (n : Network). n.formula) same.network ∙ k.stands.formula;
    horizon = same.horizon ∙ k.stands.horizon;
    events = k.stands.events;
    driven = k.stands.driven;
    stands = subst (λ (n : Network). Stands c.formula.nodes c.trace.header n.net k.stands.events) (sym same.network) k.stands.stands;
    emitted = k.stands.emitted;
    is_emitted = k.stands.is_emitted;
    start = ap (λ (n : Network). n.start) same.network ∙ k.stands.start;
    no_times = same.times ∙ k.stands.no_times;
    none_pending = same.pending ∙ k.stands.none_pending;
    none_waiting = same.lines;
  };
  fits = k.fits;
  told = k.told;
}

module _ (v : Verdicts) (c : Case) (made : List ℕ) (r : Row) (b : IsBehind v c made (r ∷ [])) (trace : IsTrace v.block) where
  -- the last row of the case stands before the one that came
  pub record HasTail : Type 0 where
    pub before : List Row
    pub l : Row
    pub front : List Row
    pub of : c.trace.rows ≡ before ++ l ∷ []
    pub parts : before ≡ b.front ++ front
    pub quiet : b.last ∷ b.quiet ≡ front ++ l ∷ []
    pub count : length front ≡ length b.quiet

  header_is : c.trace.header ≡ b.base.trace.header
  header_is = ap (λ (x : Case). x.trace.header) b.case

  nodes_are : c.formula.nodes ≡ b.base.formula.nodes
  nodes_are = ap (λ (x : Case). x.formula.nodes) b.case

  pub tail : HasTail
  tail =
      let t = last_of (b.last ∷ b.quiet) (omega arith) in
      record {
        before = b.front ++ t.front;
        l = t.last;
        front = t.front;
        of = ap (λ (x : Case). x.trace.rows) b.case ∙ ap (λ rs. rs ++ b.quiet) b.rows ∙ append_assoc b.front (b.last ∷ []) b.quiet
            ∙ ap (λ rs. b.front ++ rs) t.is ∙ sym (append_assoc b.front t.front (t.last ∷ []));
        parts = refl;
        quiet = t.is;
        count = (let e : suc (length b.quiet) ≡ length (t.front ++ t.last ∷ []) = ap length t.is in omega (arith, e, length-append t.front (t.last ∷ [])));
      }

  -- what stands in the block
  block_rows : v.block.rows ≡ tail.front ++ tail.l ∷ r ∷ []
  block_rows =
      ap (λ (t : Trace). t.rows) b.block ∙ ap (λ rs. rs ++ r ∷ []) tail.quiet ∙ append_assoc tail.front (tail.l ∷ []) (r ∷ [])

  pub block_count : length v.block.rows ≡ suc (suc v.quiet.rows)
  block_count =
      ap length block_rows ∙ length-append tail.front (tail.l ∷ r ∷ []) ∙ (let e = tail.count in let f = b.count in omega (arith, e, f))

  pub row_at_last : (d : Row) → slice_index_or v.block.rows v.quiet.rows d ≡ tail.l
  row_at_last d =
      ap (λ rs. get_or rs v.quiet.rows d) block_rows
      ∙ ap (λ n. get_or (tail.front ++ tail.l ∷ r ∷ []) n d) (let e = tail.count in let f = b.count in let g : v.quiet.rows ≡ length tail.front + 0 = omega (arith, e, f) in g)
      ∙ get_or-append-add tail.front (tail.l ∷ r ∷ []) 0 d

  pub row_at_new : (d : Row) → slice_index_or v.block.rows (suc v.quiet.rows) d ≡ r
  row_at_new d =
      ap (λ rs. get_or rs (suc v.quiet.rows) d) block_rows
      ∙ ap (λ n. get_or (tail.front ++ tail.l ∷ r ∷ []) n d) (let e = tail.count in let f = b.count in let g : suc v.quiet.rows ≡ length tail.front + 1 = omega (arith, e, f) in g)
      ∙ get_or-append-add tail.front (tail.l ∷ r ∷ []) 1 d

  -- all rows, those before the block and those of the block
  all_rows : tail.before ++ tail.l ∷ r ∷ [] ≡ b.front ++ v.block.rows
  all_rows = ap (λ rs. rs ++ tail.l ∷ r ∷ []) tail.parts ∙ append_assoc b.front tail.front (tail.l ∷ r ∷ []) ∙ ap (λ rs. b.front ++ rs) (sym block_rows)

  pub are_rows : AreRows (length c.trace.header.columns) (tail.before ++ tail.l ∷ r ∷ [])
  unfolding state
  are_rows =
      let n = length b.base.trace.header.columns in
      let w = b.watched.stands in
      let came = subst (λ l. AreRowsSoFar n l) (driven_at b.base.formula.nodes b.base.trace.header w.driven).rows_are
      (rows_came b.base.formula.nodes b.base.trace.header w.events w.stands.run) in
      let own : AreRows n (b.last ∷ (b.quiet ++ r ∷ [])) = subst (λ (t : Trace). AreRows (length t.header.columns) t.rows) b.block trace.rows in
      subst (λ (h : Header). AreRows (length h.columns) (tail.before ++ tail.l ∷ r ∷ [])) (sym header_is)
      (subst (λ l. AreRows n l) (sym (all_rows ∙ ap (λ (t : Trace). b.front ++ t.rows) b.block))
      (rows_joined n b.front b.last (b.quiet ++ r ∷ []) (some b.base.trace.rows b.rows came) own))
    where
      some : (l : List Row) → l ≡ b.front ++ b.last ∷ [] → AreRowsSoFar (length b.base.trace.header.columns) l
          → AreRows (length b.base.trace.header.columns) (b.front ++ b.last ∷ [])
      some [] e k = absurd (no_row b.front b.last (sym e))
      some (q ∷ l) e k = subst (λ rs. AreRows (length b.base.trace.header.columns) rs) e k

  pub last_rises : tail.l.time < r.time
  last_rises = row_rises c.trace.header tail.before tail.l r are_rows

  -- the times of these rows, by their places in the block
  pub at_last : (n t : ℕ) → n ≡ length v.block.rows → ((d : Row) → t ≡ (slice_index_or v.block.rows (n - 1 - 1) d).time) → t ≡ tail.l.time
  at_last n t count at =
      let d : Row = record { time = 0; values = [] } in
      let e : n - 1 - 1 ≡ v.quiet.rows = (let k = block_count in omega (arith, count, k)) in
      at d ∙ ap (λ m. (slice_index_or v.block.rows m d).time) e ∙ ap (λ (q : Row). q.time) (row_at_last d)

  pub at_new : (n t : ℕ) → n ≡ length v.block.rows → ((d : Row) → t ≡ (slice_index_or v.block.rows (n - 1) d).time) → t ≡ r.time
  at_new n t count at =
      let d : Row = record { time = 0; values = [] } in
      let e : n - 1 ≡ suc v.quiet.rows = (let k = block_count in omega (arith, count, k)) in
      at d ∙ ap (λ m. (slice_index_or v.block.rows m d).time) e ∙ ap (λ (q : Row). q.time) (row_at_new d)

  pub steady_at : (n : ℕ) → n ≡ length v.block.rows → AtomsAreSteady v.watcher.network.net v.block (n - 1 - 1) (n - 1)
      → AtomsAreSteady v.watcher.network.net v.block v.quiet.rows (suc v.quiet.rows)
  steady_at n count steady =
      let e : n - 1 - 1 ≡ v.quiet.rows = (let k = block_count in omega (arith, count, k)) in
      let f : n - 1 ≡ suc v.quiet.rows = (let k = block_count in omega (arith, count, k)) in
      subst (λ m. AtomsAreSteady v.watcher.network.net v.block m (suc v.quiet.rows)) e
      (subst (λ m. AtomsAreSteady v.watcher.network.net v.block (n - 1 - 1) m) f steady)

  -- where a truth is known, the last row lies no nearer to the begin than the formula looks ahead
  pub ahead_within : (holds : Bool) → Knows v.quiet c → v.quiet.told ≡ Some holds → v.watcher.horizon ≤ tail.l.time
  ahead_within holds k is =
      let was : IsSteady (root c.formula.nodes) c.trace v.quiet.calm holds =
      subst (λ o. IsToldOf (root c.formula.nodes) c.trace v.quiet.calm o) is k.told in
      let end : last_time 0 c.trace.rows ≡ tail.l.time = ap (last_time 0) tail.of ∙ last_time-push 0 tail.before tail.l in
      let same : v.watcher.horizon ≡ horizon (root c.formula.nodes) =
      b.watched.stands.horizon ∙ ap (λ ns. horizon (root ns)) (sym nodes_are) in
      let x = was.answered in
      omega (arith, x, end, same)

  abbrev pub new_one : Trace
  new_one = new_trace c.trace.header tail.before tail.l r are_rows

  abbrev pub old_one : Trace
  old_one = old_trace c.trace.header tail.before tail.l r are_rows

  old_is : c.trace ≡ old_one
  old_is = ap (λ rs. record { header = c.trace.header; rows = rs }) tail.of

  new_rows : c.trace.rows ++ r ∷ [] ≡ tail.before ++ tail.l ∷ r ∷ []
  new_rows = ap (λ rs. rs ++ r ∷ []) tail.of ∙ append_assoc tail.before (tail.l ∷ []) (r ∷ [])

  new_is : (with_rows (r ∷ []) c).trace ≡ new_one
  new_is = ap (λ rs. record { header = c.trace.header; rows = rs }) new_rows

  has_block : HasBlock new_one v.block
  has_block = record {
    place = length b.front;
    rows = λ k q at.
        let within = slice_get_within v.block.rows k q at in
        let here = get_or_from_slice_get v.block.rows k q q at in
        subst (λ rs. slice_get rs (length b.front + k) ≡ Some q) (sym all_rows)
        (slice_get-get_or (b.front ++ v.block.rows) (length b.front + k) q (omega (arith, within, length-append b.front v.block.rows))
        ∙ ap (λ (z : Row). let o : Option Row = Some z in o) (get_or-append-add b.front v.block.rows k q ∙ here));
  }

  -- each atom is steady from the last row to the new one
  leaf_steady : AtomsAreSteady v.watcher.network.net v.block v.quiet.rows (suc v.quiet.rows) → (i : ℕ) (a : Atom)
      → slice_get c.formula.nodes i ≡ Some (Leaf a) → (t u : Rational) → Within (row_time tail.l) (row_time r) t → Within (row_time tail.l) (row_time r) u
      → holds_at a new_one t ≡ holds_at a new_one u
  leaf_steady steady i a at t u at_t at_u =
      let keeps = b.watched.stands.stands.holds in
      let at' : slice_get b.base.formula.nodes i ≡ Some (Leaf a) = subst (λ ns. slice_get ns i ≡ Some (Leaf a)) nodes_are at in
      let no : Row = record { time = 0; values = [] } in
      steady i (keeps.at_atom i (Leaf a) at' refl) a new_one (record {
        formula = record { nodes = b.base.formula.nodes; scale = keeps.scale };
        bound = subst (λ (h : Header). IsBound v.watcher.network.net.bound (record { nodes = b.base.formula.nodes; scale = keeps.scale }) h) (sym header_is)
            keeps.bound;
        node = at';
        rows = record { rows = are_rows };
      }) has_block t u
      (subst (λ (q : Row). Within (row_time q) (row_time (row_of v.block (suc v.quiet.rows))) t) (sym (row_at_last no))
      (subst (λ (q : Row). Within (row_time tail.l) (row_time q) t) (sym (row_at_new no)) at_t))
      (subst (λ (q : Row). Within (row_time q) (row_time (row_of v.block (suc v.quiet.rows))) u) (sym (row_at_last no))
      (subst (λ (q : Row). Within (row_time tail.l) (row_time q) u) (sym (row_at_new no)) at_u))

  -- the formula, and the case with the row
  abbrev p : Subformula
  p = root c.formula.nodes

  abbrev with_new : Case
  with_new = with_rows (r ∷ []) c

  order : IsPostOrder c.formula.nodes
  order = subst (λ ns. IsPostOrder ns) (sym nodes_are) b.watched.stands.stands.holds.formed.post_order

  some_node : 0 < length c.formula.nodes
  some_node =
      subst (λ ns. 0 < length ns) (sym nodes_are) (root_some b.base.formula.nodes b.watched.stands.stands.holds.one_root)

  fits_of : (f : Formula) × IsCase f with_new
  fits_of =
      let (f, is) = b.watched.fits in
      (f, subst (λ (x : Case). IsCase f (with_rows (r ∷ []) x)) (sym b.case) (record { formula = is.formula; bound = is.bound }))

  told_old : IsRowsText (IsNewText p) p c.trace.header [] None (tail.before ++ tail.l ∷ []) made
  told_old = subst (λ rs. IsRowsText (IsNewText p) p c.trace.header [] None rs made) tail.of b.told

  -- where the atoms stayed before, they stay with the row
  atoms_new : (calm : ℕ) → first_time c.trace.rows ≤ calm → AtomsStay p c.trace (whole (pos calm)) (stop c.trace)
      → AtomsAreSteady v.watcher.network.net v.block v.quiet.rows (suc v.quiet.rows) → AtomsStay p new_one (whole (pos calm)) (stop new_one)
  atoms_new calm low atoms steady =
      atoms_on c.trace.header tail.before tail.l r are_rows c.formula.nodes order (length c.formula.nodes - 1) (let x = some_node in omega (arith, x)) calm
      (subst (λ rs. first_time rs ≤ calm) tail.of low) (leaf_steady steady)
      (subst (λ (t : Trace). AtomsStay p t (whole (pos calm)) (stop t)) old_is atoms)

  -- the row was answered without a step
  pub quiet_row : (v' : Verdicts) (holds : Bool) (old new : List ℕ) → Knows v.quiet c → v.quiet.told ≡ Some holds
      → v.quiet.calm + v.quiet.reach < tail.l.time → AtomsAreSteady v.watcher.network.net v.block v.quiet.rows (suc v.quiet.rows)
      → HasAnswered v v' tail.l.time r.time holds old new → IsFollowedOn (WatchesRows v') verdicts with_new old new made
  quiet_row v' holds old new k is low steady a = (
    a.grown,
    a.is,
    record {
      stands = (
        record {
          reach = subst (λ n. looks_back p + horizon p ≤ n) (sym a.rest.1) k.reach;
          told = subst (λ o. IsToldOf p with_new.trace v'.quiet.calm o) (sym (a.rest.2 ∙ is))
              (subst (λ n. IsSteady p with_new.trace n holds) (sym a.rest.0) (subst (λ (t : Trace). IsSteady p t v.quiet.calm holds) (sym new_is)
              (steady_on c.trace.header tail.before tail.l r are_rows p v.quiet.calm holds was atoms back)));
        },
        inr (let e = a.rows in omega (arith, e), behind),
      );
      fits = fits_of;
      told = told_new;
    },
  )
    where
      was_so : IsSteady p c.trace v.quiet.calm holds
      was_so = subst (λ o. IsToldOf p c.trace v.quiet.calm o) is k.told

      was : IsSteady p old_one v.quiet.calm holds
      was = subst (λ (t : Trace). IsSteady p t v.quiet.calm holds) old_is was_so

      atoms : AtomsStay p new_one (whole (pos v.quiet.calm)) (stop new_one)
      atoms = atoms_new v.quiet.calm was_so.low was_so.atoms steady

      back : v.quiet.calm + (looks_back p + horizon p) < tail.l.time
      back = let x = k.reach in omega (arith, x, low)

      scale : v.watcher.network.formula.scale ≡ c.trace.header.scale
      scale =
          let (f, is) = b.watched.fits in
          ap (λ (g : Formula). g.scale) (b.watched.stands.formula ∙ is.formula) ∙ ap (λ (h : Header). h.scale) (sym header_is)

      ahead : v.watcher.horizon ≡ horizon p
      ahead = b.watched.stands.horizon ∙ ap (λ ns. horizon (root ns)) (sym nodes_are)

      line : IsLineAfter c.trace.header.scale (tail.l.time - horizon p) (r.time - horizon p) holds a.grown
      line =
          subst (λ n. IsLineAfter c.trace.header.scale (tail.l.time - n) (r.time - n) holds a.grown) ahead
          (subst (λ (s : Scale). IsLineAfter s (tail.l.time - v.watcher.horizon) (r.time - v.watcher.horizon) holds a.grown) scale a.line)

      told_new : StreamText verdicts p c.trace.header (c.trace.rows ++ r ∷ []) false (made ++ a.grown)
      told_new =
          subst (λ rs. IsRowsText (IsNewText p) p c.trace.header [] None rs (made ++ a.grown)) (sym new_rows)
          (line_told c.trace.header tail.before tail.l r are_rows p v.quiet.calm holds was atoms back made a.grown line told_old)

      behind : IsBehind v' with_new (made ++ a.grown) []
      behind = record {
        base = b.base;
        quiet = b.quiet ++ r ∷ [];
        case = ap (λ (x : Case). with_rows (r ∷ []) x) b.case
            ∙ ap (λ rs. record b.base { trace = record b.base.trace { rows = rs } }) (append_assoc b.base.trace.rows b.quiet (r ∷ []));
        front = b.front;
        last = b.last;
        rows = b.rows;
        block = a.block ∙ b.block ∙ ap (λ rs. record { header = b.base.trace.header; rows = b.last ∷ rs }) (sym (append-nil (b.quiet ++ r ∷ [])));
        first = b.first;
        ahead = b.ahead ++ a.grown;
        watched = watched_same v.watcher v'.watcher b.base b.first a.watcher b.watched;
        count = a.rows ∙ (let e = b.count in let f = length-append b.quiet (r ∷ []) in omega (arith, e, f));
        text = ap (λ t. t ++ a.grown) b.text ∙ append_assoc b.first b.ahead a.grown;
        bytes = a.bytes ∙ ap (λ n. n + length a.grown) b.bytes ∙ sym (length-append b.ahead a.grown);
        told = told_new;
      }

  -- since when the atoms stay
  record IsCalm (calm : ℕ) : Type 0 where
    low : first_time with_new.trace.rows ≤ calm
    atoms : AtomsStay p with_new.trace (whole (pos calm)) (stop with_new.trace)

  -- the network took the row
  pub stepped_row : (v' : Verdicts) (even : Bool) (old new : List ℕ) → Knows v.quiet c
      → (IsTrue even → AtomsAreSteady v.watcher.network.net v.block v.quiet.rows (suc v.quiet.rows))
      → HasStepped v.quiet v' even r.time with_new made old new → IsFollowedOn (WatchesRows v') verdicts with_new old new made
  stepped_row v' even old new k steady s = (
    s.grown,
    s.is,
    record {
      stands = (
        record {
          reach = subst (λ n. looks_back p + horizon p ≤ n) (sym s.learned.reach) k.reach;
          told = by_told v'.quiet.told refl;
        },
        inl (s.none, s.watched.stands, s.last),
      );
      fits = s.watched.fits;
      told = s.watched.told;
    },
  )
    where
      stop_is : last_time 0 with_new.trace.rows ≡ r.time
      stop_is = last_time-push 0 c.trace.rows r

      begin_is : first_time with_new.trace.rows ≤ r.time
      begin_is =
          let n = length c.trace.header.columns in
          let x = first_le_last n with_new.trace.rows (subst (λ rs. AreRows n rs) (sym new_rows) are_rows) in
          omega (arith, x, stop_is)

      calm_on : (h : Bool) → IsSteady p c.trace v.quiet.calm h → AtomsAreSteady v.watcher.network.net v.block v.quiet.rows (suc v.quiet.rows)
          → IsCalm v.quiet.calm
      calm_on h was at = record {
        low = subst (λ n. n ≤ v.quiet.calm) (begins c.trace.rows tail.before tail.l r tail.of) was.low;
        atoms = subst (λ (t : Trace). AtomsStay p t (whole (pos v.quiet.calm)) (stop t)) (sym new_is) (atoms_new v.quiet.calm was.low was.atoms at);
      }

      calm_new : IsCalm v'.quiet.calm
      calm_new = elim s.learned.calm [
        | inl (is_even, h, was, same) ↦
            subst (λ n. IsCalm n) (sym same) (calm_on h (subst (λ o. IsToldOf p c.trace v.quiet.calm o) was k.told) (steady is_even))
        | inr same ↦
            subst (λ n. IsCalm n) (sym same) (record {
              low = begin_is;
              atoms = none_stay p with_new.trace (whole (pos r.time)) (stop with_new.trace)
                  (subst (λ n. whole (pos n) ≤ʳ whole (pos r.time)) (sym stop_is) (le_refl (whole (pos r.time))));
            })
      ]

      by_told : (o : Option Bool) → v'.quiet.told ≡ o → IsToldOf p with_new.trace v'.quiet.calm o
      by_told None e = tt
      by_told (Some h) e =
          let t = grown_truth p c.trace.header c.trace.rows r made s.grown h b.told s.watched.told (s.learned.told h e) in
          record {
            low = calm_new.low;
            atoms = calm_new.atoms;
            answered = subst (λ n. first_time with_new.trace.rows + horizon p ≤ n) (sym stop_is) t.answered;
            truth = subst (λ n. Is h (Truth p with_new.trace) (whole (pos (n - horizon p)))) (sym stop_is) t.truth;
          }
