-- An edge of a network whose nodes have stepped holds few: its reader's stretch begins within the last ticks.
use Rattle.std.specs.Prelude.{int_lt}
use Rattle.std.proofs.Common.{◌≡◌, ◌⊎◌, inl, inr, refl, sym, ap, subst, ◌∙◌, ℕ, suc, ◌+◌, ◌*◌, ◌-◌, ◌<◌, ◌≤◌, Bool, true, false, cond, Some, None}
use Rattle.std.proofs.Common.{List, length, ℤ, pos, ◌+ℤ◌, ◌-ℤ◌, ◌≤ℤ◌, arith}
use Rattle.std.proofs.lemmas.Int.{ints}
use Rattle.std.proofs.lemmas.Option.{slice_get_within, get_or_from_slice_get}
use Rattle.std.proofs.Math.Nat.{mul-le-mul_left}
use Rattle.rational.specs.Time.{Rational, ◌≤ʳ◌, whole, later, Interval, closed, left_open}
use Rattle.rational.proofs.Mixed.{parts}
use Rattle.rational.proofs.Order.{le_trans}
use Rattle.rational.proofs.Shift.{le_whole}
use Rattle.rational.proofs.Tests.{int_order}
use Rattle.stl_syntax.specs.Trace.{Header, first_time}
use Rattle.stl_syntax.specs.Formula.{subformula, horizon, root}
use Rattle.stl_syntax.specs.PostOrder.{IsPostOrder}
use Rattle.stl_syntax.specs.WellFormed.{HasOneRoot}
use Rattle.stl_syntax.specs.declared.items.Verdict.{Verdict}
use Rattle.stl_syntax.specs.declared.node.Node.{Node}
use Rattle.stl_syntax.specs.declared.node.Node.TheVariants.{Const}
use Rattle.online_nodes.specs.Network.{Event, Front, State, state, shown, needed, reach_back, is_atom, node_is_atom, IsRun}
use Rattle.online_nodes.specs.Needed.{IsEdge}
use Rattle.online_nodes.proofs.EdgeLaw.{reader_no_atom}
use Rattle.bounds.specs.Turns.{rows_within, rows_about, earlier, looks_ahead, looks_back}
use Rattle.bounds.specs.Held.{so_far}
use Rattle.bounds.specs.Rests.{verdicts_for_a_row}
use Rattle.bounds.proofs.EdgesFew.{edges_are_bounded}
use Rattle.bounds.proofs.RestsFew.{edges_are_few}
use Rattle.watch_bounds.specs.Holdings.{looks_over}
use Rattle.watch_bounds.proofs.Reaches.{horizon_within, covers_at, under_root}

-- the stretch that a reader still needs begins no earlier than its number, or that moved
needed_from : (start : ℕ) (f g k m : ℤ) → m ≤ℤ g → m ≤ℤ (g +ℤ k) → whole m ≤ʳ (needed start f (Some g) k).from
needed_from start f g k m h l = by_low (int_lt g (pos start)) refl
  where
    high : (u : Bool) → int_lt (g +ℤ k) (pos start) ≡ u
        → whole m ≤ʳ (cond u (closed (whole (pos start)) (whole f)) (left_open (whole (g +ℤ k)) (whole f))).from
    high true y = let o = int_order (g +ℤ k) (pos start) true y in let e : m ≤ℤ pos start = omega (arith, ints) in le_whole e
    high false y = le_whole l

    by_low : (u : Bool) → int_lt g (pos start) ≡ u
        → whole m ≤ʳ (cond u (closed (whole (pos start)) (whole f))
        (cond (int_lt (g +ℤ k) (pos start)) (closed (whole (pos start)) (whole f)) (left_open (whole (g +ℤ k)) (whole f)))).from
    by_low true x = let o = int_order g (pos start) true x in let e : m ≤ℤ pos start = omega (arith, ints) in le_whole e
    by_low false x = high (int_lt (g +ℤ k) (pos start)) refl

earlier_le : (t u : Rational) (k : ℕ) → t ≤ʳ u → earlier t k ≤ʳ earlier u k
earlier_le t u k h = record { le = let e = h.le in omega (arith, e) }

-- so many ticks before a number, less some of them, and those before that
earlier_parts : (l : ℤ) (d b : ℕ) → earlier (whole l) d ≤ʳ earlier (whole ((l -ℤ pos d) +ℤ pos b)) b
earlier_parts l d b = record { le = omega (arith, parts) }

-- how far before its last row the rows matter to an edge: as far as the formula looks over
reaches : (start : ℕ) (f g k l : ℤ) (h b d : ℕ) → (l -ℤ pos h) ≤ℤ g → h + b ≤ d → (pos b ≤ℤ (k +ℤ pos (d - h)))
    → earlier (whole l) d ≤ʳ earlier (needed start f (Some g) k).from b
reaches start f g k l h b d low far reach =
    le_trans (earlier_parts l d b)
    (earlier_le (whole ((l -ℤ pos d) +ℤ pos b)) (needed start f (Some g) k).from b
    (needed_from start f g k ((l -ℤ pos d) +ℤ pos b) (omega (arith, ints, low, far)) (omega (arith, ints, low, far, reach))))

more_rows : (c n R N : ℕ) → n ≤ c * suc R + 1 → R ≤ N → n ≤ (c + 1) * suc N
more_rows c n R N h k = let q = mul-le-mul_left c k in omega (arith, h, q)

module _ (nodes : List Node) (header : Header) (order : IsPostOrder nodes) (one : HasOneRoot nodes) (events : List Event) (run : IsRun nodes header events)
  where
    abbrev s : State
    s = state nodes events

    -- of a stretch that begins no earlier than the formula looks over before the time l there are at most N rows; and each node that is no atom
    -- stands at least at that time less its horizon
    pub record IsStepped (l : ℤ) (N : ℕ) : Type 0 where
      -- the rows
      pub rows : (lo hi : Rational) → earlier (whole l) (looks_over (root nodes)) ≤ʳ lo → rows_within lo hi s.rows ≤ N
      -- the numbers
      pub fronts : (r : ℕ) → r < length nodes → node_is_atom nodes r ≡ false
          → (g : ℤ) × (s.fronts r ≡ Some g) × ((l -ℤ pos (horizon (subformula nodes r))) ≤ℤ g)

    -- or there are at most N rows in all
    abbrev pub IsReady : ℤ → ℕ → Type 0
    IsReady l N = IsStepped l N ⊎ ((lo hi : Rational) → rows_within lo hi s.rows ≤ N)

    -- so an edge holds few
    pub edge_few : (l : ℤ) (N i : ℕ) → i < length nodes → (held : List Verdict) → IsEdge nodes header events i held → IsReady l N
        → length held ≤ (verdicts_for_a_row (subformula nodes i) + 1) * suc N
    edge_few l N i within held edge ready = by_front (shown s i) refl
      where
        stretch : ℤ → Interval
        stretch f = needed (first_time s.rows) f (s.fronts edge.reader) (reach_back edge.reading edge.left)

        in_reader : edge.reader < length nodes
        in_reader = slice_get_within nodes edge.reader edge.reading edge.at_reader

        rows_few : (f : ℤ) → IsReady l N
            → rows_about (subformula nodes i) (so_far nodes header events) (stretch f).from (stretch f).to ≤ N
        rows_few f (inr all) = all (earlier (stretch f).from (looks_back (subformula nodes i))) (later (stretch f).to (looks_ahead (subformula nodes i)))
        rows_few f (inl on) =
            on.rows (earlier (stretch f).from (looks_back (subformula nodes i))) (later (stretch f).to (looks_ahead (subformula nodes i))) begin
          where
            no_atom : node_is_atom nodes edge.reader ≡ false
            no_atom =
                ap is_atom (get_or_from_slice_get nodes edge.reader edge.reading (Const false) edge.at_reader)
                ∙ reader_no_atom edge.reading edge.left i edge.reads

            begin : earlier (whole l) (looks_over (root nodes)) ≤ʳ earlier (stretch f).from (looks_back (subformula nodes i))
            begin =
                let stands = on.fronts edge.reader in_reader no_atom in
                let c = covers_at nodes header order edge.reader edge.reading edge.left i edge.at_reader edge.reads in
                let up = under_root nodes header order edge.reader one in_reader in
                let h = horizon_within (subformula nodes edge.reader) in
                let back = c.back in
                let reach = c.reach in
                subst
                (λ o. earlier (whole l) (looks_over (root nodes))
                ≤ʳ earlier (needed (first_time s.rows) f o (reach_back edge.reading edge.left)).from (looks_back (subformula nodes i)))
                (sym stands.1)
                (reaches (first_time s.rows) f stands.0 (reach_back edge.reading edge.left) l (horizon (subformula nodes edge.reader))
                (looks_back (subformula nodes i)) (looks_over (root nodes)) stands.2 (omega (arith, up, h, back))
                (omega (arith, ints, up, h, reach)))

        by_front : (o : Front) → shown s i ≡ o → length held ≤ (verdicts_for_a_row (subformula nodes i) + 1) * suc N
        by_front None is =
            let none = (edges_are_bounded nodes header order events run i within held edge).0 is in
            let e = ap length none in
            omega (arith, e)
        by_front (Some f) is =
            more_rows (verdicts_for_a_row (subformula nodes i)) (length held)
            (rows_about (subformula nodes i) (so_far nodes header events) (stretch f).from (stretch f).to) N
            (edges_are_few nodes header order events run i within held edge f is) (rows_few f ready)
