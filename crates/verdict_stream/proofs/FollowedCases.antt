-- A network of verdicts that follows a case, whose text is made for all rows or is owed for some.
use Rattle.std.proofs.Common.{◌≡◌, ◌⊎◌, suc, Some, None, append-nil, append_assoc, length-append, inl, inr, ℕ, ◌+◌, ◌-◌, ◌<◌, ◌≤◌, true, false, List}
use Rattle.std.proofs.Common.{[], ◌∷◌, ◌++◌, length, map, refl, sym, ap, ◌∙◌, subst, arith}
use Rattle.std.specs.Prelude.{IfSome, ◌==◌}
use Rattle.std.proofs.lemmas.Bool.{cases_lt, false≢true}
use Rattle.stl_syntax.specs.Formula.{Formula, horizon, root}
use Rattle.stl_syntax.specs.Trace.{Header, Row, Trace}
use Rattle.stl_syntax.specs.declared.node.Node.{Node}
use Rattle.online_nodes.specs.Network.{Event, node_is_atom}
use Rattle.online_nodes.specs.Driven.{rows_of, most_rows}
use Rattle.online_net.specs.Nets.{Stands, last_row_of}
use Rattle.trace_stream.specs.Cases.{Takes}
use Rattle.trace_stream.specs.Kept.{with_rows}
use Rattle.trace_stream.specs.Following.{Follows, IsOpen}
use Rattle.trace_stream.specs.Streams.{verdicts}
use Rattle.bounds.specs.Turns.{looks_back}
use Rattle.verdict_stream.specs.Quieting.{Knows, IsToldOf}
use Rattle.verdict_stream.specs.declared.quiet.Quiet.{Quiet}
use Rattle.verdict_stream.specs.Watching.{IsWatched, IsOwing, KeepsLast, WatchesRows, WatchesOwing, HasNoQuiet, IsBehind, HasMore, HasSettled}
use Rattle.trace_stream.specs.declared.case.Case.{Case}
use Rattle.verdict_stream.specs.declared.watcher.Watcher.{Watcher}
use Rattle.verdict_stream.specs.declared.verdicts.Verdicts.{Verdicts}
use Rattle.trace_reader.specs.Reader.{Reader, StandsFor}
use Rattle.trace_reader.specs.Taken.{HasTraceSoFar}
use Rattle.verdict_stream.proofs.Blocks.{has_one, kept_header, kept_so_far}
use Rattle.verdict_stream.proofs.OwedRows.{KeepsTimes, owes_first, owes_more, owing_places, owing_rows}
use Rattle.verdict_stream.proofs.WatchedRows.{fits_width, last_is, places, later_row}

-- what has no length is empty
pub empty_of : (l : List ℕ) (n : ℕ) → n ≡ length l → (n == 0) ≡ true → l ≡ []
empty_of [] n e t = refl
empty_of (x ∷ l) n e t = absurd (let z : n ≡ 0 = grind (arith, t) in omega (arith, e, z))

some_time : (rows : List Row) (r : Row) → map (λ (q : Row). q.time) (rows ++ r ∷ []) ≡ [] → ⊥
some_time [] r e = cc
some_time (q ∷ rows) r e = cc

module _ (v : Watcher) (c : Case) (made : List ℕ) where
  -- it follows the case, maybe with text that is owed
  abbrev pub IsOpened : Type 0
  IsOpened = IsOpen (λ case text. IsWatched false v case) (λ case text. IsOwing v case text) verdicts c made

  -- a row has as many values as the network's columns
  pub open_width : IsOpened → length c.trace.header.columns ≡ v.network.net.bound.width
  open_width (inl k) = fits_width v c k.stands
  open_width (inr o) = sym o.stands.holds.bound.width

  -- the network's last row is that of the case
  pub open_last : IsOpened → v.network.net.last ≡ last_row_of c.trace.rows
  open_last (inl k) = last_is v c k.stands
  open_last (inr o) = o.stands.holds.last ∙ ap last_row_of (owing_rows v c made o)

  -- so the next row comes after it
  pub open_time : IsOpened → (r : Row) → Takes r c.trace → IfSome v.network.net.last (λ (l : Row). l.time < r.time)
  open_time k r t = subst (λ o. IfSome o (λ (l : Row). l.time < r.time)) (sym (open_last k)) (later_row c.trace.rows r t.1)

  -- each node has its place among the operators
  pub open_places : IsOpened → length v.network.net.operators ≡ length v.network.formula.nodes
  open_places (inl k) = places v c k.stands v.network.net k.stands.events k.stands.stands
  open_places (inr o) = owing_places v c made o

  -- without times no text is owed
  pub none_owed : IsOpened → v.times.items ≡ [] → Follows (λ case text. IsWatched false v case) verdicts c made
  none_owed (inl k) e = k
  none_owed (inr o) e = absurd (some_time (o.more) o.last (sym o.times ∙ e))

  -- and with times some is
  pub some_owed : IsOpened → (v.times.items ≡ [] → ⊥) → IsOwing v c made
  some_owed (inl k) e = absurd (e k.stands.no_times)
  some_owed (inr o) e = o

  -- nor where the root is an atom
  pub atom_owes_none : IsOpened → node_is_atom v.network.formula.nodes (length v.network.formula.nodes - 1) ≡ true
      → Follows (λ case text. IsWatched false v case) verdicts c made
  atom_owes_none (inl k) e = k
  atom_owes_none (inr o) e =
      absurd (false≢true (sym o.no_atom ∙ ap (λ (f : Formula). node_is_atom f.nodes (length f.nodes - 1)) (sym o.formula) ∙ e))

  -- rows more, whose text is owed
  pub owes_on : IsOpened → node_is_atom v.network.formula.nodes (length v.network.formula.nodes - 1) ≡ false → (after : Watcher) (rows : List Row)
      → 0 < length rows → length v.times.items + length rows ≤ most_rows
      → ((nodes : List Node) (header : Header) (events : List Event) → Stands nodes header v.network.net events
      → Stands nodes header after.network.net (events ++ rows_of rows)) → KeepsTimes v after rows → IsOwing after (with_rows rows c) made
  owes_on (inl k) e after rows some few stands by =
      owes_first v after c made rows some by k
      (ap (λ (f : Formula). node_is_atom f.nodes (length f.nodes - 1)) (sym k.stands.formula) ∙ e) (omega (arith, few))
      (stands c.formula.nodes c.trace.header k.stands.events k.stands.stands)
  owes_on (inr o) e after rows some few stands by =
      owes_more v after c made rows some by o few (stands c.formula.nodes c.trace.header o.events o.stands)

-- it follows the case, and what is kept of its rows is so
abbrev pub IsKeeping : Verdicts → Case → List ℕ → Type 0
IsKeeping v c made = IsOpen (WatchesRows v) (WatchesOwing v) verdicts c made

module _ (v : Verdicts) (c : Case) (made : List ℕ) where
  pub knows : IsKeeping v c made → Knows v.quiet c
  knows (inl k) = k.stands.0
  knows (inr o) = o.0

  -- quiet rows wait in the block
  pub waiting : IsKeeping v c made → 0 < v.quiet.rows → IsBehind v c made []
  waiting (inl k) some = by_kind k.stands.1
    where
      by_kind : (HasNoQuiet v × IsWatched false v.watcher c × KeepsLast v.block c.trace) ⊎ ((0 < v.quiet.rows) × IsBehind v c made []) → IsBehind v c made []
      by_kind (inl (none, w, l)) = absurd (let e = none.0 in omega (arith, e, some))
      by_kind (inr (more, b)) = b
  waiting (inr o) some = absurd (let e = o.1.0 in omega (arith, e, some))

  -- or there are none
  pub record IsSettled : Type 0 where
    pub none : HasNoQuiet v
    pub opened : IsOpened v.watcher c made
    pub last : KeepsLast v.block c.trace

  pub settled : IsKeeping v c made → (0 < v.quiet.rows → ⊥) → IsSettled
  settled (inl k) few = by_kind k.stands.1
    where
      by_kind : (HasNoQuiet v × IsWatched false v.watcher c × KeepsLast v.block c.trace) ⊎ ((0 < v.quiet.rows) × IsBehind v c made []) → IsSettled
      by_kind (inl (none, w, l)) = record { none = none; opened = inl (record { stands = w; fits = k.fits; told = k.told }); last = l }
      by_kind (inr (more, b)) = absurd (few more)
  settled (inr o) few = record { none = o.1; opened = inr o.2; last = o.3 }

  -- a watcher that follows the case, where its last row is kept, and the whole text was made
  pub keeps_made : Knows v.quiet c → HasNoQuiet v → Follows (λ case text. IsWatched false v.watcher case) verdicts c made → KeepsLast v.block c.trace
      → Follows (WatchesRows v) verdicts c made
  keeps_made q none k l = record { stands = (q, inl (none, k.stands, l)); fits = k.fits; told = k.told }

  -- or some of it is owed
  pub keeps_open : Knows v.quiet c → HasNoQuiet v → IsOpened v.watcher c made → KeepsLast v.block c.trace → IsKeeping v c made
  keeps_open q none (inl k) l = inl (keeps_made q none k l)
  keeps_open q none (inr o) l = inr (q, none, o, l)

  -- where the whole text was made, a block with further rows stands behind the last one
  pub behind_last : HasNoQuiet v → (k : Follows (λ case text. IsWatched false v.watcher case) verdicts c made) → (front : Trace) (more : List Row)
      → KeepsLast front c.trace → 0 < length front.rows → v.block ≡ record front { rows = front.rows ++ more } → IsBehind v c made more
  behind_last none k front more keeps some is =
      let o = has_one front c.trace keeps some in
      record {
        base = c;
        quiet = [];
        case = ap (λ rs. record c { trace = record c.trace { rows = rs } }) (sym (append-nil c.trace.rows));
        front = o.before;
        last = o.r;
        rows = o.of;
        block = is ∙ ap (λ (h : Header). record { header = h; rows = front.rows ++ more }) (kept_header front c.trace keeps)
            ∙ ap (λ rs. record { header = c.trace.header; rows = rs ++ more }) o.own;
        first = made;
        ahead = [];
        watched = k;
        count = none.0;
        text = sym (append-nil made);
        bytes = none.1;
        told = k.told;
      }

-- once rows were read behind those in the block
pub more_read : (v : Verdicts) (c : Case) (made : List ℕ) (block : Trace) (more : List Row) → IsKeeping v c made → 0 < length v.block.rows
    → block ≡ record v.block { rows = v.block.rows ++ more } → HasMore (record v { block = block }) c made more
more_read v c made block more k some added = by_rows (cases_lt 0 v.quiet.rows)
  where
    by_rows : (0 < v.quiet.rows) ⊎ (v.quiet.rows ≤ 0) → HasMore (record v { block = block }) c made more
    by_rows (inl waits) =
        let b = waiting v c made k waits in
        inl (
          waits,
          record {
            base = b.base;
            quiet = b.quiet;
            case = b.case;
            front = b.front;
            last = b.last;
            rows = b.rows;
            block = added ∙ ap (λ (t : Trace). record t { rows = t.rows ++ more }) b.block
                ∙ ap (λ rs. record { header = b.base.trace.header; rows = b.last ∷ (rs ++ more) }) (append-nil b.quiet);
            first = b.first;
            ahead = b.ahead;
            watched = b.watched;
            count = b.count;
            text = b.text;
            bytes = b.bytes;
            told = b.told;
          },
        )
    by_rows (inr none) =
        let s = settled v c made k (λ waits. (let x = waits in omega (arith, x, none))) in
        inr (s.none, s.opened, (v.block, s.last, some, added))

-- what is known stays so, without quiet rows or a truth
pub knows_same : (q q' : Quiet) (c : Case) → Knows q c → q'.reach ≡ q.reach → q'.calm ≡ q.calm → q'.told ≡ q.told → Knows q' c
knows_same q q' c k reach calm told = record {
  reach = subst (λ n. looks_back (root c.formula.nodes) + horizon (root c.formula.nodes) ≤ n) (sym reach) k.reach;
  told = subst (λ o. IsToldOf (root c.formula.nodes) c.trace q'.calm o) (sym told)
      (subst (λ n. IsToldOf (root c.formula.nodes) c.trace n q.told) (sym calm) k.told);
}

pub knows_none : (q q' : Quiet) (c c' : Case) → Knows q c → c'.formula ≡ c.formula → q'.reach ≡ q.reach → q'.told ≡ None → Knows q' c'
knows_none q q' c c' k formula reach told = record {
  reach = subst (λ n. looks_back (root c'.formula.nodes) + horizon (root c'.formula.nodes) ≤ n) (sym reach)
      (subst (λ (f : Formula). looks_back (root f.nodes) + horizon (root f.nodes) ≤ q.reach) (sym formula) k.reach);
  told = subst (λ o. IsToldOf (root c'.formula.nodes) c'.trace q'.calm o) (sym told) tt;
}

one_of : (rows : List Row) → length rows ≡ 1 → (r : Row) × (rows ≡ r ∷ [])
one_of [] e = absurd (omega (arith, e))
one_of (r ∷ []) e = (r, refl)
one_of (r ∷ q ∷ rows) e = absurd (omega (arith, e))

-- one row came, by itself, and no text is owed
pub alone_of : (v : Verdicts) (c : Case) (made : List ℕ) (more : List Row) → HasMore v c made more → length v.block.rows - v.quiet.rows ≡ 2
    → v.watcher.times.items ≡ [] → (r : Row) × (more ≡ r ∷ []) × IsBehind v c made (r ∷ [])
alone_of v c made more (inl (some, b)) two none =
    let count : length v.block.rows ≡ suc (length b.quiet + length more) = ap (λ (t : Trace). length t.rows) b.block ∙ ap suc (length-append b.quiet more) in
    let (r, is) = one_of more (let n = b.count in omega (arith, two, count, n)) in
    (r, is, subst (λ rs. IsBehind v c made rs) is b)
alone_of v c made more (inr (quiet, opened, (front, keeps, some, is))) two none =
    let o = has_one front c.trace keeps some in
    let count : length v.block.rows ≡ length front.rows + length more = ap (λ (t : Trace). length t.rows) is ∙ length-append front.rows more in
    let one : length front.rows ≡ 1 = ap length o.own in
    let (r, same) = one_of more (let n = quiet.0 in omega (arith, two, count, one, n)) in (
      r,
      same,
      subst (λ rs. IsBehind v c made rs) same (behind_last v c made quiet (none_owed v.watcher c made opened none) front more keeps some is),
    )

-- further rows were taken, of which text may be owed
pub together_of : (v : Verdicts) (c : Case) (made : List ℕ) (more : List Row) → HasMore v c made more → (0 < v.quiet.rows → ⊥)
    → HasNoQuiet v × IsOpened v.watcher c made
    × ((front : Trace) × KeepsLast front c.trace × (0 < length front.rows) × (v.block ≡ record front { rows = front.rows ++ more }))
together_of v c made more (inl (some, b)) few = absurd (few some)
together_of v c made more (inr k) few = k

pub behind_of : (v : Verdicts) (c : Case) (made : List ℕ) (more : List Row) → HasMore v c made more → 0 < v.quiet.rows → IsBehind v c made more
behind_of v c made more (inl (some, b)) waits = b
behind_of v c made more (inr k) waits = absurd (let e = k.0.0 in omega (arith, e, waits))

-- no rows more are none
pub with_none : (c : Case) → with_rows [] c ≡ c
with_none c = ap (λ rs. record c { trace = record c.trace { rows = rs } }) (append-nil c.trace.rows)

-- with quiet rows the whole text was made
pub followed_waiting : (v : Verdicts) (c : Case) (made : List ℕ) → IsKeeping v c made → 0 < v.quiet.rows → Follows (WatchesRows v) verdicts c made
followed_waiting v c made (inl k) waits = k
followed_waiting v c made (inr o) waits = absurd (let e = o.1.0 in omega (arith, e, waits))

-- no quiet row waits any more, and of the others text may be owed
pub record HasOpenSettled (v : Verdicts) (c : Case) (made old new : List ℕ) : Type 0 where
  pub grown : List ℕ
  pub is : new ≡ old ++ grown
  pub knows : Knows v.quiet c
  pub none : HasNoQuiet v
  pub opened : IsOpened v.watcher c (made ++ grown)
  pub last : KeepsLast v.block c.trace

pub open_settled : (v v' : Verdicts) (c : Case) (made old new : List ℕ) → IsKeeping v c made
    → (Follows (WatchesRows v) verdicts c made → HasSettled v' c made old new)
    → (WatchesOwing v c made → (new ≡ old) × WatchesOwing v' c made) → HasOpenSettled v' c made old new
open_settled v v' c made old new (inl k) rows owing =
    let h = rows k in
    record { grown = h.grown; is = h.is; knows = h.knows; none = h.none; opened = inl h.watched; last = h.last }
open_settled v v' c made old new (inr o) rows owing =
    let (e, x) = owing o in
    record {
      grown = [];
      is = e ∙ sym (append-nil old);
      knows = x.0;
      none = x.1;
      opened = subst (λ t. IsOpened v'.watcher c t) (sym (append-nil made)) (inr x.2);
      last = x.3;
    }

-- the reader has read the rows of the block
pub read_so_far : (v : Verdicts) (c : Case) (made : List ℕ) → IsKeeping v c made → (r : Reader) → HasTraceSoFar r c.trace → HasTraceSoFar r v.block
read_so_far v c made k r h = by_rows (cases_lt 0 v.quiet.rows)
  where
    by_rows : (0 < v.quiet.rows) ⊎ (v.quiet.rows ≤ 0) → HasTraceSoFar r v.block
    by_rows (inr none) = kept_so_far v.block c.trace (settled v c made k (λ waits. (let x = waits in omega (arith, x, none)))).last r h
    by_rows (inl waits) =
        let b = waiting v c made k waits in
        let all : c.trace.rows ≡ b.front ++ v.block.rows =
        ap (λ (x : Case). x.trace.rows) b.case ∙ ap (λ rs. rs ++ b.quiet) b.rows ∙ append_assoc b.front (b.last ∷ []) b.quiet
        ∙ ap (λ rs. b.front ++ b.last ∷ rs) (sym (append-nil b.quiet)) ∙ ap (λ (t : Trace). b.front ++ t.rows) (sym b.block) in
        record {
          bytes = h.bytes;
          earlier = h.earlier ++ b.front;
          stands = subst (λ rows. StandsFor r h.bytes rows) (ap (λ rs. h.earlier ++ rs) all ∙ sym (append_assoc h.earlier b.front v.block.rows)) h.stands;
          header = h.header ∙ ap (λ (x : Case). Some x.trace.header) b.case ∙ ap (λ (t : Trace). Some t.header) (sym b.block);
        }
