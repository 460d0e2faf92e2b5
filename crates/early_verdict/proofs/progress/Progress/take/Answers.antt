use Rattle.std.proofs.Common.{◌<◌, ℕ, false, Some, List, [], ◌∷◌, ◌++◌, length, refl, sym, ap, subst, ◌∙◌}
use Rattle.stl_syntax.specs.Trace.{Header, Row}
use Rattle.early_verdict.specs.BlockRows.{own_row, previous_row}
use Rattle.early_verdict.specs.Standing.{AllTidy, own_of}
use Rattle.early_verdict.specs.Deciding.{Kept, IsVerdict, Stands, kept_of}
use Rattle.early_verdict.specs.declared.sets.Sets.{Sets}
use Rattle.early_verdict.proofs.RowAnswers.{stays_none, stays_same}
use Rattle.early_verdict.proofs.BlockLemmas.{own_later, own_wide}
use Rattle.early_verdict.proofs.StandingOn.{decided_now, open_of}
use Rattle.early_verdict.proofs.NextRow.{fed_by, net_of, none_if, passed_by, sets_as, shown_tidy, some_shown}
use Rattle.early_verdict.proofs.progress.Progress.take.Goals as goal
use Rattle.early_verdict.proofs.progress.Progress.take.Goals.{After-let_go_by}

pub returns-then-is_some-clause-stands : goal.returns-then-is_some-clause-stands
returns-then-is_some-clause-stands c header rows st =
    let x = c.args.next.now in
    let r = own_row x in
    (passed_by (kept_of c.args.formula.now c.args.bound.now header (previous_row x) c.args.self.now) rows r r st
    (sym c.is_some.ensures ∙ c.if-is_some.true) (own_wide x ∙ c.requires.columns) (own_later x) refl).0

pub returns-then-is_some-clause-decided : goal.returns-then-is_some-clause-decided
returns-then-is_some-clause-decided c = stays_same c.args.self.now.decided

pub take_row-requires-clause-open : goal.take_row-requires-clause-open
take_row-requires-clause-open c =
    let (header, rows, st) = c.requires.stands in (
      header,
      rows,
      open_of (kept_of c.args.formula.now c.args.bound.now header (previous_row c.args.next.now) c.args.self.now) c.args.formula.now rows refl st
          (none_if c.args.self.now.decided (sym c.is_some.ensures ∙ c.if-is_some.false)),
    )

pub root_verdict-requires-clause-some : goal.root_verdict-requires-clause-some
root_verdict-requires-clause-some c =
    let (header, rows, st) = c.requires.stands in
    let x = kept_of c.args.formula.now c.args.bound.now header (previous_row c.args.next.now) c.args.self.now in
    let o = open_of x c.args.formula.now rows refl st (none_if c.args.self.now.decided (sym c.is_some.ensures ∙ c.if-is_some.false)) in
    subst (λ (xs : List Sets). 0 < length xs) (sym c.deref.ensures.value)
    (some_shown x.nodes header c.in_ok-begin.begin (own_of x.nodes c.take_row.new.net) c.take_row.new.net.shown.items rows
    (own_row c.args.next.now) (c.in_ok-begin.ensures header rows o) st.some)

pub root_verdict-requires-clause-tidy : goal.root_verdict-requires-clause-tidy
root_verdict-requires-clause-tidy c =
    let (header, rows, st) = c.requires.stands in
    let x = kept_of c.args.formula.now c.args.bound.now header (previous_row c.args.next.now) c.args.self.now in
    let o = open_of x c.args.formula.now rows refl st (none_if c.args.self.now.decided (sym c.is_some.ensures ∙ c.if-is_some.false)) in
    subst (λ (xs : List Sets). AllTidy xs) (sym c.deref.ensures.value)
    (shown_tidy x.nodes header c.in_ok-begin.begin (own_of x.nodes c.take_row.new.net) c.take_row.new.net.shown.items rows
    (own_row c.args.next.now) (c.in_ok-begin.ensures header rows o))

pub let_go_by-requires : goal.let_go_by-requires
let_go_by-requires c = λ e.
    let (header, rows, st) = c.requires.stands in
    let x = kept_of c.args.formula.now c.args.bound.now header (previous_row c.args.next.now) c.args.self.now in
    let o = open_of x c.args.formula.now rows refl st (none_if c.args.self.now.decided (sym c.is_some.ensures ∙ c.if-is_some.false)) in
    net_of x.nodes header c.in_ok-begin.begin (own_of x.nodes c.take_row.new.net) c.take_row.new.net.shown.items rows (own_row c.args.next.now)
    (c.in_ok-begin.ensures header rows o)

-- the row is taken
taken : (c : After-let_go_by) (header : Header) (rows : List Row)
    → Stands (kept_of c.args.formula.now c.args.bound.now header (previous_row c.args.next.now) c.args.self.now) rows false
    → Stands (record {
      nodes = c.args.formula.now.nodes;
      header = header;
      bound = c.args.bound.now;
      live = own_of c.args.formula.now.nodes c.let_go_by.new.net;
      shown = c.let_go_by.new.net.shown.items;
      begin = c.in_ok-begin.begin;
      last = Some (own_row c.args.next.now);
      decided = c.decided_at-decided.result;
      ended = false;
      stopped = false;
    }) (rows ++ own_row c.args.next.now ∷ []) false
taken c header rows st =
    let y = c.args.next.now in
    let r = own_row y in
    let x : Kept = kept_of c.args.formula.now c.args.bound.now header (previous_row y) c.args.self.now in
    let none = none_if c.args.self.now.decided (sym c.is_some.ensures ∙ c.if-is_some.false) in
    let are = c.in_ok-begin.ensures header rows (open_of x c.args.formula.now rows refl st none) in
    let live = own_of x.nodes c.take_row.new.net in
    let shown = c.take_row.new.net.shown.items in
    let is = c.decided_at-decided.ensures ∙ ap (λ (t : ℕ). decided_now t c.root_verdict.result) c.time.ensures in
    (fed_by {x = x} {rows = rows} {r = r} (record {
      stood = st;
      undecided = none;
      width = own_wide y ∙ c.requires.columns;
      later = own_later y;
      live = live;
      shown = shown;
      are = are;
      says = subst (λ (xs : List Sets). IsVerdict xs c.in_ok-begin.begin c.root_verdict.result) c.deref.ensures.value c.root_verdict.ensures;
      kept = λ e. sets_as x.nodes header c.in_ok-begin.begin live shown (own_of x.nodes c.let_go_by.new.net) c.let_go_by.new.net.shown.items rows r
          (c.let_go_by.ensures (is ∙ e)) are;
    }) refl is).0

pub returns-clause-stands : goal.returns-clause-stands
returns-clause-stands c header rows st = taken (goal.at.returns-clause-stands c).After-let_go_by header rows st

pub returns-clause-decided : goal.returns-clause-decided
returns-clause-decided c = stays_none c.args.self.now.decided c.decided_at-decided.result
    (none_if c.args.self.now.decided (sym c.is_some.ensures ∙ c.if-is_some.false))
