use Rattle.std.proofs.Common.{sym, subst, List, [], ◌∷◌, ◌++◌}
use Rattle.stl_syntax.specs.Trace.{Row}
use Rattle.early_verdict.specs.BlockRows.{own_row, previous_row}
use Rattle.early_verdict.specs.Standing.{own_of}
use Rattle.early_verdict.specs.Deciding.{SetsAre}
use Rattle.early_verdict.proofs.BlockLemmas.{none_before, not_first, row_before_is}
use Rattle.early_verdict.proofs.Undecided.{open_first, open_next}
use Rattle.early_verdict.proofs.entries.take_row.Goals as goal

pub take_first-requires-clause-open : goal.take_first-requires-clause-open
take_first-requires-clause-open c =
    let o = c.requires.open in
    let x = c.args.next.now in (
      o.0,
      (open_first c.args.formula.now c.args.bound.now o.0 o.1 c.args.begin (previous_row x) (own_of c.args.formula.now.nodes c.args.net.now)
          c.args.net.now.shown.items (none_before x.block.now x.at (c.is_first.ensures.0 c.if-is_first.true)) o.2).1,
    )

pub take_first-requires-clause-first : goal.take_first-requires-clause-first
take_first-requires-clause-first c = c.is_first.ensures.0 c.if-is_first.true

pub take_next-requires-clause-open : goal.take_next-requires-clause-open
take_next-requires-clause-open c =
    let o = c.requires.open in
    let x = c.args.next.now in
    let w = open_next c.args.formula.now c.args.bound.now o.0 o.1 c.args.begin (previous_row x) (own_of c.args.formula.now.nodes c.args.net.now)
    c.args.net.now.shown.items _ (row_before_is x.block.now x.at (not_first x.at c.is_first.result c.is_first.ensures c.if-is_first.false)) o.2 in
    (o.0, w.0, w.1, w.3)

pub take_next-requires-clause-after : goal.take_next-requires-clause-after
take_next-requires-clause-after c = not_first c.args.next.now.at c.is_first.result c.is_first.ensures c.if-is_first.false

pub returns-then-is_first : goal.returns-then-is_first
returns-then-is_first c = λ header rows o.
    let x = c.args.next.now in
    let w = open_first c.args.formula.now c.args.bound.now header rows c.args.begin (previous_row x) (own_of c.args.formula.now.nodes c.args.net.now)
    c.args.net.now.shown.items (none_before x.block.now x.at (c.is_first.ensures.0 c.if-is_first.true)) o in
    subst (λ (l : List Row). SetsAre c.args.formula.now.nodes header c.time.result (own_of c.args.formula.now.nodes c.take_first.new.net)
    c.take_first.new.net.shown.items (l ++ own_row x ∷ [])) (sym w.0)
    (subst (λ t. SetsAre c.args.formula.now.nodes header t (own_of c.args.formula.now.nodes c.take_first.new.net)
    c.take_first.new.net.shown.items (own_row x ∷ []))
    (sym c.time.ensures) (c.in_ok-take_first.ensures header w.1))

pub returns : goal.returns
returns c = λ header rows o.
    let x = c.args.next.now in
    let w = open_next c.args.formula.now c.args.bound.now header rows c.args.begin (previous_row x) (own_of c.args.formula.now.nodes c.args.net.now)
    c.args.net.now.shown.items _ (row_before_is x.block.now x.at (not_first x.at c.is_first.result c.is_first.ensures c.if-is_first.false)) o in
    subst (λ (l : List Row). SetsAre c.args.formula.now.nodes header c.args.begin (own_of c.args.formula.now.nodes c.take_next.new.net)
    c.take_next.new.net.shown.items (l ++ own_row x ∷ [])) (sym w.2)
    (c.in_ok-take_next.ensures header w.0 w.1 w.3)
