use Rattle.std.proofs.Common.{◌<◌, [], ◌∷◌, ◌++◌, length, refl, sym, ap, ◌∙◌, subst, append-nil, inl, inr, arith, lit≤}
use Rattle.online_nodes.specs.Driven.{rows_of, most_rows}
use Rattle.trace_stream.specs.Cases.{with_row}
use Rattle.verdict_stream.specs.Watching.{IsOwing}
use Rattle.verdict_stream.specs.declared.watcher.Watcher.{Watcher}
use Rattle.verdict_stream.proofs.WatchedRoot.{rows_others, pass_before}
use Rattle.verdict_stream.proofs.WatchedRows.{atom_here, steps_stand, passing, can_take, rows_followed}
use Rattle.verdict_stream.proofs.FollowedCases.{open_width, open_time, open_places, atom_owes_none, owes_on}
use Rattle.verdict_stream.proofs.watcher.Watcher.take_row.Goals as goal

pub feed-requires-clause-width : goal.feed-requires-clause-width
feed-requires-clause-width c = let (case, made, opened, t) = c.requires.open in t.0 ∙ open_width c.args.self.now case made opened

pub feed-requires-clause-later : goal.feed-requires-clause-later
feed-requires-clause-later c = let (case, made, opened, t) = c.requires.open in open_time c.args.self.now case made opened c.args.row.now t

pub step_all-requires : goal.step_all-requires
step_all-requires c =
    let (case, made, opened, t) = c.requires.open in
    c.in-Ok.ensures.nodes ∙ open_places c.args.self.now case made opened

pub take_all-requires-clause-none : goal.take_all-requires-clause-none
take_all-requires-clause-none c =
    let (case, made, opened, t) = c.requires.open in
    (atom_owes_none c.args.self.now case made opened (sym c.is_atom.ensures ∙ c.if-is_atom.true)).stands.none_waiting

pub take_all-requires-clause-can : goal.take_all-requires-clause-can
take_all-requires-clause-can c =
    let (case, made, opened, t) = c.requires.open in
    let v = c.args.self.now in
    let k = atom_owes_none v case made opened (sym c.is_atom.ensures ∙ c.if-is_atom.true) in
    let w = k.stands in
    let rows = c.args.row.now ∷ [] in
    let mid = c.step_all.new.self in
    let st = steps_stand v case w (rows_of rows) c.feed.new.self mid.net (c.in-Ok.ensures.stands case.formula.nodes case.trace.header w.events w.stands)
    (λ header events s. c.in_ok-step_all.ensures.stands header events s) in
    let x = passing v case w (rows_of rows) mid.net (rows_others case.formula.nodes case.trace.header rows) st in (
      pass_before case.formula.nodes case.trace.header w.events (rows_of rows) x.first x.beyond,
      can_take v case w (rows_of rows) x mid st c.step_all.ensures.start,
    )

pub returns-then-is_atom : goal.returns-then-is_atom
returns-then-is_atom c = λ case made opened t.
    let v = c.args.self.now in
    let k = atom_owes_none v case made opened (sym c.is_atom.ensures ∙ c.if-is_atom.true) in
    let w = k.stands in
    let rows = c.args.row.now ∷ [] in
    let mid = c.step_all.new.self in
    let after = c.take_all.new.self in
    let st = steps_stand v case w (rows_of rows) c.feed.new.self mid.net (c.in-Ok.ensures.stands case.formula.nodes case.trace.header w.events w.stands)
    (λ header events s. c.in_ok-step_all.ensures.stands header events s) in
    let x = passing v case w (rows_of rows) mid.net (rows_others case.formula.nodes case.trace.header rows) st in
    let can = can_take v case w (rows_of rows) x mid st c.step_all.ensures.start in
    let fed = c.in-Ok.ensures.stands case.formula.nodes case.trace.header w.events w.stands in
    let (grown, is_grown, follows) = rows_followed v case w rows k (atom_here v case w (sym c.is_atom.ensures ∙ c.if-is_atom.true)) (omega arith)
    (lit≤ tt) fed.run
    x after c.take_all.new.lines c.args.text.now c.take_all.new.text (c.take_all.ensures.formula ∙ c.step_all.ensures.formula)
    c.in_ok-take_all.ensures.none
    (c.in_ok-take_all.ensures.taken (pass_before case.formula.nodes case.trace.header w.events (rows_of rows) x.first x.beyond) can) in
    (grown, is_grown, inl follows)

pub returns-in-Ok-push : goal.returns-in-Ok-push
returns-in-Ok-push c = λ case made opened t.
    let v = c.args.self.now in
    let after : Watcher = record {
      network = record { net = c.feed.new.self; formula = v.network.formula; start = v.network.start };
      horizon = v.horizon;
      times = c.push.new.self;
      pending = v.pending;
      lines = v.lines;
    } in (
      [],
      sym (append-nil c.args.text.now),
      inr (subst (λ m. IsOwing after (with_row c.args.row.now case) m) (sym (append-nil made))
          (owes_on v case made opened (sym c.is_atom.ensures ∙ c.if-is_atom.false) after (c.args.row.now ∷ []) (omega arith)
          (let room : length v.times.items < most_rows = c.requires.room in omega (arith, room))
          (λ nodes header events st. c.in-Ok.ensures.stands nodes header events st) (record {
            formula = refl;
            start = refl;
            horizon = refl;
            times = c.in-Ok-push.ensures.items ∙ ap (λ n. v.times.items ++ n ∷ []) c.time.ensures;
            pending = refl;
            lines = refl;
          }))),
    )
