use Rattle.std.proofs.Common.{drop, subst, ◌∙◌}
use Rattle.verdict_stream.proofs.OwedRows.{OwesNoMore, owing_places, owing_steps, owing_passing, owing_can, owing_behind, Before}
use Rattle.verdict_stream.specs.Pendings.{IsTextOfRows}
use Rattle.verdict_stream.specs.declared.watcher.Network.{Network}
use Rattle.verdict_stream.specs.declared.watcher.Watcher.{Watcher}
use Rattle.verdict_stream.proofs.watcher.Watcher.make_behind.Goals as goal

pub step_all-requires : goal.step_all-requires
step_all-requires c = let (case, made, o) = c.requires.owing in owing_places c.args.self.now case made o

pub give_all-requires : goal.give_all-requires
give_all-requires c =
    let (case, made, o) = c.requires.owing in
    let v = c.args.self.now in
    let st = owing_steps v case made o c.step_all.new.self.net (λ header events s. c.in_ok-step_all.ensures.stands header events s) in
    let x = owing_passing v case made o c.step_all.new.self.net st in
    (Before v case made o x, owing_can v case made o x c.step_all.new.self st c.step_all.ensures.start)

pub put_rows-requires : goal.put_rows-requires
put_rows-requires c = let (case, made, o) = c.requires.owing in c.pass_rows.ensures.lines ∙ o.none_waiting

pub returns : goal.returns
returns c = λ case made first o told.
    let v = c.args.self.now in
    let st = owing_steps v case made o c.step_all.new.self.net (λ header events s. c.in_ok-step_all.ensures.stands header events s) in
    let x = owing_passing v case made o c.step_all.new.self.net st in
    let can = owing_can v case made o x c.step_all.new.self st c.step_all.ensures.start in
    let (grown, lines, longer) = c.in_ok-put_rows.ensures.lines in
    let passed = c.pass_rows.new.self in
    let put = c.put_rows.new.self in
    let after : Watcher = record {
      network = put.network;
      horizon = put.horizon;
      times = c.clear.new.self;
      pending = c.clear-2.new.self;
      lines = put.lines;
    } in
    let left_off : OwesNoMore v c.give_all.new.self after = record {
      network = c.put_rows.ensures.network ∙ c.pass_rows.ensures.network;
      formula = c.give_all.ensures.formula ∙ c.step_all.ensures.formula;
      horizon = c.put_rows.ensures.horizon ∙ c.pass_rows.ensures.horizon;
      times = c.clear.ensures.items;
      pending = c.clear-2.ensures;
      lines = c.in_ok-put_rows.ensures.none;
    } in
    owing_behind v case made o left_off x c.give_all.new.pending passed.pending put.pending c.args.told first c.args.text.now c.put_rows.new.text grown
    (c.in_ok-give_all.ensures.given (Before v case made o x) can) c.requires.some c.pass_rows.ensures.pending
    (subst (λ (n : Network). IsTextOfRows n.formula.scale v.horizon (drop c.args.told v.times.items) passed.pending grown put.pending)
    c.pass_rows.ensures.network
    (subst (λ h. IsTextOfRows passed.network.formula.scale h (drop c.args.told v.times.items) passed.pending grown put.pending) c.pass_rows.ensures.horizon
    (subst (λ ts. IsTextOfRows passed.network.formula.scale passed.horizon (drop c.args.told ts) passed.pending grown put.pending)
    c.pass_rows.ensures.times lines))) longer told
