use Rattle.std.proofs.Common.{◌≡◌, [], length, false, refl, arith, sym, ap, ◌∙◌, subst, append-nil}
use Rattle.std.specs.Prelude.{◌==◌}
use Rattle.std.proofs.lemmas.Bool.{false≢true}
use Rattle.trace_stream.specs.Following.{Follows}
use Rattle.trace_stream.specs.Streams.{verdicts}
use Rattle.verdict_stream.specs.Watching.{IsWatched}
use Rattle.verdict_stream.specs.declared.watcher.Watcher.{Watcher}
use Rattle.verdict_stream.proofs.OwedRows.{OwesNoMore, owing_places, owing_steps, owing_passing, owing_can, owing_taken, told_so_far, Before}
use Rattle.verdict_stream.proofs.FollowedCases.{empty_of, none_owed, some_owed}
use Rattle.verdict_stream.proofs.watcher.Watcher.make_owed.Goals as goal

pub returns-then-is_empty : goal.returns-then-is_empty
returns-then-is_empty c = λ case made opened. (
  [],
  sym (append-nil c.args.text.now),
  subst (λ m. Follows (λ case text. IsWatched false c.args.self.now case) verdicts case m) (sym (append-nil made))
      (none_owed c.args.self.now case made opened
      (empty_of c.args.self.now.times.items c.args.self.now.times.len c.args.self.now.times.ok.0 (sym c.is_empty.ensures ∙ c.if-is_empty.true))),
)

pub step_all-requires : goal.step_all-requires
step_all-requires c =
    let (case, made, opened) = c.requires in
    let v = c.args.self.now in
    owing_places v case made (some_owed v case made opened
    (λ e. false≢true (sym c.if-is_empty.false ∙ c.is_empty.ensures ∙ ap (λ n. n == 0) (v.times.ok.0 ∙ ap length e))))

pub take_all-requires-clause-can : goal.take_all-requires-clause-can
take_all-requires-clause-can c =
    let (case, made, opened) = c.requires in
    let v = c.args.self.now in
    let o = some_owed v case made opened
    (λ e. false≢true (sym c.if-is_empty.false ∙ c.is_empty.ensures ∙ ap (λ n. n == 0) (v.times.ok.0 ∙ ap length e))) in
    let st = owing_steps v case made o c.step_all.new.self.net (λ header events s. c.in_ok-step_all.ensures.stands header events s) in
    let x = owing_passing v case made o c.step_all.new.self.net st in
    (Before v case made o x, owing_can v case made o x c.step_all.new.self st c.step_all.ensures.start)

pub take_all-requires-clause-none : goal.take_all-requires-clause-none
take_all-requires-clause-none c =
    let (case, made, opened) = c.requires in
    let v = c.args.self.now in
    let o = some_owed v case made opened
    (λ e. false≢true (sym c.if-is_empty.false ∙ c.is_empty.ensures ∙ ap (λ n. n == 0) (v.times.ok.0 ∙ ap length e))) in
    o.none_waiting

-- what the root gives out for one row
pub returns-then-len-eq1 : goal.returns-then-len-eq1
returns-then-len-eq1 c = λ case made opened.
    let v = c.args.self.now in
    let o = some_owed v case made opened
    (λ e. false≢true (sym c.if-is_empty.false ∙ c.is_empty.ensures ∙ ap (λ n. n == 0) (v.times.ok.0 ∙ ap length e))) in
    let st = owing_steps v case made o c.step_all.new.self.net (λ header events s. c.in_ok-step_all.ensures.stands header events s) in
    let x = owing_passing v case made o c.step_all.new.self.net st in
    let can = owing_can v case made o x c.step_all.new.self st c.step_all.ensures.start in
    let one : length v.times.items ≡ 1 = omega (arith, c.if-len-eq1.true, c.len.ensures, v.times.ok.0) in
    let after : Watcher = record {
      network = c.take_all.new.self;
      horizon = v.horizon;
      times = c.clear.new.self;
      pending = v.pending;
      lines = c.take_all.new.lines;
    } in
    let left_off : OwesNoMore v c.take_all.new.self after = record {
      network = refl;
      formula = c.take_all.ensures.formula ∙ c.step_all.ensures.formula;
      horizon = refl;
      times = c.clear.ensures.items;
      pending = o.none_pending;
      lines = c.in_ok-take_all.ensures.none;
    } in
    owing_taken v case made o left_off one x c.args.text.now c.take_all.new.text (c.in_ok-take_all.ensures.taken (Before v case made o x) can)

pub make_behind-requires-clause-owing : goal.make_behind-requires-clause-owing
make_behind-requires-clause-owing c =
    let (case, made, opened) = c.requires in
    let v = c.args.self.now in (
      case,
      made,
      some_owed v case made opened (λ e. false≢true (sym c.if-is_empty.false ∙ c.is_empty.ensures ∙ ap (λ n. n == 0) (v.times.ok.0 ∙ ap length e))),
    )

pub returns : goal.returns
returns c = λ case made opened.
    let v = c.args.self.now in
    let o = some_owed v case made opened
    (λ e. false≢true (sym c.if-is_empty.false ∙ c.is_empty.ensures ∙ ap (λ n. n == 0) (v.times.ok.0 ∙ ap length e))) in
    c.make_behind.ensures case made made o (told_so_far v case made o)
