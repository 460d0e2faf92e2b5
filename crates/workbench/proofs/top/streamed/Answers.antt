use Rattle.std.proofs.Common.{◌≡◌, inl, inr, [], refl, sym, subst, ◌∙◌, arith}
use Rattle.answer_lines.specs.Lines.{line_text}
use Rattle.workbench.specs.Requests.{Request, Asks}
use Rattle.workbench.specs.Keeping.{Holds}
use Rattle.workbench.specs.Pushing.{IsPushed, IsStreamedFor}
use Rattle.workbench.proofs.Calmness.{calm_ending}
use Rattle.workbench.proofs.LeftByRun.{asks_some, starved_left, stopped_left, kept_left, of_answer, of_value}
use Rattle.workbench.proofs.RunEnds.{not_words}
use Rattle.workbench.proofs.StreamSteps.{soundly, streamed_run}
use Rattle.workbench.proofs.top.streamed.Goals as goal

pub returns-in-Err-clause-ran : goal.returns-in-Err-clause-ran
returns-in-Err-clause-ran g c = λ words q ask is same.
    starved_left _ _ _ _ _ (line_text c.no_memory_line.result) (asks_some words q ask is) c.no_memory_line.ensures refl refl c.say.ensures.said refl

pub stream-ending-requires : goal.stream-ending-requires
stream-ending-requires g c = of_value (λ p. IsPushed (g.P.Push.stands p) (g.P.Push.request p) [] []) c.args.begun c.in-Ok.pusher c.in-Ok.is c.requires

pub finish-status-requires : goal.finish-status-requires
finish-status-requires g c =
    let y = c.stream-ending.ensures.ending in
    soundly (g.P.Push.request c.in-Ok.pusher) c.formula.result.now
    (subst (λ (q : Request). IsStreamedFor q c.formula.result.now) c.stream-ending.ensures.same c.formula.ensures)
    c.stream-ending.result y.line y.is_line

pub returns-then-is_err-clause-ran : goal.returns-then-is_err-clause-ran
returns-then-is_err-clause-ran g c = λ words q ask is same.
    let of = subst (λ (q : Request). IsStreamedFor q c.formula.result.now) c.stream-ending.ensures.same c.formula.ensures in
    let is_own = of_value (λ p. g.P.Push.request p ≡ q) c.args.begun c.in-Ok.pusher c.in-Ok.is same in
    let own = subst (λ (k : Request). Asks words k) (sym is_own) ask in
    let y = c.stream-ending.ensures.ending in
    streamed_run (g.P.Push.request c.in-Ok.pusher) c.formula.result.now of words own y c.stream-ending.ensures.ends
    c.finish-status.ensures.said c.finish-status.ensures.status
    (stopped_left words (g.P.Push.request c.in-Ok.pusher) y.bytes c.stream-ending.result c.args.kept.now own (sym c.is_err.ensures.value ∙ c.if-is_err.true))

pub into_kept-requires : goal.into_kept-requires
into_kept-requires g c =
    let y = c.stream-ending.ensures.ending in
    (y.bytes, y.text, of_answer c.stream-ending.result (sym c.is_err.ensures.value ∙ c.if-is_err.false) y.left)

pub returns-clause-ran : goal.returns-clause-ran
returns-clause-ran g c = λ words q ask is same.
    let of = subst (λ (q : Request). IsStreamedFor q c.formula.result.now) c.stream-ending.ensures.same c.formula.ensures in
    let is_own = of_value (λ p. g.P.Push.request p ≡ q) c.args.begun c.in-Ok.pusher c.in-Ok.is same in
    let own = subst (λ (k : Request). Asks words k) (sym is_own) ask in
    let y = c.stream-ending.ensures.ending in
    let ended = sym c.is_err.ensures.value ∙ c.if-is_err.false in
    streamed_run (g.P.Push.request c.in-Ok.pusher) c.formula.result.now of words own y c.stream-ending.ensures.ends
    c.finish-status.ensures.said c.finish-status.ensures.status
    (kept_left words (g.P.Push.request c.in-Ok.pusher) c.formula.result.now y.bytes c.stream-ending.result c.args.kept.now c.into_kept.result own of ended
    (subst (λ (q : Request). Holds q y.bytes c.into_kept.result) c.stream-ending.ensures.same
    (c.into_kept.ensures y.bytes y.text (of_answer c.stream-ending.result ended y.left))))

pub returns-in-Err-clause-calm : goal.returns-in-Err-clause-calm
returns-in-Err-clause-calm g c = record {
  read_due = λ _. refl;
  write_due = λ _. refl;
  quiet = λ s. absurd (omega (arith, s));
  input_later = omega arith;
  out_later = omega arith;
  err_later = c.say.ensures.later;
}

pub returns-then-is_err-clause-calm : goal.returns-then-is_err-clause-calm
returns-then-is_err-clause-calm g c =
    calm_ending c.stream-ending.result c.finish-status.ensures.status c.stream-ending.ensures.read_due c.stream-ending.ensures.write_due
    c.finish-status.ensures.quiet c.stream-ending.ensures.input_later c.stream-ending.ensures.out_later c.finish-status.ensures.later

pub returns-clause-calm : goal.returns-clause-calm
returns-clause-calm g c =
    calm_ending c.stream-ending.result c.finish-status.ensures.status c.stream-ending.ensures.read_due c.stream-ending.ensures.write_due
    c.finish-status.ensures.quiet c.stream-ending.ensures.input_later c.stream-ending.ensures.out_later c.finish-status.ensures.later

pub returns-clause-known : goal.returns-clause-known
returns-clause-known g c = λ h. elim h [
  | inl two ↦ not_words c.stream-ending.result (inl (sym c.finish-status.ensures.status ∙ two))
  | inr three ↦ not_words c.stream-ending.result (inr (sym c.finish-status.ensures.status ∙ three))
]
