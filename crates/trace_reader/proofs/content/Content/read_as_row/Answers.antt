-- A row.
use Rattle.std.proofs.Common.{◌≡◌, ◌∙◌, ◌<◌, ap, sym, subst, refl, arith, Some}
use Rattle.std.specs.Prelude.{option_map}
use Rattle.std.proofs.lemmas.Result.{err_from_is_err_and}
use Rattle.rational.proofs.Lists.{some_of}
use Rattle.stl_syntax.specs.Trace.{Row}
use Rattle.trace_reader.specs.TraceText.{scale_of}
use Rattle.trace_reader.specs.LineParts.{fields_of}
use Rattle.trace_reader.specs.Headings.{Scaled}
use Rattle.trace_reader.specs.RowLines.{IsRowRead}
use Rattle.trace_reader.specs.Progress.{Progress, bad_row}
use Rattle.trace_reader.proofs.ReadLemmas.{too_many, row_bad, row_late, row_taken}
use Rattle.trace_reader.proofs.content.Content.read_as_row.Goals as goal
use Rattle.trace_reader.proofs.content.Content.read_as_row.Goals.{else-self-gt0-via-then-self-gt0+else-time, else-self-gt0-via-else-self-gt0}

pub returns-then-self-limits : goal.returns-then-self-limits
returns-then-self-limits c =
    let (h, e) = some_of c.args.self.now.heading c.requires.heading in
    let n = ap (λ (p : Progress). p.count) c.self.view_is in
    bad_row h _ e (too_many c.args.limits.now _ h c.args.self.now.count _ _ (omega (arith, n, c.if-self-limits.true))) refl

pub returns-in_err-read : goal.returns-in_err-read
returns-in_err-read c =
    let p = err_from_is_err_and c.from_residual.result c.from_residual.ensures.1 in
    let v = c.self.view_is in
    let sc = c.in-Some.heading in
    let is : c.args.self.now.heading ≡ Some sc.heading = sym (ap (λ (q : Progress). q.heading) v) ∙ ap (option_map (λ (s : Scaled). s.heading)) c.in-Some.is in
    let scale : sc.scale ≡ scale_of c.args.self.now.least sc.heading =
    c.self.invariant.scale sc c.in-Some.is ∙ ap (λ (q : Progress). scale_of q.least sc.heading) v in
    let n = ap (λ (q : Progress). q.count) v in
    let few : c.args.self.now.count < c.args.limits.now.rows = omega (arith, n, c.if-self-limits.false) in
    rw (p.1, p.2) (row_bad c.args.limits.now c.args.text.now c.args.self.now _ sc is scale few c.in_err-read.field-0.0
    c.in_err-read.ensures.cases (rw c.in_err-read.ensures.last v))

pub returns-then-time : goal.returns-then-time
returns-then-time c =
    let v = c.self.view_is in
    let sc = c.in-Some.heading in
    let is : c.args.self.now.heading ≡ Some sc.heading = sym (ap (λ (q : Progress). q.heading) v) ∙ ap (option_map (λ (s : Scaled). s.heading)) c.in-Some.is in
    let scale : sc.scale ≡ scale_of c.args.self.now.least sc.heading =
    c.self.invariant.scale sc c.in-Some.is ∙ ap (λ (q : Progress). scale_of q.least sc.heading) v in
    let n = ap (λ (q : Progress). q.count) v in
    let few : c.args.self.now.count < c.args.limits.now.rows = omega (arith, n, c.if-self-limits.false) in
    let next = ap (λ (r : Row). r.time) c.next.ensures in
    let last = ap (λ (r : Row). r.time) (c.last.ensures ∙ c.in_ok-read.ensures.last) in
    let old = ap (λ (q : Progress). q.row.time) v in
    row_late c.args.limits.now c.args.text.now c.args.self.now _ sc is scale few c.read.new.self.next c.in_ok-read.ensures.cases
    (omega (arith, n, c.if-self-gt0.true))
    (omega (arith, next, last, old, c.time.ensures, c.time-then-self-gt0.ensures, c.if-time.true)) (rw c.in_ok-read.ensures.last v)

pub returns : goal.returns
returns c =
    let v = c.self.view_is in
    let sc = c.in-Some.heading in
    let is : c.args.self.now.heading ≡ Some sc.heading = sym (ap (λ (q : Progress). q.heading) v) ∙ ap (option_map (λ (s : Scaled). s.heading)) c.in-Some.is in
    let scale : sc.scale ≡ scale_of c.args.self.now.least sc.heading =
    c.self.invariant.scale sc c.in-Some.is ∙ ap (λ (q : Progress). scale_of q.least sc.heading) v in
    let n = ap (λ (q : Progress). q.count) v in
    let few : c.args.self.now.count < c.args.limits.now.rows = omega (arith, n, c.if-self-limits.false) in
    let t = c.turn.ensures in
    let old = ap (λ (q : Progress). q.row.time) v in
    let up : 0 < c.args.self.now.count → c.args.self.now.row.time < c.turn.new.self.last.time = λ some. elim c.else-self-gt0.branch [
      | else-self-gt0-via-then-self-gt0+else-time w ↦
          (let next = ap (λ (r : Row). r.time) w.next.ensures in
          let last = ap (λ (r : Row). r.time) (w.last.ensures ∙ c.in_ok-read.ensures.last) in
          let now = ap (λ (r : Row). r.time) t in
          omega (arith, next, last, old, now, w.time.ensures, w.time-then-self-gt0.ensures, w.if-time.false))
      | else-self-gt0-via-else-self-gt0 w ↦ absurd (omega (arith, n, some, w.if-self-gt0.false))
    ] in
    row_taken c.args.limits.now c.args.text.now c.args.self.now _ sc is scale few
    (subst (IsRowRead sc (fields_of (Some c.args.text.now))) (sym t) c.in_ok-read.ensures.cases) up (rw (← v) refl)
