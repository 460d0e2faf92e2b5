-- A row of plain numbers.
use Rattle.std.proofs.Common.{◌≡◌, ◌∙◌, ◌<◌, ap, sym, subst, refl, arith, Some}
use Rattle.std.specs.Prelude.{option_map}
use Rattle.stl_syntax.specs.Trace.{Row}
use Rattle.trace_reader.specs.TraceText.{scale_of, content, fields}
use Rattle.trace_reader.specs.LineParts.{whole_line, fields_of}
use Rattle.trace_reader.specs.Headings.{Scaled}
use Rattle.trace_reader.specs.RowLines.{IsRowRead}
use Rattle.trace_reader.specs.Progress.{Progress}
use Rattle.trace_reader.proofs.ReadLemmas.{row_taken, row_line_read, fields_are}
use Rattle.trace_reader.proofs.content.Content.read_plain.Goals as goal
use Rattle.trace_reader.proofs.content.Content.read_plain.Goals.{else-self-ne0-via-then-self-ne0+else-time, else-self-ne0-via-else-self-ne0}

pub returns : goal.returns
returns c =
    let v = c.self.view_is in
    let sc = c.in-Some.heading in
    let known = c.in-Some.is in
    let is : c.args.self.now.heading ≡ Some sc.heading = sym (ap (λ (q : Progress). q.heading) v) ∙ ap (option_map (λ (s : Scaled). s.heading)) known in
    let scale : sc.scale ≡ scale_of c.args.self.now.least sc.heading = c.self.invariant.scale sc known ∙ ap (λ (q : Progress). scale_of q.least sc.heading) v in
    let n = ap (λ (q : Progress). q.count) v in
    let few : c.args.self.now.count < c.args.limits.now.rows = omega (arith, n, c.if-self-limits.false) in
    let p = c.in_ok-size.ensures.row in
    let text = content (whole_line p.line) in
    let t = c.turn.ensures in
    let old = ap (λ (q : Progress). q.row.time) v in
    let up : 0 < c.args.self.now.count → c.args.self.now.row.time < c.turn.new.self.last.time = λ some. elim c.else-self-ne0.branch [
      | else-self-ne0-via-then-self-ne0+else-time w ↦
          (let next = ap (λ (r : Row). r.time) w.next.ensures in
          let last = ap (λ (r : Row). r.time) (w.last.ensures ∙ c.in_ok-size.ensures.last) in
          let now = ap (λ (r : Row). r.time) t in
          omega (arith, next, last, old, now, w.time.ensures, w.time-then-self-ne0.ensures, w.if-time.false))
      | else-self-ne0-via-else-self-ne0 w ↦ absurd (omega (arith, n, some, w.if-self-ne0.false))
    ] in
    let read : IsRowRead sc (fields_of (Some text)) c.turn.new.self.last =
    subst (λ fs. IsRowRead sc fs c.turn.new.self.last) (fields_are p.line) (subst (IsRowRead sc (fields (whole_line p.line))) (sym t) p.read) in
    record {
      line = p.line;
      whole = p.whole;
      read = row_line_read c.args.limits.now p.line text c.args.self.now _ _ refl p.solid
          (row_taken c.args.limits.now text c.args.self.now _ sc is scale few read up (rw (← v) refl));
    }
