-- A blank line, the header or a row.
use Rattle.std.proofs.Common.{◌≡◌, ◌∙◌, ap, sym, refl, false}
use Rattle.stl_syntax.specs.Characters.{is_space, all}
use Rattle.trace_reader.specs.TraceText.{is_blank_line}
use Rattle.trace_reader.specs.LineParts.{whole_line}
use Rattle.trace_reader.specs.Progress.{Progress, blank}
use Rattle.trace_reader.proofs.ReadLemmas.{heading_line_read, row_line_read, map_none}
use Rattle.trace_reader.proofs.content.Content.read_line.Goals as goal

pub returns-then-is_blank : goal.returns-then-is_blank
returns-then-is_blank c = blank (ap (all is_space) (sym c.content_of-text.ensures.value) ∙ (sym c.is_blank.ensures ∙ c.if-is_blank.true)) refl

pub returns-then-is_none : goal.returns-then-is_none
returns-then-is_none c =
    let b : is_blank_line (whole_line c.args.line.now) ≡ false =
    ap (all is_space) (sym c.content_of-text.ensures.value) ∙ (sym c.is_blank.ensures ∙ c.if-is_blank.false) in
    let n = sym (ap (λ (q : Progress). q.heading) c.self.view_is) ∙ map_none c.self.inside.heading c.if-is_none.ensures in
    heading_line_read c.args.limits.now c.args.line.now c.content_of-text.result.now c.args.self.now c.read_as_heading.new.self
    c.read_as_heading.result c.content_of-text.ensures.value b n c.read_as_heading.ensures

pub returns : goal.returns
returns c =
    let b : is_blank_line (whole_line c.args.line.now) ≡ false =
    ap (all is_space) (sym c.content_of-text.ensures.value) ∙ (sym c.is_blank.ensures ∙ c.if-is_blank.false) in
    row_line_read c.args.limits.now c.args.line.now c.content_of-text.result.now c.args.self.now c.read_as_row.new.self
    c.read_as_row.result c.content_of-text.ensures.value b c.read_as_row.ensures
