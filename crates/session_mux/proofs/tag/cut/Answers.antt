use Rattle.std.proofs.Common.{inl, inr, ◌+◌, arith}
use Rattle.rational.proofs.Lists.{take_rest}
use Rattle.session_mux.proofs.TagLemmas.{no_tag, no_space, whole_tag, tag_and_content}
use Rattle.session_mux.proofs.tag.cut.Goals as goal
use Rattle.session_mux.proofs.tag.cut.Goals.{then-len-eq0-via-then-len-eq0, then-len-eq0-via-else-len-eq0+then-len-gt-LONGEST}

pub returns-then-len-eq0 : goal.returns-then-len-eq0
returns-then-len-eq0 c =
    let len = c.tag_len-len in
    elim c.then-len-eq0.branch [
      | then-len-eq0-via-then-len-eq0 w ↦ no_tag c.args.line.now len.result len.ensures.within len.ensures.front len.ensures.stops
          (inl (omega (arith, w.if-len-eq0.true)))
      | then-len-eq0-via-else-len-eq0+then-len-gt-LONGEST w ↦
          no_tag c.args.line.now len.result len.ensures.within len.ensures.front len.ensures.stops (inr (omega (arith, w.if-len-gt-LONGEST.true)))
    ]

pub returns-then-len-line : goal.returns-then-len-line
returns-then-len-line c =
    whole_tag c.args.line.now _ c.tag_len-len.result c.tag_len-len.ensures.front
    (omega (arith, c.if-len-line.true)) c.if-len-eq0.false (omega (arith, c.if-len-gt-LONGEST.false))
    (take_rest c.args.line.now c.tag_len-len.result)

pub returns-then-line-len-ne32 : goal.returns-then-line-len-ne32
returns-then-line-len-ne32 c =
    let len = c.tag_len-len in
    no_space c.args.line.now len.result len.ensures.within len.ensures.front len.ensures.stops (omega arith) c.if-line-len-ne32.true

pub returns : goal.returns
returns c =
    tag_and_content c.args.line.now _ c.tag_len-len.result c.tag_len-len.ensures.front (omega arith) c.if-len-eq0.false
    (omega (arith, c.if-len-gt-LONGEST.false)) c.if-line-len-ne32.false
    (take_rest c.args.line.now (c.tag_len-len.result + 1))
