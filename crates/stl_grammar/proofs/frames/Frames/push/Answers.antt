-- There are no more pending than there are frames.
use Rattle.std.proofs.Common.{arith}
use Rattle.std.specs.Prelude.{reverse}
use Rattle.std.proofs.lemmas.List.{length-reverse}
use Rattle.stl_grammar.proofs.FrameLemmas.{marks_few, marks_one, parens_few, parens_one}
use Rattle.stl_grammar.proofs.frames.Frames.push.Goals as goal

pub overflow_add-self : goal.overflow_add-self
overflow_add-self c =
    let items = c.self.inside.frames.items in
    omega (
      arith,
      marks_few (reverse items),
      length-reverse items,
      c.self.invariant.pending,
      marks_one c.args.frame,
      c.marks.ensures,
      c.in_ok-push.ensures.len,
      c.self.inside.frames.ok.0,
    )

pub overflow_add-self-2 : goal.overflow_add-self-2
overflow_add-self-2 c =
    let items = c.self.inside.frames.items in
    omega (
      arith,
      parens_few (reverse items),
      length-reverse items,
      c.self.invariant.parens,
      parens_one c.args.frame,
      c.parens.ensures,
      c.in_ok-push.ensures.len,
      c.self.inside.frames.ok.0,
    )
