-- The text is read token by token.
use Rattle.std.proofs.Common.{sym, ◌∙◌, arith, inl, inr}
use Rattle.stl_grammar.proofs.ReadLaw.{read_nothing, read_blank, read_token, read_stops, read_all, read_part, advances_some}
use Rattle.stl_grammar.proofs.reader.read.Goals as goal

pub loop-at-init : goal.loop-at-init
loop-at-init c = rw (c.new-parser.ensures, c.new-tokens.ensures.items) (read_nothing c.args.text.now)

pub loop-at-preserved-then-is_blank : goal.loop-at-preserved-then-is_blank
loop-at-preserved-then-is_blank c =
    read_blank c.args.text.now c.loop-at.at c.loop-at.parser c.loop-at.tokens.items c.loop-at.invariant c.loop-at-test.true
    (sym c.is_blank.ensures ∙ c.if-is_blank.true)

pub loop-at-smaller : goal.loop-at-smaller
loop-at-smaller c =
    omega (
      arith,
      advances_some c.args.text.now c.loop-at.at c.in-Ok.to c.loop-at.parser c.advance.new.parser
          c.loop-at.tokens.items c.advance.new.tokens.items c.in-Ok.ensures,
      c.loop-at-test.true,
    )

pub loop-at-preserved : goal.loop-at-preserved
loop-at-preserved c =
    read_token c.args.text.now c.loop-at.at c.loop-at.parser c.loop-at.tokens.items c.loop-at.invariant c.in-Ok.to
    c.advance.new.parser c.advance.new.tokens.items c.in-Ok.ensures

pub returns-in-Err : goal.returns-in-Err
returns-in-Err c =
    elim c.in-Err.ensures [
      | inl m ↦ inl m
      | inr s ↦ inr (read_stops c.args.text.now c.loop-at.at c.loop-at.parser c.loop-at.tokens.items c.loop-at.invariant
          c.in-Err.fault c.loop-at-test.true (sym c.is_blank.ensures ∙ c.if-is_blank.false) s)
    ]

pub returns-then-not-is_whole : goal.returns-then-not-is_whole
returns-then-not-is_whole c =
    inr (rw c.expected.ensures (read_part c.args.text.now c.loop-at.at c.loop-at.parser c.loop-at.tokens.items c.loop-at.invariant
    c.loop-at-test.false (sym c.is_whole.ensures ∙ c.if-not-is_whole.true)))

pub returns : goal.returns
returns c =
    read_all c.args.text.now c.loop-at.at c.loop-at.parser c.loop-at.tokens.items c.loop-at.invariant c.loop-at-test.false
    (sym c.is_whole.ensures ∙ c.if-not-is_whole.false)
