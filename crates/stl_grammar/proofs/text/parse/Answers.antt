-- A text that was read is the formula's, or its numbers are too large.
use Rattle.std.proofs.Common.{◌≡◌, ◌≤◌, ap, sym, ◌∙◌, subst, false, length, [], arith}
use Rattle.std.proofs.lemmas.Result.{IfOk-weaker}
use Rattle.stl_syntax.specs.Characters.{is_blank, all}
use Rattle.stl_grammar.specs.FormulaRefusals.{TokenFault}
use Rattle.stl_grammar.specs.ReadText.{IsParsed}
use Rattle.stl_grammar.specs.declared.fault.FormulaFault.{FormulaFault}
use Rattle.stl_grammar.proofs.FinishLaw.{formula_of}
use Rattle.stl_grammar.proofs.text.parse.Goals as goal

pub returns-in-Ok-clause-ok : goal.returns-in-Ok-clause-ok
returns-in-Ok-clause-ok c =
    let e = c.as_bytes-bytes.ensures.value in
    let short : length c.args.text.now ≤ 8192 = omega (arith, c.if-bytes-gt-LONGEST_TEXT.false, c.as_bytes-bytes.ensures.len) in
    let some : all is_blank c.args.text.now ≡ false = ap (all is_blank) (sym e) ∙ (sym c.is_empty.ensures ∙ c.if-is_empty.false) in
    IfOk-weaker c.finish.result _ _
    (λ f k. formula_of c.args.text.now short some f
    (subst (λ t. (r : FormulaFault) → ¬ TokenFault [] 0 t r) e c.in-Ok.ensures.free) (subst (λ t. IsParsed t f) e k))
    c.finish.ensures.ok
