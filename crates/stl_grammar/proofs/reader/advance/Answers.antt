-- A token of the text is taken or refused.
use Rattle.std.proofs.Common.{◌≡◌, ◌+◌, ◌-◌, ◌≤◌, ◌<◌, ℕ, List, length, drop, sym, ap, ◌∙◌, arith}
use Rattle.std.proofs.lemmas.List.{length-drop, length-append}
use Rattle.stl_grammar.specs.Spelling.{IsLexeme}
use Rattle.stl_grammar.proofs.RefusingLaw.{spells_known}
use Rattle.stl_grammar.specs.declared.token.Token.{Token as Code}
use Rattle.stl_grammar.proofs.reader.advance.Goals as goal

ends_within : (text : List ℕ) (at len : ℕ) (code : Code) → at < length text → IsLexeme text (drop at text) code len → at + len ≤ length text
ends_within text at len code l x =
    let e : length text - at ≡ length x.bytes + length x.after = sym (length-drop at text) ∙ (ap length x.splits ∙ length-append x.bytes x.after) in
    omega (arith, e, x.size)

pub overflow_add-to : goal.overflow_add-to
overflow_add-to c = omega (arith, ends_within c.args.text.now c.args.at c.in-Some.lexeme.len _ c.requires.place c.in-Some.ensures, c.requires.short)

pub slice_bounds-take-count : goal.slice_bounds-take-count
slice_bounds-take-count c = ends_within c.args.text.now c.args.at c.in-Some.lexeme.len _ c.requires.place c.in-Some.ensures

pub slice_bounds-take-start : goal.slice_bounds-take-start
slice_bounds-take-start c = ends_within c.args.text.now c.args.at c.in-Some.lexeme.len _ c.requires.place c.in-Some.ensures

pub take-requires : goal.take-requires
take-requires c = record { made = c.requires.made; known = spells_known c.args.text.now c.in-Some.lexeme.token _ c.in-Some.ensures.spells }
