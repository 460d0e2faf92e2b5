-- A name is a first byte and later ones.
use Rattle.std.proofs.Common.{◌≡◌, ◌∷◌, ◌≤◌, ◌∙◌, sym, subst, length, leb, true, arith}
use borrow.Author.Tests.{leb-true}
use Rattle.stl_syntax.specs.Characters.{begins_word}
use Rattle.trace_reader.specs.TraceText.{IsName, name}
use Rattle.trace_reader.proofs.NameLemmas.{name_at}
use Rattle.trace_reader.proofs.name.is_name.Goals as goal
use Rattle.trace_reader.proofs.name.is_name.Goals.{then-text-le-LONGEST_NAME, else-text-le-LONGEST_NAME}

pub returns-then-begins_name : goal.returns-then-begins_name
returns-then-begins_name c =
    let text : c.args.text.now ≡ c.in-Some.first.now ∷ c.in-Some.others.now = c.in-Some.ensures.cases.0 in
    elim c.if-text-le-LONGEST_NAME.branch [
      | then-text-le-LONGEST_NAME w ↦
          let first : begins_word c.in-Some.first.now ≡ true = sym w.begins_name.ensures ∙ (sym w.value-is ∙ c.if-begins_name.true) in
          let size : length (c.in-Some.first.now ∷ c.in-Some.others.now) ≤ 64 = rw text at w.if-text-le-LONGEST_NAME.true in (
            λ h. rw text (name first (sym c.all_go_on.ensures ∙ h) size),
            λ h. c.all_go_on.ensures ∙ (name_at (subst IsName text h)).1,
          )
      | else-text-le-LONGEST_NAME w ↦ absurd (let b : leb (length c.args.text.now) 64 ≡ true = sym w.value-is ∙ c.if-begins_name.true in
          omega (arith, leb-true _ _ b, w.if-text-le-LONGEST_NAME.false))
    ]
