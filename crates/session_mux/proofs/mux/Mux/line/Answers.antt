use Rattle.std.proofs.Common.{sym, subst, ◌∙◌, refl}
use Rattle.session_mux.specs.Sessions.{Tagged}
use Rattle.session_mux.specs.Knowing.{tags_of}
use Rattle.session_mux.specs.Muxes.{Muxed, StandsFor, HasTags}
use Rattle.session_mux.proofs.MuxLemmas.{tags_unless_taken, goes_on_after, line_call, line_moves, line_late}
use Rattle.session_mux.proofs.mux.Mux.line.Goals as goal

pub invariant_of-self : goal.invariant_of-self
invariant_of-self c =
    let (p, s) = c.self.invariant.1 c.in_ok-allow.ensures in
    let x : Tagged = record { tag = c.in-Some.line.tag.now; content = c.in-Some.line.content.now } in (
      c.answer_line-outcome.ensures.few,
      goes_on_after p x c.args.content.now c.self.inside.known c.answer_line-outcome.new.self c.args.out.now c.answer_line-outcome.new.out
          c.self.inside.phase c.after_line-self-inside.result c.in_ok-allow.ensures s.knows
          c.answer_line-outcome.result c.after_line-self-inside.ensures (c.answer_line-outcome.ensures.answered p.formula p.seen x s.knows refl),
    )

pub returns-clause-taken : goal.returns-clause-taken
returns-clause-taken c = λ p stands.
    let s = subst (λ (m : Muxed). StandsFor p m) (sym c.self.view_is) stands in
    let x : Tagged = record { tag = c.in-Some.line.tag.now; content = c.in-Some.line.content.now } in
    line_call p x c.args.content.now c.self.inside.known c.answer_line-outcome.new.self c.args.out.now c.answer_line-outcome.new.out
    c.self.inside.phase c.after_line-self-inside.result c.in_ok-allow.ensures s.knows
    c.args.self.now c.self.view_is (sym c.is_blank.ensures ∙ c.if-is_blank.false) c.in-Some.ensures
    c.answer_line-outcome.result c.after_line-self-inside.ensures (c.answer_line-outcome.ensures.answered p.formula p.seen x s.knows refl)

pub returns-clause-phase : goal.returns-clause-phase
returns-clause-phase c =
    let (p, s) = c.self.invariant.1 c.in_ok-allow.ensures in
    let x : Tagged = record { tag = c.in-Some.line.tag.now; content = c.in-Some.line.content.now } in
    line_moves p x c.args.content.now c.self.inside.known c.answer_line-outcome.new.self c.args.out.now c.answer_line-outcome.new.out
    c.self.inside.phase c.after_line-self-inside.result c.in_ok-allow.ensures s.knows
    c.args.self.now c.self.view_is c.answer_line-outcome.result c.after_line-self-inside.ensures
    (c.answer_line-outcome.ensures.answered p.formula p.seen x s.knows refl)

pub returns-clause-late : goal.returns-clause-late
returns-clause-late c = λ late.
    let (p, s) = c.self.invariant.1 c.in_ok-allow.ensures in
    let x : Tagged = record { tag = c.in-Some.line.tag.now; content = c.in-Some.line.content.now } in
    absurd (line_late p x c.args.content.now c.self.inside.known c.answer_line-outcome.new.self c.args.out.now c.answer_line-outcome.new.out
    c.self.inside.phase c.after_line-self-inside.result c.in_ok-allow.ensures s.knows
    c.answer_line-outcome.result (c.answer_line-outcome.ensures.answered p.formula p.seen x s.knows refl) late)

pub returns-clause-untaken : goal.returns-clause-untaken
returns-clause-untaken c = λ p tags.
    tags_unless_taken c.answer_line-outcome.result c.self.inside.known.sessions.items c.answer_line-outcome.new.self.sessions.items (tags_of p.seen)
    c.answer_line-outcome.ensures.untaken (subst (λ (m : Muxed). HasTags p m) (sym c.self.view_is) tags)
