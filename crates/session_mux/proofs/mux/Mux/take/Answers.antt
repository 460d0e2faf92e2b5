use Rattle.std.proofs.Common.{◌++◌, ◌∷◌, sym, ap, subst, refl, length, length-append, arith}
use Rattle.stl_syntax.specs.Texts.{newline}
use Rattle.session_mux.specs.Sessions.{Tagged, followed}
use Rattle.session_mux.specs.Knowing.{tags_of}
use Rattle.session_mux.specs.Muxes.{Muxed, StandsFor, HasTags}
use Rattle.session_mux.proofs.MuxLemmas.{tags_unless_taken, goes_on_after, line_call, line_moves, line_late}
use Rattle.session_mux.proofs.RunInputs.{tag_not_blank}
use Rattle.session_mux.proofs.mux.Mux.take.Goals as goal

pub answer-outcome-requires-clause-some : goal.answer-outcome-requires-clause-some
answer-outcome-requires-clause-some c =
    let (content, e) = c.requires.feed in
    let n = ap length e in omega (arith, n, length-append content newline)

pub invariant_of-self : goal.invariant_of-self
invariant_of-self c =
    let (p, s) = c.self.invariant.1 c.in_ok-allow.ensures in
    let (content, e) = c.requires.feed in
    let x : Tagged = record { tag = c.args.tag.now; content = content } in (
      c.answer-outcome.ensures.few,
      goes_on_after p x (x.tag ++ 32 ∷ x.content) c.self.inside.known c.answer-outcome.new.self c.args.out.now c.answer-outcome.new.out
          c.self.inside.phase c.after_line-self-inside.result c.in_ok-allow.ensures s.knows
          c.answer-outcome.result c.after_line-self-inside.ensures (c.answer-outcome.ensures.answered p.formula p.seen x s.knows refl e),
    )

pub returns-clause-taken : goal.returns-clause-taken
returns-clause-taken c = λ p content stands e.
    let s = subst (λ (m : Muxed). StandsFor p m) (sym c.self.view_is) stands in
    let x : Tagged = record { tag = c.args.tag.now; content = content } in
    line_call p x (x.tag ++ 32 ∷ x.content) c.self.inside.known c.answer-outcome.new.self c.args.out.now c.answer-outcome.new.out
    c.self.inside.phase c.after_line-self-inside.result c.in_ok-allow.ensures s.knows
    c.args.self.now c.self.view_is (tag_not_blank c.args.tag.now (32 ∷ content) c.requires.tag) (followed content c.requires.tag)
    c.answer-outcome.result c.after_line-self-inside.ensures (c.answer-outcome.ensures.answered p.formula p.seen x s.knows refl e)

pub returns-clause-phase : goal.returns-clause-phase
returns-clause-phase c =
    let (p, s) = c.self.invariant.1 c.in_ok-allow.ensures in
    let (content, e) = c.requires.feed in
    let x : Tagged = record { tag = c.args.tag.now; content = content } in
    line_moves p x (x.tag ++ 32 ∷ x.content) c.self.inside.known c.answer-outcome.new.self c.args.out.now c.answer-outcome.new.out
    c.self.inside.phase c.after_line-self-inside.result c.in_ok-allow.ensures s.knows
    c.args.self.now c.self.view_is c.answer-outcome.result c.after_line-self-inside.ensures
    (c.answer-outcome.ensures.answered p.formula p.seen x s.knows refl e)

pub returns-clause-late : goal.returns-clause-late
returns-clause-late c = λ late.
    let (p, s) = c.self.invariant.1 c.in_ok-allow.ensures in
    let (content, e) = c.requires.feed in
    let x : Tagged = record { tag = c.args.tag.now; content = content } in
    absurd (line_late p x (x.tag ++ 32 ∷ x.content) c.self.inside.known c.answer-outcome.new.self c.args.out.now c.answer-outcome.new.out
    c.self.inside.phase c.after_line-self-inside.result c.in_ok-allow.ensures s.knows
    c.answer-outcome.result (c.answer-outcome.ensures.answered p.formula p.seen x s.knows refl e) late)

pub returns-clause-untaken : goal.returns-clause-untaken
returns-clause-untaken c = λ p tags.
    tags_unless_taken c.answer-outcome.result c.self.inside.known.sessions.items c.answer-outcome.new.self.sessions.items (tags_of p.seen)
    c.answer-outcome.ensures.untaken (subst (λ (m : Muxed). HasTags p m) (sym c.self.view_is) tags)
