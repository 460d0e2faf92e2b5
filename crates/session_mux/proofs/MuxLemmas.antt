-- What a call for a line, and for the end of the input, comes to.
use Rattle.std.proofs.Common.{◌≡◌, sym, ap, subst, ◌∙◌, ℕ, false, List, Result, Ok, Err}
use Rattle.std.specs.Prelude.{MatchResult, OnErr}
use Rattle.stl_syntax.specs.Characters.{is_space, all}
use Rattle.trace_stream.proofs.FaultPlaces.{to_false}
use Rattle.session_mux.specs.Sessions.{Tagged, IsTagged}
use Rattle.session_mux.specs.Knowing.{shown, tag_list, Knows, HasAnswered, IsUnanswered}
use Rattle.session_mux.specs.Muxes.{Muxed, Past, with_line, StandsFor, IsLineCall, Moves, IsLate, phase_after}
use Rattle.session_mux.specs.declared.fault.MuxFault.{MuxFault}
use Rattle.session_mux.specs.declared.fault.MuxFault.TheVariants as fault
use Rattle.session_mux.specs.declared.known.Known.{Known}
use Rattle.session_mux.specs.declared.session.Session.{Session}
use Rattle.session_mux.specs.declared.mux.Phase.{Phase}
use Rattle.session_mux.specs.declared.mux.Phase.TheVariants.{Taking, Stopped}

-- on an error the tags are those that there were
pub tags_unless_taken : (r : Result (Unit {0}) MuxFault) (old new : List Session) (tags : List (List ℕ)) → OnErr r (tag_list new ≡ tag_list old)
    → tag_list old ≡ tags → OnErr r (tag_list new ≡ tags)
tags_unless_taken (Ok x) old new tags h e = tt
tags_unless_taken (Err x) old new tags h e = h ∙ e

-- what came of a line that has a tag
abbrev pub IsOutcome : Past → Tagged → Known → Known → List ℕ → List ℕ → Result (Unit {0}) MuxFault → Type 0
IsOutcome p x old new before after r =
    MatchResult r (λ _. HasAnswered p.formula p.seen x (shown new) before after) (IsUnanswered p.formula p.seen x old new before after)

module _ (p : Past) (x : Tagged) (content : List ℕ) (old new : Known) (before out : List ℕ) (phase after : Phase)
    (taking : phase ≡ Taking) (knows : Knows p.formula p.seen (shown old)) where
  -- it stands for some lines where it goes on
  pub goes_on_after : (r : Result (Unit {0}) MuxFault) → after ≡ phase_after phase r → IsOutcome p x old new before out r → after ≡ Taking
      → (q : Past) × StandsFor q (record { known = shown new; phase = after })
  goes_on_after (Ok y) e h k = (with_line p x, record { phase = k; knows = h.knows })
  goes_on_after (Err fault.TooManySessions) e h k = (p, record { phase = k; knows = subst (λ (n : Known). Knows p.formula p.seen (shown n)) (sym h.0.0) knows })
  goes_on_after (Err fault.Memory) e h k = absurd (let z : Stopped ≡ Taking = sym e ∙ k in cc)
  goes_on_after (Err fault.BadTag) e h k = absurd h
  goes_on_after (Err fault.Stopped) e h k = absurd h
  goes_on_after (Err fault.Ended) e h k = absurd h

  same_as : new ≡ old → after ≡ phase → (view : Muxed) → record { known = shown old; phase = phase } ≡ view → record { known = shown new; phase = after } ≡ view
  same_as e k view v =
      ap (λ (n : Known). (record { known = shown n; phase = after })) e ∙ ap (λ (a : Phase). (record { known = shown old; phase = a })) k ∙ v

  -- the call
  pub line_call : (view : Muxed) → record { known = shown old; phase = phase } ≡ view → all is_space content ≡ false
      → IsTagged content x → (r : Result (Unit {0}) MuxFault)
      → after ≡ phase_after phase r → IsOutcome p x old new before out r → IsLineCall p content view (record { known = shown new; phase = after }) before out r
  line_call view v blank tagged (Ok y) e h =
      to_false _ _ (all is_space content) blank
      (x, tagged, record { stands = record { phase = e ∙ taking; knows = h.knows }; room = h.room; answer = h.answer; is = h.is; added = h.added })
  line_call view v blank tagged (Err fault.TooManySessions) e h = (blank, (x, tagged, h.0.1), h.0.2, same_as h.0.0 e view v, h.1)
  line_call view v blank tagged (Err fault.Memory) e h = (blank, (x, tagged, h))
  line_call view v blank tagged (Err fault.BadTag) e h = absurd h
  line_call view v blank tagged (Err fault.Stopped) e h = absurd h
  line_call view v blank tagged (Err fault.Ended) e h = absurd h

  -- the phases
  pub line_moves : (view : Muxed) → record { known = shown old; phase = phase } ≡ view → (r : Result (Unit {0}) MuxFault)
      → after ≡ phase_after phase r → IsOutcome p x old new before out r
      → Moves Taking view (record { known = shown new; phase = after }) r
  line_moves view v (Ok y) e h = (ap (λ (m : Muxed). m.phase) (sym v) ∙ taking, e ∙ taking)
  line_moves view v (Err fault.TooManySessions) e h = (ap (λ (m : Muxed). m.phase) (sym v) ∙ taking, same_as h.0.0 e view v)
  line_moves view v (Err fault.Memory) e h = (ap (λ (m : Muxed). m.phase) (sym v) ∙ taking, e)
  line_moves view v (Err fault.BadTag) e h = absurd h
  line_moves view v (Err fault.Stopped) e h = absurd h
  line_moves view v (Err fault.Ended) e h = absurd h

  -- it did not come late
  pub line_late : (r : Result (Unit {0}) MuxFault) → IsOutcome p x old new before out r → ¬ IsLate r
  line_late (Ok y) h l = l
  line_late (Err fault.TooManySessions) h l = l
  line_late (Err fault.Memory) h l = l
  line_late (Err fault.BadTag) h l = l
  line_late (Err fault.Stopped) h l = h
  line_late (Err fault.Ended) h l = h
