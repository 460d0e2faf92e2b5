use Rattle.std.proofs.Common.{◌∷◌, ◌++◌, sym, subst}
use Rattle.std.specs.Prelude.{Err}
use Rattle.session_mux.specs.Muxes.{IsLineCall}
use Rattle.session_mux.specs.Running.{IsRunRefused}
use Rattle.session_mux.specs.declared.fault.MuxFault.{MuxFault}
use Rattle.session_mux.specs.declared.stop.InputStop.{InputStop}
use Rattle.session_mux.proofs.RunInputs.{run_handed, run_turned_away}
use Rattle.session_mux.proofs.input.hand_run.Goals as goal

pub returns-in-Ok : goal.returns-in-Ok
returns-in-Ok c = λ p content stands e.
    let t = c.args.front.now.tag.now in
    run_handed p t content c.args.mux.now c.take.new.self c.args.text.now c.take.new.out c.requires.tag
    (c.in-Ok.ensures.taken p content stands e)

pub returns-in-Err-TooManySessions : goal.returns-in-Err-TooManySessions
returns-in-Err-TooManySessions c = λ p content stands e.
    let t = c.args.front.now.tag.now in
    subst (λ (s : InputStop). IsRunRefused p c.args.number t c.args.text.now c.take.new.out s) (sym c.refused.ensures)
    (run_turned_away p t content c.args.mux.now c.take.new.self c.args.text.now c.take.new.out c.args.number c.requires.tag
    (subst (λ (x : MuxFault). IsLineCall p (t ++ 32 ∷ content) c.args.mux.now c.take.new.self
    c.args.text.now c.take.new.out (Err x)) c.in-Err-TooManySessions.field-0-is (c.in-Err-TooManySessions.ensures.taken p content stands e)))
