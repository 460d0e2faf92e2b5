use Rattle.std.proofs.Common.{refl, ◌∙◌}
use Rattle.session_mux.proofs.OneText.{nothing_alone}
use Rattle.session_mux.proofs.SessionLemmas.{no_recent}
use Rattle.session_mux.proofs.session.Session.new.Goals as goal

pub returns-clause-said : goal.returns-clause-said
returns-clause-said c = record {
  alone = nothing_alone c.args.formula.now;
  recent = c.in_ok-recent.ensures ∙ no_recent;
  goes_on = (
    refl,
    record {
      formula = c.in_ok-live.ensures.formula ∙ c.in_ok-copied.ensures;
      limits = c.in_ok-live.ensures.limits;
      empty = c.in_ok-live.ensures.empty;
      stands = c.in_ok-live.ensures.live;
    },
  );
}
