use Rattle.early_verdict.proofs.net.show.Goals as goal

pub returns : goal.returns
returns c = record {
  tidy = record { yes = c.in_ok-take_in.ensures.tidy; no = c.in_ok-take_in-2.ensures.tidy; parts = c.requires.parts };
  yes = c.in_ok-take_in.ensures.bounds;
  no = c.in_ok-take_in-2.ensures.bounds;
  gains_yes = c.in_ok-take_in.ensures.gains;
  gains_no = c.in_ok-take_in-2.ensures.gains;
  takes_yes = c.in_ok-take_in.ensures.takes;
  takes_no = c.in_ok-take_in-2.ensures.takes;
}
