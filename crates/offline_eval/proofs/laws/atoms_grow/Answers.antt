use Rattle.offline_eval.proofs.Places.{atoms_on_atom, atoms_on_other, told_none, told_atom, told_other}
use Rattle.offline_eval.proofs.laws.atoms_grow.Goals as goal

pub returns : goal.returns
returns g c = record {
  none = told_none g.P.Shape;
  atom = λ nodes s i a xs x at count told tells. told_atom g.P.Shape nodes s i xs at count told tells;
  other = told_other g.P.Shape;
  count_atom = atoms_on_atom;
  count_other = atoms_on_other;
}
