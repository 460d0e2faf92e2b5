use Rattle.unit_laws.proofs.OneTexts.{read_texts as law}
use Rattle.unit_laws.proofs.laws.read_texts_are_of_units.Goals as goal

pub returns : goal.returns
returns c = law c.args.formula.now c.len-count.ensures.well_formed
