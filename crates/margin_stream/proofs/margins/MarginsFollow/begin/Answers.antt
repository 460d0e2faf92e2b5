use Rattle.std.proofs.Common.{[], None, false, refl, sym, subst}
use Rattle.stl_syntax.specs.Formula.{root}
use Rattle.stl_syntax.specs.Stream.{IsRowsText}
use Rattle.online_nodes.specs.MarginStream.{IsNewMargins}
use Rattle.online_robust.specs.Nets.{StandsFor}
use Rattle.margin_stream.specs.Margining.{AreEmitted}
use Rattle.margin_stream.proofs.margins.MarginsFollow.begin.Goals as goal

pub new-requires-clause-bound : goal.new-requires-clause-bound
new-requires-clause-bound c = let (f, is) = c.requires.case in (c.args.case.trace.header, is.bound)

pub new-requires-clause-streamed : goal.new-requires-clause-streamed
new-requires-clause-streamed c = c.requires.streamed

pub returns : goal.returns
returns c =
    let case = c.args.case in
    let (f, is) = c.requires.case in
    record {
      stands = record {
        formula = refl;
        given = [];
        stands = subst (λ rows. StandsFor case.formula.nodes case.trace.header c.in_ok-net.net (record { rows = rows; ended = false }) []) (sym c.requires.none)
            (c.in_ok-net.ensures.stands case.trace.header is.bound);
        emitted = subst (λ rows. AreEmitted (record case { trace = record case.trace { rows = rows } }) false []) (sym c.requires.none) refl;
        lines = refl;
      };
      fits = (f, is);
      told = subst (λ rows. IsRowsText (IsNewMargins (root case.formula.nodes)) (root case.formula.nodes) case.trace.header [] None rows [])
          (sym c.requires.none) refl;
    }
