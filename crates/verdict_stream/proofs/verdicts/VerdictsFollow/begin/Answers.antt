use Rattle.std.proofs.Common.{inl, [], None, refl, sym, subst}
use Rattle.stl_syntax.specs.Formula.{root}
use Rattle.stl_syntax.specs.Stream.{IsNewText, IsRowsText}
use Rattle.verdict_stream.specs.Quieting.{IsToldOf}
use Rattle.verdict_stream.proofs.Blocks.{none_kept}
use Rattle.verdict_stream.proofs.verdicts.VerdictsFollow.begin.Goals as goal

pub new-requires : goal.new-requires
new-requires c = let (f, is) = c.requires.case in (c.args.case.trace.header, is.bound)

pub returns : goal.returns
returns c =
    let case = c.args.case in
    let (f, is) = c.requires.case in
    let q = c.new-quiet.result in
    record {
      stands = (
        record {
          reach = c.new-quiet.ensures.reach;
          told = subst (λ o. IsToldOf (root case.formula.nodes) case.trace q.calm o) (sym c.new-quiet.ensures.told) tt;
        },
        inl (
          (c.new-quiet.ensures.rows, c.new-quiet.ensures.bytes),
          c.in_ok-watcher.ensures case refl is.bound c.requires.none,
          none_kept case.trace c.requires.none,
        ),
      );
      fits = (f, is);
      told = subst (λ rows. IsRowsText (IsNewText (root case.formula.nodes)) (root case.formula.nodes) case.trace.header [] None rows [])
          (sym c.requires.none) refl;
    }
