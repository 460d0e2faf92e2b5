use Rattle.std.proofs.Common.{inl, sym, subst, ◌∙◌}
use Rattle.rational.specs.Time.{add, whole}
use Rattle.rational.specs.Extended.{◌≈ᵉ◌, value_at}
use Rattle.pl_signal.proofs.Values.{some_is}
use Rattle.pieces.specs.Levels.{IsBestOf}
use Rattle.pieces.proofs.Shifts.{high_from, high_to, room}
use Rattle.pieces.proofs.ReadUpTo.{shape_at}
use Rattle.pieces.proofs.levels.best_of.Goals as goal

pub at_high-requires-clause-room : goal.at_high-requires-clause-room
at_high-requires-clause-room g c =
    let p = c.piece.result.now.shape in
    room (g.P.Shape.base p) c.args.way.now.over.high (c.requires.near p (shape_at c.args.s.now.pieces c.in-Some.i c.piece.result.now c.piece.ensures))
    (high_from c.args.way.now.over c.requires.small) (high_to c.args.way.now.over c.requires.small)

pub returns-in-Some : goal.returns-in-Some
returns-in-Some g c =
    let s = c.args.s.now in
    let p = c.piece.result.now in
    subst (λ top. IsBestOf g.P.Shape s c.args.way.now top c.at_high.result) (sym c.in-Some.is) (
      λ q t e. subst (λ r. value_at (g.P.Shape.function c.at_high.result) t
          ≈ᵉ value_at (g.P.Shape.function r.shape) (add t (whole c.args.way.now.over.high))) (some_is (sym c.piece.ensures ∙ e))
          (c.at_high.ensures.value t),
      λ m. let b = c.at_high.ensures.base m in (p.shape, shape_at s.pieces c.in-Some.i p c.piece.ensures, b.0, inl b.1),
    )
