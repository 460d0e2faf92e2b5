use Rattle.std.proofs.Common.{rules, ◌≡◌, sym, subst}
use Rattle.std.specs.Prelude.{Contains}
use Rattle.std.proofs.lemmas.Result.{on_ok_weaker}
use Rattle.stl_syntax.specs.Views.{view_of}
use Rattle.implicants.specs.Cuts.{AreNearMoves, moves_of}
use Rattle.implicants.proofs.MovedCuts.{adds_same, same_moves}
use Rattle.implicants.proofs.cuts.add_from.Goals as goal

pub add_moves-requires-clause-near : goal.add_moves-requires-clause-near
add_moves-requires-clause-near c = subst AreNearMoves (sym c.deref.ensures.value) c.in_ok-put_moves.ensures.near

pub returns : goal.returns
returns c =
    let n = c.args.node.now in
    let is : c.deref.result.now ≡ moves_of (view_of n) = search (rules, c.deref.ensures.value, c.in_ok-put_moves.ensures.put, c.new-moves.ensures) in
    on_ok_weaker c.add_moves.result (adds_same
    (λ t m. (m.0, (same_moves n m.0).0 (subst (λ l. Contains l m.0) is m.1), m.2))
    (λ t m. (m.0, subst (λ l. Contains l m.0) (sym is) ((same_moves n m.0).1 m.1), m.2))) c.add_moves.ensures
