use Rattle.std.proofs.Common.{cond, eqb, get_or, replicate, sym, subst, w8}
use Rattle.memchr.proofs.lemmas.LaneLemmas.{HasLanes-compared}
use Rattle.memchr.specs.Lanes.{HasLanes}
use Rattle.std.proofs.lemmas.Simd.{tops_compared}
use Rattle.std.specs.Simd.Lanes.{sel_l}
use Rattle.session_mux.proofs.near.differing.Goals as goal

pub returns : goal.returns
returns c =
    let v = c.args.bytes in
    let w = c.args.others in
    subst (λ ms. HasLanes (sel_l ms (replicate 32 0) (replicate 32 255)) (λ k. cond (eqb (get_or v k 0) (get_or w k 0)) 0 255))
    (sym (tops_compared w8 eqb v w)) (HasLanes-compared eqb v w 0 255 c.fits-bytes.0 c.fits-others.0)
