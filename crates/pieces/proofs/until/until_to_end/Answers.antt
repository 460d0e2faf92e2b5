use Rattle.rational.proofs.PlaceLemmas.{same_places, same_trans_places}
use Rattle.pieces.specs.Chains.{IsLimited, stop}
use Rattle.courses.proofs.FaultLemmas.{can_mirror, cause_back, pair_turned}
use Rattle.pieces.proofs.RunningBack.{AreBackward, are_back, back_limited, begins_back, ends_back, since_limited, turned_same, until_bases, until_told}
use Rattle.pieces.proofs.until.until_to_end.Given.{Over}
use Rattle.pieces.proofs.until.until_to_end.Goals.{In_ok-right, In-Ok}
use Rattle.pieces.proofs.until.until_to_end.Goals as goal

-- both sides run back
backward : (g : Over) (c : In_ok-right g) → AreBackward g.P.Shape c.args.a.now c.args.b.now c.in_ok-left.left c.in_ok-right.right
backward g c = record {
  laws = assumption g.met.P.Shape;
  of_left = record { normal = c.len.ensures.normal; limited = c.requires.left; tells = c.in_ok-left.ensures.worth };
  of_right = record { normal = c.len-2.ensures.normal; limited = c.requires.right; tells = c.in_ok-right.ensures.worth };
}

pub since_from_start-told-requires : goal.since_from_start-told-requires
since_from_start-told-requires g c =
    let m = backward g (goal.at.since_from_start-told-requires g c).In_ok-right in record {
      left = back_limited m.of_left;
      right = back_limited m.of_right;
      begins = same_trans_places m.of_left.tells.begins (same_trans_places (turned_same c.requires.ends) (same_places m.of_right.tells.begins));
      ends = same_trans_places m.of_left.tells.ends (same_trans_places (turned_same c.requires.begins) (same_places m.of_right.tells.ends));
    }

-- the since is limited
limited_since : (g : Over) (c : In-Ok g) → IsLimited g.P.Shape c.in-Ok.since
limited_since g c = since_limited (backward g (goal.at.In-Ok g c).In_ok-right) c.in-Ok.since c.in-Ok.ensures.worth

pub run_back-requires-in-Ok : goal.run_back-requires-in-Ok
run_back-requires-in-Ok g c = limited_since g (goal.at.run_back-requires-in-Ok g c).In-Ok

pub returns-in_ok-run_back-in-Ok-clause-worth : goal.returns-in_ok-run_back-in-Ok-clause-worth
returns-in_ok-run_back-in-Ok-clause-worth g c =
    let at = goal.at.returns-in_ok-run_back-in-Ok-clause-worth g c in
    until_told (backward g at.In_ok-right) c.in-Ok.since c.in_ok-run_back-in-Ok.field-0 c.in-Ok.ensures.worth
    (record { normal = c.in-Ok.ensures.worth.normal; limited = limited_since g at.In-Ok; tells = c.in_ok-run_back-in-Ok.ensures.worth })

pub returns-in_ok-run_back-in-Ok-clause-bases : goal.returns-in_ok-run_back-in-Ok-clause-bases
returns-in_ok-run_back-in-Ok-clause-bases g c =
    until_bases g.P.Shape c.args.a.now c.args.b.now c.in_ok-left.left c.in_ok-right.right c.in-Ok.since c.in_ok-run_back-in-Ok.field-0
    c.in_ok-left.ensures.bases c.in_ok-right.ensures.bases c.in-Ok.ensures.bases c.in_ok-run_back-in-Ok.ensures.bases

pub mirrored-requires-clause-pair : goal.mirrored-requires-clause-pair
mirrored-requires-clause-pair g c =
    let m = backward g (goal.at.mirrored-requires-clause-pair g c).In_ok-right in
    let small = back_limited m.of_left in
    can_mirror m.laws c.in-Err.fault small.begins small.ends c.in-Err.ensures.pair

pub returns-in-Err-clause-wide : goal.returns-in-Err-clause-wide
returns-in-Err-clause-wide g c =
    let m = backward g (goal.at.returns-in-Err-clause-wide g c).In_ok-right in
    cause_back (are_back m) g.P.Shape c.in-Err.fault c.mirrored.result c.mirrored.ensures c.in-Err.ensures.wide

pub returns-in-Err-clause-pair : goal.returns-in-Err-clause-pair
returns-in-Err-clause-pair g c =
    let m = backward g (goal.at.returns-in-Err-clause-pair g c).In_ok-right in
    let left = c.in_ok-left.left in
    pair_turned g.P.Shape c.in-Err.fault c.mirrored.result c.args.a.now.from.at (stop c.args.a.now).at left.from.at (stop left).at
    (begins_back m.of_left).0 (ends_back m.of_left).0 c.mirrored.ensures c.in-Err.ensures.pair
