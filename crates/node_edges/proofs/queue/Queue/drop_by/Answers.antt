use Rattle.std.proofs.Common.{◌≡◌, sym, subst, ◌∙◌, ◌<◌, slice_get, length, Some, IfSome, rules, to_z-of_z, to_z, of_z, w64}
use Rattle.rational.specs.Rational.{◌<ʳ◌, ◌≈◌, whole}
use Rattle.frac128.specs.Value.{value}
use Rattle.node_edges.specs.Held.{held_of}
use Rattle.node_edges.specs.Queues.{edge_of}
use Rattle.node_edges.proofs.DroppingLemmas.{IsCutBy, cut_none, cut_one, dropped_by, fewer_held, above_of_not}
use Rattle.node_edges.proofs.queue.Queue.drop_by.Goals as goal

pub loop-v-init : goal.loop-v-init
loop-v-init g c = record {
  read = c.requires;
  cut = cut_none (value c.of-end.result) (edge_of c.args.self.now);
  kept = λ spare h. h;
}

pub returns-then-not-ends_by-clause-dropped : goal.returns-then-not-ends_by-clause-dropped
returns-then-not-ends_by-clause-dropped g c =
    let first : slice_get (held_of (edge_of c.loop-v.self)) 0 ≡ Some c.in-Some.v = sym c.first.ensures ∙ c.in-Some.is in
    let noted : to_z w64 (of_z w64 c.args.limit) ≡ c.args.limit = search (rules, to_z-of_z) in
    let limit : value c.of-end.result ≈ whole c.args.limit = subst (λ z. value c.of-end.result ≈ whole z) noted c.of-end.ensures.value in
    dropped_by c.loop-v.invariant.cut limit
    (subst (λ o. IfSome o (λ v. value c.of-end.result <ʳ g.T.Part.end v)) (sym first)
    (above_of_not _ _ (λ le. let e = c.ends_by.ensures.1 le in let f = c.if-not-ends_by.true in cc)))

pub loop-v-preserved : goal.loop-v-preserved
loop-v-preserved g c =
    let first : slice_get (held_of (edge_of c.loop-v.self)) 0 ≡ Some c.in-Some.v = sym c.first.ensures ∙ c.in-Some.is in
    record {
      read = c.take.ensures.kept 0 c.loop-v.invariant.read;
      cut = subst (IsCutBy g.T.Part (value c.of-end.result) (edge_of c.args.self.now)) (sym c.take.ensures.taken)
          (cut_one c.in-Some.v c.loop-v.invariant.cut first (c.ends_by.ensures.0 c.if-not-ends_by.false));
      kept = λ spare h. c.take.ensures.kept spare (c.loop-v.invariant.kept spare h);
    }

pub loop-v-smaller : goal.loop-v-smaller
loop-v-smaller g c =
    let first : slice_get (held_of (edge_of c.loop-v.self)) 0 ≡ Some c.in-Some.v = sym c.first.ensures ∙ c.in-Some.is in
    subst (λ x. length (held_of x) < length (held_of (edge_of c.loop-v.self))) (sym c.take.ensures.taken)
    (fewer_held (edge_of c.loop-v.self) c.in-Some.v first)

pub returns-clause-dropped : goal.returns-clause-dropped
returns-clause-dropped g c =
    let none = sym c.first.ensures ∙ c.in_default.is in
    let noted : to_z w64 (of_z w64 c.args.limit) ≡ c.args.limit = search (rules, to_z-of_z) in
    let limit : value c.of-end.result ≈ whole c.args.limit = subst (λ z. value c.of-end.result ≈ whole z) noted c.of-end.ensures.value in
    dropped_by c.loop-v.invariant.cut limit (subst (λ o. IfSome o (λ v. value c.of-end.result <ʳ g.T.Part.end v)) (sym none) tt)
