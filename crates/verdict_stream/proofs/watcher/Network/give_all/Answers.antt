use Rattle.std.proofs.Common.{suc, ◌-◌, ◌<◌, [], ◌∷◌, ◌++◌, length, refl, sym, subst, ◌∙◌}
use Rattle.online_nodes.specs.Network.{take as taken}
use Rattle.online_nodes.specs.Driven.{takes}
use Rattle.online_nodes.specs.Held.{held_at}
use Rattle.online_net.specs.Nets.{Parts, Stands, IsNext}
use Rattle.verdict_stream.specs.Watching.{HasGiven}
use Rattle.verdict_stream.proofs.TakenVerdicts.{none_given, gives_one, all_given, measure_falls}
use Rattle.verdict_stream.proofs.watcher.Network.give_all.Goals as goal

pub loop-verdict-init : goal.loop-verdict-init
loop-verdict-init c = record {
  formula = refl;
  given = λ p can. (0, none_given p can.given c.args.self.now c.args.pending.now can);
}

pub loop-verdict-preserved : goal.loop-verdict-preserved
loop-verdict-preserved c = record {
  formula = c.keep.ensures.formula ∙ c.loop-verdict.invariant.formula;
  given = λ p can.
      let (n, h) = c.loop-verdict.invariant.given p can in (
        suc n,
        gives_one p can.given c.in-Some.verdict c.keep.new.self c.push.new.self h
            (record {
              next = c.in-Some.ensures.next p.nodes p.header (p.events ++ takes n) h.stands;
              stands = subst (λ (q : Parts). Stands p.nodes p.header q ((p.events ++ takes n) ++ taken ∷ [])) (sym c.keep.ensures.net)
                  (c.in-Some.ensures.stands p.nodes p.header (p.events ++ takes n) h.stands);
              start = c.keep.ensures.start;
            })
            c.in_ok-push.ensures,
      );
}

pub loop-verdict-smaller : goal.loop-verdict-smaller
loop-verdict-smaller c =
    let (p, can) = c.requires in
    let (n, h) = c.loop-verdict.invariant.given p can in
    subst (λ (q : Parts). length (held_at q.edges (length q.operators - 1))
    < length (held_at c.loop-verdict.self.net.edges (length c.loop-verdict.self.net.operators - 1))) (sym c.keep.ensures.net)
    (measure_falls p.nodes p.header (p.events ++ takes n) c.loop-verdict.self.net c.take.new.self c.in-Some.verdict h.stands
    (c.in-Some.ensures.next p.nodes p.header (p.events ++ takes n) h.stands)
    (c.in-Some.ensures.stands p.nodes p.header (p.events ++ takes n) h.stands))

pub returns-clause-given : goal.returns-clause-given
returns-clause-given c = λ p can.
    let (n, h) = c.loop-verdict.invariant.given p can in
    let same = c.take.ensures.unchanged c.in_default.is in (
      n,
      subst (λ (q : Parts). HasGiven p n (record { net = q; formula = c.loop-verdict.self.formula; start = c.loop-verdict.self.start })
          c.args.pending.now c.loop-verdict.pending) (sym same) h,
      all_given p can.given n c.loop-verdict.self c.args.pending.now c.loop-verdict.pending h
          (subst (λ o. IsNext p.nodes p.header (p.events ++ takes n) o) c.in_default.is
          (c.take.ensures.next p.nodes p.header (p.events ++ takes n) h.stands)),
    )

pub returns-clause-formula : goal.returns-clause-formula
returns-clause-formula c = c.loop-verdict.invariant.formula

pub returns-in_err-push-clause-formula : goal.returns-in_err-push-clause-formula
returns-in_err-push-clause-formula c = c.keep.ensures.formula ∙ c.loop-verdict.invariant.formula
