use Rattle.std.proofs.Common.{suc, ◌-◌, ◌<◌, [], ◌∷◌, ◌++◌, length, refl, sym, ap, subst, ◌∙◌, append-nil}
use Rattle.online_nodes.specs.Network.{take as taken}
use Rattle.online_nodes.specs.Driven.{takes}
use Rattle.online_nodes.specs.Held.{held_at}
use Rattle.online_net.specs.Nets.{Parts, Stands, IsNext}
use Rattle.verdict_stream.specs.Watching.{HasTaken}
use Rattle.verdict_stream.proofs.TakenVerdicts.{none_yet, takes_one, all_taken, measure_falls}
use Rattle.verdict_stream.proofs.watcher.Network.take_all.Goals as goal

pub loop-verdict-init : goal.loop-verdict-init
loop-verdict-init c = record {
  formula = refl;
  taken = λ p can. (
    0,
    subst (λ t. HasTaken p 0 c.args.self.now c.args.text.now t) (sym (ap (λ l. c.args.text.now ++ l) c.requires.none ∙ append-nil c.args.text.now))
        (none_yet p can.given c.args.self.now c.args.text.now can),
  );
}

pub loop-verdict-preserved : goal.loop-verdict-preserved
loop-verdict-preserved c = record {
  formula = c.put.ensures.formula ∙ c.loop-verdict.invariant.formula;
  taken = λ p can.
      let (n, h) = c.loop-verdict.invariant.taken p can in (
        suc n,
        takes_one p can.given c.in-Some.verdict c.put.new.self (c.put.new.text ++ c.put.new.lines) h
            (record {
              next = c.in-Some.ensures.next p.nodes p.header (p.events ++ takes n) h.stands;
              stands = subst (λ (q : Parts). Stands p.nodes p.header q ((p.events ++ takes n) ++ taken ∷ [])) (sym c.put.ensures.net)
                  (c.in-Some.ensures.stands p.nodes p.header (p.events ++ takes n) h.stands);
              start = c.put.ensures.start;
            })
            c.put.ensures.formula c.in_ok-put.ensures.line,
      );
}

pub loop-verdict-smaller : goal.loop-verdict-smaller
loop-verdict-smaller c =
    let (p, can) = c.requires.can in
    let (n, h) = c.loop-verdict.invariant.taken p can in
    subst (λ (q : Parts). length (held_at q.edges (length q.operators - 1))
    < length (held_at c.loop-verdict.self.net.edges (length c.loop-verdict.self.net.operators - 1))) (sym c.put.ensures.net)
    (measure_falls p.nodes p.header (p.events ++ takes n) c.loop-verdict.self.net c.take.new.self c.in-Some.verdict h.stands
    (c.in-Some.ensures.next p.nodes p.header (p.events ++ takes n) h.stands)
    (c.in-Some.ensures.stands p.nodes p.header (p.events ++ takes n) h.stands))

pub returns-clause-taken : goal.returns-clause-taken
returns-clause-taken c = λ p can.
    let (n, h) = c.loop-verdict.invariant.taken p can in
    let same = c.take.ensures.unchanged c.in_default.is in (
      n,
      subst (λ t. HasTaken p n (record { net = c.take.new.self; formula = c.loop-verdict.self.formula; start = c.loop-verdict.self.start }) c.args.text.now t)
          (sym c.in_ok-hand_over.ensures.text)
          (subst (λ (q : Parts). HasTaken p n (record { net = q; formula = c.loop-verdict.self.formula; start = c.loop-verdict.self.start })
          c.args.text.now (c.loop-verdict.text ++ c.loop-verdict.lines)) (sym same) h),
      all_taken p can.given n c.loop-verdict.self c.args.text.now (c.loop-verdict.text ++ c.loop-verdict.lines) h
          (subst (λ o. IsNext p.nodes p.header (p.events ++ takes n) o) c.in_default.is
          (c.take.ensures.next p.nodes p.header (p.events ++ takes n) h.stands)),
    )

pub returns-clause-formula : goal.returns-clause-formula
returns-clause-formula c = c.loop-verdict.invariant.formula

pub returns-in_err-put-clause-formula : goal.returns-in_err-put-clause-formula
returns-in_err-put-clause-formula c = c.put.ensures.formula ∙ c.loop-verdict.invariant.formula
