use Rattle.std.proofs.Common.{[], ◌∷◌, ap, nat_eq}
use Rattle.std.proofs.lemmas.Result.{on_ok_weaker}
use Rattle.trace_stream.specs.Cases.{with_row}
use Rattle.verdict_sets.proofs.CaseSets.{can_take, fits_row}
use Rattle.verdict_sets.proofs.sets.VerdictSetsKeep.row.Goals as goal

pub push-requires-clause-later : goal.push-requires-clause-later
push-requires-clause-later c = (fits_row c.args.self.now c.requires.0 c.requires.1 c.args.row.now c.requires.2).1

pub take_in-requires : goal.take_in-requires
take_in-requires c =
    let row = c.args.row.now in (
      with_row row c.requires.0,
      can_take c.args.self.now c.requires.0 c.requires.1 (row ∷ []) c.push.new.self (nat_eq c.rows-first.result 0) c.in_ok-push.ensures.ok
          (ap (λ n. nat_eq n 0) c.rows-first.ensures.count),
    )

pub returns : goal.returns
returns c =
    let row = c.args.row.now in
    on_ok_weaker c.take_in.result (λ h case k takes. h (with_row row case)
    (can_take c.args.self.now case k (row ∷ []) c.push.new.self (nat_eq c.rows-first.result 0) c.in_ok-push.ensures.ok
    (ap (λ n. nat_eq n 0) c.rows-first.ensures.count))) c.take_in.ensures
