use Rattle.std.proofs.Common.{rules, refl, sym, ◌∙◌, ap, subst, [], arith, to_z, of_z, inl, to_z-of_z}
use Rattle.std.specs.Int.{w64}
use Rattle.std.proofs.lemmas.List.{append-nil}
use Rattle.std.proofs.lemmas.Option.{slice_get_within}
use Rattle.frac128.specs.Value.{value}
use Rattle.frac128.specs.Spans.{interval}
use Rattle.frac128.specs.Cuts.{place}
use Rattle.rational.specs.Places.{Place, ends}
use Rattle.online_nodes.specs.Working.{HasPassed}
use Rattle.online_nodes.specs.Held.{fresh_at}
use Rattle.online_nodes.specs.Sweeps.{IsSwept}
use Rattle.online_nodes.proofs.OneVerdictMore.{first_is, counts_on, end_alike, fits_alike}
use Rattle.online_nodes.proofs.WorkLemmas.{worked_pass}
use Rattle.online_nodes.proofs.SaidLemmas.{passed-fresh, passed-one}
use Rattle.online_nodes.proofs.window.read_along.Goals as goal

pub pass-requires-clause-some : goal.pass-requires-clause-some
pass-requires-clause-some c = slice_get_within (fresh_at c.args.edges.now c.args.window.of) 0 c.args.v c.requires.first

pub shift_end-reach-requires : goal.shift_end-reach-requires
shift_end-reach-requires c =
    fits_alike (value c.end.result.time) (value c.args.v.on.to) (to_z w64 (of_z w64 c.args.window.end_by)) c.args.window.end_by
    (ap (λ (q : Place). q.at) c.end.ensures) (search (rules, to_z-of_z)) c.requires.fits.1

pub returns : goal.returns
returns c =
    let w = c.args.window in
    let s = c.args.sweep in
    let v = c.args.v in
    let f = first_is (fresh_at c.args.edges.now w.of) v c.requires.first in
    let passed : HasPassed c.args.edges.now c.pass.new.self w.of c.pass.result =
    record {
      within = c.requires.input;
      first = c.pass.ensures.first;
      edges = c.pass.ensures.read;
      start = c.pass.ensures.start;
      spare = c.pass.ensures.spare;
    } in
    record {
      more = [];
      few = omega arith;
      owed = omega arith;
      worked = worked_pass passed (λ same. c.requires.apart (sym same)) (inl refl);
      one = passed-one passed;
      fresh = passed-fresh passed;
      edge = refl;
      end = refl;
      sound = c.requires.sound;
      inside = c.requires.inside;
      swept = λ n p tr begin written read stop of m. (
        ends (interval v.on),
        subst (λ l. IsSwept n p tr w begin l (record { out = s.out; reach = c.shift_end-reach.result }) (ends (interval v.on)) stop
            (fresh_at c.pass.new.self w.of))
            (sym (append-nil written))
            (subst (λ l. IsSwept n p tr w begin written (record { out = s.out; reach = c.shift_end-reach.result }) (ends (interval v.on)) stop l)
            (sym (passed-fresh passed ∙ f.2))
            (counts_on n p tr w begin written read stop c.shift_end-reach.result
            (subst (λ l. IsSwept n p tr w begin written s read stop l) f.1 m) of c.requires.sought
            (end_alike (place c.shift_end-reach.result) _ w.end_by w.end_in _ (ends (interval v.on)) (search (rules, to_z-of_z)) c.end.ensures
            c.shift_end-reach.ensures) c.requires.along)),
      );
    }
