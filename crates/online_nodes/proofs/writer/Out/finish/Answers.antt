use Rattle.std.proofs.Common.{Some, None, [], ◌∷◌, ◌++◌, sym, ap, subst, arith}
use Rattle.std.proofs.lemmas.List.{append-nil}
use Rattle.stl_syntax.specs.Verdicts.{Describes}
use Rattle.rational.specs.Places.{begins, ends}
use Rattle.frac128.specs.Cuts.{place}
use Rattle.online_nodes.specs.Written.{Lead, waiting}
use Rattle.online_nodes.proofs.GotLemmas.{got_none}
use Rattle.online_nodes.proofs.ToldSoFar.{lead_describes, lead_to, put_last, put_none, sound_later}
use Rattle.online_nodes.proofs.writer.Out.finish.Goals as goal

pub returns-in_default-clause-finished : goal.returns-in_default-clause-finished
returns-in_default-clause-finished c =
    record {
      more = [];
      few = omega arith;
      owed = omega arith;
      got = got_none c.args.edges.now c.args.self.edge;
      told = λ n tr begin written told. (
        told.last,
        subst (λ l. Lead n tr begin None l (place c.args.self.at) told.last) (sym (append-nil written))
            (put_none n tr begin written c.args.self c.in_default.is told),
      );
      describes = λ n tr stretch written some told same.
          subst (λ l. Describes l n tr stretch) (sym (append-nil written))
          (lead_describes n tr stretch written told.last some
          (lead_to n tr (begins stretch) None written (place c.args.self.at) (ends stretch) told.last same
          (put_none n tr (begins stretch) written c.args.self c.in_default.is told)));
    }

pub write-requires-clause-some : goal.write-requires-clause-some
write-requires-clause-some c = sound_later c.args.self c.in-Some.holds c.in-Some.is c.requires.sound

pub returns-clause-finished : goal.returns-clause-finished
returns-clause-finished c =
    let p = c.in_ok-write.ensures.put in
    record {
      more = p.verdict ∷ [];
      few = omega arith;
      owed = omega (arith, ap waiting c.in-Some.is);
      got = p.got;
      told = λ n tr begin written told.
          (Some p.verdict.holds, put_last n tr begin written c.in-Some.holds p.verdict c.args.self c.in-Some.is p.begin p.end p.is told);
      describes = λ n tr stretch written some told same.
          lead_describes n tr stretch (written ++ p.verdict ∷ []) (Some p.verdict.holds) some
          (lead_to n tr (begins stretch) None (written ++ p.verdict ∷ []) (place c.args.self.at) (ends stretch) (Some p.verdict.holds) same
          (put_last n tr (begins stretch) written c.in-Some.holds p.verdict c.args.self c.in-Some.is p.begin p.end p.is told));
    }
