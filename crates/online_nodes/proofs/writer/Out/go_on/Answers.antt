use Rattle.std.proofs.Common.{◌≡◌, Some, [], ◌∷◌, refl, sym, ap, subst, ◌∙◌, arith}
use Rattle.std.proofs.lemmas.List.{append-nil}
use Rattle.online_nodes.specs.declared.writer.Out.{Out}
use Rattle.frac128.specs.Cuts.{place}
use Rattle.online_nodes.specs.Written.{HasTold, waiting}
use Rattle.online_nodes.proofs.GotLemmas.{got_none}
use Rattle.rational.proofs.PlaceLemmas.{same_before, before_trans}
use Rattle.rational.proofs.Tests.{same_of_beq}
use Rattle.online_nodes.proofs.ToldSoFar.{first_told, same_told, turned, other_bool, sound_first, sound_later}
use Rattle.online_nodes.proofs.writer.Out.go_on.Goals as goal

pub returns-in_default-clause-written : goal.returns-in_default-clause-written
returns-in_default-clause-written c =
    let next : Out = record {
      edge = c.args.self.edge;
      from = c.args.self.from;
      at = c.args.cut;
      to = c.args.self.to;
      holds = Some
          c.args.holds;
    } in
    record {
      at = refl;
      answer = record {
        more = [];
        few = omega arith;
        owed = omega arith;
        got = got_none c.args.edges.now c.args.self.edge;
        edge = refl;
        end = refl;
        sound = same_before (place c.args.self.from) (place c.args.self.at) (place c.args.cut)
            (sound_first c.args.self c.in_default.is c.requires.sound) c.requires.later;
        told = λ n tr begin written told all.
            subst (λ l. HasTold n tr begin l next) (sym (append-nil written))
            (first_told n tr begin written c.args.holds c.args.self next c.in_default.is refl refl told c.requires.later all);
      };
    }

pub returns-then-before-holds-clause-written : goal.returns-then-before-holds-clause-written
returns-then-before-holds-clause-written c =
    let is : c.args.self.holds ≡ Some c.args.holds = c.in-Some.is ∙ ap Some (same_of_beq _ _ c.if-before-holds.true) in
    let next : Out = record {
      edge = c.args.self.edge;
      from = c.args.self.from;
      at = c.args.cut;
      to = c.args.self.to;
      holds = Some
          c.args.holds;
    } in
    record {
      at = refl;
      answer = record {
        more = [];
        few = omega arith;
        owed = omega arith;
        got = got_none c.args.edges.now c.args.self.edge;
        edge = refl;
        end = refl;
        sound = before_trans (place c.args.self.from) (place c.args.self.at) (place c.args.cut)
            (sound_later c.args.self c.args.holds is c.requires.sound) c.requires.later;
        told = λ n tr begin written told all.
            subst (λ l. HasTold n tr begin l next) (sym (append-nil written))
            (same_told n tr begin written c.args.holds c.args.self next is refl refl told c.requires.later all);
      };
    }

pub returns-clause-written : goal.returns-clause-written
returns-clause-written c =
    let p = c.in_ok-write_turn.ensures.put in
    record {
      at = refl;
      answer = record {
        more = p.verdict ∷ [];
        few = omega arith;
        owed = omega (arith, ap waiting c.in-Some.is);
        got = p.got;
        edge = refl;
        end = refl;
        sound = c.requires.later;
        told = λ n tr begin written told all.
            turned n tr begin written p c.in-Some.is (other_bool _ _ c.if-before-holds.false) refl refl told c.requires.later all;
      };
    }
