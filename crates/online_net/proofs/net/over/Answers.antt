use Rattle.std.proofs.Common.{false, None, [], refl, subst}
use Rattle.stl_syntax.specs.Trace.{Header}
use Rattle.atom_lines.specs.Binding.{IsBound}
use Rattle.online_net.specs.Nets.{AreAtoms, Parts, Stands}
use Rattle.online_net.proofs.Fresh.{new_stands}
use Rattle.online_net.proofs.net.over.Goals as goal
use Rattle.online_net.proofs.net.over.Goals.{In_ok-atoms}

-- the new network
abbrev made : In_ok-atoms → Parts
made c = record {
  edges = c.args.edges;
  operators = c.in_ok-operators.operators.items;
  bound = c.args.bound;
  last = None;
  closed = false;
  stopped = false;
}

-- it stands for the empty run
fresh : (c : In_ok-atoms) (header : Header) → IsBound c.args.bound c.args.formula.now header → Stands c.args.formula.now.nodes header (made c) []
fresh c header bound = new_stands c.args.formula.now.nodes header c.requires.formed.nodes c.requires.formed.root c.args.formula.now.scale (made c)
    bound c.requires.edges c.in_ok-operators.ensures refl refl refl

pub invariant_of-result : goal.invariant_of-result
invariant_of-result c = (
  (λ running. (c.args.formula.now.nodes, c.requires.bound.0, [], fresh c c.requires.bound.0 c.requires.bound.1)),
  subst (λ l. AreAtoms c.in_ok-atoms.atoms.items l) c.deref.ensures.value c.in_ok-atoms.ensures,
)

pub returns-clause-stands : goal.returns-clause-stands
returns-clause-stands c header bound = fresh c header bound
