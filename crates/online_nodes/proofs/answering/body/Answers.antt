-- The body of a node by its kind.
use Rattle.std.proofs.Common.{subst, sym}
use Rattle.online_nodes.specs.Answering.{CanAnswer, HasBody}
use Rattle.online_nodes.specs.declared.kind.Kind.{Kind}
use Rattle.online_nodes.proofs.answering.body.Goals as goal

pub until_all-requires : goal.until_all-requires
until_all-requires c = record {
  own = c.requires.own;
  sound = c.requires.sound;
  inside = c.requires.inside;
  able = subst (λ (k : Kind). CanAnswer k c.args.edges.now c.args.out.edge c.args.marks) c.in-Until.is c.requires.able;
}

pub since_all-requires : goal.since_all-requires
since_all-requires c = record {
  own = c.requires.own;
  sound = c.requires.sound;
  inside = c.requires.inside;
  able = subst (λ (k : Kind). CanAnswer k c.args.edges.now c.args.out.edge c.args.marks) c.in-Since.is c.requires.able;
}

pub sweep_all-requires : goal.sweep_all-requires
sweep_all-requires c = record {
  own = c.requires.own;
  sound = c.requires.sound;
  inside = c.requires.inside;
  input = subst (λ (k : Kind). CanAnswer k c.args.edges.now c.args.out.edge c.args.marks) c.in-Over.is c.requires.able;
}

pub returns-in_ok-told-in-Until-clause-told : goal.returns-in_ok-told-in-Until-clause-told
returns-in_ok-told-in-Until-clause-told c =
    subst (λ (k : Kind). HasBody k c.args.edges.now c.until_all.new.edges c.args.out c.args.marks c.in_ok-told-in-Until.told) (sym c.in-Until.is)
    c.in_ok-told-in-Until.ensures.told

pub returns-in_ok-told-in-Since-clause-told : goal.returns-in_ok-told-in-Since-clause-told
returns-in_ok-told-in-Since-clause-told c =
    subst (λ (k : Kind). HasBody k c.args.edges.now c.since_all.new.edges c.args.out c.args.marks c.in_ok-told-in-Since.told) (sym c.in-Since.is)
    c.in_ok-told-in-Since.ensures.told

pub returns-in_ok-told-in-Over-clause-told : goal.returns-in_ok-told-in-Over-clause-told
returns-in_ok-told-in-Over-clause-told c =
    subst (λ (k : Kind). HasBody k c.args.edges.now c.sweep_all.new.edges c.args.out c.args.marks c.in_ok-told-in-Over.told) (sym c.in-Over.is)
    c.in_ok-told-in-Over.ensures.swept
