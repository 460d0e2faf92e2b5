use Rattle.std.proofs.Common.{◌≡◌, ◌-◌, ◌∙◌, inl, inr, subst, Some, length, sym, refl, arith}
use Rattle.std.specs.Prelude.{slice_get}
use Rattle.std.proofs.lemmas.Bool.{cases_lt}
use Rattle.std.proofs.lemmas.Option.{slice_get_within}
use Rattle.rational.proofs.Lists.{slice_get_there}
use Rattle.stl_syntax.specs.declared.node.Node.TheVariants.{Atom as Leaf}
use Rattle.atom_lines.specs.Rows.{row_of}
use Rattle.truth_sets.specs.Rows.{HasGrown}
use Rattle.truth_sets.proofs.growing.TruthSets.grow.Goals as goal

pub loop-i-init : goal.loop-i-init
loop-i-init c = record {
  first = refl;
  count = refl;
  later = λ k h. refl;
  each = λ k a old s header rows h. absurd (omega (arith, h));
}

pub grow_at-requires-clause-count : goal.grow_at-requires-clause-count
grow_at-requires-clause-count c = c.loop-i.invariant.count ∙ c.requires.stands.3.grown.count

pub grow_at-requires-clause-grown : goal.grow_at-requires-clause-grown
grow_at-requires-clause-grown c =
    let stands = c.requires.stands in (
      stands.0,
      stands.1,
      stands.2,
      λ a s at found. stands.3.grown.each c.loop-i.i a s at (sym (c.loop-i.invariant.later c.loop-i.i (omega arith)) ∙ found),
    )

pub loop-i-preserved : goal.loop-i-preserved
loop-i-preserved c =
    let i = c.loop-i.invariant in
    let e = c.in_ok-grow_at.ensures in
    let n = c.loop-i.i in
    record {
      first = i.first;
      count = e.count ∙ sym c.requires.stands.3.grown.count;
      later = λ k h. e.others k (λ z. omega (arith, z, h)) ∙ i.later k (omega (arith, h));
      each = λ k a old s header rows h at was found tail g. elim (cases_lt k n) [
        | inl l ↦ i.each k a old s header rows l at was (sym (e.others k (λ z. omega (arith, z, l))) ∙ found) tail g
        | inr l ↦
            let z : k ≡ n = omega (arith, h, l) in
            subst (λ j. HasGrown c.args.bound.now j header rows (row_of c.args.trace.now (length c.args.trace.now.rows - 1)) s) (sym z)
            (e.own header rows a old s tail (subst (λ j. slice_get c.args.formula.now.nodes j ≡ Some (Leaf a)) z at)
            (i.later n (omega arith) ∙ subst (λ j. slice_get c.args.self.now.sets.items j ≡ Some old) z was)
            (subst (λ j. slice_get c.grow_at.new.sets.items j ≡ Some s) z found)
            (subst (λ j. HasGrown c.args.bound.now j header rows (row_of c.args.trace.now 0) old) z g))
      ];
    }

pub returns : goal.returns
returns c = λ header rows tail stands.
    let i = c.loop-i.invariant in
    let done : c.loop-i.i ≡ length c.args.formula.now.nodes =
    let t = c.loop-i-test.false in let e = c.len-i-end.ensures.count in let m = c.loop-i.auto.i-end in omega arith in
    record {
      first = i.first ∙ stands.first;
      grown = record {
        count = i.count ∙ stands.grown.count;
        each = λ k a s at found.
            let l = slice_get_within c.args.formula.now.nodes k (Leaf a) at in
            let old = slice_get_there c.args.self.now.sets.items k (let n = stands.grown.count in omega (arith, l, n)) in
            i.each k a old.0 s header rows (omega (arith, l, done)) at old.1 found tail (stands.grown.each k a old.0 at old.1);
      };
    }
