use Rattle.std.proofs.lemmas.Bool.{cases_lt}
use Rattle.std.specs.Prelude.{slice_get}
use Rattle.stl_syntax.specs.declared.node.Node.TheVariants.{Atom as Leaf}
use Rattle.atom_lines.specs.Rows.{row_of}
use Rattle.truth_sets.specs.Rows.{HasGrown}
use Rattle.std.proofs.lemmas.Option.{slice_get_within}
use Rattle.std.proofs.Common.{◌≡◌, ◌∙◌, inl, inr, subst, Some, length, [], sym, arith}
use Rattle.stl_syntax.specs.Trace.{Row}
use Rattle.stl_syntax.proofs.RowsLemmas.{first_time_at}
use Rattle.truth_sets.proofs.growing.TruthSets.begin.Goals as goal

abbrev none : Row
none = record { time = 0; values = [] }

pub loop-i-init : goal.loop-i-init
loop-i-init c = record {
  first = c.time-self.ensures none ∙ sym (first_time_at c.args.trace.now.rows none c.requires.some);
  count = c.requires.none;
  each = λ k a s h. absurd (omega (arith, h));
}

pub loop-i-preserved : goal.loop-i-preserved
loop-i-preserved c =
    let i = c.loop-i.invariant in
    let e = c.begin_at.ensures in
    record {
      first = i.first;
      count = e.count;
      each = λ k a s h at found. elim (cases_lt k c.loop-i.i) [
        | inl l ↦ i.each k a s l at (sym (e.others k (λ z. omega (arith, z, l))) ∙ found)
        | inr l ↦
            let z : k ≡ c.loop-i.i = omega (arith, h, l) in
            subst (λ j. HasGrown c.args.bound.now j c.args.trace.now.header c.args.trace.now.rows (row_of c.args.trace.now 0) s) (sym z)
            (e.own a s (subst (λ j. slice_get c.args.formula.now.nodes j ≡ Some (Leaf a)) z at)
            (subst (λ j. slice_get c.begin_at.new.sets.items j ≡ Some s) z found))
      ];
    }

pub returns : goal.returns
returns c =
    let i = c.loop-i.invariant in
    let done : c.loop-i.i ≡ length c.args.formula.now.nodes =
    let t = c.loop-i-test.false in let e = c.len-i-end.ensures.count in let m = c.loop-i.auto.i-end in omega arith in
    record {
      first = i.first;
      grown = record {
        count = i.count;
        each = λ k a s at found. i.each k a s (let l = slice_get_within c.args.formula.now.nodes k _ at in omega (arith, l, done)) at found;
      };
    }
