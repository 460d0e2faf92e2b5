use Rattle.std.proofs.Common.{◌≡◌, ◌≢◌, ◌∙◌, sym, get_or, arith}
use Rattle.std.proofs.lemmas.Bool.{false≢true}
use Rattle.std.proofs.lemmas.Slice.Eq.{bytes_eq-Decides}
use Rattle.stl_syntax.specs.Trace.{Column}
use Rattle.atom_lines.proofs.BindingLemmas.{lacks, found, one_more}
use Rattle.atom_lines.proofs.binding.column_of.Goals as goal

pub returns-then-eq : goal.returns-then-eq
returns-then-eq c = λ d.
    let same : c.name.result.now ≡ c.args.name.now = (bytes_eq-Decides c.name.result.now c.args.name.now).0 (sym c.eq.ensures ∙ c.if-eq.true) in
    found c.args.header.now.columns c.args.name.now c.loop-i.i d
    (omega (arith, c.loop-i-test.true, c.columns-i-end.ensures)) c.loop-i.invariant (sym (c.name.ensures d) ∙ same)

pub loop-i-preserved : goal.loop-i-preserved
loop-i-preserved c = λ j d l.
    let other : (e : Column) → (get_or c.args.header.now.columns c.loop-i.i e).name ≢ c.args.name.now =
    λ e h. false≢true (sym c.if-eq.false ∙ (c.eq.ensures ∙ (bytes_eq-Decides c.name.result.now c.args.name.now).1 (c.name.ensures e ∙ h))) in
    one_more (λ j. (e : Column) → (get_or c.args.header.now.columns j e).name ≢ c.args.name.now) c.loop-i.i (λ j k e. c.loop-i.invariant j e k) other j l d

pub returns : goal.returns
returns c = lacks c.args.header.now.columns c.args.name.now (λ j d l. c.loop-i.invariant j d (omega (arith, l, c.columns-i-end.ensures, c.loop-i-test.false)))
