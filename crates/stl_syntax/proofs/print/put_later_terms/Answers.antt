use Rattle.std.proofs.Common.{rules, ◌≡◌, append_assoc}
use Rattle.stl_syntax.specs.Printing.{sign_text}
use Rattle.stl_syntax.proofs.PrintLemmas.{later_more}
use Rattle.stl_syntax.proofs.print.put_later_terms.Goals as goal

pub loop-i-preserved : goal.loop-i-preserved
loop-i-preserved c =
    let t = c.term-term.result.now in
    let more = later_more c.args.atom.now.terms c.loop-i.i t c.term-term.ensures in
    let signed : c.sign.result.now ≡ sign_text t.coef = search rules in
    rw (c.in_ok-put_term.ensures, c.in_ok-push.ensures.ok, signed) (simp append_assoc (simp append_assoc at (rw more at c.loop-i.invariant)))
