use Rattle.std.proofs.Common.{◌≡◌, Some, ap, length, refl, subst, ◌∙◌}
use Rattle.std.specs.Prelude.{slice_get}
use Rattle.std.proofs.lemmas.Result.{IfOk-weaker}
use Rattle.implicants.specs.Signs.{sign_at}
use Rattle.implicants.specs.Upward.{AreGone}
use Rattle.implicants.proofs.LostWithout.{gone_lost}
use Rattle.implicants.proofs.AddedRuns.{no_run}
use Rattle.implicants.proofs.gone.runs_of_atom.Goals as goal

pub returns-in-Atom : goal.returns-in-Atom
returns-in-Atom c =
    let nodes = c.args.formula.now.nodes in
    let all = c.args.cells.now.all.items in
    let marks = c.args.marks.now in
    let signs = c.args.signs.now in
    let i = c.args.i in
    let n : c.len-count.result ≡ length all = let k = c.args.cells.now.all.ok in c.len-count.ensures ∙ k.0 in
    IfOk-weaker c.gone_among.result _ _
    (λ r gone. gone_lost nodes c.args.trace.now all c.args.cells.now.ends.items c.requires.cells marks (length all) signs i c.in-Atom.field-0
    (sign_at signs i) r.items (c.node.ensures.node ∙ ap (λ m. Some m) c.in-Atom.is) refl
    (subst (λ k. AreGone all marks i (sign_at signs i) k r.items) n gone)) c.gone_among.ensures

pub returns-in_default : goal.returns-in_default
returns-in_default c some within j r at = absurd (no_run j r (subst (λ l. slice_get l j ≡ Some r) c.new.ensures.items at))
