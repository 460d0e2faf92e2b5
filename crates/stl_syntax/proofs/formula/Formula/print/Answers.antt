use Rattle.std.proofs.Common.{◌≡◌, ◌-◌, ◌++◌, length, sym, ◌∙◌, ap}
use Rattle.stl_syntax.specs.Formula.{subformula, root}
use Rattle.stl_syntax.specs.Printing.{printed}
use Rattle.stl_syntax.proofs.PrintedText.{printed_formula}
use Rattle.stl_syntax.proofs.formula.Formula.print.Goals as goal

pub returns : goal.returns
returns c =
    let all : c.deref.result.now ≡ c.args.self.now.nodes = c.deref.ensures.value ∙ c.nodes-nodes.ensures.nodes in
    let count : c.len.result ≡ length c.deref.result.now = c.len.ensures ∙ sym c.deref.ensures.len in
    printed_formula c.args.self.now c.put_node.new.text
    (c.in_ok-put_node.ensures
    ∙ ap (λ t. t ++ printed c.scale.result (subformula c.deref.result.now (c.len.result - 1))) c.new-text.ensures
    ∙ ap (λ s. printed s (subformula c.deref.result.now (c.len.result - 1))) c.scale.ensures.scale
    ∙ ap (λ n. printed c.args.self.now.scale (subformula c.deref.result.now (n - 1))) count
    ∙ ap (λ nodes. printed c.args.self.now.scale (root nodes)) all)
