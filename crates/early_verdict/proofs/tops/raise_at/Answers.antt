use Rattle.std.proofs.Common.{◌≡◌, ◌+◌, ◌<◌, ◌≤◌, arith}
use Rattle.early_verdict.specs.Standing.{looks_ahead, top_at}
use Rattle.early_verdict.specs.Tops.{rest_reach}
use Rattle.early_verdict.proofs.TopsLemmas.{reach_from, reach_all}
use Rattle.early_verdict.proofs.tops.raise_at.Goals as goal

pub overflow_add-own : goal.overflow_add-own
overflow_add-own c =
    let nodes = c.args.formula.now.nodes in
    let i = c.args.i in
    let here : top_at c.args.tops.now i ≤ rest_reach nodes (i + 1) = c.requires.most i in
    let look : c.look_ahead.result ≡ looks_ahead c.node-node.result.now = c.look_ahead.ensures in
    let step : looks_ahead c.node-node.result.now + rest_reach nodes (i + 1) ≤ rest_reach nodes i =
    reach_from nodes i c.node-node.result.now c.node-node.ensures.node in
    let all : rest_reach nodes i ≤ rest_reach nodes 0 = reach_all nodes i in
    let small : top_at c.args.tops.now i + c.look_ahead.result < 4294967296 = omega arith in
    record { fits = small }

pub returns-clause-most : goal.returns-clause-most
returns-clause-most c =
    let nodes = c.args.formula.now.nodes in
    let i = c.args.i in
    let here : top_at c.args.tops.now i ≤ rest_reach nodes (i + 1) = c.requires.most i in
    let look : c.look_ahead.result ≡ looks_ahead c.node-node.result.now = c.look_ahead.ensures in
    let step : looks_ahead c.node-node.result.now + rest_reach nodes (i + 1) ≤ rest_reach nodes i =
    reach_from nodes i c.node-node.result.now c.node-node.ensures.node in
    c.raise_children.ensures.most (rest_reach nodes i) (λ j. let k = c.requires.most j in omega arith) (omega arith)
