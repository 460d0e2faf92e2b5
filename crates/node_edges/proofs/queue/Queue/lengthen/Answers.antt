use Rattle.std.proofs.Common.{◌≡◌, ◌+◌, ◌<◌, ◌≤◌, ◌-◌, ◌∙◌, ap, length, subst, sym, arith}
use Rattle.std.proofs.lemmas.List.{length-drop, length-set}
use Rattle.node_edges.proofs.QueueLemmas.{lengthened, one_item}
use Rattle.node_edges.proofs.queue.Queue.lengthen.Goals as goal

pub lengthen-requires : goal.lengthen-requires
lengthen-requires g c =
    let xs = c.args.self.now.items.items in
    let n = c.len-count.result - 1 in
    let within : n < length xs = omega (arith, c.requires.read, c.len-count.ensures, c.if-self-count.false) in
    let same = one_item xs n c.index.result.now c.index_mut.result.now within c.index.ensures c.index_mut.ensures.value in
    subst (λ x. g.T.Part.follows x c.args.piece.now) same (c.goes_on.ensures.0 c.if-not-goes_on.false)

pub returns-clause-no_longer : goal.returns-clause-no_longer
returns-clause-no_longer g c = λ _.
    let q = c.args.self.now in
    let xs = q.items.items in
    let n = c.len-count.result - 1 in
    length-drop q.read _ ∙ ap (λ m. m - q.read) (length-set xs n _) ∙ sym (length-drop q.read xs)

pub returns-clause-more : goal.returns-clause-more
returns-clause-more g c = λ _.
    let q = c.args.self.now in
    let xs = q.items.items in
    let n = c.len-count.result - 1 in
    let v = c.index_mut.result.now in
    let below : q.read ≤ n = omega (arith, c.requires.read, c.len-count.ensures, c.if-self-count.false) in
    let long : n + 1 ≡ length xs = omega (arith, c.requires.read, c.len-count.ensures, c.if-self-count.false) in
    lengthened xs q.read n v c.args.piece.now _ q.number q.joins c.if-not-self.false below long c.index_mut.ensures.value c.lengthen.ensures
