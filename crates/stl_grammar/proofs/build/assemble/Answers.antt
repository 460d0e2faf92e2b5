-- The last of the drafts that are left is the next node.
use Rattle.std.proofs.Common.{◌≡◌, ◌++◌, ◌∷◌, [], List, ap, ◌∙◌, reverse}
use Rattle.std.proofs.lemmas.List.{reverse-reverse}
use Rattle.stl_grammar.specs.Drafts.{nodes_in, node_in}
use Rattle.stl_grammar.proofs.BuildLemmas.{ready, pushed}
use Rattle.stl_grammar.proofs.build.assemble.Goals as goal
use Rattle.stl_syntax.specs.declared.scale.Scale.{Scale}
use Rattle.stl_syntax.specs.declared.node.Node.{Node}
use Rattle.stl_grammar.specs.declared.draft.Draft.{Draft}

all_of : (s : Scale) (b : List Node) (left turned drafts : List Draft) → b ++ nodes_in s (reverse left) ≡ nodes_in s (reverse turned) → turned ≡ reverse drafts
    → b ++ nodes_in s (reverse left) ≡ nodes_in s drafts
all_of s b left turned drafts e f = e ∙ ap (nodes_in s) (ap reverse f ∙ reverse-reverse drafts)

pub node_of-requires-clause-node : goal.node_of-requires-clause-node
node_of-requires-clause-node c =
    (ready c.args.scale c.loop-draft.builder c.loop-draft.drafts.items c.pop.new.self.items c.in-Some.draft (nodes_in c.args.scale c.args.drafts.items)
    (all_of c.args.scale c.loop-draft.builder c.loop-draft.drafts.items c.reverse.new.self.items c.args.drafts.items
    c.loop-draft.invariant c.reverse.ensures.items) c.in-Some.ensures.items
    c.requires.nodes c.requires.constants c.requires.reach).0

pub add-requires-clause-few : goal.add-requires-clause-few
add-requires-clause-few c =
    (ready c.args.scale c.loop-draft.builder c.loop-draft.drafts.items c.pop.new.self.items c.in-Some.draft (nodes_in c.args.scale c.args.drafts.items)
    (all_of c.args.scale c.loop-draft.builder c.loop-draft.drafts.items c.reverse.new.self.items c.args.drafts.items
    c.loop-draft.invariant c.reverse.ensures.items) c.in-Some.ensures.items
    c.requires.nodes c.requires.constants c.requires.reach).1

pub add-requires-clause-children : goal.add-requires-clause-children
add-requires-clause-children c =
    rw c.node_of.ensures
    (ready c.args.scale c.loop-draft.builder c.loop-draft.drafts.items c.pop.new.self.items c.in-Some.draft (nodes_in c.args.scale c.args.drafts.items)
    (all_of c.args.scale c.loop-draft.builder c.loop-draft.drafts.items c.reverse.new.self.items c.args.drafts.items
    c.loop-draft.invariant c.reverse.ensures.items) c.in-Some.ensures.items
    c.requires.nodes c.requires.constants c.requires.reach).2

pub add-requires-clause-bounds : goal.add-requires-clause-bounds
add-requires-clause-bounds c =
    rw c.node_of.ensures
    (ready c.args.scale c.loop-draft.builder c.loop-draft.drafts.items c.pop.new.self.items c.in-Some.draft (nodes_in c.args.scale c.args.drafts.items)
    (all_of c.args.scale c.loop-draft.builder c.loop-draft.drafts.items c.reverse.new.self.items c.args.drafts.items
    c.loop-draft.invariant c.reverse.ensures.items) c.in-Some.ensures.items
    c.requires.nodes c.requires.constants c.requires.reach).0.bounds

pub add-requires-clause-reach : goal.add-requires-clause-reach
add-requires-clause-reach c =
    rw c.node_of.ensures
    (ready c.args.scale c.loop-draft.builder c.loop-draft.drafts.items c.pop.new.self.items c.in-Some.draft (nodes_in c.args.scale c.args.drafts.items)
    (all_of c.args.scale c.loop-draft.builder c.loop-draft.drafts.items c.reverse.new.self.items c.args.drafts.items
    c.loop-draft.invariant c.reverse.ensures.items) c.in-Some.ensures.items
    c.requires.nodes c.requires.constants c.requires.reach).3

pub loop-draft-preserved : goal.loop-draft-preserved
loop-draft-preserved c =
    let all : c.loop-draft.builder ++ nodes_in c.args.scale (reverse c.loop-draft.drafts.items) ≡ nodes_in c.args.scale (reverse c.reverse.new.self.items) =
    c.loop-draft.invariant in
    let added : c.add.new.self ≡ c.loop-draft.builder ++ node_in c.args.scale c.in-Some.draft ∷ [] =
    c.in-Ok.ensures.added ∙ ap (λ n. c.loop-draft.builder ++ n ∷ []) c.node_of.ensures in
    pushed c.args.scale c.loop-draft.builder c.add.new.self c.loop-draft.drafts.items c.pop.new.self.items c.in-Some.draft
    (nodes_in c.args.scale (reverse c.reverse.new.self.items)) all
    c.in-Some.ensures.items added
