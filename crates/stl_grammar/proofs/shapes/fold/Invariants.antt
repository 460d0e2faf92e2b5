use Rattle.std.proofs.Common.{◌≡◌, length}
use Rattle.stl_grammar.specs.Parsing.{folded_frames, folded_drafts}
use Rattle.stl_grammar.proofs.shapes.fold.Given as goal

abbrev pub invariant-loop-frame : goal.invariant-loop-frame
invariant-loop-frame l =
    (folded_frames l.least l.frames ≡ folded_frames l.least l.initial.frames)
    × (folded_drafts l.least l.frames l.drafts.items ≡ folded_drafts l.least l.initial.frames l.initial.drafts.items)

abbrev pub decreases-loop-frame : goal.decreases-loop-frame
decreases-loop-frame l = length l.frames
