use Rattle.std.proofs.Common.{true, false, ◌++◌, subst, refl}
use Rattle.std.proofs.lemmas.Result.{on_ok_weaker, on_err_weaker}
use Rattle.rational.proofs.Lists.{on_err_anyway}
use Rattle.report.specs.Spelling.{listed}
use Rattle.report.specs.VerdictForms.{IsEntry, TurnedTo, TurnCut, CutPast}
use Rattle.report.proofs.Advances.{going, room_after_gap}
use Rattle.answer_lines.proofs.Growths.{front_then}
use Rattle.report.proofs.Entries.{entry_exists}
use Rattle.answer_lines.proofs.Sequences.{each_exist, each_grow, each_cut_first, each_cut_second}
use Rattle.report.proofs.signal.put_line_past.Goals as goal
use Rattle.report.proofs.signal.put_line_past.Goals.{In_ok-put_line_turn}

-- past the gap the span goes on with its truth
by_gap : (c : In_ok-put_line_turn) → TurnedTo false c.args.scale c.args.span.now c.args.before.now.time true
    c.args.before.now.after.holds c.put_line_turn.new.span (c.args.text.now ++ c.args.lines.now) (c.put_line_turn.new.text ++ c.put_line_turn.new.lines)
by_gap c =
    subst (λ b. TurnedTo false c.args.scale c.args.span.now c.args.before.now.time true b c.put_line_turn.new.span
    (c.args.text.now ++ c.args.lines.now) (c.put_line_turn.new.text ++ c.put_line_turn.new.lines)) c.holds.ensures c.in_ok-put_line_turn.ensures.ok

pub put_line_turn-requires-2-clause-begun : goal.put_line_turn-requires-2-clause-begun
put_line_turn-requires-2-clause-begun c =
    let g = by_gap (goal.at.put_line_turn-requires-2-clause-begun c).In_ok-put_line_turn in
    room_after_gap c.args.span.now c.put_line_turn.new.span c.args.before.now.time c.args.next.now.time c.args.before.now.after.holds g.ended c.requires.begun
    c.requires.rising g.goes

pub returns-in_err-put_line_turn-clause-err : goal.returns-in_err-put_line_turn-clause-err
returns-in_err-put_line_turn-clause-err c =
    let E = IsEntry false false c.args.scale in
    let o = c.args.span.now in
    let k = c.args.before.now in
    let n = c.args.next.now in
    let old = c.args.text.now ++ c.args.lines.now in
    let new = c.put_line_turn.new.text ++ c.put_line_turn.new.lines in
    let g : TurnCut false c.args.scale o k.time true k.after.holds old new =
    subst (λ b. TurnCut false c.args.scale o k.time true b old new) c.holds.ensures c.in_err-put_line_turn.ensures.err in
    let p = going g.new n.time false n.point.holds
    (room_after_gap o g.new k.time n.time k.after.holds g.ended c.requires.begun c.requires.rising g.goes) in
    let cut : CutPast false c.args.scale o k n old new = record {
      past = record { by_gap = g.ended; by_point = p.ended; new = p.new; advanced = record { inside = g.new; gap = g.goes; point = p.goes } };
      part = each_cut_first E (listed g.ended) (listed p.ended) old new g.part
          (each_exist E (entry_exists false false c.args.scale) (listed p.ended));
    } in
    on_err_anyway _ cut

pub returns-clause-ok : goal.returns-clause-ok
returns-clause-ok c =
    let f = (goal.at.returns-clause-ok c).In_ok-put_line_turn in
    let E = IsEntry false false c.args.scale in
    let inside = c.put_line_turn.new.span in
    let n = c.args.next.now in
    let old = c.args.text.now ++ c.args.lines.now in
    let mid = c.put_line_turn.new.text ++ c.put_line_turn.new.lines in
    let new = c.put_line_turn-2.new.text ++ c.put_line_turn-2.new.lines in
    let g = by_gap f in
    on_ok_weaker c.put_line_turn-2.result (λ h.
    let t : TurnedTo false c.args.scale inside n.time false n.point.holds c.put_line_turn-2.new.span mid new =
    subst (λ b. TurnedTo false c.args.scale inside n.time false b c.put_line_turn-2.new.span mid new) c.holds-2.ensures h in record {
      past = record {
        by_gap = g.ended;
        by_point = t.ended;
        new = c.put_line_turn-2.new.span;
        advanced = record { inside = inside; gap = g.goes; point = t.goes };
      };
      is = refl;
      grew = each_grow E (listed g.ended) (listed t.ended) old mid new g.grew t.grew;
    }) c.put_line_turn-2.ensures.ok

pub returns-clause-err : goal.returns-clause-err
returns-clause-err c =
    let f = (goal.at.returns-clause-err c).In_ok-put_line_turn in
    let E = IsEntry false false c.args.scale in
    let inside = c.put_line_turn.new.span in
    let n = c.args.next.now in
    let old = c.args.text.now ++ c.args.lines.now in
    let mid = c.put_line_turn.new.text ++ c.put_line_turn.new.lines in
    let new = c.put_line_turn-2.new.text ++ c.put_line_turn-2.new.lines in
    let g = by_gap f in
    on_err_weaker c.put_line_turn-2.result (λ h.
    let t : TurnCut false c.args.scale inside n.time false n.point.holds mid new =
    subst (λ b. TurnCut false c.args.scale inside n.time false b mid new) c.holds-2.ensures h in record {
      past = record { by_gap = g.ended; by_point = t.ended; new = t.new; advanced = record { inside = inside; gap = g.goes; point = t.goes } };
      part = each_cut_second E (listed g.ended) (listed t.ended) old mid new g.grew t.part;
    }) c.put_line_turn-2.ensures.err

pub returns-clause-begins : goal.returns-clause-begins
returns-clause-begins c =
    let (a, e) = c.put_line_turn.ensures.begins in
    let (b, f) = c.put_line_turn-2.ensures.begins in
    (a ++ b, front_then c.args.text.now c.put_line_turn.new.text c.put_line_turn-2.new.text a b e f)
