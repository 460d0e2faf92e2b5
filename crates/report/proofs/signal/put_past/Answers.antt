use Rattle.std.proofs.Common.{true, false, ◌++◌, subst, refl}
use Rattle.std.proofs.lemmas.Result.{on_ok_weaker, on_err_weaker}
use Rattle.rational.proofs.Lists.{on_err_anyway}
use Rattle.report.specs.Spelling.{listed}
use Rattle.report.specs.VerdictForms.{IsEntry, TurnedTo, TurnCut, CutPast}
use Rattle.report.proofs.Advances.{going, room_after_gap}
use Rattle.answer_lines.proofs.Growths.{front_then}
use Rattle.report.proofs.Entries.{entry_exists}
use Rattle.answer_lines.proofs.Sequences.{each_exist, each_grow, each_cut_first, each_cut_second}
use Rattle.report.proofs.signal.put_past.Goals as goal
use Rattle.report.proofs.signal.put_past.Goals.{In_ok-put_turn}

-- past the gap the span goes on with its truth
by_gap : (c : In_ok-put_turn) → TurnedTo true c.args.scale c.args.span.now c.args.before.now.time true
    c.args.before.now.after.holds c.put_turn.new.span (c.args.text.now ++ c.args.entries.now) (c.put_turn.new.text ++ c.put_turn.new.entries)
by_gap c =
    subst (λ b. TurnedTo true c.args.scale c.args.span.now c.args.before.now.time true b c.put_turn.new.span
    (c.args.text.now ++ c.args.entries.now) (c.put_turn.new.text ++ c.put_turn.new.entries)) c.holds.ensures c.in_ok-put_turn.ensures.ok

pub put_turn-requires-2-clause-begun : goal.put_turn-requires-2-clause-begun
put_turn-requires-2-clause-begun c =
    let g = by_gap (goal.at.put_turn-requires-2-clause-begun c).In_ok-put_turn in
    room_after_gap c.args.span.now c.put_turn.new.span c.args.before.now.time c.args.next.now.time c.args.before.now.after.holds g.ended c.requires.begun
    c.requires.rising g.goes

pub returns-in_err-put_turn-clause-err : goal.returns-in_err-put_turn-clause-err
returns-in_err-put_turn-clause-err c =
    let E = IsEntry true false c.args.scale in
    let o = c.args.span.now in
    let k = c.args.before.now in
    let n = c.args.next.now in
    let old = c.args.text.now ++ c.args.entries.now in
    let new = c.put_turn.new.text ++ c.put_turn.new.entries in
    let g : TurnCut true c.args.scale o k.time true k.after.holds old new =
    subst (λ b. TurnCut true c.args.scale o k.time true b old new) c.holds.ensures c.in_err-put_turn.ensures.err in
    let p = going g.new n.time false n.point.holds
    (room_after_gap o g.new k.time n.time k.after.holds g.ended c.requires.begun c.requires.rising g.goes) in
    let cut : CutPast true c.args.scale o k n old new = record {
      past = record { by_gap = g.ended; by_point = p.ended; new = p.new; advanced = record { inside = g.new; gap = g.goes; point = p.goes } };
      part = each_cut_first E (listed g.ended) (listed p.ended) old new g.part
          (each_exist E (entry_exists true false c.args.scale) (listed p.ended));
    } in
    on_err_anyway _ cut

pub returns-clause-ok : goal.returns-clause-ok
returns-clause-ok c =
    let f = (goal.at.returns-clause-ok c).In_ok-put_turn in
    let E = IsEntry true false c.args.scale in
    let inside = c.put_turn.new.span in
    let n = c.args.next.now in
    let old = c.args.text.now ++ c.args.entries.now in
    let mid = c.put_turn.new.text ++ c.put_turn.new.entries in
    let new = c.put_turn-2.new.text ++ c.put_turn-2.new.entries in
    let g = by_gap f in
    on_ok_weaker c.put_turn-2.result (λ h.
    let t : TurnedTo true c.args.scale inside n.time false n.point.holds c.put_turn-2.new.span mid new =
    subst (λ b. TurnedTo true c.args.scale inside n.time false b c.put_turn-2.new.span mid new) c.holds-2.ensures h in record {
      past = record {
        by_gap = g.ended;
        by_point = t.ended;
        new = c.put_turn-2.new.span;
        advanced = record { inside = inside; gap = g.goes; point = t.goes };
      };
      is = refl;
      grew = each_grow E (listed g.ended) (listed t.ended) old mid new g.grew t.grew;
    }) c.put_turn-2.ensures.ok

pub returns-clause-err : goal.returns-clause-err
returns-clause-err c =
    let f = (goal.at.returns-clause-err c).In_ok-put_turn in
    let E = IsEntry true false c.args.scale in
    let inside = c.put_turn.new.span in
    let n = c.args.next.now in
    let old = c.args.text.now ++ c.args.entries.now in
    let mid = c.put_turn.new.text ++ c.put_turn.new.entries in
    let new = c.put_turn-2.new.text ++ c.put_turn-2.new.entries in
    let g = by_gap f in
    on_err_weaker c.put_turn-2.result (λ h.
    let t : TurnCut true c.args.scale inside n.time false n.point.holds mid new =
    subst (λ b. TurnCut true c.args.scale inside n.time false b mid new) c.holds-2.ensures h in record {
      past = record { by_gap = g.ended; by_point = t.ended; new = t.new; advanced = record { inside = inside; gap = g.goes; point = t.goes } };
      part = each_cut_second E (listed g.ended) (listed t.ended) old mid new g.grew t.part;
    }) c.put_turn-2.ensures.err

pub returns-clause-begins : goal.returns-clause-begins
returns-clause-begins c =
    let (a, e) = c.put_turn.ensures.begins in
    let (b, f) = c.put_turn-2.ensures.begins in
    (a ++ b, front_then c.args.text.now c.put_turn.new.text c.put_turn-2.new.text a b e f)
