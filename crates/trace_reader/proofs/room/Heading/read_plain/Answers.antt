-- The fields of a row of plain numbers, in order.
use Rattle.std.proofs.Common.{◌≡◌, ◌∷◌, ◌++◌, [], ◌+◌, ◌≤◌, length, get_or, take, drop, ap, ◌∙◌, sym, subst, arith, w32, pos, negsuc, length-drop}
use Rattle.std.specs.Prelude.{All, nat_abs}
use Rattle.std.proofs.lemmas.Int.{to_z-of_z}
use Rattle.std.proofs.lemmas.List.{length_push, drop_more, drop_all, length-take-le, take_rest}
use Rattle.std.proofs.lemmas.List.Elements.{All-push, All-nil}
use Rattle.stl_syntax.specs.Trace.{Row}
use Rattle.stl_syntax.specs.declared.scale.Scale.{Scale}
use Rattle.trace_reader.specs.FieldFaults.{IsFieldRead}
use Rattle.trace_reader.specs.Plain.{IsPlainValue, IsPlainRow}
use Rattle.trace_reader.proofs.DigitLemmas.{value_fits}
use Rattle.trace_reader.proofs.RowLemmas.{row_made}
use Rattle.trace_reader.proofs.PlainLemmas.{IsPlainFront, IsPlainWhole, front_first, front_next, front_longer, plain_row, some_to}
use Rattle.trace_reader.proofs.room.Heading.read_plain.Goals as goal

pub loop-most-init : goal.loop-most-init
loop-most-init c =
    let self = c.args.self.now in
    let piece = c.args.piece.now in
    let len = c.in_ok-first.first.len in
    let t = c.in_ok-first.first.time in
    let p = c.in_ok-first.ensures in
    let n : length (take len piece) ≡ len = length-take-le len piece (omega (arith, p.plain.goes_on)) in
    let read =
    subst (λ (s : Scale). IsFieldRead s.time self.heading.time_digits (pos 0) (pos 4294967295) 1 (take len piece) (pos t)) c.scale-scale.ensures.value
    (subst (λ n. IsFieldRead c.scale-scale.result.time n (pos 0) (pos 4294967295) 1 (take len piece) (pos t)) c.time_digits.ensures.value p.read) in
    let begun : c.begin.new.self ≡ row_made t [] = c.begin.ensures in
    record {
      front = subst (λ r. IsPlainFront self.scale self.heading (take len piece) 0 r) (sym begun)
          (front_first self.scale self.heading (take len piece) t (omega (arith, n, p.plain.some)) p.plain.bytes read);
      within = p.plain.goes_on;
      short = omega (arith, p.plain.short);
      width = ap (λ (r : Row). length r.values) begun;
      time = subst (λ (r : Row). r.time ≤ 4294967295) (sym begun) p.fits;
      small = subst (λ (r : Row). All (λ v. nat_abs v ≤ 16777216) r.values) (sym begun) (All-nil (λ v. nat_abs v ≤ 16777216));
    }

pub bounds-piece-at : goal.bounds-piece-at
bounds-piece-at c = c.loop-most.invariant.within

pub add-requires-clause-room : goal.add-requires-clause-room
add-requires-clause-room c = omega (arith, c.loop-most.invariant.width, c.loop-most-test.true, c.digits-most-items.ensures.few)

pub loop-most-preserved : goal.loop-most-preserved
loop-most-preserved c =
    let self = c.args.self.now in
    let piece = c.args.piece.now in
    let at = c.loop-most.at in
    let i = c.loop-most.most-index in
    let items = c.digits-most-items.result.now in
    let e = c.digits-most-items.ensures.value in
    let m = get_or items i 0 in
    let v = c.in_ok-next.next.value in
    let len = c.in_ok-next.next.len in
    let old = c.loop-most.invariant in
    let p : IsPlainValue m c.scale-scale.result.value (drop (at + 1) piece) c.in_ok-next.next = rw take_rest at c.in_ok-next.ensures in
    let ds : drop i self.heading.digits ≡ m ∷ drop (i + 1) self.heading.digits =
    ap (drop i) (sym e) ∙ (drop_more items i 0 c.loop-most-test.true ∙ ap (λ x. m ∷ drop (i + 1) x) e) in
    let read = subst (λ (s : Scale). IsFieldRead s.value m (negsuc 16777215) (pos 16777216) (i + 2) (take len (drop (at + 1) piece)) v)
    c.scale-scale.ensures.value (p.read (i + 2)) in
    let z = to_z-of_z w32 v (value_fits v p.fits) in
    let added : c.add.new.self ≡ row_made c.loop-most.row.time (c.loop-most.row.values ++ v ∷ []) =
    c.add.ensures ∙ ap (λ w. row_made c.loop-most.row.time (c.loop-most.row.values ++ w ∷ [])) z in
    let values : c.add.new.self.values ≡ c.loop-most.row.values ++ v ∷ [] = ap (λ (r : Row). r.values) added in
    let longer = front_longer at len piece old.within p.plain.goes_on c.if-piece-at-ne44.false in
    let l = length-drop (at + 1) piece in
    record {
      front = subst (λ f. IsPlainFront self.scale self.heading f (i + 1) c.add.new.self) (sym longer)
          (subst (λ r. IsPlainFront self.scale self.heading (take at piece ++ 44 ∷ take len (drop (at + 1) piece)) (i + 1) r) (sym added)
          (front_next self.scale self.heading (take at piece) i c.loop-most.row (take len (drop (at + 1) piece)) m v old.front ds p.plain.bytes read));
      within = omega (arith, l, p.plain.goes_on, old.within);
      short = omega (arith, old.short, p.plain.short);
      width = ap length values ∙ (length_push c.loop-most.row.values v ∙ omega (arith, old.width));
      time = subst (λ (r : Row). r.time ≤ 4294967295) (sym added) old.time;
      small = subst (λ t. All (λ x. nat_abs x ≤ 16777216) t) (sym values) (All-push (λ x. nat_abs x ≤ 16777216) c.loop-most.row.values v old.small p.fits);
    }

pub line_end-requires : goal.line_end-requires
line_end-requires c = c.loop-most.invariant.within

pub returns : goal.returns
returns c =
    let self = c.args.self.now in
    let piece = c.args.piece.now in
    let at = c.loop-most.at in
    let i = c.loop-most.most-index in
    let e = c.digits-most-items.ensures.value in
    let inv = c.loop-most.invariant in
    let items = c.digits-most-items.ensures in
    let end = c.loop-most.auto.most-index-end in
    let n : length (take at piece) ≡ at = length-take-le at piece (omega (arith, inv.within)) in
    let past : drop i self.heading.digits ≡ [] = drop_all i self.heading.digits (omega (arith, ap length e, c.loop-most-test.false)) in
    let w : i ≡ length self.heading.columns = omega (arith, items.width, c.loop-most-test.false, end) in
    let row : IsPlainWhole self (take at piece) i c.loop-most.row = record {
      front_is = inv.front;
      past = past;
      columns = w;
      width = inv.width;
      range = record { time = inv.time; values = inv.small };
      short = omega (arith, n, inv.short, items.few, end);
    } in
    some_to c.line_end.result _ (λ k. IsPlainRow self piece k c.loop-most.row)
    (λ k h. plain_row self piece (take at piece) i c.loop-most.row k row h.0 h.1) c.line_end.ensures
