-- A row more of those that the piece begins with.
use Rattle.std.proofs.Common.{◌≡◌, ◌≤◌, ◌++◌, ◌∷◌, [], ◌+◌, length, take, drop}
use Rattle.std.proofs.Common.{refl, subst, sym, ap, ◌∙◌, arith, take-add, length-drop, append_assoc, append-nil}
use Rattle.std.proofs.lemmas.List.{take_rest, length_push}
use Rattle.stl_syntax.specs.Trace.{Trace, last_time}
use Rattle.trace_reader.specs.Plain.{IsPlainRow}
use Rattle.trace_reader.specs.Blocks.{ArePlainRows, none, more}
use Rattle.trace_reader.proofs.TraceLemmas.{last_behind}
use Rattle.trace_reader.proofs.room.Heading.take_while.Goals as goal

pub loop-block-init : goal.loop-block-init
loop-block-init c = record {
  within = omega arith;
  few = omega arith;
  width = c.requires.width;
  later = c.requires.later;
  added = record {
    rows = [];
    count = refl;
    added = ap (λ rs. record c.args.trace.now { rows = rs }) (sym (append-nil c.args.trace.now.rows));
    read = none;
  };
}

pub push-requires : goal.push-requires
push-requires c =
    let old = c.loop-block.invariant in
    let p : IsPlainRow c.args.self.now (drop c.loop-block.block.bytes c.args.piece.now) c.in-Some.size c.later_row.new.row
    × (c.loop-block.block.next ≤ c.later_row.new.row.time) = rw take_rest at c.in-Some.ensures in
    record {
      width = p.0.read.values ∙ sym old.width;
      later = λ some. let l = old.later some in omega (arith, l, p.1);
    }

pub loop-block-preserved : goal.loop-block-preserved
loop-block-preserved c =
    let h = c.args.self.now in
    let piece = c.args.piece.now in
    let at = c.loop-block.block.bytes in
    let n = c.in-Some.size in
    let r = c.later_row.new.row in
    let rest = drop at piece in
    let old = c.loop-block.invariant in
    let p : IsPlainRow h rest n r × (c.loop-block.block.next ≤ r.time) = rw take_rest at c.in-Some.ensures in
    let t = c.loop-block.trace in
    let first = c.args.trace.now in
    let pushed : c.push.new.self ≡ record t { rows = t.rows ++ r ∷ [] } = c.in-Ok.ensures.ok in
    let last : last_time 0 c.push.new.self.rows ≡ r.time =
    ap (λ (x : Trace). last_time 0 x.rows) pushed ∙ last_behind t.rows (r ∷ []) 0 0 (omega arith) in
    let time : r.time + 1 ≡ c.from.result + 1 = omega (arith, c.from.ensures, c.time.ensures) in
    record {
      within = omega (arith, length-drop at piece, p.0.whole.within, old.within);
      few = omega arith;
      width = ap (λ (x : Trace). length x.header.columns) pushed ∙ old.width;
      later = λ some. omega (arith, last, time);
      added = record {
        rows = old.added.rows ++ r ∷ [];
        count = omega (arith, old.added.count, length_push old.added.rows r);
        added = pushed ∙ (ap (λ (x : Trace). record x { rows = x.rows ++ r ∷ [] }) old.added.added
            ∙ ap (λ rs. record first { rows = rs }) (append_assoc first.rows old.added.rows (r ∷ [])));
        read = subst (λ k. ArePlainRows h c.args.from (take (at + n) piece) (old.added.rows ++ r ∷ []) k) time
            (subst (λ b. ArePlainRows h c.args.from b (old.added.rows ++ r ∷ []) (r.time + 1)) (sym (take-add at n piece))
            (more rest n r old.added.read p.0 p.1));
      };
    }
