use Rattle.std.proofs.Common.{ℕ, List, ◌≡◌, ◌+◌, ◌<◌, refl, sym, ap, subst, ◌∙◌, length, suc, drop, add-one, arith}
use Rattle.std.specs.Prelude.{Some, slice_get}
use Rattle.std.proofs.lemmas.Option.{slice_get_within}
use Rattle.rational.specs.Places.{Place}
use Rattle.frac128.specs.Cuts.{place}
use Rattle.growing_sets.specs.Spans.{BeginsAfter}
use Rattle.growing_sets.specs.declared.stretch.Stretch.{Stretch}
use Rattle.growing_sets.proofs.StretchesJoin.{Absorbing, absorb_first, absorb_next, absorb_last, touches_first, touches_second}
use Rattle.growing_sets.proofs.SpanLemmas.{without, reaches_at, set_is, get_next, drop_next, without_next, within_without}
use Rattle.growing_sets.proofs.BlockLemmas.{length_remove}
use Rattle.growing_sets.proofs.GrowingLemmas.{put_in_by}
use Rattle.growing_sets.proofs.touching.join.Goals as goal

-- what begins after the place behind the joined one begins after it where that one was taken out
last_begins : (c : Place) (xs : List Stretch) (at : ℕ) → BeginsAfter c (drop (at + 1) xs) → BeginsAfter c (drop at (without xs at))
last_begins c xs at h = subst (λ ys. BeginsAfter c ys) (sym (drop_next xs at)) (subst (λ k. BeginsAfter c (drop k xs)) (add-one at) h)

pub hull-joined-requires-clause-second : goal.hull-joined-requires-clause-second
hull-joined-requires-clause-second c =
    reaches_at (place c.args.part.now.from) c.args.spans.now.items c.args.at c.args.first.now c.requires.rest c.requires.first

pub loop-next-init : goal.loop-next-init
loop-next-init c = record {
  joins = absorb_next c.args.at c.args.part.now c.args.part.now c.args.part.now.from c.args.spans.now.items c.args.spans.now.items c.args.fresh.now.items
      c.args.fresh.now.items
      (absorb_first c.args.at c.args.part.now c.args.spans.now.items c.args.fresh.now.items c.requires.tidy c.requires.within c.requires.front c.requires.rest)
      c.note.new.fresh.items c.args.first.now.from c.in_ok-note.ensures c.args.first.now c.hull-joined.result
      c.requires.first refl (λ t h. (c.hull-joined.ensures.holds t).0 h) (λ t h. (c.hull-joined.ensures.holds t).1 h)
      c.hull-joined.ensures.begins c.hull-joined.ensures.ends c.hull-joined.ensures.from c.hull-joined.ensures.to;
  within = slice_get_within c.args.spans.now.items c.args.at c.args.first.now c.requires.first;
}

pub hull-joined-requires-in-Some-clause-first : goal.hull-joined-requires-in-Some-clause-first
hull-joined-requires-in-Some-clause-first c =
    touches_first c.args.at c.args.part.now c.loop-next.joined c.loop-next.seen c.args.spans.now.items (without c.loop-next.spans.items c.args.at)
    c.args.fresh.now.items c.loop-next.fresh.items c.loop-next.invariant.joins c.in-Some.next c.in-Some.ensures.some.1

pub hull-joined-requires-in-Some-clause-second : goal.hull-joined-requires-in-Some-clause-second
hull-joined-requires-in-Some-clause-second c =
    touches_second c.args.at c.args.part.now c.loop-next.joined c.loop-next.seen c.args.spans.now.items (without c.loop-next.spans.items c.args.at)
    c.args.fresh.now.items c.loop-next.fresh.items c.loop-next.invariant.joins c.in-Some.next
    (get_next c.loop-next.spans.items c.args.at c.in-Some.next
    (subst (λ k. slice_get c.loop-next.spans.items k ≡ Some c.in-Some.next) (add-one c.args.at) c.in-Some.ensures.some.0))

pub loop-next-smaller : goal.loop-next-smaller
loop-next-smaller c =
    let below : c.args.at + 1 < length c.loop-next.spans.items =
    slice_get_within c.loop-next.spans.items (c.args.at + 1) c.in-Some.next c.in-Some.ensures.some.0 in
    let n = length_remove c.loop-next.spans.items (c.args.at + 1) below in
    subst (λ ys. length ys < length c.loop-next.spans.items) (sym c.in_ok-remove.ensures) (omega arith)

pub remove-requires : goal.remove-requires
remove-requires c = slice_get_within c.loop-next.spans.items (c.args.at + 1) c.in-Some.next c.in-Some.ensures.some.0

pub loop-next-preserved : goal.loop-next-preserved
loop-next-preserved c =
    let at = c.args.at in
    let xs = c.loop-next.spans.items in
    let next = c.in-Some.next in
    let there : slice_get xs (suc at) ≡ Some next = subst (λ k. slice_get xs k ≡ Some next) (add-one at) c.in-Some.ensures.some.0 in
    let below : at + 1 < length xs = slice_get_within xs (at + 1) next c.in-Some.ensures.some.0 in
    let items = c.in_ok-remove.ensures in
    let left : c.remove.new.self.items ≡ without xs (suc at) = items ∙ ap (λ k. without xs k) (add-one at) in
    record {
      joins = subst (λ ys. Absorbing at c.args.part.now c.hull-joined-in-Some.result next.to c.args.spans.now.items ys c.args.fresh.now.items
          c.note-in-Some.new.fresh.items)
          (sym (ap (λ ys. without ys at) left ∙ without_next xs at))
          (absorb_next at c.args.part.now c.loop-next.joined c.loop-next.seen c.args.spans.now.items (without xs at) c.args.fresh.now.items
          c.loop-next.fresh.items c.loop-next.invariant.joins c.note-in-Some.new.fresh.items next.from c.in_ok-note-2.ensures next c.hull-joined-in-Some.result
          (get_next xs at next there) refl (λ t h. (c.hull-joined-in-Some.ensures.holds t).0 h) (λ t h. (c.hull-joined-in-Some.ensures.holds t).1 h)
          c.hull-joined-in-Some.ensures.begins c.hull-joined-in-Some.ensures.ends c.hull-joined-in-Some.ensures.from c.hull-joined-in-Some.ensures.to);
      within = subst (λ ys. at < length ys) (sym left) (let k = within_without xs (suc at) next there in omega arith);
    }

pub returns : goal.returns
returns c =
    let w = c.loop-next.invariant.within in
    put_in_by c.loop-next.invariant.joins.tidy
    (absorb_last c.args.at c.args.part.now c.loop-next.joined c.loop-next.seen c.args.spans.now.items (without c.loop-next.spans.items c.args.at)
    c.args.fresh.now.items c.loop-next.fresh.items c.loop-next.invariant.joins c.note-2.new.fresh.items c.args.part.now.to c.in_ok-note-3.ensures
    (last_begins (place c.args.part.now.to) c.loop-next.spans.items c.args.at c.in_default.ensures.none) refl)
    (c.set.ensures ∙ set_is c.loop-next.spans.items c.args.at c.loop-next.joined (omega arith))
