use Rattle.std.proofs.Common.{◌≡◌, ◌+◌, [], ◌∙◌, ap, subst, length, arith}
use Rattle.std.specs.Prelude.{MatchOption}
use Rattle.std.proofs.lemmas.List.{take_all}
use Rattle.session_mux.specs.Near.{IsNoFeed, IsNextFeed}
use Rattle.session_mux.proofs.NearLemmas.{room_first, room_none}
use Rattle.session_mux.proofs.near.short_feed.Goals as goal

pub returns-in_default : goal.returns-in_default
returns-in_default c =
    let text = c.args.text.now in
    let room = c.add_part-end.new.buf in
    let whole = take_all (length text) text (omega arith) in
    let none : IsNoFeed room 0 = subst (λ o. MatchOption o (IsNoFeed room 0) (IsNextFeed room 0)) c.in_default.is c.near_feed.ensures in
    let size : c.add_part-end.result ≡ 0 + length text = omega (arith, c.add_part-end.ensures.size, ap length whole) in
    room_none text room [] c.add_part-end.result (c.add_part-end.ensures.added ∙ whole) size (λ k less. none k (omega (arith, less, c.requires)))

pub returns-then-at-end : goal.returns-then-at-end
returns-then-at-end c =
    let text = c.args.text.now in
    let room = c.add_part-end.new.buf in
    let whole = take_all (length text) text (omega arith) in
    let size : c.add_part-end.result ≡ 0 + length text = omega (arith, c.add_part-end.ensures.size, ap length whole) in
    let next : IsNextFeed room 0 c.in-Some.at = c.in-Some.ensures in
    room_none text room [] c.add_part-end.result (c.add_part-end.ensures.added ∙ whole) size
    (λ k less. next.before k (omega (arith, less, size, c.if-at-end.true)))

pub returns : goal.returns
returns c =
    let text = c.args.text.now in
    let room = c.add_part-end.new.buf in
    let whole = take_all (length text) text (omega arith) in
    let size : c.add_part-end.result ≡ 0 + length text = omega (arith, c.add_part-end.ensures.size, ap length whole) in
    room_first text room [] c.add_part-end.result (c.add_part-end.ensures.added ∙ whole) size c.in-Some.at c.in-Some.ensures
    (omega (arith, size, c.if-at-end.false))
