use Rattle.std.proofs.Common.{◌≡◌, ◌-◌, length, length-append, subst, ap, arith}
use Rattle.memchr.specs.Find.{is_byte, NoneBefore, Passes}
use Rattle.session_mux.proofs.NearLemmas.{feed_beyond, feed_in_end}
use Rattle.session_mux.proofs.near.near_feed_behind.Goals as goal

pub overflow_sub-result : goal.overflow_sub-result
overflow_sub-result c =
    let (front, free, split) = c.requires.free in
    let beyond = feed_beyond c.args.text.now front c.args.end.now free split c.in-Some.at c.in-Some.ensures c.requires.long in
    omega (arith, beyond, ap length split, length-append front c.args.end.now)

pub overflow_sub-result-in-Some : goal.overflow_sub-result-in-Some
overflow_sub-result-in-Some c =
    let (front, free, split) = c.requires.free in
    let beyond = feed_beyond c.args.text.now front c.args.end.now free split c.in-Some.at c.in-Some.ensures c.requires.long in
    omega (arith, beyond, ap length split, length-append front c.args.end.now)

pub returns-in-Some : goal.returns-in-Some
returns-in-Some c =
    let (front, free, split) = c.requires.free in
    let text = c.args.text.now in
    let end = c.args.end.now in
    let near = c.in-Some.ensures.near in
    let size : length front ≡ length text - length end = omega (arith, ap length split, length-append front end) in (
      subst (λ m. NoneBefore (Passes (is_byte 10) end) 0 (length end) (c.in-Some.at - m) × Passes (is_byte 10) end (c.in-Some.at - m)) size
          (feed_in_end text front end free split c.in-Some.at c.in-Some.ensures c.requires.long),
      omega (arith, near),
    )
