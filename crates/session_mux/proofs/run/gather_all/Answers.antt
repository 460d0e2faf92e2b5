use Rattle.std.proofs.Common.{◌++◌, ◌-◌, ◌≡◌, ℕ, List, length, length-append, take, drop, append_assoc, append-nil, refl, sym, ap, subst, ◌∙◌, arith}
use Rattle.std.proofs.lemmas.List.{take_all, drop_all}
use Rattle.stl_syntax.specs.Texts.{newline}
use Rattle.session_mux.specs.Running.{IsOwnLine, HasGathered}
use Rattle.session_mux.specs.Sessions.{IsTag}
use Rattle.session_mux.proofs.RunInputs.{gathered_on, own_within}
use Rattle.session_mux.proofs.TagLemmas.{short_of}
use Rattle.session_mux.proofs.run.gather_all.Goals as goal

pub at_front-own-requires : goal.at_front-own-requires
at_front-own-requires c = record { few = short_of c.args.tag.now c.requires.tag; front = c.requires.front }

pub own_line-requires : goal.own_line-requires
own_line-requires c = subst (λ t. IsTag t) (sym c.at_front-own.ensures) c.requires.tag

pub gather_near-near-requires-clause-tag : goal.gather_near-near-requires-clause-tag
gather_near-near-requires-clause-tag c = subst (λ t. IsTag t) (sym c.at_front-own.ensures) c.requires.tag

pub gather_near-near-requires-clause-room : goal.gather_near-near-requires-clause-room
gather_near-near-requires-clause-room c = let same = ap length c.deref_mut.ensures.value in omega (arith, same, c.in_ok-make_room.ensures)

-- a room that was written to as a slice has the bytes of the slice
written : (xs items : List ℕ) (len : ℕ) → length xs ≡ length items → len ≡ length items → take len (xs ++ drop (length xs) items) ≡ xs
written xs items len e k =
    ap (λ w. take len (xs ++ w)) (drop_all (length xs) items (omega (arith, e))) ∙ ap (take len) (append-nil xs) ∙ take_all len xs (omega (arith, e, k))

pub loop-lines-init : goal.loop-lines-init
loop-lines-init c =
    let room = c.make_room.new.room in
    let near = c.gather_near-near.result in
    let new = c.gather_near-near.new.room in
    let k = c.gather_near-near.ensures in
    let same : length new ≡ length room.items = k.room ∙ ap length c.deref_mut.ensures.value in
    let is = written new room.items room.len same room.ok.0 in (
      subst (λ t. HasGathered t c.args.piece.now c.args.most near.bytes near.lines (take near.used (take room.len (new ++ drop (length new) room.items))))
          c.at_front-own.ensures
          (subst (λ w. HasGathered c.at_front-own.result c.args.piece.now c.args.most near.bytes near.lines (take near.used w)) (sym is) k.gathered),
      k.within,
      omega (arith, same, c.in_ok-make_room.ensures, ap length is),
    )

pub put_line-used-requires-clause-room : goal.put_line-used-requires-clause-room
put_line-used-requires-clause-room c =
    let (g, low, room) = c.loop-lines.invariant in
    let within = g.within in
    let same = ap length c.deref_mut-in-loop-lines.ensures.value in
    omega (arith, low, room, within, same)

pub put_line-used-requires-clause-whole : goal.put_line-used-requires-clause-whole
put_line-used-requires-clause-whole c =
    let (g, low, room) = c.loop-lines.invariant in
    let (front, small, own) = c.in-Some.ensures in
    let same = ap length c.deref_mut-in-loop-lines.ensures.value in
    omega (arith, low, room, small, same, own_within c.at_front-own.result c.args.piece.now _ _ _ g.within own)

pub loop-lines-preserved : goal.loop-lines-preserved
loop-lines-preserved c =
    let (g, low, wide) = c.loop-lines.invariant in
    let (front, small, own) = c.in-Some.ensures in
    let content = c.in-Some.line.content.now in
    let piece = c.args.piece.now in
    let n = c.loop-lines.bytes in
    let mine = subst (λ t. IsOwnLine t (take (length piece - n) (drop n piece)) content c.in-Some.line.bytes) c.at_front-own.ensures own in
    let used = c.loop-lines.used in
    let room = c.loop-lines.room in
    let a = c.put_line-used.ensures in
    let new = c.put_line-used.new.room in
    let same : length new ≡ length room.items = a.same ∙ ap length c.deref_mut-in-loop-lines.ensures.value in
    let is = written new room.items room.len same room.ok.0 in
    let added : take c.put_line-used.result new ≡ (take used room.items ++ content) ++ newline =
    a.added ∙ ap (λ (w : List ℕ). take used w ++ (content ++ newline)) c.deref_mut-in-loop-lines.ensures.value
    ∙ sym (append_assoc (take used room.items) content newline) in (
      gathered_on g c.loop-lines-test.true mine refl (ap (take c.put_line-used.result) is ∙ added),
      omega (arith, a.size, length-append content newline, low, small),
      omega (arith, same, wide, ap length is),
    )
