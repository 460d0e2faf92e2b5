use Rattle.std.proofs.Common.{[], ◌∷◌, ◌++◌, length, sym, ap, subst, append_assoc, arith}
use Rattle.std.specs.Option.{option_to_list}
use Rattle.verdict_stream.specs.Pendings.{AreUpTo, GoesBeyond, IsNextUpTo, one_whole}
use Rattle.verdict_stream.proofs.CutVerdicts.{cut_parts}
use Rattle.verdict_stream.proofs.pending.Pending.let_go_up_to.Goals as goal

pub loop-verdict-init : goal.loop-verdict-init
loop-verdict-init c = ([], λ some left h. h)

pub loop-verdict-preserved : goal.loop-verdict-preserved
loop-verdict-preserved c =
    let (gone, on) = c.loop-verdict.invariant in
    let (e, whole) = c.in-Some.ensures in
    let v = c.in-Some._verdict in (
      gone ++ v ∷ [],
      λ some left h.
          subst (λ l. AreUpTo c.args.front c.args.self.now l left) (sym (append_assoc gone (v ∷ []) some))
          (on (v ∷ some) left (subst (λ l. AreUpTo c.args.front l (v ∷ some) left) (sym e) (one_whole v whole h))),
    )

pub loop-verdict-smaller : goal.loop-verdict-smaller
loop-verdict-smaller c = let e = ap length c.in-Some.ensures.0 in omega (arith, e)

pub cut-part-requires : goal.cut-part-requires
cut-part-requires c =
    let (same, beyond) = subst (λ o. IsNextUpTo c.args.front c.loop-verdict.self o c.next.new.self) c.in_default.is c.next.ensures in
    subst (λ l. GoesBeyond c.args.front l) (sym same) beyond

pub returns : goal.returns
returns c =
    let (gone, on) = c.loop-verdict.invariant in
    let (same, beyond) = subst (λ o. IsNextUpTo c.args.front c.loop-verdict.self o c.next.new.self) c.in_default.is c.next.ensures in
    let up = cut_parts c.args.front c.next.new.self c.cut-part.new.self c.cut-part.result
    (subst (λ l. GoesBeyond c.args.front l) (sym same) beyond) c.cut-part.ensures in
    let some = option_to_list c.cut-part.result in
    (gone ++ some, on some c.cut-part.new.self (subst (λ l. AreUpTo c.args.front l some c.cut-part.new.self) same up))
