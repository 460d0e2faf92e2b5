use Rattle.std.proofs.Common.{[], ◌∷◌, ◌++◌, length, refl, sym, ap, ◌∙◌, subst, append-nil, append_assoc, Some, None, arith}
use Rattle.std.proofs.lemmas.Result.{IfOk-weaker}
use Rattle.verdict_stream.specs.Pendings.{AreUpTo, GoesBeyond, IsNextUpTo, one_whole}
use Rattle.verdict_stream.proofs.CutVerdicts.{cut_parts, lines_more}
use Rattle.verdict_stream.proofs.pending.Pending.put_up_to.Goals as goal

pub loop-verdict-init : goal.loop-verdict-init
loop-verdict-init c = ([], ([], refl, sym (append-nil (c.args.text.now ++ c.args.lines.now))), λ some left h. h)

pub loop-verdict-preserved : goal.loop-verdict-preserved
loop-verdict-preserved c =
    let (put, (grown, lines, is), on) = c.loop-verdict.invariant in
    let (e, whole) = c.in-Some.ensures in
    let (line, is_line, longer) = c.in_ok-put.ensures.ok in
    let v = c.in-Some.verdict in (
      put ++ v ∷ [],
      (
        grown ++ line,
        lines_more c.args.scale put v grown line lines is_line,
        longer ∙ ap (λ t. t ++ line) is ∙ append_assoc (c.args.text.now ++ c.args.lines.now) grown line,
      ),
      λ some left h.
          subst (λ l. AreUpTo c.args.front c.args.self.now l left) (sym (append_assoc put (v ∷ []) some))
          (on (v ∷ some) left (subst (λ l. AreUpTo c.args.front l (v ∷ some) left) (sym e) (one_whole v whole h))),
    )

pub loop-verdict-smaller : goal.loop-verdict-smaller
loop-verdict-smaller c = let e = ap length c.in-Some.ensures.0 in omega (arith, e)

pub cut-requires : goal.cut-requires
cut-requires c =
    let (same, beyond) = subst (λ o. IsNextUpTo c.args.front c.loop-verdict.self o c.next.new.self) c.in_default.is c.next.ensures in
    subst (λ l. GoesBeyond c.args.front l) (sym same) beyond

pub returns-in-Some-cut : goal.returns-in-Some-cut
returns-in-Some-cut c =
    let part = c.in-Some-cut.part in
    let (put, (grown, lines, is), on) = c.loop-verdict.invariant in
    let (same, beyond) = subst (λ o. IsNextUpTo c.args.front c.loop-verdict.self o c.next.new.self) c.in_default.is c.next.ensures in
    let up = cut_parts c.args.front c.next.new.self c.cut.new.self (Some part) (subst (λ l. GoesBeyond c.args.front l) (sym same) beyond)
    c.in-Some-cut.ensures in
    IfOk-weaker c.put-in-Some-cut.result _ _ (λ u h.
    let (line, is_line, longer) = h in (
      grown ++ line,
      (
        put ++ part ∷ [],
        on (part ∷ []) c.cut.new.self (subst (λ l. AreUpTo c.args.front l (part ∷ []) c.cut.new.self) same up),
        lines_more c.args.scale put part grown line lines is_line,
      ),
      longer ∙ ap (λ t. t ++ line) is ∙ append_assoc (c.args.text.now ++ c.args.lines.now) grown line,
    ))
    c.put-in-Some-cut.ensures.ok

pub returns-in-None : goal.returns-in-None
returns-in-None c =
    let (put, (grown, lines, is), on) = c.loop-verdict.invariant in
    let (same, beyond) = subst (λ o. IsNextUpTo c.args.front c.loop-verdict.self o c.next.new.self) c.in_default.is c.next.ensures in
    let up = cut_parts c.args.front c.next.new.self c.cut.new.self None (subst (λ l. GoesBeyond c.args.front l) (sym same) beyond) c.in-None.ensures in (
      grown,
      (
        put,
        subst (λ l. AreUpTo c.args.front c.args.self.now l c.cut.new.self) (append-nil put)
            (on [] c.cut.new.self (subst (λ l. AreUpTo c.args.front l [] c.cut.new.self) same up)),
        lines,
      ),
      is,
    )
