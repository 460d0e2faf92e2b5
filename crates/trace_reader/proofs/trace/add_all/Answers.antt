-- A value more.
use Rattle.std.proofs.Common.{rules, ◌≡◌, ◌++◌, ◌∷◌, [], take, get_or, pos, refl, sym, ap, ◌∙◌, arith, append-nil, append_assoc, to_z, of_z, w32}
use Rattle.std.proofs.lemmas.Int.{to_z-of_z}
use Rattle.std.proofs.lemmas.List.{take_all, take_more}
use Rattle.trace_reader.proofs.trace.add_all.Goals as goal

pub push_reserved-requires : goal.push_reserved-requires
push_reserved-requires c =
    let i = c.loop-value.invariant in
    omega (arith, i.room, i.len, c.requires, c.loop-value-test.true)

pub loop-value-init : goal.loop-value-init
loop-value-init c = record { items = sym (append-nil c.args.values.now.items); room = refl; len = omega arith }

pub loop-value-preserved : goal.loop-value-preserved
loop-value-preserved c =
    let old = c.args.values.now.items in
    let more = c.args.more.now in
    let i = c.loop-value.value-index in
    let v = get_or more i (pos 0) in
    let before = c.loop-value.invariant in
    let same : to_z w32 (of_z w32 v) ≡ v = search (rules, to_z-of_z) in
    record {
      items = c.push_reserved.ensures.items ∙ ap (λ x. c.loop-value.values.items ++ x ∷ []) same ∙ ap (λ t. t ++ v ∷ []) before.items
          ∙ append_assoc old (take i more) (v ∷ []) ∙ ap (λ t. old ++ t) (sym (take_more more i (pos 0) c.loop-value-test.true));
      room = c.push_reserved.ensures.capacity ∙ before.room;
      len = omega (arith, c.push_reserved.ensures.len, before.len);
    }

pub returns : goal.returns
returns c =
    c.loop-value.invariant.items ∙ ap (λ t. c.args.values.now.items ++ t) (take_all c.loop-value.value-index c.args.more.now c.loop-value-test.false)
