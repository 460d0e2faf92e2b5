-- One more row.
use Rattle.std.proofs.Common.{◌≡◌, ◌++◌, ◌∷◌, [], ◌∙◌, ap, sym, true, length, nat_abs, ◌≤◌, refl}
use Rattle.std.specs.Prelude.{is_ok, All}
use Rattle.stl_syntax.specs.Trace.{Trace}
use Rattle.trace_reader.proofs.TraceLemmas.{trace_with, push-full, push-rows, push-small, sofar-push}
use Rattle.trace_reader.proofs.trace.Trace.push.Goals as goal

pub invariant_of-self-2 : goal.invariant_of-self-2
invariant_of-self-2 c =
    let a = c.self.inside in
    let r = c.args.row.now in
    let done : is_ok c.push.result ≡ true = ap is_ok c.in_ok-push.was in
    let in_values : c.add_all.new.values.items ≡ a.values.items ++ r.values =
    c.add_all.ensures ∙ rw (c.try_reserve.ensures.items, c.values-values.ensures.value) refl in
    let in_times : c.push.new.self.items ≡ a.times.items ++ r.time ∷ [] =
    (rw done at c.push.ensures.items) ∙ ap (λ t. a.times.items ++ t ∷ []) c.time.ensures in
    let fits : length r.values ≡ length a.header.columns = c.requires.width ∙ sym (ap (λ (t : Trace). length t.header.columns) c.self.view_is) in
    let later = rw (← c.self.view_is) at c.requires.later in
    let small : All (λ v. nat_abs v ≤ 16777216) r.values = rw c.values-values.ensures.value at c.values-values.ensures.small in
    let rows = push-rows (length a.header.columns) a.times.items _ a.values.items _ r c.self.invariant.full fits in_times in_values in
    record {
      full = push-full (length a.header.columns) a.times.items _ a.values.items _ r c.self.invariant.full fits in_times in_values;
      small = push-small (length a.header.columns) a.times.items _ a.values.items _ r c.self.invariant.full fits in_times
          in_values c.self.invariant.small small;
      rising = rw rows (sofar-push _ _ r c.self.invariant.rising later fits);
    }

pub returns-clause-ok : goal.returns-clause-ok
returns-clause-ok c =
    let a = c.self.inside in
    let r = c.args.row.now in
    let done : is_ok c.push.result ≡ true = ap is_ok c.in_ok-push.was in
    let in_values : c.add_all.new.values.items ≡ a.values.items ++ r.values =
    c.add_all.ensures ∙ rw (c.try_reserve.ensures.items, c.values-values.ensures.value) refl in
    let in_times : c.push.new.self.items ≡ a.times.items ++ r.time ∷ [] =
    (rw done at c.push.ensures.items) ∙ ap (λ t. a.times.items ++ t ∷ []) c.time.ensures in
    let fits : length r.values ≡ length a.header.columns = c.requires.width ∙ sym (ap (λ (t : Trace). length t.header.columns) c.self.view_is) in
    rw (← c.self.view_is)
    (ap (trace_with a.header) (push-rows (length a.header.columns) a.times.items _ a.values.items _ r c.self.invariant.full fits in_times in_values))
