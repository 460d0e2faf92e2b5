use Rattle.std.proofs.Common.{◌≡◌, ℕ, suc, ◌≤◌, List, sym, subst}
use Rattle.workload_summary.specs.Counting.{line_count}
use Rattle.workload_summary.proofs.WholeBytes.{answered, check_lines}
use Rattle.workload_summary.proofs.counts.checked.Goals as goal

pub finish-requires : goal.finish-requires
finish-requires c = let e = c.in_ok-sets.ensures in (e.case, e.for_case, e.ended.whole.trace.text.rising)

pub text_left-requires : goal.text_left-requires
text_left-requires c = c.in_ok-told.ensures.begun

pub verdict_lines-requires : goal.verdict_lines-requires
verdict_lines-requires c =
    let (tr, whole) = c.requires in
    subst (λ (t : List ℕ). 1 ≤ line_count t) (sym c.bytes.ensures)
    (check_lines (answered c.in_ok-told.told c.in_ok-sets.ensures c.in_ok-told.ensures.told c.in_ok-text.ensures tr whole))

pub returns : goal.returns
returns c = λ tr whole. record {
  text = c.in_ok-text.text;
  answer = answered c.in_ok-told.told c.in_ok-sets.ensures c.in_ok-told.ensures.told c.in_ok-text.ensures tr whole;
  count = subst (λ (t : List ℕ). line_count t ≡ suc c.verdict_lines.result) c.bytes.ensures c.verdict_lines.ensures;
}
