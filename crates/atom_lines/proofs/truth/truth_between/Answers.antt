use Rattle.std.proofs.Common.{rules, ◌≡◌, ◌∙◌, ap, sym, pos, ◌+ℤ◌, to_z, of_z}
use Rattle.std.specs.Int.{w64}
use Rattle.std.proofs.lemmas.Int.{to_z-of_z}
use Rattle.std.proofs.lemmas.Bool.{true≢false}
use Rattle.rational.specs.Rational.{whole}
use Rattle.frac128.specs.Value.{value}
use Rattle.stl_syntax.specs.Truth.{compares}
use Rattle.atom_lines.specs.Gaps.{Passes}
use Rattle.atom_lines.proofs.Crossings.{turn_at, one_truth}
use Rattle.atom_lines.proofs.truth.truth_between.Goals as goal

pub returns-then-changes_sign : goal.returns-then-changes_sign
returns-then-changes_sign c =
    let g = c.args.gap.now in
    let from : to_z w64 (of_z w64 g.from) ≡ g.from = search (rules, to_z-of_z) in
    let to : to_z w64 (of_z w64 g.to) ≡ g.to = search (rules, to_z-of_z) in
    let before : c.truth_at.result.holds ≡ compares c.args.rel (whole g.from) = c.truth_at.ensures ∙ ap (λ n. compares c.args.rel (whole n)) from in
    let after : c.truth_at-then-changes_sign-2.result.holds ≡ compares c.args.rel (whole g.to) =
    c.truth_at-then-changes_sign-2.ensures ∙ ap (λ n. compares c.args.rel (whole n)) to in
    let point : c.truth_at-then-changes_sign.result.holds ≡ compares c.args.rel (whole (pos 0)) = c.truth_at-then-changes_sign.ensures in
    let turn = turn_at g c.args.rel (value c.crossing.result) (c.changes_sign.ensures.0 c.if-changes_sign.true) c.crossing.ensures.zero in
    record {
      after_first = turn.after_first;
      before_second = turn.before_second;
      until_then = λ t a b. turn.until_then t a b ∙ sym before;
      there = λ t e. turn.there t e ∙ sym point;
      from_then = λ t a b. turn.from_then t a b ∙ sym after;
      turns = λ e. turn.turns (sym before ∙ e ∙ after);
      small = c.crossing.ensures.small;
    }

pub returns : goal.returns
returns c = λ t a b.
    let g = c.args.gap.now in
    let stays : ¬ Passes g = λ p. true≢false (sym (c.changes_sign.ensures.1 p) ∙ c.if-changes_sign.false) in
    let sum : c.truth_at-2.result.holds ≡ compares c.args.rel (whole (g.from +ℤ g.to)) = search (rules, to_z-of_z) in
    one_truth g c.args.rel t stays a b ∙ sym sum
