use Rattle.std.specs.declared.cmp.Ordering.TheVariants.{Equal}
use Rattle.std.proofs.Common.{◌≡◌, Some, sym, subst, ◌∙◌, arith, slice_get}
use Rattle.rational.specs.Time.{◌≈◌, ◌<ʳ◌, ◌≤ʳ◌}
use Rattle.rational.proofs.Order.{lt_irrefl, lt_of_lt_of_le, le_of_same}
use Rattle.frac128.specs.Value.{value}
use Rattle.frac128.specs.declared.frac.Frac.{Frac}
use Rattle.stl_syntax.specs.SupInf.{Robustness}
use Rattle.value_laws.specs.declared.margin.Margin.{Margin}
use Rattle.online_robust.specs.Lines.{end_of}
use Rattle.online_robust.specs.Held.{held_at}
use Rattle.online_robust.specs.ReadLines.{IsThere}
use Rattle.online_robust.specs.declared.line.MarginLine.{MarginLine}
use Rattle.online_robust.proofs.LinesGone.{loses_at_none}
use Rattle.online_robust.proofs.JoinedLemmas.{first_of}
use Rattle.online_robust.proofs.PointwiseLemmas.{TakesTwo, above_of, gap_ahead, gap_there, has_second, read_ahead, read_lost, read_there, two_fewer}
use Rattle.online_robust.proofs.pointwise.up_to.Goals.{After-cmp, After-margin}
use Rattle.online_robust.proofs.pointwise.up_to.Goals as goal

-- the gap and the point at its end were taken
two_of : (c : After-margin) (gap : MarginLine) → slice_get (held_at c.args.edges.now c.args.of) 0 ≡ Some gap
    → TakesTwo c.args.edges.now c.skip.new.self c.take.new.self c.args.of gap c.in-Some.point
two_of c gap first = record {
  within = c.requires.of;
  first = first;
  taken = c.skip.ensures.taken;
  start = c.skip.ensures.start;
  second = sym c.take.ensures.first ∙ c.in-Some.is;
  taken_too = c.take.ensures.taken;
  start_too = c.take.ensures.start;
}

-- the gap ends at the time
ends : (c : After-margin) (gap : MarginLine) → c.args.end.now ≡ end_of gap → value (end_of gap) ≈ value c.args.t.now
ends c gap e = subst (λ (f : Frac). value f ≈ value c.args.t.now) e c.in-Equal.ensures

pub returns-in-Some-clause-there : goal.returns-in-Some-clause-there
returns-in-Some-clause-there c x gap e m read =
    subst (λ (v : Margin). IsThere (Robustness x.formula x.trace) x.reach (value c.args.t.now) v) (sym c.margin.ensures)
    (read_there x (two_of c gap read.first) read (ends c gap e))

pub returns-in-Some-clause-ahead : goal.returns-in-Some-clause-ahead
returns-in-Some-clause-ahead c x gap e m read = read_ahead x (two_of c gap read.first) read (ends c gap e)

pub returns-in-Some-clause-lost : goal.returns-in-Some-clause-lost
returns-in-Some-clause-lost c =
    let (x, gap, e, m, read) = c.requires.read in read_lost x (two_of c gap read.first) read (ends c gap e)

pub returns-in-Some-clause-fewer : goal.returns-in-Some-clause-fewer
returns-in-Some-clause-fewer c h = let (x, gap, e, m, read) = c.requires.read in two_fewer (two_of c gap read.first)

pub returns-in-Some-clause-no_more : goal.returns-in-Some-clause-no_more
returns-in-Some-clause-no_more c =
    let (x, gap, e, m, read) = c.requires.read in
    let fewer = two_fewer (two_of c gap read.first) in omega (arith, fewer)

pub unreachable-requires : goal.unreachable-requires
unreachable-requires c =
    let (x, gap, e, m, read) = c.requires.read in
    has_second c.args.edges.now c.skip.new.self c.args.of c.requires.of c.skip.ensures.taken
    (first_of (Robustness x.formula x.trace) x.reach x.at x.to (held_at c.args.edges.now c.args.of) gap read.ahead read.first).0
    (sym c.take.ensures.first ∙ c.in_default-take.is)

-- or it ends later
before : (c : After-cmp) (gap : MarginLine) → (c.cmp.result ≡ Equal → ⊥) → c.args.end.now ≡ end_of gap → value c.args.t.now ≤ʳ value (end_of gap)
    → value c.args.t.now <ʳ value (end_of gap)
before c gap n e le = subst (λ (f : Frac). value c.args.t.now <ʳ value f) e
    (above_of c.cmp.result c.cmp.ensures n (subst (λ (f : Frac). value c.args.t.now ≤ʳ value f) (sym e) le))

pub returns-in_default : goal.returns-in_default
returns-in_default c =
    let step = (goal.at.returns-in_default c).After-cmp in
    let not_equal = c.in_default.not-Equal in record {
      there = λ x gap e m read. subst (λ (v : Margin). IsThere (Robustness x.formula x.trace) x.reach (value c.args.t.now) v) (sym m)
          (gap_there x (held_at c.args.edges.now c.args.of) gap (value c.args.t.now) read (before step gap not_equal e read.before));
      ahead = λ x gap e m read. gap_ahead x (held_at c.args.edges.now c.args.of) gap (value c.args.t.now) read (before step gap not_equal e read.before);
      lost = loses_at_none c.args.edges.now;
      fewer = λ h. absurd (let (x, gap, e, m, read) = c.requires.read in
          lt_irrefl (lt_of_lt_of_le (before step gap not_equal e read.before) (le_of_same (subst (λ (f : Frac). value f ≈ value c.args.t.now) e h))));
      no_more = omega arith;
    }
