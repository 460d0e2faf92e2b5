-- Causes, counts, early answers, scaled formulas and whole texts at small inputs.
use Rattle.std.proofs.Common.{◌≡◌, ℕ, pos, negsuc, ◌^◌, inl, inr, List, [], ◌∷◌, ◌++◌, refl, true, false, lit≤, lit<, arith}
use Rattle.std.specs.Prelude.{codes}
use Rattle.rational.specs.Rational.{Rational, ratio}
use Rattle.rational.specs.Time.{whole}
use Rattle.rational.specs.Extended.{Extended, finite, minus_infinity, infinity, ◌≈ᵉ◌, value_at}
use Rattle.stl_syntax.specs.Knots.{Knots}
use Rattle.stl_syntax.specs.Trace.{Row, value_of}
use Rattle.stl_syntax.specs.Formula.{atom, subformula}
use Rattle.stl_syntax.specs.Formula.{Formula}
use Rattle.stl_syntax.specs.Truth.{expression}
use Rattle.stl_syntax.specs.SupInf.{Setting, signals, placed, SupInf}
use Rattle.rational.specs.InPlay.{IsPart}
use Rattle.stl_syntax.specs.WideCause.{IsCrossingCause}
use Rattle.stl_syntax.specs.Kept.{Agree, IsTooMany, none, more}
use Rattle.stl_syntax.specs.Trace.{Continues}
use Rattle.stl_syntax.specs.Early.{FirstDecides}
use Rattle.stl_syntax.specs.Scaling.{scaled}
use Rattle.stl_syntax.specs.Verdicts.{TellsClosed}
use Rattle.stl_syntax.specs.Texts.{IsVerdictLine, IsSpanText}
use Rattle.stl_syntax.specs.Stream.{IsStreamText}
use Rattle.report.specs.Report.{Out, check}
use Rattle.stl_syntax.specs.declared.node.Node.TheVariants.{Atom as Leaf, Eventually}
use Rattle.stl_syntax.proofs.Examples.{at_least_5, x_at_least_5, at_time, row, x_header, no_digits, rise, eventually_nodes}
use Rattle.stl_syntax.proofs.KeptExamples.{instant, both, item, so, cuts, root_cuts, x_fails}
use Rattle.stl_syntax.proofs.InstantExamples.{one_divisor, zero_text, false_at_0, told}
use Rattle.stl_syntax.proofs.WideExamples.{steep, level, meets_there}
use Rattle.rational.proofs.ExtendedLemmas.{le_reflᵉ}

-- the trace agrees with itself on the item
agrees : Agree both instant instant (item 0 ∷ [])
unfolding subformula
agrees = record { like = record { header = refl; start_same = refl; stop_same = refl }; so = (so 0 refl, tt) }

-- three cells in all: the running sum passes 2 at the first place
too_many : IsTooMany both instant 2 3
too_many = record {
  place = 0;
  before = 2;
  within = lit≤ tt;
  passed = lit< tt;
  count_before = more (at_time 0 ∷ []) (more (at_time 0 ∷ []) none root_cuts) (cuts 1 (lit< tt));
  count_here = more (at_time 0 ∷ []) (more (at_time 0 ∷ []) (more (at_time 0 ∷ []) none root_cuts) (cuts 1 (lit< tt))) (cuts 0 (lit< tt));
}

-- the rise goes on from its first row
goes_on : Continues rise x_header (row 0 (pos 0) ∷ []) false
goes_on = record { same_header = refl; more = row 10 (pos 10) ∷ []; begins = refl; whole_input = λ e. absurd (let x : false ≡ true = e in cc) }

-- one row decides that `x >= 5` fails at the start
decided : FirstDecides x_at_least_5 x_header [] (row 0 (pos 0)) false
unfolding expression value_of
decided = record { decides = (record { le = lit≤ tt }, refl); not_before = λ earlier later s b e. absurd (no_row earlier later s e) }
  where
    no_row : (earlier later : List Row) (s : Row) → [] ≡ earlier ++ s ∷ later → ⊥
    no_row [] later s e = cc
    no_row (r ∷ earlier) later s e = cc

-- in tenths of time and of value
in_tenths : (scaled (record { nodes = eventually_nodes; scale = no_digits }) (record { time = 1; value = 1 })).nodes
    ≡ Leaf (record { terms = at_least_5.terms; rel = at_least_5.rel; limit = pos 50 }) ∷ Eventually 0 0 20 true true ∷ []
in_tenths = refl

-- at one instant the robustness of `x >= 5` is -5
one_point : TellsClosed x_at_least_5 instant (at_time 0) (at_time 0)
    (record { first = record { time = at_time 0; value = finite (whole (negsuc 4)) }; pieces = [] })
unfolding expression value_of
one_point = (record { same = refl }, record { at_most = record { le = lit≤ tt }; at_least = record { le = lit≤ tt } }, inl (refl, record { same = refl }))

-- the texts of `check 'x >= 5'` and of its stream at that instant
pub zero_span : IsSpanText no_digits false_at_0.on (codes "[0,0]")
zero_span = record { from = codes "0"; to = codes "0"; from_is = zero_text _ (record { same = refl }); to_is = zero_text _ (record { same = refl }); is = refl }

zero_line : IsVerdictLine no_digits false_at_0 (codes "[0,0] false" ++ 10 ∷ [])
zero_line = (codes "[0,0]", zero_span, refl)

abbrev false_line : List ℕ
false_line = codes "[0,0] false" ++ 10 ∷ []

abbrev start_false : List ℕ
start_false = codes "start false" ++ 10 ∷ []

abbrev pub x_formula : Formula
x_formula = record { nodes = Leaf at_least_5 ∷ []; scale = no_digits }

checked : Out check x_formula instant (false_line ++ start_false)
unfolding subformula
checked = (false_at_0 ∷ [], false_line, start_false, told, (false_line, [], zero_line, refl, refl), (false, x_fails 0, refl), refl)

streamed : IsStreamText x_at_least_5 x_header (row 0 (pos 0) ∷ []) false false_line
streamed = (false_line, [], (false_at_0 ∷ [], told, (false_line, [], zero_line, refl, refl)), refl, refl)

streamed_to_end : IsStreamText x_at_least_5 x_header (row 0 (pos 0) ∷ []) true (false_line ++ start_false)
streamed_to_end = ((refl, tt), (false_line, [], start_false, streamed, refl, (false, x_fails 0, refl), refl))

-- two signals whose lines cross at 1/2^60 are a cause at the node above them
abbrev steep_knots : Knots
steep_knots = record {
  first = record { time = at_time 0; value = value_at steep (at_time 0) };
  pieces = record {
    from = value_at steep (at_time 0);
    to = value_at steep (at_time 1);
    next = record { time = at_time 1; value = value_at steep (at_time 1) };
  } ∷ [];
}

abbrev level_knots : Knots
level_knots = record {
  first = record { time = at_time 0; value = value_at level (at_time 0) };
  pieces = record {
    from = value_at level (at_time 0);
    to = value_at level (at_time 1);
    next = record { time = at_time 1; value = value_at level (at_time 1) };
  } ∷ [];
}

abbrev crossing : Setting
crossing = record {
  atoms = signals (placed both (steep_knots ∷ level_knots ∷ []));
  lowest = minus_infinity;
  highest = infinity;
  from = at_time 0;
  to = at_time 1;
}

abbrev meeting : Rational
meeting = ratio (pos 1) (2 ^ 60) (lit< tt)

same_value : (v : Extended) → v ≈ᵉ v
same_value v = record { at_most = le_reflᵉ v; at_least = le_reflᵉ v }

steep_part : IsPart (SupInf (atom 0 at_least_5) crossing) meeting steep
steep_part = record {
  a = at_time 0;
  b = at_time 1;
  above = omega arith;
  below = omega arith;
  on = λ t h k. (
    value_at steep t,
    (
      steep_knots,
      refl,
      inr (inl (record { after = h; before = k; through = steep; from = same_value _; to = same_value _; value = same_value _ })),
    ),
    same_value _,
  );
}

level_part : IsPart (SupInf (atom 1 at_least_5) crossing) meeting level
level_part = record {
  a = at_time 0;
  b = at_time 1;
  above = omega arith;
  below = omega arith;
  on = λ t h k. (
    value_at level t,
    (
      level_knots,
      refl,
      inr (inl (record { after = h; before = k; through = level; from = same_value _; to = same_value _; value = same_value _ })),
    ),
    same_value _,
  );
}

cause : IsCrossingCause both crossing 2 steep level (at_time 0) (at_time 1) (2 ^ 60)
unfolding subformula
cause = record {
  tau = meeting;
  after_start = omega arith;
  before_stop = omega arith;
  above = omega arith;
  below = omega arith;
  first = inl steep_part;
  second = inr level_part;
  meet = record { at_most = omega arith; at_least = omega arith };
  alone = λ t e. meets_there t e.at_most e.at_least;
  denominator = (pos 1, record { positive = lit< tt; coprime = λ k a b. one_divisor k a }, record { same = refl });
  wide = lit≤ tt;
}
