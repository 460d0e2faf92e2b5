-- A verdict, the texts and a stream at one instant.
use Rattle.std.proofs.Common.{◌≡◌, ℕ, pos, negsuc, suc, zero, inr, [], ◌∷◌, refl, true, false, lit<, arith}
use Rattle.std.specs.Prelude.{codes}
use Rattle.std.specs.Fmt.{digits}
use Rattle.rational.specs.Rational.{Rational}
use Rattle.rational.specs.Time.{◌≈◌, closed, Divides}
use Rattle.stl_syntax.specs.Formula.{eventually}
use Rattle.stl_syntax.specs.Verdicts.{Describes}
use Rattle.stl_syntax.specs.Texts.{fraction_text, IsNumberText}
use Rattle.stl_syntax.specs.Stream.{IsStreamText}
use Rattle.frac128.specs.declared.frac.Frac.{Frac}
use Rattle.frac128.proofs.Wholes.{whole_frac, instant_span}
use Rattle.stl_syntax.specs.declared.items.Verdict.{Verdict}
use Rattle.stl_syntax.proofs.Examples.{x_at_least_5, at_time, row, x_header}
use Rattle.stl_syntax.proofs.KeptExamples.{instant, x_fails}
use Rattle.stl_syntax.proofs.TruthLemmas.{Truth-same}

abbrev pub zero_frac : Frac
zero_frac = whole_frac (pos 0)

-- `x >= 5` false on [0,0]
abbrev pub false_at_0 : Verdict
false_at_0 = record { on = instant_span zero_frac; holds = false }

pub told : Describes (false_at_0 ∷ []) x_at_least_5 instant (closed (at_time 0) (at_time 0))
told = (
  record { time = record { same = refl }; inside = refl },
  record {
    not_empty = inr (record { same = refl }, refl, refl);
    truth = λ t w h. x_fails 0 (Truth-same x_at_least_5 instant (let l = w.above in let k = w.below in omega arith) h);
  },
  record { time = record { same = refl }; inside = refl },
)

-- texts
seventh : fraction_text (pos 30) 7 ≡ codes "30/7"
unfolding digits
seventh = refl

half : fraction_text (negsuc 8) 2 ≡ codes "-9/2"
unfolding digits
half = refl

pub one_divisor : (k : ℕ) → Divides k 1 → k ≡ 1
one_divisor zero (m, e) = absurd (omega arith)
one_divisor (suc zero) (m, e) = refl
one_divisor (suc (suc k)) (zero, e) = absurd (omega arith)
one_divisor (suc (suc k)) (suc m, e) = absurd (omega arith)

pub zero_text : (t : Rational) → t ≈ at_time 0 → IsNumberText 0 t (codes "0")
unfolding digits
zero_text t e = record {
  num = pos 0;
  den = 1;
  lowest = record { positive = lit< tt; coprime = λ k a b. one_divisor k b };
  same = record { same = e.same };
  is = refl;
}

-- the stream of `eventually[0,2] x >= 5` has no text for the row 0 alone, and that of `x >= 5` has one line
no_text : IsStreamText (eventually 0 2 true true x_at_least_5) x_header (row 0 (pos 0) ∷ []) false []
no_text = ([], [], refl, refl, refl)
