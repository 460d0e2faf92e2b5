-- An answered robustness is the robustness in every trace that goes on from the rows.
use Rattle.std.proofs.Common.{ℕ, ◌+◌, ◌-◌, pos, List, ◌∷◌, ◌++◌, Bool, true, false, arith, max}
use Rattle.std.specs.Prelude.{◌↔◌, Option}
use Rattle.rational.specs.Time.{Rational, ◌≤ʳ◌, Within, whole}
use Rattle.rational.specs.Extended.{Extended, finite, opposite, minus_infinity, infinity}
use Rattle.rational.specs.Windows.{Ahead, Behind, Function, Window, IsSupOver, IsInfOver, IsUpTo, IsDownTo}
use Rattle.rational.proofs.Order.{same_sym}
use Rattle.rational.proofs.AffineLemmas.{same_transᵉ, finite_same}
use Rattle.rational.proofs.WindowLemmas.{sup_alike, inf_alike}
use Rattle.stl_syntax.specs.Trace.{Header, Row, AreRowsAfter, row_time, last_time}
use Rattle.stl_syntax.specs.Formula.{Subformula, constant, atom, negation, conjunction, disjunction, implication}
use Rattle.stl_syntax.specs.Formula.{until, eventually, always, since, once, historically, horizon}
use Rattle.stl_syntax.specs.Truth.{expression}
use Rattle.stl_syntax.specs.SupInf.{Setting, SupInf, margin, margin_setting}
use Rattle.stl_syntax.proofs.PrefixLaw.{trace, same_atom, longer}
use Rattle.stl_syntax.proofs.TimeLaw.{margin_same}
use Rattle.stl_syntax.proofs.Reaching.{Reaches, reach_now, reach_less, ahead_reaches, ahead_longer, ahead_shorter}
use Rattle.stl_syntax.proofs.Reaching.{behind_reaches, behind_longer, behind_shorter, until_left, until_right, since_left}
use Rattle.stl_syntax.proofs.Reaching.{since_right}

-- the two functions have the same values at the time
abbrev SameAt : Function → Function → Rational → Type 0
SameAt F G u = (x : Extended) → F u x ↔ G u x

-- two windows of the same times, at which two functions have the same values
record AreSame (V W : Window) (F G : Function) : Type 0 where
  forth : (u : Rational) → V u → W u
  back : (u : Rational) → W u → V u
  same : (u : Rational) → V u → SameAt F G u

module _ {V W : Window} {F G : Function} (e : AreSame V W F G) where
  there : (v : Extended) → (u : Rational) × V u × F u v → (u : Rational) × W u × G u v
  there v (u, w, f) = (u, e.forth u w, (e.same u w v).0 f)

  here : (v : Extended) → (u : Rational) × W u × G u v → (u : Rational) × V u × F u v
  here v (u, w, g) = (u, e.back u w, (e.same u (e.back u w) v).1 g)

  -- they have the same Sup and the same Inf
  sup_stays : (lowest r : Extended) → IsSupOver lowest V F r ↔ IsSupOver lowest W G r
  sup_stays lowest r = (λ h. sup_alike lowest r there here h, λ h. sup_alike lowest r here there h)

  inf_stays : (highest r : Extended) → IsInfOver highest V F r ↔ IsInfOver highest W G r
  inf_stays highest r = (λ h. inf_alike highest r there here h, λ h. inf_alike highest r here there h)

-- over one window
on_one : (W : Window) (F G : Function) → ((u : Rational) → W u → SameAt F G u) → AreSame W W F G
on_one W F G same = record { forth = λ u w. w; back = λ u w. w; same = same }

-- what until and since read at a time u of the window
up_to_stays : (P Q R S : Function) (highest : Extended) (t u : Rational) → ((s : Rational) → Within t u s → SameAt P R s) → SameAt Q S u
    → SameAt (IsUpTo highest P Q t) (IsUpTo highest R S t) u
up_to_stays P Q R S highest t u same here v = (
  λ (x, y, q, i, l). (x, y, (here x).0 q, (inf_stays (on_one (Within t u) P R same) highest y).0 i, l),
  λ (x, y, q, i, l). (x, y, (here x).1 q, (inf_stays (on_one (Within t u) P R same) highest y).1 i, l),
)

down_to_stays : (P Q R S : Function) (highest : Extended) (t u : Rational) → ((s : Rational) → Within u t s → SameAt P R s) → SameAt Q S u
    → SameAt (IsDownTo highest P Q t) (IsDownTo highest R S t) u
down_to_stays P Q R S highest t u same here v = (
  λ (x, y, q, i, l). (x, y, (here x).0 q, (inf_stays (on_one (Within u t) P R same) highest y).0 i, l),
  λ (x, y, q, i, l). (x, y, (here x).1 q, (inf_stays (on_one (Within u t) P R same) highest y).1 i, l),
)

module _ (header : Header) (n : ℕ) (r : Row) (rows more : List Row) (ok : AreRowsAfter n r.time (rows ++ more)) where
  abbrev from : Rational
  from = row_time r

  abbrev to : Rational
  to = whole (pos (last_time r.time rows))

  abbrev end : Rational
  end = whole (pos (last_time r.time (rows ++ more)))

  abbrev short : Setting
  short = margin_setting (trace header (r ∷ rows))

  abbrev long : Setting
  long = margin_setting (trace header (r ∷ (rows ++ more)))

  further : to ≤ʳ end
  further = longer header n r rows more ok

  -- a window ahead, and one behind, of functions that are the same wherever k more is reached
  ahead_same : (F G : Function) (a b k : ℕ) (a_in b_in : Bool) (t : Rational) → Reaches from to (b + k) t
      → ((u : Rational) → Reaches from to k u → SameAt F G u) → AreSame (Ahead from to a b a_in b_in t) (Ahead from end a b a_in b_in t) F G
  ahead_same F G a b k a_in b_in t h same = record {
    forth = λ u w. ahead_longer further w;
    back = λ u w. ahead_shorter k h w;
    same = λ u w. same u (ahead_reaches k h w);
  }

  behind_same : (F G : Function) (a k : ℕ) (b : Option ℕ) (a_in b_in : Bool) (t : Rational) → Reaches from to (k - a) t
      → ((u : Rational) → Reaches from to k u → SameAt F G u) → AreSame (Behind from to a b a_in b_in t) (Behind from end a b a_in b_in t) F G
  behind_same F G a k b a_in b_in t h same = record {
    forth = λ u w. behind_longer further w;
    back = λ u w. behind_shorter (reach_now (k - a) h) w;
    same = λ u w. same u (behind_reaches k h w);
  }

  -- an answered robustness is the robustness in each trace that goes on from the rows
  pub Margins-settled : (p : Subformula) (t : Rational) → Reaches from to (horizon p) t → SameAt (SupInf p short) (SupInf p long) t
  Margins-settled (constant true) t h v = (λ x. x, λ x. x)
  Margins-settled (constant false) t h v = (λ x. x, λ x. x)
  Margins-settled (atom i a) t h v =
      let e = same_atom header n r rows more ok a t h.after (reach_now 0 h) in
      let x : Extended = finite (margin a.rel (expression a (trace header (r ∷ rows)) t)) in
      let y : Extended = finite (margin a.rel (expression a (trace header (r ∷ (rows ++ more))) t)) in (
        λ k. same_transᵉ v x y k (finite_same (margin_same a.rel e)),
        λ k. same_transᵉ v y x k (finite_same (margin_same a.rel (same_sym e))),
      )
  Margins-settled (negation p) t h v = Margins-settled p t h (opposite v)
  Margins-settled (conjunction p q) t h v =
      let left = Margins-settled p t (reach_less (horizon p) (max (horizon p) (horizon q)) (omega arith) h) in
      let right = Margins-settled q t (reach_less (horizon q) (max (horizon p) (horizon q)) (omega arith) h) in (
        λ (x, y, f, g, m). (x, y, (left x).0 f, (right y).0 g, m),
        λ (x, y, f, g, m). (x, y, (left x).1 f, (right y).1 g, m),
      )
  Margins-settled (disjunction p q) t h v =
      let left = Margins-settled p t (reach_less (horizon p) (max (horizon p) (horizon q)) (omega arith) h) in
      let right = Margins-settled q t (reach_less (horizon q) (max (horizon p) (horizon q)) (omega arith) h) in (
        λ (x, y, f, g, m). (x, y, (left x).0 f, (right y).0 g, m),
        λ (x, y, f, g, m). (x, y, (left x).1 f, (right y).1 g, m),
      )
  Margins-settled (implication p q) t h v =
      let left = Margins-settled p t (reach_less (horizon p) (max (horizon p) (horizon q)) (omega arith) h) in
      let right = Margins-settled q t (reach_less (horizon q) (max (horizon p) (horizon q)) (omega arith) h) in (
        λ (x, y, f, g, m). (x, y, (left x).0 f, (right y).0 g, m),
        λ (x, y, f, g, m). (x, y, (left x).1 f, (right y).1 g, m),
      )
  Margins-settled (eventually a b a_in b_in p) t h v =
      sup_stays (ahead_same (SupInf p short) (SupInf p long) a b (horizon p) a_in b_in t h (λ u k. Margins-settled p u k)) minus_infinity v
  Margins-settled (always a b a_in b_in p) t h v =
      inf_stays (ahead_same (SupInf p short) (SupInf p long) a b (horizon p) a_in b_in t h (λ u k. Margins-settled p u k)) infinity v
  Margins-settled (once a b a_in b_in p) t h v =
      sup_stays (behind_same (SupInf p short) (SupInf p long) a (horizon p) b a_in b_in t h (λ u k. Margins-settled p u k)) minus_infinity v
  Margins-settled (historically a b a_in b_in p) t h v =
      inf_stays (behind_same (SupInf p short) (SupInf p long) a (horizon p) b a_in b_in t h (λ u k. Margins-settled p u k)) infinity v
  Margins-settled (until a b p q) t h v =
      let same : AreSame (Ahead from to a b true true t) (Ahead from end a b true true t) (IsUpTo infinity (SupInf p short) (SupInf q short) t)
      (IsUpTo infinity (SupInf p long) (SupInf q long) t) =
      record {
        forth = λ u w. ahead_longer further w;
        back = λ u w. ahead_shorter (max (horizon p) (horizon q)) h w;
        same = λ u w. up_to_stays (SupInf p short) (SupInf q short) (SupInf p long) (SupInf q long) infinity t u
            (λ s i. Margins-settled p s (until_left p q b h w.ends i)) (Margins-settled q u (until_right p q b h w.inside.above w.ends));
      } in
      sup_stays same minus_infinity v
  Margins-settled (since a b p q) t h v =
      let same : AreSame (Behind from to a b true true t) (Behind from end a b true true t) (IsDownTo infinity (SupInf p short) (SupInf q short) t)
      (IsDownTo infinity (SupInf p long) (SupInf q long) t) =
      record {
        forth = λ u w. behind_longer further w;
        back = λ u w. behind_shorter (reach_now (max (horizon p) (horizon q - a)) h) w;
        same = λ u w. down_to_stays (SupInf p short) (SupInf q short) (SupInf p long) (SupInf q long) infinity t u
            (λ s i. Margins-settled p s (since_left p q a h w.inside.above i)) (Margins-settled q u (since_right p q a h w.inside.above w.ends));
      } in
      sup_stays same minus_infinity v
