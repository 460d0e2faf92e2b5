-- With two rows or more, what a formula's margin is at a time before the start, or as far as the rows answer, it is in each trace that goes on.
use Rattle.std.proofs.Common.{◌≡◌, ◌⊎◌, inl, inr, refl, ap, subst, ◌∙◌, ℕ, suc, ◌+◌, ◌-◌, ◌≤◌, max, List, [], ◌∷◌, ◌++◌, Bool, true, false, pos, arith, Option}
use Rattle.std.specs.Prelude.{◌↔◌, bytes_eq, cond}
use Rattle.rational.specs.Time.{Rational, Within, ◌≤ʳ◌, ◌<ʳ◌, whole, later, add, times, subtract}
use Rattle.rational.specs.Extended.{Extended, finite, opposite, minus_infinity, infinity, ◌≈ᵉ◌}
use Rattle.rational.specs.Windows.{Function, Window, Ahead, Behind, IsSupOver, IsInfOver, IsUpTo, IsDownTo}
use Rattle.rational.proofs.Order.{le_or_lt, le_trans, lt_trans, le_refl}
use Rattle.rational.proofs.TimeLemmas.{less_in, later_le, later_more, later_from, precedes_le}
use Rattle.rational.proofs.WindowLemmas.{sup_alike, inf_alike}
use Rattle.stl_syntax.specs.Trace.{Header, Column, Row, AreRowsAfter, row_time, last_time, value_from, value_among, value_of}
use Rattle.stl_syntax.specs.Formula.{Subformula, constant, atom, negation, conjunction, disjunction, implication}
use Rattle.stl_syntax.specs.Formula.{until, eventually, always, since, once, historically, horizon}
use Rattle.stl_syntax.specs.Truth.{sum_at, expression}
use Rattle.stl_syntax.specs.SupInf.{Setting, SupInf, margin, margin_setting}
use Rattle.stl_syntax.specs.declared.atom.Atom.{Atom}
use Rattle.stl_syntax.specs.declared.atom.Term.{Term}
use Rattle.stl_syntax.proofs.PrefixLaw.{trace, longer}
use Rattle.stl_syntax.proofs.MarginsStay.{Margins-settled}

-- the two functions have the same values at the time
abbrev pub SameAt : Function → Function → Rational → Type 0
SameAt F G t = (v : Extended) → F t v ↔ G t v

-- one time and then another later is their sum later
later_twice : (t : Rational) (j k : ℕ) → (later (later t j) k ≤ʳ later t (j + k)) × (later t (j + k) ≤ʳ later (later t j) k)
later_twice t j k = (record { le = omega arith }, record { le = omega arith })

-- ---- columns before the second row

both : (b : Bool) (x x' y y' : Rational) → x ≡ x' → y ≡ y' → cond b x y ≡ cond b x' y'
both true x x' y y' e f = e
both false x x' y y' e f = f

among : (columns : List Column) (c : ℕ) (r s : Row) (rest more : List Row) (name : List ℕ) (t : Rational) → t <ʳ row_time s
    → value_among columns c (r ∷ s ∷ rest) name t ≡ value_among columns c (r ∷ s ∷ (rest ++ more)) name t
among [] c r s rest more name t l = refl
among (x ∷ columns) c r s rest more name t l =
    both (bytes_eq x.name name) _ _ _ _ (here x.step) (among columns (suc c) r s rest more name t l)
  where
    here : (step : Bool) → value_from step c r (s ∷ rest) t ≡ value_from step c r (s ∷ (rest ++ more)) t
    here step = rw (less_in t (row_time s) l) refl

module _ (header : Header) (n : ℕ) (r s : Row) (rest more : List Row) (ok : AreRowsAfter n r.time (s ∷ (rest ++ more))) where
  column_before : (name : List ℕ) (t : Rational) → t <ʳ row_time s
      → value_of (trace header (r ∷ s ∷ rest)) name t ≡ value_of (trace header (r ∷ s ∷ (rest ++ more))) name t
  unfolding value_of
  column_before name t l = among header.columns 0 r s rest more name t l

  sum_before : (terms : List Term) (t : Rational) → t <ʳ row_time s
      → sum_at terms (trace header (r ∷ s ∷ rest)) t ≡ sum_at terms (trace header (r ∷ s ∷ (rest ++ more))) t
  sum_before [] t l = refl
  sum_before (x ∷ terms) t l =
      ap (λ v. add (times x.coef v) (sum_at terms (trace header (r ∷ s ∷ rest)) t)) (column_before x.name t l)
      ∙ ap (λ v. add (times x.coef (value_of (trace header (r ∷ s ∷ (rest ++ more))) x.name t)) v) (sum_before terms t l)

  expression_before : (a : Atom) (t : Rational) → t <ʳ row_time s
      → expression a (trace header (r ∷ s ∷ rest)) t ≡ expression a (trace header (r ∷ s ∷ (rest ++ more))) t
  unfolding expression
  expression_before a t l = ap (λ x. subtract x (whole a.limit)) (sum_before a.terms t l)

  abbrev from : Rational
  from = row_time r

  abbrev pub to : Rational
  to = whole (pos (last_time s.time rest))

  abbrev pub end : Rational
  end = whole (pos (last_time s.time (rest ++ more)))

  abbrev pub short : Setting
  short = margin_setting (trace header (r ∷ s ∷ rest))

  abbrev pub long : Setting
  long = margin_setting (trace header (r ∷ s ∷ (rest ++ more)))

  -- more rows end no earlier
  pub further : to ≤ʳ end
  further = longer header n r (s ∷ rest) more ok

  -- ---- Sups and Infs over windows that are the same, of functions that are the same there

  module _ (V W : Window) (F G : Function) (forth : (u : Rational) → V u → W u) (back : (u : Rational) → W u → V u)
      (same : (u : Rational) → V u → SameAt F G u) where
    there : (v : Extended) → (u : Rational) × V u × F u v → (u : Rational) × W u × G u v
    there v (u, w, f) = (u, forth u w, (same u w v).0 f)

    here : (v : Extended) → (u : Rational) × W u × G u v → (u : Rational) × V u × F u v
    here v (u, w, g) = (u, back u w, (same u (back u w) v).1 g)

    sups : (lowest v : Extended) → IsSupOver lowest V F v ↔ IsSupOver lowest W G v
    sups lowest v = (λ h. sup_alike lowest v there here h, λ h. sup_alike lowest v here there h)

    infs : (highest v : Extended) → IsInfOver highest V F v ↔ IsInfOver highest W G v
    infs highest v = (λ h. inf_alike highest v there here h, λ h. inf_alike highest v here there h)

  up_to : (P Q R S : Function) (t u : Rational) → ((x : Rational) → Within t u x → SameAt P R x) → SameAt Q S u
      → SameAt (IsUpTo infinity P Q t) (IsUpTo infinity R S t) u
  up_to P Q R S t u same at v =
      let one = infs (Within t u) (Within t u) P R (λ x w. w) (λ x w. w) same infinity in (
        λ (x, y, q, i, l). (x, y, (at x).0 q, (one y).0 i, l),
        λ (x, y, q, i, l). (x, y, (at x).1 q, (one y).1 i, l),
      )

  down_to : (P Q R S : Function) (t u : Rational) → ((x : Rational) → Within u t x → SameAt P R x) → SameAt Q S u
      → SameAt (IsDownTo infinity P Q t) (IsDownTo infinity R S t) u
  down_to P Q R S t u same at v =
      let one = infs (Within u t) (Within u t) P R (λ x w. w) (λ x w. w) same infinity in (
        λ (x, y, q, i, l). (x, y, (at x).0 q, (one y).0 i, l),
        λ (x, y, q, i, l). (x, y, (at x).1 q, (one y).1 i, l),
      )

  -- ---- how far the rows answer

  -- a time up to another that is answered for more is answered
  reach_less : (t u : Rational) (j k : ℕ) → u ≤ʳ t → j ≤ k → later t k ≤ʳ to → later u j ≤ʳ to
  reach_less t u j k l h reach = le_trans (later_le j l) (le_trans (later_more t j k h) reach)

  reach_ahead : (t u : Rational) (b k : ℕ) → u ≤ʳ later t b → later t (b + k) ≤ʳ to → later u k ≤ʳ to
  reach_ahead t u b k l reach = le_trans (later_le k l) (le_trans (later_twice t b k).0 reach)

  reach_behind : (t u : Rational) (a k : ℕ) → later u a ≤ʳ t → later t (k - a) ≤ʳ to → later u k ≤ʳ to
  reach_behind t u a k l reach =
      let more : k ≤ a + (k - a) = omega arith in
      le_trans (later_more u k (a + (k - a)) more) (le_trans (later_twice u a (k - a)).1 (le_trans (later_le (k - a) l) reach))

  reach_now : (t : Rational) (k : ℕ) → later t k ≤ʳ to → t ≤ʳ to
  reach_now t k reach = le_trans (later_from t k) reach

  ahead_out : (a b : ℕ) (a_in b_in : Bool) (t u : Rational) → Ahead from to a b a_in b_in t u → Ahead from end a b a_in b_in t u
  ahead_out a b a_in b_in t u w =
      record { inside = record { above = w.inside.above; below = le_trans w.inside.below further }; begins = w.begins; ends = w.ends }

  ahead_in : (a b k : ℕ) (a_in b_in : Bool) (t u : Rational) → later t (b + k) ≤ʳ to → Ahead from end a b a_in b_in t u → Ahead from to a b a_in b_in t u
  ahead_in a b k a_in b_in t u reach w = record {
    inside = record { above = w.inside.above; below = reach_now u k (reach_ahead t u b k (precedes_le b_in u (later t b) w.ends) reach) };
    begins = w.begins;
    ends = w.ends;
  }

  behind_out : (a : ℕ) (b : Option ℕ) (a_in b_in : Bool) (t u : Rational) → Behind from to a b a_in b_in t u → Behind from end a b a_in b_in t u
  behind_out a b a_in b_in t u w =
      record { inside = record { above = w.inside.above; below = le_trans w.inside.below further }; begins = w.begins; ends = w.ends }

  behind_in : (a : ℕ) (b : Option ℕ) (a_in b_in : Bool) (t u : Rational) → t ≤ʳ to → Behind from end a b a_in b_in t u → Behind from to a b a_in b_in t u
  behind_in a b a_in b_in t u reach w = record {
    inside = record { above = w.inside.above; below = le_trans (later_from u a) (le_trans (precedes_le a_in (later u a) t w.ends) reach) };
    begins = w.begins;
    ends = w.ends;
  }

  module _ (p : Subformula) (a b : ℕ) (a_in b_in : Bool) (t : Rational) (reach : later t (b + horizon p) ≤ʳ to)
      (same : (u : Rational) → later u (horizon p) ≤ʳ to → SameAt (SupInf p short) (SupInf p long) u) where
    ahead_sups : (v : Extended) → SupInf (eventually a b a_in b_in p) short t v ↔ SupInf (eventually a b a_in b_in p) long t v
    ahead_sups v = sups (Ahead from to a b a_in b_in t) (Ahead from end a b a_in b_in t) (SupInf p short) (SupInf p long)
        (λ u w. ahead_out a b a_in b_in t u w) (λ u w. ahead_in a b (horizon p) a_in b_in t u reach w)
        (λ u w. same u (reach_ahead t u b (horizon p) (precedes_le b_in u (later t b) w.ends) reach)) minus_infinity v

    ahead_infs : (v : Extended) → SupInf (always a b a_in b_in p) short t v ↔ SupInf (always a b a_in b_in p) long t v
    ahead_infs v = infs (Ahead from to a b a_in b_in t) (Ahead from end a b a_in b_in t) (SupInf p short) (SupInf p long)
        (λ u w. ahead_out a b a_in b_in t u w) (λ u w. ahead_in a b (horizon p) a_in b_in t u reach w)
        (λ u w. same u (reach_ahead t u b (horizon p) (precedes_le b_in u (later t b) w.ends) reach)) infinity v

  module _ (p : Subformula) (a : ℕ) (b : Option ℕ) (a_in b_in : Bool) (t : Rational) (reach : later t (horizon p - a) ≤ʳ to)
      (same : (u : Rational) → later u (horizon p) ≤ʳ to → SameAt (SupInf p short) (SupInf p long) u) where
    behind_sups : (v : Extended) → SupInf (once a b a_in b_in p) short t v ↔ SupInf (once a b a_in b_in p) long t v
    behind_sups v = sups (Behind from to a b a_in b_in t) (Behind from end a b a_in b_in t) (SupInf p short) (SupInf p long)
        (λ u w. behind_out a b a_in b_in t u w) (λ u w. behind_in a b a_in b_in t u (reach_now t (horizon p - a) reach) w)
        (λ u w. same u (reach_behind t u a (horizon p) (precedes_le a_in (later u a) t w.ends) reach)) minus_infinity v

    behind_infs : (v : Extended) → SupInf (historically a b a_in b_in p) short t v ↔ SupInf (historically a b a_in b_in p) long t v
    behind_infs v = infs (Behind from to a b a_in b_in t) (Behind from end a b a_in b_in t) (SupInf p short) (SupInf p long)
        (λ u w. behind_out a b a_in b_in t u w) (λ u w. behind_in a b a_in b_in t u (reach_now t (horizon p - a) reach) w)
        (λ u w. same u (reach_behind t u a (horizon p) (precedes_le a_in (later u a) t w.ends) reach)) infinity v

  -- a margin that the rows answer, be its time before the start or not, is that of each trace that goes on
  pub settled : (p : Subformula) (t : Rational) → later t (horizon p) ≤ʳ to → SameAt (SupInf p short) (SupInf p long) t
  settled (constant true) t reach v = (λ x. x, λ x. x)
  settled (constant false) t reach v = (λ x. x, λ x. x)
  settled (atom i a) t reach v = by_order (le_or_lt from t)
    where
      by_order : (from ≤ʳ t) ⊎ (t <ʳ from) → SupInf (atom i a) short t v ↔ SupInf (atom i a) long t v
      by_order (inl l) = Margins-settled header n r (s ∷ rest) more ok (atom i a) t (record { after = l; before = reach }) v
      by_order (inr l) =
          let second : from <ʳ row_time s = (let e = ok.0 in record { lt = omega arith }) in
          subst (λ (e : Rational). (v ≈ᵉ finite (margin a.rel (expression a (trace header (r ∷ s ∷ rest)) t))) ↔ (v ≈ᵉ finite (margin a.rel e)))
          (expression_before a t (lt_trans l second)) (λ x. x, λ x. x)
  settled (negation p) t reach v = settled p t reach (opposite v)
  settled (conjunction p q) t reach v =
      let left = settled p t (reach_less t t (horizon p) (max (horizon p) (horizon q)) (le_refl t) (omega arith) reach) in
      let right = settled q t (reach_less t t (horizon q) (max (horizon p) (horizon q)) (le_refl t) (omega arith) reach) in (
        λ (x, y, f, g, m). (x, y, (left x).0 f, (right y).0 g, m),
        λ (x, y, f, g, m). (x, y, (left x).1 f, (right y).1 g, m),
      )
  settled (disjunction p q) t reach v =
      let left = settled p t (reach_less t t (horizon p) (max (horizon p) (horizon q)) (le_refl t) (omega arith) reach) in
      let right = settled q t (reach_less t t (horizon q) (max (horizon p) (horizon q)) (le_refl t) (omega arith) reach) in (
        λ (x, y, f, g, m). (x, y, (left x).0 f, (right y).0 g, m),
        λ (x, y, f, g, m). (x, y, (left x).1 f, (right y).1 g, m),
      )
  settled (implication p q) t reach v =
      let left = settled p t (reach_less t t (horizon p) (max (horizon p) (horizon q)) (le_refl t) (omega arith) reach) in
      let right = settled q t (reach_less t t (horizon q) (max (horizon p) (horizon q)) (le_refl t) (omega arith) reach) in (
        λ (x, y, f, g, m). (x, y, (left x).0 f, (right y).0 g, m),
        λ (x, y, f, g, m). (x, y, (left x).1 f, (right y).1 g, m),
      )
  settled (eventually a b a_in b_in p) t reach v = ahead_sups p a b a_in b_in t reach (λ u k. settled p u k) v
  settled (always a b a_in b_in p) t reach v = ahead_infs p a b a_in b_in t reach (λ u k. settled p u k) v
  settled (once a b a_in b_in p) t reach v = behind_sups p a b a_in b_in t reach (λ u k. settled p u k) v
  settled (historically a b a_in b_in p) t reach v = behind_infs p a b a_in b_in t reach (λ u k. settled p u k) v
  settled (until a b p q) t reach v =
      sups (Ahead from to a b true true t) (Ahead from end a b true true t)
      (IsUpTo infinity (SupInf p short) (SupInf q short) t) (IsUpTo infinity (SupInf p long) (SupInf q long) t)
      (λ u w. ahead_out a b true true t u w) (λ u w. ahead_in a b (max (horizon p) (horizon q)) true true t u reach w)
      (λ u w. let at = reach_ahead t u b (max (horizon p) (horizon q)) w.ends reach in
      up_to (SupInf p short) (SupInf q short) (SupInf p long) (SupInf q long) t u
      (λ x i. settled p x (reach_less u x (horizon p) (max (horizon p) (horizon q)) i.below (omega arith) at))
      (settled q u (reach_less u u (horizon q) (max (horizon p) (horizon q)) (le_refl u) (omega arith) at))) minus_infinity v
  settled (since a b p q) t reach v =
      sups (Behind from to a b true true t) (Behind from end a b true true t)
      (IsDownTo infinity (SupInf p short) (SupInf q short) t) (IsDownTo infinity (SupInf p long) (SupInf q long) t)
      (λ u w. behind_out a b true true t u w) (λ u w. behind_in a b true true t u (reach_now t (max (horizon p) (horizon q - a)) reach) w)
      (λ u w.
      down_to (SupInf p short) (SupInf q short) (SupInf p long) (SupInf q long) t u
      (λ x i. settled p x (reach_less t x (horizon p) (max (horizon p) (horizon q - a)) i.below (omega arith) reach))
      (settled q u (reach_behind t u a (horizon q) w.ends
      (reach_less t t (horizon q - a) (max (horizon p) (horizon q - a)) (le_refl t) (omega arith) reach)))) minus_infinity v
