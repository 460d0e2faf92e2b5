-- Once the input has ended, sets that fit tell the truth at each time up to the last row.
use Rattle.std.proofs.Common.{◌≡◌, ◌⊎◌, inl, inr, refl, sym, subst, ℕ, ◌<◌, Bool, true, false, Option, Some, None, List}
use Rattle.std.specs.Prelude.{IsTrue, IsFalse, MatchOption}
use Rattle.std.proofs.lemmas.Bool.{both_ways}
use Rattle.rational.specs.Time.{Rational, Within, later, ◌≤ʳ◌}
use Rattle.rational.specs.Windows.{Ahead, Behind}
use Rattle.rational.proofs.Order.{le_of_lt, le_or_lt, le_refl, le_trans}
use Rattle.rational.proofs.TimeLemmas.{later_from, precedes_le}
use Rattle.stl_syntax.specs.Trace.{Trace, start, stop}
use Rattle.stl_syntax.specs.Formula.{Subformula, tree_of, HasChildrenBelow}
use Rattle.stl_syntax.specs.Truth.{Truth, holds_at}
use Rattle.stl_syntax.specs.Early.{OpenAhead, OpenBehind, IsSure}
use Rattle.stl_syntax.specs.WellFormed.{HasBounds}
use Rattle.stl_syntax.specs.declared.node.Node.{Node}
use Rattle.stl_syntax.specs.declared.node.Node.TheVariants.{Const, Atom as Leaf, Not, And, Or, Implies, Until, Eventually, Always, Since, Once, Historically}
use Rattle.growing_sets.specs.Spans.{IsOn, Lies, AreTidy}
use Rattle.early_verdict.specs.Readings.{SinceHolds, SinceFails}
use Rattle.early_verdict.specs.Fitting.{Lists, lists_at, lists_of, SayBoth, SayOfParts, SinceHolding, SinceFailing, AreSetsTidy, ArePartsTidy, Fits}
use Rattle.early_verdict.specs.Living.{IsShown, LooksAlong, LooksAt, ReachesBack}
use Rattle.growing_sets.specs.declared.stretch.Stretch.{Stretch}
use Rattle.early_verdict.specs.declared.sets.Sets.{Sets}
use Rattle.early_verdict.specs.declared.sets.Parts.{Parts}
use Rattle.growing_sets.proofs.Gaps.{covers, decided_on}
use Rattle.growing_sets.proofs.Failures.{at_time, past_time}
use Rattle.early_verdict.proofs.SinceSets.{along, none_later}
use Rattle.early_verdict.proofs.SettledBySets.{SaysSince, reaches_along, says_since, until_fits}

-- up to the last row the lists tell the truth at each time that is asked
pub record Final (tr : Trace) (In : Rational → Type 0) (l : Lists) (p : Subformula) : Type 0 where
  -- a time that is shown true is true
  pub yes : (u : Rational) → IsOn l.yes u → u ≤ʳ stop tr → Truth p tr u
  -- and one that is shown false is false
  pub no : (u : Rational) → IsOn l.no u → u ≤ʳ stop tr → ¬ (Truth p tr u)
  -- each time of the trace is one or the other
  pub all : (u : Rational) → In u → u ≤ʳ stop tr → IsOn l.yes u ⊎ IsOn l.no u

-- a sure time at a time of the trace is one of the trace
sure_in : (tr : Trace) (t u : Rational) → t ≤ʳ stop tr → IsSure tr t u → u ≤ʳ stop tr
sure_in tr t u h (s, inl l) = l
sure_in tr t u h (s, inr l) = le_trans l h

-- windows with an end and without
met : (tr : Trace) (a b : ℕ) (a_in b_in : Bool) (t u : Rational) → OpenAhead (start tr) a b a_in b_in t u → u ≤ʳ stop tr
    → Ahead (start tr) (stop tr) a b a_in b_in t u
met tr a b a_in b_in t u w h = record { inside = record { above = w.after; below = h }; begins = w.begins; ends = w.ends }

open_ahead : (tr : Trace) (a b : ℕ) (a_in b_in : Bool) (t u : Rational) → Ahead (start tr) (stop tr) a b a_in b_in t u → OpenAhead (start tr) a b a_in b_in t u
open_ahead tr a b a_in b_in t u w = record { after = w.inside.above; begins = w.begins; ends = w.ends }

met_behind : (tr : Trace) (a : ℕ) (b : Option ℕ) (a_in b_in : Bool) (t u : Rational) → OpenBehind (start tr) a b a_in b_in t u → u ≤ʳ stop tr
    → Behind (start tr) (stop tr) a b a_in b_in t u
met_behind tr a b a_in b_in t u w h = record { inside = record { above = w.after; below = h }; begins = w.begins; ends = w.ends }

open_behind : (tr : Trace) (a : ℕ) (b : Option ℕ) (a_in b_in : Bool) (t u : Rational) → Behind (start tr) (stop tr) a b a_in b_in t u
    → OpenBehind (start tr) a b a_in b_in t u
open_behind tr a b a_in b_in t u w = record { after = w.inside.above; begins = w.begins; ends = w.ends }

module _ (tr : Trace) (own : Stretch) (s : Sets) (is_yes : s.yes.bounds ≡ own) (is_no : s.no.bounds ≡ own)
    (from : (t : Rational) → Lies own t → start tr ≤ʳ t) (tidy : AreSetsTidy s) where
  in_yes : (t : Rational) → Lies s.yes.bounds t → Lies own t
  in_yes t l = subst (λ x. Lies x t) is_yes l

  in_no : (t : Rational) → Lies s.no.bounds t → Lies own t
  in_no t l = subst (λ x. Lies x t) is_no l

  to_yes : (t : Rational) → Lies own t → Lies s.yes.bounds t
  to_yes t l = subst (λ x. Lies x t) (sym is_yes) l

  to_no : (t : Rational) → Lies own t → Lies s.no.bounds t
  to_no t l = subst (λ x. Lies x t) (sym is_no) l

  -- what the sets say is so, and they say it of each time
  final : {P N : Rational → Type 0} (p : Subformula) → SayBoth s P N → ((t : Rational) → t ≤ʳ stop tr → P t → Truth p tr t)
      → ((t : Rational) → t ≤ʳ stop tr → N t → ¬ (Truth p tr t))
      → ((t : Rational) → Lies own t → t ≤ʳ stop tr → P t ⊎ N t) → Final tr (Lies own) (lists_of s) p
  final p h holds fails all = record {
    yes = λ u o l. holds u l (h.yes.only u o).1;
    no = λ u o l. fails u l (h.no.only u o).1;
    all = λ u l e. elim (all u l e) [ inl y ↦ inl (h.yes.has u (to_yes u l) y) | inr y ↦ inr (h.no.has u (to_no u l) y) ];
  }

  -- a time is of the one or, where it is not, of the other
  one_side : {P N : Rational → Type 0} → SayBoth s P N → (t : Rational) → Lies own t → (¬ (P t) → N t) → P t ⊎ N t
  one_side h t l other = elim (decided_on s.yes.spans.items t) [
    | inl o ↦ inl ((h.yes.only t o).1)
    | inr n ↦ inr (other (λ y. n (h.yes.has t (to_yes t l) y)))
  ]

  other_side : {P N : Rational → Type 0} → SayBoth s P N → (t : Rational) → Lies own t → (¬ (N t) → P t) → P t ⊎ N t
  other_side h t l other = elim (decided_on s.no.spans.items t) [
    | inl o ↦ inr ((h.no.only t o).1)
    | inr n ↦ inl (other (λ y. n (h.no.has t (to_no t l) y)))
  ]

  module _ (shown : List Sets) (sub : ℕ → Subformula) (i : ℕ)
      (known : (p : ℕ) → p < i → Final tr (IsShown shown p) (lists_at shown p) (sub p))
      (tidy_at : (p : ℕ) → AreTidy (lists_at shown p).no) (tidy_yes : (p : ℕ) → AreTidy (lists_at shown p).yes) where
    -- times at which p is settled false break the way from t to u, or p is true all along
    broken : (p : ℕ) → p < i → (t u : Rational) → ((v : Rational) → Within t u v → IsShown shown p v) → u ≤ʳ stop tr
        → ((v : Rational) → Within t u v → IsOn (lists_at shown p).yes v) ⊎ ((v : Rational) × Within t u v × IsOn (lists_at shown p).no v)
    broken p c t u near e = elim (covers (at_time t) (past_time u) (lists_at shown p).yes (tidy_yes p)) [
      | inl all ↦ inl (λ v w. all v w.above w.below)
      | inr (v, a, b, n) ↦ elim ((known p c).all v (near v (record { above = a; below = b })) (le_trans b e)) [
        | inl y ↦ absurd (n y)
        | inr y ↦ inr (v, record { above = a; below = b }, y)
      ]
    ]

    -- at a time of its window from which on the operands are shown, a since that does not hold has no right operand, or breaks off
    fails_at : (p q x : ℕ) (y : Option ℕ) → (c : (p < i) × (q < i)) → (t : Rational) → t ≤ʳ stop tr
        → ¬ (SinceHolds tr x y (IsOn (lists_at shown p).yes) (IsOn (lists_at shown q).yes) t)
        → (u : Rational) → OpenBehind (start tr) x y true true t u → ((v : Rational) → Within u t v → IsShown shown p v × IsShown shown q v)
        → IsOn (lists_at shown q).no u ⊎ ((v : Rational) × Within u t v × IsOn (lists_at shown p).no v)
    fails_at p q x y c t e n u d far =
        let ut = none_later u t x d.ends in
        let us = le_trans ut e in
        elim ((known q c.1).all u (far u (record { above = le_refl u; below = ut })).1 us) [
          | inr z ↦ inl z
          | inl z ↦ elim (broken p c.0 u t (λ v w. (far v w).0) e) [
            | inl all ↦ absurd (n (u, d, (d.after, inl us), z, all))
            | inr g ↦ inr g
          ]
        ]

    -- since, at times up to the last row
    since_fails_then : (p q x : ℕ) (y : Option ℕ) → (c : (p < i) × (q < i)) → (t : Rational) → t ≤ʳ stop tr → LooksAlong (start tr) p q x y shown t
        → ¬ (SinceHolds tr x y (IsOn (lists_at shown p).yes) (IsOn (lists_at shown q).yes) t)
        → SinceFails tr x y (IsOn (lists_at shown p).no) (IsOn (lists_at shown q).no) t
    since_fails_then p q x y c t e (inl k) n u d = fails_at p q x y c t e n u d (λ v w. k v (along (start tr) x y t u v d w.above w.below))
    since_fails_then p q x y c t e (inr (w, f, k, g)) n u d = elim (le_or_lt w u) [
      | inl l ↦ fails_at p q x y c t e n u d (λ v m. k v (record { above = le_trans l m.above; below = m.below }))
      | inr l ↦
          let wt = none_later w t x f.ends in
          elim g [
            | inr m ↦ inr (w, record { above = le_of_lt l; below = wt }, m)
            | inl m ↦ elim (broken p c.0 w t (λ v r. (k v r).0) e) [
              | inl all ↦ absurd (n (w, f, (f.after, inr wt), m.1, all))
              | inr (v, r, z) ↦ inr (v, record { above = le_trans (le_of_lt l) r.above; below = r.below }, z)
            ]
          ]
    ]

    since_final : (p q x : ℕ) (y : Option ℕ) → (c : (p < i) × (q < i))
        → ((t : Rational) → Lies own t → LooksAlong (start tr) p q x y shown t) → (o : Option Parts)
        → MatchOption o (Unit {0}) ArePartsTidy → MatchOption o (Unit {0}) (ReachesBack (start tr) y p shown own)
        → MatchOption o ⊥ (λ z. SinceHolding tr x y (lists_at shown p) (lists_at shown q) z.holding
        × SinceFailing tr x y (lists_at shown p) (lists_at shown q) z.failing × SayOfParts s z)
        → Final tr (Lies own) (lists_of s) (tree_of sub i (Since p q x y))
    since_final p q x y c a None ty r h = absurd h
    since_final p q x y c a (Some z) ty r (h, f, say) = record {
      yes = λ t o e.
          let g = say.yes.only t o in
          let (u, d, w, b, k) = (says t (in_yes t g.0) e).holds g.1 in
          let us = sure_in tr t u e w in
          (u, met_behind tr x y true true t u d us, (known q c.1).yes u b us, λ v j. (known p c.0).yes v (k v j) (le_trans j.below e));
      no = λ t o e (u, d, g, j).
          let m = say.no.only t o in
          elim ((says t (in_no t m.0) e).fails m.1 u (open_behind tr x y true true t u d)) [
            | inl b ↦ (known q c.1).no u b d.inside.below g
            | inr (v, n, b) ↦ (known p c.0).no v b (le_trans n.below e) (j v n)
          ];
      all = λ t l e. elim (decided_on s.yes.spans.items t) [
        | inl o ↦ inl o
        | inr n ↦ inr (say.no.has t (to_no t l) ((says t l e).failed
            (since_fails_then p q x y c t e (a t l) (λ m. n (say.yes.has t (to_yes t l) ((says t l e).held m))))))
      ];
    }
      where
        apart : (n : ℕ) → n < i → (w : Rational) → w ≤ʳ stop tr → IsOn (lists_at shown n).yes w → ¬ (IsOn (lists_at shown n).no w)
        apart n k w e m l = (known n k).no w l e ((known n k).yes w m e)

        says : (t : Rational) → Lies own t → t ≤ʳ stop tr → SaysSince tr x y (lists_at shown p) (lists_at shown q) z t
        says t l e =
            says_since z h f ty (tidy_at q) t (r.some t l) (r.never t l)
            (λ w m. apart p c.0 w (le_trans m e)) (λ w m. apart q c.1 w (le_trans m e))
            (reaches_along tr x q r t l (a t l))

    -- sets of a node that fit are so once the input has ended
    pub node_final : (n : Node) → HasChildrenBelow i n → HasBounds n → LooksAt n (start tr) shown own s.parts
        → Fits n true tr (lists_at shown) s → Final tr (Lies own) (lists_of s) (tree_of sub i n)
    node_final (Const b) c o a h = final (tree_of sub i (Const b)) h (λ t e x. x) (λ t e x y. both_ways b x y)
        (λ t l e. by_value b)
      where
        by_value : (b : Bool) → IsTrue b ⊎ IsFalse b
        by_value true = inl refl
        by_value false = inr refl
    node_final (Leaf x) c o a h =
        final (tree_of sub i (Leaf x)) h (λ t e y. y.1) (λ t e y z. both_ways (holds_at x tr t) y.1 z)
        (λ t l e. elim (by_value (holds_at x tr t)) [ inl y ↦ inl (e, y) | inr y ↦ inr (e, y) ])
      where
        by_value : (b : Bool) → IsTrue b ⊎ IsFalse b
        by_value true = inl refl
        by_value false = inr refl
    node_final (Not p) c o a h =
        let k = known p c in
        final (tree_of sub i (Not p)) h (λ t e x. k.no t x e) (λ t e x n. n (k.yes t x e))
        (λ t l e. elim (k.all t (a t l) e) [ inl y ↦ inr y | inr y ↦ inl y ])
    node_final (And p q) c o a h =
        let k = known p c.0 in
        let m = known q c.1 in
        final (tree_of sub i (And p q)) h
        (λ t e x. (k.yes t x.0 e, m.yes t x.1 e)) (λ t e x y. elim x [ inl z ↦ k.no t z e y.0 | inr z ↦ m.no t z e y.1 ])
        (λ t l e. elim (k.all t (a t l).0 e) [
          | inl y ↦ elim (m.all t (a t l).1 e) [ inl z ↦ inl (y, z) | inr z ↦ inr (inr z) ]
          | inr y ↦ inr (inl y)
        ])
    node_final (Or p q) c o a h =
        let k = known p c.0 in
        let m = known q c.1 in
        final (tree_of sub i (Or p q)) h
        (λ t e x. elim x [ inl z ↦ inl (k.yes t z e) | inr z ↦ inr (m.yes t z e) ])
        (λ t e x y. elim y [ inl z ↦ k.no t x.0 e z | inr z ↦ m.no t x.1 e z ])
        (λ t l e. elim (k.all t (a t l).0 e) [
          | inl y ↦ inl (inl y)
          | inr y ↦ elim (m.all t (a t l).1 e) [ inl z ↦ inl (inr z) | inr z ↦ inr (y, z) ]
        ])
    node_final (Implies p q) c o a h =
        let k = known p c.0 in
        let m = known q c.1 in
        final (tree_of sub i (Implies p q)) h
        (λ t e x y. elim x [ inl z ↦ absurd (k.no t z e y) | inr z ↦ m.yes t z e ])
        (λ t e x y. m.no t x.1 e (y (k.yes t x.0 e)))
        (λ t l e. elim (k.all t (a t l).0 e) [
          | inr y ↦ inl (inl y)
          | inl y ↦ elim (m.all t (a t l).1 e) [ inl z ↦ inl (inr z) | inr z ↦ inr (y, z) ]
        ])
    node_final (Until p q x y) c o a h =
        let k = known p c.0 in
        let m = known q c.1 in
        let b = until_fits tr own (lists_at shown p) (lists_at shown q) s is_yes is_no from tidy (tidy_at q) true x y o a.1 h in
        final (tree_of sub i (Until p q x y)) b
        (λ t e (u, d, r, g, z). let us = sure_in tr t u e r in
        (u, met tr x y true true t u d us, m.yes u g us, λ v j. k.yes v (z v j) (le_trans j.below us)))
        (λ t e z (u, d, g, j). elim (z u (open_ahead tr x y true true t u d) d.inside.below) [
          | inl i ↦ m.no u i d.inside.below g
          | inr (v, n, i) ↦ k.no v i (le_trans n.below d.inside.below) (j v n)
        ])
        (λ t l e. one_side b t l
        (λ n u d r. elim (m.all u (a.0 t u l (le_trans (later_from t x) d.begins) d.ends).1 r) [
          | inr z ↦ inl z
          | inl z ↦ elim (broken p c.0 t u (λ v w. (a.0 t v l w.above (le_trans w.below d.ends)).0) r) [
            | inl all ↦ absurd (n (u, d, (d.after, inl r), z, all))
            | inr g ↦ inr g
          ]
        ]))
    node_final (Eventually p x y x_in y_in) c o a h =
        let k = known p c in
        final (tree_of sub i (Eventually p x y x_in y_in)) h
        (λ t e (u, d, r, g). let us = sure_in tr t u e r in (u, met tr x y x_in y_in t u d us, k.yes u g us))
        (λ t e z (u, d, g). k.no u (z u (open_ahead tr x y x_in y_in t u d) d.inside.below) d.inside.below g)
        (λ t l e. one_side h t l
        (λ n u d r. elim (k.all u (a t u l d) r) [
          | inl z ↦ absurd (n (u, d, (d.after, inl r), z))
          | inr z ↦ z
        ]))
    node_final (Always p x y x_in y_in) c o a h =
        let k = known p c in
        final (tree_of sub i (Always p x y x_in y_in)) h
        (λ t e z u d. k.yes u (z u (open_ahead tr x y x_in y_in t u d) d.inside.below) d.inside.below)
        (λ t e (u, d, r, g) z. let us = sure_in tr t u e r in k.no u g us (z u (met tr x y x_in y_in t u d us)))
        (λ t l e. other_side h t l
        (λ n u d r. elim (k.all u (a t u l d) r) [
          | inl z ↦ z
          | inr z ↦ absurd (n (u, d, (d.after, inl r), z))
        ]))
    node_final (Since p q x y) c o a h = since_final p q x y c a.0 s.parts tidy.parts a.1 h
    node_final (Once p x y x_in y_in) c o a h =
        let k = known p c in
        final (tree_of sub i (Once p x y x_in y_in)) h
        (λ t e (u, d, r, g). let us = sure_in tr t u e r in (u, met_behind tr x y x_in y_in t u d us, k.yes u g us))
        (λ t e z (u, d, g). k.no u (z u (open_behind tr x y x_in y_in t u d)) d.inside.below g)
        (λ t l e. one_side h t l
        (λ n u d. let ut = none_later u t x (precedes_le x_in (later u x) t d.ends) in elim (a t u l d) [
          | inl i ↦ elim (k.all u i (le_trans ut e)) [
            | inl z ↦ absurd (n (u, d, (d.after, inr ut), z))
            | inr z ↦ z
          ]
          | inr (w, f, i, z) ↦
              absurd (n (w, f, (f.after, inr (none_later w t x (precedes_le x_in (later w x) t f.ends))), z))
        ]))
    node_final (Historically p x y x_in y_in) c o a h =
        let k = known p c in
        final (tree_of sub i (Historically p x y x_in y_in)) h
        (λ t e z u d. k.yes u (z u (open_behind tr x y x_in y_in t u d)) d.inside.below)
        (λ t e (u, d, r, g) z. let us = sure_in tr t u e r in k.no u g us (z u (met_behind tr x y x_in y_in t u d us)))
        (λ t l e. other_side h t l
        (λ n u d. let ut = none_later u t x (precedes_le x_in (later u x) t d.ends) in
        elim (a t u l d) [
          | inl i ↦ elim (k.all u i (le_trans ut e)) [
            | inl z ↦ z
            | inr z ↦ absurd (n (u, d, (d.after, inr ut), z))
          ]
          | inr (w, f, i, z) ↦
              absurd (n (w, f, (f.after, inr (none_later w t x (precedes_le x_in (later w x) t f.ends))), z))
        ]))
