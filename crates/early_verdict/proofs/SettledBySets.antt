-- Sets that fit tell what rows settle.
use Rattle.std.proofs.Common.{◌≡◌, ◌⊎◌, inl, inr, subst, ℕ, ◌≤◌, Bool, true, Option, Some, None, List}
use Rattle.std.specs.Prelude.{MatchOption}
use Rattle.rational.specs.Time.{Rational, ◌≤ʳ◌}
use Rattle.rational.proofs.Order.{le_trans}
use Rattle.stl_syntax.specs.Trace.{Trace, start}
use Rattle.stl_syntax.specs.Early.{OpenBehind}
use Rattle.growing_sets.specs.Spans.{Lies, IsOn, AreTidy}
use Rattle.early_verdict.specs.Readings.{UntilHolds, UntilFails, SinceHolds, SinceFails}
use Rattle.early_verdict.specs.Fitting.{Lists, lists_at, SayBoth, SayOfParts, AreSetsTidy, ArePartsTidy, UntilHolding, UntilFailing, SinceHolding, SinceFailing}
use Rattle.early_verdict.specs.Living.{LooksAlong, ReachesAhead, ReachesBack}
use Rattle.early_verdict.specs.declared.sets.Sets.{Sets}
use Rattle.early_verdict.specs.declared.sets.Parts.{Parts}
use Rattle.growing_sets.specs.declared.stretch.Stretch.{Stretch}
use Rattle.early_verdict.proofs.UntilSets.{until_is_true, until_is_false}
use Rattle.early_verdict.proofs.DecisiveSets.{decided_false, decided_true, false_decided, true_decided}
use Rattle.early_verdict.proofs.SinceSets.{along, before_end, end_past, never_broken, since_false_at, since_true_at, some_each}

-- until and since of the lists
module _ (tr : Trace) (own : Stretch) (p q : Lists) (s : Sets) (is_yes : s.yes.bounds ≡ own) (is_no : s.no.bounds ≡ own)
    (from : (t : Rational) → Lies own t → start tr ≤ʳ t) (tidy : AreSetsTidy s) (tidy_q : AreTidy q.no) where
  in_yes : (t : Rational) → Lies s.yes.bounds t → Lies own t
  in_yes t l = subst (λ x. Lies x t) is_yes l

  in_no : (t : Rational) → Lies s.no.bounds t → Lies own t
  in_no t l = subst (λ x. Lies x t) is_no l

  until_parts : (ended : Bool) (a b : ℕ) → a ≤ b → (o : Option Parts) → MatchOption o (Unit {0}) ArePartsTidy
      → MatchOption o (Unit {0}) (ReachesAhead (start tr) b own)
      → MatchOption o ⊥ (λ x. UntilHolding tr a b p q x.holding × UntilFailing ended tr a b p q x.failing × SayOfParts s x)
      → SayBoth s (UntilHolds tr a b (IsOn p.yes) (IsOn q.yes)) (UntilFails ended tr a b (IsOn p.no) (IsOn q.no))
  until_parts ended a b order None t k h = absurd h
  until_parts ended a b order (Some x) t k (h, f, y) = record {
    yes = until_is_true tr a b order p q x.holding h s.yes.bounds s.yes.spans.items (λ u l. from u (in_yes u l))
        (λ u l. k.some u (in_yes u l))
        (λ t u l g m. k.both t u (in_yes t l) g m)
        y.yes;
    no = until_is_false ended tr a b order p q x.failing f s.no.bounds s.no.spans.items tidy_q t.failing.fail
        (λ u l. from u (in_no u l))
        (λ u l. k.never u (in_no u l))
        (λ t u l g m. k.fail t u (in_no t l) g m)
        y.no;
  }

  -- sets of an until that fit tell what rows settle of it
  pub until_fits : (ended : Bool) (a b : ℕ) → a ≤ b → MatchOption s.parts (Unit {0}) (ReachesAhead (start tr) b own)
      → MatchOption s.parts ⊥ (λ x. UntilHolding tr a b p q x.holding × UntilFailing ended tr a b p q x.failing × SayOfParts s x)
      → SayBoth s (UntilHolds tr a b (IsOn p.yes) (IsOn q.yes)) (UntilFails ended tr a b (IsOn p.no) (IsOn q.no))
  until_fits ended a b order k h = until_parts ended a b order s.parts tidy.parts k h

-- how far the sets between of since reach at one time: as far as the window up to now; or from a time of it on that decides it
abbrev pub Reaches : Trace → ℕ → Option ℕ → Lists → Lists → Parts → Rational → Type 0
Reaches tr a b p q x t =
    ((u : Rational) → OpenBehind (start tr) 0 b true true t u
    → (Lies x.holding.both.bounds u × Lies x.holding.run.bounds u) × (Lies x.failing.fail.bounds u × Lies x.failing.stop.bounds u))
    ⊎ ((w : Rational) × OpenBehind (start tr) a b true true t w
    × ((v : Rational) → w ≤ʳ v → v ≤ʳ t
    → (Lies x.holding.both.bounds v × Lies x.holding.run.bounds v) × (Lies x.failing.fail.bounds v × Lies x.failing.stop.bounds v))
    × ((IsOn p.yes w × IsOn q.yes w) ⊎ IsOn p.no w))

-- what the sets between say of since at one time
pub record SaysSince (tr : Trace) (a : ℕ) (b : Option ℕ) (p q : Lists) (x : Parts) (t : Rational) : Type 0 where
  -- where its sets have the time since holds
  pub holds : IsOn x.holding.some.spans.items t × IsOn x.holding.each.spans.items t → SinceHolds tr a b (IsOn p.yes) (IsOn q.yes) t
  -- and where it holds they have it
  pub held : SinceHolds tr a b (IsOn p.yes) (IsOn q.yes) t → IsOn x.holding.some.spans.items t × IsOn x.holding.each.spans.items t
  -- where one of the failing sets has the time it fails
  pub fails : IsOn x.failing.never.spans.items t ⊎ IsOn x.failing.broken.spans.items t → SinceFails tr a b (IsOn p.no) (IsOn q.no) t
  -- and where it fails one has it
  pub failed : SinceFails tr a b (IsOn p.no) (IsOn q.no) t → IsOn x.failing.never.spans.items t ⊎ IsOn x.failing.broken.spans.items t

-- the sets between say of since at a time what it is there
pub says_since : {tr : Trace} {a : ℕ} {b : Option ℕ} {p q : Lists} (x : Parts) → SinceHolding tr a b p q x.holding → SinceFailing tr a b p q x.failing
    → ArePartsTidy x → AreTidy q.no → (t : Rational) → Lies x.holding.some.bounds t × Lies x.holding.each.bounds t
    → Lies x.failing.never.bounds t × Lies x.failing.broken.bounds t → ((w : Rational) → w ≤ʳ t → IsOn p.yes w → ¬ (IsOn p.no w))
    → ((w : Rational) → w ≤ʳ t → IsOn q.yes w → ¬ (IsOn q.no w)) → Reaches tr a b p q x t → SaysSince tr a b p q x t
says_since {tr} {a} {b} {p} {q} x h f tidy tidy_q t own_yes own_no apart_p apart_q (inl wide) = record {
  holds = since_true_at tr a b p q x.holding h t own_yes (λ u o. (wide u o).0);
  held = some_each tr a b p q x.holding h t own_yes (λ u o. (wide u o).0);
  fails = since_false_at tr a b p q x.failing f tidy_q tidy.failing.fail t own_no (λ u o. (wide u o).1);
  failed = never_broken tr a b p q x.failing f tidy_q tidy.failing.fail t own_no (λ u o. (wide u o).1);
}
says_since {tr} {a} {b} {p} {q} x h f tidy tidy_q t own_yes own_no apart_p apart_q (inr (w, o, wide, d)) =
    let wt = le_trans (before_end t w a o.ends) (end_past t a) in
    record {
      holds = λ k. decided_true tr a b p q t w o (apart_p w wt) (apart_q w wt) d x.holding h own_yes (λ v l m. (wide v l m).0) (h.each.only t k.1).1;
      held = true_decided tr a b p q t w o (apart_p w wt) (apart_q w wt) d x.holding h own_yes (λ v l m. (wide v l m).0);
      fails = decided_false tr a b p q t w o (apart_p w wt) (apart_q w wt) d x.failing f tidy_q tidy.failing.fail own_no (λ v l m. (wide v l m).1);
      failed = false_decided tr a b p q t w o (apart_p w wt) (apart_q w wt) d x.failing f tidy_q tidy.failing.fail own_no (λ v l m. (wide v l m).1);
    }

-- what the operands of since show, and how far its sets between reach
pub reaches_along : {own : Stretch} {b : Option ℕ} {l : ℕ} {shown : List Sets} {x : Parts} (tr : Trace) (a r : ℕ)
    → ReachesBack (start tr) b l shown own x → (t : Rational) → Lies own t → LooksAlong (start tr) l r a b shown t
    → Reaches tr a b (lists_at shown l) (lists_at shown r) x t
reaches_along tr a r k t i (inl s) = inl (λ u o. let m = (s u o).0 in (k.both t u i o m, k.fail t u i o m))
reaches_along {b = b} tr a r k t i (inr (w, o, s, d)) = inr (
  w,
  o,
  λ v m n.
      let j = along (start tr) a b t w v o m n in
      let g = (s v (record { above = m; below = n })).0 in
      (k.both t v i j g, k.fail t v i j g),
  d,
)
