-- What a row adds to the two sets of an atom, piece by piece.
use Rattle.std.proofs.Common.{◌≡◌, ◌⊎◌, inl, inr, refl, sym, subst, ◌∙◌, ◌<◌, arith, Bool, true, false, Option, Some, None, List, []}
use Rattle.std.specs.Prelude.{MatchOption, IfSome}
use Rattle.rational.specs.Time.{Rational, ◌≤ʳ◌, ◌<ʳ◌, ◌≈◌}
use Rattle.rational.proofs.Order.{le_trans, le_of_lt, le_or_lt, lt_or_same_or_gt, le_of_same, ge_of_same, same_of_le, not_lt_of_le}
use Rattle.stl_syntax.specs.Trace.{Row, Trace, row_time, start, stop}
use Rattle.stl_syntax.specs.Truth.{holds_at}
use Rattle.stl_syntax.specs.declared.atom.Atom.{Atom}
use Rattle.atom_lines.specs.Binding.{AreNeighbours}
use Rattle.rational.specs.Places.{Place, Same}
use Rattle.growing_sets.specs.Spans.{Lies, IsOn, Grows}
use Rattle.growing_sets.specs.Steps.{Tells, Gains}
use Rattle.growing_sets.specs.Growing.{Adds}
use Rattle.growing_sets.specs.Showing.{TakesIn}
use Rattle.early_verdict.specs.Adding.{HasAdded, HasGrown, HasRested, Piece, Rests, AfterRow, IsNextRow, before_row, after_row}
use Rattle.early_verdict.specs.Fitting.{AtomFits, AreSetsTidy, HasStepped, Says}
use Rattle.early_verdict.specs.Happening.{Was}
use Rattle.early_verdict.specs.Living.{HasShown}
use Rattle.growing_sets.specs.declared.stretch.Stretch.{Stretch}
use Rattle.growing_sets.specs.declared.grown.Grown.{Grown}
use Rattle.early_verdict.specs.declared.sets.Sets.{Sets}
use Rattle.rational.proofs.PlaceLemmas.{upto_same, after_same, same_places}
use Rattle.growing_sets.proofs.AddLemmas.{adds_alike, adds_none, adds_some, adds_then, gains_of, grows_after}
use Rattle.early_verdict.proofs.SetsTell.{Told, parts_kept, told_both}

-- one thing is added after another
pub added_then : {a b c : Sets} {P Q : Bool → Rational → Type 0} → HasAdded a b P → HasAdded b c Q → HasAdded a c (λ v t. P v t ⊎ Q v t)
added_then f g = record { tidy = g.tidy; parts = g.parts ∙ f.parts; yes = adds_then f.yes g.yes; no = adds_then f.no g.no }

-- other words for the same times add the same
pub added_alike : {a b : Sets} {P Q : Bool → Rational → Type 0} → HasAdded a b P → ((v : Bool) (t : Rational) → P v t → Q v t)
    → ((v : Bool) (t : Rational) → Q v t → P v t) → HasAdded a b Q
added_alike h f g = record {
  tidy = h.tidy;
  parts = h.parts;
  yes = adds_alike h.yes (λ t l. f true t) (λ t l. g true t);
  no = adds_alike h.no (λ t l. f false t) (λ t l. g false t);
}

-- what was added made both sets grow
pub grown_of : {a b : Sets} {Q : Bool → Rational → Type 0} → HasAdded a b Q → HasGrown a b
grown_of h = record { tidy = h.tidy; parts = h.parts; yes = adds_some h.yes; no = adds_some h.no }

-- two growths, one after the other, are one
pub grown_then : {a b c : Sets} → HasGrown a b → HasGrown b c → HasGrown a c
grown_then f g = record { tidy = g.tidy; parts = g.parts ∙ f.parts; yes = adds_some (adds_then f.yes g.yes); no = adds_some (adds_then f.no g.no) }

-- nothing was added
pub grown_none : (a : Sets) → AreSetsTidy a → HasGrown a a
grown_none a tidy = record {
  tidy = tidy;
  parts = refl;
  yes = adds_some (adds_none (λ t. ⊥) tidy.yes (λ t l h. h));
  no = adds_some (adds_none (λ t. ⊥) tidy.no (λ t l h. h));
}

-- after a rest, gap and row are new
pub atom_stepped : (old mid new : Sets) → HasRested old mid → HasGrown mid new → HasStepped old new
atom_stepped old mid new r g = record {
  tidy = g.tidy;
  yes = g.yes.bounds ∙ r.yes.bounds;
  no = g.no.bounds ∙ r.no.bounds;
  parts = parts_kept old.parts new.parts (g.parts ∙ r.parts);
  gains_yes = subst (λ xs. Gains xs new.yes.spans.items new.yes.fresh.items) r.yes.spans (gains_of r.yes.fresh g.yes);
  gains_no = subst (λ xs. Gains xs new.no.spans.items new.no.fresh.items) r.no.spans (gains_of r.no.fresh g.no);
}

shown_side : {old mid new : Grown} → Rests old mid → Adds mid new (IsOn new.spans.items) → Gains old.spans.items new.spans.items new.fresh.items
    → TakesIn old.bounds old.spans.items new.spans.items new.fresh.items
shown_side r g gains = record {
  has = λ t l o. gains.own t o;
  only = λ t o. elim (gains.gained t o) [
    | inl z ↦ inl z
    | inr z ↦ elim (g.grows.only t o) [
      | inl y ↦ inl (subst (λ xs. IsOn xs t) r.spans y)
      | inr y ↦ inr (subst (λ b. Lies b t) r.bounds y.0, z)
    ]
  ];
}

-- and they are shown
pub atom_shown : (old mid new : Sets) → HasRested old mid → HasGrown mid new → HasShown old new new
atom_shown old mid new r g = let s = atom_stepped old mid new r g in record {
  tidy = s.tidy;
  yes = s.yes;
  no = s.no;
  gains_yes = s.gains_yes;
  gains_no = s.gains_no;
  takes_yes = shown_side r.yes g.yes s.gains_yes;
  takes_no = shown_side r.no g.no s.gains_no;
}

-- the truth of an atom up to the row
module _ (a : Atom) (tr : Trace) (before : Option Row) (r : Row) (holds : Bool) (from to : Place)
    (starts : Same from (before_row r)) (ends : Same to (after_row r))
    (is : (t : Rational) → t ≈ row_time r → holds_at a tr t ≡ holds) where
  -- what is new at times with the truth v
  abbrev New : Bool → Rational → Type 0
  New v t = AfterRow a tr before r v t ⊎ Piece holds from to v t

  at_row : (v : Bool) (t : Rational) → Piece holds from to v t → (t ≈ row_time r) × (holds_at a tr t ≡ v)
  at_row v t h =
      let s : t ≈ row_time r = same_of_le (upto_same to (after_row r) t ends h.2) (after_same from (before_row r) t starts h.1) in
      (s, is t s ∙ h.0)

  row_piece : (v : Bool) (t : Rational) → t ≈ row_time r → holds_at a tr t ≡ v → Piece holds from to v t
  row_piece v t s e = (
    sym (is t s) ∙ e,
    after_same (before_row r) from t (same_places starts) (ge_of_same s),
    upto_same (after_row r) to t (same_places ends) (le_of_same s),
  )

  -- one of the two sets
  one_fits : (old : Option Trace) (v : Bool) (bounds : Stretch) (was now told fresh : List Stretch) → IsNextRow a old tr before r
      → ((t : Rational) → Lies bounds t → start tr ≤ʳ t)
      → MatchOption old (was ≡ []) (λ o. Tells bounds was (λ t. (t ≤ʳ stop o) × (holds_at a o t ≡ v)))
      → Grows bounds was now told fresh (New v) → Tells bounds now (λ t. (t ≤ʳ stop tr) × (holds_at a tr t ≡ v))
  one_fits None v bounds was now told fresh next from e g = record {
    has = λ t b h. g.adds t b (inr (row_piece v t (same_of_le (to_row t h.0) (subst (λ x. x ≤ʳ t) next.first.1 (from t b))) h.1));
    only = λ t n. elim (g.only t n) [
      | inl o ↦ absurd (subst (λ xs. IsOn xs t) e o)
      | inr k ↦ (k.0, new_is t k.1)
    ];
  }
    where
      to_row : (t : Rational) → t ≤ʳ stop tr → t ≤ʳ row_time r
      to_row t h = subst (λ x. t ≤ʳ x) next.stops h

      new_is : (t : Rational) → New v t → (t ≤ʳ stop tr) × (holds_at a tr t ≡ v)
      new_is t (inl h) = absurd (subst (λ o. AfterRow a tr o r v t) next.first.0 h)
      new_is t (inr h) = let k = at_row v t h in (subst (λ x. t ≤ʳ x) (sym next.stops) (le_of_same k.0), k.1)
  one_fits (Some o) v bounds was now told fresh next from w g = by_last next.first
    where
      by_last : ((q : Row) × (before ≡ Some q) × (stop o ≡ row_time q) × (q.time < r.time) × AreNeighbours tr q r
          × ((t : Rational) → start tr ≤ʳ t → t ≤ʳ stop o → holds_at a tr t ≡ holds_at a o t))
          → Tells bounds now (λ t. (t ≤ʳ stop tr) × (holds_at a tr t ≡ v))
      by_last (q, e, ends_at, rise, near, same) = record {
        has = λ t b h. by_time t b h (le_or_lt t (stop o)) (lt_or_same_or_gt t (row_time r));
        only = λ t n. elim (g.only t n) [
          | inl m ↦ let k = w.only t m in (k.0, (le_trans k.1.0 sooner, same t (from t k.0) k.1.0 ∙ k.1.1))
          | inr k ↦ (k.0, new_is t k.1)
        ];
      }
        where
          sooner : stop o ≤ʳ stop tr
          sooner = subst (λ x. x ≤ʳ stop tr) (sym ends_at) (subst (λ x. row_time q ≤ʳ x) (sym next.stops) (record { le = omega (arith, rise) }))

          new_is : (t : Rational) → New v t → (t ≤ʳ stop tr) × (holds_at a tr t ≡ v)
          new_is t (inl h) = let k = subst (λ x. AfterRow a tr x r v t) e h in (subst (λ x. t ≤ʳ x) (sym next.stops) (le_of_lt k.1), k.2)
          new_is t (inr h) = let k = at_row v t h in (subst (λ x. t ≤ʳ x) (sym next.stops) (le_of_same k.0), k.1)

          by_time : (t : Rational) → Lies bounds t → (t ≤ʳ stop tr) × (holds_at a tr t ≡ v) → (t ≤ʳ stop o) ⊎ (stop o <ʳ t)
              → (t <ʳ row_time r) ⊎ (t ≈ row_time r) ⊎ (row_time r <ʳ t) → IsOn now t
          by_time t b h (inl l) x = g.keeps t (w.has t b (l, sym (same t (from t b) l) ∙ h.1))
          by_time t b h (inr l) (inl m) =
              g.adds t b (inl (subst (λ x. AfterRow a tr x r v t) (sym e) (subst (λ x. x <ʳ t) ends_at l, m, h.1)))
          by_time t b h (inr l) (inr (inl s)) = g.adds t b (inr (row_piece v t s h.1))
          by_time t b h (inr l) (inr (inr m)) = absurd (not_lt_of_le (subst (λ x. t ≤ʳ x) next.stops h.0) m)

  -- of one of the two sets, once it was at rest and the times of the truth v were added to it
  side_fits : (old : Option Trace) (v : Bool) (was mid now : Grown) → IsNextRow a old tr before r → ((t : Rational) → Lies was.bounds t → start tr ≤ʳ t)
      → Told old was (λ o t. (t ≤ʳ stop o) × (holds_at a o t ≡ v)) → Rests was mid → Adds mid now (New v)
      → Says now (λ t. (t ≤ʳ stop tr) × (holds_at a tr t ≡ v))
  side_fits old v was mid now next from told rest g =
      subst (λ b. Tells b now.spans.items (λ t. (t ≤ʳ stop tr) × (holds_at a tr t ≡ v))) (sym (g.bounds ∙ rest.bounds))
      (one_fits old v was.bounds was.spans.items now.spans.items mid.fresh.items now.fresh.items next from (so old told)
      (subst (λ xs. Grows was.bounds xs now.spans.items mid.fresh.items now.fresh.items (New v)) rest.spans (grows_after rest.bounds g)))
    where
      so : (old : Option Trace) → Told old was (λ o t. (t ≤ʳ stop o) × (holds_at a o t ≡ v))
          → MatchOption old (was.spans.items ≡ []) (λ o. Tells was.bounds was.spans.items (λ t. (t ≤ʳ stop o) × (holds_at a o t ≡ v)))
      so None w = w
      so (Some o) w = w

  -- after a row an atom's sets have its truth up to the row
  pub atom_fits : (old : Option Trace) (was mid new : Sets) → IsNextRow a old tr before r
      → ((t : Rational) → Lies was.yes.bounds t ⊎ Lies was.no.bounds t → start tr ≤ʳ t) → Was old (λ o. AtomFits a o) was
      → HasRested was mid → HasAdded mid new (λ v t. AfterRow a tr before r v t ⊎ Piece holds from to v t) → AtomFits a tr new
  atom_fits old was mid new next from w rest g =
      let told = told_both old was (λ o t. (t ≤ʳ stop o) × (holds_at a o t ≡ true)) (λ o t. (t ≤ʳ stop o) × (holds_at a o t ≡ false)) w in
      record {
        yes = side_fits old true was.yes mid.yes new.yes next (λ t l. from t (inl l)) told.0 rest.yes g.yes;
        no = side_fits old false was.no mid.no new.no next (λ t l. from t (inr l)) told.1 rest.no g.no;
      }

-- where the rows stand side by side
pub near_of : (a : Atom) (old : Option Trace) (tr : Trace) (before : Option Row) (r : Row) → IsNextRow a old tr before r
    → IfSome before (λ q. AreNeighbours tr q r)
near_of a old tr before r h = by_old old h.first
  where
    by_old : (old : Option Trace) → MatchOption old ((before ≡ None) × (start tr ≡ row_time r))
        (λ o. (q : Row) × (before ≡ Some q) × (stop o ≡ row_time q) × (q.time < r.time) × AreNeighbours tr q r
        × ((t : Rational) → start tr ≤ʳ t → t ≤ʳ stop o → holds_at a tr t ≡ holds_at a o t)) → IfSome before (λ q. AreNeighbours tr q r)
    by_old None h = subst (λ b. IfSome b (λ q. AreNeighbours tr q r)) (sym h.0) tt
    by_old (Some o) h = subst (λ b. IfSome b (λ q. AreNeighbours tr q r)) (sym h.1) h.4
