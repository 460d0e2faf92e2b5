-- Verdicts over several rows, and those of each of them.
use Rattle.std.proofs.Common.{◌≡◌, ◌⊎◌, inl, inr, refl, sym, ap, subst, ◌∙◌, ℕ, zero, suc, ◌+◌, ◌<◌, Bool, true, false, not, ◌&&◌}
use Rattle.std.proofs.Common.{Option, Some, None, List, [], ◌∷◌, ◌++◌, length, take, drop, get_or, pos, arith, append_assoc}
use Rattle.std.proofs.lemmas.List.{append-nil}
use Rattle.rational.specs.Rational.{◌≈◌, whole}
use Rattle.rational.specs.Time.{HasTimeBetween, left_open}
use Rattle.rational.specs.Places.{Place, begins, ends, Before, Same}
use Rattle.rational.proofs.Mixed.{parts}
use Rattle.rational.proofs.PlaceLemmas.{place_order, room_of_before, same_places, same_trans_places, same_before, before_same, before_trans}
use Rattle.rational.proofs.PlaceLemmas.{not_before_itself, after_of_before, upto_of_before}
use Rattle.frac128.specs.Spans.{interval}
use Rattle.frac128.specs.Value.{value}
use Rattle.frac128.proofs.Wholes.{whole_frac}
use Rattle.stl_syntax.specs.Trace.{Row, Trace, row_time}
use Rattle.stl_syntax.specs.Formula.{Subformula}
use Rattle.stl_syntax.specs.Verdicts.{Describes}
use Rattle.stl_syntax.specs.declared.items.Verdict.{Verdict}
use Rattle.online_nodes.specs.Held.{AreStretches, as_given, joined}
use Rattle.online_nodes.specs.Written.{Lead}
use Rattle.online_nodes.proofs.Stretches.{stretches_behind, stretches_again}
use Rattle.online_nodes.proofs.ToldSoFar.{same_itself, lead_describes}
use Rattle.online_net.specs.Stretches.{after_time, AreOfRows}
use Rattle.online_net.proofs.AtomRuns.{later_order}

-- a tick is a fraction
tick_value : (k : ℕ) → value (whole_frac (pos k)) ≈ whole (pos k)
tick_value k = record { same = omega (arith, parts) }

-- just after it, by both names
abbrev tick_place : ℕ → Place
tick_place k = record { at = value (whole_frac (pos k)); after = true }

tick_same : (k : ℕ) → Same (tick_place k) (after_time k)
tick_same k = (tick_value k, refl)

-- the list begins with the row at a place
pub drop_next : (rows : List Row) (k : ℕ) (none : Row) → k < length rows → drop k rows ≡ get_or rows k none ∷ drop (suc k) rows
drop_next [] k none l = absurd (omega (arith, l))
drop_next (r ∷ rows) zero none l = refl
drop_next (r ∷ rows) (suc k) none l = drop_next rows k none (omega (arith, l))

abbrev no_row : Row
no_row = record { time = 0; values = [] }

-- what leads on leads on from the same place, whatever came before
module _ (n : Subformula) (tr : Trace) where
  lead_from : (c d e : Place) (before last : Option Bool) (vs : List Verdict) → Same d c → Lead n tr c before vs e last
      → (l : Option Bool) × Lead n tr d None vs e l
  lead_from c d e before last [] s (r, h) = (None, (same_trans_places s r, refl))
  lead_from c d e before last (v ∷ vs) s (r, b, f, k, rest) = (last, (same_trans_places s r, b, (λ x. (let y = x in cc)), k, rest))

  -- verdicts that lead beyond a tick lead up to it, and on from there; joined where they were cut they are what they were
  record AreCut (k : ℕ) (c : Place) (before : Option Bool) (vs : List Verdict) (d : Place) : Type 0 where
    some : List Verdict
    left : List Verdict
    last : Option Bool
    end : Option Bool
    first : Lead n tr c before some (after_time k) last
    rest : Lead n tr (after_time k) None left d end
    parts_of : AreStretches vs (some ++ left)

  cut : (k : ℕ) (c : Place) (before : Option Bool) (vs : List Verdict) (d : Place) (last : Option Bool) → Lead n tr c before vs d last
      → Before c (after_time k) → Before (after_time k) d → AreCut k c before vs d
  cut k c before [] d last (s, h) low high =
      absurd (not_before_itself c (before_trans c (after_time k) c low (before_same (after_time k) d c high (same_places s))))
  cut k c before (v ∷ vs) d last (s, b, f, t, rest) low high =
      by_order (cut k (ends (interval v.on)) (Some v.holds) vs d last rest) (place_order (after_time k) (ends (interval v.on)))
    where
      from_to : Before (begins (interval v.on)) (tick_place k) → Verdict
      from_to l = record {
        on = record {
          from = v.on.from;
          from_in = v.on.from_in;
          to = whole_frac (pos k);
          to_in = true;
          not_empty = room v.on.from_in (room_of_before (begins (interval v.on)) (tick_place k) l);
        };
        holds = v.holds;
      }
        where
          room : (i : Bool) → HasTimeBetween (value v.on.from) (value (whole_frac (pos k))) (not (not i) && true)
              → HasTimeBetween (value v.on.from) (value (whole_frac (pos k))) (i && true)
          room true h = h
          room false h = h

      on_from : Before (tick_place k) (ends (interval v.on)) → Verdict
      on_from h = record {
        on = record {
          from = whole_frac (pos k);
          from_in = false;
          to = v.on.to;
          to_in = v.on.to_in;
          not_empty = room_of_before (tick_place k) (ends (interval v.on)) h;
        };
        holds = v.holds;
      }

      begun : Before (begins (interval v.on)) (tick_place k)
      begun = before_same (begins (interval v.on)) (after_time k) (tick_place k) (same_before (begins (interval v.on)) c (after_time k) (same_places s) low)
          (same_places (tick_same k))

      by_order : (Before (ends (interval v.on)) (after_time k) → Before (after_time k) d → AreCut k (ends (interval v.on)) (Some v.holds) vs d)
          → Before (after_time k) (ends (interval v.on)) ⊎ Same (after_time k) (ends (interval v.on)) ⊎ Before (ends (interval v.on)) (after_time k)
          → AreCut k c before (v ∷ vs) d
      by_order more (inl h) = two (same_before (tick_place k) (after_time k) (ends (interval v.on)) (tick_same k) h)
        where
          two : Before (tick_place k) (ends (interval v.on)) → AreCut k c before (v ∷ vs) d
          two e = record {
            some = from_to begun ∷ [];
            left = on_from e ∷ vs;
            last = Some v.holds;
            end = last;
            first = (
              s,
              begun,
              f,
              (λ u low high. t u low (upto_of_before (tick_place k) (ends (interval v.on)) u e high)),
              (tick_same k, refl),
            );
            rest = (
              same_places (tick_same k),
              e,
              (λ x. (let y = x in cc)),
              (λ u low high. t u (after_of_before (begins (interval v.on)) (tick_place k) u begun low) high),
              rest,
            );
            parts_of = joined [] vs (record {
              goes_on = record { touch = same_itself (tick_place k); alike = refl };
              begin = refl;
              end = refl;
              holds = refl;
            }) as_given;
          }
      by_order more (inr (inl h)) =
          let on = lead_from (ends (interval v.on)) (after_time k) d (Some v.holds) last vs h rest in
          record {
            some = v ∷ [];
            left = vs;
            last = Some v.holds;
            end = on.0;
            first = (s, b, f, t, (same_places h, refl));
            rest = on.1;
            parts_of = as_given;
          }
      by_order more (inr (inr h)) =
          let on = more h high in
          record {
            some = v ∷ on.some;
            left = on.left;
            last = on.last;
            end = on.end;
            first = (s, b, f, t, on.first);
            rest = on.rest;
            parts_of = stretches_behind (v ∷ []) on.parts_of;
          }

  module _ (rows : List Row) (rising : (k : ℕ) → suc k < length rows → (get_or rows k no_row).time < (get_or rows (suc k) no_row).time) where
    abbrev row_at : ℕ → Row
    row_at k = get_or rows k no_row

    later : (m k : ℕ) → k + suc m < length rows → (row_at k).time < (row_at (k + suc m)).time
    later zero k l = subst (λ j. (row_at k).time < (row_at j).time) (let e : suc k ≡ k + 1 = omega arith in e) (rising k (omega (arith, l)))
    later (suc m) k l =
        let a = rising k (omega (arith, l)) in
        let e : suc k + suc m ≡ k + suc (suc m) = omega arith in
        let b = subst (λ j. (row_at (suc k)).time < (row_at j).time) e (later m (suc k) (omega (arith, l))) in
        omega (arith, a, b)

    -- verdicts that lead over some rows are those of the rows one after another, maybe joined
    pub of_rows : (m k : ℕ) → k + suc m < length rows → (vs : List Verdict) (last : Option Bool)
        → Lead n tr (after_time (row_at k).time) None vs (after_time (row_at (k + suc m)).time) last
        → (each : List Verdict) × AreOfRows n tr (row_at k) (take (suc m) (drop (suc k) rows)) each × AreStretches vs each
    of_rows zero k l vs last lead =
        let e : k + 1 ≡ suc k = omega arith in
        let some = later_order (row_at k).time (row_at (suc k)).time (rising k (omega (arith, l))) in (
          vs,
          subst (λ rs. AreOfRows n tr (row_at k) (take 1 rs) vs) (sym (drop_next rows (suc k) no_row (omega (arith, l)))) (
            vs,
            [],
            lead_describes n tr (left_open (row_time (row_at k)) (row_time (row_at (suc k)))) vs last some
                (subst (λ j. Lead n tr (after_time (row_at k).time) None vs (after_time (row_at j).time) last) e lead),
            refl,
            sym (append-nil vs),
          ),
          as_given,
        )
    of_rows (suc m) k l vs last lead =
        let e : suc k + suc m ≡ k + suc (suc m) = omega arith in
        let some = later_order (row_at k).time (row_at (suc k)).time (rising k (omega (arith, l))) in
        let more = subst (λ j. Before (after_time (row_at (suc k)).time) (after_time (row_at j).time)) e
        (later_order (row_at (suc k)).time (row_at (suc k + suc m)).time (later m (suc k) (omega (arith, l)))) in
        let x = cut (row_at (suc k)).time (after_time (row_at k).time) None vs (after_time (row_at (k + suc (suc m))).time) last lead some more in
        let on = of_rows m (suc k) (omega (arith, l)) x.left x.end
        (subst (λ j. Lead n tr (after_time (row_at (suc k)).time) None x.left (after_time (row_at j).time) x.end) (sym e) x.rest) in (
          x.some ++ on.0,
          subst (λ rs. AreOfRows n tr (row_at k) (take (suc (suc m)) rs) (x.some ++ on.0)) (sym (drop_next rows (suc k) no_row (omega (arith, l)))) (
            x.some,
            on.0,
            lead_describes n tr (left_open (row_time (row_at k)) (row_time (row_at (suc k)))) x.some x.last some x.first,
            on.1,
            refl,
          ),
          stretches_again x.parts_of (stretches_behind x.some on.2),
        )

    -- the verdicts of one row more
    pub row_more : (m k : ℕ) → k + suc m < length rows → (vs here : List Verdict) → AreOfRows n tr (row_at k) (take m (drop (suc k) rows)) vs
        → Describes here n tr (left_open (row_time (row_at (k + m))) (row_time (row_at (k + suc m))))
        → AreOfRows n tr (row_at k) (take (suc m) (drop (suc k) rows)) (vs ++ here)
    row_more zero k l vs here none is =
        let e : k + 0 ≡ k = omega arith in
        let f : k + 1 ≡ suc k = omega arith in
        subst (λ rs. AreOfRows n tr (row_at k) (take 1 rs) (vs ++ here)) (sym (drop_next rows (suc k) no_row (omega (arith, l)))) (
          here,
          [],
          subst (λ j. Describes here n tr (left_open (row_time (row_at k)) (row_time (row_at j)))) f
              (subst (λ j. Describes here n tr (left_open (row_time (row_at j)) (row_time (row_at (k + 1))))) e is),
          refl,
          ap (λ l. l ++ here) none ∙ sym (append-nil here),
        )
    row_more (suc m) k l vs here have is =
        let next : drop (suc k) rows ≡ row_at (suc k) ∷ drop (suc (suc k)) rows = drop_next rows (suc k) no_row (omega (arith, l)) in
        let h = subst (λ rs. AreOfRows n tr (row_at k) (take (suc m) rs) vs) next have in
        let e : k + suc m ≡ suc k + m = omega arith in
        let f : k + suc (suc m) ≡ suc k + suc m = omega arith in
        subst (λ rs. AreOfRows n tr (row_at k) (take (suc (suc m)) rs) (vs ++ here)) (sym next) (
          h.0,
          h.1 ++ here,
          h.2,
          row_more m (suc k) (omega (arith, l)) h.1 here h.3
              (subst (λ j. Describes here n tr (left_open (row_time (row_at j)) (row_time (row_at (suc k + suc m))))) e
              (subst (λ j. Describes here n tr (left_open (row_time (row_at (k + suc m))) (row_time (row_at j)))) f is)),
          ap (λ l. l ++ here) h.4 ∙ append_assoc h.0 h.1 here,
        )
