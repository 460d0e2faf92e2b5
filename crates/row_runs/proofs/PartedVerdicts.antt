-- Verdicts that tell the truth without gap: in as few spans as may be, and parted at a tick.
use Rattle.std.proofs.Common.{◌≡◌, ◌⊎◌, inl, inr, refl, sym, subst, ◌∙◌, ℕ, Bool, true, false, not, ◌&&◌, List, [], ◌∷◌, pos, arith}
use Rattle.std.specs.Prelude.{◌≢◌, MatchBool}
use Rattle.rational.specs.Time.{◌≈◌, whole, HasTimeBetween}
use Rattle.rational.specs.Places.{Place, begins, ends, Before, Same}
use Rattle.rational.proofs.Mixed.{parts}
use Rattle.rational.proofs.PlaceLemmas.{sides, place_order, same_before, before_trans, same_places, after_same, room_of_before, not_before_itself}
use Rattle.frac128.specs.Spans.{interval}
use Rattle.frac128.specs.Value.{value}
use Rattle.frac128.proofs.Wholes.{whole_frac}
use Rattle.stl_syntax.specs.Formula.{Subformula}
use Rattle.stl_syntax.specs.Trace.{Trace}
use Rattle.stl_syntax.specs.Truth.{Truth}
use Rattle.stl_syntax.specs.Verdicts.{IsTold}
use Rattle.stl_syntax.specs.declared.items.Verdict.{Verdict}
use Rattle.online_nodes.specs.Laws.{AreTiles, AreTold}
use Rattle.online_nodes.proofs.HeldLaw.{is_in}
use Rattle.online_nodes.proofs.ToldSoFar.{same_itself, some_in, in_after, in_upto}
use Rattle.verdict_stream.specs.Pendings.{just_after, AreUpTo, none_left, all_later, one_whole, one_cut}
use Rattle.verdict_stream.proofs.CutVerdicts.{not_before, room_before, room_after, Leads, parts_of}

-- a tick is a fraction
tick_value : (n : ℕ) → value (whole_frac (pos n)) ≈ whole (pos n)
tick_value n = record { same = omega (arith, parts) }

-- a place that is another, or comes after it, does not come before it
not_earlier : (c d : Place) → Same c d ⊎ Before d c → ¬ Before c d
not_earlier c d (inl s) b = not_before s b
not_earlier c d (inr a) b = not_before_itself c (before_trans c d c b a)

-- some of the verdicts lie up to a tick
up_to : (n : ℕ) (vs : List Verdict) → (some left : List Verdict) × AreUpTo n vs some left
up_to n [] = ([], [], none_left)
up_to n (v ∷ vs) = by_order (up_to n vs) (place_order (begins (interval v.on)) (just_after n)) (place_order (just_after n) (ends (interval v.on)))
  where
    before : Before (begins (interval v.on)) (just_after n) → Verdict
    before b = record {
      on = record {
        from = v.on.from;
        from_in = v.on.from_in;
        to = whole_frac (pos n);
        to_in = true;
        not_empty = room_before n v (whole_frac (pos n)) (tick_value n) b;
      };
      holds = v.holds;
    }

    after : Before (just_after n) (ends (interval v.on)) → Verdict
    after e = record {
      on = record {
        from = whole_frac (pos n);
        from_in = false;
        to = v.on.to;
        to_in = v.on.to_in;
        not_empty = room_after n v (whole_frac (pos n)) (tick_value n) e _;
      };
      holds = v.holds;
    }

    by_order : (some left : List Verdict) × AreUpTo n vs some left
        → Before (begins (interval v.on)) (just_after n) ⊎ Same (begins (interval v.on)) (just_after n) ⊎ Before (just_after n) (begins (interval v.on))
        → Before (just_after n) (ends (interval v.on)) ⊎ Same (just_after n) (ends (interval v.on)) ⊎ Before (ends (interval v.on)) (just_after n)
        → (some left : List Verdict) × AreUpTo n (v ∷ vs) some left
    by_order (some, left, more) (inl b) (inl e) = (
      before b ∷ [],
      after e ∷ vs,
      one_cut v (before b) (after e) vs b e
          (record { begin = same_itself (begins (interval v.on)); end = (tick_value n, refl); holds = refl })
          (record { begin = same_places (tick_value n, refl); end = same_itself (ends (interval v.on)); holds = refl }),
    )
    by_order (some, left, more) (inl b) (inr o) = (v ∷ some, left, one_whole v (not_earlier (just_after n) (ends (interval v.on)) o) more)
    by_order (some, left, more) (inr o) e = ([], v ∷ vs, all_later v vs (not_earlier (begins (interval v.on)) (just_after n) o))

module _ (p : Subformula) (tr : Trace) where
  -- verdicts that lead from one place to another lead to a tick between, and on from it
  pub parted_at : (n : ℕ) (c d : Place) (vs : List Verdict) → Leads p tr c vs d → Before c (just_after n) ⊎ Same c (just_after n)
      → Before (just_after n) d ⊎ Same (just_after n) d → (some left : List Verdict) × Leads p tr c some (just_after n) × Leads p tr (just_after n) left d
  parted_at n c d vs leads low high =
      let (some, left, up) = up_to n vs in
      let x = parts_of p tr c d up leads low high in
      (some, left, x.first, x.rest)

  -- where one verdict ends and the next begins, the one begins before the other ends
  spans : (v w : Verdict) → Same (ends (interval v.on)) (begins (interval w.on)) → Before (begins (interval v.on)) (ends (interval v.on))
      → Before (begins (interval w.on)) (ends (interval w.on)) → Before (begins (interval v.on)) (ends (interval w.on))
  spans v w s b e =
      before_trans (begins (interval v.on)) (ends (interval v.on)) (ends (interval w.on)) b
      (same_before (ends (interval v.on)) (begins (interval w.on)) (ends (interval w.on)) s e)

  -- both as one, with the truth of the next
  one_of : (v w : Verdict) → Before (begins (interval v.on)) (ends (interval w.on)) → Verdict
  one_of v w b = record {
    on = record {
      from = v.on.from;
      from_in = v.on.from_in;
      to = w.on.to;
      to_in = w.on.to_in;
      not_empty = room v.on.from_in (room_of_before (begins (interval v.on)) (ends (interval w.on)) b);
    };
    holds = w.holds;
  }
    where
      room : (i : Bool) → HasTimeBetween (value v.on.from) (value w.on.to) (not (not i) && w.on.to_in)
          → HasTimeBetween (value v.on.from) (value w.on.to) (i && w.on.to_in)
      room true h = h
      room false h = h

  -- which tells it, where both do
  one_told : (v w : Verdict) (s : Same (ends (interval v.on)) (begins (interval w.on))) (b : Before (begins (interval v.on)) (ends (interval w.on)))
      → v.holds ≡ w.holds → IsTold p tr v → IsTold p tr w → IsTold p tr (one_of v w b)
  unfolding one_of
  one_told v w s b e told other = record {
    not_empty = some_in (interval (one_of v w b).on) b;
    truth = λ t h. elim (sides (ends (interval v.on)) t) [
      | inl u ↦
          subst (λ x. MatchBool x (Truth p tr t) (¬ Truth p tr t)) e
          (told.truth t (is_in (interval v.on) t (in_after (interval (one_of v w b).on) t h) u))
      | inr a ↦
          other.truth t (is_in (interval w.on) t (after_same (ends (interval v.on)) (begins (interval w.on)) t s a)
          (in_upto (interval (one_of v w b).on) t h))
    ];
  }

  -- verdicts that tell the truth without gap do so in as few spans as may be
  pub fewest : (c : Place) (vs : List Verdict) (d : Place) → AreTiles c vs d → AreTold p tr vs → (ws : List Verdict) × Leads p tr c ws d
  unfolding one_of
  fewest c [] d s told = ([], record { tiles = s; told = tt; turning = tt })
  fewest c (v ∷ vs) d (s, b, rest) (told, more) = by_next (fewest (ends (interval v.on)) vs d rest more)
    where
      by_next : (ws : List Verdict) × Leads p tr (ends (interval v.on)) ws d → (ws : List Verdict) × Leads p tr c ws d
      by_next ([], l) = (v ∷ [], record { tiles = (s, b, l.tiles); told = (told, tt); turning = tt })
      by_next (w ∷ ws, l) = by_truth v.holds w.holds refl refl
        where
          on : Before (begins (interval v.on)) (ends (interval w.on))
          on = spans v w l.tiles.0 b l.tiles.1

          goes_on : v.holds ≡ w.holds → (ws : List Verdict) × Leads p tr c ws d
          goes_on e = (
            one_of v w on ∷ ws,
            record { tiles = (s, on, l.tiles.2); told = (one_told v w l.tiles.0 on e told l.told.0, l.told.1); turning = l.turning },
          )

          turns : v.holds ≢ w.holds → (ws : List Verdict) × Leads p tr c ws d
          turns e = (v ∷ w ∷ ws, record { tiles = (s, b, l.tiles); told = (told, l.told); turning = (e, l.turning) })

          by_truth : (x y : Bool) → v.holds ≡ x → w.holds ≡ y → (ws : List Verdict) × Leads p tr c ws d
          by_truth true true e f = goes_on (e ∙ sym f)
          by_truth false false e f = goes_on (e ∙ sym f)
          by_truth true false e f = turns (λ g. cc)
          by_truth false true e f = turns (λ g. cc)
