-- A window has come to the time of its course.
use Rattle.std.proofs.Common.{◌≡◌, ◌⊎◌, inl, inr, ℕ, Bool, true, false, List, [], ◌∷◌, ◌++◌, refl, sym, subst, ap, ◌∙◌, Option, Some, None}
use Rattle.std.specs.Prelude.{IfSome, IsTrue, cond, option_map, slice_get}
use Rattle.std.proofs.lemmas.List.{append-nil}
use Rattle.rational.specs.Rational.{add, whole}
use Rattle.rational.specs.Time.{Rational, shifted, ◌≈◌, ◌≤ʳ◌, ◌<ʳ◌}
use Rattle.rational.specs.Extended.{value_at}
use Rattle.rational.specs.Places.{Place, After, AtMost, Before, Same, Upto}
use Rattle.rational.proofs.Order.{ge_of_same, le_of_lt, le_of_same, le_trans, lt_of_le_of_lt, lt_of_lt_of_le, not_lt_of_le, same_sym, same_trans}
use Rattle.rational.proofs.PlaceLemmas.{le_of_at_most, le_of_before}
use Rattle.rational.proofs.TimeLemmas.{shifted-add}
use Rattle.frac128.specs.Value.{value}
use Rattle.frac128.specs.Cuts.{place}
use Rattle.value_laws.specs.Kinds.{margin_shape}
use Rattle.value_laws.specs.declared.margin.Margin.{Margin}
use Rattle.pl_signal.specs.declared.faults.WidePair.{WidePair}
use Rattle.pieces.specs.declared.piece.Piece.{Piece}
use Rattle.pieces.specs.declared.reach.Reach.{Reach}
use Rattle.pieces.specs.declared.reach.Way.{Way}
use Rattle.pieces.specs.declared.stream.Stream.{Stream}
use Rattle.pieces.specs.Chains.{Chain, HasShape, IsWorth, Rise, end, stop, stop_from}
use Rattle.pieces.specs.Streaming.{Follows, HasAll, IsAt, IsNextSeen, before_time}
use Rattle.pieces.specs.Windows.{IsPieceFrom}
use Rattle.pieces.proofs.ChainLemmas.{to_stop}
use Rattle.pieces.proofs.Ends.{after_time_same, earlier_upto, here_after, upto_of_lt, upto_time_same}
use Rattle.stl_syntax.specs.Trace.{start, stop as last_of}
use Rattle.online_robust.specs.Held.{Edge, Held, edge_at, fresh_at, held_at}
use Rattle.online_robust.specs.Lines.{end_of}
use Rattle.online_robust.specs.Slides.{AreFrom, ArePart, AreToCome, CanGoOver, Course, DropsBy, GoesOn, HasGoneTo, HasMet, HasRead, IsOnWay, IsTakenIn, IsUnder}
use Rattle.online_robust.specs.Slides.{after_time, back_offset, chain_of, cursor, high_at, input, pieces_kept, pieces_of, reach_of}
use Rattle.online_robust.specs.declared.line.MarginLine.{MarginLine}
use Rattle.online_robust.proofs.Robustly.{robust_is_function}
use Rattle.online_robust.proofs.SlideChains.{next_piece}
use Rattle.online_robust.proofs.SlideLeft.{goes_on}
use Rattle.online_robust.proofs.SlideOn.{back_most, le_offsets}
use Rattle.online_robust.proofs.SlideInput.{high_is}
use Rattle.online_robust.proofs.SlideWhole.{lines_part}

-- where nothing is to come, the window's high end does not stand where what was met ends
pub none_under : (x : Course) (w : Stream Margin) (e : Held) → IsOnWay x w None e → fresh_at e x.window.of ≡ [] → ¬ Same (place w.met) (before_time (high_at x))
none_under x w e on nil under = by_on on.come.go_on
  where
    stands : Same (stop_from x.from on.ps) (before_time (high_at x))
    stands = subst (λ d. Same d (before_time (high_at x))) on.met.met under

    by_told : x.front <ʳ start x.trace → Same (stop_from x.from on.ps) (before_time (start x.trace))
        → (high_at x ≤ʳ x.front) ⊎ ((x.front ≈ last_of x.trace) × (x.to ≈ last_of x.trace)) → ⊥
    by_told lt at (inl told) = not_lt_of_le (le_trans (ge_of_same at.0) (le_trans (le_of_same stands.0) told)) lt
    by_told lt at (inr (front, end)) = not_lt_of_le (le_trans on.started (le_trans (le_of_same end) (ge_of_same front))) lt

    by_on : AreFrom (stop_from x.from on.ps) x.front (fresh_at e x.window.of)
        ⊎ ((fresh_at e x.window.of ≡ []) × (x.front <ʳ start x.trace) × Same (stop_from x.from on.ps) (before_time (start x.trace))) → ⊥
    by_on (inl from) =
        let same : Same (stop_from x.from on.ps) (after_time x.front) = subst (λ l. AreFrom (stop_from x.from on.ps) x.front l) nil from in
        let z : true ≡ false = sym same.1 ∙ stands.1 in cc
    by_on (inr (none, lt, at)) = by_told lt at on.told_for

-- what is read and dropped by a time is so by the same time
pub read_same : {of : ℕ} {old new : Held} (t u : Rational) → t ≈ u → HasRead of old t new → HasRead of old u new
read_same {of} {old} {new} t u same read = (
  record {
    count = read.0.count;
    is = read.0.is;
    ended = λ k below. by (slice_get (held_at old of) k) (read.0.ended k below);
    number = read.0.number;
    others = read.0.others;
    edges = read.0.edges;
    start = read.0.start;
  },
  later (slice_get (held_at new of) 0) read.1,
)
  where
    by : (o : Option MarginLine) → IfSome o (λ l. value (end_of l) ≤ʳ t) → IfSome o (λ l. value (end_of l) ≤ʳ u)
    by None h = tt
    by (Some l) h = le_trans h (le_of_same same)

    later : (o : Option MarginLine) → IfSome o (λ l. t <ʳ value (end_of l)) → IfSome o (λ l. u <ʳ value (end_of l))
    later None h = tt
    later (Some l) h = lt_of_le_of_lt (ge_of_same same) h

module _ (x : Course) (w : Stream Margin) (kept : Option (Piece Margin)) (e : Held) (on : IsOnWay x w kept e) (taken : IsTakenIn x w e)
    (under : IsUnder x w kept) where
  abbrev fresh : List MarginLine
  fresh = fresh_at e x.window.of

  -- what was met and kept, and what is to come
  abbrev pub all_under : Chain Margin
  all_under = chain_of x.from (on.ps ++ (pieces_kept kept ++ (pieces_of (fresh_at e x.window.of) ++ on.behind)))

  abbrev c : Place
  c = cursor (stop_from x.from on.ps) kept

  -- the window follows it
  pub follows_under : Follows margin_shape all_under w
  follows_under = on.met.follows (pieces_kept kept ++ (pieces_of fresh ++ on.behind)) on.is_whole.can on.is_whole.reaches

  -- all that counts before the time was met, or both have ended
  met_all : (high_at x ≤ʳ (place w.met).at) ⊎ ((x.to ≈ last_of x.trace) × (place w.met ≡ stop all_under))
  met_all = by_kept kept refl
    where
      -- nothing more comes, and the front is where it was met to
      by_come : fresh ≡ [] → high_at x ≤ʳ x.front
          → AreFrom (stop_from x.from on.ps) x.front fresh
          ⊎ ((fresh ≡ []) × (x.front <ʳ start x.trace) × Same (stop_from x.from on.ps) (before_time (start x.trace)))
          → high_at x ≤ʳ (stop_from x.from on.ps).at
      by_come nil told (inl from) =
          let same : Same (stop_from x.from on.ps) (after_time x.front) = subst (λ l. AreFrom (stop_from x.from on.ps) x.front l) nil from in
          le_trans told (ge_of_same same.0)
      by_come nil told (inr (none, lt, same)) = le_trans told (le_trans (le_of_lt lt) (ge_of_same same.0))

      by_ends : kept ≡ None → fresh ≡ [] → (high_at x ≤ʳ x.front) ⊎ ((x.front ≈ last_of x.trace) × (x.to ≈ last_of x.trace))
          → (high_at x ≤ʳ x.front) ⊎ (on.behind ≡ []) → (high_at x ≤ʳ (place w.met).at) ⊎ ((x.to ≈ last_of x.trace) × (place w.met ≡ stop all_under))
      by_ends is nil told ends = by_both told ends
        where
          come : AreToCome (input x) x.reach (start x.trace) x.front (stop_from x.from on.ps) fresh
          come = subst (λ k. AreToCome (input x) x.reach (start x.trace) x.front (cursor (stop_from x.from on.ps) k) fresh) is on.come

          by_both : (high_at x ≤ʳ x.front) ⊎ ((x.front ≈ last_of x.trace) × (x.to ≈ last_of x.trace))
              → (high_at x ≤ʳ x.front) ⊎ (on.behind ≡ []) → (high_at x ≤ʳ (place w.met).at) ⊎ ((x.to ≈ last_of x.trace) × (place w.met ≡ stop all_under))
          by_both (inl told) ends = inl (subst (λ (d : Place). high_at x ≤ʳ d.at) (sym on.met.met) (by_come nil told come.go_on))
          by_both (inr at) (inl told) = inl (subst (λ (d : Place). high_at x ≤ʳ d.at) (sym on.met.met) (by_come nil told come.go_on))
          by_both (inr at) (inr none) = inr (at.1, on.met.met ∙ ap (λ l. stop_from x.from l) (sym (append-nil on.ps) ∙ ap (λ l. on.ps ++ l) (sym nothing)))
            where
              nothing : pieces_kept kept ++ (pieces_of fresh ++ on.behind) ≡ []
              nothing = ap (λ k. pieces_kept k ++ (pieces_of fresh ++ on.behind)) is ∙ ap (λ l. pieces_of l ++ on.behind) nil ∙ none

      by_taken : kept ≡ None → IsTakenIn x w e → (high_at x ≤ʳ (place w.met).at) ⊎ ((x.to ≈ last_of x.trace) × (place w.met ≡ stop all_under))
      by_taken is (inl h) = inl h
      by_taken is (inr nil) = by_ends is nil on.told_for on.ends

      by_kept : (k : Option (Piece Margin)) → kept ≡ k → (high_at x ≤ʳ (place w.met).at) ⊎ ((x.to ≈ last_of x.trace) × (place w.met ≡ stop all_under))
      by_kept None is = by_taken is taken
      by_kept (Some p) is = let here : Same (place w.met) (before_time (high_at x)) = subst (λ k. IsUnder x w k) is under in inl (ge_of_same here.0)

  before_reach : (s : Chain Margin) → x.to ≤ʳ (stop s).at → AtMost (before_time x.to) (stop s)
  before_reach s far t h = upto_of_lt (stop s) t (lt_of_lt_of_le h far)

  -- any chain that goes to the time has all that counts before it
  has_high : high_at x ≤ʳ (place w.met).at → (s : Chain Margin) → x.to ≤ʳ (stop s).at → HasAll margin_shape s w x.to
  has_high h s far = record { counted = inl (le_trans (le_of_same (high_is x w on.way)) h); inside = before_reach s far }

  -- the chain of all has it
  pub has_all : HasAll margin_shape all_under w x.to
  has_all = by_met met_all
    where
      by_met : (high_at x ≤ʳ (place w.met).at) ⊎ ((x.to ≈ last_of x.trace) × (place w.met ≡ stop all_under)) → HasAll margin_shape all_under w x.to
      by_met (inl h) = has_high h all_under on.is_whole.reaches
      by_met (inr (at, ended)) = record { counted = inr ended; inside = before_reach all_under on.is_whole.reaches }

  -- where it tells nothing it refuses nothing
  pub none_early : (fault : Option (WidePair Margin))
      → (x.to ≤ʳ all_under.from.at → add x.to (whole w.way.over.high) ≤ʳ (place w.met).at → fault ≡ None)
      → ((stop all_under).at ≤ʳ all_under.from.at → fault ≡ None) → x.to ≤ʳ all_under.from.at → fault ≡ None
  none_early fault early one le = by_met met_all
    where
      by_high : high_at x ≤ʳ (place w.met).at → fault ≡ None
      by_high h = early le (le_trans (le_of_same (high_is x w on.way)) h)

      by_end : place w.met ≡ stop all_under → (high_at x ≤ʳ x.front)
          ⊎ (Same (stop all_under) (after_time (last_of x.trace)) × (last_of x.trace ≤ʳ x.front) × (x.to ≈ last_of x.trace)) → fault ≡ None
      by_end met (inl told) = by_high (le_trans told (subst (λ (d : Place). x.front ≤ʳ d.at) (sym met) on.is_whole.far))
      by_end met (inr (ends, all, end)) = one (le_trans (le_of_same ends.0) (le_trans (ge_of_same end) le))

      by_met : (high_at x ≤ʳ (place w.met).at) ⊎ ((x.to ≈ last_of x.trace) × (place w.met ≡ stop all_under)) → fault ≡ None
      by_met (inl h) = by_high h
      by_met (inr (at, met)) = by_end met on.is_whole.ended

  module _ (told : Stream Margin) (way : told.way ≡ w.way) (met : told.met ≡ w.met) where
    over : told.way.over ≡ reach_of x.window
    over = ap (λ (v : Way). v.over) way ∙ on.way.over

    -- where the high end stands, by the offsets of the window that has told
    high : high_at x ≈ add x.to (whole told.way.over.high)
    high = subst (λ (o : Reach). high_at x ≈ add x.to (whole o.high)) (sym over) (shifted-add x.to x.window.high)

    at_met : place told.met ≡ place w.met
    at_met = ap place met

    -- what is seen of what was not met is the point that is kept
    pub next_seen : IsNextSeen margin_shape all_under told x.to (cond x.window.high_in (option_map (λ p. p.shape) kept) None)
    next_seen = by_in x.window.high_in refl kept refl
      where
        -- nothing is seen
        none_seen : (Same (place w.met) (before_time (high_at x)) → told.way.over.high_in ≡ true → ⊥) → IsNextSeen margin_shape all_under told x.to None
        none_seen not = by_met met_all
          where
            by_before : high_at x ≤ʳ (place w.met).at → Before (place told.met)
                (record { at = add x.to (whole told.way.over.high); after = told.way.over.high_in }) → ⊥
            by_before h (inl lt) =
                not_lt_of_le (le_trans (ge_of_same high) (subst (λ (d : Place). high_at x ≤ʳ d.at) (sym at_met) h)) lt
            by_before h (inr (same, before, inside)) =
                not (subst (λ d. Same d (before_time (high_at x))) at_met (same_trans same (same_sym high), before)) inside

            by_met : (high_at x ≤ʳ (place w.met).at) ⊎ ((x.to ≈ last_of x.trace) × (place w.met ≡ stop all_under))
                → IsNextSeen margin_shape all_under told x.to None
            by_met (inl h) = inl (by_before h)
            by_met (inr (at, ended)) = inr (at_met ∙ ended)

        -- the point is seen
        point_seen : (p : Piece Margin) → kept ≡ Some p → x.window.high_in ≡ true → IsNextSeen margin_shape all_under told x.to (Some p.shape)
        point_seen p is high_in = record {
          here = subst (λ d. Same d (before_time (add x.to (whole told.way.over.high)))) (sym at_met) (same_trans stands.0 high, stands.1);
          inside = subst (λ (o : Reach). IsTrue o.high_in) (sym over) high_in;
          worth = subst (λ s. IsWorth margin_shape s (add x.to (whole told.way.over.high))
              (value_at (margin_shape.function p.shape) (add x.to (whole told.way.over.high)))) (sym chain_is)
              (piece.worth (add x.to (whole told.way.over.high)) after upto);
          has = subst (λ s. HasShape s p.shape) (sym chain_is) piece.has;
        }
          where
            stands : Same (place w.met) (before_time (high_at x))
            stands = subst (λ k. IsUnder x w k) is under

            chain_is : all_under ≡ chain_of x.from (on.ps ++ p ∷ (pieces_of fresh ++ on.behind))
            chain_is = ap (λ k. chain_of x.from (on.ps ++ (pieces_kept k ++ (pieces_of fresh ++ on.behind)))) is

            piece : IsPieceFrom margin_shape (chain_of x.from (on.ps ++ p ∷ (pieces_of fresh ++ on.behind))) (stop_from x.from on.ps) p
            piece = next_piece x.from on.ps p (pieces_of fresh ++ on.behind)
                (subst (λ (s : Chain Margin). Rise s.from s.pieces) chain_is on.is_whole.can.can.rising)

            at_stop : Same (stop_from x.from on.ps) (before_time (high_at x))
            at_stop = subst (λ d. Same d (before_time (high_at x))) on.met.met stands

            after : After (stop_from x.from on.ps) (add x.to (whole told.way.over.high))
            after = after_time_same (stop_from x.from on.ps) (stop_from x.from on.ps).at (add x.to (whole told.way.over.high)) (same_trans at_stop.0 high)
                (here_after (stop_from x.from on.ps) at_stop.1)

            upto : Upto (end p) (add x.to (whole told.way.over.high))
            upto = upto_time_same (end p) (stop_from x.from on.ps).at (add x.to (whole told.way.over.high)) (same_trans at_stop.0 high)
                (earlier_upto (stop_from x.from on.ps) (end p) piece.order)

        by_in : (b : Bool) → x.window.high_in ≡ b → (k : Option (Piece Margin)) → kept ≡ k
            → IsNextSeen margin_shape all_under told x.to (cond b (option_map (λ p. p.shape) k) None)
        by_in true is None none = none_seen (λ stands inside. (subst (λ k. IsUnder x w k) none under) stands)
        by_in true is (Some p) some = point_seen p some is
        by_in false is k kept_is = none_seen (λ stands inside. let z : false ≡ true = sym is ∙ sym (ap (λ (o : Reach). o.high_in) over) ∙ inside in cc)

  -- ---- what it leaves

  -- where its input goes on does not lie behind the end
  by_last : c.at ≤ʳ last_of x.trace
  by_last = by_on on.come.go_on
    where
      by_on : AreFrom c x.front fresh ⊎ ((fresh ≡ []) × (x.front <ʳ start x.trace) × Same c (before_time (start x.trace))) → c.at ≤ʳ last_of x.trace
      by_on (inl from) =
          let h = lines_part (input x) (robust_is_function x.formula x.trace) x.reach c x.front fresh on.come.told on.come.fit from in
          le_trans (le_of_at_most c (stop_from c (pieces_of fresh)) (to_stop c (pieces_of fresh) h.0.rise)) (le_trans (le_of_same h.1.0) on.is_whole.by)
      by_on (inr (none, lt, same)) = le_trans (le_of_same same.0) (le_trans on.started on.last)

  -- it lies behind where the high end stands, or there, and then the point there was read
  on_high : high_at x ≤ʳ (place w.met).at → (high_at x ≤ʳ c.at) × (c.at ≈ high_at x → c.after ≡ true)
  on_high h = by_kept kept on.kept_is under
    where
      met_high : high_at x ≤ʳ (stop_from x.from on.ps).at
      met_high = subst (λ (d : Place). high_at x ≤ʳ d.at) on.met.met h

      by_side : (b : Bool) → (stop_from x.from on.ps).after ≡ b → (stop_from x.from on.ps).at ≈ high_at x → ¬ Same (place w.met) (before_time (high_at x))
          → b ≡ true
      by_side true is same not = refl
      by_side false is same not = absurd (not (subst (λ d. Same d (before_time (high_at x))) (sym on.met.met) (same, is)))

      by_order : (p : Piece Margin) → Same (stop_from x.from on.ps) (before_time (high_at x)) → Before (stop_from x.from on.ps) (end p)
          → (end p).at ≈ high_at x → (end p).after ≡ true
      by_order p stands (inl lt) same = absurd (not_lt_of_le (le_trans (le_of_same same) (ge_of_same stands.0)) lt)
      by_order p stands (inr (at, before, after)) same = after

      by_kept : (k : Option (Piece Margin))
          → IfSome k (λ p. ((stop_from x.from on.ps).at ≤ʳ high_at x) × ArePart (input x) x.reach (stop_from x.from on.ps) (p ∷ [])) → IsUnder x w k
          → (high_at x ≤ʳ (cursor (stop_from x.from on.ps) k).at) × ((cursor (stop_from x.from on.ps) k).at ≈ high_at x
          → (cursor (stop_from x.from on.ps) k).after ≡ true)
      by_kept None is not = (met_high, λ same. by_side (stop_from x.from on.ps).after refl same not)
      by_kept (Some p) (le, part) stands = (
        le_trans met_high (le_of_before (stop_from x.from on.ps) (end p) part.rise.0),
        by_order p (subst (λ d. Same d (before_time (high_at x))) on.met.met stands) part.rise.0,
      )

  module _ (told new : Stream Margin) (left : Held) (limit : Rational)
      (at : (s : Chain Margin) → Follows margin_shape s w → HasAll margin_shape s w x.to → IsAt margin_shape s told x.to)
      (again : (s : Chain Margin) → Follows margin_shape s told → Follows margin_shape s new) (way : new.way ≡ w.way) (met : new.met ≡ w.met)
      (out : new.sliding.out ≡ chain_of (stop told.sliding.out) []) (drops : DropsBy limit x.window.of e left)
      (limit_is : limit ≈ shifted x.to (back_offset x.window)) where
    -- it follows what it has met
    met_on : high_at x ≤ʳ (place w.met).at → HasMet x.from x.to on.ps new
    met_on h = record {
      met = ap place met ∙ on.met.met;
      follows = λ more can far.
          let s = chain_of x.from (on.ps ++ more) in
          again s (at s (on.met.follows more (subst (λ v. CanGoOver v (chain_of x.from (on.ps ++ more))) way can) far) (has_high h s far)).follows;
    }

    left_on : high_at x ≤ʳ (place w.met).at → GoesOn x c (edge_at left x.window.of).seen
    left_on h = subst (GoesOn x c) (sym (ap (λ (y : Edge). y.seen) drops.lost.here.is))
        (goes_on x c (edge_at e x.window.of).seen fresh drops.lost.here.count limit on.read on.none on.is_whole.begins (on_high h).0 by_last (on_high h).1
        limit_is (le_trans (le_of_same limit_is) (le_offsets x.to (back_offset x.window) x.window.high (back_most x.window on.small.order)))
        drops.lost.here.ended)

    -- it has come to the time
    pub gone : HasGoneTo x new kept left
    gone = record {
      ps = on.ps;
      part = on.part;
      kept_is = on.kept_is;
      out = out ∙ ap (λ s. chain_of s []) (sym (ap (λ s. stop s) out));
      told = subst (λ s. Same (stop s) (before_time x.to)) (sym out) (at all_under follows_under has_all).at;
      goes_on = by_met met_all;
    }
      where
        by_met : (high_at x ≤ʳ (place w.met).at) ⊎ ((x.to ≈ last_of x.trace) × (place w.met ≡ stop all_under))
            → (x.to ≈ last_of x.trace) ⊎ (HasMet x.from x.to on.ps new × GoesOn x c (edge_at left x.window.of).seen)
        by_met (inl h) = inr (met_on h, left_on h)
        by_met (inr (end, ended)) = inl end
