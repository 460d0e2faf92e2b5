-- How the end of a stretch goes on, and with it the signal.
use Rattle.std.proofs.Common.{◌≡◌, ◌⊎◌, ℕ, ◌<◌, Bool, true, false, List, [], ◌∷◌, ◌++◌, length, Option, Some, None}
use Rattle.std.proofs.Common.{refl, sym, ap, subst, ◌∙◌, append-nil, append_assoc}
use Rattle.std.specs.Prelude.{IsSomeAnd}
use Rattle.rational.specs.Time.{Rational, ◌<ʳ◌}
use Rattle.rational.specs.Extended.{value_at, ◌≈ᵉ◌}
use Rattle.rational.specs.Affine.{AreSame}
use Rattle.frac128.specs.Value.{value}
use Rattle.frac128.specs.declared.frac.Frac.{Frac}
use Rattle.value_laws.specs.Kinds.{margin_shape}
use Rattle.value_laws.specs.Margins.{margin_function}
use Rattle.value_laws.specs.declared.margin.Margin.{Margin}
use Rattle.pl_signal.specs.declared.joining.Side.{Side}
use Rattle.pl_signal.specs.declared.knot.Knot.{Knot}
use Rattle.pl_signal.specs.Building.{GoesOn}
use Rattle.pl_signal.specs.Joining.{IsSplit, IsTakenAt}
use Rattle.pl_signal.specs.Knots.{stop, Each, IsKnot, IsSignal}
use Rattle.pl_signal.proofs.BuildingLemmas.{first_kept, last_kept, last_left_out}
use Rattle.pl_signal.proofs.JoiningLemmas.{joins_alone, joins_split}
use Rattle.pl_signal.proofs.KnotLemmas.{stop_end}
use Rattle.online_robust.specs.Held.{Held}
use Rattle.online_robust.specs.Putting.{lines_of, HasPut}
use Rattle.online_robust.specs.Tails.{EndsBy, HasGoneOn, HasJoined, IsTail, knot_of, lines_left, opening}
use Rattle.online_robust.specs.declared.line.MarginLine.{MarginLine}
use Rattle.online_robust.specs.declared.line.MarginLine.TheVariants.{Point, Gap}
use Rattle.online_robust.specs.declared.line.Reached.{Reached}
use Rattle.online_robust.specs.declared.tail.Open.{Open}
use Rattle.online_robust.specs.declared.tail.Tail.{Tail}
use Rattle.online_robust.proofs.LinesPut.{lines_more, put_both, put_nothing}

module _ (t : Tail) (first : Bool) (ks : List (Knot Margin)) (put : List MarginLine) where
  -- the signal ends where the tail does
  pub tail_stop : IsTail t first ks put → stop ks ≡ value t.end.at
  tail_stop is = by_gap t.gap is
    where
      by_gap : (o : Option Open) → EndsBy o t.end first ks put → stop ks ≡ value t.end.at
      by_gap None (e, p) = ap stop e
      by_gap (Some g) (xs, v, e, p) = ap stop e ∙ stop_end xs (opening g v) (knot_of t.end ∷ [])

  -- its lines are those on the edge and those that are left
  pub tail_lines : IsTail t first ks put → lines_of first ks ≡ put ++ lines_left t.gap t.end
  tail_lines is = by_gap t.gap is
    where
      by_gap : (o : Option Open) → EndsBy o t.end first ks put → lines_of first ks ≡ put ++ lines_left o t.end
      by_gap None (e, p) = ap (lines_of first) e ∙ sym p ∙ sym (append-nil put)
      by_gap (Some g) (xs, v, e, p) = ap (lines_of first) e ∙ lines_more first xs (opening g v) (knot_of t.end)
          ∙ ap (λ l. l ++ Gap g.from t.end.at g.piece ∷ Point t.end.at t.end.value ∷ []) (sym p)

module _ (t : Tail) (node : ℕ) (e : Held) (piece v : Margin) (to : Frac) (later : value t.end.at <ʳ value to) where
  abbrev end : Reached
  end = record { at = to; value = v }

  abbrev open' : Open
  open' = record { from = t.end.at; piece = piece }

  abbrev last : Knot Margin
  last = opening open' t.end.value

  -- the last gap, the point that ends it and what comes next are of one function
  abbrev IsOfOne : Open → Type 0
  IsOfOne g = (value_at (margin_function g.piece) (value t.end.at) ≈ᵉ value_at (margin_function t.end.value) (value t.end.at))
      × AreSame (margin_function g.piece) (margin_function piece)

  -- they are, and the gap goes on
  pub gone_along : IsSomeAnd t.gap IsOfOne → HasGoneOn piece to v node t e (record { gap = t.gap; end = record { at = to; value = v } }) e
  gone_along one = record {
    more = [];
    put = put_nothing node e;
    end = refl;
    on = λ first ks put tail signal. by_gap t.gap one first ks put tail signal;
  }
    where
      by_gap : (o : Option Open) → IsSomeAnd o IsOfOne
          → (first : Bool) (ks : List (Knot Margin)) (put : List MarginLine) → EndsBy o t.end first ks put → IsSignal margin_shape ks
          → (ks' : List (Knot Margin)) × GoesOn margin_shape ks piece to v ks' × EndsBy o end first ks' (put ++ [])
      by_gap None none first ks put is signal = absurd none
      by_gap (Some g) is first ks put (xs, w, k, p) signal = (
        xs ++ opening g w ∷ knot_of end ∷ [],
        subst (λ l. GoesOn margin_shape l piece to v (xs ++ opening g w ∷ knot_of end ∷ [])) (sym k)
            (last_left_out margin_shape xs (opening g w) (knot_of t.end) piece to v (subst (Each (IsKnot margin_shape)) k signal.each) later
            (record { here = is.0; on = is.1 })),
        (xs, w, refl, append-nil put ∙ p),
      )

  lone : (first : Bool) (r : Reached) (a b : Margin)
      → lines_of first (record { time = r.at; point = r.value; after = a } ∷ []) ≡ lines_of first (record { time = r.at; point = r.value; after = b } ∷ [])
  lone true r a b = refl
  lone false r a b = refl

  -- they are not, and the last gap has come onto the edge
  pub gone_apart : (e' : Held) → ¬ IsSomeAnd t.gap IsOfOne → HasPut node (lines_left t.gap t.end) e e'
      → HasGoneOn piece to v node t e (record { gap = Some (record { from = t.end.at; piece = piece }); end = record { at = to; value = v } }) e'
  gone_apart e' apart put = record {
    more = lines_left t.gap t.end;
    put = put;
    end = refl;
    on = λ first ks lines tail signal. by_gap t.gap apart first ks lines tail signal;
  }
    where
      by_gap : (o : Option Open) → ¬ IsSomeAnd o IsOfOne
          → (first : Bool) (ks : List (Knot Margin)) (put : List MarginLine) → EndsBy o t.end first ks put → IsSignal margin_shape ks
          → (ks' : List (Knot Margin)) × GoesOn margin_shape ks piece to v ks' × EndsBy (Some open') end first ks' (put ++ lines_left o t.end)
      by_gap None apart first ks put (k, p) signal = (
        last ∷ knot_of end ∷ [],
        subst (λ l. GoesOn margin_shape l piece to v (last ∷ knot_of end ∷ [])) (sym k) (first_kept margin_shape (knot_of t.end) piece to v later),
        ([], t.end.value, refl, append-nil put ∙ p ∙ lone first t.end t.end.value piece),
      )
      by_gap (Some g) apart first ks put (xs, w, k, p) signal = (
        xs ++ opening g w ∷ last ∷ knot_of end ∷ [],
        subst (λ l. GoesOn margin_shape l piece to v (xs ++ opening g w ∷ last ∷ knot_of end ∷ [])) (sym k)
            (last_kept margin_shape xs (opening g w) (knot_of t.end) piece to v (subst (Each (IsKnot margin_shape)) k signal.each) later
            (λ s. apart (s.here, s.on))),
        (
          xs ++ opening g w ∷ [],
          t.end.value,
          sym (append_assoc xs (opening g w ∷ []) (last ∷ knot_of end ∷ [])),
          ap (λ l. l ++ lines_left (Some g) t.end) p ∙ sym (lines_more first xs (opening g w) last)
              ∙ ap (lines_of first) (sym (append_assoc xs (opening g w ∷ []) (last ∷ []))),
        ),
      )

module _ {node : ℕ} {e : Held} {t : Tail} (side : Side) (p q v : Margin) (to : Frac) where
  -- one of the two margins is chosen all over the gap
  pub joined_along : (s : Margin) {t' : Tail} {e' : Held} → (s ≡ p) ⊎ (s ≡ q)
      → ((u : Rational) → value t.end.at <ʳ u → u <ʳ value to → IsTakenAt margin_shape side p q s u)
      → HasGoneOn s to v node t e t' e' → HasJoined side p q to v node t e t' e'
  joined_along s one all on = record {
    more = on.more;
    put = on.put;
    end = on.end;
    on = λ first ks put tail signal.
        let (ks', goes, tail') = on.on first ks put tail signal in (
          ks',
          joins_alone margin_shape side ks ks' p q s v to one (λ u a b. all u (subst (λ z. z <ʳ u) (tail_stop t first ks put tail) a) b) goes,
          tail',
        );
  }

  -- the one is chosen up to a time, and then the other
  pub joined_across : {a b : Margin} {middle : Frac} {m t' : Tail} {f e' : Held}
      → IsSplit margin_shape side p q (value t.end.at) (value to) a (value middle) b → node < length e.edges
      → HasGoneOn a middle a node t e m f → HasGoneOn b to v node m f t' e' → HasJoined side p q to v node t e t' e'
  joined_across {a} {b} {middle} {m = m} {t' = t'} {f = f} {e' = e'} split within on on' = record {
    more = on.more ++ on'.more;
    put = put_both node on.more on'.more e f e' within on.put on'.put;
    end = on'.end;
    on = λ first ks put tail signal.
        let (half, goes, tail') = on.on first ks put tail signal in
        let (ks', goes', tail'') = on'.on first half (put ++ on.more) tail' goes.signal in (
          ks',
          joins_split margin_shape side ks p q v to
              (subst (λ z. IsSplit margin_shape side p q z (value to) a (value middle) b) (sym (tail_stop t first ks put tail)) split) goes goes',
          subst (IsTail t' first ks') (append_assoc put on.more on'.more) tail'',
        );
  }
