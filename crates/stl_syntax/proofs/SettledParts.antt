-- Until and since by parts, in what rows settle.
use Rattle.std.proofs.Common.{ℕ, ◌+◌, ◌*◌, inl, inr, true, arith}
use Rattle.std.specs.Prelude.{Option}
use Rattle.rational.specs.Time.{Rational, Within, later, ◌≤ʳ◌, ◌<ʳ◌}
use Rattle.rational.proofs.Order.{le_trans, le_refl, le_of_lt, le_or_lt}
use Rattle.rational.proofs.TimeLemmas.{later_from, later_le, le_by_later, still_begins}
use Rattle.stl_syntax.specs.Trace.{Trace, start}
use Rattle.stl_syntax.specs.Formula.{Subformula, until, since}
use Rattle.stl_syntax.specs.Early.{Settled, SettledNot, OpenAhead, OpenBehind, IsSure}
use Rattle.stl_syntax.specs.Laws.{GoesOnTo, ComesFrom, UntilFailsByParts, UntilIsSettledByParts, SinceFailsByParts, SinceIsSettledByParts}

-- the right side is settled false, or the left side fails on the way
pub until_fails : UntilFailsByParts
until_fails p q a b tr t s (inl h) u o = inl (h u o)
until_fails p q a b tr t s (inr (v, i, (w, l, c, y, z))) u o =
    elim (le_or_lt w u) [
      | inl k ↦ inr (w, record { above = le_trans i.above l; below = k }, y)
      | inr k ↦ elim (z u (record { above = le_trans i.below o.begins; below = le_of_lt k })) [
        | inl m ↦ inr (u, record { above = le_trans i.above (le_trans i.below o.begins); below = le_refl u }, m)
        | inr m ↦ inl m
      ]
    ]

-- a sure time is sure at a later time too
sure_later : (tr : Trace) (t v u : Rational) → t ≤ʳ v → IsSure tr t u → IsSure tr v u
sure_later tr t v u h (s, inl l) = (s, inl l)
sure_later tr t v u h (s, inr l) = (s, inr (le_trans l h))

-- an earlier time is sure where a later one is
pub sure_earlier : (tr : Trace) (t w u : Rational) → start tr ≤ʳ w → w ≤ʳ u → IsSure tr t u → IsSure tr t w
sure_earlier tr t w u h k (s, inl l) = (h, inl (le_trans k l))
sure_earlier tr t w u h k (s, inr l) = (h, inr (le_trans k l))

module _ (p q : Subformula) (a b : ℕ) (tr : Trace) (t : Rational) where
  abbrev Runs : Type 0
  Runs = (v : Rational) → Within t (later t a) v → GoesOnTo (Settled p tr) (Settled q tr) (IsSure tr) v

  -- p holds at the times up to the window
  before : Runs → (x : Rational) → Within t (later t a) x → Settled p tr x
  before runs x i = let (w, l, c, y, z) = runs x i in z x (record { above = le_refl x; below = l })

  -- and on up to where a run ends
  along : Runs → (w : Rational) → ((x : Rational) → Within (later t a) w x → Settled p tr x)
      → (e : Rational) → e ≤ʳ w → (x : Rational) → Within t e x → Settled p tr x
  along runs w z e h x i =
      elim (le_or_lt x (later t a)) [
        | inl k ↦ before runs x (record { above = i.above; below = k })
        | inr k ↦ z x (record { above = le_of_lt k; below = le_trans i.below h })
      ]

-- until by its parts
pub until_settled : UntilIsSettledByParts
until_settled p q a b tr t s = (forth, back)
  where
    -- until by parts, in one direction and the other
    forth : Settled (until a b p q) tr t
        → ((u : Rational) × OpenAhead (start tr) a b true true t u × IsSure tr t u × Settled q tr u) × Runs p q a b tr t
    forth (u, o, c, y, h) = (
      (u, o, c, y),
      λ v i. (
        u,
        le_trans i.below o.begins,
        sure_later tr t v u i.above c,
        y,
        λ x j. h x (record { above = le_trans i.above j.above; below = j.below }),
      ),
    )

    back : ((u : Rational) × OpenAhead (start tr) a b true true t u × IsSure tr t u × Settled q tr u) × Runs p q a b tr t
        → Settled (until a b p q) tr t
    back ((u, o, c, y), runs) =
        let (w, l, d, e, z) = runs (later t a) (record { above = later_from t a; below = le_refl (later t a) }) in
        let meets : (f : Rational) → f ≤ʳ w → (x : Rational) → Within t f x → Settled p tr x = λ f k x. along p q a b tr t runs w z f k x in
        elim (le_or_lt w u) [
          | inl k ↦ (w, record { after = d.0; begins = l; ends = le_trans k o.ends }, sure_earlier tr t w u d.0 k c, e, meets w (le_refl w))
          | inr k ↦ (u, o, c, y, meets u (le_of_lt k))
        ]

-- the same of since
pub since_fails : SinceFailsByParts
since_fails p q a b tr t s (inl h) u o = inl (h u o)
since_fails p q a b tr t s (inr (v, i, j, (w, f, l, y, z))) u o =
    elim (le_or_lt u w) [
      | inl k ↦ inr (w, record { above = k; below = le_trans l j }, y)
      | inr k ↦ elim (le_or_lt u v) [
        | inl m ↦ elim (z u (record { above = le_of_lt k; below = m })) [
          | inl n ↦ inr (u, record { above = le_refl u; below = le_trans m j }, n)
          | inr n ↦ inl n
        ]
        | inr m ↦ inl (no_later u o i m)
      ]
    ]
  where
    -- no time of the window is later than v
    no_later : (u : Rational) → OpenBehind (start tr) a b true true t u → t ≤ʳ later v a → v <ʳ u → SettledNot q tr u
    no_later u o i m = absurd (let c = le_trans o.ends i in omega (arith, c.le, m.lt))

-- t less a
abbrev less_by : Rational → ℕ → Rational
less_by t a = record { up = t.up; down = t.down + a * t.den; den = t.den; positive = t.positive }

module _ (p q : Subformula) (a : ℕ) (b : Option ℕ) (tr : Trace) (t : Rational) where
  abbrev RunsBack : Type 0
  RunsBack = (v : Rational) → start tr ≤ʳ v → t ≤ʳ later v a → v ≤ʳ t → ComesFrom (start tr) (Settled p tr) (Settled q tr) v

  -- the window's end
  abbrev end : Rational
  end = less_by t a

  before_end : (u : Rational) → later u a ≤ʳ t → u ≤ʳ end
  before_end u h = record { le = omega (arith, h.le) }

  end_reaches : t ≤ʳ later end a
  end_reaches = record { le = omega arith }

  end_past : end ≤ʳ t
  end_past = record { le = omega arith }

  to_end : (w : Rational) → w ≤ʳ end → later w a ≤ʳ t
  to_end w h = record { le = omega (arith, h.le) }

  -- p holds from w on up to t, where it does up to the window's end
  up_to : RunsBack → (w f : Rational) → start tr ≤ʳ f → w ≤ʳ f → ((x : Rational) → Within w end x → Settled p tr x)
      → (x : Rational) → Within f t x → Settled p tr x
  up_to runs w f s h z x i =
      elim (le_or_lt x end) [
        | inl k ↦ z x (record { above = le_trans h i.above; below = k })
        | inr k ↦
            let (u, g, l, y, d) = runs x (le_trans s i.above) (le_trans end_reaches (later_le a (le_of_lt k))) i.below in
            d x (record { above = l; below = le_refl x })
      ]

-- since by its parts
pub since_settled : SinceIsSettledByParts
since_settled p q a b tr t s = (forth, back)
  where
    forth : Settled (since a b p q) tr t
        → ((u : Rational) × OpenBehind (start tr) a b true true t u × IsSure tr t u × Settled q tr u) × RunsBack p q a b tr t
    forth (u, o, c, y, h) = (
      (u, o, c, y),
      λ v f i j. (u, o.after, le_by_later t u v a o.ends i, y, λ x k. h x (record { above = k.above; below = le_trans k.below j })),
    )

    back : ((u : Rational) × OpenBehind (start tr) a b true true t u × IsSure tr t u × Settled q tr u) × RunsBack p q a b tr t
        → Settled (since a b p q) tr t
    back ((u, o, c, y), runs) =
        let stop : Rational = end p q a b tr t in
        let first = before_end p q a b tr t u o.ends in
        let (w, g, l, e, z) = runs stop (le_trans o.after first) (end_reaches p q a b tr t) (end_past p q a b tr t) in
        elim (le_or_lt u w) [
          | inl k ↦ (
            w,
            record { after = g; begins = still_begins b t u w k o.begins; ends = to_end p q a b tr t w l },
            (g, inr (le_trans l (end_past p q a b tr t))),
            e,
            up_to p q a b tr t runs w w g (le_refl w) z,
          )
          | inr k ↦ (u, o, c, y, up_to p q a b tr t runs w u o.after (le_of_lt k) z)
        ]
