-- A bounded `until` is the least of a Sup over its window and of the Infs of the `until` to the end, and a bounded `since` likewise.
use Rattle.std.proofs.Common.{◌⊎◌, inl, inr, ℕ, ◌+◌, ◌*◌, arith}
use Rattle.std.specs.Prelude.{Some, true}
use Rattle.rational.specs.Time.{Rational, ◌≤ʳ◌, ◌<ʳ◌, Within, later}
use Rattle.rational.specs.Extended.{Extended, ◌≤ᵉ◌, ◌<ᵉ◌, IsLeast, IsSup, IsInf}
use Rattle.rational.specs.Windows.{Function, Window, Ahead, Behind, IsSupOver, IsInfOver, IsUntil, IsSince}
use Rattle.rational.specs.UntilParts.{HasUntilToEnd, HasSinceFromStart, UntilIsComposed, SinceIsComposed}
use Rattle.rational.proofs.Order.{le_of_lt, le_or_lt, le_trans, le_refl, not_lt_of_le}
use Rattle.rational.proofs.TimeLemmas.{later_le, later_from, later_more, later_zero, still_begins}
use Rattle.rational.proofs.ExtendedLemmas.{le_totalᵉ, clashᵉ, le_reflᵉ, le_transᵉ, lt_of_lt_of_leᵉ, lt_of_le_of_ltᵉ, least_of}

-- a value below the least of two is below both, and one below both is below it
pub below_least : (v w r x : Extended) → IsLeast v w r → x <ᵉ v → x <ᵉ w → x <ᵉ r
below_least v w r x h k l = by_one h.one_of
  where
    by_one : (v ≤ᵉ r) ⊎ (w ≤ᵉ r) → x <ᵉ r
    by_one (inl m) = lt_of_lt_of_leᵉ x v r k m
    by_one (inr m) = lt_of_lt_of_leᵉ x w r l m

-- a value that is below none of a set is at most its Inf
pub at_most_inf : {S : Extended → Type 0} (highest d m : Extended) → IsInf highest S d → m ≤ᵉ highest → ((v : Extended) → S v → m ≤ᵉ v) → m ≤ᵉ d
at_most_inf {S} highest d m h k all = by_order (le_totalᵉ m d)
  where
    by_order : (m ≤ᵉ d) ⊎ (d <ᵉ m) → m ≤ᵉ d
    by_order (inl l) = l
    by_order (inr l) = let f = h.reached m l k in clashᵉ f.0 m f.2 (all f.0 f.1)

-- the Sup of a set is at most what no member passes
pub sup_at_most : {S : Extended → Type 0} (lowest z p : Extended) → IsSup lowest S z → lowest ≤ᵉ p → ((v : Extended) → S v → v ≤ᵉ p) → z ≤ᵉ p
sup_at_most {S} lowest z p h k all = by_order (le_totalᵉ z p)
  where
    by_order : (z ≤ᵉ p) ⊎ (p <ᵉ z) → z ≤ᵉ p
    by_order (inl l) = l
    by_order (inr l) = let f = h.reached p k l in clashᵉ p f.0 f.2 (all f.0 f.1)

-- what both laws share: `Stretch s u` are the times from s to u, read ahead or back, and `Near` those from t to m, where the window begins
module _ (lowest highest : Extended) (P Q : Function) (Stretch : Rational → Rational → Window) (W Near : Window) (Beyond : Rational → Window)
    (t m : Rational) where
  -- v is the least of Q at u and the Inf of P on the way from s
  abbrev Reaches : Rational → Rational → Extended → Type 0
  Reaches s u v = (x y : Extended) × Q u x × IsInfOver highest (Stretch s u) P y × IsLeast x y v

  -- v is the value at s without a bound
  abbrev Unbounded : Function
  Unbounded s v = IsSupOver lowest (Beyond s) (Reaches s) v

  -- how the windows lie
  record Lies : Type 0 where
    at_start : Near t
    at_begin : Near m
    beyond : (s u : Rational) → Near s → W u → Beyond s u
    sub : (s u v : Rational) → Near s → W u → Stretch s u v → Stretch t u v
    first : (s u : Rational) → Near s → Beyond s u → Stretch s u s
    parts : (u v : Rational) → W u → Stretch t u v → Near v ⊎ Stretch m u v
    earlier : (u w : Rational) → W u → Beyond m w → W w ⊎ ((v : Rational) → Stretch m u v → Stretch m w v)

  -- which values there are
  record Has : Type 0 where
    order : lowest ≤ᵉ highest
    low : (s : Rational) (p : Extended) → Near s → P s p → lowest ≤ᵉ p
    infs : (s u : Rational) → Near s → W u → (y : Extended) × IsInfOver highest (Stretch s u) P y
    values : (s : Rational) → Near s → (z : Extended) × Unbounded s z

  module _ (lies : Lies) (has : Has) (c d r : Extended) (sup : IsSupOver lowest W Q c) (inf : IsInfOver highest Near Unbounded d) (least : IsLeast c d r) where
    -- the value without a bound is at most P
    at_most_left : (s : Rational) (p z : Extended) → Near s → P s p → Unbounded s z → z ≤ᵉ p
    at_most_left s p z n h k = sup_at_most lowest z p k (has.low s p n h)
        (λ v f. le_transᵉ v f.2.1 p f.2.4.right (f.2.3.bound p (s, lies.first s f.0 n f.1, h)))

    -- so d is, before the window
    near_above : (s : Rational) (p : Extended) → Near s → P s p → d ≤ᵉ p
    near_above s p n h = let z = has.values s n in le_transᵉ d z.0 p (inf.bound z.0 (s, n, z.1)) (at_most_left s p z.0 n h z.1)

    at_least : lowest ≤ᵉ r
    at_least = by_one least.one_of
      where
        above : lowest ≤ᵉ d
        above = at_most_inf highest d lowest inf has.order (λ v f. f.2.at_least)

        by_one : (c ≤ᵉ r) ⊎ (d ≤ᵉ r) → lowest ≤ᵉ r
        by_one (inl k) = le_transᵉ lowest c r sup.at_least k
        by_one (inr k) = le_transᵉ lowest d r above k

    -- a value that is reached in the window is at most one reached from a later start
    below_later : (u s : Rational) (x y v z : Extended) → W u → Near s → Q u x → IsInfOver highest (Stretch t u) P y → IsLeast x y v → Unbounded s z → v ≤ᵉ z
    below_later u s x y v z w n q i l k =
        let f = has.infs s u n w in
        let g = least_of x f.0 in
        let more : y ≤ᵉ f.0 = at_most_inf highest f.0 y f.1 i.at_most (λ p h. i.bound p (h.0, lies.sub s u h.0 n w h.1, h.2)) in
        le_transᵉ v g.0 z (at_most_least x f.0 g.0 v g.1 l.left (le_transᵉ v y f.0 l.right more)) (k.bound g.0 (u, lies.beyond s u n w, (x, f.0, q, f.1, g.1)))
      where
        at_most_least : (a b e v : Extended) → IsLeast a b e → v ≤ᵉ a → v ≤ᵉ b → v ≤ᵉ e
        at_most_least a b e v h k l = by_one h.one_of
          where
            by_one : (a ≤ᵉ e) ⊎ (b ≤ᵉ e) → v ≤ᵉ e
            by_one (inl m) = le_transᵉ v a e k m
            by_one (inr m) = le_transᵉ v b e l m

    bound : (v : Extended) → ((u : Rational) × W u × Reaches t u v) → v ≤ᵉ r
    bound v f =
        let x = f.2.0 in
        let y = f.2.1 in
        let left : v ≤ᵉ c = le_transᵉ v x c f.2.4.left (sup.bound x (f.0, f.1, f.2.2)) in
        let high : v ≤ᵉ highest = le_transᵉ v y highest f.2.4.right f.2.3.at_most in
        let right : v ≤ᵉ d = at_most_inf highest d v inf high (λ z h. below_later f.0 h.0 x y v z f.1 h.1 f.2.2 f.2.3 f.2.4 h.2) in
        by_one left right least.one_of
      where
        by_one : v ≤ᵉ c → v ≤ᵉ d → (c ≤ᵉ r) ⊎ (d ≤ᵉ r) → v ≤ᵉ r
        by_one left right (inl k) = le_transᵉ v c r left k
        by_one left right (inr k) = le_transᵉ v d r right k

    -- the Inf of P up to u is above w, where P is above it up to u from the window's begin
    inf_above : (u : Rational) (w y : Extended) → W u → w <ᵉ d → w <ᵉ y → ((v : Rational) (p : Extended) → Stretch m u v → P v p → y ≤ᵉ p)
        → (e : Extended) × IsInfOver highest (Stretch t u) P e × (w <ᵉ e)
    inf_above u w y o near far all = by_order (le_totalᵉ e.0 w)
      where
        e : (e : Extended) × IsInfOver highest (Stretch t u) P e
        e = has.infs t u lies.at_start o

        k : (k : Extended) × IsLeast d y k
        k = least_of d y

        above : (v : Rational) (p : Extended) → Near v ⊎ Stretch m u v → P v p → k.0 ≤ᵉ p
        above v p (inl n) h = le_transᵉ k.0 d p k.1.left (near_above v p n h)
        above v p (inr n) h = le_transᵉ k.0 y p k.1.right (all v p n h)

        by_order : (e.0 ≤ᵉ w) ⊎ (w <ᵉ e.0) → (e : Extended) × IsInfOver highest (Stretch t u) P e × (w <ᵉ e)
        by_order (inr l) = (e.0, e.1, l)
        by_order (inl l) =
            let under : e.0 <ᵉ k.0 = lt_of_le_of_ltᵉ e.0 w k.0 l (below_least d y k.0 w k.1 near far) in
            let f = e.1.reached k.0 under (le_transᵉ k.0 d highest k.1.left inf.at_most) in
            clashᵉ f.0 k.0 f.2 (above f.1.0 f.0 (lies.parts u f.1.0 o f.1.1) f.1.2)

    reached : (w : Extended) → lowest ≤ᵉ w → w <ᵉ r → (v : Extended) × ((u : Rational) × W u × Reaches t u v) × (w <ᵉ v)
    reached w l h =
        let below_c : w <ᵉ c = lt_of_lt_of_leᵉ w r c h least.left in
        let below_d : w <ᵉ d = lt_of_lt_of_leᵉ w r d h least.right in
        let f = sup.reached w l below_c in
        let z = has.values m lies.at_begin in
        let g = z.1.reached w l (lt_of_lt_of_leᵉ w d z.0 below_d (inf.bound z.0 (m, lies.at_begin, z.1))) in
        let near : w <ᵉ g.1.2.1 = lt_of_lt_of_leᵉ w g.0 g.1.2.1 g.2 g.1.2.4.right in
        at_first f g near below_d (lies.earlier f.1.0 g.1.0 f.1.1 g.1.1)
      where
        Member : Type 0
        Member = (v : Extended) × ((u : Rational) × W u × Reaches t u v) × (w <ᵉ v)

        member : (u : Rational) (x : Extended) → W u → Q u x → w <ᵉ x → (e : Extended) × IsInfOver highest (Stretch t u) P e × (w <ᵉ e) → Member
        member u x o q k e = let n = least_of x e.0 in (n.0, (u, o, (x, e.0, q, e.1, n.1)), below_least x e.0 n.0 w n.1 k e.2)

        at_first : (f : (x : Extended) × ((u : Rational) × W u × Q u x) × (w <ᵉ x))
            (g : (v : Extended) × ((u : Rational) × Beyond m u × Reaches m u v) × (w <ᵉ v)) → w <ᵉ g.1.2.1 → w <ᵉ d
            → W g.1.0 ⊎ ((v : Rational) → Stretch m f.1.0 v → Stretch m g.1.0 v) → Member
        at_first f g near below (inl o) = member g.1.0 g.1.2.0 o g.1.2.2 (lt_of_lt_of_leᵉ w g.0 g.1.2.0 g.2 g.1.2.4.left)
            (inf_above g.1.0 w g.1.2.1 o below near (λ v p s h. g.1.2.3.bound p (v, s, h)))
        at_first f g near below (inr sub) = member f.1.0 f.0 f.1.1 f.1.2 f.2
            (inf_above f.1.0 w g.1.2.1 f.1.1 below near (λ v p s h. g.1.2.3.bound p (v, sub v s, h)))

    composed : IsSupOver lowest W (Reaches t) r
    composed = record { at_least = at_least; bound = bound; reached = reached }

-- over no times the least of the Sup and a value that is not below the lowest is the Sup of whatever else is asked for there
sup_of_empty : {S T : Extended → Type 0} (lowest c d r : Extended) → IsSup lowest S c → ((v : Extended) → ¬ S v) → ((v : Extended) → ¬ T v)
    → lowest ≤ᵉ d → IsLeast c d r → IsSup lowest T r
sup_of_empty {S} {T} lowest c d r sup none nothing above least = record {
  at_least = by_one least.one_of;
  bound = λ v m. absurd (nothing v m);
  reached = λ w l h. clashᵉ w lowest (lt_of_lt_of_leᵉ w r lowest h below) l;
}
  where
    below : r ≤ᵉ lowest
    below = le_transᵉ r c lowest least.left (sup_at_most lowest c lowest sup (le_reflᵉ lowest) (λ v m. absurd (none v m)))

    by_one : (c ≤ᵉ r) ⊎ (d ≤ᵉ r) → lowest ≤ᵉ r
    by_one (inl k) = le_transᵉ lowest c r sup.at_least k
    by_one (inr k) = le_transᵉ lowest d r above k

abbrev earlier : Rational → ℕ → Rational
earlier t k = record { up = t.up; down = t.down + k * t.den; den = t.den; positive = t.positive }

later_earlier : (t : Rational) (k : ℕ) → later (earlier t k) k ≤ʳ t
later_earlier t k = omega arith

earlier_later : (t : Rational) (k : ℕ) → t ≤ʳ later (earlier t k) k
earlier_later t k = omega arith

earlier_before : (t : Rational) (k : ℕ) → earlier t k ≤ʳ t
earlier_before t k = omega arith

earlier_of : (u t : Rational) (k : ℕ) → later u k ≤ʳ t → u ≤ʳ earlier t k
earlier_of u t k h = omega (arith, h)

earlier_of_later : (s t : Rational) (k : ℕ) → t ≤ʳ later s k → earlier t k ≤ʳ s
earlier_of_later s t k h = omega (arith, h)

-- what P needs between `from` and `to`: no value of it is below the lowest, and it has an Inf over each stretch
pub record HasInfs (lowest highest : Extended) (P : Function) (from to : Rational) : Type 0 where
  -- the lowest is at most the highest
  pub order : lowest ≤ᵉ highest
  -- no value is below the lowest
  pub low : (s : Rational) (p : Extended) → Within from to s → P s p → lowest ≤ᵉ p
  -- over each stretch there is an Inf
  pub infs : (s u : Rational) → from ≤ʳ s → s ≤ʳ u → u ≤ʳ to → (y : Extended) × IsInfOver highest (Within s u) P y

module _ {lowest highest : Extended} {P Q : Function} {from to : Rational} (given : HasInfs lowest highest P from to) where
  -- a bounded until is composed of its parts
  pub until_is_composed : HasUntilToEnd lowest highest from to P Q → UntilIsComposed lowest highest from to P Q
  until_is_composed values t a b c d r inside o sup inf least = by_place (le_or_lt (later t a) to)
    where
      W : Window
      W = Ahead from to a b true true t

      Near : Window
      Near = Ahead from to 0 a true true t

      in_time : (s : Rational) → Near s → t ≤ʳ s
      in_time s n = le_trans (later_from t 0) n.begins

      lies : later t a ≤ʳ to → Lies lowest highest P Q Within W Near (λ s u. Within s to u) t (later t a)
      lies h = record {
        at_start = record { inside = inside; begins = later_zero t; ends = later_from t a };
        at_begin = record {
          inside = record { above = le_trans inside.above (later_from t a); below = h };
          begins = later_more t 0 a (omega arith);
          ends = le_refl (later t a);
        };
        beyond = λ s u n w. record { above = le_trans n.ends w.begins; below = w.inside.below };
        sub = λ s u v n w k. record { above = le_trans (in_time s n) k.above; below = k.below };
        first = λ s u n k. record { above = le_refl s; below = k.above };
        parts = λ u v w k. by_part v w k (le_or_lt v (later t a));
        earlier = λ u w k l. by_end u w k l (le_or_lt w (later t b));
      }
        where
          by_part : {u : Rational} (v : Rational) → W u → Within t u v → (v ≤ʳ later t a) ⊎ (later t a <ʳ v) → Near v ⊎ Within (later t a) u v
          by_part v w k (inl l) = inl
              (record {
                inside = record { above = le_trans inside.above k.above; below = le_trans k.below w.inside.below };
                begins = le_trans (later_zero t) k.above;
                ends = l;
              })
          by_part v w k (inr l) = inr (record { above = le_of_lt l; below = k.below })

          by_end : (u w : Rational) → W u → Within (later t a) to w → (w ≤ʳ later t b) ⊎ (later t b <ʳ w)
              → W w ⊎ ((v : Rational) → Within (later t a) u v → Within (later t a) w v)
          by_end u w k l (inl m) = inl (record {
            inside = record { above = le_trans inside.above (le_trans (later_from t a) l.above); below = l.below };
            begins = l.above;
            ends = m;
          })
          by_end u w k l (inr m) = inr (λ v n. record { above = n.above; below = le_trans n.below (le_trans k.ends (le_of_lt m)) })

      has : Has lowest highest P Q Within W Near (λ s u. Within s to u) t (later t a)
      has = record {
        order = given.order;
        low = λ s p n h. given.low s p n.inside h;
        infs = λ s u n w. given.infs s u n.inside.above (le_trans n.ends w.begins) w.inside.below;
        values = λ s n. values s n.inside;
      }

      by_place : (later t a ≤ʳ to) ⊎ (to <ʳ later t a) → IsUntil lowest highest W P Q t r
      by_place (inl h) = composed lowest highest P Q Within W Near (λ s u. Within s to u) t (later t a) (lies h) has c d r sup inf least
      by_place (inr h) = sup_of_empty lowest c d r sup (λ v f. empty f.0 f.1) (λ v f. empty f.0 f.1)
          (at_most_inf highest d lowest inf given.order (λ v f. f.2.at_least)) least
        where
          empty : (u : Rational) → ¬ W u
          empty u w = not_lt_of_le (le_trans w.begins w.inside.below) h

  -- a bounded since is composed of its parts
  pub since_is_composed : HasSinceFromStart lowest highest from to P Q → SinceIsComposed lowest highest from to P Q
  since_is_composed values t a b c d r inside o sup inf least = by_place (le_or_lt from m)
    where
      m : Rational
      m = earlier t a

      W : Window
      W = Behind from to a b true true t

      Near : Window
      Near = Behind from to 0 (Some a) true true t

      Back : Rational → Rational → Window
      Back s u = Within u s

      Beyond : Rational → Window
      Beyond s u = Within from s u

      in_time : (s : Rational) → Near s → s ≤ʳ t
      in_time s n = le_trans (later_from s 0) n.ends

      -- a time in the window is not later than the one a before t
      at_begin : (u : Rational) → W u → u ≤ʳ m
      at_begin u w = earlier_of u t a w.ends

      lies : from ≤ʳ m → Lies lowest highest P Q Back W Near Beyond t m
      lies h = record {
        at_start = record { inside = inside; begins = later_from t a; ends = later_zero t };
        at_begin = record {
          inside = record { above = h; below = le_trans (earlier_before t a) inside.below };
          begins = earlier_later t a;
          ends = le_trans (later_zero m) (earlier_before t a);
        };
        beyond = λ s u n w. record { above = w.inside.above; below = le_trans (at_begin u w) (earlier_of_later s t a n.begins) };
        sub = λ s u v n w k. record { above = k.above; below = le_trans k.below (in_time s n) };
        first = λ s u n k. record { above = k.below; below = le_refl s };
        parts = λ u v w k. by_part v w k (le_or_lt m v);
        earlier = λ u w k l. by_start u w k l (le_or_lt u w);
      }
        where
          by_start : (u w : Rational) → W u → Within from m w → (u ≤ʳ w) ⊎ (w <ʳ u) → W w ⊎ ((v : Rational) → Within u m v → Within w m v)
          by_start u w k l (inl n) = inl (record {
            inside = record { above = l.above; below = le_trans l.below (le_trans (earlier_before t a) inside.below) };
            begins = still_begins b t u w n k.begins;
            ends = le_trans (later_le a l.below) (later_earlier t a);
          })
          by_start u w k l (inr n) = inr (λ v f. record { above = le_trans (le_of_lt n) f.above; below = f.below })

          by_part : {u : Rational} (v : Rational) → W u → Within u t v → (m ≤ʳ v) ⊎ (v <ʳ m) → Near v ⊎ Within u m v
          by_part v w k (inl l) = inl
              (record {
                inside = record { above = le_trans w.inside.above k.above; below = le_trans k.below inside.below };
                begins = le_trans (earlier_later t a) (later_le a l);
                ends = le_trans (later_zero v) k.below;
              })
          by_part v w k (inr l) = inr (record { above = k.above; below = le_of_lt l })

      has : Has lowest highest P Q Back W Near Beyond t m
      has = record {
        order = given.order;
        low = λ s p n h. given.low s p n.inside h;
        infs = λ s u n w. given.infs u s w.inside.above (le_trans (at_begin u w) (earlier_of_later s t a n.begins)) n.inside.below;
        values = λ s n. values s n.inside;
      }

      by_place : (from ≤ʳ m) ⊎ (m <ʳ from) → IsSince lowest highest W P Q t r
      by_place (inl h) = composed lowest highest P Q Back W Near Beyond t m (lies h) has c d r sup inf least
      by_place (inr h) = sup_of_empty lowest c d r sup (λ v f. empty f.0 f.1) (λ v f. empty f.0 f.1)
          (at_most_inf highest d lowest inf given.order (λ v f. f.2.at_least)) least
        where
          empty : (u : Rational) → ¬ W u
          empty u w = not_lt_of_le (le_trans w.inside.above (at_begin u w)) h
