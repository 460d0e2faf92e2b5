-- Until and since over a window, composed of windows and of until to the end and since from the start.
use Rattle.std.proofs.Common.{◌≡◌, ◌⊎◌, inl, inr, ℕ, ℤ, pos, neg_ℤ, ◌≤◌, ◌^◌, ◌≤ℤ◌, Bool, true, false, refl, sym, subst, arith}
use Rattle.std.specs.Prelude.{Option, Some, None, IfSome, IsTrue}
use Rattle.std.proofs.lemmas.Int.{ints}
use Rattle.rational.specs.Time.{Rational, Within, later, ◌≈◌, ◌≤ʳ◌}
use Rattle.rational.specs.Extended.{Extended, ◌≈ᵉ◌, IsSup, IsLeast}
use Rattle.rational.specs.Affine.{IsBounded}
use Rattle.rational.specs.Windows.{Function, Window, Ahead, Behind, IsSupOver, IsInfOver, IsUntil, IsSince, UntilToEnd, SinceFromStart, IsUpTo, IsDownTo}
use Rattle.rational.specs.InPlay.{Step, of_two, until_end, since_start, window_ahead, window_behind}
use Rattle.rational.proofs.Order.{le_trans, le_of_same, ge_of_same, same_refl, same_sym, same_trans}
use Rattle.rational.proofs.ExtendedLemmas.{Sup-unique}
use Rattle.rational.proofs.TimeLemmas.{later_from, later_le, later_zero, within_stretch}
use Rattle.rational.proofs.WindowLemmas.{sup_alike, sup_over_alike}
use Rattle.value_laws.specs.Members.{ShapeLaws}
use Rattle.pl_signal.specs.declared.faults.OpFault.{OpFault}
use Rattle.pl_signal.specs.declared.joining.Side.TheVariants.{Least}
use Rattle.pl_signal.specs.Joining.{ChosenOf}
use Rattle.pl_signal.specs.Wide.{HasCause}
use Rattle.pieces.specs.Windows.{SupAhead, InfAhead, SupBehind, InfBehind}
use Rattle.rational.specs.UntilParts.{HasUntilToEnd, HasSinceFromStart, UntilIsComposed, SinceIsComposed}
use Rattle.stl_syntax.specs.Formula.{Subformula, until, since}
use Rattle.stl_syntax.specs.SupInf.{Setting, SupInf}
use Rattle.stl_syntax.specs.WideCause.{until_to_end, since_from_start, inf_ahead, sup_ahead, inf_behind, sup_behind}
use Rattle.pieces.proofs.PlayAlong.{ahead_ends, behind_ends, until_along, since_along}
use Rattle.pieces.proofs.Stretches.{AreAlike, IsOn, within_same_ends}
use Rattle.offline_eval.specs.Forms.{Form}
use Rattle.offline_eval.specs.Making.{HasEnds, IsFit, AreFit, IsFaultOf}
use Rattle.offline_eval.proofs.Along.{tells_along}
use Rattle.rational.proofs.Bounds.{sup_bounded, least_bounded}
use Rattle.offline_eval.proofs.Causes.{cause_of, on_of, two_cause}
use Rattle.offline_eval.proofs.Forms.{FormLaws, IsTold}
use Rattle.offline_eval.proofs.Sound.{BasesOfTwo, IsMovedBy, limited_along}
use Rattle.offline_eval.proofs.WindowLemmas.{inf_of, inf_over_bounded, ahead_cause, behind_cause}
use Rattle.offline_eval.proofs.WindowLemmas.{sup_ahead_told, inf_ahead_told, sup_behind_told, inf_behind_told, ComesFrom}

module _ {X P : Type 0} (form : Form X P) (x y : X) where
  -- x since y, where y counts from the start on
  abbrev pub SinceOf : Function
  SinceOf = SinceFromStart form.shape.lowest form.shape.highest (form.start x) (form.IsWorth x) (form.IsWorth y)

  -- x until y, where y counts up to the end
  abbrev pub UntilOf : Function
  UntilOf = UntilToEnd form.shape.lowest form.shape.highest (form.stop x) (form.IsWorth x) (form.IsWorth y)

  -- the step that makes the one
  abbrev pub SinceStep : Step
  SinceStep = since_start (form.IsWorth x) (form.IsWorth y) SinceOf

  -- and the step that makes the other
  abbrev pub UntilStep : Step
  UntilStep = until_end (form.IsWorth x) (form.IsWorth y) UntilOf

-- a set has one Sup
pub one_sup : {V : Extended → Type 0} (lowest r w : Extended) → IsSup lowest V r → IsSup lowest V w → r ≈ᵉ w
one_sup lowest r w h k = record { at_most = Sup-unique lowest r w h k; at_least = Sup-unique lowest w r k h }

module _ {X P : Type 0} {form : Form X P} (laws : FormLaws form) where
  -- a signal whose values are those of a function that has one value at a time tells it
  tells_by_value : (E F : Function) (a b from to : Rational) (x : X) → form.Tells E a b x → form.start x ≈ from → form.stop x ≈ to
      → ((t : Rational) (v : Extended) → form.IsWorth x t v → F t v) → ((t : Rational) (v w : Extended) → F t v → F t w → v ≈ᵉ w) → form.Tells F from to x
  tells_by_value E F a b from to x made begins ends forth one = laws.retold E F a b from to x made (record {
    begins = begins;
    ends = ends;
    worth = λ t v. (λ w. (within_same_ends at_start at_stop ((is.worth t v).0 w).0, forth t v w), λ (i, f). by_value t v i f);
  })
    where
      is : IsTold form E a b x
      is = laws.told E a b x made

      at_start : a ≈ from
      at_start = same_trans (same_sym is.begins) begins

      at_stop : b ≈ to
      at_stop = same_trans (same_sym is.ends) ends

      by_value : (t : Rational) (v : Extended) → Within from to t → F t v → form.IsWorth x t v
      by_value t v i f =
          let o = laws.every_time E a b x t made (within_same_ends (same_sym at_start) (same_sym at_stop) i) in
          laws.worth_same x t o.0 v (one t o.0 v (forth t o.0 o.1) f) o.1

  -- the until to the end has a value, as its signal shows
  pub has_to_end : (x y r : X) → form.Tells (UntilOf form x y) (form.start x) (form.stop x) r
      → HasUntilToEnd form.shape.lowest form.shape.highest (form.start x) (form.stop x) (form.IsWorth x) (form.IsWorth y)
  has_to_end x y r made t i =
      let o = laws.every_time (UntilOf form x y) (form.start x) (form.stop x) r t made i in
      (o.0, (((laws.told (UntilOf form x y) (form.start x) (form.stop x) r made).worth t o.0).0 o.1).1)

  -- so for since from the start
  pub has_from_start : (x y r : X) → form.Tells (SinceOf form x y) (form.start x) (form.stop x) r
      → HasSinceFromStart form.shape.lowest form.shape.highest (form.start x) (form.stop x) (form.IsWorth x) (form.IsWorth y)
  has_from_start x y r made t i =
      let o = laws.every_time (SinceOf form x y) (form.start x) (form.stop x) r t made i in
      (o.0, (((laws.told (SinceOf form x y) (form.start x) (form.stop x) r made).worth t o.0).0 o.1).1)

  module _ (F G : Function) (from to : Rational) (x y : X) (left : IsTold form F from to x) (right : IsTold form G from to y) where
    -- the least of Q at u and the Inf of P over a stretch from t to u
    abbrev RunOf : (Rational → Rational → Window) → Function → Function → Rational → Function
    RunOf S P Q t u v = (a b : Extended) × Q u a × IsInfOver form.shape.highest (S t u) P b × IsLeast a b v

    module _ (S : Rational → Rational → Window) (stays : (t u w : Rational) → Within from to t → Within from to u → S t u w → Within from to w) where
      run_of : (t u : Rational) (v : Extended) → Within from to t → Within from to u
          → (RunOf S (form.IsWorth x) (form.IsWorth y) t u v → RunOf S F G t u v) × (RunOf S F G t u v → RunOf S (form.IsWorth x) (form.IsWorth y) t u v)
      run_of t u v i j =
          let same = λ (b : Extended). inf_of laws F from to x (S t u) (S t u) b left (λ w k. k) (λ w k. k) (λ w k. stays t u w i j k) in (
            λ (a, b, q, p, l). (a, b, ((right.worth u a).0 q).1, (same b).0 p, l),
            λ (a, b, q, p, l). (a, b, (right.worth u a).1 (j, q), (same b).1 p, l),
          )

      -- and the Sup of that over a window
      runs_of : (W W' : Window) (t : Rational) (v : Extended) → Within from to t → ((u : Rational) → W u → W' u) → ((u : Rational) → W' u → W u)
          → ((u : Rational) → W' u → Within from to u)
          → (IsSupOver form.shape.lowest W (RunOf S (form.IsWorth x) (form.IsWorth y) t) v → IsSupOver form.shape.lowest W' (RunOf S F G t) v)
          × (IsSupOver form.shape.lowest W' (RunOf S F G t) v → IsSupOver form.shape.lowest W (RunOf S (form.IsWorth x) (form.IsWorth y) t) v)
      runs_of W W' t v i forth back inside = (
        sup_alike form.shape.lowest v (λ z (u, w, f). (u, forth u w, (run_of t u z i (inside u (forth u w))).0 f))
            (λ z (u, w, f). (u, back u w, (run_of t u z i (inside u w)).1 f)),
        sup_alike form.shape.lowest v (λ z (u, w, f). (u, back u w, (run_of t u z i (inside u w)).1 f))
            (λ z (u, w, f). (u, forth u w, (run_of t u z i (inside u (forth u w))).0 f)),
      )

    until_of : (W W' : Window) (t : Rational) (v : Extended) → Within from to t → ((u : Rational) → W u → W' u) → ((u : Rational) → W' u → W u)
        → ((u : Rational) → W' u → Within from to u)
        → (IsUntil form.shape.lowest form.shape.highest W (form.IsWorth x) (form.IsWorth y) t v → IsUntil form.shape.lowest form.shape.highest W' F G t v)
        × (IsUntil form.shape.lowest form.shape.highest W' F G t v → IsUntil form.shape.lowest form.shape.highest W (form.IsWorth x) (form.IsWorth y) t v)
    until_of = runs_of (λ t u. Within t u) (λ t u w i j k. within_stretch i j k)

    since_of : (W W' : Window) (t : Rational) (v : Extended) → Within from to t → ((u : Rational) → W u → W' u) → ((u : Rational) → W' u → W u)
        → ((u : Rational) → W' u → Within from to u)
        → (IsSince form.shape.lowest form.shape.highest W (form.IsWorth x) (form.IsWorth y) t v → IsSince form.shape.lowest form.shape.highest W' F G t v)
        × (IsSince form.shape.lowest form.shape.highest W' F G t v → IsSince form.shape.lowest form.shape.highest W (form.IsWorth x) (form.IsWorth y) t v)
    since_of = runs_of (λ t u. Within u t) (λ t u w i j k. within_stretch j i k)

    -- until to the end of the signals is that of the functions
    to_end_of : (t : Rational) (v : Extended) → Within from to t → (UntilOf form x y t v → UntilToEnd form.shape.lowest form.shape.highest to F G t v)
        × (UntilToEnd form.shape.lowest form.shape.highest to F G t v → UntilOf form x y t v)
    to_end_of t v i = until_of (Within t (form.stop x)) (Within t to) t v i
        (λ u w. record { above = w.above; below = le_trans w.below (le_of_same left.ends) })
        (λ u w. record { above = w.above; below = le_trans w.below (ge_of_same left.ends) })
        (λ u w. record { above = le_trans i.above w.above; below = w.below })

    from_start_of : (t : Rational) (v : Extended) → Within from to t
        → (SinceOf form x y t v → SinceFromStart form.shape.lowest form.shape.highest from F G t v)
        × (SinceFromStart form.shape.lowest form.shape.highest from F G t v → SinceOf form x y t v)
    from_start_of t v i = since_of (Within (form.start x) t) (Within from t) t v i
        (λ u w. record { above = le_trans (ge_of_same left.begins) w.above; below = w.below })
        (λ u w. record { above = le_trans (le_of_same left.begins) w.above; below = w.below })
        (λ u w. record { above = w.above; below = le_trans w.below i.below })

    -- the until to the end is that of what the children tell
    pub to_end_told : (r : X) → form.Tells (UntilOf form x y) (form.start x) (form.stop x) r
        → form.Tells (UntilToEnd form.shape.lowest form.shape.highest to F G) from to r
    to_end_told r made = tells_along laws (UntilOf form x y) (UntilToEnd form.shape.lowest form.shape.highest to F G) (form.start x)
        (form.stop x) from to r made left.begins left.ends to_end_of

    -- so for since from the start
    pub from_start_told : (r : X) → form.Tells (SinceOf form x y) (form.start x) (form.stop x) r
        → form.Tells (SinceFromStart form.shape.lowest form.shape.highest from F G) from to r
    from_start_told r made = tells_along laws (SinceOf form x y) (SinceFromStart form.shape.lowest form.shape.highest from F G) (form.start x)
        (form.stop x) from to r made left.begins left.ends from_start_of

    -- over a window that ends now and reaches the start it is the since
    pub so_far_told : (b : Option ℕ) (r : X) → IfSome b (λ b. to ≤ʳ later from b) → form.Tells (SinceOf form x y) (form.start x) (form.stop x) r
        → form.Tells (λ t v. IsSince form.shape.lowest form.shape.highest (Behind from to 0 b true true t) F G t v) from to r
    so_far_told b r far made = tells_along laws (SinceFromStart form.shape.lowest form.shape.highest from F G)
        (λ t v. IsSince form.shape.lowest form.shape.highest (Behind from to 0 b true true t) F G t v) from to from to r
        (from_start_told r made) (same_refl from) (same_refl to)
        (λ t v i. (
          sup_over_alike (Within from t) (Behind from to 0 b true true t) (IsDownTo form.shape.highest F G t) form.shape.lowest v (forth t i) (back t),
          sup_over_alike (Behind from to 0 b true true t) (Within from t) (IsDownTo form.shape.highest F G t) form.shape.lowest v (back t) (forth t i),
        ))
      where
        reached : (b : Option ℕ) → IfSome b (λ b. to ≤ʳ later from b) → (t u : Rational) → t ≤ʳ to → from ≤ʳ u → IfSome b (λ b. t ≤ʳ later u b)
        reached None far t u i w = tt
        reached (Some b) far t u i w = le_trans i (le_trans far (later_le b w))

        forth : (t : Rational) → Within from to t → (u : Rational) → Within from t u → Behind from to 0 b true true t u
        forth t i u w = record {
          inside = record { above = w.above; below = le_trans w.below i.below };
          begins = reached b far t u i.below w.above;
          ends = le_trans (later_zero u) w.below;
        }

        back : (t : Rational) (u : Rational) → Behind from to 0 b true true t u → Within from t u
        back t u o = record { above = o.inside.above; below = le_trans (later_from u 0) o.ends }

    -- over a window that begins now and reaches the end it is the until
    pub from_now_on_told : (b : ℕ) (r : X) → to ≤ʳ later from b → form.Tells (UntilOf form x y) (form.start x) (form.stop x) r
        → form.Tells (λ t v. IsUntil form.shape.lowest form.shape.highest (Ahead from to 0 b true true t) F G t v) from to r
    from_now_on_told b r far made = tells_along laws (UntilToEnd form.shape.lowest form.shape.highest to F G)
        (λ t v. IsUntil form.shape.lowest form.shape.highest (Ahead from to 0 b true true t) F G t v) from to from to r
        (to_end_told r made) (same_refl from) (same_refl to)
        (λ t v i. (
          sup_over_alike (Within t to) (Ahead from to 0 b true true t) (IsUpTo form.shape.highest F G t) form.shape.lowest v (forth t i) (back t),
          sup_over_alike (Ahead from to 0 b true true t) (Within t to) (IsUpTo form.shape.highest F G t) form.shape.lowest v (back t) (forth t i),
        ))
      where
        forth : (t : Rational) → Within from to t → (u : Rational) → Within t to u → Ahead from to 0 b true true t u
        forth t i u w = record {
          inside = record { above = le_trans i.above w.above; below = w.below };
          begins = le_trans (later_zero t) w.above;
          ends = le_trans w.below (le_trans far (later_le b i.above));
        }

        back : (t : Rational) (u : Rational) → Ahead from to 0 b true true t u → Within t to u
        back t u a = record { above = le_trans (later_from t 0) a.begins; below = a.inside.below }

    -- both signals have the same domain
    same_begins : form.start y ≈ form.start x
    same_begins = same_trans right.begins (same_sym left.begins)

    same_ends : form.stop y ≈ form.stop x
    same_ends = same_trans right.ends (same_sym left.ends)

    module _ (c u d r : X) where
      -- the least of two windows tells what it is at each time, of a function with one value
      least_told : (H : Function) {E : Function} → IsTold form E (form.start y) (form.stop y) c
          → form.Tells (ChosenOf Least (form.IsWorth c) (form.IsWorth d)) (form.start c) (form.stop c) r
          → ((t : Rational) (v : Extended) → Within (form.start x) (form.stop x) t → ChosenOf Least (form.IsWorth c) (form.IsWorth d) t v → H t v)
          → ((t : Rational) (v w : Extended) → H t v → H t w → v ≈ᵉ w) → form.Tells H from to r
      least_told H within made forth one =
          let least = laws.told (ChosenOf Least (form.IsWorth c) (form.IsWorth d)) (form.start c) (form.stop c) r made in
          tells_by_value (ChosenOf Least (form.IsWorth c) (form.IsWorth d)) H (form.start c) (form.stop c) from to r made
          (same_trans least.begins (same_trans within.begins right.begins)) (same_trans least.ends (same_trans within.ends right.ends))
          (λ t v w. let k = (least.worth t v).0 w in
          forth t v (within_same_ends (same_trans within.begins same_begins) (same_trans within.ends same_ends) k.0) k.1) one

      -- the least of both windows tells the bounded until
      pub until_told : (a b : ℕ) → a ≤ b
          → IsTold form (SupAhead (form.start y) (form.stop y) (form.IsWorth y) form.shape.lowest a b true true) (form.start y) (form.stop y) c
          → IsTold form (UntilOf form x y) (form.start x) (form.stop x) u
          → IsTold form (InfAhead (form.start u) (form.stop u) (form.IsWorth u) form.shape.highest 0 a true true) (form.start u) (form.stop u) d
          → form.Tells (ChosenOf Least (form.IsWorth c) (form.IsWorth d)) (form.start c) (form.stop c) r
          → UntilIsComposed form.shape.lowest form.shape.highest (form.start x) (form.stop x) (form.IsWorth x) (form.IsWorth y)
          → form.Tells (λ t v. IsUntil form.shape.lowest form.shape.highest (Ahead from to a b true true t) F G t v) from to r
      until_told a b order within to_end kept made law =
          least_told (λ t v. IsUntil form.shape.lowest form.shape.highest (Ahead from to a b true true t) F G t v) within made of_parts
          (λ t v w h k. one_sup form.shape.lowest v w h k)
        where
          of_parts : (t : Rational) (v : Extended) → Within (form.start x) (form.stop x) t → ChosenOf Least (form.IsWorth c) (form.IsWorth d) t v
              → IsUntil form.shape.lowest form.shape.highest (Ahead from to a b true true t) F G t v
          of_parts t v j (p, q, f, g, one) =
              let sup = sup_alike form.shape.lowest p (λ z (w, k, h). (
                w,
                ahead_ends (form.start y) (form.stop y) (form.start x)
                    (form.stop x) same_begins same_ends k,
                h,
              ))
              (λ z (w, k, h). (w, ahead_ends (form.start x) (form.stop x) (form.start y) (form.stop y) (same_sym same_begins) (same_sym same_ends) k, h))
              ((within.worth t p).0 f).1 in
              let inf = (inf_of laws (UntilOf form x y) (form.start x) (form.stop x) u (Ahead (form.start u) (form.stop u) 0 a true true t)
              (Ahead (form.start x) (form.stop x) 0 a true true t) q to_end
              (λ w k. ahead_ends (form.start u) (form.stop u) (form.start x) (form.stop x) to_end.begins to_end.ends k)
              (λ w k. ahead_ends (form.start x) (form.stop x) (form.start u) (form.stop u) (same_sym to_end.begins) (same_sym to_end.ends) k)
              (λ w k. k.inside)).0
              ((kept.worth t q).0 g).1 in
              (until_of (Ahead (form.start x) (form.stop x) a b true true t) (Ahead from to a b true true t) t v (within_same_ends left.begins left.ends j)
              (λ w k. ahead_ends (form.start x) (form.stop x) from to left.begins left.ends k)
              (λ w k. ahead_ends from to (form.start x) (form.stop x) (same_sym left.begins) (same_sym left.ends) k) (λ w k. k.inside)).0
              (law t a b p q v j order sup inf one)

      -- so for since
      pub since_told : (a : ℕ) (b : Option ℕ) → IfSome b (λ b. a ≤ b)
          → IsTold form (SupBehind (form.start y) (form.stop y) (form.IsWorth y) form.shape.lowest a b true true) (form.start y) (form.stop y) c
          → IsTold form (SinceOf form x y) (form.start x) (form.stop x) u
          → IsTold form (InfBehind (form.start u) (form.stop u) (form.IsWorth u) form.shape.highest 0 (Some a) true true) (form.start u) (form.stop u) d
          → form.Tells (ChosenOf Least (form.IsWorth c) (form.IsWorth d)) (form.start c) (form.stop c) r
          → SinceIsComposed form.shape.lowest form.shape.highest (form.start x) (form.stop x) (form.IsWorth x) (form.IsWorth y)
          → form.Tells (λ t v. IsSince form.shape.lowest form.shape.highest (Behind from to a b true true t) F G t v) from to r
      since_told a b order within from_start kept made law =
          least_told (λ t v. IsSince form.shape.lowest form.shape.highest (Behind from to a b true true t) F G t v) within made of_parts
          (λ t v w h k. one_sup form.shape.lowest v w h k)
        where
          of_parts : (t : Rational) (v : Extended) → Within (form.start x) (form.stop x) t → ChosenOf Least (form.IsWorth c) (form.IsWorth d) t v
              → IsSince form.shape.lowest form.shape.highest (Behind from to a b true true t) F G t v
          of_parts t v j (p, q, f, g, one) =
              let sup = sup_alike form.shape.lowest p (λ z (w, k, h). (
                w,
                behind_ends (form.start y) (form.stop y) (form.start x)
                    (form.stop x) same_begins same_ends k,
                h,
              ))
              (λ z (w, k, h). (w, behind_ends (form.start x) (form.stop x) (form.start y) (form.stop y) (same_sym same_begins) (same_sym same_ends) k, h))
              ((within.worth t p).0 f).1 in
              let inf = (inf_of laws (SinceOf form x y) (form.start x) (form.stop x) u (Behind (form.start u) (form.stop u) 0 (Some a) true true t)
              (Behind (form.start x) (form.stop x) 0 (Some a) true true t) q from_start
              (λ w k. behind_ends (form.start u) (form.stop u) (form.start x) (form.stop x) from_start.begins from_start.ends k)
              (λ w k. behind_ends (form.start x) (form.stop x) (form.start u) (form.stop u) (same_sym from_start.begins) (same_sym from_start.ends) k)
              (λ w k. k.inside)).0 ((kept.worth t q).0 g).1 in
              (since_of (Behind (form.start x) (form.stop x) a b true true t) (Behind from to a b true true t) t v (within_same_ends left.begins left.ends j)
              (λ w k. behind_ends (form.start x) (form.stop x) from to left.begins left.ends k)
              (λ w k. behind_ends from to (form.start x) (form.stop x) (same_sym left.begins) (same_sym left.ends) k) (λ w k. k.inside)).0
              (law t a b p q v j order sup inf one)

  -- what one signal tells, it tells at the times of another that tells over the same stretch
  on_other : (F G : Function) (from to : Rational) (x y : X) → form.Tells F from to x → form.Tells G from to y
      → IsOn (form.start x) (form.stop x) (form.IsWorth y) G
  on_other F G from to x y left right =
      let first = laws.told F from to x left in
      let second = laws.told G from to y right in
      let o = on_of laws G from to y right in
      let begins = same_trans second.begins (same_sym first.begins) in
      let ends = same_trans second.ends (same_sym first.ends) in
      record {
        inside = λ t v w. within_same_ends begins ends (o.inside t v w);
        forth = o.forth;
        back = λ t v i f. o.back t v (within_same_ends (same_sym begins) (same_sym ends) i) f;
      }

  -- faults of until to the end and of since from the start
  pub to_end_fault : (x y : X) (p q : Subformula) (a b : ℕ) (s : Setting) (e : OpFault P) → s.lowest ≡ form.shape.lowest
      → s.highest ≡ form.shape.highest → form.Tells (SupInf p s) s.from s.to x → form.Tells (SupInf q s) s.from s.to y
      → HasCause form.shape (UntilStep form x y) (form.start x) (form.stop x) e → IsFaultOf form.shape s (until a b p q) e
  to_end_fault x y p q a b s e low high left right h =
      cause_of form.shape (UntilStep form x y) (until_end (SupInf p s) (SupInf q s) (until_to_end s (SupInf p s) (SupInf q s))) (form.start x) (form.stop x)
      (until a b p q) s e first.begins first.ends
      (λ tau line k l i. until_along (form.start x) (form.stop x) s.from s.to first.begins first.ends (form.IsWorth x) (SupInf p s) (form.IsWorth y)
      (SupInf q s) (UntilOf form x y) (until_to_end s (SupInf p s) (SupInf q s))
      (on_of laws (SupInf p s) s.from s.to x left) (on_other (SupInf p s) (SupInf q s) s.from s.to x y left right) alike tau line k i)
      (λ C i. inr (inl i)) h
    where
      first : IsTold form (SupInf p s) s.from s.to x
      first = laws.told (SupInf p s) s.from s.to x left

      second : IsTold form (SupInf q s) s.from s.to y
      second = laws.told (SupInf q s) s.from s.to y right

      alike : AreAlike (form.start x) (form.stop x) (UntilOf form x y) (until_to_end s (SupInf p s) (SupInf q s))
      alike = record {
        forth = λ t v i w. subst (λ l. UntilToEnd l s.highest s.to (SupInf p s) (SupInf q s) t v) (sym low)
            (subst (λ h. UntilToEnd form.shape.lowest h s.to (SupInf p s) (SupInf q s) t v) (sym high)
            ((to_end_of (SupInf p s) (SupInf q s) s.from s.to x y first second t v (within_same_ends first.begins first.ends i)).0 w));
      }

  -- for since
  pub from_start_fault : (x y : X) (p q : Subformula) (a : ℕ) (b : Option ℕ) (s : Setting) (e : OpFault P) → s.lowest ≡ form.shape.lowest
      → s.highest ≡ form.shape.highest → form.Tells (SupInf p s) s.from s.to x → form.Tells (SupInf q s) s.from s.to y
      → HasCause form.shape (SinceStep form x y) (form.start x) (form.stop x) e → IsFaultOf form.shape s (since a b p q) e
  from_start_fault x y p q a b s e low high left right h =
      cause_of form.shape (SinceStep form x y) (since_start (SupInf p s) (SupInf q s) (since_from_start s (SupInf p s) (SupInf q s))) (form.start x)
      (form.stop x)
      (since a b p q) s e first.begins first.ends
      (λ tau line k l i. since_along (form.start x) (form.stop x) s.from s.to first.begins first.ends (form.IsWorth x) (SupInf p s) (form.IsWorth y)
      (SupInf q s) (SinceOf form x y) (since_from_start s (SupInf p s) (SupInf q s))
      (on_of laws (SupInf p s) s.from s.to x left) (on_other (SupInf p s) (SupInf q s) s.from s.to x y left right) alike tau line l i)
      (λ C i. inr (inl i)) h
    where
      first : IsTold form (SupInf p s) s.from s.to x
      first = laws.told (SupInf p s) s.from s.to x left

      second : IsTold form (SupInf q s) s.from s.to y
      second = laws.told (SupInf q s) s.from s.to y right

      alike : AreAlike (form.start x) (form.stop x) (SinceOf form x y) (since_from_start s (SupInf p s) (SupInf q s))
      alike = record {
        forth = λ t v i w. subst (λ l. SinceFromStart l s.highest s.from (SupInf p s) (SupInf q s) t v) (sym low)
            (subst (λ h. SinceFromStart form.shape.lowest h s.from (SupInf p s) (SupInf q s) t v) (sym high)
            ((from_start_of (SupInf p s) (SupInf q s) s.from s.to x y first second t v (within_same_ends first.begins first.ends i)).0 w));
      }

module _ {X P : Type 0} {form : Form X P} (laws : FormLaws form) where
  -- the values of until to the end and of since from the start are bounded
  to_end_bounded : (x y : X) → IsBounded (2 ^ 31) form.shape.lowest → IsBounded (2 ^ 31) form.shape.highest → form.IsLimited x → form.IsLimited y
      → (t : Rational) (v : Extended) → UntilOf form x y t v → IsBounded (2 ^ 31) v
  to_end_bounded x y low high l m t v sup = sup_bounded (2 ^ 31) _ form.shape.lowest v low
      (λ z (u, w, (a, b, q, p, least)). least_bounded (2 ^ 31) a b z least (laws.bounded y m u a q)
      (inf_over_bounded laws x (Within t u) b high l p)) sup

  from_start_bounded : (x y : X) → IsBounded (2 ^ 31) form.shape.lowest → IsBounded (2 ^ 31) form.shape.highest → form.IsLimited x → form.IsLimited y
      → (t : Rational) (v : Extended) → SinceOf form x y t v → IsBounded (2 ^ 31) v
  from_start_bounded x y low high l m t v sup = sup_bounded (2 ^ 31) _ form.shape.lowest v low
      (λ z (u, w, (a, b, q, p, least)). least_bounded (2 ^ 31) a b z least (laws.bounded y m u a q)
      (inf_over_bounded laws x (Within u t) b high l p)) sup

  module _ (kind : ShapeLaws form.shape) where
    near_zero : (b : ℤ) → b ≡ pos 0 → (neg_ℤ (pos (2 ^ 32)) ≤ℤ b) × (b ≤ℤ pos (2 ^ 33))
    near_zero b e = (omega (arith, ints, e), omega (arith, ints, e))

    near_of_two : (x y r : X) → IsFit form x → IsFit form y → BasesOfTwo form x y r → (p : P) → form.HasShape r p
        → (neg_ℤ (pos (2 ^ 32)) ≤ℤ form.shape.base p) × (form.shape.base p ≤ℤ pos (2 ^ 33))
    near_of_two x y r s u bases p h = by_test (form.shape.moves p) refl
      where
        of_one : (q : P) → form.HasShape x q ⊎ form.HasShape y q → (neg_ℤ (pos (2 ^ 32)) ≤ℤ form.shape.base q) × (form.shape.base q ≤ℤ pos (2 ^ 33))
        of_one q (inl k) = s.near q k
        of_one q (inr k) = u.near q k

        by_test : (b : Bool) → form.shape.moves p ≡ b → (neg_ℤ (pos (2 ^ 32)) ≤ℤ form.shape.base p) × (form.shape.base p ≤ℤ pos (2 ^ 33))
        by_test true e = let f = bases p h e in subst (λ b. (neg_ℤ (pos (2 ^ 32)) ≤ℤ b) × (b ≤ℤ pos (2 ^ 33))) (sym f.3) (of_one f.0 f.1)
        by_test false e = near_zero (form.shape.base p) (kind.base_of_others p e)

    fit_of : (W : Function) (x y r : X) → AreFit form x y → form.Tells W (form.start x) (form.stop x) r → BasesOfTwo form x y r
        → ((t : Rational) (v : Extended) → W t v → IsBounded (2 ^ 31) v) → IsFit form r
    fit_of W x y r fit made bases bounded =
        let is = laws.told W (form.start x) (form.stop x) r made in record {
          limited = limited_along laws W x r fit.left.limited made bounded;
          first = le_trans fit.left.first (ge_of_same is.begins);
          last = le_trans (le_of_same is.ends) fit.left.last;
          near = near_of_two x y r fit.left fit.right bases;
        }

    -- until to the end of fit signals is fit
    pub to_end_fit : (x y r : X) → AreFit form x y → form.Tells (UntilOf form x y) (form.start x) (form.stop x) r → BasesOfTwo form x y r → IsFit form r
    to_end_fit x y r fit made bases = fit_of (UntilOf form x y) x y r fit made bases
        (to_end_bounded x y kind.lowest_bounded kind.highest_bounded fit.left.limited fit.right.limited)

    -- so for since from the start
    pub from_start_fit : (x y r : X) → AreFit form x y → form.Tells (SinceOf form x y) (form.start x) (form.stop x) r → BasesOfTwo form x y r
        → IsFit form r
    from_start_fit x y r fit made bases = fit_of (SinceOf form x y) x y r fit made bases
        (from_start_bounded x y kind.lowest_bounded kind.highest_bounded fit.left.limited fit.right.limited)

moved_same : (own more : ℕ) (old other new : ℤ) → own ≤ more → IsMovedBy own old new → old ≡ other → IsMovedBy more other new
moved_same own more old other new h m e = let a = m.not_less in let b = m.not_more in
    record { not_less = omega (arith, ints, h, a, e); not_more = omega (arith, ints, h, b, e) }

module _ {X P : Type 0} (form : Form X P) where
  -- the parts of which until and since are composed, and where the shapes of each come from: c from y, u from x and y, d from u, and r from c and d
  pub record AreParts (less own : ℕ) (x y c u d r : X) : Type 0 where
    -- the one move is no longer than the other
    pub order : less ≤ own
    -- the shapes of c come from y, moved by at most `own`
    pub within : (p : P) → form.HasShape c p → IsTrue (form.shape.moves p) → ComesFrom form own y p
    -- those of u come from x and y
    pub both : BasesOfTwo form x y u
    -- those of d come from u, moved by at most `less`
    pub kept : (p : P) → form.HasShape d p → IsTrue (form.shape.moves p) → ComesFrom form less u p
    -- those of r come from c and d
    pub shapes : (p : P) → form.HasShape r p → form.HasShape c p ⊎ form.HasShape d p

  -- so each shape of the whole comes from one of the two signals
  pub composed_moved : (less own : ℕ) (x y c u d r : X) → AreParts less own x y c u d r
      → (p : P) → form.HasShape r p → IsTrue (form.shape.moves p) → (q : P) × (form.HasShape x q ⊎ form.HasShape y q) × IsMovedBy own (form.shape.base q)
      (form.shape.base p)
  composed_moved less own x y c u d r parts p h m = by_part (parts.shapes p h)
    where
      by_part : form.HasShape c p ⊎ form.HasShape d p → (q : P) × (form.HasShape x q ⊎ form.HasShape y q)
          × IsMovedBy own (form.shape.base q) (form.shape.base p)
      by_part (inl k) = let f = parts.within p k m in (f.0, inr f.1, f.3)
      by_part (inr k) = let f = parts.kept p k m in let g = parts.both f.0 f.1 f.2 in
          (g.0, g.1, moved_same less own (form.shape.base f.0) (form.shape.base g.0) (form.shape.base p) parts.order f.3 g.3)

-- the steps of until and since in a setting
module _ {X P : Type 0} {form : Form X P} (laws : FormLaws form) (s : Setting) (p q : Subformula)
    (ends : HasEnds form.shape.lowest form.shape.highest s) (x y : X)
    (left : form.Tells (SupInf p s) s.from s.to x) (right : form.Tells (SupInf q s) s.from s.to y) where
  first : IsTold form (SupInf p s) s.from s.to x
  first = laws.told (SupInf p s) s.from s.to x left

  second : IsTold form (SupInf q s) s.from s.to y
  second = laws.told (SupInf q s) s.from s.to y right

  within_ahead : (a b : ℕ) (c : X) → form.Tells (SupAhead (form.start y) (form.stop y) (form.IsWorth y) form.shape.lowest a b true true) (form.start y)
      (form.stop y) c → form.Tells (sup_ahead s a b (SupInf q s)) s.from s.to c
  within_ahead a b c made = subst (λ l. form.Tells (λ t v. IsSupOver l (Ahead s.from s.to a b true true t) (SupInf q s) v) s.from s.to c)
      (sym ends.lowest) (sup_ahead_told laws (SupInf q s) s.from s.to y c second a b true true made)

  within_behind : (a : ℕ) (b : Option ℕ) (c : X) → form.Tells (SupBehind (form.start y) (form.stop y) (form.IsWorth y) form.shape.lowest a b true true)
      (form.start y) (form.stop y) c → form.Tells (sup_behind s a b (SupInf q s)) s.from s.to c
  within_behind a b c made = subst (λ l. form.Tells (λ t v. IsSupOver l (Behind s.from s.to a b true true t) (SupInf q s) v) s.from s.to c)
      (sym ends.lowest) (sup_behind_told laws (SupInf q s) s.from s.to y c second a b true true made)

  to_end_in : (u : X) → form.Tells (UntilOf form x y) (form.start x) (form.stop x) u → form.Tells (until_to_end s (SupInf p s) (SupInf q s)) s.from s.to u
  to_end_in u made = subst (λ l. form.Tells (UntilToEnd l s.highest s.to (SupInf p s) (SupInf q s)) s.from s.to u) (sym ends.lowest)
      (subst (λ h. form.Tells (UntilToEnd form.shape.lowest h s.to (SupInf p s) (SupInf q s)) s.from s.to u) (sym ends.highest)
      (to_end_told laws (SupInf p s) (SupInf q s) s.from s.to x y first second u made))

  from_start_in : (u : X) → form.Tells (SinceOf form x y) (form.start x) (form.stop x) u
      → form.Tells (since_from_start s (SupInf p s) (SupInf q s)) s.from s.to u
  from_start_in u made = subst (λ l. form.Tells (SinceFromStart l s.highest s.from (SupInf p s) (SupInf q s)) s.from s.to u) (sym ends.lowest)
      (subst (λ h. form.Tells (SinceFromStart form.shape.lowest h s.from (SupInf p s) (SupInf q s)) s.from s.to u) (sym ends.highest)
      (from_start_told laws (SupInf p s) (SupInf q s) s.from s.to x y first second u made))

  -- until over all times from now on
  pub from_now_on_in : (b : ℕ) (u : X) → form.stop x ≤ʳ later (form.start x) b → form.Tells (UntilOf form x y) (form.start x) (form.stop x) u
      → form.Tells (SupInf (until 0 b p q) s) s.from s.to u
  from_now_on_in b u far made =
      subst (λ l. form.Tells (λ t v. IsUntil l s.highest (Ahead s.from s.to 0 b true true t) (SupInf p s) (SupInf q s) t v) s.from s.to u)
      (sym ends.lowest)
      (subst (λ h. form.Tells (λ t v. IsUntil form.shape.lowest h (Ahead s.from s.to 0 b true true t) (SupInf p s) (SupInf q s) t v) s.from s.to u)
      (sym ends.highest)
      (from_now_on_told laws (SupInf p s) (SupInf q s) s.from s.to x y first second b u
      (le_trans (ge_of_same first.ends) (le_trans far (later_le b (le_of_same first.begins)))) made))

  -- since over all times up to now
  pub so_far_in : (b : Option ℕ) (u : X) → IfSome b (λ b. form.stop x ≤ʳ later (form.start x) b) → form.Tells (SinceOf form x y) (form.start x) (form.stop x) u
      → form.Tells (SupInf (since 0 b p q) s) s.from s.to u
  so_far_in b u far made =
      subst (λ l. form.Tells (λ t v. IsSince l s.highest (Behind s.from s.to 0 b true true t) (SupInf p s) (SupInf q s) t v) s.from s.to u)
      (sym ends.lowest)
      (subst (λ h. form.Tells (λ t v. IsSince form.shape.lowest h (Behind s.from s.to 0 b true true t) (SupInf p s) (SupInf q s) t v) s.from s.to u)
      (sym ends.highest)
      (so_far_told laws (SupInf p s) (SupInf q s) s.from s.to x y first second b u (moved b far) made))
    where
      moved : (b : Option ℕ) → IfSome b (λ b. form.stop x ≤ʳ later (form.start x) b) → IfSome b (λ b. s.to ≤ʳ later s.from b)
      moved None far = tt
      moved (Some b) far = le_trans (ge_of_same first.ends) (le_trans far (later_le b (le_of_same first.begins)))

  module _ (u : X) where
    kept_ahead : (a : ℕ) (d : X) → form.Tells (UntilOf form x y) (form.start x) (form.stop x) u
        → form.Tells (InfAhead (form.start u) (form.stop u) (form.IsWorth u) form.shape.highest 0 a true true) (form.start u) (form.stop u) d
        → form.Tells (inf_ahead s 0 a (until_to_end s (SupInf p s) (SupInf q s))) s.from s.to d
    kept_ahead a d to_end made =
        subst (λ h. form.Tells (λ t v. IsInfOver h (Ahead s.from s.to 0 a true true t) (until_to_end s (SupInf p s) (SupInf q s)) v) s.from s.to d)
        (sym ends.highest)
        (inf_ahead_told laws (until_to_end s (SupInf p s) (SupInf q s)) s.from s.to u d
        (laws.told (until_to_end s (SupInf p s) (SupInf q s)) s.from s.to u (to_end_in u to_end)) 0 a true true made)

    kept_behind : (a : ℕ) (d : X) → form.Tells (SinceOf form x y) (form.start x) (form.stop x) u
        → form.Tells (InfBehind (form.start u) (form.stop u) (form.IsWorth u) form.shape.highest 0 (Some a) true true) (form.start u) (form.stop u) d
        → form.Tells (inf_behind s 0 (Some a) (since_from_start s (SupInf p s) (SupInf q s))) s.from s.to d
    kept_behind a d from_start made =
        subst (λ h. form.Tells (λ t v. IsInfOver h (Behind s.from s.to 0 (Some a) true true t) (since_from_start s (SupInf p s) (SupInf q s)) v)
        s.from s.to d) (sym ends.highest)
        (inf_behind_told laws (since_from_start s (SupInf p s) (SupInf q s)) s.from s.to u d
        (laws.told (since_from_start s (SupInf p s) (SupInf q s)) s.from s.to u (from_start_in u from_start)) 0 (Some a) true true made)

    -- faults of the first window, of the second one, and of the least of both
    pub until_within_fault : (a b : ℕ) (e : OpFault P) → HasCause form.shape (window_ahead (form.IsWorth y) a b true true) (form.start y) (form.stop y) e
        → IsFaultOf form.shape s (until a b p q) e
    until_within_fault a b e h = ahead_cause laws (SupInf q s) y a b true true (until a b p q) s e right (λ C i. inl i) h

    -- of the second window
    pub until_kept_fault : (a b : ℕ) (e : OpFault P) → form.Tells (UntilOf form x y) (form.start x) (form.stop x) u
        → HasCause form.shape (window_ahead (form.IsWorth u) 0 a true true) (form.start u) (form.stop u) e → IsFaultOf form.shape s (until a b p q) e
    until_kept_fault a b e to_end h = ahead_cause laws (until_to_end s (SupInf p s) (SupInf q s)) u 0 a true true (until a b p q) s e
        (to_end_in u to_end) (λ C i. inr (inr (inl i))) h

    -- of the least of both
    pub until_least_fault : (a b : ℕ) (c d : X) (e : OpFault P)
        → form.Tells (SupAhead (form.start y) (form.stop y) (form.IsWorth y) form.shape.lowest a b true true) (form.start y) (form.stop y) c
        → form.Tells (UntilOf form x y) (form.start x) (form.stop x) u
        → form.Tells (InfAhead (form.start u) (form.stop u) (form.IsWorth u) form.shape.highest 0 a true true) (form.start u) (form.stop u) d
        → HasCause form.shape (of_two (form.IsWorth c) (form.IsWorth d)) (form.start c) (form.stop c) e → IsFaultOf form.shape s (until a b p q) e
    until_least_fault a b c d e within to_end kept h =
        two_cause laws (sup_ahead s a b (SupInf q s)) (inf_ahead s 0 a (until_to_end s (SupInf p s) (SupInf q s))) c d (until a b p q) s e
        (within_ahead a b c within) (kept_ahead a d to_end kept) (λ C i. inr (inr (inr i))) h

    -- for since: of the first window
    pub since_within_fault : (a : ℕ) (b : Option ℕ) (e : OpFault P) → HasCause form.shape (window_behind (form.IsWorth y) a b true true) (form.start y)
        (form.stop y) e → IsFaultOf form.shape s (since a b p q) e
    since_within_fault a b e h = behind_cause laws (SupInf q s) y a b true true (since a b p q) s e right (λ C i. inl i) h

    -- of the second one
    pub since_kept_fault : (a : ℕ) (b : Option ℕ) (e : OpFault P) → form.Tells (SinceOf form x y) (form.start x) (form.stop x) u
        → HasCause form.shape (window_behind (form.IsWorth u) 0 (Some a) true true) (form.start u) (form.stop u) e → IsFaultOf form.shape s (since a b p q) e
    since_kept_fault a b e from_start h = behind_cause laws (since_from_start s (SupInf p s) (SupInf q s)) u 0 (Some a) true true (since a b p q) s e
        (from_start_in u from_start) (λ C i. inr (inr (inl i))) h

    -- of the least of both
    pub since_least_fault : (a : ℕ) (b : Option ℕ) (c d : X) (e : OpFault P)
        → form.Tells (SupBehind (form.start y) (form.stop y) (form.IsWorth y) form.shape.lowest a b true true) (form.start y) (form.stop y) c
        → form.Tells (SinceOf form x y) (form.start x) (form.stop x) u
        → form.Tells (InfBehind (form.start u) (form.stop u) (form.IsWorth u) form.shape.highest 0 (Some a) true true) (form.start u) (form.stop u) d
        → HasCause form.shape (of_two (form.IsWorth c) (form.IsWorth d)) (form.start c) (form.stop c) e → IsFaultOf form.shape s (since a b p q) e
    since_least_fault a b c d e within from_start kept h =
        two_cause laws (sup_behind s a b (SupInf q s)) (inf_behind s 0 (Some a) (since_from_start s (SupInf p s) (SupInf q s))) c d
        (since a b p q) s e (within_behind a b c within) (kept_behind a d from_start kept) (λ C i. inr (inr (inr i))) h

    -- the values
    pub until_in : (a b : ℕ) (c d r : X) → a ≤ b → form.Tells (SupAhead (form.start y) (form.stop y) (form.IsWorth y) form.shape.lowest a b true true)
        (form.start y) (form.stop y) c → form.Tells (UntilOf form x y) (form.start x) (form.stop x) u
        → form.Tells (InfAhead (form.start u) (form.stop u) (form.IsWorth u) form.shape.highest 0 a true true) (form.start u) (form.stop u) d
        → form.Tells (ChosenOf Least (form.IsWorth c) (form.IsWorth d)) (form.start c) (form.stop c) r
        → UntilIsComposed form.shape.lowest form.shape.highest (form.start x) (form.stop x) (form.IsWorth x) (form.IsWorth y)
        → form.Tells (SupInf (until a b p q) s) s.from s.to r
    until_in a b c d r order within to_end kept made law =
        subst (λ l. form.Tells (λ t v. IsUntil l s.highest (Ahead s.from s.to a b true true t) (SupInf p s) (SupInf q s) t v) s.from s.to r) (sym ends.lowest)
        (subst (λ h. form.Tells (λ t v. IsUntil form.shape.lowest h (Ahead s.from s.to a b true true t) (SupInf p s) (SupInf q s) t v) s.from s.to r)
        (sym ends.highest)
        (until_told laws (SupInf p s) (SupInf q s) s.from s.to x y first second c u d r a b order
        (laws.told (SupAhead (form.start y) (form.stop y) (form.IsWorth y) form.shape.lowest a b true true) (form.start y) (form.stop y) c within)
        (laws.told (UntilOf form x y) (form.start x) (form.stop x) u to_end)
        (laws.told (InfAhead (form.start u) (form.stop u) (form.IsWorth u) form.shape.highest 0 a true true) (form.start u) (form.stop u) d kept) made law))

    -- for since
    pub since_in : (a : ℕ) (b : Option ℕ) (c d r : X) → IfSome b (λ b. a ≤ b)
        → form.Tells (SupBehind (form.start y) (form.stop y) (form.IsWorth y) form.shape.lowest a b true true) (form.start y) (form.stop y) c
        → form.Tells (SinceOf form x y) (form.start x) (form.stop x) u
        → form.Tells (InfBehind (form.start u) (form.stop u) (form.IsWorth u) form.shape.highest 0 (Some a) true true) (form.start u) (form.stop u) d
        → form.Tells (ChosenOf Least (form.IsWorth c) (form.IsWorth d)) (form.start c) (form.stop c) r
        → SinceIsComposed form.shape.lowest form.shape.highest (form.start x) (form.stop x) (form.IsWorth x) (form.IsWorth y)
        → form.Tells (SupInf (since a b p q) s) s.from s.to r
    since_in a b c d r order within from_start kept made law =
        subst (λ l. form.Tells (λ t v. IsSince l s.highest (Behind s.from s.to a b true true t) (SupInf p s) (SupInf q s) t v) s.from s.to r) (sym ends.lowest)
        (subst (λ h. form.Tells (λ t v. IsSince form.shape.lowest h (Behind s.from s.to a b true true t) (SupInf p s) (SupInf q s) t v) s.from s.to r)
        (sym ends.highest)
        (since_told laws (SupInf p s) (SupInf q s) s.from s.to x y first second c u d r a b order
        (laws.told (SupBehind (form.start y) (form.stop y) (form.IsWorth y) form.shape.lowest a b true true) (form.start y) (form.stop y) c within)
        (laws.told (SinceOf form x y) (form.start x) (form.stop x) u from_start)
        (laws.told (InfBehind (form.start u) (form.stop u) (form.IsWorth u) form.shape.highest 0 (Some a) true true) (form.start u) (form.stop u) d kept)
        made law))
