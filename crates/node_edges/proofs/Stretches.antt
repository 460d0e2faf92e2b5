-- Parts of which some neighbours are joined.
use Rattle.std.proofs.Common.{◌≡◌, refl, sym, ap, subst, ◌∙◌, ◌≤◌, Bool, true, false, List, [], ◌∷◌, ◌++◌}
use Rattle.std.proofs.Common.{length, arith, append_assoc, length-append}
use Rattle.node_edges.specs.Members.{PartOf}
use Rattle.node_edges.specs.Held.{AreStretches, Edge, HasMore, Stand, as_given, joined, with_more}

-- a list that is no longer than none is empty
pub none_long : {X : Type 0} (xs : List X) → length xs ≤ 0 → xs ≡ []
none_long [] l = refl
none_long (x ∷ xs) l = absurd (omega (arith, l))

module _ {T : Type 0} {part : PartOf T} where
  -- with the same parts behind them
  pub stretches_more : {a b : List T} → AreStretches part a b → (c : List T) → AreStretches part (a ++ c) (b ++ c)
  stretches_more as_given c = as_given
  stretches_more {a} (joined {v = v} {w = w} {u = u} front back j rest) c =
      subst (λ l. AreStretches part (a ++ c) l) (sym (append_assoc front (v ∷ w ∷ back) c))
      (joined front (back ++ c) j (subst (λ l. AreStretches part (a ++ c) l) (append_assoc front (u ∷ back) c) (stretches_more rest c)))

  -- and with the same before them
  pub stretches_behind : {a b : List T} (p : List T) → AreStretches part a b → AreStretches part (p ++ a) (p ++ b)
  stretches_behind p as_given = as_given
  stretches_behind {a} p (joined {v = v} {w = w} {u = u} front back j rest) =
      subst (λ l. AreStretches part (p ++ a) l) (append_assoc p front (v ∷ w ∷ back))
      (joined (p ++ front) back j (subst (λ l. AreStretches part (p ++ a) l) (sym (append_assoc p front (u ∷ back))) (stretches_behind p rest)))

  -- stretches of stretches
  pub stretches_again : {a b c : List T} → AreStretches part a b → AreStretches part b c → AreStretches part a c
  stretches_again first as_given = first
  stretches_again first (joined front back j rest) = joined front back j (stretches_again first rest)

  -- parts are their own stretches
  pub all_stretches : {a b : List T} → a ≡ b → AreStretches part a b
  all_stretches {a} {b} e = subst (λ l. AreStretches part l b) (sym e) as_given

  -- there are no more of them
  pub stretches_few : {a b : List T} → AreStretches part a b → length a ≤ length b
  stretches_few as_given = omega arith
  stretches_few (joined {v = v} {w = w} {u = u} front back j rest) =
      let few = stretches_few rest in omega (arith, few, length-append front (u ∷ back), length-append front (v ∷ w ∷ back))

  -- and none where there are no parts
  pub stretches_none : {a b : List T} → AreStretches part a b → b ≡ [] → a ≡ []
  stretches_none {a} s none = none_long a (let few = stretches_few s in let e = ap length none in omega (arith, few, e))

module _ {T : Type 0} (part : PartOf T) where
  -- ---- as parts stand on an edge, by whether it joins

  -- they stand so as they were given
  pub stand_given : (b : Bool) (vs : List T) → Stand part b vs vs
  stand_given true vs = as_given
  stand_given false vs = refl

  -- they are stretches
  pub stand_stretches : (b : Bool) {all stretches : List T} → Stand part b all stretches → AreStretches part stretches all
  stand_stretches true s = s
  stand_stretches false s = all_stretches s

  -- with the same parts behind them
  pub stand_more : (b : Bool) (all stretches : List T) → Stand part b all stretches → (c : List T) → Stand part b (all ++ c) (stretches ++ c)
  stand_more true all stretches s c = stretches_more s c
  stand_more false all stretches s c = ap (λ l. l ++ c) s

  -- and with the same before them
  pub stand_behind : (b : Bool) (all stretches p : List T) → Stand part b all stretches → Stand part b (p ++ all) (p ++ stretches)
  stand_behind true all stretches p s = stretches_behind p s
  stand_behind false all stretches p s = ap (λ l. p ++ l) s

  -- and as what stood so stands
  pub stand_again : (b : Bool) (all mid stretches : List T) → Stand part b all mid → Stand part b mid stretches → Stand part b all stretches
  stand_again true all mid stretches first second = stretches_again second first
  stand_again false all mid stretches first second = second ∙ first

  -- parts at the back of an edge, as they are
  pub more_given : (x : Edge T) (more : List T) → HasMore part x (with_more x more) more
  more_given x more = record { seen = refl; fresh = stand_given x.joins (x.fresh ++ more); number = refl; joins = refl }
