-- What an edge has at hand, its last part lengthened.
use Rattle.std.proofs.Common.{◌≡◌, ℕ, ◌+◌, ◌<◌, ◌≤◌, List, [], ◌∷◌, ◌++◌, get_or, set, length, sym, ap, subst, ◌∙◌, arith}
use Rattle.std.proofs.Common.{Bool, true, Option, ℤ, refl, take, drop, append_assoc, Result, Ok, Err}
use Rattle.std.specs.Prelude.{OnOk}
use Rattle.std.proofs.lemmas.List.{length-set, length-take}
use Rattle.std.proofs.lemmas.List.{drop-append-le, get_or_read, take-set-le, take_all, take_more, take_more_set}
use Rattle.node_edges.specs.Held.{AreStretches, HasMore, Stand, as_given, joined}
use Rattle.node_edges.specs.Members.{PartOf}

module _ {T : Type 0} {part : PartOf T} where
  -- parts of which some were read, the last one lengthened by one that goes on from it
  pub lengthened : (xs : List T) (read n : ℕ) (v w u : T) (number : Option ℤ) (b : Bool) → b ≡ true → read ≤ n → n + 1 ≡ length xs
      → v ≡ get_or xs n v → part.joined v w u
      → HasMore part (record { seen = take read xs; fresh = drop read xs; number = number; joins = b })
      (record { seen = take read (set xs n u); fresh = drop read (set xs n u); number = number; joins = b }) (w ∷ [])
  lengthened xs read n v w u number b joins below long here j = record {
    seen = take-set-le read xs n u below;
    fresh = subst (λ t. Stand part t (drop read xs ++ w ∷ []) (drop read (set xs n u))) (sym joins)
        (subst (λ l. AreStretches part l (drop read xs ++ w ∷ [])) (sym (ap (drop read) new ∙ dropped u))
        (subst (λ l. AreStretches part (drop read front ++ u ∷ []) (l ++ w ∷ [])) (sym (ap (drop read) old ∙ dropped v))
        (subst (λ l. AreStretches part (drop read front ++ u ∷ []) l) (sym (append_assoc (drop read front) (v ∷ []) (w ∷ [])))
        (joined (drop read front) [] j as_given))));
    number = refl;
    joins = refl;
  }
    where
      front : List T
      front = take n xs

      old : xs ≡ front ++ v ∷ []
      old = sym (take_all (n + 1) xs (omega (arith, long))) ∙ take_more xs n v (omega (arith, long)) ∙ ap (λ x. front ++ x ∷ []) (sym here)

      new : set xs n u ≡ front ++ u ∷ []
      new = sym (take_all (n + 1) (set xs n u) (omega (arith, long, length-set xs n u))) ∙ take_more_set xs n u (omega (arith, long))

      dropped : (x : T) → drop read (front ++ x ∷ []) ≡ drop read front ++ x ∷ []
      dropped x = drop-append-le read front (x ∷ []) (omega (arith, below, long, length-take n xs))

module _ {T : Type 0} where
  -- two that stand at one place are one
  pub one_item : (xs : List T) (n : ℕ) (x y : T) → n < length xs → x ≡ get_or xs n x → y ≡ get_or xs n y → x ≡ y
  one_item xs n x y within first second = get_or_read xs n x within first y ∙ sym second

-- what follows where a result is good
pub on_ok : {T E A B : Type 0} (r : Result T E) → (A → B) → OnOk r A → OnOk r B
on_ok (Ok x) f h = f h
on_ok (Err e) f h = tt
