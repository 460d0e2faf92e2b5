-- Items of which each says what one of others says: what these cover they do, and where these are so they are.
use Rattle.std.proofs.Common.{◌≡◌, ℕ, inl, inr, Bool, List, [], ◌∷◌, subst, refl}
use Rattle.std.specs.Prelude.{MatchBool}
use Rattle.rational.specs.Time.{Rational, IsIn}
use Rattle.frac128.specs.Spans.{interval}
use Rattle.stl_syntax.specs.Trace.{Trace}
use Rattle.stl_syntax.specs.Formula.{subformula}
use Rattle.stl_syntax.specs.Truth.{Truth}
use Rattle.stl_syntax.specs.Kleene.{IsCovered}
use Rattle.stl_syntax.specs.Kept.{IsSo, AreSo}
use Rattle.stl_syntax.specs.declared.items.Item.{Item}
use Rattle.stl_syntax.specs.declared.node.Node.{Node}
use Rattle.report.proofs.JoinedTimes.{Say, SayMore}

covered_says : (xs : List Item) (i : ℕ) (t : Rational) → IsCovered xs i t → (b : Bool) × Say xs i b t
covered_says [] i t h = absurd h
covered_says (e ∷ xs) i t (inl h) = (e.holds, inl (h.0, refl, h.1))
covered_says (e ∷ xs) i t (inr h) = let s = covered_says xs i t h in (s.0, inr s.1)

says_covered : (xs : List Item) (i : ℕ) (b : Bool) (t : Rational) → Say xs i b t → IsCovered xs i t
says_covered [] i b t h = absurd h
says_covered (e ∷ xs) i b t (inl h) = inl (h.0, h.2)
says_covered (e ∷ xs) i b t (inr h) = inr (says_covered xs i b t h)

-- what they cover
pub cover_as : (xs ys : List Item) → SayMore xs ys → (i : ℕ) (t : Rational) → IsCovered xs i t → IsCovered ys i t
cover_as xs ys more i t h = let s = covered_says xs i t h in says_covered ys i s.0 t (more i s.0 t s.1)

module _ (nodes : List Node) (tr : Trace) where
  -- the node has this truth at the time
  IsTold : ℕ → Bool → Rational → Type 0
  IsTold i b t = MatchBool b (Truth (subformula nodes i) tr t) (¬ Truth (subformula nodes i) tr t)

  one_says : (e : Item) (i : ℕ) (b : Bool) (t : Rational) → IsSo nodes tr e → e.node ≡ i → e.holds ≡ b → IsIn (interval e.on) t → IsTold i b t
  unfolding IsTold
  one_says e i b t h a c on =
      subst (λ d. MatchBool d (Truth (subformula nodes i) tr t) (¬ Truth (subformula nodes i) tr t)) c
      (subst (λ j. MatchBool e.holds (Truth (subformula nodes j) tr t) (¬ Truth (subformula nodes j) tr t)) a (h t on))

  so_says : (xs : List Item) (i : ℕ) (b : Bool) (t : Rational) → AreSo nodes tr xs → Say xs i b t → IsTold i b t
  so_says [] i b t h s = absurd s
  so_says (e ∷ xs) i b t h (inl s) = one_says e i b t h.0 s.0 s.1 s.2
  so_says (e ∷ xs) i b t h (inr s) = so_says xs i b t h.1 s

  says_so : (xs : List Item) → ((i : ℕ) (b : Bool) (t : Rational) → Say xs i b t → IsTold i b t) → AreSo nodes tr xs
  unfolding IsTold
  says_so [] h = tt
  says_so (e ∷ xs) h = ((λ t on. h e.node e.holds t (inl (refl, refl, on))), says_so xs (λ i b t s. h i b t (inr s)))

  -- where they are so
  pub so_as : (xs ys : List Item) → SayMore xs ys → AreSo nodes tr ys → AreSo nodes tr xs
  so_as xs ys more h = says_so xs (λ i b t s. so_says ys i b t h (more i b t s))
