use Rattle.std.proofs.Common.{rules, ◌≡◌, ◌-◌, ◌++◌, ◌∷◌, [], ◌<◌, List, Some, length, length-append, ap, sym, subst, arith}
use Rattle.std.specs.Prelude.{slice_get}
use Rattle.rational.proofs.Lists.{slice_get-append_here}
use Rattle.offline_eval.proofs.evaluation.Evaluated.root.Goals as goal

-- what was pushed last stands at the last place
last_of : {X : Type 0} (xs ys : List X) (x : X) → xs ≡ ys ++ x ∷ [] → slice_get xs (length xs - 1) ≡ Some x
last_of xs ys x e =
    let long = length-append ys (x ∷ []) in
    let place : length ys ≡ length (ys ++ x ∷ []) - 1 = omega (arith, long) in
    subst (λ l. slice_get l (length l - 1) ≡ Some x) (sym e) (subst (λ n. slice_get (ys ++ x ∷ []) n ≡ Some x) place (slice_get-append_here ys x []))

pub unreachable-requires : goal.unreachable-requires
unreachable-requires g c =
    let some : 0 < length c.self.inside.signals.items = let r = c.requires in omega (arith, ap length c.self.view_is) in
    search (rules, c.in-None.ensures.cases)

pub returns : goal.returns
returns g c =
    let last : c.self.inside.signals.items ≡ c.pop.new.self.items ++ c.in-Some.signal ∷ [] = rw c.in-Some.is at c.pop.ensures.items in
    subst (λ l. slice_get l (length l - 1) ≡ Some c.in-Some.signal) c.self.view_is (last_of c.self.inside.signals.items c.pop.new.self.items c.in-Some.signal last)
