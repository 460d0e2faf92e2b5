-- What is lost of the operands of a node is lost of the node, and of the root at last.
use Rattle.std.proofs.Common.{◌≡◌, ℕ, ◌-◌, ◌<◌, ◌≤◌, ◌⊎◌, inl, inr, Bool, true, false, not, pos, List, []}
use Rattle.std.proofs.Common.{length, set, Some, None, refl, sym, ap, ◌∙◌, subst, arith}
use Rattle.std.specs.Prelude.{slice_get, Option, IfSome, IsTrue}
use Rattle.rational.specs.Time.{Rational, IsIn, Within, whole}
use Rattle.rational.specs.Extended.{Extended, ◌≤ᵉ◌, value_at}
use Rattle.rational.proofs.ExtendedLemmas.{clashᵉ}
use Rattle.rational.proofs.LevelLemmas.{level_at_most}
use Rattle.rational.proofs.Lists.{slice_get_there}
use Rattle.frac128.specs.Spans.{interval}
use Rattle.value_laws.specs.Kinds.{kleene_shape}
use Rattle.value_laws.specs.Values.{kleene_value, kleene_to_one}
use Rattle.value_laws.specs.declared.kleene.Kleene.{Kleene}
use Rattle.pl_signal.specs.declared.faults.OpFault.TheVariants as F
use Rattle.pl_signal.specs.declared.faults.WidePair.{WidePair}
use Rattle.pieces.specs.Chains.{Chain}
use Rattle.stl_syntax.specs.Trace.{Trace, start, stop, first_time, last_time}
use Rattle.stl_syntax.specs.Formula.{atom, root, subformula, tree_of, HasChildrenBelow}
use Rattle.stl_syntax.specs.Cells.{IsChild}
use Rattle.stl_syntax.specs.SupInf.{Setting, SupInf, minus_one}
use Rattle.stl_syntax.specs.declared.atom.Atom.{Atom}
use Rattle.stl_syntax.specs.declared.rel.Rel.TheVariants.{AtLeast}
use Rattle.stl_syntax.specs.declared.items.Item.{Item}
use Rattle.stl_syntax.specs.declared.node.Node.{Node}
use Rattle.stl_syntax.specs.declared.node.Node.TheVariants.{Atom as Leaf}
use Rattle.stl_syntax.proofs.FormulaLemmas.{subformula-at}
use Rattle.stl_syntax.proofs.PostOrderLemmas.{child_below}
use Rattle.offline_eval.specs.Forms.{of_pieces}
use Rattle.offline_eval.specs.Inputs.{is_atom, IsOver}
use Rattle.offline_eval.specs.Making.{FaultOfNode, TellsNode, TellsValue}
use Rattle.offline_eval.proofs.Forms.{pieces_laws}
use Rattle.offline_eval.proofs.Never.{levels_have_no_cause}
use Rattle.offline_eval.proofs.PlainChains.{chains_setting, plain_chain_told}
use Rattle.offline_eval.proofs.ToldHaveValues.{has_value, has_inf}
use Rattle.implicants.specs.Needs.{Certain, IsNeeded, IsOn}
use Rattle.implicants.specs.Nearby.{IsBest, IsBestChain}
use Rattle.implicants.specs.Signs.{sign_at, AreSigned, AreSigns}
use Rattle.implicants.specs.Upward.{AreLost, AreWhole, HasBest, AreOperands, HasBestIn, IsBestOf}
use Rattle.implicants.specs.declared.nearby.View.{View}
use Rattle.implicants.specs.declared.runs.Run.{Run}
use Rattle.implicants.proofs.BestAtoms.{tree_helps}
use Rattle.implicants.proofs.Wholes.{set_here}

-- an atom, whichever
abbrev pub any_atom : Atom
any_atom = record { terms = []; rel = AtLeast; limit = pos 0 }

module _ (tr : Trace) (xs : List (Chain Kleene)) (whole_all : AreWhole kleene_shape tr xs) where
  -- the setting in which each chain is what an atom is read by
  abbrev pub own_setting : Setting
  own_setting = chains_setting kleene_shape (first_time tr.rows) (last_time 0 tr.rows) xs

  -- each chain tells its atom
  pub tells_own : (k : ℕ) (x : Chain Kleene) → slice_get xs k ≡ Some x → TellsValue (of_pieces kleene_shape) own_setting (atom k any_atom) x
  tells_own k x at = plain_chain_told kleene_shape (first_time tr.rows) (last_time 0 tr.rows) xs k any_atom x at (whole_all k x at).normal
      (whole_all k x at).input

kleene_most : (q : Kleene) (t : Rational) → value_at (kleene_shape.function q) t ≤ᵉ kleene_shape.highest
kleene_most q t = level_at_most (pos 1) (kleene_value q.known) t (kleene_to_one q.known)

-- a node that is no atom, over the chains of the nodes before it
pub record IsMadeOf (nodes : List Node) (tr : Trace) (signs : List Bool) (j : ℕ) (n : Node) (xs : List (Chain Kleene)) : Type 0 where
  -- it stands at place j
  pub at : slice_get nodes j ≡ Some n
  -- its operands stand before it
  pub below : HasChildrenBelow j n
  -- it is no atom
  pub other : is_atom n ≡ false
  -- the signs of its operands follow from its own
  pub signed : AreSigned signs n (sign_at signs j)
  -- all nodes before it have chains
  pub long : j ≤ length xs
  -- which span the trace
  pub whole : AreWhole kleene_shape tr xs

module _ (nodes : List Node) (tr : Trace) (all : List Item) (marks : List Bool) (c : ℕ) (signs : List Bool) where
  -- a chain that is the best but in runs that are lost
  pub runs_best : (runs : List Run) (w : View) (x : Chain Kleene) → w.best ≡ sign_at signs w.of → AreLost nodes tr all marks c signs runs
      → IsBestChain kleene_shape runs w x → HasBest kleene_shape nodes tr all marks c signs w.of x
  runs_best runs w x same lost is some within t v worth certain = by_part (is.worth t v worth)
    where
      by_part : IsBest w.best v ⊎ ((j : ℕ) × (r : Run) × (slice_get runs j ≡ Some r) × (r.of ≡ w.of) × IsIn (interval r.on) t) → IsBest (sign_at signs w.of) v
      by_part (inl b) = subst (λ h. IsBest h v) same b
      by_part (inr (j, r, at, of, inside)) =
          absurd (lost some within j r at t inside (subst (λ k. Certain (sign_at signs k) (subformula nodes k) some tr t) (sym of) certain))

  -- by a view of the node
  pub runs_best_at : (runs : List Run) (w : View) (x : Chain Kleene) (k : ℕ) → w.of ≡ k → w.best ≡ sign_at signs k
      → AreLost nodes tr all marks c signs runs → IsBestChain kleene_shape runs w x → HasBest kleene_shape nodes tr all marks c signs k x
  runs_best_at runs w x k of best lost is = subst (λ i. HasBest kleene_shape nodes tr all marks c signs i x) of
      (runs_best runs w x (best ∙ ap (sign_at signs) (sym of)) lost is)

  -- and one that is the best where two such signals are
  pub both_best : (k : ℕ) (best : Bool) (x y r : Chain Kleene) → best ≡ sign_at signs k → IsBestOf kleene_shape best x y r
      → HasBest kleene_shape nodes tr all marks c signs k x → HasBest kleene_shape nodes tr all marks c signs k y
      → HasBest kleene_shape nodes tr all marks c signs k r
  both_best k best x y r same is first second = λ some within t v worth certain.
      let w = is.worth t v worth in
      let to = subst (λ h. IsBest h w.0 → IsBest h w.1 → IsBest h v) same w.4 in
      to (first some within t w.0 w.2 certain) (second some within t w.1 w.3 certain)

  -- put in its place
  pub both_best_in : (xs : List (Chain Kleene)) (k : ℕ) (best : Bool) (x y r : Chain Kleene) → k < length xs → best ≡ sign_at signs k
      → IsBestOf kleene_shape best x y r → HasBest kleene_shape nodes tr all marks c signs k x → HasBest kleene_shape nodes tr all marks c signs k y
      → HasBestIn kleene_shape nodes tr all marks c signs k (set xs k r)
  both_best_in xs k best x y r l same is first second = λ z at.
      subst (HasBest kleene_shape nodes tr all marks c signs k) (sym (set_here xs k r z l at)) (both_best k best x y r same is first second)

  -- a best chain that is put at its own place is the best there
  pub put_best_in : (xs : List (Chain Kleene)) (k i : ℕ) (y : Chain Kleene) → k ≡ i → i < length xs
      → HasBest kleene_shape nodes tr all marks c signs k y → HasBestIn kleene_shape nodes tr all marks c signs i (set xs k y)
  put_best_in xs k i y same l best z at = by_place k same best at
    where
      by_place : (k : ℕ) → k ≡ i → HasBest kleene_shape nodes tr all marks c signs k y → slice_get (set xs k y) i ≡ Some z
          → HasBest kleene_shape nodes tr all marks c signs i z
      by_place k same best at =
          let here = subst (λ n. slice_get (set xs n y) i ≡ Some z) same at in
          subst (HasBest kleene_shape nodes tr all marks c signs i) (sym (set_here xs i y z l here))
          (subst (λ n. HasBest kleene_shape nodes tr all marks c signs n y) same best)

  -- the operands, where another one is put beside one of them
  pub kids_best : (n : Node) (j k : ℕ) (other : Option ℕ) (old new : List (Chain Kleene)) → AreOperands n k other → HasChildrenBelow j n
      → j ≤ length old → HasBestIn kleene_shape nodes tr all marks c signs k old
      → ((i : ℕ) (x : Chain Kleene) → slice_get new i ≡ Some x → (slice_get old i ≡ Some x) ⊎ (other ≡ Some i))
      → ((i : ℕ) → other ≡ Some i → i < length old → HasBestIn kleene_shape nodes tr all marks c signs i new)
      → (i : ℕ) → IsChild n i → HasBestIn kleene_shape nodes tr all marks c signs i new
  kids_best n j k other old new operands below long before stay put = λ i child x at.
      let inside : i < length old = let l = child_below j i n below child in omega (arith, l, long) in
      elim (operands.1 i child) [
        | inr o ↦ put i o inside x at
        | inl e ↦ elim (stay i x at) [
          | inr o ↦ put i o inside x at
          | inl h ↦ subst (λ m. HasBest kleene_shape nodes tr all marks c signs m x) (sym e) (before x (subst (λ m. slice_get old m ≡ Some x) e h))
        ]
      ]

  -- a node's chain, made of those of its operands over the whole trace
  pub node_best : {j : ℕ} {n : Node} {xs : List (Chain Kleene)} (from to : ℕ) (r : Chain Kleene) → from ≡ first_time tr.rows
      → to ≡ last_time 0 tr.rows → IsMadeOf nodes tr signs j n xs → ((k : ℕ) → IsChild n k → HasBestIn kleene_shape nodes tr all marks c signs k xs)
      → TellsNode (of_pieces kleene_shape) from to n xs r → HasBest kleene_shape nodes tr all marks c signs j r
  node_best {j} {n} {xs} from to r begins ends made kids tells some within t v worth certain =
      let s = own_setting tr xs made.whole in
      let over : IsOver kleene_shape.lowest kleene_shape.highest from to s = record {
        lowest = refl;
        highest = refl;
        from = ap (λ n. whole (pos n)) (sym begins);
        to = ap (λ n. whole (pos n)) (sym ends);
      } in
      let told = tells s (λ k. atom k any_atom) j over (λ k x there. tells_own tr xs made.whole k x there) in
      let here = (told.worth t v).0 worth in
      let tree = subst (λ f. Certain (sign_at signs j) f some tr t) (subformula-at nodes j n made.at made.below) certain in
      tree_helps tr some s.atoms (subformula nodes) (λ k. atom k any_atom) j j n (sign_at signs j) signs made.signed made.other
      (λ k child. kid k child) (λ k child. has_value (pieces_laws kleene_shape) (atom k any_atom) s (its k child).0 (its k child).1)
      (λ k child. has_inf (pieces_laws kleene_shape) kleene_most (atom k any_atom) s (its k child).0 refl (its k child).1)
      t v (record { above = here.0; below = here.1 }) tree here.2
    where
      its : (k : ℕ) → IsChild n k → (x : Chain Kleene) × TellsValue (of_pieces kleene_shape) (own_setting tr xs made.whole) (atom k any_atom) x
          × (slice_get xs k ≡ Some x)
      its k child =
          let l : k < length xs = let i = child_below j k n made.below child in let l = made.long in omega (arith, i, l) in
          let (x, at) = slice_get_there xs k l in (x, tells_own tr xs made.whole k x at, at)

      kid : (k : ℕ) → IsChild n k → (t : Rational) (r : Extended) → Within (start tr) (stop tr) t → Certain (sign_at signs k) (subformula nodes k) some tr t
          → SupInf (atom k any_atom) (own_setting tr xs made.whole) t r → IsBest (sign_at signs k) r
      kid k child t r inside sure gives =
          let x = its k child in kids k child x.0 x.2 some within t r ((x.1.worth t r).1 (inside.above, inside.below, gives)) sure

  -- a cell is needed where the root's chain is more than certainly false at the start
  pub root_needed : (xs : List (Chain Kleene)) (x : Chain Kleene) → AreSigns nodes signs → slice_get xs (length nodes - 1) ≡ Some x
      → IsOn kleene_shape x (start tr) → HasBestIn kleene_shape nodes tr all marks c signs (length nodes - 1) xs → IsNeeded nodes tr all marks c
  root_needed xs x are at on best some within must_not =
      clashᵉ minus_one on.v on.more (low (best x at some within (start tr) on.v on.worth))
    where
      low : (Certain (sign_at signs (length nodes - 1)) (root nodes) some tr (start tr) → IsBest (sign_at signs (length nodes - 1)) on.v) → IsBest false on.v
      low h = subst (λ b. Certain b (root nodes) some tr (start tr) → IsBest b on.v) are.root h must_not

-- what is not denied is so
pub is_so : (b : Bool) → not b ≡ false → IsTrue b
is_so true e = refl
is_so false e = absurd (let x : true ≡ false = e in cc)

-- what has an operand is no atom
pub child_not_atom : (n : Node) (k : ℕ) → IsChild n k → is_atom n ≡ false
child_not_atom (Leaf a) k h = absurd h
child_not_atom _ k h = refl

-- what follows of one fact where there is something
pub some_then : {A : Type 0} (o : Option A) (P Q : Type 0) → (P → Q) → IfSome o (λ x. P) → IfSome o (λ x. Q)
some_then None P Q f h = tt
some_then (Some x) P Q f h = f h

-- a node's chain, made of chains over the whole trace, is refused for want of memory alone
pub node_never_wide : (tr : Trace) (xs : List (Chain Kleene)) (from to : ℕ) (n : Node) (pair : WidePair Kleene) → AreWhole kleene_shape tr xs
    → from ≡ first_time tr.rows → to ≡ last_time 0 tr.rows → ¬ FaultOfNode (of_pieces kleene_shape) from to n xs (F.Wide pair)
node_never_wide tr xs from to n pair whole_all begins ends fault =
    let at = λ (k : ℕ). atom k any_atom in
    let s = own_setting tr xs whole_all in
    levels_have_no_cause kleene_shape (λ p. kleene_value p.known) (λ p. refl) s (tree_of at 0 n) pair (fault s at 0
    (record { lowest = refl; highest = refl; from = ap (λ n. whole (pos n)) (sym begins); to = ap (λ n. whole (pos n)) (sym ends) })
    (λ k x there. tells_own tr xs whole_all k x there))
