-- The pieces of a printed formula, and what the whole text is.
use Rattle.std.proofs.Common.{◌≡◌, ℕ, ◌+◌, ◌<◌, List, ◌∷◌, ◌++◌, length, drop, refl, sym, ◌∙◌, ap, append_assoc, subst, get_or}
use Rattle.std.proofs.lemmas.List.{drop_more}
use Rattle.std.proofs.lemmas.Option.{get_or_from_slice_get, slice_get_within, slice_get_read}
use Rattle.std.specs.Prelude.{Some, slice_get, nat_abs}
use Rattle.stl_syntax.specs.Formula.{Subformula, subformula, tree_of, HasChildrenBelow}
use Rattle.stl_syntax.specs.PostOrder.{IsPostOrder}
use Rattle.stl_syntax.specs.Print.{scaled_text, has_two}
use Rattle.stl_syntax.specs.Printing.{sign_text, later_terms, operands_of, are_two, in_parens, node_text, printed}
use Rattle.stl_syntax.proofs.FormulaLemmas.{subformula-at}
use Rattle.stl_syntax.proofs.PostOrderLemmas.{placed}
use Rattle.stl_syntax.specs.declared.scale.Scale.{Scale}
use Rattle.stl_syntax.specs.declared.node.Node.{Node}
use Rattle.stl_syntax.specs.declared.node.Node.TheVariants.{Const, Atom as Leaf}
use Rattle.stl_syntax.specs.declared.operator.Operands.{Operands}
use Rattle.stl_syntax.specs.declared.operator.Operands.TheVariants.{Nothing, One, Two}
use Rattle.stl_syntax.specs.declared.atom.Term.{Term}

-- one more term after its sign
pub later_more : (terms : List Term) (i : ℕ) (t : Term) → slice_get terms i ≡ Some t
    → later_terms (drop i terms) ≡ sign_text t.coef ++ scaled_text (nat_abs t.coef) t.name ++ later_terms (drop (i + 1) terms)
later_more terms i t e =
    let step : drop i terms ≡ t ∷ drop (i + 1) terms =
    drop_more terms i t (slice_get_within terms i t e) ∙ ap (λ x. x ∷ drop (i + 1) terms) (get_or_from_slice_get terms i t t e) in
    ap later_terms step

-- the text of an operand
abbrev pub operand_text : Scale → (ℕ → Subformula) → ℕ → List ℕ
operand_text s at p = in_parens (has_two (at p)) (printed s (at p))

-- a tree's text is made of those of its operands
pub printed-tree_of : (s : Scale) (at : ℕ → Subformula) (i : ℕ) (n : Node) → printed s (tree_of at i n) ≡ node_text s n (operand_text s at) (operands_of n)
printed-tree_of s at i (Const b) = refl
printed-tree_of s at i _ = refl

-- it has two operands where its node has
pub has_two-tree_of : (at : ℕ → Subformula) (i : ℕ) (n : Node) → has_two (tree_of at i n) ≡ are_two (operands_of n)
has_two-tree_of at i (Const b) = refl
has_two-tree_of at i _ = refl

-- operands stand before their node
abbrev pub StandBefore : ℕ → Operands → Type 0
StandBefore i Nothing = Unit {0}
StandBefore i (One p) = p < i
StandBefore i (Two p q) = (p < i) × (q < i)

stand_before : (i : ℕ) (n : Node) → HasChildrenBelow i n → StandBefore i (operands_of n)
stand_before i (Const b) h = tt
stand_before i (Leaf a) h = tt
stand_before i _ h = h

-- what a place shows of its operands
pub record Shows (s : Scale) (nodes : List Node) (i : ℕ) (n : Node) (operands : Operands) : Type 0 where
  -- the operands stand before it
  pub before : StandBefore i operands
  -- its printed text is made of theirs
  pub text : printed s (subformula nodes i) ≡ node_text s n (operand_text s (subformula nodes)) operands
  -- it is printed with two operands where it has two
  pub two : has_two (subformula nodes i) ≡ are_two operands

-- n is read at place i, and found has its operands
pub shows : (s : Scale) (nodes : List Node) (i : ℕ) (n : Node) (found operands : Operands) → IsPostOrder nodes → i < length nodes → n ≡ get_or nodes i n
    → found ≡ operands_of n → found ≡ operands → Shows s nodes i n operands
shows s nodes i n found operands h l read is same =
    let e : slice_get nodes i ≡ Some n = slice_get_read nodes (length nodes) i n refl l read in
    let below : HasChildrenBelow i n = placed nodes i n h e in
    let made : subformula nodes i ≡ tree_of (subformula nodes) i n = subformula-at nodes i n e below in
    let here : operands_of n ≡ operands = sym is ∙ same in
    record {
      before = subst (StandBefore i) here (stand_before i n below);
      text = ap (printed s) made ∙ printed-tree_of s (subformula nodes) i n ∙ ap (node_text s n (operand_text s (subformula nodes))) here;
      two = ap has_two made ∙ has_two-tree_of (subformula nodes) i n ∙ ap are_two here;
    }

-- a text that grows by three pieces
pub three_pieces : (t u v w x y z : List ℕ) → u ≡ t ++ x → v ≡ u ++ y → w ≡ v ++ z → w ≡ t ++ (x ++ y ++ z)
three_pieces t u v w x y z e f g = g ∙ ap (λ s. s ++ z) (f ∙ ap (λ s. s ++ y) e) ∙ simp append_assoc

-- and by five
pub five_pieces : {u v w r s : List ℕ} (t a b x y z : List ℕ) → u ≡ t ++ a → v ≡ u ++ b → w ≡ v ++ x → r ≡ w ++ y → s ≡ r ++ z
    → s ≡ t ++ (a ++ b ++ x ++ y ++ z)
five_pieces t a b x y z e f g h i = i ∙ ap (λ l. l ++ z) (h ∙ ap (λ l. l ++ y) (g ∙ ap (λ l. l ++ x) (f ∙ ap (λ l. l ++ b) e))) ∙ simp append_assoc
