-- What cells leave certain of nodes, and when a cell is needed.
use Rattle.std.specs.Prelude.{◌≡◌, ◌⊎◌, ℕ, zero, suc, ◌+◌, ◌<◌, Bool, true, false, if◌then◌else◌}
use Rattle.std.specs.Prelude.{List, length, Some, slice_get, slice_index_or, slice_set}
use Rattle.rational.specs.Time.{Rational, IsIn}
use Rattle.rational.specs.Extended.{Extended, ◌<ᵉ◌}
use Rattle.frac128.specs.Spans.{interval}
use Rattle.value_laws.specs.Members.{ShapeOf}
use Rattle.value_laws.specs.declared.kleene.Kleene.{Kleene}
use Rattle.pieces.specs.Chains.{Chain, IsWorth}
use Rattle.stl_syntax.specs.Trace.{Trace}
use Rattle.stl_syntax.specs.Trace as trace
use Rattle.stl_syntax.specs.Formula.{Subformula, root, subformula}
use Rattle.stl_syntax.specs.Kleene.{IsCovered, Must, MustNot}
use Rattle.stl_syntax.specs.SupInf.{one, minus_one, certainty_setting, HasValues, HasInfs}
use Rattle.stl_syntax.specs.declared.items.Item.{Item}
use Rattle.stl_syntax.specs.declared.node.Node.{Node}
use Rattle.offline_eval.specs.Forms.{of_pieces}
use Rattle.offline_eval.specs.Evaluation.{TellNodes}
use Rattle.implicants.specs.Keeping.{CoverMore}

-- certainly true, or certainly false
abbrev pub Certain : Bool → Subformula → List Item → Trace → Rational → Type 0
Certain true p items tr t = Must p items tr t
Certain false p items tr t = MustNot p items tr t

module _ (shape : ShapeOf Kleene) where
  -- the chain is more than certainly false at t
  pub record IsOn (x : Chain Kleene) (t : Rational) : Type 0 where
    pub v : Extended
    pub worth : IsWorth shape x t v
    pub more : minus_one <ᵉ v

  -- it is less than certainly true there
  pub record IsOff (x : Chain Kleene) (t : Rational) : Type 0 where
    pub v : Extended
    pub worth : IsWorth shape x t v
    pub less : v <ᵉ one

  -- the chains tell what the items leave certain of each node, and each node has values
  pub record AreCertainties (nodes : List Node) (tr : Trace) (items : List Item) (chains : List (Chain Kleene)) : Type 0 where
    pub count : length chains ≡ length nodes
    pub told : TellNodes (of_pieces shape) nodes chains (certainty_setting tr items)
    pub values : (k : ℕ) → k < length nodes
        → HasValues (subformula nodes k) (certainty_setting tr items) × HasInfs (subformula nodes k) (certainty_setting tr items)

-- with the mark at a place, where the other list has it
abbrev pub put_mark : List Bool → ℕ → List Bool → List Bool
put_mark marks c kept = if slice_index_or marks c false then slice_set kept c true else kept

-- with the marks at so many places from `to` on, the last one first
abbrev pub passed : List Bool → ℕ → ℕ → List Bool → List Bool
passed marks to zero kept = kept
passed marks to (suc n) kept = passed marks to n (put_mark marks (to + n) kept)

-- an item at one of these places is of the node, and has t in its span
pub record IsAmongPlaces (items : List Item) (At : ℕ → Type 0) (i : ℕ) (t : Rational) : Type 0 where
  pub place : ℕ
  pub item : Item
  pub at : slice_get items place ≡ Some item
  pub is : At place
  pub node : item.node ≡ i
  pub inside : IsIn (interval item.on) t

-- what is covered lies in cells before place c and in marked ones behind it: then the formula is not certainly false
abbrev pub IsNeeded : List Node → Trace → List Item → List Bool → ℕ → Type 0
IsNeeded nodes tr all marks c =
    (some : List Item)
    → ((i : ℕ) (t : Rational) → IsCovered some i t → IsAmongPlaces all (λ j. (j < c) ⊎ ((c < j) × (slice_index_or marks j false ≡ true))) i t)
    → ¬ MustNot (root nodes) some tr (trace.start tr)

-- the new marks are the old ones, and others of cells before place `left` that are needed
pub record MarksNeeded (nodes : List Node) (tr : Trace) (all : List Item) (left : ℕ) (old new : List Bool) : Type 0 where
  pub stay : (c : ℕ) → slice_index_or old c false ≡ true → slice_index_or new c false ≡ true
  pub only : (c : ℕ) → slice_index_or new c false ≡ true → (slice_index_or old c false ≡ true) ⊎ ((c < left) × IsNeeded nodes tr all new c)

module _ (shape : ShapeOf Kleene) where
  -- the chains tell what certain items leave certain, which cover no less than these
  pub record AreToldOfMore (nodes : List Node) (tr : Trace) (items : List Item) (chains : List (Chain Kleene)) : Type 0 where
    pub more : List Item
    pub covered : CoverMore items more
    pub told : AreCertainties shape nodes tr more chains
