-- What a cell is tried by: where nodes are less certain than is best, and chains that are no less certain than a node.
use Rattle.std.specs.Prelude.{◌≡◌, ◌⊎◌, ◌<◌, ◌∷◌, ◌++◌, ℕ, Bool, true, false, List, [], Option}
use Rattle.std.specs.declared.vec.Vec.{Vec}
use Rattle.std.specs.declared.alloc.Global.{Global}
use Rattle.std.specs.Prelude.{Some, length, slice_get, slice_set, slice_index_or, MatchBool, MatchOption}
use Rattle.rational.specs.Time.{Rational, IsIn}
use Rattle.rational.specs.Extended.{Extended}
use Rattle.rational.specs.Places.{After, Place, Same, Upto}
use Rattle.frac128.specs.Spans.{interval}
use Rattle.frac128.specs.declared.span.Span.{Span}
use Rattle.value_laws.specs.Members.{ShapeOf}
use Rattle.value_laws.specs.declared.kleene.Kleene.{Kleene}
use Rattle.pieces.specs.declared.piece.Piece.{Piece}
use Rattle.pieces.specs.Chains.{Chain, IsNormal, IsWorth, end, stop}
use Rattle.stl_syntax.specs.Trace.{Trace, first_time, last_time}
use Rattle.stl_syntax.specs.Formula.{subformula}
use Rattle.stl_syntax.specs.Cells.{IsChild}
use Rattle.stl_syntax.specs.Kleene.{IsCovered}
use Rattle.stl_syntax.specs.declared.items.Item.{Item}
use Rattle.stl_syntax.specs.declared.node.Node.{Node}
use Rattle.offline_eval.specs.Forms.{of_pieces}
use Rattle.offline_eval.specs.Inputs.{IsInput}
use Rattle.implicants.specs.Certainty.{stays, known_at}
use Rattle.implicants.specs.Needs.{Certain, IsAmongPlaces, IsNeeded, IsOff, IsOn}
use Rattle.implicants.specs.Nearby.{IsBest}
use Rattle.implicants.specs.Signs.{sign_at, AreSigns}
use Rattle.implicants.specs.declared.runs.Run.{Run}

-- the span has the times of a piece that begins at the place, whose shape is less than certainly what `best` says
abbrev pub IsShortPiece : Bool → Place → Piece Kleene → Span → Type 0
IsShortPiece best from p on =
    (t : Rational) → IsIn (interval on) t → After from t × Upto (end p) t × ¬ (p.shape.known ≡ Some best)

module _ (shape : ShapeOf Kleene) where
  -- the chain is less than certainly what `best` says at each time of the span
  abbrev pub IsShortOver : Bool → Chain Kleene → Span → Type 0
  IsShortOver best x on = (t : Rational) → IsIn (interval on) t → MatchBool best (IsOff shape x t) (IsOn shape x t)

  -- the new runs are the old ones, and others of the node in which the chain is so
  abbrev pub AddsShort : ℕ → Bool → Chain Kleene → List Run → List Run → Type 0
  AddsShort k best x old new = (j : ℕ) (r : Run) → slice_get new j ≡ Some r → (slice_get old j ≡ Some r) ⊎ ((r.of ≡ k) × IsShortOver best x r.on)

  -- in each run the chain of its node is less than certainly what the node's sign says
  abbrev pub AreShort : List Bool → List (Chain Kleene) → List Run → Type 0
  AreShort signs chains runs = (j : ℕ) (r : Run) → slice_get runs j ≡ Some r
      → (x : Chain Kleene) × (slice_get chains r.of ≡ Some x) × IsShortOver (sign_at signs r.of) x r.on

  -- so in each run of each list
  abbrev pub AreShortEach : List Bool → List (Chain Kleene) → List (Vec Run Global) → Type 0
  AreShortEach signs chains each = (k : ℕ) (v : Vec Run Global) → slice_get each k ≡ Some v → AreShort signs chains v.items

-- the run of the span is added, where there is a span
abbrev pub AddsRun : ℕ → Option Span → List Run → List Run → Type 0
AddsRun k on old new = MatchOption on (new ≡ old) (λ s. new ≡ old ++ record { of = k; on = s } ∷ [])

-- the run is one of the list
abbrev pub IsAmongRuns : List Run → Run → Type 0
IsAmongRuns runs r = (j : ℕ) × (slice_get runs j ≡ Some r)

-- each of the first runs is one of the others
abbrev pub AreAmong : List Run → List Run → Type 0
AreAmong new old = (j : ℕ) (r : Run) → slice_get new j ≡ Some r → IsAmongRuns old r

-- each of the new runs is an old one, or this one
abbrev pub PutsRun : Run → List Run → List Run → Type 0
PutsRun run old new = (j : ℕ) (r : Run) → slice_get new j ≡ Some r → IsAmongRuns old r ⊎ (r ≡ run)

-- the run is one of a list
abbrev pub IsAmongEach : List (Vec Run Global) → Run → Type 0
IsAmongEach each r = (k : ℕ) × (v : Vec Run Global) × (slice_get each k ≡ Some v) × IsAmongRuns v.items r

-- each run of the new lists is one of the old ones, or this one
abbrev pub SettlesRun : Run → List (Vec Run Global) → List (Vec Run Global) → Type 0
SettlesRun run old new = (r : Run) → IsAmongEach new r → IsAmongEach old r ⊎ (r ≡ run)

-- each run of the new lists is one of the old ones, or one of these
abbrev pub Settles : List Run → List (Vec Run Global) → List (Vec Run Global) → Type 0
Settles gained old new = (r : Run) → IsAmongEach new r → IsAmongEach old r ⊎ IsAmongRuns gained r

-- the cell at place p does not leave its atom as certain as is best, where the cells before the tried one stay, and marked ones
abbrev pub IsGone : List Item → List Bool → Bool → ℕ → ℕ → Type 0
IsGone all marks best tried p = (e : Item) → slice_get all p ≡ Some e → ¬ (known_at (stays tried marks p) e ≡ Some best)

-- the run is the span of such a cell of the node
abbrev pub IsGoneRun : List Item → List Bool → ℕ → Bool → ℕ → Run → Type 0
IsGoneRun all marks i best tried r =
    (r.of ≡ i) × (p : ℕ) × (e : Item) × (slice_get all p ≡ Some e) × (e.node ≡ i) × (r.on ≡ e.on) × IsGone all marks best tried p

-- the new runs are the old ones, and others that are so
abbrev pub AddsGone : List Item → List Bool → ℕ → Bool → ℕ → List Run → List Run → Type 0
AddsGone all marks i best tried old new =
    (j : ℕ) (r : Run) → slice_get new j ≡ Some r → (slice_get old j ≡ Some r) ⊎ IsGoneRun all marks i best tried r

-- each run is so
abbrev pub AreGone : List Item → List Bool → ℕ → Bool → ℕ → List Run → Type 0
AreGone all marks i best tried runs = (j : ℕ) (r : Run) → slice_get runs j ≡ Some r → IsGoneRun all marks i best tried r

-- what the items cover lies in cells before place c, and in marked ones behind it
abbrev pub StayWithout : List Item → List Bool → ℕ → List Item → Type 0
StayWithout all marks c some =
    (i : ℕ) (t : Rational) → IsCovered some i t → IsAmongPlaces all (λ j. (j < c) ⊎ ((c < j) × (slice_index_or marks j false ≡ true))) i t

-- without the cell at place c no run's node is certainly what its sign says at a time of the run
abbrev pub AreLost : List Node → Trace → List Item → List Bool → ℕ → List Bool → List Run → Type 0
AreLost nodes tr all marks c signs runs =
    (some : List Item) → StayWithout all marks c some → (j : ℕ) (r : Run) → slice_get runs j ≡ Some r → (t : Rational) → IsIn (interval r.on) t
    → ¬ Certain (sign_at signs r.of) (subformula nodes r.of) some tr t

-- so with the runs of each list
abbrev pub AreLostEach : List Node → Trace → List Item → List Bool → ℕ → List Bool → List (Vec Run Global) → Type 0
AreLostEach nodes tr all marks c signs each = (k : ℕ) (v : Vec Run Global) → slice_get each k ≡ Some v → AreLost nodes tr all marks c signs v.items

-- what the items cover lies in cells before place c, and in marked ones
abbrev pub StayFrom : List Item → List Bool → ℕ → List Item → Type 0
StayFrom all marks c some =
    (i : ℕ) (t : Rational) → IsCovered some i t → IsAmongPlaces all (λ j. (j < c) ⊎ (slice_index_or marks j false ≡ true)) i t

-- where the cells from place c on are gone but for marked ones, no run's node is certainly what its sign says at a time of the run
abbrev pub AreLostFrom : List Node → Trace → List Item → List Bool → ℕ → List Bool → List (Vec Run Global) → Type 0
AreLostFrom nodes tr all marks c signs each =
    (some : List Item) → StayFrom all marks c some → (r : Run) → IsAmongEach each r → (t : Rational) → IsIn (interval r.on) t
    → ¬ Certain (sign_at signs r.of) (subformula nodes r.of) some tr t

-- each node has a sign and a list of runs
pub record HasRuns (nodes : List Node) (signs : List Bool) (each : List (Vec Run Global)) : Type 0 where
  pub count : length signs ≡ length nodes
  pub lists : length each ≡ length nodes

-- what is the same for all nodes on the way up from an atom
pub record IsGround (nodes : List Node) (tr : Trace) (all : List Item) (marks : List Bool) (c : ℕ) (signs : List Bool)
    (each : List (Vec Run Global)) : Type 0 where
  pub signed : AreSigns nodes signs
  pub lost : AreLostEach nodes tr all marks c signs each

module _ (shape : ShapeOf Kleene) where
  -- a chain over the whole trace
  pub record IsWhole (tr : Trace) (x : Chain Kleene) : Type 0 where
    pub normal : IsNormal shape x
    pub input : IsInput (of_pieces shape) (first_time tr.rows) (last_time 0 tr.rows) x

  -- so is each of them
  abbrev pub AreWhole : Trace → List (Chain Kleene) → Type 0
  AreWhole tr xs = (k : ℕ) (x : Chain Kleene) → slice_get xs k ≡ Some x → IsWhole tr x

  -- each node has one
  pub record HasChains (nodes : List Node) (tr : Trace) (xs : List (Chain Kleene)) : Type 0 where
    pub count : length xs ≡ length nodes
    pub whole : AreWhole tr xs

  -- wherever the node is certainly what its sign says without the cell at place c, the chain is the best
  abbrev pub HasBest : List Node → Trace → List Item → List Bool → ℕ → List Bool → ℕ → Chain Kleene → Type 0
  HasBest nodes tr all marks c signs k x =
      (some : List Item) → StayWithout all marks c some → (t : Rational) (v : Extended) → IsWorth shape x t v
      → Certain (sign_at signs k) (subformula nodes k) some tr t → IsBest (sign_at signs k) v

  -- so is the one at the node's place
  abbrev pub HasBestIn : List Node → Trace → List Item → List Bool → ℕ → List Bool → ℕ → List (Chain Kleene) → Type 0
  HasBestIn nodes tr all marks c signs k xs = (x : Chain Kleene) → slice_get xs k ≡ Some x → HasBest nodes tr all marks c signs k x

module _ (shape : ShapeOf Kleene) where
  -- the new chain goes over the domain of the first, and is the best where both are
  pub record IsBestOf (best : Bool) (x y r : Chain Kleene) : Type 0 where
    pub normal : IsNormal shape r
    pub begins : Same r.from x.from
    pub ends : Same (stop r) (stop x)
    pub worth : (t : Rational) (v : Extended) → IsWorth shape r t v → (u w : Extended) × IsWorth shape x t u × IsWorth shape y t w
        × (IsBest best u → IsBest best w → IsBest best v)

-- the operands of a node are the one at place k and the other one, where there is one
abbrev pub AreOperands : Node → ℕ → Option ℕ → Type 0
AreOperands n k other = IsChild n k × ((i : ℕ) → IsChild n i → (i ≡ k) ⊎ (other ≡ Some i))

-- the mark at place c is put where its cell is needed, or none is
abbrev pub PutsNeeded : List Node → Trace → List Item → ℕ → List Bool → List Bool → Type 0
PutsNeeded nodes tr all c old new = (new ≡ old) ⊎ ((new ≡ slice_set old c true) × IsNeeded nodes tr all old c)
