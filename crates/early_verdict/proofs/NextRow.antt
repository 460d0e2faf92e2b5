-- An early verdict goes on with a row.
use Rattle.std.proofs.Common.{◌≡◌, refl, sym, ap, subst, ◌∙◌, ℕ, ◌<◌, Bool, true, false, Option, Some, None, List, [], ◌∷◌, ◌++◌, length}
use Rattle.std.specs.Prelude.{IfSome, IsSome, is_some}
use Rattle.stl_syntax.specs.Trace.{Header, Row, Trace}
use Rattle.stl_syntax.specs.Formula.{Formula, root}
use Rattle.stl_syntax.specs.WellFormed.{AreWellFormed}
use Rattle.atom_lines.specs.Binding.{Binding, IsBound}
use Rattle.stl_syntax.specs.declared.node.Node.{Node}
use Rattle.early_verdict.specs.Standing.{AllTidy}
use Rattle.early_verdict.specs.Living.{NetStands}
use Rattle.early_verdict.specs.Deciding.{Kept, IsAnswer, SetsAre, Stands, last_of}
use Rattle.early_verdict.specs.declared.sets.Sets.{Sets}
use Rattle.early_verdict.specs.declared.early.Decided.{Decided}
use Rattle.rational.proofs.Lists.{some_of}
use Rattle.early_verdict.proofs.DecideLemmas.{none_first}
use Rattle.early_verdict.proofs.StandingOn.{IsTaken, bound_any, decided_now, fed_answer, fed_stands, passed_answer, passed_stands}

-- nothing is taken yet
pub fresh : (b : Binding) (f : Formula) (header : Header) (live shown : List Sets) → AreWellFormed f.nodes → 0 < length f.nodes → IsBound b f header
    → Stands (record {
      nodes = f.nodes;
      header = header;
      bound = b;
      live = live;
      shown = shown;
      begin = 0;
      last = None;
      decided = None;
      ended = false;
      stopped = false;
    }) [] false
fresh b f header live shown formed some bound = record {
  formed = formed;
  some = some;
  scale = f.scale;
  bound = bound_any b f (record { nodes = f.nodes; scale = f.scale }) header refl bound;
  so_far = tt;
  running = refl;
  is_ended = refl;
  last = refl;
  by = (none_first (root f.nodes) header, λ e. tt);
}

-- an option that does not come out as some is none
pub none_if : {A : Type 0} (o : Option A) → is_some o ≡ false → o ≡ None
none_if None e = refl
none_if (Some x) e = absurd (let f : true ≡ false = e in cc)

-- where what stands for the rows goes on to stand for them
pub sets_as : (nodes : List Node) (header : Header) (begin : ℕ) (live shown left left_shown : List Sets) (rows : List Row) (x : Row)
    → ((tr : Trace) → NetStands nodes tr live shown → NetStands nodes tr left left_shown) → SetsAre nodes header begin live shown (rows ++ x ∷ [])
    → SetsAre nodes header begin left left_shown (rows ++ x ∷ [])
sets_as nodes header begin live shown left left_shown [] x f s = (s.0, f _ s.1)
sets_as nodes header begin live shown left left_shown (r ∷ rows) x f s = (s.0, f _ s.1)

-- sets of rows stand for the trace of the rows
pub net_of : (nodes : List Node) (header : Header) (begin : ℕ) (live shown : List Sets) (rows : List Row) (x : Row)
    → SetsAre nodes header begin live shown (rows ++ x ∷ [])
    → (tr : Trace) × NetStands nodes tr live shown
net_of nodes header begin live shown [] x s = (_, s.1)
net_of nodes header begin live shown (r ∷ rows) x s = (_, s.1)

-- a row while nothing is decided
pub fed_by : {x : Kept} {rows : List Row} {r kept : Row} {begin : ℕ} {left left_shown : List Sets} {verdict : Option Bool} {decided : Option Decided}
    → IsTaken x rows r begin left left_shown verdict → kept ≡ r → decided ≡ decided_now r.time verdict
    → Stands (record x { live = left; shown = left_shown; begin = begin; last = Some kept; decided = decided })
    (rows ++ r ∷ []) false × IsAnswer (root x.nodes) x.header rows r decided
fed_by {x} {rows} {r} {begin = begin} {left = left} {left_shown = left_shown} {decided = decided} t same is = (
  subst (λ k. Stands (record x { live = left; shown = left_shown; begin = begin; last = Some k; decided = decided }) (rows ++ r ∷ []) false) (sym same)
      (subst (λ d. Stands (record x { live = left; shown = left_shown; begin = begin; last = Some r; decided = d }) (rows ++ r ∷ []) false) (sym is)
      (fed_stands t)),
  subst (λ d. IsAnswer (root x.nodes) x.header rows r d) (sym is) (fed_answer t),
)

-- a row after the one that decided
pub passed_by : (x : Kept) (rows : List Row) (r kept : Row) → Stands x rows false → is_some x.decided ≡ true → length r.values ≡ x.bound.width
    → IfSome x.last (λ q. q.time < r.time) → kept ≡ r
    → Stands (record x { last = Some kept }) (rows ++ r ∷ []) false × IsAnswer (root x.nodes) x.header rows r None
passed_by x rows r kept st some width later same =
    let d = some_of x.decided some in (
      subst (λ k. Stands (record x { last = Some k }) (rows ++ r ∷ []) false) (sym same) (passed_stands x rows st d.0 d.1 r width later),
      passed_answer x rows st d.0 d.1 r,
    )

-- not ended yet, as the caller sees it
pub unended : (x y : Kept) (rows : List Row) → x ≡ y → y.ended ≡ false → Stands x rows x.ended → Stands x rows false
unended x y rows e o st = subst (λ b. Stands x rows b) (ap (λ (z : Kept). z.ended) e ∙ o) st

-- the same stands whichever word says that the input goes on
pub as_ended : (x : Kept) (rows : List Row) (b : Bool) → Stands x rows b → Stands x rows x.ended
as_ended x rows b st = subst (λ c. Stands x rows c) (sym st.is_ended) st

-- what is shown is tidy
pub shown_tidy : (nodes : List Node) (header : Header) (begin : ℕ) (live shown : List Sets) (rows : List Row) (x : Row)
    → SetsAre nodes header begin live shown (rows ++ x ∷ [])
    → AllTidy shown
shown_tidy nodes header begin live shown rows x s = (net_of nodes header begin live shown rows x s).1.shown_tidy

-- after a row the root shows something
pub some_shown : (nodes : List Node) (header : Header) (begin : ℕ) (live shown : List Sets) (rows : List Row) (x : Row)
    → SetsAre nodes header begin live shown (rows ++ x ∷ [])
    → 0 < length nodes → 0 < length shown
some_shown nodes header begin live shown rows x s some =
    subst (λ n. 0 < n) (sym (net_of nodes header begin live shown rows x s).1.have.shown_count) some

none_has : (o : Option Row) → o ≡ None → IsSome o → ⊥
none_has None e s = let f : false ≡ true = s in cc
none_has (Some x) e s = let f : Some x ≡ None = e in cc

-- rows that have a last one
pub fed_rows : (rows : List Row) (last : Option Row) → last ≡ last_of rows → IsSome last → (r : Row) × (more : List Row) × (rows ≡ r ∷ more)
fed_rows [] last e s = absurd (none_has last e s)
fed_rows (r ∷ rows) last e s = (r, rows, refl)
