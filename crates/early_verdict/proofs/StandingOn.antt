-- What an early verdict stands for goes on with a row, and to the end.
use Rattle.std.proofs.Common.{◌≡◌, refl, sym, ap, subst, ◌∙◌, ℕ, ◌<◌, Bool, false, Option, Some, None, List, [], ◌∷◌, ◌++◌, length, arith}
use Rattle.std.specs.Prelude.{MatchOption, IfSome, option_map, IsSome, slice_get}
use Rattle.rational.specs.Time.{◌≤ʳ◌}
use Rattle.stl_syntax.specs.Trace.{Header, Row, AreRows, row_time, stop}
use Rattle.stl_syntax.specs.Formula.{Formula, root}
use Rattle.stl_syntax.specs.Early.{Decides, NoneDecides, FirstDecides}
use Rattle.stl_syntax.specs.WellFormed.{AreWellFormed}
use Rattle.stl_syntax.specs.declared.node.Node.{Node}
use Rattle.stl_syntax.specs.declared.node.Node.TheVariants.{Atom as Leaf}
use Rattle.stl_syntax.proofs.RowsLemmas.{last_from}
use Rattle.atom_lines.specs.Binding.{Binding, IsBound}
use Rattle.early_verdict.specs.Deciding.{Kept, AreRowsSoFar, IsAnswer, IsOpen, IsTruthAtStart, IsVerdict}
use Rattle.early_verdict.specs.Deciding.{SetsAre, Stands, StandsBy, WasDecided, last_of, trace_of}
use Rattle.early_verdict.specs.declared.sets.Sets.{Sets}
use Rattle.early_verdict.specs.declared.early.Decided.{Decided}
use Rattle.early_verdict.proofs.DecideLemmas.{decided_of, decided_truth, none_more, not_again, still_decided}
use Rattle.early_verdict.proofs.RowLemmas.{last_row_pushed, rows_pushed}

-- a binding is one of each formula with the same nodes
pub bound_any : (b : Binding) (f g : Formula) (h : Header) → f.nodes ≡ g.nodes → IsBound b f h → IsBound b g h
bound_any b f g h e k = record { width = k.width; atoms = λ i a at. k.atoms i a (subst (λ l. slice_get l i ≡ Some (Leaf a)) (sym e) at) }

-- while nothing is decided it is open
pub open_of : (x : Kept) (f : Formula) (rows : List Row) → x.nodes ≡ f.nodes → Stands x rows false → x.decided ≡ None
    → IsOpen f x.bound x.header rows x.begin x.last x.live x.shown
open_of x f rows e s none = record {
  bound = bound_any x.bound (record { nodes = x.nodes; scale = s.scale }) f x.header e s.bound;
  formed = subst (λ l. AreWellFormed l) e s.formed;
  some = subst (λ l. 0 < length l) e s.some;
  so_far = s.so_far;
  ends = s.last;
  sets_are = subst (λ l. SetsAre l x.header x.begin x.live x.shown rows) e (by_none x.decided none s.by);
}
  where
    by_none : (d : Option Decided) → d ≡ None
        → MatchOption d (NoneDecides (root x.nodes) x.header rows × (x.ended ≡ false → SetsAre x.nodes x.header x.begin x.live x.shown rows))
        (WasDecided (root x.nodes) x.header rows)
        → SetsAre x.nodes x.header x.begin x.live x.shown rows
    by_none None n h = h.1 s.is_ended
    by_none (Some d) n h = absurd (let f : Some d ≡ None = n in cc)

-- rows with one more
rows_on : (width : ℕ) (rows : List Row) (last : Option Row) (x : Row) → AreRowsSoFar width rows → last ≡ last_of rows
    → IfSome last (λ r. r.time < x.time) → length x.values ≡ width
    → AreRowsSoFar width (rows ++ x ∷ [])
rows_on width [] last x ok e l w = (w, tt)
rows_on width (r ∷ rows) last x ok e l w = rows_pushed width r rows x ok (subst (λ o. IfSome o (λ r. r.time < x.time)) e l) w

-- the row that was pushed is the last
pub last_on : (rows : List Row) (x : Row) → Some x ≡ last_of (rows ++ x ∷ [])
last_on [] x = refl
last_on (r ∷ rows) x = ap Some (sym (last_row_pushed r rows x))

-- what the sets say of rows with one more
decided_on : (nodes : List Node) (header : Header) (rows : List Row) (x : Row) (begin : ℕ) (live shown : List Sets) (verdict : Option Bool) → 0 < length nodes
    → SetsAre nodes header begin live shown (rows ++ x ∷ []) → IsVerdict shown begin verdict
    → MatchOption verdict ((b : Bool) → Decides (root nodes) (trace_of header (rows ++ x ∷ [])) b → ⊥)
    (λ b. Decides (root nodes) (trace_of header (rows ++ x ∷ [])) b)
decided_on nodes header [] x begin live shown verdict some (e, s) v =
    decided_of nodes header x [] live shown some s verdict (subst (λ k. IsVerdict shown k verdict) e v)
decided_on nodes header (r ∷ rows) x begin live shown verdict some (e, s) v =
    decided_of nodes header r (rows ++ x ∷ []) live shown some s verdict (subst (λ k. IsVerdict shown k verdict) e v)

-- the verdict of the row
abbrev pub decided_now : ℕ → Option Bool → Option Decided
decided_now t verdict = option_map (λ holds. record { at = t; holds = holds }) verdict

-- what is kept with a row
abbrev pub with_row : Kept → Row → ℕ → List Sets → List Sets → Option Bool → Kept
with_row x r begin left left_shown verdict =
    record x { live = left; shown = left_shown; begin = begin; last = Some r; decided = decided_now r.time verdict }

-- a row is taken while nothing is decided: `verdict` is what the sets say then, `left` and `left_shown` are what is kept of them
pub record IsTaken (x : Kept) (rows : List Row) (r : Row) (begin : ℕ) (left left_shown : List Sets) (verdict : Option Bool) : Type 0 where
  -- it stood for the rows before
  pub stood : Stands x rows false
  -- and had decided nothing
  pub undecided : x.decided ≡ None
  -- the row has the columns of the atoms
  pub width : length r.values ≡ x.bound.width
  -- and is later than the last
  pub later : IfSome x.last (λ q. q.time < r.time)
  -- what the nodes go on from after the row
  pub live : List Sets
  -- and what they show
  pub shown : List Sets
  -- the sets tell what the rows with it settle
  pub are : SetsAre x.nodes x.header begin live shown (rows ++ r ∷ [])
  -- they say this of the start
  pub says : IsVerdict shown begin verdict
  -- what is kept of them tells the same as long as nothing is decided
  pub kept : decided_now r.time verdict ≡ None → SetsAre x.nodes x.header begin left left_shown (rows ++ r ∷ [])

module _ {x : Kept} {rows : List Row} {r : Row} {begin : ℕ} {left left_shown : List Sets} {verdict : Option Bool}
    (t : IsTaken x rows r begin left left_shown verdict) where
  none_yet : NoneDecides (root x.nodes) x.header rows
  none_yet = by_none x.decided t.undecided t.stood.by
    where
      by_none : (d : Option Decided) → d ≡ None
          → MatchOption d (NoneDecides (root x.nodes) x.header rows × (x.ended ≡ false → SetsAre x.nodes x.header x.begin x.live x.shown rows))
          (WasDecided (root x.nodes) x.header rows)
          → NoneDecides (root x.nodes) x.header rows
      by_none None n h = h.0
      by_none (Some d) n h = absurd (let f : Some d ≡ None = n in cc)

  -- what the sets say of the start, the rows decide
  decides : (o : Option Bool) → IsVerdict t.shown begin o
      → MatchOption o ((b : Bool) → Decides (root x.nodes) (trace_of x.header (rows ++ r ∷ [])) b → ⊥)
      (λ b. Decides (root x.nodes) (trace_of x.header (rows ++ r ∷ [])) b)
  decides o u = decided_on x.nodes x.header rows r begin t.live t.shown o t.stood.some t.are u

  stands_by : StandsBy (with_row x r begin left left_shown verdict) (rows ++ r ∷ [])
  stands_by = by_verdict verdict t.says t.kept
    where
      by_verdict : (o : Option Bool) → IsVerdict t.shown begin o
          → (decided_now r.time o ≡ None → SetsAre x.nodes x.header begin left left_shown (rows ++ r ∷ []))
          → MatchOption (decided_now r.time o)
          (NoneDecides (root x.nodes) x.header (rows ++ r ∷ []) × (x.ended ≡ false → SetsAre x.nodes x.header begin left left_shown (rows ++ r ∷ [])))
          (WasDecided (root x.nodes) x.header (rows ++ r ∷ []))
      by_verdict None u g = (none_more (root x.nodes) x.header rows r none_yet (decides None u), λ o. g refl)
      by_verdict (Some holds) u g = record {
        before = rows;
        row = r;
        after = [];
        among = refl;
        at = refl;
        first = record { decides = decides (Some holds) u; not_before = none_yet };
      }

  -- after a row it stands for the rows with it
  pub fed_stands : Stands (with_row x r begin left left_shown verdict) (rows ++ r ∷ []) false
  fed_stands = record {
    formed = t.stood.formed;
    some = t.stood.some;
    scale = t.stood.scale;
    bound = t.stood.bound;
    so_far = rows_on (length x.header.columns) rows x.last r t.stood.so_far t.stood.last t.later (t.width ∙ t.stood.bound.width);
    running = t.stood.running;
    is_ended = t.stood.is_ended;
    last = last_on rows r;
    by = stands_by;
  }

  -- what is answered at a row is what the row decides
  pub fed_answer : IsAnswer (root x.nodes) x.header rows r (decided_now r.time verdict)
  fed_answer = by_verdict verdict t.says
    where
      by_verdict : (o : Option Bool) → IsVerdict t.shown begin o → IsAnswer (root x.nodes) x.header rows r (decided_now r.time o)
      by_verdict None u = λ b f. decides None u b f.decides
      by_verdict (Some holds) u = (refl, record { decides = decides (Some holds) u; not_before = none_yet })

-- a row after one that has decided
module _ (x : Kept) (rows : List Row) (st : Stands x rows false) (d : Decided) (is : x.decided ≡ Some d) where
  -- what was decided stays so
  pub was : WasDecided (root x.nodes) x.header rows d
  was = by_some x.decided is st.by
    where
      by_some : (o : Option Decided) → o ≡ Some d
          → MatchOption o (NoneDecides (root x.nodes) x.header rows × (x.ended ≡ false → SetsAre x.nodes x.header x.begin x.live x.shown rows))
          (WasDecided (root x.nodes) x.header rows)
          → WasDecided (root x.nodes) x.header rows d
      by_some None e h = absurd (let f : None ≡ Some d = e in cc)
      by_some (Some b) e h = subst (λ y. WasDecided (root x.nodes) x.header rows y) (same b d e) h
        where
          same : (a b : Decided) → Some a ≡ Some b → a ≡ b
          same a b e = cc

  -- once decided it stands for the rows with one more
  pub passed_stands : (r : Row) → length r.values ≡ x.bound.width → IfSome x.last (λ q. q.time < r.time)
      → Stands (record x { last = Some r }) (rows ++ r ∷ []) false
  passed_stands r width later = record {
    formed = st.formed;
    some = st.some;
    scale = st.scale;
    bound = st.bound;
    so_far = rows_on (length x.header.columns) rows x.last r st.so_far st.last later (width ∙ st.bound.width);
    running = st.running;
    is_ended = st.is_ended;
    last = last_on rows r;
    by = subst (λ o. MatchOption o
        (NoneDecides (root x.nodes) x.header (rows ++ r ∷ []) × (x.ended ≡ false → SetsAre x.nodes x.header x.begin x.live x.shown (rows ++ r ∷ [])))
        (WasDecided (root x.nodes) x.header (rows ++ r ∷ []))) (sym is) (still_decided (root x.nodes) x.header rows d r was);
  }

  -- once a row has decided no later row is the first that decides
  pub passed_answer : (r : Row) (b : Bool) → FirstDecides (root x.nodes) x.header rows r b → ⊥
  passed_answer r b f = not_again (root x.nodes) x.header rows d r b was f

-- what had been decided is the truth at the end
pub decided_end : (x : Kept) (rows : List Row) (d : Decided) → Stands x rows false → x.decided ≡ Some d → IsSome x.last
    → IsTruthAtStart (root x.nodes) (trace_of x.header rows) d.holds
decided_end x rows d st is fed = by_rows rows st (was x rows st d is)
  where
    by_rows : (rows : List Row) → Stands x rows false → WasDecided (root x.nodes) x.header rows d
        → IsTruthAtStart (root x.nodes) (trace_of x.header rows) d.holds
    by_rows [] st w = absurd (no_rows w.before w.among)
      where
        no_rows : (before : List Row) → [] ≡ before ++ w.row ∷ w.after → ⊥
        no_rows [] e = cc
        no_rows (q ∷ before) e = cc
    by_rows (r ∷ rows) st w = decided_truth (root x.nodes) x.header (r ∷ rows) d st.so_far w

-- the first row is no later than the last
pub rise_of : (header : Header) (r : Row) (rows : List Row) → AreRows (length header.columns) (r ∷ rows) → row_time r ≤ʳ stop (trace_of header (r ∷ rows))
rise_of header r rows ok = let h = last_from (length header.columns) r.time rows ok.1 in record { le = omega (arith, h) }
