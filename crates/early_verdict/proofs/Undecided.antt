-- What is known while nothing is decided.
use Rattle.std.proofs.Common.{◌≡◌, refl, sym, subst, ◌∙◌, ℕ, Bool, true, Option, Some, None, List, [], ◌∷◌, length}
use Rattle.stl_syntax.specs.Trace.{Header, Row}
use Rattle.stl_syntax.specs.Formula.{Formula, root}
use Rattle.atom_lines.specs.Binding.{Binding}
use Rattle.early_verdict.specs.Living.{ComesOn}
use Rattle.early_verdict.specs.Happening.{Happens}
use Rattle.early_verdict.specs.Deciding.{IsOpen, IsTruthAtStart, IsVerdict, last_after, last_of, trace_of}
use Rattle.early_verdict.specs.declared.entry.Entry.{Entry}
use Rattle.early_verdict.specs.declared.sets.Sets.{Sets}
use Rattle.early_verdict.proofs.GoingOn.{end_final}
use Rattle.early_verdict.proofs.DecideLemmas.{some_truth, truth_of}
use Rattle.early_verdict.proofs.StandingOn.{rise_of}

-- no rows, no last
pub none_rows : (rows : List Row) → last_of rows ≡ None → rows ≡ []
none_rows [] e = refl
none_rows (r ∷ rows) e = absurd (let f : Some (last_after r rows) ≡ None = e in cc)

-- where there is a last row there are rows
pub some_rows : (rows : List Row) (q : Row) → last_of rows ≡ Some q → (r : Row) × (more : List Row) × (rows ≡ r ∷ more)
some_rows [] q e = absurd (let f : None ≡ Some q = e in cc)
some_rows (r ∷ rows) q e = (r, rows, refl)

-- before the first row
pub open_first : (f : Formula) (b : Binding) (header : Header) (rows : List Row) (begin : ℕ) (last : Option Row) (live shown : List Sets)
    → last ≡ None → IsOpen f b header rows begin last live shown → (rows ≡ []) × IsOpen f b header [] 0 None live shown
open_first f b header rows begin last live shown none o = by_rows rows (none_rows rows (sym o.ends ∙ none)) o
  where
    by_rows : (l : List Row) → l ≡ [] → IsOpen f b header l begin last live shown → (l ≡ []) × IsOpen f b header [] 0 None live shown
    by_rows [] e o = (refl, record { bound = o.bound; formed = o.formed; some = o.some; so_far = tt; ends = refl; sets_are = o.sets_are })
    by_rows (r ∷ l) e o = absurd (let f : r ∷ l ≡ [] = e in cc)

-- after others
pub open_next : (f : Formula) (b : Binding) (header : Header) (rows : List Row) (begin : ℕ) (last : Option Row) (live shown : List Sets) (q : Row)
    → last ≡ Some q → IsOpen f b header rows begin last live shown
    → (r : Row) × (more : List Row) × (rows ≡ r ∷ more) × IsOpen f b header (r ∷ more) begin last live shown
open_next f b header rows begin last live shown q some o =
    let w = some_rows rows q (sym o.ends ∙ some) in (w.0, w.1, w.2, subst (λ l. IsOpen f b header l begin last live shown) w.2 o)

-- once the input has ended, what the root says is the truth
module _ {f : Formula} {b : Binding} {header : Header} {r : Row} {rows : List Row} {begin : ℕ} {before previous : Option Row}
    {last : Row} {e : Entry} {live shown new new_shown : List Sets} (o : IsOpen f b header (r ∷ rows) begin before live shown)
    (on : ComesOn f.nodes b e previous last live new shown new_shown) (ended : e.ended ≡ true)
    (happens : Happens e (Some (trace_of header (r ∷ rows))) (trace_of header (r ∷ rows))) where
  count : length new_shown ≡ length f.nodes
  count = on.shows.count ∙ o.sets_are.1.have.shown_count

  -- at the end what is answered is the truth at the start
  pub end_truth : (holds : Bool) → IsVerdict new_shown begin (Some holds) → IsTruthAtStart (root f.nodes) (trace_of header (r ∷ rows)) holds
  end_truth holds v =
      let k = end_final o on ended happens in
      truth_of f.nodes header r rows new_shown count k.0 k.1 (rise_of header r rows o.so_far) holds
      (subst (λ k. IsVerdict new_shown k (Some holds)) o.sets_are.0 v)

  -- at the end there is an answer
  pub end_some : IsVerdict new_shown begin None → ⊥
  end_some v =
      let k = end_final o on ended happens in
      some_truth f.nodes header r rows new_shown count k.0 k.1 (rise_of header r rows o.so_far)
      (subst (λ k. IsVerdict new_shown k None) o.sets_are.0 v)
