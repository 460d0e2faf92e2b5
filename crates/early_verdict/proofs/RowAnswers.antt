-- What is answered to rows, by what an early verdict stands for before and after them.
use Rattle.std.proofs.Common.{◌≡◌, refl, sym, ap, subst, ◌∙◌, ℕ, ◌-◌, false, Option, Some, None, List, [], ◌∷◌, ◌++◌, length, drop, inl, inr}
use Rattle.std.specs.Prelude.{MatchOption}
use Rattle.stl_syntax.specs.Trace.{Header, Row, Trace}
use Rattle.stl_syntax.specs.Formula.{Formula, Subformula, root}
use Rattle.stl_syntax.specs.Early.{NoneDecides, FirstDecides}
use Rattle.atom_lines.specs.Binding.{Binding}
use Rattle.early_verdict.specs.Answers.{StaysDecided, newly_decided}
use Rattle.early_verdict.specs.BlockRows.{row_before}
use Rattle.early_verdict.specs.Deciding.{Kept, IsAnswer, IsBlockAnswer, SetsAre, Stands, WasDecided, decided_by, kept_of, last_of}
use Rattle.early_verdict.specs.declared.early.Decided.{Decided}
use Rattle.early_verdict.specs.declared.progress.Progress.{Progress}
use Rattle.early_verdict.proofs.BlockLemmas.{before_end, before_more, behind_rows, last_kept}
use Rattle.early_verdict.proofs.DecideLemmas.{split_last}

-- what was decided stays so
pub stays_same : (o : Option Decided) → StaysDecided o o
stays_same None = tt
stays_same (Some d) = refl

-- where nothing was, anything is as it stays
pub stays_none : (o now : Option Decided) → o ≡ None → StaysDecided o now
stays_none o now e = subst (λ o. StaysDecided o now) (sym e) tt

-- what stays and stays again stays
pub stays_then : (o mid now : Option Decided) → StaysDecided o mid → StaysDecided mid now → StaysDecided o now
stays_then None mid now h k = tt
stays_then (Some d) mid now h k = subst (λ o. StaysDecided o now) h k

-- what is decided now is what was, or what was decided newly
pub decided_newly : (o now : Option Decided) → StaysDecided o now → now ≡ decided_by o (newly_decided o now)
decided_newly None now h = refl
decided_newly (Some d) now h = h

-- what stands with no end of the input, whichever words say that it goes on
pub as_open : (x : Kept) (rows : List Row) → Stands x rows false → Stands (record x { ended = false; stopped = false }) rows false
as_open x rows st = subst (λ e. Stands (record x { ended = e; stopped = false }) rows false) st.is_ended
    (subst (λ s. Stands (record x { stopped = s }) rows false) st.running st)

-- and the other way round
pub from_open : (x : Kept) (rows : List Row) → x.ended ≡ false → x.stopped ≡ false → Stands (record x { ended = false; stopped = false }) rows false
    → Stands x rows false
from_open x rows ended running st = subst (λ s. Stands (record x { stopped = s }) rows false) (sym running)
    (subst (λ e. Stands (record x { ended = e; stopped = false }) rows false) (sym ended) st)

module _ (p : Subformula) (header : Header) (rows more : List Row) where
  -- some rows more have decided nothing, or one of them was the first that did
  answered : (o now : Option Decided) → StaysDecided o now → MatchOption o (NoneDecides p header rows) (WasDecided p header rows)
      → MatchOption now (NoneDecides p header (rows ++ more)) (WasDecided p header (rows ++ more)) → IsBlockAnswer p header rows more (newly_decided o now)
  answered None None h before after = λ none. after
  answered None (Some d) h before after = (before, after)
  answered (Some d) now h before after = λ none. absurd (none before.before before.after before.row d.holds before.among before.first.decides)

-- what one row answers
one_answer : (p : Subformula) (header : Header) (rows : List Row) (r : Row) (answer : Option Decided) → IsBlockAnswer p header rows (r ∷ []) answer
    → IsAnswer p header rows r answer
one_answer p header rows r None h = λ b first. h first.not_before rows [] r b refl first.decides
one_answer p header rows r (Some d) (none, w) = elim (split_last rows w.before w.after r w.row w.among) [
  | inl e ↦ (
    w.at ∙ ap (λ (q : Row). q.time) e.1,
    subst (λ (l : List Row). FirstDecides p header l r d.holds) e.0 (subst (λ q. FirstDecides p header w.before q d.holds) e.1 w.first),
  )
  | inr e ↦ absurd (none w.before e.0 w.row d.holds e.1 w.first.decides)
]

-- by its verdict, none of the rows has decided, or one has
told_by : (x : Kept) (rows : List Row) → Stands x rows false
    → MatchOption x.decided (NoneDecides (root x.nodes) x.header rows) (WasDecided (root x.nodes) x.header rows)
told_by x rows st = by_decided x.decided st.by
  where
    by_decided : (o : Option Decided)
        → MatchOption o (NoneDecides (root x.nodes) x.header rows × (x.ended ≡ false → SetsAre x.nodes x.header x.begin x.live x.shown rows))
        (WasDecided (root x.nodes) x.header rows)
        → MatchOption o (NoneDecides (root x.nodes) x.header rows) (WasDecided (root x.nodes) x.header rows)
    by_decided None h = h.0
    by_decided (Some d) h = h

module _ (x y : Kept) (rows more : List Row) (nodes : y.nodes ≡ x.nodes) (header : y.header ≡ x.header) (stood : Stands x rows false)
    (stands : Stands y (rows ++ more) false) (stays : StaysDecided x.decided y.decided) where
  -- what some rows answer
  pub block_answer : IsBlockAnswer (root x.nodes) x.header rows more (newly_decided x.decided y.decided)
  block_answer = answered (root x.nodes) x.header rows more x.decided y.decided stays (told_by x rows stood)
      (subst (λ n. MatchOption y.decided (NoneDecides (root n) x.header (rows ++ more)) (WasDecided (root n) x.header (rows ++ more))) nodes
      (subst (λ h. MatchOption y.decided (NoneDecides (root y.nodes) h (rows ++ more)) (WasDecided (root y.nodes) h (rows ++ more))) header
      (told_by y (rows ++ more) stands)))

-- what a row answers
pub row_answer : (x y : Kept) (rows : List Row) (r : Row) → y.nodes ≡ x.nodes → y.header ≡ x.header → Stands x rows false
    → Stands y (rows ++ r ∷ []) false → StaysDecided x.decided y.decided → IsAnswer (root x.nodes) x.header rows r (newly_decided x.decided y.decided)
row_answer x y rows r nodes header stood stands stays =
    one_answer (root x.nodes) x.header rows r (newly_decided x.decided y.decided) (block_answer x y rows (r ∷ []) nodes header stood stands stays)

module _ (f : Formula) (b : Binding) (block all : Trace) (more : List Row) (is_all : all ≡ record block { rows = block.rows ++ more }) (from : ℕ)
    (is_from : from ≡ length block.rows) (rows : List Row) where
  -- before the rows that stand behind the last one are taken
  pub stands_before : (p : Progress) → Stands (kept_of f b block.header (last_of block.rows) p) rows false
      → Stands (kept_of f b all.header (row_before all from) p) rows false
  stands_before p st = subst (λ (t : Trace). Stands (kept_of f b t.header (row_before t from) p) rows false) (sym is_all)
      (subst (λ o. Stands (kept_of f b block.header o p) rows false)
      (sym (ap (λ n. row_before (record block { rows = block.rows ++ more }) n) is_from ∙ before_more block.header block.rows more)) st)

  -- and after that, with the last of them alone
  pub stands_behind : (p : Progress) (kept : Trace) → kept ≡ record all { rows = drop (length all.rows - 1) all.rows }
      → Stands (kept_of f b all.header (row_before all (length all.rows)) p) (rows ++ drop from all.rows) false
      → Stands (kept_of f b kept.header (last_of kept.rows) p) (rows ++ more) false
  stands_behind p kept k st = subst (λ (t : Trace). Stands (kept_of f b t.header (last_of t.rows) p) (rows ++ more) false) (sym k)
      (subst (λ o. Stands (kept_of f b all.header o p) (rows ++ more) false) (before_end all ∙ sym (last_kept all.rows))
      (subst (λ (l : List Row). Stands (kept_of f b all.header (row_before all (length all.rows)) p) (rows ++ l) false)
      (ap (λ (t : Trace). drop from t.rows) is_all ∙ ap (λ n. drop n (block.rows ++ more)) is_from ∙ behind_rows block.rows more) st))
