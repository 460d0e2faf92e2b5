-- What sets decide of the start, row by row and at the end.
use Rattle.std.proofs.Common.{◌≡◌, ◌⊎◌, inl, inr, refl, sym, ap, subst, ◌∙◌, ◌-◌, ◌<◌, Bool, true, false}
use Rattle.std.proofs.Common.{Option, Some, None, List, [], ◌∷◌, ◌++◌, length, arith, append_assoc}
use Rattle.std.specs.Prelude.{MatchOption}
use Rattle.rational.specs.Time.{◌≤ʳ◌}
use Rattle.stl_syntax.specs.Trace.{Header, Row, Trace, AreRows, row_time, start, stop}
use Rattle.stl_syntax.specs.Formula.{Subformula, root}
use Rattle.stl_syntax.specs.Early.{Settled, SettledNot, Decides, NoneDecides, FirstDecides}
use Rattle.stl_syntax.specs.declared.node.Node.{Node}
use Rattle.stl_syntax.proofs.LawProofs.{decisions_stay}
use Rattle.early_verdict.specs.Fitting.{Lists, lists_at}
use Rattle.early_verdict.specs.Living.{IsShown, Known, NetStands}
use Rattle.early_verdict.specs.Deciding.{IsTruthAtStart, IsVerdict, WasDecided, trace_of}
use Rattle.early_verdict.specs.declared.sets.Sets.{Sets}
use Rattle.early_verdict.specs.declared.early.Decided.{Decided}
use Rattle.early_verdict.proofs.EndedSets.{Final}

-- the root's sets are those of the last node
root_place : (nodes : List Node) (sets : List Sets) → length sets ≡ length nodes → lists_at sets (length sets - 1) ≡ lists_at sets (length nodes - 1)
root_place nodes sets e = ap (λ k. lists_at sets (k - 1)) e

-- what the sets that stand for rows say of the start
module _ (nodes : List Node) (header : Header) (r : Row) (rows : List Row) (live shown : List Sets) (some : 0 < length nodes)
    (stand : NetStands nodes (trace_of header (r ∷ rows)) live shown) where
  abbrev tr : Trace
  tr = trace_of header (r ∷ rows)

  at_root : Known (IsShown shown (length nodes - 1)) (lists_at shown (length shown - 1)) (Settled (root nodes) tr) (SettledNot (root nodes) tr)
  at_root = subst (λ (l : Lists). Known (IsShown shown (length nodes - 1)) l (Settled (root nodes) tr) (SettledNot (root nodes) tr))
      (sym (root_place nodes shown stand.have.shown_count)) (stand.known (length nodes - 1) (omega (arith, some)))

  -- what the sets answer at the row is what the rows decide
  pub decided_of : (verdict : Option Bool) → IsVerdict shown r.time verdict
      → MatchOption verdict ((b : Bool) → Decides (root nodes) tr b → ⊥) (λ b. Decides (root nodes) tr b)
  decided_of None v = by_truth
    where
      by_truth : (b : Bool) → Decides (root nodes) tr b → ⊥
      by_truth true d = v.0 (at_root.yes_in (start tr) stand.root d)
      by_truth false d = v.1 (at_root.no_in (start tr) stand.root d)
  decided_of (Some true) v = at_root.yes_out (start tr) v
  decided_of (Some false) v = at_root.no_out (start tr) v

-- once the input has ended they say the truth
module _ (nodes : List Node) (header : Header) (r : Row) (rows : List Row) (shown : List Sets) (count : length shown ≡ length nodes)
    (final : Final (trace_of header (r ∷ rows)) (IsShown shown (length nodes - 1)) (lists_at shown (length nodes - 1)) (root nodes))
    (shows : IsShown shown (length nodes - 1) (row_time r)) (rise : row_time r ≤ʳ stop (trace_of header (r ∷ rows))) where
  abbrev ended : Trace
  ended = trace_of header (r ∷ rows)

  final_root : Final ended (IsShown shown (length nodes - 1)) (lists_at shown (length shown - 1)) (root nodes)
  final_root = subst (λ (l : Lists). Final ended (IsShown shown (length nodes - 1)) l (root nodes)) (sym (root_place nodes shown count)) final

  -- what is answered at the end is the truth at the start
  pub truth_of : (holds : Bool) → IsVerdict shown r.time (Some holds) → IsTruthAtStart (root nodes) ended holds
  truth_of true v = final_root.yes (start ended) v rise
  truth_of false v = final_root.no (start ended) v rise

  -- at the end there is an answer
  pub some_truth : IsVerdict shown r.time None → ⊥
  some_truth v = elim (final_root.all (start ended) shows rise) [ inl y ↦ v.0 y | inr y ↦ v.1 y ]

-- rows with one more, split at one of them: the last, or one before
pub split_last : (rows before after : List Row) (x r : Row) → rows ++ x ∷ [] ≡ before ++ r ∷ after
    → ((before ≡ rows) × (r ≡ x)) ⊎ ((more : List Row) × (rows ≡ before ++ r ∷ more))
split_last [] [] after x r e = let f : x ∷ [] ≡ r ∷ after = e in inl (refl, cc)
split_last [] (b ∷ before) after x r e = absurd (no_more before (tails x b [] (before ++ r ∷ after) e))
  where
    tails : (a b : Row) (xs ys : List Row) → a ∷ xs ≡ b ∷ ys → xs ≡ ys
    tails a b xs ys e = cc

    no_more : (before : List Row) → [] ≡ before ++ r ∷ after → ⊥
    no_more [] e = cc
    no_more (b ∷ before) e = cc
split_last (q ∷ rows) [] after x r e = inr (rows, let f : q ∷ (rows ++ x ∷ []) ≡ r ∷ after = e in (cc))
split_last (q ∷ rows) (b ∷ before) after x r e = elim (split_last rows before after x r (tails q b (rows ++ x ∷ []) (before ++ r ∷ after) e)) [
  | inl h ↦ inl (let f = heads q b (rows ++ x ∷ []) (before ++ r ∷ after) e in let g = h.0 in (cc), h.1)
  | inr h ↦ inr (h.0, let f = heads q b (rows ++ x ∷ []) (before ++ r ∷ after) e in let g = h.1 in (cc))
]
  where
    tails : (a b : Row) (xs ys : List Row) → a ∷ xs ≡ b ∷ ys → xs ≡ ys
    tails a b xs ys e = cc

    heads : (a b : Row) (xs ys : List Row) → a ∷ xs ≡ b ∷ ys → a ≡ b
    heads a b xs ys e = cc

-- none decides of rows with one more that does not
pub none_more : (p : Subformula) (header : Header) (rows : List Row) (x : Row) → NoneDecides p header rows
    → ((b : Bool) → Decides p (trace_of header (rows ++ x ∷ [])) b → ⊥) → NoneDecides p header (rows ++ x ∷ [])
none_more p header rows x none last before after r b e d = elim (split_last rows before after x r e) [
  | inl h ↦ last b (subst (λ l. Decides p (trace_of header (l ++ x ∷ [])) b) h.0 (subst (λ y. Decides p (trace_of header (before ++ y ∷ [])) b) h.1 d))
  | inr h ↦ none before h.0 r b h.1 d
]

-- no rows decide nothing
pub none_first : (p : Subformula) (header : Header) → NoneDecides p header []
none_first p header before after r b e d = no_rows before e
  where
    no_rows : (before : List Row) → [] ≡ before ++ r ∷ after → ⊥
    no_rows [] e = cc
    no_rows (q ∷ before) e = cc

-- where a row has decided before, another is not the first that does
pub not_again : (p : Subformula) (header : Header) (rows : List Row) (d : Decided) (x : Row) (b : Bool)
    → WasDecided p header rows d → FirstDecides p header rows x b → ⊥
not_again p header rows d x b w f = f.not_before w.before w.after w.row d.holds w.among w.first.decides

-- and it goes on to have decided
pub still_decided : (p : Subformula) (header : Header) (rows : List Row) (d : Decided) (x : Row) → WasDecided p header rows d
    → WasDecided p header (rows ++ x ∷ []) d
still_decided p header rows d x w = record {
  before = w.before;
  row = w.row;
  after = w.after ++ x ∷ [];
  among = ap (λ l. l ++ x ∷ []) w.among ∙ append_assoc w.before (w.row ∷ w.after) (x ∷ []);
  at = w.at;
  first = w.first;
}

-- what a row has decided is the truth at the start of all rows
pub decided_truth : (p : Subformula) (header : Header) (rows : List Row) (d : Decided) → AreRows (length header.columns) rows → WasDecided p header rows d
    → IsTruthAtStart p (trace_of header rows) d.holds
decided_truth p header rows d ok w = by_front w.before w.among w.first.decides
  where
    by_front : (before : List Row) → rows ≡ before ++ w.row ∷ w.after → Decides p (trace_of header (before ++ w.row ∷ [])) d.holds
        → IsTruthAtStart p (trace_of header rows) d.holds
    by_front [] e f = (decisions_stay p header w.row [] (trace_of header rows) false d.holds (record { rows = ok })
        (record { same_header = refl; more = w.after; begins = e; whole_input = λ h. absurd (let g : false ≡ true = h in cc) }) f).0
    by_front (q ∷ before) e f = (decisions_stay p header q (before ++ w.row ∷ []) (trace_of header rows) false d.holds (record { rows = ok })
        (record {
          same_header = refl;
          more = w.after;
          begins = e ∙ ap (λ l. q ∷ l) (sym (append_assoc before (w.row ∷ []) w.after));
          whole_input = λ h. absurd (let g : false ≡ true = h in cc);
        }) f).0
