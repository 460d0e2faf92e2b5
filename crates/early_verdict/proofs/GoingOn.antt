-- Sets go on with rows, and to the end.
use Rattle.std.proofs.Common.{◌≡◌, refl, sym, subst, ◌∙◌, ℕ, ◌-◌, ◌<◌, true, false, Option, Some, None, List, [], ◌∷◌, ◌++◌, length, append-nil, arith, pos}
use Rattle.std.specs.Prelude.{MatchBool, slice_get}
use Rattle.rational.specs.Time.{Rational, ◌≤ʳ◌, whole}
use Rattle.stl_syntax.specs.Trace.{Header, Row, Trace, AreRows, AreRowsAfter, last_time, row_time, start, stop}
use Rattle.stl_syntax.specs.Formula.{Formula, Subformula, subformula, HasChildrenBelow}
use Rattle.stl_syntax.specs.Truth.{Truth}
use Rattle.stl_syntax.specs.Early.{Settled, SettledNot}
use Rattle.stl_syntax.specs.WellFormed.{AreWellFormed}
use Rattle.stl_syntax.proofs.EarlyLaw.{settled, settled_not, stays, stays_not}
use Rattle.stl_syntax.proofs.PostOrderLemmas.{placed}
use Rattle.stl_syntax.specs.declared.atom.Atom.{Atom}
use Rattle.stl_syntax.specs.declared.node.Node.{Node}
use Rattle.stl_syntax.specs.declared.node.Node.TheVariants.{Atom as Leaf}
use Rattle.atom_lines.specs.Binding.{Binding, IsBound}
use Rattle.early_verdict.specs.Adding.{IsNextRow}
use Rattle.early_verdict.specs.Happening.{Happens}
use Rattle.early_verdict.specs.Standing.{AllFit, AllGo, GoesOnWith, LeafIsBound, own_list}
use Rattle.early_verdict.specs.Making.{AreMade, AreShownOf}
use Rattle.growing_sets.specs.Spans.{IsOn}
use Rattle.early_verdict.specs.Living.{AreLive, ComesOn, IsShown, NetStands}
use Rattle.early_verdict.specs.Deciding.{IsOpen, last_after, trace_of}
use Rattle.early_verdict.specs.Fitting.{AreEmpty, Lists, lists_at}
use Rattle.early_verdict.specs.declared.entry.Entry.{Entry}
use Rattle.early_verdict.specs.declared.sets.Sets.{Sets}
use Rattle.early_verdict.proofs.AllSets.{AreSound, all_final, all_known, lists_are}
use Rattle.early_verdict.proofs.EndedSets.{Final}
use Rattle.early_verdict.proofs.LooksStay.{at_place, live_on, shown_still, sound_of}
use Rattle.early_verdict.proofs.EmptySets.{made_live, root_shows, shown_empty}
use Rattle.early_verdict.proofs.NodeSets.{own_all, own_live}
use Rattle.early_verdict.proofs.RowLemmas.{is_first_row, is_next, rows_pushed}
use Rattle.early_verdict.proofs.SetsTell.{none_of}

-- the atoms of a formula are bound
pub leaves_bound : (b : Binding) (f : Formula) (header : Header) → IsBound b f header → (i : ℕ) (n : Node) → slice_get f.nodes i ≡ Some n → LeafIsBound b i n
leaves_bound b f header h i (Leaf a) at = let x = h.atoms i a at in (x.0, x.1)
leaves_bound b f header h i _ at = tt

-- each atom among the nodes goes on with the row, or stays at the end
all_go : {b : Binding} {f : Formula} {header : Header} (rows : List Row) (e : Entry) (old : Option Trace) (before : Option Row) (r : Row) → IsBound b f header
    → AreRows (length header.columns) rows → ((a : Atom) → GoesOnWith e old (trace_of header rows) before r a)
    → AllGo f.nodes b e old (trace_of header rows) before r
all_go {f = f} rows e old before r h ok go i a at = (record { formula = f; bound = h; node = at; rows = record { rows = ok } }, go a)

still_open : (e : Entry) (P Q : Type 0) → e.ended ≡ false → Q → MatchBool e.ended P Q
still_open e P Q o q = subst (λ b. MatchBool b P Q) (sym o) q

-- what stands after an entry, where what was shown is settled now
module _ {nodes : List Node} {b : Binding} {e : Entry} {before : Option Row} {x : Row} {live shown new new_shown : List Sets}
    (formed : AreWellFormed nodes) (on : ComesOn nodes b e before x live new shown new_shown) where
  stands_on : (tr : Trace) → AreLive nodes (start tr) live shown → AllFit nodes false tr new new_shown
      → AreSound (λ i. Settled (subformula nodes i) tr) (λ i. SettledNot (subformula nodes i) tr) new new_shown
      → IsShown shown (length nodes - 1) (start tr) → NetStands nodes tr new new_shown
  stands_on tr have fit sound root =
      let live = live_on on.stepped on.shows have in
      record {
        have = live;
        tidy = on.tidy.0;
        shown_tidy = on.tidy.1;
        fit = fit;
        known = λ i l. all_known tr formed live on.tidy.0 on.tidy.1 sound fit (length nodes) (omega arith) i l;
        root = shown_still on.stepped on.shows have (length nodes - 1) (start tr) root;
      }

-- the first row
pub first_stand : {f : Formula} {b : Binding} {header : Header} {r : Row} {e : Entry} {none none_shown made shown new new_shown : List Sets}
    → IsOpen f b header [] 0 None none none_shown → AreMade f.nodes (row_time r) made → AreShownOf made shown
    → ComesOn f.nodes b e None r (own_list f.nodes made shown) new shown new_shown
    → length r.values ≡ b.width → e.ended ≡ false → Happens e None (trace_of header (r ∷ []))
    → NetStands f.nodes (trace_of header (r ∷ [])) new new_shown
first_stand {f} {header = header} {r = r} {e = e} {made = made} {shown = shown} {new = new} {new_shown = new_shown} o m are on w still happens =
    stands_on o.formed on tr live
    (subst (λ x. AllFit f.nodes x tr new new_shown) still
    (on.fits None tr happens live
    (all_go (r ∷ []) e None None r o.bound (w ∙ o.bound.width, tt)
    (λ a. still_open e (None ≡ Some tr) (IsNextRow a None tr None r) still (is_first_row header r a)))
    (own_all AreEmpty f.nodes made shown m.empty empty, empty)))
    (sound_of on.stepped on.shows live (λ i. Settled (subformula f.nodes i) tr) (λ i. SettledNot (subformula f.nodes i) tr)
    (λ i x u is z. absurd (none_of x.yes.spans.items u (empty i x is).yes z)) (λ i x u is z. absurd (none_of x.no.spans.items u (empty i x is).no z)))
    (root_shows f.nodes (row_time r) made shown m are below o.some)
  where
    tr : Trace
    tr = trace_of header (r ∷ [])

    below : (i : ℕ) (n : Node) → slice_get f.nodes i ≡ Some n → HasChildrenBelow i n
    below i n at = placed f.nodes i n o.formed.post_order at

    live : AreLive f.nodes (row_time r) (own_list f.nodes made shown) shown
    live = own_live f.nodes (row_time r) made shown (made_live f.nodes (row_time r) made shown m are below)

    empty : (i : ℕ) (x : Sets) → slice_get shown i ≡ Some x → AreEmpty x
    empty = shown_empty f.nodes (row_time r) made shown m are below

-- what a node shows is settled
module _ {nodes : List Node} {tr : Trace} {live shown : List Sets} (s : NetStands nodes tr live shown) where
  shown_yes : (i : ℕ) (w : Sets) (u : Rational) → slice_get shown i ≡ Some w → i < length nodes → IsOn w.yes.spans.items u → Settled (subformula nodes i) tr u
  shown_yes i w u is l o = (s.known i l).yes_out u (subst (λ (x : Lists). IsOn x.yes u) (sym (lists_are shown i w is)) o)

  shown_no : (i : ℕ) (w : Sets) (u : Rational) → slice_get shown i ≡ Some w → i < length nodes → IsOn w.no.spans.items u → SettledNot (subformula nodes i) tr u
  shown_no i w u is l o = (s.known i l).no_out u (subst (λ (x : Lists). IsOn x.no u) (sym (lists_are shown i w is)) o)

-- a row after others
pub next_stand : {f : Formula} {b : Binding} {header : Header} {r : Row} {rows : List Row} {x : Row} {begin : ℕ} {before : Option Row} {e : Entry}
    {live shown new new_shown : List Sets}
    → IsOpen f b header (r ∷ rows) begin before live shown → ComesOn f.nodes b e before x live new shown new_shown
    → (last_after r rows).time < x.time → length x.values ≡ b.width
    → e.ended ≡ false → Happens e (Some (trace_of header (r ∷ rows))) (trace_of header (r ∷ (rows ++ x ∷ [])))
    → NetStands f.nodes (trace_of header (r ∷ (rows ++ x ∷ []))) new new_shown
next_stand {f} {header = header} {r = r} {rows = rows} {x = x} {before = before} {e = e} {live = live} {shown = shown} {new = new}
    {new_shown = new_shown} o on l w still happens =
    stands_on o.formed on all s.have
    (subst (λ y. AllFit f.nodes y all new new_shown) still
    (on.fits (Some so_far) all happens s.have
    (all_go (r ∷ (rows ++ x ∷ [])) e (Some so_far) before x o.bound pushed
    (λ a. still_open e (Some so_far ≡ Some all) (IsNextRow a (Some so_far) all before x) still
    (subst (λ q. IsNextRow a (Some so_far) all q x) (sym o.ends) (is_next header (length header.columns) r rows x a o.so_far l (w ∙ o.bound.width)))))
    s.fit))
    (sound_of on.stepped on.shows s.have (λ i. Settled (subformula f.nodes i) all) (λ i. SettledNot (subformula f.nodes i) all)
    (λ i y u at z. let p = at_place on.stepped on.shows s.have i y at in
    stays header (length header.columns) r rows (x ∷ []) pushed.1 (subformula f.nodes i) u
    (p.3.shown_starts u (p.3.yes_within u z)) (shown_yes s i y u at p.0 z))
    (λ i y u at z. let p = at_place on.stepped on.shows s.have i y at in
    stays_not header (length header.columns) r rows (x ∷ []) pushed.1 (subformula f.nodes i) u
    (p.3.shown_starts u (p.3.no_within u z)) (shown_no s i y u at p.0 z)))
    s.root
  where
    so_far : Trace
    so_far = trace_of header (r ∷ rows)

    all : Trace
    all = trace_of header (r ∷ (rows ++ x ∷ []))

    s : NetStands f.nodes so_far live shown
    s = o.sets_are.1

    pushed : AreRows (length header.columns) (r ∷ (rows ++ x ∷ []))
    pushed = rows_pushed (length header.columns) r rows x o.so_far l (w ∙ o.bound.width)

-- what rows settle is so at each of their times
module _ (header : Header) (width : ℕ) (r : Row) (rows : List Row) (ok : AreRowsAfter width r.time rows) (p : Subformula) (t : Rational) (f : row_time r ≤ʳ t)
    (l : t ≤ʳ stop (trace_of header (r ∷ rows))) where
  settled_here : Settled p (trace_of header (r ∷ rows)) t → Truth p (trace_of header (r ∷ rows)) t
  settled_here d = subst (λ (xs : List Row).
      AreRowsAfter width r.time xs → t ≤ʳ whole (pos (last_time r.time xs)) → Truth p (trace_of header (r ∷ xs)) t) (append-nil rows)
      (λ k e. settled header width r rows [] k p t (record { above = f; below = e }) d) ok l

  settled_not_here : SettledNot p (trace_of header (r ∷ rows)) t → ¬ (Truth p (trace_of header (r ∷ rows)) t)
  settled_not_here d = subst (λ (xs : List Row).
      AreRowsAfter width r.time xs → t ≤ʳ whole (pos (last_time r.time xs)) → ¬ (Truth p (trace_of header (r ∷ xs)) t)) (append-nil rows)
      (λ k e. settled_not header width r rows [] k p t (record { above = f; below = e }) d) ok l

-- the end of the input: what the root shows then
pub end_final : {f : Formula} {b : Binding} {header : Header} {r : Row} {rows : List Row} {begin : ℕ} {before previous : Option Row} {last : Row}
    {e : Entry} {live shown new new_shown : List Sets}
    → IsOpen f b header (r ∷ rows) begin before live shown → ComesOn f.nodes b e previous last live new shown new_shown
    → e.ended ≡ true → Happens e (Some (trace_of header (r ∷ rows))) (trace_of header (r ∷ rows))
    → Final (trace_of header (r ∷ rows)) (IsShown new_shown (length f.nodes - 1)) (lists_at new_shown (length f.nodes - 1))
    (subformula f.nodes (length f.nodes - 1))
    × IsShown new_shown (length f.nodes - 1) (row_time r)
end_final {f} {header = header} {r = r} {rows = rows} {previous = previous} {last = last} {e = e} {live = live} {shown = shown} {new = new}
    {new_shown = new_shown}
    o on ended happens = (
      all_final tr o.formed (live_on on.stepped on.shows s.have) on.tidy.0 on.tidy.1
          (sound_of on.stepped on.shows s.have
          (λ i u. u ≤ʳ stop tr → Truth (subformula f.nodes i) tr u) (λ i u. u ≤ʳ stop tr → ¬ (Truth (subformula f.nodes i) tr u))
          (λ i y u at z l. let p = at_place on.stepped on.shows s.have i y at in
          settled_here header (length header.columns) r rows o.so_far.1 (subformula f.nodes i) u (p.3.shown_starts u (p.3.yes_within u z)) l
          (shown_yes s i y u at p.0 z))
          (λ i y u at z l. let p = at_place on.stepped on.shows s.have i y at in
          settled_not_here header (length header.columns) r rows o.so_far.1 (subformula f.nodes i) u
          (p.3.shown_starts u (p.3.no_within u z)) l (shown_no s i y u at p.0 z)))
          fit (length f.nodes) (omega arith) (length f.nodes - 1) (omega (arith, o.some)),
      shown_still on.stepped on.shows s.have (length f.nodes - 1) (row_time r) s.root,
    )
  where
    tr : Trace
    tr = trace_of header (r ∷ rows)

    s : NetStands f.nodes tr live shown
    s = o.sets_are.1

    fit : AllFit f.nodes true tr new new_shown
    fit = subst (λ y. AllFit f.nodes y tr new new_shown) ended
        (on.fits (Some tr) tr happens s.have
        (all_go (r ∷ rows) e (Some tr) previous last o.bound o.so_far
        (λ a. subst (λ y. MatchBool y (Some tr ≡ Some tr) (IsNextRow a (Some tr) tr previous last)) (sym ended) refl))
        s.fit)
