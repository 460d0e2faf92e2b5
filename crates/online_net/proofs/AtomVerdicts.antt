-- What was said of an atom, verdict by verdict.
use Rattle.std.proofs.Common.{◌≡◌, suc, ◌+◌, ◌≤◌, Option, get_or, ◌<ℤ◌, ◌⊎◌, inl, inr, refl, sym, ap, subst, ◌∙◌, ℕ, ◌<◌}
use Rattle.std.proofs.Common.{Bool, true, false, ◌&&◌, Some, None, List, [], ◌∷◌, ◌++◌, length, pos, arith, append_assoc}
use Rattle.std.specs.Prelude.{MatchBool, MatchOption, IfSome, IsTrue, ◌≢◌, slice_get}
use Rattle.std.specs.Option.{is_some}
use Rattle.std.proofs.lemmas.Bool.{cases_eq, cases_order}
use Rattle.std.proofs.lemmas.Option.{slice_get_cases, get_or_from_slice_get}
use Rattle.online_nodes.specs.declared.operator.Operator.{Operator}
use Rattle.std.proofs.lemmas.List.{get_or-set_same, get_or-set_other, length-set}
use Rattle.std.proofs.lemmas.Int.{ints}
use Rattle.rational.specs.Rational.{Rational, ◌<ʳ◌, ◌≈◌, whole}
use Rattle.rational.specs.Time.{left_open, HasTimeBetween}
use Rattle.rational.proofs.Order.{same_refl, same_sym, le_of_lt, le_or_lt, same_of_le}
use Rattle.rational.proofs.Shift.{lt_whole}
use Rattle.stl_syntax.specs.Trace.{Row, Trace, row_time}
use Rattle.stl_syntax.specs.Formula.{Subformula, atom}
use Rattle.stl_syntax.specs.Truth.{Truth, holds_at}
use Rattle.stl_syntax.specs.declared.atom.Atom.{Atom}
use Rattle.stl_syntax.specs.declared.items.Verdict.{Verdict}
use Rattle.rational.specs.Places.{Place, begins, ends, Upto, AtMost, Before, Same}
use Rattle.frac128.specs.Cuts.{place}
use Rattle.online_nodes.specs.Held.{Edge, HasMore, Held, edge_at, no_edge, with_edge, with_more, with_number}
use Rattle.frac128.specs.Value.{value}
use Rattle.frac128.specs.declared.frac.Frac.{Frac}
use Rattle.stl_syntax.specs.Verdicts.{Describes}
use Rattle.atom_lines.specs.Binding.{Binding, IsFor, HasRow, AreNeighbours}
use Rattle.atom_lines.specs.Points.{IsTruthAt, IsTruthOn}
use Rattle.atom_lines.specs.Pieces.{TellsGap}
use Rattle.atom_lines.specs.declared.truth.TruthPiece.{TruthPiece}
use Rattle.atom_lines.specs.declared.truth.TruthPiece.TheVariants.{Whole}
use Rattle.value_laws.specs.declared.truth.Truth.{Truth as ATruth}
use Rattle.online_nodes.specs.Truths.{AllAre}
use Rattle.frac128.specs.Spans.{interval}
use Rattle.online_nodes.specs.Written.{HasAnswer, HasFinished, HasGot, HasTold, Lead, Reaches}
use Rattle.node_edges.specs.Kinds.{verdict_part}
use Rattle.node_edges.proofs.Stretches.{more_given}
use Rattle.online_nodes.proofs.GotLemmas.{got_both, got_none, got-here, got-other, got-length}
use Rattle.online_net.specs.Atoms.{HasSaidThree, HasBegun, IsThrough, IsPut, HasPutAtom, HasPutAtoms, StandsNext, row_stretch, before_row, after_row}
use Rattle.frac128.specs.declared.cut.Cut.{Cut}
use Rattle.online_nodes.specs.declared.writer.Out.{Out}
use Rattle.rational.proofs.PlaceLemmas.{sides, same_places, same_trans_places, same_of_at_most}
use Rattle.rational.proofs.PlaceLemmas.{before_trans, before_same, same_before, room_of_before, upto_of_before, upto_same}
use Rattle.online_nodes.proofs.ToldSoFar.{told_same, same_itself, lead_describes}

-- a writer that may go up to a place within its stretch stands there
pub stands_at : (before after : Out) (cut : Cut) → Reaches before cut after → AtMost (place before.at) (place cut) → AtMost (place cut) (place before.to)
    → Same (place after.at) (place cut)
stands_at before after cut r low high = same_of_at_most (place after.at) (place cut) up down
  where
    up : AtMost (place after.at) (place cut)
    up t u = elim (sides (place before.at) t) [ inl x ↦ low t x | inr x ↦ r.no_more t x u ]

    down : AtMost (place cut) (place after.at)
    down t u = r.reached t u (high t u)

-- a writer that stands at a place within its stretch may go on from there
pub may_go_on : (out : Out) (c to : Place) → Same (place out.at) c → AtMost c to → place out.to ≡ to → AtMost (place out.at) (place out.to)
may_go_on out c to s h e t u = subst (λ d. Upto d t) (sym e) (h t (upto_same (place out.at) c t s u))

-- three verdicts said one after the other
pub said_three : {e0 e1 e2 e3 : Held} {o0 o1 o2 o3 : Out} {h1 h2 h3 : Bool} (c1 c2 c3 : Cut) → o0.edge < length e0.edges
    → HasAnswer e0 e1 o0 h1 o1 → Reaches o0 c1 o1 → HasAnswer e1 e2 o1 h2 o2 → Reaches o1 c2 o2 → HasAnswer e2 e3 o2 h3 o3 → Reaches o2 c3 o3
    → HasSaidThree e0 e3 o0 h1 (place c1) h2 (place c2) h3 (place c3) o3
said_three {e0} {e1} {e2} {e3} {o0} {o1} {o2} {o3} {h1} {h2} {h3} c1 c2 c3 within a1 r1 a2 r2 a3 r3 = record {
  more = a1.more ++ a2.more ++ a3.more;
  got = got_both within (got_both within a1.got (subst (λ i. HasGot e1 e2 i a2.more) a1.edge a2.got))
      (subst (λ i. HasGot e2 e3 i a3.more) (a2.edge ∙ a1.edge) a3.got);
  edge = a3.edge ∙ a2.edge ∙ a1.edge;
  to = a3.end ∙ a2.end ∙ a1.end;
  sound = a3.sound;
  inside = subst (λ x. AtMost (place o3.at) (place x)) (sym a3.end) r3.inside;
  said = said;
}
  where
    said : AtMost (place o0.at) (place c1) → AtMost (place c1) (place c2) → AtMost (place c2) (place c3) → AtMost (place c3) (place o0.to)
        → Same (place o3.at) (place c3)
        × ((n : Subformula) (tr : Trace) (begin : Place) (written : List Verdict) → HasTold n tr begin written o0
        → AllAre h1 (Truth n tr) (place o0.at) (place c1) → AllAre h2 (Truth n tr) (place c1) (place c2) → AllAre h3 (Truth n tr) (place c2) (place c3)
        → HasTold n tr begin (written ++ (a1.more ++ a2.more ++ a3.more)) o3)
    said l1 l2 l3 l4 = (at3, told)
      where
        upto : (c : Cut) → AtMost (place c) (place c3) → AtMost (place c) (place o0.to)
        upto c h t u = l4 t (h t u)

        at1 : Same (place o1.at) (place c1)
        at1 = stands_at o0 o1 c1 r1 l1 (upto c1 (λ t u. l3 t (l2 t u)))

        at2 : Same (place o2.at) (place c2)
        at2 = stands_at o1 o2 c2 r2 (λ t u. l2 t (upto_same (place o1.at) (place c1) t at1 u))
            (subst (λ x. AtMost (place c2) (place x)) (sym a1.end) (upto c2 l3))

        at3 : Same (place o3.at) (place c3)
        at3 = stands_at o2 o3 c3 r3 (λ t u. l3 t (upto_same (place o2.at) (place c2) t at2 u))
            (subst (λ x. AtMost (place c3) (place x)) (sym (a2.end ∙ a1.end)) l4)

        told : (n : Subformula) (tr : Trace) (begin : Place) (written : List Verdict) → HasTold n tr begin written o0
            → AllAre h1 (Truth n tr) (place o0.at) (place c1) → AllAre h2 (Truth n tr) (place c1) (place c2) → AllAre h3 (Truth n tr) (place c2) (place c3)
            → HasTold n tr begin (written ++ (a1.more ++ a2.more ++ a3.more)) o3
        told n tr begin written before x y z =
            subst (λ l. HasTold n tr begin l o3)
            (ap (λ l. l ++ a3.more) (append_assoc written a1.more a2.more) ∙ append_assoc written (a1.more ++ a2.more) a3.more)
            (a3.told n tr begin ((written ++ a1.more) ++ a2.more)
            (a2.told n tr begin (written ++ a1.more)
            (a1.told n tr begin written before
            (told_same h1 (Truth n tr) (place o0.at) (place c1) (place o0.at) (place o1.at) (same_itself (place o0.at)) (same_places at1) x))
            (told_same h2 (Truth n tr) (place c1) (place c2) (place o1.at) (place o2.at) (same_places at1) (same_places at2) y))
            (told_same h3 (Truth n tr) (place c2) (place c3) (place o2.at) (place o3.at) (same_places at2) (same_places at3) z))

-- what a test says is so of an atom's truth
pub is_test : (a : Atom) (tr : Trace) (t : Rational) (b : Bool) → holds_at a tr t ≡ b → MatchBool b (IsTrue (holds_at a tr t)) (¬ IsTrue (holds_at a tr t))
is_test a tr t b e = by_value b (holds_at a tr t) e
  where
    by_value : (b x : Bool) → x ≡ b → MatchBool b (IsTrue x) (¬ IsTrue x)
    by_value true true e = refl
    by_value true false e = absurd (let y : false ≡ true = e in cc)
    by_value false true e = absurd (let y : true ≡ false = e in cc)
    by_value false false e = λ h. (let y : false ≡ true = h in cc)

-- no verdict
abbrev nothing : Option Bool
nothing = None

-- a writer that has said nothing has told nothing
new_told : (n : Subformula) (tr : Trace) (begin : Place) (out : Out) → out.holds ≡ None → Same begin (place out.from) → Same (place out.from) (place out.at)
    → HasTold n tr begin [] out
new_told n tr begin out e s r = record {
  last = nothing;
  lead = (s, let e : nothing ≡ nothing = refl in e);
  pending = subst (λ o. MatchOption o (Same (place out.from) (place out.at) × (nothing ≡ None))
      (λ h. Before (place out.from) (place out.at) × (nothing ≢ Some h) × AllAre h (Truth n tr) (place out.from) (place out.at))) (sym e)
      (r, let e : nothing ≡ nothing = refl in e);
}

-- a writer as it is made: at the beginning of its stretch, between two rows
pub record IsNew (out : Out) (i : ℕ) (begin end : Place) : Type 0 where
  -- it is for that edge
  pub edge : out.edge ≡ i
  -- it begins there
  pub from : Same (place out.from) begin
  -- nothing of it was said yet
  pub at : Same (place out.at) begin
  -- it ends there
  pub to : Same (place out.to) end
  -- and no truth was found yet
  pub none : out.holds ≡ None

-- an answer that was just begun is a new one
pub new_is : (out : Out) (i : ℕ) (from to : Cut) (begin end : Place) → out ≡ record { edge = i; from = from; at = from; to = to; holds = None }
    → Same (place from) begin → Same (place to) end → IsNew out i begin end
new_is out i from to begin end e s r = subst (λ (o : Out). IsNew o i begin end) (sym e)
    (record { edge = refl; from = s; at = s; to = r; none = refl })

-- the places of rows, one after the other
row_order : (r : Row) → Before (before_row r) (after_row r)
row_order r = inr (same_refl (row_time r), refl, refl)

rows_order : (q r : Row) → q.time < r.time → Before (after_row q) (before_row r)
rows_order q r l = inl (lt_whole (let h : pos q.time <ℤ pos r.time = omega (arith, ints, l) in h))

-- the test turns over at a time inside the gap
abbrev pub IsSplitAs : Rational → Rational → (Rational → Bool) → Bool → Frac → Bool → Bool → Type 0
IsSplitAs from to test h1 at h2 h3 =
    (from <ʳ value at) × (value at <ʳ to) × ((t : Rational) → from <ʳ t → t <ʳ value at → test t ≡ h1)
    × ((t : Rational) → t ≈ value at → test t ≡ h2) × ((t : Rational) → value at <ʳ t → t <ʳ to → test t ≡ h3)

-- within its stretch
pub new_inside : (first r : Row) (i : ℕ) (out : Out) → first.time < r.time → IsNew out i (after_row first) (after_row r)
    → AtMost (place out.at) (place out.to)
new_inside first r i out later new t u = upto_same (after_row r) (place out.to) t (same_places new.to)
    (upto_of_before (before_row r) (after_row r) t (row_order r)
    (upto_of_before (after_row first) (before_row r) t (rows_order first r later) (upto_same (place out.at) (after_row first) t new.at u)))

module _ (b : Binding) (i : ℕ) (first r : Row) (later : first.time < r.time) (out0 : Out) (new : IsNew out0 i (after_row first) (after_row r))
    (end : Cut) (ends_so : Same (place end) (before_row r)) where
  told_first : (a : Atom) (tr : Trace) → HasTold (atom i a) tr (begins (left_open (row_time first) (row_time r))) [] out0
  told_first a tr = new_told (atom i a) tr (after_row first) out0 new.none (same_places new.from) (same_trans_places new.from (same_places new.at))

  low : AtMost (place out0.at) (place end)
  low t u = upto_same (before_row r) (place end) t (same_places ends_so)
      (upto_of_before (after_row first) (before_row r) t (rows_order first r later) (upto_same (place out0.at) (after_row first) t new.at u))

  high : AtMost (place end) (place out0.to)
  high t u = upto_same (after_row r) (place out0.to) t (same_places new.to)
      (upto_of_before (before_row r) (after_row r) t (row_order r) (upto_same (place end) (before_row r) t ends_so u))

  -- one truth on the whole gap
  pub whole_begun : {e0 e1 : Held} {out1 : Out} (holds : Bool) → HasAnswer e0 e1 out0 holds out1 → Reaches out0 end out1
      → ((a : Atom) (tr : Trace) → IsFor b i a tr → AreNeighbours tr first r
      → (t : Rational) → row_time first <ʳ t → t <ʳ row_time r → holds_at a tr t ≡ holds)
      → HasBegun b i (Some first) r e0 e1 out1
  whole_begun {e0} {e1} {out1} holds answer reaches truth = record {
    more = answer.more;
    got = subst (λ k. HasGot e0 e1 k answer.more) new.edge answer.got;
    edge = answer.edge ∙ new.edge;
    to = subst (λ c. Same (place c) (after_row r)) (sym answer.end) new.to;
    sound = answer.sound;
    inside = subst (λ x. AtMost (place out1.at) (place x)) (sym answer.end) reaches.inside;
    told = λ a tr for next. (
      there,
      answer.told (atom i a) tr (after_row first) [] (told_first a tr)
          (told_same holds (Truth (atom i a) tr) (after_row first) (before_row r) (place out0.at) (place out1.at) (same_places new.at) (same_places there)
          (λ t x y. is_test a tr t holds (truth a tr for next t x y))),
    );
  }
    where
      there : Same (place out1.at) (before_row r)
      there = same_trans_places (stands_at out0 out1 end reaches low high) ends_so

  -- a truth that turns over
  pub turn_begun : {e0 e1 : Held} {out1 : Out} (h1 h2 h3 : Bool) (at : Frac)
      → HasSaidThree e0 e1 out0 h1 (record { at = value at; after = false }) h2 (record { at = value at; after = true }) h3 (place end) out1
      → ((a : Atom) (tr : Trace) → IsFor b i a tr → AreNeighbours tr first r → IsSplitAs (row_time first) (row_time r) (holds_at a tr) h1 at h2 h3)
      → HasBegun b i (Some first) r e0 e1 out1
  turn_begun {e0} {e1} {out1} h1 h2 h3 at said truth = record {
    more = said.more;
    got = subst (λ k. HasGot e0 e1 k said.more) new.edge said.got;
    edge = said.edge ∙ new.edge;
    to = subst (λ c. Same (place c) (after_row r)) (sym said.to) new.to;
    sound = said.sound;
    inside = said.inside;
    told = λ a tr for next. told a tr (truth a tr for next);
  }
    where
      told : (a : Atom) (tr : Trace) → IsSplitAs (row_time first) (row_time r) (holds_at a tr) h1 at h2 h3
          → Same (place out1.at) (before_row r) × HasTold (atom i a) tr (after_row first) said.more out1
      told a tr w = (
        same_trans_places x.0 ends_so,
        x.1 (atom i a) tr (after_row first) [] (told_first a tr)
            (told_same h1 (Truth (atom i a) tr) (after_row first) (record { at = value at; after = false }) (place out0.at)
            (record { at = value at; after = false }) (same_places new.at) (same_itself (record { at = value at; after = false }))
            (λ t x y. is_test a tr t h1 (w.2 t x y)))
            (λ t x y. is_test a tr t h2 (w.3 t (same_of_le y x)))
            (told_same h3 (Truth (atom i a) tr) (record { at = value at; after = true }) (before_row r) (record { at = value at; after = true }) (place end)
            (same_itself (record { at = value at; after = true })) (same_places ends_so) (λ t x y. is_test a tr t h3 (w.4 t x y))),
      )
        where
          x : Same (place out1.at) (place end)
              × ((n : Subformula) (tr : Trace) (begin : Place) (written : List Verdict) → HasTold n tr begin written out0
              → AllAre h1 (Truth n tr) (place out0.at) (record { at = value at; after = false })
              → AllAre h2 (Truth n tr) (record { at = value at; after = false }) (record { at = value at; after = true })
              → AllAre h3 (Truth n tr) (record { at = value at; after = true }) (place end) → HasTold n tr begin (written ++ said.more) out1)
          x = said.said
              (λ t u. upto_of_before (after_row first) (record { at = value at; after = false }) t (inl w.0)
              (upto_same (place out0.at) (after_row first) t new.at u))
              (λ t u. le_of_lt u)
              (λ t u. upto_same (before_row r) (place end) t (same_places ends_so)
              (upto_of_before (record { at = value at; after = true }) (before_row r) t (inl w.1) u))
              high

-- the first row: nothing was said before it
pub first_begun : (b : Binding) (i : ℕ) (r : Row) (e : Held) (out : Out) → IsNew out i (before_row r) (after_row r) → HasBegun b i None r e e out
first_begun b i r e out new = record {
  more = [];
  got = got_none e i;
  edge = new.edge;
  to = new.to;
  sound = subst (λ o. MatchOption o (Same (place out.from) (place out.at)) (λ h. Before (place out.from) (place out.at))) (sym new.none)
      (same_trans_places new.from (same_places new.at));
  inside = λ t u. upto_same (after_row r) (place out.to) t (same_places new.to)
      (upto_of_before (before_row r) (after_row r) t (row_order r) (upto_same (place out.at) (before_row r) t new.at u));
  told = λ a tr for next. (
    new.at,
    new_told (atom i a) tr (before_row r) out new.none (same_places new.from) (same_trans_places new.from (same_places new.at)),
  );
}

-- the row itself and then the last span: the atom's verdicts up to the row are put
row_of_next : (tr : Trace) (before : Option Row) (r : Row) → StandsNext tr before r → HasRow tr r
row_of_next tr None r h = h
row_of_next tr (Some first) r (k, x, y) = (suc k, y)

stretch_ends : (before : Option Row) (r : Row) → ends (row_stretch before r) ≡ after_row r
stretch_ends None r = refl
stretch_ends (Some first) r = refl

stretch_some : (before : Option Row) (r : Row) → IfSome before (λ q. q.time < r.time) → Before (begins (row_stretch before r)) (ends (row_stretch before r))
stretch_some None r l = row_order r
stretch_some (Some first) r l = before_trans (after_row first) (before_row r) (after_row r) (rows_order first r l) (row_order r)

-- the number is noted at the node's edge, and nothing else has changed
pub record HasNoted (old new : Held) (i n : ℕ) : Type 0 where
  -- the edge has the number
  pub edges : new.edges ≡ with_edge old i (with_number (edge_at old i) (pos n))
  -- the start is as it was
  pub start : new.start ≡ old.start

-- an atom's answer up to the row goes on at its edge
pub atom_put : {b : Binding} {i : ℕ} (before : Option Row) (r : Row) {e0 e1 e2 e3 e4 : Held} {out1 out2 : Out} {end : Cut} {holds : Bool}
    → i < length e0.edges → IfSome before (λ q. q.time < r.time) → Same (place end) (after_row r) → HasBegun b i before r e0 e1 out1
    → HasAnswer e1 e2 out1 holds out2 → Reaches out1 end out2 → HasFinished e2 e3 out2
    → HasNoted e3 e4 i r.time → IsTruthAt b i r holds → HasPutAtom b before r i e0 e4
atom_put {b} {i} before r {e0} {e1} {e2} {e3} {e4} {out1} {out2} {end} {holds} within later ends_so begun answer reaches finished noted truth = record {
  here = record { more = all; put = with_more (edge_at e0 i) all; got = more_given verdict_part (edge_at e0 i) all; is = here; describes = describes };
  others = λ j other. ap (λ es. get_or es j no_edge) noted.edges ∙ get_or-set_other e3.edges i j _ no_edge other ∙ got-other got j other;
  count = ap length noted.edges ∙ length-set e3.edges i _ ∙ got-length got;
  start = noted.start ∙ got.start;
}
  where
    all : List Verdict
    all = (begun.more ++ answer.more) ++ finished.more

    edge2 : out2.edge ≡ i
    edge2 = answer.edge ∙ begun.edge

    got : HasGot e0 e3 i ((begun.more ++ answer.more) ++ finished.more)
    got = got_both within (got_both within begun.got (subst (λ k. HasGot e1 e2 k answer.more) begun.edge answer.got))
        (subst (λ k. HasGot e2 e3 k finished.more) edge2 finished.got)

    here : edge_at e4 i ≡ with_number (with_more (edge_at e0 i) all) (pos r.time)
    here = ap (λ es. get_or es i no_edge) noted.edges ∙ get_or-set_same e3.edges i _ no_edge (subst (λ n. i < n) (sym (got-length got)) within)
        ∙ ap (λ x. with_number x (pos r.time)) (got-here got within)

    there : Same (place out1.at) (before_row r) → Same (place out2.at) (after_row r)
    there begins_so = same_trans_places (stands_at out1 out2 end reaches
        (λ t u. upto_same (after_row r) (place end) t (same_places ends_so)
        (upto_of_before (before_row r) (after_row r) t (row_order r) (upto_same (place out1.at) (before_row r) t begins_so u)))
        (λ t u. upto_same (after_row r) (place out1.to) t (same_places begun.to) (upto_same (place end) (after_row r) t ends_so u))) ends_so

    describes : (a : Atom) (tr : Trace) → IsFor b i a tr → StandsNext tr before r → Describes all (atom i a) tr (row_stretch before r)
    describes a tr for next =
        let w = begun.told a tr for next in
        finished.describes (atom i a) tr (row_stretch before r) (begun.more ++ answer.more) (stretch_some before r later)
        (answer.told (atom i a) tr (begins (row_stretch before r)) begun.more w.1
        (told_same holds (Truth (atom i a) tr) (before_row r) (after_row r) (place out1.at) (place out2.at) (same_places w.0) (same_places (there w.0))
        (λ t x y. is_test a tr t holds (truth a tr t for (row_of_next tr before r next) (same_of_le y x)))))
        (subst (λ c. Same (place out2.at) c) (sym (stretch_ends before r)) (there w.0))

-- between whole times there is room where the one comes before the other
pub room_after : (n m : ℕ) (f g : Frac) → n < m → value f ≈ whole (pos n) → value g ≈ whole (pos m) → HasTimeBetween (value f) (value g) (false && true)
room_after n m f g l from to =
    room_of_before (just_after (value f)) (just_after (value g))
    (before_same (just_after (value f)) (just_after (whole (pos m))) (just_after (value g))
    (same_before (just_after (value f)) (just_after (whole (pos n))) (just_after (whole (pos m))) (from, refl)
    (inl (lt_whole (let h : pos n <ℤ pos m = omega (arith, ints, l) in h)))) (same_sym to, refl))
  where
    just_after : Rational → Place
    just_after t = record { at = t; after = true }

-- one truth on the gap, and the same at the row
pub through : {piece : TruthPiece} {truth : ATruth} (b : Binding) (i : ℕ) (first r : Row) (holds : Bool) → piece ≡ Whole truth → truth.holds ≡ holds
    → IsTruthOn b i first r piece → IsTruthAt b i r holds → IsThrough b i first r holds
through {truth = truth} b i first r holds is same on at = λ a tr for next t low high.
    let gap : TellsGap (row_time first) (row_time r) (holds_at a tr) (Whole truth) =
    subst (λ p. TellsGap (row_time first) (row_time r) (holds_at a tr) p) is (on a tr for next) in
    elim (le_or_lt (row_time r) t) [
      | inl x ↦ at a tr t for (row_of_next tr (Some first) r next) (same_of_le high x)
      | inr x ↦ gap t low x ∙ same
    ]

-- the edge has this verdict more at its back, and nothing else has changed
pub record HasExtended (old new : Held) (i : ℕ) (v : Verdict) : Type 0 where
  -- the edge itself
  pub here : HasMore (edge_at old i) (edge_at new i) (v ∷ [])
  -- and the others
  pub others : new.edges ≡ with_edge old i (edge_at new i)
  -- the start is as it was
  pub start : new.start ≡ old.start

-- one truth after the row before, up to the row: the one verdict is put
pub even_put : (b : Binding) (i : ℕ) (first r : Row) {e0 e1 e2 : Held} (v : Verdict) → i < length e0.edges → first.time < r.time
    → Same (after_row first) (begins (interval v.on)) → Same (ends (interval v.on)) (after_row r) → HasExtended e0 e1 i v
    → HasNoted e1 e2 i r.time → IsThrough b i first r v.holds → HasPutAtom b (Some first) r i e0 e2
even_put b i first r {e0} {e1} {e2} v within later from to put noted truth = record {
  here = record { more = v ∷ []; put = edge_at e1 i; got = put.here; is = here; describes = describes };
  others = λ j other. ap (λ es. get_or es j no_edge) noted.edges ∙ get_or-set_other e1.edges i j _ no_edge other
      ∙ ap (λ es. get_or es j no_edge) put.others ∙ get_or-set_other e0.edges i j _ no_edge other;
  count = ap length noted.edges ∙ length-set e1.edges i _ ∙ count;
  start = noted.start ∙ put.start;
}
  where
    count : length e1.edges ≡ length e0.edges
    count = ap length put.others ∙ length-set e0.edges i _

    here : edge_at e2 i ≡ with_number (edge_at e1 i) (pos r.time)
    here = ap (λ es. get_or es i no_edge) noted.edges ∙ get_or-set_same e1.edges i _ no_edge (subst (λ n. i < n) (sym count) within)

    some : Before (after_row first) (after_row r)
    some = before_trans (after_row first) (before_row r) (after_row r) (rows_order first r later) (row_order r)

    inside : Before (begins (interval v.on)) (ends (interval v.on))
    inside = before_same (begins (interval v.on)) (after_row r) (ends (interval v.on))
        (same_before (begins (interval v.on)) (after_row first) (after_row r) (same_places from) some) (same_places to)

    last : Option Bool
    last = Some v.holds

    lead : (a : Atom) (tr : Trace) → IsFor b i a tr → AreNeighbours tr first r
        → Lead (atom i a) tr (after_row first) nothing (v ∷ []) (after_row r) last
    lead a tr for next = (
      from,
      inside,
      (λ e. (let x = e in cc)),
      told_same v.holds (Truth (atom i a) tr) (after_row first) (after_row r) (begins (interval v.on)) (ends (interval v.on)) from (same_places to)
          (λ t x y. is_test a tr t v.holds (truth a tr for next t x y)),
      (to, (let e : last ≡ last = refl in e)),
    )

    describes : (a : Atom) (tr : Trace) → IsFor b i a tr → StandsNext tr (Some first) r → Describes (v ∷ []) (atom i a) tr (row_stretch (Some first) r)
    describes a tr for next = lead_describes (atom i a) tr (row_stretch (Some first) r) (v ∷ []) last some (lead a tr for next)

-- what is found at a place that is one of the list
module _ {X : Type 0} (xs : List (Option X)) (i : ℕ) (r : Option X) (within : i < length xs) (is : r ≡ get_or xs i r) where
  -- the list has the item that was found at the place
  pub found : slice_get xs i ≡ Some r
  found = by_case (slice_get_cases xs i).1
    where
      by_case : ((x : Option X) × (i < length xs) × (slice_get xs i ≡ Some x) × (get_or xs i x ≡ x)) ⊎ ((length xs ≤ i) × (slice_get xs i ≡ None))
          → slice_get xs i ≡ Some r
      by_case (inl h) = h.2 ∙ ap Some (sym (is ∙ get_or_from_slice_get xs i h.0 r h.2))
      by_case (inr h) = absurd (let l = h.0 in omega (arith, l, within))

  -- where it is none the list has none there
  pub none_at : is_some r ≡ false → slice_get xs i ≡ Some None
  none_at e = found ∙ ap Some (by_value r e)
    where
      by_value : (r : Option X) → is_some r ≡ false → r ≡ None
      by_value None e = refl
      by_value (Some x) e = absurd (let y : true ≡ false = e in cc)

  -- where there is one the list does not have none there
  pub none_not : is_some r ≡ true → slice_get xs i ≡ Some None → ⊥
  none_not e h = by_value r e (sym found ∙ h)
    where
      by_value : (r : Option X) → is_some r ≡ true → Some r ≡ Some None → ⊥
      by_value None e h = absurd (let y : false ≡ true = e in cc)
      by_value (Some x) e h = cc

module _ (b : Binding) (before : Option Row) (r : Row) (operators : List (Option Operator)) (i : ℕ) where
  -- one atom more got its verdicts
  pub put_more : slice_get operators i ≡ Some None → {old mid new : Held} → HasPutAtoms b before r operators i old mid
      → HasPutAtom b before r i mid new → HasPutAtoms b before r operators (i + 1) old new
  put_more e {old} {mid} {new} done one = record {
    atoms = λ j l x. by_order j l x (cases_order j i);
    others = λ j none. one.others j (λ x. none (omega (arith, x)) (subst (λ k. slice_get operators k ≡ Some None) (sym x) e))
        ∙ done.others j (λ l x. none (omega (arith, l)) x);
    joins = λ j. joins_by j (cases_eq j i) ∙ done.joins j;
    count = one.count ∙ done.count;
    start = one.start ∙ done.start;
  }
    where
      earlier : (j : ℕ) → j < i → slice_get operators j ≡ Some None → IsPut b before r j (edge_at old j) (edge_at new j)
      earlier j l x = subst (λ y. IsPut b before r j (edge_at old j) y) (sym (one.others j (λ z. absurd (omega (arith, l, z))))) (done.atoms j l x)

      own : IsPut b before r i (edge_at old i) (edge_at new i)
      own = subst (λ y. IsPut b before r i y (edge_at new i)) (done.others i (λ l x. absurd (omega (arith, l)))) one.here

      joins_by : (j : ℕ) → (j ≡ i) ⊎ (j ≢ i) → (edge_at new j).joins ≡ (edge_at mid j).joins
      joins_by j (inl same) = subst (λ k. (edge_at new k).joins ≡ (edge_at mid k).joins) (sym same)
          (ap (λ (x : Edge). x.joins) one.here.is ∙ one.here.got.joins)
      joins_by j (inr d) = ap (λ (x : Edge). x.joins) (one.others j d)

      by_order : (j : ℕ) → j < i + 1 → slice_get operators j ≡ Some None → (j ≡ i) ⊎ ((j < i) ⊎ (i < j))
          → IsPut b before r j (edge_at old j) (edge_at new j)
      by_order j l x (inl y) = subst (λ k. IsPut b before r k (edge_at old k) (edge_at new k)) (sym y) own
      by_order j l x (inr (inl y)) = earlier j y x
      by_order j l x (inr (inr y)) = absurd (omega (arith, l, y))

  -- a node that is no atom
  pub put_skips : (slice_get operators i ≡ Some None → ⊥) → {old new : Held} → HasPutAtoms b before r operators i old new
      → HasPutAtoms b before r operators (i + 1) old new
  put_skips d {old} {new} done = record {
    atoms = λ j l x. done.atoms j (below j l x (cases_order j i)) x;
    others = λ j none. done.others j (λ l x. none (omega (arith, l)) x);
    joins = done.joins;
    count = done.count;
    start = done.start;
  }
    where
      below : (j : ℕ) → j < i + 1 → slice_get operators j ≡ Some None → (j ≡ i) ⊎ ((j < i) ⊎ (i < j)) → j < i
      below j l x (inl y) = absurd (d (subst (λ k. slice_get operators k ≡ Some None) y x))
      below j l x (inr (inl y)) = y
      below j l x (inr (inr y)) = absurd (omega (arith, l, y))
