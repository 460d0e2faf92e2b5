-- A row at which no atom turns, and has not for as long as the formula looks back: what it answers is one verdict, with the truth that was told last.
use Rattle.std.proofs.Common.{◌≡◌, inl, inr, refl, sym, ap, ◌∙◌, subst, ℕ, ◌+◌, ◌-◌, ◌<◌, ◌≤◌, Bool, true, false, List, [], ◌∷◌, ◌++◌, length}
use Rattle.std.proofs.Common.{Some, None, arith, append-nil, append_assoc, ℤ, pos, ◌+ℤ◌, ◌-ℤ◌, ◌<ℤ◌, ◌≤ℤ◌}
use Rattle.std.specs.Prelude.{MatchBool, cond, int_lt, slice_get}
use Rattle.std.proofs.lemmas.Int.{ints}
use Rattle.rational.specs.Rational.{whole}
use Rattle.rational.specs.Time.{Rational, ◌≤ʳ◌, ◌<ʳ◌, later, left_open, Within}
use Rattle.rational.proofs.Order.{le_refl, le_trans, le_of_lt, lt_trans, lt_of_lt_of_le, le_or_lt}
use Rattle.rational.proofs.Mixed.{parts}
use Rattle.rational.proofs.Shift.{le_whole, lt_whole}
use Rattle.rational.proofs.Tests.{int_below, int_not_below}
use Rattle.stl_syntax.specs.Formula.{Subformula, subformula, horizon, atom}
use Rattle.stl_syntax.specs.Trace.{Header, Row, Trace, AreRows, AreRowsAfter, first_time, last_time, start, stop, row_time}
use Rattle.stl_syntax.specs.Truth.{Truth, holds_at}
use Rattle.stl_syntax.specs.PostOrder.{IsPostOrder}
use Rattle.stl_syntax.specs.Stream.{answered_by, IsStretchText, IsNewText, IsRowsText}
use Rattle.stl_syntax.specs.declared.atom.Atom.{Atom}
use Rattle.stl_syntax.specs.declared.node.Node.{Node}
use Rattle.stl_syntax.specs.declared.node.Node.TheVariants.{Atom as Leaf}
use Rattle.stl_syntax.proofs.RowsLemmas.{last_time-push}
use Rattle.online_nodes.specs.Truths.{Is}
use Rattle.online_nodes.proofs.StayLaw.{Agree}
use Rattle.bounds.specs.Turns.{looks_back}
use Rattle.bounds.specs.Steady.{StaysOn, AtomsStay}
use Rattle.bounds.proofs.SteadyFormulas.{steady_atoms_keep_truths, steady_atoms_answer_once}
use Rattle.verdict_stream.specs.Quieting.{IsSteady, IsLineAfter}
use Rattle.verdict_stream.proofs.CutRows.{agree_by}
use Rattle.verdict_stream.proofs.SteadyNodes.{stay_on}
use Rattle.verdict_stream.proofs.WatchedRoot.{front_after, front_push, rows_told}

-- the truth is the same where both imply one another
same_truth : (p : Subformula) (tr tr' : Trace) (t u : Rational) (b : Bool) → (Truth p tr t → Truth p tr' u) → (Truth p tr' u → Truth p tr t)
    → Is b (Truth p tr) t → Is b (Truth p tr') u
same_truth p tr tr' t u true there back h = there h
same_truth p tr tr' t u false there back h = λ x. h (back x)

module _ (header : Header) (before : List Row) (l r : Row) (are : AreRows (length header.columns) (before ++ l ∷ r ∷ [])) where
  -- the trace with the row l, and with a row more
  abbrev pub old_trace : Trace
  old_trace = record { header = header; rows = before ++ l ∷ [] }

  abbrev pub new_trace : Trace
  new_trace = record { header = header; rows = before ++ l ∷ r ∷ [] }

  -- where they begin and end
  record HasTimes : Type 0 where
    begin : first_time (before ++ l ∷ []) ≡ first_time (before ++ l ∷ r ∷ [])
    rises : l.time < r.time
    first : first_time (before ++ l ∷ r ∷ []) ≤ l.time
    old_end : last_time 0 (before ++ l ∷ []) ≡ l.time
    new_end : last_time 0 (before ++ l ∷ r ∷ []) ≡ r.time

  times : HasTimes
  times = record {
    begin = begin_of before;
    rises = rises_of before are;
    first = first_of before are;
    old_end = last_time-push 0 before l;
    new_end = ap (last_time 0) (sym (append_assoc before (l ∷ []) (r ∷ []))) ∙ last_time-push 0 (before ++ l ∷ []) r;
  }
    where
      begin_of : (b : List Row) → first_time (b ++ l ∷ []) ≡ first_time (b ++ l ∷ r ∷ [])
      begin_of [] = refl
      begin_of (q ∷ b) = refl

      after_of : (n t : ℕ) (b : List Row) → AreRowsAfter n t (b ++ l ∷ r ∷ []) → (t < l.time) × (l.time < r.time)
      after_of n t [] h = (h.0, h.2.0)
      after_of n t (q ∷ b) h = let k = after_of n q.time b h.2 in (omega (arith, h.0, k.0), k.1)

      rises_of : (b : List Row) → AreRows (length header.columns) (b ++ l ∷ r ∷ []) → l.time < r.time
      rises_of [] h = h.1.0
      rises_of (q ∷ b) h = (after_of (length header.columns) q.time b h.1).1

      first_of : (b : List Row) → AreRows (length header.columns) (b ++ l ∷ r ∷ []) → first_time (b ++ l ∷ r ∷ []) ≤ l.time
      first_of [] h = omega arith
      first_of (q ∷ b) h = let k = (after_of (length header.columns) q.time b h.1).0 in omega (arith, k)

  pub row_rises : l.time < r.time
  row_rises = times.rises

  -- what the first trace has answered, the second has too
  agrees : (p : Subformula) (g : ℤ) → g ≡ pos l.time -ℤ pos (horizon p) → (t : Rational) → whole (pos (first_time (before ++ l ∷ r ∷ []))) ≤ʳ t → t ≤ʳ whole g
      → Agree p new_trace old_trace t
  agrees p g is t low high = agree_by p header (before ++ l ∷ r ∷ []) are before (r ∷ []) l g refl is t low high

  -- an atom that has one truth after lo and from the row l on has one after lo
  leaf_on : (lo : ℕ) (i : ℕ) (a : Atom) → first_time (before ++ l ∷ []) ≤ lo
      → ((t u : Rational) → Within (row_time l) (row_time r) t → Within (row_time l) (row_time r) u → holds_at a new_trace t ≡ holds_at a new_trace u)
      → StaysOn (atom i a) old_trace (whole (pos lo)) (stop old_trace) → StaysOn (atom i a) new_trace (whole (pos lo)) (stop new_trace)
  leaf_on lo i a first steady old u v above low other under h = (to_row v other under).1 ((to_row u above low).0 h)
    where
      p : Subformula
      p = atom i a

      from : whole (pos (first_time (before ++ l ∷ r ∷ []))) ≤ʳ whole (pos lo)
      from = subst (λ n. whole (pos n) ≤ʳ whole (pos lo)) times.begin (le_whole (let x : pos (first_time (before ++ l ∷ [])) ≤ℤ pos lo = omega (arith, ints, first) in x))

      here : whole (pos lo) <ʳ row_time l → Agree p new_trace old_trace (row_time l)
      here k = agrees p (pos l.time) (omega (arith, ints)) (row_time l) (le_trans from (le_of_lt k)) (le_refl (row_time l))

      stop_is : stop old_trace ≡ row_time l
      stop_is = ap (λ n. whole (pos n)) times.old_end

      -- at each time the truth is that at the row l
      to_row : (t : Rational) → whole (pos lo) <ʳ t → t ≤ʳ stop new_trace
          → (Truth p new_trace t → Truth p new_trace (row_time l)) × (Truth p new_trace (row_time l) → Truth p new_trace t)
      to_row t k high = elim (le_or_lt (row_time l) t) [
        | inl past ↦
            let e : holds_at a new_trace t ≡ holds_at a new_trace (row_time l) =
            steady t (row_time l) (record { above = past; below = subst (λ n. t ≤ʳ whole (pos n)) times.new_end high })
            (record { above = le_refl (row_time l); below = le_whole (let x = times.rises in let y : pos l.time ≤ℤ pos r.time = omega (arith, ints, x) in y) }) in
            (λ x. sym e ∙ x, λ x. e ∙ x)
        | inr soon ↦
            let at_l = here (lt_of_lt_of_le k (le_of_lt soon)) in
            let at_t = agrees p (pos l.time) (omega (arith, ints)) t (le_trans from (le_of_lt k)) (le_of_lt soon) in
            let end : row_time l ≤ʳ stop old_trace = subst (λ s. row_time l ≤ʳ s) (sym stop_is) (le_refl (row_time l)) in
            let low_t : t ≤ʳ stop old_trace = le_trans (le_of_lt soon) end in
            let low_l : whole (pos lo) <ʳ row_time l = lt_of_lt_of_le k (le_of_lt soon) in (
              λ x. at_l.1 (old t (row_time l) k low_t low_l end (at_t.0 x)),
              λ x. at_t.1 (old (row_time l) t low_l end k low_t (at_l.0 x)),
            )
      ]

  -- so the atoms of the nodes stay on, where each is steady from row to row
  pub atoms_on : (nodes : List Node) → IsPostOrder nodes → (i : ℕ) → i < length nodes → (lo : ℕ) → first_time (before ++ l ∷ []) ≤ lo
      → ((i : ℕ) (a : Atom) → slice_get nodes i ≡ Some (Leaf a) → (t u : Rational) → Within (row_time l) (row_time r) t → Within (row_time l) (row_time r) u
      → holds_at a new_trace t ≡ holds_at a new_trace u)
      → AtomsStay (subformula nodes i) old_trace (whole (pos lo)) (stop old_trace) → AtomsStay (subformula nodes i) new_trace (whole (pos lo)) (stop new_trace)
  atoms_on nodes ok i within lo first steady =
      stay_on nodes ok old_trace new_trace (whole (pos lo)) (stop old_trace) (stop new_trace)
      (λ j a at. leaf_on lo j a first (steady j a at)) i within

  module _ (p : Subformula) (calm : ℕ) (holds : Bool) (was : IsSteady p old_trace calm holds)
      (atoms : AtomsStay p new_trace (whole (pos calm)) (stop new_trace)) (back : calm + (looks_back p + horizon p) < l.time) where
    -- the last times that are answered
    abbrev pub g : ℕ
    g = l.time - horizon p

    abbrev pub f : ℕ
    f = r.time - horizon p

    answered : first_time (before ++ l ∷ r ∷ []) + horizon p ≤ l.time
    answered = let x = was.answered in let y = times.begin in let z = times.old_end in omega (arith, x, y, z)

    low : first_time (before ++ l ∷ r ∷ []) ≤ calm
    low = let x = was.low in let y = times.begin in omega (arith, x, y)

    begins_low : start new_trace ≤ʳ whole (pos calm)
    begins_low = le_whole (let x = low in let y : pos (first_time (before ++ l ∷ r ∷ [])) ≤ℤ pos calm = omega (arith, ints, x) in y)

    after_calm : later (whole (pos calm)) (looks_back p) <ʳ whole (pos g)
    after_calm =
        let x : (pos calm +ℤ pos (looks_back p)) <ℤ pos g = (let y = answered in omega (arith, ints, back, y)) in
        record { lt = omega (arith, parts) }

    rise : whole (pos g) <ʳ whole (pos f)
    rise = lt_whole (let x = times.rises in let y = answered in let z : pos g <ℤ pos f = omega (arith, ints, x, y) in z)

    within : later (whole (pos f)) (horizon p) ≤ʳ stop new_trace
    within =
        let e : stop new_trace ≡ whole (pos r.time) = ap (λ n. whole (pos n)) times.new_end in
        subst (λ s. later (whole (pos f)) (horizon p) ≤ʳ s) (sym e)
        (let x : (pos f +ℤ pos (horizon p)) ≤ℤ pos r.time = (let y = times.rises in let z = answered in omega (arith, ints, y, z)) in
        record { le = omega (arith, parts) })

    truth_at : Is holds (Truth p new_trace) (whole (pos g))
    truth_at =
        let e : last_time 0 (before ++ l ∷ []) - horizon p ≡ g = ap (λ n. n - horizon p) times.old_end in
        let is : pos g ≡ pos l.time -ℤ pos (horizon p) = (let y = answered in omega (arith, ints, y)) in
        let a = agrees p (pos g) is (whole (pos g)) (le_whole (let y = answered in let z : pos (first_time (before ++ l ∷ r ∷ [])) ≤ℤ pos g = omega (arith, ints, y) in z)) (le_refl (whole (pos g))) in
        same_truth p old_trace new_trace (whole (pos g)) (whole (pos g)) holds a.1 a.0
        (subst (λ n. Is holds (Truth p old_trace) (whole (pos n))) e was.truth)

    stays : StaysOn p new_trace (later (whole (pos calm)) (looks_back p)) (whole (pos f))
    stays =
        steady_atoms_keep_truths p new_trace (whole (pos calm)) (stop new_trace) begins_low (le_refl (stop new_trace)) atoms
        (later (whole (pos calm)) (looks_back p)) (whole (pos f)) (le_refl (later (whole (pos calm)) (looks_back p))) within

    -- the trace with the row is steady too
    pub steady_on : IsSteady p new_trace calm holds
    steady_on =
        let far = le_refl (whole (pos f)) in
        let there = λ (x : Truth p new_trace (whole (pos g))). stays (whole (pos g)) (whole (pos f)) after_calm (le_of_lt rise) (lt_trans after_calm rise) far x in
        let again = λ (x : Truth p new_trace (whole (pos f))). stays (whole (pos f)) (whole (pos g)) (lt_trans after_calm rise) far after_calm (le_of_lt rise) x in
        record {
          low = low;
          atoms = atoms;
          answered = (let x = answered in let y = times.rises in let z = times.new_end in omega (arith, x, y, z));
          truth = subst (λ n. Is holds (Truth p new_trace) (whole (pos (n - horizon p)))) (sym times.new_end)
              (same_truth p new_trace new_trace (whole (pos g)) (whole (pos f)) holds there again truth_at);
        }

    -- what the row answers is the one line
    pub new_line : (line : List ℕ) → IsLineAfter header.scale g f holds line
        → IsNewText p new_trace (front_after p (before ++ l ∷ [])) (answered_by (first_time (before ++ l ∷ r ∷ [])) p r.time) line
    new_line line (v, begin, end, is, lines) =
        let old_is : front_after p (before ++ l ∷ []) ≡ Some (pos g) =
        front_push p before l ∙ ap (λ n. answered_by n p l.time) times.begin ∙ shown l.time g (let y = answered in omega (arith, ints, y)) (let y = answered in omega (arith, ints, y)) in
        let new_is : answered_by (first_time (before ++ l ∷ r ∷ [])) p r.time ≡ Some (pos f) =
        shown r.time f (let y = answered in let z = times.rises in omega (arith, ints, y, z)) (let y = answered in let z = times.rises in omega (arith, ints, y, z)) in
        let rises : int_lt (pos g) (pos f) ≡ true = int_below (pos g) (pos f) (let x = times.rises in let y = answered in omega (arith, ints, x, y)) in
        let described =
        steady_atoms_answer_once p new_trace (whole (pos calm)) (whole (pos g)) (whole (pos f)) v begins_low atoms after_calm rise within
        (subst (λ b. Is b (Truth p new_trace) (whole (pos g))) (sym is) truth_at) begin end in
        subst (λ o. IsNewText p new_trace o (answered_by (first_time (before ++ l ∷ r ∷ [])) p r.time) line) (sym old_is)
        (subst (λ o. IsNewText p new_trace (Some (pos g)) o line) (sym new_is)
        (subst (λ t. MatchBool t (IsStretchText p new_trace (left_open (whole (pos g)) (whole (pos f))) line) (line ≡ [])) (sym rises) (v ∷ [], described, lines)))
      where
        shown : (t n : ℕ) → pos t -ℤ pos (horizon p) ≡ pos n → pos (first_time (before ++ l ∷ r ∷ [])) ≤ℤ pos n
            → answered_by (first_time (before ++ l ∷ r ∷ [])) p t ≡ Some (pos n)
        shown t n e from =
            ap (λ z. cond (int_lt z (pos (first_time (before ++ l ∷ r ∷ [])))) None (Some z)) e
            ∙ ap (λ b. cond b None (Some (pos n))) (int_not_below (pos n) (pos (first_time (before ++ l ∷ r ∷ []))) from)

    -- so the text of the rows with it is longer by that line
    pub line_told : (made line : List ℕ) → IsLineAfter header.scale g f holds line → IsRowsText (IsNewText p) p header [] None (before ++ l ∷ []) made
        → IsRowsText (IsNewText p) p header [] None (before ++ l ∷ r ∷ []) (made ++ line)
    line_told made line is told =
        let same : (before ++ l ∷ []) ++ r ∷ [] ≡ before ++ l ∷ r ∷ [] = append_assoc before (l ∷ []) (r ∷ []) in
        subst (λ rows. IsRowsText (IsNewText p) p header [] None rows (made ++ line)) same
        (rows_told p header (before ++ l ∷ []) (r ∷ []) made line told (
          line,
          [],
          subst (λ rows. IsNewText p (record { header = header; rows = rows }) (front_after p (before ++ l ∷ [])) (answered_by (first_time rows) p r.time) line)
              (sym same) (new_line line is),
          refl,
          sym (append-nil line),
        ))
