-- The lines of a stream, of whatever kind: what they tell stays so in each trace that goes on from the rows, and in the end they lead over the trace.
use Rattle.std.proofs.Common.{◌≡◌, ◌≢◌, refl, sym, ap, subst, ◌∙◌, ℕ, ◌≤◌}
use Rattle.std.proofs.Common.{Bool, true, false, Option, Some, None, List, [], ◌∷◌, ◌++◌, length}
use Rattle.std.proofs.Common.{ℤ, pos, ◌+ℤ◌, ◌-ℤ◌, ◌≤ℤ◌, ◌<ℤ◌, arith, append_assoc, append-nil}
use Rattle.std.specs.Prelude.{int_lt, cond}
use Rattle.std.proofs.lemmas.Bool.{false≢true}
use Rattle.std.proofs.lemmas.Int.{ints}
use Rattle.std.proofs.lemmas.Option.{same_Some}
use Rattle.rational.specs.Time.{Rational, ◌≤ʳ◌, later, whole}
use Rattle.rational.proofs.Order.{le_trans}
use Rattle.rational.proofs.TimeLemmas.{later_le}
use Rattle.rational.proofs.Mixed.{parts}
use Rattle.rational.proofs.Tests.{int_order}
use Rattle.stl_syntax.specs.Trace.{Header, Row, Trace, IsTrace, Continues, AreRows, first_time, last_time}
use Rattle.stl_syntax.specs.Formula.{Subformula, horizon}
use Rattle.stl_syntax.specs.Stream.{NewText, answered_by, IsRowsText, IsRestText}
use Rattle.stl_syntax.proofs.RowsLemmas.{last_time-push, row_later}
use Rattle.online_nodes.proofs.RunLaw.{none_is_none}
use Rattle.promises.specs.SureRows.{AreByRow}

-- ---- fronts

-- a row more leaves the first time
first_stays : (rows : List Row) (r s : Row) → first_time ((rows ++ r ∷ []) ++ s ∷ []) ≡ first_time (rows ++ r ∷ [])
first_stays [] r s = refl
first_stays (q ∷ rows) r s = refl

-- a front does not lie below the start
abbrev pub Low : ℕ → Option ℤ → Type 0
Low first None = Unit {0}
Low first (Some f) = pos first ≤ℤ f

-- the fronts do not fall
abbrev pub NeverBelow : Option ℤ → Option ℤ → Type 0
NeverBelow None o = Unit {0}
NeverBelow (Some f) None = ⊥
NeverBelow (Some f) (Some g) = f ≤ℤ g

-- what is answered once a row at time s came, as a number
record AnsweredBy (first : ℕ) (p : Subformula) (s : ℕ) (f : ℤ) : Type 0 where
  -- the answer is the row's time less the horizon
  is : f ≡ pos s -ℤ pos (horizon p)
  -- and does not lie before the first time
  low : pos first ≤ℤ f

-- a row that answers some time answers that one
answered_is : (first : ℕ) (p : Subformula) (s : ℕ) (f : ℤ) → answered_by first p s ≡ Some f → AnsweredBy first p s f
answered_is first p s f e = by_test (int_lt (pos s -ℤ pos (horizon p)) (pos first)) refl e
  where
    by_test : (t : Bool) → int_lt (pos s -ℤ pos (horizon p)) (pos first) ≡ t → cond t None (Some (pos s -ℤ pos (horizon p))) ≡ Some f → AnsweredBy first p s f
    by_test true x y = absurd (none_is_none f y)
    by_test false x y =
        let same = same_Some (pos s -ℤ pos (horizon p)) f y in
        record { is = sym same; low = subst (λ z. pos first ≤ℤ z) same (int_order (pos s -ℤ pos (horizon p)) (pos first) false x) }

answered_none : (first : ℕ) (p : Subformula) (s : ℕ) → answered_by first p s ≡ None → (pos s -ℤ pos (horizon p)) <ℤ pos first
answered_none first p s e = by_test (int_lt (pos s -ℤ pos (horizon p)) (pos first)) refl e
  where
    by_test : (t : Bool) → int_lt (pos s -ℤ pos (horizon p)) (pos first) ≡ t
        → cond t None (Some (pos s -ℤ pos (horizon p))) ≡ None → (pos s -ℤ pos (horizon p)) <ℤ pos first
    by_test true x y = int_order (pos s -ℤ pos (horizon p)) (pos first) true x
    by_test false x y = absurd (none_is_none (pos s -ℤ pos (horizon p)) (sym y))

-- a front does not lie before the first time
low_front : (first : ℕ) (p : Subformula) (s : ℕ) (o : Option ℤ) → answered_by first p s ≡ o → Low first o
low_front first p s None e = tt
low_front first p s (Some f) e = (answered_is first p s f e).low

-- with one row more a front does not lie before the first time either
low_later : (rows : List Row) (r s : Row) (o : Option ℤ) → Low (first_time (rows ++ r ∷ [])) o → Low (first_time ((rows ++ r ∷ []) ++ s ∷ [])) o
low_later rows r s o h = subst (λ n. Low n o) (sym (first_stays rows r s)) h

-- up to f and the horizon after it the last row has come
row_answered : (p : Subformula) (rows : List Row) (r : Row) (f : ℤ) → AnsweredBy (first_time (rows ++ r ∷ [])) p r.time f → (t : Rational) → t ≤ʳ whole f
    → later t (horizon p) ≤ʳ whole (pos (last_time 0 (rows ++ r ∷ [])))
row_answered p rows r f a t to = le_trans (later_le (horizon p) to) (reach (last_time 0 (rows ++ r ∷ [])) (last_time-push 0 rows r))
  where
    reach : (last : ℕ) → last ≡ r.time → later (whole f) (horizon p) ≤ʳ whole (pos last)
    reach last e =
        let g : (f +ℤ pos (horizon p)) ≤ℤ pos last = let x = a.is in let y : pos last ≡ pos r.time = ap pos e in omega (arith, ints) in
        record { le = omega (arith, parts) }

-- what is answered after some rows
abbrev Front : Subformula → List Row → Option ℤ
Front p [] = None
Front p (r ∷ rows) = answered_by r.time p (last_time r.time rows)

-- the front of rows is what the last of them answers
front_is : (p : Subformula) (rows : List Row) (r : Row) → Front p (rows ++ r ∷ []) ≡ answered_by (first_time (rows ++ r ∷ [])) p r.time
front_is p [] r = refl
front_is p (q ∷ rows) r = ap (λ n. answered_by q.time p n) (last_time-push q.time rows r)

-- the front of rows is what is answered at the last time of them
front_of_all : (p : Subformula) (rows : List Row) → rows ≢ [] → Front p rows ≡ answered_by (first_time rows) p (last_time 0 rows)
front_of_all p [] some = absurd (some refl)
front_of_all p (r ∷ rows) some = refl

-- which does not fall
front_rises : (first : ℕ) (p : Subformula) (s u : ℕ) (o q : Option ℤ) → s ≤ u → answered_by first p s ≡ o → answered_by first p u ≡ q → NeverBelow o q
front_rises first p s u None q l a b = tt
front_rises first p s u (Some f) None l a b =
    let x = answered_is first p s f a in
    let i = x.is in
    let low = x.low in
    let y = answered_none first p u b in
    omega (arith, ints)
front_rises first p s u (Some f) (Some g) l a b =
    let i = (answered_is first p s f a).is in
    let j = (answered_is first p u g b).is in
    omega (arith, ints)

-- ---- a kind of lines

-- its lines, what they tell of a trace, where two traces agree in it, and from which front to which its lines lead
module _ {T : Type 0} (AreLines : List T → List ℕ → Type 0) (AreTold : Trace → List T → Type 0) (Agree : Trace → Trace → Rational → Type 0)
    (Led : ℕ → Option ℤ → List T → Option ℤ → Type 0) (header : Header) where
  -- the lines of what a front answers beyond an old one, in the trace of some rows
  pub record Lines (rows : List Row) (old new : Option ℤ) (text : List ℕ) : Type 0 where
    pub items : List T
    pub lines : AreLines items text
    pub told : (tr : Trace)
        → ((f : ℤ) → new ≡ Some f → (t : Rational) → whole (pos (first_time rows)) ≤ʳ t → t ≤ʳ whole f → Agree (record { header = header; rows = rows }) tr t)
        → AreTold tr items
    pub led : NeverBelow old new → Led (first_time rows) old items new

  -- lines that lead from one front to another
  pub record Passage (first : ℕ) (old new : Option ℤ) (tr : Trace) (text : List ℕ) : Type 0 where
    pub items : List T
    pub lines : AreLines items text
    pub told : AreTold tr items
    pub led : Led first old items new

  -- what a kind of lines has
  pub record IsKind (p : Subformula) (New : NewText) : Type 0 where
    -- a new text is lines
    pub new_lines : (rows : List Row) (old new : Option ℤ) (text : List ℕ) → Low (first_time rows) old
        → New (record { header = header; rows = rows }) old new text
        → Lines rows old new text
    -- what is settled stays
    pub stays : (r : Row) (rows : List Row) (tr : Trace) (t : Rational) → IsTrace tr → Continues tr header (r ∷ rows) false
        → (whole (pos r.time) ≤ʳ t) × (later t (horizon p) ≤ʳ whole (pos (last_time r.time rows))) → Agree (record { header = header; rows = r ∷ rows }) tr t
    pub itself : (tr : Trace) (t : Rational) → Agree tr tr t
    -- none, and some after others
    pub no_lines : (text : List ℕ) → text ≡ [] → AreLines [] text
    pub no_told : (tr : Trace) → AreTold tr []
    pub no_led : (first : ℕ) (o : Option ℤ) → Led first o [] o
    pub lines_join : (xs ys : List T) (text more : List ℕ) → AreLines xs text → AreLines ys more → AreLines (xs ++ ys) (text ++ more)
    pub told_join : (tr : Trace) (xs ys : List T) → AreTold tr xs → AreTold tr ys → AreTold tr (xs ++ ys)
    pub led_join : (first : ℕ) (old mid new : Option ℤ) (xs ys : List T) → Led first old xs mid → Led first mid ys new → Led first old (xs ++ ys) new

module _ {T : Type 0} {AreLines : List T → List ℕ → Type 0} {AreTold : Trace → List T → Type 0} {Agree : Trace → Trace → Rational → Type 0}
    {Led : ℕ → Option ℤ → List T → Option ℤ → Type 0} {header : Header} {p : Subformula} {New : NewText}
    (k : IsKind AreLines AreTold Agree Led header p New) where
  -- rows that answer up to f settle what is told from the start up to there
  agrees : (rows : List Row) (r : Row) (tr : Trace) (f : ℤ) → IsTrace tr → Continues tr header (rows ++ r ∷ []) false
      → AnsweredBy (first_time (rows ++ r ∷ [])) p r.time f → (t : Rational) → whole (pos (first_time (rows ++ r ∷ []))) ≤ʳ t → t ≤ʳ whole f
      → Agree (record { header = header; rows = rows ++ r ∷ [] }) tr t
  agrees [] r tr f is c a t from to = k.stays r [] tr t is c (from, row_answered p [] r f a t to)
  agrees (q ∷ qs) r tr f is c a t from to = k.stays q (qs ++ r ∷ []) tr t is c (from, row_answered p (q ∷ qs) r f a t to)

  -- a trace that goes on from all rows and their end is these rows
  same_trace : (rows : List Row) (tr : Trace) (t : Rational) → Continues tr header rows true → Agree (record { header = header; rows = rows }) tr t
  same_trace rows tr t c =
      let none = c.whole_input refl in
      let same : tr.rows ≡ rows = c.begins ∙ ap (λ l. rows ++ l) none ∙ append-nil rows in
      let is : record { header = header; rows = rows } ≡ tr =
      ap (λ h. record { header = h; rows = rows }) (sym c.same_header) ∙ ap (λ l. record { header = tr.header; rows = l }) (sym same) in
      subst (λ (q : Trace). Agree (record { header = header; rows = rows }) q t) is (k.itself (record { header = header; rows = rows }) t)

  rest_lines : (rows : List Row) (rest : List ℕ) → IsRestText New p (record { header = header; rows = rows }) rest
      → Lines AreLines AreTold Agree Led header rows (answered_by (first_time rows) p (last_time 0 rows)) (Some (pos (last_time 0 rows))) rest
  rest_lines rows rest t =
      k.new_lines rows (answered_by (first_time rows) p (last_time 0 rows)) (Some (pos (last_time 0 rows))) rest
      (low_front (first_time rows) p (last_time 0 rows) _ refl) t

  -- ---- what stays

  -- lines that stay are sure
  module _ (Sure : List Row → Bool → List ℕ → Type 0)
      (sure : (rows : List Row) (ended : Bool) (text : List ℕ) (items : List T) → AreLines items text
      → ((tr : Trace) → IsTrace tr → Continues tr header rows ended → AreTold tr items) → Sure rows ended text) where
    by_row : (rows : List Row) (old : Option ℤ) (more : List Row) (text : List ℕ) → ((r : Row) → Low (first_time (rows ++ r ∷ [])) old)
        → IsRowsText New p header rows old more text → AreByRow Sure rows more text
    by_row rows old [] text low t = t
    by_row rows old (r ∷ more) text low (here, later, new, rest, is) =
        let l = k.new_lines (rows ++ r ∷ []) old _ here (low r) new in (
          here,
          later,
          sure (rows ++ r ∷ []) false here l.items l.lines
              (λ tr ok c. l.told tr (λ f e. agrees rows r tr f ok c (answered_is (first_time (rows ++ r ∷ [])) p r.time f e))),
          by_row (rows ++ r ∷ []) _ more later
              (λ s. low_later rows r s _ (low_front (first_time (rows ++ r ∷ [])) p r.time _ refl)) rest,
          is,
        )

    -- those of the rows
    pub sure_by_row : (rows : List Row) (text : List ℕ) → IsRowsText New p header [] None rows text → AreByRow Sure [] rows text
    sure_by_row rows text t = by_row [] None rows text (λ r. tt) t

    -- those of the end
    pub sure_at_end : (rows : List Row) (rest : List ℕ) → IsRestText New p (record { header = header; rows = rows }) rest → Sure rows true rest
    sure_at_end rows rest t =
        let l = rest_lines rows rest t in
        sure rows true rest l.items l.lines (λ tr ok c. l.told tr (λ f e t a b. same_trace rows tr t c))

  -- ---- the cover

  module _ (tr : Trace) (ok : IsTrace tr) (first : ℕ) (starts : first ≡ first_time tr.rows) where
    course : (rows : List Row) (old : Option ℤ) (more : List Row) (text : List ℕ) → tr.header ≡ header → tr.rows ≡ rows ++ more
        → AreRows (length header.columns) (rows ++ more) → old ≡ Front p rows → IsRowsText New p header rows old more text
        → Passage AreLines AreTold Agree Led header first old (Front p (rows ++ more)) tr text
    course rows old [] text same is are e t =
        let end : Front p (rows ++ []) ≡ old = ap (Front p) (append-nil rows) ∙ sym e in
        subst (λ (o : Option ℤ). Passage AreLines AreTold Agree Led header first old o tr text) (sym end)
        (record { items = []; lines = k.no_lines text t; told = k.no_told tr; led = k.no_led first old })
    course rows old (r ∷ more) text same is are e (here, later, new, rest, parts) =
        let at : rows ++ r ∷ more ≡ (rows ++ r ∷ []) ++ more = sym (append_assoc rows (r ∷ []) more) in
        let begin : first_time (rows ++ r ∷ []) ≡ first = first_so_far rows more (is) ∙ sym starts in
        let front : answered_by (first_time (rows ++ r ∷ [])) p r.time ≡ Front p (rows ++ r ∷ []) = sym (front_is p rows r) in
        let l = k.new_lines (rows ++ r ∷ []) old _ here (low_old rows e begin) new in
        let c = course (rows ++ r ∷ []) _ more later same (is ∙ at) (subst (λ rs. AreRows (length header.columns) rs) at are) front rest in
        let goes : Continues tr header (rows ++ r ∷ []) false =
        record { same_header = same; more = more; begins = is ∙ at; whole_input = λ k. absurd (false≢true k) } in
        let led : Led (first_time (rows ++ r ∷ [])) old l.items (answered_by (first_time (rows ++ r ∷ [])) p r.time) = l.led (rises rows e begin are) in
        subst (λ rs. Passage AreLines AreTold Agree Led header first old (Front p rs) tr text) (sym at) (record {
          items = l.items ++ c.items;
          lines = subst (λ t. AreLines (l.items ++ c.items) t) (sym parts) (k.lines_join l.items c.items here later l.lines c.lines);
          told = k.told_join tr l.items c.items
              (l.told tr (λ f e. agrees rows r tr f ok goes (answered_is (first_time (rows ++ r ∷ [])) p r.time f e))) c.told;
          led = k.led_join first old (answered_by (first_time (rows ++ r ∷ [])) p r.time) (Front p ((rows ++ r ∷ []) ++ more)) l.items c.items
              (subst (λ n. Led n old l.items (answered_by (first_time (rows ++ r ∷ [])) p r.time)) begin led) c.led;
        })
      where
        first_so_far : (rows more : List Row) → tr.rows ≡ rows ++ r ∷ more → first_time (rows ++ r ∷ []) ≡ first_time tr.rows
        first_so_far [] more e = ap first_time (sym e)
        first_so_far (q ∷ rows) more e = ap first_time (sym e)

        low_old : (rows : List Row) → old ≡ Front p rows → first_time (rows ++ r ∷ []) ≡ first → Low (first_time (rows ++ r ∷ [])) old
        low_old [] e b = subst (λ (o : Option ℤ). Low r.time o) (sym e) tt
        low_old (q ∷ rows) e b = subst (λ (o : Option ℤ). Low q.time o) (sym e) (low_front q.time p (last_time q.time rows) _ refl)

        rises : (rows : List Row) → old ≡ Front p rows → first_time (rows ++ r ∷ []) ≡ first → AreRows (length header.columns) (rows ++ r ∷ more)
            → NeverBelow old (answered_by (first_time (rows ++ r ∷ [])) p r.time)
        rises [] e b are = subst (λ (o : Option ℤ). NeverBelow o (answered_by r.time p r.time)) (sym e) tt
        rises (q ∷ rows) e b are =
            let l = row_later (length header.columns) q.time rows r more are.1 in
            front_rises q.time p (last_time q.time rows) r.time old _ (omega (arith, l)) (sym e) refl

  -- the lines of the rows and those of the end lead over the trace
  pub whole_passage : (rows : List Row) (during rest : List ℕ) → AreRows (length header.columns) rows → IsRowsText New p header [] None rows during
      → IsRestText New p (record { header = header; rows = rows }) rest
      → Passage AreLines AreTold Agree Led header (first_time rows) None (Some (pos (last_time 0 rows))) (record { header = header; rows = rows })
      (during ++ rest)
  whole_passage rows during rest are t at_end =
      let tr : Trace = record { header = header; rows = rows } in
      let c = course tr (record { rows = are }) (first_time rows) refl [] None rows during refl refl are refl t in
      let l = rest_lines rows rest at_end in
      let led : Led (first_time rows) (Front p rows) l.items (Some (pos (last_time 0 rows))) =
      subst (λ (o : Option ℤ). Led (first_time rows) o l.items (Some (pos (last_time 0 rows)))) (sym (front_of_all p rows (no_rows are)))
      (l.led (by_end (answered_by (first_time rows) p (last_time 0 rows)) refl)) in
      record {
        items = c.items ++ l.items;
        lines = k.lines_join c.items l.items during rest c.lines l.lines;
        told = k.told_join tr c.items l.items c.told (l.told tr (λ f e t a b. k.itself tr t));
        led = k.led_join (first_time rows) None (Front p rows) (Some (pos (last_time 0 rows))) c.items l.items c.led led;
      }
    where
      no_rows : AreRows (length header.columns) rows → rows ≢ []
      no_rows are e = subst (λ rs. AreRows (length header.columns) rs) e are

      by_end : (o : Option ℤ) → answered_by (first_time rows) p (last_time 0 rows) ≡ o → NeverBelow o (Some (pos (last_time 0 rows)))
      by_end None e = tt
      by_end (Some f) e = let i = (answered_is (first_time rows) p (last_time 0 rows) f e).is in omega (arith, ints)
