-- What the rows of a piece answer, cut row by row out of what the root gave out for all of them: it is the text of the rows in turn.
use Rattle.std.proofs.Common.{◌≡◌, ◌⊎◌, inl, inr, ℕ, ◌-◌, ◌<◌, ◌≤◌, Bool, true, false, List}
use Rattle.std.proofs.Common.{[], ◌∷◌, ◌++◌, length, map, refl, sym, ap, ◌∙◌, subst, arith}
use Rattle.std.proofs.Common.{append-nil, append_assoc, Some, None, ℤ, pos, ◌+ℤ◌, ◌-ℤ◌, ◌<ℤ◌, ◌≤ℤ◌}
use Rattle.std.specs.Prelude.{cond, int_lt, MatchBool}
use Rattle.std.proofs.lemmas.Int.{ints}
use Rattle.std.proofs.lemmas.Option.{same_Some}
use Rattle.rational.specs.Rational.{Rational, ◌≤ʳ◌, whole}
use Rattle.rational.specs.Time.{closed, left_open, later}
use Rattle.rational.proofs.Order.{le_trans, le_of_lt, le_or_lt, same_of_le}
use Rattle.rational.proofs.TimeLemmas.{later_le}
use Rattle.rational.proofs.Mixed.{parts}
use Rattle.rational.proofs.Shift.{le_whole, lt_whole}
use Rattle.stl_syntax.specs.Formula.{Subformula, horizon}
use Rattle.stl_syntax.specs.Trace.{Header, Row, Trace, AreRows, AreRowsAfter, Continues, first_time, last_time}
use Rattle.stl_syntax.specs.Texts.{AreVerdictLines}
use Rattle.stl_syntax.specs.Verdicts.{Describes}
use Rattle.stl_syntax.specs.Stream.{answered_by, IsStretchText, IsNewText, IsRowsText}
use Rattle.stl_syntax.specs.declared.items.Verdict.{Verdict}
use Rattle.stl_syntax.proofs.LawProofs.{answers_stay}
use Rattle.stl_syntax.proofs.RowsLemmas.{last_from}
use Rattle.rational.specs.Places.{Place, After, Before, Same}
use Rattle.rational.proofs.Tests.{int_order, int_below, int_not_below}
use Rattle.online_nodes.specs.Network.{Front}
use Rattle.online_nodes.specs.Laws.{answered_to}
use Rattle.online_nodes.proofs.RunLaw.{none_is_none}
use Rattle.online_nodes.proofs.StayLaw.{Agree}
use Rattle.verdict_stream.specs.Pendings.{just_after, IsTextOfRow, IsTextOfRows, IsPassed, AreUpTo}
use Rattle.verdict_stream.proofs.CutVerdicts.{Leads, leads_describes, leads_moves, parts_of, of_none, none_up_to, AreParts}
use Rattle.verdict_stream.proofs.WatchedRoot.{front_after, front_push}

-- ---- the times of rows

last_on : (t : ℕ) (before more : List Row) (r : Row) → last_time t (before ++ r ∷ more) ≡ last_time r.time more
last_on t [] more r = refl
last_on t (q ∷ before) more r = last_on q.time before more r

-- a row is later than the one before it, and not later than the last
rises_at : (width t : ℕ) (before more : List Row) (r : Row) → AreRowsAfter width t (before ++ r ∷ more)
    → (last_time t before < r.time) × (t ≤ last_time t before) × (r.time ≤ last_time r.time more)
rises_at width t [] more r h = (h.0, omega arith, last_from width r.time more h.2)
rises_at width t (q ∷ before) more r h =
    let on = rises_at width q.time before more r h.2 in (on.0, omega (arith, h.0, on.1), on.2)

-- and than the last of those before some rows in front of it
rises_over : (width t : ℕ) (before skipped more : List Row) (r : Row) → AreRowsAfter width t ((before ++ skipped) ++ r ∷ more)
    → (last_time t before < r.time) × (t ≤ last_time t before)
rises_over width t [] skipped more r h = let k = rises_at width t skipped more r h in (omega (arith, k.0, k.1), omega arith)
rises_over width t (q ∷ before) skipped more r h =
    let on = rises_over width q.time before skipped more r h.2 in (on.0, omega (arith, h.0, on.1))

module _ (p : Subformula) (header : Header) (all : List Row) (are : AreRows (length header.columns) all) where
  abbrev pub whole_trace : Trace
  whole_trace = record { header = header; rows = all }

  -- what earlier rows answer lies before what a row does, and not before the first of all
  old_of : (r : Row) (b l : ℕ) (o : ℤ) → l < r.time → answered_by b p l ≡ Some o → (o <ℤ (pos r.time -ℤ pos (horizon p))) × (pos b ≤ℤ o)
  old_of r b l o less x = by_test (int_lt (pos l -ℤ pos (horizon p)) (pos b)) refl x
    where
      by_test : (t : Bool) → int_lt (pos l -ℤ pos (horizon p)) (pos b) ≡ t → cond t None (Some (pos l -ℤ pos (horizon p))) ≡ Some o
          → (o <ℤ (pos r.time -ℤ pos (horizon p))) × (pos b ≤ℤ o)
      by_test true e y = absurd (none_is_none o y)
      by_test false e y =
          let same : pos l -ℤ pos (horizon p) ≡ o = same_Some (pos l -ℤ pos (horizon p)) o y in
          let from : pos b ≤ℤ (pos l -ℤ pos (horizon p)) = int_order (pos l -ℤ pos (horizon p)) (pos b) false e in
          (omega (arith, ints), omega (arith, ints))

  -- a row among all: when it comes
  record IsAmong (before more : List Row) (r : Row) : Type 0 where
    begin : first_time (before ++ r ∷ []) ≡ first_time all
    low : first_time all ≤ r.time
    high : r.time ≤ last_time 0 all
    old : (o : ℤ) → front_after p before ≡ Some o → (o <ℤ (pos r.time -ℤ pos (horizon p))) × (pos (first_time all) ≤ℤ o)

  among : (before more : List Row) (r : Row) → all ≡ before ++ r ∷ more → IsAmong before more r
  among before more r e = by_before before e (subst (λ l. AreRows (length header.columns) l) e are)
    where
      by_before : (bs : List Row) → all ≡ bs ++ r ∷ more → AreRows (length header.columns) (bs ++ r ∷ more) → IsAmong bs more r
      by_before [] e h = record {
        begin = sym (ap first_time e);
        low = subst (λ l. first_time l ≤ r.time) (sym e) (omega arith);
        high = subst (λ l. r.time ≤ last_time 0 l) (sym e) (last_from (length header.columns) r.time more h.1);
        old = λ o x. absurd (none_is_none o x);
      }
      by_before (q ∷ bs) e h =
          let rise = rises_at (length header.columns) q.time bs more r h.1 in
          let begin : q.time ≡ first_time all = sym (ap first_time e) in
          record {
            begin = begin;
            low = subst (λ l. first_time l ≤ r.time) (sym e) (omega (arith, rise.0, rise.1));
            high = subst (λ l. r.time ≤ last_time 0 l) (sym e) (subst (λ n. r.time ≤ n) (sym (last_on q.time bs more r)) rise.2);
            old = λ o x. let y = old_of r q.time (last_time q.time bs) o rise.0 x in (y.0, subst (λ n. pos n ≤ℤ o) begin y.1);
          }

  -- within what a row answers the truth is that in all rows
  pub agree_by : (before more : List Row) (r : Row) (g : ℤ) → all ≡ before ++ r ∷ more → g ≡ pos r.time -ℤ pos (horizon p)
      → (t : Rational) → whole (pos (first_time all)) ≤ʳ t → t ≤ʳ whole g → Agree p whole_trace (record { header = header; rows = before ++ r ∷ [] }) t
  agree_by before more r g e is t from to = by_before before e
    where
      within : (n : ℕ) → n ≡ r.time → later (whole g) (horizon p) ≤ʳ whole (pos n)
      within n same =
          let l : (g +ℤ pos (horizon p)) ≤ℤ pos n = omega (arith, ints) in
          record { le = omega (arith, parts) }

      by_rows : (q : Row) (rows : List Row) → all ≡ (q ∷ rows) ++ more → last_time q.time rows ≡ r.time
          → Agree p whole_trace (record { header = header; rows = q ∷ rows }) t
      by_rows q rows e last =
          let cont : Continues whole_trace header (q ∷ rows) false = record {
            same_header = refl;
            more = more;
            begins = e;
            whole_input = λ x. absurd (let y : false ≡ true = x in cc);
          } in
          let both = answers_stay p header q rows whole_trace false t (record { rows = are }) cont (
            subst (λ l. whole (pos (first_time l)) ≤ʳ t) e from,
            le_trans (later_le (horizon p) to) (within (last_time q.time rows) last),
          ) in
          (both.1, both.0)

      by_before : (bs : List Row) → all ≡ bs ++ r ∷ more → Agree p whole_trace (record { header = header; rows = bs ++ r ∷ [] }) t
      by_before [] e = by_rows r [] e refl
      by_before (q ∷ bs) e = by_rows q (bs ++ r ∷ []) (e ∙ sym (append_assoc (q ∷ bs) (r ∷ []) more)) (last_on q.time bs [] r)

  -- what is left of the verdicts once some rows are told: up to what all rows answer
  abbrev pub LeftTo : Front → Front → List Verdict → Type 0
  LeftTo o None left = left ≡ []
  LeftTo o (Some f) left = Leads p whole_trace (answered_to (first_time all) o) left (answered_to (first_time all) (Some f))

  abbrev pub IsLeft : List Row → List Verdict → Type 0
  IsLeft before left = LeftTo (front_after p before) (front_after p all) left

  -- what all rows answer
  all_front : (l : List Row) → AreRows (length header.columns) l → front_after p l ≡ answered_by (first_time l) p (last_time 0 l)
  all_front [] k = absurd k
  all_front (q ∷ l) k = refl

  -- what rows answer that come before some rows in front of a row
  old_over : (before skipped more : List Row) (r : Row) → all ≡ (before ++ skipped) ++ r ∷ more → (o : ℤ) → front_after p before ≡ Some o
      → (o <ℤ (pos r.time -ℤ pos (horizon p))) × (pos (first_time all) ≤ℤ o)
  old_over before skipped more r e = by_before before e (subst (λ l. AreRows (length header.columns) l) e are)
    where
      by_before : (bs : List Row) → all ≡ (bs ++ skipped) ++ r ∷ more → AreRows (length header.columns) ((bs ++ skipped) ++ r ∷ more)
          → (o : ℤ) → front_after p bs ≡ Some o → (o <ℤ (pos r.time -ℤ pos (horizon p))) × (pos (first_time all) ≤ℤ o)
      by_before [] e h = λ o x. absurd (none_is_none o x)
      by_before (q ∷ bs) e h = λ o x.
          let rise = rises_over (length header.columns) q.time bs skipped more r h.1 in
          let begin : q.time ≡ first_time all = sym (ap first_time e) in
          let y = old_of r q.time (last_time q.time bs) o rise.0 x in
          (y.0, subst (λ n. pos n ≤ℤ o) begin y.1)

  -- once what a row and those before it answer was let go of, what is left lies behind it
  pub rows_passed : (before skipped more : List Row) (r : Row) (left mid : List Verdict) → all ≡ (before ++ skipped) ++ r ∷ more
      → IsPassed (horizon p) r.time left mid → IsLeft before left → IsLeft ((before ++ skipped) ++ r ∷ []) mid
  rows_passed before skipped more r left mid e passed rest = by_test (int_lt g (pos b)) refl
    where
      b : ℕ
      b = first_time all

      h : ℕ
      h = horizon p

      g : ℤ
      g = pos r.time -ℤ pos h

      x : IsAmong (before ++ skipped) more r
      x = among (before ++ skipped) more r e

      old : (o : ℤ) → front_after p before ≡ Some o → (o <ℤ g) × (pos b ≤ℤ o)
      old = old_over before skipped more r e

      front_is : (o : Front) → cond (int_lt g (pos b)) None (Some g) ≡ o → front_after p ((before ++ skipped) ++ r ∷ []) ≡ o
      front_is o y = front_push p (before ++ skipped) r ∙ subst (λ n. cond (int_lt g (pos n)) None (Some g) ≡ o) (sym x.begin) y

      -- what the row answers lies below the start
      none_old : int_lt g (pos b) ≡ true → (o : Front) → front_after p before ≡ o → o ≡ None
      none_old y None z = refl
      none_old y (Some o) z = absurd (let k = old o z in let l : g <ℤ pos b = int_order g (pos b) true y in omega (arith, ints, k.0, k.1))

      same_left : int_lt g (pos b) ≡ true → (f : Front) → front_after p all ≡ f → LeftTo (front_after p before) f left → mid ≡ left
      same_left y f z l = by_passed passed f l
        where
          by_passed : IsPassed h r.time left mid → (f : Front) → LeftTo (front_after p before) f left → mid ≡ left
          by_passed (inl (less, same)) f l = same
          by_passed (inr (le, (some, upto))) None l = let k = of_none (subst (λ vs. AreUpTo (r.time - h) vs some mid) l upto) in k.1 ∙ sym l
          by_passed (inr (le, (some, upto))) (Some f) l =
              let low : pos (r.time - h) <ℤ pos b = (let k : g <ℤ pos b = int_order g (pos b) true y in omega (arith, ints, le)) in
              (none_up_to p (answered_to b None) (answered_to b (Some f)) upto
              (subst (λ o. Leads p whole_trace (answered_to b o) left (answered_to b (Some f))) (none_old y (front_after p before) refl) l).tiles
              (inl (lt_whole low))).1

      unseen : int_lt g (pos b) ≡ true → IsLeft ((before ++ skipped) ++ r ∷ []) mid
      unseen y =
          subst (λ o. LeftTo o (front_after p all) mid) (sym (front_is None (ap (λ t. cond t None (Some g)) y)))
          (subst (λ vs. LeftTo None (front_after p all) vs) (sym (same_left y (front_after p all) refl rest))
          (subst (λ o. LeftTo o (front_after p all) left) (none_old y (front_after p before) refl) rest))

      -- what the row answers lies at or after the start
      seen : int_lt g (pos b) ≡ false → h ≤ r.time → (some : List Verdict) → AreUpTo (r.time - h) left some mid
          → IsLeft ((before ++ skipped) ++ r ∷ []) mid
      seen y le some upto =
          subst (λ o. LeftTo o (front_after p all) mid) (sym (front_is (Some g) (ap (λ t. cond t None (Some g)) y)))
          (subst (λ o. LeftTo (Some g) o mid) (sym last_is) (subst (λ z. Leads p whole_trace (answered_to b (Some z)) mid d) same pieces.rest))
        where
          f : ℕ
          f = r.time - h

          same : pos f ≡ g
          same = omega (arith, ints, le)

          from : pos b ≤ℤ g
          from = int_order g (pos b) false y

          last : ℤ
          last = pos (last_time 0 all) -ℤ pos h

          up : g ≤ℤ last
          up = let k = x.high in omega (arith, ints, k)

          last_is : front_after p all ≡ Some last
          last_is = all_front all are ∙ ap (λ t. cond t None (Some last)) (int_not_below last (pos b) (omega (arith, ints, from, up)))

          d : Place
          d = answered_to b (Some last)

          below : (o : Front) → front_after p before ≡ o → Before (answered_to b o) (just_after f)
          below None z = elim (le_or_lt (whole (pos f)) (whole (pos b))) [
            | inl k ↦ inr (same_of_le (le_whole (let l : pos b ≤ℤ pos f = omega (arith, ints, from, same) in l)) k, refl, refl)
            | inr k ↦ inl k
          ]
          below (Some o) z = let k = old o z in inl (lt_whole (let l : o <ℤ pos f = omega (arith, ints, k.0, same) in l))

          high : Before (just_after f) d ⊎ Same (just_after f) d
          high = elim (le_or_lt (whole last) (whole (pos f))) [
            | inl k ↦ inr (same_of_le (le_whole (let l : pos f ≤ℤ last = omega (arith, ints, up, same) in l)) k, refl)
            | inr k ↦ inl (inl k)
          ]

          pieces : AreParts p whole_trace (answered_to b (front_after p before)) f left some mid d
          pieces = parts_of p whole_trace (answered_to b (front_after p before)) d upto (subst (λ o. LeftTo (front_after p before) o left) last_is rest)
              (inl (below (front_after p before) refl)) high

      by_test : (t : Bool) → int_lt g (pos b) ≡ t → IsLeft ((before ++ skipped) ++ r ∷ []) mid
      by_test true y = unseen y
      by_test false y = by_passed passed
        where
          by_passed : IsPassed h r.time left mid → IsLeft ((before ++ skipped) ++ r ∷ []) mid
          by_passed (inl (less, same)) = absurd (let k : pos b ≤ℤ g = int_order g (pos b) false y in omega (arith, ints, less, k))
          by_passed (inr (le, (some, upto))) = seen y le some upto

  -- after a row: its text, and what is left
  record IsOneMore (before : List Row) (r : Row) (here : List ℕ) (mid : List Verdict) : Type 0 where
    text : IsNewText p (record { header = header; rows = before ++ r ∷ [] }) (front_after p before) (answered_by (first_time (before ++ r ∷ [])) p r.time) here
    left : IsLeft (before ++ r ∷ []) mid

  one_row : (before more : List Row) (r : Row) (left mid : List Verdict) (here : List ℕ) → all ≡ before ++ r ∷ more
      → IsTextOfRow header.scale (horizon p) r.time left here mid → IsLeft before left → IsOneMore before r here mid
  one_row before more r left mid here e told rest = by_test (int_lt g (pos b)) refl
    where
      b : ℕ
      b = first_time all

      h : ℕ
      h = horizon p

      g : ℤ
      g = pos r.time -ℤ pos h

      tr : Trace
      tr = record { header = header; rows = before ++ r ∷ [] }

      x : IsAmong before more r
      x = among before more r e

      new_is : (o : Front) → cond (int_lt g (pos b)) None (Some g) ≡ o → answered_by (first_time (before ++ r ∷ [])) p r.time ≡ o
      new_is o y = subst (λ n. cond (int_lt g (pos n)) None (Some g) ≡ o) (sym x.begin) y

      -- what the row answers lies below the start
      none_old : int_lt g (pos b) ≡ true → (o : Front) → front_after p before ≡ o → o ≡ None
      none_old y None z = refl
      none_old y (Some o) z =
          absurd (let k = x.old o z in let l : g <ℤ pos b = int_order g (pos b) true y in omega (arith, ints, k.0, k.1))

      silent : int_lt g (pos b) ≡ true → (f : Front) → front_after p all ≡ f → LeftTo (front_after p before) f left → here ≡ []
      silent y f z l = by_told told f l
        where
          by_lines : (some : List Verdict) → some ≡ [] → AreVerdictLines header.scale some here → here ≡ []
          by_lines some none lines = subst (λ vs. AreVerdictLines header.scale vs here) none lines

          by_told : IsTextOfRow header.scale h r.time left here mid → (f : Front) → LeftTo (front_after p before) f left → here ≡ []
          by_told (inl (less, none, same)) f l = none
          by_told (inr (le, (some, upto, lines))) None l =
              by_lines some (of_none (subst (λ vs. AreUpTo (r.time - h) vs some mid) l upto)).0 lines
          by_told (inr (le, (some, upto, lines))) (Some f) l =
              let low : pos (r.time - h) <ℤ pos b = (let k : g <ℤ pos b = int_order g (pos b) true y in omega (arith, ints, le)) in
              let k = none_up_to p (answered_to b None) (answered_to b (Some f)) upto
              (subst (λ o. Leads p whole_trace (answered_to b o) left (answered_to b (Some f))) (none_old y (front_after p before) refl) l).tiles
              (inl (lt_whole low)) in
              by_lines some k.0 lines

      passed : IsTextOfRow header.scale h r.time left here mid → IsPassed h r.time left mid
      passed (inl (less, none, same)) = inl (less, same)
      passed (inr (le, (some, upto, lines))) = inr (le, (some, upto))

      left_of : IsLeft (before ++ r ∷ []) mid
      left_of = subst (λ l. IsLeft (l ++ r ∷ []) mid) (append-nil before)
          (rows_passed before [] more r left mid (e ∙ ap (λ l. l ++ r ∷ more) (sym (append-nil before))) (passed told) rest)

      unseen : int_lt g (pos b) ≡ true → IsOneMore before r here mid
      unseen y = record {
        text = subst (λ o. IsNewText p tr (front_after p before) o here) (sym (new_is None (ap (λ t. cond t None (Some g)) y)))
            (silent y (front_after p all) refl rest);
        left = left_of;
      }

      -- what the row answers lies at or after the start
      seen : int_lt g (pos b) ≡ false → (le : h ≤ r.time) → (some : List Verdict) → AreUpTo (r.time - h) left some mid → AreVerdictLines header.scale some here
          → IsOneMore before r here mid
      seen y le some upto lines = record { text = text_of; left = left_of }
        where
          f : ℕ
          f = r.time - h

          same : pos f ≡ g
          same = omega (arith, ints, le)

          from : pos b ≤ℤ g
          from = int_order g (pos b) false y

          last : ℤ
          last = pos (last_time 0 all) -ℤ pos h

          up : g ≤ℤ last
          up = let k = x.high in omega (arith, ints, k)

          last_is : front_after p all ≡ Some last
          last_is = all_front all are ∙ ap (λ t. cond t None (Some last)) (int_not_below last (pos b) (omega (arith, ints, from, up)))

          now : Some g ≡ answered_by (first_time (before ++ r ∷ [])) p r.time
          now = sym (new_is (Some g) (ap (λ t. cond t None (Some g)) y))

          c : Place
          c = answered_to b (front_after p before)

          d : Place
          d = answered_to b (Some last)

          below : (o : Front) → front_after p before ≡ o → Before (answered_to b o) (just_after f)
          below None z = elim (le_or_lt (whole (pos f)) (whole (pos b))) [
            | inl k ↦ inr (same_of_le (le_whole (let l : pos b ≤ℤ pos f = omega (arith, ints, from, same) in l)) k, refl, refl)
            | inr k ↦ inl k
          ]
          below (Some o) z = let k = x.old o z in inl (lt_whole (let l : o <ℤ pos f = omega (arith, ints, k.0, same) in l))

          high : Before (just_after f) d ⊎ Same (just_after f) d
          high = elim (le_or_lt (whole last) (whole (pos f))) [
            | inl k ↦ inr (same_of_le (le_whole (let l : pos f ≤ℤ last = omega (arith, ints, up, same) in l)) k, refl)
            | inr k ↦ inl (inl k)
          ]

          pieces : AreParts p whole_trace c f left some mid d
          pieces = parts_of p whole_trace c d upto (subst (λ o. LeftTo (front_after p before) o left) last_is rest)
              (inl (below (front_after p before) refl)) high

          after_begin : (o : Front) → front_after p before ≡ o → (t : Rational) → After (answered_to b o) t → whole (pos b) ≤ʳ t
          after_begin None z t a = a
          after_begin (Some o) z t a = le_trans (le_whole (x.old o z).1) (le_of_lt a)

          first : Leads p tr c some (just_after f)
          first = leads_moves p whole_trace tr c (just_after f) some
              (λ t a u. agree_by before more r g e refl t (after_begin (front_after p before) refl t a) (subst (λ z. t ≤ʳ whole z) same u)) pieces.first

          new_text : (o : Front) → front_after p before ≡ o → Leads p tr (answered_to b o) some (just_after f) → IsNewText p tr o (Some (pos f)) here
          new_text None z l = (
            some,
            subst (λ n. Describes some p tr (closed (whole (pos n)) (whole (pos f)))) (sym x.begin)
                (leads_describes p tr (closed (whole (pos b)) (whole (pos f))) some l (below None z)),
            lines,
          )
          new_text (Some o) z l =
              let k = x.old o z in
              let rise : int_lt o (pos f) ≡ true = int_below o (pos f) (omega (arith, ints, k.0, same)) in
              subst (λ t. MatchBool t (IsStretchText p tr (left_open (whole o) (whole (pos f))) here) (here ≡ [])) (sym rise)
              (some, leads_describes p tr (left_open (whole o) (whole (pos f))) some l (below (Some o) z), lines)

          text_of : IsNewText p tr (front_after p before) (answered_by (first_time (before ++ r ∷ [])) p r.time) here
          text_of = subst (λ o. IsNewText p tr (front_after p before) o here) now
              (subst (λ z. IsNewText p tr (front_after p before) (Some z) here) same (new_text (front_after p before) refl first))

      by_test : (t : Bool) → int_lt g (pos b) ≡ t → IsOneMore before r here mid
      by_test true y = unseen y
      by_test false y = by_told told
        where
          by_told : IsTextOfRow header.scale h r.time left here mid → IsOneMore before r here mid
          by_told (inl (less, none, same)) = absurd (let k : pos b ≤ℤ g = int_order g (pos b) false y in omega (arith, ints, less, k))
          by_told (inr (le, (some, upto, lines))) = seen y le some upto lines

  -- the rows' texts in turn, and what is left after them
  pub record AreCut (before owed : List Row) (text : List ℕ) (rest : List Verdict) : Type 0 where
    -- the text is that of the rows in turn
    pub text_is : IsRowsText (IsNewText p) p header before (front_after p before) owed text
    -- and what is left lies behind them
    pub left : IsLeft (before ++ owed) rest

  -- cut row by row, what the root gave out is the text of the rows
  pub rows_cut : (before owed : List Row) (left rest : List Verdict) (text : List ℕ) → all ≡ before ++ owed
      → IsTextOfRows header.scale (horizon p) (map (λ (r : Row). r.time) owed) left text rest → IsLeft before left → AreCut before owed text rest
  rows_cut before [] left rest text e (none, same) l = record {
    text_is = none;
    left = subst (λ rs. IsLeft rs rest) (sym (append-nil before)) (subst (λ vs. IsLeft before vs) (sym same) l);
  }
  rows_cut before (r ∷ more) left rest text e (here, later, mid, first, others, is) l =
      let one = one_row before more r left mid here e first l in
      let front : front_after p (before ++ r ∷ []) ≡ answered_by (first_time (before ++ r ∷ [])) p r.time = front_push p before r in
      let next = rows_cut (before ++ r ∷ []) more mid rest later (e ∙ sym (append_assoc before (r ∷ []) more)) others one.left in
      record {
        text_is = (
          here,
          later,
          one.text,
          subst (λ o. IsRowsText (IsNewText p) p header (before ++ r ∷ []) o more later) front next.text_is,
          is,
        );
        left = subst (λ rs. IsLeft rs rest) (append_assoc before (r ∷ []) more) next.left;
      }
