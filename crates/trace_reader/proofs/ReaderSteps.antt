-- What a reader stands for after more bytes of a line, after its LF, and at the end.
use Rattle.std.proofs.Common.{◌≡◌, ℕ, inl, inr, zero, suc, ◌+◌, ◌-◌, ◌<◌, take, ◌≤◌, Bool, true, false, List, [], ◌∷◌}
use Rattle.std.proofs.Common.{◌++◌, length, refl, sym, ap, ◌∙◌, subst, arith, Option, Some, None, append_assoc, add-one}
use Rattle.std.specs.Prelude.{Ok, Err, IsSome}
use Rattle.std.proofs.lemmas.List.{append-nil, length_push, length-append, same_from_push, take_at}
use Rattle.std.proofs.lemmas.List.Elements.{All-nil, All-append, All-push}
use Rattle.std.proofs.lemmas.Bool.{false≢true}
use Rattle.stl_syntax.specs.Choice.{◌or_else◌, Where}
use Rattle.stl_syntax.specs.Trace.{Row, last_time, IsInRange, AreRowsAfter}
use Rattle.stl_syntax.specs.declared.scale.Scale.{Scale}
use Rattle.stl_syntax.proofs.RowsLemmas.{last_time-push}
use Rattle.trace_reader.specs.TraceText.{Line, lines, fields, Heading, scale_of, AreTraceLines, TraceOf, none}
use Rattle.trace_reader.specs.TraceRefusals.{RowFault, FaultFrom, IsFirstFault, HasTrace}
use Rattle.trace_reader.specs.Sofar.{AreRowsSoFar}
use Rattle.trace_reader.specs.Cut.{begun_after}
use Rattle.trace_reader.specs.Feeds.{HasNoFeed, rows_after}
use Rattle.trace_reader.specs.Progress.{Progress, last_of, ReadsLine, blank, heading, row, bad_heading, bad_row}
use Rattle.trace_reader.specs.Reader.{Reader, StandsFor, HasTaken, GoesOn, FaultsOn, ReadsOn, AreRising}
use Rattle.trace_reader.specs.Reader.{IsFaultOfAll, HoldLines, HasReadBefore, IsNextRow, header_of, last_seen}
use Rattle.trace_reader.specs.LineReader.{made, IsLineRefusal, HasEnded}
use Rattle.trace_reader.specs.declared.refusal.Limits.{Limits}
use Rattle.trace_reader.specs.declared.refusal.TraceRefusal.{TraceRefusal}
use Rattle.trace_reader.specs.declared.refusal.TraceKind.{TraceKind}
use Rattle.trace_reader.specs.declared.refusal.TraceKind.TheVariants.{TooManyLines, LineTooLong, Empty, NoRows}
use Rattle.trace_reader.specs.declared.event.Event.{Event}
use Rattle.trace_reader.specs.declared.event.Event.TheVariants.{Nothing, Header as IsTheHeader, Row as IsARow}
use Rattle.trace_reader.proofs.LineLemmas.{done, rest, lines-nil, lines-rest, lines-append, lines-line}
use Rattle.trace_reader.proofs.OpenLines.{grows}
use Rattle.trace_reader.proofs.TraceLemmas.{last_row}
use Rattle.trace_reader.proofs.LineLemmas.{begun-going, begun-closed}
use Rattle.trace_reader.proofs.TraceLemmas.{sofar-push, sofar-some}
use Rattle.trace_reader.proofs.GoesOnLemmas.{line_bad, heading_bad, row_bad, goes_blank, goes_heading, goes_row, goes_start, rest_sound, reads_so_far}

rest_some : (ended : Bool) (text : List ℕ) → 0 < length text → rest ended text ≡ record { bytes = text; whole = ended } ∷ []
rest_some ended [] h = absurd (omega (arith, h))
rest_some ended (c ∷ cs) h = refl

-- the lines by their parts
module _ (r : Reader) (bytes : List ℕ) (rows : List Row) (t : HasTaken r bytes rows) where
  -- the lines of the bytes
  pub lines_now : (e : Bool) → lines e bytes ≡ t.front ++ rest e r.line
  lines_now e =
      sym (ap (lines e) (append-nil bytes)) ∙ (t.joins e [] ∙ ap (λ ls. t.front ++ ls) (ap (lines e) (append-nil r.line) ∙ lines-rest e r.line t.free))

  -- more bytes leave the whole lines
  pub joins_on : (e : Bool) (part more : List ℕ) → lines e ((bytes ++ part) ++ more) ≡ t.front ++ lines e ((r.line ++ part) ++ more)
  joins_on e part more =
      ap (lines e) (append_assoc bytes part more) ∙ (t.joins e (part ++ more) ∙ ap (λ ls. t.front ++ ls) (ap (lines e) (sym (append_assoc r.line part more))))

  -- with an LF the line is whole
  joins_closed : (e : Bool) (part more : List ℕ) → HasNoFeed part
      → lines e ((bytes ++ (part ++ 10 ∷ [])) ++ more) ≡ t.front ++ (done (r.line ++ part) ∷ lines e more)
  joins_closed e part more free =
      let text = r.line ++ part in
      let a : (r.line ++ (part ++ 10 ∷ [])) ++ more ≡ text ++ (10 ∷ more) =
      ap (λ u. u ++ more) (sym (append_assoc r.line part (10 ∷ []))) ∙ append_assoc text (10 ∷ []) more in
      joins_on e (part ++ 10 ∷ []) more
      ∙ ap (λ ls. t.front ++ ls) (ap (lines e) a
      ∙ (lines-append e text more ∙ ap (λ ls. ls ++ lines e more) (lines-line text (All-append (λ c. c ≡ 10 → ⊥) r.line part t.free free))))

  -- how many were begun
  pub begun_now : r.begun ≡ length (t.front ++ rest false r.line)
  begun_now = t.begun ∙ ap length (lines_now false)

  -- a reader with these parts stands for the bytes
  pub stands : r.begun ≤ r.limits.lines → length r.line ≤ 4096 → (r.refusal ≡ None) × (r.ended ≡ false) → StandsFor r bytes rows
  stands few short o = record {
    read = reads_so_far r.limits r.least t.front r.heading rows t.goes_on bytes r.line (lines_now false);
    sound = λ x f. rest_sound r.limits r.least r.heading rows (suc (length t.front)) r.line some short x
        (t.goes_on.only false (rest false r.line) x (subst (λ ls. FaultFrom r.limits r.least false 1 ls x) (lines_now false) f));
    taken = t;
    open_end = o;
  }
    where
      some : 0 < length r.line → suc (length t.front) ≤ r.limits.lines
      some l =
          let e : length (t.front ++ rest false r.line) ≡ length t.front + 1 =
          ap (λ ls. length (t.front ++ ls)) (rest_some false r.line l) ∙ length_push t.front (record { bytes = r.line; whole = false }) in
          omega (arith, begun_now, e, few)

-- the whole lines hold the heading and the rows
held : {limits : Limits} {least : Scale} {front : List Line} (heading : Option Heading) {rows : List Row} → GoesOn limits least front heading rows
    → HoldLines heading least front rows
held None g = g.blank refl
held {least = least} {front} (Some h) {rows} g =
    let all : AreTraceLines least (front ++ []) (header_of least h) (rows ++ []) = g.reads [] (header_of least h) [] (refl, none) in
    subst (λ ls. AreTraceLines least ls (header_of least h) rows) (append-nil front)
    (subst (λ rs. AreTraceLines least (front ++ []) (header_of least h) rs) (append-nil rows) all)

-- what was read stands before the line after the whole lines
pub read_before : (r : Reader) (bytes : List ℕ) (rows : List Row) (t : HasTaken r bytes rows) (part : List ℕ) (n : ℕ) → n ≡ suc (length t.front)
    → HasReadBefore n r.heading r.least (bytes ++ part) rows
read_before r bytes rows t part n e more ended =
    let others = lines ended ((r.line ++ part) ++ more) in
    let front : take (n - 1) (lines ended ((bytes ++ part) ++ more)) ≡ t.front =
    ap (take (n - 1)) (joins_on r bytes rows t ended part more) ∙ take_at t.front others (n - 1) (omega (arith, e)) in
    subst (λ ls. HoldLines r.heading r.least ls rows) (sym front) (held r.heading t.goes_on)

-- the time of the last row
seen_push : (rows : List Row) (r : Row) → last_seen (rows ++ r ∷ []) ≡ Some r.time
seen_push [] r = refl
seen_push (s ∷ rows) r = ap Some (last_time-push s.time rows r)

last_counted : (count : ℕ) (r : Row) (t : ℕ) → 0 < count → r.time ≡ t → last_of count r ≡ Some t
last_counted zero r t l e = absurd (omega (arith, l))
last_counted (suc n) r t l e = ap Some e

last_same : (count : ℕ) (r : Row) (rows : List Row) → count ≡ length rows
    → ((before : List Row) (x : Row) → rows ≡ before ++ x ∷ [] → r ≡ x) → last_of count r ≡ last_seen rows
last_same count r [] n last = ap (λ c. last_of c r) n
last_same count r (y ∷ rows) n last =
    let (before, x, e) = last_row (y ∷ rows) (omega arith) in
    last_counted count r x.time (omega (arith, n)) (ap (λ (z : Row). z.time) (last before x e)) ∙ (sym (seen_push before x) ∙ ap last_seen (sym e))

last_before : (count : ℕ) (r : Row) (rows : List Row) → ((before : List Row) (x : Row) → rows ≡ before ++ x ∷ [] → r ≡ x)
    → 0 < length rows → last_time 0 rows ≡ r.time
last_before count r rows last some =
    let (before, x, e) = last_row rows some in
    ap (last_time 0) e ∙ (last_time-push 0 before x ∙ ap (λ (z : Row). z.time) (sym (last before x e)))

abbrev IsRange : Row → Type 0
IsRange r = IsInRange r

module _ (limits : Limits) (old : Progress) (begun : ℕ) (line bytes : List ℕ) (rows : List Row) (t : HasTaken (made limits old begun line) bytes rows) where
  -- more bytes of the line
  pub taken_going : (part : List ℕ) → HasNoFeed part → HasTaken (made limits old (begun_after begun line (length part)) (line ++ part)) (bytes ++ part) rows
  taken_going part free = record {
    front = t.front;
    free = All-append (λ c. c ≡ 10 → ⊥) line part t.free free;
    joins = λ e more. joins_on (made limits old begun line) bytes rows t e part more;
    goes_on = t.goes_on;
    begun = begun-going t.front begun line part (begun_now (made limits old begun line) bytes rows t) ∙ sym (ap length going);
    count = t.count;
    last = t.last;
    rising = t.rising;
    range = t.range;
  }
    where
      going : lines false (bytes ++ part) ≡ t.front ++ rest false (line ++ part)
      going = sym (ap (lines false) (append-nil (bytes ++ part)))
          ∙ (joins_on (made limits old begun line) bytes rows t false part []
          ∙ ap (λ ls. t.front ++ ls)
          (ap (lines false) (append-nil (line ++ part)) ∙ lines-rest false (line ++ part) (All-append (λ c. c ≡ 10 → ⊥) line part t.free free)))

  module _ (part : List ℕ) (free : HasNoFeed part) where
    abbrev text : List ℕ
    text = line ++ part

    abbrev taken_bytes : List ℕ
    taken_bytes = bytes ++ (part ++ 10 ∷ [])

    closed : (e : Bool) (more : List ℕ) → lines e (taken_bytes ++ more) ≡ t.front ++ (done text ∷ lines e more)
    closed e more = joins_closed (made limits old begun line) bytes rows t e part more free

    closed_joins : (e : Bool) (more : List ℕ) → lines e (taken_bytes ++ more) ≡ (t.front ++ done text ∷ []) ++ lines e more
    closed_joins e more = closed e more ∙ sym (append_assoc t.front (done text ∷ []) (lines e more))

    -- the lines begun once the LF came
    pub closed_begun : begun_after begun line (length part + 1) ≡ length (t.front ++ done text ∷ [])
    closed_begun = begun-closed t.front begun (length part) line text (begun_now (made limits old begun line) bytes rows t)

    -- and how many lines the bytes have
    pub closed_count : begun_after begun line (length part + 1) ≡ length (lines false taken_bytes)
    closed_count = closed_begun ∙ sym (ap length (sym (ap (lines false) (append-nil taken_bytes))
        ∙ (closed_joins false [] ∙ (ap (λ ls. (t.front ++ done text ∷ []) ++ ls) (lines-nil false) ∙ append-nil (t.front ++ done text ∷ [])))))

    -- the line that the LF ends comes after the whole lines
    pub number : begun_after begun line (length part + 1) ≡ suc (length t.front)
    number = closed_begun ∙ (length_push t.front (done text) ∙ add-one (length t.front))

    module _ (few : begun_after begun line (length part + 1) ≤ limits.lines) (short : length line + length part ≤ 4096) where
      few_front : suc (length t.front) ≤ limits.lines
      few_front = omega (arith, number, few)

      short_text : length text ≤ 4096
      short_text = omega (arith, length-append line part, short)

      -- its LF, where the line has no fault
      pub taken_closed : (new : Progress) (e : Event) → ReadsLine limits text old new (Ok e)
          → HasTaken (made limits new (begun_after begun line (length part + 1)) []) taken_bytes (rows_after e rows new.row)
      taken_closed new e (blank b same) = record {
        front = t.front ++ done text ∷ [];
        free = All-nil (λ c. c ≡ 10 → ⊥);
        joins = closed_joins;
        goes_on = subst (λ (p : Progress). GoesOn limits p.least (t.front ++ done text ∷ []) p.heading rows) (sym same)
            (goes_blank limits old.least t.front text few_front short_text old.heading rows t.goes_on b);
        begun = closed_count;
        count = ap (λ (p : Progress). p.count) same ∙ t.count;
        last = λ before x w. ap (λ (p : Progress). p.row) same ∙ t.last before x w;
        rising = subst (λ (p : Progress). AreRising p.heading rows) (sym same) t.rising;
        range = t.range;
      }
      taken_closed new e (heading h b n is sound same) =
          let none_yet : rows ≡ [] = (t.goes_on.blank n).1 in
          let g : GoesOn limits old.least t.front None [] =
          subst (λ rs. GoesOn limits old.least t.front None rs) none_yet (subst (λ o. GoesOn limits old.least t.front o rows) n t.goes_on) in
          record {
            front = t.front ++ done text ∷ [];
            free = All-nil (λ c. c ≡ 10 → ⊥);
            joins = closed_joins;
            goes_on = subst (λ (p : Progress). GoesOn limits p.least (t.front ++ done text ∷ []) p.heading rows) (sym same)
                (subst (λ rs. GoesOn limits old.least (t.front ++ done text ∷ []) (Some h) rs) (sym none_yet)
                (goes_heading limits old.least t.front text few_front short_text g b h is sound));
            begun = closed_count;
            count = ap (λ (p : Progress). p.count) same ∙ t.count;
            last = λ before x w. ap (λ (p : Progress). p.row) same ∙ t.last before x w;
            rising = subst (λ (p : Progress). AreRising p.heading rows) (sym same) (subst (λ rs. AreRowsSoFar (length h.columns) rs) (sym none_yet) tt);
            range = t.range;
          }
      taken_closed new e (row h b n is sound range width up room same) =
          let g : GoesOn limits old.least t.front (Some h) rows = subst (λ o. GoesOn limits old.least t.front o rows) n t.goes_on in
          let seen : last_of old.count old.row ≡ last_seen rows = last_same old.count old.row rows t.count t.last in
          let sound' = subst (λ l. (k : TraceKind) → ¬ RowFault limits (scale_of old.least h) h (length rows) l (fields (done text)) k) seen
          (subst (λ c. (k : TraceKind) → ¬ RowFault limits (scale_of old.least h) h c (last_of old.count old.row) (fields (done text)) k) t.count sound) in
          let r = new.row in
          let size : length (rows ++ r ∷ []) ≡ length rows + 1 = length_push rows r in
          let counted : new.count ≡ old.count + 1 = ap (λ (p : Progress). p.count) same in
          let headed : new.heading ≡ Some h = ap (λ (p : Progress). p.heading) same ∙ n in
          let rising : AreRowsSoFar (length h.columns) rows = subst (λ o. AreRising o rows) n t.rising in
          record {
            front = t.front ++ done text ∷ [];
            free = All-nil (λ c. c ≡ 10 → ⊥);
            joins = closed_joins;
            goes_on = subst (λ o. GoesOn limits new.least (t.front ++ done text ∷ []) o (rows ++ r ∷ [])) (sym headed)
                (subst (λ (p : Progress). GoesOn limits p.least (t.front ++ done text ∷ []) (Some h) (rows ++ r ∷ [])) (sym same)
                (goes_row limits old.least t.front text few_front short_text h rows g b r is sound'));
            begun = closed_count;
            count = omega (arith, counted, size, t.count);
            last = λ before x w. (same_from_push rows before r x w).1;
            rising = subst (λ o. AreRising o (rows ++ r ∷ [])) (sym headed) (sofar-push (length h.columns) rows r rising
                (λ some. subst (λ m. m < r.time) (sym (last_before old.count old.row rows t.last some)) (up (omega (arith, some, t.count)))) width);
            range = All-push IsRange rows r t.range range;
          }

      -- or where it has one
      pub refused_line : (new : Progress) (x : TraceRefusal) → x.line ≡ begun_after begun line (length part + 1) → ReadsLine limits text old new (Err x.kind)
          → IsFaultOfAll limits old.least taken_bytes x
      refused_line new x at (bad_heading k b n f same) more ended =
          subst (λ ls. FaultFrom limits old.least ended 1 ls x) (sym (closed ended more)) (t.goes_on.faults ended (done text ∷ lines ended more) x
          (subst (λ o. FaultsOn limits old.least o rows ended (suc (length t.front)) (done text ∷ lines ended more) x) (sym n)
          (heading_bad limits old.least ended (suc (length t.front)) text (lines ended more) x few_front short_text b rows (at ∙ number) f)))
      refused_line new x at (bad_row h k b n f same) more ended =
          let seen : last_of old.count old.row ≡ last_seen rows = last_same old.count old.row rows t.count t.last in
          let f' = subst (λ l. RowFault limits (scale_of old.least h) h (length rows) l (fields (done text)) x.kind) seen
          (subst (λ c. RowFault limits (scale_of old.least h) h c (last_of old.count old.row) (fields (done text)) x.kind) t.count f) in
          subst (λ ls. FaultFrom limits old.least ended 1 ls x) (sym (closed ended more)) (t.goes_on.faults ended (done text ∷ lines ended more) x
          (subst (λ o. FaultsOn limits old.least o rows ended (suc (length t.front)) (done text ∷ lines ended more) x) (sym n)
          (row_bad limits old.least ended (suc (length t.front)) text (lines ended more) x few_front short_text b h rows (at ∙ number) f')))

    -- a limit broken before the LF
    pub closed_breaks : (x : TraceRefusal) → IsLineRefusal limits (begun_after begun line (length part + 1))
        (length line + length part) x → IsFaultOfAll limits old.least taken_bytes x
    closed_breaks x (at, f) more ended =
        subst (λ ls. FaultFrom limits old.least ended 1 ls x) (sym (closed ended more)) (t.goes_on.faults ended (done text ∷ lines ended more) x
        (line_bad limits old.least old.heading rows ended (suc (length t.front)) (done text) (lines ended more) x (
          at ∙ number,
          subst (λ n. (Where (limits.lines < suc (length t.front)) TooManyLines or_else Where (4096 < n) LineTooLong) x.kind) (sym (length-append line part))
              (subst (λ n. (Where (limits.lines < n) TooManyLines or_else Where (4096 < (length line + length part)) LineTooLong) x.kind) number f),
        )))

  -- so does a line that goes on
  pub number_going : (part : List ℕ) → HasNoFeed part → 0 < length (line ++ part) → begun_after begun line (length part) ≡ suc (length t.front)
  number_going part free some =
      begun-going t.front begun line part (begun_now (made limits old begun line) bytes rows t)
      ∙ (ap (λ ms. length (t.front ++ ms)) (rest_some false (line ++ part) some)
      ∙ (length_push t.front (record { bytes = line ++ part; whole = false }) ∙ add-one (length t.front)))

  -- a line that breaks a limit has a byte
  pub broken_some : (part : List ℕ) → begun ≤ limits.lines → (k : TraceKind)
      → (Where (limits.lines < begun_after begun line (length part)) TooManyLines or_else Where (4096 < (length line + length part)) LineTooLong) k
      → 0 < length (line ++ part)
  broken_some part few k f = by_fault line part f
    where
      by_fault : (xs ys : List ℕ)
          → (Where (limits.lines < begun_after begun xs (length ys)) TooManyLines or_else Where (4096 < (length xs + length ys)) LineTooLong)
          k → 0 < length (xs ++ ys)
      by_fault [] [] (inl a) = absurd (omega (arith, few, a.0))
      by_fault [] [] (inr a) = absurd (omega (arith, a.1.0))
      by_fault [] (b ∷ bs) a = omega arith
      by_fault (c ∷ cs) bs a = omega arith

  -- a limit broken by a line that goes on
  pub going_breaks : (part : List ℕ) → HasNoFeed part → begun ≤ limits.lines → length line ≤ 4096 → (x : TraceRefusal)
      → IsLineRefusal limits (begun_after begun line (length part)) (length line + length part) x → IsFaultOfAll limits old.least (bytes ++ part) x
  going_breaks part free few short x (at, f) more ended =
      let some : 0 < length (line ++ part) = broken_some part few x.kind f in
      let (l, ls, e, n) = grows ended (line ++ part) more (All-append (λ c. c ≡ 10 → ⊥) line part t.free free) some in
      let size : length (line ++ part) ≡ length line + length part = length-append line part in
      let number : begun_after begun line (length part) ≡ suc (length t.front) = number_going part free some in
      let grown : (Where (limits.lines < suc (length t.front)) TooManyLines or_else Where (4096 < length l.bytes) LineTooLong) x.kind =
      larger (limits.lines < suc (length t.front)) (length line + length part) (length l.bytes) (omega (arith, n, size)) x.kind
      (subst (λ m. (Where (limits.lines < m) TooManyLines or_else Where (4096 < (length line + length part)) LineTooLong) x.kind) number f) in
      subst (λ ms. FaultFrom limits old.least ended 1 ms x)
      (sym (joins_on (made limits old begun line) bytes rows t ended part more ∙ ap (λ ms. t.front ++ ms) e))
      (t.goes_on.faults ended (l ∷ ls) x (line_bad limits old.least old.heading rows ended (suc (length t.front)) l ls x (at ∙ number, grown)))
    where
      larger : (P : Type 0) (m n : ℕ) → m ≤ n → (k : TraceKind) → (Where P TooManyLines or_else Where (4096 < m) LineTooLong) k
          → (Where P TooManyLines or_else Where (4096 < n) LineTooLong) k
      larger P m n l k (inl a) = inl a
      larger P m n l k (inr (no_p, (b, e))) = inr (no_p, (omega (arith, l, b), e))

-- a reader that took nothing
pub taken_start : (limits : Limits) (p : Progress) → p.heading ≡ None → p.count ≡ 0 → HasTaken (made limits p 0 []) [] []
taken_start limits p n z = record {
  front = [];
  free = All-nil (λ c. c ≡ 10 → ⊥);
  joins = λ e more. refl;
  goes_on = subst (λ o. GoesOn limits p.least [] o []) (sym n) (goes_start limits p.least);
  begun = sym (ap length (lines-nil false));
  count = z;
  last = λ before x w. absurd (omega (arith, ap length w, length_push before x));
  rising = subst (λ o. AreRising o []) (sym n) refl;
  range = All-nil IsRange;
}

-- the bytes may end between lines
pub ended_between : (limits : Limits) (p : Progress) (begun : ℕ) (bytes : List ℕ) (rows : List Row)
    → HasTaken (made limits p begun []) bytes rows → HasEnded limits p begun bytes rows
ended_between limits p begun bytes rows t = record {
  before = bytes;
  taken = t;
  all_lines = lines_now (made limits p begun []) bytes rows t true ∙ append-nil t.front;
}

-- or with a line that has no LF
module _ (limits : Limits) (old : Progress) (begun : ℕ) (line bytes : List ℕ) (rows : List Row)
    (t : HasTaken (made limits old begun line) bytes rows) (some : 0 < length line) where
  last_lines : lines true bytes ≡ t.front ++ done line ∷ []
  last_lines = lines_now (made limits old begun line) bytes rows t true ∙ ap (λ ls. t.front ++ ls) (rest_some true line some)

  no_feed : HasNoFeed []
  no_feed = All-nil (λ c. c ≡ 10 → ⊥)

  counted : begun_after begun line (length {A = ℕ} [] + 1) ≡ begun
  counted = by_line line some
    where
      by_line : (l : List ℕ) → 0 < length l → begun_after begun l (length {A = ℕ} [] + 1) ≡ begun
      by_line [] s = absurd (omega (arith, s))
      by_line (c ∷ cs) s = refl

  module _ (few : begun ≤ limits.lines) (short : length line ≤ 4096) where
    few' : begun_after begun line (length {A = ℕ} [] + 1) ≤ limits.lines
    few' = omega (arith, counted, few)

    short' : length line + length {A = ℕ} [] ≤ 4096
    short' = omega (arith, short)

    -- the bytes may end after a last line without a fault
    pub ended_closed : (new : Progress) (e : Event) → ReadsLine limits (line ++ []) old new (Ok e) → HasEnded limits new begun bytes (rows_after e rows new.row)
    unfolding taken_closed
    ended_closed new e read =
        let u = taken_closed limits old begun line bytes rows t [] no_feed few' short' new e read in
        let v : HasEnded limits new (begun_after begun line (length {A = ℕ} [] + 1)) bytes (rows_after e rows new.row) = record {
          before = bytes ++ ([] ++ 10 ∷ []);
          taken = u;
          all_lines = last_lines ∙ (ap (λ l. t.front ++ done l ∷ []) (sym (append-nil line)) ∙ sym (front_same new e read));
        } in
        subst (λ b. HasEnded limits new b bytes (rows_after e rows new.row)) counted v
      where
        front_same : (new : Progress) (e : Event) (read : ReadsLine limits (line ++ []) old new (Ok e))
            → (taken_closed limits old begun line bytes rows t [] no_feed few' short' new e read).front ≡ t.front ++ done (line ++ []) ∷ []
        front_same new e (blank b same) = refl
        front_same new e _ = refl

    -- or with one
    pub ended_bad : (new : Progress) (x : TraceRefusal) → x.line ≡ begun → ReadsLine limits (line ++ []) old new (Err x.kind)
        → IsFirstFault bytes true limits old.least x
    ended_bad new x at read =
        let f = refused_line limits old begun line bytes rows t [] no_feed few' short' new x (at ∙ sym counted) read [] true in
        let same : lines true ((bytes ++ ([] ++ 10 ∷ [])) ++ []) ≡ lines true bytes =
        joins_closed (made limits old begun line) bytes rows t true [] [] no_feed
        ∙ (ap (λ ls. t.front ++ (done (line ++ []) ∷ ls)) (lines-nil true) ∙ (ap (λ l. t.front ++ done l ∷ []) (append-nil line) ∙ sym last_lines)) in
        subst (λ ls. FaultFrom limits old.least true 1 ls x) same f

-- all lines were read
module _ (limits : Limits) (p : Progress) (begun : ℕ) (bytes : List ℕ) (rows : List Row) (h : HasEnded limits p begun bytes rows) where
  whole_front : h.taken.front ++ [] ≡ lines true bytes
  whole_front = append-nil h.taken.front ∙ sym h.all_lines

  last_number : begun ≡ length h.taken.front
  last_number =
      h.taken.begun ∙ (ap length (lines_now (made limits p begun []) h.before rows h.taken false) ∙ ap length (append-nil h.taken.front))

  -- without a header the whole is empty
  pub no_header : p.heading ≡ None → (x : TraceRefusal) → x.line ≡ begun → x.kind ≡ Empty → IsFirstFault bytes true limits p.least x
  no_header n x at is =
      subst (λ ls. FaultFrom limits p.least true 1 ls x) whole_front (h.taken.goes_on.faults true [] x
      (subst (λ o. FaultsOn limits p.least o rows true (suc (length h.taken.front)) [] x) (sym n) (omega (arith, at, last_number), (refl, is))))

  module _ (g : Heading) (n : p.heading ≡ Some g) where
    -- and with one but no row it has no rows
    pub no_rows : p.count ≡ 0 → (x : TraceRefusal) → x.line ≡ begun → x.kind ≡ NoRows → IsFirstFault bytes true limits p.least x
    no_rows z x at is =
        subst (λ ls. FaultFrom limits p.least true 1 ls x) whole_front (h.taken.goes_on.faults true [] x
        (subst (λ o. FaultsOn limits p.least o rows true (suc (length h.taken.front)) [] x) (sym n)
        (omega (arith, at, last_number), ((refl, sym h.taken.count ∙ z), is))))

    -- the whole is the header and the rows
    pub read_whole : TraceOf bytes true p.least (header_of p.least g) rows
    read_whole =
        subst (λ ls. AreTraceLines p.least ls (header_of p.least g) rows) whole_front
        (subst (λ rs. AreTraceLines p.least (h.taken.front ++ []) (header_of p.least g) rs) (append-nil rows)
        (h.taken.goes_on.reads [] (header_of p.least g) [] (subst (λ o. ReadsOn p.least o [] (header_of p.least g) []) (sym n) (refl, none))))

    -- which are a trace, where there is a row
    pub has_trace : 0 < p.count → HasTrace bytes limits p.least (record { header = header_of p.least g; rows = rows })
    has_trace some = record {
      text = record {
        read = read_whole;
        rising = record { rows = sofar-some (length g.columns) rows (subst (λ o. AreRising o rows) n h.taken.rising) (omega (arith, some, h.taken.count)) };
      };
      sound = λ x f. by_rest x (subst (λ o. FaultsOn limits p.least o rows true (suc (length h.taken.front)) [] x) n
          (h.taken.goes_on.only true [] x (subst (λ ls. FaultFrom limits p.least true 1 ls x) (sym whole_front) f)));
    }
      where
        by_rest : (x : TraceRefusal) → FaultsOn limits p.least (Some g) rows true (suc (length h.taken.front)) [] x → ⊥
        by_rest x f = omega (arith, some, h.taken.count, f.1.0.1)

-- the last row of some that rise
after_last : (width t : ℕ) (rows : List Row) (r : Row) → AreRowsAfter width t (rows ++ r ∷ []) → (last_time t rows < r.time) × (length r.values ≡ width)
after_last width t [] r h = (h.0, h.1)
after_last width t (s ∷ rows) r h = after_last width s.time rows r h.2

-- the last of rising rows
pub rising_last : (width : ℕ) (rows : List Row) (r : Row) → AreRowsSoFar width (rows ++ r ∷ [])
    → (length r.values ≡ width) × (0 < length rows → last_time 0 rows < r.time)
rising_last width [] r h = (h.0, λ some. absurd (omega (arith, some)))
rising_last width (s ∷ rows) r h = let w = after_last width s.time rows r h.1 in (w.1, λ some. w.0)

-- a row that came can be taken
pub next_row : (e : Event) (o : Option Heading) (rows : List Row) (r : Row) → AreRising o (rows_after e rows r) → (e ≡ IsARow → IsSome o) → IsNextRow e o rows r
next_row Nothing o rows r h k = tt
next_row IsTheHeader o rows r h k = tt
next_row IsARow None rows r h k = absurd (false≢true (k refl))
next_row IsARow (Some g) rows r h k = rising_last (length g.columns) rows r h
