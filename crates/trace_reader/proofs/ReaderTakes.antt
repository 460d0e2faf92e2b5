-- A reader takes the bytes up to an LF, or bytes without one.
use Rattle.std.proofs.Common.{◌≡◌, ℕ, ◌⊎◌, inl, inr, ◌+◌, ◌-◌, ◌<◌, ◌≤◌, Bool, true, false, List, [], ◌∷◌, ◌++◌}
use Rattle.std.proofs.Common.{length, refl, sym, ap, ◌∙◌, subst, arith, Option, Some, None, append_assoc, take, drop}
use Rattle.std.specs.Prelude.{Ok, Err, IsSome, Result, IfOk, IfErr, is_some, option_copied, option_map}
use Rattle.std.specs.Borrow.{Bor}
use Rattle.std.proofs.lemmas.Bool.{false≢true, cases_eq, eq-eqb, ne_eqb}
use Rattle.std.proofs.lemmas.List.{length-append, take-append-drop, length-take-le, take_at, nil_from_length, append-nil}
use Rattle.std.proofs.lemmas.List.Elements.{All-nil}
use Rattle.stl_syntax.specs.Trace.{Row, Header}
use Rattle.trace_reader.specs.TraceText.{Heading, lines}
use Rattle.stl_syntax.specs.Choice.{◌or_else◌, Where}
use Rattle.trace_reader.specs.declared.refusal.TraceKind.TheVariants.{TooManyLines, LineTooLong}
use Rattle.stl_syntax.specs.declared.scale.Scale.{Scale}
use Rattle.trace_reader.specs.Cut.{Cut, begun_after}
use Rattle.trace_reader.specs.Feeds.{HasNoFeed, rows_after, through_feed}
use Rattle.trace_reader.specs.Cut.{Fits}
use Rattle.trace_reader.specs.TraceRefusals.{IsFirstFault}
use Rattle.trace_reader.specs.Progress.{Progress, ReadsLine, blank, heading, row, bad_heading, bad_row}
use Rattle.trace_reader.specs.Reader.{Reader, StandsFor, HasTaken, IsFaultOfAll, HoldLines, HasReadBefore, HasCome, EndsWithFeed, feed}
use Rattle.trace_reader.specs.LineReader.{made, state, HasEnded, IsWithin, IsStart, IsLineRefusal}
use Rattle.trace_reader.specs.declared.refusal.Limits.{Limits}
use Rattle.trace_reader.specs.declared.refusal.TraceRefusal.{TraceRefusal}
use Rattle.trace_reader.specs.declared.refusal.TraceKind.{TraceKind}
use Rattle.trace_reader.specs.declared.event.Event.{Event}
use Rattle.trace_reader.specs.declared.event.Event.TheVariants.{Nothing, Header as IsTheHeader, Row as IsARow}
use Rattle.trace_reader.specs.declared.line_reader.LineReader.{LineReader}
use Rattle.trace_reader.proofs.ReaderSteps.{stands, taken_going, taken_closed, refused_line, closed_breaks}
use Rattle.trace_reader.proofs.ReaderSteps.{going_breaks, taken_start, ended_between, ended_closed}
use Rattle.trace_reader.proofs.ReaderSteps.{ended_bad, number, number_going, broken_some, read_before}

read_least : {limits : Limits} {line : List ℕ} {old new : Progress} {r : Result Event TraceKind} → ReadsLine limits line old new r → new.least ≡ old.least
read_least (blank b same) = ap (λ (p : Progress). p.least) same
read_least (heading g b o is sound same) = ap (λ (p : Progress). p.least) same
read_least (row g b o is sound range width up room same) = ap (λ (p : Progress). p.least) same
read_least (bad_heading k b n f same) = ap (λ (p : Progress). p.least) same
read_least (bad_row h k b n f same) = ap (λ (p : Progress). p.least) same

-- a refused line leaves what was read
refused_kept : {limits : Limits} {line : List ℕ} {old new : Progress} {k : TraceKind} → ReadsLine limits line old new (Err k)
    → new ≡ record old { fresh = new.fresh }
refused_kept {old = old} {new} (bad_heading k b n f same) = same ∙ ap (λ (x : Bool). record old { fresh = x }) (sym (ap (λ (p : Progress). p.fresh) same))
refused_kept {old = old} {new} (bad_row h k b n f same) = same ∙ ap (λ (x : Bool). record old { fresh = x }) (sym (ap (λ (p : Progress). p.fresh) same))

-- what came with a line that was read
pub read_come : {limits : Limits} {line : List ℕ} {e : Event} (old new : LineReader) (before : List ℕ) → ReadsLine limits line old.content new.content (Ok e)
    → HasCome e (state limits old) (state limits new) (before ++ 10 ∷ [])
read_come old new before (blank b same) = (ap (λ (p : Progress). p.heading) same, ap (λ (p : Progress). p.row) same, ap (λ (p : Progress). p.count) same)
read_come old new before (heading g b o is sound same) =
    (o, subst IsSome (sym (ap (λ (p : Progress). p.heading) same)) refl, ap (λ (p : Progress). p.row) same, ap (λ (p : Progress). p.count) same, feed before)
read_come old new before (row g b o is sound range width up room same) =
    (subst IsSome (sym o) refl, ap (λ (p : Progress). p.heading) same, omega (arith, ap (λ (p : Progress). p.count) same), feed before)

module _ (limits : Limits) (old new : LineReader) (w : IsWithin limits old) where
  -- bytes without LF that were kept
  module _ (part : List ℕ) (free : HasNoFeed part) (begun : new.lines.begun ≡ begun_after old.lines.begun old.lines.line (length part)) where
    -- the reader stands for the bytes with them
    pub hold_stands : Fits limits new.lines.begun (length old.lines.line + length part) → new.lines.line ≡ old.lines.line ++ part → new.content ≡ old.content
        → (bytes : List ℕ) (rows : List Row) → StandsFor (state limits old) bytes rows → StandsFor (state limits new) (bytes ++ part) rows
    hold_stands fits line stays bytes rows s =
        let t = taken_going limits old.content old.lines.begun old.lines.line bytes rows s.taken part free in
        let u : HasTaken (state limits new) (bytes ++ part) rows =
        subst (λ (p : Progress). HasTaken (made limits p new.lines.begun new.lines.line) (bytes ++ part) rows) (sym stays)
        (subst (λ b. HasTaken (made limits old.content b new.lines.line) (bytes ++ part) rows) (sym begun)
        (subst (λ l. HasTaken (made limits old.content (begun_after old.lines.begun old.lines.line (length part)) l) (bytes ++ part) rows) (sym line) t)) in
        stands (state limits new) (bytes ++ part) rows u fits.count (omega (arith, ap length line, length-append old.lines.line part, fits.short)) (refl, refl)

    -- or a limit is broken
    pub hold_fault : (x : TraceRefusal) → IsLineRefusal limits new.lines.begun (length old.lines.line + length part) x
        → (bytes : List ℕ) (rows : List Row) → StandsFor (state limits old) bytes rows
        → IsFaultOfAll limits old.content.least (bytes ++ part) x
    hold_fault x f bytes rows s =
        going_breaks limits old.content old.lines.begun old.lines.line bytes rows s.taken part free w.begun w.line x
        (subst (λ b. IsLineRefusal limits b (length old.lines.line + length part) x) begun f)

    -- a refused line comes after what was read
    pub hold_before : (x : TraceRefusal) → IsLineRefusal limits new.lines.begun (length old.lines.line + length part) x
        → (bytes : List ℕ) (rows : List Row) → StandsFor (state limits old) bytes rows
        → HasReadBefore x.line old.content.heading old.content.least (bytes ++ part) rows
    hold_before x (at, f) bytes rows s =
        let kind =
        subst (λ b. (Where (limits.lines < b) TooManyLines or_else Where (4096 < (length old.lines.line + length part)) LineTooLong) x.kind) begun f in
        let some = broken_some limits old.content old.lines.begun old.lines.line bytes rows s.taken part w.begun x.kind kind in
        let number = number_going limits old.content old.lines.begun old.lines.line bytes rows s.taken part free some in
        read_before (state limits old) bytes rows s.taken part x.line (at ∙ (begun ∙ number))

  -- bytes and the LF after them
  module _ (part : List ℕ) (free : HasNoFeed part) (begun : new.lines.begun ≡ begun_after old.lines.begun old.lines.line (length part + 1)) where
    -- the reader stands for the bytes with the line
    pub finish_stands : (e : Event) → Fits limits new.lines.begun (length old.lines.line + length part) → new.lines.line ≡ []
        → ReadsLine limits (old.lines.line ++ part) old.content new.content (Ok e)
        → (bytes : List ℕ) (rows : List Row) → StandsFor (state limits old) bytes rows
        → StandsFor (state limits new) (bytes ++ (part ++ 10 ∷ [])) (rows_after e rows new.content.row)
    finish_stands e fits line read bytes rows s =
        let t = taken_closed limits old.content old.lines.begun old.lines.line bytes rows s.taken part free
        (subst (λ b. b ≤ limits.lines) begun fits.count) fits.short new.content e read in
        let after = rows_after e rows new.content.row in
        let u : HasTaken (state limits new) (bytes ++ (part ++ 10 ∷ [])) after =
        subst (λ b. HasTaken (made limits new.content b new.lines.line) (bytes ++ (part ++ 10 ∷ [])) after) (sym begun)
        (subst (λ l. HasTaken (made limits new.content (begun_after old.lines.begun old.lines.line (length part + 1)) l) (bytes ++ (part ++ 10 ∷ [])) after)
        (sym line) t) in
        stands (state limits new) (bytes ++ (part ++ 10 ∷ [])) after u fits.count (omega (arith, ap length line)) (refl, refl)

    -- or the line has a fault
    pub finish_fault : (x : TraceRefusal)
        → (IsLineRefusal limits new.lines.begun (length old.lines.line + length part) x × (new.content ≡ old.content))
        ⊎ (Fits limits new.lines.begun (length old.lines.line + length part) × (x.line ≡ new.lines.begun)
        × ReadsLine limits (old.lines.line ++ part) old.content new.content (Err x.kind))
        → (bytes : List ℕ) (rows : List Row) → StandsFor (state limits old) bytes rows → IsFaultOfAll limits old.content.least (bytes ++ (part ++ 10 ∷ [])) x
    finish_fault x (inl (f, same)) bytes rows s =
        closed_breaks limits old.content old.lines.begun old.lines.line bytes rows s.taken part free x
        (subst (λ b. IsLineRefusal limits b (length old.lines.line + length part) x) begun f)
    finish_fault x (inr (fits, at, read)) bytes rows s =
        refused_line limits old.content old.lines.begun old.lines.line bytes rows s.taken part free
        (subst (λ b. b ≤ limits.lines) begun fits.count) fits.short new.content x (at ∙ begun) read

    -- which comes after what was read
    pub finish_before : (x : TraceRefusal) → x.line ≡ new.lines.begun → (bytes : List ℕ) (rows : List Row) → StandsFor (state limits old) bytes rows
        → HasReadBefore x.line old.content.heading old.content.least (bytes ++ (part ++ 10 ∷ [])) rows
    finish_before x at bytes rows s =
        let number = number limits old.content old.lines.begun old.lines.line bytes rows s.taken part free in
        read_before (state limits old) bytes rows s.taken (part ++ 10 ∷ []) x.line (at ∙ (begun ∙ number))

    -- and leaves what was read
    pub finish_kept : (x : TraceRefusal)
        → (IsLineRefusal limits new.lines.begun (length old.lines.line + length part) x × (new.content ≡ old.content))
        ⊎ (Fits limits new.lines.begun (length old.lines.line + length part) × (x.line ≡ new.lines.begun)
        × ReadsLine limits (old.lines.line ++ part) old.content new.content (Err x.kind))
        → (x.line ≡ new.lines.begun) × (new.content ≡ record old.content { fresh = new.content.fresh }) × (new.content.least ≡ old.content.least)
    finish_kept x (inl (f, same)) =
        (f.0, same ∙ ap (λ (b : Bool). record old.content { fresh = b }) (sym (ap (λ (p : Progress). p.fresh) same)), ap (λ (p : Progress). p.least) same)
    finish_kept x (inr (fits, at, read)) = (at, refused_kept read, read_least read)

-- nothing was read
pub start_stands : (limits : Limits) (least : Scale) (p : LineReader) → IsStart least p → StandsFor (state limits p) [] []
start_stands limits least p h =
    let begun : p.lines.begun ≡ 0 = ap (λ (c : Cut). c.begun) h.lines in
    let line : p.lines.line ≡ [] = ap (λ (c : Cut). c.line) h.lines in
    let t : HasTaken (state limits p) [] [] =
    subst (λ b. HasTaken (made limits p.content b p.lines.line) [] []) (sym begun)
    (subst (λ l. HasTaken (made limits p.content 0 l) [] []) (sym line)
    (taken_start limits p.content (ap (λ (q : Progress). q.heading) h.content) (ap (λ (q : Progress). q.count) h.content))) in
    stands (state limits p) [] [] t (omega (arith, begun)) (omega (arith, ap length line)) (refl, refl)

-- bytes up to an LF are followed by the others
pub through_parts : (xs : List ℕ) → (others : List ℕ) × (xs ≡ through_feed xs ++ others)
through_parts [] = ([], refl)
through_parts (x ∷ xs) = by_test (through_parts xs) (cases_eq x 10)
  where
    by_test : ((others : List ℕ) × (xs ≡ through_feed xs ++ others)) → (x ≡ 10) ⊎ (x ≡ 10 → ⊥) → (others : List ℕ) × (x ∷ xs ≡ through_feed (x ∷ xs) ++ others)
    by_test before (inl e) = (xs, rw (eq-eqb x 10 e) refl)
    by_test (others, h) (inr e) = (others, rw (ne_eqb x 10 e) (ap (λ t. x ∷ t) h))

-- the bytes before a part, the part and the others are the whole
parts_joined : {piece : List ℕ} (bytes front part others more : List ℕ) → piece ≡ front ++ (part ++ others)
    → ((bytes ++ front) ++ part) ++ (others ++ more) ≡ (bytes ++ piece) ++ more
parts_joined bytes front part others more e =
    sym (append_assoc ((bytes ++ front) ++ part) others more)
    ∙ ap (λ t. t ++ more) (append_assoc (bytes ++ front) part others ∙ (append_assoc bytes front (part ++ others) ∙ ap (λ t. bytes ++ t) (sym e)))

-- the fault of a part is one of the whole
pub fault_on : {piece : List ℕ} (limits : Limits) (least : Scale) (bytes front part others : List ℕ) (x : TraceRefusal) → piece ≡ front ++ (part ++ others)
    → IsFaultOfAll limits least ((bytes ++ front) ++ part) x → IsFaultOfAll limits least (bytes ++ piece) x
fault_on limits least bytes front part others x e f more ended =
    subst (λ t. IsFirstFault t ended limits least x) (parts_joined bytes front part others more e) (f (others ++ more) ended)

-- what was read before a line of a part was read before it in the whole
pub before_on : {piece : List ℕ} (n : ℕ) (h : Option Heading) (least : Scale) (rows : List Row) (bytes front part others : List ℕ)
    → piece ≡ front ++ (part ++ others) → HasReadBefore n h least ((bytes ++ front) ++ part) rows → HasReadBefore n h least (bytes ++ piece) rows
before_on n h least rows bytes front part others e f more ended =
    subst (λ t. HoldLines h least (take (n - 1) (lines ended t)) rows) (parts_joined bytes front part others more e) (f (others ++ more) ended)

ends_on : (front : List ℕ) {taken : List ℕ} → EndsWithFeed taken → EndsWithFeed (front ++ taken)
ends_on front (feed before) = subst EndsWithFeed (append_assoc front before (10 ∷ [])) (feed (front ++ before))

-- what came after nothing came
pub come_on : (e : Event) (a b r : Reader) (front taken : List ℕ) → b.heading ≡ a.heading → b.row ≡ a.row → b.count ≡ a.count
    → HasCome e b r taken → HasCome e a r (front ++ taken)
come_on Nothing a b r front taken h w n c = (c.0 ∙ h, c.1 ∙ w, c.2 ∙ n)
come_on IsTheHeader a b r front taken h w n c = (sym h ∙ c.0, c.1, c.2 ∙ w, c.3 ∙ n, ends_on front c.4)
come_on IsARow a b r front taken h w n c = (subst IsSome h c.0, c.1 ∙ h, c.2, ends_on front c.3)

-- a longer front
pub take_on : (at n : ℕ) (piece taken : List ℕ) → take n (drop at piece) ≡ taken → at ≤ length piece → n ≤ length (drop at piece)
    → take (at + n) piece ≡ take at piece ++ taken
take_on at n piece taken e l k =
    let d : piece ≡ take at piece ++ (taken ++ drop n (drop at piece)) =
    sym (take-append-drop at piece) ∙ ap (λ t. take at piece ++ t) (sym (take-append-drop n (drop at piece)) ∙ ap (λ t. t ++ drop n (drop at piece)) e) in
    let a : length (take at piece) ≡ at = length-take-le at piece l in
    let b : length taken ≡ n = sym (ap length e) ∙ length-take-le n (drop at piece) k in
    ap (take (at + n)) (d ∙ sym (append_assoc (take at piece) taken (drop n (drop at piece))))
    ∙ take_at (take at piece ++ taken) (drop n (drop at piece)) (at + n) (length-append (take at piece) taken ∙ omega (arith, a, b))

-- the end, between lines and after a last line without LF
pub last_between : (limits : Limits) (old : LineReader) → old.lines.line ≡ [] → (bytes : List ℕ) (rows : List Row) → StandsFor (state limits old) bytes rows
    → HasEnded limits old.content old.lines.begun bytes rows
last_between limits old e bytes rows s =
    ended_between limits old.content old.lines.begun bytes rows (subst (λ l. HasTaken (made limits old.content old.lines.begun l) bytes rows) e s.taken)

-- a last line without a fault
pub last_closed : (limits : Limits) (old new : LineReader) → IsWithin limits old → 0 < length old.lines.line → (e : Event)
    → ReadsLine limits (old.lines.line ++ []) old.content new.content (Ok e)
    → (bytes : List ℕ) (rows : List Row) → StandsFor (state limits old) bytes rows
    → HasEnded limits new.content old.lines.begun bytes (rows_after e rows new.content.row)
last_closed limits old new w some e read bytes rows s =
    ended_closed limits old.content old.lines.begun old.lines.line bytes rows s.taken some w.begun w.line new.content e read

-- or with one
pub last_bad : (limits : Limits) (old new : LineReader) → IsWithin limits old → 0 < length old.lines.line → (x : TraceRefusal) → x.line ≡ old.lines.begun
    → ReadsLine limits (old.lines.line ++ []) old.content new.content (Err x.kind)
    → (bytes : List ℕ) (rows : List Row) → StandsFor (state limits old) bytes rows → IsFirstFault bytes true limits old.content.least x
last_bad limits old new w some x at read bytes rows s =
    ended_bad limits old.content old.lines.begun old.lines.line bytes rows s.taken some w.begun w.line new.content x at read

-- a fault of the last line comes after what was read
pub last_before : (limits : Limits) (old : LineReader) → 0 < length old.lines.line → (x : TraceRefusal) → x.line ≡ old.lines.begun
    → (bytes : List ℕ) (rows : List Row) → StandsFor (state limits old) bytes rows → HasReadBefore x.line old.content.heading old.content.least bytes rows
last_before limits old some x at bytes rows s =
    let line : 0 < length (old.lines.line ++ []) = omega (arith, some, ap length (append-nil old.lines.line)) in
    let same : old.lines.begun ≡ begun_after old.lines.begun old.lines.line 0 = begun_same old.lines.begun old.lines.line in
    let number = number_going limits old.content old.lines.begun old.lines.line bytes rows s.taken [] (All-nil (λ c. c ≡ 10 → ⊥)) line in
    subst (λ b. HasReadBefore x.line old.content.heading old.content.least b rows) (append-nil bytes)
    (read_before (state limits old) bytes rows s.taken [] x.line (at ∙ (same ∙ number)))
  where
    begun_same : (b : ℕ) (line : List ℕ) → b ≡ begun_after b line 0
    begun_same b [] = refl
    begun_same b (c ∷ cs) = refl

-- what a result is
pub if_ok : {A E : Type 0} (r : Result A E) (P : A → Type 0) → ((a : A) → r ≡ Ok a → P a) → IfOk r P
if_ok (Ok a) P h = h a refl
if_ok (Err e) P h = tt

-- and where it is an error
pub if_err : {A E : Type 0} (r : Result A E) (P : E → Type 0) → ((e : E) → r ≡ Err e → P e) → IfErr r P
if_err (Ok a) P h = tt
if_err (Err e) P h = h e refl

-- the header by its heading
pub header_none : (o : Option (Bor Header)) (h : Option Heading) (f : Heading → Header) → option_copied o ≡ option_map f h → is_some o ≡ false → h ≡ None
header_none None None f e s = refl
header_none None (Some g) f e s = absurd (let w = e in cc)
header_none (Some x) h f e s = absurd (false≢true (sym s))

-- a header by its heading
pub header_some : (o : Option (Bor Header)) (h : Option Heading) (f : Heading → Header) → option_copied o ≡ option_map f h
    → is_some o ≡ true → (g : Heading) × (h ≡ Some g)
header_some None h f e s = absurd (false≢true s)
header_some (Some x) None f e s = absurd (let w = e in cc)
header_some (Some x) (Some g) f e s = (g, refl)

-- an event that is no row adds none
pub rows_same : (e : Event) (rows : List Row) (r : Row) → (e ≡ IsARow → ⊥) → rows_after e rows r ≡ rows
rows_same Nothing rows r h = refl
rows_same IsTheHeader rows r h = refl
rows_same IsARow rows r h = absurd (h refl)

-- a count of 0 means no rows
pub no_rows_left : (e : Event) (rows : List Row) (r : Row) (n : ℕ) → n ≡ length (rows_after e rows r) → n ≡ 0 → rows_after e rows r ≡ []
no_rows_left e rows r n c z = nil_from_length (rows_after e rows r) (omega (arith, c, z))

-- a row comes after the header
pub came_some : (e : Event) (a b : Reader) (taken : List ℕ) → HasCome e a b taken → e ≡ IsARow → IsSome b.heading
came_some Nothing a b taken c e = absurd (let f = e in cc)
came_some IsTheHeader a b taken c e = absurd (let f = e in cc)
came_some IsARow a b taken c e = subst IsSome (sym c.1) c.0

-- a reader that stands for bytes goes on
pub going_on : (r : Reader) (bytes : List ℕ) (rows : List Row) → StandsFor r bytes rows → StandsFor (record r { refusal = None; ended = false }) bytes rows
going_on r bytes rows s = record {
  read = s.read;
  sound = s.sound;
  taken = record {
    front = s.taken.front;
    free = s.taken.free;
    joins = s.taken.joins;
    goes_on = s.taken.goes_on;
    begun = s.taken.begun;
    count = s.taken.count;
    last = s.taken.last;
    rising = s.taken.rising;
    range = s.taken.range;
  };
  open_end = (refl, refl);
}
