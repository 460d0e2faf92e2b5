-- What is kept of a trace while its bytes come in.
use Rattle.std.proofs.Common.{◌≡◌, ◌⊎◌, inl, inr, ℕ, suc, ◌+◌, ◌<◌, ◌≤◌, Bool, false, List, [], ◌∷◌, ◌++◌, length, take, drop}
use Rattle.std.proofs.Common.{refl, sym, ap, ◌∙◌, subst, arith, append_assoc, append-nil, length-append, Option, Some, None}
use Rattle.std.specs.Prelude.{All, option_map, MatchOption}
use Rattle.std.proofs.lemmas.Bool.{false≢true}
use Rattle.std.proofs.Math.Seq.{take-append_seam}
use Rattle.stl_syntax.specs.Formula.{Formula}
use Rattle.stl_syntax.specs.Trace.{Row, Header, Trace, last_time}
use Rattle.stl_syntax.specs.Choice.{◌or_else◌}
use Rattle.stl_syntax.specs.Binding.{IsUnknown, IsUnitFault}
use Rattle.stl_syntax.specs.declared.scale.UnitFault.{UnitFault}
use Rattle.stl_syntax.specs.WellFormed.{IsScale}
use Rattle.stl_syntax.specs.declared.scale.Scale.{Scale}
use Rattle.trace_reader.specs.TraceText.{Line, lines, Heading, scale_of, TraceOf}
use Rattle.trace_reader.specs.TraceRefusals.{FaultFrom, IsFirstFault}
use Rattle.trace_reader.specs.Feeds.{HasNoFeed, through_feed, rows_after}
use Rattle.trace_reader.specs.Reader.{Reader, StandsFor, IsFaultOfAll, EndsWithFeed, IsNextRow, HasRead, HasCome, header_of, header_read}
use Rattle.trace_reader.specs.declared.refusal.Limits.{Limits}
use Rattle.trace_reader.specs.declared.refusal.TraceRefusal.{TraceRefusal}
use Rattle.trace_reader.specs.declared.event.Event.{Event}
use Rattle.trace_reader.specs.declared.event.Event.TheVariants.{Nothing, Header as IsTheHeader, Row as IsARow}
use Rattle.trace_reader.proofs.LineLemmas.{lines-append}
use Rattle.trace_reader.proofs.ReaderTakes.{through_parts}
use Rattle.trace_reader.specs.InputFaults.{Fault, of_trace, unknown, unit, IsHeaderAt, IsLack, IsInputFault}
use Rattle.trace_stream.specs.Cases.{IsLacking, IsBegun, IsNoBegin, IsHeaderOf, with_row, CanKeep}
use Rattle.trace_stream.specs.CaseReader.{IsRefused, HasCase, IsKept}
use Rattle.trace_stream.specs.declared.case.Case.{Case}
use Rattle.trace_stream.specs.declared.fault.StreamStop.{StreamStop}
use Rattle.trace_stream.specs.declared.fault.StreamStop.TheVariants.{Fault as Faulty, NoMemory, Wide}
use Rattle.trace_stream.proofs.HeaderLines.{IsBlank, header_once, header_read as header_of_lines, header_stays}
use Rattle.trace_stream.proofs.HeaderLines.{header_within, header_after, ticks_small, heading_is}
use Rattle.trace_stream.proofs.FaultPlaces.{IsAtEndOf, after_header, fault_within}
use Rattle.trace_stream.proofs.OneLine.{IsOneLine, through_line, one_at_most, fed_line, taken_of, left_over}

Lacks : Formula → ℕ → Header → Fault → Type 0
Lacks f n header =
    (λ x. (atom term : ℕ) × (name : List ℕ) × IsUnknown header.columns f atom term name × (x ≡ unknown n atom term name))
    or_else (λ x. (fault : UnitFault) × IsUnitFault f header.scale fault × (x ≡ unit n fault))

-- what a header lacks is told by its columns and its ticks
pub lacking_same : (f : Formula) (n : ℕ) (h g : Heading) (x : Fault) → header_of f.scale h ≡ header_of f.scale g → IsLacking f n h x → IsLacking f n g x
unfolding Lacks
lacking_same f n h g x e l = subst (λ header. Lacks f n header x) e l

-- a header that lacks nothing is the only one
pub no_lack : {f : Formula} {bytes : List ℕ} {header : Header} → IsHeaderOf f bytes header
    → (limits : Limits) (ended : Bool) (more : List ℕ) (x : Fault) → ¬ IsLack limits f (bytes ++ more) ended x
no_lack {f} t limits ended more x (n, h, at, lacking, clean) =
    let e = header_once at (t.at ended more) in
    t.fits x (subst (λ m. IsLacking f m t.heading x) e.0 (subst (λ g. IsLacking f n g x) e.1 lacking))

-- the header stays whatever follows
pub header_goes_on : {f : Formula} {bytes : List ℕ} {header : Header} → (more : List ℕ) → IsHeaderOf f bytes header → IsHeaderOf f (bytes ++ more) header
header_goes_on {f} {bytes} more t = record {
  line = t.line;
  heading = t.heading;
  is = t.is;
  at = λ ended later. subst (λ b. IsHeaderAt (lines ended b) t.line t.heading) (sym (append_assoc bytes more later)) (t.at ended (more ++ later));
  fits = t.fits;
}

-- it is the one that was read
pub same_header : {f : Formula} {bytes : List ℕ} {header : Header} → IsHeaderOf f bytes header → (ended : Bool) (h : Heading) {rows : List Row}
    → TraceOf bytes ended f.scale (header_of f.scale h) rows → header ≡ header_of f.scale h
same_header {f} {bytes} t ended h read =
    let (n, g, at, e) = header_of_lines read in
    let mine = subst (λ b. IsHeaderAt (lines ended b) t.line t.heading) (append-nil bytes) (t.at ended []) in
    t.is ∙ ap (header_of f.scale) (header_once mine at).1 ∙ sym e

-- where no header was read, the lines that are whole are blank, and the others come after them
module _ {r : Reader} {bytes : List ℕ} {rows : List Row} (s : StandsFor r bytes rows) (first : r.heading ≡ None) where
  -- the lines before the header are blank
  pub blank_front : All IsBlank s.taken.front
  blank_front = (s.taken.goes_on.blank first).0

  -- the header stands behind them
  pub header_beyond : (ended : Bool) (more : List ℕ) {n : ℕ} {h : Heading} → IsHeaderAt (lines ended (bytes ++ more)) n h → length s.taken.front < n
  header_beyond ended more {n} {h} at =
      header_after s.taken.front (lines ended (r.line ++ more)) blank_front (subst (λ ls. IsHeaderAt ls n h) (s.taken.joins ended more) at)

  -- how many lines there are with one line more, at most
  pub lines_few : (ended : Bool) (part : List ℕ) → IsOneLine part → length (lines ended (bytes ++ part)) ≤ length s.taken.front + 1
  lines_few ended part one =
      let few = one_at_most ended r.line part s.taken.free one in
      let size = ap (λ ls. length ls) (s.taken.joins ended part) ∙ length-append s.taken.front (lines ended (r.line ++ part)) in
      omega (arith, few, size)

  -- a fault of the first line that is not blank comes before what its header lacks
  pub fault_before : (f : Formula) (ended now : Bool) (part more : List ℕ) (x : TraceRefusal) → IsOneLine part
      → FaultFrom r.limits f.scale now 1 (lines now (bytes ++ part)) x
      → FaultFrom r.limits f.scale ended 1 (lines ended (bytes ++ more)) x → (¬ IsAtEndOf ended x)
      → (y : Fault) → ¬ IsLack r.limits f (bytes ++ more) ended y
  fault_before f ended now part more x one here later inside y (n, h, at, lacking, clean) =
      by_place (header_beyond ended more at) (fault_within r.limits now x f.scale 1 (lines now (bytes ++ part)) (omega arith) here) (lines_few now part one)
      (after_header r.limits ended x f.scale 1 (lines ended (bytes ++ more)) at clean later)
    where
      by_place : length s.taken.front < n → suc x.line ≤ 1 + length (lines now (bytes ++ part)) → length (lines now (bytes ++ part)) ≤ length s.taken.front + 1
          → (1 + n ≤ x.line) ⊎ IsAtEndOf ended x → ⊥
      by_place beyond within few (inl after) = omega (arith, beyond, within, few, after)
      by_place beyond within few (inr end) = inside end

-- a refusal of a piece of one line is the first fault of the bytes with all of the piece
pub refused_push : (f : Formula) (r : Reader) (case : Option Case) (bytes piece : List ℕ) (x : TraceRefusal) → IsKept f r case bytes
    → IsFaultOfAll r.limits r.least (bytes ++ through_feed piece) x → IsInputFault r.limits f (bytes ++ piece) false (of_trace x)
refused_push f r case bytes piece x k fault = inr (λ y lack. by_heading r.heading refl k.has_case y lack, (x, whole_fault, refl))
  where
    part_fault : IsFirstFault (bytes ++ through_feed piece) false r.limits f.scale x
    part_fault =
        subst (λ b. IsFirstFault b false r.limits f.scale x) (append-nil (bytes ++ through_feed piece))
        (subst (λ s. IsFirstFault ((bytes ++ through_feed piece) ++ []) false r.limits s x) k.least (fault [] false))

    whole_fault : IsFirstFault (bytes ++ piece) false r.limits f.scale x
    whole_fault =
        let (others, e) = through_parts piece in
        subst (λ b. IsFirstFault b false r.limits f.scale x) (append_assoc bytes (through_feed piece) others ∙ ap (λ t. bytes ++ t) (sym e))
        (subst (λ s. IsFirstFault ((bytes ++ through_feed piece) ++ others) false r.limits s x) k.least (fault others false))

    by_heading : (o : Option Heading) → r.heading ≡ o → HasCase f o bytes k.rows case → (y : Fault) → ¬ IsLack r.limits f (bytes ++ piece) false y
    by_heading None e t y lack = fault_before k.stands e f false false (through_feed piece) piece x
        (through_line piece) part_fault whole_fault (λ end. false≢true end.0) y lack
    by_heading (Some h) e t y lack = by_case case t
      where
        by_case : (c : Option Case) → HasCase f (Some h) bytes k.rows c → ⊥
        by_case None t = t
        by_case (Some c) t = no_lack t.2 r.limits false piece y lack

-- the bytes to read next: a line at most where there is no case yet, and else the whole piece
abbrev pub IsNext : Option Case → List ℕ → List ℕ → Type 0
IsNext case piece line = MatchOption case (line ≡ through_feed piece) (λ _. line ≡ piece)

-- a refusal of the bytes to read next
pub refused_next : (f : Formula) (r : Reader) (case : Option Case) (bytes piece line : List ℕ) (x : TraceRefusal)
    → IsKept f r case bytes → IsNext case piece line
    → IsFaultOfAll r.limits r.least (bytes ++ line) x → IsInputFault r.limits f (bytes ++ piece) false (of_trace x)
refused_next f r None bytes piece line x k e fault = refused_push f r None bytes piece x k (subst (λ l. IsFaultOfAll r.limits r.least (bytes ++ l) x) e fault)
refused_next f r (Some c) bytes piece line x k e fault = inr (λ y lack. by_heading r.heading k.has_case y lack, (x, whole_fault, refl))
  where
    all : IsFaultOfAll r.limits r.least (bytes ++ piece) x
    all = subst (λ l. IsFaultOfAll r.limits r.least (bytes ++ l) x) e fault

    whole_fault : IsFirstFault (bytes ++ piece) false r.limits f.scale x
    whole_fault =
        subst (λ b. IsFirstFault b false r.limits f.scale x) (append-nil (bytes ++ piece))
        (subst (λ s. IsFirstFault ((bytes ++ piece) ++ []) false r.limits s x) k.least (all [] false))

    by_heading : (o : Option Heading) → HasCase f o bytes k.rows (Some c) → (y : Fault) → ¬ IsLack r.limits f (bytes ++ piece) false y
    by_heading None t y lack = absurd (let j = t in cc)
    by_heading (Some h) t y lack = no_lack t.2 r.limits false piece y lack

-- a front of the bytes to read next is one of the piece
front_same : (case : Option Case) (piece line : List ℕ) (k : ℕ) → IsNext case piece line → k ≤ length line → take k line ≡ take k piece
front_same None piece line k one within = ap (take k) one ∙ taken_of k piece (subst (λ l. k ≤ length l) one within)
front_same (Some c) piece line k e within = ap (take k) e

-- where no header was read there is no case, and so a line at most comes next
first_next : (f : Formula) (o : Option Heading) (bytes : List ℕ) (rows : List Row) (case : Option Case) (piece line : List ℕ)
    → HasCase f o bytes rows case → o ≡ None → IsNext case piece line
    → line ≡ through_feed piece
first_next f o bytes rows None piece line t e n = n
first_next f None bytes rows (Some c) piece line t e n = absurd (let j = t in cc)
first_next f (Some h) bytes rows (Some c) piece line t e n = absurd (let j = e in cc)

-- the header that came with the last line of some bytes
pub record HasHeaderLine (limits : Limits) (least : Scale) (bytes : List ℕ) (n : ℕ) (h : Heading) : Type 0 where
  -- the header stands there, whatever follows
  pub at : (ended : Bool) (more : List ℕ) → IsHeaderAt (lines ended (bytes ++ more)) n h
  -- and no fault stands before it
  pub clean : (ended : Bool) (more : List ℕ) (x : TraceRefusal) → ¬ FaultFrom limits least false 1 (take n (lines ended (bytes ++ more))) x

-- what came with the header's line
pub header_came : {old new : Reader} {bytes taken : List ℕ} {rows later : List Row} {h : Heading} (w : List ℕ) → StandsFor old bytes rows
    → old.heading ≡ None → StandsFor new (bytes ++ taken) later → new.heading ≡ Some h → HasNoFeed w → taken ≡ w ++ 10 ∷ []
    → (g : Heading) × (header_of new.least h ≡ header_of new.least g) × HasHeaderLine new.limits new.least (bytes ++ taken) new.begun g
header_came {new = new} {bytes = bytes} {taken = taken} {later = later} w s first t some free is =
    let (n, g, at, e) = header_of_lines (subst (λ o. HasRead o new.least (bytes ++ taken) later) some t.read) in
    (g, e, line n g at)
  where
    all : List Line
    all = lines false (bytes ++ taken)

    ends : bytes ++ taken ≡ (bytes ++ w) ++ 10 ∷ []
    ends = ap (λ x. bytes ++ x) is ∙ sym (append_assoc bytes w (10 ∷ []))

    -- lines that follow
    joins : (ended : Bool) (more : List ℕ) → lines ended ((bytes ++ taken) ++ more) ≡ lines false (bytes ++ taken) ++ lines ended more
    joins ended more =
        ap (λ b. lines ended (b ++ more)) ends ∙ ap (lines ended) (append_assoc (bytes ++ w) (10 ∷ []) more) ∙ lines-append ended (bytes ++ w) more
        ∙ ap (λ b. lines false b ++ lines ended more) (sym ends)

    line : (n : ℕ) (g : Heading) → IsHeaderAt (lines false (bytes ++ taken)) n g → HasHeaderLine new.limits new.least (bytes ++ taken) new.begun g
    line n g at = record {
      at = λ ended more. subst (λ ls. IsHeaderAt ls new.begun g) (sym (joins ended more))
          (header_stays (lines ended more) (subst (λ m. IsHeaderAt (lines false (bytes ++ taken)) m g) place at));
      clean = λ ended more x fault. t.sound x (subst (λ ls. FaultFrom new.limits new.least false 1 ls x) (front ended more) fault);
    }
      where
        place : n ≡ new.begun
        place =
            let beyond = header_beyond s first false taken at in
            let within = (header_within at).1 in
            let few = lines_few s first false taken (inr (w, free, is)) in
            omega (arith, beyond, within, few, t.taken.begun)

        front : (ended : Bool) (more : List ℕ) → take new.begun (lines ended ((bytes ++ taken) ++ more)) ≡ lines false (bytes ++ taken)
        front ended more =
            ap (take new.begun) (joins ended more) ∙ ap (λ m. take m (lines false (bytes ++ taken) ++ lines ended more)) t.taken.begun
            ∙ take-append_seam (lines false (bytes ++ taken)) (lines ended more)

-- the header that is lacking is a fault of the bytes
pub stop_begin : (f : Formula) (limits : Limits) (ended : Bool) (bytes more whole : List ℕ) (n : ℕ) (g : Heading) (stop : StreamStop) → whole ≡ bytes ++ more
    → HasHeaderLine limits f.scale bytes n g → IsNoBegin f n g stop → IsRefused limits f ended whole stop
stop_begin f limits ended bytes more whole n g (Faulty fault) e line (x, is, lacking) =
    (x, is, subst (λ b. IsInputFault limits f b ended x) (sym e) (inl (n, g, line.at ended more, lacking, line.clean ended more)))
stop_begin f limits ended bytes more whole n g NoMemory e line none = tt
stop_begin f limits ended bytes more whole n g (Wide i den) e line none = absurd none

-- the header of a reader
pub heading_of : (least : Scale) (o : Option Heading) (header : Header) → option_map (header_of least) o ≡ Some header
    → (h : Heading) × (o ≡ Some h) × (header ≡ header_of least h)
heading_of least None header e = absurd (let k = e in cc)
heading_of least (Some h) header e = (h, refl, let k : header ≡ header_of least h = (let j = e in cc) in k)

-- a header's ticks are a scale
pub header_ticks : {limits : Limits} {least : Scale} {bytes : List ℕ} {n : ℕ} {g : Heading} → HasHeaderLine limits least bytes n g
    → IsScale least → IsScale (scale_of least g)
header_ticks {limits} {least} {bytes} {n} {g} line s = let (fs, is) = heading_is (line.at false []) in ticks_small least fs g s is

-- what goes on
has_case_on : (f : Formula) (o : Option Heading) (bytes more : List ℕ) (rows : List Row) (case : Option Case)
    → HasCase f o bytes rows case → HasCase f o (bytes ++ more) rows case
has_case_on f None bytes more rows case t = t
has_case_on f (Some h) bytes more rows None t = t
has_case_on f (Some h) bytes more rows (Some c) t = (t.0, t.1, header_goes_on more t.2)

-- bytes more that bring no line leave what is kept
pub kept_on : (f : Formula) (old new : Reader) (case : Option Case) (bytes more : List ℕ) (k : IsKept f old case bytes)
    → StandsFor new (bytes ++ more) k.rows → new.least ≡ old.least
    → new.heading ≡ old.heading → IsKept f new case (bytes ++ more)
kept_on f old new case bytes more k s least same = record {
  rows = k.rows;
  ticks = k.ticks;
  least = least ∙ k.least;
  stands = s;
  has_case = subst (λ o. HasCase f o (bytes ++ more) k.rows case) (sym same) (has_case_on f old.heading bytes more k.rows case k.has_case);
}

-- a row that came next can be kept
next_takes : (f : Formula) (o : Option Heading) (least : Scale) (bytes : List ℕ) (rows : List Row) (case : Option Case) (r : Row)
    → HasCase f o bytes rows case → least ≡ f.scale
    → HasRead o least bytes rows → IsNextRow IsARow o rows r → CanKeep case r
next_takes f None least bytes rows case r t e read next = absurd next
next_takes f (Some h) least bytes rows None r t e read next = t
next_takes f (Some h) least bytes rows (Some c) r t e read next =
    let header = same_header t.2 false h (subst (λ s. TraceOf bytes false s (header_of s h) rows) e read) in (
      next.0 ∙ ap (λ (x : Header). length x.columns) (sym header),
      subst (λ (rs : List Row). 0 < length rs → last_time 0 rs < r.time) (sym t.1) next.1,
    )

-- the next row can be kept
pub can_keep : (f : Formula) (reader : Reader) (case : Option Case) (bytes : List ℕ) (o : Option Heading) (r : Row)
    (k : IsKept f reader case bytes) → o ≡ reader.heading → IsNextRow IsARow o k.rows r
    → CanKeep case r
can_keep f reader case bytes o r k same next =
    next_takes f reader.heading reader.least bytes k.rows case r k.has_case k.least k.stands.read (subst (λ o. IsNextRow IsARow o k.rows r) same next)

with_next : (f : Formula) (o : Option Heading) (bytes : List ℕ) (rows : List Row) (case : Option Case) (r : Row) → HasCase f o bytes rows case → CanKeep case r
    → HasCase f o bytes (rows ++ r ∷ []) (option_map (with_row r) case)
with_next f o bytes rows None r t can = absurd can
with_next f None bytes rows (Some c) r t can = absurd (let k = t in cc)
with_next f (Some h) bytes rows (Some c) r t can = (record { formula = t.0.formula; bound = t.0.bound }, ap (λ rs. rs ++ r ∷ []) t.1, t.2)

-- what is kept with one row more
pub kept_row : (f : Formula) (old new : Reader) (case : Option Case) (bytes more : List ℕ) (r : Row) (k : IsKept f old case bytes)
    → StandsFor new (bytes ++ more) (k.rows ++ r ∷ [])
    → new.least ≡ old.least → new.heading ≡ old.heading → CanKeep case r → IsKept f new (option_map (with_row r) case) (bytes ++ more)
kept_row f old new case bytes more r k s least same can = record {
  rows = k.rows ++ r ∷ [];
  ticks = k.ticks;
  least = least ∙ k.least;
  stands = s;
  has_case = subst (λ o. HasCase f o (bytes ++ more) (k.rows ++ r ∷ []) (option_map (with_row r) case)) (sym same)
      (has_case_on f old.heading bytes more (k.rows ++ r ∷ []) (option_map (with_row r) case) (with_next f old.heading bytes k.rows case r k.has_case can));
}

-- a push came to this event: `k` of the bytes that it was handed were taken
pub record Pushed (old new : Reader) (line : List ℕ) (k : ℕ) (event : Event) : Type 0 where
  -- no more than there were
  pub within : k ≤ length line
  -- what the event says of the reader
  pub came : HasCome event old new (take k line)
  -- the reader stands for the bytes that were taken
  pub stands : (bytes : List ℕ) (rows : List Row) → StandsFor old bytes rows → StandsFor new (bytes ++ take k line) (rows_after event rows new.row)
  -- a row goes on from those before it
  pub next : (bytes : List ℕ) (rows : List Row) → StandsFor old bytes rows → IsNextRow event new.heading rows new.row
  -- the limits stay
  pub limits : new.limits ≡ old.limits
  -- and the ticks that are read
  pub least : new.least ≡ old.least

-- a push of a line's bytes that came to the header
pub record HeaderStep (f : Formula) (old new : Reader) (rows : List Row) (bytes piece : List ℕ) (k : ℕ) (header : Header) : Type 0 where
  -- the heading that was read
  pub heading : Heading
  -- the reader has it now
  pub some : new.heading ≡ Some heading
  -- it had none before
  pub first : old.heading ≡ None
  -- the columns
  pub columns : Heading
  -- the header is made of them
  pub is : header ≡ header_of f.scale columns
  -- the header's line
  pub line : HasHeaderLine old.limits f.scale (bytes ++ take k piece) new.begun columns
  -- the reader stands for the bytes so far
  pub stands : StandsFor new (bytes ++ take k piece) rows
  -- the header's ticks are a scale
  pub ticks : IsScale (scale_of f.scale columns)
  -- and the rest of the piece is left
  pub left : bytes ++ piece ≡ (bytes ++ take k piece) ++ drop k piece

-- a piece that ends the header's line comes to this
pub header_step : {f : Formula} {old new : Reader} {case : Option Case} {bytes line : List ℕ} {k : ℕ} {event : Event} {header : Header} (piece : List ℕ)
    (kept : IsKept f old case bytes) → Pushed old new line k event → IsNext case piece line → event ≡ IsTheHeader → header_read new ≡ Some header
    → HeaderStep f old new kept.rows bytes piece k header
header_step {f} {old} {new} {case} {bytes} {line} {k} {header = header} piece kept push next is read =
    by_parts (heading_of new.least new.heading header read)
  where
    here : HasCome IsTheHeader old new (take k line)
    here = subst (λ (e : Event). HasCome e old new (take k line)) is push.came

    one : line ≡ through_feed piece
    one = first_next f old.heading bytes kept.rows case piece line kept.has_case here.0 next

    short : k ≤ length (through_feed piece)
    short = subst (λ l. k ≤ length l) one push.within

    same : take k line ≡ take k piece
    same = ap (take k) one ∙ taken_of k piece short

    closed : (w : List ℕ) × HasNoFeed w × (take k (through_feed piece) ≡ w ++ 10 ∷ [])
    closed = fed_line k (through_feed piece) (through_line piece) (subst (λ l. EndsWithFeed (take k l)) one here.4)

    after : StandsFor new (bytes ++ take k piece) kept.rows
    after = subst (λ t. StandsFor new (bytes ++ t) kept.rows) same
        (subst (λ (e : Event). StandsFor new (bytes ++ take k line) (rows_after e kept.rows new.row)) is (push.stands bytes kept.rows kept.stands))

    scale : new.least ≡ f.scale
    scale = push.least ∙ kept.least

    by_parts : (h : Heading) × (new.heading ≡ Some h) × (header ≡ header_of new.least h) → HeaderStep f old new kept.rows bytes piece k header
    by_parts (h, some, e) =
        let (w, free, taken) = closed in
        let (g, agrees, at) = header_came w kept.stands here.0 after some free (sym (taken_of k piece short) ∙ taken) in
        let line = subst (λ (s : Scale). HasHeaderLine old.limits s (bytes ++ take k piece) new.begun g) scale
        (subst (λ (l : Limits). HasHeaderLine l new.least (bytes ++ take k piece) new.begun g) push.limits at) in
        record {
          heading = h;
          some = some;
          first = here.0;
          columns = g;
          is = e ∙ agrees ∙ ap (λ (s : Scale). header_of s g) scale;
          line = line;
          stands = after;
          ticks = header_ticks line kept.ticks;
          left = left_over bytes piece k short ∙ ap (λ t. (bytes ++ t) ++ drop k piece) (taken_of k piece short);
        }

-- what is kept once the header was read
pub kept_begun : {f : Formula} {old new : Reader} {case : Option Case} {bytes piece line : List ℕ} {k : ℕ} {event : Event} {header : Header} {c : Case}
    (kept : IsKept f old case bytes) → Pushed old new line k event → (s : HeaderStep f old new kept.rows bytes piece k header)
    → IsBegun f new.begun s.columns c → IsKept f new (Some c) (bytes ++ take k piece)
kept_begun {f} {new = new} {bytes = bytes} {piece = piece} {k = k} {c = c} kept push s begun = record {
  rows = [];
  ticks = kept.ticks;
  least = push.least ∙ kept.least;
  stands = subst (StandsFor new (bytes ++ take k piece)) (kept.stands.taken.goes_on.blank s.first).1 s.stands;
  has_case = subst (λ o. HasCase f o (bytes ++ take k piece) [] (Some c)) (sym s.some) (
    begun.case,
    ap (λ (t : Trace). t.rows) begun.trace,
    record {
      line = new.begun;
      heading = s.columns;
      is = ap (λ (t : Trace). t.header) begun.trace;
      at = s.line.at;
      fits = begun.fits;
    },
  );
}

-- a push of a line's bytes that came to a row
pub record RowStep (old new : Reader) (case : Option Case) (rows : List Row) (bytes piece : List ℕ) (k : ℕ) : Type 0 where
  -- the heading stays
  pub same : new.heading ≡ old.heading
  -- the reader stands for the bytes so far, with the row
  pub stands : StandsFor new (bytes ++ take k piece) (rows ++ new.row ∷ [])
  -- the row can be kept
  pub can : CanKeep case new.row

-- a piece that ends a row's line comes to this
pub row_step : {f : Formula} {old new : Reader} {case : Option Case} {bytes line : List ℕ} {k : ℕ} {event : Event} (piece : List ℕ)
    (kept : IsKept f old case bytes) → Pushed old new line k event → IsNext case piece line → event ≡ IsARow
    → RowStep old new case kept.rows bytes piece k
row_step {f} {old} {new} {case} {bytes} {line} {k} piece kept push next is = record {
  same = here.1;
  stands = subst (λ t. StandsFor new (bytes ++ t) (kept.rows ++ new.row ∷ [])) (front_same case piece line k next push.within)
      (subst (λ (e : Event). StandsFor new (bytes ++ take k line) (rows_after e kept.rows new.row)) is (push.stands bytes kept.rows kept.stands));
  can = can_keep f old case bytes new.heading new.row kept here.1
      (subst (λ (e : Event). IsNextRow e new.heading kept.rows new.row) is (push.next bytes kept.rows kept.stands));
}
  where
    here : HasCome IsARow old new (take k line)
    here = subst (λ (e : Event). HasCome e old new (take k line)) is push.came

-- a push of a line's bytes that came to nothing
pub nothing_step : {f : Formula} {old new : Reader} {case : Option Case} {bytes line : List ℕ} {k : ℕ} {event : Event} (piece : List ℕ)
    (kept : IsKept f old case bytes) → Pushed old new line k event → IsNext case piece line → event ≡ Nothing → IsKept f new case (bytes ++ take k piece)
nothing_step {f} {old} {new} {case} {bytes} {line} {k} piece kept push next is =
    let here : HasCome Nothing old new (take k line) = subst (λ (e : Event). HasCome e old new (take k line)) is push.came in
    let after = subst (λ (e : Event). StandsFor new (bytes ++ take k line) (rows_after e kept.rows new.row)) is (push.stands bytes kept.rows kept.stands) in
    kept_on f old new case bytes (take k piece) kept
    (subst (λ t. StandsFor new (bytes ++ t) kept.rows) (front_same case piece line k next push.within) after) push.least here.0
