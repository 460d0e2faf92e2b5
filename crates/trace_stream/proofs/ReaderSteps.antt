-- A reader of a trace with what follows its rows: what each of its steps comes to.
use Rattle.std.proofs.Common.{◌≡◌, inl, inr, ℕ, ◌-◌, Bool, true, false, List, [], ◌++◌, take, drop, refl, sym, ap, ◌∙◌, subst}
use Rattle.std.proofs.Common.{arith, append-nil, append_assoc, take-append-drop, Option, Some, None, Result, Ok, Err}
use Rattle.std.specs.Prelude.{MatchOption, MatchResult, IfOk, IfErr, option_map, All}
use Rattle.std.proofs.lemmas.List.{length-take-le}
use Rattle.stl_syntax.specs.Formula.{Formula, root}
use Rattle.stl_syntax.specs.Trace.{Header, Row}
use Rattle.stl_syntax.specs.declared.scale.Scale.{Scale}
use Rattle.trace_reader.specs.TraceText.{Line, lines, Heading, AreTraceLines}
use Rattle.trace_reader.specs.TraceRefusals.{FaultFrom}
use Rattle.trace_reader.specs.Feeds.{through_feed}
use Rattle.trace_reader.specs.Reader.{Reader, HasRead, HoldLines, HasReadBefore, IsFaultOfAll, header_of}
use Rattle.trace_reader.specs.declared.refusal.Limits.{Limits}
use Rattle.trace_reader.specs.declared.refusal.TraceRefusal.{TraceRefusal}
use Rattle.trace_reader.proofs.ReaderTakes.{through_parts}
use Rattle.trace_stream.specs.Streams.{Stream, StreamText, StreamOf}
use Rattle.trace_reader.specs.InputFaults.{Fault, of_trace, line_of, IsHeaderAt, IsLack, IsInputFault, faulted, faulted_header}
use Rattle.trace_stream.specs.Cases.{IsCase, IsLacking, IsNoBegin, IsHeaderOf, with_row}
use Rattle.trace_stream.specs.CaseReader.{IsKept, HasCase, IsRefused, IsEnded, IsLastFault, of_header, own}
use Rattle.trace_stream.specs.Following.{Follows, IsTextOf, IsFollowed, IsOpened, IsComplete, IsEndedOut, IsHeldUp}
use Rattle.trace_stream.specs.Following.{IsLive, IsLiveOpen, IsLastTaken, IsOver, IsLiveStop, IsOpenStop, stop_of}
use Rattle.trace_stream.specs.declared.case.Case.{Case}
use Rattle.trace_stream.specs.declared.follow.FollowFault.{FollowFault}
use Rattle.trace_stream.specs.declared.follow.FollowFault.TheVariants as follow
use Rattle.trace_stream.specs.declared.live.Live.{Live}
use Rattle.trace_stream.specs.declared.fault.TraceFault.{TraceFault}
use Rattle.trace_stream.specs.declared.fault.TraceFault.TheVariants.{Trace as InTrace}
use Rattle.trace_stream.specs.declared.fault.StreamStop.{StreamStop}
use Rattle.trace_stream.specs.declared.fault.StreamStop.TheVariants.{Fault as Faulty, NoMemory, Wide}
use Rattle.trace_stream.proofs.HeaderLines.{IsBlank, header_once, header_stays, header_within, header_after}
use Rattle.trace_stream.proofs.KeptRows.{sound_so_far}
use Rattle.trace_stream.proofs.KeptRows.{before_of_kept}
use Rattle.trace_stream.proofs.RowsBefore.{BeforeEnd, the_same, no_rows_there, before_end}
use Rattle.trace_stream.proofs.OwedRows.{no_rows_no_text}
use Rattle.trace_stream.proofs.KeptOfBytes.{IsNext, refused_next, same_header, HeaderStep}
use Rattle.trace_stream.proofs.WideRefused.{read_of_ended, row_held, end_held}

-- among blank lines there is no header
none_blank : (ls : List Line) {n : ℕ} {h : Heading} → All IsBlank ls → ¬ IsHeaderAt ls n h
none_blank ls {n} {h} all at =
    let after = header_after ls [] all (subst (λ l. IsHeaderAt l n h) (sym (append-nil ls)) at) in
    omega (arith, after, (header_within at).1)

-- no header stands before the one that lacks something
pub none_before_lack : (limits : Limits) (f : Formula) (bytes : List ℕ) (ended : Bool) (x : Fault) → IsLack limits f bytes ended x → (m : ℕ) (g : Heading)
    → ¬ IsHeaderAt (take (line_of x - 1) (lines ended bytes)) m g
none_before_lack limits f bytes ended x (n, h, at, lacking, clean) m g there =
    let line = line_is lacking in
    let all = subst (λ ls. IsHeaderAt ls m g) (take-append-drop (line_of x - 1) (lines ended bytes))
    (header_stays (drop (line_of x - 1) (lines ended bytes)) there) in
    let same = (header_once all at).0 in
    omega (
      arith,
      line,
      same,
      (header_within there).1,
      (header_within at).1,
      (header_within at).0,
      length-take-le (line_of x - 1) (lines ended bytes) (omega (arith, line, (header_within at).1)),
    )
  where
    line_is : IsLacking f n h x → line_of x ≡ n
    line_is (inl (atom, term, name, is, e)) = ap line_of e
    line_is (inr (fits, (fault, is, e))) = ap line_of e

-- a row was not taken for a fault of what follows the rows
pub held_fault : (kind : Stream) (case : Option Case) (last : Bool) (old new : List ℕ) (stop : StreamStop) → IsHeldUp kind case last old new stop
    → (fault : FollowFault) × (stop ≡ stop_of fault)
held_fault kind None last old new stop held = absurd held
held_fault kind (Some c) last old new stop (fault, same, why, none) = (fault, same)

-- more text after what was written
pub more_text : (written old new grown : List ℕ) → new ≡ old ++ grown → written ++ new ≡ (written ++ old) ++ grown
more_text written old new grown e = ap (λ t. written ++ t) e ∙ sym (append_assoc written old grown)

module _ {F : Type 0} (Stands Owes : F → Case → List ℕ → Type 0) (kind : Stream) where
  -- where no text is owed
  pub open_of : (follower : Option F) (case : Option Case) (made : List ℕ) → IsFollowed Stands kind follower case made
      → IsOpened Stands Owes kind follower case made
  open_of None None made t = t
  open_of None (Some c) made t = t
  open_of (Some x) None made t = t
  open_of (Some x) (Some c) made t = inl t

  -- a reader whose text is all made owes nothing
  pub live_open : (live : Live F) (bytes written : List ℕ) → IsLive Stands kind live bytes written → IsLiveOpen Stands Owes kind live bytes written
  live_open live bytes written k =
      record { served = k.served; case = k.case; kept = k.kept; followed = open_of live.follower k.case (written ++ live.text) k.followed }

  -- the bytes to read next, by what follows the rows
  pub next_of : (follower : Option F) (case : Option Case) (made piece line : List ℕ) → IsOpened Stands Owes kind follower case made
      → MatchOption follower (line ≡ through_feed piece) (λ _. line ≡ piece) → IsNext case piece line
  next_of None None made piece line t m = m
  next_of None (Some c) made piece line t m = absurd t
  next_of (Some x) None made piece line t m = absurd t
  next_of (Some x) (Some c) made piece line t m = m

  -- nothing was made before the header
  pub none_open : (follower : Option F) (f : Formula) (o : Option Heading) (bytes : List ℕ) (rows : List Row) (case : Option Case)
      (made : List ℕ) → HasCase f o bytes rows case → o ≡ None
      → IsOpened Stands Owes kind follower case made → made ≡ []
  none_open None f o bytes rows None made has_case e t = t
  none_open (Some x) f o bytes rows None made has_case e t = absurd t
  none_open follower f o bytes rows (Some c) made has_case e t = absurd (no_case (subst (λ p. HasCase f p bytes rows (Some c)) e has_case))
    where
      no_case : HasCase f None bytes rows (Some c) → ⊥
      no_case k = let h = k in cc

module _ {F : Type 0} (Stands : F → Case → List ℕ → Type 0) (kind : Stream) where
  -- nothing was made before the header
  pub none_made : (follower : Option F) (f : Formula) (o : Option Heading) (bytes : List ℕ) (rows : List Row) (case : Option Case)
      (made : List ℕ) → HasCase f o bytes rows case → o ≡ None
      → IsFollowed Stands kind follower case made → made ≡ []
  none_made follower f o bytes rows case made has_case e t =
      none_open Stands Stands kind follower f o bytes rows case made has_case e (open_of Stands Stands kind follower case made t)

  -- the text of the rows of a case is that of the stream
  pub text_of_case : (f : Formula) (x : F) (c : Case) (made : List ℕ) → IsCase f c → Follows (Stands x) kind c made
      → StreamOf kind f (Some c.trace.header) c.trace.rows false made
  text_of_case f x c made fits told = subst (λ (g : Formula). StreamText kind (root g.nodes) c.trace.header c.trace.rows false made) fits.formula told.told

  -- the rows before a line that was refused
  pub text_before : {f : Formula} {r : Reader} {case : Option Case} {bytes : List ℕ} (follower : Option F) (all made : List ℕ) (ended : Bool)
      (x : Fault) (k : IsKept f r case bytes)
      → HoldLines r.heading f.scale (take (line_of x - 1) (lines ended all)) k.rows → IsInputFault r.limits f all ended x
      → IsFollowed Stands kind follower case made
      → IsTextOf kind r.limits f all ended made
  text_before {f} {r} {case} {bytes} follower all made ended x k hold fault t = by_heading r.heading refl k.has_case hold t
    where
      told_header : (h : Heading) → r.heading ≡ Some h → (header : Header) → IsHeaderOf f bytes header → header ≡ header_of f.scale h
      told_header h e header is =
          same_header is false h (subst (λ (s : Scale). AreTraceLines s (lines false bytes) (header_of s h) k.rows) k.least
          (subst (λ o. HasRead o r.least bytes k.rows) e k.stands.read))

      by_heading : (o : Option Heading) → r.heading ≡ o → HasCase f o bytes k.rows case → HoldLines o f.scale (take (line_of x - 1) (lines ended all)) k.rows
          → IsFollowed Stands kind follower case made → IsTextOf kind r.limits f all ended made
      by_heading None e has_case (blank, none) t = record {
        header = None;
        rows = [];
        whole = false;
        before = faulted_header x fault (λ m g at. none_blank (take (line_of x - 1) (lines ended all)) blank at);
        is = by_none follower (subst (λ c. IsFollowed Stands kind follower c made) has_case t);
      }
        where
          by_none : (o : Option F) → IsFollowed Stands kind o None made → made ≡ []
          by_none None t = t
          by_none (Some y) t = absurd t
      by_heading (Some h) e has_case lines_are t = by_case case follower has_case t
        where
          by_case : (case : Option Case) (follower : Option F) → HasCase f (Some h) bytes k.rows case
              → IsFollowed Stands kind follower case made → IsTextOf kind r.limits f all ended made
          by_case None o has_case t = absurd has_case
          by_case (Some c) None has_case t = absurd t
          by_case (Some c) (Some y) (fits, rows, header) t = record {
            header = Some c.trace.header;
            rows = c.trace.rows;
            whole = false;
            before = faulted x fault (subst (λ (z : Header). AreTraceLines f.scale (take (line_of x - 1) (lines ended all)) z c.trace.rows)
                (sym (told_header h e c.trace.header header))
                (subst (λ rs. AreTraceLines f.scale (take (line_of x - 1) (lines ended all)) (header_of f.scale h) rs) (sym rows) lines_are));
            is = text_of_case f y c made fits t;
          }

  -- what was made is the text of the rows that were kept
  pub told_of_kept : (f : Formula) (r : Reader) (follower : Option F) (case : Option Case) (bytes made : List ℕ)
      (k : IsKept f r case bytes) → IsFollowed Stands kind follower case made
      → StreamOf kind f (option_map (header_of f.scale) r.heading) k.rows false made
  told_of_kept f r follower case bytes made k t = by_heading r.heading refl k.has_case case follower refl k.has_case t
    where
      by_heading : (o : Option Heading) → r.heading ≡ o → HasCase f r.heading bytes k.rows case → (c : Option Case) (x : Option F)
          → case ≡ c → HasCase f o bytes k.rows c → IsFollowed Stands kind x c made
          → StreamOf kind f (option_map (header_of f.scale) o) k.rows false made
      by_heading None e u c x same has_case t = none_made x f None bytes k.rows c made has_case refl t
      by_heading (Some h) e u None x same has_case t = absurd has_case
      by_heading (Some h) e u (Some c) None same has_case t = absurd t
      by_heading (Some h) e u (Some c) (Some y) same (fits, rows, header) t =
          let is = same_header header false h (subst (λ (s : Scale). AreTraceLines s (lines false bytes) (header_of s h) k.rows) k.least
          (subst (λ o. HasRead o r.least bytes k.rows) e k.stands.read)) in
          subst (λ (z : Header). StreamOf kind f (Some z) k.rows false made) is
          (subst (λ rs. StreamOf kind f (Some c.trace.header) rs false made) rows (text_of_case f y c made fits t))

  -- the fault that the reader ended with, by what follows the rows
  pub last_by_case : (f : Formula) (r : Reader) (follower : Option F) (case : Option Case) (made : List ℕ) (x : TraceRefusal)
      (stop : StreamStop) → IsFollowed Stands kind follower case made
      → IsLastFault f r follower x stop → IsLastFault f r case x stop
  last_by_case f r None None made x stop t (of_header h none kind_is read no_begin) = of_header h refl kind_is read no_begin
  last_by_case f r None None made x stop t (own fits) = own (λ none. fits refl)
  last_by_case f r None (Some c) made x stop t l = absurd t
  last_by_case f r (Some y) None made x stop t l = absurd t
  last_by_case f r (Some y) (Some c) made x stop t (of_header h none kind_is read no_begin) = absurd (let j = none in cc)
  last_by_case f r (Some y) (Some c) made x stop t (own fits) = own (λ none. absurd (let j = none in cc))

  -- all bytes were refused at their end
  pub live_end_refused : (f : Formula) (r : Reader) (follower : Option F) (case : Option Case) (bytes made : List ℕ)
      (k : IsKept f r case bytes) (stop : StreamStop) → IsFollowed Stands kind follower case made
      → IsRefused r.limits f true bytes stop → IsLiveStop kind r.limits f true bytes made stop
  live_end_refused f r follower case bytes made k (Faulty fault) t (x, is, input) =
      (x, is, input, by_end (before_end r.limits f bytes (before_of_kept f r case bytes k) (sound_so_far f r case bytes k) x input))
    where
      told : StreamOf kind f (option_map (header_of f.scale) r.heading) k.rows false made
      told = told_of_kept f r follower case bytes made k t

      by_end : BeforeEnd r.limits f bytes (option_map (header_of f.scale) r.heading) k.rows → IsTextOf kind r.limits f bytes true made
      by_end (the_same before) = record { header = option_map (header_of f.scale) r.heading; rows = k.rows; whole = false; before = before; is = told }
      by_end (no_rows_there none before) =
          record {
            header = None;
            rows = [];
            whole = false;
            before = before;
            is = no_rows_no_text kind f (option_map (header_of f.scale) r.heading) k.rows made none told;
          }
  live_end_refused f r follower case bytes made k NoMemory t is = tt
  live_end_refused f r follower case bytes made k (Wide i den) t is = absurd is

  -- the case of all bytes
  pub last_taken : (limits : Limits) (f : Formula) (follower : Option F) (case : Option Case) (bytes made : List ℕ)
      → MatchOption case ⊥ (IsEnded limits f bytes) → IsFollowed Stands kind follower case made
      → IsLastTaken Stands kind limits f follower bytes made
  last_taken limits f follower None bytes made e t = absurd e
  last_taken limits f follower (Some c) bytes made e t = record { case = c; fits = e.case; trace = e.whole; followed = t }

  -- one row more, with which the bytes are those of a trace
  module _ (limits : Limits) (f : Formula) (bytes written : List ℕ) (case : Option Case) (row : Row)
      (ended : MatchOption (option_map (with_row row) case) ⊥ (IsEnded limits f bytes)) where
    -- it is the last one, once its text was made
    pub last_row : (old new : List ℕ) (follower : Option F) (r : Result (Unit {0}) StreamStop)
        → IfOk r (λ _. (grown : List ℕ) × (new ≡ old ++ grown) × IsFollowed Stands kind follower (option_map (with_row row) case) ((written ++ old) ++ grown))
        → IfErr r (λ e. e ≡ NoMemory)
        → MatchResult r (λ _. IsLastTaken Stands kind limits f follower bytes (written ++ new)) (λ e. IsLiveStop kind limits f true bytes (written ++ new) e)
    last_row old new follower (Ok x) (grown, e, t) none =
        last_taken limits f follower (option_map (with_row row) case) bytes (written ++ new) ended
        (subst (λ made. IsFollowed Stands kind follower (option_map (with_row row) case) made) (sym (more_text written old new grown e)) t)
    last_row old new follower (Err e) ok none =
        subst (λ (s : StreamStop). IsLiveStop kind limits f true bytes (written ++ new) s) (sym none) tt

    -- and where it was not taken
    pub last_held : (old new : List ℕ) (before : Option F) (e : StreamStop) → IsHeldUp kind (option_map (with_row row) case) false old new e
        → IsFollowed Stands kind before case (written ++ old) → IsLiveStop kind limits f true bytes (written ++ new) e
    last_held old new before e held was =
        row_held Stands kind limits f bytes true bytes [] (sym (append-nil bytes)) true (λ k. (refl, refl)) before case row written old new e
        (λ c is. read_of_ended limits f bytes c (subst (λ (o : Option Case). MatchOption o ⊥ (IsEnded limits f bytes)) is ended)) was held

module _ {F : Type 0} (Stands Owes : F → Case → List ℕ → Type 0) (kind : Stream) where
  -- a piece was refused
  pub live_refused : (live : Live F) (bytes written piece line : List ℕ) (x : TraceRefusal) → (k : IsLiveOpen Stands Owes kind live bytes written)
      → MatchOption live.follower (line ≡ through_feed piece) (λ _. line ≡ piece) → IsFaultOfAll live.rows.limits live.rows.least (bytes ++ line) x
      → HasReadBefore x.line live.rows.heading live.rows.least (bytes ++ line) k.kept.rows
      → IsOpenStop Stands Owes kind live.rows.limits live.formula false (bytes ++ piece) live.follower (written ++ live.text) (Faulty (InTrace x))
  live_refused live bytes written piece line x k next fault before =
      let one = next_of Stands Owes kind live.follower k.case (written ++ live.text) piece line k.followed next in
      let first = refused_next live.formula live.rows k.case bytes piece line x k.kept one fault in (
        of_trace x,
        refl,
        first,
        k.case,
        k.followed,
        λ after made t.
            text_before Stands kind after (bytes ++ piece) made false (of_trace x) k.kept (held (left k.case one)) first t,
      )
    where
      left : (case : Option Case) → IsNext case piece line → (more : List ℕ) × (piece ≡ line ++ more)
      left None e = let (others, p) = through_parts piece in (others, p ∙ ap (λ l. l ++ others) (sym e))
      left (Some c) e = ([], sym (append-nil line ∙ e))

      held : (more : List ℕ) × (piece ≡ line ++ more)
          → HoldLines live.rows.heading live.formula.scale (take (x.line - 1) (lines false (bytes ++ piece))) k.kept.rows
      held (more, e) =
          subst (λ b. HoldLines live.rows.heading live.formula.scale (take (x.line - 1) (lines false b)) k.kept.rows)
          (append_assoc bytes line more ∙ ap (λ p. bytes ++ p) (sym e))
          (subst (λ (s : Scale). HoldLines live.rows.heading s (take (x.line - 1) (lines false ((bytes ++ line) ++ more))) k.kept.rows)
          k.kept.least (before more false))

  -- the header that came lacks something
  pub live_lacks : {f : Formula} {old new : Reader} {rows : List Row} {bytes piece : List ℕ} {at : ℕ} {header : Header} (stop : StreamStop)
      → (s : HeaderStep f old new rows bytes piece at header) → IsNoBegin f new.begun s.columns stop
      → (follower : Option F) (case : Option Case) (text : List ℕ) → HasCase f old.heading bytes rows case
      → IsOpened Stands Owes kind follower case text
      → IsOpenStop Stands Owes kind old.limits f false (bytes ++ piece) follower text stop
  live_lacks {f} {old} {new} {rows} {bytes} {piece} {at} (Faulty fault) s (y, is, lacking) follower case text has_case t =
      let lack : IsLack old.limits f (bytes ++ piece) false y = (
        new.begun,
        s.columns,
        subst (λ b. IsHeaderAt (lines false b) new.begun s.columns) (sym s.left) (s.line.at false (drop at piece)),
        lacking,
        λ r fault. s.line.clean false (drop at piece) r
            (subst (λ b. FaultFrom old.limits f.scale false 1 (take new.begun (lines false b)) r) s.left fault),
      ) in (
        y,
        is,
        inl lack,
        case,
        t,
        λ after made u. record {
          header = None;
          rows = [];
          whole = false;
          before = faulted_header y (inl lack) (none_before_lack old.limits f (bytes ++ piece) false y lack);
          is = none_made Stands kind after f old.heading bytes rows case made has_case s.first u;
        },
      )
  live_lacks NoMemory s never follower case text has_case t = tt
  live_lacks (Wide i den) s never follower case text has_case t = absurd never

  -- a stop in the bytes that were left is one of the whole piece
  pub live_fed : (limits : Limits) (f : Formula) (bytes piece text : List ℕ) (at : ℕ) (follower : Option F) (stop : StreamStop)
      → IsOpenStop Stands Owes kind limits f false ((bytes ++ take at piece) ++ drop at piece) follower text stop
      → IsOpenStop Stands Owes kind limits f false (bytes ++ piece) follower text stop
  live_fed limits f bytes piece text at follower stop h =
      subst (λ b. IsOpenStop Stands Owes kind limits f false b follower text stop)
      (append_assoc bytes (take at piece) (drop at piece) ∙ ap (λ p. bytes ++ p) (take-append-drop at piece)) h

  -- a row was not taken, for a fault of what follows the rows
  pub open_held : (limits : Limits) (f : Formula) (ended : Bool) (bytes : List ℕ) (follower : Option F) (text : List ℕ) (stop : StreamStop)
      (fault : FollowFault) → stop ≡ stop_of fault → IsLiveStop kind limits f ended bytes text stop
      → IsOpenStop Stands Owes kind limits f ended bytes follower text stop
  open_held limits f ended bytes follower text stop follow.Memory same is =
      subst (λ (s : StreamStop). IsOpenStop Stands Owes kind limits f ended bytes follower text s) (sym same) tt
  open_held limits f ended bytes follower text stop (follow.Wide i den) same is =
      subst (λ (s : StreamStop). IsOpenStop Stands Owes kind limits f ended bytes follower text s) (sym same)
      (subst (λ (s : StreamStop). IsLiveStop kind limits f ended bytes text s) same is)

  -- what is owed was made
  pub open_flushed : (mid : Live F) (bytes written new grown : List ℕ) (after : Option F)
      → (k : IsLiveOpen Stands Owes kind mid bytes written) → new ≡ mid.text ++ grown
      → IsFollowed Stands kind after k.case ((written ++ mid.text) ++ grown)
      → IsLive Stands kind (record mid { follower = after; text = new }) bytes written
  open_flushed mid bytes written new grown after k e t = record {
    served = k.served;
    case = k.case;
    kept = k.kept;
    followed = subst (λ made. IsFollowed Stands kind after k.case made) (sym (more_text written mid.text new grown e)) t;
  }

  -- so where that answers
  pub flushed : (limits : Limits) (f : Formula) (mid : Live F) (bytes written new : List ℕ) (after : Option F) (r : Result (Unit {0}) StreamStop)
      → (k : IsLiveOpen Stands Owes kind mid bytes written)
      → IfOk r (λ _. (grown : List ℕ) × (new ≡ mid.text ++ grown) × IsFollowed Stands kind after k.case ((written ++ mid.text) ++ grown))
      → IfErr r (λ e. e ≡ NoMemory)
      → MatchResult r (λ _. IsLive Stands kind (record mid { follower = after; text = new }) bytes written)
      (λ e. IsLiveStop kind limits f false bytes (written ++ new) e)
  flushed limits f mid bytes written new after (Ok x) k (grown, e, t) none = open_flushed mid bytes written new grown after k e t
  flushed limits f mid bytes written new after (Err e) k ok none =
      subst (λ (s : StreamStop). IsLiveStop kind limits f false bytes (written ++ new) s) (sym none) tt

  -- so at a fault
  pub fault_flushed : (limits : Limits) (f : Formula) (ended : Bool) (bytes written old new : List ℕ) (follower after : Option F) (fault : TraceFault)
      → (k : IsOpenStop Stands Owes kind limits f ended bytes follower (written ++ old) (Faulty fault))
      → (grown : List ℕ) × (new ≡ old ++ grown) × IsFollowed Stands kind after k.3 ((written ++ old) ++ grown)
      → IsLiveStop kind limits f ended bytes (written ++ new) (Faulty fault)
  fault_flushed limits f ended bytes written old new follower after fault k (grown, e, t) = (
    k.0,
    k.1,
    k.2,
    subst (λ made. IsTextOf kind limits f bytes ended made) (sym (more_text written old new grown e)) (k.5 after ((written ++ old) ++ grown) t),
  )

-- the end was taken
pub over_of : {F : Type 0} {Stands : F → Case → List ℕ → Type 0} {kind : Stream} {limits : Limits} {f : Formula} {before : Option F} {bytes : List ℕ}
    (Ended : F → Case → List ℕ → Type 0) (live : Live F) (written old : List ℕ) (r : Result Bool StreamStop)
    → (last : IsLastTaken Stands kind limits f before bytes (written ++ old))
    → IfOk r (IsEndedOut Ended kind live.follower last.case old live.text (written ++ old)) → IfErr r (IsHeldUp kind (Some last.case) true old live.text)
    → MatchResult r (IsOver Ended kind limits f live bytes (written ++ live.text)) (λ e. IsLiveStop kind limits f true bytes (written ++ live.text) e)
over_of {kind = kind} Ended live written old (Ok holds) last (x, is, (grown, e, complete)) held = record {
  case = last.case;
  fits = last.fits;
  trace = last.trace;
  follower = x;
  is = is;
  complete = subst (λ made. IsComplete (Ended x) kind last.case made holds) (sym (more_text written old live.text grown e)) complete;
}
over_of {Stands = Stands} {kind} {limits} {f} {before} {bytes} Ended live written old (Err e) last ok held =
    end_held Stands kind limits f bytes true bytes [] (sym (append-nil bytes)) true (λ k. (refl, refl)) before last.case written old live.text e refl
    (record { fits = last.fits; sound = last.trace.sound; read = last.trace.trace.text.read }) last.followed held
