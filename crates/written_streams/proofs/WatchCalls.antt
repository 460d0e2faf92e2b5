-- What a watch's calls come to.
use Rattle.std.proofs.Common.{◌≡◌, ◌≢◌, inl, inr, ℕ, Bool, true, false, List, [], ◌++◌, refl, sym, ap, ◌∙◌, subst, append_assoc, Option, Result, Ok, Err}
use Rattle.std.specs.Prelude.{MatchResult, MatchBool}
use Rattle.std.specs.Io.KnownBytes.{Appends}
use Rattle.stl_syntax.specs.Formula.{Formula, root}
use Rattle.stl_syntax.specs.Trace.{Trace}
use Rattle.stl_syntax.specs.Stream.{IsStreamText}
use Rattle.stl_syntax.specs.declared.scale.UnitFault.TheVariants as unit_fault
use Rattle.trace_reader.specs.declared.refusal.Limits.{Limits}
use Rattle.trace_stream.specs.Streams.{HoldsAtStart, TellsTruth, status_of_truth, verdicts}
use Rattle.trace_stream.specs.Cases.{IsFault}
use Rattle.trace_reader.specs.InputFaults.{stream_limits, Fault, of_trace, unknown, unit, IsInputFault}
use Rattle.trace_stream.specs.Following.{IsTextOf, IsLive, IsOver, IsDone, IsLiveStop}
use Rattle.written_streams.specs.MadeWritten.{IsMadeWritten, no_room, made_whole, made_in_part}
use Rattle.written_streams.specs.Watches.{Past, with_piece, with_text, IsText, WatchesRows, WatchesEnd, StandsFor, StandsForAll}
use Rattle.written_streams.specs.Watches.{HasPushed, HasFinished, HasFault, IsWatchFault, IsCall, IsFaultOf}
use Rattle.trace_stream.specs.declared.fault.TraceFault.TheVariants.{Trace as InTrace, Unknown, Unit as InTicks}
use Rattle.trace_stream.specs.declared.fault.StreamStop.{StreamStop}
use Rattle.trace_stream.specs.declared.fault.StreamStop.TheVariants as stream_stop
use Rattle.written_streams.specs.declared.made.Halt.{Halt}
use Rattle.written_streams.specs.declared.made.Halt.TheVariants.{Reader, Unwritten}
use Rattle.trace_stream.specs.declared.live.Live.{Live}
use Rattle.verdict_stream.specs.declared.verdicts.Verdicts.{Verdicts}
use Rattle.written_streams.specs.declared.watch.Phase.{Phase}
use Rattle.written_streams.specs.declared.watch.Phase.TheVariants.{Reading, Ended}
use Rattle.written_streams.specs.declared.watch.WatchFault.{WatchFault}
use Rattle.written_streams.specs.declared.watch.WatchFault.TheVariants as fault
use Rattle.trace_stream.proofs.Told.{told_now, calm_now, live_after, told_over, over_after}

-- ---- faults

-- want of memory is no fault of the ticks
unit_is : (limits : Limits) (f : Formula) (bytes : List ℕ) (ended : Bool) (line : ℕ) (x : Fault) → x ≡ unit line unit_fault.Memory
    → ¬ IsInputFault limits f bytes ended x
unit_is limits f bytes ended line x e (inl (n, h, at, inl (atom, term, name, is, same), clean)) = let k = sym e ∙ same in cc
unit_is limits f bytes ended line x e (inl (n, h, at, inr (none, (u, inl (i, first, is), same)), clean)) =
    let k : unit line unit_fault.Memory ≡ unit n u = sym e ∙ same in
    let m : unit_fault.Memory ≡ u = cc in
    let no : unit_fault.Memory ≡ unit_fault.Constant i = m ∙ is in
    cc
unit_is limits f bytes ended line x e (inl (n, h, at, inr (none, (u, inr (few, (large, is)), same)), clean)) =
    let k : unit line unit_fault.Memory ≡ unit n u = sym e ∙ same in
    let m : unit_fault.Memory ≡ u = cc in
    let no = m ∙ is in
    cc
unit_is limits f bytes ended line x e (inr (none, (r, first, same))) = let k = sym e ∙ same in cc

-- why the reader under a watch stopped, which wrote this
abbrev pub IsStoppedBy : Past → Bool → List ℕ → Halt → Type 0
IsStoppedBy p ended grown (Reader (stream_stop.Fault stored)) = (x : Fault) × IsFault p.formula stored x × HasFault p ended x
IsStoppedBy p ended grown (Reader stream_stop.NoMemory) = grown ≡ []
IsStoppedBy p ended grown (Reader (stream_stop.Wide i den)) = ⊥
IsStoppedBy p ended grown Unwritten = (rest : List ℕ) × (rest ≢ []) × IsText (with_text p rest) ended

-- it is one of a watch's faults
pub has_fault : (p : Past) (ended : Bool) (grown : List ℕ) (halt : Halt) → IsStoppedBy p ended grown halt → (x : WatchFault) × IsFaultOf halt x
has_fault p ended grown (Reader (stream_stop.Fault (InTrace r))) s = (fault.Trace r, refl)
has_fault p ended grown (Reader (stream_stop.Fault (Unknown line atom term))) s = (fault.Unknown line atom term, refl)
has_fault p ended grown (Reader (stream_stop.Fault (InTicks line (unit_fault.Constant node)))) s = (fault.UnitConstant line node, refl)
has_fault p ended grown (Reader (stream_stop.Fault (InTicks line (unit_fault.Reach sum)))) s = (fault.UnitReach line sum, refl)
has_fault p ended grown (Reader (stream_stop.Fault (InTicks line unit_fault.Memory))) (x, is, h) =
    absurd (unit_is p.limits p.formula p.bytes ended line x is h.0)
has_fault p ended grown (Reader stream_stop.NoMemory) s = (fault.Memory, refl)
has_fault p ended grown (Reader (stream_stop.Wide i den)) s = absurd s
has_fault p ended grown Unwritten s = (fault.Write, refl)

same_fault : (p : Past) (ended : Bool) (x y : Fault) → x ≡ y → HasFault p ended x → HasFault p ended y
same_fault p ended x y e h = subst (λ (z : Fault). HasFault p ended z) e h

-- which says what it is
pub is_watch_fault : (p : Past) (ended : Bool) (grown : List ℕ) (halt : Halt) (w : WatchFault) → IsStoppedBy p ended grown halt
    → IsFaultOf halt w → IsWatchFault p ended grown w
is_watch_fault p ended grown (Reader (stream_stop.Fault (InTrace r))) w (x, is, h) e =
    subst (λ (v : WatchFault). IsWatchFault p ended grown v) (sym e) (same_fault p ended x (of_trace r) is h)
is_watch_fault p ended grown (Reader (stream_stop.Fault (Unknown line atom term))) w (x, (name, named, is), h) e =
    subst (λ (v : WatchFault). IsWatchFault p ended grown v) (sym e) (name, named, same_fault p ended x (unknown line atom term name) is h)
is_watch_fault p ended grown (Reader (stream_stop.Fault (InTicks line (unit_fault.Constant node)))) w (x, is, h) e =
    subst (λ (v : WatchFault). IsWatchFault p ended grown v) (sym e) (same_fault p ended x (unit line (unit_fault.Constant node)) is h)
is_watch_fault p ended grown (Reader (stream_stop.Fault (InTicks line (unit_fault.Reach sum)))) w (x, is, h) e =
    subst (λ (v : WatchFault). IsWatchFault p ended grown v) (sym e) (same_fault p ended x (unit line (unit_fault.Reach sum)) is h)
is_watch_fault p ended grown (Reader (stream_stop.Fault (InTicks line unit_fault.Memory))) w s e = absurd e
is_watch_fault p ended grown (Reader stream_stop.NoMemory) w s e = subst (λ (v : WatchFault). IsWatchFault p ended grown v) (sym e) s
is_watch_fault p ended grown (Reader (stream_stop.Wide i den)) w s e = absurd s
is_watch_fault p ended grown Unwritten w s e = subst (λ (v : WatchFault). IsWatchFault p ended grown v) (sym e) s

-- ---- calls

-- what came of a call: all that was made was written, or it stopped
abbrev pub HasWritten : {T : Type 0} → Option (List ℕ) → Option (List ℕ) → Past → Bool → List ℕ → (T → Type 0) → Result T Halt → Type 0
HasWritten held held_after p ended made Good (Ok x) = Appends held held_after made × Good x
HasWritten held held_after p ended made Good (Err halt) = (grown : List ℕ) × Appends held held_after grown × IsStoppedBy (with_text p grown) ended grown halt

module _ {T : Type 0} (held held_after : Option (List ℕ)) (p : Past) (ended : Bool) (made : List ℕ) (Good : T → Type 0) where
  -- the text that was made is that of the rows
  abbrev Made : Type 0
  Made = IsTextOf verdicts p.limits p.formula p.bytes ended (p.text ++ made)

  in_part : (front back : List ℕ) → made ≡ front ++ back → Made → IsText (with_text (with_text p front) back) ended
  in_part front back e m =
      subst (λ t. IsTextOf verdicts p.limits p.formula p.bytes ended t) (ap (λ t. p.text ++ t) e ∙ sym (append_assoc p.text front back)) m

  fault_made : (e : StreamStop) → e ≢ stream_stop.NoMemory → IsLiveStop verdicts p.limits p.formula ended p.bytes (p.text ++ made) e → Made
  fault_made (stream_stop.Fault stored) ne (x, is, input, t) = t
  fault_made stream_stop.NoMemory ne h = absurd (ne refl)
  fault_made (stream_stop.Wide i den) ne h = absurd h

  stopped_by : (e : StreamStop) → e ≢ stream_stop.NoMemory → IsLiveStop verdicts p.limits p.formula ended p.bytes (p.text ++ made) e
      → IsStoppedBy (with_text p made) ended made (Reader e)
  stopped_by (stream_stop.Fault stored) ne (x, is, input, t) = (x, is, (input, t))
  stopped_by stream_stop.NoMemory ne h = absurd (ne refl)
  stopped_by (stream_stop.Wide i den) ne h = absurd h

  -- by what came of the bytes
  pub written_call : (outcome : Result T StreamStop) (result : Result T Halt) → IsMadeWritten held held_after made outcome result
      → MatchResult outcome (λ x. Good x × Made) (λ e. IsLiveStop verdicts p.limits p.formula ended p.bytes (p.text ++ made) e)
      → HasWritten held held_after p ended made Good result
  written_call outcome result (no_room kept) h = ([], kept, refl)
  written_call (Ok x) result (made_whole ne wrote) h = (wrote, h.0)
  written_call (Err stop) result (made_whole ne wrote) h = (made, wrote, stopped_by stop (λ e. ne (ap Err e)) h)
  written_call (Ok x) result (made_in_part ne part) h = (part.front, part.wrote, (part.back, part.missing, in_part part.front part.back part.parts h.1))
  written_call (Err stop) result (made_in_part ne part) h =
      (part.front, part.wrote, (part.back, part.missing, in_part part.front part.back part.parts (fault_made stop (λ e. ne (ap Err e)) h)))

-- a call that stopped
pub call_stopped : (held held_after : Option (List ℕ)) (p : Past) (ended : Bool) (made : List ℕ) (T : Type 0) (Good : T → Type 0)
    (Fine : T → Past → Type 0) (halt : Halt) (w : WatchFault)
    → HasWritten held held_after p ended made Good (Err halt) → IsFaultOf halt w → IsCall held held_after p ended Fine (Err w)
call_stopped held held_after p ended made T Good Fine halt w (grown, wrote, s) e = (grown, wrote, is_watch_fault (with_text p grown) ended grown halt w s e)

-- a call that stopped did so for a fault of its kind
pub fault_there : (held held_after : Option (List ℕ)) (p : Past) (ended : Bool) (made : List ℕ) (T : Type 0) (Good : T → Type 0) (halt : Halt)
    → HasWritten held held_after p ended made Good (Err halt) → (x : WatchFault) × IsFaultOf halt x
fault_there held held_after p ended made T Good halt (grown, wrote, s) = has_fault (with_text p grown) ended grown halt s

-- ---- a piece

module _ (old mid : Live Verdicts) (p : Past) (piece : List ℕ) (phase : Phase) (s : StandsFor p (record { live = old; phase = phase }))
    (formula : mid.formula ≡ old.formula) (limits : mid.rows.limits ≡ old.rows.limits) where
  -- what the reader took of it
  abbrev pub Took : Unit {0} → Type 0
  Took x = IsLive WatchesRows verdicts mid (p.bytes ++ piece) p.text

  -- the reader's outcome, as one of the past
  pub piece_fed : (fed : Result (Unit {0}) StreamStop)
      → MatchResult fed (λ _. IsLive WatchesRows verdicts mid (p.bytes ++ piece) p.text)
      (λ e. IsLiveStop verdicts old.rows.limits old.formula false (p.bytes ++ piece) (p.text ++ mid.text) e)
      → MatchResult fed (λ x. Took x × IsTextOf verdicts p.limits p.formula (p.bytes ++ piece) false (p.text ++ mid.text))
      (λ e. IsLiveStop verdicts p.limits p.formula false (p.bytes ++ piece) (p.text ++ mid.text) e)
  piece_fed (Ok x) h = (
    h,
    subst (λ (l : Limits). IsTextOf verdicts l p.formula (p.bytes ++ piece) false (p.text ++ mid.text)) (limits ∙ s.limits)
        (subst (λ (f : Formula). IsTextOf verdicts mid.rows.limits f (p.bytes ++ piece) false (p.text ++ mid.text))
        (formula ∙ s.formula) (told_now WatchesRows verdicts mid (p.bytes ++ piece) p.text h)),
  )
  piece_fed (Err e) h = subst (λ (l : Limits). IsLiveStop verdicts l p.formula false (p.bytes ++ piece) (p.text ++ mid.text) e) s.limits
      (subst (λ (f : Formula). IsLiveStop verdicts old.rows.limits f false (p.bytes ++ piece) (p.text ++ mid.text) e) s.formula h)

  -- what a watch is after it
  pub has_pushed : (new : Live Verdicts) → new ≡ record mid { text = [] } → phase ≡ Reading → IsLive WatchesRows verdicts mid (p.bytes ++ piece) p.text
      → HasPushed (with_text (with_piece p piece) mid.text) (record { live = new; phase = phase })
  has_pushed new e reading k =
      subst (λ (l : Live Verdicts). HasPushed (with_text (with_piece p piece) mid.text) (record { live = l; phase = phase })) (sym e) (record {
        stands = record {
          phase = reading;
          formula = formula ∙ s.formula;
          limits = limits ∙ s.limits;
          empty = refl;
          live = live_after WatchesRows verdicts mid (p.bytes ++ piece) p.text k;
        };
        text = (piece_fed (Ok tt) k).1;
        sound = λ x. subst (λ (l : Limits). ¬ IsInputFault l p.formula (p.bytes ++ piece) false x) (limits ∙ s.limits)
            (subst (λ (f : Formula). ¬ IsInputFault mid.rows.limits f (p.bytes ++ piece) false x) (formula ∙ s.formula)
            (calm_now WatchesRows verdicts mid (p.bytes ++ piece) p.text k x));
      })

-- what came of a piece, once its text was written
pub push_written : {held held_after : Option (List ℕ)} {p : Past} {fed : Result (Unit {0}) StreamStop} {result : Result (Unit {0}) Halt}
    (old mid : Live Verdicts) (piece : List ℕ) (phase : Phase) (s : StandsFor p (record { live = old; phase = phase }))
    (formula : mid.formula ≡ old.formula) (limits : mid.rows.limits ≡ old.rows.limits) → IsMadeWritten held held_after mid.text fed result
    → MatchResult fed (λ _. IsLive WatchesRows verdicts mid (p.bytes ++ piece) p.text)
    (λ e. IsLiveStop verdicts old.rows.limits old.formula false (p.bytes ++ piece) (p.text ++ mid.text) e)
    → HasWritten held held_after (with_piece p piece) false mid.text (λ _. IsLive WatchesRows verdicts mid (p.bytes ++ piece) p.text) result
push_written {held} {held_after} {p} {fed} {result} old mid piece phase s formula limits written taken =
    written_call held held_after (with_piece p piece) false mid.text (λ _. IsLive WatchesRows verdicts mid (p.bytes ++ piece) p.text) fed result written
    (piece_fed old mid p piece phase s formula limits fed taken)

-- ---- the end

truth_of : (holds : Bool) (f : Formula) (tr : Trace) → TellsTruth f tr (status_of_truth holds) → MatchBool holds (HoldsAtStart f tr) (¬ HoldsAtStart f tr)
truth_of true f tr (inl (e, h)) = h
truth_of true f tr (inr (e, h)) = absurd (let k = e in cc)
truth_of false f tr (inl (e, h)) = absurd (let k = e in cc)
truth_of false f tr (inr (e, h)) = h

module _ (old mid : Live Verdicts) (p : Past) (phase : Phase) (s : StandsFor p (record { live = old; phase = phase }))
    (formula : mid.formula ≡ old.formula) where
  -- what the reader's end left
  abbrev pub Over : Bool → Type 0
  Over holds = IsOver WatchesEnd verdicts p.limits p.formula mid p.bytes (p.text ++ mid.text) holds

  -- a reader that has come to its end has the watch come to its end
  pub end_over : (holds : Bool) → IsOver WatchesEnd verdicts old.rows.limits old.formula mid p.bytes (p.text ++ mid.text) holds → Over holds
  end_over holds k = subst (λ (l : Limits). IsOver WatchesEnd verdicts l p.formula mid p.bytes (p.text ++ mid.text) holds) s.limits
      (subst (λ (f : Formula). IsOver WatchesEnd verdicts old.rows.limits f mid p.bytes (p.text ++ mid.text) holds) s.formula k)

  -- the end of the bytes ends the watch, with its verdict or for a reason
  pub end_fed : (finished : Result Bool StreamStop)
      → MatchResult finished (IsOver WatchesEnd verdicts old.rows.limits old.formula mid p.bytes (p.text ++ mid.text))
      (λ e. IsLiveStop verdicts old.rows.limits old.formula true p.bytes (p.text ++ mid.text) e)
      → MatchResult finished (λ holds. Over holds × IsTextOf verdicts p.limits p.formula p.bytes true (p.text ++ mid.text))
      (λ e. IsLiveStop verdicts p.limits p.formula true p.bytes (p.text ++ mid.text) e)
  end_fed (Ok holds) h = let k = end_over holds h in (k, told_over WatchesEnd verdicts p.limits p.formula mid p.bytes (p.text ++ mid.text) holds k)
  end_fed (Err e) h = subst (λ (l : Limits). IsLiveStop verdicts l p.formula true p.bytes (p.text ++ mid.text) e) s.limits
      (subst (λ (f : Formula). IsLiveStop verdicts old.rows.limits f true p.bytes (p.text ++ mid.text) e) s.formula h)

  -- what a watch is after it
  pub has_finished : (new : Live Verdicts) (next : Phase) (holds : Bool) → new ≡ record mid { text = [] } → next ≡ Ended → Over holds
      → HasFinished (with_text p mid.text) holds (record { live = new; phase = next })
  has_finished new next holds e over k =
      subst (λ (l : Live Verdicts). HasFinished (with_text p mid.text) holds (record { live = l; phase = next })) (sym e) (record {
        stands = record {
          phase = over;
          formula = formula ∙ s.formula;
          over = over_after WatchesEnd verdicts p.limits p.formula mid p.bytes (p.text ++ mid.text) holds k;
        };
        tr = k.case.trace;
        trace = k.trace;
        written = subst (λ (g : Formula). IsStreamText (root g.nodes) k.case.trace.header k.case.trace.rows true (p.text ++ mid.text))
            k.fits.formula k.complete.told;
        truth = truth_of holds p.formula k.case.trace (k.complete.verdict p.formula k.fits);
      })

-- what came of the end, once its text was written
pub end_written : (held held_after : Option (List ℕ)) (old mid : Live Verdicts) (p : Past) (phase : Phase)
    (s : StandsFor p (record { live = old; phase = phase })) (formula : mid.formula ≡ old.formula)
    (finished : Result Bool StreamStop) (result : Result Bool Halt) → IsMadeWritten held held_after mid.text finished result
    → MatchResult finished (IsOver WatchesEnd verdicts old.rows.limits old.formula mid p.bytes (p.text ++ mid.text))
    (λ e. IsLiveStop verdicts old.rows.limits old.formula true p.bytes (p.text ++ mid.text) e)
    → HasWritten held held_after p true mid.text (IsOver WatchesEnd verdicts p.limits p.formula mid p.bytes (p.text ++ mid.text)) result
end_written held held_after old mid p phase s formula finished result written over =
    written_call held held_after p true mid.text (IsOver WatchesEnd verdicts p.limits p.formula mid p.bytes (p.text ++ mid.text)) finished result written
    (end_fed old mid p phase s formula finished over)

-- ---- a source

-- a reader that has come to its end is a watch that stands for all bytes
pub all_done : (live : Live Verdicts) (bytes text : List ℕ) → IsDone WatchesEnd verdicts live bytes text
    → (holds : Bool) × StandsForAll (record { formula = live.formula; limits = stream_limits; bytes = bytes; text = text }) holds
    (record { live = live; phase = Ended })
all_done live bytes text (holds, over) = (holds, record { phase = refl; formula = refl; over = over })
