-- Bytes that are a whole trace: what reading them comes to, and what `check` and `watch` write for them.
use Rattle.std.proofs.Common.{◌≡◌, ℕ, ◌≤◌, Bool, true, false, List, [], ◌++◌, append-nil, sym, ap, ◌∙◌, subst, refl}
use Rattle.stl_syntax.specs.Formula.{Formula, root}
use Rattle.stl_syntax.specs.Stream.{IsStreamText}
use Rattle.stl_syntax.specs.Trace.{Trace, IsTrace}
use Rattle.trace_reader.specs.InputFaults.{whole_limits, IsInputFault}
use Rattle.trace_reader.specs.declared.refusal.Limits.{Limits}
use Rattle.trace_reader.proofs.TraceRefusalLaw.{Trace-unique}
use Rattle.trace_stream.specs.CaseReader.{IsSound, IsWhole, IsRefused}
use Rattle.trace_stream.specs.Cases.{IsCase}
use Rattle.trace_stream.specs.Following.{IsLiveStop, IsOver}
use Rattle.trace_stream.specs.Kept.{IsEndedAs}
use Rattle.trace_stream.specs.Streams.{verdicts}
use Rattle.trace_stream.specs.declared.case.Case.{Case}
use Rattle.trace_stream.specs.declared.fault.StreamStop.{StreamStop}
use Rattle.trace_stream.specs.declared.fault.StreamStop.TheVariants.{Fault as Faulty, NoMemory, Wide}
use Rattle.trace_stream.specs.declared.live.Live.{Live}
use Rattle.trace_stream.proofs.FaultsStay.{unsound}
use Rattle.verdict_sets.specs.Keeping.{HasSets}
use Rattle.verdict_sets.specs.Telling.{AreLeft, IsCheckAnswer}
use Rattle.verdict_sets.specs.declared.lines.Told.{Told}
use Rattle.verdict_sets.specs.declared.sets.VerdictSets.{VerdictSets}
use Rattle.verdict_stream.specs.Watching.{WatchesEnd}
use Rattle.verdict_stream.specs.declared.verdicts.Verdicts.{Verdicts}
use Rattle.workload_summary.specs.Counting.{line_count}
use Rattle.workload_summary.proofs.LineCounts.{ends_in_line}
use Rattle.stl_syntax.specs.Scaling.{nodes_for}

-- ---- reading

-- bytes without fault are refused for want of memory alone
pub memory_alone : (limits : Limits) (f : Formula) (bytes : List ℕ) (ended : Bool) (stop : StreamStop) → IsSound limits f bytes true
    → IsRefused limits f ended bytes stop → stop ≡ NoMemory
memory_alone limits f bytes ended (Faulty fault) sound (x, is, first) = absurd (by_end ended first)
  where
    by_end : (e : Bool) → IsInputFault limits f bytes e x → ⊥
    by_end false at = unsound limits f bytes [] x at (subst (λ b. IsSound limits f b true) (sym (append-nil bytes)) sound)
    by_end true at = sound x at
memory_alone limits f bytes ended NoMemory sound refused = refl
memory_alone limits f bytes ended (Wide i den) sound refused = absurd refused

-- so it is of a stream of verdicts
pub starved : (limits : Limits) (f : Formula) (bytes text : List ℕ) (ended : Bool) (stop : StreamStop) → IsSound limits f bytes true
    → IsLiveStop verdicts limits f ended bytes text stop → stop ≡ NoMemory
starved limits f bytes text ended (Faulty fault) sound (x, is, first, told) = memory_alone limits f bytes ended (Faulty fault) sound (x, is, first)
starved limits f bytes text ended NoMemory sound held = refl
starved limits f bytes text ended (Wide i den) sound held = absurd held

-- bytes that are a whole trace are sound, by whatever stands for the limits and the formula
pub sound_as : {limits : Limits} {f g : Formula} {bytes : List ℕ} {tr : Trace} → limits ≡ whole_limits → g ≡ f → IsWhole whole_limits f bytes tr
    → IsSound limits g bytes true
sound_as {g = g} {bytes = bytes} e same whole =
    subst (λ (l : Limits). IsSound l g bytes true) (sym e) (subst (λ (h : Formula). IsSound whole_limits h bytes true) (sym same) whole.sound)

-- bytes are those of one trace
one_trace : {limits more : Limits} {f : Formula} {bytes : List ℕ} {tr tr' : Trace} → IsWhole limits f bytes tr → IsWhole more f bytes tr' → tr ≡ tr'
one_trace {f = f} {bytes = bytes} {tr = tr} {tr' = tr'} a b = Trace-unique bytes f.scale tr tr' a.trace.text b.trace.text

-- ---- what is written

-- what the sets over all bytes tell is the answer of `check`
pub answered : {f : Formula} {bytes text : List ℕ} {x : VerdictSets} (told : Told) → IsEndedAs HasSets whole_limits f bytes x
    → ((g : Formula) (c : Case) (t : List ℕ) → IsCase g c → HasSets x c → IsTrace c.trace → AreLeft told t → IsCheckAnswer g c.trace told.holds t)
    → AreLeft told text → (tr : Trace) → IsWhole whole_limits f bytes tr → IsCheckAnswer f tr told.holds text
answered {f} {bytes} {text} {x} told e tells left u whole =
    subst (λ (t : Trace). IsCheckAnswer f t told.holds text) (one_trace e.ended.whole whole)
    (tells f e.case text e.ended.case e.for_case e.ended.whole.trace.text.rising left)

-- it has the line of the start
pub check_lines : {f : Formula} {tr : Trace} {holds : Bool} {text : List ℕ} → IsCheckAnswer f tr holds text → 1 ≤ line_count text
check_lines {text = text} a =
    let (vs, body, line, told, lines, (holds, now, is), parts) = a.written in
    ends_in_line body line text holds parts is

-- what a stream of verdicts made of all bytes and their end is its whole text
pub streamed : {limits : Limits} {f g : Formula} {bytes text : List ℕ} {live : Live Verdicts} {holds : Bool} → g ≡ f
    → IsOver WatchesEnd verdicts limits g live bytes text holds
    → (tr : Trace) → IsWhole whole_limits f bytes tr → IsStreamText (root (nodes_for f tr)) tr.header tr.rows true text
streamed {limits} {f} {g} {bytes} {text} {live} {holds} same over u whole =
    let k = subst (λ (h : Formula). IsOver WatchesEnd verdicts limits h live bytes text holds) same over in
    subst (λ (t : Trace). IsStreamText (root (nodes_for f t)) t.header t.rows true text) (one_trace k.trace whole)
    (subst (λ (h : Formula). IsStreamText (root h.nodes) k.case.trace.header k.case.trace.rows true text) k.fits.formula k.complete.told)

-- it has the line of the start, too
pub stream_lines : (f : Formula) (tr : Trace) {text : List ℕ} → IsStreamText (root (nodes_for f tr)) tr.header tr.rows true text → 1 ≤ line_count text
stream_lines f u {text} h =
    let (during, rest, line, before, at_end, (holds, now, is), parts) = h.1 in
    ends_in_line (during ++ rest) line text holds parts is
