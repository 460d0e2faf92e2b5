-- A reader with what follows its rows, as a stream: what a piece and the end come to.
use Rattle.std.proofs.Common.{◌≡◌, ◌≢◌, inl, inr, ℕ, ◌<◌, Bool, true, false, List, [], ◌++◌, length, refl}
use Rattle.std.proofs.Common.{sym, ap, ◌∙◌, subst, arith, append-nil, Option, Result, Ok, Err}
use Rattle.std.specs.Prelude.{MatchResult, IfOk, OnOk, option_map}
use Rattle.stl_syntax.specs.Formula.{Formula, root}
use Rattle.trace_reader.specs.Reader.{header_of}
use Rattle.trace_reader.specs.declared.refusal.Limits.{Limits}
use Rattle.workbench.specs.Requests.{Stream, verdicts, early, margins, stream}
use Rattle.workbench.specs.Owed.{limits_of, StreamText, StreamOf, OwesRows}
use Rattle.workbench.specs.Ended.{IsAnswered, IsWide}
use Rattle.workbench.specs.Running.{IsBegun, IsDue}
use Rattle.workbench.specs.Pushing.{IsPushed, IsPushStop, IsPush, IsFinished}
use Rattle.trace_stream.specs.CaseReader.{IsWhole}
use Rattle.workbench.specs.InputFaults.{Fault, fault_text, IsInputFault, AreRowsBefore}
use Rattle.workbench.specs.Wholes.{status_of_truth}
use Rattle.workbench.proofs.Beginnings.{begun_before, begun_now}
use Rattle.trace_stream.specs.Following.{IsTextOf, IsLive, IsAtRest, IsOver, IsDone, IsLiveStop}
use Rattle.written_streams.specs.MadeWritten.{IsMadeWritten, no_room, made_whole, made_in_part}
use Rattle.trace_stream.specs.declared.case.Case.{Case}
use Rattle.trace_stream.specs.declared.live.Live.{Live}
use Rattle.trace_stream.specs.declared.fault.StreamStop.{StreamStop}
use Rattle.trace_stream.specs.declared.fault.StreamStop.TheVariants.{Fault as Faulty, NoMemory, Wide}
use Rattle.workbench.specs.declared.fault.Stop.{Stop}
use Rattle.workbench.specs.declared.fault.Stop.TheVariants.{Unwritten}
use Rattle.written_streams.specs.declared.made.Halt.{Halt}
use Rattle.written_streams.specs.declared.made.Halt.TheVariants.{Reader, Unwritten as Refused}
use Rattle.workbench.specs.Stopping.{stop_of, outcome_of}
use Rattle.trace_stream.proofs.KeptRows.{sound_so_far}
use Rattle.trace_stream.proofs.Sizes.{few_bytes}
use Rattle.trace_stream.proofs.KeptRows.{before_of_kept}
use Rattle.trace_stream.proofs.ReaderSteps.{told_of_kept}
use Rattle.trace_stream.proofs.Told.{told_now, live_after, told_over, over_after}

-- the limit on lines bounds the bytes
few_lines : (s : Stream) → (limits_of s).lines ≡ 8589934592
few_lines verdicts = refl
few_lines early = refl
few_lines margins = refl

-- the text of the rows before the first fault is what is owed
owes_of : (s : Stream) (limits : Limits) (f : Formula) (bytes : List ℕ) (ended : Bool) (text : List ℕ) → limits ≡ limits_of s
    → IsTextOf s limits f bytes ended text → OwesRows s f bytes ended text
owes_of s limits f bytes ended text e t =
    let u : IsTextOf s (limits_of s) f bytes ended text = subst (λ (l : Limits). IsTextOf s l f bytes ended text) e t in
    record { header = u.header; rows = u.rows; whole = u.whole; before = u.before; is = u.is }

-- what is owed is due
due_of_owed : (s : Stream) (f : Formula) (bytes text : List ℕ) (ended : Bool) → OwesRows s f bytes ended text → IsDue (stream s f) bytes ended text
due_of_owed verdicts f bytes text ended o = o
due_of_owed early f bytes text ended o = o
due_of_owed margins f bytes text ended o = inl o

-- so is what comes before a refusal
due_of_wide : (s : Stream) (f : Formula) (bytes text : List ℕ) (ended : Bool) (i den : ℕ)
    → IsWide (stream s f) bytes ended i den text → IsDue (stream s f) bytes ended text
due_of_wide verdicts f bytes text ended i den w = absurd w
due_of_wide early f bytes text ended i den w = absurd w
due_of_wide margins f bytes text ended i den w = inr (i, den, w)

module _ (kind : Stream) where
  -- a refusal for a denominator
  wide_of : (limits : Limits) (f : Formula) (bytes text : List ℕ) (ended : Bool) (i den : ℕ) → limits ≡ limits_of kind
      → IsLiveStop kind limits f ended bytes text (Wide i den)
      → IsWide (stream kind f) bytes ended i den text
  wide_of limits f bytes text ended i den e h = subst (λ (l : Limits). IsLiveStop kind l f ended bytes text (Wide i den)) e h

  -- a fault of the bytes was met
  fault_met : (limits : Limits) (f : Formula) (bytes text : List ℕ) (ended : Bool) (stop : StreamStop) → limits ≡ limits_of kind
      → stop ≢ NoMemory → IsLiveStop kind limits f ended bytes text stop
      → IsPushStop (stream kind f) bytes ended text (stop_of (Reader stop))
  fault_met limits f bytes text ended (Faulty fault) e ne (x, is, input, t) = (
    fault_text x,
    (x, is, refl),
    (x, subst (λ (l : Limits). IsInputFault l f bytes ended x) e input, refl),
    owes_of kind limits f bytes ended text e t,
  )
  fault_met limits f bytes text ended NoMemory e ne h = absurd (ne refl)
  fault_met limits f bytes text ended (Wide i den) e ne h = wide_of limits f bytes text ended i den e h

  -- and what was due before it
  fault_owed : (limits : Limits) (f : Formula) (bytes text : List ℕ) (ended : Bool) (stop : StreamStop) → limits ≡ limits_of kind
      → stop ≢ NoMemory → IsLiveStop kind limits f ended bytes text stop → IsDue (stream kind f) bytes ended text
  fault_owed limits f bytes text ended (Faulty fault) e ne (x, is, input, t) = due_of_owed kind f bytes text ended (owes_of kind limits f bytes ended text e t)
  fault_owed limits f bytes text ended NoMemory e ne h = absurd (ne refl)
  fault_owed limits f bytes text ended (Wide i den) e ne h = due_of_wide kind f bytes text ended i den (wide_of limits f bytes text ended i den e h)

module _ {F : Type 0} (Stands : F → Case → List ℕ → Type 0) (kind : Stream) where
  -- what stands between pieces
  pub at_rest : (live : Live F) (bytes text : List ℕ) → IsAtRest Stands kind live bytes text
      → IsPushed (IsAtRest Stands kind live) (stream kind live.formula) bytes text
  at_rest live bytes text k = record {
    input = refl;
    stands = k;
    owed = record {
      header = option_map (header_of live.formula.scale) live.rows.heading;
      rows = k.live_for.kept.rows;
      whole = false;
      before = before;
      is = told;
    };
    sound = λ line h. calm h.0 h.1;
    few = size;
  }
    where
      calm : (x : Fault) → ¬ IsInputFault (limits_of kind) live.formula bytes false x
      calm = subst (λ (l : Limits). (x : Fault) → ¬ IsInputFault l live.formula bytes false x) k.limits
          (sound_so_far live.formula live.rows k.live_for.case bytes k.live_for.kept)

      before : AreRowsBefore (limits_of kind) live.formula bytes false (option_map (header_of live.formula.scale) live.rows.heading) k.live_for.kept.rows false
      before = subst (λ (l : Limits).
          AreRowsBefore l live.formula bytes false (option_map (header_of live.formula.scale) live.rows.heading) k.live_for.kept.rows false) k.limits
          (before_of_kept live.formula live.rows k.live_for.case bytes k.live_for.kept)

      told : StreamOf kind live.formula (option_map (header_of live.formula.scale) live.rows.heading) k.live_for.kept.rows false text
      told = subst (λ t. StreamOf kind live.formula (option_map (header_of live.formula.scale) live.rows.heading) k.live_for.kept.rows false t)
          (ap (λ t. text ++ t) k.empty ∙ append-nil text)
          (told_of_kept Stands kind live.formula live.rows live.follower k.live_for.case bytes (text ++ live.text) k.live_for.kept k.live_for.followed)

      size : length bytes < 9223372036854775808
      size =
          let n : live.rows.limits.lines ≡ 8589934592 = ap (λ (l : Limits). l.lines) k.limits ∙ few_lines kind in
          let b = few_bytes live.rows.limits live.rows.least live.rows.heading bytes k.live_for.kept.rows
          k.live_for.kept.stands.read k.live_for.kept.stands.sound in
          omega (arith, n, b)

  -- what is owed while text is to be written
  owed_now : (live : Live F) (bytes text : List ℕ) → live.rows.limits ≡ limits_of kind → IsLive Stands kind live bytes text
      → OwesRows kind live.formula bytes false (text ++ live.text)
  owed_now live bytes text e k = owes_of kind live.rows.limits live.formula bytes false (text ++ live.text) e (told_now Stands kind live bytes text k)

  written_all : (mid new : Live F) (bytes text : List ℕ) → new ≡ record mid { text = [] } → mid.rows.limits ≡ limits_of kind → IsLive Stands kind mid bytes text
      → IsAtRest Stands kind new bytes (text ++ mid.text)
  written_all mid new bytes text e l k =
      subst (λ (x : Live F). IsAtRest Stands kind x bytes (text ++ mid.text)) (sym e)
      (record { live_for = live_after Stands kind mid bytes text k; limits = l; empty = refl })

  -- a piece
  module _ (f : Formula) (mid new : Live F) (held held_after : Option (List ℕ)) (bytes piece text : List ℕ)
      (before : OwesRows kind f bytes false text) (limits : mid.rows.limits ≡ limits_of kind)
      (same : mid.formula ≡ f) where
    -- what a piece was fed to, and what was written of it, come to a push
    push_halted : (fed : Result (Unit {0}) StreamStop) (result : Result (Unit {0}) Halt) → IsMadeWritten held held_after mid.text fed result
        → MatchResult fed (λ _. IsLive Stands kind mid (bytes ++ piece) text)
        (λ e. IsLiveStop kind mid.rows.limits f false (bytes ++ piece) (text ++ mid.text) e)
        → OnOk result (new ≡ record mid { text = [] })
        → IsPush (stream kind f) held held_after (bytes ++ piece) false text (λ _. IsPushed (IsAtRest Stands kind new) (stream kind f) (bytes ++ piece))
        (outcome_of result)
    push_halted fed result (no_room kept) h done =
        ([], kept, inr ([], begun_before (stream kind f) bytes piece text false (due_of_owed kind f bytes text false before)))
    push_halted (Ok x) result (made_whole ne wrote) h done =
        let rest = written_all mid new (bytes ++ piece) text done limits h in
        let formula : new.formula ≡ f = ap (λ (z : Live F). z.formula) done ∙ same in (
          mid.text,
          wrote,
          subst (λ (g : Formula). IsPushed (IsAtRest Stands kind new) (stream kind g) (bytes ++ piece) (text ++ mid.text))
              formula (at_rest new (bytes ++ piece) (text ++ mid.text) rest),
        )
    push_halted (Err stop) result (made_whole ne wrote) h done =
        (mid.text, wrote, fault_met kind mid.rows.limits f (bytes ++ piece) (text ++ mid.text) false stop limits (λ e. ne (ap Err e)) h)
    push_halted (Ok x) result (made_in_part ne part) h done = (
      part.front,
      part.wrote,
      (
        part.back,
        part.missing,
        begun_now (stream kind f) (bytes ++ piece) text part.front part.back mid.text false part.parts
            (due_of_owed kind f (bytes ++ piece) (text ++ mid.text) false
            (subst (λ (g : Formula). OwesRows kind g (bytes ++ piece) false (text ++ mid.text)) same (owed_now mid (bytes ++ piece) text limits h))),
      ),
    )
    push_halted (Err stop) result (made_in_part ne part) h done = (
      part.front,
      part.wrote,
      (
        part.back,
        part.missing,
        begun_now (stream kind f) (bytes ++ piece) text part.front part.back mid.text false part.parts
            (fault_owed kind mid.rows.limits f (bytes ++ piece) (text ++ mid.text) false stop limits (λ e. ne (ap Err e)) h),
      ),
    )

    -- so of the result of the command
    pub push_of : (fed : Result (Unit {0}) StreamStop) (halted : Result (Unit {0}) Halt) (result : Result (Unit {0}) Stop) → result ≡ outcome_of halted
        → IsMadeWritten held held_after mid.text fed halted
        → MatchResult fed (λ _. IsLive Stands kind mid (bytes ++ piece) text)
        (λ e. IsLiveStop kind mid.rows.limits f false (bytes ++ piece) (text ++ mid.text) e)
        → OnOk halted (new ≡ record mid { text = [] })
        → IsPush (stream kind f) held held_after (bytes ++ piece) false text (λ _. IsPushed (IsAtRest Stands kind new) (stream kind f) (bytes ++ piece)) result
    push_of fed halted result e written taken done =
        subst (λ (r : Result (Unit {0}) Stop). IsPush (stream kind f) held held_after (bytes ++ piece) false text
        (λ _. IsPushed (IsAtRest Stands kind new) (stream kind f) (bytes ++ piece)) r) (sym e) (push_halted fed halted written taken done)

module _ {F : Type 0} (Ended : F → Case → List ℕ → Type 0) (kind : Stream) where
  -- the answer of a trace that was read
  answered_by_row : (limits : Limits) (f : Formula) (live : Live F) (bytes text : List ℕ) (holds : Bool) → limits ≡ limits_of kind
      → IsOver Ended kind limits f live bytes text holds
      → IsAnswered (stream kind f) bytes true (status_of_truth holds) text
  answered_by_row limits f live bytes text holds e k = (
    refl,
    record {
      tr = k.case.trace;
      trace = subst (λ (l : Limits). IsWhole l f bytes k.case.trace) e k.trace;
      written = subst (λ (g : Formula). StreamText kind (root g.nodes) k.case.trace.header k.case.trace.rows true text) k.fits.formula k.complete.told;
      verdict = k.complete.verdict f k.fits;
    },
  )

  owed_whole : (limits : Limits) (f : Formula) (live : Live F) (bytes text : List ℕ) (holds : Bool) → limits ≡ limits_of kind
      → IsOver Ended kind limits f live bytes text holds → OwesRows kind f bytes true text
  owed_whole limits f live bytes text holds e k = owes_of kind limits f bytes true text e (told_over Ended kind limits f live bytes text holds k)

  done_after : (limits : Limits) (f : Formula) (mid new : Live F) (bytes text : List ℕ) (holds : Bool) → limits ≡ limits_of kind
      → mid.formula ≡ f → new ≡ record mid { text = [] }
      → IsOver Ended kind limits f mid bytes text holds → IsDone Ended kind new bytes text
  done_after limits f mid new bytes text holds e formula done k =
      let rest : Live F = record mid { text = [] } in
      subst (λ (x : Live F). IsDone Ended kind x bytes text) (sym done) (
        holds,
        subst (λ (l : Limits). IsOver Ended kind l mid.formula rest bytes text holds) e
            (subst (λ (g : Formula). IsOver Ended kind limits g rest bytes text holds) (sym formula) (over_after Ended kind limits f mid bytes text holds k)),
      )

  module _ (limits : Limits) (f : Formula) (mid new : Live F) (held held_after : Option (List ℕ)) (bytes text : List ℕ)
      (before : OwesRows kind f bytes false text) (same : limits ≡ limits_of kind)
      (formula : mid.formula ≡ f) where
    -- what the end came to, and what was written of it, come to an end
    end_halted : (finished : Result Bool StreamStop) (result : Result Bool Halt) → IsMadeWritten held held_after mid.text finished result
        → MatchResult finished (IsOver Ended kind limits f mid bytes (text ++ mid.text)) (λ e. IsLiveStop kind limits f true bytes (text ++ mid.text) e)
        → OnOk result (new ≡ record mid { text = [] })
        → IsPush (stream kind f) held held_after bytes true text (IsFinished (IsDone Ended kind new) (stream kind f) bytes) (outcome_of result)
    end_halted finished result (no_room kept) h done = (
      [],
      kept,
      inr (
        [],
        subst (λ b. IsBegun (stream kind f) b true (text ++ []) []) (append-nil bytes)
            (begun_before (stream kind f) bytes [] text true (due_of_owed kind f bytes text false before)),
      ),
    )
    end_halted (Ok holds) result (made_whole ne wrote) h done = (
      mid.text,
      wrote,
      (
        answered_by_row limits f mid bytes (text ++ mid.text) holds same h,
        done_after limits f mid new bytes (text ++ mid.text) holds same formula done h,
      ),
    )
    end_halted (Err stop) result (made_whole ne wrote) h done =
        (mid.text, wrote, fault_met kind limits f bytes (text ++ mid.text) true stop same (λ e. ne (ap Err e)) h)
    end_halted (Ok holds) result (made_in_part ne part) h done = (
      part.front,
      part.wrote,
      (
        part.back,
        part.missing,
        begun_now (stream kind f) bytes text part.front part.back mid.text true part.parts
            (due_of_owed kind f bytes (text ++ mid.text) true (owed_whole limits f mid bytes (text ++ mid.text) holds same h)),
      ),
    )
    end_halted (Err stop) result (made_in_part ne part) h done = (
      part.front,
      part.wrote,
      (
        part.back,
        part.missing,
        begun_now (stream kind f) bytes text part.front part.back mid.text true part.parts
            (fault_owed kind limits f bytes (text ++ mid.text) true stop same (λ e. ne (ap Err e)) h),
      ),
    )

    -- so of the result of the command
    pub end_of : (finished : Result Bool StreamStop) (halted : Result Bool Halt) (result : Result Bool Stop) → result ≡ outcome_of halted
        → IsMadeWritten held held_after mid.text finished halted
        → MatchResult finished (IsOver Ended kind limits f mid bytes (text ++ mid.text)) (λ e. IsLiveStop kind limits f true bytes (text ++ mid.text) e)
        → OnOk halted (new ≡ record mid { text = [] })
        → IsPush (stream kind f) held held_after bytes true text (IsFinished (IsDone Ended kind new) (stream kind f) bytes) result
    end_of finished halted result e written over done =
        subst (λ (r : Result Bool Stop). IsPush (stream kind f) held held_after bytes true text (IsFinished (IsDone Ended kind new) (stream kind f) bytes) r)
        (sym e) (end_halted finished halted written over done)

-- a sink failed exactly where the stream says so
pub unwritten_alone : {T : Type 0} (r : Result T Halt) → outcome_of r ≡ Err Unwritten → r ≡ Err Refused
unwritten_alone (Ok x) e = let k = e in cc
unwritten_alone (Err (Reader (Faulty fault))) e = let k = e in cc
unwritten_alone (Err (Reader NoMemory)) e = let k = e in cc
unwritten_alone (Err (Reader (Wide i den))) e = let k = e in cc
unwritten_alone (Err Refused) e = refl

-- ---- the beginning

-- a reader without bytes may be pushed
pub live_begun : {F E : Type 0} (Stands : F → Case → List ℕ → Type 0) (kind : Stream) (r : Result (Live F) E) → IfOk r (λ x. IsLive Stands kind x [] [])
    → IfOk r (λ x. x.rows.limits ≡ limits_of kind) → IfOk r (λ x. x.text ≡ []) → IfOk r (λ x. IsPushed (IsAtRest Stands kind x) (stream kind x.formula) [] [])
live_begun Stands kind (Ok x) live limits empty = at_rest Stands kind x [] [] (record { live_for = live; limits = limits; empty = empty })
live_begun Stands kind (Err e) live limits empty = tt

-- by a request of its formula
pub live_asked : {F E : Type 0} (kind : Stream) (f : Formula) (r : Result (Live F) E) → IfOk r (λ x. x.formula ≡ f)
    → IfOk r (λ x. stream kind x.formula ≡ stream kind f)
live_asked kind f (Ok x) e = ap (stream kind) e
live_asked kind f (Err e) h = tt
