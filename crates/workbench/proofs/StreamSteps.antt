-- How far a stream has come, and how it ends.
use Rattle.std.proofs.Common.{◌≡◌, ◌≢◌, inl, inr, ℕ, ◌+◌, ◌-◌, ◌<◌, ◌≤◌, Bool, true, false, List, []}
use Rattle.std.proofs.Common.{◌++◌, length, take, max, length-append}
use Rattle.std.proofs.Common.{refl, sym, ap, ◌∙◌, subst, arith, append-nil, Result, Ok, Err}
use Rattle.std.specs.Prelude.{Option}
use Rattle.std.specs.Io.KnownBytes.{Appends, Consumes, Keeps, IsAtEnd}
use Rattle.std.proofs.KnownBytes.{Appends-trans, Consumes-trans, Consumes-kept}
use Rattle.std.proofs.lemmas.Bool.{false≢true}
use Rattle.std.proofs.lemmas.List.{take-append-le, take_all}
use Rattle.io_edge.specs.Calls.{Drained, Filled, HasFailed, HasRefused, IsAskedOnce, HasAskedAtMost}
use Rattle.stl_syntax.specs.Formula.{Formula}
use Rattle.session_mux.specs.Taking.{fault_of}
use Rattle.workbench.specs.Requests.{Request, no_form, refused, whole, stream, verdicts, early, margins, sessions, generated, has_input, Asks}
use Rattle.workbench.specs.InputFaults.{Fault, fault_text}
use Rattle.trace_stream.specs.Cases.{IsFault}
use Rattle.trace_stream.specs.declared.fault.TraceFault.{TraceFault}
use Rattle.workbench.specs.Owed.{Owes}
use Rattle.workbench.specs.Ended.{HasFault, IsPrompt, IsAnswered, IsWide, faulty, answered, wide}
use Rattle.workbench.specs.Running.{IsBegun, earlier, KeepsPace, IsEnd, by_itself, unread, unwritten, no_memory, asked}
use Rattle.command_line.specs.Saying.{IsSaid}
use Rattle.workbench.specs.Sessions.{input_fault_text}
use Rattle.workbench.specs.Wholes.{status_of_truth, status_of, IsEndLine, EndsSoundly}
use Rattle.workbench.specs.Keeping.{keeps, IsLeft, HasRun}
use Rattle.workbench.specs.declared.kept.Kept.{Kept}
use Rattle.workbench.specs.Pushing.{IsPushed, IsPushStop, IsPush, IsFinished, IsFaultLineOf, IsLineOf, IsStreamedFor, IsStreamEnd}
use Rattle.workbench.specs.declared.fault.Stop.{Stop}
use Rattle.workbench.specs.declared.fault.Stop.TheVariants.{Fault as Faulty, Input as FaultyLine, Unread, Unwritten, NoMemory, Wide, TooMany}
use Rattle.command_line.specs.ErrTexts.{read_fault, write_fault, out_of_memory, wide_text}

-- some bytes were read and answered, in so many reads
pub record Pushing (Stands : List ℕ → List ℕ → Type 0) (q : Request) (before now held held_now : Option (List ℕ)) (reads : ℕ) : Type 0 where
  -- the bytes that were read
  pub bytes : List ℕ
  -- the text that was written
  pub text : List ℕ
  -- the bytes were taken from the front of the source
  pub moved : Consumes before now bytes
  -- the text was put at the end of the sink
  pub grew : Appends held held_now text
  -- the machine stands for these bytes and this text
  pub is : IsPushed Stands q bytes text
  -- each read gave a byte at least
  pub enough : reads ≤ length bytes

-- before the last read there were all bytes but those that it gave
earlier_is : (i : Drained) (bytes piece : List ℕ) → i.gave ≡ length piece → earlier i (bytes ++ piece) ≡ bytes
earlier_is i bytes piece gave =
    let n : length (bytes ++ piece) - i.gave ≡ length bytes = omega (arith, gave, length-append bytes piece) in
    ap (λ m. take m (bytes ++ piece)) n ∙ take-append-le (length bytes) bytes piece (omega arith) ∙ take_all (length bytes) bytes (omega arith)

-- no read asks for more than the buffer has
pub asks_few : (first now after len : ℕ) → now ≤ max first 4096 → len ≡ 4096 → after ≡ max now len → after ≤ max first 4096
asks_few first now after len few size got = omega (arith, few, size, got)

-- a run over this source and this sink read the piece, or the end, as its last
pub record IsRead (before now held : Option (List ℕ)) (i : Drained) (o : Filled) (piece : List ℕ) (ended : Bool) : Type 0 where
  -- the source stood so as the run began
  pub source : i.before ≡ before
  -- and the sink
  pub sink : o.before ≡ held
  -- the piece was taken from the front of the source
  pub moved : Consumes now i.after piece
  -- which has come to its end or not
  pub same : i.ended ≡ ended
  -- at its end there is no piece, and nothing more to come
  pub at_end : ended ≡ true → (piece ≡ []) × IsAtEnd i.after
  -- a piece is short
  pub small : length piece ≤ 4096
  -- the last read gave it
  pub gave : i.gave ≡ length piece
  -- no read asked for more than the buffer has
  pub within : HasAskedAtMost 4096 i

module _ {Stands : List ℕ → List ℕ → Type 0} {q : Request} {before now held held_now : Option (List ℕ)} {reads : ℕ}
    (p : Pushing Stands q before now held held_now reads) where
  -- with one more piece and its text the stream goes on
  pub go_on : (After : List ℕ → List ℕ → Type 0) (after held_after : Option (List ℕ)) (piece : List ℕ) → Consumes now after piece → 0 < length piece
      → (grown : List ℕ) × Appends held_now held_after grown × IsPushed After q (p.bytes ++ piece) (p.text ++ grown)
      → Pushing After q before after held held_after (reads + 1)
  go_on After after held_after piece moved some (grown, wrote, is) = record {
    bytes = p.bytes ++ piece;
    text = p.text ++ grown;
    moved = Consumes-trans before now after p.bytes piece p.moved moved;
    grew = Appends-trans held held_now held_after p.text grown p.grew wrote;
    is = is;
    enough = omega (arith, some, p.enough, length-append p.bytes piece);
  }

  -- what was read before the last piece was answered before it
  pace_before : (i : Drained) (piece grown : List ℕ) → i.gave ≡ length piece → HasAskedAtMost 4096 i → KeepsPace q i (p.bytes ++ piece) (p.text ++ grown)
  pace_before i piece grown gave few =
      let same = earlier_is i p.bytes piece gave in
      record {
        short = p.text;
        more = grown;
        owed = subst (λ b. Owes q b false p.text) (sym same) p.is.owed;
        parts = refl;
        sound = subst (λ b. (line : List ℕ) → ¬ HasFault q b false line) (sym same) p.is.sound;
        small = few;
      }

  -- the source failed
  pub end_unread : (Done : List ℕ → List ℕ → Type 0) (i : Drained) (o : Filled) → i.before ≡ before → o.before ≡ held
      → o.after ≡ held_now → Keeps now i.after → i.ended ≡ false → HasFailed i → i.gave ≡ 0 → HasAskedAtMost 4096 i
      → IsStreamEnd Done q i o (Err Unread)
  end_unread Done i o b h a kept goes_on failed gave few = record {
    bytes = p.bytes;
    text = p.text;
    line = read_fault;
    moved = subst (λ x. Consumes x i.after p.bytes) (sym b) (Consumes-kept before now i.after p.bytes p.moved kept);
    grew = subst (λ x. Appends x o.after p.text) (sym h) (subst (λ x. Appends held x p.text) (sym a) p.grew);
    at_end = λ t. absurd (false≢true (sym goes_on ∙ t));
    pace = subst (λ bs. KeepsPace q i bs p.text) (append-nil p.bytes)
        (subst (λ t. KeepsPace q i (p.bytes ++ []) t) (append-nil p.text) (pace_before i [] [] gave few));
    is = unread p.is.input goes_on failed p.is.sound p.is.owed;
    is_line = refl;
    left = tt;
  }

  prompt : (piece : List ℕ) (ended : Bool) → length piece ≤ 4096 → (ended ≡ true → piece ≡ []) → IsPrompt q (p.bytes ++ piece) ended
  prompt piece ended small at_end = record { before = p.bytes; piece = piece; parts = refl; short = small; at_end = at_end; sound = p.is.sound }

  -- a piece, or the end, stopped the stream
  pub end_stop : (Done : List ℕ → List ℕ → Type 0) (i : Drained) (o : Filled) (piece : List ℕ) (ended : Bool) (stop : Stop)
      → IsRead before now held i o piece ended → (stop ≡ Unwritten → HasRefused o)
      → (grown : List ℕ) × Appends held_now o.after grown × IsPushStop q (p.bytes ++ piece) ended (p.text ++ grown) stop → IsStreamEnd Done q i o (Err stop)
  end_stop Done i o piece ended stop s cut (grown, wrote, is) = by_stop stop is cut
    where
      all_moved : Consumes i.before i.after (p.bytes ++ piece)
      all_moved = subst (λ x. Consumes x i.after (p.bytes ++ piece)) (sym s.source) (Consumes-trans before now i.after p.bytes piece p.moved s.moved)

      all_grew : Appends o.before o.after (p.text ++ grown)
      all_grew = subst (λ x. Appends x o.after (p.text ++ grown)) (sym s.sink) (Appends-trans held held_now o.after p.text grown p.grew wrote)

      as_ended : {rest : List ℕ} → IsBegun q (p.bytes ++ piece) ended (p.text ++ grown) rest → IsBegun q (p.bytes ++ piece) i.ended (p.text ++ grown) rest
      as_ended {rest} x = subst (λ (e : Bool). IsBegun q (p.bytes ++ piece) e (p.text ++ grown) rest) (sym s.same) x

      with_end : (line : List ℕ) (stop : Stop) → IsEnd q i o (p.bytes ++ piece) (p.text ++ grown) (status_of (Err stop)) line
          → IsLineOf q (Err stop) line → IsStreamEnd Done q i o (Err stop)
      with_end line stop is is_line = record {
        bytes = p.bytes ++ piece;
        text = p.text ++ grown;
        line = line;
        moved = all_moved;
        grew = all_grew;
        at_end = λ t. (s.at_end (sym s.same ∙ t)).1;
        pace = pace_before i piece grown s.gave s.within;
        is = is;
        is_line = is_line;
        left = tt;
      }

      known : q ≢ no_form
      known k = false≢true (sym (ap has_input k) ∙ p.is.input)

      by_stop : (stop : Stop) → IsPushStop q (p.bytes ++ piece) ended (p.text ++ grown) stop → (stop ≡ Unwritten → HasRefused o)
          → IsStreamEnd Done q i o (Err stop)
      by_stop (Faulty fault) (line, stored, first, owed) cut = with_end line (Faulty fault)
          (by_itself (faulty (subst (λ (e : Bool). HasFault q (p.bytes ++ piece) e line) (sym s.same) first)
          (prompt piece i.ended s.small (λ t. (s.at_end (sym s.same ∙ t)).0))
          (subst (λ (e : Bool). Owes q (p.bytes ++ piece) e (p.text ++ grown)) (sym s.same) owed))) stored
      by_stop (FaultyLine fault) (first, owed) cut = with_end (input_fault_text (fault_of fault)) (FaultyLine fault)
          (by_itself (faulty (subst (λ (e : Bool). HasFault q (p.bytes ++ piece) e (input_fault_text (fault_of fault))) (sym s.same) first)
          (prompt piece i.ended s.small (λ t. (s.at_end (sym s.same ∙ t)).0))
          (subst (λ (e : Bool). Owes q (p.bytes ++ piece) e (p.text ++ grown)) (sym s.same) owed))) refl
      by_stop Unread is cut = absurd is
      by_stop Unwritten (rest, some, begun) cut = with_end write_fault Unwritten (unwritten rest some (cut refl) (as_ended begun)) refl
      by_stop NoMemory (inl none) cut = with_end out_of_memory NoMemory (no_memory known (inl none)) refl
      by_stop NoMemory (inr (rest, begun)) cut = with_end out_of_memory NoMemory (no_memory known (inr (rest, as_ended begun))) refl
      by_stop (Wide i den) is cut = with_end (wide_text i den) (Wide i den)
          (by_itself (wide i den (subst (λ (e : Bool). IsWide q (p.bytes ++ piece) e i den (p.text ++ grown)) (sym s.same) is))) refl
      by_stop (TooMany count) is cut = absurd is

  -- the stream came to its end
  pub end_ok : (Done : List ℕ → List ℕ → Type 0) (i : Drained) (o : Filled) (holds : Bool) → IsRead before now held i o [] true
      → (grown : List ℕ) × Appends held_now o.after grown × IsFinished Done q p.bytes holds (p.text ++ grown) → IsStreamEnd Done q i o (Ok holds)
  end_ok Done i o holds s (grown, wrote, (is, left)) = record {
    bytes = p.bytes;
    text = p.text ++ grown;
    line = [];
    moved = subst (λ x. Consumes x i.after p.bytes) (sym s.source)
        (subst (Consumes before i.after) (append-nil p.bytes) (Consumes-trans before now i.after p.bytes [] p.moved s.moved));
    grew = subst (λ x. Appends x o.after (p.text ++ grown)) (sym s.sink) (Appends-trans held held_now o.after p.text grown p.grew wrote);
    at_end = λ _. (s.at_end refl).1;
    pace = subst (λ bs. KeepsPace q i bs (p.text ++ grown)) (append-nil p.bytes) (pace_before i [] grown s.gave s.within);
    is = by_itself (answered (subst (λ (e : Bool). IsAnswered q p.bytes e (status_of_truth holds) (p.text ++ grown)) (sym s.same) is));
    is_line = refl;
    left = left;
  }

  -- the formula stays
  pub pushed_so_far : (g : Request) → g ≡ q → IsPushed Stands g p.bytes p.text
  pushed_so_far g e = subst (λ (k : Request). IsPushed Stands k p.bytes p.text) (sym e) p.is

  -- the last call of a stream
  pub end_from : (Done : List ℕ → List ℕ → Type 0) (g : Request) → g ≡ q → (i : Drained) (o : Filled) (piece : List ℕ)
      (r : Result Bool Stop) → IsRead before now held i o piece true → (r ≡ Err Unwritten → HasRefused o)
      → IsPush g held_now o.after p.bytes true p.text (IsFinished Done g p.bytes) r → IsStreamEnd Done q i o r
  end_from Done g e i o piece r s cut push =
      by_result r (subst (λ (k : Request). IsPush k held_now o.after p.bytes true p.text (IsFinished Done k p.bytes) r) e push) cut
    where
      none : IsRead before now held i o [] true
      none = subst (λ l. IsRead before now held i o l true) (s.at_end refl).0 s

      by_result : (r : Result Bool Stop) → IsPush q held_now o.after p.bytes true p.text (IsFinished Done q p.bytes) r → (r ≡ Err Unwritten → HasRefused o)
          → IsStreamEnd Done q i o r
      by_result (Ok holds) push cut = end_ok Done i o holds none push
      by_result (Err stop) (grown, wrote, is) cut =
          end_stop Done i o [] true stop none (λ k. cut (ap Err k))
          (grown, wrote, subst (λ bs. IsPushStop q bs true (p.text ++ grown) stop) (sym (append-nil p.bytes)) is)

  -- a piece that stopped the stream
  pub stop_from : (Done : List ℕ → List ℕ → Type 0) (g : Request) → g ≡ q → (i : Drained) (o : Filled) (piece : List ℕ) (stop : Stop)
      → IsRead before now held i o piece false → (stop ≡ Unwritten → HasRefused o)
      → (grown : List ℕ) × Appends held_now o.after grown × IsPushStop g (p.bytes ++ piece) false (p.text ++ grown) stop → IsStreamEnd Done q i o (Err stop)
  stop_from Done g e i o piece stop s cut (grown, wrote, is) =
      end_stop Done i o piece false stop s cut
      (grown, wrote, subst (λ (k : Request). IsPushStop k (p.bytes ++ piece) false (p.text ++ grown) stop) e is)

  -- a piece that was answered
  pub piece_from : (g : Request) → g ≡ q → (After : List ℕ → List ℕ → Type 0) (after held_after : Option (List ℕ)) (piece : List ℕ)
      → Consumes now after piece → 0 < length piece
      → (grown : List ℕ) × Appends held_now held_after grown × IsPushed After g (p.bytes ++ piece) (p.text ++ grown)
      → Pushing After q before after held held_after (reads + 1)
  piece_from g e After after held_after piece moved some (grown, wrote, is) =
      go_on After after held_after piece moved some (grown, wrote, subst (λ (k : Request). IsPushed After k (p.bytes ++ piece) (p.text ++ grown)) e is)

-- ---- the run

-- what is answered as its bytes come has an input, and is left
pub streams : (q : Request) (f : Formula) → IsStreamedFor q f → (has_input q ≡ true) × (keeps q ≡ true)
streams no_form f of = absurd of
streams (refused line) f of = absurd of
streams (whole c g) f of = absurd of
streams (stream verdicts g) f of = (refl, refl)
streams (stream early g) f of = (refl, refl)
streams (stream margins g) f of = (refl, refl)
streams (sessions g) f of = (refl, refl)
streams (generated number rows) f of = absurd of

-- a stored fault that its line tells is one for its formula
fault_line : (q : Request) (f : Formula) (fault : TraceFault) (line : List ℕ) → IsStreamedFor q f → IsFaultLineOf q fault line
    → (x : Fault) × IsFault f fault x × (line ≡ fault_text x)
fault_line no_form f fault line of told = absurd of
fault_line (refused l) f fault line of told = absurd of
fault_line (whole c g) f fault line of told = absurd of
fault_line (stream s g) f fault line of (x, is, e) = (x, subst (λ (k : Formula). IsFault k fault x) (sym of) is, e)
fault_line (sessions g) f fault line of told = absurd told
fault_line (generated number rows) f fault line of told = absurd of

module _ (q : Request) (f : Formula) (of : IsStreamedFor q f) where
  -- the line that is said of an ending is the stream's
  line_is : (ending : Result Bool Stop) (line said : List ℕ) → IsLineOf q ending line → IsEndLine f ending said → said ≡ line
  line_is (Ok holds) line said a b = b ∙ sym a
  line_is (Err (Faulty fault)) line said a b = let (x, is, e) = fault_line q f fault line of a in b x is ∙ sym e
  line_is (Err (FaultyLine fault)) line said a b = b ∙ sym a
  line_is (Err Unread) line said a b = b ∙ sym a
  line_is (Err Unwritten) line said a b = b ∙ sym a
  line_is (Err NoMemory) line said a b = b ∙ sym a
  line_is (Err (Wide i den)) line said a b = b ∙ sym a
  line_is (Err (TooMany count)) line said a b = b ∙ sym a

  -- a fault that ends it is one
  pub soundly : (ending : Result Bool Stop) (line : List ℕ) → IsLineOf q ending line → EndsSoundly f ending
  soundly (Ok holds) line a = tt
  soundly (Err (Faulty fault)) line a = let (x, is, e) = fault_line q f fault line of a in (x, is)
  soundly (Err (FaultyLine fault)) line a = tt
  soundly (Err Unread) line a = tt
  soundly (Err Unwritten) line a = tt
  soundly (Err NoMemory) line a = tt
  soundly (Err (Wide i den)) line a = tt
  soundly (Err (TooMany count)) line a = tt

  -- its end is that of the run, which leaves this
  pub streamed_run : {Done : List ℕ → List ℕ → Type 0} {i : Drained} {o e : Filled} {ending : Result Bool Stop} {status : ℕ} {old new : Kept}
      (words : List (List ℕ)) → Asks words q → (x : IsStreamEnd Done q i o ending) → IsAskedOnce i
      → (line : List ℕ) × IsEndLine f ending line × IsSaid e.before e.after e.faults e.faults_after line
      → status ≡ status_of ending → IsLeft words x.bytes (status_of ending) old new → HasRun words i o e old new status
  streamed_run {Done} {i} {o} {e} {ending} {status} {old} {new} words ask x once (line, is_line, said) is left =
      subst (λ n. HasRun words i o e old new n) (sym is) (record {
        run = record {
          bytes = x.bytes;
          text = x.text;
          line = x.line;
          moved = x.moved;
          grew = x.grew;
          said = subst (λ l. IsSaid e.before e.after e.faults e.faults_after l) (line_is ending x.line line x.is_line is_line) said;
          ended = asked q ask (λ k. absurd (false≢true (sym k ∙ (streams q f of).0)))
              (λ _ _. record { none_left = x.at_end; once = once }) (λ _. x.pace) x.is;
        };
        left = left;
      })
