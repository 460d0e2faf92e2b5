-- How far the reading of a source has come.
use Rattle.std.proofs.Common.{◌≡◌, ℕ, ◌+◌, ◌<◌, ◌≤◌, Bool, true, false, List, [], ◌++◌, length, take, length-take, refl}
use Rattle.std.proofs.Common.{sym, ap, ◌∙◌, subst, arith, append-nil, length-append, Some, None, Ok, Err, Result}
use Rattle.std.specs.Prelude.{Option, MatchOption, MatchResult}
use Rattle.std.specs.Io.KnownBytes.{Consumes, Keeps, IsAtEnd}
use Rattle.std.proofs.KnownBytes.{Consumes-trans, Consumes-kept}
use Rattle.std.proofs.lemmas.Bool.{false≢true}
use Rattle.std.proofs.lemmas.List.{length-take-le}
use Rattle.io_edge.specs.Causes.{after_end}
use Rattle.stl_syntax.specs.Formula.{Formula}
use Rattle.trace_reader.specs.Reader.{Reader}
use Rattle.trace_reader.specs.declared.refusal.Limits.{Limits}
use Rattle.trace_reader.specs.InputFaults.{IsInputFault}
use Rattle.trace_stream.specs.CaseReader.{IsSound, IsRefused, IsWhole}
use Rattle.trace_stream.specs.Kept.{IsKeptAs, HasKeptAs, IsEndedAs}
use Rattle.whole_answers.specs.FromSource.{IsRead, IsReadPromptly, IsReadWhole, IsReadAs, IsReadInPart, IsStop}
use Rattle.trace_stream.specs.declared.case.Case.{Case}
use Rattle.trace_stream.specs.declared.fault.StreamStop.{StreamStop}
use Rattle.trace_stream.specs.declared.fault.StreamStop.TheVariants.{Fault as Faulty, NoMemory, Wide}
use Rattle.whole_answers.specs.declared.no_answer.NoAnswer.TheVariants.{Unread}
use Rattle.whole_answers.specs.Stopping.{reason_of, outcome_of}
use Rattle.trace_stream.proofs.KeptRows.{sound_so_far}
use Rattle.trace_stream.proofs.Sizes.{few_bytes}

-- some bytes were read and kept, in so many reads
pub record Progress {K : Type 0} (Stands : K → Case → Type 0) (limits : Limits) (f : Formula) (before now : Option (List ℕ)) (reader : Reader)
    (kept : Option K) (reads : ℕ) : Type 0 where
  -- the bytes that were read
  pub bytes : List ℕ
  -- they were taken from the front of the source
  pub moved : Consumes before now bytes
  -- the reader holds these bytes, and this was kept of them
  pub is : IsKeptAs Stands f reader kept bytes
  -- its limits are those of the command
  pub same_limits : reader.limits ≡ limits
  -- each read gave a byte at least
  pub enough : reads ≤ length bytes

module _ {K : Type 0} {Stands : K → Case → Type 0} {limits : Limits} {f : Formula} {before now : Option (List ℕ)} {reader : Reader}
    {kept : Option K} {reads : ℕ} (p : Progress Stands limits f before now reader kept reads) where
  -- lines are short and not many, so the reads are few
  pub few_reads : limits.lines ≤ 8589934592 → 18446744073709551615 ≤ reads → ⊥
  few_reads n r =
      let few : reader.limits.lines ≤ 8589934592 = rw (p.same_limits) n in
      omega (arith, r, p.enough, few_bytes reader.limits reader.least reader.heading p.bytes p.is.is.rows p.is.is.stands.read p.is.is.stands.sound)

  -- the reader has what it keeps of some bytes
  pub has_kept : HasKeptAs Stands f reader kept
  has_kept = record { bytes = p.bytes; is = p.is }

  -- a source that failed was read in part
  pub read_in_part : (after : Option (List ℕ)) (ended : Bool) → Keeps now after → ended ≡ false → IsReadInPart limits f before after ended
  read_in_part after ended k e = record {
    bytes = p.bytes;
    read = record { moved = Consumes-kept before now after p.bytes p.moved k; all = λ t. absurd (false≢true (sym e ∙ t)) };
    goes_on = e;
    sound = subst (λ (x : Limits). IsSound x f p.bytes false) p.same_limits (sound_so_far f reader p.is.case p.bytes p.is.is);
  }

  -- a source that says its end was read to it
  pub read_all : (after : Option (List ℕ)) (ended : Bool) (empty : List ℕ) → empty ≡ [] → Consumes now after empty → IsAtEnd after
      → IsRead before after ended p.bytes
  read_all after ended empty e c a = record {
    moved = subst (Consumes before after) (ap (λ l. p.bytes ++ l) e ∙ append-nil p.bytes) (Consumes-trans before now after p.bytes empty p.moved c);
    all = λ _. a;
  }

  -- a piece more was taken from the front
  pub read_more : (after : Option (List ℕ)) (ended : Bool) (piece : List ℕ) → Consumes now after piece → ended ≡ false
      → IsRead before after ended (p.bytes ++ piece)
  read_more after ended piece c e = record {
    moved = Consumes-trans before now after p.bytes piece p.moved c;
    all = λ t. absurd (false≢true (sym e ∙ t));
  }

  -- nothing was wrong before a piece, or at the end before it
  pub prompt_piece : (piece : List ℕ) (ended : Bool) → length piece ≤ 4096 → ended ≡ false → IsReadPromptly limits f (p.bytes ++ piece) ended
  prompt_piece piece ended short e = record {
    before = p.bytes;
    piece = piece;
    parts = refl;
    short = short;
    at_end = λ t. absurd (false≢true (sym e ∙ t));
    sound = subst (λ (x : Limits). IsSound x f p.bytes false) p.same_limits (sound_so_far f reader p.is.case p.bytes p.is.is);
  }

  -- nothing of the bytes so far ended the run before
  pub prompt_end : (ended : Bool) → IsReadPromptly limits f p.bytes ended
  prompt_end ended = record {
    before = p.bytes;
    piece = [];
    parts = sym (append-nil p.bytes);
    short = omega arith;
    at_end = λ _. refl;
    sound = subst (λ (x : Limits). IsSound x f p.bytes false) p.same_limits (sound_so_far f reader p.is.case p.bytes p.is.is);
  }

  -- with one more piece the reading goes on
  pub go_on : (after : Option (List ℕ)) (piece : List ℕ) (later : Reader) (more : Option K) → Consumes now after piece → 0 < length piece
      → IsKeptAs Stands f later more (p.bytes ++ piece) → later.limits ≡ reader.limits → Progress Stands limits f before after later more (reads + 1)
  go_on after piece later more c n k l = record {
    bytes = p.bytes ++ piece;
    moved = Consumes-trans before now after p.bytes piece p.moved c;
    is = k;
    same_limits = l ∙ p.same_limits;
    enough = omega (arith, n, p.enough, length-append p.bytes piece);
  }

-- why the reading stopped
pub stop_from : {l limits : Limits} {f : Formula} {bytes : List ℕ} (before after : Option (List ℕ)) (ended known : Bool)
    (e : StreamStop) → l ≡ limits → ended ≡ known
    → IsRefused l f known bytes e → IsRead before after ended bytes → IsReadPromptly limits f bytes ended → IsStop limits f before after ended (reason_of e)
stop_from {l} {f = f} {bytes = bytes} before after ended known (Faulty fault) s k (x, is, first) read prompt = (
  x,
  is,
  record {
    bytes = bytes;
    read = read;
    fault = subst (λ (m : Limits). IsInputFault m f bytes ended x) s (subst (λ b. IsInputFault l f bytes b x) (sym k) first);
    prompt = prompt;
  },
)
stop_from {bytes = bytes} before after ended known NoMemory s k r read prompt = (bytes, read.moved)
stop_from before after ended known (Wide i den) s k r read prompt = absurd r

-- the end of the bytes, told to the reader, is the end of the reading
pub end_from : {K : Type 0} (Stands : K → Case → Type 0) {l limits : Limits} {f : Formula} {bytes : List ℕ} (before after : Option (List ℕ)) (ended : Bool)
    (r : Result (Unit {0}) StreamStop) (kept : Option K)
    → l ≡ limits → ended ≡ true → IsRead before after ended bytes → IsReadPromptly limits f bytes ended
    → MatchResult r (λ _. MatchOption kept ⊥ (IsEndedAs Stands l f bytes)) (IsRefused l f true bytes)
    → MatchResult (outcome_of r) (λ _. MatchOption kept ⊥ (IsReadAs Stands limits f before after ended)) (IsStop limits f before after ended)
end_from Stands before after ended (Ok x) None s k read prompt m = absurd m
end_from Stands {f = f} {bytes = bytes} before after ended (Ok x) (Some y) s k read prompt m = record {
  case = m.case;
  for_case = m.for_case;
  read = record {
    bytes = bytes;
    read = read;
    came_to_end = k;
    whole = subst (λ (l : Limits). IsWhole l f bytes m.case.trace) s m.ended.whole;
    case = m.ended.case;
  };
}
end_from Stands before after ended (Err e) kept s k read prompt m = stop_from before after ended true e s k m read prompt

-- a case that was kept whole was read whole
pub read_itself : {limits : Limits} {f : Formula} {before after : Option (List ℕ)} {ended : Bool} (x : Case)
    → IsReadAs (λ (y c : Case). y ≡ c) limits f before after ended x → IsReadWhole limits f before after ended x
read_itself {limits} {f} {before} {after} {ended} x r = subst (λ c. IsReadWhole limits f before after ended c) (sym r.for_case) r.read

-- a refusal is no fault of the source
pub not_unread : (e : StreamStop) → reason_of e ≡ Unread → ⊥
not_unread (Faulty fault) same = let k = same in cc
not_unread NoMemory same = let k = same in cc
not_unread (Wide i den) same = let k = same in cc

-- the end of the bytes is no failed read
pub end_not_unread : (r : Result (Unit {0}) StreamStop) → outcome_of r ≡ Err Unread → ⊥
end_not_unread (Ok x) same = let k = same in cc
end_not_unread (Err e) same = not_unread e (let k = same in cc)

-- a read of no bytes takes none
pub none_taken : (n : ℕ) (buf : List ℕ) → n ≡ 0 → take n buf ≡ []
none_taken n buf e = subst (λ m. take m buf ≡ []) (sym e) refl

-- no more was taken than the buffer has
pub short_taken : (n : ℕ) (buf : List ℕ) → length buf ≡ 4096 → length (take n buf) ≤ 4096
short_taken n buf e = omega (arith, e, length-take n buf)

-- a read of some bytes takes some
pub some_taken : (n : ℕ) (buf : List ℕ) → (n ≡ 0 → ⊥) → n ≤ length buf → 0 < length (take n buf)
some_taken n buf d h = omega (arith, d, length-take-le n buf h)

-- a test that is not true is false
pub not_true : (b : Bool) → (b ≡ true → ⊥) → b ≡ false
not_true true h = absurd (h refl)
not_true false h = refl

-- a call that did not say the end left the count of ends
pub unended : (said : Bool) (before now : ℕ) → now ≡ after_end said before → said ≡ false → now ≡ before
unended true before now e same = let k = same in cc
unended false before now e same = e
