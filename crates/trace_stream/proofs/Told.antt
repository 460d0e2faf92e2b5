-- The text of a reader with what follows its rows: that of the rows so far, and that of all; and what stands once it was taken.
use Rattle.std.proofs.Common.{ℕ, Bool, true, false, List, [], ◌++◌, sym, subst, append-nil, Some}
use Rattle.std.specs.Prelude.{option_map}
use Rattle.stl_syntax.specs.Formula.{Formula, root}
use Rattle.trace_reader.specs.Reader.{header_of}
use Rattle.trace_reader.specs.declared.refusal.Limits.{Limits}
use Rattle.trace_reader.specs.InputFaults.{Fault, IsInputFault, sound}
use Rattle.trace_stream.specs.Streams.{Stream, StreamText}
use Rattle.trace_stream.specs.Following.{IsTextOf, IsFollowed, IsLive, IsOver}
use Rattle.trace_stream.specs.declared.case.Case.{Case}
use Rattle.trace_stream.specs.declared.live.Live.{Live}
use Rattle.trace_stream.proofs.KeptRows.{sound_so_far, before_of_kept}
use Rattle.trace_stream.proofs.ReaderSteps.{told_of_kept}

module _ {F : Type 0} (Stands : F → Case → List ℕ → Type 0) (kind : Stream) where
  -- what was written and is to be written is the text of the rows so far
  pub told_now : (live : Live F) (bytes text : List ℕ) → IsLive Stands kind live bytes text
      → IsTextOf kind live.rows.limits live.formula bytes false (text ++ live.text)
  told_now live bytes text k = record {
    header = option_map (header_of live.formula.scale) live.rows.heading;
    rows = k.kept.rows;
    whole = false;
    before = before_of_kept live.formula live.rows k.case bytes k.kept;
    is = told_of_kept Stands kind live.formula live.rows live.follower k.case bytes (text ++ live.text) k.kept k.followed;
  }

  -- and they have no fault
  pub calm_now : (live : Live F) (bytes text : List ℕ) → IsLive Stands kind live bytes text → (x : Fault)
      → ¬ IsInputFault live.rows.limits live.formula bytes false x
  calm_now live bytes text k = sound_so_far live.formula live.rows k.case bytes k.kept

  -- it stands for the same bytes once its text is written
  pub live_after : (mid : Live F) (bytes text : List ℕ) → IsLive Stands kind mid bytes text
      → IsLive Stands kind (record mid { text = [] }) bytes (text ++ mid.text)
  live_after mid bytes text k =
      record {
        served = k.served;
        case = k.case;
        kept = k.kept;
        followed = subst (λ t. IsFollowed Stands kind mid.follower k.case t) (sym (append-nil (text ++ mid.text))) k.followed;
      }

module _ {F : Type 0} (Ended : F → Case → List ℕ → Type 0) (kind : Stream) where
  -- the whole text is that of all rows and their end
  pub told_over : (limits : Limits) (f : Formula) (live : Live F) (bytes text : List ℕ) (holds : Bool)
      → IsOver Ended kind limits f live bytes text holds → IsTextOf kind limits f bytes true text
  told_over limits f live bytes text holds k = record {
    header = Some k.case.trace.header;
    rows = k.case.trace.rows;
    whole = true;
    before = sound k.trace.sound k.trace.trace.text.read;
    is = subst (λ (g : Formula). StreamText kind (root g.nodes) k.case.trace.header k.case.trace.rows true text) k.fits.formula k.complete.told;
  }

  -- it stands for the end when its text is taken away, too
  pub over_after : (limits : Limits) (f : Formula) (mid : Live F) (bytes text : List ℕ) (holds : Bool) → IsOver Ended kind limits f mid bytes text holds
      → IsOver Ended kind limits f (record mid { text = [] }) bytes text holds
  over_after limits f mid bytes text holds k = record { case = k.case; fits = k.fits; trace = k.trace; follower = k.follower; is = k.is; complete = k.complete }
