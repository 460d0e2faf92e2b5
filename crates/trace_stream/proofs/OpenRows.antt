-- Rows that come straight to what follows them, and the text that is made or owed then.
use Rattle.std.proofs.Common.{◌≡◌, ℕ, List, [], ◌++◌, refl, sym, ap, subst, append-nil, Option, Some, None}
use Rattle.std.proofs.lemmas.Option.{same_Some}
use Rattle.stl_syntax.specs.Formula.{Formula}
use Rattle.trace_reader.specs.Reader.{Reader, StandsFor}
use Rattle.trace_stream.specs.CaseReader.{IsKept}
use Rattle.trace_stream.specs.Kept.{with_rows}
use Rattle.trace_stream.specs.Streams.{Stream, HasStream}
use Rattle.trace_stream.specs.Following.{IsOpen, IsOpenBy, IsOpened, IsOpenedBy, IsLiveOpen}
use Rattle.trace_stream.specs.declared.case.Case.{Case}
use Rattle.trace_stream.specs.declared.live.Live.{Live}
use Rattle.trace_stream.proofs.ReaderSteps.{more_text}
use Rattle.trace_stream.proofs.RowsKept.{kept_rows}

module _ (Stands Owes : Case → List ℕ → Type 0) (kind : Stream) where
  -- no bytes are no rows, and make no text
  pub open_by_none : (r : Reader) (c : Case) (old made : List ℕ) → IsOpen Stands Owes kind c made → IsOpenBy Stands Owes kind r r c [] old old made
  open_by_none r c old made t = record {
    more = [];
    stands = λ bytes rows s. subst (λ b. StandsFor r b (rows ++ [])) (sym (append-nil bytes)) (subst (StandsFor r bytes) (sym (append-nil rows)) s);
    opened = (
      [],
      sym (append-nil old),
      subst (λ m. IsOpen Stands Owes kind (with_rows [] c) m) (sym (append-nil made))
          (subst (λ rows. IsOpen Stands Owes kind (record c { trace = record c.trace { rows = rows } }) made) (sym (append-nil c.trace.rows)) t),
    );
  }

module _ {F : Type 0} (Stands Owes : F → Case → List ℕ → Type 0) (kind : Stream) where
  -- the case whose rows are followed
  pub case_open : (follower : Option F) (case : Option Case) (made : List ℕ) (x : F) → follower ≡ Some x
      → IsOpened Stands Owes kind follower case made → (c : Case) × (case ≡ Some c) × IsOpen (Stands x) (Owes x) kind c made
  case_open None case made x is t = absurd (let j = is in cc)
  case_open (Some y) None made x is t = absurd t
  case_open (Some y) (Some c) made x is t = (c, refl, subst (λ z. IsOpen (Stands z) (Owes z) kind c made) (same_Some y x is) t)

  -- before the header was read no rows are taken
  pub opened_by_none : (f : Formula) (r : Reader) (follower : Option F) (case : Option Case) (bytes old made : List ℕ)
      → IsKept f r case bytes → IsOpened Stands Owes kind follower case made
      → IsOpenedBy Stands Owes kind f r follower (bytes ++ []) old old made
  opened_by_none f r follower case bytes old made k t = record {
    case = case;
    kept = subst (IsKept f r case) (sym (append-nil bytes)) k;
    grown = [];
    text = sym (append-nil old);
    opened = subst (IsOpened Stands Owes kind follower case) (sym (append-nil made)) t;
  }

  -- rows more of what is followed
  pub opened_by_rows : (f : Formula) (before after : Reader) (case : Option Case) (c : Case) (x : F) (bytes taken old new made : List ℕ)
      → case ≡ Some c → IsKept f before case bytes → IsOpenBy (Stands x) (Owes x) kind before after c taken old new made
      → after.least ≡ before.least → after.heading ≡ before.heading
      → IsOpenedBy Stands Owes kind f after (Some x) (bytes ++ taken) old new made
  opened_by_rows f before after case c x bytes taken old new made is k m least same = record {
    case = Some (with_rows m.more c);
    kept = kept_rows f before after case c bytes taken m.more is k m.stands least same;
    grown = m.opened.0;
    text = m.opened.1;
    opened = m.opened.2;
  }

  -- the reader with what follows the rows, once some rows more were taken
  pub live_rows : (live : Live F) (rows : Reader) (follower : Option F) (bytes text written : List ℕ) → HasStream kind live.formula
      → IsOpenedBy Stands Owes kind live.formula rows follower bytes live.text text (written ++ live.text)
      → IsLiveOpen Stands Owes kind (record live { rows = rows; follower = follower; text = text }) bytes written
  live_rows live rows follower bytes text written served m = record {
    served = served;
    case = m.case;
    kept = m.kept;
    followed = subst (IsOpened Stands Owes kind follower m.case) (sym (more_text written live.text text m.grown m.text)) m.opened;
  }
