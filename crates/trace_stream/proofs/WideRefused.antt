-- A stream that is refused for a denominator: which bytes were taken by then, and what was made of them.
use Rattle.std.proofs.Common.{◌≡◌, ℕ, ◌-◌, ◌^◌, Bool, true, false, List, [], ◌∷◌, ◌++◌, refl, sym, ◌∙◌, subst, Option, Some, None}
use Rattle.std.specs.Prelude.{option_map, slice_get}
use Rattle.std.proofs.lemmas.Bool.{false≢true}
use Rattle.std.proofs.lemmas.Option.{slice_get-map, same_Some}
use Rattle.stl_syntax.specs.Formula.{Formula, root}
use Rattle.stl_syntax.specs.Scaling.{scaled, scaled_node}
use Rattle.stl_syntax.specs.Trace.{Header, Row}
use Rattle.stl_syntax.specs.declared.node.Node.{Node}
use Rattle.stl_syntax.specs.declared.node.Node.TheVariants as node
use Rattle.stl_syntax.specs.declared.scale.Scale.{Scale}
use Rattle.online_nodes.specs.StreamedWide.{IsUnstreamed}
use Rattle.trace_reader.specs.TraceText.{Heading, lines, AreTraceLines, TraceOf}
use Rattle.trace_reader.specs.Reader.{Reader, HasRead, header_of}
use Rattle.trace_reader.specs.declared.refusal.Limits.{Limits}
use Rattle.trace_stream.specs.Cases.{IsCase, with_row}
use Rattle.trace_stream.specs.CaseReader.{IsSound, IsKept, HasCase, IsEnded}
use Rattle.trace_stream.specs.Streams.{Stream, verdicts, early, margins, HasStream, StreamText}
use Rattle.trace_stream.specs.Wides.{IsNeededByThen, at_row, at_end}
use Rattle.trace_stream.specs.Following.{IsFollowed, IsFollowFault, IsUnwritten, IsHeldUp, IsLiveStop, stop_of}
use Rattle.trace_stream.specs.declared.case.Case.{Case}
use Rattle.trace_stream.specs.declared.fault.StreamStop.{StreamStop}
use Rattle.trace_stream.specs.declared.follow.FollowFault.{FollowFault}
use Rattle.trace_stream.specs.declared.follow.FollowFault.TheVariants.{Memory, Wide}
use Rattle.trace_stream.proofs.KeptOfBytes.{same_header}
use Rattle.trace_stream.proofs.KeptRows.{sound_so_far}

-- ---- formulas that have a stream

-- a node that is until or since in other ticks is so in its own
unstreamed_scaled : (time size : ℕ) (n : Node) → IsUnstreamed (scaled_node time size n) → IsUnstreamed n
unstreamed_scaled time size (node.Const b) u = u
unstreamed_scaled time size (node.Atom a) u = u
unstreamed_scaled time size (node.Not p) u = u
unstreamed_scaled time size (node.And p q) u = u
unstreamed_scaled time size (node.Or p q) u = u
unstreamed_scaled time size (node.Implies p q) u = u
unstreamed_scaled time size (node.Until p q a b) u = u
unstreamed_scaled time size (node.Since p q a b) u = u
unstreamed_scaled time size (node.Eventually p a b a_in b_in) u = u
unstreamed_scaled time size (node.Always p a b a_in b_in) u = u
unstreamed_scaled time size (node.Once p a b a_in b_in) u = u
unstreamed_scaled time size (node.Historically p a b a_in b_in) u = u

-- a node of the formula in other ticks
abbrev change : Formula → Scale → Node → Node
change f scale = scaled_node (10 ^ (scale.time - f.scale.time)) (10 ^ (scale.value - f.scale.value))

margins_scaled : (f : Formula) (scale : Scale) → HasStream margins f → HasStream margins (scaled f scale)
margins_scaled f scale h i n at unstreamed = by_node (slice_get f.nodes i) refl (sym (slice_get-map (change f scale) f.nodes i) ∙ at)
  where
    by_node : (o : Option Node) → slice_get f.nodes i ≡ o → option_map (change f scale) o ≡ Some n → ⊥
    by_node None e k = absurd (let z : ◌≡◌ {A = Option Node} None (Some n) = k in cc)
    by_node (Some m) e k =
        let same : change f scale m ≡ n = same_Some _ _ k in
        h i m e (unstreamed_scaled (10 ^ (scale.time - f.scale.time)) (10 ^ (scale.value - f.scale.value)) m (subst IsUnstreamed (sym same) unstreamed))

-- it has one in all ticks
pub stream_scaled : (s : Stream) (f : Formula) (scale : Scale) → HasStream s f → HasStream s (scaled f scale)
stream_scaled verdicts f scale h = tt
stream_scaled early f scale h = tt
stream_scaled margins f scale h = margins_scaled f scale h

-- so has that of a case
pub stream_of_case : (s : Stream) (f : Formula) (c : Case) → IsCase f c → HasStream s f → HasStream s c.formula
stream_of_case s f c is h = subst (λ (g : Formula). HasStream s g) (sym is.formula) (stream_scaled s f c.trace.header.scale h)

-- ---- rows that were read

-- the first of the bytes have no fault, and are those of the case's rows
pub record IsReadTo (limits : Limits) (f : Formula) (seen : List ℕ) (ended : Bool) (c : Case) : Type 0 where
  -- the case is the formula's
  pub fits : IsCase f c
  -- the bytes have no fault
  pub sound : IsSound limits f seen ended
  -- and are read as the case's rows
  pub read : TraceOf seen ended f.scale c.trace.header c.trace.rows

-- what a reader has kept
pub read_of_kept : (f : Formula) (reader : Reader) (c : Case) (bytes : List ℕ) → IsKept f reader (Some c) bytes → IsReadTo reader.limits f bytes false c
read_of_kept f reader c bytes k = by_heading reader.heading refl k.has_case
  where
    by_heading : (o : Option Heading) → reader.heading ≡ o → HasCase f o bytes k.rows (Some c) → IsReadTo reader.limits f bytes false c
    by_heading None e has_case = absurd (let j = has_case in cc)
    by_heading (Some h) e (fits, rows, header) =
        let read : AreTraceLines f.scale (lines false bytes) (header_of f.scale h) k.rows =
        subst (λ (s : Scale). AreTraceLines s (lines false bytes) (header_of s h) k.rows) k.least
        (subst (λ o. HasRead o reader.least bytes k.rows) e k.stands.read) in
        record {
          fits = fits;
          sound = sound_so_far f reader (Some c) bytes k;
          read = subst (λ rs. AreTraceLines f.scale (lines false bytes) c.trace.header rs) (sym rows)
              (subst (λ (z : Header). AreTraceLines f.scale (lines false bytes) z k.rows) (sym (same_header header false h read)) read);
        }

-- all bytes
pub read_of_ended : (limits : Limits) (f : Formula) (bytes : List ℕ) (c : Case) → IsEnded limits f bytes c → IsReadTo limits f bytes true c
read_of_ended limits f bytes c e = record { fits = e.case; sound = e.whole.sound; read = e.whole.trace.text.read }

-- ---- refusals

module _ (kind : Stream) (limits : Limits) (f : Formula) (bytes : List ℕ) (ended : Bool) (seen later : List ℕ) (parts : bytes ≡ seen ++ later) (seen_end : Bool)
    (at : seen_end ≡ true → (ended ≡ true) × (later ≡ [])) (c : Case) where
  -- for a new row
  row_refused : (row : Row) (text : List ℕ) (fault : FollowFault) → IsReadTo limits f seen seen_end (with_row row c)
      → StreamText kind (root c.formula.nodes) c.trace.header c.trace.rows false text → IsFollowFault kind (with_row row c) false fault
      → IsLiveStop kind limits f ended bytes text (stop_of fault)
  row_refused row text Memory r told is = tt
  row_refused row text (Wide i den) r told is = by_kind kind told is
    where
      by_kind : (s : Stream) → StreamText s (root c.formula.nodes) c.trace.header c.trace.rows false text → IsFollowFault s (with_row row c) false (Wide i den)
          → IsLiveStop s limits f ended bytes text (stop_of (Wide i den))
      by_kind verdicts told is = absurd is
      by_kind early told is = absurd is
      by_kind margins told is = record {
        seen = seen;
        later = later;
        parts = parts;
        seen_end = seen_end;
        at_end = at;
        header = c.trace.header;
        rows = c.trace.rows ++ row ∷ [];
        sound = r.sound;
        read = r.read;
        closed = false;
        closes = λ e. absurd (false≢true e);
        cause = at_row c.trace.rows row
            (subst (λ (g : Formula). IsNeededByThen g.nodes (record c.trace { rows = c.trace.rows ++ row ∷ [] }) false i den) r.fits.formula is)
            (subst (λ (g : Formula). StreamText margins (root g.nodes) c.trace.header c.trace.rows false text) r.fits.formula told);
      }

  -- for the end
  end_refused : (text : List ℕ) (fault : FollowFault) → seen_end ≡ true → IsReadTo limits f seen seen_end c
      → StreamText kind (root c.formula.nodes) c.trace.header c.trace.rows false text → IsFollowFault kind c true fault
      → IsLiveStop kind limits f ended bytes text (stop_of fault)
  end_refused text Memory e r told is = tt
  end_refused text (Wide i den) e r told is = by_kind kind told is
    where
      by_kind : (s : Stream) → StreamText s (root c.formula.nodes) c.trace.header c.trace.rows false text → IsFollowFault s c true (Wide i den)
          → IsLiveStop s limits f ended bytes text (stop_of (Wide i den))
      by_kind verdicts told is = absurd is
      by_kind early told is = absurd is
      by_kind margins told is = record {
        seen = seen;
        later = later;
        parts = parts;
        seen_end = seen_end;
        at_end = at;
        header = c.trace.header;
        rows = c.trace.rows;
        sound = r.sound;
        read = r.read;
        closed = true;
        closes = λ k. e;
        cause = at_end (subst (λ (g : Formula). IsNeededByThen g.nodes c.trace true i den) r.fits.formula is)
            (subst (λ (g : Formula). StreamText margins (root g.nodes) c.trace.header c.trace.rows false text) r.fits.formula told);
      }

-- a refusal made no text
stop_text : (old new : List ℕ) (written : List ℕ) (kind : Stream) (limits : Limits) (f : Formula) (bytes : List ℕ) (ended : Bool) (fault : FollowFault)
    → (IsLiveStop kind limits f ended bytes (written ++ old) (stop_of fault)) → IsUnwritten old new fault
    → IsLiveStop kind limits f ended bytes (written ++ new) (stop_of fault)
stop_text old new written kind limits f bytes ended Memory h same = tt
stop_text old new written kind limits f bytes ended (Wide i den) h same =
    subst (λ t. IsLiveStop kind limits f ended bytes (written ++ t) (stop_of (Wide i den))) (sym same) h

module _ {F : Type 0} (Stands : F → Case → List ℕ → Type 0) (kind : Stream) (limits : Limits) (f : Formula) (bytes : List ℕ)
    (ended : Bool) (seen later : List ℕ) (parts : bytes ≡ seen ++ later)
    (seen_end : Bool) (at : seen_end ≡ true → (ended ≡ true) × (later ≡ [])) where
  -- a row that was not taken
  pub row_held : (follower : Option F) (case : Option Case) (row : Row) (written old new : List ℕ) (stop : StreamStop)
      → ((c : Case) → option_map (with_row row) case ≡ Some c → IsReadTo limits f seen seen_end c)
      → IsFollowed Stands kind follower case (written ++ old) → IsHeldUp kind (option_map (with_row row) case) false old new stop
      → IsLiveStop kind limits f ended bytes (written ++ new) stop
  row_held follower None row written old new stop r t held = absurd held
  row_held None (Some c) row written old new stop r t held = absurd t
  row_held (Some x) (Some c) row written old new stop r t (fault, is, why, same) =
      subst (λ (s : StreamStop). IsLiveStop kind limits f ended bytes (written ++ new) s) (sym is)
      (stop_text old new written kind limits f bytes ended fault
      (row_refused kind limits f bytes ended seen later parts seen_end at c row (written ++ old) fault (r (with_row row c) refl) t.told why) same)

  -- the end
  pub end_held : (follower : Option F) (c : Case) (written old new : List ℕ) (stop : StreamStop) → seen_end ≡ true → IsReadTo limits f seen seen_end c
      → IsFollowed Stands kind follower (Some c) (written ++ old) → IsHeldUp kind (Some c) true old new stop
      → IsLiveStop kind limits f ended bytes (written ++ new) stop
  end_held None c written old new stop e r t held = absurd t
  end_held (Some x) c written old new stop e r t (fault, is, why, same) =
      subst (λ (s : StreamStop). IsLiveStop kind limits f ended bytes (written ++ new) s) (sym is)
      (stop_text old new written kind limits f bytes ended fault
      (end_refused kind limits f bytes ended seen later parts seen_end at c (written ++ old) fault e r t.told why) same)
