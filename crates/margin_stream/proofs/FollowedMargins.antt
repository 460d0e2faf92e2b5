-- What follows the rows of a case by a network of margins: from what the network's calls answer to the text of a stream.
use Rattle.std.proofs.Common.{◌≡◌, inl, inr, ℕ, ◌<◌, Bool, true, false, List, [], ◌∷◌, ◌++◌, length}
use Rattle.std.proofs.Common.{map, refl, sym, ap, ◌∙◌, subst, arith, append-nil, append_assoc, None}
use Rattle.std.specs.Prelude.{◌≢◌, IfSome}
use Rattle.std.proofs.lemmas.Bool.{false≢true}
use Rattle.std.proofs.lemmas.List.{map-append}
use Rattle.frac128.specs.Value.{value}
use Rattle.value_laws.specs.Margins.{margin_function}
use Rattle.value_laws.specs.declared.margin.Margin.{Margin}
use Rattle.pl_signal.specs.declared.faults.WidePair.{WidePair}
use Rattle.pl_signal.specs.declared.faults.WidePair.TheVariants.{Cross, Value}
use Rattle.stl_syntax.specs.Formula.{Formula, root}
use Rattle.stl_syntax.specs.Trace.{Row, IsTrace, AreRows, last_time}
use Rattle.stl_syntax.specs.declared.scale.Scale.{Scale}
use Rattle.online_nodes.specs.MarginEdges.{Part, IsPartLine}
use Rattle.online_nodes.specs.MarginStream.{IsMarginStream}
use Rattle.online_robust.specs.Lining.{ArePartLines}
use Rattle.online_robust.specs.Moving.{Move, turn_of, last_row_of}
use Rattle.online_robust.specs.Nets.{Parts, StandsFor, IsFault, IsGiven, IsWideIn}
use Rattle.online_robust.specs.Pasts.{Past, part_of, trace_of}
use Rattle.online_robust.specs.Steps.{IsStreamedCause}
use Rattle.online_robust.specs.declared.line.MarginLine.{MarginLine}
use Rattle.online_robust.specs.declared.net.RobustFault.{RobustFault}
use Rattle.online_robust.specs.declared.net.RobustFault.TheVariants as R
use Rattle.online_robust.proofs.StreamTexts.{lines_more, stream_text}
use Rattle.online_robust.proofs.Leaves.{last_row_time}
use Rattle.trace_stream.specs.Cases.{IsCase, Takes, with_row}
use Rattle.trace_stream.specs.Streams.{margins}
use Rattle.trace_stream.specs.Wides.{IsNeededByThen}
use Rattle.trace_stream.specs.Following.{IsFollowedOn, IsFollowedOut, IsFollowFault, IsUnwritten}
use Rattle.margin_stream.specs.Margining.{past_of, denominator_of, fault_of, Given, HasTaken, HasTakenAll, IsMargined, IsOfFirst, IsStanding}
use Rattle.trace_stream.specs.declared.case.Case.{Case}
use Rattle.trace_stream.specs.declared.follow.FollowFault.{FollowFault}
use Rattle.trace_stream.specs.declared.follow.FollowFault.TheVariants as F
use Rattle.answer_lines.specs.declared.last_part.LastPart.{LastPart}
use Rattle.margin_stream.specs.declared.margins.Margins.{Margins}

-- ---- rows

later_row : (rows : List Row) (r : Row) → (0 < length rows → last_time 0 rows < r.time) → IfSome (last_row_of rows) (λ (l : Row). l.time < r.time)
later_row [] r h = tt
later_row (q ∷ rows) r h = subst (λ n. n < r.time) (sym (last_row_time q rows)) (h (omega arith))

has_last_row : (width : ℕ) (rows : List Row) → AreRows width rows → last_row_of rows ≢ None
has_last_row width [] are e = are
has_last_row width (q ∷ rows) are e = cc

-- ---- lines

lines_joined : (scale : Scale) (a b : List Part) (x y : List ℕ) → ArePartLines scale a x → ArePartLines scale b y → ArePartLines scale (a ++ b) (x ++ y)
lines_joined scale [] b x y first second = subst (λ l. ArePartLines scale b (l ++ y)) (sym first) second
lines_joined scale (p ∷ a) b x y (here, later, is, first, e) second =
    (here, later ++ y, is, lines_joined scale a b later y first second, ap (λ l. l ++ y) e ∙ append_assoc here later y)

both_lines : (scale : Scale) (given more : List MarginLine) (x y : List ℕ) → ArePartLines scale (map part_of given) x → ArePartLines scale (map part_of more) y
    → ArePartLines scale (map part_of (given ++ more)) (x ++ y)
both_lines scale given more x y first second =
    subst (λ l. ArePartLines scale l (x ++ y)) (sym (map-append part_of given more))
    (lines_joined scale (map part_of given) (map part_of more) x y first second)

-- ---- what is taken

-- nothing yet
pub none_taken : (g : Given) (m : Margins) (text : List ℕ) → IsStanding g m → HasTaken g m text text
none_taken g m text s = record {
  more = [];
  stands = subst (λ l. StandsFor g.nodes g.header m.net g.past l) (sym (append-nil g.lines)) s;
  text = ([], refl, sym (append-nil text));
}

-- one line more
pub one_taken : {g : Given} {m : Margins} {net : Parts} {line : MarginLine} {old mid new : List ℕ} (last : LastPart) (here : List ℕ)
    → (h : HasTaken g m old mid) → IsGiven g.nodes g.header g.past (g.lines ++ h.more) net line → IsPartLine m.formula.scale (part_of line) here
    → new ≡ mid ++ here → HasTaken g (record m { net = net; last = last }) old new
one_taken {g} {m} {net} {line} {old} last here h given is longer =
    let (text, lines, e) = h.text in
    record {
      more = h.more ++ line ∷ [];
      stands = subst (λ l. StandsFor g.nodes g.header net g.past l) (append_assoc g.lines h.more (line ∷ [])) given.stands;
      text = (
        text ++ here,
        subst (λ l. ArePartLines m.formula.scale l (text ++ here)) (sym (map-append part_of h.more (line ∷ [])))
            (lines_more m.formula.scale (map part_of h.more) (part_of line) text here lines is),
        longer ∙ ap (λ l. l ++ here) e ∙ append_assoc old text here,
      );
    }

-- ---- faults

-- a network that runs and has not ended tells its first fault
pub of_first : (old new : Parts) (fault : RobustFault) → old.stopped ≡ false → old.closed ≡ false → IsFault old new fault → IsOfFirst fault
of_first old new (R.Wide cause) running going f = tt
of_first old new R.Memory running going f = tt
of_first old new R.Stopped running going (stopped, same) = false≢true (sym running ∙ stopped)
of_first old new R.Closed running going (runs, closed, same) = false≢true (sym going ∙ closed)

needed : (m : Move) (pair : WidePair Margin) → IsStreamedCause (turn_of m (trace_of m.header m.new)) pair
    → IsNeededByThen m.nodes (trace_of m.header m.new) m.new.ended m.place (denominator_of pair)
needed m (Cross p q a b den) cause = inl (margin_function p, margin_function q, value a, value b, cause)
needed m (Value p at den) cause = inr (margin_function p, value at, cause)

-- its cause is that of the follower
pub fault_so : (c : Case) (ended : Bool) (old : Past) (fault : RobustFault) → IsWideIn c.formula.nodes c.trace.header old (past_of c ended) fault
    → IsFollowFault margins c ended (fault_of fault)
fault_so c ended old (R.Wide cause) (inside, is) =
    needed (record { nodes = c.formula.nodes; header = c.trace.header; old = old; new = past_of c ended; place = cause.node }) cause.pair is
fault_so c ended old R.Memory is = tt
fault_so c ended old R.Stopped is = tt
fault_so c ended old R.Closed is = tt

-- where nothing was put, nothing was written
pub unwritten : (text : List ℕ) (fault : FollowFault) → IsUnwritten text text fault
unwritten text F.Memory = tt
unwritten text (F.Wide i den) = refl

module _ (m : Margins) (c : Case) (made : List ℕ) (w : IsMargined false m c made) where
  -- the row may come
  pub fits_width : (r : Row) → Takes r c.trace → length r.values ≡ m.net.bound.width
  fits_width r t = t.0 ∙ sym w.stands.keeps.bound.width

  -- and it is later than the last one
  pub fits_time : (r : Row) → Takes r c.trace → IfSome m.net.last (λ (l : Row). l.time < r.time)
  fits_time r t = subst (λ o. IfSome o (λ (l : Row). l.time < r.time)) (sym w.stands.keeps.last) (later_row c.trace.rows r t.1)

  -- the end may come
  pub may_end : IsTrace c.trace → m.net.last ≢ None
  may_end t e = has_last_row (length c.trace.header.columns) c.trace.rows t.rows (sym w.stands.keeps.last ∙ e)

  -- the rows with a new one, or their end, and what was taken before
  abbrev pub given_on : Past → Given
  given_on past = record { nodes = c.formula.nodes; header = c.trace.header; past = past; lines = w.given }

  -- the follower stands for these rows of the case
  followed : (rows : List Row) (ended : Bool) (after : Margins) (old new : List ℕ) → after.formula ≡ m.formula
      → (h : HasTakenAll (given_on (record { rows = rows; ended = ended })) after old new)
      → IsMargined ended after (record c { trace = record c.trace { rows = rows } }) (made ++ h.taken.text.0)
  followed rows ended after old new same h =
      let (grown, lines, longer) = h.taken.text in
      record {
        formula = same ∙ w.formula;
        given = w.given ++ h.taken.more;
        stands = h.taken.stands;
        emitted = h.all;
        lines = both_lines c.formula.scale w.given h.taken.more made grown w.lines
            (subst (λ (g : Formula). ArePartLines g.scale (map part_of h.taken.more) grown) (same ∙ w.formula) lines);
      }

-- the text of all that was given is that of the stream
told : (f : Formula) (c : Case) (ended : Bool) (m : Margins) (made : List ℕ) → IsCase f c
    → (ended ≡ true → AreRows (length c.trace.header.columns) c.trace.rows)
    → IsMargined ended m c made → IsMarginStream (root c.formula.nodes) c.trace.header c.trace.rows ended made
told f c ended m made is some w =
    stream_text (root c.formula.nodes) c.trace.header c.trace.rows ended (map part_of w.given) made some w.emitted
    (subst (λ (g : Formula). ArePartLines g.scale (map part_of w.given) made) is.formula w.lines)

-- after a row
pub row_followed : (m : Margins) (c : Case) (f : Formula) (made : List ℕ) (w : IsMargined false m c made) (r : Row) (after : Margins) (old new : List ℕ)
    → IsCase f c → after.formula ≡ m.formula → HasTakenAll (given_on m c made w (past_of (with_row r c) false)) after old new
    → IsFollowedOn (IsMargined false after) margins (with_row r c) old new made
row_followed m c f made w r after old new is same h =
    let (grown, lines, longer) = h.taken.text in
    let on = followed m c made w (c.trace.rows ++ r ∷ []) false after old new same h in
    let case : IsCase f (with_row r c) = record { formula = is.formula; bound = is.bound } in (
      grown,
      longer,
      record { stands = on; fits = (f, case); told = told f (with_row r c) false after (made ++ grown) case (λ e. absurd (false≢true e)) on },
    )

-- after the end
pub end_followed : (m : Margins) (c : Case) (f : Formula) (made : List ℕ) (w : IsMargined false m c made) (after : Margins) (old new : List ℕ)
    → IsCase f c → IsTrace c.trace → after.formula ≡ m.formula → HasTakenAll (given_on m c made w (past_of c true)) after old new
    → IsFollowedOut (IsMargined true after) margins c old new made true
end_followed m c f made w after old new is t same h =
    let (grown, lines, longer) = h.taken.text in
    let on = followed m c made w c.trace.rows true after old new same h in (
      grown,
      longer,
      record { ended = on; told = told f c true after (made ++ grown) is (λ e. t.rows) on; verdict = λ g case. refl },
    )
