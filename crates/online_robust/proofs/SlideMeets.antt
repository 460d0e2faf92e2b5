-- A window on its way meets the next line of its input: how it stands then, and what it refuses.
use Rattle.std.proofs.Common.{◌≡◌, inl, inr, ℕ, ◌<◌, List, [], ◌∷◌, ◌++◌, None, Some, Option, Result, Ok, Err, sym, ap, subst, ◌∙◌, append_assoc, arith}
use Rattle.std.proofs.Common.{drop, get_or, length, slice_get}
use Rattle.std.specs.Prelude.{IfSome, OnErr, OnOk}
use Rattle.std.proofs.lemmas.List.{get_or-set_other, get_or-set_same, length-set}
use Rattle.rational.specs.Rational.{add, whole}
use Rattle.rational.specs.Time.{Rational, ◌≈◌, ◌≤ʳ◌, ◌<ʳ◌}
use Rattle.rational.specs.Places.{AtMost, Place, Same}
use Rattle.rational.proofs.Order.{ge_of_same, le_of_same, le_trans, lt_of_lt_of_le, same_sym, same_trans}
use Rattle.rational.proofs.PlaceLemmas.{same_places, upto_same}
use Rattle.rational.proofs.Shift.{le_shift}
use Rattle.frac128.specs.Cuts.{place}
use Rattle.value_laws.specs.Kinds.{margin_shape}
use Rattle.value_laws.specs.declared.margin.Margin.{Margin}
use Rattle.pl_signal.specs.declared.faults.WidePair.{WidePair}
use Rattle.pieces.specs.declared.piece.Piece.{Piece}
use Rattle.pieces.specs.declared.stream.Stream.{Stream}
use Rattle.pieces.specs.Chains.{Chain, end, stop, stop_from}
use Rattle.pieces.specs.Streaming.{ComesNext, Follows, IsCauseBelow, IsHeldCause, before_time}
use Rattle.stl_syntax.specs.Trace.{start}
use Rattle.online_nodes.proofs.WorkLemmas.{first_and_rest}
use Rattle.online_robust.specs.Held.{Edge, Held, edge_at, fresh_at, held_of, no_edge, with_edge, with_read}
use Rattle.online_robust.specs.Slides.{ArePart, AreToCome, Course, IsOnWay, IsRefused, IsTakenIn, IsWayOf, IsWhole, ReadsOn}
use Rattle.online_robust.specs.Slides.{chain_of, cut_of, high_at, input, last_place, piece_of, pieces_of}
use Rattle.online_robust.specs.declared.line.MarginLine.{MarginLine}
use Rattle.online_robust.proofs.Robustly.{robust_is_function}
use Rattle.online_robust.proofs.SlideParts.{come_next}
use Rattle.online_robust.proofs.SlideRefused.{meet_refused}
use Rattle.online_robust.proofs.SlideInput.{all_kept, all_of, comes_next, follows_all, follows_kept, high_is, kept_next, kept_taken, last_put, put_some, taken}

-- of an edge the first line that was not read has been read, and nothing else changed
pub record HasReadLine (of : ℕ) (old new : Held) (line : MarginLine) : Type 0 where
  pub within : of < length old.edges
  pub first : slice_get (fresh_at old of) 0 ≡ Some line
  pub read : new.edges ≡ with_edge old of (with_read (edge_at old of) line)
  pub start : new.start ≡ old.start

module _ (of : ℕ) (old new : Held) (line : MarginLine) (has : HasReadLine of old new line) where
  -- what the edge is then
  pub read_edge : edge_at new of ≡ with_read (edge_at old of) line
  read_edge = ap (λ (es : List Edge). get_or es of no_edge) has.read
      ∙ get_or-set_same old.edges of (with_read (edge_at old of) line) no_edge has.within

  pub read_count : length new.edges ≡ length old.edges
  read_count = ap (λ (es : List Edge). length es) has.read ∙ length-set old.edges of (with_read (edge_at old of) line)

  -- which lines were not read
  pub read_first : fresh_at old of ≡ line ∷ drop 1 (fresh_at old of)
  read_first = first_and_rest (fresh_at old of) line has.first

  -- one fewer is left
  pub read_fewer : length (fresh_at new of) < length (fresh_at old of)
  read_fewer =
      let more = ap (λ (l : List MarginLine). length l) read_first in
      let left = ap (λ (y : Edge). length y.fresh) read_edge in
      omega (arith, more, left)

  -- all that it holds stays
  pub reads_line : ReadsOn of old new
  reads_line = record {
    held = ap held_of read_edge ∙ append_assoc (edge_at old of).seen (line ∷ []) (drop 1 (fresh_at old of))
        ∙ ap (λ (l : List MarginLine). (edge_at old of).seen ++ l) (sym read_first);
    number = ap (λ (y : Edge). y.number) read_edge;
    others = λ j apart. ap (λ (es : List Edge). get_or es j no_edge) has.read
        ∙ get_or-set_other old.edges of j (with_read (edge_at old of) line) no_edge apart;
    edges = read_count;
    start = has.start;
  }

-- the time of the course, as the place that was met is compared with it
pub comes_for : (x : Course) (w : Stream Margin) (to : Rational) → x.to ≡ to → (place w.met).at <ʳ add to (whole w.way.over.high)
    → (place w.met).at <ʳ add x.to (whole w.way.over.high)
comes_for x w to is comes = subst (λ t. (place w.met).at <ʳ add t (whole w.way.over.high)) (sym is) comes

module _ (x : Course) (w : Stream Margin) (e e' : Held) (line : MarginLine) (on : IsOnWay x w None e) (has : HasReadLine x.window.of e e' line)
    (comes : (place w.met).at <ʳ add x.to (whole w.way.over.high)) where
  abbrev rest : List MarginLine
  rest = drop 1 (fresh_at e x.window.of)

  abbrev s : Chain Margin
  s = all_of x w e on

  known : Follows margin_shape s w
  known = follows_all x w e on

  next : ComesNext margin_shape s w (piece_of line)
  next = comes_next x w e on line rest (read_first x.window.of e e' line has) comes

  -- it has met the line
  pub met_line : (w' : Stream Margin) → w'.way ≡ w.way → place w'.met ≡ end (piece_of line)
      → ((s : Chain Margin) → Follows margin_shape s w → ComesNext margin_shape s w (piece_of line) → Follows margin_shape s w')
      → ((s : Chain Margin) (limit : Rational) → Follows margin_shape s w → ComesNext margin_shape s w (piece_of line)
      → AtMost (stop w.sliding.out) (before_time limit) → (place w.met).at <ʳ add limit (whole w.way.over.high)
      → AtMost (stop w'.sliding.out) (before_time limit))
      → IsOnWay x w' None e'
  met_line w' way met follows upto =
      let told : AtMost (stop w'.sliding.out) (before_time x.to) = upto s x.to known next on.told comes in
      taken x w w' e e' line rest on (read_first x.window.of e e' line has) comes (read_edge x.window.of e e' line has)
      (read_count x.window.of e e' line has) way met follows told
      (λ at t u. upto_same (before_time (start x.trace)) x.from t (same_places on.is_whole.begins) (lt_of_lt_of_le (told t u) (le_of_same at)))

  -- what it refuses meanwhile is refused for the course
  pub line_refused : (fault : Option (WidePair Margin))
      → ((s : Chain Margin) (limit : Rational) → Follows margin_shape s w → ComesNext margin_shape s w (piece_of line) → s.from.at <ʳ limit
      → limit ≤ʳ (stop s).at → (place w.met).at <ʳ add limit (whole w.way.over.high) → IfSome fault (IsCauseBelow margin_shape s w.way.over limit))
      → ((s : Chain Margin) → Follows margin_shape s w → ComesNext margin_shape s w (piece_of line) → s.from.at <ʳ (stop s).at
      → AtMost (stop w.sliding.out) s.from → (place w.met).at <ʳ add s.from.at (whole w.way.over.high)
      → IfSome fault (IsHeldCause margin_shape s w.way.over (place w.met).at))
      → ((s : Chain Margin) → Follows margin_shape s w → ComesNext margin_shape s w (piece_of line) → (stop s).at ≤ʳ s.from.at → fault ≡ None)
      → IfSome fault (IsRefused x)
  line_refused fault wide held one = meet_refused x w.way s on.is_whole on.way.over on.started on.last on.small.order fault (place w.met)
      known.begins (lt_of_lt_of_le comes (le_of_same (high_is x w on.way)))
      (λ after. wide s x.to known next after on.is_whole.reaches comes)
      (λ at some. held s known next some (on.first at) (lt_of_lt_of_le comes (le_shift w.way.over.high
      (le_trans (le_of_same at) (ge_of_same on.is_whole.begins.0)))))
      (λ same. one s known next same)

-- the point that was kept counts before the time
pub kept_comes : (x : Course) (w : Stream Margin) → IsWayOf x.window w.way → (place w.met).at <ʳ high_at x
    → (place w.met).at <ʳ add x.to (whole w.way.over.high)
kept_comes x w way below = lt_of_lt_of_le below (ge_of_same (high_is x w way))

module _ (x : Course) (w : Stream Margin) (e : Held) (p : Piece Margin) (on : IsOnWay x w (Some p) e)
    (comes : (place w.met).at <ʳ add x.to (whole w.way.over.high)) where
  abbrev kept_chain : Chain Margin
  kept_chain = all_kept x w e p on

  -- it has met it, if all went well
  pub met_kept : {T E : Type 0} (r : Result T E) (w' : Stream Margin) → OnOk r (w'.way ≡ w.way) → OnOk r (place w'.met ≡ end p)
      → ((s : Chain Margin) → Follows margin_shape s w → ComesNext margin_shape s w p → OnOk r (Follows margin_shape s w'))
      → ((s : Chain Margin) (limit : Rational) → Follows margin_shape s w → ComesNext margin_shape s w p
      → AtMost (stop w.sliding.out) (before_time limit) → (place w.met).at <ʳ add limit (whole w.way.over.high)
      → OnOk r (AtMost (stop w'.sliding.out) (before_time limit)))
      → OnOk r (IsOnWay x w' None e)
  met_kept (Ok u) w' way met follows upto =
      let told : AtMost (stop w'.sliding.out) (before_time x.to) =
      upto kept_chain x.to (follows_kept x w e p on) (kept_next x w e p on comes) on.told comes in
      kept_taken x w w' e p on comes way met follows told
      (λ at t u. upto_same (before_time (start x.trace)) x.from t (same_places on.is_whole.begins) (lt_of_lt_of_le (told t u) (le_of_same at)))
  met_kept (Err m) w' way met follows upto = tt

  -- what it refuses meanwhile is refused for the course
  pub kept_refused : {T E : Type 0} (r : Result T E) (fault : Option (WidePair Margin))
      → ((s : Chain Margin) (limit : Rational) → Follows margin_shape s w → ComesNext margin_shape s w p → s.from.at <ʳ limit
      → limit ≤ʳ (stop s).at → (place w.met).at <ʳ add limit (whole w.way.over.high)
      → OnErr r (IfSome fault (IsCauseBelow margin_shape s w.way.over limit)))
      → ((s : Chain Margin) → Follows margin_shape s w → ComesNext margin_shape s w p → s.from.at <ʳ (stop s).at
      → AtMost (stop w.sliding.out) s.from → (place w.met).at <ʳ add s.from.at (whole w.way.over.high)
      → OnErr r (IfSome fault (IsHeldCause margin_shape s w.way.over (place w.met).at)))
      → ((s : Chain Margin) → Follows margin_shape s w → ComesNext margin_shape s w p → (stop s).at ≤ʳ s.from.at → OnErr r (fault ≡ None))
      → OnErr r (IfSome fault (IsRefused x))
  kept_refused (Ok u) fault wide held one = tt
  kept_refused (Err m) fault wide held one =
      let known = follows_kept x w e p on in
      let next = kept_next x w e p on comes in
      meet_refused x w.way kept_chain on.is_whole on.way.over on.started on.last on.small.order fault (place w.met)
      known.begins (lt_of_lt_of_le comes (le_of_same (high_is x w on.way)))
      (λ after. wide kept_chain x.to known next after on.is_whole.reaches comes)
      (λ at some. held kept_chain known next some (on.first at) (lt_of_lt_of_le comes (le_shift w.way.over.high
      (le_trans (le_of_same at) (ge_of_same on.is_whole.begins.0)))))
      (λ same. one kept_chain known next same)

-- ---- the point at which the high end stands

-- the high end stands where what comes next begins, at the time of the course
pub stands_course : (x : Course) (w : Stream Margin) → IsWayOf x.window w.way → (to : Rational) → x.to ≡ to
    → Same (place w.met) (before_time (add to (whole w.way.over.high))) → Same (place w.met) (before_time (high_at x))
stands_course x w way to is (same, before) =
    (same_trans (subst (λ t. (place w.met).at ≈ add t (whole w.way.over.high)) (sym is) same) (high_is x w way), before)

pub stands_time : (x : Course) (w : Stream Margin) → IsWayOf x.window w.way → (to : Rational) → x.to ≡ to
    → Same (place w.met) (before_time (high_at x)) → Same (place w.met) (before_time (add to (whole w.way.over.high)))
stands_time x w way to is (same, before) =
    (subst (λ t. (place w.met).at ≈ add t (whole w.way.over.high)) is (same_trans same (same_sym (high_is x w way))), before)

-- where a line is there all that counts before the time was met
pub met_before : (x : Course) (w : Stream Margin) (e : Held) → IsOnWay x w None e → IsTakenIn x w e → (line : MarginLine)
    → slice_get (fresh_at e x.window.of) 0 ≡ Some line → add x.to (whole w.way.over.high) ≤ʳ (place w.met).at
met_before x w e on (inl h) line some = le_trans (le_of_same (high_is x w on.way)) h
met_before x w e on (inr none) line some =
    absurd (let z : ◌≡◌ {A = Option MarginLine} None (Some line) = ap (λ (l : List MarginLine). slice_get l 0) (sym none) ∙ some in cc)

module _ (x : Course) (w : Stream Margin) (e e' : Held) (line : MarginLine) (on : IsOnWay x w None e) (has : HasReadLine x.window.of e e' line)
    (stands : Same (place w.met) (before_time (high_at x))) where
  here : (stop_from x.from on.ps).at ≤ʳ high_at x
  here = subst (λ (c : Place). c.at ≤ʳ high_at x) on.met.met (le_of_same stands.0)

  part_and_come : ArePart (input x) x.reach (stop_from x.from on.ps) (piece_of line ∷ [])
      × AreToCome (input x) x.reach (start x.trace) x.front (place (cut_of line)) (drop 1 (fresh_at e x.window.of))
  part_and_come = come_next (input x) (robust_is_function x.formula x.trace) x.reach (start x.trace) x.front (stop_from x.from on.ps) line
      (drop 1 (fresh_at e x.window.of)) (subst (λ l. AreToCome (input x) x.reach (start x.trace) x.front (stop_from x.from on.ps) l)
      (read_first x.window.of e e' line has) on.come)

  fresh_is : fresh_at e' x.window.of ≡ drop 1 (fresh_at e x.window.of)
  fresh_is = ap (λ (y : Edge). y.fresh) (read_edge x.window.of e e' line has)

  seen_is : (edge_at e' x.window.of).seen ≡ (edge_at e x.window.of).seen ++ line ∷ []
  seen_is = ap (λ (y : Edge). y.seen) (read_edge x.window.of e e' line has)

  -- it is read and kept, and met once the window goes on
  pub keeps_line : IsOnWay x w (Some (piece_of line)) e'
  keeps_line = record {
    way = on.way;
    within = subst (λ n. x.window.of < n) (sym (read_count x.window.of e e' line has)) on.within;
    ps = on.ps;
    part = on.part;
    met = on.met;
    kept_is = (here, part_and_come.0);
    come = subst (λ l. AreToCome (input x) x.reach (start x.trace) x.front (place (cut_of line)) l) (sym fresh_is) part_and_come.1;
    read = ap (λ l. last_place (place (cut_of line)) l) seen_is ∙ last_put (place (cut_of line)) (edge_at e x.window.of).seen line;
    none = λ nil. absurd (put_some (edge_at e x.window.of).seen line (sym seen_is ∙ nil));
    told_for = on.told_for;
    behind = on.behind;
    is_whole = subst (λ s. IsWhole x w.way s) same_whole on.is_whole;
    ends = on.ends;
    told = on.told;
    first = on.first;
    started = on.started;
    last = on.last;
    small = on.small;
  }
    where
      same_whole : chain_of x.from (on.ps ++ (pieces_of (fresh_at e x.window.of) ++ on.behind))
          ≡ chain_of x.from (on.ps ++ (piece_of line ∷ (pieces_of (fresh_at e' x.window.of) ++ on.behind)))
      same_whole = ap (λ l. chain_of x.from (on.ps ++ (pieces_of l ++ on.behind))) (read_first x.window.of e e' line has)
          ∙ ap (λ l. chain_of x.from (on.ps ++ (piece_of line ∷ (pieces_of l ++ on.behind)))) (sym fresh_is)
