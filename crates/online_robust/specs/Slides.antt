-- A window that moves over its input as that comes: what it has met and told, and what of the input is still to come.
use Rattle.std.specs.Prelude.{◌≡◌, ◌≢◌, ◌⊎◌, ℕ, ℤ, pos, neg_ℤ, ◌<ℤ◌, ◌<◌, ◌^◌, ◌+◌, ◌++◌, List, [], ◌∷◌, drop, length, map, slice_get}
use Rattle.std.specs.Prelude.{Bool, Option, Some, None, IfSome, true, false, if◌then◌else◌, int_lt}
use Rattle.rational.specs.Rational.{IsWithin, whole}
use Rattle.rational.specs.Time.{Rational, shifted, ◌≈◌, ◌≤ʳ◌, ◌<ʳ◌}
use Rattle.rational.specs.Extended.{Extended, Affine, Passes}
use Rattle.rational.specs.Affine.{IsBounded}
use Rattle.rational.specs.InPlay.{IsWideCrossing, IsWideValue}
use Rattle.rational.specs.Places.{Place, AtMost, Same}
use Rattle.rational.specs.Windows.{Function}
use Rattle.frac128.specs.Value.{value}
use Rattle.frac128.specs.Cuts.{place}
use Rattle.frac128.specs.declared.cut.Cut.{Cut}
use Rattle.value_laws.specs.Kinds.{margin_shape}
use Rattle.value_laws.specs.Margins.{margin_function}
use Rattle.value_laws.specs.declared.margin.Margin.{Margin}
use Rattle.pl_signal.specs.declared.faults.WidePair.{WidePair}
use Rattle.pl_signal.specs.declared.faults.WidePair.TheVariants.{Cross, Value}
use Rattle.pieces.specs.declared.piece.Piece.{Piece}
use Rattle.pl_signal.specs.declared.knot.Knot.{Knot}
use Rattle.pl_signal.specs.Knots as knots
use Rattle.pl_signal.specs.Knots.{IsSignal}
use Rattle.pieces.specs.declared.reach.Reach.{Reach}
use Rattle.pieces.specs.declared.reach.Way.{Way}
use Rattle.pieces.specs.declared.stream.Stream.{Stream}
use Rattle.pieces.specs.Chains.{Chain, HasShape, IsWorth, Rise, stop, stop_from}
use Rattle.pieces.specs.Streaming.{Follows, before_time}
use Rattle.pieces.specs.Windows.{CanSlide as MaySlide, IsSmall}
use Rattle.stl_syntax.specs.Trace.{Trace, start, stop as last_of}
use Rattle.stl_syntax.specs.Formula.{Subformula}
use Rattle.stl_syntax.specs.SupInf.{Robustness}
use Rattle.online_robust.specs.Held.{Held, edge_at, fresh_at, held_at}
use Rattle.online_robust.specs.Lines.{end_of, margin_of}
use Rattle.online_robust.specs.Putting.{HasPut, lines_of}
use Rattle.online_robust.specs.ReadLines.{LosesAt}
use Rattle.online_robust.specs.Told.{AreFit, AreJoined, AreTold, IsMovedBy, IsTick}
use Rattle.online_robust.specs.Windows.{InPlayOver, IsOwned, SettledOver, best_over}
use Rattle.online_robust.specs.declared.line.MarginLine.{MarginLine}
use Rattle.online_robust.specs.declared.line.MarginLine.TheVariants.{Point, Gap}
use Rattle.online_robust.specs.declared.slide.Slide.{Slide}
use Rattle.online_robust.specs.declared.slide.Window.{Window}

-- just after a time
abbrev pub after_time : Rational → Place
after_time t = record { at = t; after = true }

-- where a line ends: just after its point, or just before the end of its gap
abbrev pub cut_of : MarginLine → Cut
cut_of (Point at v) = record { time = at; side = 1 }
cut_of (Gap from to p) = record { time = to; side = 0 }

-- a line as a piece
abbrev pub piece_of : MarginLine → Piece Margin
piece_of line = record { until = cut_of line; shape = margin_of line }

abbrev pub pieces_of : List MarginLine → List (Piece Margin)
pieces_of lines = map piece_of lines

-- the window's offsets, each in or out
abbrev pub reach_of : Window → Reach
reach_of w = record { low = w.low; high = w.high; low_in = w.low_in; high_in = w.high_in }

-- by which offset from its number the window needs its input no more
abbrev pub back_offset : Window → ℤ
back_offset w = if int_lt w.low (neg_ℤ (pos 4294967295)) then w.high else w.low

-- a window before anything was told
abbrev pub slide_of : Window → Slide
slide_of w = record { window = w; stream = None; kept = None }

-- the way of the window: to the last time that there is
pub record IsWayOf (w : Window) (way : Way) : Type 0 where
  pub side : way.side ≡ w.side
  pub over : way.over ≡ reach_of w
  pub to : Same (place way.to) (after_time (whole (pos 4294967295)))

-- the chain of pieces that begin at a place
abbrev pub chain_of : Place → List (Piece Margin) → Chain Margin
chain_of from ps = record { from = from; pieces = ps }

-- a window may go over the chain, to where the way ends
pub record CanGoOver (way : Way) (s : Chain Margin) : Type 0 where
  pub can : MaySlide margin_shape s way.over
  pub to : AtMost (stop s) (place way.to)
  pub within : IsWithin (2 ^ 34) (place way.to).at

-- the window has met the pieces, which begin at a place: it follows each chain that begins with them, and goes on up to the time or further
pub record HasMet (from : Place) (to : Rational) (ps : List (Piece Margin)) (w : Stream Margin) : Type 0 where
  pub met : place w.met ≡ stop_from from ps
  pub follows : (more : List (Piece Margin)) → CanGoOver w.way (chain_of from (ps ++ more)) → to ≤ʳ (stop (chain_of from (ps ++ more))).at
      → Follows margin_shape (chain_of from (ps ++ more)) w

-- the pieces tell the function, within the limits
pub record ArePart (P : Function) (reach : ℕ) (from : Place) (ps : List (Piece Margin)) : Type 0 where
  pub rise : Rise from ps
  pub worth : (t : Rational) (v : Extended) → IsWorth margin_shape (chain_of from ps) t v → P t v × IsBounded (2 ^ 31) v
  pub moved : (p : Margin) → HasShape (chain_of from ps) p → IsMovedBy reach p

-- the lines go on from a place up to a time: with a gap behind it, of which a front part may be missing, or with the point there
abbrev pub AreFrom : Place → Rational → List MarginLine → Type 0
AreFrom c to [] = Same c (after_time to)
AreFrom c to (Gap a b p ∷ Point u v ∷ lines) =
    (c.after ≡ true) × (value a ≤ʳ c.at) × (c.at <ʳ value b) × (value b ≈ value u) × AreJoined (value u) to lines
AreFrom c to (Point u v ∷ lines) = (c.after ≡ false) × (value u ≈ c.at) × AreJoined (value u) to lines
AreFrom c to _ = ⊥

-- what is to come of an input that is told up to `front`: lines from a place on; or nothing was told yet
pub record AreToCome (P : Function) (reach : ℕ) (begin front : Rational) (c : Place) (lines : List MarginLine) : Type 0 where
  pub told : AreTold P lines
  pub fit : AreFit reach lines
  pub go_on : AreFrom c front lines ⊎ ((lines ≡ []) × (front <ʳ begin) × Same c (before_time begin))

-- where the last of the lines ends; a place, if there is none
abbrev pub last_place : Place → List MarginLine → Place
last_place c [] = c
last_place c (x ∷ lines) = last_place (place (cut_of x)) lines

-- where the input goes on behind the pieces that were met: the point that is kept was read, too
abbrev pub cursor : Place → Option (Piece Margin) → Place
cursor met None = met
cursor met (Some p) = place p.until

-- the point that is kept, as a piece
abbrev pub pieces_kept : Option (Piece Margin) → List (Piece Margin)
pieces_kept None = []
pieces_kept (Some p) = p ∷ []

-- a window over its input in a trace: by how much the input's bases were moved, up to where it is told, to which time the window goes, and where
-- the chains begin that have the input's values
pub record Course : Type 0 where
  pub window : Window
  pub formula : Subformula
  pub trace : Trace
  pub reach : ℕ
  pub front : Rational
  pub to : Rational
  pub from : Place

abbrev pub input : Course → Function
input x = Robustness x.formula x.trace

-- where the high end stands when the window has gone to its time
abbrev pub high_at : Course → Rational
high_at x = shifted x.to x.window.high

-- the window looks no further than the input is told, or both have ended
abbrev pub IsToldFor : Course → Type 0
IsToldFor x = (high_at x ≤ʳ x.front) ⊎ ((x.front ≈ last_of x.trace) × (x.to ≈ last_of x.trace))

-- the chain has the input's values as far as they are told, and goes at least to the time. Where the window looks ahead it goes no further than
-- the trace, and where both have ended it ends there
pub record IsWhole (x : Course) (way : Way) (s : Chain Margin) : Type 0 where
  pub can : CanGoOver way s
  pub begins : Same s.from (before_time (start x.trace))
  pub forth : (t : Rational) (v : Extended) → t ≤ʳ x.front → IsWorth margin_shape s t v → input x t v
  pub back : (t : Rational) (v : Extended) → start x.trace ≤ʳ t → t ≤ʳ x.front → input x t v → IsWorth margin_shape s t v
  pub moved : (p : Margin) → HasShape s p → IsMovedBy x.reach p
  pub reaches : x.to ≤ʳ (stop s).at
  pub far : x.front ≤ʳ (stop s).at
  pub by : x.front ≤ʳ last_of x.trace
  pub ahead : pos 0 <ℤ x.window.high → (stop s).at ≤ʳ last_of x.trace
  pub ended : (high_at x ≤ʳ x.front) ⊎ (Same (stop s) (after_time (last_of x.trace)) × (last_of x.trace ≤ʳ x.front) × (x.to ≈ last_of x.trace))

-- the window has met the input up to a place, and what is to come of it up to its front is on the edge
pub record IsOnWay (x : Course) (w : Stream Margin) (kept : Option (Piece Margin)) (e : Held) : Type 0 where
  pub way : IsWayOf x.window w.way
  pub within : x.window.of < length e.edges
  pub ps : List (Piece Margin)
  pub part : ArePart (input x) x.reach x.from ps
  pub met : HasMet x.from x.to ps w
  pub kept_is : IfSome kept (λ p. ((stop_from x.from ps).at ≤ʳ high_at x) × ArePart (input x) x.reach (stop_from x.from ps) (p ∷ []))
  pub come : AreToCome (input x) x.reach (start x.trace) x.front (cursor (stop_from x.from ps) kept) (fresh_at e x.window.of)
  pub read : last_place (cursor (stop_from x.from ps) kept) (edge_at e x.window.of).seen ≡ cursor (stop_from x.from ps) kept
  pub none : (edge_at e x.window.of).seen ≡ [] → (cursor (stop_from x.from ps) kept ≡ x.from) ⊎ ((cursor (stop_from x.from ps) kept).at <ʳ high_at x)
  pub told_for : IsToldFor x
  pub behind : List (Piece Margin)
  pub is_whole : IsWhole x w.way (chain_of x.from (ps ++ (pieces_kept kept ++ (pieces_of (fresh_at e x.window.of) ++ behind))))
  pub ends : (high_at x ≤ʳ x.front) ⊎ (behind ≡ [])
  pub told : AtMost (stop w.sliding.out) (before_time x.to)
  pub first : (x.to ≈ start x.trace) → AtMost (stop w.sliding.out) x.from
  pub started : start x.trace ≤ʳ x.to
  pub last : x.to ≤ʳ last_of x.trace
  pub small : IsSmall (reach_of x.window)

-- the point that is kept counts before the time
abbrev pub IsKeptBelow : Course → Stream Margin → Option (Piece Margin) → Type 0
IsKeptBelow x w kept = IfSome kept (λ p. (place w.met).at <ʳ high_at x)

-- all that counts before the time was met, or all there is
abbrev pub IsTakenIn : Course → Stream Margin → Held → Type 0
IsTakenIn x w e = (high_at x ≤ʳ (place w.met).at) ⊎ (fresh_at e x.window.of ≡ [])

-- the point at which the high end stands at the time was read, if it stands on one
abbrev pub IsUnder : Course → Stream Margin → Option (Piece Margin) → Type 0
IsUnder x w None = ¬ Same (place w.met) (before_time (high_at x))
IsUnder x w (Some p) = Same (place w.met) (before_time (high_at x))

-- a line is in play at tau, before the time to which the window goes
abbrev pub IsInPlayFor : Course → Rational → Affine → Type 0
IsInPlayFor x tau line = InPlayOver (input x) (start x.trace) (last_of x.trace) x.window tau line × (tau <ʳ x.to)

-- what is in play before the time is refused: a crossing, or the constant of a value; or such a constant where the time is the start
abbrev pub IsRefused : Course → WidePair Margin → Type 0
IsRefused x (Cross p q a b den) =
    IsWideCrossing (IsInPlayFor x) (start x.trace) (last_of x.trace) (margin_function p) (margin_function q) (value a) (value b) den
IsRefused x (Value p at den) =
    IsWideValue (IsInPlayFor x) (start x.trace) (last_of x.trace) (margin_function p) (value at) den
    ⊎ ((x.to ≈ start x.trace)
    × IsWideValue (SettledOver (input x) (start x.trace) (last_of x.trace) x.front x.window) (start x.trace) (last_of x.trace) (margin_function p)
    (value at) den)

-- of an edge some lines were read, and nothing else changed
pub record ReadsOn (of : ℕ) (old new : Held) : Type 0 where
  pub held : held_at new of ≡ held_at old of
  pub number : (edge_at new of).number ≡ (edge_at old of).number
  pub others : (j : ℕ) → j ≢ of → edge_at new j ≡ edge_at old j
  pub edges : length new.edges ≡ length old.edges
  pub start : new.start ≡ old.start

-- the lines that end by the limit are gone from the front of the edge, and no other
pub record DropsBy (limit : Rational) (of : ℕ) (old new : Held) : Type 0 where
  pub lost : LosesAt limit of old new
  pub rest : IfSome (slice_get (held_at new of) 0) (λ x. limit <ʳ value (end_of x))

-- what was told up to a time, and a point there
abbrev pub WithPoint : Chain Margin → Rational → Margin → Function
WithPoint told to point t v = IsWorth margin_shape told t v ⊎ ((t ≈ to) × Passes (margin_function point) t v)

-- a signal of what was told up to a time, and of the point there
pub record IsStretchOf (told : Chain Margin) (to : Rational) (point : Margin) (ks : List (Knot Margin)) : Type 0 where
  pub signal : IsSignal margin_shape ks
  pub worth : (t : Rational) (v : Extended) → knots.IsWorth margin_shape ks t v → WithPoint told to point t v
  pub begins : knots.start ks ≈ told.from.at
  pub ends : knots.stop ks ≈ to
  pub shapes : (p : Margin) → knots.HasShape ks p → HasShape told p ⊎ (p ≡ point)

-- a window goes on: it keeps its way, and begins to tell where it began
pub record Stays (old new : Stream Margin) : Type 0 where
  pub way : new.way ≡ old.way
  pub from : new.sliding.out.from ≡ old.sliding.out.from

-- some lines are gone from the front of an edge, each of which ends by the limit
pub record Sheds (limit : Rational) (i : ℕ) (old new : Held) : Type 0 where
  pub count : ℕ
  pub is : held_at new i ≡ drop count (held_at old i)
  pub ended : (k : ℕ) → k < count → IfSome (slice_get (held_at old i) k) (λ x. value (end_of x) ≤ʳ limit)
  pub number : (edge_at new i).number ≡ (edge_at old i).number
  pub others : (j : ℕ) → j ≢ i → edge_at new j ≡ edge_at old j
  pub edges : length new.edges ≡ length old.edges
  pub start : new.start ≡ old.start

-- and the first that is left ends later
abbrev pub HasRead : ℕ → Held → Rational → Held → Type 0
HasRead of old limit new = Sheds limit of old new × IfSome (slice_get (held_at new of) 0) (λ x. limit <ʳ value (end_of x))

-- a window that has told nothing yet
pub record HasBegun (w : Window) (begin : ℕ) (stream : Stream Margin) : Type 0 where
  pub way : IsWayOf w stream.way
  pub met : Same (place stream.met) (before_time (whole (pos begin)))
  pub out : stream.sliding.out ≡ chain_of (place stream.met) []
  pub follows : (s : Chain Margin) → CanGoOver stream.way s → s.from ≡ place stream.met → Follows margin_shape s stream

-- a window may go on from one time up to that of its course
pub record CanSlide (x : Course) (from : Rational) (stream : Stream Margin) (kept : Option (Piece Margin)) (e : Held) : Type 0 where
  pub on : IsOnWay x stream kept e
  pub out : stream.sliding.out ≡ chain_of (stop stream.sliding.out) []
  pub told : Same (stop stream.sliding.out) (before_time from)
  pub first : start x.trace ≤ʳ from
  pub order : from ≤ʳ x.to
  pub to_tick : IsTick x.to
  pub from_tick : IsTick (start x.trace)
  pub below : IsKeptBelow x stream kept

-- the signal tells the best of the input over the window, from one time up to that of the course, within the limits
pub record IsBestStretch (x : Course) (from : Rational) (ks : List (Knot Margin)) : Type 0 where
  pub signal : IsSignal margin_shape ks
  pub worth : (t : Rational) (v : Extended) → knots.IsWorth margin_shape ks t v → best_over x.trace (input x) x.window t v × IsBounded (2 ^ 31) v
  pub begins : knots.start ks ≈ from
  pub ends : knots.stop ks ≈ x.to
  pub moved : (own : ℕ) → IsOwned x.window own → (p : Margin) → knots.HasShape ks p → IsMovedBy (x.reach + own) p

-- the input goes on at a place, where the last of the lines that were read ends, or by which all of them were needed no more; or none was read
pub record GoesOn (x : Course) (c : Place) (seen : List MarginLine) : Type 0 where
  pub on : high_at x ≤ʳ c.at
  pub by : c.at ≤ʳ last_of x.trace
  pub read : last_place c seen ≡ c
  pub none : seen ≡ [] → ((c ≡ x.from) × (shifted x.to (back_offset x.window) <ʳ start x.trace))
      ⊎ ((c.after ≡ true) × (c.at ≈ shifted x.to (back_offset x.window)))

-- it has come to the time of its course, and what it needs no more is gone from the edge: what it has met and kept, and where its input goes on
-- unless it has ended
pub record HasGoneTo (x : Course) (w : Stream Margin) (kept : Option (Piece Margin)) (e : Held) : Type 0 where
  pub ps : List (Piece Margin)
  pub part : ArePart (input x) x.reach x.from ps
  pub kept_is : IfSome kept (λ p. ((stop_from x.from ps).at ≤ʳ high_at x) × ArePart (input x) x.reach (stop_from x.from ps) (p ∷ []))
  pub out : w.sliding.out ≡ chain_of (stop w.sliding.out) []
  pub told : Same (stop w.sliding.out) (before_time x.to)
  pub goes_on : (x.to ≈ last_of x.trace)
      ⊎ (HasMet x.from x.to ps w × GoesOn x (cursor (stop_from x.from ps) kept) (edge_at e x.window.of).seen)

-- a window has gone on to a time, and a node's edge got the lines of the best up to it: in each course that it may be on
pub record GoesOut (v : Window) (to : Rational) (node : ℕ) (with_first : Bool) (w : Stream Margin) (kept : Option (Piece Margin)) (old : Held)
    (w' : Stream Margin) (kept' : Option (Piece Margin)) (new : Held) : Type 0 where
  pub swept : List (Knot Margin)
  pub between : Held
  pub told : (x : Course) (from : Rational) → CanSlide x from w kept old → x.window ≡ v → x.to ≡ to → IsBestStretch x from swept
  pub gone : (x : Course) (from : Rational) → CanSlide x from w kept old → x.window ≡ v → x.to ≡ to → HasGoneTo x w' kept' between
  pub way : w'.way ≡ w.way
  pub read : HasRead v.of old (shifted to (back_offset v)) between
  pub put : HasPut node (lines_of with_first swept) between new

-- a window was told up to the number g: the pieces that it has met, and where its input goes on, by what it has read of it and may still need.
-- It goes on unless g is the end
pub record HasSlid (f : Subformula) (tr : Trace) (reach : ℕ) (g : ℤ) (z : Slide) (w : Stream Margin) (seen : List MarginLine) : Type 0 where
  pub way : IsWayOf z.window w.way
  pub front : Rational
  pub from : Place
  pub begins : Same from (before_time (start tr))
  pub edges : Held
  pub seen_is : (edge_at edges z.window.of).seen ≡ seen
  pub gone : HasGoneTo (record { window = z.window; formula = f; trace = tr; reach = reach; front = front; to = whole g; from = from }) w z.kept edges
