-- A window meets the next line of its input.
use Rattle.std.proofs.Common.{◌≡◌, ◌⊎◌, ◌<◌, List, [], ◌∷◌, ◌++◌, refl, sym, subst, ap, ◌∙◌, append_assoc, length, drop}
use Rattle.std.proofs.Common.{Some, None}
use Rattle.rational.specs.Rational.{add, whole}
use Rattle.rational.specs.Time.{◌≈◌, ◌≤ʳ◌, ◌<ʳ◌}
use Rattle.rational.specs.Places.{Place, AtMost}
use Rattle.rational.proofs.Order.{same_refl, same_sym, same_trans}
use Rattle.rational.proofs.TimeLemmas.{shifted-add}
use Rattle.frac128.specs.Cuts.{place}
use Rattle.value_laws.specs.Kinds.{margin_shape}
use Rattle.value_laws.specs.declared.margin.Margin.{Margin}
use Rattle.pieces.specs.declared.piece.Piece.{Piece}
use Rattle.pieces.specs.declared.stream.Stream.{Stream}
use Rattle.pieces.specs.declared.reach.Reach.{Reach}
use Rattle.pieces.specs.Chains.{Chain, end, stop, stop_from}
use Rattle.pieces.specs.Streaming.{ComesNext, Follows, before_time}
use Rattle.online_robust.specs.Held.{Edge, Held, edge_at, fresh_at, with_read}
use Rattle.online_robust.specs.Slides.{ArePart, AreToCome, CanGoOver, Course, IsOnWay, IsWayOf, IsWhole}
use Rattle.online_robust.specs.Slides.{chain_of, cut_of, high_at, input, last_place, piece_of, pieces_of}
use Rattle.stl_syntax.specs.Trace.{start}
use Rattle.online_robust.specs.declared.line.MarginLine.{MarginLine}
use Rattle.online_robust.proofs.Robustly.{robust_is_function}
use Rattle.online_robust.proofs.SlideChains.{met_next, next_comes, stop_of_next}
use Rattle.online_robust.proofs.SlideParts.{come_next, part_next}

-- the last of some lines ends where their last one does
pub last_put : (c : Place) (xs : List MarginLine) (x : MarginLine) → last_place c (xs ++ x ∷ []) ≡ place (cut_of x)
last_put c [] x = refl
last_put c (y ∷ xs) x = last_put (place (cut_of y)) xs x

-- a list with one element behind others is not empty
pub put_some : {X : Type 0} (xs : List X) (x : X) → xs ++ x ∷ [] ≡ [] → ⊥
put_some [] x e = let z = e in cc
put_some (y ∷ xs) x e = let z = e in cc

module _ (x : Course) (w w' : Stream Margin) (e e' : Held) (line : MarginLine) (rest : List MarginLine) (on : IsOnWay x w None e)
    (first : fresh_at e x.window.of ≡ line ∷ rest)
    (comes : (place w.met).at <ʳ add x.to (whole w.way.over.high))
    (read : edge_at e' x.window.of ≡ with_read (edge_at e x.window.of) line) (count : length e'.edges ≡ length e.edges)
    (way : w'.way ≡ w.way) (met : place w'.met ≡ end (piece_of line))
    (follows : (s : Chain Margin) → Follows margin_shape s w → ComesNext margin_shape s w (piece_of line) → Follows margin_shape s w')
    (told : AtMost (stop w'.sliding.out) (before_time x.to)) (early : x.to ≈ start x.trace → AtMost (stop w'.sliding.out) x.from) where
  abbrev p : Piece Margin
  p = piece_of line

  abbrev ps' : List (Piece Margin)
  ps' = on.ps ++ p ∷ []

  next : ArePart (input x) x.reach (stop_from x.from on.ps) (p ∷ []) × AreToCome (input x) x.reach (start x.trace) x.front (place (cut_of line)) rest
  next = come_next (input x) (robust_is_function x.formula x.trace) x.reach (start x.trace) x.front (stop_from x.from on.ps) line rest
      (subst (λ l. AreToCome (input x) x.reach (start x.trace) x.front (stop_from x.from on.ps) l) first on.come)

  fresh' : fresh_at e' x.window.of ≡ rest
  fresh' = ap (λ (y : Edge). y.fresh) read ∙ ap (λ (l : List MarginLine). drop 1 l) first

  seen' : (edge_at e' x.window.of).seen ≡ (edge_at e x.window.of).seen ++ line ∷ []
  seen' = ap (λ (y : Edge). y.seen) read

  at_end : stop_from x.from ps' ≡ place (cut_of line)
  at_end = stop_of_next x.from on.ps p

  -- it stands behind the line
  pub taken : IsOnWay x w' None e'
  taken = record {
    way = subst (IsWayOf x.window) (sym way) on.way;
    within = subst (λ n. x.window.of < n) (sym count) on.within;
    ps = ps';
    part = part_next (input x) (robust_is_function x.formula x.trace) x.reach x.from on.ps p on.part next.0;
    met = met_next x.from x.to on.ps w on.met p comes w' way met follows;
    kept_is = tt;
    come = subst (λ c. AreToCome (input x) x.reach (start x.trace) x.front c (fresh_at e' x.window.of)) (sym at_end)
        (subst (λ l. AreToCome (input x) x.reach (start x.trace) x.front (place (cut_of line)) l) (sym fresh') next.1);
    read = ap (λ l. last_place (stop_from x.from ps') l) seen' ∙ last_put (stop_from x.from ps') (edge_at e x.window.of).seen line ∙ sym at_end;
    none = λ nil. absurd (put_some (edge_at e x.window.of).seen line (sym seen' ∙ nil));
    told_for = on.told_for;
    behind = on.behind;
    is_whole = subst (λ v. IsWhole x v (chain_of x.from (ps' ++ (pieces_of (fresh_at e' x.window.of) ++ on.behind)))) (sym way)
        (subst (λ s. IsWhole x w.way s) same_whole on.is_whole);
    ends = on.ends;
    told = told;
    first = early;
    started = on.started;
    last = on.last;
    small = on.small;
  }
    where
      same_whole : chain_of x.from (on.ps ++ (pieces_of (fresh_at e x.window.of) ++ on.behind))
          ≡ chain_of x.from (ps' ++ (pieces_of (fresh_at e' x.window.of) ++ on.behind))
      same_whole = ap (λ l. chain_of x.from (on.ps ++ (pieces_of l ++ on.behind))) first
          ∙ ap (chain_of x.from) (sym (append_assoc on.ps (p ∷ []) (pieces_of rest ++ on.behind)))
          ∙ ap (λ l. chain_of x.from (ps' ++ (pieces_of l ++ on.behind))) (sym fresh')

-- ---- the point that was kept

module _ (x : Course) (w w' : Stream Margin) (e : Held) (p : Piece Margin) (on : IsOnWay x w (Some p) e)
    (comes : (place w.met).at <ʳ add x.to (whole w.way.over.high))
    (way : w'.way ≡ w.way) (met : place w'.met ≡ end p)
    (follows : (s : Chain Margin) → Follows margin_shape s w → ComesNext margin_shape s w p → Follows margin_shape s w')
    (told : AtMost (stop w'.sliding.out) (before_time x.to)) (early : x.to ≈ start x.trace → AtMost (stop w'.sliding.out) x.from) where
  abbrev kept_ps : List (Piece Margin)
  kept_ps = on.ps ++ p ∷ []

  at_kept : stop_from x.from kept_ps ≡ end p
  at_kept = stop_of_next x.from on.ps p

  -- it has met it
  pub kept_taken : IsOnWay x w' None e
  kept_taken = record {
    way = subst (IsWayOf x.window) (sym way) on.way;
    within = on.within;
    ps = kept_ps;
    part = part_next (input x) (robust_is_function x.formula x.trace) x.reach x.from on.ps p on.part on.kept_is.1;
    met = met_next x.from x.to on.ps w on.met p comes w' way met follows;
    kept_is = tt;
    come = subst (λ c. AreToCome (input x) x.reach (start x.trace) x.front c (fresh_at e x.window.of)) (sym at_kept) on.come;
    read = subst (λ c. last_place c (edge_at e x.window.of).seen ≡ c) (sym at_kept) on.read;
    none = subst (λ c. (edge_at e x.window.of).seen ≡ [] → (c ≡ x.from) ⊎ (c.at <ʳ high_at x)) (sym at_kept) on.none;
    told_for = on.told_for;
    behind = on.behind;
    is_whole = subst (λ v. IsWhole x v (chain_of x.from (kept_ps ++ (pieces_of (fresh_at e x.window.of) ++ on.behind)))) (sym way)
        (subst (λ s. IsWhole x w.way s)
        (ap (chain_of x.from) (sym (append_assoc on.ps (p ∷ []) (pieces_of (fresh_at e x.window.of) ++ on.behind)))) on.is_whole);
    ends = on.ends;
    told = told;
    first = early;
    started = on.started;
    last = on.last;
    small = on.small;
  }

-- ---- what the window follows on its way

-- the chain of all that it has met and that is to come
abbrev pub all_of : (x : Course) (w : Stream Margin) (e : Held) → IsOnWay x w None e → Chain Margin
all_of x w e on = chain_of x.from (on.ps ++ (pieces_of (fresh_at e x.window.of) ++ on.behind))

-- it follows it
pub follows_all : (x : Course) (w : Stream Margin) (e : Held) (on : IsOnWay x w None e) → Follows margin_shape (all_of x w e on) w
follows_all x w e on = on.met.follows (pieces_of (fresh_at e x.window.of) ++ on.behind) on.is_whole.can on.is_whole.reaches

-- the next line comes next in it
pub comes_next : (x : Course) (w : Stream Margin) (e : Held) (on : IsOnWay x w None e) (line : MarginLine) (rest : List MarginLine)
    → fresh_at e x.window.of ≡ line ∷ rest → (place w.met).at <ʳ add x.to (whole w.way.over.high)
    → ComesNext margin_shape (all_of x w e on) w (piece_of line)
comes_next x w e on line rest first comes =
    let same : chain_of x.from (on.ps ++ (pieces_of (fresh_at e x.window.of) ++ on.behind))
    ≡ chain_of x.from (on.ps ++ (piece_of line ∷ (pieces_of rest ++ on.behind))) = ap (λ l. chain_of x.from (on.ps ++ (pieces_of l ++ on.behind))) first in
    subst (λ s. ComesNext margin_shape s w (piece_of line)) (sym same)
    (next_comes x.from x.to on.ps w on.met (piece_of line) comes (pieces_of rest ++ on.behind)
    (subst (CanGoOver w.way) same on.is_whole.can) (subst (λ s. x.to ≤ʳ (stop s).at) same on.is_whole.reaches))

-- the same of the point that was kept
abbrev pub all_kept : (x : Course) (w : Stream Margin) (e : Held) (p : Piece Margin) → IsOnWay x w (Some p) e → Chain Margin
all_kept x w e p on = chain_of x.from (on.ps ++ (p ∷ (pieces_of (fresh_at e x.window.of) ++ on.behind)))

pub follows_kept : (x : Course) (w : Stream Margin) (e : Held) (p : Piece Margin) (on : IsOnWay x w (Some p) e)
    → Follows margin_shape (all_kept x w e p on) w
follows_kept x w e p on = on.met.follows (p ∷ (pieces_of (fresh_at e x.window.of) ++ on.behind)) on.is_whole.can on.is_whole.reaches

pub kept_next : (x : Course) (w : Stream Margin) (e : Held) (p : Piece Margin) (on : IsOnWay x w (Some p) e)
    → (place w.met).at <ʳ add x.to (whole w.way.over.high) → ComesNext margin_shape (all_kept x w e p on) w p
kept_next x w e p on comes = next_comes x.from x.to on.ps w on.met p comes (pieces_of (fresh_at e x.window.of) ++ on.behind)
    on.is_whole.can on.is_whole.reaches

-- where the high end stands, by the window's own offsets
pub high_is : (x : Course) (w : Stream Margin) → IsWayOf x.window w.way → add x.to (whole w.way.over.high) ≈ high_at x
high_is x w way = same_trans (subst (λ (o : Reach). add x.to (whole o.high) ≈ add x.to (whole x.window.high)) (sym way.over)
    (same_refl (add x.to (whole x.window.high)))) (same_sym (shifted-add x.to x.window.high))
