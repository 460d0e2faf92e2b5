-- Lines that are put onto an edge, one after another.
use Rattle.std.proofs.Common.{◌≡◌, ◌≢◌, ℕ, ◌<◌, Bool, true, false, List, [], ◌∷◌, ◌++◌, length, refl, sym, ap}
use Rattle.std.proofs.Common.{◌∙◌, arith, append-nil, append_assoc, set, get_or, get_or-set_same, length-set}
use Rattle.std.proofs.lemmas.List.{get_or-set_other, set-get_or, set-set}
use Rattle.value_laws.specs.declared.margin.Margin.{Margin}
use Rattle.pl_signal.specs.declared.knot.Knot.{Knot}
use Rattle.online_robust.specs.Held.{Edge, Held, edge_at, no_edge, with_more}
use Rattle.online_robust.specs.Putting.{lines_after, lines_of, HasPut}
use Rattle.online_robust.specs.declared.line.MarginLine.{MarginLine}
use Rattle.online_robust.specs.declared.line.MarginLine.TheVariants.{Point, Gap}

-- lines behind others
pub more_more : (x : Edge) (a b : List MarginLine) → with_more (with_more x a) b ≡ with_more x (a ++ b)
more_more x a b = ap (λ l. record { seen = x.seen; fresh = l; number = x.number; joins = x.joins }) (append_assoc x.fresh a b)

-- an edge with no more lines
pub no_more : (x : Edge) → with_more x [] ≡ x
no_more x = ap (λ l. record { seen = x.seen; fresh = l; number = x.number; joins = x.joins }) (append-nil x.fresh)

-- no lines
pub put_nothing : (node : ℕ) (e : Held) → HasPut node [] e e
put_nothing node e = record {
  edges = sym (ap (set e.edges node) (no_more (edge_at e node)) ∙ set-get_or e.edges node no_edge);
  start = refl;
}

-- lines, and then others
pub put_both : (node : ℕ) (a b : List MarginLine) (e f g : Held) → node < length e.edges → HasPut node a e f → HasPut node b f g → HasPut node (a ++ b) e g
put_both node a b e f g within first second = record {
  edges =
      second.edges ∙ ap (λ l. set l node (with_more (get_or l node no_edge) b)) first.edges
      ∙ ap (λ x. set (set e.edges node (with_more (edge_at e node) a)) node (with_more x b))
      (get_or-set_same e.edges node (with_more (edge_at e node) a) no_edge within)
      ∙ set-set e.edges node (with_more (edge_at e node) a) (with_more (with_more (edge_at e node) a) b)
      ∙ ap (set e.edges node) (more_more (edge_at e node) a b);
  start = second.start ∙ first.start;
}

-- the lines behind a knot up to one knot more
after_more : (x : Knot Margin) (xs : List (Knot Margin)) (k n : Knot Margin)
    → lines_after x (xs ++ k ∷ n ∷ []) ≡ lines_after x (xs ++ k ∷ []) ++ Gap k.time n.time k.after ∷ Point n.time n.point ∷ []
after_more x [] k n = refl
after_more x (y ∷ ys) k n = ap (λ l. Gap x.time y.time x.after ∷ Point y.time y.point ∷ l) (after_more y ys k n)

-- a knot more is a gap and a point more
pub lines_more : (first : Bool) (xs : List (Knot Margin)) (k n : Knot Margin)
    → lines_of first (xs ++ k ∷ n ∷ []) ≡ lines_of first (xs ++ k ∷ []) ++ Gap k.time n.time k.after ∷ Point n.time n.point ∷ []
lines_more true [] k n = refl
lines_more false [] k n = refl
lines_more true (x ∷ xs) k n = ap (λ l. Point x.time x.point ∷ l) (after_more x xs k n)
lines_more false (x ∷ xs) k n = after_more x xs k n

-- an edge that was there is there
pub put_within : (node : ℕ) (more : List MarginLine) (e f : Held) → HasPut node more e f → node < length e.edges → node < length f.edges
put_within node more e f put within = omega (arith, within, ap length put.edges ∙ length-set e.edges node (with_more (edge_at e node) more))

module _ {node : ℕ} {more : List MarginLine} {e f : Held} (put : HasPut node more e f) where
  -- there are as many edges
  pub put_count : length f.edges ≡ length e.edges
  put_count = ap length put.edges ∙ length-set e.edges node (with_more (edge_at e node) more)

  -- the edge has got the lines
  pub put_here : node < length e.edges → edge_at f node ≡ with_more (edge_at e node) more
  put_here within = ap (λ es. get_or es node no_edge) put.edges ∙ get_or-set_same e.edges node (with_more (edge_at e node) more) no_edge within

  -- the other edges stay
  pub put_others : (j : ℕ) → j ≢ node → edge_at f j ≡ edge_at e j
  put_others j apart = ap (λ es. get_or es j no_edge) put.edges ∙ get_or-set_other e.edges node j (with_more (edge_at e node) more) no_edge apart
