-- What a step leaves of its inputs' edges.
use Rattle.std.proofs.Common.{◌≡◌, inl, inr, refl, sym, ap, subst, ◌∙◌, ℕ, zero, suc, ◌<◌, Bool, true}
use Rattle.std.proofs.Common.{false, Some, None, List, [], ◌∷◌, drop, ℤ, pos, ◌+ℤ◌, ◌≤ℤ◌, ◌<ℤ◌, arith}
use Rattle.std.specs.Prelude.{int_lt, cond, slice_get, IfSome}
use Rattle.std.proofs.lemmas.Int.{ints}
use Rattle.std.proofs.lemmas.Option.{same_Some}
use Rattle.rational.specs.Rational.{Rational, ◌≤ʳ◌, ◌<ʳ◌, whole}
use Rattle.rational.specs.Time.{left_open, closed as closed_at}
use Rattle.rational.proofs.Order.{le_trans, le_of_lt, lt_of_lt_of_le, le_of_same}
use Rattle.rational.proofs.Shift.{le_whole, lt_whole}
use Rattle.rational.proofs.TimeLemmas.{less_in, less_no}
use Rattle.frac128.specs.Spans.{interval}
use Rattle.frac128.specs.Value.{value}
use Rattle.stl_syntax.specs.declared.items.Verdict.{Verdict}
use Rattle.rational.specs.Places.{Place, begins, ends, Before}
use Rattle.online_nodes.specs.Held.{Edge, held_of, IsDroppedBy}
use Rattle.online_nodes.specs.Laws.{answered_to, beyond, AreTiles}
use Rattle.online_nodes.specs.Needed.{AreMeeting, AreNeeded}
use Rattle.online_nodes.specs.Network.{Front}
use Rattle.node_edges.proofs.DroppingLemmas.{held_of-without}
use Rattle.online_nodes.proofs.HeldFacts.{needed_part}
use Rattle.online_nodes.proofs.HeldLaw.{meeting_is_suffix}
use Rattle.online_nodes.proofs.MeetingLaw.{beyond_later, needed_first}
use Rattle.rational.proofs.Tests.{int_order}

-- a list without those of its first verdicts that end by a time, of which the next one ends later, is what is left by that time
pub beyond_drop : (lo : Rational) (vs : List Verdict) (count : ℕ)
    → ((k : ℕ) → k < count → IfSome (slice_get vs k) (λ v. value v.on.to ≤ʳ lo))
    → IfSome (slice_get (drop count vs) 0) (λ v. lo <ʳ value v.on.to) → drop count vs ≡ beyond lo vs
beyond_drop lo [] zero ended rest = refl
beyond_drop lo [] (suc n) ended rest = refl
beyond_drop lo (v ∷ vs) zero ended rest = sym (ap (λ t. cond t (v ∷ vs) (beyond lo vs)) (less_in lo (value v.on.to) rest))
beyond_drop lo (v ∷ vs) (suc n) ended rest =
    beyond_drop lo vs n (λ k l. ended (suc k) (omega (arith, l))) rest
    ∙ sym (ap (λ t. cond t (v ∷ vs) (beyond lo vs)) (less_no lo (value v.on.to) (ended 0 (omega arith))))

-- what an edge holds once it let go what ends by a time
pub let_go_is : (limit : ℤ) (old new : Edge) → IsDroppedBy limit old new → held_of new ≡ beyond (whole limit) (held_of old)
let_go_is limit old new g =
    let is : held_of new ≡ drop g.count (held_of old) = ap held_of g.is ∙ held_of-without g.count old in
    is ∙ beyond_drop (whole limit) (held_of old) g.count g.ended
    (subst (λ l. IfSome (slice_get l 0) (λ v. whole limit <ʳ value v.on.to)) is g.rest)

-- just after a whole time
abbrev pub just_after : ℤ → Place
just_after limit = record { at = whole limit; after = true }

-- what ends after the start is not left behind by an earlier time
beyond_all : (lo : Rational) (c : Place) (vs : List Verdict) (d : Place) → lo <ʳ c.at → AreTiles c vs d → beyond lo vs ≡ vs
beyond_all lo c [] d l tiles = refl
beyond_all lo c (v ∷ vs) d l (s, b, rest) =
    ap (λ t. cond t (v ∷ vs) (beyond lo vs)) (less_in lo (value v.on.to) (lt_of_lt_of_le l (le_trans (le_of_same s.0) (last b))))
  where
    last : Before (begins (interval v.on)) (ends (interval v.on)) → (begins (interval v.on)).at ≤ʳ value v.on.to
    last (inl x) = le_of_lt x
    last (inr x) = le_of_same x.0

-- a reader that comes to a number from the start on needs of what it needed what does not end by that number, moved
pub needs_later : (start : ℕ) (f : ℤ) (reader : Front) (g k : ℤ) (em held : List Verdict)
    → AreTiles (answered_to start None) em (answered_to start (Some f)) → pos start ≤ℤ g → ((j : ℤ) → reader ≡ Some j → j ≤ℤ g)
    → AreNeeded start (Some f) reader k em held → AreNeeded start (Some f) (Some g) k em (beyond (whole (g +ℤ k)) held)
needs_later start f reader g k em held tiles low later h =
    subst (λ l. AreNeeded start (Some f) (Some g) k em l) (sym left) (by_begin (int_lt (g +ℤ k) (pos start)) refl)
  where
    left : beyond (whole (g +ℤ k)) held ≡ beyond (whole (g +ℤ k)) em
    left = elim (needed_part start f reader k em held tiles h) [
      | inl same ↦ ap (beyond (whole (g +ℤ k))) same
      | inr part ↦ ap (beyond (whole (g +ℤ k))) part.3
          ∙ beyond_later (whole (part.0 +ℤ k)) (whole (g +ℤ k)) em (le_whole (let l = later part.0 part.1 in omega (arith, ints)))
    ]

    by_begin : (t : Bool) → int_lt (g +ℤ k) (pos start) ≡ t → AreNeeded start (Some f) (Some g) k em (beyond (whole (g +ℤ k)) em)
    by_begin true x =
        let under = int_order (g +ℤ k) (pos start) true x in
        subst (λ l. AreNeeded start (Some f) (Some g) k em l)
        (sym (beyond_all (whole (g +ℤ k)) (answered_to start None) em (answered_to start (Some f)) (lt_whole under) tiles))
        (needed_first start f (Some g) k em
        (λ j e s. subst (λ (q : ℤ). (q +ℤ k) <ℤ pos start) (same_Some g j e) under) tiles)
    by_begin false x =
        let not_low : int_lt g (pos start) ≡ false = above g start low in
        subst (λ t. AreMeeting (cond t (closed_at (whole (pos start)) (whole f))
        (cond (int_lt (g +ℤ k) (pos start)) (closed_at (whole (pos start)) (whole f)) (left_open (whole (g +ℤ k)) (whole f)))) em
        (beyond (whole (g +ℤ k)) em)) (sym not_low)
        (subst (λ t. AreMeeting (cond t (closed_at (whole (pos start)) (whole f)) (left_open (whole (g +ℤ k)) (whole f))) em
        (beyond (whole (g +ℤ k)) em)) (sym x)
        (meeting_is_suffix (whole (g +ℤ k)) (whole f) (answered_to start None) em (answered_to start (Some f)) tiles (λ t u. u)))
      where
        above : (g : ℤ) (start : ℕ) → pos start ≤ℤ g → int_lt g (pos start) ≡ false
        above g start l = by_test (int_lt g (pos start)) refl
          where
            by_test : (t : Bool) → int_lt g (pos start) ≡ t → int_lt g (pos start) ≡ false
            by_test false e = e
            by_test true e = absurd (let m = int_order g (pos start) true e in omega (arith, ints))

-- a reader whose number is below the start both before and after needs the same
pub needs_same : (start : ℕ) (f : ℤ) (reader : Front) (g k : ℤ) (em held : List Verdict) → g <ℤ pos start
    → ((j : ℤ) → reader ≡ Some j → j <ℤ pos start) → AreNeeded start (Some f) reader k em held → AreNeeded start (Some f) (Some g) k em held
needs_same start f reader g k em held low old h =
    subst (λ t. AreMeeting (cond t (closed_at (whole (pos start)) (whole f))
    (cond (int_lt (g +ℤ k) (pos start)) (closed_at (whole (pos start)) (whole f)) (left_open (whole (g +ℤ k)) (whole f)))) em held)
    (sym (below g low)) (by_reader reader old h)
  where
    below : (j : ℤ) → j <ℤ pos start → int_lt j (pos start) ≡ true
    below j l = by_test (int_lt j (pos start)) refl
      where
        by_test : (t : Bool) → int_lt j (pos start) ≡ t → int_lt j (pos start) ≡ true
        by_test true e = e
        by_test false e = absurd (let m = int_order j (pos start) false e in omega (arith, ints))

    by_reader : (o : Front) → ((j : ℤ) → o ≡ Some j → j <ℤ pos start) → AreNeeded start (Some f) o k em held
        → AreMeeting (closed_at (whole (pos start)) (whole f)) em held
    by_reader None old h = h
    by_reader (Some j) old h =
        subst (λ t. AreMeeting (cond t (closed_at (whole (pos start)) (whole f))
        (cond (int_lt (j +ℤ k) (pos start)) (closed_at (whole (pos start)) (whole f)) (left_open (whole (j +ℤ k)) (whole f)))) em held)
        (below j (old j refl)) h
