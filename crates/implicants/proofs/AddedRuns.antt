-- Runs that are added, and what all of them have.
use Rattle.std.proofs.Common.{◌≡◌, ℕ, zero, suc, ◌⊎◌, inl, inr, Bool, true, false, not, List, [], ◌∷◌, ◌++◌, Option, Some, None, refl, sym, subst}
use Rattle.std.specs.declared.vec.Vec.{Vec}
use Rattle.std.specs.declared.alloc.Global.{Global}
use Rattle.std.specs.Prelude.{slice_get, IfSome, MatchBool, MatchOption, IsTrue, ◌||◌}
use Rattle.std.proofs.lemmas.Option.{same_Some}
use Rattle.rational.specs.Time.{Rational, Interval, IsIn, IsNotEmpty, Precedes, ◌≈◌, ◌<ʳ◌, ◌≤ʳ◌}
use Rattle.rational.specs.Extended.{value_at}
use Rattle.rational.specs.Places.{After, Place, Same, Upto, begins, ends}
use Rattle.rational.proofs.Order.{le_or_lt, le_trans, ge_of_same, lt_of_le_of_lt, le_of_lt}
use Rattle.rational.proofs.PlaceLemmas.{after_same, same_places, upto_same}
use Rattle.frac128.specs.Spans.{interval, interval_between}
use Rattle.frac128.specs.Value.{value}
use Rattle.frac128.specs.declared.span.Span.{Span}
use Rattle.value_laws.specs.Kinds.{kleene_shape}
use Rattle.value_laws.specs.declared.kleene.Kleene.{Kleene}
use Rattle.pieces.specs.declared.piece.Piece.{Piece}
use Rattle.pieces.specs.Chains.{Chain, IsWorth, end}
use Rattle.pieces.proofs.ReadUpTo.{begin_at, worth_place}
use Rattle.implicants.specs.Needs.{IsOn, IsOff}
use Rattle.implicants.specs.Upward.{AddsRun, AddsShort, AreShort, AreShortEach, IsShortOver, IsShortPiece}
use Rattle.implicants.specs.Signs.{sign_at}
use Rattle.implicants.specs.declared.runs.Run.{Run}
use Rattle.implicants.proofs.NeededCells.{shape_off, shape_on}

-- both spans have each time of one that begins with the first, where the second goes on, and ends with it
pub in_either : (a b : Span) (t : Rational) → value a.to ≈ value b.from → IsTrue (a.to_in || b.from_in) → Precedes a.from_in (value a.from) t
    → Precedes b.to_in t (value b.to) → IsIn (interval a) t ⊎ IsIn (interval b) t
in_either a b t same some above below = elim (le_or_lt (value a.to) t) [
  | inr early ↦ inl (record { above = above; below = before a.to_in t (value a.to) early })
  | inl late ↦ elim (le_or_lt t (value a.to)) [
    | inr behind ↦ inr (record { above = before b.from_in (value b.from) t (lt_of_le_of_lt (ge_of_same same) behind); below = below })
    | inl early ↦ by_end a.to_in b.from_in refl refl some early late
  ]
]
  where
    before : (b : Bool) (x y : Rational) → x <ʳ y → Precedes b x y
    before true x y h = le_of_lt h
    before false x y h = h

    by_end : (x y : Bool) → a.to_in ≡ x → b.from_in ≡ y → IsTrue (x || y) → t ≤ʳ value a.to → value a.to ≤ʳ t → IsIn (interval a) t ⊎ IsIn (interval b) t
    by_end true y e f h early late = inl (record { above = above; below = subst (λ c. Precedes c t (value a.to)) (sym e) early })
    by_end false true e f h early late =
        inr (record { above = subst (λ c. Precedes c (value b.from) t) (sym f) (le_trans (ge_of_same same) late); below = below })
    by_end false false e f h early late = absurd (let g : false ≡ true = h in cc)

-- the span of both has no more times than they
pub joined_in : (a b : Span) (o : Option Span) → value a.to ≈ value b.from → IsTrue (a.to_in || b.from_in)
    → MatchOption o (¬ (IsNotEmpty (interval_between a.from a.from_in b.to b.to_in))) (λ s. interval s ≡ interval_between a.from a.from_in b.to b.to_in)
    → IfSome o (λ s. (t : Rational) → IsIn (interval s) t → IsIn (interval a) t ⊎ IsIn (interval b) t)
joined_in a b None same some is = tt
joined_in a b (Some s) same some is =
    λ t inside. let i = subst (λ x. IsIn x t) is inside in in_either a b t same some i.above i.below

-- a time of an interval lies between its places
pub in_places : (on : Interval) (t : Rational) → IsIn on t → After (begins on) t × Upto (ends on) t
in_places on t i = (
  elim on.from_in as (λ b. Precedes b on.from t → MatchBool (not b) (on.from <ʳ t) (on.from ≤ʳ t)) [ true ↦ λ h. h | false ↦ λ h. h ] i.above,
  elim on.to_in as (λ b. Precedes b t on.to → MatchBool b (t ≤ʳ on.to) (t <ʳ on.to)) [ true ↦ λ h. h | false ↦ λ h. h ] i.below,
)

-- and a time between them in it
pub of_places : (on : Interval) (t : Rational) → After (begins on) t → Upto (ends on) t → IsIn on t
of_places on t a u = record {
  above = elim on.from_in as (λ b. MatchBool (not b) (on.from <ʳ t) (on.from ≤ʳ t) → Precedes b on.from t) [ true ↦ λ h. h | false ↦ λ h. h ] a;
  below = elim on.to_in as (λ b. MatchBool b (t ≤ʳ on.to) (t <ʳ on.to) → Precedes b t on.to) [ true ↦ λ h. h | false ↦ λ h. h ] u;
}

-- the span of a piece that is less than certainly what is best
pub short_piece : (best : Bool) (from : Place) (p : Piece Kleene) (on : Span) → Same from (begins (interval on)) → Same (end p) (ends (interval on))
    → (¬ (p.shape.known ≡ Some best)) → IsShortPiece best from p on
short_piece best from p on b e short t inside =
    let (a, u) = in_places (interval on) t inside in
    (after_same (begins (interval on)) from t (same_places b) a, upto_same (ends (interval on)) (end p) t (same_places e) u, short)

-- where it is a piece of a chain, the chain is so
pub short_over : (best : Bool) (x : Chain Kleene) (i : ℕ) (from : Place) (p : Piece Kleene) (o : Option Span) → slice_get x.pieces i ≡ Some p
    → from ≡ begin_at x.from x.pieces i → IfSome o (IsShortPiece best from p) → IfSome o (IsShortOver kleene_shape best x)
short_over best x i from p None at begin h = tt
short_over best x i from p (Some on) at begin h = λ t inside. by_best best refl t (h t inside)
  where
    worth : (t : Rational) → After from t → Upto (end p) t → IsWorth kleene_shape x t (value_at (kleene_shape.function p.shape) t)
    worth t a u = worth_place kleene_shape x.from x.pieces i p t at (subst (λ c. After c t) begin a) u

    by_best : (b : Bool) → best ≡ b → (t : Rational) → After from t × Upto (end p) t × ¬ (p.shape.known ≡ Some best)
        → MatchBool b (IsOff kleene_shape x t) (IsOn kleene_shape x t)
    by_best true e t (a, u, short) = record {
      v = value_at (kleene_shape.function p.shape) t;
      worth = worth t a u;
      less = shape_off p.shape t (subst (λ b. ¬ (p.shape.known ≡ Some b)) e short);
    }
    by_best false e t (a, u, short) = record {
      v = value_at (kleene_shape.function p.shape) t;
      worth = worth t a u;
      more = shape_on p.shape t (subst (λ b. ¬ (p.shape.known ≡ Some b)) e short);
    }

-- an element of a list with one more is one of the list, or that one
pub pushed_at : {A : Type 0} (xs : List A) (x : A) (j : ℕ) (y : A) → slice_get (xs ++ x ∷ []) j ≡ Some y → (slice_get xs j ≡ Some y) ⊎ (y ≡ x)
pushed_at [] x zero y h = inr (sym (same_Some _ _ h))
pushed_at [] x (suc j) y h = absurd (elim j as (λ j. slice_get [] j ≡ Some y → ⊥) [ zero ↦ λ e. cc | suc k ↦ λ e. cc ] h)
pushed_at (z ∷ xs) x zero y h = inl h
pushed_at (z ∷ xs) x (suc j) y h = pushed_at xs x j y h

-- the run that is added is the only new one
pub added_run : (k : ℕ) (on : Option Span) (old new : List Run) (P : Run → Type 0) → AddsRun k on old new
    → IfSome on (λ s. P (record { of = k; on = s })) → (j : ℕ) (r : Run) → slice_get new j ≡ Some r → (slice_get old j ≡ Some r) ⊎ P r
added_run k None old new P same h j r at = inl (subst (λ l. slice_get l j ≡ Some r) same at)
added_run k (Some s) old new P same h j r at = elim (pushed_at old (record { of = k; on = s }) j r (subst (λ l. slice_get l j ≡ Some r) same at)) [
  | inl e ↦ inl e
  | inr e ↦ inr (subst P (sym e) h)
]

-- runs that are added in turn
pub added_on : (old mid new : List Run) (P : Run → Type 0) → ((j : ℕ) (r : Run) → slice_get mid j ≡ Some r → (slice_get old j ≡ Some r) ⊎ P r)
    → ((j : ℕ) (r : Run) → slice_get new j ≡ Some r → (slice_get mid j ≡ Some r) ⊎ P r)
    → (j : ℕ) (r : Run) → slice_get new j ≡ Some r → (slice_get old j ≡ Some r) ⊎ P r
added_on old mid new P f g j r at = elim (g j r at) [ inl h ↦ f j r h | inr h ↦ inr h ]

-- the run of a span on which the chain is short is added
pub adds_short : (k : ℕ) (best : Bool) (on : Option Span) (x : Chain Kleene) (old new : List Run) → AddsRun k on old new
    → IfSome on (IsShortOver kleene_shape best x) → AddsShort kleene_shape k best x old new
adds_short k best None x old new same h = added_run k None old new (λ r. (r.of ≡ k) × IsShortOver kleene_shape best x r.on) same tt
adds_short k best (Some s) x old new same h = added_run k (Some s) old new (λ r. (r.of ≡ k) × IsShortOver kleene_shape best x r.on) same (refl, h)

-- a span of both that goes on
pub joined_short : {a b s : Span} {o so_far piece : Option Span} (best : Bool) (x : Chain Kleene) → so_far ≡ Some a → piece ≡ Some b → o ≡ Some s
    → IfSome o (λ s. (t : Rational) → IsIn (interval s) t → IsIn (interval a) t ⊎ IsIn (interval b) t)
    → IfSome so_far (IsShortOver kleene_shape best x) → IfSome piece (IsShortOver kleene_shape best x) → IsShortOver kleene_shape best x s
joined_short {a} {b} {s} {o} {so_far} {piece} best x e f g either before here t inside =
    elim (subst (λ o. IfSome o (λ s. (t : Rational) → IsIn (interval s) t → IsIn (interval a) t ⊎ IsIn (interval b) t)) g either t inside) [
      | inl i ↦ subst (λ o. IfSome o (IsShortOver kleene_shape best x)) e before t i
      | inr i ↦ subst (λ o. IfSome o (IsShortOver kleene_shape best x)) f here t i
    ]

-- runs added in two steps
pub adds_twice : (k : ℕ) (best : Bool) (x : Chain Kleene) (old mid new : List Run) → AddsShort kleene_shape k best x old mid
    → AddsShort kleene_shape k best x mid new → AddsShort kleene_shape k best x old new
adds_twice k best x old mid new f g = added_on old mid new (λ r. (r.of ≡ k) × IsShortOver kleene_shape best x r.on) f g

-- no run stands in an empty list
pub no_run : {A : Type 0} (j : ℕ) (r : A) → slice_get [] j ≡ Some r → ⊥
no_run j r h = elim j as (λ j. slice_get [] j ≡ Some r → ⊥) [ zero ↦ λ e. cc | suc k ↦ λ e. cc ] h

-- one more list of runs
pub short_each : (signs : List Bool) (chains : List (Chain Kleene)) (each : List (Vec Run Global)) (v : Vec Run Global)
    → AreShortEach kleene_shape signs chains each → AreShort kleene_shape signs chains v.items
    → AreShortEach kleene_shape signs chains (each ++ v ∷ [])
short_each signs chains each v before here k w at = elim (pushed_at each v k w at) [
  | inl h ↦ before k w h
  | inr e ↦ subst (λ u. AreShort kleene_shape signs chains u.items) (sym e) here
]

-- one run more, of those on which the chain is short
pub short_pushed : (k : ℕ) (best : Bool) (x : Chain Kleene) (old mid new pieces : List Run) (j : ℕ) (r : Run)
    → slice_get pieces j ≡ Some r → AddsShort kleene_shape k best x [] pieces → (new ≡ mid) ⊎ (new ≡ mid ++ r ∷ [])
    → AddsShort kleene_shape k best x old mid → AddsShort kleene_shape k best x old new
short_pushed k best x old mid new pieces j r at adds (inl same) before i s there = before i s (subst (λ l. slice_get l i ≡ Some s) same there)
short_pushed k best x old mid new pieces j r at adds (inr same) before i s there =
    elim (pushed_at mid r i s (subst (λ l. slice_get l i ≡ Some s) same there)) [
      | inl h ↦ before i s h
      | inr e ↦ elim (adds j r at) [
        | inl h ↦ absurd (no_run j r h)
        | inr h ↦ inr (subst (λ u. (u.of ≡ k) × IsShortOver kleene_shape best x u.on) (sym e) h)
      ]
    ]

-- the runs of one node more
pub short_more : (signs : List Bool) (chains : List (Chain Kleene)) (k : ℕ) (best : Bool) (x : Chain Kleene) (old new : List Run)
    → best ≡ sign_at signs k → slice_get chains k ≡ Some x → AddsShort kleene_shape k best x old new
    → AreShort kleene_shape signs chains old → AreShort kleene_shape signs chains new
short_more signs chains k best x old new same there adds before = λ j r at. elim (adds j r at) [
  | inl h ↦ before j r h
  | inr h ↦ (
    x,
    subst (λ i. slice_get chains i ≡ Some x) (sym h.0) there,
    subst (λ i. IsShortOver kleene_shape (sign_at signs i) x r.on) (sym h.0) (subst (λ b. IsShortOver kleene_shape b x r.on) same h.1),
  )
]
