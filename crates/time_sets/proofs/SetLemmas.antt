-- What turns tell at a time.
use Rattle.std.proofs.Common.{◌≡◌, inl, inr, ◌<◌, Bool, true, false, not, List, [], ◌∷◌, ◌++◌, length, refl, sym, ap, ◌∙◌, arith}
use Rattle.std.specs.Prelude.{cond, MatchBool}
use Rattle.rational.specs.Time.{Rational, ◌≤ʳ◌, ◌<ʳ◌, less}
use Rattle.rational.specs.Places.{Place, Before, After, Upto}
use Rattle.rational.proofs.TimeLemmas.{less_in, less_no}
use Rattle.rational.proofs.PlaceLemmas.{sides, place_order, at_most_of_not_before, upto_of_before, after_of_before, after_same, before_trans}
use Rattle.time_sets.specs.Turns.{place}
use Rattle.time_sets.specs.Sets.{behind, turned, BeginAfter, EndBefore, Rise}
use Rattle.time_sets.specs.declared.turn.Turn.{Turn}

-- the test says on which side of the place the time lies
pub behind_after : (c : Place) (t : Rational) → After c t → behind c t ≡ true
behind_after c t = by_side c.after
  where
    by_side : (b : Bool) → MatchBool b (c.at <ʳ t) (c.at ≤ʳ t) → cond b (less c.at t) (not (less t c.at)) ≡ true
    by_side true h = less_in c.at t h
    by_side false h = ap not (less_no t c.at h)

-- a time up to a place is not behind it
pub behind_upto : (c : Place) (t : Rational) → Upto c t → behind c t ≡ false
behind_upto c t = by_side c.after
  where
    by_side : (b : Bool) → MatchBool b (t ≤ʳ c.at) (t <ʳ c.at) → cond b (less c.at t) (not (less t c.at)) ≡ false
    by_side true h = less_no c.at t h
    by_side false h = ap not (less_in t c.at h)

-- behind the first turn the others tell, before it none does
pub turned_after : (b : Bool) (p : Turn) (rest : List Turn) (t : Rational) → After (place p) t → turned b (p ∷ rest) t ≡ turned (not b) rest t
turned_after b p rest t h = ap (λ x. cond x (turned (not b) rest t) b) (behind_after (place p) t h)

-- up to the first turn the truth is what it begins with
pub turned_upto : (b : Bool) (p : Turn) (rest : List Turn) (t : Rational) → Upto (place p) t → turned b (p ∷ rest) t ≡ b
turned_upto b p rest t h = ap (λ x. cond x (turned (not b) rest t) b) (behind_upto (place p) t h)

-- before turns that come later than a place nothing has turned
pub turned_early : (b : Bool) (c : Place) (ps : List Turn) (t : Rational) → BeginAfter c ps → Upto c t → turned b ps t ≡ b
turned_early b c [] t h u = refl
turned_early b c (p ∷ rest) t h u = turned_upto b p rest t (upto_of_before c (place p) t h u)

not_cond : (x a b : Bool) → cond x (not a) (not b) ≡ not (cond x a b)
not_cond true a b = refl
not_cond false a b = refl

-- from the other truth on it is the other truth at each time
pub turned_not : (b : Bool) (ps : List Turn) (t : Rational) → turned (not b) ps t ≡ not (turned b ps t)
turned_not b [] t = refl
turned_not b (p ∷ rest) t = ap (λ x. cond (behind (place p) t) x (not b)) (turned_not (not b) rest t) ∙ not_cond (behind (place p) t) (turned (not b) rest t) b

-- each turn comes before a place that lies behind one before which they all come
pub end_later : (c d : Place) (ps : List Turn) → EndBefore c ps → Before c d → EndBefore d ps
end_later c d [] h b = tt
end_later c d (p ∷ rest) h b = (before_trans (place p) c d h.0 b, end_later c d rest h.1 b)

-- a turn behind all others turns the truth behind it
pub turned_last : (b : Bool) (ps : List Turn) (at : Turn) (t : Rational) → EndBefore (place at) ps
    → turned b (ps ++ at ∷ []) t ≡ cond (behind (place at) t) (not (turned b ps t)) (turned b ps t)
turned_last b [] at t h = refl
turned_last b (p ∷ rest) at t h = elim (sides (place p) t) [
  | inl u ↦
      let early = behind_upto (place at) t (upto_of_before (place p) (place at) t h.0 u) in
      turned_upto b p (rest ++ at ∷ []) t u ∙ sym (turned_upto b p rest t u)
      ∙ sym (ap (λ x. cond x (not (turned b (p ∷ rest) t)) (turned b (p ∷ rest) t)) early)
  | inr a ↦
      let is = turned_after b p rest t a in
      turned_after b p (rest ++ at ∷ []) t a ∙ turned_last (not b) rest at t h.1
      ∙ sym (ap (λ x. cond (behind (place at) t) (not x) x) is)
]

-- turns that rise, and one behind them, rise
pub rise_last : (ps : List Turn) (at : Turn) → Rise ps → EndBefore (place at) ps → Rise (ps ++ at ∷ [])
rise_last [] at r h = (tt, tt)
rise_last (p ∷ []) at r h = (h.0, (tt, tt))
rise_last (p ∷ q ∷ rest) at r h = (r.0, rise_last (q ∷ rest) at r.1 h.1)

-- with one more turn, the last still comes before the place
pub end_last : (c : Place) (ps : List Turn) (at : Turn) → EndBefore c ps → Before (place at) c → EndBefore c (ps ++ at ∷ [])
end_last c [] at h b = (b, tt)
end_last c (p ∷ rest) at h b = (h.0, end_last c rest at h.1 b)

-- and the first still after it
pub begin_last : (c : Place) (ps : List Turn) (at : Turn) → BeginAfter c ps → Before c (place at) → BeginAfter c (ps ++ at ∷ [])
begin_last c [] at h b = b
begin_last c (p ∷ rest) at h b = h

-- a place that does not come before another has each time behind that one behind it, or before it
pub behind_not_before : (c d : Place) (t : Rational) → ¬ (Before c d) → After c t → behind d t ≡ true
behind_not_before c d t n a = elim (place_order c d) [
  | inl b ↦ absurd (n b)
  | inr o ↦ elim o [ inl s ↦ behind_after d t (after_same c d t s a) | inr b ↦ behind_after d t (after_of_before d c t b a) ]
]

-- nor is it behind an earlier or the same place
pub upto_not_before : (c d : Place) (t : Rational) → ¬ (Before c d) → Upto d t → behind c t ≡ false
upto_not_before c d t n u = behind_upto c t (at_most_of_not_before d c n t u)

-- where there are turns, what comes after them all comes after what comes before them all
pub before_turns : (c d : Place) (ps : List Turn) → 0 < length ps → BeginAfter c ps → EndBefore d ps → Before c d
before_turns c d [] some b e = absurd (omega (arith, some))
before_turns c d (p ∷ rest) some b e = before_trans c (place p) d b e.0
