-- What of a list of verdicts meets a stretch, where the list grows at its back, or the stretch begins later.
use Rattle.std.proofs.Common.{◌≡◌, inl, inr, refl, sym, ap, subst, ◌∙◌, ℕ, Bool, true, false, Some, None, List, [], ◌∷◌, ◌++◌, ℤ, pos, ◌+ℤ◌, ◌≤ℤ◌, ◌<ℤ◌, arith}
use Rattle.std.specs.Prelude.{int_lt, cond}
use Rattle.std.proofs.lemmas.Int.{ints}
use Rattle.rational.specs.Rational.{Rational, ◌≤ʳ◌, whole}
use Rattle.rational.specs.Time.{Interval, IsIn, closed as closed_at, left_open, less}
use Rattle.rational.proofs.Order.{le_trans, lt_of_le_of_lt, le_of_lt}
use Rattle.rational.proofs.Shift.{le_whole}
use Rattle.rational.proofs.TimeLemmas.{less_out, less_in}
use Rattle.frac128.specs.Spans.{interval}
use Rattle.frac128.specs.Value.{value}
use Rattle.stl_syntax.specs.declared.items.Verdict.{Verdict}
use Rattle.online_nodes.specs.Network.{Front, needed}
use Rattle.online_nodes.specs.Needed.{Meets, AreMeeting, AreNeeded}
use Rattle.online_nodes.specs.Laws.{AreTiles, answered_to, beyond}
use Rattle.rational.specs.Places.{Place, begins, ends, After, Upto, Same}
use Rattle.rational.proofs.PlaceLemmas.{between, after_of_before, after_same, upto_of_before, upto_same, same_places, not_both}
use Rattle.rational.proofs.Tests.{int_order}
use Rattle.online_nodes.proofs.ToldSoFar.{in_upto}
use Rattle.online_nodes.proofs.HeldLaw.{is_in, meeting_is_suffix, tiled_inside}

-- each of the verdicts is so
abbrev pub Each : (Verdict → Type 0) → List Verdict → Type 0
Each P [] = Unit {0}
Each P (v ∷ vs) = P v × Each P vs

-- of a list one list meets a stretch
pub one_meeting : (stretch : Interval) (vs held others : List Verdict) → AreMeeting stretch vs held → AreMeeting stretch vs others
    → held ≡ others
one_meeting stretch [] held others h k = h ∙ sym k
one_meeting stretch (v ∷ vs) held others (inl (m, (more, rest, e))) (inl (m', (more', rest', e'))) =
    e ∙ ap (λ l. v ∷ l) (one_meeting stretch vs more more' rest rest') ∙ sym e'
one_meeting stretch (v ∷ vs) held others (inl (m, (more, rest, e))) (inr (d, rest')) = absurd (d m)
one_meeting stretch (v ∷ vs) held others (inr (d, rest)) (inl (m', (more', rest', e'))) = absurd (d m')
one_meeting stretch (v ∷ vs) held others (inr (d, rest)) (inr (d', rest')) = one_meeting stretch vs held others rest rest'

-- the verdict meets the one stretch where it meets the other
abbrev MeetsAlike : Interval → Interval → Verdict → Type 0
MeetsAlike a b v = (Meets a v → Meets b v) × (Meets b v → Meets a v)

-- where each of some meets a stretch, all of them do
pub all_meeting : (stretch : Interval) (here : List Verdict) → Each (Meets stretch) here → AreMeeting stretch here here
all_meeting stretch [] h = refl
all_meeting stretch (v ∷ here) (m, rest) = inl (m, (here, all_meeting stretch here rest, refl))

-- more verdicts at the back, which meet the stretch
pub meeting_grows : (a b : Interval) (vs here held : List Verdict) → Each (MeetsAlike a b) vs → Each (Meets b) here
    → AreMeeting a vs held → AreMeeting b (vs ++ here) (held ++ here)
meeting_grows a b [] here held alike all h =
    subst (λ l. AreMeeting b here (l ++ here)) (sym h) (all_meeting b here all)
meeting_grows a b (v ∷ vs) here held alike all (inl (m, (more, rest, e))) =
    inl (alike.0.0 m, (more ++ here, meeting_grows a b vs here more alike.1 all rest, ap (λ l. l ++ here) e))
meeting_grows a b (v ∷ vs) here held alike all (inr (d, rest)) =
    inr ((λ m. d (alike.0.1 m)), meeting_grows a b vs here held alike.1 all rest)

-- what lies before the first tile lies before where they end
pub tiled_upto : (c : Place) (vs : List Verdict) (d : Place) → AreTiles c vs d → (t : Rational) → Upto c t → Upto d t
tiled_upto c [] d s t u = upto_same c d t s u
tiled_upto c (v ∷ vs) d (s, b, rest) t u = tiled_upto (ends (interval v.on)) vs d rest t
    (upto_of_before (begins (interval v.on)) (ends (interval v.on)) t b (upto_same c (begins (interval v.on)) t s u))

-- no tile leads from a place to the same
pub tiles_none : (c : Place) (vs : List Verdict) (d : Place) → AreTiles c vs d → Same c d → vs ≡ []
tiles_none c [] d tiled same = refl
tiles_none c (v ∷ vs) d (s, b, rest) same =
    let t = between (begins (interval v.on)) (ends (interval v.on)) b in
    absurd (not_both d t.0 (tiled_upto (ends (interval v.on)) vs d rest t.0 t.2)
    (after_same c d t.0 same (after_same (begins (interval v.on)) c t.0 (same_places s) t.1)))

-- tiles within a stretch meet it, each
tiles_meet : (stretch : Interval) (c : Place) (vs : List Verdict) (d : Place) → AreTiles c vs d
    → ((t : Rational) → After c t → Upto d t → IsIn stretch t) → Each (Meets stretch) vs
tiles_meet stretch c [] d tiled h = tt
tiles_meet stretch c (v ∷ vs) d (s, b, rest) h = (
  here (between (begins (interval v.on)) (ends (interval v.on)) b),
  tiles_meet stretch (ends (interval v.on)) vs d rest (λ t a u. h t (after_same (begins (interval v.on)) c t (same_places s)
      (after_of_before (begins (interval v.on)) (ends (interval v.on)) t b a)) u),
)
  where
    here : (t : Rational) × After (begins (interval v.on)) t × Upto (ends (interval v.on)) t → Meets stretch v
    here (t, a, u) = (
      t,
      h t (after_same (begins (interval v.on)) c t (same_places s) a) (tiled_upto (ends (interval v.on)) vs d rest t u),
      is_in (interval v.on) t a u,
    )

-- each tile lies by the time up to which they lead
each_by : (c : Place) (vs : List Verdict) (d : Place) (f : Rational) → AreTiles c vs d → ((t : Rational) → Upto d t → t ≤ʳ f)
    → Each (λ v. (t : Rational) → IsIn (interval v.on) t → t ≤ʳ f) vs
each_by c [] d f tiled h = tt
each_by c (v ∷ vs) d f (s, b, rest) h = (
  (λ t i. tiled_inside (ends (interval v.on)) vs d f rest h t (in_upto (interval v.on) t i)),
  each_by (ends (interval v.on)) vs d f rest h,
)

-- a stretch that ends later meets the same of what ends early
longer_alike : (f f' : Rational) (a b : Interval) → f ≤ʳ f'
    → ((t : Rational) → IsIn a t → t ≤ʳ f → IsIn b t) → ((t : Rational) → IsIn b t → t ≤ʳ f → IsIn a t)
    → (vs : List Verdict) → Each (λ v. (t : Rational) → IsIn (interval v.on) t → t ≤ʳ f) vs → Each (MeetsAlike a b) vs
longer_alike f f' a b l g h [] e = tt
longer_alike f f' a b l g h (v ∷ vs) (by, rest) = (
  (λ m. (m.0, g m.0 m.1 (by m.0 m.2), m.2), λ m. (m.0, h m.0 m.1 (by m.0 m.2), m.2)),
  longer_alike f f' a b l g h vs rest,
)

-- where the reader stands, it needs no verdict to come less: its number, moved, is at most the node's
pub record AllowsMore (start : ℕ) (old new : Front) (reader : Front) (k : ℤ) : Type 0 where
  -- nothing was shown yet: the reader is below the start too, or what it needs is
  pub low : old ≡ None → (g : ℤ) → reader ≡ Some g → pos start ≤ℤ g → (g +ℤ k) <ℤ pos start
  -- what the reader needs does not lie behind what is shown
  pub behind : (f : ℤ) → old ≡ Some f → (g : ℤ) → reader ≡ Some g → pos start ≤ℤ g → pos start ≤ℤ (g +ℤ k) → (g +ℤ k) ≤ℤ f

-- what a reader needs of a node's verdicts, with those more that lead on to the node's new front
pub needed_grows : {reader : Front} {k : ℤ} (start : ℕ) (f f' : ℤ) (vs here held : List Verdict) → pos start ≤ℤ f → f ≤ℤ f'
    → AllowsMore start (Some f) (Some f') reader k
    → AreTiles (answered_to start None) vs (answered_to start (Some f)) → AreTiles (answered_to start (Some f)) here (answered_to start (Some f'))
    → AreNeeded start (Some f) reader k vs held → AreNeeded start (Some f') reader k (vs ++ here) (held ++ here)
needed_grows {reader} {k} start f f' vs here held s l allows tiles more = by_reader reader refl
  where
    upto : (t : Rational) → t ≤ʳ whole f → t ≤ʳ whole f'
    upto t u = le_trans u (le_whole l)

    by_all : AreMeeting (closed_at (whole (pos start)) (whole f)) vs held → AreMeeting (closed_at (whole (pos start)) (whole f')) (vs ++ here) (held ++ here)
    by_all h = meeting_grows (closed_at (whole (pos start)) (whole f)) (closed_at (whole (pos start)) (whole f')) vs here held
        (longer_alike (whole f) (whole f') (closed_at (whole (pos start)) (whole f)) (closed_at (whole (pos start)) (whole f')) (le_whole l)
        (λ t i u. record { above = i.above; below = upto t u }) (λ t i u. record { above = i.above; below = u })
        vs (each_by (answered_to start None) vs (answered_to start (Some f)) (whole f) tiles (λ t u. u)))
        (tiles_meet (closed_at (whole (pos start)) (whole f')) (answered_to start (Some f)) here (answered_to start (Some f')) more
        (λ t a u. record { above = le_trans (le_whole s) (le_of_lt a); below = u }))
        h

    by_rest : (lo : ℤ) → lo ≤ℤ f → AreMeeting (left_open (whole lo) (whole f)) vs held
        → AreMeeting (left_open (whole lo) (whole f')) (vs ++ here) (held ++ here)
    by_rest lo b h = meeting_grows (left_open (whole lo) (whole f)) (left_open (whole lo) (whole f')) vs here held
        (longer_alike (whole f) (whole f') (left_open (whole lo) (whole f)) (left_open (whole lo) (whole f')) (le_whole l)
        (λ t i u. record { above = i.above; below = upto t u }) (λ t i u. record { above = i.above; below = u })
        vs (each_by (answered_to start None) vs (answered_to start (Some f)) (whole f) tiles (λ t u. u)))
        (tiles_meet (left_open (whole lo) (whole f')) (answered_to start (Some f)) here (answered_to start (Some f')) more
        (λ t a u. record { above = lt_of_le_of_lt (le_whole b) a; below = u }))
        h

    Grows : Interval → Interval → Type 0
    Grows a b = AreMeeting a vs held → AreMeeting b (vs ++ here) (held ++ here)

    by_reader : (o : Front) → reader ≡ o → AreMeeting (needed start f o k) vs held → AreMeeting (needed start f' o k) (vs ++ here) (held ++ here)
    by_reader None e = by_all
    by_reader (Some g) e = by_low (int_lt g (pos start)) refl
      where
        by_begin : (u : Bool) → int_lt (g +ℤ k) (pos start) ≡ u → int_lt g (pos start) ≡ false
            → Grows (cond u (closed_at (whole (pos start)) (whole f)) (left_open (whole (g +ℤ k)) (whole f)))
            (cond u (closed_at (whole (pos start)) (whole f')) (left_open (whole (g +ℤ k)) (whole f')))
        by_begin true x y = by_all
        by_begin false x y = by_rest (g +ℤ k) (allows.behind f refl g e (int_order g (pos start) false y) (int_order (g +ℤ k) (pos start) false x))

        by_low : (t : Bool) → int_lt g (pos start) ≡ t
            → Grows (cond (int_lt g (pos start)) (closed_at (whole (pos start)) (whole f))
            (cond (int_lt (g +ℤ k) (pos start)) (closed_at (whole (pos start)) (whole f)) (left_open (whole (g +ℤ k)) (whole f))))
            (cond (int_lt g (pos start)) (closed_at (whole (pos start)) (whole f'))
            (cond (int_lt (g +ℤ k) (pos start)) (closed_at (whole (pos start)) (whole f')) (left_open (whole (g +ℤ k)) (whole f'))))
        by_low true x = subst (λ t. Grows (cond t (closed_at (whole (pos start)) (whole f))
            (cond (int_lt (g +ℤ k) (pos start)) (closed_at (whole (pos start)) (whole f)) (left_open (whole (g +ℤ k)) (whole f))))
            (cond t (closed_at (whole (pos start)) (whole f'))
            (cond (int_lt (g +ℤ k) (pos start)) (closed_at (whole (pos start)) (whole f')) (left_open (whole (g +ℤ k)) (whole f'))))) (sym x) by_all
        by_low false x = subst (λ t. Grows (cond t (closed_at (whole (pos start)) (whole f))
            (cond (int_lt (g +ℤ k) (pos start)) (closed_at (whole (pos start)) (whole f)) (left_open (whole (g +ℤ k)) (whole f))))
            (cond t (closed_at (whole (pos start)) (whole f'))
            (cond (int_lt (g +ℤ k) (pos start)) (closed_at (whole (pos start)) (whole f')) (left_open (whole (g +ℤ k)) (whole f'))))) (sym x)
            (by_begin (int_lt (g +ℤ k) (pos start)) refl x)

-- at a node's first answer all is needed
pub needed_first : (start : ℕ) (f : ℤ) (reader : Front) (k : ℤ) (here : List Verdict)
    → ((g : ℤ) → reader ≡ Some g → pos start ≤ℤ g → (g +ℤ k) <ℤ pos start)
    → AreTiles (answered_to start None) here (answered_to start (Some f)) → AreNeeded start (Some f) reader k here here
needed_first start f reader k here low tiles = by_reader reader refl
  where
    all : AreMeeting (closed_at (whole (pos start)) (whole f)) here here
    all = all_meeting (closed_at (whole (pos start)) (whole f)) here
        (tiles_meet (closed_at (whole (pos start)) (whole f)) (answered_to start None) here (answered_to start (Some f)) tiles
        (λ t a u. record { above = a; below = u }))

    by_reader : (o : Front) → reader ≡ o → AreMeeting (needed start f o k) here here
    by_reader None e = all
    by_reader (Some g) e = by_low (int_lt g (pos start)) refl
      where
        rest : Interval
        rest = cond (int_lt (g +ℤ k) (pos start)) (closed_at (whole (pos start)) (whole f)) (left_open (whole (g +ℤ k)) (whole f))

        by_low : (t : Bool) → int_lt g (pos start) ≡ t
            → AreMeeting (cond (int_lt g (pos start)) (closed_at (whole (pos start)) (whole f))
            (cond (int_lt (g +ℤ k) (pos start)) (closed_at (whole (pos start)) (whole f)) (left_open (whole (g +ℤ k)) (whole f)))) here here
        by_low true x = subst (λ t. AreMeeting (cond t (closed_at (whole (pos start)) (whole f))
            (cond (int_lt (g +ℤ k) (pos start)) (closed_at (whole (pos start)) (whole f)) (left_open (whole (g +ℤ k)) (whole f)))) here here) (sym x) all
        by_low false x = subst (λ t. AreMeeting (cond t (closed_at (whole (pos start)) (whole f))
            (cond (int_lt (g +ℤ k) (pos start)) (closed_at (whole (pos start)) (whole f)) (left_open (whole (g +ℤ k)) (whole f)))) here here) (sym x)
            (by_begin (int_lt (g +ℤ k) (pos start)) refl)
          where
            by_begin : (u : Bool) → int_lt (g +ℤ k) (pos start) ≡ u
                → AreMeeting (cond (int_lt (g +ℤ k) (pos start)) (closed_at (whole (pos start)) (whole f)) (left_open (whole (g +ℤ k)) (whole f))) here here
            by_begin true y = subst (λ u. AreMeeting (cond u (closed_at (whole (pos start)) (whole f)) (left_open (whole (g +ℤ k)) (whole f))) here here)
                (sym y) all
            by_begin false y = absurd (let h = low g e (int_order g (pos start) false x) in
                let i = int_order (g +ℤ k) (pos start) false y in omega (arith, ints))

-- what is left once those that end by a later time are gone too
pub beyond_later : (lo lo' : Rational) (vs : List Verdict) → lo ≤ʳ lo' → beyond lo' (beyond lo vs) ≡ beyond lo' vs
beyond_later lo lo' [] l = refl
beyond_later lo lo' (v ∷ vs) l = by_test (beyond_later lo lo' vs l) (less lo (value v.on.to)) refl
  where
    by_test : beyond lo' (beyond lo vs) ≡ beyond lo' vs → (t : Bool) → less lo (value v.on.to) ≡ t
        → beyond lo' (cond (less lo (value v.on.to)) (v ∷ vs) (beyond lo vs)) ≡ cond (less lo' (value v.on.to)) (v ∷ vs) (beyond lo' vs)
    by_test more true e = subst (λ t. beyond lo' (cond t (v ∷ vs) (beyond lo vs)) ≡ cond (less lo' (value v.on.to)) (v ∷ vs) (beyond lo' vs)) (sym e) refl
    by_test more false e = subst (λ t. beyond lo' (cond t (v ∷ vs) (beyond lo vs)) ≡ cond (less lo' (value v.on.to)) (v ∷ vs) (beyond lo' vs)) (sym e)
        (more ∙ sym (ends_early (less lo' (value v.on.to)) refl))
      where
        ends_early : (t : Bool) → less lo' (value v.on.to) ≡ t → cond (less lo' (value v.on.to)) (v ∷ vs) (beyond lo' vs) ≡ beyond lo' vs
        ends_early false x = ap (λ t. cond t (v ∷ vs) (beyond lo' vs)) x
        ends_early true x = absurd (let y = less_in lo (value v.on.to) (lt_of_le_of_lt l (less_out lo' (value v.on.to) x)) in
            let z : true ≡ false = sym y ∙ e in cc)

-- what meets a stretch that begins later is what is left of what met the earlier one
pub meeting_later : (lo lo' f : Rational) (c : Place) (vs : List Verdict) (d : Place) (held : List Verdict) → lo ≤ʳ lo' → AreTiles c vs d
    → ((t : Rational) → Upto d t → t ≤ʳ f) → AreMeeting (left_open lo f) vs held → AreMeeting (left_open lo' f) vs (beyond lo' held)
meeting_later lo lo' f c vs d held l tiles within h =
    let was : held ≡ beyond lo vs = one_meeting (left_open lo f) vs held (beyond lo vs) h (meeting_is_suffix lo f c vs d tiles within) in
    let now : beyond lo' held ≡ beyond lo' vs = ap (beyond lo') was ∙ beyond_later lo lo' vs l in
    subst (λ k. AreMeeting (left_open lo' f) vs k) (sym now) (meeting_is_suffix lo' f c vs d tiles within)
