-- What a stretch adds to a set that is made turn by turn.
use Rattle.std.proofs.Common.{◌≡◌, ◌⊎◌, inl, inr, Bool, true, false, not, List, [], ◌∷◌, Option, Some, None, Result, Ok, Err, sym, ap, ◌∙◌, subst}
use Rattle.std.specs.Prelude.{cond, IsTrue, IfOk, ◌↔◌}
use Rattle.std.proofs.lemmas.Bool.{false≢true}
use Rattle.rational.specs.Time.{Rational}
use Rattle.rational.specs.Places.{Place, Before, After, Upto, AtMost}
use Rattle.rational.proofs.PlaceLemmas.{sides, not_both, place_order, upto_of_before, after_of_before, after_same, after_at_most}
use Rattle.rational.proofs.PlaceLemmas.{before_at_most, before_through, before_trans}
use Rattle.time_sets.specs.Turns.{place}
use Rattle.time_sets.specs.Sets.{has, turned, EndBefore}
use Rattle.time_sets.specs.Windows.{Lies}
use Rattle.time_sets.specs.Making.{turned_at, Turns, CanTurn, IsBare, Grown, CanAdd, Adds}
use Rattle.time_sets.specs.declared.turn.Turn.{Turn}
use Rattle.time_sets.specs.declared.times.Times.{Times}
use Rattle.time_sets.specs.declared.domain.Domain.{Domain}
use Rattle.time_sets.proofs.SetLemmas.{behind_after, behind_upto, end_later}

-- up to the place the truth is what it was, and behind it the other one
pub at_upto : (e : Turn) (t : Rational) (h : Bool) → Upto (place e) t → turned_at e t h ≡ h
at_upto e t h u = ap (λ x. cond x (not h) h) (behind_upto (place e) t u)

-- behind it
pub at_after : (e : Turn) (t : Rational) (h : Bool) → After (place e) t → turned_at e t h ≡ not h
at_after e t h a = ap (λ x. cond x (not h) h) (behind_after (place e) t a)

not_true : (x : Bool) → x ≡ false → IsTrue x → ⊥
not_true x e h = false≢true (sym e ∙ h)

after_not_before : (c d : Place) (t : Rational) → ¬ (Before c d) → After c t → After d t
after_not_before c d t n a = elim (place_order c d) [
  | inl b ↦ absurd (n b)
  | inr o ↦ elim o [ inl s ↦ after_same c d t s a | inr b ↦ after_of_before d c t b a ]
]

-- a stretch that begins where the truth so far is false adds its times
fresh : (P : Type 0) (h : Bool) (b e : Turn) (t : Rational) → Before (place b) (place e) → (After (place b) t → h ≡ false) → IsTrue h ↔ P
    → IsTrue (turned_at e t (turned_at b t h)) ↔ (P ⊎ (After (place b) t × Upto (place e) t))
fresh P h b e t before off is = elim (sides (place b) t) [
  | inl u ↦
      let eq = at_upto e t (turned_at b t h) (upto_of_before (place b) (place e) t before u) ∙ at_upto b t h u in
      ((λ v. inl (is.0 (sym eq ∙ v))), (λ x. elim x [ inl p ↦ eq ∙ is.1 p | inr y ↦ absurd (not_both (place b) t u y.0) ]))
  | inr a ↦ elim (sides (place e) t) [
    | inl u ↦
        let eq = at_upto e t (turned_at b t h) u ∙ at_after b t h a ∙ ap not (off a) in
        ((λ v. inr (a, u)), (λ x. eq))
    | inr k ↦
        let eq = at_after e t (turned_at b t h) k ∙ ap not (at_after b t h a ∙ ap not (off a)) in (
          (λ v. absurd (not_true (turned_at e t (turned_at b t h)) eq v)),
          (λ x. elim x [ inl p ↦ absurd (not_true h (off a) (is.1 p)) | inr y ↦ absurd (not_both (place e) t y.1 k) ]),
        )
  ]
]

-- a stretch that begins no later than the last one ends moves that end, if its own is later
longer : (P : Type 0) (h : Bool) (l b e m : Turn) (t : Rational) → ¬ (Before (place l) (place b)) → (m ≡ l) ⊎ (m ≡ e)
    → AtMost (place l) (place m) → AtMost (place e) (place m) → (After (place b) t → h ≡ true) → IsTrue (turned_at l t h) ↔ P
    → IsTrue (turned_at m t h) ↔ (P ⊎ (After (place b) t × Upto (place e) t))
longer P h l b e m t touches one first second on is = elim (sides (place m) t) [
  | inl k ↦ elim (sides (place l) t) [
    | inl u ↦
        let was = at_upto l t h u in
        let eq = at_upto m t h k in
        ((λ v. inl (is.0 (was ∙ sym eq ∙ v))), (λ x. elim x [ inl p ↦ eq ∙ sym was ∙ is.1 p | inr y ↦ eq ∙ on y.0 ]))
    | inr a ↦
        let behind = after_not_before (place l) (place b) t touches a in
        ((λ v. inr (behind, within one k a)), (λ x. at_upto m t h k ∙ on behind))
  ]
  | inr k ↦
      let a = after_at_most (place l) (place m) t first k in
      let behind = after_not_before (place l) (place b) t touches a in
      let was = at_after l t h a ∙ ap not (on behind) in
      let eq = at_after m t h k ∙ ap not (on behind) in (
        (λ v. absurd (not_true (turned_at m t h) eq v)),
        (λ x. elim x [ inl p ↦ absurd (not_true (turned_at l t h) was (is.1 p)) | inr y ↦ absurd (not_both (place m) t (second t y.1) k) ]),
      )
]
  where
    within : (m ≡ l) ⊎ (m ≡ e) → Upto (place m) t → After (place l) t → Upto (place e) t
    within (inl s) k a = absurd (not_both (place l) t (subst (λ p. Upto (place p) t) s k) a)
    within (inr s) k a = subst (λ p. Upto (place p) t) s k

-- what follows from what an answer says, where there is one
pub if_ok_then : {T E : Type 0} (r : Result T E) (A B : T → Type 0) → IfOk r A → ((x : T) → A x → B x) → IfOk r B
if_ok_then (Ok x) A B h f = f x h
if_ok_then (Err e) A B h f = tt

end_at_most : (c d : Place) (ps : List Turn) → AtMost c d → EndBefore c ps → EndBefore d ps
end_at_most c d [] n h = tt
end_at_most c d (p ∷ rest) n h = (before_at_most (place p) c d h.0 n, end_at_most c d rest n h.1)

module _ (on : Domain) (b e : Turn) where
  -- the stretch from b to e
  abbrev pub stretch : Rational → Type 0
  stretch t = After (place b) t × Upto (place e) t

  -- a stretch with no time
  pub adds_nothing : (last : Option Turn) (s : Times) → CanAdd on last (After (place b)) s → ¬ (Before (place b) (place e))
      → Adds on last last (After (place b)) (λ t. After (place b) t × Upto (place e) t) s s
  adds_nothing last s can empty = record {
    grown = can.grown;
    goes_on = can.goes_on;
    tells = λ t l. ((λ v. inl v), (λ x. elim x [ inl v ↦ v | inr y ↦ absurd (empty (before_through (place b) (place e) t y.0 y.1)) ]));
  }

  -- the first stretch
  pub adds_first : (s s' : Times) (last : Option Turn) → last ≡ None → CanAdd on last (After (place b)) s → Before (place b) (place e) → Turns on b s s'
      → Adds on last (Some e) (After (place b)) (λ t. After (place b) t × Upto (place e) t) s s'
  adds_first s s' last is can order turns = subst (λ o. Grown on o s → Adds on o (Some e) (After (place b)) (stretch) s s') (sym is) (λ grown.
      let bare = grown.before in
      let empty : (c : Place) → EndBefore c s.turns.items = λ c. subst (EndBefore c) (sym bare.turns) tt in
      let off : (t : Rational) → has s t ≡ false = λ t. off_bare bare t in
      record {
        grown = record { rise = turns.rise; begins = turns.begins; ends = turns.ends; before = turns.last (place e) (empty (place e)) order };
        goes_on = λ t l a. turns.times t l ∙ at_after b t (has s t) a ∙ ap not (off t);
        tells = λ t l. subst (λ x. IsTrue (turned_at e t x) ↔ (IsTrue (has s t) ⊎ (After (place b) t × Upto (place e) t))) (sym (turns.times t l))
            (fresh (IsTrue (has s t)) (has s t) b e t order (λ a. off t) ((λ v. v), (λ v. v)));
      }) can.grown
    where
      off_bare : IsBare s → (t : Rational) → has s t ≡ false
      off_bare bare t = subst (λ xs. turned s.starts xs t ≡ false) (sym bare.turns) bare.starts

  -- a place behind the last end can be put once that end is
  pub can_end : (s : Times) (last : Option Turn) (l : Turn) → last ≡ Some l → Grown on last s → CanTurn on l s
  can_end s last l is grown = subst (λ o. Grown on o s → CanTurn on l s) (sym is)
      (λ g. record { rise = g.rise; begins = g.begins; ends = g.ends; last = g.before }) grown

  -- where it begins, the set can turn once the last stretch was ended
  pub can_begin : (s m : Times) (last : Option Turn) (l : Turn) → last ≡ Some l → Grown on last s → Before (place l) (place b) → Turns on l s m → CanTurn on b m
  can_begin s m last l is grown apart turns = subst (λ o. Grown on o s → CanTurn on b m) (sym is) (λ g. record {
    rise = turns.rise;
    begins = turns.begins;
    ends = turns.ends;
    last = turns.last (place b) (end_later (place l) (place b) s.turns.items g.before apart) apart;
  }) grown

  -- a stretch behind the last end
  pub adds_apart : (s m s' : Times) (last : Option Turn) (l : Turn) → last ≡ Some l → CanAdd on last (After (place b)) s → Before (place b) (place e)
      → Before (place l) (place b) → Turns on l s m → Turns on b m s'
      → Adds on last (Some e) (After (place b)) (λ t. After (place b) t × Upto (place e) t) s s'
  adds_apart s m s' last l is can order apart first second =
      subst (λ o. CanAdd on o (After (place b)) s → Adds on o (Some e) (After (place b)) (stretch) s s') (sym is) (λ can.
      let off : (t : Rational) → Lies on t → After (place b) t → has m t ≡ false = λ t i a.
      first.times t i ∙ at_after l t (has s t) (after_of_before (place l) (place b) t apart a) ∙ ap not (can.goes_on t i a) in
      let far = before_trans (place l) (place b) (place e) apart order in
      record {
        grown = record {
          rise = second.rise;
          begins = second.begins;
          ends = second.ends;
          before = second.last (place e) (first.last (place e) (end_later (place l) (place e) s.turns.items can.grown.before far) far) order;
        };
        goes_on = λ t i a. second.times t i ∙ at_after b t (has m t) a ∙ ap not (off t i a);
        tells = λ t i.
            subst (λ x. IsTrue (turned_at e t x) ↔ (IsTrue (turned_at l t (has s t)) ⊎ (After (place b) t × Upto (place e) t))) (sym (second.times t i))
            (fresh (IsTrue (turned_at l t (has s t))) (has m t) b e t order (off t i) ((λ v. sym (first.times t i) ∙ v), (λ v. first.times t i ∙ v)));
      }) can

  -- a stretch that touches the last one
  pub adds_longer : (s : Times) (last : Option Turn) (l m : Turn) → last ≡ Some l → CanAdd on last (After (place b)) s → ¬ (Before (place l) (place b))
      → (m ≡ l) ⊎ (m ≡ e) → AtMost (place l) (place m) → AtMost (place e) (place m)
      → Adds on last (Some m) (After (place b)) (λ t. After (place b) t × Upto (place e) t) s s
  adds_longer s last l m is can touches one first second =
      subst (λ o. CanAdd on o (After (place b)) s → Adds on o (Some m) (After (place b)) (stretch) s s) (sym is) (λ can. record {
        grown = record {
          rise = can.grown.rise;
          begins = can.grown.begins;
          ends = can.grown.ends;
          before = end_at_most (place l) (place m) s.turns.items first can.grown.before;
        };
        goes_on = can.goes_on;
        tells = λ t i. longer (IsTrue (turned_at l t (has s t))) (has s t) l b e m t touches one first second (can.goes_on t i) ((λ v. v), (λ v. v));
      }) can
