-- What a window sees of a set that is gone through stretch by stretch.
use Rattle.std.proofs.Common.{◌≡◌, ◌⊎◌, inl, inr, Bool, true, false, not, [], Option, None, refl, sym, ap, ◌∙◌, subst, neg_ℤ}
use Rattle.std.specs.Prelude.{IsTrue, IfSome, ◌↔◌}
use Rattle.std.proofs.lemmas.Bool.{false≢true}
use Rattle.rational.specs.Time.{Rational}
use Rattle.rational.specs.Places.{Same, After, Upto, moved_begin}
use Rattle.rational.proofs.PlaceLemmas.{share, before_through, after_at_most, upto_of_before, after_same, same_places}
use Rattle.time_sets.specs.Turns.{place}
use Rattle.time_sets.specs.Sets.{has, Rise, BeginAfter, EndBefore}
use Rattle.time_sets.specs.Windows.{Lies, Sees, SeesOne, SeesOnly, Reaches}
use Rattle.time_sets.specs.Parts.{IsPart, HasRoom, high_place, SeesSome}
use Rattle.time_sets.specs.Making.{closed, Grown, CanAdd, Adds, Ends}
use Rattle.time_sets.specs.declared.turn.Turn.{Turn}
use Rattle.time_sets.specs.declared.times.Times.{Times}
use Rattle.time_sets.specs.declared.window.Window.{Window}
use Rattle.time_sets.specs.declared.domain.Domain.{Domain}
use Rattle.time_sets.proofs.WindowPlaces.{ends_past}
use Rattle.time_sets.proofs.WindowLemmas.{meets_between, IsLast, sees_none}

not_true : (x : Bool) → x ≡ false → IsTrue x → ⊥
not_true x e h = false≢true (sym e ∙ h)

-- what is told by two parts is told by the first, with the parts of the second
pub regroup : (A B C D E F : Type 0) → A ↔ (B ⊎ C) → C ↔ (D ⊎ E) → F ↔ (B ⊎ D) → A ↔ (F ⊎ E)
regroup A B C D E F h k l = (
  (λ a. elim (h.0 a) [ inl b ↦ inl (l.1 (inl b)) | inr c ↦ elim (k.0 c) [ inl d ↦ inl (l.1 (inr d)) | inr e ↦ inr e ] ]),
  (λ x. elim x [
    | inl f ↦ elim (l.0 f) [ inl b ↦ h.1 (inl b) | inr d ↦ h.1 (inr (k.1 (inl d))) ]
    | inr e ↦ h.1 (inr (k.1 (inr e)))
  ]),
)

-- what is seen of a set is what is seen of its first stretch, and of what comes after it
sees_split : (on part : Domain) (w : Window) (now later : Rational → Bool) (b e : Turn) (t : Rational) → IsPart on part now later → HasRoom w
    → Same (place b) (moved_begin (neg_ℤ w.high) w.high_in (place part.from)) → IsLast on w (place part.to) e → Lies on t
    → SeesSome on w now t ↔ ((After (place b) t × Upto (place e) t) ⊎ SeesSome on w later t)
sees_split on part w now later b e t is room first last lies = (there, back)
  where
    meets : ((u : Rational) × Sees w t u × After (place part.from) u × Upto (place part.to) u) ↔ (After (place b) t × Upto (place e) t)
    meets = meets_between on w (place part.from) (place part.to) b e t room is.inside.order first last lies

    there : SeesSome on w now t → (After (place b) t × Upto (place e) t) ⊎ SeesSome on w later t
    there (u, l, s, h) = elim ((is.splits u l).0 h) [ inl y ↦ inl (meets.0 (u, s, y.0, y.1)) | inr k ↦ inr (u, l, s, k) ]

    back : (After (place b) t × Upto (place e) t) ⊎ SeesSome on w later t → SeesSome on w now t
    back (inl y) = let m = meets.1 y in let l = is.inside.within m.0 m.2 m.3 in (m.0, l, m.1, (is.splits m.0 l).1 (inl (m.2, m.3)))
    back (inr (u, l, s, h)) = (u, l, s, (is.splits u l).1 (inr h))

-- what is made so far, of what is seen of a set of which `now` is still left
pub record SeenSoFar (on : Domain) (w : Window) (s : Times) (end : Option Turn) (made : Times) (now : Rational → Bool) : Type 0 where
  pub grown : Grown on end made
  pub goes_on : (t u : Rational) → Lies on t → Lies on u → IsTrue (now u) → Upto (high_place w.high w.high_in t) u → IfSome end (λ e. has made t ≡ true)
  pub tells : (t : Rational) → Lies on t → SeesOne on w s t ↔ (IsTrue (closed end made t) ⊎ SeesSome on w now t)

-- nothing is made yet
pub bare_grown : (on : Domain) (s : Times) → s.starts ≡ false → s.turns.items ≡ [] → Grown on None s
bare_grown on s e f = record {
  rise = subst Rise (sym f) tt;
  begins = subst (BeginAfter (place on.from)) (sym f) tt;
  ends = subst (EndBefore (place on.to)) (sym f) tt;
  before = record { starts = e; turns = f };
}

-- before the first stretch nothing is made
pub seen_first : (on : Domain) (w : Window) (s made : Times) (now : Rational → Bool) → made.starts ≡ false → made.turns.items ≡ []
    → ((t : Rational) → has made t ≡ false) → ((t : Rational) → now t ≡ has s t) → SeenSoFar on w s None made now
seen_first on w s made now e f off all = record {
  grown = bare_grown on made e f;
  goes_on = λ t u l m h k. tt;
  tells = λ t l. (
    (λ (u, m, v, h). inr (u, m, v, all u ∙ h)),
    (λ x. elim x [ inl h ↦ absurd (not_true (has made t) (off t) h) | inr (u, m, v, h) ↦ (u, m, v, sym (all u) ∙ h) ]),
  );
}

-- the next stretch can be added
pub seen_can : (on part : Domain) (w : Window) (s : Times) (end : Option Turn) (made : Times) (now later : Rational → Bool) (b : Turn)
    → SeenSoFar on w s end made now → IsPart on part now later → Same (place b) (moved_begin (neg_ℤ w.high) w.high_in (place part.from))
    → CanAdd on end (After (place b)) made
seen_can on part w s end made now later b so is first = record {
  grown = so.grown;
  goes_on = λ t l a.
      let far = (ends_past w.high w.high_in (place part.from) t).0 (after_same (place b) (moved_begin (neg_ℤ w.high) w.high_in (place part.from)) t first a) in
      let m = share (place part.from) (place part.to) (place part.from) (high_place w.high w.high_in t) is.inside.order far far is.inside.order in
      let i = is.inside.within m.0 m.1 m.2 in
      so.goes_on t m.0 l i ((is.splits m.0 i).1 (inl (m.1, m.2))) m.4;
}

-- and was
pub seen_step : (on part : Domain) (w : Window) (s : Times) (end end' : Option Turn) (made made' : Times) (now later : Rational → Bool) (b e : Turn)
    → HasRoom w → SeenSoFar on w s end made now → IsPart on part now later
    → Same (place b) (moved_begin (neg_ℤ w.high) w.high_in (place part.from)) → IsLast on w (place part.to) e
    → Adds on end end' (After (place b)) (λ t. After (place b) t × Upto (place e) t) made made'
    → SeenSoFar on w s end' made' later
seen_step on part w s end end' made made' now later b e room so is first last adds = record {
  grown = adds.grown;
  goes_on = λ t u l m h k.
      let behind = after_at_most (place part.from) (place part.to) u (λ v x. upto_of_before (place part.from) (place part.to) v is.inside.order x)
      (is.behind u m h) in
      let far = before_through (place part.from) (high_place w.high w.high_in t) u behind k in
      adds.goes_on t l (after_same (moved_begin (neg_ℤ w.high) w.high_in (place part.from)) (place b) t (same_places first)
      ((ends_past w.high w.high_in (place part.from) t).1 far));
  tells = λ t l. regroup _ _ _ _ _ _ (so.tells t l) (sees_split on part w now later b e t is room first last l) (adds.tells t l);
}

-- nothing is left
pub seen_last : (on : Domain) (w : Window) (s : Times) (end : Option Turn) (made result : Times) (now : Rational → Bool)
    → SeenSoFar on w s end made now → ((t : Rational) → now t ≡ false) → Ends on end made result
    → (t : Rational) → Lies on t → IsTrue (has result t) ↔ SeesOne on w s t
seen_last on w s end made result now so none ends t l = (
  (λ h. (so.tells t l).1 (inl (sym (ends.times t l) ∙ h))),
  (λ x. elim ((so.tells t l).0 x) [ inl h ↦ ends.times t l ∙ h | inr (u, m, v, h) ↦ absurd (not_true (now u) (none u) h) ]),
)

-- with no time in the window none sees any
pub seen_nothing : (on : Domain) (w : Window) (s made : Times) (t : Rational) → ¬ (HasRoom w) → has made t ≡ false → IsTrue (has made t) ↔ SeesOne on w s t
seen_nothing on w s made t tight off = ((λ h. absurd (not_true (has made t) off h)), (λ (u, m, v, h). absurd (sees_none w t u tight v)))

-- nor reached
pub reached_nothing : (on : Domain) (w : Window) (p q made : Times) (t : Rational) → ¬ (HasRoom w) → has made t ≡ false
    → IsTrue (has made t) ↔ Reaches on w p q t
reached_nothing on w p q made t tight off = ((λ h. absurd (not_true (has made t) off h)), (λ (u, m, v, h, r). absurd (sees_none w t u tight v)))

-- what sees no time out of a set sees its times alone
pub only_of_some : (on : Domain) (w : Window) (s not_s r r' : Times) (t : Rational) → ((u : Rational) → has not_s u ≡ not (has s u))
    → (IsTrue (has r t) ↔ SeesOne on w not_s t) → has r' t ≡ not (has r t) → IsTrue (has r' t) ↔ SeesOnly on w s t
only_of_some on w s not_s r r' t is some flip = (
  (λ h u l v. by_test (has s u) (λ e. absurd (both_ways (has r t) (sym flip ∙ h) (some.1 (u, l, v, is u ∙ ap not e))))),
  (λ f. flip ∙ off (has r t) (λ h. let m = some.0 h in absurd (both_ways (has s m.0) (sym (is m.0) ∙ m.3) (f m.0 m.1 m.2)))),
)
  where
    both_ways : (x : Bool) → not x ≡ true → x ≡ true → ⊥
    both_ways true h k = false≢true h
    both_ways false h k = false≢true k

    by_test : (x : Bool) → (x ≡ false → x ≡ true) → x ≡ true
    by_test true f = refl
    by_test false f = f refl

    off : (x : Bool) → (x ≡ true → not x ≡ true) → not x ≡ true
    off true f = f refl
    off false f = refl
