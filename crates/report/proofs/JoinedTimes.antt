-- Lines say what the items say that they join: at each time the same truth of the same node.
use Rattle.std.proofs.Common.{◌≡◌, ◌⊎◌, inl, inr, ℕ, ◌&&◌, Bool, true, false, List, [], ◌∷◌, ◌++◌, refl, sym, ap, subst, ◌∙◌, append_assoc}
use Rattle.std.proofs.lemmas.Bool.{cases_Bool, and_left, and_right}
use Rattle.rational.specs.Time.{Rational, Interval, IsIn, Precedes, Touch, BeginAlike, EndAlike, HasTimeBetween, ◌≤ʳ◌}
use Rattle.rational.proofs.Order.{le_or_lt, le_of_same, ge_of_same, le_trans, lt_of_lt_of_le, lt_of_le_of_lt}
use Rattle.rational.proofs.TimeLemmas.{precedes_after, precedes_before, precedes_le, precedes_of_lt, decided_order}
use Rattle.frac128.specs.Spans.{interval}
use Rattle.stl_syntax.specs.declared.items.Item.{Item}
use Rattle.report.specs.Report.{Join, AreJoined, IsItemLines}
use Rattle.report.proofs.ItemTexts.{EndsAs, ends_as_itself, join_last, at_most, below}

-- some item says this truth of this node at this time
abbrev pub Say : List Item → ℕ → Bool → Rational → Type 0
Say [] i b t = ⊥
Say (e ∷ items) i b t = ((e.node ≡ i) × (e.holds ≡ b) × IsIn (interval e.on) t) ⊎ Say items i b t

-- what the first say, the others do
abbrev pub SayMore : List Item → List Item → Type 0
SayMore xs ys = (i : ℕ) (b : Bool) (t : Rational) → Say xs i b t → Say ys i b t

-- what the first items say both lists say
pub say_left : (xs ys : List Item) → SayMore xs (xs ++ ys)
say_left [] ys i b t h = absurd h
say_left (e ∷ xs) ys i b t (inl h) = inl h
say_left (e ∷ xs) ys i b t (inr h) = inr (say_left xs ys i b t h)

-- what the second items say both lists say
pub say_right : (xs ys : List Item) → SayMore ys (xs ++ ys)
say_right [] ys i b t h = h
say_right (e ∷ xs) ys i b t h = inr (say_right xs ys i b t h)

-- what both say one of them says
pub say_in : (xs ys : List Item) (i : ℕ) (b : Bool) (t : Rational) → Say (xs ++ ys) i b t → Say xs i b t ⊎ Say ys i b t
say_in [] ys i b t h = inr h
say_in (e ∷ xs) ys i b t (inl h) = inl (inl h)
say_in (e ∷ xs) ys i b t (inr h) = elim (say_in xs ys i b t h) [ inl k ↦ inl (inr k) | inr k ↦ inr k ]

-- the ends of one that two make that touch
record Made (a b both : Interval) : Type 0 where
  touch : Touch a b
  begin : BeginAlike both a
  end : EndAlike both b
  first : HasTimeBetween a.from a.to (a.from_in && a.to_in)
  second : HasTimeBetween b.from b.to (b.from_in && b.to_in)

above_both : (a b both : Interval) (t : Rational) → Made a b both → Precedes a.from_in a.from t → Precedes both.from_in both.from t
above_both a b both t m h = subst (λ x. Precedes x both.from t) (sym m.begin.inside) (precedes_after a.from_in both.from a.from t (le_of_same m.begin.time) h)

below_both : (a b both : Interval) (t : Rational) → Made a b both → Precedes b.to_in t b.to → Precedes both.to_in t both.to
below_both a b both t m h = subst (λ x. Precedes x t both.to) (sym m.end.inside) (precedes_before b.to_in t b.to both.to h (ge_of_same m.end.time))

above_first : (a b both : Interval) (t : Rational) → Made a b both → Precedes both.from_in both.from t → Precedes a.from_in a.from t
above_first a b both t m h = subst (λ x. Precedes x a.from t) m.begin.inside (precedes_after both.from_in a.from both.from t (ge_of_same m.begin.time) h)

below_second : (a b both : Interval) (t : Rational) → Made a b both → Precedes both.to_in t both.to → Precedes b.to_in t b.to
below_second a b both t m h = subst (λ x. Precedes x t b.to) m.end.inside (precedes_before both.to_in t both.to b.to h (le_of_same m.end.time))

-- a time of the first is one of both
in_first : (a b both : Interval) (t : Rational) → Made a b both → IsIn a t → IsIn both t
in_first a b both t m h = record {
  above = above_both a b both t m h.above;
  below = below_both a b both t m (by_end (cases_Bool b.to_in) (cases_Bool b.from_in));
}
  where
    up_to : t ≤ʳ b.from
    up_to = le_trans (precedes_le a.to_in t a.to h.below) (ge_of_same m.touch.time)

    by_end : (b.to_in ≡ true) ⊎ (b.to_in ≡ false) → (b.from_in ≡ true) ⊎ (b.from_in ≡ false) → Precedes b.to_in t b.to
    by_end (inl e) f = subst (λ x. Precedes x t b.to) (sym e) (le_trans up_to (at_most (b.from_in && b.to_in) b.from b.to m.second))
    by_end (inr e) f = subst (λ x. Precedes x t b.to) (sym e)
        (lt_of_le_of_lt up_to (below (b.from_in && b.to_in) b.from b.to (and_right b.from_in b.to_in e) m.second))

-- and one of the second
in_second : (a b both : Interval) (t : Rational) → Made a b both → IsIn b t → IsIn both t
in_second a b both t m h = record { above = above_both a b both t m (by_end (cases_Bool a.from_in)); below = below_both a b both t m h.below }
  where
    from_on : a.to ≤ʳ t
    from_on = le_trans (ge_of_same m.touch.time) (precedes_le b.from_in b.from t h.above)

    by_end : (a.from_in ≡ true) ⊎ (a.from_in ≡ false) → Precedes a.from_in a.from t
    by_end (inl e) = subst (λ x. Precedes x a.from t) (sym e) (le_trans (at_most (a.from_in && a.to_in) a.from a.to m.first) from_on)
    by_end (inr e) = subst (λ x. Precedes x a.from t) (sym e)
        (lt_of_lt_of_le (below (a.from_in && a.to_in) a.from a.to (and_left a.from_in a.to_in e) m.first) from_on)

-- behind the first comes the second
behind : (a b both : Interval) (t : Rational) → Made a b both → ¬ Precedes a.to_in t a.to → Precedes b.from_in b.from t
behind a b both t m n = by_end (cases_Bool a.to_in) (cases_Bool b.from_in)
  where
    by_end : (a.to_in ≡ true) ⊎ (a.to_in ≡ false) → (b.from_in ≡ true) ⊎ (b.from_in ≡ false) → Precedes b.from_in b.from t
    by_end (inl e) f = elim (le_or_lt t a.to) as (λ v. Precedes b.from_in b.from t) [
      | inl l ↦ absurd (n (subst (λ x. Precedes x t a.to) (sym e) l))
      | inr l ↦ precedes_of_lt b.from_in b.from t (lt_of_le_of_lt (le_of_same m.touch.time) l)
    ]
    by_end (inr e) (inl f) = elim (le_or_lt a.to t) as (λ v. Precedes b.from_in b.from t) [
      | inl l ↦ subst (λ x. Precedes x b.from t) (sym f) (le_trans (le_of_same m.touch.time) l)
      | inr l ↦ absurd (n (subst (λ x. Precedes x t a.to) (sym e) l))
    ]
    by_end (inr e) (inr f) = absurd (m.touch.once (f ∙ sym e))

-- a time of both is one of the two
in_two : (a b both : Interval) (t : Rational) → Made a b both → IsIn both t → IsIn a t ⊎ IsIn b t
in_two a b both t m h = elim (decided_order a.to_in t a.to) as (λ v. IsIn a t ⊎ IsIn b t) [
  | inl k ↦ inl (record { above = above_first a b both t m h.above; below = k })
  | inr n ↦ inr (record { above = behind a b both t m n; below = below_second a b both t m h.below })
]

-- an item made longer by one that joins it
pub record IsMade (line e longer : Item) : Type 0 where
  -- the next item joins the line
  pub join : Join line e
  -- the longer line is of the same node
  pub node : longer.node ≡ line.node
  -- with the same truth
  pub holds : longer.holds ≡ line.holds
  -- it begins as the line
  pub begin : BeginAlike (interval longer.on) (interval line.on)
  -- and ends as the item
  pub end : EndAlike (interval longer.on) (interval e.on)

made : (line e longer : Item) → IsMade line e longer → Made (interval line.on) (interval e.on) (interval longer.on)
made line e longer m = record { touch = m.join.2; begin = m.begin; end = m.end; first = line.on.not_empty; second = e.on.not_empty }

-- says what the two say
longer_says : (line e longer : Item) → IsMade line e longer → SayMore (line ∷ e ∷ []) (longer ∷ [])
longer_says line e longer m i b t (inl h) =
    inl (m.node ∙ h.0, m.holds ∙ h.1, in_first (interval line.on) (interval e.on) (interval longer.on) t (made line e longer m) h.2)
longer_says line e longer m i b t (inr (inl h)) =
    inl (m.node ∙ m.join.0 ∙ h.0, m.holds ∙ m.join.1 ∙ h.1, in_second (interval line.on) (interval e.on) (interval longer.on) t (made line e longer m) h.2)
longer_says line e longer m i b t (inr (inr h)) = absurd h

-- and no more
two_say : (line e longer : Item) → IsMade line e longer → SayMore (longer ∷ []) (line ∷ e ∷ [])
two_say line e longer m i b t (inl h) =
    elim (in_two (interval line.on) (interval e.on) (interval longer.on) t (made line e longer m) h.2) as (λ v. Say (line ∷ e ∷ []) i b t) [
      | inl k ↦ inl (sym m.node ∙ h.0, sym m.holds ∙ h.1, k)
      | inr k ↦ inr (inl (sym m.join.0 ∙ sym m.node ∙ h.0, sym m.join.1 ∙ sym m.holds ∙ h.1, k))
    ]
two_say line e longer m i b t (inr h) = absurd h

more_joined : (xs ys zs : List Item) → SayMore xs ys → SayMore (xs ++ zs) (ys ++ zs)
more_joined xs ys zs f i b t h = elim (say_in xs zs i b t h) [ inl k ↦ say_left ys zs i b t (f i b t k) | inr k ↦ say_right ys zs i b t k ]

more_behind : (xs ys zs : List Item) → SayMore ys zs → SayMore (xs ++ ys) (xs ++ zs)
more_behind xs ys zs f i b t h = elim (say_in xs ys i b t h) [ inl k ↦ say_left xs zs i b t k | inr k ↦ say_right xs zs i b t (f i b t k) ]

-- the lines say what the items say
lines_say : (line last : Item) (items lines : List Item) → EndsAs line last → AreJoined line last items lines → SayMore (line ∷ items) lines
lines_say line last [] lines s j = subst (λ zs. SayMore (line ∷ []) zs) (sym j) (λ i b t h. h)
lines_say line last (e ∷ items) lines s (inl (j, (longer, node, holds, begin, end, more))) =
    let m : IsMade line e longer = record { join = join_last line last e s j; node = node; holds = holds; begin = begin; end = end } in
    let as_e : EndsAs longer e = record { node = node ∙ m.join.0; holds = holds ∙ m.join.1; ends = end } in
    λ i b t h. lines_say longer e items lines as_e more i b t (more_joined (line ∷ e ∷ []) (longer ∷ []) items (longer_says line e longer m) i b t h)
lines_say line last (e ∷ items) lines s (inr (n, (others, is, more))) =
    subst (λ zs. SayMore (line ∷ e ∷ items) zs) (sym is) (more_behind (line ∷ []) (e ∷ items) others (lines_say e e items others (ends_as_itself e) more))

-- and the items what the lines say
items_say : (line last : Item) (items lines : List Item) → EndsAs line last → AreJoined line last items lines → SayMore lines (line ∷ items)
items_say line last [] lines s j = subst (λ zs. SayMore zs (line ∷ [])) (sym j) (λ i b t h. h)
items_say line last (e ∷ items) lines s (inl (j, (longer, node, holds, begin, end, more))) =
    let m : IsMade line e longer = record { join = join_last line last e s j; node = node; holds = holds; begin = begin; end = end } in
    let as_e : EndsAs longer e = record { node = node ∙ m.join.0; holds = holds ∙ m.join.1; ends = end } in
    λ i b t h. more_joined (longer ∷ []) (line ∷ e ∷ []) items (two_say line e longer m) i b t (items_say longer e items lines as_e more i b t h)
items_say line last (e ∷ items) lines s (inr (n, (others, is, more))) =
    subst (λ zs. SayMore zs (line ∷ e ∷ items)) (sym is) (more_behind (line ∷ []) others (e ∷ items) (items_say e e items others (ends_as_itself e) more))

-- the lines say what the items say
pub joined_say : (items lines : List Item) → IsItemLines items lines → SayMore items lines
joined_say [] lines j = λ i b t h. absurd h
joined_say (e ∷ items) lines j = lines_say e e items lines (ends_as_itself e) j

-- without a line the others say no more than all items but one of it
pub record IsWithout (items others : List Item) : Type 0 where
  -- the items before
  pub before : List Item
  -- the item
  pub e : Item
  -- the items after
  pub after : List Item
  -- they are all
  pub is : items ≡ before ++ e ∷ after
  -- the others say no less than all but it
  pub more : SayMore others (before ++ after)

-- the items that a line has joined so far, the first of them apart
record Has (d : Item) (done : List Item) (line : Item) : Type 0 where
  says : SayMore (line ∷ []) (d ∷ done)

none_in : (before : List Item) (l : Item) (after : List Item) → before ++ l ∷ after ≡ [] → ⊥
none_in [] l after e = cc
none_in (x ∷ before) l after e = cc

-- the first line is left out
without_first : (d : Item) (done rest others : List Item) → SayMore others rest → IsWithout (d ∷ done ++ rest) others
without_first d done rest others more =
    record { before = []; e = d; after = done ++ rest; is = refl; more = λ i b t k. say_right done rest i b t (more i b t k) }

-- a later one is
without_later : (d : Item) (done rest others : List Item) (line : Item) → Has d done line → IsWithout rest others → IsWithout (d ∷ done ++ rest) (line ∷ others)
without_later d done rest others line h w = record {
  before = d ∷ done ++ w.before;
  e = w.e;
  after = w.after;
  is = ap (λ zs. d ∷ done ++ zs) w.is ∙ sym (ap (λ zs. d ∷ zs) (append_assoc done w.before (w.e ∷ w.after)));
  more = λ i b t k. subst (λ zs. Say zs i b t) (sym (append_assoc (d ∷ done) w.before w.after)) (by_place i b t k);
}
  where
    by_place : SayMore (line ∷ others) ((d ∷ done) ++ (w.before ++ w.after))
    by_place i b t k = elim (say_in (line ∷ []) others i b t k) as (λ v. Say ((d ∷ done) ++ (w.before ++ w.after)) i b t) [
      | inl p ↦ say_left (d ∷ done) (w.before ++ w.after) i b t (h.says i b t p)
      | inr p ↦ say_right (d ∷ done) (w.before ++ w.after) i b t (w.more i b t p)
    ]

-- one item more that the line has joined
has_more : (d : Item) (done : List Item) (line g longer : Item) → Has d done line → IsMade line g longer → Has d (done ++ g ∷ []) longer
has_more d done line g longer h m = record { says = λ i b t k. more_joined (line ∷ []) (d ∷ done) (g ∷ []) h.says i b t (two_say line g longer m i b t k) }

-- what is written next: a longer line, or others behind the line
data Next (line last : Item) : List Item → List Item → Type 0 where
  none : {lines : List Item} → lines ≡ line ∷ [] → Next line last [] lines
  longer : {g : Item} {items lines : List Item} (long : Item) → IsMade line g long → EndsAs long g → AreJoined long g items lines
      → Next line last (g ∷ items) lines
  other : {g : Item} {items lines : List Item} (others : List Item) → lines ≡ line ∷ others → AreJoined g g items others → Next line last (g ∷ items) lines

next : (line last : Item) (items lines : List Item) → EndsAs line last → AreJoined line last items lines → Next line last items lines
next line last [] lines s j = none j
next line last (g ∷ items) lines s (inl (j, (long, node, holds, begin, end, more))) =
    let m : IsMade line g long = record { join = join_last line last g s j; node = node; holds = holds; begin = begin; end = end } in
    longer long m (record { node = node ∙ m.join.0; holds = holds ∙ m.join.1; ends = end }) more
next line last (g ∷ items) lines s (inr (n, (others, is, more))) = other others is more

-- how the lines are parted: the first is left out, or a later one
parted : {A : Type 0} (line : A) (others lines before : List A) (l : A) (after : List A) → lines ≡ line ∷ others → lines ≡ before ++ l ∷ after
    → ((before ++ after) ≡ others) ⊎ ((rest : List A) × ((before ++ after) ≡ line ∷ (rest ++ after)) × (others ≡ rest ++ l ∷ after))
parted line others lines [] l after e f = inl (let g = sym f ∙ e in cc)
parted line others lines (x ∷ before) l after e f = inr (before, (let g = sym e ∙ f in cc), (let g = sym e ∙ f in cc))

-- a line that has joined `done` behind d, and the lines that it makes with the items to come, of which l is one
record MakeLines (items : List Item) (l : Item) (after : List Item) (d : Item) (done : List Item) (line last : Item) (lines before : List Item) : Type 0 where
  ends : EndsAs line last
  has : Has d done line
  joined : AreJoined line last items lines
  is : lines ≡ before ++ l ∷ after

-- where a line is left out, an item is, of those that it has joined and those to come
Leave : List Item → Item → List Item → Type 0
Leave items l after =
    (d : Item) (done : List Item) (line last : Item) (lines before : List Item) → MakeLines items l after d done line last lines before
    → IsWithout (d ∷ done ++ items) (before ++ after)

leave_last : (l : Item) (after : List Item) → Leave [] l after
unfolding Leave
leave_last l after d done line last lines before made = by_part (parted line [] lines before l after made.joined made.is)
  where
    by_part : ((before ++ after) ≡ []) ⊎ ((rest : List Item) × ((before ++ after) ≡ line ∷ (rest ++ after)) × ([] ≡ rest ++ l ∷ after))
        → IsWithout (d ∷ done ++ []) (before ++ after)
    by_part (inl k) = without_first d done [] (before ++ after) (subst (λ zs. SayMore zs []) (sym k) (λ i b t n. n))
    by_part (inr (rest, k, f)) = absurd (none_in rest l after (sym f))

leave_more : (g : Item) (items : List Item) (l : Item) (after : List Item) → Leave items l after → Leave (g ∷ items) l after
unfolding Leave
leave_more g items l after rec d done line last lines before made = by_next (next line last (g ∷ items) lines made.ends made.joined)
  where
    by_part : (others : List Item) → AreJoined g g items others
        → ((before ++ after) ≡ others) ⊎ ((rest : List Item) × ((before ++ after) ≡ line ∷ (rest ++ after)) × (others ≡ rest ++ l ∷ after))
        → IsWithout (d ∷ done ++ g ∷ items) (before ++ after)
    by_part others more (inl k) = without_first d done (g ∷ items) (before ++ after)
        (subst (λ zs. SayMore zs (g ∷ items)) (sym k) (items_say g g items others (ends_as_itself g) more))
    by_part others more (inr (rest, k, f)) =
        subst (λ zs. IsWithout (d ∷ done ++ g ∷ items) zs) (sym k)
        (without_later d done (g ∷ items) (rest ++ after) line made.has (rec g [] g g others rest
        (record { ends = ends_as_itself g; has = record { says = λ i b t n. n }; joined = more; is = f })))

    by_next : Next line last (g ∷ items) lines → IsWithout (d ∷ done ++ g ∷ items) (before ++ after)
    by_next (longer long m ends more) =
        subst (λ zs. IsWithout (d ∷ zs) (before ++ after)) (append_assoc done (g ∷ []) items)
        (rec d (done ++ g ∷ []) long g lines before (record { ends = ends; has = has_more d done line g long made.has m; joined = more; is = made.is }))
    by_next (other others is more) = by_part others more (parted line others lines before l after is made.is)

leave : (items : List Item) (l : Item) (after : List Item) → Leave items l after
leave [] l after = leave_last l after
leave (g ∷ items) l after = leave_more g items l after (leave items l after)

-- a line that is left out leaves an item out
pub line_without : (items lines before : List Item) (l : Item) (after : List Item) → IsItemLines items lines
    → lines ≡ before ++ l ∷ after → IsWithout items (before ++ after)
unfolding Leave
line_without [] lines before l after j e = absurd (none_in before l after (sym e ∙ j))
line_without (g ∷ items) lines before l after j e = leave items l after g [] g g lines before
    (record { ends = ends_as_itself g; has = record { says = λ i b t k. k }; joined = j; is = e })
