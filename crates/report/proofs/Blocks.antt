-- Objects of one list of JSON that are printed together.
use Rattle.std.proofs.Common.{◌≡◌, ℕ, zero, suc, length-set, ◌+◌, ◌-◌, ◌<◌, ◌≤◌, true, false, ◌||◌, List, [], ◌∷◌, ◌++◌, length, get_or, take, drop, set}
use Rattle.std.proofs.Common.{append-nil, append_assoc, refl, sym, ap, ◌∙◌, subst, codes, arith, length-append, length-drop}
use Rattle.std.proofs.lemmas.List.{get_or_at, set_at, take_at, drop_at, take-append-drop, length-take-le, take_more_set, take-set}
use Rattle.serde_json.specs.Data.{array}
use Rattle.serde_json.specs.View.{view, items_view}
use Rattle.serde_json.specs.Written.{compact_text, items_text, has_float, items_have_float}
use Rattle.serde_json.specs.declared.value.Value.{Value}
use Rattle.stl_syntax.specs.declared.scale.Scale.{Scale}
use Rattle.stl_syntax.specs.declared.items.Verdict.{Verdict}
use Rattle.report.specs.Blocks.{after_commas, before_commas, AreStepForms, IsStepForm, IsStepData, AreVerdictForms}
use Rattle.report.specs.Forms.{IsVerdictForm}
use Rattle.report.specs.JsonTexts.{IsStepEntry, IsVerdictData}
use Rattle.report.specs.VerdictForms.{IsEntry}
use Rattle.answer_lines.specs.Steps.{Step}

-- ---- their texts

-- the texts of two lists, each after a comma
pub after_join : (vs ws : List Value) → after_commas (vs ++ ws) ≡ after_commas vs ++ after_commas ws
after_join [] ws = refl
after_join (v ∷ vs) ws =
    ap (λ w. (codes "," ++ compact_text (view v)) ++ w) (after_join vs ws)
    ∙ sym (append_assoc (codes "," ++ compact_text (view v)) (after_commas vs) (after_commas ws))

-- all but the first of an array are printed so
pub items_after : (vs : List Value) → items_text true (items_view vs) ≡ after_commas vs ++ codes "]"
items_after [] = refl
items_after (v ∷ vs) =
    ap (λ w. codes "," ++ (compact_text (view v) ++ w)) (items_after vs) ∙ lists (codes ",") (compact_text (view v)) (after_commas vs) (codes "]")
  where
    lists : (a b c d : List ℕ) → a ++ (b ++ (c ++ d)) ≡ ((a ++ b) ++ c) ++ d
    lists a b c d = simp append_assoc

-- the text of the array, with its brackets apart
pub array_is : (v : Value) (vs : List Value)
    → compact_text (array (items_view (v ∷ vs))) ≡ (codes "[" ++ (compact_text (view v) ++ after_commas vs)) ++ codes "]"
array_is v vs =
    ap (λ w. codes "[" ++ (compact_text (view v) ++ w)) (items_after vs) ∙ lists (codes "[") (compact_text (view v)) (after_commas vs) (codes "]")
  where
    lists : (a b c d : List ℕ) → a ++ (b ++ (c ++ d)) ≡ (a ++ (b ++ c)) ++ d
    lists a b c d = simp append_assoc

-- with a comma for the first bracket, and without the last, it has each after a comma
pub led : (vs : List Value) (w : List ℕ) (n : ℕ) → 0 < length vs → w ≡ compact_text (array (items_view vs)) → n ≡ length (set w 0 44) - 1
    → take n (set w 0 44) ≡ after_commas vs
led [] w n some e m = absurd (omega (arith, some))
led (v ∷ vs) w n some e m =
    let inner = compact_text (view v) ++ after_commas vs in
    let is : set w 0 44 ≡ (44 ∷ inner) ++ codes "]" = ap (λ l. set l 0 44) (e ∙ array_is v vs) in
    let count : length (44 ∷ inner) ≡ n = omega (arith, m, ap (λ l. length l) is, length-append (44 ∷ inner) (codes "]")) in
    ap (take n) is ∙ take_at (44 ∷ inner) (codes "]") n count

-- the text of an array is not empty
pub array_some : (vs : List Value) (w : List ℕ) → w ≡ compact_text (array (items_view vs)) → 0 < length w
array_some vs w e = let n = ap (λ l. length l) e in omega (arith, n)

-- the texts of two lists, each before a comma
pub before_join : (vs ws : List Value) → before_commas (vs ++ ws) ≡ before_commas vs ++ before_commas ws
before_join [] ws = refl
before_join (v ∷ vs) ws =
    ap (λ w. (compact_text (view v) ++ codes ",") ++ w) (before_join vs ws)
    ∙ sym (append_assoc (compact_text (view v) ++ codes ",") (before_commas vs) (before_commas ws))

-- a comma behind texts of which all but the first have one before them
commas_moved : (v : Value) (vs : List Value) → (compact_text (view v) ++ after_commas vs) ++ codes "," ≡ before_commas (v ∷ vs)
commas_moved v [] = lists (compact_text (view v)) (codes ",")
  where
    lists : (a b : List ℕ) → (a ++ []) ++ b ≡ (a ++ b) ++ []
    lists a b = simp (append_assoc, append-nil)
commas_moved v (u ∷ us) =
    lists (compact_text (view v)) (codes ",") (compact_text (view u)) (after_commas us)
    ∙ ap (λ w. (compact_text (view v) ++ codes ",") ++ w) (commas_moved u us)
  where
    lists : (a b c d : List ℕ) → (a ++ ((b ++ c) ++ d)) ++ b ≡ (a ++ b) ++ ((c ++ d) ++ b)
    lists a b c d = simp append_assoc

-- with a comma for the last bracket, and without the first, an array has each of its values before a comma
pub followed : (vs : List Value) (w : List ℕ) (n : ℕ) → 0 < length vs → w ≡ compact_text (array (items_view vs)) → n ≡ length w - 1
    → drop 1 (set w n 44) ≡ before_commas vs
followed [] w n some e m = absurd (omega (arith, some))
followed (v ∷ vs) w n some e m =
    let inner = compact_text (view v) ++ after_commas vs in
    let is : w ≡ (91 ∷ inner) ++ 93 ∷ [] = e ∙ array_is v vs in
    let count : length (91 ∷ inner) ≡ n = omega (arith, m, ap (λ l. length l) is, length-append (91 ∷ inner) (93 ∷ [])) in
    ap (drop 1) (ap (λ l. set l n 44) is ∙ set_at (91 ∷ inner) 93 [] 44 n count)
    ∙ (drop_at (91 ∷ []) (inner ++ 44 ∷ []) 1 refl ∙ commas_moved v vs)

-- without the first bracket it is its values with the last one
pub unopened : (vs : List Value) (w : List ℕ) → w ≡ compact_text (array (items_view vs)) → drop 1 w ≡ items_text false (items_view vs)
unopened vs w e = ap (drop 1) e ∙ drop_at (91 ∷ []) (items_text false (items_view vs)) 1 refl

-- the last value of an array stands before its bracket, and those before it each before a comma
pub closed : (vs : List Value) (w : Value) → items_text false (items_view (vs ++ w ∷ [])) ≡ before_commas vs ++ (compact_text (view w) ++ codes "]")
closed [] w = refl
closed (v ∷ vs) w = more v vs
  where
    lists : (a b c : List ℕ) → a ++ (b ++ c) ≡ ((a ++ b) ++ []) ++ c
    lists a b c = simp (append_assoc, append-nil)

    others : (a b c d : List ℕ) → a ++ (b ++ (c ++ d)) ≡ ((a ++ b) ++ c) ++ d
    others a b c d = simp append_assoc

    more : (v : Value) (vs : List Value)
        → compact_text (view v) ++ items_text true (items_view (vs ++ w ∷ [])) ≡ before_commas (v ∷ vs) ++ (compact_text (view w) ++ codes "]")
    more v [] = lists (compact_text (view v)) (codes ",") (compact_text (view w) ++ codes "]")
    more v (u ∷ us) =
        ap (λ x. compact_text (view v) ++ (codes "," ++ x)) (more u us)
        ∙ others (compact_text (view v)) (codes ",") (before_commas (u ∷ us)) (compact_text (view w) ++ codes "]")

-- ---- objects for verdicts

-- objects for verdicts, and one more
pub verdicts_more : (vs : List Value) (w : Value) → AreVerdictForms vs → IsVerdictForm (view w) → AreVerdictForms (vs ++ w ∷ [])
verdicts_more [] w h form = (form, tt)
verdicts_more (v ∷ vs) w (is, h) form = (is, verdicts_more vs w h form)

-- the first of them are such objects too
pub verdicts_front : (vs : List Value) (n : ℕ) → AreVerdictForms vs → AreVerdictForms (take n vs)
verdicts_front [] zero h = tt
verdicts_front [] (suc n) h = tt
verdicts_front (v ∷ vs) zero h = tt
verdicts_front (v ∷ vs) (suc n) (is, h) = (is, verdicts_front vs n h)

-- each is one
pub verdict_there : (vs : List Value) (i : ℕ) (d : Value) → i < length vs → AreVerdictForms vs → IsVerdictForm (view (get_or vs i d))
verdict_there [] i d inside h = absurd (omega (arith, inside))
verdict_there (v ∷ vs) zero d inside (is, h) = is
verdict_there (v ∷ vs) (suc i) d inside (is, h) = verdict_there vs i d (omega (arith, inside)) h

-- and where one takes the place of another
pub verdicts_set : (vs : List Value) (i : ℕ) (w : Value) → AreVerdictForms vs → IsVerdictForm (view w) → AreVerdictForms (set vs i w)
verdicts_set [] i w h form = tt
verdicts_set (v ∷ vs) zero w (is, h) form = (form, h)
verdicts_set (v ∷ vs) (suc i) w (is, h) form = (is, verdicts_set vs i w h form)

-- they have no float
pub verdicts_no_float : (vs : List Value) → AreVerdictForms vs → items_have_float (items_view vs) ≡ false
verdicts_no_float [] h = refl
verdicts_no_float (v ∷ vs) ((on, b, e), h) = ap (λ x. x || items_have_float (items_view vs)) (ap has_float e) ∙ verdicts_no_float vs h

-- the text of a verdict's object before a comma is its entry
pub verdict_entry : (scale : Scale) (v : Verdict) (w : Value) → IsVerdictData scale v (view w) → IsEntry true false scale v (before_commas (w ∷ []))
verdict_entry scale v w h = (view w, h, append-nil (compact_text (view w) ++ codes ","))

-- where an object was filled at a place, what stands up to it is what stood before it and the object
module _ (vs new : List Value) (w : Value) (u : ℕ) (inside : u < length vs) (is : new ≡ set vs u w) where
  pub filled_waits_one : take (u + 1) new ≡ take u vs ++ w ∷ []
  filled_waits_one = ap (take (u + 1)) is ∙ take_more_set vs u w inside

  pub unfilled_waits_one : take u new ≡ take u vs
  unfilled_waits_one = ap (take u) is ∙ take-set vs u w

  pub as_long_one : length new ≡ length vs
  as_long_one = ap (λ l. length l) is ∙ length-set vs u w

-- ---- objects for steps

-- the first two of such objects
pub two_first : (vs : List Value) → 0 < length vs → AreStepForms vs
    → (two rest : List Value) × IsStepForm two × AreStepForms rest × (length two ≡ 2) × (vs ≡ two ++ rest)
two_first [] some h = absurd (omega (arith, some))
two_first (p ∷ []) some h = absurd h
two_first (p ∷ k ∷ vs) some (is_p, is_k, h) = (p ∷ k ∷ [], vs, (p, k, refl, is_p, is_k), h, refl, refl)

-- objects for steps, and two more
pub forms_more : (vs two : List Value) → AreStepForms vs → IsStepForm two → AreStepForms (vs ++ two)
forms_more [] two h (p, k, e, is_p, is_k) = subst AreStepForms (sym e) (is_p, is_k, tt)
forms_more (p ∷ []) two h form = absurd h
forms_more (p ∷ k ∷ vs) two (is_p, is_k, h) form = (is_p, is_k, forms_more vs two h form)

-- two are objects for steps
pub forms_of_two : (two : List Value) → IsStepForm two → AreStepForms two
forms_of_two two form = forms_more [] two tt form

-- they have no float
pub no_float : (vs : List Value) → AreStepForms vs → items_have_float (items_view vs) ≡ false
no_float [] h = refl
no_float (p ∷ []) h = absurd h
no_float (p ∷ k ∷ vs) ((f, o, t, e), (a, m, d), h) =
    ap (λ b. b || (has_float (view k) || items_have_float (items_view vs))) (ap has_float e)
    ∙ (ap (λ b. b || items_have_float (items_view vs)) (ap has_float d) ∙ no_float vs h)

-- what stands from a place on begins with the objects of a step
pub step_there : (vs : List Value) (u n : ℕ) → n ≡ 2 → u < length vs → AreStepForms (drop u vs)
    → IsStepForm (take n (drop u vs)) × AreStepForms (drop n (drop u vs)) × (u + 2 ≤ length vs)
step_there vs u n two u_in h =
    let (pair, rest, form, others, long, e) = two_first (drop u vs) (omega (arith, length-drop u vs, u_in)) h in
    let count : length pair ≡ n = omega (arith, long, two) in (
      subst IsStepForm (sym (ap (take n) e ∙ take_at pair rest n count)) form,
      subst AreStepForms (sym (ap (drop n) e ∙ drop_at pair rest n count)) others,
      omega (arith, ap (λ l. length l) e, length-append pair rest, long, length-drop u vs),
    )

-- two before others
forms_before : (two rest : List Value) → IsStepForm two → AreStepForms rest → AreStepForms (two ++ rest)
forms_before two rest (p, k, e, is_p, is_k) h = subst (λ vs. AreStepForms (vs ++ rest)) (sym e) (is_p, is_k, h)

-- a step has two objects
pub long : (two : List Value) → IsStepForm two → length two ≡ 2
long two (p, k, e, is_p, is_k) = ap (λ l. length l) e

module _ (vs new two : List Value) (u : ℕ) (inside : u + 2 ≤ length vs) (waiting : AreStepForms (take u vs)) (spare : AreStepForms (drop 2 (drop u vs)))
    (form : IsStepForm two) (is : new ≡ take u vs ++ (two ++ drop 2 (drop u vs))) where
  before : length (take u vs) ≡ u
  before = length-take-le u vs (omega arith)

  both : length (take u vs ++ two) ≡ u + 2
  both = omega (arith, length-append (take u vs) two, before, long two form)

  parted : new ≡ (take u vs ++ two) ++ drop 2 (drop u vs)
  parted = is ∙ sym (append_assoc (take u vs) two (drop 2 (drop u vs)))

  -- where the objects of a step were filled, what waits is the step behind what waited
  pub filled_waits : take (u + 2) new ≡ take u vs ++ two
  filled_waits = ap (take (u + 2)) parted ∙ take_at (take u vs ++ two) (drop 2 (drop u vs)) (u + 2) both

  -- there are as many objects as before
  pub as_long : length new ≡ length vs
  as_long =
      omega (
        arith,
        ap (λ l. length l) parted,
        length-append (take u vs ++ two) (drop 2 (drop u vs)),
        both,
        length-drop 2 (drop u vs),
        length-drop u vs,
        inside,
      )

  -- and all are objects for steps
  pub filled_forms : (u + 2 ≤ length new) × AreStepForms (take (u + 2) new) × AreStepForms (drop (u + 2) new)
  filled_forms = (
    omega (arith, ap (λ l. length l) parted, length-append (take u vs ++ two) (drop 2 (drop u vs)), both),
    subst AreStepForms (sym filled_waits) (forms_more (take u vs) two waiting form),
    subst AreStepForms (sym (ap (drop (u + 2)) parted ∙ drop_at (take u vs ++ two) (drop 2 (drop u vs)) (u + 2) both)) spare,
  )

  -- before they wait, what waits is as it was
  pub unfilled_waits : take u new ≡ take u vs
  unfilled_waits = ap (take u) is ∙ take_at (take u vs) (two ++ drop 2 (drop u vs)) u before

  -- and all are objects for steps then, too
  pub unfilled_forms : (u ≤ length new) × AreStepForms (take u new) × AreStepForms (drop u new)
  unfilled_forms = (
    omega (arith, ap (λ l. length l) parted, length-append (take u vs ++ two) (drop 2 (drop u vs)), both),
    subst AreStepForms (sym unfilled_waits) waiting,
    subst AreStepForms (sym (ap (drop u) is ∙ drop_at (take u vs) (two ++ drop 2 (drop u vs)) u before))
        (forms_before two (drop 2 (drop u vs)) form spare),
  )

-- the texts of the objects of a step are its entry
pub step_entry : (scale : Scale) (s : Step) (two : List Value) → IsStepData scale s two → IsStepEntry scale s (after_commas two)
step_entry scale s two (p, k, e, is_p, is_k) =
    let piece = codes "," ++ compact_text (view p) in
    let knot = codes "," ++ compact_text (view k) in
    (piece, knot, (view p, is_p, refl), (view k, is_k, refl), ap after_commas e ∙ ap (λ w. piece ++ w) (append-nil knot))

-- two items at a place of a list, and what is written over them
module _ {X : Type 0} (xs : List X) (at : ℕ) (p k : X) (two : take 2 (drop at xs) ≡ p ∷ k ∷ []) (inside : at + 2 ≤ length xs) where
  split : xs ≡ take at xs ++ p ∷ k ∷ drop 2 (drop at xs)
  split =
      sym (take-append-drop at xs)
      ∙ ap (λ w. take at xs ++ w) (sym (take-append-drop 2 (drop at xs)) ∙ ap (λ w. w ++ drop 2 (drop at xs)) two)

  front : length (take at xs) ≡ at
  front = length-take-le at xs (omega arith)

  pub first_of_two : (d : X) → get_or xs at d ≡ p
  first_of_two d = ap (λ l. get_or l at d) split ∙ get_or_at (take at xs) p (k ∷ drop 2 (drop at xs)) d at front

  pub first_written : (v : X) → set xs at v ≡ take at xs ++ v ∷ k ∷ drop 2 (drop at xs)
  first_written v = ap (λ l. set l at v) split ∙ set_at (take at xs) p (k ∷ drop 2 (drop at xs)) v at front

  parted_at : (v : X) → set xs at v ≡ (take at xs ++ v ∷ []) ++ k ∷ drop 2 (drop at xs)
  parted_at v = first_written v ∙ sym (append_assoc (take at xs) (v ∷ []) (k ∷ drop 2 (drop at xs)))

  longer : (v : X) → length (take at xs ++ v ∷ []) ≡ at + 1
  longer v = omega (arith, length-append (take at xs) (v ∷ []), front)

  pub second_of_two : (v d : X) → get_or (set xs at v) (at + 1) d ≡ k
  second_of_two v d = ap (λ l. get_or l (at + 1) d) (parted_at v) ∙ get_or_at (take at xs ++ v ∷ []) k (drop 2 (drop at xs)) d (at + 1) (longer v)

  pub both_written : (v w : X) → set (set xs at v) (at + 1) w ≡ take at xs ++ v ∷ w ∷ drop 2 (drop at xs)
  both_written v w =
      ap (λ l. set l (at + 1) w) (parted_at v)
      ∙ (set_at (take at xs ++ v ∷ []) k (drop 2 (drop at xs)) w (at + 1) (longer v) ∙ append_assoc (take at xs) (v ∷ []) (w ∷ drop 2 (drop at xs)))
