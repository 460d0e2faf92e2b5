-- What a stream of the early verdict writes by another clock.
use Rattle.std.proofs.Common.{◌≡◌, ℕ, ◌<◌, Bool, true, false, List, [], ◌∷◌}
use Rattle.std.proofs.Common.{◌++◌, map, length, refl, sym, ap, ◌∙◌, subst, append-nil, append_assoc, arith}
use Rattle.std.specs.Prelude.{◌↔◌}
use Rattle.std.proofs.lemmas.List.{map-append}
use Rattle.rational.specs.Time.{Rational, ◌≈◌}
use Rattle.rational.proofs.Order.{same_sym, same_trans}
use Rattle.stl_syntax.specs.Trace.{Header, Row, AreRows, row_time, start}
use Rattle.stl_syntax.specs.Formula.{Subformula}
use Rattle.stl_syntax.specs.Early.{Decides, NoneDecides, FirstDecides}
use Rattle.stl_syntax.specs.EarlyText.{IsEarlyText, at_row, at_end, not_yet}
use Rattle.stl_syntax.specs.Texts.{IsNumberText}
use Rattle.stl_syntax.specs.declared.scale.Scale.{Scale}
use Rattle.stl_syntax.proofs.SettledTimes.{settled_is_of_times}
use Rattle.answer_lines.proofs.KeptTexts.{number_of_same}
use Rattle.bounds.proofs.NearTimes.{ahead}
use Rattle.unit_laws.proofs.Clocks.{clock, unclock, unclock_same, unclock-clock}
use Rattle.unit_laws.proofs.FinerTraces.{row_by, rows_counted}
use Rattle.unit_laws.proofs.FinerVerdicts.{start_line_by}
use Rattle.unit_laws.proofs.VerdictsBack.{start_back}
use Rattle.unit_laws.proofs.FinerSettled.{settled_by}
use Rattle.unit_laws.proofs.FinerStreams.{q, other, rows_by, trace_of, other_of, so_far, rows_front}

-- how a mapped list is parted
record Parted {X Y : Type 0} (f : X → Y) (xs : List X) (ys : List Y) (y : Y) : Type 0 where
  before : List X
  at : X
  after : List X
  is : xs ≡ before ++ at ∷ after
  front : ys ≡ map f before
  here : y ≡ f at

parted_on :
    {X Y : Type 0} (f : X → Y) (x : X) (z : Y) (xs : List X) (ys : List Y) (y : Y) →
    f x ≡ z → Parted f xs ys y → Parted f (x ∷ xs) (z ∷ ys) y
parted_on f x z xs ys y h r = record {
  before = x ∷ r.before;
  at = r.at;
  after = r.after;
  is = ap (λ l. x ∷ l) r.is;
  front = ap (λ l. z ∷ l) r.front ∙ ap (λ w. w ∷ map f r.before) (sym h);
  here = r.here;
}

parted : {X Y : Type 0} (f : X → Y) (xs : List X) (ys : List Y) (y : Y) (zs : List Y) → map f xs ≡ ys ++ y ∷ zs → Parted f xs ys y
parted f [] [] y zs e = absurd (cc)
parted f [] (z ∷ ys) y zs e = absurd (cc)
parted f (x ∷ xs) [] y zs e = record { before = []; at = x; after = xs; is = refl; front = refl; here = let h : f x ≡ y = cc in sym h }
parted f (x ∷ xs) (z ∷ ys) y zs e =
    let h : f x ≡ z = cc in
    let k : map f xs ≡ ys ++ y ∷ zs = cc in
    parted_on f x z xs ys y h (parted f xs ys y zs k)

module _ (K o M : ℕ) (kp : 0 < K) (mp : 0 < M) (p : Subformula) (header : Header) (scale : Scale) where
  abbrev r : Subformula
  r = q K o M kp mp p header scale

  abbrev fine : Header
  fine = other K o M kp mp p header scale

  abbrev moved : List Row → List Row
  moved rows = rows_by K o M kp mp p header scale rows

  -- a row's time by the clock
  pub row_same : (x : Row) → clock K (ahead o) (row_time x) ≈ row_time (row_by K o M kp mp x)
  row_same x = record { same = omega arith }

  -- the rows decide by the clock where they decide
  decides_by : (rows : List Row) (b : Bool) → AreRows (length header.columns) rows
      → Decides p (trace_of K o M kp mp p header scale rows) b ↔ Decides r (other_of K o M kp mp p header scale rows) b
  decides_by rows true ok =
      let c = so_far K o M kp mp p header scale rows ok in
      let tr = trace_of K o M kp mp p header scale rows in
      let ur = other_of K o M kp mp p header scale rows in
      let s = (settled_by K (ahead o) M kp mp c p (start tr)).so in (
        λ h. (settled_is_of_times r ur (clock K (ahead o) (start tr)) (start ur) (same_sym c.starts)).0 (s.0 h),
        λ h. s.1 ((settled_is_of_times r ur (start ur) (clock K (ahead o) (start tr)) c.starts).0 h),
      )
  decides_by rows false ok =
      let c = so_far K o M kp mp p header scale rows ok in
      let tr = trace_of K o M kp mp p header scale rows in
      let ur = other_of K o M kp mp p header scale rows in
      let s = (settled_by K (ahead o) M kp mp c p (start tr)).not_so in (
        λ h. (settled_is_of_times r ur (clock K (ahead o) (start tr)) (start ur) (same_sym c.starts)).1 (s.0 h),
        λ h. s.1 ((settled_is_of_times r ur (start ur) (clock K (ahead o) (start tr)) c.starts).1 h),
      )

  pushed : (before : List Row) (x : Row) → moved (before ++ x ∷ []) ≡ moved before ++ row_by K o M kp mp x ∷ []
  pushed before x = map-append (row_by K o M kp mp) before (x ∷ [])

  front_rows : (before after : List Row) (x : Row) → AreRows (length header.columns) (before ++ x ∷ after)
      → AreRows (length header.columns) (before ++ x ∷ [])
  front_rows before after x ok =
      rows_front (length header.columns) before x after (subst (λ xs. AreRows (length header.columns) xs) (sym (append_assoc before (x ∷ []) after)) ok)

  -- where none of the rows decides, none does by the clock
  none_by : (all rows beyond : List Row) → all ≡ rows ++ beyond → AreRows (length header.columns) all → NoneDecides p header rows
      → NoneDecides r fine (moved rows)
  none_by all rows beyond whole ok none before after x b e h =
      let c = parted (row_by K o M kp mp) rows before x after e in
      let n = length header.columns in
      let here : all ≡ c.before ++ c.at ∷ (c.after ++ beyond) =
      whole ∙ ap (λ xs. xs ++ beyond) c.is ∙ append_assoc c.before (c.at ∷ c.after) beyond in
      let fine_ok = front_rows c.before (c.after ++ beyond) c.at (subst (λ xs. AreRows n xs) here ok) in
      let same : before ++ x ∷ [] ≡ moved (c.before ++ c.at ∷ []) =
      ap (λ xs. xs ++ x ∷ []) c.front ∙ ap (λ y. moved c.before ++ y ∷ []) c.here ∙ sym (pushed c.before c.at) in
      none c.before c.after c.at b c.is
      ((decides_by (c.before ++ c.at ∷ []) b fine_ok).1 (subst (λ xs. Decides r (record { header = fine; rows = xs }) b) same h))

  -- where none of the rows decides by the clock, none does
  pub none_back : (all rows beyond : List Row) → all ≡ rows ++ beyond → AreRows (length header.columns) all → NoneDecides r fine (moved rows)
      → NoneDecides p header rows
  none_back all rows beyond whole ok none before after x b e h =
      let here : all ≡ before ++ x ∷ (after ++ beyond) = whole ∙ ap (λ xs. xs ++ beyond) e ∙ append_assoc before (x ∷ after) beyond in
      let fine_ok = front_rows before (after ++ beyond) x (subst (λ xs. AreRows (length header.columns) xs) here ok) in
      none (moved before) (moved after) (row_by K o M kp mp x) b (ap moved e ∙ map-append (row_by K o M kp mp) before (x ∷ after))
      (subst (λ xs. Decides r (record { header = fine; rows = xs }) b) (pushed before x) ((decides_by (before ++ x ∷ []) b fine_ok).0 h))

  -- the first row at which the rows decide
  pub record FirstBack (rows : List Row) (x : Row) (holds : Bool) : Type 0 where
    -- what stands before it
    pub before : List Row
    -- the row
    pub at : Row
    -- and what stands behind it
    pub after : List Row
    -- they are the rows
    pub is : rows ≡ before ++ at ∷ after
    -- it is the first
    pub first : FirstDecides p header before at holds
    -- and by the clock that row
    pub here : x ≡ row_by K o M kp mp at

  -- the first row that decides by the clock is the first
  pub first_back : (rows before after : List Row) (x : Row) (holds : Bool) → AreRows (length header.columns) rows → moved rows ≡ before ++ x ∷ after
      → FirstDecides r fine before x holds → FirstBack rows x holds
  first_back rows before after x holds ok e first =
      let c = parted (row_by K o M kp mp) rows before x after e in
      let front_ok = front_rows c.before c.after c.at (subst (λ xs. AreRows (length header.columns) xs) c.is ok) in
      let same : before ++ x ∷ [] ≡ moved (c.before ++ c.at ∷ []) =
      ap (λ xs. xs ++ x ∷ []) c.front ∙ ap (λ y. moved c.before ++ y ∷ []) c.here ∙ sym (pushed c.before c.at) in record {
        before = c.before;
        at = c.at;
        after = c.after;
        is = c.is;
        first = record {
          decides = (decides_by (c.before ++ c.at ∷ []) holds front_ok).1
              (subst (λ xs. Decides r (record { header = fine; rows = xs }) holds) same first.decides);
          not_before = none_back rows c.before (c.at ∷ c.after) c.is ok (subst (λ xs. NoneDecides r fine xs) c.front first.not_before);
        };
        here = c.here;
      }

  module _ (times : (t : Rational) (text : List ℕ) → IsNumberText header.scale.time t text → IsNumberText scale.time (clock K (ahead o) t) text) where
    -- the text of a stream of the early verdict
    pub early_by : (rows : List Row) (ended : Bool) (text : List ℕ) → AreRows (length header.columns) rows → IsEarlyText p header rows ended text
        → IsEarlyText r fine (moved rows) ended text
    early_by rows ended text ok (at_row before after x holds time e first written is) =
        at_row (moved before) (moved after) (row_by K o M kp mp x) holds time (ap moved e ∙ map-append (row_by K o M kp mp) before (x ∷ after)) (record {
          decides = subst (λ xs. Decides r (record { header = fine; rows = xs }) holds) (pushed before x)
              ((decides_by (before ++ x ∷ []) holds (front_rows before after x (subst (λ xs. AreRows (length header.columns) xs) e ok))).0 first.decides);
          not_before = none_by rows before (x ∷ after) e ok first.not_before;
        })
        (number_of_same scale.time (clock K (ahead o) (row_time x)) (row_time (row_by K o M kp mp x)) time (row_same x) (times (row_time x) time written)) is
    early_by rows ended text ok (at_end line end all none line_is is) =
        at_end line end (rows_counted K o M kp mp (length header.columns) rows ok) (none_by rows rows [] (sym (append-nil rows)) ok none)
        (start_line_by K (ahead o) M kp mp (so_far K o M kp mp p header scale rows ok) p line line_is) is
    early_by rows ended text ok (not_yet end none is) = not_yet end (none_by rows rows [] (sym (append-nil rows)) ok none) is

  module _ (times_back : (t : Rational) (text : List ℕ) → IsNumberText scale.time t text → IsNumberText header.scale.time (unclock K (ahead o) kp t) text) where
    row_back : (x : Row) → unclock K (ahead o) kp (row_time (row_by K o M kp mp x)) ≈ row_time x
    row_back x = same_trans (unclock_same K (ahead o) kp (same_sym (row_same x))) (unclock-clock K (ahead o) kp (row_time x))

    -- the text of the early verdict by the clock is that of the rows
    pub early_back : (rows : List Row) (ended : Bool) (text : List ℕ) → AreRows (length header.columns) rows
        → IsEarlyText r fine (moved rows) ended text → IsEarlyText p header rows ended text
    early_back rows ended text ok (at_row before after x holds time e first written is) =
        let c = first_back rows before after x holds ok e first in
        at_row c.before c.after c.at holds time c.is c.first
        (number_of_same header.scale.time (unclock K (ahead o) kp (row_time (row_by K o M kp mp c.at))) (row_time c.at) time (row_back c.at)
        (times_back (row_time (row_by K o M kp mp c.at)) time (subst (λ y. IsNumberText scale.time (row_time y) time) c.here written))) is
    early_back rows ended text ok (at_end line end all none line_is is) =
        at_end line end ok (none_back rows rows [] (sym (append-nil rows)) ok none)
        (start_back K (ahead o) M kp mp (so_far K o M kp mp p header scale rows ok) p line line_is) is
    early_back rows ended text ok (not_yet end none is) = not_yet end (none_back rows rows [] (sym (append-nil rows)) ok none) is
