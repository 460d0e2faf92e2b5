-- The first LF among 32 bytes, by the marks of a vector.
use Rattle.std.proofs.Common.{◌≡◌, ◌↔◌, inl, inr, ℕ, ◌+◌, ◌-◌, ◌<◌, ◌≤◌, List, ◌++◌, Bool, true, false, length, take, arith, refl, sym, ap, ◌∙◌}
use Rattle.std.specs.Prelude.{◌≢◌, ◌==◌, slice_index, if◌then◌else◌}
use Rattle.std.specs.Int.{bit_at}
use Rattle.std.proofs.lemmas.Bool.{eqb-true, eq-eqb, cases_lt}
use Rattle.std.proofs.lemmas.Grind.{same_number_lists}
use Rattle.std.proofs.lemmas.List.{get_or_past, get_or_append_left, get_or-append-add, get_or-take, length-append, length-take-le}
use Rattle.std.proofs.lemmas.List.Elements.{All-get_or}
use Rattle.std.proofs.lemmas.Nat.Bits.{bit_at-zero}
use Rattle.memchr.specs.Find.{is_byte, Nowhere, NoneBefore, Passes}
use Rattle.memchr.specs.Lanes.{HasLanes}
use Rattle.trace_reader.specs.Feeds.{HasNoFeed}
use Rattle.session_mux.specs.Near.{IsNoFeed, IsNextFeed}

-- whether a byte is an LF, by its lane
by_lane : (c l : ℕ) → l ≡ (if c == 10 then 255 else 0) → 128 ≤ l → c ≡ 10
by_lane c l e high = by_test (c == 10) refl
  where
    by_test : (b : Bool) → (c == 10) ≡ b → c ≡ 10
    by_test true k = eqb-true c 10 k
    by_test false k = absurd (omega (arith, high, e ∙ ap (λ b. if b then 255 else 0) k))

module _ (text : List ℕ) (at m : ℕ) (bytes lanes : List ℕ) (loaded : HasLanes bytes (λ k. slice_index text (at + k)))
    (tested : HasLanes lanes (λ k. if slice_index bytes k == 10 then 255 else 0)) (bits : (k : ℕ) → (bit_at m k ≡ 1) ↔ (128 ≤ slice_index lanes k)) where
  lane : (k : ℕ) → k < 32 → slice_index lanes k ≡ (if slice_index text (at + k) == 10 then 255 else 0)
  lane k near = tested.each k near ∙ ap (λ b. if b == 10 then 255 else 0) (loaded.each k near)

  -- the bit of an LF is set
  set_at : (k : ℕ) → k < 32 → slice_index text (at + k) ≡ 10 → bit_at m k ≡ 1
  set_at k near is = (bits k).1 (omega (arith, lane k near ∙ ap (λ b. if b == 10 then 255 else 0) is))

  -- no bit beyond the lanes is
  near_set : (k : ℕ) → bit_at m k ≡ 1 → k < 32
  near_set k set = elim (cases_lt k 32) [
    | inl near ↦ near
    | inr far ↦ absurd (omega (arith, (bits k).0 set, get_or_past lanes k 0 (omega (arith, tested.long, far))))
  ]

  -- no mark: no LF
  pub none_near : m ≡ 0 → IsNoFeed text at
  none_near none k near is = absurd (omega (arith, sym (set_at k near is) ∙ ap (λ n. bit_at n k) none ∙ bit_at-zero k))

  -- the lowest mark: the first LF
  pub next_near : (n : ℕ) → bit_at m n ≡ 1 → ((k : ℕ) → k < n → bit_at m k ≡ 0) → IsNextFeed text at n
  next_near n set below =
      let near = near_set n set in
      record {
        near = near;
        is = by_lane (slice_index text (at + n)) (slice_index lanes n) (lane n near) ((bits n).0 set);
        before = λ k less is. absurd (omega (arith, sym (set_at k (omega (arith, less, near)) is) ∙ below k less));
      }

-- the first LF of a text that is near stands in its end, which has it first too, where none stands before that end
module _ (text front end : List ℕ) (free : HasNoFeed front) (split : text ≡ front ++ end) (n : ℕ) (h : IsNextFeed text 0 n) (long : 32 ≤ length text) where
  here : slice_index text n ≡ 10
  here = let at : n ≡ 0 + n = omega arith in ap (slice_index text) at ∙ h.is

  pub feed_beyond : length front ≤ n
  feed_beyond = elim (cases_lt n (length front)) [
    | inl less ↦
        let fed : slice_index front n ≡ 10 = sym (get_or_append_left front end 0 n less) ∙ ap (λ w. slice_index w n) (sym split) ∙ here in
        absurd (All-get_or (λ c. c ≡ 10 → ⊥) front n 0 less free fed)
    | inr far ↦ omega (arith, far)
  ]

  in_end : (k : ℕ) → slice_index text (length front + k) ≡ slice_index end k
  in_end k = ap (λ w. slice_index w (length front + k)) split ∙ get_or-append-add front end k 0

  pub feed_in_end : NoneBefore (Passes (is_byte 10) end) 0 (length end) (n - length front) × Passes (is_byte 10) end (n - length front)
  feed_in_end =
      let near = h.near in
      let beyond = feed_beyond in
      let size = ap length split in
      let place : length front + (n - length front) ≡ n = omega (arith, beyond) in (
        record {
          low = omega arith;
          high = omega (arith, near, long, beyond, size, length-append front end);
          before = λ k low less is.
              let at : 0 + (length front + k) ≡ length front + k = omega arith in
              h.before (length front + k) (omega (arith, less, beyond)) (ap (slice_index text) at ∙ in_end k ∙ eqb-true (slice_index end k) 10 is);
        },
        eq-eqb (slice_index end (n - length front)) 10 (sym (in_end (n - length front)) ∙ ap (slice_index text) place ∙ here),
      )

-- a text and a room, of which the marks tell where they differ
module _ (text room : List ℕ) (m : ℕ) (bytes others lanes : List ℕ) (loaded : HasLanes bytes (λ k. slice_index text (0 + k)))
    (held : HasLanes others (λ k. slice_index room (0 + k)))
    (tested : HasLanes lanes (λ k. if slice_index bytes k == slice_index others k then 0 else 255))
    (bits : (k : ℕ) → (bit_at m k ≡ 1) ↔ (128 ≤ slice_index lanes k)) where
  -- where there is no mark, they do not
  same_at : (k : ℕ) → k < 32 → (bit_at m k ≡ 1 → ⊥) → slice_index text k ≡ slice_index room k
  same_at k near clear = by_test (slice_index bytes k == slice_index others k) refl
    where
      at : 0 + k ≡ k
      at = omega arith

      by_test : (b : Bool) → (slice_index bytes k == slice_index others k) ≡ b → slice_index text k ≡ slice_index room k
      by_test true e =
          sym (loaded.each k near ∙ ap (slice_index text) at) ∙ eqb-true (slice_index bytes k) (slice_index others k) e
          ∙ held.each k near ∙ ap (slice_index room) at
      by_test false e =
          let high : slice_index lanes k ≡ 255 = tested.each k near ∙ ap (λ b. if b then 0 else 255) e in
          absurd (clear ((bits k).1 (omega (arith, high))))

  -- so the text begins as the room does, up to the first mark
  pub begins : (n : ℕ) → n ≤ 32 → ((k : ℕ) → k < n → bit_at m k ≡ 1 → ⊥) → 32 ≤ length text → 32 ≤ length room → take n text ≡ take n room
  begins n few clear long wide =
      let size = length-take-le n text (omega (arith, few, long)) in
      let other = length-take-le n room (omega (arith, few, wide)) in
      same_number_lists (take n text) (take n room) (size ∙ sym other)
      (λ k less.
      let low : k < n = omega (arith, less, size) in
      get_or-take n text k 0 low ∙ same_at k (omega (arith, low, few)) (clear k low) ∙ sym (get_or-take n room k 0 low))

-- the first LF that is near is the first of all
pub near_is_first : (text : List ℕ) (n : ℕ) → IsNextFeed text 0 n → 32 ≤ length text
    → NoneBefore (Passes (is_byte 10) text) 0 (length text) n × Passes (is_byte 10) text n
near_is_first text n h long =
    let at : (k : ℕ) → 0 + k ≡ k = λ k. omega arith in
    let near = h.near in (
      record {
        low = omega arith;
        high = omega (arith, near, long);
        before = λ k low less is. h.before k less (ap (slice_index text) (at k) ∙ eqb-true (slice_index text k) 10 is);
      },
      eq-eqb (slice_index text n) 10 (ap (slice_index text) (sym (at n)) ∙ h.is),
    )

-- a text that stands in a room, behind other bytes at its front
module _ (text room front : List ℕ) (end : ℕ) (is : take end room ≡ front ++ text) (size : end ≡ length front + length text) where
  in_room : (k : ℕ) → k < length text → slice_index text k ≡ slice_index room (length front + k)
  in_room k less =
      sym (get_or-append-add front text k 0) ∙ ap (λ w. slice_index w (length front + k)) (sym is)
      ∙ get_or-take end room (length front + k) 0 (omega (arith, less, size))

  -- where the room has its next LF within the text, the text has its first there
  pub room_first : (n : ℕ) → IsNextFeed room (length front) n → n < length text
      → NoneBefore (Passes (is_byte 10) text) 0 (length text) n × Passes (is_byte 10) text n
  room_first n h less = (
    record {
      low = omega arith;
      high = omega (arith, less);
      before = λ k low early is. h.before k early (sym (in_room k (omega (arith, early, less))) ∙ eqb-true (slice_index text k) 10 is);
    },
    eq-eqb (slice_index text n) 10 (in_room n less ∙ h.is),
  )

  -- where it has none before the text ends, the text has none
  pub room_none : ((k : ℕ) → k < length text → slice_index room (length front + k) ≢ 10) → Nowhere (Passes (is_byte 10) text) 0 (length text)
  room_none none k low less is =
      let early : k < length text = omega (arith, less) in
      none k early (sym (in_room k early) ∙ eqb-true (slice_index text k) 10 is)

-- the first bytes of a text, of 32 that were loaded
pub loaded_front : (text bytes : List ℕ) → HasLanes bytes (λ k. slice_index text (0 + k)) → (n : ℕ) → n ≤ 32 → 32 ≤ length text → take n bytes ≡ take n text
loaded_front text bytes loaded n few long =
    let size = length-take-le n text (omega (arith, few, long)) in
    let other = length-take-le n bytes (omega (arith, few, loaded.long)) in
    same_number_lists (take n bytes) (take n text) (other ∙ sym size)
    (λ k less.
    let low : k < n = omega (arith, less, other) in
    let at : 0 + k ≡ k = omega arith in
    get_or-take n bytes k 0 low ∙ loaded.each k (omega (arith, low, few)) ∙ ap (slice_index text) at ∙ sym (get_or-take n text k 0 low))
