-- Texts that are put behind others, one after another.
use Rattle.std.proofs.Common.{◌≡◌, ℕ, zero, suc, ◌+◌, ◌-◌, ◌≤◌, List, [], ◌∷◌, ◌++◌, length, take, drop, append_assoc}
use Rattle.std.proofs.Common.{length-append, length-take-le, length-drop, refl, sym, ap, ◌∙◌, arith, subst}
use Rattle.std.proofs.lemmas.List.{take-append-le}
use Rattle.answer_lines.specs.Appended.{Grew, Then}
use Rattle.answer_lines.specs.Before.{Puts}
use Rattle.answer_lines.specs.After.{IsAdded, Adds}
use Rattle.answer_lines.proofs.KeptTexts.{put_length, stands}

-- a word behind another
pub add_then : {w v old mid new : List ℕ} {at to end : ℕ} → IsAdded w old at mid to → IsAdded v mid to new end → IsAdded (w ++ v) old at new end
add_then {w} {v} {old} {mid} {new} {at} {to} {end} p q = record {
  added = q.added ∙ (ap (λ x. x ++ v) p.added ∙ append_assoc (take at old) w v);
  size = omega (arith, p.size, q.size, length-append w v);
  same = q.same ∙ p.same;
}

-- the word is this one
pub add_as : {w v old new : List ℕ} {at to : ℕ} → w ≡ v → IsAdded w old at new to → IsAdded v old at new to
add_as {w} {v} {old} {new} {at} {to} e p = subst (λ x. IsAdded x old at new to) e p

-- a text behind another
pub adds_then : (P Q : List ℕ → Type 0) {j k : ℕ} {old mid new : List ℕ} {at to end : ℕ} → Adds P j old at mid to → Adds Q k mid to new end
    → Adds (Then P Q) (j + k) old at new end
adds_then P Q (v, p, few, sooner) (w, q, some, later) = (v ++ w, (v, w, p, q, refl), omega (arith, few, some, length-append v w), add_then sooner later)

-- what stood before a place, and then the first bytes of what follows
pub take_past : (n k : ℕ) (xs ys : List ℕ) → n ≤ length xs → take (n + k) (take n xs ++ ys) ≡ take n xs ++ take k ys
take_past zero k xs ys h = ap (λ j. take j ys) (let e : 0 + k ≡ k = omega arith in e)
take_past (suc n) k [] ys h = absurd (omega (arith, h))
take_past (suc n) k (x ∷ xs) ys h =
    ap (λ j. take j (x ∷ (take n xs ++ ys))) (let e : suc n + k ≡ suc (n + k) = omega arith in e)
    ∙ ap (λ t. x ∷ t) (take_past n k xs ys (omega (arith, h)))

-- the first bytes of a word that was copied
pub part_added : (word old : List ℕ) (at len k : ℕ) → len ≤ length word → at + length word ≤ length old → k ≡ length word
    → IsAdded (take len word) old at (take at old ++ (word ++ drop k (drop at old))) (at + len)
part_added word old at len k few room size = record {
  added = take_past at len old (word ++ drop k (drop at old)) (omega (arith, room))
      ∙ ap (λ w. take at old ++ w) (take-append-le len word (drop k (drop at old)) few);
  size = ap (λ n. at + n) (sym (length-take-le len word few));
  same =
      omega (
        arith,
        room,
        size,
        length-append (take at old) (word ++ drop k (drop at old)),
        length-append word (drop k (drop at old)),
        length-drop k (drop at old),
        length-drop at old,
        length-take-le at old (omega (arith, room)),
      );
}

-- a text that was made in its room, and ends there at a place, is put behind others
pub made_added : (P : List ℕ → Type 0) {k : ℕ} {empty room old new : List ℕ} {end from at to : ℕ} → Puts P k empty end room from → end ≤ length empty
    → IsAdded (take (end - from) (drop from room)) old at new to → Adds P k old at new to
made_added P {k} {empty} {room} {old} {new} {end} {from} {at} {to} (word, p, put) inside added = (
  word,
  p,
  omega (arith, put_length put inside, put.few),
  add_as (stands put inside) added,
)

-- what was put behind a text has grown it
pub added_grew : (P : List ℕ → Type 0) {k : ℕ} {old new : List ℕ} {at to : ℕ} → Adds P k old at new to → Grew P (take at old) (take to new)
added_grew P (word, p, few, added) = (word, p, added.added)
