-- What writes and reads came to, one after the other.
use Rattle.std.proofs.Common.{◌≡◌, ℕ, ◌+◌, ◌<◌, ◌≤◌, List, [], ◌∷◌, ◌++◌, append_assoc, refl, ◌∙◌, length, take, drop}
use Rattle.std.proofs.Common.{sym, ap, subst, arith, take-append-drop, take-add, length-drop, take_all, Ok, Err, Result}
use Rattle.std.specs.Prelude.{Option}
use Rattle.std.specs.Io.KnownBytes.{Appends, Keeps}
use Rattle.std.specs.Result.{IsErr}
use Rattle.std.proofs.KnownBytes.{Appends-trans, Appends-kept}
use Rattle.io_edge.specs.Causes.{HasCause, Rose}
use Rattle.command_line.specs.Writing.{IsWritten, IsPartWritten}

drop-some : (text : List ℕ) (at : ℕ) → at < length text → drop at text ≡ [] → ⊥
drop-some text at h e = omega (arith, h, length-drop at text, ap length e)

-- the bytes up to a place before the end are a part
pub part_at : (a b c : Option (List ℕ)) (text : List ℕ) (at : ℕ) → at < length text → Appends a b (take at text) → Keeps b c → IsPartWritten a c text
part_at a b c text at h w k = record {
  front = take at text;
  back = drop at text;
  parts = sym (take-append-drop at text);
  missing = drop-some text at h;
  wrote = Appends-kept a b c (take at text) w k;
}

-- a write that failed has put a part of the text
pub part_err : {T E : Type 0} (a b : Option (List ℕ)) (text : List ℕ) (r : Result T E) → IsErr r → IsPartWritten a b text → IsWritten a b r text
part_err a b text (Ok x) e p = absurd (let f = e in cc)
part_err a b text (Err x) e p = p

-- a count that rose late rose
pub cause_err : {T E : Type 0} (before between now : ℕ) (r : Result T E) → IsErr r → before ≤ between → between ≤ now → Rose between now → HasCause before now r
cause_err before between now (Ok x) e l m h = absurd (let f = e in cc)
cause_err before between now (Err x) e l m h = record { later = omega (arith, l, m); failed = omega (arith, l, h); still = tt }

-- a write up to the end of the text has put all of it
pub whole : (a b : Option (List ℕ)) (text : List ℕ) (at : ℕ) → length text ≤ at → Appends a b (take at text) → Appends a b text
whole a b text at h w = subst (Appends a b) (take_all at text h) w

-- two writes, the second from where the first ended, are one
pub next_take : (a b c : Option (List ℕ)) (text : List ℕ) (at n : ℕ) → Appends a b (take at text)
    → Appends b c (take n (drop at text)) → Appends a c (take (at + n) text)
next_take a b c text at n p q = subst (Appends a c) (sym (take-add at n text)) (Appends-trans a b c (take at text) (take n (drop at text)) p q)

append_missing : (xs ys : List ℕ) → (xs ≡ [] → ⊥) → xs ++ ys ≡ [] → ⊥
append_missing [] ys h e = h refl
append_missing (x ∷ xs) ys h e = let f = e in cc

-- a part of a text is a part of a longer one
pub part_more : (a b : Option (List ℕ)) (x y : List ℕ) → IsPartWritten a b x → IsPartWritten a b (x ++ y)
part_more a b x y p = record {
  front = p.front;
  back = p.back ++ y;
  parts = ap (λ t. t ++ y) p.parts ∙ append_assoc p.front p.back y;
  missing = append_missing p.back y p.missing;
  wrote = p.wrote;
}

-- what was written after a text that was written
pub written_on : {T E : Type 0} (a b c : Option (List ℕ)) (x y : List ℕ) (r : Result T E) → Appends a b x → IsWritten b c r y → IsWritten a c r (x ++ y)
written_on a b c x y (Ok v) w h = Appends-trans a b c x y w h
written_on a b c x y (Err v) w h = record {
  front = x ++ h.front;
  back = h.back;
  parts = ap (λ t. x ++ t) h.parts ∙ sym (append_assoc x h.front h.back);
  missing = h.missing;
  wrote = Appends-trans a b c x h.front w h.wrote;
}

-- and a failure in it
pub part_on : (a b c : Option (List ℕ)) (x y : List ℕ) → Appends a b x → IsPartWritten b c y → IsPartWritten a c (x ++ y)
part_on a b c x y w h = record {
  front = x ++ h.front;
  back = h.back;
  parts = ap (λ t. x ++ t) h.parts ∙ sym (append_assoc x h.front h.back);
  missing = h.missing;
  wrote = Appends-trans a b c x h.front w h.wrote;
}

-- what came of a text that was written whole, or in part
pub all_of : {T E : Type 0} (before held : Option (List ℕ)) (text : List ℕ) (r : Result T E) (v : T) → r ≡ Ok v → IsWritten before held r text
    → Appends before held text
all_of before held text (Ok w) v e h = h
all_of before held text (Err w) v e h = absurd (let k = e in cc)

pub part_of : {T E : Type 0} (before held : Option (List ℕ)) (text : List ℕ) (r : Result T E) (v : E) → r ≡ Err v → IsWritten before held r text
    → IsPartWritten before held text
part_of before held text (Ok w) v e h = absurd (let k = e in cc)
part_of before held text (Err w) v e h = h

-- the cause of what came later is that of all, where nothing failed before
pub cause_on : {T E U F : Type 0} (before mid now : ℕ) (r : Result T E) (v : T) (s : Result U F) → r ≡ Ok v → HasCause before mid r → HasCause mid now s
    → HasCause before now s
cause_on before mid now (Ok w) v s e h k = subst (λ n. HasCause n now s) h.still k
cause_on before mid now (Err w) v s e h k = absurd (let f = e in cc)
