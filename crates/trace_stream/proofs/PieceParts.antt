-- A piece in parts.
use Rattle.std.proofs.Common.{◌≡◌, ℕ, zero, suc, ◌+◌, ◌-◌, ◌<◌, false, List, ◌++◌, length, take, drop, sym, ap, ◌∙◌, subst, arith}
use Rattle.std.proofs.Common.{take-append-drop, take-add, append_assoc}
use Rattle.rational.proofs.Lists.{take_rest}
use Rattle.stl_syntax.specs.Formula.{Formula}
use Rattle.trace_reader.specs.declared.refusal.Limits.{Limits}
use Rattle.trace_stream.specs.CaseReader.{IsRefused}
use Rattle.trace_stream.specs.declared.fault.StreamStop.{StreamStop}

-- bytes with a piece up to a place, and n bytes more of it, are the bytes with the piece up to n further on
pub fed : (bytes piece : List ℕ) (at n : ℕ) → (bytes ++ take at piece) ++ take n (take (length piece - at) (drop at piece)) ≡ bytes ++ take (at + n) piece
fed bytes piece at n =
    append_assoc bytes (take at piece) (take n (take (length piece - at) (drop at piece)))
    ∙ ap (λ l. bytes ++ (take at piece ++ take n l)) (take_rest piece at)
    ∙ ap (λ l. bytes ++ l) (sym (take-add at n piece))

fed_all : (bytes piece : List ℕ) (at : ℕ) → (bytes ++ take at piece) ++ take (length piece - at) (drop at piece) ≡ bytes ++ piece
fed_all bytes piece at =
    ap (λ l. (bytes ++ take at piece) ++ l) (take_rest piece at) ∙ append_assoc bytes (take at piece) (drop at piece)
    ∙ ap (λ l. bytes ++ l) (take-append-drop at piece)

-- a refusal in the rest of the piece is one in the piece
pub fed_err : (f : Formula) (l m : Limits) (bytes piece : List ℕ) (at : ℕ) (e : StreamStop) → l ≡ m
    → IsRefused l f false ((bytes ++ take at piece) ++ take (length piece - at) (drop at piece)) e → IsRefused m f false (bytes ++ piece) e
fed_err f l m bytes piece at e same r =
    subst (λ (x : Limits). IsRefused x f false (bytes ++ piece) e) same (subst (λ b. IsRefused l f false b e) (fed_all bytes piece at) r)

-- of a piece with bytes some are taken: n at first, and if these are none, then m of the rest
pub some_taken : (n m rest size : ℕ) → 0 < size → rest ≡ size - n → (0 < rest → 0 < m) → 0 < n + m
some_taken zero m rest size some e f = omega (arith, f (omega (arith, e, some)))
some_taken (suc n) m rest size some e f = omega arith
