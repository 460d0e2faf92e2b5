-- The bytes of the generated rows, written one by one.
use Rattle.std.proofs.Common.{◌≡◌, ℕ, suc, ◌+◌, List, [], ◌∷◌, ◌++◌, append_assoc, sym, ap, ◌∙◌}
use Rattle.std.specs.Prelude.{flat_map, ℤ}
use Rattle.workload.specs.Generated.{next_state, state_value, rows_after, row_line}

-- a row that is written leaves those after it
pub row_written : (text longer : List ℕ) (s next t n k : ℕ) (v : ℤ) → n ≡ suc k → next ≡ next_state s → v ≡ state_value next
    → longer ≡ text ++ row_line (record { time = t; values = v ∷ v ∷ [] })
    → longer ++ flat_map row_line (rows_after next (t + 4) k) ≡ text ++ flat_map row_line (rows_after s t n)
row_written text longer s next t n k v some state value is =
    let all : ℤ → ℕ → List ℕ = λ w m. row_line (record { time = t; values = w ∷ w ∷ [] }) ++ flat_map row_line (rows_after m (t + 4) k) in
    let here : all v next ≡ flat_map row_line (rows_after s t (suc k)) = ap (λ w. all w next) value ∙ ap (λ m. all (state_value m) m) state in
    ap (λ w. w ++ flat_map row_line (rows_after next (t + 4) k)) is
    ∙ append_assoc text (row_line (record { time = t; values = v ∷ v ∷ [] })) (flat_map row_line (rows_after next (t + 4) k))
    ∙ ap (λ w. text ++ w) (here ∙ ap (λ m. flat_map row_line (rows_after s t m)) (sym some))
