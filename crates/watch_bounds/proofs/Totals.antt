-- Sums over the first nodes.
use Rattle.std.proofs.Common.{ℕ, zero, suc, ◌*◌, ◌<◌, ◌≤◌, arith}
use Rattle.watch_bounds.specs.Holdings.{total}

-- what is at most a multiple at each node is so in all
pub total_within : (f g : ℕ → ℕ) (m n : ℕ) → ((i : ℕ) → i < n → f i ≤ g i * m) → total f n ≤ total g n * m
total_within f g m zero h = omega arith
total_within f g m (suc n) h =
    let a = total_within f g m n (λ i l. h i (omega (arith, l))) in
    let b = h n (omega arith) in
    omega (arith, a, b)

-- and twice as much
pub total_twice : (f g : ℕ → ℕ) (m n : ℕ) → ((i : ℕ) → i < n → f i ≤ 2 * (g i * m)) → total f n ≤ 2 * (total g n * m)
total_twice f g m zero h = omega arith
total_twice f g m (suc n) h =
    let a = total_twice f g m n (λ i l. h i (omega (arith, l))) in
    let b = h n (omega arith) in
    omega (arith, a, b)

-- what is at most m at each node is at most n times m in all
pub total_at_most : (f : ℕ → ℕ) (m n : ℕ) → ((i : ℕ) → i < n → f i ≤ m) → total f n ≤ n * m
total_at_most f m zero h = omega arith
total_at_most f m (suc n) h =
    let a = total_at_most f m n (λ i l. h i (omega (arith, l))) in
    let b = h n (omega arith) in
    omega (arith, a, b)
