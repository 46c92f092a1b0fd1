-- Bounds on the number of 65,536-byte chunks in a round of the tests.
use Rattle.std.proofs.Common.{◌≡◌, ℕ, ◌+◌, ◌-◌, ◌*◌, ◌/◌, ◌<◌, ◌≤◌, ap, arith}
use Rattle.container_core.specs.Chunks.{chunk_count}

pub few-chunks : (size n : ℕ) → size ≡ 65536 → n ≤ 655360 → chunk_count size n ≤ 10
unfolding chunk_count
few-chunks size n is few = let by : (n - 1) / size ≡ (n - 1) / 65536 = ap (λ s. (n - 1) / s) is in omega (arith, by, few)

pub one-chunk : (size n : ℕ) → size ≡ 65536 → n ≤ 65536 → chunk_count size n ≡ 1
unfolding chunk_count
one-chunk size n is few = let by : (n - 1) / size ≡ (n - 1) / 65536 = ap (λ s. (n - 1) / s) is in omega (arith, by, few)

pub whole-chunks : (size n k : ℕ) → size ≡ 65536 → n ≡ k * 65536 → 0 < k → n ≡ chunk_count size n * size
unfolding chunk_count
whole-chunks size n k is many some =
    let by : ((n - 1) / size + 1) * size ≡ ((n - 1) / 65536 + 1) * 65536 = ap (λ s. ((n - 1) / s + 1) * s) is in
    omega (arith, by, many, some)
