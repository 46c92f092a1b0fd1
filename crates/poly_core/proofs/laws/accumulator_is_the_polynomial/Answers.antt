use Rattle.std.proofs.Common.{ℕ, ◌+◌, ◌%◌, ◌^◌, ◌∙◌, length, ap, sym, arith}
use Rattle.std.specs.Int.{w128, to_le_bytes}
use Rattle.poly_core.specs.Poly1305.{prime, key_r, key_s, block_numbers, block_count, poly1305}
use Rattle.poly_core.proofs.SumLemmas.{accumulator-polynomial}
use Rattle.poly_core.proofs.laws.accumulator_is_the_polynomial.Goals as goal

pub returns-clause-sum : goal.returns-clause-sum
returns-clause-sum c r numbers = accumulator-polynomial r 0 numbers ∙ ap (λ (n : ℕ). n % prime) (omega arith)

pub returns-clause-tag : goal.returns-clause-tag
unfolding poly1305
returns-clause-tag c key message =
    let numbers = block_numbers message (block_count (length message)) in
    let ends = accumulator-polynomial (key_r key) 0 numbers ∙ ap (λ (n : ℕ). n % prime) (omega arith) in
    ap (λ (n : ℕ). to_le_bytes w128 ((n + key_s key) % 2 ^ 128)) (sym ends)
