use Rattle.std.proofs.Common.{◌≡◌, ℕ, List, ◌+◌, ◌*◌, ◌/◌, ◌^◌, ◌≤◌, ◌++◌, length, take, drop}
use Rattle.chacha_core.specs.ChaCha20.{chacha20}
use Rattle.chacha_core.specs.Lanes.{UnderWay}
use Rattle.chacha_core.proofs.four.run_groups.Given as goal

abbrev pub invariant-groups : goal.invariant-groups
invariant-groups l = (first : ℕ) (key nonce : List ℕ) → first + length l.fn.text / 64 ≤ 2 ^ 32
    → (first + 4 ≤ 2 ^ 32 → UnderWay 4 0 key nonce first l.fn.start)
    → (l.text ≡ chacha20 key nonce first (take (256 * l.g) l.fn.text) ++ drop (256 * l.g) l.fn.text)
    × (first + 4 * l.g + 4 ≤ 2 ^ 32 → UnderWay 4 0 key nonce (first + 4 * l.g) l.start)
