use Rattle.std.proofs.Common.{ℕ, List}
use Rattle.chacha_core.specs.Lanes.{UnderWay}
use Rattle.chacha_core.proofs.eight.apply_group.Given as goal

abbrev pub invariant-rounds : goal.invariant-rounds
invariant-rounds l = (first : ℕ) (key nonce : List ℕ) → UnderWay 8 0 key nonce first l.start
    → UnderWay 8 l._round key nonce first l.x
