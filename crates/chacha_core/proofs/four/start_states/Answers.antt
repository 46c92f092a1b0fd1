use Rattle.std.proofs.Common.{◌≡◌, ◌+◌, ◌%◌, ◌^◌, arith, refl}
use Rattle.chacha_core.specs.ChaCha20.{double_rounds}
use Rattle.chacha_core.proofs.LaneLemmas.{below_four}
use Rattle.chacha_core.proofs.four.start_states.Goals as goal

pub returns : goal.returns
unfolding double_rounds
returns c fits =
    let first = c.args.first in
    let e0 : (first + 0) % 2 ^ 32 ≡ first + 0 = omega arith in
    let e1 : (first + 1) % 2 ^ 32 ≡ first + 1 = omega arith in
    let e2 : (first + 2) % 2 ^ 32 ≡ first + 2 = omega arith in
    let e3 : (first + 3) % 2 ^ 32 ≡ first + 3 = omega arith in
    below_four _
    (rw (c.start_state-s.ensures, e0) refl) (rw (c.start_state-s.ensures, e1) refl)
    (rw (c.start_state-s.ensures, e2) refl) (rw (c.start_state-s.ensures, e3) refl)
