use Rattle.std.proofs.Common.{◌≡◌, ℕ, List, ◌+◌, ◌∙◌, arith, ap, slice_index, slice_set}
use Rattle.std.proofs.lemmas.Simd.{get_or-replicate}
use Rattle.chacha_core.specs.ChaCha20.{double_rounds, add32}
use Rattle.chacha_core.specs.Lanes.{lane_at, lane}
use Rattle.chacha_core.proofs.four.next_states.Goals as goal

pub returns : goal.returns
unfolding double_rounds
returns c first key nonce fits before j h =
    let x = c.args.x in
    let counter : lane_at x 12 j ≡ first + j = ap (λ (zs : List ℕ). slice_index zs 12) (before j h) in
    let more : add32 (lane_at x 12 j) 4 ≡ first + 4 + j = omega (arith, counter) in
    ap (slice_set (lane j x) 12) (c.add.ensures j h ∙ ap (add32 (lane_at x 12 j)) (get_or-replicate 4 j 4 0 h) ∙ more)
    ∙ ap (λ (zs : List ℕ). slice_set zs 12 (first + 4 + j)) (before j h)
