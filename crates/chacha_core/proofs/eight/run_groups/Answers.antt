use Rattle.std.proofs.Common.{◌≡◌, ℕ, ◌+◌, ◌*◌, ◌/◌, ◌++◌, ◌∙◌, arith, refl, ap, sym, subst, length, take, drop}
use Rattle.chacha_core.specs.ChaCha20.{chacha20, xor_from}
use Rattle.chacha_core.specs.Lanes.{UnderWay}
use Rattle.chacha_core.proofs.StreamLemmas.{chacha20_step}
use Rattle.chacha_core.proofs.eight.run_groups.Goals as goal

pub groups-init : goal.groups-init
unfolding chacha20 xor_from
groups-init c first key nonce room began =
    let here : first + 8 * 0 ≡ first = omega arith in (
      refl,
      λ fits. subst (λ (n : ℕ). UnderWay 8 0 key nonce n c.args.start.now) (sym here) (began (omega arith)),
    )

pub groups-preserved : goal.groups-preserved
groups-preserved c first key nonce room start =
    let g = c.groups.g in
    let old = c.args.text.now in
    let at : ℕ = first + 8 * g in
    let next : 512 * g + 512 ≡ 512 * (g + 1) = omega arith in
    let on : at + 8 ≡ first + 8 * (g + 1) = omega arith in
    let so_far = c.groups.invariant first key nonce room start in
    let began = so_far.1 (omega arith) in (
      c.apply_group.ensures at key nonce began
          ∙ chacha20_step key nonce first (8 * g) (512 * g) 512 old c.groups.text (omega arith) (omega arith)
          so_far.0
          ∙ ap (λ (n : ℕ). chacha20 key nonce first (take n old) ++ drop n old) next,
      λ fits.
          subst (λ (n : ℕ). UnderWay 8 0 key nonce n c.next_states-next.result) on
          (c.next_states-next.ensures at key nonce (omega arith) began),
    )

pub returns : goal.returns
returns c first key nonce room start =
    let old = c.args.text.now in
    let done : c.groups.g ≡ length old / 512 = omega arith in
    (c.groups.invariant first key nonce room start).0
    ∙ ap (λ (n : ℕ). chacha20 key nonce first (take (512 * n) old) ++ drop (512 * n) old) done
