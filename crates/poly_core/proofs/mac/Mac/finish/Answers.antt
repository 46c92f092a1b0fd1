use Rattle.std.proofs.Common.{◌≡◌, ◌+◌, ◌*◌, ◌%◌, ◌∙◌, arith, ap, sym, ℕ, length, take}
use Rattle.std.proofs.lemmas.List.{length-take-le}
use Rattle.poly_core.specs.Limbs.{value}
use Rattle.poly_core.specs.Poly1305.{prime, block_number}
use Rattle.poly_core.specs.declared.limbs.Limbs.{Limbs}
use Rattle.poly_core.proofs.AbsorbedLemmas.{Absorbed-tag_cut, Absorbed-tag_whole}
use Rattle.poly_core.proofs.SumLemmas.{step-mod}
use Rattle.poly_core.proofs.mac.Mac.finish.Goals as goal
use Rattle.poly_core.proofs.mac.Mac.finish.Goals.{then-filled-gt0, else-filled-gt0}

pub returns : goal.returns
returns c = λ key message held.
    let inside = c.self.inside in
    let before = rw (← c.self.view_is) at held in
    let waits : length (take inside.filled inside.rest)
    ≡ inside.filled = length-take-le inside.filled inside.rest (omega arith) in
    let residue = λ (n : Limbs). value n % prime in
    c.to_le_bytes.ensures ∙ elim c.if-filled-gt0.branch [
      | then-filled-gt0 w ↦
          let sum =
          ap residue w.total-is ∙ w.step-total.ensures.value
          ∙ ap (λ (n : ℕ). ((value inside.sum + n) * value inside.r) % prime) w.cut_block.ensures.value
          ∙ sym (step-mod prime (value inside.sum) (block_number (take inside.filled inside.rest)) (value inside.r)) in
          Absorbed-tag_cut _ key message (value c.if-filled-gt0.total) c.tag_number.result before
          (omega arith) sum c.tag_number.ensures
      | else-filled-gt0 w ↦
          Absorbed-tag_whole _ key message (value c.if-filled-gt0.total) c.tag_number.result before (omega arith)
          (ap residue w.total-is) c.tag_number.ensures
    ]
