use Rattle.std.proofs.Common.{List, ◌≡◌, ◌+◌, ◌*◌, ◌%◌, ◌∙◌, ◌++◌, arith, refl, sym, ap, ℕ, length, take}
use Rattle.std.proofs.lemmas.List.{length-take-le}
use Rattle.poly_core.specs.Absorbed.{Progress}
use Rattle.poly_core.specs.Limbs.{value}
use Rattle.poly_core.specs.Poly1305.{prime, block_number}
use Rattle.poly_core.proofs.AbsorbedLemmas.{Absorbed-short, Absorbed-filled, rest_written}
use Rattle.poly_core.proofs.SumLemmas.{step-mod}
use Rattle.poly_core.proofs.mac.Mac.take_in.Goals as goal

pub returns-then-end-lt-BLOCK-clause-absorbed : goal.returns-then-end-lt-BLOCK-clause-absorbed
returns-then-end-lt-BLOCK-clause-absorbed c = λ key message held.
    let inside = c.self.inside in
    let before = rw (← c.self.view_is) at held in
    let waits = length-take-le inside.filled inside.rest (omega arith) in
    Absorbed-short _ _ key message c.args.piece.now before refl refl refl
    (rest_written inside.rest c.args.piece.now c.copy_from_slice.new.self _ inside.filled _
    (omega arith) c.copy_from_slice.ensures.after refl)
    (omega arith)

pub returns-else-end-lt-BLOCK-clause-absorbed : goal.returns-else-end-lt-BLOCK-clause-absorbed
returns-else-end-lt-BLOCK-clause-absorbed c = λ key message held.
    let inside = c.self.inside in
    let before = rw (← c.self.view_is) at held in
    let waits = length-take-le inside.filled inside.rest (omega arith) in
    let same = ap (λ (p : Progress). length p.rest) c.self.view_is in
    let end : 16 ≡ inside.filled + length c.args.piece.now = omega arith in
    let written =
    rest_written inside.rest c.args.piece.now c.copy_from_slice.new.self _ inside.filled 16
    (omega arith) c.copy_from_slice.ensures.after end in
    let number = c.block_at.ensures.value ∙ ap block_number written in
    let sum =
    c.step-self-inside.ensures.value
    ∙ ap (λ (n : ℕ). ((value inside.sum + n) * value inside.r) % prime) number
    ∙ sym (step-mod prime (value inside.sum) (block_number (take inside.filled inside.rest ++ c.args.piece.now))
    (value inside.r)) in
    Absorbed-filled _ _ key message c.args.piece.now before refl refl sum refl (omega arith)

pub returns-then-end-lt-BLOCK-clause-short : goal.returns-then-end-lt-BLOCK-clause-short
returns-then-end-lt-BLOCK-clause-short c = λ short.
    let inside = c.self.inside in
    let same = ap (λ (p : Progress). p.rest) c.self.view_is in
    rest_written inside.rest c.args.piece.now c.copy_from_slice.new.self _ inside.filled _
    (omega arith) c.copy_from_slice.ensures.after refl
    ∙ ap (λ (zs : List ℕ). zs ++ c.args.piece.now) same
