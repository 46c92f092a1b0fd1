use Rattle.std.proofs.Common.{refl, ap, ◌∙◌, ◌≡◌, arith, add-one, List, ℕ}
use Rattle.chacha_core.specs.ChaCha20.{double_rounds, block_words, add_states}
use Rattle.chacha_core.proofs.state.block_words.Goals as goal

pub rounds-init : goal.rounds-init
unfolding double_rounds
rounds-init c = refl

pub rounds-preserved : goal.rounds-preserved
unfolding double_rounds
rounds-preserved c =
    rw (c.diagonal_rounds-words.ensures, c.column_rounds.ensures, c.rounds.invariant, add-one) refl

pub returns : goal.returns
unfolding block_words
returns c =
    let done : c.rounds._round ≡ 10 = omega arith in
    c.add_states.ensures ∙ ap (λ (x : List ℕ). add_states x c.args.state.now) (rw done at c.rounds.invariant)
