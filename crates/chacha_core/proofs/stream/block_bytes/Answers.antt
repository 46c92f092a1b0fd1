use Rattle.std.proofs.Common.{◌*◌, ◌≡◌, arith, sym, ◌∙◌}
use Rattle.std.proofs.lemmas.List.{take_all}
use Rattle.chacha_core.proofs.WordLemmas.{length-word_bytes, row_written}
use Rattle.chacha_core.proofs.stream.block_bytes.Goals as goal

pub rows-preserved : goal.rows-preserved
rows-preserved c =
    row_written c.rows.bytes c.args.words.now c.rows.row c.row_bytes.result (omega arith)
    (omega arith) c.rows.invariant.0 c.row_bytes.ensures c.rows.invariant.1

pub returns : goal.returns
returns c =
    let done : 16 * c.rows.row ≡ 64 = omega arith in
    sym (take_all 64 c.rows.bytes (omega arith)) ∙ rw done at c.rows.invariant.1
    ∙ take_all 64 _ (omega (arith, length-word_bytes c.args.words.now))
