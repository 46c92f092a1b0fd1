use Rattle.std.proofs.Common.{◌*◌, ◌∙◌, ap}
use Rattle.std.proofs.lemmas.List.{take_rest}
use Rattle.byteorder.specs.Endian.{little_number}
use Rattle.chacha_core.proofs.WordLemmas.{word_at-little}
use Rattle.chacha_core.proofs.state.word_at.Goals as goal

pub returns : goal.returns
returns c =
    c.read_u32.ensures ∙ ap (little_number 4) (take_rest c.args.bytes.now (4 * c.args.i))
    ∙ word_at-little c.args.bytes.now c.args.i
