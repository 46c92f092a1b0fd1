use Rattle.sealing_core.proofs.BlockLemmas.{last_chunk}
use Rattle.sealing_core.proofs.block.before_last.Goals as goal

pub returns : goal.returns
returns c =
    let is = last_chunk c.args.size c.args.filled c.saturating_sub.result c.requires.size c.saturating_sub.ensures in
    record { begins = is.begins; some = is.some; ends = is.ends; few = is.few; count = is.count; bytes = is.bytes }
