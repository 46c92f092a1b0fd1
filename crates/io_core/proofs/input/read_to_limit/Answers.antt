use Rattle.std.proofs.Common.{◌++◌, take, arith, rules}
use Rattle.std.proofs.lemmas.Grind.{common_steps}
use Rattle.std.proofs.KnownBytes.{Consumes-trans}
use Rattle.io_core.proofs.ReadLemmas.{filled_front, length_more}
use Rattle.io_core.proofs.input.read_to_limit.Goals as goal

pub returns-then-n-size-clause-bytes : goal.returns-then-n-size-clause-bytes
returns-then-n-size-clause-bytes g c =
    filled_front _ _ c.fill.new.buffer _ _ _ _ _ (grind (arith, common_steps)) (grind (arith, common_steps)) c.truncate.ensures.items c.in-Ok-fill.ensures.bytes

pub loop-window-init : goal.loop-window-init
loop-window-init g c = (
  grind (arith, common_steps),
  filled_front _ _ c.fill.new.buffer _ _ _ _ _ (grind (arith, common_steps)) (grind (arith, common_steps)) c.truncate.ensures.items c.in-Ok-fill.ensures.bytes,
  search rules,
)

pub returns-then-is_err-clause-err : goal.returns-then-is_err-clause-err
returns-then-is_err-clause-err g c =
    let bytes = c.loop-window.bytes.items in
    let read = c.in-Ok-read.ensures in
    (bytes ++ take c.in-Ok-read.n c.read.new.buffer, Consumes-trans _ _ _ _ _ c.loop-window.invariant.1 read.bytes.0, length_more bytes c.read.new.buffer c.in-Ok-read.n _ read.bound.0 (grind (arith, common_steps)))
