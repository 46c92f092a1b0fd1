use Rattle.std.proofs.Common.{rules, sym, subst, arith}
use Rattle.std.proofs.lemmas.Grind.{common_steps}
use Rattle.std.proofs.KnownBytes.{Consumes-trans}
use Rattle.io_core.specs.Streams.{Consumes}
use Rattle.io_core.proofs.ReadLemmas.{filled_more}
use Rattle.io_core.proofs.input.fill.Goals as goal

pub loop-filled-preserved : goal.loop-filled-preserved
loop-filled-preserved g c =
    let before = c.loop-filled.invariant in
    let read = c.in_ok-n.ensures in
    let whole = filled_more c.loop-filled.filled _ c.in_ok-n.n c.loop-filled.buffer c.read.new.buffer before.0 read.bound.0 in
    (grind (arith, common_steps), subst (Consumes _ _) (sym whole) (Consumes-trans _ _ _ _ _ before.1 read.bytes.0), search rules)
