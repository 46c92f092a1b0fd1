-- The output, followed by STREAM of the remaining chunks, is the container; and there is room for it.
use Rattle.std.proofs.Common.{◌≡◌, ◌≤◌, ◌++◌, length, drop, vec_capacity}
use Rattle.container_core.specs.Chunks.{chunks}
use Rattle.container_core.specs.Shape.{size_of}
use Rattle.container_core.specs.Stream.{stream}
use Rattle.container_core.specs.Container.{container}
use Rattle.container_core.proofs.whole.seal_into.Given as goal

abbrev pub invariant-loop-number : goal.invariant-loop-number
invariant-loop-number l = record {
  left : l.out.items ++ stream l.key l.header l.number (drop l.number (chunks (size_of l.shape) l.plain)) ≡ l.fn.out.items ++ container l.key l.shape l.fn.prefix l.plain;
  room : length (l.fn.out.items ++ container l.key l.shape l.fn.prefix l.plain) ≤ vec_capacity l.out;
  capacity : vec_capacity l.fn.out ≤ vec_capacity l.out;
}
