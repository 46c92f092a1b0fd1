-- The chunks from `left` on are sealed, and those before are unchanged.
use Rattle.std.proofs.Common.{◌≡◌, ◌+◌, ◌-◌, ◌*◌, ◌≤◌, length, take, drop}
use Rattle.container_core.specs.Chunks.{chunks}
use Rattle.container_core.specs.Stream.{stream_by}
use Rattle.sealing_core.proofs.block.seal_block.Given as goal

abbrev pub invariant-chunks : goal.invariant-chunks
invariant-chunks g l = record {
  long : length l.text ≡ length l.fn.text;
  few : l.left ≤ l.before;
  within : l.left * l.size ≤ l.before * l.size;
  plain : take (l.left * l.size) l.text ≡ take (l.left * l.size) l.fn.text;
  sealed : take (l.before * l.place + l.n + 16 - l.left * l.place) (drop (l.left * l.place) l.text)
      ≡ stream_by l.key l.header (l.first + l.left) l.last (chunks l.size (drop (l.left * l.size) (take l.filled l.fn.text)));
}

abbrev pub decreases-chunks : goal.decreases-chunks
decreases-chunks g l = l.left
