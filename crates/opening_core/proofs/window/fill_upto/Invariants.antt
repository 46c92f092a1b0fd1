-- The filled bytes were read after what was held, and no read failed.
use Rattle.std.proofs.Common.{◌≡◌, ℕ, ◌≤◌, ◌-◌, ◌++◌, List, take, vec_len, vec_capacity}
use Rattle.io_core.specs.Streams.{Consumes}
use Rattle.opening_core.proofs.window.fill_upto.Given as goal

abbrev pub invariant-filling : goal.invariant-filling
invariant-filling g l = record {
  read : List ℕ;
  consumed : Consumes (g.R.Source.left l.fn.source) (g.R.Source.left l.source) read;
  held : take l.filled l.bytes.items ≡ take l.held l.fn.bytes.items ++ read;
  kept : take l.held l.bytes.items ≡ take l.held l.fn.bytes.items;
  fits : l.held ≤ vec_len l.fn.bytes;
  within : (l.held ≤ l.filled) × (l.filled ≤ l.upto) × (l.filled ≤ vec_len l.bytes);
  room : vec_capacity l.fn.bytes ≤ vec_capacity l.bytes;
  count : g.R.Source.failures l.source ≡ g.R.Source.failures l.fn.source;
}

abbrev pub decreases-filling : goal.decreases-filling
decreases-filling g l = l.upto - l.filled
