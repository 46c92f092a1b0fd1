-- The files so far were prepared.
use Rattle.std.proofs.Common.{◌≡◌, ◌≤◌, length, map, take, flat_map, All}
use Rattle.std.specs.VecDeque.{deque_len, deque_capacity}
use Rattle.folder_core.specs.Changes.{IsIdle}
use Rattle.sealer_core.specs.Group.{HavePrepared, IsPrepared, name_of, read_of, under_in}
use Rattle.sealer_core.proofs.prepare.prepare_group.Given as goal

abbrev pub invariant-loop-name : goal.invariant-loop-name
invariant-loop-name g l = record {
  count : deque_len l.files ≡ l.name-index;
  room : length l.names ≤ deque_capacity l.files;
  names : map name_of l.files.items ≡ map (λ name. name.now) (take l.name-index l.names);
  prepared : All IsPrepared l.files.items;
  waits : HavePrepared g.F.Handle.Place.at (under_in l.context) l.files.items (map (λ job. job.items) l.jobs.items) (g.F.Outputs.rest l.initial.folder) (g.F.Outputs.rest l.folder);
  idle : IsIdle (g.F.Outputs.rest l.folder);
  short : All (λ job. length job.items ≤ 1099511627776) l.jobs.items;
  read : map (λ job. length job.items) l.jobs.items ≡ flat_map read_of l.files.items;
}
