use Rattle.std.proofs.Common.{ap}
use Rattle.folder_tests.proofs.Known.{kept_by}
use Rattle.folder_tests.proofs.memory.MemoryFolder.put.Goals as goal

pub invariant_of-self : goal.invariant_of-self
invariant_of-self c = record {
  sound = kept_by _ _ _ _ c.put.ensures.rest (ap (λ (v : _). v.items) c.put.ensures.taken) c.args.self.now.sound;
}
