use Rattle.std.proofs.Common.{ap}
use Rattle.folder_tests.proofs.Known.{closed_kept, closed_tells}
use Rattle.folder_tests.proofs.memory.MemoryFolderFolder.close.Goals as goal

pub invariant_of-self : goal.invariant_of-self
invariant_of-self c = record {
  sound = closed_kept _ _ _ _ _ _ _ c.closed-entry.ensures c.tell.ensures.told (ap (λ (v : _). v.items) c.tell.ensures.taken)
      c.args.self.now.sound;
}

pub returns-clause-closed : goal.returns-clause-closed
returns-clause-closed c = closed_tells _ _ _ _ _ c.closed-entry.ensures c.tell.ensures.told
