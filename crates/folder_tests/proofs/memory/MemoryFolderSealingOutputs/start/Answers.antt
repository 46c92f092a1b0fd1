use Rattle.std.proofs.Common.{ap}
use Rattle.folder_tests.proofs.Known.{started_kept}
use Rattle.folder_tests.proofs.memory.MemoryFolderSealingOutputs.start.Goals as goal

pub invariant_of-self : goal.invariant_of-self
invariant_of-self g c = record {
  sound = started_kept _ _ _ _ _ _ c.requires.unstarted c.start.ensures.started
      (ap (λ (v : _). v.items) c.start.ensures.taken) c.args.self.now.sound;
}
