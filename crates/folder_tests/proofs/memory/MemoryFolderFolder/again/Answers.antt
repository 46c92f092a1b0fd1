use Rattle.std.proofs.Common.{ap}
use Rattle.folder_core.specs.Record.{Repeated, Unrepeated}
use Rattle.folder_core.proofs.Calls.{event_call}
use Rattle.folder_tests.proofs.Known.{tells_becomes}
use Rattle.folder_tests.proofs.memory.MemoryFolderFolder.again.Goals as goal

pub invariant_of-self : goal.invariant_of-self
invariant_of-self c = record {
  sound = event_call (Unrepeated c.args.name.now) _ _ _ _
      (tells_becomes _ _ _ _ c.unrepeated-entry.ensures c.tell.ensures.told) (ap (λ (v : _). v.items) c.tell.ensures.taken)
      c.args.self.now.sound;
}

pub invariant_of-self-2 : goal.invariant_of-self-2
invariant_of-self-2 c = record {
  sound = event_call (Repeated c.args.name.now c.as_slice.result.now) _ _ _ _
      (tells_becomes _ _ _ _ c.repeated-entry.ensures c.tell-2.ensures.told) (ap (λ (v : _). v.items) c.tell-2.ensures.taken)
      c.args.self.now.sound;
}
