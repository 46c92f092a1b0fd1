use Rattle.std.proofs.Common.{ap}
use Rattle.folder_core.specs.Record.{Read, Unread}
use Rattle.folder_core.proofs.Calls.{event_call}
use Rattle.folder_tests.proofs.Known.{tells_becomes}
use Rattle.folder_tests.proofs.memory.MemoryFolderFolder.open.Goals as goal

pub invariant_of-self : goal.invariant_of-self
invariant_of-self c = record {
  sound = event_call (Read c.args.name.now c.as_slice.result.now) _ _ _ _
      (tells_becomes _ _ _ _ c.read-entry.ensures c.tell.ensures.told) (ap (λ (v : _). v.items) c.tell.ensures.taken)
      c.args.self.now.sound;
}

pub invariant_of-self-in-None : goal.invariant_of-self-in-None
invariant_of-self-in-None c = record {
  sound = event_call (Unread c.args.name.now) _ _ _ _
      (tells_becomes _ _ _ _ c.unread-entry.ensures c.tell-in-None.ensures.told)
      (ap (λ (v : _). v.items) c.tell-in-None.ensures.taken) c.args.self.now.sound;
}
