use Rattle.std.proofs.Common.{[], ap, refl}
use Rattle.folder_core.specs.Record.{Created, Refused}
use Rattle.folder_core.specs.Changes.{new_output}
use Rattle.folder_core.specs.declared.fault.FolderFault.TheVariants.{Exists}
use Rattle.folder_core.proofs.Calls.{entry_call, event_call}
use Rattle.folder_tests.proofs.Known.{tells_becomes}
use Rattle.folder_tests.proofs.memory.MemoryFolderFolder.create.Goals as goal

pub invariant_of-self : goal.invariant_of-self
invariant_of-self c = record {
  sound = event_call (Refused c.args.name.now Exists) _ _ _ _
      (tells_becomes _ _ _ _ c.refused-entry.ensures c.tell.ensures.told) (ap (λ (v : _). v.items) c.tell.ensures.taken)
      c.args.self.now.sound;
}

pub invariant_of-self-2 : goal.invariant_of-self-2
invariant_of-self-2 c = record {
  sound = entry_call (Created (new_output c.args.name.now)) _ _ _ _ refl (λ under l. (tt, ([], refl))) (λ number. refl)
      (tells_becomes _ _ _ _ c.created-entry.ensures c.tell-2.ensures.told)
      (ap (λ (v : _). v.items) c.tell-2.ensures.taken) c.args.self.now.sound;
}
