use Rattle.folder_tests.proofs.Known.{close_kept, idle_kept, kept_by}
use Rattle.folder_tests.proofs.memory.MemoryFolderOutputs.finish.Goals as goal

pub invariant_of-self : goal.invariant_of-self
invariant_of-self c = record {
  sound = kept_by _ _ _ _ c.may_end.ensures.rest c.may_end.ensures.taken c.args.self.now.sound;
}

pub invariant_of-self-in-Some : goal.invariant_of-self-in-Some
invariant_of-self-in-Some c = record {
  sound = close_kept _ _ _ _ _ _ _ _ _ c.in-Some.is c.close.ensures.told c.close.ensures.closed c.close.ensures.taken
      (kept_by _ _ _ _ c.may_end.ensures.rest c.may_end.ensures.taken c.args.self.now.sound);
}

pub invariant_of-self-in-None : goal.invariant_of-self-in-None
invariant_of-self-in-None c = record {
  sound = idle_kept _ _ _ _ _ _ _ c.in-None.is c.clear.ensures.told c.clear.ensures.record c.clear.ensures.taken
      (kept_by _ _ _ _ c.may_end.ensures.rest c.may_end.ensures.taken c.args.self.now.sound);
}
