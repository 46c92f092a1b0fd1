use Rattle.std.proofs.Common.{subst, sym}
use Rattle.folder_core.proofs.Calls.{Keeps, fresh_sound}
use Rattle.folder_tests.specs.Memory.{rest_of}
use Rattle.folder_tests.proofs.Known.{sound_by}
use Rattle.folder_tests.proofs.memory.MemoryFolder.unkeyed.Goals as goal

pub invariant_of-folder : goal.invariant_of-folder
invariant_of-folder c = record {
  sound = subst (λ t. Keeps (rest_of c.new-pages.result) t) (sym c.new-pages.ensures.taken)
      (sound_by _ _ _ (fresh_sound _ _ _ c.new-pages.ensures.empty c.new-pages.ensures.idle));
}
