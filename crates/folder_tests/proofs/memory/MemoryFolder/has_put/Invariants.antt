use Rattle.std.proofs.Common.{◌≡◌}
use Rattle.folder_tests.specs.Memory.{rest_of}
use Rattle.folder_tests.proofs.memory.MemoryFolder.has_put.Given as goal

abbrev pub invariant-loop-name : goal.invariant-loop-name
invariant-loop-name l = (rest_of l.self.pages ≡ rest_of l.initial.self.pages)
    × (l.self.pages.taken.items ≡ l.initial.self.pages.taken.items)
    × (l.self.pages.failures ≡ l.initial.self.pages.failures)
