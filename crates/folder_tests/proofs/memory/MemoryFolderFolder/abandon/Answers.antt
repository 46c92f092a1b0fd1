use Rattle.folder_core.specs.Record.{GivenUp}
use Rattle.folder_core.proofs.Calls.{abandon_call}
use Rattle.folder_tests.proofs.Known.{given_up}
use Rattle.folder_tests.proofs.memory.MemoryFolderFolder.abandon.Goals as goal

pub invariant_of-self : goal.invariant_of-self
invariant_of-self c = record {
  sound = abandon_call _ _ _ _ c.args.output.place GivenUp c.requires.new
      (given_up _ _ _ _ _ _ _ _ _ _ c.clear.ensures.told c.clear.ensures.record c.clear.ensures.taken c.clear.ensures.failures c.close.ensures.told
      c.close.ensures.closed) c.close.ensures.taken c.args.self.now.sound;
}

pub returns-clause-abandoned : goal.returns-clause-abandoned
returns-clause-abandoned c = given_up _ _ _ _ _ _ _ _ _ _ c.clear.ensures.told c.clear.ensures.record c.clear.ensures.taken c.clear.ensures.failures
    c.close.ensures.told c.close.ensures.closed
