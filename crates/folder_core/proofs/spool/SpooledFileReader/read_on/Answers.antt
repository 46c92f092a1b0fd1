use Rattle.std.proofs.Common.{rules}
use Rattle.folder_core.proofs.Spools.{joined_kept}
use Rattle.folder_core.proofs.spool.SpooledFileReader.read_on.Goals as goal

pub invariant_of-self-in-Err : goal.invariant_of-self-in-Err
invariant_of-self-in-Err g c = record {
  first = λ at all whole. joined_kept _ _ _ all c.in-Err.ensures.bytes (c.args.self.now.first at all whole);
  again = search rules;
  end = search rules;
}
