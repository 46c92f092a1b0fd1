use Rattle.std.proofs.Common.{refl}
use Rattle.system_files.proofs.Inputs.{at_ok}
use Rattle.system_files.proofs.input.FileInputFileReader.TheImpl.Goals as goal

pub again-tells : goal.again-tells
again-tells g c = record { again = at_ok c.result; whole = refl }
