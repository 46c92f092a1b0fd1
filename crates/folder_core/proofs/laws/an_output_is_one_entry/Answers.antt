use Rattle.folder_core.proofs.Growth.{puts_out}
use Rattle.folder_core.proofs.laws.an_output_is_one_entry.Goals as goal

pub returns : goal.returns
returns c name content state taken failures place before created ready after idle at new may closes =
    puts_out name content state taken failures place before created ready after idle at new may closes
