use Rattle.std.proofs.Common.{rules}
use Rattle.folder_tests.proofs.Files.{past_changes, set_changes}
use Rattle.folder_tests.proofs.pages.hold.Goals as goal

pub returns-in-Some : goal.returns-in-Some
returns-in-Some g c = set_changes _ _ _ c.in-Some.entry.now _ (search rules) c.in-Some.ensures.value c.hold.ensures

pub returns-in_default : goal.returns-in_default
returns-in_default g c = past_changes _ _ _ (search rules)
