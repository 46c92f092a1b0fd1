use Rattle.folder_tests.proofs.Two.{one_may}
use Rattle.folder_tests.proofs.openings.folder_within.Goals as goal

pub allow_container-requires : goal.allow_container-requires
allow_container-requires c = record {
  may = one_may _ _ _ _ _ _ c.new-folder.ensures c.in-Ok-create.ensures.created c.in-Ok-create.ensures.place c.one-shape.ensures;
}
