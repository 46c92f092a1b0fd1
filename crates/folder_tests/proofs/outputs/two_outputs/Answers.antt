use Rattle.folder_tests.proofs.Two.{first_may, second_may}
use Rattle.folder_tests.proofs.outputs.two_outputs.Goals as goal

pub allow_container-requires : goal.allow_container-requires
allow_container-requires c = record {
  may = first_may _ _ _ _ _ _ _ _ c.new-folder.ensures c.in-Ok-create.ensures.created c.in-Ok-create.ensures.place
      c.in-Ok-create-2.ensures.created c.one-shape.ensures;
}

pub allow_container-requires-2 : goal.allow_container-requires-2
allow_container-requires-2 c = record {
  may = second_may _ _ _ _ _ _ _ _ _ _ _ _ _ _ c.new-folder.ensures c.in-Ok-create.ensures.created c.in-Ok-create.ensures.place
      c.in-Ok-create-2.ensures.created c.in-Ok-create-2.ensures.place c.one-shape.ensures c.allow_container.ensures.allowed
      c.write.ensures.same c.in-Ok-finish_or_discard.ensures.finished;
}
