use Rattle.std.proofs.Math.Logic.{∥∥₁_map}
use Rattle.folder_core.proofs.Sound.{cut_sound}
use Rattle.folder_core.proofs.laws.cut_writes_are_sound.Goals as goal

pub returns : goal.returns
returns g c outputs r held bytes front is had may part =
    ∥∥₁_map (g.met.F.Outputs.sound outputs) (λ sound. cut_sound _ _ r held bytes front is had may part sound)
