use Rattle.std.proofs.Math.Logic.{∥∥₁_map}
use Rattle.folder_core.proofs.Sound.{whole_sound}
use Rattle.folder_core.proofs.laws.accounts_are_sound.Goals as goal

pub returns : goal.returns
returns g c outputs r held is had =
    ∥∥₁_map (g.met.F.Outputs.sound outputs) (λ sound. whole_sound _ _ r held is had sound)
