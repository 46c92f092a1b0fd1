-- The names so far are split.
use Rattle.std.proofs.Common.{◌≡◌, [], false, map, take}
use Rattle.system_files.specs.Kept.{IsSplit}
use Rattle.system_files.proofs.kept.split_names.Given as goal

abbrev pub invariant-loop-name : goal.invariant-loop-name
invariant-loop-name g l = IsSplit (map (λ name. name.now) (take l.name-index l.names))
    (map (λ name. name.now) l.kept.items) (map (λ name. name.now) l.others.items)
    × (l.skip ≡ false → l.kept.items ≡ [])
