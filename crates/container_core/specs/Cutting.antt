-- When the bytes after a header can't be cut into chunks.
use Rattle.std.specs.Prelude.{◌≢◌, ℕ, ◌*◌, ◌<◌, ◌≤◌}
use Rattle.container_core.specs.declared.fault.OpenFault.{OpenFault}
use Rattle.container_core.specs.declared.fault.OpenFault.TheVariants.{TooLong, BadLength}
use Rattle.container_core.specs.Chunks.{body_length, max_chunks}

-- `TooLong`: the body is longer than that of the greatest plaintext in chunks of this size. `BadLength`: it isn't, but
-- no plaintext has a body of this length. No other fault occurs
abbrev pub RefusesCut : ℕ → ℕ → OpenFault → Type 0
RefusesCut size body TooLong = body_length size (max_chunks * size) < body
RefusesCut size body BadLength = (body ≤ body_length size (max_chunks * size))
    × ((plain : ℕ) → body ≢ body_length size plain)
RefusesCut size body _ = ⊥
