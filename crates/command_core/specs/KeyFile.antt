-- Key files.
use Rattle.std.specs.Prelude.{◌≡◌, ◌⊎◌, ℕ, List, [], ◌∷◌, take, drop, Bool, true, false, Result, Ok, Err}
use Rattle.hex.specs.Hex.{decode_sized}
use Rattle.command_core.specs.declared.key_file.KeyFault.{KeyFault}
use Rattle.command_core.specs.declared.key_file.KeyFault.TheVariants.{CannotOpen, Read, NotKeyFile}

-- what may follow the digits: nothing, one line feed, or one carriage return and one line feed
abbrev pub IsKeyEnd : List ℕ → Type 0
IsKeyEnd end = (end ≡ []) ⊎ (end ≡ 10 ∷ []) ⊎ (end ≡ 13 ∷ 10 ∷ [])

-- the content of a key file: 64 hex digits of either case, which are the key's 32 bytes, and an end
abbrev pub IsKeyText : List ℕ → List ℕ → Type 0
IsKeyText bytes key = (decode_sized (take 64 bytes) 32 ≡ Ok key) × IsKeyEnd (drop 64 bytes)

-- whether the reader failed
abbrev pub key_read_failed : {A : Type 0} → Result A KeyFault → Bool
key_read_failed (Ok key) = false
key_read_failed (Err CannotOpen) = false
key_read_failed (Err Read) = true
key_read_failed (Err NotKeyFile) = false
