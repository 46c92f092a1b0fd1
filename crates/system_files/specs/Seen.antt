-- The first fault of a header that shows without a key. The tests are those of `container_core`, less that of the hint.
use Rattle.std.specs.Prelude.{◌≡◌, ◌⊎◌, ⊤, ℕ, ◌==◌, nat_lt, not, List, length, take, slice_index, Option, Some, None}
use Rattle.std.specs.Prelude.{if◌then◌else◌}
use Rattle.std.specs.Str.{bytes_eq}
use Rattle.container_core.specs.declared.fault.OpenFault.{OpenFault}
use Rattle.container_core.specs.declared.fault.OpenFault.TheVariants.{ShortHeader, BadMagic, BadVersion, BadExponent, Read}
use Rattle.command_core.specs.declared.line.FileFault.{FileFault}
use Rattle.command_core.specs.declared.line.FileFault.TheVariants.{CannotOpen, Unopened}
use Rattle.container_core.specs.Container.{magic, is_two, header_length}

-- of a header that isn't of version 2
unfoldable pub fault_one : List ℕ → Option OpenFault
fault_one bytes =
    if nat_lt (length bytes) 24 then Some ShortHeader else
    (if not (bytes_eq (take 8 bytes) magic) then Some BadMagic else
    (if not (slice_index bytes 8 == 1) then Some BadVersion else
    (if not (slice_index bytes 9 == 16) then Some BadExponent else None)))

-- of a header of version 2
unfoldable pub fault_two : List ℕ → Option OpenFault
fault_two bytes =
    if nat_lt (length bytes) 24 then Some ShortHeader else
    (if nat_lt (slice_index bytes 9) 12 then Some BadExponent else
    (if nat_lt 20 (slice_index bytes 9) then Some BadExponent else
    (if nat_lt (length bytes) (header_length bytes) then Some ShortHeader else None)))

unfoldable pub fault_seen : List ℕ → Option OpenFault
fault_seen bytes = if is_two bytes then fault_two bytes else fault_one bytes

-- a fault that looking at a container can have
abbrev pub IsOfLooking : FileFault → Type 0
IsOfLooking CannotOpen = ⊤
IsOfLooking (Unopened fault) = (fault ≡ Read) ⊎ ((bytes : List ℕ) × (fault_seen bytes ≡ Some fault))
IsOfLooking _ = ⊥
