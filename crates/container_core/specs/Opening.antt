-- Opening: the first fault of a container, or its plaintext.
use Rattle.std.specs.Prelude.{ℕ, ◌+◌, ◌==◌, ◌&&◌, nat_lt, not, Bool, List, [], ◌∷◌, ◌++◌, length, take, drop}
use Rattle.std.specs.Prelude.{slice_index, Option, Some, None, Result, Ok, Err, if◌then◌else◌}
use Rattle.std.specs.Str.{bytes_eq}
use Rattle.container_core.specs.declared.fault.OpenFault.{OpenFault}
use Rattle.container_core.specs.declared.fault.OpenFault.TheVariants.{TooLong, ShortHeader, BadMagic, BadVersion}
use Rattle.container_core.specs.declared.fault.OpenFault.TheVariants.{BadExponent, KeyMismatch, BadLength, Forged}
use Rattle.container_core.specs.Chunks.{container_limit, has_plaintext, most_of, sealed_chunks, chunk_of_one}
use Rattle.container_core.specs.Stream.{is_nil, opened_chunk}
use Rattle.container_core.specs.Container.{magic, hint_of, is_two, header_length, size_in}

-- the first fault of a header that isn't of version 2
unfoldable pub header_fault_one : List ℕ → List ℕ → Option OpenFault
header_fault_one key bytes =
    if nat_lt (length bytes) 24 then Some ShortHeader else
    (if not (bytes_eq (take 8 bytes) magic) then Some BadMagic else
    (if not (slice_index bytes 8 == 1) then Some BadVersion else
    (if not (slice_index bytes 9 == 16) then Some BadExponent else
    (if not (bytes_eq (take 7 (drop 17 bytes)) (hint_of key)) then Some KeyMismatch else None))))

-- the first fault of a header of version 2, whose label has as many bytes as byte 24 says
unfoldable pub header_fault_two : List ℕ → List ℕ → Option OpenFault
header_fault_two key bytes =
    if nat_lt (length bytes) 24 then Some ShortHeader else
    (if nat_lt (slice_index bytes 9) 12 then Some BadExponent else
    (if nat_lt 20 (slice_index bytes 9) then Some BadExponent else
    (if not (bytes_eq (take 7 (drop 17 bytes)) (hint_of key)) then Some KeyMismatch else
    (if nat_lt (length bytes) (header_length bytes) then Some ShortHeader else None))))

-- the first fault of a header
unfoldable pub header_fault : List ℕ → List ℕ → Option OpenFault
header_fault key bytes = if is_two bytes then header_fault_two key bytes else header_fault_one key bytes

-- the first of two faults, the earlier one named first
abbrev pub first_fault : Option OpenFault → Option OpenFault → Option OpenFault
first_fault (Some fault) later = Some fault
first_fault None later = later

-- more bytes than the longest container of a plaintext of up to `most` bytes has
abbrev pub too_long : ℕ → ℕ → ℕ → ℕ → Option OpenFault
too_long header size most bytes =
    if nat_lt (container_limit header size most) bytes then Some TooLong else None

-- no plaintext of up to `most` bytes has a container of `bytes` bytes
abbrev pub bad_length : ℕ → ℕ → ℕ → ℕ → Option OpenFault
bad_length header size most bytes =
    if not (has_plaintext header size (most_of most size) bytes) then Some BadLength else None

-- the first fault that shows before any chunk is opened, if a plaintext may have `most` bytes. In version 2 the header
-- is tested before the length, as it says how long its container may be
unfoldable pub early_fault_two : List ℕ → ℕ → List ℕ → Option OpenFault
early_fault_two key most bytes =
    first_fault (header_fault_two key bytes)
    (first_fault (too_long (header_length bytes) (size_in bytes) most (length bytes))
    (bad_length (header_length bytes) (size_in bytes) most (length bytes)))

-- the same for bytes that don't begin as version 2: the length is tested before the header
unfoldable pub early_fault_one : List ℕ → ℕ → List ℕ → Option OpenFault
early_fault_one key most bytes =
    first_fault (too_long 24 chunk_of_one most (length bytes))
    (first_fault (header_fault_one key bytes) (bad_length 24 chunk_of_one most (length bytes)))

unfoldable pub early_fault : List ℕ → ℕ → List ℕ → Option OpenFault
early_fault key most bytes =
    if is_two bytes then early_fault_two key most bytes else early_fault_one key most bytes

-- how many bytes a container that begins with `bytes` may have, if its plaintext may have `most`
unfoldable pub longest : ℕ → List ℕ → ℕ
longest most bytes =
    if is_two bytes then container_limit (header_length bytes) (size_in bytes) most
    else container_limit 24 chunk_of_one most

-- the plaintext of a chunk, then that of the rest, unless one of them doesn't check
abbrev pub joined : OpenFault → Option (List ℕ) → Result (List ℕ) OpenFault → Result (List ℕ) OpenFault
joined forged None rest = Err forged
joined forged (Some chunk) (Ok rest) = Ok (chunk ++ rest)
joined forged (Some chunk) (Err fault) = Err fault

-- the chunks, the first of which has this number, opened one by one and joined; or the first one that doesn't check
unfoldable pub unsealed : List ℕ → List ℕ → ℕ → List (List ℕ) → Result (List ℕ) OpenFault
unsealed key header number [] = Ok []
unsealed key header number (sealed ∷ rest) =
    joined (Forged number) (opened_chunk key header number (is_nil rest) sealed) (unsealed key header (number + 1) rest)

-- a round opened: sealed chunks, the number of the first, and whether the last of them is the container's last
unfoldable pub unsealed_by : List ℕ → List ℕ → ℕ → Bool → List (List ℕ) → Result (List ℕ) OpenFault
unsealed_by key header number last [] = Ok []
unsealed_by key header number last (sealed ∷ rest) =
    joined (Forged number) (opened_chunk key header number (is_nil rest && last) sealed)
    (unsealed_by key header (number + 1) last rest)

-- this plaintext, then that of what follows, unless the latter is a fault
abbrev pub behind : List ℕ → Result (List ℕ) OpenFault → Result (List ℕ) OpenFault
behind front (Ok rest) = Ok (front ++ rest)
behind front (Err fault) = Err fault

-- the fault if there is one, else the result
abbrev pub unless : Option OpenFault → Result (List ℕ) OpenFault → Result (List ℕ) OpenFault
unless (Some fault) answer = Err fault
unless None answer = answer

-- what opening a container returns, if a plaintext may have `most` bytes: its first fault, or its plaintext
unfoldable pub opening : List ℕ → ℕ → List ℕ → Result (List ℕ) OpenFault
opening key most bytes =
    let header = header_length bytes in
    unless (early_fault key most bytes)
    (unsealed key (take header bytes) 0 (sealed_chunks (size_in bytes) (drop header bytes)))
