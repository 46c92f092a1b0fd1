-- Devices, ranges of file numbers, and the prefix of a number (NIST SP 800-38D, 8.2.1, deterministic construction).
use Rattle.std.specs.Prelude.{ℕ, ◌+◌, ◌<◌, ◌≤◌, List, ◌++◌}
use Rattle.std.specs.Int.{bytes_high_first}

-- the greatest device number that fits in 3 bytes
abbrev pub most_device : ℕ
most_device = 16777215

-- the greatest size of a range
abbrev pub most_size : ℕ
most_size = 65535

-- numbers are below this, so they fit in 4 bytes
abbrev pub number_limit : ℕ
number_limit = 4294967296

-- the numbers of a range: lo to lo + size - 1 of a device
pub record Numbers : Type 0 where
  pub device : ℕ
  pub lo : ℕ
  pub size : ℕ

abbrev pub range_of : ℕ → ℕ → ℕ → Numbers
range_of device lo size = record { device = device; lo = lo; size = size }

-- a device of 3 bytes, and 1 to 65,535 numbers of 4 bytes each
pub record IsLawfulRange (range : Numbers) : Type 0 where
  pub device : range.device ≤ most_device
  pub some : 0 < range.size
  pub few : range.size ≤ most_size
  pub end : range.lo + range.size ≤ number_limit

-- the prefix of a number: the device in 3 big-endian bytes, then the number in 4
abbrev pub prefix_of : ℕ → ℕ → List ℕ
prefix_of device number = bytes_high_first 3 device ++ bytes_high_first 4 number
