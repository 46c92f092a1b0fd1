-- Which marks can be of one file, and how many lines a witness can have.
use Rattle.std.specs.Prelude.{◌≡◌, ◌≤◌, ◌*◌, ◌+◌, ℕ, Option, None, Some}
use Rattle.system_ledger.specs.declared.witness.FileMark.{FileMark}
use Rattle.system_ledger.specs.declared.witness.Seen.{Seen}

-- Files of one inode are one if they were created at one time. If a time is unknown, their devices decide.
abbrev pub AreOneBy : Option ℕ → Option ℕ → Type 0 → Type 0
AreOneBy (Some born) (Some time) devices = born ≡ time
AreOneBy (Some born) None devices = devices
AreOneBy None _ devices = devices

pub record Fits (mark other : FileMark) : Type 0 where
  pub inode : mark.inode ≡ other.inode
  pub birth : AreOneBy mark.born other.born (mark.device ≡ other.device)

-- how many lines a renewed witness has, by how many it had and its number for the key and device
abbrev pub line_count : ℕ → Option ℕ → ℕ
line_count lines (Some next) = lines
line_count lines None = 1 + lines

-- Each line has at most 181 bytes, so what is renewed has at most 16 MiB.
abbrev pub HasRoom : Seen → Type 0
HasRoom seen = line_count seen.lines seen.next * 181 ≤ 16_777_216
