use Rattle.std.proofs.Common.{take}
use Rattle.std.specs.Fmt.{HasWritten, IsPlainFormatter}
use Rattle.system_files.specs.Shown.{hex_text}
use Rattle.system_files.proofs.shown.write_hex.Given as goal

abbrev pub invariant-bytes : goal.invariant-bytes
invariant-bytes g l =
    IsPlainFormatter l.initial.f → HasWritten g.W.Write.write_str_gives l.initial.f (hex_text (take l.at l.fn.bytes))
    l.f
