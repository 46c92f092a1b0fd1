use Rattle.std.proofs.Common.{string_bytes}
use Rattle.std.specs.Str.Iter.{chars_rest}
use Rattle.folder_core.proofs.Read.{IsReadUpTo}
use Rattle.folder_core.proofs.quotes.unquote.Given as goal

abbrev pub invariant-loop-c : goal.invariant-loop-c
invariant-loop-c l = IsReadUpTo (string_bytes l.name) (chars_rest l.c-iterator) l.escape l.fn.text
