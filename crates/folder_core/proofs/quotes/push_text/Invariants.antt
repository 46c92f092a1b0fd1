use Rattle.std.proofs.Common.{◌≡◌, ◌++◌, IsUtf8, string_bytes}
use Rattle.std.specs.Str.Iter.{chars_rest}
use Rattle.folder_core.specs.Quotes.{quoted_text}
use Rattle.folder_core.proofs.quotes.push_text.Given as goal

abbrev pub invariant-loop-c : goal.invariant-loop-c
invariant-loop-c l = IsUtf8 (chars_rest l.c-iterator)
    × (string_bytes l.to ++ quoted_text (chars_rest l.c-iterator) ≡ string_bytes l.fn.to ++ quoted_text l.fn.text)
