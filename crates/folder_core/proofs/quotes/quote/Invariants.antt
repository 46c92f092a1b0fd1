use Rattle.std.proofs.Common.{length, string_bytes}
use Rattle.folder_core.proofs.Shown.{IsQuotedUpTo}
use Rattle.folder_core.proofs.quotes.quote.Given as goal

abbrev pub invariant-bytes : goal.invariant-bytes
invariant-bytes l = IsQuotedUpTo (string_bytes l.text) l.rest l.name

abbrev pub decreases-bytes : goal.decreases-bytes
decreases-bytes l = length l.rest
