-- The lines of the commands, by their parts.
use Rattle.std.specs.Prelude.{◌≡◌, ◌≢◌, ℕ, List, [], ◌++◌, Option, Some, None, true, codes}
use Rattle.std.specs.Borrow.{Bor}
use Rattle.std.specs.Char.{is_ascii_digit}
use Rattle.std.specs.List.{list_all}
use Rattle.line_core.specs.declared.message.PrintedFacts.{PrintedFacts}
use Rattle.line_core.specs.declared.message.Message.{Message}
use Rattle.line_core.specs.declared.message.Message.TheVariants.{Sealed, Kept, Opened, Good, Shown, Failed, Held, Legal}
use Rattle.line_core.specs.declared.message.Message.TheVariants.{Malformed, Illegal, Unchecked}
use Rattle.line_core.specs.declared.message.Message.TheVariants.{Unused, Older, NotSealed, Missing}

-- digits of base ten, at least one
abbrev pub AreDigits : List ℕ → Type 0
AreDigits text = (text ≢ []) × (list_all is_ascii_digit text ≡ true)

-- a label, if there is one
abbrev pub printed_label : Option (Bor (List ℕ)) → List ℕ
printed_label None = []
printed_label (Some label) = codes " label \"" ++ label.now ++ codes "\""

-- the facts, from the version on
abbrev pub printed_facts : PrintedFacts → List ℕ
printed_facts facts =
    facts.version.now ++ codes " chunk " ++ facts.chunk.now ++ codes " device " ++ facts.device.now ++ codes " file "
    ++ facts.number.now ++ printed_label facts.label

-- how many bytes, or a question mark
abbrev pub printed_bytes : Option (Bor (List ℕ)) → List ℕ
printed_bytes None = codes "?"
printed_bytes (Some bytes) = bytes.now

-- a line, without the line feed at its end
abbrev pub message_text : Message → List ℕ
message_text (Sealed name number bytes) =
    codes "sealed " ++ name.now ++ codes " file " ++ number.now ++ codes " bytes " ++ bytes.now
message_text (Kept name) = codes "kept " ++ name.now
message_text (Opened name bytes) = codes "opened " ++ name.now ++ codes " bytes " ++ bytes.now
message_text (Good name bytes) = codes "good " ++ name.now ++ codes " bytes " ++ bytes.now
message_text (Shown name bytes facts) =
    codes "good " ++ name.now ++ codes " bytes " ++ bytes.now ++ codes "\n  version " ++ printed_facts facts
message_text (Failed name fault) = codes "failed " ++ name.now ++ codes ": " ++ fault.now
message_text (Held key device ranges given left) =
    codes "key " ++ key.now ++ codes " device " ++ device.now ++ codes " ranges " ++ ranges.now ++ codes " given "
    ++ given.now ++ codes " left " ++ left.now
message_text (Legal granted sealed void «open» refused) =
    codes "legal: " ++ granted.now ++ codes " granted, " ++ sealed.now ++ codes " sealed, " ++ void.now
    ++ codes " void, " ++ «open».now ++ codes " open, " ++ refused.now ++ codes " refused"
message_text (Malformed line) = codes "malformed line " ++ line.now
message_text (Illegal line) = codes "illegal line " ++ line.now
message_text (Unchecked name key bytes facts) =
    codes "unchecked " ++ name.now ++ codes " version " ++ facts.version.now ++ codes " chunk " ++ facts.chunk.now
    ++ codes " key " ++ key.now ++ codes " device " ++ facts.device.now ++ codes " file " ++ facts.number.now
    ++ codes " bytes " ++ printed_bytes bytes ++ printed_label facts.label
message_text (Unused key) = codes "key " ++ key.now ++ codes " no ranges"
message_text (Older name) = codes "ledger: older than " ++ name.now
message_text (NotSealed name) = codes "not sealed " ++ name.now
message_text (Missing number) = codes "missing file " ++ number.now
