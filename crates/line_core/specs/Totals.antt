-- What a run's lines add up to. Counts stop at 2^64 - 1.
use Rattle.std.specs.Prelude.{ℕ, ◌+◌, ◌-◌, ◌^◌, min, Bool, true, false, ◌&&◌, ◌||◌, not, if◌then◌else◌, nat_lt}
use Rattle.std.specs.Prelude.{List, [], ◌∷◌, ◌++◌, length, codes, bytes_eq}
use Rattle.std.specs.Borrow.{Bor}
use Rattle.std.specs.Fmt.{decimal}
use Rattle.std.specs.Str.{all_ascii_digits}
use Rattle.std.specs.Str.Parse.{digits_value, without_leading_plus}
use Rattle.line_core.specs.Json.{number_member}
use Rattle.line_core.specs.Objects.{head}
use Rattle.line_core.specs.declared.listed.What.{What}
use Rattle.line_core.specs.declared.listed.What.TheVariants as what
use Rattle.line_core.specs.declared.message.Message.{Message}
use Rattle.line_core.specs.declared.message.Message.TheVariants.{Sealed, Kept, Opened, Good, Shown, Failed, Held, Legal}
use Rattle.line_core.specs.declared.message.Message.TheVariants.{Malformed, Illegal, Unchecked}
use Rattle.line_core.specs.declared.message.Message.TheVariants.{Unused, Older, NotSealed, Missing}
use Rattle.line_core.specs.declared.totals.Command.{Command}
use Rattle.line_core.specs.declared.totals.Command.TheVariants.{Seal, Pipe, Open, Unpipe, Verify, Show, Ledger, Audit}
use Rattle.line_core.specs.declared.totals.Totals.{Totals}

-- whether a command prints lines of this kind
abbrev pub prints : Command → Message → Bool
prints _ (Failed name fault) = true
prints Seal (Sealed name number bytes) = true
prints Seal (Kept name) = true
prints Pipe (Sealed name number bytes) = true
prints Open (Opened name bytes) = true
prints Open (Kept name) = true
prints Unpipe (Opened name bytes) = true
prints Verify (Good name bytes) = true
prints Verify (Shown name bytes facts) = true
prints Show (Unchecked name key bytes facts) = true
prints Ledger (Held key device ranges given left) = true
prints Ledger (Unused key) = true
prints Ledger (Older name) = true
prints Audit (Legal granted sealed void «open» refused) = true
prints Audit (Malformed line) = true
prints Audit (Illegal line) = true
prints Audit (NotSealed name) = true
prints Audit (Missing number) = true
prints _ _ = false

-- a number of 64 bits in base ten, perhaps after a plus
abbrev pub is_count : List ℕ → Bool
is_count text = nat_lt 0 (length (without_leading_plus text))
    && (all_ascii_digits (without_leading_plus text) && nat_lt (digits_value 10 (without_leading_plus text)) (2 ^ 64))

-- the number that these digits are, or 2^64 - 1, if it is greater
unfoldable pub value_of : List ℕ → ℕ
value_of text = if is_count text then digits_value 10 (without_leading_plus text) else 2 ^ 64 - 1

-- a sum that stops at 2^64 - 1
abbrev pub plus : ℕ → ℕ → ℕ
plus count more = min (count + more) (2 ^ 64 - 1)

-- the totals with one line more of a ledger
abbrev pub with_held : Totals → ℕ → ℕ → Totals
with_held t ranges given = record t { held = plus t.held 1; ranges = plus t.ranges ranges; given = plus t.given given }

-- the totals with one line more
abbrev pub with_line : Totals → Message → Totals
with_line t (Sealed name number bytes) = record t { sealed = plus t.sealed 1; bytes = plus t.bytes (value_of bytes.now) }
with_line t (Kept name) = record t { kept = plus t.kept 1 }
with_line t (Opened name bytes) = record t { opened = plus t.opened 1; bytes = plus t.bytes (value_of bytes.now) }
with_line t (Good name bytes) = record t { good = plus t.good 1; bytes = plus t.bytes (value_of bytes.now) }
with_line t (Shown name bytes facts) = record t { good = plus t.good 1; bytes = plus t.bytes (value_of bytes.now) }
with_line t (Failed name fault) = record t { failed = plus t.failed 1 }
with_line t (Held key device ranges given left) = with_held t (value_of ranges.now) (value_of given.now)
with_line t (Unused key) = with_held t 0 0
with_line t (Legal granted sealed void «open» refused) = record t { legal = plus t.legal 1 }
with_line t (Malformed line) = record t { malformed = plus t.malformed 1 }
with_line t (Illegal line) = record t { illegal = plus t.illegal 1 }
with_line t (Unchecked name key bytes facts) = record t { unchecked = plus t.unchecked 1 }
with_line t (Older name) = record t { older = plus t.older 1 }
with_line t (NotSealed name) = record t { not_sealed = plus t.not_sealed 1 }
with_line t (Missing number) = record t { missing = plus t.missing 1 }

-- the totals with one line more of a comparison
abbrev pub with_finding : Totals → What → Totals
with_finding t what.Missing = record t { missing = plus t.missing 1 }
with_finding t what.OtherNumber = record t { other_number = plus t.other_number 1 }
with_finding t what.NotListed = record t { not_listed = plus t.not_listed 1 }

-- the totals of no lines
abbrev pub no_lines : Totals
no_lines = record {
  sealed = 0;
  kept = 0;
  opened = 0;
  good = 0;
  failed = 0;
  bytes = 0;
  missing = 0;
  other_number = 0;
  not_listed = 0;
  held = 0;
  ranges = 0;
  given = 0;
  legal = 0;
  malformed = 0;
  illegal = 0;
  unchecked = 0;
  older = 0;
  not_sealed = 0;
}

-- a count: its name, whether a command's totals have it, and its value
pub record Count : Type 0 where
  pub name : List ℕ
  pub is_had : Bool
  pub value : ℕ

abbrev pub count_in : Bor (List ℕ) × Bool × ℕ → Count
count_in c = record { name = c.0.now; is_had = c.1; value = c.2 }

abbrev pub seals_files : Command → Bool
seals_files Seal = true
seals_files Pipe = true
seals_files _ = false

abbrev pub opens : Command → Bool
opens Open = true
opens Unpipe = true
opens _ = false

abbrev pub keeps : Command → Bool
keeps Seal = true
keeps Open = true
keeps _ = false

abbrev pub verifies : Command → Bool
verifies Verify = true
verifies _ = false

abbrev pub shows : Command → Bool
shows Show = true
shows _ = false

abbrev pub is_ledger : Command → Bool
is_ledger Ledger = true
is_ledger _ = false

abbrev pub audits : Command → Bool
audits Audit = true
audits _ = false

abbrev pub count : List ℕ → Bool → ℕ → Count
count name is_had value = record { name = name; is_had = is_had; value = value }

-- the counts, in the order of the last line; some only where something is compared
unfoldable pub counts_of : Command → Bool → Totals → List Count
counts_of command compared t =
    count (codes "sealed") (seals_files command) t.sealed
    ∷ count (codes "opened") (opens command) t.opened
    ∷ count (codes "unchecked") (shows command) t.unchecked
    ∷ count (codes "good") (verifies command) t.good
    ∷ count (codes "kept") (keeps command) t.kept
    ∷ count (codes "lines") (is_ledger command) t.held
    ∷ count (codes "ranges") (is_ledger command) t.ranges
    ∷ count (codes "given") (is_ledger command) t.given
    ∷ count (codes "legal") (audits command) t.legal
    ∷ count (codes "malformed") (audits command) t.malformed
    ∷ count (codes "illegal") (audits command) t.illegal
    ∷ count (codes "failed") (compared || not (is_ledger command || audits command)) t.failed
    ∷ count (codes "older") (compared && is_ledger command) t.older
    ∷ count (codes "not sealed") (compared && audits command) t.not_sealed
    ∷ count (codes "missing") (compared && (verifies command || audits command)) t.missing
    ∷ count (codes "other number") (compared && verifies command) t.other_number
    ∷ count (codes "not listed") (compared && verifies command) t.not_listed
    ∷ count (codes "bytes") (not (is_ledger command || (audits command || shows command))) t.bytes ∷ []

-- the name of a member, without spaces
unfoldable pub member_name : List ℕ → List ℕ
member_name name = if bytes_eq name (codes "other number") then codes "other_number"
    else if bytes_eq name (codes "not listed") then codes "not_listed"
    else if bytes_eq name (codes "not sealed") then codes "not_sealed" else name

-- a count: ` N name`, after a comma if it isn't the first, or a member of an object
unfoldable pub count_text : Bool → Bool → List ℕ → ℕ → List ℕ
count_text is_json is_first name value = if is_json then number_member (member_name name) (decimal value)
    else (if is_first then codes " " else codes ", ") ++ decimal value ++ codes " " ++ name

-- those that a command's totals have
abbrev pub counts_text : Bool → Bool → List Count → List ℕ
counts_text is_json is_first [] = []
counts_text is_json is_first (c ∷ cs) = if c.is_had then count_text is_json is_first c.name c.value ++ counts_text is_json false cs
    else counts_text is_json is_first cs

-- what comes before them, and after
abbrev pub totals_front : Bool → List ℕ
totals_front is_json = if is_json then head (codes "total") else codes "total:"

abbrev pub totals_end : Bool → List ℕ
totals_end is_json = if is_json then codes "}\n" else codes "\n"
