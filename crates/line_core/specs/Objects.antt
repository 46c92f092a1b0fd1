-- Lines as JSON objects, each ended by a line feed.
use Rattle.std.specs.Prelude.{◌≡◌, ℕ, List, [], ◌++◌, Option, Some, None, codes}
use Rattle.std.specs.Borrow.{Bor}
use Rattle.line_core.specs.declared.message.PrintedFacts.{PrintedFacts}
use Rattle.line_core.specs.declared.message.Message.{Message}
use Rattle.line_core.specs.declared.message.Message.TheVariants.{Sealed, Kept, Opened, Good, Shown, Failed, Held, Legal}
use Rattle.line_core.specs.declared.message.Message.TheVariants.{Malformed, Illegal, Unchecked}
use Rattle.line_core.specs.declared.message.Message.TheVariants.{Unused, Older, NotSealed, Missing}
use Rattle.line_core.specs.Json.{number_member, text_member}
use Rattle.line_core.specs.Labels.{HasSomeLabel}

-- how an object begins: with its status
abbrev pub head : List ℕ → List ℕ
head status = codes "{\"status\":\"" ++ status ++ codes "\""

abbrev pub status_text : Message → List ℕ
status_text (Sealed name number bytes) = codes "sealed"
status_text (Kept name) = codes "kept"
status_text (Opened name bytes) = codes "opened"
status_text (Good name bytes) = codes "good"
status_text (Shown name bytes facts) = codes "good"
status_text (Failed name fault) = codes "failed"
status_text (Held key device ranges given left) = codes "ledger"
status_text (Legal granted sealed void «open» refused) = codes "audit"
status_text (Malformed line) = codes "audit"
status_text (Illegal line) = codes "audit"
status_text (Unchecked name key bytes facts) = codes "unchecked"
status_text (Unused key) = codes "ledger"
status_text (Older name) = codes "older"
status_text (NotSealed name) = codes "not_sealed"
status_text (Missing number) = codes "missing"

-- what a line is about: its file, its key, its number or its verdict
abbrev pub name_member : Message → List ℕ
name_member (Sealed name number bytes) = text_member (codes "file") name.now
name_member (Kept name) = text_member (codes "file") name.now
name_member (Opened name bytes) = text_member (codes "file") name.now
name_member (Good name bytes) = text_member (codes "file") name.now
name_member (Shown name bytes facts) = text_member (codes "file") name.now
name_member (Failed name fault) = text_member (codes "file") name.now
name_member (Held key device ranges given left) = text_member (codes "key") key.now
name_member (Legal granted sealed void «open» refused) = text_member (codes "verdict") (codes "legal")
name_member (Malformed line) = text_member (codes "verdict") (codes "malformed")
name_member (Illegal line) = text_member (codes "verdict") (codes "illegal")
name_member (Unchecked name key bytes facts) = text_member (codes "file") name.now
name_member (Unused key) = text_member (codes "key") key.now
name_member (Older name) = text_member (codes "file") name.now
name_member (NotSealed name) = text_member (codes "file") name.now
name_member (Missing number) = number_member (codes "number") number.now

-- a member with a string, and one with a number, if there is one
abbrev pub some_text : List ℕ → Option (Bor (List ℕ)) → List ℕ
some_text name None = []
some_text name (Some text) = text_member name text.now

abbrev pub some_number : List ℕ → Option (Bor (List ℕ)) → List ℕ
some_number name None = []
some_number name (Some digits) = number_member name digits.now

-- the bytes and the facts of a container, but for its label
unfoldable pub facts_members : List ℕ → PrintedFacts → List ℕ
facts_members bytes facts = number_member (codes "bytes") bytes ++ number_member (codes "version") facts.version.now
    ++ number_member (codes "chunk") facts.chunk.now ++ number_member (codes "device") facts.device.now
    ++ number_member (codes "number") facts.number.now

-- and with a label, if there is one
pub record HasFacts (bytes : List ℕ) (facts : PrintedFacts) (members : List ℕ) : Type 0 where
  pub label : List ℕ
  pub labelled : HasSomeLabel facts.label label
  pub whole : members ≡ facts_members bytes facts ++ label

-- what a header says, but for its label
unfoldable pub header_members : List ℕ → Option (Bor (List ℕ)) → PrintedFacts → List ℕ
header_members key bytes facts = number_member (codes "version") facts.version.now
    ++ number_member (codes "chunk") facts.chunk.now ++ text_member (codes "key") key
    ++ number_member (codes "device") facts.device.now ++ number_member (codes "number") facts.number.now
    ++ some_number (codes "bytes") bytes

-- and with a label, if there is one
pub record HasHeaderMembers (key : List ℕ) (bytes : Option (Bor (List ℕ))) (facts : PrintedFacts) (members : List ℕ) : Type 0 where
  pub label : List ℕ
  pub labelled : HasSomeLabel facts.label label
  pub whole : members ≡ header_members key bytes facts ++ label

-- the counts of a legal journal
pub record HasTally (granted sealed void left refused members : List ℕ) : Type 0 where
  pub whole : members ≡ number_member (codes "granted") granted ++ number_member (codes "sealed") sealed
      ++ number_member (codes "void") void ++ number_member (codes "open") left ++ number_member (codes "refused") refused

-- the other parts of a line; the device is that of the run
abbrev pub HasNumbers : Message → Option (Bor (List ℕ)) → List ℕ → Type 0
HasNumbers (Sealed name number bytes) by members = members ≡ number_member (codes "number") number.now
    ++ some_number (codes "device") by ++ number_member (codes "bytes") bytes.now
HasNumbers (Kept name) by members = members ≡ []
HasNumbers (Opened name bytes) by members = members ≡ number_member (codes "bytes") bytes.now
HasNumbers (Good name bytes) by members = members ≡ number_member (codes "bytes") bytes.now
HasNumbers (Shown name bytes facts) by members = HasFacts bytes.now facts members
HasNumbers (Failed name fault) by members = members ≡ text_member (codes "fault") fault.now
HasNumbers (Held key device ranges given left) by members = members ≡ number_member (codes "device") device.now
    ++ number_member (codes "ranges") ranges.now ++ number_member (codes "given") given.now
    ++ number_member (codes "left") left.now
HasNumbers (Legal granted sealed void «open» refused) by members =
    HasTally granted.now sealed.now void.now «open».now refused.now members
HasNumbers (Malformed line) by members = members ≡ number_member (codes "line") line.now
HasNumbers (Illegal line) by members = members ≡ number_member (codes "line") line.now
HasNumbers (Unchecked name key bytes facts) by members = HasHeaderMembers key.now bytes facts members
HasNumbers (Unused key) by members = members ≡ number_member (codes "ranges") (codes "0")
    ++ number_member (codes "given") (codes "0")
HasNumbers (Older name) by members = members ≡ []
HasNumbers (NotSealed name) by members = members ≡ []
HasNumbers (Missing number) by members = members ≡ []

-- an object up to the path of its output, if that is known
unfoldable pub front_text : Message → Option (Bor (List ℕ)) → List ℕ
front_text message output = head (status_text message) ++ name_member message ++ some_text (codes "output") output

-- the object of a line
pub record IsObject (message : Message) (device output : Option (Bor (List ℕ))) (text : List ℕ) : Type 0 where
  pub members : List ℕ
  pub numbers : HasNumbers message device members
  pub whole : text ≡ front_text message output ++ members ++ codes "}\n"
