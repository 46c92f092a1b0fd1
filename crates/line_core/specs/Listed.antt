-- The outputs that lines name, and how containers differ from them. Names are bytes of UTF-8.
use Rattle.std.specs.Prelude.{ℕ, Bool, true, ◌&&◌, nat_eq, if◌then◌else◌, List, [], ◌∷◌, ◌++◌, map, bytes_eq}
use Rattle.std.specs.Prelude.{Option, Some, None, String, string_bytes, codes}
use Rattle.std.specs.declared.alloc.Global.{Global}
use Rattle.std.specs.Fmt.{decimal}
use Rattle.line_core.specs.Json.{number_member, text_member}
use Rattle.line_core.specs.Objects.{head}
use Rattle.line_core.specs.declared.listed.Finding.{Finding}
use Rattle.line_core.specs.declared.listed.Listed.{Listed}
use Rattle.line_core.specs.declared.listed.ListedOutput.{ListedOutput}
use Rattle.line_core.specs.declared.listed.What.{What}
use Rattle.line_core.specs.declared.listed.What.TheVariants.{Missing, OtherNumber, NotListed}

-- what a finding says: of which name, the container's number, and the number in the lines
pub record Said : Type 0 where
  pub what : What
  pub name : List ℕ
  pub number : Option ℕ
  pub listed : Option ℕ

abbrev pub said : Finding → Said
said finding = record {
  what = finding.what;
  name = string_bytes finding.name;
  number = finding.number;
  listed = finding.listed;
}

-- what was found so far, in order
abbrev pub found_of : Listed → List Said
found_of listed = map said listed.found.items

-- an output: its name, the number and the bytes of its line, and whether a container of its name was met
pub record Listing : Type 0 where
  pub name : List ℕ
  pub number : ℕ
  pub bytes : ℕ
  pub is_met : Bool

abbrev pub listing : String Global × ListedOutput → Listing
listing e = record { name = string_bytes e.0; number = e.1.number; bytes = e.1.bytes; is_met = e.1.is_met }

abbrev pub listings : List (String Global × ListedOutput) → List Listing
listings es = map listing es

-- the outputs, in the order of their names
abbrev pub outputs_of : Listed → List Listing
outputs_of listed = listings listed.outputs.entries

-- the number and the bytes of the output of this name, if it is listed
abbrev pub listed_at : List ℕ → List Listing → Option (ℕ × ℕ)
listed_at name [] = None
listed_at name (o ∷ os) = if bytes_eq name o.name then Some (o.number, o.bytes) else listed_at name os

-- the outputs, of which the one of this name is met
abbrev pub with_met : List ℕ → List Listing → List Listing
with_met name [] = []
with_met name (o ∷ os) = if bytes_eq name o.name then record o { is_met = true } ∷ os else o ∷ with_met name os

-- what is found of a container of this name: `good` is the number and the bytes of a good one, `listed` those of its line
abbrev pub judged : List ℕ → Option (ℕ × ℕ) → Option (ℕ × ℕ) → List Said
judged name None listed = []
judged name (Some good) None =
    record { what = NotListed; name = name; number = Some good.0; listed = None } ∷ []
judged name (Some good) (Some line) = if nat_eq good.0 line.0 && nat_eq good.1 line.1 then []
    else record { what = OtherNumber; name = name; number = Some good.0; listed = Some line.0 } ∷ []

-- what is missing: each output that isn't met, in order
abbrev pub missing_of : List Listing → List Said
missing_of [] = []
missing_of (o ∷ os) = if o.is_met then missing_of os
    else record { what = Missing; name = o.name; number = None; listed = Some o.number } ∷ missing_of os

-- how a finding's line begins
abbrev pub line_words : What → List ℕ
line_words Missing = codes "missing "
line_words OtherNumber = codes "other number "
line_words NotListed = codes "not listed "

-- the status of a finding's object
abbrev pub finding_status : What → List ℕ
finding_status Missing = codes "missing"
finding_status OtherNumber = codes "other_number"
finding_status NotListed = codes "not_listed"

-- a member with a number in decimal digits, if there is one
abbrev pub value_member : List ℕ → Option ℕ → List ℕ
value_member name None = []
value_member name (Some value) = number_member name (decimal value)

-- a finding's line, with its line feed
abbrev pub finding_line : Said → List ℕ
finding_line said = line_words said.what ++ said.name ++ codes "\n"

-- how a finding's object begins
unfoldable pub finding_front : Said → List ℕ
finding_front said = head (finding_status said.what) ++ text_member (codes "file") said.name

-- the numbers that are known, of the container and in the lines
unfoldable pub finding_numbers : Said → List ℕ
finding_numbers said = value_member (codes "number") said.number ++ value_member (codes "listed") said.listed

-- a finding's object, with its line feed
abbrev pub finding_object : Said → List ℕ
finding_object said = finding_front said ++ finding_numbers said ++ codes "}\n"
