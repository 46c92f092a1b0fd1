-- What the options of the command line ask for.
use Rattle.std.specs.Prelude.{◌≡◌, ◌≤◌, ◌⊎◌, Bool, true, false, not, ◌+◌, ℕ, List, [], Option, Some, None, codes, bytes_eq}
use Rattle.std.specs.Prelude.{count_by, if◌then◌else◌, option_map, unwrap_or}
use Rattle.std.specs.Bool.{⊤}
use Rattle.std.specs.Borrow.{Bor}
use Rattle.container_core.specs.Shape.{ShapeView, one, two}
use Rattle.clap.specs.declared.parser.matches.ArgMatches.{ArgMatches}
use Rattle.clap.specs.Matches.{first_value, found_of}
use Rattle.command_line.specs.Given.{IsFlag, number_given}
use Rattle.command_line.specs.declared.given.TheConstants.{DEFAULT_WAIT, MAX_WAIT}
use Rattle.command_line.specs.declared.sealing.RunRequest.{RunRequest}
use Rattle.command_line.specs.declared.names.Naming.{Naming}
use Rattle.command_line.specs.declared.names.Naming.TheVariants.{KeepGoing, Quoted, Plain}
use Rattle.command_line.specs.declared.fault.UsageFault.{UsageFault}
use Rattle.command_line.specs.declared.fault.UsageFault.TheVariants.{Missing, NoFiles, ToAndOthers, ToForMany, ToNoFile}
use Rattle.command_line.specs.declared.fault.UsageFault.TheVariants.{OutOfRange, LabelTooLong, InputNeedsName, InputTwice}

-- the shape of the containers to write, from the exponent and the label given: version 1 without both; else version 2,
-- where a missing exponent is 16 and a missing label is empty
abbrev pub shape_asked : Option ℕ → Option (List ℕ) → ShapeView
shape_asked None None = one
shape_asked (Some exponent) None = two exponent []
shape_asked None (Some label) = two 16 label
shape_asked (Some exponent) (Some label) = two exponent label

-- The options ask for this run of `seal` or `pipe`.
pub record IsRunAsked (matches : ArgMatches) (run : RunRequest) : Type 0 where
  pub key : Some run.key.now ≡ first_value (found_of matches) (codes "key")
  pub ledger : Some run.ledger.now ≡ first_value (found_of matches) (codes "ledger")
  pub may_make : IsFlag matches (codes "no-new-ledger") (not run.may_make)
  pub wait : run.wait ≡ unwrap_or (number_given matches (codes "wait")) DEFAULT_WAIT
  pub short_wait : run.wait ≤ MAX_WAIT
  pub device : number_given matches (codes "device") ≡ Some run.device
  pub witness : option_map (λ witness. witness.now) run.witness ≡ first_value (found_of matches) (codes "witness")
  pub new_witness : IsFlag matches (codes "new-witness") run.new_witness
  pub journal : option_map (λ journal. journal.now) run.journal ≡ first_value (found_of matches) (codes "journal")
  pub journal_in : option_map (λ folder. folder.now) run.journal_in ≡ first_value (found_of matches) (codes "journal-in")
  pub one_journal : (run.journal ≡ None) ⊎ (run.journal_in ≡ None)

-- how many of these files are `-`, which is standard input
abbrev pub dashes : List (Bor (List ℕ)) → ℕ
dashes files = count_by (λ file. bytes_eq file.now (codes "-")) files

-- how often standard input is read: once for the list of names, if that is `-`, and once for each such file
abbrev pub inputs_asked : Option (List ℕ) → List (Bor (List ℕ)) → ℕ
inputs_asked None files = dashes files
inputs_asked (Some list) files = (if bytes_eq list (codes "-") then 1 else 0) + dashes files

-- how names are taken, by the options `--keep-going` and `--quote`
abbrev pub naming_of : Bool → Bool → Naming
naming_of true quote = KeepGoing
naming_of false true = Quoted
naming_of false false = Plain

abbrev pub IsNaming : ArgMatches → Naming → Type 0
IsNaming matches naming = (keep : Bool) × (quote : Bool) × IsFlag matches (codes "keep-going") keep
    × (keep ≡ false → IsFlag matches (codes "quote") quote) × (naming ≡ naming_of keep quote)

-- a fault of usage that a request of `open` or `verify` can have
abbrev pub IsOfOpenUsage : UsageFault → Type 0
IsOfOpenUsage Missing = ⊤
IsOfOpenUsage NoFiles = ⊤
IsOfOpenUsage ToAndOthers = ⊤
IsOfOpenUsage ToForMany = ⊤
IsOfOpenUsage ToNoFile = ⊤
IsOfOpenUsage OutOfRange = ⊤
IsOfOpenUsage LabelTooLong = ⊤
IsOfOpenUsage InputNeedsName = ⊤
IsOfOpenUsage InputTwice = ⊤
IsOfOpenUsage _ = ⊥
