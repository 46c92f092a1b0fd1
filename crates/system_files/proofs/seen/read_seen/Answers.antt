use Rattle.std.proofs.Common.{◌≡◌, List, ℕ, true, take, drop, refl, sym}
use Rattle.std.proofs.lemmas.Slice.Eq.{bytes_eq-Decides}
use Rattle.std.specs.Str.{bytes_eq}
use Rattle.container_core.specs.Container.{hint_of}
use Rattle.container_core.specs.Opening.{header_fault, header_fault_one, header_fault_two}
use Rattle.system_files.specs.Seen.{fault_one, fault_seen, fault_two}
use Rattle.system_files.proofs.seen.read_seen.Goals as goal

pub same : (key bytes : List ℕ) → hint_of key ≡ take 7 (drop 17 bytes) → header_fault key bytes ≡ fault_seen bytes
unfolding header_fault header_fault_one header_fault_two fault_seen fault_one fault_two
same key bytes e =
    let is : bytes_eq (take 7 (drop 17 bytes)) (hint_of key) ≡ true =
    (bytes_eq-Decides (take 7 (drop 17 bytes)) (hint_of key)).1 (sym e) in
    rw is

pub returns-in-Some-clause-same : goal.returns-in-Some-clause-same
returns-in-Some-clause-same c = λ key e. same key c.args.bytes.now e

pub returns-in-None-clause-same : goal.returns-in-None-clause-same
returns-in-None-clause-same c = λ key e. same key c.args.bytes.now e
