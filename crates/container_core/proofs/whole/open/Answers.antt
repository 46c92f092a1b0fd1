use Rattle.std.proofs.Common.{◌≡◌, ℕ, List, ◌++◌, inr, Result, Ok, Err, refl, ap, sym, ◌∙◌}
use Rattle.container_core.specs.declared.fault.OpenFault.{OpenFault}
use Rattle.container_core.specs.declared.fault.OpenFault.TheVariants.{OutOfMemory}
use Rattle.container_core.proofs.FaultLemmas.{opening-early, opening-unsealed}
use Rattle.container_core.proofs.OpeningLemmas.{container-opening}
use Rattle.container_core.proofs.LawLemmas.{early-no_memory, most_of-sealed, opened_plaintext, no_fault}
use Rattle.std.proofs.Common.{◌≤◌, length, drop, take, length-take-le, arith}
use Rattle.container_core.specs.Container.{header_length}
use Rattle.container_core.proofs.whole.open.Goals as goal

-- the body after the header
rest_of : (bytes header body : List ℕ) → header ≡ take (header_length bytes) bytes → header_length bytes ≤ length bytes
    → body ≡ drop (length header) bytes → body ≡ drop (header_length bytes) bytes
rest_of bytes header body is enough back =
    back ∙ ap (λ (n : ℕ). drop n bytes) (ap (λ (l : List ℕ). length l) is ∙ length-take-le (header_length bytes) bytes enough)

same_fault : {A : Type 0} (result : Result A OpenFault) (x y : OpenFault) → result ≡ Err x → result ≡ Err y → x ≡ y
same_fault result x y e f = cc

-- a fault that shows early
pub returns-in-Err-clause-fault : goal.returns-in-Err-clause-fault
returns-in-Err-clause-fault c = inr (opening-early c.args.key.now 4503599626321920 c.args.bytes.now c.in-Err.fault c.in-Err.ensures.fault)

pub returns-in-Err-clause-memory : goal.returns-in-Err-clause-memory
returns-in-Err-clause-memory c = λ memory.
    absurd (early-no_memory c.args.key.now c.args.bytes.now 4503599626321920 c.in-Err.fault c.in-Err.ensures.fault (same_fault _ c.in-Err.fault OutOfMemory refl memory))

pub returns-in-Err-clause-opens : goal.returns-in-Err-clause-opens
returns-in-Err-clause-opens c = λ plain few lawful same.
    absurd (no_fault c.args.key.now c.args.bytes.now plain 4503599626321920 c.in-Err.fault
    (opening-early c.args.key.now 4503599626321920 c.args.bytes.now c.in-Err.fault c.in-Err.ensures.fault) few lawful same)

pub returns-in-Err-clause-opens_sealed : goal.returns-in-Err-clause-opens_sealed
returns-in-Err-clause-opens_sealed c = λ plain few lawful same.
    returns-in-Err-clause-opens c plain (most_of-sealed c.args.bytes.now 4503599626321920 (length plain) lawful few (omega (arith, few))) lawful same

-- the chunks open
pub returns-in-Ok-open_into-clause-plaintext : goal.returns-in-Ok-open_into-clause-plaintext
returns-in-Ok-open_into-clause-plaintext c =
    let (plain, opens, grown) = c.in-Ok-open_into.ensures.plaintext in
    let items : c.open_into.new.out.items ≡ plain = grown ∙ ap (λ (o : List ℕ). o ++ plain) c.in-Ok-with_capacity.ensures.items in
    opening-unsealed c.args.key.now 4503599626321920 c.args.bytes.now c.in-Ok.begun.0 c.split_at.result.1.now
    c.in-Ok.begun.1.size c.in-Ok.ensures.faultless c.in-Ok.ensures.header c.in-Ok.ensures.named (rest_of c.args.bytes.now c.in-Ok.begun.0 c.split_at.result.1.now c.in-Ok.ensures.header
    (omega (arith, c.in-Ok.ensures.cut)) (c.split_at.ensures.back ∙ ap (λ (l : List ℕ). drop (length l) c.args.bytes.now) c.bytes.ensures.bytes)) ∙ opens ∙ ap (λ (o : List ℕ). Ok o) (sym items)

pub returns-in-Ok-open_into-clause-sealed : goal.returns-in-Ok-open_into-clause-sealed
returns-in-Ok-open_into-clause-sealed c =
    let (few, lawful, same) = container-opening c.args.key.now c.args.bytes.now c.open_into.new.out.items 4503599626321920 (returns-in-Ok-open_into-clause-plaintext c) in
    sym same

pub returns-in-Ok-open_into-clause-shape : goal.returns-in-Ok-open_into-clause-shape
returns-in-Ok-open_into-clause-shape c =
    let (few, lawful, same) = container-opening c.args.key.now c.args.bytes.now c.open_into.new.out.items 4503599626321920 (returns-in-Ok-open_into-clause-plaintext c) in
    lawful

pub returns-in-Ok-open_into-clause-opens : goal.returns-in-Ok-open_into-clause-opens
returns-in-Ok-open_into-clause-opens c = λ plain few lawful same.
    opened_plaintext c.args.key.now c.args.bytes.now c.open_into.new.out.items plain 4503599626321920 (returns-in-Ok-open_into-clause-plaintext c) few lawful same

pub returns-in-Ok-open_into-clause-opens_sealed : goal.returns-in-Ok-open_into-clause-opens_sealed
returns-in-Ok-open_into-clause-opens_sealed c = λ plain few lawful same.
    returns-in-Ok-open_into-clause-opens c plain (most_of-sealed c.args.bytes.now 4503599626321920 (length plain) lawful few (omega (arith, few))) lawful same

-- a chunk doesn't check
pub returns-in-Err-open_into-clause-fault : goal.returns-in-Err-open_into-clause-fault
returns-in-Err-open_into-clause-fault c =
    inr (opening-unsealed c.args.key.now 4503599626321920 c.args.bytes.now c.in-Ok.begun.0 c.split_at.result.1.now
    c.in-Ok.begun.1.size c.in-Ok.ensures.faultless c.in-Ok.ensures.header c.in-Ok.ensures.named (rest_of c.args.bytes.now c.in-Ok.begun.0 c.split_at.result.1.now c.in-Ok.ensures.header
    (omega (arith, c.in-Ok.ensures.cut)) (c.split_at.ensures.back ∙ ap (λ (l : List ℕ). drop (length l) c.args.bytes.now) c.bytes.ensures.bytes)) ∙ c.in-Err-open_into.ensures.forged)

pub returns-in-Err-open_into-clause-opens : goal.returns-in-Err-open_into-clause-opens
returns-in-Err-open_into-clause-opens c = λ plain few lawful same.
    absurd (no_fault c.args.key.now c.args.bytes.now plain 4503599626321920 c.in-Err-open_into.fault
    (opening-unsealed c.args.key.now 4503599626321920 c.args.bytes.now c.in-Ok.begun.0 c.split_at.result.1.now
    c.in-Ok.begun.1.size c.in-Ok.ensures.faultless c.in-Ok.ensures.header c.in-Ok.ensures.named (rest_of c.args.bytes.now c.in-Ok.begun.0 c.split_at.result.1.now c.in-Ok.ensures.header
    (omega (arith, c.in-Ok.ensures.cut)) (c.split_at.ensures.back ∙ ap (λ (l : List ℕ). drop (length l) c.args.bytes.now) c.bytes.ensures.bytes)) ∙ c.in-Err-open_into.ensures.forged) few lawful same)

pub returns-in-Err-open_into-clause-opens_sealed : goal.returns-in-Err-open_into-clause-opens_sealed
returns-in-Err-open_into-clause-opens_sealed c = λ plain few lawful same.
    returns-in-Err-open_into-clause-opens c plain (most_of-sealed c.args.bytes.now 4503599626321920 (length plain) lawful few (omega (arith, few))) lawful same
