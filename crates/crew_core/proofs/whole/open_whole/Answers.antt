use Rattle.std.proofs.Common.{◌≡◌, ◌∙◌, ap, List, ℕ, length, drop, inr, Some, arith}
use Rattle.container_core.specs.declared.TheConstants.{MAX_OPENED}
use Rattle.container_core.specs.declared.fault.OpenFault.TheVariants.{OutOfMemory}
use Rattle.container_core.specs.Opening.{early_fault}
use Rattle.crew_core.proofs.RoundLemmas.{opening-fault, opening-round, rest-behind}
use Rattle.crew_core.proofs.whole.open_whole.Goals as goal

pub returns-in-Err-clause-fault : goal.returns-in-Err-clause-fault
returns-in-Err-clause-fault g c = inr (opening-fault c.args.key.now c.args.container.now MAX_OPENED c.in-Err.fault c.in-Err.ensures.fault)

pub returns-in-Err-clause-memory : goal.returns-in-Err-clause-memory
returns-in-Err-clause-memory g c = λ memory.
    let bytes = c.args.container.now in
    let early : early_fault c.args.key.now MAX_OPENED bytes ≡ Some OutOfMemory = cc (c.in-Err.ensures.fault, memory) in
    absurd (c.opening_faults.ensures c.args.key.now bytes MAX_OPENED OutOfMemory (opening-fault c.args.key.now bytes MAX_OPENED OutOfMemory early))

pub returns-in-Ok-open_in_rounds-clause-plaintext : goal.returns-in-Ok-open_in_rounds-clause-plaintext
returns-in-Ok-open_in_rounds-clause-plaintext g c =
    opening-round c.args.key.now c.args.container.now c.in-Ok.begun.0 c.split_at.result.1.now c.in-Ok.begun.1.size MAX_OPENED _
    c.in-Ok.ensures.faultless c.in-Ok.ensures.header c.in-Ok.ensures.named
    (rest-behind c.args.container.now c.in-Ok.begun.0 c.split_at.result.1.now c.in-Ok.ensures.header (omega (arith, c.in-Ok.ensures.cut))
    (c.split_at.ensures.back ∙ ap (λ (l : List ℕ). drop (length l) c.args.container.now) c.bytes.ensures.bytes))
    (c.rounds_open.ensures.whole c.args.key.now c.in-Ok.begun.0 0) c.in-Ok-open_in_rounds.ensures.opened

pub returns-in-Err-open_in_rounds-clause-fault : goal.returns-in-Err-open_in_rounds-clause-fault
returns-in-Err-open_in_rounds-clause-fault g c = inr
    (opening-round c.args.key.now c.args.container.now c.in-Ok.begun.0 c.split_at.result.1.now c.in-Ok.begun.1.size MAX_OPENED _
    c.in-Ok.ensures.faultless c.in-Ok.ensures.header c.in-Ok.ensures.named
    (rest-behind c.args.container.now c.in-Ok.begun.0 c.split_at.result.1.now c.in-Ok.ensures.header (omega (arith, c.in-Ok.ensures.cut))
    (c.split_at.ensures.back ∙ ap (λ (l : List ℕ). drop (length l) c.args.container.now) c.bytes.ensures.bytes))
    (c.rounds_open.ensures.whole c.args.key.now c.in-Ok.begun.0 0) c.in-Err-open_in_rounds.ensures.refused)
