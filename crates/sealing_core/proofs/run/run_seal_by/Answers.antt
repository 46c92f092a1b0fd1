use Rattle.std.proofs.Common.{ℕ, List, length, take, drop, ap, ◌∙◌}
use Rattle.container_core.specs.Container.{header_of}
use Rattle.sealing_core.proofs.PipeLemmas.{hint-header_of, may-container, rounds-container, rounds-read}
use Rattle.sealing_core.proofs.run.run_seal_by.Goals as goal

pub pipe_rounds-requires-clause-hint : goal.pipe_rounds-requires-clause-hint
pipe_rounds-requires-clause-hint g c κs within =
    ap (λ (l : List ℕ). take 7 (drop 17 l)) c.of-header.ensures.header
    ∙ hint-header_of c.args.key.now c.prefix.result c.args.shape.now (ap (λ (l : List ℕ). length l) c.prefix.ensures)

pub pipe_rounds-requires-clause-may : goal.pipe_rounds-requires-clause-may
pipe_rounds-requires-clause-may g c κs within =
    may-container c.args.key.now _ c.of-header.result c.args.shape.now _ _
    (c.of-header.ensures.header ∙ ap (header_of c.args.key.now c.args.shape.now) c.prefix.ensures) c.requires.may

pub returns-in-Ok-clause-reads : goal.returns-in-Ok-clause-reads
returns-in-Ok-clause-reads g c = rounds-read c.args.key.now c.of-header.result _ _ _ _ _ c.in-Ok.ensures.sealed

pub returns-in-Ok-clause-writes : goal.returns-in-Ok-clause-writes
returns-in-Ok-clause-writes g c =
    rounds-container c.args.key.now _ c.of-header.result c.args.shape.now _ _ _ _ _
    (c.of-header.ensures.header ∙ ap (header_of c.args.key.now c.args.shape.now) c.prefix.ensures) c.in-Ok.ensures.sealed

pub returns-in-Err-clause-reads : goal.returns-in-Err-clause-reads
returns-in-Err-clause-reads g c = rounds-read c.args.key.now c.of-header.result _ _ _ _ _ c.in-Err.ensures.sealed

pub returns-in-Err-clause-writes : goal.returns-in-Err-clause-writes
returns-in-Err-clause-writes g c =
    rounds-container c.args.key.now _ c.of-header.result c.args.shape.now _ _ _ _ _
    (c.of-header.ensures.header ∙ ap (header_of c.args.key.now c.args.shape.now) c.prefix.ensures) c.in-Err.ensures.sealed
