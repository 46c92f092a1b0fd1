use Rattle.std.proofs.Common.{ℕ, List, length, take, drop, ap, ◌∙◌}
use Rattle.container_core.specs.Container.{header_of}
use Rattle.sealing_core.proofs.PipeLemmas.{hint-header_of, may-container, piped-container}
use Rattle.sealing_core.proofs.piped.run_pipe.Goals as goal

pub pipe-requires-clause-hint : goal.pipe-requires-clause-hint
pipe-requires-clause-hint g c κs within =
    ap (λ (l : List ℕ). take 7 (drop 17 l)) c.of-header.ensures.header
    ∙ hint-header_of c.args.key.now c.prefix.result c.args.shape.now (ap (λ (l : List ℕ). length l) c.prefix.ensures)

pub pipe-requires-clause-may : goal.pipe-requires-clause-may
pipe-requires-clause-may g c κs within =
    may-container c.args.key.now _ c.of-header.result c.args.shape.now _ _
    (c.of-header.ensures.header ∙ ap (header_of c.args.key.now c.args.shape.now) c.prefix.ensures) c.requires.may

pub returns-in-Ok-clause-pipes : goal.returns-in-Ok-clause-pipes
returns-in-Ok-clause-pipes g c =
    piped-container c.args.key.now _ c.of-header.result c.args.shape.now _ _ _ _
    (c.of-header.ensures.header ∙ ap (header_of c.args.key.now c.args.shape.now) c.prefix.ensures) c.in-Ok.ensures.piped

pub returns-in-Err-clause-pipes : goal.returns-in-Err-clause-pipes
returns-in-Err-clause-pipes g c =
    piped-container c.args.key.now _ c.of-header.result c.args.shape.now _ _ _ _
    (c.of-header.ensures.header ∙ ap (header_of c.args.key.now c.args.shape.now) c.prefix.ensures) c.in-Err.ensures.piped
