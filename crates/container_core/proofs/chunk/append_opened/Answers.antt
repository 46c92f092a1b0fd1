use Rattle.std.proofs.Common.{◌≡◌, ◌++◌, take-append-drop, arith}
use Rattle.std.proofs.lemmas.Grind.{common_steps}
use Rattle.container_core.proofs.chunk.append_opened.Goals as goal

pub returns-then-open_chunk-clause-opened : goal.returns-then-open_chunk-clause-opened
returns-then-open_chunk-clause-opened c =
    let whole : c.split_at.result.0.now ++ c.split_at.result.1.now ≡ c.args.sealed.now =
    rw (c.split_at.ensures.front, c.split_at.ensures.back) (take-append-drop _ _) in
    (c.open_chunk.new.text, grind (arith, common_steps), grind (arith, common_steps))
