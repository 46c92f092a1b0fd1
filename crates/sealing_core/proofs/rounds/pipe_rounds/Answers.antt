use Rattle.std.proofs.Common.{arith, inr, refl, ◌+◌, ◌*◌, ◌<◌, ◌≤◌, false, ℕ, List, ap, sym}
use Rattle.std.proofs.Math.Nat.{div-le_self}
use Rattle.container_core.specs.Container.{size_in}
use Rattle.sealing_core.specs.Pieces.{block, IsBlock}
use Rattle.sealing_core.specs.Round.{IsPlan}
use Rattle.sealing_core.proofs.StreamLemmas.{rounds_as}
use Rattle.sealing_core.proofs.rounds.pipe_rounds.Goals as goal

plan_is : (each : ℕ) (header : List ℕ) (max_bytes group : ℕ) → IsBlock each header → 0 < group → max_bytes ≤ 1099511627776
    → max_bytes + block each header ≤ 4294967296 * size_in header
    → IsPlan each header (record { limit = max_bytes + 1; group = group; depth = 2 * group; each = each; eager = false })
plan_is each header max_bytes group is some most numbers = record {
  limit = (omega arith, omega arith);
  group = some;
  depth = omega arith;
  rounds = inr (omega arith);
  same = refl;
  fits = is;
  numbers = omega arith;
}

pub rounds_named-requires-clause-plan : goal.rounds_named-requires-clause-plan
rounds_named-requires-clause-plan g c κs within =
    let is = ap (λ (s : ℕ). c.each_of-each.result * s) c.chunk.ensures.value in
    let bytes = c.each_of-each.ensures.bytes in
    let size = c.chunk.ensures.value in
    let least = c.chunk.ensures.least in
    let most = c.requires.max_bytes in
    let fewer = div-le_self c.args.window c.each_of-each.result in
    let window = c.requires.window.1 in
    (plan_is _ _ c.args.max_bytes _ (c.each_of-each.ensures.some, omega arith) c.each_of-each.ensures.groups most (omega arith), omega arith)

pub returns : goal.returns
returns g c = record {
  sealed = rounds_as _ _ _ _ _ _ _ _ _ _ _ _ _ _ _ _ _ _ refl refl refl (omega arith) (sym c.each_of-each.ensures.rounds) c.rounds_named.ensures.sealed;
}
