use Rattle.std.proofs.Common.{arith, inl, refl, ◌≡◌, ◌+◌, ◌*◌, ◌<◌, ◌≤◌, ℕ, List, ap, true}
use Rattle.std.proofs.Math.Nat.{mul-le-mul_right}
use Rattle.container_core.specs.Container.{size_in}
use Rattle.sealing_core.specs.Round.{IsPlan}
use Rattle.sealing_core.proofs.endless.pipe.Goals as goal

plan_is : (header : List ℕ) (max_chunks size depth : ℕ) → size ≡ size_in header → 4096 ≤ size → size ≤ 1048576 → max_chunks ≤ 4294967295 → 0 < depth
    → IsPlan 1 header (record { limit = max_chunks * size + 1; group = 1; depth = depth; each = 1; eager = true })
plan_is header max_chunks size depth is least most few some =
    let bytes : max_chunks * size ≤ 4294967295 * size = mul-le-mul_right size few in
    record {
      limit = (omega arith, omega arith);
      group = omega arith;
      depth = omega arith;
      rounds = inl refl;
      same = refl;
      fits = (omega arith, omega arith);
      numbers = omega arith;
    }

pub pipe_named-requires-clause-plan : goal.pipe_named-requires-clause-plan
pipe_named-requires-clause-plan g c κs within =
    let few = c.ranges.max_chunks in
    let deep = c.requires.depth.1 in
    (plan_is c.args.header.now c.args.max_chunks c.chunk.result c.args.depth c.chunk.ensures.value c.chunk.ensures.least c.chunk.ensures.most (omega arith) c.requires.depth.0, omega arith)

pub returns : goal.returns
returns g c = record { piped = c.pipe_named.ensures.piped c.args.max_chunks (ap (λ (s : ℕ). c.args.max_chunks * s + 1) c.chunk.ensures.value) }
