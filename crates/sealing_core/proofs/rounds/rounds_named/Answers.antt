use Rattle.std.proofs.Common.{arith, refl, ◌*◌, ◌∙◌, [], ℕ, List, Option, sym, subst, zero-mul}
use Rattle.std.proofs.KnownBytes.{Consumes-nil}
use Rattle.container_core.proofs.OpeningLemmas.{some_size}
use Rattle.io_core.specs.Streams.{Consumes}
use Rattle.sealing_core.specs.Round.{IsInHand}
use Rattle.sealing_core.proofs.ChunkLemmas.{written_none}
use Rattle.sealing_core.proofs.MayLemmas.{may_as}
use Rattle.sealing_core.proofs.RoundLemmas.{not_ended, rounds_counts, rounds_first, rounds_long, rounds_memory}
use Rattle.sealing_core.proofs.StreamLemmas.{rounds_as}
use Rattle.sealing_core.proofs.rounds.rounds_named.Goals as goal

pub returns-in_default : goal.returns-in_default
returns-in_default g c =
    let n = c.requires.named in
    let plan = c.requires.plan.0 in
    record {
      sealed = rounds_as _ _ _ _ _ _ _ _ _ _ _ _ _ _ _ _ _ _ n.0 n.1 n.2 refl refl
          (rounds_memory _ _ _ _ _ _ c.args.plan.limit (c.args.plan.group * g.N.Naming.each) _ _ _ _ plan.limit.0
          ([], subst (λ (l : Option (List ℕ)). Consumes l (g.R.Source.left c.args.reader.now) []) n.2 (Consumes-nil _), omega arith) refl refl);
    }

pub read_first-requires-clause-hand : goal.read_first-requires-clause-hand
read_first-requires-clause-hand g c =
    subst (λ (l : Option (List ℕ)). IsInHand g.N.Naming.each g.N.Naming.key g.N.Naming.header g.N.Naming.told l c.args.plan.limit 0 c.in-Ok.round) (sym c.requires.named.2)
    (c.in-Ok.ensures.hand g.N.Naming.each g.N.Naming.key g.N.Naming.header g.N.Naming.told c.args.plan.limit c.requires.plan.0.limit.0)

pub returns-in-Err : goal.returns-in-Err
returns-in-Err g c =
    let n = c.requires.named in
    let r = c.in-Err.ensures in
    record {
      sealed = rounds_as _ _ _ _ _ _ _ _ _ _ _ _ _ _ _ _ _ _ n.0 n.1 n.2 refl refl
          (rounds_first _ _ _ _ _ _ c.args.plan.limit (c.args.plan.group * g.N.Naming.each) _ _ _ _ c.in-Err.fault r.fault c.requires.plan.0.limit.0 r.lost r.count refl);
    }

pub returns-then-round : goal.returns-then-round
returns-then-round g c =
    let n = c.requires.named in
    let plan = c.requires.plan.0 in
    let r = c.in_default-read_first.ensures in
    let over = c.if-round.true in
    record {
      sealed = rounds_as _ _ _ _ _ _ _ _ _ _ _ _ _ _ _ _ _ _ n.0 n.1 n.2 refl refl
          (rounds_long _ _ _ _ _ _ _ _ c.args.plan.limit c.args.plan.group 0 _ _ _ _ c.read_first.new.self plan.limit.0 (some_size g.N.Naming.header) plan.fits.0 r.hand
          (not_ended _ _ _ _ _ r.hand.read over) over (r.over over) (0, sym (zero-mul c.args.plan.group), λ some. absurd (omega arith))
          (written_none _ _ _ _ _ _) r.count refl);
    }

pub returns-then-workers-eq1 : goal.returns-then-workers-eq1
returns-then-workers-eq1 g c =
    let n = c.requires.named in
    let r = c.in_default-read_first.ensures in
    record {
      sealed = rounds_as _ _ _ _ _ _ _ _ _ _ _ _ _ _ _ _ _ _ n.0 n.1 n.2 refl refl
          (rounds_counts _ _ _ _ _ _ _ _ _ _ _ _ _ _ _ _ _ (c.bytes.ensures.bytes ∙ n.1) r.count refl
          (c.alone-sealed.ensures.sealed _ (g.R.Source.failures c.read_first.new.reader) c.args.plan.limit c.args.plan.group c.requires.plan.0.limit.0 r.hand));
    }

pub returns : goal.returns
returns g c =
    let n = c.requires.named in
    let r = c.in_default-read_first.ensures in
    record {
      sealed = rounds_as _ _ _ _ _ _ _ _ _ _ _ _ _ _ _ _ _ _ n.0 n.1 n.2 refl refl
          (rounds_counts _ _ _ _ _ _ _ _ _ _ _ _ _ _ _ _ _ (c.bytes.ensures.bytes ∙ n.1) r.count refl c.through-sealed.ensures.sealed);
    }

pub alone-sealed-requires-clause-may : goal.alone-sealed-requires-clause-may
alone-sealed-requires-clause-may g c = let n = c.requires.named in may_as _ _ _ _ _ _ _ _ (sym c.bytes.ensures.bytes) n.0 n.1 c.requires.may

pub through-sealed-requires-clause-may : goal.through-sealed-requires-clause-may
through-sealed-requires-clause-may g c κs within = let n = c.requires.named in may_as _ _ _ _ _ _ _ _ (sym c.bytes.ensures.bytes) n.0 n.1 c.requires.may
