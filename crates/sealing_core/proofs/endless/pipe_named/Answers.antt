use Rattle.std.proofs.Common.{arith, refl, ◌+◌, ◌-◌, ◌*◌, ◌∙◌, ℕ, List, Option, ap, sym, subst}
use Rattle.container_core.specs.Container.{size_in}
use Rattle.io_core.specs.Streams.{Appends, AppendsFront, LacksSome}
use Rattle.sealing_core.specs.Round.{IsInHand}
use Rattle.sealing_core.proofs.MayLemmas.{may_header, may_stream}
use Rattle.sealing_core.proofs.RoundLemmas.{read_none, rounds_counts}
use Rattle.sealing_core.proofs.StreamLemmas.{piped_as, piped_header, piped_none, piped_of}
use Rattle.sealing_core.proofs.endless.pipe_named.Goals as goal

pub put_all-requires : goal.put_all-requires
put_all-requires g c = record { may = may_header _ _ c.args.key.now c.args.header.now _ c.bytes.ensures.bytes c.requires.may }

pub through-requires-clause-may : goal.through-requires-clause-may
through-requires-clause-may g c κs within =
    let n = c.requires.named in
    let put = c.in_default-put_all.ensures in
    may_stream _ _ _ _ _ _ _ _ _ c.bytes.ensures.bytes n.0 n.1 put.same put.ok c.requires.may

pub returns-in_default : goal.returns-in_default
returns-in_default g c = record { piped = λ most limit. piped_none _ _ _ _ _ _ _ }

pub returns-in-Err : goal.returns-in-Err
returns-in-Err g c = record {
  piped = λ most limit. piped_header _ _ _ _ _ _ _ _ _
      (subst (λ (l : List ℕ). AppendsFront (g.W.Output.taken c.args.writer.now) (g.W.Output.taken c.put_all.new.output) l) c.bytes.ensures.bytes c.in-Err.ensures.err)
      (subst (λ (l : List ℕ). LacksSome (g.W.Output.taken c.args.writer.now) (g.W.Output.taken c.put_all.new.output) l) c.bytes.ensures.bytes c.in-Err.ensures.short)
      c.in-Err.ensures.count;
}

pub through-requires-clause-read : goal.through-requires-clause-read
through-requires-clause-read g c κs within =
    let fresh = c.in-Ok.ensures.going in
    let plan = c.args.plan in
    read_none _ _ _ _ _ plan c.in-Ok.round
    (subst (λ (l : Option (List ℕ)). IsInHand g.N.Naming.each g.N.Naming.key g.N.Naming.header g.N.Naming.told l plan.limit 0 c.in-Ok.round)
    (sym c.requires.named.2) (c.in-Ok.ensures.hand g.N.Naming.each g.N.Naming.key g.N.Naming.header g.N.Naming.told plan.limit c.requires.plan.0.limit.0))
    fresh.2 fresh.3 fresh.1

pub returns : goal.returns
returns g c =
    let n = c.requires.named in
    record {
      piped = λ most limit.
          let size = limit ∙ ap (λ (s : ℕ). most * s + 1) (ap size_in n.1) in
          rw c.of_stream.ensures
          (piped_as _ _ _ _ _ _ _ _ _ _ _ _ _ _ _ n.0 n.1 n.2
          (piped_of _ _ most (c.args.plan.limit - 1) _ _ _ _ _ _ _ _ _ _ _ (omega (arith, size))
          (subst (λ (l : List ℕ). Appends (g.W.Output.taken c.args.writer.now) (g.W.Output.taken c.put_all.new.output) l) (c.bytes.ensures.bytes ∙ n.1) c.in_default-put_all.ensures.ok)
          (rounds_counts _ _ _ _ _ _ _ _ _ _ _ _ _ _ _ _ _ refl refl c.in_default-put_all.ensures.count c.through.ensures.sealed)));
    }
