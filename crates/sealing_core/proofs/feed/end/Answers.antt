use Rattle.std.proofs.Common.{arith, refl, ◌≡◌, ◌-◌, ◌*◌, ◌++◌, ℕ, List, ap, ◌∙◌, sym, subst, take}
use Rattle.io_core.specs.Streams.{Appends, AppendsFront, LacksSome}
use Rattle.container_core.proofs.OpeningLemmas.{some_size}
use Rattle.sealing_core.specs.Intake.{HasRead}
use Rattle.output_core.specs.Bounds.{Admits}
use Rattle.sealing_core.specs.Order.{front_at, MayGoOn}
use Rattle.sealing_core.specs.Pieces.{block}
use Rattle.sealing_core.proofs.ChunkLemmas.{cut_last, written_last}
use Rattle.sealing_core.proofs.MayLemmas.{may_last}
use Rattle.sealing_core.proofs.RoundLemmas.{last_at, last_part, not_ended, rounds_end, rounds_long, rounds_write}
use Rattle.sealing_core.proofs.feed.end.Goals as goal

pub returns-then-round : goal.returns-then-round
returns-then-round g c = record {
  sealed = λ left taken failures limit group put some held handed rounds written.
      let going = not_ended _ _ _ _ _ held.read c.if-round.true in
      rounds_long _ _ _ _ _ _ _ _ limit group put _ _ _ _ c.args.round.now some (some_size g.N.Naming.header) c.args.context.now.fits.0 held going c.if-round.true (handed.0 going) (rounds going) written refl refl;
}

pub write_part-requires : goal.write_part-requires
write_part-requires g c =
    let key = g.N.Naming.key in
    let header = g.N.Naming.header in
    let front = c.args.context.now.front.now in
    let bound = g.W.Output.bound c.args.writer.now in
    let taken = g.W.Output.taken c.args.writer.now in
    let round = c.seal_last.new.self in
    let ended = c.requires.closed c.if-round.false in
    let seal = c.seal_last.ensures in
    let hand = c.requires.hand in
    let part = last_at _ _ _ _ _ _ hand.2 c.args.round.now round hand.3 ended seal.same.0 seal.sealed seal.last in
    let may = subst (λ i. MayGoOn g.N.Naming.each front key header g.N.Naming.told bound taken (i.blocks - 1)) (sym seal.same.0) (c.requires.may ended) in
    record {
      may = subst (λ (l : List ℕ). Admits bound taken (front_at front (round.intake.blocks - 1) ++ take round.filled l)) (sym c.deref.ensures.value)
          (may_last _ front key header _ bound taken (round.intake.blocks - 1) _ c.args.context.now.fits.0 part may);
    }

pub returns-in-Ok : goal.returns-in-Ok
returns-in-Ok g c = record {
  sealed = λ left taken failures limit group put some held handed rounds written.
      let header = g.N.Naming.header in
      let front = c.args.context.now.front.now in
      let round = c.seal_last.new.self in
      let ended = c.requires.closed c.if-round.false in
      let seal = c.seal_last.ensures in
      let part = last_part _ _ _ _ _ _ group put c.args.round.now round held handed ended seal.same.0 seal.sealed seal.last in
      let number : round.intake.blocks - 1 ≡ put = let p = part.1 in omega arith in
      let grown = subst (λ (n : ℕ). Appends (g.W.Output.taken c.args.writer.now) (g.W.Output.taken c.write_part.new.writer) (front_at front n ++ take round.filled round.last.items)) number
      (subst (λ (l : List ℕ). Appends (g.W.Output.taken c.args.writer.now) (g.W.Output.taken c.write_part.new.writer) (front_at front (round.intake.blocks - 1) ++ take round.filled l))
      c.deref.ensures.value c.in-Ok.ensures.ok) in
      rounds_end g.N.Naming.each front g.N.Naming.key header g.N.Naming.told left taken _ limit (group * g.N.Naming.each) _ _ _ _ round.intake
      (subst (HasRead (block g.N.Naming.each header) limit g.N.Naming.told left) (sym seal.same.0) held.read) (ap (λ i. i.ended) seal.same.0 ∙ ended)
      (written_last _ front g.N.Naming.key header g.N.Naming.told taken _ _ put _ (some_size header) c.args.context.now.fits.0 part.0 written grown) refl c.in-Ok.ensures.count;
}

pub returns-in-Err : goal.returns-in-Err
returns-in-Err g c = record {
  sealed = λ left taken failures limit group put some held handed rounds written.
      let header = g.N.Naming.header in
      let front = c.args.context.now.front.now in
      let round = c.seal_last.new.self in
      let ended = c.requires.closed c.if-round.false in
      let seal = c.seal_last.ensures in
      let part = last_part _ _ _ _ _ _ group put c.args.round.now round held handed ended seal.same.0 seal.sealed seal.last in
      let number : round.intake.blocks - 1 ≡ put = let p = part.1 in omega arith in
      let grown = subst (λ (n : ℕ). AppendsFront (g.W.Output.taken c.args.writer.now) (g.W.Output.taken c.write_part.new.writer) (front_at front n ++ take round.filled round.last.items)) number
      (subst (λ (l : List ℕ). AppendsFront (g.W.Output.taken c.args.writer.now) (g.W.Output.taken c.write_part.new.writer) (front_at front (round.intake.blocks - 1) ++ take round.filled l))
      c.deref.ensures.value c.in-Err.ensures.err) in
      let lacks = subst (λ (n : ℕ). LacksSome (g.W.Output.taken c.args.writer.now) (g.W.Output.taken c.write_part.new.writer) (front_at front n ++ take round.filled round.last.items)) number
      (subst (λ (l : List ℕ). LacksSome (g.W.Output.taken c.args.writer.now) (g.W.Output.taken c.write_part.new.writer) (front_at front (round.intake.blocks - 1) ++ take round.filled l))
      c.deref.ensures.value c.in-Err.ensures.short) in
      rounds_write front g.N.Naming.key header g.N.Naming.told left taken _ limit (group * g.N.Naming.each) _ _ _ _ some (held.read.bytes, held.read.consumed, held.read.bound)
      (cut_last _ front g.N.Naming.key header g.N.Naming.told taken _ _ put _ (some_size header) c.args.context.now.fits.0 part.0 written grown lacks) refl c.in-Err.ensures.count;
}
