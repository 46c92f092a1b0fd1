use Rattle.std.proofs.Common.{arith, ◌++◌, ℕ, List, refl, sym, subst}
use Rattle.io_core.specs.Streams.{AppendsFront, LacksSome}
use Rattle.output_core.specs.Bounds.{Admits}
use Rattle.output_core.proofs.BoundLemmas.{admits_front}
use Rattle.sealing_core.proofs.ChunkLemmas.{begun_before, begun_behind, both_err, front_first, lacks_before, lacks_behind, on_err}
use Rattle.sealing_core.proofs.writing.write_part.Goals as goal

pub put_all-requires-2 : goal.put_all-requires-2
put_all-requires-2 g c =
    let first = front_first c.args.front.now c.args.number (omega arith) in
    record {
      may = admits_front _ _ c.args.front.now (c.args.front.now ++ c.args.bytes.now)
          (subst (λ (l : List ℕ). Admits (g.W.Output.bound c.args.writer.now) (g.W.Output.taken c.args.writer.now) (l ++ c.args.bytes.now)) first c.requires.may)
          (c.args.bytes.now, refl);
    }

pub returns-in-Err-clause-err : goal.returns-in-Err-clause-err
returns-in-Err-clause-err g c =
    let first = front_first c.args.front.now c.args.number (omega arith) in
    subst (λ (l : List ℕ). AppendsFront (g.W.Output.taken c.args.writer.now) (g.W.Output.taken c.put_all-2.new.output) (l ++ c.args.bytes.now)) (sym first) (begun_before _ _ c.args.front.now c.args.bytes.now c.in-Err.ensures.err)

pub returns-in-Ok-clause-err : goal.returns-in-Ok-clause-err
returns-in-Ok-clause-err g c =
    let first = front_first c.args.front.now c.args.number (omega arith) in
    on_err c.put_all-in-Ok.result
    (λ begun. subst (λ (l : List ℕ). AppendsFront (g.W.Output.taken c.args.writer.now) (g.W.Output.taken c.put_all-in-Ok.new.output) (l ++ c.args.bytes.now)) (sym first) (begun_behind _ _ _ c.args.front.now c.args.bytes.now c.in-Ok.ensures.ok begun))
    c.put_all-in-Ok.ensures.err

pub returns-in-Err-clause-short : goal.returns-in-Err-clause-short
returns-in-Err-clause-short g c =
    let first = front_first c.args.front.now c.args.number (omega arith) in
    subst (λ (l : List ℕ). LacksSome (g.W.Output.taken c.args.writer.now) (g.W.Output.taken c.put_all-2.new.output) (l ++ c.args.bytes.now)) (sym first) (lacks_before _ _ c.args.front.now c.args.bytes.now c.in-Err.ensures.err c.in-Err.ensures.short)

pub returns-in-Ok-clause-short : goal.returns-in-Ok-clause-short
returns-in-Ok-clause-short g c =
    let first = front_first c.args.front.now c.args.number (omega arith) in
    both_err c.put_all-in-Ok.result
    (λ begun lacks. subst (λ (l : List ℕ). LacksSome (g.W.Output.taken c.args.writer.now) (g.W.Output.taken c.put_all-in-Ok.new.output) (l ++ c.args.bytes.now)) (sym first) (lacks_behind _ _ _ c.args.front.now c.args.bytes.now c.in-Ok.ensures.ok begun lacks))
    c.put_all-in-Ok.ensures.err c.put_all-in-Ok.ensures.short
