use Rattle.std.proofs.Common.{◌∙◌, false, ap, refl, sym, subst}
use Rattle.sealing_core.specs.Pieces.{IsPart, task_numbers}
use Rattle.sealing_core.proofs.ChunkLemmas.{cut_job, same_number, written_job}
use Rattle.sealing_core.proofs.MayLemmas.{may_turn}
use Rattle.sealing_core.proofs.rounds.write_job.Goals as goal

pub write_part-requires : goal.write_part-requires
write_part-requires g c =
    let p = c.make_piece-piece.result in
    let good = c.make_piece-piece.ensures.piece in
    let number = c.in-Job.number in
    record {
      may = may_turn _ _ _ _ _ _ _ number number p.buffer.items _ c.args.context.now.fits.0 refl c.as_slice.ensures.value
          (subst (λ n. IsPart g.N.Naming.each g.N.Naming.key g.N.Naming.header g.N.Naming.told n false p.buffer.items) c.make_piece-piece.ensures.number good.1)
          (c.requires.may number (ap task_numbers c.in-Job.is));
    }

pub returns-in-Job-clause-written : goal.returns-in-Job-clause-written
returns-in-Job-clause-written g c = λ taken number is was.
    let p = c.make_piece-piece.result in
    let good = c.make_piece-piece.ensures.piece in
    written_job _ c.write_part.result _ _ _ _ _ taken _ _ _ number _ _ c.args.context.now.fits.0 refl (same_number _ _ (sym (ap task_numbers c.in-Job.is) ∙ is)) c.as_slice.ensures.value
    (subst (λ n. IsPart g.N.Naming.each g.N.Naming.key g.N.Naming.header g.N.Naming.told n false p.buffer.items) c.make_piece-piece.ensures.number good.1) was c.write_part.ensures.ok

pub returns-in-Job-clause-begun : goal.returns-in-Job-clause-begun
returns-in-Job-clause-begun g c = λ taken number is was.
    let p = c.make_piece-piece.result in
    let good = c.make_piece-piece.ensures.piece in
    cut_job _ c.write_part.result _ _ _ _ _ taken _ _ _ number _ _ c.args.context.now.fits.0 refl (same_number _ _ (sym (ap task_numbers c.in-Job.is) ∙ is)) c.as_slice.ensures.value
    (subst (λ n. IsPart g.N.Naming.each g.N.Naming.key g.N.Naming.header g.N.Naming.told n false p.buffer.items) c.make_piece-piece.ensures.number good.1) was c.write_part.ensures.err c.write_part.ensures.short
