use Rattle.std.proofs.Common.{subst, sym}
use Rattle.io_core.proofs.WriteLemmas.{on_err}
use Rattle.io_core.specs.Streams.{AppendsFront, LacksSome}
use Rattle.output_core.proofs.PartLemmas.{begun_within, lacks_within}
use Rattle.system_files.proofs.Printing.{text_around}
use Rattle.system_files.proofs.kept.print_kept.Goals as goal

pub returns-in_err-print_line-clause-err : goal.returns-in_err-print_line-clause-err
returns-in_err-print_line-clause-err g c =
    let line = c.in_err-print_line.ensures in
    on_err _ _ (subst (AppendsFront _ _) (sym (text_around c.args.names.now c.loop-name.name-index _ c.loop-name-test.true))
    (begun_within _ _ _ _ _ _ c.loop-name.invariant.0 line.err))

pub returns-in_err-print_line-clause-short : goal.returns-in_err-print_line-clause-short
returns-in_err-print_line-clause-short g c =
    let line = c.in_err-print_line.ensures in
    on_err _ _ (subst (LacksSome _ _) (sym (text_around c.args.names.now c.loop-name.name-index _ c.loop-name-test.true))
    (lacks_within _ _ _ _ _ _ c.loop-name.invariant.0 line.err line.short))
