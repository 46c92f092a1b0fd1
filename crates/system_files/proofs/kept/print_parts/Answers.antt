use Rattle.std.proofs.Common.{[], ◌++◌, ◌∷◌, codes}
use Rattle.std.proofs.KnownBytes.{Appends-nil, Appends-trans}
use Rattle.std.proofs.lemmas.Result.{on_err_weaker}
use Rattle.io_core.proofs.WriteLemmas.{on_err}
use Rattle.output_core.proofs.PartLemmas.{begun_within, lacks_within}
use Rattle.system_files.proofs.kept.print_parts.Goals as goal

pub returns-in_err-write_all-clause-err : goal.returns-in_err-write_all-clause-err
returns-in_err-write_all-clause-err g c =
    let word = c.in_err-write_all.ensures in
    on_err _ _ (begun_within _ _ _ [] (codes "kept ") (c.args.name.now ++ 10 ∷ []) (Appends-nil _) word.err)

pub returns-in_err-write_all-clause-short : goal.returns-in_err-write_all-clause-short
returns-in_err-write_all-clause-short g c =
    let word = c.in_err-write_all.ensures in
    on_err _ _ (lacks_within _ _ _ [] (codes "kept ") (c.args.name.now ++ 10 ∷ []) (Appends-nil _) word.err word.short)

pub returns-in_err-write_all-2-clause-err : goal.returns-in_err-write_all-2-clause-err
returns-in_err-write_all-2-clause-err g c =
    let name = c.in_err-write_all-2.ensures in
    on_err _ _ (begun_within _ _ _ (codes "kept ") c.args.name.now (10 ∷ []) c.in_ok-write_all.ensures.ok name.err)

pub returns-in_err-write_all-2-clause-short : goal.returns-in_err-write_all-2-clause-short
returns-in_err-write_all-2-clause-short g c =
    let name = c.in_err-write_all-2.ensures in
    on_err _ _ (lacks_within _ _ _ (codes "kept ") c.args.name.now (10 ∷ []) c.in_ok-write_all.ensures.ok name.err name.short)

pub returns-clause-err : goal.returns-clause-err
returns-clause-err g c =
    let before = Appends-trans _ _ _ (codes "kept ") c.args.name.now c.in_ok-write_all.ensures.ok c.in_ok-write_all-2.ensures.ok in
    on_err_weaker _ (begun_within _ _ _ (codes "kept " ++ c.args.name.now) (10 ∷ []) [] before) c.write_all-3.ensures.err
