use Rattle.std.proofs.Common.{◌≡◌, ◌++◌, map, subst, sym}
use Rattle.command_line.specs.Given.{files_given}
use Rattle.sealer.specs.Names.{named_by}
use Rattle.sealer.specs.Status.{IsOfCommand, IsStatusOver}
use Rattle.sealer.proofs.Statuses.{over_names}
use Rattle.sealer.proofs.over_files.Goals as goal

pub returns-in-Seal : goal.returns-in-Seal
returns-in-Seal g c =
    let (naming, asked, listed, each, all) = c.in-Ok-run_names.ensures.names in
    let named = subst (λ names. map (λ name. name.now) names ≡ named_by naming (files_given c.args.matches.now ++ listed)) (sym c.as_slice-names.ensures.value) all in
    let of = subst
    (λ command. IsStatusOver (IsOfCommand command c.args.matches.now) c.args.matches.now c.seal_as_asked.result.0 (map (λ name. name.now) c.as_slice-names.result.now) (g.O.Write.contents c.args.streams.output.0)
    (g.O.Write.contents c.seal_as_asked.result.1.output.0)) (sym c.in-Seal.is) c.seal_as_asked.ensures.status in
    record { status = over_names (IsOfCommand c.args.command c.args.matches.now) _ _ _ _ naming _ _ listed _ _ c.in-Ok.ensures.text asked each named of }

pub returns-in-Read : goal.returns-in-Read
returns-in-Read g c =
    let (naming, asked, listed, each, all) = c.in-Ok-run_names.ensures.names in
    let named = subst (λ names. map (λ name. name.now) names ≡ named_by naming (files_given c.args.matches.now ++ listed)) (sym c.as_slice-names.ensures.value) all in
    let of = subst
    (λ command. IsStatusOver (IsOfCommand command c.args.matches.now) c.args.matches.now c.open_as_asked.result.0 (map (λ name. name.now) c.as_slice-names.result.now) (g.O.Write.contents c.args.streams.output.0)
    (g.O.Write.contents c.open_as_asked.result.1.output.0)) (sym c.in-Read.is) c.open_as_asked.ensures.status in
    record { status = over_names (IsOfCommand c.args.command c.args.matches.now) _ _ _ _ naming _ _ listed _ _ c.in-Ok.ensures.text asked each named of }
