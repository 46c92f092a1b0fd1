use Rattle.std.proofs.Common.{Ok, Err, rules}
use Rattle.opening_core.proofs.FrontLemmas.{input-answers}
use Rattle.opening_core.proofs.OpeningRounds.{rounds-length}
use Rattle.opening_core.proofs.ReadingLemmas.{header-opened, read-opened}
use Rattle.opening_core.proofs.TakingLemmas.{kept-no_write}
use Rattle.opening_core.proofs.windows.open_rounds.Goals as goal

pub returns-in-Ok-open_body-clause-header : goal.returns-in-Ok-open_body-clause-header
returns-in-Ok-open_body-clause-header g c = header-opened _ c.in-Ok.header _ _ c.in-Ok.ensures.front c.in-Ok.ensures.header

pub returns-in-Ok-open_body-clause-length : goal.returns-in-Ok-open_body-clause-length
returns-in-Ok-open_body-clause-length g c =
    rounds-length c.args.task _ c.in-Ok.header _ _ _ _ _ _ (Ok c.in-Ok-open_body.bytes) c.in-Ok.ensures.front c.in-Ok.ensures.header
    c.in-Ok-open_body.ensures.opened

pub returns-in-Ok-open_body-clause-taken : goal.returns-in-Ok-open_body-clause-taken
returns-in-Ok-open_body-clause-taken g c = λ opening.
    let opened = c.in-Ok-open_body.ensures.opened in
    (opened.0, opened.3 opening, opened.1, input-answers _ c.in-Ok.header _ _ _ _ (Ok opened.0) c.in-Ok.ensures.front c.in-Ok.ensures.header opened.2)

pub returns-in-Ok-open_body-clause-reads : goal.returns-in-Ok-open_body-clause-reads
returns-in-Ok-open_body-clause-reads g c =
    let opened = c.in-Ok-open_body.ensures.opened in
    read-opened _ c.in-Ok.header _ _ _ _ _ _ (Ok (c.in-Ok.header, c.in-Ok-open_body.bytes)) c.in-Ok.ensures.front c.in-Ok.ensures.faultless c.in-Ok.ensures.header
    (opened.0, opened.2) tt c.in-Ok-open_body.ensures.bound (λ write. cc) (search rules)

pub returns-in-Err-open_body-clause-reads : goal.returns-in-Err-open_body-clause-reads
returns-in-Err-open_body-clause-reads g c =
    read-opened _ c.in-Ok.header _ _ _ _ _ _ (Err c.in-Err-open_body.fault) c.in-Ok.ensures.front c.in-Ok.ensures.faultless c.in-Ok.ensures.header
    tt c.in-Err-open_body.ensures.refused c.in-Err-open_body.ensures.bound
    (kept-no_write _ c.in-Err-open_body.fault c.requires.kept c.in-Err-open_body.ensures.no_write) (search rules)

pub returns-in-Err-open_body-clause-no_write : goal.returns-in-Err-open_body-clause-no_write
returns-in-Err-open_body-clause-no_write g c =
    kept-no_write _ c.in-Err-open_body.fault c.requires.kept c.in-Err-open_body.ensures.no_write
