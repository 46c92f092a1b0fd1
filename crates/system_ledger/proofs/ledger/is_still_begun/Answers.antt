use Rattle.std.proofs.Common.{subst, sym, ap, ◌∙◌, ◌≤◌, length, inl}
use Rattle.std.proofs.lemmas.Bool.{false≢true}
use Rattle.system_ledger.specs.Begun.{HasOnlyBegun}
use Rattle.system_ledger.proofs.Logs.{read_whole}
use Rattle.system_ledger.proofs.ledger.is_still_begun.Goals as goal

pub returns-in-Ok-clause-begun : goal.returns-in-Ok-clause-begun
returns-in-Ok-clause-begun g c begun clean clean' short =
    let log = c.in-Ok-Ok.ensures' in
    let read = c.in-Ok.ensures in
    subst HasOnlyBegun (read_whole _ _ _ _ _ _ log.seen read.seen (log.len (read.clean clean)) c.if-log_bytes-gt-WITHOUT_PAGE.false
    c.if-log_bytes-eq0.false c.read_at.auto.buf (read.read clean)) (c.has_only_begun.ensures.begun.0 begun)

pub returns-in-Ok-clause-refused : goal.returns-in-Ok-clause-refused
returns-in-Ok-clause-refused g c refused = inl (λ clean clean'.
    let log = c.in-Ok-Ok.ensures' in
    let file = c.in-Ok-Ok.ensures in
    let read = c.in-Ok.ensures in
    let same = read_whole _ _ _ _ _ _ log.seen read.seen (log.len (read.clean clean)) c.if-log_bytes-gt-WITHOUT_PAGE.false
    c.if-log_bytes-eq0.false c.read_at.auto.buf (read.read clean) in (
      subst (λ n. n ≤ 1) (file.len clean' ∙ ap length (sym file.seen)) c.if-file_bytes-gt1.false,
      λ begun. false≢true (sym refused ∙ c.has_only_begun.ensures.begun.1 (subst HasOnlyBegun (sym same) begun)),
    ))
