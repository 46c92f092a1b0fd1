use Rattle.std.proofs.Common.{◌≡◌, Bool, true, false, length, map, is_ok, inl, inr, refl, ap, subst}
use Rattle.std.specs.Prelude.{option_map}
use Rattle.folder_core.specs.Changes.{started}
use Rattle.journal_core.specs.declared.terms.Terms.{Terms}
use Rattle.journal_core.specs.Journal.{terms_of}
use Rattle.journal_core.specs.Text.{journal_text}
use Rattle.command_core.specs.Turns.{printed}
use Rattle.sealer_core.specs.Sealing.{HasSealed, IsWritten, sealed_under}
use Rattle.sealer_core.proofs.Started.{stands_in}
use Rattle.sealer_core.proofs.sealing.seal_all.Goals as goal

pub returns-in-Ok-ended-clause-run : goal.returns-in-Ok-ended-clause-run
returns-in-Ok-ended-clause-run g c =
    let ledger = c.in-Ok.opened.0 in
    let range = ledger.terms.range in
    let told = c.work_ledger-told.result.0 in
    let (history, sealed, written) = c.work_ledger-told.ensures.sealed in
    let terms : ledger.terms ≡ terms_of range c.args.options.now.lanes = ap (terms_of range) c.in-Ok.ensures.opened.0 in
    let Written : Terms → Bool → Type 0 = λ t ok. IsWritten g.J.Report.taken (journal_text t history) ok c.args.out.now.journal c.work_ledger-told.new.out.journal in
    let Sealed : Terms → Type 0 = λ t. HasSealed (sealed_under c.args.key.now c.args.options.now.shape.now range.device c.args.options.now.max_bytes) (map (λ name. name.now) c.args.options.now.files.now) t history told
    (printed (g.L.Report.taken c.args.out.now.lines) (g.L.Report.failures c.args.out.now.lines))
    (printed (g.L.Report.taken c.work_ledger-told.new.out.lines) (g.L.Report.failures c.work_ledger-told.new.out.lines))
    (option_map (started c.args.key.now range) (g.F.Outputs.rest c.args.folder.now)) (g.F.Outputs.rest c.work_ledger-told.new.folder) in
    let ok : is_ok c.work_ledger-told.result.1 ≡ true = ap is_ok c.in-Ok-ended.is in
    inr (range, history, told, true, c.in-Ok.ensures.reserved, c.in-Ok.ensures.lawful, c.in-Ok.ensures.witnessed, subst Sealed terms sealed, subst (λ t. Written t true) terms (subst (Written ledger.terms) ok written), refl)

pub returns-in-Err-ended-clause-run : goal.returns-in-Err-ended-clause-run
returns-in-Err-ended-clause-run g c =
    let ledger = c.in-Ok.opened.0 in
    let range = ledger.terms.range in
    let told = c.work_ledger-told.result.0 in
    let (history, sealed, written) = c.work_ledger-told.ensures.sealed in
    let terms : ledger.terms ≡ terms_of range c.args.options.now.lanes = ap (terms_of range) c.in-Ok.ensures.opened.0 in
    let Written : Terms → Bool → Type 0 = λ t ok. IsWritten g.J.Report.taken (journal_text t history) ok c.args.out.now.journal c.work_ledger-told.new.out.journal in
    let Sealed : Terms → Type 0 = λ t. HasSealed (sealed_under c.args.key.now c.args.options.now.shape.now range.device c.args.options.now.max_bytes) (map (λ name. name.now) c.args.options.now.files.now) t history told
    (printed (g.L.Report.taken c.args.out.now.lines) (g.L.Report.failures c.args.out.now.lines))
    (printed (g.L.Report.taken c.work_ledger-told.new.out.lines) (g.L.Report.failures c.work_ledger-told.new.out.lines))
    (option_map (started c.args.key.now range) (g.F.Outputs.rest c.args.folder.now)) (g.F.Outputs.rest c.work_ledger-told.new.folder) in
    let ok : is_ok c.work_ledger-told.result.1 ≡ false = ap is_ok c.in-Err-ended.is in
    inr (range, history, told, false, c.in-Ok.ensures.reserved, c.in-Ok.ensures.lawful, c.in-Ok.ensures.witnessed, subst Sealed terms sealed, subst (λ t. Written t false) terms (subst (Written ledger.terms) ok written), refl)

pub returns-in-Ok-ended-clause-complains : goal.returns-in-Ok-ended-clause-complains
returns-in-Ok-ended-clause-complains g c = inl c.work_ledger-told.ensures.faults

pub returns-in-Err-ended-clause-complains : goal.returns-in-Err-ended-clause-complains
returns-in-Err-ended-clause-complains g c = inr (rw (← c.work_ledger-told.ensures.faults) c.complain-in-Err-ended.ensures)

pub work_ledger-told-requires-clause-stands : goal.work_ledger-told-requires-clause-stands
work_ledger-told-requires-clause-stands g c κs within =
    stands_in _ _ _ _ c.args.key.now c.args.options.now.device (length c.args.options.now.files.now) c.args.file.now _ _ c.in-Ok.ensures.lawful c.in-Ok.ensures.reserved
