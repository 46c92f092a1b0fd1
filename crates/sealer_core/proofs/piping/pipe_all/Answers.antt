use Rattle.std.proofs.Common.{◌≡◌, ◌++◌, List, true, false, length, take, drop, inr, refl, ap, ap₂, arith, subst}
use Rattle.journal_core.specs.declared.terms.Terms.{Terms}
use Rattle.journal_core.specs.Journal.{terms_of}
use Rattle.journal_core.specs.Text.{journal_text}
use Rattle.ledger_core.specs.Closing.{IsWhole}
use Rattle.ledger_core.specs.Shared.{SeatView}
use Rattle.io_core.specs.Views.{io_view}
use Rattle.command_core.specs.Turns.{printed}
use Rattle.command_core.proofs.Telling.{nothing_told}
use Rattle.sealer_core.specs.Sealing.{IsWritten}
use Rattle.sealer_core.proofs.Numbering.{written_back}
use Rattle.sealer_core.proofs.Started.{stands_in}
use Rattle.sealer_core.proofs.Streams.{has_stream}
use Rattle.sealer_core.proofs.piping.pipe_all.Goals as goal

pub start_record-requires-clause-stands : goal.start_record-requires-clause-stands
start_record-requires-clause-stands g c =
    stands_in _ _ _ _ c.args.key.now c.args.options.now.device 1 c.args.file.now _ _ c.in-Ok.ensures.lawful c.in-Ok.ensures.reserved

pub pipe_alone-outcome-requires-clause-new : goal.pipe_alone-outcome-requires-clause-new
pipe_alone-outcome-requires-clause-new g c κs within =
    c.a_stream_goes_on.ensures.started _ _ _ _ _ c.requires.new c.start_record.ensures.began

pub returns-in-Ok-end_ledger-clause-status : goal.returns-in-Ok-end_ledger-clause-status
returns-in-Ok-end_ledger-clause-status g c = (c.tell-told.ensures _ _ _ (nothing_told _ _)).range

pub returns-in-Ok-end_ledger-clause-run : goal.returns-in-Ok-end_ledger-clause-run
returns-in-Ok-end_ledger-clause-run g c =
    let ledger = c.in-Ok.opened.0 in
    let range = ledger.terms.range in
    let terms : ledger.terms ≡ terms_of range 1 = ap (terms_of range) c.in-Ok.ensures.opened.0 in
    let seats : List SeatView = c.pipe_alone-outcome.new.seats in
    let back : take c.in-Ok.opened.1.len (seats ++ drop (length seats) c.in-Ok.opened.1.items) ≡ seats = written_back _ seats _ (omega arith) in
    let (history, whole, written) = c.end_ledger.ensures in
    inr (
      range,
      history,
      c.tell-told.result,
      true,
      printed (g.E.Report.taken c.tell-told.new.lines) (g.E.Report.failures c.tell-told.new.lines),
      c.in-Ok.ensures.reserved,
      c.in-Ok.ensures.lawful,
      c.in-Ok.ensures.witnessed,
      has_stream _ _ c.args.key.now ledger (terms_of range 1) seats history _ _ _ _ _ c.pipe_alone-outcome.result _ _ _ terms
          (ap₂ (io_view (g.R.Source.left c.args.reader.now) (g.R.Source.failures c.args.reader.now)) c.start_record.ensures.taken c.start_record.ensures.failures)
          c.start_record.ensures.began c.pipe_alone-outcome.ensures.all (subst (λ (s : List SeatView). IsWhole ledger.terms s history) back whole)
          c.pipe_alone-outcome.ensures.piped (c.tell-told.ensures _ _ _ (nothing_told _ _)),
      subst (λ (t : Terms). IsWritten g.J.Report.taken (journal_text t history) true c.args.out.now.journal c.end_ledger.new.journal) terms
          (rw c.in-Ok-end_ledger.is at written),
      refl,
      refl,
    )

pub returns-in-Err-end_ledger-clause-run : goal.returns-in-Err-end_ledger-clause-run
returns-in-Err-end_ledger-clause-run g c =
    let ledger = c.in-Ok.opened.0 in
    let range = ledger.terms.range in
    let terms : ledger.terms ≡ terms_of range 1 = ap (terms_of range) c.in-Ok.ensures.opened.0 in
    let seats : List SeatView = c.pipe_alone-outcome.new.seats in
    let back : take c.in-Ok.opened.1.len (seats ++ drop (length seats) c.in-Ok.opened.1.items) ≡ seats = written_back _ seats _ (omega arith) in
    let (history, whole, written) = c.end_ledger.ensures in
    inr (
      range,
      history,
      c.tell-told.result,
      false,
      printed (g.E.Report.taken c.tell-told.new.lines) (g.E.Report.failures c.tell-told.new.lines),
      c.in-Ok.ensures.reserved,
      c.in-Ok.ensures.lawful,
      c.in-Ok.ensures.witnessed,
      has_stream _ _ c.args.key.now ledger (terms_of range 1) seats history _ _ _ _ _ c.pipe_alone-outcome.result _ _ _ terms
          (ap₂ (io_view (g.R.Source.left c.args.reader.now) (g.R.Source.failures c.args.reader.now)) c.start_record.ensures.taken c.start_record.ensures.failures)
          c.start_record.ensures.began c.pipe_alone-outcome.ensures.all (subst (λ (s : List SeatView). IsWhole ledger.terms s history) back whole)
          c.pipe_alone-outcome.ensures.piped (c.tell-told.ensures _ _ _ (nothing_told _ _)),
      subst (λ (t : Terms). IsWritten g.J.Report.taken (journal_text t history) false c.args.out.now.journal c.end_ledger.new.journal) terms
          (rw c.in-Err-end_ledger.is at written),
      refl,
      c.complain-in-Err-end_ledger.ensures,
    )
