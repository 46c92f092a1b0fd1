use Rattle.std.proofs.Common.{refl, ap, true}
use Rattle.io_core.specs.Streams.{counted}
use Rattle.folder_core.specs.Record.{WasRead}
use Rattle.command_core.proofs.Puts.{admits_plain, all_front, may_plain, plain_part, plain_whole, put_closed, refusal_read}
use Rattle.command_core.proofs.putting.put_plain.Goals as goal

pub allow_whole-requires : goal.allow_whole-requires
allow_whole-requires g c = record {
  may = may_plain _ _ _ _ _ _ c.requires.idle c.requires.read c.in-Ok.ensures.place c.in-Ok.ensures.created;
}

pub fill_plain-requires : goal.fill_plain-requires
fill_plain-requires g c = record {
  may = admits_plain _ _ _ _ _ _ _
      (may_plain _ _ _ _ _ _ c.requires.idle c.requires.read c.in-Ok.ensures.place c.in-Ok.ensures.created)
      c.allow_whole.ensures.allowed c.allow_whole.ensures.fresh;
}

pub returns-in-Ok-finish_or_discard-clause-put : goal.returns-in-Ok-finish_or_discard-clause-put
returns-in-Ok-finish_or_discard-clause-put g c =
    put_closed (λ r. WasRead r.entries c.args.key.now c.args.plain.now) _ _ _ _ _ _ _ _ _ _ _ _ _ _ c.requires.idle c.in-Ok.ensures.place
    c.in-Ok.ensures.created c.allow_whole.ensures.allowed c.allow_whole.ensures.fresh c.in-Ok-fill_plain.ensures.rest
    c.in-Ok-finish_or_discard.ensures.finished c.requires.read
    (λ was p. plain_whole _ _ _ _ _ _ _ c.in-Ok-fill_plain.ensures.ok c.in-Ok-fill_plain.ensures.count)

pub returns-in-Err-finish_or_discard-clause-put : goal.returns-in-Err-finish_or_discard-clause-put
returns-in-Err-finish_or_discard-clause-put g c =
    put_closed (λ r. WasRead r.entries c.args.key.now c.args.plain.now) _ _ _ _ _ _ _ _ _ _ _ _ _ _ c.requires.idle c.in-Ok.ensures.place
    c.in-Ok.ensures.created c.allow_whole.ensures.allowed c.allow_whole.ensures.fresh c.in-Ok-fill_plain.ensures.rest
    c.in-Err-finish_or_discard.ensures.given_up c.requires.read
    (λ was p bytes n e z t f.
    let (written, front, is) = plain_part _ _ _ _ _ _ _ (all_front _ _ _ c.in-Ok-fill_plain.ensures.ok)
    (ap (counted true) c.in-Ok-fill_plain.ensures.count) bytes n e z t f in
    (refl, written, front, is))

pub returns-in-Err-fill_plain-clause-put : goal.returns-in-Err-fill_plain-clause-put
returns-in-Err-fill_plain-clause-put g c =
    put_closed (λ r. WasRead r.entries c.args.key.now c.args.plain.now) _ _ _ _ _ _ _ _ _ _ _ _ _ _ c.requires.idle c.in-Ok.ensures.place
    c.in-Ok.ensures.created c.allow_whole.ensures.allowed c.allow_whole.ensures.fresh c.in-Err-fill_plain.ensures.rest
    c.discard.ensures.discarded c.requires.read
    (λ was p bytes n e z t f.
    let (written, front, is) = plain_part _ _ _ _ _ _ _ c.in-Err-fill_plain.ensures.err c.in-Err-fill_plain.ensures.count bytes n e z t f in
    (refl, written, front, is))

pub returns-in-Err-clause-read : goal.returns-in-Err-clause-read
returns-in-Err-clause-read g c = refusal_read _
