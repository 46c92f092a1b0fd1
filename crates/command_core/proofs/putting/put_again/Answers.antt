use Rattle.std.proofs.Common.{Err, refl, ap, sym, ◌∙◌, true}
use Rattle.io_core.specs.Streams.{counted}
use Rattle.container_core.specs.declared.fault.OpenFault.TheVariants.{Write}
use Rattle.opening_core.specs.declared.twice.Stopped.TheVariants.{Broken}
use Rattle.command_core.proofs.Puts.{again_part, again_read, again_unfinished, again_whole, may_checked, may_fill_again, put_again_closed, refusal_read, stop_of}
use Rattle.command_core.proofs.putting.put_again.Goals as goal

pub allow_checked-requires : goal.allow_checked-requires
allow_checked-requires g c = record {
  may = may_checked _ _ _ _ _ _ _ c.requires.idle c.requires.read c.in-Ok.ensures.place c.in-Ok.ensures.created;
}

pub fill_again-requires-clause-may : goal.fill_again-requires-clause-may
fill_again-requires-clause-may g c κs within =
    may_fill_again _ _ _ _ _ _ _ _ _
    (may_checked _ _ _ _ _ _ _ c.requires.idle c.requires.read c.in-Ok.ensures.place c.in-Ok.ensures.created)
    c.allow_checked.ensures.allowed c.allow_checked.ensures.fresh

pub returns-in-Ok-finish_or_discard-clause-put : goal.returns-in-Ok-finish_or_discard-clause-put
returns-in-Ok-finish_or_discard-clause-put g c =
    put_again_closed _ _ _ _ _ _ _ _ _ _ _ _ _ _ _ _
    c.requires.idle c.in-Ok.ensures.place c.in-Ok.ensures.created c.allow_checked.ensures.allowed c.allow_checked.ensures.fresh
    c.in-Ok-fill_again.ensures.rest c.in-Ok-finish_or_discard.ensures.finished
    (λ last here bytes n e z t f. (
      last,
      here,
      again_whole _ _ _ _ _ _ _ last _ _ _ here c.in-Ok-fill_again.ensures.written.written
          c.in-Ok-fill_again.ensures.written.write bytes n e z t f,
    ))

pub returns-in-Err-finish_or_discard-clause-put : goal.returns-in-Err-finish_or_discard-clause-put
returns-in-Err-finish_or_discard-clause-put g c =
    put_again_closed _ _ _ _ _ _ _ _ _ _ _ _ _ _ _ _
    c.requires.idle c.in-Ok.ensures.place c.in-Ok.ensures.created c.allow_checked.ensures.allowed c.allow_checked.ensures.fresh
    c.in-Ok-fill_again.ensures.rest c.in-Err-finish_or_discard.ensures.given_up
    (λ last here bytes n e z t f. (
      last,
      here,
      again_unfinished _ _ _ _ _ _ _ last _ (Broken Write) _ _ here
          c.in-Ok-fill_again.ensures.written.written refl (λ of. of) (ap (counted true) c.in-Ok-fill_again.ensures.written.write) bytes n e z t f,
    ))

pub returns-in-Err-fill_again-clause-put : goal.returns-in-Err-fill_again-clause-put
returns-in-Err-fill_again-clause-put g c =
    put_again_closed _ _ _ _ _ _ _ _ _ _ _ _ _ _ _ _
    c.requires.idle c.in-Ok.ensures.place c.in-Ok.ensures.created c.allow_checked.ensures.allowed c.allow_checked.ensures.fresh
    c.in-Err-fill_again.ensures.rest c.discard.ensures.discarded
    (λ last here bytes n e z t f. (
      last,
      here,
      again_part _ _ _ _ _ _ _ last _ _ _ here c.in-Err-fill_again.ensures.written.begun
          c.in-Err-fill_again.ensures.written.checked
          (stop_of _ _ _ _ _ (λ is. c.in-Err-fill_again.ensures.written.changed (ap Err is))
          (λ fault is. c.in-Err-fill_again.ensures.written.checked_before fault (ap Err is))
          (λ fault is. c.in-Err-fill_again.ensures.written.broken fault (ap Err is))) c.in-Err-fill_again.ensures.written.write bytes n e z t f,
    ))

pub returns-in-Err-clause-read : goal.returns-in-Err-clause-read
returns-in-Err-clause-read g c = sym (ap (λ b. counted b (g.F.Reader.Source.failures c.args.reader.now)) (refusal_read c.in-Err.fault))

pub returns-in-Err-fill_again-clause-read : goal.returns-in-Err-fill_again-clause-read
returns-in-Err-fill_again-clause-read g c =
    c.in-Err-fill_again.ensures.written.read ∙ ap (λ b. counted b (g.F.Reader.Source.failures c.args.reader.now))
    (again_read c.in-Err-fill_again.stopped (λ fault is. c.in-Err-fill_again.ensures.written.checked_before fault (ap Err is)))
