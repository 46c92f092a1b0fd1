use Rattle.std.proofs.Common.{ℕ, [], ◌++◌, length, take, refl, ap, ◌∙◌, subst, arith, length-append, true}
use Rattle.std.proofs.KnownBytes.{Consumes-nil, Consumes-trans}
use Rattle.journal_core.specs.Verdict.{IsVerdict}
use Rattle.io_core.specs.Streams.{counted}
use Rattle.journal_core.specs.Audit.{HasRead}
use Rattle.journal_core.proofs.Inputs.{holds_anyway, not_so_long, all_read, front_of}
use Rattle.journal_core.proofs.auditing.judge_all.Goals as goal

pub input-init : goal.input-init
input-init g c =
    let len = c.in-Ok.ensures.len in
    let lines = c.new-progress.ensures.lines in
    ([], Consumes-nil _, c.new-progress.ensures.read, refl, omega arith, omega arith, omega arith, refl)

pub returns-in-Ok-eq0-clause-verdict : goal.returns-in-Ok-eq0-clause-verdict
returns-in-Ok-eq0-clause-verdict g c =
    let before = c.input.invariant in
    all_read _ _ _ before.0 _ (λ input. IsVerdict input c.verdict.result) before.1 c.in-Ok-eq0.ensures.bytes.0 (ap (λ n. take n c.read.new.buffer) c.in-Ok-eq0.field-0-test)
    (c.in-Ok-eq0.ensures.bytes.1 c.in-Ok-eq0.field-0-test (let len = c.deref_mut.ensures.len in let same = c.read.auto.buffer in let room = before.6 in omega arith)) (c.verdict.ensures before.0 before.2)

pub returns-in-Ok-eq0-clause-count : goal.returns-in-Ok-eq0-clause-count
returns-in-Ok-eq0-clause-count g c = holds_anyway _ _ _ (c.in-Ok-eq0.ensures.count ∙ c.input.invariant.7)

pub returns-in-Err-clause-count : goal.returns-in-Err-clause-count
returns-in-Err-clause-count g c = holds_anyway _ _ _ (c.in-Err.ensures.count ∙ ap (counted true) c.input.invariant.7)

pub returns-then-n-read-clause-count : goal.returns-then-n-read-clause-count
returns-then-n-read-clause-count g c =
    let before = c.input.invariant in
    let read = take c.in-Ok-read.n c.read.new.buffer in
    let long = before.3 in
    let more = c.in-Ok-read.ensures.bound in
    let much = c.if-n-read.true in
    not_so_long _ _ _ (before.0 ++ read) _ (Consumes-trans _ _ _ before.0 read before.1 c.in-Ok-read.ensures.bytes.0) (omega (arith, length-append before.0 read, more.1))

pub returns-in-Err-take-clause-count : goal.returns-in-Err-take-clause-count
returns-in-Err-take-clause-count g c = holds_anyway _ _ _ (c.in-Ok-read.ensures.count ∙ c.input.invariant.7)

pub input-preserved : goal.input-preserved
input-preserved g c =
    let before = c.input.invariant in
    let read = take c.in-Ok-read.n c.read.new.buffer in
    let long = before.3 in
    let more = c.in-Ok-read.ensures.bound in
    let lines = before.4 in
    let len = c.deref_mut.ensures.len in
    let same = c.read.auto.buffer in
    let taken = ap (take c.in-Ok-read.n) c.deref.ensures.value ∙ front_of c.in-Ok-read.n _ c.read.new.buffer _ more.0 (same ∙ len) in
    let count = c.in-Ok-take.ensures.count in
    let few = ap (length {A = ℕ}) taken in (
      before.0 ++ read,
      Consumes-trans _ _ _ before.0 read before.1 c.in-Ok-read.ensures.bytes.0,
      subst (λ l. HasRead c.take.new.self (before.0 ++ l)) taken (c.in-Ok-take.ensures.read before.0 before.2),
      omega (arith, length-append before.0 read, more.1),
      omega (arith, more.1),
      omega arith,
      before.6,
      c.in-Ok-read.ensures.count ∙ before.7,
    )
