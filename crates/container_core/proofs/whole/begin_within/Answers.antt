use Rattle.std.proofs.Common.{◌≡◌, ℕ, List, ◌+◌, ◌-◌, ◌<◌, ◌≤◌, ◌∙◌, sym, ap, subst, length, arith, length-take-le}
use Rattle.container_core.specs.Chunks.{container_length, container_limit, most_of}
use Rattle.container_core.specs.Container.{header_length, size_in}
use Rattle.container_core.proofs.PartsLemmas.{container_length-grows, most_of-few}
use Rattle.container_core.specs.Cutting.{RefusesCut}
use Rattle.container_core.proofs.HeaderLemmas.{named_size}
use Rattle.container_core.proofs.OpeningLemmas.{some_size}
use Rattle.container_core.proofs.FaultLemmas.{early-too_long_one, early-too_long, early-header_fault, early-none, early-refused}
use Rattle.container_core.proofs.FaultLemmas.{shows}
use Rattle.container_core.proofs.whole.begin_within.Goals as goal

pub returns-then-long-clause-fault : goal.returns-then-long-clause-fault
returns-then-long-clause-fault c = λ whole bytes front.
    let s = shows c.args.key.now c.args.front.now whole (omega (arith, bytes, c.requires.front))
    (λ less. c.requires.header (omega (arith, less, bytes))) front in
    let (other, more) = c.if-long.ensures.long in
    early-too_long_one c.args.key.now c.args.most whole (s.two ∙ other) (omega (arith, more, bytes))

pub returns-in-Err-clause-fault : goal.returns-in-Err-clause-fault
returns-in-Err-clause-fault c = λ whole bytes front.
    let s = shows c.args.key.now c.args.front.now whole (omega (arith, bytes, c.requires.front))
    (λ less. c.requires.header (omega (arith, less, bytes))) front in
    early-header_fault c.args.key.now c.args.most whole c.in-Err.fault
    (λ other. let few = c.if-long.ensures.within (sym s.two ∙ other) in omega (arith, few, bytes))
    (s.fault ∙ c.in-Err.ensures.fault)

pub returns-then-too_long-clause-fault : goal.returns-then-too_long-clause-fault
returns-then-too_long-clause-fault c = λ whole bytes front.
    let s = shows c.args.key.now c.args.front.now whole (omega (arith, bytes, c.requires.front))
    (λ less. c.requires.header (omega (arith, less, bytes))) front in
    let end = header_length c.args.front.now in
    let long : length c.in-Ok.header ≡ end = ap (λ (l : List ℕ). length l) c.in-Ok.ensures.header
    ∙ length-take-le end c.args.front.now c.in-Ok.ensures.enough in
    let size : size_in c.in-Ok.header ≡ size_in c.args.front.now = named_size c.args.front.now c.in-Ok.header c.in-Ok.ensures.header c.in-Ok.ensures.enough in
    let limit : c.longest_bytes.result ≡ container_limit (header_length whole) (size_in whole) c.args.most =
    c.longest_bytes.ensures
    ∙ ap (λ (h : ℕ). container_limit h (size_in c.in-Ok.header) c.args.most) (long ∙ sym s.header)
    ∙ ap (λ (z : ℕ). container_limit (header_length whole) z c.args.most) (size ∙ sym s.size) in
    early-too_long c.args.key.now c.args.most whole (s.fault ∙ c.in-Ok.ensures.faultless) (omega (arith, limit, bytes, c.if-too_long.true))

pub returns-in-Ok-of_body-clause-named : goal.returns-in-Ok-of_body-clause-named
returns-in-Ok-of_body-clause-named c =
    c.in-Ok-of_body.ensures.size ∙ named_size c.args.front.now c.in-Ok.header c.in-Ok.ensures.header c.in-Ok.ensures.enough

pub returns-in-Ok-of_body-clause-few : goal.returns-in-Ok-of_body-clause-few
returns-in-Ok-of_body-clause-few c =
    let end = header_length c.args.front.now in
    let long : length c.in-Ok.header ≡ end = ap (λ (l : List ℕ). length l) c.in-Ok.ensures.header
    ∙ length-take-le end c.args.front.now c.in-Ok.ensures.enough in
    let header : length c.bytes.result.now ≡ length c.in-Ok.header = ap (λ (l : List ℕ). length l) c.bytes.ensures.bytes in
    let limit : c.longest_bytes.result ≡ container_limit end c.in-Ok-of_body.cut.size c.args.most =
    c.longest_bytes.ensures
    ∙ ap (λ (h : ℕ). container_limit h (size_in c.in-Ok.header) c.args.most) long
    ∙ ap (λ (z : ℕ). container_limit end z c.args.most) (sym c.in-Ok-of_body.ensures.size) in
    let some : 0 < c.in-Ok-of_body.cut.size = let s = some_size c.in-Ok.header in omega (arith, s, c.in-Ok-of_body.ensures.size) in
    container_length-grows end c.in-Ok-of_body.cut.size (most_of c.args.most c.in-Ok-of_body.cut.size) c.in-Ok-of_body.cut.plain some
    (omega (arith, limit, long, header, c.if-too_long.false, c.in-Ok-of_body.ensures.places, c.in-Ok.ensures.enough, c.requires.front))

pub returns-in-Ok-of_body-clause-within : goal.returns-in-Ok-of_body-clause-within
returns-in-Ok-of_body-clause-within c =
    let few = returns-in-Ok-of_body-clause-few c in
    let most = most_of-few c.args.most c.in-Ok-of_body.cut.size in
    omega (arith, few, most)

pub returns-in-Ok-of_body-clause-faultless : goal.returns-in-Ok-of_body-clause-faultless
returns-in-Ok-of_body-clause-faultless c = λ whole bytes front.
    let s = shows c.args.key.now c.args.front.now whole (omega (arith, bytes, c.requires.front))
    (λ less. c.requires.header (omega (arith, less, bytes))) front in
    let end = header_length c.args.front.now in
    let long : length c.in-Ok.header ≡ end = ap (λ (l : List ℕ). length l) c.in-Ok.ensures.header
    ∙ length-take-le end c.args.front.now c.in-Ok.ensures.enough in
    let header : length c.bytes.result.now ≡ length c.in-Ok.header = ap (λ (l : List ℕ). length l) c.bytes.ensures.bytes in
    let size : c.in-Ok-of_body.cut.size ≡ size_in whole = returns-in-Ok-of_body-clause-named c ∙ sym s.size in
    let all : length whole ≡ container_length end c.in-Ok-of_body.cut.size c.in-Ok-of_body.cut.plain =
    omega (arith, bytes, long, header, c.in-Ok-of_body.ensures.places, c.in-Ok.ensures.enough, c.requires.front) in
    early-none c.args.key.now c.args.most whole c.in-Ok-of_body.cut.plain
    (subst (λ (z : ℕ). c.in-Ok-of_body.cut.plain ≤ most_of c.args.most z) size (returns-in-Ok-of_body-clause-few c))
    (all ∙ ap (λ (h : ℕ). container_length h c.in-Ok-of_body.cut.size c.in-Ok-of_body.cut.plain) (sym s.header)
    ∙ ap (λ (z : ℕ). container_length (header_length whole) z c.in-Ok-of_body.cut.plain) size)
    (s.fault ∙ c.in-Ok.ensures.faultless)

pub returns-in-Err-of_body-clause-fault : goal.returns-in-Err-of_body-clause-fault
returns-in-Err-of_body-clause-fault c = λ whole bytes front.
    let s = shows c.args.key.now c.args.front.now whole (omega (arith, bytes, c.requires.front))
    (λ less. c.requires.header (omega (arith, less, bytes))) front in
    let end = header_length c.args.front.now in
    let long : length c.in-Ok.header ≡ end = ap (λ (l : List ℕ). length l) c.in-Ok.ensures.header
    ∙ length-take-le end c.args.front.now c.in-Ok.ensures.enough in
    let header : length c.bytes.result.now ≡ length c.in-Ok.header = ap (λ (l : List ℕ). length l) c.bytes.ensures.bytes in
    let size : size_in c.in-Ok.header ≡ size_in whole =
    named_size c.args.front.now c.in-Ok.header c.in-Ok.ensures.header c.in-Ok.ensures.enough ∙ sym s.size in
    let limit : c.longest_bytes.result ≡ container_limit (header_length whole) (size_in whole) c.args.most =
    c.longest_bytes.ensures
    ∙ ap (λ (h : ℕ). container_limit h (size_in c.in-Ok.header) c.args.most) (long ∙ sym s.header)
    ∙ ap (λ (z : ℕ). container_limit (header_length whole) z c.args.most) size in
    let body = c.args.bytes - length c.bytes.result.now in
    let all : length whole ≡ header_length whole + body =
    omega (arith, bytes, long, header, s.header, c.in-Ok.ensures.enough, c.requires.front) in
    early-refused c.args.key.now c.args.most whole body c.in-Err-of_body.fault all
    (omega (arith, limit, bytes, c.if-too_long.false)) (s.fault ∙ c.in-Ok.ensures.faultless)
    (subst (λ (z : ℕ). RefusesCut z body c.in-Err-of_body.fault) size c.in-Err-of_body.ensures.refused)
