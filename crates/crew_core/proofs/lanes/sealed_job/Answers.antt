use Rattle.std.proofs.Common.{[], ◌∷◌, refl, ap, sym, ◌∙◌, subst, IfOk, OnOk, OnErr, ◌≡◌}
use Rattle.container_core.specs.Container.{container}
use Rattle.journal_core.specs.declared.entry.Way.TheVariants as ended
use Rattle.journal_core.specs.Range.{prefix_of}
use Rattle.crew_core.specs.Spending.{spent_as}
use Rattle.journal_core.specs.declared.entry.Event.TheVariants.{Granted}
use Rattle.crew_core.specs.declared.outcome.Outcome.TheVariants.{Sealed, Spoiled}
use Rattle.crew_core.proofs.StepLemmas.{holds_granted, step_granted}
use Rattle.crew_core.proofs.lanes.sealed_job.Goals as goal

pub returns-in-Ok-sealed : goal.returns-in-Ok-sealed
returns-in-Ok-sealed c =
    let key = c.args.key.now in
    let shape = c.args.shape.now in
    let job = c.args.job.now in
    let old = c.args.seat.now in
    let new = c.issue.new.seat in
    let grant = c.in-Ok.grant in
    let spent = c.seal_granted-sealed.result.1 in
    let is = subst (λ r. OnOk r (spent ≡ spent_as grant ended.Sealed)) c.in-Ok-sealed.is c.seal_granted-sealed.ensures.sealed in
    let made = subst (λ r. IfOk r (λ b. b.items ≡ container key shape (prefix_of grant.device grant.number) job)) c.in-Ok-sealed.is c.seal_granted-sealed.ensures.container in
    let issued = c.in-Ok.ensures in
    step_granted key shape job c.args.lane old new grant.number (Sealed c.args.lane c.in-Ok-sealed.bytes spent) issued.same issued.granted
    (ap (λ s. Granted s.number ∷ []) is)
    (made ∙ ap (λ s. container key shape (prefix_of s.device s.number) job) (sym is), ap (λ s. s.way) is)
    refl
    (holds_granted old new spent grant.number issued.knows issued.same issued.granted (ap (λ s. s.number) is) (ap (λ s. s.device) is ∙ issued.device))

pub returns-in-Err-sealed : goal.returns-in-Err-sealed
returns-in-Err-sealed c =
    let key = c.args.key.now in
    let shape = c.args.shape.now in
    let job = c.args.job.now in
    let old = c.args.seat.now in
    let new = c.issue.new.seat in
    let grant = c.in-Ok.grant in
    let spent = c.seal_granted-sealed.result.1 in
    let is = subst (λ r. OnErr r (spent ≡ spent_as grant ended.Void)) c.in-Err-sealed.is c.seal_granted-sealed.ensures.void in
    let issued = c.in-Ok.ensures in
    step_granted key shape job c.args.lane old new grant.number (Spoiled c.args.lane spent) issued.same issued.granted
    (ap (λ s. Granted s.number ∷ []) is) (ap (λ s. s.way) is) refl
    (holds_granted old new spent grant.number issued.knows issued.same issued.granted (ap (λ s. s.number) is) (ap (λ s. s.device) is ∙ issued.device))
