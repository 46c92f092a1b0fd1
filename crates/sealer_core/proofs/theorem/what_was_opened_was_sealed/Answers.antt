use Rattle.sealer_core.proofs.Openings.{each_opened, each_sealed, opened_is}
use Rattle.sealer_core.proofs.theorem.what_was_opened_was_sealed.Goals as goal

pub returns-clause-same : goal.returns-clause-same
returns-clause-same c under input bytes plain = opened_is under input bytes plain
    (λ bytes plain most at. let r = (c.opens_exactly_its_container.ensures.exactly under.key bytes plain most).0 at in (r.1, r.2))
    (λ prefix other plain another shape form one two seven too same. (c.containers_differ.ensures.plaintext under.key prefix other plain another shape form one two seven too same).2)

pub returns-clause-sealed : goal.returns-clause-sealed
returns-clause-sealed c = each_sealed

pub returns-clause-opened : goal.returns-clause-opened
returns-clause-opened c = each_opened
