use Rattle.std.proofs.Common.{◌≡◌, inl, inr, refl}
use Rattle.sealer_core.proofs.sealing.reserve_for.Goals as goal

pub returns-in_err-range-in-Kept-clause-once : goal.returns-in_err-range-in-Kept-clause-once
returns-in_err-range-in-Kept-clause-once g c was is =
    let same : c.in-Kept.keeper ≡ was = cc in
    rw (← same) (c.reserve_by.new.keeper, c.reserve_by.ensures.once, c.reserve_by.ensures.crash, c.reserve_by.ensures.kept, inl refl)

pub returns-in-Ok-clause-reserved : goal.returns-in-Ok-clause-reserved
returns-in-Ok-clause-reserved g c =
    let mid = c.reserve_by.new.keeper in
    let folded = c.in-Ok.ensures.kept mid refl in
    (c.in-Kept.keeper, mid, folded.0, c.in-Kept.is, folded.1, c.in_ok-range-in-Kept.ensures.reserved, c.reserve_by.ensures.kept, folded.3)

pub returns-in-Ok-clause-once : goal.returns-in-Ok-clause-once
returns-in-Ok-clause-once g c was is =
    let mid = c.reserve_by.new.keeper in
    let folded = c.in-Ok.ensures.kept mid refl in
    let same : c.in-Kept.keeper ≡ was = cc in
    rw (← same) (mid, c.reserve_by.ensures.once, c.reserve_by.ensures.crash, c.reserve_by.ensures.kept, inr (folded.0, folded.1, folded.2))

pub returns-in-Err-clause-once : goal.returns-in-Err-clause-once
returns-in-Err-clause-once g c was is =
    let mid = c.reserve_by.new.keeper in
    let folded = c.in-Err.ensures.kept mid refl in
    let same : c.in-Kept.keeper ≡ was = cc in
    rw (← same) (mid, c.reserve_by.ensures.once, c.reserve_by.ensures.crash, c.reserve_by.ensures.kept, inr (folded.0, folded.1, folded.2))
