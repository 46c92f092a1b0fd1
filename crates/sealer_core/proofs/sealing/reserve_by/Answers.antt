use Rattle.std.proofs.Common.{◌≡◌, List, ℕ, inr, subst}
use Rattle.sqlite.specs.Effect.{Database}
use Rattle.sqlite.specs.Held.{state}
use Rattle.sqlite.specs.State.{Survives}
use Rattle.reserve_core.specs.Reservations.{Lists, Holds, next_of, with_range}
use Rattle.sealer_core.proofs.sealing.reserve_by.Goals as goal

pub returns-in-Ok-clause-reserved : goal.returns-in-Ok-clause-reserved
returns-in-Ok-clause-reserved g c = record {
  asked = c.in-Ok.ensures.asked;
  appended = λ clean lists hold.
      let e = c.in-Ok.ensures.appends clean lists hold in
      subst (λ (k : List ℕ). (c.in-Ok.range.lo ≡ next_of (lists k c.args.device))
      × Holds (state g.S.Store c.reserve_from.new.self).now (with_range lists k c.args.device c.args.files)) c.id.ensures (e.0, e.2);
  lasts = λ clean trees left. c.in-Ok.ensures.lasts clean trees left;
}

pub returns-in-Ok-clause-crash : goal.returns-in-Ok-clause-crash
returns-in-Ok-clause-crash g c =
    subst (λ (k : List ℕ). Survives (state g.S.Store c.args.keeper.now) (state g.S.Store c.reserve_from.new.self) (λ trees. (lists : Lists)
    → Holds (state g.S.Store c.args.keeper.now).now lists → (db : Database) × Holds db (with_range lists k c.args.device c.args.files) × (trees ≡ db.trees))) c.id.ensures c.reserve_from.ensures.crash

pub returns-in-Err-clause-crash : goal.returns-in-Err-clause-crash
returns-in-Err-clause-crash g c =
    subst (λ (k : List ℕ). Survives (state g.S.Store c.args.keeper.now) (state g.S.Store c.reserve_from.new.self) (λ trees. (lists : Lists)
    → Holds (state g.S.Store c.args.keeper.now).now lists → (db : Database) × Holds db (with_range lists k c.args.device c.args.files) × (trees ≡ db.trees))) c.id.ensures c.reserve_from.ensures.crash

pub returns-in-Ok-clause-once : goal.returns-in-Ok-clause-once
returns-in-Ok-clause-once g c = λ clean live lists hold. inr ((returns-in-Ok-clause-reserved g c).appended clean lists hold).1
