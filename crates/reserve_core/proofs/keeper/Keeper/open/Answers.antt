use Rattle.std.proofs.Common.{sym, ap, ◌∙◌}
use Rattle.sqlite.specs.Effect.{Database}
use Rattle.reserve_core.proofs.keeper.Keeper.open.Goals as goal

pub returns-in-Ok-clause-lasts : goal.returns-in-Ok-clause-lasts
returns-in-Ok-clause-lasts g c clean trees may =
    let up = (c.in-Ok.ensures.live clean).1 in
    let ready = c.in-Ok.ensures.ready clean up in
    g.met.S.Store.settled c.open_tables.new.conn.store trees up may ∙ ap (λ (d : Database). d.trees) (sym ready.settled)
