use Rattle.std.proofs.Common.{refl, arith}
use Rattle.system_ledger.proofs.ledger.open_ledger.Goals as goal

pub returns-in-Ok-keeper_over : goal.returns-in-Ok-keeper_over
returns-in-Ok-keeper_over g c =
    let opening = c.in-Ok.ensures in
    let keeper = c.in-Ok-keeper_over.ensures in
    record {
      found = (
        c.in-Ok-keeper_over.keeper,
        refl,
        λ clean. (
          record {
            connection = c.in-Ok.connection;
            finds = opening.found (omega (arith, keeper.crash.clean, clean));
            opens = (opening.opened (omega (arith, keeper.crash.clean, clean))).0;
            live = (opening.opened (omega (arith, keeper.crash.clean, clean))).1;
            opened = keeper.opened clean;
            only = keeper.lasts clean;
          },
          keeper.tables,
        ),
      );
    }
