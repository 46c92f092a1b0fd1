use Rattle.std.proofs.Common.{Some, None, inl, inr, arith, refl}
use Rattle.folder_core.proofs.Names.{rsplit_parts}
use Rattle.folder_core.proofs.places.behind.Goals as goal

pub returns-in-Some : goal.returns-in-Some
returns-in-Some c =
    let parts = rsplit_parts 47 c.args.path.now (Some (c.in-Some.field-0-0, c.in-Some.name)) c.in-Some.ensures.cases (omega arith) in
    (parts.0, inr (c.in-Some.field-0-0.now, parts.1))

pub returns-in-None : goal.returns-in-None
returns-in-None c = (rsplit_parts 47 c.args.path.now None c.in-None.ensures.cases (omega arith), inl refl)
