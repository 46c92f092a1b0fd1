use Rattle.std.proofs.Common.{◌≡◌, ◌∙◌, ap, sym}
use Rattle.std.proofs.lemmas.Option.{slice_get-get_or}
use Rattle.std.specs.Prelude.{Some, slice_get}
use Rattle.sealer_core.specs.Sealing.{operations_of}
use Rattle.sealer_core.proofs.Keyed.{admits_container, inside_range, may_hold}
use Rattle.sealer_core.proofs.waiting.begin_waiting.Goals as goal

pub allow_container-requires : goal.allow_container-requires
allow_container-requires g c =
    let ledger = c.args.context.now.ledger.now in
    let at : slice_get c.args.seats.now c.args.place ≡ Some c.index-seats-place.result =
    slice_get-get_or c.args.seats.now c.args.place c.index-seats-place.result c.requires.owed.0 ∙ ap (λ s. Some s) (sym c.index-seats-place.is) in record {
      may = rw c.number.ensures (may_hold c.args.context.now.key.now ledger.terms.range c.args.context.now.options.now.shape.now c.args.spent.now.number _
          (operations_of c.args.seats.now) _ c.chunk-chunk.ensures.shape
          (inside_range ledger c.index-seats-place.result c.args.spent.now.number (c.requires.all.each c.args.place _ at).1 c.number-knows.ensures.knows (c.requires.owed.2 _ at))
          c.requires.unsettled c.requires.waits c.requires.keyed);
    }

pub returns-clause-admits : goal.returns-clause-admits
returns-clause-admits g c =
    admits_container c.args.context.now.key.now c.args.context.now.ledger.now.terms.range c.args.context.now.options.now.shape.now c.args.spent.now.number _
    (operations_of c.args.seats.now) c.args.spent.now.device _ _ _ _ c.requires.owed.1 c.requires.waits c.requires.keyed
    (rw c.number.ensures at c.allow_container.ensures.allowed) c.allow_container.ensures.fresh
