use Rattle.std.proofs.Common.{arith, refl, ap, ◌∙◌, ◌++◌, length}
use Rattle.sealing_core.specs.Order.{empty}
use Rattle.sealing_core.proofs.Orders.{length_opened, order_same}
use Rattle.sealing_core.proofs.RoundLemmas.{way_put, way_step}
use Rattle.sealing_core.proofs.handing.hand_over.Goals as goal
use Rattle.sealing_core.proofs.handing.hand_over.Goals.{then-is_full, else-is_full}

pub returns-clause-way : goal.returns-clause-way
returns-clause-way g c = λ left pieces few over was.
    let ripe = c.ripen-2.ensures.same in
    way_step _ _ _ _ _ c.args.plan c.if-is_full.early _ _ _ _ _ _ (λ put order. order_same _ _ _ _ put _ _ _ _ (ap (λ v. v.items) ripe.0) ripe.1 order)
    (elim c.if-is_full.branch [
      | then-is_full w ↦
          let put = w.put_jobs.ensures in
          let first = w.ripen.ensures.same in
          rw (w.round-is, w.early-is, w.into-is)
          (way_put _ _ _ _ _ c.args.plan _ _ _ _ pieces _ _ c.requires.group refl put.held.0 refl refl refl
          (put.places ∙ ap (λ v. v.items ++ empty (length c.args.round.now.held.items)) first.0) (put.same.0 ∙ first.1) put.into.1 few over
          (c.is_full.ensures.full w.if-is_full.true) was)
      | else-is_full w ↦ rw (w.round-is, w.early-is, w.into-is) was
    ])

pub returns-clause-room : goal.returns-clause-room
returns-clause-room g c =
    let ripe = ap (λ v. length v.items) c.ripen-2.ensures.same.0 in
    elim c.if-is_full.branch [
      | then-is_full w ↦
          let put = w.put_jobs.ensures in
          let opened = length_opened w.ripen.new.self.places.items _ _ put.places in
          let first = ap (λ v. length v.items) w.ripen.ensures.same.0 in
          let none_held = ap (λ ts. length ts) put.held.0 in
          let early = ap (λ e. length e.places.items) w.early-is in
          let round = ap (λ r. length r.held.items) w.round-is in
          omega arith
      | else-is_full w ↦
          let early = ap (λ e. length e.places.items) w.early-is in
          let round = ap (λ r. length r.held.items) w.round-is in
          omega arith
    ]
