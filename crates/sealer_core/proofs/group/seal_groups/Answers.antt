use Rattle.std.proofs.Common.{◌∙◌, List, [], refl, sym, ap, subst, map, Bor, ℕ, take, arith}
use Rattle.std.proofs.lemmas.List.{take_all}
use Rattle.command_core.specs.Turns.{printed}
use Rattle.journal_core.specs.declared.entry.Entry.{Entry}
use Rattle.sealer_core.specs.Group.{under_in}
use Rattle.sealer_core.specs.Sealing.{Accounts, AreSealed, operations_of}
use Rattle.sealer_core.proofs.Groups.{group_names}
use Rattle.sealer_core.proofs.Owing.{owing_none}
use Rattle.sealer_core.proofs.Keyed.{keyed_start}
use Rattle.sealer_core.proofs.Numbering.{accounts_none}
use Rattle.sealer_core.proofs.Sealings.{nothing_sealed}
use Rattle.sealer_core.proofs.group.seal_groups.Goals as goal

pub loop-done-init : goal.loop-done-init
loop-done-init g c = record {
  owing = owing_none _ _ c.requires.fresh c.requires.all;
  keyed = keyed_start c.args.context.now.key.now c.args.context.now.ledger.now.terms.range _ _ c.requires.started;
  count = refl;
  within = omega arith;
  sealed = nothing_sealed (under_in c.args.context.now) _ _ _ (subst (λ (l : List Entry). Accounts [] [] l) (sym c.requires.fresh) accounts_none);
}

pub loop-done-preserved : goal.loop-done-preserved
loop-done-preserved g c =
    let i = c.loop-done.invariant in
    let s = c.seal_group-status.ensures in
    let files : List (Bor (List ℕ)) = c.args.context.now.options.now.files.now in
    let group : List (Bor (List ℕ)) = c.split_at-in-loop-done.result.0.now in
    let rest = c.split_at.ensures.back_len in
    let short = c.split_at-in-loop-done.ensures.front_len in
    let least = c.min.ensures in
    let count = i.count in
    let within = i.within in
    record {
      owing = s.owing;
      keyed = s.keyed;
      count = c.seal_group-status.auto.seats ∙ i.count;
      within = omega arith;
      sealed = subst (λ (names : List (List ℕ)). AreSealed (under_in c.args.context.now) names (operations_of c.seal_group-status.new.seats) c.seal_group-status.result
          (printed (g.L.Report.taken c.args.lines.now) (g.L.Report.failures c.args.lines.now)) (printed (g.L.Report.taken c.seal_group-status.new.lines) (g.L.Report.failures c.seal_group-status.new.lines))
          (g.F.Outputs.rest c.args.folder.now) (g.F.Outputs.rest c.seal_group-status.new.folder))
          (group_names files group c.loop-done.done _ (c.split_at-in-loop-done.ensures.front ∙ ap (take c.min.result) c.split_at.ensures.back) short)
          (s.group _ _ _ i.sealed);
    }

pub returns-clause-sealed : goal.returns-clause-sealed
returns-clause-sealed g c =
    subst (λ (f : List (Bor (List ℕ))). AreSealed (under_in c.args.context.now) (map (λ (name : Bor (List ℕ)). name.now) f) (operations_of c.loop-done.seats) c.loop-done.status
    (printed (g.L.Report.taken c.args.lines.now) (g.L.Report.failures c.args.lines.now)) (printed (g.L.Report.taken c.loop-done.lines) (g.L.Report.failures c.loop-done.lines))
    (g.F.Outputs.rest c.args.folder.now) (g.F.Outputs.rest c.loop-done.folder))
    (take_all c.loop-done.done c.args.context.now.options.now.files.now c.loop-done-test.false) c.loop-done.invariant.sealed
