use Rattle.std.proofs.Common.{◌≡◌, sym, ap, subst, ◌∙◌, arith}
use Rattle.sqlite_trees.specs.View.{View, IsClean}
use Rattle.sqlite_trees.proofs.Doubt.{clean_of as sure, no_doubt}
use Rattle.sqlite_rules.proofs.ViewLemmas.{still_quiet}
use Rattle.sqlite_pool.proofs.StateLemmas.{clean_is, may_leave_is}
use Rattle.sqlite_store.specs.FileStore.{state, view}
use Rattle.sqlite_wal.specs.Files.{outcomes}
use Rattle.sqlite_wal.specs.Reads.{AreClean}
use Rattle.sqlite_wal.proofs.StateLemmas.{open_from}
use Rattle.sqlite.specs.Closing.{HoldsAlone}
use Rattle.sqlite.proofs.Theorems.{copied}
use Rattle.reserve_core.proofs.file.FileStoreFold.fold.Goals as goal

pub returns-in-Ok-clause-left : goal.returns-in-Ok-clause-left
returns-in-Ok-clause-left g c = record {
  last = c.checkpoint.new.self;
  these = sym c.close.ensures;
  quiet = still_quiet c.rollback.ensures.quiet c.checkpoint.ensures.quiet;
}

pub returns-in-Err-clause-left : goal.returns-in-Err-clause-left
returns-in-Err-clause-left g c = record {
  last = c.checkpoint.new.self;
  these = sym c.close-in-Err.ensures;
  quiet = still_quiet c.rollback.ensures.quiet c.checkpoint.ensures.quiet;
}

-- As in the kit for a connection that is closed.
pub returns-in-Ok-clause-folded : goal.returns-in-Ok-clause-folded
returns-in-Ok-clause-folded g c honest =
    let before = c.rollback.new.self in
    let last = c.checkpoint.new.self in
    let q = c.checkpoint.ensures.quiet in
    let stays = g.met.D.Disk.seen_may_stay in
    let sure_now = subst (λ p. AreClean g.D.Disk p.0 p.1) c.close.ensures honest in
    let none : IsClean (view last) = no_doubt _ (clean_is last.pool ∙ sure_now) in
    let clean : IsClean (view before) = omega (arith, q.clean) in
    let early : IsClean (view c.args.self) = omega (arith, c.rollback.ensures.quiet.clean) in
    let h = open_from (state before) c.in-Ok.ensures.ready (sure (view before).is_clean clean) in
    let undone = c.rollback.ensures.undone.kept clean in
    let on = c.in-Ok.ensures.open none in
    let same = c.checkpoint.ensures.same on in
    let committed : (view last).committed ≡ (view c.args.self).committed = ap (λ (v : View). v.committed) same ∙ undone.committed h in
    record {
      clean = early;
      is_open = undone.was_open h;
      alone = λ numbered sound image may. subst (HoldsAlone image) committed
          (copied last stays on (ap (λ (v : View). v.is_numbered) same ∙ undone.numbered ∙ numbered)
          (λ db found. sound db (c.rollback.ensures.quiet.outcomes db (q.outcomes db found)))
          (c.in-Ok.ensures.moved (c.rollback.ensures.logged (undone.was_open h))) image
          (may_leave_is last.pool image sure_now (subst (λ p. outcomes g.D.Disk p.0 p.1 image) c.close.ensures may)));
    }
