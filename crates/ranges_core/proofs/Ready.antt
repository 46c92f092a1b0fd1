-- The keeper's state after a successful reservation and after a refused one.
use Rattle.std.proofs.Common.{◌≡◌, ℕ, ◌+◌, ◌≤◌, List, filter, Option, Some, None, unwrap_or, Result, Ok, Err, OnOk, OnErr, IsTrue, sym, subst, ◌∙◌}
use Rattle.sqlite.specs.Order.{Row}
use Rattle.sqlite.specs.Effect.{Database}
use Rattle.sqlite.specs.State.{State}
use Rattle.ranges_core.specs.Reads.{is_for}
use Rattle.ranges_core.specs.Reservations.{IsOwner, IsNext, next_of, Lists, with_range, Holds}
use Rattle.ranges_core.specs.Writes.{Appends, HaveRowids, IsMarkOf, IsReady}
use Rattle.ranges_core.proofs.Reserve.{Reserves, reserves}

mark_next : (rows : List Row) (mark : Option ℕ) (n : ℕ) → IsMarkOf rows mark → IsNext rows n → unwrap_or mark 0 ≡ n
mark_next rows None n none next = sym (subst (λ l. IsNext l n) none next)
mark_next rows (Some m) n one next = sym one.2 ∙ subst (λ l. IsNext l n) one.1 next

-- the mark is the end of the list
pub begins : (s : State) (lists : Lists) (key : List ℕ) (device : ℕ) (mark : Option ℕ) → Holds s.now lists → IsMarkOf (filter (is_for key device) (s.now.trees 0)) mark
    → unwrap_or mark 0 ≡ next_of (lists key device)
begins s lists key device mark hold is = mark_next _ mark _ is (hold.rows.each key device).next

pub appended : (s : State) (db : Database) (lists : Lists) (key : List ℕ) (device count : ℕ) (mark : Option ℕ) → IsReady s → IsOwner key device → 1 ≤ count → unwrap_or mark 0 + count ≤ 4294967296
    → IsMarkOf (filter (is_for key device) (s.now.trees 0)) mark → Holds s.now lists → Appends s.now db key device (unwrap_or mark 0) count → Reserves s.now db lists key device count
appended s db lists key device count mark ready owner some bound is hold it =
    reserves s.now db key device (unwrap_or mark 0) count lists owner some bound (begins s lists key device mark hold is) hold ready.rowids it

pub kept_ready : (old new : State) → IsReady old → (new.now ≡ old.now) × (new.committed ≡ old.committed) → IsReady new
kept_ready old new ready same = record {
  settled = same.0 ∙ ready.settled ∙ sym same.1;
  lists = ready.lists;
  hold = subst (λ (d : Database). Holds d ready.lists) (sym same.0) ready.hold;
  rowids = subst (λ (d : Database). HaveRowids (d.trees 0)) (sym same.0) ready.rowids;
}

pub ready_after : {U E : Type 0} (old new : State) (key : List ℕ) (device count : ℕ) (mark : Option ℕ) (r : Result U E) → IsReady old → IsOwner key device → 1 ≤ count → unwrap_or mark 0 + count ≤ 4294967296
    → IsMarkOf (filter (is_for key device) (old.now.trees 0)) mark
    → OnOk r (IsTrue old.is_open × Appends old.now new.now key device (unwrap_or mark 0) count)
    → OnOk r (IsTrue new.is_open × (new.committed ≡ new.now))
    → OnErr r ((new.now ≡ old.now) × (new.committed ≡ old.committed)) → IsReady new
ready_after old new key device count mark (Ok u) ready owner some bound is done committed neither =
    let law = appended old new.now ready.lists key device count mark ready owner some bound is ready.hold done.1 in
    record { settled = sym committed.1; lists = with_range ready.lists key device count; hold = law.holds; rowids = law.rowids }
ready_after old new key device count mark (Err e) ready owner some bound is done committed neither = kept_ready old new ready neither

pub appends_lists : {U E : Type 0} (old new : State) (key : List ℕ) (device count : ℕ) (mark : Option ℕ) (r : Result U E) → (IsTrue old.is_open → IsReady old) → IsOwner key device → 1 ≤ count
    → unwrap_or mark 0 + count ≤ 4294967296 → (IsTrue old.is_open → IsMarkOf (filter (is_for key device) (old.now.trees 0)) mark)
    → OnOk r (IsTrue old.is_open × Appends old.now new.now key device (unwrap_or mark 0) count)
    → OnOk r (IsTrue old.is_open × ((lists : Lists) → Holds old.now lists → (unwrap_or mark 0 ≡ next_of (lists key device)) × Holds new.now (with_range lists key device count)))
appends_lists old new key device count mark (Ok u) ready owner some bound is done =
    (done.0, λ lists hold. (begins old lists key device mark hold (is done.0), (appended old new.now lists key device count mark (ready done.0) owner some bound (is done.0) hold done.1).holds))
appends_lists old new key device count mark (Err e) ready owner some bound is done = tt
