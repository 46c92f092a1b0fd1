-- A record of a key and a range, in which each number that an output has is settled: it stays one. So an output may hold a
-- container under a number that was granted and isn't settled.
use Rattle.std.proofs.Common.{◌≡◌, ◌∙◌, ℕ, ◌+◌, ◌<◌, ◌≤◌, nat_eq, cond, List, [], ◌∷◌, Option, None, Some, refl, sym, ap, subst, arith, length, eq-eqb, ne_eqb, append-nil}
use Rattle.std.specs.Prelude.{IfSome, option_map}
use mathlib.Core.Logic.{dite}
use native.Mathlib.Decide.{ℕ_discrete}
use Rattle.std.proofs.lemmas.List.Sums.{sum_by-append}
use Rattle.container_core.specs.Container.{container}
use Rattle.container_core.specs.Shape.{IsShape, ShapeView}
use Rattle.journal_core.specs.declared.entry.Entry as journal
use Rattle.journal_core.specs.History.{times_granted, times_settled}
use Rattle.journal_core.specs.Range.{Numbers, prefix_of}
use Rattle.journal_core.proofs.Bounds.{within}
use Rattle.journal_core.proofs.Owners.{in_range}
use Rattle.ledger_core.specs.Shared.{Knows, LedgerView, SeatView}
use Rattle.output_core.specs.Bounds.{Admits, Allows}
use Rattle.output_core.specs.Bounds as bounds
use Rattle.folder_core.specs.Record.{Container, Entry, Event, GivenUp, Happened, IsOfRange, RunRecord, State, begins, bound_in, bound_of, container_bound, content_at, times_begun}
use Rattle.folder_core.specs.Changes.{Becomes, IsFresh, IsIdle, IsNew, MayHold, Tells, TellsBytes, allowed, closed_at, new_output, set_closed, set_content, with_entry}
use Rattle.folder_core.specs.Growth.{with_entries}
use Rattle.folder_core.proofs.Entries.{change_get, times_kept, times_more}
use Rattle.command_core.specs.declared.line.FileOutcome.{FileOutcome}
use Rattle.sealer_core.specs.declared.prepare.Prepared.{Prepared}
use Rattle.sealer_core.specs.declared.prepare.Prepared.TheVariants.{Read, Refused, Unread}
use Rattle.sealer_core.specs.Group.{AreWaiting, HavePrepared, IsEnding, IsKeyed, IsStarted, IsWaiting, filled}
use Rattle.sealer_core.specs.Sealing.{SealedUnder}
use Rattle.sealer_core.proofs.FileEnds.{none_begun}
use Rattle.sealer_core.proofs.Numbering.{zero_of}
use Rattle.sealer_core.proofs.Owing.{ending_settles}

module _ (key : List ℕ) (range : Numbers) where
  pub idle_keyed : (operations : List journal.Entry) (rest : Option RunRecord) → IfSome rest (IsKeyed key range operations) → IsIdle rest
  idle_keyed operations None keyed = tt
  idle_keyed operations (Some r) keyed = keyed.idle

  pub keyed_start : (operations : List journal.Entry) (rest : Option RunRecord) → IfSome rest (IsStarted key range) → IfSome rest (IsKeyed key range operations)
  keyed_start operations None started = tt
  keyed_start operations (Some r) started = record {
    keyed = started.keyed;
    idle = started.idle;
    settled = λ n some. let none = started.none n in absurd (omega arith);
  }

  -- numbers were settled, or none
  pub keyed_more : (operations operations' : List journal.Entry) (rest : Option RunRecord) → ((n : ℕ) → times_settled n operations ≤ times_settled n operations')
      → IfSome rest (IsKeyed key range operations) → IfSome rest (IsKeyed key range operations')
  keyed_more operations operations' None more keyed = tt
  keyed_more operations operations' (Some r) more keyed = record {
    keyed = keyed.keyed;
    idle = keyed.idle;
    settled = λ n some. let was = keyed.settled n some in let grown = more n in omega arith;
  }

  -- no output has a number that nobody settled
  pub unsettled_free : (operations : List journal.Entry) (number : ℕ) (r : RunRecord) → times_settled number operations ≡ 0 → IsKeyed key range operations r
      → times_begun number r.entries ≡ 0
  unsettled_free operations number r none keyed = zero_of (times_begun number r.entries) (λ some. let settled = keyed.settled number some in omega arith)

  -- entries without a number came
  keyed_with : (operations : List journal.Entry) (new : List Entry) (before : Option RunRecord) (was r : RunRecord) → ((n : ℕ) → times_begun n new ≡ 0)
      → IfSome before (IsKeyed key range operations) → before ≡ Some was → r ≡ with_entries new was → IsKeyed key range operations r
  keyed_with operations new before was r none keyed known is =
      let old : IsKeyed key range operations was = subst (λ o. IfSome o (IsKeyed key range operations)) known keyed in
      subst (IsKeyed key range operations) (sym is) (record {
        keyed = old.keyed;
        idle = old.idle;
        settled = λ n some.
            let zero = none n in
            let both = sum_by-append (λ (x : Entry). cond (begins n x) 1 0) was.entries new in
            old.settled n (omega arith);
      })

  pub keyed_after : (operations : List journal.Entry) (e : Entry) (before after : Option RunRecord) → ((n : ℕ) → times_begun n (e ∷ []) ≡ 0)
      → IfSome before (IsKeyed key range operations) → Becomes (with_entry e) before after → IfSome after (IsKeyed key range operations)
  keyed_after operations e before None none keyed came = tt
  keyed_after operations e before (Some r) none keyed (was, known, is) = keyed_with operations (e ∷ []) before was r none keyed known is

  pub keyed_tells : (operations : List journal.Entry) (event : ℕ → Event) (failures : Option ℕ) (before after : Option RunRecord)
      → IfSome before (IsKeyed key range operations) → Tells event failures before after → IfSome after (IsKeyed key range operations)
  keyed_tells operations event failures before None keyed tells = tt
  keyed_tells operations event failures before (Some r) keyed (n, many, came) =
      keyed_after operations (Happened (event n)) before (Some r) (λ n. refl) keyed came

  pub keyed_tells_bytes : (operations : List journal.Entry) (event : List ℕ → Event) (left : Option (List ℕ)) (before after : Option RunRecord)
      → IfSome before (IsKeyed key range operations) → TellsBytes event left before after → IfSome after (IsKeyed key range operations)
  keyed_tells_bytes operations event left before None keyed tells = tt
  keyed_tells_bytes operations event left before (Some r) keyed (bytes, here, came) =
      keyed_after operations (Happened (event bytes)) before (Some r) (λ n. refl) keyed came

  -- files were prepared
  waiting_unnumbered : {H : Type 0} (at : H → ℕ) (under : SealedUnder) (n : ℕ) (file : Prepared H) (own : List (List ℕ)) (place : ℕ) (new : List Entry) → IsWaiting at under file own place new
      → times_begun n new ≡ 0
  waiting_unnumbered at under n (Refused name fault) own place new (none, adds, are) = none_begun n new are
  waiting_unnumbered at under n (Unread name output fault) own place new (input, of, is) = ap (times_begun n) is
  waiting_unnumbered at under n (Read name output bytes) own place new (input, of, is) = ap (times_begun n) is

  all_unnumbered : {H : Type 0} (at : H → ℕ) (under : SealedUnder) (n : ℕ) (files : List (Prepared H)) (inputs : List (List ℕ)) (place : ℕ) (new : List Entry)
      → AreWaiting at under files inputs place new → times_begun n new ≡ 0
  all_unnumbered at under n [] inputs place new (none, empty) = ap (times_begun n) empty
  all_unnumbered at under n (file ∷ files) inputs place new (own, others, first, rest, one, next, all, split) =
      let here = waiting_unnumbered at under n file own place first one in
      let more = all_unnumbered at under n files others (place + length first) rest next in
      let both = sum_by-append (λ (x : Entry). cond (begins n x) 1 0) first rest in
      let same = ap (times_begun n) split in omega arith

  pub keyed_prepared : {H : Type 0} (at : H → ℕ) (under : SealedUnder) (files : List (Prepared H)) (inputs : List (List ℕ)) (operations : List journal.Entry) (before after : Option RunRecord)
      → IfSome before (IsKeyed key range operations) → HavePrepared at under files inputs before after → IfSome after (IsKeyed key range operations)
  keyed_prepared at under files inputs operations before None keyed have = tt
  keyed_prepared at under files inputs operations before (Some r) keyed (was, new, known, waits, is) =
      keyed_with operations new before was r (λ n. all_unnumbered at under n files inputs (length was.entries) new waits) keyed known is

  -- an output was given up that was never in hand
  pub keyed_abandoned : (place : ℕ) (operations : List journal.Entry) (before after : Option RunRecord) → IfSome before (IsKeyed key range operations)
      → Becomes (closed_at place GivenUp [] 0) before after → IfSome after (IsKeyed key range operations)
  keyed_abandoned place operations before None keyed becomes = tt
  keyed_abandoned place operations before (Some r) keyed (was, known, is) =
      let old : IsKeyed key range operations was = subst (λ o. IfSome o (IsKeyed key range operations)) known keyed in
      subst (IsKeyed key range operations) (sym is) (record {
        keyed = old.keyed;
        idle = refl;
        settled = λ n some. let same = times_kept n place (set_closed GivenUp [] 0) was.entries (λ o. refl) in old.settled n (omega arith);
      })

  -- one was in hand under a number, and that was settled
  pub keyed_filled : (place number n : ℕ) (shape : ShapeView) (state : State) (held : List ℕ) (operations operations' : List journal.Entry) (outcome : FileOutcome) (before : Option RunRecord) (r : RunRecord)
      → IfSome before (IsNew place) → IfSome before (IsKeyed key range operations) → IsEnding number operations operations' outcome
      → Becomes (filled place (Container number shape) state held n) before (Some r) → IsKeyed key range operations' r
  keyed_filled place number n shape state held operations operations' outcome before r new keyed ending (was, known, is) =
      let old : IsKeyed key range operations was = subst (λ o. IfSome o (IsKeyed key range operations)) known keyed in
      let waits : IsNew place was = subst (λ o. IfSome o (IsNew place)) known new in
      subst (IsKeyed key range operations') (sym is) (record {
        keyed = old.keyed;
        idle = refl;
        settled = λ m some.
            let kept = times_kept m place (set_closed state held n) (filled_entries was) (λ o. refl) in
            let more = times_more m place (Container number shape) (set_content (Container number shape)) was.entries (new_output waits.name) waits.there refl (λ o. refl) in
            let count = ending_settles m number operations operations' outcome ending in
            dite (ℕ_discrete m number)
            (λ same. let one : cond {A = ℕ} (nat_eq m number) 1 0 ≡ 1 = ap (λ b. cond {A = ℕ} b 1 0) (eq-eqb m number same) in omega arith)
            (λ other.
            let none : cond {A = ℕ} (nat_eq m number) 1 0 ≡ 0 = ap (λ b. cond {A = ℕ} b 1 0) (ne_eqb m number other) in
            let settled = old.settled m (omega arith) in omega arith);
      })
    where
      filled_entries : RunRecord → List Entry
      filled_entries was = (allowed place (Container number shape) was).entries

-- ---- an output may hold a container

-- a number that a seat was granted is one of the range
pub inside_range : (ledger : LedgerView) (seat : SeatView) (number : ℕ) → seat.terms ≡ ledger.terms → Knows seat
    → times_settled number seat.mine < times_granted number seat.mine
    → (ledger.terms.range.lo ≤ number) × (number < ledger.terms.range.lo + ledger.terms.range.size)
inside_range ledger seat number same knows owed =
    let mine = ap (times_granted number) knows.own in
    let some = in_range seat.terms seat.seen knows.legal seat.number number (omega arith) in
    let bound = (within seat.terms seat.seen knows.legal).0 in
    subst (λ t. (t.range.lo ≤ number) × (number < t.range.lo + t.range.size)) same (some.0, (let below = some.1 in omega arith))

module _ (key : List ℕ) (range : Numbers) (shape : ShapeView) (number place : ℕ) (operations : List journal.Entry) where
  pub may_hold : (rest : Option RunRecord) → IsShape shape → (range.lo ≤ number) × (number < range.lo + range.size) → times_settled number operations ≡ 0
      → IfSome rest (IsNew place) → IfSome rest (IsKeyed key range operations) → IfSome rest (MayHold place (Container number shape))
  may_hold None lawful inside none new keyed = tt
  may_hold (Some r) lawful inside none new keyed = record {
    new = new;
    allowed = (lawful, subst (λ k. IsOfRange k number) (sym keyed.keyed) inside);
    free = unsettled_free key range operations number r none keyed;
  }

  -- any container under the number may be written to it
  pub admits_container : (device : ℕ) (rest ready : Option RunRecord) (taken : Option (List ℕ)) (failures : Option ℕ) → device ≡ range.device → IfSome rest (IsNew place)
      → IfSome rest (IsKeyed key range operations) → Becomes (allowed place (Container number shape)) rest ready → IsFresh ready taken failures → (plain : List ℕ)
      → Admits (option_map bound_in ready) taken (container key shape (prefix_of device number) plain)
  admits_container device rest None taken failures of new keyed is fresh plain = tt
  admits_container device rest (Some r) taken failures of new keyed (was, known, is) fresh plain =
      let waits : IsNew place was = subst (λ o. IfSome o (IsNew place)) known new in
      let old : IsKeyed key range operations was = subst (λ o. IfSome o (IsKeyed key range operations)) known keyed in
      let bound : bound_in r ≡ bounds.Container [] key shape (prefix_of device number) =
      ap bound_in is
      ∙ ap (λ e. bound_of was.under (content_at e)) (change_get place (set_content (Container number shape)) was.entries (new_output waits.name) waits.there)
      ∙ ap (λ k. container_bound k number shape) old.keyed
      ∙ ap (λ d. bounds.Container [] key shape (prefix_of d number)) (sym of) in
      let whole : List ℕ = container key shape (prefix_of device number) plain in
      ([], fresh.0, subst (λ b. Allows b whole) (sym bound) (plain, ([], sym (append-nil whole))))
