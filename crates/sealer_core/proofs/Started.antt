-- A run starts: a range is in the ledger file for good, and the record of its folder gets the key and the range.
use Rattle.std.proofs.Common.{◌≡◌, ℕ, List, Option, None, Some, refl, sym, subst}
use Rattle.std.specs.Coded.{Coded-set, coded_ℕ}
use Rattle.std.specs.Prelude.{IfSome, option_map}
use Rattle.std.proofs.Math.Logic.{∥∥₁_elim}
use Rattle.sha2.specs.Sha256.{sha256}
use Rattle.sqlite.specs.Held.{Held}
use Rattle.sqlite_trees.specs.declared.store.Store.{Ghosts}
use Rattle.folder_core.specs.Changes.{Becomes, IsUnstarted, started}
use Rattle.folder_core.specs.Growth.{Grows}
use Rattle.folder_core.specs.Record.{Entry, IsSound, IsSoundWith, RunRecord, times_begun}
use Rattle.journal_core.specs.declared.entry.Entry as operation
use Rattle.journal_core.specs.Range.{IsLawfulRange, Numbers}
use Rattle.command_core.specs.GrantedRange as front
use Rattle.command_core.specs.Turns.{Printed}
use Rattle.sealer_core.specs.Group.{IsStarted}
use Rattle.sealer_core.specs.Sealing.{AreSealed, SealedUnder}

-- the ledger file has the range for good
pub stands_in : {S L F : Type 0} (g : Ghosts S) (kept : Held S → F) (folded : L → F) (is_folded : S → L → Type 0) (key : List ℕ) (device count : ℕ) (before file : F) (range : Numbers)
    → IsLawfulRange range → front.FoldsARange g kept folded is_folded (front.range_asked (sha256 key) device count) before file range → front.IsGrantedIn g kept folded is_folded key file range
stands_in g kept folded is_folded key device count before file range lawful folds =
    (count, before, lawful, subst (λ d. front.FoldsARange g kept folded is_folded (front.range_asked (sha256 key) d count) before file range) (sym (of_device folds)) folds)
  where
    of_device : front.FoldsARange g kept folded is_folded (front.range_asked (sha256 key) device count) before file range → range.device ≡ device
    of_device (was, mid, left, old, new, reserved, lasts, by) = reserved.asked.0

-- before the key no output had a number
pub starts : (key : List ℕ) (range : Numbers) (before after : Option RunRecord) (taken : Option (List ℕ))
    → ((r : RunRecord) (number : ℕ) → IsSound r → r.under ≡ None → times_begun number r.entries ≡ 0)
    → ∥ IsSoundWith before taken ∥₁ → IfSome before IsUnstarted → Becomes (started key range) before after
    → IfSome after (IsStarted key range)
starts key range before None taken law sound un came = tt
starts key range before (Some r) taken law sound un (was, known, is) =
    let unstarted : IsUnstarted was = subst (λ o. IfSome o IsUnstarted) known un in
    subst (IsStarted key range) (sym is) (record {
      keyed = refl;
      idle = unstarted.idle;
      none = λ n. ∥∥₁_elim sound (Coded-set coded_ℕ _ _)
          (λ both. law was n (subst (λ o. IsSoundWith o taken) known both).0 unstarted.unkeyed);
    })

-- what was added since then was added to the record with the key
module _ (key : List ℕ) (range : Numbers) (before mid : Option RunRecord) (came : Becomes (started key range) before mid) where
  grows_since : (kind : List Entry → Type 0) (after : Option RunRecord) → Grows kind mid after
      → Grows kind (option_map (started key range) before) after
  grows_since kind after grew = go mid after came grew
    where
      go : (mid after : Option RunRecord) → Becomes (started key range) before mid → Grows kind mid after
          → Grows kind (option_map (started key range) before) after
      go mid None came grew = tt
      go None (Some r) came grew = absurd grew
      go (Some m) (Some r) (was, known, is) grew =
          subst (λ o. Grows kind (option_map (started key range) o) (Some r)) (sym known)
          (subst (λ m. Grows kind (Some m) (Some r)) is grew)

  pub sealed_since : (under : SealedUnder) (names : List (List ℕ)) (operations : List operation.Entry) (status : ℕ) (old new : Printed)
      (after : Option RunRecord) → AreSealed under names operations status old new mid after
      → AreSealed under names operations status old new (option_map (started key range) before) after
  sealed_since under names operations status old new after s = record {
    worked = record {
      lines = s.worked.lines;
      named = s.worked.named;
      fitting = s.worked.fitting;
      told = s.worked.told;
      added = grows_since _ after s.worked.added;
    };
    voids = s.voids;
    given_up = grows_since _ after s.given_up;
    accounts = s.accounts;
  }
