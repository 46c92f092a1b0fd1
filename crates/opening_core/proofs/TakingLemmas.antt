-- What the faults of a turn, of what takes the pieces and of the other steps are not.
use Rattle.std.proofs.Common.{◌≡◌, ℕ, ◌⊎◌, inl, inr, Bool, true, false, Result, Err, refl, ap, sym, subst, ◌∙◌}
use Rattle.container_core.specs.declared.fault.OpenFault.{OpenFault}
use Rattle.container_core.specs.declared.fault.OpenFault.TheVariants.{OutOfMemory, Read, Write}
use Rattle.container_core.specs.Faults.{IsOfBytes}
use Rattle.opening_core.specs.Engine.{open_read_failed, open_write_failed}
use Rattle.opening_core.specs.Windows.{IsTakingFault, IsTurningFault}
use Rattle.opening_core.proofs.ReadingLemmas.{not_read, not_write, not_written}

-- of making a room, or of the first read
pub begins-no_write : (fault : OpenFault) → (fault ≡ OutOfMemory) ⊎ (fault ≡ Read) → ◌≡◌ {A = Result ℕ OpenFault} (Err fault) (Err Write) → ⊥
begins-no_write fault (inl is) e = cc
begins-no_write fault (inr is) e = cc

pub begins-unwritten : (fault : OpenFault) → (fault ≡ OutOfMemory) ⊎ (fault ≡ Read) → open_write_failed {A = ℕ} (Err fault) ≡ false
begins-unwritten fault (inl is) = ap (λ f. open_write_failed {A = ℕ} (Err f)) is
begins-unwritten fault (inr is) = ap (λ f. open_write_failed {A = ℕ} (Err f)) is

-- of a container that is refused
pub refuses-no_write : (fault : OpenFault) → IsOfBytes fault ⊎ (fault ≡ Read) → ◌≡◌ {A = Result ℕ OpenFault} (Err fault) (Err Write) → ⊥
refuses-no_write fault (inl own) e = not_write fault own e
refuses-no_write fault (inr is) e = cc

pub refuses-unwritten : (fault : OpenFault) → IsOfBytes fault ⊎ (fault ≡ Read) → open_write_failed {A = ℕ} (Err fault) ≡ false
refuses-unwritten fault (inl own) = not_written fault own
refuses-unwritten fault (inr is) = ap (λ f. open_write_failed {A = ℕ} (Err f)) is

-- of a header
pub no_write-unwritten : {A : Type 0} (fault : OpenFault) → (◌≡◌ {A = Result A OpenFault} (Err fault) (Err Write) → ⊥)
    → open_write_failed {A = ℕ} (Err fault) ≡ false
no_write-unwritten Write none = absurd (none refl)
no_write-unwritten _ none = refl

-- of what takes the pieces
taking-writes : (writes : Bool) (fault : OpenFault) → IsTakingFault writes fault → ◌≡◌ {A = Result ℕ OpenFault} (Err fault) (Err Write)
    → writes ≡ true
taking-writes writes fault (inl is) e = cc
taking-writes writes fault (inr is) e = is.1

-- where nothing is written
pub kept-no_write : {A : Type 0} (writes : Bool) (fault : OpenFault) → writes ≡ false
    → (◌≡◌ {A = Result ℕ OpenFault} (Err fault) (Err Write) → writes ≡ true)
    → ◌≡◌ {A = Result A OpenFault} (Err fault) (Err Write) → ⊥
kept-no_write writes fault kept only e =
    let wrote : writes ≡ true = only cc in
    let both : true ≡ false = sym wrote ∙ kept in
    cc

taking-unread : (writes : Bool) (fault : OpenFault) → IsTakingFault writes fault → open_read_failed {A = ℕ} (Err fault) ≡ false
taking-unread writes fault (inl is) = ap (λ f. open_read_failed {A = ℕ} (Err f)) is
taking-unread writes fault (inr is) = ap (λ f. open_read_failed {A = ℕ} (Err f)) is.0

not_bytes : (fault other : OpenFault) → fault ≡ other → (IsOfBytes other → ⊥) → IsOfBytes fault → ⊥
not_bytes fault other is none own = none (subst IsOfBytes is own)

-- of a turn
pub turning-not_bytes : (writes : Bool) (fault : OpenFault) → IsTurningFault writes fault → IsOfBytes fault → ⊥
turning-not_bytes writes fault (inl is) own = not_bytes fault Read is (λ none. none) own
turning-not_bytes writes fault (inr (inl is)) own = not_bytes fault OutOfMemory is (λ none. none) own
turning-not_bytes writes fault (inr (inr is)) own = not_bytes fault Write is.0 (λ none. none) own

pub turning-writes : (writes : Bool) (fault : OpenFault) → IsTurningFault writes fault → ◌≡◌ {A = Result ℕ OpenFault} (Err fault) (Err Write)
    → writes ≡ true
turning-writes writes fault (inl is) e = cc
turning-writes writes fault (inr taking) e = taking-writes writes fault taking e

-- of the last round
pub last-writes : (writes : Bool) (fault : OpenFault) → IsOfBytes fault ⊎ IsTakingFault writes fault
    → ◌≡◌ {A = Result ℕ OpenFault} (Err fault) (Err Write) → writes ≡ true
last-writes writes fault (inl own) e = absurd (not_write fault own e)
last-writes writes fault (inr taking) e = taking-writes writes fault taking e

pub last-unread : (writes : Bool) (fault : OpenFault) → IsOfBytes fault ⊎ IsTakingFault writes fault
    → open_read_failed {A = ℕ} (Err fault) ≡ false
last-unread writes fault (inl own) = not_read ℕ fault own
last-unread writes fault (inr taking) = taking-unread writes fault taking
