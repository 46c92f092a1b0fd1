-- A file that is set is an entry that changes.
use Rattle.std.proofs.Common.{◌≡◌, ℕ, zero, suc, ◌<◌, ◌≤◌, List, [], ◌∷◌, length, map, refl, ap, ◌∙◌, arith, get_or, slice_set}
use Rattle.folder_core.specs.Record.{Output}
use Rattle.folder_core.specs.Changes.{change, changed}
use Rattle.folder_tests.specs.Memory.{entry_of}
use Rattle.folder_tests.specs.declared.pages.MemoryEntry.{MemoryEntry}

pub set_changes : (f : Output → Output) (n : ℕ) (l : List MemoryEntry) (x y : MemoryEntry) → n < length l → x ≡ get_or l n x
    → entry_of y ≡ changed f (entry_of x) → map entry_of (slice_set l n y) ≡ change n f (map entry_of l)
set_changes f n [] x y less is by = absurd (omega arith)
set_changes f zero (z ∷ l) x y less is by = ap (λ e. e ∷ map entry_of l) (by ∙ ap (λ z. changed f (entry_of z)) is)
set_changes f (suc n) (z ∷ l) x y less is by = ap (λ k. entry_of z ∷ k) (set_changes f n l x y (omega arith) is by)

pub past_changes : (f : Output → Output) (n : ℕ) (l : List MemoryEntry) → length l ≤ n → map entry_of l ≡ change n f (map entry_of l)
past_changes f n [] past = refl
past_changes f zero (z ∷ l) past = absurd (omega arith)
past_changes f (suc n) (z ∷ l) past = ap (λ k. entry_of z ∷ k) (past_changes f n l (omega arith))
