-- The bytes removed from `rest` were read, and each line that ended used up one of them.
use Rattle.std.proofs.Common.{◌≡◌, ◌≤◌, ℕ, ◌+◌, List, ◌++◌, length}
use Rattle.journal_core.specs.Audit.{HasRead}
use Rattle.journal_core.proofs.progress.Progress.take.Given as goal

abbrev pub invariant-loop-at : goal.invariant-loop-at
invariant-loop-at l =
    (l.self.lines + length l.rest ≤ l.initial.self.lines + length l.initial.rest)
    × ((before : List ℕ) → HasRead l.initial.self before → (front : List ℕ) × (l.initial.rest ≡ front ++ l.rest) × HasRead l.self (before ++ front))

abbrev pub decreases-loop-at : goal.decreases-loop-at
decreases-loop-at l = length l.rest
