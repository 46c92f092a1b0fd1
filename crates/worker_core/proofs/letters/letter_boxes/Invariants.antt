-- As many boxes as turns.
use Rattle.std.proofs.Common.{◌≡◌, vec_len}
use Rattle.worker_core.proofs.letters.letter_boxes.Given as goal

abbrev pub invariant-loop-n : goal.invariant-loop-n
invariant-loop-n l = vec_len l.boxes ≡ l._n
