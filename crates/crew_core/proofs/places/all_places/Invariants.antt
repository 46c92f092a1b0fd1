use Rattle.std.proofs.Common.{◌≡◌, ◌≤◌, [], All, vec_len}
use Rattle.crew_core.proofs.places.all_places.Given as goal

abbrev pub invariant-loop : goal.invariant-loop
invariant-loop l =
    (vec_len l.all ≡ l.counter) × All (λ places. (places.done ≡ []) × (l.room ≤ places.room)) l.all.items
