-- What one more write adds, and what is missing after a failed one.
use Rattle.std.proofs.Common.{◌≡◌, ℕ, ◌-◌, ◌<◌, List, ◌++◌, length, take, drop, Option, None, Some, Result, Ok, Err, OnErr, sym, ap, ◌∙◌, append_assoc, take-append-drop, arith, length-append}
use Rattle.std.proofs.lemmas.List.{take_rest}
use Rattle.io_core.specs.Streams.{Appends, Keeps, LacksSome}

-- n more bytes of the rest were written
pub written_more : (all done rest : List ℕ) (n : ℕ) → all ≡ done ++ rest → all ≡ (done ++ take n rest) ++ take (length rest - n) (drop n rest)
written_more all done rest n e =
    e ∙ ap (λ l. done ++ l) (sym (take-append-drop n rest)) ∙ sym (append_assoc done (take n rest) (drop n rest)) ∙ ap (λ l. (done ++ take n rest) ++ l) (sym (take_rest rest n))

-- if a write failed with some bytes left, not all were written
pub lacks_rest : (old before new : Option (List ℕ)) (all done rest : List ℕ) → all ≡ done ++ rest → 0 < length rest
    → Appends old before done → Keeps before new → LacksSome old new all
lacks_rest None before new all done rest split some wrote kept = tt
lacks_rest (Some xs) None new all done rest split some wrote kept = absurd wrote
lacks_rest (Some xs) (Some ys) None all done rest split some wrote kept = absurd kept
lacks_rest (Some xs) (Some ys) (Some zs) all done rest split some wrote kept = λ whole.
    let same : length (xs ++ done) ≡ length (xs ++ all) = ap (length {A = ℕ}) (sym wrote ∙ sym kept ∙ whole) in
    omega (arith, length-append xs done, length-append xs all, ap (length {A = ℕ}) split, length-append done rest)

pub on_err : {T E : Type 0} (r : Result T E) (P : Type 0) → P → OnErr r P
on_err (Ok x) P p = tt
on_err (Err e) P p = p
