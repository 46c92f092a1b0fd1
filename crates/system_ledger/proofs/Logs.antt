-- A log that was read whole.
use Rattle.std.proofs.Common.{◌≡◌, ◌≢◌, ◌<◌, ◌≤◌, ℕ, List, ◌+◌, ◌++◌, drop, length, slice_index, take, sym, ◌∙◌, ap, subst, arith}
use Rattle.std.proofs.Math.Seq.{take-append_seam}
use Rattle.std.proofs.lemmas.List.{ext_get_or, length-take-le}
use Rattle.sqlite_disk.specs.Disk.{Holds}

-- a buffer as long as the file has its bytes
whole : (file buf : List ℕ) → Holds file 0 buf → length buf ≡ length file → buf ≡ file
whole file buf held same = ext_get_or 0 buf file same (λ i below.
    let at : 0 + i ≡ i = omega arith in sym (subst (λ k. slice_index file k ≡ slice_index buf i) at (held.each i below)))

-- So has the front of a longer buffer: what the file had before the read, and has after it.
pub read_whole : (before mid after buf room : List ℕ) (n : ℕ) → mid ≡ before → after ≡ mid → n ≡ length before
    → n ≤ length room → n ≢ 0 → length buf ≡ length (take n room) → (0 < length (take n room) → Holds mid 0 buf)
    → take n (buf ++ drop n room) ≡ after
read_whole before mid after buf room n one two long fits some filled held =
    let size : length (take n room) ≡ n = length-take-le n room fits in
    let same : length buf ≡ length mid = filled ∙ size ∙ long ∙ ap length (sym one) in
    let read = whole mid buf (held (omega (arith, size, some))) same in
    ap (λ k. take k (buf ++ drop n room)) (sym (filled ∙ size)) ∙ take-append_seam buf (drop n room) ∙ read ∙ sym two
