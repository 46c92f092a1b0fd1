-- What one more read adds to what is held.
use Rattle.std.proofs.Common.{◌≡◌, ℕ, ◌+◌, ◌≤◌, List, ◌++◌, length, take, Option, Result, Ok, Err, IfOk, sym, ap, ◌∙◌, length-take-le, length-append, append_assoc}
use Rattle.std.proofs.lemmas.List.{take-append-le, take-take}
use Rattle.std.proofs.KnownBytes.{Consumes-trans}
use borrow.Rule.Slice.PartMut.{put_mid, post_of}
use Rattle.std.proofs.Math.Seq.{take-append-add}
use Rattle.std.specs.Io.{ReadsAtMost}
use Rattle.io_core.specs.Streams.{Consumes, ReadConsumes}

-- n bytes were read into a buffer after the first a
filled_more : (a k n : ℕ) (xs ys : List ℕ) → a ≤ length xs → n ≤ length ys → take (a + n) (put_mid a k xs ys) ≡ take a xs ++ take n ys
filled_more a k n xs ys h i =
    let rest = ys ++ post_of a k xs in
    ap (λ m. take (m + n) (take a xs ++ rest)) (sym (length-take-le a xs h)) ∙ take-append-add (take a xs) rest n
    ∙ ap (λ l. take a xs ++ l) (take-append-le n ys (post_of a k xs) i)

-- what a read gave is after the first a
pub read_behind : {E : Type 0} (left left' : Option (List ℕ)) (r : Result ℕ E) (a k : ℕ) (xs ys : List ℕ)
    → a ≤ length xs → ReadsAtMost r ys → ReadConsumes left left' r ys
    → IfOk r (λ n. (read : List ℕ) × Consumes left left' read × (take (a + n) (put_mid a k xs ys) ≡ take a xs ++ read) × (length read ≡ n))
read_behind left left' (Ok n) a k xs ys inside most read =
    (take n ys, read.0, filled_more a k n xs ys inside most.0, length-take-le n ys most.0)
read_behind left left' (Err e) a k xs ys inside most read = tt

-- what comes before a front is unchanged if the front is
pub still_held : (held filled : ℕ) (xs ys : List ℕ) → held ≤ filled → take filled ys ≡ take filled xs → take held ys ≡ take held xs
still_held held filled xs ys within same =
    sym (take-take held filled ys within) ∙ ap (take held) same ∙ take-take held filled xs within

-- how many bytes were read after what was held
pub read_length : (held filled : ℕ) (xs ys read : List ℕ) → held ≤ length xs → filled ≤ length ys
    → take filled ys ≡ take held xs ++ read → filled ≡ held + length read
read_length held filled xs ys read inside within is =
    sym (length-take-le filled ys within) ∙ ap length is ∙ length-append (take held xs) read
    ∙ ap (λ n. n + length read) (length-take-le held xs inside)

-- one more read after what was read so far
pub read_more : (left left' left'' : Option (List ℕ)) (held filled n : ℕ) (xs ys zs read more : List ℕ)
    → Consumes left left' read → take filled ys ≡ take held xs ++ read
    → Consumes left' left'' more → take (filled + n) zs ≡ take filled ys ++ more
    → Consumes left left'' (read ++ more) × (take (filled + n) zs ≡ take held xs ++ (read ++ more))
read_more left left' left'' held filled n xs ys zs read more before is then grown = (
  Consumes-trans _ _ _ _ _ before then,
  grown ∙ ap (λ l. l ++ more) is ∙ append_assoc (take held xs) read more,
)
