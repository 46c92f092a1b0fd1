-- What one more read adds, and what the first one leaves.
use Rattle.std.proofs.Common.{◌≡◌, ℕ, ◌+◌, ◌≤◌, List, ◌++◌, Option, length, take, sym, ap, ◌∙◌, subst, arith, length-append, length-take-le}
use Rattle.std.proofs.lemmas.List.{take-append-le, take-take}
use Rattle.io_core.specs.Streams.{Consumes}
use borrow.Rule.Slice.PartMut.{put_mid, post_of}
use Rattle.std.proofs.Math.Seq.{take-append-add}

-- n bytes were read into a buffer after the first a
pub filled_more : (a k n : ℕ) (xs ys : List ℕ) → a ≤ length xs → n ≤ length ys → take (a + n) (put_mid a k xs ys) ≡ take a xs ++ take n ys
filled_more a k n xs ys h i =
    let rest = ys ++ post_of a k xs in
    ap (λ m. take (m + n) (take a xs ++ rest)) (sym (length-take-le a xs h)) ∙ take-append-add (take a xs) rest n
    ∙ ap (λ l. take a xs ++ l) (take-append-le n ys (post_of a k xs) i)

pub length_more : (xs ys : List ℕ) (n most : ℕ) → n ≤ length ys → length xs + n ≤ most → length (xs ++ take n ys) ≤ most
length_more xs ys n most h i = omega (arith, length-append xs (take n ys), length-take-le n ys h)

-- n bytes were read into the front of a buffer, which was cut there
pub filled_front : (n len : ℕ) (front back rest items : List ℕ) (before after : Option (List ℕ)) → n ≤ length front → n ≤ len
    → items ≡ take n (take len ((front ++ back) ++ rest)) → Consumes before after (take n front) → Consumes before after items
filled_front n len front back rest items before after few short is read =
    let same = take-take n len ((front ++ back) ++ rest) short ∙ take-append-le n (front ++ back) rest (omega (arith, length-append front back)) ∙ take-append-le n front back few in
    subst (Consumes before after) (sym (is ∙ same)) read
