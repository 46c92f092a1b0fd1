-- Prefixes of lists of bytes.
use Rattle.std.proofs.Common.{◌≡◌, ℕ, ◌+◌, ◌-◌, ◌<◌, ◌≤◌, ⊎_elim, min, List, ◌++◌, length, take, sym, ap, ◌∙◌, append-nil, arith, length-take-le}
use Rattle.std.proofs.lemmas.Bool.{cases_lt}
use borrow.Rule.Slice.PartMut.{put_mid, post_of}
use Rattle.std.proofs.Math.Seq.{take-append-add}
use Rattle.std.proofs.lemmas.List.{take-append-le, take_all, length-take}

-- n bytes were copied into a buffer after the first a
pub filled_more : (a k n : ℕ) (xs ys : List ℕ) → a ≤ length xs → n ≤ length ys → take (a + n) (put_mid a k xs ys) ≡ take a xs ++ take n ys
filled_more a k n xs ys h i =
    let rest = ys ++ post_of a k xs in
    ap (λ m. take (m + n) (take a xs ++ rest)) (sym (length-take-le a xs h)) ∙ take-append-add (take a xs) rest n ∙ ap (λ l. take a xs ++ l) (take-append-le n ys (post_of a k xs) i)

-- the first `most` bytes, if what fits of the piece is appended to those of the rest
pub kept_more : (most k n : ℕ) (rest piece : List ℕ) → length (take most rest) ≡ k → n ≡ min (length piece) (most - k) → take most rest ++ take n piece ≡ take most (rest ++ piece)
kept_more most k n rest piece long fits = ⊎_elim short whole (cases_lt (length rest) most)
  where
    count : min most (length rest) ≡ k
    count = sym (length-take most rest) ∙ long

    short : length rest < most → take most rest ++ take n piece ≡ take most (rest ++ piece)
    short less =
        let all : take most rest ≡ rest = take_all most rest (let c = count in omega arith) in
        let same : k ≡ length rest = let c = count in omega arith in
        let split : most ≡ length rest + (most - k) = omega arith in
        ap (λ l. l ++ take n piece) all ∙ ap (λ l. rest ++ l) (⊎_elim (λ few. cut (omega arith)) (λ many. all_of (omega arith) (omega arith)) (cases_lt (most - k) (length piece)))
        ∙ sym (take-append-add rest piece (most - k)) ∙ ap (λ m. take m (rest ++ piece)) (sym split)
      where
        cut : n ≡ most - k → take n piece ≡ take (most - k) piece
        cut e = ap (λ m. take m piece) e

        all_of : length piece ≤ n → length piece ≤ most - k → take n piece ≡ take (most - k) piece
        all_of a b = take_all n piece a ∙ sym (take_all (most - k) piece b)

    whole : most ≤ length rest → take most rest ++ take n piece ≡ take most (rest ++ piece)
    whole more =
        let c = count in
        let nothing : n ≡ 0 = omega arith in
        ap (λ m. take most rest ++ take m piece) nothing ∙ append-nil (take most rest) ∙ sym (take-append-le most rest piece more)
