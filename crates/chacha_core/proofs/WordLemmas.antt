-- Words and their bytes.
use Rattle.std.proofs.Common.{◌≡◌, ℕ, suc, ◌+◌, ◌-◌, ◌*◌, ◌/◌, ◌%◌, ◌^◌, ◌<◌, ◌≤◌, List, [], ◌∷◌, ◌++◌, length}
use Rattle.std.proofs.Common.{take, drop, refl, sym, ap, ◌∙◌, arith, w32, Fits}
use Rattle.std.proofs.lemmas.List.{append_assoc, take-append-drop, length-take-le, length-append, length-drop}
use Rattle.std.proofs.lemmas.List.{take_at, drop_at, get_or-take, drop_all, append-nil}
use Rattle.std.proofs.lemmas.Simd.{length-put_chunk, take_more_put_chunk}
use Rattle.std.proofs.Math.Seq.{take-add, take-append-add}
use Rattle.std.specs.Int.{to_le_bytes}
use Rattle.std.specs.Simd.Lanes.{digits_l, number_l, Each1, put_chunk}
use borrow.Rule.Slice.PartMut.{put_mid}
use Rattle.byteorder.specs.Endian.{little_number}
use Rattle.chacha_core.specs.ChaCha20.{word_bytes, word_at}

pub word_bytes-append : (xs ys : List ℕ) → word_bytes (xs ++ ys) ≡ word_bytes xs ++ word_bytes ys
word_bytes-append [] ys = refl
word_bytes-append (x ∷ xs) ys =
    ap (λ zs. to_le_bytes w32 x ++ zs) (word_bytes-append xs ys)
    ∙ sym (append_assoc (to_le_bytes w32 x) (word_bytes xs) (word_bytes ys))

pub length-word_bytes : (xs : List ℕ) → length (word_bytes xs) ≡ 4 * length xs
length-word_bytes [] = refl
length-word_bytes (x ∷ xs) =
    let ih = length-word_bytes xs in
    omega (arith, length-append (to_le_bytes w32 x) (word_bytes xs))

-- the bytes of the k words from place i on
pub word_bytes-part : (ws : List ℕ) (k i : ℕ) → i + k ≤ length ws
    → take (4 * k) (drop (4 * i) (word_bytes ws)) ≡ word_bytes (take k (drop i ws))
word_bytes-part ws k i fits =
    let front = take i ws in
    let back = drop i ws in
    let long : length front ≡ i = length-take-le i ws (omega arith) in
    let split : word_bytes ws ≡ word_bytes front ++ word_bytes back =
    ap word_bytes (sym (take-append-drop i ws)) ∙ word_bytes-append front back in
    let at : drop (4 * i) (word_bytes ws) ≡ word_bytes back =
    ap (drop (4 * i)) split ∙ drop_at (word_bytes front) (word_bytes back) (4 * i)
    (omega (arith, length-word_bytes front)) in
    let some : length (take k back) ≡ k = length-take-le k back (omega (arith, length-drop i ws)) in
    let split2 : word_bytes back ≡ word_bytes (take k back) ++ word_bytes (drop k back) =
    ap word_bytes (sym (take-append-drop k back)) ∙ word_bytes-append (take k back) (drop k back) in
    ap (take (4 * k)) (at ∙ split2)
    ∙ take_at (word_bytes (take k back)) (word_bytes (drop k back)) (4 * k)
    (omega (arith, length-word_bytes (take k back)))

-- the lowest digits of a number are those of its lowest word
digits-word : (x rest n : ℕ) → x < 2 ^ 32
    → digits_l 256 (suc (suc (suc (suc n)))) (x + 2 ^ 32 * rest) ≡ to_le_bytes w32 x ++ digits_l 256 n rest
digits-word x rest n small =
    let a : (x + 2 ^ 32 * rest) % 256 ≡ x % 256 = omega arith in
    let b : (x + 2 ^ 32 * rest) / 256 % 256 ≡ x / 256 % 256 = omega arith in
    let c : (x + 2 ^ 32 * rest) / 256 / 256 % 256 ≡ x / 65536 % 256 = omega arith in
    let d : (x + 2 ^ 32 * rest) / 256 / 256 / 256 % 256 ≡ x / 16777216 % 256 = omega arith in
    let e : (x + 2 ^ 32 * rest) / 256 / 256 / 256 / 256 ≡ rest = omega arith in
    rw (a, b, c, d, e) refl

-- words side by side as one number, and its bytes
pub digits-words : (ws : List ℕ) → Each1 (Fits w32) ws
    → digits_l 256 (4 * length ws) (number_l (2 ^ 32) ws) ≡ word_bytes ws
digits-words [] fits = refl
digits-words (w ∷ ws) fits =
    let small : w < 2 ^ 32 = fits.0.fits in
    let four : 4 * suc (length ws) ≡ suc (suc (suc (suc (4 * length ws)))) = omega arith in
    ap (λ (n : ℕ). digits_l 256 n (w + 2 ^ 32 * number_l (2 ^ 32) ws)) four
    ∙ digits-word w (number_l (2 ^ 32) ws) (4 * length ws) small
    ∙ ap (λ (zs : List ℕ). to_le_bytes w32 w ++ zs) (digits-words ws fits.1)

-- a word as `byteorder` reads it
pub word_at-little : (bytes : List ℕ) (i : ℕ) → little_number 4 (drop (4 * i) bytes) ≡ word_at bytes i
unfolding word_at
word_at-little bytes i =
    let zs = drop (4 * i) bytes in
    let a = get_or-take 4 zs 0 0 (omega arith) in
    let b = get_or-take 4 zs 1 0 (omega arith) in
    let c = get_or-take 4 zs 2 0 (omega arith) in
    let d = get_or-take 4 zs 3 0 (omega arith) in
    rw (a, b, c, d) (omega arith)

-- a row of a block's bytes, written after the rows before it
pub row_written : (bytes ws : List ℕ) (row : ℕ) (ys : List ℕ) → row < 4 → length ws ≡ 16 → length bytes ≡ 64
    → ys ≡ take 16 (drop (16 * row) (word_bytes ws))
    → take (16 * row) bytes ≡ take (16 * row) (word_bytes ws)
    → (length (put_mid (16 * row) (64 - 16 * row) bytes
    (put_chunk 0 (take (64 - 16 * row) (drop (16 * row) bytes)) ys)) ≡ 64)
    × (take (16 * (row + 1)) (put_mid (16 * row) (64 - 16 * row) bytes
    (put_chunk 0 (take (64 - 16 * row) (drop (16 * row) bytes)) ys))
    ≡ take (16 * (row + 1)) (word_bytes ws))
row_written bytes ws row ys small words long same before =
    let at = 16 * row in
    let k = 64 - 16 * row in
    let mid = take k (drop at bytes) in
    let whole : length (word_bytes ws) ≡ 64 = omega (arith, length-word_bytes ws) in
    let row_long : length ys ≡ 16 = ap length same
    ∙ length-take-le 16 (drop at (word_bytes ws)) (omega (arith, length-drop at (word_bytes ws))) in
    let mid_long : length mid ≡ k = length-take-le k (drop at bytes) (omega (arith, length-drop at bytes)) in
    let put_long : length (put_chunk 0 mid ys) ≡ k = length-put_chunk 0 mid ys ∙ mid_long in
    let put = put_chunk 0 mid ys in
    let front : take 16 put ≡ ys = take_more_put_chunk 0 mid ys 16 (omega arith) (omega arith) in
    let end : put_mid at k bytes put ≡ take at bytes ++ put =
    ap (λ (zs : List ℕ). take at bytes ++ zs)
    (ap (λ (zs : List ℕ). put ++ zs) (drop_all k (drop at bytes) (omega (arith, length-drop at bytes)))
    ∙ append-nil put) in
    let first : length (take at bytes) ≡ at = length-take-le at bytes (omega arith) in
    let next : 16 * (row + 1) ≡ at + 16 = omega arith in (
      ap length end ∙ omega (arith, length-append (take at bytes) put),
      ap (λ (n : ℕ). take n (put_mid at k bytes put)) next ∙ ap (take (at + 16)) end
          ∙ ap (λ (n : ℕ). take (n + 16) (take at bytes ++ put)) (sym first) ∙ take-append-add (take at bytes) put 16
          ∙ ap (λ (zs : List ℕ). zs ++ take 16 put) before
          ∙ ap (λ (zs : List ℕ). take at (word_bytes ws) ++ zs) (front ∙ same)
          ∙ sym (take-add at 16 (word_bytes ws)) ∙ ap (λ (n : ℕ). take n (word_bytes ws)) (sym next),
    )
