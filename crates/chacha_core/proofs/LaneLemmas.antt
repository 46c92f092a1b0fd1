-- What vectors of n lanes compute, lane by lane; and the rows of blocks side by side, as bytes of the keystream.
use Rattle.std.proofs.Common.{◌≡◌, ℕ, zero, suc, ◌+◌, ◌-◌, ◌*◌, ◌/◌, ◌%◌, ◌^◌, ◌<◌, ◌≤◌, List, [], ◌∷◌, ◌++◌, length}
use Rattle.std.proofs.Common.{take, drop, replicate, get_or, slice_index, bit_or, bit_xor, refl, sym, ap, ap₂, ◌∙◌}
use Rattle.std.proofs.Common.{arith, subst}
use Rattle.std.proofs.lemmas.Simd.{length-zip2, get_or-zip2, length-replicate, get_or-replicate}
use Rattle.std.proofs.lemmas.List.{get_or-take, get_or-drop, get_or_append_left, get_or-append-add}
use Rattle.std.specs.Simd.Lanes.{zip2}
use Rattle.chacha_core.specs.ChaCha20.{add32, xor_roll, start_state, block_words, word_bytes, block, keystream_byte}
use Rattle.chacha_core.specs.ChaCha20.{xor_from, chacha20}
use Rattle.chacha_core.specs.Lanes.{lane}
use Rattle.chacha_core.proofs.StreamLemmas.{xor_from-same}
use Rattle.chacha_core.proofs.WordLemmas.{word_bytes-part}

-- what holds of each lane, of four and of eight
pub below_four : (P : ℕ → Type 0) → P 0 → P 1 → P 2 → P 3 → (j : ℕ) → j < 4 → P j
below_four P a b c d zero small = a
below_four P a b c d (suc zero) small = b
below_four P a b c d (suc (suc zero)) small = c
below_four P a b c d (suc (suc (suc zero))) small = d
below_four P a b c d (suc (suc (suc (suc n)))) small = absurd (omega arith)

pub below_eight : (P : ℕ → Type 0) → P 0 → P 1 → P 2 → P 3 → P 4 → P 5 → P 6 → P 7 → (j : ℕ) → j < 8 → P j
below_eight P a b c d e f g h zero small = a
below_eight P a b c d e f g h (suc zero) small = b
below_eight P a b c d e f g h (suc (suc zero)) small = c
below_eight P a b c d e f g h (suc (suc (suc zero))) small = d
below_eight P a b c d e f g h (suc (suc (suc (suc zero)))) small = e
below_eight P a b c d e f g h (suc (suc (suc (suc (suc zero))))) small = f
below_eight P a b c d e f g h (suc (suc (suc (suc (suc (suc zero)))))) small = g
below_eight P a b c d e f g h (suc (suc (suc (suc (suc (suc (suc zero))))))) small = h
below_eight P a b c d e f g h (suc (suc (suc (suc (suc (suc (suc (suc n)))))))) small = absurd (omega arith)

-- an operator's lane
zip_lane : (f : ℕ → ℕ → ℕ) (n : ℕ) (a b : List ℕ) → length a ≡ n → length b ≡ n → (j : ℕ) → j < n
    → slice_index (zip2 f a b) j ≡ f (slice_index a j) (slice_index b j)
zip_lane f n a b la lb j small = get_or-zip2 f a b j 0 0 0 (omega arith) (omega arith)

zip_long : (f : ℕ → ℕ → ℕ) (n : ℕ) (a b : List ℕ) → length a ≡ n → length b ≡ n → length (zip2 f a b) ≡ n
zip_long f n a b la lb = length-zip2 f a b (la ∙ sym lb) ∙ la

-- an operator's lane, where the second vector is one word in each lane
splat_lane : (f : ℕ → ℕ → ℕ) (n : ℕ) (a : List ℕ) (y : ℕ) → length a ≡ n → (j : ℕ) → j < n
    → slice_index (zip2 f a (replicate n y)) j ≡ f (slice_index a j) y
splat_lane f n a y la j small =
    zip_lane f n a (replicate n y) la (length-replicate n y) j small
    ∙ ap (f (slice_index a j)) (get_or-replicate n j y 0 small)

pub add_lanes : (n : ℕ) (a b : List ℕ) → length a ≡ n → length b ≡ n → (j : ℕ) → j < n
    → slice_index (zip2 (λ x y. (x + y) % 2 ^ 32) a b) j ≡ add32 (slice_index a j) (slice_index b j)
add_lanes n a b la lb j small = zip_lane (λ x y. (x + y) % 2 ^ 32) n a b la lb j small

-- two shifts of a word, ORed, are a roll
roll_word : (x y k : ℕ) → 0 < k → k < 32
    → bit_or (bit_xor x y * 2 ^ k % 2 ^ 32) (bit_xor x y / 2 ^ (32 - k)) ≡ xor_roll x y k
roll_word x y k low high =
    let left : k % 32 ≡ k = omega arith in
    let right : (32 - k) % 32 ≡ 32 - k = omega arith in
    rw (left, right) refl

pub roll_lanes : (n k : ℕ) → 0 < k → k < 32 → (a b : List ℕ) → length a ≡ n → length b ≡ n → (j : ℕ) → j < n
    → slice_index (zip2 bit_or
    (zip2 (λ x n. x * 2 ^ n % 2 ^ 32) (zip2 bit_xor a b) (replicate n k))
    (zip2 (λ x n. x / 2 ^ n) (zip2 bit_xor a b) (replicate n (32 - k)))) j
    ≡ xor_roll (slice_index a j) (slice_index b j) k
roll_lanes n k low high a b la lb j small =
    let up = λ (x n : ℕ). x * 2 ^ n % 2 ^ 32 in
    let down = λ (x n : ℕ). x / 2 ^ n in
    let x = zip2 bit_xor a b in
    let long : length x ≡ n = zip_long bit_xor n a b la lb in
    let here = zip_lane bit_xor n a b la lb j small in
    zip_lane bit_or n (zip2 up x (replicate n k)) (zip2 down x (replicate n (32 - k)))
    (zip_long up n x (replicate n k) long (length-replicate n k))
    (zip_long down n x (replicate n (32 - k)) long (length-replicate n (32 - k))) j small
    ∙ ap₂ bit_or
    (splat_lane up n x k long j small ∙ ap (λ (w : ℕ). up w k) here)
    (splat_lane down n x (32 - k) long j small ∙ ap (λ (w : ℕ). down w (32 - k)) here)
    ∙ roll_word (slice_index a j) (slice_index b j) k low high

-- lanes of two joined vectors
first_lane : (n : ℕ) (a e : List ℕ) → length a ≡ n → (j : ℕ) → j < n → get_or (a ++ e) j 0 ≡ slice_index a j
first_lane n a e la j small = get_or_append_left a e 0 j (omega arith)

second_lane : (n : ℕ) (a e : List ℕ) → length a ≡ n → (j : ℕ) → get_or (a ++ e) (n + j) 0 ≡ slice_index e j
second_lane n a e la j = ap (λ (m : ℕ). get_or (a ++ e) (m + j) 0) (sym la) ∙ get_or-append-add a e j 0

-- lane j of vectors that were joined in pairs, of four and of eight
pub turned_four : (a b c d : List ℕ) → length a ≡ 4 → length c ≡ 4 → (j : ℕ) → j < 4
    → get_or (a ++ b) j 0 ∷ get_or (a ++ b) (4 + j) 0 ∷ get_or (c ++ d) j 0 ∷ get_or (c ++ d) (4 + j) 0 ∷ []
    ≡ slice_index a j ∷ slice_index b j ∷ slice_index c j ∷ slice_index d j ∷ []
turned_four a b c d la lc j small =
    rw (
      first_lane 4 a b la j small,
      first_lane 4 c d lc j small,
      second_lane 4 a b la j,
      second_lane 4 c d lc j,
    ) refl

pub turned_eight : (a b c d e f g h : List ℕ) → length a ≡ 8 → length c ≡ 8 → length e ≡ 8 → length g ≡ 8
    → (j : ℕ) → j < 8
    → get_or (a ++ b) j 0 ∷ get_or (a ++ b) (8 + j) 0 ∷ get_or (c ++ d) j 0 ∷ get_or (c ++ d) (8 + j) 0
    ∷ get_or (e ++ f) j 0 ∷ get_or (e ++ f) (8 + j) 0 ∷ get_or (g ++ h) j 0 ∷ get_or (g ++ h) (8 + j) 0 ∷ []
    ≡ slice_index a j ∷ slice_index b j ∷ slice_index c j ∷ slice_index d j
    ∷ slice_index e j ∷ slice_index f j ∷ slice_index g j ∷ slice_index h j ∷ []
turned_eight a b c d e f g h la lc le lg j small =
    rw (
      first_lane 8 a b la j small,
      first_lane 8 c d lc j small,
      first_lane 8 e f le j small,
      first_lane 8 g h lg j small,
      second_lane 8 a b la j,
      second_lane 8 c d lc j,
      second_lane 8 e f le j,
      second_lane 8 g h lg j,
    ) refl

-- what holds of each of the sixteen words
pub below_sixteen : (P : ℕ → Type 0) → P 0 → P 1 → P 2 → P 3 → P 4 → P 5 → P 6 → P 7
    → P 8 → P 9 → P 10 → P 11 → P 12 → P 13 → P 14 → P 15 → (k : ℕ) → k < 16 → P k
below_sixteen P a0 a1 a2 a3 b0 b1 b2 b3 c0 c1 c2 c3 d0 d1 d2 d3 k small =
    let place : 4 * (k / 4) + k % 4 ≡ k = omega arith in
    subst P place (below_four (λ row. (col : ℕ) → col < 4 → P (4 * row + col))
    (below_four _ a0 a1 a2 a3) (below_four _ b0 b1 b2 b3) (below_four _ c0 c1 c2 c3) (below_four _ d0 d1 d2 d3)
    (k / 4) (omega arith) (k % 4) (omega arith))

-- a state whose rows after the first are rotated back by one, two and three words
abbrev pub turned_back : List ℕ → List ℕ
turned_back s =
    slice_index s 0 ∷ slice_index s 1 ∷ slice_index s 2 ∷ slice_index s 3
    ∷ slice_index s 7 ∷ slice_index s 4 ∷ slice_index s 5 ∷ slice_index s 6
    ∷ slice_index s 10 ∷ slice_index s 11 ∷ slice_index s 8 ∷ slice_index s 9
    ∷ slice_index s 13 ∷ slice_index s 14 ∷ slice_index s 15 ∷ slice_index s 12 ∷ []

-- byte i of the k words from word h on
row_byte : (ws : List ℕ) (k h i : ℕ) → length ws ≡ 16 → h + k ≤ 16 → i < 4 * k
    → slice_index (word_bytes (take k (drop h ws))) i ≡ slice_index (word_bytes ws) (4 * h + i)
row_byte ws k h i long within small =
    ap (λ (zs : List ℕ). slice_index zs i) (sym (word_bytes-part ws k h (omega (arith, long))))
    ∙ get_or-take (4 * k) (drop (4 * h) (word_bytes ws)) i 0 small
    ∙ get_or-drop (4 * h) (word_bytes ws) i 0

-- byte j of the rows of four blocks, four rows a block, and of eight, two rows a block
pub byte_of_four : (x rows : List (List ℕ)) (j : ℕ) → j < 256
    → ((k : ℕ) → k < 16 → get_or rows k [] ≡ take 4 (drop (4 * (k % 4)) (lane (k / 4) x)))
    → slice_index (word_bytes (get_or rows (j / 16) [])) (j % 16) ≡ slice_index (word_bytes (lane (j / 64) x)) (j % 64)
byte_of_four x rows j small turned =
    let block : j / 16 / 4 ≡ j / 64 = omega arith in
    let place : 4 * (4 * (j / 16 % 4)) + j % 16 ≡ j % 64 = omega arith in
    ap (λ (zs : List ℕ). slice_index (word_bytes zs) (j % 16)) (turned (j / 16) (omega arith))
    ∙ row_byte (lane (j / 16 / 4) x) 4 (4 * (j / 16 % 4)) (j % 16) refl (omega arith) (omega arith)
    ∙ ap₂ (λ (n i : ℕ). slice_index (word_bytes (lane n x)) i) block place

pub byte_of_eight : (x rows : List (List ℕ)) (j : ℕ) → j < 512
    → ((k : ℕ) → k < 16 → get_or rows k [] ≡ take 8 (drop (8 * (k % 2)) (lane (k / 2) x)))
    → slice_index (word_bytes (get_or rows (j / 32) [])) (j % 32) ≡ slice_index (word_bytes (lane (j / 64) x)) (j % 64)
byte_of_eight x rows j small turned =
    let block : j / 32 / 2 ≡ j / 64 = omega arith in
    let place : 4 * (8 * (j / 32 % 2)) + j % 32 ≡ j % 64 = omega arith in
    ap (λ (zs : List ℕ). slice_index (word_bytes zs) (j % 32)) (turned (j / 32) (omega arith))
    ∙ row_byte (lane (j / 32 / 2) x) 8 (8 * (j / 32 % 2)) (j % 32) refl (omega arith) (omega arith)
    ∙ ap₂ (λ (n i : ℕ). slice_index (word_bytes (lane n x)) i) block place

-- the bytes of blocks side by side, as a keystream
pub lanes-keystream : (lanes : ℕ) (key nonce : List ℕ) (first : ℕ) (x : List (List ℕ)) (f : ℕ → ℕ) (text : List ℕ)
    → length text ≡ 64 * lanes
    → ((j : ℕ) → j < lanes → lane j x ≡ block_words (start_state key (first + j) nonce))
    → ((j : ℕ) → j < 64 * lanes → f j ≡ slice_index (word_bytes (lane (j / 64) x)) (j % 64))
    → xor_from f 0 text ≡ chacha20 key nonce first text
unfolding chacha20 keystream_byte block
lanes-keystream lanes key nonce first x f text long blocks bytes =
    let g = keystream_byte key nonce first in
    xor_from-same f g 0 0 text (λ j h.
    let here : 0 + j ≡ j = omega arith in
    ap f here
    ∙ bytes j (omega (arith, long))
    ∙ ap (λ (zs : List ℕ). slice_index (word_bytes zs) (j % 64)) (blocks (j / 64) (omega (arith, long)))
    ∙ ap g (sym here))
