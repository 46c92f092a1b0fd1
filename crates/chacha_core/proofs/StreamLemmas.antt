-- A text XORed with a stream: its parts, its length, and the same stream twice.
use Rattle.std.proofs.Common.{◌≡◌, ℕ, suc, ◌+◌, ◌*◌, ◌/◌, ◌%◌, ◌<◌, ◌≤◌, List, [], ◌∷◌, ◌++◌, length, take, drop}
use Rattle.std.proofs.Common.{get_or, slice_index, slice_set, bit_xor, refl, sym, ap, ◌∙◌, arith}
use Rattle.std.proofs.lemmas.List.{append_assoc, drop-drop, length-take-le, length-drop, length-append, append-nil}
use Rattle.std.proofs.lemmas.List.{take_at, drop_at, take_all, drop_all, set-set}
use Rattle.std.proofs.lemmas.Simd.{put_chunk_is}
use Rattle.std.proofs.Math.Seq.{take-add}
use Rattle.std.specs.Int.Bits.{xor_assoc, xor_self, xor_zero_r}
use Rattle.std.specs.Simd.Lanes.{zip2, chunk, put_chunk}
use borrow.Rule.Slice.PartMut.{put_mid}
use Rattle.chacha_core.specs.ChaCha20.{xor_from, chacha20, keystream_byte, block, block_words, start_state, word_bytes}

pub length-xor_from : (f : ℕ → ℕ) (j : ℕ) (bs : List ℕ) → length (xor_from f j bs) ≡ length bs
unfolding xor_from
length-xor_from f j [] = refl
length-xor_from f j (b ∷ bs) = ap suc (length-xor_from f (suc j) bs)

pub xor_from-xor_from : (f : ℕ → ℕ) (j : ℕ) (bs : List ℕ) → xor_from f j (xor_from f j bs) ≡ bs
unfolding xor_from
xor_from-xor_from f j [] = refl
xor_from-xor_from f j (b ∷ bs) = rw (xor_assoc, xor_self, xor_zero_r, xor_from-xor_from f (suc j) bs)

pub xor_from-append : (f : ℕ → ℕ) (j : ℕ) (xs ys : List ℕ) → xor_from f j (xs ++ ys)
    ≡ xor_from f j xs ++ xor_from f (j + length xs) ys
unfolding xor_from
xor_from-append f j [] ys = ap (λ k. xor_from f k ys) (omega arith)
xor_from-append f j (x ∷ xs) ys =
    ap (λ (zs : List ℕ). bit_xor x (f j) ∷ zs)
    (xor_from-append f (suc j) xs ys ∙ ap (λ k. xor_from f (suc j) xs ++ xor_from f k ys) (omega arith))

-- the stream's bytes and the text's, as two lists
pub xor_from-zip2 : (f : ℕ → ℕ) (j : ℕ) (xs ks : List ℕ) → length xs ≡ length ks
    → ((i : ℕ) → i < length xs → f (j + i) ≡ get_or ks i 0) → xor_from f j xs ≡ zip2 bit_xor xs ks
unfolding xor_from
xor_from-zip2 f j [] ks same each = refl
xor_from-zip2 f j (x ∷ xs) [] same each = absurd (omega arith)
xor_from-zip2 f j (x ∷ xs) (k ∷ ks) same each =
    let first : f j ≡ k = ap f (omega arith) ∙ each 0 (omega arith) in
    let rest = xor_from-zip2 f (suc j) xs ks (omega arith)
    (λ i h. ap f (omega arith) ∙ each (suc i) (omega arith)) in
    rw (first, rest) refl

-- two streams that agree at the text's places
pub xor_from-same : (f g : ℕ → ℕ) (j k : ℕ) (xs : List ℕ)
    → ((i : ℕ) → i < length xs → f (j + i) ≡ g (k + i)) → xor_from f j xs ≡ xor_from g k xs
unfolding xor_from
xor_from-same f g j k [] each = refl
xor_from-same f g j k (x ∷ xs) each =
    let first : f j ≡ g k = ap f (omega arith) ∙ each 0 (omega arith) ∙ ap g (omega arith) in
    let rest = xor_from-same f g (suc j) (suc k) xs
    (λ i h. ap f (omega arith) ∙ each (suc i) (omega arith) ∙ ap g (omega arith)) in
    rw (first, rest) refl

pub length-chacha20 : (key nonce : List ℕ) (counter : ℕ) (text : List ℕ) → length (chacha20 key nonce counter text)
    ≡ length text
unfolding chacha20
length-chacha20 key nonce counter text = length-xor_from (keystream_byte key nonce counter) 0 text

pub chacha20-chacha20 : (key nonce : List ℕ) (counter : ℕ) (text : List ℕ)
    → chacha20 key nonce counter (chacha20 key nonce counter text) ≡ text
unfolding chacha20
chacha20-chacha20 key nonce counter text = xor_from-xor_from (keystream_byte key nonce counter) 0 text

-- a loop that has XORed the first a bytes of a text, after one more piece of k bytes
pub xor_step : (f : ℕ → ℕ) (a k : ℕ) (old ys : List ℕ) → a + k ≤ length old
    → ys ≡ xor_from f a (take k (drop a old))
    → xor_from f 0 (take a old) ++ (ys ++ drop k (drop a old)) ≡ xor_from f 0 (take (a + k) old) ++ drop (a + k) old
xor_step f a k old ys fits same =
    let front : take (a + k) old ≡ take a old ++ take k (drop a old) = take-add a k old in
    let long : length (take a old) ≡ a = length-take-le a old (omega arith) in
    let both : xor_from f 0 (take (a + k) old) ≡ xor_from f 0 (take a old) ++ ys =
    ap (xor_from f 0) front ∙ xor_from-append f 0 (take a old) (take k (drop a old))
    ∙ ap (λ j. xor_from f 0 (take a old) ++ xor_from f j (take k (drop a old))) (omega arith)
    ∙ ap (λ zs. xor_from f 0 (take a old) ++ zs) (sym same) in
    rw (both, append_assoc, drop-drop) refl

-- the parts of a text with its first a bytes XORed
pub drop_done : (f : ℕ → ℕ) (a : ℕ) (old : List ℕ) → a ≤ length old
    → drop a (xor_from f 0 (take a old) ++ drop a old) ≡ drop a old
drop_done f a old fits =
    drop_at (xor_from f 0 (take a old)) (drop a old) a (length-xor_from f 0 (take a old) ∙ length-take-le a old fits)

pub take_done : (f : ℕ → ℕ) (a : ℕ) (old : List ℕ) → a ≤ length old
    → take a (xor_from f 0 (take a old) ++ drop a old) ≡ xor_from f 0 (take a old)
take_done f a old fits =
    take_at (xor_from f 0 (take a old)) (drop a old) a (length-xor_from f 0 (take a old) ∙ length-take-le a old fits)

-- a loop that has XORed the first a bytes of a text, after k more bytes by vectors
pub xor_chunk : (f : ℕ → ℕ) (a k : ℕ) (old cur ks : List ℕ) → a + k ≤ length old
    → cur ≡ xor_from f 0 (take a old) ++ drop a old → length ks ≡ k
    → ((i : ℕ) → i < k → f (a + i) ≡ get_or ks i 0)
    → put_chunk a cur (zip2 bit_xor (chunk a k cur) ks) ≡ xor_from f 0 (take (a + k) old) ++ drop (a + k) old
xor_chunk f a k old cur ks fits now long each =
    let behind : drop a cur ≡ drop a old = ap (drop a) now ∙ drop_done f a old (omega arith) in
    let front : take a cur ≡ xor_from f 0 (take a old) = ap (take a) now ∙ take_done f a old (omega arith) in
    let piece = take k (drop a old) in
    let size : length piece ≡ k = length-take-le k (drop a old) (omega (arith, length-drop a old)) in
    let stream : xor_from f a piece ≡ zip2 bit_xor piece ks =
    xor_from-zip2 f a piece ks (omega arith) (λ i h. each i (omega arith)) in
    let ys = zip2 bit_xor (chunk a k cur) ks in
    let ys_is : ys ≡ xor_from f a piece = ap (λ zs. zip2 bit_xor (take k zs) ks) behind ∙ sym stream in
    let ys_long : length ys ≡ k = ap length ys_is ∙ length-xor_from f a piece ∙ size in
    let whole : length cur ≡ length old =
    ap length now ∙ length-append (xor_from f 0 (take a old)) (drop a old)
    ∙ omega (arith, length-xor_from f 0 (take a old), length-take-le a old (omega arith), length-drop a old) in
    put_chunk_is a cur ys (omega arith)
    ∙ ap (λ n. take a cur ++ (ys ++ drop n (drop a cur))) ys_long
    ∙ ap (λ zs. zs ++ (ys ++ drop k (drop a cur))) front
    ∙ ap (λ zs. xor_from f 0 (take a old) ++ (ys ++ drop k zs)) behind
    ∙ xor_step f a k old ys fits ys_is

-- the whole text is XORed
pub xor_done : (f : ℕ → ℕ) (a : ℕ) (old : List ℕ) → length old ≤ a
    → xor_from f 0 (take a old) ++ drop a old ≡ xor_from f 0 old
xor_done f a old all = rw (take_all a old all, drop_all a old all, append-nil) refl

-- bytes after the text don't matter
pub take-xor_from : (f : ℕ → ℕ) (old tail : List ℕ) → take (length old) (xor_from f 0 (old ++ tail)) ≡ xor_from f 0 old
take-xor_from f old tail =
    ap (take (length old)) (xor_from-append f 0 old tail)
    ∙ take_at (xor_from f 0 old) (xor_from f (0 + length old) tail) (length old) (length-xor_from f 0 old)

-- a byte of the keystream, by its block
pub keystream_byte-block : (key nonce : List ℕ) (counter i j : ℕ) → j < 64
    → keystream_byte key nonce counter (64 * i + j) ≡ slice_index (block key (counter + i) nonce) j
unfolding keystream_byte
keystream_byte-block key nonce counter i j small =
    let place : (64 * i + j) / 64 ≡ i = omega arith in
    let byte : (64 * i + j) % 64 ≡ j = omega arith in
    rw (place, byte) refl

-- a block of the text, or the rest of it, XORed with the keystream
pub xor_from-block : (key nonce : List ℕ) (counter i : ℕ) (text : List ℕ) → length text ≤ 64
    → xor_from (λ j. slice_index (block key (counter + i) nonce) j) 0 text
    ≡ xor_from (keystream_byte key nonce counter) (64 * i) text
xor_from-block key nonce counter i text small =
    xor_from-same (λ j. slice_index (block key (counter + i) nonce) j) (keystream_byte key nonce counter) 0
    (64 * i) text
    (λ j h. ap (slice_index (block key (counter + i) nonce)) (omega arith)
    ∙ sym (keystream_byte-block key nonce counter i j (omega arith)))

-- a state with another counter
pub start_state-set : (key nonce state : List ℕ) (counter : ℕ) → slice_set state 12 0 ≡ start_state key 0 nonce
    → slice_set state 12 counter ≡ start_state key counter nonce
start_state-set key nonce state counter same =
    sym (set-set state 12 0 counter) ∙ ap (λ (s : List ℕ). slice_set s 12 counter) same

-- a text whose first i blocks are XORed with the keystream, after k more bytes, of the next block
pub apply_step : (key nonce : List ℕ) (first i k : ℕ) (old cur words piece : List ℕ) → 64 * i + k ≤ length old → k ≤ 64
    → cur ≡ xor_from (keystream_byte key nonce first) 0 (take (64 * i) old) ++ drop (64 * i) old
    → words ≡ block_words (start_state key (first + i) nonce)
    → piece ≡ xor_from (λ j. slice_index (word_bytes words) j) 0 (take k (drop (64 * i) cur))
    → put_mid (64 * i) k cur piece
    ≡ xor_from (keystream_byte key nonce first) 0 (take (64 * i + k) old) ++ drop (64 * i + k) old
unfolding block
apply_step key nonce first i k old cur words piece fits small now same made =
    let f = keystream_byte key nonce first in
    let a = 64 * i in
    let behind : drop a cur ≡ drop a old = ap (drop a) now ∙ drop_done f a old (omega arith) in
    let front : take a cur ≡ xor_from f 0 (take a old) = ap (take a) now ∙ take_done f a old (omega arith) in
    let text = take k (drop a old) in
    let size : length text ≡ k = length-take-le k (drop a old) (omega (arith, length-drop a old)) in
    let piece_is : piece ≡ xor_from f a text =
    made
    ∙ ap (λ (zs : List ℕ). xor_from (λ j. slice_index (word_bytes words) j) 0 (take k zs)) behind
    ∙ ap (λ (ws : List ℕ). xor_from (λ j. slice_index (word_bytes ws) j) 0 text) same
    ∙ xor_from-block key nonce first i text (omega arith) in
    ap (λ (zs : List ℕ). zs ++ (piece ++ drop k (drop a cur))) front
    ∙ ap (λ (zs : List ℕ). xor_from f 0 (take a old) ++ (piece ++ drop k zs)) behind
    ∙ xor_step f a k old piece fits piece_is

-- a text of two blocks; the second may be short
pub chacha20-two_blocks : (key nonce : List ℕ) (counter : ℕ) (first second : List ℕ) → length first ≡ 64
    → length second ≤ 64
    → chacha20 key nonce counter (first ++ second)
    ≡ xor_from (slice_index (block key counter nonce)) 0 first ++ xor_from
    (slice_index (block key (counter + 1) nonce)) 0 second
unfolding chacha20
chacha20-two_blocks key nonce counter first second whole short =
    let f = keystream_byte key nonce counter in
    let here : counter + 0 ≡ counter = omega arith in
    xor_from-append f 0 first second
    ∙ ap (λ (n : ℕ). xor_from f 0 first ++ xor_from f n second) (omega arith)
    ∙ ap (λ (zs : List ℕ). zs ++ xor_from f (64 * 1) second)
    (sym (xor_from-block key nonce counter 0 first (omega arith)))
    ∙ ap (λ (n : ℕ). xor_from (slice_index (block key n nonce)) 0 first ++ xor_from f (64 * 1) second) here
    ∙ ap (λ (zs : List ℕ). xor_from (slice_index (block key counter nonce)) 0 first ++ zs)
    (sym (xor_from-block key nonce counter 1 second short))

-- the keystream from m blocks on
pub chacha20-behind : (key nonce : List ℕ) (first m : ℕ) (text : List ℕ)
    → chacha20 key nonce (first + m) text ≡ xor_from (keystream_byte key nonce first) (64 * m) text
unfolding chacha20 keystream_byte
chacha20-behind key nonce first m text =
    xor_from-same (keystream_byte key nonce (first + m)) (keystream_byte key nonce first) 0 (64 * m) text
    (λ j h.
    let place : first + m + (0 + j) / 64 ≡ first + (64 * m + j) / 64 = omega arith in
    let byte : (0 + j) % 64 ≡ (64 * m + j) % 64 = omega arith in
    ap (λ (n : ℕ). slice_index (block key n nonce) ((0 + j) % 64)) place
    ∙ ap (slice_index (block key (first + (64 * m + j) / 64) nonce)) byte)

-- a text in two parts; the first is whole blocks
pub chacha20-append : (key nonce : List ℕ) (first m : ℕ) (xs ys : List ℕ) → length xs ≡ 64 * m
    → chacha20 key nonce first (xs ++ ys) ≡ chacha20 key nonce first xs ++ chacha20 key nonce (first + m) ys
unfolding chacha20
chacha20-append key nonce first m xs ys long =
    let f = keystream_byte key nonce first in
    xor_from-append f 0 xs ys
    ∙ ap (λ (n : ℕ). xor_from f 0 xs ++ xor_from f n ys) (omega arith)
    ∙ ap (λ (zs : List ℕ). xor_from f 0 xs ++ zs) (sym (chacha20-behind key nonce first m ys))

-- a text whose first a bytes, m whole blocks, are encrypted, after k more bytes
pub chacha20_step : (key nonce : List ℕ) (first m a k : ℕ) (old cur : List ℕ) → a ≡ 64 * m → a + k ≤ length old
    → cur ≡ chacha20 key nonce first (take a old) ++ drop a old
    → take a cur ++ (chacha20 key nonce (first + m) (take k (drop a cur)) ++ drop (a + k) cur)
    ≡ chacha20 key nonce first (take (a + k) old) ++ drop (a + k) old
unfolding chacha20
chacha20_step key nonce first m a k old cur whole fits now =
    let f = keystream_byte key nonce first in
    let behind : drop a cur ≡ drop a old = ap (drop a) now ∙ drop_done f a old (omega arith) in
    let front : take a cur ≡ xor_from f 0 (take a old) = ap (take a) now ∙ take_done f a old (omega arith) in
    let piece = take k (drop a old) in
    let ys = chacha20 key nonce (first + m) piece in
    let stream : ys ≡ xor_from f a piece =
    chacha20-behind key nonce first m piece ∙ ap (λ (n : ℕ). xor_from f n piece) (sym whole) in
    let end : drop (a + k) cur ≡ drop k (drop a old) = sym (drop-drop k a cur) ∙ ap (drop k) behind in
    ap (λ (zs : List ℕ). zs ++ (chacha20 key nonce (first + m) (take k (drop a cur)) ++ drop (a + k) cur)) front
    ∙ ap (λ (zs : List ℕ). xor_from f 0 (take a old) ++ (chacha20 key nonce (first + m) (take k zs) ++ drop
    (a + k) cur)) behind
    ∙ ap (λ (zs : List ℕ). xor_from f 0 (take a old) ++ (ys ++ zs)) end
    ∙ xor_step f a k old ys fits stream

-- the whole text is encrypted
pub chacha20_done : (key nonce : List ℕ) (first n : ℕ) (old : List ℕ) → length old ≤ n
    → chacha20 key nonce first (take n old) ++ drop n old ≡ chacha20 key nonce first old
unfolding chacha20
chacha20_done key nonce first n old all = xor_done (keystream_byte key nonce first) n old all

-- a text whose first a bytes, m whole blocks, are encrypted, after the rest of it
pub chacha20_end : (key nonce : List ℕ) (first m a k : ℕ) (old cur piece : List ℕ) → a ≡ 64 * m → a + k ≡ length old
    → cur ≡ chacha20 key nonce first (take a old) ++ drop a old
    → piece ≡ chacha20 key nonce (first + m) (take k (drop a cur))
    → take a cur ++ (piece ++ drop k (drop a cur)) ≡ chacha20 key nonce first old
chacha20_end key nonce first m a k old cur piece whole all now made =
    ap (λ (zs : List ℕ). take a cur ++ (zs ++ drop k (drop a cur))) made
    ∙ ap (λ (zs : List ℕ). take a cur ++ (chacha20 key nonce (first + m) (take k (drop a cur)) ++ zs))
    (drop-drop k a cur)
    ∙ chacha20_step key nonce first m a k old cur whole (omega arith) now
    ∙ chacha20_done key nonce first (a + k) old (omega arith)

-- a text that is one piece
pub chacha20_whole : (key nonce : List ℕ) (first n : ℕ) (text : List ℕ) → length text ≤ n
    → take 0 text ++ (chacha20 key nonce first (take n (drop 0 text)) ++ drop n text) ≡ chacha20 key nonce first text
chacha20_whole key nonce first n text all = rw (take_all n text all, drop_all n text all, append-nil) refl

-- bytes after a text don't matter
pub take-chacha20 : (key nonce : List ℕ) (first : ℕ) (text tail : List ℕ)
    → take (length text) (chacha20 key nonce first (text ++ tail)) ≡ chacha20 key nonce first text
unfolding chacha20
take-chacha20 key nonce first text tail = take-xor_from (keystream_byte key nonce first) text tail
