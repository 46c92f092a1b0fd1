-- ChaCha20 (RFC 8439, 2.1 to 2.4). A word is a number below 2 ^ 32, a byte one below 256, and keys,
-- nonces, blocks and texts are lists of bytes.
use Rattle.std.specs.Prelude.{ℕ, zero, suc, ◌+◌, ◌*◌, ◌/◌, ◌%◌, ◌^◌, List, [], ◌∷◌, ◌++◌, take, drop}
use Rattle.std.specs.Prelude.{bit_xor, slice_index, slice_set}
use Rattle.std.specs.Int.{w32, rotate_left, to_le_bytes, from_le_bytes}

-- the sum of two words, modulo 2 ^ 32
abbrev pub add32 : ℕ → ℕ → ℕ
add32 x y = (x + y) % 2 ^ 32

-- the XOR of two words, rolled to the left by n bits
abbrev pub xor_roll : ℕ → ℕ → ℕ → ℕ
xor_roll x y n = rotate_left w32 (bit_xor x y) n

-- the quarter round on four words (2.1)
unfoldable pub quarter_round : ℕ → ℕ → ℕ → ℕ → ℕ × ℕ × ℕ × ℕ
quarter_round a b c d =
    let a = add32 a b in
    let d = xor_roll d a 16 in
    let c = add32 c d in
    let b = xor_roll b c 12 in
    let a = add32 a b in
    let d = xor_roll d a 8 in
    let c = add32 c d in
    let b = xor_roll b c 7 in
    (a, b, c, d)

-- the quarter round on a state's words at the places x, y, z and w (2.2)
abbrev pub quarter_round_at : ℕ → ℕ → ℕ → ℕ → List ℕ → List ℕ
quarter_round_at x y z w state =
    let words = quarter_round (slice_index state x) (slice_index state y) (slice_index state z) (slice_index state w) in
    slice_set (slice_set (slice_set (slice_set state x words.0) y words.1) z words.2) w words.3

-- quarter rounds on the four columns of the state, read as four rows of four words (2.3.1)
unfoldable pub column_rounds : List ℕ → List ℕ
column_rounds state =
    let state = quarter_round_at 0 4 8 12 state in
    let state = quarter_round_at 1 5 9 13 state in
    let state = quarter_round_at 2 6 10 14 state in
    quarter_round_at 3 7 11 15 state

-- quarter rounds on the four diagonals (2.3.1)
unfoldable pub diagonal_rounds : List ℕ → List ℕ
diagonal_rounds state =
    let state = quarter_round_at 0 5 10 15 state in
    let state = quarter_round_at 1 6 11 12 state in
    let state = quarter_round_at 2 7 8 13 state in
    quarter_round_at 3 4 9 14 state

-- n times the columns, then the diagonals (2.3.1)
unfoldable pub double_rounds : ℕ → List ℕ → List ℕ
double_rounds zero state = state
double_rounds (suc n) state = diagonal_rounds (column_rounds (double_rounds n state))

-- word i of a list of bytes, little-endian
unfoldable pub word_at : List ℕ → ℕ → ℕ
word_at bytes i = from_le_bytes w32 (take 4 (drop (4 * i) bytes))

-- the state that a block begins with: four constants, the key, the counter, the nonce (2.3)
abbrev pub start_state : List ℕ → ℕ → List ℕ → List ℕ
start_state key counter nonce =
    0x61707865 ∷ 0x3320646e ∷ 0x79622d32 ∷ 0x6b206574 ∷
    word_at key 0 ∷ word_at key 1 ∷ word_at key 2 ∷ word_at key 3 ∷
    word_at key 4 ∷ word_at key 5 ∷ word_at key 6 ∷ word_at key 7 ∷
    counter ∷ word_at nonce 0 ∷ word_at nonce 1 ∷ word_at nonce 2 ∷ []

-- two states added word by word (2.3)
abbrev pub add_states : List ℕ → List ℕ → List ℕ
add_states x y = sum 0 ∷ sum 1 ∷ sum 2 ∷ sum 3 ∷ sum 4 ∷ sum 5 ∷ sum 6 ∷ sum 7 ∷
    sum 8 ∷ sum 9 ∷ sum 10 ∷ sum 11 ∷ sum 12 ∷ sum 13 ∷ sum 14 ∷ sum 15 ∷ []
  where
    sum : ℕ → ℕ
    sum i = add32 (slice_index x i) (slice_index y i)

-- twenty rounds on a state, then the state added to their result (2.3)
unfoldable pub block_words : List ℕ → List ℕ
block_words state = add_states (double_rounds 10 state) state

-- words as bytes, each little-endian
abbrev pub word_bytes : List ℕ → List ℕ
word_bytes [] = []
word_bytes (w ∷ ws) = to_le_bytes w32 w ++ word_bytes ws

-- the block of 64 bytes (2.3)
unfoldable pub block : List ℕ → ℕ → List ℕ → List ℕ
block key counter nonce = word_bytes (block_words (start_state key counter nonce))

-- byte j of the keystream whose first block has this counter (2.4)
unfoldable pub keystream_byte : List ℕ → List ℕ → ℕ → ℕ → ℕ
keystream_byte key nonce counter j = slice_index (block key (counter + j / 64) nonce) (j % 64)

-- a text XORed with a stream of bytes, from the stream's byte j on
unfoldable pub xor_from : (ℕ → ℕ) → ℕ → List ℕ → List ℕ
xor_from stream j [] = []
xor_from stream j (b ∷ bs) = bit_xor b (stream j) ∷ xor_from stream (suc j) bs

-- a text encrypted or decrypted: XORed with the keystream from this counter on (2.4)
unfoldable pub chacha20 : List ℕ → List ℕ → ℕ → List ℕ → List ℕ
chacha20 key nonce counter text = xor_from (keystream_byte key nonce counter) 0 text
