-- Rolls of whole bytes: the bytes of each word change their places.
use Rattle.std.proofs.Common.{◌≡◌, ℕ, zero, suc, ◌+◌, ◌*◌, ◌/◌, ◌%◌, ◌^◌, ◌<◌, List, [], ◌∷◌, ◌++◌, length, Bool, true, false}
use Rattle.std.proofs.Common.{get_or, slice_index, bit_or, bit_xor, refl, sym, ap, ◌∙◌, arith, w8, w32, Fits}
use Rattle.std.proofs.lemmas.Nat.{or_shifted, xor_lt}
use Rattle.std.proofs.lemmas.Simd.{swz_l, get_or-zip2, get_or_wider, get_or_narrower}
use Rattle.std.specs.Simd.Lanes.{zip2, Each1, number_l, digits_l, chunk}
use Rattle.std.specs.Int.{rotate_left}
use mathlib.Core.Bool.{cond}
use Rattle.chacha_core.specs.ChaCha20.{xor_roll}
use Rattle.chacha_core.specs.Lanes.{places_16, places_8}
use Rattle.chacha_core.proofs.LaneLemmas.{below_four, below_eight}

digit_small : (q n x k : ℕ) → 0 < q → get_or (digits_l q n x) k 0 < q
digit_small q zero x k some = some
digit_small q (suc n) x zero some = omega arith
digit_small q (suc n) x (suc k) some = digit_small q n (x / q) k some

cond_small : (t : Bool) (x : ℕ) → x < 256 → cond t 0 x < 256
cond_small true x h = omega arith
cond_small false x h = h

swz_small : (xs : List ℕ) → ((k : ℕ) → get_or xs k 0 < 256) → (i : ℕ) (js : List ℕ)
    → Each1 (λ x. x < 256) (swz_l w8 16 xs i js)
swz_small xs h i [] = tt
swz_small xs h i (j ∷ js) = (cond_small _ _ (h _), swz_small xs h (suc i) js)

-- four bytes of a word in another order
roll_16 : (v : ℕ) → v < 2 ^ 32
    → v / 256 ^ 2 % 256 + 256 * (v / 256 ^ 3 % 256 + 256 * (v / 256 ^ 0 % 256 + 256 * (v / 256 ^ 1 % 256 + 256 * 0)))
    ≡ rotate_left w32 v 16
roll_16 v small =
    let high : v * 2 ^ 16 % 2 ^ 32 ≡ (v % 2 ^ 16) * 2 ^ 16 = omega arith in
    let apart = or_shifted (v % 2 ^ 16) 16 (v / 2 ^ 16) (omega arith) in
    let number : v / 256 ^ 2 % 256 + 256 * (v / 256 ^ 3 % 256 + 256 * (v / 256 ^ 0 % 256 + 256 * (v / 256 ^ 1 % 256 + 256 * 0)))
    ≡ (v % 2 ^ 16) * 2 ^ 16 + v / 2 ^ 16 = omega arith in
    number ∙ sym apart ∙ ap (λ (n : ℕ). bit_or n (v / 2 ^ 16)) (sym high)

roll_8 : (v : ℕ) → v < 2 ^ 32
    → v / 256 ^ 3 % 256 + 256 * (v / 256 ^ 0 % 256 + 256 * (v / 256 ^ 1 % 256 + 256 * (v / 256 ^ 2 % 256 + 256 * 0)))
    ≡ rotate_left w32 v 8
roll_8 v small =
    let high : v * 2 ^ 8 % 2 ^ 32 ≡ (v % 2 ^ 24) * 2 ^ 8 = omega arith in
    let apart = or_shifted (v % 2 ^ 24) 8 (v / 2 ^ 24) (omega arith) in
    let number : v / 256 ^ 3 % 256 + 256 * (v / 256 ^ 0 % 256 + 256 * (v / 256 ^ 1 % 256 + 256 * (v / 256 ^ 2 % 256 + 256 * 0)))
    ≡ (v % 2 ^ 24) * 2 ^ 8 + v / 2 ^ 24 = omega arith in
    number ∙ sym apart ∙ ap (λ (n : ℕ). bit_or n (v / 2 ^ 24)) (sym high)

-- the bytes of n words, and the same moved within each sixteen
abbrev pub bytes_of : ℕ → List ℕ → List ℕ
bytes_of n x = digits_l 256 (4 * n) (number_l (2 ^ 32) x)

abbrev pub moved : ℕ → List ℕ → List ℕ → List ℕ
moved n x places = swz_l w8 16 (bytes_of n x) 0 places

-- word j of n has its bytes a, b, c and d in this order, after the move
abbrev pub IsMoved : ℕ → ℕ → ℕ → ℕ → ℕ → List ℕ → Type 0
IsMoved n a b c d places = (x : List ℕ) (j : ℕ) → j < n → number_l 256 (chunk (4 * j) 4 (moved n x places))
    ≡ get_or (bytes_of n x) (4 * j + a) 0 + 256 * (get_or (bytes_of n x) (4 * j + b) 0
    + 256 * (get_or (bytes_of n x) (4 * j + c) 0 + 256 * (get_or (bytes_of n x) (4 * j + d) 0 + 256 * 0)))

pub four_by_16 : IsMoved 4 2 3 0 1 places_16
four_by_16 x = below_four _ refl refl refl refl

pub four_by_8 : IsMoved 4 3 0 1 2 places_8
four_by_8 x = below_four _ refl refl refl refl

pub eight_by_16 : IsMoved 8 2 3 0 1 (places_16 ++ places_16)
eight_by_16 x = below_eight _ refl refl refl refl refl refl refl refl

pub eight_by_8 : IsMoved 8 3 0 1 2 (places_8 ++ places_8)
eight_by_8 x = below_eight _ refl refl refl refl refl refl refl refl

byte : (n : ℕ) (x : List ℕ) → Each1 (λ w. w < 2 ^ 32) x → (j i : ℕ) → j < n → i < 4
    → get_or (bytes_of n x) (4 * j + i) 0 ≡ get_or x j 0 / 256 ^ i % 256
byte n x fits j i small low = get_or_narrower (2 ^ 32) 4 256 (4 * n) x j i refl fits low (omega arith)

word : (n : ℕ) (x places : List ℕ) (j : ℕ) → j < n
    → get_or (digits_l (2 ^ 32) n (number_l 256 (moved n x places))) j 0
    ≡ number_l 256 (chunk (4 * j) 4 (moved n x places))
word n x places j small =
    get_or_wider 256 4 (2 ^ 32) n (moved n x places) j refl
    (swz_small (bytes_of n x) (λ k. digit_small 256 (4 * n) (number_l (2 ^ 32) x) k (omega arith)) 0 places) small

four_bytes : (b0 b1 b2 b3 c0 c1 c2 c3 : ℕ) → b0 ≡ c0 → b1 ≡ c1 → b2 ≡ c2 → b3 ≡ c3
    → b0 + 256 * (b1 + 256 * (b2 + 256 * (b3 + 256 * 0))) ≡ c0 + 256 * (c1 + 256 * (c2 + 256 * (c3 + 256 * 0)))
four_bytes b0 b1 b2 b3 c0 c1 c2 c3 e0 e1 e2 e3 = omega arith

get_small : (x : List ℕ) → Each1 (λ w. w < 2 ^ 32) x → (j : ℕ) → get_or x j 0 < 2 ^ 32
get_small [] fits j = omega arith
get_small (w ∷ ws) fits zero = fits.0
get_small (w ∷ ws) fits (suc j) = get_small ws fits.1 j

xor_small : (a b : List ℕ) → Each1 (Fits w32) a → Each1 (Fits w32) b → Each1 (λ w. w < 2 ^ 32) (zip2 bit_xor a b)
xor_small [] b fa fb = tt
xor_small (x ∷ xs) [] fa fb = tt
xor_small (x ∷ xs) (y ∷ ys) fa fb = (xor_lt 32 x y fa.0.fits fb.0.fits, xor_small xs ys fa.1 fb.1)

-- the words of two vectors, XORed and rolled by moving their bytes
pub roll_16_lanes : (n : ℕ) (a b places : List ℕ) → length a ≡ n → length b ≡ n
    → Each1 (Fits w32) a → Each1 (Fits w32) b → IsMoved n 2 3 0 1 places → (j : ℕ) → j < n
    → slice_index (digits_l (2 ^ 32) n (number_l 256 (moved n (zip2 bit_xor a b) places))) j
    ≡ xor_roll (slice_index a j) (slice_index b j) 16
roll_16_lanes n a b places la lb fa fb turned j small =
    let x = zip2 bit_xor a b in
    let fits = xor_small a b fa fb in
    let at = byte n x fits j in
    word n x places j small ∙ turned x j small
    ∙ four_bytes _ _ _ _ _ _ _ _ (at 2 small (omega arith)) (at 3 small (omega arith)) (at 0 small (omega arith))
    (at 1 small (omega arith))
    ∙ roll_16 (get_or x j 0) (get_small x fits j)
    ∙ ap (λ (w : ℕ). rotate_left w32 w 16) (get_or-zip2 bit_xor a b j 0 0 0 (omega arith) (omega arith))

pub roll_8_lanes : (n : ℕ) (a b places : List ℕ) → length a ≡ n → length b ≡ n
    → Each1 (Fits w32) a → Each1 (Fits w32) b → IsMoved n 3 0 1 2 places → (j : ℕ) → j < n
    → slice_index (digits_l (2 ^ 32) n (number_l 256 (moved n (zip2 bit_xor a b) places))) j
    ≡ xor_roll (slice_index a j) (slice_index b j) 8
roll_8_lanes n a b places la lb fa fb turned j small =
    let x = zip2 bit_xor a b in
    let fits = xor_small a b fa fb in
    let at = byte n x fits j in
    word n x places j small ∙ turned x j small
    ∙ four_bytes _ _ _ _ _ _ _ _ (at 3 small (omega arith)) (at 0 small (omega arith)) (at 1 small (omega arith))
    (at 2 small (omega arith))
    ∙ roll_8 (get_or x j 0) (get_small x fits j)
    ∙ ap (λ (w : ℕ). rotate_left w32 w 8) (get_or-zip2 bit_xor a b j 0 0 0 (omega arith) (omega arith))
