-- Blocks side by side: each word of the states is a vector, with one lane for each block. Only clauses of private
-- functions use these definitions.
use Rattle.std.specs.Prelude.{◌≡◌, ℕ, ◌+◌, ◌<◌, List, [], ◌∷◌, slice_index, slice_index_or}
use Rattle.chacha_core.specs.ChaCha20.{double_rounds, start_state}

-- lane j of vector k
abbrev pub lane_at : List (List ℕ) → ℕ → ℕ → ℕ
lane_at x k j = slice_index (slice_index_or x k []) j

-- the state of block j
abbrev pub lane : ℕ → List (List ℕ) → List ℕ
lane j x =
    lane_at x 0 j ∷ lane_at x 1 j ∷ lane_at x 2 j ∷ lane_at x 3 j
    ∷ lane_at x 4 j ∷ lane_at x 5 j ∷ lane_at x 6 j ∷ lane_at x 7 j
    ∷ lane_at x 8 j ∷ lane_at x 9 j ∷ lane_at x 10 j ∷ lane_at x 11 j
    ∷ lane_at x 12 j ∷ lane_at x 13 j ∷ lane_at x 14 j ∷ lane_at x 15 j ∷ []

-- after n double rounds: each lane j holds their result on the state of block first + j
abbrev pub UnderWay : ℕ → ℕ → List ℕ → List ℕ → ℕ → List (List ℕ) → Type 0
UnderWay lanes n key nonce first x =
    (j : ℕ) → j < lanes → lane j x ≡ double_rounds n (start_state key (first + j) nonce)

-- where each byte of four words comes from when they are rolled to the left by 16 bits, and by 8
abbrev pub places_16 : List ℕ
places_16 =
    2 ∷ 3 ∷ 0 ∷ 1 ∷ 6 ∷ 7 ∷ 4 ∷ 5 ∷ 10 ∷ 11 ∷ 8 ∷ 9 ∷ 14 ∷ 15 ∷ 12 ∷ 13 ∷ []

abbrev pub places_8 : List ℕ
places_8 =
    3 ∷ 0 ∷ 1 ∷ 2 ∷ 7 ∷ 4 ∷ 5 ∷ 6 ∷ 11 ∷ 8 ∷ 9 ∷ 10 ∷ 15 ∷ 12 ∷ 13 ∷ 14 ∷ []
