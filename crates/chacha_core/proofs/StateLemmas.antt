-- A state of sixteen words, word by word.
use Rattle.std.proofs.Common.{◌≡◌, ℕ, zero, suc, List, [], ◌∷◌, length, slice_index, refl, sym, ap, ◌∙◌}

-- the k words from place i on
abbrev pub words_from : ℕ → ℕ → List ℕ → List ℕ
words_from zero i state = []
words_from (suc k) i state = slice_index state i ∷ words_from k (suc i) state

words_from-behind : (k i first : ℕ) (rest : List ℕ) → words_from k (suc i) (first ∷ rest) ≡ words_from k i rest
words_from-behind zero i first rest = refl
words_from-behind (suc k) i first rest =
    ap (λ (ws : List ℕ). slice_index rest i ∷ ws) (words_from-behind k (suc i) first rest)

words_from-all : (state : List ℕ) → words_from (length state) 0 state ≡ state
words_from-all [] = refl
words_from-all (first ∷ rest) =
    ap (λ (ws : List ℕ). first ∷ ws) (words_from-behind (length rest) 0 first rest ∙ words_from-all rest)

pub sixteen_words : (state : List ℕ) → length state ≡ 16 → words_from 16 0 state ≡ state
sixteen_words state long = ap (λ k. words_from k 0 state) (sym long) ∙ words_from-all state
