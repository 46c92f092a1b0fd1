-- How a mac's four values follow the message that it denotes.
use Rattle.std.proofs.Common.{◌≡◌, ℕ, ◌+◌, ◌-◌, ◌*◌, ◌/◌, ◌%◌, ◌^◌, ◌<◌, ◌≤◌, List, [], ◌++◌, length, take, drop}
use Rattle.std.proofs.Common.{replicate, sym, ap, ◌∙◌, arith}
use Rattle.std.proofs.lemmas.List.{length-append, length-drop, length-take-le, drop-append-le, append_assoc}
use Rattle.std.proofs.lemmas.List.{take_at, take_rest, take-append-drop, take-replicate}
use Rattle.std.proofs.Math.Seq.{take-add}
use Rattle.std.specs.Int.{w128, to_le_bytes}
use Rattle.poly_core.specs.Poly1305.{prime, polynomial, block_number, block_numbers, block_count, key_r, key_s}
use Rattle.poly_core.specs.Poly1305.{poly1305, pad16}
use Rattle.poly_core.specs.Absorbed.{Progress, Absorbed}
use Rattle.poly_core.specs.WholeBlocks.{whole_sum, cut_rest}
use Rattle.poly_core.proofs.SumLemmas.{block_numbers-append, whole_sum-next, cut_rest-whole, polynomial-cut}
use Rattle.poly_core.proofs.SumLemmas.{polynomial-whole}

pub Absorbed-nothing : (mac : Progress) (key : List ℕ) → mac.r ≡ key_r key → mac.s ≡ key_s key → mac.sum ≡ 0
    → mac.rest ≡ []
    → Absorbed mac key []
unfolding Absorbed whole_sum cut_rest block_numbers polynomial
Absorbed-nothing mac key er es esum erest = (er, es, esum, erest)

pub length-cut_rest : (m : List ℕ) → length (cut_rest m) ≡ length m % 16
unfolding cut_rest
length-cut_rest m = length-drop (16 * (length m / 16)) m ∙ omega arith

-- how many bytes follow the whole blocks
pub Absorbed-length : (mac : Progress) (key m : List ℕ) → Absorbed mac key m → length mac.rest ≡ length m % 16
unfolding Absorbed whole_sum cut_rest
Absorbed-length mac key m held = ap length held.3 ∙ length-cut_rest m

-- a piece that fills no block
pub Absorbed-short : (old new : Progress) (key m piece : List ℕ) → Absorbed old key m
    → new.r ≡ old.r → new.s ≡ old.s → new.sum ≡ old.sum → new.rest ≡ old.rest ++ piece
    → length old.rest + length piece < 16 → Absorbed new key (m ++ piece)
unfolding Absorbed whole_sum cut_rest
Absorbed-short old new key m piece held er es esum erest short =
    let q : ℕ = length m / 16 in
    let long = Absorbed-length old key m held in
    let same : length (m ++ piece) / 16 ≡ q = omega (arith, length-append m piece) in
    let sum : whole_sum (key_r key) (m ++ piece) ≡ whole_sum (key_r key) m =
    ap (λ k. polynomial (key_r key) (block_numbers (m ++ piece) k) % prime) same
    ∙ ap (λ ns. polynomial (key_r key) ns % prime) (block_numbers-append m piece q (omega arith)) in
    let rest : cut_rest (m ++ piece) ≡ cut_rest m ++ piece =
    ap (λ k. drop (16 * k) (m ++ piece)) same ∙ drop-append-le (16 * q) m piece (omega arith) in (
      er ∙ held.0,
      es ∙ held.1,
      esum ∙ held.2 ∙ sym sum,
      erest ∙ ap (λ zs. zs ++ piece) held.3 ∙ sym rest,
    )

-- a piece that fills the block
pub Absorbed-filled : (old new : Progress) (key m piece : List ℕ) → Absorbed old key m
    → new.r ≡ old.r → new.s ≡ old.s → new.sum ≡ ((old.sum + block_number (old.rest ++ piece)) * old.r) % prime
    → new.rest ≡ []
    → length old.rest + length piece ≡ 16 → Absorbed new key (m ++ piece)
unfolding Absorbed whole_sum cut_rest
Absorbed-filled old new key m piece held er es esum erest fills =
    let long = Absorbed-length old key m held in
    let cut : length (cut_rest m) + length piece ≡ 16 = omega (arith, length-cut_rest m) in
    let none : cut_rest (m ++ piece) ≡ [] = cut_rest-whole (m ++ piece) (omega (arith, length-append m piece)) in (
      er ∙ held.0,
      es ∙ held.1,
      esum
          ∙ ap (λ r. ((old.sum + block_number (old.rest ++ piece)) * r) % prime) held.0
          ∙ ap (λ n. ((n + block_number (old.rest ++ piece)) * key_r key) % prime) held.2
          ∙ ap (λ zs. ((whole_sum (key_r key) m + block_number (zs ++ piece)) * key_r key) % prime) held.3
          ∙ sym (whole_sum-next (key_r key) m piece cut),
      erest ∙ sym none,
    )

-- whole blocks after whole blocks
pub Absorbed-whole : (old new : Progress) (key m blocks : List ℕ) → Absorbed old key m → old.rest ≡ []
    → length blocks % 16 ≡ 0
    → new.r ≡ old.r → new.s ≡ old.s
    → (length m % 16 ≡ 0 → old.sum ≡ whole_sum old.r m → new.sum ≡ whole_sum old.r (m ++ blocks))
    → new.rest ≡ [] → Absorbed new key (m ++ blocks)
unfolding Absorbed whole_sum cut_rest
Absorbed-whole old new key m blocks held none whole er es sum erest =
    let long = Absorbed-length old key m held in
    let empty : length old.rest ≡ 0 = ap length none in
    let even : length m % 16 ≡ 0 = omega arith in
    let after = sum even (held.2 ∙ ap (λ r. whole_sum r m) (sym held.0)) in (
      er ∙ held.0,
      es ∙ held.1,
      after ∙ ap (λ r. whole_sum r (m ++ blocks)) held.0,
      erest ∙ sym (cut_rest-whole (m ++ blocks) (omega (arith, length-append m blocks))),
    )

-- the tag, if the last block is short
pub Absorbed-tag_cut : (mac : Progress) (key m : List ℕ) (sum tag : ℕ) → Absorbed mac key m → 0 < length mac.rest
    → sum % prime ≡ ((mac.sum + block_number mac.rest) * mac.r) % prime
    → tag ≡ (sum % prime + mac.s) % 2 ^ 128 → to_le_bytes w128 tag ≡ poly1305 key m
unfolding Absorbed whole_sum cut_rest poly1305
Absorbed-tag_cut mac key m sum tag held cut esum etag =
    let long = Absorbed-length mac key m held in
    let last =
    esum
    ∙ ap (λ r. ((mac.sum + block_number mac.rest) * r) % prime) held.0
    ∙ ap (λ n. ((n + block_number mac.rest) * key_r key) % prime) held.2
    ∙ ap (λ zs. ((whole_sum (key_r key) m + block_number zs) * key_r key) % prime) held.3
    ∙ sym (polynomial-cut (key_r key) m (omega arith)) in
    ap (to_le_bytes w128) (etag ∙ ap (λ n. (n + mac.s) % 2 ^ 128) last
    ∙ ap (λ s. (polynomial (key_r key) (block_numbers m (block_count (length m))) % prime + s) % 2 ^ 128) held.1)

-- the tag, if no block is short
pub Absorbed-tag_whole : (mac : Progress) (key m : List ℕ) (sum tag : ℕ) → Absorbed mac key m → length mac.rest ≡ 0
    → sum % prime ≡ mac.sum
    → tag ≡ (sum % prime + mac.s) % 2 ^ 128 → to_le_bytes w128 tag ≡ poly1305 key m
unfolding Absorbed whole_sum cut_rest poly1305
Absorbed-tag_whole mac key m sum tag held whole esum etag =
    let long = Absorbed-length mac key m held in
    let last = esum ∙ held.2 ∙ sym (polynomial-whole (key_r key) m (omega arith)) in
    ap (to_le_bytes w128) (etag ∙ ap (λ n. (n + mac.s) % 2 ^ 128) last
    ∙ ap (λ s. (polynomial (key_r key) (block_numbers m (block_count (length m))) % prime + s) % 2 ^ 128) held.1)

-- a piece written after the bytes kept
pub rest_written : (rest piece copy post : List ℕ) (n k : ℕ) → n ≤ length rest → copy ≡ piece → k ≡ n + length piece
    → take k (take n rest ++ (copy ++ post)) ≡ take n rest ++ piece
rest_written rest piece copy post n k fits same end =
    let front = length-take-le n rest fits in
    ap (λ (zs : List ℕ). take k (take n rest ++ (zs ++ post))) same
    ∙ ap (take k) (sym (append_assoc (take n rest) piece post))
    ∙ take_at (take n rest ++ piece) post k (omega (arith, length-append (take n rest) piece))

-- a list in three parts
pub three_parts : (m bytes : List ℕ) (f e : ℕ) → f ≤ e → e ≤ length bytes
    → ((m ++ take f bytes) ++ take (e - f) (drop f bytes)) ++ take (length bytes - e) (drop e bytes) ≡ m ++ bytes
three_parts m bytes f e first second =
    let middle : take f bytes ++ take (e - f) (drop f bytes) ≡ take e bytes =
    sym (take-add f (e - f) bytes) ∙ ap (λ (n : ℕ). take n bytes) (omega arith) in
    ap (λ (zs : List ℕ). ((m ++ take f bytes) ++ take (e - f) (drop f bytes)) ++ zs) (take_rest bytes e)
    ∙ ap (λ (zs : List ℕ). zs ++ drop e bytes) (append_assoc m (take f bytes) (take (e - f) (drop f bytes)))
    ∙ ap (λ (zs : List ℕ). (m ++ zs) ++ drop e bytes) middle
    ∙ append_assoc m (take e bytes) (drop e bytes)
    ∙ ap (λ (zs : List ℕ). m ++ zs) (take-append-drop e bytes)

-- the zeros after a message
pub take-pad16 : (mac : Progress) (key m : List ℕ) (lacking : ℕ) → Absorbed mac key m → lacking
    ≡ (16 - length mac.rest) % 16
    → take lacking (replicate 16 0) ≡ pad16 m
take-pad16 mac key m lacking held same =
    let long = Absorbed-length mac key m held in
    let count : lacking ≡ (16 - length m % 16) % 16 = same ∙ ap (λ k. (16 - k) % 16) long in
    take-replicate {X = ℕ} lacking 16 0 (omega arith) ∙ ap (λ n. replicate n 0) count
