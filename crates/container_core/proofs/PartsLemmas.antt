-- The parts of a list, and the lengths of plaintexts and of their containers.
use Rattle.std.proofs.Common.{◌≡◌, ℕ, zero, suc, ◌+◌, ◌-◌, ◌*◌, ◌/◌, ◌%◌, ◌<◌, ◌≤◌, Bool, true, false, eqb, ◌||◌, inl, inr}
use Rattle.std.proofs.Common.{List, [], ◌∷◌, ◌++◌, length, get_or, take, drop, min, refl, ap, sym, ◌∙◌, arith}
use Rattle.std.proofs.Common.{zero-add, one-mul, zero-mul, length-append}
use Rattle.std.proofs.Math.Nat.{div-eq_of_lt, mul-add-div_right, lt-div-mul-add, le-div_iff_mul-le, div-mul-le_self}
use Rattle.std.proofs.Math.Nat.{div-lt_iff_lt-mul, mul-le-mul_right, eq-or-lt_of_le, zero-div}
use Rattle.std.proofs.lemmas.Bool.{cases_lt}
use Rattle.std.proofs.lemmas.Nat.{div-add-mod', div-mul-add}
use Rattle.std.proofs.lemmas.List.{drop-drop, take_all, take_min, take_at, drop_at, take-append-le, drop-append-le}
use Rattle.std.proofs.lemmas.List.{length-drop}
use Rattle.std.proofs.lemmas.Bool.{or_cases, cases_Bool}
use Rattle.std.proofs.lemmas.Bool.Decides.{Decides-eqb}
use Rattle.container_core.specs.Chunks.{parts, cut_every, chunks, sealed_chunks, chunk_count, body_length}
use Rattle.container_core.specs.Chunks.{container_length, has_plaintext, most_of}
use Rattle.container_core.specs.Stream.{is_nil}

pub length-parts : (size full : ℕ) (bytes : List ℕ) → length (parts size full bytes) ≡ full + 1
unfolding parts
length-parts size zero bytes = refl
length-parts size (suc full) bytes = let h = length-parts size full (drop size bytes) in omega arith

pub is_nil-parts : (size full : ℕ) (bytes : List ℕ) → is_nil (parts size full bytes) ≡ false
unfolding parts
is_nil-parts size zero bytes = refl
is_nil-parts size (suc full) bytes = refl

more_size : (n size : ℕ) → size + n * size ≡ suc n * size
more_size n size = grind arith

rest_room : (size k : ℕ) (bytes : List ℕ) → length bytes ≤ (suc k + 1) * size → length (drop size bytes) ≤ (k + 1) * size
rest_room size k bytes room = let e : (suc k + 1) * size ≡ size + (k + 1) * size = grind arith in omega (arith, length-drop size bytes)

-- with room for all, each part is cut the same way
pub get_or-parts : (size k : ℕ) (bytes : List ℕ) (n : ℕ) (d : List ℕ) → n ≤ k → length bytes ≤ (k + 1) * size
    → get_or (parts size k bytes) n d ≡ take size (drop (n * size) bytes)
unfolding parts
get_or-parts size zero bytes zero d at room =
    let r : length bytes ≤ size = rw (zero-add 1, one-mul size) at room in
    rw (zero-mul size) (sym (take_all size bytes r))
get_or-parts size zero bytes (suc n) d at room = absurd (omega arith)
get_or-parts size (suc k) bytes zero d at room = rw (zero-mul size) refl
get_or-parts size (suc k) bytes (suc n) d at room =
    let h = get_or-parts size k (drop size bytes) n d (omega arith) (rest_room size k bytes room) in
    h ∙ ap (take size) (drop-drop (n * size) size bytes ∙ ap (λ m. drop m bytes) (more_size n size))

-- how many full parts precede the last one
next_part : (size n : ℕ) → 0 < size → size < n → (n - 1) / size ≡ suc ((n - size - 1) / size)
next_part size n some more =
    let parted : n - 1 ≡ 1 * size + (n - size - 1) = omega arith in
    ap (λ (m : ℕ). m / size) parted ∙ mul-add-div_right some 1 (n - size - 1) ∙ omega arith

cut-short : (size : ℕ) (bytes : List ℕ) → 0 < size → length bytes ≤ size → cut_every size bytes ≡ bytes ∷ []
unfolding cut_every parts
cut-short size bytes some short = ap (λ k. parts size k bytes) (div-eq_of_lt (omega arith))

cut-long : (size : ℕ) (bytes : List ℕ) → 0 < size → size < length bytes
    → cut_every size bytes ≡ take size bytes ∷ cut_every size (drop size bytes)
unfolding cut_every parts
cut-long size bytes some long =
    let rest = length-drop size bytes in
    ap (λ k. parts size k bytes) (next_part size (length bytes) some long)
    ∙ ap (λ n. take size bytes ∷ parts size ((n - 1) / size) (drop size bytes)) (sym rest)

-- a plaintext of at most `size` bytes is one chunk
pub chunks-short : (size : ℕ) (plain : List ℕ) → 0 < size → length plain ≤ size → chunks size plain ≡ plain ∷ []
unfolding chunks
chunks-short size plain some short = cut-short size plain some short

-- a longer one is its first bytes and the chunks of the rest
pub chunks-long : (size : ℕ) (plain : List ℕ) → 0 < size → size < length plain
    → chunks size plain ≡ take size plain ∷ chunks size (drop size plain)
unfolding chunks
chunks-long size plain some long = cut-long size plain some long

-- the same for the bytes after a header
pub sealed_chunks-short : (size : ℕ) (body : List ℕ) → length body ≤ size + 16 → sealed_chunks size body ≡ body ∷ []
unfolding sealed_chunks
sealed_chunks-short size body short = cut-short (size + 16) body (omega arith) short

pub sealed_chunks-long : (size : ℕ) (body : List ℕ) → size + 16 < length body
    → sealed_chunks size body ≡ take (size + 16) body ∷ sealed_chunks size (drop (size + 16) body)
unfolding sealed_chunks
sealed_chunks-long size body long = cut-long (size + 16) body (omega arith) long

-- every plaintext has at least one chunk
pub is_nil-chunks : (size : ℕ) (plain : List ℕ) → is_nil (chunks size plain) ≡ false
unfolding chunks cut_every
is_nil-chunks size plain = is_nil-parts size ((length plain - 1) / size) plain

pub is_nil-sealed_chunks : (size : ℕ) (body : List ℕ) → is_nil (sealed_chunks size body) ≡ false
unfolding sealed_chunks cut_every
is_nil-sealed_chunks size body = is_nil-parts (size + 16) ((length body - 1) / (size + 16)) body

-- whole parts, and the parts of what follows them
parts-append : (size k m : ℕ) (xs ys : List ℕ) → length xs ≡ suc k * size
    → parts size (k + suc m) (xs ++ ys) ≡ parts size k xs ++ parts size m ys
unfolding parts
parts-append size zero m xs ys is =
    let one : length xs ≡ size = rw (one-mul size) at is in
    ap (λ (n : ℕ). parts size n (xs ++ ys)) (zero-add (suc m))
    ∙ ap (λ (p : List ℕ). p ∷ parts size m (drop size (xs ++ ys))) (take_at xs ys size one)
    ∙ ap (λ (rest : List ℕ). xs ∷ parts size m rest) (drop_at xs ys size one)
parts-append size (suc k) m xs ys is =
    let more = more_size (suc k) size in
    let left = length-drop size xs in
    let room : size ≤ length xs = omega arith in
    let next : suc k + suc m ≡ suc (k + suc m) = omega arith in
    ap (λ (n : ℕ). parts size n (xs ++ ys)) next
    ∙ ap (λ (p : List ℕ). p ∷ parts size (k + suc m) (drop size (xs ++ ys))) (take-append-le size xs ys room)
    ∙ ap (λ (rest : List ℕ). take size xs ∷ parts size (k + suc m) rest) (drop-append-le size xs ys room)
    ∙ ap (λ (ps : List (List ℕ)). take size xs ∷ ps) (parts-append size k m (drop size xs) ys (omega arith))

-- n whole parts are one more than precede the last
whole_parts : (size k n : ℕ) → 0 < size → n ≡ suc k * size → (n - 1) / size ≡ k
whole_parts size k n some is =
    let parted : n - 1 ≡ k * size + (size - 1) = omega (arith, is, some) in
    ap (λ m. m / size) parted ∙ div-mul-add k size (size - 1) (omega (arith, some))

cut-append : (size : ℕ) (xs ys : List ℕ) (k : ℕ) → 0 < size → length xs ≡ k * size → 0 < k → 0 < length ys
    → cut_every size (xs ++ ys) ≡ cut_every size xs ++ cut_every size ys
unfolding cut_every
cut-append size xs ys zero some is many more = absurd (omega arith)
cut-append size xs ys (suc k) some is many more =
    let both = length-append xs ys in
    let whole : length (xs ++ ys) - 1 ≡ suc k * size + (length ys - 1) = omega (arith, both, is, more) in
    let all : (length (xs ++ ys) - 1) / size ≡ k + suc ((length ys - 1) / size) =
    ap (λ n. n / size) whole ∙ mul-add-div_right some (suc k) (length ys - 1) ∙ omega arith in
    ap (λ (n : ℕ). parts size n (xs ++ ys)) all
    ∙ parts-append size k ((length ys - 1) / size) xs ys is
    ∙ ap (λ (n : ℕ). parts size n xs ++ cut_every size ys) (sym (whole_parts size k (length xs) some is))

pub chunks-append : (size : ℕ) (xs ys : List ℕ) (k : ℕ) → 0 < size → length xs ≡ k * size → 0 < k → 0 < length ys
    → chunks size (xs ++ ys) ≡ chunks size xs ++ chunks size ys
unfolding chunks
chunks-append size xs ys k some is many more = cut-append size xs ys k some is many more

pub sealed_chunks-append : (size : ℕ) (xs ys : List ℕ) (k : ℕ) → length xs ≡ k * (size + 16) → 0 < k → 0 < length ys
    → sealed_chunks size (xs ++ ys) ≡ sealed_chunks size xs ++ sealed_chunks size ys
unfolding sealed_chunks
sealed_chunks-append size xs ys k is many more = cut-append (size + 16) xs ys k (omega arith) is many more

length-whole_cut : (size : ℕ) (xs : List ℕ) (k : ℕ) → 0 < size → length xs ≡ k * size → 0 < k → length (cut_every size xs) ≡ k
unfolding cut_every
length-whole_cut size xs zero some is many = absurd (omega arith)
length-whole_cut size xs (suc k) some is many =
    length-parts size ((length xs - 1) / size) xs ∙ ap (λ n. n + 1) (whole_parts size k (length xs) some is) ∙ omega arith

pub length-whole_chunks : (size : ℕ) (xs : List ℕ) (k : ℕ) → 0 < size → length xs ≡ k * size → 0 < k → length (chunks size xs) ≡ k
unfolding chunks
length-whole_chunks size xs k some is many = length-whole_cut size xs k some is many

pub length-whole_sealed_chunks : (size : ℕ) (xs : List ℕ) (k : ℕ) → length xs ≡ k * (size + 16) → 0 < k
    → length (sealed_chunks size xs) ≡ k
unfolding sealed_chunks
length-whole_sealed_chunks size xs k is many = length-whole_cut (size + 16) xs k (omega arith) is many

-- how many chunks there are
pub count-full : (size n : ℕ) → chunk_count size n ≡ (n - 1) / size + 1
unfolding chunk_count
count-full size n = refl

pub body-count : (size n : ℕ) → body_length size n ≡ n + 16 * chunk_count size n
unfolding body_length
body-count size n = refl

pub body-full : (size n : ℕ) → body_length size n ≡ n + 16 * ((n - 1) / size + 1)
unfolding body_length chunk_count
body-full size n = refl

pub count-one : (size n : ℕ) → 0 < size → n ≤ size → chunk_count size n ≡ 1
unfolding chunk_count
count-one size n some few = let none : (n - 1) / size ≡ 0 = div-eq_of_lt (omega arith) in ap (λ k. k + 1) none

pub count-more : (size k n : ℕ) → 0 < size → 0 < n → chunk_count size (k * size + n) ≡ k + chunk_count size n
unfolding chunk_count
count-more size k n some more =
    let parted : k * size + n - 1 ≡ k * size + (n - 1) = omega arith in
    let full : (k * size + n - 1) / size ≡ k + (n - 1) / size =
    ap (λ m. m / size) parted ∙ mul-add-div_right some k (n - 1) in
    omega (arith, full)

pub count-whole : (size k : ℕ) → 0 < size → 0 < k → chunk_count size (k * size) ≡ k
count-whole size zero some many = absurd (omega arith)
count-whole size (suc k) some many =
    ap (λ n. chunk_count size n) (sym (more_behind k size))
    ∙ count-more size k size some some ∙ ap (λ c. k + c) (count-one size size some (omega arith)) ∙ omega arith
  where
    more_behind : (k size : ℕ) → k * size + size ≡ suc k * size
    more_behind k size = grind arith

pub count-enough : (size n : ℕ) → 0 < size → n ≤ chunk_count size n * size
unfolding chunk_count
count-enough size n some =
    let above = lt-div-mul-add {a = n - 1} some in
    omega (arith, above)

pub count-grows : (size m n : ℕ) → 0 < size → m ≤ n → chunk_count size m ≤ chunk_count size n
unfolding chunk_count
count-grows size m n some few =
    let parts = div-mul-le_self (m - 1) size in
    let full : (m - 1) / size ≤ (n - 1) / size = (le-div_iff_mul-le some).1 (omega (arith, parts, few)) in
    omega (arith, full)

pub count-some : (size n : ℕ) → 0 < chunk_count size n
unfolding chunk_count
count-some size n = omega arith

pub count-few : (size n : ℕ) → 4096 ≤ size → n ≤ 1099511627776 → chunk_count size n ≤ 268435456
unfolding chunk_count
count-few size n least few =
    let some : 0 < size = omega (arith, least) in
    let full : (n - 1) / size < 268435456 = (div-lt_iff_lt-mul some).1 (omega (arith, least, few)) in
    omega (arith, full)

-- a plaintext of at most 2 ^ 32 - 1 full chunks has at most that many chunks
pub count-numbers : (size n : ℕ) → 0 < size → n ≤ 4294967295 * size → chunk_count size n ≤ 4294967295
unfolding chunk_count
count-numbers size n some few =
    let full : (n - 1) / size < 4294967295 = (div-lt_iff_lt-mul some).1 (omega (arith, some, few)) in
    omega (arith, full)

-- what a limit is reduced to
pub most_of-few : (most size : ℕ) → most_of most size ≤ most
unfolding most_of
most_of-few most size = omega arith

pub most_of-chunks : (most size : ℕ) → most_of most size ≤ 4294967295 * size
unfolding most_of
most_of-chunks most size = omega arith

pub most_of-least : (most size n : ℕ) → n ≤ most → n ≤ 4294967295 * size → n ≤ most_of most size
unfolding most_of
most_of-least most size n few fits = omega (arith, few, fits)

pub most_of-more : (most more size : ℕ) → most ≤ more → most_of most size ≤ most_of more size
unfolding most_of
most_of-more most more size few = omega (arith, few)

pub most_of-same : (most size : ℕ) → most ≤ 4294967295 * size → most_of most size ≡ most
unfolding most_of
most_of-same most size few = omega (arith, few)

-- all chunks but the last are full, and the last has at least one byte, unless the plaintext is empty
pub count-tight : (size n : ℕ) → 0 < n → (chunk_count size n - 1) * size < n
unfolding chunk_count
count-tight size n more =
    let whole = div-add-mod' (n - 1) size in
    let less : (n - 1) / size + 1 - 1 ≡ (n - 1) / size = omega arith in
    let same : ((n - 1) / size + 1 - 1) * size ≡ (n - 1) / size * size = ap (λ k. k * size) less in
    omega (arith, whole, same, more)

pub count-below : (size n i : ℕ) → i < chunk_count size n → i * size ≤ n
unfolding chunk_count
count-below size n i below =
    let whole = div-add-mod' (n - 1) size in
    let fewer : i * size ≤ (n - 1) / size * size = mul-le-mul_right size (omega arith) in
    omega (arith, whole, fewer)

-- a body has as many sealed chunks as its plaintext has chunks
pub body_count : (size n body : ℕ) → 0 < size → body ≡ body_length size n → (body - 1) / (size + 16) ≡ (n - 1) / size
body_count size zero body some e =
    let long = e ∙ body-full size 0 in
    let none : (0 - 1) / size ≡ 0 = zero-div size in
    let bytes : body ≡ 16 = omega (arith, long, none) in
    let nothing : (body - 1) / (size + 16) ≡ 0 = div-eq_of_lt (omega (arith, bytes, some)) in
    nothing ∙ sym none
body_count size (suc n) body some e =
    let long = e ∙ body-full size (suc n) in
    let k = (suc n - 1) / size in
    let rest = (suc n - 1) % size in
    let whole = div-add-mod' (suc n - 1) size in
    let less : rest < size = omega (arith, some) in
    let parted : body - 1 ≡ k * (size + 16) + (rest + 16) = omega (arith, long, whole) in
    ap (λ b. b / (size + 16)) parted ∙ div-mul-add k (size + 16) (rest + 16) (omega (arith, less))

pub length-chunks : (size : ℕ) (plain : List ℕ) → length (chunks size plain) ≡ chunk_count size (length plain)
unfolding chunks cut_every chunk_count
length-chunks size plain = length-parts size ((length plain - 1) / size) plain

pub length-sealed_chunks : (size : ℕ) (body : List ℕ) (n : ℕ) → 0 < size → length body ≡ body_length size n
    → length (sealed_chunks size body) ≡ chunk_count size n
unfolding sealed_chunks cut_every chunk_count
length-sealed_chunks size body n some e =
    length-parts (size + 16) ((length body - 1) / (size + 16)) body ∙ ap (λ k. k + 1) (body_count size n (length body) some e)

get_or-cut : (size : ℕ) (bytes : List ℕ) (i : ℕ) (d : List ℕ) → 0 < size → i < (length bytes - 1) / size + 1
    → get_or (cut_every size bytes) i d ≡ take size (drop (i * size) bytes)
unfolding cut_every
get_or-cut size bytes i d some below =
    let above = lt-div-mul-add {a = length bytes - 1} some in
    get_or-parts size ((length bytes - 1) / size) bytes i d (omega (arith, below)) (omega (arith, above))

-- the chunks follow one another
pub get_or-chunks : (size : ℕ) (plain : List ℕ) (i : ℕ) (d : List ℕ) → 0 < size → i < chunk_count size (length plain)
    → get_or (chunks size plain) i d ≡ take size (drop (i * size) plain)
unfolding chunks chunk_count
get_or-chunks size plain i d some below = get_or-cut size plain i d some below

pub get_or-sealed_chunks : (size : ℕ) (body : List ℕ) (n i : ℕ) (d : List ℕ) → 0 < size → length body ≡ body_length size n
    → i < chunk_count size n → get_or (sealed_chunks size body) i d ≡ take (size + 16) (drop (i * (size + 16)) body)
unfolding sealed_chunks chunk_count
get_or-sealed_chunks size body n i d some e below =
    let same = body_count size n (length body) some e in
    get_or-cut (size + 16) body i d (omega arith) (omega (arith, same, below))

-- longer plaintexts have longer containers
pub container_length-grows : (header size m n : ℕ) → 0 < size → container_length header size n ≤ container_length header size m → n ≤ m
container_length-grows header size m n some longer =
    elim (cases_lt m n) [
      | inl more ↦
          let counts = count-grows size m n some (omega arith) in
          let long = body-count size n in
          let short = body-count size m in
          absurd (omega (arith, counts, long, short, longer, more))
      | inr few ↦ few
    ]

pub container_length-more : (header size m n : ℕ) → 0 < size → m ≤ n → container_length header size m ≤ container_length header size n
container_length-more header size m n some few =
    let counts = count-grows size m n some few in
    let long = body-count size n in
    let short = body-count size m in
    omega (arith, counts, long, short, few)

or_left : (a b : Bool) → a ≡ true → (a || b) ≡ true
or_left true b e = refl
or_left false b e = cc

or_right : (a b : Bool) → b ≡ true → (a || b) ≡ true
or_right true b e = refl
or_right false b e = e

pub has_plaintext-of : (header size most bytes n : ℕ) → n ≤ most → bytes ≡ container_length header size n
    → has_plaintext header size most bytes ≡ true
unfolding has_plaintext
has_plaintext-of header size zero bytes n within e =
    let none : n ≡ 0 = omega arith in
    (Decides-eqb bytes (container_length header size 0)).1 (e ∙ ap (λ (k : ℕ). container_length header size k) none)
has_plaintext-of header size (suc most) bytes n within e =
    elim (cases_Bool (eqb n (suc most))) [
      | inl same ↦ or_left (eqb bytes (container_length header size (suc most))) (has_plaintext header size most bytes)
          ((Decides-eqb bytes (container_length header size (suc most))).1 (e ∙ ap (λ (k : ℕ). container_length header size k) ((Decides-eqb n (suc most)).0 same)))
      | inr other ↦ or_right (eqb bytes (container_length header size (suc most))) (has_plaintext header size most bytes)
          (has_plaintext-of header size most bytes n (below_of other) e)
    ]
  where
    below_of : eqb n (suc most) ≡ false → n ≤ most
    below_of other =
        let differs : n ≡ suc most → ⊥ = λ (s : n ≡ suc most). let yes = (Decides-eqb n (suc most)).1 s in cc in
        omega arith

pub plaintext_of-has : (header size most bytes : ℕ) → has_plaintext header size most bytes ≡ true
    → (n : ℕ) × (n ≤ most) × (bytes ≡ container_length header size n)
unfolding has_plaintext
plaintext_of-has header size zero bytes has = (0, omega arith, (Decides-eqb bytes (container_length header size 0)).0 has)
plaintext_of-has header size (suc most) bytes has =
    elim (or_cases (eqb bytes (container_length header size (suc most))) (has_plaintext header size most bytes) has) [
      | inl same ↦ (suc most, omega arith, (Decides-eqb bytes (container_length header size (suc most))).0 same)
      | inr fewer ↦ wider (plaintext_of-has header size most bytes fewer)
    ]
  where
    wider : (n : ℕ) × (n ≤ most) × (bytes ≡ container_length header size n) → (n : ℕ) × (n ≤ suc most) × (bytes ≡ container_length header size n)
    wider (n, within, e) = (n, omega arith, e)

-- a sealed chunk by its place: where it begins, and its bytes with the tag
pub chunk_bytes : (size n i : ℕ) → 0 < size → i < chunk_count size n
    → min (size + 16) (body_length size n - i * (size + 16)) ≡ min size (n - i * size) + 16
chunk_bytes size n i some below =
    let long = body-full size n in
    let k = (n - 1) / size in
    let whole = div-add-mod' (n - 1) size in
    let above = lt-div-mul-add {a = n - 1} some in
    let count = count-full size n in
    let few : i ≤ k = omega (arith, below, count) in
    elim (eq-or-lt_of_le few) [
      | inl last ↦
          let at : i * size ≡ k * size = ap (λ m. m * size) last in
          omega (arith, long, whole, above, at, last)
      | inr more ↦
          let at : (i + 1) * size ≤ k * size = mul-le-mul_right size (omega (arith, more)) in
          omega (arith, long, whole, above, at, more)
    ]

pub place-sealed_chunks : (size : ℕ) (body : List ℕ) (n i : ℕ) → 0 < size → length body ≡ body_length size n
    → i < chunk_count size n
    → get_or (sealed_chunks size body) i [] ≡ take (min size (n - i * size) + 16) (drop (i * (size + 16)) body)
place-sealed_chunks size body n i some e below =
    let rest = drop (i * (size + 16)) body in
    let left : length rest ≡ length body - i * (size + 16) = length-drop (i * (size + 16)) body in
    let bytes : min (size + 16) (length rest) ≡ min size (n - i * size) + 16 =
    ap (λ m. min (size + 16) m) (left ∙ ap (λ m. m - i * (size + 16)) e) ∙ chunk_bytes size n i some below in
    get_or-sealed_chunks size body n i [] some e below ∙ sym (take_min (size + 16) rest) ∙ ap (λ k. take k rest) bytes

-- a place lies within the body
pub place-inside : (size n i : ℕ) → 0 < size → i < chunk_count size n
    → i * (size + 16) + (min size (n - i * size) + 16) ≤ body_length size n
place-inside size n i some below =
    let long = body-full size n in
    let k = (n - 1) / size in
    let whole = div-add-mod' (n - 1) size in
    let count = count-full size n in
    let few : i * size ≤ k * size = mul-le-mul_right size (omega (arith, below, count)) in
    omega (arith, long, whole, few, below, count)
