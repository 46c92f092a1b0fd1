-- The laws over the definitions.
use Rattle.std.proofs.Common.{◌≡◌, ℕ, ◌+◌, ◌*◌, ◌^◌, ◌<◌, ◌≤◌, ◌↔◌, Bool, true, false, eqb, not, List, [], ◌∷◌, ◌++◌}
use Rattle.std.proofs.Common.{length, length-append, get_or, take, drop, Option, Some, None, Result, Ok, Err, inl, inr}
use Rattle.std.proofs.Common.{if◌then◌else◌, refl, ap, sym, ◌∙◌, subst, arith}
use Rattle.std.proofs.lemmas.List.{take_at, drop_at, same_from_push}
use Rattle.std.proofs.lemmas.Nat.{from_be_bytes-to_be_bytes_4}
use Rattle.std.proofs.Math.Nat.{pow-le-pow_right}
use Rattle.std.proofs.lemmas.Bool.{cases_Bool}
use Rattle.std.proofs.lemmas.Result.{IfErr-at_err}
use Rattle.std.specs.Prelude.{codes, nat_lt, IfSome, IfErr}
use Rattle.std.specs.Str.{bytes_eq}
use Rattle.std.specs.Int.{w32, to_be_bytes, from_be_bytes}
use Rattle.container_core.specs.declared.fault.OpenFault.{OpenFault}
use Rattle.container_core.specs.declared.fault.OpenFault.TheVariants.{TooLong, ShortHeader, BadMagic, BadVersion}
use Rattle.container_core.specs.declared.fault.OpenFault.TheVariants.{BadExponent, KeyMismatch, BadLength, Forged, OutOfMemory}
use Rattle.container_core.specs.Chunks.{chunks, sealed_chunks, container_length, container_limit, has_plaintext, most_of}
use Rattle.container_core.specs.Shape.{ShapeView, IsShape, size_of}
use Rattle.container_core.specs.Stream.{nonce_of, prefix_in, is_nil, stream, opened_chunk}
use Rattle.container_core.specs.Container.{hint_of, header_of, front_of, version_of, label_bytes, container, is_two, header_length}
use Rattle.container_core.specs.Container.{size_in, shape_in}
use Rattle.container_core.specs.Faults.{IsOfBytes}
use Rattle.container_core.specs.Opening.{header_fault, header_fault_one, header_fault_two, first_fault, early_fault, longest}
use Rattle.container_core.specs.Opening.{unsealed, unless, opening, joined}
use Rattle.container_core.proofs.PartsLemmas.{container_length-grows, container_length-more, has_plaintext-of, plaintext_of-has}
use Rattle.container_core.proofs.PartsLemmas.{most_of-few, most_of-least, most_of-more}
use Rattle.container_core.proofs.HeaderLemmas.{length-hint_of, length-prefix_in, prefix_in-header_of, shape_in-of, not_below}
use Rattle.container_core.proofs.HeaderLemmas.{fault-one, fault-two, shape-bounds}
use Rattle.container_core.proofs.OpeningLemmas.{opening-container, container-opening, early-by_one, early-by_two, some_size, unsealed-container}
use Rattle.container_core.proofs.FaultLemmas.{longest-one, longest-two}

same_flag : (a b : Bool) → ◌≡◌ {A = ℕ} (if a then 1 else 0) (if b then 1 else 0) → a ≡ b
same_flag true true e = refl
same_flag true false e = absurd (omega arith)
same_flag false true e = absurd (omega arith)
same_flag false false e = refl

same_fronts : (xs ys us vs : List ℕ) → length xs ≡ length ys → xs ++ us ≡ ys ++ vs → (xs ≡ ys) × (us ≡ vs)
same_fronts xs ys us vs long e = (
  sym (take_at xs us (length xs) refl) ∙ ap (λ (l : List ℕ). take (length xs) l) e ∙ take_at ys vs (length xs) (sym long),
  sym (drop_at xs us (length xs) refl) ∙ ap (λ (l : List ℕ). drop (length xs) l) e ∙ drop_at ys vs (length xs) (sym long),
)

-- nonces of different chunks differ
pub nonce_of-injective : (prefix other : List ℕ) (number another : ℕ) (last end : Bool)
    → length prefix ≡ length other → number < 2 ^ 32 → another < 2 ^ 32
    → nonce_of prefix number last ≡ nonce_of other another end
    → (prefix ≡ other) × (number ≡ another) × (last ≡ end)
unfolding nonce_of
nonce_of-injective prefix other number another last end long small tiny e =
    let (fronts, flags) = same_from_push (prefix ++ to_be_bytes w32 number) (other ++ to_be_bytes w32 another)
    (if last then 1 else 0) (if end then 1 else 0) e in
    let (prefixes, numbers) = same_fronts prefix other (to_be_bytes w32 number) (to_be_bytes w32 another) long fronts in (
      prefixes,
      sym (from_be_bytes-to_be_bytes_4 number small) ∙ ap (λ (l : List ℕ). from_be_bytes w32 l) numbers
          ∙ from_be_bytes-to_be_bytes_4 another tiny,
      same_flag last end flags,
    )

-- what a container names
pub prefix_in-container : (key prefix plain : List ℕ) (shape : ShapeView) → length prefix ≡ 7
    → prefix_in (container key shape prefix plain) ≡ prefix
unfolding container
prefix_in-container key prefix plain shape seven =
    prefix_in-header_of key prefix (stream key (header_of key shape prefix) 0 (chunks (size_of shape) plain)) shape seven

pub shape_in-container : (key prefix plain : List ℕ) (shape : ShapeView) → length prefix ≡ 7
    → shape_in (container key shape prefix plain) ≡ shape
unfolding container
shape_in-container key prefix plain shape seven =
    shape_in-of key prefix (stream key (header_of key shape prefix) 0 (chunks (size_of shape) plain)) shape seven

same_ok : (plain another : List ℕ) (answer : Result (List ℕ) OpenFault) → answer ≡ Ok plain → answer ≡ Ok another → plain ≡ another
same_ok plain another answer e f = cc

-- shape and prefix, whatever the keys are
pub names-injective : (key prefix plain other another more : List ℕ) (shape form : ShapeView) → length prefix ≡ 7 → length other ≡ 7
    → container key shape prefix plain ≡ container another form other more → (shape ≡ form) × (prefix ≡ other)
names-injective key prefix plain other another more shape form seven also e = (
  sym (shape_in-container key prefix plain shape seven) ∙ ap (λ (l : List ℕ). shape_in l) e ∙ shape_in-container another other more form also,
  sym (prefix_in-container key prefix plain shape seven) ∙ ap (λ (l : List ℕ). prefix_in l) e ∙ prefix_in-container another other more form also,
)

pub container-injective : (key prefix other plain another : List ℕ) (shape form : ShapeView) → IsShape shape → IsShape form
    → length prefix ≡ 7 → length other ≡ 7
    → container key shape prefix plain ≡ container key form other another → (shape ≡ form) × (prefix ≡ other) × (plain ≡ another)
container-injective key prefix other plain another shape form lawful formal seven also e =
    let (shapes, prefixes) = names-injective key prefix plain other key another shape form seven also e in (
      shapes,
      prefixes,
      same_ok plain another (bodies shape (container key shape prefix plain)) (unsealed-container key prefix plain shape seven)
          (ap (λ (s : ShapeView). bodies s (container key shape prefix plain)) shapes
          ∙ ap (λ (l : List ℕ). bodies form l) e ∙ unsealed-container key other another form also),
    )
  where
    bodies : ShapeView → List ℕ → Result (List ℕ) OpenFault
    bodies s l = unsealed key (take (24 + length (label_bytes s.label)) l) 0
        (sealed_chunks (size_of s) (drop (24 + length (label_bytes s.label)) l))

-- a container has at least 17 bytes, whatever its prefix is
longer : (key prefix plain : List ℕ) (shape : ShapeView) → 17 ≤ length (container key shape prefix plain)
unfolding container header_of
longer key prefix plain shape =
    let header = header_of key shape prefix in
    let front = front_of key (version_of shape.label) shape.exponent prefix in
    let body = stream key header 0 (chunks (size_of shape) plain) in
    let hint = length-hint_of key in
    let both = length-append prefix (hint_of key) in
    let begins = length-append front (label_bytes shape.label) in
    let all = length-append header body in
    omega arith

pub opens_exactly : (key bytes plain : List ℕ) (most : ℕ)
    → (opening key most bytes ≡ Ok plain)
    ↔ ((length plain ≤ most_of most (size_in bytes)) × IsShape (shape_in bytes) × (bytes ≡ container key (shape_in bytes) (prefix_in bytes) plain))
unfolding size_in
opens_exactly key bytes plain most = (
  λ opens. let (few, lawful, same) = container-opening key bytes plain most opens in (few, lawful, sym same),
  λ found. let (few, lawful, same) = found in
      let long : 17 ≤ length bytes = let l = longer key (prefix_in bytes) plain (shape_in bytes) in
      subst (λ (b : List ℕ). 17 ≤ length b) (sym same) l in
      ap (λ (l : List ℕ). opening key most l) same
      ∙ opening-container key (prefix_in bytes) plain (shape_in bytes) most lawful (length-prefix_in bytes long) few,
)

-- no limit of at most 2 ^ 40 bytes is reduced
pub sealed-fits : (shape : ShapeView) (n : ℕ) → IsShape shape → n ≤ 1099511627776 → n ≤ 4294967295 * size_of shape
sealed-fits shape n lawful few =
    let bounds = shape-bounds shape.exponent shape.label lawful in
    let least : 4096 ≤ size_of shape = pow-le-pow_right {n = 2} (omega arith) bounds.0 in
    omega (arith, least, few)

size-shape : (bytes : List ℕ) → size_of (shape_in bytes) ≡ size_in bytes
unfolding size_in
size-shape bytes = refl

pub most_of-sealed : (bytes : List ℕ) (most n : ℕ) → IsShape (shape_in bytes) → n ≤ 1099511627776 → n ≤ most
    → n ≤ most_of most (size_in bytes)
most_of-sealed bytes most n lawful sealed few =
    let size = size-shape bytes in
    let fits = sealed-fits (shape_in bytes) n lawful sealed in
    most_of-least most (size_in bytes) n few (subst (λ (s : ℕ). n ≤ 4294967295 * s) size fits)

pub opens_sealed : (key bytes plain : List ℕ) (most : ℕ) → most ≤ 1099511627776
    → (opening key most bytes ≡ Ok plain)
    ↔ ((length plain ≤ most) × IsShape (shape_in bytes) × (bytes ≡ container key (shape_in bytes) (prefix_in bytes) plain))
opens_sealed key bytes plain most short = (
  λ opens. let (few, lawful, same) = (opens_exactly key bytes plain most).0 opens in
      let less = most_of-few most (size_in bytes) in
      (omega (arith, few, less), lawful, same),
  λ found. let (few, lawful, same) = found in
      (opens_exactly key bytes plain most).1 (most_of-sealed bytes most (length plain) lawful (omega (arith, few, short)) few, lawful, same),
)

pub sealed-opens : (key prefix plain : List ℕ) (shape : ShapeView) (most : ℕ) → IsShape shape → length prefix ≡ 7
    → length plain ≤ 1099511627776 → length plain ≤ most → opening key most (container key shape prefix plain) ≡ Ok plain
sealed-opens key prefix plain shape most lawful seven sealed few =
    opening-container key prefix plain shape most lawful seven
    (most_of-least most (size_of shape) (length plain) few (sealed-fits shape (length plain) lawful sealed))

of_all_tests : (a b c d e : Bool)
    → IfSome (if a then Some ShortHeader else (if not b then Some BadMagic else (if not c then Some BadVersion else (if not d then Some BadExponent else (if not e then Some KeyMismatch else None))))) IsOfBytes
of_all_tests true b c d e = tt
of_all_tests false false c d e = tt
of_all_tests false true false d e = tt
of_all_tests false true true false e = tt
of_all_tests false true true true false = tt
of_all_tests false true true true true = tt

of_two_tests : (a b c d e : Bool)
    → IfSome (if a then Some ShortHeader else (if b then Some BadExponent else (if c then Some BadExponent else (if not d then Some KeyMismatch else (if e then Some ShortHeader else None))))) IsOfBytes
of_two_tests true b c d e = tt
of_two_tests false true c d e = tt
of_two_tests false false true d e = tt
of_two_tests false false false false e = tt
of_two_tests false false false true true = tt
of_two_tests false false false true false = tt

pub header_fault-of_bytes : (key bytes : List ℕ) → IfSome (header_fault key bytes) IsOfBytes
unfolding header_fault_one header_fault_two
header_fault-of_bytes key bytes =
    elim (cases_Bool (is_two bytes)) [
      | inl begins ↦ subst (λ (o : Option OpenFault). IfSome o IsOfBytes) (sym (fault-two key bytes begins))
          (of_two_tests (nat_lt (length bytes) 24) (nat_lt (get_or bytes 9 0) 12) (nat_lt 20 (get_or bytes 9 0))
          (bytes_eq (take 7 (drop 17 bytes)) (hint_of key)) (nat_lt (length bytes) (header_length bytes)))
      | inr other ↦ subst (λ (o : Option OpenFault). IfSome o IsOfBytes) (sym (fault-one key bytes other))
          (of_all_tests (nat_lt (length bytes) 24) (bytes_eq (take 8 bytes) (codes "STRMSEAL")) (eqb (get_or bytes 8 0) 1)
          (eqb (get_or bytes 9 0) 16) (bytes_eq (take 7 (drop 17 bytes)) (hint_of key)))
    ]

joined-of_bytes : (number : ℕ) (o : Option (List ℕ)) (r : Result (List ℕ) OpenFault) → IfErr r IsOfBytes
    → IfErr (joined (Forged number) o r) IsOfBytes
joined-of_bytes number None r h = tt
joined-of_bytes number (Some chunk) (Ok rest) h = tt
joined-of_bytes number (Some chunk) (Err fault) h = h

unsealed-of_bytes : (key header : List ℕ) (number : ℕ) (sealed : List (List ℕ)) → IfErr (unsealed key header number sealed) IsOfBytes
unfolding unsealed
unsealed-of_bytes key header number [] = tt
unsealed-of_bytes key header number (part ∷ rest) =
    joined-of_bytes number (opened_chunk key header number (is_nil rest) part) (unsealed key header (number + 1) rest)
    (unsealed-of_bytes key header (number + 1) rest)

first-of_bytes : (f g : Option OpenFault) → IfSome f IsOfBytes → IfSome g IsOfBytes → IfSome (first_fault f g) IsOfBytes
first-of_bytes (Some fault) g h i = h
first-of_bytes None g h i = i

long-of_bytes : (long : Bool) → IfSome (if long then Some TooLong else None) IsOfBytes
long-of_bytes true = tt
long-of_bytes false = tt

bad-of_bytes : (has : Bool) → IfSome (if not has then Some BadLength else None) IsOfBytes
bad-of_bytes true = tt
bad-of_bytes false = tt

pub early-of_bytes : (key : List ℕ) (most : ℕ) (bytes : List ℕ) → IfSome (early_fault key most bytes) IsOfBytes
early-of_bytes key most bytes =
    let header = header_fault-of_bytes key bytes in
    elim (cases_Bool (is_two bytes)) [
      | inl begins ↦ subst (λ (o : Option OpenFault). IfSome o IsOfBytes) (sym (early-by_two key most bytes _ _ _ begins refl refl refl))
          (first-of_bytes (header_fault key bytes) (first_fault (if nat_lt (container_limit (header_length bytes) (size_in bytes) most) (length bytes) then Some TooLong else None) (if not (has_plaintext (header_length bytes) (size_in bytes) (most_of most (size_in bytes)) (length bytes)) then Some BadLength else None)) header
          (first-of_bytes (if nat_lt (container_limit (header_length bytes) (size_in bytes) most) (length bytes) then Some TooLong else None) (if not (has_plaintext (header_length bytes) (size_in bytes) (most_of most (size_in bytes)) (length bytes)) then Some BadLength else None)
          (long-of_bytes (nat_lt (container_limit (header_length bytes) (size_in bytes) most) (length bytes)))
          (bad-of_bytes (has_plaintext (header_length bytes) (size_in bytes) (most_of most (size_in bytes)) (length bytes)))))
      | inr other ↦ subst (λ (o : Option OpenFault). IfSome o IsOfBytes) (sym (early-by_one key most bytes _ _ _ other refl refl refl))
          (first-of_bytes (if nat_lt (container_limit 24 65536 most) (length bytes) then Some TooLong else None) (first_fault (header_fault key bytes) (if not (has_plaintext 24 65536 (most_of most 65536) (length bytes)) then Some BadLength else None))
          (long-of_bytes (nat_lt (container_limit 24 65536 most) (length bytes)))
          (first-of_bytes (header_fault key bytes) (if not (has_plaintext 24 65536 (most_of most 65536) (length bytes)) then Some BadLength else None) header
          (bad-of_bytes (has_plaintext 24 65536 (most_of most 65536) (length bytes)))))
    ]

unless-of_bytes : (f : Option OpenFault) (r : Result (List ℕ) OpenFault) → IfSome f IsOfBytes → IfErr r IsOfBytes → IfErr (unless f r) IsOfBytes
unless-of_bytes (Some fault) r h i = h
unless-of_bytes None r h i = i

answer-of_bytes : (key : List ℕ) (most : ℕ) (bytes : List ℕ) → IfErr (opening key most bytes) IsOfBytes
unfolding opening
answer-of_bytes key most bytes =
    let answer = unsealed key (take (header_length bytes) bytes) 0 (sealed_chunks (size_in bytes) (drop (header_length bytes) bytes)) in
    unless-of_bytes (early_fault key most bytes) answer (early-of_bytes key most bytes)
    (unsealed-of_bytes key (take (header_length bytes) bytes) 0 (sealed_chunks (size_in bytes) (drop (header_length bytes) bytes)))

-- so it isn't a fault of memory
pub early-no_memory : (key bytes : List ℕ) (most : ℕ) (fault : OpenFault) → early_fault key most bytes ≡ Some fault → fault ≡ OutOfMemory → ⊥
early-no_memory key bytes most fault e memory =
    subst (λ (f : OpenFault). IsOfBytes f) memory (subst (λ (o : Option OpenFault). IfSome o IsOfBytes) e (early-of_bytes key most bytes))

pub opening-of_bytes : (key : List ℕ) (most : ℕ) (bytes : List ℕ) (fault : OpenFault) → opening key most bytes ≡ Err fault → IsOfBytes fault
opening-of_bytes key most bytes fault e = IfErr-at_err IsOfBytes e (answer-of_bytes key most bytes)

-- within a lower limit the higher one makes no difference
same_bool : (a b : Bool) → (a ≡ true → b ≡ true) → (b ≡ true → a ≡ true) → a ≡ b
same_bool true b f g = sym (f refl)
same_bool false true f g = g refl
same_bool false false f g = refl

same_has : (header size most more bytes : ℕ) → 0 < size → most ≤ more → bytes ≤ container_length header size most
    → has_plaintext header size most bytes ≡ has_plaintext header size more bytes
same_has header size most more bytes some few within =
    same_bool (has_plaintext header size most bytes) (has_plaintext header size more bytes)
    (λ (e : has_plaintext header size most bytes ≡ true). let (n, small, long) = plaintext_of-has header size most bytes e in
    has_plaintext-of header size more bytes n (omega arith) long)
    (λ (e : has_plaintext header size more bytes ≡ true). let (n, small, long) = plaintext_of-has header size more bytes e in
    has_plaintext-of header size most bytes n (container_length-grows header size most n some (omega (arith, long, within))) long)

pub early-limits : (key : List ℕ) (most more : ℕ) (bytes : List ℕ) → most ≤ more → length bytes ≤ longest most bytes
    → early_fault key most bytes ≡ early_fault key more bytes
early-limits key most more bytes few within =
    elim (cases_Bool (is_two bytes)) [
      | inl begins ↦
          let some = some_size bytes in
          let least : length bytes ≤ container_limit (header_length bytes) (size_in bytes) most =
          subst (λ (n : ℕ). length bytes ≤ n) (longest-two most bytes begins) within in
          let fewer = most_of-more most more (size_in bytes) few in
          let grows = container_length-more (header_length bytes) (size_in bytes) (most_of most (size_in bytes)) (most_of more (size_in bytes)) some fewer in
          early-by_two key most bytes _ _ _ begins refl
          (not_below (container_limit (header_length bytes) (size_in bytes) most) (length bytes) least)
          (same_has (header_length bytes) (size_in bytes) (most_of most (size_in bytes)) (most_of more (size_in bytes)) (length bytes) some fewer least)
          ∙ sym (early-by_two key more bytes _ _ _ begins refl
          (not_below (container_limit (header_length bytes) (size_in bytes) more) (length bytes) (omega (arith, grows, least))) refl)
      | inr other ↦
          let least : length bytes ≤ container_limit 24 65536 most =
          subst (λ (n : ℕ). length bytes ≤ n) (longest-one most bytes other) within in
          let fewer = most_of-more most more 65536 few in
          let grows = container_length-more 24 65536 (most_of most 65536) (most_of more 65536) (omega arith) fewer in
          early-by_one key most bytes _ _ _ other refl
          (not_below (container_limit 24 65536 most) (length bytes) least)
          (same_has 24 65536 (most_of most 65536) (most_of more 65536) (length bytes) (omega arith) fewer least)
          ∙ sym (early-by_one key more bytes _ _ _ other refl
          (not_below (container_limit 24 65536 more) (length bytes) (omega (arith, grows, least))) refl)
    ]

pub opening-limits : (key : List ℕ) (most more : ℕ) (bytes : List ℕ) → most ≤ more → length bytes ≤ longest most bytes
    → opening key most bytes ≡ opening key more bytes
unfolding opening
opening-limits key most more bytes few within =
    ap (λ (f : Option OpenFault). unless f (unsealed key (take (header_length bytes) bytes) 0 (sealed_chunks (size_in bytes) (drop (header_length bytes) bytes))))
    (early-limits key most more bytes few within)

same_answer : (plain : List ℕ) (fault : OpenFault) (answer : Result (List ℕ) OpenFault) → answer ≡ Err fault → answer ≡ Ok plain → ⊥
same_answer plain fault answer e f = cc

-- opening gives the plaintext whose container the bytes are, and such bytes have no fault
pub opened_plaintext : (key bytes out plain : List ℕ) (most : ℕ) → opening key most bytes ≡ Ok out
    → length plain ≤ most_of most (size_in bytes) → IsShape (shape_in bytes) → bytes ≡ container key (shape_in bytes) (prefix_in bytes) plain → out ≡ plain
opened_plaintext key bytes out plain most opens few lawful same =
    same_ok out plain (opening key most bytes) opens ((opens_exactly key bytes plain most).1 (few, lawful, same))

pub no_fault : (key bytes plain : List ℕ) (most : ℕ) (fault : OpenFault) → opening key most bytes ≡ Err fault
    → length plain ≤ most_of most (size_in bytes) → IsShape (shape_in bytes) → bytes ≡ container key (shape_in bytes) (prefix_in bytes) plain → ⊥
no_fault key bytes plain most fault e few lawful same =
    same_answer plain fault (opening key most bytes) e ((opens_exactly key bytes plain most).1 (few, lawful, same))
