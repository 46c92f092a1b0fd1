-- Opening is the inverse of sealing: it gives a plaintext exactly for that plaintext's container.
use Rattle.std.proofs.Common.{◌≡◌, ℕ, ◌+◌, ◌-◌, ◌/◌, ◌^◌, ◌<◌, ◌≤◌, Bool, true, false, eqb, List, [], ◌∷◌, ◌++◌, length}
use Rattle.std.proofs.Common.{get_or, take, drop, Option, Some, None, Result, Ok, Err, not, if◌then◌else◌, inl, inr, refl, ap}
use Rattle.std.proofs.Common.{sym, ◌∙◌, subst, arith, append_assoc, length-append}
use Rattle.std.proofs.Math.Nat.{div-mul-le_self}
use Rattle.std.proofs.lemmas.Nat.{pow_pos}
use Rattle.std.proofs.lemmas.List.{append-nil, length-drop, take_at, drop_at, drop_more, drop_all}
use Rattle.std.proofs.lemmas.Bool.{cases_Bool, false_from_ne_true}
use Rattle.std.proofs.lemmas.Bool.Decides.{Decides-eqb}
use Rattle.std.specs.Prelude.{nat_lt}
use Rattle.container_core.specs.declared.fault.OpenFault.{OpenFault}
use Rattle.container_core.specs.declared.fault.OpenFault.TheVariants.{TooLong, BadLength, Forged}
use Rattle.container_core.specs.Chunks.{parts, cut_every, chunks, sealed_chunks, body_length, container_length}
use Rattle.container_core.specs.Chunks.{container_limit, has_plaintext, most_of}
use Rattle.container_core.specs.Shape.{ShapeView, IsShape, IsShapeOf, size_of}
use Rattle.container_core.specs.Stream.{prefix_in, is_nil, sealed_chunk, opened_chunk, stream}
use Rattle.container_core.specs.Container.{header_of, container, label_bytes, is_two, header_length, size_in, shape_in}
use Rattle.container_core.specs.Opening.{header_fault, first_fault, early_fault, early_fault_one, early_fault_two, unsealed, behind}
use Rattle.container_core.specs.Opening.{unless, opening, joined}
use Rattle.container_core.proofs.PartsLemmas.{body_count, body-full, has_plaintext-of, plaintext_of-has, container_length-more}
use Rattle.container_core.proofs.StreamLemmas.{length-sealed_chunk, length-stream, unsealed-stream, stream-unsealed}
use Rattle.container_core.proofs.HeaderLemmas.{length-header_of, good_header, header_fault-good, header-drop, header-faultless}
use Rattle.container_core.proofs.HeaderLemmas.{good_header-of, not_below, at_most, fault-one, fault-two, length-one, label-one}
use Rattle.container_core.proofs.HeaderLemmas.{header_length-of, size_in-of}

-- whether a chunk is the last one, by its number
last_by_number : (number : ℕ) (cs : List (List ℕ)) → number < length cs → is_nil (drop (number + 1) cs) ≡ eqb (number + 1) (length cs)
last_by_number number cs below = by_rest (drop (number + 1) cs) (length-drop (number + 1) cs)
  where
    by_rest : (rest : List (List ℕ)) → length rest ≡ length cs - (number + 1) → is_nil rest ≡ eqb (number + 1) (length cs)
    by_rest [] none = sym ((Decides-eqb (number + 1) (length cs)).1 (omega arith))
    by_rest (c ∷ rest) some = sym (false_from_ne_true (eqb (number + 1) (length cs))
        (λ (e : eqb (number + 1) (length cs) ≡ true). let same = (Decides-eqb (number + 1) (length cs)).0 e in absurd (omega arith)))

-- STREAM from the chunk of a number on: this chunk, and STREAM from the next one on
stream-from : (key header : List ℕ) (number : ℕ) (cs : List (List ℕ)) → number < length cs
    → stream key header number (drop number cs)
    ≡ sealed_chunk key header number (eqb (number + 1) (length cs)) (get_or cs number []) ++ stream key header (number + 1) (drop (number + 1) cs)
unfolding stream
stream-from key header number cs below =
    ap (λ (l : List (List ℕ)). stream key header number l) (drop_more cs number [] below)
    ∙ ap (λ (b : Bool). sealed_chunk key header number b (get_or cs number []) ++ stream key header (number + 1) (drop (number + 1) cs)) (last_by_number number cs below)

stream-nil : (key header : List ℕ) (number : ℕ) → stream key header number [] ≡ []
unfolding stream
stream-nil key header number = refl

-- after the output so far there is still room for the next sealed chunk
pub room_for_sealed : (key header : List ℕ) (number : ℕ) (cs : List (List ℕ)) (out whole : List ℕ) → number < length cs
    → out ++ stream key header number (drop number cs) ≡ whole
    → length out + (length (get_or cs number []) + 16) ≤ length whole
room_for_sealed key header number cs out whole below e =
    let sealed = sealed_chunk key header number (eqb (number + 1) (length cs)) (get_or cs number []) in
    let more = stream key header (number + 1) (drop (number + 1) cs) in
    let all : length (out ++ (sealed ++ more)) ≡ length whole =
    ap (λ (l : List ℕ). length (out ++ l)) (sym (stream-from key header number cs below)) ∙ ap (λ (l : List ℕ). length l) e in
    let one = length-sealed_chunk key header number (eqb (number + 1) (length cs)) (get_or cs number []) in
    let front = length-append out (sealed ++ more) in
    let back = length-append sealed more in
    omega arith

-- one more chunk is sealed
pub sealed_more : (key header : List ℕ) (number : ℕ) (cs : List (List ℕ)) (out whole : List ℕ) → number < length cs
    → out ++ stream key header number (drop number cs) ≡ whole
    → (out ++ sealed_chunk key header number (eqb (number + 1) (length cs)) (get_or cs number [])) ++ stream key header (number + 1) (drop (number + 1) cs) ≡ whole
sealed_more key header number cs out whole below e =
    append_assoc out (sealed_chunk key header number (eqb (number + 1) (length cs)) (get_or cs number [])) (stream key header (number + 1) (drop (number + 1) cs))
    ∙ ap (λ (s : List ℕ). out ++ s) (sym (stream-from key header number cs below)) ∙ e

-- all chunks are sealed
pub sealed_all : (key header : List ℕ) (number : ℕ) (cs : List (List ℕ)) (out whole : List ℕ) → length cs ≤ number
    → out ++ stream key header number (drop number cs) ≡ whole → out ≡ whole
sealed_all key header number cs out whole over e =
    sym (append-nil out) ∙ ap (λ (s : List ℕ). out ++ s) (sym (stream-nil key header number))
    ∙ ap (λ (l : List (List ℕ)). out ++ stream key header number l) (sym (drop_all number cs over)) ∙ e

-- the header is what a container begins with
pub container-header : (key prefix plain header out front : List ℕ) (shape : ShapeView) (size : ℕ) → size ≡ size_of shape
    → header ≡ header_of key shape prefix → out ≡ front ++ header
    → out ++ stream key header 0 (chunks size plain) ≡ front ++ container key shape prefix plain
unfolding container
container-header key prefix plain header out front shape size sized named begun =
    ap (λ (s : ℕ). out ++ stream key header 0 (chunks s plain)) sized
    ∙ ap (λ (o : List ℕ). o ++ stream key header 0 (chunks (size_of shape) plain)) begun
    ∙ append_assoc front header (stream key header 0 (chunks (size_of shape) plain))
    ∙ ap (λ (h : List ℕ). front ++ (h ++ stream key h 0 (chunks (size_of shape) plain))) named

pub behind-behind : (xs ys : List ℕ) (r : Result (List ℕ) OpenFault) → behind xs (behind ys r) ≡ behind (xs ++ ys) r
behind-behind xs ys (Ok rest) = ap (λ (l : List ℕ). Ok l) (sym (append_assoc xs ys rest))
behind-behind xs ys (Err fault) = refl

pub behind-nil : (r : Result (List ℕ) OpenFault) → behind [] r ≡ r
behind-nil (Ok rest) = refl
behind-nil (Err fault) = refl

pub joined-some : (forged : OpenFault) (plain : List ℕ) (r : Result (List ℕ) OpenFault)
    → joined forged (Some plain) r ≡ behind plain r
joined-some forged plain (Ok rest) = refl
joined-some forged plain (Err fault) = refl

-- opening from the chunk of a number on
unsealed-from : (key header : List ℕ) (number : ℕ) (cs : List (List ℕ)) → number < length cs
    → unsealed key header number (drop number cs)
    ≡ joined (Forged number) (opened_chunk key header number (eqb (number + 1) (length cs)) (get_or cs number [])) (unsealed key header (number + 1) (drop (number + 1) cs))
unfolding unsealed
unsealed-from key header number cs below =
    ap (λ (l : List (List ℕ)). unsealed key header number l) (drop_more cs number [] below)
    ∙ ap (λ (b : Bool). joined (Forged number) (opened_chunk key header number b (get_or cs number [])) (unsealed key header (number + 1) (drop (number + 1) cs))) (last_by_number number cs below)

unsealed-nil : (key header : List ℕ) (number : ℕ) → unsealed key header number [] ≡ Ok []
unfolding unsealed
unsealed-nil key header number = refl

-- one more chunk is opened
pub opened_more : (key header : List ℕ) (number : ℕ) (cs : List (List ℕ)) (out plain : List ℕ) (whole : Result (List ℕ) OpenFault) → number < length cs
    → behind out (unsealed key header number (drop number cs)) ≡ whole
    → opened_chunk key header number (eqb (number + 1) (length cs)) (get_or cs number []) ≡ Some plain
    → behind (out ++ plain) (unsealed key header (number + 1) (drop (number + 1) cs)) ≡ whole
opened_more key header number cs out plain whole below e opens =
    let more = unsealed key header (number + 1) (drop (number + 1) cs) in
    let step : unsealed key header number (drop number cs) ≡ behind plain more =
    unsealed-from key header number cs below
    ∙ ap (λ (o : Option (List ℕ)). joined (Forged number) o more) opens ∙ joined-some (Forged number) plain more in
    sym (behind-behind out plain more) ∙ ap (λ (r : Result (List ℕ) OpenFault). behind out r) (sym step) ∙ e

-- the next chunk doesn't check
pub forged_more : (key header : List ℕ) (number : ℕ) (cs : List (List ℕ)) (out : List ℕ) (whole : Result (List ℕ) OpenFault) → number < length cs
    → behind out (unsealed key header number (drop number cs)) ≡ whole
    → opened_chunk key header number (eqb (number + 1) (length cs)) (get_or cs number []) ≡ None → whole ≡ Err (Forged number)
forged_more key header number cs out whole below e fails =
    sym e ∙ ap (λ (r : Result (List ℕ) OpenFault). behind out r)
    (unsealed-from key header number cs below
    ∙ ap (λ (o : Option (List ℕ)). joined (Forged number) o (unsealed key header (number + 1) (drop (number + 1) cs))) fails)

-- all chunks are opened
pub opened_all : (key header : List ℕ) (number : ℕ) (cs : List (List ℕ)) (out : List ℕ) (whole : Result (List ℕ) OpenFault) → length cs ≤ number
    → behind out (unsealed key header number (drop number cs)) ≡ whole → whole ≡ Ok out
opened_all key header number cs out whole over e =
    sym e ∙ ap (λ (l : List (List ℕ)). behind out (unsealed key header number l)) (drop_all number cs over)
    ∙ ap (λ (r : Result (List ℕ) OpenFault). behind out r) (unsealed-nil key header number)
    ∙ ap (λ (l : List ℕ). Ok l) (append-nil out)

-- how many bytes follow the header
pub length-body : (size : ℕ) (key header plain : List ℕ) → length (stream key header 0 (chunks size plain)) ≡ body_length size (length plain)
unfolding chunks cut_every
length-body size key header plain =
    length-stream size key header 0 ((length plain - 1) / size) plain ∙ sym (body-full size (length plain))

pub length-container : (key prefix plain : List ℕ) (shape : ShapeView) → length prefix ≡ 7
    → length (container key shape prefix plain)
    ≡ container_length (24 + length (label_bytes shape.label)) (size_of shape) (length plain)
unfolding container
length-container key prefix plain shape seven =
    let header = header_of key shape prefix in
    let front = length-header_of key prefix shape seven in
    let body = length-body (size_of shape) key header plain in
    length-append header (stream key header 0 (chunks (size_of shape) plain))
    ∙ ap (λ (n : ℕ). n + length (stream key header 0 (chunks (size_of shape) plain))) front
    ∙ ap (λ (n : ℕ). 24 + length (label_bytes shape.label) + n) body

-- whether the length fits, and the header has no fault
pub record IsEarlyGood (key : List ℕ) (most : ℕ) (bytes : List ℕ) : Type 0 where
  pub header : header_fault key bytes ≡ None
  pub within : length bytes ≤ container_limit (header_length bytes) (size_in bytes) most
  pub has : has_plaintext (header_length bytes) (size_in bytes) (most_of most (size_in bytes)) (length bytes) ≡ true

early_two : (key : List ℕ) (most : ℕ) (bytes : List ℕ) → is_two bytes ≡ true
    → early_fault key most bytes ≡ early_fault_two key most bytes
unfolding early_fault
early_two key most bytes begins = ap (λ (b : Bool). if b then early_fault_two key most bytes else early_fault_one key most bytes) begins

early_one : (key : List ℕ) (most : ℕ) (bytes : List ℕ) → is_two bytes ≡ false
    → early_fault key most bytes ≡ early_fault_one key most bytes
unfolding early_fault
early_one key most bytes other = ap (λ (b : Bool). if b then early_fault_two key most bytes else early_fault_one key most bytes) other

-- the three parts of what shows early, of version 2
pub early-by_two : (key : List ℕ) (most : ℕ) (bytes : List ℕ) (fault : Option OpenFault) (long has : Bool) → is_two bytes ≡ true
    → header_fault key bytes ≡ fault
    → nat_lt (container_limit (header_length bytes) (size_in bytes) most) (length bytes) ≡ long
    → has_plaintext (header_length bytes) (size_in bytes) (most_of most (size_in bytes)) (length bytes) ≡ has
    → early_fault key most bytes ≡ first_fault fault (first_fault (if long then Some TooLong else None) (if not has then Some BadLength else None))
unfolding early_fault_two
early-by_two key most bytes fault long has begins f l h =
    let has_it = has_plaintext (header_length bytes) (size_in bytes) (most_of most (size_in bytes)) (length bytes) in
    early_two key most bytes begins
    ∙ ap (λ (o : Option OpenFault). first_fault o (first_fault (if nat_lt (container_limit (header_length bytes) (size_in bytes) most) (length bytes) then Some TooLong else None) (if not has_it then Some BadLength else None))) (sym (fault-two key bytes begins) ∙ f)
    ∙ ap (λ (b : Bool). first_fault fault (first_fault (if b then Some TooLong else None) (if not has_it then Some BadLength else None))) l
    ∙ ap (λ (b : Bool). first_fault fault (first_fault (if long then Some TooLong else None) (if not b then Some BadLength else None))) h

-- and of other bytes
pub early-by_one : (key : List ℕ) (most : ℕ) (bytes : List ℕ) (fault : Option OpenFault) (long has : Bool) → is_two bytes ≡ false
    → header_fault key bytes ≡ fault
    → nat_lt (container_limit 24 65536 most) (length bytes) ≡ long
    → has_plaintext 24 65536 (most_of most 65536) (length bytes) ≡ has
    → early_fault key most bytes ≡ first_fault (if long then Some TooLong else None) (first_fault fault (if not has then Some BadLength else None))
unfolding early_fault_one
early-by_one key most bytes fault long has other f l h =
    let has_it = has_plaintext 24 65536 (most_of most 65536) (length bytes) in
    early_one key most bytes other
    ∙ ap (λ (o : Option OpenFault). first_fault (if nat_lt (container_limit 24 65536 most) (length bytes) then Some TooLong else None) (first_fault o (if not has_it then Some BadLength else None))) (sym (fault-one key bytes other) ∙ f)
    ∙ ap (λ (b : Bool). first_fault (if b then Some TooLong else None) (first_fault fault (if not has_it then Some BadLength else None))) l
    ∙ ap (λ (b : Bool). first_fault (if long then Some TooLong else None) (first_fault fault (if not b then Some BadLength else None))) h

-- a good header that isn't of version 2 is of version 1
pub size-one : (key bytes : List ℕ) → is_two bytes ≡ false → header_fault key bytes ≡ None → size_in bytes ≡ 65536
unfolding size_in
size-one key bytes other none =
    let good = good_header key bytes none in
    let exponent : get_or bytes 9 0 ≡ 16 =
    subst (λ (o : Option (List ℕ)). IsShapeOf (get_or bytes 9 0) o) (label-one bytes other) good.shape in
    ap (λ (e : ℕ). 2 ^ e) exponent

pub some_size : (bytes : List ℕ) → 0 < size_in bytes
unfolding size_in
some_size bytes = pow_pos (get_or bytes 9 0)

-- no fault shows early
pub no_early_fault : (key : List ℕ) (most : ℕ) (bytes : List ℕ) → IsEarlyGood key most bytes → early_fault key most bytes ≡ None
no_early_fault key most bytes good =
    elim (cases_Bool (is_two bytes)) [
      | inl begins ↦ early-by_two key most bytes None false true begins good.header
          (not_below (container_limit (header_length bytes) (size_in bytes) most) (length bytes) good.within) good.has
      | inr other ↦
          let size = size-one key bytes other good.header in
          let header = length-one bytes other in
          let within : length bytes ≤ container_limit 24 65536 most =
          subst (λ (s : ℕ). length bytes ≤ container_limit 24 s most) size
          (subst (λ (h : ℕ). length bytes ≤ container_limit h (size_in bytes) most) header good.within) in
          early-by_one key most bytes None false true other good.header
          (not_below (container_limit 24 65536 most) (length bytes) within)
          (ap (λ (s : ℕ). has_plaintext 24 s (most_of most s) (length bytes)) (sym size)
          ∙ ap (λ (h : ℕ). has_plaintext h (size_in bytes) (most_of most (size_in bytes)) (length bytes)) (sym header) ∙ good.has)
    ]

early_parts : (b : Bool) (f : Option OpenFault) (h : Bool)
    → first_fault (if b then Some TooLong else None) (first_fault f (if not h then Some BadLength else None)) ≡ None
    → (b ≡ false) × (f ≡ None) × (h ≡ true)
early_parts true f h e = cc
early_parts false (Some fault) h e = cc
early_parts false None true e = (refl, refl, refl)
early_parts false None false e = cc

early_parts_two : (b : Bool) (f : Option OpenFault) (h : Bool)
    → first_fault f (first_fault (if b then Some TooLong else None) (if not h then Some BadLength else None)) ≡ None
    → (b ≡ false) × (f ≡ None) × (h ≡ true)
early_parts_two b (Some fault) h e = cc
early_parts_two true None h e = cc
early_parts_two false None true e = (refl, refl, refl)
early_parts_two false None false e = cc

pub parts_of_early : (key : List ℕ) (most : ℕ) (bytes : List ℕ) → early_fault key most bytes ≡ None → IsEarlyGood key most bytes
parts_of_early key most bytes e =
    elim (cases_Bool (is_two bytes)) [
      | inl begins ↦
          let (short, good, has) = early_parts_two
          (nat_lt (container_limit (header_length bytes) (size_in bytes) most) (length bytes)) (header_fault key bytes)
          (has_plaintext (header_length bytes) (size_in bytes) (most_of most (size_in bytes)) (length bytes))
          (sym (early-by_two key most bytes _ _ _ begins refl refl refl) ∙ e) in
          record {
            header = good;
            within = at_most (container_limit (header_length bytes) (size_in bytes) most) (length bytes) short;
            has = has;
          }
      | inr other ↦
          let (short, good, has) = early_parts (nat_lt (container_limit 24 65536 most) (length bytes)) (header_fault key bytes)
          (has_plaintext 24 65536 (most_of most 65536) (length bytes)) (sym (early-by_one key most bytes _ _ _ other refl refl refl) ∙ e) in
          let size = size-one key bytes other good in
          let header = length-one bytes other in
          record {
            header = good;
            within = subst (λ (h : ℕ). length bytes ≤ container_limit h (size_in bytes) most) (sym header)
                (subst (λ (s : ℕ). length bytes ≤ container_limit 24 s most) (sym size)
                (at_most (container_limit 24 65536 most) (length bytes) short));
            has = ap (λ (h : ℕ). has_plaintext h (size_in bytes) (most_of most (size_in bytes)) (length bytes)) header
                ∙ ap (λ (s : ℕ). has_plaintext 24 s (most_of most s) (length bytes)) size ∙ has;
          }
    ]

unless_ok : (fault : Option OpenFault) (answer : Result (List ℕ) OpenFault) (plain : List ℕ) → unless fault answer ≡ Ok plain
    → (fault ≡ None) × (answer ≡ Ok plain)
unless_ok (Some fault) answer plain e = cc
unless_ok None answer plain e = (refl, e)

-- the sealed chunks of a body with a plaintext of n bytes
sealed_chunks-parts : (size : ℕ) (body : List ℕ) (n : ℕ) → 0 < size → length body ≡ body_length size n
    → sealed_chunks size body ≡ parts (size + 16) ((n - 1) / size) body
unfolding sealed_chunks cut_every
sealed_chunks-parts size body n some e = ap (λ (k : ℕ). parts (size + 16) k body) (body_count size n (length body) some e)

unsealed-body : (size : ℕ) (key header plain : List ℕ) → 0 < size
    → unsealed key header 0 (sealed_chunks size (stream key header 0 (chunks size plain))) ≡ Ok plain
unfolding chunks cut_every
unsealed-body size key header plain some =
    let body = stream key header 0 (chunks size plain) in
    let full = div-mul-le_self (length plain - 1) size in
    ap (λ (cs : List (List ℕ)). unsealed key header 0 cs) (sealed_chunks-parts size body (length plain) some (length-body size key header plain))
    ∙ unsealed-stream size key header 0 ((length plain - 1) / size) plain (omega (arith, full))

pub unsealed-container : (key prefix plain : List ℕ) (shape : ShapeView) → length prefix ≡ 7
    → unsealed key (take (24 + length (label_bytes shape.label)) (container key shape prefix plain)) 0
    (sealed_chunks (size_of shape) (drop (24 + length (label_bytes shape.label)) (container key shape prefix plain))) ≡ Ok plain
unfolding container
unsealed-container key prefix plain shape seven =
    let header = header_of key shape prefix in
    let size = size_of shape in
    let body = stream key header 0 (chunks size plain) in
    let end = 24 + length (label_bytes shape.label) in
    let long = length-header_of key prefix shape seven in
    ap (λ (h : List ℕ). unsealed key h 0 (sealed_chunks size (drop end (header ++ body)))) (take_at header body end long)
    ∙ ap (λ (d : List ℕ). unsealed key header 0 (sealed_chunks size d)) (drop_at header body end long)
    ∙ unsealed-body size key header plain (pow_pos shape.exponent)

-- what a container names
pub header_length-container : (key prefix plain : List ℕ) (shape : ShapeView) → length prefix ≡ 7
    → header_length (container key shape prefix plain) ≡ 24 + length (label_bytes shape.label)
unfolding container
header_length-container key prefix plain shape seven =
    header_length-of key prefix (stream key (header_of key shape prefix) 0 (chunks (size_of shape) plain)) shape.exponent shape.label seven

pub size_in-container : (key prefix plain : List ℕ) (shape : ShapeView) → size_in (container key shape prefix plain) ≡ size_of shape
unfolding container
size_in-container key prefix plain shape =
    size_in-of key prefix (stream key (header_of key shape prefix) 0 (chunks (size_of shape) plain)) shape

header_fault-container : (key prefix plain : List ℕ) (shape : ShapeView) → IsShape shape → length prefix ≡ 7
    → header_fault key (container key shape prefix plain) ≡ None
unfolding container
header_fault-container key prefix plain shape lawful seven =
    header_fault-good key (container key shape prefix plain)
    (good_header-of key prefix (stream key (header_of key shape prefix) 0 (chunks (size_of shape) plain)) shape lawful seven)

-- opening a plaintext's container gives the plaintext
pub opening-container : (key prefix plain : List ℕ) (shape : ShapeView) (most : ℕ) → IsShape shape → length prefix ≡ 7
    → length plain ≤ most_of most (size_of shape) → opening key most (container key shape prefix plain) ≡ Ok plain
unfolding opening
opening-container key prefix plain shape most lawful seven within =
    let bytes = container key shape prefix plain in
    let end = 24 + length (label_bytes shape.label) in
    let header = header_length-container key prefix plain shape seven in
    let size = size_in-container key prefix plain shape in
    let long = length-container key prefix plain shape seven in
    let some : 0 < size_of shape = pow_pos shape.exponent in
    let more = container_length-more end (size_of shape) (length plain) (most_of most (size_of shape)) some within in
    let few : length bytes ≤ container_limit (header_length bytes) (size_in bytes) most =
    subst (λ (h : ℕ). length bytes ≤ container_limit h (size_in bytes) most) (sym header)
    (subst (λ (s : ℕ). length bytes ≤ container_limit end s most) (sym size) (omega (arith, long, more))) in
    let has : has_plaintext (header_length bytes) (size_in bytes) (most_of most (size_in bytes)) (length bytes) ≡ true =
    ap (λ (h : ℕ). has_plaintext h (size_in bytes) (most_of most (size_in bytes)) (length bytes)) header
    ∙ ap (λ (s : ℕ). has_plaintext end s (most_of most s) (length bytes)) size
    ∙ has_plaintext-of end (size_of shape) (most_of most (size_of shape)) (length bytes) (length plain) within long in
    let none = no_early_fault key most bytes
    (record { header = header_fault-container key prefix plain shape lawful seven; within = few; has = has }) in
    ap (λ (f : Option OpenFault). unless f (unsealed key (take (header_length bytes) bytes) 0 (sealed_chunks (size_in bytes) (drop (header_length bytes) bytes)))) none
    ∙ ap (λ (h : ℕ). unsealed key (take h bytes) 0 (sealed_chunks (size_in bytes) (drop h bytes))) header
    ∙ ap (λ (s : ℕ). unsealed key (take end bytes) 0 (sealed_chunks s (drop end bytes))) size
    ∙ unsealed-container key prefix plain shape seven

-- bytes that open to a plaintext are its container, of the shape and under the prefix that the header names
pub container-opening : (key bytes plain : List ℕ) (most : ℕ) → opening key most bytes ≡ Ok plain
    → (length plain ≤ most_of most (size_in bytes)) × IsShape (shape_in bytes) × (container key (shape_in bytes) (prefix_in bytes) plain ≡ bytes)
unfolding opening container chunks cut_every size_in
container-opening key bytes plain most e =
    let end = header_length bytes in
    let size = size_in bytes in
    let some = some_size bytes in
    let (none, opens) = unless_ok (early_fault key most bytes) (unsealed key (take end bytes) 0 (sealed_chunks size (drop end bytes))) plain e in
    let early = parts_of_early key most bytes none in
    let good = good_header key bytes early.header in
    let (n, few, long) = plaintext_of-has end size (most_of most size) (length bytes) early.has in
    let header = header_of key (shape_in bytes) (prefix_in bytes) in
    let body = drop end bytes in
    let left = length-drop end bytes in
    let of_n : length body ≡ body_length size n = omega (arith, left, long) in
    let k = (n - 1) / size in
    let all = body-full size n in
    let front : take end bytes ≡ header = header-faultless key bytes early.header in
    let cut : unsealed key header 0 (parts (size + 16) k body) ≡ Ok plain =
    ap (λ (cs : List (List ℕ)). unsealed key header 0 cs) (sym (sealed_chunks-parts size body n some of_n))
    ∙ ap (λ (h : List ℕ). unsealed key h 0 (sealed_chunks size body)) (sym front) ∙ opens in
    let parts_fit = div-mul-le_self (n - 1) size in
    let whole : stream key header 0 (parts size k plain) ≡ body = stream-unsealed size key header 0 k body plain (omega (arith, of_n, all, parts_fit)) cut in
    let bytes_of = length-stream size key header 0 k plain in
    let same : length (stream key header 0 (parts size k plain)) ≡ length body = ap (λ (l : List ℕ). length l) whole in
    let as_many : length plain ≡ n = omega (arith, bytes_of, same, of_n, all) in (
      omega (arith, as_many, few),
      good.shape,
      ap (λ (m : ℕ). header ++ stream key header 0 (parts size ((m - 1) / size) plain)) as_many
          ∙ ap (λ (s : List ℕ). header ++ s) whole ∙ header-drop key bytes good,
    )
