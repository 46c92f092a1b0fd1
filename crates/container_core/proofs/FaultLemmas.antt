-- Which fault shows before any chunk is opened, and what opening then returns.
use Rattle.std.proofs.Common.{◌≡◌, ℕ, ◌+◌, ◌*◌, ◌^◌, ◌<◌, ◌≤◌, Bool, true, false, List, [], ◌∷◌, ◌++◌, length, take, drop, Option, Some, None, length-append}
use Rattle.std.proofs.Common.{Err, if◌then◌else◌, inl, inr, refl, ap, sym, ◌∙◌, subst, arith, take-append-drop}
use Rattle.std.proofs.lemmas.List.{get_or_append_left, length-drop, take-append-le, drop-append-le, take_all}
use Rattle.std.proofs.lemmas.Bool.{cases_Bool, cases_lt, false_from_ne_true}
use Rattle.std.proofs.lemmas.Bool.Decides.{nat_tests}
use Rattle.std.specs.Prelude.{nat_lt}
use Rattle.std.specs.Str.{bytes_eq}
use Rattle.container_core.specs.Container.{magic, is_two, header_length, size_in}
use Rattle.container_core.specs.declared.fault.OpenFault.{OpenFault}
use Rattle.container_core.specs.declared.fault.OpenFault.TheVariants.{TooLong, ShortHeader, BadMagic, BadVersion}
use Rattle.container_core.specs.declared.fault.OpenFault.TheVariants.{BadExponent, KeyMismatch, BadLength, Forged}
use Rattle.container_core.specs.declared.fault.OpenFault.TheVariants.{OutOfMemory, Read, Write}
use Rattle.container_core.specs.Chunks.{sealed_chunks, container_length, container_limit, has_plaintext, most_of}
use Rattle.container_core.specs.Cutting.{RefusesCut}
use Rattle.container_core.specs.Opening.{header_fault, header_fault_one, header_fault_two, early_fault, longest}
use Rattle.container_core.specs.Opening.{unsealed, unless, opening}
use Rattle.container_core.proofs.PartsLemmas.{has_plaintext-of, plaintext_of-has, container_length-more, most_of-chunks}
use Rattle.container_core.proofs.HeaderLemmas.{not_below, fault-one, fault-two, length-one, length-two, least-length}
use Rattle.container_core.proofs.OpeningLemmas.{no_early_fault, early-by_one, early-by_two, size-one, some_size}

below : (m n : ℕ) → m < n → nat_lt m n ≡ true
below m n e = grind (arith, nat_tests)

pub longest-one : (most : ℕ) (bytes : List ℕ) → is_two bytes ≡ false → longest most bytes ≡ container_limit 24 65536 most
unfolding longest
longest-one most bytes other =
    ap (λ (b : Bool). if b then container_limit (header_length bytes) (size_in bytes) most else container_limit 24 65536 most) other

pub longest-two : (most : ℕ) (bytes : List ℕ) → is_two bytes ≡ true
    → longest most bytes ≡ container_limit (header_length bytes) (size_in bytes) most
unfolding longest
longest-two most bytes begins =
    ap (λ (b : Bool). if b then container_limit (header_length bytes) (size_in bytes) most else container_limit 24 65536 most) begins

-- if the header has no fault
pub longest-good : (key : List ℕ) (most : ℕ) (bytes : List ℕ) → header_fault key bytes ≡ None
    → longest most bytes ≡ container_limit (header_length bytes) (size_in bytes) most
longest-good key most bytes good =
    elim (cases_Bool (is_two bytes)) [
      | inl begins ↦ longest-two most bytes begins
      | inr other ↦
          longest-one most bytes other
          ∙ ap (λ (s : ℕ). container_limit 24 s most) (sym (size-one key bytes other good))
          ∙ ap (λ (h : ℕ). container_limit h (size_in bytes) most) (sym (length-one bytes other))
    ]

pub early-too_long_one : (key : List ℕ) (most : ℕ) (bytes : List ℕ) → is_two bytes ≡ false
    → container_limit 24 65536 most < length bytes → early_fault key most bytes ≡ Some TooLong
early-too_long_one key most bytes other long =
    early-by_one key most bytes _ _ _ other refl (below (container_limit 24 65536 most) (length bytes) long) refl

pub early-too_long_two : (key : List ℕ) (most : ℕ) (bytes : List ℕ) → is_two bytes ≡ true → header_fault key bytes ≡ None
    → container_limit (header_length bytes) (size_in bytes) most < length bytes → early_fault key most bytes ≡ Some TooLong
early-too_long_two key most bytes begins good long =
    early-by_two key most bytes _ _ _ begins good
    (below (container_limit (header_length bytes) (size_in bytes) most) (length bytes) long) refl

-- for a header that has no fault
pub early-too_long : (key : List ℕ) (most : ℕ) (bytes : List ℕ) → header_fault key bytes ≡ None
    → container_limit (header_length bytes) (size_in bytes) most < length bytes → early_fault key most bytes ≡ Some TooLong
early-too_long key most bytes good long =
    elim (cases_Bool (is_two bytes)) [
      | inl begins ↦ early-too_long_two key most bytes begins good long
      | inr other ↦ early-too_long_one key most bytes other
          (subst (λ (s : ℕ). container_limit 24 s most < length bytes) (size-one key bytes other good)
          (subst (λ (h : ℕ). container_limit h (size_in bytes) most < length bytes) (length-one bytes other) long))
    ]

pub early-header_fault : (key : List ℕ) (most : ℕ) (bytes : List ℕ) (fault : OpenFault)
    → (is_two bytes ≡ false → length bytes ≤ container_limit 24 65536 most)
    → header_fault key bytes ≡ Some fault → early_fault key most bytes ≡ Some fault
early-header_fault key most bytes fault within bad =
    elim (cases_Bool (is_two bytes)) [
      | inl begins ↦ early-by_two key most bytes _ _ _ begins bad refl refl
      | inr other ↦ early-by_one key most bytes _ _ _ other bad
          (not_below (container_limit 24 65536 most) (length bytes) (within other)) refl
    ]

pub early-bad_length : (key : List ℕ) (most : ℕ) (bytes : List ℕ)
    → length bytes ≤ container_limit (header_length bytes) (size_in bytes) most
    → header_fault key bytes ≡ None
    → ((n : ℕ) → n ≤ most_of most (size_in bytes) → length bytes ≡ container_length (header_length bytes) (size_in bytes) n → ⊥)
    → early_fault key most bytes ≡ Some BadLength
early-bad_length key most bytes within good none =
    elim (cases_Bool (is_two bytes)) [
      | inl begins ↦ early-by_two key most bytes _ _ _ begins good
          (not_below (container_limit (header_length bytes) (size_in bytes) most) (length bytes) within) hasn't
      | inr other ↦
          let size = size-one key bytes other good in
          let header = length-one bytes other in
          early-by_one key most bytes _ _ _ other good
          (not_below (container_limit 24 65536 most) (length bytes)
          (subst (λ (s : ℕ). length bytes ≤ container_limit 24 s most) size
          (subst (λ (h : ℕ). length bytes ≤ container_limit h (size_in bytes) most) header within)))
          (ap (λ (s : ℕ). has_plaintext 24 s (most_of most s) (length bytes)) (sym size)
          ∙ ap (λ (h : ℕ). has_plaintext h (size_in bytes) (most_of most (size_in bytes)) (length bytes)) (sym header) ∙ hasn't)
    ]
  where
    hasn't : has_plaintext (header_length bytes) (size_in bytes) (most_of most (size_in bytes)) (length bytes) ≡ false
    hasn't = false_from_ne_true (has_plaintext (header_length bytes) (size_in bytes) (most_of most (size_in bytes)) (length bytes))
        (λ (e : has_plaintext (header_length bytes) (size_in bytes) (most_of most (size_in bytes)) (length bytes) ≡ true).
        let (n, few, long) = plaintext_of-has (header_length bytes) (size_in bytes) (most_of most (size_in bytes)) (length bytes) e in none n few long)

pub early-none : (key : List ℕ) (most : ℕ) (bytes : List ℕ) (n : ℕ) → n ≤ most_of most (size_in bytes)
    → length bytes ≡ container_length (header_length bytes) (size_in bytes) n
    → header_fault key bytes ≡ None → early_fault key most bytes ≡ None
early-none key most bytes n few long good =
    let more = container_length-more (header_length bytes) (size_in bytes) n (most_of most (size_in bytes)) (some_size bytes) few in
    no_early_fault key most bytes (record {
      header = good;
      within = omega (arith, more, long);
      has = has_plaintext-of (header_length bytes) (size_in bytes) (most_of most (size_in bytes)) (length bytes) n few long;
    })

-- what refuses to cut the bytes after the header
pub early-refused : (key : List ℕ) (most : ℕ) (bytes : List ℕ) (body : ℕ) (fault : OpenFault)
    → length bytes ≡ header_length bytes + body
    → length bytes ≤ container_limit (header_length bytes) (size_in bytes) most → header_fault key bytes ≡ None
    → RefusesCut (size_in bytes) body fault → early_fault key most bytes ≡ Some fault
early-refused key most bytes body TooLong long within good refused =
    let more = container_length-more (header_length bytes) (size_in bytes) (most_of most (size_in bytes)) (4294967295 * size_in bytes) (some_size bytes)
    (most_of-chunks most (size_in bytes)) in
    absurd (omega (arith, more, long, within, refused))
early-refused key most bytes body ShortHeader long within good refused = absurd refused
early-refused key most bytes body BadMagic long within good refused = absurd refused
early-refused key most bytes body BadVersion long within good refused = absurd refused
early-refused key most bytes body BadExponent long within good refused = absurd refused
early-refused key most bytes body KeyMismatch long within good refused = absurd refused
early-refused key most bytes body BadLength long within good refused =
    early-bad_length key most bytes within good (λ n small e. refused.1 n (omega (arith, long, e)))
early-refused key most bytes body (Forged chunk) long within good refused = absurd refused
early-refused key most bytes body OutOfMemory long within good refused = absurd refused
early-refused key most bytes body Read long within good refused = absurd refused
early-refused key most bytes body Write long within good refused = absurd refused

-- what a beginning with the whole header shows
pub two-front : (front rest : List ℕ) → header_length front ≤ length front → is_two (front ++ rest) ≡ is_two front
unfolding is_two
two-front front rest whole =
    let least = least-length front in
    ap (λ (l : List ℕ). bytes_eq l (magic ++ 2 ∷ [])) (take-append-le 9 front rest (omega (arith, least, whole)))

pub size-front : (front rest : List ℕ) → header_length front ≤ length front → size_in (front ++ rest) ≡ size_in front
unfolding size_in
size-front front rest whole =
    let least = least-length front in
    ap (λ (e : ℕ). 2 ^ e) (get_or_append_left front rest 0 9 (omega (arith, least, whole)))

pub length-front : (front rest : List ℕ) → header_length front ≤ length front → header_length (front ++ rest) ≡ header_length front
length-front front rest whole =
    elim (cases_Bool (is_two front)) [
      | inl begins ↦
          let long = length-two front begins in
          length-two (front ++ rest) (two-front front rest whole ∙ begins)
          ∙ ap (λ (b : ℕ). 25 + b) (get_or_append_left front rest 0 24 (omega (arith, long, whole))) ∙ sym long
      | inr other ↦ length-one (front ++ rest) (two-front front rest whole ∙ other) ∙ sym (length-one front other)
    ]

longer_too : (front rest : List ℕ) → header_length front ≤ length front → nat_lt (length (front ++ rest)) (header_length front) ≡ nat_lt (length front) (header_length front)
longer_too front rest whole =
    let both = length-append front rest in
    not_below (length (front ++ rest)) (header_length front) (omega (arith, both, whole))
    ∙ sym (not_below (length front) (header_length front) whole)

pub fault-front : (key front rest : List ℕ) → header_length front ≤ length front → header_fault key (front ++ rest) ≡ header_fault key front
unfolding header_fault_one header_fault_two
fault-front key front rest whole =
    let least = least-length front in
    let both = length-append front rest in
    let long : 24 ≤ length front = omega (arith, least, whole) in
    let short : nat_lt (length (front ++ rest)) 24 ≡ nat_lt (length front) 24 =
    not_below (length (front ++ rest)) 24 (omega (arith, both, long)) ∙ sym (not_below (length front) 24 long) in
    let begins = take-append-le 8 front rest (omega (arith, long)) in
    let version = get_or_append_left front rest 0 8 (omega (arith, long)) in
    let exponent = get_or_append_left front rest 0 9 (omega (arith, long)) in
    let left = length-drop 17 front in
    let hint : take 7 (drop 17 (front ++ rest)) ≡ take 7 (drop 17 front) =
    ap (λ (l : List ℕ). take 7 l) (drop-append-le 17 front rest (omega (arith, long)))
    ∙ take-append-le 7 (drop 17 front) rest (omega (arith, long, left)) in
    elim (cases_Bool (is_two front)) [
      | inl is ↦
          let ends : nat_lt (length (front ++ rest)) (header_length (front ++ rest)) ≡ nat_lt (length front) (header_length front) =
          ap (λ (n : ℕ). nat_lt (length (front ++ rest)) n) (length-front front rest whole) ∙ longer_too front rest whole in
          let same : header_fault_two key (front ++ rest) ≡ header_fault_two key front = cc in
          fault-two key (front ++ rest) (two-front front rest whole ∙ is) ∙ same ∙ sym (fault-two key front is)
      | inr other ↦
          let same : header_fault_one key (front ++ rest) ≡ header_fault_one key front = cc in
          fault-one key (front ++ rest) (two-front front rest whole ∙ other) ∙ same ∙ sym (fault-one key front other)
    ]

-- and all that shows early, for containers of the same length
pub early-front : (key front rest other : List ℕ) (most : ℕ) → header_length front ≤ length front → length rest ≡ length other
    → early_fault key most (front ++ rest) ≡ early_fault key most (front ++ other)
early-front key front rest other most whole long =
    let one = length-append front rest in
    let two = length-append front other in
    let same : length (front ++ rest) ≡ length (front ++ other) = omega (arith, one, two, long) in
    let fault = fault-front key front rest whole ∙ sym (fault-front key front other whole) in
    let header = length-front front rest whole ∙ sym (length-front front other whole) in
    let size = size-front front rest whole ∙ sym (size-front front other whole) in
    elim (cases_Bool (is_two front)) [
      | inl is ↦
          early-by_two key most (front ++ rest) _ _ _ (two-front front rest whole ∙ is) fault
          (ap (λ (n : ℕ). nat_lt (container_limit (header_length (front ++ rest)) (size_in (front ++ rest)) most) n) same
          ∙ ap (λ (h : ℕ). nat_lt (container_limit h (size_in (front ++ rest)) most) (length (front ++ other))) header
          ∙ ap (λ (s : ℕ). nat_lt (container_limit (header_length (front ++ other)) s most) (length (front ++ other))) size)
          (ap (λ (n : ℕ). has_plaintext (header_length (front ++ rest)) (size_in (front ++ rest)) (most_of most (size_in (front ++ rest))) n) same
          ∙ ap (λ (h : ℕ). has_plaintext h (size_in (front ++ rest)) (most_of most (size_in (front ++ rest))) (length (front ++ other))) header
          ∙ ap (λ (s : ℕ). has_plaintext (header_length (front ++ other)) s (most_of most s) (length (front ++ other))) size)
          ∙ sym (early-by_two key most (front ++ other) _ _ _ (two-front front other whole ∙ is) refl refl refl)
      | inr no_two ↦
          early-by_one key most (front ++ rest) _ _ _ (two-front front rest whole ∙ no_two) fault
          (ap (λ (n : ℕ). nat_lt (container_limit 24 65536 most) n) same) (ap (λ (n : ℕ). has_plaintext 24 65536 (most_of most 65536) n) same)
          ∙ sym (early-by_one key most (front ++ other) _ _ _ (two-front front other whole ∙ no_two) refl refl refl)
    ]

-- a beginning that has the whole header, or is the whole container
pub record Shows (key front whole : List ℕ) : Type 0 where
  pub two : is_two whole ≡ is_two front
  pub header : header_length whole ≡ header_length front
  pub size : size_in whole ≡ size_in front
  pub fault : header_fault key whole ≡ header_fault key front

pub shows : (key front whole : List ℕ) → length front ≤ length whole
    → (length front < length whole → header_length front ≤ length front) → take (length front) whole ≡ front
    → Shows key front whole
shows key front whole fits enough same =
    elim (cases_lt (length front) (length whole)) [
      | inl shorter ↦
          let has = enough shorter in
          let rest = drop (length front) whole in
          let parted : whole ≡ front ++ rest =
          sym (take-append-drop (length front) whole) ∙ ap (λ (l : List ℕ). l ++ rest) same in
          record {
            two = ap (λ (l : List ℕ). is_two l) parted ∙ two-front front rest has;
            header = ap (λ (l : List ℕ). header_length l) parted ∙ length-front front rest has;
            size = ap (λ (l : List ℕ). size_in l) parted ∙ size-front front rest has;
            fault = ap (λ (l : List ℕ). header_fault key l) parted ∙ fault-front key front rest has;
          }
      | inr all ↦
          let is : whole ≡ front = sym (take_all (length front) whole all) ∙ same in
          record {
            two = ap (λ (l : List ℕ). is_two l) is;
            header = ap (λ (l : List ℕ). header_length l) is;
            size = ap (λ (l : List ℕ). size_in l) is;
            fault = ap (λ (l : List ℕ). header_fault key l) is;
          }
    ]

-- opening returns a fault that shows early
pub opening-early : (key : List ℕ) (most : ℕ) (bytes : List ℕ) (fault : OpenFault) → early_fault key most bytes ≡ Some fault
    → opening key most bytes ≡ Err fault
unfolding opening
opening-early key most bytes fault e =
    ap (λ (f : Option OpenFault). unless f (unsealed key (take (header_length bytes) bytes) 0 (sealed_chunks (size_in bytes) (drop (header_length bytes) bytes)))) e

-- else it returns what the chunks give
pub opening-unsealed : (key : List ℕ) (most : ℕ) (bytes header body : List ℕ) (size : ℕ) → early_fault key most bytes ≡ None
    → header ≡ take (header_length bytes) bytes → size ≡ size_in bytes → body ≡ drop (header_length bytes) bytes
    → opening key most bytes ≡ unsealed key header 0 (sealed_chunks size body)
unfolding opening
opening-unsealed key most bytes header body size e front sized back =
    let end = header_length bytes in
    ap (λ (f : Option OpenFault). unless f (unsealed key (take end bytes) 0 (sealed_chunks (size_in bytes) (drop end bytes)))) e
    ∙ ap (λ (h : List ℕ). unsealed key h 0 (sealed_chunks (size_in bytes) (drop end bytes))) (sym front)
    ∙ ap (λ (s : ℕ). unsealed key header 0 (sealed_chunks s (drop end bytes))) (sym sized)
    ∙ ap (λ (b : List ℕ). unsealed key header 0 (sealed_chunks size b)) (sym back)
