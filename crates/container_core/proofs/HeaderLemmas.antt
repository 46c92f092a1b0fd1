-- What a header holds.
use Rattle.std.proofs.Common.{◌≡◌, ℕ, suc, ◌+◌, ◌<◌, ◌≤◌, ◌^◌, Bool, true, false, eqb, not, List, [], ◌∷◌, ◌++◌, length, get_or, take}
use Rattle.std.proofs.Common.{drop, Option, Some, None, if◌then◌else◌, inl, inr, refl, ap, sym, ◌∙◌, arith, append_assoc}
use Rattle.std.proofs.Common.{take-append-drop, length-append, length-take-le, take-take, get_or-take, subst}
use Rattle.std.proofs.Math.Nat.{pow-le-pow_right}
use Rattle.std.proofs.lemmas.List.{append-nil, length-drop, take_at, drop_at, drop_more, drop-drop}
use Rattle.std.proofs.lemmas.Bool.{cases_Bool}
use Rattle.std.proofs.lemmas.Bool.Decides.{nat_tests, Decides-eqb}
use Rattle.std.proofs.lemmas.Slice.Eq.{bytes_eq-Decides}
use Rattle.std.specs.Prelude.{codes, nat_lt}
use Rattle.std.specs.Str.{bytes_eq}
use Rattle.sha2.proofs.Facts256.{length-sha256}
use Rattle.sha2.specs.Sha256.{sha256}
use Rattle.container_core.specs.declared.fault.OpenFault.TheVariants.{ShortHeader, BadMagic, BadVersion, BadExponent}
use Rattle.container_core.specs.declared.fault.OpenFault.TheVariants.{KeyMismatch}
use Rattle.container_core.specs.Container.{hint_of, header_of, front_of, label_bytes, version_of, is_two, header_length, size_in, label_in, shape_in}
use Rattle.container_core.specs.Opening.{header_fault, header_fault_one, header_fault_two}
use Rattle.container_core.specs.Shape.{ShapeView, two, IsShape, IsShapeOf, IsExponent, size_of}
use Rattle.container_core.specs.Stream.{prefix_in}

pub length-hint_of : (key : List ℕ) → length (hint_of key) ≡ 7
unfolding hint_of
length-hint_of key = let l = length-sha256 key in length-take-le 7 (sha256 key) (omega arith)

abbrev pub seven_of : List ℕ → List ℕ
seven_of xs = get_or xs 0 0 ∷ get_or xs 1 0 ∷ get_or xs 2 0 ∷ get_or xs 3 0 ∷ get_or xs 4 0 ∷ get_or xs 5 0 ∷ get_or xs 6 0 ∷ []

pub seven : (xs : List ℕ) → length xs ≡ 7 → seven_of xs ≡ xs
seven (a ∷ b ∷ c ∷ d ∷ e ∷ f ∷ g ∷ []) long = refl
seven _ long = absurd (omega arith)

pub length-front_of : (key : List ℕ) (version exponent : ℕ) (prefix : List ℕ) → length prefix ≡ 7
    → length (front_of key version exponent prefix) ≡ 24
length-front_of key version exponent prefix long =
    let hint = length-hint_of key in
    let both = length-append prefix (hint_of key) in
    omega arith

pub length-header_of : (key prefix : List ℕ) (shape : ShapeView) → length prefix ≡ 7
    → length (header_of key shape prefix) ≡ 24 + length (label_bytes shape.label)
unfolding header_of
length-header_of key prefix shape long =
    let front = front_of key (version_of shape.label) shape.exponent prefix in
    length-append front (label_bytes shape.label)
    ∙ ap (λ n. n + length (label_bytes shape.label)) (length-front_of key (version_of shape.label) shape.exponent prefix long)

pub length-prefix_in : (bytes : List ℕ) → 17 ≤ length bytes → length (prefix_in bytes) ≡ 7
unfolding prefix_in
length-prefix_in bytes long = let left = length-drop 10 bytes in length-take-le 7 (drop 10 bytes) (omega arith)

-- bytes that begin as version 2, and others
magic-two : (bytes : List ℕ) → is_two bytes ≡ true → take 9 bytes ≡ codes "STRMSEAL" ++ 2 ∷ []
unfolding is_two
magic-two bytes e = (bytes_eq-Decides (take 9 bytes) (codes "STRMSEAL" ++ 2 ∷ [])).0 e

pub take-two : (bytes : List ℕ) → is_two bytes ≡ true → take 8 bytes ≡ codes "STRMSEAL"
take-two bytes e =
    let nine = magic-two bytes e in
    sym (take-take 8 9 bytes (omega arith)) ∙ ap (λ (l : List ℕ). take 8 l) nine

pub version-two : (bytes : List ℕ) → is_two bytes ≡ true → get_or bytes 8 0 ≡ 2
version-two bytes e = sym (get_or-take 9 bytes 8 0 (omega arith)) ∙ ap (λ (l : List ℕ). get_or l 8 0) (magic-two bytes e)

pub not_two : (bytes : List ℕ) → (get_or bytes 8 0 ≡ 2 → ⊥) → is_two bytes ≡ false
not_two bytes other_version =
    elim (cases_Bool (is_two bytes)) [
      | inl begins ↦ absurd (other_version (version-two bytes begins))
      | inr other ↦ other
    ]

pub length-two : (bytes : List ℕ) → is_two bytes ≡ true → header_length bytes ≡ 25 + get_or bytes 24 0
unfolding header_length
length-two bytes e = ap (λ (b : Bool). if b then 25 + get_or bytes 24 0 else 24) e

pub length-one : (bytes : List ℕ) → is_two bytes ≡ false → header_length bytes ≡ 24
unfolding header_length
length-one bytes e = ap (λ (b : Bool). if b then 25 + get_or bytes 24 0 else 24) e

pub label-two : (bytes : List ℕ) → is_two bytes ≡ true → label_in bytes ≡ Some (take (get_or bytes 24 0) (drop 25 bytes))
unfolding label_in
label-two bytes e = ap (λ (b : Bool). if b then Some (take (get_or bytes 24 0) (drop 25 bytes)) else None) e

pub label-one : (bytes : List ℕ) → is_two bytes ≡ false → label_in bytes ≡ None
unfolding label_in
label-one bytes e = ap (λ (b : Bool). if b then Some (take (get_or bytes 24 0) (drop 25 bytes)) else None) e

pub fault-two : (key bytes : List ℕ) → is_two bytes ≡ true → header_fault key bytes ≡ header_fault_two key bytes
unfolding header_fault
fault-two key bytes e = ap (λ (b : Bool). if b then header_fault_two key bytes else header_fault_one key bytes) e

pub fault-one : (key bytes : List ℕ) → is_two bytes ≡ false → header_fault key bytes ≡ header_fault_one key bytes
unfolding header_fault
fault-one key bytes e = ap (λ (b : Bool). if b then header_fault_two key bytes else header_fault_one key bytes) e

pub least-length : (bytes : List ℕ) → 24 ≤ header_length bytes
least-length bytes =
    elim (cases_Bool (is_two bytes)) [
      | inl begins ↦ let long = length-two bytes begins in omega (arith, long)
      | inr one ↦ let long = length-one bytes one in omega (arith, long)
    ]

-- the bytes begin with a header of this key
pub record GoodHeader (key bytes : List ℕ) : Type 0 where
  pub long : 24 ≤ length bytes
  pub whole : header_length bytes ≤ length bytes
  pub magic : take 8 bytes ≡ codes "STRMSEAL"
  pub version : get_or bytes 8 0 ≡ version_of (label_in bytes)
  pub shape : IsShapeOf (get_or bytes 9 0) (label_in bytes)
  pub hint : take 7 (drop 17 bytes) ≡ hint_of key
  pub end : header_length bytes ≡ 24 + length (label_bytes (label_in bytes))

all_pass : (a b c d e : Bool)
    → (if a then Some ShortHeader else (if not b then Some BadMagic else (if not c then Some BadVersion else (if not d then Some BadExponent else (if not e then Some KeyMismatch else None))))) ≡ None
    → (a ≡ false) × (b ≡ true) × (c ≡ true) × (d ≡ true) × (e ≡ true)
all_pass true b c d e h = cc
all_pass false false c d e h = cc
all_pass false true false d e h = cc
all_pass false true true false e h = cc
all_pass false true true true false h = cc
all_pass false true true true true h = (refl, refl, refl, refl, refl)

none_fails : (a b c d e : Bool) → a ≡ false → b ≡ true → c ≡ true → d ≡ true → e ≡ true
    → (if a then Some ShortHeader else (if not b then Some BadMagic else (if not c then Some BadVersion else (if not d then Some BadExponent else (if not e then Some KeyMismatch else None))))) ≡ None
none_fails true b c d e p q r s t = cc
none_fails false false c d e p q r s t = cc
none_fails false true false d e p q r s t = cc
none_fails false true true false e p q r s t = cc
none_fails false true true true false p q r s t = cc
none_fails false true true true true p q r s t = refl

pub not_below : (m n : ℕ) → n ≤ m → nat_lt m n ≡ false
not_below m n e = grind (arith, nat_tests)

pub at_most : (m n : ℕ) → nat_lt m n ≡ false → n ≤ m
at_most m n e = grind (arith, nat_tests)

two_pass : (a b c d e : Bool)
    → (if a then Some ShortHeader else (if b then Some BadExponent else (if c then Some BadExponent else (if not d then Some KeyMismatch else (if e then Some ShortHeader else None))))) ≡ None
    → (a ≡ false) × (b ≡ false) × (c ≡ false) × (d ≡ true) × (e ≡ false)
two_pass true b c d e h = cc
two_pass false true c d e h = cc
two_pass false false true d e h = cc
two_pass false false false false e h = cc
two_pass false false false true true h = cc
two_pass false false false true false h = (refl, refl, refl, refl, refl)

two_none : (a b c d e : Bool) → a ≡ false → b ≡ false → c ≡ false → d ≡ true → e ≡ false
    → (if a then Some ShortHeader else (if b then Some BadExponent else (if c then Some BadExponent else (if not d then Some KeyMismatch else (if e then Some ShortHeader else None))))) ≡ None
two_none true b c d e p q r s t = cc
two_none false true c d e p q r s t = cc
two_none false false true d e p q r s t = cc
two_none false false false false e p q r s t = cc
two_none false false false true true p q r s t = cc
two_none false false false true false p q r s t = refl

good_one : (key bytes : List ℕ) → is_two bytes ≡ false → header_fault_one key bytes ≡ None → GoodHeader key bytes
unfolding header_fault_one
good_one key bytes one e =
    let (a, b, c, d, f) = all_pass (nat_lt (length bytes) 24) (bytes_eq (take 8 bytes) (codes "STRMSEAL")) (eqb (get_or bytes 8 0) 1)
    (eqb (get_or bytes 9 0) 16) (bytes_eq (take 7 (drop 17 bytes)) (hint_of key)) e in
    let long = at_most (length bytes) 24 a in
    let none = label-one bytes one in
    let exponent : get_or bytes 9 0 ≡ 16 = (Decides-eqb (get_or bytes 9 0) 16).0 d in
    record {
      long = long;
      whole = let l = length-one bytes one in omega (arith, l, long);
      magic = (bytes_eq-Decides (take 8 bytes) (codes "STRMSEAL")).0 b;
      version = (Decides-eqb (get_or bytes 8 0) 1).0 c ∙ sym (ap (λ (l : Option (List ℕ)). version_of l) none);
      shape = subst (λ (l : Option (List ℕ)). IsShapeOf (get_or bytes 9 0) l) (sym none) exponent;
      hint = (bytes_eq-Decides (take 7 (drop 17 bytes)) (hint_of key)).0 f;
      end = length-one bytes one ∙ sym (ap (λ (l : Option (List ℕ)). 24 + length (label_bytes l)) none);
    }

good_two : (key bytes : List ℕ) → is_two bytes ≡ true → header_fault_two key bytes ≡ None → GoodHeader key bytes
unfolding header_fault_two
good_two key bytes begins e =
    let (a, b, c, d, f) = two_pass (nat_lt (length bytes) 24) (nat_lt (get_or bytes 9 0) 12) (nat_lt 20 (get_or bytes 9 0))
    (bytes_eq (take 7 (drop 17 bytes)) (hint_of key)) (nat_lt (length bytes) (header_length bytes)) e in
    let some = label-two bytes begins in
    let whole = at_most (length bytes) (header_length bytes) f in
    let l = length-two bytes begins in
    let left = length-drop 25 bytes in
    let label = take (get_or bytes 24 0) (drop 25 bytes) in
    let size : length label ≡ get_or bytes 24 0 = length-take-le (get_or bytes 24 0) (drop 25 bytes) (omega (arith, l, whole, left)) in
    let lawful : IsExponent (get_or bytes 9 0) =
    record { least = at_most (get_or bytes 9 0) 12 b; most = at_most 20 (get_or bytes 9 0) c } in
    record {
      long = at_most (length bytes) 24 a;
      whole = whole;
      magic = take-two bytes begins;
      version = version-two bytes begins ∙ sym (ap (λ (o : Option (List ℕ)). version_of o) some);
      shape = subst (λ (o : Option (List ℕ)). IsShapeOf (get_or bytes 9 0) o) (sym some) lawful;
      hint = (bytes_eq-Decides (take 7 (drop 17 bytes)) (hint_of key)).0 d;
      end = let same : length (label_bytes (label_in bytes)) ≡ suc (length label) = ap (λ (o : Option (List ℕ)). length (label_bytes o)) some in
          omega (arith, l, same, size);
    }

pub good_header : (key bytes : List ℕ) → header_fault key bytes ≡ None → GoodHeader key bytes
good_header key bytes e =
    elim (cases_Bool (is_two bytes)) [
      | inl begins ↦ good_two key bytes begins (sym (fault-two key bytes begins) ∙ e)
      | inr one ↦ good_one key bytes one (sym (fault-one key bytes one) ∙ e)
    ]

abbrev is_some : Option (List ℕ) → Bool
is_some None = false
is_some (Some label) = true

fault-good-two : (key bytes : List ℕ) → GoodHeader key bytes → IsExponent (get_or bytes 9 0)
    → header_fault_two key bytes ≡ None
unfolding header_fault_two
fault-good-two key bytes good lawful =
    two_none (nat_lt (length bytes) 24) (nat_lt (get_or bytes 9 0) 12) (nat_lt 20 (get_or bytes 9 0))
    (bytes_eq (take 7 (drop 17 bytes)) (hint_of key)) (nat_lt (length bytes) (header_length bytes))
    (not_below (length bytes) 24 good.long) (not_below (get_or bytes 9 0) 12 lawful.least)
    (not_below 20 (get_or bytes 9 0) lawful.most)
    ((bytes_eq-Decides (take 7 (drop 17 bytes)) (hint_of key)).1 good.hint)
    (not_below (length bytes) (header_length bytes) good.whole)

fault-good-one : (key bytes : List ℕ) → GoodHeader key bytes → get_or bytes 8 0 ≡ 1 → get_or bytes 9 0 ≡ 16
    → header_fault_one key bytes ≡ None
unfolding header_fault_one
fault-good-one key bytes good version exponent =
    none_fails (nat_lt (length bytes) 24) (bytes_eq (take 8 bytes) (codes "STRMSEAL")) (eqb (get_or bytes 8 0) 1)
    (eqb (get_or bytes 9 0) 16) (bytes_eq (take 7 (drop 17 bytes)) (hint_of key))
    (not_below (length bytes) 24 good.long)
    ((bytes_eq-Decides (take 8 bytes) (codes "STRMSEAL")).1 good.magic)
    ((Decides-eqb (get_or bytes 8 0) 1).1 version)
    ((Decides-eqb (get_or bytes 9 0) 16).1 exponent)
    ((bytes_eq-Decides (take 7 (drop 17 bytes)) (hint_of key)).1 good.hint)

pub header_fault-good : (key bytes : List ℕ) → GoodHeader key bytes → header_fault key bytes ≡ None
header_fault-good key bytes good =
    elim (cases_Bool (is_two bytes)) [
      | inl begins ↦
          let lawful : IsExponent (get_or bytes 9 0) =
          subst (λ (o : Option (List ℕ)). IsShapeOf (get_or bytes 9 0) o) (label-two bytes begins) good.shape in
          fault-two key bytes begins ∙ fault-good-two key bytes good lawful
      | inr one ↦
          let exponent : get_or bytes 9 0 ≡ 16 =
          subst (λ (o : Option (List ℕ)). IsShapeOf (get_or bytes 9 0) o) (label-one bytes one) good.shape in
          let version : get_or bytes 8 0 ≡ 1 = good.version ∙ ap (λ (o : Option (List ℕ)). version_of o) (label-one bytes one) in
          fault-one key bytes one ∙ fault-good-one key bytes good version exponent
    ]

-- the first 24 bytes of such bytes
front-drop : (key bytes : List ℕ) (version : ℕ) → 24 ≤ length bytes → take 8 bytes ≡ codes "STRMSEAL"
    → get_or bytes 8 0 ≡ version → take 7 (drop 17 bytes) ≡ hint_of key
    → front_of key version (get_or bytes 9 0) (prefix_in bytes) ++ drop 24 bytes ≡ bytes
unfolding prefix_in
front-drop key bytes version long begins is hinted =
    let prefix = take 7 (drop 10 bytes) in
    let ten : 8 < length bytes = omega arith in
    let nine : 9 < length bytes = omega arith in
    let names : prefix ++ (hint_of key ++ drop 24 bytes) ≡ drop 10 bytes =
    ap (λ (h : List ℕ). prefix ++ (h ++ drop 24 bytes)) (sym hinted)
    ∙ ap (λ (d : List ℕ). prefix ++ (take 7 (drop 17 bytes) ++ d)) (sym (drop-drop 7 17 bytes))
    ∙ ap (λ (d : List ℕ). prefix ++ d) (take-append-drop 7 (drop 17 bytes))
    ∙ ap (λ (d : List ℕ). prefix ++ d) (sym (drop-drop 7 10 bytes))
    ∙ take-append-drop 7 (drop 10 bytes) in
    let rest : List ℕ = drop 10 bytes in
    ap (λ (d : List ℕ). codes "STRMSEAL" ++ (version ∷ get_or bytes 9 0 ∷ d)) (append_assoc prefix (hint_of key) (drop 24 bytes) ∙ names)
    ∙ ap (λ (m : List ℕ). m ++ (version ∷ get_or bytes 9 0 ∷ rest)) (sym begins)
    ∙ ap (λ (v : ℕ). take 8 bytes ++ (v ∷ get_or bytes 9 0 ∷ rest)) (sym is)
    ∙ ap (λ (d : List ℕ). take 8 bytes ++ (get_or bytes 8 0 ∷ d)) (sym (drop_more bytes 9 0 nine))
    ∙ ap (λ (d : List ℕ). take 8 bytes ++ d) (sym (drop_more bytes 8 0 ten))
    ∙ take-append-drop 8 bytes

-- and the label after them
label-drop : (bytes : List ℕ) → 24 ≤ length bytes → header_length bytes ≤ length bytes
    → label_bytes (label_in bytes) ++ drop (header_length bytes) bytes ≡ drop 24 bytes
label-drop bytes long whole =
    elim (cases_Bool (is_two bytes)) [
      | inl begins ↦
          let b = get_or bytes 24 0 in
          let l = length-two bytes begins in
          let left = length-drop 25 bytes in
          let behind = drop 25 bytes in
          let label = take b behind in
          let size : length label ≡ b = length-take-le b behind (omega (arith, l, whole, left)) in
          let some : 24 < length bytes = omega (arith, l, whole) in
          let end : drop (header_length bytes) bytes ≡ drop b behind =
          ap (λ (n : ℕ). drop n bytes) l ∙ sym (drop-drop b 25 bytes) in
          ap (λ (o : Option (List ℕ)). label_bytes o ++ drop (header_length bytes) bytes) (label-two bytes begins)
          ∙ ap (λ (d : List ℕ). length label ∷ (label ++ d)) end
          ∙ ap (λ (n : ℕ). n ∷ (label ++ drop b behind)) size
          ∙ ap (λ (d : List ℕ). b ∷ d) (take-append-drop b behind)
          ∙ sym (drop_more bytes 24 0 some)
      | inr one ↦
          ap (λ (o : Option (List ℕ)). label_bytes o ++ drop (header_length bytes) bytes) (label-one bytes one)
          ∙ ap (λ (n : ℕ). drop n bytes) (length-one bytes one)
    ]

-- such bytes are the header of their shape and what follows it
pub header-drop : (key bytes : List ℕ) → GoodHeader key bytes
    → header_of key (shape_in bytes) (prefix_in bytes) ++ drop (header_length bytes) bytes ≡ bytes
unfolding header_of
header-drop key bytes good =
    let front = front_of key (version_of (label_in bytes)) (get_or bytes 9 0) (prefix_in bytes) in
    append_assoc front (label_bytes (label_in bytes)) (drop (header_length bytes) bytes)
    ∙ ap (λ (d : List ℕ). front ++ d) (label-drop bytes good.long good.whole)
    ∙ front-drop key bytes (version_of (label_in bytes)) good.long good.magic good.version good.hint

-- bytes without a fault in their header begin with the key's header
pub header-faultless : (key bytes : List ℕ) → header_fault key bytes ≡ None
    → take (header_length bytes) bytes ≡ header_of key (shape_in bytes) (prefix_in bytes)
header-faultless key bytes none =
    let good = good_header key bytes none in
    let header = header_of key (shape_in bytes) (prefix_in bytes) in
    let long : length header ≡ header_length bytes =
    length-header_of key (prefix_in bytes) (shape_in bytes) (length-prefix_in bytes (omega (arith, good.long))) ∙ sym good.end in
    ap (λ (l : List ℕ). take (header_length bytes) l) (sym (header-drop key bytes good))
    ∙ take_at header (drop (header_length bytes) bytes) (header_length bytes) long

-- a header and anything after it: what follows the first 24 bytes
behind-front : (key prefix rest : List ℕ) (shape : ShapeView) → length prefix ≡ 7
    → drop 24 (header_of key shape prefix ++ rest) ≡ label_bytes shape.label ++ rest
unfolding header_of
behind-front key prefix rest shape seven_bytes =
    let front = front_of key (version_of shape.label) shape.exponent prefix in
    ap (λ (l : List ℕ). drop 24 l) (append_assoc front (label_bytes shape.label) rest)
    ∙ drop_at front (label_bytes shape.label ++ rest) 24 (length-front_of key (version_of shape.label) shape.exponent prefix seven_bytes)

two-of : (key prefix rest : List ℕ) (exponent : ℕ) (label : Option (List ℕ))
    → is_two (header_of key (record { exponent = exponent; label = label }) prefix ++ rest) ≡ is_some label
unfolding header_of is_two
two-of key prefix rest exponent None = refl
two-of key prefix rest exponent (Some label) = refl

prefix_bytes : (key prefix rest : List ℕ) (shape : ShapeView) → length prefix ≡ 7
    → prefix_in (header_of key shape prefix ++ rest) ≡ prefix
unfolding header_of prefix_in
prefix_bytes key prefix rest shape seven_bytes =
    let more = label_bytes shape.label ++ rest in
    ap (λ (l : List ℕ). prefix_in l) (append_assoc (front_of key (version_of shape.label) shape.exponent prefix) (label_bytes shape.label) rest)
    ∙ ap (λ (l : List ℕ). take 7 l) (append_assoc prefix (hint_of key) more) ∙ take_at prefix (hint_of key ++ more) 7 seven_bytes

pub prefix_in-header_of : (key prefix rest : List ℕ) (shape : ShapeView) → length prefix ≡ 7
    → prefix_in (header_of key shape prefix ++ rest) ≡ prefix
prefix_in-header_of key prefix rest shape seven_bytes = prefix_bytes key prefix rest shape seven_bytes

hint_bytes : (key prefix rest : List ℕ) (shape : ShapeView) → length prefix ≡ 7
    → take 7 (drop 17 (header_of key shape prefix ++ rest)) ≡ hint_of key
unfolding header_of
hint_bytes key prefix rest shape seven_bytes =
    let more = label_bytes shape.label ++ rest in
    ap (λ (l : List ℕ). take 7 (drop 17 l)) (append_assoc (front_of key (version_of shape.label) shape.exponent prefix) (label_bytes shape.label) rest)
    ∙ ap (λ (l : List ℕ). take 7 (drop 7 l)) (append_assoc prefix (hint_of key) more)
    ∙ ap (λ (l : List ℕ). take 7 l) (drop_at prefix (hint_of key ++ more) 7 seven_bytes)
    ∙ take_at (hint_of key) more 7 (length-hint_of key)

magic_bytes : (key prefix rest : List ℕ) (shape : ShapeView) → take 8 (header_of key shape prefix ++ rest) ≡ codes "STRMSEAL"
unfolding header_of
magic_bytes key prefix rest shape = refl

version_byte : (key prefix rest : List ℕ) (shape : ShapeView) → get_or (header_of key shape prefix ++ rest) 8 0 ≡ version_of shape.label
unfolding header_of
version_byte key prefix rest shape = refl

exponent_byte : (key prefix rest : List ℕ) (shape : ShapeView) → get_or (header_of key shape prefix ++ rest) 9 0 ≡ shape.exponent
unfolding header_of
exponent_byte key prefix rest shape = refl

-- the label, by its length
labelled : (key prefix rest label : List ℕ) (exponent : ℕ) → length prefix ≡ 7
    → (get_or (header_of key (two exponent label) prefix ++ rest) 24 0 ≡ length label)
    × (drop 25 (header_of key (two exponent label) prefix ++ rest) ≡ label ++ rest)
labelled key prefix rest label exponent seven_bytes =
    let shape : ShapeView = two exponent label in
    let bytes = header_of key shape prefix ++ rest in
    let behind = behind-front key prefix rest shape seven_bytes in
    let front = length-header_of key prefix shape seven_bytes in
    let all = length-append (header_of key shape prefix) rest in
    let more = drop_more bytes 24 0 (omega (arith, front, all)) in
    let same : get_or bytes 24 0 ∷ drop 25 bytes ≡ length label ∷ (label ++ rest) = sym more ∙ behind in
    (ap (λ (l : List ℕ). get_or l 0 0) same, ap (λ (l : List ℕ). drop 1 l) same)

-- what follows the length of a label is the label
pub label-of : (key prefix label : List ℕ) (exponent : ℕ) → length prefix ≡ 7
    → drop 25 (header_of key (two exponent label) prefix) ≡ label
label-of key prefix label exponent seven_bytes =
    let bytes = labelled key prefix [] label exponent seven_bytes in
    ap (λ (l : List ℕ). drop 25 l) (sym (append-nil (header_of key (two exponent label) prefix)))
    ∙ bytes.1 ∙ append-nil label

pub header_length-of : (key prefix rest : List ℕ) (exponent : ℕ) (label : Option (List ℕ)) → length prefix ≡ 7
    → header_length (header_of key (record { exponent = exponent; label = label }) prefix ++ rest) ≡ 24 + length (label_bytes label)
header_length-of key prefix rest exponent None seven_bytes = length-one _ (two-of key prefix rest exponent None)
header_length-of key prefix rest exponent (Some label) seven_bytes =
    let bytes = labelled key prefix rest label exponent seven_bytes in
    length-two _ (two-of key prefix rest exponent (Some label)) ∙ ap (λ (n : ℕ). 25 + n) bytes.0 ∙ omega arith

pub label_in-of : (key prefix rest : List ℕ) (exponent : ℕ) (label : Option (List ℕ)) → length prefix ≡ 7
    → label_in (header_of key (record { exponent = exponent; label = label }) prefix ++ rest) ≡ label
label_in-of key prefix rest exponent None seven_bytes = label-one _ (two-of key prefix rest exponent None)
label_in-of key prefix rest exponent (Some label) seven_bytes =
    let bytes = labelled key prefix rest label exponent seven_bytes in
    let whole = header_of key (two exponent label) prefix ++ rest in
    label-two whole (two-of key prefix rest exponent (Some label))
    ∙ ap (λ (n : ℕ). Some (take n (drop 25 whole))) bytes.0
    ∙ ap (λ (d : List ℕ). Some (take (length label) d)) bytes.1
    ∙ ap (λ (l : List ℕ). Some l) (take_at label rest (length label) refl)

pub shape_in-of : (key prefix rest : List ℕ) (shape : ShapeView) → length prefix ≡ 7
    → shape_in (header_of key shape prefix ++ rest) ≡ shape
shape_in-of key prefix rest shape seven_bytes =
    ap (λ (e : ℕ). record { exponent = e; label = label_in (header_of key shape prefix ++ rest) }) (exponent_byte key prefix rest shape)
    ∙ ap (λ (l : Option (List ℕ)). record { exponent = shape.exponent; label = l }) (label_in-of key prefix rest shape.exponent shape.label seven_bytes)

pub size_in-of : (key prefix rest : List ℕ) (shape : ShapeView) → size_in (header_of key shape prefix ++ rest) ≡ size_of shape
unfolding size_in
size_in-of key prefix rest shape = ap (λ (e : ℕ). 2 ^ e) (exponent_byte key prefix rest shape)

pub size-header_of : (key prefix : List ℕ) (shape : ShapeView) → size_in (header_of key shape prefix) ≡ size_of shape
size-header_of key prefix shape =
    ap (λ (l : List ℕ). size_in l) (sym (append-nil (header_of key shape prefix))) ∙ size_in-of key prefix [] shape

pub good_header-of : (key prefix rest : List ℕ) (shape : ShapeView) → IsShape shape → length prefix ≡ 7
    → GoodHeader key (header_of key shape prefix ++ rest)
good_header-of key prefix rest shape lawful seven_bytes =
    let bytes = header_of key shape prefix ++ rest in
    let header = length-header_of key prefix shape seven_bytes in
    let all = length-append (header_of key shape prefix) rest in
    let named = label_in-of key prefix rest shape.exponent shape.label seven_bytes in
    let long = header_length-of key prefix rest shape.exponent shape.label seven_bytes in
    record {
      long = omega (arith, header, all);
      whole = omega (arith, header, all, long);
      magic = magic_bytes key prefix rest shape;
      version = version_byte key prefix rest shape ∙ sym (ap (λ (l : Option (List ℕ)). version_of l) named);
      shape = subst (λ (l : Option (List ℕ)). IsShapeOf (get_or bytes 9 0) l) (sym named)
          (subst (λ (e : ℕ). IsShapeOf e shape.label) (sym (exponent_byte key prefix rest shape)) lawful);
      hint = hint_bytes key prefix rest shape seven_bytes;
      end = long ∙ sym (ap (λ (l : Option (List ℕ)). 24 + length (label_bytes l)) named);
    }

-- the exponents that there are
pub size_in-bounds : (bytes : List ℕ) → 12 ≤ get_or bytes 9 0 → get_or bytes 9 0 ≤ 20 → (4096 ≤ size_in bytes) × (size_in bytes ≤ 1048576)
unfolding size_in
size_in-bounds bytes least most = (
  pow-le-pow_right {n = 2} (omega arith) least,
  pow-le-pow_right {n = 2} (omega arith) most,
)

pub shape-bounds : (exponent : ℕ) (label : Option (List ℕ)) → IsShapeOf exponent label → (12 ≤ exponent) × (exponent ≤ 20)
shape-bounds exponent None is = (omega arith, omega arith)
shape-bounds exponent (Some label) is = (is.least, is.most)

-- the chunk size named by the header at the start of the bytes
pub named_size : (bytes header : List ℕ) → header ≡ take (header_length bytes) bytes → header_length bytes ≤ length bytes
    → size_in header ≡ size_in bytes
unfolding size_in
named_size bytes header is enough =
    let least = least-length bytes in
    ap (λ (e : ℕ). 2 ^ e) (ap (λ (l : List ℕ). get_or l 9 0) is ∙ get_or-take (header_length bytes) bytes 9 0 (omega (arith, least)))
