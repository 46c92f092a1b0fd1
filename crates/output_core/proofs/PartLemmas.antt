-- Bytes that are written buffer by buffer.
use Rattle.std.proofs.Common.{◌≡◌, ℕ, suc, ◌+◌, ◌<◌, List, [], ◌∷◌, ◌++◌, length, take, drop, get_or, flat_map, Option, None, Some, sym, ap, ◌∙◌, append_assoc, append-nil, take-append-drop, arith, length-append}
use Rattle.std.proofs.lemmas.Grind.{flat_map-append}
use Rattle.std.proofs.lemmas.List.Concat.{flat_map-cons}
use Rattle.std.proofs.Math.Seq.{drop-cons}
use Rattle.std.proofs.KnownBytes.{Appends-trans}
use lib.Seq.{take-suc}
use Rattle.io_core.specs.Streams.{Appends, AppendsFront, LacksSome}

module _ {X : Type 0} (f : X → List ℕ) (xs : List X) (n : ℕ) (d : X) where
  -- a buffer, and those after it
  pub rest_split : n < length xs → flat_map f (drop n xs) ≡ f (get_or xs n d) ++ flat_map f (drop (n + 1) xs)
  rest_split at =
      let next : suc n ≡ n + 1 = omega arith in
      ap (flat_map f) (drop-cons xs n d at) ∙ flat_map-cons f (get_or xs n d) (drop (suc n) xs)
      ∙ ap (λ (k : ℕ). f (get_or xs n d) ++ flat_map f (drop k xs)) next

  -- those before it, and it
  pub front_more : n < length xs → flat_map f (take (n + 1) xs) ≡ flat_map f (take n xs) ++ f (get_or xs n d)
  front_more at =
      let next : n + 1 ≡ suc n = omega arith in
      ap (λ (k : ℕ). flat_map f (take k xs)) next ∙ ap (flat_map f) (take-suc xs n d at)
      ∙ flat_map-append f (take n xs) (get_or xs n d ∷ [])
      ∙ ap (λ (l : List ℕ). flat_map f (take n xs) ++ l) (flat_map-cons f (get_or xs n d) [] ∙ append-nil (f (get_or xs n d)))

  -- those before it, it, and those after it
  pub all_split : n < length xs → flat_map f xs ≡ flat_map f (take n xs) ++ (f (get_or xs n d) ++ flat_map f (drop (n + 1) xs))
  all_split at =
      ap (flat_map f) (sym (take-append-drop n xs)) ∙ flat_map-append f (take n xs) (drop n xs)
      ∙ ap (λ (l : List ℕ). flat_map f (take n xs) ++ l) (rest_split at)

-- what was written, and a front of what comes next
pub begun_within : (a b c : Option (List ℕ)) (done part rest : List ℕ) → Appends a b done → AppendsFront b c part
    → AppendsFront a c (done ++ (part ++ rest))
begun_within a b c done part rest before begun = (
  done ++ begun.0,
  (begun.1.0 ++ rest, ap (λ (l : List ℕ). done ++ (l ++ rest)) begun.1.1 ∙ ap (λ (l : List ℕ). done ++ l) (append_assoc begun.0 begun.1.0 rest) ∙ sym (append_assoc done begun.0 (begun.1.0 ++ rest))),
  Appends-trans a b c done begun.0 before begun.2,
)

-- if a part wasn't written whole, not all was written
short : (xs ys zs done part rest front more : List ℕ) → ys ≡ xs ++ done → part ≡ front ++ more → zs ≡ ys ++ front
    → LacksSome (Some ys) (Some zs) part → LacksSome (Some xs) (Some zs) (done ++ (part ++ rest))
short xs ys zs done part rest front [] wrote is put lacks = λ whole. lacks (put ∙ ap (λ (l : List ℕ). ys ++ l) (sym (append-nil front) ∙ sym is))
short xs ys zs done part rest front (x ∷ more) wrote is put lacks = λ whole.
    let two : length (ys ++ front) ≡ length (xs ++ (done ++ (part ++ rest))) = ap (length {A = ℕ}) (sym put ∙ whole) in
    omega (arith, length-append ys front, ap (length {A = ℕ}) wrote, length-append xs done, length-append xs (done ++ (part ++ rest)), length-append done (part ++ rest), length-append part rest, ap (length {A = ℕ}) is, length-append front (x ∷ more), two)

pub lacks_within : (a b c : Option (List ℕ)) (done part rest : List ℕ) → Appends a b done → AppendsFront b c part
    → LacksSome b c part → LacksSome a c (done ++ (part ++ rest))
lacks_within None b c done part rest before begun lacks = tt
lacks_within (Some xs) None c done part rest before begun lacks = absurd before
lacks_within (Some xs) (Some ys) None done part rest before begun lacks = absurd begun.2
lacks_within (Some xs) (Some ys) (Some zs) done part rest before begun lacks =
    short xs ys zs done part rest begun.0 begun.1.0 before begun.1.1 begun.2 lacks
