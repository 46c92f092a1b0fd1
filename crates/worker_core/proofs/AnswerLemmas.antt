-- What the pieces of a round give together.
use Rattle.std.proofs.Common.{◌≡◌, ◌≢◌, ℕ, zero, suc, ◌+◌, ◌<◌, List, [], ◌∷◌, length, take, get_or, Option, Some}
use Rattle.std.proofs.Common.{None, option_map, refl, ap, ◌∙◌, arith}
use Rattle.std.proofs.Common.{◌≤◌, true, false, map, sym}
use Rattle.std.proofs.lemmas.List.{get_or-map, get_or-take, length-map, length-take-le, take-take}
use Rattle.worker_core.specs.declared.piece.Piece.{Piece}
use Rattle.worker_core.specs.Answer.{first_refused}
use Rattle.worker_core.specs.Rooms.{shown}

pub none_under : (o : Option ℕ) → option_map suc o ≡ None → o ≡ None
none_under None e = refl
none_under (Some n) e = cc

-- each before this one has a value, and this one has none
refused_at : (values : List (Option (List ℕ))) (n : ℕ) → first_refused (take n values) ≡ None → n < length values
    → get_or values n None ≡ None → first_refused values ≡ Some n
refused_at [] n before at none_here = absurd (omega arith)
refused_at (None ∷ values) zero before at none_here = refl
refused_at (None ∷ values) (suc n) before at none_here = cc
refused_at (Some bytes ∷ values) zero before at none_here = cc
refused_at (Some bytes ∷ values) (suc n) before at none_here =
    ap (λ o. option_map suc o) (refused_at values n (none_under (first_refused (take n values)) before)
    (omega arith) none_here)

-- so far each has a value, and this one has one too
none_refused_more : (values : List (Option (List ℕ))) (n : ℕ) → first_refused (take n values) ≡ None → n < length values
    → get_or values n None ≢ None → first_refused (take (n + 1) values) ≡ None
none_refused_more [] n before at one_here = absurd (omega arith)
none_refused_more (None ∷ values) zero before at one_here = absurd (one_here refl)
none_refused_more (None ∷ values) (suc n) before at one_here = cc
none_refused_more (Some bytes ∷ values) zero before at one_here = refl
none_refused_more (Some bytes ∷ values) (suc n) before at one_here =
    let rest = none_refused_more values n (none_under (first_refused (take n values)) before) (omega arith) one_here in
    let next : suc n + 1 ≡ suc (n + 1) = omega arith in
    rw next (ap (λ o. option_map suc o) rest)

shown_none : (piece : Piece) → piece.checks ≡ false → shown piece ≡ None
shown_none piece refused = rw refused refl

shown_some : (piece : Piece) → piece.checks ≡ true → shown piece ≢ None
shown_some piece checks e = let is : shown piece ≡ Some piece.bytes.items = rw checks refl in cc

shown_at : (pieces : List Piece) (n : ℕ) (piece : Piece) → n < length pieces → piece ≡ get_or pieces n piece
    → get_or (map shown pieces) n None ≡ shown piece
shown_at pieces n piece at is = get_or-map shown pieces n piece None at ∙ ap (λ p. shown p) (sym is)

-- the first place that doesn't check, among those that are taken
pub first_shown : (pieces : List Piece) (count n : ℕ) (piece : Piece) → n < count → count ≤ length pieces
    → piece ≡ get_or pieces n piece
    → piece.checks ≡ false → first_refused (take n (map shown pieces)) ≡ None
    → first_refused (take count (map shown pieces)) ≡ Some n
first_shown pieces count n piece below room is refused before =
    let all = map shown pieces in
    let long : length all ≡ length pieces = length-map pieces shown in
    refused_at (take count all) n
    (ap (λ values. first_refused values) (take-take n count all (omega arith)) ∙ before)
    (omega (arith, length-take-le count all (omega arith)))
    (get_or-take count all n None below ∙ shown_at pieces n piece (omega arith) is ∙ shown_none piece refused)

pub none_shown_more : (pieces : List Piece) (n : ℕ) (piece : Piece) → n < length pieces → piece ≡ get_or pieces n piece
    → piece.checks ≡ true → first_refused (take n (map shown pieces)) ≡ None
    → first_refused (take (n + 1) (map shown pieces)) ≡ None
none_shown_more pieces n piece at is checks before =
    let long = length-map pieces shown in
    none_refused_more (map shown pieces) n before (omega arith)
    (λ e. shown_some piece checks (sym (shown_at pieces n piece at is) ∙ e))
