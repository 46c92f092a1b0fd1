-- What the places of a shelf show.
use Rattle.std.proofs.Common.{◌≡◌, ◌≢◌, ℕ, zero, suc, ◌+◌, ◌<◌, ◌≤◌, List, [], ◌∷◌, ◌++◌, length, get_or, set, drop, replicate, map}
use Rattle.std.proofs.Common.{Option, Some, None, option_map, Ok, Err, refl, ap, sym, ◌∙◌, arith, inl, inr, zero-add, add-one, take}
use Rattle.std.proofs.Common.{length-set, length-take-le, append_assoc}
use Rattle.std.proofs.Math.Seq.{take-suc}
use Rattle.std.proofs.lemmas.List.{ext_get_or, get_or-set_same, get_or-set_other, drop_more, append-nil}
use Rattle.std.proofs.lemmas.Bool.{cases_eq}
use Rattle.worker_core.specs.Answer.{first_refused, joined, unless_refused}
use Rattle.piece_core.specs.declared.work.Kind.{Kind}
use Rattle.piece_core.specs.declared.shelf.ShelfPlace.{ShelfPlace}
use Rattle.piece_core.specs.declared.shelf.ShelfPlace.TheVariants.{Empty, Forged, Here, Apart}
use Rattle.piece_core.specs.Pieces.{PieceView, ShelfView, HasPlaceFor, with_piece}
use Rattle.piece_core.specs.Answer.{value_in, IsFull, HasGap, shelf_whole, bytes_before, after_front}
use Rattle.piece_core.specs.Rooms.{all_of, shown_piece, pieces_from, shelf_of, held, held_from, AllHaveBytes, IsFirstWithout}
use Rattle.piece_core.specs.Rooms.{AllCheck, KeepsPiece, piece_at}

length-pieces_from : (kind : Kind) (header : List ℕ) (i : ℕ) (places : List ShelfPlace) (parts : List (List ℕ))
    → length (pieces_from kind header i places parts) ≡ length places
unfolding pieces_from
length-pieces_from kind header i [] parts = refl
length-pieces_from kind header i (place ∷ rest) parts = let h = length-pieces_from kind header (i + 1) rest parts in omega arith

get_or-pieces_from : (kind : Kind) (header : List ℕ) (i : ℕ) (places : List ShelfPlace) (parts : List (List ℕ)) (n : ℕ) → n < length places
    → get_or (pieces_from kind header i places parts) n None
    ≡ shown_piece kind header (i + n) (get_or places n Empty) (get_or parts (i + n) [])
unfolding pieces_from
get_or-pieces_from kind header i [] parts n at = absurd (omega arith)
get_or-pieces_from kind header i (place ∷ rest) parts zero at = ap (λ m. shown_piece kind header m place (get_or parts m [])) (plus_zero i)
  where
    plus_zero : (m : ℕ) → m ≡ m + 0
    plus_zero m = omega arith
get_or-pieces_from kind header i (place ∷ rest) parts (suc n) at =
    get_or-pieces_from kind header (i + 1) rest parts n (omega arith)
    ∙ ap (λ m. shown_piece kind header m (get_or rest n Empty) (get_or parts m [])) (next i n)
  where
    next : (k l : ℕ) → k + 1 + l ≡ k + suc l
    next k l = omega arith

pub count_seen : (kind : Kind) (header : List ℕ) (places : List ShelfPlace) (parts : List (List ℕ)) (s : ShelfView)
    → shelf_of kind header places parts ≡ s → length places ≡ length s.places
count_seen kind header places parts s is =
    sym (length-pieces_from kind header 0 places parts) ∙ ap (λ v. length v.places) is

-- what is at a place, by its number
place_shows : (kind : Kind) (header : List ℕ) (places : List ShelfPlace) (parts : List (List ℕ)) (n : ℕ) → n < length places
    → get_or (pieces_from kind header 0 places parts) n None ≡ shown_piece kind header n (get_or places n Empty) (get_or parts n [])
place_shows kind header places parts n at =
    get_or-pieces_from kind header 0 places parts n at
    ∙ ap (λ m. shown_piece kind header m (get_or places n Empty) (get_or parts m [])) (zero-add n)

-- no piece has come yet
pub pieces_from-empty : (kind : Kind) (header : List ℕ) (i count : ℕ) (parts : List (List ℕ))
    → pieces_from kind header i (replicate count Empty) parts ≡ replicate count None
unfolding pieces_from
pieces_from-empty kind header i zero parts = refl
pieces_from-empty kind header i (suc count) parts = ap (λ rest. None ∷ rest) (pieces_from-empty kind header (i + 1) count parts)

-- one place filled
pieces_from-set : (kind : Kind) (header : List ℕ) (places : List ShelfPlace) (old new : List (List ℕ)) (n : ℕ) (place : ShelfPlace)
    (p : PieceView) → n < length places → shown_piece kind header n place (get_or new n []) ≡ Some p
    → ((m : ℕ) → m ≢ n → get_or new m [] ≡ get_or old m [])
    → pieces_from kind header 0 (set places n place) new ≡ set (pieces_from kind header 0 places old) n (Some p)
pieces_from-set kind header places old new n place p at shows others =
    let was = pieces_from kind header 0 places old in
    let is = pieces_from kind header 0 (set places n place) new in
    let same : length is ≡ length places = length-pieces_from kind header 0 (set places n place) new ∙ length-set places n place in
    let long : length was ≡ length places = length-pieces_from kind header 0 places old in
    ext_get_or None is (set was n (Some p)) (same ∙ sym (length-set was n (Some p) ∙ long)) (λ m below.
    let inside : m < length places = rw same at below in
    let shown_new : get_or is m None ≡ shown_piece kind header m (get_or (set places n place) m Empty) (get_or new m []) =
    place_shows kind header (set places n place) new m (rw (length-set places n place) inside) in
    elim (cases_eq m n) [
      | inl here ↦
          shown_new ∙ ap (λ q. shown_piece kind header m q (get_or new m []))
          (ap (λ k. get_or (set places n place) k Empty) here ∙ get_or-set_same places n place Empty at)
          ∙ ap (λ k. shown_piece kind header k place (get_or new k [])) here ∙ shows
          ∙ sym (ap (λ k. get_or (set was n (Some p)) k None) here ∙ get_or-set_same was n (Some p) None (rw long at))
      | inr other ↦
          shown_new ∙ ap (λ q. shown_piece kind header m q (get_or new m [])) (get_or-set_other places n m place Empty other)
          ∙ ap (λ part. shown_piece kind header m (get_or places m Empty) part) (others m other)
          ∙ sym (get_or-set_other was n m (Some p) None other ∙ place_shows kind header places old m inside)
    ])

shown_none : (kind : Kind) (header : List ℕ) (n : ℕ) (place : ShelfPlace) (part : List ℕ)
    → shown_piece kind header n place part ≡ None → place ≡ Empty
shown_none kind header n Empty part e = refl
shown_none kind header n Forged part e = cc
shown_none kind header n Here part e = cc
shown_none kind header n (Apart bytes) part e = cc

pub place_empty : (kind : Kind) (header : List ℕ) (places : List ShelfPlace) (parts : List (List ℕ)) (n : ℕ) → n < length places
    → get_or places n Empty ≡ Empty → get_or (pieces_from kind header 0 places parts) n None ≡ None
place_empty kind header places parts n at e =
    place_shows kind header places parts n at ∙ ap (λ p. shown_piece kind header n p (get_or parts n [])) e

pub place_taken : (kind : Kind) (header : List ℕ) (places : List ShelfPlace) (parts : List (List ℕ)) (n : ℕ) → n < length places
    → get_or places n Empty ≢ Empty → get_or (pieces_from kind header 0 places parts) n None ≢ None
place_taken kind header places parts n at some e =
    some (shown_none kind header n (get_or places n Empty) (get_or parts n []) (sym (place_shows kind header places parts n at) ∙ e))

pub gap_of : (kind : Kind) (header : List ℕ) (places : List ShelfPlace) (parts : List (List ℕ)) (n : ℕ) → n < length places
    → get_or places n Empty ≡ Empty → HasGap (shelf_of kind header places parts)
gap_of kind header places parts n at e =
    record { at = n; below = rw (length-pieces_from kind header 0 places parts) at; empty = place_empty kind header places parts n at e }

pub full_of : (kind : Kind) (header : List ℕ) (places : List ShelfPlace) (parts : List (List ℕ))
    → ((n : ℕ) → n < length places → get_or places n Empty ≢ Empty) → IsFull (shelf_of kind header places parts)
full_of kind header places parts some n at = place_taken kind header places parts n (inside n at) (some n (inside n at))
  where
    inside : (m : ℕ) → m < length (pieces_from kind header 0 places parts) → m < length places
    inside m below = rw (length-pieces_from kind header 0 places parts) at below

later : (place : ShelfPlace) (rest : List ShelfPlace) (n : ℕ) → IsFirstWithout (place ∷ rest) (suc n) → IsFirstWithout rest n
later place rest n first = record {
  below = let below = first.below in omega arith;
  without = first.without;
  before = λ k less. first.before (suc k) (omega arith);
}

-- the first place without bytes is the first piece that is refused
refused_of : (kind : Kind) (header : List ℕ) (i : ℕ) (places : List ShelfPlace) (parts : List (List ℕ)) (n : ℕ) → IsFirstWithout places n
    → first_refused (map value_in (pieces_from kind header i places parts)) ≡ Some n
unfolding pieces_from
refused_of kind header i [] parts n first = absurd (let below = first.below in omega arith)
refused_of kind header i (Empty ∷ rest) parts zero first = refl
refused_of kind header i (Forged ∷ rest) parts zero first = refl
refused_of kind header i (Here ∷ rest) parts zero first = absurd first.without
refused_of kind header i (Apart bytes ∷ rest) parts zero first = absurd first.without
refused_of kind header i (Empty ∷ rest) parts (suc n) first = absurd (first.before 0 (omega arith) tt)
refused_of kind header i (Forged ∷ rest) parts (suc n) first = absurd (first.before 0 (omega arith) tt)
refused_of kind header i (Here ∷ rest) parts (suc n) first =
    ap (λ o. option_map suc o) (refused_of kind header (i + 1) rest parts n (later Here rest n first))
refused_of kind header i (Apart bytes ∷ rest) parts (suc n) first =
    ap (λ o. option_map suc o) (refused_of kind header (i + 1) rest parts n (later (Apart bytes) rest n first))

pub forged_of : (kind : Kind) (header : List ℕ) (places : List ShelfPlace) (parts : List (List ℕ)) (n : ℕ) → IsFirstWithout places n
    → shelf_whole (shelf_of kind header places parts) ≡ Err n
forged_of kind header places parts n first =
    let all = joined (map value_in (pieces_from kind header 0 places parts)) in
    ap (λ o. after_front (bytes_before kind header) (unless_refused o all)) (refused_of kind header 0 places parts n first)

-- where every place has bytes, no piece is refused
pub none_refused : (kind : Kind) (header : List ℕ) (i : ℕ) (places : List ShelfPlace) (parts : List (List ℕ)) → AllHaveBytes places
    → first_refused (map value_in (pieces_from kind header i places parts)) ≡ None
unfolding pieces_from
none_refused kind header i [] parts all = refl
none_refused kind header i (Empty ∷ rest) parts all = absurd (all 0 (omega arith) tt)
none_refused kind header i (Forged ∷ rest) parts all = absurd (all 0 (omega arith) tt)
none_refused kind header i (Here ∷ rest) parts all =
    ap (λ o. option_map suc o) (none_refused kind header (i + 1) rest parts (λ n at. all (suc n) (omega arith)))
none_refused kind header i (Apart bytes ∷ rest) parts all =
    ap (λ o. option_map suc o) (none_refused kind header (i + 1) rest parts (λ n at. all (suc n) (omega arith)))

-- the pieces joined are what the places hold
joined_held : (kind : Kind) (header : List ℕ) (i : ℕ) (places : List ShelfPlace) (parts : List (List ℕ))
    → joined (map value_in (pieces_from kind header i places parts)) ≡ held_from i places parts
unfolding pieces_from
joined_held kind header i [] parts = refl
joined_held kind header i (Empty ∷ rest) parts = joined_held kind header (i + 1) rest parts
joined_held kind header i (Forged ∷ rest) parts = joined_held kind header (i + 1) rest parts
joined_held kind header i (Here ∷ rest) parts = ap (λ b. get_or parts i [] ++ b) (joined_held kind header (i + 1) rest parts)
joined_held kind header i (Apart bytes ∷ rest) parts = ap (λ b. bytes.items ++ b) (joined_held kind header (i + 1) rest parts)

-- where every piece is there and checks, the whole is what the places hold
pub whole_held : (kind : Kind) (header : List ℕ) (places : List ShelfPlace) (parts : List (List ℕ))
    → AllCheck (shelf_of kind header places parts)
    → shelf_whole (shelf_of kind header places parts) ≡ Ok (bytes_before kind header ++ held_from 0 places parts)
whole_held kind header places parts all = rw (all.1, joined_held kind header 0 places parts) refl

-- where all bytes are in the whole, the places hold all its parts
held_here : (i : ℕ) (places : List ShelfPlace) (parts : List (List ℕ)) → i + length places ≡ length parts
    → ((n : ℕ) → n < length places → get_or places n Empty ≡ Here) → held_from i places parts ≡ all_of (drop i parts)
held_here i [] parts long here = sym (ap all_of (nothing_left i parts (omega arith)))
  where
    nothing_left : (m : ℕ) (xs : List (List ℕ)) → length xs ≤ m → drop m xs ≡ []
    nothing_left zero [] e = refl
    nothing_left zero (x ∷ xs) e = absurd (omega arith)
    nothing_left (suc m) [] e = refl
    nothing_left (suc m) (x ∷ xs) e = nothing_left m xs (omega arith)
held_here i (place ∷ rest) parts long here =
    let first : place ≡ Here = here 0 (omega arith) in
    let later = held_here (i + 1) rest parts (omega arith) (λ n at. here (suc n) (omega arith)) in
    ap (λ p. held p (get_or parts i []) ++ held_from (i + 1) rest parts) first
    ∙ ap (λ b. get_or parts i [] ++ b) later
    ∙ ap all_of (sym (drop_more parts i [] (omega arith)))

whole_here : (places : List ShelfPlace) (parts : List (List ℕ)) → length places ≡ length parts
    → ((n : ℕ) → n < length places → get_or places n Empty ≡ Here) → held_from 0 places parts ≡ all_of parts
whole_here places parts long here = held_here 0 places parts (zero-add (length places) ∙ long) here

-- one more place appended
held_last : (n : ℕ) (place : ShelfPlace) (rest : List ShelfPlace) (parts : List (List ℕ))
    → held_from n (rest ++ place ∷ []) parts ≡ held_from n rest parts ++ held place (get_or parts (n + length rest) [])
held_last n place [] parts =
    ap (λ m. held place (get_or parts m []) ++ []) (plus_zero n) ∙ append-nil (held place (get_or parts (n + 0) []))
  where
    plus_zero : (m : ℕ) → m ≡ m + 0
    plus_zero m = omega arith
held_last n place (p ∷ rest) parts =
    ap (λ b. held p (get_or parts n []) ++ b)
    (held_last (n + 1) place rest parts ∙ ap (λ m. held_from (n + 1) rest parts ++ held place (get_or parts m [])) (next n (length rest)))
    ∙ sym (append_assoc (held p (get_or parts n [])) (held_from (n + 1) rest parts) (held place (get_or parts (n + suc (length rest)) [])))
  where
    next : (k l : ℕ) → k + 1 + l ≡ k + suc l
    next k l = omega arith

pub held_more : (front old new : List ℕ) (places : List ShelfPlace) (parts : List (List ℕ)) (n : ℕ) → n < length places
    → old ≡ front ++ held_from 0 (take n places) parts → new ≡ old ++ held (get_or places n Empty) (get_or parts n [])
    → new ≡ front ++ held_from 0 (take (n + 1) places) parts
held_more front old new places parts n at was is =
    let place = get_or places n Empty in
    let more : take (n + 1) places ≡ take n places ++ place ∷ [] = ap (λ m. take m places) (add-one n) ∙ take-suc places n Empty at in
    let long : 0 + length (take n places) ≡ n = zero-add (length (take n places)) ∙ length-take-le n places (omega arith) in
    is ∙ ap (λ b. b ++ held place (get_or parts n [])) was
    ∙ append_assoc front (held_from 0 (take n places) parts) (held place (get_or parts n []))
    ∙ ap (λ b. front ++ b)
    (ap (λ m. held_from 0 (take n places) parts ++ held place (get_or parts m [])) (sym long)
    ∙ sym (held_last 0 place (take n places) parts) ∙ ap (λ ps. held_from 0 ps parts) (sym more))

-- the joined places are the whole
pub joined_whole : (kind : Kind) (header : List ℕ) (places slice : List ShelfPlace) (parts : List (List ℕ)) (front bytes : List ℕ)
    → AllCheck (shelf_of kind header places parts) → front ≡ bytes_before kind header → slice ≡ places
    → bytes ≡ front ++ held_from 0 slice parts
    → IsFull (shelf_of kind header places parts) × (shelf_whole (shelf_of kind header places parts) ≡ Ok bytes)
joined_whole kind header places slice parts front bytes all e f g = (
  all.0,
  whole_held kind header places parts all
      ∙ ap (λ x. Ok x)
      (ap (λ ps. bytes_before kind header ++ held_from 0 ps parts) (sym f) ∙ ap (λ x. x ++ held_from 0 slice parts) (sym e) ∙ sym g),
)

-- where all bytes are in the room, that is the whole
pub here_whole : (kind : Kind) (header : List ℕ) (places slice : List ShelfPlace) (parts : List (List ℕ)) (front bytes : List ℕ)
    → AllCheck (shelf_of kind header places parts) → front ≡ bytes_before kind header → slice ≡ places
    → length places ≡ length parts → ((n : ℕ) → n < length slice → get_or slice n Empty ≡ Here) → bytes ≡ front ++ all_of parts
    → IsFull (shelf_of kind header places parts) × (shelf_whole (shelf_of kind header places parts) ≡ Ok bytes)
here_whole kind header places slice parts front bytes all e f long here g =
    joined_whole kind header places slice parts front bytes all e f
    (g ∙ ap (λ x. front ++ x) (sym (whole_here slice parts (ap (λ ps. length ps) f ∙ long) here)))

-- the shelf with a piece kept
pub put_view : (kind : Kind) (header : List ℕ) (places : List ShelfPlace) (old new : List (List ℕ)) (place : ShelfPlace) (p : PieceView)
    → HasPlaceFor (shelf_of kind header places old) p → KeepsPiece old new p.number p.value place
    → shelf_of kind header (set places p.number place) new ≡ with_piece (shelf_of kind header places old) p
put_view kind header places old new place p fits kept =
    let at : p.number < length places = rw (length-pieces_from kind header 0 places old) at fits.number in
    let named : piece_at kind header p.number p.value ≡ p = rw (← fits.header, ← fits.kind) refl in
    let shelf : List (Option PieceView) → ShelfView = λ ps. record { kind = kind; header = header; places = ps } in
    ap shelf
    (pieces_from-set kind header places old new p.number place p at (kept.shows kind header p.number ∙ ap (λ x. Some x) named)
    kept.others)
