-- The parts of a whole, and overwriting one of them.
use Rattle.std.proofs.Common.{◌≡◌, ℕ, zero, suc, ◌+◌, ◌-◌, ◌*◌, ◌<◌, ◌≤◌, List, [], ◌∷◌, ◌++◌, length, length-append, get_or, set, take, drop, min, refl, ap, sym, ◌∙◌, arith, append_assoc, take-append-drop, length-take-le, mul-le-mul_right}
use Rattle.std.proofs.lemmas.List.{drop-drop, drop-take, drop-append-le, length-take, length-drop, take_at, drop_at, append-nil}
use Rattle.container_core.specs.Chunks.{parts}
use Rattle.container_core.proofs.PartsLemmas.{length-parts, get_or-parts}
use Rattle.piece_core.specs.Rooms.{all_of}

-- the parts joined are all bytes
pub all_of-parts : (size k : ℕ) (bytes : List ℕ) → all_of (parts size k bytes) ≡ bytes
unfolding parts
all_of-parts size zero bytes = append-nil bytes
all_of-parts size (suc k) bytes = ap (λ rest. take size bytes ++ rest) (all_of-parts size k (drop size bytes)) ∙ take-append-drop size bytes

pub whole_of_parts : (front size k : ℕ) (whole : List ℕ) → take front whole ++ all_of (parts size k (drop front whole)) ≡ whole
whole_of_parts front size k whole = ap (λ rest. take front whole ++ rest) (all_of-parts size k (drop front whole)) ∙ take-append-drop front whole

pub count_of_parts : (size count : ℕ) (bytes : List ℕ) → 0 < count → length (parts size (count - 1) bytes) ≡ count
count_of_parts size count bytes some = let h = length-parts size (count - 1) bytes in omega arith

-- a part by its number
pub part_by_number : (front size count : ℕ) (whole : List ℕ) (n : ℕ) → 0 < count → n < count → length whole ≤ front + count * size
    → get_or (parts size (count - 1) (drop front whole)) n [] ≡ take size (drop (front + n * size) whole)
part_by_number front size count whole n some at room =
    let k : count - 1 + 1 ≡ count = omega arith in
    let fits : length (drop front whole) ≤ (count - 1 + 1) * size = rw k (let l = length-drop front whole in omega arith) in
    get_or-parts size (count - 1) (drop front whole) n [] (omega arith) fits
    ∙ ap (take size) (drop-drop (n * size) front whole)

pub room_for : (front size count total long sizes values : ℕ) → long ≡ front + total → size ≡ sizes → count ≡ values → total ≤ values * sizes
    → long ≤ front + count * size
room_for front size count total long sizes values e f g most = rw (f, g) (omega arith)

-- how long a part is
pub length_of_part : (front size count bytes : ℕ) (whole : List ℕ) (n : ℕ) → 0 < count → n < count → length whole ≡ front + bytes
    → length whole ≤ front + count * size
    → length (get_or (parts size (count - 1) (drop front whole)) n []) ≡ min size (bytes - n * size)
length_of_part front size count bytes whole n some at long room =
    let cut = length-take size (drop (front + n * size) whole) in
    let left : length (drop (front + n * size) whole) ≡ bytes - n * size = let l = length-drop (front + n * size) whole in omega arith in
    ap (λ p. length p) (part_by_number front size count whole n some at room) ∙ cut ∙ ap (min size) left

nil_of : (xs : List ℕ) → length xs ≡ 0 → xs ≡ []
nil_of [] e = refl
nil_of (x ∷ xs) e = absurd (omega arith)

-- another part of the same length in its place
set-parts : (size k n : ℕ) (front old new back : List ℕ) → n ≤ k → length front ≡ n * size → length new ≡ length old
    → (n < k → length old ≡ size) → (n ≡ k → back ≡ [])
    → parts size k (front ++ (new ++ back)) ≡ set (parts size k (front ++ (old ++ back))) n new
unfolding parts
set-parts size zero zero front old new back at begins same full last =
    let none : front ≡ [] = nil_of front (begins ∙ zero_times size) in
    let end : back ≡ [] = last refl in
    rw (none, end) (ap (λ p. p ∷ []) (append-nil new))
  where
    zero_times : (m : ℕ) → 0 * m ≡ 0
    zero_times m = grind arith
set-parts size zero (suc n) front old new back at begins same full last = absurd (omega arith)
set-parts size (suc k) zero front old new back at begins same full last =
    let none : front ≡ [] = nil_of front (begins ∙ zero_times size) in
    let long : length old ≡ size = full (omega arith) in
    rw none
    (ap (λ p. p ∷ parts size k (drop size (new ++ back))) (take_at new back size (same ∙ long))
    ∙ ap (λ rest. new ∷ parts size k rest) (drop_at new back size (same ∙ long) ∙ sym (drop_at old back size long)))
  where
    zero_times : (m : ℕ) → 0 * m ≡ 0
    zero_times m = grind arith
set-parts size (suc k) (suc n) front old new back at begins same full last =
    let a = take size front in
    let b = drop size front in
    let more : suc n * size ≡ n * size + size = grind arith in
    let first : length a ≡ size = length-take-le size front (omega arith) in
    let second : length b ≡ n * size = let l = length-drop size front in omega arith in
    let split : (rest : List ℕ) → front ++ rest ≡ a ++ (b ++ rest) = λ rest. ap (λ f. f ++ rest) (sym (take-append-drop size front)) ∙ append_assoc a b rest in
    let later = set-parts size k n b old new back (omega arith) second same (λ less. full (omega arith)) (λ e. last (ap suc e)) in
    let heads : take size (front ++ (new ++ back)) ≡ take size (front ++ (old ++ back)) =
    ap (take size) (split (new ++ back)) ∙ take_at a (b ++ (new ++ back)) size first
    ∙ sym (take_at a (b ++ (old ++ back)) size first) ∙ ap (take size) (sym (split (old ++ back))) in
    let tail_new : drop size (front ++ (new ++ back)) ≡ b ++ (new ++ back) = ap (drop size) (split (new ++ back)) ∙ drop_at a (b ++ (new ++ back)) size first in
    let tail_old : drop size (front ++ (old ++ back)) ≡ b ++ (old ++ back) = ap (drop size) (split (old ++ back)) ∙ drop_at a (b ++ (old ++ back)) size first in
    ap (λ h. h ∷ parts size k (drop size (front ++ (new ++ back)))) heads
    ∙ ap (λ t. take size (front ++ (old ++ back)) ∷ parts size k t) tail_new
    ∙ ap (λ t. take size (front ++ (old ++ back)) ∷ t) later
    ∙ ap (λ t. take size (front ++ (old ++ back)) ∷ set (parts size k t) n new) (sym tail_old)

times_next : (n size : ℕ) → (n + 1) * size ≡ n * size + size
times_next n size = grind arith

full_part : (front size count n new o r b w : ℕ) → n < count - 1 → front + (count - 1) * size ≤ w
    → o ≡ new → new ≡ min size r → r ≡ b - n * size → b ≡ w - front → o ≡ size
full_part front size count n new o r b w less at_least e f g h =
    let m : (n + 1) * size ≤ (count - 1) * size = mul-le-mul_right size (less_next n (count - 1) less) in
    let t = times_next n size in
    omega arith
  where
    less_next : (k l : ℕ) → k < l → k + 1 ≤ l
    less_next k l e = omega arith

last_part : (front size count n new r b l w : ℕ) → 0 < count → n ≡ count - 1 → w ≤ front + count * size
    → new ≡ min size r → r ≡ b - n * size → b ≡ w - front → l ≡ r - new → l ≡ 0
last_part front size count n new r b l w some e room f g h k =
    let t = times_next n size in
    let c : count * size ≡ (n + 1) * size = ap (λ m. m * size) (count_next e) in
    omega arith
  where
    count_next : n ≡ count - 1 → count ≡ n + 1
    count_next f = omega arith

-- a part of a whole is overwritten
pub write_part : (front size count : ℕ) (whole : List ℕ) (n : ℕ) (new : List ℕ) → 0 < count → n < count
    → front + (count - 1) * size ≤ length whole → length whole ≤ front + count * size
    → length new ≡ length (take size (drop (front + n * size) whole))
    → parts size (count - 1) (drop front (take (front + n * size) whole ++ (new ++ drop (front + n * size + length new) whole)))
    ≡ set (parts size (count - 1) (drop front whole)) n new
write_part front size count whole n new some at least room same =
    let body = drop front whole in
    let a = take (n * size) body in
    let rest = drop (n * size) body in
    let rest_is : rest ≡ drop (front + n * size) whole = drop-drop (n * size) front whole in
    let fits : n * size ≤ (count - 1) * size = mul-le-mul_right size (omega arith) in
    let of_body : length body ≡ length whole - front = length-drop front whole in
    let of_rest : length rest ≡ length body - n * size = length-drop (n * size) body in
    let long : length new ≡ min size (length rest) = same ∙ ap (λ r. length (take size r)) (sym rest_is) ∙ length-take size rest in
    let old = take (length new) rest in
    let back = drop (length new) rest in
    let old_long : length old ≡ length new = length-take-le (length new) rest (omega arith) in
    let front_kept : drop front (take (front + n * size) whole ++ (new ++ drop (front + n * size + length new) whole)) ≡ a ++ (new ++ back) =
    drop-append-le front (take (front + n * size) whole) (new ++ drop (front + n * size + length new) whole)
    (let l = length-take (front + n * size) whole in omega arith)
    ∙ ap (λ x. x ++ (new ++ drop (front + n * size + length new) whole)) (drop-take front (n * size) whole)
    ∙ ap (λ x. a ++ (new ++ x)) (sym (drop-drop (length new) (front + n * size) whole) ∙ ap (drop (length new)) (sym rest_is)) in
    let whole_body : a ++ (old ++ back) ≡ body =
    ap (λ x. a ++ x) (take-append-drop (length new) rest) ∙ take-append-drop (n * size) body in
    ap (parts size (count - 1)) front_kept
    ∙ set-parts size (count - 1) n a old new back (omega arith) (length-take-le (n * size) body (omega arith)) (sym old_long)
    (λ less. full_part front size count n (length new) (length old) (length rest) (length body) (length whole) less least old_long long of_rest of_body)
    (λ e. nil_of back (last_part front size count n (length new) (length rest) (length body) (length back) (length whole) some e room long of_rest of_body (length-drop (length new) rest)))
    ∙ ap (λ b. set (parts size (count - 1) b) n new) whole_body

-- a part begins within the whole
pub begins_in : (front size count n bytes : ℕ) → n < count → front + (count - 1) * size ≤ bytes → front + n * size ≤ bytes
begins_in front size count n bytes at least =
    let fits : n * size ≤ (count - 1) * size = mul-le-mul_right size (omega arith) in omega arith

pub inside_of : (size count n seen : ℕ) (body : List ℕ) → 0 < count → length (parts size (count - 1) body) ≡ seen → n < seen → n < count
inside_of size count n seen body some same at = let l = count_of_parts size count body some in omega arith

-- what has the length of a part fits into its place
pub part_fits : (front size count : ℕ) (whole : List ℕ) (n long : ℕ) → 0 < count → n < count → front + (count - 1) * size ≤ length whole
    → length whole ≤ front + count * size → long ≡ length (get_or (parts size (count - 1) (drop front whole)) n [])
    → (long ≡ length (take size (drop (front + n * size) whole))) × (front + n * size + long ≤ length whole)
part_fits front size count whole n long some at least room same =
    let begin = begins_in front size count n (length whole) at least in
    let named = same ∙ ap (λ p. length p) (part_by_number front size count whole n some at room) in
    let cut = length-take size (drop (front + n * size) whole) in
    let left = length-drop (front + n * size) whole in
    (named, omega arith)

pub length-written : (begin : ℕ) (whole new : List ℕ) → begin + length new ≤ length whole
    → length (take begin whole ++ (new ++ drop (begin + length new) whole)) ≡ length whole
length-written begin whole new fits =
    let a = length-take begin whole in
    let d = length-drop (begin + length new) whole in
    let inner = length-append new (drop (begin + length new) whole) in
    let outer = length-append (take begin whole) (new ++ drop (begin + length new) whole) in
    omega arith
