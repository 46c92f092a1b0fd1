-- Sealing a block in place: its chunks, from the last one to the first.
use Rattle.std.proofs.Common.{◌≡◌, ℕ, zero, suc, ◌+◌, ◌-◌, ◌*◌, ◌/◌, ◌%◌, ◌<◌, ◌≤◌, Bool, true, false, List, ◌++◌, length, take, drop}
use Rattle.std.proofs.Common.{sym, ap, ◌∙◌, subst, arith, append_assoc, append-nil, length-append, length-drop, take-append-drop}
use Rattle.std.proofs.Math.Nat.{div-le_self, div-mul-le_self, lt-div-mul-add}
use Rattle.std.proofs.Math.Seq.{paste, take-add}
use Rattle.std.proofs.lemmas.Nat.{div-add-mod'}
use Rattle.std.proofs.lemmas.List.{drop-drop, drop-take, drop_at, length-take-le, take-take, take_at}
use Rattle.container_core.specs.Chunks.{body_length, chunk_count, chunks}
use Rattle.container_core.specs.Stream.{sealed_chunk, stream_by}
use Rattle.container_core.proofs.PartsLemmas.{body-count, body-full, chunks-short, count-full, count-grows, count-whole}
use Rattle.container_core.proofs.RoundLemmas.{stream_by-chunks}

-- ---- numbers

pub whole_parts : (n m : ℕ) → n % m ≡ 0 → n / m * m ≡ n
whole_parts n m none = let parts = div-add-mod' n m in omega (arith, parts, none)

pub pos_times : (m n : ℕ) → 0 < m → 0 < n → 0 < m * n
pos_times zero n some more = absurd (omega arith)
pos_times (suc m) zero some more = absurd (omega arith)
pos_times (suc m) (suc n) some more = omega arith

pub one_less : (k s : ℕ) → 0 < k → (k - 1) * s + s ≡ k * s
one_less zero s some = absurd (omega arith)
one_less (suc k) s some =
    let e : suc k - 1 ≡ k = omega arith in ap (λ (n : ℕ). n * s + s) e ∙ omega arith

-- the last chunk begins after the others, and has no more bytes than they have
pub record IsLastChunk (s n before : ℕ) : Type 0 where
  pub begins : before * s ≤ n
  pub some : 0 < before → before * s < n
  pub ends : n ≤ before * s + s
  pub few : before ≤ n
  pub count : chunk_count s n ≡ before + 1
  pub bytes : body_length s n ≡ n + 16 * (before + 1)

some_left : (s n before : ℕ) → 0 < s → before * s ≤ n - 1 → 0 < before → before * s < n
some_left s zero before some least more =
    let e : before * s ≤ 0 = omega (arith, least) in
    let f = pos_times before s more some in absurd (omega (arith, e, f))
some_left s (suc n) before some least more = omega (arith, least)

pub last_chunk : (s n sub : ℕ) → 0 < s → sub ≡ n - 1 → IsLastChunk s n (sub / s)
last_chunk s n sub some is =
    let least : sub / s * s ≤ sub = div-mul-le_self sub s in
    let most : sub < sub / s * s + s = lt-div-mul-add some in
    let fewer : sub / s ≤ sub = div-le_self sub s in
    record {
      begins = omega arith;
      some = some_left s n (sub / s) some (omega arith);
      ends = omega arith;
      few = omega arith;
      count = count-full s n ∙ ap (λ (k : ℕ). k / s + 1) (sym is);
      bytes = body-full s n ∙ ap (λ (k : ℕ). n + 16 * (k / s + 1)) (sym is);
    }

-- a full block, and a shorter one
pub full_count : (each s : ℕ) → 0 < each → 0 < s → chunk_count s (each * s) ≡ each
full_count each s one some = count-whole s each some one

pub full_bytes : (each s : ℕ) → 0 < each → 0 < s → body_length s (each * s) ≡ each * (s + 16)
full_bytes each s one some =
    body-count s (each * s) ∙ ap (λ (k : ℕ). each * s + 16 * k) (full_count each s one some) ∙ omega arith

pub most_count : (each s n : ℕ) → 0 < each → 0 < s → n ≤ each * s → chunk_count s n ≤ each
most_count each s n one some few = subst (λ (k : ℕ). chunk_count s n ≤ k) (full_count each s one some) (count-grows s n (each * s) some few)

pub most_bytes : (each s n : ℕ) → 0 < each → 0 < s → n ≤ each * s → body_length s n ≤ each * (s + 16)
most_bytes each s n one some few = let count = most_count each s n one some few in let all = body-count s n in omega arith

-- ---- bytes that were moved

pub front_more : (m n : ℕ) (xs ys : List ℕ) → m ≤ n → take n xs ≡ take n ys → take m xs ≡ take m ys
front_more m n xs ys less e = sym (take-take m n xs less) ∙ ap (take m) e ∙ take-take m n ys less

pub behind_more : (m n k : ℕ) (xs ys : List ℕ) → m + n ≡ k → drop m xs ≡ drop m ys → drop k xs ≡ drop k ys
behind_more m n k xs ys is e =
    ap (λ (i : ℕ). drop i xs) (sym is) ∙ sym (drop-drop n m xs) ∙ ap (drop n) e ∙ drop-drop n m ys ∙ ap (λ (i : ℕ). drop i ys) is

pub record IsMoved (old new : List ℕ) (from to n : ℕ) : Type 0 where
  pub before : take to new ≡ take to old
  pub moved : take n (drop to new) ≡ take n (drop from old)
  pub behind : drop (to + n) new ≡ drop (to + n) old

pub is_moved : (old new : List ℕ) (from to n m : ℕ) → m ≡ n → from ≤ to → to + n ≤ length old → new ≡ paste old to (drop from old) m
    → IsMoved old new from to n
is_moved old new from to n m same less room is =
    let front = take to old in
    let part = take n (drop from old) in
    let back = drop (to + n) old in
    let dropped = length-drop from old in
    let wide : length front ≡ to = length-take-le to old (omega arith) in
    let long : length part ≡ n = length-take-le n (drop from old) (omega arith) in
    let both = length-append front part in
    let all : new ≡ (front ++ part) ++ back = is ∙ ap (λ (k : ℕ). paste old to (drop from old) k) same in
    let parted : new ≡ front ++ (part ++ back) = all ∙ append_assoc front part back in
    record {
      before = ap (take to) parted ∙ take_at front (part ++ back) to wide;
      moved = ap (λ (l : List ℕ). take n (drop to l)) parted ∙ ap (take n) (drop_at front (part ++ back) to wide) ∙ take_at part back n long;
      behind = ap (drop (to + n)) all ∙ drop_at (front ++ part) back (to + n) (omega arith);
    }

-- a chunk in its place, the room for its tag, and what follows them
pub sealed_here : (to n : ℕ) (front chunk room tail : List ℕ) → length front ≡ to → length chunk ≡ n → length room ≡ 16
    → take (n + 16) (drop to (front ++ (chunk ++ (room ++ tail)))) ≡ chunk ++ room
sealed_here to n front chunk room tail wide long tag =
    let both = length-append chunk room in
    ap (take (n + 16)) (drop_at front (chunk ++ (room ++ tail)) to wide ∙ sym (append_assoc chunk room tail))
    ∙ take_at (chunk ++ room) tail (n + 16) (omega arith)

pub left_behind : (to n : ℕ) (front chunk room tail : List ℕ) → length front ≡ to → length chunk ≡ n → length room ≡ 16
    → drop (to + n + 16) (front ++ (chunk ++ (room ++ tail))) ≡ tail
left_behind to n front chunk room tail wide long tag =
    let both = length-append chunk room in
    let all = length-append front (chunk ++ room) in
    ap (λ (l : List ℕ). drop (to + n + 16) (front ++ l)) (sym (append_assoc chunk room tail))
    ∙ ap (drop (to + n + 16)) (sym (append_assoc front (chunk ++ room) tail))
    ∙ drop_at (front ++ (chunk ++ room)) tail (to + n + 16) (omega arith)

-- ---- chunks

-- a chunk alone
pub stream_by_one : (key header : List ℕ) (size number : ℕ) (last : Bool) (text : List ℕ) → 0 < size → length text ≤ size
    → stream_by key header number last (chunks size text) ≡ sealed_chunk key header number last text
unfolding stream_by
stream_by_one key header size number true text some few =
    ap (stream_by key header number true) (chunks-short size text some few) ∙ append-nil (sealed_chunk key header number true text)
stream_by_one key header size number false text some few =
    ap (stream_by key header number false) (chunks-short size text some few) ∙ append-nil (sealed_chunk key header number false text)

-- a chunk of what is unchanged
pub same_chunk : (s k j filled : ℕ) (first now : List ℕ) → k * s + s ≡ j * s → j * s ≤ filled → take (j * s) now ≡ take (j * s) first
    → take s (drop (k * s) now) ≡ take s (drop (k * s) (take filled first))
same_chunk s k j filled first now is within same =
    sym (drop-take (k * s) s now) ∙ ap (λ (n : ℕ). drop (k * s) (take n now)) is ∙ ap (drop (k * s)) same
    ∙ ap (drop (k * s)) (sym (take-take (j * s) filled first within))
    ∙ ap (λ (n : ℕ). drop (k * s) (take n (take filled first))) (sym is) ∙ drop-take (k * s) s (take filled first)

-- the last chunk is sealed
pub sealed_last : (key header : List ℕ) (s number k n filled : ℕ) (last : Bool) (first now : List ℕ) → 0 < s → k * s + n ≡ filled → n ≤ s
    → filled ≤ length first
    → take (n + 16) now ≡ sealed_chunk key header number last (take n (drop (k * s) first))
    → take (n + 16) now ≡ stream_by key header number last (chunks s (drop (k * s) (take filled first)))
sealed_last key header s number k n filled last first now some is small room sealed =
    let cut : drop (k * s) (take filled first) ≡ take n (drop (k * s) first) =
    ap (λ (m : ℕ). drop (k * s) (take m first)) (sym is) ∙ drop-take (k * s) n first in
    let dropped = length-drop (k * s) first in
    let long : length (take n (drop (k * s) first)) ≡ n = length-take-le n (drop (k * s) first) (omega arith) in
    sealed ∙ sym (stream_by_one key header s number last (take n (drop (k * s) first)) some (omega arith))
    ∙ ap (λ (l : List ℕ). stream_by key header number last (chunks s l)) (sym cut)

-- one more is sealed before those that are
pub sealed_more : (key header : List ℕ) (s first k j end at next : ℕ) (last : Bool) (plain old new : List ℕ) → 0 < s → j ≡ k + 1
    → k * s + s ≡ j * s → j * s < length plain → at + (s + 16) ≡ next → next ≤ end
    → take (s + 16) (drop at new) ≡ sealed_chunk key header (first + k) false (take s (drop (k * s) plain))
    → drop next new ≡ drop next old
    → take (end - next) (drop next old) ≡ stream_by key header (first + j) last (chunks s (drop (j * s) plain))
    → take (end - at) (drop at new) ≡ stream_by key header (first + k) last (chunks s (drop (k * s) plain))
sealed_more key header s first k j end at next last plain old new some step is within on fits sealed behind was =
    let chunk = take s (drop (k * s) plain) in
    let rest = drop (j * s) plain in
    let part : end - at ≡ s + 16 + (end - next) = omega arith in
    let left = length-drop (k * s) plain in
    let left' = length-drop (j * s) plain in
    let long : length chunk ≡ s = length-take-le s (drop (k * s) plain) (omega arith) in
    let number : first + k + 1 ≡ first + j = omega arith in
    let cut : drop (k * s) plain ≡ chunk ++ rest =
    sym (take-append-drop s (drop (k * s) plain))
    ∙ ap (λ (l : List ℕ). chunk ++ l) (drop-drop s (k * s) plain ∙ ap (λ (n : ℕ). drop n plain) is) in
    ap (λ (n : ℕ). take n (drop at new)) part
    ∙ take-add (s + 16) (end - next) (drop at new)
    ∙ ap (λ (l : List ℕ). l ++ take (end - next) (drop (s + 16) (drop at new))) sealed
    ∙ ap (λ (l : List ℕ). sealed_chunk key header (first + k) false chunk ++ take (end - next) l)
    (drop-drop (s + 16) at new ∙ ap (λ (n : ℕ). drop n new) on ∙ behind)
    ∙ ap (λ (l : List ℕ). sealed_chunk key header (first + k) false chunk ++ l) was
    ∙ ap (λ (l : List ℕ). l ++ stream_by key header (first + j) last (chunks s rest))
    (sym (stream_by_one key header s (first + k) false chunk some (omega arith)))
    ∙ ap (λ (n : ℕ). stream_by key header (first + k) false (chunks s chunk) ++ stream_by key header n last (chunks s rest)) (sym number)
    ∙ sym (stream_by-chunks key header s (first + k) last chunk rest 1 some (omega arith) (omega arith) (omega arith))
    ∙ ap (λ (l : List ℕ). stream_by key header (first + k) last (chunks s l)) (sym cut)
