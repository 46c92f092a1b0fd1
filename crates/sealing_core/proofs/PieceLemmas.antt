-- A block that was sealed in place is a piece, or the input's last part.
use Rattle.std.proofs.Common.{◌≡◌, ℕ, ◌+◌, ◌-◌, ◌*◌, ◌<◌, ◌≤◌, Bool, true, false, List, length, take, Option, sym, ap, ◌∙◌, subst, arith}
use Rattle.container_core.specs.Chunks.{body_length, chunk_count, chunks}
use Rattle.container_core.specs.Container.{size_in}
use Rattle.container_core.specs.Stream.{stream_by}
use Rattle.container_core.proofs.OpeningLemmas.{some_size}
use Rattle.sealing_core.specs.declared.round.Round.{Round}
use Rattle.sealing_core.specs.Pieces.{block, room, IsChunk, IsPart}
use Rattle.sealing_core.specs.Round.{IsLast}
use Rattle.sealing_core.proofs.BlockLemmas.{full_bytes, full_count, most_bytes, most_count}

-- the sizes of a full block
pub record FitsFull (each : ℕ) (header : List ℕ) (size len : ℕ) : Type 0 where
  pub bytes : body_length (size_in header) size ≡ len
  pub count : chunk_count (size_in header) size ≡ each

pub fits_full : (each : ℕ) (header h : List ℕ) (size len : ℕ) → 0 < each → h ≡ header → size ≡ block each header → len ≡ room each header
    → FitsFull each h size len
fits_full each header h size len one is full long =
    subst (λ (l : List ℕ). FitsFull each l size len) (sym is)
    (record {
      bytes = ap (body_length (size_in header)) full ∙ full_bytes each (size_in header) one (some_size header) ∙ sym long;
      count = ap (chunk_count (size_in header)) full ∙ full_count each (size_in header) one (some_size header);
    })

-- and of the last one
pub record FitsLast (each : ℕ) (header h : List ℕ) (filled : ℕ) : Type 0 where
  pub bytes : body_length (size_in h) filled ≤ room each header
  pub count : chunk_count (size_in h) filled ≤ each

pub fits_last : (each : ℕ) (header h : List ℕ) (filled : ℕ) → 0 < each → h ≡ header → filled ≤ block each header → FitsLast each header h filled
fits_last each header h filled one is few =
    subst (λ (l : List ℕ). FitsLast each header l filled) (sym is)
    (record {
      bytes = most_bytes each (size_in header) filled one (some_size header) few;
      count = most_count each (size_in header) filled one (some_size header) few;
    })

-- sealed chunks are a part
pub part_of : (each : ℕ) (key header k h : List ℕ) (told : Option (List ℕ)) (number first : ℕ) (last : Bool) (text bytes : List ℕ)
    → k ≡ key → h ≡ header → first ≡ each * number → IsChunk (block each header) told number last text
    → bytes ≡ stream_by k h first last (chunks (size_in h) text) → IsPart each key header told number last bytes
part_of each key header k h told number first last text bytes a b f chunk is = record {
  text = text;
  chunk = chunk;
  is = is ∙ ap (λ (l : List ℕ). stream_by l h first last (chunks (size_in h) text)) a
      ∙ ap (λ (l : List ℕ). stream_by key l first last (chunks (size_in l) text)) b
      ∙ ap (λ (n : ℕ). stream_by key header n last (chunks (size_in header) text)) f;
}

-- a number of blocks' chunks, one block less
pub before_last : (each number blocks : ℕ) → 0 < blocks → number ≡ blocks - 1 → each * number + each ≡ each * blocks
before_last each number blocks some is =
    let e : blocks ≡ number + 1 = omega arith in
    sym (ap (λ (n : ℕ). each * n) e ∙ omega arith)

-- the last block was sealed in its buffer
pub last_sealed : (each : ℕ) (key header k h : List ℕ) (told : Option (List ℕ)) (number first n : ℕ) (old new : Round) (text : List ℕ)
    → k ≡ key → h ≡ header → first ≡ each * number → old.is_sealed ≡ false → new.is_sealed ≡ true → new.filled ≡ n → n ≤ room each header
    → new.last.items ≡ text → length text ≡ length old.last.items
    → take n text ≡ stream_by k h first true (chunks (size_in h) (take old.filled old.last.items))
    → IsLast each key header told number old → IsLast each key header told number new
last_sealed each key header k h told number first n old new text a b f plain sealed filled within items long is was =
    let count = ap (λ (l : List ℕ). length l) items in
    let was_long = was.long in
    record {
      long = omega arith;
      filled = λ p. absurd (both p);
      within = omega arith;
      plain = λ p. absurd (both p);
      sealed = λ _. part_of each key header k h told number first true (take old.filled old.last.items) (take new.filled new.last.items) a b f (was.plain plain)
          (ap (λ (l : List ℕ). take new.filled l) items ∙ ap (λ (m : ℕ). take m text) filled ∙ is);
    }
  where
    both : new.is_sealed ≡ false → ⊥
    both p = let e : true ≡ false = sym sealed ∙ p in cc
