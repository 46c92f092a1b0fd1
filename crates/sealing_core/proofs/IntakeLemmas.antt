-- What a chunk that was read is of the whole input, and what was read with it.
use Rattle.std.proofs.Common.{◌≡◌, ℕ, zero, suc, ◌+◌, ◌-◌, ◌*◌, ◌<◌, ◌≤◌, Bool, true, false, List, [], ◌∷◌, ◌++◌, length, get_or, take}
use Rattle.std.proofs.Common.{Option, Some, None, IfSome, refl, sym, ap, ◌∙◌, subst, arith, append_assoc, length-append, append-nil}
use Rattle.std.proofs.KnownBytes.{Consumes-trans}
use Rattle.std.proofs.lemmas.List.{take_all, length-take-le}
use Rattle.std.proofs.Math.Nat.{lt_of_mul-lt-mul_right, mul-le-mul_right}
use lib.Seq.{take-suc}
use Rattle.io_core.specs.Reads.{ConsumesUpTo}
use Rattle.io_core.specs.Streams.{Consumes, IsAtEnd}
use Rattle.sealing_core.specs.declared.intake.Intake.{Intake}
use Rattle.sealing_core.specs.Intake.{HasRead, seen}
use Rattle.sealing_core.specs.Pieces.{IsChunk}

not_both : (b : Bool) → b ≡ true → b ≡ false → ⊥
not_both b is isnt = let e : true ≡ false = sym is ∙ isnt in cc

-- what was read so far, and what was read now: whole chunks, and what is in the buffer
so_far : (past before read got rest : List ℕ) (bytes : List ℕ) → bytes ≡ past ++ before → got ≡ before ++ read
    → (bytes ++ read) ++ rest ≡ past ++ (got ++ rest)
so_far past before read got rest bytes was now =
    ap (λ (l : List ℕ). (l ++ read) ++ rest) was
    ∙ ap (λ (l : List ℕ). l ++ rest) (append_assoc past before read)
    ∙ append_assoc past (before ++ read) rest
    ∙ ap (λ (l : List ℕ). past ++ (l ++ rest)) (sym now)

-- only what was read so far counts: at an end nothing is left
pub with_rest : (P : List ℕ → Type 0) (left left' : Option (List ℕ)) (bytes : List ℕ) → Consumes left left' bytes
    → ((rest : List ℕ) → left' ≡ Some rest → P (bytes ++ rest)) → IfSome left P
with_rest P None left' bytes consumed f = tt
with_rest P (Some input) None bytes consumed f = absurd consumed
with_rest P (Some input) (Some rest) bytes consumed f = subst P (sym consumed) (f rest refl)

no_rest : (left : Option (List ℕ)) (rest : List ℕ) → IsAtEnd left → left ≡ Some rest → rest ≡ []
no_rest None rest end is = absurd (none_is rest is)
  where
    none_is : (rest : List ℕ) → None ≡ Some rest → ⊥
    none_is rest e = cc
no_rest (Some r) rest end is = same is end
  where
    same : Some r ≡ Some rest → r ≡ [] → rest ≡ []
    same e empty = let s : r ≡ rest = cc in sym s ∙ empty

-- the limit isn't reached
pub over_read : (size limit n : ℕ) (left now after : Option (List ℕ)) (intake intake' : Intake) (read : List ℕ)
    → HasRead size limit left now intake → intake.ended ≡ false → intake.over ≡ false → Consumes now after read
    → n ≡ length (seen intake.ahead ++ read) → n + intake.total ≡ limit → n ≤ size + 1
    → intake'.over ≡ true → intake'.ended ≡ false → intake'.total ≡ intake.total → intake'.blocks ≡ intake.blocks
    → HasRead size limit left after intake'
over_read size limit n left now after intake intake' read had going unmet more counts full few over still total counted =
    let g = (had.going going unmet).0 in
    let sum = had.sum going in
    let whole = g.whole in
    let long : length (had.bytes ++ read) ≡ limit =
    length-append had.bytes read ∙ ap (λ (k : ℕ). k + length read) (ap (λ (l : List ℕ). length l) g.read ∙ length-append g.past (seen intake.ahead))
    ∙ (let c = length-append (seen intake.ahead) read in omega arith) in
    let product : intake'.blocks * size ≡ intake.blocks * size = ap (λ (k : ℕ). k * size) counted in
    record {
      bytes = had.bytes ++ read;
      consumed = Consumes-trans left now after had.bytes read had.consumed more;
      bound = omega arith;
      sum = λ _. omega arith;
      going = λ _ shut. absurd (not_both _ over shut);
      end = λ ended. absurd (not_both _ ended still);
      over = λ _. (long, omega arith);
    }

-- a buffer that is full
whole_buffer : (size n : ℕ) (buffer got : List ℕ) → length buffer ≡ size + 1 → size < n → take n buffer ≡ got → buffer ≡ got
whole_buffer size n buffer got long full is = sym (take_all n buffer (omega arith)) ∙ is

pub full_read : (size limit n : ℕ) (left now after : Option (List ℕ)) (intake intake' : Intake) (buffer read : List ℕ)
    → HasRead size limit left now intake → intake.ended ≡ false → intake.over ≡ false → Consumes now after read
    → take n buffer ≡ seen intake.ahead ++ read → length buffer ≡ size + 1 → size < n → intake.total + size + 1 < limit
    → intake'.blocks ≡ intake.blocks + 1 → intake'.ahead ≡ Some (get_or buffer size 0) → intake'.ended ≡ false
    → intake'.over ≡ false → intake'.total ≡ intake.total + size
    → HasRead size limit left after intake'
full_read size limit n left now after intake intake' buffer read had going unmet more text long full within counted ahead still shut total =
    let g = (had.going going unmet).0 in
    let one : seen intake'.ahead ≡ get_or buffer size 0 ∷ [] = ap seen ahead in
    let all : buffer ≡ take size buffer ++ seen intake'.ahead =
    sym (take_all (suc size) buffer (omega arith)) ∙ take-suc buffer size 0 (omega arith) ∙ ap (λ (l : List ℕ). take size buffer ++ l) (sym one) in
    let cut : length (take size buffer) ≡ size = length-take-le size buffer (omega arith) in
    let grown = length-append g.past (take size buffer) in
    let product : (intake.blocks + 1) * size ≡ intake.blocks * size + size = grind arith in
    let product' : intake'.blocks * size ≡ (intake.blocks + 1) * size = ap (λ (k : ℕ). k * size) counted in
    let is : had.bytes ++ read ≡ g.past ++ buffer =
    sym (append-nil (had.bytes ++ read)) ∙ so_far g.past (seen intake.ahead) read buffer [] had.bytes g.read (whole_buffer size n buffer _ long full text)
    ∙ ap (λ (l : List ℕ). g.past ++ l) (append-nil buffer) in
    let count : length (had.bytes ++ read) ≡ length g.past + length buffer = ap (λ (l : List ℕ). length l) is ∙ length-append g.past buffer in
    let whole = g.whole in
    let sum = had.sum going in
    record {
      bytes = had.bytes ++ read;
      consumed = Consumes-trans left now after had.bytes read had.consumed more;
      bound = omega arith;
      sum = λ _. omega arith;
      going = λ _ _. (
        record {
          past = g.past ++ take size buffer;
          read = is ∙ ap (λ (l : List ℕ). g.past ++ l) all ∙ sym (append_assoc g.past (take size buffer) (seen intake'.ahead));
          whole = omega arith;
          first = λ none_yet. absurd (omega arith);
          behind = λ _. ap (λ (l : List ℕ). length l) one;
        },
        omega arith,
      );
      end = λ over. absurd (not_both _ over still);
      over = λ over. absurd (not_both _ over shut);
    }

pub full_chunk : (size limit n : ℕ) (left now after : Option (List ℕ)) (intake : Intake) (buffer read : List ℕ)
    → HasRead size limit left now intake → intake.ended ≡ false → intake.over ≡ false → Consumes now after read
    → take n buffer ≡ seen intake.ahead ++ read → length buffer ≡ size + 1 → size < n → 0 < size
    → IsChunk size left intake.blocks false (take size buffer)
full_chunk size limit n left now after intake buffer read had going unmet more text long full some =
    let g = (had.going going unmet).0 in
    let cut : length (take size buffer) ≡ size = length-take-le size buffer (omega arith) in
    let all : buffer ≡ take size buffer ++ get_or buffer size 0 ∷ [] = sym (take_all (suc size) buffer (omega arith)) ∙ take-suc buffer size 0 (omega arith) in
    record {
      few = omega arith;
      full = λ _. cut;
      some = λ _. omega arith;
      of = with_rest _ left after (had.bytes ++ read) (Consumes-trans left now after had.bytes read had.consumed more)
          (λ rest _. record {
            before = g.past;
            after = get_or buffer size 0 ∷ rest;
            is = so_far g.past (seen intake.ahead) read buffer rest had.bytes g.read (whole_buffer size n buffer _ long full text)
                ∙ ap (λ (l : List ℕ). g.past ++ (l ++ rest)) all ∙ ap (λ (l : List ℕ). g.past ++ l) (append_assoc (take size buffer) (get_or buffer size 0 ∷ []) rest);
            behind = g.whole;
            more = λ _. omega arith;
            end = λ e. cc;
          });
    }

pub end_read : (size limit n : ℕ) (left now after : Option (List ℕ)) (intake intake' : Intake) (buffer read : List ℕ)
    → HasRead size limit left now intake → intake.ended ≡ false → intake.over ≡ false → Consumes now after read → IsAtEnd after
    → take n buffer ≡ seen intake.ahead ++ read → n ≤ length buffer → intake.total + n < limit
    → intake'.ended ≡ true → intake'.over ≡ false → intake'.total ≡ intake.total + n
    → HasRead size limit left after intake'
end_read size limit n left now after intake intake' buffer read had going unmet more over text within below ended shut total =
    let g = (had.going going unmet).0 in
    let all : had.bytes ++ read ≡ g.past ++ take n buffer =
    sym (append-nil (had.bytes ++ read)) ∙ so_far g.past (seen intake.ahead) read (take n buffer) [] had.bytes g.read text
    ∙ ap (λ (l : List ℕ). g.past ++ l) (append-nil (take n buffer)) in
    let cut : length (take n buffer) ≡ n = length-take-le n buffer within in
    let long : length (had.bytes ++ read) ≡ length g.past + n = ap (λ (l : List ℕ). length l) all ∙ length-append g.past (take n buffer) ∙ ap (λ (k : ℕ). length g.past + k) cut in
    let whole = g.whole in
    let sum = had.sum going in
    record {
      bytes = had.bytes ++ read;
      consumed = Consumes-trans left now after had.bytes read had.consumed more;
      bound = omega arith;
      sum = λ still. absurd (not_both _ ended still);
      going = λ still _. absurd (not_both _ ended still);
      end = λ _. (over, omega arith, omega arith);
      over = λ e. absurd (not_both _ e shut);
    }

pub end_chunk : (size limit n : ℕ) (left now after : Option (List ℕ)) (intake : Intake) (buffer read : List ℕ)
    → HasRead size limit left now intake → intake.ended ≡ false → intake.over ≡ false → Consumes now after read → IsAtEnd after
    → take n buffer ≡ seen intake.ahead ++ read → n ≤ length buffer → n ≤ size
    → IsChunk size left intake.blocks true (take n buffer)
end_chunk size limit n left now after intake buffer read had going unmet more over text within few =
    let g = (had.going going unmet).0 in
    let cut : length (take n buffer) ≡ n = length-take-le n buffer within in
    record {
      few = omega arith;
      full = λ e. cc;
      some = λ later. let one = g.behind later in let long = ap (λ (l : List ℕ). length l) text ∙ length-append (seen intake.ahead) read in omega arith;
      of = with_rest _ left after (had.bytes ++ read) (Consumes-trans left now after had.bytes read had.consumed more)
          (λ rest is. record {
            before = g.past;
            after = rest;
            is = so_far g.past (seen intake.ahead) read (take n buffer) rest had.bytes g.read text;
            behind = g.whole;
            more = λ e. cc;
            end = λ _. no_rest after rest over is;
          });
    }

-- a failed read took no more than it may
pub lost_read : (size limit upto : ℕ) (left now after : Option (List ℕ)) (intake : Intake)
    → HasRead size limit left now intake → intake.ended ≡ false → intake.over ≡ false
    → upto + intake.total ≤ limit → ConsumesUpTo now after (upto - length (seen intake.ahead))
    → ConsumesUpTo left after limit
lost_read size limit upto left now after intake had going unmet few lost =
    let g = (had.going going unmet).0 in
    let within = (had.going going unmet).1 in
    let whole = g.whole in
    let sum = had.sum going in
    let long : length had.bytes ≡ intake.blocks * size + length (seen intake.ahead) = ap (λ (l : List ℕ). length l) g.read ∙ length-append g.past (seen intake.ahead) ∙ omega arith in
    let grown = length-append had.bytes lost.0 in
    let some = lost.2 in
    (had.bytes ++ lost.0, Consumes-trans left now after had.bytes lost.0 had.consumed lost.1, omega arith)

-- how many blocks there may be, and their chunks
pub few_blocks : (each size block limit : ℕ) (left left' : Option (List ℕ)) (intake : Intake) → 0 < each → block ≡ each * size → 0 < block → block ≤ 1048576
    → limit + block ≤ 4294967296 * size + 1 → HasRead block limit left left' intake → intake.ended ≡ false → intake.over ≡ false
    → (intake.blocks < 4294967295) × (each * (intake.blocks + 1) ≤ 4294967295) × (intake.total < limit)
few_blocks each size block limit left left' intake one is some small most had going unmet =
    let g = (had.going going unmet).0 in
    let within = (had.going going unmet).1 in
    let whole = g.whole in
    let sum = had.sum going in
    let long : length had.bytes ≡ intake.blocks * block + length (seen intake.ahead) = ap (λ (l : List ℕ). length l) g.read ∙ length-append g.past (seen intake.ahead) ∙ omega arith in
    let numbers = fits intake.blocks (omega arith) g.behind in
    let fewer : 1 * (intake.blocks + 1) ≤ each * (intake.blocks + 1) = mul-le-mul_right (intake.blocks + 1) (omega arith) in
    (omega arith, numbers, omega arith)
  where
    narrow : (size : ℕ) → block ≡ each * size → 0 < block → each ≤ block
    narrow zero e more = absurd (omega (arith, e, more))
    narrow (suc n) e more = omega (arith, e)

    fits : (n : ℕ) → n * block + length (seen intake.ahead) < limit → (0 < n → length (seen intake.ahead) ≡ 1) → each * (n + 1) ≤ 4294967295
    fits zero less behind = let a = narrow size is some in omega arith
    fits (suc n) less behind =
        let more = behind (omega arith) in
        let product : suc n * block ≡ suc n * each * size = ap (λ (b : ℕ). suc n * b) is ∙ omega arith in
        let below : each * (suc n + 1) < 4294967296 = lt_of_mul-lt-mul_right size (omega (arith, product, more, less, most, is)) in
        omega (arith, below)
