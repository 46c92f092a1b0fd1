-- What is written of the blocks, one by one.
use Rattle.std.proofs.Common.{◌≡◌, ℕ, zero, suc, ◌+◌, ◌*◌, ◌<◌, Bool, true, false, List, [], ◌∷◌, ◌++◌, length, take}
use Rattle.std.proofs.Common.{Option, Some, None, IfSome, Result, Ok, Err, OnOk, OnErr, get_or, refl, sym, ap, ◌∙◌, subst, arith, append_assoc, append-nil, length-append, zero-mul}
use Rattle.std.proofs.KnownBytes.{Appends-nil, Appends-trans}
use Rattle.std.proofs.lemmas.List.{take_at}
use Rattle.container_core.specs.Chunks.{chunks}
use Rattle.container_core.specs.Container.{size_in}
use Rattle.container_core.specs.Stream.{stream, stream_by}
use Rattle.container_core.proofs.OpeningLemmas.{some_size}
use Rattle.container_core.proofs.RoundLemmas.{stream_by-chunks}
use Rattle.container_core.proofs.StreamLemmas.{stream_by-true}
use Rattle.io_core.specs.Streams.{Appends, AppendsFront, IsFront, LacksSome}
use Rattle.output_core.proofs.PartLemmas.{lacks_within}
use Rattle.sealing_core.specs.Order.{behind, chunks_so_far, front_at, AreWritten, Follows, HasBegun, IsCutOff}
use Rattle.sealing_core.specs.Pieces.{block, IsPart, StandsIn}
use Rattle.sealing_core.proofs.BlockLemmas.{pos_times}

-- chunks after n full blocks
blocks_next : (each : ℕ) (key header : List ℕ) (last : Bool) (xs ys : List ℕ) (n : ℕ) → 0 < size_in header → 0 < each
    → length xs ≡ n * block each header → 0 < n → 0 < length ys
    → stream_by key header 0 last (chunks (size_in header) (xs ++ ys))
    ≡ stream_by key header 0 false (chunks (size_in header) xs) ++ stream_by key header (each * n) last (chunks (size_in header) ys)
blocks_next each key header last xs ys n size one long some more =
    let s = size_in header in
    let whole : n * (each * s) ≡ each * n * s = omega arith in
    let e : 0 + each * n ≡ each * n = omega arith in
    stream_by-chunks key header s 0 last xs ys (each * n) size (long ∙ whole) (pos_times each n one some) more
    ∙ ap (λ (m : ℕ). stream_by key header 0 false (chunks s xs) ++ stream_by key header m last (chunks s ys)) e

-- what is written with one more block, by the number of those before
pub so_far_next : (each : ℕ) (front key header past text : List ℕ) (number : ℕ) (last : Bool) → 0 < size_in header → 0 < each
    → length past ≡ number * block each header → (0 < number → 0 < length text)
    → chunks_so_far front key header past ++ (front_at front number ++ stream_by key header (each * number) last (chunks (size_in header) text))
    ≡ front ++ stream_by key header 0 last (chunks (size_in header) (past ++ text))
so_far_next each front key header [] text zero last size one long some =
    let none : each * 0 ≡ 0 = omega arith in
    ap (λ (n : ℕ). front ++ stream_by key header n last (chunks (size_in header) text)) none
so_far_next each front key header [] text (suc n) last size one long some =
    let full = pos_times (suc n) (block each header) (omega arith) (pos_times each (size_in header) one size) in absurd (omega (arith, full, long))
so_far_next each front key header (x ∷ past) text zero last size one long some = absurd (omega (arith, long))
so_far_next each front key header (x ∷ past) text (suc n) last size one long some =
    let done = stream_by key header 0 false (chunks (size_in header) (x ∷ past)) in
    append_assoc front done (stream_by key header (each * suc n) last (chunks (size_in header) text))
    ∙ ap (λ (s : List ℕ). front ++ s) (sym (blocks_next each key header last (x ∷ past) text (suc n) size one long (omega arith) (some (omega arith))))

so_far_some : (front key header bytes : List ℕ) → 0 < length bytes
    → chunks_so_far front key header bytes ≡ front ++ stream_by key header 0 false (chunks (size_in header) bytes)
so_far_some front key header [] some = absurd (omega arith)
so_far_some front key header (x ∷ bytes) some = refl

-- what was written, and what follows in the whole
pub behind_part : (each : ℕ) (front key header past text : List ℕ) (number : ℕ) → 0 < size_in header → 0 < each
    → length past ≡ number * block each header → (0 < number → 0 < length text)
    → behind front key header (past ++ text)
    ≡ chunks_so_far front key header past ++ (front_at front number ++ stream_by key header (each * number) true (chunks (size_in header) text))
behind_part each front key header past text number size one long some =
    ap (λ (s : List ℕ). front ++ s) (sym (stream_by-true key header 0 (chunks (size_in header) (past ++ text))))
    ∙ sym (so_far_next each front key header past text number true size one long some)

pub behind_full : (each : ℕ) (front key header past text after : List ℕ) (number : ℕ) → 0 < size_in header → 0 < each
    → length past ≡ number * block each header → length text ≡ block each header → 0 < length after
    → behind front key header (past ++ (text ++ after))
    ≡ (chunks_so_far front key header past ++ (front_at front number ++ stream_by key header (each * number) false (chunks (size_in header) text)))
    ++ stream_by key header (each * (number + 1)) true (chunks (size_in header) after)
behind_full each front key header past text after number size one long full more =
    let all = length-append past text in
    let s = size_in header in
    let some = pos_times each s one size in
    let product : (number + 1) * (each * s) ≡ number * (each * s) + each * s = omega arith in
    let tail = stream_by key header (each * (number + 1)) true (chunks s after) in
    ap (λ (l : List ℕ). front ++ stream key header 0 (chunks s l)) (sym (append_assoc past text after))
    ∙ ap (λ (l : List ℕ). front ++ l) (sym (stream_by-true key header 0 (chunks s ((past ++ text) ++ after))))
    ∙ ap (λ (l : List ℕ). front ++ l) (blocks_next each key header true (past ++ text) after (number + 1) size one (omega arith) (omega arith) more)
    ∙ sym (append_assoc front (stream_by key header 0 false (chunks s (past ++ text))) tail)
    ∙ ap (λ (l : List ℕ). l ++ tail) (sym (so_far_next each front key header past text number false size one long (λ _. omega arith)))

-- two fronts of one length
same_past : (past rest before text after : List ℕ) (n : ℕ) → length past ≡ n → length before ≡ n → past ++ rest ≡ before ++ (text ++ after) → before ≡ past
same_past past rest before text after n a b e =
    sym (take_at before (text ++ after) n b) ∙ ap (take n) (sym e) ∙ take_at past rest n a

-- what follows a full block if the input is known; else it may be any byte
pub after_of : (size number : ℕ) (told : Option (List ℕ)) (past text : List ℕ) → length past ≡ number * size → IfSome told (Follows past)
    → IfSome told (λ input. StandsIn size input number false text)
    → (after : List ℕ) × (0 < length after) × IfSome told (λ input. input ≡ past ++ (text ++ after))
after_of size number None past text long of stands = (0 ∷ [], omega arith, tt)
after_of size number (Some input) past text long of stands = (
  stands.after,
  stands.more refl,
  stands.is ∙ ap (λ (l : List ℕ). l ++ (text ++ stands.after))
      (same_past past of.0 stands.before text stands.after (number * size) long stands.behind (sym of.1 ∙ stands.is)),
)

-- nothing follows the last
last_of : (size number : ℕ) (told : Option (List ℕ)) (past text : List ℕ) → length past ≡ number * size → IfSome told (Follows past)
    → IfSome told (λ input. StandsIn size input number true text) → IfSome told (λ input. input ≡ past ++ text)
last_of size number None past text long of stands = tt
last_of size number (Some input) past text long of stands =
    stands.is ∙ ap (λ (l : List ℕ). l ++ (text ++ stands.after))
    (same_past past of.0 stands.before text stands.after (number * size) long stands.behind (sym of.1 ∙ stands.is))
    ∙ ap (λ (l : List ℕ). past ++ (text ++ l)) (stands.end refl) ∙ ap (λ (l : List ℕ). past ++ l) (append-nil text)

-- what follows comes after both
follows_more : (told : Option (List ℕ)) (past text after : List ℕ) → 0 < length after → IfSome told (λ input. input ≡ past ++ (text ++ after))
    → IfSome told (Follows (past ++ text))
follows_more None past text after more is = tt
follows_more (Some input) past text after more is = (after, is ∙ sym (append_assoc past text after), λ _. more)

-- a front of what comes next was written, but not all
cut_of : (front key header plain done next tail : List ℕ) (told taken before after : Option (List ℕ)) → IfSome told (λ input. input ≡ plain)
    → behind front key header plain ≡ (done ++ next) ++ tail → Appends taken before done → AppendsFront before after next → LacksSome before after next
    → IsCutOff front key header told taken after
cut_of front key header plain done next tail told taken before after of whole grown begun lacks = (
  plain,
  of,
  (
    done ++ begun.0,
    (
      begun.1.0 ++ tail,
      whole ∙ ap (λ (l : List ℕ). (done ++ l) ++ tail) begun.1.1
          ∙ ap (λ (l : List ℕ). l ++ tail) (sym (append_assoc done begun.0 begun.1.0))
          ∙ append_assoc (done ++ begun.0) begun.1.0 tail,
    ),
    Appends-trans taken before after done begun.0 grown begun.2,
  ),
  subst (LacksSome taken after) (sym (whole ∙ append_assoc done next tail)) (lacks_within taken before after done next tail grown begun lacks),
)

-- one more full block is written
pub written_more : (each : ℕ) (front key header : List ℕ) (told taken before after : Option (List ℕ)) (number : ℕ) (bytes : List ℕ)
    → 0 < size_in header → 0 < each → IsPart each key header told number false bytes
    → AreWritten each front key header told taken before number → Appends before after (front_at front number ++ bytes)
    → AreWritten each front key header told taken after (number + 1)
written_more each front key header told taken before after number bytes size one part was now =
    let text = part.text in
    let full = part.chunk.full refl in
    let all = length-append was.past text in
    let s = size_in header in
    let some = pos_times each s one size in
    let product : (number + 1) * (each * s) ≡ number * (each * s) + each * s = omega arith in
    let long = was.long in
    let next = after_of (each * s) number told was.past text was.long was.of part.chunk.of in
    record {
      past = was.past ++ text;
      long = omega arith;
      of = follows_more told was.past text next.0 next.1 next.2;
      grown = subst (Appends taken after)
          (ap (λ (b : List ℕ). chunks_so_far front key header was.past ++ (front_at front number ++ b)) part.is
          ∙ so_far_next each front key header was.past text number false size one was.long (λ _. omega arith)
          ∙ sym (so_far_some front key header (was.past ++ text) (omega arith)))
          (Appends-trans taken before after _ _ was.grown now);
    }

-- a front of it, but not all
pub cut_more : (each : ℕ) (front key header : List ℕ) (told taken before after : Option (List ℕ)) (number : ℕ) (bytes : List ℕ)
    → 0 < size_in header → 0 < each → IsPart each key header told number false bytes
    → AreWritten each front key header told taken before number → AppendsFront before after (front_at front number ++ bytes)
    → LacksSome before after (front_at front number ++ bytes) → IsCutOff front key header told taken after
cut_more each front key header told taken before after number bytes size one part was now lacks =
    let text = part.text in
    let full = part.chunk.full refl in
    let s = size_in header in
    let next = after_of (each * s) number told was.past text was.long was.of part.chunk.of in
    cut_of front key header (was.past ++ (text ++ next.0)) _ (front_at front number ++ bytes) _ told taken before after next.2
    (behind_full each front key header was.past text next.0 number size one was.long full next.1
    ∙ ap (λ (b : List ℕ). (chunks_so_far front key header was.past ++ (front_at front number ++ b)) ++ stream_by key header (each * (number + 1)) true (chunks s next.0)) (sym part.is))
    was.grown now lacks

-- the last block is written, and with it all
pub written_last : (each : ℕ) (front key header : List ℕ) (told taken before after : Option (List ℕ)) (number : ℕ) (bytes : List ℕ)
    → 0 < size_in header → 0 < each → IsPart each key header told number true bytes
    → AreWritten each front key header told taken before number → Appends before after (front_at front number ++ bytes)
    → IfSome told (λ input. Appends taken after (behind front key header input))
written_last each front key header told taken before after number bytes size one part was now =
    all told (last_of (block each header) number told was.past part.text was.long was.of part.chunk.of)
  where
    whole : Appends taken after (behind front key header (was.past ++ part.text))
    whole = subst (Appends taken after)
        (ap (λ (b : List ℕ). chunks_so_far front key header was.past ++ (front_at front number ++ b)) part.is
        ∙ sym (behind_part each front key header was.past part.text number size one was.long part.chunk.some))
        (Appends-trans taken before after _ _ was.grown now)

    all : (told : Option (List ℕ)) → IfSome told (λ input. input ≡ was.past ++ part.text) → IfSome told (λ input. Appends taken after (behind front key header input))
    all None is = tt
    all (Some input) is = subst (λ (l : List ℕ). Appends taken after (behind front key header l)) (sym is) whole

-- a front of it, but not all
pub cut_last : (each : ℕ) (front key header : List ℕ) (told taken before after : Option (List ℕ)) (number : ℕ) (bytes : List ℕ)
    → 0 < size_in header → 0 < each → IsPart each key header told number true bytes
    → AreWritten each front key header told taken before number → AppendsFront before after (front_at front number ++ bytes)
    → LacksSome before after (front_at front number ++ bytes) → IsCutOff front key header told taken after
cut_last each front key header told taken before after number bytes size one part was now lacks =
    cut_of front key header (was.past ++ part.text) (chunks_so_far front key header was.past) (front_at front number ++ bytes) [] told taken before after
    (last_of (block each header) number told was.past part.text was.long was.of part.chunk.of)
    (behind_part each front key header was.past part.text number size one was.long part.chunk.some
    ∙ ap (λ (b : List ℕ). chunks_so_far front key header was.past ++ (front_at front number ++ b)) (sym part.is)
    ∙ sym (append-nil (chunks_so_far front key header was.past ++ (front_at front number ++ bytes))))
    was.grown now lacks

begun_tail : (each : ℕ) (front key header past rest : List ℕ) (number : ℕ) → 0 < size_in header → 0 < each → length past ≡ number * block each header
    → (0 < length past → 0 < length rest)
    → IsFront (chunks_so_far front key header past) (behind front key header (past ++ rest))
begun_tail each front key header [] rest number size one long more = (behind front key header rest, refl)
begun_tail each front key header (x ∷ past) rest zero size one long more = absurd (omega (arith, long))
begun_tail each front key header (x ∷ past) rest (suc n) size one long more =
    let done = stream_by key header 0 false (chunks (size_in header) (x ∷ past)) in
    let tail = stream_by key header (each * suc n) true (chunks (size_in header) rest) in (
      tail,
      ap (λ (s : List ℕ). front ++ s) (sym (stream_by-true key header 0 (chunks (size_in header) ((x ∷ past) ++ rest)))
          ∙ blocks_next each key header true (x ∷ past) rest (suc n) size one long (omega arith) (more (omega arith)))
          ∙ sym (append_assoc front done tail),
    )

-- a front is what was written
pub begun_now : (each : ℕ) (front key header : List ℕ) (told taken now : Option (List ℕ)) (number : ℕ) → 0 < size_in header → 0 < each
    → AreWritten each front key header told taken now number → HasBegun front key header told taken now
begun_now each front key header None taken now number size one was =
    let tail = begun_tail each front key header was.past (0 ∷ []) number size one was.long (λ _. omega arith) in
    (was.past ++ 0 ∷ [], tt, (chunks_so_far front key header was.past, tail, was.grown))
begun_now each front key header (Some input) taken now number size one was =
    let tail = begun_tail each front key header was.past was.of.0 number size one was.long was.of.2 in
    (was.past ++ was.of.0, was.of.1, (chunks_so_far front key header was.past, tail, was.grown))

-- nothing is written
pub begun_none : (front key header : List ℕ) (told taken : Option (List ℕ)) → HasBegun front key header told taken taken
begun_none front key header None taken = ([], tt, ([], (behind front key header [], refl), Appends-nil taken))
begun_none front key header (Some input) taken = (input, refl, ([], (behind front key header input, refl), Appends-nil taken))

pub written_none : (each : ℕ) (front key header : List ℕ) (told taken : Option (List ℕ)) → AreWritten each front key header told taken taken 0
written_none each front key header told taken = record { past = []; long = sym (zero-mul (block each header)); of = all told; grown = Appends-nil taken }
  where
    all : (told : Option (List ℕ)) → IfSome told (Follows [])
    all None = tt
    all (Some input) = (input, refl, λ some. absurd (omega arith))

-- the same of the piece whose turn it is
pub written_next : (each : ℕ) (front key header : List ℕ) (told taken before after : Option (List ℕ)) (number turn next : ℕ) (bytes text : List ℕ)
    → 0 < each → number ≡ turn → next ≡ turn + 1 → text ≡ bytes
    → IsPart each key header told number false bytes
    → AreWritten each front key header told taken before turn → Appends before after (front_at front number ++ text)
    → AreWritten each front key header told taken after next
written_next each front key header told taken before after number turn next bytes text one is more same part was now =
    subst (λ (n : ℕ). AreWritten each front key header told taken after n) (ap (λ (n : ℕ). n + 1) is ∙ sym more)
    (written_more each front key header told taken before after number bytes (some_size header) one part
    (subst (λ (n : ℕ). AreWritten each front key header told taken before n) (sym is) was)
    (subst (λ (b : List ℕ). Appends before after (front_at front number ++ b)) same now))

pub cut_next : (each : ℕ) (front key header : List ℕ) (told taken before after : Option (List ℕ)) (number turn : ℕ) (bytes text : List ℕ)
    → 0 < each → number ≡ turn → text ≡ bytes
    → IsPart each key header told number false bytes
    → AreWritten each front key header told taken before turn → AppendsFront before after (front_at front number ++ text)
    → LacksSome before after (front_at front number ++ text) → IsCutOff front key header told taken after
cut_next each front key header told taken before after number turn bytes text one is same part was now lacks =
    cut_more each front key header told taken before after number bytes (some_size header) one part
    (subst (λ (n : ℕ). AreWritten each front key header told taken before n) (sym is) was)
    (subst (λ (b : List ℕ). AppendsFront before after (front_at front number ++ b)) same now)
    (subst (λ (b : List ℕ). LacksSome before after (front_at front number ++ b)) same lacks)

pub front_first : (front : List ℕ) (number : ℕ) → number ≡ 0 → front_at front number ≡ front
front_first front zero none = refl
front_first front (suc n) none = absurd (omega (arith, none))

-- a front of the first of two
pub begun_before : (a b : Option (List ℕ)) (xs ys : List ℕ) → AppendsFront a b xs → AppendsFront a b (xs ++ ys)
begun_before a b xs ys begun = (begun.0, (begun.1.0 ++ ys, ap (λ (l : List ℕ). l ++ ys) begun.1.1 ∙ append_assoc begun.0 begun.1.0 ys), begun.2)

-- not all of the first of two
pub lacks_before : (a b : Option (List ℕ)) (xs ys : List ℕ) → AppendsFront a b xs → LacksSome a b xs → LacksSome a b (xs ++ ys)
lacks_before a b xs ys begun lacks = lacks_within a a b [] xs ys (Appends-nil a) begun lacks

-- the first, and not all of the second
pub lacks_behind : (a b c : Option (List ℕ)) (xs ys : List ℕ) → Appends a b xs → AppendsFront b c ys → LacksSome b c ys → LacksSome a c (xs ++ ys)
lacks_behind a b c xs ys before begun lacks =
    subst (λ (l : List ℕ). LacksSome a c (xs ++ l)) (append-nil ys) (lacks_within a b c xs ys [] before begun lacks)

-- the first, and a front of the second
pub begun_behind : (a b c : Option (List ℕ)) (xs ys : List ℕ) → Appends a b xs → AppendsFront b c ys → AppendsFront a c (xs ++ ys)
begun_behind a b c xs ys before begun = (
  xs ++ begun.0,
  (begun.1.0, ap (λ (l : List ℕ). xs ++ l) begun.1.1 ∙ sym (append_assoc xs begun.0 begun.1.0)),
  Appends-trans a b c xs begun.0 before begun.2,
)

pub on_err : {A E : Type 0} {P Q : Type 0} (r : Result A E) → (P → Q) → OnErr r P → OnErr r Q
on_err (Ok x) f p = tt
on_err (Err x) f p = f p

pub both_err : {A E : Type 0} {P Q R : Type 0} (r : Result A E) → (P → Q → R) → OnErr r P → OnErr r Q → OnErr r R
both_err (Ok x) f p q = tt
both_err (Err x) f p q = f p q

pub written_at : (each : ℕ) (front key header : List ℕ) (told taken now : Option (List ℕ)) (m n : ℕ) → n ≡ m → AreWritten each front key header told taken now m
    → AreWritten each front key header told taken now n
written_at each front key header told taken now m n e was = rw e was

on_ok : {A E : Type 0} {P Q : Type 0} (r : Result A E) → (P → Q) → OnOk r P → OnOk r Q
on_ok (Ok x) f p = f p
on_ok (Err x) f p = tt

-- the same of a job that was sealed and written at once
pub written_job : (each : ℕ) {A E : Type 0} (r : Result A E) (front front' key header : List ℕ) (told taken before after : Option (List ℕ)) (number turn : ℕ)
    (bytes text : List ℕ) → 0 < each → front' ≡ front → number ≡ turn → text ≡ bytes → IsPart each key header told number false bytes
    → AreWritten each front key header told taken before turn → OnOk r (Appends before after (front_at front' number ++ text))
    → OnOk r (AreWritten each front key header told taken after (turn + 1))
written_job each r front front' key header told taken before after number turn bytes text one e is same part was now =
    on_ok r (λ grown. written_next each front key header told taken before after number turn (turn + 1) bytes text one is refl same part was
    (subst (λ (l : List ℕ). Appends before after (front_at l number ++ text)) e grown)) now

pub cut_job : (each : ℕ) {A E : Type 0} (r : Result A E) (front front' key header : List ℕ) (told taken before after : Option (List ℕ)) (number turn : ℕ)
    (bytes text : List ℕ) → 0 < each → front' ≡ front → number ≡ turn → text ≡ bytes → IsPart each key header told number false bytes
    → AreWritten each front key header told taken before turn → OnErr r (AppendsFront before after (front_at front' number ++ text))
    → OnErr r (LacksSome before after (front_at front' number ++ text)) → OnErr r (IsCutOff front key header told taken after)
cut_job each r front front' key header told taken before after number turn bytes text one e is same part was now lacks =
    both_err r (λ begun short. cut_next each front key header told taken before after number turn bytes text one is same part was
    (subst (λ (l : List ℕ). AppendsFront before after (front_at l number ++ text)) e begun)
    (subst (λ (l : List ℕ). LacksSome before after (front_at l number ++ text)) e short)) now lacks

pub same_number : (m n : ℕ) → m ∷ [] ≡ n ∷ [] → m ≡ n
same_number m n e = ap (λ (l : List ℕ). get_or l 0 0) e
