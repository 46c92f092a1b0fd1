-- Opening in rounds: what opened so far, and the current round.
use Rattle.std.proofs.Common.{◌≡◌, ℕ, zero, suc, ◌+◌, ◌-◌, ◌*◌, ◌<◌, ◌≤◌, ◌⊎◌, inl, inr, true, List, [], ◌∷◌, ◌++◌}
use Rattle.std.proofs.Common.{length, take, get_or, Option, Some, None, Result, Ok, Err, IfSome, IfOk, refl, ap, sym, subst, ◌∙◌}
use lib.Seq.{take-suc}
use Rattle.std.proofs.Common.{arith, zero-mul, append_assoc, length-append, length-take-le}
use Rattle.std.proofs.lemmas.Bool.{cases_lt}
use Rattle.std.proofs.lemmas.List.{take_at, take_all}
use Rattle.std.proofs.lemmas.Result.{IfOk-weaker}
use Rattle.std.proofs.Math.Nat.{mul-le-mul_right}
use Rattle.std.proofs.KnownBytes.{Consumes-trans}
use Rattle.io_core.specs.Streams.{Appends, Consumes}
use Rattle.container_core.specs.declared.fault.OpenFault.{OpenFault}
use Rattle.container_core.specs.declared.fault.OpenFault.TheVariants.{TooLong, BadLength}
use Rattle.container_core.specs.Chunks.{sealed_chunks, body_length, chunk_count, container_length, container_limit, most_of}
use Rattle.container_core.specs.Container.{header_length, size_in}
use Rattle.container_core.specs.Cutting.{RefusesCut}
use Rattle.container_core.specs.Views.{CutView}
use Rattle.container_core.specs.Opening.{unsealed, unsealed_by, behind, unless, first_fault, early_fault, longest, opening}
use Rattle.container_core.proofs.OpeningLemmas.{behind-behind, behind-nil}
use Rattle.container_core.proofs.PartsLemmas.{body-count, container_length-grows, container_length-more, count-enough, count-numbers}
use Rattle.container_core.proofs.PartsLemmas.{most_of-chunks}
use Rattle.container_core.proofs.PartsLemmas.{count-more, count-one, count-some, count-tight, count-whole}
use Rattle.worker_core.specs.declared.round.Task.{Task}
use Rattle.worker_core.specs.declared.round.Task.TheVariants.{Sealing, Opening, Checking}
use Rattle.worker_core.specs.Parts.{body_bytes}
use Rattle.worker_core.specs.Values.{parts_of}
use Rattle.opening_core.specs.Engine.{OpensTo}
use Rattle.opening_core.specs.Fronts.{SaysLength, ReadsOn, IsNamed, Answers}
use Rattle.opening_core.proofs.FrontLemmas.{input-answers}
use Rattle.opening_core.proofs.AnswerLemmas.{answers-body, opening-body}

-- however a body goes on after the rounds that opened, it opens to their plaintext, then as the rest does
unfoldable pub OpensBehind : List ℕ → List ℕ → ℕ → List ℕ → List ℕ → Type 0
OpensBehind key header first past plain = (rest : List ℕ) → 0 < length rest
    → unsealed_by key header 0 true (sealed_chunks (size_in header) (past ++ rest))
    ≡ behind plain (unsealed_by key header first true (sealed_chunks (size_in header) rest))

-- the law of rounds at a round that opens
abbrev pub Splits : List ℕ → List ℕ → ℕ → ℕ → List ℕ → List ℕ → Type 0
Splits key header first window bytes plain = (rest : List ℕ) → 0 < length rest
    → unsealed_by key header first true (sealed_chunks (size_in header) (bytes ++ rest))
    ≡ behind plain (unsealed_by key header (first + window) true (sealed_chunks (size_in header) rest))

-- and at one that doesn't
abbrev pub Refuses : List ℕ → List ℕ → ℕ → List ℕ → OpenFault → Type 0
Refuses key header first bytes fault = (rest : List ℕ) → 0 < length rest
    → unsealed_by key header first true (sealed_chunks (size_in header) (bytes ++ rest)) ≡ Err fault

pub opens-begin : (key header : List ℕ) → OpensBehind key header 0 [] []
unfolding OpensBehind
opens-begin key header rest some = sym (behind-nil (unsealed_by key header 0 true (sealed_chunks (size_in header) rest)))

-- one more round opened
pub opens-round : (key header : List ℕ) (first window : ℕ) (past plain bytes opened : List ℕ)
    → Splits key header first window bytes opened → OpensBehind key header first past plain
    → OpensBehind key header (first + window) (past ++ bytes) (plain ++ opened)
unfolding OpensBehind
opens-round key header first window past plain bytes opened splits before rest some =
    let long = length-append bytes rest in
    ap (λ (b : List ℕ). unsealed_by key header 0 true (sealed_chunks (size_in header) b)) (append_assoc past bytes rest)
    ∙ before (bytes ++ rest) (omega arith)
    ∙ ap (λ (r : Result (List ℕ) OpenFault). behind plain r) (splits rest some)
    ∙ behind-behind plain opened (unsealed_by key header (first + window) true (sealed_chunks (size_in header) rest))

-- one more round was refused: so is the whole, however it goes on
pub opens-refused : (key header : List ℕ) (first : ℕ) (past plain bytes : List ℕ) (fault : OpenFault)
    → Refuses key header first bytes fault → OpensBehind key header first past plain
    → Refuses key header 0 (past ++ bytes) fault
unfolding OpensBehind
opens-refused key header first past plain bytes fault refuses before rest some =
    let long = length-append bytes rest in
    ap (λ (b : List ℕ). unsealed_by key header 0 true (sealed_chunks (size_in header) b)) (append_assoc past bytes rest)
    ∙ before (bytes ++ rest) (omega arith)
    ∙ ap (λ (r : Result (List ℕ) OpenFault). behind plain r) (refuses rest some)

-- the last round
pub opens-last : (key header : List ℕ) (first : ℕ) (past plain held : List ℕ) (answer : Result (List ℕ) OpenFault)
    → 0 < length held → unsealed_by key header first true (sealed_chunks (size_in header) held) ≡ answer
    → OpensBehind key header first past plain
    → unsealed_by key header 0 true (sealed_chunks (size_in header) (past ++ held)) ≡ behind plain answer
unfolding OpensBehind
opens-last key header first past plain held answer some is before = before held some ∙ ap (λ (r : Result (List ℕ) OpenFault). behind plain r) is

unless-named : (early : Option OpenFault) (later fault : OpenFault) (answer : Result (List ℕ) OpenFault)
    → first_fault early (Some later) ≡ Some fault → answer ≡ Err later → unless early answer ≡ Err fault
unless-named None later fault answer named is = cc
unless-named (Some early) later fault answer named is = cc

-- a container whose chunks have a fault
pub opening-named : (key header body : List ℕ) (most bytes : ℕ) (later fault : OpenFault) → header_length header ≡ length header
    → ((pieces : List (List ℕ)) → unsealed_by key header 0 true pieces ≡ unsealed key header 0 pieces)
    → bytes ≡ length header + length body → IsNamed key most header bytes later fault
    → unsealed_by key header 0 true (sealed_chunks (size_in header) body) ≡ Err later
    → opening key most (header ++ body) ≡ Err fault
opening-named key header body most bytes later fault long whole count named is =
    let all : length (header ++ body) ≡ bytes = length-append header body ∙ sym count in
    opening-body key header body most long
    ∙ unless-named (early_fault key most (header ++ body)) later fault (unsealed key header 0 (sealed_chunks (size_in header) body))
    (named (header ++ body) all (take_at header body (length header) refl))
    (sym (whole (sealed_chunks (size_in header) body)) ∙ is)

-- a full round of a body
body-full_round : (size chunks : ℕ) → 0 < size → 0 < chunks → chunks * (size + 16) ≡ body_length size (chunks * size)
body-full_round size chunks some many =
    let count = count-whole size chunks some many in
    let long = body-count size (chunks * size) in
    omega (arith, count, long)

pub body-round : (task : Task) (size chunks : ℕ) (held : List ℕ) → (task ≡ Sealing → ⊥) → 0 < size → 0 < chunks
    → chunks * (size + 16) ≤ length held
    → length (take (chunks * (size + 16)) held) ≡ body_bytes task size (chunks * size)
body-round Sealing size chunks held not some many full = absurd (not refl)
body-round Opening size chunks held not some many full = length-take-le (chunks * (size + 16)) held full ∙ body-full_round size chunks some many
body-round Checking size chunks held not some many full = length-take-le (chunks * (size + 16)) held full ∙ body-full_round size chunks some many

-- its pieces, by their number
pub count-round : (task : Task) (size chunks : ℕ) (body : List ℕ) → (task ≡ Sealing → ⊥) → length body ≡ chunks * (size + 16) → 0 < chunks
    → (length body ≡ chunks * (size + 16) → 0 < chunks → length (sealed_chunks size body) ≡ chunks)
    → length (parts_of task size body) ≡ chunks
count-round Sealing size chunks body not full some count = absurd (not refl)
count-round Opening size chunks body not full some count = count full some
count-round Checking size chunks body not full some count = count full some

-- ---- the cut of the last round

body-same : (size m n : ℕ) → 0 < size → body_length size m ≡ body_length size n → m ≡ n
body-same size m n some same =
    let less = container_length-grows 0 size n m some (omega (arith, same)) in
    let more = container_length-grows 0 size m n some (omega (arith, same)) in
    omega (arith, less, more)

pub cut-same : (cut : CutView) (size plain body : ℕ) → 0 < size → cut.size ≡ size → body ≡ body_length size plain
    → body ≡ body_length cut.size cut.plain → chunk_count cut.size cut.plain ≡ chunk_count size plain
cut-same cut size plain body some sized is cut_is =
    let other : body_length size cut.plain ≡ body_length size plain =
    ap (λ (s : ℕ). body_length s cut.plain) (sym sized) ∙ sym cut_is ∙ is in
    ap (λ (s : ℕ). chunk_count s cut.plain) sized ∙ ap (chunk_count size) (body-same size cut.plain plain some other)

-- what has a plaintext's length can be cut
pub no-refusal : (size body plain : ℕ) (fault : OpenFault) → 0 < size → body ≡ body_length size plain → plain ≤ 4294967295 * size
    → RefusesCut size body fault → ⊥
no-refusal size body plain TooLong some is few refused =
    let more = container_length-more 0 size plain (4294967295 * size) some few in
    absurd (omega (arith, more, is, refused))
no-refusal size body plain BadLength some is few refused = refused.1 plain is
no-refusal size body plain _ some is few refused = absurd refused

-- as many pieces as it has chunks
pub count-last : (task : Task) (size : ℕ) (body : List ℕ) (n : ℕ) → (task ≡ Sealing → ⊥)
    → length (sealed_chunks size body) ≡ chunk_count size n → length (parts_of task size body) ≡ chunk_count size n
count-last Sealing size body n not count = absurd (not refl)
count-last Opening size body n not count = count
count-last Checking size body n not count = count

-- and there is room for them where there is room for its bytes
pub count-room : (size n room : ℕ) → 0 < size → body_length size n ≤ room * (size + 16) → chunk_count size n ≤ room
count-room size n room some enough =
    let count = chunk_count size n in
    let long = body-count size n in
    elim (cases_lt room count) [
      | inl over ↦
          let most : room * (size + 16) ≤ (count - 1) * (size + 16) = mul-le-mul_right (size + 16) (omega (arith, over)) in
          elim (cases_lt 0 n) [
            | inl any ↦
                let tight = count-tight size n any in
                absurd (omega (arith, long, most, tight, enough, over))
            | inr none ↦
                let one = count-one size n some (omega (arith, none)) in
                let zeros : (count - 1) * (size + 16) ≡ 0 = ap (λ k. k * (size + 16)) (omega (arith, one)) ∙ zero-mul (size + 16) in
                absurd (omega (arith, long, most, one, zeros, enough))
          ]
      | inr within ↦ within
    ]

-- how many chunks the rounds have within the longest container, the current one too where a byte was seen after it
pub first-few : (size header most first window held : ℕ) → 4096 ≤ size → window * (size + 16) < held
    → header + (first * (size + 16) + held) ≤ container_limit header size most + 1 → first + window ≤ 4294967295
first-few size header most first window held least full within =
    let long = body-count size (most_of most size) in
    let chunks = most_of-chunks most size in
    let count = count-numbers size (most_of most size) (omega (arith, least)) chunks in
    elim (cases_lt 4294967295 (first + window)) [
      | inl over ↦
          let many : 4294967296 * (size + 16) ≤ (first + window) * (size + 16) = mul-le-mul_right (size + 16) (omega (arith, over)) in
          absurd (omega (arith, long, chunks, count, many, full, within))
      | inr few ↦ few
    ]

-- ---- one round more

-- the bytes of a full round, and the one that was seen after it
pub ahead-of : (held : List ℕ) (size : ℕ) → length held ≡ size + 1 → held ≡ take size held ++ get_or held size 0 ∷ []
ahead-of held size long =
    let next : length held ≡ suc size = omega arith in
    sym (take_all (length held) held (omega arith)) ∙ ap (λ (n : ℕ). take n held) next ∙ take-suc held size 0 (omega arith)

-- what was read is the rounds that are done, and the current one
pub consumed-next : (a b c : Option (List ℕ)) (past held bytes read next : List ℕ) (ahead : ℕ) → held ≡ bytes ++ ahead ∷ []
    → next ≡ ahead ∷ read → Consumes a b (past ++ held) → Consumes b c read → Consumes a c ((past ++ bytes) ++ next)
consumed-next a b c past held bytes read next ahead split is before more =
    let all : (past ++ held) ++ read ≡ (past ++ bytes) ++ next =
    ap (λ (h : List ℕ). (past ++ h) ++ read) split
    ∙ append_assoc past (bytes ++ ahead ∷ []) read
    ∙ ap (λ (l : List ℕ). past ++ l) (append_assoc bytes (ahead ∷ []) read)
    ∙ sym (append_assoc past bytes (ahead ∷ read))
    ∙ ap (λ (n : List ℕ). (past ++ bytes) ++ n) (sym is) in
    subst (Consumes a c) all (Consumes-trans a b c (past ++ held) read before more)

-- a round was refused, and the rest was read and dropped
pub answers-refused : (key header : List ℕ) (most first total : ℕ) (a b c : Option (List ℕ)) (past plain bytes held read : List ℕ)
    (later fault : OpenFault) → header_length header ≡ length header
    → ((pieces : List (List ℕ)) → unsealed_by key header 0 true pieces ≡ unsealed key header 0 pieces)
    → Refuses key header first bytes later → OpensBehind key header first past plain
    → Consumes a b ((past ++ bytes) ++ held) → 0 < length held → total ≡ length header + length ((past ++ bytes) ++ held)
    → ReadsOn (longest most header + 1) total b c read → IsNamed key most header (total + length read) later fault
    → Answers key header most a c (Err fault)
answers-refused key header most first total a b c past plain bytes held read later fault long whole refuses before consumed some count reads named =
    let done = (past ++ bytes) ++ held in
    let all = length-append done read in
    let more = length-append held read in
    record {
      read = done ++ read;
      reads = record {
        consumed = Consumes-trans a b c done read consumed reads.consumed;
        within = omega (arith, all, count, reads.within);
        end = λ below. reads.end (omega (arith, all, count, below));
      };
      opens = opening-named key header (done ++ read) most (total + length read) later fault long whole (omega (arith, all, count)) named
          (ap (λ (l : List ℕ). unsealed_by key header 0 true (sealed_chunks (size_in header) l)) (append_assoc (past ++ bytes) held read)
          ∙ opens-refused key header first past plain bytes later refuses before (held ++ read) (omega (arith, more, some)));
    }

-- ---- the last round

-- it has what the rounds before it leave of the container's body
rounds-before : (size cut first held : ℕ) → 0 < size → body_length size cut ≡ first * (size + 16) + held → 0 < held
    → (cut ≡ 0 × first ≡ 0) ⊎ (first * size < cut)
rounds-before size cut first held some is more =
    let count = chunk_count size cut in
    let long = body-count size cut in
    let enough = count-enough size cut some in
    elim (cases_lt first count) [
      | inl fewer ↦
          elim (cases_lt 0 cut) [
            | inl any ↦
                let tight = count-tight size cut any in
                let below : first * size ≤ (count - 1) * size = mul-le-mul_right size (omega (arith, fewer)) in
                inr (omega (arith, tight, below))
            | inr none ↦
                let one = count-one size cut some (omega (arith, none)) in
                inl (omega (arith, none), omega (arith, one, fewer))
          ]
      | inr over ↦
          let most : count * (size + 16) ≤ first * (size + 16) = mul-le-mul_right (size + 16) over in
          absurd (omega (arith, long, enough, most, is, more))
    ]

pub body-rest : (size cut first held : ℕ) → 0 < size → body_length size cut ≡ first * (size + 16) + held → 0 < held
    → (held ≡ body_length size (cut - first * size)) × (first + chunk_count size (cut - first * size) ≡ chunk_count size cut)
body-rest size cut first held some is more =
    let long = body-count size cut in
    let rest = body-count size (cut - first * size) in
    elim (rounds-before size cut first held some is more) [
      | inl none ↦
          let nothing : first * size ≡ 0 = ap (λ n. n * size) none.1 ∙ zero-mul size in
          let same : cut - first * size ≡ cut = omega (arith, nothing) in
          let counts = ap (chunk_count size) same in
          let gone : first * (size + 16) ≡ 0 = ap (λ n. n * (size + 16)) none.1 ∙ zero-mul (size + 16) in
          (omega (arith, long, rest, counts, same, gone, is), omega (arith, counts, none.1))
      | inr below ↦
          let parted : first * size + (cut - first * size) ≡ cut = omega (arith, below) in
          let counts : chunk_count size cut ≡ first + chunk_count size (cut - first * size) =
          ap (chunk_count size) (sym parted) ∙ count-more size first (cut - first * size) some (omega (arith, below)) in
          (omega (arith, long, rest, counts, is, below), sym counts)
    ]

-- the cut of a container under its header
pub cut-under : (key header image : List ℕ) (total : ℕ) (cut : CutView) → SaysLength key header → image ≡ header
    → total ≡ container_length (header_length image) cut.size cut.plain → cut.size ≡ size_in image
    → total ≡ container_length (length header) (size_in header) cut.plain
cut-under key header image total cut says same is sized =
    is
    ∙ ap (λ (l : List ℕ). container_length (header_length l) cut.size cut.plain) same
    ∙ ap (λ (h : ℕ). container_length h cut.size cut.plain) says.whole
    ∙ ap (λ (s : ℕ). container_length (length header) s cut.plain) (sized ∙ ap size_in same)

-- the length of its container has no fault, so the answer is that of the chunks
pub answers-last : (key header : List ℕ) (most first total : ℕ) (a b : Option (List ℕ)) (past plain held : List ℕ)
    (answer : Result (List ℕ) OpenFault) → SaysLength key header
    → ((pieces : List (List ℕ)) → unsealed_by key header 0 true pieces ≡ unsealed key header 0 pieces)
    → OpensBehind key header first past plain → ReadsOn (longest most header + 1) (length header) a b (past ++ held)
    → 0 < length held → total ≡ length header + length (past ++ held)
    → ((all : List ℕ) → length all ≡ total → take (length header) all ≡ header → early_fault key most all ≡ None)
    → unsealed_by key header first true (sealed_chunks (size_in header) held) ≡ answer
    → Answers key header most a b (behind plain answer)
answers-last key header most first total a b past plain held answer says whole before reads some count none is =
    answers-body key header most total a b (past ++ held) (behind plain answer) says reads count none
    (sym (whole (sealed_chunks (size_in header) (past ++ held))) ∙ opens-last key header first past plain held answer some is before)

-- a container's body has some bytes, and so has what is left of it once a byte was seen after each round
pub some-left : (size total header cut first held : ℕ) → total ≡ header + (first * (size + 16) + held)
    → total ≡ container_length header size cut → (0 < first → 0 < held) → 0 < held
some-left size total header cut zero held is long some =
    let all = body-count size cut in
    let one = count-some size cut in
    let none = zero-mul (size + 16) in
    omega (arith, all, one, none, is, long)
some-left size total header cut (suc n) held is long some = some (omega arith)

-- ---- what opening in rounds returns

-- what opening a container's body returns
abbrev pub Opened : Task → List ℕ → List ℕ → ℕ → Option (List ℕ) → Option (List ℕ) → Option (List ℕ) → Option (List ℕ) → ℕ → Type 0
Opened task key header most left left' taken taken' n = (plain : List ℕ) × (n ≡ length plain) × Answers key header most left left' (Ok plain)
    × (task ≡ Opening → Appends taken taken' plain)

if_some : (o : Option (List ℕ)) (P Q : List ℕ → Type 0) → ((x : List ℕ) → P x → Q x) → IfSome o P → IfSome o Q
if_some None P Q weaker p = tt
if_some (Some x) P Q weaker p = weaker x p

pub rounds-length : (task : Task) (key header : List ℕ) (most : ℕ) (left left' left'' taken taken' : Option (List ℕ))
    (result : Result ℕ OpenFault) → SaysLength key header → Consumes left left' header
    → IfOk result (Opened task key header most left' left'' taken taken')
    → IfOk result (λ n. IfSome left (λ input. OpensTo key most input n))
rounds-length task key header most left left' left'' taken taken' result says first opened =
    IfOk-weaker result _ _ (λ n o. opens_to o.0 n o.1 (input-answers key header most left left' left'' (Ok o.0) says first o.2)) opened
  where
    opens_to : (plain : List ℕ) (n : ℕ) → n ≡ length plain → IfSome left (λ input. opening key most input ≡ Ok plain)
        → IfSome left (λ input. OpensTo key most input n)
    opens_to plain n is opens = if_some left _ _ (λ input e. (plain, e, is)) opens
