-- Consecutive rounds are one round, sealed and opened.
use Rattle.std.proofs.Common.{◌≡◌, ℕ, zero, suc, ◌+◌, ◌-◌, ◌*◌, ◌/◌, ◌<◌, Bool, true, false, ◌&&◌, List, [], ◌∷◌}
use Rattle.std.proofs.Common.{◌++◌, length, take, drop, Option, Some, None, Result, Ok, Err, refl, ap, sym, ◌∙◌, arith}
use Rattle.std.proofs.Common.{append_assoc, length-append, take-append-drop}
use Rattle.std.proofs.Math.Bool.{and-true}
use Rattle.container_core.specs.declared.fault.OpenFault.{OpenFault}
use Rattle.container_core.specs.declared.fault.OpenFault.TheVariants.{Forged}
use Rattle.container_core.specs.Chunks.{parts, cut_every, chunks, sealed_chunks, body_length}
use Rattle.container_core.specs.Stream.{is_nil, sealed_chunk, opened_chunk, stream_by}
use Rattle.container_core.specs.Opening.{unsealed, unsealed_by, joined, behind}
use Rattle.container_core.proofs.PartsLemmas.{chunks-append, sealed_chunks-append, length-whole_chunks}
use Rattle.container_core.proofs.PartsLemmas.{length-whole_sealed_chunks, is_nil-chunks, is_nil-sealed_chunks}
use Rattle.container_core.proofs.PartsLemmas.{body_count, body-full}
use Rattle.container_core.proofs.StreamLemmas.{length-stream_by, length-opened_chunk, parted}
use Rattle.container_core.proofs.OpeningLemmas.{behind-behind, behind-nil, joined-some}

pub is_nil-some : (cs : List (List ℕ)) → 0 < length cs → is_nil cs ≡ false
is_nil-some [] some = absurd (omega arith)
is_nil-some (c ∷ cs) some = refl

-- the last chunk of a front isn't the last of all
not_last : (xs ys : List (List ℕ)) (last : Bool) → is_nil ys ≡ false
    → (is_nil (xs ++ ys) && last) ≡ (is_nil xs && false)
not_last [] ys last more = rw more refl
not_last (x ∷ xs) ys last more = refl

pub stream_by-append : (key header : List ℕ) (number : ℕ) (last : Bool) (xs ys : List (List ℕ)) → is_nil ys ≡ false
    → stream_by key header number last (xs ++ ys)
    ≡ stream_by key header number false xs ++ stream_by key header (number + length xs) last ys
unfolding stream_by
stream_by-append key header number last [] ys more =
    let n : number ≡ number + length {A = List ℕ} [] = omega arith in
    ap (λ (m : ℕ). stream_by key header m last ys) n
stream_by-append key header number last (x ∷ xs) ys more =
    let n : number + 1 + length xs ≡ number + length (x ∷ xs) = omega arith in
    let one = sealed_chunk key header number (is_nil xs && false) x in
    let front = stream_by key header (number + 1) false xs in
    ap (λ (b : Bool). sealed_chunk key header number b x ++ stream_by key header (number + 1) last (xs ++ ys))
    (not_last xs ys last more)
    ∙ ap (λ (s : List ℕ). one ++ s) (stream_by-append key header (number + 1) last xs ys more)
    ∙ sym (append_assoc one front (stream_by key header (number + 1 + length xs) last ys))
    ∙ ap (λ (m : ℕ). (one ++ front) ++ stream_by key header m last ys) n

pub stream_by-chunks : (key header : List ℕ) (size number : ℕ) (last : Bool) (xs ys : List ℕ) (k : ℕ)
    → 0 < size → length xs ≡ k * size → 0 < k → 0 < length ys
    → stream_by key header number last (chunks size (xs ++ ys))
    ≡ stream_by key header number false (chunks size xs) ++ stream_by key header (number + k) last (chunks size ys)
stream_by-chunks key header size number last xs ys k full is some more =
    let front = stream_by key header number false (chunks size xs) in
    ap (λ (cs : List (List ℕ)). stream_by key header number last cs) (chunks-append size xs ys k full is some more)
    ∙ stream_by-append key header number last (chunks size xs) (chunks size ys) (is_nil-chunks size ys)
    ∙ ap (λ (n : ℕ). front ++ stream_by key header (number + n) last (chunks size ys)) (length-whole_chunks size xs k full is some)

pub length-round : (key header : List ℕ) (size number : ℕ) (last : Bool) (plain : List ℕ) → 0 < size
    → length (stream_by key header number last (chunks size plain)) ≡ body_length size (length plain)
unfolding chunks cut_every
length-round key header size number last plain some =
    length-stream_by size key header number last ((length plain - 1) / size) plain ∙ sym (body-full size (length plain))

pub unsealed_by-true : (key header : List ℕ) (number : ℕ) (cs : List (List ℕ))
    → unsealed_by key header number true cs ≡ unsealed key header number cs
unfolding unsealed_by unsealed
unsealed_by-true key header number [] = refl
unsealed_by-true key header number (c ∷ cs) =
    let rest = unsealed_by key header (number + 1) true cs in
    let one = opened_chunk key header number (is_nil cs) c in
    ap (λ (b : Bool). joined (Forged number) (opened_chunk key header number b c) rest) (and-true (is_nil cs))
    ∙ ap (λ (r : Result (List ℕ) OpenFault). joined (Forged number) one r)
    (unsealed_by-true key header (number + 1) cs)

-- the second result after the first, unless that is a fault
abbrev followed : Result (List ℕ) OpenFault → Result (List ℕ) OpenFault → Result (List ℕ) OpenFault
followed (Ok front) rest = behind front rest
followed (Err fault) rest = Err fault

joined-followed : (forged : OpenFault) (o : Option (List ℕ)) (a r : Result (List ℕ) OpenFault)
    → joined forged o (followed a r) ≡ followed (joined forged o a) r
joined-followed forged None a r = refl
joined-followed forged (Some chunk) (Ok front) r =
    joined-some forged chunk (behind front r) ∙ behind-behind chunk front r
joined-followed forged (Some chunk) (Err fault) r = refl

unsealed_by-append : (key header : List ℕ) (number : ℕ) (last : Bool) (xs ys : List (List ℕ)) → is_nil ys ≡ false
    → unsealed_by key header number last (xs ++ ys)
    ≡ followed (unsealed_by key header number false xs) (unsealed_by key header (number + length xs) last ys)
unfolding unsealed_by
unsealed_by-append key header number last [] ys more =
    let n : number ≡ number + length {A = List ℕ} [] = omega arith in
    ap (λ (m : ℕ). unsealed_by key header m last ys) n
    ∙ sym (behind-nil (unsealed_by key header (number + length {A = List ℕ} []) last ys))
unsealed_by-append key header number last (x ∷ xs) ys more =
    let n : number + 1 + length xs ≡ number + length (x ∷ xs) = omega arith in
    let one = opened_chunk key header number (is_nil xs && false) x in
    let front = unsealed_by key header (number + 1) false xs in
    let all = unsealed_by key header (number + 1) last (xs ++ ys) in
    ap (λ (b : Bool). joined (Forged number) (opened_chunk key header number b x) all) (not_last xs ys last more)
    ∙ ap (λ (r : Result (List ℕ) OpenFault). joined (Forged number) one r)
    (unsealed_by-append key header (number + 1) last xs ys more)
    ∙ joined-followed (Forged number) one front (unsealed_by key header (number + 1 + length xs) last ys)
    ∙ ap (λ (m : ℕ). followed (joined (Forged number) one front) (unsealed_by key header m last ys)) n

unsealed_by-chunks : (key header : List ℕ) (size number : ℕ) (last : Bool) (xs ys : List ℕ) (k : ℕ)
    → length xs ≡ k * (size + 16) → 0 < k → 0 < length ys
    → unsealed_by key header number last (sealed_chunks size (xs ++ ys))
    ≡ followed (unsealed_by key header number false (sealed_chunks size xs))
    (unsealed_by key header (number + k) last (sealed_chunks size ys))
unsealed_by-chunks key header size number last xs ys k is some more =
    let front = unsealed_by key header number false (sealed_chunks size xs) in
    ap (λ (cs : List (List ℕ)). unsealed_by key header number last cs) (sealed_chunks-append size xs ys k is some more)
    ∙ unsealed_by-append key header number last (sealed_chunks size xs) (sealed_chunks size ys) (is_nil-sealed_chunks size ys)
    ∙ ap (λ (n : ℕ). followed front (unsealed_by key header (number + n) last (sealed_chunks size ys)))
    (length-whole_sealed_chunks size xs k is some)

pub unsealed_by-opened : (key header : List ℕ) (size number : ℕ) (last : Bool) (xs ys plain : List ℕ) (k : ℕ)
    → length xs ≡ k * (size + 16) → 0 < k → 0 < length ys
    → unsealed_by key header number false (sealed_chunks size xs) ≡ Ok plain
    → unsealed_by key header number last (sealed_chunks size (xs ++ ys))
    ≡ behind plain (unsealed_by key header (number + k) last (sealed_chunks size ys))
unsealed_by-opened key header size number last xs ys plain k is some more opens =
    let rest = unsealed_by key header (number + k) last (sealed_chunks size ys) in
    unsealed_by-chunks key header size number last xs ys k is some more
    ∙ ap (λ (r : Result (List ℕ) OpenFault). followed r rest) opens

pub unsealed_by-refused : (key header : List ℕ) (size number : ℕ) (last : Bool) (xs ys : List ℕ) (k : ℕ)
    (fault : OpenFault) → length xs ≡ k * (size + 16) → 0 < k → 0 < length ys
    → unsealed_by key header number false (sealed_chunks size xs) ≡ Err fault
    → unsealed_by key header number last (sealed_chunks size (xs ++ ys)) ≡ Err fault
unsealed_by-refused key header size number last xs ys k fault is some more fails =
    let rest = unsealed_by key header (number + k) last (sealed_chunks size ys) in
    unsealed_by-chunks key header size number last xs ys k is some more
    ∙ ap (λ (r : Result (List ℕ) OpenFault). followed r rest) fails

-- opening a round removes the tags
length-unsealed_by : (key header : List ℕ) (size number : ℕ) (last : Bool) (full : ℕ) (body plain : List ℕ)
    → unsealed_by key header number last (parts (size + 16) full body) ≡ Ok plain
    → length body ≡ length plain + 16 * (full + 1)
unfolding unsealed_by parts
length-unsealed_by key header size number last zero body plain e =
    let one = opened_chunk key header number last body in
    let (chunk, more, opens, ends, all) = parted (Forged number) one (Ok []) plain e in
    let bytes = length-opened_chunk key header number last body chunk opens in
    let none : more ≡ [] = cc in
    let long : length plain ≡ length (chunk ++ more) = ap (λ (l : List ℕ). length l) all in
    let both = length-append chunk more in
    let nothing : length more ≡ 0 = ap (λ (l : List ℕ). length l) none in
    omega arith
length-unsealed_by key header size number last (suc full) body plain e =
    let rest = parts (size + 16) full (drop (size + 16) body) in
    let ending = is_nil rest && last in
    let one = opened_chunk key header number ending (take (size + 16) body) in
    let answer = unsealed_by key header (number + 1) last rest in
    let (chunk, more, opens, ends, all) = parted (Forged number) one answer plain e in
    let bytes = length-opened_chunk key header number ending (take (size + 16) body) chunk opens in
    let others = length-unsealed_by key header size (number + 1) last full (drop (size + 16) body) more ends in
    let long : length plain ≡ length (chunk ++ more) = ap (λ (l : List ℕ). length l) all in
    let both = length-append chunk more in
    let cut = length-append (take (size + 16) body) (drop (size + 16) body) in
    let whole : length (take (size + 16) body ++ drop (size + 16) body) ≡ length body =
    ap (λ (l : List ℕ). length l) (take-append-drop (size + 16) body) in
    omega arith

pub length-opened_round : (key header : List ℕ) (size number : ℕ) (last : Bool) (body plain : List ℕ) (bytes : ℕ)
    → 0 < size → length body ≡ body_length size bytes → unsealed_by key header number last (sealed_chunks size body) ≡ Ok plain
    → length plain ≡ bytes
unfolding sealed_chunks cut_every
length-opened_round key header size number last body plain bytes some long opens =
    let count = body_count size bytes (length body) some long in
    let all = long ∙ body-full size bytes in
    let tags = length-unsealed_by key header size number last ((length body - 1) / (size + 16)) body plain opens in
    omega (arith, tags, count, all)
