-- STREAM of the chunks of a plaintext, and opening it again.
use Rattle.std.proofs.Common.{◌≡◌, ℕ, zero, suc, ◌+◌, ◌-◌, ◌*◌, ◌≤◌, Bool, true, ◌&&◌, List, [], ◌∷◌, ◌++◌, length}
use Rattle.std.proofs.Common.{take, drop, Option, Some, None, Result, Ok, Err, refl, ap, sym, ◌∙◌, arith}
use Rattle.std.proofs.Common.{take-append-drop, length-append, length-take-le}
use Rattle.std.proofs.Math.Bool.{and-true}
use Rattle.std.proofs.lemmas.List.{append-nil, length-drop, take_at, drop_at}
use Rattle.aead_core.specs.Aead.{enciphered, tag_of, opened}
use Rattle.aead_core.proofs.AeadLemmas.{length-enciphered, length-tag_of, opened-aead, aead-opened}
use Rattle.container_core.specs.declared.fault.OpenFault.{OpenFault}
use Rattle.container_core.specs.declared.fault.OpenFault.TheVariants.{Forged}
use Rattle.container_core.specs.Chunks.{parts}
use Rattle.container_core.specs.Stream.{nonce_of, prefix_in, is_nil, sealed_chunk, opened_chunk, stream, stream_by}
use Rattle.container_core.specs.Opening.{unsealed, joined}
use Rattle.container_core.proofs.PartsLemmas.{is_nil-parts}

pub length-sealed_chunk : (key header : List ℕ) (number : ℕ) (last : Bool) (plain : List ℕ)
    → length (sealed_chunk key header number last plain) ≡ length plain + 16
unfolding sealed_chunk
length-sealed_chunk key header number last plain =
    let nonce = nonce_of (prefix_in header) number last in
    let text = enciphered key nonce plain in
    let tag = tag_of key nonce header text in
    length-append text tag ∙ ap (λ k. k + length tag) (length-enciphered key nonce plain)
    ∙ ap (λ k. length plain + k) (length-tag_of key nonce header text)

-- a ciphertext followed by a tag
pub opened_chunk-append : (key header : List ℕ) (number : ℕ) (last : Bool) (text tag : List ℕ) → length tag ≡ 16
    → opened_chunk key header number last (text ++ tag) ≡ opened key (nonce_of (prefix_in header) number last) header text tag
unfolding opened_chunk
opened_chunk-append key header number last text tag sixteen =
    let nonce = nonce_of (prefix_in header) number last in
    let both = length-append text tag in
    let bytes : length (text ++ tag) - 16 ≡ length text = omega arith in
    ap (λ n. opened key nonce header (take n (text ++ tag)) (drop n (text ++ tag))) bytes
    ∙ ap (λ front. opened key nonce header front (drop (length text) (text ++ tag))) (take_at text tag (length text) refl)
    ∙ ap (λ end. opened key nonce header text end) (drop_at text tag (length text) refl)

pub opened_chunk-sealed_chunk : (key header : List ℕ) (number : ℕ) (last : Bool) (plain : List ℕ)
    → opened_chunk key header number last (sealed_chunk key header number last plain) ≡ Some plain
unfolding sealed_chunk
opened_chunk-sealed_chunk key header number last plain =
    let nonce = nonce_of (prefix_in header) number last in
    let text = enciphered key nonce plain in
    let tag = tag_of key nonce header text in
    opened_chunk-append key header number last text tag (length-tag_of key nonce header text)
    ∙ opened-aead key nonce header plain

pub sealed_chunk-opened_chunk : (key header : List ℕ) (number : ℕ) (last : Bool) (sealed plain : List ℕ)
    → opened_chunk key header number last sealed ≡ Some plain → sealed_chunk key header number last plain ≡ sealed
unfolding sealed_chunk opened_chunk
sealed_chunk-opened_chunk key header number last sealed plain e =
    let nonce = nonce_of (prefix_in header) number last in
    let n = length sealed - 16 in
    ap (λ (pair : List ℕ × List ℕ). pair.0 ++ pair.1) (aead-opened key nonce header (take n sealed) (drop n sealed) plain e)
    ∙ take-append-drop n sealed

pub length-opened_chunk : (key header : List ℕ) (number : ℕ) (last : Bool) (sealed plain : List ℕ)
    → opened_chunk key header number last sealed ≡ Some plain → length sealed ≡ length plain + 16
length-opened_chunk key header number last sealed plain e =
    sym (ap (λ (l : List ℕ). length l) (sealed_chunk-opened_chunk key header number last sealed plain e))
    ∙ length-sealed_chunk key header number last plain

-- a last round is STREAM
pub stream_by-true : (key header : List ℕ) (number : ℕ) (cs : List (List ℕ))
    → stream_by key header number true cs ≡ stream key header number cs
unfolding stream_by stream
stream_by-true key header number [] = refl
stream_by-true key header number (c ∷ cs) =
    ap (λ (b : Bool). sealed_chunk key header number b c ++ stream_by key header (number + 1) true cs)
    (and-true (is_nil cs))
    ∙ ap (λ (s : List ℕ). sealed_chunk key header number (is_nil cs) c ++ s) (stream_by-true key header (number + 1) cs)

-- a round adds a tag to each chunk
pub length-stream_by : (size : ℕ) (key header : List ℕ) (number : ℕ) (last : Bool) (full : ℕ) (plain : List ℕ)
    → length (stream_by key header number last (parts size full plain)) ≡ length plain + 16 * (full + 1)
unfolding stream_by parts
length-stream_by size key header number last zero plain =
    let one = length-sealed_chunk key header number last plain in
    let sealed = sealed_chunk key header number last plain in
    let all = length-append sealed [] in
    omega arith
length-stream_by size key header number last (suc full) plain =
    let rest = parts size full (drop size plain) in
    let ends = is_nil rest && last in
    let sealed = sealed_chunk key header number ends (take size plain) in
    let one = length-sealed_chunk key header number ends (take size plain) in
    let more = length-stream_by size key header (number + 1) last full (drop size plain) in
    let all = length-append sealed (stream_by key header (number + 1) last rest) in
    let cut = length-append (take size plain) (drop size plain) in
    let whole : length (take size plain ++ drop size plain) ≡ length plain =
    ap (λ (l : List ℕ). length l) (take-append-drop size plain) in
    omega arith

pub length-stream : (size : ℕ) (key header : List ℕ) (number full : ℕ) (plain : List ℕ)
    → length (stream key header number (parts size full plain)) ≡ length plain + 16 * (full + 1)
length-stream size key header number full plain =
    ap (λ (s : List ℕ). length s) (sym (stream_by-true key header number (parts size full plain)))
    ∙ length-stream_by size key header number true full plain

-- a chunk that checks, before others that do
pub unsealed-cons : (key header : List ℕ) (number : ℕ) (sealed : List ℕ) (rest : List (List ℕ)) (last : Bool) (plain more : List ℕ)
    → is_nil rest ≡ last → opened_chunk key header number last sealed ≡ Some plain → unsealed key header (number + 1) rest ≡ Ok more
    → unsealed key header number (sealed ∷ rest) ≡ Ok (plain ++ more)
unfolding unsealed
unsealed-cons key header number sealed rest last plain more at opens ends =
    ap (λ (b : Bool). joined (Forged number) (opened_chunk key header number b sealed) (unsealed key header (number + 1) rest)) at
    ∙ ap (λ (o : Option (List ℕ)). joined (Forged number) o (unsealed key header (number + 1) rest)) opens
    ∙ ap (λ (r : Result (List ℕ) OpenFault). joined (Forged number) (Some plain) r) ends

unsealed-nil : (key header : List ℕ) (number : ℕ) → unsealed key header number [] ≡ Ok []
unfolding unsealed
unsealed-nil key header number = refl

ok_nil : (plain : List ℕ) (answer : Result (List ℕ) OpenFault) → answer ≡ Ok [] → answer ≡ Ok plain → plain ≡ []
ok_nil plain answer e f = cc

-- opening STREAM gives the plaintext
pub unsealed-stream : (size : ℕ) (key header : List ℕ) (number full : ℕ) (plain : List ℕ) → full * size ≤ length plain
    → unsealed key header number (parts (size + 16) full (stream key header number (parts size full plain))) ≡ Ok plain
unfolding stream parts
unsealed-stream size key header number zero plain room =
    let sealed = sealed_chunk key header number true plain in
    ap (λ (s : List ℕ). unsealed key header number (s ∷ [])) (append-nil sealed)
    ∙ unsealed-cons key header number sealed [] true plain [] refl (opened_chunk-sealed_chunk key header number true plain) (unsealed-nil key header (number + 1))
    ∙ ap (λ (p : List ℕ). Ok p) (append-nil plain)
unsealed-stream size key header number (suc full) plain room =
    let chunk = take size plain in
    let rest = drop size plain in
    let behind = stream key header (number + 1) (parts size full rest) in
    let last = is_nil (parts size full rest) in
    let sealed = sealed_chunk key header number last chunk in
    let left = length-drop size plain in
    let whole : length chunk ≡ size = length-take-le size plain (omega arith) in
    let long : length sealed ≡ (size + 16) = length-sealed_chunk key header number last chunk ∙ ap (λ k. k + 16) whole in
    let same : is_nil (parts (size + 16) full behind) ≡ last = is_nil-parts (size + 16) full behind ∙ sym (is_nil-parts size full rest) in
    ap (λ (s : List ℕ). unsealed key header number (s ∷ parts (size + 16) full (drop (size + 16) (sealed ++ behind)))) (take_at sealed behind (size + 16) long)
    ∙ ap (λ (s : List ℕ). unsealed key header number (sealed ∷ parts (size + 16) full s)) (drop_at sealed behind (size + 16) long)
    ∙ unsealed-cons key header number sealed (parts (size + 16) full behind) last chunk rest same
    (opened_chunk-sealed_chunk key header number last chunk) (unsealed-stream size key header (number + 1) full rest (omega arith))
    ∙ ap (λ (p : List ℕ). Ok p) (take-append-drop size plain)

-- the first of several chunks checks if all do
pub record FirstOpens (key header : List ℕ) (number : ℕ) (sealed : List ℕ) (rest : List (List ℕ)) (plain : List ℕ) : Type 0 where
  pub chunk : List ℕ
  pub more : List ℕ
  pub opens : opened_chunk key header number (is_nil rest) sealed ≡ Some chunk
  pub ends : unsealed key header (number + 1) rest ≡ Ok more
  pub all : plain ≡ chunk ++ more

pub parted : (forged : OpenFault) (o : Option (List ℕ)) (r : Result (List ℕ) OpenFault) (plain : List ℕ)
    → joined forged o r ≡ Ok plain
    → (chunk : List ℕ) × (more : List ℕ) × (o ≡ Some chunk) × (r ≡ Ok more) × (plain ≡ chunk ++ more)
parted forged None r plain e = cc
parted forged (Some chunk) (Ok more) plain e = (chunk, more, refl, refl, cc)
parted forged (Some chunk) (Err fault) plain e = cc

pub first_opens : (key header : List ℕ) (number : ℕ) (sealed : List ℕ) (rest : List (List ℕ)) (plain : List ℕ)
    → unsealed key header number (sealed ∷ rest) ≡ Ok plain → FirstOpens key header number sealed rest plain
unfolding unsealed
first_opens key header number sealed rest plain e =
    let (chunk, more, opens, ends, all) =
    parted (Forged number) (opened_chunk key header number (is_nil rest) sealed) (unsealed key header (number + 1) rest) plain e in
    record { chunk = chunk; more = more; opens = opens; ends = ends; all = all }

-- chunks that open are STREAM of their plaintext
pub stream-unsealed : (size : ℕ) (key header : List ℕ) (number full : ℕ) (body plain : List ℕ) → full * (size + 16) + 16 ≤ length body
    → unsealed key header number (parts (size + 16) full body) ≡ Ok plain
    → stream key header number (parts size full plain) ≡ body
unfolding stream parts
stream-unsealed size key header number zero body plain room e =
    let first = first_opens key header number body [] plain e in
    let none : first.more ≡ [] = ok_nil first.more (unsealed key header (number + 1) []) (unsealed-nil key header (number + 1)) first.ends in
    let all : plain ≡ first.chunk = first.all ∙ ap (λ (m : List ℕ). first.chunk ++ m) none ∙ append-nil first.chunk in
    append-nil (sealed_chunk key header number true plain)
    ∙ ap (λ (p : List ℕ). sealed_chunk key header number true p) all
    ∙ sealed_chunk-opened_chunk key header number true body first.chunk first.opens
stream-unsealed size key header number (suc full) body plain room e =
    let part = take (size + 16) body in
    let behind = parts (size + 16) full (drop (size + 16) body) in
    let first = first_opens key header number part behind plain e in
    let left = length-drop (size + 16) body in
    let whole : length part ≡ (size + 16) = length-take-le (size + 16) body (omega arith) in
    let bytes = length-opened_chunk key header number (is_nil behind) part first.chunk first.opens in
    let long : length first.chunk ≡ size = omega arith in
    let front : take size plain ≡ first.chunk = ap (λ (p : List ℕ). take size p) first.all ∙ take_at first.chunk first.more size long in
    let back : drop size plain ≡ first.more = ap (λ (p : List ℕ). drop size p) first.all ∙ drop_at first.chunk first.more size long in
    let same : is_nil (parts size full first.more) ≡ is_nil behind = is_nil-parts size full first.more ∙ sym (is_nil-parts (size + 16) full (drop (size + 16) body)) in
    ap (λ (d : List ℕ). sealed_chunk key header number (is_nil (parts size full d)) (take size plain) ++ stream key header (number + 1) (parts size full d)) back
    ∙ ap (λ (c : List ℕ). sealed_chunk key header number (is_nil (parts size full first.more)) c ++ stream key header (number + 1) (parts size full first.more)) front
    ∙ ap (λ (b : Bool). sealed_chunk key header number b first.chunk ++ stream key header (number + 1) (parts size full first.more)) same
    ∙ ap (λ (s : List ℕ). s ++ stream key header (number + 1) (parts size full first.more)) (sealed_chunk-opened_chunk key header number (is_nil behind) part first.chunk first.opens)
    ∙ ap (λ (s : List ℕ). part ++ s) (stream-unsealed size key header (number + 1) full (drop (size + 16) body) first.more (omega arith) first.ends)
    ∙ take-append-drop (size + 16) body
