-- A body in consecutive rounds.
use Rattle.std.proofs.Common.{◌≡◌, ℕ, ◌+◌, ◌*◌, ◌-◌, ◌<◌, ◌≤◌, true, List, ◌++◌, length, take, drop, Option, Some, None, Result, Err, inl, inr, ap, sym, ◌∙◌, arith, append_assoc, length-take-le}
use Rattle.std.proofs.lemmas.Bool.{cases_lt}
use Rattle.container_core.specs.declared.fault.OpenFault.{OpenFault}
use Rattle.container_core.specs.Chunks.{chunks, chunk_count, body_length, sealed_chunks}
use Rattle.container_core.specs.Shape.{ShapeView, size_of}
use Rattle.container_core.specs.Container.{container, header_of, header_length, size_in}
use Rattle.container_core.specs.Stream.{stream, stream_by}
use Rattle.container_core.specs.Opening.{behind, early_fault, opening, unless, unsealed, unsealed_by}
use Rattle.container_core.proofs.OpeningLemmas.{behind-behind}
use Rattle.container_core.proofs.PartsLemmas.{body-count, count-grows, count-more, count-whole}
use Rattle.worker_core.specs.declared.round.Task.{Task}
use Rattle.worker_core.specs.Views.{PlacesView}
use Rattle.worker_core.specs.Crew.{CrewView}
use Rattle.crew_core.specs.Rounds.{CanMake}

-- what can make some pieces can make fewer
pub can-less : (task : Task) (size most few : ℕ) (crew : CrewView) (places : PlacesView) → few ≤ most
    → CanMake task size most crew places → CanMake task size few crew places
can-less task size most few crew places less can = record {
  idle = can.idle;
  room = can.room;
  sizes = can.sizes;
  rooms = (omega (arith, can.rooms.0), omega (arith, can.rooms.1));
}

-- one more round was made, and the bytes of the previous one were appended
pub sealed-next : (done out body rest next now whole : List ℕ) → out ≡ done → now ≡ body → next ≡ body ++ rest → done ++ next ≡ whole
    → (out ++ now) ++ rest ≡ whole
sealed-next done out body rest next now whole is made split before =
    ap (λ (l : List ℕ). (l ++ now) ++ rest) is ∙ ap (λ (l : List ℕ). (done ++ l) ++ rest) made
    ∙ append_assoc done body rest ∙ ap (λ (l : List ℕ). done ++ l) (sym split) ∙ before

-- one more round checks
pub opened-next : (done out now : List ℕ) (rest next whole : Result (List ℕ) OpenFault) → out ≡ done → next ≡ behind now rest
    → whole ≡ behind done next → whole ≡ behind (out ++ now) rest
opened-next done out now rest next whole is opens before =
    before ∙ ap (λ (r : Result (List ℕ) OpenFault). behind done r) opens ∙ behind-behind done now rest
    ∙ ap (λ (l : List ℕ). behind (l ++ now) rest) (sym is)

-- a round doesn't, so the whole doesn't
pub opened-not : (done : List ℕ) (fault : OpenFault) (next whole : Result (List ℕ) OpenFault) → next ≡ Err fault
    → whole ≡ behind done next → whole ≡ Err fault
opened-not done fault next whole fails before = before ∙ ap (λ (r : Result (List ℕ) OpenFault). behind done r) fails

-- how much is left after a full round of an opening
pub round-fits : (size round n : ℕ) → 0 < size → 0 < round → round * (size + 16) < body_length size n → round * size < n
round-fits size round n some many long =
    elim (cases_lt (round * size) n) [
      | inl more ↦ more
      | inr few ↦
          let grows = count-grows size n (round * size) some few in
          let whole = count-whole size round some many in
          let body = body-count size n in
          absurd (omega (arith, grows, whole, body, long, few))
    ]

pub round-left : (size round n : ℕ) → 0 < size → round * size < n
    → (chunk_count size n ≡ round + chunk_count size (n - round * size))
    × (body_length size n ≡ round * (size + 16) + body_length size (n - round * size))
round-left size round n some more =
    let rest = n - round * size in
    let parted : round * size + rest ≡ n = omega (arith, more) in
    let count : chunk_count size n ≡ round + chunk_count size rest =
    ap (λ (k : ℕ). chunk_count size k) (sym parted) ∙ count-more size round rest some (omega (arith, more)) in
    let all = body-count size n in
    let left = body-count size rest in
    (count, omega (arith, count, all, left, parted))

-- what is no longer than a full round has no more chunks
pub count-within : (size round n : ℕ) → 0 < size → 0 < round → n ≤ round * size → chunk_count size n ≤ round
count-within size round n some many few =
    let grows = count-grows size n (round * size) some few in
    let whole = count-whole size round some many in
    omega (arith, grows, whole)

-- the same for sealed chunks
pub sealed-within : (size round n : ℕ) → 0 < size → 0 < round → body_length size n ≤ round * (size + 16) → chunk_count size n ≤ round
sealed-within size round n some many few =
    elim (cases_lt (round * size) n) [
      | inl more ↦
          let left = round-left size round n some more in
          let rest = body-count size (n - round * size) in
          absurd (omega (arith, left.1, rest, few, more))
      | inr less ↦ count-within size round n some many less
    ]

-- a full round has whole chunks
pub round-body : (size round : ℕ) → 0 < size → 0 < round → round * (size + 16) ≡ body_length size (round * size)
round-body size round some many =
    let whole = count-whole size round some many in
    let body = body-count size (round * size) in
    omega (arith, whole, body)

-- a container without an early fault: its header, and a round of all chunks, the last
pub opening-round : (key bytes header body : List ℕ) (size most : ℕ) (answer : Result (List ℕ) OpenFault) → early_fault key most bytes ≡ None
    → header ≡ take (header_length bytes) bytes → size ≡ size_in bytes → body ≡ drop (header_length bytes) bytes
    → ((pieces : List (List ℕ)) → unsealed_by key header 0 true pieces ≡ unsealed key header 0 pieces)
    → unsealed_by key header 0 true (sealed_chunks size body) ≡ answer → opening key most bytes ≡ answer
unfolding opening
opening-round key bytes header body size most answer none front sized back whole is =
    let end = header_length bytes in
    ap (λ (e : Option OpenFault). unless e (unsealed key (take end bytes) 0 (sealed_chunks (size_in bytes) (drop end bytes)))) none
    ∙ ap (λ (h : List ℕ). unsealed key h 0 (sealed_chunks (size_in bytes) (drop end bytes))) (sym front)
    ∙ ap (λ (s : ℕ). unsealed key header 0 (sealed_chunks s (drop end bytes))) (sym sized)
    ∙ ap (λ (b : List ℕ). unsealed key header 0 (sealed_chunks size b)) (sym back)
    ∙ sym (whole (sealed_chunks size body)) ∙ is

-- or with one
pub opening-fault : (key bytes : List ℕ) (most : ℕ) (fault : OpenFault) → early_fault key most bytes ≡ Some fault
    → opening key most bytes ≡ Err fault
unfolding opening
opening-fault key bytes most fault early =
    ap (λ (e : Option OpenFault). unless e (unsealed key (take (header_length bytes) bytes) 0 (sealed_chunks (size_in bytes) (drop (header_length bytes) bytes)))) early

-- the body after the header
pub rest-behind : (bytes header body : List ℕ) → header ≡ take (header_length bytes) bytes → header_length bytes ≤ length bytes
    → body ≡ drop (length header) bytes → body ≡ drop (header_length bytes) bytes
rest-behind bytes header body is enough back =
    back ∙ ap (λ (n : ℕ). drop n bytes) (ap (λ (l : List ℕ). length l) is ∙ length-take-le (header_length bytes) bytes enough)

-- a header and the round of all chunks, the last, are the container
pub container-round : (key prefix plain header front out : List ℕ) (shape : ShapeView) → header ≡ header_of key shape prefix
    → size_in (header_of key shape prefix) ≡ size_of shape → front ≡ header
    → stream_by key header 0 true (chunks (size_in header) plain) ≡ stream key header 0 (chunks (size_in header) plain)
    → out ≡ front ++ stream_by key header 0 true (chunks (size_in header) plain) → out ≡ container key shape prefix plain
unfolding container
container-round key prefix plain header front out shape named sized first whole is =
    is ∙ ap (λ (s : List ℕ). front ++ s) whole
    ∙ ap (λ (f : List ℕ). f ++ stream key header 0 (chunks (size_in header) plain)) first
    ∙ ap (λ (h : List ℕ). h ++ stream key h 0 (chunks (size_in h) plain)) named
    ∙ ap (λ (s : ℕ). header_of key shape prefix ++ stream key (header_of key shape prefix) 0 (chunks s plain)) sized
