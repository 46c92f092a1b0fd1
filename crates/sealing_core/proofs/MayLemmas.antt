-- What the output may hold before each write: what was written, then the next block, is a front of all that is written
-- of some input.
use Rattle.std.proofs.Common.{◌≡◌, ℕ, ◌+◌, ◌*◌, ◌<◌, true, false, List, [], ◌++◌, Option, refl, sym, ap, ◌∙◌, subst, append_assoc, append-nil}
use Rattle.container_core.specs.Chunks.{chunks}
use Rattle.container_core.specs.Container.{size_in}
use Rattle.container_core.specs.Stream.{stream, stream_by}
use Rattle.container_core.proofs.OpeningLemmas.{some_size}
use Rattle.io_core.specs.Streams.{Appends}
use Rattle.output_core.specs.Bounds.{Admits, Bound}
use Rattle.output_core.proofs.BoundLemmas.{admits_front, admits_rest, admits_same}
use Rattle.sealing_core.specs.Order.{behind, chunks_so_far, front_at, AreWritten, MayGoOn}
use Rattle.sealing_core.specs.Pieces.{IsPart}
use Rattle.sealing_core.specs.Pipe.{whole}
use Rattle.sealing_core.proofs.ChunkLemmas.{after_of, behind_full, behind_part}

-- after what was written comes the next of it
may_next : (bound : Option Bound) (taken before : Option (List ℕ)) (all done next tail : List ℕ) → Admits bound taken all
    → all ≡ (done ++ next) ++ tail → Appends taken before done → Admits bound before next
may_next bound taken before all done next tail may is grown =
    admits_front bound before next (next ++ tail)
    (admits_rest bound taken before done (next ++ tail) (subst (Admits bound taken) (is ∙ append_assoc done next tail) may) grown)
    (tail, refl)

-- a full block
pub may_full : (each : ℕ) (front key header : List ℕ) (told : Option (List ℕ)) (bound : Option Bound) (now : Option (List ℕ)) (number : ℕ) (bytes : List ℕ)
    → 0 < each → IsPart each key header told number false bytes → MayGoOn each front key header told bound now number
    → Admits bound now (front_at front number ++ bytes)
may_full each front key header told bound now number bytes one part may =
    let was = may.sofar in
    let text = part.text in
    let s = size_in header in
    let next = after_of (each * s) number told was.past text was.long was.of part.chunk.of in
    may_next bound may.taken now _ (chunks_so_far front key header was.past) (front_at front number ++ bytes) _ (may.all (was.past ++ (text ++ next.0)))
    (behind_full each front key header was.past text next.0 number (some_size header) one was.long (part.chunk.full refl) next.1
    ∙ ap (λ (b : List ℕ). (chunks_so_far front key header was.past ++ (front_at front number ++ b)) ++ stream_by key header (each * (number + 1)) true (chunks s next.0)) (sym part.is))
    was.grown

-- the last
pub may_last : (each : ℕ) (front key header : List ℕ) (told : Option (List ℕ)) (bound : Option Bound) (now : Option (List ℕ)) (number : ℕ) (bytes : List ℕ)
    → 0 < each → IsPart each key header told number true bytes → MayGoOn each front key header told bound now number
    → Admits bound now (front_at front number ++ bytes)
may_last each front key header told bound now number bytes one part may =
    let was = may.sofar in
    let done = chunks_so_far front key header was.past in
    may_next bound may.taken now _ done (front_at front number ++ bytes) [] (may.all (was.past ++ part.text))
    (behind_part each front key header was.past part.text number (some_size header) one was.long part.chunk.some
    ∙ ap (λ (b : List ℕ). done ++ (front_at front number ++ b)) (sym part.is)
    ∙ sym (append-nil (done ++ (front_at front number ++ bytes))))
    was.grown

-- the same of the piece whose turn it is
pub may_turn : (each : ℕ) (front key header : List ℕ) (told : Option (List ℕ)) (bound : Option Bound) (now : Option (List ℕ)) (number turn : ℕ) (bytes text : List ℕ)
    → 0 < each → number ≡ turn → text ≡ bytes → IsPart each key header told number false bytes → MayGoOn each front key header told bound now turn
    → Admits bound now (front_at front number ++ text)
may_turn each front key header told bound now number turn bytes text one is same part may =
    subst (λ (b : List ℕ). Admits bound now (front_at front number ++ b)) (sym same)
    (may_full each front key header told bound now number bytes one part (subst (λ (n : ℕ). MayGoOn each front key header told bound now n) (sym is) may))

-- the first of two, and then the second, if the bound is unchanged
pub may_first : (bound : Option Bound) (now : Option (List ℕ)) (front bytes : List ℕ) → Admits bound now (front ++ bytes) → Admits bound now front
may_first bound now front bytes may = admits_front bound now front (front ++ bytes) may (bytes, refl)

pub may_second : (bound bound' : Option Bound) (before after : Option (List ℕ)) (front bytes : List ℕ) → bound' ≡ bound → Appends before after front
    → Admits bound before (front ++ bytes) → Admits bound' after bytes
may_second bound bound' before after front bytes same grown may =
    admits_same bound bound' after bytes same (admits_rest bound before after front bytes may grown)

-- `number` blocks were written after what the output held at first
pub may_behind : (each : ℕ) (front key header : List ℕ) (told : Option (List ℕ)) (bound bound' : Option Bound) (taken now : Option (List ℕ)) (number : ℕ)
    → bound' ≡ bound → ((plain : List ℕ) → Admits bound taken (behind front key header plain))
    → AreWritten each front key header told taken now number → MayGoOn each front key header told bound' now number
may_behind each front key header told bound bound' taken now number same all was = record {
  taken = taken;
  sofar = was;
  all = λ plain. admits_same bound bound' taken (behind front key header plain) same (all plain);
}

-- what may be written, in other words
pub may_as : (bound : Option Bound) (taken : Option (List ℕ)) (front front' key key' header header' : List ℕ) → front' ≡ front → key' ≡ key → header' ≡ header
    → ((plain : List ℕ) → Admits bound taken (behind front' key' header' plain)) → (plain : List ℕ) → Admits bound taken (behind front key header plain)
may_as bound taken front front' key key' header header' a b c may plain =
    subst (λ (l : List ℕ). Admits bound taken (behind l key header plain)) a
    (subst (λ (l : List ℕ). Admits bound taken (behind front' l header plain)) b
    (subst (λ (l : List ℕ). Admits bound taken (behind front' key' l plain)) c (may plain)))

-- a stream's header
pub may_header : (bound : Option Bound) (taken : Option (List ℕ)) (key header bytes : List ℕ) → bytes ≡ header
    → ((plain : List ℕ) → Admits bound taken (whole key header plain)) → Admits bound taken bytes
may_header bound taken key header bytes is may =
    subst (Admits bound taken) (sym is)
    (may_first bound taken header (stream key header 0 (chunks (size_in header) [])) (may []))

-- and what follows it
pub may_stream : (bound bound' : Option Bound) (taken now : Option (List ℕ)) (key key' header header' bytes : List ℕ) → bytes ≡ header' → key' ≡ key → header' ≡ header
    → bound' ≡ bound → Appends taken now bytes
    → ((plain : List ℕ) → Admits bound taken (whole key' header' plain)) → (plain : List ℕ) → Admits bound' now (behind [] key header plain)
may_stream bound bound' taken now key key' header header' bytes is a b same grown may plain =
    may_second bound bound' taken now header (stream key header 0 (chunks (size_in header) plain)) same (subst (Appends taken now) (is ∙ b) grown)
    (may_as bound taken header header' key key' header header' b a b may plain)
