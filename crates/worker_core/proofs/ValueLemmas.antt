-- The values of a round by their numbers.
use Rattle.std.proofs.Common.{◌≡◌, ℕ, zero, suc, ◌+◌, ◌<◌, Bool, eqb, ◌&&◌, List, [], ◌∷◌, length, get_or, None, ap}
use Rattle.std.proofs.Common.{◌∙◌, sym, refl, arith, add-zero, add-one}
use Rattle.std.proofs.lemmas.Bool.Decides.{nat_tests}
use Rattle.container_core.specs.Stream.{is_nil}
use Rattle.container_core.specs.Chunks.{chunk_count}
use Rattle.container_core.specs.Container.{size_in}
use Rattle.container_core.specs.Views.{CutView}
use Rattle.container_core.proofs.PartsLemmas.{length-chunks, length-sealed_chunks}
use Rattle.container_core.proofs.OpeningLemmas.{some_size}
use Rattle.worker_core.specs.declared.round.Task.{Task}
use Rattle.worker_core.specs.declared.round.Task.TheVariants.{Sealing, Opening, Checking}
use Rattle.worker_core.specs.Views.{RoundView}
use Rattle.worker_core.specs.Values.{numbered, parts_of, value_at, values_of, round_of}
use Rattle.worker_core.specs.Parts.{body_bytes, IsCutBy}

pub length-numbered : {A : Type 0} (f : ℕ → Bool → List ℕ → A) (i : ℕ) (last : Bool) (parts : List (List ℕ))
    → length (numbered f i last parts) ≡ length parts
unfolding numbered
length-numbered f i last [] = refl
length-numbered f i last (part ∷ rest) = let h = length-numbered f (i + 1) last rest in omega arith

is_nil-last : {A : Type 0} (xs : List A) → is_nil xs ≡ eqb 1 (length xs + 1)
is_nil-last [] = refl
is_nil-last (x ∷ xs) = grind (arith, nat_tests)

eqb-next : (a b : ℕ) → eqb a b ≡ eqb (suc a) (suc b)
eqb-next a b = grind (arith, nat_tests)

-- the value of a number is that of the part of this number
pub get_or-numbered : {A : Type 0} (f : ℕ → Bool → List ℕ → A) (i : ℕ) (last : Bool) (parts : List (List ℕ)) (n : ℕ)
    (d : A) (e : List ℕ)
    → n < length parts
    → get_or (numbered f i last parts) n d ≡ f (i + n) (eqb (n + 1) (length parts) && last) (get_or parts n e)
unfolding numbered
get_or-numbered f i last [] n d e at = absurd (omega arith)
get_or-numbered f i last (part ∷ rest) zero d e at =
    rw (is_nil-last rest, add-zero) (ap (λ b. f i (b && last) part) (ap (eqb 1) (add-one (length rest))))
get_or-numbered f i last (part ∷ rest) (suc n) d e at =
    let h = get_or-numbered f (i + 1) last rest n d e (omega arith) in
    let place : i + 1 + n ≡ i + suc n = omega arith in
    let next : suc n + 1 ≡ suc (n + 1) = omega arith in
    h ∙ rw (place, next, eqb-next (n + 1) (length rest)) refl

-- as many parts as chunks
pub length-parts_of : (task : Task) (size plain : ℕ) (body : List ℕ) → 0 < size → length body ≡ body_bytes task size plain
    → length (parts_of task size body) ≡ chunk_count size plain
length-parts_of Sealing size plain body some bytes = length-chunks size body ∙ ap (chunk_count size) bytes
length-parts_of Opening size plain body some bytes = length-sealed_chunks size body plain some bytes
length-parts_of Checking size plain body some bytes = length-sealed_chunks size body plain some bytes

-- the parts of a body that is cut as its header says
parts-cut : (task : Task) (header : List ℕ) (first : ℕ) (cut : CutView) (body : List ℕ) → IsCutBy task header first cut body
    → length (parts_of task (size_in header) body) ≡ chunk_count cut.size cut.plain
parts-cut task header first cut body is =
    ap (λ (s : ℕ). length (parts_of task s body)) (sym is.size)
    ∙ length-parts_of task cut.size cut.plain body (let some = some_size header in omega (arith, some, is.size)) is.bytes

-- as many values as chunks, and each is of its part
pub length-values_of : (task : Task) (key header : List ℕ) (first : ℕ) (last : Bool) (cut : CutView) (body : List ℕ)
    → IsCutBy task header first cut body
    → length (values_of task key header first last body) ≡ chunk_count cut.size cut.plain
unfolding values_of
length-values_of task key header first last cut body is =
    length-numbered (value_at task key header) first last (parts_of task (size_in header) body)
    ∙ parts-cut task header first cut body is

pub get_or-values_of : (task : Task) (key header : List ℕ) (first : ℕ) (last : Bool) (cut : CutView) (body : List ℕ) (n : ℕ)
    → IsCutBy task header first cut body → n < chunk_count cut.size cut.plain
    → get_or (values_of task key header first last body) n None
    ≡ value_at task key header (first + n) (eqb (n + 1) (chunk_count cut.size cut.plain) && last) (get_or (parts_of task cut.size body) n [])
unfolding values_of
get_or-values_of task key header first last cut body n is at =
    let count = parts-cut task header first cut body is in
    get_or-numbered (value_at task key header) first last (parts_of task (size_in header) body) n None [] (rw count at)
    ∙ ap (λ k. value_at task key header (first + n) (eqb (n + 1) k && last) (get_or (parts_of task (size_in header) body) n [])) count
    ∙ ap (λ (s : ℕ). value_at task key header (first + n) (eqb (n + 1) (chunk_count cut.size cut.plain) && last) (get_or (parts_of task s body) n [])) (sym is.size)

-- the same of a round that is this one
pub length-round : (task : Task) (key header : List ℕ) (first : ℕ) (last : Bool) (cut : CutView) (body : List ℕ)
    (round : RoundView)
    → IsCutBy task header first cut body → round_of task key header first last body ≡ round
    → chunk_count cut.size cut.plain ≡ length round.values
length-round task key header first last cut body round by is =
    sym (length-values_of task key header first last cut body by) ∙ ap (λ r. length r.values) is

pub get_or-round : (task : Task) (key header : List ℕ) (first : ℕ) (last : Bool) (cut : CutView) (body : List ℕ)
    (round : RoundView) (n : ℕ)
    → IsCutBy task header first cut body → round_of task key header first last body ≡ round → n < length round.values
    → get_or round.values n None
    ≡ value_at task key header (first + n) (eqb (n + 1) (chunk_count cut.size cut.plain) && last) (get_or (parts_of task cut.size body) n [])
get_or-round task key header first last cut body round n by is at =
    let below : n < chunk_count cut.size cut.plain = rw (length-round task key header first last cut body round by is) at in
    ap (λ r. get_or r.values n None) (sym is) ∙ get_or-values_of task key header first last cut body n by below

-- as many pieces as chunks, and each by its number
pub length-values : (task : Task) (key header : List ℕ) (first : ℕ) (last : Bool) (body : List ℕ)
    → length (values_of task key header first last body) ≡ length (parts_of task (size_in header) body)
unfolding values_of
length-values task key header first last body =
    length-numbered (value_at task key header) first last (parts_of task (size_in header) body)

pub get_or-values : (task : Task) (key header : List ℕ) (first : ℕ) (last : Bool) (body : List ℕ) (n : ℕ)
    → n < length (parts_of task (size_in header) body)
    → get_or (values_of task key header first last body) n None
    ≡ value_at task key header (first + n) (eqb (n + 1) (length (parts_of task (size_in header) body)) && last)
    (get_or (parts_of task (size_in header) body) n [])
unfolding values_of
get_or-values task key header first last body n at =
    get_or-numbered (value_at task key header) first last (parts_of task (size_in header) body) n None [] at
