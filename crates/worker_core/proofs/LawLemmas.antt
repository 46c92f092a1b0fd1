-- What the pieces of a round are together.
use Rattle.std.proofs.Common.{◌≡◌, ℕ, zero, suc, ◌+◌, ◌<◌, Bool, List, [], ◌∷◌, ◌++◌, length, get_or, Option}
use Rattle.std.proofs.Common.{Some, None, option_map, Result, Err, refl, ap, ◌∙◌, arith, add-zero}
use Rattle.container_core.specs.declared.fault.OpenFault.{OpenFault}
use Rattle.container_core.specs.declared.fault.OpenFault.TheVariants.{Forged}
use Rattle.container_core.specs.Container.{size_in}
use Rattle.container_core.specs.Stream.{stream_by}
use Rattle.container_core.specs.Opening.{unsealed_by}
use Rattle.container_core.specs.Opening.{joined as joined_chunk}
use Rattle.container_core.specs.Chunks.{chunks, sealed_chunks}
use Rattle.worker_core.specs.declared.round.Task.TheVariants.{Sealing, Opening, Checking}
use Rattle.worker_core.specs.Values.{numbered, value_at, values_of}
use Rattle.worker_core.specs.Answer.{joined, first_refused, unless_refused, answer, named}
use Rattle.worker_core.proofs.AnswerLemmas.{none_under}

-- a sealing
joined-numbered : (key header : List ℕ) (i : ℕ) (last : Bool) (parts : List (List ℕ))
    → joined (numbered (value_at Sealing key header) i last parts) ≡ stream_by key header i last parts
unfolding numbered stream_by
joined-numbered key header i last [] = refl
joined-numbered key header i last (part ∷ rest) = rw (joined-numbered key header (i + 1) last rest) refl

none_refused-numbered : (key header : List ℕ) (i : ℕ) (last : Bool) (parts : List (List ℕ))
    → first_refused (numbered (value_at Sealing key header) i last parts) ≡ None
unfolding numbered
none_refused-numbered key header i last [] = refl
none_refused-numbered key header i last (part ∷ rest) = rw (none_refused-numbered key header (i + 1) last rest) refl

pub joined-sealing : (key header : List ℕ) (first : ℕ) (last : Bool) (plain : List ℕ)
    → joined (values_of Sealing key header first last plain) ≡ stream_by key header first last (chunks (size_in header) plain)
unfolding values_of
joined-sealing key header first last plain = joined-numbered key header first last (chunks (size_in header) plain)

pub none_refused-sealing : (key header : List ℕ) (first : ℕ) (last : Bool) (plain : List ℕ)
    → first_refused (values_of Sealing key header first last plain) ≡ None
unfolding values_of
none_refused-sealing key header first last plain = none_refused-numbered key header first last (chunks (size_in header) plain)

-- an opening: one chunk, and the result for the rest
named_next : (i : ℕ) (refused : Option ℕ) (bytes rest : List ℕ)
    → named i (unless_refused (option_map suc refused) (bytes ++ rest))
    ≡ joined_chunk (Forged i) (Some bytes) (named (i + 1) (unless_refused refused rest))
named_next i None bytes rest = refl
named_next i (Some n) bytes rest =
    let place : i + suc n ≡ i + 1 + n = omega arith in
    let refused_at : ℕ → Result (List ℕ) OpenFault = λ k. Err (Forged k) in
    ap refused_at place

named_first : (i : ℕ) (value : Option (List ℕ)) (values : List (Option (List ℕ)))
    → named i (answer (value ∷ values)) ≡ joined_chunk (Forged i) value (named (i + 1) (answer values))
named_first i None values =
    let refused_at : ℕ → Result (List ℕ) OpenFault = λ k. Err (Forged k) in
    ap refused_at (add-zero i)
named_first i (Some bytes) values = named_next i (first_refused values) bytes (joined values)

named-numbered : (key header : List ℕ) (i : ℕ) (last : Bool) (parts : List (List ℕ))
    → named i (answer (numbered (value_at Opening key header) i last parts)) ≡ unsealed_by key header i last parts
unfolding numbered unsealed_by
named-numbered key header i last [] = refl
named-numbered key header i last (part ∷ rest) =
    named_first i _ (numbered (value_at Opening key header) (i + 1) last rest)
    ∙ rw (named-numbered key header (i + 1) last rest) refl

pub named-opening : (key header : List ℕ) (first : ℕ) (last : Bool) (body : List ℕ)
    → named first (answer (values_of Opening key header first last body))
    ≡ unsealed_by key header first last (sealed_chunks (size_in header) body)
unfolding values_of
named-opening key header first last body = named-numbered key header first last (sealed_chunks (size_in header) body)

-- a checking
same_refused : (value : Option (List ℕ)) (checks opens : List (Option (List ℕ)))
    → first_refused checks ≡ first_refused opens
    → first_refused (option_map (λ _. []) value ∷ checks) ≡ first_refused (value ∷ opens)
same_refused None checks opens same = refl
same_refused (Some bytes) checks opens same = ap (λ o. option_map suc o) same

refused-numbered : (key header : List ℕ) (i : ℕ) (last : Bool) (parts : List (List ℕ))
    → first_refused (numbered (value_at Checking key header) i last parts)
    ≡ first_refused (numbered (value_at Opening key header) i last parts)
unfolding numbered
refused-numbered key header i last [] = refl
refused-numbered key header i last (part ∷ rest) =
    same_refused _ (numbered (value_at Checking key header) (i + 1) last rest)
    (numbered (value_at Opening key header) (i + 1) last rest)
    (refused-numbered key header (i + 1) last rest)

pub refused-checking : (key header : List ℕ) (first : ℕ) (last : Bool) (body : List ℕ)
    → first_refused (values_of Checking key header first last body)
    ≡ first_refused (values_of Opening key header first last body)
unfolding values_of
refused-checking key header first last body = refused-numbered key header first last (sealed_chunks (size_in header) body)

-- the pieces before the least that is refused, or all of them
some_under : (o : Option ℕ) (n : ℕ) → option_map suc o ≡ Some n → (m : ℕ) × (o ≡ Some m) × (n ≡ suc m)
some_under None n e = cc
some_under (Some m) n e = (m, refl, cc)

pub all_have_bytes : (values : List (Option (List ℕ))) (n : ℕ) → first_refused values ≡ None → n < length values
    → (bytes : List ℕ) × (get_or values n None ≡ Some bytes)
all_have_bytes [] n all at = absurd (omega arith)
all_have_bytes (None ∷ values) n all at = cc
all_have_bytes (Some bytes ∷ values) zero all at = (bytes, refl)
all_have_bytes (Some bytes ∷ values) (suc n) all at =
    all_have_bytes values n (none_under (first_refused values) all) (omega arith)

pub refused_has_none : (values : List (Option (List ℕ))) (n : ℕ) → first_refused values ≡ Some n
    → (n < length values) × (get_or values n None ≡ None)
refused_has_none [] n e = cc
refused_has_none (None ∷ values) n e = let z : n ≡ 0 = cc in rw z (omega arith, refl)
refused_has_none (Some bytes ∷ values) n e =
    let (m, is, next) = some_under (first_refused values) n e in
    let (inside, none_here) = refused_has_none values m is in
    rw next (omega arith, none_here)

pub before_have_bytes : (values : List (Option (List ℕ))) (n k : ℕ) → first_refused values ≡ Some n → k < n
    → (bytes : List ℕ) × (get_or values k None ≡ Some bytes)
before_have_bytes [] n k e below = cc
before_have_bytes (None ∷ values) n k e below = let z : n ≡ 0 = cc in absurd (omega arith)
before_have_bytes (Some bytes ∷ values) n zero e below = (bytes, refl)
before_have_bytes (Some bytes ∷ values) n (suc k) e below =
    let (m, is, next) = some_under (first_refused values) n e in
    before_have_bytes values m k is (omega arith)
