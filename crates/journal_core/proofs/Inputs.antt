-- What a reader had left, if it reports its bytes.
use Rattle.std.proofs.Common.{◌≡◌, ℕ, ◌<◌, ◌≤◌, List, [], ◌∷◌, ◌++◌, length, take, Option, None, Some, IfSome, ap, ◌∙◌, subst, arith, append-nil, length-append}
use Rattle.std.proofs.KnownBytes.{Consumes-trans, Consumes-whole}
use Rattle.std.proofs.Math.Seq.{take_at}
use Rattle.io_core.specs.Streams.{Consumes, IsAtEnd, LacksSome}
use Rattle.journal_core.specs.declared.verdict.Verdict.{Verdict}
use Rattle.journal_core.specs.Verdict.{IsVerdict, verdict_text}
use Rattle.journal_core.proofs.Unique.{same_verdict}

-- a fact that holds in any case
pub holds_anyway : (a : Option (List ℕ)) (n : ℕ) (P : Type 0) → P → IfSome a (λ input. length input < n → P)
holds_anyway None n P p = tt
holds_anyway (Some xs) n P p = λ small. p

-- an input from which n bytes were read has at least n bytes
pub not_so_long : (a b : Option (List ℕ)) (n : ℕ) (done : List ℕ) (P : Type 0) → Consumes a b done → n ≤ length done → IfSome a (λ input. length input < n → P)
not_so_long None b n done P read long = tt
not_so_long (Some xs) None n done P read long = absurd read
not_so_long (Some xs) (Some ys) n done P read long = λ small. absurd (omega (arith, ap (length {A = ℕ}) read, length-append done ys))

-- at the end, what was read is all that was left
pub all_read : (a b c : Option (List ℕ)) (done last : List ℕ) (P : List ℕ → Type 0) → Consumes a b done → Consumes b c last → last ≡ [] → IsAtEnd c → P done → IfSome a P
all_read a b c done last P before then none end is =
    Consumes-whole a c done P (subst (Consumes a c) (ap (λ l. done ++ l) none ∙ append-nil done) (Consumes-trans a b c done last before then)) end is

-- a prefix of a block that one buffer fills is a prefix of the buffer
pub front_of : (n len : ℕ) (buffer rest : List ℕ) → n ≤ length buffer → length buffer ≡ len → take n (take len (buffer ++ rest)) ≡ take n buffer
front_of n len buffer rest within all = ap (take n) (take_at buffer rest len all)

-- if some of a verdict's line was not written, it lacks some, whichever verdict is right
pub not_whole : (left old new : Option (List ℕ)) (v : Verdict) → IfSome left (λ input. IsVerdict input v)
    → LacksSome old new (verdict_text v ++ 10 ∷ [])
    → IfSome left (λ input. (w : Verdict) → IsVerdict input w → LacksSome old new (verdict_text w ++ 10 ∷ []))
not_whole None old new v is lacks = tt
not_whole (Some input) old new v is lacks = λ w also. subst (λ u. LacksSome old new (verdict_text u ++ 10 ∷ [])) (same_verdict input v w is also) lacks
