-- Outputs as a map keeps them, and as contracts see them: a name is found by its bytes.
use Rattle.std.proofs.Common.{◌≡◌, ℕ, Bool, true, false, cond, List, [], ◌∷◌, Some, None, String, refl, ap, string_bytes, bytes_eq}
use Rattle.std.proofs.lemmas.Map.Text.{is_eq-slice_cmp}
use Rattle.std.specs.Option.{option_map}
use Rattle.std.specs.Map.{lookup, set_value}
use Rattle.std.specs.BTreeMap.{is_at}
use Rattle.std.specs.Ordering.{nat_cmp}
use Rattle.std.specs.Cmp.Lexicographic.{slice_cmp}
use Rattle.std.specs.declared.alloc.Global.{Global}
use Rattle.line_core.specs.declared.listed.ListedOutput.{ListedOutput}
use Rattle.line_core.specs.Listed.{Listing, listing, listings, listed_at, with_met}

-- the entries of a map of outputs
abbrev pub Entries : Type 0
Entries = List (String Global × ListedOutput)

-- the map's test of a key
abbrev pub is_name : List ℕ → String Global → Bool
is_name name = is_at (λ k. slice_cmp nat_cmp name (string_bytes k))

abbrev pub line_of : ListedOutput → ℕ × ℕ
line_of o = (o.number, o.bytes)

pub listed_at-listings : (name : List ℕ) (es : Entries)
    → listed_at name (listings es) ≡ option_map line_of (lookup (is_name name) es)
listed_at-listings name [] = refl
listed_at-listings name (e ∷ es) =
    let rest = lookup (is_name name) es in
    rw (is_eq-slice_cmp name (string_bytes e.0)) (elim (bytes_eq name (string_bytes e.0)) as (λ b.
    cond b (Some (line_of e.1)) (listed_at name (listings es)) ≡ option_map line_of (cond b (Some e.1) rest))
    [ true ↦ refl | false ↦ listed_at-listings name es ])

pub with_met-none : (name : List ℕ) (es : Entries) → lookup (is_name name) es ≡ None
    → with_met name (listings es) ≡ listings es
with_met-none name [] absent = refl
with_met-none name (e ∷ es) absent =
    let same = is_eq-slice_cmp name (string_bytes e.0) in
    let met : Listing = record (listing e) { is_met = true } in
    elim (bytes_eq name (string_bytes e.0)) as (λ b. cond b (Some e.1) (lookup (is_name name) es) ≡ None
    → cond b (met ∷ listings es) (listing e ∷ with_met name (listings es)) ≡ listing e ∷ listings es)
    [ true ↦ (λ h. cc) | false ↦ (λ h. ap (λ os. listing e ∷ os) (with_met-none name es h)) ] (rw same at absent)

pub with_met-some : (name : List ℕ) (es : Entries) (o : ListedOutput) → lookup (is_name name) es ≡ Some o
    → listings (set_value (is_name name) es (record o { is_met = true })) ≡ with_met name (listings es)
with_met-some name [] o found = cc
with_met-some name (e ∷ es) o found =
    let same = is_eq-slice_cmp name (string_bytes e.0) in
    let met : ListedOutput = record o { is_met = true } in
    let met_here : Listing = record (listing e) { is_met = true } in
    rw same (elim (bytes_eq name (string_bytes e.0)) as (λ b. cond b (Some e.1) (lookup (is_name name) es) ≡ Some o
    → listings (cond b ((e.0, met) ∷ es) (e ∷ set_value (is_name name) es met))
    ≡ cond b (met_here ∷ listings es) (listing e ∷ with_met name (listings es))) [
      | true ↦ (λ h. let is_it : e.1 ≡ o = cc in rw is_it refl)
      | false ↦ (λ h. ap (λ os. listing e ∷ os) (with_met-some name es o h))
    ] (rw same at found))
