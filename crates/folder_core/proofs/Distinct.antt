-- Texts of which no two are the same: what the loop over them has seen.
use Rattle.std.proofs.Common.{◌≡◌, ◌≢◌, ◌∙◌, ◌<◌, ◌+◌, ℕ, suc, true, false, cond, List, [], ◌∷◌, ◌++◌, Bor, take, take_all, length, get_or, sym, ap, ap₂, subst, arith, length-take, get_or-take}
use Rattle.std.specs.BTreeSet.{BTreeSet, contains, contains_by, Updates}
use Rattle.std.specs.Cmp.Lexicographic.{slice_cmp, bytes_decides, nat_list_eq_equiv}
use Rattle.std.specs.List.{AllPairs, IsDistinct, list_any}
use Rattle.std.specs.Ordering.{is_eq, nat_cmp}
use Rattle.std.specs.Str.{bytes_eq}
use Rattle.std.proofs.Math.Seq.{take-suc}
use Rattle.std.proofs.lemmas.List.{get_or_default}
use Rattle.std.proofs.lemmas.List.Folds.{list_any-append, Any-from_list_any}
use Rattle.std.proofs.lemmas.Map.Keys.{IsDistinct-push}
use Rattle.std.proofs.lemmas.Map.Made.{AllPairs-from_IsDistinct}
use Rattle.std.proofs.lemmas.Map.Text.{is_eq-slice_cmp}
use Rattle.folder_core.proofs.Names.{either, in_order}

-- no two of the first `count` texts are the same, and the set has these
abbrev pub SeenUpTo : List (List ℕ) → ℕ → BTreeSet (Bor (List ℕ)) → Type 0
SeenUpTo texts count seen = IsDistinct bytes_eq (take count texts)
    × ((bytes : List ℕ) → contains_by (λ text. slice_cmp nat_cmp bytes text.now) seen ≡ list_any (bytes_eq bytes) (take count texts))

pub none_seen : (texts : List (List ℕ)) (seen : BTreeSet (Bor (List ℕ))) → seen.keys ≡ [] → SeenUpTo texts 0 seen
unfolding IsDistinct
none_seen texts seen empty = (tt, λ bytes. ap (list_any (λ text. is_eq (slice_cmp nat_cmp bytes text.now))) empty)

-- one more text
pub one_seen : (texts : List (List ℕ)) (i : ℕ) (seen more : BTreeSet (Bor (List ℕ))) (text : Bor (List ℕ)) → i < length texts → SeenUpTo texts i seen
    → get_or texts i [] ≡ text.now → contains in_order seen text ≡ false → Updates in_order seen more text true → SeenUpTo texts (i + 1) more
one_seen texts i seen more text inside so_far is absent updates =
    let before = take i texts in
    let next : i + 1 ≡ suc i = omega arith in
    let longer : take (i + 1) texts ≡ before ++ text.now ∷ [] = ap (λ n. take n texts) next ∙ take-suc texts i [] inside ∙ ap (λ (t : List ℕ). before ++ t ∷ []) is in
    let turned : (bytes : List ℕ) → is_eq (slice_cmp nat_cmp text.now bytes) ≡ bytes_eq bytes text.now = λ bytes. is_eq-slice_cmp text.now bytes ∙ nat_list_eq_equiv.symm text.now bytes in (
      subst (IsDistinct bytes_eq) (sym longer) (IsDistinct-push nat_list_eq_equiv before text.now so_far.0 (sym (so_far.1 text.now) ∙ absent)),
      λ bytes. updates.0 (record { ref_ptr = (0, 0); now = bytes })
          ∙ ap₂ (λ a b. cond a true b) (turned bytes) (so_far.1 bytes)
          ∙ either (bytes_eq bytes text.now) (list_any (bytes_eq bytes) before)
          ∙ sym (list_any-append (bytes_eq bytes) before (text.now ∷ []))
          ∙ ap (list_any (bytes_eq bytes)) (sym longer),
    )

-- a text seen before
pub seen_before : (texts : List (List ℕ)) (i : ℕ) (seen : BTreeSet (Bor (List ℕ))) (text : Bor (List ℕ)) → i < length texts → SeenUpTo texts i seen
    → get_or texts i [] ≡ text.now → contains in_order seen text ≡ true → AllPairs (λ one other. one ≢ other) texts → ⊥
seen_before texts i seen text inside so_far is present apart =
    let any = Any-from_list_any (bytes_eq text.now) (take i texts) (sym (so_far.1 text.now) ∙ present) in
    let k = any.0 in
    let earlier : k < i = omega (arith, any.2, length-take i texts) in
    let there : get_or (take i texts) k any.1 ≡ text.now = any.3 ∙ sym ((bytes_decides text.now any.1).0 any.4) in
    let same : get_or texts k any.1 ≡ get_or texts i any.1 =
    sym (get_or-take i texts k any.1 earlier) ∙ there ∙ sym is ∙ get_or_default texts i [] any.1 inside in
    apart k i any.1 earlier inside same

-- all texts were seen
pub all_seen : (texts : List (List ℕ)) (seen : BTreeSet (Bor (List ℕ))) → SeenUpTo texts (length texts) seen → AllPairs (λ one other. one ≢ other) texts
all_seen texts seen so_far =
    AllPairs-from_IsDistinct bytes_decides texts (subst (IsDistinct bytes_eq) (take_all (length texts) texts (omega arith)) so_far.0)
