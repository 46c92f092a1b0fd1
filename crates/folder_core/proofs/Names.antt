-- The base names of paths.
use Rattle.std.proofs.Common.{◌≡◌, ◌≢◌, ◌∙◌, ◌<◌, ◌≤◌, ◌+◌, ℕ, Bool, true, false, cond, ◌||◌, List, [], ◌∷◌, ◌++◌, Bor, Option, Some, None, MatchOption, take, drop, length, get_or, refl, sym, ap, ap₂, subst, arith, take-append-drop, take_all, length-take, length-append, get_or-take, ⊎_elim}
use Rattle.std.specs.BTreeSet.{BTreeSet, contains, contains_by, Updates}
use Rattle.std.specs.Cmp.Lexicographic.{slice_cmp, bytes_decides, nat_list_eq_equiv}
use Rattle.std.specs.List.{All, AllZip, IsDistinct, list_any}
use Rattle.std.specs.declared.cmp.Ordering.{Ordering}
use Rattle.std.specs.Ordering.{is_eq, nat_cmp}
use Rattle.std.specs.Str.{bytes_eq}
use Rattle.std.specs.Str.Pattern.{RFindsChar}
use Rattle.std.proofs.lemmas.Grind.{common_steps}
use Rattle.std.proofs.lemmas.List.Elements.{All-from_get_or, all_zip_more, length_all_zip, AllZip-get_or}
use Rattle.std.proofs.lemmas.List.Folds.{list_any-append, Any-from_list_any}
use Rattle.std.proofs.lemmas.Map.Keys.{IsDistinct-push}
use Rattle.std.proofs.lemmas.Map.Made.{AllPairs-from_IsDistinct}
use Rattle.std.proofs.lemmas.Map.Text.{is_eq-slice_cmp}
use Rattle.std.proofs.lemmas.Str.Pattern.{NoCharPasses-char, drop_at_char}
use Rattle.folder_core.specs.Places.{IsBehind, IsNoName, IsLastName, HasNoLastName, AreApart, TwoHaveOne}

-- the result of `rsplit_once` at an ASCII character
pub rsplit_parts : (c : ℕ) (text : List ℕ) (r : Option (Bor (List ℕ) × Bor (List ℕ)))
    → MatchOption r (RFindsChar c text None) (λ x. (i : ℕ) × (j : ℕ) × RFindsChar c text (Some (i, j)) × (x.0.now ≡ take i text) × (x.1.now ≡ drop j text) × (i ≤ j) × (length x.0.now ≡ i) × (length x.1.now + j ≡ length text))
    → c < 128 → MatchOption r (All (λ byte. byte ≢ c) text) (λ x. All (λ byte. byte ≢ c) x.1.now × (text ≡ x.0.now ++ c ∷ x.1.now))
rsplit_parts c text None h low = All-from_get_or (λ byte. byte ≢ c) text 0 (λ i. NoCharPasses-char c text i h low)
rsplit_parts c text (Some x) h low =
    let i = h.0 in
    let j = h.1 in
    let lacks : All (λ byte. byte ≢ c) (drop j text) = All-from_get_or (λ byte. byte ≢ c) (drop j text) 0 (λ k. NoCharPasses-char c (drop j text) k h.2.0 low) in
    let whole : text ≡ take i text ++ c ∷ drop j text = sym (take-append-drop i text) ∙ ap (λ l. take i text ++ l) (drop_at_char c text i j h.2.1 low) in
    rw (h.3, h.4) (lacks, whole)

-- at most one name follows the last slash of a path
no_slash : (front one other : List ℕ) → All (λ byte. byte ≢ 47) one → one ≡ front ++ 47 ∷ other → ⊥
no_slash front one other lacks whole =
    let inside : length front < length one = omega (arith, ap length whole, length-append front (47 ∷ other)) in
    lacks (length front) 0 inside (ap (λ l. get_or l (length front) 0) whole ∙ grind (arith, common_steps))

tails : (front ahead one other : List ℕ) → All (λ byte. byte ≢ 47) one → All (λ byte. byte ≢ 47) other → front ++ 47 ∷ one ≡ ahead ++ 47 ∷ other → one ≡ other
tails [] [] one other h k same = ap (drop 1) same
tails [] (y ∷ ahead) one other h k same = absurd (no_slash ahead one other h (ap (drop 1) same))
tails (x ∷ front) [] one other h k same = absurd (no_slash front other one k (sym (ap (drop 1) same)))
tails (x ∷ front) (y ∷ ahead) one other h k same = tails front ahead one other h k (ap (drop 1) same)

pub behind_is_one : (path one other : List ℕ) → IsBehind path one → IsBehind path other → one ≡ other
behind_is_one path one other h k =
    ⊎_elim
    (λ e. ⊎_elim (λ f. sym e ∙ f) (λ f. absurd (no_slash f.0 one other h.0 (sym e ∙ f.1))) k.1)
    (λ e. ⊎_elim (λ f. absurd (no_slash e.0 other one k.0 (sym f ∙ e.1))) (λ f. tails e.0 f.0 one other h.0 k.0 (sym e.1 ∙ f.1)) k.1)
    h.1

-- so a path without a base name has none
pub no_last_name : (path name : List ℕ) → HasNoLastName path → IsLastName path name → ⊥
no_last_name path name none is = is.1 (subst IsNoName (behind_is_one path none.0 name none.1 is.0) none.2)

-- The names found so far, and the set of them.
abbrev pub in_order : Bor (List ℕ) → Bor (List ℕ) → Ordering
in_order one other = slice_cmp nat_cmp one.now other.now

-- the first `count` paths have base names, no two of them the same, and the set has these
abbrev pub FoundUpTo : List (List ℕ) → ℕ → BTreeSet (Bor (List ℕ)) → Type 0
FoundUpTo paths count found = (names : List (List ℕ)) × AllZip IsLastName (take count paths) names × IsDistinct bytes_eq names
    × ((bytes : List ℕ) → contains_by (λ name. slice_cmp nat_cmp bytes name.now) found ≡ list_any (bytes_eq bytes) names)

pub none_found : (paths : List (List ℕ)) (found : BTreeSet (Bor (List ℕ))) → found.keys ≡ [] → FoundUpTo paths 0 found
unfolding IsDistinct
none_found paths found empty = ([], tt, tt, λ bytes. ap (list_any (λ name. is_eq (slice_cmp nat_cmp bytes name.now))) empty)

pub either : (a b : Bool) → cond a true b ≡ (b || (a || false))
either true true = refl
either true false = refl
either false true = refl
either false false = refl

-- one more name
pub one_found : (paths : List (List ℕ)) (i : ℕ) (found more : BTreeSet (Bor (List ℕ))) (name : Bor (List ℕ)) → i < length paths → FoundUpTo paths i found
    → IsLastName (get_or paths i []) name.now → contains in_order found name ≡ false → Updates in_order found more name true → FoundUpTo paths (i + 1) more
one_found paths i found more name inside so_far is absent updates =
    let names = so_far.0 in
    let same : get_or paths i [] ≡ get_or paths i (get_or paths i []) = grind (arith, common_steps) in
    let turned : (bytes : List ℕ) → is_eq (slice_cmp nat_cmp name.now bytes) ≡ bytes_eq bytes name.now = λ bytes. is_eq-slice_cmp name.now bytes ∙ nat_list_eq_equiv.symm name.now bytes in (
      names ++ name.now ∷ [],
      all_zip_more IsLastName paths names i (get_or paths i []) name.now inside same so_far.1 is,
      IsDistinct-push nat_list_eq_equiv names name.now so_far.2 (sym (so_far.3 name.now) ∙ absent),
      λ bytes. updates.0 (record { ref_ptr = (0, 0); now = bytes })
          ∙ ap₂ (λ a b. cond a true b) (turned bytes) (so_far.3 bytes)
          ∙ either (bytes_eq bytes name.now) (list_any (bytes_eq bytes) names)
          ∙ sym (list_any-append (bytes_eq bytes) names (name.now ∷ [])),
    )

-- a name found before
pub found_before : (paths : List (List ℕ)) (i : ℕ) (found : BTreeSet (Bor (List ℕ))) (name : Bor (List ℕ)) → i < length paths → FoundUpTo paths i found
    → IsLastName (get_or paths i []) name.now → contains in_order found name ≡ true → TwoHaveOne paths
found_before paths i found name inside so_far is present =
    let names = so_far.0 in
    let any = Any-from_list_any (bytes_eq name.now) names (sym (so_far.3 name.now) ∙ present) in
    let k = any.0 in
    let long : length (take i paths) ≡ length names = length_all_zip IsLastName (take i paths) names so_far.1 in
    let earlier : k < i = omega (arith, any.2, long, length-take i paths) in
    let one = AllZip-get_or IsLastName (take i paths) names k [] any.1 so_far.1 (omega (arith, any.2, long)) in
    let path : get_or (take i paths) k [] ≡ get_or paths k [] = get_or-take i paths k [] earlier in
    let same : get_or names k any.1 ≡ name.now = any.3 ∙ sym ((bytes_decides name.now any.1).0 any.4) in
    (k, i, earlier, inside, (name.now, subst (λ l. IsLastName l name.now) path (subst (IsLastName (get_or (take i paths) k [])) same one), is))

-- all names were found
pub all_found : (paths : List (List ℕ)) (found : BTreeSet (Bor (List ℕ))) → FoundUpTo paths (length paths) found → AreApart paths
all_found paths found so_far = (
  so_far.0,
  subst (λ l. AllZip IsLastName l so_far.0) (take_all (length paths) paths (omega arith)) so_far.1,
  AllPairs-from_IsDistinct bytes_decides so_far.0 so_far.2,
)
