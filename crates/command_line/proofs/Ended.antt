-- A list of names that grows by one.
use Rattle.std.proofs.Common.{◌≡◌, ◌∙◌, ℕ, zero, suc, List, [], ◌∷◌, ◌++◌, Bor, refl, ap, sym, subst, map, inr, arith, append_assoc}
use Rattle.std.specs.List.{All}
use Rattle.std.proofs.lemmas.List.{map-append}
use Rattle.std.proofs.lemmas.List.Elements.{All-append}
use Rattle.command_line.specs.Names.{each_ended, IsName, IsListOf}

abbrev pub texts : List (Bor (List ℕ)) → List (List ℕ)
texts names = map (λ name. name.now) names

-- one more name follows the others
pub each_ended-more : (s : ℕ) (names : List (List ℕ)) (name : List ℕ) → each_ended s (names ++ name ∷ []) ≡ each_ended s names ++ (name ++ s ∷ [])
each_ended-more s [] name = refl
each_ended-more s (first ∷ names) name =
    ap (λ l. first ++ s ∷ l) (each_ended-more s names name) ∙ sym (append_assoc first (s ∷ each_ended s names) (name ++ s ∷ []))

one : (s : ℕ) (name : List ℕ) → IsName s name → All (IsName s) (name ∷ [])
one s name is zero d less = is
one s name is (suc k) d less = absurd (omega (arith, less))

grown : (names : List (Bor (List ℕ))) (name : Bor (List ℕ)) → texts (names ++ name ∷ []) ≡ texts names ++ name.now ∷ []
grown names name = map-append (λ n. n.now) names (name ∷ [])

are_names : (s : ℕ) (names : List (Bor (List ℕ))) (name : Bor (List ℕ)) → All (IsName s) (texts names) → IsName s name.now
    → All (IsName s) (texts (names ++ name ∷ []))
are_names s names name are h =
    subst (All (IsName s)) (sym (grown names name)) (All-append (IsName s) (texts names) (name.now ∷ []) are (one s name.now h))

end : (s : ℕ) (names : List (Bor (List ℕ))) (name : Bor (List ℕ))
    → each_ended s (texts (names ++ name ∷ [])) ≡ each_ended s (texts names) ++ (name.now ++ s ∷ [])
end s names name = ap (each_ended s) (grown names name) ∙ each_ended-more s (texts names) name.now

-- a name with its separator was cut off the rest
pub one-more : (s : ℕ) (text more : List ℕ) (names : List (Bor (List ℕ))) (name : Bor (List ℕ)) → All (IsName s) (texts names)
    → text ≡ each_ended s (texts names) ++ (name.now ++ s ∷ more) → IsName s name.now
    → All (IsName s) (texts (names ++ name ∷ [])) × (text ≡ each_ended s (texts (names ++ name ∷ [])) ++ more)
one-more s text more names name are is h = (
  are_names s names name are h,
  is ∙ ap (λ l. each_ended s (texts names) ++ l) (sym (append_assoc name.now (s ∷ []) more))
      ∙ sym (append_assoc (each_ended s (texts names)) (name.now ++ s ∷ []) more) ∙ ap (λ l. l ++ more) (sym (end s names name)),
)

-- the rest is the last name
pub last-name : (s : ℕ) (text : List ℕ) (names : List (Bor (List ℕ))) (name : Bor (List ℕ)) → All (IsName s) (texts names)
    → text ≡ each_ended s (texts names) ++ name.now → IsName s name.now → IsListOf s text (texts (names ++ name ∷ []))
last-name s text names name are is h = (
  are_names s names name are h,
  inr (ap (λ l. l ++ s ∷ []) is ∙ append_assoc (each_ended s (texts names)) name.now (s ∷ []) ∙ sym (end s names name)),
)
