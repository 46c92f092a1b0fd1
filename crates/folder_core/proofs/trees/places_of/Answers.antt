use Rattle.std.proofs.Common.{◌≡◌, ◌++◌, ◌∷◌, ◌<◌, ℕ, [], None, Some, List, Bor, map, option_map, string_bytes, rules, ap, arith, sym, ◌∙◌, length, get_or, subst}
use Rattle.std.proofs.lemmas.List.{get_or-map, length-map, map-append}
use Rattle.folder_core.specs.Trees.{place, steps}
use Rattle.folder_core.proofs.Parts.{no_place, one_place}
use Rattle.folder_core.proofs.trees.places_of.Goals.{in-Some+in_ok-push, in_default}
use Rattle.folder_core.proofs.trees.places_of.Goals as goal

at : (P : List ℕ → Type 0) (files : List (Bor (List ℕ))) (i : ℕ) (d : Bor (List ℕ)) → i < length files → P (get_or files i d).now → P (get_or (map (λ file. file.now) files) i [])
at P files i d less h = subst P (sym (get_or-map (λ file. file.now) files i d [] less)) h

pub files-preserved : goal.files-preserved
files-preserved c =
    let paths = map (λ file. file.now) c.args.files.now in
    let inside : c.files.file-index < length paths = omega (arith, c.files-test.true, length-map c.args.files.now (λ file. file.now)) in
    let is : option_map string_bytes c.in_ok-end.field-0 ≡ option_map steps (place (get_or paths c.files.file-index [])) =
    at (λ path. option_map string_bytes c.in_ok-end.field-0 ≡ option_map steps (place path)) c.args.files.now c.files.file-index _ c.files-test.true c.in_ok-end.ensures in
    elim c.match-branch-2.branch [
      | in-Some+in_ok-push w ↦
          let some : Some (string_bytes w.in-Some.end) ≡ option_map string_bytes c.in_ok-end.field-0 = search rules in
          let pushed : c.match-branch-2.found.items ≡ c.files.found.items ++ w.in-Some.end ∷ [] = search rules in
          one_place paths c.files.file-index (map string_bytes c.files.found.items) (map string_bytes c.match-branch-2.found.items) (string_bytes w.in-Some.end) inside c.files.invariant (some ∙ is)
          (ap (map string_bytes) pushed ∙ map-append string_bytes c.files.found.items (w.in-Some.end ∷ []))
      | in_default w ↦
          let none : None ≡ option_map string_bytes c.in_ok-end.field-0 = search rules in
          no_place paths c.files.file-index (map string_bytes c.files.found.items) (map string_bytes c.match-branch-2.found.items) inside c.files.invariant (none ∙ is) (search rules)
    ]
