use Rattle.std.proofs.Common.{List, [], ◌<◌, ◌≡◌, ℕ, Bor, map, length, get_or, sym, subst, rules, arith}
use Rattle.std.proofs.lemmas.List.{length-map, get_or-map}
use Rattle.folder_core.specs.Places.{IsLastName, HasNoLastName}
use Rattle.folder_core.proofs.Names.{FoundUpTo, none_found, one_found, found_before, all_found}
use Rattle.folder_core.proofs.places.are_apart.Goals as goal

abbrev texts : List (Bor (List ℕ)) → List (List ℕ)
texts files = map (λ file. file.now) files

inside : (files : List (Bor (List ℕ))) (i : ℕ) → i < length files → i < length (texts files)
inside files i less = omega (arith, less, length-map files (λ file. file.now))

at : (P : List ℕ → Type 0) (files : List (Bor (List ℕ))) (i : ℕ) (d : Bor (List ℕ)) → i < length files → P (get_or files i d).now → P (get_or (texts files) i [])
at P files i d less h = subst P (sym (get_or-map (λ file. file.now) files i d [] less)) h

pub files-init : goal.files-init
files-init c = none_found (texts c.args.files.now) c.new-names.result c.new-names.ensures.empty

pub returns-in_default-clause-no_name : goal.returns-in_default-clause-no_name
returns-in_default-clause-no_name c = λ _. (
  c.files.file-index,
  inside c.args.files.now c.files.file-index c.files-test.true,
  at HasNoLastName c.args.files.now c.files.file-index _ c.files-test.true (c.in_default.ensures.none (search rules)),
)

pub returns-in-Ok-false-clause-same_name : goal.returns-in-Ok-false-clause-same_name
returns-in-Ok-false-clause-same_name c = λ _.
    let is = at (λ path. IsLastName path c.in-Some.name.now) c.args.files.now c.files.file-index _ c.files-test.true c.in-Some.ensures.name in
    found_before (texts c.args.files.now) c.files.file-index c.files.names c.in-Some.name (inside c.args.files.now c.files.file-index c.files-test.true) c.files.invariant is (search rules)

pub files-preserved : goal.files-preserved
files-preserved c =
    let is = at (λ path. IsLastName path c.in-Some.name.now) c.args.files.now c.files.file-index _ c.files-test.true c.in-Some.ensures.name in
    one_found (texts c.args.files.now) c.files.file-index c.files.names c.insert.new.self c.in-Some.name (inside c.args.files.now c.files.file-index c.files-test.true) c.files.invariant is (search rules) c.in-Ok-true.ensures.updates

pub returns-clause-apart : goal.returns-clause-apart
returns-clause-apart c =
    let long : c.files.file-index ≡ length (texts c.args.files.now) = omega (arith, length-map c.args.files.now (λ file. file.now)) in
    all_found (texts c.args.files.now) c.files.names (subst (λ count. FoundUpTo (texts c.args.files.now) count c.files.names) long c.files.invariant)
