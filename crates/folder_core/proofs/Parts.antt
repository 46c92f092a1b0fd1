-- The parts of a path and its place: what the loop over its slashes finds, and what a place is.
use Rattle.std.proofs.Common.{◌≡◌, ◌≢◌, ◌∙◌, ◌<◌, ◌+◌, ℕ, suc, Bool, true, false, not, ◌==◌, ◌||◌, if◌then◌else◌, List, [], ◌∷◌, ◌++◌, Option, Some, None, append_assoc, append-nil, ap, ap₂, arith, bytes_eq, codes, length, ne_eqb, refl, subst, sym, option_map, cond, drop, get_or, option_to_list, take, ⊎_elim}
use Rattle.std.proofs.lemmas.Grind.{flat_map-append}
use Rattle.std.proofs.lemmas.List.{append_cancel_left}
use Rattle.std.proofs.lemmas.Bool.{cases_Bool}
use Rattle.std.proofs.lemmas.Bool.Decides.{eqb_tells}
use Rattle.std.proofs.lemmas.List.Elements.{All-cons, All-nil, filter-append, filter_map-append}
use Rattle.std.proofs.Math.Seq.{take-suc}
use Rattle.std.proofs.lemmas.List.Folds.{list_any-append}
use Rattle.std.proofs.lemmas.Option.{same_Some}
use Rattle.std.proofs.lemmas.Slice.Eq.{bytes_eq-Decides}
use Rattle.std.specs.List.{All, cons_option, list_any}
use Rattle.folder_core.specs.Trees.{IsStep, begun, is_nothing, is_up, last_or, named, parts, place, places, steps}

-- a part in front of what begins with a slash, or of nothing
pub parts_front : (part more : List ℕ) (others : List (List ℕ)) → All (λ byte. byte ≢ 47) part → parts more ≡ [] ∷ others → parts (part ++ more) ≡ part ∷ others
parts_front [] more others apart is = is
parts_front (byte ∷ part) more others apart is =
    let less : 0 < length (byte ∷ part) = omega arith in
    let other : (byte == 47) ≡ false = ne_eqb byte 47 (apart 0 0 less) in
    let below : All (λ b. b ≢ 47) part = λ k d inside. apart (suc k) d (omega (arith, inside)) in
    ap (λ b. if b then [] ∷ parts (part ++ more) else begun byte (parts (part ++ more))) other ∙ ap (begun byte) (parts_front part more others below is)

-- the last of some parts is the one that was added last
pub last_pushed : (first part : List ℕ) (others : List (List ℕ)) → last_or first (others ++ part ∷ []) ≡ part
last_pushed first part [] = refl
last_pushed first part (other ∷ others) = last_pushed other part others

-- the steps of one part more
pub steps_push : (done : List (List ℕ)) (part : List ℕ) → steps (named (done ++ part ∷ [])) ≡ steps (named done) ++ steps (named (part ∷ []))
steps_push done part =
    ap steps (filter-append (λ p. not (is_nothing p)) done (part ∷ [])) ∙ flat_map-append (λ p. 47 ∷ p) (named done) (named (part ∷ []))

-- two texts that aren't the same
unlike : (one other : List ℕ) → one ≢ other → bytes_eq one other ≡ false
unlike one other apart = ⊎_elim (λ yes. absurd (apart ((bytes_eq-Decides one other).0 yes))) (λ is. is) (cases_Bool (bytes_eq one other))

-- a place, by what the tests of its definition say
place_by : (path : List ℕ) (up nothing : Bool) → list_any is_up (parts path) ≡ up → is_nothing (last_or [] (parts path)) ≡ nothing
    → place path ≡ (if up || nothing then None else Some (named (parts path)))
unfolding place
place_by path up nothing a b = ap₂ (λ x y. if x || y then None else Some (named (parts path))) a b

either_way : (up : Bool) (ps : List (List ℕ)) → (if up || true then None else Some ps) ≡ None
either_way true ps = refl
either_way false ps = refl

-- what the loop has read of a path: some parts, none of them `..`, of which the steps were added
abbrev pub IsReadUpTo : List ℕ → List ℕ → List ℕ → List ℕ → Type 0
IsReadUpTo path rest old new = (done : List (List ℕ)) × (parts path ≡ done ++ parts rest) × (list_any is_up done ≡ false) × (new ≡ old ++ steps (named done))

pub one_read : (path rest part more old new next : List ℕ) → IsReadUpTo path rest old new → rest ≡ part ++ 47 ∷ more → All (λ byte. byte ≢ 47) part
    → part ≢ codes ".." → next ≡ new ++ steps (named (part ∷ [])) → IsReadUpTo path more old next
one_read path rest part more old new next (done, whole, down, is) cut apart other added =
    let front : parts rest ≡ part ∷ parts more = ap parts cut ∙ parts_front part (47 ∷ more) (parts more) apart refl in (
      done ++ part ∷ [],
      whole ∙ ap (λ l. done ++ l) front ∙ sym (append_assoc done (part ∷ []) (parts more)),
      list_any-append is_up done (part ∷ []) ∙ ap₂ (λ a b. a || (b || false)) down (unlike part (codes "..") other),
      added ∙ ap (λ l. l ++ steps (named (part ∷ []))) is ∙ append_assoc old (steps (named done)) (steps (named (part ∷ [])))
          ∙ ap (λ l. old ++ l) (sym (steps_push done part)),
    )

pub up_read : (path rest part more old new : List ℕ) → IsReadUpTo path rest old new → rest ≡ part ++ 47 ∷ more → All (λ byte. byte ≢ 47) part
    → part ≡ codes ".." → place path ≡ None
up_read path rest part more old new (done, whole, down, is) cut apart up =
    let front : parts path ≡ done ++ part ∷ parts more = whole ∙ ap (λ l. done ++ l) (ap parts cut ∙ parts_front part (47 ∷ more) (parts more) apart refl) in
    let any : list_any is_up (parts path) ≡ true =
    ap (list_any is_up) front ∙ list_any-append is_up done (part ∷ parts more) ∙ ap₂ (λ a b. a || (b || list_any is_up (parts more))) down ((bytes_eq-Decides part (codes "..")).1 up) in
    place_by path true (is_nothing (last_or [] (parts path))) any refl

-- at the end: the rest is one part
last_read : (path rest old new : List ℕ) → (read : IsReadUpTo path rest old new) → All (λ byte. byte ≢ 47) rest → parts path ≡ read.0 ++ rest ∷ []
last_read path rest old new read apart =
    read.1 ∙ ap (λ l. read.0 ++ l) (ap parts (sym (append-nil rest)) ∙ parts_front rest [] [] apart refl)

last_is : (path rest old new : List ℕ) → (read : IsReadUpTo path rest old new) → All (λ byte. byte ≢ 47) rest → last_or [] (parts path) ≡ rest
last_is path rest old new read apart = ap (last_or []) (last_read path rest old new read apart) ∙ last_pushed [] rest read.0

any_is : (path rest old new : List ℕ) → (read : IsReadUpTo path rest old new) → All (λ byte. byte ≢ 47) rest → list_any is_up (parts path) ≡ (is_up rest || false)
any_is path rest old new read apart =
    ap (list_any is_up) (last_read path rest old new read apart) ∙ list_any-append is_up read.0 (rest ∷ []) ∙ ap (λ a. a || (is_up rest || false)) read.2

pub end_nothing : (path rest old new : List ℕ) → IsReadUpTo path rest old new → All (λ byte. byte ≢ 47) rest → is_nothing rest ≡ true → place path ≡ None
end_nothing path rest old new read apart is =
    place_by path (list_any is_up (parts path)) true refl (ap is_nothing (last_is path rest old new read apart) ∙ is)
    ∙ either_way (list_any is_up (parts path)) (named (parts path))

pub end_up : (path rest old new : List ℕ) → IsReadUpTo path rest old new → All (λ byte. byte ≢ 47) rest → rest ≡ codes ".." → place path ≡ None
end_up path rest old new read apart is =
    place_by path true (is_nothing (last_or [] (parts path))) (any_is path rest old new read apart ∙ ap (λ b. b || false) ((bytes_eq-Decides rest (codes "..")).1 is)) refl

pub end_named : (path rest old new next : List ℕ) → IsReadUpTo path rest old new → All (λ byte. byte ≢ 47) rest → rest ≢ [] → rest ≢ codes "." → rest ≢ codes ".."
    → next ≡ new ++ steps (named (rest ∷ [])) → option_map (λ ps. old ++ steps ps) (place path) ≡ Some next
end_named path rest old new next read apart some dot up added =
    let a : list_any is_up (parts path) ≡ false = any_is path rest old new read apart ∙ ap (λ b. b || false) (unlike rest (codes "..") up) in
    let b : is_nothing (last_or [] (parts path)) ≡ false =
    ap is_nothing (last_is path rest old new read apart) ∙ ap₂ (λ x y. x || y) (unlike rest [] some) (unlike rest (codes ".") dot) in
    let is : place path ≡ Some (named (parts path)) = place_by path false false a b in
    let end : old ++ steps (named (parts path)) ≡ next =
    ap (λ l. old ++ steps (named l)) (last_read path rest old new read apart) ∙ ap (λ l. old ++ l) (steps_push read.0 rest)
    ∙ sym (append_assoc old (steps (named read.0)) (steps (named (rest ∷ [])))) ∙ ap (λ l. l ++ steps (named (rest ∷ []))) (sym read.3) ∙ sym added in
    ap (option_map (λ ps. old ++ steps ps)) is ∙ ap Some end

-- what a place is
abbrev IsNumberFree : List ℕ → Type 0
IsNumberFree part = All (λ byte. byte ≢ 47) part

front_free : (byte : ℕ) (part : List ℕ) → byte ≢ 47 → IsNumberFree part → IsNumberFree (byte ∷ part)
front_free byte part other free = All-cons (λ b. b ≢ 47) byte part other free

begun_free : (byte : ℕ) (ps : List (List ℕ)) → byte ≢ 47 → All IsNumberFree ps → All IsNumberFree (begun byte ps)
begun_free byte [] other free = All-cons IsNumberFree (byte ∷ []) [] (front_free byte [] other (All-nil (λ b. b ≢ 47))) (All-nil IsNumberFree)
begun_free byte (p ∷ ps) other free =
    All-cons IsNumberFree (byte ∷ p) ps (front_free byte p other (free 0 [] (omega arith))) (λ k d less. free (suc k) d (omega (arith, less)))

parts_free : (path : List ℕ) → All IsNumberFree (parts path)
parts_free [] = All-cons IsNumberFree [] [] (All-nil (λ b. b ≢ 47)) (All-nil IsNumberFree)
parts_free (byte ∷ path) =
    ⊎_elim
    (λ slash. subst (All IsNumberFree) (sym (ap (λ b. if b then [] ∷ parts path else begun byte (parts path)) slash.0)) (All-cons IsNumberFree [] (parts path) (All-nil (λ b. b ≢ 47)) (parts_free path)))
    (λ other. subst (All IsNumberFree) (sym (ap (λ b. if b then [] ∷ parts path else begun byte (parts path)) other.0)) (begun_free byte (parts path) other.1 (parts_free path)))
    (eqb_tells byte 47)

neither : (a b : Bool) → (a || b) ≡ false → (a ≡ false) × (b ≡ false)
neither false false is = (refl, refl)
neither true b is = absurd (grind (arith, is))
neither false true is = absurd (grind (arith, is))

not_the_same : (one other : List ℕ) → bytes_eq one other ≡ false → one ≢ other
not_the_same one other differs is = absurd (grind (arith, sym ((bytes_eq-Decides one other).1 is) ∙ differs))

-- what a part adds to the named ones
passed : (part : List ℕ) (ps : List (List ℕ)) (b : Bool) → is_nothing part ≡ b → named (part ∷ ps) ≡ (if b then named ps else part ∷ named ps)
passed part ps true is = ap (λ b. cond (not b) (part ∷ named ps) (named ps)) is
passed part ps false is = ap (λ b. cond (not b) (part ∷ named ps) (named ps)) is

named_steps : (ps : List (List ℕ)) → All IsNumberFree ps → list_any is_up ps ≡ false → All IsStep (named ps)
named_steps [] free down = All-nil IsStep
named_steps (p ∷ ps) free down =
    let parts_down = neither (is_up p) (list_any is_up ps) down in
    let below : All IsStep (named ps) = named_steps ps (λ k d less. free (suc k) d (omega (arith, less))) parts_down.1 in
    ⊎_elim
    (λ nothing. subst (All IsStep) (sym (passed p ps true nothing)) below)
    (λ something.
    let (some, dot) = neither (bytes_eq p []) (bytes_eq p (codes ".")) something in
    subst (All IsStep) (sym (passed p ps false something))
    (All-cons IsStep p (named ps) (not_the_same p [] some, not_the_same p (codes ".") dot, not_the_same p (codes "..") parts_down.0, free 0 [] (omega arith)) below))
    (cases_Bool (is_nothing p))

some_named : (first : List ℕ) (ps : List (List ℕ)) → is_nothing (last_or first ps) ≡ false → named (first ∷ ps) ≢ []
some_named first [] something = λ is. absurd (grind (arith, sym (passed first [] false something) ∙ is))
some_named first (p ∷ ps) something =
    ⊎_elim
    (λ nothing. subst (λ l. l ≢ []) (sym (passed first (p ∷ ps) true nothing)) (some_named p ps something))
    (λ other is. absurd (grind (arith, sym (passed first (p ∷ ps) false other) ∙ is)))
    (cases_Bool (is_nothing first))

any_named : (ps : List (List ℕ)) → is_nothing (last_or [] ps) ≡ false → named ps ≢ []
any_named [] something = absurd (grind (arith, something))
any_named (p ∷ ps) something = some_named p ps something

-- a path with a place
of_some : (up nothing : Bool) (ps one : List (List ℕ)) → (if up || nothing then None else Some ps) ≡ Some one → (up ≡ false) × (nothing ≡ false) × (one ≡ ps)
of_some false false ps one is = (refl, refl, sym (same_Some _ _ is))
of_some true b ps one is = absurd (grind (arith, is))
of_some false true ps one is = absurd (grind (arith, is))

placed : (path : List ℕ) (one : List (List ℕ)) → place path ≡ Some one
    → (list_any is_up (parts path) ≡ false) × (is_nothing (last_or [] (parts path)) ≡ false) × (one ≡ named (parts path))
placed path one is =
    of_some (list_any is_up (parts path)) (is_nothing (last_or [] (parts path))) (named (parts path)) one
    (sym (place_by path (list_any is_up (parts path)) (is_nothing (last_or [] (parts path))) refl refl) ∙ is)

pub stays_below : (path : List ℕ) (ps : List (List ℕ)) → place path ≡ Some ps → (ps ≢ []) × All IsStep ps
stays_below path ps is =
    let (down, something, same) = placed path ps is in
    (subst (λ l. l ≢ []) (sym same) (any_named (parts path) something), subst (All IsStep) (sym same) (named_steps (parts path) (parts_free path) down))

-- the parts of the steps are those of the place
parts_of_steps : (ps : List (List ℕ)) → All IsStep ps → parts (steps ps) ≡ [] ∷ ps
parts_of_steps [] steps_are = refl
parts_of_steps (p ∷ ps) steps_are =
    ap (λ l. [] ∷ l) (parts_front p (steps ps) ps (steps_are 0 [] (omega arith)).3 (parts_of_steps ps (λ k d less. steps_are (suc k) d (omega (arith, less)))))

pub stay_apart : (path other folder : List ℕ) (one two : List (List ℕ)) → place path ≡ Some one → place other ≡ Some two
    → folder ++ steps one ≡ folder ++ steps two → one ≡ two
stay_apart path other folder one two first second same =
    ap (drop 1) (sym (parts_of_steps one (stays_below path one first).1) ∙ ap parts (append_cancel_left folder (steps one) (steps two) same)
    ∙ parts_of_steps two (stays_below other two second).1)

of_one : (o : Option (List ℕ)) → cons_option o [] ≡ option_to_list o
of_one None = refl
of_one (Some end) = refl

-- the places of one path more
more_places : (paths : List (List ℕ)) (i : ℕ) → i < length paths → places (take (i + 1) paths) ≡ places (take i paths) ++ option_to_list (option_map steps (place (get_or paths i [])))
more_places paths i inside =
    let next : i + 1 ≡ suc i = omega arith in
    ap (λ n. places (take n paths)) next ∙ ap places (take-suc paths i [] inside)
    ∙ filter_map-append (λ path. option_map steps (place path)) (take i paths) (get_or paths i [] ∷ [])
    ∙ ap (λ l. places (take i paths) ++ l) (of_one (option_map steps (place (get_or paths i []))))

pub one_place : (paths : List (List ℕ)) (i : ℕ) (found more : List (List ℕ)) (end : List ℕ) → i < length paths → found ≡ places (take i paths)
    → Some end ≡ option_map steps (place (get_or paths i [])) → more ≡ found ++ end ∷ [] → more ≡ places (take (i + 1) paths)
one_place paths i found more end inside so_far is pushed =
    pushed ∙ ap (λ l. l ++ end ∷ []) so_far ∙ ap (λ o. places (take i paths) ++ option_to_list o) is ∙ sym (more_places paths i inside)

pub no_place : (paths : List (List ℕ)) (i : ℕ) (found more : List (List ℕ)) → i < length paths → found ≡ places (take i paths)
    → None ≡ option_map steps (place (get_or paths i [])) → more ≡ found → more ≡ places (take (i + 1) paths)
no_place paths i found more inside so_far is kept =
    kept ∙ so_far ∙ sym (append-nil (places (take i paths))) ∙ ap (λ o. places (take i paths) ++ option_to_list o) is ∙ sym (more_places paths i inside)
