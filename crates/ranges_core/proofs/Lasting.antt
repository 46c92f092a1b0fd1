-- What was reserved survives a crash, and the next keeper has it.
--
-- The next connection shows one of the databases that the crash may leave. It can't be one without tables, since its
-- trees list both. So its lists are those that its rows hold, and rows hold one list for each key ID and device.
use Rattle.std.proofs.Common.{◌≡◌, inl, inr, ℕ, List, [], ◌∷◌, ◌++◌, length, take, true, false, cond, bytes_eq, ◌==◌, ◌&&◌, refl, sym, ap, subst, ◌∙◌}
use Rattle.std.proofs.Math.Logic.{∥∥₁_elim}
use Rattle.std.specs.List.{AllZip}
use Rattle.std.specs.Coded.{Coded, Coded-set, code_by, coded×, coded_ℕ, coded_list}
use Rattle.std.proofs.lemmas.List.Sorted.{IsPermutation-sym, IsPermutation-trans}
use Rattle.sqlite.specs.Order.{Row}
use Rattle.sqlite.specs.Term.{Term}
use Rattle.sqlite.specs.Schema.{Schema}
use Rattle.sqlite.specs.Tree.{Trees}
use Rattle.sqlite.specs.Effect.{Database, IsDatabase}
use Rattle.sqlite.specs.State.{State, HasCleanDisk, Survives}
use Rattle.sqlite_catalog.specs.Listing.{IsSound}
use Rattle.ranges_core.specs.Lasting.{Begins, Keeps, Last}
use Rattle.ranges_core.specs.Reservations.{TakenRange, taken_range, next_of, HoldLists, Holds, Lists, Opened, with_range}
use Rattle.ranges_core.specs.Tables.{no_schema, ledger_schema}
use Rattle.ranges_core.specs.Writes.{IsReady}
use Rattle.ranges_core.proofs.Runs.{adjacent_same}

-- ---- prefixes

take_more : (before xs ys : List TakenRange) → take (length before) xs ≡ before → take (length before) (xs ++ ys) ≡ before
take_more [] xs ys h = refl
take_more (b ∷ before) [] ys h = absurd cc
take_more (b ∷ before) (x ∷ xs) ys h =
    let first : x ≡ b = cc in
    let rest : take (length before) xs ≡ before = cc in
    rw (first, take_more before xs ys rest) refl

take_all : (xs : List TakenRange) → take (length xs) xs ≡ xs
take_all [] = refl
take_all (x ∷ xs) = ap (λ l. x ∷ l) (take_all xs)

pub begins_itself : (lists : Lists) → Begins lists lists
begins_itself lists key device = take_all (lists key device)

pub begins_reserved : (before lists : Lists) (key : List ℕ) (device count : ℕ) → Begins before lists → Begins before (with_range lists key device count)
begins_reserved before lists key device count begins k d =
    elim (bytes_eq k key && (d == device)) as (λ b. take (length (before k d)) (cond b (lists k d ++ taken_range (next_of (lists k d)) count ∷ []) (lists k d)) ≡ before k d)
    [ true ↦ take_more (before k d) (lists k d) (taken_range (next_of (lists k d)) count ∷ []) (begins k d) | false ↦ begins k d ]

-- ---- rows hold one list

pub one_list : (marks taken : List Row) (a b : Lists) → HoldLists marks taken a → HoldLists marks taken b → (key : List ℕ) (device : ℕ) → a key device ≡ b key device
one_list marks taken a b p q key device =
    let x = p.each key device in let y = q.each key device in
    adjacent_same (a key device) (b key device) x.adjacent y.adjacent (IsPermutation-trans _ _ _ (IsPermutation-sym _ _ x.permutes) y.permutes)

-- ---- the trees of a ledger file are not those of an empty database

no_table : {A B : Type 0} (R : A → B → Type 0) (xs : List A) (b : B) (bs : List B) → AllZip R xs [] → AllZip R xs (b ∷ bs) → ⊥
no_table R [] b bs p q = absurd q
no_table R (x ∷ xs) b bs p q = absurd p

pub never_both : (trees : Trees) (s t : Schema) (c d : List Term) → s ≡ no_schema → t ≡ ledger_schema c d → IsSound s trees → IsSound t trees → ⊥
never_both trees s t c d none tables p q =
    no_table _ _ _ _ (subst (λ x. IsSound x trees) none p).lists.listed.tables (subst (λ x. IsSound x trees) tables q).lists.listed.tables

pub not_blank : (before : Lists) (db : Database) → db.schema ≡ no_schema → IsDatabase db → Keeps before db.trees → ⊥
not_blank before db none sound kept =
    never_both db.trees db.schema kept.db.schema kept.hold.tables.0 kept.hold.tables.1 none kept.hold.tables.2 sound (subst (IsSound kept.db.schema) (sym kept.is) kept.hold.sound)

-- ---- the next run

range_code : Coded TakenRange
range_code = code_by (ℕ × ℕ) (coded× coded_ℕ coded_ℕ) (λ s. (s.lo, s.size)) (λ p. taken_range p.0 p.1) (λ _. refl)

begins_at : (before lists : Lists) (found now : Database) → Keeps before found.trees → IsDatabase found → Opened found now → Holds now lists → Begins before lists
begins_at before lists found now kept sound (inl blank) hold key device = absurd (not_blank before found blank.0 sound kept)
begins_at before lists found now kept sound (inr same) hold key device =
    let rows : HoldLists (found.trees 0) (found.trees 2) lists = subst (λ (d : Database). HoldLists (d.trees 0) (d.trees 2) lists) same.2 hold.rows in
    let were : HoldLists (found.trees 0) (found.trees 2) kept.lists = subst (λ (t : Trees). HoldLists (t 0) (t 2) kept.lists) (sym kept.is) kept.hold.rows in
    subst (λ l. take (length (before key device)) l ≡ before key device) (one_list (found.trees 0) (found.trees 2) kept.lists lists were rows key device) (kept.begins key device)

pub next_run : (was : State) (before lists : Lists) (found now : Database) → Last was before → ∥ was.may_leave found.trees ∥₁ → IsDatabase found → Opened found now → Holds now lists → Begins before lists
next_run was before lists found now last some sound opened hold key device =
    ∥∥₁_elim some (Coded-set (coded_list range_code) _ _) (λ at. begins_at before lists found now (last found.trees at) sound opened hold key device)

-- ---- what a call leaves

pub last_of : (s : State) (lists : Lists) → ((trees : Trees) → s.may_leave trees → trees ≡ s.now.trees) → Holds s.now lists → Last s lists
last_of s lists only hold trees may = record { db = s.now; lists = lists; hold = hold; begins = begins_itself lists; is = only trees may }

pub last_then : (old new : State) (P : Trees → Type 0) (before : Lists) → Survives old new P → HasCleanDisk new → ((trees : Trees) → P trees → Keeps before trees) → Last old before → Last new before
last_then old new P before survives clean made last trees may = elim (survives.crash clean trees may) [ inl was ↦ last trees was | inr is ↦ made trees is ]

pub last_still : (old new : State) (before : Lists) → Survives old new (λ _. ⊥) → HasCleanDisk new → Last old before → Last new before
last_still old new before survives clean last = last_then old new (λ _. ⊥) before survives clean (λ trees none. absurd none) last

-- a reservation that is committed
pub reserved_keeps : (s : State) (before : Lists) (key : List ℕ) (device count : ℕ) → IsReady s → s.may_leave s.committed.trees → Last s before
    → (trees : Trees) → ((lists : Lists) → Holds s.now lists → (db : Database) × Holds db (with_range lists key device count) × (trees ≡ db.trees)) → Keeps before trees
reserved_keeps s before key device count ready stays last trees made =
    let k = last s.committed.trees stays in
    let same : s.now.trees ≡ k.db.trees = ap (λ (d : Database). d.trees) ready.settled ∙ k.is in
    let hold : Holds s.now k.lists = record { sound = ready.hold.sound; tables = ready.hold.tables; rows = subst (λ (t : Trees). HoldLists (t 0) (t 2) k.lists) (sym same) k.hold.rows } in
    let it = made k.lists hold in
    record { db = it.0; lists = with_range k.lists key device count; hold = it.1; begins = begins_reserved before k.lists key device count k.begins; is = it.2 }

-- tables made in an empty database, which the earlier lists rule out
pub blank_keeps : (s : State) (before : Lists) (trees : Trees) → s.now.schema ≡ no_schema → s.now ≡ s.committed → IsDatabase s.committed → s.may_leave s.committed.trees → Last s before → Keeps before trees
blank_keeps s before trees none settled sound stays last =
    absurd (not_blank before s.committed (ap (λ (d : Database). d.schema) (sym settled) ∙ none) sound (last s.committed.trees stays))
