-- What a change of the list of entries leaves in it.
use Rattle.std.proofs.Common.{◌≡◌, ℕ, zero, suc, ◌+◌, cond, List, [], ◌∷◌, ◌++◌, length, Option, None, Some, refl, sym, ap, ◌∙◌, subst, arith}
use Rattle.std.specs.Prelude.{slice_get}
use Rattle.std.specs.List.{AllByRecursion}
use Rattle.std.proofs.lemmas.List.Sums.{sum_by-cons}
use Rattle.folder_core.specs.Record.{Content, Nothing, Entry, Event, Output, Happened, Created, begins, content_at, content_in, has_number, times_begun}
use Rattle.folder_core.specs.Changes.{change, changed}

-- ---- what is at a place

pub change_get : (n : ℕ) (f : Output → Output) (l : List Entry) (o : Output) → slice_get l n ≡ Some (Created o)
    → slice_get (change n f l) n ≡ Some (Created (f o))
change_get n f [] o at = absurd (cc)
change_get zero f (x ∷ l) o at = let same : x ≡ Created o = cc in ap (λ y. Some (changed f y)) same
change_get (suc n) f (x ∷ l) o at = change_get n f l o at

changed_happened : (f : Output → Output) (x : Entry) (e : Event) → Some x ≡ Some (Happened e)
    → Some (changed f x) ≡ Some (Happened e)
changed_happened f (Created o) e at = absurd (cc)
changed_happened f (Happened other) e at = at

pub change_happened : (n : ℕ) (f : Output → Output) (l : List Entry) (place : ℕ) (e : Event)
    → slice_get l place ≡ Some (Happened e) → slice_get (change n f l) place ≡ Some (Happened e)
change_happened n f [] place e at = at
change_happened zero f (x ∷ l) zero e at = changed_happened f x e at
change_happened zero f (x ∷ l) (suc place) e at = at
change_happened (suc n) f (x ∷ l) zero e at = at
change_happened (suc n) f (x ∷ l) (suc place) e at = change_happened n f l place e at

pub get_more : (l : List Entry) (e x : Entry) (i : ℕ) → slice_get l i ≡ Some x → slice_get (l ++ e ∷ []) i ≡ Some x
get_more [] e x i at = absurd (cc)
get_more (y ∷ l) e x zero at = at
get_more (y ∷ l) e x (suc i) at = get_more l e x i at

pub get_end : (l : List Entry) (e : Entry) → slice_get (l ++ e ∷ []) (length l) ≡ Some e
get_end [] e = refl
get_end (x ∷ l) e = get_end l e

-- the content in hand stays where an entry without a content comes after all others
content_end : (l : List Entry) (e : Entry) (n : ℕ) → content_at (Some e) ≡ Nothing
    → content_at (slice_get (l ++ e ∷ []) n) ≡ content_at (slice_get l n)
content_end [] e zero none = none
content_end [] e (suc n) none = refl
content_end (x ∷ l) e zero none = refl
content_end (x ∷ l) e (suc n) none = content_end l e n none

pub content_more : (l : List Entry) (e : Entry) (place : Option ℕ) → content_at (Some e) ≡ Nothing
    → content_in (l ++ e ∷ []) place ≡ content_in l place
content_more l e None none = refl
content_more l e (Some n) none = content_end l e n none

-- ---- what holds of all

pub all_map : (P Q : Entry → Type 0) (l : List Entry) → ((e : Entry) → P e → Q e) → AllByRecursion P l → AllByRecursion Q l
all_map P Q [] to all = tt
all_map P Q (x ∷ l) to all = (to x all.0, all_map P Q l to all.1)

pub all_end : (P : Entry → Type 0) (l : List Entry) (e : Entry) → AllByRecursion P l → P e → AllByRecursion P (l ++ e ∷ [])
all_end P [] e all new = (new, tt)
all_end P (x ∷ l) e all new = (all.0, all_end P l e all.1 new)

pub all_change : (P : Entry → Type 0) (n : ℕ) (f : Output → Output) (l : List Entry) (o : Output)
    → slice_get l n ≡ Some (Created o) → P (Created (f o)) → AllByRecursion P l → AllByRecursion P (change n f l)
all_change P n f [] o at new all = tt
all_change P zero f (x ∷ l) o at new all =
    let same : x ≡ Created o = cc in (subst (λ y. P (changed f y)) (sym same) new, all.1)
all_change P (suc n) f (x ∷ l) o at new all = (all.0, all_change P n f l o at new all.1)

-- ---- how many outputs have a number

pub times_cons : (number : ℕ) (e : Entry) (l : List Entry)
    → times_begun number (e ∷ l) ≡ cond (begins number e) 1 0 + times_begun number l
times_cons number e l = sum_by-cons (λ (x : Entry). cond (begins number x) 1 0) e l

begins_kept : (number : ℕ) (f : Output → Output) (x : Entry) → ((o : Output) → (f o).content ≡ o.content)
    → begins number (changed f x) ≡ begins number x
begins_kept number f (Created o) keeps = ap (has_number number) (keeps o)
begins_kept number f (Happened e) keeps = refl

-- as many as before, where the contents stay
pub times_kept : (number n : ℕ) (f : Output → Output) (l : List Entry) → ((o : Output) → (f o).content ≡ o.content)
    → times_begun number (change n f l) ≡ times_begun number l
times_kept number n f [] keeps = refl
times_kept number zero f (x ∷ l) keeps =
    let before = times_cons number x l in
    let after = times_cons number (changed f x) l in
    let same : cond {A = ℕ} (begins number (changed f x)) 1 0 ≡ cond (begins number x) 1 0 =
    ap (λ b. cond {A = ℕ} b 1 0) (begins_kept number f x keeps) in
    omega arith
times_kept number (suc n) f (x ∷ l) keeps =
    let before = times_cons number x l in
    let after = times_cons number x (change n f l) in
    let more = times_kept number n f l keeps in omega arith

-- one more at most, where an output that had no content gets one
pub times_more : (number n : ℕ) (content : Content) (f : Output → Output) (l : List Entry) (o : Output)
    → slice_get l n ≡ Some (Created o) → o.content ≡ Nothing → ((o : Output) → (f o).content ≡ content)
    → times_begun number (change n f l) ≡ cond (has_number number content) 1 0 + times_begun number l
times_more number n content f [] o at none sets = absurd (cc)
times_more number zero content f (x ∷ l) o at none sets =
    let same : x ≡ Created o = cc in
    let before = times_cons number x l in
    let after = times_cons number (changed f x) l in
    let was : cond {A = ℕ} (begins number x) 1 0 ≡ 0 =
    ap (λ (y : Entry). cond {A = ℕ} (begins number y) 1 0) same ∙ ap (λ m. cond {A = ℕ} (has_number number m) 1 0) none in
    let is : cond {A = ℕ} (begins number (changed f x)) 1 0 ≡ cond (has_number number content) 1 0 =
    ap (λ (y : Entry). cond {A = ℕ} (begins number (changed f y)) 1 0) same
    ∙ ap (λ m. cond {A = ℕ} (has_number number m) 1 0) (sets o) in
    omega arith
times_more number (suc n) content f (x ∷ l) o at none sets =
    let before = times_cons number x l in
    let after = times_cons number x (change n f l) in
    let more = times_more number n content f l o at none sets in omega arith

pub times_end : (number : ℕ) (l : List Entry) (e : Entry)
    → times_begun number (l ++ e ∷ []) ≡ times_begun number l + cond (begins number e) 1 0
times_end number [] e = let one = times_cons number e [] in omega arith
times_end number (x ∷ l) e =
    let before = times_cons number x l in
    let after = times_cons number x (l ++ e ∷ []) in
    let more = times_end number l e in omega arith
