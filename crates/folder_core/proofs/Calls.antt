-- What each call of a folder keeps, where the record is known or was forgotten. For implementors of the traits.
use Rattle.std.proofs.Common.{◌≡◌, ◌⊎◌, inl, inr, ℕ, false, List, [], ◌++◌, Option, None, Some, refl, sym, subst, arith}
use Rattle.std.specs.Prelude.{IfSome, option_map}
use Rattle.std.proofs.Math.Logic.{∥∥₁_map}
use Rattle.output_core.specs.Bounds.{Admits, Allows}
use Rattle.folder_core.specs.Record.{Content, Entry, Event, Happened, Holds, IsSoundWith, KeyedRange, Nothing, RunRecord, State, begins, bound_in, bound_of, content_at, content_in}
use Rattle.folder_core.specs.Changes.{Becomes, IsNew, MayHold, allowed, closed_at, with_entry}
use Rattle.folder_core.proofs.Sound.{allows_none, closed_kept, entry_kept, event_kept, held_kept, write_kept}

abbrev pub Keeps : Option RunRecord → List ℕ → Type 0
Keeps rest taken = ∥ IsSoundWith rest (Some taken) ∥₁

pub becomes_kept : (f : RunRecord → RunRecord) (before after : Option RunRecord) (held taken : List ℕ) → Becomes f before after
    → ((r : RunRecord) → before ≡ Some r → IsSoundWith (Some r) (Some held) → IsSoundWith (Some (f r)) (Some taken))
    → Keeps before held → Keeps after taken
becomes_kept f before None held taken is keeps sound = ∣ (tt, tt) ∣₁
becomes_kept f before (Some r) held taken (was, known, is) keeps sound =
    ∥∥₁_map sound (λ both.
    subst (λ x. IsSoundWith (Some x) (Some taken)) (sym is)
    (keeps was known (subst (λ x. IsSoundWith x (Some held)) known both)))

-- a record in which nothing happened
pub fresh_sound : (under : Option KeyedRange) (entries : List Entry) (place : Option ℕ) → entries ≡ [] → place ≡ None
    → IsSoundWith (Some (record { under = under; entries = entries; in_hand = place })) (Some [])
fresh_sound under entries place none idle =
    subst (λ l. IsSoundWith (Some (record { under = under; entries = l; in_hand = place })) (Some [])) (sym none)
    (subst (λ h. IsSoundWith (Some (record { under = under; entries = []; in_hand = h })) (Some [])) (sym idle)
    (record { each = tt; once = λ number. omega arith }, ([], refl, ([], refl))))

pub write_call : (before after : Option RunRecord) (held bytes taken : List ℕ)
    → Admits (option_map bound_in before) (Some held) bytes → after ≡ before
    → (taken ≡ held ++ bytes) ⊎ (taken ≡ held) → Keeps before held → Keeps after taken
write_call None after held bytes taken may same either sound = subst (λ x. Keeps x taken) (sym same) ∣ (tt, tt) ∣₁
write_call (Some r) after held bytes taken may same either sound =
    subst (λ x. Keeps x taken) (sym same) (elim either [
      | inl is ↦ subst (λ t. Keeps (Some r) t) (sym is) (∥∥₁_map sound (λ both. write_kept r held bytes may both))
      | inr is ↦ subst (λ t. Keeps (Some r) t) (sym is) sound
    ])

-- one more entry, of no content and no number
pub entry_call : (e : Entry) (before after : Option RunRecord) (held taken : List ℕ) → content_at (Some e) ≡ Nothing
    → ((under : Option KeyedRange) (l : List Entry) → Holds under l e) → ((number : ℕ) → begins number e ≡ false)
    → Becomes (with_entry e) before after → taken ≡ held → Keeps before held → Keeps after taken
entry_call e before after held taken none holds apart is same sound =
    subst (λ t. Keeps after t) (sym same)
    (becomes_kept (with_entry e) before after held held is
    (λ r known both. entry_kept r e (Some held) none (holds r.under r.entries) apart both) sound)

pub event_call : (event : Event) (before after : Option RunRecord) (held taken : List ℕ)
    → Becomes (with_entry (Happened event)) before after → taken ≡ held → Keeps before held → Keeps after taken
event_call event before after held taken is same sound =
    subst (λ t. Keeps after t) (sym same)
    (becomes_kept (with_entry (Happened event)) before after held held is (λ r known both. event_kept r event (Some held) both) sound)

-- an output was taken in hand
pub hold_call : (before after : Option RunRecord) (held taken : List ℕ) (n : ℕ) (content : Content)
    → IfSome before (MayHold n content) → Becomes (allowed n content) before after → taken ≡ []
    → Keeps before held → Keeps after taken
hold_call before after held taken n content may is none sound =
    subst (λ t. Keeps after t) (sym none)
    (becomes_kept (allowed n content) before after held [] is
    (λ r known both. held_kept r n content (Some held) (subst (λ x. IfSome x (MayHold n content)) known may) both) sound)

-- the output in hand was closed
pub close_call : (before after : Option RunRecord) (held taken : List ℕ) (n : ℕ) (state : State) (failures : ℕ)
    → IfSome before (λ r. r.in_hand ≡ Some n) → Becomes (closed_at n state held failures) before after → taken ≡ []
    → Keeps before held → Keeps after taken
close_call before after held taken n state failures hand is none sound =
    subst (λ t. Keeps after t) (sym none)
    (becomes_kept (closed_at n state held failures) before after held [] is
    (λ r known both.
    let (held', had, fits) = both.1 in
    let same : held' ≡ held = cc in
    let here : r.in_hand ≡ Some n = subst (λ x. IfSome x (λ r. r.in_hand ≡ Some n)) known hand in
    closed_kept r n state held failures
    (subst (λ h. Allows (bound_of r.under (content_in r.entries h)) held) here (subst (Allows (bound_in r)) same fits))
    both.0) sound)

-- nothing was in hand, and nothing is
pub idle_call : (before after : Option RunRecord) (held taken : List ℕ) → IfSome before (λ r. r.in_hand ≡ None)
    → after ≡ before → taken ≡ [] → Keeps before held → Keeps after taken
idle_call None after held taken hand same none sound = subst (λ x. Keeps x taken) (sym same) ∣ (tt, tt) ∣₁
idle_call (Some r) after held taken hand same none sound =
    subst (λ x. Keeps x taken) (sym same) (subst (λ t. Keeps (Some r) t) (sym none)
    (∥∥₁_map sound (λ both. (
      both.0,
      ([], refl, subst (λ h. Allows (bound_of r.under (content_in r.entries h)) []) (sym hand) ([], refl)),
    ))))

-- an output that was never in hand was given up
pub abandon_call : (before after : Option RunRecord) (held taken : List ℕ) (n : ℕ) (state : State)
    → IfSome before (IsNew n) → Becomes (closed_at n state [] 0) before after → taken ≡ []
    → Keeps before held → Keeps after taken
abandon_call before after held taken n state new is none sound =
    subst (λ t. Keeps after t) (sym none)
    (becomes_kept (closed_at n state [] 0) before after held [] is
    (λ r known both.
    closed_kept r n state [] 0 (allows_none r.under (content_in r.entries (Some n))) both.0) sound)
