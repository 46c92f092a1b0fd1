-- Entries that come after those so far, and the one entry of an output that is created, taken in hand and closed.
use Rattle.std.proofs.Common.{◌≡◌, ℕ, List, [], ◌∷◌, ◌++◌, length, Option, None, Some, IfSome, refl, sym, ap, ◌∙◌, subst, append_assoc}
use Rattle.folder_core.specs.Record.{Content, Created, Entry, Output, RunRecord, State}
use Rattle.folder_core.specs.Changes.{Becomes, Closes, allowed, change, closed, new_output, set_closed, set_content, with_entry}
use Rattle.folder_core.specs.Growth.{Grows, PutsOut, with_entries}

-- of entries, and others after them
pub grows_on : (p q r : List Entry → Type 0) → ((one two : List Entry) → p one → q two → r (one ++ two))
    → (before between after : Option RunRecord) → Grows p before between → Grows q between after → Grows r before after
grows_on p q r f before between None d e = tt
grows_on p q r f before None (Some after) d e = absurd e
grows_on p q r f None (Some between) (Some after) d e = absurd d
grows_on p q r f (Some before) (Some between) (Some after) d e = (
  d.0 ++ e.0,
  f d.0 e.0 d.1 e.1,
  e.2 ∙ ap (with_entries e.0) d.2 ∙ ap (λ l. record before { entries = l }) (append_assoc before.entries d.0 e.0),
)

-- one entry came
pub grows_by : (kind : List Entry → Type 0) (entry : Entry) → kind (entry ∷ []) → (before after : Option RunRecord)
    → Becomes (with_entry entry) before after → Grows kind before after
grows_by kind entry is before None came = tt
grows_by kind entry is None (Some after) (was, known, came) = absurd (cc)
grows_by kind entry is (Some before) (Some after) (was, known, came) =
    let same : was ≡ before = cc in
    (entry ∷ [], is, came ∙ ap (with_entry entry) same)

-- ---- an output

change_last : (f : Output → Output) (entries : List Entry) (output : Output)
    → change (length entries) f (entries ++ Created output ∷ []) ≡ entries ++ Created (f output) ∷ []
change_last f [] output = refl
change_last f (entry ∷ entries) output = ap (λ l. entry ∷ l) (change_last f entries output)

became : (f : RunRecord → RunRecord) (before after : Option RunRecord) (r : RunRecord) → after ≡ Some r
    → Becomes f before after → (was : RunRecord) × (before ≡ Some was) × (r ≡ f was)
became f before None r is came = absurd (cc)
became f before (Some other) r is (was, known, came) =
    let same : r ≡ other = cc in
    (was, known, same ∙ came)

pub puts_out : (name : List ℕ) (content : Content) (state : State) (taken : Option (List ℕ)) (failures : Option ℕ) (place : ℕ)
    (before created ready after : Option RunRecord) → IfSome before (λ r. r.in_hand ≡ None)
    → IfSome before (λ r. place ≡ length r.entries) → Becomes (with_entry (Created (new_output name))) before created
    → Becomes (allowed place content) created ready → Closes state ready taken failures after
    → Grows (PutsOut name content state taken failures) before after
puts_out name content state taken failures place before created ready None idle at new may closes = tt
puts_out name content state taken failures place before created ready (Some after) idle at new may
    (third, bytes, n, known, took, count, last) =
    let (second, known2, middle) = became (allowed place content) created ready third known may in
    let (first, known1, begun) = became (with_entry (Created (new_output name))) before created second known2 new in
    let empty : first.in_hand ≡ None = subst (λ o. IfSome o (λ r. r.in_hand ≡ None)) known1 idle in
    let there : place ≡ length first.entries = subst (λ o. IfSome o (λ r. place ≡ length r.entries)) known1 at in
    let entries : List Entry = first.entries in
    let end : Output = record { name = name; content = content; bytes = bytes; failures = n; state = state } in
    let one : change (length entries) (set_closed state bytes n)
    (change (length entries) (set_content content) (entries ++ Created (new_output name) ∷ [])) ≡ entries ++ Created end ∷ [] =
    ap (change (length entries) (set_closed state bytes n)) (change_last (set_content content) entries (new_output name))
    ∙ change_last (set_closed state bytes n) entries (set_content content (new_output name)) in
    let all : after ≡ with_entries (Created end ∷ []) first =
    last ∙ ap (closed state bytes n) (middle ∙ ap (allowed place content) begun)
    ∙ ap (λ p. record first {
      entries = change p (set_closed state bytes n) (change p (set_content content) (entries ++ Created (new_output name) ∷ []));
      in_hand = None;
    }) there
    ∙ ap (λ l. record first { entries = l; in_hand = None }) one
    ∙ ap (λ h. record first { entries = entries ++ Created end ∷ []; in_hand = h }) (sym empty) in
    subst (λ o. Grows (PutsOut name content state taken failures) o (Some after)) (sym known1)
    (Created end ∷ [], (bytes, n, took, count, refl), all)
