-- An output that is taken in hand while entries come after all others.
use Rattle.std.proofs.Common.{◌≡◌, ◌∙◌, ℕ, zero, suc, List, [], ◌∷◌, ◌++◌, map, Option, None, Some, refl, sym, ap, append_assoc}
use Rattle.folder_core.specs.Record.{Content, Entry, Event, Happened, Output, RunRecord}
use Rattle.folder_core.specs.Changes.{allowed, change, set_content}
use Rattle.folder_core.specs.Growth.{Grows, GrowsGiving, given, with_entries}

-- ---- the order of both

-- what happened is no output, so a change leaves it
change_events : (place : ℕ) (f : Output → Output) (events : List Event) → change place f (map Happened events) ≡ map Happened events
change_events place f [] = refl
change_events zero f (event ∷ events) = refl
change_events (suc place) f (event ∷ events) = ap (λ l. Happened event ∷ l) (change_events place f events)

change_before : (place : ℕ) (f : Output → Output) (l : List Entry) (events : List Event)
    → change place f (l ++ map Happened events) ≡ change place f l ++ map Happened events
change_before place f [] events = change_events place f events
change_before zero f (entry ∷ l) events = refl
change_before (suc place) f (entry ∷ l) events = ap (λ l. entry ∷ l) (change_before place f l events)

-- the output was taken in hand after these came
pub given_after : (place : ℕ) (content : Content) (events : List Event) (new : List Entry) (before came after : RunRecord)
    → new ≡ map Happened events → came ≡ with_entries new before → after ≡ allowed place content came
    → after ≡ with_entries new (given place (Some content) before)
given_after place content events new before came after are grown is =
    is ∙ ap (allowed place content) (grown ∙ ap (λ l. with_entries l before) are)
    ∙ ap (λ l. record before { entries = l; in_hand = Some place }) (change_before place (set_content content) before.entries events)
    ∙ ap (λ l. with_entries l (allowed place content before)) (sym are)

-- ---- of one kind, and another

-- none was taken in hand
pub gives_nothing : (place : ℕ) (kind : List Entry → Option Content → Type 0) (before after : Option RunRecord)
    → Grows (λ new. kind new None) before after → GrowsGiving place kind before after
gives_nothing place kind before None grew = tt
gives_nothing place kind None (Some after) grew = absurd grew
gives_nothing place kind (Some before) (Some after) (new, of, is) = (new, None, of, is)

pub giving_to : (place : ℕ) (p q : List Entry → Option Content → Type 0)
    → ((new : List Entry) (content : Option Content) → p new content → q new content) → (before after : Option RunRecord)
    → GrowsGiving place p before after → GrowsGiving place q before after
giving_to place p q f before None gave = tt
giving_to place p q f None (Some after) gave = absurd gave
giving_to place p q f (Some before) (Some after) (new, content, of, is) = (new, content, f new content of, is)

-- and others came after them
pub giving_on : (place : ℕ) (p r : List Entry → Option Content → Type 0) (q : List Entry → Type 0)
    → ((one two : List Entry) (content : Option Content) → p one content → q two → r (one ++ two) content)
    → (before between after : Option RunRecord) → GrowsGiving place p before between → Grows q between after
    → GrowsGiving place r before after
giving_on place p r q f before between None d e = tt
giving_on place p r q f before None (Some after) d e = absurd e
giving_on place p r q f None (Some between) (Some after) d e = absurd d
giving_on place p r q f (Some before) (Some between) (Some after) (one, content, of, is) (two, also, more) = (
  one ++ two,
  content,
  f one two content of also,
  more ∙ ap (with_entries two) is
      ∙ ap (λ l. record (given place content before) { entries = l }) (append_assoc (given place content before).entries one two),
)
