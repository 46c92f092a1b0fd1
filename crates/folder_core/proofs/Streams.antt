-- What a stream's output is in the record, and a folder in which nothing is in hand.
use Rattle.std.proofs.Common.{◌≡◌, ◌∙◌, ℕ, List, Option, None, Some, IfSome, sym, ap, inl, inr}
use Rattle.std.specs.Prelude.{slice_get}
use Rattle.journal_core.specs.Range.{Numbers}
use Rattle.folder_core.specs.Record.{Content, Created, Entry, RunRecord}
use Rattle.folder_core.specs.Changes.{Becomes, HasStreamAlone, IsFresh, IsIdle, IsKept, IsNewStream, allowed, new_output, set_content, started, with_entry}
use Rattle.folder_core.proofs.Entries.{change_get, get_more}

-- ---- nothing is in hand

pub alone : (rest : Option RunRecord) → IsIdle rest → IfSome rest HasStreamAlone
alone None idle = tt
alone (Some r) idle = inl idle

-- ---- a new stream

pub kept_of : (place : ℕ) (content : Content) (before after : Option RunRecord) (taken taken' : Option (List ℕ))
    (failures failures' : Option ℕ) → Becomes (allowed place content) before after → IsFresh before taken failures
    → IsFresh after taken' failures' → IsKept after taken taken' failures failures'
    → (taken' ≡ taken) × (failures' ≡ failures)
kept_of place content before None taken taken' failures failures' became fresh new kept = kept
kept_of place content None (Some r) taken taken' failures failures' (was, known, is) fresh new kept = absurd (cc)
kept_of place content (Some b) (Some r) taken taken' failures failures' became fresh new kept =
    (new.0 ∙ sym fresh.0, new.1 ∙ sym fresh.1)

pub alone_after : (place : ℕ) (content : Content) (before after : Option RunRecord) → IfSome before (IsNewStream place)
    → Becomes (allowed place content) before after → IfSome after HasStreamAlone
alone_after place content before None new became = tt
alone_after place content None (Some r) new (was, known, is) = absurd (cc)
alone_after place content (Some b) (Some r) (new, named) (was, known, is) =
    let same : was ≡ b = cc in
    let all : r ≡ allowed place content b = is ∙ ap (allowed place content) same in
    inr (
      place,
      set_content content (new_output new.name),
      ap (λ (x : RunRecord). x.in_hand) all,
      ap (λ (x : RunRecord). slice_get x.entries place) all ∙ change_get place (set_content content) b.entries (new_output new.name) new.there,
      named,
    )

pub still_new : (place : ℕ) (e : Entry) (before after : Option RunRecord) → IfSome before (IsNewStream place)
    → Becomes (with_entry e) before after → IfSome after (IsNewStream place)
still_new place e before None new came = tt
still_new place e None (Some r) new (was, known, is) = absurd (cc)
still_new place e (Some b) (Some r) (new, named) (was, known, is) =
    let same : was ≡ b = cc in
    let all : r ≡ with_entry e b = is ∙ ap (with_entry e) same in (
      record {
        name = new.name;
        idle = ap (λ (x : RunRecord). x.in_hand) all ∙ new.idle;
        there = ap (λ (x : RunRecord). slice_get x.entries place) all ∙ get_more b.entries e (Created (new_output new.name)) place new.there;
      },
      named,
    )

pub new_started : (place : ℕ) (key : List ℕ) (range : Numbers) (before after : Option RunRecord)
    → IfSome before (IsNewStream place) → Becomes (started key range) before after → IfSome after (IsNewStream place)
new_started place key range before None new came = tt
new_started place key range None (Some r) new (was, known, is) = absurd (cc)
new_started place key range (Some b) (Some r) (new, named) (was, known, is) =
    let same : was ≡ b = cc in
    let all : r ≡ started key range b = is ∙ ap (started key range) same in (
      record {
        name = new.name;
        idle = ap (λ (x : RunRecord). x.in_hand) all ∙ new.idle;
        there = ap (λ (x : RunRecord). slice_get x.entries place) all ∙ new.there;
      },
      named,
    )
