-- A record that has no key is sound with any.
use Rattle.std.proofs.Common.{◌≡◌, ℕ, false, cond, List, [], ◌∷◌, Option, None, Some, refl, sym, ap, subst, arith}
use Rattle.std.specs.List.{AllByRecursion}
use Rattle.journal_core.specs.Range.{Numbers}
use Rattle.output_core.specs.Bounds.{Allows, Exactly}
use Rattle.folder_core.specs.Record.{Checked, Container, Content, Created, Entry, Happened, Holds, IsAllowed, IsSound, IsSoundWith, KeyedRange, Nothing, Plain, RunRecord, bound_of, content_in, has_number, times_begun}
use Rattle.folder_core.specs.Changes.{IsUnstarted, started}
use Rattle.folder_core.proofs.Entries.{all_map, times_cons}

unnumbered : (all : List Entry) (number : ℕ) (content : Content) → IsAllowed None all content → has_number number content ≡ false
unnumbered all number Nothing may = refl
unnumbered all number (Container other shape) may = absurd may.1
unnumbered all number (Plain key whole) may = refl
unnumbered all number (Checked key header last) may = refl

none_in : (all l : List Entry) (number : ℕ) → AllByRecursion (Holds None all) l → times_begun number l ≡ 0
none_in all [] number holds = refl
none_in all (Created o ∷ l) number holds =
    let step = times_cons number (Created o) l in
    let first : cond {A = ℕ} (has_number number o.content) 1 0 ≡ 0 =
    ap (λ b. cond {A = ℕ} b 1 0) (unnumbered all number o.content holds.0.0) in
    let rest = none_in all l number holds.1 in omega arith
none_in all (Happened event ∷ l) number holds =
    let step = times_cons number (Happened event) l in
    let rest = none_in all l number holds.1 in omega arith

pub no_number : (r : RunRecord) (number : ℕ) → IsSound r → r.under ≡ None → times_begun number r.entries ≡ 0
no_number r number sound none =
    none_in r.entries r.entries number (subst (λ u. AllByRecursion (Holds u r.entries) r.entries) none sound.each)

-- what an output may hold without a key, it may hold with one
held_under : (under : Option KeyedRange) (all : List Entry) (content : Content) (bytes : List ℕ) → IsAllowed None all content
    → Allows (bound_of None content) bytes → IsAllowed under all content × Allows (bound_of under content) bytes
held_under under all Nothing bytes may fits = (may, fits)
held_under under all (Container number shape) bytes may fits = absurd may.1
held_under under all (Plain key whole) bytes may fits = (may, fits)
held_under under all (Checked key header last) bytes may fits = (may, fits)

holds_under : (under : Option KeyedRange) (all : List Entry) (e : Entry) → Holds None all e → Holds under all e
holds_under under all (Created o) holds = held_under under all o.content o.bytes holds.0 holds.1
holds_under under all (Happened event) holds = tt

idle_bound : (under : Option KeyedRange) (entries : List Entry) (place : Option ℕ) → place ≡ None
    → bound_of under (content_in entries place) ≡ Exactly []
idle_bound under entries place idle = ap (λ p. bound_of under (content_in entries p)) idle

pub started_sound : (r : RunRecord) (taken : Option (List ℕ)) (key : List ℕ) (range : Numbers) → IsUnstarted r
    → IsSoundWith (Some r) taken → IsSoundWith (Some (started key range r)) taken
started_sound r taken key range un (sound, (held, known, fits)) = (
  record {
    each = all_map (Holds None r.entries) (Holds (started key range r).under r.entries) r.entries
        (λ e h. holds_under (started key range r).under r.entries e h)
        (subst (λ u. AllByRecursion (Holds u r.entries) r.entries) un.unkeyed sound.each);
    once = sound.once;
  },
  (
    held,
    known,
    subst (λ b. Allows b held) (sym (idle_bound (started key range r).under r.entries r.in_hand un.idle))
        (subst (λ b. Allows b held) (idle_bound r.under r.entries r.in_hand un.idle) fits),
  ),
)
