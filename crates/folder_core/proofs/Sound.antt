-- Each change of the record keeps it sound, and what the output in hand took within what it may hold.
use Rattle.std.proofs.Common.{◌≡◌, inl, ℕ, zero, suc, ◌+◌, ◌≤◌, Bool, true, false, cond, List, [], ◌∷◌, ◌++◌, Option, None, Some, refl, sym, ap, ◌∙◌, subst, arith, eqb-true, append_assoc}
use Rattle.std.specs.Prelude.{slice_get, option_map}
use Rattle.std.specs.List.{AllByRecursion}
use Rattle.io_core.specs.Streams.{IsFront}
use Rattle.container_core.specs.Container.{container}
use Rattle.journal_core.specs.Range.{prefix_of}
use Rattle.output_core.specs.Bounds.{Admits, Allows, Bound, Exactly}
use Rattle.output_core.specs.Bounds as bounds
use Rattle.folder_core.specs.Record.{Checked, Content, Nothing, Container, Plain, Entry, Event, Happened, Holds, IsAllowed, IsSound, IsSoundWith, KeyedRange, Output, Created, RunRecord, State, WasRead, WasReadAgain, begins, bound_in, bound_of, content_at, content_in, has_number, times_begun}
use Rattle.folder_core.specs.Changes.{IsNumberFree, IsNew, MayHold, allowed, change, closed_at, new_output, set_bytes, set_closed, set_content, whole, whole_by, with_entry}
use Rattle.folder_core.proofs.Entries.{all_change, all_end, all_map, change_get, change_happened, content_more, get_more, times_end, times_kept, times_more}

-- ---- an output that may hold bytes may hold a prefix of them

front_of_front : (one two three : List ℕ) → IsFront one two → IsFront two three → IsFront one three
front_of_front one two three (rest, p) (more, q) =
    (rest ++ more, q ∙ ap (λ l. l ++ more) p ∙ append_assoc one rest more)

pub allows_front : (bound : Bound) (bytes front : List ℕ) → Allows bound bytes → IsFront front bytes → Allows bound front
allows_front (bounds.Container before key shape prefix) bytes front (plain, f) part =
    (plain, front_of_front front bytes (before ++ container key shape prefix plain) part f)
allows_front (Exactly all) bytes front f part = front_of_front front bytes all part f
allows_front (bounds.Checked before key header input) bytes front (plain, is, f) part =
    (plain, is, front_of_front front bytes (before ++ plain) part f)

pub after_front : (held one two : List ℕ) → IsFront one two → IsFront (held ++ one) (held ++ two)
after_front held one two (rest, p) = (rest, ap (λ l. held ++ l) p ∙ sym (append_assoc held one rest))

-- each may hold no bytes
pub allows_none : (under : Option KeyedRange) (content : Content) → Allows (bound_of under content) []
allows_none under Nothing = ([], refl)
allows_none None (Container number shape) = ([], refl)
allows_none (Some under) (Container number shape) =
    ([], (container under.key shape (prefix_of under.range.device number) [], refl))
allows_none under (Plain key whole) = (whole, refl)
allows_none under (Checked key header last) = ([], inl refl, ([], refl))

-- ---- what was read remains read

read_change : (n : ℕ) (f : Output → Output) (l : List Entry) (key plain : List ℕ) → WasRead l key plain → WasRead (change n f l) key plain
read_change n f l key plain (place, name, bytes, most, at, opens) =
    (place, name, bytes, most, change_happened n f l place _ at, opens)

again_change : (n : ℕ) (f : Output → Output) (l : List Entry) (key header last : List ℕ) → WasReadAgain l key header last
    → WasReadAgain (change n f l) key header last
again_change n f l key header last (place, name, first, plain, most, at, behind, opens, has, long) =
    (place, name, first, plain, most, change_happened n f l place _ at, change_happened n f l (suc place) _ behind, opens, has, long)

allowed_change : (under : Option KeyedRange) (n : ℕ) (f : Output → Output) (l : List Entry) (content : Content)
    → IsAllowed under l content → IsAllowed under (change n f l) content
allowed_change under n f l Nothing may = may
allowed_change under n f l (Container number shape) may = may
allowed_change under n f l (Plain key plain) may = read_change n f l key plain may
allowed_change under n f l (Checked key header last) may = again_change n f l key header last may

holds_change : (under : Option KeyedRange) (n : ℕ) (f : Output → Output) (l : List Entry) (e : Entry)
    → Holds under l e → Holds under (change n f l) e
holds_change under n f l (Created o) holds = (allowed_change under n f l o.content holds.0, holds.1)
holds_change under n f l (Happened event) holds = tt

pub read_more : (l : List Entry) (e : Entry) (key plain : List ℕ) → WasRead l key plain → WasRead (l ++ e ∷ []) key plain
read_more l e key plain (place, name, bytes, most, at, opens) =
    (place, name, bytes, most, get_more l e _ place at, opens)

pub again_more : (l : List Entry) (e : Entry) (key header last : List ℕ) → WasReadAgain l key header last
    → WasReadAgain (l ++ e ∷ []) key header last
again_more l e key header last (place, name, first, plain, most, at, behind, opens, has, long) =
    (place, name, first, plain, most, get_more l e _ place at, get_more l e _ (suc place) behind, opens, has, long)

allowed_more : (under : Option KeyedRange) (l : List Entry) (e : Entry) (content : Content)
    → IsAllowed under l content → IsAllowed under (l ++ e ∷ []) content
allowed_more under l e Nothing may = may
allowed_more under l e (Container number shape) may = may
allowed_more under l e (Plain key plain) may = read_more l e key plain may
allowed_more under l e (Checked key header last) may = again_more l e key header last may

holds_more : (under : Option KeyedRange) (l : List Entry) (more e : Entry) → Holds under l e → Holds under (l ++ more ∷ []) e
holds_more under l more (Created o) holds = (allowed_more under l more o.content holds.0, holds.1)
holds_more under l more (Happened event) holds = tt

-- ---- an output that holds other bytes

write_all : (under : Option KeyedRange) (all : List Entry) (n : ℕ) (f : Output → Output) (held : List ℕ) (l : List Entry)
    → ((o : Output) → IsAllowed under all o.content → Allows (bound_of under o.content) held → Holds under all (Created (f o)))
    → Allows (bound_of under (content_at (slice_get l n))) held → AllByRecursion (Holds under all) l
    → AllByRecursion (Holds under all) (change n f l)
write_all under all n f held [] good fits holds = tt
write_all under all zero f held (Created o ∷ l) good fits holds = (good o holds.0.0 fits, holds.1)
write_all under all zero f held (Happened event ∷ l) good fits holds = holds
write_all under all (suc n) f held (x ∷ l) good fits holds = (holds.0, write_all under all n f held l good fits holds.1)

each_written : (r : RunRecord) (n : ℕ) (f : Output → Output) (held : List ℕ)
    → ((o : Output) → IsAllowed r.under r.entries o.content → Allows (bound_of r.under o.content) held
    → Holds r.under r.entries (Created (f o)))
    → Allows (bound_of r.under (content_in r.entries (Some n))) held → IsSound r
    → AllByRecursion (Holds r.under (change n f r.entries)) (change n f r.entries)
each_written r n f held good fits sound =
    all_map (Holds r.under r.entries) (Holds r.under (change n f r.entries)) (change n f r.entries)
    (λ e holds. holds_change r.under n f r.entries e holds)
    (write_all r.under r.entries n f held r.entries good fits sound.each)

once_kept : (r : RunRecord) (n : ℕ) (f : Output → Output) → ((o : Output) → (f o).content ≡ o.content) → IsSound r
    → (number : ℕ) → times_begun number (change n f r.entries) ≤ 1
once_kept r n f keeps sound number = subst (λ k. k ≤ 1) (sym (times_kept number n f r.entries keeps)) (sound.once number)

-- ---- the whole record

whole_sound_by : (r : RunRecord) (place : Option ℕ) (held : List ℕ)
    → Allows (bound_of r.under (content_in r.entries place)) held → IsSound r → IsSound (whole_by place held r)
whole_sound_by r None held fits sound = sound
whole_sound_by r (Some n) held fits sound = record {
  each = each_written r n (set_bytes held) held (λ o may good. (may, good)) fits sound;
  once = once_kept r n (set_bytes held) (λ o. refl) sound;
}

pub whole_sound : (rest : Option RunRecord) (taken : Option (List ℕ)) (r : RunRecord) (held : List ℕ) → rest ≡ Some r
    → taken ≡ Some held → IsSoundWith rest taken → IsSound (whole r held)
whole_sound rest taken r held is had both =
    let (sound, (held', known, fits)) = subst (λ x. IsSoundWith x taken) is both in
    let same : held' ≡ held = cc in
    whole_sound_by r r.in_hand held (subst (Allows (bound_in r)) same fits) sound

pub cut_sound : (rest : Option RunRecord) (taken : Option (List ℕ)) (r : RunRecord) (held bytes front : List ℕ) → rest ≡ Some r
    → taken ≡ Some held → Admits (option_map bound_in rest) taken bytes → IsFront front bytes → IsSoundWith rest taken
    → IsSound (whole r (held ++ front))
cut_sound rest taken r held bytes front is had may part both =
    let (sound, within) = subst (λ x. IsSoundWith x taken) is both in
    let (held', known, fits) = subst (λ x. Admits (option_map bound_in x) taken bytes) is may in
    let same : held' ≡ held = cc in
    whole_sound_by r r.in_hand (held ++ front)
    (subst (λ h. Allows (bound_in r) (h ++ front)) same
    (allows_front (bound_in r) (held' ++ bytes) (held' ++ front) fits (after_front held' front bytes part))) sound

-- ---- what each call keeps

-- more was written
pub write_kept : (r : RunRecord) (held bytes : List ℕ) → Admits (option_map bound_in (Some r)) (Some held) bytes
    → IsSoundWith (Some r) (Some held) → IsSoundWith (Some r) (Some (held ++ bytes))
write_kept r held bytes (held', known, fits) both =
    let same : held' ≡ held = cc in
    (both.0, (held ++ bytes, refl, subst (λ h. Allows (bound_in r) (h ++ bytes)) same fits))

-- an entry came that has no content
pub entry_kept : (r : RunRecord) (e : Entry) (taken : Option (List ℕ)) → content_at (Some e) ≡ Nothing
    → Holds r.under r.entries e → ((number : ℕ) → begins number e ≡ false) → IsSoundWith (Some r) taken
    → IsSoundWith (Some (with_entry e r)) taken
entry_kept r e taken none holds apart (sound, (held, known, fits)) = (
  record {
    each = all_map (Holds r.under r.entries) (Holds r.under (r.entries ++ e ∷ [])) (r.entries ++ e ∷ [])
        (λ x h. holds_more r.under r.entries e x h) (all_end (Holds r.under r.entries) r.entries e sound.each holds);
    once = λ number.
        let all = times_end number r.entries e in
        let one : cond {A = ℕ} (begins number e) 1 0 ≡ 0 = ap (λ b. cond {A = ℕ} b 1 0) (apart number) in
        let most = sound.once number in omega arith;
  },
  (held, known, subst (λ c. Allows (bound_of r.under c) held) (sym (content_more r.entries e r.in_hand none)) fits),
)

pub event_kept : (r : RunRecord) (event : Event) (taken : Option (List ℕ)) → IsSoundWith (Some r) taken
    → IsSoundWith (Some (with_entry (Happened event) r)) taken
event_kept r event taken both = entry_kept r (Happened event) taken refl tt (λ number. refl) both

-- an output was taken in hand
taken_kept : (r : RunRecord) (n : ℕ) (content : Content) → (new : IsNew n r) → IsAllowed r.under r.entries content
    → ((number : ℕ) → times_begun number (change n (set_content content) r.entries) ≤ 1) → IsSound r
    → IsSoundWith (Some (allowed n content r)) (Some [])
taken_kept r n content new may once sound =
    let f : Output → Output = set_content content in (
      record {
        each = all_map (Holds r.under r.entries) (Holds r.under (change n f r.entries)) (change n f r.entries)
            (λ x h. holds_change r.under n f r.entries x h)
            (all_change (Holds r.under r.entries) n f r.entries (new_output new.name) new.there
            (may, allows_none r.under content) sound.each);
        once = once;
      },
      (
        [],
        refl,
        subst (λ e. Allows (bound_of r.under (content_at e)) [])
            (sym (change_get n f r.entries (new_output new.name) new.there)) (allows_none r.under content),
      ),
    )

few : (b : Bool) (k n : ℕ) → k ≡ cond b 1 0 + n → n ≤ 1 → (b ≡ true → n ≡ 0) → k ≤ 1
few true k n is most free = let none = free refl in omega arith
few false k n is most free = omega arith

free_of : (l : List Entry) (content : Content) (m : ℕ) → IsNumberFree l content → has_number m content ≡ true → times_begun m l ≡ 0
free_of l Nothing m free is = absurd (cc)
free_of l (Container number shape) m free is = ap (λ k. times_begun k l) (eqb-true m number is) ∙ free
free_of l (Plain key whole) m free is = absurd (cc)
free_of l (Checked key header last) m free is = absurd (cc)

pub held_kept : (r : RunRecord) (n : ℕ) (content : Content) (taken : Option (List ℕ)) → MayHold n content r
    → IsSoundWith (Some r) taken → IsSoundWith (Some (allowed n content r)) (Some [])
held_kept r n content taken may both =
    taken_kept r n content may.new may.allowed
    (λ m.
    few (has_number m content) _ (times_begun m r.entries)
    (times_more m n content (set_content content) r.entries (new_output may.new.name) may.new.there refl (λ o. refl))
    (both.0.once m) (free_of r.entries content m may.free))
    both.0

-- an output was closed
pub closed_kept : (r : RunRecord) (n : ℕ) (state : State) (held : List ℕ) (failures : ℕ)
    → Allows (bound_of r.under (content_in r.entries (Some n))) held → IsSound r
    → IsSoundWith (Some (closed_at n state held failures r)) (Some [])
closed_kept r n state held failures fits sound =
    let f : Output → Output = set_closed state held failures in (
      record {
        each = each_written r n f held (λ o may good. (may, good)) fits sound;
        once = once_kept r n f (λ o. refl) sound;
      },
      ([], refl, ([], refl)),
    )
