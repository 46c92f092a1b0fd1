-- The step from the lines so far to one more line.
use Rattle.std.proofs.Common.{◌≡◌, ℕ, ◌+◌, ◌<◌, ◌≤◌, ◌^◌, min, List, [], ◌∷◌, ◌++◌, length, take, true, nat_lt, refl, sym, ap, ◌∙◌, subst, inl, arith, append_assoc, length-append, codes}
use Rattle.std.specs.Fmt.{decimal}
use Rattle.std.specs.Str.{IsUtf8, IsAscii}
use Rattle.std.specs.List.{list_all}
use Rattle.std.proofs.lemmas.Bool.Decides.{nat_tests}
use Rattle.std.proofs.lemmas.Fmt.{length-decimal-le, IsAscii-decimal}
use Rattle.std.proofs.lemmas.Str.{IsUtf8-from_ascii, IsAscii-append}
use Rattle.std.proofs.lemmas.Str.Ascii.{IsAscii-nil, IsAscii-cons}
use Rattle.std.proofs.lemmas.List.{map-append, length-take, take_all, length-map}
use Rattle.journal_core.specs.declared.entry.Way.TheVariants.{Sealed, Void}
use Rattle.journal_core.specs.declared.entry.Event.{Event}
use Rattle.journal_core.specs.declared.entry.Event.TheVariants.{Granted, Exhausted, Settled}
use Rattle.journal_core.specs.declared.entry.Entry.{Entry}
use Rattle.journal_core.specs.declared.state.State.TheVariants.{Sound, Wrong}
use Rattle.journal_core.specs.declared.verdict.Verdict.TheVariants.{Malformed, Illegal}
use Rattle.journal_core.specs.History.{Terms, IsLawful, MayFollow, Legal}
use Rattle.journal_core.specs.Standing.{StandingView, fresh, CanFollow, IsSmall, after, Tracks}
use Rattle.journal_core.specs.Text.{event_text, terms_text, entry_text, journal_lines}
use Rattle.journal_core.specs.Verdict.{IsWritable, IsNumberOf32Bits}
use Rattle.journal_core.specs.Judged.{Judged, SameFront}
use Rattle.journal_core.proofs.Histories.{legal_none, legal_push}
use Rattle.journal_core.proofs.Lines.{both_true, four_small, terms_split, event_split, word_of, rest_of}
use Rattle.journal_core.proofs.Tracking.{tracks_none, can-may, small, tracks_after}

-- the first 35 bytes determine a short text
pub same_text : (line whole text : List ℕ) → SameFront line whole → length text < 35 → whole ≡ text → line ≡ text
same_text line whole text same few is =
    let t : take 35 text ≡ text = take_all 35 text (omega arith) in
    let e : take 35 line ≡ text = same ∙ ap (take 35) is ∙ t in
    let n : min 35 (length line) ≡ length text = sym (length-take 35 line) ∙ ap (length {A = ℕ}) e in
    sym (take_all 35 line (omega arith)) ∙ e

-- the texts of lines are short, and ASCII

length_number : (k n : ℕ) → 0 < k → n < 10 ^ k → n < 4294967296 → length (decimal n) ≤ k
length_number k n some few low = length-decimal-le k n some few (omega arith)

short_event : (event : Event) → IsNumberOf32Bits event → length (event_text event) ≤ 17
short_event (Granted n) small = let d = length_number 10 n (omega arith) (omega arith) small in omega arith
short_event Exhausted small = omega arith
short_event (Settled n Sealed) small = let d = length_number 10 n (omega arith) (omega arith) small in omega arith
short_event (Settled n Void) small = let d = length_number 10 n (omega arith) (omega arith) small in omega arith

pub short_entry : (e : Entry) → IsWritable e → length (entry_text e) < 35
short_entry e writable =
    let d = length_number 2 e.seat (omega arith) (let s = writable.seat in omega arith) (let s = writable.seat in omega arith) in
    let v = short_event e.event writable.number in
    let l = length-append (decimal e.seat ++ codes " ") (event_text e.event) in
    let m = length-append (decimal e.seat) (codes " ") in omega arith

pub short_terms : (terms : Terms) → IsLawful terms → length (terms_text terms) < 35
short_terms terms lawful =
    let few = four_small terms lawful in
    let range = lawful.range in
    let seats = lawful.few_seats in
    let device = length_number 8 terms.range.device (omega arith) (omega arith) few.device in
    let lo = length_number 10 terms.range.lo (omega arith) (omega arith) few.lo in
    let size = length_number 5 terms.range.size (omega arith) (omega arith) few.size in
    let seat = length_number 2 terms.seats (omega arith) (omega arith) few.seats in
    let split = ap (length {A = ℕ}) (terms_split terms) in
    let three = length-append (decimal terms.range.size) (32 ∷ decimal terms.seats) in
    let two = length-append (decimal terms.range.lo) (32 ∷ (decimal terms.range.size ++ 32 ∷ decimal terms.seats)) in
    let one = length-append (decimal terms.range.device) (32 ∷ (decimal terms.range.lo ++ 32 ∷ (decimal terms.range.size ++ 32 ∷ decimal terms.seats))) in omega arith

ascii_number : (n : ℕ) → n < 4294967296 → IsAscii (decimal n)
ascii_number n small = IsAscii-decimal n (omega arith)

ascii_space : (text : List ℕ) → IsAscii text → IsAscii (32 ∷ text)
ascii_space text is = IsAscii-cons 32 text (omega arith) is

ascii_codes : (bs : List ℕ) → list_all (λ b. nat_lt b 128) bs ≡ true → IsAscii bs
ascii_codes [] all = IsAscii-nil
ascii_codes (b ∷ bs) all = let both = both_true (nat_lt b 128) (list_all (λ x. nat_lt x 128) bs) all in IsAscii-cons b bs (low b both.0) (ascii_codes bs both.1)
  where
    low : (n : ℕ) → nat_lt n 128 ≡ true → n < 128
    low n e = grind (arith, nat_tests)

ascii_word : (event : Event) → IsAscii (word_of event)
ascii_word (Granted n) = ascii_codes (codes "issue") refl
ascii_word Exhausted = ascii_codes (codes "issue") refl
ascii_word (Settled n Sealed) = ascii_codes (codes "sealed") refl
ascii_word (Settled n Void) = ascii_codes (codes "void") refl

ascii_rest : (event : Event) → IsNumberOf32Bits event → IsAscii (rest_of event)
ascii_rest (Granted n) small = ascii_number n small
ascii_rest Exhausted small = ascii_codes (codes "none") refl
ascii_rest (Settled n way) small = ascii_number n small

pub utf8_entry : (e : Entry) → IsWritable e → IsUtf8 (entry_text e)
utf8_entry e writable =
    IsUtf8-from_ascii (entry_text e)
    (IsAscii-append (decimal e.seat ++ codes " ") (event_text e.event)
    (IsAscii-append (decimal e.seat) (codes " ") (ascii_number e.seat (let s = writable.seat in omega arith)) (ascii_space [] IsAscii-nil))
    (subst IsAscii (sym (event_split e.event)) (IsAscii-append (word_of e.event) (32 ∷ rest_of e.event) (ascii_word e.event) (ascii_space _ (ascii_rest e.event writable.number)))))

pub utf8_terms : (terms : Terms) → IsLawful terms → IsUtf8 (terms_text terms)
utf8_terms terms lawful =
    let few = four_small terms lawful in
    let three : List ℕ = 32 ∷ decimal terms.seats in
    let two : List ℕ = 32 ∷ (decimal terms.range.size ++ three) in
    let one : List ℕ = 32 ∷ (decimal terms.range.lo ++ two) in
    let size = IsAscii-append (decimal terms.range.size) three (ascii_number _ few.size) (ascii_space _ (ascii_number _ few.seats)) in
    let lo = IsAscii-append (decimal terms.range.lo) two (ascii_number _ few.lo) (ascii_space _ size) in
    let device = IsAscii-append (decimal terms.range.device) one (ascii_number _ few.device) (ascii_space _ lo) in
    IsUtf8-from_ascii (terms_text terms) (subst IsAscii (sym (terms_split terms)) (IsAscii-append (codes "range") (32 ∷ (decimal terms.range.device ++ one)) (ascii_codes (codes "range") refl) (ascii_space _ device)))

-- the first line

pub wrong_first : (whole : List ℕ) → ((terms : Terms) → IsLawful terms → whole ≡ terms_text terms → ⊥) → Judged (Wrong (Malformed 1)) (whole ∷ [])
wrong_first whole none later rest = ([], tt, inl (whole, later, refl, (λ some. none some.0 some.1 some.2)), refl)

pub sound_first : (s : StandingView) (terms : Terms) (whole : List ℕ) → IsLawful terms → whole ≡ terms_text terms → s ≡ fresh terms → Judged (Sound s) (whole ∷ [])
sound_first s terms whole lawful is start =
    subst (λ (z : StandingView). Judged (Sound z) (whole ∷ [])) (sym start) ([], ap (λ l. l ∷ []) is, lawful, legal_none terms, tracks_none terms)

-- a later line

pub journal_push : (terms : Terms) (history : List Entry) (e : Entry) → journal_lines terms (history ++ e ∷ []) ≡ journal_lines terms history ++ entry_text e ∷ []
journal_push terms history e = ap (λ l. terms_text terms ∷ l) (map-append entry_text history (e ∷ []))

length_lines : (terms : Terms) (history : List Entry) → length (journal_lines terms history) ≡ length history + 1
length_lines terms history = let l = length-map history entry_text in omega arith

terms_after : (s : StandingView) (e : Entry) → (after s e.seat e.event).terms ≡ s.terms
terms_after s e = elim e.event as (λ v. (after s e.seat v).terms ≡ s.terms) [ Granted n ↦ refl | Exhausted ↦ refl | Settled n way ↦ refl ]

pub malformed_later : (s : StandingView) (lines : List (List ℕ)) (whole : List ℕ) (n : ℕ) → Judged (Sound s) lines → n ≡ length lines + 1
    → ((e : Entry) → IsWritable e → whole ≡ entry_text e → ⊥) → Judged (Wrong (Malformed n)) (lines ++ whole ∷ [])
malformed_later s lines whole n sound at none later rest =
    let history = sound.0 in (
      journal_lines s.terms history,
      (s.terms, history, refl, sound.2, sound.3),
      inl (whole, later, append_assoc lines (whole ∷ []) later ∙ ap (λ l. l ++ whole ∷ later) sound.1, (λ some. none some.0 some.1 some.2)),
      at ∙ ap (λ l. length l + 1) sound.1,
    )

pub illegal_later : (s : StandingView) (lines : List (List ℕ)) (whole : List ℕ) (n : ℕ) (e : Entry) → Judged (Sound s) lines → n ≡ length lines + 1 → IsWritable e → whole ≡ entry_text e
    → (CanFollow s e → ⊥) → Judged (Wrong (Illegal n)) (lines ++ whole ∷ [])
illegal_later s lines whole n e sound at writable is cannot later rest =
    let history = sound.0 in (
      s.terms,
      history,
      sound.2,
      sound.3,
      (
        e,
        later,
        append_assoc lines (whole ∷ []) later ∙ ap (λ l. l ++ whole ∷ later) sound.1 ∙ ap (λ w. journal_lines s.terms history ++ w ∷ later) is,
        writable,
        (λ may. cannot ((can-may s history e sound.4 sound.2 sound.3).1 may)),
      ),
      (let l = ap (length {A = List ℕ}) sound.1 in let m = length_lines s.terms history in omega arith),
    )

pub sound_later : (s next : StandingView) (lines : List (List ℕ)) (whole : List ℕ) (e : Entry) → Judged (Sound s) lines → whole ≡ entry_text e → CanFollow s e
    → (IsSmall s.tally → next ≡ after s e.seat e.event) → Judged (Sound next) (lines ++ whole ∷ [])
sound_later s next lines whole e sound is can steps =
    let history = sound.0 in
    let may : MayFollow s.terms history e = (can-may s history e sound.4 sound.2 sound.3).0 can in
    let grown = legal_push s.terms history e sound.3 may in
    let all : lines ++ whole ∷ [] ≡ journal_lines s.terms (history ++ e ∷ []) =
    ap (λ l. l ++ whole ∷ []) sound.1 ∙ ap (λ w. journal_lines s.terms history ++ w ∷ []) is ∙ sym (journal_push s.terms history e) in
    let is_next = steps (small s history sound.4 sound.2 sound.3) in
    let same : next.terms ≡ s.terms = ap (λ (z : StandingView). z.terms) is_next ∙ terms_after s e in (
      history ++ e ∷ [],
      all ∙ ap (λ t. journal_lines t (history ++ e ∷ [])) (sym same),
      subst IsLawful (sym same) sound.2,
      subst (λ t. Legal t (history ++ e ∷ [])) (sym same) grown,
      subst (λ (z : StandingView). Tracks z (history ++ e ∷ [])) (sym is_next) (tracks_after s history e sound.4 sound.2 sound.3 may),
    )
