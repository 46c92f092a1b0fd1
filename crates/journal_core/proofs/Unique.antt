-- Every list of bytes has at most one verdict.
--
-- A line determines its entry, and a range line its range and seats. So a fault has one place: the lines before it are
-- sound, and no sound list goes on with its line. Two faults have the same place, and a legal journal has none.
use Rattle.std.proofs.Common.{◌≡◌, ◌≢◌, ⊎_elim, ℕ, ◌+◌, ◌<◌, ◌^◌, List, [], ◌∷◌, ◌++◌, length, map, All, true, not, nat_eq, eq-eqb, refl, sym, ap, ◌∙◌, subst, arith, append_assoc, append-nil, length-append, codes}
use Rattle.std.specs.Fmt.{decimal}
use Rattle.std.proofs.lemmas.Fmt.{decimal_injective, decimal_is_IsNumeral}
use Rattle.std.proofs.lemmas.Bool.{cases_lt}
use Rattle.std.proofs.lemmas.List.{length-map}
use Rattle.std.proofs.lemmas.List.Elements.{All-nil, All-cons, All-append, All-from_get_or}
use Rattle.std.proofs.lemmas.Str.Parse.{digit_at}
use Rattle.std.specs.List.{list_all}
use Rattle.journal_core.specs.declared.entry.Way.TheVariants.{Sealed, Void}
use Rattle.journal_core.specs.declared.entry.Event.{Event}
use Rattle.journal_core.specs.declared.entry.Event.TheVariants.{Granted, Exhausted, Settled}
use Rattle.journal_core.specs.declared.entry.Entry.{Entry}
use Rattle.journal_core.specs.declared.verdict.Verdict.{Verdict}
use Rattle.journal_core.specs.declared.verdict.Verdict.TheVariants.{Legal as IsLegal, Malformed, Illegal}
use Rattle.journal_core.specs.History.{Terms, IsLawful, MayFollow, Legal, entry, tally_of}
use Rattle.journal_core.specs.Range.{range_of}
use Rattle.journal_core.specs.Journal.{terms_of}
use Rattle.journal_core.specs.Text.{entry_text, event_text, terms_text, journal_lines, journal_text}
use Rattle.journal_core.specs.Verdict.{IsLine, IsNumberOf32Bits, IsWritable, IsWellFormed, IsSound, IsMalformed, IsIllegal, Judges, IsVerdict}
use Rattle.journal_core.proofs.Histories.{MayReply, reply_of, legal_front}
use Rattle.journal_core.proofs.Bounds.{within}
use Rattle.journal_core.proofs.Owners.{in_range}
use Rattle.journal_core.proofs.Numbers.{no_space}
use Rattle.journal_core.proofs.Lines.{both_true, word_of, rest_of, event_split, word_no_space, range_no_space, terms_split, four_small, not_none}
use Rattle.journal_core.proofs.Separators.{split_same, cut_same}

-- a text determines what it is the text of

same_number : (m n : ℕ) → m < 4294967296 → n < 4294967296 → decimal m ≡ decimal n → m ≡ n
same_number m n a b is = decimal_injective m n (omega arith) (omega arith) is

same_event_by : (e f : Event) → IsNumberOf32Bits e → IsNumberOf32Bits f → word_of e ≡ word_of f → rest_of e ≡ rest_of f → e ≡ f
same_event_by (Granted m) (Granted n) a b word rest = ap (λ k. Granted k) (same_number m n a b rest)
same_event_by (Granted m) Exhausted a b word rest = absurd (not_none m a rest)
same_event_by (Granted m) (Settled n Sealed) a b word rest = absurd (cc)
same_event_by (Granted m) (Settled n Void) a b word rest = absurd (cc)
same_event_by Exhausted (Granted n) a b word rest = absurd (not_none n b (sym rest))
same_event_by Exhausted Exhausted a b word rest = refl
same_event_by Exhausted (Settled n Sealed) a b word rest = absurd (cc)
same_event_by Exhausted (Settled n Void) a b word rest = absurd (cc)
same_event_by (Settled m Sealed) (Granted n) a b word rest = absurd (cc)
same_event_by (Settled m Sealed) Exhausted a b word rest = absurd (cc)
same_event_by (Settled m Sealed) (Settled n Sealed) a b word rest = ap (λ k. Settled k Sealed) (same_number m n a b rest)
same_event_by (Settled m Sealed) (Settled n Void) a b word rest = absurd (cc)
same_event_by (Settled m Void) (Granted n) a b word rest = absurd (cc)
same_event_by (Settled m Void) Exhausted a b word rest = absurd (cc)
same_event_by (Settled m Void) (Settled n Sealed) a b word rest = absurd (cc)
same_event_by (Settled m Void) (Settled n Void) a b word rest = ap (λ k. Settled k Void) (same_number m n a b rest)

same_event : (e f : Event) → IsNumberOf32Bits e → IsNumberOf32Bits f → event_text e ≡ event_text f → e ≡ f
same_event e f a b is =
    let words = split_same 32 (word_of e) (word_of f) (rest_of e) (rest_of f) (word_no_space e) (word_no_space f) (sym (event_split e) ∙ is ∙ event_split f) in
    same_event_by e f a b words.0 words.1

entry_split : (e : Entry) → entry_text e ≡ decimal e.seat ++ 32 ∷ event_text e.event
entry_split e = append_assoc (decimal e.seat) (codes " ") (event_text e.event)

same_entry : (e f : Entry) → IsWritable e → IsWritable f → entry_text e ≡ entry_text f → e ≡ f
same_entry e f a b is =
    let x = a.seat in
    let y = b.seat in
    let low : e.seat < 4294967296 = omega arith in
    let low_too : f.seat < 4294967296 = omega arith in
    let parts = split_same 32 (decimal e.seat) (decimal f.seat) (event_text e.event) (event_text f.event) (no_space e.seat low) (no_space f.seat low_too) (sym (entry_split e) ∙ is ∙ entry_split f) in
    let seat = same_number e.seat f.seat low low_too parts.0 in
    let event = same_event e.event f.event a.number b.number parts.1 in
    λ i. entry (seat i) (event i)

same_terms : (t u : Terms) → IsLawful t → IsLawful u → terms_text t ≡ terms_text u → t ≡ u
same_terms t u a b is =
    let p = four_small t a in
    let q = four_small u b in
    let word = split_same 32 (codes "range") (codes "range") _ _ range_no_space range_no_space (sym (terms_split t) ∙ is ∙ terms_split u) in
    let device = split_same 32 (decimal t.range.device) (decimal u.range.device) _ _ (no_space _ p.device) (no_space _ q.device) word.1 in
    let lo = split_same 32 (decimal t.range.lo) (decimal u.range.lo) _ _ (no_space _ p.lo) (no_space _ q.lo) device.1 in
    let size = split_same 32 (decimal t.range.size) (decimal u.range.size) _ _ (no_space _ p.size) (no_space _ q.size) lo.1 in
    let d = same_number _ _ p.device q.device device.0 in
    let l = same_number _ _ p.lo q.lo lo.0 in
    let s = same_number _ _ p.size q.size size.0 in
    let n = same_number _ _ p.seats q.seats size.1 in
    λ i. terms_of (range_of (d i) (l i) (s i)) (n i)

-- the entries of a legal history are writable

writable_by : (terms : Terms) (history : List Entry) (seat : ℕ) (event : Event) → IsLawful terms → Legal terms history → MayReply terms history seat event → IsNumberOf32Bits event
writable_by terms history seat (Granted n) lawful legal may = let r = lawful.range in omega arith
writable_by terms history seat Exhausted lawful legal may = tt
writable_by terms history seat (Settled n way) lawful legal may =
    let r = lawful.range in
    let i = in_range terms history legal seat n may.0 in
    let w = (within terms history legal).0 in omega arith

writable : (terms : Terms) (history : List Entry) (e : Entry) → IsLawful terms → Legal terms history → MayFollow terms history e → IsWritable e
writable terms history e lawful legal may =
    let s = may.seat in
    let f = lawful.few_seats in record {
      seat = omega arith;
      number = writable_by terms history e.seat e.event lawful legal (reply_of terms history e may);
    }

-- entries, from the lines that they make

same_entries : (terms : Terms) (g h : List Entry) → IsLawful terms → ((before : List Entry) (e : Entry) (after : List Entry) → g ≡ before ++ e ∷ after → IsWritable e)
    → ((before : List Entry) (e : Entry) (after : List Entry) → h ≡ before ++ e ∷ after → IsWritable e) → map entry_text g ≡ map entry_text h → g ≡ h
same_entries terms [] [] lawful a b is = refl
same_entries terms [] (f ∷ fs) lawful a b is = absurd (cc)
same_entries terms (e ∷ es) [] lawful a b is = absurd (cc)
same_entries terms (e ∷ es) (f ∷ fs) lawful a b is =
    let head : entry_text e ≡ entry_text f = cc in
    let tail : map entry_text es ≡ map entry_text fs = cc in
    let first = same_entry e f (a [] e es refl) (b [] f fs refl) head in
    let rest = same_entries terms es fs lawful (λ before x after is_there. a (e ∷ before) x after (ap (λ l. e ∷ l) is_there)) (λ before x after is_there. b (f ∷ before) x after (ap (λ l. f ∷ l) is_there)) tail in
    λ i. first i ∷ rest i

each_writable : (terms : Terms) (history : List Entry) → IsLawful terms → Legal terms history → (before : List Entry) (e : Entry) (after : List Entry) → history ≡ before ++ e ∷ after → IsWritable e
each_writable terms history lawful legal before e after is =
    writable terms before e lawful (legal_front terms before (e ∷ after) (subst (Legal terms) is legal)) (legal before e after is)

same_journal : (t u : Terms) (g h : List Entry) → IsLawful t → IsLawful u → Legal t g → Legal u h → journal_lines t g ≡ journal_lines u h → (t ≡ u) × (g ≡ h)
same_journal t u g h a b lg lh is =
    let head : terms_text t ≡ terms_text u = cc in
    let tail : map entry_text g ≡ map entry_text h = cc in
    (same_terms t u a b head, same_entries t g h a (each_writable t g a lg) (each_writable u h b lh) tail)

-- lines that start with others, and go on with a line, are those of a history cut there
cut_history : (before later : List (List ℕ)) (line : List ℕ) (history : List Entry) → before ++ line ∷ later ≡ map entry_text history
    → (front : List Entry) × (e : Entry) × (back : List Entry) × (history ≡ front ++ e ∷ back) × (before ≡ map entry_text front) × (line ≡ entry_text e)
cut_history [] later line [] is = absurd (cc)
cut_history [] later line (e ∷ es) is = ([], e, es, refl, refl, cc)
cut_history (b ∷ bs) later line [] is = absurd (cc)
cut_history (b ∷ bs) later line (e ∷ es) is =
    let head : b ≡ entry_text e = cc in
    let tail : bs ++ line ∷ later ≡ map entry_text es = cc in
    one_more b bs line e es head (cut_history bs later line es tail)
  where
    one_more : (c : List ℕ) (cs : List (List ℕ)) (l : List ℕ) (x : Entry) (xs : List Entry) → c ≡ entry_text x
        → (front : List Entry) × (y : Entry) × (back : List Entry) × (xs ≡ front ++ y ∷ back) × (cs ≡ map entry_text front) × (l ≡ entry_text y)
        → (front : List Entry) × (y : Entry) × (back : List Entry) × (x ∷ xs ≡ front ++ y ∷ back) × (c ∷ cs ≡ map entry_text front) × (l ≡ entry_text y)
    one_more c cs l x xs first rest = (x ∷ rest.0, rest.1, rest.2, ap (λ z. x ∷ z) rest.3, (λ i. first i ∷ rest.4 i), rest.5)

-- a sound list has no malformed line, and no entry that may not follow

no_malformed : (before later : List (List ℕ)) (line : List ℕ) → IsSound (before ++ line ∷ later) → IsWellFormed before line
no_malformed [] later line sound = (sound.0, sound.3, (let first : line ≡ terms_text sound.0 = cc in first))
no_malformed (b ∷ bs) later line sound =
    let tail : bs ++ line ∷ later ≡ map entry_text sound.1 = cc in
    let at = cut_history bs later line sound.1 tail in
    (at.1, each_writable sound.0 sound.1 sound.3 sound.4 at.0 at.1 at.2 at.3, at.5)

no_illegal : (terms : Terms) (history : List Entry) (e : Entry) (later : List (List ℕ)) → IsLawful terms → Legal terms history → IsWritable e
    → IsSound (journal_lines terms history ++ entry_text e ∷ later) → MayFollow terms history e
no_illegal terms history e later lawful legal may_write sound =
    let head : terms_text terms ≡ terms_text sound.0 = cc in
    let tail : map entry_text history ++ entry_text e ∷ later ≡ map entry_text sound.1 = cc in
    let at = cut_history (map entry_text history) later (entry_text e) sound.1 tail in
    let same = same_terms terms sound.0 lawful sound.3 head in
    let this = each_writable sound.0 sound.1 sound.3 sound.4 at.0 at.1 at.2 at.3 in
    let front = legal_front sound.0 at.0 (at.1 ∷ at.2) (subst (Legal sound.0) at.3 sound.4) in
    let histories = same_entries terms history at.0 lawful (each_writable terms history lawful legal) (each_writable sound.0 at.0 sound.3 front) at.4 in
    let entries = same_entry e at.1 may_write this at.5 in
    subst (λ (z : Terms × (List Entry × Entry)). MayFollow z.0 z.1.0 z.1.1) (λ i. (sym same i, (sym histories i, sym entries i))) (sound.4 at.0 at.1 at.2 at.3)

-- the place of a fault

record Stop (lines before : List (List ℕ)) : Type 0 where
  tail : List (List ℕ)
  split : lines ≡ before ++ tail
  sound : IsSound before
  ends : (line : List ℕ) (later more : List (List ℕ)) → tail ≡ line ∷ later → IsSound (before ++ line ∷ more) → ⊥

longer : (a xs b y : List (List ℕ)) (x : List ℕ) → a ++ x ∷ xs ≡ b ++ y → length a < length b → (more : List (List ℕ)) × (b ≡ a ++ x ∷ more)
longer a xs [] y x is less = absurd (omega arith)
longer [] xs (c ∷ cs) y x is less = (cs, (let e : c ≡ x = cc in ap (λ z. z ∷ cs) e))
longer (p ∷ ps) xs (c ∷ cs) y x is less =
    let head : p ≡ c = cc in
    let tail : ps ++ x ∷ xs ≡ cs ++ y = cc in
    let rest = longer ps xs cs y x tail (omega arith) in
    (rest.0, (λ i. sym head i ∷ rest.1 i))

not_before : (lines a b : List (List ℕ)) → Stop lines a → Stop lines b → length a < length b → ⊥
not_before lines a b s t less = go s.tail refl
  where
    go : (tail : List (List ℕ)) → s.tail ≡ tail → ⊥
    go [] is = let e = ap (length {A = List ℕ}) (sym s.split ∙ t.split) in omega (arith, length-append a s.tail, length-append b t.tail, ap (length {A = List ℕ}) is)
    go (x ∷ xs) is =
        let both : a ++ x ∷ xs ≡ b ++ t.tail = ap (λ l. a ++ l) (sym is) ∙ sym s.split ∙ t.split in
        let more = longer a xs b t.tail x both less in
        s.ends x xs more.0 is (subst IsSound more.1 t.sound)

same_stop : (lines a b : List (List ℕ)) → Stop lines a → Stop lines b → length a ≡ length b
same_stop lines a b s t =
    ⊎_elim (λ less. absurd (not_before lines a b s t less)) (λ more. ⊎_elim (λ less. absurd (not_before lines b a t s less)) (λ same. omega arith) (cases_lt (length b) (length a)))
    (cases_lt (length a) (length b))

malformed_stop : (before lines : List (List ℕ)) (rest : List ℕ) → IsSound before → IsMalformed before lines rest → Stop lines before
malformed_stop before lines rest sound bad = ⊎_elim
    (λ (some : (line : List ℕ) × (later : List (List ℕ)) × (lines ≡ before ++ line ∷ later) × ¬ IsWellFormed before line). record {
      tail = some.0 ∷ some.1;
      split = some.2;
      sound = sound;
      ends = λ line later more is goes. let same : some.0 ≡ line = cc in some.3 (subst (IsWellFormed before) (sym same) (no_malformed before more line goes));
    })
    (λ (open_line : (lines ≡ before) × (rest ≡ [] → before ≡ [])). record {
      tail = [];
      split = open_line.0 ∙ sym (append-nil before);
      sound = sound;
      ends = λ line later more is goes. absurd (cc);
    })
    bad

illegal_stop : (terms : Terms) (history : List Entry) (lines : List (List ℕ)) → IsLawful terms → Legal terms history → IsIllegal terms history lines → Stop lines (journal_lines terms history)
illegal_stop terms history lines lawful legal bad = record {
  tail = entry_text bad.0 ∷ bad.1;
  split = bad.2;
  sound = (terms, history, refl, lawful, legal);
  ends = λ line later more is goes.
      let same : entry_text bad.0 ≡ line = cc in
      bad.4 (no_illegal terms history bad.0 more lawful legal bad.3 (subst (λ l. IsSound (journal_lines terms history ++ l ∷ more)) (sym same) goes));
}

-- a sound list has no place of a fault before its end
no_stop : (lines before : List (List ℕ)) → IsSound lines → (s : Stop lines before) → lines ≡ before
no_stop lines before sound s = go s.tail refl
  where
    go : (tail : List (List ℕ)) → s.tail ≡ tail → lines ≡ before
    go [] is = s.split ∙ ap (λ l. before ++ l) is ∙ append-nil before
    go (x ∷ xs) is = absurd (s.ends x xs xs is (subst IsSound (s.split ∙ ap (λ l. before ++ l) is) sound))

-- one kind of fault at a place excludes the other, and a legal journal excludes both

not_both : (before lines : List (List ℕ)) (rest : List ℕ) (terms : Terms) (history : List Entry) → IsSound before → IsMalformed before lines rest → IsLawful terms → Legal terms history → IsIllegal terms history lines → ⊥
not_both before lines rest terms history sound bad lawful legal wrong =
    let s = malformed_stop before lines rest sound bad in
    let t = illegal_stop terms history lines lawful legal wrong in
    let long = same_stop lines before (journal_lines terms history) s t in
    ⊎_elim
    (λ (some : (line : List ℕ) × (later : List (List ℕ)) × (lines ≡ before ++ line ∷ later) × ¬ IsWellFormed before line).
    let same = fronts before (journal_lines terms history) some.0 (entry_text wrong.0) some.1 wrong.1 (sym some.2 ∙ wrong.2) long in
    some.3 (subst (λ b. IsWellFormed b some.0) (sym same.0) (wrong.0, wrong.3, same.1)))
    (λ (open_line : (lines ≡ before) × (rest ≡ [] → before ≡ [])).
    let e = ap (length {A = List ℕ}) (sym open_line.0 ∙ wrong.2) in omega (arith, length-append (journal_lines terms history) (entry_text wrong.0 ∷ wrong.1)))
    bad
  where
    fronts : (a b : List (List ℕ)) (x y : List ℕ) (xs ys : List (List ℕ)) → a ++ x ∷ xs ≡ b ++ y ∷ ys → length a ≡ length b → (a ≡ b) × (x ≡ y)
    fronts [] [] x y xs ys is same = (refl, cc)
    fronts [] (c ∷ cs) x y xs ys is same = absurd (omega arith)
    fronts (c ∷ cs) [] x y xs ys is same = absurd (omega arith)
    fronts (c ∷ cs) (d ∷ ds) x y xs ys is same =
        let head : c ≡ d = cc in
        let tail : cs ++ x ∷ xs ≡ ds ++ y ∷ ys = cc in
        let rest = fronts cs ds x y xs ys tail (omega arith) in
        ((λ i. head i ∷ rest.0 i), rest.1)

legal_not_malformed : (terms : Terms) (history : List Entry) (before lines : List (List ℕ)) (rest : List ℕ) → lines ≡ journal_lines terms history → rest ≡ [] → IsLawful terms → Legal terms history
    → IsSound before → IsMalformed before lines rest → ⊥
legal_not_malformed terms history before lines rest is none lawful legal sound bad = ⊎_elim
    (λ (some : (line : List ℕ) × (later : List (List ℕ)) × (lines ≡ before ++ line ∷ later) × ¬ IsWellFormed before line).
    some.3 (no_malformed before some.1 some.0 (subst IsSound (sym is ∙ some.2) (terms, history, refl, lawful, legal))))
    (λ (open_line : (lines ≡ before) × (rest ≡ [] → before ≡ [])). let empty : journal_lines terms history ≡ [] = sym is ∙ open_line.0 ∙ open_line.1 none in cc)
    bad

legal_not_illegal : (t u : Terms) (g h : List Entry) (lines : List (List ℕ)) → lines ≡ journal_lines t g → IsLawful t → Legal t g → IsLawful u → Legal u h → IsIllegal u h lines → ⊥
legal_not_illegal t u g h lines is lt lg lu lh bad = bad.4 (no_illegal u h bad.0 bad.1 lu lh bad.3 (subst IsSound (sym is ∙ bad.2) (t, g, refl, lt, lg)))

same_judgement : (lines : List (List ℕ)) (rest : List ℕ) (v w : Verdict) → Judges lines rest v → Judges lines rest w → v ≡ w
same_judgement lines rest (IsLegal x) (IsLegal y) a b =
    let same = same_journal a.0 b.0 a.1 b.1 a.4 b.4 a.5 b.5 (sym a.2 ∙ b.2) in
    ap (λ t. IsLegal t) (a.6 ∙ ap tally_of same.1 ∙ sym b.6)
same_judgement lines rest (IsLegal x) (Malformed n) a b = absurd (legal_not_malformed a.0 a.1 b.0 lines rest a.2 a.3 a.4 a.5 b.1 b.2)
same_judgement lines rest (IsLegal x) (Illegal n) a b = absurd (legal_not_illegal a.0 b.0 a.1 b.1 lines a.2 a.4 a.5 b.2 b.3 b.4)
same_judgement lines rest (Malformed m) (IsLegal y) a b = absurd (legal_not_malformed b.0 b.1 a.0 lines rest b.2 b.3 b.4 b.5 a.1 a.2)
same_judgement lines rest (Malformed m) (Malformed n) a b =
    let long = same_stop lines a.0 b.0 (malformed_stop a.0 lines rest a.1 a.2) (malformed_stop b.0 lines rest b.1 b.2) in
    ap (λ k. Malformed k) (a.3 ∙ ap (λ k. k + 1) long ∙ sym b.3)
same_judgement lines rest (Malformed m) (Illegal n) a b = absurd (not_both a.0 lines rest b.0 b.1 a.1 a.2 b.2 b.3 b.4)
same_judgement lines rest (Illegal m) (IsLegal y) a b = absurd (legal_not_illegal b.0 a.0 b.1 a.1 lines b.2 b.4 b.5 a.2 a.3 a.4)
same_judgement lines rest (Illegal m) (Malformed n) a b = absurd (not_both b.0 lines rest a.0 a.1 b.1 b.2 a.2 a.3 a.4)
same_judgement lines rest (Illegal m) (Illegal n) a b =
    let long = same_stop lines (journal_lines a.0 a.1) (journal_lines b.0 b.1) (illegal_stop a.0 a.1 lines a.2 a.3 a.4) (illegal_stop b.0 b.1 lines b.2 b.3 b.4) in
    let x = length-map a.1 entry_text in
    let y = length-map b.1 entry_text in
    ap (λ k. Illegal k) (omega arith)

-- every list of bytes has at most one verdict
pub same_verdict : (bytes : List ℕ) (v w : Verdict) → IsVerdict bytes v → IsVerdict bytes w → v ≡ w
same_verdict bytes v w a b =
    let cut = cut_same bytes a.lines b.lines a.rest b.rest a.cut b.cut in
    same_judgement b.lines b.rest v w (subst (λ (z : List (List ℕ) × List ℕ). Judges z.0 z.1 v) (λ i. (cut.0 i, cut.1 i)) a.judged) b.judged

-- no line of a journal has a line feed in it

number_line : (n : ℕ) → n < 4294967296 → IsLine (decimal n)
number_line n small =
    let low : n < 2 ^ 64 = omega arith in
    All-from_get_or (λ b. b ≢ 10) (decimal n) 0 (λ i inside. let digit = digit_at (decimal n) i (decimal_is_IsNumeral n low).0.1 inside in λ is. omega arith)

code_line : (b : ℕ) → not (nat_eq b 10) ≡ true → b ≢ 10
code_line b h is = let t : nat_eq b 10 ≡ true = eq-eqb b 10 is in let e : not true ≡ true = ap not (sym t) ∙ h in cc

codes_line : (bs : List ℕ) → list_all (λ b. not (nat_eq b 10)) bs ≡ true → IsLine bs
codes_line [] all = All-nil (λ b. b ≢ 10)
codes_line (b ∷ bs) all =
    let both = both_true (not (nat_eq b 10)) (list_all (λ x. not (nat_eq x 10)) bs) all in All-cons (λ x. x ≢ 10) b bs (code_line b both.0) (codes_line bs both.1)

space_line : (text : List ℕ) → IsLine text → IsLine (32 ∷ text)
space_line text line = All-cons (λ b. b ≢ 10) 32 text (code_line 32 refl) line

word_line : (event : Event) → IsLine (word_of event)
word_line (Granted n) = codes_line (codes "issue") refl
word_line Exhausted = codes_line (codes "issue") refl
word_line (Settled n Sealed) = codes_line (codes "sealed") refl
word_line (Settled n Void) = codes_line (codes "void") refl

rest_line : (event : Event) → IsNumberOf32Bits event → IsLine (rest_of event)
rest_line (Granted n) small = number_line n small
rest_line Exhausted small = codes_line (codes "none") refl
rest_line (Settled n way) small = number_line n small

entry_line : (e : Entry) → IsWritable e → IsLine (entry_text e)
entry_line e may_write =
    let P : ℕ → Type 0 = λ b. b ≢ 10 in
    let seat : e.seat < 4294967296 = (let s = may_write.seat in omega arith) in
    let event = subst IsLine (sym (event_split e.event)) (All-append P (word_of e.event) (32 ∷ rest_of e.event) (word_line e.event) (space_line _ (rest_line e.event may_write.number))) in
    subst IsLine (sym (entry_split e)) (All-append P (decimal e.seat) (32 ∷ event_text e.event) (number_line e.seat seat) (space_line _ event))

terms_line : (terms : Terms) → IsLawful terms → IsLine (terms_text terms)
terms_line terms lawful =
    let P : ℕ → Type 0 = λ b. b ≢ 10 in
    let few = four_small terms lawful in
    let three : List ℕ = 32 ∷ decimal terms.seats in
    let two : List ℕ = 32 ∷ (decimal terms.range.size ++ three) in
    let one : List ℕ = 32 ∷ (decimal terms.range.lo ++ two) in
    let size = All-append P (decimal terms.range.size) three (number_line _ few.size) (space_line _ (number_line _ few.seats)) in
    let lo = All-append P (decimal terms.range.lo) two (number_line _ few.lo) (space_line _ size) in
    let device = All-append P (decimal terms.range.device) one (number_line _ few.device) (space_line _ lo) in
    subst IsLine (sym (terms_split terms)) (All-append P (codes "range") (32 ∷ (decimal terms.range.device ++ one)) (codes_line (codes "range") refl) (space_line _ device))

entry_lines : (history : List Entry) → ((before : List Entry) (e : Entry) (after : List Entry) → history ≡ before ++ e ∷ after → IsWritable e) → All IsLine (map entry_text history)
entry_lines [] each = All-nil IsLine
entry_lines (e ∷ es) each =
    All-cons IsLine (entry_text e) (map entry_text es) (entry_line e (each [] e es refl)) (entry_lines es (λ before x after is. each (e ∷ before) x after (ap (λ l. e ∷ l) is)))

-- the text of a legal journal is legal, with its counts
pub legal_verdict : (terms : Terms) (history : List Entry) → IsLawful terms → Legal terms history → IsVerdict (journal_text terms history) (IsLegal (tally_of history))
legal_verdict terms history lawful legal = record {
  lines = journal_lines terms history;
  rest = [];
  cut = record {
    whole = sym (append-nil (journal_text terms history));
    each = All-cons IsLine (terms_text terms) (map entry_text history) (terms_line terms lawful) (entry_lines history (each_writable terms history lawful legal));
    last = All-nil (λ b. b ≢ 10);
  };
  judged = (terms, history, refl, refl, lawful, legal, refl);
}
