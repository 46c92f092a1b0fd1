-- The lines of a journal, word by word.
use Rattle.std.proofs.Common.{◌≡◌, ◌≢◌, ℕ, zero, suc, ◌<◌, ◌^◌, Bool, true, false, not, nat_eq, List, [], ◌∷◌, ◌++◌, get_or, refl, sym, ap, ◌∙◌, arith, append_assoc, codes, eq-eqb, ◌&&◌, Result, Ok, Err, Some, None}
use Rattle.std.specs.Fmt.{decimal}
use Rattle.std.specs.List.{list_all}
use Rattle.std.proofs.lemmas.Fmt.{decimal_is_IsNumeral, decimal_nonempty}
use Rattle.std.proofs.lemmas.Str.Parse.{digit_at}
use Rattle.journal_core.specs.declared.entry.Way.{Way}
use Rattle.journal_core.specs.declared.entry.Way.TheVariants.{Sealed, Void}
use Rattle.journal_core.specs.declared.entry.Event.{Event}
use Rattle.journal_core.specs.declared.entry.Event.TheVariants.{Granted, Exhausted, Settled}
use Rattle.journal_core.specs.History.{Terms, IsLawful}
use Rattle.std.specs.Result.{OkIff, result_ok}
use Rattle.journal_core.specs.Range.{Numbers, IsLawfulRange, range_of}
use Rattle.journal_core.specs.Journal.{terms_of}
use Rattle.journal_core.specs.Line.{HasNoSpace}
use Rattle.journal_core.specs.Text.{way_text, event_text, terms_text}
use Rattle.journal_core.specs.Verdict.{IsNumberOf32Bits}

pub both_true : (a b : Bool) → a && b ≡ true → (a ≡ true) × (b ≡ true)
both_true true true h = (refl, refl)
both_true true false h = absurd (cc)
both_true false b h = absurd (cc)

no_space_here : (b : ℕ) → not (nat_eq b 32) ≡ true → b ≢ 32
no_space_here b h is = let t : nat_eq b 32 ≡ true = eq-eqb b 32 is in let e : not true ≡ true = ap not (sym t) ∙ h in cc

tests_no_space : (word : List ℕ) → list_all (λ b. not (nat_eq b 32)) word ≡ true → HasNoSpace word
tests_no_space [] all i within = absurd (omega arith)
tests_no_space (b ∷ bs) all zero within = no_space_here b (both_true _ _ all).0
tests_no_space (b ∷ bs) all (suc i) within = tests_no_space bs (both_true _ _ all).1 i (omega arith)

-- the first word of an event's text, and what follows the space after it

abbrev pub word_of : Event → List ℕ
word_of (Granted n) = codes "issue"
word_of Exhausted = codes "issue"
word_of (Settled n way) = way_text way

abbrev pub rest_of : Event → List ℕ
rest_of (Granted n) = decimal n
rest_of Exhausted = codes "none"
rest_of (Settled n way) = decimal n

pub event_split : (event : Event) → event_text event ≡ word_of event ++ 32 ∷ rest_of event
event_split (Granted n) = refl
event_split Exhausted = refl
event_split (Settled n way) = refl

way_no_space : (way : Way) → HasNoSpace (way_text way)
way_no_space Sealed = tests_no_space (codes "sealed") refl
way_no_space Void = tests_no_space (codes "void") refl

pub word_no_space : (event : Event) → HasNoSpace (word_of event)
word_no_space (Granted n) = tests_no_space (codes "issue") refl
word_no_space Exhausted = tests_no_space (codes "issue") refl
word_no_space (Settled n way) = way_no_space way

pub range_no_space : HasNoSpace (codes "range")
range_no_space = tests_no_space (codes "range") refl

pub terms_split : (terms : Terms) → terms_text terms
    ≡ codes "range" ++ 32 ∷ (decimal terms.range.device ++ 32 ∷ (decimal terms.range.lo ++ 32 ∷ (decimal terms.range.size ++ 32 ∷ decimal terms.seats)))
terms_split terms = simp append_assoc

-- a number is not this word
pub not_none : (n : ℕ) → n < 4294967296 → decimal n ≡ codes "none" → ⊥
not_none n small is =
    let low : n < 2 ^ 64 = omega arith in
    let digit = digit_at (decimal n) 0 (decimal_is_IsNumeral n low).0.1 (decimal_nonempty n low) in
    let e : get_or (decimal n) 0 0 ≡ 110 = ap (λ l. get_or l 0 0) is in omega arith

-- the words `issue` and `none` mean a refusal, and no other event
pub names_none : (event : Event) → IsNumberOf32Bits event → codes "issue" ≡ word_of event → codes "none" ≡ rest_of event → Exhausted ≡ event
names_none (Granted n) small word rest = absurd (not_none n small (sym rest))
names_none Exhausted small word rest = refl
names_none (Settled n Sealed) small word rest = absurd (cc)
names_none (Settled n Void) small word rest = absurd (cc)

-- a first word that is neither a way nor `issue` gives no event
pub names_nothing : (event : Event) (word : List ℕ) → word ≡ word_of event → (word ≡ codes "issue" → ⊥) → ((way : Way) → word ≡ way_text way → ⊥) → ⊥
names_nothing (Granted n) word is issue ways = issue is
names_nothing Exhausted word is issue ways = issue is
names_nothing (Settled n way) word is issue ways = ways way is

-- the four numbers of a lawful range line have 32 bits
pub record FourSmall (terms : Terms) : Type 0 where
  pub device : terms.range.device < 4294967296
  pub lo : terms.range.lo < 4294967296
  pub size : terms.range.size < 4294967296
  pub seats : terms.seats < 4294967296

pub four_small : (terms : Terms) → IsLawful terms → FourSmall terms
four_small terms lawful =
    let range = lawful.range in record {
      device = omega arith;
      lo = omega arith;
      size = omega arith;
      seats = omega arith;
    }

-- a range that was refused is not lawful, and a range that was made has the numbers asked for
pub refused_range : {E : Type 0} (r : Result Numbers E) (range : Numbers) → OkIff r (IsLawfulRange range) range → None ≡ result_ok r → IsLawfulRange range → ⊥
refused_range (Ok made) range is none lawful = cc
refused_range (Err e) range is none lawful = is lawful

pub made_range : {E : Type 0} (r : Result Numbers E) (range made : Numbers) → OkIff r (IsLawfulRange range) range → Some made ≡ result_ok r → made ≡ range
made_range (Ok m) range made is some = let same : made ≡ m = cc in same ∙ is.1
made_range (Err e) range made is some = absurd (cc)

pub same_range : (range : Numbers) (device lo size : ℕ) → device ≡ range.device → lo ≡ range.lo → size ≡ range.size → range_of device lo size ≡ range
same_range range device lo size d l s = λ i. range_of (d i) (l i) (s i)

pub same_terms : (terms : Terms) (range : Numbers) (seats : ℕ) → range ≡ terms.range → seats ≡ terms.seats → terms_of range seats ≡ terms
same_terms terms range seats r s = λ i. terms_of (r i) (s i)
