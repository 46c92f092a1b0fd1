-- What is added to a name is added to what a line shows of it.
use Rattle.std.proofs.Common.{◌≡◌, ◌∙◌, ℕ, zero, suc, List, ◌++◌, IsAscii, IsUtf8, ap, arith, chars, codes, encode_utf8_all, flat_map, refl, sym}
use Rattle.std.proofs.lemmas.List.Concat.{flat_map-append}
use Rattle.std.proofs.lemmas.Str.{IsUtf8-append, IsUtf8-from_ascii, chars-IsAscii, chars-append, encodes-IsAscii, encodes-append}
use Rattle.folder_core.specs.Quotes.{quoted, quoted_text, shown}
use Rattle.folder_core.proofs.Back.{text_quoted}

ending_is_ascii : IsAscii (codes ".stm")
ending_is_ascii zero = omega arith
ending_is_ascii (suc zero) = omega arith
ending_is_ascii (suc (suc zero)) = omega arith
ending_is_ascii (suc (suc (suc zero))) = omega arith
ending_is_ascii (suc (suc (suc (suc i)))) = omega arith

ending_is_shown : flat_map shown (codes ".stm") ≡ codes ".stm"
unfolding shown
ending_is_shown = refl

added : (name : List ℕ) → IsUtf8 name → quoted_text (name ++ codes ".stm") ≡ quoted_text name ++ codes ".stm"
unfolding quoted_text
added name utf8 =
    let end : flat_map shown (chars (codes ".stm")) ≡ codes ".stm" = ap (flat_map shown) (chars-IsAscii (codes ".stm") ending_is_ascii) ∙ ending_is_shown in
    ap (λ cs. encode_utf8_all (flat_map shown cs)) (chars-append name (codes ".stm") utf8)
    ∙ ap encode_utf8_all (flat_map-append shown (chars name) (chars (codes ".stm")))
    ∙ encodes-append (flat_map shown (chars name)) (flat_map shown (chars (codes ".stm")))
    ∙ ap (λ bs. encode_utf8_all (flat_map shown (chars name)) ++ bs) (ap encode_utf8_all end ∙ encodes-IsAscii (codes ".stm") ending_is_ascii)

pub ending_stays : (name : List ℕ) → IsUtf8 name → quoted (name ++ codes ".stm") ≡ quoted name ++ codes ".stm"
ending_stays name utf8 =
    text_quoted (name ++ codes ".stm") (IsUtf8-append name (codes ".stm") utf8 (IsUtf8-from_ascii (codes ".stm") ending_is_ascii))
    ∙ added name utf8 ∙ ap (λ bs. bs ++ codes ".stm") (sym (text_quoted name utf8))
