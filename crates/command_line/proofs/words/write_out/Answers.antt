use Rattle.std.proofs.Common.{rules, arith, ◌≡◌, ◌<◌, ◌≤◌, map, option_map, unwrap_or, string_bytes, ℕ, length, false, List, [], get_or, set, ap, sym, ◌∙◌, ltb-false, ltb-true, codes, bytes_eq}
use Rattle.std.proofs.lemmas.List.{length-map, get_or-map, set-get_or, map-set}
use Rattle.command_line.specs.Words.{word_read, written_out}
use Rattle.command_line.proofs.Written.{short_words, begun, one_more, at_the_end, ended_here}
use Rattle.command_line.proofs.words.write_out.Goals as goal
use Rattle.command_line.proofs.words.write_out.Goals.{in-Some-read, in_default-read}

pub returns-in_default : goal.returns-in_default
returns-in_default c =
    sym (short_words c.args.processors (map string_bytes c.args.words.now.items)
    (omega (arith, ltb-false _ _ (sym c.in_default.ensures.lookup.0), ap length c.deref.ensures.value, length-map c.args.words.now.items string_bytes)))

pub words-init : goal.words-init
words-init c =
    let items = c.args.words.now.items in
    let long : 1 < length items = omega (arith, ltb-true _ _ (sym c.in-Some.ensures.lookup.0), ap length c.deref.ensures.value) in
    let command : c.in-Some.command.now ≡ get_or items 1 c.in-Some.command.now =
    c.in-Some.ensures.lookup.1 ∙ ap (λ l. get_or l 1 c.in-Some.command.now) c.deref.ensures.value in
    begun c.args.processors c.most_bytes-most.result (map string_bytes items) c.as_str.result.now (omega (arith, long, length-map items string_bytes))
    (c.as_str.ensures.value ∙ ap string_bytes command ∙ sym (get_or-map string_bytes items 1 c.in-Some.command.now [] long))
    c.most_bytes-most.ensures

pub words-preserved : goal.words-preserved
words-preserved c =
    let items = c.words.words.items in
    let texts = map string_bytes items in
    let less : c.words.i < length items = search rules in
    let word : c.as_str-word.result.now ≡ get_or texts c.words.i [] =
    c.as_str-word.ensures.value ∙ ap string_bytes c.index.ensures ∙ sym (get_or-map string_bytes items c.words.i _ [] less) in
    let read : List ℕ = word_read c.args.processors c.most_bytes-most.result c.words.before c.as_str-word.result.now in
    let put : map string_bytes c.match-read.words.items ≡ set texts c.words.i read =
    elim c.match-read.branch [
      | in-Some-read w ↦
          ap (λ v. map string_bytes v.items) w.words-is ∙ map-set string_bytes items c.words.i w.in-Some-read.text
          ∙ ap (set texts c.words.i) (ap (λ r. unwrap_or (option_map string_bytes r) c.as_str-word.result.now) (sym w.in-Some-read.is) ∙ c.in_ok-read.ensures)
      | in_default-read w ↦
          ap (λ v. map string_bytes v.items) w.words-is ∙ sym (set-get_or texts c.words.i [])
          ∙ ap (set texts c.words.i) (sym word ∙ ap (λ r. unwrap_or (option_map string_bytes r) c.as_str-word.result.now) (sym w.in_default-read.is) ∙ c.in_ok-read.ensures)
    ] in
    let other : bytes_eq c.as_str-word.result.now (codes "--") ≡ false = search rules in
    one_more c.args.processors c.most_bytes-most.result c.words.before c.shorthand_of-takes.result c.words.i texts (map string_bytes c.match-read.words.items)
    (written_out c.args.processors (map string_bytes c.args.words.now.items)) c.as_str-word.result.now c.words.invariant
    (omega (arith, less, length-map items string_bytes)) word other c.shorthand_of-takes.ensures put

pub returns-then-eq : goal.returns-then-eq
returns-then-eq c =
    let items = c.words.words.items in
    let less : c.words.i < length items = search rules in
    let word : c.as_str-word.result.now ≡ get_or (map string_bytes items) c.words.i [] =
    c.as_str-word.ensures.value ∙ ap string_bytes c.index.ensures ∙ sym (get_or-map string_bytes items c.words.i _ [] less) in
    ended_here c.args.processors c.most_bytes-most.result c.words.before c.words.i (map string_bytes items) _ c.as_str-word.result.now
    c.words.invariant (omega (arith, less, length-map items string_bytes)) word (search rules)

pub returns : goal.returns
returns c =
    let items = c.words.words.items in
    let end : length items ≤ c.words.i = search rules in
    at_the_end c.args.processors c.most_bytes-most.result c.words.before c.words.i (map string_bytes items) _
    c.words.invariant (omega (arith, end, length-map items string_bytes))
