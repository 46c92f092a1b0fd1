-- One more line: what was printed for the files so far, and what is printed with the next one.
use Rattle.std.proofs.Common.{◌≡◌, ◌≢◌, ℕ, ◌≤◌, Bool, true, false, ◌||◌, if◌then◌else◌, inl, inr, ⊎_elim, refl, sym, ap}
use Rattle.std.proofs.Common.{subst, ◌∙◌, List, [], ◌∷◌, ◌++◌, map, append-nil, append_assoc, Option, Some, None, Bor}
use Rattle.std.proofs.Common.{take, length, get_or, ◌+◌, ◌<◌, add-one, arith, lit≤}
use Rattle.std.proofs.Math.Seq.{take-suc}
use Rattle.std.proofs.KnownBytes.{Appends-nil, Appends-trans}
use Rattle.std.proofs.Common.{length-append}
use Rattle.std.proofs.lemmas.Bool.{cases_eq}
use Rattle.std.proofs.lemmas.List.{map-append}
use Rattle.std.proofs.lemmas.List.Folds.{list_any-append}
use Rattle.std.specs.List.{list_any}
use Rattle.io_core.specs.Streams.{Appends, AppendsFront, LacksSome, counted}
use Rattle.output_core.proofs.PartLemmas.{lacks_within}
use Rattle.journal_core.specs.Text.{ended_lines}
use Rattle.journal_core.proofs.Texts.{ended_lines-append}
use Rattle.command_core.specs.Lines.{FileLine, line_text, lines_text, is_failed, status_of_lines}
use Rattle.command_core.specs.Work.{AreTold}

-- the bytes of one line
abbrev pub line_bytes : FileLine → List ℕ
line_bytes line = line_text line.name line.outcome ++ 10 ∷ []

pub lines_text-push : (told : List FileLine) (line : FileLine)
    → lines_text (told ++ line ∷ []) ≡ lines_text told ++ line_bytes line
lines_text-push told line =
    ap ended_lines (map-append (λ (l : FileLine). line_text l.name l.outcome) told (line ∷ []))
    ∙ ended_lines-append (map (λ (l : FileLine). line_text l.name l.outcome) told)
    (line_text line.name line.outcome ∷ [])

-- a prefix of what was written is a prefix of what is to be written
begun_more : (old new : Option (List ℕ)) (text more : List ℕ) → AppendsFront old new text
    → AppendsFront old new (text ++ more)
begun_more old new text more (front, (rest, split), appended) =
    (front, (rest ++ more, ap (λ l. l ++ more) split ∙ append_assoc front rest more), appended)

-- where not all was written, not all of more was
lacks_before : (old new : Option (List ℕ)) (text more : List ℕ) → AppendsFront old new text → LacksSome old new text
    → LacksSome old new (text ++ more)
lacks_before old new text more begun lacks = lacks_within old old new [] text more (Appends-nil old) begun lacks

-- also where all was written before the last part
lacks_behind : (old mid new : Option (List ℕ)) (text more : List ℕ) → Appends old mid text → AppendsFront mid new more
    → LacksSome mid new more → LacksSome old new (text ++ more)
lacks_behind old mid new text more grown begun lacks =
    subst (λ l. LacksSome old new (text ++ l)) (append-nil more) (lacks_within old mid new text more [] grown begun lacks)

-- also where no more was written
pub lacks_more : (old new : Option (List ℕ)) (text more : List ℕ) → 0 < length more → Appends old new text
    → LacksSome old new (text ++ more)
lacks_more None new text more some grown = tt
lacks_more (Some xs) None text more some grown = absurd grown
lacks_more (Some xs) (Some ys) text more some grown = λ whole.
    let long : length ys ≡ length xs + length text = ap (length {A = ℕ}) grown ∙ length-append xs text in
    let longer : length ys ≡ length xs + (length text + length more) =
    ap (length {A = ℕ}) whole ∙ length-append xs (text ++ more) ∙ ap (λ n. length xs + n) (length-append text more) in
    omega arith

-- a text that ends with a line feed, and more
pub some_text : (text more : List ℕ) → 0 < length (text ++ 10 ∷ more)
some_text text more = let long = length-append text (10 ∷ more) in omega arith

-- no further line is tried
pub untold : (status : ℕ) (told : List FileLine) (line : FileLine) (old new : Option (List ℕ))
    (failures failures' : Option ℕ)
    → AreTold status told old new failures failures' → AreTold 2 (told ++ line ∷ []) old new failures failures'
untold status told line old new failures failures' t = record {
  range = lit≤ tt;
  begun = subst (AppendsFront old new) (sym (lines_text-push told line))
      (begun_more old new (lines_text told) (line_bytes line) t.begun);
  whole = λ other. absurd (other refl);
  short = λ _. subst (LacksSome old new) (sym (lines_text-push told line)) (⊎_elim
      (λ two. lacks_before old new (lines_text told) (line_bytes line) t.begun (t.short two))
      (λ other. lacks_more old new (lines_text told) (line_bytes line) (some_text (line_text line.name line.outcome) [])
      (t.whole other).1)
      (cases_eq status 2));
  stopped = ⊎_elim (λ same. inl same) (λ rose. inr (refl, rose.1)) t.stopped;
}

-- the line's write failed
pub broken : (status : ℕ) (told : List FileLine) (line : FileLine) (old mid new : Option (List ℕ))
    (failures failures' failures'' : Option ℕ)
    → status ≢ 2 → AppendsFront mid new (line_bytes line) → LacksSome mid new (line_bytes line)
    → failures'' ≡ counted true failures' → AreTold status told old mid failures failures' → AreTold 2 (told ++ line ∷ []) old new failures failures''
broken status told line old mid new _ _ _ other (front, (rest, split), appended) lacks rose t = record {
  range = lit≤ tt;
  begun = subst (AppendsFront old new) (sym (lines_text-push told line)) (
    lines_text told ++ front,
    (rest, ap (λ l. lines_text told ++ l) split ∙ sym (append_assoc (lines_text told) front rest)),
    Appends-trans old mid new (lines_text told) front (t.whole other).1 appended,
  );
  whole = λ two. absurd (two refl);
  short = λ _. subst (LacksSome old new) (sym (lines_text-push told line))
      (lacks_behind old mid new (lines_text told) (line_bytes line) (t.whole other).1
      (front, (rest, split), appended) lacks);
  stopped = ⊎_elim (λ same. inr (refl, rose ∙ ap (counted true) same)) (λ two. absurd (other two.0)) t.stopped;
}

status-push : (told : List FileLine) (line : FileLine) (status : ℕ) → status ≡ status_of_lines told
    → (if is_failed line.outcome then 1 else status) ≡ status_of_lines (told ++ line ∷ [])
status-push told line status is =
    ap (status_after (is_failed line.outcome)) is ∙ joined (list_any (λ (l : FileLine). is_failed l.outcome) told)
    (is_failed line.outcome)
    ∙ ap status_if (sym (list_any-append (λ (l : FileLine). is_failed l.outcome) told (line ∷ [])))
  where
    status_if : Bool → ℕ
    status_if some = if some then 1 else 0

    status_after : Bool → ℕ → ℕ
    status_after some status = if some then 1 else status

    joined : (before last : Bool) → status_after last (status_if before) ≡ status_if (before || (last || false))
    joined true true = refl
    joined true false = refl
    joined false true = refl
    joined false false = refl

-- the line was written
pub told_more : (status status' : ℕ) (told : List FileLine) (line : FileLine) (old mid new : Option (List ℕ))
    (failures failures' failures'' : Option ℕ)
    → status ≢ 2 → status' ≡ (if is_failed line.outcome then 1 else status) → Appends mid new (line_bytes line)
    → failures'' ≡ failures'
    → AreTold status told old mid failures failures' → AreTold status' (told ++ line ∷ []) old new failures failures''
told_more status status' told line old mid new failures failures' failures'' other is appended same t =
    let written = Appends-trans old mid new (lines_text told) (line_bytes line) (t.whole other).1 appended in
    let all : Appends old new (lines_text (told ++ line ∷ [])) =
    subst (Appends old new) (sym (lines_text-push told line)) written in
    record {
      range = within (is_failed line.outcome) is t.range;
      begun = (lines_text (told ++ line ∷ []), ([], sym (append-nil (lines_text (told ++ line ∷ [])))), all);
      whole = λ two. (is ∙ status-push told line status (t.whole other).0, all);
      short = λ two. absurd (not_two (is_failed line.outcome) is two);
      stopped = ⊎_elim (λ kept. inl (same ∙ kept)) (λ two. absurd (other two.0)) t.stopped;
    }
  where
    within : (b : Bool) → status' ≡ (if b then 1 else status) → status ≤ 2 → status' ≤ 2
    within true e h = omega arith
    within false e h = omega arith

    not_two : (b : Bool) → status' ≡ (if b then 1 else status) → status' ≡ 2 → ⊥
    not_two true e two = omega arith
    not_two false e two = other (sym e ∙ two)

-- for no file nothing is printed
pub nothing_told : (taken : Option (List ℕ)) (failures : Option ℕ) → AreTold 0 [] taken taken failures failures
nothing_told taken failures = record {
  range = lit≤ tt;
  begun = ([], ([], refl), Appends-nil taken);
  whole = λ other. (refl, Appends-nil taken);
  short = λ two. cc;
  stopped = inl refl;
}

-- one more name
pub names-step : (files : List (Bor (List ℕ))) (i : ℕ) (d : Bor (List ℕ)) → i < length files
    → map (λ (f : Bor (List ℕ)). f.now) (take i files) ++ (get_or files i d).now ∷ []
    ≡ map (λ (f : Bor (List ℕ)). f.now) (take (i + 1) files)
names-step files i d h =
    sym (ap (λ n. map (λ (f : Bor (List ℕ)). f.now) (take n files)) (add-one i)
    ∙ ap (map (λ (f : Bor (List ℕ)). f.now)) (take-suc files i d h)
    ∙ map-append (λ (f : Bor (List ℕ)). f.now) (take i files) (get_or files i d ∷ []))
