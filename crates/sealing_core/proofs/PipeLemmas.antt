-- A stream under the header of a shape is the shape's container, and so are its rounds.
use Rattle.std.proofs.Common.{◌≡◌, ℕ, ◌+◌, ◌*◌, ◌<◌, ◌≤◌, false, List, [], ◌∷◌, ◌++◌, length, take, drop, Option, Some, None, IfSome, Result, Ok, Err, OnOk, OnErr, refl, sym, ap, ◌∙◌, subst, append_assoc}
use Rattle.std.proofs.lemmas.List.{take_at, drop_at}
use Rattle.container_core.specs.Chunks.{chunks}
use Rattle.container_core.specs.Container.{container, header_of, hint_of, label_bytes, size_in}
use Rattle.container_core.specs.Shape.{ShapeView, size_of}
use Rattle.container_core.specs.Stream.{stream, stream_by}
use Rattle.container_core.specs.declared.fault.SealFault.{SealFault}
use Rattle.container_core.proofs.HeaderLemmas.{length-hint_of, size-header_of}
use Rattle.sealing_core.specs.Engine.{BeginsContainer, CutsContainer, DropsRound, HasReadPlain, HasWrittenRounds, rounds_so_far, seal_read_failed, seal_write_failed}
use Rattle.sealing_core.specs.Piped.{HasPipedContainer}
use Rattle.io_core.specs.Reads.{ConsumesExactly, ConsumesUpTo}
use Rattle.io_core.specs.Streams.{Appends, AppendsFront, LacksSome, counted}
use Rattle.io_core.specs.Views.{IoView}
use Rattle.output_core.specs.Bounds.{Admits, Bound}
use Rattle.sealing_core.specs.Order.{HasBegun, IsCutOff, chunks_so_far}
use Rattle.sealing_core.specs.Rounds.{DropsInHand, HasSealedRounds}
use Rattle.sealing_core.specs.Pipe.{HasPiped, read_failed, whole, write_failed}

-- a shape's header has the key's hint
pub hint-header_of : (key prefix : List ℕ) (shape : ShapeView) → length prefix ≡ 7
    → take 7 (drop 17 (header_of key shape prefix)) ≡ hint_of key
unfolding header_of
hint-header_of key prefix shape seven =
    ap (λ (l : List ℕ). take 7 (drop 7 l)) (append_assoc prefix (hint_of key) (label_bytes shape.label))
    ∙ ap (take 7) (drop_at prefix (hint_of key ++ label_bytes shape.label) 7 seven)
    ∙ take_at (hint_of key) (label_bytes shape.label) 7 (length-hint_of key)

whole-container : (key prefix header input : List ℕ) (shape : ShapeView) → header ≡ header_of key shape prefix
    → whole key header input ≡ container key shape prefix input
unfolding container
whole-container key prefix header input shape named =
    let h = header_of key shape prefix in
    ap (λ (h : List ℕ). h ++ stream key h 0 (chunks (size_in h) input)) named
    ∙ ap (λ (s : ℕ). h ++ stream key h 0 (chunks s input)) (size-header_of key prefix shape)

-- an output that may hold the container may hold the stream
pub may-container : (key prefix header : List ℕ) (shape : ShapeView) (bound : Option Bound) (taken : Option (List ℕ)) → header ≡ header_of key shape prefix
    → ((plain : List ℕ) → Admits bound taken (container key shape prefix plain)) → (plain : List ℕ) → Admits bound taken (whole key header plain)
may-container key prefix header shape bound taken named may plain =
    subst (Admits bound taken) (sym (whole-container key prefix header plain shape named)) (may plain)

if_some : {A : Type 0} {P Q : A → Type 0} (o : Option A) → ((x : A) → P x → Q x) → IfSome o P → IfSome o Q
if_some None f p = tt
if_some (Some x) f p = f x p

on_ok : {A E : Type 0} {P Q : Type 0} (r : Result A E) → (P → Q) → OnOk r P → OnOk r Q
on_ok (Ok x) f p = f p
on_ok (Err x) f p = tt

on_err : {A E : Type 0} {P Q : Type 0} (r : Result A E) → (P → Q) → OnErr r P → OnErr r Q
on_err (Ok x) f p = tt
on_err (Err x) f p = f p

same_reads : (failures failures' : Option ℕ) (r : Result ℕ SealFault) → failures' ≡ counted (read_failed r) failures → failures' ≡ counted (seal_read_failed r) failures
same_reads failures failures' (Ok n) e = e
same_reads failures failures' (Err fault) e = e

same_writes : (failures failures' : Option ℕ) (r : Result ℕ SealFault) → failures' ≡ counted (write_failed r) failures → failures' ≡ counted (seal_write_failed r) failures
same_writes failures failures' (Ok n) e = e
same_writes failures failures' (Err fault) e = e

pub piped-container : (key prefix header : List ℕ) (shape : ShapeView) (most : ℕ) (old new : IoView) (result : Result ℕ SealFault)
    → header ≡ header_of key shape prefix → HasPiped key header most old new result → HasPipedContainer key shape prefix most old new result
piped-container key prefix header shape most old new result named did =
    let sized : most * size_in header ≡ most * size_of shape = ap (λ (h : List ℕ). most * size_in h) named ∙ ap (λ (s : ℕ). most * s) (size-header_of key prefix shape) in
    record {
      end = did.end;
      written = on_ok result (if_some old.left (λ input was. subst (Appends old.taken new.taken) (whole-container key prefix header input shape named) was)) did.written;
      answer = did.answer;
      within = on_ok result (if_some old.left (λ input was. subst (λ (n : ℕ). length input ≤ n) sized was)) did.within;
      more = λ e. if_some old.left (λ input was. subst (λ (n : ℕ). n < length input) sized was) (did.more e);
      one = λ e. subst (λ (n : ℕ). ConsumesExactly old.left new.left (n + 1)) sized (did.one e);
      bound = subst (λ (n : ℕ). ConsumesUpTo old.left new.left (n + 1)) sized did.bound;
      begun = on_err result (if_some old.left (λ input was. subst (AppendsFront old.taken new.taken) (whole-container key prefix header input shape named) was)) did.begun;
      short = λ e. if_some old.left (λ input was. subst (LacksSome old.taken new.taken) (whole-container key prefix header input shape named) was) (did.short e);
      few = λ e. subst (AppendsFront old.taken new.taken) named (did.few e);
      endless = did.endless;
      read = same_reads old.read_failures new.read_failures result did.read;
      write = same_writes old.write_failures new.write_failures result did.write;
    }

-- ---- in rounds

-- what was written begins the container of the input
begins : (key prefix header : List ℕ) (shape : ShapeView) (left taken taken' : Option (List ℕ)) → header ≡ header_of key shape prefix
    → HasBegun header key header left taken taken' → BeginsContainer key shape prefix left taken taken'
begins key prefix header shape left taken taken' named begun =
    (begun.0, begun.1, subst (AppendsFront taken taken') (whole-container key prefix header begun.0 shape named) begun.2)

cuts : (key prefix header : List ℕ) (shape : ShapeView) (left taken taken' : Option (List ℕ)) → header ≡ header_of key shape prefix
    → IsCutOff header key header left taken taken' → CutsContainer key shape prefix left taken taken'
cuts key prefix header shape left taken taken' named cut = (
  cut.0,
  cut.1,
  subst (AppendsFront taken taken') (whole-container key prefix header cut.0 shape named) cut.2,
  subst (LacksSome taken taken') (whole-container key prefix header cut.0 shape named) cut.3,
)

so_far : (key header header' past : List ℕ) (size : ℕ) → header ≡ header' → size_in header ≡ size
    → chunks_so_far header key header past ≡ rounds_so_far size key header' past
so_far key header header' [] size named sized = refl
so_far key header header' (x ∷ past) size named sized =
    ap (λ (s : ℕ). header ++ stream_by key header 0 false (chunks s (x ∷ past))) sized
    ∙ ap (λ (h : List ℕ). h ++ stream_by key h 0 false (chunks size (x ∷ past))) named

drops : (key prefix header : List ℕ) (shape : ShapeView) (most window : ℕ) (old new : IoView) → header ≡ header_of key shape prefix
    → DropsInHand header key header most window old new → DropsRound key shape prefix most window old new
drops key prefix header shape most window old new named (past, held, rounds, consumed, long, within, some, few, written) =
    let sized : size_in header ≡ size_of shape = ap size_in named ∙ size-header_of key prefix shape in (
      past,
      held,
      rounds,
      consumed,
      long ∙ ap (λ (s : ℕ). rounds * (window * s)) sized,
      within,
      some,
      subst (λ (s : ℕ). length held ≤ window * s + 1) sized few,
      subst (Appends old.taken new.taken) (so_far key header (header_of key shape prefix) past (size_of shape) named sized) written,
    )

pub rounds-read : (key header : List ℕ) (most window : ℕ) (old new : IoView) (result : Result ℕ SealFault)
    → HasSealedRounds header key header most window old new result
    → HasReadPlain {A = ℕ} most old.left new.left old.read_failures new.read_failures result
rounds-read key header most window old new result did = record {
  end = did.end;
  more = did.more;
  too_long = did.one;
  bound = did.bound;
  read = same_reads old.read_failures new.read_failures result did.read;
}

pub rounds-container : (key prefix header : List ℕ) (shape : ShapeView) (most window : ℕ) (old new : IoView) (result : Result ℕ SealFault)
    → header ≡ header_of key shape prefix → HasSealedRounds header key header most window old new result
    → HasWrittenRounds key shape prefix most window old new result
rounds-container key prefix header shape most window old new result named did = record {
  written = on_ok result (if_some old.left (λ input was. subst (Appends old.taken new.taken) (whole-container key prefix header input shape named) was)) did.written;
  within = did.within;
  begun = on_err result (begins key prefix header shape old.left old.taken new.taken named) did.begun;
  short = λ e. cuts key prefix header shape old.left old.taken new.taken named (did.short e);
  dropped = λ e. drops key prefix header shape most window old new named (did.dropped e);
  unwritten = did.unwritten;
  write = same_writes old.write_failures new.write_failures result did.write;
  length = did.answer;
}
