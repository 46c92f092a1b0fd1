-- The law on prefixes. The ranges of a device's runs rise, since each one is after the one before. So a number is in one
-- run's range, and one output of that run has it.
use Rattle.std.proofs.Common.{◌≡◌, ℕ, zero, suc, ◌+◌, ◌<◌, ◌≤◌, true, List, [], ◌∷◌, Option, None, Some, refl, sym, ap, ◌∙◌, subst, arith, eq-eqb}
use mathlib.Core.Logic.{dite}
use native.Mathlib.Decide.{dec_le}
use Rattle.std.specs.Prelude.{slice_get}
use Rattle.std.specs.Coded.{Coded, Coded-set, code_by, coded×, coded_ℕ}
use Rattle.std.specs.List.{AllByRecursion}
use Rattle.std.proofs.Math.Logic.{∥∥₁_elim}
use Rattle.container_core.specs.Container.{container}
use Rattle.container_core.specs.Shape.{IsShape, ShapeView}
use Rattle.io_core.specs.Streams.{IsFront}
use Rattle.folder_core.specs.Record.{Container, Content, Created, Holds, IsAllowed, IsSound, KeyedRange, Output, RunRecord, begins, bound_of, has_number, times_begun}
use Rattle.journal_core.specs.Range.{Numbers, prefix_of}
use Rattle.journal_core.proofs.Prefixes.{prefix_tells}
use Rattle.output_core.specs.Bounds.{Allows}
use Rattle.reserve_core.specs.NextRun.{PassesOn}
use Rattle.sealer_core.specs.Theorem.{AreRunsOf, IsKeyedBy, IsOutputAt, IsRun, Position, Run}
use Rattle.sealer_core.proofs.Lives.{not_apart, same_place}
use Rattle.sealer_core.proofs.Numbering.{one_alone}

-- ---- lists

pub all_at : {A : Type 0} (P : A → Type 0) (xs : List A) (i : ℕ) (x : A) → AllByRecursion P xs → slice_get xs i ≡ Some x → P x
all_at P [] i x all at = absurd (cc)
all_at P (y ∷ xs) zero x all at = let same : y ≡ x = cc in subst P same all.0
all_at P (y ∷ xs) (suc i) x all at = all_at P xs i x all.1 at

-- one comes before each but the first
one_before : {A : Type 0} (xs : List A) (i : ℕ) (x : A) → slice_get xs (suc i) ≡ Some x → (y : A) × (slice_get xs i ≡ Some y)
one_before [] i x at = absurd (cc)
one_before (y ∷ xs) zero x at = (y, refl)
one_before (y ∷ xs) (suc i) x at = one_before xs i x at

-- ---- an output of a sound record

-- An output that may hold a container holds a prefix of one, under its number of the range.
abbrev pub Begins : List ℕ → Numbers → ℕ → ShapeView → List ℕ → Type 0
Begins key range number shape bytes = IsShape shape × ((range.lo ≤ number) × (number < range.lo + range.size))
    × ((plain : List ℕ) × IsFront bytes (container key shape (prefix_of range.device number) plain))

pub begins_at : (key : List ℕ) (range : Numbers) (r : RunRecord) (place number : ℕ) (output : Output) (shape : ShapeView)
    → IsKeyedBy key range r → IsSound r → slice_get r.entries place ≡ Some (Created output)
    → output.content ≡ Container number shape → Begins key range number shape output.bytes
begins_at key range r place number output shape keyed sound at content =
    let holds = all_at (Holds r.under r.entries) r.entries place (Created output) sound.each at in
    let under : KeyedRange = record { key = key; range = range } in
    let known = subst (λ (u : Option KeyedRange). IsAllowed u r.entries output.content × Allows (bound_of u output.content) output.bytes) keyed holds in
    let is = subst (λ (c : Content). IsAllowed (Some under) r.entries c × Allows (bound_of (Some under) c) output.bytes) content known in
    (is.0.0, is.0.1, is.1)

has_it : (number : ℕ) (shape : ShapeView) (content : Content) → content ≡ Container number shape → has_number number content ≡ true
has_it number shape content is = ap (has_number number) is ∙ eq-eqb number number refl

-- ---- the runs of a device

abbrev lo_in : Option KeyedRange → ℕ
lo_in None = 0
lo_in (Some under) = under.range.lo

abbrev end_in : Option KeyedRange → ℕ
end_in None = 0
end_in (Some under) = under.range.lo + under.range.size

abbrev lo_of : Run → ℕ
lo_of run = lo_in run.written.under

abbrev end_of : Run → ℕ
end_of run = end_in run.written.under

rises : (under : Option KeyedRange) → lo_in under ≤ end_in under
rises None = omega arith
rises (Some under) = omega arith

-- what one run left, the next one found, and its range is after
rise : (key : List ℕ) (device : ℕ) (one other : Run) → IsRun key device one → IsRun key device other
    → PassesOn one.files other.start → end_of one ≤ lo_of other
rise key device one other is was on =
    let (lists, are, ends) = is.stands in
    let begins = was.behind lists (on lists are) in
    let end : end_of one ≡ is.range.lo + is.range.size = ap end_in is.keyed in
    let lo : lo_of other ≡ was.range.lo = ap lo_in was.keyed in omega arith

module _ (key : List ℕ) (runs : ℕ → List Run) (are : AreRunsOf key runs) where
  later : (device i j : ℕ) (one other : Run) → i < j → slice_get (runs device) i ≡ Some one → slice_get (runs device) j ≡ Some other
      → end_of one ≤ lo_of other
  later device i zero one other less at also = absurd (omega arith)
  later device i (suc j) one other less at also =
      let (mid, there) = one_before (runs device) j other also in
      let next = rise key device mid other (are.each device j mid there) (are.each device (suc j) other also) (are.in_turn device j mid other there also) in
      dite (dec_le (suc i) j)
      (λ le. let first = later device i j one mid (omega arith) at there in let up = rises mid.written.under in omega arith)
      (λ gt. let same : i ≡ j = omega arith in
      let both : one ≡ mid = cc in subst (λ (r : Run). end_of r ≤ lo_of other) (sym both) next)

  -- a number is of one run
  one_run : (device i j number : ℕ) (one other : Run) → slice_get (runs device) i ≡ Some one → slice_get (runs device) j ≡ Some other
      → lo_of one ≤ number → number < end_of one → lo_of other ≤ number → number < end_of other → i ≡ j
  one_run device i j number one other at also from below start under =
      not_apart i j (λ differ. dite (dec_le i j)
      (λ le. let h = later device i j one other (omega arith) at also in omega arith)
      (λ gt. let h = later device j i other one (omega arith) also at in omega arith))

  -- what is known of the number of an output
  record Standing (place : Position) (at : IsOutputAt runs place) : Type 0 where
    once : times_begun at.number at.run.written.entries ≤ 1
    hit : begins at.number (Created at.output) ≡ true
    from : lo_of at.run ≤ at.number
    below : at.number < end_of at.run
    three_bytes : place.device ≤ 16777215
    four_bytes : at.number < 4294967296

  pub is_run : (place : Position) (at : IsOutputAt runs place) → IsRun key place.device at.run
  is_run place at = are.each place.device place.run at.run at.at_run

  standing : (place : Position) (at : IsOutputAt runs place) → IsSound at.run.written → Standing place at
  standing place at sound =
      let is = is_run place at in
      let (lawful, (from, below), plain) = begins_at key is.range at.run.written place.entry at.number at.output at.shape is.keyed sound at.at_entry at.content in
      let lo : lo_of at.run ≡ is.range.lo = ap lo_in is.keyed in
      let end : end_of at.run ≡ is.range.lo + is.range.size = ap end_in is.keyed in
      let last = is.lawful.end in
      let three : is.range.device ≤ 16777215 = is.lawful.device in
      record {
        once = sound.once at.number;
        hit = has_it at.number at.shape at.output.content at.content;
        from = omega arith;
        below = omega arith;
        three_bytes = subst (λ (d : ℕ). d ≤ 16777215) is.of_device three;
        four_bytes = omega arith;
      }

  one_place : (one other : Position) (at : IsOutputAt runs one) (also : IsOutputAt runs other) → Standing one at → Standing other also
      → prefix_of one.device at.number ≡ prefix_of other.device also.number → one ≡ other
  one_place one other at also a b same =
      let (devices, numbers) = prefix_tells one.device at.number other.device also.number a.three_bytes a.four_bytes b.three_bytes b.four_bytes same in
      let a_from = a.from in
      let a_below = a.below in
      let b_from = b.from in
      let b_below = b.below in
      let there : slice_get (runs one.device) other.run ≡ Some also.run = ap (λ x. slice_get (runs x) other.run) devices ∙ also.at_run in
      let run = one_run one.device one.run other.run at.number at.run also.run at.at_run there
      a_from a_below (omega arith) (omega arith) in
      let here : slice_get (runs one.device) one.run ≡ Some also.run = ap (λ x. slice_get (runs one.device) x) run ∙ there in
      let both : at.run ≡ also.run = cc (at.at_run, here) in
      let in_it : slice_get at.run.written.entries other.entry ≡ Some (Created also.output) =
      ap (λ (r : Run). slice_get r.written.entries other.entry) both ∙ also.at_entry in
      same_place one other devices run
      (one_alone (begins at.number) at.run.written.entries one.entry other.entry (Created at.output) (Created also.output) a.once at.at_entry in_it
      a.hit (ap (λ n. begins n (Created also.output)) numbers ∙ b.hit))

  place_code : Coded Position
  place_code = code_by (ℕ × (ℕ × ℕ)) (coded× coded_ℕ (coded× coded_ℕ coded_ℕ)) (λ p. (p.device, (p.run, p.entry)))
      (λ t. record { device = t.0; run = t.1.0; entry = t.1.1 }) (λ _. refl)

  pub one_prefix : (one other : Position) (at : IsOutputAt runs one) (also : IsOutputAt runs other)
      → prefix_of one.device at.number ≡ prefix_of other.device also.number → one ≡ other
  one_prefix one other at also same =
      ∥∥₁_elim (is_run one at).sound (Coded-set place_code _ _) (λ sound.
      ∥∥₁_elim (is_run other also).sound (Coded-set place_code _ _) (λ sound_too.
      one_place one other at also (standing one at sound) (standing other also sound_too) same))
