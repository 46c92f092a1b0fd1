-- What a shelf gives, and what a work does.
use Rattle.std.proofs.Common.{◌≡◌, ℕ, ◌<◌, true, List, [], ◌++◌, length, get_or, take, drop, map, refl, ap, Option, Some, None}
use Rattle.std.proofs.Common.{Result, Ok, Err, suc, zero, sym, ◌∙◌, replicate, length-set, inl, inr}
use Rattle.std.proofs.lemmas.Bool.{cases_eq}
use Rattle.std.proofs.lemmas.List.{ext_get_or, get_or-map, length-map, length-replicate, get_or-set_same, get_or-set_other}
use Rattle.container_core.specs.Chunks.{chunks, sealed_chunks}
use Rattle.container_core.specs.Stream.{stream}
use Rattle.container_core.specs.Container.{header_of, header_length, size_in, container}
use Rattle.container_core.specs.Opening.{early_fault, opening}
use Rattle.container_core.specs.Shape.{ShapeView}
use Rattle.container_core.proofs.FaultLemmas.{opening-unsealed}
use Rattle.container_core.proofs.HeaderLemmas.{good_header, named_size, size-header_of}
use Rattle.container_core.proofs.OpeningLemmas.{parts_of_early}
use Rattle.container_core.proofs.RoundLemmas.{unsealed_by-true}
use Rattle.container_core.proofs.StreamLemmas.{stream_by-true}
use Rattle.worker_core.specs.Answer.{answer, named}
use Rattle.worker_core.proofs.LawLemmas.{joined-sealing, none_refused-sealing, named-opening}
use Rattle.piece_core.specs.declared.work.Kind.TheVariants.{Opening}
use Rattle.piece_core.specs.Pieces.{PieceView, WorkView, ShelfView, piece_of_work, empty_shelf, with_piece}
use Rattle.piece_core.specs.Values.{work_values, sealing_of, opening_of}
use Rattle.piece_core.specs.Answer.{after_front, value_in, IsFull, IsShelfOf, shelf_whole, whole_of}

none_at : (m n : ℕ) → get_or {A = Option PieceView} (replicate m None) n None ≡ None
none_at zero n = refl
none_at (suc m) zero = refl
none_at (suc m) (suc n) = none_at m n

pub IsShelfOf-empty_shelf : (w : WorkView) → IsShelfOf w (empty_shelf w)
IsShelfOf-empty_shelf w = record {
  kind = refl;
  header = refl;
  count = length-replicate (length w.values) None;
  each = λ n filled. absurd (filled (none_at (length w.values) n));
}

pub IsShelfOf-with_piece : (w : WorkView) (s : ShelfView) (n : ℕ) → IsShelfOf w s → n < length w.values
    → IsShelfOf w (with_piece s (piece_of_work w n))
IsShelfOf-with_piece w s n of at = record {
  kind = of.kind;
  header = of.header;
  count = length-set s.places n (Some (piece_of_work w n)) ∙ of.count;
  each = λ k filled. elim (cases_eq k n) [
    | inl same ↦ rw same (get_or-set_same s.places n (Some (piece_of_work w n)) None (rw of.count at))
    | inr other ↦
        let kept = get_or-set_other s.places n k (Some (piece_of_work w n)) None other in kept ∙ of.each k (λ e. filled (kept ∙ e))
  ];
}

-- a full shelf of a work ends as the work does
pub whole_of_full : (w : WorkView) (s : ShelfView) → IsShelfOf w s → IsFull s → shelf_whole s ≡ whole_of w
whole_of_full w s of full =
    let same : map value_in s.places ≡ w.values =
    ext_get_or None (map value_in s.places) w.values (length-map s.places value_in ∙ of.count) (λ n at.
    let inside : n < length s.places = rw (← length-map s.places value_in) at in
    get_or-map value_in s.places n None None inside ∙ ap value_in (of.each n (full n inside))) in
    rw (same, of.kind, of.header) refl

-- the answer of one thread to a sealing is the container
pub whole_of_sealing : (key prefix plain : List ℕ) (shape : ShapeView)
    → whole_of (sealing_of key shape prefix plain) ≡ Ok (container key shape prefix plain)
unfolding container
whole_of_sealing key prefix plain shape =
    let header = header_of key shape prefix in
    rw (none_refused-sealing key header 0 true plain, joined-sealing key header 0 true plain)
    (ap (λ body. Ok (header ++ body)) (stream_by-true key header 0 (chunks (size_in header) plain))
    ∙ ap (λ (size : ℕ). Ok (header ++ stream key header 0 (chunks size plain))) (size-header_of key prefix shape))

no_front : (r : Result (List ℕ) ℕ) → after_front [] r ≡ r
no_front (Ok rest) = refl
no_front (Err n) = refl

-- the answer of one thread to an opening is the plaintext, or names the first chunk that doesn't check
pub opening-whole_of : (key bytes : List ℕ) (most : ℕ) → early_fault key most bytes ≡ None
    → opening key most bytes ≡ named 0 (whole_of (opening_of key bytes))
opening-whole_of key bytes most none =
    let header = take (header_length bytes) bytes in
    let body = drop (header_length bytes) bytes in
    let good = good_header key bytes (parts_of_early key most bytes none).header in
    opening-unsealed key most bytes header body (size_in header) none refl (named_size bytes header refl good.whole) refl
    ∙ sym (unsealed_by-true key header 0 (sealed_chunks (size_in header) body))
    ∙ sym (named-opening key header 0 true body)
    ∙ ap (named 0) (sym (no_front (answer (work_values Opening key header body))))
