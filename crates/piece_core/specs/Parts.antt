-- Inside: how the body of a work is cut, and how many bytes its pieces have.
use Rattle.std.specs.Prelude.{◌≡◌, ℕ, ◌+◌, ◌-◌, ◌≤◌, List, length}
use Rattle.container_core.specs.declared.TheConstants.{MAX_OPENED, MAX_PLAIN, TAG}
use Rattle.container_core.specs.Chunks.{body_length}
use Rattle.container_core.specs.Container.{size_in}
use Rattle.container_core.specs.Views.{CutView}
use Rattle.worker_core.specs.Parts.{body_bytes}
use Rattle.piece_core.specs.declared.work.Kind.{Kind}
use Rattle.piece_core.specs.declared.work.Kind.TheVariants.{Sealing, Opening}
use Rattle.piece_core.specs.Values.{task_of}

-- how many plaintext bytes there are at most
abbrev pub most_plain : Kind → ℕ
most_plain Sealing = MAX_PLAIN
most_plain Opening = MAX_OPENED

-- the body is cut into the chunks that its header names, like a plaintext of that many bytes, or its container
pub record IsCut (kind : Kind) (header : List ℕ) (cut : CutView) (body : List ℕ) : Type 0 where
  pub size : cut.size ≡ size_in header
  pub few : cut.plain ≤ most_plain kind
  pub bytes : length body ≡ body_bytes (task_of kind) cut.size cut.plain

-- how many bytes the piece of a part of n bytes has: a tag more, or a tag less
abbrev pub piece_bytes : Kind → ℕ → ℕ
piece_bytes Sealing part = part + TAG
piece_bytes Opening part = part - TAG

-- how many bytes all pieces have together
abbrev pub pieces_sum : Kind → ℕ → ℕ → ℕ
pieces_sum Sealing size plain = body_length size plain
pieces_sum Opening size plain = plain
