-- What the pieces of a sealing and of an opening are.
use Rattle.std.specs.Prelude.{ℕ, true, List, take, drop, Option}
use Rattle.container_core.specs.Container.{header_of, header_length}
use Rattle.container_core.specs.Shape.{ShapeView}
use Rattle.worker_core.specs.declared.round.Task.{Task}
use Rattle.worker_core.specs.Values.{values_of}
use Rattle.piece_core.specs.declared.work.Kind.{Kind}
use Rattle.piece_core.specs.declared.work.Kind.TheVariants.{Sealing, Opening}
use Rattle.piece_core.specs.Pieces.{WorkView}

-- what is done to each chunk, as a round names it
abbrev pub task_of : Kind → Task
task_of Sealing = Task.Sealing
task_of Opening = Task.Opening

-- the values of all pieces of a work, by their numbers. A work is a round: its first chunk has number 0, and its last
-- chunk is the last of all
abbrev pub work_values : Kind → List ℕ → List ℕ → List ℕ → List (Option (List ℕ))
work_values kind key header body = values_of (task_of kind) key header 0 true body

-- the work on a body under a key and a header, which names the size of the chunks
abbrev pub work_of : Kind → List ℕ → List ℕ → List ℕ → WorkView
work_of kind key header body = record { kind = kind; header = header; values = work_values kind key header body }

-- sealing a plaintext under a key and a prefix, in a shape
abbrev pub sealing_of : List ℕ → ShapeView → List ℕ → List ℕ → WorkView
sealing_of key shape prefix plain = work_of Sealing key (header_of key shape prefix) plain

-- opening a container under a key
abbrev pub opening_of : List ℕ → List ℕ → WorkView
opening_of key bytes = work_of Opening key (take (header_length bytes) bytes) (drop (header_length bytes) bytes)
