-- Why a shelf refuses a piece, and why it gives no whole; and the numbers of these faults.
use Rattle.std.specs.Prelude.{◌≡◌, ◌≢◌, ℕ, List, None, Ok, Err}
use Rattle.piece_core.specs.declared.fault.PutFault.{PutFault}
use Rattle.piece_core.specs.declared.fault.PutFault.TheVariants.{Stranger, Double}
use Rattle.piece_core.specs.declared.fault.ShelfFault.{ShelfFault}
use Rattle.piece_core.specs.declared.fault.ShelfFault.TheVariants.{Missing, Forged, OutOfMemory}
use Rattle.piece_core.specs.Pieces.{PieceView, ShelfView, HasPlaceFor, place_of}
use Rattle.piece_core.specs.Answer.{HasGap, IsFull, shelf_whole}

abbrev pub put_number : PutFault → ℕ
put_number Double = 40
put_number Stranger = 41

abbrev pub shelf_number : ShelfFault → ℕ
shelf_number (Forged chunk) = 8
shelf_number OutOfMemory = 9
shelf_number Missing = 42

-- when a shelf refuses a piece with this fault
abbrev pub Refuses : ShelfView → PieceView → PutFault → Type 0
Refuses s p Stranger = HasPlaceFor s p → ⊥
Refuses s p Double = HasPlaceFor s p × (place_of s p ≢ None)

-- when a shelf gives no whole for this reason: OutOfMemory only where every piece is there and checks
abbrev pub EndsBy : ShelfView → ShelfFault → Type 0
EndsBy s Missing = HasGap s
EndsBy s (Forged chunk) = IsFull s × (shelf_whole s ≡ Err chunk)
EndsBy s OutOfMemory = IsFull s × ((whole : List ℕ) × (shelf_whole s ≡ Ok whole))
