-- What a `Mac` denotes: a key and the bytes absorbed under it. It keeps neither, only these four values.
use Rattle.std.specs.Prelude.{◌≡◌, ℕ, ◌*◌, ◌/◌, ◌%◌, List, length, drop}
use Rattle.poly_core.specs.Poly1305.{prime, key_r, key_s, block_numbers, polynomial}

-- the key's two numbers, the polynomial of the whole blocks modulo the prime, and the bytes after them
pub record Progress : Type 0 where
  pub r : ℕ
  pub s : ℕ
  pub sum : ℕ
  pub rest : List ℕ

-- the mac denotes the key, and the message as the bytes absorbed under it
unfoldable pub Absorbed : Progress → List ℕ → List ℕ → Type 0
Absorbed mac key message =
    let whole : ℕ = length message / 16 in
    (mac.r ≡ key_r key) × (mac.s ≡ key_s key)
    × (mac.sum ≡ polynomial (key_r key) (block_numbers message whole) % prime) × (mac.rest ≡ drop (16 * whole) message)
