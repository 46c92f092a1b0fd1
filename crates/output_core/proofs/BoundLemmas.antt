-- An output takes bytes in parts.
use Rattle.std.proofs.Common.{◌≡◌, ℕ, ◌-◌, List, [], ◌++◌, length, take, drop, Option, None, Some, refl, sym, ap, ◌∙◌, append_assoc, subst}
use Rattle.io_core.proofs.WriteLemmas.{written_more}
use Rattle.io_core.specs.Streams.{Appends, IsFront}
use Rattle.output_core.specs.Bounds.{Admits, Allows, Bound, Checked, Container, Exactly}

pub front_of_front : (one two three : List ℕ) → IsFront one two → IsFront two three → IsFront one three
front_of_front one two three (rest, p) (more, q) =
    (rest ++ more, q ∙ ap (λ l. l ++ more) p ∙ append_assoc one rest more)

pub front_behind : (held one two : List ℕ) → IsFront one two → IsFront (held ++ one) (held ++ two)
front_behind held one two (rest, p) = (rest, ap (λ l. held ++ l) p ∙ sym (append_assoc held one rest))

-- what allows bytes allows fewer
pub allows_front : (b : Bound) (bytes whole : List ℕ) → Allows b whole → IsFront bytes whole → Allows b bytes
allows_front (Container before key shape prefix) bytes whole (plain, f) g = (plain, front_of_front bytes whole _ g f)
allows_front (Exactly all) bytes whole f g = front_of_front bytes whole all g f
allows_front (Checked before key header input) bytes whole (plain, is, f) g =
    (plain, is, front_of_front bytes whole (before ++ plain) g f)

-- an output that may take all may take a front
pub admits_front : (bound : Option Bound) (taken : Option (List ℕ)) (bytes whole : List ℕ) → Admits bound taken whole
    → IsFront bytes whole → Admits bound taken bytes
admits_front None taken bytes whole p f = tt
admits_front (Some b) taken bytes whole (held, known, allowed) f =
    (held, known, allows_front b (held ++ bytes) (held ++ whole) allowed (front_behind held bytes whole f))

-- after a front that it took it may take what follows
pub grown : (b : Bound) (held : List ℕ) (taken' : Option (List ℕ)) (front rest : List ℕ)
    → Allows b (held ++ (front ++ rest)) → Appends (Some held) taken' front → Admits (Some b) taken' rest
grown b held None front rest allowed q = absurd q
grown b held (Some t) front rest allowed q =
    (t, refl, subst (Allows b) (sym (append_assoc held front rest) ∙ ap (λ l. l ++ rest) (sym q)) allowed)

-- and after a front the rest
pub admits_rest : (bound : Option Bound) (taken taken' : Option (List ℕ)) (front rest : List ℕ)
    → Admits bound taken (front ++ rest) → Appends taken taken' front → Admits bound taken' rest
admits_rest None taken taken' front rest p q = tt
admits_rest (Some b) taken taken' front rest (held, known, allowed) q =
    grown b held taken' front rest allowed (subst (λ o. Appends o taken' front) known q)

-- another name for what an output may hold
pub admits_same : (one other : Option Bound) (taken : Option (List ℕ)) (bytes : List ℕ) → other ≡ one
    → Admits one taken bytes → Admits other taken bytes
admits_same one other taken bytes e p = subst (λ b. Admits b taken bytes) (sym e) p

-- and after n bytes the others
pub admits_others : (bound : Option Bound) (taken taken' : Option (List ℕ)) (all : List ℕ) (n : ℕ) → Admits bound taken all
    → Appends taken taken' (take n all) → Admits bound taken' (take (length all - n) (drop n all))
admits_others bound taken taken' all n p q =
    admits_rest bound taken taken' (take n all) (take (length all - n) (drop n all))
    (subst (Admits bound taken) (written_more all [] all n refl) p) q
