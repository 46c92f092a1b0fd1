-- What a second reading gives and writes.
use Rattle.std.proofs.Common.{◌≡◌, ◌⊎◌, ℕ, inl, inr, Bool, true, false, ◌&&◌, List, [], ◌∷◌, ◌++◌, length, Option, Some, None, Result, Ok, Err, IfSome, OnErr}
use Rattle.std.proofs.Common.{refl, ap, ap₂, sym, subst, ◌∙◌, append_assoc, append-nil}
use Rattle.std.proofs.KnownBytes.{Appends-nil, Keeps-refl}
use Rattle.std.proofs.lemmas.Bool.{eq-eqb, eqb-true}
use Rattle.std.proofs.lemmas.Result.{IfOk-weaker}
use lib.Pointwise.{pointwise}
use lib.Dec.{eqb}
use Rattle.io_core.specs.Streams.{Appends, Consumes, IsAtEnd, IsFront, Keeps, counted}
use Rattle.io_core.specs.Views.{io_view}
use Rattle.container_core.specs.declared.fault.OpenFault.{OpenFault}
use Rattle.container_core.specs.declared.fault.OpenFault.TheVariants as opening_fault
use Rattle.container_core.specs.Faults.{IsOfBytes}
use Rattle.container_core.specs.Opening.{opening}
use Rattle.opening_core.specs.declared.twice.Stopped.{Stopped}
use Rattle.opening_core.specs.declared.twice.Stopped.TheVariants.{Refused, Changed, Broken}
use Rattle.opening_core.specs.Engine.{HasHeader, OpensTo}
use Rattle.opening_core.specs.Fronts.{Answers, SaysLength}
use Rattle.opening_core.specs.Twice.{CountsOn, HasOpenedTwice, HasWrittenAgain, MayWrite, MayWriteIt, WritesSome}
use Rattle.opening_core.specs.Twice.{broken_by_read, broken_by_write, stopped_by_read}
use Rattle.output_core.specs.Bounds.{Allows, Bound, Checked}
use Rattle.worker_core.specs.declared.round.Task.TheVariants.{Opening}
use Rattle.opening_core.specs.Windows.{HasBegun, HasSent, MayTake}
use Rattle.opening_core.proofs.FrontLemmas.{ended, input-answers}
use Rattle.opening_core.proofs.ReadingLemmas.{header-before, header-opened}

some-of : (o : Option (List ℕ)) (P Q : List ℕ → Type 0) → ((x : List ℕ) → P x → Q x) → IfSome o P → IfSome o Q
some-of None P Q weaker p = tt
some-of (Some x) P Q weaker p = weaker x p

some-both : (o : Option (List ℕ)) (P Q R : List ℕ → Type 0) → ((x : List ℕ) → P x → Q x → R x) → IfSome o P → IfSome o Q → IfSome o R
some-both None P Q R both p q = tt
some-both (Some x) P Q R both p q = both x p q

-- nothing was written
pub nothing-written : (key : List ℕ) (most : ℕ) (left a : Option (List ℕ)) → IfSome left (WritesSome key most a a)
nothing-written key most None a = tt
nothing-written key most (Some input) a = λ plain opens. ([], (plain, refl), Appends-nil a)

-- what was written after the header
begun-all : (key header : List ℕ) (most : ℕ) (left left' a c : Option (List ℕ)) → Consumes left left' header
    → HasBegun key header most left' a c → IfSome left (WritesSome key most a c)
begun-all key header most None left' a c first begun = tt
begun-all key header most (Some input) None a c first begun = absurd first
begun-all key header most (Some input) (Some rest) a c first begun = λ plain opens. begun plain (ap (opening key most) (sym first) ∙ opens)

-- and what of it was checked
sent-behind : (key header : List ℕ) (left left' a c : Option (List ℕ)) → Consumes left left' header
    → HasSent key header [] left' a c → HasSent key header header left a c
sent-behind key header left left' a c first sent = record {
  body = sent.body;
  plain = sent.plain;
  last = sent.last;
  read = behind left left' first sent.read;
  checked = sent.checked;
  sent = sent.sent;
}
  where
    behind : (o o' : Option (List ℕ)) → Consumes o o' header → IfSome o' (IsFront sent.body) → IfSome o (IsFront (header ++ sent.body))
    behind None o' consumed read = tt
    behind (Some input) None consumed read = absurd consumed
    behind (Some input) (Some rest) consumed read =
        (read.0, consumed ∙ ap (λ (l : List ℕ). header ++ l) read.1 ∙ sym (append_assoc header sent.body read.0))

-- all was read
all-given : (key front plain : List ℕ) (most : ℕ) (left left' left'' : Option (List ℕ)) → SaysLength key front
    → Consumes left left' front → (a : Answers key front most left' left'' (Ok plain))
    → IfSome left (λ bytes. bytes ≡ front ++ a.read)
all-given key front plain most None left' left'' says first a = tt
all-given key front plain most (Some input) None left'' says first a = absurd first
all-given key front plain most (Some input) (Some rest) left'' says first a =
    first ∙ ap (λ (l : List ℕ). front ++ l) (whole left'' a.reads.consumed (ended key front plain most (Some rest) left'' says a))
  where
    whole : (o : Option (List ℕ)) → Consumes (Some rest) o a.read → IsAtEnd o → rest ≡ a.read
    whole None consumed end = absurd consumed
    whole (Some more) consumed end = consumed ∙ ap (λ (l : List ℕ). a.read ++ l) end ∙ append-nil a.read

-- all was written
pub again-written : (key front header : List ℕ) (most n : ℕ) (left left' left'' a c : Option (List ℕ)) (r r' w w' : Option ℕ)
    → front ≡ header → SaysLength key front → Consumes left left' front
    → (plain : List ℕ) × (n ≡ length plain) × Answers key front most left' left'' (Ok plain) × Appends a c plain
    → r' ≡ r → w' ≡ w → HasWrittenAgain key header most (io_view left r a w) (io_view left'' r' c w') (Ok n)
again-written key front header most n left left' left'' a c r r' w w' same says first wrote read write = record {
  written = (
    front ++ wrote.2.read,
    subst (λ h. HasHeader h (front ++ wrote.2.read)) same (header-before key front wrote.2.read says),
    (wrote.0, wrote.2.opens, wrote.3, wrote.1),
    all-given key front wrote.0 most left left' left'' says first wrote.2,
  );
  begun = tt;
  checked = tt;
  changed = λ e. cc;
  checked_before = λ fault e. cc;
  broken = λ fault e own. cc;
  read = read;
  write = write;
}

-- a fault
pub again-stopped : (key front header : List ℕ) (most : ℕ) (fault : OpenFault) (stop : Stopped) (left left' left'' a c : Option (List ℕ)) (r r' w w' : Option ℕ)
    → front ≡ header → SaysLength key front → Consumes left left' front → HasBegun key front most left' a c → HasSent key front [] left' a c
    → (IsOfBytes fault → Answers key front most left' left'' (Err fault))
    → (stop ≡ Changed → IsOfBytes fault) → ((f : OpenFault) → stop ≡ Broken f → IsOfBytes f → ⊥) → ((f : OpenFault) → stop ≡ Refused f → ⊥)
    → r' ≡ counted (broken_by_read (Err stop)) r → w' ≡ counted (broken_by_write (Err stop)) w
    → HasWrittenAgain key header most (io_view left r a w) (io_view left'' r' c w') (Err stop)
again-stopped key front header most fault stop left left' left'' a c r r' w w' same says first begun sent refused changed broken before read write = record {
  written = tt;
  begun = begun-all key front most left left' a c first begun;
  checked = inr (subst (λ h. HasSent key h h left a c) same (sent-behind key front left left' a c first sent));
  changed = λ e.
      let is : stop ≡ Changed = cc in
      some-of left _ _ (λ input bad plain header opens. cc)
      (input-answers key front most left left' left'' (Err fault) says first (refused (changed is)));
  checked_before = λ f e. let is : stop ≡ Refused f = cc in before f is;
  broken = λ f e own. let is : stop ≡ Broken f = cc in broken f is own;
  read = read;
  write = write;
}

same-eqb : (l : List ℕ) → pointwise eqb l l ≡ true
same-eqb [] = refl
same-eqb (x ∷ l) = rw (eq-eqb x x refl) (same-eqb l)

-- bytes that were found to differ
pub found-other : (one other a b : List ℕ) → one ≡ a → other ≡ b → pointwise eqb one other ≡ false → a ≡ b → ⊥
found-other one other a b p q differ same =
    let e : one ≡ other = p ∙ same ∙ sym q in
    let other_way = ap (pointwise eqb one) e ∙ differ in
    let all = same-eqb one in
    cc

-- and bytes that weren't
eqb-same : (one other : List ℕ) → pointwise eqb one other ≡ true → one ≡ other
eqb-same [] [] is = refl
eqb-same [] (y ∷ other) is = cc
eqb-same (x ∷ one) [] is = cc
eqb-same (x ∷ one) (y ∷ other) is =
    let both = and-both (eqb x y) (pointwise eqb one other) is in
    ap₂ ◌∷◌ (eqb-true x y both.0) (eqb-same one other both.1)
  where
    and-both : (a b : Bool) → (a && b) ≡ true → (a ≡ true) × (b ≡ true)
    and-both true true e = (refl, refl)
    and-both true false e = cc
    and-both false b e = cc

pub found-same : (one other a b : List ℕ) → one ≡ a → other ≡ b → pointwise eqb one other ≡ true → a ≡ b
found-same one other a b p q is = sym p ∙ eqb-same one other is ∙ q

one-header : (one other input : List ℕ) → HasHeader one input → HasHeader other input → one ≡ other
one-header one other input p q = p.0 ∙ sym q.0

-- another header
pub again-other : (key front header : List ℕ) (most : ℕ) (left left' a : Option (List ℕ)) (r r' w : Option ℕ) → SaysLength key front
    → Consumes left left' front → (front ≡ header → ⊥) → r' ≡ r → HasWrittenAgain key header most (io_view left r a w) (io_view left' r' a w) (Err Changed)
again-other key front header most left left' a r r' w says first differs read = record {
  written = tt;
  begun = nothing-written key most left a;
  checked = inl (Keeps-refl a);
  changed = λ e. some-of left _ _ (λ input is plain was opens. differs (one-header front header input is was)) (header-opened key front left left' says first);
  checked_before = λ f e. cc;
  broken = λ f e own. cc;
  read = read;
  write = refl;
}

-- a fault of the header, or of its reading
pub again-front : (key header : List ℕ) (most : ℕ) (fault : OpenFault) (stop : Stopped) (left left' a : Option (List ℕ)) (r r' w : Option ℕ)
    → (IsOfBytes fault → IfSome left (λ input. opening key most input ≡ Err fault))
    → (stop ≡ Changed → IsOfBytes fault) → ((f : OpenFault) → stop ≡ Broken f → IsOfBytes f → ⊥) → ((f : OpenFault) → stop ≡ Refused f → ⊥)
    → r' ≡ counted (broken_by_read (Err stop)) r → broken_by_write (Err stop) ≡ false
    → HasWrittenAgain key header most (io_view left r a w) (io_view left' r' a w) (Err stop)
again-front key header most fault stop left left' a r r' w refused changed broken before read unwritten = record {
  written = tt;
  begun = nothing-written key most left a;
  checked = inl (Keeps-refl a);
  changed = λ e.
      let is : stop ≡ Changed = cc in
      some-of left _ _ (λ input bad plain named opens. cc) (refused (changed is));
  checked_before = λ f e. let is : stop ≡ Refused f = cc in before f is;
  broken = λ f e own. let is : stop ≡ Broken f = cc in broken f is own;
  read = read;
  write = sym (ap (λ b. counted b w) unwritten);
}

-- ---- both readings

kept-some : (a b : Option (List ℕ)) (P : List ℕ → Type 0) → Keeps a b → IfSome b P → IfSome a P
kept-some None b P kept p = tt
kept-some (Some x) None P kept p = absurd kept
kept-some (Some x) (Some y) P kept p = subst P kept p

-- the count of a reading goes on to that of what is read
pub counts-reading : (failed : Bool) (before first last after : Option ℕ) → CountsOn false before first
    → last ≡ counted failed first → after ≡ last → CountsOn failed before after
counts-reading failed None first last after one read ended = tt
counts-reading failed (Some n) first last after one read ended = ended ∙ read ∙ ap (counted failed) one

-- and to the next
pub counts-next : (failed : Bool) (before between after : Option ℕ) → CountsOn false before between → CountsOn failed between after
    → CountsOn failed before after
counts-next failed None between after one two = tt
counts-next failed (Some n) between after one two = subst (λ o. CountsOn failed o after) one two

-- a second reading refuses nothing
broken-read : (result : Result ℕ Stopped) → ((fault : OpenFault) → result ≡ Err (Refused fault) → ⊥)
    → broken_by_read result ≡ stopped_by_read result
broken-read (Ok n) none = refl
broken-read (Err (Refused fault)) none = absurd (none fault refl)
broken-read (Err Changed) none = refl
broken-read (Err (Broken opening_fault.Read)) none = refl
broken-read (Err (Broken _)) none = refl

-- the second reading ended it
pub twice-done : (key header : List ℕ) (most n : ℕ) (bytes left bytes' left' left'' bytes'' a c : Option (List ℕ)) (f f' r r' w w' : Option ℕ)
    (result : Result ℕ Stopped)
    → Keeps bytes left → Keeps bytes bytes' → Keeps bytes' left'
    → IfSome left (HasHeader header) → IfSome left (λ input. OpensTo key most input n)
    → HasWrittenAgain key header most (io_view left' f a w) (io_view left'' f' c w') result → CountsOn (broken_by_read result) r r'
    → HasOpenedTwice key most (io_view bytes r a w) (io_view bytes'' r' c w') result
twice-done key header most n bytes left bytes' left' left'' bytes'' a c f f' r r' w w' result kept still again named opens wrote counts = record {
  written = IfOk-weaker result _ _ (λ k w. (w.0, w.2, back _ w.3)) wrote.written;
  unwritten = λ f e. absurd (wrote.checked_before f e);
  refused = λ f e own. absurd (wrote.checked_before f e);
  begun = λ f e.
      some-both bytes _ _ _ (λ input o w. (o.0, o.1, w o.0 o.1)) opened
      (back _ (subst (λ r. OnErr r (IfSome left' (WritesSome key most a c))) e wrote.begun));
  broken = wrote.broken;
  read = subst (λ b. CountsOn b r r') (broken-read result wrote.checked_before) counts;
  write = wrote.write;
  same = λ e.
      some-both bytes _ _ _ (λ input both w. w both.1.0 both.0 both.1.1)
      (some-both bytes _ _ (λ input. HasHeader header input × OpensTo key most input n) (λ input h o. (h, o))
      (kept-some bytes left _ kept named) opened)
      (back _ (wrote.changed e));
}
  where
    opened : IfSome bytes (λ input. OpensTo key most input n)
    opened = kept-some bytes left (λ input. OpensTo key most input n) kept opens

    back : (P : List ℕ → Type 0) → IfSome left' P → IfSome bytes P
    back P p = kept-some bytes bytes' P still (kept-some bytes' left' P again p)

-- ---- what may be written

pub may-behind : (key front header : List ℕ) (most : ℕ) (left left' a : Option (List ℕ)) (bound : Option Bound) → front ≡ header
    → IfSome bound (MayWrite key header most left a) → Consumes left left' front → IfSome bound (MayTake Opening key front most left' a)
may-behind key front header most left left' a None same may first = tt
may-behind key front header most left left' a (Some b) same (held, input, had, known, may) first =
    behind left' may (subst (λ o. Consumes o left' front) known first)
  where
    behind : (o : Option (List ℕ)) → (b ≡ Checked held key header input)
        ⊎ ((plain : List ℕ) × (opening key most input ≡ Ok plain) × Allows b (held ++ plain))
        → Consumes (Some input) o front → MayTake Opening key front most o a b
    behind None either consumed = absurd consumed
    behind (Some rest) (inl is) consumed =
        (refl, held, rest, had, refl, inl (is ∙ ap₂ (Checked held key) (sym same) consumed))
    behind (Some rest) (inr (plain, opens, allowed)) consumed =
        (refl, held, rest, had, refl, inr (plain, ap (opening key most) (sym consumed) ∙ opens, allowed))

pub may-know : (key header : List ℕ) (most n : ℕ) (bytes left bytes' left' a : Option (List ℕ)) (bound : Option Bound)
    → IfSome bound (MayWriteIt key most bytes a) → Keeps bytes left → Keeps bytes bytes' → Keeps bytes' left'
    → IfSome left (λ input. OpensTo key most input n) → IfSome bound (MayWrite key header most left' a)
may-know key header most n bytes left bytes' left' a None may kept still again opens = tt
may-know key header most n bytes left bytes' left' a (Some b) (input, held, known, had, allowed) kept still again opens =
    found left bytes' left' (subst (λ o. Keeps o left) known kept) (subst (λ o. Keeps o bytes') known still) again opens
  where
    found : (one two three : Option (List ℕ)) → Keeps (Some input) one → Keeps (Some input) two → Keeps two three
        → IfSome one (λ i. OpensTo key most i n) → MayWrite key header most three a b
    found None two three k s r o = absurd k
    found (Some x) None three k s r o = absurd s
    found (Some x) (Some y) None k s r o = absurd r
    found (Some x) (Some y) (Some z) k s r o =
        let same : z ≡ x = r ∙ s ∙ sym k in
        (held, z, had, refl, inr (o.0, ap (opening key most) same ∙ o.1, allowed o.0 (ap (opening key most) (sym k) ∙ o.1)))
