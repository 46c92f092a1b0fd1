-- Opening that sends its plaintext one round later: what of it was sent, at every end.
use Rattle.std.proofs.Common.{◌≡◌, ℕ, zero, suc, ◌+◌, ◌*◌, ◌<◌, ◌⊎◌, inl, inr, true, false, List, [], ◌∷◌, ◌++◌, length, Option, Some, None}
use Rattle.std.proofs.Common.{Result, Ok, Err, IfSome, refl, ap, ap₂, sym, subst, ◌∙◌, arith, zero-mul, append_assoc, append-nil, length-append}
use Rattle.std.proofs.KnownBytes.{Appends-nil, Appends-trans}
use Rattle.io_core.specs.Streams.{Appends, AppendsFront, Consumes, IsAtEnd, IsFront}
use Rattle.container_core.specs.declared.fault.OpenFault.{OpenFault}
use Rattle.container_core.specs.Chunks.{sealed_chunks}
use Rattle.container_core.specs.Container.{header_length, size_in}
use Rattle.container_core.specs.Opening.{unsealed, unsealed_by, behind, unless, early_fault, opening}
use Rattle.worker_core.specs.Answer.{joined}
use Rattle.output_core.specs.Bounds.{Admits, Allows, Bound, Checked, IsChecked}
use Rattle.output_core.proofs.BoundLemmas.{admits_rest, admits_same, allows_front, front_behind}
use Rattle.worker_core.specs.declared.round.Task.{Task}
use Rattle.worker_core.specs.declared.round.Task.TheVariants.{Sealing, Opening, Checking}
use Rattle.opening_core.specs.Windows.{HasBegun, HasBegunLast, HasSent, MayTake, MayTakeLast}
use Rattle.opening_core.proofs.AnswerLemmas.{opening-body}
use Rattle.opening_core.proofs.OpeningRounds.{OpensBehind, opens-last}

-- of what opened this was sent, and the rest waits
abbrev pub Sent : Option (List ℕ) → Option (List ℕ) → List ℕ → List ℕ → Type 0
Sent taken taken' plain waiting = (sent : List ℕ) × Appends taken taken' sent × (plain ≡ sent ++ waiting)

pub sent-none : (a : Option (List ℕ)) (values : List (Option (List ℕ))) → values ≡ [] → Sent a a [] (joined values)
sent-none a values none = ([], Appends-nil a, sym (ap joined none))

-- what waited was sent, and one more round waits
pub sent-more : (a b c : Option (List ℕ)) (plain waiting opened next : List ℕ) → Sent a b plain waiting → Appends b c waiting
    → opened ≡ next → Sent a c (plain ++ opened) next
sent-more a b c plain waiting opened next before more is =
    (before.0 ++ waiting, Appends-trans a b c before.0 waiting before.1 more, ap₂ ◌++◌ before.2 is)

-- all that opened was sent
pub sent-all : (a b c : Option (List ℕ)) (plain waiting last : List ℕ) → Sent a b plain waiting → Appends b c (waiting ++ last)
    → Appends a c (plain ++ last)
sent-all a b c plain waiting last before more =
    subst (Appends a c) (sym (append_assoc before.0 waiting last) ∙ ap (λ (l : List ℕ). l ++ last) (sym before.2))
    (Appends-trans a b c before.0 (waiting ++ last) before.1 more)

pub front-behind : (a b c : Option (List ℕ)) (done part : List ℕ) → Appends a b done → AppendsFront b c part
    → AppendsFront a c (done ++ part)
front-behind a b c done part before begun = (
  done ++ begun.0,
  (begun.1.0, ap (λ (l : List ℕ). done ++ l) begun.1.1 ∙ sym (append_assoc done begun.0 begun.1.0)),
  Appends-trans a b c done begun.0 before begun.2,
)

pub front-wider : (a b : Option (List ℕ)) (part more : List ℕ) → AppendsFront a b part → AppendsFront a b (part ++ more)
front-wider a b part more begun =
    (begun.0, (begun.1.0 ++ more, ap (λ (l : List ℕ). l ++ more) begun.1.1 ∙ append_assoc begun.0 begun.1.0 more), begun.2)

pub front-whole : (a b : Option (List ℕ)) (part : List ℕ) → Appends a b part → AppendsFront a b part
front-whole a b part whole = (part, ([], sym (append-nil part)), whole)

-- what was sent begins whatever begins with what opened
pub front-sent : (a b : Option (List ℕ)) (plain waiting whole : List ℕ) → Sent a b plain waiting → IsFront plain whole
    → AppendsFront a b whole
front-sent a b plain waiting whole s f =
    (s.0, (waiting ++ f.0, f.1 ∙ ap (λ (l : List ℕ). l ++ f.0) s.2 ∙ append_assoc s.0 waiting f.0), s.1)

pub front-more : (a b c : Option (List ℕ)) (plain waiting whole : List ℕ) → Sent a b plain waiting → AppendsFront b c waiting
    → IsFront plain whole → AppendsFront a c whole
front-more a b c plain waiting whole s more f =
    subst (AppendsFront a c) (sym (f.1 ∙ ap (λ (l : List ℕ). l ++ f.0) s.2 ∙ append_assoc s.0 waiting f.0))
    (front-behind a b c s.0 (waiting ++ f.0) s.1 (front-wider b c waiting f.0 more))

pub front-last : (a b c : Option (List ℕ)) (plain waiting last : List ℕ) → Sent a b plain waiting
    → AppendsFront b c (waiting ++ last) → AppendsFront a c (plain ++ last)
front-last a b c plain waiting last s more =
    subst (AppendsFront a c) (sym (ap (λ (l : List ℕ). l ++ last) s.2 ∙ append_assoc s.0 waiting last))
    (front-behind a b c s.0 (waiting ++ last) s.1 more)

-- ---- what opens begins with what its rounds opened to

behind-ok : (front : List ℕ) (answer : Result (List ℕ) OpenFault) (p : List ℕ) → behind front answer ≡ Ok p
    → (q : List ℕ) × (answer ≡ Ok q) × (p ≡ front ++ q)
behind-ok front (Ok q) p e = (q, refl, cc)
behind-ok front (Err fault) p e = cc

unless-ok : (early : Option OpenFault) (answer : Result (List ℕ) OpenFault) (p : List ℕ) → unless early answer ≡ Ok p → answer ≡ Ok p
unless-ok None answer p e = e
unless-ok (Some fault) answer p e = cc

pub opens-rest : (key header rest : List ℕ) (most first : ℕ) (past plain tail p : List ℕ) → header_length header ≡ length header
    → ((pieces : List (List ℕ)) → unsealed_by key header 0 true pieces ≡ unsealed key header 0 pieces)
    → OpensBehind key header first past plain → 0 < length tail → rest ≡ past ++ tail → opening key most (header ++ rest) ≡ Ok p
    → (q : List ℕ) × (unsealed_by key header first true (sealed_chunks (size_in header) tail) ≡ Ok q) × (p ≡ plain ++ q)
unfolding OpensBehind
opens-rest key header rest most first past plain tail p long whole before some is opens =
    behind-ok plain (unsealed_by key header first true (sealed_chunks (size_in header) tail)) p
    (sym (before tail some)
    ∙ ap (λ (b : List ℕ). unsealed_by key header 0 true (sealed_chunks (size_in header) b)) (sym is)
    ∙ whole (sealed_chunks (size_in header) rest)
    ∙ unless-ok (early_fault key most (header ++ rest)) (unsealed key header 0 (sealed_chunks (size_in header) rest)) p
    (sym (opening-body key header rest most long) ∙ opens))

-- ---- at an end before the last round

pub some-or-none : (first : ℕ) (held plain : List ℕ) → (0 < first → 0 < length held) → (first ≡ 0 → plain ≡ [])
    → (0 < length held) ⊎ (plain ≡ [])
some-or-none zero held plain some none = inr (none refl)
some-or-none (suc n) held plain some none = inl (some (omega arith))

pub begun-front : (key header : List ℕ) (most first : ℕ) (left left' a c : Option (List ℕ)) (past held plain : List ℕ)
    → header_length header ≡ length header
    → ((pieces : List (List ℕ)) → unsealed_by key header 0 true pieces ≡ unsealed key header 0 pieces)
    → OpensBehind key header first past plain → Consumes left left' (past ++ held) → (0 < length held) ⊎ (plain ≡ [])
    → ((p : List ℕ) → IsFront plain p → AppendsFront a c p) → HasBegun key header most left a c
begun-front key header most first None left' a c past held plain long whole before consumed some front = tt
begun-front key header most first (Some input) None a c past held plain long whole before consumed some front = absurd consumed
begun-front key header most first (Some input) (Some more) a c past held plain long whole before consumed some front = λ p opens.
    elim some [
      | inl any ↦
          let all = length-append held more in
          let r = opens-rest key header input most first past plain (held ++ more) p long whole before (omega (arith, all, any))
          (consumed ∙ append_assoc past held more) opens in
          front p (r.0, r.2)
      | inr none ↦ front p (p, ap (λ (l : List ℕ). l ++ p) (sym none))
    ]

pub begun-none : (key header : List ℕ) (most : ℕ) (left a : Option (List ℕ)) → HasBegun key header most left a a
begun-none key header most None a = tt
begun-none key header most (Some input) a = λ p opens. ([], (p, refl), Appends-nil a)

-- ---- at the last round

one-answer : (answer : Result (List ℕ) OpenFault) (p q : List ℕ) → answer ≡ Ok p → answer ≡ Ok q → p ≡ q
one-answer answer p q e f = cc

last-front : (key header : List ℕ) (first : ℕ) (held : List ℕ) (values : List (Option (List ℕ))) (b c : Option (List ℕ)) (q : List ℕ)
    → unsealed_by key header first true (sealed_chunks (size_in header) held) ≡ Ok q
    → HasBegunLast key header first held values b c → AppendsFront b c (joined values ++ q)
last-front key header first held values b c q opens (inl begun) = front-wider b c (joined values) q begun
last-front key header first held values b c q opens (inr begun) =
    subst (λ (l : List ℕ). AppendsFront b c (joined values ++ l))
    (one-answer (unsealed_by key header first true (sealed_chunks (size_in header) held)) begun.0 q begun.1 opens) begun.2

pub begun-last : (key header : List ℕ) (most first : ℕ) (left left' a b c : Option (List ℕ)) (past held plain : List ℕ)
    (values : List (Option (List ℕ))) → header_length header ≡ length header
    → ((pieces : List (List ℕ)) → unsealed_by key header 0 true pieces ≡ unsealed key header 0 pieces)
    → OpensBehind key header first past plain → Consumes left left' (past ++ held) → IsAtEnd left' → 0 < length held
    → Sent a b plain (joined values) → HasBegunLast key header first held values b c → HasBegun key header most left a c
begun-last key header most first None left' a b c past held plain values long whole before consumed end some sent last = tt
begun-last key header most first (Some input) None a b c past held plain values long whole before consumed end some sent last = absurd consumed
begun-last key header most first (Some input) (Some more) a b c past held plain values long whole before consumed end some sent last = λ p opens.
    let r = opens-rest key header input most first past plain held p long whole before some
    (consumed ∙ ap (λ (l : List ℕ). (past ++ held) ++ l) end ∙ append-nil (past ++ held)) opens in
    subst (AppendsFront a c) (sym r.2)
    (front-last a b c plain (joined values) r.0 sent (last-front key header first held values b c r.0 r.1 last))

-- ---- what was sent was checked

no-length : (l : List ℕ) → length l ≡ 0 → l ≡ []
no-length [] none = refl
no-length (x ∷ l) none = absurd (omega (arith, none))

-- the rounds so far, and one more
pub checks-more : (key header past plain bytes opened : List ℕ) (size first : ℕ) → size ≡ size_in header
    → ((front rest plain : List ℕ) (count : ℕ) → length front ≡ count * (size + 16) → 0 < count → 0 < length rest
    → unsealed_by key header 0 false (sealed_chunks size front) ≡ Ok plain
    → unsealed_by key header 0 false (sealed_chunks size (front ++ rest)) ≡ behind plain (unsealed_by key header (0 + count) false (sealed_chunks size rest)))
    → length past ≡ first * (size + 16) → (first ≡ 0 → plain ≡ []) → (0 < first → unsealed_by key header 0 false (sealed_chunks size past) ≡ Ok plain)
    → 0 < length bytes → unsealed_by key header first false (sealed_chunks size bytes) ≡ Ok opened
    → unsealed_by key header 0 false (sealed_chunks size (past ++ bytes)) ≡ Ok (plain ++ opened)
checks-more key header past plain bytes opened size zero sized law long none checks some opens =
    let nothing : past ≡ [] = no-length past (long ∙ zero-mul (size + 16)) in
    ap (λ (l : List ℕ). unsealed_by key header 0 false (sealed_chunks size (l ++ bytes))) nothing ∙ opens
    ∙ ap (λ (l : List ℕ). Ok (l ++ opened)) (sym (none refl))
checks-more key header past plain bytes opened size (suc n) sized law long none checks some opens =
    let any : 0 < suc n = omega arith in
    let same : 0 + suc n ≡ suc n = omega arith in
    law past bytes plain (suc n) long any some (checks any)
    ∙ ap (λ (k : ℕ). behind plain (unsealed_by key header k false (sealed_chunks size bytes))) same
    ∙ ap (behind plain) opens

front-read : (left left' : Option (List ℕ)) (past held : List ℕ) → Consumes left left' (past ++ held) → IfSome left (IsFront past)
front-read None left' past held consumed = tt
front-read (Some input) None past held consumed = absurd consumed
front-read (Some input) (Some more) past held consumed = (held ++ more, consumed ∙ append_assoc past held more)

pub sent-nothing : (key header : List ℕ) (left a : Option (List ℕ)) → HasSent key header [] left a a
sent-nothing key header left a = record {
  body = [];
  plain = [];
  last = false;
  read = begins left;
  checked = inl refl;
  sent = ([], ([], refl), Appends-nil a);
}
  where
    begins : (o : Option (List ℕ)) → IfSome o (IsFront [])
    begins None = tt
    begins (Some input) = (input, refl)

pub sent-so_far : (key header : List ℕ) (first : ℕ) (left left' a c : Option (List ℕ)) (past held plain : List ℕ)
    → Consumes left left' (past ++ held) → (first ≡ 0 → plain ≡ [])
    → (0 < first → unsealed_by key header 0 false (sealed_chunks (size_in header) past) ≡ Ok plain)
    → AppendsFront a c plain → HasSent key header [] left a c
sent-so_far key header first left left' a c past held plain consumed none checks sent = record {
  body = past;
  plain = plain;
  last = false;
  read = front-read left left' past held consumed;
  checked = either first none checks;
  sent = sent;
}
  where
    either : (n : ℕ) → (n ≡ 0 → plain ≡ []) → (0 < n → unsealed_by key header 0 false (sealed_chunks (size_in header) past) ≡ Ok plain)
        → (plain ≡ []) ⊎ (unsealed_by key header 0 false (sealed_chunks (size_in header) past) ≡ Ok plain)
    either zero none checks = inl (none refl)
    either (suc n) none checks = inr (checks (omega arith))

pub sent-last : (key header : List ℕ) (first : ℕ) (left left' a b c : Option (List ℕ)) (past held plain : List ℕ) (values : List (Option (List ℕ)))
    → Consumes left left' (past ++ held) → (first ≡ 0 → plain ≡ [])
    → (0 < first → unsealed_by key header 0 false (sealed_chunks (size_in header) past) ≡ Ok plain)
    → OpensBehind key header first past plain → 0 < length held → Sent a b plain (joined values)
    → HasBegunLast key header first held values b c → HasSent key header [] left a c
sent-last key header first left left' a b c past held plain values consumed none checks before some sent (inl begun) =
    sent-so_far key header first left left' a c past held plain consumed none checks
    (front-more a b c plain (joined values) plain sent begun ([], sym (append-nil plain)))
sent-last key header first left left' a b c past held plain values consumed none checks before some sent (inr begun) = record {
  body = past ++ held;
  plain = plain ++ begun.0;
  last = true;
  read = front-read left left' (past ++ held) [] (subst (Consumes left left') (sym (append-nil (past ++ held))) consumed);
  checked = inr (opens-last key header first past plain held (Ok begun.0) some begun.1 before);
  sent = front-last a b c plain (joined values) begun.0 sent begun.2;
}

-- ---- what may be sent

-- what waits, and some bytes after it, begin the plaintext that the output may hold
admits-front : (b : Bound) (held : List ℕ) (a now : Option (List ℕ)) (plain waiting more whole : List ℕ) → a ≡ Some held
    → Allows b (held ++ whole) → Sent a now plain waiting → IsFront (plain ++ more) whole → Admits (Some b) now (waiting ++ more)
admits-front b held a now plain waiting more whole known allowed sent front =
    admits_rest (Some b) a now sent.0 (waiting ++ more) (
      held,
      known,
      allows_front b (held ++ (sent.0 ++ (waiting ++ more))) (held ++ whole) allowed (front_behind held (sent.0 ++ (waiting ++ more)) whole
          (subst (λ (l : List ℕ). IsFront l whole) (ap (λ (l : List ℕ). l ++ more) sent.2 ∙ append_assoc sent.0 waiting more) front)),
    )
    sent.1

-- a bounded output may take the pieces that wait, and what the last round opens to after them
admits-known : (key header : List ℕ) (most first : ℕ) (left' now : Option (List ℕ)) (b : Bound) (rest whole kept : List ℕ) (past held plain waiting more : List ℕ)
    → header_length header ≡ length header
    → ((pieces : List (List ℕ)) → unsealed_by key header 0 true pieces ≡ unsealed key header 0 pieces)
    → OpensBehind key header first past plain → Consumes (Some rest) left' (past ++ held) → (0 < length held) ⊎ (plain ≡ [])
    → opening key most (header ++ rest) ≡ Ok whole → Allows b (kept ++ whole) → Sent (Some kept) now plain waiting
    → (more ≡ []) ⊎ ((0 < length held) × IsAtEnd left' × (unsealed_by key header first true (sealed_chunks (size_in header) held) ≡ Ok more))
    → Admits (Some b) now (waiting ++ more)
admits-known key header most first None now b rest whole kept past held plain waiting more long law before consumed some opens allowed sent last = absurd consumed
admits-known key header most first (Some after) now b rest whole kept past held plain waiting more long law before consumed some opens allowed sent (inl nothing) =
    admits-front b kept (Some kept) now plain waiting more whole refl allowed sent
    (subst (λ (l : List ℕ). IsFront (plain ++ l) whole) (sym nothing) (subst (λ (l : List ℕ). IsFront l whole) (sym (append-nil plain)) begins))
  where
    begins : IsFront plain whole
    begins = elim some [
      | inl any ↦
          let all = length-append held after in
          let r = opens-rest key header rest most first past plain (held ++ after) whole long law before (omega (arith, all, any))
          (consumed ∙ append_assoc past held after) opens in
          (r.0, r.2)
      | inr none ↦ (whole, ap (λ (l : List ℕ). l ++ whole) (sym none))
    ]
admits-known key header most first (Some after) now b rest whole kept past held plain waiting more long law before consumed some opens allowed sent (inr last) =
    let r = opens-rest key header rest most first past plain held whole long law before last.0
    (consumed ∙ ap (λ (l : List ℕ). (past ++ held) ++ l) last.1 ∙ append-nil (past ++ held)) opens in
    let same = one-answer (unsealed_by key header first true (sealed_chunks (size_in header) held)) r.0 more r.1 last.2 in
    admits-front b kept (Some kept) now plain waiting more whole refl allowed sent
    (subst (λ (l : List ℕ). IsFront (plain ++ l) whole) same ([], r.2 ∙ sym (append-nil (plain ++ r.0))))

-- what was opened so far, and of the last round, was checked
checked-all : (key header : List ℕ) (first : ℕ) (left' : Option (List ℕ)) (rest past held plain more : List ℕ)
    → Consumes (Some rest) left' (past ++ held) → OpensBehind key header first past plain → (first ≡ 0 → plain ≡ [])
    → (0 < first → unsealed_by key header 0 false (sealed_chunks (size_in header) past) ≡ Ok plain)
    → (more ≡ []) ⊎ ((0 < length held) × IsAtEnd left' × (unsealed_by key header first true (sealed_chunks (size_in header) held) ≡ Ok more))
    → IsChecked key header (header ++ rest) (plain ++ more)
checked-all key header zero left' rest past held plain more consumed before none checks (inl nothing) =
    inl (ap₂ ◌++◌ (none refl) nothing)
checked-all key header (suc n) left' rest past held plain more consumed before none checks (inl nothing) = inr (
  past,
  false,
  front_behind header past rest (front-read (Some rest) left' past held consumed),
  checks (omega arith) ∙ ap (λ (l : List ℕ). Ok l) (sym (ap (λ (l : List ℕ). plain ++ l) nothing ∙ append-nil plain)),
)
checked-all key header first left' rest past held plain more consumed before none checks (inr (some, end, opens)) = inr (
  past ++ held,
  true,
  front_behind header (past ++ held) rest (front-read (Some rest) left' (past ++ held) []
      (subst (Consumes (Some rest) left') (sym (append-nil (past ++ held))) consumed)),
  opens-last key header first past plain held (Ok more) some opens before,
)

module _ (task : Task) (key header : List ℕ) (most first : ℕ) (left' : Option (List ℕ)) (past held plain waiting : List ℕ)
    (long : header_length header ≡ length header)
    (law : (pieces : List (List ℕ)) → unsealed_by key header 0 true pieces ≡ unsealed key header 0 pieces)
    (before : OpensBehind key header first past plain) (none : first ≡ 0 → plain ≡ [])
    (checks : 0 < first → unsealed_by key header 0 false (sealed_chunks (size_in header) past) ≡ Ok plain) where
  admits-more : (left a now : Option (List ℕ)) (bound0 : Option Bound) (more : List ℕ) → IfSome bound0 (MayTake task key header most left a)
      → Consumes left left' (past ++ held) → (0 < length held) ⊎ (plain ≡ []) → (task ≡ Opening → Sent a now plain waiting)
      → (more ≡ []) ⊎ ((0 < length held) × IsAtEnd left' × (unsealed_by key header first true (sealed_chunks (size_in header) held) ≡ Ok more))
      → Admits bound0 now (waiting ++ more)
  admits-more left a now None more may consumed some kept last = tt
  admits-more left a now (Some b) more (opening_task, kept_before, rest, had, known, inl is) consumed some kept last =
      let all = plain ++ more in
      let allowed : Allows (Checked kept_before key header (header ++ rest)) (kept_before ++ all) = (
        all,
        checked-all key header first left' rest past held plain more
            (subst (λ (o : Option (List ℕ)). Consumes o left' (past ++ held)) known consumed) before none checks last,
        ([], sym (append-nil (kept_before ++ all))),
      ) in
      admits-front b kept_before (Some kept_before) now plain waiting more all refl (subst (λ (x : Bound). Allows x (kept_before ++ all)) (sym is) allowed)
      (subst (λ (o : Option (List ℕ)). Sent o now plain waiting) had (kept opening_task)) ([], sym (append-nil all))
  admits-more left a now (Some b) more (opening_task, kept_before, rest, had, known, inr (whole, opens, allowed)) consumed some kept last =
      admits-known key header most first left' now b rest whole kept_before past held plain waiting more long law before
      (subst (λ (o : Option (List ℕ)). Consumes o left' (past ++ held)) known consumed) some opens allowed
      (subst (λ (o : Option (List ℕ)). Sent o now plain waiting) had (kept opening_task)) last

  pub admits-waiting : (left a now : Option (List ℕ)) (bound0 bound : Option Bound) → bound ≡ bound0 → IfSome bound0 (MayTake task key header most left a)
      → Consumes left left' (past ++ held) → (0 < length held) ⊎ (plain ≡ []) → (task ≡ Opening → Sent a now plain waiting)
      → Admits bound now waiting
  admits-waiting left a now bound0 bound same may consumed some kept =
      admits_same bound0 bound now waiting same (subst (Admits bound0 now) (append-nil waiting) (admits-more left a now bound0 [] may consumed some kept (inl refl)))

  pub admits-last : (left a now : Option (List ℕ)) (bound0 bound : Option Bound) (more : List ℕ) → bound ≡ bound0 → IfSome bound0 (MayTake task key header most left a)
      → Consumes left left' (past ++ held) → 0 < length held → IsAtEnd left' → (task ≡ Opening → Sent a now plain waiting)
      → unsealed_by key header first true (sealed_chunks (size_in header) held) ≡ Ok more → Admits bound now (waiting ++ more)
  admits-last left a now bound0 bound more same may consumed some end kept opens =
      admits_same bound0 bound now (waiting ++ more) same (admits-more left a now bound0 more may consumed (inl some) kept (inr (some, end, opens)))

-- an output that is bounded opens
pub bounded-opens : (task : Task) (key header : List ℕ) (most : ℕ) (left a : Option (List ℕ)) (bound0 bound : Option Bound) → bound ≡ bound0
    → IfSome bound0 (MayTake task key header most left a) → (task ≡ Opening → ⊥) → bound ≡ None
bounded-opens task key header most left a None bound same may other = same
bounded-opens task key header most left a (Some b) bound same may other = absurd (other may.0)

-- the pieces of the last round
pub last-may : (task : Task) (key header : List ℕ) (first : ℕ) (held : List ℕ) (waiting values : List (Option (List ℕ))) (bound now : Option Bound)
    (a b : Option (List ℕ)) → MayTakeLast task key header first held waiting bound a → now ≡ bound
    → (task ≡ Opening → unsealed_by key header first true (sealed_chunks (size_in header) held) ≡ Ok (joined values))
    → Appends a b (joined waiting) → Admits now b (joined values)
last-may Opening key header first held waiting values bound now a b may same opens taken =
    admits_same bound now b (joined values) same (admits_rest bound a b (joined waiting) (joined values) (may.behind refl (joined values) (opens refl)) taken)
last-may Sealing key header first held waiting values bound now a b may same opens taken =
    subst (λ o. Admits o b (joined values)) (sym (same ∙ may.other (λ e. cc))) tt
last-may Checking key header first held waiting values bound now a b may same opens taken =
    subst (λ o. Admits o b (joined values)) (sym (same ∙ may.other (λ e. cc))) tt
