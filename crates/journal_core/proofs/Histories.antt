-- Histories that grow by an entry: their counts, their prefixes, and what every legal history preserves.
use Rattle.std.proofs.Common.{◌≡◌, ◌⊎◌, ℕ, ◌+◌, Bool, true, false, cond, nat_eq, List, [], ◌∷◌, ◌++◌, count_by, refl, sym, ap, ◌∙◌, subst, inl, inr, ⊎_elim, arith, append_assoc, append-nil, ◌<◌}
use Rattle.std.proofs.lemmas.List.Sums.{sum_by_push}
use Rattle.std.proofs.lemmas.List.Elements.{filter-append}
use Rattle.journal_core.specs.declared.entry.Event.{Event}
use Rattle.journal_core.specs.declared.entry.Event.TheVariants.{Granted, Exhausted, Settled}
use Rattle.journal_core.specs.declared.entry.Entry.{Entry}
use Rattle.journal_core.specs.History.{Terms, entry, granted, refused, calls_of, IsOpen, MayFollow, Legal, Begins}

-- the kinds of entry, by event
abbrev pub MayReply : Terms → List Entry → ℕ → Event → Type 0
MayReply terms before seat (Granted n) = (n ≡ terms.range.lo + granted before) × (granted before < terms.range.size) × (refused (calls_of seat before) ≡ 0)
MayReply terms before seat Exhausted = (granted before ≡ terms.range.size) × (refused (calls_of seat before) ≡ 0)
MayReply terms before seat (Settled n way) = IsOpen seat n before

reply_by : (terms : Terms) (before : List Entry) (seat : ℕ) (event : Event) → MayFollow terms before (entry seat event) → MayReply terms before seat event
reply_by terms before seat (Granted n) may = (may.number.0, may.number.1, may.closed)
reply_by terms before seat Exhausted may = (may.exhausted, may.closed)
reply_by terms before seat (Settled n way) may = may.settled

pub reply_of : (terms : Terms) (before : List Entry) (e : Entry) → MayFollow terms before e → MayReply terms before e.seat e.event
reply_of terms before e may = reply_by terms before e.seat e.event may

follows_by : (terms : Terms) (before : List Entry) (seat : ℕ) (event : Event) → seat < terms.seats → MayReply terms before seat event → MayFollow terms before (entry seat event)
follows_by terms before seat (Granted n) s r = record { seat = s; number = (r.0, r.1); exhausted = tt; closed = r.2; settled = tt }
follows_by terms before seat Exhausted s r = record { seat = s; number = tt; exhausted = r.0; closed = r.1; settled = tt }
follows_by terms before seat (Settled n way) s r = record { seat = s; number = tt; exhausted = tt; closed = tt; settled = r }

pub follows : (terms : Terms) (before : List Entry) (e : Entry) → e.seat < terms.seats → MayReply terms before e.seat e.event → MayFollow terms before e
follows terms before e s r = follows_by terms before e.seat e.event s r

-- one more entry

pub count_push : (p : Entry → Bool) (history : List Entry) (e : Entry) → count_by p (history ++ e ∷ []) ≡ count_by p history + cond (p e) 1 0
count_push p history e = sum_by_push (λ x. cond (p x) 1 0) history e

pub calls_push : (t : ℕ) (history : List Entry) (e : Entry) → calls_of t (history ++ e ∷ []) ≡ calls_of t history ++ cond (nat_eq e.seat t) (e ∷ []) []
calls_push t history e = filter-append (λ x. nat_eq x.seat t) history (e ∷ [])

pub count_calls : (p : Entry → Bool) (t : ℕ) (history : List Entry) (e : Entry) → count_by p (calls_of t (history ++ e ∷ [])) ≡ count_by p (calls_of t history) + cond (nat_eq e.seat t) (cond (p e) 1 0) 0
count_calls p t history e = ap (count_by p) (calls_push t history e) ∙ go (nat_eq e.seat t)
  where
    go : (b : Bool) → count_by p (calls_of t history ++ cond b (e ∷ []) []) ≡ count_by p (calls_of t history) + cond b (cond (p e) 1 0) 0
    go true = count_push p (calls_of t history) e
    go false = ap (count_by p) (append-nil (calls_of t history)) ∙ omega arith

-- prefixes

pub begins_refl : (xs : List Entry) → Begins xs xs
begins_refl xs = ([], sym (append-nil xs))

pub begins_more : (xs ys zs : List Entry) → Begins xs ys → Begins xs (ys ++ zs)
begins_more xs ys zs b = (b.0 ++ zs, ap (λ l. l ++ zs) b.1 ∙ append_assoc xs b.0 zs)

pub begins_trans : (xs ys zs : List Entry) → Begins xs ys → Begins ys zs → Begins xs zs
begins_trans xs ys zs b c = (b.0 ++ c.0, c.1 ∙ ap (λ l. l ++ c.0) b.1 ∙ append_assoc xs b.0 c.0)

-- legality

pub legal_front : (terms : Terms) (xs ys : List Entry) → Legal terms (xs ++ ys) → Legal terms xs
legal_front terms xs ys legal before e behind is = legal before e (behind ++ ys) (ap (λ l. l ++ ys) is ∙ append_assoc before (e ∷ behind) ys)

split_last : (history before behind : List Entry) (x e : Entry) → history ++ x ∷ [] ≡ before ++ e ∷ behind → ((before ≡ history) × (e ≡ x)) ⊎ ((rest : List Entry) × (history ≡ before ++ e ∷ rest))
split_last [] [] behind x e is = inl (refl, cc)
split_last [] (b ∷ []) behind x e is = absurd (cc)
split_last [] (b ∷ c ∷ bs) behind x e is = absurd (cc)
split_last (l ∷ ls) [] behind x e is = inr (ls, cc)
split_last (l ∷ ls) (b ∷ bs) behind x e is =
    let head : l ≡ b = cc in
    let tail : ls ++ x ∷ [] ≡ bs ++ e ∷ behind = cc in
    ⊎_elim
    (λ (s : (bs ≡ ls) × (e ≡ x)). inl ((λ i. sym head i ∷ s.0 i), s.1))
    (λ (s : (rest : List Entry) × (ls ≡ bs ++ e ∷ rest)). inr (s.0, λ i. head i ∷ s.1 i))
    (split_last ls bs behind x e tail)

pub legal_push : (terms : Terms) (history : List Entry) (x : Entry) → Legal terms history → MayFollow terms history x → Legal terms (history ++ x ∷ [])
legal_push terms history x legal may before e behind is =
    ⊎_elim
    (λ (s : (before ≡ history) × (e ≡ x)). subst (λ (z : List Entry × Entry). MayFollow terms z.0 z.1) (λ i. (sym s.0 i, sym s.1 i)) may)
    (λ (s : (rest : List Entry) × (history ≡ before ++ e ∷ rest)). legal before e s.0 s.1)
    (split_last history before behind x e is)

pub legal_none : (terms : Terms) → Legal terms []
legal_none terms [] e behind is = absurd (cc)
legal_none terms (b ∷ bs) e behind is = absurd (cc)

module _ (terms : Terms) (P : List Entry → Type 0) (start : P []) (grow : (history : List Entry) (e : Entry) → MayFollow terms history e → P history → P (history ++ e ∷ [])) where
  onwards : (before rest : List Entry) → P before → Legal terms (before ++ rest) → P (before ++ rest)
  onwards before [] p legal = subst P (sym (append-nil before)) p
  onwards before (e ∷ rest) p legal =
      subst P (append_assoc before (e ∷ []) rest)
      (onwards (before ++ e ∷ []) rest (grow before e (legal before e rest refl) p) (subst (Legal terms) (sym (append_assoc before (e ∷ []) rest)) legal))

  pub induct : (history : List Entry) → Legal terms history → P history
  induct history legal = onwards [] history start legal
