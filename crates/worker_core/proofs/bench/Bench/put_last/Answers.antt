use Rattle.std.proofs.Common.{◌≡◌, ◌+◌, ◌<◌, ◌≤◌, [], ◌∷◌, length, map, vec_capacity, vec_len, sym, ap, ◌∙◌, arith}
use Rattle.std.proofs.lemmas.List.{map-set, length_push}
use Rattle.std.proofs.lemmas.List.Elements.{All-push}
use Rattle.worker_core.specs.Rooms.{shown, made_view, HasRoom}
use Rattle.worker_core.proofs.PlaceLemmas.{front_holds, views_last, last_below}
use Rattle.worker_core.proofs.bench.Bench.put_last.Goals as goal

pub exchange-buffer-requires : goal.exchange-buffer-requires
exchange-buffer-requires c =
    let b = c.self.inside in
    last_below (vec_len c.args.places.now) b.made.items c.pop.new.self.items c.in-Some.made c.args.self.now.made
    c.in-Some.ensures.items
    (ap (λ v. v.made) c.self.view_is) c.requires.numbers

pub invariant_of-self-2 : goal.invariant_of-self-2
invariant_of-self-2 c =
    let b = c.self.inside in
    let last = c.in-Some.made in
    let buffer = c.exchange-buffer.result in
    let below = last_below (vec_len c.args.places.now) b.made.items c.pop.new.self.items last c.args.self.now.made
    c.in-Some.ensures.items (ap (λ v. v.made) c.self.view_is) c.requires.numbers in
    let inside : last.number < length c.args.places.now.items = omega (arith, c.args.places.now.ok.0) in
    let size : b.size ≡ c.args.self.now.size = ap (λ v. v.size) c.self.view_is in
    let wide : b.size ≤ vec_capacity buffer =
    rw (c.exchange-buffer.ensures.room, size) (c.requires.room last.number last.piece inside) in
    record {
      empty = rw c.push_within.ensures.items
          (All-push (λ spare. spare.items ≡ []) b.spare.items buffer c.self.invariant.empty
          c.exchange-buffer.ensures.empty);
      spare = rw c.push_within.ensures.items
          (All-push (λ spare. b.size ≤ vec_capacity spare) b.spare.items buffer c.self.invariant.spare wide);
      made = front_holds (λ made. HasRoom b.size made.piece) c.pop.new.self.items (last ∷ [])
          (rw c.in-Some.ensures.items at c.self.invariant.made);
      room = omega (arith, c.in-Some.ensures.cases, c.self.invariant.room);
      list = omega (arith, c.in-Some.ensures.cases, c.self.invariant.list, c.pop.ensures.capacity);
    }

pub returns-clause-put : goal.returns-clause-put
returns-clause-put c =
    let b = c.self.inside in
    let last = c.in-Some.made in
    let places = c.args.places.now.items in
    record {
      last = made_view last;
      made = ap (λ v. v.made) (sym c.self.view_is)
          ∙ views_last b.made.items c.pop.new.self.items last c.in-Some.ensures.items;
      spare = ap (λ l. length l) c.push_within.ensures.items ∙ length_push b.spare.items c.exchange-buffer.result
          ∙ ap (λ v. v.spare + 1) c.self.view_is;
      size = ap (λ v. v.size) c.self.view_is;
      values = ap (λ l. map shown l) c.exchange-buffer.ensures.put ∙ map-set shown places last.number last.piece;
    }
