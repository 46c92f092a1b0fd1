use Rattle.std.proofs.Common.{rules, ◌≡◌, ◌+◌, ◌≤◌, ◌++◌, ◌∷◌, [], length, map, None, get_or, set, ap, ◌∙◌, arith, length-append, vec_capacity}
use Rattle.std.proofs.lemmas.List.Elements.{All-push}
use Rattle.worker_core.specs.Rooms.{shown}
use Rattle.worker_core.proofs.PlaceLemmas.{front_holds}
use Rattle.worker_core.proofs.SlotLemmas.{slots-front, placed-one, placed-all}
use Rattle.worker_core.proofs.filling.clear_slots.Goals as goal

pub clearing-preserved : goal.clearing-preserved
clearing-preserved g c =
    let before = c.clearing.invariant in
    let slots = c.clearing.slots.items in
    let front = c.pop.new.self.items in
    let last = c.in-Some.slot in
    let values = c.args.round.now.values in
    let is : slots ≡ front ++ last ∷ [] = c.in-Some.ensures.items in
    let long : length slots ≡ length front + 1 = ap length is ∙ length-append front (last ∷ []) in
    let number : c.piece_in-made.result.number ≡ length front = omega (arith, c.piece_in-made.ensures.number, before.number, long) in
    let piece = c.piece_in-made.result.piece in
    let shows : shown piece ≡ get_or values (length front) None =
    c.piece_in-made.ensures.piece ∙ ap (λ n. get_or values n None) (omega (arith, before.number, long)) in
    let wide : c.args.size ≤ vec_capacity c.exchange.result =
    rw c.exchange.ensures.room (before.each c.piece_in-made.result.number piece (search rules)) in
    record {
      number = omega (arith, before.number, long);
      few = omega (arith, before.few, long);
      slots = slots-front values slots front last is before.slots before.few;
      sizes = front_holds (λ e. e.size ≡ c.args.size) front (last ∷ []) (rw is at before.sizes);
      values = λ k least below.
          ap (λ l. get_or (map shown l) k None) (c.exchange.ensures.put ∙ ap (λ n. set c.clearing.pieces.items n piece) number)
          ∙ placed-one values c.clearing.pieces.items piece (length front) k (search rules) shows
          (λ behind. before.values k (omega (arith, behind, long)) below) least;
      capacity = search rules;
      places = search rules;
      each = search rules;
      empty = rw c.push_within.ensures.items
          (All-push (λ buffer. buffer.items ≡ []) c.clearing.spare.items c.exchange.result before.empty c.exchange.ensures.empty);
      room = rw c.push_within.ensures.items
          (All-push (λ buffer. c.args.size ≤ vec_capacity buffer) c.clearing.spare.items c.exchange.result before.room wide);
      count = search rules;
      list = search rules;
    }

pub returns-clause-values : goal.returns-clause-values
returns-clause-values g c =
    let before = c.clearing.invariant in
    let none : length c.clearing.slots.items ≡ 0 = search rules in
    placed-all c.args.round.now.values c.clearing.pieces.items (search rules) (λ k below. before.values k (omega (arith, none)) below)
