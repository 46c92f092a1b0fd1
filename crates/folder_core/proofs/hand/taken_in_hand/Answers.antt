use Rattle.folder_core.proofs.Taken.{hand_within}
use Rattle.folder_core.proofs.hand.taken_in_hand.Goals as goal

pub invariant_of-result : goal.invariant_of-result
invariant_of-result g c = record {
  same = c.requires.rest;
  reference = c.requires.reference;
  within = hand_within _ _ _ c.requires.rest (g.met.F.Outputs.sound c.args.folder.now);
}
