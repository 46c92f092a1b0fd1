use Rattle.std.proofs.Common.{◌-◌, sym}
use Rattle.piece_core.proofs.RoomLemmas.{whole_of_parts}
use Rattle.piece_core.proofs.room.Room.into_bytes.Goals as goal

pub returns : goal.returns
returns c =
    let r = c.self.inside in
    rw (← c.self.view_is) (sym (whole_of_parts r.front r.size (r.count - 1) r.whole.items))
