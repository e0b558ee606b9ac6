use Rattle.std.proofs.Common.{◌≡◌, replicate, refl, ap, rules}
use Rattle.junction.specs.declared.stations.Station.{Station}
use Rattle.junction.specs.Making.{stations_made, board_made}
use Rattle.junction.proofs.Fresh.{made_as}
use Rattle.junction.proofs.Whole.{sound}
use Rattle.junction.proofs.state.Junction.make.Goals as goal
use Rattle.junction.proofs.state.Junction.make.Goals.{in-Ok, in-Err}

pub returns : goal.returns
returns g c =
    let size : c.match-room.stations ≡ stations_made c.args.stations c.room.result = elim c.match-room.branch [ in-Ok w ↦ search rules | in-Err w ↦ search rules ] in
    let board : c.match-room.board ≡ board_made g.B.Board.meaning c.args.board c.room.result = elim c.match-room.branch [ in-Ok w ↦ search rules | in-Err w ↦ search rules ] in
    let made = made_as g.D.Discipline.table g.B.Board.meaning c.args.discipline c.args.stations c.args.name c.args.board _ c.room.result c.room.ensures.finds refl size refl (ap (λ (s : Station). replicate 16 s) c.new.ensures) c.new-2.ensures board in
    record { made = made; safe = sound _ _ g.met.B.Board.lawful g.met.D.Discipline.apart c.args.discipline c.args.stations c.args.name c.args.board _ g.met.D.Discipline.holder g.met.D.Discipline.moving _ g.met.D.Discipline.ranged made }
