use Rattle.std.proofs.Common.{length, sym}
use Rattle.archive.proofs.Beginnings.{begins, not_empty}
use Rattle.archive.proofs.begin.begin_in.Goals as goal

pub returns : goal.returns
returns g c =
    let p = not_empty (length c.args.nodes.now) (length c.args.versions.now) (sym c.if-is_empty.ensures) in
    rw (c.begun.ensures, c.lead.ensures) (begins g.Q.Summary.means c.args.nodes.now c.args.versions.now p.0 p.1)
