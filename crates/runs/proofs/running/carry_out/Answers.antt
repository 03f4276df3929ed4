use Rattle.std.proofs.Common.{sym, ◌∙◌}
use Rattle.runs.proofs.Beginnings.{carried}
use Rattle.runs.proofs.running.carry_out.Goals as goal

pub returns : goal.returns
returns g c =
    let back = c.nodes-1.given.1.1 (sym (c.carry_on-done.ensures.same_slice ∙ c.begin-table.ensures.same_slice)) in
    record {
      carried = carried g.Q.Summary.means g.met.Q.Summary.lawful g.S.BlockStore c.args.nodes.now _ _ c.args.versions.now _ c.carry_on-done.new.versions (record { used = c.begin-table.result.used; count = c.begin-table.result.count })
          c.args.store.now c.carry_on-done.new.store c.args.readings.now c.args.calls.now c.args.out.now c.carry_on-done.new.out c.args.replies.now c.carry_on-done.new.replies
          c.carry_on-done.result _ _ _ _ _ (back ∙ c.drop-table.ensures) c.used.ensures c.count.ensures c.begin-table.ensures.begun c.carry_on-done.ensures.done c.carry_on-done.ensures.rest c.carry_on-done.ensures.carried;
    }
